-- That octets which are given are octets; and texts, computed by the definitions.
use Rattle.std.proofs.Common.{◌≡◌, ℕ, List, [], ◌∷◌, codes, Bool, true, false, if◌then◌else◌, Result, Ok, Err, IfOk, inl, inr, ap, refl, subst, arith}
use Rattle.std.specs.List.{slice_split}
use Rattle.hex.specs.Hex.{decode_of}
use Rattle.hex.proofs.HexLemmas.{decode_of-ok}
use Rattle.hex.proofs.OnLiterals.{hex_on_literals}
use Rattle.octet_core.specs.Octets.{AreOctets}
use Rattle.octet_core.proofs.Lists.{octets-append}
use Rattle.dumps.specs.Dump.{dump_octets}
use Rattle.dumps.specs.Dump as dumps
use Rattle.dumps.specs.Source.{source_octets}
use Rattle.dumps.specs.declared.fault.DumpFault.{DumpFault}
use Rattle.dumps.specs.declared.fault.DumpFault.TheVariants as dump
use Rattle.dumps.proofs.Octets.{dump-octets}
use Rattle.dumps.proofs.SourceOctets.{source-octets}
use Rattle.program_words.specs.Given.{octets_given, of_dump, GivesOctets, IsAsRead}
use Rattle.octet_core.specs.Words.{is_blank}
use Rattle.program_words.specs.Loose.{digits_of, group_octets, grouped_octets, is_none_alone, loose_octets}
use Rattle.program_words.specs.Value.{all_said, UnlessMemory}
use Rattle.program_words.specs.declared.fault.Fault.{Fault}
use Rattle.program_words.specs.declared.fault.Fault.TheVariants.{Hex}
use Rattle.program_words.specs.declared.given.Form.TheVariants as form
use Rattle.program_words.specs.declared.given.OctetSource.{OctetSource}
use Rattle.program_words.specs.declared.given.OctetSource.TheVariants.{Word, Read}
use Rattle.program_words.proofs.Requests.{both-steps, read-hex, same}

-- ---- octets

groups-octets : (groups : List (List ℕ)) (octets : List ℕ) → all_said group_octets groups ≡ Ok octets
    → AreOctets octets
groups-octets [] octets h = subst AreOctets (same [] octets h) (λ i. omega arith)
groups-octets (group ∷ groups) octets h =
    let one = both-steps (group_octets group) _ octets h in
    let more = both-steps (all_said group_octets groups) _ octets one.2 in
    let first = (decode_of-ok (digits_of group) one.0 (read-hex (decode_of (digits_of group)) one.0 one.1)).3 in
    subst AreOctets (same _ octets more.2)
    (octets-append one.0 more.0 first (groups-octets groups more.0 more.1))

grouped-octets : (text octets : List ℕ) → grouped_octets text ≡ Ok octets → AreOctets octets
grouped-octets text octets h = groups-octets (slice_split is_blank text) octets h

none-or-grouped : (b : Bool) (text octets : List ℕ) → (if b then Ok [] else grouped_octets text) ≡ Ok octets
    → AreOctets octets
none-or-grouped true text octets h = subst AreOctets (same [] octets h) (λ i. omega arith)
none-or-grouped false text octets h = grouped-octets text octets h

loose-octets : (text octets : List ℕ) → loose_octets text ≡ Ok octets → AreOctets octets
loose-octets text octets h = none-or-grouped (is_none_alone text) text octets h

loosely : (r : Result (List ℕ) Fault) → ((octets : List ℕ) → r ≡ Ok octets → AreOctets octets) → IfOk r AreOctets
loosely (Ok octets) h = h octets refl
loosely (Err fault) h = tt

read-dump : (r : Result (List ℕ) DumpFault) → ((octets : List ℕ) → r ≡ Ok octets → AreOctets octets)
    → IfOk (of_dump r) AreOctets
read-dump (Ok octets) h = h octets refl
read-dump (Err dump.Form) h = tt
read-dump (Err dump.Memory) h = tt

-- what reading a dump gave is what the dump gives, or memory ran out
pub dumped : (read expected : Result (List ℕ) DumpFault) (result : Result (List ℕ) Fault) → result ≡ of_dump read
    → dumps.UnlessMemory read expected → UnlessMemory result (of_dump expected)
dumped read expected result is (inl memory) = inl (rw (is, memory) refl)
dumped read expected result is (inr same_as) = inr (rw is (ap of_dump same_as))

-- the octets that are given are octets, where those of a word are, and those that are taken as they are read
pub octets-given : (given : OctetSource) (file : Result (List ℕ) Fault) → GivesOctets given
    → (IsAsRead given → IfOk file AreOctets) → IfOk (octets_given given file) AreOctets
octets-given (Word octets) file h as_read = h
octets-given (Read form.Hex) (Ok text) h as_read = loosely (loose_octets text) (loose-octets text)
octets-given (Read form.Octets) (Ok text) h as_read = as_read tt
octets-given (Read form.Dump) (Ok text) h as_read = read-dump (dump_octets text) (dump-octets text)
octets-given (Read form.Source) (Ok text) h as_read = read-dump (source_octets text) (source-octets text)
octets-given (Read form) (Err fault) h as_read = tt

-- ---- rows

in-groups : loose_octets (codes "3B 80 80\n01 01") ≡ Ok (59 ∷ 128 ∷ 128 ∷ 1 ∷ 1 ∷ [])
unfolding hex_on_literals
in-groups = refl

marked : loose_octets (codes "0x3b80\t0X01\r\n\r\n") ≡ Ok (59 ∷ 128 ∷ 1 ∷ [])
unfolding hex_on_literals
marked = refl

nothing : loose_octets (codes " \n") ≡ Ok []
unfolding hex_on_literals
nothing = refl

none-alone : loose_octets (codes " none\n") ≡ Ok []
unfolding hex_on_literals
none-alone = refl

none-with-more : loose_octets (codes "none 3B") ≡ Err Hex
unfolding hex_on_literals
none-with-more = refl

-- digits pair within a group
half-an-octet : loose_octets (codes "3 B") ≡ Err Hex
unfolding hex_on_literals
half-an-octet = refl

-- a mark alone says nothing, nor does one that follows digits
mark-alone : loose_octets (codes "3B 0x") ≡ Err Hex
unfolding hex_on_literals
mark-alone = refl

mark-inside : loose_octets (codes "3B0x80") ≡ Err Hex
unfolding hex_on_literals
mark-inside = refl
