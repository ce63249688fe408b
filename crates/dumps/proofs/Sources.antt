-- How a source is read, one character after another.
use Rattle.std.proofs.Common.{◌≡◌, ◌∙◌, ◌++◌, ◌&&◌, ℕ, List, [], ◌∷◌, Bool, true, false, Option, Some, None, Result, Ok, Err, refl, ap, sym, append_assoc, ◌≤◌, ◌-◌, length, take, drop, slice_index, arith, if◌then◌else◌}
use Rattle.std.proofs.lemmas.List.{take_all}
use Rattle.dumps.specs.Dump.{◌>>=◌}
use Rattle.dumps.specs.Source.{and_then, ended, is_one_way, last_octets, may_end_at, octets_from, those, turn_at, Turn}
use Rattle.dumps.specs.declared.fault.DumpFault.{DumpFault}
use Rattle.dumps.specs.declared.fault.DumpFault.TheVariants.{Form}
use Rattle.dumps.specs.declared.turn.Now.{Now}

-- octets that were read, and then those of the rest
abbrev pub after : List ℕ → Result (List ℕ) DumpFault → Result (List ℕ) DumpFault
after octets rest = rest >>= (λ more. Ok (octets ++ more))

abbrev done : List ℕ → Result (List ℕ) DumpFault
done octets = Ok octets

more-read : (octets longer one : List ℕ) (rest : Result (List ℕ) DumpFault) → longer ≡ octets ++ one
    → after octets (rest >>= (λ more. Ok (one ++ more))) ≡ after longer rest
more-read octets longer one (Ok more) is = rw (is, append_assoc) refl
more-read octets longer one (Err fault) is = refl

-- a character was read
pub turned : (octets longer : List ℕ) (now next : Now) (octet : Option ℕ) (x : ℕ) (text : List ℕ)
    (all : Result (List ℕ) DumpFault) → turn_at now.place now x ≡ Some (next, octet)
    → longer ≡ octets ++ those octet → after octets (octets_from now (x ∷ text)) ≡ all
    → after longer (octets_from next text) ≡ all
turned octets longer now next octet x text all e is kept =
    let one : octets_from now (x ∷ text) ≡ and_then (Some (next, octet)) (λ n. octets_from n text) =
    ap (λ (t : Turn). and_then t (λ n. octets_from n text)) e in
    sym (more-read octets longer (those octet) (octets_from next text) is) ∙ ap (after octets) (sym one) ∙ kept

-- a character that doesn't go on the text
pub refused : (octets : List ℕ) (now : Now) (x : ℕ) (text : List ℕ) (all : Result (List ℕ) DumpFault)
    → turn_at now.place now x ≡ None → after octets (octets_from now (x ∷ text)) ≡ all → Err Form ≡ all
refused octets now x text all e kept =
    let one : octets_from now (x ∷ text) ≡ Err Form = ap (λ (t : Turn). and_then t (λ n. octets_from n text)) e in
    ap (after octets) (sym one) ∙ kept

-- the end
pub last-read : (octets longer : List ℕ) (now last : Now) (octet : Option ℕ) (may : Bool)
    (all : Result (List ℕ) DumpFault) → ended now ≡ Some (last, octet) → longer ≡ octets ++ those octet
    → may ≡ may_end_at last.place && is_one_way last.writing last → after octets (octets_from now []) ≡ all
    → (if may then Ok longer else Err Form) ≡ all
last-read octets longer now last octet may all e is may_is kept =
    let one : octets_from now [] ≡ (if may then Ok (those octet) else Err Form) =
    ap last_octets e ∙ ap (λ (b : Bool). let r : Result (List ℕ) DumpFault =
    (if b then Ok (those octet) else Err Form) in r) (sym may_is) in
    sym (go may) ∙ ap (after octets) (sym one) ∙ kept
  where
    go : (b : Bool) → after octets (if b then Ok (those octet) else Err Form) ≡ (if b then Ok longer else Err Form)
    go true = ap done (sym is)
    go false = refl

pub none-last : (octets : List ℕ) (now : Now) (all : Result (List ℕ) DumpFault) → ended now ≡ None
    → after octets (octets_from now []) ≡ all → Err Form ≡ all
none-last octets now all e kept =
    let one : octets_from now [] ≡ Err Form = ap last_octets e in ap (after octets) (sym one) ∙ kept

-- before the first
pub at-start : (rest : Result (List ℕ) DumpFault) → after [] rest ≡ rest
at-start (Ok more) = refl
at-start (Err fault) = refl

-- the first character of what is left was read
pub turned-first : (octets longer : List ℕ) (now next : Now) (octet : Option ℕ) (rest : List ℕ)
    (all : Result (List ℕ) DumpFault) → 1 ≤ length rest
    → turn_at now.place now (slice_index rest 0) ≡ Some (next, octet) → longer ≡ octets ++ those octet
    → after octets (octets_from now rest) ≡ all
    → after longer (octets_from next (take (length rest - 1) (drop 1 rest))) ≡ all
turned-first octets longer now next octet [] all some e is kept = absurd (omega arith)
turned-first octets longer now next octet (x ∷ text) all some e is kept =
    let same : take (length (x ∷ text) - 1) text ≡ text = take_all (length (x ∷ text) - 1) text (omega arith) in
    rw same (turned octets longer now next octet x text all e is kept)
