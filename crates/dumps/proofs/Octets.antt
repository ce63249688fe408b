-- That what a text gives are octets.
use Rattle.std.proofs.Common.{◌≡◌, ◌<◌, ◌≤◌, ◌++◌, ◌==◌, ◌&&◌, ◌||◌, ◌+◌, ◌*◌, ◌-◌, ◌/◌, ◌%◌, not, nat_le, ℕ, zero, suc, List, [], ◌∷◌, Bool, true, false, Option, Some, None, Result, Ok, Err, refl, ap, subst, length, drop, take, arith, if◌then◌else◌}
use Rattle.std.proofs.lemmas.Bool.Decides.{nat_tests}
use Rattle.std.specs.Result.{result_unwrap_or}
use Rattle.octet_core.specs.Octets.{AreOctets}
use Rattle.octet_core.proofs.Lists.{octets-append}
use Rattle.std.specs.List.{slice_split}
use Rattle.dumps.specs.Characters.{after_blanks, digit, groups, is_pair, is_within, joined_to, octet_at}
use Rattle.std.specs.Str.{bytes_eq}
use Rattle.dumps.specs.Editor.{addressed, tabbed}
use Rattle.dumps.specs.Bases.{offset_from}
use Rattle.dumps.specs.declared.base.Base.{Base}
use Rattle.dumps.specs.declared.base.Base.TheVariants.{Hexadecimal, Decimal, Octal, Headed}
use Rattle.dumps.specs.Dump.{◌>>=◌, agree, bare_row, copies, dump_octets, field_end, fielded, found, given, is_heading, is_next, may_be_gdb, row_after, with_address, is_line_end, is_none, is_offset, is_row, line_of, may_end, nothing_taken, octets_by, repeated, start_of, row_groups, row_of, starred, up_to, with_before, with_line, with_lines, with_octets, with_offset, with_rest, with_row, Taken}
use Rattle.dumps.specs.declared.fault.DumpFault.{DumpFault}
use Rattle.dumps.specs.declared.fault.DumpFault.TheVariants.{Form}
use Rattle.dumps.specs.declared.line.Before.{Before}
use Rattle.dumps.specs.declared.line.Before.TheVariants as before
use Rattle.dumps.specs.declared.row.Style.{Style}
use Rattle.dumps.specs.declared.row.Style.TheVariants as style

digit-by : (x : ℕ) (a b c : Bool) → is_within 48 57 x ≡ a → is_within 65 70 x ≡ b → is_within 97 102 x ≡ c
    → (if a then x - 48 else (if b then x - 55 else (if c then x - 87 else 16))) ≤ 16
digit-by x true b c ha hb hc = grind (arith, nat_tests)
digit-by x false true c ha hb hc = grind (arith, nat_tests)
digit-by x false false true ha hb hc = grind (arith, nat_tests)
digit-by x false false false ha hb hc = omega arith

pub digit-most : (x : ℕ) → digit x ≤ 16
digit-most x = digit-by x (is_within 48 57 x) (is_within 65 70 x) (is_within 97 102 x) refl refl refl

digits-octet : (a b : ℕ) → a ≤ 16 → b ≤ 16 → not (a == 16) && not (b == 16) ≡ true → a * 16 + b < 256
digits-octet a b ha hb h = grind (arith, nat_tests)

pub pair-octet : (x y : ℕ) → is_pair x y ≡ true → octet_at x y < 256
pair-octet x y h = digits-octet (digit x) (digit y) (digit-most x) (digit-most y) h

pub one-octet : (octet : ℕ) → octet < 256 → AreOctets (octet ∷ [])
one-octet octet h zero = h
one-octet octet h (suc i) = omega arith

pub no-octets : AreOctets []
no-octets i = omega arith

-- ---- groups

two-octets : (blank may_begin pair joins : Bool) (x y : ℕ) (more : List ℕ) → is_pair x y ≡ pair
    → AreOctets (groups joins true (y ∷ more)).0 → AreOctets (groups joins false more).0
    → AreOctets (let read : List ℕ × List ℕ = (if blank then groups joins true (y ∷ more)
    else (if may_begin && pair then joined_to (octet_at x y ∷ []) (groups joins false more)
    else ([], x ∷ y ∷ more))) in read.0)
two-octets true may_begin pair joins x y more e after_blank after_octet = after_blank
two-octets false true true joins x y more e after_blank after_octet =
    octets-append (octet_at x y ∷ []) (groups joins false more).0 (one-octet (octet_at x y) (pair-octet x y e))
    after_octet
two-octets false true false joins x y more e after_blank after_octet = no-octets
two-octets false false pair joins x y more e after_blank after_octet = no-octets

last-octets : (blank : Bool) (x : ℕ)
    → AreOctets (let read : List ℕ × List ℕ = (if blank then ([], []) else ([], x ∷ [])) in read.0)
last-octets true x = no-octets
last-octets false x = no-octets

pub groups-octets : (joins spaced : Bool) (text : List ℕ) → AreOctets (groups joins spaced text).0
groups-octets joins spaced [] = no-octets
groups-octets joins spaced (x ∷ []) = last-octets (not spaced && x == 32) x
groups-octets joins spaced (x ∷ y ∷ more) =
    two-octets (not spaced && x == 32) (spaced || joins) (is_pair x y) joins x y more refl
    (groups-octets joins true (y ∷ more)) (groups-octets joins false more)

last-of : (a b : Bool) → a && b ≡ true → b ≡ true
last-of true b h = h
last-of false b h = cc h

tabbed-tested : (t a b c : Bool) (x y : ℕ) (more rest : List ℕ) → a && (b && (c && is_pair x y)) ≡ t
    → AreOctets (tabbed more).0
    → AreOctets (let read : List ℕ × List ℕ = (if t then joined_to (octet_at x y ∷ []) (tabbed more) else ([], rest))
    in read.0)
tabbed-tested true a b c x y more rest e are =
    octets-append (octet_at x y ∷ []) (tabbed more).0 (one-octet (octet_at x y) (pair-octet x y
    (last-of c (is_pair x y) (last-of b (c && is_pair x y) (last-of a (b && (c && is_pair x y)) e))))) are
tabbed-tested false a b c x y more rest e are = no-octets

tabbed-octets : (text : List ℕ) → AreOctets (tabbed text).0
tabbed-octets (t ∷ z ∷ m ∷ x ∷ y ∷ more) =
    tabbed-tested (t == 9 && (z == 48 && (m == 120 && is_pair x y))) (t == 9) (z == 48) (m == 120) x y more
    (t ∷ z ∷ m ∷ x ∷ y ∷ more) refl (tabbed-octets more)
tabbed-octets [] = no-octets
tabbed-octets (t ∷ []) = no-octets
tabbed-octets (t ∷ z ∷ []) = no-octets
tabbed-octets (t ∷ z ∷ m ∷ []) = no-octets
tabbed-octets (t ∷ z ∷ m ∷ x ∷ []) = no-octets

-- ---- rows

halves-octets : (b : Bool) (first : List ℕ × List ℕ) → AreOctets first.0
    → AreOctets (let read : List ℕ × List ℕ =
    (if b then joined_to first.0 (groups false false first.1) else first) in read.0)
halves-octets true first h = octets-append first.0 (groups false false first.1).0 h
    (groups-octets false false first.1)
halves-octets false first h = h

field-octets : (text : List ℕ) (read : List ℕ × List ℕ) → AreOctets read.0 → AreOctets (fielded text read).0
field-octets text read h = go (is_none (after_blanks read.1))
  where
    go : (b : Bool) → AreOctets (let r : List ℕ × List ℕ =
        (if b then (read.0, drop (field_end text) text) else ([], text)) in r.0)
    go true = h
    go false = no-octets

row-groups-octets : (style : Style) (text : List ℕ) → AreOctets (row_groups style text).0
row-groups-octets style.Xxd text = groups-octets true true text
row-groups-octets style.Od text = groups-octets false true text
row-groups-octets style.Wireshark text = groups-octets false true text
row-groups-octets style.Bare text = groups-octets false true text
row-groups-octets style.Editor text = field-octets text (groups false true (take (field_end text) text))
    (groups-octets false true (take (field_end text) text))
row-groups-octets style.Gdb text = tabbed-octets text
row-groups-octets style.Hexdump text = halves-octets (length (groups false true text).0 == 8) (groups false true text)
    (groups-octets false true text)

-- ---- lines

-- where two steps come to a value, the first comes to one, and from that the second to this
pub both-steps : {A B : Type 0} (r : Result A DumpFault) (f : A → Result B DumpFault) (b : B) → r >>= f ≡ Ok b
    → (a : A) × (r ≡ Ok a) × (f a ≡ Ok b)
both-steps (Ok a) f b h = (a, refl, h)
both-steps (Err e) f b h = cc h

abbrev read_as : {A : Type 0} → A → Result A DumpFault
read_as a = Ok a

-- what came to the same has the same value
pub same : {A : Type 0} (a b : A) → read_as a ≡ read_as b → a ≡ b
same {A = A} a b h = ap (λ (r : Result A DumpFault). result_unwrap_or r b) h

-- where a test is a condition of a value, the value is what follows if it holds
pub tested : {A : Type 0} (b : Bool) (x : Result A DumpFault) (a : A) → (if b then x else Err Form) ≡ Ok a → x ≡ Ok a
tested true x a h = h
tested false x a h = cc h

row-octets : (style : Style) (text row : List ℕ) → row_of style text ≡ Ok row → AreOctets row
row-octets style text row h =
    subst AreOctets (same (row_groups style text).0 row
    (tested (is_row style (row_groups style text)) (Ok (row_groups style text).0) row h))
    (row-groups-octets style text)

copies-octets : (count : ℕ) (row : List ℕ) → AreOctets row → AreOctets (copies count row)
copies-octets zero row h = no-octets
copies-octets (suc count) row h = octets-append row (copies count row) h (copies-octets count row h)

abbrev pub IsProper : Taken → Type 0
IsProper taken = AreOctets taken.octets × AreOctets taken.row

there-octets : (at : ℕ) (taken : Taken) (octets : List ℕ) → IsProper taken
    → (if is_next at taken then Ok taken.octets else Err Form) ≡ Ok octets → AreOctets octets
there-octets at taken octets proper h =
    subst AreOctets (same taken.octets octets (tested (is_next at taken) (Ok taken.octets) octets h)) proper.0

up-to-octets : (at : ℕ) (b : Before) (taken : Taken) (octets : List ℕ) → IsProper taken
    → up_to at b taken ≡ Ok octets → AreOctets octets
up-to-octets at before.Star taken octets proper h =
    let more : ℕ = at - taken.start - length taken.octets in
    let all : repeated more taken ≡ Ok octets =
    tested (nat_le (at - taken.start) 4194304) (repeated more taken) octets h in
    subst AreOctets (same (taken.octets ++ copies (more / 16) taken.row) octets
    (tested (nat_le 1 more && more % 16 == 0) (Ok (taken.octets ++ copies (more / 16) taken.row)) octets all))
    (octets-append taken.octets (copies (more / 16) taken.row) proper.0
    (copies-octets (more / 16) taken.row proper.1))
up-to-octets at before.End taken octets proper h = cc h
up-to-octets at before.Nothing taken octets proper h = there-octets at taken octets proper h
up-to-octets at before.Heading taken octets proper h = there-octets at taken octets proper h
up-to-octets at (before.Row style.Gdb) taken octets proper h = cc h
up-to-octets at (before.Row style.Editor) taken octets proper h = there-octets at taken octets proper h
up-to-octets at (before.Row style.Bare) taken octets proper h = cc h
up-to-octets at (before.Row style.Xxd) taken octets proper h = there-octets at taken octets proper h
up-to-octets at (before.Row style.Hexdump) taken octets proper h = there-octets at taken octets proper h
up-to-octets at (before.Row style.Od) taken octets proper h = there-octets at taken octets proper h
up-to-octets at (before.Row style.Wireshark) taken octets proper h = there-octets at taken octets proper h

with-row-proper : (taken : Taken) (found : Option (Style × List ℕ)) (next : Taken)
    → AreOctets taken.octets → with_row taken found ≡ Ok next → IsProper next
with-row-proper taken (Some found) next are h =
    let row = both-steps (row_of found.0 found.1) _ next h in
    let is : AreOctets row.0 = row-octets found.0 found.1 row.0 row.1 in
    subst IsProper (same _ next row.2) (octets-append taken.octets row.0 are is, is)
with-row-proper taken None next are h = cc h

with-rest-proper : (taken : Taken) (digits : ℕ) (text : List ℕ) (next : Taken)
    → IsProper taken → with_rest taken digits text ≡ Ok next → IsProper next
with-rest-proper taken digits [] next proper h = subst IsProper (same _ next h) proper
with-rest-proper taken digits (x ∷ text) next proper h =
    with-row-proper taken (row_after taken.base digits taken.before (x ∷ text)) next proper.0 h

with-offset-proper : (digits at : ℕ) (text : List ℕ) (taken next : Taken) → IsProper taken
    → with_offset digits (at, text) taken ≡ Ok next → IsProper next
with-offset-proper digits at text taken next proper h =
    let octets = both-steps (up_to at taken.before taken) _ next (tested (is_offset digits text taken.before) _ next h)
    in
    with-rest-proper (with_octets octets.0 taken) digits text next
    (up-to-octets at taken.before taken octets.0 proper octets.1, proper.1) octets.2

line-proper : (line : List ℕ) (taken next : Taken) → IsProper taken → line_of line taken ≡ Ok next → IsProper next
line-proper line taken next proper h =
    let read : ℕ × List ℕ = offset_from taken.base 0 line in
    with-offset-proper (length line - length read.1) read.0 read.1 taken next proper h

whole-proper : (taken next : Taken) → IsProper taken
    → (if length taken.row == 16 then Ok (with_before before.Star taken) else Err Form) ≡ Ok next
    → IsProper next
whole-proper taken next proper h = subst IsProper (same _ next (tested (length taken.row == 16) _ next h)) proper

starred-proper : (b : Before) (taken next : Taken) → IsProper taken → starred b taken ≡ Ok next → IsProper next
starred-proper (before.Row style.Bare) taken next proper h = cc h
starred-proper (before.Row style.Editor) taken next proper h = cc h
starred-proper (before.Row style.Gdb) taken next proper h = cc h
starred-proper before.Heading taken next proper h = cc h
starred-proper (before.Row style.Xxd) taken next proper h = whole-proper taken next proper h
starred-proper (before.Row style.Hexdump) taken next proper h = whole-proper taken next proper h
starred-proper (before.Row style.Od) taken next proper h = whole-proper taken next proper h
starred-proper (before.Row style.Wireshark) taken next proper h = whole-proper taken next proper h
starred-proper before.Nothing taken next proper h = cc h
starred-proper before.Star taken next proper h = cc h
starred-proper before.End taken next proper h = cc h

address-proper : (found : Option (ℕ × List ℕ)) (line : List ℕ) (taken next : Taken) → IsProper taken
    → with_address found line taken ≡ Ok next → IsProper next
address-proper (Some (at, text)) line taken next proper h =
    with-row-proper taken (Some (style.Gdb, text)) next proper.0
    (tested (may_be_gdb taken.before && is_next at taken) (with_row taken (Some (style.Gdb, text))) next h)
address-proper None line taken next proper h = line-proper line taken next proper h

any-line-proper : (heading blank star : Bool) (x : ℕ) (line : List ℕ) (taken next : Taken) → IsProper taken
    → (if heading then Ok (with_before before.Heading taken)
    else (if blank then with_row taken (bare_row taken.before line)
    else (if star then starred taken.before taken
    else with_address (addressed (x ∷ line)) (x ∷ line) taken))) ≡ Ok next → IsProper next
any-line-proper true blank star x line taken next proper h = subst IsProper (same _ next h) proper
any-line-proper false true star x line taken next proper h =
    with-row-proper taken (bare_row taken.before line) next proper.0 h
any-line-proper false false true x line taken next proper h = starred-proper taken.before taken next proper h
any-line-proper false false false x line taken next proper h =
    address-proper (addressed (x ∷ line)) (x ∷ line) taken next proper h

with-line-proper : (line : List ℕ) (taken next : Taken) → IsProper taken → with_line taken line ≡ Ok next
    → IsProper next
with-line-proper [] taken next proper h = subst IsProper (same taken next h) proper
with-line-proper (x ∷ line) taken next proper h =
    any-line-proper (is_heading taken.base taken.before (x ∷ line)) (x == 32) (x == 42 && is_none line) x line taken
    next proper h

with-lines-proper : (lines : List (List ℕ)) (taken last : Taken) → IsProper taken → with_lines taken lines ≡ Ok last
    → IsProper last
with-lines-proper [] taken last proper h = subst IsProper (same taken last h) proper
with-lines-proper (line ∷ lines) taken last proper h =
    let next = both-steps (with_line taken line) _ last h in
    with-lines-proper lines next.0 last (with-line-proper line taken next.0 proper next.1) next.2

by-octets : (base : Base) (text octets : List ℕ) → octets_by base text ≡ Ok octets → AreOctets octets
by-octets base text octets h =
    let first : Taken = nothing_taken base (start_of base text) in
    let last = both-steps (with_lines first (slice_split is_line_end text)) _ octets h in
    let proper : IsProper last.0 =
    with-lines-proper (slice_split is_line_end text) first last.0 (no-octets, no-octets) last.1 in
    subst AreOctets (same last.0.octets octets
    (tested (nat_le (length last.0.octets) 4194304 && may_end last.0.before) (Ok last.0.octets) octets last.2))
    proper.0

-- ---- readings

abbrev GivesOctets : Option (List ℕ) → Type 0
GivesOctets (Some octets) = AreOctets octets
GivesOctets None = Unit {0}

given-octets : (r : Result (List ℕ) DumpFault) → ((octets : List ℕ) → r ≡ Ok octets → AreOctets octets)
    → GivesOctets (given r)
given-octets (Ok octets) h = h octets refl
given-octets (Err fault) h = tt

kept-octets : (b : Bool) (octets : List ℕ) (all : Option (List ℕ)) → AreOctets octets
    → (if b then Ok (Some octets) else Err Form) ≡ Ok all → GivesOctets all
kept-octets b octets all are h =
    subst GivesOctets (same (Some octets) all (tested b (Ok (Some octets)) all h)) are

agree-octets : (first second all : Option (List ℕ)) → GivesOctets first → GivesOctets second
    → agree first second ≡ Ok all → GivesOctets all
agree-octets (Some octets) (Some others) all h1 h2 e = kept-octets (bytes_eq octets others) octets all h1 e
agree-octets (Some octets) None all h1 h2 e = subst GivesOctets (same (Some octets) all e) h1
agree-octets None second all h1 h2 e = subst GivesOctets (same second all e) h2

found-octets : (all : Option (List ℕ)) (octets : List ℕ) → GivesOctets all → found all ≡ Ok octets → AreOctets octets
found-octets (Some b) octets h e = subst AreOctets (same b octets e) h
found-octets None octets h e = cc e

reading-octets : (base : Base) (text : List ℕ) → GivesOctets (given (octets_by base text))
reading-octets base text = given-octets (octets_by base text) (by-octets base text)

-- what a dump gives are octets
pub dump-octets : (text octets : List ℕ) → dump_octets text ≡ Ok octets → AreOctets octets
dump-octets text octets h =
    let all = both-steps (agree (given (octets_by Hexadecimal text)) (given (octets_by Decimal text))
    >>= (λ two. agree two (given (octets_by Octal text))) >>= (λ three. agree three (given (octets_by Headed text))))
    found octets h in
    let three = both-steps (agree (given (octets_by Hexadecimal text)) (given (octets_by Decimal text))
    >>= (λ two. agree two (given (octets_by Octal text)))) (λ three. agree three (given (octets_by Headed text))) all.0
    all.1 in
    let two = both-steps (agree (given (octets_by Hexadecimal text)) (given (octets_by Decimal text)))
    (λ two. agree two (given (octets_by Octal text))) three.0 three.1 in
    found-octets all.0 octets (agree-octets three.0 (given (octets_by Headed text)) all.0
    (agree-octets two.0 (given (octets_by Octal text)) three.0
    (agree-octets (given (octets_by Hexadecimal text)) (given (octets_by Decimal text)) two.0
    (reading-octets Hexadecimal text) (reading-octets Decimal text) two.1)
    (reading-octets Octal text) two.2)
    (reading-octets Headed text) three.2) all.2
