-- The moments of a recording are those that were seen, so its lines may come in a file.
use Rattle.std.proofs.Common.{◌≡◌, ◌∙◌, ap, refl, subst, ℕ, nat_le, List, [], ◌∷◌, Bool, true, ◌&&◌}
use Rattle.std.proofs.lemmas.List.{append-nil}
use Rattle.exchange_text.specs.Exchange.{are_proper, latest_moment, may_follow}
use Rattle.exchange_text.specs.declared.exchange.Version.{Version}
use Rattle.exchange_text.specs.declared.exchange.Version.TheVariants.{One, Two}
use Rattle.exchange_text.specs.declared.line.Line.{Line}
use Rattle.exchange_text.specs.declared.line.Line.TheVariants as line
use Rattle.exchange_text.proofs.Naming.{both}
use Rattle.std.proofs.lemmas.Bool.{and_from}
use Rattle.traces.specs.declared.trace.Item.{Item}
use Rattle.traces.specs.declared.trace.Item.TheVariants.{Block, Quiet, Moment}
use Rattle.traces.specs.Following.{after_items, begun, ended}
use Rattle.traces.specs.Recorded.{lines_of, version_of}
use Rattle.traces.specs.Reading.{Rises}
use Rattle.traces.specs.Rising.{rises}
use Rattle.traces.proofs.Marks.{IsAdded, ended-marks, marks, owns}

-- moments and notes, of which alone a file asks something
timed : Line → List Line
timed (line.Moment moment) = line.Moment moment ∷ []
timed (line.Note text) = line.Note text ∷ []
timed line = []

moments : Item → List Line
moments (Moment moment) = line.Moment moment ∷ []
moments (Block from octets lost) = []
moments Quiet = []

plain : (line : Line) → IsAdded line → timed line ≡ []
unfolding timed
plain (line.Moment moment) h = absurd h
plain (line.Note text) h = absurd h
plain line h = refl

proper-one : (least : ℕ) (lines : List Line) → are_proper One least lines ≡ are_proper One least (marks timed lines)
unfolding timed
proper-one least [] = refl
proper-one least (line.Moment moment ∷ lines) = refl
proper-one least (line.Note text ∷ lines) = refl
proper-one least (line ∷ lines) = proper-one least lines

proper-two : (least : ℕ) (lines : List Line) → are_proper Two least lines ≡ are_proper Two least (marks timed lines)
unfolding timed
proper-two least [] = refl
proper-two least (line.Moment moment ∷ lines) =
    ap (λ (b : Bool). may_follow Two least (line.Moment moment) && b) (proper-two moment lines)
proper-two least (line.Note text ∷ lines) =
    ap (λ (b : Bool). may_follow Two least (line.Note text) && b) (proper-two least lines)
proper-two least (line ∷ lines) = proper-two least lines

none-in-one : (items : List Item) → version_of items ≡ One → owns moments items ≡ []
unfolding moments
none-in-one [] e = refl
none-in-one (Moment moment ∷ items) e = cc
none-in-one (Block from octets lost ∷ items) e = none-in-one items e
none-in-one (Quiet ∷ items) e = none-in-one items e

rising-proper : (least : ℕ) (items : List Item) → rises least items ≡ true
    → are_proper Two least (owns moments items) ≡ true
unfolding moments
rising-proper least [] h = refl
rising-proper least (Moment moment ∷ items) h =
    let a = both (nat_le least moment) (nat_le moment latest_moment && rises moment items) h in
    let b = both (nat_le moment latest_moment) (rises moment items) a.1 in
    and_from (nat_le least moment && nat_le moment latest_moment) (are_proper Two moment (owns moments items))
    (and_from (nat_le least moment) (nat_le moment latest_moment) a.0 b.0) (rising-proper moment items b.1)
rising-proper least (Block from octets lost ∷ items) h = rising-proper least items h
rising-proper least (Quiet ∷ items) h = rising-proper least items h

by-version : (version : Version) (lines : List Line) (items : List Item) → version_of items ≡ version
    → marks timed lines ≡ owns moments items → rises 0 items ≡ true → are_proper version 0 lines ≡ true
by-version One lines items v e h =
    proper-one 0 lines ∙ ap (are_proper One 0) (e ∙ none-in-one items v)
by-version Two lines items v e h =
    proper-two 0 lines ∙ ap (are_proper Two 0) e ∙ rising-proper 0 items h

-- the lines of a recording may come in an exchange of its version
pub recorded-proper : (ifsc : ℕ) (items : List Item) → rises 0 items ≡ true
    → are_proper (version_of items) 0 (lines_of ifsc items) ≡ true
unfolding lines_of timed moments
recorded-proper ifsc items h =
    by-version (version_of items) (ended (after_items (begun ifsc) items)).lines items refl
    (ended-marks timed plain moments refl (λ m. refl) (λ s o l. refl) (λ s o l. refl) ifsc items) h

-- ---- items that are read

-- all that were read rise
pub all-rise : (items : List Item) (least : ℕ) → Rises items least → rises 0 items ≡ true
all-rise items least h = subst (λ (l : List Item). rises 0 l ≡ true) (append-nil items) (h [] refl)
