-- Lines that an exchange of any version may have, one of version 2 may have.
use Rattle.std.proofs.Common.{◌≡◌, ℕ, List, [], ◌∷◌, Bool, true, false, ◌&&◌, refl}
use Rattle.exchange_text.specs.Exchange.{are_proper, may_follow, moment_after}
use Rattle.exchange_text.specs.declared.exchange.Version.{Version}
use Rattle.exchange_text.specs.declared.exchange.Version.TheVariants.{One, Two}
use Rattle.exchange_text.specs.declared.line.Line.{Line}
use Rattle.exchange_text.specs.declared.line.Line.TheVariants.{Moment, Note}

both : (a b : Bool) → a && b ≡ true → (a ≡ true) × (b ≡ true)
both true true h = (refl, refl)
both true false h = cc
both false b h = cc

joined : (a b : Bool) → a ≡ true → b ≡ true → a && b ≡ true
joined true true h k = refl
joined true false h k = k
joined false b h k = h

follows-two : (version : Version) (least : ℕ) (line : Line) → may_follow version least line ≡ true
    → may_follow Two least line ≡ true
follows-two One least (Moment moment) h = cc
follows-two One least (Note text) h = cc
follows-two One least line h = refl
follows-two Two least line h = h

-- lines that may come in an exchange of their version may come in one of version 2, after the same moment
pub proper-two : (version : Version) (least : ℕ) (lines : List Line) → are_proper version least lines ≡ true
    → are_proper Two least lines ≡ true
proper-two version least [] h = refl
proper-two version least (line ∷ lines) h =
    let p = both (may_follow version least line) (are_proper version (moment_after least line) lines) h in
    joined (may_follow Two least line) (are_proper Two (moment_after least line) lines)
    (follows-two version least line p.0) (proper-two version (moment_after least line) lines p.1)
