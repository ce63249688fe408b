-- The lines of a text, one after another.
use Rattle.std.proofs.Common.{◌≡◌, ℕ, ◌+◌, ◌≤◌, List, [], ◌∷◌, ◌++◌, length, Bool, true, false, Result, Ok, Err, refl, sym, ap, ◌∙◌, arith, rules, append_assoc, inl, inr, nat_le, nat_lt, if◌then◌else◌}
use Rattle.std.proofs.lemmas.Bool.{and_from}
use Rattle.std.specs.List.{slice_split}
use Rattle.exchange_text.specs.Exchange.{ExchangeParts, are_proper, latest_moment, may_follow, moment_after}
use Rattle.exchange_text.specs.Reading.{◌>>=◌, is_line_feed, falls, line_said, rising, at, atr_said, falls, line_said, rising, exchange_by, exchange_said, line_at, lines_said, parts_said, version_said, UnlessMemory}
use Rattle.exchange_text.specs.declared.fault.ExchangeFault.TheVariants as fault
use Rattle.exchange_text.specs.declared.fault.ExchangeFault.{ExchangeFault}
use Rattle.exchange_text.specs.declared.exchange.Version.{Version}
use Rattle.exchange_text.specs.declared.line.Line.{Line}
use Rattle.exchange_text.specs.declared.line.Line.TheVariants.{Moment, Note}
use Rattle.exchange_text.specs.declared.exchange.Version.TheVariants.{One, Two}
use Rattle.exchange_text.specs.declared.fault.LineFault.{LineFault}
use Rattle.exchange_text.proofs.Cutting.{some-words}
use Rattle.exchange_text.proofs.Naming.{both}
use Rattle.exchange_text.proofs.Sound.{bind, line-sound, same-ok}

-- lines in front of what follows
abbrev pub after : List Line → Result (List Line) ExchangeFault → Result (List Line) ExchangeFault
after lines (Ok more) = Ok (lines ++ more)
after lines (Err fault) = Err fault

-- how far the lines of a text were read: these, and then what the rest says from the line with this number on, after a
-- moment
pub record IsSequel (version : Version) (text : List ℕ) (lines : List Line) (number least : ℕ) (rest : List ℕ)
    : Type 0 where
  pub said : lines_said version 3 0 (slice_split is_line_feed text)
      ≡ after lines (lines_said version number least (slice_split is_line_feed rest))
  pub proper : (more : List Line) → are_proper version least more ≡ true → are_proper version 0 (lines ++ more) ≡ true
  pub count : number + length rest ≤ length text + 3

-- where each of two tests holds, both hold together
-- what is right with the number of its line was right without it
pub at-ok : {A : Type 0} (number : ℕ) (r : Result A LineFault) (x : A) → at number r ≡ Ok x → r ≡ Ok x
at-ok number (Ok y) x e = ap Ok (same-ok y x (at number (Ok y)) refl e)
at-ok number (Err f) x e = cc

-- a line that is let through after a moment is the same line, and doesn't fall below the moment
pub rising-ok : (number least : ℕ) (x y : Line) (b : Bool) → falls least x ≡ b
    → (if b then Err (fault.Falls number) else Ok x) ≡ Ok y → (falls least x ≡ false) × (x ≡ y)
rising-ok number least x y true h e = cc
rising-ok number least x y false h e = let r : Result Line ExchangeFault = Ok x in (h, same-ok x y r refl e)

not-less : (m least : ℕ) → nat_lt m least ≡ false → nat_le least m ≡ true
not-less m least h = let le : least ≤ m = search (rules, h) in search (rules, le)

follows : (version : Version) (least : ℕ) (x : Line) → may_follow version 0 x ≡ true → falls least x ≡ false
    → may_follow version least x ≡ true
follows One least (Moment m) h f = h
follows Two least (Moment m) h f = and_from (nat_le least m) (nat_le m latest_moment) (not-less m least f)
    (both (nat_le 0 m) (nat_le m latest_moment) h).1
follows One least (Note t) h f = h
follows Two least (Note t) h f = h
follows One least x h f = refl
follows Two least x h f = refl

-- a line of a text follows the moment before it
pub line-follows : (version : Version) (number least : ℕ) (line : List ℕ) (first : Line)
    → line_at version number least line ≡ Ok first → may_follow version least first ≡ true
line-follows version number least line first e =
    let p = bind (at number (line_said version line)) (rising number least) first e in
    let s = line-sound version line p.0 (at-ok number (line_said version line) p.0 p.1) in
    let r = rising-ok number least p.0 first (falls least p.0) refl p.2 in
    rw (sym r.1) (follows version least p.0 s.follows r.0)

joined : (first : Line) (lines : List Line) (r : Result (List Line) ExchangeFault)
    → after lines (r >>= (λ more. Ok (first ∷ more))) ≡ after (lines ++ first ∷ []) r
joined first lines (Ok more) = ap Ok (sym (append_assoc lines (first ∷ []) more))
joined first lines (Err fault) = refl

-- a line that is fine, and the rest
goes-on : (version : Version) (number least : ℕ) (line : List ℕ) (parts : List (List ℕ)) (first : Line)
    (lines : List Line) → (parts ≡ [] → ⊥) → line_at version number least line ≡ Ok first
    → after lines (lines_said version number least (line ∷ parts)) ≡ after (lines ++ first ∷ [])
    (lines_said version (number + 1) (moment_after least first) parts)
goes-on version number least line [] first lines h e = absurd (h refl)
goes-on version number least line (next ∷ parts) first lines h e =
    rw e (joined first lines (lines_said version (number + 1) (moment_after least first) (next ∷ parts)))

stops : (version : Version) (number least : ℕ) (line : List ℕ) (parts : List (List ℕ)) (fault : ExchangeFault)
    → (parts ≡ [] → ⊥) → line_at version number least line ≡ Err fault
    → lines_said version number least (line ∷ parts) ≡ Err fault
stops version number least line [] fault h e = absurd (h refl)
stops version number least line (next ∷ parts) fault h e = rw e refl

-- the first fault
pub line-stops : (version : Version) (text : List ℕ) (lines : List Line) (number least : ℕ) (rest line next : List ℕ)
    (fault : ExchangeFault) → IsSequel version text lines number least rest
    → slice_split is_line_feed rest ≡ line ∷ slice_split is_line_feed next
    → line_at version number least line ≡ Err fault → lines_said version 3 0 (slice_split is_line_feed text) ≡ Err fault
line-stops version text lines number least rest line next fault h parts e =
    h.said ∙ ap (λ (p : List (List ℕ)). after lines (lines_said version number least p)) parts
    ∙ ap (after lines) (stops version number least line (slice_split is_line_feed next) fault
    (some-words is_line_feed next) e)

-- one line more
pub next-sequel : (version : Version) (text : List ℕ) (lines : List Line) (number least : ℕ) (rest line next : List ℕ)
    (first : Line) → IsSequel version text lines number least rest
    → slice_split is_line_feed rest ≡ line ∷ slice_split is_line_feed next
    → length line + 1 + length next ≡ length rest → line_at version number least line ≡ Ok first
    → IsSequel version text (lines ++ first ∷ []) (number + 1) (moment_after least first) next
next-sequel version text lines number least rest line next first h parts shorter e = record {
  said = h.said ∙ ap (λ (p : List (List ℕ)). after lines (lines_said version number least p)) parts
      ∙ goes-on version number least line (slice_split is_line_feed next) first lines (some-words is_line_feed next) e;
  proper = λ more k. rw (append_assoc lines (first ∷ []) more)
      (h.proper (first ∷ more) (and_from (may_follow version least first)
      (are_proper version (moment_after least first) more) (line-follows version number least line first e) k));
  count = omega (arith, h.count, shorter);
}

same-fault : {A : Type 0} (f g : ExchangeFault) (r : Result A ExchangeFault) → r ≡ Err f → r ≡ Err g → f ≡ g
same-fault f g r d e = let s : r ≡ r = refl in cc

-- a result that is no fault is the expected one
pub unless-ok : {A : Type 0} (x : A) (r : Result A ExchangeFault) → UnlessMemory (Ok x) r → r ≡ Ok x
unless-ok x r (inl e) = cc
unless-ok x r (inr e) = sym e

-- a fault of the line is the text's, unless it is out of memory
pub line-fault : (version : Version) (text : List ℕ) (lines : List Line) (number least : ℕ) (rest line next : List ℕ)
    (fault : ExchangeFault) → IsSequel version text lines number least rest
    → slice_split is_line_feed rest ≡ line ∷ slice_split is_line_feed next
    → UnlessMemory (Err fault) (line_at version number least line)
    → UnlessMemory (Err fault) (lines_said version 3 0 (slice_split is_line_feed text))
line-fault version text lines number least rest line next fault h parts (inl e) = inl cc
line-fault version text lines number least rest line next fault h parts (inr e) =
    inr (sym (line-stops version text lines number least rest line next fault h parts (sym e)))

-- ---- the whole text

second : (version : Version) (line : List ℕ) (parts : List (List ℕ)) (fault : ExchangeFault) → (parts ≡ [] → ⊥)
    → UnlessMemory (Err fault) (at 2 (atr_said line))
    → UnlessMemory {X = ExchangeParts} (Err fault) (parts_said version (line ∷ parts))
second version line [] fault h k = absurd (h refl)
second version line (next ∷ parts) f h (inl e) = inl (ap Err (same-fault f fault.Memory (Err f) refl e))
second version line (next ∷ parts) fault h (inr e) = inr (rw (sym e) refl)

whole : (version : Version) (line atr : List ℕ) (parts : List (List ℕ)) (lines : List Line) → (parts ≡ [] → ⊥)
    → at 2 (atr_said line) ≡ Ok atr → lines_said version 3 0 parts ≡ Ok lines
    → parts_said version (line ∷ parts) ≡ Ok (record { version = version; atr = atr; lines = lines })
whole version line atr [] lines h e k = absurd (h refl)
whole version line atr (next ∷ parts) lines h e k = rw e (rw k refl)

headed : (header : List ℕ) (parts : List (List ℕ)) (version : Version) → (parts ≡ [] → ⊥)
    → version_said header ≡ Ok version → exchange_by (header ∷ parts) ≡ parts_said version parts
headed header [] version h e = absurd (h refl)
headed header (next ∷ parts) version h e = rw e refl

-- a fault of the second line
pub second-fault : (version : Version) (text line next : List ℕ) (fault : ExchangeFault)
    → slice_split is_line_feed text ≡ line ∷ slice_split is_line_feed next
    → UnlessMemory (Err fault) (at 2 (atr_said line))
    → UnlessMemory {X = ExchangeParts} (Err fault) (parts_said version (slice_split is_line_feed text))
second-fault version text line next fault parts h =
    rw parts (second version line (slice_split is_line_feed next) fault (some-words is_line_feed next) h)

-- no fault
pub all-said : (version : Version) (text line next atr : List ℕ) (lines : List Line)
    → slice_split is_line_feed text ≡ line ∷ slice_split is_line_feed next
    → UnlessMemory (Ok atr) (at 2 (atr_said line))
    → UnlessMemory (Ok lines) (lines_said version 3 0 (slice_split is_line_feed next))
    → parts_said version (slice_split is_line_feed text) ≡ Ok (record { version = version; atr = atr; lines = lines })
all-said version text line next atr lines parts h k =
    rw parts (whole version line atr (slice_split is_line_feed next) lines (some-words is_line_feed next)
    (unless-ok atr (at 2 (atr_said line)) h)
    (unless-ok lines (lines_said version 3 0 (slice_split is_line_feed next)) k))

-- what follows the header
pub header-said : (text header next : List ℕ) (version : Version)
    → slice_split is_line_feed text ≡ header ∷ slice_split is_line_feed next → version_said header ≡ Ok version
    → exchange_said text ≡ parts_said version (slice_split is_line_feed next)
header-said text header next version parts e =
    rw parts (headed header (slice_split is_line_feed next) version (some-words is_line_feed next) e)
