-- Reading gives back what was written: each line, each exchange. So no two exchanges have one text.
use Rattle.std.proofs.Common.{◌≡◌, ℕ, ◌+◌, ◌<◌, ◌≤◌, nat_le, nat_lt, List, [], ◌∷◌, ◌++◌, true, false, Result, Ok, codes, decimal, refl, ap, ◌∙◌, arith, rules, append-nil}
use Rattle.std.specs.List.{list_all, slice_split}
use Rattle.octet_core.specs.Octets.{AreOctets}
use Rattle.octet_core.proofs.Decimals.{number-decimal}
use Rattle.exchange_text.specs.Exchange.{AllHaveOctets, are_proper, ArriveAsOctets, ExchangeParts, HasOctets, IsExchange, is_note, is_printable, latest_moment, may_follow, moment_after}
use Rattle.exchange_text.specs.Names.{name_text}
use Rattle.exchange_text.specs.Reading.{◌>>=◌, at, atr_by, atr_said, block_said, exchange_by, exchange_said, falls, is_line_feed, is_space, line_at, line_by, line_said, lines_said, moment_by, moment_said, note_by, octets_said, one_octet, one_octets, parts_said, rising, version_said}
use Rattle.exchange_text.specs.Text.{arrival_text, exchange_text, header_text, line_text, lines_text, octet_text, octets_text}
use Rattle.exchange_text.specs.declared.exchange.Version.{Version}
use Rattle.exchange_text.specs.declared.exchange.Version.TheVariants.{One, Two}
use Rattle.exchange_text.specs.declared.fault.LineFault.{LineFault}
use Rattle.exchange_text.specs.declared.fault.ExchangeFault.{ExchangeFault}
use Rattle.exchange_text.specs.declared.line.Arrival.{Arrival}
use Rattle.exchange_text.specs.declared.line.Arrival.TheVariants.{Whole, Lost, Changed}
use Rattle.exchange_text.specs.declared.line.Line.{Line}
use Rattle.exchange_text.specs.declared.line.Line.TheVariants.{Command, Ifsd, Quiet, Answer, IfsSet, GivenUp, Dead, Reply, Time, Ifsc, Asked, FromTerminal, FromCard, Moment, Note}
use Rattle.exchange_text.specs.declared.name.Name.{Name}
use Rattle.exchange_text.specs.declared.name.Name.TheVariants as name
use Rattle.exchange_text.proofs.Cutting.{some-words}
use Rattle.exchange_text.proofs.Naming.{both}
use Rattle.exchange_text.proofs.Notes.{printable}
use Rattle.exchange_text.proofs.Spelled.{appended, feedless, first-part, IsWord, no_feed, octet-back, octets-back, one-part, spaceless, weaker, word-decimal, word-octet, word-octets}

-- ---- one line

-- a line whose first word is a name's and has more after it
named : (version : Version) (m : Name) (rest : List ℕ)
    → line_said version (name_text m ++ 32 ∷ rest) ≡ line_by version rest (slice_split is_space rest) m
named version name.Command rest = refl
named version name.Ifsd rest = refl
named version name.Quiet rest = refl
named version name.Answer rest = refl
named version name.IfsSet rest = refl
named version name.GivenUp rest = refl
named version name.Dead rest = refl
named version name.Reply rest = refl
named version name.Time rest = refl
named version name.Ifsc rest = refl
named version name.Asked rest = refl
named version name.FromTerminal rest = refl
named version name.FromCard rest = refl
named version name.Moment rest = refl
named version name.Note rest = refl

-- one word is the only one
one-word : (word : List ℕ) → IsWord word → slice_split is_space word ≡ word ∷ []
one-word word h = one-part is_space word (spaceless word h)

next-word : (word rest : List ℕ) → IsWord word
    → slice_split is_space (word ++ 32 ∷ rest) ≡ word ∷ slice_split is_space rest
next-word word rest h = first-part is_space word 32 rest (spaceless word h) refl

the-octets : (octets : List ℕ) → AreOctets octets → one_octets (slice_split is_space (octets_text octets)) ≡ Ok octets
the-octets octets h = ap one_octets (one-word (octets_text octets) (word-octets octets h)) ∙ octets-back octets h

the-octet : (octet : ℕ) → octet < 256 → one_octet (slice_split is_space (octet_text octet)) ≡ Ok octet
the-octet octet h = ap one_octet (one-word (octet_text octet) (word-octet octet h)) ∙ octet-back octet h

-- octets after a name
with-octets : (f : List ℕ → Line) (octets : List ℕ) → AreOctets octets
    → (one_octets (slice_split is_space (octets_text octets)) >>= (λ o. Ok (f o))) ≡ Ok (f octets)
with-octets f octets h = ap (λ (r : Result (List ℕ) LineFault). r >>= (λ o. Ok (f o))) (the-octets octets h)

with-octet : (f : ℕ → Line) (octet : ℕ) → octet < 256
    → (one_octet (slice_split is_space (octet_text octet)) >>= (λ o. Ok (f o))) ≡ Ok (f octet)
with-octet f octet h = ap (λ (r : Result ℕ LineFault). r >>= (λ o. Ok (f o))) (the-octet octet h)

-- a block's octets and what became of it
arrived : (sent : List ℕ) (arrival : Arrival) → AreOctets sent → ArriveAsOctets arrival
    → block_said (slice_split is_space (octets_text sent ++ arrival_text arrival)) ≡ Ok (sent, arrival)
arrived sent Whole h k =
    let text = octets_text sent in
    ap (λ (t : List ℕ). block_said (slice_split is_space t)) (append-nil text)
    ∙ ap block_said (one-word text (word-octets sent h))
    ∙ ap (λ (r : Result (List ℕ) LineFault). r >>= (λ s. Ok (s, Whole))) (octets-back sent h)
arrived sent Lost h k =
    ap block_said (next-word (octets_text sent) (codes "lost") (word-octets sent h))
    ∙ ap (λ (r : Result (List ℕ) LineFault). r >>= (λ s. Ok (s, Lost))) (octets-back sent h)
arrived sent (Changed octets) h k =
    ap block_said (next-word (octets_text sent) (codes "as " ++ octets_text octets) (word-octets sent h))
    ∙ ap (λ (r : Result (List ℕ) LineFault).
    r >>= (λ o. Ok (Changed o)) >>= (λ arrival. octets_said (octets_text sent) >>= (λ s. Ok (s, arrival))))
    (the-octets octets k)
    ∙ ap (λ (r : Result (List ℕ) LineFault). r >>= (λ s. Ok (s, Changed octets))) (octets-back sent h)

with-block : (f : List ℕ → Arrival → Line) (sent : List ℕ) (arrival : Arrival) → AreOctets sent
    → ArriveAsOctets arrival
    → (block_said (slice_split is_space (octets_text sent ++ arrival_text arrival)) >>= (λ b. Ok (f b.0 b.1)))
    ≡ Ok (f sent arrival)
with-block f sent arrival h k = ap (λ (r : Result (List ℕ × Arrival) LineFault). r >>= (λ b. Ok (f b.0 b.1)))
    (arrived sent arrival h k)

moment-by : (m : ℕ) → nat_le m latest_moment ≡ true → m < 1000000000000000
moment-by m h = let le : m ≤ latest_moment = search (rules, h) in omega (arith, le)

with-moment : (m : ℕ) → m < 1000000000000000 → moment_said Two (slice_split is_space (decimal m)) ≡ Ok (Moment m)
with-moment m lt = ap (moment_said Two) (one-word (decimal m) (word-decimal m lt))
    ∙ ap moment_by (number-decimal m lt)

with-note : (text : List ℕ) (words : List (List ℕ)) → is_note text ≡ true → (words ≡ [] → ⊥)
    → note_by Two text words ≡ Ok (Note text)
with-note text [] h k = absurd (k refl)
with-note text (word ∷ words) h k = rw h refl

-- a line is read back
pub line-back : (version : Version) (least : ℕ) (x : Line) → may_follow version least x ≡ true → HasOctets x
    → line_said version (line_text x) ≡ Ok x
line-back version least (Command octets) h k = named version name.Command (octets_text octets)
    ∙ with-octets Command octets k
line-back version least (Ifsd size) h k = named version name.Ifsd (octet_text size) ∙ with-octet Ifsd size k
line-back version least Quiet h k = refl
line-back version least (Answer octets) h k = named version name.Answer (octets_text octets)
    ∙ with-octets Answer octets k
line-back version least IfsSet h k = refl
line-back version least GivenUp h k = refl
line-back version least Dead h k = refl
line-back version least (Reply octets) h k = named version name.Reply (octets_text octets)
    ∙ with-octets Reply octets k
line-back version least (Time multiple) h k = named version name.Time (octet_text multiple)
    ∙ with-octet Time multiple k
line-back version least (Ifsc size) h k = named version name.Ifsc (octet_text size) ∙ with-octet Ifsc size k
line-back version least (Asked octets) h k = named version name.Asked (octets_text octets)
    ∙ with-octets Asked octets k
line-back version least (FromTerminal sent arrival) h k =
    named version name.FromTerminal (octets_text sent ++ arrival_text arrival)
    ∙ with-block FromTerminal sent arrival k.0 k.1
line-back version least (FromCard sent arrival) h k =
    named version name.FromCard (octets_text sent ++ arrival_text arrival) ∙ with-block FromCard sent arrival k.0 k.1
line-back One least (Moment m) h k = cc
line-back Two least (Moment m) h k = named Two name.Moment (decimal m)
    ∙ with-moment m (moment-by m (both (nat_le least m) (nat_le m latest_moment) h).1)
line-back One least (Note text) h k = cc
line-back Two least (Note text) h k = named Two name.Note text
    ∙ with-note text (slice_split is_space text) h (some-words is_space text)

-- ---- no line has a line feed

plain-octets : (octets : List ℕ) → AreOctets octets → list_all no_feed (octets_text octets) ≡ true
plain-octets octets h = feedless (octets_text octets) (word-octets octets h)

plain-octet : (octet : ℕ) → octet < 256 → list_all no_feed (octet_text octet) ≡ true
plain-octet octet h = feedless (octet_text octet) (word-octet octet h)

plain-arrival : (arrival : Arrival) → ArriveAsOctets arrival → list_all no_feed (arrival_text arrival) ≡ true
plain-arrival Whole h = refl
plain-arrival Lost h = refl
plain-arrival (Changed octets) h = plain-octets octets h

plain-block : (sent : List ℕ) (arrival : Arrival) → AreOctets sent → ArriveAsOctets arrival
    → list_all no_feed (octets_text sent ++ arrival_text arrival) ≡ true
plain-block sent arrival h k = appended no_feed (octets_text sent) (arrival_text arrival) (plain-octets sent h)
    (plain-arrival arrival k)

printed : (c : ℕ) → is_printable c ≡ true → no_feed c ≡ true
printed c h = search (rules, h)

one-line : (version : Version) (least : ℕ) (x : Line) → may_follow version least x ≡ true → HasOctets x
    → list_all no_feed (line_text x) ≡ true
one-line version least (Command octets) h k = plain-octets octets k
one-line version least (Ifsd size) h k = plain-octet size k
one-line version least Quiet h k = refl
one-line version least (Answer octets) h k = plain-octets octets k
one-line version least IfsSet h k = refl
one-line version least GivenUp h k = refl
one-line version least Dead h k = refl
one-line version least (Reply octets) h k = plain-octets octets k
one-line version least (Time multiple) h k = plain-octet multiple k
one-line version least (Ifsc size) h k = plain-octet size k
one-line version least (Asked octets) h k = plain-octets octets k
one-line version least (FromTerminal sent arrival) h k = plain-block sent arrival k.0 k.1
one-line version least (FromCard sent arrival) h k = plain-block sent arrival k.0 k.1
one-line One least (Moment m) h k = cc
one-line Two least (Moment m) h k = feedless (decimal m)
    (word-decimal m (moment-by m (both (nat_le least m) (nat_le m latest_moment) h).1))
one-line One least (Note text) h k = cc
one-line Two least (Note text) h k = weaker is_printable no_feed printed text (printable text h)

-- ---- lines

rises-by : (least m : ℕ) → nat_le least m ≡ true → nat_lt m least ≡ false
rises-by least m h = search (rules, h)

-- what may follow doesn't fall
rises : (version : Version) (least : ℕ) (x : Line) → may_follow version least x ≡ true → falls least x ≡ false
rises version least (Command octets) h = refl
rises version least (Ifsd size) h = refl
rises version least Quiet h = refl
rises version least (Answer octets) h = refl
rises version least IfsSet h = refl
rises version least GivenUp h = refl
rises version least Dead h = refl
rises version least (Reply octets) h = refl
rises version least (Time multiple) h = refl
rises version least (Ifsc size) h = refl
rises version least (Asked octets) h = refl
rises version least (FromTerminal sent arrival) h = refl
rises version least (FromCard sent arrival) h = refl
rises One least (Moment m) h = cc
rises Two least (Moment m) h = rises-by least m (both (nat_le least m) (nat_le m latest_moment) h).0
rises version least (Note text) h = refl

line-at-back : (version : Version) (number least : ℕ) (x : Line) → may_follow version least x ≡ true → HasOctets x
    → line_at version number least (line_text x) ≡ Ok x
line-at-back version number least x h k =
    ap (λ (r : Result Line LineFault). at number r >>= rising number least) (line-back version least x h k)
    ∙ rw (rises version least x h) refl

-- one line, and what the parts after it say
one-more : (version : Version) (number least : ℕ) (line : List ℕ) (parts : List (List ℕ)) (x : Line) (xs : List Line)
    → (parts ≡ [] → ⊥) → line_at version number least line ≡ Ok x
    → lines_said version (number + 1) (moment_after least x) parts ≡ Ok xs
    → lines_said version number least (line ∷ parts) ≡ Ok (x ∷ xs)
one-more version number least line [] x xs h e k = absurd (h refl)
one-more version number least line (next ∷ parts) x xs h e k = rw e (rw k refl)

feed-part : (front rest : List ℕ) → list_all no_feed front ≡ true
    → slice_split is_line_feed (front ++ (codes "\n" ++ rest)) ≡ front ∷ slice_split is_line_feed rest
feed-part front rest h = first-part is_line_feed front 10 rest h refl

-- lines are read back, whatever the number of the first
lines-back : (version : Version) (number least : ℕ) (lines : List Line) → are_proper version least lines ≡ true
    → AllHaveOctets lines → lines_said version number least (slice_split is_line_feed (lines_text lines)) ≡ Ok lines
lines-back version number least [] h k = refl
lines-back version number least (x ∷ xs) h k =
    let p = both (may_follow version least x) (are_proper version (moment_after least x) xs) h in
    ap (lines_said version number least) (feed-part (line_text x) (lines_text xs) (one-line version least x p.0 k.0))
    ∙ one-more version number least (line_text x) (slice_split is_line_feed (lines_text xs)) x xs
    (some-words is_line_feed (lines_text xs)) (line-at-back version number least x p.0 k.0)
    (lines-back version (number + 1) (moment_after least x) xs p.1 k.1)

-- ---- exchanges

atr-back : (octets : List ℕ) → AreOctets octets → atr_said (codes "atr " ++ octets_text octets) ≡ Ok octets
atr-back octets h = ap (λ (words : List (List ℕ)). atr_by (codes "atr" ∷ words))
    (one-word (octets_text octets) (word-octets octets h)) ∙ octets-back octets h

plain-header : (version : Version) → list_all no_feed (header_text version) ≡ true
plain-header One = refl
plain-header Two = refl

version-back : (version : Version) → version_said (header_text version) ≡ Ok version
version-back One = refl
version-back Two = refl

-- what the parts after the header say
parts-back : (version : Version) (line atr : List ℕ) (parts : List (List ℕ)) (lines : List Line) → (parts ≡ [] → ⊥)
    → atr_said line ≡ Ok atr → lines_said version 3 0 parts ≡ Ok lines
    → parts_said version (line ∷ parts) ≡ Ok (record { version = version; atr = atr; lines = lines })
parts-back version line atr [] lines h e k = absurd (h refl)
parts-back version line atr (next ∷ parts) lines h e k = rw e (rw k refl)

-- an exchange is read back
pub exchange-back : (e : ExchangeParts) → IsExchange e → exchange_said (exchange_text e) ≡ Ok e
exchange-back e h =
    let rest = lines_text e.lines in
    let atr = codes "atr " ++ octets_text e.atr in
    let parts = slice_split is_line_feed rest in
    ap exchange_by (feed-part (header_text e.version) (atr ++ (codes "\n" ++ rest)) (plain-header e.version)
    ∙ ap (◌∷◌ (header_text e.version)) (feed-part atr rest (plain-octets e.atr h.atr)))
    ∙ ap (λ (r : Result Version ExchangeFault). r >>= (λ version. parts_said version (atr ∷ parts)))
    (version-back e.version)
    ∙ parts-back e.version atr e.atr parts e.lines (some-words is_line_feed rest) (atr-back e.atr h.atr)
    (lines-back e.version 3 0 e.lines h.proper h.octets)

same-value : {A E : Type 0} (x y : A) (r : Result A E) → r ≡ Ok x → r ≡ Ok y → x ≡ y
same-value x y r e f = let s : r ≡ r = refl in cc

-- no two exchanges have one text
pub one-exchange : (e f : ExchangeParts) → IsExchange e → IsExchange f → exchange_text e ≡ exchange_text f → e ≡ f
one-exchange e f h k same = same-value e f (exchange_said (exchange_text e)) (exchange-back e h)
    (ap exchange_said same ∙ exchange-back f k)
