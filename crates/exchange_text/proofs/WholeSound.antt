-- What a text says has that text.
use Rattle.std.proofs.Common.{◌≡◌, ℕ, ◌+◌, List, [], ◌∷◌, ◌++◌, Bool, true, false, Result, Ok, Err, refl, sym, ap, ◌∙◌, codes, if◌then◌else◌, inl, inr, ◌⊎◌, IfOk}
use Rattle.std.proofs.lemmas.Bool.{and_from}
use Rattle.std.proofs.lemmas.List.Splits.{join_with_byte-slice_split}
use Rattle.std.specs.List.{join_with_byte, slice_split}
use Rattle.std.specs.Str.{bytes_eq}
use Rattle.octet_core.specs.Octets.{AreOctets}
use Rattle.exchange_text.specs.Exchange.{are_proper, may_follow, moment_after, AllHaveOctets, ExchangeParts, HasOctets, IsExchange}
use Rattle.exchange_text.specs.Text.{exchange_text, header_text, line_text, lines_text, octets_text}
use Rattle.exchange_text.specs.Reading.{◌>>=◌, at, atr_by, atr_said, ended, falls, exchange_by, exchange_said, is_line_feed, line_at, line_said, lines_said, octets_said, parts_said, rising, version_said, words_of, UnlessMemory}
use Rattle.exchange_text.specs.declared.fault.LineFault.{LineFault}
use Rattle.exchange_text.specs.declared.fault.LineFault.TheVariants.{Word}
use Rattle.exchange_text.specs.declared.fault.ExchangeFault.{ExchangeFault}
use Rattle.exchange_text.specs.declared.fault.ExchangeFault.TheVariants as fault
use Rattle.exchange_text.specs.declared.exchange.Version.{Version}
use Rattle.exchange_text.specs.declared.exchange.Version.TheVariants.{One, Two}
use Rattle.exchange_text.specs.declared.line.Line.{Line}
use Rattle.exchange_text.proofs.Naming.{same-bytes}
use Rattle.exchange_text.proofs.Sound.{bind, line-sound, octets-sound, same-ok, IsSaid}
use Rattle.exchange_text.proofs.Sequel.{at-ok, line-follows, rising-ok, unless-ok}

-- the parts of a text are the text of these lines, which may come after a moment
record AreSaid (version : Version) (least : ℕ) (parts : List (List ℕ)) (lines : List Line) : Type 0 where
  text : join_with_byte 10 parts ≡ lines_text lines
  proper : are_proper version least lines ≡ true
  octets : AllHaveOctets lines

ended-sound : (version : Version) (number least : ℕ) (rest : List ℕ) (lines : List Line) → ended number rest ≡ Ok lines
    → AreSaid version least (rest ∷ []) lines
ended-sound version number least [] lines e =
    let s : [] ≡ lines = same-ok [] lines (ended number []) refl e in
    rw (sym s) (record { text = refl; proper = refl; octets = tt })
ended-sound version number least (x ∷ rest) lines e = cc

next-said : (version : Version) (number least : ℕ) (line next : List ℕ) (parts : List (List ℕ)) (first : Line)
    (more : List Line) → line_at version number least line ≡ Ok first → line ≡ line_text first → HasOctets first
    → AreSaid version (moment_after least first) (next ∷ parts) more
    → AreSaid version least (line ∷ next ∷ parts) (first ∷ more)
next-said version number least line next parts first more e text octets h = record {
  text = ap (λ (l : List ℕ). l ++ (10 ∷ join_with_byte 10 (next ∷ parts))) text
      ∙ ap (λ (l : List ℕ). line_text first ++ (10 ∷ l)) h.text;
  proper = and_from (may_follow version least first) (are_proper version (moment_after least first) more)
      (line-follows version number least line first e) h.proper;
  octets = (octets, h.octets);
}

lines-sound : (version : Version) (number least : ℕ) (parts : List (List ℕ)) (lines : List Line) → (parts ≡ [] → ⊥)
    → lines_said version number least parts ≡ Ok lines → AreSaid version least parts lines
lines-sound version number least [] lines n e = absurd (n refl)
lines-sound version number least (rest ∷ []) lines n e = ended-sound version number least rest lines e
lines-sound version number least (line ∷ next ∷ parts) lines n e =
    let p = bind (line_at version number least line)
    (λ first. lines_said version (number + 1) (moment_after least first) (next ∷ parts) >>=
    (λ more. Ok (first ∷ more))) lines e in
    let q = bind (lines_said version (number + 1) (moment_after least p.0) (next ∷ parts)) (λ more. Ok (p.0 ∷ more))
    lines p.2 in
    let r : Result (List Line) ExchangeFault = Ok (p.0 ∷ q.0) in
    let s : p.0 ∷ q.0 ≡ lines = same-ok (p.0 ∷ q.0) lines r refl q.2 in
    let l = line-said version number least line p.0 p.1 in
    rw (sym s) (next-said version number least line next parts p.0 q.0 p.1 l.text l.octets
    (lines-sound version (number + 1) (moment_after least p.0) (next ∷ parts) q.0 (λ m. cc) q.1))
  where
    line-said : (version : Version) (number least : ℕ) (line : List ℕ) (first : Line)
        → line_at version number least line ≡ Ok first → IsSaid version line first
    line-said version number least line first e =
        let p = bind (at number (line_said version line)) (rising number least) first e in
        let r = rising-ok number least p.0 first (falls least p.0) refl p.2 in
        let s = line-sound version line p.0 (at-ok number (line_said version line) p.0 p.1) in
        rw (sym r.1) s

header-by : (a b : Bool) (version : Version)
    → (if a then Ok One else (if b then Ok Two else Err fault.Header)) ≡ Ok version
    → ((a ≡ true) × (version ≡ One)) ⊎ ((b ≡ true) × (version ≡ Two))
header-by true b version e = let r : Result Version ExchangeFault = Ok One in inl (refl, same-ok version One r e refl)
header-by false true version e =
    let r : Result Version ExchangeFault = Ok Two in
    inr (refl, same-ok version Two r e refl)
header-by false false version e = cc

header-sound : (line : List ℕ) (version : Version) → version_said line ≡ Ok version → line ≡ header_text version
header-sound line version e =
    elim (header-by (bytes_eq line (codes "scard-exchange 1")) (bytes_eq line (codes "scard-exchange 2")) version e) [
      | inl p ↦ rw p.1 (same-bytes line (codes "scard-exchange 1") p.0)
      | inr p ↦ rw p.1 (same-bytes line (codes "scard-exchange 2") p.0)
    ]

atr-if : (b : Bool) (r : Result (List ℕ) LineFault) (atr : List ℕ) → (if b then r else Err Word) ≡ Ok atr
    → (b ≡ true) × (r ≡ Ok atr)
atr-if true r atr e = (refl, e)
atr-if false r atr e = cc

atr-words : (words : List (List ℕ)) (atr : List ℕ) → atr_by words ≡ Ok atr
    → (join_with_byte 32 words ≡ codes "atr " ++ octets_text atr) × AreOctets atr
atr-words [] atr e = cc
atr-words (word ∷ []) atr e = cc
atr-words (word ∷ octets ∷ []) atr e =
    let p = atr-if (bytes_eq word (codes "atr")) (octets_said octets) atr e in
    let o = octets-sound octets atr p.1 in
    rw (same-bytes word (codes "atr") p.0) (ap (λ (l : List ℕ). codes "atr " ++ l) o.0, o.1)
atr-words (word ∷ octets ∷ x ∷ words) atr e = cc

atr-sound : (line atr : List ℕ) → atr_said line ≡ Ok atr → (line ≡ codes "atr " ++ octets_text atr) × AreOctets atr
atr-sound line atr e = let p = atr-words (words_of line) atr e in (sym (join_with_byte-slice_split 32 line) ∙ p.0, p.1)

-- the parts of a text after its header
record AreParts (version : Version) (parts : List (List ℕ)) (e : ExchangeParts) : Type 0 where
  same : e.version ≡ version
  text : join_with_byte 10 parts ≡ (codes "atr " ++ octets_text e.atr) ++ (codes "\n" ++ lines_text e.lines)
  is : IsExchange e

parts-sound : (version : Version) (parts : List (List ℕ)) (e : ExchangeParts) → parts_said version parts ≡ Ok e
    → AreParts version parts e
parts-sound version [] e h = cc
parts-sound version (line ∷ []) e h = cc
parts-sound version (line ∷ next ∷ parts) e h =
    let p = bind (at 2 (atr_said line)) (λ atr. lines_said version 3 0 (next ∷ parts) >>=
    (λ lines. Ok (record { version = version; atr = atr; lines = lines }))) e h in
    let q = bind (lines_said version 3 0 (next ∷ parts))
    (λ lines. Ok (record { version = version; atr = p.0; lines = lines })) e p.2 in
    let made : ExchangeParts = record { version = version; atr = p.0; lines = q.0 } in
    let r : Result ExchangeParts ExchangeFault = Ok made in
    let s : made ≡ e = same-ok made e r refl q.2 in
    let a = atr-sound line p.0 (at-ok 2 (atr_said line) p.0 p.1) in
    let l = lines-sound version 3 0 (next ∷ parts) q.0 (λ m. cc) q.1 in
    rw (sym s) (record {
      same = refl;
      text = ap (λ (x : List ℕ). x ++ (10 ∷ join_with_byte 10 (next ∷ parts))) a.0
          ∙ ap (λ (x : List ℕ). (codes "atr " ++ octets_text p.0) ++ (10 ∷ x)) l.text;
      is = record { proper = l.proper; atr = a.1; octets = l.octets };
    })

by-parts : (parts : List (List ℕ)) (text : List ℕ) (e : ExchangeParts) → join_with_byte 10 parts ≡ text
    → exchange_by parts ≡ Ok e → (exchange_text e ≡ text) × IsExchange e
by-parts [] text e j h = cc
by-parts (header ∷ []) text e j h = cc
by-parts (header ∷ next ∷ parts) text e j h =
    let p = bind (version_said header) (λ version. parts_said version (next ∷ parts)) e h in
    let a = parts-sound p.0 (next ∷ parts) e p.2 in
    let head : header ≡ header_text e.version = header-sound header p.0 p.1 ∙ ap header_text (sym a.same) in (
      sym (ap (λ (l : List ℕ). l ++ (10 ∷ join_with_byte 10 (next ∷ parts))) head
          ∙ ap (λ (l : List ℕ). header_text e.version ++ (10 ∷ l)) a.text) ∙ j,
      a.is,
    )

-- an exchange that a text says has that text
pub exchange-sound : (text : List ℕ) (e : ExchangeParts) → exchange_said text ≡ Ok e
    → (exchange_text e ≡ text) × IsExchange e
exchange-sound text e h = by-parts (slice_split is_line_feed text) text e (join_with_byte-slice_split 10 text) h

-- so what is read has the text that was read
pub found-by : (result : Result ExchangeParts ExchangeFault) (text : List ℕ) → UnlessMemory result (exchange_said text)
    → IfOk result (λ e. exchange_text e ≡ text) × IfOk result IsExchange
found-by (Ok e) text h = exchange-sound text e (unless-ok e (exchange_said text) h)
found-by (Err f) text h = (tt, tt)
