-- That the requests which words make have octets and sizes.
use Rattle.std.proofs.Common.{◌≡◌, ◌≤◌, ◌⊎◌, inl, inr, ℕ, List, [], ◌∷◌, codes, Bool, true, false, Option, Some, None, is_some, Result, Ok, Err, IfOk, arith, refl, ap, sym, subst, length, if◌then◌else◌, nat_le, ◌&&◌}
use Rattle.std.specs.Result.{result_unwrap_or}
use Rattle.std.proofs.lemmas.Bool.Decides.{nat_tests}
use Rattle.std.specs.Str.{bytes_eq}
use Rattle.hex.specs.Hex.{decode_of}
use Rattle.hex.specs.declared.error.FromHexError.{FromHexError}
use Rattle.hex.proofs.HexLemmas.{decode_of-ok}
use Rattle.clap.specs.Words.{Row, all_of, first_of, subcommand_of}
use Rattle.octet_core.specs.Octets.{AreOctets}
use Rattle.octet_core.specs.Sizes.{IsFieldSize}
use Rattle.program_words.specs.Given.{asks_for_lines, form_of, given_of, GivesOctets}
use Rattle.program_words.specs.PairLines.{are_lines}
use Rattle.program_words.specs.Session.{blocks_of, pair_of, pairs_of, AreOctetPairs}
use Rattle.program_words.specs.Value.{◌>>=◌, hex_octets, octets_of_word, parted, UnlessMemory}
use Rattle.program_words.specs.Words.{byte_or, size_of, number_of, number_of_word, needed, kind_of, expected_of, short_message, told_by, told_of, chain_by, chain_of, tidy_of, fill_of, build_words, build_of, end_of_word, atr_of, clock_of, judge_of, judged_ends, judging_of, record_of, replay_of, all_or_none, asked_size, session_of, drawing_of, layout_of, request_by, show_aim, asked_by, asked_of, HasOctets, HaveOctets, IsLaid, AreLaid, IsRead, AreSized, IsSized, called_for_version, taken, called_for_help, not_taken, session_by, simulate_by, simulate_of}
use Rattle.command_line.specs.Form.{scard}
use Rattle.layouts.specs.declared.layout.Layout.{Layout}
use Rattle.program_words.specs.declared.fault.Fault.{Fault}
use Rattle.program_words.specs.declared.fault.Fault.TheVariants.{Words}
use Rattle.program_words.specs.declared.session.Pair.{Pair}
use Rattle.program_words.specs.declared.session.Session.{Session}
use Rattle.program_words.specs.declared.given.OctetSource.{OctetSource}
use Rattle.program_words.specs.declared.request.Expected.{Expected}
use Rattle.program_words.specs.declared.request.Aim.{Aim}
use Rattle.program_words.specs.declared.request.Aim.TheVariants.{Check}
use Rattle.program_words.specs.declared.request.Task.{Task}
use Rattle.program_words.specs.declared.request.Asked.{Asked}
use Rattle.program_words.specs.declared.request.Asked.TheVariants.{Once, Lines}
use Rattle.program_words.specs.declared.request.Request.{Request}
use Rattle.program_words.specs.declared.request.Request.TheVariants.{BuildTidy, File, Record, Judge, Help, Version}
use Rattle.program_words.specs.declared.request.FileTask.TheVariants.{Migrate, Apdus, Draw}

-- where two steps come to a value, the first comes to one, and from that the second to this
pub both-steps : {A B : Type 0} (r : Result A Fault) (f : A → Result B Fault) (b : B) → r >>= f ≡ Ok b → (a : A)
    × (r ≡ Ok a) × (f a ≡ Ok b)
both-steps (Ok a) f b h = (a, refl, h)
both-steps (Err e) f b h = cc h

one-of : {A : Type 0} (b : Bool) (x y : Result A Fault) (a : A) → (if b then x else y) ≡ Ok a → (x ≡ Ok a) ⊎ (y ≡ Ok a)
one-of true x y a h = inl h
one-of false x y a h = inr h

-- what came to this value
abbrev pub read_as : {A : Type 0} → A → Result A Fault
read_as a = Ok a

-- what came to the same has the same value
pub same : {A : Type 0} (a b : A) → read_as a ≡ read_as b → a ≡ b
same {A = A} a b h = ap (λ (r : Result A Fault). result_unwrap_or r b) h

-- ---- words

-- octets that came from a decoder are those that it gave
pub read-hex : (read : Result (List ℕ) FromHexError) (octets : List ℕ) → hex_octets read ≡ Ok octets → read ≡ Ok octets
read-hex (Ok b) octets h = ap Ok (same b octets h)
read-hex (Err e) octets h = cc h

word-octets : (word octets : List ℕ) → octets_of_word word ≡ Ok octets → AreOctets octets
word-octets word octets h =
    elim (one-of (bytes_eq word (codes "none")) (Ok []) (hex_octets (decode_of word)) octets h) [
      | inl none ↦ subst AreOctets (same [] octets none) (λ i. omega arith)
      | inr hex ↦ (decode_of-ok word octets (read-hex (decode_of word) octets hex)).3
    ]

sized-by : (n ifs : ℕ) (b : Bool) → nat_le 1 n && nat_le n 254 ≡ b → (if b then Ok n else Err Words) ≡ Ok ifs
    → IsFieldSize ifs
sized-by n ifs true t h = let e : n ≡ ifs = same n ifs h in grind (arith, nat_tests)
sized-by n ifs false t h = cc h

sized : (word : Option (List ℕ)) (ifs : ℕ) → size_of word ≡ Ok ifs → IsFieldSize ifs
sized None ifs h = let e : 254 ≡ ifs = same 254 ifs h in (omega arith, omega arith)
sized (Some word) ifs h = sized-by (byte_or 0 word) ifs (nat_le 1 (byte_or 0 word) && nat_le (byte_or 0 word) 254) refl
    h

-- ---- requests

module _ (how : Layout) where
  abbrev IsProper : Request → Type 0
  IsProper request = IsSized request × HasOctets request × IsLaid how request

  abbrev AreProper : Asked → Type 0
  AreProper asked = AreSized asked × HaveOctets asked × AreLaid how asked

  expected-sized : (rows : List Row) (expected : Expected) → expected_of rows ≡ Ok expected → IsFieldSize expected.ifs
  expected-sized rows expected h =
      let size = both-steps (size_of (first_of (codes "ifs") rows)) _ expected h in
      let number = both-steps (number_of (first_of (codes "number") rows)) _ expected size.2 in
      let kind_word = both-steps (needed (first_of (codes "kind") rows)) _ expected number.2 in
      let kind = both-steps (kind_of kind_word.0) _ expected kind_word.2 in
      let is = same _ expected kind.2 in
      subst (λ (e : Expected). IsFieldSize e.ifs) is (sized (first_of (codes "ifs") rows) size.0 size.1)

  -- octets that a word gives, or that are on standard input
  given-octets : (hex form : Option (List ℕ)) (given : OctetSource) → given_of hex form ≡ Ok given → GivesOctets given
  given-octets (Some hex) None given h =
      let octets = both-steps (octets_of_word hex) _ given h in
      subst GivesOctets (same _ given octets.2) (word-octets hex octets.0 octets.1)
  given-octets None (Some word) given h =
      let form = both-steps (form_of word) _ given h in
      subst GivesOctets (same _ given form.2) tt
  given-octets (Some hex) (Some word) given h = cc h
  given-octets None None given h = cc h

  told-proper : (task : Task) (hex form : Option (List ℕ)) (asked : Asked) → IsFieldSize task.expected.ifs
      → task.layout ≡ how → told_by task hex form ≡ Ok asked → AreProper asked
  told-proper task hex form asked small laid h =
      elim (one-of (asks_for_lines hex form) (Ok (Lines task)) _ asked h) [
        | inl lines ↦ subst AreProper (same _ asked lines) (small, tt, laid)
        | inr other ↦
            let given = both-steps (given_of hex form) _ asked other in
            subst AreProper (same _ asked given.2) (small, given-octets hex form given.0 given.1, laid)
      ]

  aimed-proper : (aim : Aim) (rows : List Row) (asked : Asked) → told_of how aim rows ≡ Ok asked → AreProper asked
  aimed-proper aim rows asked h =
      let expected = both-steps (expected_of rows) _ asked h in
      told-proper (record { aim = aim; layout = how; expected = expected.0 }) (first_of (codes "hex") rows)
      (first_of (codes "stdin") rows) asked (expected-sized rows expected.0 expected.1) refl expected.2

  short-by : (b : List ℕ) (message : List ℕ) (t : Bool) → nat_le (length b) 131072 ≡ t
      → (if t then Ok b else Err Words) ≡ Ok message → (b ≡ message) × (length message ≤ 131072)
  short-by b message true t h = let e : b ≡ message =
      same b message h in (e, subst (λ (l : List ℕ). length l ≤ 131072) e (grind (arith, nat_tests)))
  short-by b message false t h = cc h

  chain-proper : (size number_word hex : List ℕ) (request : Request) → chain_by size number_word hex ≡ Ok request
      → IsProper request
  chain-proper size number_word hex request h =
      let ifs = both-steps (size_of (Some size)) _ request h in
      let number = both-steps (number_of_word number_word) _ request ifs.2 in
      let octets = both-steps (octets_of_word hex) _ request number.2 in
      let message = both-steps (short_message octets.0) _ request octets.2 in
      let short = short-by octets.0 message.0 (nat_le (length octets.0) 131072) refl message.1 in
      subst IsProper (same _ request message.2)
      (short.1, subst AreOctets short.0 (word-octets hex octets.0 octets.1), tt)

  chains-proper : (words : List (List ℕ)) (request : Request) → chain_of words ≡ Ok request → IsProper request
  chains-proper [] request h = cc h
  chains-proper (a ∷ []) request h = cc h
  chains-proper (a ∷ b ∷ []) request h = cc h
  chains-proper (a ∷ b ∷ c ∷ []) request h = chain-proper a b c request h
  chains-proper (a ∷ b ∷ c ∷ d ∷ words) request h = cc h

  tidied-proper : (hex form : Option (List ℕ)) (request : Request)
      → given_of hex form >>= (λ given. Ok (BuildTidy given)) ≡ Ok request → IsProper request
  tidied-proper hex form request h =
      let given = both-steps (given_of hex form) _ request h in
      subst IsProper (same _ request given.2) (tt, given-octets hex form given.0 given.1, tt)

  tidy-proper : (words : List (List ℕ)) (form : Option (List ℕ)) (request : Request) → tidy_of words form ≡ Ok request
      → IsProper request
  tidy-proper [] form request h = tidied-proper None form request h
  tidy-proper (hex ∷ []) form request h = tidied-proper (Some hex) form request h
  tidy-proper (a ∷ b ∷ words) form request h = cc h

  fill-proper : (words : List (List ℕ)) (request : Request) → fill_of words ≡ Ok request → IsProper request
  fill-proper [] request h = cc h
  fill-proper (hex ∷ words) request h =
      let octets = both-steps (octets_of_word hex) _ request h in
      subst IsProper (same _ request octets.2) (tt, word-octets hex octets.0 octets.1, tt)

  words-proper : (what : List ℕ) (words : List (List ℕ)) (request : Request) → build_words what words ≡ Ok request
      → IsProper request
  words-proper what words request h =
      elim (one-of (bytes_eq what (codes "chain")) (chain_of words) _ request h) [
        | inl chain ↦ chains-proper words request chain
        | inr other ↦
            elim (one-of (bytes_eq what (codes "fill")) (fill_of words) (Err Words) request other) [
              | inl fill ↦ fill-proper words request fill
              | inr none ↦ cc none
            ]
      ]

  build-proper : (rows : List Row) (request : Request) → build_of rows ≡ Ok request → IsProper request
  build-proper rows request h =
      let words : List (List ℕ) = all_or_none (all_of (codes "words") rows) in
      let form : Option (List ℕ) = first_of (codes "stdin") rows in
      let what = both-steps (needed (first_of (codes "what") rows)) _ request h in
      elim (one-of (bytes_eq what.0 (codes "tidy")) (tidy_of words form) _ request what.2) [
        | inl tidy ↦ tidy-proper words form request tidy
        | inr other ↦
            elim (one-of (is_some form) (Err Words) _ request other) [
              | inl none ↦ cc none
              | inr rest ↦ words-proper what.0 words request rest
            ]
      ]

  replay-proper : (rows : List Row) (request : Request) → replay_of how rows ≡ Ok request → IsProper request
  replay-proper rows request h =
      let word = both-steps (needed (first_of (codes "end") rows)) _ request h in
      let side = both-steps (end_of_word word.0) _ request word.2 in
      subst IsProper (same _ request side.2) (tt, tt, refl)

  pair-octets : (word : List ℕ) (pair : Pair) → pair_of word ≡ Ok pair → AreOctets pair.command × AreOctets pair.reply
  pair-octets word pair h =
      let both = both-steps (parted word) _ pair h in
      let command = both-steps (octets_of_word both.0.0) _ pair both.2 in
      let reply = both-steps (octets_of_word both.0.1) _ pair command.2 in
      subst (λ (p : Pair). AreOctets p.command × AreOctets p.reply) (same _ pair reply.2)
      (word-octets both.0.0 command.0 command.1, word-octets both.0.1 reply.0 reply.1)

  pairs-octets : (words : List (List ℕ)) (pairs : List Pair) → pairs_of words ≡ Ok pairs → AreOctetPairs pairs
  pairs-octets [] pairs h = subst AreOctetPairs (same [] pairs h) tt
  pairs-octets (word ∷ words) pairs h =
      let pair = both-steps (pair_of word) _ pairs h in
      let more = both-steps (pairs_of words) _ pairs pair.2 in
      let one = pair-octets word pair.0 pair.1 in
      subst AreOctetPairs (same _ pairs more.2) (one.0, one.1, pairs-octets words more.0 more.1)

  atr-octets : (rows : List Row) (atr : List ℕ) → atr_of rows ≡ Ok atr → AreOctets atr
  atr-octets rows atr h =
      let word = both-steps (needed (first_of (codes "atr") rows)) _ atr h in
      word-octets word.0 atr word.2

  session-proper : (words : List (List ℕ)) (rows : List Row) (session : Session) → session_of words rows ≡ Ok session
      → AreOctets session.atr × AreOctetPairs session.pairs
  session-proper words rows session h =
      let ifsd = both-steps (asked_size (first_of (codes "ifsd") rows)) _ session h in
      let lost = both-steps (blocks_of (first_of (codes "lose") rows)) _ session ifsd.2 in
      let damaged = both-steps (blocks_of (first_of (codes "damage") rows)) _ session lost.2 in
      let spoilt = both-steps (blocks_of (first_of (codes "spoil") rows)) _ session damaged.2 in
      let atr = both-steps (atr_of rows) _ session spoilt.2 in
      let pairs = both-steps (pairs_of words) _ session atr.2 in
      subst (λ (s : Session). AreOctets s.atr × AreOctetPairs s.pairs) (same _ session pairs.2)
      (atr-octets rows atr.0 atr.1, pairs-octets words pairs.0 pairs.1)

  either-proper : (lines : Bool) (session : Session) → AreOctets session.atr × AreOctetPairs session.pairs
      → IsProper (session_by lines session)
  either-proper true session h = (tt, h, tt)
  either-proper false session h = (tt, h, tt)

  simulate-proper : (form : Option (List ℕ)) (words : List (List ℕ)) (rows : List Row) (request : Request)
      → simulate_by form words rows ≡ Ok request → IsProper request
  simulate-proper form words rows request h =
      let lines = both-steps (are_lines form words) _ request h in
      let session = both-steps (session_of words rows) _ request lines.2 in
      subst IsProper (same _ request session.2)
      (either-proper lines.0 session.0 (session-proper words rows session.0 session.1))

  record-proper : (rows : List Row) (request : Request) → record_of rows ≡ Ok request → IsProper request
  record-proper rows request h =
      let atr = both-steps (atr_of rows) _ request h in
      subst IsProper (same (Record atr.0) request atr.2) (tt, atr-octets rows atr.0 atr.1, tt)

  judge-proper : (rows : List Row) (request : Request) → judge_of how rows ≡ Ok request → IsProper request
  judge-proper rows request h =
      let ends = both-steps (judged_ends (first_of (codes "end") rows)) _ request h in
      let clock = both-steps (clock_of (first_of (codes "clock") rows)) _ request ends.2 in
      let atr = both-steps (atr_of rows) _ request clock.2 in
      subst IsProper (same (Judge atr.0 (judging_of how ends.0 clock.0 rows)) request atr.2)
      (tt, atr-octets rows atr.0 atr.1, refl)

  seen-proper : (name : List ℕ) (rows : List Row) (request : Request)
      → (if bytes_eq name (codes "judge") then judge_of how rows
      else (if bytes_eq name (codes "simulate") then simulate_of rows
      else Err Words)) ≡ Ok request → IsProper request
  seen-proper name rows request h =
      elim (one-of (bytes_eq name (codes "judge")) (judge_of how rows) _ request h) [
        | inl judge ↦ judge-proper rows request judge
        | inr both ↦
            elim (one-of (bytes_eq name (codes "simulate")) _ (Err Words) request both) [
              | inl simulate ↦
                  simulate-proper (first_of (codes "stdin") rows) (all_or_none (all_of (codes "pairs") rows)) rows
                  request
                  simulate
              | inr none ↦ cc none
            ]
      ]

  drawn-proper : (name : List ℕ) (rows : List Row) (request : Request)
      → (if bytes_eq name (codes "draw") then Ok (File (Draw (drawing_of rows)))
      else (if bytes_eq name (codes "record") then record_of rows
      else (if bytes_eq name (codes "judge") then judge_of how rows
      else (if bytes_eq name (codes "simulate") then simulate_of rows
      else Err Words)))) ≡ Ok request → IsProper request
  drawn-proper name rows request h =
      elim (one-of (bytes_eq name (codes "draw")) (Ok (File (Draw (drawing_of rows)))) _ request h) [
        | inl draw ↦ subst IsProper (same (File (Draw (drawing_of rows))) request draw) (tt, tt, tt)
        | inr made ↦
            elim (one-of (bytes_eq name (codes "record")) (record_of rows) _ request made) [
              | inl recorded ↦ record-proper rows request recorded
              | inr seen ↦ seen-proper name rows request seen
            ]
      ]

  request-proper : (name : List ℕ) (rows : List Row) (request : Request) → request_by how name rows ≡ Ok request
      → IsProper request
  request-proper name rows request h =
      elim (one-of (bytes_eq name (codes "build")) (build_of rows) _ request h) [
        | inl build ↦ build-proper rows request build
        | inr files ↦
            elim (one-of (bytes_eq name (codes "replay")) (replay_of how rows) _ request files) [
              | inl replay ↦ replay-proper rows request replay
              | inr last ↦
                  elim (one-of (bytes_eq name (codes "migrate")) (Ok (File Migrate)) _ request last) [
                    | inl migrate ↦ subst IsProper (same (File Migrate) request migrate) (tt, tt, tt)
                    | inr listed ↦
                        elim (one-of (bytes_eq name (codes "apdus")) (Ok (File (Apdus how))) _ request
                        listed) [
                          | inl apdus ↦ subst IsProper (same (File (Apdus how)) request apdus) (tt, tt, refl)
                          | inr drawn ↦ drawn-proper name rows request drawn
                        ]
                  ]
            ]
      ]

  named-proper : (name : List ℕ) (rows : List Row) (asked : Asked) → asked_by how name rows ≡ Ok asked → AreProper asked
  named-proper name rows asked h =
      elim (one-of (bytes_eq name (codes "check")) (told_of how Check rows) _ asked h) [
        | inl check ↦ aimed-proper Check rows asked check
        | inr other ↦
            elim (one-of (bytes_eq name (codes "show")) (told_of how (show_aim rows) rows) _ asked other) [
              | inl show ↦ aimed-proper (show_aim rows) rows asked show
              | inr rest ↦
                  let request = both-steps (request_by how name rows) _ asked rest in
                  subst AreProper (same _ asked request.2) (request-proper name rows request.0 request.1)
            ]
      ]

  -- in what words ask for, an information size is one, and octets are octets
  pub asked-proper : (entered : Option (List ℕ × List Row)) (asked : Asked) → asked_of how entered ≡ Ok asked
      → AreProper asked
  asked-proper None asked h = cc h
  asked-proper (Some entered) asked h = named-proper entered.0 entered.1 asked h

-- the same of what words are read as
pub read-proper : (words : List (List ℕ)) (asked : Asked) → IsRead words (Ok asked) → AreSized asked
    × HaveOctets asked × AreLaid (layout_of words) asked
read-proper words asked (called_for_version version e) =
    subst (AreProper (layout_of words)) (sym (same asked (Once Version) e)) (tt, tt, tt)
read-proper words asked (taken are e) = asked-proper (layout_of words) (subcommand_of scard words) asked (sym e)
read-proper words asked (called_for_help parsed among help e) =
    subst (AreProper (layout_of words)) (sym (same asked (Once (Help help)) e)) (tt, tt, tt)
read-proper words asked (not_taken parsed other e) = absurd (cc)

-- and what is made of words, unless memory runs out, has octets for its octets
pub asked-octets : (how : Layout) (entered : Option (List ℕ × List Row)) (result : Result Asked Fault)
    → UnlessMemory result (asked_of how entered) → IfOk result HaveOctets
asked-octets how entered (Ok asked) (inl memory) = absurd (cc)
asked-octets how entered (Ok asked) (inr is) = (asked-proper how entered asked (sym is)).1
asked-octets how entered (Err fault) h = tt

-- and sizes where they have to be
pub asked-sized : (how : Layout) (entered : Option (List ℕ × List Row)) (result : Result Asked Fault)
    → UnlessMemory result (asked_of how entered) → IfOk result AreSized
asked-sized how entered (Ok asked) (inl memory) = absurd (cc)
asked-sized how entered (Ok asked) (inr is) = (asked-proper how entered asked (sym is)).0
asked-sized how entered (Err fault) h = tt

-- and the layout that was handed in
pub asked-laid : (how : Layout) (entered : Option (List ℕ × List Row)) (result : Result Asked Fault)
    → UnlessMemory result (asked_of how entered) → IfOk result (AreLaid how)
asked-laid how entered (Ok asked) (inl memory) = absurd (cc)
asked-laid how entered (Ok asked) (inr is) = (asked-proper how entered asked (sym is)).2
asked-laid how entered (Err fault) h = tt
