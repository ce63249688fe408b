-- Spellings that are put into a buffer, and hexadecimal text.
use Rattle.std.proofs.Common.{◌≡◌, ℕ, ◌*◌, ◌/◌, ◌%◌, ◌<◌, ◌≤◌, ◌++◌, List, length, drop, sym, ap, ◌∙◌, arith, Result, Ok, Err}
use Rattle.std.specs.Prelude.{MatchResult}
use Rattle.std.specs.List.{AllPass}
use Rattle.std.proofs.lemmas.List.{take-append-drop}
use Rattle.hex.specs.Hex.{decode_of, decode_sized, is_hex_digit}
use Rattle.hex.specs.declared.error.FromHexError.{FromHexError}
use Rattle.hex.proofs.HexLemmas.{decode_of-digits, decode_of-ok, decode_sized-twice}
use Rattle.apdu_core.specs.Put.{IsPutAt}
use Rattle.c_lent.specs.Verdict.{Puts, ok_at, wrong_argument}
use Rattle.c_lent.specs.Hex.{PutsText}
use Rattle.c_lent.specs.declared.verdict.Verdict.{Verdict}
use Rattle.c_lent.proofs.Puts.{verdict-fits, verdict-lacks, buffer-fits, buffer-lacks}

-- what has a spelling is put into a buffer with room for it
pub spelled-put : (Spells : List ℕ → Type 0) (octets old new : List ℕ) (count : ℕ) (v : Verdict) → Spells octets
    → length octets ≤ length old → IsPutAt 0 octets old new count → v ≡ ok_at count → Puts Spells old new v
spelled-put Spells octets old new count v spells room put is =
    let same : count ≡ length octets = omega (arith, put.ends) in
    record {
      octets = octets;
      spells = spells;
      verdict = is ∙ ap ok_at same ∙ sym (verdict-fits octets old room);
      buffer = sym (take-append-drop count new) ∙ ap (λ (l : List ℕ). l ++ drop count new) put.front
          ∙ ap (λ (l : List ℕ). octets ++ l) (put.kept ∙ ap (λ (n : ℕ). drop n old) same)
          ∙ sym (buffer-fits octets old room);
    }

-- where there is no room for it, the buffer stays
pub spelled-lacks : (Spells : List ℕ → Type 0) (octets old new : List ℕ) (v : Verdict) → Spells octets
    → length old < length octets → v ≡ wrong_argument (length octets) → new ≡ old → Puts Spells old new v
spelled-lacks Spells octets old new v spells few is same = record {
  octets = octets;
  spells = spells;
  verdict = is ∙ sym (verdict-lacks octets old few);
  buffer = same ∙ sym (buffer-lacks octets old few);
}

-- a text of digits, decoded into just the room that it needs
pub digits-decoded : (text : List ℕ) (n : ℕ) (r : Result (Unit {0}) FromHexError) (new : List ℕ)
    → AllPass is_hex_digit text → length text ≡ 2 * n
    → MatchResult (decode_sized text n) (λ bytes. (r ≡ Ok tt) × (new ≡ bytes)) (λ e. r ≡ Err e)
    → decode_of text ≡ Ok new
digits-decoded text n r new digits twice is =
    let d = decode_of-digits text (omega arith) digits in
    let put : (r ≡ Ok tt) × (new ≡ d.0) = rw (decode_sized-twice text n twice, d.1) at is in
    d.1 ∙ ap Ok (sym put.1)

-- where there is no room for its octets, the buffer stays
pub digits-lack : (text old : List ℕ) (v : Verdict) → AllPass is_hex_digit text → length text % 2 ≡ 0
    → length old < length text / 2 → v ≡ wrong_argument (length text / 2) → PutsText text old old v
digits-lack text old v digits even few is =
    let d = decode_of-digits text even digits in
    let twice : length text ≡ 2 * length d.0 = (decode_of-ok text d.0 d.1).2 in
    let half : length text / 2 ≡ length d.0 = omega (arith, twice) in
    let less : length old < length d.0 = omega (arith, half, few) in
    record {
      octets = d.0;
      decoded = d.1;
      verdict = is ∙ ap wrong_argument half ∙ sym (verdict-lacks d.0 old less);
      buffer = sym (buffer-lacks d.0 old less);
    }
