-- The characters of notes.
use Rattle.std.proofs.Common.{◌≡◌, ℕ, zero, suc, List, [], ◌∷◌, ◌<◌, ◌≤◌, ◌&&◌, true, nat_le, length, rules, arith}
use Rattle.std.specs.List.{list_all}
use Rattle.std.specs.Str.{IsAscii, IsUtf8}
use Rattle.std.proofs.lemmas.Str.{IsUtf8-from_ascii}
use Rattle.exchange_text.specs.Exchange.{is_note, is_printable}
use Rattle.exchange_text.proofs.Naming.{both}

small : (c : ℕ) → nat_le c 0x7E ≡ true → c < 128
small c h = let le : c ≤ 0x7E = search (rules, h) in omega arith

below : (c : ℕ) → is_printable c ≡ true → c < 128
below c h = let p = (both (nat_le 0x20 c) (nat_le c 0x7E) h).1 in small c p

ascii : (text : List ℕ) → list_all is_printable text ≡ true → IsAscii text
ascii [] h i = omega arith
ascii (c ∷ text) h zero = below c (both (is_printable c) (list_all is_printable text) h).0
ascii (c ∷ text) h (suc i) = ascii text (both (is_printable c) (list_all is_printable text) h).1 i

-- all characters of a note are printable
pub printable : (text : List ℕ) → is_note text ≡ true → list_all is_printable text ≡ true
printable text h = (both (nat_le 1 (length text) && nat_le (length text) 200) (list_all is_printable text) h).1

-- a note is a text
pub note-text : (text : List ℕ) → is_note text ≡ true → IsUtf8 text
note-text text h = IsUtf8-from_ascii text (ascii text (printable text h))
