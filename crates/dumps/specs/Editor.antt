-- Rows as editors and debuggers write them: HxD and PowerShell under a heading, gdb after an address.
use Rattle.std.specs.Prelude.{ℕ, suc, ◌==◌, ◌&&◌, ◌||◌, nat_le, not, List, [], ◌∷◌, codes, Bool, false, Option, Some, None, if◌then◌else◌}
use Rattle.std.specs.Str.{bytes_eq}
use Rattle.dumps.specs.Bases.{offset_from}
use Rattle.dumps.specs.Characters.{is_pair, is_within, joined_to, octet_at, shown}
use Rattle.dumps.specs.Words.{is_mark}
use Rattle.dumps.specs.declared.base.Base.TheVariants.{Hexadecimal}

-- ---- headings

abbrev pub begins_path : List ℕ → Bool
begins_path (a ∷ b ∷ c ∷ d ∷ e ∷ more) = a == 80 && (b == 97 && (c == 116 && (d == 104 && e == 58)))
begins_path _ = false

abbrev pub begins_label : List ℕ → Bool
begins_label (a ∷ b ∷ c ∷ d ∷ e ∷ f ∷ more) =
    a == 76 && (b == 97 && (c == 98 && (d == 101 && (e == 108 && f == 58))))
begins_label _ = false

-- the numbers of the octets of a row, as HxD or PowerShell writes them
abbrev pub has_numbers : List ℕ → Bool
has_numbers line = bytes_eq line (codes "Offset(h) 00 01 02 03 04 05 06 07 08 09 0A 0B 0C 0D 0E 0F")
    || bytes_eq line (codes "00 01 02 03 04 05 06 07 08 09 0A 0B 0C 0D 0E 0F")

-- the names of PowerShell's columns, and the rule under them
abbrev pub has_columns : List ℕ → Bool
has_columns line = bytes_eq line (codes "Offset Bytes                                           Ascii")
    || bytes_eq line (codes "------ ----------------------------------------------- -----")

-- a line of a heading, after its blanks: HxD's, PowerShell's, or PowerShell's about its input
abbrev pub is_title : List ℕ → Bool
is_title line =
    has_numbers line || (has_columns line || (begins_path line || begins_label line))

-- ---- a column in UTF-8

-- an octet of UTF-8 that continues a character
abbrev pub is_more : ℕ → Bool
is_more x = is_within 128 191 x

abbrev pub characters : List ℕ → ℕ
characters [] = 0
characters (x ∷ text) = if is_more x then characters text else suc (characters text)

abbrev pub after_more : List ℕ → List ℕ
after_more [] = []
after_more (x ∷ text) = if is_more x then after_more text else x ∷ text

-- an octet 20 to 7E is shown as it is, any other octet as a full stop or as a character beyond ASCII
abbrev pub may_show : ℕ → ℕ → Bool
may_show octet x = x == shown octet || (nat_le 192 x && not (is_within 32 126 octet))

-- the text after the characters that show these octets, if it begins with them
abbrev pub after_column : List ℕ → List ℕ → Option (List ℕ)
after_column [] text = Some text
after_column (octet ∷ octets) [] = None
after_column (octet ∷ octets) (x ∷ text) = if may_show octet x then after_column octets (after_more text) else None

-- ---- gdb

-- a text begins with >, : and a tab, which end a symbol
abbrev pub is_close : List ℕ → Bool
is_close (x ∷ y ∷ z ∷ text) = x == 62 && (y == 58 && z == 9)
is_close _ = false

-- the text after the > that ends a symbol
abbrev pub after_close : List ℕ → List ℕ
after_close [] = []
after_close (x ∷ text) = if is_close (x ∷ text) then text else after_close text

abbrev pub after_symbol : List ℕ → List ℕ
after_symbol (x ∷ y ∷ text) = if x == 32 && y == 60 then after_close text else x ∷ y ∷ text
after_symbol text = text

abbrev pub after_address : ℕ → List ℕ → Option (ℕ × List ℕ)
after_address at (x ∷ text) = if x == 58 then Some (at, text) else None
after_address at [] = None

-- the address that gdb writes before a row, with or without a symbol, and the text after its :
abbrev pub addressed : List ℕ → Option (ℕ × List ℕ)
addressed (a ∷ b ∷ line) = if is_mark a b
    then (let read = offset_from Hexadecimal 0 line in after_address read.0 (after_symbol read.1)) else None
addressed _ = None

-- the octet after a tab and 0x, and the text after it
abbrev pub tab_octet : List ℕ → Option (ℕ × List ℕ)
tab_octet (t ∷ z ∷ m ∷ x ∷ y ∷ more) = if t == 9 && (z == 48 && (m == 120 && is_pair x y))
    then Some (octet_at x y, more) else None
tab_octet _ = None

-- the octets in front of a text, each after a tab and 0x, and the text after them
abbrev pub tabbed : List ℕ → List ℕ × List ℕ
tabbed (t ∷ z ∷ m ∷ x ∷ y ∷ more) = if t == 9 && (z == 48 && (m == 120 && is_pair x y))
    then joined_to (octet_at x y ∷ []) (tabbed more) else ([], t ∷ z ∷ m ∷ x ∷ y ∷ more)
tabbed text = ([], text)
