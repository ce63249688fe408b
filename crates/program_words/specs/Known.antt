-- Known values as words, each F:TAG:VALUE.
use Rattle.std.specs.Prelude.{ℕ, List, codes, Result, Ok, Err, if◌then◌else◌}
use Rattle.std.specs.Str.{bytes_eq}
use Rattle.hex.specs.Hex.{decode_of}
use Rattle.octet_core.specs.declared.format.Format.{Format}
use Rattle.octet_core.specs.declared.format.Format.TheVariants.{Numeric, CompressedNumeric, Other}
use Rattle.tlv_core.specs.Tag.{is_tag}
use Rattle.tlv_core.specs.declared.known.Known.{Known}
use Rattle.program_words.specs.Value.{◌>>=◌, each, hex_octets, octets_of_word, parted}
use Rattle.program_words.specs.declared.fault.Fault.{Fault}
use Rattle.program_words.specs.declared.fault.Fault.TheVariants.{Words}

-- a format as a word: numeric, compressed numeric or another
abbrev pub format_of : List ℕ → Result Format Fault
format_of word =
    if bytes_eq word (codes "n") then Ok Numeric
    else (if bytes_eq word (codes "c") then Ok CompressedNumeric
    else (if bytes_eq word (codes "o") then Ok Other
    else Err Words))

abbrev pub tag_of : List ℕ → Result (List ℕ) Fault
tag_of octets = if is_tag octets then Ok octets else Err Words

-- a tag as a word; `none` isn't one
abbrev pub tag_of_word : List ℕ → Result (List ℕ) Fault
tag_of_word word = hex_octets (decode_of word) >>= tag_of

-- a known value from three words, read from left to right
abbrev pub known_by : List ℕ → List ℕ → List ℕ → Result Known Fault
known_by format_word tag_word value_word = do
  format ← format_of format_word
  tag ← tag_of_word tag_word
  value ← octets_of_word value_word
  Ok (record { tag = tag; format = format; value = value })

-- F:TAG:VALUE, cut at its first two colons before its parts are read
abbrev pub known_of : List ℕ → Result Known Fault
known_of word = do
  first ← parted word
  second ← parted first.1
  known_by first.0 second.0 second.1

abbrev pub knowns_of : List (List ℕ) → Result (List Known) Fault
knowns_of = each known_of
