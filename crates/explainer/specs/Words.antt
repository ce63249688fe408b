-- The notes on words that aren't a request: the number of the first wrong word, and what it must be.
use Rattle.std.specs.Prelude.{◌≡◌, ◌≢◌, ℕ, nat_le, nat_lt, not, Bool, true, false, ◌&&◌, ◌||◌, ◌+◌, ◌*◌, ◌%◌, List, ◌++◌, [], ◌∷◌, bytes_eq, chars, codes, drop, encode_utf8, is_ok, length, map, ◌==◌, Option, Some, None, Result, Ok, Err, if◌then◌else◌}
use Rattle.std.specs.Char.{is_ascii_hexdigit}
use Rattle.std.specs.List.{list_any}
use Rattle.clap.specs.Words.{fault_of}
use Rattle.octet_core.specs.Words.{is_blank}
use Rattle.chain_core.specs.Chain.{longest_message}
use Rattle.command_line.specs.Form.{scard}
use Rattle.program_words.specs.Session.{blocks_of}
use Rattle.program_words.specs.Value.{parted}
use Rattle.program_words.specs.Words.{clock_of, kind_of, number_of_word, one_end, size_of}
use Rattle.program_words.specs.declared.fault.Fault.{Fault}
use Rattle.explainer.specs.Notes.{digit_note, odd_note, word_note}
use Rattle.explainer.specs.Places.{has_option, has_place, nth_word, option_place, option_value, place_of, places, subcommand, subcommand_place, word_at}
use Rattle.explainer.specs.Texts.{is_mark}

-- ---- words as they are shown

-- a question mark for a control character
abbrev pub shown_character : ℕ → ℕ
shown_character c = if nat_le c 31 || (nat_le 127 c && nat_le c 159) then 63 else c

abbrev pub shown_characters : List ℕ → List ℕ
shown_characters [] = []
shown_characters (c ∷ word) = encode_utf8 (shown_character c) ++ shown_characters word

abbrev pub shown_word : List ℕ → List ℕ
shown_word word = shown_characters (chars word)

abbrev pub shown_words : List (List ℕ) → List (List ℕ)
shown_words = map shown_word

-- ---- octets as a word

-- the first character that isn't a digit, and its place in characters
abbrev pub stray_from : ℕ → List ℕ → Option (ℕ × ℕ)
stray_from place [] = None
stray_from place (c ∷ word) = if is_ascii_hexdigit c then stray_from (place + 1) word else Some (place, c)

abbrev pub or_odd : ℕ → List ℕ → Option (ℕ × ℕ) → List ℕ
or_odd number word (Some (place, c)) = digit_note number (shown_character c) place
or_odd number word None = if length word % 2 == 1 then odd_note number (length word) else []

-- what is wrong with octets in hexadecimal, in the word with this number; empty if they are right
abbrev pub digits_note : ℕ → List ℕ → List ℕ
digits_note number word = or_odd number word (stray_from 0 (chars word))

-- what is wrong with octets in hexadecimal or `none`
abbrev pub hex_note : ℕ → List ℕ → List ℕ
hex_note number word = if bytes_eq word (codes "none") then [] else digits_note number word

-- two adjacent characters of a word are a 0x
abbrev pub has_mark_after : ℕ → List ℕ → Bool
has_mark_after last [] = false
has_mark_after last (x ∷ word) = is_mark last x || has_mark_after x word

-- which form of standard input reads what a word looks like: octets with blanks or 0x, octets with colons, dashes or
-- commas, or the name of a file
abbrev pub way_in : List ℕ → List ℕ
way_in word =
    if list_any is_blank word || has_mark_after 32 word
    then codes "--stdin hex reads octets with blanks or 0x from standard input\n"
    else (if list_any (λ x. x == 58 || (x == 45 || x == 44)) word
    then codes "--stdin source reads octets with colons, dashes or commas from standard input\n"
    else (if list_any (λ x. x == 46 || x == 47) word
    then codes "give the file on standard input: --stdin hex <FILE\n" else []))

abbrev pub octets_note : ℕ → List ℕ → List ℕ
octets_note number word =
    if length (hex_note number word) == 0 then [] else hex_note number word ++ way_in word

-- ---- one word or another

-- the first of two notes, or the other if it is empty
abbrev pub or_note : List ℕ → List ℕ → List ℕ
or_note note other = if length note == 0 then other else note

-- the first note that isn't empty on the words with these numbers
abbrev pub first_note : (ℕ → List ℕ → List ℕ) → List (List ℕ) → List ℕ → List ℕ
first_note said words [] = []
first_note said words (number ∷ numbers) =
    or_note (said number (word_at words number)) (first_note said words numbers)

-- a note on the word with the value of an option
abbrev pub option_note : List (List ℕ) → List ℕ → List ℕ → List ℕ
option_note words name what = word_note (option_place words name) what

-- the note on octets as the word HEX, which has this index after the subcommand, or on standard input; `forms` is the
-- sentence for a wrong form
abbrev pub given_note : List (List ℕ) → ℕ → List ℕ → List ℕ
given_note words nth forms =
    if has_option words (codes "--stdin") then
    (if has_place words nth then word_note (place_of words nth) (codes "give HEX or --stdin, not both")
    else option_note words (codes "--stdin") forms)
    else (if has_place words nth then octets_note (place_of words nth) (nth_word words nth)
    else codes "give the octets as HEX, or by --stdin FORM\n")

-- ---- the words of each subcommand

-- KIND HEX
abbrev pub input_note : List (List ℕ) → List ℕ
input_note words =
    if is_ok (kind_of (nth_word words 0))
    then given_note words 1 (codes "FORM must be hex, octets, dump, source or lines")
    else word_note (place_of words 0) (codes "KIND must be atr, block, chain, command, response, tlv or dol")

-- tidy HEX
abbrev pub tidy_note : List (List ℕ) → List ℕ
tidy_note words =
    if has_place words 2 then word_note (place_of words 2) (codes "build tidy takes one word: HEX")
    else given_note words 1 (codes "FORM must be hex, octets, dump or source")

-- octets only as a word
abbrev pub nth_note : List (List ℕ) → ℕ → List ℕ
nth_note words nth = hex_note (place_of words nth) (nth_word words nth)

-- HEX, the message of a chain
abbrev pub message_note : List (List ℕ) → List ℕ
message_note words =
    if nat_lt (longest_message * 2) (length (nth_word words 3))
    then word_note (place_of words 3) (codes "a message has at most 131072 octets")
    else nth_note words 3

-- IFS NUMBER HEX
abbrev pub numbers_note : List (List ℕ) → List ℕ
numbers_note words =
    if not (is_ok (size_of (Some (nth_word words 1))))
    then word_note (place_of words 1) (codes "IFS must be a number from 1 to 254")
    else (if not (is_ok (number_of_word (nth_word words 2)))
    then word_note (place_of words 2) (codes "NUMBER must be 0 or 1")
    else message_note words)

-- only a forest to tidy can come from standard input
abbrev pub unless_read : List (List ℕ) → List ℕ → List ℕ
unless_read words note =
    if has_option words (codes "--stdin")
    then option_note words (codes "--stdin") (codes "only build tidy takes --stdin") else note

-- chain IFS NUMBER HEX
abbrev pub chain_note : List (List ℕ) → List ℕ
chain_note words = unless_read words (if not (has_place words 3) || has_place words 4
    then codes "build chain takes three words: IFS NUMBER HEX\n" else numbers_note words)

-- fill DOL
abbrev pub list_note : List (List ℕ) → List ℕ
list_note words = unless_read words (if has_place words 1 then nth_note words 1
    else codes "build fill takes DOL, and then any number of F:TAG:VALUE\n")

abbrev pub build_note : List (List ℕ) → List ℕ
build_note words =
    if bytes_eq (nth_word words 0) (codes "tidy") then tidy_note words
    else (if bytes_eq (nth_word words 0) (codes "chain") then chain_note words
    else (if bytes_eq (nth_word words 0) (codes "fill") then list_note words
    else word_note (place_of words 0) (codes "WHAT must be chain, tidy or fill")))

-- an option is given, and its value is wrong
abbrev pub is_wrong : (List ℕ → Bool) → List (List ℕ) → List ℕ → Bool
is_wrong is_right words name = has_option words name && not (is_right (option_value words name))

abbrev pub is_wrong_end : List (List ℕ) → Bool
is_wrong_end words = is_wrong (λ word. is_ok (one_end word)) words (codes "--end")

abbrev pub is_wrong_clock : List (List ℕ) → Bool
is_wrong_clock words = is_wrong (λ word. is_ok (clock_of (Some word))) words (codes "--clock")

-- the end to judge, the clock, and an answer to reset
abbrev pub judge_note : List (List ℕ) → List ℕ
judge_note words =
    if is_wrong_end words then option_note words (codes "--end") (codes "END must be terminal or card")
    else (if is_wrong_clock words then option_note words (codes "--clock")
    (codes "HZ must be 1 to 1000000000, in decimal digits without a leading 0")
    else nth_note words 0)

-- ---- a session

-- COMMAND:REPLY
abbrev pub both_note : ℕ → Result (List ℕ × List ℕ) Fault → List ℕ
both_note number (Ok both) = or_note (hex_note number both.0) (hex_note number both.1)
both_note number (Err fault) = word_note number (codes "a pair must have the form COMMAND:REPLY")

abbrev pub pair_note : ℕ → List ℕ → List ℕ
pair_note number word = both_note number (parted word)

-- a list of blocks
abbrev pub is_list : List ℕ → Bool
is_list word = is_ok (blocks_of (Some word))

abbrev pub is_wrong_list : List (List ℕ) → List ℕ → Bool
is_wrong_list words name = is_wrong is_list words name

-- the first option that names blocks and whose value isn't a list
abbrev pub wrong_list : List (List ℕ) → Option (List ℕ)
wrong_list words =
    if is_wrong_list words (codes "--lose") then Some (codes "--lose")
    else (if is_wrong_list words (codes "--damage") then Some (codes "--damage")
    else (if is_wrong_list words (codes "--spoil") then Some (codes "--spoil") else None))

-- the first word that should be a pair and isn't
abbrev pub pairs_note : List (List ℕ) → List ℕ
pairs_note words = first_note pair_note words (drop 1 (places words))

-- the options, and then the answer to reset and the pairs
abbrev pub listed_note : List (List ℕ) → Option (List ℕ) → List ℕ
listed_note words (Some name) = option_note words name (codes
    "LIST must be numbers from 1 and ranges such as 2-5, with commas between; ranges name at most 1000000 blocks")
listed_note words None = or_note (nth_note words 0) (pairs_note words)

-- both pairs and a form of standard input for them are given
abbrev pub has_both : List (List ℕ) → Bool
has_both words = has_option words (codes "--stdin") && has_place words 1

abbrev pub is_wrong_form : List (List ℕ) → Bool
is_wrong_form words = is_wrong (λ word. bytes_eq word (codes "lines")) words (codes "--stdin")

-- where the pairs come from is checked first
abbrev pub session_note : List (List ℕ) → List ℕ
session_note words =
    if has_both words
    then word_note (place_of words 1) (codes "give COMMAND:REPLY or --stdin, not both")
    else (if is_wrong_form words then option_note words (codes "--stdin") (codes "FORM must be lines")
    else listed_note words (wrong_list words))

-- ---- all words

-- the first wrong word, for words that the parser of command lines accepts
abbrev pub taken_note : List (List ℕ) → List ℕ → List ℕ
taken_note words name =
    if bytes_eq name (codes "check") || bytes_eq name (codes "show") then input_note words
    else (if bytes_eq name (codes "build") then build_note words
    else (if bytes_eq name (codes "replay")
    then option_note words (codes "--end") (codes "END must be terminal, card or both")
    else (if bytes_eq name (codes "record") then nth_note words 0
    else (if bytes_eq name (codes "judge") then judge_note words
    else (if bytes_eq name (codes "simulate") then session_note words
    else codes
    "give a subcommand: check, show, build, replay, migrate, apdus, draw, record, judge or simulate\n")))))

-- ---- words that the parser of command lines refuses

abbrev pub version_said : List ℕ
version_said = codes "--version takes no other word: scard --version\n"

abbrev pub has_word : List ℕ → List (List ℕ) → Bool
has_word wanted words = list_any (λ word. bytes_eq word wanted) words

abbrev pub has_version : List (List ℕ) → Bool
has_version words = has_word (codes "--version") words

-- a subcommand that reads a file from standard input and takes no word for it
abbrev pub reads_a_file : List ℕ → Bool
reads_a_file word = bytes_eq word (codes "replay") || (bytes_eq word (codes "migrate") || (bytes_eq word (codes "apdus")
    || (bytes_eq word (codes "draw") || (bytes_eq word (codes "record") || bytes_eq word (codes "judge")))))

abbrev pub is_subcommand : List ℕ → Bool
is_subcommand word = reads_a_file word || (bytes_eq word (codes "check") || (bytes_eq word (codes "show")
    || (bytes_eq word (codes "build") || bytes_eq word (codes "simulate"))))

-- what the word help takes: the example is this subcommand, or check
abbrev pub topic : List ℕ → List ℕ
topic word = if is_subcommand word then word else codes "check"

abbrev pub help_note : List (List ℕ) → List ℕ
help_note words = codes "help takes one subcommand and no other word: scard help "
    ++ (topic (word_at words (subcommand_place words + 1)) ++ codes "\n")

abbrev pub is_help : List (List ℕ) → Bool
is_help words = bytes_eq (subcommand words) (codes "help")

-- The note on words as they are shown. For words that the parser refuses it is the parser's message, which no clause
-- defines, unless they have --version or their first word is help.
pub data IsShownNote (words : List (List ℕ)) (note : List ℕ) : Type 0 where
  taken : fault_of scard words ≡ [] → note ≡ taken_note words (subcommand words) → IsShownNote words note
  version : fault_of scard words ≢ [] → has_version words ≡ true → note ≡ version_said → IsShownNote words note
  help : fault_of scard words ≢ [] → has_version words ≡ false → is_help words ≡ true → note ≡ help_note words
      → IsShownNote words note
  refused : fault_of scard words ≢ [] → has_version words ≡ false → is_help words ≡ false → IsShownNote words note

abbrev pub IsWordsNote : List (List ℕ) → List ℕ → Type 0
IsWordsNote words note = IsShownNote (shown_words words) note
