-- The drawing as lines of text, one for each row, with at most 100 columns.
use Rattle.std.specs.Prelude.{ℕ, ◌-◌, List, [], ◌∷◌, ◌++◌, codes, decimal, length}
use Rattle.std.specs.List.{repeat}
use Rattle.exchange_text.specs.Exchange.{ExchangeParts}
use Rattle.exchange_text.specs.declared.exchange.Version.{Version}
use Rattle.exchange_text.specs.declared.exchange.Version.TheVariants.{One, Two}
use Rattle.drawings.specs.Rows.{rows_of}
use Rattle.drawings.specs.declared.row.Course.{Course}
use Rattle.drawings.specs.declared.row.Course.TheVariants.{Arrives, Lost, Added}
use Rattle.drawings.specs.declared.row.Row.{Row}
use Rattle.drawings.specs.declared.row.Row.TheVariants.{Said, Between, Block}
use Rattle.block_core.specs.declared.side.Side.{Side}
use Rattle.block_core.specs.declared.side.Side.TheVariants.{Terminal, Card}

-- the columns of a number and the blank after it; those from the terminal to the card; those before a text in the
-- middle
abbrev pub margin : ℕ
margin = 7

abbrev pub width : ℕ
width = 93

abbrev pub middle : ℕ
middle = 27

-- the characters of an arrow without its label and its dashes
abbrev pub around : ℕ
around = 8

-- the blanks on each side of the version
abbrev pub half : ℕ
half = 36

abbrev pub blanks : ℕ → List ℕ
blanks count = repeat count (codes " ")

-- a label after so many blanks
abbrev pub after : ℕ → List ℕ → List ℕ
after count label = blanks count ++ label

-- a label at the edge of a side
abbrev pub said_text : Side → List ℕ → List ℕ
said_text Terminal label = blanks margin ++ label
said_text Card label = blanks margin ++ after (width - length label) label

-- the number of a block, right-aligned in its columns, and a blank
abbrev pub number_text : ℕ → List ℕ
number_text number = blanks (margin - 1 - length (decimal number)) ++ (decimal number ++ codes " ")

-- a text so many times, with one text before and one after
abbrev pub trail : List ℕ → List ℕ → ℕ → List ℕ → List ℕ
trail before fill count after = before ++ (repeat count fill ++ after)

-- what is between a label of so many characters and the card: an arrow to the card, or one that ends before it; it has
-- dots if nobody saw the block
abbrev pub to_card : Course → ℕ → List ℕ
to_card Arrives len = trail (codes " ") (codes "-") (width - around - len) (codes "->|")
to_card Lost len = trail (codes " -x") (codes " ") (width - around - len) (codes "|")
to_card Added len = trail (codes " .x") (codes " ") (width - around - len) (codes "|")

-- what is between the terminal and a label
abbrev pub to_terminal : Course → ℕ → List ℕ
to_terminal Arrives len = trail (codes "|<-") (codes "-") (width - around - len) (codes " ")
to_terminal Lost len = trail (codes "|") (codes " ") (width - around - len) (codes "x- ")
to_terminal Added len = trail (codes "|") (codes " ") (width - around - len) (codes "x. ")

-- the beginning of an arrow
abbrev pub shaft : Course → List ℕ
shaft Arrives = codes "--"
shaft Lost = codes "--"
shaft Added = codes ".."

-- an arrow with a label, from a side
abbrev pub arrow_text : Side → Course → List ℕ → List ℕ
arrow_text Terminal course label =
    codes "|" ++ (shaft course ++ (codes " " ++ (label ++ to_card course (length label))))
arrow_text Card course label =
    to_terminal course (length label) ++ (label ++ (codes " " ++ (shaft course ++ codes "|")))

abbrev pub row_text : Row → List ℕ
row_text (Said side label) = said_text side label
row_text (Between label) = after middle label
row_text (Block number from course label) = number_text number ++ arrow_text from course label

abbrev pub rows_text : List Row → List ℕ
rows_text [] = []
rows_text (row ∷ rows) = row_text row ++ (codes "\n" ++ rows_text rows)

-- the version of a file, as words
abbrev pub version_words : Version → List ℕ
version_words One = codes "version 1"
version_words Two = codes "version 2"

-- both sides and the text between them, with so many blanks around it
abbrev pub sides_text : List ℕ → ℕ → List ℕ
sides_text between count = codes "terminal" ++ (blanks count ++ (between ++ (blanks count ++ codes "card\n")))

-- the first line: both sides, and the version of the file between them
abbrev pub head_text : Version → List ℕ
head_text version = blanks margin ++ sides_text (version_words version) half

abbrev pub ladder_text : ExchangeParts → List ℕ
ladder_text e = head_text e.version ++ rows_text (rows_of e)
