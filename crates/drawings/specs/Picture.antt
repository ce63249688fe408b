-- The drawing as a picture in SVG, with the same rows.
use Rattle.std.specs.Prelude.{ℕ, ◌+◌, ◌*◌, ◌==◌, List, [], ◌∷◌, ◌++◌, codes, decimal, length, if◌then◌else◌}
use Rattle.exchange_text.specs.Exchange.{ExchangeParts}
use Rattle.exchange_text.specs.declared.exchange.Version.{Version}
use Rattle.drawings.specs.Ladder.{version_words}
use Rattle.drawings.specs.Rows.{rows_of}
use Rattle.drawings.specs.declared.row.Course.{Course}
use Rattle.drawings.specs.declared.row.Course.TheVariants.{Arrives, Lost, Added}
use Rattle.drawings.specs.declared.row.Row.{Row}
use Rattle.drawings.specs.declared.row.Row.TheVariants.{Said, Between, Block}
use Rattle.block_core.specs.declared.side.Side.{Side}
use Rattle.block_core.specs.declared.side.Side.TheVariants.{Terminal, Card}

-- the height of a row, in units of the picture, and where the first row begins
abbrev pub row_height : ℕ
row_height = 24

abbrev pub first_row : ℕ
first_row = 36

-- a character as SVG needs it
abbrev pub escape : ℕ → List ℕ
escape c =
    if c == 38 then codes "&amp;"
    else if c == 60 then codes "&lt;"
    else if c == 62 then codes "&gt;"
    else c ∷ []

abbrev pub escaped : List ℕ → List ℕ
escaped [] = []
escaped (c ∷ text) = escape c ++ escaped text

-- a number in decimal digits, with a text before it and one after
abbrev pub enclosed : List ℕ → ℕ → List ℕ → List ℕ
enclosed before number after = before ++ (decimal number ++ after)

-- a label as text, after its position
abbrev pub label_text : List ℕ → List ℕ → List ℕ
label_text before label = before ++ (escaped label ++ codes "</text>")

abbrev pub at_side : Side → List ℕ
at_side Terminal = codes "<text x=\"92\" y=\"14\">"
at_side Card = codes "<text class=\"card\" x=\"768\" y=\"14\">"

-- the arrow of a block from a side
abbrev pub arrow : Side → Course → List ℕ
arrow Terminal Arrives = codes "<path d=\"M80 19H780m-7-4 7 4-7 4\"/>"
arrow Terminal Lost = codes "<path class=\"lost\" d=\"M80 19H640m-5-5 10 10m0-10-10 10\"/>"
arrow Terminal Added = codes "<path class=\"lost\" stroke-dasharray=\"2 4\" d=\"M80 19H640m-5-5 10 10m0-10-10 10\"/>"
arrow Card Arrives = codes "<path d=\"M780 19H80m7-4-7 4 7 4\"/>"
arrow Card Lost = codes "<path class=\"lost\" d=\"M780 19H220m-5-5 10 10m0-10-10 10\"/>"
arrow Card Added = codes "<path class=\"lost\" stroke-dasharray=\"2 4\" d=\"M780 19H220m-5-5 10 10m0-10-10 10\"/>"

-- the number of a block
unfoldable pub number_text : ℕ → List ℕ
number_text number = enclosed (codes "<text class=\"number\" x=\"68\" y=\"16\">") number (codes "</text>")

-- the content of a row
abbrev pub parts_text : Row → List ℕ
parts_text (Said side label) = label_text (at_side side) label
parts_text (Between label) = label_text (codes "<text class=\"middle\" x=\"430\" y=\"14\">") label
parts_text (Block number from course label) =
    number_text number ++ (arrow from course ++ label_text (at_side from) label)

-- a row that begins at this height
abbrev pub row_text : ℕ → Row → List ℕ
row_text top row =
    enclosed (codes "<g transform=\"translate(0 ") top (codes ")\">") ++ (parts_text row ++ codes "</g>\n")

-- each row, below the row before
abbrev pub rows_text : ℕ → List Row → List ℕ
rows_text top [] = []
rows_text top (row ∷ rows) = row_text top row ++ rows_text (top + row_height) rows

-- the vertical lines of both sides, of this length
unfoldable pub lines_text : ℕ → List ℕ
lines_text len =
    enclosed (codes "</text>\n<path d=\"M80 26v") len [] ++ enclosed (codes "M780 26v") len (codes "\"/>\n")

-- the style of the picture, dark if the browser is, and both sides
unfoldable pub style_text : List ℕ
style_text = codes "\">\n"
    ++ (codes "<title>A recorded exchange between terminal and card</title>\n"
    ++ (codes "<style>\n"
    ++ (codes "svg { background: #fff; color: #222; font: 12px monospace; }\n"
    ++ (codes "text { fill: currentColor; white-space: pre; }\n"
    ++ (codes "path { fill: none; stroke: currentColor; }\n"
    ++ (codes ".number, .card { text-anchor: end; }\n"
    ++ (codes ".middle { text-anchor: middle; }\n"
    ++ (codes ".lost { stroke: #c00; }\n"
    ++ (codes "@media (prefers-color-scheme: dark) { svg { background: #111; color: #ddd; } .lost { stroke: #f66; } }\n"
    ++ (codes "</style>\n"
    ++ (codes "<text class=\"middle\" x=\"80\" y=\"18\">terminal</text>\n"
    ++ (codes "<text class=\"middle\" x=\"780\" y=\"18\">card</text>\n"
    ++ (codes "<text class=\"middle\" x=\"430\" y=\"18\">")))))))))))))

-- what comes before the height of the picture
unfoldable pub before_height : List ℕ
before_height = codes "<svg xmlns=\"http://www.w3.org/2000/svg\" role=\"img\" width=\"860\" height=\""

-- the beginning of the picture, with the height of its rows
unfoldable pub open_text : ℕ → List ℕ
open_text height = enclosed before_height (height + first_row) style_text

-- what comes before the rows
abbrev pub head_text : Version → ℕ → List ℕ
head_text version height = open_text height ++ (version_words version ++ lines_text height)

-- the picture of rows, with this height
abbrev pub rows_picture : Version → ℕ → List Row → List ℕ
rows_picture version height rows = head_text version height ++ (rows_text first_row rows ++ codes "</svg>\n")

abbrev pub picture_text : ExchangeParts → List ℕ
picture_text e = rows_picture e.version (length (rows_of e) * row_height) (rows_of e)
