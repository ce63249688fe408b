-- The first words of lines.
use Rattle.std.specs.Prelude.{ℕ, List, [], ◌∷◌, codes, Option, Some, None, if◌then◌else◌}
use Rattle.std.specs.Str.{bytes_eq}
use Rattle.exchange_text.specs.declared.name.Name.{Name}
use Rattle.exchange_text.specs.declared.name.Name.TheVariants.{Command, Ifsd, Quiet, Answer, IfsSet, GivenUp, Dead, Reply, Time, Ifsc, Asked, FromTerminal, FromCard, Moment, Note}

abbrev pub name_text : Name → List ℕ
name_text Command = codes "command"
name_text Ifsd = codes "ifsd"
name_text Quiet = codes "quiet"
name_text Answer = codes "answer"
name_text IfsSet = codes "ifs-set"
name_text GivenUp = codes "given-up"
name_text Dead = codes "dead"
name_text Reply = codes "reply"
name_text Time = codes "time"
name_text Ifsc = codes "ifsc"
name_text Asked = codes "asked"
name_text FromTerminal = codes "t"
name_text FromCard = codes "c"
name_text Moment = codes "at"
name_text Note = codes "note"

-- all names, in the order of the search
abbrev pub names : List Name
names =
    FromTerminal ∷ FromCard ∷ Moment ∷ Note ∷ Command ∷ Ifsd ∷ Quiet ∷ Answer
    ∷ IfsSet ∷ GivenUp ∷ Dead ∷ Reply ∷ Time ∷ Ifsc ∷ Asked ∷ []

abbrev pub named_in : List Name → List ℕ → Option Name
named_in [] word = None
named_in (name ∷ names) word = if bytes_eq word (name_text name) then Some name else named_in names word

-- the name of a word
abbrev pub name_of : List ℕ → Option Name
name_of word = named_in names word
