-- Notes on octets for people, as C requests them.
use Rattle.std.specs.Prelude.{ℕ, ◌==◌, [], Option, Some, None, if◌then◌else◌}
use Rattle.notes.specs.Says.{NoteText, words, status_says, instruction_says, class_says, pcb_says, nad_says, td_says, mode_says, tag_says}
use Rattle.c_lent.specs.declared.note.About.{About}
use Rattle.c_lent.specs.declared.note.About.TheVariants.{Status, Instruction, Class, Pcb, Nad, Td, Ta2, Tag}

-- what octets are, by its number in the header
abbrev pub about_of : ℕ → Option About
about_of number =
    if number == 1 then Some Status
    else if number == 2 then Some Instruction
    else if number == 3 then Some Class
    else if number == 4 then Some Pcb
    else if number == 5 then Some Nad
    else if number == 6 then Some Td
    else if number == 7 then Some Ta2
    else if number == 8 then Some Tag
    else None

-- the note on these octets
abbrev pub about_says : Option About → ℕ → ℕ → NoteText
about_says (Some Status) first second = status_says first second
about_says (Some Instruction) first second = words (instruction_says first second)
about_says (Some Class) first second = class_says first
about_says (Some Pcb) first second = pcb_says first second
about_says (Some Nad) first second = nad_says first
about_says (Some Td) first second = td_says first
about_says (Some Ta2) first second = mode_says first
about_says (Some Tag) first second = words (tag_says first)
about_says None first second = words []

-- the note on these octets, by the number of what they are
abbrev pub note_text : ℕ → ℕ → ℕ → NoteText
note_text number first second = about_says (about_of number) first second

-- whether there is a number, and which
abbrev pub number_shown : Option ℕ → ℕ × ℕ
number_shown (Some number) = (1, number)
number_shown None = (0, 0)
