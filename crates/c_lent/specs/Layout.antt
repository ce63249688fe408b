-- The sizes of the structs that C and the library share.
use Rattle.std.specs.Prelude.{ℕ, ◌==◌, if◌then◌else◌}

-- in octets, by the number of the struct: verdict, interface, indicated, ATR, T=1 parameters, rates, block, command,
-- response, turn, tag, part, known value, handle, state of a terminal, of a card, of a header that is being read, of a
-- check, of a receiver, text, entry of a list, note, framer, reader of a block, and of an answer to reset; what decides
-- what an end may send, what it received, an end of the line, state of a judge, what was due, and judgment; rules of a
-- line, what an end has done on it, the line, and what the end does next; setup of a session, state of a terminal's
-- session, and of a card's, what a session does next, and the parts of a PCB; what a block exercises, times of a line,
-- moments of a block, and what is said of its time; else 0
abbrev pub size_of_struct : ℕ → ℕ
size_of_struct number =
    if number == 1 then 16
    else if number == 2 then 6
    else if number == 3 then 7
    else if number == 4 then 243
    else if number == 5 then 3
    else if number == 6 then 4
    else if number == 7 then 4
    else if number == 8 then 32
    else if number == 9 then 16
    else if number == 10 then 16
    else if number == 11 then 4
    else if number == 12 then 24
    else if number == 13 then 24
    else if number == 14 then 16
    else if number == 15 then 56
    else if number == 16 then 64
    else if number == 17 then 12
    else if number == 18 then 92
    else if number == 19 then 32
    else if number == 20 then 16
    else if number == 21 then 5
    else if number == 22 then 40
    else if number == 23 then 272
    else if number == 24 then 264
    else if number == 25 then 40
    else if number == 26 then 16
    else if number == 27 then 5
    else if number == 28 then 288
    else if number == 29 then 592
    else if number == 30 then 5
    else if number == 31 then 32
    else if number == 32 then 56
    else if number == 33 then 80
    else if number == 34 then 408
    else if number == 35 then 24
    else if number == 36 then 40
    else if number == 37 then 480
    else if number == 38 then 488
    else if number == 39 then 24
    else if number == 40 then 5
    else if number == 41 then 8
    else if number == 42 then 56
    else if number == 43 then 24
    else if number == 44 then 24
    else 0
