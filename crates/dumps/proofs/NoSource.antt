-- That a text stops being a source exactly where it gives no octets.
use Rattle.std.proofs.Common.{◌++◌, ◌+◌, ◌&&◌, not, ℕ, List, [], ◌∷◌, Bool, true, false, Option, Some, None, Result, Ok, Err, refl, if◌then◌else◌}
use Rattle.dumps.specs.Dump.{◌>>=◌}
use Rattle.dumps.specs.Source.{and_then, ended, is_one_way, last_octets, may_end_at, octets_from, those, turn_at, Turn}
use Rattle.dumps.specs.SourceStop.{stop_at, stop_at_end, stop_from, stopped_or, Agrees}
use Rattle.dumps.specs.declared.fault.DumpFault.{DumpFault}
use Rattle.dumps.specs.declared.fault.DumpFault.TheVariants.{Form}
use Rattle.dumps.specs.declared.no_source.SourceWrong.{SourceWrong}
use Rattle.dumps.specs.declared.no_source.SourceWrong.TheVariants as wrong
use Rattle.dumps.specs.declared.turn.Now.{Now}

abbrev end_stop : ℕ → Bool → Bool → Option (ℕ × SourceWrong)
end_stop place outside one_way =
    if not outside then Some (place, wrong.Open) else if not one_way then Some (place, wrong.TwoWays) else None

abbrev end_octets : List ℕ → Bool → Result (List ℕ) DumpFault
end_octets octets may = if may then Ok octets else Err Form

may-end : (place : ℕ) (octets : List ℕ) (outside one_way : Bool)
    → Agrees (end_stop place outside one_way) (end_octets octets (outside && one_way))
may-end place octets true true = (octets, refl)
may-end place octets true false = refl
may-end place octets false one_way = refl

end-agrees : (place : ℕ) (now : Now) (t : Turn) → Agrees (stop_at_end place now t) (last_octets t)
end-agrees place now None = refl
end-agrees place now (Some (last, octet)) =
    may-end place (those octet) (may_end_at last.place) (is_one_way last.writing last)

more-agrees : (stop : Option (ℕ × SourceWrong)) (rest : Result (List ℕ) DumpFault) (one : List ℕ) → Agrees stop rest
    → Agrees stop (rest >>= (λ more. Ok (one ++ more)))
more-agrees None (Ok b) one h = (one ++ b, refl)
more-agrees None (Err e) one h = let bad = h.1 in cc bad
more-agrees (Some stop) rest one h = rw h refl

turn-agrees : (t : Turn) (stop : ℕ × SourceWrong) (stops : Now → Option (ℕ × SourceWrong))
    (octets : Now → Result (List ℕ) DumpFault) → ((next : Now) → Agrees (stops next) (octets next))
    → Agrees (stopped_or t stop stops) (and_then t octets)
turn-agrees None stop stops octets h = refl
turn-agrees (Some (next, octet)) stop stops octets h =
    more-agrees (stops next) (octets next) (those octet) (h next)

pub text-agrees : (text : List ℕ) (place : ℕ) (now : Now) → Agrees (stop_from place now text) (octets_from now text)
text-agrees [] place now = end-agrees place now (ended now)
text-agrees (x ∷ text) place now =
    turn-agrees (turn_at now.place now x) (stop_at place now x) (λ next. stop_from (place + 1) next text)
    (λ next. octets_from next text) (λ next. text-agrees text (place + 1) next)
