use Rattle.std.proofs.Common.{◌≡◌, ◌++◌, drop}
use Rattle.std.specs.Prelude.{string_bytes}
use Rattle.apdu_list.specs.Listing.{more_text}
use Rattle.apdu_list.proofs.listing.push_more.Given as goal

abbrev pub invariant-loop-number : goal.invariant-loop-number
invariant-loop-number l =
    string_bytes l.text ++ more_text (drop l.number-index l.numbers) ≡ string_bytes l.fn.text ++ more_text l.numbers
