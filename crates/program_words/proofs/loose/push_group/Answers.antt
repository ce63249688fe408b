use Rattle.std.proofs.Common.{◌≡◌, ◌+◌, ◌/◌, length, take, rules}
use Rattle.program_words.proofs.Groups.{added-group, kept-front}
use Rattle.program_words.proofs.loose.push_group.Goals as goal

pub returns-in-Ok : goal.returns-in-Ok
returns-in-Ok c =
    let before : length c.args.octets.now.items ≡ c.len-first.result = search rules in
    let count : c.resize.new.self.len ≡ c.len-first.result + length c.digits-digits.result.now / 2 =
    c.in_ok-resize.ensures.len in
    let front : take c.len-first.result c.deref_mut.result.now ≡ c.args.octets.now.items =
    kept-front c.len-first.result (length c.digits-digits.result.now / 2) c.args.octets.now.items _
    c.resize.new.self.items c.deref_mut.result.now before c.in_ok-resize.ensures.items c.deref_mut.ensures.value in
    added-group _ _ _ _ _ _ _ _ c.args.group.now _ _ c.digits-digits.ensures c.decode_to_slice.ensures.value c.in-Ok.is
    front before count
