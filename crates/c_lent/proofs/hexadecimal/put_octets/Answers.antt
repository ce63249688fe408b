use Rattle.std.proofs.Common.{length}
use Rattle.c_lent.proofs.Encoded.{digits-decoded}
use Rattle.c_lent.proofs.hexadecimal.put_octets.Goals as goal

pub returns : goal.returns
returns c = digits-decoded c.args.text.now (length c.args.out.now) c.decode_to_slice-written.result
    c.decode_to_slice-written.new.out
    c.requires.digits c.requires.room c.decode_to_slice-written.ensures.value
