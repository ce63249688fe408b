use Rattle.std.proofs.Common.{[], append-nil, sym, ◌∙◌, refl}
use Rattle.tlv_core.specs.Forest.{spelling}
use Rattle.tlv_core.proofs.Valued.{values_are}
use Rattle.tlv_core.proofs.flat.FlatForest.read.Goals as goal

pub returns-clause-values : goal.returns-clause-values
returns-clause-values c t h =
    c.in_ok-parts.ensures.places t h
    ∙ values_are t 1 0 c.args.octets.now [] [] (h.is ∙ sym (append-nil (spelling t))) refl
