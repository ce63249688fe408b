use Rattle.std.proofs.Common.{subst}
use Rattle.apdu_core.specs.Put.{IsPutAt}
use Rattle.apdu_core.specs.Response.{ResponseParts, spelling}
use Rattle.apdu_core.proofs.Puts.{puts-on}
use Rattle.apdu_core.proofs.response_ref.ResponseRef.encode_into.Goals as goal

pub returns-clause-put : goal.returns-clause-put
returns-clause-put c =
    subst (λ (r : ResponseParts). IsPutAt 0 (spelling r) c.args.out.now c.put.new.out c.put.result) c.self.view_is
    (puts-on _ _ _ _ _ _ _ _ c.put-end.ensures c.put.ensures)
