-- What a parse of words comes to.
use Rattle.std.proofs.Common.{◌≡◌, [], Result, Ok, Err, IfOk, IfErr}
use Rattle.clap.specs.Kinds.{FailsBy, HasKind, Kinds}
use Rattle.clap.specs.declared.error.Error.{Error}

-- where a parse succeeds, nothing is wrong with the words
pub fails-ok : {T : Type 0} (kinds : Kinds) (r : Result T Error) → FailsBy kinds r → IfOk r (λ _. kinds ≡ [])
fails-ok kinds (Ok x) h = h
fails-ok kinds (Err e) h = tt

-- where it fails, its error is of a kind that is wrong with them
pub fails-err : {T : Type 0} (kinds : Kinds) (r : Result T Error) → FailsBy kinds r → IfErr r (HasKind kinds)
fails-err kinds (Ok x) h = tt
fails-err kinds (Err e) h = h
