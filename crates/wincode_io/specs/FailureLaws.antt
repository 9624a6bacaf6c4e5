-- The laws of what is told of failures.
use Rattle.std.proofs.Common.{◌≡◌, ◌∙◌, sym, subst, Bool, IsTrue}
use Rattle.std.specs.declared.io.Error.{Error}
use Rattle.std.specs.declared.io.ErrorKind.{ErrorKind}
use Rattle.wincode_io.specs.Failures.{IsTold}

-- a call before, in which the device did not fail, changes nothing of what is told
pub told_on : (first before after : Bool) (last : ErrorKind) (e : Error) → before ≡ first → IsTold before after last e → IsTold first after last e
told_on first before after last e same t = (t.0, λ failed. t.1 (subst IsTrue (sym same) failed), λ sound. t.2 (same ∙ sound))
