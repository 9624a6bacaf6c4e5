-- How the failure of a device is told.
use Rattle.std.specs.Prelude.{◌≡◌, Bool, false, IsTrue}
use Rattle.std.specs.IoError.{error_kind}
use Rattle.std.specs.declared.io.Error.{Error}
use Rattle.std.specs.declared.io.ErrorKind.{ErrorKind}
use Rattle.std.specs.declared.io.ErrorKind.TheVariants.{Other}

-- The device has failed. The error is of the kind of its failure; where it had failed before the call, it was not asked
-- again, and the error is of kind Other.
abbrev pub IsTold : Bool → Bool → ErrorKind → Error → Type 0
IsTold before after last e = IsTrue after × (IsTrue before → error_kind e ≡ Other) × (before ≡ false → last ≡ error_kind e)
