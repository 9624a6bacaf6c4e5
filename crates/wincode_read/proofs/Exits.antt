-- What exits answer.
use Rattle.std.proofs.Common.{refl, ℕ, ◌<◌, arith}
use Rattle.wincode_base.specs.Outcomes.{PieceReadRefused}
use Rattle.wincode_base.specs.Tags.{TagReadRefused}
use Rattle.wincode_base.specs.declared.error.ReadError.{ReadError}
use Rattle.wincode_base.specs.declared.error.ReadError.TheVariants as reading
use Rattle.wincode_base.specs.Views.{ViewReadRefused}
use Rattle.wincode_io.specs.Readers.{ReaderState}
use Rattle.wincode_io.specs.Writers.{byte_limit}
use Rattle.wincode_io.specs.declared.error.ReadError.TheVariants as reader

-- a tag was refused for its bytes
pub tag_denied : (k : ℕ) (nameless : ℕ → Type 0) (old new : ReaderState) (e : ReadError) → PieceReadRefused k old new e → TagReadRefused k nameless old new e
tag_denied k nameless old new (reading.Io e) d = d
tag_denied k nameless old new _ d = absurd d

-- a form of more bytes than there can be
pub vast_denied : (borrow s : ℕ) (old : ReaderState) → byte_limit < s → ViewReadRefused borrow s old old (reading.Io (reader.ReadSizeLimit byte_limit))
vast_denied borrow s old vast = (
  record {
    kept = record { lends = refl; never_fails = refl; counts_windows = refl; is_known = refl };
    rest = λ t. refl;
    ready = omega arith;
    place = refl;
  },
  record { failures = refl; has_failed = refl },
  (λ known few. omega (arith, few, vast), omega (arith, vast)),
)
