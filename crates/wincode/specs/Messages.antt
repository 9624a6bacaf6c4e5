-- What the next value of a source is.
use Rattle.std.specs.Prelude.{◌≡◌, ℕ, ◌+◌, ◌<◌, ◌⊎◌, min, Bool, true, false, List, length, codes, IsTrue, Option, Some, None, Result, Ok, Err, OnOk, IfOk, IfErr}
use Rattle.std.specs.IoError.{error_kind}
use Rattle.std.specs.declared.io.ErrorKind.TheVariants.{Other}
use Rattle.wincode_io.specs.Readers.{ReaderState, StaysSound, BytesReadRefused}
use Rattle.wincode_io.specs.Sources.{SourceState}
use Rattle.wincode_io.specs.Streams.{Streamed}
use Rattle.wincode_io.specs.Writers.{byte_limit}
use Rattle.wincode_io.specs.declared.error.ReadError.TheVariants as reader
use Rattle.wincode_base.specs.Grammar.{ReadGrammar}
use Rattle.wincode_base.specs.Outcomes.{Gives, SchemaReadRefused}
use Rattle.wincode_base.specs.declared.meta.TypeMeta.{TypeMeta}
use Rattle.wincode_base.specs.declared.meta.TypeMeta.TheVariants.{Static, Dynamic}
use Rattle.wincode_base.specs.declared.error.ReadError.{ReadError}
use Rattle.wincode_base.specs.declared.error.ReadError.TheVariants as reading

-- the reader, where in it the last whole value ended, whether a value was refused, and whether it was by a failure of the
-- source
pub record Progress (S : Type 0) : Type 0 where
  pub reader : Streamed S
  pub position : ℕ
  pub is_refused : Bool
  pub has_failed : Bool

-- the source failed
abbrev pub is_failure : ReadError → Bool
is_failure (reading.Io (reader.Io e)) = true
is_failure _ = false

-- a byte is left, where the bytes are known
abbrev pub HasMore : ReaderState → Type 0
HasMore s = IsTrue s.is_known → 0 < length s.rest

-- none was at hand, and the reader couldn't bring a byte to hand, for memory or by its device
abbrev pub NotBegun : ReaderState → ReaderState → ReadError → Type 0
NotBegun old new (reading.Io e) = (old.ready ≡ 0) × BytesReadRefused ⊥ ⊥ 1 old new e
NotBegun old new _ = ⊥

-- a byte was brought to hand, and reading was refused as the schema says
abbrev pub Begun : {V : Type 0} → ReadGrammar V → ReaderState → ReaderState → ReadError → Type 0
Begun g old new e = (mid : ReaderState) × StaysSound old mid × SchemaReadRefused g mid new e

-- no value has a byte, by what is announced of their size
abbrev pub HasNoBytes : TypeMeta → Type 0
HasNoBytes Dynamic = ⊥
HasNoBytes (Static s z) = s ≡ 0

-- the text of why values without bytes are neither counted nor appended
abbrev pub no_bytes : List ℕ
no_bytes = codes "values without bytes, which no log has a number of"

-- values without bytes are not looked for
abbrev pub NothingToRead : ReadError → Type 0
NothingToRead (reading.Custom text) = text.now ≡ no_bytes
NothingToRead _ = ⊥

-- Where a byte is left, the value in front was read, or refused as its schema says. Or the reader failed before.
pub record NextOutcome {D V : Type 0} (g : ReadGrammar V) (model : D → V) (old new : ReaderState) (r : Result D ReadError) : Type 0 where
  pub ok : IfOk r (λ d. HasMore old × Gives g.reads old new (model d))
  pub refused : IfErr r (λ e. NotBegun old new e ⊎ (HasMore old × Begun g old new e))

-- that a value was refused is remembered, and whether by a failure of the source
abbrev pub Remembers : {S D : Type 0} → Progress S → Result D ReadError → Type 0
Remembers new r = OnOk r (new.is_refused ≡ false) × IfErr r (λ e. IsTrue new.is_refused × (new.has_failed ≡ is_failure e))

-- The answer behind a refusal: a failure of kind Other behind one of the source, and else that the place of the next value
-- isn't known.
abbrev pub RefusedAgain : Bool → ReadError → Type 0
RefusedAgain true (reading.Io (reader.Io e)) = error_kind e ≡ Other
RefusedAgain false (reading.Custom text) = Unit {0}
RefusedAgain _ _ = ⊥

-- The position is behind the value that was read, by as many bytes as its own encoding has; behind all else it stays.
abbrev pub Advances : {S D V : Type 0} → (S → SourceState) → (List ℕ → V → Type 0) → (D → V) → Progress S → Progress S → Option (Result D ReadError) → Type 0
Advances state reads model old new (Some (Ok d)) = (new.position ≡ min new.reader.position byte_limit)
    × (IsTrue (state old.reader.source).is_known → (encoding : List ℕ) × reads encoding (model d)
    × (new.reader.position ≡ old.reader.position + length encoding))
Advances state reads model old new (Some (Err e)) = new.position ≡ old.position
Advances state reads model old new None = new.position ≡ old.position
