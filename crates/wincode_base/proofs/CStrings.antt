-- Reading a C string.
use Rattle.std.specs.Ffi.{HasNoNul, without_last}
use Rattle.std.proofs.Common.{◌≡◌, ◌∙◌, sym, ap, subst, ℕ, ◌+◌, ◌-◌, false, List, [], ◌∷◌, ◌++◌, length, take, refl, arith, inl, inr, length-append}
use Rattle.std.proofs.lemmas.List.{take_at}
use Rattle.std.specs.Prelude.{slice_index, ◌<◌}
use Rattle.wincode_io.specs.Readers.{ReaderState}
use Rattle.wincode_base.specs.Boxed.{boxed_read}
use Rattle.wincode_base.specs.CStrings.{IsText, is_nul, bytes_seen, bytes_read, bytes_read_laws, c_string_read}
use Rattle.wincode_base.specs.BoxedLaws.{boxed_read_laws}
use Rattle.wincode_base.specs.Made.{MakeNothing}
use Rattle.wincode_base.specs.Outcomes.{Gives, SchemaReadRefused, ReadRefused}
use Rattle.wincode_base.specs.Sequences.{refuses_unspared}
use Rattle.wincode_base.specs.declared.error.ReadError.{ReadError}
use Rattle.wincode_base.specs.declared.error.ReadError.TheVariants as reading
use Rattle.wincode_base.proofs.Bulk.{mapped}
use Rattle.wincode_base.proofs.Made.{made_gives, parts_refused, nothing_made}

-- bytes with a 0 behind them, without it
pub ended : (xs : List ℕ) → without_last (xs ++ 0 ∷ []) ≡ xs
ended xs =
    let long : length (xs ++ 0 ∷ []) ≡ length xs + 1 = length-append xs (0 ∷ []) in
    let less : length xs ≡ length (xs ++ 0 ∷ []) - 1 = omega (arith, long) in
    ap (λ n. take n (xs ++ 0 ∷ [])) (sym less) ∙ take_at xs (0 ∷ []) (length xs) refl

module _ {old new : ReaderState} where
  -- the list of bytes was refused
  pub bytes_refused : (e : ReadError) → SchemaReadRefused bytes_read old new e → SchemaReadRefused c_string_read old new e
  bytes_refused e r = parts_refused bytes_seen IsText is_nul (boxed_read bytes_read) e (refuses_unspared r.0, inl r)

  -- it was read, and memory was refused
  pub bytes_wanted : (xs : List ℕ) → Gives bytes_read.reads old new (bytes_seen xs) → ReadRefused bytes_read.reads 0 false old new reading.OutOfMemory
      → SchemaReadRefused c_string_read old new reading.OutOfMemory
  bytes_wanted xs r d = parts_refused bytes_seen IsText is_nul (boxed_read bytes_read) reading.OutOfMemory (d, inr (refl, (bytes_seen xs, r)))

  -- one of the bytes is 0
  pub bytes_nul : (xs : List ℕ) → Gives bytes_read.reads old new (bytes_seen xs) → (e : ReadError) → MakeNothing bytes_seen IsText is_nul xs e
      → SchemaReadRefused c_string_read old new e
  bytes_nul xs r e n = nothing_made bytes_seen IsText is_nul (boxed_read bytes_read) bytes_read_laws.one_front xs r e n

  -- none is
  pub bytes_text : (xs : List ℕ) → HasNoNul xs → Gives bytes_read.reads old new (bytes_seen xs) → Gives c_string_read.reads old new (bytes_seen xs)
  bytes_text xs none r = made_gives bytes_seen IsText is_nul (boxed_read bytes_read) xs xs r (refl, none)

-- where one is, no bytes of which the same is seen are a text
pub no_text : (xs : List ℕ) (i : ℕ) → i < length xs → slice_index xs i ≡ 0 → (r q : List ℕ) → bytes_seen r ≡ bytes_seen xs → IsText r q → ⊥
no_text xs i l zero r q e t = let same : r ≡ xs = sym (mapped r) ∙ e ∙ mapped xs in
    subst HasNoNul same t.1 i l zero
