-- Arrays of bytes, all of which are one part.
use Rattle.std.proofs.Common.{◌≡◌, ◌∙◌, sym, ap, ℕ, ◌*◌, ◌<◌, ◌^◌, true, false, List, [], ◌∷◌, length, refl, arith, lit≤, cond, nat_lt, inl, inr}
use Rattle.std.proofs.lemmas.Bool.{lt-ltb}
use Rattle.wincode_io.specs.Readers.{ReaderState, Windowed}
use Rattle.wincode_base.specs.ArrayLaws.{array_read_laws}
use Rattle.wincode_base.specs.Arrays.{array_read, times_meta}
use Rattle.wincode_base.specs.AsForms.{BulkReadRefused}
use Rattle.wincode_base.specs.FixedSizeLaws.{window_denied_refuses}
use Rattle.wincode_base.specs.Grammar.{ReadGrammar}
use Rattle.wincode_base.specs.InWindow.{windowed_read}
use Rattle.wincode_base.specs.LeafLaws.{number_read_laws}
use Rattle.wincode_base.specs.Leaves.{number_read}
use Rattle.wincode_base.specs.Outcomes.{Gives, ReadRefused, SchemaReadRefused, NoWindow}
use Rattle.wincode_base.specs.Sequences.{refuses_map}
use Rattle.wincode_base.specs.declared.error.ReadError.{ReadError}
use Rattle.wincode_base.specs.declared.error.ReadError.TheVariants as reading
use Rattle.wincode_base.specs.declared.meta.TypeMeta.TheVariants.{Static, Dynamic}
use Rattle.wincode_io.specs.declared.error.ReadError.TheVariants as reader
use Rattle.wincode_base.proofs.InWindow.{sized_of, window_gives, window_refuses, static_place}
use Rattle.wincode_describe.specs.Parts.{Part, Bytes}
use Rattle.wincode_describe.specs.Types.{described_read}
use Rattle.wincode_describe.specs.declared.described.Described.TheVariants as type
use Rattle.wincode_describe.proofs.Shows.{shown_gives, shown_refused}

abbrev bytes_part : List ℕ → List Part
bytes_part v = Bytes v ∷ []

-- nothing but memory is refused where there are as many bytes
bulk_memory : (n m : ℕ) → m ≡ n → n < 2 ^ 64 → (old new : ReaderState) → length old.rest ≡ n → old.is_known ≡ true → new.never_fails ≡ true → (e : ReadError)
    → BulkReadRefused m old new e → e ≡ reading.OutOfMemory
bulk_memory n m same fits old new size known steady (reading.Io (reader.ReadSizeLimit k)) d = let short = d.2.0 known in
    absurd (omega (arith, short, size, same))
bulk_memory n m same fits old new size known steady (reading.Io reader.UnsupportedZeroCopy) d = absurd d.2
bulk_memory n m same fits old new size known steady (reading.Io reader.OutOfMemory) d = let h : true ≡ false = sym steady ∙ d.2 in absurd (cc)
bulk_memory n m same fits old new size known steady (reading.Io (reader.Io x)) d = let h : true ≡ false = sym steady ∙ d.2.0 in absurd (cc)
bulk_memory n m same fits old new size known steady reading.OutOfMemory d = refl
bulk_memory n m same fits old new size known steady (reading.LengthEncodingOverflow t) d = let l = d.1 in absurd (omega (arith, l, same, fits))
bulk_memory n m same fits old new size known steady _ d = absurd d

module _ (n : ℕ) (fits : n < 2 ^ 64) where
  abbrev Numbers : ReadGrammar (List ℕ)
  Numbers = array_read n (number_read 1 true)

  abbrev Array : ReadGrammar (List Part)
  Array = described_read (type.ByteArray n)

  meta_is : times_meta n (Static 1 true) ≡ Static n true
  meta_is = let e : n * 1 ≡ n = omega arith in ap (λ k. cond (nat_lt k (2 ^ 64)) (Static k true) Dynamic) e
      ∙ ap (λ b. cond b (Static n true) Dynamic) (lt-ltb n (2 ^ 64) fits)

  sized : (b vs : List ℕ) → Numbers.reads b vs → length b ≡ n
  sized = sized_of Numbers.reads (times_meta n (Static 1 true)) n true (array_read_laws n _ _ (number_read_laws 1 true (lit≤ tt))).statics meta_is

  pub array_unwindowed : (old new : ReaderState) (e : ReadError) → NoWindow n old new e → SchemaReadRefused Array old new e
  array_unwindowed old new e d = shown_refused bytes_part (windowed_read Numbers) old new e
      (window_denied_refuses Numbers.reads n sized 0 true old new e d, static_place (times_meta n (Static 1 true)) old new e Numbers.refused meta_is (inl d))

  pub array_gives : (old new window after : ReaderState) (vs : List ℕ) → Windowed n old new window → Gives Numbers.reads window after vs
      → Gives Array.reads old new (Bytes vs ∷ [])
  array_gives old new window after vs w x = shown_gives bytes_part (windowed_read Numbers) old new vs
      (window_gives Numbers.reads n sized old new window after vs w x)

  pub array_refused : (old new window after : ReaderState) (e : ReadError) → Windowed n old new window → ReadRefused Numbers.reads 0 false window after e
      → BulkReadRefused (n * 1) window after e → SchemaReadRefused Array old new e
  array_refused old new window after e w r d = (
    refuses_map Numbers.reads Array.reads 0 false old new e (λ b v t. (t.0, t.1)) (window_refuses Numbers.reads n sized 0 false old new window after e w r),
    inr (bulk_memory n (n * 1) (omega arith) fits window after w.takes.size w.is_known (r.kept.never_fails ∙ w.never_fails) e d),
  )
