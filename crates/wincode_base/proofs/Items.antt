-- Reading items one after another.
use Rattle.std.proofs.Common.{◌≡◌, ◌∙◌, sym, ap, subst, ℕ, ◌+◌, ◌<◌, ◌≤◌, List, [], ◌∷◌, ◌++◌, map, append_assoc, append-nil, length, take, Option}
use Rattle.std.proofs.Common.{Some, refl, inl, inr, ◌*◌, Bool, Result, Ok, Err, true≢false, arith}
use Rattle.std.specs.Prelude.{IfErr}
use Rattle.std.proofs.Math.Seq.{take-append_seam}
use Rattle.std.proofs.lemmas.List.{map-append}
use Rattle.wincode_io.specs.Joins.{AreItems}
use Rattle.wincode_io.specs.Readers.{ReaderState, StaysSound}
use Rattle.wincode_io.specs.PlaceLaws.{stays_onward}
use Rattle.wincode_base.specs.AsForms.{BulkReadRefused}
use Rattle.wincode_base.specs.Grammar.{ReadGrammar}
use Rattle.wincode_base.specs.Lists.{ItemReadRefused, ItemsReadRefused, AreInMemory, AreThere}
use Rattle.wincode_base.specs.ListLaws.{items_none, items_more}
use Rattle.wincode_base.specs.Outcomes.{Gives, Puts, Adds, SchemaReadRefused}
use Rattle.wincode_base.specs.declared.error.ReadError.{ReadError}
use Rattle.wincode_base.specs.declared.error.ReadError.TheVariants.{OutOfMemory}
use Rattle.wincode_base.specs.declared.error.ReadError.TheVariants as reading
use Rattle.wincode_io.specs.declared.error.ReadError.TheVariants as reader
use Rattle.wincode_base.specs.declared.meta.TypeMeta.TheVariants.{Static}

module _ {D V : Type 0} (reads : List ℕ → V → Type 0) (model : D → V) where
  pub adds_none : (s : ReaderState) (before after : List D) → after ≡ before → Adds 0 reads model s s before after
  adds_none s before after e = record { items = []; is = e ∙ sym (append-nil before); gives = items_none reads s }

  pub adds_more : (i : ℕ) (old mid new : ReaderState) (before so after : List D) (d : D) → Adds i reads model old mid before so → Gives reads mid new (model d)
      → after ≡ so ++ (d ∷ []) → Adds (i + 1) reads model old new before after
  adds_more i old mid new before so after d a g e = record {
    items = a.items ++ (d ∷ []);
    is = e ∙ ap (λ t. t ++ (d ∷ [])) a.is ∙ append_assoc before a.items (d ∷ []);
    gives = subst (Gives (AreItems (i + 1) reads) old new) (sym (map-append model a.items (d ∷ [])))
        (items_more reads i old mid new (map model a.items) (model d) a.gives g);
  }

  -- the value that a read put into its destination
  pub put_gives : (old new : ReaderState) (dst : Option D) (v : D) → Puts reads model old new dst → dst ≡ Some v → Gives reads old new (model v)
  put_gives old new dst v p e = let P : Option D → Type 0 = λ o. Puts reads model old new o in subst P e p

-- nothing was read
pub stays_none : {V : Type 0} (reads : List ℕ → V → Type 0) (old new : ReaderState) → StaysSound old new → Gives (AreItems 0 reads) old new []
stays_none reads old new s = record {
  kept = s.0.kept;
  sound = s.1;
  found = λ t. record { encoding = []; is_read = (refl, refl); joins = sym (s.0.rest t) };
  place = stays_onward old new s.0;
}

-- a list that had grown was cut to its former length
pub cut_back : {D : Type 0} (before more now after : List D) (n : ℕ) → n ≡ length before → now ≡ before ++ more → after ≡ take n now → after ≡ before
cut_back before more now after n size grown cut = cut ∙ ap (λ k. take k now) size ∙ ap (take (length before)) grown ∙ take-append_seam before more

-- ---- where items that are refused leave the reader

module _ {V : Type 0} (n : ℕ) (g : ReadGrammar V) where
  pub item_stopped : (i : ℕ) (old mid new : ReaderState) (us : List V) (e : ReadError) → i < n → Gives (AreItems i g.reads) old mid us
      → SchemaReadRefused g mid new e → ItemReadRefused n g old new e
  item_stopped i old mid new us e l gives d = record { count = i; items = us; mid = mid; gives = gives; stop = inl (l, d) }

  pub item_wanted : (i : ℕ) (old new : ReaderState) (us : List V) → i ≤ n → Gives (AreItems i g.reads) old new us → ItemReadRefused n g old new OutOfMemory
  item_wanted i old new us l gives = record { count = i; items = us; mid = new; gives = gives; stop = inr (l, refl, refl) }

  -- of items whose bytes are there in memory nothing is refused at once but memory for them
  pub bulk_exact : (m : ℕ) (old new : ReaderState) (e : ReadError) → BulkReadRefused m old new e → AreInMemory m old → ItemReadRefused n g old new e
  bulk_exact m old new (reading.Io (reader.ReadSizeLimit k)) d there = let short : length old.rest < m = d.2.0 there.1 in absurd (omega (arith, short, there.2))
  bulk_exact m old new (reading.Io reader.UnsupportedZeroCopy) d there = absurd d.2
  bulk_exact m old new (reading.Io reader.OutOfMemory) d there = absurd (true≢false (sym (d.0.kept.never_fails ∙ there.0) ∙ d.2))
  bulk_exact m old new (reading.Io (reader.Io e)) d there = absurd (true≢false (sym (d.0.kept.never_fails ∙ there.0) ∙ d.2.0))
  bulk_exact m old new OutOfMemory d there = item_wanted 0 old new [] (omega arith) (stays_none g.reads old new d.0)
  bulk_exact m old new (reading.LengthEncodingOverflow t) d there = absurd (omega (arith, d.1, there.2, there.3))
  bulk_exact m old new _ d there = absurd d

  -- so, of what many at once answer
  pub at_once_exact : {A : Type 0} (k : ℕ) (z : Bool) (old new : ReaderState) (r : Result A ReadError) → g.meta ≡ Static k z
      → IfErr r (BulkReadRefused (n * k) old new) → IfErr r (ItemsReadRefused n g old new)
  at_once_exact k z old new (Ok x) is d = tt
  at_once_exact k z old new (Err e) is d = λ there. bulk_exact (n * k) old new e d (subst (λ m. AreThere n m old) is there)
