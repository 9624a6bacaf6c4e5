-- Items of which the last were put together in a block, and are yet to be written.
use Rattle.std.proofs.Common.{◌≡◌, ◌∙◌, sym, ap, subst, ℕ, ◌+◌, ◌≤◌, List, [], ◌∷◌, ◌++◌, length, map, take, refl, arith, append_assoc}
use Rattle.std.proofs.Common.{◌⊎◌, inl, inr, Result, Ok, Err}
use Rattle.std.specs.Prelude.{IfErr}
use Rattle.std.proofs.lemmas.List.{map-append, take_all}
use Rattle.std.proofs.lemmas.Slice.{take-put_mid, take-put_mid_below}
use borrow.Rule.Slice.PartMut.{put_mid}
use Rattle.wincode_io.specs.Joins.{Joined, Each}
use Rattle.wincode_io.specs.JoinLaws.{joined_snoc, each_append}
use Rattle.wincode_io.specs.Writers.{WriterState, WriterLaws, Added, BytesWriteRefused}
use Rattle.wincode_io.specs.declared.error.WriteError.{WriteError as IoWriteError}
use Rattle.wincode_base.specs.Grammar.{WriteGrammar, WriteLaws}
use Rattle.wincode_base.specs.Lists.{item_write, items_write}
use Rattle.wincode_base.specs.Outcomes.{Wrote, WriteRefused, Stopped, WriteOutcome, IsEncoded}
use Rattle.wincode_base.specs.declared.error.WriteError.{WriteError}
use Rattle.wincode_base.specs.declared.error.WriteError.TheVariants.{Io}
use Rattle.wincode_base.specs.declared.meta.TypeMeta.TheVariants.{Dynamic}
use Rattle.wincode_base.specs.ListLaws.{items_write_laws}
use Rattle.wincode_base.specs.WriteSequences.{items_wrote_none, encoding_wrote, encoding_unwritten, encoding_stopped}
use Rattle.wincode_base.proofs.ReadAnswers.{IsPassed}
use Rattle.wincode_base.proofs.Walks.{WritesSoFar, walk_all, walk_item_more, walk_item_refused, walk_item_halted, walk_run, walk_run_refused, walk_run_halted}

-- the items before `pending` were written, and the first bytes of the block are the encodings of those
pub record PendingSoFar {S K E V : Type 0} {put : S → List ℕ → S} {room : S → ℕ} (g : WriteGrammar V) (see : E → V) (P : E → Type 0)
    (old cur : WriterState put room K) (all rest : List E) (filled : ℕ) (block : List ℕ) : Type 0 where
  pub pending : List E
  pub written : WritesSoFar g see P old cur all (pending ++ rest)
  pub encoded : IsEncoded (items_write g) (map see pending) (take filled block)
  pub each : Each P pending

run_is : {E : Type 0} (pending rest left : List E) (e : E) → left ≡ e ∷ rest → pending ++ left ≡ (pending ++ (e ∷ [])) ++ rest
run_is pending rest left e is = ap (λ t. pending ++ t) is ∙ sym (append_assoc pending (e ∷ []) rest)

module _ {V E : Type 0} (g : WriteGrammar V) (see : E → V) (es : List E) (filled k : ℕ) (block middle : List ℕ) where
  -- an item more was put behind the others
  pub encoded_more : (e : E) (size : ℕ) → IsEncoded (items_write g) (map see es) (take filled block) → length middle ≡ size → filled + size ≤ length block
      → IsEncoded g (see e) middle → IsEncoded (items_write g) (map see (es ++ (e ∷ []))) (take (filled + size) (put_mid filled k block middle))
  encoded_more e size encoded sized fits one =
      let more = take-put_mid filled k block middle (filled + size) (omega (arith, sized)) (omega (arith, fits)) in
      let models = sym (map-append see es (e ∷ [])) in (
        subst (Each g.can) models (each_append g.can (map see es) (see e ∷ []) encoded.0 (one.0, tt)),
        subst (Joined g.writes (map see (es ++ (e ∷ [])))) (sym more)
            (subst (λ vs. Joined g.writes vs (take filled block ++ middle)) models
            (joined_snoc g.writes (map see es) (see e) (take filled block) middle encoded.1 one.1)),
      )

  -- bytes behind them were overwritten
  pub encoded_same : filled ≤ length block → IsEncoded (items_write g) (map see es) (take filled block)
      → IsEncoded (items_write g) (map see es) (take filled (put_mid filled k block middle))
  encoded_same fits encoded = subst (IsEncoded (items_write g) (map see es)) (sym (take-put_mid_below filled k block middle filled (omega arith) fits)) encoded

-- the refusal that a `?` passes on is one behind all that the bytes may stand for
pub passed_behind : {A S K V E : Type 0} {put : S → List ℕ → S} {room : S → ℕ} (g : WriteGrammar V) (see : E → V) (P : E → Type 0) (e : E)
    {old new : WriterState put room K} (bytes : List ℕ) (r : Result A WriteError) (x : WriteError) → IsPassed r x
    → ((es : List E) → IsEncoded (items_write g) (map see es) bytes → Each P es
    → WriteRefused (items_write g) old new (map see (es ++ (e ∷ []))) x × Stopped (items_write g) old new (map see (es ++ (e ∷ []))) x)
    → IfErr r (λ y. (es : List E) → IsEncoded (items_write g) (map see es) bytes → Each P es
    → WriteRefused (items_write g) old new (map see (es ++ (e ∷ []))) y × Stopped (items_write g) old new (map see (es ++ (e ∷ []))) y)
passed_behind g see P e bytes (Ok v) x h d = tt
passed_behind {K = K} {E = E} {put = put} {room = room} g see P e {old} {new} bytes (Err y) x h d =
    subst (λ z. (es : List E) → IsEncoded (items_write g) (map see es) bytes → Each P es
    → WriteRefused (items_write g) old new (map see (es ++ (e ∷ []))) z × Stopped (items_write g) old new (map see (es ++ (e ∷ []))) z) (sym h.1) d

module _ {S K V E : Type 0} {put : S → List ℕ → S} {room : S → ℕ} (laws : WriterLaws put room) {g : WriteGrammar V} {P : E → Type 0} {see : E → V}
    (l : WriteLaws P see g) where
  pub pending_none : {old cur : WriterState put room K} {all rest : List E} (block : List ℕ) → WritesSoFar g see P old cur all rest
      → PendingSoFar g see P old cur all rest 0 block
  pending_none block w = record { pending = []; written = w; encoded = (tt, refl); each = tt }

  pub pending_start : {old : WriterState put room K} {all rest : List E} (block : List ℕ) → rest ≡ all → PendingSoFar g see P old old all rest 0 block
  pending_start block start = pending_none block (record { done = []; joins = start; items = items_wrote_none laws l _; each = tt })

  -- all items before `more` stand in the block
  block_pending : {old : WriterState put room K} (es more all : List E) (filled : ℕ) (block : List ℕ) → es ++ more ≡ all
      → IsEncoded (items_write g) (map see es) (take filled block) → Each P es → PendingSoFar g see P old old all more filled block
  block_pending es more all filled block joins encoded each = record {
    pending = es;
    written = record { done = []; joins = joins; items = items_wrote_none laws l _; each = tt };
    encoded = encoded;
    each = each;
  }

  -- the block was written
  pub pending_written : {old cur new : WriterState put room K} {all rest : List E} {filled : ℕ} {block : List ℕ}
      → PendingSoFar g see P old cur all rest filled block → Added (take filled block) cur new → WritesSoFar g see P old new all rest
  pending_written {rest = rest} {filled = filled} {block = block} w a =
      let size = (items_write_laws P see g l).encoding_size (map see w.pending) (take filled block) w.encoded.1 in
      walk_run laws l w.pending rest w.written refl (encoding_wrote (items_write g) (map see w.pending) (take filled block) w.encoded.1 size _ _ w.encoded.0 a)
      w.each

  -- the block was refused
  pub pending_refused : {old cur new : WriterState put room K} {all rest : List E} {filled : ℕ} {block : List ℕ} {e : IoWriteError}
      → PendingSoFar g see P old cur all rest filled block → BytesWriteRefused (length (take filled block)) cur new e
      → WriteRefused (items_write g) old new (map see all) (Io e)
  pending_refused {rest = rest} {filled = filled} {block = block} w d =
      let size = (items_write_laws P see g l).encoding_size (map see w.pending) (take filled block) w.encoded.1 in
      walk_run_refused laws l w.pending rest w.written refl (encoding_unwritten (items_write g) (map see w.pending) (take filled block)
      w.encoded.1 size laws _ _ _ d)

  pub pending_halted : {old cur new : WriterState put room K} {all rest : List E} {filled : ℕ} {block : List ℕ} {e : IoWriteError} → (g.meta ≡ Dynamic → ⊥)
      → PendingSoFar g see P old cur all rest filled block → BytesWriteRefused (length (take filled block)) cur new e
      → Stopped (items_write g) old new (map see all) (Io e)
  pending_halted {rest = rest} {filled = filled} {block = block} one_size w d =
      let size = (items_write_laws P see g l).encoding_size (map see w.pending) (take filled block) w.encoded.1 in
      walk_run_halted laws l w.pending rest w.written refl (encoding_stopped (items_write g) (map see w.pending) (take filled block)
      w.encoded.1 size laws _ _ _ d (λ x dynamic. absurd (one_size dynamic)))

  -- bytes that are the encodings of items were written, or refused
  pub block_wrote : {old new : WriterState put room K} (es more all : List E) (bytes : List ℕ) → es ++ more ≡ all
      → IsEncoded (items_write g) (map see es) bytes → Each P es → Added bytes old new → WritesSoFar g see P old new all more
  block_wrote {old} {new} es more all bytes joins encoded each a =
      let is = sym (take_all (length bytes) bytes (omega arith)) in
      pending_written (block_pending es more all (length bytes) bytes joins (subst (IsEncoded (items_write g) (map see es)) is encoded) each)
      (subst (λ t. Added t old new) is a)

  pub block_refused : {old new : WriterState put room K} (es more all : List E) (bytes : List ℕ) (e : IoWriteError) → es ++ more ≡ all
      → IsEncoded (items_write g) (map see es) bytes → Each P es → (g.meta ≡ Dynamic → ⊥) → BytesWriteRefused (length bytes) old new e
      → WriteRefused (items_write g) old new (map see all) (Io e) × Stopped (items_write g) old new (map see all) (Io e)
  block_refused {old} {new} es more all bytes e joins encoded each one_size d =
      let is = sym (take_all (length bytes) bytes (omega arith)) in
      let w = block_pending es more all (length bytes) bytes joins (subst (IsEncoded (items_write g) (map see es)) is encoded) each in
      let r = subst (λ t. BytesWriteRefused (length t) old new e) is d in
      (pending_refused w r, pending_halted one_size w r)

  -- behind items that were written, the last was
  pub behind_outcome : {A : Type 0} {old mid new : WriterState put room K} {all : List E} {e : E} (r : Result A WriteError)
      → WritesSoFar g see P old mid all (e ∷ []) → WriteOutcome (item_write g) mid new (see e) (P e) r
      → WriteOutcome (items_write g) old new (map see all) (P e) r
  behind_outcome (Ok x) w o = record { ok = (walk_all laws l (walk_item_more laws l w refl o.ok o.value) refl).0; value = o.value; refused = tt }
  behind_outcome (Err x) w o = record {
    ok = tt;
    value = tt;
    refused = (walk_item_refused laws l w refl o.refused.0, walk_item_halted laws l w refl o.refused.1);
  }

  -- an item more: with those that were pending it was written, or stands in the block
  pub pending_put : {old cur new : WriterState put room K} {all rest left : List E} {e : E} {filled n : ℕ} {block after : List ℕ}
      → (w : PendingSoFar g see P old cur all left filled block) → left ≡ e ∷ rest → P e
      → ((n ≡ 0) × Wrote (items_write g) cur new (map see (w.pending ++ (e ∷ []))))
      ⊎ ((new ≡ cur) × IsEncoded (items_write g) (map see (w.pending ++ (e ∷ []))) (take n after))
      → PendingSoFar g see P old new all rest n after
  pending_put {old} {cur} {new} {all} {rest} {left} {e} {after = after} w is h (inl p) =
      let run = w.pending ++ (e ∷ []) in
      subst (λ n. PendingSoFar g see P old new all rest n after) (sym p.0)
      (pending_none after (walk_run laws l run rest w.written (run_is w.pending rest left e is) p.1 (each_append P w.pending (e ∷ []) w.each (h, tt))))
  pending_put {old} {cur} {new} {all} {rest} {left} {e} w is h (inr p) =
      let run = w.pending ++ (e ∷ []) in
      record {
        pending = run;
        written = subst (λ s. WritesSoFar g see P old s all (run ++ rest)) (sym p.0)
            (subst (WritesSoFar g see P old cur all) (run_is w.pending rest left e is) w.written);
        encoded = p.1;
        each = each_append P w.pending (e ∷ []) w.each (h, tt);
      }

  -- or was refused
  pub pending_unput : {old cur new : WriterState put room K} {all rest left : List E} {e : E} {filled : ℕ} {block : List ℕ} {x : WriteError}
      → (w : PendingSoFar g see P old cur all left filled block) → left ≡ e ∷ rest
      → WriteRefused (items_write g) cur new (map see (w.pending ++ (e ∷ []))) x × Stopped (items_write g) cur new (map see (w.pending ++ (e ∷ []))) x
      → WriteRefused (items_write g) old new (map see all) x × Stopped (items_write g) old new (map see all) x
  pending_unput {rest = rest} {left = left} {e = e} w is d = (
    walk_run_refused laws l (w.pending ++ (e ∷ [])) rest w.written (run_is w.pending rest left e is) d.0,
    walk_run_halted laws l (w.pending ++ (e ∷ [])) rest w.written (run_is w.pending rest left e is) d.1,
  )
