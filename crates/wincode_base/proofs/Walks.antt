-- Going over the items of a collection, in writing.
use Rattle.std.proofs.Common.{◌≡◌, ◌∙◌, sym, ap, subst, ℕ, ◌+◌, ◌-◌, ◌≤◌, List, [], ◌∷◌, ◌++◌, length, map, refl, arith, append_assoc}
use Rattle.std.proofs.Common.{append-nil, length-append, Result, Ok}
use Rattle.std.specs.Prelude.{IfOk, IfErr}
use Rattle.std.proofs.lemmas.List.{map-append}
use Rattle.wincode_io.specs.Joins.{Joined, Each, total}
use Rattle.wincode_io.specs.JoinLaws.{joined_append, each_split, each_append, total-append}
use Rattle.wincode_io.specs.Writers.{WriterState, WriterLaws}
use Rattle.wincode_base.specs.Grammar.{WriteGrammar, WriteLaws}
use Rattle.wincode_base.specs.Lists.{item_write, items_write, ItemsWriteRefused, SizesRefused}
use Rattle.wincode_base.specs.JoinedSizes.{JoinedSize, JoinedSizeRefused}
use Rattle.wincode_base.specs.ListLaws.{items_write_laws}
use Rattle.wincode_base.specs.Outcomes.{Wrote, WriteRefused, Stopped, IsSized, SizeRefused}
use Rattle.wincode_base.specs.PairSizeLaws.{unsized_part}
use Rattle.wincode_base.specs.Pairs.{pair_write}
use Rattle.wincode_base.specs.WriteSequences.{items_wrote_more, items_unwritten, item_halted, stopped_map, stopped_behind, wrote_map, unwritten_map}
use Rattle.wincode_base.specs.WriteSequences.{pair_wrote, pair_unwritten_first, pair_unwritten_second}
use Rattle.wincode_base.specs.declared.error.WriteError.{WriteError}
use Rattle.wincode_base.proofs.Lists.{joined_item, unjoined_item}

-- so far the items before `rest` were written
pub record WritesSoFar {S K E V : Type 0} {put : S → List ℕ → S} {room : S → ℕ} (g : WriteGrammar V) (see : E → V) (P : E → Type 0)
    (old cur : WriterState put room K) (all rest : List E) : Type 0 where
  pub done : List E
  pub joins : done ++ rest ≡ all
  pub items : Wrote (items_write g) old cur (map see done)
  pub each : Each P done

-- so far the sizes of the items before `rest` were added
pub record SumsSoFar {E V : Type 0} (g : WriteGrammar V) (see : E → V) (before sum : ℕ) (all rest : List E) : Type 0 where
  pub done : List E
  pub joins : done ++ rest ≡ all
  pub can : Each g.can (map see done)
  pub is : sum ≡ before + total g.size (map see done)

part_model : {E V : Type 0} (see : E → V) (done rest all left : List E) (e : E) → done ++ left ≡ all → left ≡ e ∷ rest → map see done ++ (see e ∷ map see rest)
    ≡ map see all
part_model see done rest all left e j l = sym (map-append see done (e ∷ rest)) ∙ ap (λ t. map see (done ++ t)) (sym l) ∙ ap (map see) j

part_more : {E : Type 0} (done rest all left : List E) (e : E) → done ++ left ≡ all → left ≡ e ∷ rest → (done ++ (e ∷ [])) ++ rest ≡ all
part_more done rest all left e j l = append_assoc done (e ∷ []) rest ∙ ap (λ t. done ++ t) (sym l) ∙ j

-- what holds of each of two runs of items holds of each of all
pub runs_each : {E : Type 0} (P : E → Type 0) (xs ys all : List E) → xs ++ ys ≡ all → Each P xs → Each P ys → Each P all
runs_each P xs ys all e p q = subst (Each P) e (each_append P xs ys p q)

-- what holds of two runs of items holds of all
both : {E V : Type 0} (see : E → V) (xs ys all : List E) → xs ++ ys ≡ all → (Q : List V → Type 0) → Q (map see xs ++ map see ys) → Q (map see all)
both see xs ys all e Q q = subst Q (sym (map-append see xs ys) ∙ ap (map see) e) q

module _ {V : Type 0} (g : WriteGrammar V) (us vs : List V) where
  -- the first run was refused
  refused_front : (room : ℕ) (added : List ℕ) (e : WriteError) → ItemsWriteRefused g us room added e → ItemsWriteRefused g (us ++ vs) room added e
  refused_front room added e d = λ dynamic. let i = d dynamic in record {
    before = i.before;
    item = i.item;
    after = i.after ++ vs;
    encoding = i.encoding;
    rest = i.rest;
    is = ap (λ t. t ++ vs) i.is ∙ append_assoc i.before (i.item ∷ i.after) vs;
    written = i.written;
    joins = i.joins;
    refused = i.refused;
  }

  -- behind the encoding of the first, the second was refused
  refused_behind : (encoding : List ℕ) → Joined g.writes us encoding → (room : ℕ) (added : List ℕ) (e : WriteError)
      → ItemsWriteRefused g vs (room - length encoding) added e → ItemsWriteRefused g (us ++ vs) room (encoding ++ added) e
  refused_behind encoding j room added e d = λ dynamic.
      let i = d dynamic in
      let less : room - length encoding - length i.encoding ≡ room - length (encoding ++ i.encoding) = omega (arith, length-append encoding i.encoding) in
      record {
        before = us ++ i.before;
        item = i.item;
        after = i.after;
        encoding = encoding ++ i.encoding;
        rest = i.rest;
        is = ap (λ t. us ++ t) i.is ∙ sym (append_assoc us i.before (i.item ∷ i.after));
        written = joined_append g.writes us i.before encoding i.encoding j i.written;
        joins = ap (λ t. encoding ++ t) i.joins ∙ sym (append_assoc encoding i.encoding i.rest);
        refused = subst (λ k. g.refused i.item k i.rest e) less i.refused;
      }

nothing : {E : Type 0} (rest : List E) → length rest ≡ 0 → rest ≡ []
nothing [] none = refl
nothing (e ∷ rest) none = absurd (omega (arith, none))

module _ {S K V E : Type 0} {put : S → List ℕ → S} {room : S → ℕ} (laws : WriterLaws put room) {g : WriteGrammar V} {P : E → Type 0} {see : E → V}
    (l : WriteLaws P see g) where
  pub walk_more : {old cur new : WriterState put room K} {all rest left : List E} {e : E} → WritesSoFar g see P old cur all left → left ≡ e ∷ rest
      → Wrote g cur new (see e) → P e → WritesSoFar g see P old new all rest
  walk_more {old} {cur} {new} {all} {rest} {left} {e} w k r h = record {
    done = w.done ++ (e ∷ []);
    joins = part_more w.done rest all left e w.joins k;
    items = subst (Wrote (items_write g) old new) (sym (map-append see w.done (e ∷ []))) (items_wrote_more laws l (map see w.done) (see e) w.items r);
    each = each_append P w.done (e ∷ []) w.each (h, tt);
  }

  pub walk_refused : {old cur new : WriterState put room K} {all rest left : List E} {e : E} {x : WriteError} → WritesSoFar g see P old cur all left → left
      ≡ e ∷ rest → WriteRefused g cur new (see e) x
      → WriteRefused (items_write g) old new (map see all) x
  walk_refused {old} {cur} {new} {all} {rest} {left} {e} {x} w k u =
      let Q : List V → Type 0 = λ vs. WriteRefused (items_write g) old new vs x in
      subst Q (part_model see w.done rest all left e w.joins k) (items_unwritten laws l (map see w.done) (see e) (map see rest) w.items u)

  -- so, of an item of whose refusal no more is said where it has one size
  pub walk_item_more : {old cur new : WriterState put room K} {all rest left : List E} {e : E} → WritesSoFar g see P old cur all left → left ≡ e ∷ rest
      → Wrote (item_write g) cur new (see e) → P e → WritesSoFar g see P old new all rest
  walk_item_more w k r h = walk_more w k (wrote_map (item_write g) g _ _ (λ c. c) refl (λ b t. t) r) h

  pub walk_item_refused : {old cur new : WriterState put room K} {all rest left : List E} {e : E} {x : WriteError} → WritesSoFar g see P old cur all left
      → left ≡ e ∷ rest → WriteRefused (item_write g) cur new (see e) x
      → WriteRefused (items_write g) old new (map see all) x
  walk_item_refused w k u = walk_refused w k (unwritten_map (item_write g) g _ _ (λ c. c) refl (λ b t. t) u)

  pub walk_item_halted : {old cur new : WriterState put room K} {all rest left : List E} {e : E} {x : WriteError} → WritesSoFar g see P old cur all left → left
      ≡ e ∷ rest → Stopped (item_write g) cur new (see e) x
      → Stopped (items_write g) old new (map see all) x
  walk_item_halted {all = all} {rest = rest} {left = left} {e = e} w k s =
      item_halted laws l (map see w.done) (see e) (map see rest) (map see all) (sym (part_model see w.done rest all left e w.joins k)) w.items s

  -- ---- two runs of items, one after the other

  pub runs_wrote : {old mid new : WriterState put room K} (xs ys all : List E) → xs ++ ys ≡ all → Wrote (items_write g) old mid (map see xs)
      → Wrote (items_write g) mid new (map see ys) → Wrote (items_write g) old new (map see all)
  runs_wrote {old} {mid} {new} xs ys all e r s =
      let us = map see xs in let vs = map see ys in
      both see xs ys all e (λ ws. Wrote (items_write g) old new ws)
      (wrote_map (pair_write (items_write g) (items_write g)) (items_write g) (us, vs) (us ++ vs)
      (λ c. each_append g.can us vs c.0 c.1) (total-append g.size us vs)
      (λ b w. subst (Joined g.writes (us ++ vs)) (sym w.4) (joined_append g.writes us vs w.0 w.1 w.2 w.3))
      (pair_wrote (items_write_laws P see g l) (items_write_laws P see g l) laws r s))

  pub runs_refused_first : {old new : WriterState put room K} {x : WriteError} (xs ys all : List E) → xs ++ ys ≡ all
      → WriteRefused (items_write g) old new (map see xs) x → WriteRefused (items_write g) old new (map see all) x
  runs_refused_first {old} {new} {x} xs ys all e u =
      let us = map see xs in let vs = map see ys in
      both see xs ys all e (λ ws. WriteRefused (items_write g) old new ws x)
      (unwritten_map (pair_write (items_write g) (items_write g)) (items_write g) (us, vs) (us ++ vs)
      (λ c. each_split g.can us vs c) (total-append g.size us vs)
      (λ b w. subst (Joined g.writes (us ++ vs)) (sym w.4) (joined_append g.writes us vs w.0 w.1 w.2 w.3))
      (pair_unwritten_first (items_write_laws P see g l) (items_write_laws P see g l) vs u))

  pub runs_refused_second : {old mid new : WriterState put room K} {x : WriteError} (xs ys all : List E) → xs ++ ys ≡ all
      → Wrote (items_write g) old mid (map see xs) → WriteRefused (items_write g) mid new (map see ys) x → WriteRefused (items_write g) old new (map see all) x
  runs_refused_second {old} {mid} {new} {x} xs ys all e r u =
      let us = map see xs in let vs = map see ys in
      both see xs ys all e (λ ws. WriteRefused (items_write g) old new ws x)
      (unwritten_map (pair_write (items_write g) (items_write g)) (items_write g) (us, vs) (us ++ vs)
      (λ c. each_split g.can us vs c) (total-append g.size us vs)
      (λ b w. subst (Joined g.writes (us ++ vs)) (sym w.4) (joined_append g.writes us vs w.0 w.1 w.2 w.3))
      (pair_unwritten_second (items_write_laws P see g l) (items_write_laws P see g l) laws r u))

  pub runs_halted_first : {old new : WriterState put room K} {x : WriteError} (xs ys all : List E) → xs ++ ys ≡ all
      → Stopped (items_write g) old new (map see xs) x → Stopped (items_write g) old new (map see all) x
  runs_halted_first {old} {new} {x} xs ys all e s =
      let us = map see xs in let vs = map see ys in
      both see xs ys all e (λ ws. Stopped (items_write g) old new ws x)
      (stopped_map (items_write g) (items_write g) us (us ++ vs) (λ a r. refused_front g us vs (room old.content) a x r) s)

  pub runs_halted_second : {old mid new : WriterState put room K} {x : WriteError} (xs ys all : List E) → xs ++ ys ≡ all
      → Wrote (items_write g) old mid (map see xs) → Stopped (items_write g) mid new (map see ys) x → Stopped (items_write g) old new (map see all) x
  runs_halted_second {old} {mid} {new} {x} xs ys all e r s =
      let us = map see xs in let vs = map see ys in
      both see xs ys all e (λ ws. Stopped (items_write g) old new ws x)
      (stopped_behind (items_write_laws P see g l) laws (items_write g) (items_write g) vs (us ++ vs) r s
      (λ d. refused_behind g us vs r.encoding r.is_encoding (room old.content) s.added x d))

  -- ---- a run of the items that are left

  run_joins : {old cur : WriterState put room K} {all left : List E} (run more : List E) (w : WritesSoFar g see P old cur all left) → left ≡ run ++ more
      → (w.done ++ run) ++ more ≡ all
  run_joins run more w k = append_assoc w.done run more ∙ ap (λ t. w.done ++ t) (sym k) ∙ w.joins

  pub walk_run : {old cur new : WriterState put room K} {all left : List E} (run more : List E) → WritesSoFar g see P old cur all left → left ≡ run ++ more
      → Wrote (items_write g) cur new (map see run) → Each P run → WritesSoFar g see P old new all more
  walk_run run more w k r h = record {
    done = w.done ++ run;
    joins = run_joins run more w k;
    items = runs_wrote w.done run (w.done ++ run) refl w.items r;
    each = each_append P w.done run w.each h;
  }

  pub walk_run_refused : {old cur new : WriterState put room K} {all left : List E} {x : WriteError} (run more : List E) → WritesSoFar g see P old cur all left
      → left ≡ run ++ more → WriteRefused (items_write g) cur new (map see run) x
      → WriteRefused (items_write g) old new (map see all) x
  walk_run_refused {all = all} run more w k u = runs_refused_first (w.done ++ run) more all (run_joins run more w k)
      (runs_refused_second w.done run (w.done ++ run) refl w.items u)

  pub walk_run_halted : {old cur new : WriterState put room K} {all left : List E} {x : WriteError} (run more : List E) → WritesSoFar g see P old cur all left
      → left ≡ run ++ more → Stopped (items_write g) cur new (map see run) x
      → Stopped (items_write g) old new (map see all) x
  walk_run_halted {all = all} run more w k s = runs_halted_first (w.done ++ run) more all (run_joins run more w k)
      (runs_halted_second w.done run (w.done ++ run) refl w.items s)

  -- all items were written
  pub walk_all : {old cur : WriterState put room K} {all left : List E} (w : WritesSoFar g see P old cur all left) → length left ≡ 0
      → Wrote (items_write g) old cur (map see all) × Each P all
  walk_all {old} {cur} {all} {left} w none =
      let done : w.done ≡ all = sym (append-nil w.done) ∙ ap (λ t. w.done ++ t) (sym (nothing left none)) ∙ w.joins in
      (subst (λ ds. Wrote (items_write g) old cur (map see ds)) done w.items, subst (Each P) done w.each)

module _ {V E : Type 0} (g : WriteGrammar V) (see : E → V) (before : ℕ) where
  sum_more : (sum new : ℕ) (all rest left : List E) (e : E) → SumsSoFar g see before sum all left → left ≡ e ∷ rest → g.can (see e) → new
      ≡ sum + g.size (see e) → SumsSoFar g see before new all rest
  sum_more sum new all rest left e w k c n = record {
    done = w.done ++ (e ∷ []);
    joins = part_more w.done rest all left e w.joins k;
    can = subst (Each g.can) (sym (map-append see w.done (e ∷ []))) (each_append g.can (map see w.done) (see e ∷ []) w.can (c, tt));
    is = let a = ap (total g.size) (map-append see w.done (e ∷ [])) in let b = total-append g.size (map see w.done) (see e ∷ []) in let d = w.is in
        omega (arith, a, b, d, n);
  }

  total_part : (sum : ℕ) (all rest left : List E) (e : E) → SumsSoFar g see before sum all left → left ≡ e ∷ rest → sum + g.size (see e)
      ≤ before + total g.size (map see all)
  total_part sum all rest left e w k =
      let a = ap (total g.size) (part_model see w.done rest all left e w.joins k) in
      let b = total-append g.size (map see w.done) (see e ∷ map see rest) in
      let d = w.is in omega (arith, a, b, d)

  part_can : (sum : ℕ) (all rest left : List E) (e : E) → SumsSoFar g see before sum all left → left ≡ e ∷ rest → Each g.can (map see all) → g.can (see e)
  part_can sum all rest left e w k c =
      (each_split g.can (map see w.done) (see e ∷ map see rest) (subst (Each g.can) (sym (part_model see w.done rest all left e w.joins k)) c)).1.0

  -- the size of an item more was added
  pub sum_joined : (sum new : ℕ) (all rest left : List E) (e : E) (size : Result ℕ WriteError) → SumsSoFar g see before sum all left → left ≡ e ∷ rest
      → IfOk size (IsSized g (see e)) → JoinedSize (Ok sum) size new → SumsSoFar g see before new all rest
  sum_joined sum new all rest left e size w k s r = let n = joined_item g (see e) sum new size s r in sum_more sum new all rest left e w k n.0 n.1

  -- or was refused, or there is no such sum
  pub sum_unjoined : (sum : ℕ) (all rest left : List E) (e : E) (size : Result ℕ WriteError) (x : WriteError) → SumsSoFar g see before sum all left
      → left ≡ e ∷ rest → IfOk size (IsSized g (see e)) → IfErr size (SizeRefused g (see e)) → JoinedSizeRefused (Ok sum) size x
      → SizesRefused before g (map see all) x
  sum_unjoined sum all rest left e size x w k s d r =
      unjoined_item g (see e) sum before (map see all) (part_can sum all rest left e w k) (total_part sum all rest left e w k) size x s d r

  -- ---- the sizes of two runs

  parted : (xs ys all : List E) → xs ++ ys ≡ all → map see xs ++ map see ys ≡ map see all
  parted xs ys all e = sym (map-append see xs ys) ∙ ap (map see) e

  total_parted : (xs ys all : List E) → xs ++ ys ≡ all → total g.size (map see all) ≡ total g.size (map see xs) + total g.size (map see ys)
  total_parted xs ys all e = sym (ap (total g.size) (parted xs ys all e)) ∙ total-append g.size (map see xs) (map see ys)

  can_parted : (xs ys all : List E) → xs ++ ys ≡ all → Each g.can (map see all) → Each g.can (map see xs) × Each g.can (map see ys)
  can_parted xs ys all e c = each_split g.can (map see xs) (map see ys) (subst (Each g.can) (sym (parted xs ys all e)) c)

  pub sums_first : (xs ys all : List E) (x : WriteError) → xs ++ ys ≡ all → SizesRefused before g (map see xs) x → SizesRefused before g (map see all) x
  sums_first xs ys all x e d = (
    λ c fits. d.0 (can_parted xs ys all e c).0 (omega (arith, fits, total_parted xs ys all e)),
    unsized_part g.builtin x (λ c. (can_parted xs ys all e c).0) d.1,
  )

  pub sums_second : (xs ys all : List E) (sum : ℕ) (x : WriteError) → xs ++ ys ≡ all → sum ≡ before + total g.size (map see xs)
      → SizesRefused sum g (map see ys) x → SizesRefused before g (map see all) x
  sums_second xs ys all sum x e s d = (
    λ c fits. d.0 (can_parted xs ys all e c).1 (omega (arith, fits, s, total_parted xs ys all e)),
    unsized_part g.builtin x (λ c. (can_parted xs ys all e c).1) d.1,
  )

  pub sums_both : (xs ys all : List E) (sum n : ℕ) → xs ++ ys ≡ all → Each g.can (map see xs) × (sum ≡ before + total g.size (map see xs))
      → Each g.can (map see ys) × (n ≡ sum + total g.size (map see ys))
      → Each g.can (map see all) × (n ≡ before + total g.size (map see all))
  sums_both xs ys all sum n e p q =
      (subst (Each g.can) (parted xs ys all e) (each_append g.can (map see xs) (map see ys) p.0 q.0), omega (arith, p.1, q.1, total_parted xs ys all e))
