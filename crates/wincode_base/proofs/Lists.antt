-- Going over a list item by item, in writing.
use Rattle.std.proofs.Common.{◌≡◌, ◌∙◌, sym, ap, subst, ℕ, ◌+◌, ◌*◌, ◌<◌, ◌≤◌, ◌^◌, List, [], ◌∷◌, length, map, take, drop, get_or, suc, arith}
use Rattle.std.proofs.Common.{inl, inr, refl, Result, Ok}
use Rattle.std.specs.Prelude.{IfOk, IfErr}
use Rattle.std.proofs.lemmas.List.{length-map}
use Rattle.wincode_io.specs.Writers.{WriterState, WriterLaws}
use Rattle.wincode_base.specs.Grammar.{WriteGrammar, WriteLaws}
use Rattle.wincode_base.specs.Lengths.{Scheme, HasEncoding, encoding_len, length_write, LengthSizeRefused}
use Rattle.wincode_base.specs.JoinedSizes.{JoinedSize, JoinedSizeRefused}
use Rattle.wincode_base.specs.Lists.{item_write, items_write, each_write, parts_write, list_write, SizesRefused}
use Rattle.wincode_base.specs.Outcomes.{Wrote, WriteRefused, Stopped, IsSized, SizeRefused}
use Rattle.wincode_base.specs.PairSizeLaws.{overflow_refused, unsized_part, unsized_second, unwritable_first}
use Rattle.wincode_base.specs.WriteSequences.{items_wrote_none, items_wrote_more, items_unwritten, each_halted, items_halted, item_halted}
use Rattle.wincode_base.specs.WriteSequences.{list_halted_first, list_halted_second, list_wrote, list_unwritten_first, list_unwritten_second}
use Rattle.wincode_base.specs.declared.error.WriteError.{WriteError}
use Rattle.wincode_io.specs.Joins.{Each, total}
use Rattle.wincode_io.specs.JoinLaws.{map_more, map_parted, each_map_after, each_map_at, total_after, total_within}

-- no item was written yet
pub items_before : {A V S K : Type 0} (xs : List A) (f : A → V) {put : S → List ℕ → S} {room : S → ℕ} (laws : WriterLaws put room)
    {g : WriteGrammar V} {p : A → Type 0} (l : WriteLaws p f g) (s : WriterState put room K)
    → Wrote (items_write g) s s (map f (take 0 xs)) × Each p (take 0 xs)
items_before xs f laws l s = (items_wrote_none laws l s, tt)

module _ {A V S K : Type 0} (xs : List A) (i : ℕ) (x : A) (h : i < length xs) (e : x ≡ get_or xs i x) (f : A → V)
    {put : S → List ℕ → S} {room : S → ℕ} (laws : WriterLaws put room) {g : WriteGrammar V} {p : A → Type 0} (l : WriteLaws p f g)
    {old mid new : WriterState put room K} where
  -- one item more was written
  pub items_after : Wrote (items_write g) old mid (map f (take i xs)) → Wrote g mid new (f x) → Wrote (items_write g) old new (map f (take (i + 1) xs))
  items_after r s = subst (Wrote (items_write g) old new) (sym (map_more xs i x h e f)) (items_wrote_more laws l (map f (take i xs)) (f x) r s)

  -- an item was refused
  pub items_stopped : {r : WriteError} → Wrote (items_write g) old mid (map f (take i xs)) → WriteRefused g mid new (f x) r
      → WriteRefused (items_write g) old new (map f xs) r
  items_stopped {r} w u =
      let P : List V → Type 0 = λ vs. WriteRefused (items_write g) old new vs r in
      subst P (sym (map_parted xs i x h e f)) (items_unwritten laws l (map f (take i xs)) (f x) (map f (drop (suc i) xs)) w u)

  pub each_place : {r : WriteError} → Wrote (items_write g) old mid (map f (take i xs)) → Stopped g mid new (f x) r
      → Stopped (each_write g) old new (map f xs) r
  each_place {r} w s = each_halted laws l (map f (take i xs)) (f x) (map f (drop (suc i) xs)) (map f xs) (map_parted xs i x h e f) w s

  pub items_place : {r : WriteError} → Wrote (items_write g) old mid (map f (take i xs)) → Stopped g mid new (f x) r
      → Stopped (items_write g) old new (map f xs) r
  items_place {r} w s = items_halted laws l (map f (take i xs)) (f x) (map f (drop (suc i) xs)) (map f xs) (map_parted xs i x h e f) w s

  -- of whose refusal no more is said where it has one size
  pub item_place : {r : WriteError} → Wrote (items_write g) old mid (map f (take i xs)) → Stopped (item_write g) mid new (f x) r
      → Stopped (items_write g) old new (map f xs) r
  item_place {r} w s = item_halted laws l (map f (take i xs)) (f x) (map f (drop (suc i) xs)) (map f xs) (map_parted xs i x h e f) w s

-- ---- the length of a list is that of what contracts see of it

module _ {X V : Type 0} (s : Scheme) (f : X → V) (xs : List X) where
  same_length : length (map f xs) ≡ length xs
  same_length = length-map xs f

  pub model_encoding : HasEncoding s (length xs) → HasEncoding s (length (map f xs))
  model_encoding h = subst (HasEncoding s) (sym same_length) h

  pub encoding_model : HasEncoding s (length (map f xs)) → HasEncoding s (length xs)
  encoding_model h = subst (HasEncoding s) same_length h

  pub model_size : encoding_len (s.encoding (length (map f xs))) ≡ encoding_len (s.encoding (length xs))
  model_size = ap (λ n. encoding_len (s.encoding n)) same_length

module _ {X V : Type 0} (s : Scheme) (count : ℕ) (g : WriteGrammar V) (f : X → V) (xs : List X) where
  -- the length has no encoding
  pub size_without_encoding : (e : WriteError) → LengthSizeRefused s (length xs) e → SizeRefused (list_write s count g) (map f xs) e
  size_without_encoding e d = (λ c fits. d.0 (encoding_model s f xs c.0), unwritable_first s.builtin g.builtin e (λ c. d.0 (encoding_model s f xs c.0)) d.1)

  -- the length has an encoding, and the sizes of the items were added to its size
  pub size_summed : (before n : ℕ) → HasEncoding s (length xs) → before ≡ encoding_len (s.encoding (length xs)) → Each g.can (map f xs)
      × (n ≡ before + total g.size (map f xs)) → (list_write s count g).can (map f xs) × (n ≡ (list_write s count g).size (map f xs))
  size_summed before n encoding e p = ((model_encoding s f xs encoding, p.0), p.1 ∙ ap (λ k. k + total g.size (map f xs)) (e ∙ sym (model_size s f xs)))

  -- the length has an encoding, and the sizes of the items were refused
  pub size_unsummed : (before : ℕ) (e : WriteError) → before ≡ encoding_len (s.encoding (length xs)) → SizesRefused before g (map f xs) e
      → SizeRefused (list_write s count g) (map f xs) e
  size_unsummed before e is d = (λ c fits. d.0 c.1 (omega (arith, is, model_size s f xs)), unsized_second s.builtin g.builtin e (λ c. c.1) d.1)

-- ---- the sizes of items, added to what stands before them

module _ {V : Type 0} (g : WriteGrammar V) (v : V) (sum : ℕ) where
  -- the size of an item, and what a sum with it is
  pub joined_item : (new : ℕ) (size : Result ℕ WriteError) → IfOk size (IsSized g v) → JoinedSize (Ok sum) size new → g.can v × (new ≡ sum + g.size v)
  joined_item new size s r =
      let is : sum ≡ r.0 = subst (λ t. IfOk t (λ n. sum ≡ n)) r.2 refl in
      let one = subst (λ t. IfOk t (IsSized g v)) r.3 s in
      (one.0, omega (arith, is, r.4, one.1))

  -- a sum with the size of an item was refused, which is one of these behind the others
  pub unjoined_item : (before : ℕ) (vs : List V) → (Each g.can vs → g.can v) → sum + g.size v ≤ before + total g.size vs → (size : Result ℕ WriteError)
      (e : WriteError) → IfOk size (IsSized g v) → IfErr size (SizeRefused g v) → JoinedSizeRefused (Ok sum) size e → SizesRefused before g vs e
  unjoined_item before vs can within size e s d (inl p) = subst (λ t. IfErr t (SizesRefused before g vs)) p tt
  unjoined_item before vs can within size e s d (inr (inl p)) =
      let one = subst (λ t. IfErr t (SizeRefused g v)) p.2 d in
      (λ c fits. one.0 (can c) (omega (arith, within, fits)), unsized_part g.builtin e can one.1)
  unjoined_item before vs can within size e s d (inr (inr p)) =
      let is : sum ≡ p.0 = subst (λ t. IfOk t (λ n. sum ≡ n)) p.2 refl in
      let one = subst (λ t. IfOk t (IsSized g v)) p.3 s in
      overflow_refused g.builtin e (λ c fits. absurd (omega (arith, is, p.4, one.1, within, fits))) p.5

module _ {X V : Type 0} (before : ℕ) (g : WriteGrammar V) (f : X → V) (xs : List X) (i : ℕ) (x : X) (h : i < length xs) (is : x ≡ get_or xs i x)
    (sum : ℕ) (size : Result ℕ WriteError) (so : sum ≡ before + total g.size (map f (take i xs))) (s : IfOk size (IsSized g (f x))) where
  -- the size of the item at a place was added to those before it
  pub item_joined : (new : ℕ) → Each g.can (map f (take i xs)) → JoinedSize (Ok sum) size new
      → Each g.can (map f (take (i + 1) xs)) × (new ≡ before + total g.size (map f (take (i + 1) xs)))
  item_joined new can r =
      let n = joined_item g (f x) sum new size s r in
      (each_map_after xs i x h is f g.can can n.0, omega (arith, n.1, so, total_after xs i x h is f g.size))

  -- or was refused, or there is no such sum
  pub item_unjoined : (e : WriteError) → IfErr size (SizeRefused g (f x)) → JoinedSizeRefused (Ok sum) size e → SizesRefused before g (map f xs) e
  item_unjoined e d r =
      unjoined_item g (f x) sum before (map f xs) (each_map_at xs i x h is f g.can) (omega (arith, so, total_within xs i x h is f g.size)) size e s d r

-- ---- items of which each can be written, in one size

module _ {X V : Type 0} (g : WriteGrammar V) (f : X → V) (n : ℕ) (known : (x : X) → IsSized g (f x) n) where
  sizes_known : (xs : List X) → Each g.can (map f xs) × (total g.size (map f xs) ≡ length xs * n)
  sizes_known [] = (tt, omega arith)
  sizes_known (x ∷ xs) =
      let rest = sizes_known xs in
      let one = known x in
      ((one.0, rest.0), omega (arith, one.1, rest.1))

  pub known_sum : (before count sum : ℕ) (xs : List X) → length xs ≡ count → sum ≡ before + count * n → Each g.can (map f xs)
      × (sum ≡ before + total g.size (map f xs))
  known_sum before count sum xs long is =
      let all = sizes_known xs in
      (all.0, is ∙ ap (λ k. before + k) (ap (λ k. k * n) (sym long) ∙ sym all.1))

  pub known_over : (before count : ℕ) (xs : List X) → length xs ≡ count → (before + count * n < 2 ^ 64 → ⊥) → Each g.can (map f xs)
      → before + total g.size (map f xs) < 2 ^ 64 → ⊥
  known_over before count xs long over can fits = over (subst (λ k. before + k < 2 ^ 64) ((sizes_known xs).1 ∙ ap (λ k. k * n) long) fits)

-- ---- a list after its length

module _ {S K X V : Type 0} {put : S → List ℕ → S} {room : S → ℕ} (laws : WriterLaws put room) (s : Scheme) (count : ℕ)
    {g : WriteGrammar V} {p : X → Type 0} {f : X → V} (l : WriteLaws p f g) (xs : List X) where
  length_model : (old new : WriterState put room K) → Wrote (length_write s) old new (length xs) → Wrote (length_write s) old new (length (map f xs))
  length_model old new r = subst (Wrote (length_write s) old new) (sym (length-map xs f)) r

  pub all_wrote : {old mid new : WriterState put room K} → Wrote (length_write s) old mid (length xs) → Wrote (items_write g) mid new (map f xs)
      → Wrote (parts_write s count g) old new (map f xs)
  all_wrote {old} {mid} {new} r t = list_wrote laws l s count (map f xs) (length_model old mid r) t

  pub length_unwritten : {old new : WriterState put room K} {e : WriteError} → WriteRefused (length_write s) old new (length xs) e
      → WriteRefused (parts_write s count g) old new (map f xs) e
  length_unwritten {old} {new} {e} u =
      let P : ℕ → Type 0 = λ n. WriteRefused (length_write s) old new n e in
      list_unwritten_first laws l s count (map f xs) (subst P (sym (length-map xs f)) u)

  pub rest_unwritten : {old mid new : WriterState put room K} {e : WriteError} → Wrote (length_write s) old mid (length xs)
      → WriteRefused (items_write g) mid new (map f xs) e → WriteRefused (parts_write s count g) old new (map f xs) e
  rest_unwritten {old} {mid} r u = list_unwritten_second laws l s count (map f xs) (length_model old mid r) u

  pub length_halted : {old new : WriterState put room K} {e : WriteError} → Stopped (length_write s) old new (length xs) e
      → Stopped (parts_write s count g) old new (map f xs) e
  length_halted {old} {new} {e} h =
      let P : ℕ → Type 0 = λ n. Stopped (length_write s) old new n e in
      list_halted_first laws l s count (map f xs) (subst P (sym (length-map xs f)) h)

  pub rest_halted : {old mid new : WriterState put room K} {e : WriteError} → Wrote (length_write s) old mid (length xs)
      → Stopped (items_write g) mid new (map f xs) e → Stopped (parts_write s count g) old new (map f xs) e
  rest_halted {old} {mid} r h = list_halted_second laws l s count (map f xs) (length_model old mid r) h
