-- The laws of reading of what has parts, by a word for each kind: what stands in a struct with type parameters is put together from them.
use Rattle.std.proofs.Common.{◌≡◌, Bool, true, lit≤}
use Rattle.std.specs.Cmp.{IsTotalOrder, IsEquivalence}
use Rattle.std.specs.Ordering.{is_eq}
use Rattle.std.specs.Prelude.{map}
use Rattle.std.specs.declared.cmp.Ordering.{Ordering}
use Rattle.wincode_collect.specs.Collections.{IsMapOf, IsHashMapOf}
use Rattle.wincode_collect.specs.Seen.{sees, hash_map_sees, Made}
use Rattle.wincode_io.specs.Joins.{Each}
use Rattle.wincode_base.specs.BoundLaws.{bound_read_laws}
use Rattle.wincode_base.specs.Bounds.{bound_read, IfBound}
use Rattle.wincode_base.specs.Boxed.{boxed_read}
use Rattle.wincode_base.specs.BoxedLaws.{boxed_read_laws}
use Rattle.wincode_base.specs.Gathered.{gathered_read}
use Rattle.wincode_base.specs.GatheredLaws.{map_read_laws, hash_map_read_laws}
use Rattle.wincode_base.specs.Grammar.{ReadGrammar, ReadLaws}
use Rattle.wincode_base.specs.InWindow.{windowed_read}
use Rattle.wincode_base.specs.ItemSizes.{pair_size}
use Rattle.wincode_base.specs.LengthLaws.{bincode_laws}
use Rattle.wincode_base.specs.Lengths.{Scheme, SchemeLaws, bincode, preallocation_limit}
use Rattle.wincode_base.specs.ListLaws.{list_read_laws}
use Rattle.wincode_base.specs.Lists.{list_read}
use Rattle.wincode_base.specs.PairLaws.{pair_read_laws, windowed_read_laws}
use Rattle.wincode_base.specs.Pairs.{pair_read}
use Rattle.wincode_base.specs.TagLaws.{option_read_laws, result_read_laws}
use Rattle.wincode_base.specs.Tags.{option_read, IfPart, result_read, IfSide}

module _ {V : Type 0} {p : V → Type 0} {g : ReadGrammar V} where
  -- a list behind eight bytes
  pub vec_laws : ReadLaws p g → ReadLaws (Each p) (list_read (bincode preallocation_limit) 24 g)
  vec_laws l = list_read_laws (bincode preallocation_limit) (bincode_laws preallocation_limit) 24 (lit≤ tt) p g l

  -- a list behind a length of this scheme
  pub list_laws : (s : Scheme) → SchemeLaws s → ReadLaws p g → ReadLaws (Each p) (list_read s 24 g)
  list_laws s scheme l = list_read_laws s scheme 24 (lit≤ tt) p g l

  -- a slice that is owned, behind such a length
  pub slice_laws : (s : Scheme) → SchemeLaws s → ReadLaws p g → ReadLaws (Each p) (list_read s 16 g)
  slice_laws s scheme l = list_read_laws s scheme 16 (lit≤ tt) p g l

  pub option_laws : ReadLaws p g → ReadLaws (IfPart p) (option_read 1 g)
  option_laws l = option_read_laws 1 (lit≤ tt) p g l

  pub box_laws : ReadLaws p g → ReadLaws p (boxed_read g)
  box_laws l = boxed_read_laws p g l

  -- what is as the value that it holds
  pub same_laws : ReadLaws p g → ReadLaws p g
  same_laws l = l

  pub range_laws : ReadLaws p g → ReadLaws (λ v. p v.0 × p v.1) (windowed_read (pair_read g g))
  range_laws l = windowed_read_laws (pair_read_laws l l)

  pub bound_laws : ReadLaws p g → ReadLaws (IfBound p) (bound_read g)
  bound_laws l = bound_read_laws p g l

pub result_laws : {V W : Type 0} {p : V → Type 0} {q : W → Type 0} {g : ReadGrammar V} {h : ReadGrammar W} → ReadLaws p g → ReadLaws q h
    → ReadLaws (IfSide p q) (result_read 4 g h)
result_laws {p = p} {q = q} {g = g} {h = h} l m = result_read_laws 4 (lit≤ tt) p q g h l m

module _ {K X A B : Type 0} (f : K → A) (see : X → B) {p : A → Type 0} {q : B → Type 0} {r : ReadGrammar A} {t : ReadGrammar B} (l : ReadLaws p r)
    (m : ReadLaws q t) where
  pub map_laws : (cmp : K → K → Ordering) → IsTotalOrder cmp → (eq : K → K → Bool) → ((x y : K) → eq x y ≡ is_eq (cmp x y))
      → ((x y : K) → f x ≡ f y → eq x y ≡ true)
      → ReadLaws (Each (λ v. p v.0 × q v.1)) (gathered_read (sees f see) (Made (IsMapOf cmp) (map (sees f see))) (bincode preallocation_limit)
      (pair_size r.meta t.meta) (pair_read r t))
  map_laws cmp o eq match alike = map_read_laws (bincode preallocation_limit) (bincode_laws preallocation_limit) (pair_size r.meta t.meta)
      f see l m cmp o eq match alike

  pub hash_map_laws : (eq : K → K → Bool) → IsEquivalence eq → ((x y : K) → f x ≡ f y → eq x y ≡ true)
      → ReadLaws (λ v. Unit {0}) (gathered_read (sees f see) (Made (IsHashMapOf eq) (hash_map_sees eq f see)) (bincode preallocation_limit)
      (pair_size r.meta t.meta) (pair_read r t))
  hash_map_laws eq laws alike = hash_map_read_laws (bincode preallocation_limit) (bincode_laws preallocation_limit) (pair_size r.meta t.meta)
      f see l m eq laws alike
