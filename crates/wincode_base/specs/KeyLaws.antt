-- The laws of keys and items, and of those that have parts from those of their parts.
use Rattle.std.proofs.Common.{◌≡◌, ◌∙◌, sym, ap, ℕ, Bool, true, false, ◌&&◌, List, [], ◌∷◌, length, map, refl, arith, Some, None, Result, Ok, Err, true≢false}
use Rattle.std.specs.Prelude.{ℤ, Option, nat_eq}
use Rattle.std.specs.Bool.{beq}
use Rattle.std.specs.Cmp.{unsigned_Decides, signed_Decides, booleans_Decides}
use Rattle.std.specs.Cmp.Lexicographic.{pointwise, pointwise_decides}
use Rattle.std.specs.Option.{option_eq, option_map, is_some}
use Rattle.std.specs.Ordering.{int_eq}
use Rattle.std.specs.Result.{result_eq, result_map_both, is_ok}
use Rattle.wincode_collect.specs.Seen.{sees}
use Rattle.wincode_base.specs.Keys.{IsAlike, IsDecidable}

-- ---- equal, where the same is seen

pub nat_alike : IsAlike nat_eq (λ n. n)
nat_alike x y = (unsigned_Decides x y).1

pub int_alike : IsAlike int_eq (λ n. n)
int_alike x y = (signed_Decides x y).1

pub bool_alike : IsAlike beq (λ b. b)
bool_alike x y = (booleans_Decides x y).1

pub str_alike : IsAlike (pointwise nat_eq) (λ bytes. bytes)
str_alike x y = (pointwise_decides unsigned_Decides x y).1

pub pair_alike : {A B V W : Type 0} {E : A → A → Bool} {F : B → B → Bool} {f : A → V} {g : B → W} → IsAlike E f → IsAlike F g
    → IsAlike {K = A × B} (λ p q. E p.0 q.0 && F p.1 q.1) (sees f g)
pair_alike {F = F} a b p q e = let m = a p.0 q.0 (ap (λ t. t.0) e) in let n = b p.1 q.1 (ap (λ t. t.1) e) in ap (λ t. t && F p.1 q.1) m ∙ n

pub option_alike : {A V : Type 0} {E : A → A → Bool} {f : A → V} → IsAlike E f → IsAlike (option_eq E) (option_map f)
option_alike a None None e = refl
option_alike a None (Some y) e = absurd (true≢false (ap is_some (sym e)))
option_alike a (Some x) None e = absurd (true≢false (ap is_some e))
option_alike a (Some x) (Some y) e = a x y (cc)

pub both_true : {a b : Bool} → a ≡ true → b ≡ true → (a && b) ≡ true
both_true {b = b} p q = ap (λ t. t && b) p ∙ q

pub result_alike : {A B V W : Type 0} {E : A → A → Bool} {F : B → B → Bool} {f : A → V} {g : B → W} → IsAlike E f → IsAlike F g
    → IsAlike (result_eq E F) (result_map_both f g)
result_alike a b (Ok x) (Ok y) e = a x y (cc)
result_alike a b (Ok x) (Err y) e = absurd (true≢false (ap is_ok e))
result_alike a b (Err x) (Ok y) e = absurd (true≢false (ap is_ok (sym e)))
result_alike a b (Err x) (Err y) e = b x y (cc)

pub items_alike : {A V : Type 0} {E : A → A → Bool} {f : A → V} → IsAlike E f → IsAlike (pointwise E) (map f)
items_alike a [] [] e = refl
items_alike a [] (y ∷ ys) e = absurd (omega (arith, ap length e))
items_alike a (x ∷ xs) [] e = absurd (omega (arith, ap length e))
items_alike {E = E} a (x ∷ xs) (y ∷ ys) e = ap (λ t. t && pointwise E xs ys) (a x y (cc)) ∙ items_alike a xs ys (cc)

-- ---- told apart

pub nat_decidable : IsDecidable ℕ
nat_decidable a b = (nat_eq a b, unsigned_Decides a b)

pub int_decidable : IsDecidable ℤ
int_decidable a b = (int_eq a b, signed_Decides a b)

pub bool_decidable : IsDecidable Bool
bool_decidable a b = (beq a b, booleans_Decides a b)

pub unit_decidable : IsDecidable Unit
unit_decidable a b = (true, (λ e. refl, λ e. refl))

pub items_decidable : {V : Type 0} → IsDecidable V → IsDecidable (List V)
items_decidable t xs ys = (pointwise (λ a b. (t a b).0) xs ys, pointwise_decides (λ a b. (t a b).1) xs ys)

and_left : (a b : Bool) → (a && b) ≡ true → a ≡ true
and_left true b e = refl
and_left false b e = e

and_right : (a b : Bool) → (a && b) ≡ true → b ≡ true
and_right true b e = e
and_right false b e = absurd (true≢false (sym e))

pub pair_decidable : {V W : Type 0} → IsDecidable V → IsDecidable W → IsDecidable (V × W)
pair_decidable t u p q =
    let d = t p.0 q.0 in
    let k = u p.1 q.1 in (
      d.0 && k.0,
      (
        λ e. ap (λ t. (t, p.1)) (d.1.0 (and_left d.0 k.0 e)) ∙ ap (λ t. (q.0, t)) (k.1.0 (and_right d.0 k.0 e)),
        λ e. ap (λ t. t && k.0) (d.1.1 (ap (λ t. t.0) e)) ∙ k.1.1 (ap (λ t. t.1) e),
      ),
    )

pub option_decidable : {V : Type 0} → IsDecidable V → IsDecidable (Option V)
option_decidable t None None = (true, (λ e. refl, λ e. refl))
option_decidable t None (Some y) = (false, (λ e. absurd (true≢false (sym e)), λ e. absurd (true≢false (ap is_some (sym e)))))
option_decidable t (Some x) None = (false, (λ e. absurd (true≢false (sym e)), λ e. absurd (true≢false (ap is_some e))))
option_decidable t (Some x) (Some y) = ((t x y).0, (λ e. ap Some ((t x y).1.0 e), λ e. (t x y).1.1 (cc)))

pub result_told : {V W : Type 0} → IsDecidable V → IsDecidable W → IsDecidable (Result V W)
result_told t u (Ok x) (Ok y) = ((t x y).0, (λ e. ap Ok ((t x y).1.0 e), λ e. (t x y).1.1 (cc)))
result_told t u (Ok x) (Err y) = (false, (λ e. absurd (true≢false (sym e)), λ e. absurd (true≢false (ap is_ok e))))
result_told t u (Err x) (Ok y) = (false, (λ e. absurd (true≢false (sym e)), λ e. absurd (true≢false (ap is_ok (sym e)))))
result_told t u (Err x) (Err y) = ((u x y).0, (λ e. ap Err ((u x y).1.0 e), λ e. (u x y).1.1 (cc)))
