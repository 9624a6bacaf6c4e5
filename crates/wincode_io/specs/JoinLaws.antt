-- The laws of encodings joined in order.
use Rattle.std.proofs.Common.{◌≡◌, ◌∙◌, sym, ap, subst, ℕ, ◌+◌, ◌<◌, ◌≤◌, List, [], ◌∷◌, ◌++◌, length, map, take, drop, get_or, suc, refl, arith}
use Rattle.std.proofs.Common.{append_assoc, append-nil, take-append-drop}
use Rattle.std.proofs.lemmas.List.{take_more, map-append}
use Rattle.std.proofs.Math.Seq.{drop-cons}
use Rattle.wincode_io.specs.Joins.{IsUnambiguous, Joined, Each, total, AreItems}

pub cancel : {A : Type 0} (a x y : List A) → a ++ x ≡ a ++ y → x ≡ y
cancel [] x y e = e
cancel (c ∷ a) x y e = cancel a x y (cc)

module _ {V : Type 0} (reads : List ℕ → V → Type 0) (one : IsUnambiguous reads) where
  -- as many items from two beginnings of one input are the same
  pub joined_one : (vs ws : List V) (a b x y : List ℕ) → length vs ≡ length ws → Joined reads vs a → Joined reads ws b → a ++ x ≡ b
      ++ y → (a ≡ b) × (vs ≡ ws)
  joined_one [] [] a b x y l p q e = (p ∙ sym q, refl)
  joined_one [] (w ∷ ws) a b x y l p q e = absurd (omega arith)
  joined_one (v ∷ vs) [] a b x y l p q e = absurd (omega arith)
  joined_one (v ∷ vs) (w ∷ ws) a b x y l p q e =
      let whole : p.0 ++ (p.1 ++ x) ≡ q.0 ++ (q.1 ++ y) = sym (append_assoc p.0 p.1 x) ∙ ap (λ r. r ++ x) (sym p.4) ∙ e ∙ ap (λ r. r ++ y) q.4
      ∙ append_assoc q.0 q.1 y in
      let same = one p.0 q.0 (p.1 ++ x) (q.1 ++ y) v w p.2 q.2 whole in
      let after = cancel p.0 (p.1 ++ x) (q.1 ++ y) (whole ∙ sym (ap (λ r. r ++ (q.1 ++ y)) same.0)) in
      let m : length vs ≡ length ws = omega arith in
      let rest = joined_one vs ws p.1 q.1 x y m p.3 q.3 after in
      (p.4 ∙ ap (λ r. r ++ p.1) same.0 ∙ ap (λ r. q.0 ++ r) rest.0 ∙ sym q.4, ap (λ u. u ∷ vs) same.1 ∙ ap (λ us. w ∷ us) rest.1)

  pub items_one : (n : ℕ) → IsUnambiguous (AreItems n reads)
  items_one n a b x y vs ws p q e = joined_one vs ws a b x y (p.0 ∙ sym q.0) p.1 q.1 e

-- one encoding more, behind the others
pub joined_snoc : {V : Type 0} (reads : List ℕ → V → Type 0) (vs : List V) (v : V) (a b : List ℕ) → Joined reads vs a → reads b v
    → Joined reads (vs ++ (v ∷ [])) (a ++ b)
joined_snoc reads [] v a b p r = (b, [], r, refl, ap (λ t. t ++ b) p ∙ sym (append-nil b))
joined_snoc reads (w ∷ vs) v a b p r = (p.0, p.1 ++ b, p.2, joined_snoc reads vs v p.1 b p.3 r, ap (λ t. t ++ b) p.4 ∙ append_assoc p.0 p.1 b)

pub joined_append : {V : Type 0} (R : List ℕ → V → Type 0) (us vs : List V) (a b : List ℕ) → Joined R us a → Joined R vs b → Joined R (us ++ vs) (a ++ b)
joined_append R [] vs a b p q = subst (Joined R vs) (sym (ap (λ t. t ++ b) p)) q
joined_append R (u ∷ us) vs a b p q = (p.0, p.1 ++ b, p.2, joined_append R us vs p.1 b p.3 q, ap (λ t. t ++ b) p.4 ∙ append_assoc p.0 p.1 b)

pub each_map : {V : Type 0} (P Q : V → Type 0) → ((v : V) → P v → Q v) → (vs : List V) → Each P vs → Each Q vs
each_map P Q m [] e = tt
each_map P Q m (v ∷ vs) e = (m v e.0, each_map P Q m vs e.1)

pub each_split : {V : Type 0} (P : V → Type 0) (us vs : List V) → Each P (us ++ vs) → Each P us × Each P vs
each_split P [] vs e = (tt, e)
each_split P (u ∷ us) vs e = let r = each_split P us vs e.1 in ((e.0, r.0), r.1)

pub each_append : {V : Type 0} (P : V → Type 0) (us vs : List V) → Each P us → Each P vs → Each P (us ++ vs)
each_append P [] vs e f = f
each_append P (u ∷ us) vs e f = (e.0, each_append P us vs e.1 f)

pub total-append : {V : Type 0} (size : V → ℕ) (us vs : List V) → total size (us ++ vs) ≡ total size us + total size vs
total-append size [] vs = omega arith
total-append size (u ∷ us) vs = omega (arith, total-append size us vs)

-- ---- going over a list item by item

module _ {A : Type 0} (xs : List A) (i : ℕ) (x : A) (h : i < length xs) (e : x ≡ get_or xs i x) where
  more : take (i + 1) xs ≡ take i xs ++ (x ∷ [])
  more = take_more xs i x h ∙ ap (λ y. take i xs ++ (y ∷ [])) (sym e)

  parted : xs ≡ take i xs ++ (x ∷ drop (suc i) xs)
  parted = sym (take-append-drop i xs) ∙ ap (λ ys. take i xs ++ ys) (drop-cons xs i x h ∙ ap (λ y. y ∷ drop (suc i) xs) (sym e))

  pub each_after : (P : A → Type 0) → Each P (take i xs) → P x → Each P (take (i + 1) xs)
  each_after P all one = subst (Each P) (sym more) (each_append P (take i xs) (x ∷ []) all (one, tt))

  module _ {V : Type 0} (f : A → V) where
    pub map_more : map f (take (i + 1) xs) ≡ map f (take i xs) ++ (f x ∷ [])
    map_more = ap (map f) more ∙ map-append f (take i xs) (x ∷ [])

    pub map_parted : map f xs ≡ map f (take i xs) ++ (f x ∷ map f (drop (suc i) xs))
    map_parted = ap (map f) parted ∙ map-append f (take i xs) (x ∷ drop (suc i) xs)

    pub each_map_after : (P : V → Type 0) → Each P (map f (take i xs)) → P (f x) → Each P (map f (take (i + 1) xs))
    each_map_after P all one = subst (Each P) (sym map_more) (each_append P (map f (take i xs)) (f x ∷ []) all (one, tt))

    pub each_map_at : (P : V → Type 0) → Each P (map f xs) → P (f x)
    each_map_at P all = (each_split P (map f (take i xs)) (f x ∷ map f (drop (suc i) xs)) (subst (Each P) map_parted all)).1.0

    pub total_after : (size : V → ℕ) → total size (map f (take (i + 1) xs)) ≡ total size (map f (take i xs)) + size (f x)
    total_after size = ap (total size) map_more ∙ total-append size (map f (take i xs)) (f x ∷ []) ∙ omega arith

    pub total_within : (size : V → ℕ) → total size (map f (take i xs)) + size (f x) ≤ total size (map f xs)
    total_within size = omega (arith, ap (total size) map_parted, total-append size (map f (take i xs)) (f x ∷ map f (drop (suc i) xs)))
