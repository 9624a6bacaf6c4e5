-- Forms one after another: where each stands, and what one more of them makes.
use Rattle.std.proofs.Common.{◌≡◌, ℕ, ◌+◌, ◌*◌, ◌-◌, ◌<◌, ◌≤◌, List, [], ◌++◌, length, take, drop, sym, ap, ◌∙◌, arith, append_assoc, get_or, length-append}
use Rattle.std.specs.List.{flat_map}
use Rattle.std.proofs.lemmas.List.{take_more, flat_map_more, take_at, drop_at, drop-drop}
use Rattle.std.proofs.Math.Nat.{mul-le-mul_right}
use borrow.Rule.Slice.PartMut.{put_mid}

-- form i of n ends within them
pub place_fits : (i n s : ℕ) → i < n → i * s + s ≤ n * s
place_fits i n s h = let e : (i + 1) * s ≤ n * s = mul-le-mul_right s (omega arith) in omega (arith, e)

-- one of n forms is no longer than all
pub size_fits : (i n s : ℕ) → i < n → s ≤ n * s
size_fits i n s h = let e : 1 * s ≤ n * s = mul-le-mul_right s (omega arith) in omega (arith, e)

pub some_fits : (n s : ℕ) → 0 < n → s ≤ n * s
some_fits n s h = size_fits 0 n s h

module _ {X : Type 0} (form : X → List ℕ) (s : ℕ) (vs : List X) (i : ℕ) (d : X) (h : i < length vs) (joined : length (flat_map form (take i vs)) ≡ i * s) where
  pub form_more : flat_map form (take i vs) ++ form (get_or vs i d) ≡ flat_map form (take (i + 1) vs)
  form_more = flat_map_more form [] (take i vs) (get_or vs i d) ∙ ap (flat_map form) (sym (take_more vs i d h))

  pub joined_more : length (form (get_or vs i d)) ≡ s → length (flat_map form (take (i + 1) vs)) ≡ (i + 1) * s
  joined_more e = ap length (sym form_more) ∙ omega (arith, length-append (flat_map form (take i vs)) (form (get_or vs i d)), joined, e)

  pub put_more : (t : ℕ) (old dst : List ℕ) → t ≡ s → dst ≡ flat_map form (take i vs) ++ drop (i * s) old
      → put_mid (i * t) (i * t + t - i * t) dst (form (get_or vs i d)) ≡ flat_map form (take (i + 1) vs) ++ drop ((i + 1) * s) old
  put_more t old dst et e =
      let k : i * s + s - i * s ≡ s = omega arith in
      let sum : i * s + s ≡ (i + 1) * s = omega arith in
      ap (λ (x : ℕ). put_mid (i * x) (i * x + x - i * x) dst (form (get_or vs i d))) et
      ∙ ap (λ (x : List ℕ). put_mid (i * s) (i * s + s - i * s) x (form (get_or vs i d))) e
      ∙ ap (λ (x : ℕ). put_mid (i * s) x (flat_map form (take i vs) ++ drop (i * s) old) (form (get_or vs i d))) k
      ∙ ap (λ (x : List ℕ). x ++ (form (get_or vs i d) ++ drop s (drop (i * s) (flat_map form (take i vs) ++ drop (i * s) old))))
      (take_at (flat_map form (take i vs)) (drop (i * s) old) (i * s) joined)
      ∙ ap (λ (x : List ℕ). flat_map form (take i vs) ++ (form (get_or vs i d) ++ drop s x))
      (drop_at (flat_map form (take i vs)) (drop (i * s) old) (i * s) joined)
      ∙ ap (λ (x : List ℕ). flat_map form (take i vs) ++ (form (get_or vs i d) ++ x)) (drop-drop s (i * s) old ∙ ap (λ (x : ℕ). drop x old) sum)
      ∙ sym (append_assoc (flat_map form (take i vs)) (form (get_or vs i d)) (drop ((i + 1) * s) old))
      ∙ ap (λ (x : List ℕ). x ++ drop ((i + 1) * s) old) form_more
