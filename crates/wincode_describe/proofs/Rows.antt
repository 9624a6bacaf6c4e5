-- Values of types that stand in a row.
use Rattle.std.proofs.Common.{◌≡◌, ◌∙◌, sym, ap, subst, ℕ, suc, ◌+◌, ◌*◌, ◌<◌, ◌≤◌, Bool, true, false, List, [], ◌∷◌, ◌++◌, length, drop, refl, arith, append_assoc, append-nil, length-append}
use Rattle.std.proofs.Common.{drop_of_length-le, Ok, Err, zero, min}
use Rattle.std.proofs.lemmas.Bool.{lt-ltb}
use Rattle.std.specs.Prelude.{Result, MatchResult}
use Rattle.std.proofs.Math.Seq.{drop-append_seam}
use Rattle.wincode_io.specs.Joins.{Joined}
use Rattle.wincode_base.specs.Arrays.{array_read}
use Rattle.wincode_base.specs.InWindow.{windowed_read}
use Rattle.wincode_base.specs.Pairs.{pair_read}
use Rattle.wincode_describe.proofs.Likes.{Grammar, same_like, turned, like_from, like_to, pair_like}
use Rattle.wincode_describe.specs.Compared.{IsLike, StandsAt, Takes, both, heads, repeated, row_or, is_row, row_read}
use Rattle.wincode_describe.specs.Parts.{Part}
use Rattle.wincode_describe.specs.ShownGrammars.{shown_read, joined}
use Rattle.wincode_describe.specs.Types.{described_read, both_shown}
use Rattle.wincode_describe.specs.declared.described.Described.{Described}
use Rattle.wincode_describe.specs.declared.described.Described.TheVariants as type
use Rattle.wincode_describe.specs.declared.likeness.Likeness.{Likeness}
use Rattle.wincode_describe.specs.declared.likeness.Likeness.TheVariants.{Same, Reads, Unlike}

-- two, one after the other
abbrev pub Two : Grammar → Grammar → Grammar
Two g h = shown_read both_shown (pair_read g h)

-- ---- how they are put together says nothing

moved : (g : Grammar) (b c : List ℕ) (w v : List Part) → b ≡ c → w ≡ v → g.reads c v → g.reads b w
moved g b c w v e f r =
    let P : List Part → Type 0 = λ u. g.reads c u in
    let Q : List ℕ → Type 0 = λ u. g.reads u w in
    subst Q (sym e) (subst P (sym f) r)

left_none : (g : Grammar) → IsLike Same (Two (row_read []) g) g
left_none g = (
  λ b w r.
      let x = r.1 in
      moved g b x.1 w (r.0).1 (x.4 ∙ ap (λ t. t ++ x.1) x.2.1) (r.2 ∙ ap (λ t. t ++ (r.0).1) x.2.2) x.3,
  λ b w r. (([], w), ([], b, (tt, refl, refl), r, refl), refl),
)

right_none : (g : Grammar) → IsLike Same (Two g (row_read [])) g
right_none g = (
  λ b w r.
      let x = r.1 in
      moved g b x.0 w (r.0).0 (x.4 ∙ ap (λ t. x.0 ++ t) x.3.1 ∙ append-nil x.0) (r.2 ∙ ap (λ t. (r.0).0 ++ t) x.3.2 ∙ append-nil (r.0).0) x.2,
  λ b w r. ((w, []), (b, [], r, (tt, refl, refl), sym (append-nil b)), sym (append-nil w)),
)

regrouped : (g h k : Grammar) → IsLike Same (Two (Two g h) k) (Two g (Two h k))
regrouped g h k = (
  λ b w r.
      let x = r.1 in
      let y = x.2 in
      let z = y.1 in
      let v = (r.0).1 in (
        ((y.0).0, (y.0).1 ++ v),
        (
          z.0,
          z.1 ++ x.1,
          z.2,
          (((y.0).1, v), (z.1, x.1, z.3, x.3, refl), refl),
          x.4 ∙ ap (λ t. t ++ x.1) z.4
              ∙ append_assoc z.0 z.1 x.1,
        ),
        r.2 ∙ ap (λ t. t ++ v) y.2 ∙ append_assoc (y.0).0 (y.0).1 v,
      ),
  λ b w r.
      let x = r.1 in
      let y = x.3 in
      let z = y.1 in
      let p = (r.0).0 in (
        (p ++ (y.0).0, (y.0).1),
        (
          x.0 ++ z.0,
          z.1,
          ((p, (y.0).0), (x.0, z.0, x.2, z.2, refl), refl),
          z.3,
          x.4 ∙ ap (λ t. x.0 ++ t) z.4
              ∙ sym (append_assoc x.0 z.0 z.1),
        ),
        r.2 ∙ ap (λ t. p ++ t) y.2 ∙ sym (append_assoc p (y.0).0 (y.0).1),
      ),
)

row_append : (ds es : List Described) → IsLike Same (Two (row_read ds) (row_read es)) (row_read (ds ++ es))
row_append [] es = left_none (row_read es)
row_append (d ∷ ds) es = like_to Same (Two (row_read (d ∷ ds)) (row_read es)) (Two (described_read d) (Two (row_read ds) (row_read es))) (row_read (d ∷ (ds ++ es)))
    (regrouped (described_read d) (row_read ds) (row_read es))
    (pair_like Same Same (described_read d) (described_read d) (Two (row_read ds) (row_read es)) (row_read (ds ++ es)) (same_like (described_read d))
    (row_append ds es))

pub row_one : (d : Described) → IsLike Same (described_read d) (row_read (d ∷ []))
row_one d = turned (Two (described_read d) (row_read [])) (described_read d) (right_none (described_read d))

-- ---- an array is a row of its items

abbrev pub Items : ℕ → Grammar → Grammar
Items n g = shown_read joined (windowed_read (array_read n g))

no_items : (g : Grammar) (vs : List (List Part)) (b : List ℕ) (w : List Part) → length vs ≡ 0 → Joined g.reads vs b → w ≡ joined vs
    → (row_read []).reads b w
no_items g [] b w l j e = (tt, j, e)
no_items g (v ∷ vs) b w l j e = absurd (omega (arith, l))

more_items : (n : ℕ) (g : Grammar) (vs : List (List Part)) (b : List ℕ) (w : List Part) → length vs ≡ suc n → Joined g.reads vs b
    → w ≡ joined vs → (Two g (Items n g)).reads b w
more_items n g [] b w l j e = absurd (omega (arith, l))
more_items n g (v ∷ vs) b w l j e = ((v, joined vs), (j.0, j.1, j.2, (vs, (omega (arith, l), j.3), refl), j.4), e)

items_none : (g : Grammar) → IsLike Same (Items 0 g) (row_read [])
items_none g = (λ b w r. no_items g r.0 b w r.1.0 r.1.1 r.2, λ b w r. ([], (refl, r.1), r.2))

items_more : (n : ℕ) (g : Grammar) → IsLike Same (Items (suc n) g) (Two g (Items n g))
items_more n g = (
  λ b w r. more_items n g r.0 b w r.1.0 r.1.1 r.2,
  λ b w r.
      let x = r.1 in
      let y = x.3 in (
        (r.0).0 ∷ y.0,
        (ap suc y.1.0, (x.0, x.1, x.2, y.1.1, x.4)),
        r.2 ∙ ap (λ t. (r.0).0 ++ t) y.2,
      ),
)

items_row : (n : ℕ) (g : Grammar) (ds : List Described) → IsLike Same g (row_read ds) → IsLike Same (Items n g) (row_read (repeated n ds))
items_row zero g ds r = items_none g
items_row (suc n) g ds r = like_to Same (Items (suc n) g) (Two g (Items n g)) (row_read (ds ++ repeated n ds)) (items_more n g)
    (like_to Same (Two g (Items n g)) (Two (row_read ds) (row_read (repeated n ds))) (row_read (ds ++ repeated n ds))
    (pair_like Same Same g (row_read ds) (Items n g) (row_read (repeated n ds)) r (items_row n g ds r)) (row_append ds (repeated n ds)))

array_row : (row : Bool) (n : ℕ) (p : _) (d : Described) → IsLike Same (described_read d) (row_read (heads d))
    → IsLike Same (described_read (type.Array' n p d)) (row_read (row_or row n (heads d) (type.Array' n p d)))
array_row true n p d r = items_row n (described_read d) (heads d) r
array_row false n p d r = row_one (type.Array' n p d)

-- a value is a row of values of its types
pub row_of : (d : Described) → IsLike Same (described_read d) (row_read (heads d))
row_of (type.Boxed' p d) = row_of d
row_of (type.Tuple' p d) = row_of d
row_of (type.Struct' p d) = row_of d
row_of (type.Field' s p d) = row_of d
row_of (type.Joined' p d q e) = like_to Same (Two (described_read d) (described_read e)) (Two (row_read (heads d)) (row_read (heads e)))
    (row_read (heads d ++ heads e)) (pair_like Same Same (described_read d) (row_read (heads d)) (described_read e) (row_read (heads e)) (row_of d) (row_of e))
    (row_append (heads d) (heads e))
row_of (type.Array' n p d) = array_row (is_row n (length (heads d))) n p d (row_of d)
row_of d = row_one d

-- ---- places in a row

pub stands_first : (i : ℕ) (ds es : List Described) (d : Described) → StandsAt i ds d → StandsAt i (ds ++ es) d
stands_first i ds es d s = (s.0, s.1 ++ es, ap (λ t. t ++ es) s.2 ∙ append_assoc s.0 (d ∷ s.1) es, s.3)

pub stands_second : (i left : ℕ) (ds es : List Described) (d : Described) → i ≡ length ds + left → StandsAt left es d → StandsAt i (ds ++ es) d
stands_second i left ds es d e s =
    (ds ++ s.0, s.1, ap (λ t. ds ++ t) s.2 ∙ sym (append_assoc ds s.0 (d ∷ s.1)), length-append ds s.0 ∙ ap (λ n. length ds + n) s.3 ∙ sym e)

pub past_both : (i left more : ℕ) (ds es : List Described) → i ≡ length ds + left → left ≡ length es + more → i ≡ length (ds ++ es) + more
past_both i left more ds es e f = let l = length-append ds es in omega (arith, e, f, l)

-- ---- what a row takes

taken : (a : Likeness) (g : Grammar) (ds : List Described) (at end : ℕ) (mine : List Described) → drop at ds ≡ mine ++ drop end ds
    → IsLike a g (row_read mine) → Takes a g ds at end
taken Same g ds at end mine e r = (mine, e, r)
taken Reads g ds at end mine e r = (mine, e, r)
taken Unlike g ds at end mine e r = tt

pub takes_one : (a : Likeness) (g : Grammar) (ds : List Described) (at : ℕ) (d : Described) → StandsAt at ds d → IsLike a g (described_read d)
    → Takes a g ds at (suc at)
takes_one a g ds at d s r =
    let here : drop at ds ≡ d ∷ s.1 = ap (drop at) s.2 ∙ ap (λ n. drop n (s.0 ++ (d ∷ s.1))) (sym s.3) ∙ drop-append_seam s.0 (d ∷ s.1) in
    let one : length (s.0 ++ (d ∷ [])) ≡ suc at = length-append s.0 (d ∷ []) ∙ omega (arith, s.3) in
    let there : drop (suc at) ds ≡ s.1 =
    ap (drop (suc at)) (s.2 ∙ sym (append_assoc s.0 (d ∷ []) s.1)) ∙ ap (λ n. drop n ((s.0 ++ (d ∷ [])) ++ s.1)) (sym one)
    ∙ drop-append_seam (s.0 ++ (d ∷ [])) s.1 in
    taken a g ds at (suc at) (d ∷ []) (here ∙ ap (λ t. d ∷ t) (sym there)) (like_to a g (described_read d) (row_read (d ∷ [])) r (row_one d))

record Taken (a : Likeness) (g : Grammar) (ds : List Described) (at end : ℕ) : Type 0 where
  mine : List Described
  is : drop at ds ≡ mine ++ drop end ds
  like : IsLike a g (row_read mine)

both_taken : (a b : Likeness) (g h : Grammar) (ds : List Described) (at mid end : ℕ) → Taken a g ds at mid → Taken b h ds mid end
    → Takes (both a b) (Two g h) ds at end
both_taken a b g h ds at mid end t u = taken (both a b) (Two g h) ds at end (t.mine ++ u.mine)
    (t.is ∙ ap (λ r. t.mine ++ r) u.is ∙ sym (append_assoc t.mine u.mine (drop end ds)))
    (like_to (both a b) (Two g h) (Two (row_read t.mine) (row_read u.mine)) (row_read (t.mine ++ u.mine))
    (pair_like a b g (row_read t.mine) h (row_read u.mine) t.like u.like) (row_append t.mine u.mine))

pub takes_both : (a b : Likeness) (g h : Grammar) (ds : List Described) (at mid end : ℕ) → Takes a g ds at mid → Takes b h ds mid end
    → Takes (both a b) (Two g h) ds at end
takes_both Same Same g h ds at mid end t u =
    both_taken Same Same g h ds at mid end (record { mine = t.0; is = t.1; like = t.2 }) (record { mine = u.0; is = u.1; like = u.2 })
takes_both Same Reads g h ds at mid end t u =
    both_taken Same Reads g h ds at mid end (record { mine = t.0; is = t.1; like = t.2 }) (record { mine = u.0; is = u.1; like = u.2 })
takes_both Same Unlike g h ds at mid end t u = tt
takes_both Reads Same g h ds at mid end t u =
    both_taken Reads Same g h ds at mid end (record { mine = t.0; is = t.1; like = t.2 }) (record { mine = u.0; is = u.1; like = u.2 })
takes_both Reads Reads g h ds at mid end t u =
    both_taken Reads Reads g h ds at mid end (record { mine = t.0; is = t.1; like = t.2 }) (record { mine = u.0; is = u.1; like = u.2 })
takes_both Reads Unlike g h ds at mid end t u = tt
takes_both Unlike b g h ds at mid end t u = tt

all_mine : (a : Likeness) (g : Grammar) (d : Described) (end : ℕ) → length (heads d) ≤ end → (mine : List Described) → drop 0 (heads d) ≡ mine ++ drop end (heads d)
    → IsLike a g (row_read mine) → IsLike a g (described_read d)
all_mine a g d end l mine e r =
    let whole : heads d ≡ mine = e ∙ ap (λ t. mine ++ t) (drop_of_length-le (heads d) l) ∙ append-nil mine in
    let P : List Described → Type 0 = λ t. IsLike a g (row_read t) in
    like_to a g (row_read (heads d)) (described_read d) (subst P (sym whole) r) (turned (described_read d) (row_read (heads d)) (row_of d))

-- all of the row
pub takes_all : (a : Likeness) (g : Grammar) (d : Described) (end : ℕ) → length (heads d) ≤ end → Takes a g (heads d) 0 end → IsLike a g (described_read d)
takes_all Same g d end l t = all_mine Same g d end l t.0 t.1 t.2
takes_all Reads g d end l t = all_mine Reads g d end l t.0 t.1 t.2
takes_all Unlike g d end l t = tt

-- so of what was found behind the first part, or how far the place is behind both
pub behind_first : {X : Type 0} (now : X → Described) (i left : ℕ) (ds es : List Described) (r : Result X ℕ) → i ≡ length ds + left
    → MatchResult r (λ d. StandsAt left es (now d)) (λ more. left ≡ length es + more)
    → MatchResult r (λ d. StandsAt i (ds ++ es) (now d)) (λ more. i ≡ length (ds ++ es) + more)
behind_first now i left ds es (Ok d) e m = stands_second i left ds es (now d) e m
behind_first now i left ds es (Err more) e m = past_both i left more ds es e m

pub first_alone : (i : ℕ) (d : Described) → heads d ≡ d ∷ [] → (1 ≤ i → ⊥) → StandsAt i (heads d) d
first_alone zero d e n = ([], [], e, refl)
first_alone (suc i) d e n = absurd (n (omega arith))

-- ---- items in a row

-- so many lists are as long as that
pub length_repeated : {A : Type 0} (n : ℕ) (xs : List A) → length (repeated n xs) ≡ n * length xs
length_repeated zero xs = omega arith
length_repeated (suc n) xs =
    let more : suc n * length xs ≡ length xs + n * length xs = grind arith in
    length-append xs (repeated n xs) ∙ ap (λ k. length xs + k) (length_repeated n xs) ∙ sym more

-- nothing is nothing, however often
empty_repeated : {A : Type 0} (n : ℕ) → repeated {A = A} n [] ≡ []
empty_repeated zero = refl
empty_repeated (suc n) = empty_repeated n

pub none_repeated : {A : Type 0} (n : ℕ) (xs : List A) → length xs ≡ 0 → repeated n xs ≡ []
none_repeated n [] e = empty_repeated n
none_repeated n (x ∷ xs) e = absurd (omega (arith, e))

-- once more is behind
pub last_repeated : {A : Type 0} (n : ℕ) (xs : List A) → repeated (suc n) xs ≡ repeated n xs ++ xs
last_repeated zero xs = append-nil xs
last_repeated (suc n) xs = ap (λ t. xs ++ t) (last_repeated n xs) ∙ sym (append_assoc xs (repeated n xs) xs)

-- what stands in an item stands in the row
pub stands_item : (k n i left : ℕ) (ds : List Described) (d : Described) → k < n → i ≡ length (repeated k ds) + left → StandsAt left ds d
    → StandsAt i (repeated n ds) d
stands_item k zero i left ds d l e s = absurd (omega (arith, l))
stands_item zero (suc n) i left ds d l e s =
    let P : ℕ → Type 0 = λ m. StandsAt m (repeated (suc n) ds) d in
    let is : left ≡ i = omega (arith, e) in
    subst P is (stands_first left ds (repeated n ds) d s)
stands_item (suc k) (suc n) i left ds d l e s =
    let m = length-append ds (repeated k ds) in
    stands_second i (length (repeated k ds) + left) ds (repeated n ds) d (omega (arith, e, m))
    (stands_item k n (length (repeated k ds) + left) left ds d (omega (arith, l)) refl s)

-- ---- what is taken of items

takes_from : (a : Likeness) (g h : Grammar) (ds : List Described) (at end : ℕ) → IsLike Same g h → Takes a h ds at end → Takes a g ds at end
takes_from Same g h ds at end s t = (t.0, t.1, like_from Same g h (row_read t.0) s t.2)
takes_from Reads g h ds at end s t = (t.0, t.1, like_from Reads g h (row_read t.0) s t.2)
takes_from Unlike g h ds at end s t = tt

one_more : (k : ℕ) (d : Described) → IsLike Same (row_read (repeated (suc k) (heads d))) (Two (row_read (repeated k (heads d))) (described_read d))
one_more k d =
    let so : Grammar = row_read (repeated k (heads d)) in
    let P : List Described → Type 0 = λ t. IsLike Same (row_read t) (Two so (described_read d)) in
    subst P (sym (last_repeated k (heads d))) (turned (Two so (described_read d)) (row_read (repeated k (heads d) ++ heads d))
    (like_to Same (Two so (described_read d)) (Two so (row_read (heads d))) (row_read (repeated k (heads d) ++ heads d))
    (pair_like Same Same so so (described_read d) (row_read (heads d)) (same_like so) (row_of d)) (row_append (repeated k (heads d)) (heads d))))

pub takes_item : (a b : Likeness) (k : ℕ) (d : Described) (ds : List Described) (at mid end : ℕ) → Takes a (row_read (repeated k (heads d))) ds at mid
    → Takes b (described_read d) ds mid end → Takes (both a b) (row_read (repeated (suc k) (heads d))) ds at end
takes_item a b k d ds at mid end t u = takes_from (both a b) (row_read (repeated (suc k) (heads d))) (Two (row_read (repeated k (heads d))) (described_read d)) ds at end
    (one_more k d) (takes_both a b (row_read (repeated k (heads d))) (described_read d) ds at mid end t u)

pub takes_none : (n : ℕ) (xs ds : List Described) (at : ℕ) → length xs ≡ 0 → Takes Same (row_read (repeated n xs)) ds at at
takes_none n xs ds at e =
    let P : List Described → Type 0 = λ t. IsLike Same (row_read t) (row_read []) in
    ([], refl, subst P (sym (none_repeated n xs e)) (same_like (row_read [])))

pub takes_array : (a : Likeness) (n : ℕ) (d : Described) (ds : List Described) (at end : ℕ) → Takes a (row_read (repeated n (heads d))) ds at end
    → Takes a (Items n (described_read d)) ds at end
takes_array a n d ds at end t = takes_from a (Items n (described_read d)) (row_read (repeated n (heads d))) ds at end (items_row n (described_read d) (heads d) (row_of d)) t

-- an array that is a row
pub row_heads : (row : Bool) (n : ℕ) (ds : List Described) (d : Described) → row ≡ true → row_or row n ds d ≡ repeated n ds
row_heads true n ds d e = refl
row_heads false n ds d e = absurd (cc e)

-- one that isn't
pub other_head : (row : Bool) (n : ℕ) (ds : List Described) (d : Described) → row ≡ false → row_or row n ds d ≡ d ∷ []
other_head true n ds d e = absurd (cc e)
other_head false n ds d e = refl

row_is : (n width : ℕ) → n ≤ 64 → width ≤ 64 → is_row n width ≡ true
row_is n width few narrow = rw (lt-ltb n 65 (omega (arith, few)), lt-ltb width 65 (omega (arith, narrow))) refl

-- a short array of narrow items is as long as that
pub row_size : (m n width : ℕ) (ds : List Described) (d : Described) → n ≤ 64 → width ≤ 64 → width ≡ min (length ds) 18446744073709551615
    → m ≡ min (n * width) 18446744073709551615 → m ≡ min (length (row_or (is_row n (length ds)) n ds d)) 18446744073709551615
row_size m n width ds d few narrow e f =
    let is : width ≡ length ds = omega (arith, e, narrow) in
    let row = row_heads (is_row n (length ds)) n ds d (row_is n (length ds) few (omega (arith, is, narrow))) in
    f ∙ ap (λ k. min (n * k) 18446744073709551615) is ∙ ap (λ k. min k 18446744073709551615) (sym (length_repeated n ds))
    ∙ ap (λ xs. min (length xs) 18446744073709551615) (sym row)
