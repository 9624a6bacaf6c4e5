-- Encodings that are put, one after another, over the front of a list of bytes.
use Rattle.std.proofs.Common.{◌≡◌, ◌∙◌, sym, ap, subst, ℕ, ◌+◌, ◌*◌, ◌<◌, ◌≤◌, List, ◌++◌, length, map, take, drop, get_or, refl, arith, Some}
use Rattle.std.proofs.Common.{length-append, length-take-le, take-append-drop}
use Rattle.std.proofs.lemmas.List.{take_all, take-append-le, length-map}
use Rattle.std.proofs.lemmas.Slice.{take-put_mid_below}
use Rattle.std.proofs.Math.Seq.{take-append-add}
use borrow.Rule.Slice.PartMut.{put_mid, post_of}
use Rattle.wincode_io.specs.Numbers.{le}
use Rattle.wincode_io.specs.Joins.{Joined, Each}
use Rattle.wincode_io.specs.JoinLaws.{joined_snoc, map_more, each_after, each_map_after}
use Rattle.wincode_io.specs.Writers.{WriterState, WriterLaws, Took}
use Rattle.wincode_base.specs.Grammar.{WriteGrammar, WriteLaws}
use Rattle.wincode_base.specs.Lengths.{Scheme, bincode}
use Rattle.wincode_base.specs.LengthLaws.{bincode_encoding_is}
use Rattle.wincode_base.specs.Lists.{items_write, parts_write}
use Rattle.wincode_base.specs.ListLaws.{items_write_laws}
use Rattle.wincode_base.specs.Outcomes.{IsEncoded}
use Rattle.wincode_base.specs.Pairs.{pair_write}
use Rattle.wincode_base.specs.Strings.{str_write}
use Rattle.wincode_base.specs.WriteSequences.{encoding_wrote}
use Rattle.wincode_base.proofs.Walks.{WritesSoFar, walk_run}

-- ---- bytes behind the first ones are overwritten

-- all bytes are there still
pub within_put : (a k n : ℕ) (old part : List ℕ) → a ≤ length old → n ≤ length part → a + n ≤ length (put_mid a k old part)
within_put a k n old part h m = omega (
  arith,
  length-append (take a old) (part ++ post_of a k old),
  length-append part (post_of a k old),
  length-take-le a old h,
)

-- the first ones are as they were
pub front_same : (a k : ℕ) (old part : List ℕ) → a ≤ length old → take a (put_mid a k old part) ≡ take a old
front_same a k old part h = take-put_mid_below a k old part a (omega arith) h

-- behind them stand the first of the others
pub front_more : (a k n : ℕ) (old part : List ℕ) → a ≤ length old → n ≤ length part → take (a + n) (put_mid a k old part) ≡ take a old ++ take n part
front_more a k n old part h m =
    let size : length (take a old) ≡ a = length-take-le a old h in
    ap (λ i. take (i + n) (put_mid a k old part)) (sym size) ∙ take-append-add (take a old) (part ++ post_of a k old) n
    ∙ ap (λ t. take a old ++ t) (take-append-le n part (post_of a k old) m)

-- ---- items, one after another

-- so far the first i items are encoded, over the first bytes
pub record FilledSoFar {A V : Type 0} (g : WriteGrammar V) (f : A → V) (p : A → Type 0) (i filled : ℕ) (xs : List A) (bytes : List ℕ) : Type 0 where
  pub within : filled ≤ length bytes
  pub can : Each g.can (map f (take i xs))
  pub writes : Joined g.writes (map f (take i xs)) (take filled bytes)
  pub each : Each p (take i xs)

module _ {A V : Type 0} (g : WriteGrammar V) (f : A → V) (p : A → Type 0) (xs : List A) where
  pub filled_none : (bytes : List ℕ) → FilledSoFar g f p 0 0 xs bytes
  filled_none bytes = record { within = omega arith; can = tt; writes = refl; each = tt }

  -- bytes behind them were overwritten
  pub filled_same : (i filled k : ℕ) (old part : List ℕ) → FilledSoFar g f p i filled xs old → FilledSoFar g f p i filled xs (put_mid filled k old part)
  filled_same i filled k old part w = record {
    within = omega (arith, within_put filled k 0 old part w.within (omega arith));
    can = w.can;
    writes = subst (Joined g.writes (map f (take i xs))) (sym (front_same filled k old part w.within)) w.writes;
    each = w.each;
  }

  -- an item more was encoded, behind those that were
  pub filled_more : (i filled n k : ℕ) (x : A) (h : i < length xs) (is : x ≡ get_or xs i x) (old part : List ℕ) → FilledSoFar g f p i filled xs old
      → (n ≤ length part) × IsEncoded g (f x) (take n part) × p x
      → FilledSoFar g f p (i + 1) (filled + n) xs (put_mid filled k old part)
  filled_more i filled n k x h is old part w one = record {
    within = within_put filled k n old part w.within one.0;
    can = each_map_after xs i x h is f g.can w.can one.1.0;
    writes = subst (Joined g.writes (map f (take (i + 1) xs))) (sym (front_more filled k n old part w.within one.0))
        (subst (λ vs. Joined g.writes vs (take filled old ++ take n part)) (sym (map_more xs i x h is f))
        (joined_snoc g.writes (map f (take i xs)) (f x) (take filled old) (take n part) w.writes one.1.1));
    each = each_after xs i x h is p w.each one.2;
  }

  -- all items are encoded, over all of the bytes
  pub filled_all : (i filled : ℕ) (bytes : List ℕ) → length xs ≤ i → length bytes ≤ filled → FilledSoFar g f p i filled xs bytes
      → IsEncoded (items_write g) (map f xs) bytes × Each p xs
  filled_all i filled bytes all full w =
      let items : take i xs ≡ xs = take_all i xs all in
      let whole : take filled bytes ≡ bytes = take_all filled bytes full in (
        (
          subst (λ ys. Each g.can (map f ys)) items w.can,
          subst (λ ys. Joined g.writes (map f ys) bytes) items (subst (Joined g.writes (map f (take i xs))) whole w.writes),
        ),
        subst (Each p) items w.each,
      )

  -- so, of items of n bytes each
  pub sized_none : (n : ℕ) (bytes : List ℕ) → FilledSoFar g f p 0 (0 * n) xs bytes
  sized_none n bytes = let none : 0 ≡ 0 * n = omega arith in subst (λ k. FilledSoFar g f p 0 k xs bytes) none (filled_none bytes)

  pub sized_more : (i n k : ℕ) (x : A) (h : i < length xs) (is : x ≡ get_or xs i x) (old part : List ℕ) → FilledSoFar g f p i (i * n) xs old → length part ≡ n
      → IsEncoded g (f x) part × p x → FilledSoFar g f p (i + 1) ((i + 1) * n) xs (put_mid (i * n) k old part)
  sized_more i n k x h is old part w sized one =
      let more : i * n + n ≡ (i + 1) * n = omega arith in
      let whole : take n part ≡ part = take_all n part (omega (arith, sized)) in
      let next = filled_more i (i * n) n k x h is old part w (omega (arith, sized), subst (IsEncoded g (f x)) (sym whole) one.0, one.1) in
      subst (λ m. FilledSoFar g f p (i + 1) m xs (put_mid (i * n) k old part)) more next

  -- the length of a list, and then its items
  pub list_in_front : (s : Scheme) (count a n k : ℕ) (old part : List ℕ) → (a ≤ length old) × (s.encoding (length xs) ≡ Some (take a old)) → (n ≤ length part)
      × IsEncoded (items_write g) (map f xs) (take n part) × Each p xs
      → (a + n ≤ length (put_mid a k old part)) × IsEncoded (parts_write s count g) (map f xs) (take (a + n) (put_mid a k old part)) × Each p xs
  list_in_front s count a n k old part first behind =
      let has : s.encoding (length (map f xs)) ≡ Some (take a old) = ap s.encoding (length-map xs f) ∙ first.1 in (
        within_put a k n old part first.0 behind.0,
        (((take a old, has), behind.1.0), (take a old, take n part, has, behind.1.1, front_more a k n old part first.0 behind.0)),
        behind.2,
      )

-- ---- two parts

pub pair_in_front : {V W : Type 0} (g : WriteGrammar V) (h : WriteGrammar W) (v : V) (w : W) (a n k : ℕ) (old part : List ℕ) → (a ≤ length old)
    × IsEncoded g v (take a old) → (n ≤ length part) × IsEncoded h w (take n part)
    → (a + n ≤ length (put_mid a k old part)) × IsEncoded (pair_write g h) (v, w) (take (a + n) (put_mid a k old part))
pair_in_front g h v w a n k old part first behind = (
  within_put a k n old part first.0 behind.0,
  ((first.1.0, behind.1.0), (take a old, take n part, first.1.1, behind.1.1, front_more a k n old part first.0 behind.0)),
)

-- ---- texts

pub text_in_front : (limit prealloc : ℕ) (v : List ℕ) (a n k : ℕ) (old part : List ℕ) → (a ≤ length old)
    × ((bincode limit).encoding (length v) ≡ Some (take a old)) → (n ≤ length part) × (take n part ≡ v)
    → (a + n ≤ length (put_mid a k old part)) × IsEncoded (str_write prealloc) v (take (a + n) (put_mid a k old part))
text_in_front limit prealloc v a n k old part first behind =
    let number = bincode_encoding_is limit (length v) (take a old) first.1 in (
      within_put a k n old part first.0 behind.0,
      (number.0, (number.0, front_more a k n old part first.0 behind.0 ∙ ap (λ x. x ++ take n part) number.1 ∙ ap (λ x. le 8 (length v) ++ x) behind.1)),
    )

-- ---- what was put together is written

pub run_wrote : {S K V E : Type 0} {put : S → List ℕ → S} {room : S → ℕ} (laws : WriterLaws put room) {g : WriteGrammar V} {P : E → Type 0} {see : E → V}
    (l : WriteLaws P see g) {old cur new : WriterState put room K} {all left more : List E} (count filled : ℕ) (bytes written : List ℕ)
    → WritesSoFar g see P old cur all left → more ≡ drop count left → IsEncoded (items_write g) (map see (take count left)) (take filled bytes)
    → Each P (take count left) → written ≡ take filled bytes → length written ≤ room cur.content → Took written cur new
    → WritesSoFar g see P old new all more
run_wrote laws {g} {P} {see} l {cur = cur} {new = new} {left = left} {more = more} count filled bytes written w rest e each is fits took =
    let run = take count left in
    let vs = map see run in
    let cut : left ≡ run ++ more = sym (take-append-drop count left) ∙ ap (λ t. run ++ t) (sym rest) in
    let encoded : (items_write g).writes written vs = subst (λ b. (items_write g).writes b vs) (sym is) e.1 in
    let size = (items_write_laws P see g l).encoding_size vs written encoded in
    walk_run laws l run more w cut (encoding_wrote (items_write g) vs written encoded size cur new e.0 (record { fits = fits; took = took })) each
