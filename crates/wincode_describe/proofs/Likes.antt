-- What is known of two types, made of what is known of their parts.
use Rattle.std.proofs.Common.{◌≡◌, ◌∙◌, sym, ap, subst, ℕ, zero, suc, ◌≤◌, Bool, true, false, List, [], ◌∷◌, ◌++◌, length, refl, arith, nat_eq, Ok, Err, Some, None}
use Rattle.std.proofs.Math.Nat.{mul-le-mul_left}
use Rattle.std.proofs.lemmas.Bool.{eqb-true}
use Rattle.std.specs.Prelude.{Result, Option, ◌||◌}
use Rattle.wincode_io.specs.Joins.{Joined}
use Rattle.wincode_io.specs.Numbers.{le}
use Rattle.wincode_base.specs.Arrays.{array_read}
use Rattle.wincode_base.specs.Grammar.{ReadGrammar}
use Rattle.wincode_base.specs.InWindow.{windowed_read}
use Rattle.wincode_base.specs.Pairs.{pair_read}
use Rattle.wincode_base.specs.TagLaws.{small_tag}
use Rattle.wincode_base.specs.Tags.{option_read, result_read}
use Rattle.wincode_describe.specs.Compared.{Within, IsLike, IsWider, AreLike, AreNamed, AreSides, both, side_at}
use Rattle.wincode_describe.specs.Forms.{seen_cases}
use Rattle.wincode_describe.specs.Parts.{Part}
use Rattle.wincode_describe.specs.Readers.{has_tag}
use Rattle.wincode_describe.specs.ShownGrammars.{shown_read, joined, chosen_read, CaseGrammars, IsChosen, nameless_read, read_if}
use Rattle.wincode_describe.specs.Types.{integer_read, nonzero_read, described_read, cases_read, list_of, scheme_of, option_shown, result_shown, both_shown}
use Rattle.wincode_describe.specs.declared.described.Described.{Described}
use Rattle.wincode_describe.specs.declared.described.Integer.{Integer}
use Rattle.wincode_describe.specs.declared.described.Cases.{Cases}
use Rattle.wincode_describe.specs.declared.described.Cases.TheVariants.{Last', Case'}
use Rattle.wincode_describe.specs.declared.described.LengthScheme.{LengthScheme}
use Rattle.wincode_describe.specs.declared.described.LengthScheme.TheVariants.{Eight}
use Rattle.wincode_describe.specs.declared.likeness.Likeness.{Likeness}
use Rattle.wincode_describe.specs.declared.likeness.Likeness.TheVariants.{Same, Reads, Unlike}

abbrev pub Grammar : Type 1
Grammar = ReadGrammar (List Part)

pub same_like : (g : Grammar) → IsLike Same g g
same_like g = (λ b w r. r, λ b w r. r)

-- it is known of types that read the same
pub like_from : (a : Likeness) (g h k : Grammar) → IsLike Same g h → IsLike a h k → IsLike a g k
like_from Same g h k s r = (λ b w x. r.0 b w (s.0 b w x), λ b w x. s.1 b w (r.1 b w x))
like_from Reads g h k s r = λ b w x. r b w (s.0 b w x)
like_from Unlike g h k s r = tt

pub like_to : (a : Likeness) (g h k : Grammar) → IsLike a g h → IsLike Same h k → IsLike a g k
like_to Same g h k r s = (λ b w x. s.0 b w (r.0 b w x), λ b w x. r.1 b w (s.1 b w x))
like_to Reads g h k r s = λ b w x. s.0 b w (r b w x)
like_to Unlike g h k r s = tt

-- ---- what has parts

-- what is made of a grammar, where it reads more if that does
one_like : (f : Grammar → Grammar) → ((g h : Grammar) → Within g h → Within (f g) (f h)) → (a : Likeness) (g h : Grammar) → IsLike a g h → IsLike a (f g) (f h)
one_like f m Same g h r = (m g h r.0, m h g r.1)
one_like f m Reads g h r = m g h r
one_like f m Unlike g h r = tt

-- so of two
two_like : (f : Grammar → Grammar → Grammar) → ((g h j k : Grammar) → Within g h → Within j k → Within (f g j) (f h k)) → (a b : Likeness) (g h j k : Grammar)
    → IsLike a g h → IsLike b j k → IsLike (both a b) (f g j) (f h k)
two_like f m Same Same g h j k r s = (m g h j k r.0 s.0, m h g k j r.1 s.1)
two_like f m Same Reads g h j k r s = m g h j k r.0 s
two_like f m Same Unlike g h j k r s = tt
two_like f m Reads Same g h j k r s = m g h j k r s.0
two_like f m Reads Reads g h j k r s = m g h j k r s
two_like f m Reads Unlike g h j k r s = tt
two_like f m Unlike b g h j k r s = tt

items_within : (g h : Grammar) → Within g h → (vs : List (List Part)) (b : List ℕ) → Joined g.reads vs b → Joined h.reads vs b
items_within g h m [] b r = r
items_within g h m (v ∷ vs) b r = (r.0, r.1, m r.0 v r.2, items_within g h m vs r.1 r.3, r.4)

option_part : (g h : Grammar) → Within g h → (o : Option (List Part)) (b : List ℕ) → (option_read 1 g).reads b o → (option_read 1 h).reads b o
option_part g h m None b r = r
option_part g h m (Some v) b r = (r.0, m r.0 v r.1, r.2)

option_within : (g h : Grammar) → Within g h → Within (shown_read option_shown (option_read 1 g)) (shown_read option_shown (option_read 1 h))
option_within g h m b w r = (r.0, option_part g h m r.0 b r.1, r.2)

side_within : (g h j k : Grammar) → Within g h → Within j k → (o : Result (List Part) (List Part)) (b : List ℕ) → (result_read 4 g j).reads b o
    → (result_read 4 h k).reads b o
side_within g h j k m n (Ok v) b r = (r.0, m r.0 v r.1, r.2)
side_within g h j k m n (Err v) b r = (r.0, n r.0 v r.1, r.2)

result_within : (g h j k : Grammar) → Within g h → Within j k → Within (shown_read result_shown (result_read 4 g j)) (shown_read result_shown (result_read 4 h k))
result_within g h j k m n b w r = (r.0, side_within g h j k m n r.0 b r.1, r.2)

pair_within : (g h j k : Grammar) → Within g h → Within j k → Within (shown_read both_shown (pair_read g j)) (shown_read both_shown (pair_read h k))
pair_within g h j k m n b w r = let x = r.1 in (r.0, (x.0, x.1, m x.0 (r.0).0 x.2, n x.1 (r.0).1 x.3, x.4), r.2)

array_within : (n : ℕ) (g h : Grammar) → Within g h → Within (shown_read joined (windowed_read (array_read n g))) (shown_read joined (windowed_read (array_read n h)))
array_within n g h m b w r = (r.0, (r.1.0, items_within g h m r.0 b r.1.1), r.2)

pub option_like : (a : Likeness) (g h : Grammar) → IsLike a g h → IsLike a (shown_read option_shown (option_read 1 g)) (shown_read option_shown (option_read 1 h))
option_like = one_like (λ g. shown_read option_shown (option_read 1 g)) option_within

pub array_like : (n : ℕ) (a : Likeness) (g h : Grammar) → IsLike a g h
    → IsLike a (shown_read joined (windowed_read (array_read n g))) (shown_read joined (windowed_read (array_read n h)))
array_like n = one_like (λ g. shown_read joined (windowed_read (array_read n g))) (array_within n)

pub result_like : (a b : Likeness) (g h j k : Grammar) → IsLike a g h → IsLike b j k
    → IsLike (both a b) (shown_read result_shown (result_read 4 g j)) (shown_read result_shown (result_read 4 h k))
result_like = two_like (λ g j. shown_read result_shown (result_read 4 g j)) result_within

pub pair_like : (a b : Likeness) (g h j k : Grammar) → IsLike a g h → IsLike b j k
    → IsLike (both a b) (shown_read both_shown (pair_read g j)) (shown_read both_shown (pair_read h k))
pair_like = two_like (λ g j. shown_read both_shown (pair_read g j)) pair_within

-- ---- lists

abbrev Wider : LengthScheme → Grammar → Grammar → Type 0
Wider s g h = (n : ℕ) → (scheme_of s).admits n g.prealloc → (scheme_of s).admits n h.prealloc

list_within : (s : LengthScheme) (g h : Grammar) → Wider s g h → Within g h → Within (list_of s g) (list_of s h)
list_within s g h l m b w r = let x = r.1.1 in (r.0, (l (length r.0) r.1.0, (x.0, x.1, x.2, items_within g h m r.0 x.1 x.3, x.4)), r.2)

pub list_like : (s : LengthScheme) (a b : Likeness) (g h : Grammar) → IsWider a (scheme_of s) g.prealloc h.prealloc → IsLike b g h
    → IsLike (both a b) (list_of s g) (list_of s h)
list_like s Same Same g h l m = (list_within s g h l.0 m.0, list_within s h g l.1 m.1)
list_like s Same Reads g h l m = list_within s g h l.0 m
list_like s Same Unlike g h l m = tt
list_like s Reads Same g h l m = list_within s g h l m.0
list_like s Reads Reads g h l m = list_within s g h l m
list_like s Reads Unlike g h l m = tt
list_like s Unlike b g h l m = tt

-- what counts no more is read in lists that are as long
pub counts_less : (p q : ℕ) → q ≤ p → (n : ℕ) → (scheme_of Eight).admits n p → (scheme_of Eight).admits n q
counts_less p q h n r = (r.0, omega (arith, r.1, mul-le-mul_left n h))

-- ---- enums

chosen_within : (k : ℕ) (cs ds : CaseGrammars) → ((t : ℕ) → Within (cs.case t) (ds.case t)) → Within (chosen_read k cs) (chosen_read k ds)
chosen_within k cs ds m b w r = record {
  before = r.before;
  x = r.x;
  y = r.y;
  one = r.one;
  two = (r.two.0, m r.before r.y r.two.0 r.two.1, r.two.2);
  joins = r.joins;
}

pub by_test : {A : Type 0} (b : Bool) → (b ≡ true → A) → (b ≡ false → A) → A
by_test true f g = f refl
by_test false f g = g refl

second_true : (a b : Bool) → (a || b) ≡ true → a ≡ false → b ≡ true
second_true true b e f = absurd (cc f)
second_true false b e f = e

second_false : (a b : Bool) → (a || b) ≡ false → b ≡ false
second_false true b e = absurd (cc e)
second_false false b e = e

first_false : (a b : Bool) → (a || b) ≡ false → a ≡ false
first_false true b e = absurd (cc e)
first_false false b e = refl

-- what a test chooses reads the same
if_is : (b : Bool) (g h : Grammar) → b ≡ true → IsLike Same (read_if b g h) g
if_is true g h e = same_like g
if_is false g h e = absurd (cc e)

if_not : (b : Bool) (g h : Grammar) → b ≡ false → IsLike Same (read_if b g h) h
if_not true g h e = absurd (cc e)
if_not false g h e = same_like h

pub turned : (g h : Grammar) → IsLike Same g h → IsLike Same h g
turned g h r = (r.1, r.0)

-- what is known of both is known of each
first_of : (a b : Likeness) (g h : Grammar) → IsLike a g h → IsLike (both a b) g h
first_of Same Same g h r = r
first_of Same Reads g h r = r.0
first_of Same Unlike g h r = tt
first_of Reads Same g h r = r
first_of Reads Reads g h r = r
first_of Reads Unlike g h r = tt
first_of Unlike b g h r = tt

second_of : (a b : Likeness) (g h : Grammar) → IsLike b g h → IsLike (both a b) g h
second_of Same b g h r = r
second_of Reads Same g h r = r.0
second_of Reads Reads g h r = r
second_of Reads Unlike g h r = tt
second_of Unlike b g h r = tt

-- the first case, where its tag is that
pub first_case : (b : Bool) (g h : Grammar) → b ≡ true → IsLike Same g (read_if b g h)
first_case b g h e = turned (read_if b g h) g (if_is b g h e)

-- one of the others, where it isn't
pub other_case : (b : Bool) (g h k : Grammar) → b ≡ false → IsLike Same k h → IsLike Same k (read_if b g h)
other_case b g h k e r = like_to Same k h (read_if b g h) r (turned (read_if b g h) h (if_not b g h e))

-- behind a tag that both have
tag_likes : (n t : ℕ) (d g : Grammar) (f : ℕ → Grammar) (a : Likeness) (k : Grammar) → nat_eq n t ≡ true → IsLike Same k (f n) → IsLike a d k
    → IsLike a (read_if (nat_eq n t) d g) (f t)
tag_likes n t d g f a k e s r =
    let P : ℕ → Type 0 = λ u. IsLike Same k (f u) in
    like_from a (read_if (nat_eq n t) d g) d (f t) (if_is (nat_eq n t) d g e) (like_to a d k (f t) r (subst P (eqb-true n t e) s))

pub last_likes : (n : ℕ) (p : _) (d : Described) (f : ℕ → Grammar) (a : Likeness) (k : Grammar) → IsLike Same k (f n) → IsLike a (described_read d) k
    → AreLike a (Last' n p d) f
last_likes n p d f a k s r = λ t e. tag_likes n t (described_read d) (nameless_read t) f a k e s r

pub case_likes : (n : ℕ) (p : _) (d : Described) (q : _) (cs : Cases) (f : ℕ → Grammar) (a b : Likeness) (k : Grammar) → IsLike Same k (f n)
    → IsLike a (described_read d) k → AreLike b cs f → AreLike (both a b) (Case' n p d q cs) f
case_likes n p d q cs f a b k s r m = λ t e. by_test (nat_eq n t)
    (λ z. first_of a b (read_if (nat_eq n t) (described_read d) ((cases_read cs).case t)) (f t) (tag_likes n t (described_read d) ((cases_read cs).case t) f a k z s r))
    (λ z. second_of a b (read_if (nat_eq n t) (described_read d) ((cases_read cs).case t)) (f t) (like_from b (read_if (nat_eq n t) (described_read d) ((cases_read cs).case t)) ((cases_read cs).case t) (f t)
    (if_not (nat_eq n t) (described_read d) ((cases_read cs).case t) z) (m t (second_true (nat_eq n t) (has_tag (seen_cases cs) t) e z))))

-- a tag without a case reads nothing
unnamed : (cs : Cases) (t : ℕ) → has_tag (seen_cases cs) t ≡ false → (b : List ℕ) (w : List Part) → ((cases_read cs).case t).reads b w → ⊥
unnamed (Last' n p d) t e b w r = (if_not (nat_eq n t) (described_read d) (nameless_read t) e).0 b w r
unnamed (Case' n p d q cs) t e b w r =
    let f = first_false (nat_eq n t) (has_tag (seen_cases cs) t) e in
    unnamed cs t (second_false (nat_eq n t) (has_tag (seen_cases cs) t) e) b w ((if_not (nat_eq n t) (described_read d) ((cases_read cs).case t) f).0 b w r)

all_within : (cs : Cases) (f : ℕ → Grammar) → AreLike Reads cs f → (t : ℕ) → Within ((cases_read cs).case t) (f t)
all_within cs f m t = by_test (has_tag (seen_cases cs) t) (λ e. m t e) (λ e b w r. absurd (unnamed cs t e b w r))

back_within : (cs ds : Cases) → AreLike Same cs (cases_read ds).case → AreNamed ds cs → (t : ℕ) → Within ((cases_read ds).case t) ((cases_read cs).case t)
back_within cs ds m n t = by_test (has_tag (seen_cases ds) t) (λ e. (m t (n t e)).1) (λ e b w r. absurd (unnamed ds t e b w r))

-- an enum of cases of which all is known, also of those of the other
pub choice_like : (k : ℕ) (a : Likeness) (cs ds : Cases) → AreLike a cs (cases_read ds).case → AreNamed ds cs
    → IsLike a (chosen_read k (cases_read cs)) (chosen_read k (cases_read ds))
choice_like k Same cs ds m n = (
  chosen_within k (cases_read cs) (cases_read ds) (all_within cs (cases_read ds).case (λ t e. (m t e).0)),
  chosen_within k (cases_read ds) (cases_read cs) (back_within cs ds m n),
)
choice_like k Reads cs ds m n = chosen_within k (cases_read cs) (cases_read ds) (all_within cs (cases_read ds).case m)
choice_like k Unlike cs ds m n = tt

-- an enum of which another has more cases
pub choice_more : (k : ℕ) (a : Likeness) (cs ds : Cases) → AreLike a cs (cases_read ds).case
    → IsLike (both a Reads) (chosen_read k (cases_read cs)) (chosen_read k (cases_read ds))
choice_more k Same cs ds m = chosen_within k (cases_read cs) (cases_read ds) (all_within cs (cases_read ds).case (λ t e. (m t e).0))
choice_more k Reads cs ds m = chosen_within k (cases_read cs) (cases_read ds) (all_within cs (cases_read ds).case m)
choice_more k Unlike cs ds m = tt

-- ---- results and enums

abbrev pub Sides : Grammar → Grammar → Grammar
Sides g h = shown_read result_shown (result_read 4 g h)

-- nothing stands behind any tag but 0 and 1
abbrev OnlySides : CaseGrammars → Type 0
OnlySides cs = (t : ℕ) → 2 ≤ t → (b : List ℕ) (w : List Part) → (cs.case t).reads b w → ⊥

side_chosen : (g h : Grammar) (cs : CaseGrammars) → Within g (cs.case 0) → Within h (cs.case 1) → (o : Result (List Part) (List Part)) (b : List ℕ) (w : List Part)
    → (result_read 4 g h).reads b o → w ≡ result_shown o → (chosen_read 4 cs).reads b w
side_chosen g h cs m n (Ok v) b w r e = record {
  before = 0;
  x = le 4 0;
  y = r.0;
  one = (small_tag 4 (omega arith) 0 (omega arith), refl);
  two = (v, m r.0 v r.1, e);
  joins = r.2;
}
side_chosen g h cs m n (Err v) b w r e = record {
  before = 1;
  x = le 4 1;
  y = r.0;
  one = (small_tag 4 (omega arith) 1 (omega arith), refl);
  two = (v, n r.0 v r.1, e);
  joins = r.2;
}

-- what each side reads its case reads
sides_chosen : (g h : Grammar) (cs : CaseGrammars) → Within g (cs.case 0) → Within h (cs.case 1) → Within (Sides g h) (chosen_read 4 cs)
sides_chosen g h cs m n b w r = side_chosen g h cs m n r.0 b w r.1 r.2

chosen_side : (cs : CaseGrammars) (g h : Grammar) → ((t : ℕ) → Within (cs.case t) (side_at g h t)) → (t : ℕ) (b x y : List ℕ) (w : List Part) → x ≡ le 4 t
    → IsChosen 4 cs.case t y w → b ≡ x ++ y → (Sides g h).reads b w
chosen_side cs g h m zero b x y w e c j = (Ok c.0, (y, m 0 y c.0 c.1, j ∙ ap (λ z. z ++ y) e), c.2)
chosen_side cs g h m (suc zero) b x y w e c j = (Err c.0, (y, m 1 y c.0 c.1, j ∙ ap (λ z. z ++ y) e), c.2)
chosen_side cs g h m (suc (suc t)) b x y w e c j = absurd (m (suc (suc t)) y c.0 c.1)

-- what each case reads the side with its tag reads
chosen_sides : (cs : CaseGrammars) (g h : Grammar) → ((t : ℕ) → Within (cs.case t) (side_at g h t)) → Within (chosen_read 4 cs) (Sides g h)
chosen_sides cs g h m b w r = chosen_side cs g h m r.before b r.x r.y w r.one.1 r.two r.joins

only_sides : (cs : Cases) → AreSides cs → OnlySides (cases_read cs)
only_sides cs m t l = by_test (has_tag (seen_cases cs) t) (λ e b w r. let h = m t e in omega (arith, h, l)) (λ e. unnamed cs t e)

own_sides : (cs : CaseGrammars) → OnlySides cs → (t : ℕ) → Within (cs.case t) (side_at (cs.case 0) (cs.case 1) t)
own_sides cs n zero b w r = r
own_sides cs n (suc zero) b w r = r
own_sides cs n (suc (suc t)) b w r = absurd (n (suc (suc t)) (omega arith) b w r)

like_more : (a : Likeness) (g h k : Grammar) → IsLike a g h → Within h k → IsLike (both a Reads) g k
like_more Same g h k r m = λ b w x. m b w (r.0 b w x)
like_more Reads g h k r m = λ b w x. m b w (r b w x)
like_more Unlike g h k r m = tt

-- a result beside an enum of its two cases
pub result_choice : (a b : Likeness) (g h : Grammar) (cs : Cases) → AreSides cs → IsLike a g ((cases_read cs).case 0) → IsLike b h ((cases_read cs).case 1)
    → IsLike (both a b) (Sides g h) (chosen_read 4 (cases_read cs))
result_choice a b g h cs m r s =
    let c = (cases_read cs).case 0 in
    let d = (cases_read cs).case 1 in
    like_to (both a b) (Sides g h) (Sides c d) (chosen_read 4 (cases_read cs)) (result_like a b g c h d r s) (
      sides_chosen c d (cases_read cs) (λ x w y. y) (λ x w y. y),
      chosen_sides (cases_read cs) c d (own_sides (cases_read cs) (only_sides cs m)),
    )

-- beside one of more cases
pub result_more : (a b : Likeness) (g h : Grammar) (cs : Cases) → IsLike a g ((cases_read cs).case 0) → IsLike b h ((cases_read cs).case 1)
    → IsLike (both (both a b) Reads) (Sides g h) (chosen_read 4 (cases_read cs))
result_more a b g h cs r s =
    let c = (cases_read cs).case 0 in
    let d = (cases_read cs).case 1 in
    like_more (both a b) (Sides g h) (Sides c d) (chosen_read 4 (cases_read cs)) (result_like a b g c h d r s)
    (sides_chosen c d (cases_read cs) (λ x w y. y) (λ x w y. y))

-- an enum beside a result of which it has both sides
pub choice_sides : (a : Likeness) (cs : Cases) (g h : Grammar) → AreLike a cs (side_at g h) → has_tag (seen_cases cs) 0 ≡ true → has_tag (seen_cases cs) 1 ≡ true
    → IsLike a (chosen_read 4 (cases_read cs)) (Sides g h)
choice_sides Same cs g h m p q = (
  chosen_sides (cases_read cs) g h (all_within cs (side_at g h) (λ t e. (m t e).0)),
  sides_chosen g h (cases_read cs) (m 0 p).1 (m 1 q).1,
)
choice_sides Reads cs g h m p q = chosen_sides (cases_read cs) g h (all_within cs (side_at g h) m)
choice_sides Unlike cs g h m p q = tt

-- beside one that has a side more
pub choice_fewer : (a : Likeness) (cs : Cases) (g h : Grammar) → AreLike a cs (side_at g h) → IsLike (both a Reads) (chosen_read 4 (cases_read cs)) (Sides g h)
choice_fewer Same cs g h m = chosen_sides (cases_read cs) g h (all_within cs (side_at g h) (λ t e. (m t e).0))
choice_fewer Reads cs g h m = chosen_sides (cases_read cs) g h (all_within cs (side_at g h) m)
choice_fewer Unlike cs g h m = tt

-- an integer that isn't 0 is an integer
pub nonzero_like : (i : Integer) → IsLike Reads (nonzero_read i) (integer_read i)
nonzero_like i = λ b w r.
    let P : List Part → Type 0 = λ p. (integer_read i).reads b p in
    subst P (sym r.3.0 ∙ r.4) r.2
