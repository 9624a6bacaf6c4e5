-- One reading after another.
use Rattle.std.proofs.Common.{◌≡◌, sym, ap, subst, refl, ℕ, ◌-◌, ◌/◌, ◌≤◌, suc, zero, length, nat_eq, nat_lt, Bool, true, false, cond, List, [], ◌∷◌, Option, Some, codes}
use Rattle.std.proofs.Common.{None, Result, Ok, Err, arith}
use Rattle.std.proofs.lemmas.Bool.{eqb-true, ltb-true, ltb-false}
use Rattle.std.proofs.Math.Arith.{half_le}
use Rattle.std.specs.Bool.{OnFalse}
use Rattle.wincode_describe.specs.Forms.{Form, seen}
use Rattle.wincode_describe.specs.declared.described.Described.{Described}
use Rattle.wincode_describe.specs.declared.parsing.Opening.{Opening}
use Rattle.std.specs.Global.{Vec}
use Rattle.wincode_describe.specs.Phrases.{Piece, Said, Unsaid, Refused, Gives, Reads, HasTokens, IsRefusal, and_then, needed, known, on, left, pieces, word_front, behind_sign}
use Rattle.wincode_describe.specs.Sources.{PassesHead, IsFound, declaration_of}
use Rattle.wincode_describe.specs.declared.declared.Found.{Found}
use Rattle.wincode_derive_text.specs.declared.tokens.Token.{Token}
use Rattle.wincode_describe.specs.Readers.{Makes, Reader, Readers, readers, one_more, no_more, unread, members_by, tuple_by, plain_of, array_by, item_by}
use Rattle.wincode_describe.specs.Readers.{array_or_word, opening_of, behind_word, word_by, type_by, range_by, range_form, ended, whole, Parses, found_as}
use Rattle.wincode_describe.specs.declared.error.DescribeError.{DescribeError}
use Rattle.wincode_describe.specs.declared.error.DescribeError.TheVariants.{OutOfMemory}

-- memory that was refused is no wrong answer
pub memory : (s : List Piece) (e : DescribeError) → e ≡ OutOfMemory → IsRefusal s e
memory [] e h = h
memory (p ∷ s) e h = tt

pub no_memory : (src : List Piece) {X Y : Type 0} (view : Y → X) (o : Said (X × List Piece)) (e : DescribeError) (rest : List Piece) → IsRefusal src e
    → Reads src view o (Err e) rest
no_memory src view Unsaid e rest h = tt
no_memory src view Refused e rest h = tt
no_memory src view (Gives x) e rest h = h

-- what was read first, and then the rest
pub next_ok : (src t : List Piece) {A X Y Z : Type 0} (view : Z → A) (sees : Y → X) (o : Said (A × List Piece)) (z : Z) (middle : List Piece)
    (k : A × List Piece → Said (X × List Piece)) (r : Result Y DescribeError) (rest : List Piece) → Reads src view o (Ok z) middle
    → Reads t sees (k (view z, middle)) r rest → Reads t sees (and_then o k) r rest
next_ok src t view sees Unsaid z middle k r rest h g = tt
next_ok src t view sees Refused z middle k r rest h g = absurd h
next_ok src t {A} {X} {Y} view sees (Gives (a, l)) z middle k r rest h g =
    let P : A × List Piece → Type 0 = λ x. Reads t sees (k x) r rest in
    let e : (view z, middle) ≡ (a, l) = cc in subst P e g

pub next_err : (src : List Piece) {A X Y Z : Type 0} (view : Z → A) (sees : Y → X) (o : Said (A × List Piece)) (e : DescribeError) (middle : List Piece)
    (k : A × List Piece → Said (X × List Piece)) (rest : List Piece) → Reads src view o (Err e) middle → Reads src sees (and_then o k) (Err e) rest
next_err src view sees Unsaid e middle k rest h = tt
next_err src view sees Refused e middle k rest h = tt
next_err src view sees (Gives x) e middle k rest h = no_memory src sees (k x) e rest h

-- so, of what nothing but memory is refused of
pub next_fault : (src : List Piece) {A X Y Z : Type 0} (view : Z → A) (sees : Y → X) (o : Said (A × List Piece)) (e : DescribeError) (middle : List Piece)
    (k : A × List Piece → Said (X × List Piece)) (rest : List Piece) → Reads [] view o (Err e) middle → Reads src sees (and_then o k) (Err e) rest
next_fault src view sees Unsaid e middle k rest h = tt
next_fault src view sees Refused e middle k rest h = tt
next_fault src view sees (Gives x) e middle k rest h = no_memory src sees (k x) e rest (memory src e h)

-- behind a head
pub headed : (src : List Piece) {A X Y : Type 0} (sees : Y → X) (o : Option (List Piece)) (note : Option A) (middle : List Piece)
    (k : List Piece → Said (X × List Piece)) (r : Result Y DescribeError) (rest : List Piece) → PassesHead o note middle
    → (note ≡ None → Reads src sees (k middle) r rest) → Reads src sees (and_then (known o) k) r rest
headed src sees None note middle k r rest h g = tt
headed src sees (Some behind) None middle k r rest h g =
    let P : List Piece → Type 0 = λ l. Reads src sees (k l) r rest in subst P h (g refl)
headed src sees (Some behind) (Some x) middle k r rest h g = absurd h

-- what is made of what was read
pub made : (src : List Piece) {X Y : Type 0} (view : Y → X) (f : X) (r : Result Y DescribeError) (rest : List Piece) → Makes view f r → Reads src view (Gives (f, rest)) r rest
made src view f (Ok d) rest h = (h, refl)
made src view f (Err e) rest h = memory src e h

-- where the sign or the word is taken, and where it isn't
pub sign_taken : (src : List Piece) {X Y : Type 0} (sees : Y → X) (o : Option (List Piece)) (b : Bool) (middle : List Piece) (f : List Piece → Said (X × List Piece))
    (other : Said (X × List Piece)) (r : Result Y DescribeError) (rest : List Piece) → o ≡ cond b (Some middle) None → b ≡ true
    → Reads src sees (f middle) r rest → Reads src sees (on o f other) r rest
sign_taken src sees o b middle f other r rest h t g = rw (h, t) g

pub sign_left : (src : List Piece) {X Y : Type 0} (sees : Y → X) (o : Option (List Piece)) (old : List Piece) (b : Bool) (middle : List Piece)
    (f : List Piece → Said (X × List Piece)) (other : List Piece → Said (X × List Piece)) (r : Result Y DescribeError) (rest : List Piece)
    → o ≡ cond b (Some middle) None → OnFalse b (middle ≡ old) → b ≡ false → Reads src sees (other middle) r rest → Reads src sees (on o f (other old)) r rest
sign_left src sees o old true middle f other r rest h k t g = absurd (cc)
sign_left src sees o old false middle f other r rest h k t g =
    let P : List Piece → Type 0 = λ l. Reads src sees (other l) r rest in
    rw h (subst P k g)

-- the levels below
pub one_level : (source : List Piece) (levels below : ℕ) → levels ≡ suc below → readers source levels ≡ one_more source (readers source below)
unfolding readers
one_level source levels below e = rw e refl

pub no_level : (source : List Piece) (levels : ℕ) → levels ≡ 0 → readers source levels ≡ no_more
unfolding readers
no_level source levels e = rw e refl

-- by the answer of the subtraction
pub below_is : (levels below : ℕ) → 1 ≤ levels → below ≡ levels - 1 → levels ≡ suc below
below_is levels below l e = omega arith

-- the readers of members and of tuples, by those of types of as many levels
abbrev pub below_members : List Piece → ℕ → Reader
below_members source zero = unread
below_members source (suc n) = (readers source n).members

pub members_is : (source : List Piece) (levels : ℕ) (ts : List Piece)
    → (readers source levels).members ts ≡ members_by (readers source levels).types (below_members source levels) ts
unfolding readers
members_is source zero ts = refl
members_is source (suc n) ts = refl

pub tuple_is : (source : List Piece) (levels : ℕ) (ts : List Piece)
    → (readers source levels).tuple ts ≡ tuple_by (readers source levels).types (below_members source levels) ts
unfolding readers
tuple_is source zero ts = refl
tuple_is source (suc n) ts = refl

pub below_members_is : (source : List Piece) (levels below : ℕ) → levels ≡ suc below → below_members source levels ≡ (readers source below).members
below_members_is source levels below e = rw e refl

-- a word that is a type, and one behind which something is to stand
pub word_plain : (source : List Piece) (below : Readers) (w : List ℕ) (rest : List Piece) (d : Described) → plain_of w ≡ Some (seen d)
    → Reads source seen (word_by source below (w, rest)) (Ok d) rest
word_plain source below w rest d h = rw h (refl, refl)

pub word_opening : (source : List Piece) (below : Readers) (w : List ℕ) (rest : List Piece) (o : Opening) (r : Result Described DescribeError)
    (after : List Piece) → plain_of w ≡ None → opening_of w ≡ o → Reads source seen (behind_word source below o w rest) r after
    → Reads source seen (word_by source below (w, rest)) r after
word_opening source below w rest o r after p q h = rw (p, q) h

-- a name of the source is read
pub named_ok : (source : List Piece) (o : Said Form) (r : Result Described DescribeError) (rest : List Piece) → Parses source o r
    → Reads source seen (and_then o (λ d. Gives (d, rest))) r rest
named_ok source Unsaid r rest h = tt
named_ok source Refused (Ok d) rest h = h
named_ok source Refused (Err e) rest h = tt
named_ok source (Gives f) (Ok d) rest h = (h, refl)
named_ok source (Gives f) (Err e) rest h = h

-- What is read of a text alone is so by any source.
pub anywhere : (src : List Piece) {X Y : Type 0} (view : Y → X) (o : Said (X × List Piece)) (r : Result Y DescribeError) (rest : List Piece)
    → Reads [] view o r rest → Reads src view o r rest
anywhere src view Unsaid r rest h = tt
anywhere src view Refused (Ok y) rest h = h
anywhere src view Refused (Err e) rest h = tt
anywhere src view (Gives x) (Ok y) rest h = h
anywhere src view (Gives x) (Err e) rest h = memory src e h

-- a type that begins with a word, and with no bracket
pub worded : (src : List Piece) (below : Readers) (ts one two : List Piece) (a b : Bool) {W : Type 0} (text : W → List ℕ) (w : W) (rest : List Piece)
    (r : Result Described DescribeError) (after : List Piece) → behind_sign (codes "(") ts ≡ cond a (Some one) None → OnFalse a (one ≡ ts) → a ≡ false
    → behind_sign (codes "[") one ≡ cond b (Some two) None → OnFalse b (two ≡ one) → b ≡ false
    → Reads [] text (needed (word_front two)) (Ok w) rest → Reads src seen (word_by src below (text w, rest)) r after → Reads src seen (type_by src below ts) r after
worded src below ts one two a b text w rest r after taken kept is_not taken_two kept_two is_not_two word h =
    sign_left src seen (behind_sign (codes "(") ts) ts a one below.tuple (array_or_word src below) r after taken kept is_not
    (sign_left src seen (behind_sign (codes "[") one) one b two (array_by below.types) (λ ts. and_then (needed (word_front ts)) (word_by src below)) r after taken_two kept_two is_not_two
    (next_ok [] src text seen (needed (word_front two)) w rest (word_by src below) r after word h))

-- as many levels as are given, and the readers of types for fewer
levels_is : (source : List Piece) (n : ℕ) → (readers source n).levels ≡ n
unfolding readers
levels_is source zero = refl
levels_is source (suc n) = ap suc (levels_is source n)

chosen_types : (source : List Piece) (n k : ℕ) (b : Bool) → nat_lt n k ≡ b → k ≤ suc n
    → (k ≤ n → (readers source n).types_of k ≡ (readers source k).types)
    → cond b (type_by source (readers source n)) ((readers source n).types_of k) ≡ (readers source k).types
unfolding readers
chosen_types source n k true e l below = let over = ltb-true n k e in let same : k ≡ suc n = omega arith in rw same refl
chosen_types source n k false e l below = let under = ltb-false n k e in below (omega arith)

types_below : (source : List Piece) (n k : ℕ) → k ≤ n → (readers source n).types_of k ≡ (readers source k).types
unfolding readers
types_below source zero zero l = refl
types_below source zero (suc k) l = absurd (omega arith)
types_below source (suc n) k l =
    let P : ℕ → Type 0 = λ m. cond (nat_lt m k) (type_by source (readers source n)) ((readers source n).types_of k) ≡ (readers source k).types in
    subst P (sym (levels_is source n)) (chosen_types source n k (nat_lt n k) refl l (types_below source n k))

-- the bound of a range is read with half of the levels
pub range_read : (source : List Piece) (n : ℕ) (ts : List Piece) (r : Result Described DescribeError) (rest : List Piece)
    → Reads source seen (item_by (readers source (n / 2)).types range_form ts) r rest → Reads source seen (range_by (readers source n) ts) r rest
range_read source n ts r rest h =
    let P : Reader → Type 0 = λ types. Reads source seen (item_by types range_form ts) r rest in
    let half : (readers source n).types_of (n / 2) ≡ (readers source (n / 2)).types = types_below source n (n / 2) (half_le (omega arith)) in
    let Q : ℕ → Type 0 = λ m. Reads source seen (item_by ((readers source n).types_of (m / 2)) range_form ts) r rest in
    subst Q (sym (levels_is source n)) (subst P (sym half) h)

-- what is chosen by a word, and where nothing is
pub chosen_is : (src : List Piece) {A X Y : Type 0} (sees : Y → X) (o : Option A) (x : A) (k : A → Said (X × List Piece)) (r : Result Y DescribeError) (rest : List Piece) → o
    ≡ Some x → Reads src sees (k x) r rest → Reads src sees (and_then (needed o) k) r rest
chosen_is src sees o x k r rest e h = rw e h

pub chosen_is_none : (src : List Piece) {A X Y : Type 0} (sees : Y → X) (o : Option A) (k : A → Said (X × List Piece)) (e : DescribeError) (rest : List Piece) → o
    ≡ None → Reads src sees (and_then (needed o) k) (Err e) rest
chosen_is_none src sees o k e rest h = rw h tt

-- by a test
pub test_true : (src : List Piece) {X Y : Type 0} (sees : Y → X) (b : Bool) (f g : Said (X × List Piece)) (r : Result Y DescribeError) (rest : List Piece) → b ≡ true
    → Reads src sees f r rest → Reads src sees (cond b f g) r rest
test_true src sees b f g r rest e h = rw e h

pub test_false : (src : List Piece) {X Y : Type 0} (sees : Y → X) (b : Bool) (f g : Said (X × List Piece)) (r : Result Y DescribeError) (rest : List Piece) → b ≡ false
    → Reads src sees g r rest → Reads src sees (cond b f g) r rest
test_false src sees b f g r rest e h = rw e h

-- a whole text
parses_refused : (source : List Piece) (o : Said Form) (e : DescribeError) → IsRefusal source e → Parses source o (Err e)
parses_refused source Unsaid e h = tt
parses_refused source Refused e h = tt
parses_refused source (Gives f) e h = h

pub parsed_no_tokens : (source : List Piece) (o : Option (List Piece)) (levels : ℕ) (e : DescribeError) → HasTokens o (Err e)
    → Parses source (and_then (known o) (whole source levels)) (Err e)
parsed_no_tokens source None levels e h = tt
parsed_no_tokens source (Some ts) levels e h = parses_refused source (whole source levels ts) e (memory source e h)

refused_by : (source : List Piece) (x : Said (Form × List Piece)) (e : DescribeError) (rest : List Piece) → Reads source seen x (Err e) rest
    → Parses source (and_then x ended) (Err e)
refused_by source Unsaid e rest h = tt
refused_by source Refused e rest h = tt
refused_by source (Gives y) e rest h = parses_refused source (ended y) e h

finished_by : (source : List Piece) (x : Said (Form × List Piece)) (d : Described) (rest : List Piece) → Reads source seen x (Ok d) rest
    → nat_eq (length rest) 0 ≡ true → Parses source (and_then x ended) (Ok d)
finished_by source Unsaid d rest h e = tt
finished_by source Refused d rest h e = h
finished_by source (Gives (f, [])) d rest h e = h.0
finished_by source (Gives (f, p ∷ ps)) d rest h e = let none = eqb-true (length rest) 0 e in absurd (omega (arith, ap length h.1))

unfinished_by : (source : List Piece) (x : Said (Form × List Piece)) (d : Described) (rest : List Piece) (e : DescribeError)
    → Reads source seen x (Ok d) rest → nat_eq (length rest) 0 ≡ false → Parses source (and_then x ended) (Err e)
unfinished_by source Unsaid d rest e h k = tt
unfinished_by source Refused d rest e h k = tt
unfinished_by source (Gives (f, [])) d rest e h k = let l = rw h.1 at k in absurd (cc)
unfinished_by source (Gives (f, p ∷ ps)) d rest e h k = tt

pub parsed_err : (source : List Piece) (o : Option (List Piece)) (all : Vec Token) (first : List Piece) (levels : ℕ) (e : DescribeError) (rest : List Piece)
    → HasTokens o (Ok all) → first ≡ pieces all.items → Reads source seen ((readers source levels).types first) (Err e) rest
    → Parses source (and_then (known o) (whole source levels)) (Err e)
parsed_err source None all first levels e rest h f k = tt
parsed_err source (Some ts) all first levels e rest h f k = refused_by source ((readers source levels).types ts) e rest (rw (sym h, sym f) k)

pub parsed_ok : (source : List Piece) (o : Option (List Piece)) (all : Vec Token) (first : List Piece) (levels : ℕ) (d : Described) (rest : List Piece)
    → HasTokens o (Ok all) → first ≡ pieces all.items → Reads source seen ((readers source levels).types first) (Ok d) rest
    → nat_eq (length rest) 0 ≡ true → Parses source (and_then (known o) (whole source levels)) (Ok d)
parsed_ok source None all first levels d rest h f k e = tt
parsed_ok source (Some ts) all first levels d rest h f k e = finished_by source ((readers source levels).types ts) d rest (rw (sym h, sym f) k) e

pub parsed_more : (source : List Piece) (o : Option (List Piece)) (all : Vec Token) (first : List Piece) (levels : ℕ) (d : Described) (rest : List Piece)
    (e : DescribeError) → HasTokens o (Ok all) → first ≡ pieces all.items → Reads source seen ((readers source levels).types first) (Ok d) rest
    → nat_eq (length rest) 0 ≡ false → Parses source (and_then (known o) (whole source levels)) (Err e)
parsed_more source None all first levels d rest e h f k l = tt
parsed_more source (Some ts) all first levels d rest e h f k l = unfinished_by source ((readers source levels).types ts) d rest e (rw (sym h, sym f) k) l

-- what is found is read
pub found_of : (source : List Piece) (o : Said (Form × List Piece)) (r : Result Described DescribeError) (rest : List Piece) → Reads source seen o r rest
    → Parses source (and_then o (λ d. Gives d.0)) r
found_of source Unsaid r rest h = tt
found_of source Refused (Ok d) rest h = h
found_of source Refused (Err e) rest h = tt
found_of source (Gives f) (Ok d) rest h = h.0
found_of source (Gives f) (Err e) rest h = h

pub named_found : (source : List Piece) (o : Said (Bool × List Piece)) (f : Found) (below : Readers) (r : Result Described DescribeError)
    → IsFound o (Some f) → (f.is_noted ≡ false → Parses source (found_as below (f.is_struct, left f.tokens)) r)
    → Parses source (and_then o (found_as below)) r
named_found source Unsaid f below r h g = tt
named_found source Refused f below r h g = absurd h
named_found source (Gives (k, ts)) f below r h g = rw (sym h.0, sym h.1) (g h.2)

-- A source may be refused, and without one no name is a type's.
parses_any : (p : Piece) (source : List Piece) (o : Said Form) (e : DescribeError) → Parses (p ∷ source) o (Err e)
parses_any p source o e = parses_refused (p ∷ source) o e tt

pub named_refused : (source : List Piece) (name : List ℕ) (below : Readers) (e : DescribeError)
    → Parses source (and_then (declaration_of name 0 source) (found_as below)) (Err e)
named_refused [] name below e = tt
named_refused (p ∷ source) name below e = parses_any p source (and_then (declaration_of name 0 (p ∷ source)) (found_as below)) e
