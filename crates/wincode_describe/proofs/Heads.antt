-- A head that is passed token by token, and a declaration that is looked for.
use Rattle.std.proofs.Common.{◌≡◌, ◌∙◌, sym, ap, subst, ℕ, zero, suc, ◌<◌, Bool, true, false, cond, ◌||◌, nat_eq, List, [], ◌∷◌, length, drop, Option, Some, None}
use Rattle.std.proofs.Common.{refl, arith}
use Rattle.std.proofs.lemmas.Bool.{eqb-true}
use Rattle.wincode_derive_text.specs.declared.tokens.Kind.TheVariants as kind
use Rattle.wincode_describe.specs.Phrases.{Piece, Said, Unsaid, Refused, Gives, and_then, needed, on, left, front_text}
use Rattle.wincode_describe.specs.Sources.{PassesHead, IsFound, behind_head, begun_by, declaration_of, depth_behind, heads, is_noted, is_noted_at, is_there}
use Rattle.wincode_describe.specs.declared.declared.Found.{Found}
use Rattle.wincode_describe.specs.declared.tokens.Over.{Over}
use Rattle.wincode_describe.specs.declared.tokens.Over.TheVariants as over

-- what stands behind a head, as far as it is passed
abbrev pub OnHead : {A : Type 0} → Option (List Piece) → Option A → Option (List Piece) → Type 0
OnHead None _ now = Unit
OnHead (Some behind) None now = now ≡ Some behind
OnHead (Some behind) (Some x) now = ⊥

-- nothing has no head
empty_head : (o : Over) → behind_head o [] ≡ None
empty_head over.Between = refl
empty_head over.Opening = refl
empty_head (over.Inside n) = refl

-- one token of it is passed
stepped : (o : Over) (ts : List Piece) (next : Over) → behind_head o ts ≡ Some next → heads o ts ≡ cond (is_noted o ts) None (heads next (drop 1 ts))
stepped o [] next h = let e : None ≡ Some next = sym (empty_head o) ∙ h in absurd (cc)
stepped o (p ∷ rest) next h = ap (λ x. cond (is_noted o (p ∷ rest)) None (on x (λ n. heads n rest) (Some (p ∷ rest)))) h

pub head_shorter : (o : Over) (ts : List Piece) (next : Over) → behind_head o ts ≡ Some next → length (drop 1 ts) < length ts
head_shorter o [] next h = let e : None ≡ Some next = sym (empty_head o) ∙ h in absurd (cc)
head_shorter o (p ∷ rest) next h = omega arith

on_cases : {A : Type 0} (behind : List Piece) (later : Option A) (n : Bool) (x : Option (List Piece)) → cond n None x ≡ Some behind
    → (n ≡ false → later ≡ None) → OnHead (Some behind) later x
on_cases behind later true x e l = absurd (cc)
on_cases behind None false x e l = e
on_cases behind (Some y) false x e l = let w : Some y ≡ None = l refl in absurd (cc)

pub head_on : {A : Type 0} (h : Option (List Piece)) (note later : Option A) (o : Over) (ts : List Piece) (next : Over) → OnHead h note (heads o ts)
    → behind_head o ts ≡ Some next → (is_noted o ts ≡ false → later ≡ note) → OnHead h later (heads next (drop 1 ts))
head_on None _ later o ts next k b l = tt
head_on (Some behind) None later o ts next k b l = on_cases behind later (is_noted o ts) (heads next (drop 1 ts)) (sym (stepped o ts next b) ∙ k) l
head_on (Some behind) (Some x) later o ts next k b l = absurd k

-- and the last
some_of : {A : Type 0} (b : Bool) (x : A) (y : Option A) → cond b (Some x) y ≡ None → b ≡ false
some_of true x y h = absurd (cc)
some_of false x y h = refl

not_noted : (o : Over) (ts : List Piece) → behind_head o ts ≡ None → is_noted o ts ≡ false
not_noted over.Between ts h = some_of (is_there (front_text kind.Note ts)) _ _ h
not_noted over.Opening ts h = refl
not_noted (over.Inside n) ts h = refl

ended_is : (o : Over) (ts : List Piece) → behind_head o ts ≡ None → heads o ts ≡ Some ts
ended_is o [] h = refl
ended_is o (p ∷ rest) h = ap (λ n. cond n None (on (behind_head o (p ∷ rest)) (λ n. heads n rest) (Some (p ∷ rest)))) (not_noted o (p ∷ rest) h)
    ∙ ap (λ x. on x (λ n. heads n rest) (Some (p ∷ rest))) h

pub head_ended : {A : Type 0} (h : Option (List Piece)) (note : Option A) (o : Over) (ts : List Piece) → OnHead h note (heads o ts)
    → behind_head o ts ≡ None → PassesHead h note ts
head_ended None _ o ts k b = tt
head_ended (Some behind) None o ts k b = let e : Some ts ≡ Some behind = sym (ended_is o ts b) ∙ k in cc
head_ended (Some behind) (Some x) o ts k b = absurd k

pub head_begun : {A : Type 0} (h : Option (List Piece)) (note : Option A) → note ≡ None → OnHead h note h
head_begun None _ e = tt
head_begun (Some behind) None e = refl
head_begun (Some behind) (Some x) e = absurd (cc)

-- a declaration that isn't found yet
abbrev pub OnDeclaration : Said (Bool × List Piece) → Bool → Said (Bool × List Piece) → Type 0
OnDeclaration Unsaid noted now = Unit
OnDeclaration Refused noted now = (noted ≡ false) × (now ≡ Refused)
OnDeclaration (Gives k) noted now = (noted ≡ false) × (now ≡ Gives k)

pub declaration_begun : (d : Said (Bool × List Piece)) → OnDeclaration d false d
declaration_begun Unsaid = tt
declaration_begun Refused = (refl, refl)
declaration_begun (Gives k) = (refl, refl)

-- it begins where something stands
begun_empty : (name : List ℕ) (depth : ℕ) → begun_by name depth [] ≡ None
begun_empty name zero = refl
begun_empty name (suc n) = refl

found_is : (name : List ℕ) (depth : ℕ) (ts : List Piece) (x : Bool × List Piece) → begun_by name depth ts ≡ Some x → declaration_of name depth ts ≡ Gives x
found_is name depth [] x h = let e : None ≡ Some x = sym (begun_empty name depth) ∙ h in absurd (cc)
found_is name depth (p ∷ rest) x h = ap (λ b. on b (λ found. Gives found) (cond (is_noted_at depth (p ∷ rest)) Unsaid
    (and_then (needed (depth_behind depth (front_text kind.Sign (p ∷ rest)))) (λ d. declaration_of name d rest)))) h

gives_something : (x : Bool × List Piece) → Gives x ≡ Refused → ⊥
gives_something x e = absurd (cc)

pub declared_here : (d : Said (Bool × List Piece)) (noted : Bool) (name : List ℕ) (depth : ℕ) (ts : List Piece) (f : Found)
    → OnDeclaration d noted (declaration_of name depth ts) → begun_by name depth ts ≡ Some (f.is_struct, left f.tokens) → f.is_noted ≡ noted
    → IsFound d (Some f)
declared_here Unsaid noted name depth ts f k b n = tt
declared_here Refused noted name depth ts f k b n =
    absurd (gives_something (f.is_struct, left f.tokens) (sym (found_is name depth ts _ b) ∙ k.1))
declared_here (Gives x) noted name depth ts f k b n =
    let e : Gives (f.is_struct, left f.tokens) ≡ Gives x = sym (found_is name depth ts _ b) ∙ k.1 in
    let same : (f.is_struct, left f.tokens) ≡ x = cc in
    (ap (λ y. y.0) same, ap (λ y. y.1) same, n ∙ k.0)

not_begun : (name : List ℕ) (depth : ℕ) (p : Piece) (rest : List Piece) (x : Option ℕ) → begun_by name depth (p ∷ rest) ≡ None
    → depth_behind depth (front_text kind.Sign (p ∷ rest)) ≡ x
    → declaration_of name depth (p ∷ rest) ≡ cond (is_noted_at depth (p ∷ rest)) Unsaid (and_then (needed x) (λ d. declaration_of name d rest))
not_begun name depth p rest x b h = ap (λ b. on b (λ found. Gives found) (cond (is_noted_at depth (p ∷ rest)) Unsaid
    (and_then (needed (depth_behind depth (front_text kind.Sign (p ∷ rest)))) (λ d. declaration_of name d rest)))) b
    ∙ ap (λ x. cond (is_noted_at depth (p ∷ rest)) Unsaid (and_then (needed x) (λ d. declaration_of name d rest))) h

on_declaration : (k : Said (Bool × List Piece)) (noted n : Bool) (x : Said (Bool × List Piece)) → OnDeclaration k noted (cond n Unsaid x)
    → OnDeclaration k (noted || n) x
on_declaration Unsaid noted n x h = tt
on_declaration Refused true n x h = absurd (cc)
on_declaration Refused false true x h = let e : Unsaid ≡ Refused = h.1 in absurd (cc)
on_declaration Refused false false x h = h
on_declaration (Gives k) true n x h = absurd (cc)
on_declaration (Gives k) false true x h = let e : Unsaid ≡ Gives k = h.1 in absurd (cc)
on_declaration (Gives k) false false x h = h

pub declaration_on : (d : Said (Bool × List Piece)) (noted : Bool) (name : List ℕ) (depth next : ℕ) (ts : List Piece)
    → OnDeclaration d noted (declaration_of name depth ts) → nat_eq (length ts) 0 ≡ false → begun_by name depth ts ≡ None
    → depth_behind depth (front_text kind.Sign ts) ≡ Some next → OnDeclaration d (noted || is_noted_at depth ts) (declaration_of name next (drop 1 ts))
declaration_on d noted name depth next [] k l b h = absurd (cc)
declaration_on d noted name depth next (p ∷ rest) k l b h =
    let P : Said (Bool × List Piece) → Type 0 = λ x. OnDeclaration d noted x in
    on_declaration d noted (is_noted_at depth (p ∷ rest)) (declaration_of name next rest) (subst P (not_begun name depth p rest (Some next) b h) k)

none_of_both : (n : Bool) (k : Bool × List Piece) → cond n Unsaid Refused ≡ Gives k → ⊥
none_of_both true k e = absurd (cc)
none_of_both false k e = absurd (cc)

pub declaration_past : (d : Said (Bool × List Piece)) (noted : Bool) (name : List ℕ) (depth : ℕ) (ts : List Piece)
    → OnDeclaration d noted (declaration_of name depth ts) → begun_by name depth ts ≡ None → depth_behind depth (front_text kind.Sign ts) ≡ None
    → IsFound d None
declaration_past Unsaid noted name depth ts k b h = tt
declaration_past Refused noted name depth ts k b h = tt
declaration_past (Gives x) noted name depth [] k b h = let e : Refused ≡ Gives x = k.1 in absurd (cc)
declaration_past (Gives x) noted name depth (p ∷ rest) k b h = none_of_both (is_noted_at depth (p ∷ rest)) x (sym (not_begun name depth p rest None b h) ∙ k.1)

pub declaration_ended : (d : Said (Bool × List Piece)) (noted : Bool) (name : List ℕ) (depth : ℕ) (ts : List Piece)
    → OnDeclaration d noted (declaration_of name depth ts) → nat_eq (length ts) 0 ≡ true → IsFound d None
declaration_ended Unsaid noted name depth ts k l = tt
declaration_ended Refused noted name depth ts k l = tt
declaration_ended (Gives x) noted name depth [] k l = let e : Refused ≡ Gives x = k.1 in absurd (cc)
declaration_ended (Gives x) noted name depth (p ∷ rest) k l = let none = eqb-true (length (p ∷ rest)) 0 l in absurd (omega (arith, none))

pub there_shorter : (ts : List Piece) → nat_eq (length ts) 0 ≡ false → length (drop 1 ts) < length ts
there_shorter [] l = absurd (cc)
there_shorter (p ∷ rest) l = omega arith
