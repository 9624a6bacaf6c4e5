-- What an input shows of two types.
use Rattle.std.proofs.Common.{◌≡◌, ◌∙◌, sym, ap, subst, ℕ, suc, ◌+◌, ◌<◌, ◌^◌, Bool, List, [], ◌∷◌, length, map, refl, not, true, false, nat_lt, arith, Some, None}
use Rattle.std.proofs.lemmas.Bool.{ltb-true, ltb-false}
use Rattle.std.proofs.lemmas.List.{length-map}
use Rattle.std.proofs.lemmas.Option.{slice_get-map}
use Rattle.std.specs.Prelude.{slice_get, option_map}
use Rattle.wincode_io.specs.Readers.{ReaderState, memory, nothing}
use Rattle.wincode_io.specs.declared.error.ReadError.TheVariants as reader
use Rattle.wincode_base.specs.Outcomes.{Accepts, ReadDue}
use Rattle.wincode_base.specs.declared.error.ReadError.{ReadError}
use Rattle.wincode_base.specs.declared.error.ReadError.TheVariants as reading
use Rattle.wincode_describe.proofs.Likes.{by_test}
use Rattle.wincode_describe.specs.Compared.{Within, ReadsAs, IsWitness, IsUnaccepted}
use Rattle.wincode_describe.specs.Explained.{Explains}
use Rattle.wincode_describe.specs.Parts.{Part, seen}
use Rattle.wincode_describe.specs.TypeLaws.{described_laws}
use Rattle.wincode_describe.specs.Types.{described_read}
use Rattle.wincode_describe.specs.declared.described.Described.{Described}
use Rattle.wincode_describe.specs.declared.shown.Shown.{Shown}

-- what reads by the forms reads of every input
pub reads_as : (old new : Described) → Within (described_read old) (described_read new) → ReadsAs old new
reads_as old new m = λ bytes rest parts f. record { encoding = f.encoding; is_read = m f.encoding parts f.is_read; joins = f.joins }

due_refutes : (A : Type 0) (borrow : ℕ) (t : Bool) (left : ReaderState) (e : ReadError) → IsUnaccepted e → ReadDue A borrow t left e → A → ⊥
due_refutes A borrow t left (reading.Io (reader.ReadSizeLimit n)) u d = d
due_refutes A borrow t left (reading.Io _) u d = absurd u
due_refutes A borrow t left reading.OutOfMemory u d = absurd u
due_refutes A borrow t left _ u d = d

-- the new type refuses what the old one accepts
pub refused_witness : (old new : Described) (bytes : List ℕ) (parts others : List Part) (e : ReadError) → length bytes < 2 ^ 64
    → Explains old bytes parts None → Explains new bytes others (Some e) → IsUnaccepted e → IsWitness old new bytes
refused_witness old new bytes parts others e l x y u = (
  parts,
  x.1.0,
  x.1.1,
  λ left f. due_refutes (Accepts (described_read new).reads (memory nothing bytes)) (described_read new).borrow (described_read new).takes_no_memory y.1.0 e u
      y.1.1.0.due (record {
        is_known = refl;
        fits = l;
        front = record { value = parts; rest = left; found = f };
      }),
)

-- it reads other parts
pub other_witness : (old new : Described) (bytes : List ℕ) (parts others : List Part) → Explains old bytes parts None → Explains new bytes others None
    → (parts ≡ others → ⊥) → IsWitness old new bytes
other_witness old new bytes parts others x y n = (
  parts,
  x.1.0,
  x.1.1,
  λ left f.
      let k = y.1.1 in
      let one = (described_laws new).one_front in
      n (one f.encoding k.encoding left y.1.0 parts others f.is_read k.is_read (sym f.joins ∙ k.joins)).1,
)

-- ---- parts that are the same

some_is : (p q : Part) → Some p ≡ Some q → p ≡ q
some_is p q e = cc e

-- what stands at one place of lists that are seen as the same
pub same_at : (xs ys : List Shown) (i : ℕ) (p q : Shown) → map seen xs ≡ map seen ys → slice_get xs i ≡ Some p → slice_get ys i ≡ Some q → seen p ≡ seen q
same_at xs ys i p q e f g =
    some_is (seen p) (seen q) (sym (slice_get-map seen xs i ∙ ap (option_map seen) f) ∙ ap (λ zs. slice_get zs i) e ∙ slice_get-map seen ys i
    ∙ ap (option_map seen) g)

-- what is seen as the same is so at that place
pub at_both : (xs ys : List Shown) (i : ℕ) (p q : Shown) → slice_get xs i ≡ Some p → slice_get ys i ≡ Some q → seen p ≡ seen q
    → slice_get (map seen xs) i ≡ slice_get (map seen ys) i
at_both xs ys i p q f g e =
    slice_get-map seen xs i ∙ ap (option_map seen) f ∙ ap Some e ∙ sym (slice_get-map seen ys i ∙ ap (option_map seen) g)

-- they are as long
pub as_long : (xs ys : List Shown) → map seen xs ≡ map seen ys → length xs ≡ length ys
as_long xs ys e = sym (length-map xs seen) ∙ ap length e ∙ length-map ys seen

-- it can't be so that they aren't
pub not_both : (b : Bool) → b ≡ true → not b ≡ true → ⊥
not_both true e f = cc f
not_both false e f = cc e

-- what holds up to a number, and of it, holds up to the next
pub one_further : (P : ℕ → Type 0) (i : ℕ) → ((j : ℕ) → j < i → P j) → P i → (j : ℕ) → j < i + 1 → P j
one_further P i f p j l =
    by_test (nat_lt j i) (λ e. f j (ltb-true j i e)) (λ e. let m = ltb-false j i e in let is : i ≡ j = omega (arith, m, l) in subst P is p)

-- parts are those that are so at each place
pub same_parts : (ps qs : List Part) → length ps ≡ length qs → ((j : ℕ) → j < length ps → slice_get ps j ≡ slice_get qs j) → ps ≡ qs
same_parts [] [] l f = refl
same_parts [] (q ∷ qs) l f = absurd (omega (arith, l))
same_parts (p ∷ ps) [] l f = absurd (omega (arith, l))
same_parts (p ∷ ps) (q ∷ qs) l f =
    ap (λ x. x ∷ ps) (some_is p q (f 0 (omega arith))) ∙ ap (λ xs. q ∷ xs) (same_parts ps qs (omega (arith, l)) (λ j m. f (suc j) (omega (arith, m))))
