-- The laws of characters, of texts and of references.
use Rattle.std.proofs.Common.{◌≡◌, ◌∙◌, sym, ap, ℕ, ◌+◌, ◌<◌, ◌≤◌, ◌^◌, Bool, List, ◌++◌, length, refl, arith, length-append}
use Rattle.std.specs.Prelude.{IsUtf8, encode_utf8}
use Rattle.std.specs.Char.{IsScalar}
use Rattle.std.proofs.lemmas.Str.{encode_same, length-encode}
use Rattle.wincode_io.specs.Numbers.{le}
use Rattle.wincode_io.specs.NumberLaws.{length-le}
use Rattle.wincode_base.specs.LeafLaws.{same_front}
use Rattle.wincode_base.specs.Grammar.{WriteGrammar, ReadLaws, WriteLaws, ReadsBack, IsWriteStatic}
use Rattle.wincode_base.specs.Lengths.{IsLength, bincode, preallocation_limit}
use Rattle.wincode_base.specs.LengthLaws.{bincode_encoding, bincode_encoding_is, bincode_laws, length_one}
use Rattle.wincode_base.specs.Sequences.{Then, then_unambiguous}
use Rattle.wincode_base.specs.Strings.{char_read, char_write, str_read, str_write, IsStrBytes, reference_meta, reference_write}
use Rattle.wincode_base.specs.declared.meta.TypeMeta.{TypeMeta}
use Rattle.wincode_base.specs.declared.meta.TypeMeta.TheVariants.{Static, Dynamic}
use Rattle.wincode_io.specs.Joins.{IsUnambiguous}

char_one : IsUnambiguous char_read.reads
char_one a b x y c d p q e =
    let same = encode_same c d x y (ap (λ t. t ++ x) (sym p.1) ∙ e ∙ ap (λ t. t ++ y) q.1) in
    (p.1 ∙ ap encode_utf8 same.0 ∙ sym q.1, same.0)

pub char_read_laws : ReadLaws IsScalar char_read
char_read_laws = record {
  one_front = char_one;
  reads_valid = λ b c r. r.0;
  statics = tt;
  prealloc = omega arith;
}

pub char_write_laws : WriteLaws IsScalar (λ c. c) char_write
char_write_laws = record {
  has_encoding = λ c h. (encode_utf8 c, refl);
  encoding_can = λ c b t. tt;
  encoding_size = λ c b t. ap length t ∙ length-encode c;
  can_fit = λ c f. f;
  statics = tt;
}

pub char_reads_back : ReadsBack IsScalar (λ c. c) char_write (λ c. c) char_read
char_reads_back = record {
  back = λ c b p t f. (p, t);
  within = λ b c r. tt;
  same_prealloc = refl;
  same_meta = refl;
}

-- ---- texts

body_one : (n : ℕ) → IsUnambiguous (IsStrBytes n)
body_one n a b x y v w p q e = let same = same_front a b x y (ap length p.2 ∙ p.0 ∙ sym (ap length q.2 ∙ q.0)) e in (same, sym p.2 ∙ same ∙ q.2)

-- a text is its length, and then its bytes
pub str_then : (prealloc borrow : ℕ) (takes_no_memory : Bool) (b v : List ℕ) → (str_read prealloc borrow takes_no_memory).reads b v
    → Then (IsLength (bincode preallocation_limit) 1) IsStrBytes b v
str_then prealloc borrow takes_no_memory b v r =
    let within = r.0 in
    let small : length v < 2 ^ 64 = omega arith in
    record {
      before = length v;
      x = le 8 (length v);
      y = v;
      one = ((small, omega arith), bincode_encoding preallocation_limit (length v) small);
      two =
          (refl, r.1, refl);
      joins = r.2;
    }

pub then_encoding : (prealloc borrow : ℕ) (takes_no_memory : Bool) (b v : List ℕ) → Then (IsLength (bincode preallocation_limit) 1) IsStrBytes b v
    → (str_read prealloc borrow takes_no_memory).reads b v
then_encoding prealloc borrow takes_no_memory b v t =
    let within = t.one.0.1 in
    let size = t.two.0 in
    let is = (bincode_encoding_is preallocation_limit t.before t.x t.one.1).1 in
    (omega arith, t.two.1, t.joins ∙ ap (λ x. x ++ t.y) (is ∙ ap (le 8) (sym size)) ∙ ap (λ y. le 8 (length v) ++ y) t.two.2)

pub str_read_laws : (prealloc borrow : ℕ) (takes_no_memory : Bool) → 1 ≤ prealloc → ReadLaws IsUtf8 (str_read prealloc borrow takes_no_memory)
str_read_laws prealloc borrow takes_no_memory some = record {
  one_front = λ a b x y v w p q e. then_unambiguous (IsLength (bincode preallocation_limit) 1) IsStrBytes
      (length_one (bincode preallocation_limit) (bincode_laws preallocation_limit) 1) body_one a b x y v w (str_then prealloc borrow takes_no_memory a v p)
      (str_then prealloc borrow takes_no_memory b w q) e;
  reads_valid = λ b v r. r.1;
  statics = tt;
  prealloc = some;
}

pub encoding_size : (v b : List ℕ) → b ≡ le 8 (length v) ++ v → length b ≡ 8 + length v
encoding_size v b t = ap length t ∙ length-append (le 8 (length v)) v ∙ ap (λ n. n + length v) (length-le 8 (length v))

pub str_write_laws : {X : Type 0} (prealloc : ℕ) (is_valid : X → Type 0) (bytes : X → List ℕ) → WriteLaws is_valid bytes (str_write prealloc)
str_write_laws prealloc is_valid bytes = record {
  has_encoding = λ v c. (le 8 (length v) ++ v, (c, refl));
  encoding_can = λ v b t. t.0;
  encoding_size = λ v b t. encoding_size v b t.1;
  can_fit = λ v f. omega arith;
  statics = tt;
}

pub str_reads_back : {X : Type 0} (prealloc borrow : ℕ) (takes_no_memory : Bool) (bytes : X → List ℕ)
    → ReadsBack (λ x. IsUtf8 (bytes x)) bytes (str_write prealloc) bytes (str_read prealloc borrow takes_no_memory)
str_reads_back prealloc borrow takes_no_memory bytes = record {
  back = λ x b p t f. (f, p, t.1);
  within = λ b x r. r.0;
  same_prealloc = refl;
  same_meta = refl;
}

-- ---- references

reference_static : {X Y V : Type 0} (is_valid : X → Type 0) (model : X → V) (value : Y → X) (can : V → Type 0) (size : V → ℕ) (m : TypeMeta)
    → IsWriteStatic is_valid model can size m → IsWriteStatic (λ y. is_valid (value y)) (λ y. model (value y)) can size (reference_meta m)
reference_static is_valid model value can size Dynamic h = tt
reference_static is_valid model value can size (Static s z) h = (λ y p. h.0 (value y) p, h.1)

-- `value` is what a reference refers to
pub reference_write_laws : {X Y V : Type 0} (is_valid : X → Type 0) (model : X → V) (value : Y → X) (g : WriteGrammar V) → WriteLaws is_valid model g
    → WriteLaws (λ y. is_valid (value y)) (λ y. model (value y)) (reference_write g)
reference_write_laws is_valid model value g laws = record {
  has_encoding = laws.has_encoding;
  encoding_can = laws.encoding_can;
  encoding_size = laws.encoding_size;
  can_fit = laws.can_fit;
  statics = reference_static is_valid model value g.can g.size g.meta laws.statics;
}
