-- The laws of short numbers, as values and as lengths.
use Rattle.std.proofs.Common.{◌≡◌, ◌∙◌, sym, ap, ℕ, ◌<◌, ◌^◌, List, ◌++◌, length, refl, arith, Some, None, cond, nat_lt}
use Rattle.std.proofs.lemmas.Bool.{lt-ltb, ltb-true}
use Rattle.std.proofs.lemmas.Option.{cond_some}
use Rattle.wincode_io.specs.Joins.{IsUnambiguous}
use Rattle.wincode_io.specs.ShortNumbers.{short_encoding}
use Rattle.wincode_io.specs.ShortNumberLaws.{short_one}
use Rattle.wincode_base.specs.Grammar.{ReadLaws, WriteLaws, ReadsBack}
use Rattle.wincode_base.specs.Lengths.{SchemeLaws}
use Rattle.wincode_base.specs.Short.{short_read, short_write, short_scheme}

one_front : IsUnambiguous short_read.reads
one_front a b x y m n p q e =
    let same = short_one m n x y (ap (λ t. t ++ x) (sym p.1) ∙ e ∙ ap (λ t. t ++ y) q.1) in
    (p.1 ∙ ap short_encoding same ∙ sym q.1, same)

pub short_read_laws : ReadLaws (λ n. n < 2 ^ 16) short_read
short_read_laws = record {
  one_front = one_front;
  reads_valid = λ b n r. r.0;
  statics = tt;
  prealloc = omega arith;
}

pub short_write_laws : {X : Type 0} (is_valid : X → Type 0) (model : X → ℕ) → WriteLaws is_valid model short_write
short_write_laws is_valid model = record {
  has_encoding = λ n c. (short_encoding n, refl);
  encoding_can = λ n b t. tt;
  encoding_size = λ n b t. ap length t;
  can_fit = λ n f. f;
  statics = tt;
}

pub short_reads_back : {X : Type 0} (model : X → ℕ) → ReadsBack (λ x. model x < 2 ^ 16) model short_write model short_read
short_reads_back model = record {
  back = λ x b p t f. (p, t);
  within = λ b x r. tt;
  same_prealloc = refl;
  same_meta = refl;
}

-- ---- lengths

pub short_has : (n : ℕ) → n < 2 ^ 16 → short_scheme.encoding n ≡ Some (short_encoding n)
short_has n l = ap (λ b. cond b (Some (short_encoding n)) None) (lt-ltb n (2 ^ 16) l)

-- a length has the encoding of its short number alone
pub short_is : (n : ℕ) (a : List ℕ) → short_scheme.encoding n ≡ Some a → short_read.reads a n
short_is n a e = let h = cond_some (nat_lt n (2 ^ 16)) (short_encoding n) a e in (ltb-true n (2 ^ 16) h.0, sym h.1)

pub short_scheme_laws : SchemeLaws short_scheme
short_scheme_laws = record {
  admitted = λ n p h. (short_encoding n, short_has n h);
  one_length = λ a b x y m n p q e. one_front a b x y m n (short_is m a p) (short_is n b q) e;
}
