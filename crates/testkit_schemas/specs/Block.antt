-- A schema of so many bytes, all of them zero, of a value without parts.
use Rattle.std.specs.Prelude.{◌≡◌, ℕ, Bool, true, false, List, length, replicate}
use Rattle.std.proofs.Common.{◌∙◌, sym, refl, arith, zero, suc, [], ◌∷◌}
use Rattle.std.proofs.lemmas.List.{length-replicate}
use Rattle.wincode_io.specs.Joins.{Each}
use Rattle.wincode_base.specs.Grammar.{ReadGrammar, ReadLaws, WriteGrammar, WriteLaws, ReadsBack}
use Rattle.wincode_base.specs.Outcomes.{PieceWriteRefused, unsaid}
use Rattle.wincode_base.specs.declared.meta.TypeMeta.TheVariants.{Static}
use Rattle.wincode_io.specs.Readers.{nothing}

-- n bytes, all of them zero
abbrev pub AreZeros : ℕ → List ℕ → Type 0
AreZeros n b = (length b ≡ n) × Each (λ d. d ≡ 0) b

-- whether they are
abbrev pub IsZeroKnown : Bool → List ℕ → Type 0
IsZeroKnown answer b = (answer ≡ true → Each (λ d. d ≡ 0) b) × (answer ≡ false → Each (λ d. d ≡ 0) b → ⊥)

-- n bytes that are all zero
abbrev pub block_read : ℕ → ReadGrammar Unit
block_read n = record {
  reads = λ b v. AreZeros n b;
  meta = Static n false;
  prealloc = 1;
  borrow = nothing;
  takes_no_memory = true;
  refused = unsaid;
}

-- n bytes, all of them zero, written
abbrev pub block_write : ℕ → WriteGrammar Unit
block_write n = record {
  writes = λ b v. AreZeros n b;
  can = λ v. Unit {0};
  size = λ v. n;
  fits = λ v. Unit {0};
  meta = Static n false;
  prealloc = 1;
  builtin = false;
  refused = λ v. PieceWriteRefused n;
}

pub all_zero : (n : ℕ) → Each (λ (d : ℕ). d ≡ 0) (replicate n 0)
all_zero zero = tt
all_zero (suc n) = (refl, all_zero n)

zeros_same : (a b : List ℕ) → length a ≡ length b → Each (λ d. d ≡ 0) a → Each (λ d. d ≡ 0) b → a ≡ b
zeros_same [] [] l p q = refl
zeros_same [] (d ∷ b) l p q = absurd (omega arith)
zeros_same (c ∷ a) [] l p q = absurd (omega arith)
zeros_same (c ∷ a) (d ∷ b) l p q =
    let h : length a ≡ length b = omega arith in
    let r = zeros_same a b h p.1 q.1 in
    let k : c ≡ 0 = p.0 in
    let m : d ≡ 0 = q.0 in cc

pub block_read_laws : (n : ℕ) → ReadLaws (λ v. Unit {0}) (block_read n)
block_read_laws n = record {
  one_front = λ a b x y v w p q e. (zeros_same a b (p.0 ∙ sym q.0) p.1 q.1, refl);
  reads_valid = λ b v r. tt;
  statics = (λ b v r. r.0, λ z. absurd (cc z));
  prealloc = omega arith;
}

pub block_write_laws : (n : ℕ) → WriteLaws {X = Unit} (λ x. Unit {0}) (λ x. x) (block_write n)
block_write_laws n = record {
  has_encoding = λ v c. (replicate n 0, (length-replicate n 0, all_zero n));
  encoding_can = λ v b w. tt;
  encoding_size = λ v b w. w.0;
  can_fit = λ v f. f;
  statics = (λ x p. tt, λ v c. refl);
}

pub block_reads_back : (n : ℕ) → ReadsBack {X = Unit} (λ x. Unit {0}) (λ x. x) (block_write n) (λ x. x) (block_read n)
block_reads_back n = record {
  back = λ x b p w f. w;
  within = λ b x r. tt;
  same_prealloc = refl;
  same_meta = refl;
}
