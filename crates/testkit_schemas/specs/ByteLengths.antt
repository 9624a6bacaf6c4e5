-- Lengths in one byte.
use Rattle.std.specs.Prelude.{◌≡◌, ℕ, ◌<◌, false, Some, None, List, [], ◌∷◌, ◌++◌, length, get_or, nat_lt, if◌then◌else◌}
use Rattle.std.proofs.Common.{◌∙◌, sym, ap, refl, arith, cond}
use Rattle.std.proofs.lemmas.Bool.{lt-ltb, ltb-true}
use Rattle.std.proofs.lemmas.Option.{cond_some}
use Rattle.wincode_base.specs.Lengths.{Scheme, SchemeLaws, IsLength}
use Rattle.wincode_base.specs.Outcomes.{PieceReadRefused}

-- a length below 256 is its byte, whatever its items count
abbrev pub byte_scheme : Scheme
byte_scheme = record {
  encoding = λ n. if nat_lt n 256 then Some (n ∷ []) else None;
  admits = λ n p. n < 256;
  builtin = false;
  overflow = [];
  refused = λ p. PieceReadRefused 1;
}

-- a length below 256 has its byte
pub byte_encoding : (n : ℕ) → n < 256 → byte_scheme.encoding n ≡ Some (n ∷ [])
byte_encoding n small = ap (λ b. cond b (Some (n ∷ [])) None) (lt-ltb n 256 small)

-- what has an encoding is below 256, and the encoding is its byte
pub byte_of : (n : ℕ) (b : List ℕ) → byte_scheme.encoding n ≡ Some b → (n < 256) × (b ≡ n ∷ [])
byte_of n b e = let s = cond_some (nat_lt n 256) (n ∷ []) b e in (ltb-true n 256 s.0, sym s.1)

pub byte_scheme_laws : SchemeLaws byte_scheme
byte_scheme_laws = record {
  admitted = λ n p small. (n ∷ [], byte_encoding n small);
  one_length = λ a b x y m n s t e.
      let p = byte_of m a s in
      let q = byte_of n b t in
      let same : m ∷ x ≡ n ∷ y = ap (λ l. l ++ x) (sym p.1) ∙ e ∙ ap (λ l. l ++ y) q.1 in
      let first : m ≡ n = cc in
      (p.1 ∙ ap (λ k. k ∷ []) first ∙ sym q.1, first);
}

-- the byte of a length reads as it
pub byte_length : (p n : ℕ) (b : List ℕ) → n < 256 → b ≡ n ∷ [] → IsLength byte_scheme p b n
byte_length p n b small e = (small, byte_encoding n small ∙ ap Some (sym e))

pub length_byte : (p n : ℕ) (b : List ℕ) → IsLength byte_scheme p b n → length b ≡ 1
length_byte p n b l = ap length (byte_of n b l.1).1

-- one byte is the list of its first
pub one_byte : (b : List ℕ) → length b ≡ 1 → b ≡ get_or b 0 0 ∷ []
one_byte [] e = absurd (omega arith)
one_byte (x ∷ []) e = refl
one_byte (x ∷ y ∷ b) e = absurd (omega arith)
