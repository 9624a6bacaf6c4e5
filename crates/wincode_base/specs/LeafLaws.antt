-- The laws of leaves.
use Rattle.std.proofs.Common.{◌≡◌, ◌∙◌, sym, ap, subst, ℕ, ◌<◌, ◌≤◌, ◌^◌, Bool, true, false, List, [], ◌∷◌, ◌++◌, length, refl, arith}
use Rattle.wincode_io.specs.Bytes.{IsBytes}
use Rattle.wincode_io.specs.Numbers.{le, worth}
use Rattle.wincode_io.specs.NumberLaws.{length-le, worth-le, le-worth, worth_below}
use Rattle.wincode_base.specs.Grammar.{ReadLaws, WriteLaws, ReadsBack}
use Rattle.wincode_base.specs.Leaves.{number_read, number_write, signed_read, signed_write, bool_byte, bool_read, bool_write, unit_read, unit_write}
use Rattle.std.specs.Prelude.{ℤ, FitsSigned}
use Rattle.std.specs.Int.{Width, byte_len, cast_unsigned, cast_signed}
use Rattle.std.proofs.lemmas.Int.{of_z-to_z, to_z-of_z}
use Rattle.std.proofs.Math.Facts.{Fits-of_z, Fits-lt-pow}
use borrow.Author.Gap.{read_sfits}
use mir.Val.{bits}

pub same_front : (a b x y : List ℕ) → length a ≡ length b → a ++ x ≡ b ++ y → a ≡ b
same_front [] [] x y l e = refl
same_front [] (d ∷ b) x y l e = absurd (omega arith)
same_front (c ∷ a) [] x y l e = absurd (omega arith)
same_front (c ∷ a) (d ∷ b) x y l e =
    let h : a ++ x ≡ b ++ y = cc in
    let k : c ≡ d = cc in
    let m : length a ≡ length b = omega arith in
    let r = same_front a b x y m h in cc

pub number_one : (k : ℕ) (any : Bool) (a b x y : List ℕ) (v w : ℕ) → (number_read k any).reads a v → (number_read k any).reads b w → a ++ x ≡ b ++ y → (a ≡ b)
    × (v ≡ w)
number_one k any a b x y v w p q e =
    let size : length a ≡ length b = ap length p.1 ∙ length-le k v ∙ sym (ap length q.1 ∙ length-le k w) in
    let same = same_front a b x y size e in
    (same, sym (worth-le k v p.0) ∙ ap worth (sym p.1 ∙ same ∙ q.1) ∙ worth-le k w q.0)

-- every list of k bytes is a number
number_of : (k : ℕ) (b : List ℕ) → IsBytes b → length b ≡ k → (v : ℕ) × ((v < 256 ^ k) × (b ≡ le k v))
number_of k b all e =
    (worth b, (subst (λ n. worth b < 256 ^ n) e (worth_below b all), sym (le-worth b all) ∙ ap (λ n. le n (worth b)) e))

pub number_read_laws : (k : ℕ) (any : Bool) → 1 ≤ k → ReadLaws (λ v. v < 256 ^ k) (number_read k any)
number_read_laws k any some = record {
  one_front = number_one k any;
  reads_valid = λ b v r. r.0;
  statics = (λ b v r. ap length r.1 ∙ length-le k v, λ z b all e. number_of k b all e);
  prealloc = some;
}

pub number_write_laws : (k : ℕ) (any : Bool) → WriteLaws (λ v. v < 256 ^ k) (λ v. v) (number_write k any)
number_write_laws k any = record {
  has_encoding = λ v c. (le k v, refl);
  encoding_can = λ v b w. tt;
  encoding_size = λ v b w. ap length w ∙ length-le k v;
  can_fit = λ v f. f;
  statics = (λ v p. tt, λ w c. refl);
}

pub number_reads_back : (k : ℕ) (any : Bool) → ReadsBack (λ v. v < 256 ^ k) (λ v. v) (number_write k any) (λ v. v) (number_read k any)
number_reads_back k any = record {
  back = λ x b p w f. (p, w);
  within = λ b x r. tt;
  same_prealloc = refl;
  same_meta = refl;
}

-- ---- signed numbers, by the unsigned number that each stands as

module _ (w : Width) (pow : 256 ^ byte_len w ≡ 2 ^ bits w) where
  pub unsigned_below : (z : ℤ) → FitsSigned w z → cast_unsigned w z < 256 ^ byte_len w
  unsigned_below z f = subst (λ m. cast_unsigned w z < m) (sym pow) (Fits-lt-pow (Fits-of_z f))

  pub as_unsigned : (any : Bool) (b : List ℕ) (z : ℤ) → (signed_read w any).reads b z → (number_read (byte_len w) any).reads b (cast_unsigned w z)
  as_unsigned any b z r = (unsigned_below z r.0, r.1)

  signed_one : (any : Bool) (a b x y : List ℕ) (v z : ℤ) → (signed_read w any).reads a v → (signed_read w any).reads b z → a ++ x ≡ b ++ y → (a ≡ b) × (v ≡ z)
  signed_one any a b x y v z p q e =
      let one = number_one (byte_len w) any a b x y (cast_unsigned w v) (cast_unsigned w z) (as_unsigned any a v p) (as_unsigned any b z q) e in
      (one.0, sym (to_z-of_z w v p.0) ∙ ap (cast_signed w) one.1 ∙ to_z-of_z w z q.0)

  -- a number read as unsigned is one that is read as signed
  pub signed_of : (any : Bool) (b : List ℕ) (n : ℕ) → (number_read (byte_len w) any).reads b n → (signed_read w any).reads b (cast_signed w n)
  signed_of any b n r =
      let small : n < 2 ^ bits w = subst (λ m. n < m) pow r.0 in
      (read_sfits w n, r.1 ∙ ap (le (byte_len w)) (sym (of_z-to_z w n small)))

  pub signed_read_laws : (any : Bool) → 1 ≤ byte_len w → ReadLaws (FitsSigned w) (signed_read w any)
  signed_read_laws any some = record {
    one_front = signed_one any;
    reads_valid = λ b z r. r.0;
    statics = (
      λ b z r. ap length r.1 ∙ length-le (byte_len w) (cast_unsigned w z),
      λ t b all e. let n = number_of (byte_len w) b all e in
          (cast_signed w n.0, signed_of any b n.0 n.1),
    );
    prealloc = some;
  }

pub signed_write_laws : (w : Width) (any : Bool) → WriteLaws (FitsSigned w) (λ z. z) (signed_write w any)
signed_write_laws w any = record {
  has_encoding = λ z c. (le (byte_len w) (cast_unsigned w z), refl);
  encoding_can = λ z b t. tt;
  encoding_size = λ z b t. ap length t ∙ length-le (byte_len w) (cast_unsigned w z);
  can_fit = λ z f. f;
  statics = (λ z p. tt, λ w c. refl);
}

pub signed_reads_back : (w : Width) (any : Bool) → ReadsBack (FitsSigned w) (λ z. z) (signed_write w any) (λ z. z) (signed_read w any)
signed_reads_back w any = record {
  back = λ x b p t f. (p, t);
  within = λ b x r. tt;
  same_prealloc = refl;
  same_meta = refl;
}

-- ---- booleans and values without bytes

bool_same : (v w : Bool) → bool_byte v ≡ bool_byte w → v ≡ w
bool_same false false e = refl
bool_same false true e = absurd (omega arith)
bool_same true false e = absurd (omega arith)
bool_same true true e = refl

bool_one : (a b x y : List ℕ) (v w : Bool) → a ≡ bool_byte v ∷ [] → b ≡ bool_byte w ∷ [] → a ++ x ≡ b ++ y → (a ≡ b) × (v ≡ w)
bool_one a b x y v w p q e =
    let same = same_front a b x y (ap length p ∙ sym (ap length q)) e in
    let heads : bool_byte v ∷ [] ≡ bool_byte w ∷ [] = sym p ∙ same ∙ q in
    let one : bool_byte v ≡ bool_byte w = cc in
    (same, bool_same v w one)

pub bool_read_laws : ReadLaws (λ v. Unit {0}) bool_read
bool_read_laws = record {
  one_front = bool_one;
  reads_valid = λ b v r. tt;
  statics = (λ b v r. ap length r, λ z b all e. absurd (cc z));
  prealloc = omega arith;
}

pub bool_write_laws : WriteLaws (λ v. Unit {0}) (λ v. v) bool_write
bool_write_laws = record {
  has_encoding = λ v c. (bool_byte v ∷ [], refl);
  encoding_can = λ v b t. tt;
  encoding_size = λ v b t. ap length t;
  can_fit = λ v f. f;
  statics = (λ v p. tt, λ w c. refl);
}

pub bool_reads_back : ReadsBack (λ v. Unit {0}) (λ v. v) bool_write (λ v. v) bool_read
bool_reads_back = record { back = λ x b p t f. t; within = λ b x r. tt; same_prealloc = refl; same_meta = refl }

nothing_of : (b : List ℕ) → length b ≡ 0 → b ≡ []
nothing_of [] e = refl
nothing_of (c ∷ b) e = absurd (omega arith)

pub unit_read_laws : ReadLaws (λ v. Unit {0}) unit_read
unit_read_laws = record {
  one_front = λ a b x y v w p q e. (p ∙ sym q, refl);
  reads_valid = λ b v r. tt;
  statics = (λ b v r. ap length r, λ z b all e. (tt, nothing_of b e));
  prealloc = omega arith;
}

pub unit_write_laws : {X : Type 0} → WriteLaws {X = X} (λ x. Unit {0}) (λ x. tt) unit_write
unit_write_laws = record {
  has_encoding = λ v c. ([], refl);
  encoding_can = λ v b t. tt;
  encoding_size = λ v b t. ap length t;
  can_fit = λ v f. f;
  statics = (λ x p. tt, λ w c. refl);
}

pub unit_reads_back : {X : Type 0} → ReadsBack {X = X} (λ x. Unit {0}) (λ x. tt) unit_write (λ x. tt) unit_read
unit_reads_back = record { back = λ x b p t f. t; within = λ b x r. tt; same_prealloc = refl; same_meta = refl }
