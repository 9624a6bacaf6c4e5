-- The laws of length schemes.
use Rattle.std.proofs.Common.{◌≡◌, sym, ap, ℕ, ◌<◌, ◌^◌, List, length, true, Some, None, cond, nat_lt}
use Rattle.std.proofs.lemmas.Bool.{lt-ltb, ltb-true}
use Rattle.std.proofs.lemmas.Option.{cond_some}
use Rattle.wincode_io.specs.Numbers.{le}
use Rattle.wincode_base.specs.Lengths.{Scheme, SchemeLaws, bincode, IsLength, length_write, encoding_len}
use Rattle.wincode_base.specs.LeafLaws.{number_one}
use Rattle.wincode_base.specs.Grammar.{WriteLaws}
use Rattle.wincode_io.specs.Joins.{IsUnambiguous}

pub bincode_encoding : (limit n : ℕ) → n < 2 ^ 64 → (bincode limit).encoding n ≡ Some (le 8 n)
bincode_encoding limit n l = ap (λ b. cond b (Some (le 8 n)) None) (lt-ltb n (2 ^ 64) l)

pub bincode_encoding_is : (limit n : ℕ) (a : List ℕ) → (bincode limit).encoding n ≡ Some a → (n < 2 ^ 64) × (a ≡ le 8 n)
bincode_encoding_is limit n a e = let h = cond_some (nat_lt n (2 ^ 64)) (le 8 n) a e in (ltb-true n (2 ^ 64) h.0, sym h.1)

pub bincode_laws : (limit : ℕ) → SchemeLaws (bincode limit)
bincode_laws limit = record {
  admitted = λ n p h. (le 8 n, bincode_encoding limit n h.0);
  one_length = λ a b x y m n p q e. let f = bincode_encoding_is limit m a p in let g = bincode_encoding_is limit n b q in
      number_one 8 true a b x y m n (f.0, f.1) (g.0, g.1) e;
}

-- a length that is read is the only one
pub length_one : (s : Scheme) → SchemeLaws s → (p : ℕ) → IsUnambiguous (IsLength s p)
length_one s laws p a b x y m n q r e = laws.one_length a b x y m n q.1 r.1 e

pub encoding_of_len : (s : Scheme) (n : ℕ) (x : List ℕ) → s.encoding n ≡ Some x → length x ≡ encoding_len (s.encoding n)
encoding_of_len s n x e = sym (ap encoding_len e)

pub length_write_laws : (s : Scheme) → WriteLaws (λ n. Unit {0}) (λ n. n) (length_write s)
length_write_laws s = record {
  has_encoding = λ n c. c;
  encoding_can = λ n b w. (b, w);
  encoding_size = λ n b w. encoding_of_len s n b w;
  can_fit = λ n f. f;
  statics = tt;
}
