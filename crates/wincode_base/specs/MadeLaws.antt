-- The laws of what is made of parts, from those of the parts.
use Rattle.std.proofs.Common.{◌≡◌, ◌∙◌, sym, ap, subst, ℕ, ◌+◌, ◌-◌, ◌*◌, ◌/◌, ◌%◌, ◌<◌, List, [], ◌∷◌, length, refl, arith, suc, zero}
use Rattle.std.specs.Net.Addr.{octets_of, segments_of}
use Rattle.wincode_io.specs.Bytes.{IsBytes}
use Rattle.std.specs.Prelude.{to_bits, from_bits}
use lib.Ieee.{Format}
use Rattle.wincode_io.specs.Joins.{IsUnambiguous}
use Rattle.wincode_base.specs.Grammar.{ReadGrammar, WriteGrammar, ReadLaws, WriteLaws, ReadsBack, IsReadStatic, IsWriteStatic}
use Rattle.wincode_base.specs.Made.{IsMadeOnce, IsMadeOf, made_read, IsNot, AreBits, AreTime, IsSame, time_parts}
use Rattle.wincode_base.specs.Strings.{reference_meta, reference_write}
use Rattle.wincode_base.specs.declared.meta.TypeMeta.{TypeMeta}
use Rattle.wincode_base.specs.declared.meta.TypeMeta.TheVariants.{Static, Dynamic}

module _ {X V : Type 0} (see : X → V) (made : X → X → Type 0) (text : List ℕ) (g : ReadGrammar V) where
  made_one : IsMadeOnce see made → IsUnambiguous g.reads → IsUnambiguous (made_read see made text g).reads
  made_one once one a b x y v w p q e =
      let same = one a b x y (see p.0) (see q.0) p.2 q.2 e in
      (same.0, sym p.4 ∙ once p.0 p.1 q.0 q.1 same.1 p.3 q.3 ∙ q.4)

  made_static : (m : TypeMeta) → IsReadStatic g.reads m → IsReadStatic (made_read see made text g).reads (reference_meta m)
  made_static Dynamic h = tt
  made_static (Static s z) h = (λ b w r. h.0 b (see r.0) r.2, λ t. absurd (cc t))

  pub made_read_laws : {is_valid : V → Type 0} → IsMadeOnce see made → ReadLaws is_valid g
      → ReadLaws (IsMadeOf see made is_valid) (made_read see made text g)
  made_read_laws once l = record {
    one_front = made_one once l.one_front;
    reads_valid = λ b w r. (r.0, r.1, l.reads_valid b (see r.0) r.2, r.3, r.4);
    statics = made_static g.meta l.statics;
    prealloc = l.prealloc;
  }

-- `parts` are the parts of a value, of which `sound` holds
sound_static : {X Y V : Type 0} (sound : Y → Type 0) (is_valid : X → Type 0) (model : X → V) (parts : Y → X) (can : V → Type 0) (size : V → ℕ) (m : TypeMeta)
    → IsWriteStatic is_valid model can size m
    → IsWriteStatic (λ y. sound y × is_valid (parts y)) (λ y. model (parts y)) can size (reference_meta m)
sound_static sound is_valid model parts can size Dynamic h = tt
sound_static sound is_valid model parts can size (Static s z) h = (λ y p. h.0 (parts y) p.1, h.1)

pub made_write_laws : {X Y V : Type 0} (sound : Y → Type 0) {is_valid : X → Type 0} {model : X → V} (parts : Y → X) {g : WriteGrammar V}
    → WriteLaws is_valid model g → WriteLaws (λ y. sound y × is_valid (parts y)) (λ y. model (parts y)) (reference_write g)
made_write_laws sound {is_valid = is_valid} {model = model} parts {g = g} l = record {
  has_encoding = l.has_encoding;
  encoding_can = l.encoding_can;
  encoding_size = l.encoding_size;
  can_fit = l.can_fit;
  statics = sound_static sound is_valid model parts g.can g.size g.meta l.statics;
}

-- a value reads back that is made of its own parts, where what is read is within the limits of writing
pub made_reads_back : {X Y V : Type 0} (see : X → V) (made : X → X → Type 0) (text : List ℕ) (parts : Y → X) {is_valid : X → Type 0} {w : WriteGrammar V}
    {r : ReadGrammar V} → ((b : List ℕ) (p q : X) → r.reads b (see p) → made p q → w.fits (see q)) → ReadsBack is_valid see w see r
    → ReadsBack (λ y. made (parts y) (parts y) × is_valid (parts y)) (λ y. see (parts y)) (reference_write w) (λ y. see (parts y))
    (made_read see made text r)
made_reads_back see made text parts {w = w} fit l = record {
  back = λ y b c t f. (parts y, parts y, l.back (parts y) b c.1 t f, c.0, refl);
  within = λ b y r. subst w.fits r.4 (fit b r.0 r.1 r.2 r.3);
  same_prealloc = l.same_prealloc;
  same_meta = ap reference_meta l.same_meta;
}

-- so what makes itself
pub same_reads_back : {X Y V : Type 0} (see : X → V) (text : List ℕ) (parts : Y → X) {is_valid : X → Type 0} {w : WriteGrammar V} {r : ReadGrammar V}
    → ReadsBack is_valid see w see r
    → ReadsBack (λ y. IsSame (parts y) (parts y) × is_valid (parts y)) (λ y. see (parts y)) (reference_write w) (λ y. see (parts y))
    (made_read see IsSame text r)
same_reads_back see text parts {w = w} l = made_reads_back see IsSame text parts {w = w} (λ b p q t m. subst (λ x. w.fits (see x)) (sym m) (l.within b p t)) l

pub one_number : {X V : Type 0} (see : X → V) (none : X) → IsMadeOnce see (IsNot none)
one_number see none p q r s e h k = ap see h.0 ∙ e ∙ sym (ap see k.0)

pub one_float : (f : Format) → IsMadeOnce (λ v. v) (AreBits f)
one_float f p q r s e h k = h ∙ ap (λ v. to_bits f (from_bits f v)) e ∙ sym k

pub one_time : (limit : ℕ) → IsMadeOnce (λ v. v) (AreTime limit)
one_time limit p q r s e h k = h.0 ∙ ap (λ v. time_parts (v.0 * 1_000_000_000 + v.1)) e ∙ sym k.0

pub one_same : {X V : Type 0} (see : X → V) → IsMadeOnce see IsSame
one_same see p q r s e h k = ap see h ∙ e ∙ sym (ap see k)

-- ---- the octets of an address

high : (a b : ℕ) → b < 256 → (a * 256 + b) / 256 ≡ a
high a b h = omega (arith, h)

low : (a b : ℕ) → b < 256 → (a * 256 + b) % 256 ≡ b
low a b h = omega (arith, h)

-- segments of an even number of octets have these octets
pub octets_back : (n : ℕ) (xs : List ℕ) → IsBytes xs → length xs ≡ 2 * n → octets_of (segments_of xs) ≡ xs
octets_back n [] h e = refl
octets_back n (a ∷ []) h e = absurd (omega (arith, e))
octets_back n (a ∷ b ∷ xs) h e =
    let small : b < 256 = h (suc zero) 0 (omega arith) in
    let rest : octets_of (segments_of xs) ≡ xs = octets_back (n - 1) xs (λ k d less. h (suc (suc k)) d (omega (arith, less))) (omega (arith, e)) in
    ap (λ t. t ∷ (a * 256 + b) % 256 ∷ octets_of (segments_of xs)) (high a b small) ∙ ap (λ t. a ∷ t ∷ octets_of (segments_of xs)) (low a b small)
    ∙ ap (λ t. a ∷ b ∷ t) rest
