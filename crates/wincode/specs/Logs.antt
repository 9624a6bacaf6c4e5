-- A log that was cut off: which of its values are whole, and where the last whole one ends.
use Rattle.std.proofs.Common.{◌≡◌, ◌∙◌, sym, ap, subst, ℕ, List, [], ◌∷◌, ◌++◌, length, refl, arith, append_assoc, length-append, inl, inr}
use Rattle.std.specs.Prelude.{◌⊎◌, ◌+◌, ◌<◌, ◌^◌, IsTrue}
use Rattle.std.specs.Prelude.{Bool, true, false}
use Rattle.wincode_io.specs.Readers.{ReaderState}
use Rattle.wincode_io.specs.declared.error.ReadError.TheVariants as reader
use Rattle.wincode_base.specs.declared.error.ReadError.{ReadError}
use Rattle.wincode_base.specs.declared.error.ReadError.TheVariants as reading
use Rattle.wincode_base.specs.declared.meta.TypeMeta.{TypeMeta}
use Rattle.wincode_base.specs.Outcomes.{ReadTells}
use Rattle.wincode_io.specs.Joins.{IsUnambiguous, Joined}
use Rattle.wincode.specs.Messages.{HasNoBytes, NothingToRead}
use Rattle.wincode_io.specs.JoinLaws.{cancel}

-- The whole values in front of the bytes, and the rest, in front of which no value stands.
pub record WholeFront {V : Type 0} (reads : List ℕ → V → Type 0) (bytes : List ℕ) (vs : List V) (rest : List ℕ) : Type 0 where
  pub front : List ℕ
  pub joined : Joined reads vs front
  pub joins : bytes ≡ front ++ rest
  pub ended : (a t : List ℕ) (v : V) → reads a v → rest ≡ a ++ t → ⊥

-- of the values of a log the first are whole in these bytes, and no other
pub record Cut {V : Type 0} (reads : List ℕ → V → Type 0) (vs : List V) (bytes : List ℕ) : Type 0 where
  pub done : List V
  pub left : List V
  pub parts : vs ≡ done ++ left
  pub rest : List ℕ
  pub whole : WholeFront reads bytes done rest

-- So many of the bytes are whole values, one after another, and no value stands in front of the rest. Of any log of which these
-- bytes are a beginning, its first values are these.
pub record WholePart {V : Type 0} (reads : List ℕ → V → Type 0) (bytes : List ℕ) (n : ℕ) : Type 0 where
  pub values : List V
  pub rest : List ℕ
  pub whole : WholeFront reads bytes values rest
  pub size : n ≡ length whole.front
  pub of_log : (vs : List V) (all lost : List ℕ) → Joined reads vs all → all ≡ bytes ++ lost → (left : List V) × (vs ≡ values ++ left)

-- So of what a reader has behind so many bytes, where its bytes are known, all of them as many as there can be at the
-- most, and no encoding is empty.
abbrev pub IsWholePart : {V : Type 0} → (List ℕ → V → Type 0) → ℕ → ReaderState → ℕ → Type 0
IsWholePart {V} reads position s n = IsTrue s.is_known → position + length s.rest < 2 ^ 64 → ((v : V) → reads [] v → ⊥) → WholePart reads s.rest n

-- an error that says that no value is in front
abbrev pub says_none : ReadError → Bool
says_none (reading.Io (reader.ReadSizeLimit n)) = true
says_none (reading.Io e) = false
says_none reading.OutOfMemory = false
says_none e = true

-- Why the whole part was not found: the source failed, as is told; memory was refused, or there are more than `u64::MAX`
-- values; or the values have no bytes.
abbrev pub WholeRefused : TypeMeta → ReaderState → ReaderState → ReadError → Type 0
WholeRefused m old new e = ReadTells old new e
    × ((HasNoBytes m × (new ≡ old) × NothingToRead e) ⊎ ((HasNoBytes m → ⊥) × (says_none e ≡ false)))

-- of two beginnings of one text one begins the other
align : (a b x y : List ℕ) → a ++ x ≡ b ++ y → ((z : List ℕ) × (b ≡ a ++ z) × (x ≡ z ++ y)) ⊎ ((c : ℕ) × (z : List ℕ) × (a ≡ b ++ (c ∷ z)))
align [] b x y e = inl (b, refl, e)
align (c ∷ a) [] x y e = inr (c, a, refl)
align (c ∷ a) (d ∷ b) x y e =
    let head : c ≡ d = cc in
    let tail : a ++ x ≡ b ++ y = cc in
    elim (align a b x y tail) [
      | inl p ↦ inl (p.0, ap (λ l. d ∷ l) p.1 ∙ ap (λ k. k ∷ (a ++ p.0)) (sym head), p.2)
      | inr p ↦ inr (p.0, p.1, ap (λ l. c ∷ l) p.2 ∙ ap (λ k. k ∷ (b ++ (p.0 ∷ p.1))) head)
    ]

-- what an empty list begins with is empty
pub nil_front : (b l : List ℕ) → [] ≡ b ++ l → b ≡ []
nil_front [] l e = refl
nil_front (x ∷ b) l e = absurd (omega (arith, ap length e))

module _ {V : Type 0} (reads : List ℕ → V → Type 0) (one : IsUnambiguous reads) (some : (v : V) → reads [] v → ⊥) where
  none_whole : (x bytes lost y : List ℕ) (c : ℕ) (z : List ℕ) (v : V) → reads x v → x ++ y ≡ bytes ++ lost → x ≡ bytes ++ (c ∷ z) → (a t : List ℕ) (w : V) → reads a w → bytes ≡ a ++ t → ⊥
  none_whole x bytes lost y c z v r e long a t w ra q =
      let both : x ++ y ≡ a ++ (t ++ lost) = e ∙ (ap (λ l. l ++ lost) q ∙ append_assoc a t lost) in
      let same = one x a y (t ++ lost) v w r ra both in
      let m = ap length same.0 in
      let n = ap length q in
      let k = ap length long in
      omega (arith, m, n, k, length-append a t, length-append bytes (c ∷ z))

  -- Of any front of a log, exactly the whole values in it are in front, and the place behind the last of them is known.
  pub cut : (vs : List V) (all bytes lost : List ℕ) → Joined reads vs all → all ≡ bytes ++ lost → Cut reads vs bytes
  cut [] all bytes lost j e =
      let none = nil_front bytes lost (sym j ∙ e) in
      record { done = []; left = []; parts = refl; rest = []; whole = record { front = []; joined = refl; joins = none; ended = λ a t v r q. some v (subst (λ b. reads b v) (nil_front a t q) r) } }
  cut (v ∷ vs) all bytes lost j e =
      let both : j.0 ++ j.1 ≡ bytes ++ lost = sym j.4 ∙ e in
      elim (align j.0 bytes j.1 lost both) [
        | inl p ↦ let c = cut vs j.1 p.0 lost j.3 p.2 in record {
          done = v ∷ c.done;
          left = c.left;
          parts = ap (λ l. v ∷ l) c.parts;
          rest = c.rest;
          whole = record {
            front = j.0 ++ c.whole.front;
            joined = (j.0, c.whole.front, j.2, c.whole.joined, refl);
            joins = p.1 ∙ (ap (λ l. j.0 ++ l) c.whole.joins ∙ sym (append_assoc j.0 c.whole.front c.rest));
            ended = c.whole.ended;
          };
        }
        | inr p ↦ record {
          done = [];
          left = v ∷ vs;
          parts = refl;
          rest = bytes;
          whole = record { front = []; joined = refl; joins = refl; ended = none_whole j.0 bytes lost j.1 p.0 p.1 v j.2 both p.2 };
        }
      ]

  -- there is one answer
  pub whole_one : (vs ws : List V) (bytes r s : List ℕ) → WholeFront reads bytes vs r → WholeFront reads bytes ws s → (vs ≡ ws) × (r ≡ s)
  whole_one [] [] bytes r s p q =
      let e : bytes ≡ r = p.joins ∙ ap (λ l. l ++ r) p.joined in
      let f : bytes ≡ s = q.joins ∙ ap (λ l. l ++ s) q.joined in
      (refl, sym e ∙ f)
  whole_one [] (w ∷ ws) bytes r s p q =
      let j = q.joined in
      let e : bytes ≡ r = p.joins ∙ ap (λ l. l ++ r) p.joined in
      absurd (p.ended j.0 (j.1 ++ s) w j.2 (sym e ∙ (q.joins ∙ (ap (λ l. l ++ s) j.4 ∙ append_assoc j.0 j.1 s))))
  whole_one (v ∷ vs) [] bytes r s p q =
      let j = p.joined in
      let e : bytes ≡ s = q.joins ∙ ap (λ l. l ++ s) q.joined in
      absurd (q.ended j.0 (j.1 ++ r) v j.2 (sym e ∙ (p.joins ∙ (ap (λ l. l ++ r) j.4 ∙ append_assoc j.0 j.1 r))))
  whole_one (v ∷ vs) (w ∷ ws) bytes r s p q =
      let j = p.joined in
      let k = q.joined in
      let e : bytes ≡ j.0 ++ (j.1 ++ r) = p.joins ∙ (ap (λ l. l ++ r) j.4 ∙ append_assoc j.0 j.1 r) in
      let f : bytes ≡ k.0 ++ (k.1 ++ s) = q.joins ∙ (ap (λ l. l ++ s) k.4 ∙ append_assoc k.0 k.1 s) in
      let same = one j.0 k.0 (j.1 ++ r) (k.1 ++ s) v w j.2 k.2 (sym e ∙ f) in
      let after = cancel j.0 (j.1 ++ r) (k.1 ++ s) ((sym e ∙ f) ∙ ap (λ l. l ++ (k.1 ++ s)) (sym same.0)) in
      let rest = whole_one vs ws (j.1 ++ r) r s (record { front = j.1; joined = j.3; joins = refl; ended = p.ended }) (record { front = k.1; joined = k.3; joins = after; ended = q.ended }) in
      (ap (λ u. u ∷ vs) same.1 ∙ ap (λ us. w ∷ us) rest.0, rest.1)
