-- What is made of parts: what reading it answers, by what reading the parts does.
use Rattle.std.proofs.Common.{◌≡◌, ◌∙◌, sym, refl, ℕ, List, Result, Ok, Err, inl, inr}
use Rattle.std.specs.Prelude.{IfErr, IfOk}
use Rattle.wincode_io.specs.Joins.{IsUnambiguous}
use Rattle.wincode_io.specs.Readers.{ReaderState, IsSound}
use Rattle.wincode_base.specs.Grammar.{ReadGrammar}
use Rattle.wincode_base.specs.Made.{MakeNothing, made_read}
use Rattle.wincode_base.specs.Outcomes.{Gives, Accepts, ReadDue, ReadTells, SchemaReadRefused, GetOutcome}
use Rattle.wincode_base.specs.Sequences.{refuses_map}
use Rattle.wincode_base.specs.declared.error.ReadError.{ReadError}
use Rattle.wincode_base.specs.declared.error.ReadError.TheVariants as reading

module _ {X V : Type 0} (see : X → V) (made : X → X → Type 0) (text : List ℕ) (g : ReadGrammar V) where
  nothing_due : (old new : ReaderState) (p : X) (e : ReadError) → MakeNothing see made text p e
      → (((r q : X) → see r ≡ see p → made r q → ⊥) → Accepts (made_read see made text g).reads old → ⊥)
      → ReadDue (Accepts (made_read see made text g).reads old) g.borrow g.takes_no_memory new e
  nothing_due old new p (reading.Custom t) n h = h n.1
  nothing_due old new p _ n h = absurd n

nothing_tells : {X V : Type 0} (see : X → V) (made : X → X → Type 0) (text : List ℕ) (old new : ReaderState) (p : X) (e : ReadError)
    → MakeNothing see made text p e → IsSound old new → ReadTells old new e
nothing_tells see made text old new p (reading.Custom t) n sound = sound
nothing_tells see made text old new p _ n sound = absurd n

module _ {X V : Type 0} (see : X → V) (made : X → X → Type 0) (text : List ℕ) (g : ReadGrammar V) {old new : ReaderState} where
  -- parts p were read that make what has the parts q
  pub made_gives : (p q : X) → Gives g.reads old new (see p) → made p q → Gives (made_read see made text g).reads old new (see q)
  made_gives p q r m = record {
    kept = r.kept;
    sound = r.sound;
    found = λ t. let f = r.found t in record { encoding = f.encoding; is_read = (p, q, f.is_read, m, refl); joins = f.joins };
    place = r.place;
  }

  -- the parts were refused
  pub parts_refused : (e : ReadError) → SchemaReadRefused g old new e → SchemaReadRefused (made_read see made text g) old new e
  parts_refused e r =
      (refuses_map g.reads (made_read see made text g).reads g.borrow g.takes_no_memory old new e (λ b w t. (see t.0, t.2)) r.0, inl r)

  no_front : IsUnambiguous g.reads → (p : X) → Gives g.reads old new (see p) → ((r q : X) → see r ≡ see p → made r q → ⊥)
      → Accepts (made_read see made text g).reads old → ⊥
  no_front one p r none a =
      let f = a.front.found in
      let k = r.found a.is_known in
      let same = one f.encoding k.encoding a.front.rest new.rest (see f.is_read.0) (see p) f.is_read.2 k.is_read (sym f.joins ∙ k.joins) in
      none f.is_read.0 f.is_read.1 same.1 f.is_read.3

  -- parts were read that make nothing
  pub nothing_made : IsUnambiguous g.reads → (p : X) → Gives g.reads old new (see p) → (e : ReadError) → MakeNothing see made text p e
      → SchemaReadRefused (made_read see made text g) old new e
  nothing_made one p r e n = (
    record {
      kept = r.kept;
      left = λ t. let f = r.found t in record { front = f.encoding; joins = f.joins };
      place = r.place;
      device = nothing_tells see made text old new p e n r.sound;
      due = nothing_due see made text g old new p e n (no_front one p r);
    },
    inr (p, r, n),
  )

  -- what making answers, once the parts were read
  pub make_outcome : {D : Type 0} (parts : D → X) → IsUnambiguous g.reads → (p : X) → Gives g.reads old new (see p) → (r : Result D ReadError)
      → IfOk r (λ d. made p (parts d)) → IfErr r (MakeNothing see made text p)
      → GetOutcome (made_read see made text g) (λ d. see (parts d)) old new r
  make_outcome parts one p r (Ok d) m n = record { ok = made_gives p (parts d) r m; refused = tt }
  make_outcome parts one p r (Err e) m n = let k = nothing_made one p r e n in record { ok = tt; refused = k }
