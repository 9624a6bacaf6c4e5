-- Reading one of the cases of two parts.
use Rattle.std.proofs.Common.{◌≡◌, sym, subst, ℕ, ◌<◌, ◌≤◌, ◌&&◌, List, max, arith, inl, inr, Result, Ok, Err}
use Rattle.wincode_io.specs.Readers.{ReaderState}
use Rattle.wincode_base.specs.Grammar.{ReadGrammar, ReadRefusal}
use Rattle.wincode_base.specs.Outcomes.{Gives, SchemaReadRefused}
use Rattle.wincode_base.specs.PairLaws.{le_max_left, le_max_right, both_left, both_right}
use Rattle.wincode_base.specs.Sequences.{gives_map, refuses_map}
use Rattle.wincode_base.specs.Tags.{sides_tag, IsSidePart, sides_read}
use Rattle.wincode_base.specs.declared.error.ReadError.{ReadError}
use Rattle.wincode_derive_support.specs.Sums.{CaseReads, case_read}
use Rattle.wincode_derive_support.specs.Splits.{split_own, SplitReadRefused}
use Rattle.wincode_derive_support.proofs.Cases.{wider}

none_below : (a n t : ℕ) → a ≡ t → t < n → n ≤ a → ⊥
none_below a n t e s u = omega arith

module _ {V W : Type 0} (n : ℕ) (tag : V → ℕ) (own : V → Type 0) (tag' : W → ℕ) (own' : W → Type 0) (g : ReadGrammar V) (h : ReadGrammar W)
    (first others : ℕ → ReadRefusal) (t : ℕ) (old new : ReaderState) where
  abbrev Whole : List ℕ → Result V W → Type 0
  Whole = CaseReads (sides_tag tag tag') (split_own n tag own tag' own') (IsSidePart g.reads h.reads) t

  abbrev whole : ReadGrammar (Result V W)
  whole = case_read (sides_tag tag tag') (split_own n tag own tag' own') (sides_read g h) (SplitReadRefused n first others) t

  pub below_gives : (v : V) → t < n → Gives (CaseReads tag own g.reads t) old new v → Gives Whole old new (Ok v)
  below_gives v s r = gives_map (CaseReads tag own g.reads t) Whole old new v (Ok v) (λ b r. (r.0, (r.1, subst (λ a. a < n) (sym r.0) s), r.2)) r

  pub above_gives : (w : W) → n ≤ t → Gives (CaseReads tag' own' h.reads t) old new w → Gives Whole old new (Err w)
  above_gives w s r = gives_map (CaseReads tag' own' h.reads t) Whole old new w (Err w) (λ b r. (r.0, (r.1, subst (λ a. n ≤ a) (sym r.0) s), r.2)) r

  of_below : t < n → (b : List ℕ) (u : Result V W) → Whole b u → (v : V) × CaseReads tag own g.reads t b v
  of_below s b (Ok v) r = (v, (r.0, r.1.0, r.2))
  of_below s b (Err w) r = absurd (none_below (tag' w) n t r.0 s r.1.1)

  of_above : n ≤ t → (b : List ℕ) (u : Result V W) → Whole b u → (w : W) × CaseReads tag' own' h.reads t b w
  of_above s b (Ok v) r = absurd (none_below t n (tag v) (sym r.0) r.1.1 s)
  of_above s b (Err w) r = (w, (r.0, r.1.0, r.2))

  pub below_refused : (e : ReadError) → t < n → SchemaReadRefused (case_read tag own g first t) old new e → SchemaReadRefused whole old new e
  below_refused e s r = (
    refuses_map (CaseReads tag own g.reads t) Whole (max g.borrow h.borrow) (g.takes_no_memory && h.takes_no_memory) old new e (of_below s)
        (wider (CaseReads tag own g.reads t) g.borrow (max g.borrow h.borrow) g.takes_no_memory (g.takes_no_memory && h.takes_no_memory) old new e
        (le_max_left g.borrow h.borrow) (both_left g.takes_no_memory h.takes_no_memory) r.0),
    inl (s, r.1),
  )

  pub above_refused : (e : ReadError) → n ≤ t → SchemaReadRefused (case_read tag' own' h others t) old new e → SchemaReadRefused whole old new e
  above_refused e s r = (
    refuses_map (CaseReads tag' own' h.reads t) Whole (max g.borrow h.borrow) (g.takes_no_memory && h.takes_no_memory) old new e (of_above s)
        (wider (CaseReads tag' own' h.reads t) h.borrow (max g.borrow h.borrow) h.takes_no_memory (g.takes_no_memory && h.takes_no_memory) old new e
        (le_max_right g.borrow h.borrow) (both_right g.takes_no_memory h.takes_no_memory) r.0),
    inr (s, r.1),
  )
