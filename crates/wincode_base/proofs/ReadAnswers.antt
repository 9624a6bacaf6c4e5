-- What reads answer, made of what they answer in parts.
use Rattle.std.proofs.Common.{◌≡◌, ℕ, ◌*◌, Bool, false, List, map, sym, subst, Option, Result, Ok, Err}
use Rattle.std.specs.Prelude.{OnOk, OnErr, IfErr}
use Rattle.std.specs.Result.{IsErr, IsErrAnd}
use Rattle.wincode_io.specs.Joins.{AreItems}
use Rattle.wincode_io.specs.Readers.{ReaderState}
use Rattle.wincode_base.specs.Grammar.{ReadGrammar}
use Rattle.wincode_base.specs.AsForms.{BulkReadRefused}
use Rattle.wincode_base.specs.Lists.{AddOutcome, AreThere}
use Rattle.wincode_base.proofs.Items.{bulk_exact}
use Rattle.wincode_base.specs.Outcomes.{Gives, Adds, ReadRefused, SchemaReadRefused, ReadOutcome, GetOutcome, MakeOutcome}
use Rattle.wincode_base.specs.declared.error.ReadError.{ReadError}
use Rattle.wincode_base.specs.declared.meta.TypeMeta.TheVariants.{Static, Dynamic}

-- an error that a `?` passes on
abbrev pub IsPassed : {T E : Type 0} → Result T E → E → Type 0
IsPassed r e = IsErr r × IsErrAnd r (λ x. x ≡ e)

-- an error that a `?` passes on, of which this holds
pub if_passed : {A E : Type 0} (P : E → Type 0) (r : Result A E) (e : E) → IsPassed r e → P e → IfErr r P
if_passed P (Ok x) e h p = tt
if_passed P (Err x) e h p = subst P (sym h.1) p

-- what has one size is not of any size
pub is_sized : {P : Type 0} {s : ℕ} {z : Bool} → Static s z ≡ Dynamic → P
is_sized h = absurd (cc h)

module _ {A V D : Type 0} (g : ReadGrammar V) (model : D → V) {old new : ReaderState} (before after : Option D) where
  pub read_refused : (r : Result A ReadError) (e : ReadError) → IsPassed r e → after ≡ before → SchemaReadRefused g old new e
      → ReadOutcome g model old new before after r
  read_refused (Ok x) e h same d = absurd h.1
  read_refused (Err x) e h same d = let P : ReadError → Type 0 = SchemaReadRefused g old new in let k = subst P (sym h.1) d in
      record { ok = tt; refused = k; same = same }

module _ {V D : Type 0} (g : ReadGrammar V) (model : D → V) {old new : ReaderState} where
  pub get_refused : (r : Result D ReadError) (e : ReadError) → IsPassed r e → SchemaReadRefused g old new e → GetOutcome g model old new r
  get_refused (Ok x) e h d = absurd h.1
  get_refused (Err x) e h d = let P : ReadError → Type 0 = SchemaReadRefused g old new in let k = subst P (sym h.1) d in
      record { ok = tt; refused = k }

  -- what one call answers, another does of the same
  pub get_map : {W : Type 0} {start mid : ReaderState} (h : ReadGrammar W) (by : D → W) (r : Result D ReadError)
      → ((d : D) → Gives g.reads old new (model d) → Gives h.reads start mid (by d))
      → ((e : ReadError) → SchemaReadRefused g old new e → SchemaReadRefused h start mid e) → GetOutcome g model old new r → GetOutcome h by start mid r
  get_map h by (Ok x) m n o = record { ok = m x o.ok; refused = tt }
  get_map h by (Err e) m n o = let k = n e o.refused in record { ok = tt; refused = k }

module _ {C V D : Type 0} (g : ReadGrammar (List V)) (model : D → V) (made : List D → C → Type 0) {old new : ReaderState} where
  pub make_refused : (r : Result C ReadError) (e : ReadError) → IsPassed r e → SchemaReadRefused g old new e → MakeOutcome g model made old new r
  make_refused (Ok x) e h d = absurd h.1
  make_refused (Err x) e h d = let P : ReadError → Type 0 = SchemaReadRefused g old new in let k = subst P (sym h.1) d in
      record { ok = tt; refused = k }

  pub make_map : {mid start : ReaderState} (h : ReadGrammar (List V)) (r : Result C ReadError)
      → ((vs : List V) → Gives g.reads old new vs → Gives h.reads start mid vs)
      → ((e : ReadError) → SchemaReadRefused g old new e → SchemaReadRefused h start mid e) → MakeOutcome g model made old new r
      → MakeOutcome h model made start mid r
  make_map h (Ok x) m n o = let k = o.ok in record { ok = (k.0, m (map model k.0) k.1, k.2); refused = tt }
  make_map h (Err e) m n o = let k = n e o.refused in record { ok = tt; refused = k }

-- many at once, of one size each
pub add_at_once : {A V D : Type 0} (n : ℕ) (g : ReadGrammar V) (model : D → V) {old new : ReaderState} (before after : List D) (r : Result A ReadError)
    (k : ℕ) (z : Bool) → g.meta ≡ Static k z → OnOk r (Adds n g.reads model old new before after) → IfErr r (ReadRefused (AreItems n g.reads) g.borrow false old new)
    → IfErr r (BulkReadRefused (n * k) old new) → OnErr r (after ≡ before) → AddOutcome n g model old new before after r
add_at_once n g model before after (Ok x) k z is a u b s = record { ok = a; refused = tt; same = tt }
add_at_once n g model {old} {new} before after (Err e) k z is a u b s =
    record { ok = tt; refused = (u, λ there. bulk_exact n g (n * k) old new e b (subst (λ m. AreThere n m old) is there)); same = s }
