-- The whole values of a log, one more at a time.
use Rattle.std.proofs.Common.{◌≡◌, ◌∙◌, sym, ap, subst, ℕ, ◌+◌, ◌-◌, ◌<◌, ◌≤◌, ◌^◌, min, Bool, true, List, [], ◌∷◌, ◌++◌, length, refl, arith, append_assoc, length-append}
use Rattle.std.proofs.Common.{IsTrue, inl, inr}
use Rattle.std.specs.Prelude.{◌⊎◌}
use Rattle.wincode_io.specs.Joins.{IsUnambiguous, Joined}
use Rattle.wincode_io.specs.JoinLaws.{joined_snoc}
use Rattle.wincode_io.specs.Readers.{ReaderState}
use Rattle.wincode_io.specs.Sources.{SourceState}
use Rattle.wincode_io.specs.Streams.{streaming}
use Rattle.wincode_io.specs.Writers.{byte_limit}
use Rattle.wincode_io.specs.declared.error.ReadError.TheVariants as reader
use Rattle.wincode_base.specs.Grammar.{ReadGrammar}
use Rattle.wincode_base.specs.Outcomes.{Front, Found, Gives, Accepts, ReadDue}
use Rattle.wincode_base.specs.declared.error.ReadError.{ReadError}
use Rattle.wincode_base.specs.declared.error.ReadError.TheVariants as reading
use Rattle.wincode.specs.Logs.{WholeFront, WholePart, cut, nil_front, whole_one, says_none}
use Rattle.wincode.specs.Messages.{NotBegun, HasMore, Begun}
use Rattle.wincode.proofs.Positions.{place_of}

-- so far some values were read, of so many bytes, and these are left
pub record SoFar {V : Type 0} (reads : List ℕ → V → Type 0) (all rest : List ℕ) (n : ℕ) : Type 0 where
  pub values : List V
  pub front : List ℕ
  pub joined : Joined reads values front
  pub joins : all ≡ front ++ rest
  pub size : n ≡ length front

pub none_yet : {V : Type 0} (reads : List ℕ → V → Type 0) (all : List ℕ) → SoFar reads all all 0
none_yet reads all = record { values = []; front = []; joined = refl; joins = refl; size = refl }

pub one_more : {V : Type 0} (reads : List ℕ → V → Type 0) (all rest left : List ℕ) (n m : ℕ) (v : V) (so : SoFar reads all rest n) (f : Found reads rest v left)
    → m ≡ n + length f.encoding → SoFar reads all left m
one_more reads all rest left n m v so f e = record {
  values = so.values ++ (v ∷ []);
  front = so.front ++ f.encoding;
  joined = joined_snoc reads so.values v so.front f.encoding so.joined f.is_read;
  joins = so.joins ∙ ap (λ r. so.front ++ r) f.joins ∙ sym (append_assoc so.front f.encoding left);
  size = omega (arith, e, so.size, length-append so.front f.encoding);
}

-- where no value is in front of what is left, these are all that are whole
pub all_whole : {V : Type 0} (reads : List ℕ → V → Type 0) → IsUnambiguous reads → ((v : V) → reads [] v → ⊥) → (all rest : List ℕ) (n : ℕ)
    → SoFar reads all rest n → (Front reads rest → ⊥) → WholePart reads all n
all_whole reads one some all rest n so none =
    let whole : WholeFront reads all so.values rest = record {
      front = so.front;
      joined = so.joined;
      joins = so.joins;
      ended = λ a t v r e. none (record { value = v; rest = t; found = record { encoding = a; is_read = r; joins = e } });
    } in
    record {
      values = so.values;
      rest = rest;
      whole = whole;
      size = so.size;
      of_log = λ vs log lost j e.
          let c = cut reads one some vs log all lost j e in
          let same = whole_one reads one some c.done so.values all c.rest rest c.whole whole in
          (c.left, c.parts ∙ ap (λ us. us ++ c.left) same.0);
    }

-- so where a stream stood at one place before and stands at another now, and what went by can be counted
pub counted_whole : {V : Type 0} (reads : List ℕ → V → Type 0) → IsUnambiguous reads → ((v : V) → reads [] v → ⊥) → (all rest : List ℕ) (start p n : ℕ)
    → SoFar reads all rest (p - start) → start ≤ p → (Front reads rest → ⊥) → start + length all < 2 ^ 64
    → n ≡ min p byte_limit - min start byte_limit → WholePart reads all n
counted_whole reads one some all rest start p n so behind none small is =
    let size = ap length so.joins ∙ length-append so.front rest in
    all_whole reads one some all rest n (record {
      values = so.values;
      front = so.front;
      joined = so.joined;
      joins = so.joins;
      size = omega (arith, is, so.size, size, small, behind);
    }) none

-- one more, that a stream gave
pub gave_one_more : {V : Type 0} (reads : List ℕ → V → Type 0) (all : List ℕ) (start p q : ℕ) (a b : List ℕ) (i j : Bool) (s t : SourceState) (v : V)
    → SoFar reads all (streaming p a i s).rest (p - start) → start ≤ p → Gives reads (streaming p a i s) (streaming q b j t) v → IsTrue s.is_known
    → SoFar reads all (streaming q b j t).rest (q - start)
gave_one_more reads all start p q a b i j s t v so behind g known =
    let found = g.found known in
    let size = ap length found.joins ∙ length-append found.encoding (streaming q b j t).rest in
    one_more reads all (streaming p a i s).rest (streaming q b j t).rest (p - start) (q - start) v so found
    (omega (arith, ap place_of (g.place known), size, behind))

-- no value stands in front of no bytes
pub none_in_front : {V : Type 0} (reads : List ℕ → V → Type 0) → ((v : V) → reads [] v → ⊥) → (bytes : List ℕ) → bytes ≡ [] → Front reads bytes → ⊥
none_in_front reads some bytes e f =
    some f.value (subst (λ b. reads b f.value) (nil_front f.found.encoding f.rest (sym e ∙ f.found.joins)) f.found.is_read)

-- an error that says so is due only where no value is in front
due_none : (accepted : Type 0) (borrow : ℕ) (takes_no_memory : Bool) (new : ReaderState) (e : ReadError) → says_none e ≡ true
    → ReadDue accepted borrow takes_no_memory new e → accepted → ⊥
due_none A b t new (reading.Io (reader.ReadSizeLimit n)) s d = d
due_none A b t new (reading.Io reader.UnsupportedZeroCopy) s d = absurd (cc)
due_none A b t new (reading.Io (reader.Io e)) s d = absurd (cc)
due_none A b t new (reading.Io reader.OutOfMemory) s d = absurd (cc)
due_none A b t new reading.OutOfMemory s d = absurd (cc)
due_none A b t new (reading.InvalidUtf8Encoding e) s d = d
due_none A b t new reading.PointerSizedReadError s d = d
due_none A b t new (reading.PreallocationSizeLimit n m) s d = d
due_none A b t new (reading.InvalidTagEncoding n) s d = d
due_none A b t new (reading.InvalidBoolEncoding n) s d = d
due_none A b t new (reading.LengthEncodingOverflow x) s d = d
due_none A b t new (reading.InvalidCharLead n) s d = d
due_none A b t new (reading.Custom x) s d = d
due_none A b t new reading.UnalignedPointerRead s d = d

not_begun : (old new : ReaderState) (e : ReadError) → says_none e ≡ true → NotBegun old new e → ⊥
not_begun old new (reading.Io (reader.ReadSizeLimit n)) s d = d.1.2.0
not_begun old new (reading.Io reader.UnsupportedZeroCopy) s d = d.1.2
not_begun old new (reading.Io (reader.Io e)) s d = absurd (cc)
not_begun old new (reading.Io reader.OutOfMemory) s d = absurd (cc)
not_begun old new reading.OutOfMemory s d = d
not_begun old new (reading.InvalidUtf8Encoding e) s d = d
not_begun old new reading.PointerSizedReadError s d = d
not_begun old new (reading.PreallocationSizeLimit n m) s d = d
not_begun old new (reading.InvalidTagEncoding n) s d = d
not_begun old new (reading.InvalidBoolEncoding n) s d = d
not_begun old new (reading.LengthEncodingOverflow x) s d = d
not_begun old new (reading.InvalidCharLead n) s d = d
not_begun old new (reading.Custom x) s d = d
not_begun old new reading.UnalignedPointerRead s d = d

pub none_left : {V : Type 0} (g : ReadGrammar V) (old new : ReaderState) (e : ReadError) → says_none e ≡ true
    → NotBegun old new e ⊎ (HasMore old × Begun g old new e) → IsTrue old.is_known → length old.rest < 2 ^ 64 → Front g.reads old.rest → ⊥
none_left g old new e s (inl d) known small f = not_begun old new e s d
none_left g old new e s (inr d) known small f =
    let mid = d.1.0 in
    let stays = d.1.1.0 in
    let rest = stays.rest known in
    due_none (Accepts g.reads mid) g.borrow g.takes_no_memory new e s d.1.2.0.due
    (record { is_known = rw stays.kept.is_known known; fits = rw rest small; front = subst (Front g.reads) (sym rest) f })
