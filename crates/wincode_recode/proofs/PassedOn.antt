-- Passing values on, from the laws of what is read and written.
use Rattle.std.proofs.Common.{◌≡◌, ◌∙◌, sym, ap, subst, refl, inl, inr, arith, ℕ, ◌+◌, ◌-◌, ◌<◌, ◌≤◌, ◌^◌, List, [], ◌∷◌, ◌++◌, length, map, Some}
use Rattle.std.proofs.Common.{append_assoc, append-nil, IsTrue, Bool, true, Option, Result, Ok, Err}
use Rattle.std.specs.Prelude.{OnOk, IfErr}
use Rattle.std.specs.Result.{IsErr, IsErrAnd}
use Rattle.std.proofs.lemmas.List.{map-append, length-map}
use Rattle.std.proofs.Math.Nat.{lt_of_not-le}
use Rattle.wincode_io.specs.Joins.{Joined, Each, AreItems}
use Rattle.wincode_io.specs.PlaceLaws.{known_kept, sound_trans}
use Rattle.wincode_io.specs.Readers.{ReaderState, IsSound}
use Rattle.wincode_io.specs.Sinks.{SinkState}
use Rattle.wincode_io.specs.SinkWriters.{Sinking, sink_writer, written_put, written_room, IsFinished}
use Rattle.wincode_io.specs.WriterLaws.{same_refl, same_trans, writer_sound_refl, writer_sound_trans, tells_on}
use Rattle.wincode_io.specs.Writers.{WriterState, WriterLaws, IsSameWriter, IsSoundWriter, IsUnmoved, finished, FinishRefused}
use Rattle.wincode_io.specs.declared.error.WriteError.{WriteError as IoWriteError}
use Rattle.wincode_io.specs.declared.error.WriteError.TheVariants as writer
use Rattle.wincode_base.specs.Grammar.{ReadGrammar, WriteGrammar, WriteLaws, ReadLaws}
use Rattle.wincode_base.specs.LeafLaws.{number_read_laws, number_write_laws}
use Rattle.wincode_base.specs.Leaves.{number_read, number_write, bool_read, bool_write}
use Rattle.wincode_base.specs.Short.{short_scheme}
use Rattle.wincode_base.specs.LengthLaws.{bincode_laws, length_write_laws}
use Rattle.wincode_base.specs.Lengths.{Scheme, IsLength, length_read, length_write, bincode, preallocation_limit}
use Rattle.wincode_base.specs.ListLaws.{items_none, items_more, items_refused, list_gives, list_first, list_second, list_read_laws, list_write_laws, items_write_laws}
use Rattle.wincode_base.specs.Lists.{IsListEncoding, items_write, list_write, parts_write, reads_list}
use Rattle.wincode_base.specs.Outcomes.{Wrote, Began, IsAble, WriteRefused, SchemaReadRefused, WriteTells}
use Rattle.wincode_base.specs.Pairs.{pair_read, pair_write}
use Rattle.wincode_base.specs.PairLaws.{pair_write_laws}
use Rattle.wincode_base.specs.InWindow.{windowed_write}
use Rattle.wincode_base.specs.Arrays.{array_write}
use Rattle.wincode_base.specs.Sequences.{read_tells_on}
use Rattle.wincode_base.specs.WriteSequences.{write_tells_on, items_wrote_none, items_wrote_more, list_wrote, wrote_map, pair_wrote, pair_unwritten_second}
use Rattle.wincode_base.specs.declared.error.ReadError.{ReadError}
use Rattle.wincode_base.specs.declared.error.WriteError.{WriteError}
use Rattle.wincode_base.specs.declared.error.WriteError.TheVariants as writing
use Rattle.wincode_base.proofs.Items.{item_stopped}
use Rattle.wincode_recode.proofs.Shapes.{able, able_by, bincode_len, short_len, total_within, numbers_small, unrecoded}
use Rattle.wincode_recode.specs.Passing.{unwritten, Passed, NotWritten, NotPassed, ListNotPassed, IsPassedAs, WholeWritten}
use Rattle.wincode_recode.specs.Passing.{RestWritten, longest, IsPassFault, NotPassedAs, AreSound, RelayTells, ItemNotPassed, BehindLength}
use Rattle.wincode_recode.specs.Recoding.{IsRecodedAs, IsKept}
use Rattle.wincode_recode.specs.Streaming.{IsStreamRelayed, StreamRelayRefused}
use Rattle.wincode_recode.specs.Shapes.{Value, word_of, byte_read, byte_write, bytes_read, numbers_read, read_of, write_of}
use Rattle.wincode_recode.specs.declared.recoding.RelayError.{RelayError}
use Rattle.wincode_recode.specs.declared.recoding.RelayError.TheVariants as relay
use Rattle.wincode_recode.specs.declared.recoding.KnownShape.{KnownShape}
use Rattle.wincode_recode.specs.declared.recoding.KnownShape.TheVariants.{Nested, Text, Short, Record, Pairs}

-- ---- what reads as a value is what is written of it, but for maps

abbrev IsSame : {V : Type 0} → (List ℕ → V → Type 0) → (List ℕ → V → Type 0) → Type 0
IsSame {V} reads writes = (v : V) (a b : List ℕ) → reads a v → writes b v → a ≡ b

parts_same : (a b x y u w : List ℕ) → a ≡ x ++ y → b ≡ u ++ w → x ≡ u → y ≡ w → a ≡ b
parts_same a b x y u w p q e f = p ∙ ap (λ t. t ++ y) e ∙ ap (λ t. u ++ t) f ∙ sym q

some_same : {A : Type 0} (o : Option A) (x y : A) → o ≡ Some x → o ≡ Some y → x ≡ y
some_same o x y p q = let e : Some x ≡ Some y = sym p ∙ q in cc

number_same : (k : ℕ) (any : Bool) → IsSame (number_read k any).reads (number_write k any).writes
number_same k any v a b p q = p.1 ∙ sym q

length_same : (s : Scheme) (p : ℕ) → IsSame (IsLength s p) (length_write s).writes
length_same s p n a b r w = some_same (s.encoding n) a b r.1 w

module _ {V : Type 0} (reads : List ℕ → V → Type 0) (writes : List ℕ → V → Type 0) (same : IsSame reads writes) where
  items_same : (vs : List V) (a b : List ℕ) → Joined reads vs a → Joined writes vs b → a ≡ b
  items_same [] a b p q = p ∙ sym q
  items_same (v ∷ vs) a b p q = parts_same a b p.0 p.1 q.0 q.1 p.4 q.4 (same v p.0 q.0 p.2 q.2) (items_same vs p.1 q.1 p.3 q.3)

list_same : {V : Type 0} (s : Scheme) (g : ReadGrammar V) (w : WriteGrammar V) → IsSame g.reads w.writes
    → IsSame (reads_list s g) (λ b vs. IsListEncoding s w.writes vs b)
list_same s g w same vs a b p q =
    let t = p.1 in
    parts_same a b t.0 t.1 q.0 q.1 t.4 q.4 (some_same (s.encoding (length vs)) t.0 q.0 t.2 q.2) (items_same g.reads w.writes same vs t.1 q.1 t.3 q.3)

abbrev pub numbers_write : WriteGrammar (List ℕ)
numbers_write = list_write (bincode preallocation_limit) 24 (number_write 8 true)

abbrev bytes_write : WriteGrammar (List ℕ)
bytes_write = windowed_write (array_write 32 byte_write)

pair_same : {V W : Type 0} (g : ReadGrammar V) (w : WriteGrammar V) (h : ReadGrammar W) (u : WriteGrammar W) → IsSame g.reads w.writes → IsSame h.reads u.writes
    → IsSame (pair_read g h).reads (pair_write w u).writes
pair_same g w h u one two v a b p q = parts_same a b p.0 p.1 q.0 q.1 p.4 q.4 (one v.0 p.0 q.0 p.2 q.2) (two v.1 p.1 q.1 p.3 q.3)

numbers_same : IsSame numbers_read.reads numbers_write.writes
numbers_same = list_same (bincode preallocation_limit) (number_read 8 true) (number_write 8 true) (number_same 8 true)

nested_same : IsSame (read_of Nested).reads (write_of Nested).writes
nested_same = list_same (bincode preallocation_limit) numbers_read numbers_write numbers_same

record_same : IsSame (read_of Record).reads (write_of Record).writes
record_same v a b p q = pair_same (number_read 8 true) (number_write 8 true) (pair_read bool_read bytes_read) (pair_write bool_write bytes_write)
    (number_same 8 true)
    (pair_same bool_read bool_write bytes_read bytes_write (λ v a b p q. p ∙ sym q)
    (λ v a b p q. items_same byte_read.reads byte_write.writes (number_same 1 true) v a b p.1 q.1)) v a b p q

front_kept : (shape : KnownShape) → IsSame (read_of shape).reads (write_of shape).writes → (input text : List ℕ) → IsRecodedAs shape input text → (rest : List ℕ)
    × (input ≡ text ++ rest)
front_kept shape same input text h =
    (h.rest, h.found.joins ∙ ap (λ t. t ++ h.rest) (same h.value h.found.encoding text h.found.is_read h.is_encoding))

kept_as : (shape : KnownShape) (input text : List ℕ) → IsRecodedAs shape input text → IsKept shape input text
kept_as Nested input text h = front_kept Nested nested_same input text h
kept_as Text input text h = front_kept Text (λ v a b p q. p.2 ∙ sym q.1) input text h
kept_as Short input text h = front_kept Short (list_same short_scheme byte_read byte_write (number_same 1 true)) input text h
kept_as Record input text h = front_kept Record record_same input text h
kept_as Pairs input text h = tt

-- ---- how long it is at the most

pub text_short : (v : Value Text) → (write_of Text).fits v → (write_of Text).size v ≤ longest
text_short v f = omega (arith, f)

pub short_short : (v : Value Short) → (write_of Short).fits v → (write_of Short).size v ≤ longest
short_short v f = omega (arith, short_len (length v) f.0, total_within (λ n. Unit {0}) (λ n. 1) 1 (λ n u. omega arith) v f.2, f.1)

pub record_short : (v : Value Record) → (write_of Record).fits v → (write_of Record).size v ≤ longest
record_short v f = omega (arith, f.1.1.0, total_within (λ n. Unit {0}) (λ n. 1) 1 (λ n u. omega arith) v.1.1 f.1.1.1)

pub pairs_short : (v : Value Pairs) → (write_of Pairs).fits v → (write_of Pairs).size v ≤ longest
pairs_short v f = omega (
  arith,
  bincode_len preallocation_limit (length v) f.0,
  total_within (λ p. Unit {0} × Unit {0}) (λ p. 1 + 1) 2 (λ p u. omega arith) v f.2,
  f.1.1,
)

-- ---- an answer

pub ok_weaker : {T E P Q : Type 0} (r : Result T E) → (P → Q) → OnOk r P → OnOk r Q
ok_weaker (Ok x) m p = m p
ok_weaker (Err e) m p = tt

-- an error that is passed on
pub err_passed : {T E : Type 0} (P : E → Type 0) (r : Result T E) (e : E) → IsErr r × IsErrAnd r (λ x. x ≡ e) → P e → IfErr r P
err_passed P (Ok x) e h p = absurd h.1
err_passed P (Err x) e h p = subst P (sym h.1) p

-- ---- a refused write

-- what is refused by a refused write is refused
by_write : (P : RelayError → Type 0) (Q : WriteError → Type 0) → ((x : WriteError) → Q x → P (unwritten x)) → (e : RelayError) → (x : WriteError)
    × (e ≡ unwritten x) × Q x → P e
by_write P Q m e h = subst P (sym h.1) (m h.0 h.2)

-- a value was read, and writing it was refused with this error
module _ {X V W S K : Type 0} {put : S → List ℕ → S} {room : S → ℕ} (rs : X → V) (r : ReadGrammar V) (ws : X → W) (w : WriteGrammar W) (old new : ReaderState)
    (before after : WriterState put room K) where
  not_written_by : (e : WriteError) → NotWritten rs r.reads ws w old new before after e → NotPassed rs r ws w old new before after (unwritten e)
  not_written_by (writing.Io (writer.Io x)) n = (writing.Io (writer.Io x), refl, n)
  not_written_by (writing.Io (writer.WriteSizeLimit m)) n = (writing.Io (writer.WriteSizeLimit m), refl, n)
  not_written_by (writing.Io writer.OutOfMemory) n = (writing.Io writer.OutOfMemory, refl, n)
  not_written_by (writing.InvalidUtf8Encoding x) n = (writing.InvalidUtf8Encoding x, refl, n)
  not_written_by (writing.LengthEncodingOverflow x) n = (writing.LengthEncodingOverflow x, refl, n)
  not_written_by (writing.Custom x) n = (writing.Custom x, refl, n)
  not_written_by writing.OutOfMemory n = (writing.OutOfMemory, refl, n)

  pub not_written : (e : WriteError) (told : RelayError) → told ≡ unwritten e → NotWritten rs r.reads ws w old new before after e
      → NotPassed rs r ws w old new before after told
  not_written e told same n = let P : RelayError → Type 0 = λ x. NotPassed rs r ws w old new before after x in subst P (sym same) (not_written_by e n)

-- ---- what is told of the devices

module _ {S K : Type 0} {put : S → List ℕ → S} {room : S → ℕ} where
  abbrev IsSoundPass : ReaderState → ReaderState → WriterState put room K → WriterState put room K → Type 0
  IsSoundPass old new before after = IsSameWriter before after × AreSound old new before after

  abbrev Tells : ReaderState → ReaderState → WriterState put room K → WriterState put room K → RelayError → Type 0
  Tells old new before after e = IsSameWriter before after × RelayTells old new before after e

  sound_twice : {a b c : ReaderState} {u v w : WriterState put room K} → IsSoundPass a b u v → IsSoundPass b c v w → IsSoundPass a c u w
  sound_twice p q = (same_trans p.0 q.0, (sound_trans p.1.0 q.1.0, writer_sound_trans p.1.1 q.1.1))

  -- what went before tells nothing more
  told_after : (a b c : ReaderState) (u v w : WriterState put room K) (e : RelayError) → AreSound a b u v → RelayTells b c v w e → RelayTells a c u w e
  told_after a b c u v w (relay.Read e) s t = (read_tells_on a b c e s.0 t.0, writer_sound_trans s.1 t.1)
  told_after a b c u v w (relay.Write e) s t = (sound_trans s.0 t.0, write_tells_on u v w e s.1 t.1)
  told_after a b c u v w (relay.Output e) s t = (sound_trans s.0 t.0, tells_on u v w (writer.Io e) s.1 t.1)
  told_after a b c u v w _ s t = (sound_trans s.0 t.0, writer_sound_trans s.1 t.1)

  tells_after : (a b c : ReaderState) (u v w : WriterState put room K) (e : RelayError) → IsSoundPass a b u v → Tells b c v w e → Tells a c u w e
  tells_after a b c u v w e s t = (same_trans s.0 t.0, told_after a b c u v w e s.1 t.1)

  told_unwritten : (old new : ReaderState) (before after : WriterState put room K) → IsSound old new → (e : WriteError) → WriteTells before after e
      → RelayTells old new before after (unwritten e)
  told_unwritten old new before after s (writing.Io (writer.Io x)) t = (s, t)
  told_unwritten old new before after s (writing.Io (writer.WriteSizeLimit m)) t = (s, t)
  told_unwritten old new before after s (writing.Io writer.OutOfMemory) t = (s, t)
  told_unwritten old new before after s (writing.InvalidUtf8Encoding x) t = (s, t)
  told_unwritten old new before after s (writing.LengthEncodingOverflow x) t = (s, t)
  told_unwritten old new before after s (writing.Custom x) t = (s, t)
  told_unwritten old new before after s writing.OutOfMemory t = (s, t)

  -- all was written, and the end of it was refused
  pub told_unfinished : (old new : ReaderState) (before between after : WriterState put room K) → AreSound old new before between → (e : IoWriteError)
      → FinishRefused true between after e → RelayTells old new before after (unwritten (writing.Io e))
  told_unfinished old new before between after s (writer.Io x) d = (s.0, tells_on before between after (writer.Io x) s.1 d.1)
  told_unfinished old new before between after s writer.OutOfMemory d = (s.0, tells_on before between after writer.OutOfMemory s.1 d.1)
  told_unfinished old new before between after s (writer.WriteSizeLimit n) d = absurd d.2.0

pub passed_soundly : {X V W S K : Type 0} {put : S → List ℕ → S} {room : S → ℕ} {rs : X → V} {reads : List ℕ → V → Type 0} {ws : X → W} {w : WriteGrammar W}
    {old new : ReaderState} {before after : WriterState put room K} (value : X) → Passed rs reads ws w old new before after value
    → IsSoundPass old new before after
passed_soundly value p = (p.wrote.took.same, (p.gives.sound, p.wrote.took.sound))

module _ {X V W S K : Type 0} {put : S → List ℕ → S} {room : S → ℕ} (rs : X → V) (r : ReadGrammar V) (ws : X → W) (w : WriteGrammar W) (old new : ReaderState)
    (before after : WriterState put room K) where
  unwritten_tells : (e : WriteError) → NotWritten rs r.reads ws w old new before after e → Tells old new before after (unwritten e)
  unwritten_tells e n = (n.refused.same, told_unwritten old new before after n.gives.sound e n.refused.device)

  pub not_passed_tells : (e : RelayError) → NotPassed rs r ws w old new before after e → Tells old new before after e
  not_passed_tells (relay.Read e) h =
      let P : WriterState put room K → Type 0 = λ a. Tells old new before a (relay.Read e) in
      subst P (sym h.1) (same_refl before, (h.0.0.device, writer_sound_refl before))
  not_passed_tells relay.UnknownShape h = by_write (Tells old new before after) _ unwritten_tells relay.UnknownShape h
  not_passed_tells (relay.Input e) h = by_write (Tells old new before after) _ unwritten_tells (relay.Input e) h
  not_passed_tells (relay.Write e) h = by_write (Tells old new before after) _ unwritten_tells (relay.Write e) h
  not_passed_tells (relay.Output e) h = by_write (Tells old new before after) _ unwritten_tells (relay.Output e) h
  not_passed_tells relay.OutOfMemory h = by_write (Tells old new before after) _ unwritten_tells relay.OutOfMemory h

module _ {X V W S K : Type 0} {put : S → List ℕ → S} {room : S → ℕ} (s : Scheme) (rs : X → V) (r : ReadGrammar V) (ws : X → W) (w : WriteGrammar W)
    (old new : ReaderState) (before after : WriterState put room K) where
  pub list_not_passed_tells : (e : RelayError) → ListNotPassed s rs r ws w old new before after e → Tells old new before after e
  list_not_passed_tells e (inl h) = not_passed_tells (λ n. n) (length_read s r.prealloc) (λ n. n) (length_write s) old new before after e h
  list_not_passed_tells e (inr h) =
      let i = h.refused in
      tells_after old i.mid new before i.between after e (sound_twice (passed_soundly h.len h.passed) (passed_soundly i.values i.passed)) (not_passed_tells rs r ws w i.mid new i.between after e i.refused)

module _ {S K V : Type 0} {put : S → List ℕ → S} {room : S → ℕ} (laws : WriterLaws put room) (g : WriteGrammar V) (v : V)
    (before after : WriterState put room K) where
  too_long : g.can v → g.size v ≤ longest → (IsAble g before v → ⊥) → Began g before after v → room after.content < longest
  too_long can short unable b =
      let less : room before.content < g.size v = lt_of_not-le (λ fits. unable (can, omega (arith, fits, short))) in
      let left : room after.content ≡ room before.content - length b.front = ap room b.added ∙ laws.left before.content b.front b.within in
      omega (arith, less, left, short)

  write_fault : (shape : KnownShape) (reader : ReaderState) → (IsTrue reader.is_known → g.can v × (g.size v ≤ longest)) → (e : WriteError)
      → WriteRefused g before after v e → IsPassFault shape reader (room after.content) after.failures (unwritten e)
  write_fault shape reader able (writing.Io (writer.Io x)) u = u.due.1
  write_fault shape reader able (writing.Io writer.OutOfMemory) u = λ known. inl tt
  write_fault shape reader able writing.OutOfMemory u = λ known. inl tt
  write_fault shape reader able (writing.Io (writer.WriteSizeLimit n)) u = λ known. let a = able known in inr (too_long a.0 a.1 u.due (u.began a.0))
  write_fault shape reader able _ u = λ known. let a = able known in inr (too_long a.0 a.1 u.due (u.began a.0))

-- ---- a value that is passed on as a whole

module _ {X S K : Type 0} {put : S → List ℕ → S} {room : S → ℕ} (shape : KnownShape) (model : X → Value shape) (old new : ReaderState)
    (before after : WriterState put room K) where
  pub passed_as : (value : X) → Passed model (read_of shape).reads model (write_of shape) old new before after value → IsPassedAs shape old before after
  passed_as value p = (
    p.wrote.encoding,
    p.wrote.took.content,
    λ known. let h : IsRecodedAs shape old.rest p.wrote.encoding =
        record { value = model value; rest = new.rest; found = p.gives.found known; is_encoding = p.wrote.is_encoding } in
        (h, kept_as shape old.rest p.wrote.encoding h),
  )

  abbrev IsBegun : Type 0
  IsBegun = IsTrue old.is_known → (text : List ℕ) × (more : List ℕ) × (after.content ≡ put before.content text) × IsRecodedAs shape old.rest (text ++ more)

  begun_whole : (e : WriteError) → IsBegun → WholeWritten shape old before after (unwritten e)
  begun_whole (writing.Io (writer.Io x)) b = b
  begun_whole _ b = b

  abbrev IsWholeRefused : RelayError → Type 0
  IsWholeRefused e = IsPassFault shape old (room after.content) after.failures e × WholeWritten shape old before after e

  module _ (laws : WriterLaws put room) (short : (v : Value shape) → (write_of shape).fits v → (write_of shape).size v ≤ longest) where
    whole_unwritten : (e : WriteError) → NotWritten model (read_of shape).reads model (write_of shape) old new before after e → IsWholeRefused (unwritten e)
    whole_unwritten e n =
        let can : IsTrue old.is_known → (write_of shape).can (model n.value) = λ known. (able shape (model n.value) (n.fits known)).0 in (
          write_fault laws (write_of shape) (model n.value) before after shape old (λ known. (can known, short (model n.value) (n.fits known))) e n.refused,
          begun_whole e (λ known. let b = n.refused.began (can known) in (
            b.front,
            b.more,
            b.added,
            record { value = model n.value; rest = new.rest; found = n.gives.found known; is_encoding = b.is_encoding },
          )),
        )

    pub whole_refused : (e : RelayError) → NotPassed model (read_of shape) model (write_of shape) old new before after e → IsWholeRefused e
    whole_refused (relay.Read e) h = (unrecoded shape model old (relay.Read e) (new, h.0), h.1)
    whole_refused relay.UnknownShape h = by_write IsWholeRefused _ whole_unwritten relay.UnknownShape h
    whole_refused (relay.Input e) h = by_write IsWholeRefused _ whole_unwritten (relay.Input e) h
    whole_refused (relay.Write e) h = by_write IsWholeRefused _ whole_unwritten (relay.Write e) h
    whole_refused (relay.Output e) h = by_write IsWholeRefused _ whole_unwritten (relay.Output e) h
    whole_refused relay.OutOfMemory h = by_write IsWholeRefused _ whole_unwritten relay.OutOfMemory h

-- ---- lists in lists, one after another

abbrev lengths : Scheme
lengths = bincode preallocation_limit

numbers_laws : WriteLaws {X = List ℕ} (λ x. Each (λ n. n < 256 ^ 8) x) (λ x. map (λ n. n) x) numbers_write
numbers_laws = list_write_laws lengths 24 (λ xs. xs) (λ n. n < 256 ^ 8) (λ n. n) (number_write 8 true) (number_write_laws 8 true)

numbers_read_laws : ReadLaws (Each (λ n. n < 256 ^ 8)) numbers_read
numbers_read_laws = list_read_laws lengths (bincode_laws preallocation_limit) 24 (omega arith) (λ n. n < 256 ^ 8) (number_read 8 true)
    (number_read_laws 8 true (omega arith))

module _ {X S K : Type 0} {put : S → List ℕ → S} {room : S → ℕ} (laws : WriterLaws put room) (model : X → List ℕ) (old new : ReaderState)
    (before after : WriterState put room K) where
  abbrev IsNestedRefused : RelayError → Type 0
  IsNestedRefused e = NotPassedAs Nested old before after e

  length_unwritten : (e : WriteError) → NotWritten (λ n. n) (IsLength lengths 24) (λ n. n) (length_write lengths) old new before after e
      → IsNestedRefused (unwritten e)
  length_unwritten e n = (
    write_fault laws (length_write lengths) n.value before after Nested old
        (λ known. let can = n.fits known in (can, omega (arith, bincode_len preallocation_limit n.value can))) e n.refused,
    λ known.
        let b = n.refused.began (n.fits known) in
        let f = n.gives.found known in
        let same = length_same lengths 24 n.value f.encoding (b.front ++ b.more) f.is_read b.is_encoding in
        (b.front, b.more ++ new.rest, b.added, f.joins ∙ ap (λ t. t ++ new.rest) same ∙ append_assoc b.front b.more new.rest),
  )

  length_refused : (e : RelayError) → NotPassed (λ n. n) (length_read lengths 24) (λ n. n) (length_write lengths) old new before after e → IsNestedRefused e
  length_refused (relay.Read e) h = (
    unrecoded Nested (λ v. v) old (relay.Read e) (new, (list_first lengths numbers_read old new e h.0.0, inl h.0)),
    λ known. ([], old.rest, ap (λ t. t.content) h.1 ∙ sym (laws.nil before.content), refl),
  )
  length_refused relay.UnknownShape h = by_write IsNestedRefused _ length_unwritten relay.UnknownShape h
  length_refused (relay.Input e) h = by_write IsNestedRefused _ length_unwritten (relay.Input e) h
  length_refused (relay.Write e) h = by_write IsNestedRefused _ length_unwritten (relay.Write e) h
  length_refused (relay.Output e) h = by_write IsNestedRefused _ length_unwritten (relay.Output e) h
  length_refused relay.OutOfMemory h = by_write IsNestedRefused _ length_unwritten relay.OutOfMemory h

  -- behind the length and so many lists
  module _ (len : ℕ) (mid : ReaderState) (between : WriterState put room K)
      (first : Passed (λ n. n) (IsLength lengths 24) (λ n. n) (length_write lengths) old mid before between len)
      (count : ℕ) (fewer : count < len) (values : List X) (last : ReaderState) (behind : WriterState put room K)
      (items : Passed (map model) (AreItems count numbers_read.reads) (map model) (items_write numbers_write) mid last between behind values) where
    abbrev begun_write : WriteGrammar (ℕ × List (List ℕ))
    begun_write = pair_write (length_write lengths) (items_write numbers_write)

    begun : Wrote begun_write before behind (len, map model values)
    begun = pair_wrote (length_write_laws lengths) (items_write_laws _ _ numbers_write numbers_laws) laws first.wrote items.wrote

    last_known : IsTrue old.is_known → IsTrue last.is_known
    last_known known = known_kept items.gives.kept (known_kept first.gives.kept known)

    -- what was written of them is what was read
    begun_same : IsTrue old.is_known → (text : List ℕ) → begun_write.writes text (len, map model values) → old.rest ≡ text ++ last.rest
    begun_same known text w =
        let f = first.gives.found known in
        let k = items.gives.found (known_kept first.gives.kept known) in
        let same = parts_same (f.encoding ++ k.encoding) text f.encoding k.encoding w.0 w.1 refl w.4
        (length_same lengths 24 len f.encoding w.0 f.is_read w.2)
        (items_same numbers_read.reads numbers_write.writes numbers_same (map model values) k.encoding w.1 k.is_read.1 w.3) in
        f.joins ∙ ap (λ t. f.encoding ++ t) k.joins ∙ sym (append_assoc f.encoding k.encoding last.rest) ∙ ap (λ t. t ++ last.rest) same

    list_unread : (e : ReadError) → SchemaReadRefused numbers_read last new e → after ≡ behind → IsNestedRefused (relay.Read e)
    list_unread e d same = (
      unrecoded Nested (λ v. v) old (relay.Read e) (
        new,
        (
          list_second lengths numbers_read (bincode_laws preallocation_limit) old mid new len e first.gives
              (items_refused numbers_read.reads numbers_read_laws.one_front count len numbers_read.borrow numbers_read.takes_no_memory fewer mid last new
              (map model values) e items.gives d.0),
          inr (len, mid, first.gives, item_stopped len numbers_read count mid last new (map model values) e fewer items.gives d),
        ),
      ),
      λ known. (begun.encoding, last.rest, ap (λ t. t.content) same ∙ begun.took.content, begun_same known begun.encoding begun.is_encoding),
    )

    list_unwritten : (e : WriteError) → NotWritten model numbers_read.reads model numbers_write last new behind after e → IsNestedRefused (unwritten e)
    list_unwritten e n =
        let can : IsTrue old.is_known → numbers_write.can (model n.value) = λ known. (able_by numbers_laws (model n.value) (n.fits (last_known known))).0 in (
          write_fault laws numbers_write (model n.value) behind after Nested old
              (λ known. (can known, numbers_small (model n.value) (n.fits (last_known known)))) e n.refused,
          λ known.
              let u = pair_unwritten_second (pair_write_laws (length_write_laws lengths) (items_write_laws _ _ numbers_write numbers_laws)) numbers_laws laws
              begun n.refused in
              let b = u.began (begun.can, can known) in
              let w = b.is_encoding in
              let f = n.gives.found (last_known known) in
              let text = begun_same known w.0 w.2 in
              let same = numbers_same (model n.value) f.encoding w.1 f.is_read w.3 in
              let ends = text ∙ ap (λ t. w.0 ++ t) (f.joins ∙ ap (λ t. t ++ new.rest) same) ∙ sym (append_assoc w.0 w.1 new.rest) in
              (b.front, b.more ++ new.rest, b.added, ends ∙ ap (λ t. t ++ new.rest) (sym w.4) ∙ append_assoc b.front b.more new.rest),
        )

    list_refused : (e : RelayError) → NotPassed model numbers_read model numbers_write last new behind after e → IsNestedRefused e
    list_refused (relay.Read e) h = list_unread e h.0 h.1
    list_refused relay.UnknownShape h = by_write IsNestedRefused _ list_unwritten relay.UnknownShape h
    list_refused (relay.Input e) h = by_write IsNestedRefused _ list_unwritten (relay.Input e) h
    list_refused (relay.Write e) h = by_write IsNestedRefused _ list_unwritten (relay.Write e) h
    list_refused (relay.Output e) h = by_write IsNestedRefused _ list_unwritten (relay.Output e) h
    list_refused relay.OutOfMemory h = by_write IsNestedRefused _ list_unwritten relay.OutOfMemory h

  pub nested_refused : (e : RelayError) → ListNotPassed lengths model numbers_read model numbers_write old new before after e → IsNestedRefused e
  nested_refused e (inl h) = length_refused e h
  nested_refused e (inr h) =
      let i = h.refused in
      list_refused h.len h.mid h.between h.passed i.count i.fewer i.values i.mid i.between i.passed e i.refused

-- ---- one value after another

module _ {X V W S K : Type 0} {put : S → List ℕ → S} {room : S → ℕ} (laws : WriterLaws put room) (rs : X → V) (r : ReadGrammar V) (ws : X → W)
    (w : WriteGrammar W) where
  pub passed_none : {is_valid : X → Type 0} → WriteLaws is_valid ws w → (old : ReaderState) (before : WriterState put room K)
      → Passed (map rs) (AreItems 0 r.reads) (map ws) (items_write w) old old before before []
  passed_none l old before = record { gives = items_none r.reads old; wrote = items_wrote_none laws l before }

  pub passed_more : {is_valid : X → Type 0} → WriteLaws is_valid ws w → (count : ℕ) (old mid new : ReaderState) (before between after : WriterState put room K)
      (values : List X) (value : X) → Passed (map rs) (AreItems count r.reads) (map ws) (items_write w) old mid before between values
      → Passed rs r.reads ws w mid new between after value
      → Passed (map rs) (AreItems (count + 1) r.reads) (map ws) (items_write w) old new before after (values ++ (value ∷ []))
  passed_more l count old mid new before between after values value p q = record {
    gives = rw (map-append rs values (value ∷ [])) (items_more r.reads count old mid new (map rs values) (rs value) p.gives q.gives);
    wrote = rw (map-append ws values (value ∷ [])) (items_wrote_more laws l (map ws values) (ws value) p.wrote q.wrote);
  }

  pub passed_list : {is_valid : X → Type 0} → WriteLaws is_valid ws w → (s : Scheme) (old mid new : ReaderState) (before between after : WriterState put room K)
      (n : ℕ) (values : List X) → length values ≡ n → Passed (λ n. n) (IsLength s r.prealloc) (λ n. n) (length_write s) old mid before between n
      → Passed (map rs) (AreItems n r.reads) (map ws) (items_write w) mid new between after values
      → Passed (map rs) (reads_list s r) (map ws) (list_write s 24 w) old new before after values
  passed_list l s old mid new before between after n values size p q =
      let long : n ≡ length (map ws values) = sym size ∙ sym (length-map values ws) in
      record {
        gives = list_gives s r old mid new n (map rs values) p.gives q.gives;
        wrote = wrote_map (parts_write s 24 w) (list_write s 24 w) (map ws values) (map ws values) (λ c. c) refl (λ b t. t)
            (list_wrote laws l s 24 (map ws values) (subst (Wrote (length_write s) before between) long p.wrote) q.wrote);
      }

-- ---- a source and a sink

module _ {K : Type 0} (state : K → SinkState) (word : List ℕ) (shape : KnownShape) (named : word ≡ word_of shape) (reader : ReaderState)
    (old mid new : Sinking K) where
  abbrev before : WriterState written_put written_room Unit
  before = sink_writer state old

  pub stream_refused : (e : RelayError) → NotPassedAs shape reader before (sink_writer state new) e → StreamRelayRefused word reader state old new e
  stream_refused relay.UnknownShape h = absurd h.0
  stream_refused (relay.Input e) h = (shape, named, h)
  stream_refused (relay.Read e) h = (shape, named, h)
  stream_refused (relay.Write e) h = (shape, named, h)
  stream_refused (relay.Output e) h = (shape, named, h)
  stream_refused relay.OutOfMemory h = (shape, named, h)

  pub stream_relayed : IsPassedAs shape reader before (sink_writer state mid) → IsSameWriter before (sink_writer state mid) → IsFinished state mid new
      → IsUnmoved (finished true (sink_writer state mid)) (sink_writer state new) → IsStreamRelayed word reader state old new
  stream_relayed p same f u = (
    (shape, named),
    (
      p.0,
      record {
        kept = f.kept;
        sent = f.sent ∙ ap (λ s. s.bytes) p.1;
        flushed = f.flushed;
        finishes = u.same.finishes ∙ ap (λ n. n + 1) same.finishes;
      },
      λ known. let k = p.2 known in (shape, named, k.0, k.1),
    ),
  )

  -- all was written, and the end of it was refused
  abbrev IsEndRefused : RelayError → Type 0
  IsEndRefused = NotPassedAs shape reader before (sink_writer state new)

  whole_left : (text : List ℕ) → (sink_writer state new).content ≡ written_put before.content text
      → (IsTrue reader.is_known → IsRecodedAs shape reader.rest text) → IsBegun shape (λ (v : Value shape). v) reader reader before (sink_writer state new)
  whole_left text same h = λ known. (text, [], same, subst (λ t. IsRecodedAs shape reader.rest t) (sym (append-nil text)) (h known))

all_left : {K : Type 0} (state : K → SinkState) (shape : KnownShape) (reader : ReaderState) (old new : Sinking K) (e : WriteError) (text : List ℕ)
    → (sink_writer state new).content ≡ written_put (sink_writer state old).content text
    → (IsTrue reader.is_known → IsRecodedAs shape reader.rest text × IsKept shape reader.rest text)
    → RestWritten shape reader (sink_writer state old) (sink_writer state new) (unwritten e)
all_left state Nested reader old new e text same h = λ known. let k = (h known).1 in (text, k.0, same, k.1)
all_left state Text reader old new e text same h = begun_whole Text (λ (v : Value Text). v) reader reader (sink_writer state old) (sink_writer state new) e
    (whole_left state (word_of Text) Text refl reader old old new text same (λ known. (h known).0))
all_left state Short reader old new e text same h = begun_whole Short (λ (v : Value Short). v) reader reader (sink_writer state old) (sink_writer state new) e
    (whole_left state (word_of Short) Short refl reader old old new text same (λ known. (h known).0))
all_left state Record reader old new e text same h = begun_whole Record (λ (v : Value Record). v) reader reader (sink_writer state old) (sink_writer state new) e
    (whole_left state (word_of Record) Record refl reader old old new text same (λ known. (h known).0))
all_left state Pairs reader old new e text same h = begun_whole Pairs (λ (v : Value Pairs). v) reader reader (sink_writer state old) (sink_writer state new) e
    (whole_left state (word_of Pairs) Pairs refl reader old old new text same (λ known. (h known).0))

-- why the end was refused
end_fault : {K : Type 0} (state : K → SinkState) (shape : KnownShape) (reader : ReaderState) (mid new : Sinking K) (e : IoWriteError)
    → FinishRefused true (sink_writer state mid) (sink_writer state new) e
    → IsPassFault shape reader (written_room (sink_writer state new).content) (sink_writer state new).failures (unwritten (writing.Io e))
end_fault state shape reader mid new (writer.Io x) d = d.2.1
end_fault state shape reader mid new writer.OutOfMemory d = λ known. inl tt
end_fault state shape reader mid new (writer.WriteSizeLimit n) d = absurd d.2.0

pub stream_unfinished : {K : Type 0} (state : K → SinkState) (word : List ℕ) (shape : KnownShape) → word ≡ word_of shape → (reader : ReaderState)
    (old mid new : Sinking K) (e : IoWriteError) → IsPassedAs shape reader (sink_writer state old) (sink_writer state mid)
    → IsUnmoved (finished true (sink_writer state mid)) (sink_writer state new) → FinishRefused true (sink_writer state mid) (sink_writer state new) e
    → StreamRelayRefused word reader state old new (unwritten (writing.Io e))
stream_unfinished state word shape named reader old mid new e p same d =
    stream_refused state word shape named reader old mid new (unwritten (writing.Io e))
    (end_fault state shape reader mid new e d, all_left state shape reader old new (writing.Io e) p.0 (same.content ∙ p.1) p.2)
