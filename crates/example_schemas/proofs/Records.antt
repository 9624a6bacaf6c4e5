-- Reading and writing a record over a device, through one window of its size.
use Rattle.std.proofs.Common.{◌≡◌, ◌∙◌, sym, subst, ap, ℕ, ◌<◌, ◌≤◌, ◌^◌, ◌&&◌, not, Bool, true, false, true≢false, List, [], ◌∷◌, ◌++◌, length, map}
use Rattle.std.proofs.Common.{refl, arith, lit≤, lit<, append-nil, IsTrue, inl, inr, Result, Ok, Err}
use Rattle.std.proofs.lemmas.List.{take_all, map-id, length-append}
use Rattle.std.specs.Result.{IfErr, IsOk}
use Rattle.std.specs.Borrow.{GName}
use Rattle.wincode_io.specs.Joins.{Each}
use Rattle.wincode_io.specs.Readers.{ReaderState, Kept, Windowed, WindowRefused, is_steady}
use Rattle.wincode_io.specs.Writers.{WriterState, WriterLaws, HasRoom, BytesWriteRefused}
use Rattle.wincode_io.specs.SliceWriters.{slice_room}
use Rattle.wincode_io.specs.WriteWindows.{window_of}
use Rattle.wincode_io.specs.declared.error.ReadError.{ReadError as IoReadError}
use Rattle.wincode_io.specs.declared.error.ReadError.TheVariants as reader
use Rattle.wincode_io.specs.declared.error.WriteError.{WriteError as IoWriteError}
use Rattle.wincode_io.specs.declared.error.WriteError.TheVariants as writer
use Rattle.wincode_base.specs.ArrayLaws.{array_read_laws, array_write_laws}
use Rattle.wincode_base.specs.Arrays.{IsArray}
use Rattle.wincode_base.specs.FixedSizeLaws.{takes_joins, window_denied_refuses}
use Rattle.wincode_base.specs.Grammar.{ReadLaws, ReadRefusal, WriteGrammar, WriteLaws}
use Rattle.wincode_base.specs.InWindow.{WindowReadRefused}
use Rattle.wincode_base.specs.LeafLaws.{same_front, number_read_laws, number_write_laws, bool_read_laws, bool_write_laws}
use Rattle.wincode_base.specs.Leaves.{number_read, number_write}
use Rattle.wincode_base.specs.Outcomes.{Accepts, Front, Gives, NoWindow, ReadDue, ReadRefused, SchemaReadRefused, Wrote, WriteRefused, Stopped}
use Rattle.wincode_base.specs.PairLaws.{pair_read_laws, windowed_read_laws, pair_write_laws, windowed_write_laws}
use Rattle.wincode_base.specs.declared.error.ReadError.{ReadError}
use Rattle.wincode_base.specs.declared.error.ReadError.TheVariants as reading
use Rattle.wincode_base.specs.declared.error.WriteError.{WriteError}
use Rattle.wincode_base.specs.declared.error.WriteError.TheVariants as writing
use Rattle.wincode_base.proofs.InWindow.{sized_of, written_size, window_gives, window_refuses, room_unwritten, room_halted, windowed_unwritten}
use Rattle.wincode_base.proofs.Runs.{window_stopped}
use Rattle.example_schemas.specs.Faults.{ReadFrom, WrittenTo, AskedReadRefused, AskedWriteRefused, over_device, slice_over}
use Rattle.example_schemas.specs.Records.{members_read, record_read, members_write, record_write}

-- ---- a window in a window of the same size

-- a window of a reader that doesn't count its windows is steady, and stays so
steady_inside : {n : ℕ} {old new window after : ReaderState} → old.counts_windows ≡ false → Windowed n old new window → Kept window after → is_steady after
    ≡ true
steady_inside {after = after} u w k =
    ap (λ b. b && not after.counts_windows) (k.never_fails ∙ w.never_fails) ∙ ap (λ c. true && not c) (k.counts_windows ∙ w.counts_windows ∙ u)

-- no window of all of such a window is refused
all_of_window : (n : ℕ) (old new window after : ReaderState) (e : ReadError) → old.counts_windows ≡ false → Windowed n old new window
    → NoWindow n window after e → ⊥
all_of_window n old new window after (reading.Io (reader.ReadSizeLimit m)) u w p = let short = p.2.0 w.is_known in absurd (omega (arith, w.takes.size, short))
all_of_window n old new window after (reading.Io reader.UnsupportedZeroCopy) u w p = p.2
all_of_window n old new window after (reading.Io reader.OutOfMemory) u w p = true≢false (sym (steady_inside u w p.0.kept) ∙ p.2)
all_of_window n old new window after (reading.Io (reader.Io x)) u w p = true≢false (sym (p.0.kept.never_fails ∙ w.never_fails) ∙ p.2.0)
all_of_window n old new window after _ u w p = p

-- a window of all of a window is one of the reader below
same_window : (n : ℕ) (old new window after inner : ReaderState) → Windowed n old new window → Windowed n window after inner → Windowed n old new inner
same_window n old new window after inner w v = record {
  lends = v.lends ∙ w.lends;
  never_fails = v.never_fails;
  counts_windows = v.counts_windows ∙ w.counts_windows;
  is_known = v.is_known;
  ready = v.ready;
  takes = record {
    loses = w.takes.loses;
    size = v.takes.size;
    front = λ k. v.takes.front w.is_known ∙ take_all n window.rest (omega (arith, w.takes.size)) ∙ w.takes.front k;
  };
}

-- what was refused in a window of a window was refused in one window
one_window : (n : ℕ) (inside : ReadRefusal) (old new window after : ReaderState) (e : ReadError) → old.counts_windows ≡ false → Windowed n old new window
    → WindowReadRefused n inside window after e → WindowReadRefused n inside old new e
one_window n inside old new window after e u w (inl p) = absurd (all_of_window n old new window after e u w p)
one_window n inside old new window after e u w (inr i) = inr (i.0, i.1, same_window n old new window after i.0 w i.2, i.3)

-- ---- reading

abbrev IsRecord : ℕ × (Bool × List ℕ) → Type 0
IsRecord v = (v.0 < 256 ^ 8) × (Unit {0} × IsArray 32 (λ n. n < 256 ^ 1) v.1.1)

record_laws : ReadLaws IsRecord record_read
record_laws = windowed_read_laws (pair_read_laws (number_read_laws 8 true (lit≤ tt))
    (pair_read_laws bool_read_laws (windowed_read_laws (array_read_laws 32 (λ n. n < 256 ^ 1) (number_read 1 true) (number_read_laws 1 true (lit≤ tt))))))

sized : (b : List ℕ) (v : ℕ × (Bool × List ℕ)) → record_read.reads b v → length b ≡ 41
sized = sized_of record_read.reads record_read.meta 41 false record_laws.statics refl

module _ {old new window : ReaderState} (w : Windowed 41 old new window) where
  pub record_gives : {after : ReaderState} (n : ℕ) (b : Bool) (bytes : List ℕ) → Gives record_read.reads window after (n, (b, map (λ k. k) bytes))
      → Gives record_read.reads old new (n, (b, bytes))
  record_gives {after} n b bytes r = window_gives record_read.reads 41 sized old new window after (n, (b, bytes)) w
      (subst (λ l. Gives record_read.reads window after (n, (b, l))) (map-id bytes) r)

  pub record_refused : {after : ReaderState} (e : ReadError) → old.counts_windows ≡ false → SchemaReadRefused record_read window after e
      → SchemaReadRefused record_read old new e
  record_refused {after} e u r = (
    window_refuses record_read.reads 41 sized record_read.borrow record_read.takes_no_memory old new window after e w r.0,
    one_window 41 members_read.refused old new window after e u w r.1,
  )

  accepted : IsTrue old.is_known → Front record_read.reads old.rest → Accepts record_read.reads window
  accepted k f =
      let front = f.found in
      let l : length window.rest ≡ length front.encoding = w.takes.size ∙ sym (sized front.encoding f.value front.is_read) in
      let e : window.rest ++ new.rest ≡ front.encoding ++ f.rest = sym (takes_joins w.takes k) ∙ front.joins in
      let same = same_front window.rest front.encoding new.rest f.rest l e in
      record {
        is_known = w.is_known;
        fits = omega (arith, w.takes.size);
        front = record {
          value = f.value;
          rest = [];
          found = record
              { encoding = front.encoding; is_read = front.is_read; joins = same ∙ sym (append-nil front.encoding) };
        };
      }

  -- nothing of a window is refused that begins with a record
  pub record_read_through : {after : ReaderState} (e : ReadError) → old.counts_windows ≡ false → IsTrue old.is_known → Front record_read.reads old.rest
      → ReadRefused record_read.reads record_read.borrow record_read.takes_no_memory window after e → ⊥
  record_read_through {after} e u k f r = by e r.due where
    steady : after.never_fails ≡ true
    steady = r.kept.never_fails ∙ w.never_fails

    by : (e : ReadError) → ReadDue (Accepts record_read.reads window) record_read.borrow record_read.takes_no_memory after e → ⊥
    by (reading.Io (reader.ReadSizeLimit n)) d = d (accepted k f)
    by (reading.Io reader.UnsupportedZeroCopy) d = let l : after.lends < 0 = d (accepted k f) in absurd (omega arith)
    by (reading.Io reader.OutOfMemory) d = true≢false (sym (steady_inside u w r.kept) ∙ d)
    by (reading.Io (reader.Io x)) d = true≢false (sym steady ∙ d.0)
    by reading.OutOfMemory d = let h : (true && true) ≡ false = subst (λ b. (b && true) ≡ false) steady d in true≢false h
    by _ d = d (accepted k f)

-- a window of a record's size was refused
pub record_denied : (old new : ReaderState) (e : IoReadError) → NoWindow 41 old new (reading.Io e) → SchemaReadRefused record_read old new (reading.Io e)
record_denied old new e d = (window_denied_refuses record_read.reads 41 sized record_read.borrow record_read.takes_no_memory old new (reading.Io e) d, inl d)

-- what serves a call and has a record at its front refuses no window of its size
pub record_served : (old new : ReadFrom) (e : IoReadError) → WindowRefused 41 (over_device old) (over_device new) e → AskedReadRefused old.device new.device e
    → 0 < old.device.sound → Front record_read.reads old.rest → ⊥
record_served old new (reader.ReadSizeLimit m) d a some f =
    let short : length old.rest < 41 = d.2.0 refl in
    let joins = ap length f.found.joins ∙ length-append f.found.encoding f.rest in
    absurd (omega (arith, short, joins, sized f.found.encoding f.value f.found.is_read))
record_served old new (reader.Io x) d a some f = let none = a.0.0 in absurd (omega (arith, none, some))
record_served old new _ d a some f = a

-- what is refused for no reason is not refused
pub ok_by : {T E : Type 0} {P : E → Type 0} (r : Result T E) → ((e : E) → P e → ⊥) → IfErr r P → IsOk r
ok_by (Ok x) why p = refl
ok_by (Err e) why p = absurd (why e p)

-- ---- writing

each_unit : (xs : List ℕ) → Each (λ x. Unit {0}) xs
each_unit [] = tt
each_unit (x ∷ xs) = (tt, each_unit xs)

-- what has 32 bytes for its last member can be written
can : (v : ℕ × (Bool × List ℕ)) → length v.1.1 ≡ 32 → record_write.can v
can v l = (tt, (tt, (l, each_unit v.1.1)))

size_by : {X : Type 0} {is_valid : X → Type 0} {model : X → ℕ × (Bool × List ℕ)} → WriteLaws is_valid model members_write → (v : ℕ × (Bool × List ℕ))
    → members_write.can v → members_write.size v ≡ 41
size_by {is_valid = is_valid} {model = model} l v c = written_size is_valid model members_write.can members_write.size members_write.meta 41 false l.statics
    refl v c

written : (v : ℕ × (Bool × List ℕ)) → members_write.can v → members_write.size v ≡ 41
written v c = size_by (pair_write_laws (number_write_laws 8 true)
    (pair_write_laws bool_write_laws (windowed_write_laws (array_write_laws 32 (λ n. n < 256 ^ 1) (λ n. n) (number_write 1 true) (number_write_laws 1 true)))))
    v c

-- a record is written, whose refusal is never told
abbrev unrefused : WriteGrammar (ℕ × (Bool × List ℕ))
unrefused = record {
  writes = record_write.writes;
  can = record_write.can;
  size = record_write.size;
  fits = record_write.fits;
  meta = record_write.meta;
  prealloc = record_write.prealloc;
  builtin = record_write.builtin;
  refused = λ v room added e. ⊥;
}

-- what serves a call and has room for a record makes it
pub record_fits : (old new : WrittenTo) (e : IoWriteError) → BytesWriteRefused 41 (slice_over old) (slice_over new) e
    → AskedWriteRefused old.device new.device e → 0 < old.device.sound → 41 ≤ slice_room old.content → ⊥
record_fits old new (writer.WriteSizeLimit m) d a some fits = let less = d.2.0 in absurd (omega (arith, less, fits))
record_fits old new (writer.Io x) d a some fits = let none = a.0.0 in absurd (omega (arith, none, some))
record_fits old new _ d a some fits = a

module _ {S K : Type 0} {put : S → List ℕ → S} {room : S → ℕ} (v : ℕ × (Bool × List ℕ)) (l : length v.1.1 ≡ 32) where
  denied_by : {X : Type 0} {is_valid : X → Type 0} {model : X → ℕ × (Bool × List ℕ)} → WriteLaws is_valid model members_write → WriterLaws put room
      → (old new : WriterState put room K) (e : IoWriteError) → BytesWriteRefused 41 old new e
      → WriteRefused record_write old new v (writing.Io e) × Stopped record_write old new v (writing.Io e)
  denied_by {is_valid = is_valid} {model = model} members laws old new e d = (
    windowed_unwritten members_write v (room_unwritten members_write v 41 (written v) is_valid model laws members old new e d),
    room_halted members_write v laws e refl d,
  )

  -- room for a record was refused
  pub record_unwritten : WriterLaws put room → (old new : WriterState put room K) (e : IoWriteError) → BytesWriteRefused 41 old new e
      → WriteRefused record_write old new v (writing.Io e) × Stopped record_write old new v (writing.Io e)
  record_unwritten laws old new e d =
      denied_by (pair_write_laws (number_write_laws 8 true) (pair_write_laws bool_write_laws
      (windowed_write_laws (array_write_laws 32 (λ n. n < 256 ^ 1) (λ n. n) (number_write 1 true) (number_write_laws 1 true))))) laws old new e d

  -- in a window of its size nothing of a record is refused
  pub record_written_through : (old made below after : WriterState put room K) (name name' : GName) (left left' : ℕ) (e : WriteError) → HasRoom 41 old made
      → below ≡ made → left ≡ 41
      → WriteRefused record_write (window_of below name left) (window_of after name' left') v e
      → Stopped record_write (window_of below name left) (window_of after name' left') v e → ⊥
  record_written_through old made below after name name' left left' e has same all u s =
      let stopped = window_stopped record_write v 41 (written v, lit< tt) old made below after name name' left left' e has same all u {k = unrefused} s
      (λ cannot inside added r. absurd (cannot (can v l))) in
      stopped.refused

  -- what of a record was written in a window of its size was written
  pub record_through : (old below after : WriterState put room K) (name name' : GName) (left left' : ℕ) → below ≡ old → 41 ≤ room old.content
      → Wrote record_write (window_of below name left) (window_of after name' left') v → Wrote record_write old after v
  record_through old below after name name' left left' same fits o = record {
    can = o.can;
    fits = let size = written v o.can in omega (arith, size, fits);
    encoding = o.encoding;
    is_encoding = o.is_encoding;
    took = record {
      same = record {
        kept = ap (λ k. k.target) o.took.same.kept ∙ ap (λ s. s.kept) same;
        never_fails = ap (λ k. k.never_fails) o.took.same.kept ∙ ap (λ s. s.never_fails) same;
        finishes = ap (λ k. k.finishes) o.took.same.kept ∙ ap (λ s. s.finishes) same;
      };
      sound = record {
        failures = ap (λ k. k.failures) o.took.same.kept ∙ ap (λ s. s.failures) same;
        has_failed = ap (λ k. k.has_failed) o.took.same.kept ∙ ap (λ s. s.has_failed) same;
      };
      content = ap (λ c. c.target) o.took.content ∙ ap (λ s. put s.content o.encoding) same;
    };
  }
