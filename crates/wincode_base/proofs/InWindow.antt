-- What is read from, or written to, a window of the right size is read from, or written to, what is below.
use Rattle.std.proofs.Common.{◌≡◌, ◌∙◌, sym, subst, ℕ, ◌<◌, ◌&&◌, not, Bool, true, false, List, [], ◌++◌, length, refl, arith, append-nil, IsTrue}
use Rattle.std.proofs.Common.{inl, inr, ◌-◌, ap}
use Rattle.wincode_io.specs.Readers.{ReaderState, Windowed, IsSound, is_steady}
use Rattle.wincode_io.specs.PlaceLaws.{loses_onward}
use Rattle.wincode_io.specs.Writers.{WriterState, WriterLaws, BytesWriteRefused}
use Rattle.wincode_base.specs.Grammar.{ReadRefusal, WriteGrammar, WriteLaws, IsReadStatic, IsWriteStatic}
use Rattle.wincode_base.specs.LeafLaws.{same_front}
use Rattle.wincode_base.specs.InWindow.{WindowWriteRefused, windowed_write, WindowReadRefused, StaticReadRefused}
use Rattle.wincode_base.specs.Lists.{item_write, items_write, ItemsWriteRefused}
use Rattle.wincode_base.specs.WriteSequences.{wrote_map, unwritten_map, stopped_map, nothing_stopped, piece_denied}
use Rattle.wincode_base.specs.Outcomes.{ReadDue, ReaderDue, ReadTells, Accepts, ReadRefused, Wrote, WriteRefused, Stopped, WriterDue, IsAble, Gives}
use Rattle.wincode_base.specs.declared.meta.TypeMeta.{TypeMeta}
use Rattle.wincode_base.specs.declared.meta.TypeMeta.TheVariants.{Static, Dynamic}
use Rattle.wincode_base.specs.declared.error.ReadError.{ReadError}
use Rattle.wincode_io.specs.declared.error.ReadError.{ReadError as IoReadError}
use Rattle.wincode_base.specs.declared.error.WriteError.{WriteError}
use Rattle.wincode_io.specs.declared.error.WriteError.{WriteError as IoWriteError}
use Rattle.wincode_base.specs.declared.error.ReadError.TheVariants as reading
use Rattle.wincode_base.specs.declared.error.WriteError.TheVariants as writing
use Rattle.wincode_io.specs.declared.error.ReadError.TheVariants as reader
use Rattle.wincode_io.specs.declared.error.WriteError.TheVariants as writer
use Rattle.wincode_base.specs.FixedSizeLaws.{takes_joins}

-- ---- reading

is_known_by : (b : Bool) → b ≡ true → IsTrue b
is_known_by b e = e

no_memory_alone : (a b s : Bool) → a ≡ true → (a && s) ≡ false → (b && s) ≡ false
no_memory_alone a b false e h = elim b as (λ c. (c && false) ≡ false) [ true ↦ refl | false ↦ refl ]
no_memory_alone true b true e h = absurd (cc)
no_memory_alone false b true e h = absurd (cc)

unsteady_inside : (inner outer : ReaderState) → inner.never_fails ≡ true → inner.counts_windows ≡ outer.counts_windows → is_steady inner ≡ false
    → is_steady outer ≡ false
unsteady_inside inner outer s c d = subst (λ k. (outer.never_fails && not k) ≡ false) c
    (no_memory_alone inner.never_fails outer.never_fails (not inner.counts_windows) s d)

reader_due_inside : (f f' : Type 0) (borrow : ℕ) (inner outer : ReaderState) → (f' → f) → inner.lends ≡ outer.lends → inner.never_fails ≡ true
    → inner.counts_windows ≡ outer.counts_windows → (e : IoReadError) → ReaderDue f borrow inner e → ReaderDue f' borrow outer e
reader_due_inside f f' borrow inner outer m l s c (reader.ReadSizeLimit n) d = λ x. d (m x)
reader_due_inside f f' borrow inner outer m l s c reader.UnsupportedZeroCopy d = λ x. let h : inner.lends < borrow = d (m x) in omega arith
reader_due_inside f f' borrow inner outer m l s c reader.OutOfMemory d = unsteady_inside inner outer s c d
reader_due_inside f f' borrow inner outer m l s c (reader.Io e) d = let h : true ≡ false = sym s ∙ d.0 in absurd (cc)

due_inside : (f f' : Type 0) (borrow : ℕ) (takes_no_memory : Bool) (inner outer : ReaderState) → (f' → f) → inner.lends ≡ outer.lends → inner.never_fails
    ≡ true → inner.counts_windows ≡ outer.counts_windows → (e : ReadError) → ReadDue f borrow takes_no_memory inner e
    → ReadDue f' borrow takes_no_memory outer e
due_inside f f' borrow takes_no_memory inner outer m l s c (reading.Io e) d = reader_due_inside f f' borrow inner outer m l s c e d
due_inside f f' borrow takes_no_memory inner outer m l s c reading.OutOfMemory d = no_memory_alone inner.never_fails outer.never_fails takes_no_memory s d
due_inside f f' borrow takes_no_memory inner outer m l s c _ d = λ x. d (m x)

-- what is refused inside a window, which has no device, tells that the device did not fail
window_tells : (f : Type 0) (borrow : ℕ) (takes_no_memory : Bool) (old new inner : ReaderState) (e : ReadError) → inner.never_fails ≡ true → IsSound old new
    → ReadDue f borrow takes_no_memory inner e → ReadTells old new e
window_tells f borrow takes_no_memory old new inner (reading.Io (reader.ReadSizeLimit n)) never sound d = sound
window_tells f borrow takes_no_memory old new inner (reading.Io reader.UnsupportedZeroCopy) never sound d = sound
window_tells f borrow takes_no_memory old new inner (reading.Io reader.OutOfMemory) never sound d = sound
window_tells f borrow takes_no_memory old new inner (reading.Io (reader.Io e)) never sound d = let h : true ≡ false = sym never ∙ d.0 in absurd (cc)
window_tells f borrow takes_no_memory old new inner _ never sound d = sound

-- reading by a relation whose encodings have n bytes
module _ {V : Type 0} (reads : List ℕ → V → Type 0) (n : ℕ) (sized : (b : List ℕ) (v : V) → reads b v → length b ≡ n) where
  -- a front of the reader is all of the window
  narrow : (old new window : ReaderState) → Windowed n old new window → Accepts reads old → Accepts reads window
  narrow old new window w a =
      let f = a.front.found in
      let l : length window.rest ≡ length f.encoding = w.takes.size ∙ sym (sized f.encoding a.front.value f.is_read) in
      let e : window.rest ++ new.rest ≡ f.encoding ++ a.front.rest = sym (takes_joins w.takes a.is_known) ∙ f.joins in
      let same = same_front window.rest f.encoding new.rest a.front.rest l e in
      record {
        is_known = is_known_by window.is_known w.is_known;
        fits = omega (arith, w.takes.size, (w.takes.loses.rest a.is_known).0, a.fits);
        front = record {
          value = a.front.value;
          rest = [];
          found =
              record { encoding = f.encoding; is_read = f.is_read; joins = same ∙ sym (append-nil f.encoding) };
        };
      }

  -- what was read of the window was read of the reader
  pub window_gives : (old new window after : ReaderState) (v : V) → Windowed n old new window → Gives reads window after v → Gives reads old new v
  window_gives old new window after v w r = record {
    kept = w.takes.loses.kept;
    sound = w.takes.loses.sound;
    found = λ k.
        let told : IsTrue window.is_known = w.is_known in
        let f = r.found told in
        let l : length window.rest ≡ length f.encoding = w.takes.size ∙ sym (sized f.encoding v f.is_read) in
        let same : window.rest ≡ f.encoding = same_front window.rest f.encoding [] after.rest l (append-nil window.rest ∙ f.joins) in
        record { encoding = f.encoding; is_read = f.is_read; joins = takes_joins w.takes k ∙ ap (λ r. r ++ new.rest) same };
    place = loses_onward n old new w.takes.loses;
  }

  pub window_refuses : (borrow : ℕ) (takes_no_memory : Bool) (old new window after : ReaderState) (e : ReadError) → Windowed n old new window
      → ReadRefused reads borrow takes_no_memory window after e → ReadRefused reads borrow takes_no_memory old new e
  window_refuses borrow takes_no_memory old new window after e w r = record {
    kept = w.takes.loses.kept;
    left = λ t. record { front = window.rest; joins = takes_joins w.takes t };
    place = loses_onward n old new w.takes.loses;
    device = window_tells (Accepts reads window) borrow takes_no_memory old new after e (r.kept.never_fails ∙ w.never_fails) w.takes.loses.sound r.due;
    due = due_inside (Accepts reads window) (Accepts reads old) borrow takes_no_memory after new (narrow old new window w)
        (r.kept.lends ∙ w.lends ∙ sym w.takes.loses.kept.lends) (r.kept.never_fails ∙ w.never_fails)
        (r.kept.counts_windows ∙ w.counts_windows ∙ sym w.takes.loses.kept.counts_windows) e r.due;
  }

-- what is known where a grammar has a size
pub sized_of : {V : Type 0} (reads : List ℕ → V → Type 0) (m : TypeMeta) (s : ℕ) (z : Bool) → IsReadStatic reads m → m ≡ Static s z → (b : List ℕ) (v : V)
    → reads b v → length b ≡ s
sized_of reads m s z l e = let h = subst (IsReadStatic reads) e l in h.0

module _ (m : TypeMeta) (old new : ReaderState) (e : ReadError) (inside : ReadRefusal) where
  pub dynamic_place : m ≡ Dynamic → inside old new e → StaticReadRefused m inside old new e
  dynamic_place is r = rw is r

  pub static_place : {s : ℕ} {z : Bool} → m ≡ Static s z → WindowReadRefused s inside old new e → StaticReadRefused m inside old new e
  static_place is r = rw is r

-- ---- writing

pub written_size : {X V : Type 0} (is_valid : X → Type 0) (model : X → V) (can : V → Type 0) (size : V → ℕ) (m : TypeMeta) (s : ℕ) (z : Bool)
    → IsWriteStatic is_valid model can size m → m ≡ Static s z → (v : V) → can v → size v ≡ s
written_size is_valid model can size m s z l e = let h = subst (IsWriteStatic is_valid model can size) e l in h.1

module _ {S K V : Type 0} {put : S → List ℕ → S} {room : S → ℕ} (g : WriteGrammar V) (v : V) (n : ℕ) (sized : g.can v → g.size v ≡ n) where
  room_due : (old new : WriterState put room K) (e : IoWriteError) → BytesWriteRefused n old new e → WriterDue (IsAble g old v) new e
  room_due old new (writer.WriteSizeLimit m) d = λ x. let k = d.2.0 in let s = sized x.0 in let f = x.1 in absurd (omega arith)
  room_due old new (writer.Io e) d = d.2
  room_due old new writer.OutOfMemory d = d.2

  -- room for n bytes was refused
  pub room_unwritten : {X : Type 0} (is_valid : X → Type 0) (model : X → V) → WriterLaws put room → WriteLaws is_valid model g
      → (old new : WriterState put room K) (e : IoWriteError)
      → BytesWriteRefused n old new e → WriteRefused g old new v (writing.Io e)
  room_unwritten is_valid model laws l old new e d = record {
    same = d.0.same;
    began = λ c. let t = l.has_encoding v c in record {
      front = [];
      more = t.0;
      is_encoding = t.1;
      within = omega arith;
      added =
          d.0.content ∙ sym (laws.nil old.content);
    };
    device = d.1;
    due = room_due old new e d;
  }

-- ---- where it stands

static_is : {V : Type 0} (g : WriteGrammar V) (v : V) {s : ℕ} {z : Bool} (m : TypeMeta) (room : ℕ) (added : List ℕ) (e : WriteError) → m ≡ Static s z
    → WindowWriteRefused (Static s z) g v room added e → WindowWriteRefused m g v room added e
static_is g v m room added e is x = rw is x

dynamic_is : {V : Type 0} (g : WriteGrammar V) (v : V) (m : TypeMeta) (room : ℕ) (added : List ℕ) (e : WriteError) → m ≡ Dynamic → g.refused v room added e
    → WindowWriteRefused m g v room added e
dynamic_is g v m room added e is x = rw is x

module _ {S K V : Type 0} {put : S → List ℕ → S} {room : S → ℕ} (g : WriteGrammar V) (v : V) {old new : WriterState put room K} where
  pub windowed_wrote : Wrote g old new v → Wrote (windowed_write g) old new v
  windowed_wrote r = wrote_map g (windowed_write g) v v (λ c. c) refl (λ b w. w) r

  pub windowed_unwritten : {e : WriteError} → WriteRefused g old new v e → WriteRefused (windowed_write g) old new v e
  windowed_unwritten u = unwritten_map g (windowed_write g) v v (λ c. c) refl (λ b w. w) u

  pub dynamic_halted : {e : WriteError} → g.meta ≡ Dynamic → Stopped g old new v e → Stopped (windowed_write g) old new v e
  dynamic_halted {e} is s = stopped_map g (windowed_write g) v v (λ a r. dynamic_is g v g.meta (room old.content) a e is r) s

  -- the room for it was refused
  pub room_halted : {s : ℕ} {z : Bool} → WriterLaws put room → (e : IoWriteError) → g.meta ≡ Static s z → BytesWriteRefused s old new e
      → Stopped (windowed_write g) old new v (writing.Io e)
  room_halted {s} laws e is d = nothing_stopped laws old new (writing.Io e) d.0.content
      (static_is g v g.meta (room old.content) [] (writing.Io e) is (inl (piece_denied s old new e d)))

module _ {S K V : Type 0} {put : S → List ℕ → S} {room : S → ℕ} (g : WriteGrammar V) (v : V) {old new : WriterState put room K} where
  -- an item of one size was refused, and nothing was added
  pub short_halted : {s : ℕ} {z : Bool} (n : ℕ) → WriterLaws put room → (e : IoWriteError) → g.meta ≡ Static s z → BytesWriteRefused n old new e
      → Stopped (item_write g) old new v (writing.Io e)
  short_halted n laws e is d = nothing_stopped laws old new (writing.Io e) d.0.content (λ dynamic. absurd (cc (is, dynamic)))

-- what can't be written was refused inside
pub static_inside : {V : Type 0} (g : WriteGrammar V) (v : V) (m : TypeMeta) {s : ℕ} {z : Bool} (room : ℕ) (added : List ℕ) (e : WriteError) → m ≡ Static s z
    → (g.can v → ⊥) → (inside : ℕ) → g.refused v inside added e → WindowWriteRefused m g v room added e
static_inside g v m room added e is cannot inside r = rw is (inr (cannot, (inside, r)))

-- items of no one size go through no window
items_alike : {V : Type 0} (g : WriteGrammar V) (vs : List V) (room : ℕ) (added : List ℕ) (e : WriteError) → ItemsWriteRefused g vs room added e
    → ItemsWriteRefused (windowed_write g) vs room added e
items_alike g vs room added e d = λ dynamic. let i = d dynamic in record {
  before = i.before;
  item = i.item;
  after = i.after;
  encoding = i.encoding;
  rest = i.rest;
  is = i.is;
  written = i.written;
  joins = i.joins;
  refused = dynamic_is g i.item g.meta (room - length i.encoding) i.rest e dynamic i.refused;
}

module _ {S K V : Type 0} {put : S → List ℕ → S} {room : S → ℕ} (g : WriteGrammar V) (vs : List V) {old new : WriterState put room K} where
  pub windowed_items_wrote : Wrote (items_write g) old new vs → Wrote (items_write (windowed_write g)) old new vs
  windowed_items_wrote r = wrote_map (items_write g) (items_write (windowed_write g)) vs vs (λ c. c) refl (λ b w. w) r

  pub windowed_items_unwritten : {e : WriteError} → WriteRefused (items_write g) old new vs e → WriteRefused (items_write (windowed_write g)) old new vs e
  windowed_items_unwritten u = unwritten_map (items_write g) (items_write (windowed_write g)) vs vs (λ c. c) refl (λ b w. w) u

  pub windowed_items_halted : {e : WriteError} → Stopped (items_write g) old new vs e → Stopped (items_write (windowed_write g)) old new vs e
  windowed_items_halted {e} h = stopped_map (items_write g) (items_write (windowed_write g)) vs vs (λ a r. items_alike g vs (room old.content) a e r) h
