-- Items of one size together: reading and writing them through one window.
use Rattle.std.proofs.Common.{◌≡◌, ◌∙◌, sym, ap, subst, ℕ, ◌+◌, ◌*◌, ◌<◌, ◌≤◌, ◌^◌, Bool, true, false, List, [], ◌∷◌, ◌++◌, length, zero, suc, refl}
use Rattle.std.proofs.Common.{arith, Some, None, IsTrue, append-nil, length-append, true≢false, cond, nat_lt, inl, inr, ◌⊎◌, Bor}
use Rattle.std.specs.Prelude.{Option}
use Rattle.std.specs.Option.{is_some}
use Rattle.std.specs.Borrow.{GName}
use Rattle.std.proofs.lemmas.Bool.{lt-ltb, ltb-true}
use Rattle.std.proofs.lemmas.Option.{cond_some}
use Rattle.wincode_io.specs.Joins.{Joined, Each, total, AreItems}
use Rattle.wincode_io.specs.PlaceLaws.{still, sound_refl, loses_onward}
use Rattle.wincode_io.specs.Readers.{ReaderState, Windowed, Stays}
use Rattle.wincode_io.specs.Writers.{WriterState, WriterLaws, IsSameWriter, IsSoundWriter, HasRoom, BytesWriteRefused}
use Rattle.wincode_io.specs.WriteWindows.{window_of, window_room}
use Rattle.wincode_base.specs.Grammar.{ReadGrammar, WriteGrammar, WriteLaws, IsReadStatic, IsWriteStatic}
use Rattle.wincode_base.specs.InWindow.{WindowReadRefused}
use Rattle.wincode_base.specs.LeafLaws.{same_front}
use Rattle.wincode_base.specs.Lengths.{Scheme, HasEncoding, LengthSizeRefused, encoding_len}
use Rattle.wincode_base.specs.Lists.{parts_write, list_write_of, list_bytes, PartsWriteRefused, ListWriteRefused, WholeWriteRefused}
use Rattle.wincode_base.specs.Lists.{InnerWriteRefused, SpanWriteRefused, ItemReadRefused, ItemsReadRefused, RunReadRefused, AreThere}
use Rattle.wincode_base.specs.Outcomes.{Gives, ReadRefused, Wrote, WriteRefused, Stopped, WriteDue, WriteTells, IsAble, IsOfValueAlone, past_usize}
use Rattle.wincode_base.specs.ItemSizes.{item_size, is_known, run_size, behind_size, MayBeOf, IsReadItemSize, IsWriteItemSize}
use Rattle.wincode_io.specs.WriterLaws.{same_refl, same_trans, writer_sound_refl}
use Rattle.wincode_base.specs.WriteSequences.{wrote_map, unwritten_map, stopped_map, nothing_stopped, piece_denied}
use Rattle.wincode_base.specs.declared.error.ReadError.{ReadError}
use Rattle.wincode_base.specs.declared.error.ReadError.TheVariants as reading
use Rattle.wincode_base.specs.declared.error.WriteError.{WriteError}
use Rattle.wincode_base.specs.declared.error.WriteError.TheVariants as writing
use Rattle.wincode_io.specs.declared.error.WriteError.{WriteError as IoWriteError}
use Rattle.wincode_io.specs.declared.error.WriteError.TheVariants as writer
use Rattle.wincode_base.specs.declared.meta.TypeMeta.{TypeMeta}
use Rattle.wincode_base.specs.declared.meta.TypeMeta.TheVariants.{Static, Dynamic}
use Rattle.wincode_base.specs.declared.sizes.ItemSize.{ItemSize}
use Rattle.wincode_base.specs.declared.sizes.ItemSize.TheVariants.{Bytes, Vast, Unknown}
use Rattle.wincode_base.specs.FixedSizeLaws.{takes_joins}

-- ---- the size of n items

joined_size : {V : Type 0} (reads : List ℕ → V → Type 0) (s : ℕ) → ((b : List ℕ) (v : V) → reads b v → length b ≡ s) → (vs : List V) (b : List ℕ)
    → Joined reads vs b → length b ≡ length vs * s
joined_size reads s h [] b j = ap length j ∙ omega arith
joined_size reads s h (v ∷ vs) b j = omega (arith, ap length j.4, length-append j.0 j.1, h j.0 v j.2, joined_size reads s h vs j.1 j.3)

joined_vast : {V : Type 0} (reads : List ℕ → V → Type 0) → ((b : List ℕ) (v : V) → reads b v → 2 ^ 64 ≤ length b) → (vs : List V) (b : List ℕ) → 0 < length vs
    → Joined reads vs b → 2 ^ 64 ≤ length b
joined_vast reads h [] b l j = absurd (omega arith)
joined_vast reads h (v ∷ vs) b l j = omega (arith, ap length j.4, length-append j.0 j.1, h j.0 v j.2)

joined_none : {V : Type 0} (reads : List ℕ → V → Type 0) → (vs : List V) (b : List ℕ) → length vs ≡ 0 → Joined reads vs b → length b ≡ 0
joined_none reads [] b l j = ap length j
joined_none reads (v ∷ vs) b l j = absurd (omega arith)

cond_none : {A : Type 0} (b : Bool) (x : A) → cond b (Some x) None ≡ None → b ≡ false
cond_none true x e = absurd (true≢false (ap is_some e))
cond_none false x e = refl

pub not_lt : (m n : ℕ) → nat_lt m n ≡ false → n ≤ m
not_lt m n e = elim (cases_lt m n) [ inl l ↦ absurd (true≢false (sym (lt-ltb m n l) ∙ e)) | inr l ↦ l ] where
  cases_lt : (m n : ℕ) → (m < n) ⊎ (n ≤ m)
  cases_lt zero zero = inr (omega arith)
  cases_lt zero (suc n) = inl (omega arith)
  cases_lt (suc m) zero = inr (omega arith)
  cases_lt (suc m) (suc n) = elim (cases_lt m n) [ inl l ↦ inl (omega (arith, l)) | inr l ↦ inr (omega (arith, l)) ]

vast_some : (n t : ℕ) (b : Bool) → nat_lt 0 n ≡ b → cond {A = Option ℕ} b None (Some 0) ≡ Some t → (n ≡ 0) × (t ≡ 0)
vast_some n t true e h = absurd (true≢false (sym (ap is_some h)))
vast_some n t false e h = let l = not_lt 0 n e in let z : 0 ≡ t = cc in (omega (arith, l), sym z)

vast_none : (n : ℕ) (b : Bool) → nat_lt 0 n ≡ b → cond {A = Option ℕ} b None (Some 0) ≡ None → 0 < n
vast_none n true e h = ltb-true 0 n e
vast_none n false e h = absurd (true≢false (ap is_some h))

pub known_size : (size : ItemSize) → (size ≡ Unknown → ⊥) → IsTrue (is_known size)
known_size (Bytes s) n = refl
known_size Vast n = refl
known_size Unknown n = absurd (n refl)

module _ {V : Type 0} (g : ReadGrammar V) (n : ℕ) where
  -- the encodings of n items have the size that they have together
  pub run_encoding : (size : ItemSize) (t : ℕ) → IsReadItemSize g size → run_size n size ≡ Some t → (b : List ℕ) (vs : List V) → AreItems n g.reads b vs
      → length b ≡ t
  run_encoding (Bytes s) t h e b vs r = joined_size g.reads s h.0 vs b r.1 ∙ ap (λ k. k * s) r.0 ∙ (cond_some (nat_lt (n * s) (2 ^ 64)) (n * s) t e).1
  run_encoding Vast t h e b vs r = let z = vast_some n t (nat_lt 0 n) refl e in joined_none g.reads vs b (r.0 ∙ z.0) r.1 ∙ sym z.1
  run_encoding Unknown t h e b vs r = absurd (true≢false (sym (ap is_some e)))

  run_vast : (size : ItemSize) → IsTrue (is_known size) → IsReadItemSize g size → run_size n size ≡ None → (b : List ℕ) (vs : List V) → AreItems n g.reads b vs
      → 2 ^ 64 ≤ length b
  run_vast (Bytes s) k h e b vs r = let l = not_lt (n * s) (2 ^ 64) (cond_none (nat_lt (n * s) (2 ^ 64)) (n * s) e) in
      omega (arith, l, joined_size g.reads s h.0 vs b r.1 ∙ ap (λ k. k * s) r.0)
  run_vast Vast k h e b vs r = let l = vast_none n (nat_lt 0 n) refl e in joined_vast g.reads h vs b (omega (arith, l, r.0)) r.1
  run_vast Unknown k h e b vs r = absurd (true≢false (sym k))

  -- ---- reading n items through a window

  pub run_gives : (t : ℕ) → ((b : List ℕ) (vs : List V) → AreItems n g.reads b vs → length b ≡ t) → (old new window after : ReaderState) (vs : List V)
      → Windowed t old new window → Gives (AreItems n g.reads) window after vs → Gives (AreItems n g.reads) old new vs
  run_gives t sized old new window after vs w r = record {
    kept = w.takes.loses.kept;
    sound = w.takes.loses.sound;
    found = λ k.
        let told : IsTrue window.is_known = w.is_known in
        let f = r.found told in
        let l : length window.rest ≡ length f.encoding = w.takes.size ∙ sym (sized f.encoding vs f.is_read) in
        let same : window.rest ≡ f.encoding = same_front window.rest f.encoding [] after.rest l (append-nil window.rest ∙ f.joins) in
        record { encoding = f.encoding; is_read = f.is_read; joins = takes_joins w.takes k ∙ ap (λ r. r ++ new.rest) same };
    place = loses_onward t old new w.takes.loses;
  }

  -- a window of all of them has their bytes
  there_by : (m : TypeMeta) (size : ItemSize) (t : ℕ) → g.meta ≡ m → IsReadItemSize g size → run_size n size ≡ Some t → (old new window : ReaderState)
      → Windowed t old new window → AreThere n m window
  there_by Dynamic size t e h r old new window w = tt
  there_by (Static k z) (Bytes s) t e h r old new window w =
      let c = cond_some (nat_lt (n * s) (2 ^ 64)) (n * s) t r in
      let same : k ≡ s = subst (λ m. MayBeOf m s) e h.1 in
      let few = ltb-true (n * s) (2 ^ 64) c.0 in
      let bytes : n * k ≡ n * s = ap (λ i. n * i) same in
      (w.never_fails, w.is_known, omega (arith, w.takes.size, c.1, bytes), omega (arith, w.takes.size, c.1, few))
  there_by (Static k z) Vast t e h r old new window w =
      let v = vast_some n t (nat_lt 0 n) refl r in
      let none : n * k ≡ 0 * k = ap (λ i. i * k) v.0 in
      (w.never_fails, w.is_known, omega (arith, w.takes.size, none), omega (arith, w.takes.size, v.1))
  there_by (Static k z) Unknown t e h r old new window w = absurd (true≢false (sym (ap is_some r)))

  inside_exact : (size : ItemSize) (t : ℕ) → IsReadItemSize g size → run_size n size ≡ Some t → (old new : ReaderState) (e : ReadError)
      → WindowReadRefused t (ItemsReadRefused n g) old new e → WindowReadRefused t (ItemReadRefused n g) old new e
  inside_exact size t h r old new e w = elim w [
    | inl d ↦ inl d
    | inr d ↦ inr (d.0, d.1, d.2, d.3 (there_by g.meta size t refl h r old new d.0 d.2))
  ]

  pub run_placed : (size : ItemSize) (t : ℕ) → IsReadItemSize g size → run_size n size ≡ Some t → (old new : ReaderState) (e : ReadError)
      → WindowReadRefused t (ItemsReadRefused n g) old new e → RunReadRefused n size g old new e
  run_placed (Bytes s) t k h old new e w = let x = inside_exact (Bytes s) t k h old new e w in rw h x
  run_placed Vast t k h old new e w = let x = inside_exact Vast t k h old new e w in rw h x
  run_placed Unknown t k h old new e w = absurd (true≢false (sym (ap is_some h)))

  -- nothing is known of the size
  pub run_each : (size : ItemSize) → size ≡ Unknown → IsReadItemSize g size → (old new : ReaderState) (e : ReadError) → ItemsReadRefused n g old new e
      → RunReadRefused n size g old new e
  run_each Unknown is dynamic old new e d = d (subst (λ m. AreThere n m old) (sym dynamic) tt)
  run_each (Bytes s) is dynamic old new e d = absurd (cc)
  run_each Vast is dynamic old new e d = absurd (cc)

  stays_here : (s : ReaderState) → Stays s s
  stays_here s = record {
    kept = record { lends = refl; never_fails = refl; counts_windows = refl; is_known = refl };
    rest = λ t. refl;
    ready = omega arith;
    place = refl;
  }

  -- they are past `usize::MAX` together
  pub run_long : (size : ItemSize) → IsTrue (is_known size) → run_size n size ≡ None → (s : ReaderState) (e : ReadError) (x : Bor (List ℕ)) → x.now
      ≡ past_usize → e ≡ reading.LengthEncodingOverflow x → RunReadRefused n size g s s e
  run_long (Bytes k) known h s e x text is = rw h (rw is ((stays_here s, sound_refl s), text))
  run_long Vast known h s e x text is = rw h (rw is ((stays_here s, sound_refl s), text))
  run_long Unknown known h s e x text is = absurd (true≢false (sym known))

  pub too_long : (size : ItemSize) → IsTrue (is_known size) → IsReadItemSize g size → run_size n size ≡ None
      → (borrow : ℕ) (s : ReaderState) (e : ReadError) (x : _) → e ≡ reading.LengthEncodingOverflow x → ReadRefused (AreItems n g.reads) borrow false s s e
  too_long size known h none borrow s e x is = rw is (record {
    kept = (stays_here s).kept;
    left = λ t. record { front = []; joins = refl };
    place = λ t. still s;
    device = sound_refl s;
    due = λ a. let f = a.front.found in let l = run_vast size known h none f.encoding a.front.value f.is_read in
        absurd (omega (arith, l, a.fits, ap length f.joins, length-append f.encoding a.front.rest));
  })

-- what is known of the size of items is what is announced of it
pub encoding_size : {V : Type 0} (g : ReadGrammar V) → IsReadStatic g.reads g.meta → IsReadItemSize g (item_size g.meta)
encoding_size {V} g statics = by g.meta statics refl where
  by : (m : TypeMeta) → IsReadStatic g.reads m → g.meta ≡ m → IsReadItemSize g (item_size m)
  by Dynamic s e = e
  by (Static k z) s e = (s.0, subst (λ m. MayBeOf m k) (sym e) refl)

pub value_size : {X V : Type 0} (is_valid : X → Type 0) (model : X → V) (g : WriteGrammar V) (m : TypeMeta) → IsWriteStatic is_valid model g.can g.size m
    → IsWriteItemSize g (item_size m)
value_size is_valid model g Dynamic s = tt
value_size is_valid model g (Static k z) s = s.1

-- ---- writing n items behind their length through a window

each_total : {V : Type 0} (g : WriteGrammar V) (s : ℕ) → ((v : V) → g.can v → g.size v ≡ s) → (vs : List V) → Each g.can vs → total g.size vs ≡ length vs * s
each_total g s h [] c = omega arith
each_total g s h (v ∷ vs) c = omega (arith, h v c.0, each_total g s h vs c.1)

vast_total : {V : Type 0} (g : WriteGrammar V) → ((v : V) → g.can v → 2 ^ 64 ≤ g.size v) → (vs : List V) → 0 < length vs → Each g.can vs → 2 ^ 64
    ≤ total g.size vs
vast_total g h [] l c = absurd (omega arith)
vast_total g h (v ∷ vs) l c = omega (arith, h v c.0)

none_total : {V : Type 0} (g : WriteGrammar V) → (vs : List V) → length vs ≡ 0 → total g.size vs ≡ 0
none_total g [] l = refl
none_total g (v ∷ vs) l = absurd (omega arith)

module _ {V : Type 0} (g : WriteGrammar V) (n : ℕ) (vs : List V) (many : length vs ≡ n) where
  run_total : (size : ItemSize) (t : ℕ) → IsWriteItemSize g size → run_size n size ≡ Some t → Each g.can vs → total g.size vs ≡ t
  run_total (Bytes s) t h e c = each_total g s h vs c ∙ ap (λ k. k * s) many ∙ (cond_some (nat_lt (n * s) (2 ^ 64)) (n * s) t e).1
  run_total Vast t h e c = let z = vast_some n t (nat_lt 0 n) refl e in none_total g vs (many ∙ z.0) ∙ sym z.1
  run_total Unknown t h e c = absurd (true≢false (sym (ap is_some e)))

  run_over : (size : ItemSize) → IsTrue (is_known size) → IsWriteItemSize g size → run_size n size ≡ None → Each g.can vs → 2 ^ 64 ≤ total g.size vs
  run_over (Bytes s) k h e c = let l = not_lt (n * s) (2 ^ 64) (cond_none (nat_lt (n * s) (2 ^ 64)) (n * s) e) in
      omega (arith, l, each_total g s h vs c ∙ ap (λ k. k * s) many)
  run_over Vast k h e c = let l = vast_none n (nat_lt 0 n) refl e in vast_total g h vs (omega (arith, l, many)) c
  run_over Unknown k h e c = absurd (true≢false (sym k))

  behind_by : (before : ℕ) (r : Option ℕ) (w : ℕ) → behind_size before r ≡ Some w → (t : ℕ) × (r ≡ Some t) × (w ≡ before + t) × (w < 2 ^ 64)
  behind_by before None w e = absurd (true≢false (sym (ap is_some e)))
  behind_by before (Some t) w e = let s = cond_some (nat_lt (before + t) (2 ^ 64)) (before + t) w e in let l = ltb-true (before + t) (2 ^ 64) s.0 in let is =
      s.1 in (t, refl, sym is, omega (arith, l, is))

  behind_over : (before sum : ℕ) (r : Option ℕ) → ((t : ℕ) → r ≡ Some t → sum ≡ t) → (r ≡ None → 2 ^ 64 ≤ sum) → behind_size before r ≡ None → 2 ^ 64
      ≤ before + sum
  behind_over before sum None some none e = let l = none refl in omega (arith, l)
  behind_over before sum (Some t) some none e = let l = not_lt (before + t) (2 ^ 64) (cond_none (nat_lt (before + t) (2 ^ 64)) (before + t) e) in
      omega (arith, l, some t refl)

  module _ (s : Scheme) (count : ℕ) (size : ItemSize) (sized : IsWriteItemSize g size) (before : ℕ) (encoding : before ≡ encoding_len (s.encoding n)) where
    -- the list has the size that is asked room for
    pub list_size : (w : ℕ) → behind_size before (run_size n size) ≡ Some w → ((parts_write s count g).can vs → (parts_write s count g).size vs ≡ w)
        × (w < 2 ^ 64)
    list_size w e =
        let b = behind_by before (run_size n size) w e in
        ((λ c. let t = run_total size b.0 sized b.1 c.1 in omega (arith, ap (λ k. encoding_len (s.encoding k)) many, encoding, t, b.2)), b.3)

    pub list_over : IsTrue (is_known size) → behind_size before (run_size n size) ≡ None → (parts_write s count g).can vs → 2 ^ 64
        ≤ (parts_write s count g).size vs
    list_over k e c =
        let l = behind_over before (total g.size vs) (run_size n size) (λ t q. run_total size t sized q c.1) (λ q. run_over size k sized q c.1) e in
        omega (arith, ap (λ k. encoding_len (s.encoding k)) many, encoding, l)

module _ {S K V : Type 0} {put : S → List ℕ → S} {room : S → ℕ} (g : WriteGrammar V) (v : V) where
  faultless_due : (able : Type 0) (new : WriterState put room K) (e : WriteError) → IsOfValueAlone e → (able → ⊥) → WriteDue able new e
  faultless_due able new (writing.Io (writer.WriteSizeLimit m)) f h = h
  faultless_due able new (writing.Io (writer.Io e)) f h = absurd f
  faultless_due able new (writing.Io writer.OutOfMemory) f h = absurd f
  faultless_due able new writing.OutOfMemory f h = absurd f
  faultless_due able new _ f h = h

  faultless_tells : (old new : WriterState put room K) (e : WriteError) → IsOfValueAlone e → IsSoundWriter old new → WriteTells old new e
  faultless_tells old new (writing.Io (writer.WriteSizeLimit m)) f h = h
  faultless_tells old new (writing.Io (writer.Io e)) f h = absurd f
  faultless_tells old new (writing.Io writer.OutOfMemory) f h = h
  faultless_tells old new _ f h = h

  -- nothing was written of what can't be written within `usize`
  pub unfit_unwritten : {X : Type 0} {is_valid : X → Type 0} {model : X → V} → WriterLaws put room → WriteLaws is_valid model g
      → (old : WriterState put room K) (e : WriteError) → IsOfValueAlone e → (g.can v → 2 ^ 64 ≤ g.size v) → WriteRefused g old old v e
  unfit_unwritten laws l old e f over = record {
    same = same_refl old;
    began = λ c. let t = l.has_encoding v c in record { front = []; more = t.0; is_encoding = t.1; within = omega arith; added = sym (laws.nil old.content) };
    device = faultless_tells old old e f (writer_sound_refl old);
    due = faultless_due (IsAble g old v) old e f (λ a. let k = over a.0 in let h = a.1 in absurd (omega (arith, k, h)));
  }

  never_due : (able : Type 0) (new : WriterState put room K) (e : WriteError) → new.never_fails ≡ true → WriteDue able new e → able → ⊥
  never_due able new (writing.Io (writer.WriteSizeLimit m)) s d a = d a
  never_due able new (writing.Io (writer.Io e)) s d a = true≢false (sym s ∙ d.0)
  never_due able new (writing.Io writer.OutOfMemory) s d a = true≢false (sym s ∙ d)
  never_due able new writing.OutOfMemory s d a = true≢false (sym s ∙ d)
  never_due able new _ s d a = d a

  due_faultless : (able : Type 0) (new : WriterState put room K) (e : WriteError) → new.never_fails ≡ true → WriteDue able new e → IsOfValueAlone e
  due_faultless able new (writing.Io (writer.WriteSizeLimit m)) s d = tt
  due_faultless able new (writing.Io (writer.Io e)) s d = true≢false (sym s ∙ d.0)
  due_faultless able new (writing.Io writer.OutOfMemory) s d = true≢false (sym s ∙ d)
  due_faultless able new writing.OutOfMemory s d = true≢false (sym s ∙ d)
  due_faultless able new _ s d = tt

module _ {S K V : Type 0} {put : S → List ℕ → S} {room : S → ℕ} (g : WriteGrammar V) (v : V) (n : ℕ) (sized : (g.can v → g.size v ≡ n) × (n < 2 ^ 64))
    (old made below after : WriterState put room K) (name name' : GName) (left left' : ℕ) (e : WriteError) (has : HasRoom n old made) (same : below ≡ made)
    (all : left ≡ n)
    (u : WriteRefused g (window_of below name left) (window_of after name' left') v e) where
  -- a window of the right size refuses nothing that can be written
  window_cannot : g.can v → ⊥
  window_cannot c =
      let content = has.unmoved.content in
      let rooms = ap (λ s. room s.content) same ∙ ap room content in
      never_due g v (IsAble g (window_of below name left) v) (window_of after name' left') e refl u.due
      (c, let s = sized.0 c in let f = has.fits in omega (arith, s, all, f, rooms, sized.1))

  pub window_unwritten : WriteRefused g old after v e
  window_unwritten = record {
    same = same_trans (subst (λ s. IsSameWriter old s) (sym same) has.unmoved.same)
        (record { kept = ap (λ k. k.target) u.same.kept; never_fails = ap (λ k. k.never_fails) u.same.kept; finishes = ap (λ k. k.finishes) u.same.kept });
    began = λ c. absurd (window_cannot c);
    device = faultless_tells g v old after e (due_faultless g v (IsAble g (window_of below name left) v) (window_of after name' left') e refl u.due)
        (record {
          failures = ap (λ k. k.failures) u.same.kept ∙ ap (λ s. s.failures) same ∙ has.sound.failures;
          has_failed = ap (λ k. k.has_failed) u.same.kept ∙ ap (λ s. s.has_failed) same ∙ has.sound.has_failed;
        });
    due = faultless_due g v (IsAble g old v) after e (due_faultless g v (IsAble g (window_of below name left) v) (window_of after name' left') e refl u.due)
        (λ a. window_cannot a.0);
  }

  pub window_stopped : {k : WriteGrammar V} (s : Stopped g (window_of below name left) (window_of after name' left') v e)
      → ((g.can v → ⊥) → (inside : ℕ) (added : List ℕ) → g.refused v inside added e → k.refused v (room old.content) added e) → Stopped k old after v e
  window_stopped s so =
      let content : below.content ≡ old.content = ap (λ s. s.content) same ∙ has.unmoved.content in
      record {
        added = s.added;
        within = let f = s.within in omega (arith, f, ap room content);
        content = ap (λ c. c.target) s.content ∙ ap (λ t. put t s.added) content;
        refused = so window_cannot (window_room room (record { target = below.content; left = left })) s.added s.refused;
      }

-- ---- where a list that is written through a window stops

pub whole_is : {V : Type 0} (s : Scheme) (size : ItemSize) (g : WriteGrammar V) (vs : List V) (room : ℕ) (added : List ℕ) (e : WriteError)
    → IsTrue (is_known size) → WholeWriteRefused s size g vs room added e → ListWriteRefused s size g vs room added e
whole_is s Unknown g vs room added e k x = absurd (true≢false (sym k))
whole_is s (Bytes z) g vs room added e k x = x
whole_is s Vast g vs room added e k x = x

unknown_is : {V : Type 0} (s : Scheme) (size : ItemSize) (g : WriteGrammar V) (vs : List V) (room : ℕ) (added : List ℕ) (e : WriteError) → size ≡ Unknown
    → PartsWriteRefused s g vs room added e → ListWriteRefused s size g vs room added e
unknown_is s Unknown g vs room added e is x = x
unknown_is s (Bytes z) g vs room added e is x = absurd (cc)
unknown_is s Vast g vs room added e is x = absurd (cc)

-- the bytes of as many items, by what is known of their number and of the length
pub bytes_are : (s : Scheme) (size : ItemSize) (m n l : ℕ) (o : Option ℕ) → m ≡ n → l ≡ encoding_len (s.encoding n) → behind_size l (run_size n size) ≡ o
    → list_bytes s size m ≡ o
bytes_are s size m n l o e f h = ap (list_bytes s size) e ∙ ap (λ k. behind_size k (run_size n size)) (sym f) ∙ h

pub text_at : (s : Scheme) (m n : ℕ) → m ≡ n → HasEncoding s n → HasEncoding s m
text_at s m n e t = subst (HasEncoding s) (sym e) t

pub textless_at : (s : Scheme) (m n : ℕ) (e : WriteError) → m ≡ n → LengthSizeRefused s n e → LengthSizeRefused s m e
textless_at s m n e is t = let P : ℕ → Type 0 = λ k. LengthSizeRefused s k e in subst P (sym is) t

-- what goes through one window of so many bytes was refused so
pub span_is : {V : Type 0} (s : Scheme) (count : ℕ) (size : ItemSize) (g : WriteGrammar V) (vs : List V) → HasEncoding s (length vs) → (bytes : Option ℕ)
    → list_bytes s size (length vs) ≡ bytes → (room : ℕ) (added : List ℕ) (e : WriteError)
    → IsTrue (is_known size) → SpanWriteRefused bytes (InnerWriteRefused s g vs) room added e → (list_write_of s count size g).refused vs room added e
span_is s count size g vs has bytes is room added e k x =
    let P : Option ℕ → Type 0 = λ o. SpanWriteRefused o (InnerWriteRefused s g vs) room added e in
    whole_is s size g vs room added e k (inr (has, subst P (sym is) x))

module _ {S K V : Type 0} {put : S → List ℕ → S} {room : S → ℕ} (s : Scheme) (count : ℕ) (size : ItemSize) (g : WriteGrammar V) (vs : List V)
    {old new : WriterState put room K} where
  pub whole_wrote : Wrote (parts_write s count g) old new vs → Wrote (list_write_of s count size g) old new vs
  whole_wrote r = wrote_map (parts_write s count g) (list_write_of s count size g) vs vs (λ c. c) refl (λ b w. w) r

  pub whole_unwritten : {e : WriteError} → WriteRefused (parts_write s count g) old new vs e → WriteRefused (list_write_of s count size g) old new vs e
  whole_unwritten u = unwritten_map (parts_write s count g) (list_write_of s count size g) vs vs (λ c. c) refl (λ b w. w) u

  pub parts_halted : {e : WriteError} → size ≡ Unknown → Stopped (parts_write s count g) old new vs e → Stopped (list_write_of s count size g) old new vs e
  parts_halted {e} is h = stopped_map (parts_write s count g) (list_write_of s count size g) vs vs (λ a r. unknown_is s size g vs (room old.content) a e is r) h

  -- its length has no encoding
  pub textless_halted : {e : WriteError} → WriterLaws put room → IsTrue (is_known size) → new.content ≡ old.content → LengthSizeRefused s (length vs) e
      → Stopped (list_write_of s count size g) old new vs e
  textless_halted {e} laws k same r = nothing_stopped laws old new e same (whole_is s size g vs (room old.content) [] e k (inl (refl, r)))

  module _ (has : HasEncoding s (length vs)) (bytes : Option ℕ) (is : list_bytes s size (length vs) ≡ bytes) where
    -- it was refused, and nothing was added
    pub span_halted : {e : WriteError} → WriterLaws put room → IsTrue (is_known size) → new.content ≡ old.content
        → SpanWriteRefused bytes (InnerWriteRefused s g vs) (room old.content) [] e → Stopped (list_write_of s count size g) old new vs e
    span_halted {e} laws k same x = nothing_stopped laws old new e same (span_is s count size g vs has bytes is (room old.content) [] e k x)

    -- the room for it was refused
    pub whole_room_halted : WriterLaws put room → IsTrue (is_known size) → (n : ℕ) → bytes ≡ Some n → (e : IoWriteError) → BytesWriteRefused n old new e
        → Stopped (list_write_of s count size g) old new vs (writing.Io e)
    whole_room_halted laws k n some e d =
        let P : Option ℕ → Type 0 = λ o. SpanWriteRefused o (InnerWriteRefused s g vs) (room old.content) [] (writing.Io e) in
        span_halted laws k d.0.content (subst P (sym some) (inl (piece_denied n old new e d)))
