-- What forms, views of them and lists that are lent read and write.
use Rattle.std.proofs.Common.{◌≡◌, ◌∙◌, sym, ap, subst, cond, ℕ, ◌+◌, ◌-◌, ◌*◌, ◌<◌, ◌≤◌, ◌^◌, Bool, true, false, List, inl, inr}
use Rattle.std.proofs.Common.{[], ◌∷◌, length, map, take, drop, refl, arith, zero, suc, Some, None, Option, length-append, length-take, length-drop}
use Rattle.std.proofs.Common.{take-append-drop, nat_lt}
use Rattle.std.specs.Prelude.{max, min}
use Rattle.wincode_io.specs.Bytes.{IsBytes}
use Rattle.wincode_io.specs.Forms.{IsByteForm, values}
use Rattle.wincode_io.specs.FormCalls.{IsShortOfForm}
use Rattle.wincode_io.specs.Joins.{Joined, Each, total}
use Rattle.wincode_io.specs.JoinedForms.{length-values, IsBytes-take, IsBytes-drop}
use Rattle.wincode_io.specs.FormLaws.{byte_values}
use Rattle.wincode_io.specs.Numbers.{le, worth}
use Rattle.wincode_io.specs.PlaceLaws.{unsteady, stays_onward}
use Rattle.wincode_io.specs.Readers.{ReaderState, Takes, TakesNumber, IsShort, ReadRefusedFor, BytesReadRefused, Stays}
use Rattle.wincode_io.specs.Writers.{byte_limit, WriterState, WriterLaws, Added, BytesWriteRefused}
use Rattle.wincode_base.specs.Grammar.{ReadGrammar, WriteGrammar}
use Rattle.wincode_base.specs.LeafLaws.{number_read_laws}
use Rattle.wincode_base.specs.Leaves.{number_read}
use Rattle.wincode_base.specs.Lengths.{bincode}
use Rattle.wincode_base.specs.LengthLaws.{bincode_encoding, bincode_encoding_is}
use Rattle.wincode_base.specs.Lengths.{bincode}
use Rattle.wincode_base.specs.ItemSizes.{item_size}
use Rattle.wincode_base.specs.Lists.{items_write, parts_write, list_bytes, ItemsWriteRefused, ListWriteRefused, WholeWriteRefused, InnerWriteRefused}
use Rattle.wincode_base.specs.Lists.{SpanWriteRefused, SizesRefused, reads_list}
use Rattle.wincode_base.specs.Outcomes.{Gives, Accepts, ReadRefused, ReaderDue, ReadDue, ReadTells, PieceReadRefused, Wrote, WriteRefused, Stopped}
use Rattle.wincode_base.specs.Outcomes.{PieceWriteRefused, IsSizeError}
use Rattle.wincode_base.specs.AsForms.{reads_form}
use Rattle.wincode_base.specs.Sequences.{Then, gives_map, refuses_map, then_gives, then_first, then_second}
use Rattle.wincode_base.specs.FixedSizeLaws.{takes_gives}
use Rattle.wincode_base.specs.ViewLaws.{same_items}
use Rattle.wincode_base.specs.WriteSequences.{encoding_wrote, encoding_unwritten, encoding_stopped, nothing_stopped, piece_denied, wrote_map}
use Rattle.wincode_base.specs.WriteSequences.{unwritten_map, stopped_map}
use Rattle.wincode_base.specs.Views.{form_item_read, form_meta, form_write, forms_read, lent_read, lent_write, IsLentRun, ViewReadRefused, LentRunReadRefused}
use Rattle.std.proofs.lemmas.Bool.{lt-ltb}
use Rattle.wincode_base.specs.declared.meta.TypeMeta.TheVariants.{Dynamic}
use Rattle.wincode_base.specs.declared.error.ReadError.{ReadError}
use Rattle.wincode_base.specs.declared.error.ReadError.TheVariants as reading
use Rattle.wincode_io.specs.declared.error.ReadError.{ReadError as IoReadError}
use Rattle.wincode_io.specs.declared.error.ReadError.TheVariants as reader
use Rattle.wincode_base.specs.declared.error.WriteError.{WriteError}
use Rattle.wincode_base.specs.declared.error.WriteError.TheVariants as writing
use Rattle.wincode_io.specs.declared.error.WriteError.{WriteError as IoWriteError}
use Rattle.wincode_base.specs.declared.meta.TypeMeta.TheVariants.{Static, Dynamic}
use Rattle.wincode_base.specs.declared.sizes.ItemSize.{ItemSize}
use Rattle.wincode_base.specs.declared.sizes.ItemSize.TheVariants.{Bytes, Vast, Unknown}
use Rattle.wincode_base.proofs.Integers.{number_gives, number_refuses}
use Rattle.wincode_base.proofs.Runs.{not_lt}

nothing_left : (b : List ℕ) → length b ≡ 0 → b ≡ []
nothing_left [] e = refl
nothing_left (c ∷ b) e = absurd (omega (arith, e))

-- a form that `usize` can count is announced with its size
pub form_is_sized : (s : ℕ) (any : Bool) → s ≤ byte_limit → form_meta s any ≡ Dynamic → ⊥
form_is_sized s any within is = let l : nat_lt s (2 ^ 64) ≡ true = lt-ltb s (2 ^ 64) (omega (arith, within)) in absurd (cc (rw l at is))

pub form_is_static : (s : ℕ) (any : Bool) → s ≤ byte_limit → form_meta s any ≡ Static s any
form_is_static s any within = rw (lt-ltb s (2 ^ 64) (omega (arith, within))) refl

-- ---- a borrow of what has n bytes

module _ {V : Type 0} (reads : List ℕ → V → Type 0) (n : ℕ) (sized : (b : List ℕ) (v : V) → reads b v → length b ≡ n) where
  too_short : (old : ReaderState) → IsShortOfForm n old → Accepts reads old → ⊥
  too_short old short a =
      let f = a.front.found in
      let few : length old.rest ≤ byte_limit = let h = a.fits in omega arith in
      absurd (omega (arith, short a.is_known few, sized f.encoding a.front.value f.is_read, ap length f.joins, length-append f.encoding a.front.rest))

  -- it was refused for its reason
  lend_due : (borrow m : ℕ) (old new : ReaderState) (e : IoReadError) → Stays old new → ReadRefusedFor (IsShortOfForm n old) (old.lends < borrow) m new e
      → ReaderDue (Accepts reads old) borrow new e
  lend_due borrow m old new (reader.ReadSizeLimit k) s d = λ a. too_short old d.0 a
  lend_due borrow m old new reader.UnsupportedZeroCopy s d = λ a. rw s.kept.lends d
  lend_due borrow m old new reader.OutOfMemory s d = unsteady new d
  lend_due borrow m old new (reader.Io e) s d = d

-- what n bytes are too few for is so among at most `usize::MAX` too
short_of_form : (n m : ℕ) (unlent : Type 0) (old new : ReaderState) (e : IoReadError) → ReadRefusedFor (IsShort n old) unlent m new e
    → ReadRefusedFor (IsShortOfForm n old) unlent m new e
short_of_form n m unlent old new (reader.ReadSizeLimit k) d = (λ t few. d.0 t, d.1)
short_of_form n m unlent old new reader.UnsupportedZeroCopy d = d
short_of_form n m unlent old new reader.OutOfMemory d = d
short_of_form n m unlent old new (reader.Io e) d = d

-- a form of s bytes was refused by a reader that was asked for s bytes
pub form_denied : (borrow s : ℕ) (old new : ReaderState) (e : IoReadError) → s ≤ byte_limit → BytesReadRefused (IsShort s old) (old.lends < borrow) s old new e
    → ViewReadRefused borrow s old new (reading.Io e)
form_denied borrow s old new e within d =
    let same : s ≡ min s byte_limit = omega (arith, within) in
    (d.0, d.1, subst (λ m. ReadRefusedFor (IsShortOfForm s old) (old.lends < borrow) m new e) same (short_of_form s s (old.lends < borrow) old new e d.2))

counts_within : (n s : ℕ) → n ≤ byte_limit → n * s ≤ byte_limit → n * max s 1 ≤ byte_limit
counts_within n zero few within = omega (arith, few)
counts_within n (suc s) few within = let e : max (suc s) 1 ≡ suc s = omega arith in rw e within

counts_over : (n s : ℕ) → 2 ^ 64 ≤ n * s → n * max s 1 ≤ byte_limit → ⊥
counts_over n zero over within = absurd (omega (arith, over))
counts_over n (suc s) over within = let e : max (suc s) 1 ≡ suc s = omega arith in let h : n * suc s ≤ byte_limit = rw (← e) within in
    absurd (omega (arith, over, h))

module _ {X : Type 0} {is_valid : X → Type 0} {s : ℕ} {form : X → List ℕ} {value : List ℕ → X} (law : IsByteForm is_valid s form value) where
  -- ---- one form

  pub form_gives : (old new : ReaderState) (bytes : List ℕ) → Takes s old new bytes → IsBytes bytes → Gives (reads_form is_valid form) old new (value bytes)
  form_gives old new bytes t all = takes_gives (reads_form is_valid form) s old new bytes (value bytes) t
      (law.valid_value bytes all t.size, sym (law.form_value bytes all t.size))

  pub form_refuses : (borrow : ℕ) (old new : ReaderState) (e : ReadError) → ViewReadRefused borrow s old new e
      → ReadRefused (reads_form is_valid form) borrow true old new e
  form_refuses borrow old new (reading.Io e) d = record {
    kept = d.0.kept;
    left = λ t. record { front = []; joins = sym (d.0.rest t) };
    place = stays_onward old new d.0;
    device = d.1;
    due = lend_due (reads_form is_valid form) s (λ b v r. ap length r.1 ∙ law.long v r.0) borrow (min s byte_limit) old new e d.0 d.2;
  }
  form_refuses borrow old new _ d = absurd d

  -- ---- forms one after another

  items_of : (n : ℕ) (b : List ℕ) → IsBytes b → length b ≡ n * s → Joined (form_item_read is_valid s form).reads (values value s n b) b
  unfolding values
  items_of zero b all e = nothing_left b (omega (arith, e))
  items_of (suc n) b all e =
      let all_first = IsBytes-take s b all in
      let long : length (take s b) ≡ s = omega (arith, length-take s b, e) in
      let rest : length (drop s b) ≡ n * s = omega (arith, length-drop s b, e) in (
        take s b,
        drop s b,
        (law.valid_value (take s b) all_first long, sym (law.form_value (take s b) all_first long)),
        items_of n (drop s b) (IsBytes-drop s b all) rest,
        sym (take-append-drop s b),
      )

  items_sized : (vs : List X) (b : List ℕ) → Joined (form_item_read is_valid s form).reads vs b → length b ≡ length vs * s
  items_sized [] b j = omega (arith, ap length j)
  items_sized (v ∷ vs) b j =
      let one = ap length j.2.1 ∙ law.long v j.2.0 in
      let rest = items_sized vs j.1 j.3 in
      omega (arith, ap length j.4, length-append j.0 j.1, one, rest)

  pub run_gives : (n : ℕ) (old new : ReaderState) (bytes : List ℕ) → n ≤ byte_limit → n * s ≤ byte_limit → Takes (n * s) old new bytes → IsBytes bytes
      → Gives (IsLentRun (form_item_read is_valid s form) n) old new (values value s n bytes)
  run_gives n old new bytes few within t all =
      takes_gives (IsLentRun (form_item_read is_valid s form) n) (n * s) old new bytes (values value s n bytes) t
      (counts_within n s few within, (length-values value s n bytes, items_of n bytes all t.size))

  run_sized : (n : ℕ) (b : List ℕ) (vs : List X) → IsLentRun (form_item_read is_valid s form) n b vs → length b ≡ n * s
  run_sized n b vs r = items_sized vs b r.1.1 ∙ ap (λ m. m * s) r.1.0

  run_due : (borrow n : ℕ) (old new : ReaderState) (e : ReadError) → LentRunReadRefused borrow s n old new e
      → ReadDue (Accepts (IsLentRun (form_item_read is_valid s form) n) old) borrow true new e
  run_due borrow n old new (reading.Io e) d =
      lend_due (IsLentRun (form_item_read is_valid s form) n) (n * s) (run_sized n) borrow (n * s) old new e d.0
      (short_of_form (n * s) (n * s) (old.lends < borrow) old new e d.2)
  run_due borrow n old new (reading.LengthEncodingOverflow t) d = λ a. counts_over n s d.1 a.front.found.is_read.0
  run_due borrow n old new _ d = absurd d

  run_stays : (borrow n : ℕ) (old new : ReaderState) (e : ReadError) → LentRunReadRefused borrow s n old new e → Stays old new
  run_stays borrow n old new (reading.Io e) d = d.0
  run_stays borrow n old new (reading.LengthEncodingOverflow t) d = d.0.0
  run_stays borrow n old new _ d = absurd d

  run_tells : (borrow n : ℕ) (old new : ReaderState) (e : ReadError) → LentRunReadRefused borrow s n old new e → ReadTells old new e
  run_tells borrow n old new (reading.Io e) d = d.1
  run_tells borrow n old new (reading.LengthEncodingOverflow t) d = d.0.1
  run_tells borrow n old new _ d = absurd d

  pub run_refuses : (borrow n : ℕ) (old new : ReaderState) (e : ReadError) → LentRunReadRefused borrow s n old new e
      → ReadRefused (IsLentRun (form_item_read is_valid s form) n) borrow true old new e
  run_refuses borrow n old new e d =
      let stays = run_stays borrow n old new e d in
      record {
        kept = stays.kept;
        left = λ t. record { front = []; joins = sym (stays.rest t) };
        place = stays_onward old new stays;
        device = run_tells borrow n old new e d;
        due =
            run_due borrow n old new e d;
      }

-- ---- items behind their number

module _ {V : Type 0} (g : ReadGrammar V) where
  lent_then : (b : List ℕ) (vs : List V) → reads_list (bincode byte_limit) g b vs → Then (number_read 8 true).reads (IsLentRun g) b vs
  lent_then b vs r = record {
    before = length vs;
    x = r.1.0;
    y = r.1.1;
    one = bincode_encoding_is byte_limit (length vs) r.1.0 r.1.2;
    two =
        (r.0.1, (refl, r.1.3));
    joins = r.1.4;
  }

  then_lent : (b : List ℕ) (vs : List V) → Then (number_read 8 true).reads (IsLentRun g) b vs → reads_list (bincode byte_limit) g b vs
  then_lent b vs t =
      let n = t.two.1.0 in
      let few : length vs < 2 ^ 64 = rw n t.one.0 in
      let within : length vs * g.prealloc ≤ byte_limit = rw n t.two.0 in
      ((few, within), (t.x, t.y, bincode_encoding byte_limit (length vs) few ∙ ap Some (ap (le 8) n ∙ sym t.one.1), t.two.1.1, t.joins))

  pub lent_gives : (old mid new : ReaderState) (n : ℕ) (vs : List V) → TakesNumber 8 old mid n → Gives (IsLentRun g n) mid new vs
      → Gives (reads_list (bincode byte_limit) g) old new vs
  lent_gives old mid new n vs t h =
      gives_map (Then (number_read 8 true).reads (IsLentRun g)) (reads_list (bincode byte_limit) g) old new vs vs (λ b p. then_lent b vs p)
      (then_gives (number_read 8 true).reads (IsLentRun g) old mid new n vs (number_gives 8 true old mid n t) h)

  pub lent_first : (borrow : ℕ) (old new : ReaderState) (e : ReadError) → PieceReadRefused 8 old new e
      → ReadRefused (reads_list (bincode byte_limit) g) borrow true old new e
  lent_first borrow old new e d =
      refuses_map (Then (number_read 8 true).reads (IsLentRun g)) (reads_list (bincode byte_limit) g) borrow true old new e (λ b vs p. (vs, lent_then b vs p))
      (then_first (number_read 8 true).reads (IsLentRun g) 0 borrow true true old new e (omega arith) (λ h. h) (number_refuses 8 true old new e d))

  pub lent_second : (borrow : ℕ) (old mid new : ReaderState) (n : ℕ) (e : ReadError) → TakesNumber 8 old mid n
      → ReadRefused (IsLentRun g n) borrow true mid new e
      → ReadRefused (reads_list (bincode byte_limit) g) borrow true old new e
  lent_second borrow old mid new n e t r =
      refuses_map (Then (number_read 8 true).reads (IsLentRun g)) (reads_list (bincode byte_limit) g) borrow true old new e (λ b vs p. (vs, lent_then b vs p))
      (then_second (number_read 8 true).reads (IsLentRun g) (number_read_laws 8 true (omega arith)).one_front borrow borrow true true old mid new n e
      (omega arith) (λ h. h)
      (number_gives 8 true old mid n t) r)

-- ---- writing

-- what is announced as no size has more bytes than there can be
pub vast_form : (s : ℕ) (any : Bool) → form_meta s any ≡ Dynamic → 2 ^ 64 ≤ s
vast_form s any e = not_lt s (2 ^ 64) (other (nat_lt s (2 ^ 64)) e) where
  other : (b : Bool) → cond b (Static s any) Dynamic ≡ Dynamic → b ≡ false
  other true h = absurd (cc)
  other false h = refl

-- of these there are none in as many bytes as there can be
pub few_vast : (n s : ℕ) → 2 ^ 64 ≤ s → n * s < 2 ^ 64 → n ≡ 0
few_vast zero s l f = refl
few_vast (suc n) s l f = absurd (omega (arith, l, f))

no_items : {A : Type 0} (xs : List A) → length xs ≡ 0 → xs ≡ []
no_items [] e = refl
no_items (x ∷ xs) e = absurd (omega (arith, e))

each_free : {V : Type 0} (vs : List V) → Each (λ v. Unit {0}) vs
each_free [] = tt
each_free (v ∷ vs) = (tt, each_free vs)

total_alike : {V : Type 0} (s : ℕ) (vs : List V) → total (λ v. s) vs ≡ length vs * s
total_alike s [] = omega arith
total_alike s (v ∷ vs) = omega (arith, total_alike s vs)

-- room for a form was refused
pub form_room_halted : {X : Type 0} (is_valid : X → Type 0) (s : ℕ) (form : X → List ℕ) (any : Bool) (prealloc : ℕ) (v : X)
    {S K : Type 0} {put : S → List ℕ → S} {room : S → ℕ} {old new : WriterState put room K}
    → WriterLaws put room → (n : ℕ) → n ≡ s → (x : IoWriteError) → BytesWriteRefused n old new x
    → Stopped (form_write is_valid s form any prealloc) old new v (writing.Io x)
form_room_halted is_valid s form any prealloc v {room = room} {old = old} {new = new} laws n is x d =
    nothing_stopped laws old new (writing.Io x) d.0.content (inl
    (subst (λ k. PieceWriteRefused k (room old.content) [] (writing.Io x)) is (piece_denied n old new x d)))

module _ {X : Type 0} {is_valid : X → Type 0} {s : ℕ} {form : X → List ℕ} {value : List ℕ → X} (law : IsByteForm is_valid s form value) (any : Bool)
    (prealloc : ℕ) where
  -- ---- one form

  form_is : (b : List ℕ) → IsBytes b → length b ≡ s → (form_write is_valid s form any prealloc).writes b (value b)
  form_is b all e = (e, λ p. sym (law.form_value b all e))

  module _ {S K : Type 0} {put : S → List ℕ → S} {room : S → ℕ} {old new : WriterState put room K} (b : List ℕ) (all : IsBytes b) (e : length b ≡ s) where
    pub form_unwritten : WriterLaws put room → (x : IoWriteError) → BytesWriteRefused (length b) old new x
        → WriteRefused (form_write is_valid s form any prealloc) old new (value b) (writing.Io x)
    form_unwritten laws x d = encoding_unwritten (form_write is_valid s form any prealloc) (value b) b (form_is b all e) e laws old new x d

    pub form_halted : WriterLaws put room → (x : IoWriteError) → BytesWriteRefused (length b) old new x
        → Stopped (form_write is_valid s form any prealloc) old new (value b) (writing.Io x)
    form_halted laws x d = encoding_stopped (form_write is_valid s form any prealloc) (value b) b (form_is b all e) e laws old new x d
        (λ p. inl (subst (λ n. PieceWriteRefused n (room old.content) [] (writing.Io x)) e p))

  -- ---- forms one after another

  forms_are : (n : ℕ) (b : List ℕ) → IsBytes b → length b ≡ n * s → Joined (form_write is_valid s form any prealloc).writes (values value s n b) b
  unfolding values
  forms_are zero b all e = nothing_left b (omega (arith, e))
  forms_are (suc n) b all e =
      let long : length (take s b) ≡ s = omega (arith, length-take s b, e) in
      let rest : length (drop s b) ≡ n * s = omega (arith, length-drop s b, e) in
      (take s b, drop s b, form_is (take s b) (IsBytes-take s b all) long, forms_are n (drop s b) (IsBytes-drop s b all) rest, sym (take-append-drop s b))

  pub each_value : (n : ℕ) (b : List ℕ) → IsBytes b → length b ≡ n * s → Each is_valid (values value s n b)
  unfolding values
  each_value zero b all e = tt
  each_value (suc n) b all e =
      let long : length (take s b) ≡ s = omega (arith, length-take s b, e) in
      let rest : length (drop s b) ≡ n * s = omega (arith, length-drop s b, e) in
      (law.valid_value (take s b) (IsBytes-take s b all) long, each_value n (drop s b) (IsBytes-drop s b all) rest)

  pub forms_count : (n : ℕ) (b : List ℕ) → n ≡ length (values value s n b)
  forms_count n b = sym (length-values value s n b)

  abbrev Forms : WriteGrammar (List X)
  Forms = items_write (form_write is_valid s form any prealloc)

  forms_size : (n : ℕ) (b : List ℕ) → total (λ v. s) (map (λ v. v) (values value s n b)) ≡ n * s
  forms_size n b = ap (total (λ v. s)) (same_items (values value s n b)) ∙ total_alike s (values value s n b) ∙ ap (λ m. m * s) (length-values value s n b)

  -- their size, with what stands before them
  pub forms_summed : (before sum n : ℕ) (b : List ℕ) → length b ≡ n * s → sum ≡ before + length b
      → Forms.can (map (λ v. v) (values value s n b)) × (sum ≡ before + Forms.size (map (λ v. v) (values value s n b)))
  forms_summed before sum n b e is = (each_free (map (λ v. v) (values value s n b)), omega (arith, e, is, forms_size n b))

  pub forms_over : (before n : ℕ) (b : List ℕ) (x : WriteError) → length b ≡ n * s → 2 ^ 64 ≤ before + length b
      → IsSizeError true (Each (form_write is_valid s form any prealloc).can (map (λ v. v) (values value s n b))) x
      → SizesRefused before (form_write is_valid s form any prealloc) (map (λ v. v) (values value s n b)) x
  forms_over before n b x e over unfit = (λ c small. absurd (omega (arith, e, over, small, forms_size n b)), unfit)

  joined : (n : ℕ) (b : List ℕ) → IsBytes b → length b ≡ n * s → Forms.writes b (map (λ v. v) (values value s n b))
  joined n b all e = subst (λ vs. Forms.writes b vs) (sym (same_items (values value s n b))) (forms_are n b all e)

  module _ {S K : Type 0} {put : S → List ℕ → S} {room : S → ℕ} {old new : WriterState put room K} (n : ℕ) (b : List ℕ) (all : IsBytes b)
      (e : length b ≡ n * s) where
    pub forms_wrote : Added b old new → Wrote Forms old new (map (λ v. v) (values value s n b))
    forms_wrote a = encoding_wrote Forms (map (λ v. v) (values value s n b)) b (joined n b all e) (e ∙ sym (forms_size n b)) old new
        (each_free (map (λ v. v) (values value s n b))) a

    -- there are none
    pub none_wrote : WriterLaws put room → n ≡ 0 → new ≡ old → Wrote Forms old new (map (λ v. v) (values value s n b))
    none_wrote laws none same =
        let empty : b ≡ [] = nothing_left b (e ∙ ap (λ m. m * s) none ∙ omega arith) in
        encoding_wrote Forms (map (λ v. v) (values value s n b)) b (joined n b all e) (e ∙ sym (forms_size n b)) old new
        (each_free (map (λ v. v) (values value s n b)))
        (record {
          fits = omega (arith, ap length empty);
          took =
              record {
                same = record { kept = ap (λ w. w.kept) same; never_fails = ap (λ w. w.never_fails) same; finishes = ap (λ w. w.finishes) same };
                sound = record { failures = ap (λ w. w.failures) same; has_failed = ap (λ w. w.has_failed) same };
                content =
                    ap (λ w. w.content) same ∙ sym (ap (put old.content) empty ∙ laws.nil old.content);
              };
        })

    pub forms_unwritten : WriterLaws put room → (x : IoWriteError) → BytesWriteRefused (length b) old new x
        → WriteRefused Forms old new (map (λ v. v) (values value s n b)) (writing.Io x)
    forms_unwritten laws x d = encoding_unwritten Forms (map (λ v. v) (values value s n b)) b (joined n b all e) (e ∙ sym (forms_size n b)) laws old new x d

    -- there are some, so that one has no more bytes than there can be
    pub forms_halted : 0 < n → length b < 2 ^ 64 → WriterLaws put room → (x : IoWriteError) → BytesWriteRefused (length b) old new x
        → Stopped Forms old new (map (λ v. v) (values value s n b)) (writing.Io x)
    forms_halted some fits laws x d = nothing_stopped laws old new (writing.Io x) d.0.content
        (λ dynamic. let none = few_vast n s (vast_form s any dynamic) (omega (arith, e, fits)) in absurd (omega (arith, none, some)))

module _ {X : Type 0} (is_valid : X → Type 0) (s : ℕ) (form : X → List ℕ) (any : Bool) (p q : ℕ) where
  abbrev Listed : ℕ → WriteGrammar (List X)
  Listed prealloc = lent_write (form_write is_valid s form any prealloc)

  -- a list of forms is written alike whatever each counts
  pub listed_unwritten : {S K : Type 0} {put : S → List ℕ → S} {room : S → ℕ} {old new : WriterState put room K} (vs : List X) (e : WriteError)
      → WriteRefused (Listed p) old new (map (λ v. v) vs) e → WriteRefused (Listed q) old new vs e
  listed_unwritten {old = old} {new = new} vs e u =
      let P : List X → Type 0 = λ ws. WriteRefused (Listed p) old new ws e in
      unwritten_map (Listed p) (Listed q) vs vs (λ c. c) refl (λ b w. w) (subst P (same_items vs) u)

  items_alike : (vs : List X) (room : ℕ) (added : List ℕ) (e : WriteError) → ItemsWriteRefused (form_write is_valid s form any p) vs room added e
      → ItemsWriteRefused (form_write is_valid s form any q) vs room added e
  items_alike vs room added e d = λ dynamic. let i = d dynamic in
      record {
        before = i.before;
        item = i.item;
        after = i.after;
        encoding = i.encoding;
        rest = i.rest;
        is = i.is;
        written = i.written;
        joins = i.joins;
        refused = i.refused;
      }

  abbrev Parts : ℕ → WriteGrammar (List X)
  Parts prealloc = parts_write (bincode byte_limit) 16 (form_write is_valid s form any prealloc)

  parts_alike : (vs : List X) (room : ℕ) (added : List ℕ) (e : WriteError) → (Parts p).refused vs room added e → (Parts q).refused vs room added e
  parts_alike vs room added e (inl d) = inl d
  parts_alike vs room added e (inr d) = inr (d.0, d.1, d.2, d.3, items_alike vs (room - length d.0) d.1 e d.4)

  abbrev Inner : ℕ → List X → List ℕ → WriteError → Type 0
  Inner prealloc = InnerWriteRefused (bincode byte_limit) (form_write is_valid s form any prealloc)

  span_alike : (bytes : Option ℕ) (vs : List X) (room : ℕ) (added : List ℕ) (e : WriteError) → SpanWriteRefused bytes (Inner p vs) room added e
      → SpanWriteRefused bytes (Inner q vs) room added e
  span_alike None vs room added e d = d
  span_alike (Some n) vs room added e (inl d) = inl d
  span_alike (Some n) vs room added e (inr d) = inr (d.0, (d.1.0, parts_alike vs d.1.0 added e d.1.1))

  whole_alike : (size : ItemSize) (vs : List X) (room : ℕ) (added : List ℕ) (e : WriteError)
      → WholeWriteRefused (bincode byte_limit) size (form_write is_valid s form any p) vs room added e
      → WholeWriteRefused (bincode byte_limit) size (form_write is_valid s form any q) vs room added e
  whole_alike size vs room added e (inl d) = inl d
  whole_alike size vs room added e (inr d) = inr (d.0, span_alike (list_bytes (bincode byte_limit) size (length vs)) vs room added e d.1)

  list_alike : (size : ItemSize) (vs : List X) (room : ℕ) (added : List ℕ) (e : WriteError)
      → ListWriteRefused (bincode byte_limit) size (form_write is_valid s form any p) vs room added e
      → ListWriteRefused (bincode byte_limit) size (form_write is_valid s form any q) vs room added e
  list_alike Unknown vs room added e d = parts_alike vs room added e d
  list_alike (Bytes k) vs room added e d = whole_alike (Bytes k) vs room added e d
  list_alike Vast vs room added e d = whole_alike Vast vs room added e d

  pub listed_wrote : {S K : Type 0} {put : S → List ℕ → S} {room : S → ℕ} {old new : WriterState put room K} (vs : List X)
      → Wrote (Listed p) old new (map (λ v. v) vs) → Wrote (Listed q) old new vs
  listed_wrote {old = old} {new = new} vs r = wrote_map (Listed p) (Listed q) vs vs (λ c. c) refl (λ b w. w)
      (subst (Wrote (Listed p) old new) (same_items vs) r)

  pub listed_halted : {S K : Type 0} {put : S → List ℕ → S} {room : S → ℕ} {old new : WriterState put room K} (vs : List X) (e : WriteError)
      → Stopped (Listed p) old new (map (λ v. v) vs) e → Stopped (Listed q) old new vs e
  listed_halted {room = room} {old = old} {new = new} vs e h =
      let P : List X → Type 0 = λ ws. Stopped (Listed p) old new ws e in
      stopped_map (Listed p) (Listed q) vs vs (λ a r. list_alike (item_size (form_meta s any)) vs (room old.content) a e r) (subst P (same_items vs) h)

-- ---- bytes behind their number

pub bytes_given : (borrow : ℕ) (old new : ReaderState) (n : ℕ) (b : List ℕ) → length b ≡ n * 1
    → Gives (forms_read (λ v. v < 256 ^ 1) 1 (le 1) borrow).reads old new (values worth 1 n b) → Gives (lent_read borrow 1 (number_read 1 true)).reads old new b
bytes_given borrow old new n b e g = subst (Gives (lent_read borrow 1 (number_read 1 true)).reads old new) (byte_values n b (omega (arith, e))) g

-- ---- one form, copied

pub fill_denied : (s : ℕ) (old new : ReaderState) (e : IoReadError) → s ≤ byte_limit → BytesReadRefused (IsShort s old) ⊥ s old new e
    → ViewReadRefused 0 s old new (reading.Io e)
fill_denied s old new e within d = form_denied 0 s old new e within (d.0, d.1, never_unlent e d.2) where
  never_unlent : (e : IoReadError) → ReadRefusedFor (IsShort s old) ⊥ s new e → ReadRefusedFor (IsShort s old) (old.lends < 0) s new e
  never_unlent (reader.ReadSizeLimit k) d = d
  never_unlent reader.UnsupportedZeroCopy d = absurd d
  never_unlent reader.OutOfMemory d = d
  never_unlent (reader.Io e) d = d
