-- Many forms read or written at once.
use Rattle.std.proofs.Common.{◌≡◌, ◌⊎◌, ◌∙◌, sym, ap, subst, ℕ, ◌*◌, ◌<◌, ◌≤◌, ◌^◌, Bool, false, List, [], ◌∷◌, ◌++◌, length, map, min, refl, inl}
use Rattle.std.proofs.Common.{inr, arith, append-nil, length-append}
use Rattle.std.proofs.lemmas.Bool.{cases_lt}
use Rattle.std.proofs.lemmas.List.Elements.{All-head, All-tail}
use Rattle.std.specs.List.{All, flat_map}
use Rattle.wincode_io.specs.Bytes.{IsBytes}
use Rattle.wincode_io.specs.Forms.{IsByteForm, values}
use Rattle.wincode_io.specs.FormCalls.{FormWriteRefused}
use Rattle.wincode_io.specs.JoinedForms.{length-joined, length-values, All-values, joined-values}
use Rattle.wincode_io.specs.Joins.{Joined, Each, total, AreItems}
use Rattle.wincode_io.specs.PlaceLaws.{still, sound_refl}
use Rattle.wincode_io.specs.Readers.{ReaderState, BytesReadRefused, StaysSound, Loses, IsShown, IsShort}
use Rattle.wincode_io.specs.Writers.{WriterState, WriterLaws, Added, IsUnmoved, IsSoundWriter, WriterTells, WriteRefusedFor, BytesWriteRefused, byte_limit}
use Rattle.wincode_base.specs.AsForms.{reads_form, writes_form}
use Rattle.wincode_base.specs.Grammar.{WriteGrammar}
use Rattle.wincode_base.specs.Lists.{items_write, ItemsWriteRefused}
use Rattle.wincode_base.specs.ListLaws.{items_none}
use Rattle.wincode_base.specs.Outcomes.{Gives, Adds, ReadRefused, Wrote, WriteRefused, Stopped, PieceWriteRefused, IsAble, WriterDue}
use Rattle.wincode_base.specs.FixedSizeLaws.{denied_refuses, takes_gives}
use Rattle.wincode_base.specs.ViewLaws.{form_write_laws}
use Rattle.wincode_base.specs.Views.{form_write}
use Rattle.wincode_base.specs.WriteSequences.{encoding_wrote, nothing_stopped, piece_denied}
use Rattle.wincode_base.specs.declared.error.ReadError.TheVariants as reading
use Rattle.wincode_base.specs.declared.error.WriteError.TheVariants as writing
use Rattle.wincode_io.specs.declared.error.ReadError.{ReadError as IoReadError}
use Rattle.wincode_io.specs.declared.error.WriteError.{WriteError as IoWriteError}
use Rattle.wincode_io.specs.declared.error.WriteError.TheVariants as writer
use Rattle.wincode_base.proofs.Bulk.{shown_takes, mapped}
use Rattle.wincode_base.proofs.Views.{vast_form}

-- ---- reading

module _ {X : Type 0} {is_valid : X → Type 0} {s : ℕ} {form : X → List ℕ} {value : List ℕ → X} (law : IsByteForm is_valid s form value) where
  abbrev reads : List ℕ → X → Type 0
  reads = reads_form is_valid form

  are_joined : (vs : List X) → All is_valid vs → Joined reads vs (flat_map form vs)
  are_joined [] all = refl
  are_joined (v ∷ vs) all = (form v, flat_map form vs, (All-head is_valid v vs all, refl), are_joined vs (All-tail is_valid v vs all), refl)

  forms_read : (n : ℕ) (bytes : List ℕ) → IsBytes bytes → length bytes ≡ n * s → AreItems n reads bytes (values value s n bytes)
  forms_read n bytes all size =
      let vs = values value s n bytes in
      let joined = are_joined vs (All-values value s is_valid law.valid_value n bytes all size) in
      (length-values value s n bytes, subst (λ b. Joined reads vs b) (joined-values value s form law.form_value n bytes all size) joined)

  pub forms_sized : (n : ℕ) (b : List ℕ) (vs : List X) → AreItems n reads b vs → length b ≡ n * s
  forms_sized n b vs r = sized vs b r.1 ∙ ap (λ m. m * s) r.0 where
    sized : (vs : List X) (b : List ℕ) → Joined reads vs b → length b ≡ length vs * s
    sized [] b j = ap length j ∙ omega arith
    sized (v ∷ vs) b j =
        let here : length j.0 ≡ s = ap length j.2.1 ∙ law.long v j.2.0 in
        ap length j.4 ∙ length-append j.0 j.1 ∙ omega (arith, here, sized vs j.1 j.3)

  pub forms_added : (n : ℕ) (old mid new : ReaderState) (bytes : List ℕ) (before after : List X) → IsBytes bytes → length bytes ≡ n * s
      → IsShown (n * s) old bytes → StaysSound old mid → Loses (n * s) mid new
      → after ≡ before ++ values value s n bytes → Adds n reads (λ v. v) old new before after
  forms_added n old mid new bytes before after all size shown stays loses e = let vs = values value s n bytes in record {
    items = vs;
    is = e;
    gives = subst (Gives (AreItems n reads) old new) (sym (mapped vs))
        (takes_gives (AreItems n reads) (n * s) old new bytes vs (shown_takes (n * s) old mid new bytes size shown stays loses) (forms_read n bytes all size));
  }

  pub forms_refused : (n : ℕ) (old new : ReaderState) (e : IoReadError) → BytesReadRefused (IsShort (n * s) old) ⊥ (n * s) old new e
      → ReadRefused (AreItems n reads) 0 false old new (reading.Io e)
  forms_refused n old new e d = denied_refuses (AreItems n reads) (n * s) (forms_sized n) 0 false old new (reading.Io e) d

  pub forms_vast : (n : ℕ) (old : ReaderState) (t : _) → byte_limit < n * s → ReadRefused (AreItems n reads) 0 false old old (reading.LengthEncodingOverflow t)
  forms_vast n old t vast = record {
    kept = record { lends = refl; never_fails = refl; counts_windows = refl; is_known = refl };
    left = λ told. record { front = []; joins = refl };
    place = λ told. still old;
    device = sound_refl old;
    due = λ a. let f = a.front.found in absurd (omega (
      arith,
      vast,
      a.fits,
      forms_sized n f.encoding a.front.value f.is_read,
      ap length f.joins,
      length-append f.encoding a.front.rest,
    ));
  }

  -- none were asked for
  pub forms_none : (n : ℕ) (old : ReaderState) (vs : List X) → n ≡ 0 → Adds n reads (λ v. v) old old vs vs
  forms_none n old vs e = record {
    items = [];
    is = sym (append-nil vs);
    gives = subst (λ m. Gives (AreItems m reads) old old []) (sym e) (items_none reads old);
  }

  -- the same, of the first of them
  pub form_vast : (borrow : ℕ) (takes_no_memory : Bool) (old : ReaderState) (t : _) → byte_limit < s
      → ReadRefused reads borrow takes_no_memory old old (reading.LengthEncodingOverflow t)
  form_vast borrow takes_no_memory old t vast = record {
    kept = record { lends = refl; never_fails = refl; counts_windows = refl; is_known = refl };
    left = λ told. record { front = []; joins = refl };
    place = λ told. still old;
    device = sound_refl old;
    due = λ a. let f = a.front.found in absurd (omega (
      arith,
      vast,
      a.fits,
      ap length f.is_read.1 ∙ law.long a.front.value f.is_read.0,
      ap length f.joins,
      length-append f.encoding a.front.rest,
    ));
  }

-- ---- writing

-- each of them, by place and in order
pub all_each : {X : Type 0} (P : X → Type 0) (xs : List X) → All P xs → Each P xs
all_each P [] all = tt
all_each P (x ∷ xs) all = (All-head P x xs all, all_each P xs (All-tail P x xs all))

-- What writes values, of s bytes each, so that the form of each is an encoding of it.
pub record WritesForms {X V : Type 0} (is_valid : X → Type 0) (s : ℕ) (form : X → List ℕ) (model : X → V) (g : WriteGrammar V) : Type 0 where
  pub can : (v : X) → g.can (model v)
  pub size : (v : X) → g.size (model v) ≡ s
  pub has_encoding : (v : X) → (b : List ℕ) × g.writes b (model v)
  pub is_encoding : (v : X) → is_valid v → g.writes (form v) (model v)

pub form_writes : {X : Type 0} (is_valid : X → Type 0) (s : ℕ) (form : X → List ℕ) → WritesForms is_valid s form (λ v. v) (writes_form s form)
form_writes is_valid s form = record { can = λ v. tt; size = λ v. refl; has_encoding = λ v. (form v, refl); is_encoding = λ v p. refl }

pub pod_writes : {X : Type 0} {is_valid : X → Type 0} {s : ℕ} {form : X → List ℕ} {value : List ℕ → X} → IsByteForm is_valid s form value
    → (any : Bool) (prealloc : ℕ) → WritesForms is_valid s form (λ v. v) (form_write is_valid s form any prealloc)
pod_writes law any prealloc = record {
  can = λ v. tt;
  size = λ v. refl;
  has_encoding = λ v. (form_write_laws law (λ w. w) any prealloc).has_encoding v tt;
  is_encoding = λ v p. (law.long v p, λ q. refl);
}

-- n bytes at once were refused: as one piece, or since they are past `usize::MAX`
abbrev pub AtOnce : ℕ → ℕ → IoWriteError → Type 0
AtOnce n room e = ((n ≤ byte_limit) × PieceWriteRefused n room [] (writing.Io e)) ⊎ ((byte_limit < n) × (e ≡ writer.WriteSizeLimit byte_limit))

module _ {X V : Type 0} {is_valid : X → Type 0} {s : ℕ} {form : X → List ℕ} {model : X → V} {g : WriteGrammar V} (f : WritesForms is_valid s form model g)
    (vs : List X) where
  each_can : (xs : List X) → Each g.can (map model xs)
  each_can [] = tt
  each_can (x ∷ xs) = (f.can x, each_can xs)

  has_encoding : (xs : List X) → (b : List ℕ) × Joined g.writes (map model xs) b
  has_encoding [] = ([], refl)
  has_encoding (x ∷ xs) = let h = f.has_encoding x in let r = has_encoding xs in (h.0 ++ r.0, (h.0, r.0, h.1, r.1, refl))

  are_encodings : (xs : List X) → All is_valid xs → Joined g.writes (map model xs) (flat_map form xs)
  are_encodings [] all = refl
  are_encodings (x ∷ xs) all = (form x, flat_map form xs, f.is_encoding x (All-head is_valid x xs all), are_encodings xs (All-tail is_valid x xs all), refl)

  sizes : (xs : List X) → total g.size (map model xs) ≡ length xs * s
  sizes [] = omega arith
  sizes (x ∷ xs) = omega (arith, f.size x, sizes xs)

  module _ {S K : Type 0} {put : S → List ℕ → S} {room : S → ℕ} (old new : WriterState put room K) where
    pub forms_wrote : {value : List ℕ → X} → IsByteForm is_valid s form value → All is_valid vs → Added (flat_map form vs) old new
        → Wrote (items_write g) old new (map model vs)
    forms_wrote law all a =
        let long = length-joined form s vs (λ k d h. law.long _ (all k d h)) in
        encoding_wrote (items_write g) (map model vs) (flat_map form vs) (are_encodings vs all) (long ∙ sym (sizes vs)) old new (each_can vs) a

    abbrev Able : Type 0
    Able = IsAble (items_write g) old (map model vs)

    due : (e : IoWriteError) → WriteRefusedFor (room old.content < length vs * s) (length vs * s) new e → WriterDue Able new e
    due (writer.WriteSizeLimit m) d = λ able. let fits = able.1 in let short = d.0 in omega (arith, sizes vs)
    due (writer.Io e) d = d
    due writer.OutOfMemory d = d

    -- nothing was written
    none : WriterLaws put room → IsUnmoved old new → (e : IoWriteError) → WriterTells old new e → WriterDue Able new e
        → WriteRefused (items_write g) old new (map model vs) (writing.Io e)
    none laws unmoved e device d = let encoding = has_encoding vs in record {
      same = unmoved.same;
      began = λ c. record {
        front = [];
        more = encoding.0;
        is_encoding = encoding.1;
        within = omega arith;
        added =
            unmoved.content ∙ sym (laws.nil old.content);
      };
      device = device;
      due = d;
    }

    pub forms_unwritten : WriterLaws put room → (e : IoWriteError) → (length vs * s ≤ byte_limit → BytesWriteRefused (length vs * s) old new e)
        → (byte_limit < length vs * s → (e ≡ writer.WriteSizeLimit byte_limit) × IsUnmoved old new × IsSoundWriter old new)
        → WriteRefused (items_write g) old new (map model vs) (writing.Io e)
    forms_unwritten laws e refused vast = elim (cases_lt byte_limit (length vs * s)) [
      | inl over ↦
          let v = vast over in
          let d : WriterDue Able new (writer.WriteSizeLimit byte_limit) = λ able. let fits = able.1 in omega (arith, sizes vs, over) in
          none laws v.1 e (subst (λ x. WriterTells old new x) (sym v.0) v.2) (subst (λ x. WriterDue Able new x) (sym v.0) d)
      | inr within ↦ let r = refused within in none laws r.0 e r.1 (due e r.2)
    ]

    -- at once they were refused: nothing was added, by a piece of all their bytes, or by one past `usize::MAX`
    pub forms_halted : WriterLaws put room → (e : IoWriteError) → (length vs * s ≤ byte_limit → BytesWriteRefused (length vs * s) old new e)
        → (byte_limit < length vs * s → (e ≡ writer.WriteSizeLimit byte_limit) × IsUnmoved old new × IsSoundWriter old new)
        → (AtOnce (length vs * s) (room old.content) e → ItemsWriteRefused g (map model vs) (room old.content) [] (writing.Io e))
        → Stopped (items_write g) old new (map model vs) (writing.Io e)
    forms_halted laws e refused vast so = elim (cases_lt byte_limit (length vs * s)) [
      | inl over ↦ let v = vast over in nothing_stopped laws old new (writing.Io e) v.1.content (so (inr (over, v.0)))
      | inr within ↦ let r = refused within in nothing_stopped laws old new (writing.Io e) r.0.content
          (so (inl (within, piece_denied (length vs * s) old new e r)))
    ]

-- of many forms at once that are announced as no size the first was refused
pub pods_refused : {X : Type 0} (is_valid : X → Type 0) (s : ℕ) (form : X → List ℕ) (any : Bool) (prealloc : ℕ) (vs : List X) (room : ℕ) (e : IoWriteError) → 0
    < length vs → AtOnce (length vs * s) room e
    → ItemsWriteRefused (form_write is_valid s form any prealloc) (map (λ v. v) vs) room [] (writing.Io e)
pods_refused is_valid s form any prealloc [] room e some d = absurd (omega (arith, some))
pods_refused is_valid s form any prealloc (v ∷ vs) room e some (inl d) = λ dynamic. let over = vast_form s any dynamic in absurd (omega (arith, over, d.0))
pods_refused is_valid s form any prealloc (v ∷ vs) room e some (inr d) = λ dynamic. record {
  before = [];
  item = v;
  after = map (λ w. w) vs;
  encoding = [];
  rest = [];
  is = refl;
  written = refl;
  joins = refl;
  refused = inr (vast_form s any dynamic, refl, ap writing.Io d.1);
}

-- of so many bytes at once the writer refused all, and holds what it held
pub at_once : {S K : Type 0} {put : S → List ℕ → S} {room : S → ℕ} (n : ℕ) (old new : WriterState put room K) (e : IoWriteError)
    → (n ≤ byte_limit → BytesWriteRefused n old new e)
    → (byte_limit < n → (e ≡ writer.WriteSizeLimit byte_limit) × IsUnmoved old new × IsSoundWriter old new) → FormWriteRefused n old new e
at_once {S} {K} {put = put} {room = room} n old new e refused vast = elim (cases_lt byte_limit n) [
  | inl over ↦
      let v = vast over in
      let most : byte_limit ≡ min n byte_limit = omega arith in
      let Q : IoWriteError → Type 0 = λ x. WriteRefusedFor (room old.content ≤ byte_limit → room old.content < n) (min n byte_limit) new x in
      let T : IoWriteError → Type 0 = λ x. WriterTells old new x in
      (v.1, subst T (sym v.0) v.2, subst Q (sym v.0) ((λ few. omega (arith, few, over)), most))
  | inr within ↦
      let r = refused within in
      let least : n ≡ min n byte_limit = omega arith in
      (r.0, r.1, by new e least r.2)
] where
  by : (new : WriterState put room K) (e : IoWriteError) → n ≡ min n byte_limit → WriteRefusedFor (room old.content < n) n new e
      → WriteRefusedFor (room old.content ≤ byte_limit → room old.content < n) (min n byte_limit) new e
  by new (writer.WriteSizeLimit m) least d = ((λ few. d.0), d.1 ∙ least)
  by new (writer.Io x) least d = d
  by new writer.OutOfMemory least d = d

-- so, of n values of a byte each
pub bytes_at_once : {S K : Type 0} {put : S → List ℕ → S} {room : S → ℕ} (n : ℕ) (old new : WriterState put room K) (e : IoWriteError) → n < 2 ^ 64
    → BytesWriteRefused n old new e → FormWriteRefused (n * 1) old new e
bytes_at_once n old new e few d =
    let one : n ≡ n * 1 = omega arith in
    at_once (n * 1) old new e (λ l. subst (λ k. BytesWriteRefused k old new e) one d) (λ l. absurd (omega (arith, few, l)))
