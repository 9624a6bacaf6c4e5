-- What reads answer that show their value, made of what they answer in parts.
use Rattle.std.proofs.Common.{◌≡◌, ◌∙◌, sym, ap, subst, ℕ, ◌≤◌, Bool, true, false, List, [], ◌∷◌, ◌++◌, map, length, refl, arith, append_assoc}
use Rattle.std.proofs.Common.{append-nil, Ok, Err, Some, None, inl, inr, lit≤, Bor, nat_eq}
use Rattle.std.specs.Prelude.{Result, Option, OnOk, IfErr, IsTrue}
use Rattle.std.proofs.lemmas.Bool.{eqb-true}
use Rattle.std.proofs.lemmas.List.{map-append}
use Rattle.wincode_io.specs.Joins.{AreItems}
use Rattle.wincode_io.specs.PlaceLaws.{still, sound_refl, known_kept}
use Rattle.wincode_io.specs.Readers.{ReaderState, Windowed, memory, nothing}
use Rattle.wincode_base.specs.ArrayLaws.{array_read_laws}
use Rattle.wincode_base.specs.Arrays.{array_read, times_meta}
use Rattle.wincode_base.specs.FixedSizeLaws.{window_denied_refuses, takes_joins}
use Rattle.wincode_base.specs.Grammar.{ReadGrammar, ReadLaws, IsReadStatic}
use Rattle.wincode_base.specs.InWindow.{windowed_read}
use Rattle.wincode_base.specs.ItemSizes.{item_size, run_size, MayBeOf, IsReadItemSize}
use Rattle.wincode_base.specs.LeafLaws.{number_one}
use Rattle.wincode_base.specs.Leaves.{number_read}
use Rattle.wincode_base.specs.Lengths.{IsLength, length_read}
use Rattle.wincode_base.specs.Lists.{list_read, run_read}
use Rattle.wincode_base.specs.ListLaws.{then_list, list_second, list_first, no_memory}
use Rattle.wincode_base.specs.Outcomes.{Gives, ReadRefused, SchemaReadRefused, NoWindow, PieceReadRefused, past_usize}
use Rattle.wincode_base.specs.Sequences.{Then, gives_map, refuses_map, refuses_unspared, then_gives, then_first, then_second}
use Rattle.wincode_base.specs.TagLaws.{tag_refused, result_small, option_small}
use Rattle.wincode_base.specs.Tags.{TagReadRefused, option_read, option_tag, option_part_read, result_read, result_tag, sides_read}
use Rattle.wincode_base.specs.declared.error.ReadError.{ReadError}
use Rattle.wincode_base.specs.declared.error.ReadError.TheVariants as reading
use Rattle.wincode_base.specs.declared.meta.TypeMeta.{TypeMeta}
use Rattle.wincode_base.specs.declared.meta.TypeMeta.TheVariants.{Static, Dynamic}
use Rattle.wincode_base.specs.declared.sizes.ItemSize.TheVariants.{Unknown}
use Rattle.wincode_base.proofs.InWindow.{sized_of, window_gives, window_refuses, dynamic_place, static_place}
use Rattle.wincode_base.proofs.ReadAnswers.{IsPassed}
use Rattle.wincode_base.proofs.Runs.{known_size, run_each, run_encoding, run_placed, run_long, too_long}
use Rattle.wincode_base.proofs.Tags.{some_gives, some_refused, option_bad, ok_gives, err_gives, ok_refused, err_refused, result_bad}
use Rattle.wincode_describe.specs.Parts.{Part, Length, Tag, seen, part_bytes, parts_bytes}
use Rattle.wincode_describe.specs.Explained.{Explains, ExplainsRead}
use Rattle.wincode_describe.specs.ShownGrammars.{shown_read, joined, Took, SinkLaws, ShowOutcome, Began, IsChosen, CaseGrammars, chosen_read}
use Rattle.wincode_describe.specs.ShownGrammars.{nameless_read, read_if}
use Rattle.wincode_describe.specs.ShownLaws.{any, shown_laws}
use Rattle.wincode_describe.specs.TypeLaws.{scheme_laws}
use Rattle.wincode_describe.specs.TypeBytes.{HasBytes, parts_append, scheme_bytes, described_bytes}
use Rattle.wincode_describe.specs.Types.{scheme_of, list_shown, list_of, option_shown, result_shown, described_read}
use Rattle.wincode_describe.specs.declared.described.Described.{Described}
use Rattle.wincode_describe.specs.declared.described.LengthScheme.{LengthScheme}
use Rattle.wincode_describe.specs.declared.shown.Shown.{Shown}

-- ---- a value that is shown

module _ {V : Type 0} (show : V → List Part) (g : ReadGrammar V) where
  pub shown_gives : (old new : ReaderState) (v : V) → Gives g.reads old new v → Gives (shown_read show g).reads old new (show v)
  shown_gives old new v r = gives_map g.reads (shown_read show g).reads old new v (show v) (λ b t. (v, t, refl)) r

  pub shown_unspared : (old new : ReaderState) (e : ReadError) → ReadRefused g.reads g.borrow false old new e
      → ReadRefused (shown_read show g).reads g.borrow false old new e
  shown_unspared old new e r = refuses_map g.reads (shown_read show g).reads g.borrow false old new e (λ b w t. (t.0, t.1)) r

  pub shown_refuses : (old new : ReaderState) (e : ReadError) → ReadRefused g.reads g.borrow g.takes_no_memory old new e
      → ReadRefused (shown_read show g).reads g.borrow false old new e
  shown_refuses old new e r = shown_unspared old new e (refuses_unspared r)

  -- what was refused is refused where its value is shown
  pub shown_refused : (old new : ReaderState) (e : ReadError) → SchemaReadRefused g old new e → SchemaReadRefused (shown_read show g) old new e
  shown_refused old new e r = (shown_refuses old new e r.0, inl r.1)

  -- and the other way round
  pub unshown_refuses : (old new : ReaderState) (e : ReadError) → ReadRefused (shown_read show g).reads g.borrow false old new e
      → ReadRefused g.reads g.borrow false old new e
  unshown_refuses old new e r = refuses_map (shown_read show g).reads g.reads g.borrow false old new e (λ b v t. (show v, (v, t, refl))) r

  -- memory was refused once a part was read
  pub shown_memory : {U : Type 0} (R : List ℕ → U → Type 0) (old new : ReaderState) (u : U) → Gives R old new u
      → SchemaReadRefused (shown_read show g) old new reading.OutOfMemory
  shown_memory R old new u r = (no_memory R (shown_read show g).reads g.borrow old new u r, inr refl)

-- ---- parts that were shown before a refusal

module _ {B : Type 0} {T : Took B} (l : SinkLaws T) where
  pub began_none : (old : ReaderState) (before : B) → Began T old before before
  began_none old before = record { more = []; is = l.none before; front = λ t. (old.rest, refl) }

-- a part wasn't taken
pub began_took : {B : Type 0} {T : Took B} (old : ReaderState) (before after : B) → T before [] after → Began T old before after
began_took old before after is = record { more = []; is = is; front = λ t. (old.rest, refl) }

-- parts of what reading gave
pub began_gave : {B : Type 0} {T : Took B} {U : Type 0} (R : List ℕ → U → Type 0) (old mid : ReaderState) (u : U) (before after : B) (more : List Shown)
    → T before more after → ((b : List ℕ) → R b u → b ≡ parts_bytes (map seen more)) → Gives R old mid u → Began T old before after
began_gave R old mid u before after more is by r = record {
  more = more;
  is = is;
  front = λ t. let f = r.found t in
      (mid.rest, f.joins ∙ ap (λ x. x ++ mid.rest) (by f.encoding f.is_read));
}

-- a reader has what stands behind the bytes of some parts, or a front of it
abbrev pub Behind : ReaderState → ReaderState → List Shown → Type 0
Behind start mid added = IsTrue start.is_known → IsTrue mid.is_known × ((tail : List ℕ) × (start.rest ≡ parts_bytes (map seen added) ++ (mid.rest ++ tail)))

pub behind_here : (s : ReaderState) → Behind s s []
behind_here s = λ t. (t, ([], sym (append-nil s.rest)))

pub behind_window : (n : ℕ) (old new window : ReaderState) → Windowed n old new window → Behind old window []
behind_window n old new window w = λ t. (w.is_known, (new.rest, takes_joins w.takes t))

pub behind_gave : {U : Type 0} (R : List ℕ → U → Type 0) (start mid : ReaderState) (u : U) (added : List Shown)
    → ((b : List ℕ) → R b u → b ≡ parts_bytes (map seen added)) → Gives R start mid u → Behind start mid added
behind_gave R start mid u added by r = λ t. let f = r.found t in (
  known_kept r.kept t,
  (
    [],
    f.joins ∙ ap (λ x. x ++ mid.rest) (by f.encoding f.is_read)
        ∙ ap (λ x. parts_bytes (map seen added) ++ x) (sym (append-nil mid.rest)),
  ),
)

-- the bytes of a tag and of a length
pub tag_joined : (k t : ℕ) (b : List ℕ) → (number_read k true).reads b t → b ≡ parts_bytes (Tag k t ∷ [])
tag_joined k t b r = r.1 ∙ sym (append-nil _)

pub length_joined : (s : LengthScheme) (p n : ℕ) (b : List ℕ) → IsLength (scheme_of s) p b n → b ≡ parts_bytes (Length s n ∷ [])
length_joined s p n b r = scheme_bytes s n b r.1 ∙ sym (append-nil _)

added_bytes : (added more : List Shown) → parts_bytes (map seen (added ++ more)) ≡ parts_bytes (map seen added) ++ parts_bytes (map seen more)
added_bytes added more = ap parts_bytes (map-append seen added more) ∙ parts_append (map seen added) (map seen more)

-- ---- answers

module _ {A B : Type 0} {T : Took B} (g : ReadGrammar (List Part)) {old new : ReaderState} (before after : B) where
  -- an error that a `?` passes on
  pub show_refused : (r : Result A ReadError) (e : ReadError) → IsPassed r e → SchemaReadRefused g old new e → Began T old before after
      → ShowOutcome T g old new before after r
  show_refused (Ok x) e h d k = absurd h.1
  show_refused (Err x) e h d k = let P : ReadError → Type 0 = SchemaReadRefused g old new in record { ok = tt; refused = subst P (sym h.1) d; began = k }

module _ {B : Type 0} {T : Took B} (l : SinkLaws T) where
  pub began_behind : (start mid : ReaderState) (before so after : B) (added : List Shown) → T before added so → Behind start mid added → Began T mid so after
      → Began T start before after
  began_behind start mid before so after added is behind k = record {
    more = added ++ k.more;
    is = l.joins before so after added k.more is k.is;
    front = λ t.
        let p = behind t in
        let q = k.front p.0 in
        let X = parts_bytes (map seen added) in
        let Y = parts_bytes (map seen k.more) in (
          q.0 ++ p.1.0,
          p.1.1 ∙ ap (λ x. X ++ (x ++ p.1.0)) q.1 ∙ ap (λ x. X ++ x) (append_assoc Y q.0 p.1.0) ∙ sym (append_assoc X Y (q.0 ++ p.1.0))
              ∙ ap (λ x. x ++ (q.0 ++ p.1.0)) (sym (added_bytes added k.more)),
        );
  }

  -- what one call answers, behind what was shown before it, another does
  pub show_map : {A : Type 0} (g G : ReadGrammar (List Part)) {start mid inner new : ReaderState} (before so after : B) (added : List Shown)
      (r : Result A ReadError) → T before added so → Behind start mid added
      → ((w : List Part) → Gives g.reads mid inner w → Gives G.reads start new (map seen added ++ w))
      → ((e : ReadError) → SchemaReadRefused g mid inner e → SchemaReadRefused G start new e)
      → ShowOutcome T g mid inner so after r → ShowOutcome T G start new before after r
  show_map g G {start} {mid} {inner} {new} before so after added (Ok x) is behind given refused o =
      let s = o.ok in
      record {
        ok = record {
          more = added ++ s.more;
          is = l.joins before so after added s.more is s.is;
          gives = subst (Gives G.reads start new) (sym (map-append seen added s.more)) (given (map seen s.more) s.gives);
        };
        refused = tt;
        began = tt;
      }
  show_map g G {start} {mid} before so after added (Err e) is behind given refused o =
      record { ok = tt; refused = refused e o.refused; began = began_behind start mid before so after added is behind o.began }

  -- so, where nothing was shown before it
  pub show_as : {A : Type 0} (g G : ReadGrammar (List Part)) {start mid inner new : ReaderState} (before after : B) (r : Result A ReadError)
      → Behind start mid []
      → ((w : List Part) → Gives g.reads mid inner w → Gives G.reads start new w)
      → ((e : ReadError) → SchemaReadRefused g mid inner e → SchemaReadRefused G start new e)
      → ShowOutcome T g mid inner before after r → ShowOutcome T G start new before after r
  show_as g G before after r behind given refused o = show_map g G before before after [] r (l.none before) behind given refused o

  -- a last part is added, behind others
  pub show_last : {A : Type 0} (G : ReadGrammar (List Part)) {start new : ReaderState} (before so after : B) (added : List Shown) (p : Shown)
      (r : Result A ReadError) → T before added so
      → Gives G.reads start new (map seen (added ++ (p ∷ []))) → SchemaReadRefused G start new reading.OutOfMemory → Began T start before so
      → OnOk r (T so (p ∷ []) after) → IfErr r (λ e. (e ≡ reading.OutOfMemory) × T so [] after) → ShowOutcome T G start new before after r
  show_last G before so after added p (Ok x) is gives memory began ok err =
      record { ok = record { more = added ++ (p ∷ []); is = l.joins before so after added (p ∷ []) is ok; gives = gives }; refused = tt; began = tt }
  show_last G {start} {new} before so after added p (Err e) is gives memory began ok err =
      let P : ReadError → Type 0 = SchemaReadRefused G start new in
      record {
        ok = tt;
        refused = subst P (sym err.0) memory;
        began = record {
          more = began.more ++ [];
          is = l.joins before so after began.more [] began.is err.1;
          front = λ t. let f = began.front t in
              (f.0, f.1 ∙ ap (λ x. parts_bytes (map seen x) ++ f.0) (sym (append-nil began.more)));
        };
      }

  -- one part alone, which a schema read
  pub show_one : {A V : Type 0} (show : V → List Part) (g : ReadGrammar V) {start new : ReaderState} (before after : B) (v : V) (p : Shown)
      (r : Result A ReadError) → show v ≡ seen p ∷ [] → Gives g.reads start new v
      → OnOk r (T before (p ∷ []) after) → IfErr r (λ e. (e ≡ reading.OutOfMemory) × T before [] after)
      → ShowOutcome T (shown_read show g) start new before after r
  show_one show g {start} {new} before after v p r is gives ok err =
      show_last (shown_read show g) before before after [] p r (l.none before)
      (subst (Gives (shown_read show g).reads start new) is (shown_gives show g start new v gives)) (shown_memory show g g.reads start new v gives)
      (began_none l start before) ok err

-- the first of two parts
pub began_first : {B : Type 0} {T : Took B} (reads : List ℕ → List Part → Type 0) → HasBytes reads
    → (start new : ReaderState) (before so : B) (p : Shown) (q : Part) → T before (p ∷ []) so → Gives reads start new (seen p ∷ q ∷ [])
    → Began T start before so
began_first reads bytes start new before so p q is r = record {
  more = p ∷ [];
  is = is;
  front = λ t.
      let f = r.found t in
      let Y = parts_bytes (q ∷ []) in (
        Y ++ new.rest,
        f.joins ∙ ap (λ x. x ++ new.rest) (bytes f.encoding (seen p ∷ q ∷ []) f.is_read) ∙ append_assoc (part_bytes (seen p)) Y new.rest
            ∙ ap (λ x. x ++ (Y ++ new.rest)) (sym (append-nil (part_bytes (seen p)))),
      );
}

-- ---- items

pub joined_snoc : {A : Type 0} (vs : List (List A)) (v : List A) → joined (vs ++ (v ∷ [])) ≡ joined vs ++ v
joined_snoc [] v = append-nil v
joined_snoc (u ∷ us) v = ap (λ t. u ++ t) (joined_snoc us v) ∙ sym (append_assoc u (joined us) v)

-- ---- a list

module _ (s : LengthScheme) (g : ReadGrammar (List Part)) where
  abbrev RunReads : ℕ → List ℕ → List Part → Type 0
  RunReads n b w = (vs : List (List Part)) × AreItems n g.reads b vs × (w ≡ Length s n ∷ joined vs)

  then_run : (b : List ℕ) (w : List Part) → Then (IsLength (scheme_of s) g.prealloc) RunReads b w → (list_of s g).reads b w
  then_run b w t =
      let r = t.two in
      let items = r.1 in (
        r.0,
        then_list (scheme_of s) g b r.0 (record { before = t.before; x = t.x; y = t.y; one = t.one; two = items; joins = t.joins }),
        r.2 ∙ ap (λ n. Length s n ∷ joined r.0) (sym items.0),
      )

  -- the items behind the length
  pub run_gives : (old mid new : ReaderState) (n : ℕ) (size : _) (w : List Part) → Gives (IsLength (scheme_of s) g.prealloc) old mid n
      → Gives (shown_read joined (run_read n size g)).reads mid new w → Gives (list_of s g).reads old new (Length s n ∷ w)
  run_gives old mid new n size w r t =
      gives_map (Then (IsLength (scheme_of s) g.prealloc) RunReads) (list_of s g).reads old new (Length s n ∷ w) (Length s n ∷ w)
      (λ b k. then_run b (Length s n ∷ w) k)
      (then_gives (IsLength (scheme_of s) g.prealloc) RunReads old mid new n (Length s n ∷ w) r
      (gives_map (shown_read joined (run_read n size g)).reads (RunReads n) mid new w (Length s n ∷ w) (λ b k. (k.0, k.1, ap (λ u. Length s n ∷ u) k.2)) t))

  pub length_refused : (old new : ReaderState) (e : ReadError) → SchemaReadRefused (length_read (scheme_of s) g.prealloc) old new e
      → SchemaReadRefused (list_of s g) old new e
  length_refused old new e r = shown_refused (list_shown s) (list_read (scheme_of s) 24 g) old new e (list_first (scheme_of s) g old new e r.0, inl r)

  -- the items behind the length were refused
  pub run_refused : (old mid new : ReaderState) (n : ℕ) (e : ReadError) → Gives (IsLength (scheme_of s) g.prealloc) old mid n
      → SchemaReadRefused (shown_read joined (run_read n (item_size g.meta) g)) mid new e → SchemaReadRefused (list_of s g) old new e
  run_refused old mid new n e r t = (
    shown_refuses (list_shown s) (list_read (scheme_of s) 24 g) old new e
        (list_second (scheme_of s) g (scheme_laws s) old mid new n e r (unshown_refuses joined (run_read n (item_size g.meta) g) mid new e t.0)),
    elim t.1 [ inl p ↦ inl (inr (n, mid, r, p)) | inr m ↦ inr m ],
  )

-- ---- items through a window

module _ {g : ReadGrammar (List Part)} (l : ReadLaws any g) where
  -- what is known of the size of an item
  item_sized_by : (m : TypeMeta) → g.meta ≡ m → IsReadStatic g.reads m → IsReadItemSize g (item_size m)
  item_sized_by Dynamic is h = is
  item_sized_by (Static s z) is h = (h.0, subst (λ m. MayBeOf m s) (sym is) refl)

  pub item_sized : IsReadItemSize g (item_size g.meta)
  item_sized = item_sized_by g.meta refl l.statics

  module _ (n : ℕ) where
    abbrev Items : ReadGrammar (List Part)
    Items = shown_read joined (array_read n g)

    abbrev Run : ReadGrammar (List Part)
    Run = shown_read joined (run_read n (item_size g.meta) g)

    abbrev Whole : ReadGrammar (List Part)
    Whole = shown_read joined (windowed_read (array_read n g))

    run_sized : (total : ℕ) → run_size n (item_size g.meta) ≡ Some total → (b : List ℕ) (w : List Part) → Items.reads b w → length b ≡ total
    run_sized total is b w r = run_encoding g n (item_size g.meta) total item_sized is b r.0 r.1

    -- items of no one size are read one after another
    pub run_dynamic : (old new : ReaderState) (e : ReadError) → item_size g.meta ≡ Unknown → SchemaReadRefused Items old new e → SchemaReadRefused Run old new e
    run_dynamic old new e is x = (x.0, elim x.1 [ inl r ↦ inl (run_each g n (item_size g.meta) is item_sized old new e (λ there. r)) | inr m ↦ inr m ])

    module _ (total : ℕ) (is : run_size n (item_size g.meta) ≡ Some total) (old new : ReaderState) where
      pub run_window_gives : (window after : ReaderState) (w : List Part) → Windowed total old new window → Gives Items.reads window after w
          → Gives Run.reads old new w
      run_window_gives window after w v x = window_gives Items.reads total (run_sized total is) old new window after w v x

      pub run_window_refused : (window after : ReaderState) (e : ReadError) → Windowed total old new window → SchemaReadRefused Items window after e
          → SchemaReadRefused Run old new e
      run_window_refused window after e v x = (
        window_refuses Items.reads total (run_sized total is) g.borrow false old new window after e v x.0,
        elim x.1 [ inl r ↦ inl (run_placed g n (item_size g.meta) total item_sized is old new e (inr (window, after, v, λ there. r))) | inr m ↦ inr m ],
      )

      pub run_unwindowed : (e : ReadError) → NoWindow total old new e → SchemaReadRefused Run old new e
      run_unwindowed e d = (
        window_denied_refuses Items.reads total (run_sized total is) g.borrow false old new e d,
        inl (run_placed g n (item_size g.meta) total item_sized is old new e (inl d)),
      )

    -- more bytes than there can be
    pub run_overflows : run_size n (item_size g.meta) ≡ None → (item_size g.meta ≡ Unknown → ⊥) → (s : ReaderState) (e : ReadError) (x : Bor (List ℕ)) → x.now
        ≡ past_usize → e ≡ reading.LengthEncodingOverflow x → SchemaReadRefused Run s s e
    run_overflows none known s e x text is =
        let k = known_size (item_size g.meta) known in
        shown_refused joined (run_read n (item_size g.meta) g) s s e
        (too_long g n (item_size g.meta) k item_sized none g.borrow s e x is, run_long g n (item_size g.meta) k none s e x text is)

    whole_sized : (s : ℕ) (z : Bool) → times_meta n g.meta ≡ Static s z → (b : List ℕ) (w : List Part) → Items.reads b w → length b ≡ s
    whole_sized s z is = sized_of Items.reads (times_meta n g.meta) s z (shown_laws joined (array_read_laws n any g l)).statics is

    pub array_dynamic : (old new : ReaderState) (e : ReadError) → times_meta n g.meta ≡ Dynamic → SchemaReadRefused Items old new e
        → SchemaReadRefused Whole old new e
    array_dynamic old new e is x = (x.0, elim x.1 [ inl r ↦ inl (dynamic_place (times_meta n g.meta) old new e (array_read n g).refused is r) | inr m ↦ inr m ])

    module _ (s : ℕ) (z : Bool) (is : times_meta n g.meta ≡ Static s z) (old new : ReaderState) where
      pub array_window_gives : (window after : ReaderState) (w : List Part) → Windowed s old new window → Gives Items.reads window after w
          → Gives Whole.reads old new w
      array_window_gives window after w v x = window_gives Items.reads s (whole_sized s z is) old new window after w v x

      pub array_window_refused : (window after : ReaderState) (e : ReadError) → Windowed s old new window → SchemaReadRefused Items window after e
          → SchemaReadRefused Whole old new e
      array_window_refused window after e v x = (
        window_refuses Items.reads s (whole_sized s z is) g.borrow false old new window after e v x.0,
        elim x.1 [ inl r ↦ inl (static_place (times_meta n g.meta) old new e (array_read n g).refused is (inr (window, after, v, r))) | inr m ↦ inr m ],
      )

      pub array_unwindowed : (e : ReadError) → NoWindow s old new e → SchemaReadRefused Whole old new e
      array_unwindowed e d = (
        window_denied_refuses Items.reads s (whole_sized s z is) g.borrow false old new e d,
        inl (static_place (times_meta n g.meta) old new e (array_read n g).refused is (inl d)),
      )

  module _ (s : ℕ) (z : Bool) (is : g.meta ≡ Static s z) (old new : ReaderState) where
    parts_sized : (b : List ℕ) (w : List Part) → g.reads b w → length b ≡ s
    parts_sized = sized_of g.reads g.meta s z l.statics is

    pub parts_window_gives : (window after : ReaderState) (w : List Part) → Windowed s old new window → Gives g.reads window after w
        → Gives (windowed_read g).reads old new w
    parts_window_gives window after w v x = window_gives g.reads s parts_sized old new window after w v x

    pub parts_window_refused : (window after : ReaderState) (e : ReadError) → Windowed s old new window → SchemaReadRefused g window after e
        → SchemaReadRefused (windowed_read g) old new e
    parts_window_refused window after e v x = (
      window_refuses g.reads s parts_sized g.borrow g.takes_no_memory old new window after e v x.0,
      static_place g.meta old new e g.refused is (inr (window, after, v, x.1)),
    )

    pub parts_unwindowed : (e : ReadError) → NoWindow s old new e → SchemaReadRefused (windowed_read g) old new e
    parts_unwindowed e d = (
      window_denied_refuses g.reads s parts_sized g.borrow g.takes_no_memory old new e d,
      static_place g.meta old new e g.refused is (inl d),
    )

-- ---- options and results

tag_place : (k : ℕ) (P : ℕ → Type 0) (old new : ReaderState) (e : ReadError) → PieceReadRefused k old new e → TagReadRefused k P old new e
tag_place k P old new (reading.Io e) d = d
tag_place k P old new _ d = absurd d

module _ (g : ReadGrammar (List Part)) where
  pub option_shows : (old mid new : ReaderState) (t : ℕ) (w : List Part) → t ≡ 1 → Gives (number_read 1 true).reads old mid t → Gives g.reads mid new w
      → Gives (shown_read option_shown (option_read 1 g)).reads old new (Tag 1 t ∷ w)
  option_shows old mid new t w is r x =
      let P : ℕ → Type 0 = λ n. Gives (shown_read option_shown (option_read 1 g)).reads old new (Tag 1 n ∷ w) in
      subst P (sym is) (shown_gives option_shown (option_read 1 g) old new (Some w) (some_gives 1 (lit≤ tt) g old mid new w t is r x))

  pub option_unshown : (old mid new : ReaderState) (t : ℕ) (e : ReadError) → t ≡ 1 → Gives (number_read 1 true).reads old mid t → SchemaReadRefused g mid new e
      → SchemaReadRefused (shown_read option_shown (option_read 1 g)) old new e
  option_unshown old mid new t e is r x =
      let P : ℕ → Type 0 = λ n. Gives (number_read 1 true).reads old mid n in
      shown_refused option_shown (option_read 1 g) old new e (some_refused 1 (lit≤ tt) g old mid new t e is r x.0, inr (mid, subst P is r, x))

  pub option_first : (old new : ReaderState) (e : ReadError) → SchemaReadRefused (number_read 1 true) old new e
      → SchemaReadRefused (shown_read option_shown (option_read 1 g)) old new e
  option_first old new e r = shown_refused option_shown (option_read 1 g) old new e
      (tag_refused 1 option_tag (option_small 1 (lit≤ tt)) (option_part_read g) old new e r.0, inl (tag_place 1 (λ t. 2 ≤ t) old new e r.1))

  pub option_nameless : (old new : ReaderState) (t : ℕ) → 2 ≤ t → Gives (number_read 1 true).reads old new t
      → SchemaReadRefused (shown_read option_shown (option_read 1 g)) old new (reading.InvalidTagEncoding t)
  option_nameless old new t two r = shown_refused option_shown (option_read 1 g) old new (reading.InvalidTagEncoding t)
      (option_bad 1 (lit≤ tt) g old new t t two r, inl (two, r))

  module _ (h : ReadGrammar (List Part)) where
    abbrev Sides : ReadGrammar (List Part)
    Sides = shown_read result_shown (result_read 4 g h)

    pub side_unshown : (old new : ReaderState) (e : ReadError) → SchemaReadRefused (number_read 4 true) old new e → SchemaReadRefused Sides old new e
    side_unshown old new e r = shown_refused result_shown (result_read 4 g h) old new e
        (tag_refused 4 result_tag (result_small 4 (lit≤ tt)) (sides_read g h) old new e r.0, inl (tag_place 4 (λ t. 2 ≤ t) old new e r.1))

    pub ok_shows : (old mid new : ReaderState) (t : ℕ) (w : List Part) → t ≡ 0 → Gives (number_read 4 true).reads old mid t → Gives g.reads mid new w
        → Gives Sides.reads old new (Tag 4 t ∷ w)
    ok_shows old mid new t w is r x =
        let P : ℕ → Type 0 = λ n. Gives Sides.reads old new (Tag 4 n ∷ w) in
        subst P (sym is) (shown_gives result_shown (result_read 4 g h) old new (Ok w) (ok_gives 4 (lit≤ tt) g h old mid new w t is r x))

    pub err_shows : (old mid new : ReaderState) (t : ℕ) (w : List Part) → t ≡ 1 → Gives (number_read 4 true).reads old mid t → Gives h.reads mid new w
        → Gives Sides.reads old new (Tag 4 t ∷ w)
    err_shows old mid new t w is r x =
        let P : ℕ → Type 0 = λ n. Gives Sides.reads old new (Tag 4 n ∷ w) in
        subst P (sym is) (shown_gives result_shown (result_read 4 g h) old new (Err w) (err_gives 4 (lit≤ tt) g h old mid new w t is r x))

    pub ok_unshown : (old mid new : ReaderState) (t : ℕ) (e : ReadError) → t ≡ 0 → Gives (number_read 4 true).reads old mid t → SchemaReadRefused g mid new e
        → SchemaReadRefused Sides old new e
    ok_unshown old mid new t e is r x =
        let P : ℕ → Type 0 = λ n. Gives (number_read 4 true).reads old mid n in
        shown_refused result_shown (result_read 4 g h) old new e (ok_refused 4 (lit≤ tt) g h old mid new t e is r x.0, inr (inl (mid, subst P is r, x)))

    pub err_unshown : (old mid new : ReaderState) (t : ℕ) (e : ReadError) → t ≡ 1 → Gives (number_read 4 true).reads old mid t → SchemaReadRefused h mid new e
        → SchemaReadRefused Sides old new e
    err_unshown old mid new t e is r x =
        let P : ℕ → Type 0 = λ n. Gives (number_read 4 true).reads old mid n in
        shown_refused result_shown (result_read 4 g h) old new e (err_refused 4 (lit≤ tt) g h old mid new t e is r x.0, inr (inr (mid, subst P is r, x)))

    pub side_nameless : (old new : ReaderState) (t : ℕ) → 2 ≤ t → Gives (number_read 4 true).reads old new t
        → SchemaReadRefused Sides old new (reading.InvalidTagEncoding t)
    side_nameless old new t two r = shown_refused result_shown (result_read 4 g h) old new (reading.InvalidTagEncoding t)
        (result_bad 4 (lit≤ tt) g h old new t t two r, inl (two, r))

-- ---- enums

module _ (k : ℕ) (cases : CaseGrammars) where
  pub chosen_gives : (old mid new : ReaderState) (t : ℕ) (w : List Part) → Gives (number_read k true).reads old mid t → Gives (cases.case t).reads mid new w
      → Gives (chosen_read k cases).reads old new (Tag k t ∷ w)
  chosen_gives old mid new t w r x = then_gives (number_read k true).reads (IsChosen k cases.case) old mid new t (Tag k t ∷ w) r
      (gives_map (cases.case t).reads (IsChosen k cases.case t) mid new w (Tag k t ∷ w) (λ b y. (w, y, refl)) x)

  pub chosen_first : (old new : ReaderState) (e : ReadError) → SchemaReadRefused (number_read k true) old new e
      → SchemaReadRefused (chosen_read k cases) old new e
  chosen_first old new e r = (then_first (number_read k true).reads (IsChosen k cases.case) 0 0 true false old new e (omega arith) (λ x. refl) r.0, inl (inl r))

  pub chosen_memory : (old new : ReaderState) (t : ℕ) → Gives (number_read k true).reads old new t
      → SchemaReadRefused (chosen_read k cases) old new reading.OutOfMemory
  chosen_memory old new t r = (no_memory (number_read k true).reads (chosen_read k cases).reads 0 old new t r, inr refl)

  pub chosen_second : (old mid new : ReaderState) (t : ℕ) (e : ReadError) → (cases.case t).borrow ≡ 0 → Gives (number_read k true).reads old mid t
      → SchemaReadRefused (cases.case t) mid new e → SchemaReadRefused (chosen_read k cases) old new e
  chosen_second old mid new t e none r x = (
    then_second (number_read k true).reads (IsChosen k cases.case) (number_one k true) (cases.case t).borrow 0 false false old mid new t e
        (omega (arith, none)) (λ y. y) r
        (refuses_map (cases.case t).reads (IsChosen k cases.case t) (cases.case t).borrow false mid new e (λ b v y. (y.0, y.1)) (refuses_unspared x.0)),
    inl (inr (t, mid, r, x)),
  )

pub nameless_refused : (s : ReaderState) (t : ℕ) → SchemaReadRefused (nameless_read t) s s (reading.InvalidTagEncoding t)
nameless_refused s t = (
  record {
    kept = record { lends = refl; never_fails = refl; counts_windows = refl; is_known = refl };
    left = λ k. record { front = []; joins = refl };
    place = λ k. still s;
    device = sound_refl s;
    due = λ a. a.front.found.is_read;
  },
  (refl, refl),
)

-- the tag is not that of the last case
pub case_nameless : (n t : ℕ) → (n ≡ t → ⊥) → (g : ReadGrammar (List Part)) (s : ReaderState)
    → SchemaReadRefused (read_if (nat_eq n t) g (nameless_read t)) s s (reading.InvalidTagEncoding t)
case_nameless n t apart g s =
    elim (nat_eq n t) as (λ b. (b ≡ true → n ≡ t) → SchemaReadRefused (read_if b g (nameless_read t)) s s (reading.InvalidTagEncoding t))
    [ true ↦ (λ e. absurd (apart (e refl))) | false ↦ (λ e. nameless_refused s t) ] (eqb-true n t)

-- ---- bytes that are explained

-- the parts of a value
pub read_explains : (d : Described) (old new : ReaderState) (w : List Part) → Gives (described_read d).reads old new w → ExplainsRead d old new w None
read_explains d old new w r = (λ t. let f = r.found t in (new.rest, f.joins ∙ ap (λ x. x ++ new.rest) (described_bytes d f.encoding w f.is_read)), r)

-- so, of bytes in memory
pub memory_explains : (d : Described) (bytes : List ℕ) (new : ReaderState) (w : List Part) (refused : Option ReadError)
    → ExplainsRead d (memory nothing bytes) new w refused → Explains d bytes w refused
memory_explains d bytes new w None x = (x.0 refl, (new.rest, x.1.found refl))
memory_explains d bytes new w (Some e) x = (x.0 refl, (new, x.1))
