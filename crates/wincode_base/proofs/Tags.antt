-- Reading and writing a tag and then what it names.
use Rattle.std.proofs.Common.{◌≡◌, ◌∙◌, sym, ap, subst, ℕ, ◌<◌, ◌≤◌, ◌&&◌, true, List, [], ◌++◌, max, refl, arith, Option, Some, None, Result, Ok}
use Rattle.std.proofs.Common.{Err, length, append-nil, inl, inr, ◌-◌}
use Rattle.std.specs.Int.{Width, byte_len, from_le_bytes}
use Rattle.wincode_io.specs.Readers.{ReaderState, Takes, TakesNumber}
use Rattle.wincode_io.specs.Numbers.{le}
use Rattle.wincode_io.specs.NumberLaws.{length-le}
use Rattle.wincode_io.specs.Writers.{WriterState, WriterLaws}
use Rattle.wincode_base.specs.Grammar.{ReadGrammar, WriteGrammar, WriteLaws}
use Rattle.wincode_base.specs.Leaves.{number_read, number_write}
use Rattle.wincode_base.specs.LeafLaws.{number_write_laws}
use Rattle.wincode_base.specs.Pairs.{pair_write}
use Rattle.wincode_base.specs.PairLaws.{le_max_left, le_max_right, both_left, both_right}
use Rattle.wincode_base.specs.Sequences.{gives_map, refuses_map}
use Rattle.wincode_base.specs.WriteSequences.{stopped_map, stopped_behind, wrote_map, unwritten_map, pair_wrote, pair_unwritten_first, pair_unwritten_second}
use Rattle.wincode_base.proofs.Integers.{AreSmall, number_taken, number_gives, number_refuses}
use Rattle.wincode_base.specs.Outcomes.{Gives, ReadRefused, PieceReadRefused, Wrote, WriteRefused, Stopped, SchemaReadRefused}
use Rattle.wincode_base.specs.Tags.{tagged_write, option_tag, IsOptionPart, option_part_read, option_read, option_part_write, option_write, result_tag}
use Rattle.wincode_base.specs.Tags.{IsSidePart, sides_read, result_read, sides_write, result_write}
use Rattle.wincode_base.specs.TagLaws.{IsCase, tagged_gives, case_refused, bad_tag, option_small, option_part_laws, result_small, sides_laws}
use Rattle.wincode_base.specs.declared.error.ReadError.{ReadError}
use Rattle.wincode_base.specs.declared.error.ReadError.TheVariants as reading
use Rattle.wincode_base.specs.declared.error.WriteError.{WriteError}

-- ---- the tag alone

-- a tag was refused for its k bytes
pub tag_refuses : (size k : ℕ) → size ≡ k → (old new : ReaderState) (e : ReadError) → PieceReadRefused k old new e
    → SchemaReadRefused (number_read size true) old new e
tag_refuses size k is old new e d = let h = subst (λ n. PieceReadRefused n old new e) (sym is) d in (number_refuses size true old new e h, h)

-- a number that was taken is a tag
pub tag_taken : (size k : ℕ) → size ≡ k → (old new : ReaderState) (v : ℕ) → TakesNumber k old new v → Gives (number_read size true).reads old new v
tag_taken size k is old new v t = subst (λ n. Gives (number_read n true).reads old new v) (sym is) (number_gives k true old new v t)

-- bytes that were taken are those of their tag
pub tag_given : (w : Width) (some : 0 < byte_len w) (size : ℕ) → size ≡ byte_len w → (old new : ReaderState) (bytes : List ℕ) (v : ℕ)
    → Takes (byte_len w) old new bytes → AreSmall bytes → v ≡ from_le_bytes w bytes
    → Gives (number_read size true).reads old new v
tag_given w some size is old new bytes v t small e =
    subst (λ n. Gives (number_read n true).reads old new v) (sym is) (number_gives (byte_len w) true old new v (number_taken w some old new bytes v t small e))

-- ---- reading

module _ {V : Type 0} (k : ℕ) (some : 1 ≤ k) (g : ReadGrammar V) where
  pub some_gives : (old mid new : ReaderState) (v : V) (t : ℕ) → t ≡ 1 → Gives (number_read k true).reads old mid t → Gives g.reads mid new v
      → Gives (option_read k g).reads old new (Some v)
  some_gives old mid new v t i r s = tagged_gives k option_tag (option_small k some) (option_part_read g) old mid new t (Some v) (sym i) r
      (gives_map g.reads (IsOptionPart g.reads) mid new v (Some v) (λ b w. w) s)

  of_some : (t : ℕ) → t ≡ 1 → (b : List ℕ) (o : Option V) → IsCase option_tag (IsOptionPart g.reads) t b o → (v : V) × g.reads b v
  of_some t i b None r = absurd (omega (arith, r.0))
  of_some t i b (Some v) r = (v, r.1)

  pub some_refused : (old mid new : ReaderState) (t : ℕ) (e : ReadError) → t ≡ 1 → Gives (number_read k true).reads old mid t
      → ReadRefused g.reads g.borrow g.takes_no_memory mid new e → ReadRefused (option_read k g).reads g.borrow g.takes_no_memory old new e
  some_refused old mid new t e i r u =
      case_refused k option_tag (option_small k some) (option_part_read g) g.borrow g.takes_no_memory old mid new t e (omega arith) (λ x. x) r
      (refuses_map g.reads (IsCase option_tag (IsOptionPart g.reads) t) g.borrow g.takes_no_memory mid new e (of_some t i) u)

  no_option : (t : ℕ) → 2 ≤ t → (o : Option V) → option_tag o ≡ t → ⊥
  no_option t l None e = omega arith
  no_option t l (Some v) e = omega arith

  pub option_bad : (old new : ReaderState) (t n : ℕ) → 2 ≤ t → Gives (number_read k true).reads old new t
      → ReadRefused (option_read k g).reads g.borrow g.takes_no_memory old new (reading.InvalidTagEncoding n)
  option_bad old new t n l r = bad_tag k option_tag (option_small k some) (option_part_read g) old new t n (no_option t l) r

module _ {V W : Type 0} (k : ℕ) (some : 1 ≤ k) (g : ReadGrammar V) (h : ReadGrammar W) where
  abbrev Side : ℕ → List ℕ → Result V W → Type 0
  Side = IsCase result_tag (IsSidePart g.reads h.reads)

  pub ok_gives : (old mid new : ReaderState) (v : V) (t : ℕ) → t ≡ 0 → Gives (number_read k true).reads old mid t → Gives g.reads mid new v
      → Gives (result_read k g h).reads old new (Ok v)
  ok_gives old mid new v t i r s = tagged_gives k result_tag (result_small k some) (sides_read g h) old mid new t (Ok v) (sym i) r
      (gives_map g.reads (IsSidePart g.reads h.reads) mid new v (Ok v) (λ b w. w) s)

  pub err_gives : (old mid new : ReaderState) (w : W) (t : ℕ) → t ≡ 1 → Gives (number_read k true).reads old mid t → Gives h.reads mid new w
      → Gives (result_read k g h).reads old new (Err w)
  err_gives old mid new w t i r s = tagged_gives k result_tag (result_small k some) (sides_read g h) old mid new t (Err w) (sym i) r
      (gives_map h.reads (IsSidePart g.reads h.reads) mid new w (Err w) (λ b t. t) s)

  of_ok : (t : ℕ) → t ≡ 0 → (b : List ℕ) (o : Result V W) → Side t b o → (v : V) × g.reads b v
  of_ok t i b (Ok v) r = (v, r.1)
  of_ok t i b (Err w) r = absurd (omega (arith, r.0))

  of_err : (t : ℕ) → t ≡ 1 → (b : List ℕ) (o : Result V W) → Side t b o → (w : W) × h.reads b w
  of_err t i b (Ok v) r = absurd (omega (arith, r.0))
  of_err t i b (Err w) r = (w, r.1)

  pub ok_refused : (old mid new : ReaderState) (t : ℕ) (e : ReadError) → t ≡ 0 → Gives (number_read k true).reads old mid t
      → ReadRefused g.reads g.borrow g.takes_no_memory mid new e
      → ReadRefused (result_read k g h).reads (max g.borrow h.borrow) (g.takes_no_memory && h.takes_no_memory) old new e
  ok_refused old mid new t e i r u =
      case_refused k result_tag (result_small k some) (sides_read g h) g.borrow g.takes_no_memory old mid new t e (le_max_left g.borrow h.borrow)
      (both_left g.takes_no_memory h.takes_no_memory) r
      (refuses_map g.reads (Side t) g.borrow g.takes_no_memory mid new e (of_ok t i) u)

  pub err_refused : (old mid new : ReaderState) (t : ℕ) (e : ReadError) → t ≡ 1 → Gives (number_read k true).reads old mid t
      → ReadRefused h.reads h.borrow h.takes_no_memory mid new e
      → ReadRefused (result_read k g h).reads (max g.borrow h.borrow) (g.takes_no_memory && h.takes_no_memory) old new e
  err_refused old mid new t e i r u =
      case_refused k result_tag (result_small k some) (sides_read g h) h.borrow h.takes_no_memory old mid new t e (le_max_right g.borrow h.borrow)
      (both_right g.takes_no_memory h.takes_no_memory) r
      (refuses_map h.reads (Side t) h.borrow h.takes_no_memory mid new e (of_err t i) u)

  no_side : (t : ℕ) → 2 ≤ t → (o : Result V W) → result_tag o ≡ t → ⊥
  no_side t l (Ok v) e = omega arith
  no_side t l (Err w) e = omega arith

  pub result_bad : (old new : ReaderState) (t n : ℕ) → 2 ≤ t → Gives (number_read k true).reads old new t
      → ReadRefused (result_read k g h).reads (max g.borrow h.borrow) (g.takes_no_memory && h.takes_no_memory) old new (reading.InvalidTagEncoding n)
  result_bad old new t n l r = bad_tag k result_tag (result_small k some) (sides_read g h) old new t n (no_side t l) r

-- ---- writing

abbrev tag_and_part : {V : Type 0} → ℕ → WriteGrammar V → WriteGrammar (ℕ × V)
tag_and_part k part = pair_write (number_write k true) part

tagged_encodings : {V : Type 0} (k : ℕ) (tag : V → ℕ) (part : WriteGrammar V) (v : V) (b : List ℕ) → (tag_and_part k part).writes b (tag v, v)
    → (tagged_write k tag part).writes b v
tagged_encodings k tag part v b w = (w.1, w.3, w.4 ∙ ap (λ x. x ++ w.1) w.2)

none_texts : {V : Type 0} (k : ℕ) (g : WriteGrammar V) (b : List ℕ) → (number_write k true).writes b 0 → (option_write k g).writes b None
none_texts k g b w = ([], refl, w ∙ sym (append-nil (le k 0)))

module _ {S K : Type 0} {put : S → List ℕ → S} {room : S → ℕ} (laws : WriterLaws put room) where
  module _ {X V : Type 0} {p : X → Type 0} {model : X → V} (k : ℕ) (tag : V → ℕ) (part : WriteGrammar V) (l : WriteLaws p model part)
      {old : WriterState put room K} (v : V) where
    pub tagged_wrote : {mid new : WriterState put room K} → Wrote (number_write k true) old mid (tag v) → Wrote part mid new v
        → Wrote (tagged_write k tag part) old new v
    tagged_wrote r s = wrote_map (tag_and_part k part) (tagged_write k tag part) (tag v, v) v (λ c. c.1) refl (tagged_encodings k tag part v)
        (pair_wrote (number_write_laws k true) l laws r s)

    pub tag_unwritten : {new : WriterState put room K} {e : WriteError} → WriteRefused (number_write k true) old new (tag v) e
        → WriteRefused (tagged_write k tag part) old new v e
    tag_unwritten u = unwritten_map (tag_and_part k part) (tagged_write k tag part) (tag v, v) v (λ c. (tt, c)) refl (tagged_encodings k tag part v)
        (pair_unwritten_first (number_write_laws k true) l v u)

    pub part_unwritten : {mid new : WriterState put room K} {e : WriteError} → Wrote (number_write k true) old mid (tag v) → WriteRefused part mid new v e
        → WriteRefused (tagged_write k tag part) old new v e
    part_unwritten r u = unwritten_map (tag_and_part k part) (tagged_write k tag part) (tag v, v) v (λ c. (tt, c)) refl (tagged_encodings k tag part v)
        (pair_unwritten_second (number_write_laws k true) l laws r u)

    pub tag_halted : {new : WriterState put room K} {e : WriteError} → Stopped (number_write k true) old new (tag v) e
        → Stopped (tagged_write k tag part) old new v e
    tag_halted s = stopped_map (number_write k true) (tagged_write k tag part) (tag v) v (λ a r. inl r) s

    pub part_halted : {mid new : WriterState put room K} {e : WriteError} → Wrote (number_write k true) old mid (tag v) → Stopped part mid new v e
        → Stopped (tagged_write k tag part) old new v e
    part_halted {e = e} r s =
        let size : length r.encoding ≡ k = ap length r.is_encoding ∙ length-le k (tag v) in
        stopped_behind (number_write_laws k true) laws part (tagged_write k tag part) v v r s
        (λ x. inr (s.added, ap (λ b. b ++ s.added) r.is_encoding, subst (λ n. part.refused v (room old.content - n) s.added e) size x))

  module _ {V : Type 0} (k : ℕ) (g : WriteGrammar V) {old new : WriterState put room K} where
    pub none_wrote : Wrote (number_write k true) old new 0 → Wrote (option_write k g) old new None
    none_wrote r = wrote_map (number_write k true) (option_write k g) 0 None (λ c. tt) (omega arith) (none_texts k g) r

    pub none_unwritten : {e : WriteError} → WriteRefused (number_write k true) old new 0 e → WriteRefused (option_write k g) old new None e
    none_unwritten u = unwritten_map (number_write k true) (option_write k g) 0 None (λ c. tt) (omega arith) (none_texts k g) u

    pub none_halted : {e : WriteError} → Stopped (number_write k true) old new 0 e → Stopped (option_write k g) old new None e
    none_halted s = stopped_map (number_write k true) (option_write k g) 0 None (λ a r. inl r) s

  module _ {X V : Type 0} (k : ℕ) {p : X → Type 0} {model : X → V} {g : WriteGrammar V} (l : WriteLaws p model g) {old : WriterState put room K} (v : V) where
    pub some_wrote : {mid new : WriterState put room K} → Wrote (number_write k true) old mid 1 → Wrote g mid new v → Wrote (option_write k g) old new (Some v)
    some_wrote r s = tagged_wrote k option_tag (option_part_write g) (option_part_laws p model g l) (Some v) r
        (wrote_map g (option_part_write g) v (Some v) (λ c. c) refl (λ b w. w) s)

    pub some_tag_unwritten : {new : WriterState put room K} {e : WriteError} → WriteRefused (number_write k true) old new 1 e
        → WriteRefused (option_write k g) old new (Some v) e
    some_tag_unwritten u = tag_unwritten k option_tag (option_part_write g) (option_part_laws p model g l) (Some v) u

    pub some_unwritten : {mid new : WriterState put room K} {e : WriteError} → Wrote (number_write k true) old mid 1 → WriteRefused g mid new v e
        → WriteRefused (option_write k g) old new (Some v) e
    some_unwritten r u = part_unwritten k option_tag (option_part_write g) (option_part_laws p model g l) (Some v) r
        (unwritten_map g (option_part_write g) v (Some v) (λ c. c) refl (λ b w. w) u)

    pub some_tag_halted : {new : WriterState put room K} {e : WriteError} → Stopped (number_write k true) old new 1 e
        → Stopped (option_write k g) old new (Some v) e
    some_tag_halted s = tag_halted k option_tag (option_part_write g) (option_part_laws p model g l) (Some v) s

    pub some_halted : {mid new : WriterState put room K} {e : WriteError} → Wrote (number_write k true) old mid 1 → Stopped g mid new v e
        → Stopped (option_write k g) old new (Some v) e
    some_halted r s = part_halted k option_tag (option_part_write g) (option_part_laws p model g l) (Some v) r
        (stopped_map g (option_part_write g) v (Some v) (λ a x. x) s)

  module _ {X Y V W : Type 0} (k : ℕ) {p : X → Type 0} {q : Y → Type 0} {model : X → V} {model' : Y → W} {g : WriteGrammar V} {h : WriteGrammar W}
      (l : WriteLaws p model g) (m : WriteLaws q model' h) {old : WriterState put room K} where
    pub side_tag_unwritten : (o : Result V W) (t : ℕ) {new : WriterState put room K} {e : WriteError} → result_tag o ≡ t
        → WriteRefused (number_write k true) old new t e → WriteRefused (result_write k g h) old new o e
    side_tag_unwritten o t {new} {e} i u = tag_unwritten k result_tag (sides_write g h) (sides_laws p q model model' g h l m) o
        (subst (λ n. WriteRefused (number_write k true) old new n e) (sym i) u)

    pub ok_wrote : (v : V) {mid new : WriterState put room K} → Wrote (number_write k true) old mid 0 → Wrote g mid new v
        → Wrote (result_write k g h) old new (Ok v)
    ok_wrote v r s = tagged_wrote k result_tag (sides_write g h) (sides_laws p q model model' g h l m) (Ok v) r
        (wrote_map g (sides_write g h) v (Ok v) (λ c. c) refl (λ b w. w) s)

    pub err_wrote : (w : W) {mid new : WriterState put room K} → Wrote (number_write k true) old mid 1 → Wrote h mid new w
        → Wrote (result_write k g h) old new (Err w)
    err_wrote w r s = tagged_wrote k result_tag (sides_write g h) (sides_laws p q model model' g h l m) (Err w) r
        (wrote_map h (sides_write g h) w (Err w) (λ c. c) refl (λ b t. t) s)

    pub ok_unwritten : (v : V) {mid new : WriterState put room K} {e : WriteError} → Wrote (number_write k true) old mid 0 → WriteRefused g mid new v e
        → WriteRefused (result_write k g h) old new (Ok v) e
    ok_unwritten v r u = part_unwritten k result_tag (sides_write g h) (sides_laws p q model model' g h l m) (Ok v) r
        (unwritten_map g (sides_write g h) v (Ok v) (λ c. c) refl (λ b w. w) u)

    pub err_unwritten : (w : W) {mid new : WriterState put room K} {e : WriteError} → Wrote (number_write k true) old mid 1 → WriteRefused h mid new w e
        → WriteRefused (result_write k g h) old new (Err w) e
    err_unwritten w r u = part_unwritten k result_tag (sides_write g h) (sides_laws p q model model' g h l m) (Err w) r
        (unwritten_map h (sides_write g h) w (Err w) (λ c. c) refl (λ b t. t) u)

    pub side_tag_halted : (o : Result V W) (t : ℕ) {new : WriterState put room K} {e : WriteError} → result_tag o ≡ t
        → Stopped (number_write k true) old new t e → Stopped (result_write k g h) old new o e
    side_tag_halted o t {new} {e} i s = tag_halted k result_tag (sides_write g h) (sides_laws p q model model' g h l m) o
        (subst (λ n. Stopped (number_write k true) old new n e) (sym i) s)

    pub ok_halted : (v : V) {mid new : WriterState put room K} {e : WriteError} → Wrote (number_write k true) old mid 0 → Stopped g mid new v e
        → Stopped (result_write k g h) old new (Ok v) e
    ok_halted v r s = part_halted k result_tag (sides_write g h) (sides_laws p q model model' g h l m) (Ok v) r
        (stopped_map g (sides_write g h) v (Ok v) (λ a x. x) s)

    pub err_halted : (w : W) {mid new : WriterState put room K} {e : WriteError} → Wrote (number_write k true) old mid 1 → Stopped h mid new w e
        → Stopped (result_write k g h) old new (Err w) e
    err_halted w r s = part_halted k result_tag (sides_write g h) (sides_laws p q model model' g h l m) (Err w) r
        (stopped_map h (sides_write g h) w (Err w) (λ a x. x) s)
