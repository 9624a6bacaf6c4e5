-- How what each write of a sequence answers makes what the whole answers.
use Rattle.std.proofs.Common.{◌≡◌, ◌∙◌, sym, ap, subst, ℕ, ◌+◌, ◌-◌, ◌<◌, ◌≤◌, Bool, List, [], ◌∷◌, ◌++◌, length, map, refl, inl, inr, arith, append_assoc}
use Rattle.std.proofs.Common.{append-nil, length-append}
use Rattle.wincode_io.specs.Writers.{WriterState, WriterLaws, IsUnmoved, IsSoundWriter, counted, finished, Added, WriteRefusedFor, BytesWriteRefused}
use Rattle.wincode_io.specs.WriterLaws.{same_refl, same_trans, writer_sound_refl, writer_sound_trans, tells_on}
use Rattle.wincode_io.specs.Joins.{Joined, Each}
use Rattle.wincode_io.specs.JoinLaws.{joined_append, each_split, each_append, total-append}
use Rattle.wincode_base.specs.Grammar.{WriteGrammar, WriteLaws}
use Rattle.wincode_base.specs.Lengths.{Scheme, length_write}
use Rattle.wincode_base.specs.Lists.{item_write, items_write, each_write, parts_write}
use Rattle.wincode_base.specs.ListLaws.{items_write_laws}
use Rattle.wincode_base.specs.LengthLaws.{length_write_laws}
use Rattle.wincode_base.specs.Pairs.{pair_write}
use Rattle.wincode_base.specs.Outcomes.{Wrote, WriteRefused, WriteDue, WriterDue, WriteTells, IsAble, Stopped, PieceWriteRefused}
use Rattle.wincode_base.specs.declared.error.WriteError.{WriteError}
use Rattle.wincode_base.specs.declared.error.WriteError.TheVariants as writing
use Rattle.wincode_io.specs.declared.error.WriteError.{WriteError as IoWriteError}
use Rattle.wincode_io.specs.declared.error.WriteError.TheVariants as writer

module _ {S K : Type 0} {put : S → List ℕ → S} {room : S → ℕ} where
  writer_due_map : (f f' : Type 0) (new : WriterState put room K) → (f' → f) → (e : IoWriteError) → WriterDue f new e → WriterDue f' new e
  writer_due_map f f' new m (writer.WriteSizeLimit n) d = λ x. d (m x)
  writer_due_map f f' new m (writer.Io e) d = d
  writer_due_map f f' new m writer.OutOfMemory d = d

  -- a refusal that is due where more can be written is due where less can
  pub write_due_map : (f f' : Type 0) (new : WriterState put room K) → (f' → f) → (e : WriteError) → WriteDue f new e → WriteDue f' new e
  write_due_map f f' new m (writing.Io e) d = writer_due_map f f' new m e d
  write_due_map f f' new m writing.OutOfMemory d = d
  write_due_map f f' new m _ d = λ x. d (m x)

  refusal_due : (n : ℕ) (old new : WriterState put room K) (e : IoWriteError) → WriteRefusedFor (room old.content < n) n new e
      → WriterDue (n ≤ room old.content) new e
  refusal_due n old new (writer.WriteSizeLimit m) d = λ h. let k = d.0 in absurd (omega arith)
  refusal_due n old new (writer.Io e) d = d
  refusal_due n old new writer.OutOfMemory d = d

  -- writing before, in which the device did not fail, changes nothing of what is told of it
  pub write_tells_on : (a b c : WriterState put room K) (e : WriteError) → IsSoundWriter a b → WriteTells b c e → WriteTells a c e
  write_tells_on a b c (writing.Io e) sound t = tells_on a b c e sound t
  write_tells_on a b c _ sound t = writer_sound_trans sound t

  pub piece_denied : (n : ℕ) (old new : WriterState put room K) (e : IoWriteError) → BytesWriteRefused n old new e
      → PieceWriteRefused n (room old.content) [] (writing.Io e)
  piece_denied n old new (writer.WriteSizeLimit m) d = (refl, d.2.0, d.2.1)
  piece_denied n old new (writer.Io e) d = refl
  piece_denied n old new writer.OutOfMemory d = refl

  -- refused, and nothing was added
  pub nothing_stopped : {V : Type 0} {g : WriteGrammar V} {v : V} → WriterLaws put room → (old new : WriterState put room K) (e : WriteError) → new.content
      ≡ old.content → g.refused v (room old.content) [] e → Stopped g old new v e
  nothing_stopped laws old new e same r = record { added = []; within = omega arith; content = same ∙ sym (laws.nil old.content); refused = r }

  -- what is refused likewise stopped likewise
  pub stopped_map : {V W : Type 0} (g : WriteGrammar V) (h : WriteGrammar W) {old new : WriterState put room K} (v : V) (w : W) {e : WriteError}
      → ((added : List ℕ) → g.refused v (room old.content) added e → h.refused w (room old.content) added e) → Stopped g old new v e → Stopped h old new w e
  stopped_map g h v w m s = record { added = s.added; within = s.within; content = s.content; refused = m s.added s.refused }

  module _ {V : Type 0} (g : WriteGrammar V) (v : V) (encoding : List ℕ) (is : g.writes encoding v) (size : length encoding ≡ g.size v) where
    -- one call of the writer's wrote an encoding
    pub encoding_wrote : (old new : WriterState put room K) → g.can v → Added encoding old new → Wrote g old new v
    encoding_wrote old new can a = record { can = can; fits = let f = a.fits in omega (arith, size); encoding = encoding; is_encoding = is; took = a.took }

    -- one call of the writer's refused an encoding
    pub encoding_unwritten : WriterLaws put room → (old new : WriterState put room K) (e : IoWriteError) → BytesWriteRefused (length encoding) old new e
        → WriteRefused g old new v (writing.Io e)
    encoding_unwritten laws old new e d = record {
      same = d.0.same;
      began = λ c. record { front = []; more = encoding; is_encoding = is; within = omega arith; added = d.0.content ∙ sym (laws.nil old.content) };
      device = d.1;
      due = writer_due_map (length encoding ≤ room old.content) (IsAble g old v) new (λ x. let f = x.1 in omega (arith, size)) e
          (refusal_due (length encoding) old new e d.2);
    }

    -- that call added nothing
    pub encoding_stopped : WriterLaws put room → (old new : WriterState put room K) (e : IoWriteError) → BytesWriteRefused (length encoding) old new e
        → (PieceWriteRefused (length encoding) (room old.content) [] (writing.Io e) → g.refused v (room old.content) [] (writing.Io e))
        → Stopped g old new v (writing.Io e)
    encoding_stopped laws old new e d so = nothing_stopped laws old new (writing.Io e) d.0.content (so (piece_denied (length encoding) old new e d))

  -- all was written, and then the piece of writing was ended
  pub wrote_finished : {V : Type 0} {g : WriteGrammar V} {v : V} (buffers : Bool) {old mid new : WriterState put room K} → Wrote g old mid v
      → IsUnmoved (finished buffers mid) new → IsSoundWriter mid new → Wrote g (finished buffers old) new v
  wrote_finished buffers r u s = record {
    can = r.can;
    fits = r.fits;
    encoding = r.encoding;
    is_encoding = r.is_encoding;
    took = record {
      same = record {
        kept = u.same.kept ∙ r.took.same.kept;
        never_fails = u.same.never_fails ∙ r.took.same.never_fails;
        finishes = u.same.finishes ∙ ap (λ n. n + counted buffers) r.took.same.finishes;
      };
      sound = record { failures = s.failures ∙ r.took.sound.failures; has_failed = s.has_failed ∙ r.took.sound.has_failed };
      content = u.content ∙ r.took.content;
    };
  }

  -- what has the same encodings and size is written likewise
  pub wrote_map : {V W : Type 0} (g : WriteGrammar V) (h : WriteGrammar W) {old new : WriterState put room K} (v : V) (w : W) → (g.can v → h.can w) → h.size w
      ≡ g.size v → ((b : List ℕ) → g.writes b v → h.writes b w)
      → Wrote g old new v → Wrote h old new w
  wrote_map g h v w can size encodings r = record {
    can = can r.can;
    fits = let f = r.fits in omega (arith, size);
    encoding = r.encoding;
    is_encoding =
        encodings r.encoding r.is_encoding;
    took = r.took;
  }

  pub unwritten_map : {V W : Type 0} (g : WriteGrammar V) (h : WriteGrammar W) {old new : WriterState put room K} (v : V) (w : W) {e : WriteError}
      → (h.can w → g.can v) → h.size w ≡ g.size v → ((b : List ℕ) → g.writes b v → h.writes b w)
      → WriteRefused g old new v e → WriteRefused h old new w e
  unwritten_map g h {old} {new} v w {e} can size encodings u = record {
    same = u.same;
    began = λ c. let b = u.began (can c) in record {
      front = b.front;
      more = b.more;
      is_encoding = encodings (b.front ++ b.more) b.is_encoding;
      within =
          b.within;
      added = b.added;
    };
    device = u.device;
    due = write_due_map (IsAble g old v) (IsAble h old w) new (λ x. (can x.0, let f = x.1 in omega (arith, size))) e u.due;
  }

  module _ {V W X Y : Type 0} {g : WriteGrammar V} {h : WriteGrammar W} {p : X → Type 0} {q : Y → Type 0} {model : X → V} {model' : Y → W}
      (l : WriteLaws p model g) (m : WriteLaws q model' h) where
    pub pair_unwritten_first : {old new : WriterState put room K} {v : V} (w : W) {e : WriteError} → WriteRefused g old new v e
        → WriteRefused (pair_write g h) old new (v, w) e
    pair_unwritten_first {old} {new} {v} w {e} u = record {
      same = u.same;
      began = λ c. let b = u.began c.0 in let y = m.has_encoding w c.1 in
          record {
            front = b.front;
            more = b.more ++ y.0;
            is_encoding = (b.front ++ b.more, y.0, b.is_encoding, y.1, sym (append_assoc b.front b.more y.0));
            within = b.within;
            added = b.added;
          };
      device = u.device;
      due = write_due_map (IsAble g old v) (IsAble (pair_write g h) old (v, w)) new (λ x. (x.0.0, let f = x.1 in omega arith)) e u.due;
    }

    pub room_left : WriterLaws put room → (old mid : WriterState put room K) (v : V) (r : Wrote g old mid v) → (length r.encoding ≡ g.size v)
        × (room mid.content ≡ room old.content - length r.encoding)
    room_left laws old mid v r =
        let size : length r.encoding ≡ g.size v = l.encoding_size v r.encoding r.is_encoding in
        let fits : length r.encoding ≤ room old.content = omega (arith, r.fits, size) in
        (size, ap room r.took.content ∙ laws.left old.content r.encoding fits)

    pub pair_wrote : WriterLaws put room → {old mid new : WriterState put room K} {v : V} {w : W} → Wrote g old mid v → Wrote h mid new w
        → Wrote (pair_write g h) old new (v, w)
    pair_wrote laws {old} {mid} {new} {v} {w} r s =
        let first = room_left laws old mid v r in
        let second : length s.encoding ≡ h.size w = m.encoding_size w s.encoding s.is_encoding in
        let both : length r.encoding + length s.encoding ≤ room old.content = omega (arith, first.0, first.1, second, r.fits, s.fits) in
        record {
          can = (r.can, s.can);
          fits = omega (arith, first.0, second, both);
          encoding = r.encoding ++ s.encoding;
          is_encoding = (r.encoding, s.encoding, r.is_encoding, s.is_encoding, refl);
          took = record {
            same = same_trans r.took.same s.took.same;
            sound = writer_sound_trans r.took.sound s.took.sound;
            content = s.took.content ∙ ap (λ t. put t s.encoding) r.took.content ∙ laws.join old.content r.encoding s.encoding both;
          };
        }

    pub pair_unwritten_second : WriterLaws put room → {old mid new : WriterState put room K} {v : V} {w : W} {e : WriteError} → Wrote g old mid v
        → WriteRefused h mid new w e → WriteRefused (pair_write g h) old new (v, w) e
    pair_unwritten_second laws {old} {mid} {new} {v} {w} {e} r u =
        let first = room_left laws old mid v r in
        record {
          same = same_trans r.took.same u.same;
          began = λ c. let b = u.began c.1 in
              let both : length r.encoding + length b.front ≤ room old.content = omega (arith, first.0, first.1, r.fits, b.within) in
              record {
                front = r.encoding ++ b.front;
                more = b.more;
                is_encoding = (r.encoding, b.front ++ b.more, r.is_encoding, b.is_encoding, append_assoc r.encoding b.front b.more);
                within = simp length-append both;
                added = b.added ∙ ap (λ t. put t b.front) r.took.content ∙ laws.join old.content r.encoding b.front both;
              };
          device = write_tells_on old mid new e r.took.sound u.device;
          due = write_due_map (IsAble h mid w) (IsAble (pair_write g h) old (v, w)) new (λ x. (x.0.1, let f = x.1 in omega (arith, first.0, first.1))) e u.due;
        }

  module _ {V X : Type 0} {g : WriteGrammar V} {p : X → Type 0} {model : X → V} (l : WriteLaws p model g) (laws : WriterLaws put room) where
    -- behind an encoding that was written, more was refused
    pub stopped_behind : {W U : Type 0} {old mid new : WriterState put room K} {v : V} {e : WriteError} (h : WriteGrammar W) (k : WriteGrammar U) (w : W)
        (u : U) (r : Wrote g old mid v) (s : Stopped h mid new w e)
        → (h.refused w (room old.content - length r.encoding) s.added e → k.refused u (room old.content) (r.encoding ++ s.added) e) → Stopped k old new u e
    stopped_behind {old = old} {v = v} {e = e} h k w u r s so =
        let size : length r.encoding ≡ g.size v = l.encoding_size v r.encoding r.is_encoding in
        let left = ap room r.took.content ∙ laws.left old.content r.encoding (omega (arith, r.fits, size)) in
        let both : length r.encoding + length s.added ≤ room old.content = omega (arith, size, left, r.fits, s.within) in
        record {
          added = r.encoding ++ s.added;
          within = simp length-append both;
          content = s.content ∙ ap (λ t. put t s.added) r.took.content ∙ laws.join old.content r.encoding s.added both;
          refused = so (subst (λ n. h.refused w n s.added e) left s.refused);
        }

    pub pair_stopped_second : {W : Type 0} {h : WriteGrammar W} {old mid new : WriterState put room K} {v : V} {w : W} {e : WriteError} → Wrote g old mid v
        → Stopped h mid new w e → Stopped (pair_write g h) old new (v, w) e
    pair_stopped_second {h = h} {v = v} {w = w} r s = stopped_behind h (pair_write g h) w (v, w) r s (λ x. inr (r.encoding, s.added, r.is_encoding, refl, x))

  pub pair_stopped_first : {V W : Type 0} (g : WriteGrammar V) (h : WriteGrammar W) {old new : WriterState put room K} {v : V} (w : W) {e : WriteError}
      → Stopped g old new v e → Stopped (pair_write g h) old new (v, w) e
  pair_stopped_first g h {v = v} w s = stopped_map g (pair_write g h) v (v, w) (λ a r. inl r) s

items_laws : {V X : Type 0} {g : WriteGrammar V} {p : X → Type 0} {model : X → V} → WriteLaws p model g
    → WriteLaws {X = List X} (Each p) (map model) (items_write g)
items_laws {g = g} {p = p} {model = model} l = items_write_laws p model g l

abbrev length_and_items : {V : Type 0} → Scheme → WriteGrammar V → WriteGrammar (ℕ × List V)
length_and_items s g = pair_write (length_write s) (items_write g)

module _ {S K V X : Type 0} {put : S → List ℕ → S} {room : S → ℕ} (laws : WriterLaws put room) {g : WriteGrammar V} {p : X → Type 0} {model : X → V}
    (l : WriteLaws p model g) where
  pub items_wrote_none : (s : WriterState put room K) → Wrote (items_write g) s s []
  items_wrote_none s = record {
    can = tt;
    fits = omega arith;
    encoding = [];
    is_encoding = refl;
    took = record { same = same_refl s; sound = writer_sound_refl s; content = sym (laws.nil s.content) };
  }

  pub items_wrote_more : {old mid new : WriterState put room K} (us : List V) (v : V) → Wrote (items_write g) old mid us → Wrote g mid new v
      → Wrote (items_write g) old new (us ++ (v ∷ []))
  items_wrote_more us v r s =
      wrote_map (pair_write (items_write g) g) (items_write g) (us, v) (us ++ (v ∷ []))
      (λ c. each_append g.can us (v ∷ []) c.0 (c.1, tt))
      (omega (arith, total-append g.size us (v ∷ [])))
      (λ b w. subst (Joined g.writes (us ++ (v ∷ []))) (sym w.4) (joined_append g.writes us (v ∷ []) w.0 w.1 w.2 (w.1, [], w.3, refl, sym (append-nil w.1))))
      (pair_wrote (items_laws l) l laws r s)

  -- an item was refused before others
  pub items_unwritten : {old mid new : WriterState put room K} (us : List V) (v : V) (vs : List V) {e : WriteError} → Wrote (items_write g) old mid us
      → WriteRefused g mid new v e → WriteRefused (items_write g) old new (us ++ (v ∷ vs)) e
  items_unwritten us v vs r u =
      unwritten_map (pair_write (items_write g) (items_write g)) (items_write g) (us, v ∷ vs) (us ++ (v ∷ vs))
      (λ c. each_split g.can us (v ∷ vs) c)
      (total-append g.size us (v ∷ vs))
      (λ b w. subst (Joined g.writes (us ++ (v ∷ vs))) (sym w.4) (joined_append g.writes us (v ∷ vs) w.0 w.1 w.2 w.3))
      (pair_unwritten_second (items_laws l) (items_laws l) laws r
      (unwritten_map (pair_write g (items_write g)) (items_write g) (v, vs) (v ∷ vs) (λ c. c) refl (λ b w. w)
      (pair_unwritten_first l (items_laws l) vs u)))

  -- an item was refused behind others
  pub each_halted : {old mid new : WriterState put room K} (us : List V) (v : V) (more vs : List V) {e : WriteError} → vs ≡ us ++ (v ∷ more)
      → Wrote (items_write g) old mid us → Stopped g mid new v e → Stopped (each_write g) old new vs e
  each_halted us v more vs is r s =
      stopped_behind (items_laws l) laws g (each_write g) v vs r s
      (λ x. record {
        before = us;
        item = v;
        after = more;
        encoding = r.encoding;
        rest = s.added;
        is = is;
        written = r.is_encoding;
        joins = refl;
        refused =
            x;
      })

  pub items_halted : {old mid new : WriterState put room K} (us : List V) (v : V) (more vs : List V) {e : WriteError} → vs ≡ us ++ (v ∷ more)
      → Wrote (items_write g) old mid us → Stopped g mid new v e → Stopped (items_write g) old new vs e
  items_halted us v more vs is r s = stopped_map (each_write g) (items_write g) vs vs (λ a x dynamic. x) (each_halted us v more vs is r s)

  -- an item was refused, of which no more is said where it has one size
  pub item_halted : {old mid new : WriterState put room K} (us : List V) (v : V) (more vs : List V) {e : WriteError} → vs ≡ us ++ (v ∷ more)
      → Wrote (items_write g) old mid us → Stopped (item_write g) mid new v e → Stopped (items_write g) old new vs e
  item_halted us v more vs is r s =
      stopped_behind (items_laws l) laws (item_write g) (items_write g) v vs r s
      (λ x dynamic. record {
        before = us;
        item = v;
        after = more;
        encoding = r.encoding;
        rest = s.added;
        is = is;
        written = r.is_encoding;
        joins = refl;
        refused = x dynamic;
      })

  module _ (s : Scheme) (count : ℕ) where
    pub list_halted_first : {old new : WriterState put room K} (vs : List V) {e : WriteError} → Stopped (length_write s) old new (length vs) e
        → Stopped (parts_write s count g) old new vs e
    list_halted_first vs h = stopped_map (length_write s) (parts_write s count g) (length vs) vs (λ a r. inl r) h

    pub list_halted_second : {old mid new : WriterState put room K} (vs : List V) {e : WriteError} → Wrote (length_write s) old mid (length vs)
        → Stopped (items_write g) mid new vs e → Stopped (parts_write s count g) old new vs e
    list_halted_second vs r h = stopped_behind (length_write_laws s) laws (items_write g) (parts_write s count g) vs vs r h
        (λ x. inr (r.encoding, h.added, r.is_encoding, refl, x))

    pub list_wrote : {old mid new : WriterState put room K} (vs : List V) → Wrote (length_write s) old mid (length vs) → Wrote (items_write g) mid new vs
        → Wrote (parts_write s count g) old new vs
    list_wrote vs r t = wrote_map (length_and_items s g) (parts_write s count g) (length vs, vs) vs (λ c. c) refl (λ b w. w)
        (pair_wrote (length_write_laws s) (items_laws l) laws r t)

    pub list_unwritten_first : {old new : WriterState put room K} (vs : List V) {e : WriteError} → WriteRefused (length_write s) old new (length vs) e
        → WriteRefused (parts_write s count g) old new vs e
    list_unwritten_first vs u = unwritten_map (length_and_items s g) (parts_write s count g) (length vs, vs) vs (λ c. c) refl (λ b w. w)
        (pair_unwritten_first (length_write_laws s) (items_laws l) vs u)

    pub list_unwritten_second : {old mid new : WriterState put room K} (vs : List V) {e : WriteError} → Wrote (length_write s) old mid (length vs)
        → WriteRefused (items_write g) mid new vs e → WriteRefused (parts_write s count g) old new vs e
    list_unwritten_second vs r u = unwritten_map (length_and_items s g) (parts_write s count g) (length vs, vs) vs (λ c. c) refl (λ b w. w)
        (pair_unwritten_second (length_write_laws s) (items_laws l) laws r u)
