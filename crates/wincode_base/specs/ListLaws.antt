-- The laws of lists, from those of their items and lengths.
use Rattle.std.proofs.Common.{◌≡◌, ◌∙◌, sym, ap, subst, ℕ, ◌+◌, ◌<◌, ◌≤◌, ◌&&◌, Bool, true, false, List, [], ◌∷◌, ◌++◌, length, map, zero, suc, refl}
use Rattle.std.proofs.Common.{arith, append_assoc, length-append}
use Rattle.std.proofs.lemmas.List.{length-map}
use Rattle.wincode_io.specs.Readers.{ReaderState}
use Rattle.wincode_io.specs.PlaceLaws.{kept_trans, known_kept, sound_refl, sound_trans, still}
use Rattle.wincode_base.specs.Grammar.{ReadGrammar, WriteGrammar, ReadLaws, WriteLaws, ReadsBack}
use Rattle.wincode_base.specs.Lengths.{Scheme, SchemeLaws, IsLength, encoding_len}
use Rattle.wincode_base.specs.Lists.{items_write, reads_list, list_read, parts_write, list_write_of, list_write}
use Rattle.wincode_base.specs.LengthLaws.{length_one, encoding_of_len}
use Rattle.wincode_base.specs.ItemSizes.{item_size}
use Rattle.wincode_base.specs.Sequences.{Then, then_unambiguous, gives_map, refuses_map, gives_onward, then_gives, then_first, then_second}
use Rattle.wincode_base.specs.Outcomes.{Gives, ReadRefused}
use Rattle.wincode_base.specs.declared.error.ReadError.{ReadError}
use Rattle.wincode_base.specs.declared.error.ReadError.TheVariants.{OutOfMemory}
use Rattle.wincode_base.specs.declared.sizes.ItemSize.{ItemSize}
use Rattle.wincode_base.specs.declared.sizes.ItemSize.TheVariants.{Unknown}
use Rattle.wincode_io.specs.Joins.{IsUnambiguous, Joined, Each, total, AreItems}
use Rattle.wincode_io.specs.JoinLaws.{joined_snoc, items_one, each_map}

-- a list's encoding is its length's, and then so many items
pub list_then : {V : Type 0} (s : Scheme) (g : ReadGrammar V) (b : List ℕ) (vs : List V) → reads_list s g b vs
    → Then (IsLength s g.prealloc) (λ n. AreItems n g.reads) b vs
list_then s g b vs r = record { before = length vs; x = r.1.0; y = r.1.1; one = (r.0, r.1.2); two = (refl, r.1.3); joins = r.1.4 }

pub then_list : {V : Type 0} (s : Scheme) (g : ReadGrammar V) (b : List ℕ) (vs : List V) → Then (IsLength s g.prealloc) (λ n. AreItems n g.reads) b vs
    → reads_list s g b vs
then_list s g b vs r = let P : ℕ → Type 0 = λ n. IsLength s g.prealloc r.x n in let h = subst P (sym r.two.0) r.one in (h.0, (r.x, r.y, h.1, r.two.1, r.joins))

pub each_valid : {V : Type 0} (is_valid : V → Type 0) (g : ReadGrammar V) → ReadLaws is_valid g → (vs : List V) (b : List ℕ) → Joined g.reads vs b
    → Each is_valid vs
each_valid is_valid g laws [] b p = tt
each_valid is_valid g laws (v ∷ vs) b p = (laws.reads_valid p.0 v p.2, each_valid is_valid g laws vs p.1 p.3)

pub list_read_laws : {V : Type 0} (s : Scheme) → SchemeLaws s → (count : ℕ) → 1 ≤ count → (is_valid : V → Type 0) (g : ReadGrammar V) → ReadLaws is_valid g
    → ReadLaws (Each is_valid) (list_read s count g)
list_read_laws s scheme count counts is_valid g laws = record {
  one_front = λ a b x y v w p q e. then_unambiguous (IsLength s g.prealloc) (λ n. AreItems n g.reads) (length_one s scheme g.prealloc)
      (items_one g.reads laws.one_front) a b x y v w (list_then s g a v p) (list_then s g b w q) e;
  reads_valid = λ b vs p. each_valid is_valid g laws vs p.1.1 p.1.3;
  statics = tt;
  prealloc = counts;
}

-- ---- reading one item after another

module _ {V : Type 0} (reads : List ℕ → V → Type 0) where
  pub items_none : (s : ReaderState) → Gives (AreItems 0 reads) s s []
  items_none s = record {
    kept = record { lends = refl; never_fails = refl; counts_windows = refl; is_known = refl };
    sound = sound_refl s;
    found = λ t. record { encoding = []; is_read = (refl, refl); joins = refl };
    place = λ t. still s;
  }

  pub items_more : (i : ℕ) (old mid new : ReaderState) (vs : List V) (v : V) → Gives (AreItems i reads) old mid vs → Gives reads mid new v
      → Gives (AreItems (i + 1) reads) old new (vs ++ (v ∷ []))
  items_more i old mid new vs v g h = record {
    kept = kept_trans g.kept h.kept;
    sound = sound_trans g.sound h.sound;
    found = λ t. let f = g.found t in let k = h.found (known_kept g.kept t) in let l : length vs ≡ i = f.is_read.0 in record {
      encoding = f.encoding ++ k.encoding;
      is_read = (simp length-append (omega arith), joined_snoc reads vs v f.encoding k.encoding f.is_read.1 k.is_read);
      joins = f.joins ∙ ap (λ r. f.encoding ++ r) k.joins ∙ sym (append_assoc f.encoding k.encoding new.rest);
    };
    place = gives_onward (AreItems i reads) reads old mid new vs v g h;
  }

  abbrev AfterItem : V → List ℕ → List V → Type 0
  AfterItem v b ws = Joined reads ws b

  abbrev FromItem : List V → List ℕ → List V → Type 0
  FromItem us = Then reads AfterItem

  split : (i : ℕ) (vs : List V) (b : List ℕ) → i < length vs → Joined reads vs b → (ws : List V) × Then (AreItems i reads) FromItem b ws
  split i [] b h p = absurd (omega arith)
  split zero (v ∷ vs) b h p = (
    vs,
    record {
      before = [];
      x = [];
      y = b;
      one = (refl, refl);
      two =
          record { before = v; x = p.0; y = p.1; one = p.2; two = p.3; joins = p.4 };
      joins = refl;
    },
  )
  split (suc i) (v ∷ vs) b h p =
      let l : i < length vs = omega arith in
      let r = split i vs p.1 l p.3 in (
        r.0,
        record {
          before = v ∷ r.1.before;
          x = p.0 ++ r.1.x;
          y = r.1.y;
          one = (ap suc r.1.one.0, (p.0, r.1.x, p.2, r.1.one.1, refl));
          two = r.1.two;
          joins =
              p.4 ∙ ap (λ t. p.0 ++ t) r.1.joins ∙ sym (append_assoc p.0 r.1.x r.1.y);
        },
      )

  -- an item was refused after others were read
  pub items_refused_by : IsUnambiguous reads → (i n borrow : ℕ) (takes_no_memory takes_no_memory' : Bool)
      → (takes_no_memory ≡ false → takes_no_memory' ≡ false) → i < n → (old mid new : ReaderState) (vs : List V) (e : ReadError)
      → Gives (AreItems i reads) old mid vs → ReadRefused reads borrow takes_no_memory mid new e
      → ReadRefused (AreItems n reads) borrow takes_no_memory' old new e
  items_refused_by one i n borrow takes_no_memory takes_no_memory' s l old mid new vs e g r =
      refuses_map (Then (AreItems i reads) FromItem) (AreItems n reads) borrow takes_no_memory' old new e
      (λ b ws t. let m : i < length ws = omega (arith, t.0) in split i ws b m t.1)
      (then_second (AreItems i reads) FromItem (items_one reads one i) borrow borrow takes_no_memory' takes_no_memory' old mid new vs e (omega arith) (λ x. x) g
      (then_first reads AfterItem borrow borrow takes_no_memory takes_no_memory' mid new e (omega arith) s r))

  pub items_refused : IsUnambiguous reads → (i n borrow : ℕ) (takes_no_memory : Bool) → i < n → (old mid new : ReaderState) (vs : List V) (e : ReadError)
      → Gives (AreItems i reads) old mid vs → ReadRefused reads borrow takes_no_memory mid new e → ReadRefused (AreItems n reads) borrow false old new e
  items_refused one i n borrow takes_no_memory = items_refused_by one i n borrow takes_no_memory false (λ x. refl)

pub none_spared : (a : Bool) → (a && false) ≡ false
none_spared false = refl
none_spared true = refl

-- memory was refused after a part was read
pub no_memory : {U V : Type 0} (R : List ℕ → U → Type 0) (S : List ℕ → V → Type 0) (borrow : ℕ) (old new : ReaderState) (u : U) → Gives R old new u
    → ReadRefused S borrow false old new OutOfMemory
no_memory R S borrow old new u g = record {
  kept = g.kept;
  left = λ t. let f = g.found t in record { front = f.encoding; joins = f.joins };
  place = g.place;
  device = g.sound;
  due = none_spared new.never_fails;
}

module _ {V : Type 0} (s : Scheme) (g : ReadGrammar V) where
  abbrev ListThen : List ℕ → List V → Type 0
  ListThen = Then (IsLength s g.prealloc) (λ n. AreItems n g.reads)

  pub list_gives : (old mid new : ReaderState) (n : ℕ) (vs : List V) → Gives (IsLength s g.prealloc) old mid n → Gives (AreItems n g.reads) mid new vs
      → Gives (reads_list s g) old new vs
  list_gives old mid new n vs r t = gives_map ListThen (reads_list s g) old new vs vs (λ b p. then_list s g b vs p)
      (then_gives (IsLength s g.prealloc) (λ n. AreItems n g.reads) old mid new n vs r t)

  pub list_first : (old new : ReaderState) (e : ReadError) → ReadRefused (IsLength s g.prealloc) 0 true old new e
      → ReadRefused (reads_list s g) g.borrow false old new e
  list_first old new e r = refuses_map ListThen (reads_list s g) g.borrow false old new e (λ b vs p. (vs, list_then s g b vs p))
      (then_first (IsLength s g.prealloc) (λ n. AreItems n g.reads) 0 g.borrow true false old new e (omega arith) (λ x. refl) r)

  pub list_second : SchemeLaws s → (old mid new : ReaderState) (n : ℕ) (e : ReadError) → Gives (IsLength s g.prealloc) old mid n
      → ReadRefused (AreItems n g.reads) g.borrow false mid new e → ReadRefused (reads_list s g) g.borrow false old new e
  list_second laws old mid new n e r t = refuses_map ListThen (reads_list s g) g.borrow false old new e (λ b vs p. (vs, list_then s g b vs p))
      (then_second (IsLength s g.prealloc) (λ n. AreItems n g.reads) (length_one s laws g.prealloc) g.borrow g.borrow false false old mid new n e (omega arith)
      (λ x. x) r t)

-- ---- writing

each_encoding : {V : Type 0} (g : WriteGrammar V) → ((v : V) → g.can v → (b : List ℕ) × g.writes b v) → (vs : List V) → Each g.can vs → (b : List ℕ)
    × Joined g.writes vs b
each_encoding g encoding [] c = ([], refl)
each_encoding g encoding (v ∷ vs) c = let h = encoding v c.0 in let r = each_encoding g encoding vs c.1 in (h.0 ++ r.0, (h.0, r.0, h.1, r.1, refl))

each_can : {V : Type 0} (g : WriteGrammar V) → ((v : V) (b : List ℕ) → g.writes b v → g.can v) → (vs : List V) (b : List ℕ) → Joined g.writes vs b
    → Each g.can vs
each_can g can [] b w = tt
each_can g can (v ∷ vs) b w = (can v w.0 w.2, each_can g can vs w.1 w.3)

each_size : {V : Type 0} (g : WriteGrammar V) → ((v : V) (b : List ℕ) → g.writes b v → length b ≡ g.size v) → (vs : List V) (b : List ℕ) → Joined g.writes vs b
    → length b ≡ total g.size vs
each_size g size [] b w = ap length w
each_size g size (v ∷ vs) b w = ap length w.4 ∙ length-append w.0 w.1 ∙ ap (λ n. n + length w.1) (size v w.0 w.2)
    ∙ ap (λ n. g.size v + n) (each_size g size vs w.1 w.3)

pub items_write_laws : {X V : Type 0} (is_valid : X → Type 0) (model : X → V) (g : WriteGrammar V) → WriteLaws is_valid model g
    → WriteLaws {X = List X} (Each is_valid) (map model) (items_write g)
items_write_laws is_valid model g laws = record {
  has_encoding = λ vs c. each_encoding g laws.has_encoding vs c;
  encoding_can = λ vs b w. each_can g laws.encoding_can vs b w;
  encoding_size = λ vs b w. each_size g laws.encoding_size vs b w;
  can_fit = λ vs f. each_map g.fits g.can laws.can_fit vs f;
  statics = tt;
}

-- A list is an X, which holds its items and which contracts see by `model` of each.
pub list_write_laws_of : {X Y V : Type 0} (s : Scheme) (count : ℕ) (size : ItemSize) (items : X → List Y) (is_valid : Y → Type 0) (model : Y → V)
    (g : WriteGrammar V) → WriteLaws is_valid model g → WriteLaws (λ x. Each is_valid (items x)) (λ x. map model (items x)) (list_write_of s count size g)
list_write_laws_of s count size items is_valid model g laws = record {
  has_encoding = λ vs c. let r = each_encoding g laws.has_encoding vs c.1 in (c.0.0 ++ r.0, (c.0.0, r.0, c.0.1, r.1, refl));
  encoding_can = λ vs b w. ((w.0, w.2), each_can g laws.encoding_can vs w.1 w.3);
  encoding_size = λ vs b w. ap length w.4 ∙ length-append w.0 w.1 ∙ ap (λ n. n + length w.1) (encoding_of_len s (length vs) w.0 w.2)
      ∙ ap (λ n. encoding_len (s.encoding (length vs)) + n) (each_size g laws.encoding_size vs w.1 w.3);
  can_fit = λ vs f. (f.0, each_map g.fits g.can laws.can_fit vs f.2);
  statics = tt;
}

pub list_write_laws : {X Y V : Type 0} (s : Scheme) (count : ℕ) (items : X → List Y) (is_valid : Y → Type 0) (model : Y → V) (g : WriteGrammar V)
    → WriteLaws is_valid model g → WriteLaws (λ x. Each is_valid (items x)) (λ x. map model (items x)) (list_write s count g)
list_write_laws s count items is_valid model g laws = list_write_laws_of s count (item_size g.meta) items is_valid model g laws

-- the same, without a window
pub parts_write_laws : {X Y V : Type 0} (s : Scheme) (count : ℕ) (items : X → List Y) (is_valid : Y → Type 0) (model : Y → V) (g : WriteGrammar V)
    → WriteLaws is_valid model g → WriteLaws (λ x. Each is_valid (items x)) (λ x. map model (items x)) (parts_write s count g)
parts_write_laws s count items is_valid model g laws = let l = list_write_laws_of s count Unknown items is_valid model g laws in
    record { has_encoding = l.has_encoding; encoding_can = l.encoding_can; encoding_size = l.encoding_size; can_fit = l.can_fit; statics = tt }

-- ---- reading back what was written

pub each_back : {X V W : Type 0} (is_valid : X → Type 0) (ws : X → W) (w : WriteGrammar W) (rs : X → V) (r : ReadGrammar V) → ReadsBack is_valid ws w rs r
    → (xs : List X) (b : List ℕ) → Each is_valid xs → Joined w.writes (map ws xs) b → Each w.fits (map ws xs) → Joined r.reads (map rs xs) b
each_back is_valid ws w rs r law [] b p j f = j
each_back is_valid ws w rs r law (x ∷ xs) b p j f = (j.0, j.1, law.back x j.0 p.0 j.2 f.0, each_back is_valid ws w rs r law xs j.1 p.1 j.3 f.1, j.4)

pub each_within : {X V W : Type 0} (is_valid : X → Type 0) (ws : X → W) (w : WriteGrammar W) (rs : X → V) (r : ReadGrammar V) → ReadsBack is_valid ws w rs r
    → (xs : List X) (b : List ℕ) → Joined r.reads (map rs xs) b → Each w.fits (map ws xs)
each_within is_valid ws w rs r law [] b j = tt
each_within is_valid ws w rs r law (x ∷ xs) b j = (law.within j.0 x j.2, each_within is_valid ws w rs r law xs j.1 j.3)

pub list_reads_back : {X Y V W : Type 0} (s : Scheme) → SchemeLaws s
    → (count : ℕ) (items : X → List Y) (is_valid : Y → Type 0) (ws : Y → W) (w : WriteGrammar W) (rs : Y → V) (r : ReadGrammar V) → ReadsBack is_valid ws w rs r
    → ReadsBack (λ x. Each is_valid (items x)) (λ x. map ws (items x)) (list_write s count w) (λ x. map rs (items x)) (list_read s count r)
list_reads_back s scheme count items is_valid ws w rs r law = record {
  back = λ x b p t f.
      let same : length (map ws (items x)) ≡ length (map rs (items x)) = length-map (items x) ws ∙ sym (length-map (items x) rs) in (
        subst (λ n. s.admits n r.prealloc) same (subst (λ q. s.admits (length (map ws (items x))) q) law.same_prealloc f.1),
        (t.0, t.1, ap s.encoding (sym same) ∙ t.2, each_back is_valid ws w rs r law (items x) t.1 p t.3 f.2, t.4),
      );
  within = λ b x t.
      let same : length (map rs (items x)) ≡ length (map ws (items x)) = length-map (items x) rs ∙ sym (length-map (items x) ws) in
      let admitted : s.admits (length (map ws (items x))) w.prealloc =
      subst (λ n. s.admits n w.prealloc) same (subst (λ q. s.admits (length (map rs (items x))) q) (sym law.same_prealloc) t.0) in
      (scheme.admitted (length (map ws (items x))) w.prealloc admitted, admitted, each_within is_valid ws w rs r law (items x) t.1.1 t.1.3);
  same_prealloc = refl;
  same_meta = refl;
}
