-- The laws of a tag and then what it names.
use Rattle.std.proofs.Common.{◌≡◌, ◌∙◌, sym, ap, ℕ, ◌+◌, ◌*◌, ◌<◌, ◌≤◌, ◌^◌, inl, inr, suc, zero, pow-suc, Bool, true, false, List, [], ◌++◌, length}
use Rattle.std.proofs.Common.{max, nat_eq, nat_lt, cond, refl, arith, length-append, Option, Some, None, Result, Ok, Err}
use Rattle.std.proofs.lemmas.Bool.{eqb-true}
use Rattle.std.specs.Option.{option_map}
use Rattle.std.specs.Result.{result_map_both}
use Rattle.wincode_io.specs.Readers.{ReaderState}
use Rattle.wincode_io.specs.Numbers.{le}
use Rattle.wincode_io.specs.NumberLaws.{length-le}
use Rattle.wincode_base.specs.Grammar.{ReadGrammar, WriteGrammar, ReadRefusal, ReadLaws, WriteLaws, ReadsBack, IsReadStatic, IsWriteStatic}
use Rattle.wincode_base.specs.Leaves.{number_read}
use Rattle.wincode_base.specs.LeafLaws.{number_one}
use Rattle.wincode_base.specs.Pairs.{pair_meta}
use Rattle.wincode_base.specs.Sequences.{Then, then_gives, then_first, then_second, then_unambiguous, strip, gives_map, refuses_map}
use Rattle.wincode_base.specs.Outcomes.{Gives, ReadRefused, unsaid}
use Rattle.wincode_base.specs.Tags.{IsTagSize, tagged_read, tagged_write, counted_read, counted_write, option_tag, IsOptionPart, option_part_read}
use Rattle.wincode_base.specs.Tags.{option_read, OptionReadRefused, IfPart, option_size, option_part_write, option_write, sides_tag}
use Rattle.wincode_base.specs.Tags.{result_tag, sides_meta, IsSidePart, sides_read, result_read, IfSide, sides_size, sides_write}
use Rattle.wincode_base.specs.Tags.{result_write}
use Rattle.wincode_base.specs.declared.meta.TypeMeta.{TypeMeta}
use Rattle.wincode_base.specs.declared.meta.TypeMeta.TheVariants.{Static, Dynamic}
use Rattle.wincode_base.specs.declared.error.ReadError.{ReadError}
use Rattle.wincode_base.specs.declared.error.ReadError.TheVariants as reading
use Rattle.wincode_io.specs.Joins.{IsUnambiguous}

-- ---- the size of a tag

pub one_byte : IsTagSize 1
one_byte = inl refl

pub two_bytes : IsTagSize 2
two_bytes = inr (inl refl)

pub four_bytes : IsTagSize 4
four_bytes = inr (inr (inl refl))

pub eight_bytes : IsTagSize 8
eight_bytes = inr (inr (inr refl))

pub some_bytes : {k : ℕ} → IsTagSize k → 1 ≤ k
some_bytes (inl e) = omega (arith, e)
some_bytes (inr (inl e)) = omega (arith, e)
some_bytes (inr (inr (inl e))) = omega (arith, e)
some_bytes (inr (inr (inr e))) = omega (arith, e)

-- a number of one byte is a tag of any size
pub small_tag : (k : ℕ) → 1 ≤ k → (t : ℕ) → t < 256 → t < 256 ^ k
small_tag zero some t h = absurd (omega (arith, some))
small_tag (suc zero) some t h = omega (arith, h)
small_tag (suc (suc k)) some t h =
    let r = small_tag (suc k) (omega arith) t h in
    let e : 256 ^ suc (suc k) ≡ 256 * 256 ^ suc k = rw pow-suc (omega arith) in
    omega (arith, r, e)

-- ---- a tag, and then what it names

-- what stands behind the tag t
abbrev pub IsCase : {V : Type 0} → (V → ℕ) → (List ℕ → V → Type 0) → ℕ → List ℕ → V → Type 0
IsCase tag reads t b v = (tag v ≡ t) × reads b v

-- The laws of what stands behind a tag of k bytes, of which encodings behind one tag alone are told apart.
pub record CaseLaws {V : Type 0} (k : ℕ) (tag : V → ℕ) (is_valid : V → Type 0) (part : ReadGrammar V) : Type 0 where
  pub small : (v : V) → tag v < 256 ^ k
  pub one : (t : ℕ) → IsUnambiguous (IsCase tag part.reads t)
  pub reads_valid : (b : List ℕ) (v : V) → part.reads b v → is_valid v
  pub statics : IsReadStatic part.reads part.meta
  pub prealloc : 1 ≤ part.prealloc

pub spares : (b : Bool) → true ≡ false → b ≡ false
spares b e = cc

module _ {V : Type 0} (k : ℕ) (tag : V → ℕ) (small : (v : V) → tag v < 256 ^ k) (part : ReadGrammar V) where
  abbrev Tag : List ℕ → ℕ → Type 0
  Tag = (number_read k true).reads

  abbrev Case : ℕ → List ℕ → V → Type 0
  Case = IsCase tag part.reads

  tagged_then : (b : List ℕ) (v : V) → (tagged_read k tag unsaid part).reads b v → Then Tag Case b v
  tagged_then b v r = record { before = tag v; x = le k (tag v); y = r.0; one = (small v, refl); two = (refl, r.1); joins = r.2 }

  then_tagged : (b : List ℕ) (v : V) → Then Tag Case b v → (tagged_read k tag unsaid part).reads b v
  then_tagged b v t = (t.y, t.two.1, t.joins ∙ ap (λ x. x ++ t.y) (t.one.1 ∙ ap (le k) (sym t.two.0)))

  tagged_static : (m : TypeMeta) → IsReadStatic part.reads m → IsReadStatic (tagged_read k tag unsaid part).reads (pair_meta (Static k true) m)
  tagged_static Dynamic h = tt
  tagged_static (Static s z) h =
      elim (nat_lt (k + s) (2 ^ 64)) as (λ t. IsReadStatic {V = V} (tagged_read k tag unsaid part).reads (cond t (Static (k + s) false) Dynamic)) [
        | true ↦ (
          λ b v r. ap length r.2 ∙ length-append (le k (tag v)) r.0 ∙ ap (λ n. n + length r.0) (length-le k (tag v)) ∙ ap (λ n. k + n) (h.0 r.0 v r.1),
          λ z. absurd (cc z),
        )
        | false ↦ tt
      ]

  -- of what stands behind one tag, neither encoding begins the other
  pub tagged_read_laws : (refusal : ReadRefusal) → (is_valid : V → Type 0) → ((t : ℕ) → IsUnambiguous (Case t))
      → ((b : List ℕ) (v : V) → part.reads b v → is_valid v) → IsReadStatic part.reads part.meta → 1 ≤ part.prealloc
      → ReadLaws is_valid (tagged_read k tag refusal part)
  tagged_read_laws refusal is_valid one reads_valid statics prealloc = record {
    one_front = λ a b x y v w p q e. then_unambiguous Tag Case (number_one k true) one a b x y v w (tagged_then a v p) (tagged_then b w q) e;
    reads_valid = λ b v r. reads_valid r.0 v r.1;
    statics = tagged_static part.meta statics;
    prealloc = prealloc;
  }

  -- the tag was read, and then what it names
  pub tagged_gives : (old mid new : ReaderState) (t : ℕ) (v : V) → tag v ≡ t → Gives Tag old mid t → Gives part.reads mid new v
      → Gives (tagged_read k tag unsaid part).reads old new v
  tagged_gives old mid new t v e r s =
      gives_map (Then Tag Case) (tagged_read k tag unsaid part).reads old new v v (λ b w. then_tagged b v w)
      (then_gives Tag Case old mid new t v r (gives_map part.reads (Case t) mid new v v (λ b w. (e, w)) s))

  -- the tag was refused
  pub tag_refused : (old new : ReaderState) (e : ReadError) → ReadRefused Tag 0 true old new e
      → ReadRefused (tagged_read k tag unsaid part).reads part.borrow part.takes_no_memory old new e
  tag_refused old new e r =
      refuses_map (Then Tag Case) (tagged_read k tag unsaid part).reads part.borrow part.takes_no_memory old new e (λ b v t. (v, tagged_then b v t))
      (then_first Tag Case 0 part.borrow true part.takes_no_memory old new e (omega arith) (spares part.takes_no_memory) r)

  -- what stands behind the tag was refused
  pub case_refused : (borrow : ℕ) (takes_no_memory : Bool) (old mid new : ReaderState) (t : ℕ) (e : ReadError) → borrow ≤ part.borrow
      → (takes_no_memory ≡ false → part.takes_no_memory ≡ false) → Gives Tag old mid t → ReadRefused (Case t) borrow takes_no_memory mid new e
      → ReadRefused (tagged_read k tag unsaid part).reads part.borrow part.takes_no_memory old new e
  case_refused borrow takes_no_memory old mid new t e a s r u =
      refuses_map (Then Tag Case) (tagged_read k tag unsaid part).reads part.borrow part.takes_no_memory old new e (λ b v t. (v, tagged_then b v t))
      (then_second Tag Case (number_one k true) borrow part.borrow takes_no_memory part.takes_no_memory old mid new t e a s r u)

  -- the tag was read, and names nothing
  pub bad_tag : (old new : ReaderState) (t n : ℕ) → ((v : V) → tag v ≡ t → ⊥) → Gives Tag old new t
      → ReadRefused (tagged_read k tag unsaid part).reads part.borrow part.takes_no_memory old new (reading.InvalidTagEncoding n)
  bad_tag old new t n none r =
      refuses_map (Then Tag Case) (tagged_read k tag unsaid part).reads part.borrow part.takes_no_memory old new (reading.InvalidTagEncoding n)
      (λ b v t. (v, tagged_then b v t))
      (record {
        kept = r.kept;
        left = λ told. let f = r.found told in record { front = f.encoding; joins = f.joins };
        place = r.place;
        device = r.sound;
        due = λ a. let m = strip Tag Case (number_one k true) old new t r a in none m.front.value m.front.found.is_read.0;
      })

-- so, by the laws of what stands behind the tag
pub cases_read_laws : {V : Type 0} {refusal : ReadRefusal} {k : ℕ} {tag : V → ℕ} {is_valid : V → Type 0} {part : ReadGrammar V} → CaseLaws k tag is_valid part
    → ReadLaws is_valid (tagged_read k tag refusal part)
cases_read_laws {refusal = refusal} {k = k} {tag = tag} {is_valid = is_valid} {part = part} l =
    tagged_read_laws k tag l.small part refusal is_valid l.one l.reads_valid l.statics l.prealloc

-- what has one tag alone
pub one_case : {V : Type 0} {k : ℕ} {p : V → Type 0} {g : ReadGrammar V} (t : ℕ) → t < 256 ^ k → ReadLaws p g → CaseLaws k (λ v. t) p g
one_case t small l = record {
  small = λ v. small;
  one = λ u a b x y v w i j e. l.one_front a b x y v w i.1 j.1 e;
  reads_valid = l.reads_valid;
  statics =
      l.statics;
  prealloc = l.prealloc;
}

-- ---- writing a tag and then what it names

module _ {X V : Type 0} (p : X → Type 0) (model : X → V) (k : ℕ) (tag : V → ℕ) (part : WriteGrammar V) where
  tagged_write_static : (m : TypeMeta) → IsWriteStatic p model part.can part.size m
      → IsWriteStatic p model (tagged_write k tag part).can (tagged_write k tag part).size (pair_meta (Static k true) m)
  tagged_write_static Dynamic h = tt
  tagged_write_static (Static s z) h =
      elim (nat_lt (k + s) (2 ^ 64)) as (λ t. IsWriteStatic p model (tagged_write k tag part).can (tagged_write k tag part).size
      (cond t (Static (k + s) false) Dynamic))
      [ true ↦ (λ x c. h.0 x c, λ v c. ap (λ n. k + n) (h.1 v c)) | false ↦ tt ]

  pub tagged_write_laws : WriteLaws p model part → WriteLaws p model (tagged_write k tag part)
  tagged_write_laws l = record {
    has_encoding = λ v c. let a = l.has_encoding v c in (le k (tag v) ++ a.0, (a.0, a.1, refl));
    encoding_can = λ v b r. l.encoding_can v r.0 r.1;
    encoding_size = λ v b r. ap length r.2 ∙ length-append (le k (tag v)) r.0 ∙ ap (λ n. n + length r.0) (length-le k (tag v))
        ∙ ap (λ n. k + n) (l.encoding_size v r.0 r.1);
    can_fit = l.can_fit;
    statics = tagged_write_static part.meta l.statics;
  }

-- writing and reading see the same tag of a value
pub tagged_reads_back : {X V W : Type 0} {refusal : ReadRefusal} (p : X → Type 0) (ws : X → W) (w : WriteGrammar W) (rs : X → V) (r : ReadGrammar V) (k : ℕ)
    (wtag : W → ℕ) (rtag : V → ℕ) → ((x : X) → wtag (ws x) ≡ rtag (rs x))
    → ReadsBack p ws w rs r → ReadsBack p ws (tagged_write k wtag w) rs (tagged_read k rtag refusal r)
tagged_reads_back p ws w rs r k wtag rtag same l = record {
  back = λ x b c t f. (t.0, l.back x t.0 c t.1 f, t.2 ∙ ap (λ n. le k n ++ t.0) (same x));
  within = λ b x t. l.within t.0 x t.1;
  same_prealloc = l.same_prealloc;
  same_meta = ap (λ m. pair_meta (Static k true) m) l.same_meta;
}

-- ---- options

pub option_small : {V : Type 0} (k : ℕ) → 1 ≤ k → (o : Option V) → option_tag o < 256 ^ k
option_small k some None = small_tag k some 0 (omega arith)
option_small k some (Some v) = small_tag k some 1 (omega arith)

option_one : {V : Type 0} (g : ReadGrammar V) → IsUnambiguous g.reads → (t : ℕ) → IsUnambiguous (IsCase option_tag (IsOptionPart g.reads) t)
option_one g one t a b x y None None p q e = (p.1 ∙ sym q.1, refl)
option_one g one t a b x y None (Some w) p q e = absurd (omega (arith, p.0, q.0))
option_one g one t a b x y (Some v) None p q e = absurd (omega (arith, p.0, q.0))
option_one g one t a b x y (Some v) (Some w) p q e = let r = one a b x y v w p.1 q.1 e in (r.0, ap (λ u. Some u) r.1)

option_valid : {V : Type 0} (p : V → Type 0) (g : ReadGrammar V) → ReadLaws p g → (b : List ℕ) (o : Option V) → IsOptionPart g.reads b o → IfPart p o
option_valid p g l b None r = tt
option_valid p g l b (Some v) r = l.reads_valid b v r

pub option_read_laws : {V : Type 0} (k : ℕ) → 1 ≤ k → (p : V → Type 0) (g : ReadGrammar V) → ReadLaws p g → ReadLaws (IfPart p) (option_read k g)
option_read_laws k some p g l =
    tagged_read_laws k option_tag (option_small k some) (option_part_read g) (OptionReadRefused k g) (IfPart p) (option_one g l.one_front) (option_valid p g l)
    tt l.prealloc

module _ {X V : Type 0} (p : X → Type 0) (model : X → V) (g : WriteGrammar V) (l : WriteLaws p model g) where
  option_encoding : (o : Option V) → IfPart g.can o → (b : List ℕ) × IsOptionPart g.writes b o
  option_encoding None c = ([], refl)
  option_encoding (Some v) c = l.has_encoding v c

  option_encoding_can : (o : Option V) (b : List ℕ) → IsOptionPart g.writes b o → IfPart g.can o
  option_encoding_can None b t = tt
  option_encoding_can (Some v) b t = l.encoding_can v b t

  option_encoding_size : (o : Option V) (b : List ℕ) → IsOptionPart g.writes b o → length b ≡ option_size g.size o
  option_encoding_size None b t = ap length t
  option_encoding_size (Some v) b t = l.encoding_size v b t

  option_fit : (o : Option V) → IfPart g.fits o → IfPart g.can o
  option_fit None f = tt
  option_fit (Some v) f = l.can_fit v f

  -- an option without its tag
  pub option_part_laws : WriteLaws (IfPart p) (option_map model) (option_part_write g)
  option_part_laws = record {
    has_encoding = option_encoding;
    encoding_can = option_encoding_can;
    encoding_size = option_encoding_size;
    can_fit = option_fit;
    statics = tt;
  }

pub option_write_laws : {X V : Type 0} (k : ℕ) (p : X → Type 0) (model : X → V) (g : WriteGrammar V) → WriteLaws p model g
    → WriteLaws (IfPart p) (option_map model) (option_write k g)
option_write_laws k p model g l = tagged_write_laws (IfPart p) (option_map model) k option_tag (option_part_write g) (option_part_laws p model g l)

module _ {X V W : Type 0} (p : X → Type 0) (ws : X → W) (w : WriteGrammar W) (rs : X → V) (r : ReadGrammar V) (l : ReadsBack p ws w rs r) where
  option_back : (o : Option X) (b : List ℕ) → IfPart p o → IsOptionPart w.writes b (option_map ws o) → IfPart w.fits (option_map ws o)
      → IsOptionPart r.reads b (option_map rs o)
  option_back None b c t f = t
  option_back (Some x) b c t f = l.back x b c t f

  option_within : (b : List ℕ) (o : Option X) → IsOptionPart r.reads b (option_map rs o) → IfPart w.fits (option_map ws o)
  option_within b None t = tt
  option_within b (Some x) t = l.within b x t

  option_same_tag : (o : Option X) → option_tag (option_map ws o) ≡ option_tag (option_map rs o)
  option_same_tag None = refl
  option_same_tag (Some x) = refl

  option_part_back : ReadsBack (IfPart p) (option_map ws) (option_part_write w) (option_map rs) (option_part_read r)
  option_part_back = record { back = option_back; within = option_within; same_prealloc = l.same_prealloc; same_meta = refl }

pub option_reads_back : {X V W : Type 0} (k : ℕ) (p : X → Type 0) (ws : X → W) (w : WriteGrammar W) (rs : X → V) (r : ReadGrammar V) → ReadsBack p ws w rs r
    → ReadsBack (IfPart p) (option_map ws) (option_write k w) (option_map rs) (option_read k r)
option_reads_back k p ws w rs r l =
    tagged_reads_back (IfPart p) (option_map ws) (option_part_write w) (option_map rs) (option_part_read r) k option_tag option_tag
    (option_same_tag p ws w rs r l) (option_part_back p ws w rs r l)

-- ---- results

pub result_small : {V W : Type 0} (k : ℕ) → 1 ≤ k → (r : Result V W) → result_tag r < 256 ^ k
result_small k some (Ok v) = small_tag k some 0 (omega arith)
result_small k some (Err w) = small_tag k some 1 (omega arith)

-- the encodings of both sides have one size
side_sizes : {V W : Type 0} (g : ReadGrammar V) (h : ReadGrammar W) (a b : ℕ) → a ≡ b → ((t : List ℕ) (v : V) → g.reads t v → length t ≡ a)
    → ((t : List ℕ) (w : W) → h.reads t w → length t ≡ b)
    → (t : List ℕ) (r : Result V W) → IsSidePart g.reads h.reads t r → length t ≡ a
side_sizes g h a b e i j t (Ok v) r = i t v r
side_sizes g h a b e i j t (Err w) r = j t w r ∙ sym e

pub sides_static : {V W : Type 0} (g : ReadGrammar V) (h : ReadGrammar W) (m n : TypeMeta) → IsReadStatic g.reads m → IsReadStatic h.reads n
    → IsReadStatic (IsSidePart g.reads h.reads) (sides_meta m n)
sides_static g h Dynamic n i j = tt
sides_static g h (Static a x) Dynamic i j = tt
sides_static {V} {W} g h (Static a x) (Static b y) i j =
    elim (nat_eq a b) as (λ t. (t ≡ true → a ≡ b) → IsReadStatic {V = Result V W} (IsSidePart g.reads h.reads) (cond t (Static a false) Dynamic))
    [ true ↦ (λ e. (side_sizes g h a b (e refl) i.0 j.0, λ z. absurd (cc z))) | false ↦ (λ e. tt) ] (eqb-true a b)

module _ {V W : Type 0} {k : ℕ} {tag : V → ℕ} {other : W → ℕ} {p : V → Type 0} {q : W → Type 0} {g : ReadGrammar V} {h : ReadGrammar W}
    (l : CaseLaws k tag p g) (m : CaseLaws k other q h) where
  sides_small : (r : Result V W) → sides_tag tag other r < 256 ^ k
  sides_small (Ok v) = l.small v
  sides_small (Err w) = m.small w

  sides_one : ((v : V) (w : W) → tag v ≡ other w → ⊥) → (t : ℕ) → IsUnambiguous (IsCase (sides_tag tag other) (IsSidePart g.reads h.reads) t)
  sides_one apart t a b x y (Ok v) (Ok w) i j e = let r = l.one t a b x y v w i j e in (r.0, ap (λ u. Ok u) r.1)
  sides_one apart t a b x y (Ok v) (Err w) i j e = absurd (apart v w (i.0 ∙ sym j.0))
  sides_one apart t a b x y (Err v) (Ok w) i j e = absurd (apart w v (j.0 ∙ sym i.0))
  sides_one apart t a b x y (Err v) (Err w) i j e = let r = m.one t a b x y v w i j e in (r.0, ap (λ u. Err u) r.1)

  sides_valid : (b : List ℕ) (r : Result V W) → IsSidePart g.reads h.reads b r → IfSide p q r
  sides_valid b (Ok v) r = l.reads_valid b v r
  sides_valid b (Err w) r = m.reads_valid b w r

  -- two sides, of which no two values have one tag
  pub sides_cases : ((v : V) (w : W) → tag v ≡ other w → ⊥) → CaseLaws k (sides_tag tag other) (IfSide p q) (sides_read g h)
  sides_cases apart = record {
    small = sides_small;
    one = sides_one apart;
    reads_valid = sides_valid;
    statics = sides_static g h g.meta h.meta l.statics m.statics;
    prealloc = let a = l.prealloc in omega arith;
  }

pub result_read_laws : {V W : Type 0} (k : ℕ) → 1 ≤ k → (p : V → Type 0) (q : W → Type 0) (g : ReadGrammar V) (h : ReadGrammar W) → ReadLaws p g → ReadLaws q h
    → ReadLaws (IfSide p q) (result_read k g h)
result_read_laws k some p q g h l m =
    cases_read_laws (sides_cases (one_case 0 (small_tag k some 0 (omega arith)) l) (one_case 1 (small_tag k some 1 (omega arith)) m) (λ v w e. omega arith))

-- both sides of every value can be written
sides_can : {X Y V W : Type 0} (p : X → Type 0) (q : Y → Type 0) (model : X → V) (model' : Y → W) (g : WriteGrammar V) (h : WriteGrammar W)
    → ((x : X) → p x → g.can (model x)) → ((y : Y) → q y → h.can (model' y)) → (r : Result X Y) → IfSide p q r
    → IfSide g.can h.can (result_map_both model model' r)
sides_can p q model model' g h i j (Ok x) c = i x c
sides_can p q model model' g h i j (Err y) c = j y c

-- what can be written has one size
sides_write_size : {V W : Type 0} (g : WriteGrammar V) (h : WriteGrammar W) (a b : ℕ) → a ≡ b → ((v : V) → g.can v → g.size v ≡ a)
    → ((w : W) → h.can w → h.size w ≡ b)
    → (r : Result V W) → IfSide g.can h.can r → sides_size g.size h.size r ≡ a
sides_write_size g h a b e i j (Ok v) c = i v c
sides_write_size g h a b e i j (Err w) c = j w c ∙ sym e

sides_write_static : {X Y V W : Type 0} (p : X → Type 0) (q : Y → Type 0) (model : X → V) (model' : Y → W) (g : WriteGrammar V) (h : WriteGrammar W)
    (m n : TypeMeta) → IsWriteStatic p model g.can g.size m → IsWriteStatic q model' h.can h.size n
    → IsWriteStatic (IfSide p q) (result_map_both model model') (IfSide g.can h.can) (sides_size g.size h.size) (sides_meta m n)
sides_write_static p q model model' g h Dynamic n i j = tt
sides_write_static p q model model' g h (Static a x) Dynamic i j = tt
sides_write_static p q model model' g h (Static a x) (Static b y) i j =
    elim (nat_eq a b) as (λ t. (t ≡ true → a ≡ b) → IsWriteStatic (IfSide p q) (result_map_both model model') (IfSide g.can h.can) (sides_size g.size h.size)
    (cond t (Static a false) Dynamic))
    [ true ↦ (λ e. (sides_can p q model model' g h i.0 j.0, sides_write_size g h a b (e refl) i.1 j.1)) | false ↦ (λ e. tt) ] (eqb-true a b)

module _ {X Y V W : Type 0} (p : X → Type 0) (q : Y → Type 0) (model : X → V) (model' : Y → W) (g : WriteGrammar V) (h : WriteGrammar W)
    (l : WriteLaws p model g) (m : WriteLaws q model' h) where
  sides_encoding : (r : Result V W) → IfSide g.can h.can r → (b : List ℕ) × IsSidePart g.writes h.writes b r
  sides_encoding (Ok v) c = l.has_encoding v c
  sides_encoding (Err w) c = m.has_encoding w c

  sides_encoding_can : (r : Result V W) (b : List ℕ) → IsSidePart g.writes h.writes b r → IfSide g.can h.can r
  sides_encoding_can (Ok v) b t = l.encoding_can v b t
  sides_encoding_can (Err w) b t = m.encoding_can w b t

  sides_encoding_size : (r : Result V W) (b : List ℕ) → IsSidePart g.writes h.writes b r → length b ≡ sides_size g.size h.size r
  sides_encoding_size (Ok v) b t = l.encoding_size v b t
  sides_encoding_size (Err w) b t = m.encoding_size w b t

  sides_fit : (r : Result V W) → IfSide g.fits h.fits r → IfSide g.can h.can r
  sides_fit (Ok v) f = l.can_fit v f
  sides_fit (Err w) f = m.can_fit w f

  -- a result without its tag
  pub sides_laws : WriteLaws (IfSide p q) (result_map_both model model') (sides_write g h)
  sides_laws = record {
    has_encoding = sides_encoding;
    encoding_can = sides_encoding_can;
    encoding_size = sides_encoding_size;
    can_fit = sides_fit;
    statics =
        sides_write_static p q model model' g h g.meta h.meta l.statics m.statics;
  }

pub result_write_laws : {X Y V W : Type 0} (k : ℕ) (p : X → Type 0) (q : Y → Type 0) (model : X → V) (model' : Y → W) (g : WriteGrammar V) (h : WriteGrammar W)
    → WriteLaws p model g → WriteLaws q model' h → WriteLaws (IfSide p q) (result_map_both model model') (result_write k g h)
result_write_laws k p q model model' g h l m =
    tagged_write_laws (IfSide p q) (result_map_both model model') k result_tag (sides_write g h) (sides_laws p q model model' g h l m)

module _ {X Y V V' W W' : Type 0} (p : X → Type 0) (q : Y → Type 0) (ws : X → V') (w : WriteGrammar V') (rs : X → V) (r : ReadGrammar V) (ws' : Y → W')
    (w' : WriteGrammar W') (rs' : Y → W) (r' : ReadGrammar W) (l : ReadsBack p ws w rs r) (m : ReadsBack q ws' w' rs' r') where
  sides_back : (o : Result X Y) (b : List ℕ) → IfSide p q o → IsSidePart w.writes w'.writes b (result_map_both ws ws' o)
      → IfSide w.fits w'.fits (result_map_both ws ws' o) → IsSidePart r.reads r'.reads b (result_map_both rs rs' o)
  sides_back (Ok x) b c t f = l.back x b c t f
  sides_back (Err y) b c t f = m.back y b c t f

  sides_within : (b : List ℕ) (o : Result X Y) → IsSidePart r.reads r'.reads b (result_map_both rs rs' o) → IfSide w.fits w'.fits (result_map_both ws ws' o)
  sides_within b (Ok x) t = l.within b x t
  sides_within b (Err y) t = m.within b y t

  result_same_tag : (o : Result X Y) → result_tag (result_map_both ws ws' o) ≡ result_tag (result_map_both rs rs' o)
  result_same_tag (Ok x) = refl
  result_same_tag (Err y) = refl

  -- sides without their tag
  pub sides_reads_back : ReadsBack (IfSide p q) (result_map_both ws ws') (sides_write w w') (result_map_both rs rs') (sides_read r r')
  sides_reads_back = record {
    back = sides_back;
    within = sides_within;
    same_prealloc = ap (λ n. max n w'.prealloc) l.same_prealloc ∙ ap (λ n. max r.prealloc n) m.same_prealloc;
    same_meta = ap (λ n. sides_meta n w'.meta) l.same_meta ∙ ap (λ n. sides_meta r.meta n) m.same_meta;
  }

pub result_reads_back : {X Y V V' W W' : Type 0} (k : ℕ) (p : X → Type 0) (q : Y → Type 0) (ws : X → V') (w : WriteGrammar V') (rs : X → V) (r : ReadGrammar V)
    (ws' : Y → W') (w' : WriteGrammar W') (rs' : Y → W) (r' : ReadGrammar W)
    → ReadsBack p ws w rs r → ReadsBack q ws' w' rs' r' → ReadsBack (IfSide p q) (result_map_both ws ws') (result_write k w w') (result_map_both rs rs')
    (result_read k r r')
result_reads_back k p q ws w rs r ws' w' rs' r' l m =
    tagged_reads_back (IfSide p q) (result_map_both ws ws') (sides_write w w') (result_map_both rs rs') (sides_read r r') k result_tag result_tag
    (result_same_tag p q ws w rs r ws' w' rs' r' l m) (sides_reads_back p q ws w rs r ws' w' rs' r' l m)

-- ---- counted otherwise against a limit

pub counted_laws : {X V : Type 0} {p : X → Type 0} {model : X → V} {g : WriteGrammar V} (n : ℕ) → WriteLaws p model g → WriteLaws p model (counted_write n g)
counted_laws n l = record {
  has_encoding = l.has_encoding;
  encoding_can = l.encoding_can;
  encoding_size = l.encoding_size;
  can_fit = l.can_fit;
  statics = l.statics;
}

pub counted_reads_back : {X V W : Type 0} {p : X → Type 0} {ws : X → W} {w : WriteGrammar W} {rs : X → V} {r : ReadGrammar V} (n : ℕ) → ReadsBack p ws w rs r
    → ReadsBack p ws (counted_write n w) rs (counted_read n r)
counted_reads_back n l = record { back = l.back; within = l.within; same_prealloc = refl; same_meta = l.same_meta }
