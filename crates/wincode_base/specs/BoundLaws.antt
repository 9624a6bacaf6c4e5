-- The laws of an end of a range, from those of its value.
use Rattle.std.specs.Range.Bound.{bound_map}
use Rattle.std.specs.declared.ops.Bound.{Bound}
use Rattle.std.specs.declared.ops.Bound.TheVariants.{Included, Excluded, Unbounded}
use Rattle.std.proofs.Common.{◌≡◌, ◌∙◌, sym, ap, ℕ, ◌<◌, ◌^◌, List, [], length, refl, arith}
use Rattle.wincode_io.specs.Joins.{IsUnambiguous}
use Rattle.wincode_base.specs.Grammar.{ReadGrammar, WriteGrammar, ReadLaws, WriteLaws, ReadsBack}
use Rattle.wincode_base.specs.Bounds.{bound_tag, IsBoundPart, bound_part_read, BoundReadRefused, bound_read, IfBound, bound_size}
use Rattle.wincode_base.specs.Bounds.{bound_part_write, bound_write}
use Rattle.wincode_base.specs.TagLaws.{IsCase, small_tag, tagged_read_laws, tagged_write_laws, tagged_reads_back}

pub bound_small : {V : Type 0} (o : Bound V) → bound_tag o < 256 ^ 4
bound_small Unbounded = small_tag 4 (omega arith) 0 (omega arith)
bound_small (Included v) = small_tag 4 (omega arith) 1 (omega arith)
bound_small (Excluded v) = small_tag 4 (omega arith) 2 (omega arith)

bound_one : {V : Type 0} (g : ReadGrammar V) → IsUnambiguous g.reads → (t : ℕ) → IsUnambiguous (IsCase bound_tag (IsBoundPart g.reads) t)
bound_one g one t a b x y Unbounded Unbounded p q e = (p.1 ∙ sym q.1, refl)
bound_one g one t a b x y Unbounded (Included w) p q e = absurd (omega (arith, p.0, q.0))
bound_one g one t a b x y Unbounded (Excluded w) p q e = absurd (omega (arith, p.0, q.0))
bound_one g one t a b x y (Included v) Unbounded p q e = absurd (omega (arith, p.0, q.0))
bound_one g one t a b x y (Included v) (Included w) p q e = let r = one a b x y v w p.1 q.1 e in (r.0, ap (λ u. Included u) r.1)
bound_one g one t a b x y (Included v) (Excluded w) p q e = absurd (omega (arith, p.0, q.0))
bound_one g one t a b x y (Excluded v) Unbounded p q e = absurd (omega (arith, p.0, q.0))
bound_one g one t a b x y (Excluded v) (Included w) p q e = absurd (omega (arith, p.0, q.0))
bound_one g one t a b x y (Excluded v) (Excluded w) p q e = let r = one a b x y v w p.1 q.1 e in (r.0, ap (λ u. Excluded u) r.1)

bound_valid : {V : Type 0} (p : V → Type 0) (g : ReadGrammar V) → ReadLaws p g → (b : List ℕ) (o : Bound V) → IsBoundPart g.reads b o → IfBound p o
bound_valid p g l b Unbounded r = tt
bound_valid p g l b (Included v) r = l.reads_valid b v r
bound_valid p g l b (Excluded v) r = l.reads_valid b v r

pub bound_read_laws : {V : Type 0} (p : V → Type 0) (g : ReadGrammar V) → ReadLaws p g → ReadLaws (IfBound p) (bound_read g)
bound_read_laws p g l =
    tagged_read_laws 4 bound_tag bound_small (bound_part_read g) (BoundReadRefused g) (IfBound p) (bound_one g l.one_front) (bound_valid p g l) tt l.prealloc

module _ {X V : Type 0} (p : X → Type 0) (model : X → V) (g : WriteGrammar V) (l : WriteLaws p model g) where
  bound_encoding : (o : Bound V) → IfBound g.can o → (b : List ℕ) × IsBoundPart g.writes b o
  bound_encoding Unbounded c = ([], refl)
  bound_encoding (Included v) c = l.has_encoding v c
  bound_encoding (Excluded v) c = l.has_encoding v c

  bound_encoding_can : (o : Bound V) (b : List ℕ) → IsBoundPart g.writes b o → IfBound g.can o
  bound_encoding_can Unbounded b t = tt
  bound_encoding_can (Included v) b t = l.encoding_can v b t
  bound_encoding_can (Excluded v) b t = l.encoding_can v b t

  bound_encoding_size : (o : Bound V) (b : List ℕ) → IsBoundPart g.writes b o → length b ≡ bound_size g.size o
  bound_encoding_size Unbounded b t = ap length t
  bound_encoding_size (Included v) b t = l.encoding_size v b t
  bound_encoding_size (Excluded v) b t = l.encoding_size v b t

  bound_fit : (o : Bound V) → IfBound g.fits o → IfBound g.can o
  bound_fit Unbounded f = tt
  bound_fit (Included v) f = l.can_fit v f
  bound_fit (Excluded v) f = l.can_fit v f

  -- an end without its tag
  pub bound_part_laws : WriteLaws (IfBound p) (bound_map model) (bound_part_write g)
  bound_part_laws = record {
    has_encoding = bound_encoding;
    encoding_can = bound_encoding_can;
    encoding_size = bound_encoding_size;
    can_fit = bound_fit;
    statics = tt;
  }

pub bound_write_laws : {X V : Type 0} (p : X → Type 0) (model : X → V) (g : WriteGrammar V) → WriteLaws p model g
    → WriteLaws (IfBound p) (bound_map model) (bound_write g)
bound_write_laws p model g l = tagged_write_laws (IfBound p) (bound_map model) 4 bound_tag (bound_part_write g) (bound_part_laws p model g l)

module _ {X V W : Type 0} (p : X → Type 0) (ws : X → W) (w : WriteGrammar W) (rs : X → V) (r : ReadGrammar V) (l : ReadsBack p ws w rs r) where
  bound_back : (o : Bound X) (b : List ℕ) → IfBound p o → IsBoundPart w.writes b (bound_map ws o) → IfBound w.fits (bound_map ws o)
      → IsBoundPart r.reads b (bound_map rs o)
  bound_back Unbounded b c t f = t
  bound_back (Included x) b c t f = l.back x b c t f
  bound_back (Excluded x) b c t f = l.back x b c t f

  bound_within : (b : List ℕ) (o : Bound X) → IsBoundPart r.reads b (bound_map rs o) → IfBound w.fits (bound_map ws o)
  bound_within b Unbounded t = tt
  bound_within b (Included x) t = l.within b x t
  bound_within b (Excluded x) t = l.within b x t

  same_tag : (o : Bound X) → bound_tag (bound_map ws o) ≡ bound_tag (bound_map rs o)
  same_tag Unbounded = refl
  same_tag (Included x) = refl
  same_tag (Excluded x) = refl

  pub bound_reads_back : ReadsBack (IfBound p) (bound_map ws) (bound_write w) (bound_map rs) (bound_read r)
  bound_reads_back = tagged_reads_back (IfBound p) (bound_map ws) (bound_part_write w) (bound_map rs) (bound_part_read r) 4 bound_tag bound_tag same_tag
      (record { back = bound_back; within = bound_within; same_prealloc = l.same_prealloc; same_meta = refl })
