-- The laws of the addresses of sockets, of which a part isn't written.
use Rattle.std.proofs.Common.{◌≡◌, ◌∙◌, sym, ap, subst, ℕ, ◌+◌, ◌*◌, ◌/◌, ◌%◌, ◌^◌, ◌<◌, true, List, [], ◌∷◌, refl, arith, Result, Ok, Err}
use Rattle.wincode_io.specs.Numbers.{le}
use Rattle.wincode_io.specs.Writers.{WriterState}
use Rattle.wincode_base.specs.Grammar.{ReadGrammar, WriteGrammar, WriteLaws, ReadsBack, IsWriteStatic}
use Rattle.wincode_base.specs.InWindow.{windowed_write, WindowWriteRefused}
use Rattle.wincode_base.specs.Leaves.{number_write}
use Rattle.wincode_base.specs.Made.{made_read, IsSame, unscoped_write}
use Rattle.wincode_base.specs.Outcomes.{IsEncoded, WriteOutcome}
use Rattle.wincode_base.specs.Pairs.{pair_write}
use Rattle.wincode_base.specs.Strings.{reference_meta, reference_write}
use Rattle.wincode_base.specs.WriteSequences.{wrote_map, unwritten_map, stopped_map}
use Rattle.wincode_base.specs.declared.error.WriteError.{WriteError}
use Rattle.wincode_base.specs.declared.meta.TypeMeta.{TypeMeta}
use Rattle.wincode_base.specs.declared.meta.TypeMeta.TheVariants.{Static, Dynamic}

-- two bytes hold a port, whatever stands above them
le_port : (p m : ℕ) → le 2 (p + 256 ^ 2 * m) ≡ le 2 p
unfolding le
le_port p m =
    let q = p + 256 ^ 2 * m in
    let low : q % 256 ≡ p % 256 = omega arith in
    let high : (q / 256) % 256 ≡ (p / 256) % 256 = omega arith in
    ap (λ a. a ∷ (q / 256) % 256 ∷ []) low ∙ ap (λ b. p % 256 ∷ b ∷ []) high

-- ---- what is written of an address

module _ (octets : WriteGrammar (List ℕ)) (x : List ℕ) (p m : ℕ) where
  abbrev parts_write : WriteGrammar (List ℕ × ℕ)
  parts_write = reference_write (windowed_write (pair_write octets (number_write 2 true)))

  port_writes : (b : List ℕ) → parts_write.writes b (x, p) → parts_write.writes b (x, p + 256 ^ 2 * m)
  port_writes b w = (w.0, w.1, w.2, w.3 ∙ sym (le_port p m), w.4)

  -- it is refused as without what isn't written
  port_refused : (s : TypeMeta) (room : ℕ) (added : List ℕ) (e : WriteError) → WindowWriteRefused s (pair_write octets (number_write 2 true)) (x, p) room added e
      → WindowWriteRefused s (pair_write octets (number_write 2 true)) (x, p + 256 ^ 2 * m) room added e
  port_refused Dynamic room added e r = r
  port_refused (Static k z) room added e r = r

  pub port_encoded : (b : List ℕ) → IsEncoded parts_write (x, p) b → IsEncoded (unscoped_write parts_write) (x, p + 256 ^ 2 * m) b
  port_encoded b e = (e.0, port_writes b e.1)

  pub port_outcome : {A S K : Type 0} {put : S → List ℕ → S} {room : S → ℕ} (old new : WriterState put room K) (is_valid : Type 0) (r : Result A WriteError)
      → WriteOutcome parts_write old new (x, p) is_valid r → WriteOutcome (unscoped_write parts_write) old new (x, p + 256 ^ 2 * m) is_valid r
  port_outcome old new is_valid (Ok a) o = record {
    ok = wrote_map parts_write (unscoped_write parts_write) (x, p) (x, p + 256 ^ 2 * m) (λ c. c) refl port_writes o.ok;
    value = o.value;
    refused = tt;
  }
  port_outcome old new is_valid (Err e) o = record {
    ok = tt;
    value = tt;
    refused = (
      unwritten_map parts_write (unscoped_write parts_write) (x, p) (x, p + 256 ^ 2 * m) (λ c. c) refl port_writes o.refused.0,
      stopped_map parts_write (unscoped_write parts_write) (x, p) (x, p + 256 ^ 2 * m) (λ a r. port_refused (pair_write octets (number_write 2 true)).meta _ a e r) o.refused.1,
    );
  }

-- ---- its laws

module _ {Y : Type 0} (see : List ℕ × ℕ → List ℕ × ℕ) (parts written : Y → List ℕ × ℕ) where
  unscoped_static : (is_valid : List ℕ × ℕ → Type 0) (can : List ℕ × ℕ → Type 0) (size : List ℕ × ℕ → ℕ) (m : TypeMeta)
      → ((y : Y) → can (see (written y)) → can (see (parts y))) → IsWriteStatic is_valid see can size m
      → IsWriteStatic {X = Y} (λ y. IsSame (written y) (written y) × is_valid (written y)) (λ y. see (parts y)) can size (reference_meta m)
  unscoped_static is_valid can size Dynamic same h = tt
  unscoped_static is_valid can size (Static s z) same h = (λ y p. same y (h.0 (written y) p.1), h.1)

  pub unscoped_write_laws : {is_valid : List ℕ × ℕ → Type 0} {g : WriteGrammar (List ℕ × ℕ)} → ((y : Y) → g.can (see (written y)) → g.can (see (parts y)))
      → WriteLaws is_valid see g
      → WriteLaws (λ y. IsSame (written y) (written y) × is_valid (written y)) (λ y. see (parts y)) (unscoped_write (reference_write g))
  unscoped_write_laws {is_valid} {g} same l = record {
    has_encoding = l.has_encoding;
    encoding_can = l.encoding_can;
    encoding_size = l.encoding_size;
    can_fit = λ v f. l.can_fit v f.0;
    statics = unscoped_static is_valid g.can g.size g.meta same l.statics;
  }

  -- an address reads back of which all is written
  pub unscoped_reads_back : (text : List ℕ) {is_valid : List ℕ × ℕ → Type 0} {w : WriteGrammar (List ℕ × ℕ)} {r : ReadGrammar (List ℕ × ℕ)}
      → ((y : Y) → is_valid (written y) → (see (parts y)).1 < 256 ^ 2 → is_valid (parts y))
      → ((b : List ℕ) (v : List ℕ × ℕ) → r.reads b v → v.1 < 256 ^ 2) → ReadsBack is_valid see w see r
      → ReadsBack (λ y. IsSame (written y) (written y) × is_valid (written y)) (λ y. see (parts y)) (unscoped_write (reference_write w)) (λ y. see (parts y))
      (made_read see IsSame text r)
  unscoped_reads_back text {is_valid} {w} {r} valid small l = record {
    back = λ y b c t f. (parts y, parts y, l.back (parts y) b (valid y c.1 f.1) t f.0, refl, refl);
    within = λ b y h. let k : r.reads b (see (parts y)) = subst (λ v. r.reads b v) (ap see (sym h.3) ∙ h.4) h.2 in (l.within b (parts y) k, small b (see (parts y)) k);
    same_prealloc = l.same_prealloc;
    same_meta = ap reference_meta l.same_meta;
  }
