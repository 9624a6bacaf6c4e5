-- The laws of arrays, from those of their items.
use Rattle.std.proofs.Common.{◌≡◌, ◌∙◌, sym, ap, ℕ, zero, suc, ◌<◌, ◌^◌, ◌*◌, Bool, true, false, cond, nat_lt, List, [], ◌∷◌, length, map, refl}
use Rattle.std.proofs.Common.{arith, length-append, take, drop}
use Rattle.std.proofs.lemmas.List.{take-append-drop, length-take, length-drop, length-map}
use Rattle.std.proofs.lemmas.List.Elements.{All-take, All-drop}
use Rattle.wincode_io.specs.Bytes.{IsBytes}
use Rattle.wincode_base.specs.Grammar.{ReadGrammar, WriteGrammar, ReadLaws, WriteLaws, ReadsBack, IsReadStatic, IsWriteStatic}
use Rattle.wincode_base.specs.ListLaws.{each_valid, each_back, each_within, items_write_laws}
use Rattle.wincode_base.specs.Arrays.{times_meta, times_prealloc, IsArray, array_read, array_write}
use Rattle.wincode_base.specs.declared.meta.TypeMeta.{TypeMeta}
use Rattle.wincode_base.specs.declared.meta.TypeMeta.TheVariants.{Static, Dynamic}
use Rattle.wincode_io.specs.Joins.{Joined, Each, AreItems, total}
use Rattle.wincode_io.specs.JoinLaws.{items_one}

module _ {V : Type 0} (reads : List ℕ → V → Type 0) (s : ℕ) where
  joined_size : ((b : List ℕ) (v : V) → reads b v → length b ≡ s) → (vs : List V) (b : List ℕ) → Joined reads vs b → length b ≡ length vs * s
  joined_size size [] b p = ap length p ∙ omega arith
  joined_size size (v ∷ vs) b p =
      let one = size p.0 v p.2 in
      let more = joined_size size vs p.1 p.3 in
      ap length p.4 ∙ length-append p.0 p.1 ∙ omega arith

  -- so many bytes are an encoding of each item in turn
  joined_any : ((b : List ℕ) → IsBytes b → length b ≡ s → (v : V) × reads b v) → (n : ℕ) (b : List ℕ) → IsBytes b → length b ≡ n * s → (vs : List V)
      × AreItems n reads b vs
  joined_any any zero [] all e = ([], (refl, refl))
  joined_any any zero (c ∷ b) all e = absurd (omega arith)
  joined_any any (suc n) b all e =
      let h : length (take s b) ≡ s = simp length-take (omega arith) in
      let k : length (drop s b) ≡ n * s = simp length-drop (omega arith) in
      let one = any (take s b) (All-take (λ c. c < 256) s b all) h in
      let more = joined_any any n (drop s b) (All-drop (λ c. c < 256) s b all) k in
      (one.0 ∷ more.0, (ap suc more.1.0, (take s b, drop s b, one.1, more.1.1, sym (take-append-drop s b))))

read_static_if : {V : Type 0} (reads : List ℕ → V → Type 0) (b : Bool) (m : TypeMeta) → IsReadStatic reads m → IsReadStatic reads (cond b m Dynamic)
read_static_if reads true m h = h
read_static_if reads false m h = tt

read_statics : {V : Type 0} (n : ℕ) (reads : List ℕ → V → Type 0) (m : TypeMeta) → IsReadStatic reads m → IsReadStatic (AreItems n reads) (times_meta n m)
read_statics n reads Dynamic h = tt
read_statics n reads (Static s z) h = read_static_if (AreItems n reads) (nat_lt (n * s) (2 ^ 64)) (Static (n * s) z)
    ((λ b vs r. joined_size reads s h.0 vs b r.1 ∙ ap (λ k. k * s) r.0), λ t b all e. joined_any reads s (h.1 t) n b all e)

pub array_read_laws : {V : Type 0} (n : ℕ) (is_valid : V → Type 0) (g : ReadGrammar V) → ReadLaws is_valid g → ReadLaws (IsArray n is_valid) (array_read n g)
array_read_laws n is_valid g laws = record {
  one_front = items_one g.reads laws.one_front n;
  reads_valid = λ b vs r. (r.0, each_valid is_valid g laws vs b r.1);
  statics = read_statics n g.reads g.meta laws.statics;
  prealloc = omega arith;
}

-- ---- writing

each_can : {X V : Type 0} (is_valid : X → Type 0) (model : X → V) (can : V → Type 0) → ((x : X) → is_valid x → can (model x)) → (xs : List X)
    → Each is_valid xs → Each can (map model xs)
each_can is_valid model can h [] p = tt
each_can is_valid model can h (x ∷ xs) p = (h x p.0, each_can is_valid model can h xs p.1)

each_size : {V : Type 0} (can : V → Type 0) (size : V → ℕ) (s : ℕ) → ((v : V) → can v → size v ≡ s) → (vs : List V) → Each can vs → total size vs
    ≡ length vs * s
each_size can size s h [] c = omega arith
each_size can size s h (v ∷ vs) c = omega (arith, h v c.0, each_size can size s h vs c.1)

write_static_if : {X V : Type 0} (is_valid : X → Type 0) (model : X → V) (can : V → Type 0) (size : V → ℕ) (b : Bool) (m : TypeMeta)
    → IsWriteStatic is_valid model can size m → IsWriteStatic is_valid model can size (cond b m Dynamic)
write_static_if is_valid model can size true m h = h
write_static_if is_valid model can size false m h = tt

write_statics : {X V : Type 0} (n : ℕ) (is_valid : X → Type 0) (model : X → V) (can : V → Type 0) (size : V → ℕ) (m : TypeMeta)
    → IsWriteStatic is_valid model can size m → IsWriteStatic {X = List X} (IsArray n is_valid) (map model) (IsArray n can) (total size) (times_meta n m)
write_statics n is_valid model can size Dynamic h = tt
write_statics n is_valid model can size (Static s z) h = write_static_if (IsArray n is_valid) (map model) (IsArray n can) (total size)
    (nat_lt (n * s) (2 ^ 64)) (Static (n * s) z)
    ((λ xs p. (length-map xs model ∙ p.0, each_can is_valid model can h.0 xs p.1)), (λ vs c. each_size can size s h.1 vs c.1 ∙ ap (λ k. k * s) c.0))

pub array_write_laws : {X V : Type 0} (n : ℕ) (is_valid : X → Type 0) (model : X → V) (g : WriteGrammar V) → WriteLaws is_valid model g
    → WriteLaws {X = List X} (IsArray n is_valid) (map model) (array_write n g)
array_write_laws n is_valid model g laws =
    let items = items_write_laws is_valid model g laws in record {
      has_encoding = λ vs c. let r = items.has_encoding vs c.1 in (r.0, (c.0, r.1));
      encoding_can = λ vs b w. (w.0, items.encoding_can vs b w.1);
      encoding_size = λ vs b w. items.encoding_size vs b w.1;
      can_fit = λ vs f. (f.0, items.can_fit vs f.1);
      statics = write_statics n is_valid model g.can g.size g.meta laws.statics;
    }

-- ---- reading back what was written

pub array_reads_back : {X V W : Type 0} (n : ℕ) (is_valid : X → Type 0) (ws : X → W) (w : WriteGrammar W) (rs : X → V) (r : ReadGrammar V)
    → ReadsBack is_valid ws w rs r
    → ReadsBack {X = List X} (IsArray n is_valid) (map ws) (array_write n w) (map rs) (array_read n r)
array_reads_back n is_valid ws w rs r law = record {
  back = λ xs b p t f. (length-map xs rs ∙ p.0, each_back is_valid ws w rs r law xs b p.1 t.1 f.1);
  within = λ b xs t. (length-map xs ws ∙ sym (length-map xs rs) ∙ t.0, each_within is_valid ws w rs r law xs b t.1);
  same_prealloc = ap (times_prealloc n) law.same_prealloc;
  same_meta = ap (times_meta n) law.same_meta;
}
