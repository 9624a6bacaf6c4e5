-- Two readers with the same bytes.
use Rattle.std.proofs.Common.{◌≡◌, ◌∙◌, sym, ap, ℕ, List, ◌++◌, length, drop, IsTrue}
use Rattle.std.proofs.Math.Seq.{drop-append_seam}
use Rattle.wincode_io.specs.Joins.{IsUnambiguous}
use Rattle.wincode_io.specs.Readers.{ReaderState}
use Rattle.wincode_base.specs.Outcomes.{Gives}
use Rattle.example_schemas.specs.Fronts.{Agree}

-- both gave a value
pub both_gave : {D V : Type 0} (model : D → V) (reads : List ℕ → V → Type 0) → IsUnambiguous reads → (a b c d : ReaderState) (v w : D)
    → IsTrue a.is_known → IsTrue c.is_known → a.rest ≡ c.rest → Gives reads a b (model v) → Gives reads c d (model w) → Agree model v w b.rest d.rest
both_gave model reads one a b c d v w s t same g h =
    let f = g.found s in
    let k = h.found t in
    let e = one f.encoding k.encoding b.rest d.rest (model v) (model w) f.is_read k.is_read (sym f.joins ∙ same ∙ k.joins) in
    record {
      value = e.1;
      rest = sym (drop-append_seam f.encoding b.rest) ∙ ap (drop (length f.encoding)) (sym f.joins ∙ same ∙ k.joins)
          ∙ ap (λ x. drop (length x) (k.encoding ++ d.rest)) e.0 ∙ drop-append_seam k.encoding d.rest;
    }
