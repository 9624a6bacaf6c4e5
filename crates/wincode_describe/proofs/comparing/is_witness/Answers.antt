use Rattle.std.proofs.Common.{rules, ◌≡◌, ◌∙◌, sym, ap, subst, map, None, length, ◌<◌, ◌^◌}
use Rattle.std.specs.Prelude.{Option}
use Rattle.wincode_base.specs.declared.error.ReadError.{ReadError}
use Rattle.wincode_describe.specs.Explained.{Explains}
use Rattle.wincode_describe.specs.Parts.{seen}
use Rattle.wincode_describe.proofs.Witnesses.{refused_witness, other_witness, not_both}
use Rattle.wincode_describe.proofs.comparing.is_witness.Goals as goal

pub returns-in-Some : goal.returns-in-Some
returns-in-Some c = λ h.
    let old = c.args.old.now in
    let new = c.args.new.now in
    let bytes = c.args.bytes.now in
    let parts = map seen c.explain-was.result.parts.items in
    let others = map seen c.explain-is.result.parts.items in
    let P : Option ReadError → Type 0 = λ r. Explains old bytes parts r in
    let Q : Option ReadError → Type 0 = λ r. Explains new bytes others r in
    let none : c.explain-was.result.refused ≡ None = search rules in
    let fits : length bytes < 2 ^ 64 = search rules in
    refused_witness old new bytes parts others _ fits (subst P none c.explain-was.ensures) (subst Q c.in-Some.is c.explain-is.ensures)
    (c.is_unaccepted.ensures.so h)

pub returns : goal.returns
returns c = λ h.
    let old = c.args.old.now in
    let new = c.args.new.now in
    let bytes = c.args.bytes.now in
    let parts = map seen c.explain-was.result.parts.items in
    let others = map seen c.explain-is.result.parts.items in
    let P : Option ReadError → Type 0 = λ r. Explains old bytes parts r in
    let Q : Option ReadError → Type 0 = λ r. Explains new bytes others r in
    let none : c.explain-was.result.refused ≡ None = search rules in
    let differ : parts ≡ others → ⊥ = λ e. not_both c.are_same_parts.result (c.are_same_parts.ensures.same (ap (map seen) c.as_slice.ensures.value ∙ e
    ∙ sym (ap (map seen) c.as_slice-in-None.ensures.value))) h in
    other_witness old new bytes parts others (subst P none c.explain-was.ensures) (subst Q c.in-None.is c.explain-is.ensures) differ
