use Rattle.std.proofs.Common.{rules, ◌≡◌, ◌∙◌, refl, map, length}
use Rattle.std.proofs.lemmas.List.{length-map}
use Rattle.wincode_base.specs.Arrays.{array_write}
use Rattle.wincode_base.specs.Lists.{items_write, each_write}
use Rattle.wincode_base.specs.WriteSequences.{wrote_map, unwritten_map, stopped_map}
use Rattle.wincode_base.proofs.WriteAnswers.{write_map}
use Rattle.wincode_write.proofs.schema.arrays.ItemsSchemaWrite.write.Goals as goal

pub returns-in-Static : goal.returns-in-Static
returns-in-Static g c =
    let T = g.T.SchemaWrite in
    let items = items_write T.writing in
    let array = array_write g.row.N T.writing in
    let vs = map T.model c.args.src.now in
    let long : length c.args.src.now ≡ g.row.N = search rules in
    let n : length vs ≡ g.row.N = length-map c.args.src.now T.model ∙ long in
    write_map items vs _ array vs _ _ (λ r. wrote_map items array vs vs (λ e. (n, e)) refl (λ b w. (n, w)) r) (λ p. (long, p))
    (λ e u. unwritten_map items array vs vs (λ a. a.1) refl (λ b w. (n, w)) u) (λ e h. stopped_map items array vs vs (λ a x dynamic. absurd (cc dynamic)) h)
    (rw c.as_slice.ensures at c.write_items.ensures)

pub returns-in-Dynamic : goal.returns-in-Dynamic
returns-in-Dynamic g c =
    let T = g.T.SchemaWrite in
    let items = each_write T.writing in
    let array = array_write g.row.N T.writing in
    let vs = map T.model c.args.src.now in
    let long : length c.args.src.now ≡ g.row.N = search rules in
    let n : length vs ≡ g.row.N = length-map c.args.src.now T.model ∙ long in
    write_map items vs _ array vs _ _ (λ r. wrote_map items array vs vs (λ e. (n, e)) refl (λ b w. (n, w)) r) (λ p. (long, p))
    (λ e u. unwritten_map items array vs vs (λ a. a.1) refl (λ b w. (n, w)) u) (λ e h. stopped_map items array vs vs (λ a x dynamic. x) h)
    (rw c.as_slice-in-Dynamic.ensures at c.write_apart.ensures)
