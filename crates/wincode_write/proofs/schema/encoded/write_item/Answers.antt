use Rattle.std.proofs.Common.{rules, refl}
use Rattle.wincode_base.specs.Lists.{item_write}
use Rattle.wincode_base.specs.WriteSequences.{wrote_map, unwritten_map, stopped_map}
use Rattle.wincode_base.proofs.WriteAnswers.{write_refused, write_map}
use Rattle.wincode_write.proofs.schema.encoded.write_item.Goals as goal

pub returns-in_err-write_encoded : goal.returns-in_err-write_encoded
returns-in_err-write_encoded g c =
    let T = g.T.SchemaWrite in
    let v = T.model c.args.src.now in
    let o = c.in_err-write_encoded.ensures in
    let u = unwritten_map T.writing (item_write T.writing) v v (λ q. q) refl (λ b t. t) o.refused in
    write_refused (item_write T.writing) v _ _ _ c.from_residual.ensures u o.item

pub returns : goal.returns
returns g c =
    let T = g.T.SchemaWrite in
    let v = T.model c.args.src.now in
    let o = write_map T.writing v _ (item_write T.writing) v _ c.write.result
    (λ r. wrote_map T.writing (item_write T.writing) v v (λ q. q) refl (λ b t. t) r) (λ p. p)
    (λ e u. unwritten_map T.writing (item_write T.writing) v v (λ q. q) refl (λ b t. t) u)
    (λ e s. stopped_map T.writing (item_write T.writing) v v (λ a r d. r) s) c.write.ensures in
    search (rules, o)
