use Rattle.std.proofs.Common.{rules, ◌≡◌, Some}
use Rattle.wincode_base.specs.Strings.{reference_write}
use Rattle.wincode_write.proofs.Parts.{sized_front}
use Rattle.wincode_write.proofs.schema.made.runs.put_made.Goals as goal

pub loop-i-preserved : goal.loop-i-preserved
loop-i-preserved g c =
    let A = g.A.SchemaWrite in
    let T = g.T.ToParts in
    let is : c.encode_made.result ≡ Some c.args.size = search rules in
    sized_front (reference_write A.writing) (λ x. A.model (T.parts x)) (λ x. T.sound x × A.is_valid (T.parts x)) c.args.items.now c.loop-i.i c.args.size _
    c.index-items-i.result c.loop-i-test.true c.index-items-i.is c.loop-i.dst c.encode_made.new.dst c.loop-i.invariant (rw is at c.encode_made.ensures)
