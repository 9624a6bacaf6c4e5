use Rattle.std.proofs.Common.{refl, true}
use Rattle.std.specs.Int.{w128}
use Rattle.wincode_base.specs.Leaves.{signed_read}
use Rattle.wincode_base.proofs.ReadAnswers.{add_at_once}
use Rattle.wincode_read.proofs.schema.leaves.numbers.I128SchemaRead.read_at_once.Goals as goal

pub returns-clause-done : goal.returns-clause-done
returns-clause-done g c =
    let all = c.read_all.ensures in
    record {
      each = add_at_once c.args.n (signed_read w128 true) (λ v. v) _ _ c.read_all.result 16 true refl all.ok all.err all.at_once all.same;
      at_once = all.at_once;
    }
