use Rattle.std.proofs.Common.{rules}
use Rattle.testkit_schemas.proofs.Zeros.{block_unwritten, block_halted}
use Rattle.testkit_schemas.proofs.block.BlockSchemaWrite.write.Goals as goal

pub returns-in_err-make_room : goal.returns-in_err-make_room
returns-in_err-make_room g c =
    let laws = g.met.W.Writer.writer_laws in
    let d = c.in_err-make_room.ensures.err in
    let u = block_unwritten laws 4611686018427387904 _ _ c.args._src.now _ d in
    let p = block_halted laws 4611686018427387904 _ _ c.args._src.now _ d in search (rules, u, p)
