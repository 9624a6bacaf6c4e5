use Rattle.std.proofs.Common.{◌+◌, ◌≤◌}
use Rattle.wincode_collect.specs.Seen.{sees}
use Rattle.wincode_base.specs.Pairs.{pair_write}
use Rattle.wincode_write.proofs.Pending.{PendingSoFar}
use Rattle.wincode_write.proofs.schema.to_items.write_sorted.Given as goal

-- the pairs before those that are left were written, or stand in the block, which has a place for one more
abbrev pub invariant-loop-key : goal.invariant-loop-key
invariant-loop-key g l =
    let K = g.K.SchemaWrite in
    let V = g.V.SchemaWrite in
    PendingSoFar (pair_write K.writing V.writing) (sees K.model V.model) (λ e. K.is_valid e.0 × V.is_valid e.1) (g.W.Writer.state l.fn.writer)
    (g.W.Writer.state l.writer) l.pairs.entries l.key-iterator l.filled l.block
    × (l.filled + l.size ≤ 1024)
