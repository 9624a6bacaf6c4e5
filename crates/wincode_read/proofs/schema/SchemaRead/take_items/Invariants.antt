use Rattle.wincode_base.proofs.Decoding.{AddedSoFar}
use Rattle.wincode_read.proofs.schema.SchemaRead.take_items.Given as goal

-- so far what the bytes read as that were taken was added
abbrev pub invariant-loop-i : goal.invariant-loop-i
invariant-loop-i g l = AddedSoFar g.Self.SchemaRead.reading.reads g.Self.SchemaRead.model l.fn.bytes l.rest l._i l.fn.into.items l.into.items
