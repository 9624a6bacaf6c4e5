use Rattle.std.proofs.Common.{◌*◌, drop}
use Rattle.wincode_base.proofs.Decoding.{DecodedSoFar}
use Rattle.wincode_read.proofs.schema.SchemaRead.take_over.Given as goal

-- the places before this one hold what the bytes before its own read as
abbrev pub invariant-loop-i : goal.invariant-loop-i
invariant-loop-i g l = DecodedSoFar g.Self.SchemaRead.reading.reads g.Self.SchemaRead.model l.fn.bytes (drop (l.i * l.size) l.fn.bytes) l.i l.places
