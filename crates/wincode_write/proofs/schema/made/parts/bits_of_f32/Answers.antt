use Rattle.std.proofs.Common.{sym, ap, to_bits}
use Rattle.std.specs.Bool.{passes}
use lib.Ieee.{binary32}
use lib.Ieee.Bits.{of_bits-to_bits}
use Rattle.wincode_write.proofs.schema.made.parts.bits_of_f32.Goals as goal

pub returns-clause-sound : goal.returns-clause-sound
returns-clause-sound c = ap (to_bits binary32) (sym (of_bits-to_bits binary32 c.args.x (passes _ c.well_formed.0.1)))
