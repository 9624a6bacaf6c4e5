use Rattle.std.proofs.Common.{rules, ◌<◌, ◌^◌}
use Rattle.wincode_base.proofs.Short.{length_sized}
use Rattle.wincode_base.proofs.len.short_vec.ShortU16SeqLen.write_bytes_needed.Goals as goal

pub returns-clause-ok : goal.returns-clause-ok
returns-clause-ok c = let small : c.args.len < 2 ^ 16 = search rules in rw (c.short_size.ensures, c.in_ok-value.ensures.ok) (length_sized c.args.len small)
