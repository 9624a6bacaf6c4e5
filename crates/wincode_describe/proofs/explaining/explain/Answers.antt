use Rattle.std.proofs.Common.{sym, map}
use Rattle.wincode_io.specs.Windows.{window_state}
use Rattle.wincode_describe.specs.Parts.{seen}
use Rattle.wincode_describe.proofs.Shows.{memory_explains}
use Rattle.wincode_describe.proofs.explaining.explain.Goals as goal

pub returns : goal.returns
returns g c = rw (sym c.new.ensures) (memory_explains c.args.described.now c.new.result (window_state c.explain_read.new.reader)
    (map seen c.explain_read.result.parts.items) c.explain_read.result.refused c.explain_read.ensures)
