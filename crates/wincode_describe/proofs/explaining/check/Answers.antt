use Rattle.std.proofs.Common.{sym}
use Rattle.wincode_io.specs.Windows.{window_state}
use Rattle.wincode_describe.proofs.Shows.{memory_explains}
use Rattle.wincode_describe.proofs.explaining.check.Goals as goal

pub returns : goal.returns
returns g c =
    let x = c.check_read.ensures in
    rw (sym c.new.ensures) (
      x.0,
      x.1,
      memory_explains c.args.described.now c.new.result (window_state c.check_read.new.reader)
          x.0 c.check_read.result.refused x.2,
    )
