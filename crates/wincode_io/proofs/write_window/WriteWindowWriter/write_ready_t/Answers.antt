use Rattle.std.proofs.Common.{rules, ◌≡◌, length}
use Rattle.wincode_io.proofs.write_window.WriteWindowWriter.write_ready_t.Goals as goal

pub returns-clause-took : goal.returns-clause-took
returns-clause-took g c =
    let size : length (g.T.ZeroCopy.form c.args.src.now) ≡ g.T.ZeroCopy.size = g.T.ZeroCopy.byte_form.long c.args.src.now c.write_ready_t.ensures.is_valid in
    search (rules, size)
