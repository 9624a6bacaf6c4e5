use Rattle.std.proofs.Common.{rules, ◌≡◌}
use Rattle.wincode_recode.proofs.Shapes.{relayed, unrelayed}
use Rattle.wincode_recode.specs.Shapes.{word_of}
use Rattle.wincode_recode.proofs.relaying.relay.Goals as goal

pub returns-in_err-text-clause-err : goal.returns-in_err-text-clause-err
returns-in_err-text-clause-err g c =
    let known : c.args.shape.now ≡ word_of c.in-Some.known = search rules in
    let h = unrelayed c.args.shape.now c.in-Some.known (g.R.Read.remaining c.args.input.now) (g.R.Read.remaining c.gather.new.input)
    (g.W.Write.contents c.args.output.now) c.in_ok-bytes.bytes.items _ known c.in_ok-bytes.ensures.ok
    (rw c.as_slice.ensures.value at c.in_err-text.ensures.err) in
    search (rules, h)

pub returns-in_err-map_err-clause-err : goal.returns-in_err-map_err-clause-err
returns-in_err-map_err-clause-err g c =
    let known : c.args.shape.now ≡ word_of c.in-Some.known = search rules in
    let h = relayed c.args.shape.now c.in-Some.known (g.R.Read.remaining c.args.input.now)
    c.in_ok-bytes.bytes.items c.in_ok-text.text.items known c.in_ok-bytes.ensures.ok (rw c.as_slice.ensures.value at c.in_ok-text.ensures.ok)
    (rw c.as_slice.ensures.value at c.in_ok-text.ensures.kept) in
    search (rules, h)
