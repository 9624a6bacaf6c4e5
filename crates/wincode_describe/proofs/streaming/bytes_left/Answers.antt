use Rattle.std.proofs.Common.{arith}
use Rattle.wincode_describe.proofs.Left.{counts_none, counts_more, counts_all}
use Rattle.wincode_describe.proofs.streaming.bytes_left.Goals as goal

pub loop-i-init : goal.loop-i-init
loop-i-init g c = counts_none (g.R.Reader.state c.args.reader.now)

pub loop-i-preserved : goal.loop-i-preserved
loop-i-preserved g c =
    let start = g.R.Reader.state c.args.reader.now in
    let old = g.R.Reader.state c.loop-i.reader in
    let mid = g.R.Reader.state c.fill.new.self in
    let new = g.R.Reader.state c.consume_unchecked.new.self in
    counts_more 8192 _ c.loop-i.left _ start old mid new c.loop-i.invariant c.in_ok-fill.ensures.ok c.consume_unchecked.ensures c.in-Some.ensures.1

pub returns-then-n-eq0 : goal.returns-then-n-eq0
returns-then-n-eq0 g c =
    let start = g.R.Reader.state c.args.reader.now in
    let old = g.R.Reader.state c.loop-i.reader in
    let mid = g.R.Reader.state c.fill.new.self in
    counts_all 8191 c.loop-i.left start old mid c.loop-i.invariant c.in_ok-fill.ensures.ok (omega (arith, c.at_hand-n.ensures.0, c.if-n-eq0.true))
