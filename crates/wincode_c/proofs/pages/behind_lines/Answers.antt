use Rattle.std.proofs.Common.{rules, length, ◌≡◌, ◌-◌}
use Rattle.wincode_c.proofs.Lines.{at_end, line_gone}
use Rattle.wincode_c.proofs.pages.behind_lines.Goals as goal

pub returns-then-is_empty : goal.returns-then-is_empty
returns-then-is_empty c =
    let none : length c.loop-i.rest.now ≡ 0 = search rules in
    at_end (c.args.count - c.loop-i._i) c.loop-i.rest.now _ none c.loop-i.invariant

pub loop-i-preserved : goal.loop-i-preserved
loop-i-preserved c =
    let l = c.loop-i in
    let gone = line_gone c.args.count l._i c.line_length.result l.rest.now _ c.loop-i-test.true c.line_length.ensures.value l.invariant in
    let behind = c.split_at.ensures.back in
    search (rules, gone, behind)
