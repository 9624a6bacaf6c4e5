use Rattle.wincode_describe.specs.Compared.{Takes, heads, repeated, row_read}
use Rattle.wincode_describe.proofs.likeness.+likening.Given as goal

-- so many items were taken
abbrev pub invariant-items_likeness-loop-i : goal.invariant-items_likeness-loop-i
invariant-items_likeness-loop-i l = Takes l.answer (row_read (repeated l._i (heads l.fn.item))) (heads l.fn.new) l.fn.at l.end
