use Rattle.std.proofs.Common.{◌+◌, ◌∙◌, ap, take, drop, arith, vec_len}
use Rattle.std.specs.Arc.{arc_value}
use Rattle.std.specs.List.{slice_range}
use Rattle.wincode_io.proofs.Ranges.{earlier, later, inside}
use Rattle.wincode_io.proofs.buffer.Buffer.window.Goals as goal

pub within-requires-clause-within : goal.within-requires-clause-within
within-requires-clause-within c =
    let w = c.self.inside in
    let h = inside (arc_value w.bytes).items w.place w.end c.args.n c.self.invariant.0 (rw (← c.self.view_is) at c.requires) in
    omega (arith, h, c.self.invariant.1, ap vec_len c.in_ok-all.ensures)

pub invariant_of-self : goal.invariant_of-self
invariant_of-self c =
    let w = c.self.inside in
    (inside (arc_value w.bytes).items w.place w.end c.args.n c.self.invariant.0 (rw (← c.self.view_is) at c.requires), c.self.invariant.1)

pub returns-clause-front : goal.returns-clause-front
returns-clause-front c =
    let w = c.self.inside in
    let n = c.args.n in
    c.within.ensures ∙ ap (λ v. slice_range v.items w.place (w.place + n)) c.in_ok-all.ensures
    ∙ earlier (arc_value w.bytes).items w.place w.end n c.self.invariant.0 (rw (← c.self.view_is) at c.requires) ∙ ap (take n) c.self.view_is

pub returns-clause-rest : goal.returns-clause-rest
returns-clause-rest c =
    let w = c.self.inside in
    let n = c.args.n in
    later (arc_value w.bytes).items w.place w.end n c.self.invariant.0 (rw (← c.self.view_is) at c.requires) ∙ ap (drop n) c.self.view_is
