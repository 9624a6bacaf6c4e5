use Rattle.std.proofs.Common.{rules, arith, ◌≡◌, ◌∙◌, ◌≤◌, sym, length, map}
use Rattle.std.proofs.lemmas.List.{length-map}
use Rattle.wincode_describe.specs.Parts.{seen}
use Rattle.wincode_describe.proofs.Witnesses.{same_parts}
use Rattle.wincode_describe.proofs.comparing.are_same_parts.Goals as goal

pub returns-clause-other : goal.returns-clause-other
returns-clause-other c = λ t.
    let xs = c.args.parts.now in
    let ys = c.args.others.now in
    let long : length xs ≡ length ys = search rules in
    let all : length xs ≤ c.loop-i.i = search rules in
    let seen_long = length-map xs seen in
    same_parts (map seen xs) (map seen ys) (seen_long ∙ long ∙ sym (length-map ys seen)) (λ j m. c.loop-i.invariant j (omega (arith, m, seen_long, all)))
