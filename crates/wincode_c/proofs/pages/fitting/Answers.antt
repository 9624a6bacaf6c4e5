use Rattle.std.proofs.Common.{rules, arith, ◌≤◌, ◌<◌, ◌-◌, ◌≡◌, ◌∙◌, ap, length}
use Rattle.std.proofs.Common.{drop}
use Rattle.std.proofs.lemmas.List.{length-drop}
use Rattle.std.proofs.Math.Seq.{drop-drop}
use Rattle.wincode_c.specs.Pages.{line_length}
use Rattle.wincode_c.proofs.Lines.{line_taken, some_line}
use Rattle.wincode_c.proofs.pages.fitting.Goals as goal

pub loop-rest-smaller : goal.loop-rest-smaller
loop-rest-smaller c =
    let some : 0 < length c.loop-rest.rest.now = search rules in
    let one = some_line c.loop-rest.rest.now some in
    omega (arith, one, c.line_length-next.ensures.value, c.split_at.ensures.back_len, some)

pub loop-rest-preserved : goal.loop-rest-preserved
loop-rest-preserved c =
    let l = c.loop-rest in
    let i = l.invariant in
    let next : c.line_length-next.result ≡ line_length (drop l.taken c.args.text.now) = c.line_length-next.ensures.value ∙ ap line_length i.0 in
    let some : 0 < length l.rest.now = search rules in
    let fits : c.line_length-next.result ≤ c.args.room - l.taken = search rules in
    let left = ap length i.0 ∙ length-drop l.taken c.args.text.now in
    let more = line_taken l.taken l.lines c.line_length-next.result c.args.room c.args.text.now i.1 (omega (arith, some, left)) next fits i.3 i.4 in (
      c.split_at.ensures.back ∙ ap (drop c.line_length-next.result) i.0 ∙ drop-drop c.line_length-next.result l.taken c.args.text.now,
      more.0,
      more.1,
      more.2,
      more.3,
    )
