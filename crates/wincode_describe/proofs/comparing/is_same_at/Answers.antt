use Rattle.std.proofs.Common.{◌∙◌, sym, ap, Some}
use Rattle.std.proofs.lemmas.Option.{slice_get-get_or}
use Rattle.wincode_describe.proofs.Witnesses.{same_at, at_both}
use Rattle.wincode_describe.proofs.comparing.is_same_at.Goals as goal

pub returns-in-Some-get-clause-same : goal.returns-in-Some-get-clause-same
returns-in-Some-get-clause-same c = λ l e.
    let xs = c.args.parts.now in
    let ys = c.args.others.now in
    let i = c.args.i in
    let p = c.in-Some.part.now in
    let q = c.in-Some-get.other.now in
    let f = c.in-Some.ensures.lookup in
    let g = c.in-Some-get.ensures.lookup in
    c.is_same_part.ensures.same (same_at xs ys i p q e (slice_get-get_or xs i p f.3.0 ∙ ap Some (sym f.1)) (slice_get-get_or ys i q g.3.0 ∙ ap Some (sym g.1)))

pub returns-in-Some-get-clause-other : goal.returns-in-Some-get-clause-other
returns-in-Some-get-clause-other c = λ t.
    let xs = c.args.parts.now in
    let ys = c.args.others.now in
    let i = c.args.i in
    let p = c.in-Some.part.now in
    let q = c.in-Some-get.other.now in
    let f = c.in-Some.ensures.lookup in
    let g = c.in-Some-get.ensures.lookup in
    at_both xs ys i p q (slice_get-get_or xs i p f.3.0 ∙ ap Some (sym f.1)) (slice_get-get_or ys i q g.3.0 ∙ ap Some (sym g.1)) (c.is_same_part.ensures.other t)
