use Rattle.std.proofs.Common.{◌∙◌, sym, ap, Some, None}
use Rattle.std.specs.String.{string_bytes}
use Rattle.std.proofs.lemmas.Option.{slice_get-get_or, slice_get_past}
use Rattle.wincode_describe.proofs.Placed.{last_some, one_before}
use Rattle.wincode_describe.proofs.places.last_number.Goals as goal

pub returns-in-Some : goal.returns-in-Some
returns-in-Some c =
    let found = c.in-Some.ensures.lookup in
    let xs = c.args.parts.now in
    let i = c.in_ok-last.last in
    let p = c.in-Some.part.now in
    c.number_of.ensures ∙ sym (last_some xs string_bytes c.args.places.now i (Some p)
    (one_before c.checked_sub.result _ i c.checked_sub.ensures c.in_ok-last.was) (slice_get-get_or xs i p found.3.0 ∙ ap Some (sym found.1)))

pub returns-in-None : goal.returns-in-None
returns-in-None c =
    let xs = c.args.parts.now in
    let i = c.in_ok-last.last in
    sym (last_some xs string_bytes c.args.places.now i None
    (one_before c.checked_sub.result _ i c.checked_sub.ensures c.in_ok-last.was) (slice_get_past xs i c.in-None.ensures.lookup.3))
