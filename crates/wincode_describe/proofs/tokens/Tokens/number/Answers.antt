use Rattle.std.proofs.Common.{◌≡◌, refl, drop, Some, None}
use Rattle.wincode_describe.specs.Phrases.{left, number_front}
use Rattle.wincode_describe.proofs.Fronts.{number_refused, number_taken}
use Rattle.wincode_describe.proofs.tokens.Tokens.number.Goals as goal

pub returns-in-Err : goal.returns-in-Err
returns-in-Err c =
    let refused = rw c.text_of.ensures at c.in-Err.ensures.value.0 in
    let none : number_front (left c.args.self.now) ≡ None = number_refused (left c.args.self.now) c.in-Err.field-0 refused in
    rw none tt

pub returns-in-Ok : goal.returns-in-Ok
returns-in-Ok c =
    let taken = rw c.text_of.ensures at c.in-Ok.ensures.value.0 in
    let there : number_front (left c.args.self.now) ≡ Some (c.in-Ok.number, drop 1 (left c.args.self.now)) =
    number_taken (left c.args.self.now) c.in-Ok.number taken in
    rw there (refl, c.skip.ensures)
