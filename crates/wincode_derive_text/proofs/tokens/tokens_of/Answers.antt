use Rattle.std.proofs.Common.{[], None, ap, length, rules}
use Rattle.std.proofs.lemmas.Iterator.{YieldsList-from_chars}
use Rattle.std.proofs.lemmas.Iterator.Consumers.{YieldsList-turn, YieldsList-end}
use Rattle.std.proofs.lemmas.List.{length_push}
use Rattle.std.proofs.lemmas.Result.{err_from_is_err_and}
use Rattle.std.specs.Str.{chars}
use Rattle.wincode_derive_text.specs.Splits.{tokens_in}
use Rattle.wincode_derive_text.proofs.Splitting.{left_turn, left_step, left_refused, left_ended, left_last, left_not_between, left_first}
use Rattle.wincode_derive_text.specs.declared.tokens.Mark.{Mark}
use Rattle.wincode_derive_text.specs.declared.tokens.Place.TheVariants as place
use Rattle.wincode_derive_text.proofs.tokens.tokens_of.Goals as goal

pub loop-c-init : goal.loop-c-init
loop-c-init c =
    let first : Mark = record { line = 1; column = 1; at = 0 } in
    left_first (record { tokens = c.new.result; word = c.new-2.result; place = place.Between; here = first; begin = first; depth = 0; fence = None })
    (chars c.args.source.now) c.new.ensures.items (ap (λ w. record { place = place.Between; word = w; depth = 0; fence = None }) c.new-2.ensures.bytes)

pub loop-c-preserved : goal.loop-c-preserved
loop-c-preserved c =
    let cs = chars c.args.source.now in
    let n = length c.loop-c.yielded in
    let t = YieldsList-turn (YieldsList-from_chars c.args.source.now c.utf8.source cc)
    c.loop-c.yielded _ c.loop-c.yielded_by _ _ c.in-Some.c c.in-Some.is c.next.ensures.steps in
    let k = left_step c.loop-c.lexer c.step.new.self c.in-Some.c _ (tokens_in cs) _
    (left_turn c.loop-c.lexer cs n c.in-Some.c (tokens_in cs) t c.loop-c.invariant) c.in_ok-step.ensures in
    rw (length_push c.loop-c.yielded c.in-Some.c) k

pub returns-in_err-step : goal.returns-in_err-step
returns-in_err-step c =
    let cs = chars c.args.source.now in
    let n = length c.loop-c.yielded in
    let t = YieldsList-turn (YieldsList-from_chars c.args.source.now c.utf8.source cc)
    c.loop-c.yielded _ c.loop-c.yielded_by _ _ c.in-Some.c c.in-Some.is c.next.ensures.steps in
    let p = err_from_is_err_and c.from_residual.result c.from_residual.ensures.1 in
    rw (p.1, p.2) (left_refused c.loop-c.lexer c.step.new.self c.in-Some.c _ (tokens_in cs) _
    (left_turn c.loop-c.lexer cs n c.in-Some.c (tokens_in cs) t c.loop-c.invariant) c.in_err-step.ensures)

pub returns-in_err-step-2 : goal.returns-in_err-step-2
returns-in_err-step-2 c =
    let cs = chars c.args.source.now in
    let n = length c.loop-c.yielded in
    let t = YieldsList-end (YieldsList-from_chars c.args.source.now c.utf8.source cc)
    c.loop-c.yielded _ c.loop-c.yielded_by _ _ c.in-None.is c.next.ensures.steps in
    let p = err_from_is_err_and c.from_residual-in_err-step-2.result c.from_residual-in_err-step-2.ensures.1 in
    rw (p.1, p.2) (left_refused c.loop-c.lexer c.step-2.new.self 10 [] (tokens_in cs) _ (left_last c.loop-c.lexer cs n (tokens_in cs) t.1 c.loop-c.invariant)
    c.in_err-step-2.ensures)

pub returns-then-ne : goal.returns-then-ne
returns-then-ne c =
    let cs = chars c.args.source.now in
    let n = length c.loop-c.yielded in
    let t = YieldsList-end (YieldsList-from_chars c.args.source.now c.utf8.source cc)
    c.loop-c.yielded _ c.loop-c.yielded_by _ _ c.in-None.is c.next.ensures.steps in
    left_not_between c.step-2.new.self (tokens_in cs) _ (left_step c.loop-c.lexer c.step-2.new.self 10 [] (tokens_in cs) _
    (left_last c.loop-c.lexer cs n (tokens_in cs) t.1 c.loop-c.invariant) c.in_ok-step-2.ensures) (λ e. search rules)

pub returns : goal.returns
returns c =
    let cs = chars c.args.source.now in
    let n = length c.loop-c.yielded in
    let t = YieldsList-end (YieldsList-from_chars c.args.source.now c.utf8.source cc)
    c.loop-c.yielded _ c.loop-c.yielded_by _ _ c.in-None.is c.next.ensures.steps in
    left_ended c.step-2.new.self (tokens_in cs) (left_step c.loop-c.lexer c.step-2.new.self 10 [] (tokens_in cs) _
    (left_last c.loop-c.lexer cs n (tokens_in cs) t.1 c.loop-c.invariant) c.in_ok-step-2.ensures)
