use Rattle.std.proofs.Common.{rules, arith, ◌≡◌, ap, subst, [], ◌∷◌, ◌+◌, length}
use Rattle.std.specs.Prelude.{MatchResult}
use Rattle.wincode_describe.specs.Compared.{StandsAt, heads, repeated}
use Rattle.wincode_describe.specs.declared.described.Described.{Described}
use Rattle.wincode_describe.proofs.Rows.{stands_first, behind_first, first_alone, none_repeated, stands_item}
use Rattle.wincode_describe.proofs.likeness.+placing.Goals as goal

pub head_at-returns-in-Ok : goal.head_at-returns-in-Ok
head_at-returns-in-Ok t c =
    let P : Described → Type 0 = λ d. StandsAt c.args.i (heads d) c.in-Ok.head.now in
    rw c.in-Joined.is (stands_first c.args.i (heads c.in-Joined.first.value) (heads c.in-Joined.second.value) c.in-Ok.head.now (subst P c.deref.ensures c.in-Ok.ensures))

pub head_at-returns-in-Err : goal.head_at-returns-in-Err
head_at-returns-in-Err t c =
    let r = c.head_at-in-Err.result in
    let P : Described → Type 0 = λ d. c.args.i ≡ length (heads d) + c.in-Err.left in
    let Q : Described → Type 0 = λ e. MatchResult r (λ d. StandsAt c.in-Err.left (heads e) d.now) (λ more. c.in-Err.left ≡ length (heads e) + more) in
    rw c.in-Joined.is (behind_first (λ d. d.now) c.args.i c.in-Err.left (heads c.in-Joined.first.value) (heads c.in-Joined.second.value) r
    (subst P c.deref.ensures c.in-Err.ensures) (subst Q c.deref-in-Err.ensures c.head_at-in-Err.ensures))

pub head_at-returns-in-None : goal.head_at-returns-in-None
head_at-returns-in-None t c =
    let e : heads c.args.described.now ≡ c.args.described.now ∷ [] = search rules in
    first_alone c.args.i c.args.described.now e c.in-None.ensures

pub item_head_at-returns-then-row_length-eq0 : goal.item_head_at-returns-then-row_length-eq0
item_head_at-returns-then-row_length-eq0 t c =
    let hs = heads c.args.item.now in
    let none : length hs ≡ 0 = search rules in
    let all : length (repeated c.args.n hs) ≡ 0 = ap length (none_repeated c.args.n hs none) in
    omega (arith, all)

pub item_head_at-returns-in-Ok : goal.item_head_at-returns-in-Ok
item_head_at-returns-in-Ok t c = stands_item c.loop-i._i c.args.n c.args.i c.loop-i.place (heads c.args.item.now) c.in-Ok.head.now c.loop-i-test.true c.loop-i.invariant c.in-Ok.ensures
