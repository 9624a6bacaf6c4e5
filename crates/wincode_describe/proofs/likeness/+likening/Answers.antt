use Rattle.std.proofs.Common.{rules, ◌≡◌, ◌∙◌, sym, ◌+◌, arith, ℕ, suc, subst, length}
use Rattle.wincode_describe.specs.Compared.{IsLike, IsWider, Takes, both, heads, repeated, row_read}
use Rattle.wincode_describe.specs.Types.{described_read, cases_read, tag_bytes, list_of, scheme_of}
use Rattle.wincode_describe.specs.declared.described.Described.{Described}
use Rattle.wincode_describe.specs.declared.described.LengthScheme.{LengthScheme}
use Rattle.wincode_describe.specs.declared.described.TagSize.TheVariants.{U32}
use Rattle.wincode_describe.specs.declared.likeness.Likeness.TheVariants.{Same}
use Rattle.wincode_describe.specs.ShownGrammars.{chosen_read}
use Rattle.wincode_describe.proofs.Likes.{Sides, array_like, list_like, choice_like, choice_more, choice_sides, choice_fewer, result_choice, like_to}
use Rattle.wincode_describe.proofs.Rows.{takes_one, takes_both, takes_all, takes_none, takes_item, takes_array}
use Rattle.wincode_describe.proofs.likeness.+likening.Goals as goal

pub named_likeness-returns-then-are_named : goal.named_likeness-returns-then-are_named
named_likeness-returns-then-are_named t c =
    choice_like (tag_bytes c.args.size) c.cases_likeness-answer.result c.args.cases.now c.args.others.now c.cases_likeness-answer.ensures
    (c.are_named.ensures c.if-are_named.true)

pub named_likeness-returns-else-are_named : goal.named_likeness-returns-else-are_named
named_likeness-returns-else-are_named t c =
    rw c.and.ensures (choice_more (tag_bytes c.args.size) c.cases_likeness-answer.result c.args.cases.now c.args.others.now c.cases_likeness-answer.ensures)

pub head_likeness-returns-in-Array-new : goal.head_likeness-returns-in-Array-new
head_likeness-returns-in-Array-new t c =
    let a = c.likeness_of-in-Array-new.result in
    let P : Described → Type 0 = λ d. IsLike a (described_read d) (described_read c.deref-in-Array-new-2.result.now) in
    let Q : Described → Type 0 = λ e. IsLike a (described_read c.in-Array.item.value) (described_read e) in
    let same : c.in-Array-new.other ≡ c.in-Array.n = search rules in
    rw (c.in-Array.is, c.in-Array-new.is, same) (array_like c.in-Array.n a (described_read c.in-Array.item.value) (described_read c.in-Array-new.content.value)
    (subst Q c.deref-in-Array-new-2.ensures (subst P c.deref-in-Array-new.ensures c.likeness_of-in-Array-new.ensures)))

pub likeness_of-returns-in-Err : goal.likeness_of-returns-in-Err
likeness_of-returns-in-Err t c = takes_all c.row_likeness-answer.result.0 (described_read c.args.old.now) c.args.new.now c.row_likeness-answer.result.1
    (let e = c.in-Err.ensures in omega (arith, e)) c.row_likeness-answer.ensures

pub list_likeness-returns : goal.list_likeness-returns
list_likeness-returns t c =
    let a = c.wider-wider.result in
    let b = c.likeness_of.result in
    let s = c.args.scheme in
    let g = described_read c.args.item.now in
    let h = described_read c.in-Some.content.now in
    let P : ℕ → Type 0 = λ n. IsWider a (scheme_of s) n c.prealloc_size-2.result in
    let Q : ℕ → Type 0 = λ n. IsWider a (scheme_of s) g.prealloc n in
    let S : LengthScheme → Type 0 = λ u. IsLike Same (list_of u h) (described_read c.args.new.now) in
    let same : c.in-Some.other ≡ s = search rules in
    rw c.and.ensures (like_to (both a b) (list_of s g) (list_of s h) (described_read c.args.new.now)
    (list_like s a b g h (subst Q c.prealloc_size-2.ensures (subst P c.prealloc_size.ensures c.wider-wider.ensures)) c.likeness_of.ensures)
    (subst S same c.in-Some.ensures))

pub row_likeness-returns-in-Joined : goal.row_likeness-returns-in-Joined
row_likeness-returns-in-Joined t c =
    let one = c.row_likeness-one.result in
    let other = c.row_likeness-other.result in
    let ds = heads c.args.new.now in
    let P : Described → Type 0 = λ d. Takes one.0 (described_read d) ds c.args.at one.1 in
    let Q : Described → Type 0 = λ d. Takes other.0 (described_read d) ds one.1 other.1 in
    rw (c.in-Joined.is, c.and.ensures) (takes_both one.0 other.0 (described_read c.in-Joined.first.value) (described_read c.in-Joined.second.value) ds c.args.at
    one.1 other.1 (subst P c.deref.ensures c.row_likeness-one.ensures) (subst Q c.deref-in-Joined.ensures c.row_likeness-other.ensures))

pub row_likeness-returns-in-Ok-Some : goal.row_likeness-returns-in-Ok-Some
row_likeness-returns-in-Ok-Some t c =
    let next : c.in-Ok-Some.next ≡ suc c.args.at = search rules in
    rw next (takes_one c.head_likeness.result (described_read c.args.old.now) (heads c.args.new.now) c.args.at c.in-Ok-Some.head.now c.in-Ok-Some.ensures
    c.head_likeness.ensures)

pub items_likeness-returns-then-row_length-eq0 : goal.items_likeness-returns-then-row_length-eq0
items_likeness-returns-then-row_length-eq0 t c =
    let none : length (heads c.args.item.now) ≡ 0 = search rules in
    takes_none c.args.n (heads c.args.item.now) (heads c.args.new.now) c.args.at none

pub items_likeness-loop-i-preserved : goal.items_likeness-loop-i-preserved
items_likeness-loop-i-preserved t c =
    let k = c.loop-i._i in
    let d = c.args.item.now in
    let ds = heads c.args.new.now in
    let one = c.row_likeness-one.result in
    let more : k + 1 ≡ suc k = omega arith in
    rw (c.and-answer.ensures, more) (takes_item c.loop-i.answer one.0 k d ds c.args.at c.loop-i.end one.1 c.loop-i.invariant c.row_likeness-one.ensures)

pub row_likeness-returns-in-Array : goal.row_likeness-returns-in-Array
row_likeness-returns-in-Array t c =
    let r = c.items_likeness.result in
    let ds = heads c.args.new.now in
    let P : Described → Type 0 = λ d. Takes r.0 (row_read (repeated c.in-Array.n (heads d))) ds c.args.at r.1 in
    rw c.in-Array.is (takes_array r.0 c.in-Array.n c.in-Array.item.value ds c.args.at r.1 (subst P c.deref-in-Array.ensures c.items_likeness.ensures))

pub enum_likeness-returns-in-Result : goal.enum_likeness-returns-in-Result
enum_likeness-returns-in-Result t c =
    let a = c.sides_likeness.result in
    let cs = chosen_read 4 (cases_read c.args.cases.now) in
    let P : Described → Type 0 = λ d. IsLike a cs (Sides (described_read d) (described_read c.deref-in-Result-2.result.now)) in
    let Q : Described → Type 0 = λ d. IsLike a cs (Sides (described_read c.in-Result.one.value) (described_read d)) in
    let same : c.args.size ≡ U32 = search rules in
    rw (c.in-Result.is, same) (subst Q c.deref-in-Result-2.ensures (subst P c.deref-in-Result.ensures c.sides_likeness.ensures))

pub result_likeness-returns-then-are_sides : goal.result_likeness-returns-then-are_sides
result_likeness-returns-then-are_sides t c =
    let a = c.likeness_of.result in
    let b = c.likeness_of-2.result in
    let g = described_read c.in-Result.one.value in
    let h = described_read c.in-Result.other.value in
    let first = described_read c.in-Some-Some.first.now in
    let second = described_read c.in-Some-Some.second.now in
    let cs = c.args.cases.now in
    let P : Described → Type 0 = λ d. IsLike a (described_read d) first in
    let Q : Described → Type 0 = λ d. IsLike b (described_read d) second in
    rw (c.in-Result.is, c.and-answer.ensures) (result_choice a b g h cs (c.are_sides.ensures c.if-are_sides.true)
    (like_to a g first ((cases_read cs).case 0) (subst P c.deref.ensures c.likeness_of.ensures) c.in-Some-Some.ensures)
    (like_to b h second ((cases_read cs).case 1) (subst Q c.deref-2.ensures c.likeness_of-2.ensures) c.in-Some-Some.ensures'))

pub sides_likeness-returns-then-has_case-2 : goal.sides_likeness-returns-then-has_case-2
sides_likeness-returns-then-has_case-2 t c =
    choice_sides c.side_likeness-answer.result c.args.cases.now (described_read c.args.one.now) (described_read c.args.other.now) c.side_likeness-answer.ensures
    (sym c.has_case.ensures ∙ c.if-has_case.true) (sym c.has_case-then-has_case.ensures ∙ c.if-has_case-2.true)

pub sides_likeness-returns-else-has_case : goal.sides_likeness-returns-else-has_case
sides_likeness-returns-else-has_case t c =
    rw c.and.ensures (choice_fewer c.side_likeness-answer.result c.args.cases.now (described_read c.args.one.now) (described_read c.args.other.now) c.side_likeness-answer.ensures)
