-- Each call reads what its reader reads.
use Rattle.std.proofs.Common.{◌≡◌, ◌∙◌, sym, ap, refl, suc, bytes_eq, true, false, option_map, List, [], None, arith, rules, codes}
use Rattle.std.proofs.lemmas.Bool.{lt-ltb, le-ltb}
use Rattle.std.proofs.lemmas.Result.{err_from_is_err_and}
use Rattle.std.specs.String.{string_bytes}
use Rattle.wincode_describe.specs.Forms.{Record, Words, seen, seen_cases}
use Rattle.wincode_describe.specs.Phrases.{Piece, Gives, and_then, needed, on, behind_sign, left, pieces, word_front}
use Rattle.wincode_describe.specs.Sources.{declaration_of}
use Rattle.wincode_describe.specs.Readers.{held_form, held_in, closed, slice_by, text_by, readers, rounded_by, there, array_or_word, word_by, several_by, unread, tag_of, plain_of, opening_of}
use Rattle.wincode_describe.specs.declared.parsing.Opening.TheVariants as opening
use Rattle.wincode_describe.proofs.ReadSteps.{next_ok, next_err, next_fault, made, sign_taken, sign_left, one_level, no_level, below_is, members_is}
use Rattle.wincode_describe.proofs.ReadSteps.{tuple_is, below_members, below_members_is, word_plain, word_opening, chosen_is, chosen_is_none}
use Rattle.wincode_describe.proofs.ReadSteps.{anywhere, range_read, worded, test_true, test_false, parsed_no_tokens}
use Rattle.wincode_describe.proofs.ReadSteps.{parsed_err, parsed_ok, parsed_more, headed, named_ok, found_of, named_found, named_refused}
use Rattle.wincode_describe.proofs.parsing.+parsing.Goals as goal

pub members_at-returns-in_err-first : goal.members_at-returns-in_err-first
members_at-returns-in_err-first t c =
    let s : List Piece = pieces c.args.source.now in
    let p = err_from_is_err_and c.from_residual.result c.from_residual.ensures.1 in
    rw (members_is s c.args.levels (left c.args.tokens.now), p.1, p.2) (next_err s seen seen _ _ _ _ _ c.in_err-first.ensures)

pub members_at-returns-in_err-goes_on : goal.members_at-returns-in_err-goes_on
members_at-returns-in_err-goes_on t c =
    let s : List Piece = pieces c.args.source.now in
    let p = err_from_is_err_and c.from_residual-in_err-goes_on.result c.from_residual-in_err-goes_on.ensures.1 in
    rw (members_is s c.args.levels (left c.args.tokens.now), p.1, p.2) (next_ok s s seen seen _ c.in_ok-first.first _ _ _ _ c.in_ok-first.ensures
    (next_fault s (λ b. b) seen _ _ _ _ _ c.in_err-goes_on.ensures))

pub members_at-returns-then-not-branch : goal.members_at-returns-then-not-branch
members_at-returns-then-not-branch t c =
    let s : List Piece = pieces c.args.source.now in
    let e : c.in_ok-goes_on.field-0 ≡ false = search rules in
    rw (members_is s c.args.levels (left c.args.tokens.now)) (next_ok s s seen seen _ c.in_ok-first.first _ _ _ _ c.in_ok-first.ensures
    (next_ok [] s (λ b. b) seen _ c.in_ok-goes_on.field-0 _ _ _ _ c.in_ok-goes_on.ensures (rw e (refl, refl))))

pub members_at-returns-in_default : goal.members_at-returns-in_default
members_at-returns-in_default t c =
    let s : List Piece = pieces c.args.source.now in
    rw (no_level _ c.args.levels (omega arith)) tt

pub members_at-returns-in_err-others : goal.members_at-returns-in_err-others
members_at-returns-in_err-others t c =
    let s : List Piece = pieces c.args.source.now in
    let p = err_from_is_err_and c.from_residual-in_err-others.result c.from_residual-in_err-others.ensures.1 in
    let e : c.in_ok-goes_on.field-0 ≡ true = search rules in
    let l : c.args.levels ≡ suc c.in-Some.below = below_is _ _ c.in-Some.ensures.0 c.in-Some.ensures.1 in
    rw (members_is s c.args.levels (left c.args.tokens.now), p.1, p.2) (next_ok s s seen seen _ c.in_ok-first.first _ _ _ _ c.in_ok-first.ensures
    (next_ok [] s (λ b. b) seen _ c.in_ok-goes_on.field-0 _ _ _ _ c.in_ok-goes_on.ensures
    (rw (e, below_members_is _ _ _ l) (next_err s seen seen _ _ _ _ _ c.in_err-others.ensures))))

pub members_at-returns : goal.members_at-returns
members_at-returns t c =
    let s : List Piece = pieces c.args.source.now in
    let e : c.in_ok-goes_on.field-0 ≡ true = search rules in
    let l : c.args.levels ≡ suc c.in-Some.below = below_is _ _ c.in-Some.ensures.0 c.in-Some.ensures.1 in
    rw (members_is s c.args.levels (left c.args.tokens.now)) (next_ok s s seen seen _ c.in_ok-first.first _ _ _ _ c.in_ok-first.ensures
    (next_ok [] s (λ b. b) seen _ c.in_ok-goes_on.field-0 _ _ _ _ c.in_ok-goes_on.ensures
    (rw (e, below_members_is _ _ _ l) (next_ok s s seen seen _ c.in_ok-others.others _ _ _ _ c.in_ok-others.ensures (made s seen _ _ _ c.joined.ensures)))))

pub type_at-returns-in_default : goal.type_at-returns-in_default
type_at-returns-in_default t c =
    let s : List Piece = pieces c.args.source.now in
    rw (no_level _ c.args.levels (omega arith)) tt

pub type_at-returns-then-takes : goal.type_at-returns-then-takes
type_at-returns-then-takes t c =
    let s : List Piece = pieces c.args.source.now in
    let l : c.args.levels ≡ suc c.in-Some.below = below_is _ _ c.in-Some.ensures.0 c.in-Some.ensures.1 in
    rw (one_level _ _ _ l) (sign_taken s seen _ c.takes.result _ _ _ _ _ c.takes.ensures.taken c.if-takes.true c.tuple_at.ensures)

pub type_at-returns-then-takes-2 : goal.type_at-returns-then-takes-2
type_at-returns-then-takes-2 t c =
    let s : List Piece = pieces c.args.source.now in
    let l : c.args.levels ≡ suc c.in-Some.below = below_is _ _ c.in-Some.ensures.0 c.in-Some.ensures.1 in
    rw (one_level _ _ _ l) (sign_left s seen _ (left c.args.tokens.now) c.takes.result (left c.takes.new.self) _
    (array_or_word s (readers s c.in-Some.below)) _ _ c.takes.ensures.taken c.takes.ensures.kept c.if-takes.false
    (sign_taken s seen _ c.takes-2.result _ _ _ _ _ c.takes-2.ensures.taken c.if-takes-2.true c.array_at.ensures))

-- generated

pub array_at-returns-in_err-expect-2 : goal.array_at-returns-in_err-expect-2
array_at-returns-in_err-expect-2 t c =
    let s : List Piece = pieces c.args.source.now in
    let p = err_from_is_err_and c.from_residual-in_err-expect-2.result c.from_residual-in_err-expect-2.ensures.1 in
    rw (p.1, p.2) (next_ok s s seen seen _ c.in_ok-item.item _ _ _ _ c.in_ok-item.ensures
    (next_ok [] s (λ u. u) seen _ c.in_ok-expect.field-0 _ _ _ _ c.in_ok-expect.ensures
    (next_ok [] s (λ n. n) seen _ c.in_ok-n.n _ _ _ _ c.in_ok-n.ensures (next_fault s (λ u. u) seen _ _ _ _ _ c.in_err-expect-2.ensures))))

pub array_at-returns : goal.array_at-returns
array_at-returns t c =
    let s : List Piece = pieces c.args.source.now in
    (next_ok s s seen seen _ c.in_ok-item.item _ _ _ _ c.in_ok-item.ensures
    (next_ok [] s (λ u. u) seen _ c.in_ok-expect.field-0 _ _ _ _ c.in_ok-expect.ensures
    (next_ok [] s (λ n. n) seen _ c.in_ok-n.n _ _ _ _ c.in_ok-n.ensures
    (next_ok [] s (λ u. u) seen _ c.in_ok-expect-2.field-0 _ _ _ _ c.in_ok-expect-2.ensures (made s seen _ _ _ c.array.ensures)))))

pub one_at-returns-in_err-part : goal.one_at-returns-in_err-part
one_at-returns-in_err-part t c =
    let s : List Piece = pieces c.args.source.now in
    let p = err_from_is_err_and c.from_residual-in_err-part.result c.from_residual-in_err-part.ensures.1 in
    rw (p.1, p.2) (next_ok [] s (λ u. u) seen _ c.in_ok-expect.field-0 _ _ _ _ c.in_ok-expect.ensures
    (sign_left s seen _ (left c.expect.new.self) c.takes_word.result (left c.takes_word.new.self) (text_by c.args.holder)
    (held_in (readers s c.args.levels).types (held_form c.args.holder)) _ _ c.takes_word.ensures.taken c.takes_word.ensures.kept c.if-takes_word.false
    (next_err s seen seen _ _ _ _ _ c.in_err-part.ensures)))

pub one_at-returns-in_err-expect-2 : goal.one_at-returns-in_err-expect-2
one_at-returns-in_err-expect-2 t c =
    let s : List Piece = pieces c.args.source.now in
    let p = err_from_is_err_and c.from_residual-in_err-expect-2.result c.from_residual-in_err-expect-2.ensures.1 in
    rw (p.1, p.2) (next_ok [] s (λ u. u) seen _ c.in_ok-expect.field-0 _ _ _ _ c.in_ok-expect.ensures
    (sign_left s seen _ (left c.expect.new.self) c.takes_word.result (left c.takes_word.new.self) (text_by c.args.holder)
    (held_in (readers s c.args.levels).types (held_form c.args.holder)) _ _ c.takes_word.ensures.taken c.takes_word.ensures.kept c.if-takes_word.false
    (next_ok s s seen seen _ c.in_ok-part.part _ _ _ _ c.in_ok-part.ensures (next_fault s (λ u. u) seen _ _ _ _ _ c.in_err-expect-2.ensures))))

pub one_at-returns-then-takes_word : goal.one_at-returns-then-takes_word
one_at-returns-then-takes_word t c =
    let s : List Piece = pieces c.args.source.now in
    next_ok [] s (λ u. u) seen _ c.in_ok-expect.field-0 _ _ _ _ c.in_ok-expect.ensures
    (sign_taken s seen _ c.takes_word.result _ _ _ _ _ c.takes_word.ensures.taken c.if-takes_word.true (anywhere s seen _ _ _ c.text_at.ensures))

pub one_at-returns : goal.one_at-returns
one_at-returns t c =
    let s : List Piece = pieces c.args.source.now in
    next_ok [] s (λ u. u) seen _ c.in_ok-expect.field-0 _ _ _ _ c.in_ok-expect.ensures
    (sign_left s seen _ (left c.expect.new.self) c.takes_word.result (left c.takes_word.new.self) (text_by c.args.holder)
    (held_in (readers s c.args.levels).types (held_form c.args.holder)) _ _ c.takes_word.ensures.taken c.takes_word.ensures.kept c.if-takes_word.false
    (next_ok s s seen seen _ c.in_ok-part.part _ _ _ _ c.in_ok-part.ensures
    (next_ok [] s (λ u. u) seen _ c.in_ok-expect-2.field-0 _ _ _ _ c.in_ok-expect-2.ensures (made s seen _ _ _ c.held.ensures))))

pub two_at-returns-in_err-expect-2 : goal.two_at-returns-in_err-expect-2
two_at-returns-in_err-expect-2 t c =
    let s : List Piece = pieces c.args.source.now in
    let p = err_from_is_err_and c.from_residual-in_err-expect-2.result c.from_residual-in_err-expect-2.ensures.1 in
    rw (p.1, p.2) (next_ok [] s (λ u. u) seen _ c.in_ok-expect.field-0 _ _ _ _ c.in_ok-expect.ensures
    (next_ok s s seen seen _ c.in_ok-first.first _ _ _ _ c.in_ok-first.ensures (next_fault s (λ u. u) seen _ _ _ _ _ c.in_err-expect-2.ensures)))

pub two_at-returns-in_err-second : goal.two_at-returns-in_err-second
two_at-returns-in_err-second t c =
    let s : List Piece = pieces c.args.source.now in
    let p = err_from_is_err_and c.from_residual-in_err-second.result c.from_residual-in_err-second.ensures.1 in
    rw (p.1, p.2) (next_ok [] s (λ u. u) seen _ c.in_ok-expect.field-0 _ _ _ _ c.in_ok-expect.ensures
    (next_ok s s seen seen _ c.in_ok-first.first _ _ _ _ c.in_ok-first.ensures
    (next_ok [] s (λ u. u) seen _ c.in_ok-expect-2.field-0 _ _ _ _ c.in_ok-expect-2.ensures (next_err s seen seen _ _ _ _ _ c.in_err-second.ensures))))

pub two_at-returns-in_err-expect-3 : goal.two_at-returns-in_err-expect-3
two_at-returns-in_err-expect-3 t c =
    let s : List Piece = pieces c.args.source.now in
    let p = err_from_is_err_and c.from_residual-in_err-expect-3.result c.from_residual-in_err-expect-3.ensures.1 in
    rw (p.1, p.2) (next_ok [] s (λ u. u) seen _ c.in_ok-expect.field-0 _ _ _ _ c.in_ok-expect.ensures
    (next_ok s s seen seen _ c.in_ok-first.first _ _ _ _ c.in_ok-first.ensures
    (next_ok [] s (λ u. u) seen _ c.in_ok-expect-2.field-0 _ _ _ _ c.in_ok-expect-2.ensures
    (next_ok s s seen seen _ c.in_ok-second.second _ _ _ _ c.in_ok-second.ensures (next_fault s (λ u. u) seen _ _ _ _ _ c.in_err-expect-3.ensures)))))

pub two_at-returns : goal.two_at-returns
two_at-returns t c =
    let s : List Piece = pieces c.args.source.now in
    (next_ok [] s (λ u. u) seen _ c.in_ok-expect.field-0 _ _ _ _ c.in_ok-expect.ensures
    (next_ok s s seen seen _ c.in_ok-first.first _ _ _ _ c.in_ok-first.ensures
    (next_ok [] s (λ u. u) seen _ c.in_ok-expect-2.field-0 _ _ _ _ c.in_ok-expect-2.ensures
    (next_ok s s seen seen _ c.in_ok-second.second _ _ _ _ c.in_ok-second.ensures
    (next_ok [] s (λ u. u) seen _ c.in_ok-expect-3.field-0 _ _ _ _ c.in_ok-expect-3.ensures (made s seen _ _ _ c.paired.ensures))))))

pub short_at-returns-in_err-expect-2 : goal.short_at-returns-in_err-expect-2
short_at-returns-in_err-expect-2 t c =
    let s : List Piece = pieces c.args.source.now in
    let e : bytes_eq (string_bytes c.in_ok-word.word) (codes "Vec") ≡ true = search rules in
    let p = err_from_is_err_and c.from_residual-in_err-expect-2.result c.from_residual-in_err-expect-2.ensures.1 in
    rw (p.1, p.2) (next_ok [] s string_bytes seen _ c.in_ok-word.word _ _ _ _ c.in_ok-word.ensures
    (test_true s seen _ _ _ _ _ e (next_ok [] s (λ u. u) seen _ c.in_ok-expect.field-0 _ _ _ _ c.in_ok-expect.ensures
    (next_ok s s seen seen _ c.in_ok-item.item _ _ _ _ c.in_ok-item.ensures (next_fault s (λ u. u) seen _ _ _ _ _ c.in_err-expect-2.ensures)))))

pub tuple_at-returns-then-takes : goal.tuple_at-returns-then-takes
tuple_at-returns-then-takes t c =
    let s : List Piece = pieces c.args.source.now in
    rw (tuple_is s c.args.levels (left c.args.tokens.now)) (sign_taken s seen _ c.takes.result _ _ _ _ _ c.takes.ensures.taken c.if-takes.true (refl, refl))

pub tuple_at-returns-in_err-first : goal.tuple_at-returns-in_err-first
tuple_at-returns-in_err-first t c =
    let s : List Piece = pieces c.args.source.now in
    let p = err_from_is_err_and c.from_residual.result c.from_residual.ensures.1 in
    rw (tuple_is s c.args.levels (left c.args.tokens.now), p.1, p.2) (sign_left s seen _ (left c.args.tokens.now) c.takes.result (left c.takes.new.self)
    _ (several_by (readers s c.args.levels).types (below_members s c.args.levels)) _ _ c.takes.ensures.taken c.takes.ensures.kept c.if-takes.false
    (next_err s seen seen _ _ _ _ _ c.in_err-first.ensures))

pub tuple_at-returns-in_err-expect : goal.tuple_at-returns-in_err-expect
tuple_at-returns-in_err-expect t c =
    let s : List Piece = pieces c.args.source.now in
    let p = err_from_is_err_and c.from_residual-in_err-expect.result c.from_residual-in_err-expect.ensures.1 in
    rw (tuple_is s c.args.levels (left c.args.tokens.now), p.1, p.2) (sign_left s seen _ (left c.args.tokens.now) c.takes.result (left c.takes.new.self)
    _ (several_by (readers s c.args.levels).types (below_members s c.args.levels)) _ _ c.takes.ensures.taken c.takes.ensures.kept c.if-takes.false
    (next_ok s s seen seen _ c.in_ok-first.first _ _ _ _ c.in_ok-first.ensures (next_fault s (λ u. u) seen _ _ _ _ _ c.in_err-expect.ensures)))

pub tuple_at-returns-in_default : goal.tuple_at-returns-in_default
tuple_at-returns-in_default t c =
    let s : List Piece = pieces c.args.source.now in
    rw (no_level _ c.args.levels (omega arith)) (sign_left s seen _ (left c.args.tokens.now) c.takes.result (left c.takes.new.self) _
    (several_by unread unread) _ _ c.takes.ensures.taken c.takes.ensures.kept c.if-takes.false tt)

pub tuple_at-returns-in_err-others : goal.tuple_at-returns-in_err-others
tuple_at-returns-in_err-others t c =
    let s : List Piece = pieces c.args.source.now in
    let l : c.args.levels ≡ suc c.in-Some.below = below_is _ _ c.in-Some.ensures.0 c.in-Some.ensures.1 in
    let p = err_from_is_err_and c.from_residual-in_err-others.result c.from_residual-in_err-others.ensures.1 in
    rw (tuple_is s c.args.levels (left c.args.tokens.now), p.1, p.2) (sign_left s seen _ (left c.args.tokens.now) c.takes.result (left c.takes.new.self)
    _ (several_by (readers s c.args.levels).types (below_members s c.args.levels)) _ _ c.takes.ensures.taken c.takes.ensures.kept c.if-takes.false
    (next_ok s s seen seen _ c.in_ok-first.first _ _ _ _ c.in_ok-first.ensures
    (next_ok [] s (λ u. u) seen _ c.in_ok-expect.field-0 _ _ _ _ c.in_ok-expect.ensures
    (rw (below_members_is _ _ _ l) (next_err s seen seen _ _ _ _ _ c.in_err-others.ensures)))))

pub tuple_at-returns : goal.tuple_at-returns
tuple_at-returns t c =
    let s : List Piece = pieces c.args.source.now in
    let l : c.args.levels ≡ suc c.in-Some.below = below_is _ _ c.in-Some.ensures.0 c.in-Some.ensures.1 in
    rw (tuple_is s c.args.levels (left c.args.tokens.now)) (sign_left s seen _ (left c.args.tokens.now) c.takes.result (left c.takes.new.self) _
    (several_by (readers s c.args.levels).types (below_members s c.args.levels)) _ _ c.takes.ensures.taken c.takes.ensures.kept c.if-takes.false
    (next_ok s s seen seen _ c.in_ok-first.first _ _ _ _ c.in_ok-first.ensures
    (next_ok [] s (λ u. u) seen _ c.in_ok-expect.field-0 _ _ _ _ c.in_ok-expect.ensures
    (rw (below_members_is _ _ _ l) (next_ok s s seen seen _ c.in_ok-others.others _ _ _ _ c.in_ok-others.ensures (made s seen _ _ _ c.tuple.ensures))))))

pub fields_at-returns-in_default : goal.fields_at-returns-in_default
fields_at-returns-in_default t c =
    let s : List Piece = pieces c.args.source.now in
    rw (no_level _ c.args.levels (omega arith)) tt

pub fields_at-returns-in_err-expect : goal.fields_at-returns-in_err-expect
fields_at-returns-in_err-expect t c =
    let s : List Piece = pieces c.args.source.now in
    let l : c.args.levels ≡ suc c.in-Some.below = below_is _ _ c.in-Some.ensures.0 c.in-Some.ensures.1 in
    let p = err_from_is_err_and c.from_residual-in_err-expect.result c.from_residual-in_err-expect.ensures.1 in
    rw (one_level _ _ _ l, p.1, p.2) (headed s seen _ c.takes_head-note.result _ _ _ _ c.takes_head-note.ensures (λ none.
    (next_ok [] s string_bytes seen _ c.in_ok-name.name _ _ _ _ c.in_ok-name.ensures
    (next_fault s (λ u. u) seen _ _ _ _ _ c.in_err-expect.ensures))))

pub fields_at-returns-in_err-content : goal.fields_at-returns-in_err-content
fields_at-returns-in_err-content t c =
    let s : List Piece = pieces c.args.source.now in
    let l : c.args.levels ≡ suc c.in-Some.below = below_is _ _ c.in-Some.ensures.0 c.in-Some.ensures.1 in
    let p = err_from_is_err_and c.from_residual-in_err-content.result c.from_residual-in_err-content.ensures.1 in
    rw (one_level _ _ _ l, p.1, p.2) (headed s seen _ c.takes_head-note.result _ _ _ _ c.takes_head-note.ensures (λ none.
    (next_ok [] s string_bytes seen _ c.in_ok-name.name _ _ _ _ c.in_ok-name.ensures
    (next_ok [] s (λ u. u) seen _ c.in_ok-expect.field-0 _ _ _ _ c.in_ok-expect.ensures (next_err s seen seen _ _ _ _ _ (c.in_err-content.ensures none))))))

pub fields_at-returns-in_err-goes_on : goal.fields_at-returns-in_err-goes_on
fields_at-returns-in_err-goes_on t c =
    let s : List Piece = pieces c.args.source.now in
    let l : c.args.levels ≡ suc c.in-Some.below = below_is _ _ c.in-Some.ensures.0 c.in-Some.ensures.1 in
    let p = err_from_is_err_and c.from_residual-in_err-goes_on.result c.from_residual-in_err-goes_on.ensures.1 in
    rw (one_level _ _ _ l, p.1, p.2) (headed s seen _ c.takes_head-note.result _ _ _ _ c.takes_head-note.ensures (λ none.
    (next_ok [] s string_bytes seen _ c.in_ok-name.name _ _ _ _ c.in_ok-name.ensures
    (next_ok [] s (λ u. u) seen _ c.in_ok-expect.field-0 _ _ _ _ c.in_ok-expect.ensures
    (next_ok s s seen seen _ c.in_ok-content.content _ _ _ _ (c.in_ok-content.ensures none) (next_fault s (λ b. b) seen _ _ _ _ _ c.in_err-goes_on.ensures))))))

pub fields_at-returns-then-not-branch : goal.fields_at-returns-then-not-branch
fields_at-returns-then-not-branch t c =
    let s : List Piece = pieces c.args.source.now in
    let l : c.args.levels ≡ suc c.in-Some.below = below_is _ _ c.in-Some.ensures.0 c.in-Some.ensures.1 in
    let e : c.in_ok-goes_on.field-0 ≡ false = search rules in
    rw (one_level _ _ _ l) (headed s seen _ c.takes_head-note.result _ _ _ _ c.takes_head-note.ensures (λ none.
    (next_ok [] s string_bytes seen _ c.in_ok-name.name _ _ _ _ c.in_ok-name.ensures
    (next_ok [] s (λ u. u) seen _ c.in_ok-expect.field-0 _ _ _ _ c.in_ok-expect.ensures
    (next_ok s s seen seen _ c.in_ok-content.content _ _ _ _ (c.in_ok-content.ensures none)
    (next_ok [] s (λ b. b) seen _ c.in_ok-goes_on.field-0 _ _ _ _ c.in_ok-goes_on.ensures (test_false s seen _ _ _ _ _ e (c.in_ok-field.ensures, refl))))))))

pub fields_at-returns-in_err-others : goal.fields_at-returns-in_err-others
fields_at-returns-in_err-others t c =
    let s : List Piece = pieces c.args.source.now in
    let l : c.args.levels ≡ suc c.in-Some.below = below_is _ _ c.in-Some.ensures.0 c.in-Some.ensures.1 in
    let e : c.in_ok-goes_on.field-0 ≡ true = search rules in
    let p = err_from_is_err_and c.from_residual-in_err-others.result c.from_residual-in_err-others.ensures.1 in
    rw (one_level _ _ _ l, p.1, p.2) (headed s seen _ c.takes_head-note.result _ _ _ _ c.takes_head-note.ensures (λ none.
    (next_ok [] s string_bytes seen _ c.in_ok-name.name _ _ _ _ c.in_ok-name.ensures
    (next_ok [] s (λ u. u) seen _ c.in_ok-expect.field-0 _ _ _ _ c.in_ok-expect.ensures
    (next_ok s s seen seen _ c.in_ok-content.content _ _ _ _ (c.in_ok-content.ensures none)
    (next_ok [] s (λ b. b) seen _ c.in_ok-goes_on.field-0 _ _ _ _ c.in_ok-goes_on.ensures
    (test_true s seen _ _ _ _ _ e (next_err s seen seen _ _ _ _ _ c.in_err-others.ensures))))))))

pub fields_at-returns : goal.fields_at-returns
fields_at-returns t c =
    let s : List Piece = pieces c.args.source.now in
    let l : c.args.levels ≡ suc c.in-Some.below = below_is _ _ c.in-Some.ensures.0 c.in-Some.ensures.1 in
    let e : c.in_ok-goes_on.field-0 ≡ true = search rules in
    rw (one_level _ _ _ l) (headed s seen _ c.takes_head-note.result _ _ _ _ c.takes_head-note.ensures (λ none.
    (next_ok [] s string_bytes seen _ c.in_ok-name.name _ _ _ _ c.in_ok-name.ensures
    (next_ok [] s (λ u. u) seen _ c.in_ok-expect.field-0 _ _ _ _ c.in_ok-expect.ensures
    (next_ok s s seen seen _ c.in_ok-content.content _ _ _ _ (c.in_ok-content.ensures none)
    (next_ok [] s (λ b. b) seen _ c.in_ok-goes_on.field-0 _ _ _ _ c.in_ok-goes_on.ensures
    (test_true s seen _ _ _ _ _ e (next_ok s s seen seen _ c.in_ok-others.others _ _ _ _ c.in_ok-others.ensures
    (made s seen _ _ _ (rw c.in_ok-field.ensures at c.joined.ensures))))))))))

pub cases_at-returns-in_default : goal.cases_at-returns-in_default
cases_at-returns-in_default t c =
    let s : List Piece = pieces c.args.source.now in
    rw (no_level _ c.args.levels (omega arith)) tt

pub cases_at-returns-in_err-tag : goal.cases_at-returns-in_err-tag
cases_at-returns-in_err-tag t c =
    let s : List Piece = pieces c.args.source.now in
    let l : c.args.levels ≡ suc c.in-Some.below = below_is _ _ c.in-Some.ensures.0 c.in-Some.ensures.1 in
    let p = err_from_is_err_and c.from_residual.result c.from_residual.ensures.1 in
    rw (one_level _ _ _ l, p.1, p.2) (next_fault s (λ n. n) seen_cases _ _ _ _ _ c.in_err-tag.ensures)

pub cases_at-returns-then-tag-greatest : goal.cases_at-returns-then-tag-greatest
cases_at-returns-then-tag-greatest t c =
    let s : List Piece = pieces c.args.source.now in
    let l : c.args.levels ≡ suc c.in-Some.below = below_is _ _ c.in-Some.ensures.0 c.in-Some.ensures.1 in
    rw (one_level _ _ _ l) (next_ok [] s (λ n. n) seen_cases _ c.in_ok-tag.tag _ _ _ _ c.in_ok-tag.ensures
    (test_true s seen_cases _ _ _ _ _ (lt-ltb _ _ c.if-tag-greatest.true) tt))

pub cases_at-returns-in_err-expect : goal.cases_at-returns-in_err-expect
cases_at-returns-in_err-expect t c =
    let s : List Piece = pieces c.args.source.now in
    let l : c.args.levels ≡ suc c.in-Some.below = below_is _ _ c.in-Some.ensures.0 c.in-Some.ensures.1 in
    let p = err_from_is_err_and c.from_residual-in_err-expect.result c.from_residual-in_err-expect.ensures.1 in
    rw (one_level _ _ _ l, p.1, p.2) (next_ok [] s (λ n. n) seen_cases _ c.in_ok-tag.tag _ _ _ _ c.in_ok-tag.ensures
    (test_false s seen_cases _ _ _ _ _ (le-ltb _ _ c.if-tag-greatest.false) (next_fault s (λ u. u) seen_cases _ _ _ _ _ c.in_err-expect.ensures)))

pub cases_at-returns-in_err-content : goal.cases_at-returns-in_err-content
cases_at-returns-in_err-content t c =
    let s : List Piece = pieces c.args.source.now in
    let l : c.args.levels ≡ suc c.in-Some.below = below_is _ _ c.in-Some.ensures.0 c.in-Some.ensures.1 in
    let p = err_from_is_err_and c.from_residual-in_err-content.result c.from_residual-in_err-content.ensures.1 in
    rw (one_level _ _ _ l, p.1, p.2) (next_ok [] s (λ n. n) seen_cases _ c.in_ok-tag.tag _ _ _ _ c.in_ok-tag.ensures
    (test_false s seen_cases _ _ _ _ _ (le-ltb _ _ c.if-tag-greatest.false)
    (next_ok [] s (λ u. u) seen_cases _ c.in_ok-expect.field-0 _ _ _ _ c.in_ok-expect.ensures (next_err s seen seen_cases _ _ _ _ _ c.in_err-content.ensures))))

pub cases_at-returns-in_err-goes_on : goal.cases_at-returns-in_err-goes_on
cases_at-returns-in_err-goes_on t c =
    let s : List Piece = pieces c.args.source.now in
    let l : c.args.levels ≡ suc c.in-Some.below = below_is _ _ c.in-Some.ensures.0 c.in-Some.ensures.1 in
    let p = err_from_is_err_and c.from_residual-in_err-goes_on.result c.from_residual-in_err-goes_on.ensures.1 in
    rw (one_level _ _ _ l, p.1, p.2) (next_ok [] s (λ n. n) seen_cases _ c.in_ok-tag.tag _ _ _ _ c.in_ok-tag.ensures
    (test_false s seen_cases _ _ _ _ _ (le-ltb _ _ c.if-tag-greatest.false)
    (next_ok [] s (λ u. u) seen_cases _ c.in_ok-expect.field-0 _ _ _ _ c.in_ok-expect.ensures
    (next_ok s s seen seen_cases _ c.in_ok-content.content _ _ _ _ c.in_ok-content.ensures (next_fault s (λ b. b) seen_cases _ _ _ _ _ c.in_err-goes_on.ensures)))))

pub cases_at-returns-then-not-branch : goal.cases_at-returns-then-not-branch
cases_at-returns-then-not-branch t c =
    let s : List Piece = pieces c.args.source.now in
    let l : c.args.levels ≡ suc c.in-Some.below = below_is _ _ c.in-Some.ensures.0 c.in-Some.ensures.1 in
    let e : c.in_ok-goes_on.field-0 ≡ false = search rules in
    rw (one_level _ _ _ l) (next_ok [] s (λ n. n) seen_cases _ c.in_ok-tag.tag _ _ _ _ c.in_ok-tag.ensures
    (test_false s seen_cases _ _ _ _ _ (le-ltb _ _ c.if-tag-greatest.false)
    (next_ok [] s (λ u. u) seen_cases _ c.in_ok-expect.field-0 _ _ _ _ c.in_ok-expect.ensures
    (next_ok s s seen seen_cases _ c.in_ok-content.content _ _ _ _ c.in_ok-content.ensures
    (next_ok [] s (λ b. b) seen_cases _ c.in_ok-goes_on.field-0 _ _ _ _ c.in_ok-goes_on.ensures
    (test_false s seen_cases _ _ _ _ _ e (made s seen_cases _ _ _ c.last_case.ensures)))))))

pub cases_at-returns-in_err-others : goal.cases_at-returns-in_err-others
cases_at-returns-in_err-others t c =
    let s : List Piece = pieces c.args.source.now in
    let l : c.args.levels ≡ suc c.in-Some.below = below_is _ _ c.in-Some.ensures.0 c.in-Some.ensures.1 in
    let e : c.in_ok-goes_on.field-0 ≡ true = search rules in
    let p = err_from_is_err_and c.from_residual-in_err-others.result c.from_residual-in_err-others.ensures.1 in
    rw (one_level _ _ _ l, p.1, p.2) (next_ok [] s (λ n. n) seen_cases _ c.in_ok-tag.tag _ _ _ _ c.in_ok-tag.ensures
    (test_false s seen_cases _ _ _ _ _ (le-ltb _ _ c.if-tag-greatest.false)
    (next_ok [] s (λ u. u) seen_cases _ c.in_ok-expect.field-0 _ _ _ _ c.in_ok-expect.ensures
    (next_ok s s seen seen_cases _ c.in_ok-content.content _ _ _ _ c.in_ok-content.ensures
    (next_ok [] s (λ b. b) seen_cases _ c.in_ok-goes_on.field-0 _ _ _ _ c.in_ok-goes_on.ensures
    (test_true s seen_cases _ _ _ _ _ e (next_err s seen_cases seen_cases _ _ _ _ _ c.in_err-others.ensures)))))))

pub cases_at-returns-then-has_case : goal.cases_at-returns-then-has_case
cases_at-returns-then-has_case t c =
    let s : List Piece = pieces c.args.source.now in
    let l : c.args.levels ≡ suc c.in-Some.below = below_is _ _ c.in-Some.ensures.0 c.in-Some.ensures.1 in
    let e : c.in_ok-goes_on.field-0 ≡ true = search rules in
    rw (one_level _ _ _ l) (next_ok [] s (λ n. n) seen_cases _ c.in_ok-tag.tag _ _ _ _ c.in_ok-tag.ensures
    (test_false s seen_cases _ _ _ _ _ (le-ltb _ _ c.if-tag-greatest.false)
    (next_ok [] s (λ u. u) seen_cases _ c.in_ok-expect.field-0 _ _ _ _ c.in_ok-expect.ensures
    (next_ok s s seen seen_cases _ c.in_ok-content.content _ _ _ _ c.in_ok-content.ensures
    (next_ok [] s (λ b. b) seen_cases _ c.in_ok-goes_on.field-0 _ _ _ _ c.in_ok-goes_on.ensures
    (test_true s seen_cases _ _ _ _ _ e (next_ok s s seen_cases seen_cases _ c.in_ok-others.others _ _ _ _ c.in_ok-others.ensures
    (test_true s seen_cases _ _ _ _ _ (sym c.has_case.ensures ∙ c.if-has_case.true) tt))))))))

pub cases_at-returns : goal.cases_at-returns
cases_at-returns t c =
    let s : List Piece = pieces c.args.source.now in
    let l : c.args.levels ≡ suc c.in-Some.below = below_is _ _ c.in-Some.ensures.0 c.in-Some.ensures.1 in
    let e : c.in_ok-goes_on.field-0 ≡ true = search rules in
    rw (one_level _ _ _ l) (next_ok [] s (λ n. n) seen_cases _ c.in_ok-tag.tag _ _ _ _ c.in_ok-tag.ensures
    (test_false s seen_cases _ _ _ _ _ (le-ltb _ _ c.if-tag-greatest.false)
    (next_ok [] s (λ u. u) seen_cases _ c.in_ok-expect.field-0 _ _ _ _ c.in_ok-expect.ensures
    (next_ok s s seen seen_cases _ c.in_ok-content.content _ _ _ _ c.in_ok-content.ensures
    (next_ok [] s (λ b. b) seen_cases _ c.in_ok-goes_on.field-0 _ _ _ _ c.in_ok-goes_on.ensures
    (test_true s seen_cases _ _ _ _ _ e (next_ok s s seen_cases seen_cases _ c.in_ok-others.others _ _ _ _ c.in_ok-others.ensures
    (test_false s seen_cases _ _ _ _ _ (sym c.has_case.ensures ∙ c.if-has_case.false) (made s seen_cases _ _ _ c.one_case.ensures)))))))))

pub enum_at-returns-in_default : goal.enum_at-returns-in_default
enum_at-returns-in_default t c =
    let s : List Piece = pieces c.args.source.now in
    (next_ok [] s string_bytes seen _ c.in_ok-word.word _ _ _ _ c.in_ok-word.ensures
    (chosen_is_none s seen _ _ _ _ (ap tag_of (sym c.as_str.ensures.value) ∙ sym c.tag_size.ensures ∙ c.in_default.is)))

pub enum_at-returns-in_err-expect : goal.enum_at-returns-in_err-expect
enum_at-returns-in_err-expect t c =
    let s : List Piece = pieces c.args.source.now in
    let p = err_from_is_err_and c.from_residual-in_err-expect.result c.from_residual-in_err-expect.ensures.1 in
    rw (p.1, p.2) (next_ok [] s string_bytes seen _ c.in_ok-word.word _ _ _ _ c.in_ok-word.ensures
    (chosen_is s seen _ c.in-Some.size _ _ _ (ap tag_of (sym c.as_str.ensures.value) ∙ sym c.tag_size.ensures ∙ c.in-Some.is)
    (next_fault s (λ u. u) seen _ _ _ _ _ c.in_err-expect.ensures)))

pub type_at-returns-in-Some-plain : goal.type_at-returns-in-Some-plain
type_at-returns-in-Some-plain t c =
    let s : List Piece = pieces c.args.source.now in
    let l : c.args.levels ≡ suc c.in-Some.below = below_is _ _ c.in-Some.ensures.0 c.in-Some.ensures.1 in
    rw (one_level _ _ _ l) (worded s (readers s c.in-Some.below) (left c.args.tokens.now) (left c.takes.new.self) (left c.takes-2.new.self) c.takes.result
    c.takes-2.result string_bytes c.in_ok-word.word (left c.word.new.self) _ _ c.takes.ensures.taken c.takes.ensures.kept c.if-takes.false
    c.takes-2.ensures.taken c.takes-2.ensures.kept c.if-takes-2.false c.in_ok-word.ensures
    (word_plain s (readers s c.in-Some.below) (string_bytes c.in_ok-word.word) (left c.word.new.self) c.in-Some-plain.described
    (ap plain_of (sym c.as_str.ensures.value) ∙ sym c.plain.ensures ∙ ap (option_map seen) c.in-Some-plain.is)))

pub type_at-returns-in-Struct : goal.type_at-returns-in-Struct
type_at-returns-in-Struct t c =
    let s : List Piece = pieces c.args.source.now in
    let l : c.args.levels ≡ suc c.in-Some.below = below_is _ _ c.in-Some.ensures.0 c.in-Some.ensures.1 in
    let p = ap plain_of (sym c.as_str.ensures.value) ∙ sym c.plain.ensures ∙ ap (option_map seen) c.in_default-plain.is in
    let q = ap opening_of (sym c.as_str-2.ensures.value) ∙ sym c.opened_by.ensures ∙ c.in-Struct.is in
    rw (one_level _ _ _ l) (worded s (readers s c.in-Some.below) (left c.args.tokens.now) (left c.takes.new.self) (left c.takes-2.new.self) c.takes.result
    c.takes-2.result string_bytes c.in_ok-word.word (left c.word.new.self) _ _ c.takes.ensures.taken c.takes.ensures.kept c.if-takes.false
    c.takes-2.ensures.taken c.takes-2.ensures.kept c.if-takes-2.false c.in_ok-word.ensures
    (word_opening s (readers s c.in-Some.below) (string_bytes c.in_ok-word.word) (left c.word.new.self) (opening.Struct) _ _ p q c.struct_at.ensures))

pub type_at-returns-in-Enum : goal.type_at-returns-in-Enum
type_at-returns-in-Enum t c =
    let s : List Piece = pieces c.args.source.now in
    let l : c.args.levels ≡ suc c.in-Some.below = below_is _ _ c.in-Some.ensures.0 c.in-Some.ensures.1 in
    let p = ap plain_of (sym c.as_str.ensures.value) ∙ sym c.plain.ensures ∙ ap (option_map seen) c.in_default-plain.is in
    let q = ap opening_of (sym c.as_str-2.ensures.value) ∙ sym c.opened_by.ensures ∙ c.in-Enum.is in
    rw (one_level _ _ _ l) (worded s (readers s c.in-Some.below) (left c.args.tokens.now) (left c.takes.new.self) (left c.takes-2.new.self) c.takes.result
    c.takes-2.result string_bytes c.in_ok-word.word (left c.word.new.self) _ _ c.takes.ensures.taken c.takes.ensures.kept c.if-takes.false
    c.takes-2.ensures.taken c.takes-2.ensures.kept c.if-takes-2.false c.in_ok-word.ensures
    (word_opening s (readers s c.in-Some.below) (string_bytes c.in_ok-word.word) (left c.word.new.self) (opening.Enum) _ _ p q c.enum_at.ensures))

pub type_at-returns-in-ShortList : goal.type_at-returns-in-ShortList
type_at-returns-in-ShortList t c =
    let s : List Piece = pieces c.args.source.now in
    let l : c.args.levels ≡ suc c.in-Some.below = below_is _ _ c.in-Some.ensures.0 c.in-Some.ensures.1 in
    let p = ap plain_of (sym c.as_str.ensures.value) ∙ sym c.plain.ensures ∙ ap (option_map seen) c.in_default-plain.is in
    let q = ap opening_of (sym c.as_str-2.ensures.value) ∙ sym c.opened_by.ensures ∙ c.in-ShortList.is in
    rw (one_level _ _ _ l) (worded s (readers s c.in-Some.below) (left c.args.tokens.now) (left c.takes.new.self) (left c.takes-2.new.self) c.takes.result
    c.takes-2.result string_bytes c.in_ok-word.word (left c.word.new.self) _ _ c.takes.ensures.taken c.takes.ensures.kept c.if-takes.false
    c.takes-2.ensures.taken c.takes-2.ensures.kept c.if-takes-2.false c.in_ok-word.ensures
    (word_opening s (readers s c.in-Some.below) (string_bytes c.in_ok-word.word) (left c.word.new.self) (opening.ShortList) _ _ p q c.short_at.ensures))

pub type_at-returns-in-Two : goal.type_at-returns-in-Two
type_at-returns-in-Two t c =
    let s : List Piece = pieces c.args.source.now in
    let l : c.args.levels ≡ suc c.in-Some.below = below_is _ _ c.in-Some.ensures.0 c.in-Some.ensures.1 in
    let p = ap plain_of (sym c.as_str.ensures.value) ∙ sym c.plain.ensures ∙ ap (option_map seen) c.in_default-plain.is in
    let q = ap opening_of (sym c.as_str-2.ensures.value) ∙ sym c.opened_by.ensures ∙ c.in-Two.is in
    rw (one_level _ _ _ l) (worded s (readers s c.in-Some.below) (left c.args.tokens.now) (left c.takes.new.self) (left c.takes-2.new.self) c.takes.result
    c.takes-2.result string_bytes c.in_ok-word.word (left c.word.new.self) _ _ c.takes.ensures.taken c.takes.ensures.kept c.if-takes.false
    c.takes-2.ensures.taken c.takes-2.ensures.kept c.if-takes-2.false c.in_ok-word.ensures
    (word_opening s (readers s c.in-Some.below) (string_bytes c.in_ok-word.word) (left c.word.new.self) (opening.Two c.in-Two.pair) _ _ p q c.two_at.ensures))

pub type_at-returns-in-One : goal.type_at-returns-in-One
type_at-returns-in-One t c =
    let s : List Piece = pieces c.args.source.now in
    let l : c.args.levels ≡ suc c.in-Some.below = below_is _ _ c.in-Some.ensures.0 c.in-Some.ensures.1 in
    let p = ap plain_of (sym c.as_str.ensures.value) ∙ sym c.plain.ensures ∙ ap (option_map seen) c.in_default-plain.is in
    let q = ap opening_of (sym c.as_str-2.ensures.value) ∙ sym c.opened_by.ensures ∙ c.in-One.is in
    rw (one_level _ _ _ l) (worded s (readers s c.in-Some.below) (left c.args.tokens.now) (left c.takes.new.self) (left c.takes-2.new.self) c.takes.result
    c.takes-2.result string_bytes c.in_ok-word.word (left c.word.new.self) _ _ c.takes.ensures.taken c.takes.ensures.kept c.if-takes.false
    c.takes-2.ensures.taken c.takes-2.ensures.kept c.if-takes-2.false c.in_ok-word.ensures
    (word_opening s (readers s c.in-Some.below) (string_bytes c.in_ok-word.word) (left c.word.new.self) (opening.One c.in-One.holder) _ _ p q c.one_at.ensures))

pub type_at-returns-in-Container : goal.type_at-returns-in-Container
type_at-returns-in-Container t c =
    let s : List Piece = pieces c.args.source.now in
    let l : c.args.levels ≡ suc c.in-Some.below = below_is _ _ c.in-Some.ensures.0 c.in-Some.ensures.1 in
    let p = ap plain_of (sym c.as_str.ensures.value) ∙ sym c.plain.ensures ∙ ap (option_map seen) c.in_default-plain.is in
    let q = ap opening_of (sym c.as_str-2.ensures.value) ∙ sym c.opened_by.ensures ∙ c.in-Container.is in
    rw (one_level _ _ _ l) (worded s (readers s c.in-Some.below) (left c.args.tokens.now) (left c.takes.new.self) (left c.takes-2.new.self) c.takes.result
    c.takes-2.result string_bytes c.in_ok-word.word (left c.word.new.self) _ _ c.takes.ensures.taken c.takes.ensures.kept c.if-takes.false
    c.takes-2.ensures.taken c.takes-2.ensures.kept c.if-takes-2.false c.in_ok-word.ensures
    (word_opening s (readers s c.in-Some.below) (string_bytes c.in_ok-word.word) (left c.word.new.self) (opening.Container) _ _ p q c.container_at.ensures))

pub type_at-returns-in-Range : goal.type_at-returns-in-Range
type_at-returns-in-Range t c =
    let s : List Piece = pieces c.args.source.now in
    let l : c.args.levels ≡ suc c.in-Some.below = below_is _ _ c.in-Some.ensures.0 c.in-Some.ensures.1 in
    let p = ap plain_of (sym c.as_str.ensures.value) ∙ sym c.plain.ensures ∙ ap (option_map seen) c.in_default-plain.is in
    let q = ap opening_of (sym c.as_str-2.ensures.value) ∙ sym c.opened_by.ensures ∙ c.in-Range.is in
    rw (one_level _ _ _ l) (worded s (readers s c.in-Some.below) (left c.args.tokens.now) (left c.takes.new.self) (left c.takes-2.new.self) c.takes.result
    c.takes-2.result string_bytes c.in_ok-word.word (left c.word.new.self) _ _ c.takes.ensures.taken c.takes.ensures.kept c.if-takes.false
    c.takes-2.ensures.taken c.takes-2.ensures.kept c.if-takes-2.false c.in_ok-word.ensures
    (word_opening s (readers s c.in-Some.below) (string_bytes c.in_ok-word.word) (left c.word.new.self) (opening.Range) _ _ p q
    (range_read s c.in-Some.below (left c.word.new.self) c.range_at.result (left c.range_at.new.tokens) c.range_at.ensures)))

pub type_at-returns-in-Cow : goal.type_at-returns-in-Cow
type_at-returns-in-Cow t c =
    let s : List Piece = pieces c.args.source.now in
    let l : c.args.levels ≡ suc c.in-Some.below = below_is _ _ c.in-Some.ensures.0 c.in-Some.ensures.1 in
    let p = ap plain_of (sym c.as_str.ensures.value) ∙ sym c.plain.ensures ∙ ap (option_map seen) c.in_default-plain.is in
    let q = ap opening_of (sym c.as_str-2.ensures.value) ∙ sym c.opened_by.ensures ∙ c.in-Cow.is in
    rw (one_level _ _ _ l) (worded s (readers s c.in-Some.below) (left c.args.tokens.now) (left c.takes.new.self) (left c.takes-2.new.self) c.takes.result
    c.takes-2.result string_bytes c.in_ok-word.word (left c.word.new.self) _ _ c.takes.ensures.taken c.takes.ensures.kept c.if-takes.false
    c.takes-2.ensures.taken c.takes-2.ensures.kept c.if-takes-2.false c.in_ok-word.ensures
    (word_opening s (readers s c.in-Some.below) (string_bytes c.in_ok-word.word) (left c.word.new.self) (opening.Cow) _ _ p q c.cow_at.ensures))

pub type_at-returns-in-Known : goal.type_at-returns-in-Known
type_at-returns-in-Known t c =
    let s : List Piece = pieces c.args.source.now in
    let l : c.args.levels ≡ suc c.in-Some.below = below_is _ _ c.in-Some.ensures.0 c.in-Some.ensures.1 in
    let p = ap plain_of (sym c.as_str.ensures.value) ∙ sym c.plain.ensures ∙ ap (option_map seen) c.in_default-plain.is in
    let q = ap opening_of (sym c.as_str-2.ensures.value) ∙ sym c.opened_by.ensures ∙ c.in-Known.is in
    rw (one_level _ _ _ l) (worded s (readers s c.in-Some.below) (left c.args.tokens.now) (left c.takes.new.self) (left c.takes-2.new.self) c.takes.result
    c.takes-2.result string_bytes c.in_ok-word.word (left c.word.new.self) _ _ c.takes.ensures.taken c.takes.ensures.kept c.if-takes.false
    c.takes-2.ensures.taken c.takes-2.ensures.kept c.if-takes-2.false c.in_ok-word.ensures
    (word_opening s (readers s c.in-Some.below) (string_bytes c.in_ok-word.word) (left c.word.new.self) (opening.Known c.in-Known.known) _ _ p q (made s seen _ _ _ c.known_type.ensures)))

pub type_at-returns : goal.type_at-returns
type_at-returns t c =
    let s : List Piece = pieces c.args.source.now in
    let l : c.args.levels ≡ suc c.in-Some.below = below_is _ _ c.in-Some.ensures.0 c.in-Some.ensures.1 in
    let p = ap plain_of (sym c.as_str.ensures.value) ∙ sym c.plain.ensures ∙ ap (option_map seen) c.in_default-plain.is in
    let q = ap opening_of (sym c.as_str-2.ensures.value) ∙ sym c.opened_by.ensures ∙ c.in-Name.is in
    rw (one_level _ _ _ l) (worded s (readers s c.in-Some.below) (left c.args.tokens.now) (left c.takes.new.self) (left c.takes-2.new.self) c.takes.result
    c.takes-2.result string_bytes c.in_ok-word.word (left c.word.new.self) _ _ c.takes.ensures.taken c.takes.ensures.kept c.if-takes.false
    c.takes-2.ensures.taken c.takes-2.ensures.kept c.if-takes-2.false c.in_ok-word.ensures
    (word_opening s (readers s c.in-Some.below) (string_bytes c.in_ok-word.word) (left c.word.new.self) (opening.Name) _ _ p q
    (named_ok _ _ _ _ (rw c.as_str-in-Name.ensures.value at c.named_type.ensures))))

pub whole_type-returns-in_err-all : goal.whole_type-returns-in_err-all
whole_type-returns-in_err-all t c =
    let s : List Piece = pieces c.args.source.now in
    let p = err_from_is_err_and c.from_residual.result c.from_residual.ensures.1 in
    rw (p.1, p.2) (parsed_no_tokens s _ c.args.levels _ c.in_err-all.ensures)

pub whole_type-returns-in_err-described : goal.whole_type-returns-in_err-described
whole_type-returns-in_err-described t c =
    let s : List Piece = pieces c.args.source.now in
    let p = err_from_is_err_and c.from_residual-in_err-described.result c.from_residual-in_err-described.ensures.1 in
    let first : left c.new-tokens.result ≡ pieces c.in_ok-all.all.items = c.new-tokens.ensures ∙ ap pieces c.as_slice.ensures.value in
    rw (p.1, p.2) (parsed_err s _ c.in_ok-all.all _ c.args.levels _ _ c.in_ok-all.ensures first c.in_err-described.ensures)

pub whole_type-returns-then-is_empty : goal.whole_type-returns-then-is_empty
whole_type-returns-then-is_empty t c =
    let s : List Piece = pieces c.args.source.now in
    let first : left c.new-tokens.result ≡ pieces c.in_ok-all.all.items = c.new-tokens.ensures ∙ ap pieces c.as_slice.ensures.value in
    parsed_ok s _ c.in_ok-all.all _ c.args.levels c.in_ok-described.described _ c.in_ok-all.ensures first
    c.in_ok-described.ensures (sym c.is_empty.ensures ∙ c.if-is_empty.true)

pub whole_type-returns : goal.whole_type-returns
whole_type-returns t c =
    let s : List Piece = pieces c.args.source.now in
    let first : left c.new-tokens.result ≡ pieces c.in_ok-all.all.items = c.new-tokens.ensures ∙ ap pieces c.as_slice.ensures.value in
    parsed_more s _ c.in_ok-all.all _ c.args.levels c.in_ok-described.described _ _ c.in_ok-all.ensures first
    c.in_ok-described.ensures (sym c.is_empty.ensures ∙ c.if-is_empty.false)

-- what a source declares

pub content_at-returns-in_default : goal.content_at-returns-in_default
content_at-returns-in_default t c =
    let s : List Piece = pieces c.args.source.now in
    λ none. c.type_at.ensures

pub numbered_at-returns-in_default : goal.numbered_at-returns-in_default
numbered_at-returns-in_default t c =
    let s : List Piece = pieces c.args.source.now in
    rw (no_level _ c.args.levels (omega arith)) tt

pub numbered_at-returns-in_err-content : goal.numbered_at-returns-in_err-content
numbered_at-returns-in_err-content t c =
    let s : List Piece = pieces c.args.source.now in
    let l : c.args.levels ≡ suc c.in-Some.below = below_is _ _ c.in-Some.ensures.0 c.in-Some.ensures.1 in
    let p = err_from_is_err_and c.from_residual.result c.from_residual.ensures.1 in
    rw (one_level _ _ _ l, p.1, p.2) (headed s seen _ c.takes_head-note.result _ _ _ _ c.takes_head-note.ensures (λ none.
    next_err s seen seen _ _ _ _ _ (c.in_err-content.ensures none)))

pub numbered_at-returns-in_err-goes_on : goal.numbered_at-returns-in_err-goes_on
numbered_at-returns-in_err-goes_on t c =
    let s : List Piece = pieces c.args.source.now in
    let l : c.args.levels ≡ suc c.in-Some.below = below_is _ _ c.in-Some.ensures.0 c.in-Some.ensures.1 in
    let p = err_from_is_err_and c.from_residual-in_err-goes_on.result c.from_residual-in_err-goes_on.ensures.1 in
    rw (one_level _ _ _ l, p.1, p.2) (headed s seen _ c.takes_head-note.result _ _ _ _ c.takes_head-note.ensures (λ none.
    next_ok s s seen seen _ c.in_ok-content.content _ _ _ _ (c.in_ok-content.ensures none)
    (next_fault s (λ b. b) seen _ _ _ _ _ c.in_err-goes_on.ensures)))

pub numbered_at-returns-then-not-branch : goal.numbered_at-returns-then-not-branch
numbered_at-returns-then-not-branch t c =
    let s : List Piece = pieces c.args.source.now in
    let l : c.args.levels ≡ suc c.in-Some.below = below_is _ _ c.in-Some.ensures.0 c.in-Some.ensures.1 in
    let e : c.in_ok-goes_on.field-0 ≡ false = search rules in
    rw (one_level _ _ _ l) (headed s seen _ c.takes_head-note.result _ _ _ _ c.takes_head-note.ensures (λ none.
    next_ok s s seen seen _ c.in_ok-content.content _ _ _ _ (c.in_ok-content.ensures none)
    (next_ok [] s (λ b. b) seen _ c.in_ok-goes_on.field-0 _ _ _ _ c.in_ok-goes_on.ensures
    (test_false s seen _ _ _ _ _ e (c.in_ok-field.ensures, refl)))))

pub numbered_at-returns-in_default-next_place : goal.numbered_at-returns-in_default-next_place
numbered_at-returns-in_default-next_place t c =
    let s : List Piece = pieces c.args.source.now in
    let l : c.args.levels ≡ suc c.in-Some.below = below_is _ _ c.in-Some.ensures.0 c.in-Some.ensures.1 in
    let e : c.in_ok-goes_on.field-0 ≡ true = search rules in
    rw (one_level _ _ _ l) (headed s seen _ c.takes_head-note.result _ _ _ _ c.takes_head-note.ensures (λ none.
    next_ok s s seen seen _ c.in_ok-content.content _ _ _ _ (c.in_ok-content.ensures none)
    (next_ok [] s (λ b. b) seen _ c.in_ok-goes_on.field-0 _ _ _ _ c.in_ok-goes_on.ensures
    (test_true s seen _ _ _ _ _ e (chosen_is_none s seen _ _ _ _ (sym c.next_place.ensures ∙ c.in_default-next_place.is))))))

pub numbered_at-returns-in_err-others : goal.numbered_at-returns-in_err-others
numbered_at-returns-in_err-others t c =
    let s : List Piece = pieces c.args.source.now in
    let l : c.args.levels ≡ suc c.in-Some.below = below_is _ _ c.in-Some.ensures.0 c.in-Some.ensures.1 in
    let e : c.in_ok-goes_on.field-0 ≡ true = search rules in
    let p = err_from_is_err_and c.from_residual-in_err-others.result c.from_residual-in_err-others.ensures.1 in
    rw (one_level _ _ _ l, p.1, p.2) (headed s seen _ c.takes_head-note.result _ _ _ _ c.takes_head-note.ensures (λ none.
    next_ok s s seen seen _ c.in_ok-content.content _ _ _ _ (c.in_ok-content.ensures none)
    (next_ok [] s (λ b. b) seen _ c.in_ok-goes_on.field-0 _ _ _ _ c.in_ok-goes_on.ensures
    (test_true s seen _ _ _ _ _ e (chosen_is s seen _ c.in-Some-next_place.next _ _ _ (sym c.next_place.ensures ∙ c.in-Some-next_place.is)
    (next_err s seen seen _ _ _ _ _ c.in_err-others.ensures))))))

pub numbered_at-returns : goal.numbered_at-returns
numbered_at-returns t c =
    let s : List Piece = pieces c.args.source.now in
    let l : c.args.levels ≡ suc c.in-Some.below = below_is _ _ c.in-Some.ensures.0 c.in-Some.ensures.1 in
    let e : c.in_ok-goes_on.field-0 ≡ true = search rules in
    rw (one_level _ _ _ l) (headed s seen _ c.takes_head-note.result _ _ _ _ c.takes_head-note.ensures (λ none.
    next_ok s s seen seen _ c.in_ok-content.content _ _ _ _ (c.in_ok-content.ensures none)
    (next_ok [] s (λ b. b) seen _ c.in_ok-goes_on.field-0 _ _ _ _ c.in_ok-goes_on.ensures
    (test_true s seen _ _ _ _ _ e (chosen_is s seen _ c.in-Some-next_place.next _ _ _ (sym c.next_place.ensures ∙ c.in-Some-next_place.is)
    (next_ok s s seen seen _ c.in_ok-others.others _ _ _ _ c.in_ok-others.ensures (made s seen _ _ _ (rw c.in_ok-field.ensures at c.joined.ensures))))))))

pub braced_at-returns-then-takes : goal.braced_at-returns-then-takes
braced_at-returns-then-takes t c =
    let s : List Piece = pieces c.args.source.now in
    sign_taken s seen _ c.takes.result _ _ _ _ _ c.takes.ensures.taken c.if-takes.true (refl, refl)

pub braced_at-returns-in_err-fields : goal.braced_at-returns-in_err-fields
braced_at-returns-in_err-fields t c =
    let s : List Piece = pieces c.args.source.now in
    let p = err_from_is_err_and c.from_residual.result c.from_residual.ensures.1 in
    rw (p.1, p.2) (sign_left s seen _ (left c.args.tokens.now) c.takes.result (left c.takes.new.self) _
    (λ ts. and_then ((readers s c.args.levels).fields ts) (λ d. Gives (Record d.0, d.1))) _ _
    c.takes.ensures.taken c.takes.ensures.kept c.if-takes.false
    (next_err s seen seen _ _ _ _ _ c.in_err-fields.ensures))

pub braced_at-returns : goal.braced_at-returns
braced_at-returns t c =
    let s : List Piece = pieces c.args.source.now in
    sign_left s seen _ (left c.args.tokens.now) c.takes.result (left c.takes.new.self) _
    (λ ts. and_then ((readers s c.args.levels).fields ts) (λ d. Gives (Record d.0, d.1))) _ _
    c.takes.ensures.taken c.takes.ensures.kept c.if-takes.false
    (next_ok s s seen seen _ c.in_ok-fields.fields _ _ _ _ c.in_ok-fields.ensures (made s seen _ _ _ c.structure.ensures))

pub rounded_at-returns-then-takes : goal.rounded_at-returns-then-takes
rounded_at-returns-then-takes t c =
    let s : List Piece = pieces c.args.source.now in
    sign_taken s seen _ c.takes.result _ _ _ _ _ c.takes.ensures.taken c.if-takes.true (refl, refl)

pub rounded_at-returns-in_err-fields : goal.rounded_at-returns-in_err-fields
rounded_at-returns-in_err-fields t c =
    let s : List Piece = pieces c.args.source.now in
    let p = err_from_is_err_and c.from_residual.result c.from_residual.ensures.1 in
    rw (p.1, p.2) (sign_left s seen _ (left c.args.tokens.now) c.takes.result (left c.takes.new.self) _
    (λ ts. and_then ((readers s c.args.levels).numbered 0 ts) (λ d. Gives (Record d.0, d.1))) _ _
    c.takes.ensures.taken c.takes.ensures.kept c.if-takes.false
    (next_err s seen seen _ _ _ _ _ c.in_err-fields.ensures))

pub rounded_at-returns : goal.rounded_at-returns
rounded_at-returns t c =
    let s : List Piece = pieces c.args.source.now in
    sign_left s seen _ (left c.args.tokens.now) c.takes.result (left c.takes.new.self) _
    (λ ts. and_then ((readers s c.args.levels).numbered 0 ts) (λ d. Gives (Record d.0, d.1))) _ _
    c.takes.ensures.taken c.takes.ensures.kept c.if-takes.false
    (next_ok s s seen seen _ c.in_ok-fields.fields _ _ _ _ c.in_ok-fields.ensures (made s seen _ _ _ c.structure.ensures))

pub shape_at-returns-in_err-fields : goal.shape_at-returns-in_err-fields
shape_at-returns-in_err-fields t c =
    let s : List Piece = pieces c.args.source.now in
    let p = err_from_is_err_and c.from_residual.result c.from_residual.ensures.1 in
    rw (p.1, p.2) (sign_taken s (option_map seen) _ c.takes.result _ _ _ _ _ c.takes.ensures.taken c.if-takes.true
    (next_err s seen (option_map seen) _ _ _ _ _ c.in_err-fields.ensures))

pub shape_at-returns-then-takes : goal.shape_at-returns-then-takes
shape_at-returns-then-takes t c =
    let s : List Piece = pieces c.args.source.now in
    sign_taken s (option_map seen) _ c.takes.result _ _ _ _ _ c.takes.ensures.taken c.if-takes.true
    (next_ok s s seen (option_map seen) _ c.in_ok-fields.fields _ _ _ _ c.in_ok-fields.ensures (refl, refl))

pub shape_at-returns-in_err-fields-2 : goal.shape_at-returns-in_err-fields-2
shape_at-returns-in_err-fields-2 t c =
    let s : List Piece = pieces c.args.source.now in
    let p = err_from_is_err_and c.from_residual-in_err-fields-2.result c.from_residual-in_err-fields-2.ensures.1 in
    rw (p.1, p.2) (sign_left s (option_map seen) _ (left c.args.tokens.now) c.takes.result (left c.takes.new.self) _
    (λ ts. on (behind_sign (codes "(") ts) (λ rest. and_then (rounded_by (readers s c.args.levels) rest) there) (Gives (None, ts))) _ _ c.takes.ensures.taken c.takes.ensures.kept c.if-takes.false
    (sign_taken s (option_map seen) _ c.takes-2.result _ _ _ _ _ c.takes-2.ensures.taken c.if-takes-2.true (next_err s seen (option_map seen) _ _ _ _ _ c.in_err-fields-2.ensures)))

pub shape_at-returns-then-takes-2 : goal.shape_at-returns-then-takes-2
shape_at-returns-then-takes-2 t c =
    let s : List Piece = pieces c.args.source.now in
    sign_left s (option_map seen) _ (left c.args.tokens.now) c.takes.result (left c.takes.new.self) _
    (λ ts. on (behind_sign (codes "(") ts) (λ rest. and_then (rounded_by (readers s c.args.levels) rest) there) (Gives (None, ts))) _ _ c.takes.ensures.taken c.takes.ensures.kept c.if-takes.false
    (sign_taken s (option_map seen) _ c.takes-2.result _ _ _ _ _ c.takes-2.ensures.taken c.if-takes-2.true
    (next_ok s s seen (option_map seen) _ c.in_ok-fields-2.fields _ _ _ _ c.in_ok-fields-2.ensures (refl, refl)))

pub shape_at-returns : goal.shape_at-returns
shape_at-returns t c =
    let s : List Piece = pieces c.args.source.now in
    sign_left s (option_map seen) _ (left c.args.tokens.now) c.takes.result (left c.takes.new.self) _
    (λ ts. on (behind_sign (codes "(") ts) (λ rest. and_then (rounded_by (readers s c.args.levels) rest) there) (Gives (None, ts))) _ _ c.takes.ensures.taken c.takes.ensures.kept c.if-takes.false
    (sign_left s (option_map seen) _ (left c.takes.new.self) c.takes-2.result (left c.takes-2.new.self) _ (λ ts. Gives (None, ts)) _ _
    c.takes-2.ensures.taken c.takes-2.ensures.kept c.if-takes-2.false (refl, refl))

pub held_at-returns-in_default : goal.held_at-returns-in_default
held_at-returns-in_default t c =
    let s : List Piece = pieces c.args.source.now in
    rw (no_level _ c.args.levels (omega arith)) tt

pub held_at-returns-in_err-shape : goal.held_at-returns-in_err-shape
held_at-returns-in_err-shape t c =
    let s : List Piece = pieces c.args.source.now in
    let l : c.args.levels ≡ suc c.in-Some.below = below_is _ _ c.in-Some.ensures.0 c.in-Some.ensures.1 in
    let p = err_from_is_err_and c.from_residual.result c.from_residual.ensures.1 in
    rw (one_level _ _ _ l, p.1, p.2) (next_err s (option_map seen) seen _ _ _ _ _ c.in_err-shape.ensures)

pub held_at-returns-in-Some-shape : goal.held_at-returns-in-Some-shape
held_at-returns-in-Some-shape t c =
    let s : List Piece = pieces c.args.source.now in
    let l : c.args.levels ≡ suc c.in-Some.below = below_is _ _ c.in-Some.ensures.0 c.in-Some.ensures.1 in
    rw (one_level _ _ _ l) (next_ok s s (option_map seen) seen _ c.in_ok-shape.shape _ _ _ _ c.in_ok-shape.ensures (rw c.in-Some-shape.is (refl, refl)))

pub held_at-returns-in-None : goal.held_at-returns-in-None
held_at-returns-in-None t c =
    let s : List Piece = pieces c.args.source.now in
    let l : c.args.levels ≡ suc c.in-Some.below = below_is _ _ c.in-Some.ensures.0 c.in-Some.ensures.1 in
    rw (one_level _ _ _ l) (next_ok s s (option_map seen) seen _ c.in_ok-shape.shape _ _ _ _ c.in_ok-shape.ensures (rw c.in-None.is (refl, refl)))

pub variants_at-returns-in_default : goal.variants_at-returns-in_default
variants_at-returns-in_default t c =
    let s : List Piece = pieces c.args.source.now in
    rw (no_level _ c.args.levels (omega arith)) tt

pub variants_at-returns-in_err-content : goal.variants_at-returns-in_err-content
variants_at-returns-in_err-content t c =
    let s : List Piece = pieces c.args.source.now in
    let l : c.args.levels ≡ suc c.in-Some.below = below_is _ _ c.in-Some.ensures.0 c.in-Some.ensures.1 in
    let p = err_from_is_err_and c.from_residual-in_err-content.result c.from_residual-in_err-content.ensures.1 in
    rw (one_level _ _ _ l, p.1, p.2) (headed s seen_cases _ c.takes_head-note.result _ _ _ _ c.takes_head-note.ensures (λ none.
    next_ok [] s string_bytes seen_cases _ c.in_ok-word.field-0 _ _ _ _ c.in_ok-word.ensures
    (next_err s seen seen_cases _ _ _ _ _ c.in_err-content.ensures)))

pub variants_at-returns-in_err-goes_on : goal.variants_at-returns-in_err-goes_on
variants_at-returns-in_err-goes_on t c =
    let s : List Piece = pieces c.args.source.now in
    let l : c.args.levels ≡ suc c.in-Some.below = below_is _ _ c.in-Some.ensures.0 c.in-Some.ensures.1 in
    let p = err_from_is_err_and c.from_residual-in_err-goes_on.result c.from_residual-in_err-goes_on.ensures.1 in
    rw (one_level _ _ _ l, p.1, p.2) (headed s seen_cases _ c.takes_head-note.result _ _ _ _ c.takes_head-note.ensures (λ none.
    next_ok [] s string_bytes seen_cases _ c.in_ok-word.field-0 _ _ _ _ c.in_ok-word.ensures
    (next_ok s s seen seen_cases _ c.in_ok-content.content _ _ _ _ c.in_ok-content.ensures
    (next_fault s (λ b. b) seen_cases _ _ _ _ _ c.in_err-goes_on.ensures))))

pub variants_at-returns-then-not-branch : goal.variants_at-returns-then-not-branch
variants_at-returns-then-not-branch t c =
    let s : List Piece = pieces c.args.source.now in
    let l : c.args.levels ≡ suc c.in-Some.below = below_is _ _ c.in-Some.ensures.0 c.in-Some.ensures.1 in
    let e : c.in_ok-goes_on.field-0 ≡ false = search rules in
    rw (one_level _ _ _ l) (headed s seen_cases _ c.takes_head-note.result _ _ _ _ c.takes_head-note.ensures (λ none.
    next_ok [] s string_bytes seen_cases _ c.in_ok-word.field-0 _ _ _ _ c.in_ok-word.ensures
    (next_ok s s seen seen_cases _ c.in_ok-content.content _ _ _ _ c.in_ok-content.ensures
    (next_ok [] s (λ b. b) seen_cases _ c.in_ok-goes_on.field-0 _ _ _ _ c.in_ok-goes_on.ensures
    (test_false s seen_cases _ _ _ _ _ e (made s seen_cases _ _ _ (rw (c.tag_at-tag.ensures none) at c.last_case.ensures)))))))

pub variants_at-returns-in_default-next_place : goal.variants_at-returns-in_default-next_place
variants_at-returns-in_default-next_place t c =
    let s : List Piece = pieces c.args.source.now in
    let l : c.args.levels ≡ suc c.in-Some.below = below_is _ _ c.in-Some.ensures.0 c.in-Some.ensures.1 in
    let e : c.in_ok-goes_on.field-0 ≡ true = search rules in
    rw (one_level _ _ _ l) (headed s seen_cases _ c.takes_head-note.result _ _ _ _ c.takes_head-note.ensures (λ none.
    next_ok [] s string_bytes seen_cases _ c.in_ok-word.field-0 _ _ _ _ c.in_ok-word.ensures
    (next_ok s s seen seen_cases _ c.in_ok-content.content _ _ _ _ c.in_ok-content.ensures
    (next_ok [] s (λ b. b) seen_cases _ c.in_ok-goes_on.field-0 _ _ _ _ c.in_ok-goes_on.ensures
    (test_true s seen_cases _ _ _ _ _ e (chosen_is_none s seen_cases _ _ _ _ (sym c.next_place.ensures ∙ c.in_default-next_place.is)))))))

pub variants_at-returns-in_err-others : goal.variants_at-returns-in_err-others
variants_at-returns-in_err-others t c =
    let s : List Piece = pieces c.args.source.now in
    let l : c.args.levels ≡ suc c.in-Some.below = below_is _ _ c.in-Some.ensures.0 c.in-Some.ensures.1 in
    let e : c.in_ok-goes_on.field-0 ≡ true = search rules in
    let p = err_from_is_err_and c.from_residual-in_err-others.result c.from_residual-in_err-others.ensures.1 in
    rw (one_level _ _ _ l, p.1, p.2) (headed s seen_cases _ c.takes_head-note.result _ _ _ _ c.takes_head-note.ensures (λ none.
    next_ok [] s string_bytes seen_cases _ c.in_ok-word.field-0 _ _ _ _ c.in_ok-word.ensures
    (next_ok s s seen seen_cases _ c.in_ok-content.content _ _ _ _ c.in_ok-content.ensures
    (next_ok [] s (λ b. b) seen_cases _ c.in_ok-goes_on.field-0 _ _ _ _ c.in_ok-goes_on.ensures
    (test_true s seen_cases _ _ _ _ _ e (chosen_is s seen_cases _ c.in-Some-next_place.next _ _ _ (sym c.next_place.ensures ∙ c.in-Some-next_place.is)
    (next_err s seen_cases seen_cases _ _ _ _ _ c.in_err-others.ensures)))))))

pub variants_at-returns : goal.variants_at-returns
variants_at-returns t c =
    let s : List Piece = pieces c.args.source.now in
    let l : c.args.levels ≡ suc c.in-Some.below = below_is _ _ c.in-Some.ensures.0 c.in-Some.ensures.1 in
    let e : c.in_ok-goes_on.field-0 ≡ true = search rules in
    rw (one_level _ _ _ l) (headed s seen_cases _ c.takes_head-note.result _ _ _ _ c.takes_head-note.ensures (λ none.
    next_ok [] s string_bytes seen_cases _ c.in_ok-word.field-0 _ _ _ _ c.in_ok-word.ensures
    (next_ok s s seen seen_cases _ c.in_ok-content.content _ _ _ _ c.in_ok-content.ensures
    (next_ok [] s (λ b. b) seen_cases _ c.in_ok-goes_on.field-0 _ _ _ _ c.in_ok-goes_on.ensures
    (test_true s seen_cases _ _ _ _ _ e (chosen_is s seen_cases _ c.in-Some-next_place.next _ _ _ (sym c.next_place.ensures ∙ c.in-Some-next_place.is)
    (next_ok s s seen_cases seen_cases _ c.in_ok-others.others _ _ _ _ c.in_ok-others.ensures
    (made s seen_cases _ _ _ (rw (c.tag_at-tag.ensures none) at c.one_case.ensures)))))))))

pub declared_struct-returns-in_err-shape : goal.declared_struct-returns-in_err-shape
declared_struct-returns-in_err-shape t c =
    let s : List Piece = pieces c.args.source.now in
    let p = err_from_is_err_and c.from_residual.result c.from_residual.ensures.1 in
    rw (p.1, p.2) (next_err s (option_map seen) seen _ _ _ _ _ c.in_err-shape.ensures)

pub declared_struct-returns-in-Some : goal.declared_struct-returns-in-Some
declared_struct-returns-in-Some t c =
    let s : List Piece = pieces c.args.source.now in
    next_ok s s (option_map seen) seen _ c.in_ok-shape.shape _ _ _ _ c.in_ok-shape.ensures (rw c.in-Some.is (refl, refl))

pub declared_struct-returns-in_err-expect-in-None : goal.declared_struct-returns-in_err-expect-in-None
declared_struct-returns-in_err-expect-in-None t c =
    let s : List Piece = pieces c.args.source.now in
    let p = err_from_is_err_and c.from_residual-in_err-expect-in-None.result c.from_residual-in_err-expect-in-None.ensures.1 in
    rw (p.1, p.2) (next_ok s s (option_map seen) seen _ c.in_ok-shape.shape _ _ _ _ c.in_ok-shape.ensures
    (rw c.in-None.is (next_fault s (λ u. u) seen _ _ _ _ _ c.in_err-expect-in-None.ensures)))

pub declared_struct-returns-in_ok-expect-in-None : goal.declared_struct-returns-in_ok-expect-in-None
declared_struct-returns-in_ok-expect-in-None t c =
    let s : List Piece = pieces c.args.source.now in
    next_ok s s (option_map seen) seen _ c.in_ok-shape.shape _ _ _ _ c.in_ok-shape.ensures
    (rw c.in-None.is (next_ok [] s (λ u. u) seen _ c.in_ok-expect-in-None.field-0 _ _ _ _ c.in_ok-expect-in-None.ensures (refl, refl)))

pub declared_enum-returns-in_err-expect : goal.declared_enum-returns-in_err-expect
declared_enum-returns-in_err-expect t c =
    let s : List Piece = pieces c.args.source.now in
    let p = err_from_is_err_and c.from_residual.result c.from_residual.ensures.1 in
    rw (p.1, p.2) (λ is. next_fault s (λ u. u) seen _ _ _ _ _ c.in_err-expect.ensures)

pub declared_enum-returns-in_err-cases : goal.declared_enum-returns-in_err-cases
declared_enum-returns-in_err-cases t c =
    let s : List Piece = pieces c.args.source.now in
    let p = err_from_is_err_and c.from_residual-in_err-cases.result c.from_residual-in_err-cases.ensures.1 in
    rw (p.1, p.2) (λ is. next_ok [] s (λ u. u) seen _ c.in_ok-expect.field-0 _ _ _ _ c.in_ok-expect.ensures
    (next_err s seen_cases seen _ _ _ _ _ c.in_err-cases.ensures))

pub declared_enum-returns : goal.declared_enum-returns
declared_enum-returns t c =
    let s : List Piece = pieces c.args.source.now in
    λ is. next_ok [] s (λ u. u) seen _ c.in_ok-expect.field-0 _ _ _ _ c.in_ok-expect.ensures
    (next_ok s s seen_cases seen _ c.in_ok-cases.cases _ _ _ _ c.in_ok-cases.ensures (made s seen _ _ _ (rw is at c.choice.ensures)))

pub found_type-returns-then-found : goal.found_type-returns-then-found
found_type-returns-then-found t c =
    let s : List Piece = pieces c.args.source.now in
    λ noted. rw c.if-found.true (found_of _ _ _ _ c.declared_struct.ensures)

pub found_type-returns : goal.found_type-returns
found_type-returns t c =
    let s : List Piece = pieces c.args.source.now in
    λ noted. rw c.if-found.false (found_of _ _ _ _ (c.declared_enum.ensures (search rules)))

pub named_type-returns-in_err-size : goal.named_type-returns-in_err-size
named_type-returns-in_err-size t c =
    let s : List Piece = pieces c.args.source.now in
    let p = err_from_is_err_and c.from_residual.result c.from_residual.ensures.1 in
    rw (p.1, p.2) (named_refused s c.args.name.now (readers s c.args.levels) _)

pub named_type-returns-in_default : goal.named_type-returns-in_default
named_type-returns-in_default t c =
    let s : List Piece = pieces c.args.source.now in
    named_refused s c.args.name.now (readers s c.args.levels) _

pub named_type-returns-in-Ok : goal.named_type-returns-in-Ok
named_type-returns-in-Ok t c =
    let s : List Piece = pieces c.args.source.now in
    named_found s (declaration_of c.args.name.now 0 s) c.in-Some.found (readers s c.args.levels) _ (rw c.in-Some.is at c.declaration_in.ensures) (rw c.in-Ok.is at c.found_type.ensures)

pub named_type-returns-in-Err : goal.named_type-returns-in-Err
named_type-returns-in-Err t c =
    let s : List Piece = pieces c.args.source.now in
    named_refused s c.args.name.now (readers s c.args.levels) _

-- the lists and texts of other crates

pub container_at-returns-in_err-expect-2 : goal.container_at-returns-in_err-expect-2
container_at-returns-in_err-expect-2 t c =
    let s : List Piece = pieces c.args.source.now in
    let e : bytes_eq (string_bytes c.in_ok-word.word) (codes "Vec") ≡ true = search rules in
    let p = err_from_is_err_and c.from_residual-in_err-expect-2.result c.from_residual-in_err-expect-2.ensures.1 in
    rw (p.1, p.2) (next_ok [] s (λ u. u) seen _ c.in_ok-expect.field-0 _ _ _ _ c.in_ok-expect.ensures
    (next_ok [] s string_bytes seen _ c.in_ok-word.word _ _ _ _ c.in_ok-word.ensures
    (test_true s seen _ _ _ _ _ e (next_fault s (λ u. u) seen _ _ _ _ _ c.in_err-expect-2.ensures))))

pub container_at-returns-in_err-item : goal.container_at-returns-in_err-item
container_at-returns-in_err-item t c =
    let s : List Piece = pieces c.args.source.now in
    let e : bytes_eq (string_bytes c.in_ok-word.word) (codes "Vec") ≡ true = search rules in
    let p = err_from_is_err_and c.from_residual-in_err-item.result c.from_residual-in_err-item.ensures.1 in
    rw (p.1, p.2) (next_ok [] s (λ u. u) seen _ c.in_ok-expect.field-0 _ _ _ _ c.in_ok-expect.ensures
    (next_ok [] s string_bytes seen _ c.in_ok-word.word _ _ _ _ c.in_ok-word.ensures
    (test_true s seen _ _ _ _ _ e (next_ok [] s (λ u. u) seen _ c.in_ok-expect-2.field-0 _ _ _ _ c.in_ok-expect-2.ensures
    (next_err s seen seen _ _ _ _ _ c.in_err-item.ensures)))))

pub container_at-returns-in_err-expect-3 : goal.container_at-returns-in_err-expect-3
container_at-returns-in_err-expect-3 t c =
    let s : List Piece = pieces c.args.source.now in
    let e : bytes_eq (string_bytes c.in_ok-word.word) (codes "Vec") ≡ true = search rules in
    let p = err_from_is_err_and c.from_residual-in_err-expect-3.result c.from_residual-in_err-expect-3.ensures.1 in
    rw (p.1, p.2) (next_ok [] s (λ u. u) seen _ c.in_ok-expect.field-0 _ _ _ _ c.in_ok-expect.ensures
    (next_ok [] s string_bytes seen _ c.in_ok-word.word _ _ _ _ c.in_ok-word.ensures
    (test_true s seen _ _ _ _ _ e (next_ok [] s (λ u. u) seen _ c.in_ok-expect-2.field-0 _ _ _ _ c.in_ok-expect-2.ensures
    (next_ok s s seen seen _ c.in_ok-item.item _ _ _ _ c.in_ok-item.ensures (next_fault s (λ u. u) seen _ _ _ _ _ c.in_err-expect-3.ensures))))))

pub container_at-returns : goal.container_at-returns
container_at-returns t c =
    let s : List Piece = pieces c.args.source.now in
    let e : bytes_eq (string_bytes c.in_ok-word.word) (codes "Vec") ≡ true = search rules in
    next_ok [] s (λ u. u) seen _ c.in_ok-expect.field-0 _ _ _ _ c.in_ok-expect.ensures
    (next_ok [] s string_bytes seen _ c.in_ok-word.word _ _ _ _ c.in_ok-word.ensures
    (test_true s seen _ _ _ _ _ e (next_ok [] s (λ u. u) seen _ c.in_ok-expect-2.field-0 _ _ _ _ c.in_ok-expect-2.ensures
    (next_ok s s seen seen _ c.in_ok-item.item _ _ _ _ c.in_ok-item.ensures
    (next_ok [] s (λ u. u) seen _ c.in_ok-expect-3.field-0 _ _ _ _ c.in_ok-expect-3.ensures (anywhere s seen _ _ _ c.schemed_list.ensures))))))

pub range_at-returns-in_err-expect-2 : goal.range_at-returns-in_err-expect-2
range_at-returns-in_err-expect-2 t c =
    let s : List Piece = pieces c.args.source.now in
    let p = err_from_is_err_and c.from_residual-in_err-expect-2.result c.from_residual-in_err-expect-2.ensures.1 in
    rw (p.1, p.2) (next_ok [] s (λ u. u) seen _ c.in_ok-expect.field-0 _ _ _ _ c.in_ok-expect.ensures
    (next_ok s s seen seen _ c.in_ok-bound.bound _ _ _ _ c.in_ok-bound.ensures (next_fault s (λ u. u) seen _ _ _ _ _ c.in_err-expect-2.ensures)))

pub range_at-returns : goal.range_at-returns
range_at-returns t c =
    let s : List Piece = pieces c.args.source.now in
    next_ok [] s (λ u. u) seen _ c.in_ok-expect.field-0 _ _ _ _ c.in_ok-expect.ensures
    (next_ok s s seen seen _ c.in_ok-bound.bound _ _ _ _ c.in_ok-bound.ensures
    (next_ok [] s (λ u. u) seen _ c.in_ok-expect-2.field-0 _ _ _ _ c.in_ok-expect-2.ensures (made s seen _ _ _ c.range.ensures)))

pub cow_at-returns-in_err-pass_lifetime : goal.cow_at-returns-in_err-pass_lifetime
cow_at-returns-in_err-pass_lifetime t c =
    let s : List Piece = pieces c.args.source.now in
    let p = err_from_is_err_and c.from_residual-in_err-pass_lifetime.result c.from_residual-in_err-pass_lifetime.ensures.1 in
    rw (p.1, p.2) (next_ok [] s (λ u. u) seen _ c.in_ok-expect.field-0 _ _ _ _ c.in_ok-expect.ensures
    (next_fault s (λ u. u) seen _ _ _ _ _ c.in_err-pass_lifetime.ensures))

pub cow_at-returns-in_err-expect-2 : goal.cow_at-returns-in_err-expect-2
cow_at-returns-in_err-expect-2 t c =
    let s : List Piece = pieces c.args.source.now in
    let p = err_from_is_err_and c.from_residual-in_err-expect-2.result c.from_residual-in_err-expect-2.ensures.1 in
    rw (p.1, p.2) (next_ok [] s (λ u. u) seen _ c.in_ok-expect.field-0 _ _ _ _ c.in_ok-expect.ensures
    (next_ok [] s (λ u. u) seen _ c.in_ok-pass_lifetime.field-0 _ _ _ _ c.in_ok-pass_lifetime.ensures
    (sign_taken s seen _ c.takes_word.result _ _ _ _ _ c.takes_word.ensures.taken c.if-takes_word.true
    (next_fault s (λ u. u) seen _ _ _ _ _ c.in_err-expect-2.ensures))))

pub cow_at-returns-then-takes_word : goal.cow_at-returns-then-takes_word
cow_at-returns-then-takes_word t c =
    let s : List Piece = pieces c.args.source.now in
    next_ok [] s (λ u. u) seen _ c.in_ok-expect.field-0 _ _ _ _ c.in_ok-expect.ensures
    (next_ok [] s (λ u. u) seen _ c.in_ok-pass_lifetime.field-0 _ _ _ _ c.in_ok-pass_lifetime.ensures
    (sign_taken s seen _ c.takes_word.result _ _ _ _ _ c.takes_word.ensures.taken c.if-takes_word.true
    (next_ok [] s (λ u. u) seen _ c.in_ok-expect-2.field-0 _ _ _ _ c.in_ok-expect-2.ensures (refl, refl))))

pub cow_at-returns-in_err-expect-4 : goal.cow_at-returns-in_err-expect-4
cow_at-returns-in_err-expect-4 t c =
    let s : List Piece = pieces c.args.source.now in
    let p = err_from_is_err_and c.from_residual-in_err-expect-4.result c.from_residual-in_err-expect-4.ensures.1 in
    rw (p.1, p.2) (next_ok [] s (λ u. u) seen _ c.in_ok-expect.field-0 _ _ _ _ c.in_ok-expect.ensures
    (next_ok [] s (λ u. u) seen _ c.in_ok-pass_lifetime.field-0 _ _ _ _ c.in_ok-pass_lifetime.ensures
    (sign_left s seen _ (left c.pass_lifetime.new.self) c.takes_word.result (left c.takes_word.new.self) (closed Words)
    (slice_by (readers s c.args.levels).types) _ _ c.takes_word.ensures.taken c.takes_word.ensures.kept c.if-takes_word.false
    (next_ok [] s (λ u. u) seen _ c.in_ok-expect-3.field-0 _ _ _ _ c.in_ok-expect-3.ensures
    (next_ok s s seen seen _ c.in_ok-item.item _ _ _ _ c.in_ok-item.ensures
    (next_fault s (λ u. u) seen _ _ _ _ _ c.in_err-expect-4.ensures))))))

pub cow_at-returns-in_err-expect-5 : goal.cow_at-returns-in_err-expect-5
cow_at-returns-in_err-expect-5 t c =
    let s : List Piece = pieces c.args.source.now in
    let p = err_from_is_err_and c.from_residual-in_err-expect-5.result c.from_residual-in_err-expect-5.ensures.1 in
    rw (p.1, p.2) (next_ok [] s (λ u. u) seen _ c.in_ok-expect.field-0 _ _ _ _ c.in_ok-expect.ensures
    (next_ok [] s (λ u. u) seen _ c.in_ok-pass_lifetime.field-0 _ _ _ _ c.in_ok-pass_lifetime.ensures
    (sign_left s seen _ (left c.pass_lifetime.new.self) c.takes_word.result (left c.takes_word.new.self) (closed Words)
    (slice_by (readers s c.args.levels).types) _ _ c.takes_word.ensures.taken c.takes_word.ensures.kept c.if-takes_word.false
    (next_ok [] s (λ u. u) seen _ c.in_ok-expect-3.field-0 _ _ _ _ c.in_ok-expect-3.ensures
    (next_ok s s seen seen _ c.in_ok-item.item _ _ _ _ c.in_ok-item.ensures
    (next_ok [] s (λ u. u) seen _ c.in_ok-expect-4.field-0 _ _ _ _ c.in_ok-expect-4.ensures
    (next_fault s (λ u. u) seen _ _ _ _ _ c.in_err-expect-5.ensures)))))))

pub cow_at-returns : goal.cow_at-returns
cow_at-returns t c =
    let s : List Piece = pieces c.args.source.now in
    next_ok [] s (λ u. u) seen _ c.in_ok-expect.field-0 _ _ _ _ c.in_ok-expect.ensures
    (next_ok [] s (λ u. u) seen _ c.in_ok-pass_lifetime.field-0 _ _ _ _ c.in_ok-pass_lifetime.ensures
    (sign_left s seen _ (left c.pass_lifetime.new.self) c.takes_word.result (left c.takes_word.new.self) (closed Words)
    (slice_by (readers s c.args.levels).types) _ _ c.takes_word.ensures.taken c.takes_word.ensures.kept c.if-takes_word.false
    (next_ok [] s (λ u. u) seen _ c.in_ok-expect-3.field-0 _ _ _ _ c.in_ok-expect-3.ensures
    (next_ok s s seen seen _ c.in_ok-item.item _ _ _ _ c.in_ok-item.ensures
    (next_ok [] s (λ u. u) seen _ c.in_ok-expect-4.field-0 _ _ _ _ c.in_ok-expect-4.ensures
    (next_ok [] s (λ u. u) seen _ c.in_ok-expect-5.field-0 _ _ _ _ c.in_ok-expect-5.ensures (made s seen _ _ _ c.list.ensures)))))))

pub one_at-returns-in_err-expect : goal.one_at-returns-in_err-expect
one_at-returns-in_err-expect t c =
    let s : List Piece = pieces c.args.source.now in
    let p = err_from_is_err_and c.from_residual.result c.from_residual.ensures.1 in
    rw (p.1, p.2) (next_fault s (λ u. u) seen _ _ _ _ _ c.in_err-expect.ensures)

-- where no word stands

pub type_at-returns-in_err-word : goal.type_at-returns-in_err-word
type_at-returns-in_err-word t c =
    let s : List Piece = pieces c.args.source.now in
    let l : c.args.levels ≡ suc c.in-Some.below = below_is _ _ c.in-Some.ensures.0 c.in-Some.ensures.1 in
    let p = err_from_is_err_and c.from_residual.result c.from_residual.ensures.1 in
    rw (one_level _ _ _ l, p.1, p.2) (sign_left s seen _ (left c.args.tokens.now) c.takes.result (left c.takes.new.self) _
    (array_or_word s (readers s c.in-Some.below)) _ _ c.takes.ensures.taken c.takes.ensures.kept c.if-takes.false
    (sign_left s seen _ (left c.takes.new.self) c.takes-2.result (left c.takes-2.new.self) _
    (λ ts. and_then (needed (word_front ts)) (word_by s (readers s c.in-Some.below))) _ _
    c.takes-2.ensures.taken c.takes-2.ensures.kept c.if-takes-2.false (next_fault s string_bytes seen _ _ _ _ _ c.in_err-word.ensures)))

pub fields_at-returns-in_err-name : goal.fields_at-returns-in_err-name
fields_at-returns-in_err-name t c =
    let s : List Piece = pieces c.args.source.now in
    let l : c.args.levels ≡ suc c.in-Some.below = below_is _ _ c.in-Some.ensures.0 c.in-Some.ensures.1 in
    let p = err_from_is_err_and c.from_residual.result c.from_residual.ensures.1 in
    rw (one_level _ _ _ l, p.1, p.2) (headed s seen _ c.takes_head-note.result _ _ _ _ c.takes_head-note.ensures (λ none.
    next_fault s string_bytes seen _ _ _ _ _ c.in_err-name.ensures))

pub variants_at-returns-in_err-word : goal.variants_at-returns-in_err-word
variants_at-returns-in_err-word t c =
    let s : List Piece = pieces c.args.source.now in
    let l : c.args.levels ≡ suc c.in-Some.below = below_is _ _ c.in-Some.ensures.0 c.in-Some.ensures.1 in
    let p = err_from_is_err_and c.from_residual.result c.from_residual.ensures.1 in
    rw (one_level _ _ _ l, p.1, p.2) (headed s seen_cases _ c.takes_head-note.result _ _ _ _ c.takes_head-note.ensures (λ none.
    next_fault s string_bytes seen_cases _ _ _ _ _ c.in_err-word.ensures))

pub container_at-returns-in_err-word : goal.container_at-returns-in_err-word
container_at-returns-in_err-word t c =
    let s : List Piece = pieces c.args.source.now in
    let p = err_from_is_err_and c.from_residual-in_err-word.result c.from_residual-in_err-word.ensures.1 in
    rw (p.1, p.2) (next_ok [] s (λ u. u) seen _ c.in_ok-expect.field-0 _ _ _ _ c.in_ok-expect.ensures
    (next_fault s string_bytes seen _ _ _ _ _ c.in_err-word.ensures))

pub short_at-returns-in_err-expect : goal.short_at-returns-in_err-expect
short_at-returns-in_err-expect t c =
    let s : List Piece = pieces c.args.source.now in
    let e : bytes_eq (string_bytes c.in_ok-word.word) (codes "Vec") ≡ true = search rules in
    let p = err_from_is_err_and c.from_residual-in_err-expect.result c.from_residual-in_err-expect.ensures.1 in
    rw (p.1, p.2) (next_ok [] s string_bytes seen _ c.in_ok-word.word _ _ _ _ c.in_ok-word.ensures
    (test_true s seen _ _ _ _ _ e (next_fault s (λ u. u) seen _ _ _ _ _ c.in_err-expect.ensures)))
