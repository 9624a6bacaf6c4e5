use Rattle.std.proofs.Common.{rules, ◌≡◌, ◌≤◌, ◌<◌, ◌-◌, ◌*◌, ◌+◌, ◌^◌, length, drop, refl, arith, inr}
use Rattle.wincode_serde.proofs.Edits.{has_count, has_forms, left_of, edited_in_place}
use Rattle.wincode_serde.proofs.laws.edit_in_place.Goals as goal

pub returns-in_default-clause-err : goal.returns-in_default-clause-err
returns-in_default-clause-err g c =
    let b = c.args.bytes.now in
    let n = c.of_form-n.result in
    let long : 8 ≤ length b = c.if-bytes-lt8.false in
    let over : 2 ^ 64 ≤ n * g.T.ZeroCopy.size = search rules in
    rw c.read_length_encoding_overflow.ensures (has_count b c.see_bytes.ensures long n c.of_form-n.ensures, over, refl)

pub returns-then-bytes-total-clause-err : goal.returns-then-bytes-total-clause-err
returns-then-bytes-total-clause-err g c =
    let b = c.args.bytes.now in
    let n = c.of_form-n.result in
    let s = g.T.ZeroCopy.size in
    let long : 8 ≤ length b = c.if-bytes-lt8.false in
    let has = has_count b c.see_bytes.ensures long n c.of_form-n.ensures in
    let total : c.in-Some.total ≡ n * s = c.in-Some.ensures in
    let less : length b - 8 < c.in-Some.total = c.if-bytes-total.true in
    let small : c.in-Some.total < 2 ^ 64 = search rules in
    let short : length (drop 8 b) < n * s = omega (arith, left_of b c.see_bytes.ensures long n c.of_form-n.ensures, less, total) in
    let few : n * s < 2 ^ 64 = omega (arith, small, total) in
    rw c.into-then-bytes-total.ensures (inr (has, short, few, total))

pub returns-then-not-are_within-clause-err : goal.returns-then-not-are_within-clause-err
returns-then-not-are_within-clause-err g c =
    let b = c.args.bytes.now in
    let n = c.of_form-n.result in
    let s = g.T.ZeroCopy.size in
    let long : 8 ≤ length b = c.if-bytes-lt8.false in
    let fits : c.in-Some.total ≤ length b - 8 = c.if-bytes-total.false in
    let has = has_forms b c.see_bytes.ensures long n c.of_form-n.ensures s c.in-Some.total c.in-Some.ensures fits in
    let not = c.if-not-are_within.true in
    (has, λ all. let r = c.are_within.ensures.1 all in absurd (cc), refl)

pub returns-clause-ok : goal.returns-clause-ok
returns-clause-ok g c =
    let b = c.args.bytes.now in
    let n = c.of_form-n.result in
    let s = g.T.ZeroCopy.size in
    let long : 8 ≤ length b = c.if-bytes-lt8.false in
    let fits : c.in-Some.total ≤ length b - 8 = c.if-bytes-total.false in
    let same : 8 + c.in-Some.total - 8 ≡ c.in-Some.total = omega arith in
    let within = c.are_within.ensures.0 (search rules) in
    edited_in_place b c.see_bytes.ensures long n c.of_form-n.ensures s c.in-Some.total c.in-Some.ensures fits g.T.ZeroCopy.byte_form c.args.edits.now within
    c.edit_forms.ensures.is_valid
    (8 + c.in-Some.total - 8) same c.edit_forms.new.forms c.edit_forms.ensures.forms
