use Rattle.std.proofs.Common.{ap, length, length-take, arith}
use Rattle.wincode_base.proofs.Bulk.{wanted_refuses, went_well}
use Rattle.wincode_base.proofs.Integers.{are_bytes}
use Rattle.wincode_base.proofs.FormRuns.{forms_added, forms_refused, forms_vast}
use Rattle.wincode_read.proofs.schema.as_forms.read_all.Goals as goal
use Rattle.wincode_base.proofs.ReadAnswers.{if_passed}

pub returns-in_default-clause-err : goal.returns-in_default-clause-err
returns-in_default-clause-err g c = rw c.read_length_encoding_overflow.ensures (forms_vast g.T.ZeroCopy.byte_form c.args.n _ _ c.in_default.ensures)

pub returns-in_err-bytes-clause-err : goal.returns-in_err-bytes-clause-err
returns-in_err-bytes-clause-err g c =
    let follows = rw c.in_err-bytes.was at c.fill_exact.follows.holds-at-none in
    let size = c.in-Some.ensures in
    let h = forms_refused g.T.ZeroCopy.byte_form c.args.n _ _ _ (follows.0, follows.2.0, rw size at follows.2.1) in
    if_passed _ _ _ c.from_residual.ensures h

pub returns-in_err-bytes-clause-at_once : goal.returns-in_err-bytes-clause-at_once
returns-in_err-bytes-clause-at_once g c =
    let follows = rw c.in_err-bytes.was at c.fill_exact.follows.holds-at-none in
    if_passed _ _ _ c.from_residual.ensures (follows.0, follows.2.0, rw c.in-Some.ensures at follows.2.1)

pub returns-then-is_err-clause-err : goal.returns-then-is_err-clause-err
returns-then-is_err-clause-err g c = let follows = rw c.in_ok-bytes.was at c.fill_exact.follows.holds-at-none in
    wanted_refuses _ _ _ _ (follows.0, follows.1.1)

pub returns-then-is_err-clause-at_once : goal.returns-then-is_err-clause-at_once
returns-then-is_err-clause-at_once g c =
    let follows = rw c.in_ok-bytes.was at c.fill_exact.follows.holds-at-none in
    let shown = c.in_ok-bytes.ensures.shown in
    let front = length-take c.in-Some.total (g.R.Reader.state c.args.reader.now).rest in
    ((follows.0, follows.1.1), λ known. omega (arith, c.in-Some.ensures, shown.0, ap length (shown.1.1 known), front))

pub returns-clause-ok : goal.returns-clause-ok
returns-clause-ok g c =
    let follows = rw c.in_ok-bytes.was at c.fill_exact.follows.holds-at-none in
    let shown = c.in_ok-bytes.ensures.shown in
    let size = c.in-Some.ensures in
    forms_added g.T.ZeroCopy.byte_form c.args.n _ _ _ c.in_ok-bytes.bytes.now _ _ (are_bytes c.in_ok-bytes.bytes.now c.add_forms.ensures.small)
    (rw size at shown.0) (rw size at shown.1) (follows.0, follows.1.1) (rw size at c.consume_unchecked.ensures)
    (went_well c.add_forms.result c.if-is_err.ensures.negation c.add_forms.ensures.ok)
