use Rattle.std.proofs.Common.{true, false}
use Rattle.std.specs.Int.{w8, w16, w32, w64, w128}
use Rattle.wincode_base.specs.Leaves.{number_read, signed_read}
use Rattle.wincode_describe.specs.Types.{natural_shown, signed_shown}
use Rattle.wincode_describe.specs.declared.described.Integer.TheVariants.{U128, Usize, I8, I16, I32, I64, I128, Isize}
use Rattle.wincode_describe.proofs.Gets.{got_refused}
use Rattle.wincode_describe.proofs.leaves.get_integer.Goals as goal

pub returns-in_err-value-in-Usize : goal.returns-in_err-value-in-Usize
returns-in_err-value-in-Usize g c =
    let o = c.in_err-value-in-Usize.ensures in
    rw c.in-Usize.is (got_refused (natural_shown Usize) (number_read 8 false) _ _ c.from_residual.ensures o.refused)

pub returns-in_err-value-in-U128 : goal.returns-in_err-value-in-U128
returns-in_err-value-in-U128 g c =
    let o = c.in_err-value-in-U128.ensures in
    rw c.in-U128.is (got_refused (natural_shown U128) (number_read 16 true) _ _ c.from_residual-in_err-value-in-U128.ensures o.refused)

pub returns-in_err-value-in-I8 : goal.returns-in_err-value-in-I8
returns-in_err-value-in-I8 g c =
    let o = c.in_err-value-in-I8.ensures in
    rw c.in-I8.is (got_refused (signed_shown I8) (signed_read w8 true) _ _ c.from_residual-in_err-value-in-I8.ensures o.refused)

pub returns-in_err-value-in-I16 : goal.returns-in_err-value-in-I16
returns-in_err-value-in-I16 g c =
    let o = c.in_err-value-in-I16.ensures in
    rw c.in-I16.is (got_refused (signed_shown I16) (signed_read w16 true) _ _ c.from_residual-in_err-value-in-I16.ensures o.refused)

pub returns-in_err-value-in-I32 : goal.returns-in_err-value-in-I32
returns-in_err-value-in-I32 g c =
    let o = c.in_err-value-in-I32.ensures in
    rw c.in-I32.is (got_refused (signed_shown I32) (signed_read w32 true) _ _ c.from_residual-in_err-value-in-I32.ensures o.refused)

pub returns-in_err-value-in-I64 : goal.returns-in_err-value-in-I64
returns-in_err-value-in-I64 g c =
    let o = c.in_err-value-in-I64.ensures in
    rw c.in-I64.is (got_refused (signed_shown I64) (signed_read w64 true) _ _ c.from_residual-in_err-value-in-I64.ensures o.refused)

pub returns-in_err-value-in-Isize : goal.returns-in_err-value-in-Isize
returns-in_err-value-in-Isize g c =
    let o = c.in_err-value-in-Isize.ensures in
    rw c.in-Isize.is (got_refused (signed_shown Isize) (signed_read w64 false) _ _ c.from_residual-in_err-value-in-Isize.ensures o.refused)

pub returns-in_err-value-in-I128 : goal.returns-in_err-value-in-I128
returns-in_err-value-in-I128 g c =
    let o = c.in_err-value-in-I128.ensures in
    rw c.in-I128.is (got_refused (signed_shown I128) (signed_read w128 true) _ _ c.from_residual-in_err-value-in-I128.ensures o.refused)
