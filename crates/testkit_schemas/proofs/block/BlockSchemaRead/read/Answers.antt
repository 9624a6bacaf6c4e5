use Rattle.std.proofs.Common.{rules, refl, true}
use Rattle.wincode_base.specs.FixedSizeLaws.{denied_refuses, takes_gives, puts}
use Rattle.testkit_schemas.specs.Block.{block_read}
use Rattle.testkit_schemas.proofs.Zeros.{other_refuses}
use Rattle.testkit_schemas.proofs.block.BlockSchemaRead.read.Goals as goal

pub returns-in_err-take_zeros : goal.returns-in_err-take_zeros
returns-in_err-take_zeros g c =
    let h = denied_refuses (block_read 4611686018427387904).reads 4611686018427387904 (λ b v r. r.0)
    0 true _ _ c.in_err-take_zeros.field-0.0 c.in_err-take_zeros.ensures.err in search (rules, h)

pub returns-then-not-branch : goal.returns-then-not-branch
returns-then-not-branch g c =
    let taken = c.in_ok-take_zeros.ensures.ok in
    record { ok = tt; refused = (other_refuses 4611686018427387904 _ _ taken.0 taken.1 (taken.2.1 c.if-not-branch.true) _, tt); same = refl }

pub returns : goal.returns
returns g c =
    let taken = c.in_ok-take_zeros.ensures.ok in
    record {
      ok = puts (block_read 4611686018427387904).reads (λ x. x) _ _ tt
          (takes_gives (block_read 4611686018427387904).reads 4611686018427387904 _ _ taken.0 tt taken.1 (taken.1.size, taken.2.0 c.if-not-branch.false));
      refused = tt;
      same = tt;
    }
