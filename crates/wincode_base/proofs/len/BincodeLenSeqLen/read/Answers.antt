use Rattle.std.proofs.Common.{arith, refl, min, ◌≡◌, ◌<◌, ◌≤◌, ◌*◌, ◌^◌}
use Rattle.wincode_io.specs.Writers.{byte_limit}
use Rattle.wincode_base.specs.Lengths.{length_read, bincode}
use Rattle.wincode_base.proofs.ReadAnswers.{get_refused}
use Rattle.wincode_base.proofs.Lengths.{length_denied, length_given, length_not_accepted}
use Rattle.wincode_base.proofs.len.BincodeLenSeqLen.read.Goals as goal

pub returns-in_err-len : goal.returns-in_err-len
returns-in_err-len g c =
    get_refused (length_read (bincode g.row.MAX_SIZE) c.args.prealloc) (λ n. n) _ _ c.from_residual.ensures
    (length_denied g.row.MAX_SIZE c.args.prealloc _ _ _ c.in_err-len.ensures.err)

pub returns-in-Some : goal.returns-in-Some
returns-in-Some g c =
    let product = c.in-Some.ensures in
    let within : c.in_ok-len.len * c.args.prealloc ≤ g.row.MAX_SIZE = omega (arith, product.1) in
    record { ok = length_given g.row.MAX_SIZE c.args.prealloc _ _ _ c.in_ok-len.ensures.ok within; refused = tt }

pub returns-in-Some-2 : goal.returns-in-Some-2
returns-in-Some-2 g c =
    let product = c.in-Some-2.ensures in
    let over : g.row.MAX_SIZE < c.in_ok-len.len * c.args.prealloc = omega (arith, product.1) in
    let taken = c.in_ok-len.ensures.ok in
    let first = c.in-Some.ensures in
    let needed : c.in-Some.needed ≡ min (c.in_ok-len.len * c.args.prealloc) byte_limit = omega (arith, first.0, first.1) in
    rw c.preallocation_size_limit.ensures (record {
      ok = tt;
      refused = (length_not_accepted g.row.MAX_SIZE c.args.prealloc _ _ _ taken over _ _, (_, (taken, over, needed, refl)));
    })

pub returns-in-None : goal.returns-in-None
returns-in-None g c =
    let product : c.in_ok-len.len * c.args.prealloc < 2 ^ 64 → ⊥ = c.in-None.ensures in
    let fits : g.row.MAX_SIZE < 2 ^ 64 = omega (arith, g.MAX_SIZE.fits) in
    let over : g.row.MAX_SIZE < c.in_ok-len.len * c.args.prealloc = omega (arith, product) in
    let taken = c.in_ok-len.ensures.ok in
    let needed : byte_limit ≡ min (c.in_ok-len.len * c.args.prealloc) byte_limit = omega (arith, product) in
    rw c.preallocation_size_limit-in-None.ensures (record {
      ok = tt;
      refused = (length_not_accepted g.row.MAX_SIZE c.args.prealloc _ _ _ taken over _ _, (_, (taken, over, needed, refl)));
    })
