use Rattle.std.proofs.Common.{rules, ◌≡◌, refl, max, arith}
use Rattle.wincode_io.specs.Writers.{byte_limit}
use Rattle.wincode_base.specs.LengthLaws.{bincode_laws}
use Rattle.wincode_base.specs.Lengths.{bincode}
use Rattle.wincode_base.specs.Views.{form_item_write}
use Rattle.wincode.proofs.Within.{free_fits}
use Rattle.wincode.proofs.limits.leaves.SliceViewLimited.is_within.Goals as goal

pub returns-in-Some-clause-within : goal.returns-in-Some-clause-within
returns-in-Some-clause-within g c = λ is valid.
    let T = g.T.ZeroCopy in
    let counts : c.max.result ≡ max T.size 1 = search rules in
    free_fits (bincode byte_limit) (bincode_laws byte_limit) (form_item_write T.is_valid T.size T.form) (λ v. tt) _ _ _ c.count-count.ensures.count counts
    (c.admits.ensures.within is)

pub returns-in-None-clause-within : goal.returns-in-None-clause-within
returns-in-None-clause-within g c = λ is valid.
    let T = g.T.ZeroCopy in
    let none : c.count-count.result ≡ 0 = search rules in
    free_fits (bincode byte_limit) (bincode_laws byte_limit) (form_item_write T.is_valid T.size T.form) (λ v. tt) _ c.count-count.result (max T.size 1)
    c.count-count.ensures.count refl (omega (arith, none), rw none (omega arith))
