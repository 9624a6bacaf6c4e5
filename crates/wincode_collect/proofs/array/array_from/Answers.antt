use Rattle.std.proofs.Common.{rules, sym, ap, ◌∙◌, subst, subst₂, ◌<◌, ◌-◌}
use Rattle.wincode_collect.specs.Calls.{Gave, Failed}
use Rattle.wincode_collect.proofs.Runs.{ran, broke}
use Rattle.wincode_collect.proofs.array.array_from.Goals as goal

pub returns-in-Ok-clause-ok : goal.returns-in-Ok-clause-ok
returns-in-Ok-clause-ok g c =
    let R = g.F.ItemSource.gives in let given = c.new-filling.ensures in let back = c.into_inner-source.ensures in
    let got = ran R (λ s. s.ahead) (λ s. s.source.now) (λ s. s.error) (λ s. s.source.ghost_name)
    c.new-filling.result.source c.args.first c.in-Ok.items c.array-result.new.self.source
    (ap (λ s. s.ahead) given) (subst (λ k. 0 < k) (sym c.in-Ok.ensures.0) c.requires) c.in-Ok.ensures.1 in
    let name = ap (λ s. s.source.ghost_name) back ∙ got.same ∙ ap (λ s. s.source.ghost_name) given in
    let gave = subst₂ (λ s t. Gave R s.source.now got.more t.source.now) given (sym back) got.gave in
    let long = c.in-Ok.ensures.0 in let are = got.are in
    search rules

pub returns-in-Some-clause-err : goal.returns-in-Some-clause-err
returns-in-Some-clause-err g c =
    let R = g.F.ItemSource.gives in let given = c.new-filling.ensures in let back = c.into_inner-source.ensures in
    let got = broke R (λ s. s.ahead) (λ s. s.source.now) (λ s. s.error) (λ s. s.source.ghost_name)
    c.new-filling.result.source c.args.first g.row.N c.array-result.new.self.source
    (ap (λ s. s.ahead) given) c.in-Err.ensures in
    let name = ap (λ s. s.source.ghost_name) back ∙ got.same ∙ ap (λ s. s.source.ghost_name) given in
    let failed = subst₂ (λ s t. Failed R s.source.now (g.row.N - 1) got.of t.source.now) given (sym back) got.failed in
    let same = sym c.in-Some.is ∙ ap (λ s. s.error) back ∙ got.is in
    search rules
