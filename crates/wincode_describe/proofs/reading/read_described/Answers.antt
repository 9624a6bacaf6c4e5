use Rattle.std.proofs.Common.{◌≡◌, ◌∙◌, sym, ap, subst, List, ◌++◌, map}
use Rattle.wincode_base.specs.Outcomes.{Gives}
use Rattle.wincode_base.proofs.ReadAnswers.{get_refused}
use Rattle.wincode_describe.specs.Parts.{seen}
use Rattle.wincode_describe.specs.Types.{described_read}
use Rattle.wincode_describe.specs.declared.shown.Shown.{Shown}
use Rattle.wincode_describe.proofs.reading.read_described.Goals as goal

pub returns-in_err-show_parts : goal.returns-in_err-show_parts
returns-in_err-show_parts g c = get_refused (described_read c.args.described.now) _ _ _ c.from_residual.ensures c.in_err-show_parts.ensures.refused

pub returns : goal.returns
returns g c =
    let s = c.in_ok-show_parts.ensures.ok in
    let whole : c.show_parts.new.shown.items ≡ s.more = s.is ∙ ap (λ t. t ++ s.more) c.new-shown.ensures.items in
    let P : List Shown → Type 0 = λ xs. Gives (described_read c.args.described.now).reads (g.R.Reader.state c.args.reader.now)
    (g.R.Reader.state c.show_parts.new.reader) (map seen xs) in
    record { ok = subst P (sym whole) s.gives; refused = tt }
