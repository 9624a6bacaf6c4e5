use Rattle.std.proofs.Common.{◌≡◌, ◌∙◌, sym, ap, subst, List, ◌++◌, map, None, Some}
use Rattle.wincode_describe.specs.Explained.{ExplainsRead}
use Rattle.wincode_describe.specs.Parts.{seen}
use Rattle.wincode_describe.specs.declared.shown.Shown.{Shown}
use Rattle.wincode_describe.proofs.Shows.{read_explains}
use Rattle.wincode_describe.proofs.explaining.explain_read.Goals as goal

pub returns-in-Ok : goal.returns-in-Ok
returns-in-Ok g c =
    let s = c.in-Ok.ensures.ok in
    let whole : c.show_parts.new.shown.items ≡ s.more = s.is ∙ ap (λ t. t ++ s.more) c.new-parts.ensures.items in
    let P : List Shown → Type 0 = λ xs. ExplainsRead c.args.described.now (g.R.Reader.state c.args.reader.now) (g.R.Reader.state c.show_parts.new.reader)
    (map seen xs) None in
    subst P (sym whole) (read_explains c.args.described.now _ _ (map seen s.more) s.gives)

pub returns-in-Err : goal.returns-in-Err
returns-in-Err g c =
    let o = c.in-Err.ensures in
    let b = o.began in
    let whole : c.show_parts.new.shown.items ≡ b.more = b.is ∙ ap (λ t. t ++ b.more) c.new-parts.ensures.items in
    let P : List Shown → Type 0 = λ xs. ExplainsRead c.args.described.now (g.R.Reader.state c.args.reader.now) (g.R.Reader.state c.show_parts.new.reader)
    (map seen xs) (Some c.in-Err.error) in
    subst P (sym whole) (b.front, o.refused)
