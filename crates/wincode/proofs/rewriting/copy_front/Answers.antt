use Rattle.std.proofs.Common.{◌∙◌, ap, ◌++◌}
use Rattle.std.proofs.lemmas.Result.{IfOk-weaker}
use Rattle.wincode.proofs.rewriting.copy_front.Goals as goal

pub returns-clause-ok : goal.returns-clause-ok
returns-clause-ok g c =
    IfOk-weaker c.rewrite.result _ _ (λ text r told. let w = r told in
    w.joins ∙ ap (λ t. t ++ (g.R.Reader.state c.rewrite.new.reader).rest) (g.met.T.OneText.one_text.same w.front text.items _ w.is_read w.reads_back))
    c.rewrite.ensures.ok
