use Rattle.std.proofs.Common.{inl, inr}
use Rattle.wincode_base.specs.ListLaws.{list_gives, list_first, list_second}
use Rattle.wincode_base.specs.Lists.{run_read, list_read_of}
use Rattle.wincode_base.proofs.ReadAnswers.{make_refused, make_map}
use Rattle.wincode_read.proofs.schema.from_items.get_list_of.Goals as goal

pub returns-in_err-n : goal.returns-in_err-n
returns-in_err-n g c = let T = g.T.SchemaRead.reading in let S = g.T.SchemaRead.model in
    let o = rw c.prealloc_size.ensures at c.in_err-n.ensures in
    make_refused (list_read_of g.Len.SeqLen.scheme 1 c.args.size T) S _ _ _ c.from_residual.ensures
    (list_first g.Len.SeqLen.scheme T _ _ _ o.refused.0, inl o.refused)

pub returns : goal.returns
returns g c = let T = g.T.SchemaRead.reading in let S = g.T.SchemaRead.model in
    let s = g.Len.SeqLen.scheme in
    let o = rw c.prealloc_size.ensures at c.in_ok-n.ensures in
    make_map (run_read _ c.args.size T) S _ (list_read_of s 1 c.args.size T) c.get_run.result (λ vs x. list_gives s T _ _ _ _ vs o.ok x)
    (λ e p. (list_second s T g.Len.SeqLen.scheme_laws _ _ _ _ e o.ok p.0, inr (_, _, o.ok, p.1))) c.get_run.ensures
