use Rattle.std.proofs.Common.{refl, inl, inr}
use Rattle.wincode_base.specs.PairLaws.{pair_gives, pair_first, pair_second}
use Rattle.wincode_base.proofs.ReadAnswers.{read_refused}
use Rattle.wincode_read.proofs.schema.tuples.Members2SchemaRead.read.Goals as goal

pub returns-in_err-first : goal.returns-in_err-first
returns-in_err-first g c =
    let o = c.in_err-first.ensures in
    read_refused _ _ _ _ _ _ c.from_residual.ensures refl (pair_first g.A.SchemaRead.reading g.B.SchemaRead.reading _ _ _ o.refused.0, inl o.refused)

pub returns-in_err-second : goal.returns-in_err-second
returns-in_err-second g c =
    let a = c.in_ok-first.ensures.ok in
    let o = c.in_err-second.ensures in
    read_refused _ _ _ _ _ _ c.from_residual-in_err-second.ensures refl (
      pair_second g.A.SchemaRead.reading g.B.SchemaRead.reading g.met.A.SchemaRead.read_laws.one_front _ _ _ _ _ a o.refused.0,
      inr (_, _, a, o.refused),
    )

pub returns : goal.returns
returns g c = record {
  ok = pair_gives g.A.SchemaRead.reading g.B.SchemaRead.reading _ _ _ _ _ c.in_ok-first.ensures.ok c.in_ok-second.ensures.ok;
  refused = tt;
  same = tt;
}
