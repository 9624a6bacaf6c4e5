use Rattle.std.proofs.Common.{refl, sym, true≢false, rules, arith, ◌∙◌}
use Rattle.wincode_base.proofs.Decoding.{added_none, added_more, added_all}
use Rattle.wincode_read.proofs.schema.SchemaRead.take_items.Goals as goal

pub loop-i-init : goal.loop-i-init
loop-i-init g c = added_none g.Self.SchemaRead.reading.reads g.Self.SchemaRead.model _ _

pub returns-then-rest-size : goal.returns-then-rest-size
returns-then-rest-size g c = (c.loop-i.invariant.items, c.loop-i.invariant.is, λ t. absurd (true≢false (sym t)))

pub returns-then-not-add_decoded : goal.returns-then-not-add_decoded
returns-then-not-add_decoded g c = (
  c.loop-i.invariant.items,
  c.if-not-add_decoded.ensures.left refl ∙ c.loop-i.invariant.is,
  λ t. absurd (true≢false (sym t)),
)

pub loop-i-preserved : goal.loop-i-preserved
loop-i-preserved g c =
    let T = g.Self.SchemaRead in
    let one = c.if-not-add_decoded.ensures.added refl in
    added_more T.reading.reads T.model _ _ _ c.in-Static.size _ _ _ one.0 _ _ c.loop-i.invariant one.2 c.split_at.ensures.front
    c.split_at.ensures.back one.1

pub returns : goal.returns
returns g c =
    let T = g.Self.SchemaRead in (
      c.loop-i.invariant.items,
      c.loop-i.invariant.is,
      λ t. added_all T.reading.reads T.model _ _ c.loop-i._i _ _ _ c.loop-i.invariant
          (omega (arith, c.loop-i-test.false, c.loop-i.auto._i-end)) (search (rules, t)),
    )
