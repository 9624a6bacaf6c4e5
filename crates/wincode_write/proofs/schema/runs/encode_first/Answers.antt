use Rattle.std.proofs.Common.{rules, ◌≡◌, length}
use Rattle.wincode_write.proofs.Fronts.{filled_none, filled_same, filled_more}
use Rattle.wincode_write.proofs.schema.runs.encode_first.Goals as goal

pub loop-i-init : goal.loop-i-init
loop-i-init g c = let T = g.T.SchemaWrite in filled_none T.writing T.model T.is_valid c.args.items.now c.args.dst.now

pub slice_bounds-encode_front-count : goal.slice_bounds-encode_front-count
slice_bounds-encode_front-count g c = c.loop-i.invariant.within

pub returns-in-None-clause-within : goal.returns-in-None-clause-within
returns-in-None-clause-within g c = let T = g.T.SchemaWrite in
    (filled_same T.writing T.model T.is_valid c.args.items.now c.loop-i.i c.loop-i.filled _ c.loop-i.dst c.encode_front.new.dst c.loop-i.invariant).within

pub returns-in-None-clause-encoded : goal.returns-in-None-clause-encoded
returns-in-None-clause-encoded g c =
    let T = g.T.SchemaWrite in
    let w = filled_same T.writing T.model T.is_valid c.args.items.now c.loop-i.i c.loop-i.filled _ c.loop-i.dst c.encode_front.new.dst c.loop-i.invariant in
    (w.can, w.writes)

pub returns-in-None-clause-is_valid : goal.returns-in-None-clause-is_valid
returns-in-None-clause-is_valid g c = c.loop-i.invariant.each

pub loop-i-preserved : goal.loop-i-preserved
loop-i-preserved g c =
    let T = g.T.SchemaWrite in
    filled_more T.writing T.model T.is_valid c.args.items.now c.loop-i.i c.loop-i.filled c.in-Some.size _ c.index-items-i.result c.loop-i-test.true
    c.index-items-i.is c.loop-i.dst c.encode_front.new.dst c.loop-i.invariant c.in-Some.ensures

pub returns-clause-within : goal.returns-clause-within
returns-clause-within g c = c.loop-i.invariant.within

pub returns-clause-encoded : goal.returns-clause-encoded
returns-clause-encoded g c =
    let end : c.loop-i.i ≡ length c.args.items.now = search rules in
    let w = rw end at c.loop-i.invariant in
    (w.can, w.writes)

pub returns-clause-is_valid : goal.returns-clause-is_valid
returns-clause-is_valid g c =
    let end : c.loop-i.i ≡ length c.args.items.now = search rules in
    let w = rw end at c.loop-i.invariant in
    w.each
