use Rattle.std.proofs.Common.{rules, ◌≡◌, ◌*◌, ◌≤◌, length, arith, refl}
use Rattle.wincode_write.proofs.Fronts.{filled_all, sized_none, sized_more}
use Rattle.wincode_write.proofs.schema.SchemaWrite.put_items.Goals as goal

pub loop-i-init : goal.loop-i-init
loop-i-init g c = let T = g.Self.SchemaWrite in sized_none T.writing T.model T.is_valid c.args.items.now c.in-Static.size c.args.dst.now

pub loop-i-preserved : goal.loop-i-preserved
loop-i-preserved g c =
    let T = g.Self.SchemaWrite in
    let size : length c.encode.new.dst ≡ c.in-Static.size = search rules in
    sized_more T.writing T.model T.is_valid c.args.items.now c.loop-i.i c.in-Static.size _ c.index-items-i.result c.loop-i-test.true c.index-items-i.is
    c.loop-i.dst c.encode.new.dst c.loop-i.invariant size (c.if-not-encode.ensures refl)

pub returns : goal.returns
returns g c =
    let T = g.Self.SchemaWrite in
    let end : length c.args.items.now ≤ c.loop-i.i = search rules in
    let all : length c.loop-i.dst ≡ length c.args.items.now * c.in-Static.size = search rules in
    let full : length c.loop-i.dst ≤ c.loop-i.i * c.in-Static.size = grind (arith, all, end) in
    λ done. filled_all T.writing T.model T.is_valid c.args.items.now c.loop-i.i (c.loop-i.i * c.in-Static.size) c.loop-i.dst end full c.loop-i.invariant
