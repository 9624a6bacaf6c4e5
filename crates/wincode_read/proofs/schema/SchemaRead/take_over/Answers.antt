use Rattle.std.proofs.Common.{refl, ap, sym, arith, ◌∙◌, ◌≡◌, ◌+◌, ◌*◌, ◌<◌, length, take, drop}
use Rattle.std.proofs.lemmas.List.{drop-drop}
use Rattle.wincode_base.proofs.Decoding.{decoded_more}
use Rattle.wincode_read.proofs.schema.SchemaRead.take_over.Goals as goal

pub loop-i-preserved : goal.loop-i-preserved
loop-i-preserved g c =
    let T = g.Self.SchemaRead in
    let bytes = c.args.bytes.now in
    let at = c.loop-i.i * c.in-Static.size in
    let within : c.loop-i.i < length c.loop-i.places = omega (arith, c.loop-i-test.true, c.loop-i.auto.places) in
    let next : (c.loop-i.i + 1) * c.in-Static.size ≡ at + c.in-Static.size = grind arith in
    decoded_more T.reading.reads T.model bytes (drop at bytes) c.loop-i.i c.in-Static.size c.loop-i.places c.decode.new.place _ _ c.loop-i.invariant within
    (ap (λ k. take k (drop at bytes)) (omega arith)) (ap (λ k. drop k bytes) next ∙ sym (drop-drop c.in-Static.size at bytes)) (c.if-not-decode.ensures refl)
