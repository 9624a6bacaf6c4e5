use Rattle.std.proofs.Common.{◌∙◌, sym, ap, map, arith}
use Rattle.std.specs.String.{string_bytes}
use Rattle.wincode_describe.specs.Parts.{seen}
use Rattle.wincode_describe.specs.Places.{is_full, type_walks}
use Rattle.wincode_describe.proofs.Placed.{full_items}
use Rattle.wincode_describe.proofs.places.+walking.Goals as goal

pub walk_items-returns-then-is_full : goal.walk_items-returns-then-is_full
walk_items-returns-then-is_full t c =
    let parts = map seen c.args.parts.now in
    let item = (type_walks parts c.args.item.now).whole in
    let so = c.loop-i.invariant in
    let full = sym (ap (is_full parts) (ap (map string_bytes) c.as_slice.ensures.value ∙ so)) ∙ sym c.is_full.ensures ∙ c.if-is_full.true in
    so ∙ full_items parts item c.args.place.now (map string_bytes c.args.places.now.items) c.loop-i.i-counter c.args.n (omega (arith, c.loop-i-test.true)) full
