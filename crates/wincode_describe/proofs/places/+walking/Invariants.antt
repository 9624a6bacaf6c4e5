use Rattle.std.proofs.Common.{◌≡◌, map}
use Rattle.std.specs.String.{string_bytes}
use Rattle.wincode_describe.specs.Parts.{seen}
use Rattle.wincode_describe.specs.Places.{items_walk, type_walks}
use Rattle.wincode_describe.proofs.places.+walking.Given as goal

-- so far the items have their places
abbrev pub invariant-walk_items-loop-i : goal.invariant-walk_items-loop-i
invariant-walk_items-loop-i l = map string_bytes l.places.items
    ≡ items_walk (map seen l.fn.parts) (type_walks (map seen l.fn.parts) l.fn.item).whole l.i-counter l.fn.place (map string_bytes l.fn.places.items)
