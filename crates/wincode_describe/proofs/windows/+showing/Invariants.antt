use Rattle.std.proofs.Common.{◌≡◌, List, map}
use Rattle.wincode_io.specs.Joins.{AreItems}
use Rattle.wincode_io.specs.Windows.{window_state}
use Rattle.wincode_base.specs.Outcomes.{Gives}
use Rattle.wincode_describe.specs.Parts.{Part, seen}
use Rattle.wincode_describe.specs.ShownGrammars.{joined}
use Rattle.wincode_describe.specs.Types.{described_read}
use Rattle.wincode_describe.specs.declared.shown.Shown.{Shown}
use Rattle.wincode_describe.proofs.windows.+showing.Given as goal

-- so far items of a front were read, and their parts were added
abbrev pub invariant-show_items-loop-i : goal.invariant-show_items-loop-i
invariant-show_items-loop-i g l = (vs : List (List Part)) × (more : List Shown)
    × Gives (AreItems l._i (described_read l.fn.item).reads) (window_state l.fn.reader) (window_state l.reader) vs
    × g.S.PartSink.took l.fn.shown more l.shown
    × (map seen more ≡ joined vs)
