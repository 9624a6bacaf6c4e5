-- What contracts see of views: the values of the forms that they look at.
use Rattle.std.specs.Prelude.{List}
use Rattle.wincode_io.specs.Forms.{values}
use Rattle.wincode_io.specs.declared.lending.Held.{Ghosts as HeldGhosts}
use Rattle.wincode_io.specs.declared.zero_copy.ZeroCopy.{Ghosts as FormGhosts}
use Rattle.wincode_io.specs.declared.view.View.{View}
use Rattle.wincode_io.specs.declared.view.SliceView.{SliceView}

-- the value of the form that a view looks at
abbrev pub value_seen : {B T : Type 0} {h : HeldGhosts B} {z : FormGhosts T} → View B T h z → T
value_seen {h = h} {z = z} v = z.value (h.holds v.bytes)

-- the values of the forms that a view of many looks at
abbrev pub values_seen : {B T : Type 0} {h : HeldGhosts B} {z : FormGhosts T} → SliceView B T h z → List T
values_seen {h = h} {z = z} v = values z.value z.size v.n (h.holds v.forms)
