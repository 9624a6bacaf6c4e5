use Rattle.std.proofs.Common.{◌∙◌, true}
use Rattle.wincode_base.proofs.Views.{forms_count}
use Rattle.wincode_base.specs.Views.{form_prealloc}
use Rattle.wincode_write.proofs.schema.views.SliceViewToItemsPod.count.Goals as goal

pub returns-clause-count : goal.returns-clause-count
returns-clause-count g c = c.len.ensures ∙ forms_count g.T.ZeroCopy.byte_form true (form_prealloc g.T.ZeroCopy.size) _ _
