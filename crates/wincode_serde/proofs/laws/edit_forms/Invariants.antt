use Rattle.std.proofs.Common.{◌≡◌, take}
use Rattle.std.specs.List.{All}
use Rattle.wincode_io.specs.Edits.{all_edited, in_places}
use Rattle.wincode_serde.proofs.laws.edit_forms.Given as goal

abbrev pub invariant-loop-i : goal.invariant-loop-i
invariant-loop-i g l = record {
  same : l.view.forms.ghost_name ≡ l.initial.view.forms.ghost_name;
  count : l.view.n ≡ l.fn.n;
  so_far : l.view.forms.now ≡ all_edited g.T.ZeroCopy.size l.fn.forms (in_places g.T.ZeroCopy.form (take l.i-index l.edits));
  is_valid : All (λ e. g.T.ZeroCopy.is_valid e.1) (take l.i-index l.edits);
}
