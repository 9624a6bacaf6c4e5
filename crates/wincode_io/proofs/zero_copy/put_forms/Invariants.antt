use Rattle.std.proofs.Common.{◌≡◌, ◌*◌, ◌++◌, length, take, drop}
use Rattle.std.specs.List.{All, flat_map}
use Rattle.wincode_io.proofs.zero_copy.put_forms.Given as goal

abbrev pub invariant-loop-i : goal.invariant-loop-i
invariant-loop-i g l = record {
  is_valid : All g.T.ZeroCopy.is_valid (take l.i l.values);
  joined : length (flat_map g.T.ZeroCopy.form (take l.i l.values)) ≡ l.i * g.T.ZeroCopy.size;
  so_far : l.dst ≡ flat_map g.T.ZeroCopy.form (take l.i l.values) ++ drop (l.i * g.T.ZeroCopy.size) l.fn.dst;
}
