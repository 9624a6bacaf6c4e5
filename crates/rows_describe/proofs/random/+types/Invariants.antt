use Rattle.std.proofs.Common.{◌+◌, ◌*◌}
use Rattle.rows_describe.proofs.random.+types.Given as goal

abbrev pub decreases-push_type : goal.decreases-push_type
decreases-push_type l = 2 * l.levels

abbrev pub decreases-push_held : goal.decreases-push_held
decreases-push_held l = 2 * l.levels + 1

abbrev pub decreases-push_pair : goal.decreases-push_pair
decreases-push_pair l = 2 * l.levels + 1

abbrev pub decreases-push_array : goal.decreases-push_array
decreases-push_array l = 2 * l.levels + 1

abbrev pub decreases-push_struct : goal.decreases-push_struct
decreases-push_struct l = 2 * l.levels + 1

abbrev pub decreases-push_enum : goal.decreases-push_enum
decreases-push_enum l = 2 * l.levels + 1
