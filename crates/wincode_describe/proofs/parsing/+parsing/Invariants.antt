use Rattle.std.proofs.Common.{◌+◌, ◌*◌}
use Rattle.wincode_describe.proofs.parsing.+parsing.Given as goal

abbrev pub decreases-whole_type : goal.decreases-whole_type
decreases-whole_type l = 8 * l.levels + 5

abbrev pub decreases-type_at : goal.decreases-type_at
decreases-type_at l = 8 * l.levels + 4

abbrev pub decreases-tuple_at : goal.decreases-tuple_at
decreases-tuple_at l = 8 * l.levels + 5

abbrev pub decreases-members_at : goal.decreases-members_at
decreases-members_at l = 8 * l.levels + 5

abbrev pub decreases-array_at : goal.decreases-array_at
decreases-array_at l = 8 * l.levels + 5

abbrev pub decreases-short_at : goal.decreases-short_at
decreases-short_at l = 8 * l.levels + 5

abbrev pub decreases-one_at : goal.decreases-one_at
decreases-one_at l = 8 * l.levels + 5

abbrev pub decreases-two_at : goal.decreases-two_at
decreases-two_at l = 8 * l.levels + 5

abbrev pub decreases-struct_at : goal.decreases-struct_at
decreases-struct_at l = 8 * l.levels + 6

abbrev pub decreases-fields_at : goal.decreases-fields_at
decreases-fields_at l = 8 * l.levels + 5

abbrev pub decreases-enum_at : goal.decreases-enum_at
decreases-enum_at l = 8 * l.levels + 6

abbrev pub decreases-cases_at : goal.decreases-cases_at
decreases-cases_at l = 8 * l.levels + 5

abbrev pub decreases-container_at : goal.decreases-container_at
decreases-container_at l = 8 * l.levels + 5

abbrev pub decreases-range_at : goal.decreases-range_at
decreases-range_at l = 8 * l.levels + 5

abbrev pub decreases-cow_at : goal.decreases-cow_at
decreases-cow_at l = 8 * l.levels + 5

abbrev pub decreases-content_at : goal.decreases-content_at
decreases-content_at l = 8 * l.levels + 6

abbrev pub decreases-numbered_at : goal.decreases-numbered_at
decreases-numbered_at l = 8 * l.levels + 5

abbrev pub decreases-braced_at : goal.decreases-braced_at
decreases-braced_at l = 8 * l.levels + 6

abbrev pub decreases-rounded_at : goal.decreases-rounded_at
decreases-rounded_at l = 8 * l.levels + 6

abbrev pub decreases-shape_at : goal.decreases-shape_at
decreases-shape_at l = 8 * l.levels + 7

abbrev pub decreases-held_at : goal.decreases-held_at
decreases-held_at l = 8 * l.levels + 5

abbrev pub decreases-variants_at : goal.decreases-variants_at
decreases-variants_at l = 8 * l.levels + 5

abbrev pub decreases-declared_struct : goal.decreases-declared_struct
decreases-declared_struct l = 8 * l.levels + 8

abbrev pub decreases-declared_enum : goal.decreases-declared_enum
decreases-declared_enum l = 8 * l.levels + 8

abbrev pub decreases-found_type : goal.decreases-found_type
decreases-found_type l = 8 * l.levels + 9

abbrev pub decreases-named_type : goal.decreases-named_type
decreases-named_type l = 8 * l.levels + 10
