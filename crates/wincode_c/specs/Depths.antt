-- How many lists, sets, maps and arrays are nested in a type.
use Rattle.std.specs.Prelude.{ℕ, suc, max}
use Rattle.wincode_describe.specs.declared.described.Described.{Described}
use Rattle.wincode_describe.specs.declared.described.Described.TheVariants as type
use Rattle.wincode_describe.specs.declared.described.Cases.{Cases}
use Rattle.wincode_describe.specs.declared.described.Cases.TheVariants.{Last', Case'}

abbrev mutual
  -- of how many a part of the type may stand in an item, at the most
  pub nested : Described → ℕ
  nested (type.List' s p d) = suc (nested d)
  nested (type.Set' p d) = suc (nested d)
  nested (type.Map' p d) = suc (nested d)
  nested (type.Array' n p d) = suc (nested d)
  nested (type.Option' p d) = nested d
  nested (type.Result' p d q e) = max (nested d) (nested e)
  nested (type.Boxed' p d) = nested d
  nested (type.Tuple' p d) = nested d
  nested (type.Struct' p d) = nested d
  nested (type.Joined' p d q e) = max (nested d) (nested e)
  nested (type.Field' s p d) = nested d
  nested (type.Enum' k p cases) = nested_cases cases
  nested d = 0

  -- so, of the cases of an enum
  pub nested_cases : Cases → ℕ
  nested_cases (Last' n p d) = nested d
  nested_cases (Case' n p d q others) = max (nested d) (nested_cases others)
