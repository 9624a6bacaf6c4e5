-- Described types, wherever they lie in memory.
use Rattle.std.specs.Prelude.{ℕ, List, string_bytes}
use Rattle.wincode_describe.specs.declared.described.Integer.{Integer}
use Rattle.wincode_describe.specs.declared.described.StdType.{StdType}
use Rattle.wincode_describe.specs.declared.described.LengthScheme.{LengthScheme}
use Rattle.wincode_describe.specs.declared.described.TagSize.{TagSize}
use Rattle.wincode_describe.specs.declared.described.Described.{Described}
use Rattle.wincode_describe.specs.declared.described.Described.TheVariants as type
use Rattle.wincode_describe.specs.declared.described.Cases.{Cases}
use Rattle.wincode_describe.specs.declared.described.Cases.TheVariants.{Last', Case'}

-- A described type, or a part of one: the members of a tuple, the fields of a struct or the cases of an enum.
pub data Form : Type 0 where
  Number : (integer : Integer) → Form
  NotZero : (integer : Integer) → Form
  Standard : (kind : StdType) → Form
  Flag : Form
  Letter : Form
  Nothing : Form
  Words : Form
  Bytes : (scheme : LengthScheme) → Form
  ByteBlock : (n : ℕ) → Form
  Maybe : (content : Form) → Form
  Either : (one other : Form) → Form
  Held : (content : Form) → Form
  Many : (scheme : LengthScheme) (item : Form) → Form
  Several : (item : Form) → Form
  Pairs : (pair : Form) → Form
  Block : (n : ℕ) (item : Form) → Form
  Group : (members : Form) → Form
  Record : (fields : Form) → Form
  Both : (first others : Form) → Form
  Named : (name : List ℕ) (content : Form) → Form
  Choice : (size : TagSize) (cases : Form) → Form
  LastCase : (tag : ℕ) (content : Form) → Form
  OneCase : (tag : ℕ) (content others : Form) → Form

abbrev mutual
  -- what contracts see of a described type
  pub seen : Described → Form
  seen (type.Integer i) = Number i
  seen (type.NonZero i) = NotZero i
  seen (type.Std k) = Standard k
  seen type.Bool = Flag
  seen type.Char = Letter
  seen type.Unit = Nothing
  seen type.Text = Words
  seen (type.ByteList s) = Bytes s
  seen (type.ByteArray n) = ByteBlock n
  seen (type.Option' p d) = Maybe (seen d)
  seen (type.Result' p d q e) = Either (seen d) (seen e)
  seen (type.Boxed' p d) = Held (seen d)
  seen (type.List' s p d) = Many s (seen d)
  seen (type.Set' p d) = Several (seen d)
  seen (type.Map' p d) = Pairs (seen d)
  seen (type.Array' n p d) = Block n (seen d)
  seen (type.Tuple' p d) = Group (seen d)
  seen (type.Struct' p d) = Record (seen d)
  seen (type.Joined' p d q e) = Both (seen d) (seen e)
  seen (type.Field' s p d) = Named (string_bytes s) (seen d)
  seen (type.Enum' k p cases) = Choice k (seen_cases cases)

  -- and of the cases of an enum
  pub seen_cases : Cases → Form
  seen_cases (Last' n p d) = LastCase n (seen d)
  seen_cases (Case' n p d q others) = OneCase n (seen d) (seen_cases others)
