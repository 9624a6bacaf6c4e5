-- Where in its type each part of a value stands.
use Rattle.std.specs.Prelude.{◌≡◌, map, OnOk, Result, String, ℕ, zero, suc, ◌-◌, ◌^◌, min, Bool, nat_eq, nat_lt, if◌then◌else◌, List, [], ◌∷◌, ◌++◌}
use Rattle.std.specs.Prelude.{length, Option, Some, None, option_and_then, slice_get, codes, decimal, string_bytes}
use Rattle.wincode_describe.specs.Parts.{Part, Length, Tag}
use Rattle.wincode_describe.specs.declared.described.Described.{Described}
use Rattle.wincode_describe.specs.declared.described.Described.TheVariants as type
use Rattle.wincode_describe.specs.declared.described.Cases.{Cases}
use Rattle.wincode_describe.specs.declared.described.Cases.TheVariants.{Last', Case'}

-- an item of what stands at a place
abbrev pub item_at : List ℕ → ℕ → List ℕ
item_at at i = at ++ (codes "[" ++ (decimal i ++ codes "]"))

-- a member of it
abbrev pub member_at : List ℕ → ℕ → List ℕ
member_at at n = at ++ (codes "." ++ decimal n)

-- a field of it
abbrev pub field_at : List ℕ → List ℕ → List ℕ
field_at at name = at ++ (codes "." ++ name)

-- the number behind this one, or the greatest
abbrev pub next_number : ℕ → ℕ
next_number n = min (suc n) (2 ^ 64 - 1)

-- From where something stands, and the places so far: those and its own behind them.
abbrev pub Walk : Type 0
Walk = List ℕ → List (List ℕ) → List (List ℕ)

-- so the places were added, or memory for one was refused
abbrev pub Walked : {Z A E : Type 0} → Walk → List ℕ → List (String Z) → List (String Z) → Result A E → Type 0
Walked walk at old new r = OnOk r (map string_bytes new ≡ walk at (map string_bytes old))

-- Of a type: its walk, and its walk as a member with a number.
pub record Walks : Type 0 where
  pub whole : Walk
  pub member : ℕ → Walk

-- what is no field stands at its number
abbrev pub numbered : Walk → Walks
numbered walk = record { whole = walk; member = λ n at. walk (member_at at n) }

-- how many items a length says, and which tag a tag
abbrev pub number_of : Part → Option ℕ
number_of (Length s n) = Some n
number_of (Tag k t) = Some t
number_of p = None

-- as that number says, if there is one
abbrev pub by_number : (ℕ → Walk) → Option ℕ → Walk
by_number f None at so = so
by_number f (Some n) at so = f n at so

module _ (parts : List Part) where
  -- all parts have their place, and what stands behind them
  abbrev pub is_full : List (List ℕ) → Bool
  is_full so = nat_lt (length parts) (length so)

  -- one part stands there
  abbrev pub one_part : Walk
  one_part at so = if is_full so then so else so ++ (at ∷ [])

  -- the number that the last part has of those with a place
  abbrev pub last_number : List (List ℕ) → Option ℕ
  last_number [] = None
  last_number (p ∷ ps) = option_and_then number_of (slice_get parts (length ps))

  -- a length or a tag, and then as it says
  abbrev pub behind_one : (ℕ → Walk) → Walk
  behind_one f at so = by_number f (last_number (one_part at so)) at (one_part at so)

  -- Behind an option's tag: nothing, its value, or the refusal of another tag, at the option's own place.
  abbrev pub option_walk : Walk → ℕ → Walk
  option_walk content zero at so = so
  option_walk content (suc zero) at so = content at so
  option_walk content (suc (suc n)) at so = one_part at so

  -- So of a result: one of two values, or the refusal of another tag.
  abbrev pub result_walk : Walk → Walk → ℕ → Walk
  result_walk one other zero at so = one at so
  result_walk one other (suc zero) at so = other at so
  result_walk one other (suc (suc n)) at so = one_part at so

  -- so many items, each at its place
  abbrev pub items_walk : Walk → ℕ → Walk
  items_walk item zero at so = so
  items_walk item (suc n) at so = let before = items_walk item n at so in if is_full before then before else item (item_at at n) before

  -- a text or bytes: a length, and what stands behind it, at one place
  abbrev pub two_parts : Walk
  two_parts at so = one_part at (one_part at so)

  abbrev mutual
    -- The places of the type's parts.
    pub type_walks : Described → Walks
    type_walks type.Text = numbered two_parts
    type_walks (type.ByteList s) = numbered two_parts
    type_walks (type.Option' p d) = numbered (behind_one (option_walk (type_walks d).whole))
    type_walks (type.Result' p d q e) = numbered (behind_one (result_walk (type_walks d).whole (type_walks e).whole))
    type_walks (type.Boxed' p d) = numbered (type_walks d).whole
    type_walks (type.List' s p d) = numbered (behind_one (items_walk (type_walks d).whole))
    type_walks (type.Set' p d) = numbered (behind_one (items_walk (type_walks d).whole))
    type_walks (type.Map' p d) = numbered (behind_one (items_walk (type_walks d).whole))
    type_walks (type.Array' n p d) = numbered (items_walk (type_walks d).whole n)
    type_walks (type.Tuple' p d) = numbered ((type_walks d).member 0)
    type_walks (type.Struct' p d) = numbered ((type_walks d).member 0)
    type_walks (type.Joined' p d q e) = record {
      whole = λ at so. (type_walks e).member 1 at ((type_walks d).member 0 at so);
      member = λ n at so. (type_walks e).member (next_number n) at ((type_walks d).member n at so);
    }
    type_walks (type.Field' s p d) = record {
      whole = λ at. (type_walks d).whole (field_at at (string_bytes s));
      member = λ n at. (type_walks d).whole (field_at at (string_bytes s));
    }
    type_walks (type.Enum' k p cases) = numbered (behind_one (case_walk cases))
    type_walks d = numbered one_part

    -- Of the case with the tag; or the refusal of a tag that names none, at the enum's own place.
    pub case_walk : Cases → ℕ → Walk
    case_walk (Last' n p d) t at so = if nat_eq n t then (type_walks d).whole at so else one_part at so
    case_walk (Case' n p d q others) t at so = if nat_eq n t then (type_walks d).whole at so else case_walk others t at so

-- The places of the parts of the type, and of what stands behind them, if anything does.
abbrev pub places : Described → List Part → List (List ℕ)
places d parts = (type_walks parts d).whole [] []
