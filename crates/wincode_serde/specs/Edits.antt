-- Edits of forms where they stand, behind their number or alone.
use Rattle.std.specs.Prelude.{◌≡◌, ◌⊎◌, ℕ, ◌*◌, ◌<◌, ◌≤◌, ◌^◌, List, [], ◌∷◌, ◌++◌, length, min, codes}
use Rattle.std.specs.List.{All}
use Rattle.wincode_io.specs.Edits.{all_edited, in_places, in_first, all_set}
use Rattle.wincode_io.specs.Forms.{values}
use Rattle.wincode_io.specs.Numbers.{le}
use Rattle.wincode_io.specs.Writers.{byte_limit}
use Rattle.wincode_base.specs.declared.error.ReadError.{ReadError}
use Rattle.wincode_base.specs.declared.error.ReadError.TheVariants as reading
use Rattle.wincode_io.specs.declared.error.ReadError.TheVariants as reader

-- the bytes are a number of forms of s bytes, as eight bytes, then these forms, and then more
pub record HasForms (s : ℕ) (bytes : List ℕ) : Type 0 where
  pub count : ℕ
  pub forms : List ℕ
  pub more : List ℕ
  pub few : count < 2 ^ 64
  pub size : length forms ≡ count * s
  pub joins : bytes ≡ le 8 count ++ (forms ++ more)

-- The edits are done in the forms, one after another; the number before them and what stands behind them are as they
-- were. The forms are those of the values with each new one put in its place.
pub record EditedInPlace {X : Type 0} (s : ℕ) (form : X → List ℕ) (value : List ℕ → X) (old : List ℕ) (edits : List (ℕ × X)) (new : List ℕ) : Type 0 where
  pub has : HasForms s old
  pub within : All (λ e. e.0 < has.count) edits
  pub is : new ≡ le 8 has.count ++ (all_edited s has.forms (in_places form edits) ++ has.more)
  pub values_are : values value s has.count (all_edited s has.forms (in_places form edits)) ≡ all_set (values value s has.count has.forms) edits

-- the bytes are a number of forms, as eight bytes, and then more
pub record HasCount (bytes : List ℕ) : Type 0 where
  pub count : ℕ
  pub more : List ℕ
  pub few : count < 2 ^ 64
  pub joins : bytes ≡ le 8 count ++ more

-- Why edits behind a number are refused: there are too few bytes for the number, or for the forms; the forms have more
-- bytes than there can be; or an edit names a place that there isn't.
abbrev pub EditRefused : {X : Type 0} → ℕ → List ℕ → List (ℕ × X) → ReadError → Type 0
EditRefused s old edits (reading.Io (reader.ReadSizeLimit n)) = ((length old < 8) × (n ≡ 8))
    ⊎ ((has : HasCount old) × (length has.more < has.count * s) × (has.count * s < 2 ^ 64) × (n ≡ has.count * s))
EditRefused s old edits (reading.LengthEncodingOverflow t) = (has : HasCount old) × (2 ^ 64 ≤ has.count * s) × (t.now ≡ codes "usize::MAX")
EditRefused s old edits (reading.Custom t) = (has : HasForms s old) × (All (λ e. e.0 < has.count) edits → ⊥) × (t.now ≡ codes "index")
EditRefused s old edits _ = ⊥

-- the last of some values, or x where there are none
abbrev pub last_of : {X : Type 0} → X → List X → X
last_of x [] = x
last_of x (y ∷ ys) = last_of y ys

-- Each value's form was put over the first s bytes in turn, which read as the last of them; those behind are as they were.
pub record EditedFirst {X : Type 0} (s : ℕ) (form : X → List ℕ) (value : List ℕ → X) (old : List ℕ) (news : List X) (new : List ℕ) : Type 0 where
  pub first : List ℕ
  pub more : List ℕ
  pub size : length first ≡ s
  pub joins : old ≡ first ++ more
  pub is : new ≡ all_edited s first (in_first form news) ++ more
  pub value_is : value (all_edited s first (in_first form news)) ≡ last_of (value first) news

-- there are fewer than s bytes, named as at most `usize::MAX`
abbrev pub FirstEditRefused : ℕ → List ℕ → ReadError → Type 0
FirstEditRefused s old e = (length old < s) × (e ≡ reading.Io (reader.ReadSizeLimit (min s byte_limit)))
