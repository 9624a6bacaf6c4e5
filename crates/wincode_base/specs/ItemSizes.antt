-- The size that items have, one by one and together.
use Rattle.std.specs.Prelude.{◌≡◌, ℕ, ◌+◌, ◌*◌, ◌^◌, ◌≤◌, Bool, true, false, List, length, nat_lt, if◌then◌else◌, Option, Some, None}
use Rattle.wincode_base.specs.Grammar.{ReadGrammar, WriteGrammar}
use Rattle.wincode_base.specs.declared.meta.TypeMeta.{TypeMeta}
use Rattle.wincode_base.specs.declared.meta.TypeMeta.TheVariants.{Static, Dynamic}
use Rattle.wincode_base.specs.declared.sizes.ItemSize.{ItemSize}
use Rattle.wincode_base.specs.declared.sizes.ItemSize.TheVariants.{Bytes, Vast, Unknown}

-- the size of items of which so much is announced
abbrev pub item_size : TypeMeta → ItemSize
item_size Dynamic = Unknown
item_size (Static s z) = Bytes s

-- two parts, one after the other, have the sum of their sizes
abbrev pub pair_size : TypeMeta → TypeMeta → ItemSize
pair_size Dynamic n = Unknown
pair_size (Static a x) Dynamic = Unknown
pair_size (Static a x) (Static b y) = if nat_lt (a + b) (2 ^ 64) then Bytes (a + b) else Vast

-- whether it says anything
abbrev pub is_known : ItemSize → Bool
is_known Unknown = false
is_known (Bytes s) = true
is_known Vast = true

-- what n items have together, where it is at most `usize::MAX`; where there are none, it is 0
abbrev pub run_size : ℕ → ItemSize → Option ℕ
run_size n (Bytes s) = if nat_lt (n * s) (2 ^ 64) then Some (n * s) else None
run_size n Vast = if nat_lt 0 n then None else Some 0
run_size n Unknown = None

-- with what stands before them
abbrev pub behind_size : ℕ → Option ℕ → Option ℕ
behind_size before None = None
behind_size before (Some t) = if nat_lt (before + t) (2 ^ 64) then Some (before + t) else None

-- no other size is announced
abbrev pub MayBeOf : TypeMeta → ℕ → Type 0
MayBeOf Dynamic s = Unit {0}
MayBeOf (Static k z) s = k ≡ s

-- every encoding of an item has the size, which is announced or none is; or nothing is known of it
abbrev pub IsReadItemSize : {V : Type 0} → ReadGrammar V → ItemSize → Type 0
IsReadItemSize {V} g (Bytes s) = ((b : List ℕ) (v : V) → g.reads b v → length b ≡ s) × MayBeOf g.meta s
IsReadItemSize {V} g Vast = (b : List ℕ) (v : V) → g.reads b v → 2 ^ 64 ≤ length b
IsReadItemSize g Unknown = g.meta ≡ Dynamic

-- every item that can be written has the size, or nothing is known of it
abbrev pub IsWriteItemSize : {V : Type 0} → WriteGrammar V → ItemSize → Type 0
IsWriteItemSize {V} g (Bytes s) = (v : V) → g.can v → g.size v ≡ s
IsWriteItemSize {V} g Vast = (v : V) → g.can v → 2 ^ 64 ≤ g.size v
IsWriteItemSize g Unknown = Unit {0}
