-- What is seen of a collection, where something is seen of each key and value: of an ordered map the list of its pairs,
-- of a hashed one what it holds at each key, of a heap how often it holds what.
use Rattle.std.specs.Prelude.{◌≡◌, ℕ, Bool, List, map, length, Option}
use Rattle.std.specs.List.{find, count_by}
use Rattle.std.specs.Option.{option_map}
use Rattle.std.specs.Map.{keys_of, lookup}

-- of a pair
abbrev pub sees : {K X A B : Type 0} → (K → A) → (X → B) → K × X → A × B
sees f g e = (f e.0, g e.1)

-- of a hashed set: at each key the one that it holds, and how many it has
abbrev pub HashSetSeen : Type 0 → Type 0 → Type 0
HashSetSeen K A = (K → Option A) × ℕ

-- of a hashed map: at each key the one that it holds, and its value, and how many it has
abbrev pub HashMapSeen : Type 0 → Type 0 → Type 0 → Type 0
HashMapSeen K A B = (K → Option A) × (K → Option B) × ℕ

-- what contracts see of the keys of a hashed set
abbrev pub hash_set_sees : {K A : Type 0} → (K → K → Bool) → (K → A) → List K → HashSetSeen K A
hash_set_sees eq f ks = ((λ q. option_map f (find (eq q) ks)), length ks)

-- what contracts see of the entries of a hashed map
abbrev pub hash_map_sees : {K X A B : Type 0} → (K → K → Bool) → (K → A) → (X → B) → List (K × X) → HashMapSeen K A B
hash_map_sees eq f g es = ((λ q. option_map f (find (eq q) (keys_of es))), (λ q. option_map g (lookup (eq q) es)), length es)

-- of a heap: how many of its items pass each test
abbrev pub bag_of : {A : Type 0} → List A → (A → Bool) → ℕ
bag_of xs test = count_by test xs

-- what contracts see of the items of a heap
abbrev pub heap_sees : {D A : Type 0} → (D → A) → List D → (A → Bool) → ℕ
heap_sees see xs = bag_of (map see xs)

-- what is seen of what the list makes, by `made` and `model` of the items of a collection
abbrev pub Made : {D E W : Type 0} → (List D → List E → Type 0) → (List E → W) → List D → W → Type 0
Made {E = E} made seen ds w = (es : List E) × made ds es × (w ≡ seen es)
