-- Where a source declares a type, and what stands in front of its parts.
use Rattle.std.specs.Prelude.{◌≡◌, ◌^◌, ◌+◌, ◌-◌, ℕ, zero, suc, if◌then◌else◌, ◌&&◌, ◌||◌, Bool, true, false, nat_lt, length, List, [], ◌∷◌, drop, bytes_eq}
use Rattle.std.specs.Prelude.{codes, Option, Some, None, option_and_then, option_map}
use Rattle.wincode_derive_text.specs.declared.tokens.Kind.TheVariants as kind
use Rattle.wincode_describe.specs.Phrases.{Piece, Said, Unsaid, Refused, Gives, and_then, needed, on, left, front_text, word_front}
use Rattle.wincode_describe.specs.declared.declared.Found.{Found}
use Rattle.wincode_describe.specs.declared.tokens.Over.{Over}
use Rattle.wincode_describe.specs.declared.tokens.Over.TheVariants as over

-- a bracket is opened by this sign
abbrev pub opens : List ℕ → Bool
opens s = bytes_eq s (codes "(") || (bytes_eq s (codes "[") || bytes_eq s (codes "{"))

-- a bracket is closed by this sign
abbrev pub closes : List ℕ → Bool
closes s = bytes_eq s (codes ")") || (bytes_eq s (codes "]") || bytes_eq s (codes "}"))

-- the next number, where 64 bits have it
abbrev pub next_number : ℕ → Option ℕ
next_number n = if nat_lt (n + 1) (2 ^ 64) then Some (n + 1) else None

-- something stands there
abbrev pub is_there : List ℕ → Bool
is_there s = nat_lt 0 (length s)

-- `(crate)`, `(super)`, `(self)` or `(in ..)`, behind `pub`
abbrev pub is_limited : List Piece → Bool
is_limited ts = bytes_eq (front_text kind.Sign ts) (codes "(") && (bytes_eq (front_text kind.Word (drop 1 ts)) (codes "in")
    || (bytes_eq (front_text kind.Sign (drop 2 ts)) (codes ")") && (bytes_eq (front_text kind.Word (drop 1 ts)) (codes "crate")
    || (bytes_eq (front_text kind.Word (drop 1 ts)) (codes "super") || bytes_eq (front_text kind.Word (drop 1 ts)) (codes "self")))))

-- where the token behind `pub` stands, which is of a head unless it is a field's name
abbrev pub behind_pub : List Piece → Option Over
behind_pub ts = if is_limited ts then Some over.Opening else if bytes_eq (front_text kind.Sign ts) (codes ":") then None else Some over.Between

-- where a token stands behind this sign, in so many brackets in an attribute's own
abbrev pub behind_inside : ℕ → List ℕ → Option Over
behind_inside n s = if opens s then option_map over.Inside (next_number n)
    else if closes s then Some (if nat_lt 0 n then over.Inside (n - 1) else over.Between) else Some (over.Inside n)

-- Where the token behind the one in front stands, if that one is of a head: `pub`, an attribute, or a comment line that
-- says something.
abbrev pub behind_head : Over → List Piece → Option Over
behind_head over.Between ts = if is_there (front_text kind.Note ts) then Some over.Between
    else if bytes_eq (front_text kind.Sign ts) (codes "#") then Some over.Opening
    else if bytes_eq (front_text kind.Word ts) (codes "pub") then behind_pub (drop 1 ts) else None
behind_head over.Opening ts = if opens (front_text kind.Sign ts) then Some (over.Inside 0) else None
behind_head (over.Inside n) ts = if nat_lt 0 (length ts) then behind_inside n (front_text kind.Sign ts) else None

-- such a comment line stands in front, and in no attribute
abbrev pub is_noted : Over → List Piece → Bool
is_noted over.Between ts = is_there (front_text kind.Note ts)
is_noted _ ts = false

-- What stands behind a field's or a case's head; nothing is said where a comment line says something of it.
abbrev pub heads : Over → List Piece → Option (List Piece)
heads o [] = Some []
heads o (p ∷ rest) = if is_noted o (p ∷ rest) then None else on (behind_head o (p ∷ rest)) (λ next. heads next rest) (Some (p ∷ rest))

-- `struct`, or else `enum`
abbrev pub is_struct_word : List ℕ → Option Bool
is_struct_word w = if bytes_eq w (codes "struct") then Some true else if bytes_eq w (codes "enum") then Some false else None

-- a declaration of this name begins, outside of all brackets: whether it is a struct, and what stands behind its name
abbrev pub begun_by : List ℕ → ℕ → List Piece → Option (Bool × List Piece)
begun_by name zero ts = option_and_then (λ k. option_and_then (λ b. option_and_then
    (λ n. if bytes_eq n.0 name then Some (b, n.1) else None) (word_front k.1)) (is_struct_word k.0)) (word_front ts)
begun_by name (suc n) ts = None

-- a comment line that says something stands in front, outside of all brackets
abbrev pub is_noted_at : ℕ → List Piece → Bool
is_noted_at zero ts = is_there (front_text kind.Note ts)
is_noted_at (suc n) ts = false

-- in how many brackets what stands behind this sign is
abbrev pub depth_behind : ℕ → List ℕ → Option ℕ
depth_behind depth s = if opens s then next_number depth else Some (if closes s then depth - 1 else depth)

-- The first declaration of this name that stands in no brackets: whether it is a struct, and what stands behind its name.
-- Nothing is said of what stands behind a comment line that says something.
abbrev pub declaration_of : List ℕ → ℕ → List Piece → Said (Bool × List Piece)
declaration_of name depth [] = Refused
declaration_of name depth (p ∷ rest) = on (begun_by name depth (p ∷ rest)) (λ found. Gives found)
    (if is_noted_at depth (p ∷ rest) then Unsaid
    else and_then (needed (depth_behind depth (front_text kind.Sign (p ∷ rest)))) (λ d. declaration_of name d rest))

-- That declaration is found, and no comment line that says something stands in front of it; or there is none.
abbrev pub IsFound : Said (Bool × List Piece) → Option Found → Type 0
IsFound Unsaid result = Unit
IsFound Refused None = Unit
IsFound Refused (Some f) = ⊥
IsFound (Gives k) None = ⊥
IsFound (Gives k) (Some f) = (f.is_struct ≡ k.0) × (left f.tokens ≡ k.1) × (f.is_noted ≡ false)

-- A head is passed, and nothing was said in it, if what stands behind it is known.
abbrev pub PassesHead : {A : Type 0} → Option (List Piece) → Option A → List Piece → Type 0
PassesHead None _ rest = Unit
PassesHead (Some behind) None rest = rest ≡ behind
PassesHead (Some behind) (Some note) rest = ⊥
