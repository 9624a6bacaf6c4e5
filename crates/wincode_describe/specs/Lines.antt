-- What is printed of bytes that are explained or checked.
use Rattle.std.specs.Prelude.{◌≡◌, ℕ, zero, suc, ◌+◌, ◌-◌, ◌^◌, min, List, [], ◌∷◌, ◌++◌, length, get_or, codes, decimal, Option, Some, None, Bool}
use Rattle.std.specs.Prelude.{false, IsTrue, is_none}
use Rattle.wincode_io.specs.Readers.{ReaderState}
use Rattle.wincode_io.specs.Sources.{SourceState}
use Rattle.wincode_io.specs.Streams.{streaming}
use Rattle.wincode_base.specs.declared.error.ReadError.{ReadError}
use Rattle.wincode_describe.specs.Explained.{Explains, ExplainsSource, Checks, ChecksRead}
use Rattle.wincode_describe.specs.Parts.{Part, part_bytes, parts_bytes}
use Rattle.wincode_describe.specs.Places.{places}
use Rattle.wincode_describe.specs.declared.described.Described.{Described}

-- a space and the place, if it isn't that of the whole
abbrev pub spaced : List ℕ → List ℕ
spaced [] = []
spaced (c ∷ cs) = 32 ∷ c ∷ cs

-- One line more: the offset in decimal, a colon, the digits of some bytes, the place, and the rest of the line.
abbrev pub IsLine : ℕ → List ℕ → List ℕ → List ℕ → Type 0
IsLine offset place old new = (digits rest : List ℕ) × (new ≡ old ++ (decimal offset ++ (codes ": " ++ (digits ++ (spaced place ++ rest)))))

-- where the parts end, as far as it is counted
abbrev pub end_of : List Part → ℕ
end_of parts = min (length (parts_bytes parts)) (2 ^ 64 - 1)

-- One line more: the offset in decimal, a colon, the place, and why it was refused.
abbrev pub IsRefusal : ℕ → List ℕ → List ℕ → List ℕ → Type 0
IsRefusal offset place old new = (why : List ℕ) × (new ≡ old ++ (decimal offset ++ (codes ":" ++ (spaced place ++ why))))

-- where each part begins: the first behind so many bytes, each other where the one before it ends
abbrev pub offsets : ℕ → List Part → List ℕ
offsets at [] = []
offsets at (p ∷ ps) = at ∷ offsets (at + length (part_bytes p)) ps

-- So many lines, each of the offset and the place with its number.
abbrev pub AreLines : List ℕ → List (List ℕ) → ℕ → List ℕ → Type 0
AreLines offsets places zero text = text ≡ []
AreLines offsets places (suc n) text = (before : List ℕ) × AreLines offsets places n before
    × IsLine (get_or offsets n 0) (get_or places n []) before text

-- A line for each part, of where it begins and of its place; a refusal is the last line, of the offset where the parts end, and
-- of the place of what stands behind them.
abbrev pub Prints : Described → List Part → Option ReadError → List ℕ → Type 0
Prints d parts None text = AreLines (offsets 0 parts) (places d parts) (length parts) text
Prints d parts (Some e) text = (lines : List ℕ) × AreLines (offsets 0 parts) (places d parts) (length parts) lines
    × IsRefusal (end_of parts) (get_or (places d parts) (length parts) []) lines text

-- Some parts explain the bytes, they are printed, and it is said whether nothing was refused.
abbrev pub Tells : Described → List ℕ → Bool → List ℕ → Type 0
Tells d bytes whole text = (parts : List Part) × (refused : Option ReadError) × Explains d bytes parts refused × (whole ≡ is_none refused)
    × Prints d parts refused text

-- So, of what comes of a source.
abbrev pub TellsSource : Described → SourceState → Bool → List ℕ → Type 0
TellsSource d s whole text = (parts : List Part) × (refused : Option ReadError) × ExplainsSource d s parts refused × (whole ≡ is_none refused)
    × Prints d parts refused text

-- one line: how many bytes were read and how many are left, or how many stand before what was refused
abbrev pub IsVerdict : ℕ → ℕ → Option ReadError → List ℕ → Type 0
IsVerdict n left None text = text ≡ codes "ok, " ++ (decimal n ++ (codes " bytes, " ++ (decimal left ++ codes " left")))
IsVerdict n left (Some e) text = (why : List ℕ) × (text ≡ codes "refused at " ++ (decimal n ++ (codes ": " ++ why)))

-- So many of the bytes were checked, one line says so, and it is said whether nothing was refused.
abbrev pub TellsChecked : Described → List ℕ → Bool → List ℕ → Type 0
TellsChecked d bytes whole text = (n : ℕ) × (refused : Option ReadError) × Checks d bytes n refused × (whole ≡ is_none refused)
    × IsVerdict n (length bytes - n) refused text

-- So, of what comes of a source.
abbrev pub TellsCheckedSource : Described → SourceState → Bool → List ℕ → Type 0
TellsCheckedSource d s whole text = (new : ReaderState) × (n left : ℕ) × (refused : Option ReadError) × ChecksRead d (streaming 0 [] false s) new n refused
    × (whole ≡ is_none refused) × (IsTrue whole → IsTrue new.is_known → left ≡ length new.rest) × IsVerdict n left refused text
