-- What a call reports of bytes.
use Rattle.std.specs.Prelude.{◌≡◌, ◌⊎◌, ℕ, zero, ℤ, pos, neg_ℤ, ◌-◌, ◌<◌, ◌≤◌, List, length, Option, Some, None, Bool, true, false, IsUtf8}
use Rattle.std.specs.Str.Lossy.{utf8_valid_len}
use Rattle.wincode_io.specs.Readers.{ReaderState, memory, nothing}
use Rattle.wincode_base.specs.declared.error.ReadError.{ReadError}
use Rattle.wincode_describe.specs.Explained.{ExplainsRead}
use Rattle.wincode_describe.specs.Forms.{Form, seen}
use Rattle.wincode_describe.specs.Lines.{Tells}
use Rattle.wincode_describe.specs.Parts.{Part, parts_bytes}
use Rattle.wincode_describe.specs.Phrases.{Said, Gives}
use Rattle.wincode_describe.specs.Readers.{IsKnownAs, type_in, type_of}
use Rattle.wincode_describe.specs.Spelled.{IsType}
use Rattle.wincode_describe.specs.Written.{written}
use Rattle.wincode_describe.specs.declared.described.Described.{Described}
use Rattle.wincode_c.specs.Depths.{nested}
use Rattle.wincode_c.specs.Refusals.{number_of, first_of, second_of}
use Rattle.wincode_c.specs.Messages.{PutsText}
use Rattle.wincode_c.specs.Pages.{IsPage}
use Rattle.wincode_c.specs.declared.report.Page.{Page}
use Rattle.wincode_c.specs.declared.report.Report.{Report}
use Rattle.wincode_c.specs.declared.typed.Untyped.{Untyped}
use Rattle.wincode_c.specs.declared.typed.Untyped.TheVariants.{NoText, Wanted, TooDeep, OutOfMemory}

-- where the text is written as types are, the type is that one
abbrev pub IsWrittenAs : List ℕ → Described → Type 0
IsWrittenAs text d = (form : Form) → IsType 128 form → text ≡ written form → seen d ≡ form

-- the text is that of the type
abbrev pub IsTextOf : List ℕ → Described → Type 0
IsTextOf text d = IsWrittenAs text d × IsKnownAs (type_of text 128) (seen d)

-- Nothing was refused, or this was: its number, and the numbers of its text.
abbrev pub IsTold : Option ReadError → ℤ → ℕ → ℕ → Type 0
IsTold None n first second = (n ≡ pos 0) × (first ≡ 0) × (second ≡ 0)
IsTold (Some e) n first second = (n ≡ pos (number_of e)) × (first ≡ first_of e) × (second ≡ second_of e)

-- No part was refused, or one that stands in no more items than lists, sets, maps and arrays are nested in the type.
abbrev pub IsDeep : Described → Option ReadError → ℕ → Type 0
IsDeep d None n = n ≡ 0
IsDeep d (Some e) n = n ≤ nested d

-- Some parts explain the bytes by the type: the report counts them and their bytes, and those behind, and says how many
-- bytes the reader took.
abbrev pub Reports : Described → List ℕ → Report → ℤ → Type 0
Reports d bytes r n = (parts : List Part) × (new : ReaderState) × (refused : Option ReadError)
    × ExplainsRead d (memory nothing bytes) new parts refused
    × (r.length ≡ length (parts_bytes parts)) × (r.parts ≡ length parts) × (r.behind ≡ length bytes - r.length)
    × (r.place ≡ length bytes - length new.rest) × IsTold refused n r.first r.second × IsDeep d refused r.depth

-- The number of a fault of a type's text, below 0.
abbrev pub fault_number : Untyped → ℤ
fault_number (NoText at) = neg_ℤ (pos 1)
fault_number (Wanted at) = neg_ℤ (pos 2)
fault_number (TooDeep at) = neg_ℤ (pos 3)
fault_number OutOfMemory = neg_ℤ (pos 4)

-- The byte of the text where it is.
abbrev pub fault_place : Untyped → ℕ
fault_place (NoText at) = at
fault_place (Wanted at) = at
fault_place (TooDeep at) = at
fault_place OutOfMemory = 0

-- The fault is reported, and nothing else is.
abbrev pub FaultReported : Untyped → Report → ℤ → Type 0
FaultReported f r n = (n ≡ fault_number f) × (r.place ≡ fault_place f) × (r.length ≡ 0) × (r.parts ≡ 0) × (r.behind ≡ 0) × (r.first ≡ 0) × (r.second ≡ 0) × (r.depth ≡ 0)

-- the fault of a text of which this is said: of a type's text memory was refused
abbrev pub IsFaultOf : Said Form → Untyped → Type 0
IsFaultOf (Gives form) f = f ≡ OutOfMemory
IsFaultOf _ f = Unit

-- The fault of a text that isn't UTF-8 has the byte from which on it isn't; any other fault is one of a text that is.
abbrev pub IsOfText : List ℕ → Untyped → Type 0
IsOfText text (NoText at) = (IsUtf8 text → ⊥) × (at ≡ utf8_valid_len text)
IsOfText text f = IsUtf8 text

-- A text that describes a type has no fault, but that memory was refused.
abbrev pub Untypes : List ℕ → Untyped → Type 0
Untypes text f = IsOfText text f × (IsUtf8 text → ((form : Form) → IsType 128 form → text ≡ written form → f ≡ OutOfMemory)
    × IsFaultOf (type_of text 128) f)

-- The text is that of a type, by which the bytes are reported; or it has a fault, which is.
abbrev pub Answers : List ℕ → List ℕ → Report → ℤ → Type 0
Answers text bytes r n = ((d : Described) × IsTextOf text d × Reports d bytes r n) ⊎ ((f : Untyped) × Untypes text f × FaultReported f r n)

-- a value is all of the bytes, or they have none, as was reported; or bytes are behind one, which is a refusal of its own
abbrev pub IsExact : Report → ℤ → Report → ℤ → Type 0
IsExact r (pos zero) s n = ((r.behind ≡ 0) × (s ≡ r) × (n ≡ pos 0)) ⊎ ((0 < r.behind) × (s ≡ record r { first = r.behind }) × (n ≡ pos 15))
IsExact r m s n = (s ≡ r) × (n ≡ m)

-- So, where bytes behind the value are a refusal.
abbrev pub AnswersExact : List ℕ → List ℕ → Report → ℤ → Type 0
AnswersExact text bytes s n = (r : Report) × (m : ℤ) × Answers text bytes r m × IsExact r m s n

-- nothing was put there
abbrev pub no_page : Page
no_page = record { length = 0; lines = 0; behind = 0 }

-- lines tell of a value where nothing was refused, and else of a refusal
abbrev pub AreOf : ℤ → Bool → Type 0
AreOf n true = n ≡ pos 0
AreOf n false = n ≡ pos 0 → ⊥

-- The bytes are reported, and a page of the lines that explain them is put over the front of the room; or memory for these
-- was refused, and nothing is.
abbrev pub ReportsPage : Described → List ℕ → ℕ → List ℕ → List ℕ → Report → Page → Page → ℤ → Type 0
ReportsPage d bytes from old new r before p n = (m : ℤ) × Reports d bytes r m
    × (((n ≡ m) × ((whole : Bool) × (lines : List ℕ) × Tells d bytes whole lines × AreOf m whole × IsPage lines from old new p.length p.lines p.behind))
    ⊎ ((n ≡ neg_ℤ (pos 5)) × (new ≡ old) × (p ≡ before)))

-- So, by the type that the text describes; or it has a fault, which is reported, and nothing is put there.
abbrev pub AnswersPage : List ℕ → List ℕ → ℕ → List ℕ → List ℕ → Report → Page → ℤ → Type 0
AnswersPage text bytes from old new r p n = ((d : Described) × IsTextOf text d × ReportsPage d bytes from old new r no_page p n)
    ⊎ ((f : Untyped) × Untypes text f × FaultReported f r n × (new ≡ old) × (p ≡ no_page))

-- The text is that of the type, where the structs and enums that a source declares have their names.
abbrev pub IsTextBy : List ℕ → List ℕ → Described → Type 0
IsTextBy source text d = IsWrittenAs text d × IsKnownAs (type_in source text 128) (seen d)

-- The text of that type stands over the front of the room; or memory for it was refused, or there is a fault, and nothing is
-- put there.
abbrev pub PutsLayout : List ℕ → List ℕ → List ℕ → List ℕ → ℕ → ℤ → Type 0
PutsLayout source text old new count n = ((d : Described) × IsTextBy source text d × PutsText (written (seen d)) old new count n)
    ⊎ ((n ≡ neg_ℤ (pos 5)) × (new ≡ old) × (count ≡ 0))
    ⊎ ((f : Untyped) × (n ≡ fault_number f) × (new ≡ old) × (count ≡ fault_place f))
