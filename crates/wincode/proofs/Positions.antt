-- Where a stream stands behind a value.
use Rattle.std.proofs.Common.{◌≡◌, ◌∙◌, ap, ℕ, ◌+◌, Bool, List, length, IsTrue, Option, Some, None, arith, length-append}
use Rattle.wincode_io.specs.Places.{Placed}
use Rattle.wincode_io.specs.Readers.{Stays}
use Rattle.wincode_io.specs.Sources.{SourceState}
use Rattle.wincode_io.specs.Streams.{streaming}
use Rattle.wincode_base.specs.Outcomes.{Gives}

-- how many bytes went by
abbrev pub place_of : Option (Placed (List ℕ)) → ℕ
place_of None = 0
place_of (Some p) = p.position

-- a stream that gave a value stands behind its encoding
pub gave_position : {V : Type 0} (reads : List ℕ → V → Type 0) (p q : ℕ) (a b : List ℕ) (f h : Bool) (s t : SourceState) (v : V)
    → Gives reads (streaming p a f s) (streaming q b h t) v → IsTrue s.is_known
    → (encoding : List ℕ) × reads encoding v × (q ≡ p + length encoding)
gave_position reads p q a b f h s t v g known =
    let found = g.found known in
    let all = ap length found.joins ∙ length-append found.encoding (streaming q b h t).rest in
    (found.encoding, found.is_read, omega (arith, ap place_of (g.place known), all))

-- a stream that stays stands where it stood
pub stays_position : (p q : ℕ) (a b : List ℕ) (f h : Bool) (s t : SourceState) → Stays (streaming p a f s) (streaming q b h t) → q ≡ p
stays_position p q a b f h s t stays = ap place_of stays.place
