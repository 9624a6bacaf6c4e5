-- Values that are one part: what getting them answers, and what showing them does.
use lib.Ieee.{Format, binary32, binary64}
use Rattle.std.proofs.Common.{◌≡◌, ◌∙◌, sym, ap, subst, refl, arith, ℕ, ◌+◌, ◌*◌, ◌/◌, ◌≤◌, ◌<◌, ◌^◌, List, [], ◌∷◌, Result, Ok, Err, lit≤, true, false}
use Rattle.std.specs.Prelude.{OnOk, IfErr, to_bits, from_bits}
use Rattle.std.specs.Int.{w8, w16, w32, w64, w128}
use Rattle.wincode_io.specs.Readers.{ReaderState}
use Rattle.wincode_base.specs.Arrays.{array_read}
use Rattle.wincode_base.specs.Grammar.{ReadGrammar}
use Rattle.wincode_base.specs.InWindow.{windowed_read}
use Rattle.wincode_base.specs.LeafLaws.{number_read_laws}
use Rattle.wincode_base.specs.Leaves.{number_read, signed_read}
use Rattle.wincode_base.specs.Made.{made_read, IsNot, AreBits, AreTime, IsSame, MakeNothing, is_zero, is_overflow, time_parts}
use Rattle.wincode_base.specs.Outcomes.{Gives, SchemaReadRefused, GetOutcome}
use Rattle.wincode_base.specs.PairLaws.{pair_read_laws, windowed_read_laws}
use Rattle.wincode_base.specs.Pairs.{pair_read}
use Rattle.wincode_base.specs.declared.error.ReadError.{ReadError}
use Rattle.wincode_base.specs.declared.error.ReadError.TheVariants as reading
use Rattle.wincode_base.proofs.Made.{made_gives, parts_refused, nothing_made}
use Rattle.wincode_base.proofs.ReadAnswers.{IsPassed, get_refused}
use Rattle.wincode_describe.specs.Parts.{Part, seen}
use Rattle.wincode_describe.specs.ShownGrammars.{shown_read, Took, SinkLaws, ShowOutcome}
use Rattle.wincode_describe.specs.TypeLaws.{integer_laws}
use Rattle.wincode_describe.specs.Types.{natural_shown, signed_shown, integer_read, zero_shown, nonzero_read, AsRead, bits_shown, time_shown, octets_shown}
use Rattle.wincode_describe.specs.Types.{socket_shown, socket_parts_read, socket_read}
use Rattle.wincode_describe.specs.Types.{time_read, address_read, std_read}
use Rattle.wincode_describe.specs.declared.described.Integer.{Integer}
use Rattle.wincode_describe.specs.declared.described.Integer.TheVariants.{U8, U16, U32, U64, U128, Usize, I8, I16, I32, I64, I128, Isize}
use Rattle.wincode_describe.specs.declared.described.StdType.{StdType}
use Rattle.wincode_describe.specs.declared.described.StdType.TheVariants.{F32, F64, Duration, SystemTime, Ipv4Addr, Ipv6Addr, SocketAddrV4, SocketAddrV6}
use Rattle.wincode_describe.specs.declared.shown.Shown.{Shown}
use Rattle.wincode_describe.proofs.Shows.{shown_gives, shown_refused, shown_memory, show_last, began_none}

-- what contracts see of a part that is a value
abbrev pub alone : Shown → List Part
alone p = seen p ∷ []

-- ---- a value that is got as a part

module _ {V : Type 0} (show : V → List Part) (g : ReadGrammar V) {old new : ReaderState} where
  pub got : (v : V) (p : Shown) → show v ≡ seen p ∷ [] → Gives g.reads old new v → GetOutcome (shown_read show g) (λ part. seen part ∷ []) old new (Ok p)
  got v p is gives =
      record { ok = subst (Gives (shown_read show g).reads old new) is (shown_gives show g old new v gives); refused = tt }

  pub got_refused : (r : Result Shown ReadError) (e : ReadError) → IsPassed r e → SchemaReadRefused g old new e
      → GetOutcome (shown_read show g) (λ part. seen part ∷ []) old new r
  got_refused r e h d = get_refused (shown_read show g) (λ part. seen part ∷ []) r e h (shown_refused show g old new e d)

  pub got_nothing : (e : ReadError) → SchemaReadRefused g old new e → GetOutcome (shown_read show g) (λ part. seen part ∷ []) old new (Err e)
  got_nothing e d = let k = shown_refused show g old new e d in record { ok = tt; refused = k }

-- ---- and shown

module _ {B : Type 0} {T : Took B} (l : SinkLaws T) where
  pub show_got : {A : Type 0} (G : ReadGrammar (List Part)) {start new : ReaderState} (before after : B) (p : Shown) (r : Result A ReadError)
      → Gives G.reads start new (seen p ∷ []) → SchemaReadRefused G start new reading.OutOfMemory
      → OnOk r (T before (p ∷ []) after) → IfErr r (λ e. (e ≡ reading.OutOfMemory) × T before [] after) → ShowOutcome T G start new before after r
  show_got G {start} before after p r gives memory ok err =
      show_last l G before before after [] p r (l.none before) gives memory (began_none l start before) ok err

module _ {U : Type 0} (R : List ℕ → U → Type 0) (old new : ReaderState) (u : U) (r : Gives R old new u) where
  pub integer_memory : (i : Integer) → SchemaReadRefused (integer_read i) old new reading.OutOfMemory
  integer_memory U8 = shown_memory (natural_shown U8) (number_read 1 true) R old new u r
  integer_memory U16 = shown_memory (natural_shown U16) (number_read 2 true) R old new u r
  integer_memory U32 = shown_memory (natural_shown U32) (number_read 4 true) R old new u r
  integer_memory U64 = shown_memory (natural_shown U64) (number_read 8 true) R old new u r
  integer_memory U128 = shown_memory (natural_shown U128) (number_read 16 true) R old new u r
  integer_memory Usize = shown_memory (natural_shown Usize) (number_read 8 false) R old new u r
  integer_memory I8 = shown_memory (signed_shown I8) (signed_read w8 true) R old new u r
  integer_memory I16 = shown_memory (signed_shown I16) (signed_read w16 true) R old new u r
  integer_memory I32 = shown_memory (signed_shown I32) (signed_read w32 true) R old new u r
  integer_memory I64 = shown_memory (signed_shown I64) (signed_read w64 true) R old new u r
  integer_memory I128 = shown_memory (signed_shown I128) (signed_read w128 true) R old new u r
  integer_memory Isize = shown_memory (signed_shown Isize) (signed_read w64 false) R old new u r

  pub nonzero_memory : (i : Integer) → SchemaReadRefused (nonzero_read i) old new reading.OutOfMemory
  nonzero_memory i = parts_refused (λ v. v) (IsNot (zero_shown i)) is_zero (integer_read i) reading.OutOfMemory (integer_memory i)

  pub std_memory : (k : StdType) → SchemaReadRefused (std_read k) old new reading.OutOfMemory
  std_memory F32 = shown_memory (bits_shown F32) (made_read (λ v. v) (AsRead (AreBits binary32)) [] (number_read 4 true)) R old new u r
  std_memory F64 = shown_memory (bits_shown F64) (made_read (λ v. v) (AsRead (AreBits binary64)) [] (number_read 8 true)) R old new u r
  std_memory Duration = shown_memory (time_shown Duration)
      (made_read (λ v. v) (AsRead (AreTime (2 ^ 64))) is_overflow (windowed_read (pair_read (number_read 8 true) (number_read 4 true)))) R old new u r
  std_memory SystemTime = shown_memory (time_shown SystemTime)
      (made_read (λ v. v) (AsRead (AreTime (2 ^ 63))) is_overflow (windowed_read (pair_read (number_read 8 true) (number_read 4 true)))) R old new u r
  std_memory Ipv4Addr = shown_memory (octets_shown Ipv4Addr)
      (made_read (λ v. v) (AsRead IsSame) [] (windowed_read (array_read 4 (number_read 1 true)))) R old new u r
  std_memory Ipv6Addr = shown_memory (octets_shown Ipv6Addr)
      (made_read (λ v. v) (AsRead IsSame) [] (windowed_read (array_read 16 (number_read 1 true)))) R old new u r
  std_memory SocketAddrV4 = shown_memory (socket_shown SocketAddrV4) (made_read (λ v. v) (AsRead IsSame) [] (socket_parts_read 4)) R old new u r
  std_memory SocketAddrV6 = shown_memory (socket_shown SocketAddrV6) (made_read (λ v. v) (AsRead IsSame) [] (socket_parts_read 16)) R old new u r

-- ---- an integer that isn't 0

module _ (i : Integer) {old new : ReaderState} where
  pub nonzero_refused : (r : Result Shown ReadError) (e : ReadError) → IsPassed r e → SchemaReadRefused (integer_read i) old new e
      → GetOutcome (nonzero_read i) (λ part. seen part ∷ []) old new r
  nonzero_refused r e h d = get_refused (nonzero_read i) (λ part. seen part ∷ []) r e h (parts_refused (λ v. v) (IsNot (zero_shown i)) is_zero (integer_read i) e d)

  pub nonzero_got : (p : Shown) → Gives (integer_read i).reads old new (seen p ∷ []) → (seen p ∷ [] ≡ zero_shown i → ⊥)
      → GetOutcome (nonzero_read i) (λ part. seen part ∷ []) old new (Ok p)
  nonzero_got p r n = record {
    ok = made_gives (λ v. v) (IsNot (zero_shown i)) is_zero (integer_read i) (seen p ∷ []) (seen p ∷ []) r (refl, n);
    refused = tt;
  }

  pub nonzero_nothing : (p : Shown) (e : ReadError) → Gives (integer_read i).reads old new (seen p ∷ []) → seen p ∷ [] ≡ zero_shown i
      → MakeNothing (λ v. v) (IsNot (zero_shown i)) is_zero (seen p ∷ []) e
      → GetOutcome (nonzero_read i) (λ part. seen part ∷ []) old new (Err e)
  nonzero_nothing p e r z n =
      let k = nothing_made (λ v. v) (IsNot (zero_shown i)) is_zero (integer_read i) (let l = integer_laws i in l.one_front) (seen p ∷ []) r e n in
      record { ok = tt; refused = k }

-- ---- a time

abbrev Times : ReadGrammar (ℕ × ℕ)
Times = windowed_read (pair_read (number_read 8 true) (number_read 4 true))

abbrev MadeTimes : ℕ → ReadGrammar (ℕ × ℕ)
MadeTimes limit = made_read (λ v. v) (AsRead (AreTime limit)) is_overflow Times

whole_seconds : (s n : ℕ) → (s * 1_000_000_000 + n) / 1_000_000_000 ≡ s + n / 1_000_000_000
whole_seconds s n = omega arith

none_made : (limit : ℕ) (v : ℕ × ℕ) → limit ≤ v.0 + v.1 / 1_000_000_000 → (w q : ℕ × ℕ) → w ≡ v → AsRead (AreTime limit) w q → ⊥
none_made limit v h w q e m =
    let t = m.1 in
    let s : t.0.0 ≡ w.0 + w.1 / 1_000_000_000 = ap (λ x. x.0) t.1.0 ∙ whole_seconds w.0 w.1 in
    let same : w.0 + w.1 / 1_000_000_000 ≡ v.0 + v.1 / 1_000_000_000 = ap (λ x. x.0 + x.1 / 1_000_000_000) e in
    let less = t.1.1 in
    absurd (omega (arith, s, same, less, h))

module _ (k : StdType) (limit : ℕ) {old new : ReaderState} where
  pub time_refused : (r : Result Shown ReadError) (e : ReadError) → IsPassed r e → SchemaReadRefused Times old new e
      → GetOutcome (time_read k limit) (λ part. seen part ∷ []) old new r
  time_refused r e h d = got_refused (time_shown k) (MadeTimes limit) r e h (parts_refused (λ v. v) (AsRead (AreTime limit)) is_overflow Times e d)

  pub time_got : (v : ℕ × ℕ) (p : Shown) → time_shown k v ≡ seen p ∷ [] → Gives Times.reads old new v → v.0 + v.1 / 1_000_000_000 < limit
      → GetOutcome (time_read k limit) (λ part. seen part ∷ []) old new (Ok p)
  time_got v p is r below = got (time_shown k) (MadeTimes limit) v p is (made_gives (λ v. v) (AsRead (AreTime limit)) is_overflow Times v v r
      (refl, (time_parts (v.0 * 1_000_000_000 + v.1), (refl, subst (λ t. t < limit) (sym (whole_seconds v.0 v.1)) below))))

  pub time_nothing : (v : ℕ × ℕ) → Gives Times.reads old new v → limit ≤ v.0 + v.1 / 1_000_000_000
      → (e : ReadError) → (((w q : ℕ × ℕ) → w ≡ v → AsRead (AreTime limit) w q → ⊥) → MakeNothing (λ x. x) (AsRead (AreTime limit)) is_overflow v e)
      → GetOutcome (time_read k limit) (λ part. seen part ∷ []) old new (Err e)
  time_nothing v r h e n = got_nothing (time_shown k) (MadeTimes limit) e (nothing_made (λ x. x) (AsRead (AreTime limit)) is_overflow Times
      (let l = windowed_read_laws (pair_read_laws (number_read_laws 8 true (lit≤ tt)) (number_read_laws 4 true (lit≤ tt))) in l.one_front)
      v r e (n (none_made limit v h)))

-- ---- bits and octets

abbrev Floats : Format → ℕ → ReadGrammar ℕ
Floats f n = made_read (λ v. v) (AsRead (AreBits f)) [] (number_read n true)

module _ (k : StdType) (f : Format) (n : ℕ) {old new : ReaderState} where
  pub bits_refused : (r : Result Shown ReadError) (e : ReadError) → IsPassed r e → SchemaReadRefused (number_read n true) old new e
      → GetOutcome (shown_read (bits_shown k) (made_read (λ v. v) (AsRead (AreBits f)) [] (number_read n true))) (λ part. seen part ∷ []) old new r
  bits_refused r e h d = got_refused (bits_shown k) (Floats f n) r e h (parts_refused (λ v. v) (AsRead (AreBits f)) [] (number_read n true) e d)

  pub bits_got : (v : ℕ) (p : Shown) → bits_shown k v ≡ seen p ∷ [] → Gives (number_read n true).reads old new v
      → GetOutcome (shown_read (bits_shown k) (made_read (λ v. v) (AsRead (AreBits f)) [] (number_read n true))) (λ part. seen part ∷ []) old new (Ok p)
  bits_got v p is r = got (bits_shown k) (Floats f n) v p is (made_gives (λ v. v) (AsRead (AreBits f)) [] (number_read n true) v v r
      (refl, (to_bits f (from_bits f v), refl)))

abbrev pub Octets : ℕ → ReadGrammar (List ℕ)
Octets n = windowed_read (array_read n (number_read 1 true))

abbrev Addresses : ℕ → ReadGrammar (List ℕ)
Addresses n = made_read (λ v. v) (AsRead IsSame) [] (Octets n)

module _ (k : StdType) (n : ℕ) {old new : ReaderState} where
  pub octets_refused : (r : Result Shown ReadError) (e : ReadError) → IsPassed r e → SchemaReadRefused (Octets n) old new e
      → GetOutcome (address_read k n) (λ part. seen part ∷ []) old new r
  octets_refused r e h d = got_refused (octets_shown k) (Addresses n) r e h (parts_refused (λ v. v) (AsRead IsSame) [] (Octets n) e d)

  pub octets_got : (v : List ℕ) (p : Shown) → octets_shown k v ≡ seen p ∷ [] → Gives (Octets n).reads old new v
      → GetOutcome (address_read k n) (λ part. seen part ∷ []) old new (Ok p)
  octets_got v p is r = got (octets_shown k) (Addresses n) v p is (made_gives (λ v. v) (AsRead IsSame) [] (Octets n) v v r (refl, (v, refl)))

-- ---- octets and a port

abbrev Sockets : ℕ → ReadGrammar (List ℕ × ℕ)
Sockets n = made_read (λ v. v) (AsRead IsSame) [] (socket_parts_read n)

module _ (k : StdType) (n : ℕ) {old new : ReaderState} where
  pub socket_refused : (r : Result Shown ReadError) (e : ReadError) → IsPassed r e → SchemaReadRefused (socket_parts_read n) old new e
      → GetOutcome (socket_read k n) (λ part. seen part ∷ []) old new r
  socket_refused r e h d = got_refused (socket_shown k) (Sockets n) r e h (parts_refused (λ v. v) (AsRead IsSame) [] (socket_parts_read n) e d)

  pub socket_got : (v : List ℕ × ℕ) (p : Shown) → socket_shown k v ≡ seen p ∷ [] → Gives (socket_parts_read n).reads old new v
      → GetOutcome (socket_read k n) (λ part. seen part ∷ []) old new (Ok p)
  socket_got v p is r = got (socket_shown k) (Sockets n) v p is (made_gives (λ v. v) (AsRead IsSame) [] (socket_parts_read n) v v r (refl, (v, refl)))
