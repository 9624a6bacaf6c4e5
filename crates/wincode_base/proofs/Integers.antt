-- What numbers read and write, by the words of std.
use Rattle.std.proofs.Common.{◌≡◌, ◌∙◌, sym, ap, subst, ℕ, ◌<◌, ◌≤◌, nat_eq, zero, suc, ◌^◌, Bool, List, [], ◌∷◌, ◌++◌, w8, length, get_or, refl}
use Rattle.std.proofs.Common.{arith, Some, false, true}
use Rattle.std.proofs.lemmas.List.Elements.{All-from_get_or}
use Rattle.std.specs.Int.{to_le_bytes, from_le_bytes, Width, byte_len}
use Rattle.wincode_io.specs.Bytes.{IsBytes}
use Rattle.wincode_io.specs.Numbers.{le}
use Rattle.wincode_io.specs.NumberLaws.{le-from_le_bytes, from_le_bytes-worth, worth_below, to_le_bytes-le, length-le}
use Rattle.wincode_io.specs.Readers.{ReaderState, Takes, TakesNumber}
use Rattle.wincode_io.specs.PlaceLaws.{sound_refl, still, loses_onward}
use Rattle.wincode_io.specs.Writers.{WriterState, WriterLaws, Added, BytesWriteRefused}
use Rattle.wincode_base.specs.Leaves.{number_read, number_write, signed_read, signed_write, bool_byte, bool_read, unit_read}
use Rattle.wincode_base.specs.LeafLaws.{signed_of, as_unsigned}
use Rattle.wincode_base.specs.Sequences.{gives_map, refuses_map}
use Rattle.std.specs.Prelude.{ℤ}
use Rattle.std.specs.Int.{cast_unsigned, cast_signed}
use mir.Val.{bits}
use Rattle.wincode_base.specs.Outcomes.{Gives, Puts, ReadRefused, Accepts, PieceReadRefused, Wrote, WriteRefused, Stopped, PieceWriteRefused}
use Rattle.wincode_base.specs.WriteSequences.{encoding_wrote, encoding_unwritten, encoding_stopped}
use Rattle.wincode_base.specs.FixedSizeLaws.{takes_gives, takes_joins, denied_refuses, puts}
use Rattle.wincode_base.specs.declared.error.ReadError.{ReadError}
use Rattle.wincode_base.specs.declared.error.ReadError.TheVariants as reading
use Rattle.wincode_base.specs.declared.error.WriteError.TheVariants as writing
use Rattle.wincode_io.specs.declared.error.WriteError.{WriteError as IoWriteError}

abbrev pub AreSmall : List ℕ → Type 0
AreSmall bytes = (i : ℕ) → get_or bytes i 0 < 256

pub are_bytes : (bytes : List ℕ) → AreSmall bytes → IsBytes bytes
are_bytes bytes small = All-from_get_or (λ b. b < 256) bytes 0 (λ i h. small i)

module _ (w : Width) (some : 0 < byte_len w) where
  -- what `from_le_bytes` makes of bytes has them as its encoding
  pub number_encoding : (bytes : List ℕ) → AreSmall bytes → length bytes ≡ byte_len w → (number_read (byte_len w) true).reads bytes (from_le_bytes w bytes)
  number_encoding bytes small size =
      let all = are_bytes bytes small in
      let e = from_le_bytes-worth w bytes some size in (
        subst (λ k. from_le_bytes w bytes < 256 ^ k) size (subst (λ n. n < 256 ^ length bytes) (sym e) (worth_below bytes all)),
        sym (le-from_le_bytes w bytes some all size),
      )

  -- bytes that were taken are those of their number
  pub number_taken : (old new : ReaderState) (bytes : List ℕ) (v : ℕ) → Takes (byte_len w) old new bytes → AreSmall bytes → v ≡ from_le_bytes w bytes
      → TakesNumber (byte_len w) old new v
  number_taken old new bytes v t small e =
      let is : (v < 256 ^ byte_len w) × (bytes ≡ le (byte_len w) v) =
      subst (λ n. (n < 256 ^ byte_len w) × (bytes ≡ le (byte_len w) n)) (sym e) (number_encoding bytes small t.size) in
      (is.0, subst (Takes (byte_len w) old new) is.1 t)

pub number_gives : (k : ℕ) (any : Bool) (old new : ReaderState) (v : ℕ) → TakesNumber k old new v → Gives (number_read k any).reads old new v
number_gives k any old new v t = takes_gives (number_read k any).reads k old new (le k v) v t.1 (t.0, refl)

-- the destination has a number that was read
pub number_puts : (w : Width) (some : 0 < byte_len w) (any : Bool) (old new : ReaderState) (bytes : List ℕ) (v : ℕ) → Takes (byte_len w) old new bytes
    → AreSmall bytes → v ≡ from_le_bytes w bytes
    → Puts (number_read (byte_len w) any).reads (λ n. n) old new (Some v)
number_puts w some any old new bytes v t small e = puts (number_read (byte_len w) any).reads (λ n. n) old new v
    (number_gives (byte_len w) any old new v (number_taken w some old new bytes v t small e))

-- a number was refused for its k bytes
pub number_refuses : (k : ℕ) (any : Bool) (old new : ReaderState) (e : ReadError) → PieceReadRefused k old new e
    → ReadRefused (number_read k any).reads 0 true old new e
number_refuses k any old new e d = denied_refuses (number_read k any).reads k (λ b v r. ap length r.1 ∙ length-le k v) 0 true old new e d

number_is : (w : Width) (v : ℕ) (encoding : List ℕ) → encoding ≡ to_le_bytes w v → encoding ≡ le (byte_len w) v
number_is w v encoding is = is ∙ to_le_bytes-le w v

number_size : (w : Width) (v : ℕ) (encoding : List ℕ) → encoding ≡ to_le_bytes w v → length encoding ≡ byte_len w
number_size w v encoding is = ap length (number_is w v encoding is) ∙ length-le (byte_len w) v

module _ {S K : Type 0} {put : S → List ℕ → S} {room : S → ℕ} (w : Width) (any : Bool) (v : ℕ) {encoding : List ℕ} (is : encoding ≡ to_le_bytes w v)
    {old new : WriterState put room K} where
  pub number_wrote : Added encoding old new → Wrote (number_write (byte_len w) any) old new v
  number_wrote d = encoding_wrote (number_write (byte_len w) any) v encoding (number_is w v encoding is) (number_size w v encoding is) old new tt d

  pub number_unwritten : WriterLaws put room → (e : IoWriteError) → BytesWriteRefused (length encoding) old new e
      → WriteRefused (number_write (byte_len w) any) old new v (writing.Io e)
  number_unwritten laws e d = encoding_unwritten (number_write (byte_len w) any) v encoding (number_is w v encoding is) (number_size w v encoding is)
      laws old new e d

  pub number_halted : WriterLaws put room → (e : IoWriteError) → BytesWriteRefused (length encoding) old new e
      → Stopped (number_write (byte_len w) any) old new v (writing.Io e)
  number_halted laws e d =
      let size = number_size w v encoding is in
      encoding_stopped (number_write (byte_len w) any) v encoding (number_is w v encoding is) size laws old new e d
      (λ x. subst (λ n. PieceWriteRefused n (room old.content) [] (writing.Io e)) size x)

-- the one byte of a byte
pub byte_encoding : (v : ℕ) → v < 256 → v ∷ [] ≡ to_le_bytes w8 v
byte_encoding v small = ap (λ b. b ∷ []) (omega arith)

-- ---- signed numbers, by the unsigned number that each stands as

module _ (w : Width) (pow : 256 ^ byte_len w ≡ 2 ^ bits w) (some : 0 < byte_len w) (any : Bool) where
  -- the destination has a signed number that was read
  pub signed_puts : (old new : ReaderState) (bytes : List ℕ) (z : ℤ) → Takes (byte_len w) old new bytes → AreSmall bytes → z
      ≡ cast_signed w (from_le_bytes w bytes) → Puts (signed_read w any).reads (λ n. n) old new (Some z)
  signed_puts old new bytes z t small e =
      let n = from_le_bytes w bytes in
      let read = number_gives (byte_len w) any old new n (number_taken w some old new bytes n t small refl) in
      let P : ℤ → Type 0 = λ y. Gives (signed_read w any).reads old new y in
      puts (signed_read w any).reads (λ y. y) old new z (subst P (sym e)
      (gives_map (number_read (byte_len w) any).reads (signed_read w any).reads old new n (cast_signed w n) (λ b r. signed_of w pow any b n r) read))

  -- a signed number was refused for its bytes
  pub signed_refuses : (old new : ReaderState) (e : ReadError) → PieceReadRefused (byte_len w) old new e
      → ReadRefused (signed_read w any).reads 0 true old new e
  signed_refuses old new e d = refuses_map (number_read (byte_len w) any).reads (signed_read w any).reads 0 true old new e
      (λ b z t. (cast_unsigned w z, as_unsigned w pow any b z t)) (number_refuses (byte_len w) any old new e d)

signed_is : (w : Width) (z : ℤ) (encoding : List ℕ) → encoding ≡ to_le_bytes w (cast_unsigned w z) → encoding ≡ le (byte_len w) (cast_unsigned w z)
signed_is w z encoding is = number_is w (cast_unsigned w z) encoding is

signed_size : (w : Width) (z : ℤ) (encoding : List ℕ) → encoding ≡ to_le_bytes w (cast_unsigned w z) → length encoding ≡ byte_len w
signed_size w z encoding is = number_size w (cast_unsigned w z) encoding is

module _ {S K : Type 0} {put : S → List ℕ → S} {room : S → ℕ} (w : Width) (any : Bool) (z : ℤ) {encoding : List ℕ}
    (is : encoding ≡ to_le_bytes w (cast_unsigned w z)) {old new : WriterState put room K} where
  pub signed_wrote : Added encoding old new → Wrote (signed_write w any) old new z
  signed_wrote d = encoding_wrote (signed_write w any) z encoding (signed_is w z encoding is) (signed_size w z encoding is) old new tt d

  pub signed_unwritten : WriterLaws put room → (e : IoWriteError) → BytesWriteRefused (length encoding) old new e
      → WriteRefused (signed_write w any) old new z (writing.Io e)
  signed_unwritten laws e d = encoding_unwritten (signed_write w any) z encoding (signed_is w z encoding is) (signed_size w z encoding is) laws old new e d

  pub signed_halted : WriterLaws put room → (e : IoWriteError) → BytesWriteRefused (length encoding) old new e
      → Stopped (signed_write w any) old new z (writing.Io e)
  signed_halted laws e d =
      let size = signed_size w z encoding is in
      encoding_stopped (signed_write w any) z encoding (signed_is w z encoding is) size laws old new e d
      (λ x. subst (λ n. PieceWriteRefused n (room old.content) [] (writing.Io e)) size x)

-- ---- booleans and values without bytes

pub unit_puts : {X : Type 0} (s : ReaderState) (x : X) → Puts unit_read.reads (λ _. tt) s s (Some x)
unit_puts s x = record {
  kept = record { lends = refl; never_fails = refl; counts_windows = refl; is_known = refl };
  sound = sound_refl s;
  found =
      λ t. record { encoding = []; is_read = refl; joins = refl };
  place = λ t. still s;
}

one_of : (bytes : List ℕ) → length bytes ≡ 1 → bytes ≡ get_or bytes 0 0 ∷ []
one_of [] e = absurd (omega arith)
one_of (b ∷ []) e = refl
one_of (b ∷ c ∷ more) e = absurd (omega arith)

-- the byte of an array of one was taken
pub byte_taken : (old new : ReaderState) (bytes : List ℕ) → Takes 1 old new bytes → Takes 1 old new (get_or bytes 0 0 ∷ [])
byte_taken old new bytes t = subst (Takes 1 old new) (one_of bytes t.size) t

pub bool_puts : (old new : ReaderState) (v : ℕ) (b : Bool) → Takes 1 old new (v ∷ []) → v ≡ bool_byte b → Puts bool_read.reads (λ n. n) old new (Some b)
bool_puts old new v b t e = takes_gives bool_read.reads 1 old new (v ∷ []) b t (ap (λ n. n ∷ []) e)

small_bool : (b : Bool) → bool_byte b ≤ 1
small_bool false = omega arith
small_bool true = omega arith

not_bool : (old new : ReaderState) (v : ℕ) → 1 < v → Takes 1 old new (v ∷ []) → Accepts bool_read.reads old → ⊥
not_bool old new v big t a =
    let f = a.front.found in
    let e : bool_byte a.front.value ∷ a.front.rest ≡ v ∷ new.rest = ap (λ x. x ++ a.front.rest) (sym f.is_read) ∙ sym f.joins ∙ takes_joins t a.is_known in
    let same : bool_byte a.front.value ≡ v = cc in
    absurd (omega (arith, small_bool a.front.value, same))

pub bool_refuses : (old new : ReaderState) (v : ℕ) → 1 < v → Takes 1 old new (v ∷ [])
    → ReadRefused bool_read.reads 0 true old new (reading.InvalidBoolEncoding v)
bool_refuses old new v big t =
    record {
      kept = t.loses.kept;
      left = λ told. record { front = v ∷ []; joins = takes_joins t told };
      place = loses_onward 1 old new t.loses;
      device = t.loses.sound;
      due =
          not_bool old new v big t;
    }

pub is_bool : (v : ℕ) → v ≤ 1 → v ≡ bool_byte (nat_eq v 1)
is_bool zero h = refl
is_bool (suc zero) h = refl
is_bool (suc (suc v)) h = absurd (omega arith)
