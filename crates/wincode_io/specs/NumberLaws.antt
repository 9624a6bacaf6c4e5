-- The laws of numbers as bytes.
use Rattle.std.proofs.Common.{◌≡◌, ◌∙◌, sym, ap, ℕ, ◌+◌, ◌*◌, ◌/◌, ◌%◌, ◌^◌, ◌<◌, List, [], ◌∷◌, length, zero, suc, refl, arith, pow-suc}
use Rattle.std.specs.Int.{to_le_bytes, from_le_bytes, bytes_low_first, byte_at, byte_worth, sum_through, byte_len, Width}
use Rattle.std.specs.Prelude.{slice_index}
use Rattle.std.proofs.Math.Nat.{div-div-eq-div-mul}
use Rattle.std.proofs.lemmas.List.Elements.{All-head, All-tail}
use Rattle.wincode_io.specs.Bytes.{IsBytes}
use Rattle.wincode_io.specs.Numbers.{le, worth}

pub length-le : (k n : ℕ) → length (le k n) ≡ k
unfolding le
length-le zero n = refl
length-le (suc k) n = ap suc (length-le k (n / 256))

pub le-bytes : (k n : ℕ) → IsBytes (le k n)
unfolding le
le-bytes zero n i d h = absurd (omega (arith, h))
le-bytes (suc k) n zero d h = omega arith
le-bytes (suc k) n (suc i) d h = le-bytes k (n / 256) i d (omega (arith, h))

-- one byte is its own number
pub le-byte : (b : ℕ) → b < 256 → b ∷ [] ≡ le 1 b
unfolding le
le-byte b h = ap (λ x. x ∷ []) (omega (arith, h))

below_power : (k n : ℕ) → n < 256 ^ suc k → n / 256 < 256 ^ k
below_power k n h =
    let e : 256 ^ suc k ≡ 256 * 256 ^ k = rw pow-suc (omega arith) in
    omega (arith, h, e)

-- the bytes of a number that they hold are worth it
pub worth-le : (k n : ℕ) → n < 256 ^ k → worth (le k n) ≡ n
unfolding le worth
worth-le zero n h = omega (arith, h)
worth-le (suc k) n h = ap (λ m. n % 256 + 256 * m) (worth-le k (n / 256) (below_power k n h)) ∙ omega arith

-- bytes are those of what they are worth
pub le-worth : (bytes : List ℕ) → IsBytes bytes → le (length bytes) (worth bytes) ≡ bytes
unfolding le worth
le-worth [] all = refl
le-worth (b ∷ bytes) all =
    let low : b < 256 = All-head (λ x. x < 256) b bytes all in
    let r = le-worth bytes (All-tail (λ x. x < 256) b bytes all) in
    let m : (b + 256 * worth bytes) % 256 ≡ b = omega (arith, low) in
    let d : (b + 256 * worth bytes) / 256 ≡ worth bytes = omega (arith, low) in
    ap (λ x. x ∷ le (length bytes) ((b + 256 * worth bytes) / 256)) m ∙ ap (λ x. b ∷ le (length bytes) x) d ∙ ap (λ xs. b ∷ xs) r

pub worth_below : (bytes : List ℕ) → IsBytes bytes → worth bytes < 256 ^ length bytes
unfolding worth
worth_below [] all = omega arith
worth_below (b ∷ bytes) all =
    let low : b < 256 = All-head (λ x. x < 256) b bytes all in
    let r : worth bytes < 256 ^ length bytes = worth_below bytes (All-tail (λ x. x < 256) b bytes all) in
    let e : 256 ^ suc (length bytes) ≡ 256 * 256 ^ length bytes = rw pow-suc (omega arith) in
    omega (arith, low, r, e)

-- k bytes are worth a number of k bytes, whose bytes they are
pub worth_within : (k : ℕ) (bytes : List ℕ) → IsBytes bytes → length bytes ≡ k → worth bytes < 256 ^ k
worth_within k bytes all e = rw (← e) (worth_below bytes all)

pub le-worth_within : (k : ℕ) (bytes : List ℕ) → IsBytes bytes → length bytes ≡ k → le k (worth bytes) ≡ bytes
le-worth_within k bytes all e = rw (← e) (le-worth bytes all)

-- ---- the words of std

byte_at_is : (i n : ℕ) → byte_at i n ≡ (n / 256 ^ i) % 256
byte_at_is zero n = omega arith
byte_at_is (suc i) n = refl

divided : (i n : ℕ) → (n / 256 ^ i) / 256 ≡ n / 256 ^ suc i
divided i n = div-div-eq-div-mul n (256 ^ i) 256 ∙ ap (λ d. n / d) (sym (pow-suc 256 i))

low_first-le : (i k n : ℕ) → bytes_low_first i k n ≡ le k (n / 256 ^ i)
unfolding le
low_first-le i zero n = refl
low_first-le i (suc k) n =
    ap (λ b. b ∷ bytes_low_first (suc i) k n) (byte_at_is i n)
    ∙ ap (λ bs. ((n / 256 ^ i) % 256) ∷ bs) (low_first-le (suc i) k n ∙ ap (le k) (sym (divided i n)))

-- what `to_le_bytes` gives
pub to_le_bytes-le : (w : Width) (n : ℕ) → to_le_bytes w n ≡ le (byte_len w) n
to_le_bytes-le w n = low_first-le 0 (byte_len w) n ∙ ap (le (byte_len w)) (omega arith)

abbrev worth_through : List ℕ → ℕ → ℕ
worth_through bytes k = sum_through (λ i. byte_worth i (slice_index bytes i)) k

worth_shifted : (b : ℕ) (bytes : List ℕ) (k : ℕ) → worth_through (b ∷ bytes) (suc k) ≡ b + 256 * worth_through bytes k
worth_shifted b bytes zero = omega arith
worth_shifted b bytes (suc k) =
    let e : 256 ^ suc (suc k) ≡ 256 * 256 ^ suc k = rw pow-suc (omega arith) in
    let p : slice_index bytes (suc k) * 256 ^ suc (suc k) ≡ 256 * (slice_index bytes (suc k) * 256 ^ suc k) = rw e (omega arith) in
    omega (arith, worth_shifted b bytes k, p)

worth_is : (b : ℕ) (bytes : List ℕ) → worth (b ∷ bytes) ≡ worth_through (b ∷ bytes) (length bytes)
unfolding worth
worth_is b [] = omega arith
worth_is b (c ∷ bytes) = ap (λ x. b + 256 * x) (worth_is c bytes) ∙ sym (worth_shifted b (c ∷ bytes) (length bytes))

-- what `from_le_bytes` gives
pub from_le_bytes-worth : (w : Width) (bytes : List ℕ) → 0 < byte_len w → length bytes ≡ byte_len w → from_le_bytes w bytes ≡ worth bytes
from_le_bytes-worth w [] some e = absurd (omega (arith, e, some))
from_le_bytes-worth w (b ∷ bytes) some e = ap (worth_through (b ∷ bytes)) (omega (arith, e)) ∙ sym (worth_is b bytes)

-- bytes are those of the number that `from_le_bytes` makes of them
pub le-from_le_bytes : (w : Width) (bytes : List ℕ) → 0 < byte_len w → IsBytes bytes → length bytes ≡ byte_len w → le (byte_len w) (from_le_bytes w bytes)
    ≡ bytes
le-from_le_bytes w bytes some all e =
    ap (le (byte_len w)) (from_le_bytes-worth w bytes some e) ∙ ap (λ k. le k (worth bytes)) (sym e) ∙ le-worth bytes all
