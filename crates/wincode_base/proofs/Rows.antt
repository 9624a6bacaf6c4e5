-- The definitions, evaluated on worked rows of bytes and values.
use Rattle.std.proofs.Common.{◌≡◌, sym, ap, ℕ, ◌<◌, ◌^◌, List, [], ◌∷◌, ◌++◌, length, refl, arith, true, length-append, lit<, lit≤, false, Option}
use Rattle.std.proofs.Common.{Some, None, Err}
use Rattle.wincode_io.specs.Numbers.{le}
use Rattle.wincode_io.specs.ShortNumbers.{groups, short_encoding}
use Rattle.wincode_base.specs.Grammar.{ReadGrammar, WriteGrammar}
use Rattle.wincode_base.specs.Leaves.{number_read, number_write}
use Rattle.wincode_base.specs.Lengths.{bincode, IsLength, preallocation_limit}
use Rattle.wincode_base.specs.LengthLaws.{bincode_encoding_is}
use Rattle.wincode_base.specs.LeafLaws.{number_one}
use Rattle.wincode_base.specs.Lists.{list_read, list_write}
use Rattle.wincode_base.specs.Outcomes.{Front}
use Rattle.wincode_base.specs.Tags.{option_read, option_write, result_read, result_write}
use Rattle.wincode_base.specs.declared.meta.TypeMeta.TheVariants.{Static, Dynamic}

abbrev limit : ℕ
limit = preallocation_limit

abbrev zeros : List ℕ
zeros = 0 ∷ 0 ∷ 0 ∷ 0 ∷ 0 ∷ 0 ∷ 0 ∷ []

abbrev numbers_read : ReadGrammar (List ℕ)
numbers_read = list_read (bincode limit) 24 (number_read 8 true)

abbrev numbers_write : WriteGrammar (List ℕ)
numbers_write = list_write (bincode limit) 24 (number_write 8 true)

abbrev nested : List (List ℕ)
nested = (1 ∷ []) ∷ [] ∷ []

-- the list of the list of 1 and the empty list, in 32 bytes
abbrev nested_encoding : List ℕ
nested_encoding = (2 ∷ zeros) ++ ((1 ∷ zeros) ++ ((1 ∷ zeros) ++ (0 ∷ zeros)))

pub nested_size : length nested_encoding ≡ 32
nested_size = refl

pub one_byte : (number_read 1 true).reads (7 ∷ []) 7
unfolding le
one_byte = (lit< tt, refl)

pub eight_bytes : (number_read 8 true).reads (2 ∷ 1 ∷ 0 ∷ 0 ∷ 0 ∷ 0 ∷ 0 ∷ 0 ∷ []) 258
unfolding le
eight_bytes = (lit< tt, refl)

pub nested_reads : (list_read (bincode limit) 24 numbers_read).reads nested_encoding nested
unfolding le
nested_reads = (
  (lit< tt, lit≤ tt),
  (
    2 ∷ zeros,
    (1 ∷ zeros) ++ ((1 ∷ zeros) ++ (0 ∷ zeros)),
    refl,
    (
      (1 ∷ zeros) ++ (1 ∷ zeros),
      0 ∷ zeros,
      ((lit< tt, lit≤ tt), (1 ∷ zeros, 1 ∷ zeros, refl, (1 ∷ zeros, [], (lit< tt, refl), refl, refl), refl)),
      (0 ∷ zeros, [], ((lit< tt, lit≤ tt), (0 ∷ zeros, [], refl, refl, refl)), refl, refl),
      refl,
    ),
    refl,
  ),
)

pub nested_writes : (list_write (bincode limit) 24 numbers_write).writes nested_encoding nested
unfolding le
nested_writes = (
  2 ∷ zeros,
  (1 ∷ zeros) ++ ((1 ∷ zeros) ++ (0 ∷ zeros)),
  refl,
  (
    (1 ∷ zeros) ++ (1 ∷ zeros),
    0 ∷ zeros,
    (1 ∷ zeros, 1 ∷ zeros, refl, (1 ∷ zeros, [], refl, refl, refl), refl),
    (0 ∷ zeros, [], (0 ∷ zeros, [], refl, refl, refl), refl, refl),
    refl,
  ),
  refl,
)

pub nested_sized : (list_write (bincode limit) 24 numbers_write).size nested ≡ 32
unfolding le
nested_sized = refl

-- no list of numbers is read from no bytes
pub nothing_reads : Front numbers_read.reads [] → ⊥
unfolding le
nothing_reads f =
    let t = f.found.is_read.1 in
    let size : length t.0 ≡ 8 = ap length (bincode_encoding_is limit (length f.value) t.0 t.2).1 in
    absurd (omega (arith, ap length f.found.joins, length-append f.found.encoding f.rest, ap length t.4, length-append t.0 t.1, size))

-- the length that bytes are the encoding of
length_is : (b : List ℕ) (m n : ℕ) (p : ℕ) → m < 2 ^ 64 → b ≡ le 8 m → IsLength (bincode limit) p b n → n ≡ m
length_is b m n p small e h =
    let f = bincode_encoding_is limit n b h.1 in
    sym (number_one 8 true b b [] [] m n (small, e) (f.0, f.1) refl).1

-- 524289 numbers are refused, and so are 2 to the 63
pub too_many : (n : ℕ) → IsLength (bincode limit) 8 (1 ∷ 0 ∷ 8 ∷ 0 ∷ 0 ∷ 0 ∷ 0 ∷ 0 ∷ []) n → ⊥
unfolding le
too_many n h = let e : n ≡ 524289 = length_is _ 524289 n 8 (lit< tt) refl h in absurd (omega (arith, h.0.1, e))

pub far_too_many : (n : ℕ) → IsLength (bincode limit) 8 (0 ∷ 0 ∷ 0 ∷ 0 ∷ 0 ∷ 0 ∷ 0 ∷ 128 ∷ []) n → ⊥
unfolding le
far_too_many n h = let e : n ≡ 9223372036854775808 = length_is _ 9223372036854775808 n 8 (lit< tt) refl h in absurd (omega (arith, h.0.1, e))

-- 174762 lists, which count 24 each, are admitted, and 174763 are not
pub lists_admitted : IsLength (bincode limit) 24 (170 ∷ 170 ∷ 2 ∷ 0 ∷ 0 ∷ 0 ∷ 0 ∷ 0 ∷ []) 174762
unfolding le
lists_admitted = ((lit< tt, lit≤ tt), refl)

pub lists_refused : (n : ℕ) → IsLength (bincode limit) 24 (171 ∷ 170 ∷ 2 ∷ 0 ∷ 0 ∷ 0 ∷ 0 ∷ 0 ∷ []) n → ⊥
unfolding le
lists_refused n h = let e : n ≡ 174763 = length_is _ 174763 n 24 (lit< tt) refl h in absurd (omega (arith, h.0.1, e))

-- None is a byte 0, Some of 7 the bytes 1 and 7, and the error 9 five bytes
pub none_reads : (option_read 1 (number_read 1 true)).reads (0 ∷ []) None
unfolding le
none_reads = ([], refl, refl)

pub some_reads : (option_read 1 (number_read 1 true)).reads (1 ∷ 7 ∷ []) (Some 7)
unfolding le
some_reads = (7 ∷ [], (lit< tt, refl), refl)

pub error_reads : (result_read 4 (number_read 1 true) (number_read 1 true)).reads (1 ∷ 0 ∷ 0 ∷ 0 ∷ 9 ∷ []) (Err 9)
unfolding le
error_reads = (9 ∷ [], (lit< tt, refl), refl)

pub some_writes : (option_write 1 (number_write 1 true)).writes (1 ∷ 7 ∷ []) (Some 7)
unfolding le
some_writes = (7 ∷ [], refl, refl)

pub error_writes : (result_write 4 (number_write 1 true) (number_write 1 true)).writes (1 ∷ 0 ∷ 0 ∷ 0 ∷ 9 ∷ []) (Err 9)
unfolding le
error_writes = (9 ∷ [], refl, refl)

-- Some of 9 behind four bytes, the error 5 of two bytes behind two, and the tag 300 in two
pub some_behind_four : (option_read 4 (number_read 1 true)).reads (1 ∷ 0 ∷ 0 ∷ 0 ∷ 9 ∷ []) (Some 9)
unfolding le
some_behind_four = (9 ∷ [], (lit< tt, refl), refl)

pub error_behind_two : (result_read 2 (number_read 2 true) (number_read 2 true)).reads (1 ∷ 0 ∷ 5 ∷ 0 ∷ []) (Err 5)
unfolding le
error_behind_two = (5 ∷ 0 ∷ [], (lit< tt, refl), refl)

pub tag_of_two_bytes : (number_write 2 true).writes (44 ∷ 1 ∷ []) 300
unfolding le
tag_of_two_bytes = refl

-- no option begins with a byte 2
pub no_third : (x : List ℕ) (o : Option ℕ) → (option_read 1 (number_read 1 true)).reads (2 ∷ x) o → ⊥
unfolding le
no_third x None r = absurd (cc r.2)
no_third x (Some v) r = absurd (cc r.2)

-- sides of one size have it behind a tag of four bytes, and sides of two sizes none
pub one_size : (result_read 4 (number_read 2 true) (number_read 2 true)).meta ≡ Static 6 false
one_size = refl

pub one_size_behind_two : (result_read 2 (number_read 2 true) (number_read 2 true)).meta ≡ Static 4 false
one_size_behind_two = refl

pub two_sizes : (result_read 4 (number_read 1 true) (number_read 2 true)).meta ≡ Dynamic
two_sizes = refl

-- the least and the greatest short numbers of one, two and three bytes
pub short_rows : (short_encoding 127 ≡ 127 ∷ []) × (short_encoding 128 ≡ 128 ∷ 1 ∷ []) × (short_encoding 16383 ≡ 255 ∷ 127 ∷ [])
    × (short_encoding 16384 ≡ 128 ∷ 128 ∷ 1 ∷ []) × (short_encoding 65535 ≡ 255 ∷ 255 ∷ 3 ∷ [])
unfolding groups
short_rows = (refl, refl, refl, refl, refl)
