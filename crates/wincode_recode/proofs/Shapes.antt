-- Recoding, from the laws of the shapes' schemas.
use Rattle.std.proofs.Common.{◌≡◌, ◌∙◌, sym, ap, subst, ℕ, ◌+◌, ◌*◌, ◌<◌, ◌≤◌, ◌^◌, ◌&&◌, not, inl, inr, List, [], ◌∷◌, ◌++◌, length, map, refl}
use Rattle.std.proofs.Common.{arith, true, false, true≢false, Option, Some, None}
use Rattle.std.specs.Prelude.{IfSome, IsTrue}
use Rattle.std.proofs.KnownBytes.{Keeps-refl}
use Rattle.wincode_io.specs.Joins.{Each, total}
use Rattle.wincode_io.specs.NumberLaws.{length-le}
use Rattle.wincode_io.specs.Readers.{ReaderState, Kept, memory, shared, is_steady}
use Rattle.wincode_io.specs.ShortNumberLaws.{groups_most}
use Rattle.wincode_io.specs.declared.error.ReadError.TheVariants as reader
use Rattle.wincode_base.specs.ArrayLaws.{array_write_laws}
use Rattle.wincode_base.specs.Grammar.{WriteGrammar, WriteLaws}
use Rattle.wincode_base.specs.LeafLaws.{number_write_laws, bool_write_laws}
use Rattle.wincode_base.specs.LengthLaws.{bincode_encoding_is, encoding_of_len}
use Rattle.wincode_base.specs.Leaves.{number_write}
use Rattle.wincode_base.specs.Lengths.{HasEncoding, bincode, encoding_len, preallocation_limit}
use Rattle.wincode_base.specs.Lists.{list_write}
use Rattle.wincode_base.specs.ListLaws.{list_write_laws_of, list_write_laws}
use Rattle.wincode.specs.OneText.{IsOneText}
use Rattle.wincode.specs.OneTextLaws.{number_one_text, bool_one_text, str_one_text, pair_one_text, windowed_one_text, array_one_text, list_one_text}
use Rattle.wincode_base.specs.Outcomes.{Accepts, ReadDue, ReadRefused, SerializeRefused}
use Rattle.wincode_base.specs.Pairs.{pair_write}
use Rattle.wincode_base.specs.PairLaws.{pair_write_laws, windowed_write_laws}
use Rattle.wincode_base.specs.Short.{short_scheme}
use Rattle.wincode_base.specs.ShortLaws.{short_is}
use Rattle.wincode_base.specs.ItemSizes.{pair_size}
use Rattle.wincode_base.specs.StringLaws.{str_write_laws}
use Rattle.wincode_base.specs.declared.error.ReadError.{ReadError}
use Rattle.wincode_base.specs.declared.error.ReadError.TheVariants as reading
use Rattle.wincode_base.specs.declared.error.WriteError.{WriteError}
use Rattle.wincode_base.specs.declared.error.WriteError.TheVariants as writing
use Rattle.wincode_recode.specs.Recoding.{Reread, RereadWriteRefused, RereadRefused, IsReadMemory, IsReadFault, IsRecodedAs, RecodeAsRefused}
use Rattle.wincode_recode.specs.Recoding.{RecodeInputRefused, IsKept, IsRecoded, RecodeRefused, RelayRefused}
use Rattle.wincode_recode.specs.Shapes.{IsKnown, word_of, Value, byte_write, read_of, write_of}
use Rattle.wincode_recode.specs.declared.recoding.RelayError.{RelayError}
use Rattle.wincode_recode.specs.declared.recoding.RelayError.TheVariants as relay
use Rattle.wincode_recode.specs.declared.recoding.KnownShape.{KnownShape}
use Rattle.wincode_recode.specs.declared.recoding.KnownShape.TheVariants.{Nested, Text, Short, Record, Pairs}

-- ---- each shape asks for no borrow, and but for maps has one encoding for each value

unlent : (shape : KnownShape) → (read_of shape).borrow ≡ 0
unlent Nested = refl
unlent Text = refl
unlent Short = refl
unlent Record = refl
unlent Pairs = refl

nested_one : IsOneText (read_of Nested)
nested_one = list_one_text (bincode preallocation_limit) 24 (list_one_text (bincode preallocation_limit) 24 (number_one_text 8 true))

record_one : IsOneText (read_of Record)
record_one = windowed_one_text (pair_one_text (number_one_text 8 true)
    (pair_one_text bool_one_text (windowed_one_text (array_one_text 32 (number_one_text 1 true)))))

-- ---- what is within its limits has an encoding, of fewer than 2 to the 64 bytes

pub able_by : {X V : Type 0} {is_valid : X → Type 0} {model : X → V} {w : WriteGrammar V} → WriteLaws is_valid model w → (v : V) → w.fits v → w.can v
    × ((b : List ℕ) × w.writes b v)
able_by laws v f = let c = laws.can_fit v f in (c, laws.has_encoding v c)

pub able : (shape : KnownShape) (v : Value shape) → (write_of shape).fits v → (write_of shape).can v × ((b : List ℕ) × (write_of shape).writes b v)
able Nested v f =
    let numbers = list_write_laws {X = List ℕ} (bincode preallocation_limit) 24 (λ xs. xs) (λ n. n < 256 ^ 8) (λ n. n) (number_write 8 true)
    (number_write_laws 8 true) in
    able_by (list_write_laws {X = List (List ℕ)} (bincode preallocation_limit) 24 (λ xs. xs) (λ ys. Each (λ n. n < 256 ^ 8) ys) (λ ys. map (λ n. n) ys)
    (list_write (bincode preallocation_limit) 24 (number_write 8 true)) numbers) v f
able Text v f = able_by (str_write_laws {X = List ℕ} 24 (λ x. Unit {0}) (λ x. x)) v f
able Short v f = able_by (list_write_laws {X = List ℕ} short_scheme 24 (λ xs. xs) (λ n. n < 256 ^ 1) (λ n. n) byte_write (number_write_laws 1 true)) v f
able Record v f =
    able_by (windowed_write_laws (pair_write_laws (number_write_laws 8 true)
    (pair_write_laws bool_write_laws (windowed_write_laws (array_write_laws 32 (λ n. n < 256 ^ 1) (λ n. n) byte_write (number_write_laws 1 true)))))) v f
able Pairs v f =
    let both = pair_write_laws (number_write_laws 1 true) (number_write_laws 1 true) in
    able_by (list_write_laws_of {X = List (ℕ × ℕ)} (bincode preallocation_limit) 24 (pair_size byte_write.meta byte_write.meta) (λ xs. xs)
    (λ p. (p.0 < 256 ^ 1) × (p.1 < 256 ^ 1)) (λ p. (p.0, p.1)) (pair_write byte_write byte_write) both) v f

pub total_within : {V : Type 0} (fits : V → Type 0) (size : V → ℕ) (n : ℕ) → ((v : V) → fits v → size v ≤ n) → (vs : List V) → Each fits vs → total size vs
    ≤ length vs * n
total_within fits size n most [] f = omega arith
total_within fits size n most (v ∷ vs) f = omega (arith, most v f.0, total_within fits size n most vs f.1)

pub bincode_len : (limit n : ℕ) → HasEncoding (bincode limit) n → encoding_len ((bincode limit).encoding n) ≡ 8
bincode_len limit n h = sym (encoding_of_len (bincode limit) n h.0 h.1) ∙ ap length (bincode_encoding_is limit n h.0 h.1).1 ∙ length-le 8 n

pub short_len : (n : ℕ) → HasEncoding short_scheme n → encoding_len (short_scheme.encoding n) ≤ 3
short_len n h =
    let a = sym (encoding_of_len short_scheme n h.0 h.1) in
    let b = ap length (short_is n h.0 h.1).1 in
    omega (arith, a, b, groups_most 2 n)

pub numbers_small : (v : List ℕ) → (list_write (bincode preallocation_limit) 24 (number_write 8 true)).fits v
    → (list_write (bincode preallocation_limit) 24 (number_write 8 true)).size v ≤ 4194312
numbers_small v f = omega (arith, bincode_len preallocation_limit (length v) f.0, total_within (λ n. Unit {0}) (λ n. 8) 8 (λ n u. omega arith) v f.2, f.1.1)

size_of : (shape : KnownShape) (v : Value shape) → (write_of shape).fits v → (write_of shape).size v < 2 ^ 64
size_of Nested v f =
    let w = list_write (bincode preallocation_limit) 24 (number_write 8 true) in
    omega (arith, bincode_len preallocation_limit (length v) f.0, total_within w.fits w.size 4194312 numbers_small v f.2, f.1.1)
size_of Text v f = omega (arith, f)
size_of Short v f = omega (arith, short_len (length v) f.0, total_within (λ n. Unit {0}) (λ n. 1) 1 (λ n u. omega arith) v f.2, f.1)
size_of Record v f = omega (arith, f.1.1.0, total_within (λ n. Unit {0}) (λ n. 1) 1 (λ n u. omega arith) v.1.1 f.1.1.1)
size_of Pairs v f = omega (
  arith,
  bincode_len preallocation_limit (length v) f.0,
  total_within (λ p. Unit {0} × Unit {0}) (λ p. 1 + 1) 2 (λ p u. omega arith) v f.2,
  f.1.1,
)

-- ---- recoding

module _ {X : Type 0} (shape : KnownShape) (model : X → Value shape) (input : List ℕ) where
  abbrev IsReread : List ℕ → Type 0
  IsReread = Reread model (read_of shape) model (write_of shape) input

  pub recoded : (text : List ℕ) → IsReread text → IsRecodedAs shape input text
  recoded text h = record { value = model h.value; rest = h.rest; found = h.found; is_encoding = h.is_encoding }

  -- where each value has one encoding, the encoding is the front that was read
  pub front_kept : IsOneText (read_of shape) → (text : List ℕ) → IsReread text → (rest : List ℕ) × (input ≡ text ++ rest)
  front_kept one text h = (h.rest, h.found.joins ∙ ap (λ t. t ++ h.rest) (one.same h.found.encoding text (model h.value) h.found.is_read h.reads_back))

  -- what was read could not be formed again for want of memory alone
  pub text_wanted : (e : WriteError) → RereadWriteRefused model (read_of shape) model (write_of shape) input e
      → ((text : List ℕ) × IsRecodedAs shape input text) × (e ≡ writing.OutOfMemory)
  text_wanted e u = by u.refused where
    by : SerializeRefused (write_of shape) (model u.value) e → ((text : List ℕ) × IsRecodedAs shape input text) × (e ≡ writing.OutOfMemory)
    by (inl d) = absurd (d.0 (able shape (model u.value) u.fits).0 (size_of shape (model u.value) u.fits))
    by (inr d) =
        let t = (able shape (model u.value) u.fits).1 in
        ((t.0, record { value = model u.value; rest = u.rest; found = u.found; is_encoding = t.1 }), d.2)

pub kept : {X : Type 0} (shape : KnownShape) (model : X → Value shape) (input text : List ℕ) → Reread model (read_of shape) model (write_of shape) input text
    → IsKept shape input text
kept Nested model input text h = front_kept Nested model input nested_one text h
kept Text model input text h = front_kept Text model input (str_one_text 24 0 false) text h
kept Short model input text h = front_kept Short model input (list_one_text short_scheme 24 (number_one_text 1 true)) text h
kept Record model input text h = front_kept Record model input record_one text h
kept Pairs model input text h = tt

-- where a front reads, reading is refused for memory or by the device alone
read_fault : (shape : KnownShape) (old left : ReaderState) (text : List ℕ) (e : ReadError) → IsTrue old.is_known → length old.rest < 2 ^ 64
    → IsRecodedAs shape old.rest text
    → ReadRefused (read_of shape).reads (read_of shape).borrow (read_of shape).takes_no_memory old left e → IsReadFault left e
read_fault shape old left text e known small h u = by e u.due where
  accepted : Accepts (read_of shape).reads old
  accepted = record { is_known = known; fits = small; front = record { value = h.value; rest = h.rest; found = h.found } }

  by : (e : ReadError) → ReadDue (Accepts (read_of shape).reads old) (read_of shape).borrow (read_of shape).takes_no_memory left e → IsReadFault left e
  by (reading.Io (reader.ReadSizeLimit n)) d = absurd (d accepted)
  by (reading.Io reader.UnsupportedZeroCopy) d = let l : left.lends < (read_of shape).borrow = d accepted in absurd (omega (arith, unlent shape))
  by (reading.Io reader.OutOfMemory) d = d
  by (reading.Io (reader.Io x)) d = d
  by reading.OutOfMemory d = tt
  by _ d = absurd (d accepted)

pub unrecoded : {X : Type 0} (shape : KnownShape) (model : X → Value shape) (old : ReaderState) (e : RelayError)
    → RereadRefused model (read_of shape) model (write_of shape) old e → RecodeInputRefused shape old e
unrecoded shape model old (relay.Read e) u = (u.0, u.1, λ known small text h. read_fault shape old u.0 text e known small h u.1.0)
unrecoded shape model old (relay.Write e) u = λ known. text_wanted shape model old.rest e (u known)
unrecoded shape model old _ u = absurd u

-- of bytes in memory, it is memory for a value
memory_wanted : {bytes : List ℕ} {left : ReaderState} → Kept (memory shared bytes) left → (e : ReadError) → IsReadFault left e → IsReadMemory e
memory_wanted {bytes} {left} kept = by where
  steady : is_steady left ≡ true
  steady = ap (λ b. b && not left.counts_windows) kept.never_fails ∙ ap (λ c. true && not c) kept.counts_windows

  by : (e : ReadError) → IsReadFault left e → IsReadMemory e
  by reading.OutOfMemory d = tt
  by (reading.Io (reader.ReadSizeLimit n)) d = absurd d
  by (reading.Io reader.UnsupportedZeroCopy) d = absurd d
  by (reading.Io reader.OutOfMemory) d = absurd (true≢false (sym steady ∙ d))
  by (reading.Io (reader.Io x)) d = absurd (true≢false (sym kept.never_fails ∙ d.0))
  by _ d = absurd d

pub unrecoded_bytes : (shape : KnownShape) (bytes : List ℕ) (e : RelayError) → length bytes < 2 ^ 64 → RecodeInputRefused shape (memory shared bytes) e
    → RecodeAsRefused shape bytes e
unrecoded_bytes shape bytes (relay.Read e) small u = ((u.0, u.1), λ text h. memory_wanted u.1.0.kept e (u.2 refl small text h))
unrecoded_bytes shape bytes (relay.Write e) small u = u refl
unrecoded_bytes shape bytes _ small u = absurd u

-- ---- an input and an output

-- what was recoded of the bytes of an input was recoded of the input, where that is known
known_input : (P : List ℕ → Type 0) (input : Option (List ℕ)) (bytes : List ℕ) → IfSome input (λ all. bytes ≡ all) → P bytes → IfSome input P
known_input P None bytes same p = tt
known_input P (Some all) bytes same p = subst P same p

pub relayed : (word : List ℕ) (shape : KnownShape) (input : Option (List ℕ)) (bytes text : List ℕ) → word ≡ word_of shape → IfSome input (λ all. bytes ≡ all)
    → IsRecodedAs shape bytes text → IsKept shape bytes text
    → IsKnown word × IfSome input (λ all. (text : List ℕ) × IsRecoded word all text)
relayed word shape input bytes text known same h k = (
  (shape, known),
  known_input (λ all. (text : List ℕ) × IsRecoded word all text) input bytes same (text, (shape, known, h, k)),
)

pub unrelayed : (word : List ℕ) (shape : KnownShape) (input left old : Option (List ℕ)) (bytes : List ℕ) (e : RelayError) → word ≡ word_of shape
    → IfSome input (λ all. bytes ≡ all) → RecodeAsRefused shape bytes e
    → RelayRefused word input left old old e
unrelayed word shape input left old bytes (relay.Read e) known same d =
    ((shape, known), Keeps-refl old, known_input (λ all. RecodeRefused word all (relay.Read e)) input bytes same (shape, known, d))
unrelayed word shape input left old bytes (relay.Write e) known same d =
    ((shape, known), Keeps-refl old, known_input (λ all. RecodeRefused word all (relay.Write e)) input bytes same (shape, known, d))
unrelayed word shape input left old bytes _ known same d = absurd d
