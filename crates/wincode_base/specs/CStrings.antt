-- The grammar of a C string: the list of its bytes, of which none is 0.
use Rattle.std.specs.Ffi.{HasNoNul}
use Rattle.std.proofs.Common.{◌≡◌, ◌∙◌, sym, ap, subst, ℕ, ◌<◌, ◌^◌, true, List, map, arith, lit≤}
use Rattle.std.specs.Prelude.{codes}
use Rattle.wincode_io.specs.Joins.{Each}
use Rattle.wincode_base.specs.Boxed.{boxed_read, boxed_write}
use Rattle.wincode_base.specs.BoxedLaws.{boxed_read_laws, boxed_write_laws, boxed_reads_back}
use Rattle.wincode_base.specs.Grammar.{ReadGrammar, WriteGrammar, ReadLaws, WriteLaws, ReadsBack}
use Rattle.wincode_base.specs.LeafLaws.{number_read_laws, number_write_laws, number_reads_back}
use Rattle.wincode_base.specs.Leaves.{number_read, number_write}
use Rattle.wincode_base.specs.LengthLaws.{bincode_laws}
use Rattle.wincode_base.specs.Lengths.{bincode, preallocation_limit}
use Rattle.wincode_base.specs.ListLaws.{list_read_laws, list_write_laws, list_reads_back}
use Rattle.wincode_base.specs.Lists.{list_read, list_write}
use Rattle.wincode_base.specs.Made.{IsMadeOf, made_read}
use Rattle.wincode_base.specs.MadeLaws.{made_read_laws, made_write_laws, made_reads_back}
use Rattle.wincode_base.specs.Strings.{reference_write}
use Rattle.wincode_base.specs.TagLaws.{counted_laws, counted_reads_back}
use Rattle.wincode_base.specs.Tags.{counted_read, counted_write}

-- bytes of which none is 0 make themselves
abbrev pub IsText : List ℕ → List ℕ → Type 0
IsText v w = (w ≡ v) × HasNoNul v

-- the text of the error where one is
abbrev pub is_nul : List ℕ
is_nul = codes "nul"

-- what contracts see of bytes, as of a list of them
abbrev pub bytes_seen : List ℕ → List ℕ
bytes_seen = map (λ v. v)

-- the list of them
abbrev pub bytes_read : ReadGrammar (List ℕ)
bytes_read = list_read (bincode preallocation_limit) 24 (number_read 1 true)

abbrev pub bytes_write : WriteGrammar (List ℕ)
bytes_write = list_write (bincode preallocation_limit) 24 (number_write 1 true)

-- They are read, memory is asked for once more, and then none may be 0.
abbrev pub c_string_read : ReadGrammar (List ℕ)
c_string_read = counted_read 24 (made_read bytes_seen IsText is_nul (boxed_read bytes_read))

abbrev pub c_string_write : WriteGrammar (List ℕ)
c_string_write = counted_write 24 (reference_write (boxed_write bytes_write))

-- which are bytes
abbrev pub AreBytes : List ℕ → Type 0
AreBytes = Each (λ v. v < 256 ^ 1)

pub bytes_read_laws : ReadLaws AreBytes bytes_read
bytes_read_laws = list_read_laws (bincode preallocation_limit) (bincode_laws preallocation_limit) 24 (lit≤ tt) (λ v. v < 256 ^ 1) (number_read 1 true)
    (number_read_laws 1 true (lit≤ tt))

pub c_string_read_laws : ReadLaws (IsMadeOf bytes_seen IsText AreBytes) c_string_read
c_string_read_laws =
    let l = made_read_laws bytes_seen IsText is_nul (boxed_read bytes_read) (λ p q r s e h k. ap bytes_seen h.0 ∙ e ∙ sym (ap bytes_seen k.0))
    (boxed_read_laws AreBytes bytes_read bytes_read_laws) in
    record { one_front = l.one_front; reads_valid = l.reads_valid; statics = l.statics; prealloc = omega arith }

-- the list of bytes in memory of its own reads back
kept_reads_back : ReadsBack AreBytes bytes_seen (boxed_write bytes_write) bytes_seen (boxed_read bytes_read)
kept_reads_back = boxed_reads_back (λ v. v) AreBytes bytes_seen bytes_write bytes_seen bytes_read
    (list_reads_back (bincode preallocation_limit) (bincode_laws preallocation_limit) 24 (λ v. v) (λ v. v < 256 ^ 1) (λ v. v) (number_write 1 true) (λ v. v)
    (number_read 1 true) (number_reads_back 1 true))

module _ {Y : Type 0} (parts : Y → List ℕ) where
  pub c_string_write_laws : WriteLaws (λ y. IsText (parts y) (parts y) × AreBytes (parts y)) (λ y. bytes_seen (parts y)) c_string_write
  c_string_write_laws = counted_laws 24 (made_write_laws (λ y. IsText (parts y) (parts y)) parts
      (boxed_write_laws AreBytes bytes_seen (λ v. v) bytes_write
      (list_write_laws (bincode preallocation_limit) 24 (λ v. v) (λ v. v < 256 ^ 1) (λ v. v) (number_write 1 true) (number_write_laws 1 true))))

  pub c_string_reads_back : ReadsBack (λ y. IsText (parts y) (parts y) × AreBytes (parts y)) (λ y. bytes_seen (parts y)) c_string_write
      (λ y. bytes_seen (parts y)) c_string_read
  c_string_reads_back = counted_reads_back 24 (made_reads_back bytes_seen IsText is_nul parts
      (λ b p q t m. subst (λ x. bytes_write.fits (bytes_seen x)) (sym m.0) (kept_reads_back.within b p t)) kept_reads_back)
