-- What a reader has left.
use Rattle.std.proofs.Common.{◌≡◌, ap, ℕ, ◌+◌, take, length, arith, length-append, length-take}
use Rattle.std.specs.Prelude.{IsTrue}
use Rattle.wincode_io.specs.PlaceLaws.{known_kept}
use Rattle.wincode_io.specs.Readers.{ReaderState, Loses, Readies}

-- no byte was gone through, or more of them
abbrev pub Counts : ReaderState → ReaderState → ℕ → Type 0
Counts start now left = IsTrue start.is_known → IsTrue now.is_known × (length start.rest ≡ left + length now.rest)

pub counts_none : (s : ReaderState) → Counts s s 0
counts_none s t = (t, omega arith)

pub counts_more : (piece n left more : ℕ) (start old mid new : ReaderState) → Counts start old left → Readies piece old mid → Loses n mid new → more ≡ left + n
    → Counts start new more
counts_more piece n left more start old mid new so r l is t =
    let c = so t in
    let k = known_kept r.stays.kept c.0 in
    let f = l.rest k in (
      known_kept l.kept k,
      omega (
        arith,
        c.1,
        is,
        ap length (r.stays.rest c.0),
        f.0,
        ap length f.1,
        length-append (take n mid.rest) new.rest,
        length-take n mid.rest,
      ),
    )

pub counts_all : (piece left : ℕ) (start old mid : ReaderState) → Counts start old left → Readies (piece + 1) old mid → mid.ready ≡ 0 → IsTrue start.is_known
    → left ≡ length start.rest
counts_all piece left start old mid so r none t = let c = so t in omega (arith, c.1, r.ready c.0, none)
