-- What goes from a window of memory: of some bytes those from a place to an end.
use Rattle.std.proofs.Common.{◌≡◌, ◌∙◌, sym, ap, ℕ, ◌+◌, ◌-◌, ◌<◌, ◌≤◌, Bool, true, None, List, length, take, drop, refl, arith}
use Rattle.std.proofs.Common.{length-drop, length-take, take-append-drop}
use Rattle.std.specs.List.{slice_range}
use Rattle.wincode_io.specs.Readers.{ReaderState, memory, Loses, Takes, Windowed, WindowRefused}
use Rattle.wincode_io.specs.PlaceLaws.{sound_refl}
use Rattle.wincode_io.specs.declared.error.ReadError.TheVariants.{ReadSizeLimit}
use Rattle.wincode_io.proofs.Ranges.{earlier, later}

-- a reader over these bytes of memory, whose windows may be counted
abbrev over : ℕ → Bool → List ℕ → ReaderState
over lends counts bytes = record (memory lends bytes) { counts_windows = counts }

-- of all bytes, those from a to b are left
module _ (lends : ℕ) (counts : Bool) (n : ℕ) (xs old : List ℕ) (a b : ℕ) (bounds : (a ≤ b) × (b ≤ length xs)) (is : slice_range xs a b ≡ old) where
  size : length old ≡ b - a
  size = let e = ap length is in omega (arith, e, bounds, length-take (b - a) (drop a xs), length-drop a xs)

  -- there are fewer than n
  pub refused : b - a < n → WindowRefused n (over lends counts old) (over lends counts old) (ReadSizeLimit n)
  refused short = (
    record {
      kept = record { lends = refl; never_fails = refl; counts_windows = refl; is_known = refl };
      rest = λ told. refl;
      ready = omega arith;
      place = refl;
    },
    sound_refl (over lends counts old),
    ((λ told. omega (arith, size, short)), refl),
  )

  module _ (within : n ≤ b - a) where
    front : slice_range xs a (a + n) ≡ take n old
    front = earlier xs a b n bounds.0 (omega (arith, ap length is, size, within)) ∙ ap (take n) is

    pub lost : Loses n (over lends counts old) (over lends counts (slice_range xs (a + n) b))
    lost =
        let back = later xs a b n bounds.0 (omega (arith, ap length is, size, within)) ∙ ap (drop n) is in
        record {
          kept = record { lends = refl; never_fails = refl; counts_windows = refl; is_known = refl };
          rest = λ told. (omega (arith, size, within), rw back (sym (take-append-drop n old)));
          ready = let e = ap length back in omega (arith, e, length-drop n old);
          place = refl;
          sound = record { failures = refl; has_failed = refl };
        }

    pub taken : (w : List ℕ) → w ≡ slice_range xs a (a + n) → Takes n (over lends counts old) (over lends counts (slice_range xs (a + n) b)) w
    taken w e = let f = e ∙ front in record {
      loses = lost;
      size = let l = ap length f in omega (arith, l, length-take n old, size, within);
      front = λ told. f;
    }

    pub windowed : (w : List ℕ) → w ≡ slice_range xs a (a + n)
        → Windowed n (over lends counts old) (over lends counts (slice_range xs (a + n) b)) (over lends counts w)
    windowed w e = let t = taken w e in record {
      lends = refl;
      never_fails = refl;
      counts_windows = refl;
      is_known = refl;
      ready = t.size;
      takes = t;
    }

  pub passed : n ≤ length old → Loses n (over lends counts old) (over lends counts (slice_range xs (a + n) b))
  passed enough = lost (omega (arith, enough, size))
