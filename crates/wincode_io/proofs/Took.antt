-- What is taken from the bytes at hand.
use Rattle.std.proofs.Common.{◌≡◌, ◌∙◌, sym, ap, ℕ, ◌+◌, ◌≤◌, Bool, List, ◌++◌, length, take, drop, refl, arith, length-append, length-drop, length-take, take-append-drop}
use Rattle.std.proofs.lemmas.List.{take-append-le, drop-append-le}
use Rattle.wincode_io.specs.Readers.{Takes}
use Rattle.wincode_io.specs.Sources.{SourceState}
use Rattle.wincode_io.specs.Streams.{streaming}

-- the first n bytes at hand
pub took : (n position : ℕ) (at_hand rest bytes : List ℕ) (has_failed : Bool) (s : SourceState) → n ≤ length at_hand → bytes ≡ take n at_hand → rest ≡ drop n at_hand
    → Takes n (streaming position at_hand has_failed s) (streaming (position + n) rest has_failed s) bytes
took n position at_hand rest bytes has_failed s within front after =
    let whole = at_hand ++ s.coming in
    let first : take n whole ≡ take n at_hand = take-append-le n at_hand s.coming within in
    let others : drop n whole ≡ rest ++ s.coming = drop-append-le n at_hand s.coming within ∙ ap (λ l. l ++ s.coming) (sym after) in
    let all = length-append at_hand s.coming in
    record {
      loses = record {
        kept = record { lends = refl; never_fails = refl; counts_windows = refl; is_known = refl };
        rest = λ is_known. (omega (arith, within, all), sym (take-append-drop n whole) ∙ ap (λ l. take n whole ++ l) others);
        ready = let r = ap length after ∙ length-drop n at_hand in omega (arith, within, r);
        place = refl;
        sound = record { failures = refl; has_failed = refl };
      };
      size = let b = ap length front in omega (arith, within, b, length-take n at_hand);
      front = λ is_known. front ∙ sym first;
    }
