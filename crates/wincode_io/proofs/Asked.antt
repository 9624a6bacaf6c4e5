-- When a stream asks its source, and what it is then.
use Rattle.std.proofs.Common.{◌≡◌, ◌∙◌, sym, ℕ, ◌<◌, ◌≤◌, Bool, List, ◌++◌, length, take, drop, refl, ap, subst, arith, append_assoc, length-append, length-drop}
use Rattle.wincode_io.specs.Readers.{Stays, Loses}
use Rattle.wincode_io.specs.SourceReads.{Came}
use Rattle.wincode_io.specs.Sources.{SourceState}
use Rattle.wincode_io.specs.Streams.{Streamed, IsUnasked, Asks, streaming, stream_state}
use Rattle.wincode_io.proofs.Took.{took}

unasked_on : {S : Type 0} {m : ℕ} {a b c : Streamed S} → IsUnasked 0 a b → IsUnasked m b c → IsUnasked m a c
unasked_on {m = m} h k = record {
  position = let p = h.position in let q = k.position in omega arith;
  at_hand = k.at_hand ∙ ap (drop m) h.at_hand;
  source = k.source ∙ h.source;
  has_ended = k.has_ended ∙ h.has_ended;
  has_failed = k.has_failed ∙ h.has_failed;
}

-- it was asked until n bytes were at hand, and these went
pub asked : {S : Type 0} {n m : ℕ} {a b c : Streamed S} → m ≡ n → n ≤ length b.at_hand → Asks n 0 a b → IsUnasked m b c → Asks n n a c
asked {n = n} {m = m} {a = a} {b = b} {c = c} same enough asks gone = subst (λ k. Asks n k a c) same (record {
  served = λ h. unasked_on (asks.served h) gone;
  ended = λ h. unasked_on (asks.ended h) gone;
  failed = λ h. unasked_on (asks.failed h) gone;
  step =
      let left = ap length gone.at_hand ∙ length-drop m b.at_hand in
      let before = asks.step in
      λ h. omega arith;
})

-- what was not asked has lost the bytes that are gone
pub unasked_loses : {S : Type 0} (state : S → SourceState) (n : ℕ) (old new : Streamed S) → n ≤ length old.at_hand → IsUnasked n old new
    → Loses n (stream_state state old) (stream_state state new)
unasked_loses state n old new within u =
    let t = took n old.position old.at_hand new.at_hand (take n old.at_hand) old.has_failed (state old.source) within refl u.at_hand in
    rw (u.position, u.source, u.has_failed) t.loses

-- bytes came
pub came_stays : (n position : ℕ) (old new : List ℕ) (has_failed : Bool) (before after : SourceState) → Came n old new before after
    → Stays (streaming position old has_failed before) (streaming position new has_failed after)
came_stays n position old new has_failed before after came = record {
  kept = record { lends = refl; never_fails = refl; counts_windows = refl; is_known = came.gave.is_known };
  rest = λ told. ap (λ l. l ++ after.coming) came.behind ∙ append_assoc old came.piece after.coming ∙ ap (λ l. old ++ l) (sym (came.gave.coming told));
  ready = let e = ap length came.behind in omega (arith, e, length-append old came.piece);
  place = refl;
}

pub came_some : {n : ℕ} {old new : List ℕ} {before after : SourceState} → Came n old new before after → (n ≡ 0 → ⊥) → length old < length new
came_some {old = old} came some = let e = ap length came.behind in let size = came.size in omega (arith, e, size, some, length-append old came.piece)
