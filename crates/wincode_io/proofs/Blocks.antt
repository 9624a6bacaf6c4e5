-- Writing items a block at a time.
use Rattle.std.proofs.Common.{◌≡◌, ◌∙◌, sym, ap, ℕ, ◌+◌, ◌-◌, ◌*◌, ◌≤◌, List, ◌++◌, length, take, drop, arith, append_assoc, length-append, take-append-drop}
use Rattle.std.proofs.Math.Nat.{mul-le-mul, mul-le-mul_right}
use Rattle.std.proofs.lemmas.Grind.{flat_map-append}
use Rattle.std.proofs.lemmas.List.{take_at, drop_at, length-take-le}
use Rattle.std.specs.List.{All, flat_map}
use Rattle.wincode_io.specs.JoinedForms.{length-joined}
use Rattle.wincode_io.specs.WriterLaws.{same_trans, writer_sound_trans}
use Rattle.wincode_io.specs.Writers.{WriterState, WriterLaws, Took}

-- of the items the first d are done, and then a block of those that are left
module _ {X : Type 0} (xs block more : List X) (d : ℕ) (left : drop d xs ≡ block ++ more) where
  all : xs ≡ (take d xs ++ block) ++ more
  all = sym (take-append-drop d xs) ∙ ap (λ l. take d xs ++ l) left ∙ sym (append_assoc (take d xs) block more)

  count : length (take d xs ++ block) ≡ length xs - length more
  count = omega (arith, ap length all, length-append (take d xs ++ block) more)

  pub done_more : take (length xs - length more) xs ≡ take d xs ++ block
  done_more = ap (take (length xs - length more)) all ∙ take_at (take d xs ++ block) more (length xs - length more) count

  pub left_more : more ≡ drop (length xs - length more) xs
  left_more = sym (ap (drop (length xs - length more)) all ∙ drop_at (take d xs ++ block) more (length xs - length more) count)

  pub took_more : {S K : Type 0} {put : S → List ℕ → S} {room : S → ℕ} → WriterLaws put room
      → (form : X → List ℕ) (s : ℕ) (old mid new : WriterState put room K)
      → All (λ v. length (form v) ≡ s) (take d xs) → All (λ v. length (form v) ≡ s) block → length xs * s ≤ room old.content
      → Took (flat_map form (take d xs)) old mid → Took (flat_map form block) mid new → Took (flat_map form (take (length xs - length more) xs)) old new
  took_more {put = put} {room = room} laws form s old mid new before here fits one two =
      let most : (length (take d xs) + length block) * s ≤ length xs * s =
      mul-le-mul_right s (omega (arith, ap length all, length-append (take d xs ++ block) more, length-append (take d xs) block)) in
      let long : length (take d xs) * s + length block * s ≤ length xs * s = omega (arith, most) in
      record {
        same = same_trans one.same two.same;
        sound = writer_sound_trans one.sound two.sound;
        content = two.content ∙ ap (λ c. put c (flat_map form block)) one.content
            ∙ laws.join old.content (flat_map form (take d xs)) (flat_map form block)
            (omega (arith, length-joined form s (take d xs) before, length-joined form s block here, long, fits))
            ∙ ap (put old.content) (sym (ap (flat_map form) done_more ∙ flat_map-append form (take d xs) block));
      }

-- the bytes of a block of k forms
pub block_bytes : (k s t : ℕ) (bytes : List ℕ) → length bytes ≡ 1024 → k ≤ 64 → t ≡ s → s ≤ 16 → length (take (k * t) bytes) ≡ k * s
block_bytes k s t bytes long few same small =
    let most : k * s ≤ 64 * 16 = mul-le-mul few small in rw same (length-take-le (k * s) bytes (omega (arith, most, long)))
