use Rattle.std.proofs.Common.{rules, ◌≡◌, length, refl, arith}
use Rattle.std.proofs.lemmas.List.{nil_from_length}
use Rattle.wincode_io.specs.Forms.{values}
use Rattle.wincode_io.specs.JoinedForms.{are_values}
use Rattle.wincode_io.proofs.zero_copy.read_forms.Goals as goal

pub returns-then-is_empty : goal.returns-then-is_empty
unfolding values
returns-then-is_empty g c = let none : length c.args.dst.now ≡ 0 = search rules in rw (nil_from_length c.args.dst.now none) refl

pub returns : goal.returns
returns g c =
    let T = g.T.ZeroCopy in
    are_values T.value T.size (length c.args.dst.now) c.args.bytes.now c.loop-i.dst c.loop-i.auto.dst (λ k d h. c.loop-i.invariant k d (omega arith))
