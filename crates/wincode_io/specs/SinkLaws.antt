-- The laws of a writer to a sink.
use Rattle.std.proofs.Common.{◌≡◌, ℕ, List, [], ◌++◌, ap, ◌∙◌, append_assoc, append-nil, arith, length-append}
use Rattle.wincode_io.specs.Writers.{WriterLaws}
use Rattle.wincode_io.specs.SinkWriters.{Written, written_put, written_room}

made : {a b : List ℕ} {m n : ℕ} → a ≡ b → m ≡ n → (let s : Written = record { bytes = a; count = m } in s) ≡ record { bytes = b; count = n }
made {a = a} {n = n} p q = ap (λ k. record { bytes = a; count = k }) q ∙ ap (λ l. record { bytes = l; count = n }) p

put_nothing : (s : Written) → written_put s [] ≡ s
put_nothing s = made (append-nil s.bytes) (omega arith)

put_joined : (s : Written) (a b : List ℕ) → written_put (written_put s a) b ≡ written_put s (a ++ b)
put_joined s a b = made (append_assoc s.bytes a b) (let e = length-append a b in omega (arith, e))

pub written_laws : WriterLaws written_put written_room
written_laws = record { nil = put_nothing; join = λ s a b h. put_joined s a b; left = λ s a h. omega arith }
