use Rattle.std.proofs.Common.{rules, ◌≡◌, ◌*◌, ◌≤◌, length, min, subst}
use Rattle.wincode_describe.specs.Compared.{heads}
use Rattle.wincode_describe.specs.declared.described.Described.{Described}
use Rattle.wincode_describe.proofs.Rows.{row_size}
use Rattle.wincode_describe.proofs.likeness.+row_length.Goals as goal

pub returns-then-width-le-ROW : goal.returns-then-width-le-ROW
returns-then-width-le-ROW t c =
    let n = c.in-Array.n in
    let width = c.row_length-width.result in
    let P : Described → Type 0 = λ d. width ≡ min (length (heads d)) 18446744073709551615 in
    let few : n ≤ 64 = search rules in
    let narrow : width ≤ 64 = search rules in
    let product : c.saturating_mul.result ≡ min (n * width) 18446744073709551615 = search rules in
    rw c.in-Array.is (row_size c.saturating_mul.result n width (heads c.in-Array.item.value) _ few narrow (subst P c.deref-in-Array.ensures c.row_length-width.ensures) product)
