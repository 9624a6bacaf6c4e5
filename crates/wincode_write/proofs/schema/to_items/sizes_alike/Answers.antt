use Rattle.std.proofs.Common.{rules, inl, refl, ap, arith, ◌≡◌, ◌∙◌, ℕ, ◌+◌, ◌*◌, ◌<◌, ◌^◌, IfOk, IfErr, Result, Ok, Err}
use Rattle.wincode_base.specs.declared.error.WriteError.{WriteError}
use Rattle.wincode_base.specs.PairSizeLaws.{overflow_unsized}
use Rattle.wincode_base.proofs.Lists.{known_sum, known_over}
use Rattle.wincode_write.proofs.schema.to_items.sizes_alike.Goals as goal

both : (P Q : ℕ → Type 0) (R S : WriteError → Type 0) → ((n : ℕ) → P n → Q n) → ((e : WriteError) → R e → S e) → (r : Result ℕ WriteError) → IfOk r P
    → IfErr r R → IfOk r Q × IfErr r S
both P Q R S m k (Ok n) ok err = (m n ok, tt)
both P Q R S m k (Err e) ok err = (tt, k e err)

pub returns-in-Some : goal.returns-in-Some
returns-in-Some g c =
    let T = g.T.SchemaWrite in
    let size = c.in_ok-size.size in
    let n = c.args.n in
    let product : c.in-Some.total ≡ n * size = search rules in
    λ items long. both _ _ _ _
    (λ m is. known_sum T.writing T.model size c.in_ok-size.ensures c.args.before n m items long (is ∙ ap (λ k. c.args.before + k) product))
    (λ e d. (
      known_over T.writing T.model size c.in_ok-size.ensures c.args.before n items long (λ fits. absurd (omega (arith, d.0, product, fits))),
      overflow_unsized T.writing.builtin e d.1,
    ))
    c.checked_sum.result c.checked_sum.ensures.ok c.checked_sum.ensures.err

pub returns-in-None : goal.returns-in-None
returns-in-None g c =
    let T = g.T.SchemaWrite in
    let size = c.in_ok-size.size in
    let over : c.args.n * size < 2 ^ 64 → ⊥ = search rules in
    λ items long. (
      tt,
      (
        known_over T.writing T.model size c.in_ok-size.ensures c.args.before c.args.n items long
            (λ fits. over (omega (arith, fits))),
        rw c.write_length_encoding_overflow.ensures (tt, λ builtin. inl refl),
      ),
    )
