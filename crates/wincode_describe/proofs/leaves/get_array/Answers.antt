use Rattle.std.proofs.Common.{rules, ◌≡◌, ◌∙◌, sym, ap, subst, ℕ, ◌<◌, ◌^◌, List, [], ◌∷◌, ◌++◌}
use Rattle.std.proofs.lemmas.List.{map-id}
use Rattle.wincode_base.specs.Outcomes.{Gives}
use Rattle.wincode_base.specs.declared.error.ReadError.TheVariants as reading
use Rattle.wincode_base.proofs.ReadAnswers.{get_refused}
use Rattle.wincode_describe.specs.Parts.{Bytes}
use Rattle.wincode_describe.specs.Types.{described_read}
use Rattle.wincode_describe.specs.declared.described.Described.TheVariants as type
use Rattle.wincode_describe.proofs.ByteArrays.{array_unwindowed, array_gives, array_refused}
use Rattle.wincode_describe.proofs.leaves.get_array.Goals as goal

pub returns-in_err-window : goal.returns-in_err-window
returns-in_err-window g c =
    let fits : c.args.n < 2 ^ 64 = search rules in
    get_refused (described_read (type.ByteArray c.args.n)) _ _ _ c.from_residual.ensures
    (array_unwindowed c.args.n fits _ _ (reading.Io c.in_err-window.field-0.0) c.in_err-window.ensures.err)

pub returns-in_err-read_bytes : goal.returns-in_err-read_bytes
returns-in_err-read_bytes g c =
    let fits : c.args.n < 2 ^ 64 = search rules in
    let o = c.in_err-read_bytes.ensures in
    get_refused (described_read (type.ByteArray c.args.n)) _ _ _ c.from_residual-in_err-read_bytes.ensures
    (array_refused c.args.n fits _ _ _ _ _ c.in_ok-window.ensures.ok o.each.refused.0 o.at_once)

pub returns : goal.returns
returns g c =
    let fits : c.args.n < 2 ^ 64 = search rules in
    let a = c.in_ok-read_bytes.ensures.each.ok in
    let whole : c.read_bytes.new.into.items ≡ a.items = a.is ∙ ap (λ t. t ++ a.items) c.new-bytes.ensures.items in
    let P : List ℕ → Type 0 = λ xs. Gives (described_read (type.ByteArray c.args.n)).reads (g.R.Reader.state c.args.reader.now)
    (g.R.Reader.state c.as_trusted_for.new.self) (Bytes xs ∷ []) in
    record { ok = subst P (map-id a.items ∙ sym whole) (array_gives c.args.n fits _ _ _ _ _ c.in_ok-window.ensures.ok a.gives); refused = tt }
