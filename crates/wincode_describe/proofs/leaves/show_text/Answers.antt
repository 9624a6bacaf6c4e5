use Rattle.std.proofs.Common.{rules, ◌≡◌, ℕ, length, subst, false, [], ◌∷◌, sym}
use Rattle.std.specs.Prelude.{string_bytes}
use Rattle.wincode_base.specs.Strings.{str_read}
use Rattle.wincode_describe.specs.Parts.{Text, Length}
use Rattle.wincode_base.specs.Outcomes.{Gives}
use Rattle.wincode_describe.specs.ShownGrammars.{shown_read}
use Rattle.wincode_describe.specs.TypeBytes.{described_bytes}
use Rattle.wincode_describe.specs.Types.{text_shown}
use Rattle.wincode_describe.specs.declared.described.Described.TheVariants as type
use Rattle.wincode_describe.specs.declared.described.LengthScheme.TheVariants.{Eight}
use Rattle.wincode_describe.specs.declared.shown.Shown.TheVariants as shown
use Rattle.wincode_describe.proofs.Shows.{began_took, show_refused, shown_refused, shown_gives, shown_memory, show_last, began_none, began_first}
use Rattle.wincode_describe.proofs.leaves.show_text.Goals as goal

pub returns-in_err-text : goal.returns-in_err-text
returns-in_err-text g c =
    let o = c.in_err-text.ensures in
    show_refused (shown_read text_shown (str_read 24 0 false)) _ _ _ _ c.from_residual.ensures
    (shown_refused text_shown (str_read 24 0 false) _ _ _ o.refused) (began_none g.S.PartSink.sink_laws _ _)

pub returns-in_err-add : goal.returns-in_err-add
returns-in_err-add g c =
    let o = c.in_ok-text.ensures.ok in
    let u = c.in_err-add.ensures.err in
    show_refused (shown_read text_shown (str_read 24 0 false)) _ _ _ _ c.from_residual-in_err-add.ensures
    (rw u.0 (shown_memory text_shown (str_read 24 0 false) (str_read 24 0 false).reads _ _ _ o)) (began_took _ _ _ u.1)

pub returns : goal.returns
returns g c =
    let G = shown_read text_shown (str_read 24 0 false) in
    let o = c.in_ok-text.ensures.ok in
    let v = c.in_ok-text.text in
    let n = c.len-count.result in
    let a = c.in_ok-add.ensures.ok in
    let size : n ≡ length (string_bytes v) = search rules in
    let P : ℕ → Type 0 = λ k. Gives G.reads (g.R.Reader.state c.args.reader.now) (g.R.Reader.state c.get.new.reader)
    (Length Eight k ∷ Text (string_bytes v) ∷ []) in
    let whole = subst P (sym size) (shown_gives text_shown (str_read 24 0 false) _ _ (string_bytes v) o) in
    show_last g.S.PartSink.sink_laws G _ _ _ (shown.Length Eight n ∷ []) (shown.Text v) c.add-2.result a whole
    (shown_memory text_shown (str_read 24 0 false) (str_read 24 0 false).reads _ _ _ o)
    (began_first G.reads (described_bytes type.Text) _ _ _ _ (shown.Length Eight n) (Text (string_bytes v)) a whole) c.add-2.ensures.ok c.add-2.ensures.err
