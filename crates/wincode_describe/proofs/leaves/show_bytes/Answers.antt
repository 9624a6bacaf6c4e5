use Rattle.std.proofs.Common.{rules, ◌≡◌, ℕ, length, subst, true, [], ◌∷◌, sym}
use Rattle.wincode_base.specs.Leaves.{number_read}
use Rattle.wincode_base.specs.Lists.{list_read}
use Rattle.wincode_describe.specs.Parts.{Bytes, Length}
use Rattle.wincode_base.specs.Outcomes.{Gives}
use Rattle.wincode_describe.specs.ShownGrammars.{shown_read}
use Rattle.wincode_describe.specs.TypeBytes.{described_bytes}
use Rattle.wincode_describe.specs.Types.{bytes_shown, scheme_of}
use Rattle.wincode_describe.specs.declared.described.Described.TheVariants as type
use Rattle.wincode_describe.specs.declared.shown.Shown.TheVariants as shown
use Rattle.wincode_describe.proofs.Shows.{began_took, show_refused, shown_refused, shown_gives, shown_memory, show_last, began_none, began_first}
use Rattle.wincode_describe.proofs.leaves.show_bytes.Goals as goal

pub returns-in_err-bytes : goal.returns-in_err-bytes
returns-in_err-bytes g c =
    let s = c.args.scheme in
    let T = list_read (scheme_of s) 24 (number_read 1 true) in
    let o = c.in_err-bytes.ensures in
    show_refused (shown_read (bytes_shown s) T) _ _ _ _ c.from_residual.ensures (shown_refused (bytes_shown s) T _ _ _ o.refused)
    (began_none g.S.PartSink.sink_laws _ _)

pub returns-in_err-add : goal.returns-in_err-add
returns-in_err-add g c =
    let s = c.args.scheme in
    let T = list_read (scheme_of s) 24 (number_read 1 true) in
    let o = c.in_ok-bytes.ensures.ok in
    let u = c.in_err-add.ensures.err in
    show_refused (shown_read (bytes_shown s) T) _ _ _ _ c.from_residual-in_err-add.ensures (rw u.0 (shown_memory (bytes_shown s) T T.reads _ _ _ o))
    (began_took _ _ _ u.1)

pub returns : goal.returns
returns g c =
    let s = c.args.scheme in
    let T = list_read (scheme_of s) 24 (number_read 1 true) in
    let G = shown_read (bytes_shown s) T in
    let o = c.in_ok-bytes.ensures.ok in
    let v = c.in_ok-bytes.bytes in
    let n = c.len-count.result in
    let a = c.in_ok-add.ensures.ok in
    let size : n ≡ length v.items = search rules in
    let P : ℕ → Type 0 = λ k. Gives G.reads (g.R.Reader.state c.args.reader.now) (g.R.Reader.state c.get_bytes.new.reader) (Length s k ∷ Bytes v.items ∷ []) in
    let whole = subst P (sym size) (shown_gives (bytes_shown s) T _ _ v.items o) in
    show_last g.S.PartSink.sink_laws G _ _ _ (shown.Length s n ∷ []) (shown.Bytes v) c.add-2.result a whole (shown_memory (bytes_shown s) T T.reads _ _ _ o)
    (began_first G.reads (described_bytes (type.ByteList s)) _ _ _ _ (shown.Length s n) (Bytes v.items) a whole) c.add-2.ensures.ok c.add-2.ensures.err
