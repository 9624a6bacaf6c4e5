use Rattle.wincode_base.specs.declared.error.ReadError.TheVariants as reading
use Rattle.wincode_base.specs.FixedSizeLaws.{window_denied_refuses}
use Rattle.std.proofs.Common.{◌∙◌, sym, inl, inr}
use Rattle.wincode_base.proofs.ReadAnswers.{get_refused, get_map}
use Rattle.wincode_base.proofs.InWindow.{sized_of, window_gives, window_refuses, dynamic_place, static_place}
use Rattle.wincode_base.specs.InWindow.{windowed_read}
use Rattle.wincode_read.proofs.schema.in_window.get_in_window.Goals as goal

pub returns-in_ok-window-in-Static : goal.returns-in_ok-window-in-Static
returns-in_ok-window-in-Static g c =
    let T = g.T.SchemaRead.reading in
    let is = sym c.type_meta.ensures ∙ c.in-Static.is in
    let sized = sized_of T.reads _ _ _ g.met.T.SchemaRead.read_laws.statics is in
    let w = c.in_ok-window-in-Static.ensures.ok in
    get_map T _ _ _ c.get.result (λ d x. window_gives T.reads _ sized _ _ _ _ _ w x)
    (λ e x. (window_refuses T.reads _ sized T.borrow T.takes_no_memory _ _ _ _ e w x.0, static_place T.meta _ _ e T.refused is (inr (_, _, w, x.1))))
    c.get.ensures

pub returns-in_err-window-in-Static : goal.returns-in_err-window-in-Static
returns-in_err-window-in-Static g c =
    let T = g.T.SchemaRead.reading in
    let is = sym c.type_meta.ensures ∙ c.in-Static.is in
    let sized = sized_of T.reads _ _ _ g.met.T.SchemaRead.read_laws.statics is in
    let e = reading.Io c.in_err-window-in-Static.field-0.0 in
    let d = c.in_err-window-in-Static.ensures.err in
    let h = window_denied_refuses T.reads _ sized T.borrow T.takes_no_memory _ _ e d in
    let p = static_place T.meta _ _ e T.refused is (inl d) in get_refused (windowed_read T) _ _ _ c.from_residual.ensures (h, p)

pub returns-in-Dynamic : goal.returns-in-Dynamic
returns-in-Dynamic g c =
    let T = g.T.SchemaRead.reading in
    get_map T _ _ _ c.get-in-Dynamic.result (λ d x. x) (λ e x. (x.0, dynamic_place T.meta _ _ e T.refused (sym c.type_meta.ensures ∙ c.in-Dynamic.is) x.1))
    c.get-in-Dynamic.ensures
