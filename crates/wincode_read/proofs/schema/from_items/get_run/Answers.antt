use Rattle.std.proofs.Common.{false, ◌∙◌, sym, refl, inl, inr}
use Rattle.wincode_io.specs.Joins.{AreItems}
use Rattle.wincode_base.specs.declared.error.ReadError.TheVariants as reading
use Rattle.wincode_base.specs.FixedSizeLaws.{window_denied_refuses}
use Rattle.wincode_base.specs.Lists.{items_read, run_read}
use Rattle.wincode_base.proofs.ReadAnswers.{make_refused, make_map}
use Rattle.wincode_base.proofs.InWindow.{window_refuses}
use Rattle.wincode_base.proofs.Runs.{known_size, run_each, run_encoding, run_placed, run_long, too_long, run_gives}
use Rattle.wincode_read.proofs.schema.from_items.get_run.Goals as goal

pub returns-in-Unknown : goal.returns-in-Unknown
returns-in-Unknown g c = let T = g.T.SchemaRead.reading in let S = g.T.SchemaRead.model in
    make_map (items_read c.args.n T) S _ (run_read c.args.n c.args.size T) c.from_items.result (λ vs x. x)
    (λ e p. (p.0, run_each T c.args.n c.args.size c.in-Unknown.is c.requires.size _ _ e p.1)) c.from_items.ensures

pub returns-in_err-window-in-Some : goal.returns-in_err-window-in-Some
returns-in_err-window-in-Some g c = let T = g.T.SchemaRead.reading in let S = g.T.SchemaRead.model in
    let is = sym c.times.ensures ∙ c.in-Some.is in
    let sized = run_encoding T c.args.n c.args.size c.in-Some.total c.requires.size is in
    let e = reading.Io c.in_err-window-in-Some.field-0.0 in
    let d = c.in_err-window-in-Some.ensures.err in
    let h = window_denied_refuses (AreItems c.args.n T.reads) c.in-Some.total sized T.borrow false _ _ e d in
    let p = run_placed T c.args.n c.args.size c.in-Some.total c.requires.size is _ _ e (inl d) in
    make_refused (run_read c.args.n c.args.size T) S _ _ _ c.from_residual.ensures (h, p)

pub returns-in_ok-window-in-Some : goal.returns-in_ok-window-in-Some
returns-in_ok-window-in-Some g c = let T = g.T.SchemaRead.reading in let S = g.T.SchemaRead.model in
    let is = sym c.times.ensures ∙ c.in-Some.is in
    let sized = run_encoding T c.args.n c.args.size c.in-Some.total c.requires.size is in
    let w = c.in_ok-window-in-Some.ensures.ok in
    make_map (items_read c.args.n T) S _ (run_read c.args.n c.args.size T) c.from_items-in-Some.result
    (λ vs x. run_gives T c.args.n c.in-Some.total sized _ _ _ _ vs w x)
    (λ e p. (
      window_refuses (AreItems c.args.n T.reads) c.in-Some.total sized T.borrow false _ _ _ _ e w p.0,
      run_placed T c.args.n c.args.size c.in-Some.total c.requires.size is _ _ e (inr (_, _, w, p.1)),
    )) c.from_items-in-Some.ensures

pub returns-in-None : goal.returns-in-None
returns-in-None g c = let T = g.T.SchemaRead.reading in let S = g.T.SchemaRead.model in
    let is = sym c.times.ensures ∙ c.in-None.is in
    let known = known_size c.args.size c.in_default.not-Unknown in
    record {
      ok = tt;
      refused = (too_long T c.args.n c.args.size known c.requires.size is T.borrow _ _ _ c.read_length_encoding_overflow.ensures, run_long T c.args.n c.args.size known is _ _ _ refl c.read_length_encoding_overflow.ensures);
    }
