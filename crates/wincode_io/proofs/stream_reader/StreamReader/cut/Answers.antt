use Rattle.std.proofs.Common.{rules, ◌≡◌, ◌∙◌, ap, ◌+◌, ◌++◌, length, take, drop, arith, length-append, length-take}
use Rattle.wincode_io.proofs.Took.{took}
use Rattle.wincode_io.proofs.stream_reader.StreamReader.cut.Goals as goal

pub returns-clause-ok : goal.returns-clause-ok
returns-clause-ok g c =
    let n = c.args.n in
    let r = c.args.self.now in
    let w = c.in-Ok.window in
    let is = c.self.view_is in
    let front : w ≡ take n r.at_hand = c.in-Ok.ensures.front ∙ ap (λ v. take n v.at_hand) is in
    let after : c.window.new.self ≡ drop n r.at_hand = c.in-Ok.ensures.rest ∙ ap (λ v. drop n v.at_hand) is in
    let size : length w ≡ n = let m = ap length front in omega (arith, m, length-take n r.at_hand, c.requires) in
    let gone = ap length (c.note.ensures ∙ ap (λ b. c.self.inside.gone.bytes ++ b) c.unread.ensures) in
    let position : length c.note.new.self.bytes ≡ r.position + n =
    let was = ap (λ v. v.position) is in omega (arith, gone, length-append c.self.inside.gone.bytes w, size, was) in
    let source = ap (λ v. v.source) is in
    let failed = ap (λ v. v.has_failed) is in
    let t = took n r.position r.at_hand c.window.new.self w r.has_failed (g.S.Source.state r.source) c.requires front after in
    search (rules, t, position, source, failed)
