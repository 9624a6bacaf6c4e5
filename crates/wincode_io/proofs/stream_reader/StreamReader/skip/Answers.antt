use Rattle.std.proofs.Common.{◌∙◌, ap, ◌++◌, length, take, drop, arith, length-append, length-take}
use Rattle.wincode_io.proofs.Asked.{unasked_loses}
use Rattle.wincode_io.proofs.stream_reader.StreamReader.skip.Goals as goal

pub returns-clause-unasked : goal.returns-clause-unasked
returns-clause-unasked g c =
    let n = c.args.n in
    let is = c.self.view_is in
    let front = c.self.inside.buffer in
    let gone = ap length (c.note.ensures ∙ ap (λ b. c.self.inside.gone.bytes ++ take n b) c.as_slice.ensures) in
    let count = ap (λ v. length v.at_hand) is in
    let was = ap (λ v. v.position) is in
    record {
      position = omega (arith, gone, length-append c.self.inside.gone.bytes (take n front), length-take n front, c.requires, count, was);
      at_hand = c.consume.ensures ∙ ap (λ v. drop n v.at_hand) is;
      source = ap (λ v. v.source) is;
      has_ended = ap (λ v. v.has_ended) is;
      has_failed = ap (λ v. v.has_failed) is;
    }

pub returns-clause-loses : goal.returns-clause-loses
returns-clause-loses g c = unasked_loses g.S.Source.state c.args.n c.args.self.now _ c.requires (returns-clause-unasked g c)
