use Rattle.std.proofs.Common.{rules, ◌≡◌, ◌∙◌, sym, ap, ◌+◌, ◌-◌, ◌*◌, ◌++◌, length, take, drop, arith, length-append, take-append-drop}
use Rattle.std.specs.List.{All, flat_map}
use Rattle.std.proofs.lemmas.List.{take_all}
use Rattle.std.proofs.lemmas.List.Elements.{All-append}
use Rattle.wincode_io.specs.Writers.{Took}
use Rattle.wincode_io.proofs.Blocks.{done_more, left_more, took_more}
use Rattle.wincode_io.proofs.bulk.writing.write_few.Goals as goal

pub loop-rest-preserved : goal.loop-rest-preserved
loop-rest-preserved g c =
    let T = g.T.ZeroCopy in
    let W = g.W.Writer in
    let xs = c.args.values.now in
    let rest = c.loop-rest.rest.now in
    let n = c.write_first-n.result in
    let run = c.split_at.result.0.now in
    let more = c.split_at.result.1.now in
    let so_far = c.loop-rest.invariant in
    let done = length xs - length rest in
    let front : take n rest ≡ run = sym c.split_at.ensures.front in
    let cut : rest ≡ run ++ more = sym (take-append-drop n rest) ∙ ap (λ l. l ++ drop n rest) front ∙ ap (λ l. run ++ l) (sym c.split_at.ensures.back) in
    let left = sym so_far.rest ∙ cut in
    let wrote = c.write_first-n.ensures in
    let is_valid : All T.is_valid run = rw front at wrote.is_valid in
    let took : Took (flat_map T.form run) (W.state c.loop-rest.writer) (W.state c.write_first-n.new.writer) = rw front at wrote.took in
    let counts : length rest ≡ length run + length more = ap length cut ∙ length-append run more in
    let sizes : length rest * T.size ≡ (length run + length more) * T.size = ap (λ k. k * T.size) counts in
    let size = c.split_at.ensures.front_len in
    let written : n * T.size ≡ length run * T.size = ap (λ k. k * T.size) (sym size) in
    record {
      took = took_more xs run more done left g.met.W.Writer.writer_laws T.form T.size (W.state c.args.writer.now) (W.state c.loop-rest.writer) _
          (λ k d h. g.T.ZeroCopy.byte_form.long _ (so_far.is_valid k d h)) (λ k d h. g.T.ZeroCopy.byte_form.long _ (is_valid k d h))
          (omega (arith, c.requires.room, g.met.W.Writer.ready_room c.args.writer.now)) so_far.took took;
      rest = left_more xs run more done left;
      within = omega (arith, so_far.within, counts);
      ready = omega (arith, so_far.ready, wrote.ready, written, sizes);
      is_valid = rw (done_more xs run more done left) (All-append T.is_valid (take done xs) run so_far.is_valid is_valid);
    }

pub returns-clause-took : goal.returns-clause-took
returns-clause-took g c =
    let none : length c.loop-rest.rest.now ≡ 0 = search rules in
    rw (take_all (length c.args.values.now - length c.loop-rest.rest.now) c.args.values.now (omega (arith, none))) at c.loop-rest.invariant.took

pub returns-clause-is_valid : goal.returns-clause-is_valid
returns-clause-is_valid g c =
    let none : length c.loop-rest.rest.now ≡ 0 = search rules in
    rw (take_all (length c.args.values.now - length c.loop-rest.rest.now) c.args.values.now (omega (arith, none))) at c.loop-rest.invariant.is_valid
