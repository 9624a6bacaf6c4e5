use Rattle.std.proofs.Common.{◌≡◌, take, length, ◌++◌, ap, ◌∙◌, arith, get_or}
use Rattle.std.specs.List.{flat_map}
use Rattle.std.proofs.lemmas.List.Elements.{All-more}
use Rattle.wincode_io.specs.WriterLaws.{same_trans, writer_sound_trans}
use Rattle.wincode_io.proofs.FormSteps.{place_fits, form_more, joined_more}
use Rattle.wincode_io.proofs.bulk.writing.write_each.Goals as goal

pub loop-value-preserved : goal.loop-value-preserved
loop-value-preserved g c =
    let W = g.W.Writer in
    let s = g.T.ZeroCopy.size in
    let form = g.T.ZeroCopy.form in
    let vs = c.args.values.now in
    let v = c.value-item.result in
    let i = c.loop-value.value-index in
    let so_far = c.loop-value.invariant in
    let wrote = c.write_ready_t.ensures in
    let at : v ≡ get_or vs i v = c.value-item.is in
    let old = (W.state c.args.writer.now).content in
    let front = flat_map form (take i vs) in
    let fits = place_fits i (length vs) s c.loop-value-test.true in
    let size : length (form v) ≡ s = g.T.ZeroCopy.byte_form.long v wrote.is_valid in
    let P : g.row.T.Denot → Type 0 = g.T.ZeroCopy.is_valid in
    record {
      took = record {
        same = same_trans so_far.took.same wrote.took.same;
        sound = writer_sound_trans so_far.took.sound wrote.took.sound;
        content = wrote.took.content ∙ ap (λ t. W.put t (form v)) so_far.took.content
            ∙ g.met.W.Writer.writer_laws.join old front (form v)
            (omega (arith, size, so_far.long, c.requires, g.met.W.Writer.ready_room c.args.writer.now, fits))
            ∙ ap (λ x. W.put old (front ++ form x)) at
            ∙ ap (W.put old) (form_more form s vs i v c.loop-value-test.true so_far.long);
      };
      long = joined_more form s vs i v c.loop-value-test.true so_far.long (rw (← at) size);
      ready = omega (arith, so_far.ready, wrote.ready);
      is_valid = All-more P vs i v c.loop-value-test.true so_far.is_valid (rw (← at) wrote.is_valid);
    }
