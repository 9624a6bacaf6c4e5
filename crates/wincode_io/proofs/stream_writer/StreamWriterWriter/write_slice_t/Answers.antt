use Rattle.std.proofs.Common.{rules, ◌≡◌, take, length, ◌++◌, sym, ap, ◌∙◌, arith, get_or, append_assoc, append-nil, length-append, ◌*◌}
use Rattle.std.specs.List.{flat_map}
use Rattle.std.proofs.lemmas.List.{take_all}
use Rattle.std.proofs.lemmas.List.Elements.{All-more}
use Rattle.wincode_io.specs.SinkLaws.{written_laws}
use Rattle.wincode_io.specs.SinkWriters.{sink_writer, written_put}
use Rattle.wincode_io.specs.WriterLaws.{same_trans, writer_sound_trans}
use Rattle.wincode_io.proofs.FormSteps.{place_fits, form_more, joined_more}
use Rattle.wincode_io.proofs.stream_writer.StreamWriterWriter.write_slice_t.Goals as goal

pub loop-value-init : goal.loop-value-init
loop-value-init g c =
    let made = c.in_ok-make_room.ensures.ok in
    let total = c.in-Some.ensures in
    record {
      took = record {
        same = made.unmoved.same;
        sound = made.sound;
        content = made.unmoved.content ∙ sym (written_laws.nil (sink_writer g.S.Sink.state c.args.self.now).content);
      };
      long = omega arith;
      room = rw (← total) made.fits;
      ready = let r = rw total at made.ready in omega (arith, r);
      is_valid = λ k d l. absurd (omega (arith, l));
      served = λ few counted. ap (λ w. w.sink) ((c.in_ok-make_room.ensures.served (rw total few) (rw total counted)).1);
      failed = search rules;
      kept = sym (append-nil _);
      unflushed = c.in_ok-make_room.ensures.unflushed;
    }

pub write_ready_t-requires : goal.write_ready_t-requires
write_ready_t-requires g c =
    let fits = place_fits c.loop-value.value-index (length c.args.src.now) g.T.ZeroCopy.size c.loop-value-test.true in
    omega (arith, c.loop-value.invariant.ready, fits)

pub loop-value-preserved : goal.loop-value-preserved
loop-value-preserved g c =
    let s = g.T.ZeroCopy.size in
    let form = g.T.ZeroCopy.form in
    let vs = c.args.src.now in
    let v = c.value-item.result in
    let i = c.loop-value.value-index in
    let so_far = c.loop-value.invariant in
    let wrote = c.write_ready_t.ensures in
    let at : v ≡ get_or vs i v = c.value-item.is in
    let old = (sink_writer g.S.Sink.state c.args.self.now).content in
    let front = flat_map form (take i vs) in
    let fits = place_fits i (length vs) s c.loop-value-test.true in
    let size : length (form v) ≡ s = g.T.ZeroCopy.byte_form.long v wrote.is_valid in
    let P : g.row.T.Denot → Type 0 = g.T.ZeroCopy.is_valid in
    let made = c.make_room.new.self.kept in
    record {
      took = record {
        same = same_trans so_far.took.same wrote.took.same;
        sound = writer_sound_trans so_far.took.sound wrote.took.sound;
        content = wrote.took.content ∙ ap (λ t. written_put t (form v)) so_far.took.content
            ∙ written_laws.join old front (form v) (omega (arith, size, so_far.long, so_far.room, fits))
            ∙ ap (λ x. written_put old (front ++ form x)) at
            ∙ ap (written_put old) (form_more form s vs i v c.loop-value-test.true so_far.long);
      };
      long = joined_more form s vs i v c.loop-value-test.true so_far.long (rw (← at) size);
      room = so_far.room;
      ready = omega (arith, so_far.ready, wrote.ready);
      is_valid = All-more P vs i v c.loop-value-test.true so_far.is_valid (rw (← at) wrote.is_valid);
      served = λ few counted. wrote.sink ∙ so_far.served few counted;
      failed = λ f. let so = so_far.failed f in (wrote.sink ∙ so.0, rw wrote.failed so.1);
      kept = wrote.kept ∙ ap (λ l. l ++ form v) so_far.kept ∙ append_assoc made front (form v)
          ∙ ap (λ x. made ++ (front ++ form x)) at ∙ ap (λ l. made ++ l) (form_more form s vs i v c.loop-value-test.true so_far.long);
      unflushed = ap (λ w. (g.S.Sink.state w).flushed) wrote.sink ∙ so_far.unflushed;
    }

pub returns-clause-ok : goal.returns-clause-ok
returns-clause-ok g c =
    let so_far = c.loop-value.invariant in
    let all = take_all c.loop-value.value-index c.args.src.now c.loop-value-test.false in
    let took = rw all at so_far.took in
    let long = rw all at so_far.long in
    let e : c.loop-value.value-index ≡ length c.args.src.now = omega (arith, c.loop-value-test.false, c.loop-value.auto.value-index-end) in
    record { fits = rw (long, e) so_far.room; took = took }

pub returns-clause-bounded : goal.returns-clause-bounded
returns-clause-bounded g c =
    let forms = flat_map g.T.ZeroCopy.form c.args.src.now in
    let made = c.make_room.new.self.kept in
    let all = take_all c.loop-value.value-index c.args.src.now c.loop-value-test.false in
    let kept = rw all at c.loop-value.invariant.kept in
    let long = rw all at c.loop-value.invariant.long in
    let e : c.loop-value.value-index ≡ length c.args.src.now = omega (arith, c.loop-value-test.false, c.loop-value.auto.value-index-end) in
    let size : length forms ≡ length c.args.src.now * g.T.ZeroCopy.size = rw e at long in
    let sizes = ap length kept ∙ length-append made forms in
    λ some many. kept ∙ ap (λ l. l ++ forms) (c.in_ok-make_room.ensures.bounded (omega (arith, some, c.in-Some.ensures))
    (omega (arith, many, sizes, size, c.in-Some.ensures)))

pub returns-clause-is_valid : goal.returns-clause-is_valid
returns-clause-is_valid g c = rw (take_all c.loop-value.value-index c.args.src.now c.loop-value-test.false) at c.loop-value.invariant.is_valid
