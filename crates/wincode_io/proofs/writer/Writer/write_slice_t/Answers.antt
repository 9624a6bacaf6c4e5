use Rattle.std.proofs.Common.{◌≡◌, take, length, ◌++◌, sym, ap, ◌∙◌, arith, get_or}
use Rattle.std.specs.List.{flat_map}
use Rattle.std.proofs.lemmas.List.{take_all}
use Rattle.std.proofs.lemmas.List.Elements.{All-more}
use Rattle.wincode_io.specs.WriterLaws.{same_trans, writer_sound_trans}
use Rattle.wincode_io.proofs.FormSteps.{place_fits, form_more, joined_more}
use Rattle.wincode_io.proofs.writer.Writer.write_slice_t.Goals as goal

pub loop-value-init : goal.loop-value-init
loop-value-init g c =
    let W = g.Self.Writer in
    let made = c.in_ok-make_room.ensures.ok in
    record {
      took = record {
        same = made.unmoved.same;
        sound = made.sound;
        content = made.unmoved.content ∙ sym (g.met.Self.Writer.writer_laws.nil (W.state c.args.self.now).content);
      };
      long = omega arith;
      room = rw (← c.in-Some.ensures) made.fits;
      ready = let r = rw c.in-Some.ensures at made.ready in omega (arith, r);
      is_valid = λ k d l. absurd (omega (arith, l));
    }

pub write_ready_t-requires : goal.write_ready_t-requires
write_ready_t-requires g c =
    let fits = place_fits c.loop-value.value-index (length c.args.src.now) g.T.ZeroCopy.size c.loop-value-test.true in
    omega (arith, c.loop-value.invariant.ready, fits)

pub loop-value-preserved : goal.loop-value-preserved
loop-value-preserved g c =
    let W = g.Self.Writer in
    let s = g.T.ZeroCopy.size in
    let form = g.T.ZeroCopy.form in
    let vs = c.args.src.now in
    let v = c.value-item.result in
    let i = c.loop-value.value-index in
    let so_far = c.loop-value.invariant in
    let wrote = c.write_ready_t.ensures in
    let at : v ≡ get_or vs i v = c.value-item.is in
    let old = (W.state c.args.self.now).content in
    let front = flat_map form (take i vs) in
    let fits = place_fits i (length vs) s c.loop-value-test.true in
    let size : length (form v) ≡ s = g.T.ZeroCopy.byte_form.long v wrote.is_valid in
    let P : g.row.T.Denot → Type 0 = g.T.ZeroCopy.is_valid in
    record {
      took = record {
        same = same_trans so_far.took.same wrote.took.same;
        sound = writer_sound_trans so_far.took.sound wrote.took.sound;
        content = wrote.took.content ∙ ap (λ t. W.put t (form v)) so_far.took.content
            ∙ g.met.Self.Writer.writer_laws.join old front (form v) (omega (arith, size, so_far.long, so_far.room, fits))
            ∙ ap (λ x. W.put old (front ++ form x)) at
            ∙ ap (W.put old) (form_more form s vs i v c.loop-value-test.true so_far.long);
      };
      long = joined_more form s vs i v c.loop-value-test.true so_far.long (rw (← at) size);
      room = so_far.room;
      ready = omega (arith, so_far.ready, wrote.ready);
      is_valid = All-more P vs i v c.loop-value-test.true so_far.is_valid (rw (← at) wrote.is_valid);
    }

pub returns-clause-ok : goal.returns-clause-ok
returns-clause-ok g c =
    let form = g.T.ZeroCopy.form in
    let so_far = c.loop-value.invariant in
    let all = take_all c.loop-value.value-index c.args.src.now c.loop-value-test.false in
    let took = rw all at so_far.took in
    let long = rw all at so_far.long in
    let e : c.loop-value.value-index ≡ length c.args.src.now = omega (arith, c.loop-value-test.false, c.loop-value.auto.value-index-end) in
    record { fits = rw (long, e) so_far.room; took = took }

pub returns-clause-is_valid : goal.returns-clause-is_valid
returns-clause-is_valid g c = rw (take_all c.loop-value.value-index c.args.src.now c.loop-value-test.false) at c.loop-value.invariant.is_valid
