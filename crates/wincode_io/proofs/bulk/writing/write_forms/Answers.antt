use Rattle.std.proofs.Common.{◌∙◌, ap, arith}
use Rattle.std.specs.List.{flat_map}
use Rattle.wincode_io.specs.JoinedForms.{length-joined}
use Rattle.wincode_io.specs.WriterLaws.{same_trans, writer_sound_trans}
use Rattle.wincode_io.proofs.bulk.writing.write_forms.Goals as goal

pub returns-clause-ok : goal.returns-clause-ok
returns-clause-ok g c =
    let T = g.T.ZeroCopy in
    let made = c.in_ok-make_room.ensures.ok in
    let vs = c.args.values.now in
    let long = length-joined T.form T.size vs (λ k d h. g.T.ZeroCopy.byte_form.long _ (c.write_ready_forms.ensures.is_valid k d h)) in
    let took = c.write_ready_forms.ensures.took in
    record {
      fits = omega (arith, long, made.fits, c.in-Some.ensures);
      took = record {
        same = same_trans made.unmoved.same took.same;
        sound = writer_sound_trans made.sound took.sound;
        content = took.content ∙ ap (λ c. g.W.Writer.put c (flat_map T.form vs)) made.unmoved.content;
      };
    }
