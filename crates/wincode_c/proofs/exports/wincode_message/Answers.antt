use Rattle.std.proofs.Common.{rules, inl, subst, ap, to_z, of_z, w32, ◌≡◌, ◌∙◌}
use Rattle.wincode_c.specs.Messages.{PutsText, message}
use Rattle.wincode_c.proofs.exports.wincode_message.Goals as goal

pub returns-in-Ok : goal.returns-in-Ok
returns-in-Ok c =
    let room = c.args.room.now in
    let asked : to_z w32 (of_z w32 c.args.number) ≡ c.args.number = search rules in
    let put : PutsText (message c.args.number c.args.first c.args.second) room c.put_text.new.room c.put_text.new.length c.put_text.result =
    subst (λ text. PutsText text room c.put_text.new.room c.put_text.new.length c.put_text.result)
    (c.as_bytes.ensures.value ∙ c.in-Ok.ensures ∙ ap (λ n. message n c.args.first c.args.second) asked) c.put_text.ensures in
    let number : c.put_text.result ≡ to_z w32 (of_z w32 c.put_text.result) = search rules in
    inl (subst (λ n. PutsText (message c.args.number c.args.first c.args.second) room c.put_text.new.room c.put_text.new.length n) number put)
