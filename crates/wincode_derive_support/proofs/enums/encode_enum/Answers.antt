use Rattle.std.proofs.Common.{◌≡◌, ◌∙◌, ap, ◌++◌, take}
use Rattle.wincode_io.specs.Numbers.{le}
use Rattle.wincode_write.proofs.Fronts.{within_put, front_more}
use Rattle.wincode_derive_support.proofs.enums.encode_enum.Goals as goal

pub returns : goal.returns
returns g c =
    let k = g.T.Tag.TagCode.size in
    let t = c.tag-tag.ensures in
    let first = c.in_ok-front.ensures in
    let part = c.in_ok-part.ensures in
    let tag : take c.in_ok-front.front c.encode_tag.new.dst ≡ le k (g.T.Cases.CasesWrite.tag (g.T.Cases.CasesWrite.model (g.T.EnumParts.parts c.args.src.now))) =
    first.1.1 ∙ ap (λ n. le k n) t.is in
    let behind = take c.in_ok-part.part c.encode_part.new.dst in (
      within_put c.in_ok-front.front _ c.in_ok-part.part c.encode_tag.new.dst c.encode_part.new.dst first.0 part.0,
      (
        (t.own, part.1.0),
        (
          t.own,
          (
            behind,
            part.1.1,
            front_more c.in_ok-front.front _ c.in_ok-part.part c.encode_tag.new.dst c.encode_part.new.dst first.0 part.0
                ∙ ap (λ a. a ++ behind) tag,
          ),
        ),
      ),
      (t.own, part.2),
    )
