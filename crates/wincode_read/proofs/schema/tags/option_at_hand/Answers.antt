use Rattle.std.proofs.Common.{arith, ap, take, ◌∙◌, length-take-le}
use Rattle.std.proofs.lemmas.List.{take-take}
use Rattle.wincode_base.specs.FixedSizeLaws.{takes_gives}
use Rattle.wincode_base.specs.Tags.{option_read}
use Rattle.wincode_read.proofs.schema.tags.option_at_hand.Goals as goal

pub returns-clause-some : goal.returns-clause-some
returns-clause-some g c =
    let reader = g.R.Reader.state c.args.reader.now in
    let shown = c.at_hand.ensures in
    let read = c.in_ok-value.ensures in
    let size = c.in_ok-value.size in
    takes_gives (option_read 1 g.T.SchemaRead.reading).reads size _ _ (take size c.at_hand.result.now) _ (record {
      loses = c.consume_unchecked.ensures;
      size = length-take-le size c.at_hand.result.now read.0;
      front = λ told. ap (take size) (shown.1 told) ∙ take-take size reader.ready reader.rest (omega (arith, read.0, shown.0));
    }) read.1
