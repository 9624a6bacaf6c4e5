use Rattle.std.proofs.Common.{◌∙◌}
use Rattle.wincode_base.specs.Lengths.{preallocation_limit}
use Rattle.wincode_write.proofs.Fronts.{text_in_front}
use Rattle.wincode_write.proofs.schema.strings.encode_text.Goals as goal

pub returns : goal.returns
returns c =
    let behind = c.in_ok-behind.ensures.put in
    text_in_front preallocation_limit 24 c.args.text.now c.in_ok-length.length c.in_ok-behind.behind _ c.encode.new.dst c.put_front.new.dst
    c.in_ok-length.ensures (behind.0, behind.1 ∙ c.as_bytes.ensures.value)
