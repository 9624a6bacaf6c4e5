use Rattle.std.proofs.Common.{ap, ◌∙◌, rules}
use Rattle.std.specs.Net.Addr.{octets_of}
use Rattle.wincode_base.specs.MadeLaws.{octets_back}
use Rattle.wincode_base.proofs.Integers.{AreSmall, are_bytes}
use Rattle.wincode_read.proofs.schema.made.parts.ipv6_of.Goals as goal

pub returns : goal.returns
returns c =
    let small : AreSmall c.args.octets = search rules in
    ap octets_of c.from_octets.ensures ∙ octets_back 8 c.args.octets (are_bytes c.args.octets small) (search rules)
