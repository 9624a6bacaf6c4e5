use Rattle.std.proofs.Common.{rules, ◌<◌, sym, ap, ◌∷◌, []}
use Rattle.wincode_base.specs.Lengths.{encoding_len}
use Rattle.testkit_schemas.specs.ByteLengths.{byte_encoding}
use Rattle.testkit_schemas.proofs.byte_len.ByteLenSeqLen.write_bytes_needed.Goals as goal

pub returns-clause-ok : goal.returns-clause-ok
returns-clause-ok c =
    let n = c.args.len in
    let small : n < 256 = search rules in
    let is = byte_encoding n small in
    ((n ∷ [], is), sym (ap encoding_len is))
