use Rattle.wincode_write.proofs.Fronts.{list_in_front}
use Rattle.wincode_write.proofs.schema.runs.encode_list.Goals as goal

pub returns : goal.returns
returns g c =
    let T = g.T.SchemaWrite in
    list_in_front T.writing T.model T.is_valid c.args.items.now g.Len.SeqLen.scheme g.row.COUNT c.in_ok-length.length c.in_ok-behind.behind _ c.encode.new.dst
    c.encode_each.new.dst c.in_ok-length.ensures c.in_ok-behind.ensures
