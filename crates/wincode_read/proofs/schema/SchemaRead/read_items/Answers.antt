use Rattle.std.proofs.Common.{rules, ◌∙◌, ◌≡◌, [], arith}
use Rattle.wincode_base.specs.ListLaws.{items_none, no_memory}
use Rattle.wincode_base.proofs.Items.{item_wanted}
use Rattle.wincode_read.proofs.schema.SchemaRead.read_items.Goals as goal

pub returns-in-Some : goal.returns-in-Some
returns-in-Some g c = c.in-Some.ensures.done

pub returns-then-is_err : goal.returns-then-is_err
returns-then-is_err g c =
    let T = g.Self.SchemaRead in
    let still : c.read_at_once.new.into.items ≡ c.args.into.now.items = search rules in
    let stays : g.R.Reader.state c.read_at_once.new.reader ≡ g.R.Reader.state c.args.reader.now = search rules in
    rw stays (record {
      ok = tt;
      refused = (no_memory _ _ _ _ _ _ (items_none T.reading.reads _), λ dynamic. item_wanted c.args.n T.reading 0 _ _ [] (omega arith) (items_none T.reading.reads _));
      same = c.reserve.ensures.items ∙ still;
    })
