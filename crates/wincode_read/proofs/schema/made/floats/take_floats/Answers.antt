use Rattle.std.proofs.Common.{rules, arith, ◌≡◌, ◌*◌, length}
use Rattle.std.proofs.lemmas.Iterator.{YieldsList-from_map}
use Rattle.std.proofs.lemmas.Iterator.Adapters.{items_from_extend}
use Rattle.wincode_io.proofs.Chunks.{chunks_yield, chunk_values, went, appended}
use Rattle.wincode_io.specs.Forms.{values}
use Rattle.wincode_base.proofs.Floats.{forms_seen}
use Rattle.wincode_read.proofs.schema.made.floats.take_floats.Goals as goal

pub returns-clause-added : goal.returns-clause-added
returns-clause-added g c = λ done.
    let A = g.A.ZeroCopy in
    let T = g.T.OfBits in
    let b = c.args.bytes.now in
    let n = c.args.n in
    let long : length b ≡ n * A.size = search (arith, rules) in
    let all = YieldsList-from_map _ (λ t. T.of (A.value t)) (chunks_yield A.size n b (search (arith, rules)) (search rules) (search rules) long)
    c.map.ensures.closure (λ x r q k. (search rules, k.met)) in
    let h = items_from_extend c.extend-added.result c.extend-added.ensures.ran all in
    let added = appended (went c.extend-added.result (search rules) h).0 c.reserve.ensures.items (chunk_values (λ t. T.of (A.value t)) A.size n b) in
    (values (λ t. T.of (A.value t)) A.size n b, added, forms_seen T.reads T.seen (λ t. T.of (A.value t)) A.size g.met.T.OfBits.form_reads n b c.see_bytes.ensures long)
