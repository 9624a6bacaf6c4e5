use Rattle.std.proofs.Common.{◌∙◌, sym, ap, [], append-nil, rules, arith}
use Rattle.std.proofs.lemmas.Iterator.{YieldsList-from_map, YieldsList-from_range}
use Rattle.std.proofs.lemmas.Iterator.Adapters.{items_from_extend}
use Rattle.wincode_io.proofs.Chunks.{chunks_yield, chunk_values, same_values, no_values, went, appended}
use Rattle.wincode_io.proofs.bulk.reading.add_forms.Goals as goal
use Rattle.wincode_io.proofs.bulk.reading.add_forms.Goals.{in-Some, in-Some-2, in-None}
use Rattle.wincode_io.specs.Writers.{byte_limit}

pub returns-clause-ok : goal.returns-clause-ok
returns-clause-ok g c =
    let T = g.T.ZeroCopy in
    let b = c.args.bytes.now in
    let n = c.args.n in
    elim c.match-form_size.branch [
      | in-Some w ↦
          let all = YieldsList-from_map _ T.value (chunks_yield T.size n b (search (arith, rules)) (search rules) (search rules) c.requires)
          w.map.ensures.closure (λ x r q k. (search rules, k.met)) in
          let h = items_from_extend w.extend-added.result w.extend-added.ensures.ran all in
          appended (ap (λ v. v.items) w.into-is ∙ (went w.extend-added.result (search rules) h).0) c.reserve.ensures.items (chunk_values T.value T.size n b)
      | in-Some-2 w ↦
          let all = YieldsList-from_map _ (λ i. T.value []) (YieldsList-from_range 0 n n (search rules) (search (arith, rules)))
          w.map-in-Some-2.ensures.closure (λ x r q k. (search rules, k.met)) in
          let h = items_from_extend w.extend-added-in-Some-2.result w.extend-added-in-Some-2.ensures.ran all in
          appended (ap (λ v. v.items) w.into-is ∙ (went w.extend-added-in-Some-2.result (search rules) h).0) c.reserve.ensures.items
          (same_values T.value T.size n b (search (arith, rules)))
      | in-None w ↦
          appended (ap (λ v. v.items) w.into-is ∙ sym (append-nil c.reserve.new.self.items)) c.reserve.ensures.items
          (sym (no_values T.value T.size byte_limit n b (search rules) c.requires (search (arith, rules))))
    ]
