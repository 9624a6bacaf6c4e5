use Rattle.std.proofs.Common.{rules, ◌≤◌, ◌≡◌, ◌∙◌, sym, ap, ◌+◌, ◌-◌, ◌*◌, ◌++◌, length, take, drop, arith, length-append, refl, take-append-drop}
use Rattle.std.proofs.Math.Nat.{mul-le-mul_right}
use Rattle.std.proofs.lemmas.List.{take_all}
use Rattle.std.proofs.lemmas.List.Elements.{All-append}
use Rattle.wincode_io.specs.JoinedForms.{length-joined}
use Rattle.wincode_io.proofs.Blocks.{block_bytes, done_more, left_more, took_more}
use Rattle.wincode_io.proofs.bulk.writing.write_blocks.Goals as goal

pub loop-rest-preserved : goal.loop-rest-preserved
loop-rest-preserved g c =
    let T = g.T.ZeroCopy in
    let W = g.W.Writer in
    let xs = c.args.values.now in
    let rest = c.loop-rest.rest.now in
    let block = c.split_at.result.0.now in
    let more = c.split_at.result.1.now in
    let so_far = c.loop-rest.invariant in
    let done = length xs - length rest in
    let cut : rest ≡ block ++ more = sym (take-append-drop c.min.result rest) ∙ ap (λ l. l ++ drop c.min.result rest) (sym c.split_at.ensures.front)
    ∙ ap (λ l. block ++ l) (sym c.split_at.ensures.back) in
    let left = sym so_far.rest ∙ cut in
    let put = c.put_forms.ensures in
    let wrote = c.write_ready.ensures in
    let counts : length rest ≡ length block + length more = ap length cut ∙ length-append block more in
    let sizes : length rest * T.size ≡ (length block + length more) * T.size = ap (λ n. n * T.size) counts in
    let long = length-joined T.form T.size block (λ k d h. g.T.ZeroCopy.byte_form.long _ (put.is_valid k d h)) in
    let ready = rw put.forms at wrote.ready in
    record {
      took = took_more xs block more done left g.met.W.Writer.writer_laws T.form T.size (W.state c.args.writer.now) (W.state c.loop-rest.writer) _
          (λ k d h. g.T.ZeroCopy.byte_form.long _ (so_far.is_valid k d h)) (λ k d h. g.T.ZeroCopy.byte_form.long _ (put.is_valid k d h))
          (omega (arith, c.requires.room, g.met.W.Writer.ready_room c.args.writer.now)) so_far.took (rw put.forms at wrote.took);
      rest = left_more xs block more done left;
      within = omega (arith, so_far.within, counts);
      ready = omega (arith, so_far.ready, ready, long, sizes);
      is_valid = rw (done_more xs block more done left) (All-append T.is_valid (take done xs) block so_far.is_valid put.is_valid);
    }

pub slice_bounds-forms-end : goal.slice_bounds-forms-end
slice_bounds-forms-end g c =
    let size = c.size_of_form-size.result in
    let few : length c.split_at.result.0.now ≤ 64 = omega (arith, c.split_at.ensures.front_len, c.min.ensures) in
    sym (block_bytes (length c.split_at.result.0.now) size size c.loop-rest.bytes (omega arith) few refl (rw c.size_of_form-size.ensures c.requires.small))

pub put_forms-requires : goal.put_forms-requires
put_forms-requires g c =
    let few : length c.split_at.result.0.now ≤ 64 = omega (arith, c.split_at.ensures.front_len, c.min.ensures) in
    block_bytes (length c.split_at.result.0.now) g.T.ZeroCopy.size _ c.loop-rest.bytes (omega arith) few c.size_of_form-size.ensures c.requires.small

pub write_ready-requires : goal.write_ready-requires
write_ready-requires g c =
    let block = length c.split_at.result.0.now in
    let size = g.T.ZeroCopy.size in
    let few : block ≤ 64 = omega (arith, c.split_at.ensures.front_len, c.min.ensures) in
    let long = block_bytes block size _ c.loop-rest.bytes (omega arith) few c.size_of_form-size.ensures c.requires.small in
    let most : block * size ≤ length c.loop-rest.rest.now * size = mul-le-mul_right size (omega (arith, c.split_at.ensures.front_len, c.min.ensures)) in
    omega (arith, c.put_forms.auto.dst, long, most, c.loop-rest.invariant.ready)

pub returns-clause-took : goal.returns-clause-took
returns-clause-took g c =
    let none : length c.loop-rest.rest.now ≡ 0 = search rules in
    rw (take_all (length c.args.values.now - length c.loop-rest.rest.now) c.args.values.now (omega (arith, none))) at c.loop-rest.invariant.took

pub returns-clause-is_valid : goal.returns-clause-is_valid
returns-clause-is_valid g c =
    let none : length c.loop-rest.rest.now ≡ 0 = search rules in
    rw (take_all (length c.args.values.now - length c.loop-rest.rest.now) c.args.values.now (omega (arith, none))) at c.loop-rest.invariant.is_valid
