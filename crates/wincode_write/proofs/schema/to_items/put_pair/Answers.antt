use Rattle.std.proofs.Common.{◌≡◌, ◌+◌, ◌≤◌, ◌++◌, length, refl, inl, inr, [], ◌∷◌, rules, append-nil}
use Rattle.wincode_io.specs.JoinLaws.{each_append}
use Rattle.wincode_collect.specs.Seen.{sees}
use Rattle.wincode_base.specs.Pairs.{pair_write}
use Rattle.wincode_base.specs.PairLaws.{pair_write_laws}
use Rattle.wincode_base.proofs.Walks.{walk_all}
use Rattle.wincode_write.proofs.Pending.{encoded_more, encoded_same, block_wrote, block_refused, passed_behind}
use Rattle.wincode_write.proofs.schema.to_items.put_pair.Goals as goal

-- the block was written, and the pair behind it refused or written
pub returns-in_err-write_behind-clause-err : goal.returns-in_err-write_behind-clause-err
returns-in_err-write_behind-clause-err g c =
    let K = g.K.SchemaWrite in
    let V = g.V.SchemaWrite in
    let within : c.args.filled ≤ length c.args.block.now = search rules in
    passed_behind (pair_write K.writing V.writing) (sees K.model V.model) _ (c.args.key.now, c.args.value.now) _ _ _ c.from_residual.ensures (λ es encoded each.
    let o = c.in_err-write_behind.ensures es
    (encoded_same (pair_write K.writing V.writing) (sees K.model V.model) es c.args.filled _ _ c.encode_pair.new.dst within encoded) each in
    o.refused)

pub returns-then-not-encode_pair-clause-ok : goal.returns-then-not-encode_pair-clause-ok
returns-then-not-encode_pair-clause-ok g c =
    let K = g.K.SchemaWrite in
    let V = g.V.SchemaWrite in
    let within : c.args.filled ≤ length c.args.block.now = search rules in
    λ es encoded each.
    let o = c.in_ok-write_behind.ensures es
    (encoded_same (pair_write K.writing V.writing) (sees K.model V.model) es c.args.filled _ _ c.encode_pair.new.dst within encoded) each in
    (o.value, inl (refl, o.ok))

pub returns-then-behind-size-clause-ok : goal.returns-then-behind-size-clause-ok
returns-then-behind-size-clause-ok g c =
    let K = g.K.SchemaWrite in
    let V = g.V.SchemaWrite in
    let size : length c.encode_pair.new.dst ≡ c.args.size = search rules in
    let fits : c.args.filled + c.args.size ≤ length c.args.block.now = search rules in
    let put = c.if-not-encode_pair.ensures refl in
    λ es encoded each. (
      put.1,
      inr (
        refl,
        encoded_more (pair_write K.writing V.writing) (sees K.model V.model) es c.args.filled _ _ c.encode_pair.new.dst
            (c.args.key.now, c.args.value.now) c.args.size encoded size fits put.0,
      ),
    )

-- the block was refused, and the pair stands in it
pub returns-in_err-write-clause-err : goal.returns-in_err-write-clause-err
returns-in_err-write-clause-err g c =
    let K = g.K.SchemaWrite in
    let V = g.V.SchemaWrite in
    let size : length c.encode_pair.new.dst ≡ c.args.size = search rules in
    let fits : c.args.filled + c.args.size ≤ length c.args.block.now = search rules in
    let put = c.if-not-encode_pair.ensures refl in
    let writer = g.met.W.Writer.writer_laws in
    let laws = pair_write_laws K.write_laws V.write_laws in
    passed_behind (pair_write K.writing V.writing) (sees K.model V.model) _ (c.args.key.now, c.args.value.now) _ _ _
    c.from_residual-in_err-write.ensures (λ es encoded each.
    let run = es ++ ((c.args.key.now, c.args.value.now) ∷ []) in
    let more = encoded_more (pair_write K.writing V.writing) (sees K.model V.model) es c.args.filled _ _ c.encode_pair.new.dst
    (c.args.key.now, c.args.value.now) c.args.size encoded size fits put.0 in
    block_refused writer laws run [] run _ _ (append-nil run) more (each_append (λ e. K.is_valid e.0 × V.is_valid e.1) es _ each (put.1, tt))
    c.requires.one_size c.in_err-write.ensures.err)

pub returns-clause-ok : goal.returns-clause-ok
returns-clause-ok g c =
    let K = g.K.SchemaWrite in
    let V = g.V.SchemaWrite in
    let size : length c.encode_pair.new.dst ≡ c.args.size = search rules in
    let fits : c.args.filled + c.args.size ≤ length c.args.block.now = search rules in
    let put = c.if-not-encode_pair.ensures refl in
    let writer = g.met.W.Writer.writer_laws in
    let laws = pair_write_laws K.write_laws V.write_laws in
    λ es encoded each.
    let run = es ++ ((c.args.key.now, c.args.value.now) ∷ []) in
    let more = encoded_more (pair_write K.writing V.writing) (sees K.model V.model) es c.args.filled _ _ c.encode_pair.new.dst
    (c.args.key.now, c.args.value.now) c.args.size encoded size fits put.0 in
    let w = block_wrote writer laws run [] run _ (append-nil run) more (each_append (λ e. K.is_valid e.0 × V.is_valid e.1) es _ each (put.1, tt))
    c.in_ok-write.ensures.ok in
    (put.1, inl (refl, (walk_all writer laws w refl).0))
