-- `fill_buf`, `fill_exact` and `peek` say more of the stream than their trait does.
use contract.Monad.{fact}
use denote.Param.{param}
use Rattle.std.proofs.Common.{◌≡◌, length, IfOk, OnOk, IfErr}
use Rattle.wincode_io.specs.contracts.stream_reader.StreamReader.{the_row}
use Rattle.wincode_io.specs.Readers.{Fills, IsShort, IsShown, IsPeeked}
use Rattle.wincode_io.specs.Streams.{stream_state, Asks, IsFetched, StreamRefused}
use Rattle.wincode_io.proofs.Resting.{meets_less}
use Rattle.wincode_io.proofs.stream_reader.StreamReaderReader.TheImpl.Goals as goal

pub fill_buf-meets : goal.fill_buf-meets
fill_buf-meets g x x' c =
    let n = c.args.n in
    let old = stream_state g.S.Source.state c.args.self.now in
    meets_less g.world.𝓛 _ _ (λ r e. fact g.world.𝓤 (IfOk r (λ s. IsShown n old s.now))) (the_row (param 1 g.row.S) g.S.Source) c.args.self
    (λ r new. Fills ⊥ n (λ s. length s.now) old (stream_state g.S.Source.state new) r × Asks n 0 c.args.self.now new × OnOk r (IsFetched n new)
    × IfErr r (StreamRefused g.S.Source.state n c.args.self.now new))
    (λ r new. Fills ⊥ n (λ s. length s.now) old (stream_state g.S.Source.state new) r) (λ r v p. p.0)

pub fill_exact-meets : goal.fill_exact-meets
fill_exact-meets g x x' c =
    let n = c.args.n in
    let old = stream_state g.S.Source.state c.args.self.now in
    meets_less g.world.𝓛 _ _ (λ r e. fact g.world.𝓤 (IfOk r (λ s. (length s.now ≡ n) × IsShown n old s.now))) (the_row (param 1 g.row.S) g.S.Source) c.args.self
    (λ r new. Fills (IsShort n old) n (λ s. length s.now) old (stream_state g.S.Source.state new) r × Asks n 0 c.args.self.now new
    × IfErr r (StreamRefused g.S.Source.state n c.args.self.now new))
    (λ r new. Fills (IsShort n old) n (λ s. length s.now) old (stream_state g.S.Source.state new) r) (λ r v p. p.0)

pub peek-meets : goal.peek-meets
peek-meets g x x' c =
    let old = stream_state g.S.Source.state c.args.self.now in
    meets_less g.world.𝓛 _ _ (λ r e. fact g.world.𝓤 (IfOk r (λ b. IsPeeked old b.now))) (the_row (param 1 g.row.S) g.S.Source) c.args.self
    (λ r new. Fills (IsShort 1 old) 1 (λ s. 1) old (stream_state g.S.Source.state new) r × Asks 1 0 c.args.self.now new
    × IfErr r (StreamRefused g.S.Source.state 1 c.args.self.now new))
    (λ r new. Fills (IsShort 1 old) 1 (λ s. 1) old (stream_state g.S.Source.state new) r) (λ r v p. p.0)
