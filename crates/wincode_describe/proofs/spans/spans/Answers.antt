use Rattle.std.proofs.Common.{refl, sym, ap, subst, ◌<◌, List, map, length, take, arith}
use Rattle.wincode_io.specs.JoinLaws.{map_more}
use Rattle.wincode_describe.specs.Parts.{Part, seen, parts_bytes}
use Rattle.wincode_describe.specs.Spans.{AreSpans}
use Rattle.wincode_describe.proofs.Spanned.{spans_more, bytes_more}
use Rattle.wincode_describe.proofs.spans.spans.Goals as goal

pub loop-part-init : goal.loop-part-init
loop-part-init c = rw c.new-spans.ensures.items (refl, tt)

pub loop-part-preserved : goal.loop-part-preserved
loop-part-preserved c =
    let xs = c.args.parts.now in
    let i = c.loop-part.part-index in
    let x = c.part-item.result in
    let so = c.loop-part.invariant in
    let h : i < length xs = c.loop-part-test.true in
    let e = c.part-item.is in
    let more = map_more xs i x h e seen in
    let size = c.part_size-size.ensures in
    let P : List Part → Type 0 = λ ps. AreSpans 0 ps c.push.new.self.items in (
      omega (arith, so.0, size, c.in-Some.ensures.1, ap (λ ps. length (parts_bytes ps)) more, bytes_more (map seen (take i xs)) (seen x)),
      subst P (sym more) (rw c.in_ok-push.ensures.items (spans_more 0 _ _ (seen x) _ so.1 (omega (arith, so.0)) size)),
    )
