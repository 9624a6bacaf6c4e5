use Rattle.std.proofs.Common.{◌≡◌, ◌∙◌, sym, ap, [], map, length}
use Rattle.std.specs.Prelude.{get_or}
use Rattle.std.specs.String.{string_bytes}
use Rattle.std.proofs.lemmas.List.{length-map}
use Rattle.wincode_describe.specs.Parts.{seen}
use Rattle.wincode_describe.specs.Places.{places}
use Rattle.wincode_describe.proofs.LineParts.{place_is, same_refusal, same_lines}
use Rattle.wincode_describe.proofs.Spanned.{spans_count, spans_offsets}
use Rattle.wincode_describe.proofs.lines.lines_of.Goals as goal

pub returns-in-None : goal.returns-in-None
returns-in-None c = λ are.
    let ps = map seen c.args.explained.now.parts.items in
    let all : map string_bytes c.as_slice-places.result.now ≡ places c.args.described.now ps =
    ap (map string_bytes) c.as_slice-places.ensures.value ∙ c.in_ok-found.ensures ∙ ap (λ xs. places c.args.described.now (map seen xs)) c.as_slice-parts.ensures.value in
    let count = spans_count 0 ps c.args.spans.now are in
    let many : length c.as_slice-parts.result.now ≡ length c.args.spans.now =
    ap length c.as_slice-parts.ensures.value ∙ sym (length-map c.args.explained.now.parts.items seen) ∙ sym count in
    rw c.in-None.is (same_lines _ _ _ _ _ _ _ (spans_offsets 0 ps c.args.spans.now are) all count (c.in_ok-text.ensures many))

pub returns : goal.returns
returns c = λ are.
    let d = c.args.described.now in
    let ps = map seen c.args.explained.now.parts.items in
    let i = length c.as_slice-parts.result.now in
    let all : map string_bytes c.as_slice-places.result.now ≡ places d ps =
    ap (map string_bytes) c.as_slice-places.ensures.value ∙ c.in_ok-found.ensures ∙ ap (λ xs. places d (map seen xs)) c.as_slice-parts.ensures.value in
    let is : i ≡ length ps = ap length c.as_slice-parts.ensures.value ∙ sym (length-map c.args.explained.now.parts.items seen) in
    let count = spans_count 0 ps c.args.spans.now are in
    let lines = same_lines _ _ _ _ _ _ _ (spans_offsets 0 ps c.args.spans.now are) all count (c.in_ok-text.ensures (is ∙ sym count)) in
    let place = place_is c.as_slice-places.result.now i c.place_at-place.result.now c.place_at-place.ensures
    ∙ ap (λ qs. get_or qs i []) all ∙ ap (λ k. get_or (places d ps) k []) is in
    rw c.in-Some.is (string_bytes c.in_ok-text.text, lines, same_refusal _ _ _ _ _ _ (c.end_of.ensures ps are) place c.in_ok-push_refusal-in-Some.ensures)
