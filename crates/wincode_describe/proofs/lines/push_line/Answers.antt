use Rattle.std.proofs.Common.{rules, ◌≡◌, ◌++◌, decimal, codes, string_bytes}
use Rattle.std.proofs.lemmas.Result.{on_ok_weaker}
use Rattle.wincode_describe.proofs.LineParts.{line_of, where_ok}
use Rattle.wincode_describe.specs.Lines.{IsLine}
use Rattle.wincode_describe.proofs.lines.push_line.Goals as goal

pub returns : goal.returns
returns c =
    let begin : string_bytes c.in_ok-begin.begin ≡ decimal c.args.offset ++ (codes ": " ++ string_bytes c.in_ok-digits.digits) = search rules in
    let first : string_bytes c.push_str.new.self ≡ string_bytes c.args.text.now ++ string_bytes c.in_ok-begin.begin = search rules in
    let placed = c.in_ok-push_place.ensures in
    let space : string_bytes c.push_str-2.new.self ≡ string_bytes c.push_place.new.text ++ codes " " = search rules in
    let valued : string_bytes c.push_str-3.new.self ≡ string_bytes c.push_str-2.new.self ++ string_bytes c.in_ok-value.value = search rules in
    let P : Type 0 = string_bytes c.push_str-4.new.self ≡ string_bytes c.push_str-3.new.self ++ codes "\n" in
    let Q : Type 0 = IsLine c.args.offset c.args.place.now (string_bytes c.args.text.now) (string_bytes c.push_str-4.new.self) in
    on_ok_weaker {P = P} {Q = Q} c.push_str-4.result (λ last. line_of c.args.offset c.args.place.now _ _ _ (codes "\n")
    _ _ _ _ _ _ _ begin first placed space valued last) (where_ok c.push_str-4.result _ _ _ c.push_str-4.ensures.bytes)
