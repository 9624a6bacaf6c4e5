-- What is parsed of a text that is written as a type is, is that type, and else what the source declares.
use Rattle.std.proofs.Common.{◌≡◌, ℕ, List, Result, Ok, Err, IfOk}
use Rattle.std.specs.Global.{Vec}
use Rattle.std.specs.Str.{chars}
use Rattle.wincode_derive_text.specs.Splits.{Splits, tokens_in}
use Rattle.wincode_derive_text.specs.declared.tokens.Token.{Token}
use Rattle.wincode_describe.specs.Forms.{Form, seen}
use Rattle.wincode_describe.specs.Phrases.{Piece, Gives, and_then, known, pieces}
use Rattle.wincode_describe.specs.Readers.{Parses, IsKnownAs, type_in, whole}
use Rattle.wincode_describe.specs.Spelled.{IsType}
use Rattle.wincode_describe.specs.Written.{written}
use Rattle.wincode_describe.specs.declared.described.Described.{Described}
use Rattle.wincode_describe.specs.declared.error.DescribeError.{DescribeError}
use Rattle.wincode_describe.proofs.WrittenSplits.{parsed_known, parses_back}
use Rattle.wincode_describe.proofs.described.Described.parse_with.Goals as goal

made : (source : List Piece) (text : List ℕ) (result : Result Described DescribeError)
    → ((form : Form) → IsType 128 form → text ≡ written form → Parses source (Gives form) result)
    → IfOk result (λ d. (form : Form) → IsType 128 form → text ≡ written form → seen d ≡ form)
made source text (Ok d) makes = makes
made source text (Err e) makes = tt

known_of : (source text : List ℕ) (tokens : Vec Token) (result : Result Described DescribeError) → Splits (tokens_in (chars source)) (Ok tokens)
    → Parses (pieces tokens.items) (and_then (known (tokens_in (chars text))) (whole (pieces tokens.items) 128)) result
    → IfOk result (λ d. IsKnownAs (type_in source text 128) (seen d))
known_of source text tokens (Ok d) split parsed = parsed_known (tokens_in (chars source)) tokens (tokens_in (chars text)) 128 d split parsed
known_of source text tokens (Err e) split parsed = tt

pub returns : goal.returns
returns c =
    let parsed = rw c.as_slice-2.ensures.value at c.whole_type.ensures in
    record {
      ok = made (pieces c.in_ok-source.source.items) c.args.text.now c.whole_type.result
          (λ form is_type same. parses_back _ c.args.text.now 128 form c.whole_type.result parsed is_type same);
      known = known_of c.args.source.now c.args.text.now c.in_ok-source.source c.whole_type.result c.in_ok-source.ensures parsed;
    }
