-- What is parsed of a text is the type that it describes, and that is the one that it is written of.
use Rattle.std.proofs.Common.{[], Result, Ok, Err, IfOk, IfErr}
use Rattle.wincode_describe.specs.Forms.{Form, seen}
use Rattle.wincode_describe.specs.Phrases.{Said, Unsaid, Refused, Gives}
use Rattle.wincode_describe.specs.Readers.{Parses, IsKnownAs, IsRefusedOf}
use Rattle.wincode_describe.specs.declared.described.Described.{Described}
use Rattle.wincode_describe.specs.declared.error.DescribeError.{DescribeError}
use Rattle.wincode_describe.proofs.WrittenSplits.{known_as, made_back, parses_back}
use Rattle.wincode_describe.proofs.described.Described.parse.Goals as goal

known : (o : Said Form) (r : Result Described DescribeError) → Parses [] o r → IfOk r (λ d. IsKnownAs o (seen d))
known o (Ok d) h = known_as [] o d h
known o (Err e) h = tt

refused : (o : Said Form) (r : Result Described DescribeError) → Parses [] o r → IfErr r (IsRefusedOf o)
refused o (Ok d) h = tt
refused Unsaid (Err e) h = tt
refused Refused (Err e) h = tt
refused (Gives f) (Err e) h = h

pub returns : goal.returns
returns c = record {
  ok = λ form is_type same. made_back form c.whole_type.result (parses_back [] c.args.text.now 128 form c.whole_type.result c.whole_type.ensures is_type same);
  known = known _ c.whole_type.result c.whole_type.ensures;
  refused = refused _ c.whole_type.result c.whole_type.ensures;
}
