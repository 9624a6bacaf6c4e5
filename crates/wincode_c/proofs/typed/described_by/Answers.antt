-- The fault of a text that describes no type.
use Rattle.std.proofs.Common.{◌≡◌, ◌∙◌, subst, ℕ, List}
use Rattle.wincode_describe.specs.Forms.{Form}
use Rattle.wincode_describe.specs.Phrases.{Said, Unsaid, Refused, Gives}
use Rattle.wincode_describe.specs.Readers.{IsRefusedOf, type_of}
use Rattle.wincode_describe.specs.declared.error.DescribeError.{DescribeError}
use Rattle.wincode_describe.specs.declared.error.DescribeError.TheVariants.{OutOfMemory as NoMemory}
use Rattle.wincode_c.specs.Reports.{IsFaultOf}
use Rattle.wincode_c.specs.declared.typed.Untyped.{Untyped}
use Rattle.wincode_c.specs.declared.typed.Untyped.TheVariants.{OutOfMemory}
use Rattle.wincode_c.proofs.typed.described_by.Goals as goal

faulty : (o : Said Form) (e : DescribeError) (f : Untyped) → IsRefusedOf o e → (e ≡ NoMemory → f ≡ OutOfMemory) → IsFaultOf o f
faulty Unsaid e f h g = tt
faulty Refused e f h g = tt
faulty (Gives form) e f h g = g h

pub returns-in-Err-clause-err : goal.returns-in-Err-clause-err
returns-in-Err-clause-err c =
    let words = c.in_ok-words.ensures.ok in
    let P : List ℕ → Type 0 = λ text. IsRefusedOf (type_of text 128) c.in-Err.error in (
      c.fault_of.ensures.text c.args.text.now words.1,
      λ utf8. (
        λ form is same. c.fault_of.ensures.memory (c.in-Err.ensures.ok form is (words.0 ∙ same)),
        faulty _ c.in-Err.error c.fault_of.result (subst P words.0 c.in-Err.ensures.refused) c.fault_of.ensures.memory,
      ),
    )
