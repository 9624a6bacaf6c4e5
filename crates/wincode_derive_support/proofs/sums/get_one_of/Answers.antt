use Rattle.std.proofs.Common.{true}
use Rattle.wincode_base.specs.Leaves.{number_read}
use Rattle.wincode_base.specs.Outcomes.{Gives}
use Rattle.wincode_base.proofs.ReadAnswers.{get_map}
use Rattle.wincode_derive_support.specs.Sums.{case_read, enum_read}
use Rattle.wincode_derive_support.proofs.Cases.{enum_gives, enum_case_refused}
use Rattle.wincode_derive_support.proofs.sums.get_one_of.Goals as goal

pub returns : goal.returns
returns g c =
    let C = g.C.CasesRead in
    let k = g.Tag.TagCode.size in
    let t : Gives (number_read k true).reads (g.R.Reader.state c.args.reader.now) (g.R.Reader.state c.read_tag.new.reader) c.in_ok-tag.tag =
    c.in_ok-tag.ensures.ok in
    get_map (case_read C.tag C.own C.part C.refused c.in_ok-tag.tag) C.model (enum_read k C.tag C.own C.part C.refused) C.model c.get_case.result
    (λ d x. enum_gives k C.tag C.own C.part C.refused _ _ _ _ _ t x) (λ e p. enum_case_refused k C.tag C.own C.part C.refused _ _ _ _ e t p) c.get_case.ensures
