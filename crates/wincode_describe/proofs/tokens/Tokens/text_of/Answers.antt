use Rattle.std.proofs.Common.{◌≡◌, rules, sym, ◌∙◌, ap}
use Rattle.wincode_describe.specs.Phrases.{front_text}
use Rattle.wincode_describe.proofs.Fronts.{at_front, front_is, front_is_none, nothing_in_front}
use Rattle.wincode_describe.proofs.tokens.Tokens.text_of.Goals as goal
use Rattle.wincode_describe.proofs.tokens.Tokens.text_of.Goals.{in_default-via-in-Some+else-eq, in_default-via-in_default}

pub returns-in-Some : goal.returns-in-Some
returns-in-Some c =
    let t = c.in-Some.token.now in
    let found = rw c.in-Some.is at c.get.ensures.lookup in
    let same : t.kind ≡ c.args.kind = search rules in
    c.as_str.ensures.value ∙ front_is c.args.kind t.kind _ _ same
    ∙ sym (ap (front_text c.args.kind) (at_front c.args.self.now.tokens.now c.args.self.now.next t found.3.0 found.1))

pub returns-in_default : goal.returns-in_default
returns-in_default c = elim c.in_default.branch [
  | in_default-via-in-Some+else-eq w ↦
      let t = w.in-Some.token.now in
      let found = rw w.in-Some.is at c.get.ensures.lookup in
      front_is_none c.args.kind t.kind _ _ (λ e. search rules)
      ∙ sym (ap (front_text c.args.kind) (at_front c.args.self.now.tokens.now c.args.self.now.next t found.3.0 found.1))
  | in_default-via-in_default w ↦
      let found = rw w.in_default.is at c.get.ensures.lookup in
      nothing_in_front c.args.kind c.args.self.now.tokens.now c.args.self.now.next found.3
]
