use Rattle.std.proofs.Common.{rules, ◌∙◌, ap, sym, subst, subst₂, map}
use Rattle.std.proofs.lemmas.Result.{on_ok_weaker, IfErr-weaker}
use Rattle.wincode_base.specs.Lists.{ItemReadRefused}
use Rattle.wincode_base.specs.Outcomes.{Gives, Puts, ReadRefused}
use Rattle.wincode_base.proofs.Arrays.{read_all, read_failed}
use Rattle.wincode_read.proofs.schema.arrays.read_array.Goals as goal
use Rattle.wincode_io.specs.Joins.{AreItems}

pub returns : goal.returns
returns g c =
    let T = g.T.SchemaRead in let state = g.R.Reader.state in let given = c.new-sourced.ensures in let back = c.into_inner-reader.ensures in
    record {
      ok = on_ok_weaker c.fill-result.result (λ told.
          let got = read_all T.reading T.model (λ s. state s.reader.now) (λ s. s.reader.ghost_name)
          c.new-sourced.result.source told.0 c.fill-result.new.self.source told.3 in
          let name = ap (λ s. s.reader.ghost_name) back ∙ got.0 ∙ ap (λ s. s.reader.ghost_name) given in
          let items = subst (λ k. Gives (AreItems k T.reading.reads) (state c.new-sourced.result.source.reader.now)
          (state c.fill-result.new.self.source.reader.now) (map T.model told.0)) told.2 got.1 in
          let gives = subst₂ (λ s t. Gives (AreItems g.row.N T.reading.reads) (state s.reader.now) (state t.reader.now) (map T.model told.0)) given (sym back)
          items in
          let put = subst (Puts (AreItems g.row.N T.reading.reads) (map T.model) _ _) (sym told.1) gives in
          search rules) c.fill-result.ensures.ok;
      refused = IfErr-weaker c.fill-result.result _ _ (λ e told.
          let got = read_failed T.reading T.model (λ s. state s.reader.now) (λ s. s.reader.ghost_name)
          g.met.T.SchemaRead.read_laws.one_front c.new-sourced.result.source g.row.N e c.fill-result.new.self.source told in
          let name = ap (λ s. s.reader.ghost_name) back ∙ got.0 ∙ ap (λ s. s.reader.ghost_name) given in
          let refuses = subst₂ (λ s t. ReadRefused (AreItems g.row.N T.reading.reads) T.reading.borrow T.reading.takes_no_memory (state s.reader.now)
          (state t.reader.now) e) given (sym back) got.1 in
          let stopped = subst₂ (λ s t. ItemReadRefused g.row.N T.reading (state s.reader.now) (state t.reader.now) e) given (sym back) got.2 in
          (search rules, search rules)) c.fill-result.ensures.err;
      same = search rules;
    }
