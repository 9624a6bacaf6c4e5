use Rattle.std.proofs.Common.{rules, ◌*◌, ◌<◌, ◌≤◌, true, [], refl, arith, inl, inr}
use Rattle.std.proofs.Math.Nat.{mul-le-mul_right}
use Rattle.wincode_io.specs.PlaceLaws.{sound_refl}
use Rattle.wincode_io.specs.Readers.{Stays}
use Rattle.wincode_io.specs.Writers.{byte_limit}
use Rattle.wincode_base.specs.ListLaws.{items_none}
use Rattle.wincode_base.specs.Views.{pod_read}
use Rattle.wincode_base.proofs.FormRuns.{forms_none, forms_vast, form_vast}
use Rattle.wincode_base.proofs.ReadAnswers.{add_at_once}
use Rattle.wincode_base.proofs.Views.{form_is_static}
use Rattle.wincode_read.proofs.schema.pod.read_pods.Goals as goal

pub returns-in-Some : goal.returns-in-Some
returns-in-Some g c =
    let T = g.T.ZeroCopy in
    let within : T.size ≤ byte_limit = search rules in
    let o = c.read_all.ensures in
    record {
      each = add_at_once c.args.n (pod_read T.is_valid T.size T.form) (λ v. v) _ _ c.read_all.result T.size true (form_is_static T.size true within)
          o.ok o.err o.at_once o.same;
      at_once = o.at_once;
    }

pub returns-in-None : goal.returns-in-None
returns-in-None g c = record {
  each = record {
    ok = forms_none g.T.ZeroCopy.byte_form c.args.n _ c.args.into.now.items (search rules);
    refused = tt;
    same = tt;
  };
  at_once = tt;
}

pub returns-in-None-2 : goal.returns-in-None-2
returns-in-None-2 g c =
    let T = g.T.ZeroCopy in
    let s = T.size in
    let some : 0 < c.args.n = search (arith, rules) in
    let most : 1 * s ≤ c.args.n * s = mul-le-mul_right s (omega (arith, some)) in
    let vast : byte_limit < s = search rules in
    let reads = (pod_read T.is_valid s T.form).reads in
    let old = g.R.Reader.state c.args.reader.now in
    let stays : Stays old old = record {
      kept = record { lends = refl; never_fails = refl; counts_windows = refl; is_known = refl };
      rest = λ t. refl;
      ready =
          omega arith;
      place = refl;
    } in
    rw c.read_length_encoding_overflow.ensures (record {
      each = record {
        ok = tt;
        refused = (
          forms_vast g.T.ZeroCopy.byte_form c.args.n _ _ (omega (arith, most, vast)),
          λ there. record {
            count = 0;
            items = [];
            mid = old;
            gives = items_none reads old;
            stop = inl (some, (form_vast g.T.ZeroCopy.byte_form 0 true old _ vast, inr ((stays, sound_refl old), omega (arith, vast), refl)));
          },
        );
        same = refl;
      };
      at_once = ((stays, sound_refl old), omega (arith, most, vast), refl);
    })
