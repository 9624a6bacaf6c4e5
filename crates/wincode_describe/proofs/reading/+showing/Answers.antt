use Rattle.std.proofs.Common.{ℕ, List, ◌≡◌, true, ◌∙◌, sym, ap, refl, arith, ◌≤◌, [], ◌∷◌, ◌++◌, map, inl, inr}
use Rattle.std.proofs.lemmas.List.{map-append}
use Rattle.wincode_base.specs.Arrays.{array_read, times_meta}
use Rattle.wincode_base.specs.InWindow.{windowed_read}
use Rattle.wincode_base.specs.ItemSizes.{item_size, run_size}
use Rattle.wincode_base.specs.Leaves.{number_read}
use Rattle.wincode_base.specs.ListLaws.{items_none, items_more, items_refused}
use Rattle.wincode_base.specs.Lists.{run_read, list_read}
use Rattle.wincode_base.specs.PairLaws.{pair_gives, pair_first, pair_second}
use Rattle.wincode_base.specs.Pairs.{pair_read}
use Rattle.wincode_base.specs.Tags.{option_read, result_read}
use Rattle.wincode_base.specs.declared.error.ReadError.TheVariants as reading
use Rattle.wincode_base.proofs.Items.{item_stopped}
use Rattle.wincode_describe.specs.Parts.{seen, parts_bytes}
use Rattle.wincode_describe.specs.ShownGrammars.{shown_read, joined, chosen_read}
use Rattle.wincode_describe.specs.TypeLaws.{described_laws, cases_borrow}
use Rattle.wincode_describe.specs.TypeBytes.{described_bytes, items_bytes}
use Rattle.wincode_base.specs.Lengths.{IsLength}
use Rattle.wincode_io.specs.Joins.{AreItems}
use Rattle.wincode_describe.specs.Types.{described_read, cases_read, list_of, scheme_of, list_shown, both_shown, option_shown, result_shown, tag_bytes}
use Rattle.wincode_describe.specs.declared.shown.Shown.TheVariants as shown
use Rattle.wincode_describe.proofs.Shows.{began_none, began_took, began_gave, began_behind, behind_here, behind_window, behind_gave, tag_joined, length_joined}
use Rattle.wincode_describe.proofs.Shows.{show_refused, show_map, show_as, joined_snoc, shown_gives, shown_refused, shown_unspared, shown_memory}
use Rattle.wincode_describe.proofs.Shows.{run_gives, run_refused, length_refused, run_dynamic, run_window_gives, run_window_refused}
use Rattle.wincode_describe.proofs.Shows.{run_unwindowed, run_overflows, array_window_gives, array_window_refused, array_unwindowed}
use Rattle.wincode_describe.proofs.Shows.{parts_window_gives, parts_window_refused, parts_unwindowed}
use Rattle.wincode_describe.proofs.Shows.{option_shows, option_unshown, option_nameless, side_unshown, ok_shows, err_shows, ok_unshown, err_unshown}
use Rattle.wincode_describe.proofs.Shows.{side_nameless, chosen_gives, chosen_first, chosen_second, chosen_memory, option_first, case_nameless}
use Rattle.wincode_describe.proofs.reading.+showing.Goals as goal

-- ---- windows

pub show_whole-returns-in_err-window-in-Static : goal.show_whole-returns-in_err-window-in-Static
show_whole-returns-in_err-window-in-Static g m c =
    let d = c.args.parts.now in
    let is = sym c.type_meta.ensures ∙ c.in-Static.is in
    show_refused (windowed_read (described_read d)) _ _ _ _ c.from_residual.ensures
    (parts_unwindowed (described_laws d) _ _ is _ _ (reading.Io c.in_err-window-in-Static.field-0.0) c.in_err-window-in-Static.ensures.err)
    (began_none g.S.PartSink.sink_laws _ _)

pub show_whole-returns-in_ok-window-in-Static : goal.show_whole-returns-in_ok-window-in-Static
show_whole-returns-in_ok-window-in-Static g m c =
    let d = c.args.parts.now in
    let is = sym c.type_meta.ensures ∙ c.in-Static.is in
    let w = c.in_ok-window-in-Static.ensures.ok in
    show_as g.S.PartSink.sink_laws (described_read d) (windowed_read (described_read d)) _ _ c.show_parts.result (behind_window _ _ _ _ w)
    (λ v x. parts_window_gives (described_laws d) _ _ is _ _ _ _ v w x) (λ e x. parts_window_refused (described_laws d) _ _ is _ _ _ _ e w x)
    c.show_parts.ensures

pub show_array-returns-in_err-window-in-Static : goal.show_array-returns-in_err-window-in-Static
show_array-returns-in_err-window-in-Static g m c =
    let d = c.args.item.now in
    let n = c.args.n in
    let is = ap (times_meta n) (sym c.type_meta.ensures) ∙ sym c.times_meta.ensures ∙ c.in-Static.is in
    show_refused (shown_read joined (windowed_read (array_read n (described_read d)))) _ _ _ _ c.from_residual.ensures
    (array_unwindowed (described_laws d) n _ _ is _ _ (reading.Io c.in_err-window-in-Static.field-0.0) c.in_err-window-in-Static.ensures.err)
    (began_none g.S.PartSink.sink_laws _ _)

pub show_array-returns-in_ok-window-in-Static : goal.show_array-returns-in_ok-window-in-Static
show_array-returns-in_ok-window-in-Static g m c =
    let d = c.args.item.now in
    let n = c.args.n in
    let is = ap (times_meta n) (sym c.type_meta.ensures) ∙ sym c.times_meta.ensures ∙ c.in-Static.is in
    let w = c.in_ok-window-in-Static.ensures.ok in
    show_as g.S.PartSink.sink_laws (shown_read joined (array_read n (described_read d))) (shown_read joined (windowed_read (array_read n (described_read d))))
    _ _ c.show_items.result (behind_window _ _ _ _ w)
    (λ v x. array_window_gives (described_laws d) n _ _ is _ _ _ _ v w x) (λ e x. array_window_refused (described_laws d) n _ _ is _ _ _ _ e w x)
    c.show_items.ensures

pub show_run-returns-in-Unknown : goal.show_run-returns-in-Unknown
show_run-returns-in-Unknown g m c =
    let d = c.args.item.now in
    let n = c.args.n in
    let is = ap item_size (sym c.type_meta.ensures) ∙ sym c.of-size.ensures ∙ c.in-Unknown.is in
    show_as g.S.PartSink.sink_laws (shown_read joined (array_read n (described_read d)))
    (shown_read joined (run_read n (item_size (described_read d).meta) (described_read d))) _ _ c.show_items.result
    (behind_here (g.R.Reader.state c.args.reader.now)) (λ v x. x) (λ e x. run_dynamic (described_laws d) n _ _ e is x) c.show_items.ensures

pub show_run-returns-in_err-window-in-Some : goal.show_run-returns-in_err-window-in-Some
show_run-returns-in_err-window-in-Some g m c =
    let d = c.args.item.now in
    let n = c.args.n in
    let is = ap (run_size n) (ap item_size (sym c.type_meta.ensures) ∙ sym c.of-size.ensures) ∙ sym c.times.ensures ∙ c.in-Some.is in
    show_refused (shown_read joined (run_read n (item_size (described_read d).meta) (described_read d))) _ _ _ _ c.from_residual.ensures
    (run_unwindowed (described_laws d) n _ is _ _ (reading.Io c.in_err-window-in-Some.field-0.0) c.in_err-window-in-Some.ensures.err)
    (began_none g.S.PartSink.sink_laws _ _)

pub show_run-returns-in_ok-window-in-Some : goal.show_run-returns-in_ok-window-in-Some
show_run-returns-in_ok-window-in-Some g m c =
    let d = c.args.item.now in
    let n = c.args.n in
    let is = ap (run_size n) (ap item_size (sym c.type_meta.ensures) ∙ sym c.of-size.ensures) ∙ sym c.times.ensures ∙ c.in-Some.is in
    let w = c.in_ok-window-in-Some.ensures.ok in
    show_as g.S.PartSink.sink_laws (shown_read joined (array_read n (described_read d)))
    (shown_read joined (run_read n (item_size (described_read d).meta) (described_read d))) _ _ c.show_items-in-Some.result (behind_window _ _ _ _ w)
    (λ v x. run_window_gives (described_laws d) n _ is _ _ _ _ v w x) (λ e x. run_window_refused (described_laws d) n _ is _ _ _ _ e w x)
    c.show_items-in-Some.ensures

pub show_run-returns-in-None : goal.show_run-returns-in-None
show_run-returns-in-None g m c =
    let d = c.args.item.now in
    let n = c.args.n in
    let by = ap item_size (sym c.type_meta.ensures) ∙ sym c.of-size.ensures in
    let is = ap (run_size n) by ∙ sym c.times.ensures ∙ c.in-None.is in
    record {
      ok = tt;
      refused = run_overflows (described_laws d) n is (λ e. c.in_default.not-Unknown (sym by ∙ e)) _ _ _ refl c.read_length_encoding_overflow.ensures;
      began = began_none g.S.PartSink.sink_laws _ _;
    }

-- ---- items

pub show_items-loop-i-init : goal.show_items-loop-i-init
show_items-loop-i-init g m c = ([], [], items_none (described_read c.args.item.now).reads _, g.S.PartSink.sink_laws.none _, refl)

pub show_items-loop-i-preserved : goal.show_items-loop-i-preserved
show_items-loop-i-preserved g m c =
    let T = described_read c.args.item.now in
    let so = c.loop-i.invariant in
    let s = c.in_ok-show_parts.ensures.ok in (
      so.0 ++ (map seen s.more ∷ []),
      so.1 ++ s.more,
      items_more T.reads _ _ _ _ _ _ so.2 s.gives,
      g.S.PartSink.sink_laws.joins _ _ _ so.1 s.more so.3 s.is,
      map-append seen so.1 s.more ∙ ap (λ t. t ++ map seen s.more) so.4 ∙ sym (joined_snoc so.0 (map seen s.more)),
    )

pub show_items-returns-in_err-show_parts : goal.show_items-returns-in_err-show_parts
show_items-returns-in_err-show_parts g m c =
    let d = c.args.item.now in
    let T = described_read d in
    let n = c.args.n in
    let so = c.loop-i.invariant in
    let o = c.in_err-show_parts.ensures in
    let K : (b : List ℕ) → AreItems c.loop-i._i T.reads b so.0 → b ≡ parts_bytes (map seen so.1) =
    λ b r. items_bytes T.reads (described_bytes d) so.0 b r.1 ∙ ap parts_bytes (sym so.4) in
    show_refused (shown_read joined (array_read n T)) _ _ _ _ c.from_residual.ensures (
      shown_unspared joined (array_read n T) _ _ _ (items_refused T.reads
          (described_laws d).one_front c.loop-i._i n T.borrow T.takes_no_memory c.loop-i-test.true _ _ _ so.0 _ so.2 o.refused.0),
      inl (item_stopped n T c.loop-i._i _ _ _ so.0 _ c.loop-i-test.true so.2 o.refused),
    ) (began_behind g.S.PartSink.sink_laws _ _ _ _ _ so.1 so.3 (behind_gave (AreItems c.loop-i._i T.reads) _ _ so.0 so.1 K so.2) o.began)

-- ---- lists

pub show_list-returns-in_err-count : goal.show_list-returns-in_err-count
show_list-returns-in_err-count g m c =
    let d = c.args.item.now in
    let o = rw c.prealloc_size.ensures at c.in_err-count.ensures in
    show_refused (list_of c.args.scheme (described_read d)) _ _ _ _ c.from_residual.ensures
    (length_refused c.args.scheme (described_read d) _ _ _ o.refused) (began_none g.S.PartSink.sink_laws _ _)

pub show_list-returns : goal.show_list-returns
show_list-returns g m c =
    let T = described_read c.args.item.now in
    let s = c.args.scheme in
    let n = c.in_ok-count.count in
    let o = rw c.prealloc_size.ensures at c.in_ok-count.ensures in
    show_map g.S.PartSink.sink_laws (shown_read joined (run_read n (item_size T.meta) T)) (list_of s T) _ _ _ (shown.Length s n ∷ [])
    c.show_run.result c.in_ok-add.ensures.ok (behind_gave (IsLength (scheme_of s) T.prealloc) _ _ n (shown.Length s n ∷ []) (length_joined s T.prealloc n)
    o.ok)
    (λ w x. run_gives s T _ _ _ n (item_size T.meta) w o.ok x) (λ e x. run_refused s T _ _ _ n e o.ok x) c.show_run.ensures

-- ---- options and results

pub show_option-returns-in-1 : goal.show_option-returns-in-1
show_option-returns-in-1 g m c =
    let T = described_read c.args.content.now in
    let t = c.in_ok-tag.tag in
    let r = c.in_ok-tag.ensures.ok in
    let is : t ≡ 1 = omega arith in
    show_map g.S.PartSink.sink_laws T (shown_read option_shown (option_read 1 T)) _ _ _ (shown.Tag 1 t ∷ []) c.show_parts.result c.in_ok-add.ensures.ok
    (behind_gave (number_read 1 true).reads _ _ t (shown.Tag 1 t ∷ []) (tag_joined 1 t) r)
    (λ w x. option_shows T _ _ _ t w is r x) (λ e x. option_unshown T _ _ _ t e is r x) c.show_parts.ensures

pub show_option-returns-in_default : goal.show_option-returns-in_default
show_option-returns-in_default g m c =
    let T = described_read c.args.content.now in
    let t = c.in_ok-tag.tag in
    let two : 2 ≤ t = omega arith in
    rw c.invalid_tag_encoding.ensures (record {
      ok = tt;
      refused = option_nameless T _ _ t two c.in_ok-tag.ensures.ok;
      began =
          began_gave (number_read 1 true).reads _ _ t _ _ (shown.Tag 1 t ∷ []) c.in_ok-add.ensures.ok (tag_joined 1 t) c.in_ok-tag.ensures.ok;
    })

pub show_parts-returns-in-Option : goal.show_parts-returns-in-Option
show_parts-returns-in-Option g m c = rw c.in-Option.is (rw c.deref.ensures at c.show_option.ensures)

pub show_parts-returns-in_err-side-in-Result : goal.show_parts-returns-in_err-side-in-Result
show_parts-returns-in_err-side-in-Result g m c =
    let T = described_read c.in-Result.one.value in
    let U = described_read c.in-Result.other.value in
    let o = c.in_err-side-in-Result.ensures in
    rw c.in-Result.is (show_refused (shown_read result_shown (result_read 4 T U)) _ _ _ _ c.from_residual.ensures (side_unshown T U _ _ _ o.refused)
    (began_none g.S.PartSink.sink_laws _ _))

pub show_parts-returns-in_err-add-in-Result : goal.show_parts-returns-in_err-add-in-Result
show_parts-returns-in_err-add-in-Result g m c =
    let T = described_read c.in-Result.one.value in
    let U = described_read c.in-Result.other.value in
    let G = shown_read result_shown (result_read 4 T U) in
    let u = c.in_err-add-in-Result.ensures.err in
    rw c.in-Result.is (show_refused G _ _ _ _ c.from_residual-in_err-add-in-Result.ensures
    (rw u.0 (shown_memory result_shown (result_read 4 T U) (number_read 4 true).reads _ _ _ c.in_ok-side-in-Result.ensures.ok)) (began_took _ _ _ u.1))

pub show_parts-returns-in-0 : goal.show_parts-returns-in-0
show_parts-returns-in-0 g m c =
    let T = described_read c.in-Result.one.value in
    let U = described_read c.in-Result.other.value in
    let t = c.in_ok-side-in-Result.side in
    let r = c.in_ok-side-in-Result.ensures.ok in
    let is : t ≡ 0 = omega arith in
    rw c.in-Result.is (show_map g.S.PartSink.sink_laws T (shown_read result_shown (result_read 4 T U)) _ _ _ (shown.Tag 4 t ∷ [])
    c.show_parts.result c.in_ok-add-in-Result.ensures.ok (behind_gave (number_read 4 true).reads _ _ t (shown.Tag 4 t ∷ []) (tag_joined 4 t) r)
    (λ w x. ok_shows T U _ _ _ t w is r x) (λ e x. ok_unshown T U _ _ _ t e is r x) (rw c.deref-in-0.ensures at c.show_parts.ensures))

pub show_parts-returns-in-1 : goal.show_parts-returns-in-1
show_parts-returns-in-1 g m c =
    let T = described_read c.in-Result.one.value in
    let U = described_read c.in-Result.other.value in
    let t = c.in_ok-side-in-Result.side in
    let r = c.in_ok-side-in-Result.ensures.ok in
    let is : t ≡ 1 = omega arith in
    rw c.in-Result.is (show_map g.S.PartSink.sink_laws U (shown_read result_shown (result_read 4 T U)) _ _ _ (shown.Tag 4 t ∷ [])
    c.show_parts-in-1.result c.in_ok-add-in-Result.ensures.ok (behind_gave (number_read 4 true).reads _ _ t (shown.Tag 4 t ∷ []) (tag_joined 4 t) r)
    (λ w x. err_shows T U _ _ _ t w is r x) (λ e x. err_unshown T U _ _ _ t e is r x) (rw c.deref-in-1.ensures at c.show_parts-in-1.ensures))

pub show_parts-returns-in_default : goal.show_parts-returns-in_default
show_parts-returns-in_default g m c =
    let T = described_read c.in-Result.one.value in
    let U = described_read c.in-Result.other.value in
    let t = c.in_ok-side-in-Result.side in
    let two : 2 ≤ t = omega arith in
    rw c.in-Result.is (rw c.invalid_tag_encoding.ensures (record {
      ok = tt;
      refused = side_nameless T U _ _ t two c.in_ok-side-in-Result.ensures.ok;
      began =
          began_gave (number_read 4 true).reads _ _ t _ _ (shown.Tag 4 t ∷ []) c.in_ok-add-in-Result.ensures.ok (tag_joined 4 t)
          c.in_ok-side-in-Result.ensures.ok;
    }))

-- ---- two parts

pub show_parts-returns-in_err-show_parts-in-Joined : goal.show_parts-returns-in_err-show_parts-in-Joined
show_parts-returns-in_err-show_parts-in-Joined g m c =
    let T = described_read c.in-Joined.first.value in
    let U = described_read c.in-Joined.second.value in
    let o = rw c.deref-in-Joined.ensures at c.in_err-show_parts-in-Joined.ensures in
    rw c.in-Joined.is (show_refused (shown_read both_shown (pair_read T U)) _ _ _ _ c.from_residual-in_err-show_parts-in-Joined.ensures
    (shown_refused both_shown (pair_read T U) _ _ _ (pair_first T U _ _ _ o.refused.0, inl o.refused)) o.began)

pub show_parts-returns-in_ok-show_parts-in-Joined : goal.show_parts-returns-in_ok-show_parts-in-Joined
show_parts-returns-in_ok-show_parts-in-Joined g m c =
    let T = described_read c.in-Joined.first.value in
    let U = described_read c.in-Joined.second.value in
    let o = rw c.deref-in-Joined.ensures at c.in_ok-show_parts-in-Joined.ensures in
    let s = o.ok in
    rw c.in-Joined.is (show_map g.S.PartSink.sink_laws U (shown_read both_shown (pair_read T U)) _ _ _ s.more c.show_parts-in-Joined-2.result s.is
    (behind_gave T.reads _ _ (map seen s.more) s.more (λ b x. described_bytes c.in-Joined.first.value b (map seen s.more) x) s.gives)
    (λ w x. shown_gives both_shown (pair_read T U) _ _ (map seen s.more, w) (pair_gives T U _ _ _ _ w s.gives x))
    (λ e x. shown_refused both_shown (pair_read T U) _ _ e (
      pair_second T U (described_laws c.in-Joined.first.value).one_front _ _ _ _ e s.gives x.0,
      inr (_, _, s.gives, x),
    )) (rw c.deref-in-Joined-2.ensures at c.show_parts-in-Joined-2.ensures))

-- ---- enums

pub show_enum-returns : goal.show_enum-returns
show_enum-returns g m c =
    let cases = cases_read c.args.cases.now in
    let k = tag_bytes c.args.size in
    let t = c.in_ok-tag.tag in
    let r = c.in_ok-tag.ensures.ok in
    let added = rw c.tag_bytes.ensures at c.in_ok-add.ensures.ok in
    show_map g.S.PartSink.sink_laws (cases.case t) (chosen_read k cases) _ _ _ (shown.Tag k t ∷ []) c.show_case.result added
    (behind_gave (number_read k true).reads _ _ t (shown.Tag k t ∷ []) (tag_joined k t) r)
    (λ w x. chosen_gives k cases _ _ _ t w r x) (λ e x. chosen_second k cases _ _ _ t e (cases_borrow c.args.cases.now t) r x) c.show_case.ensures

pub show_enum-returns-in_err-tag : goal.show_enum-returns-in_err-tag
show_enum-returns-in_err-tag g m c =
    let cases = cases_read c.args.cases.now in
    let k = tag_bytes c.args.size in
    let o = c.in_err-tag.ensures in
    show_refused (chosen_read k cases) _ _ _ _ c.from_residual.ensures (chosen_first k cases _ _ _ o.refused) (began_none g.S.PartSink.sink_laws _ _)

pub show_enum-returns-in_err-add : goal.show_enum-returns-in_err-add
show_enum-returns-in_err-add g m c =
    let cases = cases_read c.args.cases.now in
    let k = tag_bytes c.args.size in
    let u = c.in_err-add.ensures.err in
    show_refused (chosen_read k cases) _ _ _ _ c.from_residual-in_err-add.ensures (rw u.0 (chosen_memory k cases _ _ _ c.in_ok-tag.ensures.ok))
    (began_took _ _ _ u.1)

pub show_list-returns-in_err-add : goal.show_list-returns-in_err-add
show_list-returns-in_err-add g m c =
    let T = described_read c.args.item.now in
    let s = c.args.scheme in
    let u = c.in_err-add.ensures.err in
    let o = rw c.prealloc_size.ensures at c.in_ok-count.ensures in
    show_refused (list_of s T) _ _ _ _ c.from_residual-in_err-add.ensures
    (rw u.0 (shown_memory (list_shown s) (list_read (scheme_of s) 24 T) (IsLength (scheme_of s) T.prealloc) _ _ _ o.ok)) (began_took _ _ _ u.1)

pub show_option-returns-in_err-tag : goal.show_option-returns-in_err-tag
show_option-returns-in_err-tag g m c =
    let T = described_read c.args.content.now in
    let o = c.in_err-tag.ensures in
    show_refused (shown_read option_shown (option_read 1 T)) _ _ _ _ c.from_residual.ensures (option_first T _ _ _ o.refused)
    (began_none g.S.PartSink.sink_laws _ _)

pub show_option-returns-in_err-add : goal.show_option-returns-in_err-add
show_option-returns-in_err-add g m c =
    let T = described_read c.args.content.now in
    let u = c.in_err-add.ensures.err in
    show_refused (shown_read option_shown (option_read 1 T)) _ _ _ _ c.from_residual-in_err-add.ensures
    (rw u.0 (shown_memory option_shown (option_read 1 T) (number_read 1 true).reads _ _ _ c.in_ok-tag.ensures.ok)) (began_took _ _ _ u.1)

pub show_case-returns-else-named-tag : goal.show_case-returns-else-named-tag
show_case-returns-else-named-tag g m c =
    let T = described_read c.in-Last.content.value in
    rw c.in-Last.is (rw c.invalid_tag_encoding.ensures (record
    { ok = tt; refused = case_nameless c.in-Last.named c.args.tag c.if-named-tag.false T _; began = began_none g.S.PartSink.sink_laws _ _ }))
