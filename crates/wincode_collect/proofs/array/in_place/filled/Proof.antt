-- `filled` makes empty places of the bytes that a `None` leaves free, has them filled, and reads them as an array: core's `clones`, with a source that is passed on for good. Assumes `Logic`.
use mathlib.Core.Path.{◌≡◌, refl, sym, subst, ap, ◌∙◌}
use mathlib.Core.Bool.{Bool, true, false, not}
use Prim.Native.Nat.{ℕ, zero, ◌+◌, ◌*◌, ◌%◌, ◌<◌, ◌^◌, max}
use native.Mathlib.Omega.{arith}
use mathlib.Core.List.{List, [], ◌∷◌, ◌++◌}
use lib.Dec.{T, lit<}
use lib.ListN.{length, replicate, length-replicate}
use seplogic.Ra.Ura.{Ura}
use base.Fraction.{full_share}
use base.Logic.{SProp, ent, sep, emp, wand, wand_i, apply∗, id⊢}
use base.Fml.{ftrue, fat, froom, flft}
use mir.Syntax.{Fn, Ty, Sym, Args, Dict, Callee, Width, w8, w16, w32, w64, w128, named, a_type, a_number, dcons, dnil, ty_int, ty_array, ty_struct}
use mir.Syntax.{ty_enum, tcons, tnil, ttcons, ttnil}
use mir.Syntax.{Body, seq, assign, place, rv_opd, copy, aggregate, int}
use mir.MapTy.{inst_fn}
use mir.Val.{Val, vint, vstruct, vcons, vnil, of_list, bytes, has_ty, WT}
use prog.Memory.{Memory, align, size, up, capped, divides}
use prog.Align.{align-bytes, align_size, dv→}
use prog.Routine.{Routine}
use prog.Wp.{Wp, after_seq, at_return, Env, WpFn, Tables}
use types.Logic.{Logic, sem}
use contract.BorrowLft.{◌⊑◌}
use contract.Lifetimes.{Lfts}
use contract.Monad.{Fun, fact, fact_i}
use contract.Running.{tables, tables_of}
use sound.WpLaws.{fm_of, WpFn-mono}
use types.Kit.{any_q, ‵, raw, ◌⊛◌, some, later, at_ret, ◌$◌, ◌∵◌, !, qed, by, move, keep, drop, use0, use1, use2, use3, split, split3, join, fsplit}
use types.Kit.{fsplit3, fjoin, fpick, feq_i, feq_l, pick, rewrite, suffices, await, done}
use types.Part.{whole, sub, agg}
use types.Match.{live}
use types.Run.{stop, fld, addr, from, load, look, lit, num_lit, align_word, no_more, and_then, of_opd, bin, first, blocks, branches, exec, returns, enter}
use types.ByLocal.{alloc_all, pass_all, free_all, look_at, get, get_in, through, sets, sets_last, lands_as, take_at, give_at, env}
use denote.RattleType.{RattleType, owns}
use denote.Signature.{plain, types_at}
use denote.Steps.{heard, nothing, only, owned, peeks}
use denote.Laws.{Is, shows}
use denote.Array.{Array}
use denote.ArrayMemory.{Array-whole}
use denote.Builtin.{bool}
use denote.Index.{row}
use denote.Memory.{part_at}
use denote.Param.{param, number, bounded, ArrayAt}
use denote.Param.Laws.{param_laws, array_laws}
use denote.Struct.Struct.{Struct, Struct-Makes, as_fields}
use denote.Struct.Declared as Declared
use denote.Struct.Tuple.{Tuple}
use denote.Triple.Call.{calls_at}
use denote.Triple.Clauses.{Clauses, Ended, Lasts, lasts, closing}
use denote.Triple.Entry.{alive}
use denote.Triple.Spec.{Meets, triple_of}
use denote.Triple.Statement.{Contract, Triple}
use denote.Triple.Table.{entered}
use denote.Triple.Walked.{says, Stays, walk_of, ends_at, walked, walk_Meets}
use borrow.Table.OneValue.{part_out}
use Rattle.wincode_collect.specs.Calls.{GaveEach, Stops}
use Rattle.core.specs.Bool.{MatchBool}
use Rattle.core.specs.Result.{MatchResult}
use Rattle.core.specs.Mem.Slots.{SamePlaces, IsFull}
use Rattle.core.specs.Mem.Slots.Ownership.{slots}
use Rattle.wincode_collect.specs.declared.array.in_place.Fill.{Ghosts}
use Rattle.core.specs.declared.result.Result.TheVariants.{Ok, Err}
use Rattle.core.specs.contracts.result.Result as RS
use Rattle.core.specs.contracts.alloc.AllocError as AE
use Rattle.core.proofs.mem.Param.{El, R, el_x, elτ}
use Rattle.core.proofs.once.Made.{ok_of, err_of}
use Rattle.core.proofs.slots.Bodies.{after}
use Rattle.core.proofs.slots.Places.{of_room, to_row, to_room}
use Rattle.core.proofs.slots.Opens.{Sr, el_d, row_val}
use Rattle.wincode_collect.specs.contracts.array.in_place.put_all as callee
use Rattle.wincode_collect.specs.contracts.array.in_place.put_all.Key.{name as #callee}
use Rattle.wincode_collect.proofs.array.in_place.put_all.Met as theirs
use Rattle.wincode_collect.specs.contracts.array.in_place.filled as F
use Rattle.wincode_collect.specs.contracts.array.in_place.filled.Key.{name as #self}
use Rattle.wincode_collect.proofs.array.in_place.filled.Statement as stated
use Rattle.wincode_collect.proofs.array.in_place.filled.Code as code
use base.Fml.{Fml, fsep, fres, fbor}
use types.SemTy.{Body as Borrowed}
use denote.Memory.{mem}
use denote.Ref.{mut_vals, mut_Tells}
use denote.Triple.Call.{calls_at_last}
use denote.Triple.Walked.{gave_ref, Goes-gave_ref}
use types.Kit.{given, learn}
use types.ByLocal.{lands_last, is}
use Rattle.std_alloc.proofs.VecSteps.El.{El as Elem, no_al}
use Rattle.std_alloc.proofs.vec.Blocks.{el, all as places-at}
use Rattle.std_alloc.proofs.vec.Spares.{Row, row_Typed, parts_typed, Row-seen, from_key, into_key, From, at_from, Made, from_goes, from_gives, Into}
use Rattle.std_alloc.proofs.vec.Spares.{at_into, Into-goes, Into-gives}
use Rattle.core.proofs.slots.Slots.from_raw_parts.Met as froms
use Rattle.core.proofs.slots.Slots.into_raw_parts.Met as intos

-- Of an array of alignment a and size s: `Option<ManuallyDrop<_>>` of it is as large as a byte and then it, and as aligned, and it starts at a
abbrev Alike : ℕ → ℕ → Type 0
Alike a s =
    (up (max 1 (max a 1)) (up a (up 1 zero + 1) + s) ≡ up (max 1 (max (max (max a 1) 1) 1)) (max 1 (max (up (max a 1) 1 + up (max a 1) (up a zero + s)) 1)))
    × T (divides (max 1 (max a 1)) (max 1 (max (max (max a 1) 1) 1))) × (0 + up a (up 1 zero + 1) ≡ capped a + 0)

alike : (w : Width) (s : ℕ) → s % bytes w ≡ 0 → Alike (bytes w) s
alike w8 s h = (omega arith, tt, refl)
alike w16 s h = (omega arith, tt, refl)
alike w32 s h = (omega arith, tt, refl)
alike w64 s h = (omega arith, tt, refl)
alike w128 s h = (omega arith, tt, refl)

laid_alike : (τ : Ty) → Alike (align τ) (size τ)
laid_alike τ = subst (λ (a : ℕ). Alike a (size τ)) (sym (align-bytes τ))
    (alike _ (size τ) (subst (λ (a : ℕ). size τ % a ≡ 0) (align-bytes τ) (dv→ (align τ) (size τ) (align_size τ))))

abbrev wraps : Body
wraps = seq (assign (place 19 []) (rv_opd (copy (place 20 [])))) (assign (place 18 []) (aggregate (int w8 0 ∷ copy (place 19 []) ∷ [])))

if_true : (t : Bool) (P Q : Type 0) → T t → MatchBool t P Q → P
if_true true P Q h p = p
if_true false P Q h q = absurd h

if_false : (t : Bool) (P Q : Type 0) → T (not t) → MatchBool t P Q → Q
if_false true P Q h p = absurd h
if_false false P Q h q = q

module _ {M : Type 1} {𝓤 : Ura M} (𝓛 : Logic 𝓤) (ν μ : Sym) (τ : Ty) (n b : ℕ) where
  open 𝓛 use {H}

  abbrev arr : Ty
  arr = ty_array τ n

  abbrev option : Ty
  option = ty_enum ν (ttcons tnil (ttcons (tcons (ty_struct μ (tcons arr tnil)) tnil) ttnil))

  abbrev tagged : Ty
  tagged = ty_struct ν (tcons (ty_int w8) (tcons arr tnil))

  abbrev Back : SProp 𝓤
  Back = wand 𝓤 (H.room arr b (capped (align τ) + 0)) (H.room option b 0)

  -- the room of the array, and the way back
  opened : ent 𝓤 (H.room option b 0) (sep 𝓤 (H.room arr b (capped (align τ) + 0)) Back)
  opened =
      let laid = laid_alike arr in
      let o : ℕ = 0 + up (align τ) (up 1 zero + 1) in
      let tag = ‵ (froom (ty_int w8) b (0 + up 1 zero)) in
      let both : SProp 𝓤 = sep 𝓤 (H.room (ty_int w8) b (0 + up 1 zero)) (sep 𝓤 (H.room arr b o) (emp 𝓤)) in
      let joins = raw (wand 𝓤 both (H.room tagged b 0)) in
      let retypes = raw (wand 𝓤 (H.room tagged b 0) (H.room option b 0)) in
      qed 𝓛 (‵ (froom option b 0) ∷ []) ∵
      use1 𝓛 (‵ (froom tagged b 0) ⊛ retypes) (𝓛.laws.room_as option tagged b 0 laid.0 laid.1) $ split ! $
      use1 𝓛 ((tag ⊛ ‵ (froom arr b o) ⊛ ‵ ftrue) ⊛ joins) (𝓛.laws.room_fields ν (tcons (ty_int w8) (tcons arr tnil)) b 0) $ split ! $ split3 ! $
      move ! (0 ∷ 3 ∷ 4 ∷ []) $ use3 𝓛 (raw (wand 𝓤 (H.room arr b o) (H.room option b 0)))
      (wand_i 𝓤 _ (H.room arr b o) (H.room option b 0)
      (qed 𝓛 ((tag ⊛ joins ⊛ retypes) ∷ ‵ (froom arr b o) ∷ []) ∵ split3 ! $ nothing ! $ move ! (4 ∷ 0 ∷ []) $ join ! $ move ! (1 ∷ 0 ∷ []) $ join ! $
      use2 𝓛 (‵ (froom tagged b 0)) (apply∗ 𝓤 both (H.room tagged b 0)) $ by ! (apply∗ 𝓤 (H.room tagged b 0) (H.room option b 0)))) $
      rewrite ! 0 (λ (k : ℕ). raw (wand 𝓤 (H.room arr b k) (H.room option b 0))) laid.2 refl $ rewrite ! 1 (λ (k : ℕ). ‵ (froom arr b k)) laid.2 refl $
      keep ! (1 ∷ 0 ∷ []) $ done !

module _ (A : Elem) (X : RattleType) (n : ℕ) (g : Ghosts X.Denot A.row.Denot) (d d' : Dict) where
  abbrev E : El
  E = el A

  abbrev Sx : RattleType
  Sx = param 1 X

  abbrev args : Args
  args = bounded (a_type ∷ a_type ∷ a_number ∷ []) (E.row, (X, (number n, tt))) (dcons d (dcons d' dnil))

  abbrev here : Fn
  here = inst_fn args code.function

  abbrev ended : Ended
  ended = F.ended E.row X (number n) g d d'

  abbrev inner : Ended
  inner = callee.ended E.row X g d d'

  abbrev key : Callee
  key = #callee (bounded (a_type ∷ a_type ∷ []) (E.row, (X, tt)) (dcons d (dcons d' dnil)))

  abbrev stayed : Stays ended.signature.params ended.kept
  stayed = (gave_ref (0 ∷ []) tt (plain (λ _. Sx)), tt)

  abbrev Arr : RattleType
  Arr = ArrayAt (R E) (param 2 (number n))

  abbrev Out : RattleType
  Out = RS.the_row Arr AE.the_row

  abbrev Two : RattleType
  Two = Tuple (Sr E ∷ bool ∷ [])

  module _ {M : Type 1} {𝓤 : Ura M} (𝓛 : Logic 𝓤) (at_mem : Memory → SProp 𝓤) (run : Routine → Fun 𝓤) where
    open 𝓛 use {H}

    abbrev Puts : Contract 𝓤
    Puts = triple_of 𝓛 inner.signature (callee.spec E.row X g d d' 𝓛 at_mem run)

    module _ (𝓣 : Tables 𝓤 H) (met : Triple 𝓤 (𝓣.C key) Puts) (from-met : Triple 𝓤 (𝓣.C (from_key A)) (From A 𝓛 at_mem run))
        (into-met : Triple 𝓤 (𝓣.C (into_key A)) (Into A 𝓛 at_mem run)) (fn : n < 2 ^ 64) where
      abbrev held : Clauses 𝓤 ended
      held = F.clauses E.row X (number n) g d d' 𝓛 at_mem run

      abbrev Bound : Type 0
      Bound = (walk_of 𝓛 ended stayed held).Ghost

      abbrev Goes : Bound → Type 1
      Goes y = ent 𝓤 ((walk_of 𝓛 ended stayed held).pre y) (WpFn 𝓤 H 𝓣.C 𝓣.Λ here ((walk_of 𝓛 ended stayed held).args y) ((walk_of 𝓛 ended stayed held).post y))

      abbrev spelled : Bound → Bound
      spelled z = ((z.0.0, z.0.1, z.0.2, z.0.3, (mut_vals z.0.3.0, tt)), z.1)

      abbrev Gone : Bound → X.Denot → Fml
      Gone z w = fsep (fres z.0.3.0.ghost_name (Sx.coded.code w)) (fbor z.0.0.0 (Borrowed (mem Sx) z.0.3.0.ref_ptr.0 z.0.3.0.ref_ptr.1 z.0.3.0.ghost_name))

      abbrev Said : X.Denot → Out.Denot → X.Denot → Type 0
      Said s r w = MatchResult r (λ ys. (length ys ≡ n) × GaveEach g.gives s ys w) (λ _. Stops g.gives s n w)

      exits : (z : Bound) (r : Out.Denot) (v : Val) (w : X.Denot) → Said z.0.3.0.now r w
          → ent 𝓤 (sep 𝓤 (sem 𝓛 (Out.own_val r (v ∷ []))) (sep 𝓤 (sem 𝓛 (Gone z w)) (alive 𝓛 ended.signature z.0.0 z.0.1)))
          ((walk_of 𝓛 ended stayed held).post (spelled z) v)
      exits z r v w said =
          qed 𝓛 (‵ (Out.own_val r (v ∷ [])) ∷ ‵ (Gone z w) ∷ raw (alive 𝓛 ended.signature z.0.0 z.0.1) ∷ []) ∵
          suffices ! _ (ends_at 𝓛 ended stayed held (spelled z) v r (w, tt) (tt, tt)) $ says ! said $ nothing ! $ move ! (2 ∷ 0 ∷ []) $ fjoin ! $ move !
          (2 ∷ 0 ∷ 1 ∷ []) $ done !

      walk : (z : Bound) → Goes (spelled z)
      walk z =
          let κ = z.0.0.0 in let κT = z.0.0.1.0 in let κX = z.0.0.1.1.0 in let κN = z.0.0.1.1.1.0 in
          let q = z.0.1.0 in let qT = z.0.1.1.0 in let qX = z.0.1.1.1.0 in let qN = z.0.1.1.1.1.0 in
          let f = z.0.3.0 in let s : X.Denot = f.now in
          let τ : Ty = elτ E in let o : ℕ = capped (align τ) + 0 in
          let Post : Val → SProp 𝓤 = (walk_of 𝓛 ended stayed held).post (spelled z) in
          qed 𝓛 (((‵ (flft κ q) ⊛ ‵ (flft κT qT) ⊛ ‵ (flft κX qX) ⊛ ‵ (flft κN qN) ⊛ ‵ ftrue) ⊛ ‵
          (owns (types_at ended.signature.params z.0.0) z.0.3 (spelled z).0.4))
          ∷ (raw (fact 𝓤 (κT ⊑ E.row.lives)) ⊛ raw (fact 𝓤 (κX ⊑ X.lives)) ⊛ raw (fact 𝓤 (κN ⊑ [])) ⊛ raw (fact 𝓤 (n * size τ < 2 ^ 63)) ⊛ raw
          (fact 𝓤 E.row.Denot)) ∷ []) ∵
          move ! (1 ∷ []) $ split ! $ heard ! (κT ⊑ E.row.lives)
          (λ inT. split ! $ heard ! (κX ⊑ X.lives) (λ inX. split ! $ drop ! $ split ! $ heard ! (n * size τ < 2 ^ 63) (λ fit. heard ! E.row.Denot (λ x.
          split ! $ split ! $ move ! (1 ∷ []) $ split ! $ move ! (1 ∷ []) $ split3 ! $ move ! (2 ∷ []) $ drop ! $ move ! (4 ∷ []) $ fsplit ! $ move ! (1 ∷ [])
          $ drop ! $ move ! (0 ∷ 4 ∷ 3 ∷ 1 ∷ 2 ∷ []) $
          -- [f; its token; T's; F's; N's]
          enter ! 𝓣.C 𝓣.Λ here (mut_vals f) _ $ alloc_all ! (λ l. pass_all ! refl ((tt, tt), tt) $
          let En : Env 𝓤 H = env here.locals l in let b : ℕ = l 2 in
          let Then = any_q (after_seq 𝓤 H (Wp 𝓤 H 𝓣.C 𝓣.Λ En (after 14 here.body) (at_return 𝓤 H En Post)) (at_return 𝓤 H En Post)) in
          let xs : List (el_x E) = replicate n x in let long : length xs ≡ n = length-replicate n x in
          let fs : List Bool = replicate (length xs) false in let flagged : n ≡ length fs = sym long ∙ sym (length-replicate (length xs) false) in
          let words : WT (row_val b o n) = (tt, (record { fits = fn }, tt)) in
          let y : (From A 𝓛 at_mem run).Ghost = at_from A 𝓛 at_mem run κT qT b o n xs fs in
          sets ! (agg ! (and_then ! (lit ! tt) (no_more !))) refl (tt, (record { fits = lit< tt }, tt)) $
          first ! $ blocks ! $ sets ! (addr ! (from ! (stop !))) refl (tt, tt) $ sets_last ! (bin ! (get ! refl) (align_word !) tt) refl (tt, tt) $
          exec ! 𝓣.C 𝓣.Λ En (after 2 here.body) (at_ret En Post) $
          sets ! (of_opd ! (get ! refl)) refl (tt, tt) $ sets ! (of_opd ! (get ! refl)) refl (tt, tt) $
          take_at ! 2 $ use1 𝓛 (‵ (froom (option 𝓛 _ _ τ n b) b 0)) (𝓛.laws.at_room _ b 0 (live 0 vnil)) $
          use1 𝓛 (‵ (froom (ty_array τ n) b o) ⊛ raw (Back 𝓛 _ _ τ n b)) (opened 𝓛 _ _ τ n b) $ split ! $
          rewrite ! 0 (λ (k : ℕ). ‵ (froom (ty_array τ k) b o)) (sym long) refl $ use1 𝓛 (‵ (places-at A b o xs fs)) (of_room E 𝓛 b xs o) $
          -- [the places; the way back; f; its token; T's; F's; N's]
          first ! $ blocks ! $ sets ! (of_opd ! (get ! refl)) refl (tt, tt) $
          move ! (0 ∷ 4 ∷ []) $ use2 𝓛 (raw ((From A 𝓛 at_mem run).pre y)) (from_goes A 𝓛 at_mem run κT qT b o n xs fs inT (sym long) flagged fn fit) $
          calls_at_last ! (fm_of 𝓤 H 𝓛.laws 𝓣) (From A 𝓛 at_mem run) from-met y
          (and_then ! (get ! refl) (and_then ! (num_lit ! (record { fits = fn })) (no_more !))) (λ v.
          use1 𝓛 (later (some (λ (r : (Row A).Denot). given ((v ≡ row_val b o n) × Made A 𝓛 at_mem run κT qT b o n xs fs r)
          (‵ ((Row A).own_val r (row_val b o n ∷ [])) ⊛ ‵ (flft κT qT)))))
          (from_gives A 𝓛 at_mem run κT qT b o n xs fs v) $ await ! tt $ pick ! (λ new. learn ! (λ made. split ! $
          lands_last ! refl (row_Typed A v b o n made.0 fn) $ exec ! 𝓣.C 𝓣.Λ En (after 5 here.body) (at_ret En Post) $
          sets ! (is ! (of_opd ! (get ! refl)) made.0) refl (tt, words) $ sets ! (addr ! (through ! refl (stop !))) refl (tt, tt) $
          -- [the row; T's token; the way back; f; its token; F's; N's]
          let κs : Lfts 3 = (κ, (κT, (κX, tt))) in
          let y' : Puts.Ghost = ((κs, (q, (qT, (qX, tt))), (z.0.2.0, tt), (new, (f, tt)), (row_val b o n ∷ [], (mut_vals f, tt))), tt) in
          move ! (3 ∷ []) $ nothing ! $ move ! (1 ∷ 0 ∷ []) $ fjoin ! $ move ! (1 ∷ 0 ∷ []) $ fjoin ! $
          nothing ! $ move ! (5 ∷ 0 ∷ []) $ join ! $ move ! (2 ∷ 0 ∷ []) $ join ! $ move ! (3 ∷ 0 ∷ []) $ join ! $ join ! $
          nothing ! $ use0 𝓛 (raw (fact 𝓤 (κX ⊑ X.lives))) (fact_i 𝓤 (κX ⊑ X.lives) (emp 𝓤) inX) $ join ! $ use0 𝓛 (raw (fact 𝓤 (κT ⊑ E.row.lives)))
          (fact_i 𝓤 (κT ⊑ E.row.lives) (emp 𝓤) inT) $ join ! $
          move ! (1 ∷ 0 ∷ []) $ join ! $ use1 𝓛 (raw (Puts.pre y')) (id⊢ 𝓤 (Puts.pre y')) $
          calls_at ! (fm_of 𝓤 H 𝓛.laws 𝓣) Puts met y' (and_then ! (get ! refl) (and_then ! (get ! refl) (no_more !))) (λ got.
          let Told : Two.Denot → X.Denot → Type 0 = λ r w. MatchBool r.1 (IsFull r.0 × GaveEach g.gives s r.0.items w) (Stops g.gives s new.len w) in
          use1 𝓛 (later (some (λ (r : Two.Denot). ((‵ (flft κ q) ⊛ ‵ (flft κT qT) ⊛ ‵ (flft κX qX) ⊛ ‵ ftrue) ⊛ ‵ (Two.own_val r (got ∷ [])))
          ⊛ some (λ (ws : Lasts inner κs (new, (f, tt))). ‵ (lasts inner κs (new, (f, tt)) ws) ⊛ raw (fact 𝓤 (SamePlaces new r.0)) ⊛ raw
          (fact 𝓤 (Told r ws.1.0)))))) (id⊢ 𝓤 (Puts.post y' got)) $
          await ! tt $ pick ! (λ r. split ! $ move ! (1 ∷ []) $ pick ! (λ ws. split3 ! $ fsplit ! $ drop ! $ fsplit ! $ move ! (1 ∷ []) $ drop ! $
          move ! (1 ∷ []) $ heard ! (SamePlaces new r.0) (λ same. move ! (1 ∷ []) $ heard ! (Told r ws.1.0) (λ told.
          let back : el_d E = r.0 in let ys : List (el_x E) = back.items in let w : X.Denot = ws.1.0 in
          let all : length ys ≡ n = sym back.ok.0 ∙ same.count ∙ made.1.1 in let flags : length back.filled ≡ length ys = sym back.ok.1 ∙ back.ok.0 in
          -- [the tokens and the result; f's last value; the way back; N's]
          move ! (1 ∷ []) $ split ! $ split ! $ move ! (1 ∷ []) $ split3 ! $ move ! (2 ∷ []) $ drop ! $
          move ! (3 ∷ []) $ fpick ! (λ vss. fsplit ! $ feq_l ! (λ e. fsplit3 ! $
          Row-seen A ! back vss.0 (λ b' o' at' e₀ fl. move ! (1 ∷ []) $ feq_l ! (λ e₁. move ! (1 ∷ []) $ drop ! $
          -- [the row; T's token; F's; f's; f's last value; the way back; N's]
          let yi : (Into A 𝓛 at_mem run).Ghost = at_into A 𝓛 at_mem run κT qT back b' o' in
          lands_as ! (ap only e ∙ (λ i. vstruct (of_list (e₀ i ++ (e₁ i ++ []))))) refl (tt, ((tt, (record { fits = fl }, tt)), (tt, tt))) $
          sets ! (of_opd ! (get_in ! (fld ! refl (stop !)) (sub ! 0 refl (whole !)))) refl (tt, (tt, (record { fits = fl }, tt))) $
          sets ! (of_opd ! (get_in ! (fld ! refl (stop !)) (sub ! 1 refl (whole !)))) refl (tt, tt) $
          first ! $ blocks ! $ sets ! (of_opd ! (get ! refl)) refl (tt, (tt, (record { fits = fl }, tt))) $
          use2 𝓛 (raw ((Into A 𝓛 at_mem run).pre yi)) (Into-goes A 𝓛 at_mem run κT qT back b' o' inT) $
          calls_at_last ! (fm_of 𝓤 H 𝓛.laws 𝓣) (Into A 𝓛 at_mem run) into-met yi (and_then ! (get ! refl) (no_more !)) (λ parts.
          use1 𝓛 (later (given (parts ≡ row_val b' o' back.len) (‵ (places-at A b' o' ys back.filled) ⊛ ‵ (flft κT qT))))
          (Into-gives A 𝓛 at_mem run κT qT back b' o' parts at') $ await ! tt $ learn ! (λ ev. split ! $
          lands_last ! refl (parts_typed parts b' o' back.len ev fl) $ exec ! 𝓣.C 𝓣.Λ En (after 11 here.body) (at_ret En Post) $
          sets ! (is ! (of_opd ! (get ! refl)) ev) refl (tt, (tt, (record { fits = fl }, tt))) $ sets ! (of_opd ! (get ! refl)) refl (tt, tt) $
          rewrite ! 0 (λ p. ‵ (slots (R E) p ys back.filled)) (sym at' ∙ same.start ∙ made.1.0) refl $
          nothing ! $ move ! (7 ∷ 0 ∷ []) $ join ! $ move ! (3 ∷ 0 ∷ []) $ join ! $ move ! (2 ∷ 0 ∷ []) $ join ! $ move ! (2 ∷ 0 ∷ []) $ join ! $ move !
          (1 ∷ 0 ∷ 3 ∷ []) $
          -- [the places; the tokens; the way back; f's last value]
          first ! $ branches ! (get ! refl)
          (λ full. let gave = if_true r.1 _ _ full told in
          use1 𝓛 (‵ (row (R E) full_share ys b o)) (to_row E 𝓛 b ys back.filled o flags
          (λ k lt. gave.0 k (omega arith) (subst (λ (m : ℕ). k < m) (sym back.ok.1) lt))) $
          feq_i ! ℕ (length ys) n all $ fjoin ! $ use1 𝓛 (‵ (part_at (Array (R E) n) full_share ys b o)) (Array-whole 𝓛 (R E) full_share n ys b o) $
          use1 𝓛 (some (λ (v : Val). ‵ (fat full_share (ty_array τ n) b o v) ⊛ ‵ ((Array (R E) n).own_val ys (v ∷ []))))
          (part_out 𝓛 (Array (R E) n) refl full_share ys b o) $ pick ! (λ v. split ! $ move ! (1 ∷ []) $
          peeks ! (Array (R E) n) (Is (Array (R E) n)) (shows 𝓛 (Array (R E) n)) ys (v ∷ []) (λ is.
          let good : T (has_ty (ty_array τ n) v) × WT v = (((array_laws (R E) (param_laws 0 E.row E.laws) n).lawful 𝓛).typed ys (v ∷ []) is).0 in
          let out : Val = live 0 (vcons v vnil) in
          let typed = as_fields (ty_int w8 ∷ ty_array τ n ∷ []) (vint w8 0 ∷ v ∷ []) ((tt, record { fits = lit< tt }), (good, tt)) in
          first ! $ blocks ! $ sets ! (of_opd ! (get ! refl)) refl (tt, tt) $ sets ! (of_opd ! (get ! refl)) refl (tt, tt) $
          sets_last ! (of_opd ! (load ! (through ! refl (stop !)) (look ! 1 refl))) refl good $ exec ! 𝓣.C 𝓣.Λ En wraps Then $
          sets ! (of_opd ! (get ! refl)) refl good $ sets_last ! (agg ! (and_then ! (lit ! tt) (and_then ! (get ! refl) (no_more !)))) refl typed $
          exec ! 𝓣.C 𝓣.Λ En (after 14 here.body) (at_ret En Post) $ sets ! (of_opd ! (get ! refl)) refl typed $
          use1 𝓛 (‵ (Out.own_val (Ok ys) (out ∷ []))) (ok_of 𝓛 Arr AE.the_row ys v) $
          move ! (1 ∷ []) $ use1 𝓛 (‵ (froom (ty_array τ n) b o)) (𝓛.laws.at_room (ty_array τ n) b o v) $ move ! (0 ∷ 3 ∷ []) $
          use2 𝓛 (‵ (froom (option 𝓛 _ _ τ n b) b 0)) (apply∗ 𝓤 (H.room (ty_array τ n) b o) _) $ give_at ! 2 $
          returns ! (look_at ! 0 refl) $ free_all ! refl $ move ! (0 ∷ 2 ∷ []) $ by ! (exits z (Ok ys) out w (all, gave.1)))))
          (λ short. let v : Val = vstruct vnil in let out : Val = live 1 (vcons v vnil) in let typed : WT out = (record { fits = lit< tt }, (tt, tt)) in
          use1 𝓛 (‵ (froom (ty_array τ (length ys)) b o)) (to_room E 𝓛 b ys back.filled o flags) $ rewrite ! 0 (λ (k : ℕ). ‵ (froom (ty_array τ k) b o))
          all refl $
          move ! (0 ∷ 2 ∷ []) $ use2 𝓛 (‵ (froom (option 𝓛 _ _ τ n b) b 0)) (apply∗ 𝓤 (H.room (ty_array τ n) b o) _) $ give_at ! 2 $
          sets ! (agg ! (no_more !)) refl (tt, tt) $ sets_last ! (agg ! (and_then ! (lit ! tt) (and_then ! (get ! refl) (no_more !)))) refl (tt, typed) $
          exec ! 𝓣.C 𝓣.Λ En (after 14 here.body) (at_ret En Post) $ sets ! (of_opd ! (get ! refl)) refl (tt, typed) $
          owned ! (Struct (Declared.shape AE.the_type)) (Is (Struct (Declared.shape AE.the_type))) (Struct-Makes 𝓛 (Declared.shape AE.the_type) tt) tt (v ∷ [])
          (tt, (refl, tt)) $
          use1 𝓛 (‵ (Out.own_val (Err (record {})) (out ∷ []))) (err_of 𝓛 Arr AE.the_row (record {}) v) $
          returns ! (look_at ! 0 refl) $ free_all ! refl $ move ! (0 ∷ 2 ∷ []) $ by !
          (exits z (Err (record {})) out w (subst (λ (k : ℕ). Stops g.gives s k w) made.1.1 (if_false r.1 _ _ short told)))))))))))))))))))))))

      meets : Meets 𝓛 ended.signature (WpFn 𝓤 H 𝓣.C 𝓣.Λ here) (closing 𝓛 ended held)
      meets =
          walk_Meets 𝓛 ended stayed (Goes-gave_ref 𝓛 4 0 tt (plain (λ _. Sx)), tt) held
          (WpFn 𝓤 H 𝓣.C 𝓣.Λ here) (WpFn-mono 𝓤 H 𝓛.laws 𝓣 here)
          (walked 𝓛 ended stayed held (WpFn 𝓤 H 𝓣.C 𝓣.Λ here) (λ κs. (mut_vals, tt)) (λ κs. (mut_Tells (named 0) κs.0 Sx, tt))
          (λ κs qs bounds a h are. walk ((κs, qs, bounds, a, (mut_vals a.0, tt)), h)))

pub filled_spec : {M : Type 1} → stated.statement M
unfolding tables_of
filled_spec 𝓤 𝓛 𝓜 𝓡 wired X Z n L LZ fn g d d' met md =
    let A : Elem = record { row = X; laws = L; al = no_al } in
    let 𝓣 : Tables 𝓤 𝓛.H = tables_of 𝓤 𝓛.H 𝓜 (tables 𝓤 𝓛.H 𝓜 𝓡 𝓡.env) in
    entered 𝓤 𝓛.H (triple_of 𝓛 (ended A Z n g d d').signature (F.spec X Z (number n) g d d' 𝓛 𝓜.mem 𝓡.returns)) 𝓣.C 𝓣.Λ (#self (args A Z n g d d'))
    (here A Z n g d d') (code.unfolded 𝓤 𝓛.H 𝓜 𝓡 wired (X, (Z, (number n, tt))) d d')
    (meets A Z n g d d' 𝓛 𝓜.mem 𝓡.returns 𝓣 (theirs.met 𝓤 𝓛 𝓜 𝓡 (code.calls-wincode_collect::array::in_place::put_all 𝓡.env wired) X Z L LZ g d d' met md)
    (froms.met 𝓤 𝓛 𝓜 𝓡 (code.calls-core::slots::Slots::from_raw_parts 𝓡.env wired) X L)
    (intos.met 𝓤 𝓛 𝓜 𝓡 (code.calls-core::slots::Slots::into_raw_parts 𝓡.env wired) X L) fn.fits)
