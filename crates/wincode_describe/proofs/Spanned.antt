-- One part more, behind others.
use Rattle.std.proofs.Common.{◌≡◌, ◌∙◌, refl, ap, ℕ, zero, suc, ◌+◌, List, [], ◌∷◌, ◌++◌, length, map, arith, length-append, append-nil}
use Rattle.std.specs.Prelude.{slice_get, ◌-◌, ◌<◌, None, Some}
use Rattle.std.proofs.lemmas.Option.{none-some, same_Some, slice_get-get_or}
use Rattle.wincode_describe.specs.Parts.{Part, part_bytes, parts_bytes}
use Rattle.wincode_describe.specs.Lines.{offsets}
use Rattle.wincode_describe.specs.Spans.{AreSpans}
use Rattle.wincode_describe.specs.TypeBytes.{parts_append}
use Rattle.wincode_describe.specs.declared.spans.Span.{Span}

pub spans_more : (at : ℕ) (ps : List Part) (ss : List Span) (p : Part) (s : Span) → AreSpans at ps ss → s.offset ≡ at + length (parts_bytes ps) → s.size
    ≡ length (part_bytes p) → AreSpans at (ps ++ (p ∷ [])) (ss ++ (s ∷ []))
spans_more at [] [] p s h e f = (omega (arith, e), f, tt)
spans_more at [] (t ∷ ss) p s h e f = absurd h
spans_more at (q ∷ ps) [] p s h e f = absurd h
spans_more at (q ∷ ps) (t ∷ ss) p s h e f = (
  h.0,
  h.1,
  spans_more (at + t.size) ps ss p s h.2
      (omega (arith, e, h.1, length-append (part_bytes q) (parts_bytes ps))) f,
)

-- the size of parts and of one more
pub bytes_more : (ps : List Part) (p : Part) → length (parts_bytes (ps ++ (p ∷ []))) ≡ length (parts_bytes ps) + length (part_bytes p)
bytes_more ps p = ap length (parts_append ps (p ∷ [])) ∙ length-append (parts_bytes ps) (part_bytes p ++ [])
    ∙ ap (λ n. length (parts_bytes ps) + n) (ap length (append-nil (part_bytes p)))

-- the last of them ends where the parts end
spans_end : (at : ℕ) (ps : List Part) (ss : List Span) (s : Span) (i : ℕ) → suc i ≡ length ss → AreSpans at ps ss → slice_get ss i ≡ Some s
    → s.offset + s.size ≡ at + length (parts_bytes ps)
spans_end at [] [] s i n h e = absurd (omega (arith, n))
spans_end at [] (t ∷ ss) s i n h e = absurd h
spans_end at (q ∷ ps) [] s i n h e = absurd h
spans_end at (q ∷ []) (t ∷ []) s zero n h e =
    let same = same_Some t s e in
    omega (arith, ap (λ x. x.offset) same, ap (λ x. x.size) same, h.0, h.1, length-append (part_bytes q) [])
spans_end at (q ∷ []) (t ∷ []) s (suc i) n h e = absurd (omega (arith, n))
spans_end at (q ∷ []) (t ∷ u ∷ ss) s i n h e = absurd h.2
spans_end at (q ∷ r ∷ ps) (t ∷ []) s i n h e = absurd h.2
spans_end at (q ∷ r ∷ ps) (t ∷ u ∷ ss) s zero n h e = absurd (omega (arith, n))
spans_end at (q ∷ r ∷ ps) (t ∷ u ∷ ss) s (suc i) n h e =
    omega (arith, h.1, spans_end (at + t.size) (r ∷ ps) (u ∷ ss) s i (omega (arith, n)) h.2 e, length-append (part_bytes q) (parts_bytes (r ∷ ps)))

last_index : (t : Span) (ss : List Span) → suc (length (t ∷ ss) - 1) ≡ length (t ∷ ss)
last_index t ss = omega arith

pub spans_last : (ps : List Part) (ss : List Span) (s : Span) → AreSpans 0 ps ss → slice_get ss (length ss - 1) ≡ Some s
    → s.offset + s.size ≡ length (parts_bytes ps)
spans_last ps [] s h e = absurd (none-some s e)
spans_last ps (t ∷ ss) s h e = omega (arith, spans_end 0 ps (t ∷ ss) s (length (t ∷ ss) - 1) (last_index t ss) h e)

-- and where there is no last, there is no part
last_within : (t : Span) (ss : List Span) → length (t ∷ ss) - 1 < length (t ∷ ss)
last_within t ss = omega arith

pub spans_none : (ps : List Part) (ss : List Span) → AreSpans 0 ps ss → None ≡ slice_get ss (length ss - 1) → length (parts_bytes ps) ≡ 0
spans_none [] ss h e = refl
spans_none (p ∷ ps) [] h e = absurd h
spans_none (p ∷ ps) (t ∷ ss) h e = absurd (none-some _ (e ∙ slice_get-get_or (t ∷ ss) (length (t ∷ ss) - 1) t (last_within t ss)))

-- there are as many as parts
pub spans_count : (at : ℕ) (ps : List Part) (ss : List Span) → AreSpans at ps ss → length ss ≡ length ps
spans_count at [] [] h = refl
spans_count at [] (t ∷ ss) h = absurd h
spans_count at (p ∷ ps) [] h = absurd h
spans_count at (p ∷ ps) (t ∷ ss) h = ap suc (spans_count (at + t.size) ps ss h.2)

-- each begins where its part does
pub spans_offsets : (at : ℕ) (ps : List Part) (ss : List Span) → AreSpans at ps ss → map (λ s. s.offset) ss ≡ offsets at ps
spans_offsets at [] [] h = refl
spans_offsets at [] (t ∷ ss) h = absurd h
spans_offsets at (p ∷ ps) [] h = absurd h
spans_offsets at (p ∷ ps) (t ∷ ss) h =
    let rest = spans_offsets (at + t.size) ps ss h.2 ∙ ap (λ n. offsets (at + n) ps) h.1 in
    ap (λ n. n ∷ map (λ s. s.offset) ss) h.0 ∙ ap (λ ns. at ∷ ns) rest
