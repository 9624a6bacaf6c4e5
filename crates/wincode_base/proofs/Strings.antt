-- What characters and texts read and write.
use Rattle.std.proofs.Common.{◌≡◌, ◌∙◌, sym, ap, subst, ℕ, ◌+◌, ◌-◌, ◌<◌, ◌≤◌, ◌⊎◌, inl, inr, Bool, true, false, cond, nat_lt, ◌/◌, ◌^◌, ◌&&◌, List}
use Rattle.std.proofs.Common.{[], ◌∷◌, ◌++◌, length, take, refl, arith, append_assoc, append-nil, length-append, length-take, IsTrue}
use Rattle.std.specs.Prelude.{IsUtf8, encode_utf8}
use Rattle.std.specs.Char.{IsScalar, len_utf8}
use Rattle.std.proofs.Math.Seq.{take-append_seam}
use Rattle.std.proofs.Math.Utf8.{scalar, scalars, scalar_cases, encode, next}
use Rattle.std.proofs.lemmas.Bool.{lt-ltb, le-ltb, ltb-true, ltb-false}
use Rattle.std.proofs.lemmas.Str.{encode_ascii, IsUtf8-encode, cons_from_encodes}
use Rattle.wincode_io.specs.Readers.{ReaderState, Stays, StaysSound, Loses, Takes, IsShort, IsShown, IsPeeked, ReadRefusedFor, BytesReadRefused}
use Rattle.wincode_io.specs.Writers.{WriterState, WriterLaws, Added, BytesWriteRefused}
use Rattle.wincode_base.specs.Grammar.{WriteGrammar, WriteLaws}
use Rattle.wincode_base.specs.ListLaws.{none_spared}
use Rattle.wincode_base.specs.Lengths.{IsLength, HasEncoding, bincode, length_write, encoding_len, LengthWriteRefused, preallocation_limit}
use Rattle.wincode_base.specs.LengthLaws.{bincode_encoding, bincode_encoding_is, bincode_laws, length_one, length_write_laws}
use Rattle.wincode_base.specs.LeafLaws.{same_front}
use Rattle.wincode_io.specs.Numbers.{le}
use Rattle.wincode_io.specs.NumberLaws.{length-le}
use Rattle.wincode_base.specs.Pairs.{pair_write}
use Rattle.wincode_base.specs.Strings.{char_read, announced, CharReadRefusedFor, CharReadRefused, str_read, str_write, StrWriteRefused, IsStrBytes}
use Rattle.wincode_base.specs.Strings.{StrBytesReadRefused, char_write}
use Rattle.wincode_base.specs.StringLaws.{str_then, then_encoding}
use Rattle.wincode_base.specs.Sequences.{Then, refuses_map, then_first, then_second, gives_map, then_gives}
use Rattle.wincode_base.specs.WriteSequences as sequence
use Rattle.wincode_base.specs.Outcomes.{Gives, ReadRefused, Accepts, ReadDue, ReaderDue, PieceReadRefused, Wrote, WriteRefused, Stopped, PieceWriteRefused}
use Rattle.wincode_base.specs.declared.error.WriteError.{WriteError}
use Rattle.wincode_base.specs.declared.error.WriteError.TheVariants as writing
use Rattle.wincode_io.specs.declared.error.WriteError.{WriteError as IoWriteError}
use Rattle.wincode_io.specs.declared.error.WriteError.TheVariants as writer
use Rattle.wincode_base.specs.declared.meta.TypeMeta.TheVariants.{Dynamic}
use Rattle.wincode_base.specs.FixedSizeLaws.{takes_joins}
use Rattle.std.specs.declared.str.Utf8Error.{Utf8Error}
use Rattle.wincode_base.specs.declared.error.ReadError.{ReadError}
use Rattle.wincode_base.specs.declared.error.ReadError.TheVariants as reading
use Rattle.wincode_io.specs.declared.error.ReadError.{ReadError as IoReadError}
use Rattle.wincode_io.specs.declared.error.ReadError.TheVariants as reader
use Rattle.wincode_io.specs.Texts.{IsUtf8Fault}
use Rattle.wincode_io.specs.PlaceLaws.{unsteady, kept_trans, known_kept, stays_trans, sound_trans, tells_on, stays_onward, loses_onward, onward_trans}

-- ---- characters

-- the first byte of a character, which announces all of its bytes
record Led (c : ℕ) : Type 0 where
  lead : ℕ
  more : List ℕ
  is : encode_utf8 c ≡ lead ∷ more
  size : announced lead ≡ length (encode_utf8 c)

taken : (y : Bool) (a b : List ℕ) → y ≡ true → cond y a b ≡ a
taken y a b e = ap (λ t. cond t a b) e

passed : (y : Bool) (a b : List ℕ) → y ≡ false → cond y a b ≡ b
passed y a b e = ap (λ t. cond t a b) e

order : (m n : ℕ) → (m < n) ⊎ (n ≤ m)
order m n = by (nat_lt m n) refl
  where
    by : (y : Bool) → nat_lt m n ≡ y → (m < n) ⊎ (n ≤ m)
    by true e = inl (ltb-true m n e)
    by false e = inr (ltb-false m n e)

two : (c : ℕ) → 128 ≤ c → c < 2048 → encode c ≡ (192 + c / 64) ∷ next c ∷ []
unfolding encode
two c l h = passed (nat_lt c 128) _ _ (le-ltb c 128 l) ∙ taken (nat_lt c 2048) _ _ (lt-ltb c 2048 h)

three : (c : ℕ) → 2048 ≤ c → c < 65536 → encode c ≡ (224 + c / 4096) ∷ next (c / 64) ∷ next c ∷ []
unfolding encode
three c l h = passed (nat_lt c 128) _ _ (le-ltb c 128 (omega arith)) ∙ passed (nat_lt c 2048) _ _ (le-ltb c 2048 l)
    ∙ taken (nat_lt c 65536) _ _ (lt-ltb c 65536 h)

four : (c : ℕ) → 65536 ≤ c → encode c ≡ (240 + c / 262144) ∷ next (c / 4096) ∷ next (c / 64) ∷ next c ∷ []
unfolding encode
four c l = passed (nat_lt c 128) _ _ (le-ltb c 128 (omega arith)) ∙ passed (nat_lt c 2048) _ _ (le-ltb c 2048 (omega arith))
    ∙ passed (nat_lt c 65536) _ _ (le-ltb c 65536 l)

announced_two : (a : ℕ) → 194 ≤ a → a < 224 → announced a ≡ 2
announced_two a l h = grind arith

announced_three : (a : ℕ) → 224 ≤ a → a < 240 → announced a ≡ 3
announced_three a l h = grind arith

announced_four : (a : ℕ) → 240 ≤ a → a < 245 → announced a ≡ 4
announced_four a l h = grind arith

announced_one : (a : ℕ) → a < 128 → announced a ≡ 1
announced_one a h = grind arith

below : (c : ℕ) → (c < 55296) ⊎ ((57344 ≤ c) × (c < 1114112)) → c < 1114112
below c (inl h) = omega arith
below c (inr h) = h.1

led_by : (c : ℕ) → IsScalar c → Led c
led_by c s = by (order c 128) (order c 2048) (order c 65536)
  where
    by : (c < 128) ⊎ (128 ≤ c) → (c < 2048) ⊎ (2048 ≤ c) → (c < 65536) ⊎ (65536 ≤ c) → Led c
    by (inl h) _ _ = let e = encode_ascii c h in record { lead = c; more = []; is = e; size = announced_one c h ∙ sym (ap length e) }
    by (inr l) (inl h) _ = let e = two c l h in record {
      lead = 192 + c / 64;
      more = next c ∷ [];
      is = e;
      size =
          announced_two (192 + c / 64) (omega arith) (omega arith) ∙ sym (ap length e);
    }
    by (inr _) (inr l) (inl h) = let e = three c l h in record {
      lead = 224 + c / 4096;
      more = next (c / 64) ∷ next c ∷ [];
      is = e;
      size =
          announced_three (224 + c / 4096) (omega arith) (omega arith) ∙ sym (ap length e);
    }
    by (inr _) (inr _) (inr l) =
        let e = four c l in
        let top = below c (scalar_cases c s) in
        record {
          lead = 240 + c / 262144;
          more = next (c / 4096) ∷ next (c / 64) ∷ next c ∷ [];
          is = e;
          size =
              announced_four (240 + c / 262144) (omega arith) (omega arith) ∙ sym (ap length e);
        }

-- where a character is in front, its first byte announces it
same_lead : (c : ℕ) (s : IsScalar c) (x more rest : List ℕ) (lead : ℕ) → rest ≡ encode_utf8 c ++ x → rest ≡ lead ∷ more → announced lead
    ≡ length (encode_utf8 c)
same_lead c s x more rest lead e p =
    let l = led_by c s in
    let fronts : lead ∷ more ≡ l.lead ∷ (l.more ++ x) = sym p ∙ e ∙ ap (λ t. t ++ x) l.is in
    let same : lead ≡ l.lead = cc in
    ap announced same ∙ l.size

record Announced (old : ReaderState) (lead : ℕ) : Type 0 where
  some : 0 < announced lead
  within : announced lead ≤ length old.rest
  is_utf8 : IsUtf8 (take (announced lead) old.rest)

accepts_lead : (old : ReaderState) (lead : ℕ) → Accepts char_read.reads old → IsPeeked old lead → Announced old lead
accepts_lead old lead a p =
    let f = a.front.found in
    let c = a.front.value in
    let whole : old.rest ≡ encode_utf8 c ++ a.front.rest = f.joins ∙ ap (λ t. t ++ a.front.rest) f.is_read.1 in
    let shown = p a.is_known in
    let size = same_lead c f.is_read.0 a.front.rest shown.0 old.rest lead whole shown.1 in
    let l = led_by c f.is_read.0 in
    let front : take (announced lead) old.rest ≡ encode_utf8 c =
    ap (λ n. take n old.rest) size ∙ ap (take (length (encode_utf8 c))) whole ∙ take-append_seam (encode_utf8 c) a.front.rest in
    record {
      some = omega (arith, size, ap length l.is);
      within = omega (arith, size, ap length whole, length-append (encode_utf8 c) a.front.rest);
      is_utf8 = subst IsUtf8 (sym front) (IsUtf8-encode c f.is_read.0);
    }

accepts_one : (old : ReaderState) → Accepts char_read.reads old → 1 ≤ length old.rest
accepts_one old a =
    let f = a.front.found in
    let l = led_by a.front.value f.is_read.0 in
    omega (arith, ap length (f.joins ∙ ap (λ t. t ++ a.front.rest) (f.is_read.1 ∙ l.is)))

short_due : (n : ℕ) (old new : ReaderState) (e : IoReadError) → (Accepts char_read.reads old → n ≤ length old.rest) → ReadRefusedFor (IsShort n old) ⊥ n new e
    → ReaderDue (Accepts char_read.reads old) 0 new e
short_due n old new (reader.ReadSizeLimit m) enough d = λ a. let h = d.0 a.is_known in let k = enough a in absurd (omega arith)
short_due n old new reader.UnsupportedZeroCopy enough d = absurd d
short_due n old new reader.OutOfMemory enough d = unsteady new d
short_due n old new (reader.Io e) enough d = d

char_due : (old new : ReaderState) (e : ReadError) → CharReadRefusedFor old new e → ReadDue (Accepts char_read.reads old) 0 true new e
char_due old new (reading.Io e) (inl d) = short_due 1 old new e (accepts_one old) d
char_due old new (reading.Io e) (inr d) = short_due (announced d.0) old new e (λ a. (accepts_lead old d.0 a d.1).within) d.2
char_due old new (reading.InvalidCharLead lead) d = λ a. let h = (accepts_lead old lead a d.0).some in let none = d.1 in absurd (omega arith)
char_due old new (reading.InvalidUtf8Encoding e) d = λ a. (d.2 a.is_known).1.0 (accepts_lead old d.0 a d.1).is_utf8
char_due old new _ d = absurd d

-- a character was refused for its reason
pub char_refuses : (old new : ReaderState) (e : ReadError) → CharReadRefused old new e → ReadRefused char_read.reads 0 true old new e
char_refuses old new e r = record {
  kept = r.0.kept;
  left = λ t. record { front = []; joins = sym (r.0.rest t) };
  place = stays_onward old new r.0;
  device = r.1;
  due = char_due old new e r.2;
}

-- no byte is left
pub char_denied : (old new : ReaderState) (e : ReadError) → PieceReadRefused 1 old new e → CharReadRefused old new e
char_denied old new (reading.Io e) d = (d.0, d.1, inl d.2)
char_denied old new _ d = absurd d

short_before : (n : ℕ) {old mid : ReaderState} → Stays old mid → (new : ReaderState) (e : IoReadError) → ReadRefusedFor (IsShort n mid) ⊥ n new e
    → ReadRefusedFor (IsShort n old) ⊥ n new e
short_before n {old} {mid} s new (reader.ReadSizeLimit m) d = (λ told. subst (λ r. length r < n) (s.rest told) (d.0 (known_kept s.kept told)), d.1)
short_before n s new reader.UnsupportedZeroCopy d = d
short_before n s new reader.OutOfMemory d = d
short_before n s new (reader.Io e) d = d

-- too few are left of the bytes that the first announces
pub char_cut : (old mid new : ReaderState) (lead n : ℕ) (e : IoReadError) → n ≡ announced lead → StaysSound old mid → IsPeeked old lead
    → BytesReadRefused (IsShort n mid) ⊥ n mid new e → CharReadRefused old new (reading.Io e)
char_cut old mid new lead n e is s p d =
    let P : ℕ → Type 0 = λ k. ReadRefusedFor (IsShort k old) ⊥ k new e in
    (stays_trans s.0 d.0, tells_on old mid new e s.1 d.1, inr (lead, p, subst P is (short_before n s.0 new e d.2)))

shown_before : (n : ℕ) {old mid : ReaderState} (bytes : List ℕ) → Stays old mid → IsShown n mid bytes → IsTrue old.is_known → bytes ≡ take n old.rest
shown_before n bytes s shown told = shown.1 (known_kept s.kept told) ∙ ap (take n) (s.rest told)

take_within : (n : ℕ) (xs bytes : List ℕ) → bytes ≡ take n xs → length bytes ≡ n → n ≤ length xs
take_within n xs bytes e size = omega (arith, ap length e, length-take n xs)

-- the bytes that the first announces are not UTF-8
pub char_not : (old mid new : ReaderState) (lead n : ℕ) (bytes : List ℕ) (u : Utf8Error) → n ≡ announced lead → StaysSound old mid → IsPeeked old lead
    → StaysSound mid new → length bytes ≡ n → IsShown n mid bytes → IsUtf8Fault bytes u
    → CharReadRefused old new (reading.InvalidUtf8Encoding u)
char_not old mid new lead n bytes u is s p t size shown not =
    let P : ℕ → Type 0 = λ k. (k ≤ length old.rest) × IsUtf8Fault (take k old.rest) u in
    let Q : List ℕ → Type 0 = λ b. IsUtf8Fault b u in
    (stays_trans s.0 t.0, sound_trans s.1 t.1, (lead, p, λ told. let e = shown_before n bytes s.0 shown told in subst P is (take_within n old.rest bytes e size, subst Q e not)))

first_true : (a b : Bool) → (a && b) ≡ true → a ≡ true
first_true true b e = refl
first_true false b e = e

scalar_of : (bytes more : List ℕ) (c : ℕ) → IsUtf8 bytes → bytes ≡ encode_utf8 c ++ more → IsScalar c
scalar_of bytes more c u e =
    let spelt = cons_from_encodes u.0 more c (u.1.1 ∙ e) in
    let all : (scalar c && scalars spelt.0) ≡ true = ap scalars (sym spelt.1) ∙ u.1.0 in
    first_true (scalar c) (scalars spelt.0) all

none_more : (xs ys : List ℕ) → length (xs ++ ys) ≡ length xs → xs ++ ys ≡ xs
none_more xs [] e = append-nil xs
none_more xs (y ∷ ys) e = absurd (omega (arith, e, length-append xs (y ∷ ys)))

-- a character was shown, and then consumed
pub char_gives : (old mid shown_by new : ReaderState) (lead n c : ℕ) (bytes more : List ℕ) → n ≡ announced lead → StaysSound old mid → IsPeeked old lead
    → StaysSound mid shown_by → length bytes ≡ n → IsShown n mid bytes → IsUtf8 bytes
    → bytes ≡ encode_utf8 c ++ more → Loses n shown_by new → Gives char_read.reads old new c
char_gives old mid shown_by new lead n c bytes more is s p t size shown u e l =
    let two = stays_trans s.0 t.0 in
    let sc = scalar_of bytes more c u e in
    record {
      kept = kept_trans two.kept l.kept;
      sound = sound_trans s.1 (sound_trans t.1 l.sound);
      found = λ told.
          let front = shown_before n bytes s.0 shown told in
          let rest : shown_by.rest ≡ old.rest = two.rest told in
          let split : old.rest ≡ bytes ++ new.rest = sym rest ∙ (l.rest (known_kept two.kept told)).1 ∙ ap (λ r. take n r ++ new.rest) rest
          ∙ ap (λ b. b ++ new.rest) (sym front) in
          let whole : old.rest ≡ encode_utf8 c ++ (more ++ new.rest) = split ∙ ap (λ b. b ++ new.rest) e ∙ append_assoc (encode_utf8 c) more new.rest in
          let peeked = p told in
          let count = same_lead c sc (more ++ new.rest) peeked.0 old.rest lead whole peeked.1 in
          let only : bytes ≡ encode_utf8 c = e ∙ none_more (encode_utf8 c) more (ap length (sym e) ∙ size ∙ is ∙ count) in
          record { encoding = bytes; is_read = (sc, only); joins = split };
      place = λ told.
          let rest = two.rest told in let t = known_kept two.kept told in let lost = l.rest t in
          onward_trans old shown_by new [] (take n shown_by.rest) (sym rest) lost.1 (stays_onward old shown_by two told) (loses_onward n shown_by new l t);
    }

-- ---- texts

body_short : (n : ℕ) (old : ReaderState) → IsShort n old → Accepts (IsStrBytes n) old → ⊥
body_short n old short a =
    let f = a.front.found in
    absurd (omega (arith, short a.is_known, ap length f.is_read.2, f.is_read.0, ap length f.joins, length-append f.encoding a.front.rest))

body_due : (unlent : Type 0) (n borrow : ℕ) (old new : ReaderState) (e : IoReadError) → (unlent → new.lends < borrow)
    → ReadRefusedFor (IsShort n old) unlent n new e → ReaderDue (Accepts (IsStrBytes n) old) borrow new e
body_due unlent n borrow old new (reader.ReadSizeLimit m) lent d = λ a. body_short n old d.0 a
body_due unlent n borrow old new reader.UnsupportedZeroCopy lent d = λ a. lent d
body_due unlent n borrow old new reader.OutOfMemory lent d = unsteady new d
body_due unlent n borrow old new (reader.Io e) lent d = d

body_not : (n : ℕ) (old new : ReaderState) (bytes : List ℕ) → Takes n old new bytes → (IsUtf8 bytes → ⊥) → Accepts (IsStrBytes n) old → ⊥
body_not n old new bytes t not a =
    let f = a.front.found in
    let same = same_front bytes f.encoding new.rest a.front.rest (t.size ∙ sym (ap length f.is_read.2 ∙ f.is_read.0))
    (sym (takes_joins t a.is_known) ∙ f.joins) in
    not (subst IsUtf8 (sym (same ∙ f.is_read.2)) f.is_read.1)

-- the bytes of a text were refused for their reason
pub body_refuses : (unlent owned : Type 0) (n borrow : ℕ) (takes_no_memory : Bool) (old new : ReaderState) (e : ReadError) → (unlent → new.lends < borrow)
    → (owned → takes_no_memory ≡ false)
    → StrBytesReadRefused unlent owned n old new e → ReadRefused (IsStrBytes n) borrow takes_no_memory old new e
body_refuses unlent owned n borrow takes_no_memory old new (reading.Io e) lent builtin d = record {
  kept = d.0.kept;
  left = λ t. record { front = []; joins = sym (d.0.rest t) };
  place = stays_onward old new d.0;
  device = d.1;
  due = body_due unlent n borrow old new e lent d.2;
}
body_refuses unlent owned n borrow takes_no_memory old new reading.OutOfMemory lent builtin d = record {
  kept = d.1.0.kept;
  left = λ t. record { front = []; joins = sym (d.1.0.rest t) };
  place = stays_onward old new d.1.0;
  device = d.1.1;
  due = subst (λ s. (new.never_fails && s) ≡ false) (sym (builtin d.0)) (none_spared new.never_fails);
}
body_refuses unlent owned n borrow takes_no_memory old new (reading.InvalidUtf8Encoding e) lent builtin d = record {
  kept = d.1.loses.kept;
  left = λ t. record { front = d.0; joins = takes_joins d.1 t };
  place = loses_onward n old new d.1.loses;
  device = d.1.loses.sound;
  due = body_not n old new d.0 d.1 d.2.0;
}
body_refuses unlent owned n borrow takes_no_memory old new _ lent builtin d = absurd d

-- the bytes of a lent text were refused for their reason
pub borrow_refuses : (n : ℕ) (old new : ReaderState) (e : IoReadError) → BytesReadRefused (IsShort n old) (old.lends < 1) n old new e
    → ReadRefused (IsStrBytes n) 1 true old new (reading.Io e)
borrow_refuses n old new e d = body_refuses (old.lends < 1) ⊥ n 1 true old new (reading.Io e) (λ x. subst (λ k. k < 1) (sym d.0.kept.lends) x) (λ x. absurd x) d

-- the bytes of a text were taken
pub body_gives : (n : ℕ) (old new : ReaderState) (bytes v : List ℕ) → Takes n old new bytes → v ≡ bytes → IsUtf8 v → Gives (IsStrBytes n) old new v
body_gives n old new bytes v t e u = record {
  kept = t.loses.kept;
  sound = t.loses.sound;
  found = λ told. record { encoding = bytes; is_read = (ap length e ∙ t.size, u, sym e); joins = takes_joins t told };
  place = loses_onward n old new t.loses;
}

module _ (prealloc borrow : ℕ) (takes_no_memory : Bool) where
  pub text_gives : (old mid new : ReaderState) (n : ℕ) (v : List ℕ) → Gives (IsLength (bincode preallocation_limit) 1) old mid n
      → Gives (IsStrBytes n) mid new v → Gives (str_read prealloc borrow takes_no_memory).reads old new v
  text_gives old mid new n v r t = gives_map (Then (IsLength (bincode preallocation_limit) 1) IsStrBytes)
      (str_read prealloc borrow takes_no_memory).reads old new v v (λ b p. then_encoding prealloc borrow takes_no_memory b v p)
      (then_gives (IsLength (bincode preallocation_limit) 1) IsStrBytes old mid new n v r t)

  pub text_first : (old new : ReaderState) (e : ReadError) → ReadRefused (IsLength (bincode preallocation_limit) 1) 0 true old new e
      → ReadRefused (str_read prealloc borrow takes_no_memory).reads borrow takes_no_memory old new e
  text_first old new e r = refuses_map (Then (IsLength (bincode preallocation_limit) 1) IsStrBytes)
      (str_read prealloc borrow takes_no_memory).reads borrow takes_no_memory old new e (λ b v p. (v, str_then prealloc borrow takes_no_memory b v p))
      (then_first (IsLength (bincode preallocation_limit) 1) IsStrBytes 0 borrow true takes_no_memory old new e (omega arith) (λ x. absurd (cc x)) r)

  pub text_second : (old mid new : ReaderState) (n : ℕ) (e : ReadError) → Gives (IsLength (bincode preallocation_limit) 1) old mid n
      → ReadRefused (IsStrBytes n) borrow takes_no_memory mid new e
      → ReadRefused (str_read prealloc borrow takes_no_memory).reads borrow takes_no_memory old new e
  text_second old mid new n e r t = refuses_map (Then (IsLength (bincode preallocation_limit) 1) IsStrBytes)
      (str_read prealloc borrow takes_no_memory).reads borrow takes_no_memory old new e (λ b v p. (v, str_then prealloc borrow takes_no_memory b v p))
      (then_second (IsLength (bincode preallocation_limit) 1) IsStrBytes (length_one (bincode preallocation_limit) (bincode_laws preallocation_limit) 1)
      borrow borrow takes_no_memory takes_no_memory old mid new n e (omega arith) (λ x. x) r t)

-- bytes alone, as something to write
abbrev bytes_write : WriteGrammar (List ℕ)
bytes_write = record {
  writes = λ b v. b ≡ v;
  can = λ v. Unit {0};
  size = λ v. length v;
  fits = λ v. Unit {0};
  meta = Dynamic;
  prealloc = 1;
  builtin = true;
  refused = λ v. PieceWriteRefused (length v);
}

bytes_laws : WriteLaws (λ v. Unit {0}) (λ v. v) bytes_write
bytes_laws = record { has_encoding = λ v c. (v, refl); encoding_can = λ v b t. tt; encoding_size = λ v b t. ap length t; can_fit = λ v f. f; statics = tt }

text_can : (v : List ℕ) → length v < 2 ^ 64 → HasEncoding (bincode preallocation_limit) (length v)
text_can v small = (le 8 (length v), bincode_encoding preallocation_limit (length v) small)

length_size : (n : ℕ) → n < 2 ^ 64 → 8 ≡ encoding_len ((bincode preallocation_limit).encoding n)
length_size n small = sym (ap encoding_len (bincode_encoding preallocation_limit n small) ∙ length-le 8 n)

abbrev in_two : WriteGrammar (ℕ × List ℕ)
in_two = pair_write (length_write (bincode preallocation_limit)) bytes_write

two_encodings : (prealloc : ℕ) (v : List ℕ) → length v < 2 ^ 64 → (b : List ℕ) → in_two.writes b (length v, v) → (str_write prealloc).writes b v
two_encodings prealloc v small b w = (
  small,
  w.4 ∙ ap (λ x. x ++ w.1) (bincode_encoding_is preallocation_limit (length v) w.0 w.2).1 ∙ ap (λ y. le 8 (length v) ++ y) w.3,
)

two_size : (prealloc : ℕ) (v : List ℕ) → length v < 2 ^ 64 → (str_write prealloc).size v ≡ in_two.size (length v, v)
two_size prealloc v small = ap (λ n. n + length v) (length_size (length v) small)

-- the eight bytes of the length were refused
eight_refused : (n : ℕ) → n < 2 ^ 64 → (v : List ℕ) (room : ℕ) (added : List ℕ) (e : WriteError)
    → LengthWriteRefused (bincode preallocation_limit) n room added e → StrWriteRefused v room added e
eight_refused n small v room added e (inl d) = inl (subst (λ k. PieceWriteRefused k room added e) (sym (length_size n small)) d.1)
eight_refused n small v room added e (inr d) = absurd (d.1.0 (le 8 n, bincode_encoding preallocation_limit n small))

-- a character was refused in one piece
pub char_halted : {S K : Type 0} {put : S → List ℕ → S} {room : S → ℕ} {old new : WriterState put room K} (laws : WriterLaws put room) (c : ℕ) (bytes : List ℕ)
    (is : char_write.writes bytes c) (size : length bytes ≡ len_utf8 c) (e : IoWriteError)
    → BytesWriteRefused (length bytes) old new e → Stopped char_write old new c (writing.Io e)
char_halted {room = room} {old = old} {new = new} laws c bytes is size e d =
    sequence.encoding_stopped char_write c bytes is size laws old new e d (λ x. subst (λ n. PieceWriteRefused n (room old.content) [] (writing.Io e)) size x)

piece_nothing : (n room : ℕ) (added : List ℕ) (e : WriteError) → PieceWriteRefused n room added e → added ≡ []
piece_nothing n room added (writing.Io (writer.WriteSizeLimit m)) d = d.0
piece_nothing n room added (writing.Io (writer.Io e)) d = d
piece_nothing n room added (writing.Io writer.OutOfMemory) d = d
piece_nothing n room added _ d = absurd d

-- behind the length, the bytes were refused
behind_length : (v : List ℕ) (n : ℕ) → n ≡ length v → (encoding : List ℕ) → encoding ≡ le 8 n → (room : ℕ) (added : List ℕ) (e : WriteError)
    → PieceWriteRefused (length v) (room - length encoding) added e → StrWriteRefused v room (encoding ++ added) e
behind_length v n is encoding t room added e d =
    let none = piece_nothing (length v) (room - length encoding) added e d in
    let eight : length encoding ≡ 8 = ap length t ∙ length-le 8 n in
    let P : ℕ → List ℕ → Type 0 = λ k a. PieceWriteRefused (length v) (room - k) a e in
    inr (ap (λ a. encoding ++ a) none ∙ append-nil encoding ∙ t ∙ ap (le 8) is, subst (λ a. P 8 a) none (subst (λ k. P k added) eight d))

module _ {S K : Type 0} {put : S → List ℕ → S} {room : S → ℕ} (laws : WriterLaws put room) (prealloc : ℕ) where
  pub encoding_wrote : {old mid new : WriterState put room K} (v : List ℕ) (n : ℕ) (bytes : List ℕ) → n < 2 ^ 64 → n ≡ length v → bytes ≡ v
      → Wrote (length_write (bincode preallocation_limit)) old mid n → Added bytes mid new
      → Wrote (str_write prealloc) old new v
  encoding_wrote {old} {mid} {new} v n bytes small e f r d =
      let fits : length v < 2 ^ 64 = subst (λ k. k < 2 ^ 64) e small in
      sequence.wrote_map in_two (str_write prealloc) (length v, v) v (λ c. fits) (two_size prealloc v fits) (two_encodings prealloc v fits)
      (sequence.pair_wrote (length_write_laws (bincode preallocation_limit)) bytes_laws laws
      (subst (λ k. Wrote (length_write (bincode preallocation_limit)) old mid k) e r)
      (sequence.encoding_wrote bytes_write v bytes f (ap length f) mid new tt d))

  pub text_unwritten_first : {old new : WriterState put room K} (v : List ℕ) (n : ℕ) {e : WriteError} → n < 2 ^ 64 → n ≡ length v
      → WriteRefused (length_write (bincode preallocation_limit)) old new n e → WriteRefused (str_write prealloc) old new v e
  text_unwritten_first {old} {new} v n {e} small is u =
      let fits : length v < 2 ^ 64 = subst (λ k. k < 2 ^ 64) is small in
      sequence.unwritten_map in_two (str_write prealloc) (length v, v) v (λ c. (text_can v fits, tt)) (two_size prealloc v fits) (two_encodings prealloc v fits)
      (sequence.pair_unwritten_first (length_write_laws (bincode preallocation_limit)) bytes_laws v
      (subst (λ k. WriteRefused (length_write (bincode preallocation_limit)) old new k e) is u))

  pub text_unwritten_second : {old mid new : WriterState put room K} (v : List ℕ) (n : ℕ) (bytes : List ℕ) {e : IoWriteError} → n < 2 ^ 64 → n ≡ length v
      → bytes ≡ v → Wrote (length_write (bincode preallocation_limit)) old mid n
      → BytesWriteRefused (length bytes) mid new e → WriteRefused (str_write prealloc) old new v (writing.Io e)
  text_unwritten_second {old} {mid} {new} v n bytes {e} small is f r d =
      let fits : length v < 2 ^ 64 = subst (λ k. k < 2 ^ 64) is small in
      sequence.unwritten_map in_two (str_write prealloc) (length v, v) v (λ c. (text_can v fits, tt)) (two_size prealloc v fits) (two_encodings prealloc v fits)
      (sequence.pair_unwritten_second (length_write_laws (bincode preallocation_limit)) bytes_laws laws
      (subst (λ k. Wrote (length_write (bincode preallocation_limit)) old mid k) is r)
      (sequence.encoding_unwritten bytes_write v bytes f (ap length f) laws mid new e d))

  pub text_halted_first : {old new : WriterState put room K} (v : List ℕ) (n : ℕ) {e : WriteError} → n < 2 ^ 64
      → Stopped (length_write (bincode preallocation_limit)) old new n e → Stopped (str_write prealloc) old new v e
  text_halted_first {old} v n {e} small s = sequence.stopped_map (length_write (bincode preallocation_limit)) (str_write prealloc) n v
      (λ a r. eight_refused n small v (room old.content) a e r) s

  pub text_halted_second : {old mid new : WriterState put room K} (v : List ℕ) (n : ℕ) (bytes : List ℕ) {e : IoWriteError} → n ≡ length v → bytes ≡ v
      → Wrote (length_write (bincode preallocation_limit)) old mid n
      → BytesWriteRefused (length bytes) mid new e → Stopped (str_write prealloc) old new v (writing.Io e)
  text_halted_second {old} {mid} {new} v n bytes {e} is f r d =
      let P : ℕ → Type 0 = λ k. PieceWriteRefused k (room mid.content) [] (writing.Io e) in
      let s : Stopped bytes_write mid new v (writing.Io e) = sequence.encoding_stopped bytes_write v bytes f (ap length f) laws mid new e d
      (λ x. subst P (ap length f) x) in
      sequence.stopped_behind (length_write_laws (bincode preallocation_limit)) laws bytes_write (str_write prealloc) v v r s
      (λ x. behind_length v n is r.encoding (bincode_encoding_is preallocation_limit n r.encoding r.is_encoding).1 (room old.content) s.added (writing.Io e) x)
