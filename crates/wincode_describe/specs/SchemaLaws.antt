-- The grammar of a described type accepts what the grammar of its schema accepts.
use Rattle.std.proofs.Common.{◌≡◌, ◌∙◌, sym, ap, subst, ℕ, ◌+◌, List, [], ◌∷◌, length, map, min, max, suc, refl, true, false, Ok, Err, Some, None}
use lib.Ieee.{binary32, binary64}
use Rattle.std.specs.Prelude.{Result, Option, pos, ◌^◌}
use Rattle.std.specs.Int.{w8, w16, w32, w64, w128}
use Rattle.wincode_io.specs.Joins.{Joined}
use Rattle.wincode_io.specs.Writers.{byte_limit}
use Rattle.wincode_base.specs.Arrays.{array_read, times_meta, times_prealloc}
use Rattle.wincode_base.specs.Boxed.{boxed_read}
use Rattle.wincode_base.specs.Gathered.{gathered_read}
use Rattle.wincode_base.specs.Grammar.{ReadGrammar}
use Rattle.wincode_base.specs.InWindow.{windowed_read}
use Rattle.wincode_base.specs.Leaves.{number_read, signed_read, bool_read, unit_read}
use Rattle.wincode_base.specs.Lists.{list_read, reads_list}
use Rattle.wincode_base.specs.Made.{made_read, IsNot, AreBits, AreTime, IsSame, is_zero, is_overflow}
use Rattle.wincode_base.specs.Pairs.{pair_read, pair_meta}
use Rattle.wincode_base.specs.Strings.{char_read, str_read, reference_meta}
use Rattle.wincode_base.specs.Tags.{option_read, result_read, sides_meta}
use Rattle.wincode_base.specs.declared.meta.TypeMeta.TheVariants.{Static}
use Rattle.wincode_base.specs.declared.sizes.ItemSize.{ItemSize}
use Rattle.wincode_describe.specs.Parts.{Part, Flag, Character, Bytes, Nothing}
use Rattle.wincode_describe.specs.ShownGrammars.{shown_read, joined}
use Rattle.wincode_describe.specs.Types.{natural_shown, signed_shown, scheme_of, text_shown, bytes_shown, list_shown, option_shown, result_shown}
use Rattle.wincode_describe.specs.Types.{AsRead, bits_shown, time_shown, octets_shown, socket_shown, socket_parts_read}
use Rattle.wincode_describe.specs.Types.{both_shown, described_read}
use Rattle.wincode_describe.specs.declared.described.Integer.TheVariants.{U8, U16, U32, U64, U128, Usize, I8, I16, I32, I64, I128, Isize}
use Rattle.wincode_describe.specs.declared.described.StdType.TheVariants.{F32, F64, Duration, SystemTime, Ipv4Addr, Ipv6Addr, SocketAddrV4, SocketAddrV6}
use Rattle.wincode_describe.specs.declared.described.LengthScheme.{LengthScheme}
use Rattle.wincode_describe.specs.declared.described.LengthScheme.TheVariants.{Eight}
use Rattle.wincode_describe.specs.declared.described.Described.{Described}
use Rattle.wincode_describe.specs.declared.described.Described.TheVariants as type

-- What reads by the grammar reads by the description, as some parts; its values have the same size and count the same.
pub record Covers {V : Type 0} (g : ReadGrammar V) (d : Described) : Type 0 where
  pub meta : (described_read d).meta ≡ g.meta
  pub prealloc : (described_read d).prealloc ≡ g.prealloc
  pub reads : (b : List ℕ) (v : V) → g.reads b v → (w : List Part) × (described_read d).reads b w

-- ---- numbers and texts

pub u8_covers : Covers (number_read 1 true) (type.Integer U8)
u8_covers = record { meta = refl; prealloc = refl; reads = λ b v r. (natural_shown U8 v, (v, r, refl)) }

pub u16_covers : Covers (number_read 2 true) (type.Integer U16)
u16_covers = record { meta = refl; prealloc = refl; reads = λ b v r. (natural_shown U16 v, (v, r, refl)) }

pub u32_covers : Covers (number_read 4 true) (type.Integer U32)
u32_covers = record { meta = refl; prealloc = refl; reads = λ b v r. (natural_shown U32 v, (v, r, refl)) }

pub u64_covers : Covers (number_read 8 true) (type.Integer U64)
u64_covers = record { meta = refl; prealloc = refl; reads = λ b v r. (natural_shown U64 v, (v, r, refl)) }

pub u128_covers : Covers (number_read 16 true) (type.Integer U128)
u128_covers = record { meta = refl; prealloc = refl; reads = λ b v r. (natural_shown U128 v, (v, r, refl)) }

pub usize_covers : Covers (number_read 8 false) (type.Integer Usize)
usize_covers = record { meta = refl; prealloc = refl; reads = λ b v r. (natural_shown Usize v, (v, r, refl)) }

pub i8_covers : Covers (signed_read w8 true) (type.Integer I8)
i8_covers = record { meta = refl; prealloc = refl; reads = λ b v r. (signed_shown I8 v, (v, r, refl)) }

pub i16_covers : Covers (signed_read w16 true) (type.Integer I16)
i16_covers = record { meta = refl; prealloc = refl; reads = λ b v r. (signed_shown I16 v, (v, r, refl)) }

pub i32_covers : Covers (signed_read w32 true) (type.Integer I32)
i32_covers = record { meta = refl; prealloc = refl; reads = λ b v r. (signed_shown I32 v, (v, r, refl)) }

pub i64_covers : Covers (signed_read w64 true) (type.Integer I64)
i64_covers = record { meta = refl; prealloc = refl; reads = λ b v r. (signed_shown I64 v, (v, r, refl)) }

pub i128_covers : Covers (signed_read w128 true) (type.Integer I128)
i128_covers = record { meta = refl; prealloc = refl; reads = λ b v r. (signed_shown I128 v, (v, r, refl)) }

pub isize_covers : Covers (signed_read w64 false) (type.Integer Isize)
isize_covers = record { meta = refl; prealloc = refl; reads = λ b v r. (signed_shown Isize v, (v, r, refl)) }

pub nonzero_u8_covers : Covers (made_read (λ v. v) (IsNot 0) is_zero (number_read 1 true)) (type.NonZero U8)
nonzero_u8_covers = record {
  meta = refl;
  prealloc = refl;
  reads = λ b v r. (natural_shown U8 r.0, (natural_shown U8 r.0, natural_shown U8 r.0, (r.0, r.2, refl), (refl, λ e. r.3.1 (cc e)), refl));
}

pub nonzero_u16_covers : Covers (made_read (λ v. v) (IsNot 0) is_zero (number_read 2 true)) (type.NonZero U16)
nonzero_u16_covers = record {
  meta = refl;
  prealloc = refl;
  reads = λ b v r. (natural_shown U16 r.0, (natural_shown U16 r.0, natural_shown U16 r.0, (r.0, r.2, refl), (refl, λ e. r.3.1 (cc e)), refl));
}

pub nonzero_u32_covers : Covers (made_read (λ v. v) (IsNot 0) is_zero (number_read 4 true)) (type.NonZero U32)
nonzero_u32_covers = record {
  meta = refl;
  prealloc = refl;
  reads = λ b v r. (natural_shown U32 r.0, (natural_shown U32 r.0, natural_shown U32 r.0, (r.0, r.2, refl), (refl, λ e. r.3.1 (cc e)), refl));
}

pub nonzero_u64_covers : Covers (made_read (λ v. v) (IsNot 0) is_zero (number_read 8 true)) (type.NonZero U64)
nonzero_u64_covers = record {
  meta = refl;
  prealloc = refl;
  reads = λ b v r. (natural_shown U64 r.0, (natural_shown U64 r.0, natural_shown U64 r.0, (r.0, r.2, refl), (refl, λ e. r.3.1 (cc e)), refl));
}

pub nonzero_u128_covers : Covers (made_read (λ v. v) (IsNot 0) is_zero (number_read 16 true)) (type.NonZero U128)
nonzero_u128_covers = record {
  meta = refl;
  prealloc = refl;
  reads = λ b v r. (natural_shown U128 r.0, (natural_shown U128 r.0, natural_shown U128 r.0, (r.0, r.2, refl), (refl, λ e. r.3.1 (cc e)), refl));
}

pub nonzero_usize_covers : Covers (made_read (λ v. v) (IsNot 0) is_zero (number_read 8 false)) (type.NonZero Usize)
nonzero_usize_covers = record {
  meta = refl;
  prealloc = refl;
  reads = λ b v r. (natural_shown Usize r.0, (natural_shown Usize r.0, natural_shown Usize r.0, (r.0, r.2, refl), (refl, λ e. r.3.1 (cc e)), refl));
}

pub nonzero_i8_covers : Covers (made_read (λ v. v) (IsNot (pos 0)) is_zero (signed_read w8 true)) (type.NonZero I8)
nonzero_i8_covers = record {
  meta = refl;
  prealloc = refl;
  reads = λ b v r. (signed_shown I8 r.0, (signed_shown I8 r.0, signed_shown I8 r.0, (r.0, r.2, refl), (refl, λ e. r.3.1 (cc e)), refl));
}

pub nonzero_i16_covers : Covers (made_read (λ v. v) (IsNot (pos 0)) is_zero (signed_read w16 true)) (type.NonZero I16)
nonzero_i16_covers = record {
  meta = refl;
  prealloc = refl;
  reads = λ b v r. (signed_shown I16 r.0, (signed_shown I16 r.0, signed_shown I16 r.0, (r.0, r.2, refl), (refl, λ e. r.3.1 (cc e)), refl));
}

pub nonzero_i32_covers : Covers (made_read (λ v. v) (IsNot (pos 0)) is_zero (signed_read w32 true)) (type.NonZero I32)
nonzero_i32_covers = record {
  meta = refl;
  prealloc = refl;
  reads = λ b v r. (signed_shown I32 r.0, (signed_shown I32 r.0, signed_shown I32 r.0, (r.0, r.2, refl), (refl, λ e. r.3.1 (cc e)), refl));
}

pub nonzero_i64_covers : Covers (made_read (λ v. v) (IsNot (pos 0)) is_zero (signed_read w64 true)) (type.NonZero I64)
nonzero_i64_covers = record {
  meta = refl;
  prealloc = refl;
  reads = λ b v r. (signed_shown I64 r.0, (signed_shown I64 r.0, signed_shown I64 r.0, (r.0, r.2, refl), (refl, λ e. r.3.1 (cc e)), refl));
}

pub nonzero_i128_covers : Covers (made_read (λ v. v) (IsNot (pos 0)) is_zero (signed_read w128 true)) (type.NonZero I128)
nonzero_i128_covers = record {
  meta = refl;
  prealloc = refl;
  reads = λ b v r. (signed_shown I128 r.0, (signed_shown I128 r.0, signed_shown I128 r.0, (r.0, r.2, refl), (refl, λ e. r.3.1 (cc e)), refl));
}

pub nonzero_isize_covers : Covers (made_read (λ v. v) (IsNot (pos 0)) is_zero (signed_read w64 false)) (type.NonZero Isize)
nonzero_isize_covers = record {
  meta = refl;
  prealloc = refl;
  reads = λ b v r. (signed_shown Isize r.0, (signed_shown Isize r.0, signed_shown Isize r.0, (r.0, r.2, refl), (refl, λ e. r.3.1 (cc e)), refl));
}

-- what was made of parts is made of them as they were read
as_read : {V : Type 0} (show : V → List Part) (made : V → V → Type 0) (text : List ℕ) (g : ReadGrammar V) (b : List ℕ) (v : V)
    → (made_read (λ w. w) made text g).reads b v
    → (w : List Part) × (shown_read show (made_read (λ w. w) (AsRead made) text g)).reads b w
as_read show made text g b v r = (show r.0, (r.0, (r.0, r.0, r.2, (refl, (r.1, r.3)), refl), refl))

pub f32_covers : Covers (made_read (λ v. v) (AreBits binary32) [] (number_read 4 true)) (type.Std F32)
f32_covers = record { meta = refl; prealloc = refl; reads = as_read (bits_shown F32) (AreBits binary32) [] (number_read 4 true) }

pub f64_covers : Covers (made_read (λ v. v) (AreBits binary64) [] (number_read 8 true)) (type.Std F64)
f64_covers = record { meta = refl; prealloc = refl; reads = as_read (bits_shown F64) (AreBits binary64) [] (number_read 8 true) }

-- seconds and nanoseconds
abbrev pub time_parts_read : ReadGrammar (ℕ × ℕ)
time_parts_read = windowed_read (pair_read (number_read 8 true) (number_read 4 true))

pub duration_covers : Covers (made_read (λ v. v) (AreTime (2 ^ 64)) is_overflow time_parts_read) (type.Std Duration)
duration_covers = record { meta = refl; prealloc = refl; reads = as_read (time_shown Duration) (AreTime (2 ^ 64)) is_overflow time_parts_read }

pub system_time_covers : Covers (made_read (λ v. v) (AreTime (2 ^ 63)) is_overflow time_parts_read) (type.Std SystemTime)
system_time_covers = record { meta = refl; prealloc = refl; reads = as_read (time_shown SystemTime) (AreTime (2 ^ 63)) is_overflow time_parts_read }

-- so many octets
abbrev pub octets_read : ℕ → ReadGrammar (List ℕ)
octets_read n = windowed_read (array_read n (number_read 1 true))

pub ipv4_covers : Covers (made_read (λ v. v) IsSame [] (octets_read 4)) (type.Std Ipv4Addr)
ipv4_covers = record { meta = refl; prealloc = refl; reads = as_read (octets_shown Ipv4Addr) IsSame [] (octets_read 4) }

pub ipv6_covers : Covers (made_read (λ v. v) IsSame [] (octets_read 16)) (type.Std Ipv6Addr)
ipv6_covers = record { meta = refl; prealloc = refl; reads = as_read (octets_shown Ipv6Addr) IsSame [] (octets_read 16) }

pub socket_v4_covers : Covers (made_read (λ v. v) IsSame [] (socket_parts_read 4)) (type.Std SocketAddrV4)
socket_v4_covers = record { meta = refl; prealloc = refl; reads = as_read (socket_shown SocketAddrV4) IsSame [] (socket_parts_read 4) }

pub socket_v6_covers : Covers (made_read (λ v. v) IsSame [] (socket_parts_read 16)) (type.Std SocketAddrV6)
socket_v6_covers = record { meta = refl; prealloc = refl; reads = as_read (socket_shown SocketAddrV6) IsSame [] (socket_parts_read 16) }

pub bool_covers : Covers bool_read type.Bool
bool_covers = record { meta = refl; prealloc = refl; reads = λ b v r. (Flag v ∷ [], (v, r, refl)) }

pub char_covers : Covers char_read type.Char
char_covers = record { meta = refl; prealloc = refl; reads = λ b v r. (Character v ∷ [], (v, r, refl)) }

pub unit_covers : Covers unit_read type.Unit
unit_covers = record { meta = refl; prealloc = refl; reads = λ b v r. (Nothing ∷ [], (v, r, refl)) }

pub text_covers : Covers (str_read 24 0 false) type.Text
text_covers = record { meta = refl; prealloc = refl; reads = λ b v r. (text_shown v, (v, r, refl)) }

pub bytes_covers : (s : LengthScheme) → Covers (list_read (scheme_of s) 24 (number_read 1 true)) (type.ByteList s)
bytes_covers s = record { meta = refl; prealloc = refl; reads = λ b v r. (bytes_shown s v, (v, r, refl)) }

pub byte_array_covers : (n : ℕ) → Covers (windowed_read (array_read n (number_read 1 true))) (type.ByteArray n)
byte_array_covers n = record { meta = refl; prealloc = refl; reads = λ b v r. (Bytes v ∷ [], (v, r, refl)) }

-- ---- what has parts

module _ {V : Type 0} {g : ReadGrammar V} {d : Described} (c : Covers g d) where
  pub box_covers : (p : _) → Covers (boxed_read g) (type.Boxed' p d)
  box_covers p = record { meta = ap reference_meta c.meta; prealloc = refl; reads = c.reads }

  option_parts : (b : List ℕ) (o : Option V) → (option_read 1 g).reads b o → (w : List Part)
      × ((v : Option (List Part)) × (option_read 1 (described_read d)).reads b v × (w ≡ option_shown v))
  option_parts b None r = (option_shown None, (None, r, refl))
  option_parts b (Some v) r = let k = c.reads r.0 v r.1 in (option_shown (Some k.0), (Some k.0, (r.0, k.1, r.2), refl))

  pub option_covers : (p : _) → Covers (option_read 1 g) (type.Option' p d)
  option_covers p = record { meta = refl; prealloc = c.prealloc; reads = option_parts }

  items_parts : (vs : List V) (b : List ℕ) → Joined g.reads vs b → (ws : List (List Part)) × (length ws ≡ length vs)
      × Joined (described_read d).reads ws b
  items_parts [] b r = ([], refl, r)
  items_parts (v ∷ vs) b r =
      let k = c.reads r.0 v r.2 in
      let m = items_parts vs r.1 r.3 in
      (k.0 ∷ m.0, ap suc m.1, (r.0, r.1, k.1, m.2, r.4))

  pub array_covers : (n : ℕ) (p : _) → Covers (windowed_read (array_read n g)) (type.Array' n p d)
  array_covers n p = record {
    meta = ap (times_meta n) c.meta;
    prealloc = ap (times_prealloc n) c.prealloc;
    reads = λ b vs r. let k = items_parts vs b r.1 in (joined k.0, (k.0, (k.1 ∙ r.0, k.2), refl));
  }

  list_parts : (s : LengthScheme) (b : List ℕ) (vs : List V) → reads_list (scheme_of s) g b vs → (w : List Part)
      × ((ws : List (List Part)) × reads_list (scheme_of s) (described_read d) b ws × (w ≡ list_shown s ws))
  list_parts s b vs r =
      let k = items_parts vs r.1.1 r.1.3 in
      let P : ℕ → Type 0 = λ n. (scheme_of s).admits n (described_read d).prealloc in
      let Q : ℕ → Type 0 = λ m. (scheme_of s).admits (length vs) m in
      let E : ℕ → Type 0 = λ n. (scheme_of s).encoding n ≡ Some r.1.0 in
      (list_shown s k.0, (k.0, (subst P (sym k.1) (subst Q (sym c.prealloc) r.0), (r.1.0, r.1.1, subst E (sym k.1) r.1.2, k.2, r.1.4)), refl))

  pub list_covers : (s : LengthScheme) (p : _) → Covers (list_read (scheme_of s) 24 g) (type.List' s p d)
  list_covers s p = record { meta = refl; prealloc = refl; reads = list_parts s }

  -- what is made of a list's items, as a set
  pub set_covers : {D W : Type 0} (see : D → V) (makes : List D → W → Type 0) (size : ItemSize) (p : _)
      → Covers (gathered_read see makes (scheme_of Eight) size g) (type.Set' p d)
  set_covers see makes size p = record { meta = refl; prealloc = refl; reads = λ b w r. list_parts Eight b (map see r.0) r.1 }

  -- or a map, of pairs
  pub map_covers : {D W : Type 0} (see : D → V) (makes : List D → W → Type 0) (size : ItemSize) (p : _)
      → Covers (gathered_read see makes (scheme_of Eight) size g) (type.Map' p d)
  map_covers see makes size p = record { meta = refl; prealloc = refl; reads = λ b w r. list_parts Eight b (map see r.0) r.1 }

  -- parts in a window of their size
  pub tuple_covers : (p : _) → Covers (windowed_read g) (type.Tuple' p d)
  tuple_covers p = record { meta = c.meta; prealloc = c.prealloc; reads = c.reads }

  pub struct_covers : (p : _) → Covers (windowed_read g) (type.Struct' p d)
  struct_covers p = record { meta = c.meta; prealloc = c.prealloc; reads = c.reads }

  pub field_covers : (s : _) (p : _) → Covers g (type.Field' s p d)
  field_covers s p = record { meta = c.meta; prealloc = c.prealloc; reads = c.reads }

  -- what parts make that are its own, as an address of either kind, where their size says nothing of views
  pub same_covers : {X : Type 0} (see : X → V) (text : List ℕ) → reference_meta g.meta ≡ g.meta → Covers (made_read see IsSame text g) d
  same_covers see text unviewed = record {
    meta = c.meta ∙ sym unviewed;
    prealloc = c.prealloc;
    reads = λ b w r.
        let R : V → Type 0 = λ v. g.reads b v in
        c.reads b w (subst R (sym (ap see r.3) ∙ r.4) r.2);
  }

module _ {V W : Type 0} {g : ReadGrammar V} {h : ReadGrammar W} {d e : Described} (c : Covers g d) (k : Covers h e) where
  -- two parts, one after the other
  pub pair_covers : (p q : _) → Covers (pair_read g h) (type.Joined' p d q e)
  pair_covers p q = record {
    meta = ap (λ m. pair_meta m (described_read e).meta) c.meta ∙ ap (λ m. pair_meta g.meta m) k.meta;
    prealloc = ap (λ m. min (m + (described_read e).prealloc) byte_limit) c.prealloc ∙ ap (λ m. min (g.prealloc + m) byte_limit) k.prealloc;
    reads = λ b v r. let x = c.reads r.0 v.0 r.2 in let y = k.reads r.1 v.1 r.3 in (both_shown (x.0, y.0), ((x.0, y.0), (r.0, r.1, x.1, y.1, r.4), refl));
  }

  result_parts : (b : List ℕ) (o : Result V W) → (result_read 4 g h).reads b o → (w : List Part)
      × ((v : Result (List Part) (List Part)) × (result_read 4 (described_read d) (described_read e)).reads b v × (w ≡ result_shown v))
  result_parts b (Ok v) r = let x = c.reads r.0 v r.1 in (result_shown (Ok x.0), (Ok x.0, (r.0, x.1, r.2), refl))
  result_parts b (Err v) r = let x = k.reads r.0 v r.1 in (result_shown (Err x.0), (Err x.0, (r.0, x.1, r.2), refl))

  pub result_covers : (p q : _) → Covers (result_read 4 g h) (type.Result' p d q e)
  result_covers p q = record {
    meta = ap (λ m. pair_meta (Static 4 true) (sides_meta m (described_read e).meta)) c.meta ∙ ap (λ m. pair_meta (Static 4 true) (sides_meta g.meta m)) k.meta;
    prealloc = ap (λ m. max m (described_read e).prealloc) c.prealloc ∙ ap (λ m. max g.prealloc m) k.prealloc;
    reads = result_parts;
  }
