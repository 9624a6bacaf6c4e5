-- Maps, sets and heaps: a list's encoding, which reads as what is made of the list.
use Rattle.std.specs.Prelude.{false, List, map}
use Rattle.std.specs.List.Sorted.{IsPermutation}
use Rattle.wincode_base.specs.Grammar.{ReadGrammar, WriteGrammar}
use Rattle.wincode_base.specs.Lengths.{Scheme}
use Rattle.wincode_base.specs.Lists.{reads_list, list_write_of, ListReadRefused}
use Rattle.wincode_base.specs.ItemSizes.{item_size}
use Rattle.wincode_base.specs.declared.meta.TypeMeta.TheVariants.{Dynamic}
use Rattle.wincode_base.specs.declared.sizes.ItemSize.{ItemSize}

-- b is the encoding of a list of items, of this size, and w is what such a list makes; it is refused as the list is.
abbrev pub gathered_read : {D V W : Type 0} → (D → V) → (List D → W → Type 0) → Scheme → ItemSize → ReadGrammar V → ReadGrammar W
gathered_read {D} see makes s size g = record {
  reads = λ b w. (ds : List D) × reads_list s g b (map see ds) × makes ds w;
  meta = Dynamic;
  prealloc = 24;
  borrow = g.borrow;
  takes_no_memory = false;
  refused = ListReadRefused s size g;
}

-- Some order of the items, of this size, is written as a list. Refused, the list of some order was.
abbrev pub scattered_write_of : {V : Type 0} → Scheme → ItemSize → WriteGrammar V → WriteGrammar (List V)
scattered_write_of {V} s size g = record {
  writes = λ b vs. (us : List V) × IsPermutation vs us × (list_write_of s 24 size g).writes b us;
  can = (list_write_of s 24 size g).can;
  size = (list_write_of s 24 size g).size;
  fits = (list_write_of s 24 size g).fits;
  meta = Dynamic;
  prealloc = 24;
  builtin = (list_write_of s 24 size g).builtin;
  refused = λ vs room added e. (us : List V) × IsPermutation vs us × (list_write_of s 24 size g).refused us room added e;
}

abbrev pub scattered_write : {V : Type 0} → Scheme → WriteGrammar V → WriteGrammar (List V)
scattered_write s g = scattered_write_of s (item_size g.meta) g
