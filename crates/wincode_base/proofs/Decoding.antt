-- Values that are decoded from bytes, one after another.
use Rattle.std.proofs.Common.{◌≡◌, ◌∙◌, sym, ap, subst, refl, ℕ, ◌+◌, ◌<◌, List, [], ◌∷◌, ◌++◌, length, map, take, drop, slice_set, append_assoc}
use Rattle.std.proofs.Common.{append-nil, length-append, take-append-drop, arith}
use Rattle.std.proofs.lemmas.List.{map-append, take_more_set}
use Rattle.wincode_io.specs.Joins.{Joined, AreItems}
use Rattle.wincode_io.specs.JoinLaws.{joined_append}

-- a front of the bytes reads as these values, one after another, and the rest stands behind it
pub record ReadSoFar {V : Type 0} (reads : List ℕ → V → Type 0) (bytes rest : List ℕ) (i : ℕ) (vs : List V) : Type 0 where
  pub front : List ℕ
  pub are : AreItems i reads front vs
  pub joins : bytes ≡ front ++ rest

module _ {V : Type 0} (reads : List ℕ → V → Type 0) where
  read_none : (bytes : List ℕ) → ReadSoFar reads bytes bytes 0 []
  read_none bytes = record { front = []; are = (refl, refl); joins = refl }

  read_more : (bytes rest : List ℕ) (i size : ℕ) (vs : List V) (v : V) (next left : List ℕ) → ReadSoFar reads bytes rest i vs → next ≡ take size rest → left
      ≡ drop size rest → reads next v → ReadSoFar reads bytes left (i + 1) (vs ++ (v ∷ []))
  read_more bytes rest i size vs v next left so is_next is_left r = record {
    front = so.front ++ next;
    are = (
      length-append vs (v ∷ []) ∙ ap (λ k. k + 1) so.are.0,
      joined_append reads vs (v ∷ []) so.front next so.are.1 (next, [], r, refl, sym (append-nil next)),
    );
    joins = so.joins ∙ ap (λ t. so.front ++ t) (sym (ap (λ t. t ++ left) is_next ∙ ap (λ t. take size rest ++ t) is_left ∙ take-append-drop size rest))
        ∙ sym (append_assoc so.front next left);
  }

  read_all_of : (bytes rest : List ℕ) (i n : ℕ) (vs : List V) → ReadSoFar reads bytes rest i vs → i ≡ n → length rest ≡ 0 → AreItems n reads bytes vs
  read_all_of bytes rest i n vs so e none = (
    so.are.0 ∙ e,
    subst (Joined reads vs)
        (sym (so.joins ∙ ap (λ t. so.front ++ t) (nothing rest none) ∙ append-nil so.front)) so.are.1,
  ) where
    nothing : (t : List ℕ) → length t ≡ 0 → t ≡ []
    nothing [] z = refl
    nothing (x ∷ t) z = absurd (omega (arith, z))

-- so the values of the first i places are read
pub record DecodedSoFar {D V : Type 0} (reads : List ℕ → V → Type 0) (model : D → V) (bytes rest : List ℕ) (i : ℕ) (places : List D) : Type 0 where
  pub so_far : ReadSoFar reads bytes rest i (map model (take i places))

-- so values are read, and they were added
pub record AddedSoFar {D V : Type 0} (reads : List ℕ → V → Type 0) (model : D → V) (bytes rest : List ℕ) (i : ℕ) (before after : List D) : Type 0 where
  pub items : List D
  pub is : after ≡ before ++ items
  pub so_far : ReadSoFar reads bytes rest i (map model items)

module _ {D V : Type 0} (reads : List ℕ → V → Type 0) (model : D → V) where
  pub decoded_more : (bytes rest : List ℕ) (i size : ℕ) (places : List D) (d : D) (next left : List ℕ) → DecodedSoFar reads model bytes rest i places → i
      < length places → next ≡ take size rest → left ≡ drop size rest → reads next (model d)
      → DecodedSoFar reads model bytes left (i + 1) (slice_set places i d)
  decoded_more bytes rest i size places d next left so l is_next is_left r =
      let e : map model (take (i + 1) (slice_set places i d)) ≡ map model (take i places) ++ (model d ∷ []) =
      ap (map model) (take_more_set places i d l) ∙ map-append model (take i places) (d ∷ []) in
      record {
        so_far = subst (ReadSoFar reads bytes left (i + 1)) (sym e)
            (read_more reads bytes rest i size (map model (take i places)) (model d) next left so.so_far is_next is_left r);
      }

  pub added_none : (bytes : List ℕ) (before : List D) → AddedSoFar reads model bytes bytes 0 before before
  added_none bytes before = record { items = []; is = sym (append-nil before); so_far = read_none reads bytes }

  pub added_more : (bytes rest : List ℕ) (i size : ℕ) (before so after : List D) (d : D) (next left : List ℕ)
      → AddedSoFar reads model bytes rest i before so → after ≡ so ++ (d ∷ []) → next ≡ take size rest → left ≡ drop size rest → reads next (model d)
      → AddedSoFar reads model bytes left (i + 1) before after
  added_more bytes rest i size before so after d next left a pushed is_next is_left r = record {
    items = a.items ++ (d ∷ []);
    is = pushed ∙ ap (λ t. t ++ (d ∷ [])) a.is ∙ append_assoc before a.items (d ∷ []);
    so_far = subst (ReadSoFar reads bytes left (i + 1)) (sym (map-append model a.items (d ∷ [])))
        (read_more reads bytes rest i size (map model a.items) (model d) next left a.so_far is_next is_left r);
  }

  pub added_all : (bytes rest : List ℕ) (i n : ℕ) (before after : List D) (a : AddedSoFar reads model bytes rest i before after) → i ≡ n → length rest ≡ 0
      → AreItems n reads bytes (map model a.items)
  added_all bytes rest i n before after a e none = read_all_of reads bytes rest i n (map model a.items) a.so_far e none
