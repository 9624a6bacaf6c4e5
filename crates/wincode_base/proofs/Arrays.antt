-- Items that a schema reads, as the source of an array.
use Rattle.std.proofs.Common.{◌≡◌, ◌∙◌, sym, ap, refl, ℕ, suc, List, [], ◌∷◌, ◌++◌, length, map, append_assoc, Result, MatchResult, subst}
use Rattle.wincode_collect.specs.Calls.{Gave, Failed}
use Rattle.wincode_io.specs.Readers.{ReaderState}
use Rattle.wincode_base.specs.ListLaws.{items_none, items_refused_by}
use Rattle.wincode_base.specs.Grammar.{ReadGrammar}
use Rattle.wincode_base.specs.Lists.{ItemReadRefused}
use Rattle.wincode_base.specs.Outcomes.{Gives, ReadRefused, SchemaReadRefused}
use Rattle.wincode_base.proofs.Items.{item_stopped}
use Rattle.wincode_base.specs.Sequences.{gives_onward}
use Rattle.wincode_base.specs.declared.error.ReadError.{ReadError}
use Rattle.wincode_io.specs.Joins.{IsUnambiguous, AreItems}
use Rattle.wincode_io.specs.PlaceLaws.{kept_trans, known_kept, sound_trans}

module _ {V : Type 0} (reads : List ℕ → V → Type 0) where
  -- an item and then the others
  item_and_items : (i : ℕ) (old mid new : ReaderState) (v : V) (vs : List V) → Gives reads old mid v → Gives (AreItems i reads) mid new vs
      → Gives (AreItems (suc i) reads) old new (v ∷ vs)
  item_and_items i old mid new v vs g h = record {
    kept = kept_trans g.kept h.kept;
    sound = sound_trans g.sound h.sound;
    found = λ t. let f = g.found t in let k = h.found (known_kept g.kept t) in record {
      encoding = f.encoding ++ k.encoding;
      is_read = (ap suc k.is_read.0, (f.encoding, k.encoding, f.is_read, k.is_read.1, refl));
      joins = f.joins ∙ ap (λ r. f.encoding ++ r) k.joins ∙ sym (append_assoc f.encoding k.encoding new.rest);
    };
    place = gives_onward reads (AreItems i reads) old mid new v vs g h;
  }

module _ {V S D Name : Type 0} (g : ReadGrammar V) (model : D → V) (state : S → ReaderState) (name : S → Name) where
  -- a call of a source that reads items
  abbrev pub Reads : S → Result D ReadError → S → Type 0
  Reads s r t = (name t ≡ name s) × MatchResult r (λ v. Gives g.reads (state s) (state t) (model v)) (SchemaReadRefused g (state s) (state t))

  pub read_all : (s : S) (xs : List D) (t : S) → Gave Reads s xs t → (name t ≡ name s) × Gives (AreItems (length xs) g.reads) (state s) (state t) (map model xs)
  read_all s [] t run = (ap name (sym run), subst (λ u. Gives (AreItems 0 g.reads) (state s) (state u) []) run (items_none g.reads (state s)))
  read_all s (x ∷ xs) t run =
      let more = read_all run.0 xs t run.2 in
      (more.0 ∙ run.1.0, item_and_items g.reads (length xs) (state s) (state run.0) (state t) (model x) (map model xs) run.1.1 more.1)

  pub read_failed : IsUnambiguous g.reads → (s : S) (n : ℕ) (e : ReadError) (t : S) → Failed Reads s n e t
      → (name t ≡ name s) × ReadRefused (AreItems n g.reads) g.borrow g.takes_no_memory (state s) (state t) e × ItemReadRefused n g (state s) (state t) e
  read_failed one s n e t f =
      let got = read_all s f.items f.at f.run in
      let u = f.stop.1 in (
        f.stop.0 ∙ got.0,
        items_refused_by g.reads one (length f.items) n g.borrow g.takes_no_memory g.takes_no_memory (λ h. h) f.fewer (state s) (state f.at) (state t)
            (map model f.items) e got.1 u.0,
        item_stopped n g (length f.items) (state s) (state f.at) (state t) (map model f.items) e f.fewer got.1 u,
      )
