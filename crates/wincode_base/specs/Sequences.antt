-- One encoding after another, and how what each call of a sequence answers makes what the whole answers.
use Rattle.std.proofs.Common.{◌≡◌, ◌∙◌, sym, ap, ℕ, ◌<◌, ◌≤◌, Bool, true, false, ◌&&◌, List, ◌++◌, length, refl, arith, append_assoc, IsTrue, subst}
use Rattle.std.proofs.Common.{◌^◌, length-append}
use Rattle.wincode_io.specs.Readers.{ReaderState, IsOnward, IsSound}
use Rattle.wincode_io.specs.PlaceLaws.{kept_trans, known_kept, sound_trans, tells_on, onward_trans}
use Rattle.wincode_base.specs.Outcomes.{IsEnd, Gives, ReadDue, ReaderDue, ReadTells, Accepts, ReadRefused}
use Rattle.wincode_base.specs.declared.error.ReadError.{ReadError}
use Rattle.wincode_base.specs.declared.error.ReadError.TheVariants as reading
use Rattle.wincode_io.specs.declared.error.ReadError.{ReadError as IoReadError}
use Rattle.wincode_io.specs.declared.error.ReadError.TheVariants as reader
use Rattle.wincode_io.specs.Joins.{IsUnambiguous}
use Rattle.wincode_io.specs.JoinLaws.{cancel}

-- an encoding of u, and then one that u decides
pub record Then {U V : Type 0} (first : List ℕ → U → Type 0) (second : U → List ℕ → V → Type 0) (b : List ℕ) (v : V) : Type 0 where
  pub before : U
  pub x : List ℕ
  pub y : List ℕ
  pub one : first x before
  pub two : second before y v
  pub joins : b ≡ x ++ y

pub shorter : (a t r : List ℕ) → a ≡ t ++ r → length a < 2 ^ 64 → length r < 2 ^ 64
shorter a t r e h = omega (arith, ap length e, length-append t r)

pub end_trans : {a b c : List ℕ} → IsEnd a b → IsEnd b c → IsEnd a c
end_trans {a} {b} {c} e f = record { front = e.front ++ f.front; joins = e.joins ∙ ap (λ r. e.front ++ r) f.joins ∙ sym (append_assoc e.front f.front c) }

weaken : (a s s' : Bool) → (s ≡ false → s' ≡ false) → (a && s) ≡ false → (a && s') ≡ false
weaken false s s' h e = refl
weaken true s s' h e = h e

-- a refusal that is due where more is accepted is due where less is
reader_due_map : (f f' : Type 0) (borrow borrow' : ℕ) (new : ReaderState) → (f' → f) → borrow ≤ borrow' → (e : IoReadError) → ReaderDue f borrow new e
    → ReaderDue f' borrow' new e
reader_due_map f f' borrow borrow' new m a (reader.ReadSizeLimit n) d = λ x. d (m x)
reader_due_map f f' borrow borrow' new m a reader.UnsupportedZeroCopy d = λ x. let h : new.lends < borrow = d (m x) in omega arith
reader_due_map f f' borrow borrow' new m a reader.OutOfMemory d = d
reader_due_map f f' borrow borrow' new m a (reader.Io e) d = d

pub due_map : (f f' : Type 0) (borrow borrow' : ℕ) (takes_no_memory takes_no_memory' : Bool) (new : ReaderState) → (f' → f) → borrow ≤ borrow'
    → (takes_no_memory ≡ false → takes_no_memory' ≡ false) → (e : ReadError) → ReadDue f borrow takes_no_memory new e
    → ReadDue f' borrow' takes_no_memory' new e
due_map f f' borrow borrow' takes_no_memory takes_no_memory' new m a s (reading.Io e) d = reader_due_map f f' borrow borrow' new m a e d
due_map f f' borrow borrow' takes_no_memory takes_no_memory' new m a s reading.OutOfMemory d = weaken new.never_fails takes_no_memory takes_no_memory' s d
due_map f f' borrow borrow' takes_no_memory takes_no_memory' new m a s _ d = λ x. d (m x)

-- reading before, in which the device did not fail, changes nothing of what is told of it
pub read_tells_on : (a b c : ReaderState) (e : ReadError) → IsSound a b → ReadTells b c e → ReadTells a c e
read_tells_on a b c (reading.Io e) sound t = tells_on a b c e sound t
read_tells_on a b c _ sound t = sound_trans sound t

-- Reading by one relation is reading by another that has its encodings.
pub gives_map : {U V : Type 0} (R : List ℕ → U → Type 0) (S : List ℕ → V → Type 0) (old new : ReaderState) (u : U) (v : V) → ((b : List ℕ) → R b u → S b v)
    → Gives R old new u → Gives S old new v
gives_map R S old new u v m g = record {
  kept = g.kept;
  sound = g.sound;
  found = λ t. let f = g.found t in record { encoding = f.encoding; is_read = m f.encoding f.is_read; joins = f.joins };
  place = g.place;
}

pub refuses_map : {U V : Type 0} (R : List ℕ → U → Type 0) (S : List ℕ → V → Type 0) (borrow : ℕ) (takes_no_memory : Bool) (old new : ReaderState)
    (e : ReadError) → ((b : List ℕ) (v : V) → S b v → (u : U) × R b u) → ReadRefused R borrow takes_no_memory old new e
    → ReadRefused S borrow takes_no_memory old new e
refuses_map R S borrow takes_no_memory old new e m r = record {
  kept = r.kept;
  left = r.left;
  place = r.place;
  device = r.device;
  due = due_map (Accepts R old) (Accepts S old) borrow borrow takes_no_memory takes_no_memory new
      (λ a. let f = a.front.found in let p = m f.encoding a.front.value f.is_read in
      record {
        is_known = a.is_known;
        fits = a.fits;
        front =
            record { value = p.0; rest = a.front.rest; found = record { encoding = f.encoding; is_read = p.1; joins = f.joins } };
      })
      (omega arith) (λ h. h) e r.due;
}

-- what was read in two parts stands behind both
pub gives_onward : {U V : Type 0} (R : List ℕ → U → Type 0) (S : List ℕ → V → Type 0) (old mid new : ReaderState) (u : U) (v : V) → Gives R old mid u
    → Gives S mid new v → IsTrue old.is_known → IsOnward old new
gives_onward R S old mid new u v g h t =
    let f = g.found t in let s = known_kept g.kept t in let k = h.found s in
    onward_trans old mid new f.encoding k.encoding f.joins k.joins (g.place t) (h.place s)

-- what is refused for a schema that takes no memory is refused for one that may
pub refuses_unspared : {V : Type 0} {R : List ℕ → V → Type 0} {borrow : ℕ} {takes_no_memory : Bool} {old new : ReaderState} {e : ReadError}
    → ReadRefused R borrow takes_no_memory old new e → ReadRefused R borrow false old new e
refuses_unspared {R = R} {borrow = borrow} {takes_no_memory = takes_no_memory} {old = old} {new = new} {e = e} r =
    record {
      kept = r.kept;
      left = r.left;
      place = r.place;
      device = r.device;
      due =
          due_map (Accepts R old) (Accepts R old) borrow borrow takes_no_memory false new (λ x. x) (omega arith) (λ x. refl) e r.due;
    }

module _ {U V : Type 0} (R : List ℕ → U → Type 0) (S : U → List ℕ → V → Type 0) where
  pub then_gives : (old mid new : ReaderState) (u : U) (v : V) → Gives R old mid u → Gives (S u) mid new v → Gives (Then R S) old new v
  then_gives old mid new u v g h = record {
    kept = kept_trans g.kept h.kept;
    sound = sound_trans g.sound h.sound;
    found = λ t. let f = g.found t in let k = h.found (known_kept g.kept t) in record {
      encoding = f.encoding ++ k.encoding;
      is_read = record { before = u; x = f.encoding; y = k.encoding; one = f.is_read; two = k.is_read; joins = refl };
      joins = f.joins ∙ ap (λ r. f.encoding ++ r) k.joins ∙ sym (append_assoc f.encoding k.encoding new.rest);
    };
    place = λ t. gives_onward R (S u) old mid new u v g h t;
  }

  pub then_first : (borrow borrow' : ℕ) (takes_no_memory takes_no_memory' : Bool) (old new : ReaderState) (e : ReadError) → borrow ≤ borrow'
      → (takes_no_memory ≡ false → takes_no_memory' ≡ false) → ReadRefused R borrow takes_no_memory old new e
      → ReadRefused (Then R S) borrow' takes_no_memory' old new e
  then_first borrow borrow' takes_no_memory takes_no_memory' old new e a s r = record {
    kept = r.kept;
    left = r.left;
    place = r.place;
    device = r.device;
    due = due_map (Accepts R old) (Accepts (Then R S) old) borrow borrow' takes_no_memory takes_no_memory' new
        (λ x. let f = x.front.found in let p = f.is_read in record {
          is_known = x.is_known;
          fits = x.fits;
          front = record {
            value = p.before;
            rest = p.y ++ x.front.rest;
            found =
                record { encoding = p.x; is_read = p.one; joins = f.joins ∙ ap (λ b. b ++ x.front.rest) p.joins ∙ append_assoc p.x p.y x.front.rest };
          };
        })
        a s e r.due;
  }

  -- what is left of a front whose first part was read
  pub strip : (unambiguous : IsUnambiguous R) (old mid : ReaderState) (u : U) → Gives R old mid u → Accepts (Then R S) old → Accepts (S u) mid
  strip unambiguous old mid u g x =
      let f = g.found x.is_known in
      let k = x.front.found in
      let p = k.is_read in
      let whole : p.x ++ (p.y ++ x.front.rest) ≡ f.encoding ++ mid.rest =
      sym (append_assoc p.x p.y x.front.rest) ∙ sym (ap (λ b. b ++ x.front.rest) p.joins) ∙ sym k.joins ∙ f.joins in
      let same = unambiguous p.x f.encoding (p.y ++ x.front.rest) mid.rest p.before u p.one f.is_read whole in
      record {
        is_known = known_kept g.kept x.is_known;
        fits = shorter old.rest f.encoding mid.rest f.joins x.fits;
        front = record {
          value = x.front.value;
          rest = x.front.rest;
          found = record {
            encoding = p.y;
            is_read = subst (λ w. S w p.y x.front.value) same.1 p.two;
            joins = sym (cancel p.x (p.y ++ x.front.rest) mid.rest (whole ∙ sym (ap (λ b. b ++ mid.rest) same.0)));
          };
        };
      }

  pub then_second : (unambiguous : IsUnambiguous R) (borrow borrow' : ℕ) (takes_no_memory takes_no_memory' : Bool) (old mid new : ReaderState) (u : U)
      (e : ReadError) → borrow ≤ borrow' → (takes_no_memory ≡ false → takes_no_memory' ≡ false) → Gives R old mid u
      → ReadRefused (S u) borrow takes_no_memory mid new e → ReadRefused (Then R S) borrow' takes_no_memory' old new e
  then_second unambiguous borrow borrow' takes_no_memory takes_no_memory' old mid new u e a s g r = record {
    kept = kept_trans g.kept r.kept;
    left = λ t. end_trans (let f = g.found t in record { front = f.encoding; joins = f.joins }) (r.left (known_kept g.kept t));
    place = λ t. let f = g.found t in let k = known_kept g.kept t in let l = r.left k in
        onward_trans old mid new f.encoding l.front f.joins l.joins (g.place t) (r.place k);
    device = read_tells_on old mid new e g.sound r.device;
    due = due_map (Accepts (S u) mid) (Accepts (Then R S) old) borrow borrow' takes_no_memory takes_no_memory' new (strip unambiguous old mid u g) a s e r.due;
  }

  pub then_unambiguous : IsUnambiguous R → ((u : U) → IsUnambiguous (S u)) → IsUnambiguous (Then R S)
  then_unambiguous one two a b x y v w p q e =
      let whole : p.x ++ (p.y ++ x) ≡ q.x ++ (q.y ++ y) = sym (append_assoc p.x p.y x) ∙ ap (λ l. l ++ x) (sym p.joins) ∙ e ∙ ap (λ l. l ++ y) q.joins
      ∙ append_assoc q.x q.y y in
      let same = one p.x q.x (p.y ++ x) (q.y ++ y) p.before q.before p.one q.one whole in
      let after = cancel p.x (p.y ++ x) (q.y ++ y) (whole ∙ sym (ap (λ l. l ++ (q.y ++ y)) same.0)) in
      let rest = two q.before p.y q.y x y v w (subst (λ u. S u p.y v) same.1 p.two) q.two after in
      (p.joins ∙ ap (λ l. l ++ p.y) same.0 ∙ ap (λ l. q.x ++ l) rest.0 ∙ sym q.joins, rest.1)
