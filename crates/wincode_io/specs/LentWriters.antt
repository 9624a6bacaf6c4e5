-- What a writer that is lent is to contracts.
use Rattle.std.specs.Prelude.{ℕ, List}
use Rattle.std.specs.Borrow.{GName}
use Rattle.wincode_io.specs.Writers.{WriterState}

-- what no call of a lent writer changes: the reference that it holds, and what no call of the writer changes
pub record LentKept (K : Type 0) : Type 0 where
  pub name : GName
  pub target : K

-- a writer in this state that is lent, and referred to by this name
abbrev pub lent_of : {S K : Type 0} {put : S → List ℕ → S} {room : S → ℕ} → WriterState put room K → GName → WriterState put room (LentKept K)
lent_of below name = record {
  content = below.content;
  kept = record { name = name; target = below.kept };
  never_fails = below.never_fails;
  failures = below.failures;
  has_failed = below.has_failed;
  last = below.last;
  finishes = below.finishes;
  ready = below.ready;
}
