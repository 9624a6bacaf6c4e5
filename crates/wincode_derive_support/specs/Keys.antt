-- The order of keys, and their `==`.
use Rattle.std.specs.Bool.{beq}
use Rattle.std.specs.Ordering.{bool_cmp, is_eq}
use Rattle.std.specs.Prelude.{◌≡◌, Bool, true, false, refl, Result, Ok, Err}

-- flags are equal where they stand at one place of the order
pub bool_ties : (x y : Bool) → beq x y ≡ is_eq (bool_cmp x y)
bool_ties false false = refl
bool_ties false true = refl
bool_ties true false = refl
bool_ties true true = refl

-- ---- of two that are the same, the case and what it holds are

pub ok_same : {X Y : Type 0} {x y : X} → ◌≡◌ {A = Result X Y} (Ok x) (Ok y) → x ≡ y
ok_same e = cc e

pub err_same : {X Y : Type 0} {x y : Y} → ◌≡◌ {A = Result X Y} (Err x) (Err y) → x ≡ y
err_same e = cc e

pub ok_not_err : {X Y P : Type 0} {x : X} {y : Y} → ◌≡◌ {A = Result X Y} (Ok x) (Err y) → P
ok_not_err e = absurd (cc e)

pub err_not_ok : {X Y P : Type 0} {x : X} {y : Y} → ◌≡◌ {A = Result X Y} (Err y) (Ok x) → P
err_not_ok e = absurd (cc e)
