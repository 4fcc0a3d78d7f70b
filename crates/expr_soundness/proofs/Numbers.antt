-- Numbers between bounds: what operators give, and what lies between wider bounds.
use Rattle.std.proofs.Common.{◌≡◌, ℕ, zero, suc, pos, Bool, true, false, refl, arith}
use Rattle.std.proofs.lemmas.Grind.{common_steps}
use Rattle.std.specs.Prelude.{ℤ, ◌&&◌, int_le, negsuc, cond, Ok, Err, int_div, int_rem, neg_ℤ, unsigned_abs, ◌+ℤ◌, ◌-ℤ◌, ◌*ℤ◌}
use Rattle.std.specs.Int.{int_max, int_min}
use Rattle.meaning.specs.base.specs.declared.exceptions.PredefinedException.TheVariants.{ConstraintError}
use Rattle.meaning.specs.base.specs.Arithmetic.{by, in_range, is_in_base_range, int_mod, modulus_of, differ_in_sign}
use Rattle.meaning.specs.ada_tree.specs.declared.expression.UnaryOperator.{UnaryOperator}
use Rattle.meaning.specs.ada_tree.specs.declared.expression.UnaryOperator.TheVariants as unary
use Rattle.meaning.specs.ada_tree.specs.declared.expression.BinaryOperator.{BinaryOperator}
use Rattle.meaning.specs.ada_tree.specs.declared.expression.BinaryOperator.TheVariants as binary
use Rattle.meaning.specs.types.specs.declared.entity.Subtype.{Subtype}
use Rattle.meaning.specs.types.specs.Evaluations.{computed}
use Rattle.meaning.specs.types.specs.Operators.{binary_value, unary_value}
use Rattle.meaning.specs.types.specs.Scopes.{greatest_number, least_number}
use Rattle.meaning.specs.types.specs.Values.{Value, Number, Truth, Array, Record, fits, is_within}
use Rattle.meaning.specs.types.specs.Bounds.{base_bounds, spanned, unary_bounds}
use Rattle.expr_soundness.specs.BoundsLaw.{is_inside}
use Rattle.expr_soundness.specs.Lying.{comes_between, is_between}

pub within_itself : (z : ℤ) → is_within z z z ≡ true
within_itself z = grind arith

pub in_base : (z : ℤ) → is_in_base_range z ≡ true → is_within least_number greatest_number z ≡ true
in_base (pos n) h = grind (arith, h)
in_base (negsuc n) h = grind (arith, h)

within_left : (a b c d z : ℤ) → is_within a b z ≡ true → is_within (int_min a c) (int_max b d) z ≡ true
within_left a b c d z h = grind (arith, h)

within_right : (a b c d z : ℤ) → is_within c d z ≡ true → is_within (int_min a c) (int_max b d) z ≡ true
within_right a b c d z h = grind (arith, h)

-- ---- what operators give

pub range_checked : (x : ℤ) → comes_between base_bounds (computed (in_range x)) ≡ true
range_checked x = by_test (is_in_base_range x) refl
  where
    by_test : (b : Bool) → is_in_base_range x ≡ b → comes_between base_bounds (computed (cond b (Ok x) (Err ConstraintError))) ≡ true
    by_test true e = in_base x e
    by_test false e = refl

pub divided : (f : ℤ → ℤ → ℤ) (x y : ℤ) → comes_between base_bounds (computed (by f x y)) ≡ true
divided f x (pos zero) = refl
divided f x (pos (suc n)) = range_checked (f x (pos (suc n)))
divided f x (negsuc n) = range_checked (f x (negsuc n))

pub unary_between : (operator : UnaryOperator) (bounds : ℤ × ℤ) (v : Value) → is_between bounds v ≡ true
    → comes_between (unary_bounds operator bounds) (unary_value operator v) ≡ true
unary_between unary.Plus bounds (Number z) h = h
unary_between unary.Minus bounds (Number z) h = range_checked (neg_ℤ z)
unary_between unary.Abs bounds (Number z) h = range_checked (pos (unsigned_abs z))
unary_between unary.Not bounds (Truth b) h = refl
unary_between operator bounds v h = refl

pub binary_base : (operator : BinaryOperator) (v w : Value) → comes_between base_bounds (binary_value operator v w) ≡ true
binary_base binary.Add (Number x) (Number y) = range_checked (x +ℤ y)
binary_base binary.Subtract (Number x) (Number y) = range_checked (x -ℤ y)
binary_base binary.Multiply (Number x) (Number y) = range_checked (x *ℤ y)
binary_base binary.Divide (Number x) (Number y) = divided int_div x y
binary_base binary.Mod (Number x) (Number y) = divided int_mod x y
binary_base binary.Rem (Number x) (Number y) = divided int_rem x y
binary_base operator (Number x) (Number y) = refl
binary_base operator (Truth x) (Truth y) = refl
binary_base operator v w = refl

-- ---- `E mod k` for a k above 0

rem_small : (x : ℤ) (n : ℕ) → is_within (neg_ℤ (pos n)) (pos n) (int_rem x (pos (suc n))) ≡ true
rem_small (pos m) n = grind (arith, common_steps)
rem_small (negsuc m) n = grind (arith, common_steps)

mod_within : (r : ℤ) (n : ℕ) → is_within (neg_ℤ (pos n)) (pos n) r ≡ true
    → is_within (pos 0) (pos n) (cond (differ_in_sign r (pos (suc n))) (r +ℤ pos (suc n)) r) ≡ true
mod_within (pos zero) n h = grind (arith, h)
mod_within (pos (suc m)) n h = grind (arith, h)
mod_within (negsuc m) n h = grind (arith, h)

pub modulus_within : (x : ℤ) (n : ℕ) → comes_between (pos 0, pos n) (computed (modulus_of x (pos (suc n)))) ≡ true
modulus_within x n = by_test (is_in_base_range (int_mod x (pos (suc n))))
  where
    by_test : (b : Bool) → comes_between (pos 0, pos n) (computed (cond b (Ok (int_mod x (pos (suc n)))) (Err ConstraintError))) ≡ true
    by_test true = mod_within (int_rem x (pos (suc n))) n (rem_small x n)
    by_test false = refl

pub modulus_between : (n : ℕ) (v : Value) → comes_between (pos 0, pos n) (binary_value binary.Mod v (Number (pos (suc n)))) ≡ true
modulus_between n (Number x) = modulus_within x n
modulus_between n (Truth b) = refl
modulus_between n (Array vs) = refl
modulus_between n (Record fs) = refl

-- ---- wider bounds

pub spanned_left : (a b : ℤ × ℤ) (v : Value) → is_between a v ≡ true → is_between (spanned a b) v ≡ true
spanned_left a b (Number z) h = within_left a.0 a.1 b.0 b.1 z h
spanned_left a b (Truth x) h = refl
spanned_left a b (Array vs) h = refl
spanned_left a b (Record fs) h = refl

pub spanned_right : (a b : ℤ × ℤ) (v : Value) → is_between b v ≡ true → is_between (spanned a b) v ≡ true
spanned_right a b (Number z) h = within_right a.0 a.1 b.0 b.1 z h
spanned_right a b (Truth x) h = refl
spanned_right a b (Array vs) h = refl
spanned_right a b (Record fs) h = refl

-- ---- bounds inside of a subtype

inside_fits : (a b first last z : ℤ) → (int_le first a && int_le b last) ≡ true → is_within a b z ≡ true → is_within first last z ≡ true
inside_fits a b first last z h k = grind (arith, h, k)

pub inside_passes : (bounds : ℤ × ℤ) (t : Subtype) (v : Value) → is_inside bounds t ≡ true → is_between bounds v ≡ true → fits t v ≡ true
inside_passes bounds t (Number z) h k = inside_fits bounds.0 bounds.1 t.first t.last z h k
inside_passes bounds t (Truth b) h k = refl
inside_passes bounds t (Array vs) h k = refl
inside_passes bounds t (Record fs) h k = refl
