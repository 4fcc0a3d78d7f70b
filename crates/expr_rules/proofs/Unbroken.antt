-- Values of expressions that must be static, in which nothing else is broken.
use Rattle.std.proofs.Common.{◌≡◌, ℕ, [], ◌∷◌, Bool, false, Option, Some, None, refl, sym, ap}
use Rattle.std.specs.Prelude.{nat_eq}
use Rattle.base.specs.declared.faults.TheConstants.{WRONG_STATIC_VALUE}
use Rattle.lexer.specs.declared.fault.Fault.{Fault}
use Rattle.types.specs.declared.entity.Subtype.{Subtype}
use Rattle.types.specs.declared.statics.StaticForm.{StaticForm}
use Rattle.types.specs.declared.statics.StaticForm.TheVariants.{Static, NotStatic, Doubtful}
use Rattle.types.specs.Values.{Value}
use Rattle.types.specs.Evaluations.{Val, Gives, Raises, Meaningless}
use Rattle.types.specs.Statics.{fault_of}
use Rattle.expr_rules.specs.Faults.{Faults, least, rule}
use Rattle.expr_rules.specs.StaticRules.{scalar_if_known, static_result, value_rule}
use Rattle.expr_rules.proofs.Least.{none_least}

abbrev is_wrong : Option ℕ → Bool
is_wrong (Some m) = nat_eq m WRONG_STATIC_VALUE
is_wrong None = false

-- what `static_value` refuses
pub refused_value : (place : ℕ) (within : Option Subtype) (form : StaticForm) (v : Val Value) (n : ℕ) → fault_of form v ≡ Some n
    → rule WRONG_STATIC_VALUE place (nat_eq n WRONG_STATIC_VALUE) ≡ value_rule place within form v
refused_value place within Static (Gives v) n h = cc
refused_value place within Static (Raises x) n h = ap (λ o. rule WRONG_STATIC_VALUE place (is_wrong o)) (sym h)
refused_value place within Static Meaningless n h = ap (λ o. rule WRONG_STATIC_VALUE place (is_wrong o)) (sym h)
refused_value place within NotStatic v n h = ap (λ o. rule WRONG_STATIC_VALUE place (is_wrong o)) (sym h)
refused_value place within Doubtful v n h = ap (λ o. rule WRONG_STATIC_VALUE place (is_wrong o)) (sym h)

-- its scalar
pub known_scalar : (fs : Faults) (form : StaticForm) (v : Val Value) (w : Value) → None ≡ least fs → form ≡ Static → v ≡ Gives w → Some w ≡ static_result fs form v
known_scalar [] form v w none h k = λ j. scalar_if_known (sym h j) (sym k j)
known_scalar (f ∷ fs) form v w none h k = absurd (cons_is_some f fs none)
  where
    cons_is_some : (f : Fault) (fs : Faults) → None ≡ least (f ∷ fs) → ⊥
    cons_is_some f fs e = let empty : (f ∷ fs) ≡ [] = none_least (f ∷ fs) e in cc

pub unknown_scalar : (fs : Faults) (form : StaticForm) (v : Val Value) (n : ℕ) → fault_of form v ≡ Some n → None ≡ static_result fs form v
unknown_scalar [] Static (Gives w) n h = cc
unknown_scalar [] Static (Raises x) n h = refl
unknown_scalar [] Static Meaningless n h = refl
unknown_scalar [] NotStatic v n h = refl
unknown_scalar [] Doubtful v n h = refl
unknown_scalar (f ∷ fs) form v n h = refl

pub broken_scalar : (fs : Faults) (form : StaticForm) (v : Val Value) (f : Fault) → Some f ≡ least fs → None ≡ static_result fs form v
broken_scalar [] form v f h = cc
broken_scalar (g ∷ fs) form v f h = refl
