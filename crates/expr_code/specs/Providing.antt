-- What is asked of the names that are visible, so that code can be made of each legal expression.
use Rattle.std.specs.Prelude.{◌≡◌, ◌≤◌, ℕ, nat_eq, Bool, true, false, ◌&&◌, ◌||◌, List, [], ◌∷◌, length, Option, Some, None, is_some, ⊤}
use Rattle.base.specs.declared.limits.TheConstants.{FORMALS}
use Rattle.types.specs.declared.entity.FormalParameter.{FormalParameter}
use Rattle.types.specs.declared.entity.Role.{Role}
use Rattle.types.specs.declared.entity.Subtype.{Subtype}
use Rattle.types.specs.declared.standing.Callee.{Callee}
use Rattle.types.specs.declared.standing.Standing.TheVariants as standing
use Rattle.types.specs.Entities.{Booleans, Integers, Profile, Spans, Times, TypeForm}
use Rattle.types.specs.Layouts.{words_of}
use Rattle.types.specs.Scopes.{Scope, form_at, number_of}
use Rattle.types.specs.Standings.{callee_profile, stands_first}
use Rattle.expr_soundness.specs.expr_rules.specs.Typing.{is_booleans}
use Rattle.expr_code.specs.Emitting.{has_numbers}
use Rattle.expr_code.specs.Seeing.{external_of, external_profile, profile_named, slot_of, subprogram_of}
use Rattle.expr_code.specs.declared.visible.Visible.{Visible}

-- ---- what code passes

-- numbers, which it checks, and truth values: nothing of more than one word
abbrev pub is_passable : Scope → Subtype → Bool
is_passable s t = has_numbers (form_at s t.type_number) || is_booleans (form_at s t.type_number)

abbrev pub are_passable : Scope → List FormalParameter → Bool
are_passable s [] = true
are_passable s (f ∷ fs) = is_passable s f.subtype && are_passable s fs

-- a result of one word
abbrev pub is_single : Scope → Option Subtype → Bool
is_single s None = false
is_single s (Some t) = nat_eq (words_of s t) 1

-- a function with a subprogram, and a result of one word
abbrev pub is_called : Scope → (number : Option ℕ) → Profile → Bool
is_called s number p = is_some number && is_single s p.result

-- ---- formals

-- numbers, truth values, times and spans
abbrev pub is_scalar_form : Option TypeForm → Bool
is_scalar_form (Some Integers) = true
is_scalar_form (Some Booleans) = true
is_scalar_form (Some Times) = true
is_scalar_form (Some Spans) = true
is_scalar_form form = false

abbrev pub AreScalar : Scope → List FormalParameter → Type 0
AreScalar s [] = ⊤
AreScalar s (f ∷ fs) = (is_scalar_form (form_at s f.subtype.type_number) ≡ true) × AreScalar s fs

-- as many formals as there may be, and those of a function of one word each
pub record HasFewFormals (s : Scope) (p : Profile) : Type 0 where
  pub few : length p.formals ≤ FORMALS
  pub scalar : (t : Subtype) → p.result ≡ Some t → AreScalar s p.formals

-- all that can be called by a visible name has few formal parameters
abbrev pub FewFormals : Scope → Type 0
FewFormals s = (f : Callee) (p : Profile) → callee_profile s f ≡ Some p → HasFewFormals s p

-- ---- visible names

-- Each name that is visible has what the code of expressions needs.
pub record HasWhatExpressionsNeed (v : Visible) : Type 0 where
  pub formals : FewFormals v.scope
  -- the words of an object stand in a frame, or are those of the package
  pub stored : (name : List ℕ) (r : Role) (t : Subtype) → stands_first v.scope (number_of v.scope name) ≡ standing.Part r t → is_some (slot_of v name) ≡ true
  -- a subprogram has a number, and a function a result of one word
  pub numbered : (name : List ℕ) (p : Profile) → profile_named v.scope name ≡ Some p → is_some (subprogram_of v name) ≡ true
  pub results : (name : List ℕ) (p : Profile) (t : Subtype) → profile_named v.scope name ≡ Some p → p.result ≡ Some t
      → is_scalar_form (form_at v.scope t.type_number) ≡ true
  -- so has a function that is named behind a protected object
  pub gives : (object operation : List ℕ) (p : Profile) (t : Subtype) → external_profile v.scope object operation ≡ Some p → p.result ≡ Some t
      → (is_some (external_of v object operation) ≡ true) × (is_scalar_form (form_at v.scope t.type_number) ≡ true)
