-- What is asked of the names that are visible, so that code can be made of each statement that breaks no rule and no restriction.
use Rattle.std.specs.Prelude.{◌≡◌, ◌*◌, ℕ, nat_eq, Bool, true, ◌&&◌, ◌||◌, not, List, Some, is_some}
use Rattle.types.specs.Entities.{Exception, Profile, TypeForm}
use Rattle.types.specs.Scopes.{Scope, form_at}
use Rattle.types.specs.Shapes.{Grouped, MoreShapes, NoShapes, Repeated, Shape, Shapes, words, words_of_parts}
use Rattle.expr_soundness.specs.expr_rules.specs.Laws.{type_shape}
use Rattle.step_soundness.specs.Fitting.{entity_named}
use Rattle.expr_code.specs.Providing.{HasWhatExpressionsNeed}
use Rattle.expr_code.specs.Seeing.{external_of, external_profile}
use Rattle.expr_code.specs.declared.visible.Visible.{Visible}
use Rattle.part_code.specs.EntryNames.{entry_behind}
use Rattle.part_code.specs.Raising.{number_among}

-- each part of a value takes a word at least: no array is without components, and no record
abbrev mutual
  pub is_full : Shape → Bool
  is_full (Repeated many x) = not (nat_eq (many * words x) 0) && is_full x
  is_full (Grouped parts) = not (nat_eq (words_of_parts parts) 0) && are_full parts
  is_full x = not (nat_eq (words x) 0)

  pub are_full : Shapes → Bool
  are_full NoShapes = true
  are_full (MoreShapes name x rest) = is_full x && are_full rest

abbrev pub TypesAreFull : Scope → Type 0
TypesAreFull s = (n : ℕ) (form : TypeForm) → form_at s n ≡ Some form → is_full (type_shape s n) ≡ true

-- Each name that is visible has what its code needs, in a program with these exceptions.
pub record HasWhatCodeNeeds (exceptions : List (List ℕ)) (v : Visible) : Type 0 where
  pub expressions : HasWhatExpressionsNeed v
  pub full : TypesAreFull v.scope
  -- an exception has a number
  pub raised : (name : List ℕ) → entity_named v.scope name ≡ Some Exception → is_some (number_among exceptions name) ≡ true
  -- what is named behind a protected object is its entry, or an operation with a number
  pub offered : (object operation : List ℕ) (p : Profile) → external_profile v.scope object operation ≡ Some p
      → (is_some (entry_behind v.scope object operation) || is_some (external_of v object operation)) ≡ true
