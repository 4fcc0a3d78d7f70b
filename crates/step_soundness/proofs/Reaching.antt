-- Names of targets reach components of protected objects in the object's own bodies alone.
use Rattle.std.proofs.Common.{◌≡◌, ℕ, List, [], ◌∷◌, Option, Some, None, refl}
use Rattle.expr_soundness.specs.ada_tree.specs.ExpressionTree.{SelectorTrees, NoSelectors, MoreSelectors, SelectorTree, Component, Arguments}
use Rattle.expr_soundness.specs.types.specs.declared.entity.Subtype.{Subtype}
use Rattle.expr_soundness.specs.types.specs.Entities.{TypeForm, Arrays, Records}
use Rattle.expr_soundness.specs.types.specs.Scopes.{form_at}
use Rattle.expr_soundness.specs.types.specs.Standings.{component_of}
use Rattle.expr_soundness.specs.types.specs.Values.{Value, Number}
use Rattle.expr_soundness.specs.types.specs.Evaluations.{Val, Gives, Raises, Meaningless, and_then}
use Rattle.expr_soundness.specs.types.specs.Places.{Object, Place, object_of}
use Rattle.expr_soundness.specs.types.specs.Evaluating.{Calls, actuals_with, call}
use Rattle.expr_soundness.specs.meaning.specs.Works.{Home, InActivation, InPackage, InObject, Part, Target}
use Rattle.expr_soundness.specs.meaning.specs.Targets.{all_selected, element_of, first_of, object_named, own_component, part_of, selected, target, target_or_nothing, whole}
use Rattle.step_soundness.specs.Objects.{IsReached}

abbrev pub IsReachedBy : Option ℕ → Val Target → Type 0
IsReachedBy within (Gives x) = IsReached within x.home
IsReachedBy within (Raises y) = Unit {0}
IsReachedBy within Meaningless = Unit {0}

module _ (within : Option ℕ) where
  part_reached : (x : Target) (part : Part) (t : Option Subtype) → IsReached within x.home → IsReachedBy within (part_of x part t)
  part_reached x part (Some t) h = h
  part_reached x part None h = tt

  element_reached : (x : Target) (index element : Subtype) (vs : List Value) → IsReached within x.home → IsReachedBy within (element_of x index element vs)
  element_reached x index element (Number z ∷ []) h = h
  element_reached x index element vs h = tt

  behind_values : (v : Val (List Value)) (go : List Value → Val Target) → ((vs : List Value) → IsReachedBy within (go vs)) → IsReachedBy within (and_then v go)
  behind_values (Gives vs) go f = f vs
  behind_values (Raises y) go f = tt
  behind_values Meaningless go f = tt

  behind_target : (v : Val Target) (go : Target → Val Target) → IsReachedBy within v → ((x : Target) → IsReached within x.home → IsReachedBy within (go x)) → IsReachedBy within (and_then v go)
  behind_target (Gives x) go h f = f x h
  behind_target (Raises y) go h f = tt
  behind_target Meaningless go h f = tt

  selected_reached : (calls : Calls) (p : Place) (x : Target) (form : Option TypeForm) (s : SelectorTree) → IsReached within x.home → IsReachedBy within (selected calls p x form s)
  selected_reached calls p x (Some (Records components)) (Component name) h = part_reached x _ (component_of components name.name) h
  selected_reached calls p x (Some (Arrays index length element)) (Arguments a) h =
      behind_values (actuals_with calls p a (index ∷ [])) (element_of x index element) (λ vs. element_reached x index element vs h)
  selected_reached calls p x form s h = tt

  all_reached : (calls : Calls) (p : Place) (s : SelectorTrees) (x : Target) → IsReached within x.home → IsReachedBy within (all_selected calls p s x)
  all_reached calls p NoSelectors x h = h
  all_reached calls p (MoreSelectors s rest) x h =
      behind_target (selected calls p x (form_at p.scope x.subtype.type_number) s) (all_selected calls p rest) (selected_reached calls p x (form_at p.scope x.subtype.type_number) s h)
      (all_reached calls p rest)

  whole_reached : (home : Home) (o : Option Object) → IsReached within home → IsReachedBy within (target_or_nothing (whole home o))
  whole_reached home (Some x) h = h
  whole_reached home None h = tt

  first_reached : (x y : Option Target) → IsReachedBy within (target_or_nothing x) → IsReachedBy within (target_or_nothing y) → IsReachedBy within (target_or_nothing (first_of x y))
  first_reached (Some x) y h i = h
  first_reached None y h i = i

  component_reached : (p : Place) (o : Option ℕ) (name : List ℕ) → within ≡ o → IsReachedBy within (target_or_nothing (own_component p o name))
  component_reached p (Some o) name is = whole_reached (InObject o) (object_of (p.components o) name) is
  component_reached p None name is = tt

pub target_reached : (p : Place) (name : List ℕ) (s : SelectorTrees) → IsReachedBy p.within (target p name s)
target_reached p name s =
    behind_target p.within (target_or_nothing (object_named p name)) (all_selected (call p.frames_left) p s)
    (first_reached p.within (whole InActivation (object_of p.locals name)) (first_of (own_component p p.within name) (whole InPackage (object_of p.variables name)))
    (whole_reached p.within InActivation (object_of p.locals name) tt)
    (first_reached p.within (own_component p p.within name) (whole InPackage (object_of p.variables name)) (component_reached p.within p p.within name refl)
    (whole_reached p.within InPackage (object_of p.variables name) tt)))
    (all_reached p.within (call p.frames_left) p s)
