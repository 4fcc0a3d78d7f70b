-- What agrees with the objects of one store agrees with those of each other one that is sound: objects have the same names and subtypes in both.
use Rattle.std.proofs.Common.{◌≡◌, ℕ, inl, inr, List, Option, Some, None, refl, sym, ◌∙◌}
use Rattle.std.specs.Prelude.{option_map}
use Rattle.expr_soundness.specs.types.specs.Scopes.{Scope}
use Rattle.expr_soundness.specs.types.specs.Places.{Object, Place, object_of, own_components}
use Rattle.expr_soundness.specs.Agreeing.{Agrees}
use Rattle.expr_soundness.proofs.Agreement.{IsAlike, changed_agrees, second_alike}
use Rattle.expr_soundness.specs.meaning.specs.Programs.{Program}
use Rattle.expr_soundness.specs.meaning.specs.Works.{Store}
use Rattle.step_soundness.specs.Objects.{AreSoundObjects, object_subtype, subtype_in}
use Rattle.step_soundness.specs.Holding.{IsSoundStore, seen}
use Rattle.step_soundness.specs.Laws.{StoresAreAlike}
use Rattle.step_soundness.proofs.Lookups.{same_some}
use Rattle.step_soundness.proofs.Sights.{subtype_values}
use Rattle.step_soundness.proofs.Storing.{activation_after, all_after, object_sound}

objects_alike : (s : Scope) (xs ys : List Object) (name : List ℕ) → subtype_in ys name ≡ subtype_in xs name → AreSoundObjects s ys → IsAlike s (object_of xs name) (object_of ys name)
objects_alike s xs ys name same sound = of_found (object_of xs name) (object_of ys name) same refl
  where
    of_found : (o p : Option Object) → option_map object_subtype p ≡ option_map object_subtype o → object_of ys name ≡ p → IsAlike s o p
    of_found None None e is = inl refl
    of_found None (Some y) e is = cc
    of_found (Some x) None e is = cc
    of_found (Some x) (Some y) e is =
        inr (record {
          before = x;
          after = y;
          found = refl;
          stored = refl;
          same = same_some y.subtype x.subtype e;
          suited = subtype_values s y.subtype y.value ∙ object_sound s ys name y sound is;
        })

module _ (program : Program) (one other : Store) (before : IsSoundStore program one) (after : IsSoundStore program other) where
  pub agreement_alike : (s : Scope) (p : Place) → Agrees s (seen program one p) → Agrees s (seen program other p)
  agreement_alike s p agrees =
      changed_agrees s (seen program one p) agrees p.schedule p.now other.variables other.components p.locals p.actions p.priority p.frames_left
      (λ name. second_alike program.scope (object_of p.locals name) _ _ (own_alike p.within name))
      (λ name. objects_alike program.scope one.variables other.variables name (after.same.variables name ∙ sym (before.same.variables name)) after.variables)
    where
      own_alike : (within : Option ℕ) (name : List ℕ) → IsAlike program.scope (object_of (own_components (seen program one p) within) name) (object_of (own_components (seen program other p) within) name)
      own_alike None name = inl refl
      own_alike (Some o) name =
          objects_alike program.scope (one.components o) (other.components o) name (after.same.components o name ∙ sym (before.same.components o name)) (after.components o)

pub stores_are_alike : StoresAreAlike
stores_are_alike program waits one other t before after task =
    let agreement = agreement_alike program one other before after in
    record {
      scope = task.scope;
      outer = task.outer;
      around = task.around;
      work = task.work;
      own = activation_after program one other agreement task.scope t.own task.own;
      callers = task.callers;
      all = all_after program one other agreement task.outer task.all;
      held = task.held;
    }
