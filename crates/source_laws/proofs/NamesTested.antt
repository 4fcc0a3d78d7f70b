-- A test on entities: each name in front of declarations and bodies of a text passes it, where types and objects do that the text declares.
use Rattle.std.proofs.Common.{◌≡◌, ℕ, zero, suc, Bool, true, false, cond, ◌&&◌, List, [], ◌∷◌, ◌++◌, length, Option, Some, None, refl, sym, ap, ◌∙◌}
use Rattle.std.specs.Prelude.{codes}
use Rattle.std.specs.List.{list_all}
use Rattle.std.proofs.lemmas.Bool.{and_from, and_parts}
use Rattle.std.proofs.lemmas.List.Folds.{list_all-append}
use Rattle.base.specs.declared.limits.TheConstants.{TASK_PRIORITY}
use Rattle.ada_tree.specs.StatementTree.{ObjectTree}
use Rattle.ada_tree.specs.ProgramTree.{BodyItemTree, OfException, OfItem, OfObject, OfProtected, OfSubprogram, OfTask, OfType, PackageTree, ProtectedBody, SubprogramBody, TaskBody, TypeTree}
use Rattle.types.specs.declared.entity.PredefinedOperation.{PredefinedOperation}
use Rattle.types.specs.declared.entity.PredefinedOperation.TheVariants as predefined
use Rattle.types.specs.declared.entity.RecordComponent.{RecordComponent}
use Rattle.types.specs.Entities.{Doubtful, Entity, Exception, LibraryUnit, Operation, Predefined, Profile, Protected, ProtectedObject, Put, Spans, Subprogram, Task, Times}
use Rattle.types.specs.Entities as entity
use Rattle.types.specs.Scopes.{Named, Scope, base_range_of, entity_at, from_integer, from_nothing, integer, is_visible, standard, with_control_io, with_name, with_real_time}
use Rattle.expr_soundness.specs.type_rules.specs.ObjectRules.{package_object_entity}
use Rattle.expr_soundness.specs.type_rules.specs.ProfileRules.{profile_entity}
use Rattle.expr_soundness.specs.type_rules.specs.TypeRules.{definition_entity}
use Rattle.program_soundness.specs.declaration_rules.specs.ProtectedRules.{object_components, object_operations, object_with, protected_entity}
use Rattle.program_soundness.specs.declaration_rules.specs.TaskRules.{default_priority, priority_of}
use Rattle.program_soundness.specs.declaration_rules.specs.PackageNames.{body_item_scope, clauses_scope}
use Rattle.program_soundness.specs.Fronts.{scope_at, start_in}
use Rattle.program_soundness.proofs.Listing.{same_some}
use Rattle.program_soundness.proofs.Walked.{own_profile}
use Rattle.source_laws.proofs.UnitClauses.{clauses_keep}

module _ (test : Entity → Bool) where
  abbrev pub passes_name : Named → Bool
  passes_name n = test n.entity

  abbrev pub AllPass : Scope → Type 0
  AllPass s = list_all passes_name s ≡ true

  -- what passes in each text
  pub record PassAlways : Type 0 where
    pub visible : AllPass standard
    pub times : (n : ℕ) → test (entity.OfType Times (base_range_of n)) ≡ true
    pub spans : (n : ℕ) → test (entity.OfType Spans (base_range_of n)) ≡ true
    pub predefined_ : (o : PredefinedOperation) (p : Profile) → test (Predefined o p) ≡ true
    pub put : test Put ≡ true
    pub unit_ : test LibraryUnit ≡ true
    pub exception : test Exception ≡ true
    pub task : (n : ℕ) → test (Task n) ≡ true
    pub subprogram : (p : Profile) → test (Subprogram p) ≡ true
    pub protected_ : (o : ProtectedObject) → test (Protected o) ≡ true
    pub doubtful : test Doubtful ≡ true

  -- what is told of each name
  pub passes_at : (s : Scope) (number : ℕ) (e : Entity) → AllPass s → entity_at s number ≡ Some e → test e ≡ true
  passes_at [] number e h at = cc
  passes_at (n ∷ s) zero e h at = ap test (sym (same_some n.entity e at)) ∙ (and_parts (test n.entity) (list_all passes_name s) h).0
  passes_at (n ∷ s) (suc number) e h at = passes_at s number e (and_parts (test n.entity) (list_all passes_name s) h).1 at

  -- ---- one more name

  pub with_passing : (s : Scope) (name : List ℕ) (e : Entity) → AllPass s → test e ≡ true → AllPass (with_name s name e)
  with_passing s name e h k = by_test (is_visible s name)
    where
      by_test : (b : Bool) → AllPass (cond b s (s ++ record { name = name; entity = e } ∷ []))
      by_test true = h
      by_test false =
          list_all-append passes_name s (record { name = name; entity = e } ∷ [])
          ∙ and_from (list_all passes_name s) (test e && true) h (and_from (test e) true k refl)

  module _ (always : PassAlways) where
    -- ---- in front of the package

    times_pass : (s : Scope) → AllPass s → AllPass (with_real_time s)
    times_pass s h =
        let time = base_range_of (length s) in
        let span = base_range_of (suc (length s)) in
        let one = with_name s (codes "TIME") (entity.OfType Times time) in
        let two = with_name one (codes "TIME_SPAN") (entity.OfType Spans span) in
        let three = with_name two (codes "CLOCK") (from_nothing predefined.Clock time) in
        let four = with_name three (codes "MILLISECONDS") (from_integer predefined.Milliseconds span) in
        let first = with_passing s (codes "TIME") (entity.OfType Times time) h (always.times (length s)) in
        let second = with_passing one (codes "TIME_SPAN") (entity.OfType Spans span) first (always.spans (suc (length s))) in
        let third = with_passing two (codes "CLOCK") (from_nothing predefined.Clock time) second (always.predefined_ predefined.Clock _) in
        let fourth = with_passing three (codes "MILLISECONDS") (from_integer predefined.Milliseconds span) third
        (always.predefined_ predefined.Milliseconds _) in
        with_passing four (codes "MICROSECONDS") (from_integer predefined.Microseconds span) fourth (always.predefined_ predefined.Microseconds _)

    io_pass : (s : Scope) → AllPass s → AllPass (with_control_io s)
    io_pass s h =
        with_passing (with_name s (codes "PUT") Put) (codes "READ") (from_integer predefined.Read integer) (with_passing s (codes "PUT") Put h always.put)
        (always.predefined_ predefined.Read _)

    pub start_passes : (o : Option PackageTree) → AllPass (start_in o)
    start_passes None = always.visible
    start_passes (Some p) =
        with_passing (clauses_scope standard p.clauses) p.declaration.name.name LibraryUnit
        (clauses_keep AllPass times_pass io_pass standard p.clauses always.visible) always.unit_

    -- ---- declarations and bodies

    profile_passes : (o : Option Profile) → test (profile_entity o) ≡ true
    profile_passes (Some p) = always.subprogram p
    profile_passes None = always.doubtful

    object_passes : (number ceiling : ℕ) (a : Option (List Operation)) (b : Option (List RecordComponent)) → test (object_with number ceiling a b) ≡ true
    object_passes number ceiling (Some operations) (Some components) = always.protected_ _
    object_passes number ceiling (Some operations) None = always.doubtful
    object_passes number ceiling None b = always.doubtful

    -- types and objects of items that pass a test of their own
    module _ (item_test : BodyItemTree → Bool)
        (types : (s : Scope) → AllPass s → (d : TypeTree) → item_test (OfItem (OfType d)) ≡ true → test (definition_entity s d.definition) ≡ true)
        (objects : (s : Scope) → AllPass s → (d : ObjectTree) → item_test (OfItem (OfObject d)) ≡ true → test (package_object_entity s d) ≡ true) where
      next_passes : (s : Scope) (x : BodyItemTree) → AllPass s → item_test x ≡ true → AllPass (body_item_scope s x)
      next_passes s (OfItem (OfType d)) h k = with_passing s d.name.name (definition_entity s d.definition) h (types s h d k)
      next_passes s (OfItem (OfObject d)) h k = with_passing s d.name.name (package_object_entity s d) h (objects s h d k)
      next_passes s (OfItem (OfException name)) h k = with_passing s name.name Exception h always.exception
      next_passes s (OfItem (OfSubprogram d)) h k = with_passing s d.name.name (profile_entity (own_profile s d)) h (profile_passes (own_profile s d))
      next_passes s (OfItem (OfTask d)) h k =
          with_passing s d.name.name (Task (priority_of s TASK_PRIORITY default_priority d.aspect)) h
          (always.task (priority_of s TASK_PRIORITY default_priority d.aspect))
      next_passes s (OfItem (OfProtected d)) h k =
          with_passing s d.name.name (protected_entity s d) h (object_passes _ _ (object_operations s d.operations) (object_components s d.components))
      next_passes s (SubprogramBody d b) h k = with_passing s d.name.name (profile_entity (own_profile s d)) h (profile_passes (own_profile s d))
      next_passes s (TaskBody name b) h k = h
      next_passes s (ProtectedBody name items end_name) h k = h

      pub fronts_pass : (s : Scope) (xs : List BodyItemTree) (place : ℕ) → AllPass s → list_all item_test xs ≡ true → AllPass (scope_at s xs place)
      fronts_pass s [] zero h k = h
      fronts_pass s [] (suc place) h k = h
      fronts_pass s (x ∷ xs) zero h k = h
      fronts_pass s (x ∷ xs) (suc place) h k =
          let parts = and_parts (item_test x) (list_all item_test xs) k in
          fronts_pass (body_item_scope s x) xs place (next_passes s x h parts.0) parts.1
