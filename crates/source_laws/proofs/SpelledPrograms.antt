-- Where each token of a whole text is spelled, what stands as a name or a label in its tree is one.
use Rattle.std.proofs.Common.{◌≡◌, ℕ, true, List, [], ◌∷◌, ◌++◌, map, Option, Some, None, refl, sym, ◌∙◌, subst}
use Rattle.std.specs.List.{list_all}
use Rattle.std.proofs.lemmas.Bool.{and_from}
use Rattle.std.proofs.lemmas.List.Folds.{list_all-append}
use Rattle.base.specs.Names.{is_name, predefined}
use Rattle.ada_tree.specs.declared.expression.Identifier.{Identifier}
use Rattle.ada_tree.specs.StatementTree.{SubprogramTree, TaskTree}
use Rattle.ada_tree.specs.ProgramTree.{BodyItemTree, BodyTree, EntryBody, ItemTree, OfException, OfItem, OfTask, OperationBody, PackageTree, ProgramTree, ProtectedBody, ProtectedItemTree, SubprogramBody, TaskBody}
use Rattle.ada_tree.specs.Language.{Limit, each, optional}
use Rattle.ada_tree.specs.ProgramGrammar.{body, body_item, item, package_part, program, protected_item}
use Rattle.types.specs.Scopes.{Scope}
use Rattle.expr_soundness.specs.meaning.specs.Programs.{Duty, Task, body_among, exceptions_among, items_among, main_task, package_bodies, package_items, program_of, task_with, tasks_among}
use Rattle.program_soundness.specs.Fronts.{declared_in}
use Rattle.stmt_code.specs.WholeRefusals.{body_labels}
use Rattle.package_code.specs.Refusing.{item_labels, items_labels, operation_labels, operations_labels, program_labels, subprogram_labels}
use Rattle.package_code.proofs.TasksAdded.{tasks_both}
use Rattle.package_code.proofs.Variables.{exceptions_both}
use Rattle.source_laws.specs.Spelled.{TextsAreSpelled, is_spelled}
use Rattle.source_laws.proofs.SpelledTokens.{spelled_tokens}
use Rattle.source_laws.proofs.SpelledStatements.{AreLabels, Keeps, Tells, body_told, both_told, joined, known, later, named, same, sooner}

-- ---- labels of bodies

labels_told : (d : SubprogramTree) (b : BodyTree) (l : Limit) → Tells (body l b) (Keeps (λ before. subprogram_labels before d b))
labels_told d b l = by_result d.result
  where
    by_result : (r : Option Identifier) → Tells (body l b) (Keeps (λ before. elim r [ None ↦ body_labels before b | Some x ↦ before ]))
    by_result None = body_told b l
    by_result (Some x) = known same

operation_told : (i : ProtectedItemTree) (l : Limit) → Tells (protected_item l i) (Keeps (λ before. operation_labels before i))
operation_told (OperationBody d b) l = later (later (labels_told d b l))
operation_told (EntryBody d barrier b) l = later (later (later (later (body_told b l))))

operations_told : (items : List ProtectedItemTree) (l : Limit) → Tells (each (protected_item l) items) (Keeps (λ before. operations_labels before items))
operations_told [] l = known same
operations_told (i ∷ rest) l = joined (operation_told i l) (operations_told rest l)

item_told : (x : BodyItemTree) (l : Limit) → Tells (body_item l x) (Keeps (λ before. item_labels before x))
item_told (OfItem d) l = known same
item_told (SubprogramBody d b) l = later (later (labels_told d b l))
item_told (TaskBody name b) l = later (later (later (later (body_told b l))))
item_told (ProtectedBody name items end_name) l = later (later (later (later (sooner (operations_told items l)))))

items_told : (xs : List BodyItemTree) (l : Limit) → Tells (each (body_item l) xs) (Keeps (λ before. items_labels before xs))
items_told [] l = known same
items_told (x ∷ rest) l = joined (item_told x l) (items_told rest l)

-- declarations of the specification have none
declared_labels : (ds : List ItemTree) (xs : List BodyItemTree) (before : List (List ℕ)) → items_labels before (map OfItem ds ++ xs) ≡ items_labels before xs
declared_labels [] xs before = refl
declared_labels (d ∷ ds) xs before = declared_labels ds xs before

package_labels_told : (o : Option PackageTree) (l : Limit) → Tells (optional (package_part l) o) (AreLabels (items_labels [] (declared_in o)))
package_labels_told None l = known refl
package_labels_told (Some p) l = later (later (sooner (later (later (later (later (sooner (begun (items_told p.body.items l)))))))))
  where
    begun : Tells (each (body_item l) p.body.items) (Keeps (λ before. items_labels before p.body.items))
        → Tells (each (body_item l) p.body.items) (AreLabels (items_labels [] (declared_in (Some p))))
    begun t =
        record { told = λ ts h s. subst AreLabels (sym (declared_labels p.declaration.items p.body.items [])) ((t.told ts h s).kept [] refl) }

-- ---- names of exceptions

abbrev AreNames : List (List ℕ) → Type 0
AreNames names = list_all is_name names ≡ true

both_names : (xs ys : List (List ℕ)) → AreNames xs → AreNames ys → AreNames (xs ++ ys)
both_names xs ys h k = list_all-append is_name xs ys ∙ and_from (list_all is_name xs) (list_all is_name ys) h k

exceptions_told : (ds : List ItemTree) (l : Limit) → Tells (each (item l) ds) (AreNames (exceptions_among ds))
exceptions_told [] l = known refl
exceptions_told (OfException name ∷ ds) l =
    both_told (λ one rest. and_from (is_name name.name) (list_all is_name (exceptions_among ds)) one rest) (sooner (named name)) (exceptions_told ds l)
exceptions_told (d ∷ ds) l = later (exceptions_told ds l)

body_exceptions_told : (xs : List BodyItemTree) (l : Limit) → Tells (each (body_item l) xs) (AreNames (exceptions_among (items_among xs)))
body_exceptions_told [] l = known refl
body_exceptions_told (OfItem (OfException name) ∷ xs) l =
    both_told (λ one rest. and_from (is_name name.name) (list_all is_name (exceptions_among (items_among xs))) one rest) (sooner (named name))
    (body_exceptions_told xs l)
body_exceptions_told (x ∷ xs) l = later (body_exceptions_told xs l)

package_exceptions_told : (o : Option PackageTree) (l : Limit)
    → Tells (optional (package_part l) o) (AreNames (predefined ++ exceptions_among (package_items o)))
package_exceptions_told None l = known refl
package_exceptions_told (Some p) l =
    later (both_told all_names (later (later (later (sooner (exceptions_told p.declaration.items l)))))
    (sooner (later (later (later (later (sooner (body_exceptions_told p.body.items l))))))))
  where
    all_names : AreNames (exceptions_among p.declaration.items) → AreNames (exceptions_among (items_among p.body.items))
        → AreNames (predefined ++ exceptions_among (package_items (Some p)))
    all_names h k =
        both_names predefined (exceptions_among (package_items (Some p))) refl
        (subst AreNames (sym (exceptions_both p.declaration.items (items_among p.body.items)))
        (both_names (exceptions_among p.declaration.items) (exceptions_among (items_among p.body.items)) h k))

-- ---- names of tasks

abbrev HaveNames : List Task → Type 0
HaveNames tasks = list_all (λ x. is_name x.name) tasks ≡ true

both_named : (xs ys : List Task) → HaveNames xs → HaveNames ys → HaveNames (xs ++ ys)
both_named xs ys h k =
    list_all-append (λ x. is_name x.name) xs ys ∙ and_from (list_all (λ x. is_name x.name) xs) (list_all (λ x. is_name x.name) ys) h k

task_named : (s : Scope) (d : TaskTree) (duties : List Duty) → is_name d.name.name ≡ true → HaveNames (map (task_with s d) duties)
task_named s d [] h = refl
task_named s d (x ∷ duties) h =
    and_from (is_name d.name.name) (list_all (λ y. is_name y.name) (map (task_with s d) duties)) h (task_named s d duties h)

module _ (s : Scope) (bodies : List BodyItemTree) where
  one_and_rest : (d : TaskTree) (ds : List ItemTree) → is_name d.name.name ≡ true → HaveNames (tasks_among s bodies ds)
      → HaveNames (tasks_among s bodies (OfTask d ∷ ds))
  one_and_rest d ds one rest =
      let duties = body_among d.name bodies in
      both_named (map (task_with s d) duties) (tasks_among s bodies ds) (task_named s d duties one) rest

  tasks_told : (ds : List ItemTree) (l : Limit) → Tells (each (item l) ds) (HaveNames (tasks_among s bodies ds))
  tasks_told [] l = known refl
  tasks_told (OfTask d ∷ ds) l = both_told (one_and_rest d ds) (later (sooner (named d.name))) (tasks_told ds l)
  tasks_told (d ∷ ds) l = later (tasks_told ds l)

  body_tasks_told : (xs : List BodyItemTree) (l : Limit) → Tells (each (body_item l) xs) (HaveNames (tasks_among s bodies (items_among xs)))
  body_tasks_told [] l = known refl
  body_tasks_told (OfItem (OfTask d) ∷ xs) l = both_told (one_and_rest d (items_among xs)) (later (sooner (named d.name))) (body_tasks_told xs l)
  body_tasks_told (x ∷ xs) l = later (body_tasks_told xs l)

  package_tasks_told : (o : Option PackageTree) (l : Limit) → Tells (optional (package_part l) o) (HaveNames (tasks_among s bodies (package_items o)))
  package_tasks_told None l = known refl
  package_tasks_told (Some p) l =
      later (both_told all_named (later (later (later (sooner (tasks_told p.declaration.items l)))))
      (sooner (later (later (later (later (sooner (body_tasks_told p.body.items l))))))))
    where
      all_named : HaveNames (tasks_among s bodies p.declaration.items) → HaveNames (tasks_among s bodies (items_among p.body.items))
          → HaveNames (tasks_among s bodies (package_items (Some p)))
      all_named h k =
          subst HaveNames (sym (tasks_both s bodies p.declaration.items (items_among p.body.items)))
          (both_named (tasks_among s bodies p.declaration.items) (tasks_among s bodies (items_among p.body.items)) h k)

-- ---- whole texts

program_told : (limit : Limit) (t : ProgramTree) → Tells (program limit t) (is_spelled t ≡ true)
program_told limit t =
    record {
      told = λ ts h s.
          let labels = labels_told.told ts h s in
          let exceptions = exceptions_are.told ts h s in
          let tasks = tasks_are.told ts h s in
          let main = main_told.told ts h s in
          let all = both_named (tasks_among whole bodies (package_items t.package_)) (main_task whole t ∷ []) tasks
          (and_from (is_name t.main.name.name) true main refl) in
          and_from _ _ exceptions (and_from _ _ labels all);
    }
  where
    labels_told : Tells (program limit t) (AreLabels (program_labels t))
    labels_told = later (sooner (package_labels_told t.package_ limit))

    exceptions_are : Tells (program limit t) (AreNames (predefined ++ exceptions_among (package_items t.package_)))
    exceptions_are = later (sooner (package_exceptions_told t.package_ limit))

    whole : Scope
    whole = (program_of t).scope

    bodies : List BodyItemTree
    bodies = package_bodies t.package_

    tasks_are : Tells (program limit t) (HaveNames (tasks_among whole bodies (package_items t.package_)))
    tasks_are = later (sooner (package_tasks_told whole bodies t.package_ limit))

    main_told : Tells (program limit t) (is_name t.main.name.name ≡ true)
    main_told = later (later (later (sooner (named t.main.name))))

pub texts_spelled : TextsAreSpelled
texts_spelled text tokens t is = (program_told is.limit t).told tokens is.tree (spelled_tokens is.spelled.row)
