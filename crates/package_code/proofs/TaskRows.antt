-- Which body is that of a task, and that each task which is declared has one.
use Rattle.std.proofs.Common.{◌≡◌, ℕ, zero, suc, ◌+◌, List, [], ◌∷◌, ◌++◌, ◌⊎◌, inl, inr, drop, map, cond, Bool, true, false, Option, None, Some, ◌||◌, refl, sym, ap, ◌∙◌}
use Rattle.std.specs.List.{list_any}
use Rattle.std.specs.Prelude.{bytes_eq, is_some, not, slice_get}
use Rattle.ada_tree.specs.declared.expression.Identifier.{Identifier}
use Rattle.ada_tree.specs.StatementTree.{TaskTree}
use Rattle.ada_tree.specs.ProgramTree.{BodyItemTree, BodyTree, ItemTree, OfException, OfItem, OfObject, OfProtected, OfSubprogram, OfTask, OfType, PackageTree, ProtectedBody, SubprogramBody, TaskBody}
use Rattle.types.specs.Scopes.{Scope, number_of}
use Rattle.expr_soundness.specs.expr_rules.proofs.TypedLaw.{unbroken}
use Rattle.expr_soundness.specs.meaning.specs.Programs.{OfBody, Task, body_among, items_among, package_bodies, program_of, task_with, tasks_among}
use Rattle.expr_soundness.specs.Laws.{ScopesAreSound}
use Rattle.program_soundness.specs.BodyLaws.{NamesAreKnown, PremisesHold}
use Rattle.program_soundness.specs.Fronts.{declared_in, front, start_in}
use Rattle.program_soundness.proofs.Listing.{Has, dropped_at, has_either, one_passes, passes_at}
use Rattle.program_soundness.proofs.OneList.{is_task_body, matched_at}
use Rattle.program_soundness.proofs.Trees.{tree_package}
use Rattle.program_soundness.proofs.WiderScopes.{equal_bytes, same_bytes}
use Rattle.package_code.specs.Laws.{TasksHaveBodies}
use Rattle.package_code.specs.Bodies.{number_in, of_task}
use Rattle.package_code.proofs.Numbered.{bodies_numbered}
use Rattle.package_code.proofs.Placed.{items_are}

-- ---- the body of a task

-- a body at some place has the name of the task, and is its work
pub record HasTaskBody (bodies : List BodyItemTree) (x : Task) : Type 0 where
  pub place : ℕ
  pub own : Identifier
  pub body : BodyTree
  pub at : slice_get bodies place ≡ Some (TaskBody own body)
  pub duty : x.duty ≡ OfBody body
  pub named : own.name ≡ x.name

next_body : (i : BodyItemTree) (rest : List BodyItemTree) (x : Task) → HasTaskBody rest x → HasTaskBody (i ∷ rest) x
next_body i rest x h = record { place = suc h.place; own = h.own; body = h.body; at = h.at; duty = h.duty; named = h.named }

module _ (s : Scope) (d : TaskTree) where
  body_found : (bodies : List BodyItemTree) (x : Task) → Has (map (task_with s d) (body_among d.name bodies)) x → HasTaskBody bodies x
  body_found [] x h = absurd h
  body_found (TaskBody own b ∷ rest) x h = by_test (bytes_eq own.name d.name.name) refl h (λ k. body_found rest x k)
    where
      by_test : (c : Bool) → bytes_eq own.name d.name.name ≡ c → Has (map (task_with s d) (cond c (OfBody b ∷ []) (body_among d.name rest))) x
          → (Has (map (task_with s d) (body_among d.name rest)) x → HasTaskBody rest x) → HasTaskBody (TaskBody own b ∷ rest) x
      by_test true same (inl e) later = record {
        place = 0;
        own = own;
        body = b;
        at = refl;
        duty = ap (λ y. y.duty) (sym e);
        named = same_bytes own.name d.name.name same ∙ ap (λ y. y.name) e;
      }
      by_test true same (inr k) later = absurd k
      by_test false same k later = next_body (TaskBody own b) rest x (later k)
  body_found (OfItem i ∷ rest) x h = next_body (OfItem i) rest x (body_found rest x h)
  body_found (SubprogramBody e b ∷ rest) x h = next_body (SubprogramBody e b) rest x (body_found rest x h)
  body_found (ProtectedBody own items end_name ∷ rest) x h = next_body (ProtectedBody own items end_name) rest x (body_found rest x h)

pub task_found : (s : Scope) (bodies : List BodyItemTree) (items : List ItemTree) (x : Task) → Has (tasks_among s bodies items) x → HasTaskBody bodies x
task_found s bodies [] x h = absurd h
task_found s bodies (OfTask d ∷ rest) x h =
    by_case (has_either (map (task_with s d) (body_among d.name bodies)) (tasks_among s bodies rest) x h) (λ k. task_found s bodies rest x k)
  where
    by_case : Has (map (task_with s d) (body_among d.name bodies)) x ⊎ Has (tasks_among s bodies rest) x
        → (Has (tasks_among s bodies rest) x → HasTaskBody bodies x) → HasTaskBody bodies x
    by_case (inl k) later = body_found s d bodies x k
    by_case (inr k) later = later k
task_found s bodies (OfType d ∷ rest) x h = task_found s bodies rest x h
task_found s bodies (OfObject d ∷ rest) x h = task_found s bodies rest x h
task_found s bodies (OfException name ∷ rest) x h = task_found s bodies rest x h
task_found s bodies (OfSubprogram d ∷ rest) x h = task_found s bodies rest x h
task_found s bodies (OfProtected d ∷ rest) x h = task_found s bodies rest x h

-- ---- each task that is declared has one

-- declarations are no bodies
bodies_joined : (name : Identifier) (ds : List ItemTree) (body : List BodyItemTree) → body_among name (map OfItem ds ++ body) ≡ body_among name body
bodies_joined name [] body = refl
bodies_joined name (d ∷ ds) body = bodies_joined name ds body

all_bodies : (name : Identifier) (o : Option PackageTree) → body_among name (declared_in o) ≡ body_among name (package_bodies o)
all_bodies name (Some p) = bodies_joined name p.declaration.items p.body.items
all_bodies name None = refl

pub item_there : (all : List BodyItemTree) (n : ℕ) (d : ItemTree) → slice_get (items_among all) n ≡ Some d → (k : ℕ) × (slice_get all k ≡ Some (OfItem d))
item_there [] n d h = cc
item_there (OfItem i ∷ all) zero d h = (0, ap (λ o. elim o [ Some x ↦ Some (OfItem x) | None ↦ None ]) h)
item_there (OfItem i ∷ all) (suc n) d h = let r = item_there all n d h in (suc r.0, r.1)
item_there (SubprogramBody e b ∷ all) n d h = let r = item_there all n d h in (suc r.0, r.1)
item_there (TaskBody name b ∷ all) n d h = let r = item_there all n d h in (suc r.0, r.1)
item_there (ProtectedBody name items end_name ∷ all) n d h = let r = item_there all n d h in (suc r.0, r.1)

task_passes : (name : Identifier) (x : BodyItemTree) → is_task_body name x ≡ true
    → (own : Identifier) × (b : BodyTree) × (x ≡ TaskBody own b) × (own.name ≡ name.name)
task_passes name (TaskBody own b) h = (own, b, refl, sym (same_bytes name.name own.name h))
task_passes name (OfItem d) h = cc
task_passes name (SubprogramBody d b) h = cc
task_passes name (ProtectedBody own items end_name) h = cc

one_body : (name : Identifier) (items : List BodyItemTree) → list_any (is_task_body name) items ≡ true
    → (b : BodyTree) × (body_among name items ≡ OfBody b ∷ [])
one_body name [] h = cc
one_body name (TaskBody own b ∷ rest) h = by_test (bytes_eq own.name name.name) refl (λ k. one_body name rest k)
  where
    turned : bytes_eq own.name name.name ≡ false → (c : Bool) → bytes_eq name.name own.name ≡ c → c ≡ false
    turned unlike false e = refl
    turned unlike true e = absurd (let bad = sym unlike ∙ equal_bytes own.name name.name (sym (same_bytes name.name own.name e)) in cc)

    by_test : (c : Bool) → bytes_eq own.name name.name ≡ c
        → (list_any (is_task_body name) rest ≡ true → (r : BodyTree) × (body_among name rest ≡ OfBody r ∷ []))
        → (r : BodyTree) × (cond c (OfBody b ∷ []) (body_among name rest) ≡ OfBody r ∷ [])
    by_test true e later = (b, refl)
    by_test false e later = later (sym (ap (λ c. c || list_any (is_task_body name) rest) (turned e (bytes_eq name.name own.name) refl)) ∙ h)
one_body name (OfItem d ∷ rest) h = one_body name rest h
one_body name (SubprogramBody d b ∷ rest) h = one_body name rest h
one_body name (ProtectedBody own items end_name ∷ rest) h = one_body name rest h

not_false : (b : Bool) → not b ≡ false → b ≡ true
not_false true h = refl
not_false false h = cc

pub tasks_have_bodies : ScopesAreSound → NamesAreKnown → PremisesHold → TasksHaveBodies
tasks_have_bodies scopes known premises t legal restricted place d at =
    let all : List BodyItemTree = declared_in t.package_ in
    let w = tree_package t legal restricted (premises t legal).sound in
    let item = item_there all place (OfTask d) (ap (λ l. slice_get l place) (sym (items_are t.package_)) ∙ at) in
    let has : list_any (is_task_body d.name) (drop (suc item.0) all) ≡ true =
    not_false (list_any (is_task_body d.name) (drop (suc item.0) all))
    (unbroken _ d.name.place _ (matched_at (start_in t.package_) all w.list item.0 (OfItem (OfTask d)) item.1)) in
    let one = one_passes (is_task_body d.name) (drop (suc item.0) all) has in
    let own = task_passes d.name one.1 one.3 in
    let there : slice_get all (suc item.0 + one.0) ≡ Some (TaskBody own.0 own.1) =
    sym (dropped_at all (suc item.0) one.0) ∙ one.2 ∙ ap Some own.2 in
    let numbered = bodies_numbered scopes known premises t legal restricted (suc item.0 + one.0) (TaskBody own.0 own.1) 0
    (of_task (front t (suc (suc item.0 + one.0))) own.0 own.1) there refl in
    let any : list_any (is_task_body d.name) all ≡ true =
    passes_at (is_task_body d.name) all (suc item.0 + one.0) (TaskBody own.0 own.1) there (ap (is_task_body d.name) (sym own.2) ∙ one.3) in
    let body = one_body d.name all any in
    record {
      body = body.0;
      alone = sym (all_bodies d.name t.package_) ∙ body.1;
      numbered = ap (λ name. is_some (number_in t None name)) (sym own.3) ∙ ap is_some numbered.0;
      visible = ap (λ name. is_some (number_of (program_of t).scope name)) (sym own.3) ∙ numbered.1 refl;
    }
