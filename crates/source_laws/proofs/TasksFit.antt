-- A legal program has no more tasks than an image, and so no more bodies: its declarations are counted so, and each body of a task has one.
use Rattle.std.proofs.Common.{◌≡◌, ℕ, zero, suc, ◌+◌, ◌≤◌, List, [], ◌∷◌, ◌++◌, append-nil, length, length-append, map, take, cond, ◌⊎◌, inl, inr, Bool, true, false, ◌||◌, Option, Some, None, refl, sym, ap, ◌∙◌, subst, arith, take_all}
use Rattle.std.specs.List.{list_any}
use Rattle.std.specs.Prelude.{bytes_eq, slice_get}
use Rattle.std.proofs.lemmas.Bool.{or_parts}
use Rattle.base.specs.declared.limits.TheConstants.{SUBPROGRAMS, TASKS}
use Rattle.ada_tree.specs.declared.expression.Identifier.{Identifier}
use Rattle.ada_tree.specs.StatementTree.{TaskTree}
use Rattle.ada_tree.specs.ProgramTree.{BodyItemTree, BodyTree, OfException, OfItem, OfObject, OfProtected, OfSubprogram, OfTask, OfType, PackageTree, ProgramTree, ProtectedBody, ProtectedItemTree, SubprogramBody, TaskBody}
use Rattle.image.specs.RuleLaws.{slice_get_inside}
use Rattle.types.specs.Entities.{Task}
use Rattle.types.specs.Scopes.{Scope}
use Rattle.meaning.specs.expr_rules.proofs.TypedLaw.{back_empty, front_empty, unbroken}
use Rattle.declaration_rules.specs.PackageNames.{body_item_scope}
use Rattle.legality.specs.ProgramRules.{IsLegal}
use Rattle.ravenscar.specs.ProgramRules.{IsRestricted}
use Rattle.program_soundness.specs.size_rules.specs.declared.thing.Kind.TheVariants as kind
use Rattle.program_soundness.specs.size_rules.specs.Limits.{places_of, words_faults}
use Rattle.program_soundness.specs.size_rules.specs.PackageSizes.{body_item_things, body_items_things, item_things, package_things}
use Rattle.program_soundness.specs.size_rules.specs.ProgramSizes.{exception_faults, optional_size_faults, protected_object_faults, subprogram_faults, task_faults}
use Rattle.meaning.specs.Programs.{OfBody, Program, body_among, items_among, program_of, task_with, tasks_among}
use Rattle.program_soundness.specs.Fronts.{declared_in, scope_at, start_in}
use Rattle.program_soundness.proofs.Listing.{same_some, taken_next}
use Rattle.program_soundness.proofs.OneList.{is_task_body, matched_at}
use Rattle.program_soundness.proofs.Trees.{tasks_are}
use Rattle.program_soundness.proofs.Walked.{Constants, Origin, Tasks, Variables, body_item_kind, declares}
use Rattle.program_soundness.proofs.WiderScopes.{equal_bytes, same_bytes, stands}
use Rattle.program_soundness.proofs.Whole.{IsPackage, came, origin_kind}
use Rattle.package_code.specs.Bodies.{bodies_among, object_number}
use Rattle.package_code.proofs.Differing.{AreDiffering, differing_more, is_of, no_more_than}
use Rattle.package_code.proofs.ItemsTold.{none_taken}
use Rattle.package_code.proofs.TaskNames.{task_entity}
use Rattle.package_code.proofs.InFront.{LawsOfNames, whole}
use Rattle.source_laws.proofs.CountsFit.{body_names, declared_none, many_both, no_fewer_than, one_more_than, within_kind}
use Rattle.source_laws.proofs.LabelsFit.{within_limit}
use Rattle.source_laws.proofs.OperationsFit.{body_texts, object_texts, subprograms_within}

-- ---- declared tasks, by their names

abbrev declared_names : List BodyItemTree → List (List ℕ)
declared_names [] = []
declared_names (OfItem (OfTask d) ∷ rest) = d.name.name ∷ declared_names rest
declared_names (x ∷ rest) = declared_names rest

declared_few : (k : _) → ((s : Scope) (d : TaskTree) → places_of k (item_things s (OfTask d)) ≡ d.place ∷ []) → (s : Scope) (items : List BodyItemTree)
    → length (declared_names items) ≤ length (places_of k (body_items_things s items))
declared_few k own s [] = omega arith
declared_few k own s (OfItem (OfTask d) ∷ rest) =
    let next = body_item_scope s (OfItem (OfTask d)) in
    one_more_than (length (declared_names rest)) (length (places_of k (body_items_things next rest))) (length (places_of k (item_things s (OfTask d))))
    (length (places_of k (body_items_things s (OfItem (OfTask d) ∷ rest)))) (declared_few k own next rest)
    (many_both k (item_things s (OfTask d)) (body_items_things next rest)) (ap length (own s d))
declared_few k own s (x ∷ rest) =
    no_fewer_than (length (declared_names rest)) (length (places_of k (body_items_things (body_item_scope s x) rest)))
    (length (places_of k (body_item_things s x))) (length (places_of k (body_items_things s (x ∷ rest)))) (declared_few k own (body_item_scope s x) rest)
    (many_both k (body_item_things s x) (body_items_things (body_item_scope s x) rest))

-- a declaration at its place
later_too : (b c : Bool) → c ≡ true → (b || c) ≡ true
later_too true c e = refl
later_too false c e = e

declared_behind : (x : BodyItemTree) (rest : List BodyItemTree) (q : List ℕ) → is_of (declared_names rest) q ≡ true → is_of (declared_names (x ∷ rest)) q ≡ true
declared_behind (OfItem (OfTask d)) rest q h = later_too (bytes_eq q d.name.name) (is_of (declared_names rest) q) h
declared_behind x rest q h = h

declared_there : (items : List BodyItemTree) (k : ℕ) (d : TaskTree) → slice_get items k ≡ Some (OfItem (OfTask d))
    → is_of (declared_names items) d.name.name ≡ true
declared_there [] k d h = cc
declared_there (x ∷ items) zero d h =
    subst (λ y. is_of (declared_names (y ∷ items)) d.name.name ≡ true) (sym (same_some x (OfItem (OfTask d)) h))
    (ap (λ c. c || is_of (declared_names items) d.name.name) (equal_bytes d.name.name d.name.name refl))
declared_there (x ∷ items) (suc k) d h = declared_behind x items d.name.name (declared_there items k d h)

task_item : (i : BodyItemTree) → Tasks ≡ body_item_kind i → (d : TaskTree) × (i ≡ OfItem (OfTask d))
task_item (OfItem (OfTask d)) h = (d, refl)
task_item (OfItem (OfObject d)) h = absurd (unlike d.constant h)
  where
    unlike : (b : Bool) → Tasks ≡ cond b Constants Variables → ⊥
    unlike true k = cc
    unlike false k = cc
task_item (OfItem (OfType d)) h = cc
task_item (OfItem (OfException name)) h = cc
task_item (OfItem (OfSubprogram d)) h = cc
task_item (OfItem (OfProtected d)) h = cc
task_item (SubprogramBody d b) h = cc
task_item (TaskBody name b) h = cc
task_item (ProtectedBody name items end_name) h = cc

-- ---- tasks, of which each declaration makes at most one

one_task : (s : Scope) (d : TaskTree) (bodies : List BodyItemTree) → length (map (task_with s d) (body_among d.name bodies)) ≤ 1
one_task s d [] = omega arith
one_task s d (TaskBody own b ∷ rest) = by_test (bytes_eq own.name d.name.name) (one_task s d rest)
  where
    by_test : (c : Bool) → length (map (task_with s d) (body_among d.name rest)) ≤ 1
        → length (map (task_with s d) (cond c (OfBody b ∷ []) (body_among d.name rest))) ≤ 1
    by_test true later = omega arith
    by_test false later = later
one_task s d (OfItem i ∷ rest) = one_task s d rest
one_task s d (SubprogramBody e b ∷ rest) = one_task s d rest
one_task s d (ProtectedBody own items end_name ∷ rest) = one_task s d rest

tasks_declared : (s : Scope) (bodies items : List BodyItemTree) → length (tasks_among s bodies (items_among items)) ≤ length (declared_names items)
tasks_declared s bodies [] = omega arith
tasks_declared s bodies (OfItem (OfTask d) ∷ rest) =
    let one = one_task s d bodies in
    let later = tasks_declared s bodies rest in
    let both = length-append (map (task_with s d) (body_among d.name bodies)) (tasks_among s bodies (items_among rest)) in
    sums (length (map (task_with s d) (body_among d.name bodies) ++ tasks_among s bodies (items_among rest)))
    (length (map (task_with s d) (body_among d.name bodies))) (length (tasks_among s bodies (items_among rest))) (length (declared_names rest)) both one later
  where
    sums : (n a b c : ℕ) → n ≡ a + b → a ≤ 1 → b ≤ c → n ≤ suc c
    sums n a b c e h i = omega (arith, e, h, i)
tasks_declared s bodies (OfItem (OfType d) ∷ rest) = tasks_declared s bodies rest
tasks_declared s bodies (OfItem (OfObject d) ∷ rest) = tasks_declared s bodies rest
tasks_declared s bodies (OfItem (OfException name) ∷ rest) = tasks_declared s bodies rest
tasks_declared s bodies (OfItem (OfSubprogram d) ∷ rest) = tasks_declared s bodies rest
tasks_declared s bodies (OfItem (OfProtected d) ∷ rest) = tasks_declared s bodies rest
tasks_declared s bodies (SubprogramBody d b ∷ rest) = tasks_declared s bodies rest
tasks_declared s bodies (TaskBody name b ∷ rest) = tasks_declared s bodies rest
tasks_declared s bodies (ProtectedBody name items end_name ∷ rest) = tasks_declared s bodies rest

-- ---- bodies of tasks, by their names

abbrev task_names : List BodyItemTree → List (List ℕ)
task_names [] = []
task_names (TaskBody name b ∷ rest) = name.name ∷ task_names rest
task_names (x ∷ rest) = task_names rest

-- each body is that of a subprogram, a task or an operation
names_many : (w : Scope) (items : List BodyItemTree)
    → bodies_among items ≡ length (body_names items) + length (task_names items) + length (object_texts w items)
names_many w [] = refl
names_many w (SubprogramBody d b ∷ rest) = (let later = names_many w rest in omega (arith, later))
names_many w (TaskBody name b ∷ rest) = (let later = names_many w rest in omega (arith, later))
names_many w (OfItem d ∷ rest) = names_many w rest
names_many w (ProtectedBody name items end_name ∷ rest) =
    let later = names_many w rest in
    let both = length-append (body_texts (object_number w name) items) (object_texts w rest) in
    let own = texts_many (object_number w name) items in
    omega (arith, later, both, own)
  where
    texts_many : (o : ℕ) (is : List ProtectedItemTree) → length (body_texts o is) ≡ length is
    texts_many o [] = refl
    texts_many o (i ∷ is) = ap suc (texts_many o is)

names_joined : (xs ys : List BodyItemTree) → task_names (xs ++ ys) ≡ task_names xs ++ task_names ys
names_joined [] ys = refl
names_joined (TaskBody name b ∷ xs) ys = ap (λ l. name.name ∷ l) (names_joined xs ys)
names_joined (x ∷ xs) ys = names_joined xs ys

no_body : (name : Identifier) (items : List BodyItemTree) → list_any (is_task_body name) items ≡ false → is_of (task_names items) name.name ≡ false
no_body name [] h = refl
no_body name (TaskBody own b ∷ rest) h =
    let parts = or_parts (is_task_body name (TaskBody own b)) (list_any (is_task_body name) rest) h in
    ap (λ c. c || is_of (task_names rest) name.name) parts.0 ∙ no_body name rest parts.1
no_body name (x ∷ rest) h = no_body name rest h

-- a name of a body is that of a body at some place
named_at : (items : List BodyItemTree) (q : List ℕ) → is_of (task_names items) q ≡ true
    → (k : ℕ) × (name : Identifier) × (b : BodyTree) × (slice_get items k ≡ Some (TaskBody name b)) × (q ≡ name.name)
named_at [] q h = cc
named_at (TaskBody name b ∷ rest) q h = by_test (bytes_eq q name.name) refl h (named_at rest q)
  where
    by_test : (c : Bool) → bytes_eq q name.name ≡ c → (c || is_of (task_names rest) q) ≡ true
        → (is_of (task_names rest) q ≡ true
        → (k : ℕ) × (own : Identifier) × (a : BodyTree) × (slice_get rest k ≡ Some (TaskBody own a)) × (q ≡ own.name))
        → (k : ℕ) × (own : Identifier) × (a : BodyTree) × (slice_get (TaskBody name b ∷ rest) k ≡ Some (TaskBody own a)) × (q ≡ own.name)
    by_test true e k later = (0, name, b, refl, same_bytes q name.name e)
    by_test false e k later = let n = later k in (suc n.0, n.1, n.2, n.3, n.4)
named_at (x ∷ rest) q h = let n = named_at rest q h in (suc n.0, n.1, n.2, n.3, n.4)

module _ (program : Program) (s : Scope) (all : List BodyItemTree) (w : IsPackage program s all) where
  one_more : (k : ℕ) (x : BodyItemTree) → slice_get all k ≡ Some x → AreDiffering (task_names (take k all))
      → AreDiffering (task_names (take k all) ++ task_names (x ∷ []))
  one_more k (TaskBody name b) at h =
      differing_more (task_names (take k all)) name.name h
      (no_body name (take k all) (unbroken _ name.place _ (matched_at s all w.list k (TaskBody name b) at)))
  one_more k x at h = subst AreDiffering (sym (append-nil (task_names (take k all)))) h

  differing_upto : (k : ℕ) → k ≤ length all → AreDiffering (task_names (take k all))
  differing_upto zero up = subst (λ l. AreDiffering (task_names l)) (sym (none_taken all)) tt
  differing_upto (suc k) up =
      let x = slice_get_inside all k (omega (arith, up)) in
      subst AreDiffering (sym (ap task_names (taken_next all k x.0 x.1) ∙ names_joined (take k all) (x.0 ∷ [])))
      (one_more k x.0 x.1 (differing_upto k (omega (arith, up))))

  differing : AreDiffering (task_names all)
  differing = subst (λ l. AreDiffering (task_names l)) (take_all (length all) all (omega arith)) (differing_upto (length all) (omega arith))

  -- each has a declaration of its name
  is_declared : (k : ℕ) (name : Identifier) (b : BodyTree) → slice_get all k ≡ Some (TaskBody name b) → is_of (declared_names all) name.name ≡ true
  is_declared k name b at =
      let e = task_entity program s all w k name b at in
      by_case e.0 (came program s all w name.name (Task e.0) e.1)
    where
      by_item : (p : ℕ) (o : Origin s all name.name (Task p)) → (d : TaskTree) × (o.item ≡ OfItem (OfTask d)) → is_of (declared_names all) name.name ≡ true
      by_item p o i =
          let declared = ap (declares (scope_at s all o.place)) (sym i.1) ∙ o.declared in
          let named : i.0.name.name ≡ name.name = ap (λ x. x.name) (same_some _ (record { name = name.name; entity = Task p }) declared) in
          subst (λ q. is_of (declared_names all) q ≡ true) named (declared_there all o.place i.0 (o.at ∙ ap Some i.1))

      by_case : (p : ℕ) → (stands s name.name ≡ Some (Task p)) ⊎ Origin s all name.name (Task p) → is_of (declared_names all) name.name ≡ true
      by_case p (inl j) = let first = (w.started name.name (Task p) j).first in cc
      by_case p (inr o) = by_item p o (task_item o.item (origin_kind program s all w name.name (Task p) o (λ d. cc)))

  bodies_few : length (task_names all) ≤ length (declared_names all)
  bodies_few =
      no_more_than (task_names all) (declared_names all) differing
      (λ q h.
      let n = named_at all q h in
      subst (λ z. is_of (declared_names all) z ≡ true) (sym n.4) (is_declared n.0 n.1 n.2 n.3))

-- ---- limits

declared_by : (k : _) (p : PackageTree) → length (places_of k (package_things p)) ≤ 64
    → ((s : Scope) (d : TaskTree) → places_of k (item_things s (OfTask d)) ≡ d.place ∷ []) → length (declared_names (declared_in (Some p))) ≤ 64
declared_by k p few own =
    within_kind k p 64 (length (declared_names (declared_in (Some p)))) few (declared_few k own (start_in (Some p)) (declared_in (Some p)))

declared_within : (o : Option PackageTree) → optional_size_faults o ≡ [] → length (declared_names (declared_in o)) ≤ 64
declared_within None h = omega arith
declared_within (Some p) h =
    let ts = package_things p in
    let none : task_faults ts ≡ [] =
    back_empty (subprogram_faults ts) (task_faults ts) (front_empty (subprogram_faults ts ++ task_faults ts) (protected_object_faults ts)
    (front_empty (subprogram_faults ts ++ task_faults ts ++ protected_object_faults ts) (exception_faults ts)
    (front_empty (subprogram_faults ts ++ task_faults ts ++ protected_object_faults ts ++ exception_faults ts) (words_faults _ ts)
    (declared_none p h)))) in
    declared_by kind.Task p (within_limit 64 (places_of kind.Task ts) none) (λ s d. refl)

pub tasks_few : (t : ProgramTree) → optional_size_faults t.package_ ≡ [] → length (program_of t).tasks ≤ TASKS
tasks_few t h =
    let all : List BodyItemTree = declared_in t.package_ in
    let s : Scope = (program_of t).scope in
    under (length (program_of t).tasks) (length (tasks_among s all (items_among all))) (length (declared_names all))
    (ap length (tasks_are t) ∙ length-append (tasks_among s all (items_among all)) _) (tasks_declared s all all) (declared_within t.package_ h)
  where
    under : (n a b : ℕ) → n ≡ a + 1 → a ≤ b → b ≤ 64 → n ≤ TASKS
    under n a b e h i = omega (arith, e, h, i)

pub subprograms_few : LawsOfNames → (t : ProgramTree) → IsLegal t → IsRestricted t → optional_size_faults t.package_ ≡ []
    → suc (bodies_among (declared_in t.package_)) ≤ SUBPROGRAMS
subprograms_few laws t legal restricted h =
    let all : List BodyItemTree = declared_in t.package_ in
    let names : Scope = (program_of t).scope in
    let w = whole laws t legal restricted in
    under (bodies_among all) (length (body_names all)) (length (task_names all)) (length (object_texts names all)) (length (declared_names all))
    (names_many names all) (subprograms_within laws t legal restricted h) (bodies_few (program_of t) (start_in t.package_) all w)
    (declared_within t.package_ h)
  where
    under : (n a b o c : ℕ) → n ≡ a + b + o → a + o ≤ 128 → b ≤ c → c ≤ 64 → suc n ≤ SUBPROGRAMS
    under n a b o c e h i j = omega (arith, e, h, i, j)
