-- The rows of tasks, added one by one, are those of the tasks among declarations.
use Rattle.std.proofs.Common.{◌≡◌, ℕ, suc, ◌+◌, ◌<◌, List, [], ◌∷◌, ◌++◌, append-nil, append_assoc, drop, get_or, length, map, take, refl, sym, ap, ◌∙◌, subst}
use Rattle.ada_tree.specs.declared.declaration.Item.{Item}
use Rattle.ada_tree.specs.declared.program.BodyItem.{BodyItem}
use Rattle.ada_tree.specs.ProgramTree.{BodyItemTree, ItemTree, OfTask, ProgramTree, body_item_tree, item_tree}
use Rattle.image.specs.declared.tasks.Task as rows
use Rattle.types.specs.Scopes.{Scope}
use Rattle.expr_soundness.specs.meaning.specs.Programs.{Task, body_among, items_among, package_bodies, program_of, task_with, tasks_among}
use Rattle.step_simulation.specs.part_code.proofs.Lists.{mapped_next}
use Rattle.package_code.specs.Tasks.{AddsTasks, AreKnownTasks, HaveTasks}
use Rattle.package_code.proofs.Declared.{among_both}
use Rattle.package_code.proofs.GlobalsRefused.{split_at}
use Rattle.program_soundness.proofs.Listing.{front_at}

-- ---- tasks of declarations one behind another

pub tasks_both : (s : Scope) (bodies : List BodyItemTree) (xs ys : List ItemTree)
    → tasks_among s bodies (xs ++ ys) ≡ tasks_among s bodies xs ++ tasks_among s bodies ys
tasks_both s bodies [] ys = refl
tasks_both s bodies (OfTask d ∷ xs) ys =
    ap (λ l. map (task_with s d) (body_among d.name bodies) ++ l) (tasks_both s bodies xs ys)
    ∙ sym (append_assoc (map (task_with s d) (body_among d.name bodies)) (tasks_among s bodies xs) (tasks_among s bodies ys))
tasks_both s bodies (x ∷ xs) ys = tasks_both s bodies xs ys

module _ (t : ProgramTree) where
  abbrev Of : List ItemTree → List Task
  Of items = tasks_among (program_of t).scope (package_bodies t.package_) items

  pub have_both : (xs ys : List Task) (table more : List rows.Task) → HaveTasks t xs table → HaveTasks t ys more → HaveTasks t (xs ++ ys) (table ++ more)
  have_both [] ys [] more h k = k
  have_both (x ∷ xs) ys (line ∷ table) more h k = (h.0, have_both xs ys table more h.1 k)
  have_both [] ys (line ∷ table) more h k = absurd h
  have_both (x ∷ xs) ys [] more h k = absurd h

  -- ---- rows

  -- declarations that declare no task
  pub adds_none : (old : List rows.Task) (items : List ItemTree) → Of items ≡ [] → AddsTasks t old items old
  adds_none old items none = record { added = []; appended = sym (append-nil old); have = subst (λ l. HaveTasks t l []) (sym none) tt }

  pub adds_then : (a b c : List rows.Task) (xs ys : List ItemTree) → AddsTasks t a xs b → AddsTasks t b ys c → AddsTasks t a (xs ++ ys) c
  adds_then a b c xs ys h k = record {
    added = h.added ++ k.added;
    appended = k.appended ∙ ap (λ l. l ++ k.added) h.appended ∙ append_assoc a h.added k.added;
    have = subst (λ l. HaveTasks t l (h.added ++ k.added)) (sym (tasks_both (program_of t).scope (package_bodies t.package_) xs ys))
        (have_both (Of xs) (Of ys) h.added k.added h.have k.have);
  }

  pub item_next : (a b c : List rows.Task) (all : List Item) (n : ℕ) (x : Item) → n < length all → x ≡ get_or all n x
      → AddsTasks t a (map item_tree (take n all)) b → AddsTasks t b (item_tree x ∷ []) c → AddsTasks t a (map item_tree (take (n + 1) all)) c
  item_next a b c all n x less is h k =
      subst (λ l. AddsTasks t a l c) (sym (mapped_next item_tree all n x less is)) (adds_then a b c (map item_tree (take n all)) (item_tree x ∷ []) h k)

  pub body_item_next : (a b c : List rows.Task) (all : List BodyItem) (n : ℕ) (x : BodyItem) → n < length all → x ≡ get_or all n x
      → AddsTasks t a (items_among (map body_item_tree (take n all))) b → AddsTasks t b (items_among (body_item_tree x ∷ [])) c
      → AddsTasks t a (items_among (map body_item_tree (take (n + 1) all))) c
  body_item_next a b c all n x less is h k =
      subst (λ l. AddsTasks t a l c)
      (sym (ap items_among (mapped_next body_item_tree all n x less is) ∙ among_both (map body_item_tree (take n all)) (body_item_tree x ∷ [])))
      (adds_then a b c (items_among (map body_item_tree (take n all))) (items_among (body_item_tree x ∷ [])) h k)

  -- ---- what is known of tasks among declarations

  pub known_left : (xs ys : List ItemTree) → AreKnownTasks t (xs ++ ys) → AreKnownTasks t xs
  known_left xs ys known n d at = known n d (front_at xs ys n (OfTask d) at)

  pub known_right : (xs ys : List ItemTree) → AreKnownTasks t (xs ++ ys) → AreKnownTasks t ys
  known_right [] ys known n d at = known n d at
  known_right (x ∷ xs) ys known n d at = known_right xs ys (λ m e there. known (suc m) e there) n d at

  pub known_item : (all : List Item) (n : ℕ) (x : Item) → n < length all → x ≡ get_or all n x → AreKnownTasks t (map item_tree all)
      → AreKnownTasks t (item_tree x ∷ [])
  known_item all n x less is known =
      let front : List ItemTree = map item_tree (take n all) in
      known_right front (item_tree x ∷ [])
      (known_left (front ++ item_tree x ∷ []) (map item_tree (drop (n + 1) all)) (subst (AreKnownTasks t) (sym (split_at item_tree all n x less is)) known))

  pub known_body_item : (all : List BodyItem) (n : ℕ) (x : BodyItem) → n < length all → x ≡ get_or all n x
      → AreKnownTasks t (items_among (map body_item_tree all)) → AreKnownTasks t (items_among (body_item_tree x ∷ []))
  known_body_item all n x less is known =
      let front : List BodyItemTree = map body_item_tree (take n all) in
      let one : List BodyItemTree = body_item_tree x ∷ [] in
      let behind : List BodyItemTree = map body_item_tree (drop (n + 1) all) in
      known_right (items_among front) (items_among one)
      (known_left (items_among front ++ items_among one) (items_among behind)
      (subst (AreKnownTasks t)
      (ap items_among (sym (split_at body_item_tree all n x less is)) ∙ among_both (front ++ one) behind
      ∙ ap (λ l. l ++ items_among behind) (among_both front one)) known))
