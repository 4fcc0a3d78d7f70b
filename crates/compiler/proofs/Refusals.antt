-- Why no sections of a program are put together: what refuses its variables, its bodies, main or its tables refuses the program.
use Rattle.std.proofs.Common.{◌≡◌, ℕ, suc, ◌+◌, ◌≤◌, ◌<◌, List, [], ◌∷◌, ◌++◌, length, map, take, inl, inr, true, ◌&&◌, Option, Some, None, refl, sym, ap, ◌∙◌, subst, arith, length-append, take_all}
use Rattle.std.specs.List.{list_all}
use Rattle.std.specs.Prelude.{sum_by}
use Rattle.base.specs.Names.{is_label, is_name}
use Rattle.base.specs.declared.limits.TheConstants.{EXCEPTIONS, INSTRUCTIONS, LABELS, OBJECTS, ROWS, TASKS, WORDS}
use Rattle.ada_tree.specs.ProgramTree.{BodyItemTree, ItemTree, OfItem, PackageTree, ProgramTree}
use Rattle.image.specs.ObjectTable.{ObjectRow}
use Rattle.image.specs.Sections.{Sections}
use Rattle.types.specs.Layouts.{total}
use Rattle.types.specs.Scopes.{Scope}
use Rattle.meaning.specs.Programs.{components_among, package_bodies, package_items, program_of}
use Rattle.program_soundness.specs.Fronts.{declared_in}
use Rattle.expr_code.specs.Code.{here}
use Rattle.expr_code.specs.Refusing.{IsRefused}
use Rattle.expr_code.specs.Seeing.{told_of}
use Rattle.expr_code.specs.declared.refusal.ImageLimit.{ImageLimit}
use Rattle.expr_code.specs.declared.refusal.ImageLimit.TheVariants as limits
use Rattle.expr_code.specs.declared.refusal.Refusal.{Refusal}
use Rattle.expr_code.specs.declared.refusal.Refusal.TheVariants as refusal
use Rattle.step_simulation.specs.part_code.specs.Bounds.{main_bound}
use Rattle.step_simulation.specs.part_code.specs.Needs.{HasManyLabels, RefusesMain}
use Rattle.package_code.specs.Bodies.{bodies_among, bodies_before, names_among, number_from}
use Rattle.package_code.specs.Counts.{bounds_from}
use Rattle.package_code.specs.Directory.{HaveBodyNumbers, HasManyBodies, HasNoNumbers, IsDirectory, component_told, entries_among, operation_told}
use Rattle.package_code.specs.Globals.{AreGlobals, RefusesGlobals}
use Rattle.package_code.specs.Laws.{HasFew}
use Rattle.package_code.specs.Package.{first_words_of}
use Rattle.package_code.specs.Program.{HasProgram, PassesTable, has_texts}
use Rattle.source_laws.specs.Limits.{MayPassLimits}
use Rattle.source_laws.specs.Spelled.{is_spelled}
use Rattle.compiler.specs.Compiled.{RefusesCompiling}
use Rattle.package_code.specs.Refusing.{HasMany, HasManyWords, RefusesSections, RefusesLinking, items_labels, items_rows, program_labels, program_rows, program_words, seen_at}
use Rattle.package_code.specs.Walking.{IsAsTold, IsWalked}
use Rattle.package_code.specs.declared.directory.Directory.{Directory}
use Rattle.package_code.specs.declared.globals.Globals.{Globals}
use Rattle.package_code.specs.declared.walk.Walk.{Walk}
use Rattle.package_code.specs.Objects.{RefusesObjects, component_slots, object_words}
use Rattle.expr_code.proofs.Refusals.{no_limit}
use Rattle.package_code.proofs.ComponentSlots.{components_told}
use Rattle.package_code.proofs.Numbered.{operations_numbered}
use Rattle.package_code.proofs.ObjectNumbers.{rows_words}
use Rattle.compiler.proofs.TaskLines.{as_many_tasks, names_told}

-- ---- bodies stand in the package's body

names_behind : (s : Scope) (ds : List ItemTree) (body : List BodyItemTree) → names_among s (map OfItem ds ++ body) ≡ names_among s body
names_behind s [] body = refl
names_behind s (d ∷ ds) body = names_behind s ds body

pub names_of : (s : Scope) (o : Option PackageTree) → names_among s (package_bodies o) ≡ names_among s (declared_in o)
names_of s (Some p) = sym (names_behind s p.declaration.items p.body.items)
names_of s None = refl

bodies_behind : (ds : List ItemTree) (body : List BodyItemTree) → bodies_among (map OfItem ds ++ body) ≡ bodies_among body
bodies_behind [] body = refl
bodies_behind (d ∷ ds) body = bodies_behind ds body

bodies_are : (o : Option PackageTree) → bodies_among (package_bodies o) ≡ bodies_among (declared_in o)
bodies_are (Some p) = sym (bodies_behind p.declaration.items p.body.items)
bodies_are None = refl

module _ (t : ProgramTree) where
  abbrev all : List BodyItemTree
  all = declared_in t.package_

  abbrev whole : Scope
  whole = (program_of t).scope

  -- what the tables of a program tell
  pub directory_told : (g : Globals) (numbers : List (Option ℕ)) (directory : Directory) → AreGlobals whole (package_items t.package_) g
      → HaveBodyNumbers whole (package_bodies t.package_) numbers → directory.slots.items ≡ g.slots.items → directory.numbers.items ≡ numbers
      → directory.operations.items ≡ entries_among whole 0 (package_bodies t.package_)
      → directory.components.items ≡ component_slots whole 0 (package_items t.package_)
      → IsDirectory t directory
  directory_told g numbers directory are numbered slots same entries parts = record {
    slots = λ name. ap (λ l. told_of whole l name) slots ∙ are.slots name;
    numbers = λ name n seen. ap (λ l. told_of whole l name) same ∙ numbered.told name n seen
        ∙ ap (λ l. number_from 0 l None name) (names_of whole t.package_);
    operations = λ o name. ap (λ l. operation_told l o name) entries ∙ operations_numbered whole 0 (package_bodies t.package_) o name
        ∙ ap (λ l. number_from 0 l (Some o) name) (names_of whole t.package_);
    components = λ o name. ap (λ l. component_told l o name) parts ∙ components_told t o name;
  }

  -- ... where they were made of its text and its names
  pub tables_told : (s : Scope) (items : List ItemTree) (bodies : List BodyItemTree) → s ≡ whole → items ≡ package_items t.package_
      → bodies ≡ package_bodies t.package_ → (g : Globals) → AreGlobals s items g → (directory : Directory) → HaveBodyNumbers s bodies directory.numbers.items
      → directory.slots ≡ g.slots
      → directory.operations.items ≡ entries_among s 0 bodies
      → directory.components.items ≡ component_slots s 0 items
      → AreGlobals whole (package_items t.package_) (record g { slots = directory.slots }) × IsDirectory t directory
  tables_told s items bodies scope declared written g are directory numbered slots entries parts =
      let theirs : AreGlobals whole (package_items t.package_) g =
      subst (λ z. AreGlobals z (package_items t.package_) g) scope (subst (λ l. AreGlobals s l g) declared are) in (
        subst (λ z. AreGlobals whole (package_items t.package_) (record g { slots = z })) (sym slots) theirs,
        directory_told g directory.numbers.items directory theirs
            (subst (λ z. HaveBodyNumbers z (package_bodies t.package_) directory.numbers.items) scope
            (subst (λ l. HaveBodyNumbers s l directory.numbers.items) written numbered))
            (ap (λ z. z.items) slots) refl (entries ∙ (λ j. entries_among (scope j) 0 (written j))) (parts ∙ (λ j. component_slots (scope j) 0 (declared j))),
      )

  -- ---- memory

  pub plain_refused : (why : Refusal) → IsRefused 0 0 why → RefusesSections t why
  plain_refused refusal.Memory r = inl (inl tt)
  plain_refused (refusal.Limit limit) r = absurd (no_limit limit r)

  -- ---- protected objects

  pub objects_refused : (why : Refusal) → RefusesObjects whole (package_items t.package_) why → RefusesSections t why
  objects_refused refusal.Memory r = inl (inl tt)
  objects_refused (refusal.Limit limits.Words) r = inr (inl (omega (arith, r)))
  objects_refused why r = absurd r

  -- ---- variables and bodies

  pub globals_refused : (why : Refusal) → RefusesGlobals whole [] (package_items t.package_) why → RefusesSections t why
  globals_refused refusal.Memory r = inl (inl tt)
  globals_refused (refusal.Limit limits.Words) r =
      inr (inl (more (length (first_words_of (program_of t).variables))
      (total (map (λ cs. length (first_words_of cs)) (components_among whole (package_items t.package_)))) r))
    where
      more : (a b : ℕ) → WORDS < a → WORDS < a + b
      more a b h = omega (arith, h)
  globals_refused why r = absurd r

  pub bodies_refused : (why : Refusal) → HasManyBodies (package_bodies t.package_) why → RefusesSections t why
  bodies_refused refusal.Memory r = inl (inl tt)
  bodies_refused (refusal.Limit limits.Subprograms) r = inr (inr (inl (let e = bodies_are t.package_ in omega (arith, r, e))))
  bodies_refused why r = absurd r

  -- ---- main

  -- main's number is how many bodies there are
  pub walked_bodies : (walk : Walk) {directory : Directory} → IsWalked t directory walk → walk.place ≡ length all
      → length walk.subprograms.items ≡ bodies_among all
  walked_bodies walk walked last = walked.many ∙ ap bodies_among (ap (λ n. take n all) last ∙ take_all (length all) all (omega arith))

  module _ (walk : Walk) (told : IsAsTold t walk) (last : walk.place ≡ length all) where
    few : here walk.draft.code ≤ total (bounds_from t 0 all)
    few =
        subst (λ l. here walk.draft.code ≤ total (bounds_from t 0 l)) (ap (λ n. take n all) last ∙ take_all (length all) all (omega arith)) told.few

    pub labels_told : walk.draft.labels ≡ program_labels t
    labels_told = told.labels ∙ ap (items_labels []) (ap (λ n. take n all) last ∙ take_all (length all) all (omega arith))

    pub rows_told : length walk.draft.rows.items ≡ program_rows t
    rows_told = told.rows ∙ ap (items_rows 0) (ap (λ n. take n all) last ∙ take_all (length all) all (omega arith))

    pub seen_last : walk.visible ≡ seen_at t (length all)
    seen_last = told.seen ∙ ap (seen_at t) last

    pub main_refused : (why : Refusal) → RefusesMain walk.visible walk.draft.code t.main.statements (main_bound t.main.statements) why → RefusesSections t why
    main_refused refusal.Memory r = inl (inl tt)
    main_refused (refusal.Limit limits.Instructions) h = inl (inl (let less = few in omega (arith, h, less)))
    main_refused (refusal.Limit limits.Frame) h = absurd (omega (arith, h))
    main_refused why h = absurd h

    -- main's number, behind those of all bodies
    pub task_refused : (many : ℕ) → many ≡ bodies_before t walk.place → (why : Refusal) → HasNoNumbers many why → RefusesSections t why
    task_refused many is refusal.Memory r = inl (inl tt)
    task_refused many is (refusal.Limit limits.Subprograms) h =
        inr (inr (inl (let e = is ∙ ap bodies_among (ap (λ n. take n all) last ∙ take_all (length all) all (omega arith)) in omega (arith, h, e))))
    task_refused many is why h = absurd h

  -- code that keeps the rules ends within the limit
  pub row_refused : (end : ℕ) → end ≤ INSTRUCTIONS → (why : Refusal) → IsRefused end 0 why → RefusesSections t why
  row_refused end up refusal.Memory r = inl (inl tt)
  row_refused end up (refusal.Limit limits.Instructions) h = absurd (omega (arith, h, up))
  row_refused end up (refusal.Limit limits.Frame) h = absurd (omega (arith, h))
  row_refused end up why h = absurd h

  -- ---- tables

  module _ (i : Sections) (h : HasProgram t i) (labels : i.labels ≡ program_labels t) (rows : length i.rows ≡ program_rows t) where
    texts_are : has_texts i ≡ is_spelled t
    texts_are =
        λ j. list_all is_name (exceptions j) && (list_all is_label (labels j) && named j)
      where
        exceptions : i.exceptions ≡ (program_of t).exceptions
        exceptions = h.exceptions ∙ h.are.exceptions

        named : list_all (λ x. is_name x.name) i.tasks ≡ list_all (λ x. is_name x.name) (program_of t).tasks
        named = names_told t (program_of t).tasks i.tasks h.tasks

    pub texts_spelled : is_spelled t ≡ true → has_texts i ≡ true
    texts_spelled spelled = texts_are ∙ spelled

    many : length i.subprograms ≡ suc (bodies_among all)
    many =
        let a = ap length h.subprograms ∙ length-append h.walk.subprograms.items _ in
        let b = walked_bodies h.walk h.walked h.whole in
        omega (arith, a, b)

    -- words of variables and of components
    all_words : length i.plain_words + sum_by (λ o. length o.words) i.objects ≡ program_words t
    all_words =
        let plain = ap length (h.plain_words ∙ h.are.words) in
        let parts : sum_by (λ o. length o.words) i.objects ≡ object_words whole (package_items t.package_) =
        ap (sum_by (λ (o : ObjectRow). length o.words)) h.objects ∙ rows_words t 0 whole (package_items t.package_) in
        (λ j. plain j + parts j)

    pub limits_refused : length i.objects ≡ (program_of t).objects → (limit : ImageLimit) → PassesTable i limit → RefusesSections t (refusal.Limit limit)
    limits_refused objects limits.Subprograms up = inr (inr (inl (let e = many in omega (arith, up, e))))
    limits_refused objects limits.Tasks up = inr (inr (inl (subst (λ n. TASKS < n) (as_many_tasks t (program_of t).tasks i.tasks h.tasks) up)))
    limits_refused objects limits.Exceptions up = inr (inr (inl (subst (λ l. EXCEPTIONS < length l) (h.exceptions ∙ h.are.exceptions) up)))
    limits_refused objects limits.Labels up = inl (inr (subst (λ l. LABELS < length l) labels up))
    limits_refused objects limits.Words up = inr (inl (subst (λ n. WORDS < n) all_words up))
    limits_refused objects limits.Rows up = inr (inr (inr (subst (λ n. ROWS < n) rows up)))
    limits_refused objects limits.Objects up = inr (inr (inl (subst (λ n. OBJECTS < n) objects up)))
    limits_refused objects other up = absurd up

  -- ---- no legal program has too many

  module _ (few : HasFew t) where
    few_labels : (why : Refusal) → HasManyLabels (program_labels t) why → ⊥
    few_labels (refusal.Limit limits.Labels) h = let up = few.labels in absurd (omega (arith, h, up))
    few_labels why h = h

    few_words : (why : Refusal) → HasManyWords t why → ⊥
    few_words (refusal.Limit limits.Words) h = let up = few.words in absurd (omega (arith, h, up))
    few_words why h = h

    few_things : (why : Refusal) → HasMany t why → ⊥
    few_things (refusal.Limit limits.Subprograms) h = let up = few.subprograms in absurd (omega (arith, h, up))
    few_things (refusal.Limit limits.Exceptions) h = let up = few.exceptions in absurd (omega (arith, h, up))
    few_things (refusal.Limit limits.Tasks) h = let up = few.tasks in absurd (omega (arith, h, up))
    few_things (refusal.Limit limits.Objects) h = let up = few.objects in absurd (omega (arith, h, up))
    few_things why h = h

    pub few_refused : (why : Refusal) → RefusesSections t why → RefusesLinking t why
    few_refused why (inl (inl r)) = inl r
    few_refused why (inl (inr h)) = absurd (few_labels why h)
    few_refused why (inr (inl h)) = absurd (few_words why h)
    few_refused why (inr (inr (inl h))) = absurd (few_things why h)
    few_refused why (inr (inr (inr r))) = inr r

pub compiling_refused : (t : ProgramTree) → ((passed : ImageLimit) → RefusesLinking t (refusal.Limit passed) → MayPassLimits t) → (why : Refusal) → RefusesLinking t why → RefusesCompiling t why
compiling_refused t told refusal.Memory r = tt
compiling_refused t told (refusal.Limit passed) r = told passed r
