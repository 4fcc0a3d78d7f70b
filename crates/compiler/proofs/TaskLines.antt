-- The lines of a program's tasks in the image's table keep the rules of images on tasks (docs/FORMATS.md, 45 and 47), and are told by the text.
use Rattle.std.proofs.Common.{◌≡◌, ℕ, suc, ◌+◌, ◌≤◌, ◌⊎◌, inl, inr, List, [], ◌∷◌, length, map, true, ◌&&◌, Option, None, Some, refl, sym, ap, ◌∙◌, subst, arith, take, take_all}
use Rattle.std.specs.List.{list_all}
use Rattle.std.specs.Prelude.{nat_le, slice_get}
use Rattle.std.proofs.lemmas.Bool.{and_from, and_parts, le-leb, lt-ltb}
use Rattle.std.proofs.lemmas.Option.{slice_get_within}
use Rattle.base.specs.Names.{is_name}
use Rattle.base.specs.declared.limits.TheConstants.{TASK_PRIORITY}
use Rattle.ada_tree.specs.StatementTree.{AspectTree, TaskTree}
use Rattle.ada_tree.specs.ProgramTree.{BodyItemTree, ItemTree, OfException, OfObject, OfProtected, OfSubprogram, OfTask, OfType, ProgramTree, TaskBody}
use Rattle.image.specs.Operations.{called}
use Rattle.image.specs.Rules.{has_body, is_task, is_task_body, none_or}
use Rattle.image.specs.Sections.{Sections}
use Rattle.image.specs.declared.subprograms.Kind.TheVariants as kinds
use Rattle.image.specs.declared.subprograms.Subprogram.{Subprogram}
use Rattle.image.specs.declared.tasks.Task as rows
use Rattle.types.specs.Scopes.{Scope}
use Rattle.declaration_rules.specs.TaskRules.{default_priority}
use Rattle.legality.specs.ProgramRules.{IsLegal}
use Rattle.ravenscar.specs.ProgramRules.{IsRestricted}
use Rattle.meaning.specs.Programs.{Duty, OfBody, OfMain, Task, base_priority, body_among, items_among, main_task, program_of, task_with, tasks_among}
use Rattle.program_soundness.specs.Fronts.{declared_in, front}
use Rattle.program_soundness.proofs.Listing.{Has, has_either, same_some}
use Rattle.program_soundness.proofs.Priorities.{aspect_low}
use Rattle.program_soundness.proofs.Trees.{tasks_are}
use Rattle.expr_code.specs.Code.{here}
use Rattle.package_code.specs.Bodies.{Coded, bodies_among, bodies_before, number_in, of_task}
use Rattle.package_code.specs.Program.{HasProgram}
use Rattle.package_code.specs.Tasks.{HasDuty, HasTask, HaveTasks}
use Rattle.package_code.specs.Walking.{HasBody, row_of}
use Rattle.package_code.proofs.InFront.{LawsOfNames}
use Rattle.package_code.proofs.Linking.{body_there_at, called_front, called_main, main_row}
use Rattle.package_code.proofs.Numbered.{bodies_numbered}
use Rattle.package_code.proofs.TaskRows.{HasTaskBody, task_found}

-- ---- priorities of tasks

priority_low : (s : Scope) (aspect : Option AspectTree) → base_priority s aspect ≤ TASK_PRIORITY
priority_low s aspect = aspect_low s TASK_PRIORITY default_priority aspect (omega arith)

duties_low : (s : Scope) (d : TaskTree) (all : List Duty) (x : Task) → Has (map (task_with s d) all) x → x.priority ≤ TASK_PRIORITY
duties_low s d [] x h = absurd h
duties_low s d (y ∷ rest) x (inl e) = subst (λ z. z.priority ≤ TASK_PRIORITY) e (priority_low s d.aspect)
duties_low s d (y ∷ rest) x (inr h) = duties_low s d rest x h

declared_low : (s : Scope) (bodies : List BodyItemTree) (items : List ItemTree) (x : Task) → Has (tasks_among s bodies items) x → x.priority ≤ TASK_PRIORITY
declared_low s bodies [] x h = absurd h
declared_low s bodies (OfTask d ∷ rest) x h =
    by_case (has_either (map (task_with s d) (body_among d.name bodies)) (tasks_among s bodies rest) x h) (λ k. declared_low s bodies rest x k)
  where
    by_case : Has (map (task_with s d) (body_among d.name bodies)) x ⊎ Has (tasks_among s bodies rest) x
        → (Has (tasks_among s bodies rest) x → x.priority ≤ TASK_PRIORITY) → x.priority ≤ TASK_PRIORITY
    by_case (inl k) later = duties_low s d (body_among d.name bodies) x k
    by_case (inr k) later = later k
declared_low s bodies (OfType d ∷ rest) x h = declared_low s bodies rest x h
declared_low s bodies (OfObject d ∷ rest) x h = declared_low s bodies rest x h
declared_low s bodies (OfException name ∷ rest) x h = declared_low s bodies rest x h
declared_low s bodies (OfSubprogram d ∷ rest) x h = declared_low s bodies rest x h
declared_low s bodies (OfProtected d ∷ rest) x h = declared_low s bodies rest x h

-- ---- as many lines as tasks, with their names

pub as_many_tasks : (t : ProgramTree) (xs : List Task) (table : List rows.Task) → HaveTasks t xs table → length table ≡ length xs
as_many_tasks t [] [] h = refl
as_many_tasks t (x ∷ xs) (line ∷ table) h = ap suc (as_many_tasks t xs table h.1)
as_many_tasks t [] (line ∷ table) h = absurd h
as_many_tasks t (x ∷ xs) [] h = absurd h

pub names_told : (t : ProgramTree) (xs : List Task) (table : List rows.Task) → HaveTasks t xs table
    → list_all (λ line. is_name line.name) table ≡ list_all (λ x. is_name x.name) xs
names_told t [] [] h = refl
names_told t (x ∷ xs) (line ∷ table) h = let own = h.0.name in let rest = names_told t xs table h.1 in λ j. is_name (own j) && rest j
names_told t [] (line ∷ table) h = absurd h
names_told t (x ∷ xs) [] h = absurd h

-- ---- each names the body of a task

-- this is the number of the body of a task
pub record IsTaskNumber (i : Sections) (number : ℕ) : Type 0 where
  pub s : Subprogram
  pub there : called i number ≡ Some s
  pub body : is_task_body s.kind ≡ true

module _ (laws : LawsOfNames) (t : ProgramTree) (legal : IsLegal t) (restricted : IsRestricted t) (i : Sections) (h : HasProgram t i) where
  abbrev all : List BodyItemTree
  all = declared_in t.package_

  abbrev declared : List Task
  declared = tasks_among (program_of t).scope all (items_among all)

  of_body : (x : Task) (line : rows.Task) → HasTask t x line → HasTaskBody all x → IsTaskNumber i line.subprogram
  of_body x line has f =
      let c : Coded = of_task (front t (suc f.place)) f.own f.body in
      let n : ℕ = bodies_before t f.place in
      let body : HasBody t h.directory n c h.walk = body_there_at t i h f.place (TaskBody f.own f.body) c f.at refl in
      let s : Subprogram = row_of kinds.TaskBody body.words (here body.new.code) in
      let none : n + 0 ≡ n = omega arith in
      let counted = (bodies_numbered laws.scopes laws.names laws.premises t legal restricted f.place (TaskBody f.own f.body) 0 c f.at refl).0 ∙ ap Some none in
      let told : HasDuty t x line.subprogram (OfBody f.body) = subst (HasDuty t x line.subprogram) f.duty has.duty in
      let same : line.subprogram ≡ n = same_some line.subprogram n (sym told ∙ ap (number_in t None) (sym f.named) ∙ counted) in
      record { s = s; there = ap (called i) same ∙ called_front t i h n s body.there; body = refl }

  bodies_walked : length h.walk.subprograms.items ≡ bodies_among all
  bodies_walked = h.walked.many ∙ ap bodies_among (ap (λ n. take n all) h.whole ∙ take_all (length all) all (omega arith))

  of_main : (x : Task) (line : rows.Task) → HasTask t x line → x ≡ main_task (program_of t).scope t → IsTaskNumber i line.subprogram
  of_main x line has same =
      let duty : HasDuty t x line.subprogram (OfMain t.main.statements) = subst (HasDuty t x line.subprogram) (ap (λ y. y.duty) same) has.duty in
      record { s = main_row h.words (here h.draft.code); there = ap (called i) (duty ∙ sym bodies_walked) ∙ called_main t i h; body = refl }

  -- by what a task is
  by_task : (x : Task) → Has (program_of t).tasks x → Has declared x ⊎ (x ≡ main_task (program_of t).scope t)
  by_task x among = by_case (has_either declared (main_task (program_of t).scope t ∷ []) x (subst (λ l. Has l x) (tasks_are t) among))
    where
      by_case : Has declared x ⊎ Has (main_task (program_of t).scope t ∷ []) x → Has declared x ⊎ (x ≡ main_task (program_of t).scope t)
      by_case (inl k) = inl k
      by_case (inr (inl e)) = inr (sym e)
      by_case (inr (inr k)) = absurd k

  one_number : (x : Task) (line : rows.Task) → Has (program_of t).tasks x → HasTask t x line → IsTaskNumber i line.subprogram
  one_number x line among has = by_case (by_task x among)
    where
      by_case : Has declared x ⊎ (x ≡ main_task (program_of t).scope t) → IsTaskNumber i line.subprogram
      by_case (inl k) = of_body x line has (task_found (program_of t).scope all (items_among all) x k)
      by_case (inr e) = of_main x line has e

  one_low : (x : Task) → Has (program_of t).tasks x → x.priority ≤ TASK_PRIORITY
  one_low x among = by_case (by_task x among)
    where
      by_case : Has declared x ⊎ (x ≡ main_task (program_of t).scope t) → x.priority ≤ TASK_PRIORITY
      by_case (inl k) = declared_low (program_of t).scope all (items_among all) x k
      by_case (inr e) = subst (λ y. y.priority ≤ TASK_PRIORITY) (sym e) (priority_low (program_of t).scope t.main.aspect)

  -- ---- the tests of lines

  one_there : (x : Task) (line : rows.Task) → Has (program_of t).tasks x → HasTask t x line → has_body i line ≡ true
  one_there x line among has =
      let n = one_number x line among has in
      lt-ltb line.subprogram (length i.subprograms) (slice_get_within i.subprograms line.subprogram n.s n.there)

  one_right : (x : Task) (line : rows.Task) → Has (program_of t).tasks x → HasTask t x line → is_name line.name ≡ true → is_task i line ≡ true
  one_right x line among has named =
      let n = one_number x line among has in
      let body = none_or (slice_get i.subprograms line.subprogram) (λ s. is_task_body s.kind) in
      and_from (is_name line.name) (nat_le line.priority TASK_PRIORITY && body) named
      (and_from (nat_le line.priority TASK_PRIORITY) body
      (le-leb line.priority TASK_PRIORITY (subst (λ p. p ≤ TASK_PRIORITY) (sym has.priority) (one_low x among)))
      (ap (λ o. none_or o (λ s. is_task_body s.kind)) n.there ∙ n.body))

  there_from : (xs : List Task) (table : List rows.Task) → ((x : Task) → Has xs x → Has (program_of t).tasks x) → HaveTasks t xs table
      → list_all (has_body i) table ≡ true
  there_from [] [] among has = refl
  there_from (x ∷ xs) (line ∷ table) among has =
      and_from (has_body i line) (list_all (has_body i) table) (one_there x line (among x (inl refl)) has.0)
      (there_from xs table (λ y k. among y (inr k)) has.1)
  there_from [] (line ∷ table) among has = absurd has
  there_from (x ∷ xs) [] among has = absurd has

  right_from : (xs : List Task) (table : List rows.Task) → ((x : Task) → Has xs x → Has (program_of t).tasks x) → HaveTasks t xs table
      → list_all (λ line. is_name line.name) table ≡ true → list_all (is_task i) table ≡ true
  right_from [] [] among has named = refl
  right_from (x ∷ xs) (line ∷ table) among has named =
      let both = and_parts (is_name line.name) (list_all (λ y. is_name y.name) table) named in
      and_from (is_task i line) (list_all (is_task i) table) (one_right x line (among x (inl refl)) has.0 both.0)
      (right_from xs table (λ y k. among y (inr k)) has.1 both.1)
  right_from [] (line ∷ table) among has named = absurd has
  right_from (x ∷ xs) [] among has named = absurd has

  pub tasks_there : list_all (has_body i) i.tasks ≡ true
  tasks_there = there_from (program_of t).tasks i.tasks (λ x among. among) h.tasks

  pub tasks_right : list_all (λ line. is_name line.name) i.tasks ≡ true → list_all (is_task i) i.tasks ≡ true
  tasks_right named = right_from (program_of t).tasks i.tasks (λ x among. among) h.tasks named
