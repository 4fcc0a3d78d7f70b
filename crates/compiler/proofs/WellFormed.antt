-- What was put together from an accepted program is well-formed: its code keeps the rules, and so do its tables.
use Rattle.std.proofs.Common.{◌≡◌, ℕ, suc, ◌+◌, ◌≤◌, List, [], ◌∷◌, ◌++◌, length, Bool, true, false, ◌&&◌, ◌||◌, not, refl, sym, ap, ◌∙◌, subst, arith, length-append}
use Rattle.std.specs.Prelude.{bytes_eq, nat_le, sum_by}
use Rattle.std.specs.List.{list_all}
use Rattle.std.proofs.lemmas.Bool.{and_from, and_parts, le-leb}
use Rattle.base.specs.Names.{is_label, is_name, predefined}
use Rattle.base.specs.declared.limits.TheConstants.{EXCEPTIONS, INSTRUCTIONS, LABELS, OBJECTS, ROWS, SUBPROGRAMS, TASKS, WORDS}
use Rattle.ada_tree.specs.ProgramTree.{ProgramTree}
use Rattle.image.specs.Rules.{IsWellFormed, are_attached, all_begun, all_nested, all_placed, begins_with, covers_places, depths_agree, has_body, has_counts, has_depth, has_ends, has_entry, has_object, in_holder, is_closed, is_object, is_row_within, is_subprogram, is_task, is_within, jumps_stay_inside, jumps_within, keeps_depth, named_things_exist, names_things, tables_agree, where_ends}
use Rattle.image.specs.Sections.{Sections}
use Rattle.meaning.specs.Programs.{exceptions_among, items_among, main_task, package_items, program_of, tasks_among}
use Rattle.legality.specs.ProgramRules.{IsLegal}
use Rattle.ravenscar.specs.ProgramRules.{IsRestricted}
use Rattle.program_soundness.specs.Fronts.{declared_in}
use Rattle.program_soundness.proofs.Trees.{tasks_are}
use Rattle.program_soundness.proofs.WiderScopes.{bytes_same}
use Rattle.expr_code.specs.Code.{here}
use Rattle.stmt_code.specs.Whole.{KeptCodePasses, PassesOnCode}
use Rattle.package_code.specs.Laws.{SectionsAreWellFormed}
use Rattle.package_code.specs.Program.{HasProgram, KeepsTables}
use Rattle.package_code.proofs.InFront.{LawsOfNames}
use Rattle.compiler.proofs.HandlerLines.{attachments_right}
use Rattle.compiler.proofs.KeptCode.{code_passes, long}
use Rattle.compiler.proofs.ObjectLines.{entries_there, objects_right}
use Rattle.compiler.proofs.RowRules.{rows_cover, rows_find, rows_known, rows_nested, rows_within}
use Rattle.compiler.proofs.TaskLines.{as_many_tasks, tasks_right, tasks_there}

-- ---- tests

-- asked only where another holds
asked : (a b : Bool) → b ≡ true → (not a || b) ≡ true
asked true b h = h
asked false b h = refl

begun_with : (front more : List (List ℕ)) → begins_with front (front ++ more) ≡ true
begun_with [] more = refl
begun_with (name ∷ front) more = and_from (bytes_eq name name) (begins_with front (front ++ more)) (bytes_same name) (begun_with front more)

-- ---- the image

module _ (laws : LawsOfNames) (t : ProgramTree) (legal : IsLegal t) (restricted : IsRestricted t) (i : Sections) (h : HasProgram t i)
    (tables : KeepsTables i) (many : length i.subprograms ≡ suc (length h.walk.subprograms.items)) (p : PassesOnCode i) where
  -- ---- code

  jumps : jumps_stay_inside i ≡ true
  jumps =
      and_from (list_all covers_places i.rows) _ (rows_cover t i h)
      (asked (has_ends i) (all_placed (jumps_within i) 0 i.instructions && (list_all (is_closed i) i.subprograms && list_all (is_row_within i) i.rows))
      (and_from (all_placed (jumps_within i) 0 i.instructions) _ p.jumps
      (and_from (list_all (is_closed i) i.subprograms) (list_all (is_row_within i) i.rows) p.closed (rows_within t i h p.ends))))

  named : named_things_exist i ≡ true
  named =
      let there = all_placed (λ place x. in_holder i place (λ s. names_things i s x.operation)) 0 i.instructions in
      and_from (where_ends i there) _ (asked (has_ends i) there p.named)
      (and_from (list_all (has_object i) i.subprograms) _ p.have_objects
      (and_from (list_all (has_entry i) i.objects) (list_all (has_body i) i.tasks) (entries_there laws t legal restricted i h)
      (tasks_there laws t legal restricted i h)))

  depths : depths_agree i ≡ true
  depths =
      let kept = all_placed (λ place x. in_holder i place (keeps_depth i place x)) 0 i.instructions in
      let empty = all_begun (λ first s. has_depth i first 0) 0 i.subprograms in
      let targets = list_all (λ r. has_depth i r.target 1) i.rows in
      asked (has_ends i) (kept && (empty && targets))
      (and_from kept (empty && targets) p.depths (and_from empty targets p.empty (rows_find t i h)))

  -- ---- tables

  exceptions_named : list_all is_name i.exceptions ≡ true
  exceptions_named = (and_parts (list_all is_name i.exceptions) _ tables.texts).0

  labels_spelled : list_all is_label i.labels ≡ true
  labels_spelled = (and_parts (list_all is_label i.labels) _ (and_parts (list_all is_name i.exceptions) _ tables.texts).1).0

  tasks_named : list_all (λ line. is_name line.name) i.tasks ≡ true
  tasks_named = (and_parts (list_all is_label i.labels) _ (and_parts (list_all is_name i.exceptions) _ tables.texts).1).1

  exceptions_are : i.exceptions ≡ predefined ++ exceptions_among (package_items t.package_)
  exceptions_are = h.exceptions ∙ h.are.exceptions

  four : 4 ≤ length i.exceptions
  four =
      let e = ap length exceptions_are in
      let f : length (predefined ++ exceptions_among (package_items t.package_)) ≡ suc (suc (suc (suc (length (exceptions_among (package_items t.package_)))))) =
      refl in
      omega (arith, e, f)

  some_task : 1 ≤ length i.tasks
  some_task =
      let all = tasks_among (program_of t).scope (declared_in t.package_) (items_among (declared_in t.package_)) in
      let a = as_many_tasks t (program_of t).tasks i.tasks h.tasks ∙ ap length (tasks_are t) ∙ length-append all (main_task (program_of t).scope t ∷ []) in
      omega (arith, a)

  some_code : 1 ≤ length i.instructions
  some_code =
      let e : length i.instructions ≡ here h.draft.code = ap length h.instructions in
      let end = h.keeps.end in
      omega (arith, e, end)

  few_code : length i.instructions ≤ INSTRUCTIONS
  few_code =
      let e : length i.instructions ≡ here h.draft.code = ap length h.instructions in
      subst (λ n. n ≤ INSTRUCTIONS) (sym e) h.keeps.few

  counts : has_counts i ≡ true
  counts =
      let a = is_within 1 (length i.instructions) INSTRUCTIONS in
      let b = is_within 1 (length i.subprograms) SUBPROGRAMS in
      let c = is_within 1 (length i.tasks) TASKS in
      let d = is_within 4 (length i.exceptions) EXCEPTIONS in
      let e = nat_le (length i.objects) OBJECTS in
      let f = nat_le (length i.rows) ROWS in
      let g = nat_le (length i.labels) LABELS in
      let k = nat_le (length i.plain_words + sum_by (λ o. length o.words) i.objects) WORDS in
      let few = and_parts (nat_le (length i.subprograms) SUBPROGRAMS) _ tables.limits in
      let tasks = and_parts (nat_le (length i.tasks) TASKS) _ few.1 in
      let fewer = and_parts (nat_le (length i.exceptions) EXCEPTIONS) _ tasks.1 in
      let last = and_parts (nat_le (length i.labels) LABELS) _ fewer.1 in
      let ends = and_parts k (nat_le (length i.rows) ROWS && nat_le (length i.objects) OBJECTS) last.1 in
      let behind = and_parts (nat_le (length i.rows) ROWS) (nat_le (length i.objects) OBJECTS) ends.1 in
      and_from a (b && (c && (d && (e && (f && (g && k))))))
      (and_from (nat_le 1 (length i.instructions)) (nat_le (length i.instructions) INSTRUCTIONS) (le-leb 1 (length i.instructions) some_code)
      (le-leb (length i.instructions) INSTRUCTIONS few_code))
      (and_from b (c && (d && (e && (f && (g && k)))))
      (and_from (nat_le 1 (length i.subprograms)) (nat_le (length i.subprograms) SUBPROGRAMS) (le-leb 1 (length i.subprograms) (omega (arith, many))) few.0)
      (and_from c (d && (e && (f && (g && k))))
      (and_from (nat_le 1 (length i.tasks)) (nat_le (length i.tasks) TASKS) (le-leb 1 (length i.tasks) some_task) tasks.0)
      (and_from d (e && (f && (g && k)))
      (and_from (nat_le 4 (length i.exceptions)) (nat_le (length i.exceptions) EXCEPTIONS) (le-leb 4 (length i.exceptions) four) fewer.0)
      (and_from e (f && (g && k)) behind.1
      (and_from f (g && k) behind.0
      (and_from g k last.0 ends.0))))))

  tables_whole : tables_agree i ≡ true
  tables_whole =
      let d = all_placed (is_subprogram i) 0 i.subprograms in
      let e = all_placed (is_object i) 0 i.objects in
      let f = list_all (is_task i) i.tasks in
      let g = begins_with predefined i.exceptions in
      let j = list_all is_name i.exceptions in
      let k = list_all is_label i.labels in
      let m = list_all (λ r. nat_le r.exception (length i.exceptions)) i.rows in
      let a = are_attached i 0 i.attachments in
      let o = all_nested i.rows in
      and_from (has_counts i) (has_ends i && (d && (e && (f && (g && (j && (k && (m && (a && o))))))))) counts
      (and_from (has_ends i) (d && (e && (f && (g && (j && (k && (m && (a && o)))))))) p.ends
      (and_from d (e && (f && (g && (j && (k && (m && (a && o))))))) p.subprograms
      (and_from e (f && (g && (j && (k && (m && (a && o)))))) (objects_right laws t legal restricted i h)
      (and_from f (g && (j && (k && (m && (a && o))))) (tasks_right laws t legal restricted i h tasks_named)
      (and_from g (j && (k && (m && (a && o))))
      (ap (begins_with predefined) exceptions_are ∙ begun_with predefined (exceptions_among (package_items t.package_)))
      (and_from j (k && (m && (a && o))) exceptions_named
      (and_from k (m && (a && o)) labels_spelled
      (and_from m (a && o) (rows_known t i h)
      (and_from a o (attachments_right laws t legal restricted i h) (rows_nested t i h))))))))))

  pub well_formed : IsWellFormed i
  well_formed = record { operands = p.operands; jumps = jumps; named = named; depths = depths; tables = tables_whole }

pub sections_well_formed : LawsOfNames → KeptCodePasses → SectionsAreWellFormed
sections_well_formed laws passes t i legal restricted h tables =
    well_formed laws t legal restricted i h tables (long laws passes t legal restricted i h) (code_passes laws passes t legal restricted i h)
