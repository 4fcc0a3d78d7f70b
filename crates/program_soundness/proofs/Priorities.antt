-- Priorities and ceilings of a program are in their range, whatever its aspects are.
use Rattle.std.proofs.Common.{◌≡◌, ◌++◌, ◌<◌, ◌≤◌, ℕ, zero, suc, pos, negsuc, List, [], ◌∷◌, length, map, Bool, true, false, Option, Some, None, refl, sym, subst, arith}
use Rattle.std.specs.Prelude.{⊤, cond, nat_eq, nat_le, slice_get}
use Rattle.std.proofs.lemmas.Bool.{and_parts, leb-true}
use Rattle.expr_soundness.specs.base.specs.declared.limits.TheConstants.{CEILING, PRIORITIES, TASK_PRIORITY}
use Rattle.expr_soundness.specs.ada_tree.specs.StatementTree.{AspectTree, TaskTree}
use Rattle.expr_soundness.specs.ada_tree.specs.ProgramTree.{BodyItemTree, OfItem, SubprogramBody, TaskBody, ProtectedBody, ItemTree, OfType, OfObject, OfException, OfSubprogram, OfTask, OfProtected, PackageTree, ProgramTree}
use Rattle.types.specs.declared.entity.RecordComponent.{RecordComponent}
use Rattle.types.specs.Entities.{Entity, LibraryUnit, Operation, Protected}
use Rattle.types.specs.Places.{ceiling_of, ceiling_or}
use Rattle.types.specs.Scopes.{Named, Scope, integer_type, is_visible, standard, with_name}
use Rattle.types.specs.Values.{Value, Number, Truth, Array, Record}
use Rattle.expr_soundness.specs.expr_rules.specs.StaticRules.{static_scalar}
use Rattle.expr_soundness.specs.expr_rules.specs.declared.own.Wanted.TheVariants as wanted
use Rattle.declaration_rules.specs.ProtectedRules.{default_ceiling, has_handler, object_components, object_operations, object_with, protected_count}
use Rattle.declaration_rules.specs.TaskRules.{default_priority, priority_of, priority_within}
use Rattle.kernel.specs.Invariant.{Fits}
use Rattle.unit_rules.specs.MainRules.{item_name}
use Rattle.declaration_rules.specs.PackageNames.{body_item_scope, body_items_scope, optional_scope, program_scope, units_scope}
use Rattle.legality.proofs.Made.{NoUnits, clauses_seen, seen}
use Rattle.expr_soundness.specs.meaning.specs.Programs.{Duty, Task, base_priority, body_among, main_task, package_bodies, package_items, priority_or_highest, program_of, program_partition, task_with, tasks_among}
use Rattle.expr_soundness.specs.type_rules.specs.ProfileRules.{profile_entity}
use Rattle.program_soundness.proofs.Declaring.{all_simple, definition_plain, is_protected, is_simple, package_object_plain, profile_plain, seen_simple, simple_kinds}
use Rattle.program_soundness.proofs.Origins.{body_scope_is, declared_item, front_scope, item_named}
use Rattle.program_soundness.proofs.Profiles.{profile_of}

-- ---- aspects

within_low : (highest other : ℕ) (v : Option Value) → other ≤ highest → priority_within highest other v ≤ highest
within_low highest other (Some (Number (pos n))) h = by_test (nat_le n highest) refl
  where
    by_test : (b : Bool) → nat_le n highest ≡ b → elim b [ true ↦ n | false ↦ other ] ≤ highest
    by_test true e = leb-true n highest e
    by_test false e = h
within_low highest other (Some (Number (negsuc n))) h = h
within_low highest other (Some (Truth b)) h = h
within_low highest other (Some (Array vs)) h = h
within_low highest other (Some (Record fs)) h = h
within_low highest other None h = h

pub aspect_low : (s : Scope) (highest other : ℕ) (a : Option AspectTree) → other ≤ highest → priority_of s highest other a ≤ highest
aspect_low s highest other (Some a) h = within_low highest other (static_scalar s (wanted.OfType integer_type) None a.value) h
aspect_low s highest other None h = h

-- ---- tasks

abbrev AreLow : List Task → Type 0
AreLow [] = ⊤
AreLow (t ∷ ts) = (t.priority < PRIORITIES) × AreLow ts

low_all : (xs ys : List Task) → AreLow xs → AreLow ys → AreLow (xs ++ ys)
low_all [] ys h k = k
low_all (t ∷ xs) ys h k = (h.0, low_all xs ys h.1 k)

base_low : (s : Scope) (a : Option AspectTree) → base_priority s a < PRIORITIES
base_low s a = let low = aspect_low s TASK_PRIORITY default_priority a (omega arith) in omega (arith, low)

duties_low : (s : Scope) (d : TaskTree) (duties : List Duty) → AreLow (map (task_with s d) duties)
duties_low s d [] = tt
duties_low s d (x ∷ duties) = (base_low s d.aspect, duties_low s d duties)

tasks_low : (s : Scope) (bodies : List BodyItemTree) (items : List ItemTree) → AreLow (tasks_among s bodies items)
tasks_low s bodies [] = tt
tasks_low s bodies (OfTask d ∷ items) =
    low_all (map (task_with s d) (body_among d.name bodies)) (tasks_among s bodies items) (duties_low s d (body_among d.name bodies)) (tasks_low s bodies items)
tasks_low s bodies (OfType d ∷ items) = tasks_low s bodies items
tasks_low s bodies (OfObject d ∷ items) = tasks_low s bodies items
tasks_low s bodies (OfException d ∷ items) = tasks_low s bodies items
tasks_low s bodies (OfSubprogram d ∷ items) = tasks_low s bodies items
tasks_low s bodies (OfProtected d ∷ items) = tasks_low s bodies items

task_low : (ts : List Task) (n : ℕ) → AreLow ts → priority_or_highest (slice_get ts n) < PRIORITIES
task_low [] n h = omega arith
task_low (t ∷ ts) zero h = h.0
task_low (t ∷ ts) (suc n) h = task_low ts n h.1

-- beyond the tasks are actors
past_highest : (ts : List Task) (n : ℕ) → length ts ≤ n → suc (priority_or_highest (slice_get ts n)) ≡ PRIORITIES
past_highest [] n h = omega arith
past_highest (t ∷ ts) zero h = absurd (omega (arith, h))
past_highest (t ∷ ts) (suc n) h = past_highest ts n (omega (arith, h))

-- ---- protected objects

abbrev IsLow : Entity → Type 0
IsLow (Protected o) = o.ceiling < PRIORITIES
IsLow e = ⊤

abbrev AllLow : Scope → Type 0
AllLow [] = ⊤
AllLow (n ∷ rest) = IsLow n.entity × AllLow rest

low_other : (e : Entity) → is_protected e ≡ false → IsLow e
low_other (Protected o) h = cc
low_other e h = tt

low_more : (s : Scope) (n : Named) → AllLow s → IsLow n.entity → AllLow (s ++ n ∷ [])
low_more [] n h k = (k, tt)
low_more (x ∷ s) n h k = (h.0, low_more s n h.1 k)

low_named : (s : Scope) (name : List ℕ) (e : Entity) → AllLow s → IsLow e → AllLow (with_name s name e)
low_named s name e h k = by_test (is_visible s name)
  where
    by_test : (b : Bool) → AllLow (cond b s (s ++ record { name = name; entity = e } ∷ []))
    by_test true = h
    by_test false = low_more s (record { name = name; entity = e }) h k

object_low : (number ceiling : ℕ) (a : Option (List Operation)) (b : Option (List RecordComponent)) → ceiling < PRIORITIES → IsLow (object_with number ceiling a b)
object_low number ceiling (Some a) (Some b) h = h
object_low number ceiling (Some a) None h = tt
object_low number ceiling None b h = tt

-- the ceiling of an object without an aspect
default_low : (b : Bool) → elim b [ true ↦ CEILING | false ↦ TASK_PRIORITY ] ≤ CEILING
default_low true = omega arith
default_low false = omega arith

item_low : (s : Scope) (d : ItemTree) → IsLow (declared_item s d)
item_low s (OfType d) = low_other (declared_item s (OfType d)) (definition_plain is_protected refl (λ form t. refl) (λ t. refl) s d.definition)
item_low s (OfObject d) = low_other (declared_item s (OfObject d)) (package_object_plain is_protected refl (λ r t. refl) (λ t v. refl) s d)
item_low s (OfException name) = tt
item_low s (OfSubprogram d) = low_other (profile_entity (profile_of s d)) (profile_plain is_protected refl (λ p. refl) (profile_of s d))
item_low s (OfTask d) = tt
item_low s (OfProtected d) =
    let low = aspect_low s CEILING (default_ceiling d.operations) d.aspect (default_low (has_handler d.operations)) in
    object_low (protected_count s) (priority_of s CEILING (default_ceiling d.operations) d.aspect) (object_operations s d.operations) (object_components s d.components) (omega (arith, low))

step_low : (s : Scope) (i : BodyItemTree) → AllLow s → AllLow (body_item_scope s i)
step_low s (OfItem d) h = subst AllLow (sym (item_named s d)) (low_named s (item_name d).name (declared_item s d) h (item_low s d))
step_low s (SubprogramBody d b) h = low_named s d.name.name (declared_item s (OfSubprogram d)) h (item_low s (OfSubprogram d))
step_low s (TaskBody n b) h = h
step_low s (ProtectedBody n items end_name) h = h

walk_low : (s : Scope) (is : List BodyItemTree) → AllLow s → AllLow (body_items_scope s is)
walk_low s [] h = h
walk_low s (i ∷ is) h = walk_low (body_item_scope s i) is (step_low s i h)

simple_low : (s : Scope) → all_simple s ≡ true → AllLow s
simple_low [] h = tt
simple_low (n ∷ rest) h =
    let two = and_parts (is_simple n.entity) (all_simple rest) h in (low_other n.entity (simple_kinds n.entity two.0).2, simple_low rest two.1)

front_low : (p : PackageTree) → AllLow (front_scope p)
front_low p =
    let units = clauses_seen NoUnits p.clauses in
    low_named (units_scope standard p) p.declaration.name.name LibraryUnit (subst AllLow (sym units.1) (simple_low (seen units.0) (seen_simple units.0))) tt

program_low : (t : ProgramTree) → AllLow (program_scope t)
program_low t = by_package t.package_
  where
    by_package : (o : Option PackageTree) → AllLow (optional_scope standard o)
    by_package None = simple_low standard (seen_simple NoUnits)
    by_package (Some p) = subst AllLow (body_scope_is p p.body.items) (walk_low (front_scope p) (map OfItem p.declaration.items ++ p.body.items) (front_low p))

ceiling_low : (s : Scope) (o : ℕ) → AllLow s → ceiling_of s o < PRIORITIES
ceiling_low [] o h = omega arith
ceiling_low (n ∷ rest) o h = by_entity n.entity h.0 (ceiling_low rest o h.1)
  where
    by_number : (b : Bool) (a c : ℕ) → a < PRIORITIES → c < PRIORITIES → cond b a c < PRIORITIES
    by_number true a c x y = x
    by_number false a c x y = y

    by_entity : (e : Entity) → IsLow e → ceiling_of rest o < PRIORITIES → ceiling_or o e (ceiling_of rest o) < PRIORITIES
    by_entity (Protected q) x later = by_number (nat_eq q.number o) q.ceiling (ceiling_of rest o) x later
    by_entity e x later = later

pub partition_fits : (t : ProgramTree) → Fits (program_partition (program_of t))
partition_fits t =
    let s = program_scope t in
    let tasks = low_all (tasks_among s (package_bodies t.package_) (package_items t.package_)) (main_task s t ∷ []) (tasks_low s (package_bodies t.package_) (package_items t.package_))
    (base_low s t.main.aspect, tt) in
    record { base_low = λ n. task_low (program_of t).tasks n tasks; ceiling_low = λ o. ceiling_low s o (program_low t); urgent = λ u beyond. past_highest (program_of t).tasks u beyond }
