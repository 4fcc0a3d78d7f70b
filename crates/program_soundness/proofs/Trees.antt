-- The package of an accepted tree as one list: what its program declares, and what is visible in front of it.
use Rattle.std.proofs.Common.{◌≡◌, ℕ, zero, suc, ◌+◌, List, [], ◌∷◌, ◌++◌, map, Bool, true, false, cond, ◌&&◌, Option, Some, None, refl, sym, ap, ◌∙◌, subst, arith}
use Rattle.std.specs.Prelude.{bytes_eq, slice_get}
use Rattle.std.specs.List.{list_any}
use Rattle.expr_soundness.specs.base.specs.Names.{predefined}
use Rattle.expr_soundness.specs.ada_tree.specs.declared.expression.Identifier.{Identifier}
use Rattle.expr_soundness.specs.ada_tree.specs.declared.program.UnitClause.{UnitClause}
use Rattle.expr_soundness.specs.ada_tree.specs.ProgramTree.{BodyItemTree, OfItem, ItemTree, OfType, OfObject, OfException, OfSubprogram, OfTask, OfProtected, PackageTree, ProgramTree}
use Rattle.types.specs.Entities.{Entity, LibraryUnit}
use Rattle.types.specs.Scopes.{Named, Scope, is_visible, one_if_protected, protected_count, standard, with_control_io, with_name, with_real_time}
use Rattle.expr_soundness.specs.expr_rules.proofs.TypedLaw.{back_empty, front_empty}
use Rattle.unit_rules.specs.MainRules.{main_faults}
use Rattle.declaration_rules.specs.PackageNames.{body_items_scope, clauses_scope, is_control_io, is_real_time, optional_scope, program_scope}
use Rattle.size_rules.specs.ProgramSizes.{size_faults}
use Rattle.legality.specs.ProgramRules.{package_part_faults, program_faults}
use Rattle.ravenscar.specs.ProgramRules as profile
use Rattle.expr_soundness.specs.SoundScopes.{SoundScope}
use Rattle.expr_soundness.specs.meaning.specs.Programs.{body_among, components_among, exceptions_among, functions_among, items_among, main_task, objects_or_none, package_bodies, package_items, procedures_among, program_of, task_with, tasks_among, variables_among}
use Rattle.program_soundness.specs.Fronts.{declared_in, start_in}
use Rattle.program_soundness.proofs.Listing.{Has, one_passes, same_some}
use Rattle.program_soundness.proofs.WiderScopes.{found_one, same_bytes, stands, stands_found}
use Rattle.program_soundness.proofs.Walked.{Constants, Entries, Exceptions, Kind, Others, ProtectedOnes, Subprograms, Tasks, Types, Variables, kind}
use Rattle.program_soundness.proofs.Callables.{at_has}
use Rattle.program_soundness.proofs.OneList.{all_legal, scope_joined}
use Rattle.program_soundness.proofs.Whole.{IsFirst, IsPackage, is_first}

-- ---- the names of Standard and of the units, in the order in which they became visible

data Units : Type 0 where
  NoUnits Times Io TimesIo IoTimes : Units

abbrev seen : Units → Scope
seen NoUnits = standard
seen Times = with_real_time standard
seen Io = with_control_io standard
seen TimesIo = with_control_io (with_real_time standard)
seen IoTimes = with_real_time (with_control_io standard)

abbrev with_times : Units → Units
with_times NoUnits = Times
with_times Io = IoTimes
with_times u = u

abbrev with_io : Units → Units
with_io NoUnits = Io
with_io Times = TimesIo
with_io u = u

times_seen : (u : Units) → with_real_time (seen u) ≡ seen (with_times u)
times_seen NoUnits = refl
times_seen Times = refl
times_seen Io = refl
times_seen TimesIo = refl
times_seen IoTimes = refl

io_seen : (u : Units) → with_control_io (seen u) ≡ seen (with_io u)
io_seen NoUnits = refl
io_seen Times = refl
io_seen Io = refl
io_seen TimesIo = refl
io_seen IoTimes = refl

clause_seen : (u : Units) (b c : Bool)
    → (v : Units) × (elim b [ true ↦ with_real_time (seen u) | false ↦ elim c [ true ↦ with_control_io (seen u) | false ↦ seen u ] ] ≡ seen v)
clause_seen u true c = (with_times u, times_seen u)
clause_seen u false true = (with_io u, io_seen u)
clause_seen u false false = (u, refl)

clauses_seen : (u : Units) (cs : List UnitClause) → (v : Units) × (clauses_scope (seen u) cs ≡ seen v)
clauses_seen u [] = (u, refl)
clauses_seen u (c ∷ cs) =
    let here = clause_seen u (is_real_time c.unit) (is_control_io c.unit) in
    let there = clauses_seen here.0 cs in (there.0, ap (λ s. clauses_scope s cs) here.1 ∙ there.1)

-- ---- none of them is an object or a subprogram of the package

abbrev start_by : Kind → List ℕ → Bool
start_by Types name = true
start_by Others name = true
start_by Exceptions name = list_any (bytes_eq name) predefined
start_by k name = false

abbrev are_first : Scope → Bool
are_first [] = true
are_first (x ∷ xs) = start_by (kind x.entity) x.name && are_first xs

seen_first : (u : Units) → are_first (seen u) ≡ true
seen_first NoUnits = refl
seen_first Times = refl
seen_first Io = refl
seen_first TimesIo = refl
seen_first IoTimes = refl

both_true : (a b : Bool) → (a && b) ≡ true → (a ≡ true) × (b ≡ true)
both_true true b h = (refl, h)
both_true false b h = cc

first_at : (s : Scope) (k : ℕ) (x : Named) → are_first s ≡ true → slice_get s k ≡ Some x → start_by (kind x.entity) x.name ≡ true
first_at [] k x h at = cc
first_at (y ∷ ys) zero x h at =
    subst (λ z. start_by (kind z.entity) z.name ≡ true) (same_some y x at) (both_true (start_by (kind y.entity) y.name) (are_first ys) h).0
first_at (y ∷ ys) (suc k) x h at = first_at ys k x (both_true (start_by (kind y.entity) y.name) (are_first ys) h).1 at

first_by : (name : List ℕ) (e : Entity) (k : Kind) → kind e ≡ k → start_by k name ≡ true → IsFirst name e
first_by name e Types i h = record { first = ap is_first i; exception = λ j. let bad = sym i ∙ j in cc }
first_by name e Others i h = record { first = ap is_first i; exception = λ j. let bad = sym i ∙ j in cc }
first_by name e Exceptions i h =
    let one = one_passes (bytes_eq name) predefined h in
    record {
      first = ap is_first i;
      exception = λ j. subst (Has predefined) (sym (same_bytes name one.1 one.3)) (at_has predefined one.0 one.1 one.2);
    }
first_by name e Constants i h = cc
first_by name e Variables i h = cc
first_by name e Subprograms i h = cc
first_by name e Entries i h = cc
first_by name e Tasks i h = cc
first_by name e ProtectedOnes i h = cc

first_stands : (s : Scope) → are_first s ≡ true → (name : List ℕ) (e : Entity) → stands s name ≡ Some e → IsFirst name e
first_stands s h name e there =
    let x = found_one s name e (sym (stands_found s name) ∙ there) in
    let passes = first_at s x.0 x.1 h x.2 in
    first_by name e (kind e) refl (ap (λ n. start_by (kind e) n) (sym x.3) ∙ ap (λ y. start_by (kind y) x.1.name) (sym x.4) ∙ passes)

are_first_push : (s : Scope) (x : Named) → are_first s ≡ true → start_by (kind x.entity) x.name ≡ true → are_first (s ++ x ∷ []) ≡ true
are_first_push [] x h k = λ j. k j && true
are_first_push (y ∷ ys) x h k =
    let two = both_true (start_by (kind y.entity) y.name) (are_first ys) h in λ j. two.0 j && are_first_push ys x two.1 k j

inside_first : (s : Scope) (name : List ℕ) → are_first s ≡ true → are_first (with_name s name LibraryUnit) ≡ true
inside_first s name h = by_test (is_visible s name)
  where
    by_test : (b : Bool) → are_first (cond b s (s ++ record { name = name; entity = LibraryUnit } ∷ [])) ≡ true
    by_test true = h
    by_test false = are_first_push s (record { name = name; entity = LibraryUnit }) h refl

start_first : (o : Option PackageTree) → are_first (start_in o) ≡ true
start_first (Some p) =
    let u = clauses_seen NoUnits p.clauses in
    inside_first (clauses_scope standard p.clauses) p.declaration.name.name (ap are_first u.1 ∙ seen_first u.0)
start_first None = seen_first NoUnits

-- ---- nor a protected object

pub count_push : (s : Scope) (x : Named) → protected_count (s ++ x ∷ []) ≡ protected_count s + one_if_protected x.entity
count_push [] x = omega arith
count_push (y ∷ ys) x = let e = count_push ys x in omega (arith, e)

seen_none : (u : Units) → protected_count (seen u) ≡ 0
seen_none NoUnits = refl
seen_none Times = refl
seen_none Io = refl
seen_none TimesIo = refl
seen_none IoTimes = refl

start_none : (o : Option PackageTree) → protected_count (start_in o) ≡ 0
start_none None = refl
start_none (Some p) =
    let u = clauses_seen NoUnits p.clauses in by_test (is_visible (clauses_scope standard p.clauses) p.declaration.name.name) (ap protected_count u.1 ∙ seen_none u.0)
  where
    by_test : (b : Bool) → protected_count (clauses_scope standard p.clauses) ≡ 0
        → protected_count (cond b (clauses_scope standard p.clauses) (clauses_scope standard p.clauses ++ record { name = p.declaration.name.name; entity = LibraryUnit } ∷ [])) ≡ 0
    by_test true h = h
    by_test false h =
        let e = count_push (clauses_scope standard p.clauses) (record { name = p.declaration.name.name; entity = LibraryUnit }) in omega (arith, e, h)

-- ---- what the program declares

items_joined : (ds : List ItemTree) (body : List BodyItemTree) → ds ++ items_among body ≡ items_among (map OfItem ds ++ body)
items_joined [] body = refl
items_joined (d ∷ ds) body = ap (λ l. d ∷ l) (items_joined ds body)

pub items_are : (o : Option PackageTree) → package_items o ≡ items_among (declared_in o)
items_are (Some p) = items_joined p.declaration.items p.body.items
items_are None = refl

functions_joined : (s : Scope) (ds : List ItemTree) (body : List BodyItemTree) → functions_among s body ≡ functions_among s (map OfItem ds ++ body)
functions_joined s [] body = refl
functions_joined s (d ∷ ds) body = functions_joined s ds body

functions_are : (s : Scope) (o : Option PackageTree) → functions_among s (package_bodies o) ≡ functions_among s (declared_in o)
functions_are s (Some p) = functions_joined s p.declaration.items p.body.items
functions_are s None = refl

procedures_joined : (s : Scope) (ds : List ItemTree) (body : List BodyItemTree) → procedures_among s body ≡ procedures_among s (map OfItem ds ++ body)
procedures_joined s [] body = refl
procedures_joined s (d ∷ ds) body = procedures_joined s ds body

procedures_are : (s : Scope) (o : Option PackageTree) → procedures_among s (package_bodies o) ≡ procedures_among s (declared_in o)
procedures_are s (Some p) = procedures_joined s p.declaration.items p.body.items
procedures_are s None = refl

duties_joined : (name : Identifier) (ds : List ItemTree) (body : List BodyItemTree) → body_among name body ≡ body_among name (map OfItem ds ++ body)
duties_joined name [] body = refl
duties_joined name (d ∷ ds) body = duties_joined name ds body

duties_are : (name : Identifier) (o : Option PackageTree) → body_among name (package_bodies o) ≡ body_among name (declared_in o)
duties_are name (Some p) = duties_joined name p.declaration.items p.body.items
duties_are name None = refl

tasks_by : (s : Scope) (o : Option PackageTree) (items : List ItemTree) → tasks_among s (package_bodies o) items ≡ tasks_among s (declared_in o) items
tasks_by s o [] = refl
tasks_by s o (OfTask d ∷ rest) = λ j. map (task_with s d) (duties_are d.name o j) ++ tasks_by s o rest j
tasks_by s o (OfType d ∷ rest) = tasks_by s o rest
tasks_by s o (OfObject d ∷ rest) = tasks_by s o rest
tasks_by s o (OfException name ∷ rest) = tasks_by s o rest
tasks_by s o (OfSubprogram d ∷ rest) = tasks_by s o rest
tasks_by s o (OfProtected d ∷ rest) = tasks_by s o rest

pub tasks_are : (t : ProgramTree)
    → (program_of t).tasks ≡ tasks_among (program_scope t) (declared_in t.package_) (items_among (declared_in t.package_)) ++ main_task (program_scope t) t ∷ []
tasks_are t =
    ap (λ l. l ++ main_task (program_scope t) t ∷ [])
    (tasks_by (program_scope t) t.package_ (package_items t.package_)
    ∙ ap (tasks_among (program_scope t) (declared_in t.package_)) (items_are t.package_))

scope_is : (o : Option PackageTree) → body_items_scope (start_in o) (declared_in o) ≡ optional_scope standard o
scope_is (Some p) = scope_joined _ p.declaration.items p.body.items
scope_is None = refl

pub tree_package : (t : ProgramTree) → program_faults t ≡ [] → profile.restriction_faults t ≡ [] → SoundScope (program_scope t)
    → IsPackage (program_of t) (start_in t.package_) (declared_in t.package_)
tree_package t legal restricted sound =
    let o = t.package_ in
    let s = program_scope t in
    record {
      scope = scope_is o;
      functions = functions_are s o;
      procedures = procedures_are s o;
      variables = ap (variables_among s) (items_are o);
      components = λ j. λ n. objects_or_none (slice_get (components_among s (items_are o j)) n);
      exceptions = ap (λ l. predefined ++ exceptions_among l) (items_are o);
      list = all_legal o (front_empty (package_part_faults standard o) (main_faults o t.main) (front_empty _ (size_faults t) legal))
          (back_empty _ (profile.package_part_faults o) (front_empty _ _ restricted));
      sound = sound;
      started = first_stands (start_in o) (start_first o);
      unprotected = start_none o;
    }

pub main_legal : (t : ProgramTree) → program_faults t ≡ [] → main_faults t.package_ t.main ≡ []
main_legal t legal = back_empty (package_part_faults standard t.package_) (main_faults t.package_ t.main) (front_empty _ (size_faults t) legal)
