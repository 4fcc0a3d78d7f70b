-- An accepted text tells all that its meaning takes from it: subtypes, initial values, priorities, the bodies of tasks and objects, and what stands in bodies.
use Rattle.std.proofs.Common.{◌≡◌, ◌<◌, ◌+◌, ◌⊎◌, inl, inr, ℕ, zero, suc, pos, negsuc, List, [], ◌∷◌, ◌++◌, drop, length, map, take, Bool, true, false, cond, not, Option, Some, None, refl, sym, ap, ◌∙◌, subst, arith}
use Rattle.std.specs.Prelude.{bytes_eq, is_some, nat_le, slice_get}
use Rattle.std.specs.List.{list_all, list_any}
use Rattle.std.proofs.lemmas.Bool.{and_parts}
use Rattle.base.specs.declared.faults.TheConstants.{DECLARED_TWICE, NOT_STATIC, WRONG_ASPECT}
use Rattle.base.specs.declared.limits.TheConstants.{CEILING, TASK_PRIORITY}
use Rattle.ada_tree.specs.declared.declaration.Formal.{Formal}
use Rattle.ada_tree.specs.declared.expression.Identifier.{Identifier}
use Rattle.ada_tree.specs.ExpressionTree.{ExprTree}
use Rattle.ada_tree.specs.StatementTree.{AspectTree, ObjectTree, ProtectedComponentTree, ProtectedTree, TaskTree}
use Rattle.ada_tree.specs.ProgramTree.{BodyItemTree, BodyTree, ItemTree, OfItem, OfObject, OfProtected, OfTask, PackageTree, ProgramTree, ProtectedBody, SubprogramBody, TaskBody}
use Rattle.types.specs.declared.entity.RecordComponent.{RecordComponent}
use Rattle.types.specs.declared.entity.Subtype.{Subtype}
use Rattle.types.specs.declared.entity.Value.{Value as Scalar}
use Rattle.types.specs.declared.entity.Value.TheVariants as scalar
use Rattle.types.specs.Entities.{Doubtful, Entity, Operation, Protected, ProtectedObject}
use Rattle.types.specs.Evaluating.{call, val}
use Rattle.types.specs.Evaluations.{Gives, Val}
use Rattle.types.specs.Places.{ceiling_of}
use Rattle.types.specs.Scopes.{Scope, integer_type, protected_count, standard}
use Rattle.types.specs.Statics.{Keeps, StaticIsValue, static_form, static_place, static_value}
use Rattle.types.specs.declared.statics.StaticForm.{StaticForm}
use Rattle.types.specs.Values.{Array, Number, Record, Truth, Value}
use Rattle.expr_soundness.specs.expr_rules.specs.declared.own.Wanted.TheVariants.{OfType}
use Rattle.expr_soundness.specs.expr_rules.specs.Faults.{Faults, rule}
use Rattle.expr_soundness.specs.expr_rules.specs.StaticRules.{static_faults, static_result, static_scalar}
use Rattle.expr_soundness.specs.expr_rules.proofs.TypedLaw.{back_empty, front_empty, unbroken}
use Rattle.expr_soundness.specs.type_rules.specs.ObjectRules.{fixed_faults, fixed_initial_faults, fixed_scalar, object_entity}
use Rattle.expr_soundness.specs.type_rules.specs.SubtypeNames.{declared_twice, subtype_faults, subtype_in, subtype_of}
use Rattle.program_soundness.specs.declaration_rules.specs.BodyNames.{formal_role, formal_scope, formals_scope}
use Rattle.program_soundness.specs.declaration_rules.specs.LocalRules.{locals_faults, locals_scope}
use Rattle.program_soundness.specs.declaration_rules.specs.ProtectedRules.{component_initial_faults, default_ceiling, is_component_like, object_components, object_operations, object_with, part_faults, parts_faults, protected_entity}
use Rattle.program_soundness.specs.declaration_rules.specs.TaskRules.{default_priority, is_priority, priority_of, priority_within}
use Rattle.program_soundness.specs.unit_rules.specs.MainRules.{main_scope}
use Rattle.program_soundness.specs.stmt_rules.specs.StatementRules.{in_body, more_handlers_faults, stmts_faults}
use Rattle.program_soundness.specs.step_soundness.specs.body_restrictions.specs.BodyRules as restrictions
use Rattle.legality.specs.ProgramRules.{IsLegal}
use Rattle.program_soundness.specs.ravenscar.specs.ProgramRules.{IsRestricted}
use Rattle.program_soundness.specs.ravenscar.specs.HandlerRules.{none_taken}
use Rattle.program_soundness.specs.ravenscar.specs.TaskingRules as profile
use Rattle.program_soundness.specs.ravenscar.specs.TaskingRules.{gives_priority, is_priority_value}
use Rattle.expr_soundness.specs.SoundScopes.{SoundScope}
use Rattle.expr_soundness.specs.meaning.specs.Programs.{OfBody, base_priority, body_among, package_bodies, program_of}
use Rattle.expr_soundness.proofs.Expressions.{not_false}
use Rattle.program_soundness.specs.Fronts.{declared_in, front, start_in}
use Rattle.program_soundness.specs.ScopeLaws.{DeclarationsAreSound}
use Rattle.program_soundness.proofs.BodyProfiles.{subtype_kept}
use Rattle.program_soundness.proofs.Extending.{Extends, SameSubtypes, same_more, same_subtypes}
use Rattle.program_soundness.proofs.FirstValues.{IsWord, fixed_is_first}
use Rattle.program_soundness.proofs.Initials.{initial_known}
use Rattle.program_soundness.proofs.Listing.{dropped_at, none_passes, not_both, one_passes, same_some, taken_at}
use Rattle.program_soundness.proofs.ObjectBodies as bodies
use Rattle.program_soundness.proofs.ObjectItems.{both_true, not_true, order}
use Rattle.program_soundness.proofs.ObjectTrees.{parts_legal}
use Rattle.program_soundness.proofs.OneList.{is_task_body, matched_at, restricted_at, taken_before}
use Rattle.program_soundness.proofs.Statics.{must_be_static}
use Rattle.program_soundness.proofs.Trees.{tree_package}
use Rattle.program_soundness.proofs.Walked.{item_new, legal_at}
use Rattle.program_soundness.proofs.Whole.{IsPackage, item_stands, kept, known_subtype, no_doubt}
use Rattle.program_soundness.proofs.WiderScopes.{bytes_same, equal_bytes, same_bytes, stands, unseen_none}
use Rattle.package_code.specs.Bodies.{Coded, IsBodyOf}
use Rattle.package_code.proofs.InFront.{LawsOfNames}
use Rattle.package_code.proofs.ObjectNumbers.{ceiling_is}
use Rattle.stmt_code.specs.Subprograms.{NameSubtypes}
use Rattle.source_laws.specs.Meant.{HasOneBody, IsGivenIfAny, IsTold, IsToldBody, IsToldCeiling, IsToldObject, IsToldPriority, MeaningIsTold}
use Rattle.program_soundness.specs.step_soundness.proofs.Sights.{is_there}
use Rattle.source_laws.proofs.FitFronts.{body_adds}
use Rattle.source_laws.proofs.LaterValues.{static_kept}
use Rattle.source_laws.proofs.MeantStatements.{ReadsIn, handlers_told, locals_told, stmts_told}
use Rattle.source_laws.proofs.NumberScopes.{fits_if, fronts_short, initial_short, item_at, start_short}
use Rattle.source_laws.proofs.PartsCounted.{behind_declared}
use Rattle.source_laws.proofs.MainAspect.{standard_extends, standard_scalar}
use Rattle.source_laws.proofs.SpelledNumbers.{body_item_fits, numbers_spelled, part_fits, value_fits}
use Rattle.source_laws.proofs.VisibleWords.{behind_front}
use Rattle.source_laws.proofs.WholeBodies.{IsLegalBody, legal_body}

-- ---- values

word_of : (o : Option Scalar) (c : Scalar) → fits_if o ≡ true → o ≡ Some c → IsWord c
word_of o (scalar.Number z) h is = sym (ap fits_if is) ∙ h
word_of o (scalar.Truth b) h is = tt

-- where nothing is hidden, names keep their fixed values
keeps_here : (s : Scope) → Keeps s (static_place s)
keeps_here s first parts v h = h

-- ---- priorities

priority_is : (highest : ℕ) (o : Option Value) → is_priority_value highest o ≡ true → (n : ℕ) × (o ≡ Some (Number (pos n))) × (nat_le n highest ≡ true)
priority_is highest (Some (Number (pos n))) h = (n, refl, h)
priority_is highest (Some (Number (negsuc n))) h = cc
priority_is highest (Some (Truth b)) h = cc
priority_is highest (Some (Array vs)) h = cc
priority_is highest (Some (Record fs)) h = cc
priority_is highest None h = cc

none_broken : (fs : Faults) (form : StaticForm) (v : Val Value) (x : Value) → static_result fs form v ≡ Some x → fs ≡ []
none_broken [] form v x h = refl
none_broken (f ∷ fs) form v x h = cc

-- a priority up to the highest is taken
taken : (highest other n : ℕ) (o : Option Value) → o ≡ Some (Number (pos n)) → nat_le n highest ≡ true → priority_within highest other o ≡ n
taken highest other n o is low = ap (priority_within highest other) is ∙ ap (λ b. elim b [ true ↦ n | false ↦ other ]) low

-- ---- protected objects

object_cases : (number ceiling : ℕ) (os : Option (List Operation)) (cs : Option (List RecordComponent))
    → ((o : ProtectedObject) × (object_with number ceiling os cs ≡ Protected o) × (o.ceiling ≡ ceiling)) ⊎ (object_with number ceiling os cs ≡ Doubtful)
object_cases number ceiling (Some os) (Some cs) = inl (_, refl, refl)
object_cases number ceiling (Some os) None = inr refl
object_cases number ceiling None cs = inr refl

-- ---- bodies of tasks

task_passes : (name : Identifier) (x : BodyItemTree) → is_task_body name x ≡ true
    → (own : Identifier) × (b : BodyTree) × (x ≡ TaskBody own b) × (own.name ≡ name.name)
task_passes name (TaskBody own b) h = (own, b, refl, sym (same_bytes name.name own.name h))
task_passes name (OfItem d) h = cc
task_passes name (SubprogramBody d b) h = cc
task_passes name (ProtectedBody own items end_name) h = cc

-- the first of this name, where there is one alone
taken_body : (name : Identifier) (xs : List BodyItemTree) (j : ℕ) (own : Identifier) (b : BodyTree) → slice_get xs j ≡ Some (TaskBody own b)
    → own.name ≡ name.name
    → ((k : ℕ) (other : Identifier) (c : BodyTree) → slice_get xs k ≡ Some (TaskBody other c) → other.name ≡ name.name → k ≡ j)
    → body_among name xs ≡ OfBody b ∷ []
taken_body name [] j own b at same only = cc
taken_body name (TaskBody other c ∷ xs) zero own b at same only =
    let item = same_some (TaskBody other c) (TaskBody own b) at in
    let named : other.name ≡ name.name = ap (λ x. elim x [ TaskBody y z ↦ y.name | u ↦ other.name ]) item ∙ same in
    let body : c ≡ b = ap (λ x. elim x [ TaskBody y z ↦ z | u ↦ c ]) item in
    ap (λ t. cond t (OfBody c ∷ []) (body_among name xs)) (equal_bytes other.name name.name named) ∙ ap (λ z. OfBody z ∷ []) body
taken_body name (TaskBody other c ∷ xs) (suc j) own b at same only =
    by_test (bytes_eq other.name name.name) refl
    (taken_body name xs j own b at same (λ k z d there named. let one = only (suc k) z d there named in omega (arith, one)))
  where
    by_test : (t : Bool) → bytes_eq other.name name.name ≡ t → body_among name xs ≡ OfBody b ∷ [] → cond t (OfBody c ∷ []) (body_among name xs) ≡ OfBody b ∷ []
    by_test true is rest = absurd (let first = only 0 other c refl (same_bytes other.name name.name is) in omega (arith, first))
    by_test false is rest = rest
taken_body name (OfItem d ∷ xs) zero own b at same only = cc
taken_body name (SubprogramBody d c ∷ xs) zero own b at same only = cc
taken_body name (ProtectedBody z items end_name ∷ xs) zero own b at same only = cc
taken_body name (OfItem d ∷ xs) (suc j) own b at same only =
    taken_body name xs j own b at same (λ k z e there named. let one = only (suc k) z e there named in omega (arith, one))
taken_body name (SubprogramBody d c ∷ xs) (suc j) own b at same only =
    taken_body name xs j own b at same (λ k z e there named. let one = only (suc k) z e there named in omega (arith, one))
taken_body name (ProtectedBody y items end_name ∷ xs) (suc j) own b at same only =
    taken_body name xs j own b at same (λ k z e there named. let one = only (suc k) z e there named in omega (arith, one))

-- where a body stands among all declarations and bodies
behind_specified : (ds : List ItemTree) (xs : List BodyItemTree) (j : ℕ) → slice_get (map OfItem ds ++ xs) (length ds + j) ≡ slice_get xs j
behind_specified [] xs j = ap (slice_get xs) (let e : 0 + j ≡ j = omega arith in e)
behind_specified (d ∷ ds) xs j =
    let e : suc (length ds) + j ≡ suc (length ds + j) = omega arith in
    ap (slice_get (OfItem d ∷ map OfItem ds ++ xs)) e ∙ behind_specified ds xs j

-- ---- formals

object_names_none : (r : _) (o : Option Subtype) → subtype_in (Some (object_entity r o)) ≡ None
object_names_none r (Some u) = refl
object_names_none r None = refl

formals_name_none : (s : Scope) (fs : List Formal) → SameSubtypes s (formals_scope s fs)
formals_name_none s [] = λ name. refl
formals_name_none s (f ∷ fs) =
    same_more s (formal_scope s f) (formals_scope s (f ∷ fs))
    (same_subtypes s f.name.name (object_entity (formal_role f.mode) (subtype_of s f.subtype))
    (object_names_none (formal_role f.mode) (subtype_of s f.subtype)))
    (formals_name_none (formal_scope s f) fs)

-- ---- the text

module _ (statics : StaticIsValue) (laws : LawsOfNames) (declarations : DeclarationsAreSound) (t : ProgramTree) (legal : IsLegal t)
    (restricted : IsRestricted t)
    (numbers : list_all body_item_fits (declared_in t.package_) ≡ true) where
  abbrev all : List BodyItemTree
  all = declared_in t.package_

  abbrev start : Scope
  start = start_in t.package_

  abbrev whole : Scope
  whole = (program_of t).scope

  abbrev w : IsPackage (program_of t) start all
  w = tree_package t legal restricted (laws.premises t legal).sound

  whole_sound : SoundScope whole
  whole_sound = (laws.premises t legal).sound

  whole_extends : (place : ℕ) → Extends (front t place) whole
  whole_extends place = let more = behind_front t place in (more.0, sym w.scope ∙ more.1)

  here_sound : (place : ℕ) → SoundScope (front t place)
  here_sound place = (laws.names t legal restricted).fronts place

  kept_whole : (place : ℕ) (name : Identifier) (u : Subtype) → subtype_of (front t place) name ≡ Some u → subtype_of whole name ≡ Some u
  kept_whole place name u h = subtype_kept (front t place) whole (kept (program_of t) start all w place) name u h

  -- ---- objects

  given_told : (place : ℕ) (u : Subtype) (o : Option ExprTree) → value_fits o ≡ true
      → ((e : ExprTree) → o ≡ Some e → fixed_faults (front t place) (Some u) e ≡ []) → IsGivenIfAny whole o
  given_told place u None fit h = tt
  given_told place u (Some e) fit h =
      let here = front t place in
      let x = initial_known here (here_sound place) u e (h e refl) in
      let names = fronts_short start all place (start_short t.package_) numbers in (
        x.value,
        fixed_is_first statics here (here_sound place) whole (whole_extends place) u e x.value x.is
            (word_of (fixed_scalar here (Some u) e) x.value (initial_short here names (Some u) e fit) x.is),
      )

  object_told : (place : ℕ) (subtype : Identifier) (value : Option ExprTree) → value_fits value ≡ true → subtype_faults (front t place) subtype ≡ []
      → ((e : ExprTree) → value ≡ Some e → fixed_faults (front t place) (subtype_of (front t place) subtype) e ≡ [])
      → IsToldObject whole subtype value
  object_told place subtype value fit named given =
      let here = front t place in
      let u = known_subtype (program_of t) start all w place subtype named in
      record {
        named = (u.0, kept_whole place subtype u.0 u.1);
        given = given_told place u.0 value fit (λ e is. ap (λ o. fixed_faults here o e) (sym u.1) ∙ given e is);
      }

  variable_told : (place : ℕ) (d : ObjectTree) → slice_get all place ≡ Some (OfItem (OfObject d)) → IsToldObject whole d.subtype d.value
  variable_told place d at =
      let here = front t place in
      let named = subtype_faults here d.subtype in
      let first = fixed_initial_faults here d in
      let two = front_empty (named ++ first) (declared_twice here d.name) (legal_at start all place (OfItem (OfObject d)) at w.list.legal) in
      object_told place d.subtype d.value (item_at all place (OfItem (OfObject d)) numbers at) (front_empty named first two)
      (λ e is. sym (ap (λ o. elim o [
        | Some v ↦ fixed_faults here (subtype_of here d.subtype) v
        | None ↦ rule NOT_STATIC d.name.place d.constant
      ]) is) ∙ back_empty named first two)

  part_told : (place : ℕ) (d : ProtectedTree) (seen : List ProtectedComponentTree) (c : ProtectedComponentTree) → part_fits c ≡ true
      → part_faults (front t place) d.name d.operations seen c ≡ [] → IsToldObject whole c.subtype c.value
  part_told place d seen c fit h =
      let here = front t place in
      let like = rule DECLARED_TWICE c.name.place (is_component_like here d.name d.operations seen c.name.name) in
      let named = subtype_faults here c.subtype in
      let initial = component_initial_faults here c in
      object_told place c.subtype c.value fit (back_empty like named (front_empty (like ++ named) initial h))
      (λ e is. sym (ap (λ o. elim o [ Some v ↦ fixed_faults here (subtype_of here c.subtype) v | None ↦ [] ]) is) ∙ back_empty (like ++ named) initial h)

  parts_told : (place : ℕ) (d : ProtectedTree) (seen cs : List ProtectedComponentTree) (index : ℕ) (c : ProtectedComponentTree)
      → list_all part_fits cs ≡ true → parts_faults (front t place) d.name d.operations seen cs ≡ [] → slice_get cs index ≡ Some c
      → IsToldObject whole c.subtype c.value
  parts_told place d seen [] index c fit h at = cc
  parts_told place d seen (x ∷ cs) zero c fit h at =
      subst (λ y. IsToldObject whole y.subtype y.value) (same_some x c at)
      (part_told place d seen x (and_parts (part_fits x) (list_all part_fits cs) fit).0 (front_empty (part_faults (front t place) d.name d.operations seen x)
      (parts_faults (front t place) d.name d.operations (seen ++ x ∷ []) cs) h))
  parts_told place d seen (x ∷ cs) (suc index) c fit h at =
      parts_told place d (seen ++ x ∷ []) cs index c (and_parts (part_fits x) (list_all part_fits cs) fit).1
      (back_empty (part_faults (front t place) d.name d.operations seen x)
      (parts_faults (front t place) d.name d.operations (seen ++ x ∷ []) cs) h) at

  -- ---- priorities

  record HasPriority (s : Scope) (highest : ℕ) (a : AspectTree) (other : ℕ) : Type 0 where
    value : ℕ
    here : priority_of s highest other (Some a) ≡ value
    behind : priority_of whole highest other (Some a) ≡ value
    is : val (static_place whole) a.value ≡ Gives (Number (pos value))

  -- by what its value is where it is judged
  priority_by : (s : Scope) → Extends s whole → SoundScope s → (highest : ℕ) (a : AspectTree) (other n : ℕ)
      → static_scalar s (OfType integer_type) None a.value ≡ Some (Number (pos n)) → nat_le n highest ≡ true → HasPriority s highest a other
  priority_by s x sound highest a other n scalar_ low =
      let wanted = OfType integer_type in
      let faults = none_broken (static_faults s wanted None a.value) (static_form s a.value) (static_value s a.value) (Number (pos n)) scalar_ in
      let later = static_kept s whole x sound wanted None a.value faults in
      let y = must_be_static whole whole_sound wanted None a.value later.faults in
      let value = same_some y.value (Number (pos n)) (sym y.scalar ∙ later.scalar ∙ scalar_) in
      record {
        value = n;
        here = taken highest other n (static_scalar s wanted None a.value) scalar_ low;
        behind = taken highest other n (static_scalar whole wanted None a.value) (later.scalar ∙ scalar_) low;
        is = statics whole (static_place whole) (call 0) (keeps_here whole) a.value y.static ∙ y.gives ∙ ap Gives value;
      }

  -- where it keeps the profile
  priority_given : (s : Scope) (highest : ℕ) (a : AspectTree) → profile.aspect_faults s highest (Some a) ≡ []
      → (n : ℕ) × (static_scalar s (OfType integer_type) None a.value ≡ Some (Number (pos n))) × (nat_le n highest ≡ true)
  priority_given s highest a h =
      let scalar_ = static_scalar s (OfType integer_type) None a.value in
      let gives = not_true (gives_priority s highest a) (unbroken WRONG_ASPECT a.place (not (gives_priority s highest a)) h) in
      priority_is highest scalar_ (both_true (is_priority a) (is_priority_value highest scalar_) gives).1

  has_priority : (place highest : ℕ) (a : AspectTree) (other : ℕ) → profile.aspect_faults (front t place) highest (Some a) ≡ []
      → HasPriority (front t place) highest a other
  has_priority place highest a other h =
      let n = priority_given (front t place) highest a h in
      priority_by (front t place) (whole_extends place) (here_sound place) highest a other n.0 n.1 n.2

  -- that of a task is taken where all names of the package are visible
  priority_told : (place : ℕ) (a : Option AspectTree) → profile.aspect_faults (front t place) TASK_PRIORITY a ≡ []
      → IsToldPriority whole a default_priority (base_priority whole a)
  priority_told place None h = refl
  priority_told place (Some a) h =
      let x = has_priority place TASK_PRIORITY a default_priority h in x.is ∙ ap (λ n. Gives (Number (pos n))) (sym x.behind)

  -- main's aspect names what Standard has: the package has no value
  main_restricted : profile.aspect_faults (main_scope t.package_) TASK_PRIORITY t.main.aspect ≡ []
  main_restricted = back_empty _ (profile.aspect_faults (main_scope t.package_) TASK_PRIORITY t.main.aspect) restricted

  main_told : (a : Option AspectTree) → profile.aspect_faults (main_scope t.package_) TASK_PRIORITY a ≡ [] → IsToldPriority whole a default_priority (base_priority whole a)
  main_told None h = refl
  main_told (Some a) h =
      let n = priority_given (main_scope t.package_) TASK_PRIORITY a h in
      let x = priority_by standard (standard_extends t.package_ whole (whole_extends 0)) laws.scopes.begun TASK_PRIORITY a default_priority n.0
      (standard_scalar t.package_ a.value (Number (pos n.0)) n.1) n.2 in
      x.is ∙ ap (λ k. Gives (Number (pos k))) (sym x.behind)

  -- that of an object where it is declared
  ceiling_told : (place : ℕ) (a : Option AspectTree) (other ceiling : ℕ) → profile.aspect_faults (front t place) CEILING a ≡ []
      → ceiling ≡ priority_of (front t place) CEILING other a → IsToldPriority whole a other ceiling
  ceiling_told place None other ceiling h is = is
  ceiling_told place (Some a) other ceiling h is =
      let x = has_priority place CEILING a other h in x.is ∙ ap (λ n. Gives (Number (pos n))) (sym x.here ∙ sym is)

  object_ceiling : (place : ℕ) (d : ProtectedTree) → slice_get all place ≡ Some (OfItem (OfProtected d)) → IsToldCeiling whole d.name d.operations d.aspect
  object_ceiling place d at =
      by_cases (object_cases (protected_count here) (priority_of here CEILING (default_ceiling d.operations) d.aspect) (object_operations here d.operations)
      (object_components here d.components))
    where
      here : Scope
      here = front t place

      e : Entity
      e = protected_entity here d

      there : stands whole d.name.name ≡ Some e
      there =
          item_stands (program_of t) start all w place (OfItem (OfProtected d)) d.name.name e at
          (unseen_none here d.name.name (item_new here (OfProtected d) (legal_at start all place (OfItem (OfProtected d)) at w.list.legal)))
          (ap (λ b. cond b (Some e) None) (bytes_same d.name.name))

      restricted_here : profile.protected_faults here (taken_before start none_taken all place) d ≡ []
      restricted_here = restricted_at start all w.list place (OfItem (OfProtected d)) at

      by_cases : ((o : ProtectedObject) × (e ≡ Protected o) × (o.ceiling ≡ priority_of here CEILING (default_ceiling d.operations) d.aspect)) ⊎ (e ≡ Doubtful)
          → IsToldCeiling whole d.name d.operations d.aspect
      by_cases (inl x) =
          record {
            object = x.0;
            stands = there ∙ ap Some x.1;
            ceiling =
                ceiling_told place d.aspect (default_ceiling d.operations) (ceiling_of whole x.0.number)
                (front_empty (profile.aspect_faults here CEILING d.aspect) _ (front_empty _ (profile.entries_faults false d.operations) (front_empty _ _ restricted_here)))
                (ceiling_is (program_of t) start all w d.name.name x.0 (there ∙ ap Some x.1) ∙ x.2);
          }
      by_cases (inr x) = absurd (no_doubt (program_of t) start all w d.name.name (there ∙ ap Some x))

  -- ---- tasks

  -- no second body has the name of one
  one_body : (j k : ℕ) (own other : Identifier) (b c : BodyTree) → j < k → slice_get all j ≡ Some (TaskBody own b) → slice_get all k ≡ Some (TaskBody other c)
      → own.name ≡ other.name → ⊥
  one_body j k own other b c less first second same =
      let rules_ = matched_at start all w.list k (TaskBody other c) second in
      let none = none_passes (is_task_body other) (take k all) j (TaskBody own b) (unbroken _ other.place _ rules_)
      (taken_at all k j (TaskBody own b) less first) in
      not_both (is_task_body other (TaskBody own b)) (equal_bytes other.name own.name (sym same)) none

  has_body : (place : ℕ) (d : TaskTree) → slice_get all place ≡ Some (OfItem (OfTask d)) → HasOneBody d.name (package_bodies t.package_)
  has_body place d at = by_package t.package_ refl
    where
      found : (k : ℕ) × (x : BodyItemTree) × (slice_get all k ≡ Some x) × (is_task_body d.name x ≡ true)
      found =
          let behind = drop (suc place) all in
          let rules_ = matched_at start all w.list place (OfItem (OfTask d)) at in
          let any = not_false (list_any (is_task_body d.name) behind) (unbroken _ d.name.place _ rules_) in
          let one = one_passes (is_task_body d.name) behind any in
          (suc place + one.0, one.1, sym (dropped_at all (suc place) one.0) ∙ one.2, one.3)

      by_package : (o : Option PackageTree) → t.package_ ≡ o → HasOneBody d.name (package_bodies o)
      by_package None is = (let never = ap (λ o. slice_get (declared_in o) place) (sym is) ∙ at in cc)
      by_package (Some p) is =
          by_place (behind_declared p.declaration.items xs found.0 found.1 (ap (λ o. slice_get (declared_in o) found.0) (sym is) ∙ found.2))
        where
          xs : List BodyItemTree
          xs = p.body.items

          y : (own : Identifier) × (b : BodyTree) × (found.1 ≡ TaskBody own b) × (own.name ≡ d.name.name)
          y = task_passes d.name found.1 found.3

          among : (j : ℕ) (own : Identifier) (b : BodyTree) → slice_get xs j ≡ Some (TaskBody own b)
              → slice_get all (length p.declaration.items + j) ≡ Some (TaskBody own b)
          among j own b h =
              ap (λ o. slice_get (declared_in o) (length p.declaration.items + j)) is ∙ behind_specified p.declaration.items xs j ∙ h

          only : (j k : ℕ) (own other : Identifier) (b c : BodyTree) → slice_get xs j ≡ Some (TaskBody own b) → slice_get xs k ≡ Some (TaskBody other c)
              → own.name ≡ other.name → k ≡ j
          only j k own other b c first second same =
              elim (order j k) [
                | inl l ↦ absurd (one_body (length p.declaration.items + j) (length p.declaration.items + k) own other b c (omega (arith, l))
                    (among j own b first) (among k other c second) same)
                | inr r ↦ elim r [
                  | inl e ↦ sym e
                  | inr l ↦ absurd (one_body (length p.declaration.items + k) (length p.declaration.items + j) other own c b (omega (arith, l))
                      (among k other c second) (among j own b first) (sym same))
                ]
              ]

          by_place : ((e : ItemTree) × (found.1 ≡ OfItem e)) ⊎ ((j : ℕ) × (slice_get xs j ≡ Some found.1)) → HasOneBody d.name xs
          by_place (inl e) = (let never = sym e.1 ∙ y.2 in cc)
          by_place (inr j) =
              let there = j.1 ∙ ap Some y.2 in
              let alone : (k : ℕ) (z : Identifier) (c : BodyTree) → slice_get xs k ≡ Some (TaskBody z c) → z.name ≡ d.name.name → k ≡ j.0 =
              λ k z c k_at named. only j.0 k y.0 z y.1 c there k_at (y.3 ∙ sym named) in
              record {
                place = j.0;
                own = y.0;
                body = y.1;
                at = there;
                same = y.3;
                taken = taken_body d.name xs j.0 y.0 y.1 there y.3 alone;
                only = alone;
              }

  -- ---- bodies

  module _ (c : Coded) (b : IsBodyOf t c) where
    its : IsLegalBody t c
    its = legal_body laws t legal restricted c b

    front_named : (name : Identifier) (u : Subtype) → subtype_of c.front name ≡ Some u → subtype_of whole name ≡ Some u
    front_named name u h =
        kept_whole b.place name u
        ((body_adds laws.scopes laws.names laws.premises laws.stay t legal restricted c b).back name u h)

    formals_told : (fs : List Formal) → NameSubtypes c.front fs → NameSubtypes whole fs
    formals_told [] h = tt
    formals_told (f ∷ fs) h =
        let u = is_there (subtype_of c.front f.subtype) h.0 in (ap is_some (front_named f.subtype u.0 u.1), formals_told fs h.1)

    reads : ReadsIn whole (formals_scope c.front c.head.formals)
    reads =
        record {
          sound = its.added.sound;
          subtypes = λ name u h. front_named name u (sym (formals_name_none c.front c.head.formals name) ∙ h);
        }

    body_told : IsToldBody whole c
    body_told =
        let s = formals_scope c.front c.head.formals in
        let ds = c.body.declarations in
        let later = locals_scope s ds in
        let kind = its.kind in
        let one = locals_faults s ds in
        let f = stmts_faults later (in_body kind) c.body.statements in
        let g = more_handlers_faults later (in_body kind) [] c.body.handlers in
        let two = back_empty one (f ++ g) its.legal in
        let own = restrictions.locals_faults ds in
        let inner = restrictions.stmts_faults c.body.statements in
        let last = restrictions.handlers_faults c.body.handlers in
        let both = front_empty (own ++ inner) last its.restricted in
        let declared = locals_told statics declarations whole ds s reads (front_empty one (f ++ g) its.legal) (front_empty own inner both) in
        record {
          formals = formals_told c.head.formals its.named;
          result = λ r some. is_there (subtype_of whole r) (its.added.result r some);
          returns = its.returns;
          locals = declared.own;
          statements =
              stmts_told statics declarations whole c.body.statements later (in_body kind) declared.behind (front_empty f g two) (back_empty own inner both);
          handlers =
              handlers_told statics declarations whole c.body.handlers later (in_body kind) [] declared.behind (back_empty f g two)
              (back_empty (own ++ inner) last its.restricted);
        }

  told : IsTold t
  told =
      record {
        variables = λ place d at constant. variable_told place d at;
        components = λ place index d c at there.
            parts_told place d [] d.components index c (item_at all place (OfItem (OfProtected d)) numbers at)
            (parts_legal (front t place) d (legal_at start all place (OfItem (OfProtected d)) at w.list.legal)) there;
        objects = object_ceiling;
        numbered = λ place name items end_name at.
            let x = bodies.there (program_of t) start all w place name items end_name at in (x.object.number, x.numbered);
        tasks = λ place d at. (
          has_body place d at,
          priority_told place d.aspect (front_empty (profile.aspect_faults (front t place) TASK_PRIORITY d.aspect) (profile.definition_faults d.definition)
              (restricted_at start all w.list place (OfItem (OfTask d)) at)),
        );
        main = main_told t.main.aspect main_restricted;
        bodies = body_told;
      }

pub meaning_is_told : StaticIsValue → LawsOfNames → DeclarationsAreSound → MeaningIsTold
meaning_is_told statics laws declarations text tokens t spelled legal restricted =
    told statics laws declarations t legal restricted (numbers_spelled text tokens t spelled)
