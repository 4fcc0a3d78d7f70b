-- What can be called in front of the declarations and bodies of a legal text has few formals, and those of functions are scalar.
use Rattle.std.proofs.Common.{◌≡◌, ℕ, zero, suc, ◌+◌, ◌≤◌, Bool, true, false, cond, not, ◌||◌, List, [], ◌∷◌, ◌++◌, length, length-append, Option, Some, None, refl, sym, ap, ◌∙◌, subst, arith}
use Rattle.std.specs.Prelude.{codes, is_some, nat_le, slice_get}
use Rattle.std.proofs.lemmas.Bool.{leb-false, or_parts}
use Rattle.base.specs.declared.faults.TheConstants.{DECLARED_TWICE, LIMIT_PASSED, WRONG_FUNCTION}
use Rattle.base.specs.declared.limits.TheConstants.{FORMALS, TASK_PRIORITY}
use Rattle.ada_tree.specs.declared.declaration.Formal.{Formal}
use Rattle.ada_tree.specs.declared.expression.Identifier.{Identifier}
use Rattle.ada_tree.specs.StatementTree as operation
use Rattle.ada_tree.specs.StatementTree.{OperationTree, ProtectedTree, SubprogramTree}
use Rattle.ada_tree.specs.ProgramTree.{BodyItemTree, OfException, OfItem, OfObject, OfProtected, OfSubprogram, OfTask, OfType, PackageTree, ProtectedBody, SubprogramBody, TaskBody}
use Rattle.types.specs.declared.entity.FormalParameter.{FormalParameter}
use Rattle.types.specs.declared.entity.PredefinedOperation.TheVariants as predefined
use Rattle.types.specs.declared.entity.RecordComponent.{RecordComponent}
use Rattle.types.specs.declared.entity.Subtype.{Subtype}
use Rattle.types.specs.declared.standing.Callee.TheVariants as callee
use Rattle.types.specs.Entities.{Arrays, Booleans, Entity, Entry, Exception, Integers, LibraryUnit, Operation, Predefined, Profile, Protected, Put, Records, Spans, Subprogram, Task, Times, TypeForm}
use Rattle.types.specs.Entities as entity
use Rattle.types.specs.Scopes.{Scope, base_range_of, entity_at, form_at, from_integer, from_nothing, integer, integer_type, is_visible, profile_of, protected_of, standard, with_control_io, with_name, with_real_time}
use Rattle.types.specs.Standings.{profile_among}
use Rattle.types.specs.Standings as standings
use Rattle.expr_soundness.specs.expr_rules.specs.Faults.{rule}
use Rattle.expr_soundness.specs.expr_rules.proofs.TypedLaw.{back_empty, front_empty, unbroken}
use Rattle.expr_soundness.specs.type_rules.specs.ObjectRules.{package_object_entity}
use Rattle.expr_soundness.specs.type_rules.specs.ProfileRules.{formal_faults, formal_parameters, formals_faults, function_faults, has_wrong_formal, is_in, is_wrong_formal, profile_entity, profile_faults, profile_with, result_faults}
use Rattle.expr_soundness.specs.type_rules.specs.SubtypeNames.{declared_twice, end_rule, is_composite, is_composite_form, subtype_faults, subtype_of}
use Rattle.expr_soundness.specs.type_rules.specs.TypeRules.{definition_entity}
use Rattle.program_soundness.specs.declaration_rules.specs.ProtectedRules.{object_components, object_operations, object_with, operation_and, operation_faults, operation_profile, operation_profile_faults, operations_faults, parts_faults, protected_entity}
use Rattle.program_soundness.specs.declaration_rules.specs.TaskRules.{aspect_faults, default_priority, operation_aspect_faults, priority_of}
use Rattle.program_soundness.specs.unit_rules.specs.BodyRules.{body_name_faults, function_body_faults, head_faults, own_name_faults}
use Rattle.program_soundness.specs.declaration_rules.specs.PackageNames.{body_item_scope, clauses_scope}
use Rattle.program_soundness.specs.unit_rules.specs.PackageBodyRules.{body_item_faults, body_items_faults}
use Rattle.expr_soundness.specs.Laws.{ScopesAreSound}
use Rattle.expr_soundness.specs.SoundScopes.{SoundScope}
use Rattle.expr_soundness.proofs.Growing.{grown, test_kept}
use Rattle.program_soundness.specs.Fronts.{scope_at, start_in}
use Rattle.program_soundness.proofs.BodyProfiles.{first_formal, profile_formals, profile_none}
use Rattle.program_soundness.proofs.Listing.{same_some}
use Rattle.program_soundness.proofs.Walked.{Constants, Entries, IsOne, Kind, Others, ProtectedOnes, Subprograms, Types, Variables, declared_one, own_profile}
use Rattle.expr_code.specs.Providing.{AreScalar, FewFormals, HasFewFormals, is_scalar_form}
use Rattle.source_laws.proofs.UnitClauses.{clauses_keep}

-- ---- what is asked of a name

abbrev pub FewOperations : Scope → List Operation → Type 0
FewOperations s [] = Unit {0}
FewOperations s (o ∷ os) = HasFewFormals s o.profile × FewOperations s os

abbrev pub FewIn : Scope → Entity → Type 0
FewIn s (Subprogram p) = HasFewFormals s p
FewIn s (Entry p) = HasFewFormals s p
FewIn s (Predefined o p) = HasFewFormals s p
FewIn s (Protected o) = FewOperations s o.operations
FewIn s e = Unit {0}

abbrev pub AllFew : Scope → (names : Scope) → Type 0
AllFew s [] = Unit {0}
AllFew s (n ∷ names) = FewIn s n.entity × AllFew s names

-- ... of all, and that Integer is a number
pub record Calls (s : Scope) : Type 0 where
  pub number : is_scalar_form (form_at s integer_type) ≡ true
  pub all : AllFew s s

-- ---- names in front stay what they are

scalar_kept : (s more : Scope) (n : ℕ) → is_scalar_form (form_at s n) ≡ true → is_scalar_form (form_at (s ++ more) n) ≡ true
scalar_kept s more n h = test_kept s (s ++ more) (grown s more) is_scalar_form refl n h

module _ (s more : Scope) where
  formals_kept : (fs : List FormalParameter) → AreScalar s fs → AreScalar (s ++ more) fs
  formals_kept [] h = tt
  formals_kept (f ∷ fs) h = (scalar_kept s more f.subtype.type_number h.0, formals_kept fs h.1)

  profile_kept : (p : Profile) → HasFewFormals s p → HasFewFormals (s ++ more) p
  profile_kept p h = record { few = h.few; scalar = λ t is. formals_kept p.formals (h.scalar t is) }

  operations_kept : (os : List Operation) → FewOperations s os → FewOperations (s ++ more) os
  operations_kept [] h = tt
  operations_kept (o ∷ os) h = (profile_kept o.profile h.0, operations_kept os h.1)

  entity_kept : (e : Entity) → FewIn s e → FewIn (s ++ more) e
  entity_kept (Subprogram p) h = profile_kept p h
  entity_kept (Entry p) h = profile_kept p h
  entity_kept (Predefined o p) h = profile_kept p h
  entity_kept (Protected o) h = operations_kept o.operations h
  entity_kept e h = tt

  all_kept : (names : Scope) → AllFew s names → AllFew (s ++ more) names
  all_kept [] h = tt
  all_kept (n ∷ names) h = (entity_kept n.entity h.0, all_kept names h.1)

both_few : (s xs ys : Scope) → AllFew s xs → AllFew s ys → AllFew s (xs ++ ys)
both_few s [] ys h k = k
both_few s (x ∷ xs) ys h k = (h.0, both_few s xs ys h.1 k)

calls_with : (s : Scope) (name : List ℕ) (e : Entity) → Calls s → FewIn s e → Calls (with_name s name e)
calls_with s name e h k = by_test (is_visible s name)
  where
    by_test : (b : Bool) → Calls (cond b s (s ++ record { name = name; entity = e } ∷ []))
    by_test true = h
    by_test false =
        record {
          number = scalar_kept s (record { name = name; entity = e } ∷ []) integer_type h.number;
          all = both_few (s ++ record { name = name; entity = e } ∷ []) s (record { name = name; entity = e } ∷ [])
              (all_kept s (record { name = name; entity = e } ∷ []) s h.all)
              (entity_kept s (record { name = name; entity = e } ∷ []) e k, tt);
        }

-- ... also where other names are visible, but no other types

module _ (s u : Scope) (forms : (n : ℕ) → form_at u n ≡ form_at s n) where
  scalars_same : (fs : List FormalParameter) → AreScalar s fs → AreScalar u fs
  scalars_same [] h = tt
  scalars_same (f ∷ fs) h = (ap is_scalar_form (forms f.subtype.type_number) ∙ h.0, scalars_same fs h.1)

  pub profile_same : (p : Profile) → HasFewFormals s p → HasFewFormals u p
  profile_same p h = record { few = h.few; scalar = λ t is. scalars_same p.formals (h.scalar t is) }

  operations_same : (os : List Operation) → FewOperations s os → FewOperations u os
  operations_same [] h = tt
  operations_same (o ∷ os) h = (profile_same o.profile h.0, operations_same os h.1)

  pub entity_same : (e : Entity) → FewIn s e → FewIn u e
  entity_same (Subprogram p) h = profile_same p h
  entity_same (Entry p) h = profile_same p h
  entity_same (Predefined o p) h = profile_same p h
  entity_same (Protected o) h = operations_same o.operations h
  entity_same e h = tt

-- ---- in front of the package

from_integer_few : (s : Scope) (o : _) (u : Subtype) → Calls s → FewIn s (from_integer o u)
from_integer_few s o u h = record { few = omega arith; scalar = λ t is. (h.number, tt) }

from_nothing_few : (s : Scope) (o : _) (u : Subtype) → FewIn s (from_nothing o u)
from_nothing_few s o u = record { few = omega arith; scalar = λ t is. tt }

times_call : (s : Scope) → Calls s → Calls (with_real_time s)
times_call s h =
    let time = base_range_of (length s) in
    let span = base_range_of (suc (length s)) in
    let one = with_name s (codes "TIME") (entity.OfType Times time) in
    let two = with_name one (codes "TIME_SPAN") (entity.OfType Spans span) in
    let three = with_name two (codes "CLOCK") (from_nothing predefined.Clock time) in
    let four = with_name three (codes "MILLISECONDS") (from_integer predefined.Milliseconds span) in
    let first = calls_with s (codes "TIME") (entity.OfType Times time) h tt in
    let second = calls_with one (codes "TIME_SPAN") (entity.OfType Spans span) first tt in
    let third = calls_with two (codes "CLOCK") (from_nothing predefined.Clock time) second (from_nothing_few two predefined.Clock time) in
    let fourth = calls_with three (codes "MILLISECONDS") (from_integer predefined.Milliseconds span) third
    (from_integer_few three predefined.Milliseconds span third) in
    calls_with four (codes "MICROSECONDS") (from_integer predefined.Microseconds span) fourth (from_integer_few four predefined.Microseconds span fourth)

io_calls : (s : Scope) → Calls s → Calls (with_control_io s)
io_calls s h =
    let one = with_name s (codes "PUT") Put in
    let first = calls_with s (codes "PUT") Put h tt in
    calls_with one (codes "READ") (from_integer predefined.Read integer) first (from_integer_few one predefined.Read integer first)

standard_calls : Calls standard
standard_calls = record { number = refl; all = (tt, (tt, (tt, (tt, (tt, (tt, (tt, (tt, (tt, (tt, tt)))))))))) }

pub start_calls : (o : Option PackageTree) → Calls (start_in o)
start_calls None = standard_calls
start_calls (Some p) =
    calls_with (clauses_scope standard p.clauses) p.declaration.name.name LibraryUnit
    (clauses_keep Calls times_call io_calls standard p.clauses standard_calls) tt

-- ---- subprograms

pub few_formals : (s : Scope) (before fs : List Formal) → length before ≤ FORMALS → formals_faults s before fs ≡ [] → length before + length fs ≤ FORMALS
few_formals s before [] up h = omega (arith, up)
few_formals s before (f ∷ fs) up h =
    let twice = rule DECLARED_TWICE f.name.place _ in
    let limit = rule LIMIT_PASSED f.name.place (nat_le FORMALS (length before)) in
    let own = front_empty (formal_faults s before f) (formals_faults s (before ++ f ∷ []) fs) h in
    let some = leb-false FORMALS (length before)
    (unbroken LIMIT_PASSED f.name.place (nat_le FORMALS (length before))
    (back_empty twice limit (front_empty (twice ++ limit) (subtype_faults s f.subtype) own))) in
    let longer = length-append before (f ∷ []) in
    let rest = few_formals s (before ++ f ∷ []) fs (omega (arith, some, longer))
    (back_empty (formal_faults s before f) (formals_faults s (before ++ f ∷ []) fs) h) in
    omega (arith, rest, longer)

as_many : (s : Scope) (fs : List Formal) (ps : List FormalParameter) → formal_parameters s fs ≡ Some ps → length ps ≡ length fs
as_many s [] ps h = ap length (sym (same_some [] ps h))
as_many s (f ∷ fs) ps h = let x = first_formal s f fs ps h in ap length x.is ∙ ap suc (as_many s fs x.rest x.further)

few_parameters : (s : Scope) (fs : List Formal) (ps : List FormalParameter) → formals_faults s [] fs ≡ [] → formal_parameters s fs ≡ Some ps
    → length ps ≤ FORMALS
few_parameters s fs ps h is =
    let many = as_many s fs ps is in
    let few = few_formals s [] fs (omega arith) h in
    omega (arith, many, few)

pub scalar_form : (o : Option TypeForm) → is_some o ≡ true → is_composite_form o ≡ false → is_scalar_form o ≡ true
scalar_form None h k = cc
scalar_form (Some Integers) h k = refl
scalar_form (Some Booleans) h k = refl
scalar_form (Some Times) h k = refl
scalar_form (Some Spans) h k = refl
scalar_form (Some (Arrays index many element)) h k = cc
scalar_form (Some (Records cs)) h k = cc

module _ (scopes : ScopesAreSound) (s : Scope) (sound : SoundScope s) where
  formals_scalar : (fs : List Formal) (ps : List FormalParameter) → formal_parameters s fs ≡ Some ps → has_wrong_formal s fs ≡ false → AreScalar s ps
  formals_scalar [] ps is h = subst (AreScalar s) (same_some [] ps is) tt
  formals_scalar (f ∷ fs) ps is h =
      let x = first_formal s f fs ps is in
      let parts = or_parts (is_wrong_formal s f) (has_wrong_formal s fs) h in
      let own = or_parts (not (is_in f.mode)) (is_composite s (subtype_of s f.subtype)) parts.0 in
      let simple = ap (is_composite s) (sym x.named) ∙ own.1 in
      let known = scopes.subtype s f.subtype x.subtype sound x.named in
      subst (AreScalar s) (sym x.is) (scalar_form (form_at s x.subtype.type_number) known simple, formals_scalar fs x.rest x.further parts.1)

  -- a legal profile
  profile_few : (name : Identifier) (fs : List Formal) (r : Option Identifier) (p : Profile) → formals_faults s [] fs ≡ [] → function_faults s name fs r ≡ []
      → profile_with s (formal_parameters s fs) r ≡ Some p
      → HasFewFormals s p
  profile_few name fs r p h function is =
      record { few = few_parameters s fs p.formals h given; scalar = λ t result. by_result r function is t result }
    where
      given : formal_parameters s fs ≡ Some p.formals
      given = profile_formals s (formal_parameters s fs) r p is

      by_result : (q : Option Identifier) → function_faults s name fs q ≡ [] → profile_with s (formal_parameters s fs) q ≡ Some p → (t : Subtype)
          → p.result ≡ Some t
          → AreScalar s p.formals
      by_result None k i t result = absurd (let none = profile_none s (formal_parameters s fs) p i in let bad = sym none ∙ result in cc)
      by_result (Some own) k i t result =
          formals_scalar fs p.formals given
          (or_parts (is_composite s (subtype_of s own)) (has_wrong_formal s fs)
          (unbroken WRONG_FUNCTION name.place (is_composite s (subtype_of s own) || has_wrong_formal s fs) k)).1

  pub subprogram_few : (d : SubprogramTree) → profile_faults s d ≡ [] → (o : Option Profile) → own_profile s d ≡ o → FewIn s (profile_entity o)
  subprogram_few d h None is = tt
  subprogram_few d h (Some p) is =
      let two = front_empty (formals_faults s [] d.formals ++ result_faults s d.result) (function_faults s d.name d.formals d.result) h in
      profile_few d.name d.formals d.result p (front_empty (formals_faults s [] d.formals) (result_faults s d.result) two)
      (back_empty (formals_faults s [] d.formals ++ result_faults s d.result) (function_faults s d.name d.formals d.result) h) is

  -- ---- protected objects

  operation_few : (o : OperationTree) (p : Profile) → operation_profile_faults s o ≡ [] → operation_profile s o ≡ Some p → HasFewFormals s p
  operation_few (operation.OfSubprogram d a) p h is = subprogram_few d (front_empty (profile_faults s d) (operation_aspect_faults s a) h) (Some p) is
  operation_few (operation.OfEntry d) p h is = profile_few d.name d.formals None p h refl is

  operations_few : (own : Identifier) (before os : List OperationTree) (xs : List Operation) → operations_faults s own before os ≡ []
      → object_operations s os ≡ Some xs
      → FewOperations s xs
  operations_few own before [] xs h is = subst (FewOperations s) (same_some [] xs is) tt
  operations_few own before (o ∷ os) xs h is =
      by_parts (operation_profile s o) (object_operations s os) refl refl is
      (back_empty _ (operation_profile_faults s o) (front_empty (operation_faults s own before o) (operations_faults s own (before ++ o ∷ []) os) h))
      (λ rest there. operations_few own (before ++ o ∷ []) os rest
      (back_empty (operation_faults s own before o) (operations_faults s own (before ++ o ∷ []) os) h) there)
    where
      by_parts : (p : Option Profile) (r : Option (List Operation)) → operation_profile s o ≡ p → object_operations s os ≡ r → operation_and o p r ≡ Some xs
          → operation_profile_faults s o ≡ []
          → ((rest : List Operation) → object_operations s os ≡ Some rest → FewOperations s rest)
          → FewOperations s xs
      by_parts (Some p) (Some rest) i j k legal later =
          subst (FewOperations s) (same_some _ xs k) (operation_few o p legal i, later rest j)
      by_parts (Some p) None i j k legal later = cc
      by_parts None r i j k legal later = cc

  protected_few : (d : ProtectedTree) → operations_faults s d.name [] d.operations ≡ [] → FewIn s (protected_entity s d)
  protected_few d h = by_parts _ _ (object_operations s d.operations) (object_components s d.components) refl
    where
      by_parts : (number ceiling : ℕ) (a : Option (List Operation)) (b : Option (List RecordComponent)) → object_operations s d.operations ≡ a
          → FewIn s (object_with number ceiling a b)
      by_parts number ceiling (Some xs) (Some cs) i = operations_few d.name [] d.operations xs h i
      by_parts number ceiling (Some xs) None i = tt
      by_parts number ceiling None b i = tt

-- ---- types, objects, exceptions and tasks aren't called

abbrev is_called : Kind → Bool
is_called Subprograms = true
is_called Entries = true
is_called ProtectedOnes = true
is_called Others = true
is_called k = false

uncalled : (s : Scope) (k : Kind) → is_called k ≡ false → (e : Entity) → IsOne k e → FewIn s e
uncalled s k no_call (Subprogram p) h = let bad = ap is_called h ∙ no_call in cc
uncalled s k no_call (Entry p) h = let bad = ap is_called h ∙ no_call in cc
uncalled s k no_call (Predefined o p) h = let bad = ap is_called h ∙ no_call in cc
uncalled s k no_call (Protected o) h = let bad = ap is_called h ∙ no_call in cc
uncalled s k no_call e h = tt

constants_uncalled : (b : Bool) → is_called (cond b Constants Variables) ≡ false
constants_uncalled true = refl
constants_uncalled false = refl

-- ---- declarations and bodies

module _ (scopes : ScopesAreSound) where
  next_calls : (s : Scope) (x : BodyItemTree) → SoundScope s → Calls s → body_item_faults s x ≡ [] → Calls (body_item_scope s x)
  next_calls s (OfItem (OfType d)) sound h k =
      calls_with s d.name.name (definition_entity s d.definition) h
      (uncalled s Types refl (definition_entity s d.definition)
      (declared_one s (OfItem (OfType d)) (record { name = d.name.name; entity = definition_entity s d.definition }) refl))
  next_calls s (OfItem (OfObject d)) sound h k =
      calls_with s d.name.name (package_object_entity s d) h
      (uncalled s (cond d.constant Constants Variables) (constants_uncalled d.constant) (package_object_entity s d)
      (declared_one s (OfItem (OfObject d)) (record { name = d.name.name; entity = package_object_entity s d }) refl))
  next_calls s (OfItem (OfException name)) sound h k = calls_with s name.name Exception h tt
  next_calls s (OfItem (OfSubprogram d)) sound h k =
      calls_with s d.name.name (profile_entity (own_profile s d)) h
      (subprogram_few scopes s sound d (front_empty (profile_faults s d) (declared_twice s d.name) k) (own_profile s d) refl)
  next_calls s (OfItem (OfTask d)) sound h k = calls_with s d.name.name (Task (priority_of s TASK_PRIORITY default_priority d.aspect)) h tt
  next_calls s (OfItem (OfProtected d)) sound h k =
      let aspects = aspect_faults s d.aspect in
      let operations = operations_faults s d.name [] d.operations in
      let parts = parts_faults s d.name d.operations [] d.components in
      let three = front_empty (aspects ++ operations ++ parts) (end_rule d.name d.end_name)
      (front_empty (aspects ++ operations ++ parts ++ end_rule d.name d.end_name) (declared_twice s d.name) k) in
      calls_with s d.name.name (protected_entity s d) h
      (protected_few scopes s sound d (back_empty aspects operations (front_empty (aspects ++ operations) parts three)))
  next_calls s (SubprogramBody d b) sound h k =
      let head = front_empty (head_faults s d b) _ (front_empty _ (end_rule d.name b.end_name) k) in
      let named = front_empty _ (function_body_faults d b) head in
      let own = front_empty _ (body_name_faults s d.name) named in
      calls_with s d.name.name (profile_entity (own_profile s d)) h
      (subprogram_few scopes s sound d (front_empty (profile_faults s d) (own_name_faults d.name d.formals) own) (own_profile s d) refl)
  next_calls s (TaskBody name b) sound h k = h
  next_calls s (ProtectedBody name items end_name) sound h k = h

  pub fronts_call : (s : Scope) (xs : List BodyItemTree) (place : ℕ) → ((k : ℕ) → SoundScope (scope_at s xs k)) → Calls s → body_items_faults s xs ≡ []
      → Calls (scope_at s xs place)
  fronts_call s [] zero sound h k = h
  fronts_call s [] (suc place) sound h k = h
  fronts_call s (x ∷ xs) zero sound h k = h
  fronts_call s (x ∷ xs) (suc place) sound h k =
      fronts_call (body_item_scope s x) xs place (λ n. sound (suc n))
      (next_calls s x (sound 0) h (front_empty (body_item_faults s x) (body_items_faults (body_item_scope s x) xs) k))
      (back_empty (body_item_faults s x) (body_items_faults (body_item_scope s x) xs) k)

-- ---- what is told of each callee

pub few_at : (s names : Scope) (n : ℕ) (e : Entity) → AllFew s names → entity_at names n ≡ Some e → FewIn s e
few_at s [] n e h at = cc
few_at s (x ∷ names) zero e h at = subst (FewIn s) (same_some x.entity e at) h.0
few_at s (x ∷ names) (suc n) e h at = few_at s names n e h.1 at

operation_at : (s : Scope) (os : List Operation) (n : ℕ) (p : Profile) → FewOperations s os → standings.operation_profile (slice_get os n) ≡ Some p
    → HasFewFormals s p
operation_at s [] n p h is = cc
operation_at s (o ∷ os) zero p h is = subst (HasFewFormals s) (same_some o.profile p is) h.0
operation_at s (o ∷ os) (suc n) p h is = operation_at s os n p h.1 is

pub few_called : (s : Scope) → ((n : ℕ) (e : Entity) → entity_at s n ≡ Some e → FewIn s e) → FewFormals s
few_called s h (callee.Direct n) p is = by_entity (entity_at s n) (λ e at. h n e at) is
  where
    by_entity : (o : Option Entity) → ((e : Entity) → o ≡ Some e → FewIn s e) → profile_of o ≡ Some p → HasFewFormals s p
    by_entity (Some (Subprogram q)) few k = subst (HasFewFormals s) (same_some q p k) (few (Subprogram q) refl)
    by_entity (Some (Entry q)) few k = subst (HasFewFormals s) (same_some q p k) (few (Entry q) refl)
    by_entity (Some (Predefined o q)) few k = subst (HasFewFormals s) (same_some q p k) (few (Predefined o q) refl)
    by_entity (Some e) few k = cc
    by_entity None few k = cc
few_called s h (callee.Operation object n) p is = by_entity (entity_at s object) (λ e at. h object e at) is
  where
    by_entity : (o : Option Entity) → ((e : Entity) → o ≡ Some e → FewIn s e) → profile_among (protected_of o) n ≡ Some p → HasFewFormals s p
    by_entity (Some (Protected x)) few k = operation_at s x.operations n p (few (Protected x) refl) k
    by_entity (Some e) few k = cc
    by_entity None few k = cc
