-- What a protected object of an accepted text offers: each operation has a number by which it is called, each entry is called by that of its object, and a
-- function among them gives a scalar (RM 9.4, 9.5; docs/LANGUAGE.md, "Rules of subprograms").
use Rattle.std.proofs.Common.{◌≡◌, ℕ, zero, suc, ◌++◌, [], ◌∷◌, List, map, Bool, true, false, ◌&&◌, ◌||◌, cond, Option, Some, None, refl, sym, ap, ◌∙◌, subst, arith}
use Rattle.std.specs.Prelude.{bytes_eq, is_some, nat_lt, slice_get}
use Rattle.std.proofs.lemmas.Bool.{lt-ltb, or_parts, or_right}
use Rattle.base.specs.declared.faults.TheConstants.{WRONG_FUNCTION}
use Rattle.ada_tree.specs.declared.expression.Identifier.{Identifier}
use Rattle.ada_tree.specs.StatementTree.{OperationTree, SubprogramTree}
use Rattle.ada_tree.specs.StatementTree as operation
use Rattle.ada_tree.specs.ProgramTree.{BodyItemTree, ProgramTree}
use Rattle.types.specs.declared.entity.Subtype.{Subtype}
use Rattle.types.specs.Entities.{Doubtful, Operation, Profile, Protected, ProtectedObject}
use Rattle.types.specs.Scopes.{Scope, form_at, protected_at, protected_of}
use Rattle.expr_soundness.specs.expr_rules.proofs.TypedLaw.{back_empty, front_empty, unbroken}
use Rattle.expr_soundness.specs.type_rules.specs.ProfileRules.{formal_parameters, formals_faults, function_faults, has_wrong_formal, profile_faults, result_faults}
use Rattle.expr_soundness.specs.type_rules.specs.SubtypeNames.{is_composite, named_entity, subtype_faults, subtype_of}
use Rattle.program_soundness.specs.declaration_rules.specs.ProtectedRules.{operation_faults, operation_profile, operation_profile_faults, operations_faults}
use Rattle.program_soundness.specs.declaration_rules.specs.ProtectedRules as declared
use Rattle.legality.specs.ProgramRules.{IsLegal}
use Rattle.program_soundness.specs.ravenscar.specs.ProgramRules.{IsRestricted}
use Rattle.expr_soundness.specs.Laws.{ScopesAreSound}
use Rattle.expr_soundness.specs.SoundScopes.{IsKnown, IsSoundEntity, IsSoundResult, SoundScope}
use Rattle.expr_soundness.specs.meaning.specs.Programs.{Program, program_of}
use Rattle.expr_soundness.proofs.Goods.{sound_operation, sound_result}
use Rattle.expr_soundness.proofs.Positions.{found_at, place_is}
use Rattle.program_soundness.specs.BodyLaws.{NamesAreKnown, PremisesHold}
use Rattle.program_soundness.specs.Fronts.{declared_in, front, start_in}
use Rattle.program_soundness.proofs.BodyProfiles.{profile_none, profile_some}
use Rattle.program_soundness.proofs.Callables.{at_map}
use Rattle.program_soundness.proofs.Extending.{Extends}
use Rattle.program_soundness.proofs.Listing.{same_some}
use Rattle.program_soundness.proofs.ObjectBodies as bodies
use Rattle.program_soundness.proofs.ObjectTrees.{IsDeclared, operation_declared, operations_legal}
use Rattle.program_soundness.proofs.Whole.{IsPackage, legal_subtype}
use Rattle.program_soundness.proofs.WiderScopes.{number_stands, same_bytes, stands}
use Rattle.expr_code.specs.Entries.{entry_at}
use Rattle.expr_code.specs.Seeing.{number_behind, object_named, operation_entry}
use Rattle.expr_code.proofs.Externals.{IsBehind}
use Rattle.part_code.specs.EntryNames.{entry_among, entry_behind, is_entry_at, is_entry_operation}
use Rattle.package_code.specs.Bodies.{number_in}
use Rattle.package_code.specs.Laws.{TablesAreSmall}
use Rattle.package_code.specs.Owners.{protected_objects, told_operation}
use Rattle.package_code.specs.Refusing.{operation_numbers}
use Rattle.package_code.proofs.ObjectNumbers.{at_number}
use Rattle.package_code.proofs.OperationBodies.{has_number, object_few}
use Rattle.package_code.proofs.OperationsAdded as added
use Rattle.expr_code.specs.Providing.{is_scalar_form}
use Rattle.source_laws.proofs.FewCallees.{scalar_form}
use Rattle.source_laws.proofs.LaterNames.{same_form}
use Rattle.source_laws.proofs.ObjectCallees.{HasUnitBody, unit_behind}
use Rattle.source_laws.proofs.VisibleWords.{behind_front}
use Rattle.program_soundness.specs.declaration_rules.specs.TaskRules.{operation_aspect_faults}

-- ---- results of functions

-- what is named as the result of a function where these names are visible
pub record HasScalarResult (s : Scope) (r : Identifier) : Type 0 where
  pub subtype : Subtype
  pub here : subtype_of s r ≡ Some subtype
  pub known : IsKnown s subtype
  pub scalar : is_scalar_form (form_at s subtype.type_number) ≡ true

pub result_scalar : ScopesAreSound → (s : Scope) → SoundScope s → (d : SubprogramTree) → profile_faults s d ≡ [] → (r : Identifier) → d.result ≡ Some r
    → HasScalarResult s r
result_scalar scopes s sound d profile r some =
    let given = front_empty (formals_faults s [] d.formals ++ result_faults s d.result) (function_faults s d.name d.formals d.result) profile in
    let function = back_empty (formals_faults s [] d.formals ++ result_faults s d.result) (function_faults s d.name d.formals d.result) profile in
    let rules_ : subtype_faults s r ≡ [] =
    subst (λ o. result_faults s o ≡ []) some (back_empty (formals_faults s [] d.formals) (result_faults s d.result) given) in
    let told = legal_subtype r.place (named_entity s r) rules_ (λ h. let x = number_stands s r.name Doubtful h in sound.each x.0 Doubtful x.2) in
    let simple = (or_parts (is_composite s (subtype_of s r)) (has_wrong_formal s d.formals)
    (unbroken WRONG_FUNCTION d.name.place (is_composite s (subtype_of s r) || has_wrong_formal s d.formals)
    (subst (λ o. function_faults s d.name d.formals o ≡ []) some function))).0 in
    let known = scopes.subtype s r told.0 sound told.1 in
    record {
      subtype = told.0;
      here = told.1;
      known = known;
      scalar = scalar_form (form_at s told.0.type_number) known (sym (ap (is_composite s) told.1) ∙ simple);
    }

-- ---- profiles of declared operations

operation_legal : (s : Scope) (own : Identifier) (before os : List OperationTree) (k : ℕ) (o : OperationTree) → operations_faults s own before os ≡ []
    → slice_get os k ≡ Some o → operation_profile_faults s o ≡ []
operation_legal s own before [] k o h at = cc
operation_legal s own before (x ∷ xs) zero o h at =
    subst (λ y. operation_profile_faults s y ≡ []) (same_some x o at)
    (back_empty _ (operation_profile_faults s x) (front_empty (operation_faults s own before x) (operations_faults s own (before ++ x ∷ []) xs) h))
operation_legal s own before (x ∷ xs) (suc k) o h at =
    operation_legal s own (before ++ x ∷ []) xs k o (back_empty (operation_faults s own before x) (operations_faults s own (before ++ x ∷ []) xs) h) at

-- one that gives a result is a function, which gives a scalar
record IsScalarFunction (s : Scope) (o : OperationTree) (u : Subtype) : Type 0 where
  no_entry : declared.is_entry o ≡ false
  known : IsKnown s u
  scalar : is_scalar_form (form_at s u.type_number) ≡ true

operation_scalar : ScopesAreSound → (s : Scope) → SoundScope s → (o : OperationTree) → operation_profile_faults s o ≡ [] → (p : Profile)
    → operation_profile s o ≡ Some p → (u : Subtype) → p.result ≡ Some u → IsScalarFunction s o u
operation_scalar scopes s sound (operation.OfEntry d) h p is u gives =
    absurd (let none = profile_none s (formal_parameters s d.formals) p is in let bad = sym none ∙ gives in cc)
operation_scalar scopes s sound (operation.OfSubprogram d a) h p is u gives = by_result d.result refl is
  where
    by_result : (r : Option Identifier) → d.result ≡ r → operation_profile s (operation.OfSubprogram (record d { result = r }) a) ≡ Some p
        → IsScalarFunction s (operation.OfSubprogram d a) u
    by_result None none own =
        absurd (let nothing = profile_none s (formal_parameters s d.formals) p own in let bad = sym nothing ∙ gives in cc)
    by_result (Some r) some own =
        let y = result_scalar scopes s sound d (front_empty (profile_faults s d) (operation_aspect_faults s a) h) r some in
        let z = profile_some s (formal_parameters s d.formals) r p own in
        let same : y.subtype ≡ u = same_some y.subtype u (sym y.here ∙ z.1 ∙ sym z.2 ∙ gives) in
        record {
          no_entry = refl;
          known = subst (IsKnown s) same y.known;
          scalar = subst (λ (v : Subtype). is_scalar_form (form_at s v.type_number) ≡ true) same y.scalar;
        }

-- the type of the result of what is named behind an object is known where the object is visible
pub result_known : (s : Scope) → SoundScope s → (object name : List ℕ) (p : Profile) (x : IsBehind s object name p) (u : Subtype) → p.result ≡ Some u
    → IsKnown s u
result_known s sound object name p x u gives =
    let all : IsSoundEntity s x.number (Protected x.protected) = sound.each x.number (Protected x.protected) x.stands in
    let one = sound_result s sound x.entry.is_entry x.entry.profile (sound_operation s sound x.protected.operations x.place x.entry all.0 x.found) in
    let its : IsSoundResult s x.entry.profile.formals (Some u) =
    subst (IsSoundResult s x.entry.profile.formals) (ap (λ (q : Profile). q.result) x.profiled ∙ gives) one.result in
    its.0

-- ---- an accepted text

module _ (scopes : ScopesAreSound) (known : NamesAreKnown) (premises : PremisesHold) (tables : TablesAreSmall) (t : ProgramTree) (legal : IsLegal t)
    (restricted : IsRestricted t) where
  abbrev program : Program
  program = program_of t

  abbrev start : Scope
  start = start_in t.package_

  abbrev all : List BodyItemTree
  all = declared_in t.package_

  abbrev whole : Scope
  whole = program.scope

  abbrev w : IsPackage program start all
  w = added.w scopes known premises t legal restricted

  pub extends_whole : (place : ℕ) → Extends (front t place) whole
  extends_whole place = let more = behind_front t place in (more.0, sym w.scope ∙ more.1)

  -- what stands behind a protected object of the package
  module _ (s : Scope) (object name : List ℕ) (p : Profile) (x : IsBehind s object name p) (h : stands whole object ≡ Some (Protected x.protected)) where
    abbrev o : ProtectedObject
    o = x.protected

    abbrev is_it : Operation → Bool
    is_it y = bytes_eq y.name name

    own_named : x.entry.name ≡ name
    own_named =
        let f = found_at is_it o.operations x.place (sym (place_is is_it o.operations) ∙ x.placed) in
        same_bytes x.entry.name name (ap is_it (same_some x.entry f.0 (sym x.found ∙ f.1)) ∙ f.2)

    named_object : object_named s object ≡ Some o
    named_object = ap (λ m. elim m [ None ↦ None | Some n ↦ protected_at s n ]) x.numbered ∙ ap protected_of x.stands

    b : HasUnitBody scopes known premises t legal restricted o name p
    b = unit_behind scopes known premises t legal restricted s object name p x h

    -- its body has a number
    numbered : is_some (number_in t (Some o.number) name) ≡ true
    numbered =
        let own : ProtectedObject = added.obj scopes known premises t legal restricted b.place b.name b.items b.end_name b.at in
        ap (λ (z : ProtectedObject). is_some (number_in t (Some z.number) name)) (sym b.is)
        ∙ ap (λ l. is_some (number_in t (Some own.number) l)) (sym b.named)
        ∙ ap is_some (has_number scopes known premises t legal restricted b.place b.name b.items b.end_name b.at b.index b.item b.there)

    abbrev tell : List ℕ → Option ℕ
    tell = number_in t (Some o.number)

    -- ... which is told of it, where it is no entry
    told : x.entry.is_entry ≡ false → is_some (number_behind (operation_numbers t) (Some o) name) ≡ true
    told no_entry =
        let numbers : slice_get (operation_numbers t) o.number ≡ Some (map (told_operation tell) o.operations) =
        at_map (λ (z : ProtectedObject). map (told_operation (number_in t (Some z.number))) z.operations) (protected_objects whole) o.number o
        (at_number program start all w object o h) in
        let there : slice_get (map (told_operation tell) o.operations) x.place ≡ Some (told_operation tell x.entry) =
        at_map (told_operation tell) o.operations x.place x.entry x.found in
        ap (λ k. is_some (elim k [ None ↦ None | Some n ↦ operation_entry (operation_numbers t) o.number n ])) x.placed
        ∙ ap (λ l. is_some (elim l [ None ↦ None | Some all ↦ entry_at all x.place ])) numbers
        ∙ ap (λ l. is_some (elim l [ None ↦ None | Some y ↦ y ])) there
        ∙ ap (λ c. is_some (cond c None (tell x.entry.name))) no_entry
        ∙ ap (λ l. is_some (tell l)) own_named
        ∙ numbered

    -- the number of an object is one that an instruction can name
    few : nat_lt o.number 65536 ≡ true
    few =
        let less = object_few scopes known premises t legal restricted b.place b.name b.items b.end_name b.at in
        let is = added.number_is scopes known premises t legal restricted b.place b.name b.items b.end_name b.at in
        let same = ap (λ (z : ProtectedObject). z.number) b.is in
        let limit = (tables t legal restricted).objects in
        lt-ltb o.number 65536 (omega (arith, less, is, same, limit))

    entry_named : x.entry.is_entry ≡ true → is_some (entry_among (Some o) name) ≡ true
    entry_named entry =
        ap (λ k. is_some (cond (is_entry_at o k && nat_lt o.number 65536) (Some o.number) None)) x.placed
        ∙ ap (λ y. is_some (cond (is_entry_operation y && nat_lt o.number 65536) (Some o.number) None)) x.found
        ∙ ap (λ c. is_some (cond (c && nat_lt o.number 65536) (Some o.number) None)) entry
        ∙ ap (λ c. is_some (cond c (Some o.number) None)) few

    -- so it can be called
    pub offered_behind : (is_some (entry_behind s object name) || is_some (number_behind (operation_numbers t) (object_named s object) name)) ≡ true
    offered_behind =
        ap (λ q. is_some (entry_among q name) || is_some (number_behind (operation_numbers t) q name)) named_object ∙ by_kind x.entry.is_entry refl
      where
        by_kind : (c : Bool) → x.entry.is_entry ≡ c
            → (is_some (entry_among (Some o) name) || is_some (number_behind (operation_numbers t) (Some o) name)) ≡ true
        by_kind true is = ap (λ c. c || is_some (number_behind (operation_numbers t) (Some o) name)) (entry_named is)
        by_kind false is =
            or_right (is_some (entry_among (Some o) name)) (is_some (number_behind (operation_numbers t) (Some o) name)) (told is)

    -- ... and where it gives a result, it is a function with a number, which gives a scalar
    pub gives_behind : (u : Subtype) → p.result ≡ Some u
        → (is_some (number_behind (operation_numbers t) (object_named s object) name) ≡ true) × (is_scalar_form (form_at whole u.type_number) ≡ true)
    gives_behind u gives =
        let y = bodies.object_at program start all w object o h in
        let here : Scope = front t y.place in
        let d : IsDeclared here y.tree.operations x.place x.entry =
        operation_declared here y.tree.operations o.operations x.place x.entry (bodies.operations_of program start all w object o y) x.found in
        let rules_ = operations_legal here y.tree (bodies.object_legal program start all w object o y) in
        let f = operation_scalar scopes here ((known t legal restricted).fronts y.place) d.tree
        (operation_legal here y.tree.name [] y.tree.operations x.place d.tree rules_ d.at) x.entry.profile d.profile u
        (ap (λ (q : Profile). q.result) x.profiled ∙ gives) in (
          ap (λ q. is_some (number_behind (operation_numbers t) q name)) named_object ∙ told (d.kind ∙ f.no_entry),
          ap is_scalar_form (same_form here whole (extends_whole y.place) u.type_number f.known) ∙ f.scalar,
        )
