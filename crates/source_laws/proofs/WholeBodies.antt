-- What holds of each body with code of an accepted text, a subprogram's, a task's, or one of a protected object: it breaks no rule and no restriction.
use Rattle.std.proofs.Common.{◌≡◌, ◌++◌, ℕ, zero, suc, ◌≤◌, inl, inr, true, false, ◌||◌, ◌&&◌, not, List, [], ◌∷◌, length, take, Option, Some, None, refl, sym, ap, ◌∙◌, subst, arith}
use Rattle.std.specs.Prelude.{◌≢◌, is_some, slice_get}
use Rattle.base.specs.declared.faults.TheConstants.{WRONG_FUNCTION}
use Rattle.base.specs.declared.limits.TheConstants.{FORMALS}
use Rattle.ada_tree.specs.declared.declaration.Formal.{Formal}
use Rattle.ada_tree.specs.declared.expression.Identifier.{Identifier}
use Rattle.ada_tree.specs.ExpressionTree.{ExprTree}
use Rattle.ada_tree.specs.StatementTree.{EntryTree, SubprogramTree}
use Rattle.ada_tree.specs.ProgramTree.{BodyItemTree, BodyTree, EntryBody, OperationBody, ProgramTree, ProtectedBody, ProtectedItemTree, SubprogramBody, TaskBody}
use Rattle.types.specs.declared.entity.RecordComponent.{RecordComponent}
use Rattle.types.specs.declared.entity.Subtype.{Subtype}
use Rattle.types.specs.Entities.{Doubtful}
use Rattle.types.specs.Scopes.{Scope, form_at}
use Rattle.expr_soundness.specs.expr_rules.specs.declared.own.Wanted.TheVariants.{OfType}
use Rattle.expr_soundness.specs.expr_rules.specs.ExpressionRules.{faults_of}
use Rattle.expr_soundness.specs.expr_rules.proofs.TypedLaw.{back_empty, front_empty, judged, unbroken}
use Rattle.expr_soundness.specs.type_rules.specs.ProfileRules.{formals_faults, function_faults, has_wrong_formal, profile_entity, profile_faults, profile_with, formal_parameters, result_faults}
use Rattle.expr_soundness.specs.type_rules.specs.SubtypeNames.{end_rule, is_composite, named_entity, subtype_faults, subtype_of}
use Rattle.program_soundness.specs.declaration_rules.specs.BodyNames.{components_scope, formals_scope}
use Rattle.program_soundness.specs.unit_rules.specs.BodyRules.{body_faults, function_body_faults, head_faults, is_function_body, kind_of}
use Rattle.program_soundness.specs.unit_rules.specs.ProtectedBodyRules.{entry_rule, protected_item_faults, protected_items_scope}
use Rattle.program_soundness.specs.stmt_rules.specs.SimpleRules.{condition_faults}
use Rattle.program_soundness.specs.stmt_rules.specs.declared.around.BodyKind.{BodyKind}
use Rattle.program_soundness.specs.stmt_rules.specs.declared.around.BodyKind.TheVariants as kinds
use Rattle.program_soundness.specs.step_soundness.specs.body_restrictions.specs.BodyRules as restrictions
use Rattle.legality.specs.ProgramRules.{IsLegal}
use Rattle.program_soundness.specs.ravenscar.specs.ProgramRules.{IsRestricted, components_named}
use Rattle.expr_soundness.specs.meaning.specs.Programs.{program_of, returned, subtype_named}
use Rattle.expr_soundness.specs.SoundScopes.{SoundScope}
use Rattle.expr_soundness.proofs.Growing.{grown, test_kept}
use Rattle.program_soundness.specs.Fronts.{declared_in, front, start_in}
use Rattle.program_soundness.proofs.BodyProfiles.{named_is, subtype_kept}
use Rattle.program_soundness.proofs.Listing.{Has}
use Rattle.program_soundness.proofs.ObjectBodies as bodies
use Rattle.program_soundness.proofs.ObjectItems.{either_false}
use Rattle.program_soundness.proofs.OneList.{restricted_at}
use Rattle.program_soundness.proofs.Trees.{tree_package}
use Rattle.program_soundness.proofs.Walked.{legal_at, scope_next}
use Rattle.program_soundness.proofs.Whole.{IsPackage, kept, legal_subtype, value_returned}
use Rattle.program_soundness.proofs.WiderScopes.{number_stands, stands}
use Rattle.package_code.specs.Bodies.{Coded, coded_at, object_number, of_operation, of_subprogram, of_task, IsBodyOf}
use Rattle.package_code.proofs.Adding.{IsSoundBody}
use Rattle.package_code.proofs.Adding as adding
use Rattle.package_code.proofs.Adding.{task_legal}
use Rattle.package_code.proofs.BodyFronts.{IsBehindName, IsBodyFront, formal_told, package_front}
use Rattle.package_code.proofs.Coded.{coded_by}
use Rattle.package_code.proofs.InFront.{LawsOfNames}
use Rattle.package_code.proofs.ObjectFronts.{operation_is_front}
use Rattle.package_code.proofs.OperationsAdded as added
use Rattle.package_code.proofs.OperationsAdded.{bodies_sound}
use Rattle.stmt_code.specs.Subprograms.{NameSubtypes}
use Rattle.expr_code.specs.Providing.{is_scalar_form}
use Rattle.source_laws.proofs.AddedNames.{with_behind}
use Rattle.source_laws.proofs.FewCallees.{few_formals, scalar_form}

pub record IsLegalBody (t : ProgramTree) (c : Coded) : Type 0 where
  pub added : IsSoundBody t c.front c.head c.body
  pub named : NameSubtypes c.front c.head.formals
  pub few : length c.head.formals ≤ FORMALS
  pub kind : BodyKind
  pub legal : body_faults (formals_scope c.front c.head.formals) kind c.body ≡ []
  pub gives_nothing : c.head.result ≡ None → (u : Option ℕ) → kind ≢ kinds.Function u
  pub restricted : restrictions.body_faults c.body ≡ []
  -- a function returns one value, of one word
  pub returns : (r : Identifier) → c.head.result ≡ Some r → (e : ExprTree) × (returned c.body.statements ≡ Some e)
  pub value : (r : Identifier) (e : ExprTree) → c.head.result ≡ Some r → returned c.body.statements ≡ Some e
      → faults_of (formals_scope c.front c.head.formals) (OfType (subtype_named (program_of t).scope r).type_number) e ≡ []
  pub scalar : (r : Identifier) → c.head.result ≡ Some r
      → is_scalar_form (form_at c.front (subtype_named (program_of t).scope r).type_number) ≡ true

-- ---- formals

-- each names a subtype
all_named : (s : Scope) (fs : List Formal) → ((x : Formal) → Has fs x → (u : Subtype) × (subtype_of s x.subtype ≡ Some u)) → NameSubtypes s fs
all_named s [] told = tt
all_named s (f ∷ fs) told = (ap is_some (told f (inl refl)).1, all_named s fs (λ x has. told x (inr has)))

no_function : (s : Scope) (o : Option Identifier) → o ≡ None → (u : Option ℕ) → kind_of s o ≡ kinds.Function u → ⊥
no_function s None is u h = cc
no_function s (Some r) is u h = cc

module _ (laws : LawsOfNames) (t : ProgramTree) (legal : IsLegal t) (restricted : IsRestricted t) where
  abbrev whole : Scope
  whole = (program_of t).scope

  abbrev all : List BodyItemTree
  all = declared_in t.package_

  abbrev start : Scope
  start = start_in t.package_

  abbrev w : IsPackage (program_of t) start all
  w = tree_package t legal restricted (laws.premises t legal).sound

  -- ---- a body behind its name

  module _ (c : Coded) (before : Scope) (own : IsBehindName before c.front c.head c.body) (sound : SoundScope before)
      (same : (name : Identifier) (u : Subtype) → subtype_of before name ≡ Some u → subtype_of whole name ≡ Some u) where
    head : head_faults before c.head c.body ≡ []
    head = front_empty (head_faults before c.head c.body) _ (front_empty _ (end_rule c.head.name c.body.end_name) own.1)

    profile : profile_faults before c.head ≡ []
    profile = front_empty (profile_faults before c.head) _ (front_empty _ _ (front_empty _ _ head))

    doubt : (name : List ℕ) → stands before name ≡ Some Doubtful → ⊥
    doubt name h = let x = number_stands before name Doubtful h in sound.each x.0 Doubtful x.2

    told : (r : Identifier) → c.head.result ≡ Some r → (u : Subtype) × (subtype_of before r ≡ Some u) × (subtype_of whole r ≡ Some u)
    told r some =
        let rules_ : subtype_faults before r ≡ [] =
        subst (λ o. result_faults before o ≡ []) some
        (back_empty (formals_faults before [] c.head.formals) (result_faults before c.head.result) (front_empty _ _ profile)) in
        let u = legal_subtype r.place (named_entity before r) rules_ (doubt r.name) in
        (u.0, u.1, same r u.0 u.1)

    body_legal : body_faults (formals_scope c.front c.head.formals) (kind_of before c.head.result) c.body ≡ []
    body_legal =
        subst (λ s. body_faults (formals_scope s c.head.formals) (kind_of before c.head.result) c.body ≡ []) own.0
        (back_empty (head_faults before c.head c.body) _ (front_empty _ (end_rule c.head.name c.body.end_name) own.1))

    value_returns : (r : Identifier) → c.head.result ≡ Some r → (e : ExprTree) × (returned c.body.statements ≡ Some e)
    value_returns r some =
        value_returned c.body
        (judged (is_some c.head.result) (is_function_body c.body)
        (unbroken WRONG_FUNCTION c.head.name.place (is_some c.head.result && not (is_function_body c.body))
        (back_empty _ (function_body_faults c.head c.body) head))
        (ap is_some some))

    -- the subtype of the result is scalar in front of the name, and so behind it
    scalar_result : (r : Identifier) → c.head.result ≡ Some r → is_scalar_form (form_at c.front (subtype_named whole r).type_number) ≡ true
    scalar_result r some =
        let u = told r some in
        let rules_ : function_faults before c.head.name c.head.formals (Some r) ≡ [] =
        subst (λ o. function_faults before c.head.name c.head.formals o ≡ []) some
        (back_empty _ (function_faults before c.head.name c.head.formals c.head.result) profile) in
        let simple = (either_false (is_composite before (subtype_of before r)) (has_wrong_formal before c.head.formals)
        (unbroken WRONG_FUNCTION c.head.name.place (is_composite before (subtype_of before r) || has_wrong_formal before c.head.formals) rules_)).0 in
        let known = laws.scopes.subtype before r u.0 sound u.1 in
        let here = scalar_form (form_at before u.0.type_number) known (sym (ap (is_composite before) u.1) ∙ simple) in
        let more = with_behind before c.head.name.name
        (profile_entity (profile_with before (formal_parameters before c.head.formals) c.head.result)) in
        subst (λ v. is_scalar_form (form_at c.front v.type_number) ≡ true) (sym (named_is whole r u.0 u.2))
        (subst (λ s. is_scalar_form (form_at s u.0.type_number) ≡ true) (sym more.1 ∙ own.0)
        (test_kept before (before ++ more.0) (grown before more.0) is_scalar_form refl u.0.type_number here))

    behind_name : IsBodyFront t c.owner c.front c.head c.body → IsSoundBody t c.front c.head c.body → restrictions.body_faults c.body ≡ [] → IsLegalBody t c
    behind_name f may own_restricted =
        record {
          added = may;
          named = all_named c.front c.head.formals (λ x has. (_, formal_told laws.scopes t c.owner c.front c.head c.body f x has));
          few =
              let many = few_formals before [] c.head.formals (omega arith) (front_empty _ _ (front_empty _ _ profile)) in
              omega (arith, many);
          kind = kind_of before c.head.result;
          legal = body_legal;
          gives_nothing = no_function before c.head.result;
          restricted = own_restricted;
          returns = value_returns;
          value = λ r e some is. adding.result_legal whole before c.front c.head c.body head body_legal told r e some is;
          scalar = scalar_result;
        }

  -- ---- one that returns nothing, and has no name of its own behind its front

  nameless : (c : Coded) → IsSoundBody t c.front c.head c.body → NameSubtypes c.front c.head.formals → length c.head.formals ≤ FORMALS → c.head.result ≡ None
      → (kind : BodyKind) → ((u : Option ℕ) → kind ≢ kinds.Function u) → body_faults (formals_scope c.front c.head.formals) kind c.body ≡ []
      → restrictions.body_faults c.body ≡ [] → IsLegalBody t c
  nameless c may named few none kind nothing own_legal own_restricted =
      record {
        added = may;
        named = named;
        few = few;
        kind = kind;
        legal = own_legal;
        gives_nothing = λ is. nothing;
        restricted = own_restricted;
        returns = λ r some. absurd (let never = sym none ∙ some in cc);
        value = λ r e some is. absurd (let never = sym none ∙ some in cc);
        scalar = λ r some. absurd (let never = sym none ∙ some in cc);
      }

  -- ---- bodies of subprograms and tasks

  may_be_added : (place : ℕ) (x : BodyItemTree) (k : ℕ) (c : Coded) → slice_get all place ≡ Some x → slice_get (coded_at t place x) k ≡ Some c
      → IsSoundBody t c.front c.head c.body
  may_be_added place x k c at is = bodies_sound laws.scopes laws.names laws.premises t legal restricted place x k c at is

  subprogram_legal : (place : ℕ) (d : SubprogramTree) (b : BodyTree) → slice_get all place ≡ Some (SubprogramBody d b)
      → IsLegalBody t (of_subprogram (front t (suc place)) d b)
  subprogram_legal place d b at =
      let c = of_subprogram (front t (suc place)) d b in
      behind_name c (front t place)
      (sym (scope_next start all place (SubprogramBody d b) at), legal_at start all place (SubprogramBody d b) at w.list.legal)
      ((laws.names t legal restricted).fronts place)
      (λ name u h. subtype_kept (front t place) whole (kept (program_of t) start all w place) name u h)
      (package_front laws.names laws.premises laws.fronts t legal restricted place d b at)
      (may_be_added place (SubprogramBody d b) 0 c at refl) (restricted_at start all w.list place (SubprogramBody d b) at)

  task_is_legal : (place : ℕ) (name : Identifier) (b : BodyTree) → slice_get all place ≡ Some (TaskBody name b)
      → IsLegalBody t (of_task (front t (suc place)) name b)
  task_is_legal place name b at =
      nameless (of_task (front t (suc place)) name b)
      (may_be_added place (TaskBody name b) 0 (of_task (front t (suc place)) name b) at refl) tt (omega arith) refl kinds.Task
      (λ u is. (let never : kinds.Task ≡ kinds.Function u = is in cc))
      (task_legal laws.scopes laws.names laws.premises t legal restricted place name b at)
      (restricted_at start all w.list place (TaskBody name b) at)

  -- ---- bodies of operations and entries

  pub restricted_items : (cs : List RecordComponent) (items : List ProtectedItemTree) (k : ℕ) (i : ProtectedItemTree)
      → restrictions.operations_faults cs items ≡ [] → slice_get items k ≡ Some i → restrictions.operation_faults cs i ≡ []
  restricted_items cs [] k i h at = cc
  restricted_items cs (x ∷ rest) zero i h at =
      subst (λ y. restrictions.operation_faults cs y ≡ []) (ap (λ o. elim o [ Some z ↦ z | None ↦ x ]) at)
      (front_empty (restrictions.operation_faults cs x) (restrictions.operations_faults cs rest) h)
  restricted_items cs (x ∷ rest) (suc k) i h at =
      restricted_items cs rest k i (back_empty (restrictions.operation_faults cs x) (restrictions.operations_faults cs rest) h) at

  module _ (place : ℕ) (name : Identifier) (items : List ProtectedItemTree) (end_name : Identifier)
      (at : slice_get all place ≡ Some (ProtectedBody name items end_name)) (k : ℕ) where
    abbrev components : List RecordComponent
    components = (bodies.there (program_of t) start all w place name items end_name at).object.components

    abbrev earlier : Scope
    earlier = protected_items_scope (added.begun laws.scopes laws.names laws.premises t legal restricted place name items end_name at) (take k items)

    abbrev coded : ProtectedItemTree → Coded
    coded i = of_operation (object_number whole name) earlier components i

    own_restricted : (i : ProtectedItemTree) → slice_get items k ≡ Some i → restrictions.operation_faults (components_named (front t place) name) i ≡ []
    own_restricted i there =
        restricted_items (components_named (front t place) name) items k i
        (restricted_at start all w.list place (ProtectedBody name items end_name) at) there

    rules_ : (i : ProtectedItemTree) → slice_get items k ≡ Some i → protected_item_faults earlier components i ≡ []
    rules_ i there =
        subst (λ z. protected_item_faults z components i ≡ [])
        (sym (added.same_scope laws.scopes laws.names laws.premises t legal restricted place name items end_name at k))
        (bodies.item_legal (program_of t) start all w place name items end_name at k i there)

    entry_legal : (e : EntryTree) (barrier : ExprTree) (b : BodyTree) → slice_get items k ≡ Some (EntryBody e barrier b)
        → (IsSoundBody t (coded (EntryBody e barrier b)).front (coded (EntryBody e barrier b)).head b)
        → IsLegalBody t (coded (EntryBody e barrier b))
    entry_legal e barrier b there may =
        let s : Scope = components_scope earlier false components in
        let unit_ = EntryBody e barrier b in
        let front_rules = front_empty _ (end_rule e.name b.end_name) (rules_ unit_ there) in
        let formals = back_empty (entry_rule s e.name) (formals_faults s [] e.formals)
        (front_empty _ (condition_faults (formals_scope s e.formals) barrier)
        (front_empty _ (body_faults (formals_scope s e.formals) kinds.Entry b) front_rules)) in
        let f = operation_is_front laws t legal restricted place name items end_name at k unit_ there in
        let many = few_formals s [] e.formals (omega arith) formals in
        nameless (coded unit_) may (all_named s e.formals (λ x has. (_, formal_told laws.scopes t _ s (coded unit_).head b f x has))) (omega (arith, many))
        refl kinds.Entry (λ u is. (let never : kinds.Entry ≡ kinds.Function u = is in cc))
        (back_empty _ (body_faults (formals_scope s e.formals) kinds.Entry b) front_rules)
        (back_empty _ (restrictions.body_faults b) (own_restricted unit_ there))

    operation_legal : (d : SubprogramTree) (b : BodyTree) → slice_get items k ≡ Some (OperationBody d b)
        → (IsSoundBody t (coded (OperationBody d b)).front d b)
        → IsLegalBody t (coded (OperationBody d b))
    operation_legal d b there may =
        let unit_ = OperationBody d b in
        let is_function = is_some d.result in
        behind_name (coded unit_) (components_scope earlier is_function components) (refl, rules_ unit_ there)
        ((added.known_object laws.scopes laws.names laws.premises t legal restricted place name items end_name at).seen k unit_ there is_function)
        (λ x z h. bodies.types_seen (program_of t) start all w place name items end_name at k is_function x z
        (subst (λ y. subtype_of (components_scope y is_function components) x ≡ Some z)
        (added.same_scope laws.scopes laws.names laws.premises t legal restricted place name items end_name at k) h))
        (subst (λ n. IsBodyFront t (Some n) (coded unit_).front d b)
        (sym (added.number_is laws.scopes laws.names laws.premises t legal restricted place name items end_name at))
        (operation_is_front laws t legal restricted place name items end_name at k unit_ there)) may (own_restricted unit_ there)

  pub legal_body : (c : Coded) → IsBodyOf t c → IsLegalBody t c
  legal_body c x =
      coded_by t x.place (λ y k e. slice_get all x.place ≡ Some y → IsLegalBody t e) (λ d b at. subprogram_legal x.place d b at)
      (λ name b at. task_is_legal x.place name b at)
      (λ name items end_name k e here at. by_object name items end_name at k e here) x.item x.index c x.coded x.at
    where
      by_object : (name : Identifier) (items : List ProtectedItemTree) (end_name : Identifier)
          → (at : slice_get all x.place ≡ Some (ProtectedBody name items end_name)) → (k : ℕ) (e : Coded)
          → slice_get (coded_at t x.place (ProtectedBody name items end_name)) k ≡ Some e → IsLegalBody t e
      by_object name items end_name at k e here =
          let y = added.inside_coded laws.scopes laws.names laws.premises t legal restricted x.place name items end_name at k e here in
          let may = may_be_added x.place (ProtectedBody name items end_name) k e at here in
          subst (IsLegalBody t) (sym y.2) (by_item y.0 y.1 (subst (λ z. IsSoundBody t z.front z.head z.body) y.2 may))
        where
          by_item : (i : ProtectedItemTree) → slice_get items k ≡ Some i
              → IsSoundBody t (coded x.place name items end_name at k i).front (coded x.place name items end_name at k i).head
              (coded x.place name items end_name at k i).body
              → IsLegalBody t (coded x.place name items end_name at k i)
          by_item (OperationBody d b) there may = operation_legal x.place name items end_name at k d b there may
          by_item (EntryBody d barrier b) there may = entry_legal x.place name items end_name at k d barrier b there may
