-- The functions of an accepted tree: those of the package, and those of its protected objects.
use Rattle.std.proofs.Common.{◌≡◌, ℕ, suc, List, [], ◌⊎◌, inl, inr, true, Option, Some, None, refl, sym, ap, ◌∙◌, subst}
use Rattle.std.specs.Prelude.{slice_get}
use Rattle.expr_soundness.specs.ada_tree.specs.declared.expression.Identifier.{Identifier}
use Rattle.expr_soundness.specs.ada_tree.specs.StatementTree.{SubprogramTree}
use Rattle.expr_soundness.specs.ada_tree.specs.ProgramTree.{BodyTree, BodyItemTree, SubprogramBody, ProgramTree, ProtectedBody, ProtectedItemTree, OperationBody, EntryBody}
use Rattle.types.specs.Entities.{Doubtful}
use Rattle.types.specs.Scopes.{Scope, form_at}
use Rattle.types.specs.Places.{Function, Place, function_of}
use Rattle.types.specs.Statics.{static_place}
use Rattle.types.specs.Evaluating.{entered}
use Rattle.expr_soundness.specs.type_rules.specs.ProfileRules.{subprogram_scope}
use Rattle.legality.specs.ProgramRules.{IsLegal}
use Rattle.ravenscar.specs.ProgramRules.{IsRestricted}
use Rattle.expr_soundness.specs.Agreeing.{Agrees}
use Rattle.expr_soundness.specs.Answers.{FunctionsAreSound, ReturnsSoundly, are_actuals}
use Rattle.expr_soundness.specs.CompositesLaw.{is_simple}
use Rattle.expr_soundness.specs.Laws.{ScopesAreSound}
use Rattle.expr_soundness.specs.meaning.specs.Programs.{Program, program_of}
use Rattle.expr_soundness.specs.meaning.specs.Works.{Store}
use Rattle.step_soundness.specs.Holding.{inside, seen}
use Rattle.step_soundness.specs.Laws.{Premises}
use Rattle.program_soundness.specs.Fronts.{declared_in, scope_at, start_in}
use Rattle.program_soundness.specs.BodyLaws.{IsSoundMemory, BodyNamesAreSound, NamesAreKnown, PremisesHold}
use Rattle.program_soundness.proofs.WiderScopes.{stands}
use Rattle.program_soundness.proofs.BodyProfiles.{subtype_kept}
use Rattle.program_soundness.proofs.Walked.{scope_next}
use Rattle.program_soundness.proofs.Callables.{Bodied, InObject, InPackage, bodies_among, body_place, found_function, functions_are, operation_body, subprogram_body}
use Rattle.program_soundness.proofs.Whole.{IsPackage, kept, no_doubt}
use Rattle.program_soundness.proofs.Called.{body_legal}
use Rattle.program_soundness.proofs.ObjectBodies as bodies
use Rattle.program_soundness.proofs.PackageBodies.{front_fits}
use Rattle.program_soundness.proofs.Assembled as assembled
use Rattle.program_soundness.specs.FunctionLaws.{ProgramFunctionsAreSound}
use Rattle.program_soundness.proofs.Entering.{IsSoundFunction, function_sound}
use Rattle.program_soundness.proofs.OfObjects.{operation_simple, operation_sound}
use Rattle.program_soundness.proofs.SimpleResults.{IsSimpleResult, result_simple}

-- an entry gives no result
no_result : (r : Identifier) → ◌≡◌ {A = Option Identifier} None (Some r) → ⊥
no_result r h = cc

module _ (scopes : ScopesAreSound) (t : ProgramTree) (m : Store) (legal : IsLegal t) (restricted : IsRestricted t) (names : BodyNamesAreSound t)
    (laws : Premises (program_of t)) (memory : IsSoundMemory (program_of t) m) where
  abbrev program : Program
  program = program_of t

  abbrev all : List BodyItemTree
  all = declared_in t.package_

  abbrev s : Scope
  s = start_in t.package_

  abbrev w : IsPackage program s all
  w = assembled.w scopes t m legal restricted names laws memory

  package_function : (k : ℕ) (d : SubprogramTree) (b : BodyTree) → slice_get all k ≡ Some (SubprogramBody d b)
      → IsSoundFunction program m (subprogram_body None d b)
  package_function k d b at =
      function_sound program laws scopes m None (scope_at s all k) doubt
      (λ name u h. subtype_kept (scope_at s all k) program.scope (kept program s all w k) name u h) d b
      (body_legal program s all w k d b at) agrees
    where
      doubt : (name : List ℕ) → stands (scope_at s all k) name ≡ Some Doubtful → ⊥
      doubt name h = no_doubt program s all w name (kept program s all w k name Doubtful h)

      agrees : (p : Place) → Agrees (subprogram_scope (scope_at s all k) d) (inside program m (record { within = None; locals = [] }) p)
      agrees p =
          subst (λ u. Agrees u (inside program m (record { within = None; locals = [] }) p)) (scope_next s all k (SubprogramBody d b) at)
          (front_fits program s all w laws scopes m memory (assembled.offers scopes t m legal restricted names laws memory) names.fronts (suc k) p).agrees

  object_function : (k : ℕ) (nm : Identifier) (items : List ProtectedItemTree) (end_name : Identifier)
      (at : slice_get all k ≡ Some (ProtectedBody nm items end_name))
      (j : ℕ) (i : ProtectedItemTree) → slice_get items j ≡ Some i
      → IsSoundFunction program m (operation_body (Some (bodies.there program s all w k nm items end_name at).object.number) i)
  object_function k nm items end_name at j (OperationBody e b) h =
      operation_sound program s all w laws scopes m memory (assembled.offers scopes t m legal restricted names laws memory) names.fronts k nm items end_name at
      (assembled.own scopes t m legal restricted names laws memory k nm items end_name at)
      (assembled.sounds scopes t m legal restricted names laws memory k nm items end_name at)
      (assembled.inners scopes t m legal restricted names laws memory k nm items end_name at) j e b h
  object_function k nm items end_name at j (EntryBody e barrier b) h = λ r some. absurd (no_result r some)

  unit_function : (u : Bodied) → InPackage all u ⊎ InObject program.scope all u → IsSoundFunction program m u
  unit_function u (inl x) = subst (IsSoundFunction program m) (sym x.is) (package_function x.place x.subprogram x.body x.at)
  unit_function u (inr x) =
      let number = (bodies.there program s all w x.place x.name x.items x.end_name x.at).numbered in
      let is = x.is ∙ ap (λ o. operation_body o x.item) number in
      subst (IsSoundFunction program m) (sym is) (object_function x.place x.name x.items x.end_name x.at x.index x.item x.there)

  all_functions : (p : Place) → FunctionsAreSound (seen program m p)
  all_functions p owner name f vs left h are =
      let x = found_function program.scope (bodies_among program.scope all) owner name f
      (ap (λ l. function_of l owner name) (sym (w.functions ∙ functions_are program.scope all)) ∙ h) in
      let sound = unit_function x.unit_ (body_place program.scope all x.unit_ x.has) x.result x.some x.value x.returns p vs left in
      subst (λ y. ReturnsSoundly (entered (seen program m p) y vs left) y) (sym x.is) (sound (ap (λ y. are_actuals program.scope y.formals vs) (sym x.is) ∙ are))

  -- ---- what they return is no composite value

  abbrev IsSimpleUnit : Bodied → Type 0
  IsSimpleUnit u = (r : Identifier) → u.result ≡ Some r → IsSimpleResult program r

  package_simple : (k : ℕ) (d : SubprogramTree) (b : BodyTree) → slice_get all k ≡ Some (SubprogramBody d b) → IsSimpleUnit (subprogram_body None d b)
  package_simple k d b at =
      result_simple program scopes (scope_at s all k) doubt (λ name u h. subtype_kept (scope_at s all k) program.scope (kept program s all w k) name u h) d b
      (body_legal program s all w k d b at) (inside program m (record { within = None; locals = [] }) (static_place program.scope)) refl agrees
    where
      doubt : (name : List ℕ) → stands (scope_at s all k) name ≡ Some Doubtful → ⊥
      doubt name h = no_doubt program s all w name (kept program s all w k name Doubtful h)

      agrees : Agrees (subprogram_scope (scope_at s all k) d) (inside program m (record { within = None; locals = [] }) (static_place program.scope))
      agrees =
          subst (λ u. Agrees u (inside program m (record { within = None; locals = [] }) (static_place program.scope))) (scope_next s all k (SubprogramBody d b) at)
          (front_fits program s all w laws scopes m memory (assembled.offers scopes t m legal restricted names laws memory) names.fronts (suc k)
          (static_place program.scope)).agrees

  object_simple : (k : ℕ) (nm : Identifier) (items : List ProtectedItemTree) (end_name : Identifier)
      (at : slice_get all k ≡ Some (ProtectedBody nm items end_name))
      (j : ℕ) (i : ProtectedItemTree) → slice_get items j ≡ Some i
      → IsSimpleUnit (operation_body (Some (bodies.there program s all w k nm items end_name at).object.number) i)
  object_simple k nm items end_name at j (OperationBody e b) h =
      operation_simple program s all w laws scopes m memory (assembled.offers scopes t m legal restricted names laws memory) names.fronts k nm items end_name at
      (assembled.own scopes t m legal restricted names laws memory k nm items end_name at)
      (assembled.sounds scopes t m legal restricted names laws memory k nm items end_name at)
      (assembled.inners scopes t m legal restricted names laws memory k nm items end_name at) j e b h (static_place program.scope)
  object_simple k nm items end_name at j (EntryBody e barrier b) h = λ r some. absurd (no_result r some)

  unit_simple : (u : Bodied) → InPackage all u ⊎ InObject program.scope all u → IsSimpleUnit u
  unit_simple u (inl x) = subst IsSimpleUnit (sym x.is) (package_simple x.place x.subprogram x.body x.at)
  unit_simple u (inr x) =
      let number = (bodies.there program s all w x.place x.name x.items x.end_name x.at).numbered in
      let is = x.is ∙ ap (λ o. operation_body o x.item) number in
      subst IsSimpleUnit (sym is) (object_simple x.place x.name x.items x.end_name x.at x.index x.item x.there)

  pub results_simple : (owner : Option ℕ) (name : List ℕ) (f : Function) → function_of program.functions owner name ≡ Some f
      → is_simple (form_at program.scope f.result.type_number) ≡ true
  results_simple owner name f h =
      let x = found_function program.scope (bodies_among program.scope all) owner name f
      (ap (λ l. function_of l owner name) (sym (w.functions ∙ functions_are program.scope all)) ∙ h) in
      subst (λ (y : Function). is_simple (form_at program.scope y.result.type_number) ≡ true) (sym x.is)
      (unit_simple x.unit_ (body_place program.scope all x.unit_ x.has) x.result x.some)

module _ (scopes : ScopesAreSound) (known : NamesAreKnown) (premises : PremisesHold) where
  pub functions_sound : ProgramFunctionsAreSound
  functions_sound t m legal restricted memory p = all_functions scopes t m legal restricted (known t legal restricted) (premises t legal) memory p
