-- Statements that call: what a legal name calls is found, with its actuals (RM 6.4, 9.5.3).
use Rattle.std.proofs.Common.{◌≡◌, inl, inr, ℕ, zero, suc, List, [], ◌∷◌, length, map, Bool, true, false, not, Option, Some, None, refl, sym, ap, ◌∙◌, subst}
use Rattle.std.specs.Prelude.{ℤ, cond, option_map, slice_get, ⊤}
use Rattle.expr_soundness.specs.base.specs.Exceptions.{number_of as exception_number}
use Rattle.expr_soundness.specs.base.specs.declared.exceptions.PredefinedException.TheVariants.{ProgramError}
use Rattle.expr_soundness.specs.kernel.specs.Effects.{Says, is_inside_any}
use Rattle.expr_soundness.specs.ada_tree.specs.declared.expression.Identifier.{Identifier}
use Rattle.expr_soundness.specs.ada_tree.specs.ExpressionTree as tree
use Rattle.expr_soundness.specs.ada_tree.specs.ExpressionTree.{NameTree, SelectorTrees, NoSelectors, MoreSelectors, Component, Arguments, ArgumentTrees, NoArguments, MoreArguments, Text}
use Rattle.expr_soundness.specs.ada_tree.specs.StatementTree as statements
use Rattle.expr_soundness.specs.types.specs.declared.entity.PredefinedOperation.{PredefinedOperation}
use Rattle.expr_soundness.specs.types.specs.declared.entity.PredefinedOperation.TheVariants as predefined
use Rattle.expr_soundness.specs.types.specs.declared.standing.Callee.{Callee as Called}
use Rattle.expr_soundness.specs.types.specs.declared.standing.Callee.TheVariants as callee
use Rattle.expr_soundness.specs.types.specs.declared.standing.Standing.TheVariants as standing
use Rattle.expr_soundness.specs.types.specs.declared.entity.Subtype.{Subtype}
use Rattle.expr_soundness.specs.types.specs.Values.{Value}
use Rattle.expr_soundness.specs.types.specs.Evaluations.{Val, Gives, Raises, Meaningless, and_then}
use Rattle.expr_soundness.specs.types.specs.Evaluating.{passed}
use Rattle.expr_soundness.specs.types.specs.Entities.{Entity, Operation, Profile, ProtectedObject}
use Rattle.expr_soundness.specs.types.specs.Entities as entity
use Rattle.expr_soundness.specs.types.specs.Scopes.{Scope, entity_at, is_visible, number_of, profile_of, protected_at, protected_of}
use Rattle.expr_soundness.specs.types.specs.Standings.{callee_profile, count, operation_profile, profile_among, select_all, standing_of, stands_first, stands_for}
use Rattle.expr_soundness.specs.expr_rules.specs.Faults.{rule}
use Rattle.expr_soundness.specs.expr_rules.specs.NameRules.{call_rule, call_slot, formal_slot_or}
use Rattle.expr_soundness.specs.expr_rules.specs.ExpressionRules.{arguments_faults, call_faults, name_faults, selectors_faults}
use Rattle.expr_soundness.specs.expr_rules.proofs.TypedLaw.{back_empty, front_empty, unbroken}
use Rattle.stmt_rules.specs.declared.around.Around.{Around}
use Rattle.expr_soundness.specs.SoundScopes.{AreKnown, AreSoundOperations, IsSoundOperation, IsSoundPredefined}
use Rattle.expr_soundness.specs.Lying.{OnGives}
use Rattle.expr_soundness.specs.meaning.specs.Programs.{Procedure, Program, object_numbered}
use Rattle.expr_soundness.specs.meaning.specs.Works.{Item, Goes}
use Rattle.expr_soundness.specs.meaning.specs.Calls.{Actuals, Callee, actuals, callee_by, callee_through, callee_with, procedure_among, procedure_here}
use Rattle.expr_soundness.specs.meaning.specs.SourceSteps.{Here, SourceStepped, raises, with_value, works, call_of, call_or_put, entry_call, entry_call_of, evaluate, external_call, place_of, plain_call, procedure_call, put_call, put_line, raises_predefined, statement_step, with_actuals_of}
use Rattle.step_soundness.specs.Objects.{GivesOrRaises, IsPredefinedException}
use Rattle.step_soundness.specs.Fitting.{entry_of, FitsScope, IsCalled, IsEntry, IsOperation, IsProcedure, IsPut, entity_named, formal_of}
use Rattle.step_soundness.specs.Opened.{IsHeld, opened_in}
use Rattle.step_soundness.specs.Judged.{Waiting}
use Rattle.step_soundness.specs.Holding.{IsSoundProcedure, IsSoundStep}
use Rattle.step_soundness.specs.Laws.{Premises}
use Rattle.step_soundness.proofs.Lookups.{named_number, visible_named}
use Rattle.step_soundness.proofs.Going.{At, Current, agrees_here, at_raised, ready_of, worked}
use Rattle.step_soundness.proofs.Valued.{IsNumber, integer_comes}
use Rattle.step_soundness.proofs.Turning.{not_false}
use Rattle.step_soundness.proofs.Passing.{ActualsFit, Indexed, Passes, actuals_come, indexed}
use Rattle.step_soundness.proofs.Raising.{exception_predefined}
use Rattle.step_soundness.proofs.Naming.{HasArguments, IsCall, IsPutCall, called_with, no_call, operation_called, put_called}
use Rattle.step_soundness.proofs.Calling.{entry_sound, external_sound, found_here, held_here, plain_sound, among_owner}

length_mapped : {A B : Type 0} (f : A → B) (xs : List A) → length (map f xs) ≡ length xs
length_mapped f [] = refl
length_mapped f (x ∷ xs) = ap suc (length_mapped f xs)

-- ---- what the name finds

abbrev call_to : Procedure → Option ℕ → ArgumentTrees → Callee
call_to q through args = record { procedure = q; through = through; arguments = args }

direct_callee : (program : Program) (within : Option ℕ) (first : Identifier) (path : SelectorTrees) (args : ArgumentTrees) (q : Procedure)
    → HasArguments path args
    → procedure_here program within first.name ≡ Some q → callee_by program within first path ≡ Some (call_to q None args)
direct_callee program within first path args q (inl none) found =
    ap (callee_by program within first) none.0 ∙ ap (λ o. callee_with o None NoArguments) found ∙ ap (λ x. Some (call_to q None x)) (sym none.1)
direct_callee program within first path args q (inr some) found = ap (callee_by program within first) some ∙ ap (λ o. callee_with o None args) found

operation_callee : (program : Program) (within : Option ℕ) (first name : Identifier) (rest : SelectorTrees) (args : ArgumentTrees) (n : ℕ) (q : Procedure)
    → HasArguments rest args
    → object_numbered program.scope first ≡ Some n → procedure_among program.procedures (Some n) name.name ≡ Some q
    → callee_by program within first (MoreSelectors (Component name) rest) ≡ Some (call_to q (Some n) args)
operation_callee program within first name rest args n q (inl none) number found =
    ap (λ r. callee_by program within first (MoreSelectors (Component name) r)) none.0 ∙ ap (λ o. callee_through program o name.name NoArguments) number
    ∙ ap (λ o. callee_with o (Some n) NoArguments) found
    ∙ ap (λ x. Some (call_to q (Some n) x)) (sym none.1)
operation_callee program within first name rest args n q (inr some) number found =
    ap (λ r. callee_by program within first (MoreSelectors (Component name) r)) some ∙ ap (λ o. callee_through program o name.name args) number
    ∙ ap (λ o. callee_with o (Some n) args) found

operation_sound : (s : Scope) (os : List Operation) (k : ℕ) (x : Operation) → AreSoundOperations s os → slice_get os k ≡ Some x
    → IsSoundOperation s x.is_entry x.profile
operation_sound s [] k x sound h = cc
operation_sound s (o ∷ os) zero x sound h = let f : Option Operation
    → Operation = λ y. elim y [ Some z ↦ z | None ↦ o ] in subst (λ z. IsSoundOperation s z.is_entry z.profile) (ap f h) sound.0
operation_sound s (o ∷ os) (suc k) x sound h = operation_sound s os k x sound.1 h

formals_known : (s : Scope) (is_entry : Bool) (p : Profile) → IsSoundOperation s is_entry p → AreKnown s p.formals
formals_known s true p sound = sound.known
formals_known s false p sound = sound.known

predefined_result : (s : Scope) (o : PredefinedOperation) (p : Profile) → IsSoundPredefined s o p → p.result ≡ None → ⊥
predefined_result s predefined.Clock p sound none = let bad = sym none ∙ sound.result in cc
predefined_result s predefined.Milliseconds p sound none = let bad = sym none ∙ sound.result in cc
predefined_result s predefined.Microseconds p sound none = let bad = sym none ∙ sound.result in cc
predefined_result s predefined.Read p sound none = let bad = sym none ∙ sound.result in cc

-- What is wanted of a call of a procedure or entry whose actuals fit, and of what comes in place of it: `Known` of the procedures of the program.
pub record CallArms (h : Here) (s : Scope) (outer : List Waiting) (a : Around) (items : List Item) (Worth : Subtype → Value → Type 0)
    (Known : Procedure → Type 0) (Met : SourceStepped → Type 0) : Type 0 where
  pub procedures : (owner : Option ℕ) (name : List ℕ) (q : Procedure) → procedure_among h.program.procedures owner name ≡ Some q → Known q
  pub entries : (o : ℕ) (q : Procedure) → entry_of h.program.procedures o ≡ Some q → Known q
  pub raised : (x : ℕ) → IsPredefinedException x → Met (raises h x items)
  pub plain : (q : Procedure) (x : Actuals) → Known q → ActualsFit Worth h.program h.own q.parameters x → IsHeld q.object (opened_in items)
      → Met (plain_call h q x items)
  pub external : (o : ℕ) (q : Procedure) (x : Actuals) → Known q → ActualsFit Worth h.program h.own q.parameters x → q.object ≡ Some o
      → Met (external_call h o q x items)
  pub entered : (o : ℕ) (q : Procedure) (x : Actuals) → Known q → ActualsFit Worth h.program h.own q.parameters x → q.object ≡ Some o
      → entry_of h.program.procedures o ≡ Some q → is_inside_any h.kernel h.task ≡ false → Met (entry_call h o q x items)
  pub says : (label : List ℕ) (z : ℤ) → Met (works h (Says label z) (Goes items))

module _ (h : Here) (s : Scope) (outer : List Waiting) (a : Around) (items : List Item) (laws : Premises h.program) (at : At h s outer a items)
    (Worth : Subtype → Value → Type 0) (worth : Passes h s items Worth) (Known : Procedure → Type 0) (Met : SourceStepped → Type 0)
    (arms : CallArms h s outer a items Worth Known Met) where
  c : Current h s outer
  c = at.current

  met_value : {A : Type 0} (P : A → Type 0) (v : Val A) (go : A → SourceStepped) → GivesOrRaises P v → ((x : A) → P x → Met (go x))
      → Met (with_value h v items go)
  met_value P (Gives x) go comes f = f x comes
  met_value P (Raises x) go comes f = arms.raised x comes
  met_value P Meaningless go comes f = absurd comes

  met_chosen : (b : Bool) (x y : SourceStepped) → (b ≡ true → Met x) → (b ≡ false → Met y) → Met (cond b x y)
  met_chosen true x y f g = f refl
  met_chosen false x y f g = g refl

  fits : FitsScope h.program s (place_of h items)
  fits = c.own.fits (place_of h items)

  call_actuals : (f : Called) (profile : Profile) (q : Procedure) (args : ArgumentTrees) → callee_profile s f ≡ Some profile
      → map formal_of q.parameters ≡ profile.formals → AreKnown s profile.formals
      → count args ≡ length profile.formals → arguments_faults s (standing.Callee f) 0 args ≡ []
      → GivesOrRaises (ActualsFit Worth h.program h.own q.parameters) (actuals (place_of h items) h.memory h.own q.parameters args)
  call_actuals f profile q args is formals known counted legal =
      actuals_come h s outer a items laws at Worth worth (standing.Callee f) profile.formals (λ k x there. ap (λ o. call_slot o k) is
      ∙ ap formal_slot_or there) 0 q.parameters args
      (subst (Indexed profile.formals 0) (sym formals) (indexed profile.formals)) (subst (AreKnown s) (sym formals) known) (counted
      ∙ ap length (sym formals) ∙ length_mapped formal_of q.parameters) legal

  -- ---- calls of what was found

  abbrev CallMet : Procedure → Option ℕ → ArgumentTrees → Type 0
  CallMet q through args = Met (call_of h (call_to q through args) q.barrier items)

  procedure_met : (q : Procedure) (through : Option ℕ) (args : ArgumentTrees) → q.barrier ≡ None → Met (procedure_call h (call_to q through args) through items)
      → CallMet q through args
  procedure_met q through args free sound = subst (λ b. Met (call_of h (call_to q through args) b items)) (sym free) sound

  direct_met : (name : List ℕ) (q : Procedure) (args : ArgumentTrees) → procedure_here h.program h.own.within name ≡ Some q → q.barrier ≡ None
      → GivesOrRaises (ActualsFit Worth h.program h.own q.parameters) (actuals (place_of h items) h.memory h.own q.parameters args) → CallMet q None args
  direct_met name q args found free given =
      let here = found_here h.program h.own.within name q found in
      procedure_met q None args free
      (met_value (ActualsFit Worth h.program h.own q.parameters) (actuals (place_of h items) h.memory h.own q.parameters args)
      (λ x. plain_call h q x items) given
      (λ x fit. arms.plain q x (arms.procedures here.owner name q here.is) fit (held_here h.own.within q.object (opened_in items) here.place at.held)))

  through_met : (n : ℕ) (name : List ℕ) (q : Procedure) (args : ArgumentTrees) → procedure_among h.program.procedures (Some n) name ≡ Some q → q.barrier ≡ None
      → GivesOrRaises (ActualsFit Worth h.program h.own q.parameters) (actuals (place_of h items) h.memory h.own q.parameters args) → CallMet q (Some n) args
  through_met n name q args found free given =
      procedure_met q (Some n) args free
      (met_value (ActualsFit Worth h.program h.own q.parameters) (actuals (place_of h items) h.memory h.own q.parameters args)
      (λ x. external_call h n q x items) given
      (λ x fit. arms.external n q x (arms.procedures (Some n) name q found) fit (among_owner h.program.procedures (Some n) name q found)))

  waits_met : (profile : Profile) (found : Option Procedure) (e : IsEntry h.program found profile) (through : Option ℕ) (args : ArgumentTrees)
      → GivesOrRaises (ActualsFit Worth h.program h.own e.procedure.parameters) (actuals (place_of h items) h.memory h.own e.procedure.parameters args)
      → CallMet e.procedure through args
  waits_met profile found e through args given =
      let q = e.procedure in
      subst (λ b. Met (call_of h (call_to q through args) b items)) (sym e.barrier)
      (subst (λ o. Met (entry_call_of h (call_to q through args) o items)) (sym e.owner)
      (met_chosen (is_inside_any h.kernel h.task) (raises_predefined h ProgramError items)
      (with_actuals_of h (call_to q through args) items (λ x. entry_call h e.object q x items))
      (λ i. arms.raised (exception_number ProgramError) (exception_predefined ProgramError))
      (λ outside.
      met_value (ActualsFit Worth h.program h.own q.parameters) (actuals (place_of h items) h.memory h.own q.parameters args)
      (λ x. entry_call h e.object q x items) given
      (λ x fit. arms.entered e.object q x (arms.entries e.object q e.only) fit e.owner e.only outside))))

  -- ---- by what the name stands for

  abbrev StepMet : Identifier → SelectorTrees → Type 0
  StepMet first path = Met (call_or_put h (record { first = first; selectors = path }) (callee_by h.program h.own.within first path) items)

  callee_met : (first : Identifier) (path : SelectorTrees) (q : Procedure) (through : Option ℕ) (args : ArgumentTrees)
      → callee_by h.program h.own.within first path ≡ Some (call_to q through args) → CallMet q through args → StepMet first path
  callee_met first path q through args is sound =
      subst (λ o. Met (call_or_put h (record { first = first; selectors = path }) o items)) (sym is) sound

  called_procedure : (f : Called) (profile : Profile) (path : SelectorTrees) → callee_profile s f ≡ Some profile → AreKnown s profile.formals
      → (call : IsCall s f profile path)
      → (first : Identifier) → IsCalled (procedure_here h.program h.own.within first.name) profile profile.result → StepMet first path
  called_procedure f profile path is known call first found =
      let p : IsProcedure (procedure_here h.program h.own.within first.name) profile = subst
      (IsCalled (procedure_here h.program h.own.within first.name) profile) call.none found in
      callee_met first path p.procedure None call.arguments (direct_callee h.program h.own.within first path call.arguments p.procedure call.written p.is)
      (direct_met first.name p.procedure call.arguments p.is p.barrier
      (call_actuals f profile p.procedure call.arguments is p.formals known call.counted call.legal))

  called_entry : (f : Called) (profile : Profile) (path : SelectorTrees) → callee_profile s f ≡ Some profile → AreKnown s profile.formals
      → (call : IsCall s f profile path)
      → (first : Identifier) → IsEntry h.program (procedure_here h.program h.own.within first.name) profile → StepMet first path
  called_entry f profile path is known call first e =
      callee_met first path e.procedure None call.arguments (direct_callee h.program h.own.within first path call.arguments e.procedure call.written e.is)
      (waits_met profile (procedure_here h.program h.own.within first.name) e None call.arguments
      (call_actuals f profile e.procedure call.arguments is e.formals known call.counted call.legal))

  called_operation_met : (f : Called) (profile : Profile) (is_entry : Bool) (rest : SelectorTrees) → callee_profile s f ≡ Some profile
      → AreKnown s profile.formals → (call : IsCall s f profile rest)
      → (first name : Identifier) (n : ℕ) → object_numbered h.program.scope first ≡ Some n
      → IsOperation h.program (procedure_among h.program.procedures (Some n) name.name) is_entry profile → StepMet first (MoreSelectors (Component name) rest)
  called_operation_met f profile true rest is known call first name n number e =
      callee_met first (MoreSelectors (Component name) rest) e.procedure (Some n) call.arguments
      (operation_callee h.program h.own.within first name rest call.arguments n e.procedure call.written number e.is)
      (waits_met profile (procedure_among h.program.procedures (Some n) name.name) e (Some n) call.arguments
      (call_actuals f profile e.procedure call.arguments is e.formals known call.counted call.legal))
  called_operation_met f profile false rest is known call first name n number found =
      let p : IsProcedure (procedure_among h.program.procedures (Some n) name.name) profile = subst
      (IsCalled (procedure_among h.program.procedures (Some n) name.name) profile) call.none found in
      callee_met first (MoreSelectors (Component name) rest) p.procedure (Some n) call.arguments
      (operation_callee h.program h.own.within first name rest call.arguments n p.procedure call.written number p.is)
      (through_met n name.name p.procedure call.arguments p.is p.barrier
      (call_actuals f profile p.procedure call.arguments is p.formals known call.counted call.legal))

  put_met : (first : Identifier) (path : SelectorTrees) → IsPut h.program h.own.within first.name → IsPutCall s path → StepMet first path
  put_met first path put call =
      let x = MoreSelectors (Arguments (MoreArguments (Text call.label call.at) (MoreArguments (tree.Value call.value) NoArguments))) NoSelectors in
      subst (λ y. StepMet first y) (sym call.written)
      (subst (λ o. Met (call_or_put h (record {
        first = first;
        selectors = x;
      }) (callee_with o None (MoreArguments (Text call.label call.at) (MoreArguments (tree.Value call.value) NoArguments))) items))
      (sym put.free)
      (subst (λ e. Met (put_call h e x items)) (sym put.is)
      (met_value IsNumber (evaluate h items call.value) (put_line h call.label items) (integer_comes h s outer laws c items call.value call.legal)
      (λ v z.
      subst (λ w. Met (put_line h call.label items w)) (sym z.1)
      (arms.says call.label z.0)))))

  by_entity : (first : Identifier) (path : SelectorTrees) (n : ℕ) (e : Entity) → entity_named s first.name ≡ Some e → entity_at s n ≡ Some e
      → selectors_faults s first.place (stands_for n (Some e)) path ≡ [] → call_rule first.place (select_all s (stands_for n (Some e)) path) ≡ []
      → StepMet first path
  by_entity first path n (entity.Subprogram p) named there legal called =
      let is = ap profile_of there in
      called_procedure (callee.Direct n) p path is ((agrees_here h s outer c items).sound.each n (entity.Subprogram p) there).known
      (called_with s first.place (callee.Direct n) p path is legal called) first (fits.finds first.name (entity.Subprogram p) named)
  by_entity first path n (entity.Entry p) named there legal called =
      let is = ap profile_of there in
      called_entry (callee.Direct n) p path is ((agrees_here h s outer c items).sound.each n (entity.Entry p) there).known
      (called_with s first.place (callee.Direct n) p path is legal called) first (fits.finds first.name (entity.Entry p) named)
  by_entity first path n (entity.Predefined o p) named there legal called =
      let call = called_with s first.place (callee.Direct n) p path (ap profile_of there) legal called in
      absurd (predefined_result s o p ((agrees_here h s outer c items).sound.each n (entity.Predefined o p) there) call.none)
  by_entity first path n entity.Put named there legal called = put_met first path (fits.finds first.name entity.Put named) (put_called s first.place path legal)
  by_entity first path n (entity.Protected o) named there legal called =
      let is : protected_at s n ≡ Some o = ap protected_of there in
      let call = operation_called s first.place n o path is legal called in
      let object = fits.finds first.name (entity.Protected o) named in
      let profile : callee_profile s (callee.Operation n call.place) ≡ Some call.operation.profile = ap (λ p. profile_among p call.place) is
      ∙ ap operation_profile call.there in
      let sound = ((agrees_here h s outer c items).sound.each n (entity.Protected o) there).0 in
      subst (λ x. StepMet first x) (sym call.written)
      (called_operation_met (callee.Operation n call.place) call.operation.profile call.operation.is_entry call.rest profile
      (formals_known s call.operation.is_entry call.operation.profile (operation_sound s o.operations call.place call.operation sound call.there)) call.call
      first call.name object.object.number
      (ap (λ e. option_map number_of_object (protected_of e)) object.is) (object.operations call.name.name call.place call.operation call.found call.there))
    where
      number_of_object : ProtectedObject → ℕ
      number_of_object x = x.number
  by_entity first path n (entity.OfType f t) named there legal called = absurd (no_call s first.place (standing.Named t) path refl legal called)
  by_entity first path n (entity.OfSubtype t) named there legal called = absurd (no_call s first.place (standing.Named t) path refl legal called)
  by_entity first path n (entity.Object r t) named there legal called = absurd (no_call s first.place (standing.Part r t) path refl legal called)
  by_entity first path n (entity.Constant t v) named there legal called = absurd (no_call s first.place (standing.Fixed t v) path refl legal called)
  by_entity first path n (entity.Literal b) named there legal called = absurd
      (no_call s first.place (stands_for n (Some (entity.Literal b))) path refl legal called)
  by_entity first path n entity.Exception named there legal called = absurd (no_call s first.place standing.Other path refl legal called)
  by_entity first path n (entity.Task priority) named there legal called = absurd (no_call s first.place standing.Task path refl legal called)
  by_entity first path n entity.LibraryUnit named there legal called = absurd (no_call s first.place standing.Other path refl legal called)
  by_entity first path n entity.Doubtful named there legal called = absurd ((agrees_here h s outer c items).sound.each n entity.Doubtful there)

  pub call_met : (name : NameTree) → call_faults s name.first name.selectors ≡ [] → Met (statement_step h (statements.Call name) items)
  call_met name legal =
      let first = name.first in
      let path = name.selectors in
      let unseen = rule _ first.place (not (is_visible s first.name)) in
      let stands = selectors_faults s first.place (stands_first s (number_of s first.name)) path in
      let names = front_empty (name_faults s first path) (call_rule first.place (standing_of s first path)) legal in
      let called = back_empty (name_faults s first path) (call_rule first.place (standing_of s first path)) legal in
      let seen = not_false (is_visible s first.name) (unbroken _ first.place (not (is_visible s first.name)) (front_empty unseen stands names)) in
      let e = visible_named s first.name seen in
      let n = named_number s first.name e.0 e.1 in
      let same : stands_first s (number_of s first.name) ≡ stands_for n.0 (Some e.0) = ap (stands_first s) n.1 ∙ ap (stands_for n.0) n.2 in
      by_entity first path n.0 e.0 e.1 n.2 (subst (λ w. selectors_faults s first.place w path ≡ []) same (back_empty unseen stands names))
      (subst (λ w. call_rule first.place (select_all s w path) ≡ []) same called)

-- ---- so the step is sound

module _ (h : Here) (s : Scope) (outer : List Waiting) (a : Around) (items : List Item) (laws : Premises h.program) (at : At h s outer a items) where
  -- of values nothing more has to be known than their types
  abbrev Any : Subtype → Value → Type 0
  Any t v = ⊤

  anything : {A : Type 0} (v : Val A) → OnGives (λ x. ⊤) v
  anything (Gives x) = tt
  anything (Raises x) = tt
  anything Meaningless = tt

  sound_arms : CallArms h s outer a items Any (IsSoundProcedure h.program h.memory) (IsSoundStep h (opened_in items))
  sound_arms =
      record {
        procedures = at.current.store.procedures;
        entries = at.current.store.entries;
        raised = λ x known. at_raised h s outer a items at x (known.0, inl known.1);
        plain = plain_sound Any h s outer a items laws at;
        external = external_sound Any h s outer a items laws at;
        entered = entry_sound Any h s outer a items laws at;
        says = λ label z. worked h s outer at.current a (Says label z) (Goes items) (opened_in items) at.behind.0 at.behind.1
            (ready_of h.program h.own at.behind.0 outer a items at.behind.2) (refl, refl) at.held tt;
      }

  pub call_sound : (name : NameTree) → call_faults s name.first name.selectors ≡ []
      → IsSoundStep h (opened_in items) (statement_step h (statements.Call name) items)
  call_sound name legal =
      call_met h s outer a items laws at Any (record {
        expressions = λ t e known l. anything (and_then (evaluate h items e) (passed t));
        variables = λ t x v same part is. anything (passed t v);
      })
      (IsSoundProcedure h.program h.memory) (IsSoundStep h (opened_in items)) sound_arms name legal
