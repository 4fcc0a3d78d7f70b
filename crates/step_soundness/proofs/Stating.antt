-- Statements: each that breaks no rule has a step with a meaning (RM 5).
use Rattle.std.proofs.Common.{◌≡◌, ◌≤◌, inr, ℕ, suc, List, [], ◌∷◌, ◌++◌, length, map, Bool, true, false, not, Option, Some, None, cond, refl, sym, ap, ◌∙◌, subst}
use Rattle.std.proofs.Common.{arith}
use Rattle.std.specs.Prelude.{option_map, position, bytes_eq}
use Rattle.std.proofs.lemmas.List.Quantifiers.{position-Some}
use Rattle.std.proofs.lemmas.Option.{same_Some}
use Rattle.expr_soundness.specs.base.specs.declared.faults.TheConstants.{MISPLACED_STATEMENT, WRONG_CHOICES}
use Rattle.expr_soundness.specs.base.specs.declared.exceptions.PredefinedException.TheVariants.{ProgramError}
use Rattle.expr_soundness.specs.kernel.specs.Effects.{Delays, is_inside_any}
use Rattle.expr_soundness.specs.ada_tree.specs.declared.expression.Identifier.{Identifier}
use Rattle.expr_soundness.specs.ada_tree.specs.ExpressionTree.{ExprTree, NameTree}
use Rattle.expr_soundness.specs.ada_tree.specs.StatementTree as statements
use Rattle.expr_soundness.specs.ada_tree.specs.StatementTree.{DeclarationTree, LocalObject, LocalTask, LocalProtected, ChoicesTree, Values, OtherValues, StmtTree, StmtTrees, ElsifTrees, NoElsifs, MoreElsifs, AlternativeTrees, NoAlternatives, MoreAlternatives, HandlerTrees}
use Rattle.expr_soundness.specs.types.specs.declared.entity.Subtype.{Subtype}
use Rattle.expr_soundness.specs.types.specs.declared.entity.Value.{Value as Scalar}
use Rattle.expr_soundness.specs.types.specs.declared.standing.Standing.{Standing}
use Rattle.expr_soundness.specs.types.specs.Standings.{standing_of}
use Rattle.expr_soundness.specs.types.specs.Entities.{Entity}
use Rattle.expr_soundness.specs.types.specs.Entities as entity
use Rattle.expr_soundness.specs.types.specs.Scopes.{Scope, number_of}
use Rattle.expr_soundness.specs.types.specs.Statics.{start_of}
use Rattle.expr_soundness.specs.types.specs.Values.{Value}
use Rattle.expr_soundness.specs.types.specs.Evaluations.{Val, Gives, Raises, Meaningless, and_then}
use Rattle.expr_soundness.specs.types.specs.Places.{Place}
use Rattle.expr_soundness.specs.types.specs.Evaluating.{passed}
use Rattle.expr_soundness.specs.expr_rules.specs.declared.own.Own.{Own}
use Rattle.expr_soundness.specs.expr_rules.specs.declared.own.Own.TheVariants.{Unknown, Universal, Typed}
use Rattle.expr_soundness.specs.expr_rules.specs.declared.own.Wanted.{Wanted}
use Rattle.expr_soundness.specs.expr_rules.specs.declared.own.Wanted.TheVariants.{Anything}
use Rattle.expr_soundness.specs.expr_rules.specs.Faults.{rule}
use Rattle.expr_soundness.specs.expr_rules.specs.Typing.{is_known, is_time, own_of, typed_wanted}
use Rattle.expr_soundness.specs.expr_rules.specs.NameRules.{mismatch}
use Rattle.expr_soundness.specs.expr_rules.specs.ExpressionRules.{faults_in, faults_of, target_faults}
use Rattle.expr_soundness.specs.expr_rules.proofs.TypedLaw.{back_empty, front_empty, time_numeric, unbroken}
use Rattle.expr_soundness.specs.type_rules.specs.SubtypeNames.{entity_at_or_none, named_entity}
use Rattle.expr_soundness.specs.declaration_rules.specs.Laws.{StandsFirst}
use Rattle.expr_soundness.specs.declaration_rules.specs.LocalRules.{local_faults, local_scope, locals_faults, locals_scope}
use Rattle.stmt_rules.specs.declared.around.Around.{Around}
use Rattle.stmt_rules.specs.SimpleRules.{assigned_wanted, condition_faults, delay_until_faults, exit_rule, is_function, optional_condition_faults, raise_faults, raised_rule, result_wanted, time_rule, time_wanted}
use Rattle.stmt_rules.specs.CaseRules.{choices_faults, choices_wanted, chosen_by, discrete_rule, has_others, others_rule, selecting_faults}
use Rattle.stmt_rules.specs.CaseRules as alternatives
use Rattle.stmt_rules.specs.StatementRules.{alternatives_faults, elsifs_faults, in_loop, iteration_faults, iteration_scope, more_handlers_faults, stmt_faults, stmts_faults}
use Rattle.body_restrictions.specs.BodyRules as profile
use Rattle.expr_soundness.specs.meaning.specs.Programs.{Program, exception_number}
use Rattle.expr_soundness.specs.meaning.specs.Works.{Item, Declares, Sequence, Does, Goes, Home, InActivation, InPackage, InObject, Part, Target}
use Rattle.expr_soundness.specs.meaning.specs.Targets.{activation_with, objects_of, target}
use Rattle.expr_soundness.specs.meaning.specs.SourceSteps.{Here, alternative, alternative_for, assign, before, behind_loop, condition, delay_until, end_of_body, evaluate, goes, otherwise, place_of, raise_named, raise_number, raises_predefined, some_chosen, statement_step, stores, with_value}
use Rattle.step_soundness.specs.Objects.{GivesOrRaises, IsException, IsOf, IsReached, IsTarget, first_store, subtype_in}
use Rattle.step_soundness.specs.Opened.{IsHeld, opened_in}
use Rattle.step_soundness.specs.Judged.{AreFaultless, AreFaultlessHandlers, Begins, IsFaultless, Leaves, Waiting}
use Rattle.step_soundness.specs.Holding.{IsSoundStep}
use Rattle.step_soundness.specs.Laws.{Premises}
use Rattle.step_soundness.proofs.Aiming.{IsNamedTarget, NamesTarget, objects_at, names_target}
use Rattle.step_soundness.proofs.Raising.{RaisesPredefined, target_predefined}
use Rattle.step_soundness.proofs.Reaching.{IsReachedBy, target_reached}
use Rattle.step_soundness.proofs.Sights.{fits_fewer, narrows_same, narrows_then}
use Rattle.step_soundness.proofs.Going.{At, Current, agrees_here, at_before, at_chosen, at_goes, at_raised, at_refused, at_value, comes_then, functions_here, leaves_of, ready_of, went, worked}
use Rattle.step_soundness.proofs.Valued.{IsNumber, condition_comes, known_own, number_comes, passed_comes, some_value, value_comes}
use Rattle.step_soundness.proofs.Walking.{Passed, exits, handling, no_function, returns}
use Rattle.step_soundness.proofs.Storing.{stores_sound}
use Rattle.step_soundness.proofs.Turning.{begins_ready, loop_sound, not_false}

-- ---- blocks

-- nothing of a block that has not begun is asked for where an exception leaves it
leaves_block : (program : Program) (s : Scope) (outer : List Waiting) (a : Around) (ds : List DeclarationTree) (body : StmtTrees) (all : HandlerTrees) (items : List Item)
    → Leaves program s outer a items → Leaves program s outer a (map Declares ds ++ Sequence body all ∷ items)
leaves_block program s outer a [] body all items leaves = leaves
leaves_block program s outer a (d ∷ ds) body all items leaves = leaves_block program s outer a ds body all items leaves

opened_block : (ds : List DeclarationTree) (body : StmtTrees) (all : HandlerTrees) (items : List Item) → opened_in (map Declares ds ++ Sequence body all ∷ items) ≡ opened_in items
opened_block [] body all items = refl
opened_block (d ∷ ds) body all items = opened_block ds body all items

-- ---- alternatives

abbrev IsLegalBody : Scope → Around → Option StmtTrees → Type 0
IsLegalBody s a (Some body) = AreFaultless s a body
IsLegalBody s a None = ⊥

chosen_legal : (s : Scope) (a : Around) (b : Bool) (body : StmtTrees) (o : Option StmtTrees) → AreFaultless s a body → IsLegalBody s a o → IsLegalBody s a (cond b (Some body) o)
chosen_legal s a true body o legal other = legal
chosen_legal s a false body o legal other = other

alternative_legal : (s : Scope) (a : Around) (w : Wanted) (chosen : List Scalar) (place : Place) (v : Value) (all : AlternativeTrees) → alternatives_faults s a w chosen all ≡ []
    → profile.alternatives_faults all ≡ [] → has_others all ≡ true → IsLegalBody s a (alternative_for place v all)
alternative_legal s a w chosen place v NoAlternatives h i others = cc
alternative_legal s a w chosen place v (MoreAlternatives at (OtherValues p) body rest) h i others =
    let own = choices_faults s w chosen (alternatives.no_more rest) (OtherValues p) in
    let further = alternatives_faults s a w (chosen_by s w chosen (OtherValues p)) rest in
    (back_empty own (stmts_faults s a body) (front_empty (own ++ stmts_faults s a body) further h), front_empty (profile.stmts_faults body) (profile.alternatives_faults rest) i)
alternative_legal s a w chosen place v (MoreAlternatives at (Values cs) body rest) h i others =
    let own = choices_faults s w chosen (alternatives.no_more rest) (Values cs) in
    let further = alternatives_faults s a w (chosen_by s w chosen (Values cs)) rest in
    chosen_legal s a (some_chosen place cs v) body (alternative_for place v rest)
    (back_empty own (stmts_faults s a body) (front_empty (own ++ stmts_faults s a body) further h), front_empty (profile.stmts_faults body) (profile.alternatives_faults rest) i)
    (alternative_legal s a w (chosen_by s w chosen (Values cs)) place v rest (back_empty (own ++ stmts_faults s a body) further h)
    (back_empty (profile.stmts_faults body) (profile.alternatives_faults rest) i) others)

-- ---- times

time_own : (s : Scope) (own : Own) (place : ℕ) → is_known own ≡ true → time_rule s own place ≡ [] → is_time s own ≡ true
time_own s Unknown place k h = cc
time_own s Universal place k h = not_false (is_time s Universal) (unbroken _ place (not (is_time s Universal)) h)
time_own s (Typed n) place k h = not_false (is_time s (Typed n)) (unbroken _ place (not (is_time s (Typed n))) h)

-- ---- exceptions

-- what a legal `raise` names
raised_is : (place : ℕ) (o : Option Entity) → raised_rule place o ≡ [] → (o ≡ Some entity.Doubtful → ⊥) → o ≡ Some entity.Exception
raised_is place (Some entity.Exception) h doubt = refl
raised_is place (Some entity.Doubtful) h doubt = absurd (doubt refl)
raised_is place None h doubt = cc
raised_is place (Some (entity.OfType f t)) h doubt = cc
raised_is place (Some (entity.OfSubtype t)) h doubt = cc
raised_is place (Some (entity.Object r t)) h doubt = cc
raised_is place (Some (entity.Constant t v)) h doubt = cc
raised_is place (Some (entity.Literal b)) h doubt = cc
raised_is place (Some (entity.Subprogram p)) h doubt = cc
raised_is place (Some (entity.Entry p)) h doubt = cc
raised_is place (Some (entity.Predefined o p)) h doubt = cc
raised_is place (Some entity.Put) h doubt = cc
raised_is place (Some (entity.Task priority)) h doubt = cc
raised_is place (Some (entity.Protected p)) h doubt = cc
raised_is place (Some entity.LibraryUnit) h doubt = cc

number_known : (program : Program) (name : List ℕ) (x : ℕ) → exception_number program name ≡ Some x → IsException program x
number_known program name x h = by_place (position (bytes_eq name) program.exceptions) refl h
  where
    by_place : (o : Option ℕ) → position (bytes_eq name) program.exceptions ≡ o → option_map suc o ≡ Some x → IsException program x
    by_place (Some n) at e =
        let there = position-Some (bytes_eq name) program.exceptions n [] at in
        let less : suc n ≤ length program.exceptions = there.0 in
        subst (IsException program) (same_Some (suc n) x e) (omega arith, inr less)
    by_place None at e = cc

-- ---- targets

pub target_comes : (s : Scope) (p : Place) (w : Standing) (v : Val Target) → RaisesPredefined v → IsReachedBy p.within v → NamesTarget s p w v → GivesOrRaises (λ x. IsNamedTarget s p w x × IsReached p.within x.home) v
target_comes s p w (Gives x) known reached h = (h, reached)
target_comes s p w (Raises x) known reached h = known
target_comes s p w Meaningless known reached h = h

module _ (h : Here) (s : Scope) (outer : List Waiting) (a : Around) (items : List Item) (laws : Premises h.program) (at : At h s outer a items) where
  c : Current h s outer
  c = at.current

  -- no name that is visible is doubtful
  not_doubtful : (name : Identifier) → named_entity s name ≡ Some entity.Doubtful → ⊥
  not_doubtful name is = nothing (number_of s name.name) is
    where
      nothing : (o : Option ℕ) → entity_at_or_none s o ≡ Some entity.Doubtful → ⊥
      nothing (Some n) k = (agrees_here h s outer c items).sound.each n entity.Doubtful k
      nothing None k = cc

  passed_goes : (next : List Item) → Passed h.program at.behind.0 outer items next → IsSoundStep h (opened_in items) (goes h next)
  passed_goes next p = went h s outer c p.1 items next at.held (p.0, narrows_then h.program s at.behind.0 p.0 at.behind.1 p.2, p.3) p.4

  exit_goes : (place : ℕ) → exit_rule a place ≡ [] → IsSoundStep h (opened_in items) (goes h (behind_loop items))
  exit_goes place legal = passed_goes (behind_loop items) (exits h.program at.behind.0 outer a items (not_false a.in_loop (unbroken MISPLACED_STATEMENT place (not a.in_loop) legal)) at.behind.2)

  exit_sound : (place : ℕ) (e : Option ExprTree) → exit_rule a place ++ optional_condition_faults s e ≡ [] → IsSoundStep h (opened_in items) (statement_step h (statements.Exit place e) items)
  exit_sound place None legal = exit_goes place (front_empty (exit_rule a place) [] legal)
  exit_sound place (Some e) legal =
      at_value h s outer a items (λ b. Unit {0}) at (condition h items e) (λ holds. goes h (cond holds (behind_loop items) items))
      (condition_comes h s outer laws c items e (back_empty (exit_rule a place) (condition_faults s e) legal)) (λ holds i. by_test holds)
    where
      by_test : (holds : Bool) → IsSoundStep h (opened_in items) (goes h (cond holds (behind_loop items) items))
      by_test true = exit_goes place (front_empty (exit_rule a place) (condition_faults s e) legal)
      by_test false = at_goes h s outer a items at

  not_both : (b : Bool) → b ≡ true → b ≡ false → ⊥
  not_both true i j = cc
  not_both false i j = cc

  return_sound : (place : ℕ) (e : Option ExprTree) → stmt_faults s a (statements.Return place e) ≡ [] → IsSoundStep h (opened_in items) (statement_step h (statements.Return place e) items)
  return_sound place None legal = passed_goes (end_of_body items) (returns h.program at.behind.0 outer a items at.behind.2)
  return_sound place (Some e) legal =
      let front = front_empty (rule MISPLACED_STATEMENT place (not (is_function a.kind))) (faults_of s (result_wanted a.kind) e) legal in
      absurd (not_both (is_function a.kind) (not_false (is_function a.kind) (unbroken MISPLACED_STATEMENT place (not (is_function a.kind)) front)) (no_function h.program at.behind.0 outer a items at.behind.2))

  raise_sound : (place : ℕ) (name : Option Identifier) → raise_faults s a place name ≡ [] → IsSoundStep h (opened_in items) (raise_named h name items)
  raise_sound place (Some name) legal =
      let fits = c.own.fits (place_of h items) in
      let x = fits.finds name.name entity.Exception (raised_is name.place (named_entity s name) legal (not_doubtful name)) in
      subst (λ o. IsSoundStep h (opened_in items) (raise_number h o items)) (sym x.1)
      (at_raised h s outer a items at x.0 (number_known h.program name.name x.0 x.1))
  raise_sound place None legal =
      let x = handling h.program at.behind.0 outer a items (not_false a.in_handler (unbroken MISPLACED_STATEMENT place (not a.in_handler) legal)) at.behind.2 in
      subst (λ o. IsSoundStep h (opened_in items) (raise_number h o items)) (sym x.1) (at_raised h s outer a items at x.0 x.2)

  delay_sound : (e : ExprTree) → delay_until_faults s e ≡ []
      → IsSoundStep h (opened_in items) (cond (is_inside_any h.kernel h.task) (raises_predefined h ProgramError items) (with_value h (evaluate h items e) items (delay_until h items)))
  delay_sound e legal =
      let in_e = front_empty (faults_in s (time_wanted s) e) (mismatch s (time_wanted s) (own_of s e) (start_of e)) (front_empty (faults_of s (time_wanted s) e) (time_rule s (own_of s e) (start_of e)) legal) in
      let time =
      time_own s (own_of s e) (start_of e) (known_own h s outer laws c items e (time_wanted s) in_e) (back_empty (faults_of s (time_wanted s) e) (time_rule s (own_of s e) (start_of e)) legal)
      in
      at_chosen h s outer a items (is_inside_any h.kernel h.task) (raises_predefined h ProgramError items) (with_value h (evaluate h items e) items (delay_until h items))
      (λ i. at_refused h s outer a items at ProgramError)
      (λ outside.
      at_value h s outer a items IsNumber at (evaluate h items e) (delay_until h items) (number_comes h s outer laws c items e (time_wanted s) in_e (time_numeric s (own_of s e) time))
      (λ v z.
      subst (λ w. IsSoundStep h (opened_in items) (delay_until h items w)) (sym z.1)
      (worked h s outer c a (Delays z.0) (Goes items) (opened_in items) at.behind.0 at.behind.1 (ready_of h.program h.own at.behind.0 outer a items at.behind.2) (refl, refl, outside) at.held tt)))

  if_sound : (place : ℕ) (e : ExprTree) (body : StmtTrees) (elsifs : ElsifTrees) (others : StmtTrees) → IsFaultless s a (statements.If place e body elsifs others)
      → IsSoundStep h (opened_in items) (statement_step h (statements.If place e body elsifs others) items)
  if_sound place e body elsifs others legal =
      at_value h s outer a items (λ b. Unit {0}) at (condition h items e) (λ holds. goes h (cond holds (before body items) (otherwise place elsifs others items)))
      (condition_comes h s outer laws c items e of_condition) (λ holds i. by_test holds)
    where
      three : condition_faults s e ++ stmts_faults s a body ++ elsifs_faults s a elsifs ≡ []
      three = front_empty (condition_faults s e ++ stmts_faults s a body ++ elsifs_faults s a elsifs) (stmts_faults s a others) legal.0

      two : condition_faults s e ++ stmts_faults s a body ≡ []
      two = front_empty (condition_faults s e ++ stmts_faults s a body) (elsifs_faults s a elsifs) three

      of_condition : condition_faults s e ≡ []
      of_condition = front_empty (condition_faults s e) (stmts_faults s a body) two

      of_others : stmts_faults s a others ≡ []
      of_others = back_empty (condition_faults s e ++ stmts_faults s a body ++ elsifs_faults s a elsifs) (stmts_faults s a others) legal.0

      plain_two : profile.stmts_faults body ++ profile.elsifs_faults elsifs ≡ []
      plain_two = front_empty (profile.stmts_faults body ++ profile.elsifs_faults elsifs) (profile.stmts_faults others) legal.1

      plain_others : profile.stmts_faults others ≡ []
      plain_others = back_empty (profile.stmts_faults body ++ profile.elsifs_faults elsifs) (profile.stmts_faults others) legal.1

      further : (rest : ElsifTrees) → elsifs_faults s a rest ≡ [] → profile.elsifs_faults rest ≡ [] → IsSoundStep h (opened_in items) (goes h (otherwise place rest others items))
      further NoElsifs none plain = at_before h s outer a items at others (of_others, plain_others)
      further (MoreElsifs d then_part rest) none plain =
          let again : IsFaultless s a (statements.If place d then_part rest others) =
          (ap (λ l. l ++ stmts_faults s a others) none ∙ of_others, ap (λ l. l ++ profile.stmts_faults others) plain ∙ plain_others)
          in
          went h s outer c a items (Does (statements.If place d then_part rest others) ∷ items) at.held (s, narrows_same h.program s, (again, at.behind.0, at.behind.1, at.behind.2)) refl

      by_test : (holds : Bool) → IsSoundStep h (opened_in items) (goes h (cond holds (before body items) (otherwise place elsifs others items)))
      by_test true =
          at_before h s outer a items at body (back_empty (condition_faults s e) (stmts_faults s a body) two, front_empty (profile.stmts_faults body) (profile.elsifs_faults elsifs) plain_two)
      by_test false =
          further elsifs (back_empty (condition_faults s e ++ stmts_faults s a body) (elsifs_faults s a elsifs) three) (back_empty (profile.stmts_faults body) (profile.elsifs_faults elsifs) plain_two)

  case_sound : (place : ℕ) (e : ExprTree) (all : AlternativeTrees) → IsFaultless s a (statements.Case place e all)
      → IsSoundStep h (opened_in items) (statement_step h (statements.Case place e all) items)
  case_sound place e all legal =
      let listed = alternatives_faults s a (choices_wanted s (own_of s e)) [] all in
      let two = front_empty (selecting_faults s e ++ listed) (others_rule place all) legal.0 in
      let of_e = front_empty (faults_of s Anything e) (discrete_rule s (own_of s e) (start_of e)) (front_empty (selecting_faults s e) listed two) in
      let in_e = front_empty (faults_in s Anything e) (mismatch s Anything (own_of s e) (start_of e)) of_e in
      let others = not_false (has_others all) (unbroken WRONG_CHOICES place (not (has_others all)) (back_empty (selecting_faults s e ++ listed) (others_rule place all) legal.0)) in
      at_value h s outer a items (λ v. Unit {0}) at (evaluate h items e) (λ v. alternative h (alternative_for (place_of h items) v all) items) (some_value h s outer laws c items e Anything in_e)
      (λ v i. goes_on (alternative_for (place_of h items) v all)
      (alternative_legal s a (choices_wanted s (own_of s e)) [] (place_of h items) v all (back_empty (selecting_faults s e) listed two) legal.1 others))
    where
      goes_on : (o : Option StmtTrees) → IsLegalBody s a o → IsSoundStep h (opened_in items) (alternative h o items)
      goes_on (Some body) l = at_before h s outer a items at body l
      goes_on None l = absurd l

  -- ---- blocks

  block_begins : (t : Scope) (ds : List DeclarationTree) (body : StmtTrees) (all : HandlerTrees) → StandsFirst s t → locals_faults t ds ≡ [] → profile.locals_faults ds ≡ []
      → AreFaultless (locals_scope t ds) a body → AreFaultlessHandlers (locals_scope t ds) a all → Begins h.program t outer a (map Declares ds ++ Sequence body all ∷ items)
  block_begins t [] body all first legal plain l m =
      (l, m, at.behind.0, narrows_then h.program t s at.behind.0 (λ p fits. fits_fewer h.program laws s t p first (agrees_here h s outer c items).sound fits) at.behind.1, at.behind.2)
  block_begins t (d ∷ ds) body all first legal plain l m =
      let next = local_scope t d in (
        (
          front_empty (local_faults t d) (locals_faults next ds) legal,
          front_empty (profile.local_faults d) (profile.locals_faults ds) plain,
        ),
        block_begins next ds body all (laws.added.together s t next first (laws.added.locals t (d ∷ []))) (back_empty (local_faults t d) (locals_faults next ds) legal)
            (back_empty (profile.local_faults d) (profile.locals_faults ds) plain) l m,
        leaves_block h.program t outer a ds body all items
            (leaves_of h.program t outer a items (at.behind.0, narrows_then h.program t s at.behind.0 (λ p fits. fits_fewer h.program laws s t p first (agrees_here h s outer c items).sound fits) at.behind.1, at.behind.2)),
      )

  block_sound : (place : ℕ) (ds : List DeclarationTree) (body : StmtTrees) (all : HandlerTrees) → IsFaultless s a (statements.Block place ds body all)
      → IsSoundStep h (opened_in items) (goes h (map Declares ds ++ Sequence body all ∷ items))
  block_sound place ds body all legal =
      let inner = locals_scope s ds in
      let two = front_empty (locals_faults s ds ++ stmts_faults inner a body) (more_handlers_faults inner a [] all) legal.0 in
      let plain = front_empty (profile.locals_faults ds ++ profile.stmts_faults body) (profile.handlers_faults all) legal.1 in
      let items_begin =
      block_begins s ds body all (laws.added.locals s []) (front_empty (locals_faults s ds) (stmts_faults inner a body) two) (front_empty (profile.locals_faults ds) (profile.stmts_faults body) plain)
      (back_empty (locals_faults s ds) (stmts_faults inner a body) two, back_empty (profile.locals_faults ds) (profile.stmts_faults body) plain) (
        back_empty (locals_faults s ds ++ stmts_faults inner a body) (more_handlers_faults inner a [] all) legal.0,
        back_empty (profile.locals_faults ds ++ profile.stmts_faults body) (profile.handlers_faults all) legal.1,
      )
      in
      let next = map Declares ds ++ Sequence body all ∷ items in
      worked h s outer c a _ (Goes next) (opened_in items) s (narrows_same h.program s) (begins_ready h.program h.own s outer a next items_begin) (opened_block ds body all items, refl)
      (subst (IsHeld h.own.within) (sym (opened_block ds body all items)) at.held) tt

  -- ---- assignments

  found_at_start : (home : Home) (name : List ℕ) (parts : List Part) (t u : Subtype) → subtype_in (objects_at (place_of h items) home) name ≡ Some t
      → subtype_in (objects_of (record { home = home; name = name; parts = parts; subtype = u }) (first_store h.program) h.own) name ≡ Some t
  found_at_start InActivation name parts t u k = k
  found_at_start InPackage name parts t u k = sym (c.store.same.variables name) ∙ k
  found_at_start (InObject o) name parts t u k = sym (c.store.same.components o name) ∙ k

  -- a target of the place is one of the activation, whatever the values in the store are
  pub target_of_place : (w : Standing) (x : Target) → IsNamedTarget s (place_of h items) w x × IsReached h.own.within x.home → IsTarget h.program h.own x
  target_of_place w x is =
      let one = is.0.part in
      record { part = record { whole = one.whole; found = found_at_start x.home x.name x.parts one.whole x.subtype one.found; part = one.part }; reached = is.1 }

  assign_sound : (name : NameTree) (e : ExprTree) → target_faults s name.first name.selectors ++ faults_of s (assigned_wanted s name) e ≡ [] → IsSoundStep h (opened_in items) (assign h name e items)
  assign_sound name e legal =
      at_value h s outer a items (λ x. IsNamedTarget s (place_of h items) w x × IsReached h.own.within x.home) at (target (place_of h items) name.first.name name.selectors)
      (λ x. with_value h (and_then (evaluate h items e) (passed x.subtype)) items (λ v. stores h x v (Goes items)))
      (target_comes s (place_of h items) w (target (place_of h items) name.first.name name.selectors) (target_predefined (place_of h items) name.first.name name.selectors)
      (target_reached (place_of h items) name.first.name name.selectors) named)
      (λ x f.
      at_value h s outer a items (IsOf h.program.scope x.subtype.type_number) at (and_then (evaluate h items e) (passed x.subtype)) (λ v. stores h x v (Goes items))
      (comes_then (IsOf h.program.scope x.subtype.type_number) (IsOf h.program.scope x.subtype.type_number) (evaluate h items e) (passed x.subtype)
      (value_comes h s outer laws c items e x.subtype.type_number f.0.known (subst (λ own. faults_of s (typed_wanted own) e ≡ []) f.0.own legal_value))
      (λ v i. passed_comes (IsOf h.program.scope x.subtype.type_number) x.subtype v i))
      (λ v i.
      stores_sound h s outer laws c a items x v (Goes items) at.behind.0 at.held at.behind.1 (target_of_place w x f) i
      (ready_of h.program (activation_with x v h.own) at.behind.0 outer a items at.behind.2) refl))
    where
      w : Standing
      w = standing_of s name.first name.selectors

      named : NamesTarget s (place_of h items) w (target (place_of h items) name.first.name name.selectors)
      named =
          names_target laws.targets s (place_of h items) name.first name.selectors (agrees_here h s outer c items) (functions_here h s outer c items)
          (front_empty (target_faults s name.first name.selectors) (faults_of s (assigned_wanted s name) e) legal)

      legal_value : faults_of s (assigned_wanted s name) e ≡ []
      legal_value = back_empty (target_faults s name.first name.selectors) (faults_of s (assigned_wanted s name) e) legal

  -- ---- all statements but calls

  pub statement_sound : (x : StmtTree) → IsFaultless s a x → ((name : NameTree) → x ≡ statements.Call name → IsSoundStep h (opened_in items) (statement_step h (statements.Call name) items))
      → IsSoundStep h (opened_in items) (statement_step h x items)
  statement_sound (statements.Null place) legal calls = at_goes h s outer a items at
  statement_sound (statements.Assignment name e) legal calls = assign_sound name e legal.0
  statement_sound (statements.Call name) legal calls = calls name refl
  statement_sound (statements.Exit place e) legal calls = exit_sound place e legal.0
  statement_sound (statements.Return place e) legal calls = return_sound place e legal.0
  statement_sound (statements.Raise place name) legal calls = raise_sound place name legal.0
  statement_sound (statements.Delay place e) legal calls = cc
  statement_sound (statements.DelayUntil place e) legal calls = delay_sound e legal.0
  statement_sound (statements.If place e body elsifs others) legal calls = if_sound place e body elsifs others legal
  statement_sound (statements.Case place e all) legal calls = case_sound place e all legal
  statement_sound (statements.Loop place iteration body) legal calls =
      loop_sound h s outer laws c a items at iteration body (front_empty (iteration_faults s iteration) (stmts_faults (iteration_scope s iteration) (in_loop a) body) legal.0)
      (back_empty (iteration_faults s iteration) (stmts_faults (iteration_scope s iteration) (in_loop a) body) legal.0) legal.1
  statement_sound (statements.Block place declarations body all) legal calls = block_sound place declarations body all legal
  statement_sound (statements.Abort place name) legal calls = cc
  statement_sound (statements.Requeue place first second) legal calls = cc
  statement_sound (statements.Accept place name) legal calls = cc
  statement_sound (statements.Select place) legal calls = cc
