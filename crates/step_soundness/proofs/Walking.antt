-- What is left of judged items by `exit`, `return` and `raise`, and the handlers among them.
use Rattle.std.proofs.Common.{◌≡◌, ℕ, List, [], ◌∷◌, ◌++◌, Bool, true, false, Option, Some, None, cond, refl}
use Rattle.std.specs.Prelude.{◌&&◌}
use Rattle.expr_soundness.specs.ada_tree.specs.StatementTree.{HandlerTrees, NoHandlers, MoreHandlers, StmtTrees}
use Rattle.expr_soundness.specs.types.specs.Scopes.{Scope}
use Rattle.stmt_rules.specs.declared.around.Around.{Around}
use Rattle.stmt_rules.specs.HandlerRules.{exception_choices_faults, is_single, named_after, no_more}
use Rattle.stmt_rules.specs.StatementRules.{in_handler, more_handlers_faults, stmts_faults}
use Rattle.body_restrictions.specs.BodyRules as profile
use Rattle.expr_soundness.specs.expr_rules.proofs.TypedLaw.{back_empty, front_empty}
use Rattle.expr_soundness.specs.meaning.specs.Programs.{Program}
use Rattle.step_soundness.specs.Objects.{IsException}
use Rattle.expr_soundness.specs.meaning.specs.Works.{Item, Declares, DeclaresParameter, Sequence, Does, DoesMain, Repeats, RepeatsWhile, RepeatsFor, Handles, EndsHandler, EndsCall, EndsAction, EndsServed, Queued}
use Rattle.expr_soundness.specs.meaning.specs.SourceSteps.{behind_loop, end_of_body, handled_exception, handler_for, some_covers}
use Rattle.stmt_rules.specs.SimpleRules.{is_function}
use Rattle.step_soundness.specs.Opened.{opened_in}
use Rattle.step_soundness.specs.Judged.{AreFaultless, Judged, Waiting}
use Rattle.step_soundness.specs.Fitting.{Narrows}
use Rattle.step_soundness.proofs.Sights.{narrows_same, narrows_then}

not_both : (b : Bool) → b ≡ true → b ≡ false → ⊥
not_both true h i = cc
not_both false h i = cc

module _ (program : Program) where
  -- where the task goes on, behind what was left
  abbrev pub Passed : Scope → List Waiting → (items next : List Item) → Type 0
  Passed s outer items next = (later : Scope) × (a : Around) × Narrows program s later × Judged program later outer a next × (opened_in next ≡ opened_in items)

  further : (s later : Scope) (outer : List Waiting) (items next : List Item) → Narrows program s later → Passed later outer items next → Passed s outer items next
  further s later outer items next narrows p = (p.0, p.1, narrows_then program s later p.0 narrows p.2, p.3, p.4)

  pub exits : (s : Scope) (outer : List Waiting) (a : Around) (items : List Item) → a.in_loop ≡ true → Judged program s outer a items → Passed s outer items (behind_loop items)
  exits s [] a [] inner j = absurd (not_both a.in_loop inner j.loop)
  exits s (w ∷ outer) a [] inner j = absurd j
  exits s outer a (Does x ∷ items) inner j = further s j.1 outer items (behind_loop items) j.2 (exits j.1 outer a items inner j.3)
  exits s outer a (DoesMain x ∷ items) inner j = exits s outer a items inner j.1
  exits s outer a (Repeats body ∷ items) inner j = (j.1, record a { in_loop = j.2 }, j.3, j.4, refl)
  exits s outer a (RepeatsWhile e body ∷ items) inner j = (j.2, record a { in_loop = j.3 }, j.4, j.5, refl)
  exits s outer a (RepeatsFor parameter reversed now last body ∷ items) inner j = (j.6, record a { in_loop = j.7 }, narrows_then program s j.0 j.6 j.2 j.8, j.9, refl)
  exits s outer a (Handles all ∷ items) inner j = further s j.1 outer items (behind_loop items) j.2 (exits j.1 outer a items inner j.3)
  exits s outer a (EndsHandler x ∷ items) inner j = further s j.1 outer items (behind_loop items) j.3 (exits j.1 outer (record a { in_handler = j.2 }) items inner j.4)
  exits s [] a (EndsCall names opened xs ∷ items) inner j = absurd j
  exits s (w ∷ outer) a (EndsCall names opened xs ∷ items) inner j = absurd (not_both a.in_loop inner j.0.loop)
  exits s [] a (EndsServed o names completion ∷ items) inner j = absurd j
  exits s (w ∷ outer) a (EndsServed o names completion ∷ items) inner j = absurd (not_both a.in_loop inner j.0.loop)
  exits s outer a (Declares d ∷ items) inner j = absurd j
  exits s outer a (DeclaresParameter f ∷ items) inner j = absurd j
  exits s outer a (Sequence body all ∷ items) inner j = absurd j
  exits s outer a (EndsAction o completion ∷ items) inner j = absurd j
  exits s outer a (Queued q vs xs ∷ items) inner j = absurd j

  pub returns : (s : Scope) (outer : List Waiting) (a : Around) (items : List Item) → Judged program s outer a items → Passed s outer items (end_of_body items)
  returns s [] a [] j = (s, a, narrows_same program s, j, refl)
  returns s (w ∷ outer) a [] j = absurd j
  returns s outer a (Does x ∷ items) j = further s j.1 outer items (end_of_body items) j.2 (returns j.1 outer a items j.3)
  returns s outer a (DoesMain x ∷ items) j = returns s outer a items j.1
  returns s outer a (Repeats body ∷ items) j = further s j.1 outer items (end_of_body items) j.3 (returns j.1 outer (record a { in_loop = j.2 }) items j.4)
  returns s outer a (RepeatsWhile e body ∷ items) j = further s j.2 outer items (end_of_body items) j.4 (returns j.2 outer (record a { in_loop = j.3 }) items j.5)
  returns s outer a (RepeatsFor parameter reversed now last body ∷ items) j = further s j.6 outer items (end_of_body items) (narrows_then program s j.0 j.6 j.2 j.8) (returns j.6 outer (record a { in_loop = j.7 }) items j.9)
  returns s outer a (Handles all ∷ items) j = further s j.1 outer items (end_of_body items) j.2 (returns j.1 outer a items j.3)
  returns s outer a (EndsHandler x ∷ items) j = further s j.1 outer items (end_of_body items) j.3 (returns j.1 outer (record a { in_handler = j.2 }) items j.4)
  returns s outer a (EndsCall names opened xs ∷ items) j = (s, a, narrows_same program s, j, refl)
  returns s outer a (EndsServed o names completion ∷ items) j = (s, a, narrows_same program s, j, refl)
  returns s outer a (Declares d ∷ items) j = absurd j
  returns s outer a (DeclaresParameter f ∷ items) j = absurd j
  returns s outer a (Sequence body all ∷ items) j = absurd j
  returns s outer a (EndsAction o completion ∷ items) j = absurd j
  returns s outer a (Queued q vs xs ∷ items) j = absurd j

  -- the exception that is handled
  pub handling : (s : Scope) (outer : List Waiting) (a : Around) (items : List Item) → a.in_handler ≡ true → Judged program s outer a items
      → (x : ℕ) × (handled_exception items ≡ Some x) × IsException program x
  handling s [] a [] inner j = absurd (not_both a.in_handler inner j.handler)
  handling s (w ∷ outer) a [] inner j = absurd j
  handling s outer a (Does x ∷ items) inner j = handling j.1 outer a items inner j.3
  handling s outer a (DoesMain x ∷ items) inner j = handling s outer a items inner j.1
  handling s outer a (Repeats body ∷ items) inner j = handling j.1 outer (record a { in_loop = j.2 }) items inner j.4
  handling s outer a (RepeatsWhile e body ∷ items) inner j = handling j.2 outer (record a { in_loop = j.3 }) items inner j.5
  handling s outer a (RepeatsFor parameter reversed now last body ∷ items) inner j = handling j.6 outer (record a { in_loop = j.7 }) items inner j.9
  handling s outer a (Handles all ∷ items) inner j = handling j.1 outer a items inner j.3
  handling s outer a (EndsHandler x ∷ items) inner j = (x, refl, j.0)
  handling s [] a (EndsCall names opened xs ∷ items) inner j = absurd j
  handling s (w ∷ outer) a (EndsCall names opened xs ∷ items) inner j = absurd (not_both a.in_handler inner j.0.handler)
  handling s [] a (EndsServed o names completion ∷ items) inner j = absurd j
  handling s (w ∷ outer) a (EndsServed o names completion ∷ items) inner j = absurd (not_both a.in_handler inner j.0.handler)
  handling s outer a (Declares d ∷ items) inner j = absurd j
  handling s outer a (DeclaresParameter f ∷ items) inner j = absurd j
  handling s outer a (Sequence body all ∷ items) inner j = absurd j
  handling s outer a (EndsAction o completion ∷ items) inner j = absurd j
  handling s outer a (Queued q vs xs ∷ items) inner j = absurd j

  -- no function's body is worked by items
  pub no_function : (s : Scope) (outer : List Waiting) (a : Around) (items : List Item) → Judged program s outer a items → is_function a.kind ≡ false
  no_function s [] a [] j = j.kind
  no_function s (w ∷ outer) a [] j = absurd j
  no_function s outer a (Does x ∷ items) j = no_function j.1 outer a items j.3
  no_function s outer a (DoesMain x ∷ items) j = no_function s outer a items j.1
  no_function s outer a (Repeats body ∷ items) j = no_function j.1 outer (record a { in_loop = j.2 }) items j.4
  no_function s outer a (RepeatsWhile e body ∷ items) j = no_function j.2 outer (record a { in_loop = j.3 }) items j.5
  no_function s outer a (RepeatsFor parameter reversed now last body ∷ items) j = no_function j.6 outer (record a { in_loop = j.7 }) items j.9
  no_function s outer a (Handles all ∷ items) j = no_function j.1 outer a items j.3
  no_function s outer a (EndsHandler x ∷ items) j = no_function j.1 outer (record a { in_handler = j.2 }) items j.4
  no_function s [] a (EndsCall names opened xs ∷ items) j = absurd j
  no_function s (w ∷ outer) a (EndsCall names opened xs ∷ items) j = j.0.kind
  no_function s [] a (EndsServed o names completion ∷ items) j = absurd j
  no_function s (w ∷ outer) a (EndsServed o names completion ∷ items) j = j.0.kind
  no_function s outer a (Declares d ∷ items) j = absurd j
  no_function s outer a (DeclaresParameter f ∷ items) j = absurd j
  no_function s outer a (Sequence body all ∷ items) j = absurd j
  no_function s outer a (EndsAction o completion ∷ items) j = absurd j
  no_function s outer a (Queued q vs xs ∷ items) j = absurd j

  -- ---- handlers

  -- the statements of the handler that is found break no rule
  abbrev pub IsLegalHandler : Scope → Around → Option StmtTrees → Type 0
  IsLegalHandler s a (Some body) = AreFaultless s (in_handler a) body
  IsLegalHandler s a None = Unit {0}

  handler_legal : (s : Scope) (a : Around) (before : List (List ℕ)) (x : ℕ) (all : HandlerTrees) → more_handlers_faults s a before all ≡ [] → profile.handlers_faults all ≡ []
      → IsLegalHandler s a (handler_for program x all)
  handler_legal s a before x NoHandlers h i = tt
  handler_legal s a before x (MoreHandlers choices body rest) h i =
      let named = exception_choices_faults s before (is_single choices && no_more rest) choices in
      let others = more_handlers_faults s a (named_after before choices) rest in
      let front = front_empty (named ++ stmts_faults s (in_handler a) body) others h in
      let back = back_empty (named ++ stmts_faults s (in_handler a) body) others h in
      by_test (some_covers program x choices) (back_empty named (stmts_faults s (in_handler a) body) front, front_empty (profile.stmts_faults body) (profile.handlers_faults rest) i)
      (handler_legal s a (named_after before choices) x rest back (back_empty (profile.stmts_faults body) (profile.handlers_faults rest) i))
    where
      by_test : (b : Bool) → AreFaultless s (in_handler a) body → IsLegalHandler s a (handler_for program x rest) → IsLegalHandler s a (cond b (Some body) (handler_for program x rest))
      by_test true legal further = legal
      by_test false legal further = further

  pub handler_found : (s : Scope) (a : Around) (x : ℕ) (all : HandlerTrees) → more_handlers_faults s a [] all ≡ [] → profile.handlers_faults all ≡ [] → IsLegalHandler s a (handler_for program x all)
  handler_found s a x all h i = handler_legal s a [] x all h i
