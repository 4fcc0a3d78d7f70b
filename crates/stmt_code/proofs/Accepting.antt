-- What statements that break no rule and no restriction have where they stand in loops, handlers and bodies: ways out; and exceptions with numbers.
use Rattle.std.proofs.Common.{◌≡◌, ◌++◌, ℕ, [], ◌∷◌, List, Bool, true, ◌||◌, ◌&&◌, not, Option, Some, None, refl}
use Rattle.std.specs.Prelude.{◌≢◌, is_some}
use Rattle.std.proofs.lemmas.Bool.{and_from, or_left, or_right}
use Rattle.base.specs.declared.faults.TheConstants.{MISPLACED_STATEMENT}
use Rattle.ada_tree.specs.declared.expression.Identifier.{Identifier}
use Rattle.ada_tree.specs.declared.statement.ExceptionChoice.{ExceptionChoice}
use Rattle.ada_tree.specs.declared.statement.ExceptionChoice.TheVariants as choice
use Rattle.ada_tree.specs.StatementTree.{DeclarationTree, HandlerTrees, Raise, StmtTrees}
use Rattle.types.specs.Entities.{Doubtful, Entity, Exception}
use Rattle.types.specs.Scopes.{Scope, number_of}
use Rattle.declaration_rules.specs.LocalRules.{locals_scope}
use Rattle.expr_soundness.specs.expr_rules.specs.Faults.{Faults}
use Rattle.expr_soundness.specs.expr_rules.proofs.TypedLaw.{back_empty, front_empty, unbroken}
use Rattle.expr_soundness.specs.SoundScopes.{SoundScope}
use Rattle.expr_soundness.proofs.Expressions.{not_false}
use Rattle.type_rules.specs.SubtypeNames.{entity_at_or_none}
use Rattle.part_code.specs.step_soundness.specs.Fitting.{entity_named}
use Rattle.part_code.specs.step_soundness.specs.body_restrictions.specs.BodyRules as restrictions
use Rattle.part_code.specs.stmt_rules.specs.declared.around.Around.{Around}
use Rattle.part_code.specs.stmt_rules.specs.declared.around.BodyKind.{BodyKind}
use Rattle.part_code.specs.stmt_rules.specs.declared.around.BodyKind.TheVariants as kinds
use Rattle.part_code.specs.stmt_rules.specs.HandlerRules.{exception_choice_faults, exception_choices_faults, exception_rule, is_named, named_with}
use Rattle.part_code.specs.stmt_rules.specs.SimpleRules.{raised_rule}
use Rattle.part_code.specs.stmt_rules.specs.StatementRules.{in_body, in_handler, in_loop}
use Rattle.part_code.specs.Providing.{HasWhatCodeNeeds}
use Rattle.part_code.specs.Raising.{are_numbered, choice_number, loaded, number_among, pushed, raised_by}
use Rattle.part_code.specs.Statements.{Ways, with_exit, within_handler}
use Rattle.expr_code.specs.declared.visible.Visible.{Visible}
use Rattle.stmt_code.specs.Emitting.{AreAcceptedHandlers, AreAcceptedStatements, HasWays, IsAcceptedRun, IsAcceptedStatement}
use Rattle.stmt_code.specs.Leaves.{any_leave, handlers_leave, is_return}
use Rattle.stmt_code.specs.declared.leaves.WayOut.{WayOut}
use Rattle.stmt_code.specs.declared.leaves.WayOut.TheVariants as way

-- ---- ways out

-- of a loop, whose own exits lead behind it
pub ways_in_loop : (w : Ways) (a : Around) (taken : WayOut → Bool) (exit : Option ℕ) → (taken way.Exit ≡ true → is_some exit ≡ true)
    → HasWays w a (λ q. is_return q && taken q) → HasWays (with_exit exit w) (in_loop a) taken
ways_in_loop w a taken exit there h =
    record { exit = λ inside is. there is; return = λ is. h.return is; handled = h.handled; gives_nothing = h.gives_nothing }

pub ways_in_handler : (w : Ways) (a : Around) (taken : WayOut → Bool) (word : ℕ) → HasWays w a taken → HasWays (within_handler word w) (in_handler a) taken
ways_in_handler w a taken word h = record { exit = h.exit; return = h.return; handled = λ is. refl; gives_nothing = h.gives_nothing }

-- a part takes only what the whole does
pub ways_for : (w : Ways) (a : Around) (whole part : WayOut → Bool) → ((q : WayOut) → part q ≡ true → whole q ≡ true) → HasWays w a whole → HasWays w a part
ways_for w a whole part up h = record {
  exit = λ inside is. h.exit inside (up way.Exit is);
  return = λ is. h.return (up way.Return is);
  handled = h.handled;
  gives_nothing = h.gives_nothing;
}

pub ways_left : (w : Ways) (a : Around) (x y : WayOut → Bool) → HasWays w a (λ q. x q || y q) → HasWays w a x
ways_left w a x y h = ways_for w a (λ q. x q || y q) x (λ q. or_left (x q) (y q)) h

pub ways_right : (w : Ways) (a : Around) (x y : WayOut → Bool) → HasWays w a (λ q. x q || y q) → HasWays w a y
ways_right w a x y h = ways_for w a (λ q. x q || y q) y (λ q. or_right (x q) (y q)) h

-- in a body nothing else is around
pub ways_in_body : (kind : BodyKind) (taken : WayOut → Bool) (out : Option ℕ) → ((t : Option ℕ) → kind ≢ kinds.Function t)
    → (taken way.Return ≡ true → is_some out ≡ true)
    → HasWays (record { exit = None; return = out; handled = None }) (in_body kind) taken
ways_in_body kind taken out gives_nothing there =
    record { exit = λ inside is. absurd cc; return = there; handled = λ is. absurd cc; gives_nothing = gives_nothing }

-- ---- exceptions

module _ (s : Scope) (sound : SoundScope s) where
  never_doubtful : (name : List ℕ) → entity_named s name ≡ Some Doubtful → ⊥
  never_doubtful name h = by_number (number_of s name) h
    where
      by_number : (o : Option ℕ) → entity_at_or_none s o ≡ Some Doubtful → ⊥
      by_number (Some n) k = sound.each n Doubtful k
      by_number None k = absurd cc

  raised_named : (name : List ℕ) (place : ℕ) (o : Option Entity) → entity_named s name ≡ o → raised_rule place o ≡ [] → entity_named s name ≡ Some Exception
  raised_named name place None is h = absurd cc
  raised_named name place (Some Exception) is h = is
  raised_named name place (Some Doubtful) is h = absurd (never_doubtful name is)
  raised_named name place (Some e) is h = absurd cc

  handled_named : (name : List ℕ) (place : ℕ) (repeated : Bool) (o : Option Entity) → entity_named s name ≡ o → exception_rule place repeated o ≡ []
      → entity_named s name ≡ Some Exception
  handled_named name place repeated None is h = absurd cc
  handled_named name place repeated (Some Exception) is h = is
  handled_named name place repeated (Some Doubtful) is h = absurd (never_doubtful name is)
  handled_named name place repeated (Some e) is h = absurd cc

module _ (exceptions : List (List ℕ)) (v : Visible) (sound : SoundScope v.scope) (covered : HasWhatCodeNeeds exceptions v) where
  one_numbered : (before : List (List ℕ)) (single : Bool) (c : ExceptionChoice) → exception_choice_faults v.scope before single c ≡ []
      → is_some (choice_number exceptions c) ≡ true
  one_numbered before single (choice.Exception name) h =
      covered.raised name.name (handled_named v.scope sound name.name name.place (is_named before name.name) (entity_named v.scope name.name) refl h)
  one_numbered before single (choice.Others place) h = refl

  pub all_numbered : (before : List (List ℕ)) (single : Bool) (cs : List ExceptionChoice) → exception_choices_faults v.scope before single cs ≡ []
      → are_numbered exceptions cs ≡ true
  all_numbered before single [] h = refl
  all_numbered before single (c ∷ cs) h =
      let here = exception_choice_faults v.scope before single c in
      let later = exception_choices_faults v.scope (named_with before c) single cs in
      and_from (is_some (choice_number exceptions c)) (are_numbered exceptions cs) (one_numbered before single c (front_empty here later h))
      (all_numbered (named_with before c) single cs (back_empty here later h))

  none_pushed : (o : Option ℕ) → is_some o ≡ true → pushed o ≡ None → ⊥
  none_pushed (Some n) h k = cc
  none_pushed None h k = cc

  none_loaded : (o : Option ℕ) → is_some o ≡ true → loaded o ≡ None → ⊥
  none_loaded (Some n) h k = cc
  none_loaded None h k = cc

  -- what is raised has an instruction that puts it on the operand stack
  pub raised_there : (w : Ways) (place : ℕ) (o : Option Identifier) → IsAcceptedStatement v.scope w (Raise place o)
      → raised_by exceptions w.handled o ≡ None → ⊥
  raised_there w place (Some name) h none =
      none_pushed (number_among exceptions name.name)
      (covered.raised name.name (raised_named v.scope sound name.name name.place (entity_named v.scope name.name) refl h.unbroken)) none
  raised_there w place None h none =
      none_loaded w.handled (h.ways.handled (not_false h.around.in_handler (unbroken MISPLACED_STATEMENT place (not h.around.in_handler) h.unbroken))) none

-- ---- bodies

module _ (s : Scope) (ds : List DeclarationTree) (body : StmtTrees) (all : HandlerTrees) (h : IsAcceptedRun s ds body all) where
  abbrev forbidden : Faults
  forbidden = restrictions.locals_faults ds ++ restrictions.stmts_faults body

  two_allowed : forbidden ≡ []
  two_allowed = front_empty forbidden (restrictions.handlers_faults all) h.restricted

  pub run_allowed : restrictions.locals_faults ds ≡ []
  run_allowed = front_empty (restrictions.locals_faults ds) (restrictions.stmts_faults body) two_allowed

  module _ (out : Option ℕ) (there : (any_leave body way.Return || handlers_leave all way.Return) ≡ true → is_some out ≡ true) where
    abbrev inside : Ways
    inside = record { exit = None; return = out; handled = None }

    pub run_statements : AreAcceptedStatements (locals_scope s ds) inside body
    run_statements = record {
      around = in_body h.kind;
      ways = ways_in_body h.kind (any_leave body) out h.gives_nothing (λ is. there (or_left (any_leave body way.Return) (handlers_leave all way.Return) is));
      unbroken = h.statements;
      restricted = back_empty (restrictions.locals_faults ds) (restrictions.stmts_faults body) two_allowed;
    }

    pub run_handlers : AreAcceptedHandlers (locals_scope s ds) inside all
    run_handlers = record {
      around = in_body h.kind;
      ways = ways_in_body h.kind (handlers_leave all) out h.gives_nothing (λ is. there (or_right (any_leave body way.Return) (handlers_leave all way.Return) is));
      before = [];
      unbroken = h.handled;
      restricted = back_empty forbidden (restrictions.handlers_faults all) h.restricted;
    }
