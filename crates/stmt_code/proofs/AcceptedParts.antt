-- Statements that break no rule have parts that break none: the first of several and the others, of each kind.
use Rattle.std.proofs.Common.{◌≡◌, ◌++◌, ◌&&◌, ℕ, List, []}
use Rattle.ada_tree.specs.declared.statement.ExceptionChoice.{ExceptionChoice}
use Rattle.ada_tree.specs.ExpressionTree.{ExprTree}
use Rattle.ada_tree.specs.StatementTree.{AlternativeTrees, ChoicesTree, ElsifTrees, HandlerTrees, MoreAlternatives, MoreElsifs, MoreHandlers, MoreStmts, StmtTree, StmtTrees}
use Rattle.types.specs.Scopes.{Scope}
use Rattle.expr_soundness.specs.expr_rules.specs.Faults.{Faults}
use Rattle.expr_soundness.specs.expr_rules.specs.Typing.{own_of}
use Rattle.expr_soundness.specs.expr_rules.proofs.TypedLaw.{back_empty, front_empty}
use Rattle.part_code.specs.step_soundness.specs.body_restrictions.specs.BodyRules as restrictions
use Rattle.part_code.specs.stmt_rules.specs.CaseRules as cases
use Rattle.part_code.specs.stmt_rules.specs.CaseRules.{choices_faults, choices_wanted, chosen_by}
use Rattle.part_code.specs.stmt_rules.specs.HandlerRules as handlers
use Rattle.part_code.specs.stmt_rules.specs.HandlerRules.{exception_choices_faults, is_single, named_after}
use Rattle.part_code.specs.stmt_rules.specs.SimpleRules.{condition_faults}
use Rattle.part_code.specs.stmt_rules.specs.StatementRules as rules
use Rattle.part_code.specs.stmt_rules.specs.StatementRules.{alternatives_faults, elsifs_faults, more_handlers_faults, stmt_faults, stmts_faults}
use Rattle.part_code.specs.Choices.{AreLegalChoices}
use Rattle.part_code.specs.Statements.{Ways, within_handler}
use Rattle.stmt_code.specs.Alternatives.{AreAcceptedAlternatives}
use Rattle.stmt_code.specs.Emitting.{AreAcceptedElsifs, AreAcceptedHandlers, AreAcceptedStatements, IsAcceptedStatement}
use Rattle.stmt_code.specs.Leaves.{alternatives_leave, any_leave, elsifs_leave, handlers_leave, leaves}
use Rattle.stmt_code.proofs.Accepting.{ways_in_handler, ways_left, ways_right}

-- ---- statements

module _ (s : Scope) (w : Ways) (x : StmtTree) (rest : StmtTrees) (h : AreAcceptedStatements s w (MoreStmts x rest)) where
  pub first_statement : IsAcceptedStatement s w x
  first_statement = record {
    around = h.around;
    ways = ways_left w h.around (leaves x) (any_leave rest) h.ways;
    unbroken = front_empty (stmt_faults s h.around x) (stmts_faults s h.around rest) h.unbroken;
    restricted = front_empty (restrictions.stmt_faults x) (restrictions.stmts_faults rest) h.restricted;
  }

  pub more_statements : AreAcceptedStatements s w rest
  more_statements = record {
    around = h.around;
    ways = ways_right w h.around (leaves x) (any_leave rest) h.ways;
    unbroken = back_empty (stmt_faults s h.around x) (stmts_faults s h.around rest) h.unbroken;
    restricted = back_empty (restrictions.stmt_faults x) (restrictions.stmts_faults rest) h.restricted;
  }

-- ---- parts of an `if`

module _ (s : Scope) (w : Ways) (e : ExprTree) (body : StmtTrees) (rest : ElsifTrees) (h : AreAcceptedElsifs s w (MoreElsifs e body rest)) where
  two : condition_faults s e ++ stmts_faults s h.around body ≡ []
  two = front_empty (condition_faults s e ++ stmts_faults s h.around body) (elsifs_faults s h.around rest) h.unbroken

  pub elsif_condition : condition_faults s e ≡ []
  elsif_condition = front_empty (condition_faults s e) (stmts_faults s h.around body) two

  pub elsif_body : AreAcceptedStatements s w body
  elsif_body = record {
    around = h.around;
    ways = ways_left w h.around (any_leave body) (elsifs_leave rest) h.ways;
    unbroken = back_empty (condition_faults s e) (stmts_faults s h.around body) two;
    restricted = front_empty (restrictions.stmts_faults body) (restrictions.elsifs_faults rest) h.restricted;
  }

  pub more_elsifs : AreAcceptedElsifs s w rest
  more_elsifs = record {
    around = h.around;
    ways = ways_right w h.around (any_leave body) (elsifs_leave rest) h.ways;
    unbroken = back_empty (condition_faults s e ++ stmts_faults s h.around body) (elsifs_faults s h.around rest) h.unbroken;
    restricted = back_empty (restrictions.stmts_faults body) (restrictions.elsifs_faults rest) h.restricted;
  }

-- ---- alternatives

module _ (s : Scope) (w : Ways) (e : ExprTree) (place : ℕ) (choices : ChoicesTree) (body : StmtTrees) (rest : AlternativeTrees)
    (h : AreAcceptedAlternatives s w e (MoreAlternatives place choices body rest)) where
  abbrev of_choices : Faults
  of_choices = choices_faults s (choices_wanted s (own_of s e)) h.before (cases.no_more rest) choices

  abbrev of_later : Faults
  of_later = alternatives_faults s h.around (choices_wanted s (own_of s e)) (chosen_by s (choices_wanted s (own_of s e)) h.before choices) rest

  both : of_choices ++ stmts_faults s h.around body ≡ []
  both = front_empty (of_choices ++ stmts_faults s h.around body) of_later h.unbroken

  pub alternative_choices : AreLegalChoices s e choices
  alternative_choices =
      record { before = h.before; is_last = cases.no_more rest; unbroken = front_empty of_choices (stmts_faults s h.around body) both }

  pub alternative_body : AreAcceptedStatements s w body
  alternative_body = record {
    around = h.around;
    ways = ways_left w h.around (any_leave body) (alternatives_leave rest) h.ways;
    unbroken = back_empty of_choices (stmts_faults s h.around body) both;
    restricted = front_empty (restrictions.stmts_faults body) (restrictions.alternatives_faults rest) h.restricted;
  }

  pub more_alternatives : AreAcceptedAlternatives s w e rest
  more_alternatives = record {
    around = h.around;
    ways = ways_right w h.around (any_leave body) (alternatives_leave rest) h.ways;
    before = chosen_by s (choices_wanted s (own_of s e)) h.before choices;
    unbroken = back_empty (of_choices ++ stmts_faults s h.around body) of_later h.unbroken;
    restricted = back_empty (restrictions.stmts_faults body) (restrictions.alternatives_faults rest) h.restricted;
  }

-- ---- handlers

module _ (s : Scope) (w : Ways) (choices : List ExceptionChoice) (body : StmtTrees) (rest : HandlerTrees)
    (h : AreAcceptedHandlers s w (MoreHandlers choices body rest)) where
  abbrev of_exceptions : Faults
  of_exceptions = exception_choices_faults s h.before (is_single choices && handlers.no_more rest) choices

  abbrev of_others : Faults
  of_others = more_handlers_faults s h.around (named_after h.before choices) rest

  each : of_exceptions ++ stmts_faults s (rules.in_handler h.around) body ≡ []
  each = front_empty (of_exceptions ++ stmts_faults s (rules.in_handler h.around) body) of_others h.unbroken

  pub handler_choices : exception_choices_faults s h.before (is_single choices && handlers.no_more rest) choices ≡ []
  handler_choices = front_empty of_exceptions (stmts_faults s (rules.in_handler h.around) body) each

  pub handler_body : (word : ℕ) → AreAcceptedStatements s (within_handler word w) body
  handler_body word = record {
    around = rules.in_handler h.around;
    ways = ways_in_handler w h.around (any_leave body) word (ways_left w h.around (any_leave body) (handlers_leave rest) h.ways);
    unbroken = back_empty of_exceptions (stmts_faults s (rules.in_handler h.around) body) each;
    restricted = front_empty (restrictions.stmts_faults body) (restrictions.handlers_faults rest) h.restricted;
  }

  pub more_handlers : AreAcceptedHandlers s w rest
  more_handlers = record {
    around = h.around;
    ways = ways_right w h.around (any_leave body) (handlers_leave rest) h.ways;
    before = named_after h.before choices;
    unbroken = back_empty (of_exceptions ++ stmts_faults s (rules.in_handler h.around) body) of_others h.unbroken;
    restricted = back_empty (restrictions.stmts_faults body) (restrictions.handlers_faults rest) h.restricted;
  }
