-- What statements and handlers break has numbers from 10 to 23.
use Rattle.std.proofs.Common.{ℕ, refl, Bool, true, List, [], ◌∷◌, Option, Some, None}
use Rattle.std.specs.Prelude.{not, ◌&&◌}
use Rattle.base.specs.declared.faults.TheConstants.{MISPLACED_STATEMENT, NAME_NOT_VISIBLE, NO_MEANING, WRONG_CHOICES, WRONG_HANDLER}
use Rattle.ada_tree.specs.declared.expression.Identifier.{Identifier}
use Rattle.ada_tree.specs.declared.statement.ExceptionChoice.{ExceptionChoice}
use Rattle.ada_tree.specs.declared.statement.ExceptionChoice.TheVariants as choice
use Rattle.ada_tree.specs.ExpressionTree.{ExprTree, NameTree}
use Rattle.ada_tree.specs.StatementTree.{AlternativeTrees, NoAlternatives, MoreAlternatives, ChoicesTree, Values, OtherValues, ElsifTrees, NoElsifs, MoreElsifs, HandlerTrees, NoHandlers, MoreHandlers, IterationTree, Forever, While, For, StmtTree, Assignment, Block, Call, Case, Delay, DelayUntil, Exit, If, Loop, Raise, Return, StmtTrees, NoStmts, MoreStmts}
use Rattle.types.specs.declared.entity.Value.{Value as Scalar}
use Rattle.types.specs.Entities.{Entity, Exception, Doubtful}
use Rattle.types.specs.Scopes.{Scope, integer_type}
use Rattle.types.specs.Statics.{start_of}
use Rattle.expr_rules.specs.declared.own.Own.{Own}
use Rattle.expr_rules.specs.declared.own.Own.TheVariants.{Unknown}
use Rattle.expr_rules.specs.declared.own.Wanted.{Wanted}
use Rattle.expr_rules.specs.declared.own.Wanted.TheVariants.{Anything, OfType}
use Rattle.expr_rules.specs.Typing.{boolean_wanted, is_time, own_of}
use Rattle.declaration_rules.specs.LocalRules.{locals_scope}
use Rattle.type_rules.specs.SubtypeNames.{named_entity}
use Rattle.stmt_rules.specs.declared.around.Around.{Around}
use Rattle.stmt_rules.specs.SimpleRules.{assigned_wanted, assignment_faults, condition_faults, delay_until_faults, exit_rule, optional_condition_faults, raise_faults, raised_rule, result_wanted, return_faults, simple_faults, time_rule, time_wanted}
use Rattle.stmt_rules.specs.CaseRules as alternatives
use Rattle.stmt_rules.specs.CaseRules.{choice_faults, choice_value, choices_faults, choices_wanted, chosen_by, chosen_with, discrete_rule, is_discrete, others_rule, selecting_faults, values_faults}
use Rattle.stmt_rules.specs.HandlerRules as handlers
use Rattle.stmt_rules.specs.HandlerRules.{exception_choice_faults, exception_choices_faults, exception_rule, is_named, is_single, named_after, named_with}
use Rattle.stmt_rules.specs.StatementRules.{alternatives_faults, elsifs_faults, in_handler, in_loop, iteration_faults, iteration_scope, more_handlers_faults, sequence_faults, stmt_faults, stmts_faults}
use Rattle.fault_numbers.proofs.Ranges.{Legality, ◌⊕◌, asked, none}
use Rattle.fault_numbers.proofs.Expressions.{of_call, of_expression, of_static, of_target}
use Rattle.fault_numbers.proofs.Declarations.{of_locals, of_loop}

-- ---- simple statements

pub of_condition : (s : Scope) (e : ExprTree) → Legality (condition_faults s e)
of_condition s e = of_expression s boolean_wanted e

of_optional_condition : (s : Scope) (e : Option ExprTree) → Legality (optional_condition_faults s e)
of_optional_condition s (Some e) = of_condition s e
of_optional_condition s None = none

of_assignment : (s : Scope) (target : NameTree) (value : ExprTree) → Legality (assignment_faults s target value)
of_assignment s target value = of_target s target.first target.selectors ⊕ of_expression s (assigned_wanted s target) value

of_exit : (a : Around) (place : ℕ) → Legality (exit_rule a place)
of_exit a place = asked MISPLACED_STATEMENT place _ refl

of_return : (s : Scope) (a : Around) (place : ℕ) (value : Option ExprTree) → Legality (return_faults s a place value)
of_return s a place None = asked MISPLACED_STATEMENT place _ refl
of_return s a place (Some e) = asked MISPLACED_STATEMENT place _ refl ⊕ of_expression s (result_wanted a.kind) e

of_raised : (place : ℕ) (e : Option Entity) → Legality (raised_rule place e)
of_raised place None = asked NAME_NOT_VISIBLE place true refl
of_raised place (Some Exception) = none
of_raised place (Some Doubtful) = none
of_raised place (Some e) = asked NO_MEANING place true refl

of_raise : (s : Scope) (a : Around) (place : ℕ) (name : Option Identifier) → Legality (raise_faults s a place name)
of_raise s a place (Some name) = of_raised name.place (named_entity s name)
of_raise s a place None = asked MISPLACED_STATEMENT place _ refl

of_time : (s : Scope) (own : Own) (place : ℕ) → Legality (time_rule s own place)
of_time s Unknown place = none
of_time s own place = asked NO_MEANING place (not (is_time s own)) refl

of_delay_until : (s : Scope) (e : ExprTree) → Legality (delay_until_faults s e)
of_delay_until s e = of_expression s (time_wanted s) e ⊕ of_time s (own_of s e) (start_of e)

of_simple : (s : Scope) (a : Around) (x : StmtTree) → Legality (simple_faults s a x)
of_simple s a (Assignment target value) = of_assignment s target value
of_simple s a (Call name) = of_call s name.first name.selectors
of_simple s a (Exit place condition) = of_exit a place ⊕ of_optional_condition s condition
of_simple s a (Return place value) = of_return s a place value
of_simple s a (Raise place name) = of_raise s a place name
of_simple s a (Delay place e) = of_expression s (OfType integer_type) e
of_simple s a (DelayUntil place e) = of_delay_until s e
of_simple s a other = none

-- ---- case statements

of_discrete : (s : Scope) (own : Own) (place : ℕ) → Legality (discrete_rule s own place)
of_discrete s Unknown place = none
of_discrete s own place = asked NO_MEANING place (not (is_discrete s own)) refl

of_selecting : (s : Scope) (e : ExprTree) → Legality (selecting_faults s e)
of_selecting s e = of_expression s Anything e ⊕ of_discrete s (own_of s e) (start_of e)

of_choice : (s : Scope) (w : Wanted) (before : List Scalar) (c : ExprTree) → Legality (choice_faults s w before c)
of_choice s w before c = of_static s w None c ⊕ asked WRONG_CHOICES (start_of c) _ refl

of_values : (s : Scope) (w : Wanted) (before : List Scalar) (cs : List ExprTree) → Legality (values_faults s w before cs)
of_values s w before [] = none
of_values s w before (c ∷ cs) = of_choice s w before c ⊕ of_values s w (chosen_with before (choice_value s w c)) cs

of_choices : (s : Scope) (w : Wanted) (before : List Scalar) (is_last : Bool) (choices : ChoicesTree) → Legality (choices_faults s w before is_last choices)
of_choices s w before is_last (Values cs) = of_values s w before cs
of_choices s w before is_last (OtherValues place) = asked WRONG_CHOICES place _ refl

of_others : (place : ℕ) (all : AlternativeTrees) → Legality (others_rule place all)
of_others place all = asked WRONG_CHOICES place _ refl

-- ---- handlers

of_exception : (place : ℕ) (is_repeated : Bool) (e : Option Entity) → Legality (exception_rule place is_repeated e)
of_exception place is_repeated None = asked NAME_NOT_VISIBLE place true refl
of_exception place is_repeated (Some Exception) = asked WRONG_HANDLER place is_repeated refl
of_exception place is_repeated (Some Doubtful) = none
of_exception place is_repeated (Some e) = asked WRONG_HANDLER place true refl

of_exception_choice : (s : Scope) (before : List (List ℕ)) (is_single_last : Bool) (c : ExceptionChoice)
    → Legality (exception_choice_faults s before is_single_last c)
of_exception_choice s before is_single_last (choice.Exception name) = of_exception name.place (is_named before name.name) (named_entity s name)
of_exception_choice s before is_single_last (choice.Others place) = asked WRONG_HANDLER place _ refl

of_exception_choices : (s : Scope) (before : List (List ℕ)) (is_single_last : Bool) (cs : List ExceptionChoice)
    → Legality (exception_choices_faults s before is_single_last cs)
of_exception_choices s before is_single_last [] = none
of_exception_choices s before is_single_last (c ∷ cs) =
    of_exception_choice s before is_single_last c ⊕ of_exception_choices s (named_with before c) is_single_last cs

-- ---- all statements

of_iteration : (s : Scope) (i : IterationTree) → Legality (iteration_faults s i)
of_iteration s Forever = none
of_iteration s (While condition) = of_condition s condition
of_iteration s (For parameter reversed range) = of_loop s parameter range

mutual
  of_statement : (s : Scope) (a : Around) (x : StmtTree) → Legality (stmt_faults s a x)
  of_statement s a (If place condition body elsifs others) =
      of_condition s condition ⊕ of_statements s a body ⊕ of_elsifs s a elsifs ⊕ of_statements s a others
  of_statement s a (Case place value all) =
      of_selecting s value ⊕ of_alternatives s a (choices_wanted s (own_of s value)) [] all ⊕ of_others place all
  of_statement s a (Loop place iteration body) = of_iteration s iteration ⊕ of_statements (iteration_scope s iteration) (in_loop a) body
  of_statement s a (Block place locals body all) =
      of_locals s locals ⊕ of_statements (locals_scope s locals) a body ⊕ of_handlers (locals_scope s locals) a [] all
  of_statement s a simple = of_simple s a simple

  of_statements : (s : Scope) (a : Around) (body : StmtTrees) → Legality (stmts_faults s a body)
  of_statements s a NoStmts = none
  of_statements s a (MoreStmts x rest) = of_statement s a x ⊕ of_statements s a rest

  of_elsifs : (s : Scope) (a : Around) (elsifs : ElsifTrees) → Legality (elsifs_faults s a elsifs)
  of_elsifs s a NoElsifs = none
  of_elsifs s a (MoreElsifs condition body rest) = of_condition s condition ⊕ of_statements s a body ⊕ of_elsifs s a rest

  of_alternatives : (s : Scope) (a : Around) (w : Wanted) (before : List Scalar) (all : AlternativeTrees) → Legality (alternatives_faults s a w before all)
  of_alternatives s a w before NoAlternatives = none
  of_alternatives s a w before (MoreAlternatives place choices body rest) =
      of_choices s w before (alternatives.no_more rest) choices ⊕ of_statements s a body ⊕ of_alternatives s a w (chosen_by s w before choices) rest

  of_handlers : (s : Scope) (a : Around) (before : List (List ℕ)) (all : HandlerTrees) → Legality (more_handlers_faults s a before all)
  of_handlers s a before NoHandlers = none
  of_handlers s a before (MoreHandlers choices body rest) =
      of_exception_choices s before (is_single choices && handlers.no_more rest) choices
      ⊕ of_statements s (in_handler a) body
      ⊕ of_handlers s a (named_after before choices) rest

pub of_sequence : (s : Scope) (a : Around) (body : StmtTrees) (all : HandlerTrees) → Legality (sequence_faults s a body all)
of_sequence s a body all = of_statements s a body ⊕ of_handlers s a [] all
