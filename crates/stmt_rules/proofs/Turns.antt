-- Turns of the loops over alternatives and handlers, of which the last one is another.
use Rattle.std.proofs.Common.{◌≡◌, ◌++◌, ◌∷◌, length-drop, ℕ, ◌+◌, ◌<◌, Bool, List, [], length, drop, map, sym, ap, ◌∙◌, arith}
use Rattle.std.specs.Prelude.{get_or, nat_eq}
use Rattle.std.proofs.lemmas.List.{at_drop_more}
use Rattle.ada_tree.specs.declared.expression.Expr.{Expr}
use Rattle.ada_tree.specs.declared.statement.ExceptionChoice.{ExceptionChoice}
use Rattle.ada_tree.specs.ExpressionTree.{expr_tree}
use Rattle.ada_tree.specs.declared.statement.Alternative.{Alternative}
use Rattle.ada_tree.specs.declared.statement.Handler.{Handler}
use Rattle.ada_tree.specs.StatementTree.{alternative_tree, alternative_trees, handler_tree, handler_trees}
use Rattle.types.specs.declared.entity.Value.{Value as Scalar}
use Rattle.types.specs.Scopes.{Scope}
use Rattle.expr_rules.specs.declared.own.Wanted.{Wanted}
use Rattle.expr_rules.specs.Faults.{Faults}
use Rattle.expr_rules.specs.Findings.{Findings, noted}
use Rattle.expr_rules.specs.Walks.{noted_turn}
use Rattle.stmt_rules.specs.declared.around.Around.{Around}
use Rattle.stmt_rules.proofs.Chosen.{alternatives_behind, choices_behind, handlers_behind, values_behind}
use Rattle.stmt_rules.specs.CaseRules.{choice_faults, choice_value, values_faults}
use Rattle.stmt_rules.specs.Choosing.{chosen_once, once_after, once_by, seen_after, seen_by}
use Rattle.stmt_rules.specs.HandlerRules.{exception_choice_faults, exception_choices_faults}
use Rattle.stmt_rules.specs.CaseRules as alternatives
use Rattle.stmt_rules.specs.HandlerRules as handlers
use Rattle.stmt_rules.specs.StatementRules.{alternative_faults, alternatives_faults, handler_faults, more_handlers_faults}

-- a turn of a loop over what is left
turn : {X : Type 0} (left : List X → Faults) (all : List X) (n : ℕ) (x : X) (found one : Findings) (first rest : Faults) (whole : Findings)
    → n < length all
    → x ≡ get_or all n x
    → left (x ∷ drop (n + 1) all) ≡ first ++ rest
    → noted found (left (drop n all)) ≡ whole
    → one ≡ noted found first
    → noted one rest ≡ whole
turn left all n x found one first rest whole less is split h here = ap (λ g. noted g rest) here ∙ noted_turn left all n x found first rest whole less is split h

-- ---- the last one is the one with the last index

no_alternative : (xs : List Alternative) (n m : ℕ) → length xs + n ≡ m → alternatives.no_more (alternative_trees xs) ≡ nat_eq n m
no_alternative [] n m h = grind (arith, h)
no_alternative (x ∷ xs) n m h = grind (arith, h)

last_alternative : (all : List Alternative) (n : ℕ) → n < length all → alternatives.no_more (alternative_trees (drop (n + 1) all)) ≡ nat_eq (n + 1) (length all)
last_alternative all n less = no_alternative (drop (n + 1) all) (n + 1) (length all) (let e = length-drop (n + 1) all in omega (arith, e, less))

no_handler : (xs : List Handler) (n m : ℕ) → length xs + n ≡ m → handlers.no_more (handler_trees xs) ≡ nat_eq n m
no_handler [] n m h = grind (arith, h)
no_handler (x ∷ xs) n m h = grind (arith, h)

last_handler : (all : List Handler) (n : ℕ) → n < length all → handlers.no_more (handler_trees (drop (n + 1) all)) ≡ nat_eq (n + 1) (length all)
last_handler all n less = no_handler (drop (n + 1) all) (n + 1) (length all) (let e = length-drop (n + 1) all in omega (arith, e, less))

-- ---- the turns

pub alternatives_turn : (s : Scope) (a : Around) (w : Wanted) (before : List Scalar) (all : List Alternative) (n : ℕ) (x : Alternative) (found one whole : Findings)
    → n < length all
    → x ≡ get_or all n x
    → noted found (alternatives_faults s a w before (alternative_trees (drop n all))) ≡ whole
    → one ≡ noted found (alternative_faults s a w before (nat_eq (n + 1) (length all)) (alternative_tree x))
    → noted one (alternatives_faults s a w (once_by s w before (alternative_tree x).1.0) (alternative_trees (drop (n + 1) all))) ≡ whole
alternatives_turn s a w before all n x found one whole less is h here =
    let rest = drop (n + 1) all in
    turn (λ l. alternatives_faults s a w before (alternative_trees l)) all n x found one
    (alternative_faults s a w before (alternatives.no_more (alternative_trees rest)) (alternative_tree x))
    (alternatives_faults s a w (once_by s w before (alternative_tree x).1.0) (alternative_trees rest)) whole less is
    (ap (λ fs. alternative_faults s a w before (alternatives.no_more (alternative_trees rest)) (alternative_tree x) ++ fs) (alternatives_behind s w a before (alternative_tree x).1.0 (alternative_trees rest)))
    h
    (here ∙ ap (λ b. noted found (alternative_faults s a w before b (alternative_tree x))) (sym (last_alternative all n less)))

pub handlers_turn : (s : Scope) (a : Around) (before : List (List ℕ)) (all : List Handler) (n : ℕ) (x : Handler) (found one whole : Findings)
    → n < length all
    → x ≡ get_or all n x
    → noted found (more_handlers_faults s a before (handler_trees (drop n all))) ≡ whole
    → one ≡ noted found (handler_faults s a before (nat_eq (n + 1) (length all)) (handler_tree x))
    → noted one (more_handlers_faults s a (seen_after before (handler_tree x).0) (handler_trees (drop (n + 1) all))) ≡ whole
handlers_turn s a before all n x found one whole less is h here =
    let rest = drop (n + 1) all in
    turn (λ l. more_handlers_faults s a before (handler_trees l)) all n x found one
    (handler_faults s a before (handlers.no_more (handler_trees rest)) (handler_tree x))
    (more_handlers_faults s a (seen_after before (handler_tree x).0) (handler_trees rest)) whole less is
    (ap (λ fs. handler_faults s a before (handlers.no_more (handler_trees rest)) (handler_tree x) ++ fs) (handlers_behind s a before (handler_tree x).0 (handler_trees rest)))
    h
    (here ∙ ap (λ b. noted found (handler_faults s a before b (handler_tree x))) (sym (last_handler all n less)))

-- ---- choices

pub choices_turn : (s : Scope) (l : Bool) (before : List (List ℕ)) (all : List ExceptionChoice) (n : ℕ) (x : ExceptionChoice) (found one whole : Findings)
    → n < length all
    → x ≡ get_or all n x
    → noted found (exception_choices_faults s before l (drop n all)) ≡ whole
    → one ≡ noted found (exception_choice_faults s before l x)
    → noted one (exception_choices_faults s (seen_by before x) l (drop (n + 1) all)) ≡ whole
choices_turn s l before all n x found one whole less is h here =
    let rest = drop (n + 1) all in
    turn (exception_choices_faults s before l) all n x found one (exception_choice_faults s before l x) (exception_choices_faults s (seen_by before x) l rest) whole less is
    (choices_behind s l before x rest) h here

pub seen_turn : (before : List (List ℕ)) (all : List ExceptionChoice) (n : ℕ) (x : ExceptionChoice)
    → n < length all
    → x ≡ get_or all n x
    → seen_after (seen_by before x) (drop (n + 1) all) ≡ seen_after before (drop n all)
seen_turn before all n x less is = sym (at_drop_more (seen_after before) all n x less ∙ ap (λ y. seen_after before (y ∷ drop (n + 1) all)) (sym is))

pub values_turn : (s : Scope) (w : Wanted) (before : List Scalar) (all : List Expr) (n : ℕ) (x : Expr) (found one whole : Findings)
    → n < length all
    → x ≡ get_or all n x
    → noted found (values_faults s w before (map expr_tree (drop n all))) ≡ whole
    → one ≡ noted found (choice_faults s w before (expr_tree x))
    → noted one (values_faults s w (chosen_once before (choice_value s w (expr_tree x))) (map expr_tree (drop (n + 1) all))) ≡ whole
values_turn s w before all n x found one whole less is h here =
    let rest = map expr_tree (drop (n + 1) all) in
    turn (λ l. values_faults s w before (map expr_tree l)) all n x found one (choice_faults s w before (expr_tree x)) (values_faults s w (chosen_once before (choice_value s w (expr_tree x))) rest) whole less is
    (values_behind s w before (expr_tree x) rest) h here

pub once_turn : (s : Scope) (w : Wanted) (before : List Scalar) (all : List Expr) (n : ℕ) (x : Expr)
    → n < length all
    → x ≡ get_or all n x
    → once_after s w (chosen_once before (choice_value s w (expr_tree x))) (map expr_tree (drop (n + 1) all)) ≡ once_after s w before (map expr_tree (drop n all))
once_turn s w before all n x less is =
    sym (at_drop_more (λ l. once_after s w before (map expr_tree l)) all n x less ∙ ap (λ y. once_after s w before (map expr_tree (y ∷ drop (n + 1) all))) (sym is))
