-- Simple statements that no text of checks/rules.txt can show: with doubtful names, left out by the profile, or in a function whose own rule is broken first. Places are those in the text above each.
use Rattle.std.proofs.Common.{◌≡◌, [], ◌∷◌, Some, None, refl}
use Rattle.std.specs.Prelude.{codes}
use Rattle.ada_tree.specs.ExpressionTree.{Named, NoSelectors, selectors_of, Component, Arguments, Value, arguments_of}
use Rattle.ada_tree.specs.StatementTree.{NoStmts, MoreStmts, Assignment, Call, Return, Raise, Delay, DelayUntil, Abort, Requeue, Accept, Select}
use Rattle.stmt_rules.proofs.Sample.{broken, doubtful_function, found, function, identifier, name_of, num, procedure}

-- ---- assignments (RM 5.2)

-- `W := True; X := W; W.A := W (1);`
assigned_doubtful : found procedure (MoreStmts (Assignment (name_of (identifier 0 (codes "W")) NoSelectors) (Named (identifier 5 (codes "TRUE"))
    NoSelectors)) (MoreStmts (Assignment (name_of (identifier 11 (codes "X")) NoSelectors) (Named (identifier 16 (codes "W")) NoSelectors)) (MoreStmts
    (Assignment (name_of (identifier 19 (codes "W")) (selectors_of (Component (identifier 21 (codes "A")) ∷ []))) (Named (identifier 26 (codes "W"))
    (selectors_of (Arguments (arguments_of ((Value (num 29 1)) ∷ [])) ∷ [])))) NoStmts))) ≡ None
assigned_doubtful = refl

-- ---- calls (RM 6.4, 9.5.3)

-- `W; W (1);`
doubtful_called : found procedure (MoreStmts (Call (name_of (identifier 0 (codes "W")) NoSelectors)) (MoreStmts (Call (name_of (identifier 3 (codes "W"))
    (selectors_of (Arguments (arguments_of ((Value (num 6 1)) ∷ [])) ∷ [])))) NoStmts)) ≡ None
doubtful_called = refl

-- ---- returns in a function with an Integer as result

-- `return;`
return_without_value : found function (MoreStmts (Return 0 None) NoStmts) ≡ broken 19 0
return_without_value = refl

-- `return W;`
result_doubtful : found function (MoreStmts (Return 0 (Some (Named (identifier 7 (codes "W")) NoSelectors))) NoStmts) ≡ None
result_doubtful = refl

-- ---- returns in a function whose result is not known

-- `return Flag;`
value_for_a_doubtful_result : found doubtful_function (MoreStmts (Return 0 (Some (Named (identifier 7 (codes "FLAG")) NoSelectors))) NoStmts) ≡ None
value_for_a_doubtful_result = refl

-- ---- raising (RM 11.3)

-- `raise W;`
raised_doubtful : found procedure (MoreStmts (Raise 0 (Some (identifier 6 (codes "W")))) NoStmts) ≡ None
raised_doubtful = refl

-- ---- delays (RM 9.6)

-- `delay until W;`
delayed_doubtful : found procedure (MoreStmts (DelayUntil 0 (Named (identifier 12 (codes "W")) NoSelectors)) NoStmts) ≡ None
delayed_doubtful = refl

-- `delay X; delay 5;`
relative_delay : found procedure (MoreStmts (Delay 0 (Named (identifier 6 (codes "X")) NoSelectors)) (MoreStmts (Delay 9 (num 15 5)) NoStmts)) ≡ None
relative_delay = refl

-- ---- statements that are refused for themselves

-- `abort Nobody; requeue Nobody; requeue Nobody.Nothing; accept Nobody; select exit; end select;`
not_looked_up : found procedure (MoreStmts (Abort 0 (identifier 6 (codes "NOBODY"))) (MoreStmts (Requeue 14 (identifier 22 (codes "NOBODY")) None)
    (MoreStmts (Requeue 30 (identifier 38 (codes "NOBODY")) (Some (identifier 45 (codes "NOTHING")))) (MoreStmts (Accept 54 (identifier 61 (codes
    "NOBODY"))) (MoreStmts (Select 69) NoStmts))))) ≡ None
not_looked_up = refl
