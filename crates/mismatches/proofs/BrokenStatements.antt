-- Where types don't match in a statement rule 12 is broken.
use Rattle.std.proofs.Common.{◌++◌, ℕ, Bool, true, false, List, [], ◌∷◌, Option, Some, None}
use Rattle.std.specs.Prelude.{if◌then◌else◌, not}
use Rattle.ada_tree.specs.ExpressionTree.{ExprTree}
use Rattle.ada_tree.specs.StatementTree.{IterationTree, Forever, While, For, ChoicesTree, Values, OtherValues, DeclarationTree, LocalObject, LocalTask, LocalProtected, ObjectTree, StmtTree, Null, Assignment, Call, Exit, Return, Raise, Delay, DelayUntil, If, Case, Loop, Block, Abort, Requeue, Accept, Select, StmtTrees, NoStmts, MoreStmts, ElsifTrees, NoElsifs, MoreElsifs, AlternativeTrees, NoAlternatives, MoreAlternatives, HandlerTrees, NoHandlers, MoreHandlers}
use Rattle.types.specs.declared.entity.Value.{Value as Scalar}
use Rattle.types.specs.Scopes.{Scope, form_at, integer_type}
use Rattle.types.specs.Statics.{start_of}
use Rattle.expr_rules.specs.declared.own.Own.{Own}
use Rattle.expr_rules.specs.declared.own.Own.TheVariants.{Typed, Universal, Unknown}
use Rattle.expr_rules.specs.declared.own.Wanted.{Wanted}
use Rattle.expr_rules.specs.declared.own.Wanted.TheVariants.{Anything, AnyInteger, OfType}
use Rattle.expr_rules.specs.Faults.{Faults}
use Rattle.expr_rules.specs.ExpressionRules.{faults_of}
use Rattle.expr_rules.specs.NameRules.{mismatch}
use Rattle.expr_rules.specs.Typing.{boolean_wanted, is_integers, own_of}
use Rattle.type_rules.specs.ObjectRules.{fixed_object_faults, local_object_faults}
use Rattle.type_rules.specs.SubtypeNames.{subtype_of, wanted_by}
use Rattle.declaration_rules.specs.BodyNames.{bounds_type, if_integers, last_rule}
use Rattle.declaration_rules.specs.LocalRules.{fixed_local_faults, fixed_locals_faults, local_faults, local_scope, locals_faults, locals_scope}
use Rattle.stmt_rules.specs.declared.around.Around.{Around}
use Rattle.stmt_rules.specs.CaseRules.{choice_value, choices_faults, choices_wanted, chosen_by, chosen_with, discrete_rule, is_discrete, selecting_faults, values_faults}
use Rattle.stmt_rules.specs.SimpleRules.{assigned_wanted, optional_condition_faults, result_wanted, return_faults, simple_faults, time_wanted}
use Rattle.stmt_rules.specs.HandlerRules.{named_after}
use Rattle.stmt_rules.specs.StatementRules.{alternatives_faults, elsifs_faults, in_handler, in_loop, iteration_faults, iteration_scope, more_handlers_faults, stmt_faults, stmts_faults}
use Rattle.mismatches.specs.declared.conflict.Conflict.TheVariants.{NotDiscrete}
use Rattle.mismatches.specs.Conflicts.{Mismatches, unexpected}
use Rattle.mismatches.specs.ExpressionMismatches.{mismatches_in, mismatches_of}
use Rattle.mismatches.specs.StatementMismatches.{alternatives_mismatches, choices_mismatches, discrete_mismatch, elsifs_mismatches, handlers_mismatches, initial_mismatches, iteration_mismatches, last_wanted, local_mismatches, locals_mismatches, object_mismatches, optional_mismatches, return_mismatches, selecting_mismatches, simple_mismatches, stmt_mismatches, stmts_mismatches, values_mismatches}
use Rattle.mismatches.specs.Laws.{AreFaults}
use Rattle.mismatches.proofs.Broken.{after, both, call_broken, expression_broken, in_front, inside_broken, none, one, target_broken, together}
use Rattle.mismatches.proofs.BrokenStatics.{fixed_initial, static_broken}

-- ---- objects

local_initial : (s : Scope) (w : Wanted) (v : Option ExprTree) (other : Faults)
    → AreFaults (initial_mismatches s w v) (elim v [ Some e ↦ faults_of s w e | None ↦ other ])
local_initial s w (Some e) other = expression_broken s w e
local_initial s w None other = none _

local_object_broken : (s : Scope) (d : ObjectTree) → AreFaults (object_mismatches s false d) (local_object_faults s d)
local_object_broken s d = in_front (after _ (local_initial s (wanted_by (subtype_of s d.subtype)) d.value _)) _

pub fixed_object_broken : (s : Scope) (d : ObjectTree) → AreFaults (object_mismatches s true d) (fixed_object_faults s d)
fixed_object_broken s d = in_front (after _ (fixed_initial s (subtype_of s d.subtype) d.value _)) _

local_broken : (s : Scope) (d : DeclarationTree) → AreFaults (local_mismatches s false d) (local_faults s d)
local_broken s (LocalObject d) = local_object_broken s d
local_broken s (LocalTask d) = none _
local_broken s (LocalProtected d) = none _

fixed_local_broken : (s : Scope) (d : DeclarationTree) → AreFaults (local_mismatches s true d) (fixed_local_faults s d)
fixed_local_broken s (LocalObject d) = fixed_object_broken s d
fixed_local_broken s (LocalTask d) = none _
fixed_local_broken s (LocalProtected d) = none _

pub locals_broken : (s : Scope) (ds : List DeclarationTree) → AreFaults (locals_mismatches s false ds) (locals_faults s ds)
locals_broken s [] = none _
locals_broken s (d ∷ ds) = both (local_broken s d) (locals_broken (local_scope s d) ds)

pub fixed_locals_broken : (s : Scope) (ds : List DeclarationTree) → AreFaults (locals_mismatches s true ds) (fixed_locals_faults s ds)
fixed_locals_broken s [] = none _
fixed_locals_broken s (d ∷ ds) = both (fixed_local_broken s d) (fixed_locals_broken (local_scope s d) ds)

-- ---- simple statements

optional_broken : (s : Scope) (v : Option ExprTree) → AreFaults (optional_mismatches s v) (optional_condition_faults s v)
optional_broken s (Some e) = expression_broken s boolean_wanted e
optional_broken s None = none _

return_broken : (s : Scope) (a : Around) (place : ℕ) (v : Option ExprTree) → AreFaults (return_mismatches s a.kind v) (return_faults s a place v)
return_broken s a place (Some e) = after _ (expression_broken s (result_wanted a.kind) e)
return_broken s a place None = none _

simple_broken : (s : Scope) (a : Around) (x : StmtTree) → AreFaults (simple_mismatches s a.kind x) (simple_faults s a x)
simple_broken s a (Assignment target value) = both (target_broken s target.first target.selectors) (expression_broken s (assigned_wanted s target) value)
simple_broken s a (Call name) = call_broken s name.first name.selectors
simple_broken s a (Exit place condition) = after _ (optional_broken s condition)
simple_broken s a (Return place value) = return_broken s a place value
simple_broken s a (Delay place e) = expression_broken s (OfType integer_type) e
simple_broken s a (DelayUntil place e) = in_front (expression_broken s (time_wanted s) e) _
simple_broken s a (Null place) = none _
simple_broken s a (Raise place name) = none _
simple_broken s a (If place condition body _ others) = none _
simple_broken s a (Case place value all) = none _
simple_broken s a (Loop place iteration body) = none _
simple_broken s a (Block place locals body all) = none _
simple_broken s a (Abort place name) = none _
simple_broken s a (Requeue place first second) = none _
simple_broken s a (Accept place name) = none _
simple_broken s a (Select place) = none _

-- ---- loops and choices

last_by : (s : Scope) (n : ℕ) (b : Bool) (own : Own) (place : ℕ) (x y : Mismatches) (fx fy : Faults) → AreFaults x fx → AreFaults y fy
    → AreFaults (x ++ (y ++ unexpected s (if b then OfType n else AnyInteger) own place))
    (fx ++ (fy ++ mismatch s AnyInteger own place) ++ last_rule s (elim b [ true ↦ Some n | false ↦ None ]) own place)
last_by s n true own place x y fx fy hx hy =
    together (in_front (in_front hx _) _) (together (in_front (after _ (in_front hy _)) _) (after _ (one _ _ _)))
last_by s n false own place x y fx fy hx hy = in_front (both hx (both hy (one _ _ _))) _

last_broken : (s : Scope) (first own : Own) (place : ℕ) (x y : Mismatches) (fx fy : Faults) → AreFaults x fx → AreFaults y fy
    → AreFaults (x ++ (y ++ unexpected s (last_wanted s first) own place))
    (fx ++ (fy ++ mismatch s AnyInteger own place) ++ last_rule s (if_integers s (bounds_type first own)) own place)
last_broken s (Typed n) own place x y fx fy hx hy = last_by s n (is_integers (form_at s n)) own place x y fx fy hx hy
last_broken s Universal own place x y fx fy hx hy = in_front (both hx (both hy (one _ _ _))) _
last_broken s Unknown own place x y fx fy hx hy = in_front (both hx (both hy (one _ _ _))) _

iteration_broken : (s : Scope) (i : IterationTree) → AreFaults (iteration_mismatches s i) (iteration_faults s i)
iteration_broken s Forever = none _
iteration_broken s (While condition) = expression_broken s boolean_wanted condition
iteration_broken s (For parameter reversed r) =
    in_front
    (last_broken s (own_of s r.first) (own_of s r.last) (start_of r.last) (mismatches_of s AnyInteger r.first) (mismatches_in s AnyInteger r.last) _ _
    (expression_broken s AnyInteger r.first)
    (inside_broken s AnyInteger r.last))
    _

values_broken : (s : Scope) (w : Wanted) (before : List Scalar) (es : List ExprTree) → AreFaults (values_mismatches s w es) (values_faults s w before es)
values_broken s w before [] = none _
values_broken s w before (e ∷ es) = both (in_front (static_broken s w None e) _) (values_broken s w (chosen_with before (choice_value s w e)) es)

choices_broken : (s : Scope) (w : Wanted) (before : List Scalar) (is_last : Bool) (c : ChoicesTree)
    → AreFaults (choices_mismatches s w c) (choices_faults s w before is_last c)
choices_broken s w before is_last (Values es) = values_broken s w before es
choices_broken s w before is_last (OtherValues place) = none _

discrete_broken : (s : Scope) (own : Own) (place : ℕ) → AreFaults (discrete_mismatch s own place) (discrete_rule s own place)
discrete_broken s Unknown place = none _
discrete_broken s Universal place = one place (NotDiscrete Universal) (not (is_discrete s Universal))
discrete_broken s (Typed n) place = one place (NotDiscrete (Typed n)) (not (is_discrete s (Typed n)))

selecting_broken : (s : Scope) (e : ExprTree) → AreFaults (selecting_mismatches s e) (selecting_faults s e)
selecting_broken s e = both (expression_broken s Anything e) (discrete_broken s (own_of s e) (start_of e))

-- ---- statements

mutual
  pub stmt_broken : (s : Scope) (a : Around) (x : StmtTree) → AreFaults (stmt_mismatches s a.kind x) (stmt_faults s a x)
  stmt_broken s a (If place condition body elsifs others) =
      both (both (both (expression_broken s boolean_wanted condition) (stmts_broken s a body)) (elsifs_broken s a elsifs)) (stmts_broken s a others)
  stmt_broken s a (Case place value all) =
      in_front (both (selecting_broken s value) (alternatives_broken s a (choices_wanted s (own_of s value)) [] all)) _
  stmt_broken s a (Loop place iteration body) = both (iteration_broken s iteration) (stmts_broken (iteration_scope s iteration) (in_loop a) body)
  stmt_broken s a (Block place locals body all) =
      both (both (locals_broken s locals) (stmts_broken (locals_scope s locals) a body)) (handlers_broken (locals_scope s locals) a [] all)
  stmt_broken s a x = simple_broken s a x

  pub stmts_broken : (s : Scope) (a : Around) (xs : StmtTrees) → AreFaults (stmts_mismatches s a.kind xs) (stmts_faults s a xs)
  stmts_broken s a NoStmts = none _
  stmts_broken s a (MoreStmts x rest) = both (stmt_broken s a x) (stmts_broken s a rest)

  elsifs_broken : (s : Scope) (a : Around) (xs : ElsifTrees) → AreFaults (elsifs_mismatches s a.kind xs) (elsifs_faults s a xs)
  elsifs_broken s a NoElsifs = none _
  elsifs_broken s a (MoreElsifs condition body rest) = both (both (expression_broken s boolean_wanted condition) (stmts_broken s a body)) (elsifs_broken s a rest)

  alternatives_broken : (s : Scope) (a : Around) (w : Wanted) (before : List Scalar) (xs : AlternativeTrees)
      → AreFaults (alternatives_mismatches s a.kind w xs) (alternatives_faults s a w before xs)
  alternatives_broken s a w before NoAlternatives = none _
  alternatives_broken s a w before (MoreAlternatives place choices body rest) =
      both (both (choices_broken s w before _ choices) (stmts_broken s a body)) (alternatives_broken s a w (chosen_by s w before choices) rest)

  pub handlers_broken : (s : Scope) (a : Around) (before : List (List ℕ)) (xs : HandlerTrees)
      → AreFaults (handlers_mismatches s a.kind xs) (more_handlers_faults s a before xs)
  handlers_broken s a before NoHandlers = none _
  handlers_broken s a before (MoreHandlers choices body rest) =
      both (after _ (stmts_broken s (in_handler a) body)) (handlers_broken s a (named_after before choices) rest)
