-- Conflicts in statements (RM 5, 6.5, 9.6; docs/LANGUAGE.md, "Rules of statements"), in the order of the text.
use Rattle.std.specs.Prelude.{ℕ, Bool, true, false, not, ◌&&◌, List, [], ◌∷◌, ◌++◌, Option, Some, None, if◌then◌else◌}
use Rattle.ada_tree.specs.ExpressionTree.{ExprTree, NameTree}
use Rattle.ada_tree.specs.StatementTree.{IterationTree, Forever, While, For, ChoicesTree, Values, OtherValues, RangeTree, DeclarationTree, LocalObject, ObjectTree, StmtTree, Assignment, Call, Exit, Return, Delay, DelayUntil, If, Case, Loop, Block, StmtTrees, NoStmts, MoreStmts, ElsifTrees, NoElsifs, MoreElsifs, AlternativeTrees, NoAlternatives, MoreAlternatives, HandlerTrees, NoHandlers, MoreHandlers}
use Rattle.types.specs.Scopes.{Scope, form_at, integer_type}
use Rattle.types.specs.Statics.{start_of}
use Rattle.expr_rules.specs.declared.own.Own.{Own}
use Rattle.expr_rules.specs.declared.own.Own.TheVariants.{Typed}
use Rattle.expr_rules.specs.declared.own.Wanted.{Wanted}
use Rattle.expr_rules.specs.declared.own.Wanted.TheVariants.{AnyInteger, Anything, OfType}
use Rattle.expr_rules.specs.Typing.{is_integers, is_known, own_of}
use Rattle.type_rules.specs.SubtypeNames.{subtype_of, wanted_by}
use Rattle.declaration_rules.specs.LocalRules.{local_scope, locals_scope}
use Rattle.stmt_rules.specs.declared.around.BodyKind.{BodyKind}
use Rattle.stmt_rules.specs.CaseRules.{choices_wanted, is_discrete}
use Rattle.stmt_rules.specs.SimpleRules.{assigned_wanted, result_wanted, time_wanted}
use Rattle.stmt_rules.specs.StatementRules.{iteration_scope}
use Rattle.mismatches.specs.declared.conflict.Conflict.TheVariants.{NotDiscrete}
use Rattle.mismatches.specs.Conflicts.{Mismatches, conflict_if, unexpected}
use Rattle.mismatches.specs.ExpressionMismatches.{condition_mismatches, mismatches_in, mismatches_of, name_mismatches}
use Rattle.mismatches.specs.StaticMismatches.{fixed_initial_mismatches, static_mismatches}

-- ---- objects (RM 3.3.1): an initial value is of the type of its object

abbrev pub initial_mismatches : Scope → Wanted → Option ExprTree → Mismatches
initial_mismatches s wanted (Some e) = mismatches_of s wanted e
initial_mismatches s wanted None = []

-- initial values of the package and of task bodies are static
abbrev pub object_mismatches : Scope → (is_fixed : Bool) → ObjectTree → Mismatches
object_mismatches s true d = fixed_initial_mismatches s (subtype_of s d.subtype) d.value
object_mismatches s false d = initial_mismatches s (wanted_by (subtype_of s d.subtype)) d.value

-- of tasks and protected objects in a body, which are refused for themselves, nothing is said
abbrev pub local_mismatches : Scope → (is_fixed : Bool) → DeclarationTree → Mismatches
local_mismatches s is_fixed (LocalObject d) = object_mismatches s is_fixed d
local_mismatches s is_fixed other = []

abbrev pub locals_mismatches : Scope → (is_fixed : Bool) → List DeclarationTree → Mismatches
locals_mismatches s is_fixed [] = []
locals_mismatches s is_fixed (d ∷ ds) = local_mismatches s is_fixed d ++ locals_mismatches (local_scope s d) is_fixed ds

-- ---- simple statements (RM 5.1)

abbrev pub optional_mismatches : Scope → Option ExprTree → Mismatches
optional_mismatches s (Some e) = condition_mismatches s e
optional_mismatches s None = []

abbrev pub return_mismatches : Scope → BodyKind → Option ExprTree → Mismatches
return_mismatches s k (Some e) = mismatches_of s (result_wanted k) e
return_mismatches s k None = []

abbrev pub assignment_mismatches : Scope → NameTree → ExprTree → Mismatches
assignment_mismatches s target value = name_mismatches s target.first target.selectors ++ mismatches_of s (assigned_wanted s target) value

abbrev pub simple_mismatches : Scope → BodyKind → StmtTree → Mismatches
simple_mismatches s k (Assignment target value) = assignment_mismatches s target value
simple_mismatches s k (Call name) = name_mismatches s name.first name.selectors
simple_mismatches s k (Exit place condition) = optional_mismatches s condition
simple_mismatches s k (Return place value) = return_mismatches s k value
simple_mismatches s k (Delay place e) = mismatches_of s (OfType integer_type) e
simple_mismatches s k (DelayUntil place e) = mismatches_of s (time_wanted s) e
simple_mismatches s k other = []

-- ---- loops (RM 5.5) and choices (RM 5.4)

-- the second bound is of the type of the first, where that is an integer type
abbrev pub last_wanted : Scope → (first : Own) → Wanted
last_wanted s (Typed n) = if is_integers (form_at s n) then OfType n else AnyInteger
last_wanted s first = AnyInteger

abbrev pub range_mismatches : Scope → RangeTree → Mismatches
range_mismatches s r =
    mismatches_of s AnyInteger r.first
    ++ (mismatches_in s AnyInteger r.last ++ unexpected s (last_wanted s (own_of s r.first)) (own_of s r.last) (start_of r.last))

abbrev pub iteration_mismatches : Scope → IterationTree → Mismatches
iteration_mismatches s Forever = []
iteration_mismatches s (While condition) = condition_mismatches s condition
iteration_mismatches s (For parameter reversed range) = range_mismatches s range

abbrev pub values_mismatches : Scope → Wanted → List ExprTree → Mismatches
values_mismatches s wanted [] = []
values_mismatches s wanted (e ∷ es) = static_mismatches s wanted None e ++ values_mismatches s wanted es

abbrev pub choices_mismatches : Scope → Wanted → ChoicesTree → Mismatches
choices_mismatches s wanted (Values all) = values_mismatches s wanted all
choices_mismatches s wanted (OtherValues place) = []

-- 12: the type of the selecting expression is known, and is neither an integer type nor Boolean (RM 5.4)
abbrev pub discrete_mismatch : Scope → Own → (place : ℕ) → Mismatches
discrete_mismatch s own place = conflict_if place (NotDiscrete own) (is_known own && not (is_discrete s own))

abbrev pub selecting_mismatches : Scope → ExprTree → Mismatches
selecting_mismatches s e = mismatches_of s Anything e ++ discrete_mismatch s (own_of s e) (start_of e)

-- ---- statements

abbrev mutual
  pub stmt_mismatches : Scope → BodyKind → StmtTree → Mismatches
  stmt_mismatches s k (If place condition body elsifs others) =
      condition_mismatches s condition ++ stmts_mismatches s k body ++ elsifs_mismatches s k elsifs ++ stmts_mismatches s k others
  stmt_mismatches s k (Case place value all) = selecting_mismatches s value ++ alternatives_mismatches s k (choices_wanted s (own_of s value)) all
  stmt_mismatches s k (Loop place iteration body) = iteration_mismatches s iteration ++ stmts_mismatches (iteration_scope s iteration) k body
  stmt_mismatches s k (Block place locals body all) =
      locals_mismatches s false locals ++ stmts_mismatches (locals_scope s locals) k body ++ handlers_mismatches (locals_scope s locals) k all
  stmt_mismatches s k simple = simple_mismatches s k simple

  pub stmts_mismatches : Scope → BodyKind → StmtTrees → Mismatches
  stmts_mismatches s k NoStmts = []
  stmts_mismatches s k (MoreStmts x rest) = stmt_mismatches s k x ++ stmts_mismatches s k rest

  pub elsifs_mismatches : Scope → BodyKind → ElsifTrees → Mismatches
  elsifs_mismatches s k NoElsifs = []
  elsifs_mismatches s k (MoreElsifs condition body rest) = condition_mismatches s condition ++ stmts_mismatches s k body ++ elsifs_mismatches s k rest

  -- alternatives of which values of this type are wanted
  pub alternatives_mismatches : Scope → BodyKind → Wanted → AlternativeTrees → Mismatches
  alternatives_mismatches s k w NoAlternatives = []
  alternatives_mismatches s k w (MoreAlternatives place choices body rest) =
      choices_mismatches s w choices ++ stmts_mismatches s k body ++ alternatives_mismatches s k w rest

  pub handlers_mismatches : Scope → BodyKind → HandlerTrees → Mismatches
  handlers_mismatches s k NoHandlers = []
  handlers_mismatches s k (MoreHandlers choices body rest) = stmts_mismatches s k body ++ handlers_mismatches s k rest

-- ---- the parts of statements, each by itself

abbrev pub elsif_mismatches : Scope → BodyKind → ExprTree × StmtTrees → Mismatches
elsif_mismatches s k x = condition_mismatches s x.0 ++ stmts_mismatches s k x.1

abbrev pub alternative_mismatches : Scope → BodyKind → Wanted → ChoicesTree → StmtTrees → Mismatches
alternative_mismatches s k w choices body = choices_mismatches s w choices ++ stmts_mismatches s k body

abbrev pub looped_mismatches : Scope → BodyKind → IterationTree → StmtTrees → Mismatches
looped_mismatches s k iteration body = iteration_mismatches s iteration ++ stmts_mismatches (iteration_scope s iteration) k body
