-- Labels that stay; and what legality tells of the parts of blocks, of conditions of exits, and of values of which a type is wanted.
use Rattle.std.proofs.Common.{◌≡◌, ℕ, ◌+◌, ◌++◌, List, [], ◌∷◌, length, Option, Some, refl, sym, ap, ◌∙◌, subst, arith}
use Rattle.ada_tree.specs.ExpressionTree.{ExprTree}
use Rattle.ada_tree.specs.StatementTree as statements
use Rattle.ada_tree.specs.StatementTree.{DeclarationTree, HandlerTrees, StmtTrees}
use Rattle.image.specs.Sections.{Sections}
use Rattle.types.specs.Scopes.{Scope}
use Rattle.types.specs.Statics.{start_of}
use Rattle.declaration_rules.specs.LocalRules.{locals_faults, locals_scope}
use Rattle.expr_soundness.specs.expr_rules.specs.declared.own.Wanted.{Wanted}
use Rattle.expr_soundness.specs.expr_rules.specs.ExpressionRules.{faults_in, faults_of}
use Rattle.expr_soundness.specs.expr_rules.specs.Faults.{Faults}
use Rattle.expr_soundness.specs.expr_rules.specs.NameRules.{mismatch}
use Rattle.expr_soundness.specs.expr_rules.specs.Typing.{own_of}
use Rattle.expr_soundness.specs.expr_rules.proofs.TypedLaw.{back_empty, front_empty}
use Rattle.part_code.specs.step_soundness.specs.body_restrictions.specs.BodyRules as restrictions
use Rattle.part_code.specs.stmt_rules.specs.SimpleRules.{condition_faults, exit_rule, optional_condition_faults}
use Rattle.part_code.specs.stmt_rules.specs.StatementRules.{more_handlers_faults, stmts_faults}
use Rattle.expr_code.specs.Code.{StandsFrom}
use Rattle.expr_code.specs.Emitting as expressions
use Rattle.stmt_code.specs.Emitting.{AreAcceptedHandlers, AreAcceptedStatements, HasLabels, IsAcceptedStatement}
use Rattle.stmt_code.specs.Leaves.{any_leave, handlers_leave}
use Rattle.stmt_code.proofs.Accepting.{ways_left, ways_right}
use Rattle.part_code.specs.Statements.{Ways}

-- ---- labels

pub labels_stay : (old new : List (List ℕ)) → new ≡ old → StandsFrom 0 old new
labels_stay old new same = subst (λ l. StandsFrom 0 old l) (sym same) (λ k x le h. h)

pub labels_before : (i : Sections) (old new : List (List ℕ)) → StandsFrom 0 old new → HasLabels i new → HasLabels i old
labels_before i old new e h = record { labels = λ k x le is. h.labels k x le (e k x le is) }

pub labels_then : (a b c : List (List ℕ)) → StandsFrom 0 a b → StandsFrom 0 b c → StandsFrom 0 a c
labels_then a b c p q = λ k x le is. q k x le (p k x le is)

-- ---- what is legal

pub none_there : {A : Type 0} (xs : List A) → length xs ≡ 0 → xs ≡ []
none_there [] e = refl
none_there (x ∷ xs) e = absurd (omega (arith, e))

pub wanted_legal : (s : Scope) (w : Wanted) (e : ExprTree) → faults_of s w e ≡ [] → expressions.IsLegalExpression s e
wanted_legal s w e h = record { wanted = w; unbroken = front_empty (faults_in s w e) (mismatch s w (own_of s e) (start_of e)) h }

pub exit_condition : (s : Scope) (w : Ways) (place : ℕ) (x : Option ExprTree) (e : ExprTree) → x ≡ Some e → IsAcceptedStatement s w (statements.Exit place x)
    → condition_faults s e ≡ []
exit_condition s w place x e is h =
    back_empty (exit_rule h.around place) (condition_faults s e) (ap (λ y. exit_rule h.around place ++ optional_condition_faults s y) (sym is) ∙ h.unbroken)

module _ (s : Scope) (w : Ways) (place : ℕ) (ds : List DeclarationTree) (body : StmtTrees) (all : HandlerTrees)
    (h : IsAcceptedStatement s w (statements.Block place ds body all)) where
  abbrev own_faults : Faults
  own_faults = locals_faults s ds ++ stmts_faults (locals_scope s ds) h.around body

  abbrev handler_faults : Faults
  handler_faults = more_handlers_faults (locals_scope s ds) h.around [] all

  both : own_faults ≡ []
  both = front_empty own_faults handler_faults h.unbroken

  abbrev forbidden : Faults
  forbidden = restrictions.locals_faults ds ++ restrictions.stmts_faults body

  both_allowed : forbidden ≡ []
  both_allowed = front_empty forbidden (restrictions.handlers_faults all) h.restricted

  pub block_declarations : locals_faults s ds ≡ []
  block_declarations = front_empty (locals_faults s ds) (stmts_faults (locals_scope s ds) h.around body) both

  pub block_restricted : restrictions.locals_faults ds ≡ []
  block_restricted = front_empty (restrictions.locals_faults ds) (restrictions.stmts_faults body) both_allowed

  pub block_body : AreAcceptedStatements (locals_scope s ds) w body
  block_body = record {
    around = h.around;
    ways = ways_left w h.around (any_leave body) (handlers_leave all) h.ways;
    unbroken = back_empty (locals_faults s ds) (stmts_faults (locals_scope s ds) h.around body) both;
    restricted = back_empty (restrictions.locals_faults ds) (restrictions.stmts_faults body) both_allowed;
  }

  pub block_handlers : AreAcceptedHandlers (locals_scope s ds) w all
  block_handlers = record {
    around = h.around;
    ways = ways_right w h.around (any_leave body) (handlers_leave all) h.ways;
    before = [];
    unbroken = back_empty own_faults handler_faults h.unbroken;
    restricted = back_empty forbidden (restrictions.handlers_faults all) h.restricted;
  }
