-- Statements stand as they do with more ways out.
use Rattle.std.proofs.Common.{◌≡◌, ℕ, suc, Some, None}
use Rattle.ada_tree.specs.ExpressionTree.{ExprTree}
use Rattle.ada_tree.specs.StatementTree.{AlternativeTrees, Assignment, Block, Call, Case, DelayUntil, ElsifTrees, Exit, For, Forever, HandlerTrees, If, Loop, MoreAlternatives, MoreElsifs, MoreHandlers, MoreStmts, NoAlternatives, NoElsifs, NoHandlers, NoStmts, Null, Raise, Return, StmtTree, StmtTrees, While}
use Rattle.image.specs.Sections.{Sections}
use Rattle.expr_soundness.specs.meaning.specs.Programs.{Program}
use Rattle.expr_code.specs.Seeing.{Package}
use Rattle.part_code.specs.Resting.{Framed}
use Rattle.part_code.specs.Handling.{Handling}
use Rattle.part_code.specs.Statements.{AreAlternatives, AreHandlers, AreStatements, IsOtherwise, IsSequence, IsStatement, Numbers, Ways, within_handler, within_loop}

-- each way out of the one is one of the other, and leads to the same place
pub record Opens (one other : Ways) : Type 0 where
  pub exit : (place : ℕ) → one.exit ≡ Some place → other.exit ≡ Some place
  pub return : (place : ℕ) → one.return ≡ Some place → other.return ≡ Some place
  pub handled : (word : ℕ) → one.handled ≡ Some word → other.handled ≡ Some word

in_both_loops : (out : ℕ) (one other : Ways) → Opens one other → Opens (within_loop out one) (within_loop out other)
in_both_loops out one other o = record { exit = λ place e. e; return = o.return; handled = o.handled }

in_both_handlers : (word : ℕ) (one other : Ways) → Opens one other → Opens (within_handler word one) (within_handler word other)
in_both_handlers word one other o = record { exit = o.exit; return = o.return; handled = λ place e. e }

-- without a return, and with one
pub opens_return : (out : ℕ) (w : Ways) → Opens (record w { return = None }) (record w { return = Some out })
opens_return out w = record { exit = λ place e. e; return = λ place e. absurd cc; handled = λ place e. e }

-- without an exit, and with one
pub opens_exit : (out : ℕ) (w : Ways) → Opens (record w { exit = None }) (record w { exit = Some out })
opens_exit out w = record { exit = λ place e. absurd cc; return = λ place e. e; handled = λ place e. e }

module _ (i : Sections) (program : Program) (g : Package) (numbers : Numbers) where
  -- a sequence, by its statements and its handlers
  by_parts : (v : Framed) (p q : Ways) (r : Handling) (from to : ℕ) (body : StmtTrees) (hs : HandlerTrees)
      → ((inner : Handling) (a b : ℕ) → AreStatements i program g numbers v p inner a b body → AreStatements i program g numbers v q inner a b body)
      → ((inner : Handling) (a b : ℕ) → AreHandlers i program g numbers v p r inner a b hs → AreHandlers i program g numbers v q r inner a b hs)
      → IsSequence i program g numbers v p r from to body hs → IsSequence i program g numbers v q r from to body hs
  by_parts v p q r from to body NoHandlers one other h = one r from to h
  by_parts v p q r from to body (MoreHandlers choices first rest) one other h =
      (h.0, h.1, h.2, h.3, one h.1 from h.0 h.4, h.5, other h.1 (suc h.0) to h.6)

  mutual
    statement_opened : (v : Framed) (p q : Ways) (o : Opens p q) (r : Handling) (from to : ℕ) (x : StmtTree) → IsStatement i program g numbers v p r from to x
        → IsStatement i program g numbers v q r from to x
    statement_opened v p q o r from to (Null place) h = h
    statement_opened v p q o r from to (Assignment name e) h = h
    statement_opened v p q o r from to (Call name) h = h
    statement_opened v p q o r from to (Exit place None) h = (h.0, o.exit h.0 h.1, h.2, h.3)
    statement_opened v p q o r from to (Exit place (Some e)) h =
        ((h.0.0, h.0.1, o.exit h.0.0 h.0.2, h.0.3, h.0.4, h.0.5, h.0.6), h.1)
    statement_opened v p q o r from to (Return place None) h = (h.0, o.return h.0 h.1, h.2, h.3)
    statement_opened v p q o r from to (Raise place None) h = ((h.0.0, o.handled h.0.0 h.0.1, h.0.2, h.0.3, h.0.4), h.1)
    statement_opened v p q o r from to (Raise place (Some name)) h = h
    statement_opened v p q o r from to (DelayUntil place e) h = h
    statement_opened v p q o r from to (If place e body elsifs others) h = (
      h.0,
      h.1,
      h.2,
      h.3,
      h.4,
      h.5,
      h.6,
      h.7,
      h.8,
      statements_opened v p q o r (suc h.0) h.1 body h.9,
      h.10,
      otherwise_opened v p q o r h.2 to elsifs others (λ x y k. statements_opened v p q o r x y others k) h.11,
      h.12,
    )
    statement_opened v p q o r from to (Case place e all) h = (h.0, h.1, h.2, h.3, alternatives_opened v p q o r h.0 to e all h.4, h.5)
    statement_opened v p q o r from to (Loop place Forever body) h = (
      h.0,
      h.1,
      h.2,
      h.3,
      h.4,
      h.5,
      h.6,
      h.7,
      h.8,
      statements_opened v (within_loop h.1 p) (within_loop h.1 q) (in_both_loops h.1 p q o) r h.0 h.2 body h.9,
      h.10,
      h.11,
    )
    statement_opened v p q o r from to (Loop place (While e) body) h = (
      h.0,
      h.1,
      h.2,
      h.3,
      h.4,
      h.5,
      h.6,
      h.7,
      h.8,
      h.9,
      h.10,
      h.11,
      h.12,
      statements_opened v (within_loop h.1 p) (within_loop h.1 q) (in_both_loops h.1 p q o) r (suc h.2) h.3 body h.13,
      h.14,
      h.15,
      h.16,
    )
    statement_opened v p q o r from to (Loop place (For parameter reversed range) body) h = (
      h.0,
      h.1,
      h.2,
      h.3,
      h.4,
      h.5,
      h.6,
      h.7,
      h.8,
      statements_opened h.7.inner (within_loop h.1 p) (within_loop h.1 q) (in_both_loops h.1 p q o) r h.7.start h.7.back body h.9,
      h.10,
      h.11,
    )
    statement_opened v p q o r from to (Block place ds body hs) h = (
      h.0,
      h.1,
      h.2,
      h.3,
      h.4,
      by_parts h.1 p q r h.0 to body hs (λ inner a b k. statements_opened h.1 p q o inner a b body k) (λ inner a b k. handlers_opened h.1 p q o r inner a b hs k) h.5,
      h.6,
    )
    statement_opened v p q o r from to other h = absurd h

    pub statements_opened : (v : Framed) (p q : Ways) (o : Opens p q) (r : Handling) (from to : ℕ) (body : StmtTrees) → AreStatements i program g numbers v p r from to body
        → AreStatements i program g numbers v q r from to body
    statements_opened v p q o r from to NoStmts h = h
    statements_opened v p q o r from to (MoreStmts x rest) h =
        (h.0, h.1, h.2, statement_opened v p q o r from h.0 x h.3, statements_opened v p q o r h.0 to rest h.4)

    handlers_opened : (v : Framed) (p q : Ways) (o : Opens p q) (r inner : Handling) (from to : ℕ) (all : HandlerTrees)
        → AreHandlers i program g numbers v p r inner from to all → AreHandlers i program g numbers v q r inner from to all
    handlers_opened v p q o r inner from to NoHandlers h = h
    handlers_opened v p q o r inner from to (MoreHandlers choices body rest) h = (
      h.0,
      h.1,
      record {
        goes = h.2.goes;
        later = h.2.later;
        word = h.2.word;
        keeps = h.2.keeps;
        up = h.2.up;
        over = h.2.over;
        statements =
            statements_opened h.2.later (within_handler h.2.word p) (within_handler h.2.word q) (in_both_handlers h.2.word p q o) r (suc from) h.1 body
            h.2.statements;
        jump = h.2.jump;
      },
      handlers_opened v p q o r h.0 (suc h.1) to rest h.3,
    )

    alternatives_opened : (v : Framed) (p q : Ways) (o : Opens p q) (r : Handling) (from to : ℕ) (e : ExprTree) (all : AlternativeTrees)
        → AreAlternatives i program g numbers v p r from to e all → AreAlternatives i program g numbers v q r from to e all
    alternatives_opened v p q o r from to e NoAlternatives h = h
    alternatives_opened v p q o r from to e (MoreAlternatives at choices body rest) h = (
      h.0,
      h.1,
      h.2,
      h.3,
      h.4,
      h.5,
      statements_opened v p q o r h.0 h.1 body h.6,
      h.7,
      alternatives_opened v p q o r (suc h.1) to e rest h.8,
    )

    otherwise_opened : (v : Framed) (p q : Ways) (o : Opens p q) (r : Handling) (from to : ℕ) (all : ElsifTrees) (others : StmtTrees)
        → ((x y : ℕ) → AreStatements i program g numbers v p r x y others → AreStatements i program g numbers v q r x y others)
        → IsOtherwise i program g numbers v p r from to all (λ x y. AreStatements i program g numbers v p r x y others)
        → IsOtherwise i program g numbers v q r from to all (λ x y. AreStatements i program g numbers v q r x y others)
    otherwise_opened v p q o r from to NoElsifs others last h = last from to h
    otherwise_opened v p q o r from to (MoreElsifs e body rest) others last h = (
      h.0,
      h.1,
      h.2,
      h.3,
      h.4,
      h.5,
      h.6,
      h.7,
      h.8,
      statements_opened v p q o r (suc h.0) h.1 body h.9,
      h.10,
      otherwise_opened v p q o r h.2 to rest others last h.11,
      h.12,
    )

  pub sequence_opened : (v : Framed) (p q : Ways) (o : Opens p q) (r : Handling) (from to : ℕ) (body : StmtTrees) (hs : HandlerTrees)
      → IsSequence i program g numbers v p r from to body hs → IsSequence i program g numbers v q r from to body hs
  sequence_opened v p q o r from to body hs h =
      by_parts v p q r from to body hs (λ inner a b k. statements_opened v p q o inner a b body k) (λ inner a b k. handlers_opened v p q o r inner a b hs k) h
