-- Trees with their depth and size, token lists that spell them, and limits that refuse them, as the definitions say.
use Rattle.std.proofs.Common.{◌≡◌, ℕ, List, [], ◌∷◌, Some, None, refl}
use Rattle.std.specs.Prelude.{codes, pos}
use Rattle.lexer.specs.declared.token.Token.{Token}
use Rattle.lexer.specs.declared.token.TokenKind.{TokenKind}
use Rattle.lexer.specs.declared.token.TokenKind.TheVariants as kinds
use Rattle.lexer.specs.declared.delimiter.Delimiter.TheVariants as marks
use Rattle.ada_tree.specs.declared.expression.Identifier.{Identifier}
use Rattle.ada_tree.specs.declared.expression.BinaryOperator.TheVariants as binary
use Rattle.ada_tree.specs.declared.program.MainStatement.TheVariants as main_statements
use Rattle.ada_tree.specs.ExpressionTree.{ExprTree, Number, Named, Parenthesized, Conditional, Binary, NoElsifValues, NoSelectors, MoreSelectors, Component, Arguments, NoArguments, MoreArguments, Value}
use Rattle.ada_tree.specs.StatementTree.{StmtTree, Null, Call, If, Loop, Block, Forever, While, StmtTrees, NoStmts, MoreStmts, NoElsifs, MoreElsifs, NoHandlers}
use Rattle.ada_tree.specs.ProgramTree.{Array, OfSubtype, OfRange, ProgramTree}
use Rattle.ada_tree.specs.Language.{Tokens}
use Rattle.ada_tree.specs.ExpressionGrammar.{expression}
use Rattle.ada_tree.specs.StatementGrammar.{stmt}
use Rattle.ada_tree.specs.Depth.{expr_depth, stmt_depth, definition_depth, depth}
use Rattle.ada_tree.specs.Size.{expr_size, stmt_size, size}

abbrev name : List ℕ → ℕ → Identifier
name characters place = record { name = characters; place = place }

abbrev at : TokenKind → ℕ → ℕ → Token
at kind start end_ = record { kind = kind; start = start; end_ = end_ }

abbrev one : ℕ → ExprTree
one place = Number (pos 1) place

abbrev variable : List ℕ → ℕ → ExprTree
variable characters place = Named (name characters place) NoSelectors

abbrev only : StmtTree → StmtTrees
only s = MoreStmts s NoStmts

-- ---- expressions

-- ((1))
abbrev twice : ExprTree
twice = Parenthesized 0 (Parenthesized 1 (one 2))

twice_deep : expr_depth twice ≡ 2
twice_deep = refl

twice_large : expr_size twice ≡ 3
twice_large = refl

abbrev twice_tokens : Tokens
twice_tokens =
    at (kinds.Delimiter marks.LeftParenthesis) 0 1
    ∷ at (kinds.Delimiter marks.LeftParenthesis) 1 2
    ∷ at (kinds.Number (pos 1)) 2 3
    ∷ at (kinds.Delimiter marks.RightParenthesis) 3 4
    ∷ at (kinds.Delimiter marks.RightParenthesis) 4 5
    ∷ []

twice_spelled : expression (Some 2) twice twice_tokens
twice_spelled = (
  refl,
  (
    _ ∷ [],
    _,
    refl,
    (_, refl, refl, refl),
    (
      at (kinds.Delimiter marks.LeftParenthesis) 1 2 ∷ at (kinds.Number (pos 1)) 2 3 ∷ at (kinds.Delimiter marks.RightParenthesis) 3 4 ∷ [],
      _ ∷ [],
      refl,
      (refl, (_ ∷ [], _, refl, (_, refl, refl, refl), (at (kinds.Number (pos 1)) 2 3 ∷ [], _ ∷ [], refl, (refl, (_, refl, refl, refl)), (_, refl, refl)))),
      (_, refl, refl),
    ),
  ),
)

-- one level is too few
twice_refused : expression (Some 1) twice twice_tokens → ⊥
twice_refused h = h.1.4.3.1

-- (1) + (1): one after the other
side_by_side : expr_depth (Binary binary.Add (Parenthesized 0 (one 1)) (Parenthesized 6 (one 7))) ≡ 1
side_by_side = refl

sum_large : expr_size (Binary binary.Add (Parenthesized 0 (one 1)) (Parenthesized 6 (one 7))) ≡ 5
sum_large = refl

-- (if a then 1 else (1)): its parenthesis, its `if`, and the parenthesis in it
choice_deep : expr_depth (Conditional 0 (variable (codes "a") 4) (one 11) NoElsifValues (Parenthesized 18 (one 19))) ≡ 3
choice_deep = refl

-- the if expression, a, 1, the parentheses and 1
choice_large : expr_size (Conditional 0 (variable (codes "a") 4) (one 11) NoElsifValues (Parenthesized 18 (one 19))) ≡ 5
choice_large = refl

-- a (b (1), 1).c: the second argument is one level down, the first holds one more
abbrev indexed : ExprTree
indexed =
    Named (name (codes "a") 0) (MoreSelectors (Arguments (MoreArguments (Value (Named (name (codes "b") 3) (MoreSelectors (Arguments (MoreArguments (Value (one 6)) NoArguments)) NoSelectors)))
    (MoreArguments (Value (one 10)) NoArguments))) (MoreSelectors (Component (name (codes "c") 13)) NoSelectors))

indexed_deep : expr_depth indexed ≡ 2
indexed_deep = refl

-- two names, two pairs of parentheses, three arguments, two numbers and a component
indexed_large : expr_size indexed ≡ 10
indexed_large = refl

-- ---- statements

-- if a then null; end if;
branch_deep : stmt_depth (If 0 (variable (codes "a") 3) (only (Null 10)) NoElsifs NoStmts) ≡ 1
branch_deep = refl

branch_large : stmt_size (If 0 (variable (codes "a") 3) (only (Null 10)) NoElsifs NoStmts) ≡ 3
branch_large = refl

-- loop begin null; end; end loop;
abbrev block_in_loop : StmtTree
block_in_loop = Loop 0 Forever (only (Block 5 [] (only (Null 11)) NoHandlers))

block_in_loop_deep : stmt_depth block_in_loop ≡ 2
block_in_loop_deep = refl

-- the loop, its head, the block and the null statement
block_in_loop_large : stmt_size block_in_loop ≡ 4
block_in_loop_large = refl

-- one level is too few, whatever the tokens
block_in_loop_refused : (ts : Tokens) → stmt block_in_loop (Some 1) ts → ⊥
block_in_loop_refused ts h = h.4.3.3

-- The condition of a loop is in the loop. while (a) loop null; end loop;
loop_head_deep : stmt_depth (Loop 0 (While (Parenthesized 6 (variable (codes "a") 7))) (only (Null 15))) ≡ 2
loop_head_deep = refl

-- A branch after `elsif` is no deeper than the first. if a then null; elsif b then null; else null; end if;
elsif_deep : stmt_depth (If 0 (variable (codes "a") 3) (only (Null 10)) (MoreElsifs (variable (codes "b") 22) (only (Null 29)) NoElsifs) (only (Null 40))) ≡ 1
elsif_deep = refl

-- a (1);
call_deep : stmt_depth (Call (record { first = name (codes "a") 0; selectors = MoreSelectors (Arguments (MoreArguments (Value (one 3)) NoArguments)) NoSelectors })) ≡ 1
call_deep = refl

-- ---- whole texts

-- type t is array (a) of b;
array_deep : definition_depth (Array (OfSubtype (name (codes "a") 17)) (name (codes "b") 23)) ≡ 1
array_deep = refl

-- type t is array (1 .. (1)) of b;
array_range_deep : definition_depth (Array (OfRange (record { first = one 17; last = Parenthesized 22 (one 23) })) (name (codes "b") 30)) ≡ 2
array_range_deep = refl

-- procedure m is begin null; end m;
abbrev smallest : ProgramTree
smallest =
    record {
      pragmas = [];
      package_ = None;
      main = record { place = 0; name = name (codes "m") 10; aspect = None; statements = main_statements.Null 21 ∷ []; end_name = name (codes "m") 31 };
    }

smallest_deep : depth smallest ≡ 0
smallest_deep = refl

-- main and its statement
smallest_large : size smallest ≡ 2
smallest_large = refl
