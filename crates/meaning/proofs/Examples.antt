-- Programs worked by computation: what their runs write.
use Rattle.std.proofs.Common.{◌≡◌, ℕ, zero, suc, ◌+◌, List, [], ◌∷◌, ◌++◌, Option, Some, None, false, true, refl}
use Rattle.std.specs.Prelude.{pos, codes, decimal}
use Rattle.std.specs.Fmt.{digits}
use Rattle.ada_tree.specs.declared.expression.Identifier.{Identifier}
use Rattle.ada_tree.specs.declared.expression.UnaryOperator.TheVariants as unary
use Rattle.ada_tree.specs.declared.expression.BinaryOperator.{BinaryOperator}
use Rattle.ada_tree.specs.declared.expression.BinaryOperator.TheVariants as binary
use Rattle.ada_tree.specs.declared.statement.ExceptionChoice.TheVariants as choice
use Rattle.ada_tree.specs.declared.program.MainStatement.{MainStatement}
use Rattle.ada_tree.specs.declared.program.MainStatement.TheVariants as main
use Rattle.ada_tree.specs.ExpressionTree.{ExprTree, Number, Parenthesized, Unary, Binary, NoSelectors, MoreSelectors, Arguments, MoreArguments, NoArguments, Value, Text}
use Rattle.ada_tree.specs.StatementTree.{StmtTree, Null, Call, Block, stmts_of, HandlerTrees, NoHandlers, MoreHandlers}
use Rattle.ada_tree.specs.ProgramTree.{ProgramTree, PackageTree, BodyItemTree, SubprogramBody, OfSubprogram}
use Rattle.ada_tree.specs.declared.program.UnitClause.{UnitClause}
use Rattle.ada_tree.specs.declared.program.UnitName.{UnitName}
use Rattle.meaning.specs.Programs as programs
use Rattle.meaning.specs.Programs.{Program, exception_name}
use Rattle.meaning.specs.Source.{source_text}
use Rattle.meaning.specs.SourceSteps.{covers}

-- Trees without places

abbrev pub named : List ℕ → Identifier
named text = record { name = text; place = 0 }

abbrev pub num : ℕ → ExprTree
num n = Number (pos n) 0

abbrev pub two : BinaryOperator → ExprTree → ExprTree → ExprTree
two operator a b = Binary operator a b

abbrev pub minus : ExprTree → ExprTree
minus e = Unary unary.Minus 0 e

abbrev pub grouped : ExprTree → ExprTree
grouped e = Parenthesized 0 e

-- `Put (label, e);`
abbrev pub put_line : List ℕ → ExprTree → StmtTree
put_line label e = Call (record { first = named (codes "PUT"); selectors = MoreSelectors (Arguments (MoreArguments (Text label 0) (MoreArguments (Value e) NoArguments))) NoSelectors })

-- `name;`
abbrev pub called : List ℕ → StmtTree
called name = Call (record { first = named name; selectors = NoSelectors })

abbrev pub procedure : List ℕ → List StmtTree → HandlerTrees → BodyItemTree
procedure name statements handlers =
    SubprogramBody (record { place = 0; name = named name; formals = []; result = None }) (record { declarations = []; statements = stmts_of statements; handlers = handlers; end_name = named name })

-- `with Control_IO; use Control_IO;`
abbrev control_io : UnitClause
control_io = let unit : UnitName = record { first = named (codes "CONTROL_IO"); second = None } in record { place = 0; unit = unit; used = unit }

abbrev pub package_of : List BodyItemTree → PackageTree
package_of items =
    record {
      clauses = control_io ∷ [];
      declaration = record { place = 0; name = named (codes "APP"); items = OfSubprogram (record { place = 0; name = named (codes "RUN"); formals = []; result = None }) ∷ []; end_name = named (codes "APP") };
      body = record { place = 0; name = named (codes "APP"); items = items; end_name = named (codes "APP") };
      with_name = named (codes "APP");
    }

abbrev pub program_of : Option PackageTree → List MainStatement → ProgramTree
program_of p statements = record { pragmas = []; package_ = p; main = record { place = 0; name = named (codes "MAIN"); aspect = None; statements = statements; end_name = named (codes "MAIN") } }

abbrev pub run_app : MainStatement
run_app = main.Call (named (codes "APP")) (named (codes "RUN"))

-- main calls Run once
abbrev pub runs : List StmtTree → ProgramTree
runs statements = program_of (Some (package_of (procedure (codes "RUN") statements NoHandlers ∷ []))) (run_app ∷ [])

-- `procedure Main is begin null; end Main;`

empty_main : source_text (program_of None (main.Null 0 ∷ [])) [] 2 ≡ codes "ended at 0\n"
unfolding digits
empty_main = refl

cut_main : source_text (program_of None (main.Null 0 ∷ [])) [] 1 ≡ codes "step limit at 0\n"
unfolding digits
cut_main = refl

-- `Put ("a", 2 + 3 * 4); Put ("b", -(7 - 10));`

abbrev pub sums : ProgramTree
sums = runs (put_line (codes "a") (two binary.Add (num 2) (two binary.Multiply (num 3) (num 4))) ∷ put_line (codes "b") (minus (grouped (two binary.Subtract (num 7) (num 10)))) ∷ [])

pub sums_text : source_text sums [] 20 ≡ codes "0 MAIN a 14\n0 MAIN b 3\nended at 0\n"
unfolding digits
sums_text = refl

-- Overflow: the lines before it stay, nothing comes after it, and the run has its outcome (RM 4.5, 11.4.1)

abbrev pub most : ExprTree
most = num 9223372036854775807

abbrev pub overflow : ProgramTree
overflow = runs (put_line (codes "a") most ∷ put_line (codes "b") (two binary.Add most (num 1)) ∷ put_line (codes "c") (num 2) ∷ [])

pub overflow_text : source_text overflow [] 20 ≡ codes "0 MAIN a 9223372036854775807\nunhandled CONSTRAINT_ERROR in MAIN at 0\n"
unfolding digits
overflow_text = refl

-- each intermediate result is checked: `9223372036854775807 + 1 - 1`
between_text : source_text (runs (put_line (codes "a") (two binary.Subtract (two binary.Add most (num 1)) (num 1)) ∷ [])) [] 20 ≡ codes "unhandled CONSTRAINT_ERROR in MAIN at 0\n"
unfolding digits
between_text = refl

-- the least value: `-9223372036854775807 - 1`, and one less
least_text : source_text (runs (put_line (codes "a") (two binary.Subtract (minus most) (num 1)) ∷ put_line (codes "b") (two binary.Subtract (minus most) (num 2)) ∷ [])) [] 20 ≡ codes "0 MAIN a -9223372036854775808\nunhandled CONSTRAINT_ERROR in MAIN at 0\n"
unfolding digits
least_text = refl

-- `-7 mod 3`, `(-7) mod 3`, `(-7) rem 3`, `7 mod (-3)`, `-7 / 2` (RM 4.5.5)
division_text :
    source_text
    (runs
    (put_line (codes "a") (minus (two binary.Mod (num 7) (num 3)))
    ∷ put_line (codes "b") (two binary.Mod (grouped (minus (num 7))) (num 3))
    ∷ put_line (codes "c") (two binary.Rem (grouped (minus (num 7))) (num 3))
    ∷ put_line (codes "d") (two binary.Mod (num 7) (grouped (minus (num 3))))
    ∷ put_line (codes "e") (minus (two binary.Divide (num 7) (num 2)))
    ∷ []))
    [] 20
    ≡ codes "0 MAIN a -1\n0 MAIN b 2\n0 MAIN c -1\n0 MAIN d -2\n0 MAIN e -3\nended at 0\n"
unfolding digits
division_text = refl

-- Calls: main calls twice; a procedure calls another one and goes on; one that calls itself meets the limit of frames (RM 6.4, 11.1)

abbrev calls_twice : ProgramTree
calls_twice = program_of (Some (package_of (procedure (codes "RUN") (Null 0 ∷ put_line (codes "r") (num 1) ∷ []) NoHandlers ∷ []))) (run_app ∷ main.Null 0 ∷ run_app ∷ [])

calls_twice_text : source_text calls_twice [] 20 ≡ codes "0 MAIN r 1\n0 MAIN r 1\nended at 0\n"
unfolding digits
calls_twice_text = refl

abbrev calls_other : ProgramTree
calls_other =
    program_of
    (Some (package_of (procedure (codes "INNER") (put_line (codes "i") (num 2) ∷ []) NoHandlers ∷ procedure (codes "RUN") (called (codes "INNER") ∷ put_line (codes "r") (num 1) ∷ []) NoHandlers ∷ [])))
    (run_app ∷ [])

calls_other_text : source_text calls_other [] 20 ≡ codes "0 MAIN i 2\n0 MAIN r 1\nended at 0\n"
unfolding digits
calls_other_text = refl

-- main takes a frame, and 127 calls are open when the 128th is refused
calls_itself_text : source_text (runs (called (codes "RUN") ∷ [])) [] 800 ≡ codes "unhandled STORAGE_ERROR in MAIN at 0\n"
unfolding digits
calls_itself_text = refl

-- a chain of n + 1 calls: with main's own frame 128 frames may be open
abbrev link : ℕ → List ℕ
link n = codes "P" ++ decimal n

abbrev chain : ℕ → List BodyItemTree
chain zero = procedure (link 0) (put_line (codes "d") (num 1) ∷ []) NoHandlers ∷ []
chain (suc n) = procedure (link (suc n)) (called (link n) ∷ []) NoHandlers ∷ chain n

abbrev deep : ℕ → ProgramTree
deep n = program_of (Some (package_of (chain n))) (main.Call (named (codes "APP")) (named (link n)) ∷ [])

deep_text : source_text (deep 126) [] 800 ≡ codes "0 MAIN d 1\nended at 0\n"
unfolding digits
deep_text = refl

too_deep_text : source_text (deep 127) [] 800 ≡ codes "unhandled STORAGE_ERROR in MAIN at 0\n"
unfolding digits
too_deep_text = refl

-- Handlers: the first one that covers the exception, from the statements of its own sequence or from a call within them (RM 11.4)

abbrev handler_of : List ℕ → StmtTree → HandlerTrees → HandlerTrees
handler_of name s rest = MoreHandlers (choice.Exception (named name) ∷ []) (stmts_of (s ∷ [])) rest

abbrev handled : ProgramTree
handled =
    program_of
    (Some
    (package_of
    (procedure (codes "INNER") (put_line (codes "i") (two binary.Add most (num 1)) ∷ []) (handler_of (codes "PROGRAM_ERROR") (put_line (codes "p") (num 1)) NoHandlers)
    ∷ procedure (codes "RUN") (called (codes "INNER") ∷ put_line (codes "r") (num 2) ∷ []) (handler_of (codes "PROGRAM_ERROR") (put_line (codes "p") (num 3)) (handler_of (codes "CONSTRAINT_ERROR") (put_line (codes "c") (num 4)) NoHandlers))
    ∷ [])))
    (run_app ∷ run_app ∷ [])

handled_text : source_text handled [] 60 ≡ codes "0 MAIN c 4\n0 MAIN c 4\nended at 0\n"
unfolding digits
handled_text = refl

-- a handler covers no exception of its own statements (RM 11.4)
own_text : source_text (program_of (Some (package_of (procedure (codes "RUN") (put_line (codes "a") (two binary.Add most (num 1)) ∷ []) (MoreHandlers (choice.Others 0 ∷ []) (stmts_of (put_line (codes "b") (two binary.Multiply most (num 2)) ∷ [])) NoHandlers) ∷ []))) (run_app ∷ [])) [] 60 ≡ codes "unhandled CONSTRAINT_ERROR in MAIN at 0\n"
unfolding digits
own_text = refl

-- a block's handler (RM 5.6, 11.2): what comes after the block goes on
block_text : source_text (runs (Block 0 [] (stmts_of (put_line (codes "a") (two binary.Add most (num 1)) ∷ put_line (codes "x") (num 9) ∷ [])) (MoreHandlers (choice.Others 0 ∷ []) (stmts_of (put_line (codes "b") (num 2) ∷ [])) NoHandlers) ∷ put_line (codes "c") (num 3) ∷ [])) [] 60 ≡ codes "0 MAIN b 2\n0 MAIN c 3\nended at 0\n"
unfolding digits
block_text = refl

-- The steps of the first example one by one, and no more lines after the outcome

steps_text : source_text sums [] 2 ≡ codes "step limit at 0\n"
unfolding digits
steps_text = refl

first_line_text : source_text sums [] 3 ≡ codes "0 MAIN a 14\nstep limit at 0\n"
unfolding digits
first_line_text = refl

over_text : source_text sums [] 1000 ≡ codes "0 MAIN a 14\n0 MAIN b 3\nended at 0\n"
unfolding digits
over_text = refl

-- Exception 0 is none: it has no name, and no handler of a name covers it

none_is_unnamed : (p : Program) → exception_name p 0 ≡ []
none_is_unnamed p = refl

abbrev sums_program : Program
sums_program = programs.program_of sums

first_is_named : exception_name sums_program 1 ≡ codes "CONSTRAINT_ERROR"
first_is_named = refl

none_is_uncovered : covers sums_program 0 (choice.Exception (named (codes "CONSTRAINT_ERROR"))) ≡ false
none_is_uncovered = refl

first_is_covered : covers sums_program 1 (choice.Exception (named (codes "CONSTRAINT_ERROR"))) ≡ true
first_is_covered = refl
