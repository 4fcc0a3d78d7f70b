use Rattle.std.proofs.Common.{sym, subst}
use Rattle.std.specs.Prelude.{IfOk, IfErr}
use Rattle.ada_tree.specs.ProgramTree.{ProgramTree, program_tree}
use Rattle.parser.specs.Parsing.{Derives, GaveTree, IsRefusal}
use Rattle.parser.proofs.programs.Whole.{is_found, is_only, is_refusal}
use Rattle.parser.proofs.parsing.parse.Goals as goal

pub returns-clause-found : goal.returns-clause-found
returns-clause-found c =
    subst (λ out. IfOk out (λ p. Derives (program_tree p) c.args.tokens.now)) (sym c.answer_of.ensures)
    (is_found c.limit_is_depth.ensures c.args.tokens.now c.whole-read.result c.whole-read.ensures)

pub returns-clause-only : goal.returns-clause-only
returns-clause-only c =
    subst (λ out. (t : ProgramTree) → Derives t c.args.tokens.now → GaveTree out t) (sym c.answer_of.ensures)
    (is_only c.limit_is_depth.ensures c.args.tokens.now c.whole-read.result c.whole-read.ensures)

pub returns-clause-fault : goal.returns-clause-fault
returns-clause-fault c =
    subst (λ out. IfErr out (λ f. IsRefusal c.args.tokens.now f)) (sym c.answer_of.ensures)
    (is_refusal c.limit_is_depth.ensures c.args.tokens.now c.whole-read.result c.whole-read.ensures)
