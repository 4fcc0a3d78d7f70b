use Rattle.std.proofs.Common.{◌≡◌, rules, sym, ap, ◌∙◌, subst}
use Rattle.ada_tree.specs.ProgramTree.{program_tree}
use Rattle.program_soundness.specs.Fronts.{front}
use Rattle.expr_code.specs.Code.{here}
use Rattle.step_simulation.specs.part_code.specs.Bounds.{main_bound}
use Rattle.step_simulation.specs.part_code.specs.Needs.{RefusesMain, are_unknown}
use Rattle.stmt_code.specs.Subprograms.{AddsMain, CallsProcedures}
use Rattle.compiler.specs.Stopped.{IsFirstHalt}
use Rattle.compiler.proofs.Refusals.{seen_last}
use Rattle.compiler.proofs.Stopped.{halts_in_main, halts_in_package}
use Rattle.compiler.proofs.stopping.make_all.Goals as goal

pub walk_over-requires : goal.walk_over-requires
walk_over-requires c =
    let t = program_tree c.args.accepted.now in
    record {
      objects = (c.tables_are_small.ensures t c.program-program.ensures.legal c.program-program.ensures.restricted).objects;
      covered = c.names_are_covered.ensures c.program-program.ensures.parsed.is.limit t c.program-program.ensures.parsed.tokens
          c.program-program.ensures.parsed.is.tree c.program-program.ensures.legal c.program-program.ensures.restricted;
      directory = c.in_ok-exceptions.ensures.directory;
      exceptions = c.in_ok-exceptions.ensures.globals.exceptions;
    }

pub returns-in_err-walk-clause-halts : goal.returns-in_err-walk-clause-halts
returns-in_err-walk-clause-halts c =
    let whole = halts_in_package (program_tree c.args.accepted.now) c.in_err-walk.field-0.0 c.in_err-walk.ensures.halts in
    search (rules, whole, c.from_residual-in_err-walk.ensures)

pub main-requires : goal.main-requires
main-requires c =
    let t = program_tree c.args.accepted.now in
    let walk = c.in_ok-walk.walk in
    let s = walk.visible.scope in
    record {
      called = subst (CallsProcedures s) (sym (c.deref.ensures.value ∙ ap (λ p. p.main.statements.items) c.program-program.ensures.same))
          (subst (λ z. CallsProcedures z t.main.statements) (sym (c.in_ok-walk.ensures.walked.scope ∙ ap (front t) c.in_ok-walk.ensures.whole))
          (c.main_may_be_added.ensures t c.program-program.ensures.legal c.program-program.ensures.restricted));
      known = (λ j. are_unknown (seen_last t walk c.in_ok-walk.ensures.told c.in_ok-walk.ensures.whole j)
          ((c.deref.ensures.value ∙ ap (λ p. p.main.statements.items) c.program-program.ensures.same) j))
          ∙ c.main_is_known.ensures t c.program-program.ensures.legal c.program-program.ensures.restricted;
    }

pub returns-in-Ok-clause-made : goal.returns-in-Ok-clause-made
returns-in-Ok-clause-made c =
    let walk = c.in_ok-walk.walk in
    record {
      directory = c.in_ok-exceptions.field-0.directory;
      walk = walk;
      walked = c.in_ok-walk.ensures.walked;
      whole = c.in_ok-walk.ensures.whole;
      words = c.in-Ok.field-0;
      draft = c.main.new.self;
      main = subst (λ l. AddsMain walk.visible walk.draft l c.in-Ok.field-0 c.main.new.self)
          (c.deref.ensures.value ∙ ap (λ p. p.main.statements.items) c.program-program.ensures.same) c.in-Ok.ensures.adds;
    }

pub returns-clause-halts : goal.returns-clause-halts
returns-clause-halts c =
    let t = program_tree c.args.accepted.now in
    let walk = c.in_ok-walk.walk in
    let before : c.len-before.result ≡ here walk.draft.code = search rules in
    let place = ap (λ p. p.main.name.place) c.program-program.ensures.same in
    let refused = subst (λ l. RefusesMain walk.visible walk.draft.code l (main_bound l) c.in-Err.why)
    (c.deref.ensures.value ∙ ap (λ p. p.main.statements.items) c.program-program.ensures.same) c.in-Err.ensures.refused in
    subst (IsFirstHalt t) (sym c.halt_for.ensures)
    (halts_in_main t c.in_ok-exceptions.field-0.directory walk c.in_ok-walk.ensures.walked c.in_ok-walk.ensures.whole _ c.len-before.result place before
    c.in-Err.why refused)
