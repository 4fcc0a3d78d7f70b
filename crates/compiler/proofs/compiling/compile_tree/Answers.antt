use Rattle.std.proofs.Common.{ap, rules, subst, sym}
use Rattle.ada_tree.specs.ProgramTree.{program_tree}
use Rattle.package_code.specs.Places.{PlacesTell}
use Rattle.compiler.proofs.Bounded.{bounded}
use Rattle.compiler.proofs.Refusals.{compiling_refused}
use Rattle.compiler.proofs.MemoryAlone.{memory_alone}
use Rattle.compiler.proofs.compiling.compile_tree.Goals as goal

pub returns-in_err-parts-clause-refused : goal.returns-in_err-parts-clause-refused
returns-in_err-parts-clause-refused c =
    let t = program_tree c.args.accepted.now in
    let parsed = c.program-program.ensures.parsed in
    let whole = compiling_refused t
    (c.limits_are_told.ensures parsed.is.limit t parsed.tokens parsed.is.tree c.program-program.ensures.legal c.program-program.ensures.restricted)
    c.in_err-parts.field-0.0 c.in_err-parts.ensures.refused in
    search (rules, whole, c.from_residual.ensures)

pub returns-in-Ok-clause-means : goal.returns-in-Ok-clause-means
returns-in-Ok-clause-means c =
    rw c.in-Ok.ensures.same
    (c.sections_mean_the_same.ensures _ _ c.program-program.ensures.legal c.program-program.ensures.restricted c.in-Ok.ensures.well_formed
    c.in_ok-parts.ensures.program).0

pub returns-in-Ok-clause-counted : goal.returns-in-Ok-clause-counted
returns-in-Ok-clause-counted c =
    rw c.in-Ok.ensures.same
    (c.sections_mean_the_same.ensures _ _ c.program-program.ensures.legal c.program-program.ensures.restricted c.in-Ok.ensures.well_formed
    c.in_ok-parts.ensures.program).1

pub returns-in-Ok-clause-bounded : goal.returns-in-Ok-clause-bounded
returns-in-Ok-clause-bounded c = rw c.in-Ok.ensures.same (bounded c.sections_are_bounded.ensures _ _ c.in_ok-parts.ensures.program)

pub returns-in-Ok-clause-within : goal.returns-in-Ok-clause-within
returns-in-Ok-clause-within c =
    rw c.in-Ok.ensures.same
    (c.sections_keep_token_counts.ensures _ _ c.program-program.ensures.legal c.program-program.ensures.restricted c.in-Ok.ensures.well_formed
    c.in_ok-parts.ensures.program)

pub unreachable-requires : goal.unreachable-requires
unreachable-requires c =
    let alone =
    memory_alone _ c.in-Err.fault
    (c.sections_are_well_formed.ensures _ _ c.program-program.ensures.legal c.program-program.ensures.restricted c.in_ok-parts.ensures.program c.in_ok-parts.ensures.tables)
    c.in-Err.ensures.refused in
    c.if-fault-eq-MEMORY_REFUSED.false (ap (λ f. f.number) alone)

pub returns-in-Ok-clause-places : goal.returns-in-Ok-clause-places
returns-in-Ok-clause-places c =
    rw c.in-Ok.ensures.same
    (subst (PlacesTell (program_tree c.args.accepted.now) c.in_ok-parts.field-0.parts) (sym c.new.ensures)
    (c.places_are_told.ensures _ _ _ c.program-program.ensures.legal c.program-program.ensures.restricted c.in-Ok.ensures.well_formed
    c.in_ok-parts.ensures.places))
