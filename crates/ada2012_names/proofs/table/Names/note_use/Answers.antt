use Rattle.std.proofs.Common.{length, subst, sym}
use Rattle.ada2012_names.specs.Tables.{DenotesKnown, Rows}
use Rattle.ada2012_names.proofs.Tables.{notes}
use Rattle.ada2012_names.proofs.table.Names.note_use.Goals as goal

pub invariant_of-self-then-lies_between : goal.invariant_of-self-then-lies_between
invariant_of-self-then-lies_between c =
    let lies = c.lies_between.ensures c.if-lies_between.true in
    notes _ c.self.invariant
    (subst (λ (r : Rows). DenotesKnown (length r.entities) c.known_denoted-denoted.result) (sym c.self.view_is) c.known_denoted-denoted.ensures)
    lies.0 lies.1 lies.2 c.in_ok-push.ensures.items
