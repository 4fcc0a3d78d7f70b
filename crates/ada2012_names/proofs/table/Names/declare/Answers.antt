use Rattle.std.proofs.Common.{length, subst, sym}
use Rattle.ada2012_names.specs.Tables.{IsKnownEntity, Rows}
use Rattle.ada2012_names.proofs.Tables.{declares}
use Rattle.ada2012_names.proofs.table.Names.declare.Goals as goal

pub invariant_of-self-2 : goal.invariant_of-self-2
invariant_of-self-2 c =
    declares _ c.self.invariant (subst (λ (r : Rows). IsKnownEntity (length r.entities) c.known-within.result) (sym c.self.view_is) c.known-within.ensures)
    (subst (λ (r : Rows). IsKnownEntity (length r.entities) c.known-subtype.result) (sym c.self.view_is) c.known-subtype.ensures) c.in_ok-push.ensures.items
