use Rattle.std.proofs.Common.{◌≡◌, ap, get_or, sym, ◌∙◌}
use Rattle.execution.specs.Held.{world_of}
use Rattle.searching.proofs.Seeing.{blind_at, reads_nothing}
use Rattle.searching.proofs.moment.may_leave.Goals as goal

pub returns-else-is_input : goal.returns-else-is_input
returns-else-is_input g c = λ e.
    let i = c.args.execution.now.image in
    let x = c.in-Some-get.instruction.now in
    let address = c.in-Some.address in
    let list : c.instructions.result.now ≡ i.instructions = c.instructions.ensures.same ∙ ap (λ j. j.instructions) c.image.ensures in
    reads_nothing i (world_of c.args.execution.now) address (sym c.in-Some.is ∙ c.address_ahead.ensures)
    (blind_at i.instructions address x (c.in-Some-get.ensures.lookup.3.1 x ∙ (λ j. get_or (list j) (c.from.ensures j) x)) (sym c.is_input.ensures ∙ c.if-is_input.false))
