use Rattle.std.proofs.Common.{ap, sym, ◌∙◌}
use Rattle.std.specs.Option.{option_copied}
use Rattle.kernel.specs.Clock.{next}
use Rattle.tasking.proofs.Delivering.{first_line, first_slice, none_first}
use Rattle.tasking.proofs.tasking.Tasking.next_time.Goals as goal

pub returns-in-None-clause-time : goal.returns-in-None-clause-time
returns-in-None-clause-time g c =
    c.next_wake.ensures
    ∙ (none_first c.pass_lines.new.self
    (ap (λ v. first_line v.ahead) (sym c.self.view_is) ∙ (first_slice c.self.inside.ahead.now ∙ (sym c.first.ensures.value ∙ ap option_copied c.in-None.is))) ∙ ap next c.pass_lines.ensures.same)

pub returns-in-Some-clause-time : goal.returns-in-Some-clause-time
returns-in-Some-clause-time g c = c.earlier.ensures ∙ ap next c.pass_lines.ensures.same
