use Rattle.std.proofs.Common.{rules, ◌≡◌, ◌∙◌, of_z, to_z, w64}
use Rattle.tasking.specs.Held.{kernel_of}
use Rattle.tracing.proofs.Parts.{last_begun, on_err}
use Rattle.tracing.proofs.Traced.{start_parts}
use Rattle.tracing.proofs.tracing_of.write_start.Goals as goal

pub returns-clause-beginning : goal.returns-clause-beginning
returns-clause-beginning g c =
    let now : to_z w64 (of_z w64 c.now-now.result) ≡ c.now-now.result = search rules in
    let is = start_parts c.args.image.now c.args.objects.now (g.O.Origins.known c.args.origins.now) c.args.lines.now (kernel_of c.args.machine.now.tasking) _ _ _ (now ∙ c.now-now.ensures) (now ∙ c.now-now.ensures) (c.as_slice.ensures.value ∙ c.starts.ensures) in
    on_err _ _ _ (last_begun _ _ _ _ _ _ is c.in-Ok.ensures.whole) c.write_events.ensures.beginning
