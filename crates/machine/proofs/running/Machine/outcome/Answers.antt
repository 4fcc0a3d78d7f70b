use Rattle.std.proofs.Common.{◌≡◌, of_z, refl, rules, to_z, w64, ◌∙◌}
use Rattle.machine.proofs.running.Machine.outcome.Goals as goal

pub returns-in-Some-Unhandled-clause-last : goal.returns-in-Some-Unhandled-clause-last
returns-in-Some-Unhandled-clause-last g c =
    let back : to_z w64 (of_z w64 c.now-time.result) ≡ c.now-time.result = search rules in
    (_, refl, back ∙ c.now-time.ensures)
