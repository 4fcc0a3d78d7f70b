use Rattle.std.proofs.Common.{◌≡◌, ◌∷◌, ◌++◌, [], rules, ap, to_z, of_z, w64, ◌∙◌}
use Rattle.tasking.proofs.Moves.{asleep_is, asleep_kept, asleep_room, seen}
use Rattle.tasking.proofs.tasking.Tasking.falls_asleep.Goals as goal

pub add-requires : goal.add-requires
add-requires g c = record {
  room = asleep_room
      (seen c.self.view_is) c.args.self.now c.self.view_is c.self.invariant c.args.task c.requires.task c.requires.nowhere;
}

pub invariant_of-self : goal.invariant_of-self
invariant_of-self g c =
    let same : to_z w64 (of_z w64 c.args.wake) ≡ c.args.wake = search rules in
    asleep_kept (seen c.self.view_is) c.args.self.now c.self.view_is c.self.invariant c.args.task c.from.result c.args.wake
    (g.D.Delays.sleepers c.add.new.self) c.from.ensures c.requires.task c.requires.nowhere
    (c.add.ensures ∙ ap (λ w. g.D.Delays.sleepers c.self.inside.delays ++ record { task = c.args.task; wake = w } ∷ []) same)

pub returns : goal.returns
returns g c =
    let same : to_z w64 (of_z w64 c.args.wake) ≡ c.args.wake = search rules in
    asleep_is (seen c.self.view_is) c.args.self.now c.self.view_is c.self.invariant c.args.task c.from.result c.args.wake
    (g.D.Delays.sleepers c.add.new.self) c.from.ensures c.requires.task
    (c.add.ensures ∙ ap (λ w. g.D.Delays.sleepers c.self.inside.delays ++ record { task = c.args.task; wake = w } ∷ []) same)
