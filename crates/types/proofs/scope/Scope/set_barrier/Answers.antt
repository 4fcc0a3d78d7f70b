use Rattle.std.proofs.Common.{map, sym, ap, subst, ◌∙◌}
use Rattle.std.specs.Option.{option_copied_mut}
use Rattle.types.specs.Scopes.{barred, entry_value, with_barrier}
use Rattle.types.proofs.Barring.{kept_changed, none_changed, put_changed, same_one_barred, same_shape_barred}
use Rattle.types.proofs.Counting.{AreCounted, counted_changed}
use Rattle.types.proofs.Sizes.{AreKept}
use Rattle.types.proofs.scope.Scope.set_barrier.Goals as goal
use Rattle.types.proofs.scope.Scope.set_barrier.Goals.{in-Some, in_default}

pub returns : goal.returns
returns c =
    elim c.match-get_index_mut.branch [
      | in-Some w ↦
          ap (λ s. map entry_value s.names.entries) w.self-inside-is
          ∙ put_changed (barred c.args.barrier) w.in-Some.declared.now w.set_barrier.new.self w.set_barrier.ensures.entity w.set_barrier.ensures.words c.self.inside.names.entries c.args.number (ap option_copied_mut (sym w.in-Some.is) ∙ c.get_index_mut.ensures.value)
          ∙ ap (λ s. with_barrier s c.args.number c.args.barrier) c.self.view_is
      | in_default w ↦
          ap (λ s. map entry_value s.names.entries) w.self-inside-is
          ∙ sym (none_changed (barred c.args.barrier) c.self.inside.names.entries c.args.number (ap option_copied_mut (sym w.in_default.is) ∙ c.get_index_mut.ensures.value))
          ∙ ap (λ s. with_barrier s c.args.number c.args.barrier) c.self.view_is
    ]

pub invariant_of-self : goal.invariant_of-self
invariant_of-self c =
    let es = c.self.inside.names.entries in
    elim c.match-get_index_mut.branch [
      | in-Some w ↦
          let found = ap option_copied_mut (sym w.in-Some.is) ∙ c.get_index_mut.ensures.value in
          let entity = w.set_barrier.ensures.entity in
          let words = w.set_barrier.ensures.words in
          let old = w.in-Some.declared.now in
          let new = w.set_barrier.new.self in
          let now = sym (ap (λ s. s.names.entries) w.self-inside-is) in (
            subst AreKept now (kept_changed (barred c.args.barrier) old new entity words (same_shape_barred c.args.barrier) es c.args.number found c.self.invariant.0),
            subst AreCounted now (counted_changed (barred c.args.barrier) (same_one_barred c.args.barrier) old new w.set_barrier.ensures.objects es c.args.number found (put_changed (barred c.args.barrier) old new entity words es c.args.number found) c.self.invariant.1),
          )
      | in_default w ↦
          let now = sym (ap (λ s. s.names.entries) w.self-inside-is) in
          (subst AreKept now c.self.invariant.0, subst AreCounted now c.self.invariant.1)
    ]
