use Rattle.std.proofs.Common.{map, sym, ap, subst, ◌∙◌}
use Rattle.std.specs.Option.{option_copied_mut}
use Rattle.types.specs.Entities.{operation_value}
use Rattle.types.specs.Scopes.{entry_value, offering, operations_or, protected_at, protected_of, with_operations}
use Rattle.types.proofs.Barring.{entity_found, kept_changed, no_entity_found, none_changed, put_changed, same_one_offering, same_shape_offering}
use Rattle.types.proofs.Counting.{AreCounted, counted_changed}
use Rattle.types.proofs.Sizes.{AreKept}
use Rattle.types.proofs.scope.Scope.replace_operations.Goals as goal
use Rattle.types.proofs.scope.Scope.replace_operations.Goals.{in-Some, in-None}

pub invariant_of-self : goal.invariant_of-self
invariant_of-self c =
    let operations = map operation_value c.args.operations in
    let es = c.self.inside.names.entries in
    elim c.match-get_index_mut.branch [
      | in-Some w ↦
          let found = ap option_copied_mut (sym w.in-Some.is) ∙ c.get_index_mut.ensures.value in
          let entity = w.replace_operations.ensures.entity in
          let words = w.replace_operations.ensures.words in
          let old = w.in-Some.declared.now in
          let new = w.replace_operations.new.self in
          let now = sym (ap (λ s. s.names.entries) w.self-inside-is) in (
            subst AreKept now (kept_changed (offering operations) old new entity words (same_shape_offering operations) es c.args.number found c.self.invariant.0),
            subst AreCounted now (counted_changed (offering operations) (same_one_offering operations) old new w.replace_operations.ensures.objects es c.args.number found (put_changed (offering operations) old new entity words es c.args.number found) c.self.invariant.1),
          )
      | in-None w ↦
          let now = sym (ap (λ s. s.names.entries) w.self-inside-is) in
          (subst AreKept now c.self.invariant.0, subst AreCounted now c.self.invariant.1)
    ]

pub returns-clause-scope : goal.returns-clause-scope
returns-clause-scope c =
    let operations = map operation_value c.args.operations in
    elim c.match-get_index_mut.branch [
      | in-Some w ↦
          ap (λ s. map entry_value s.names.entries) w.self-inside-is
          ∙ put_changed (offering operations) w.in-Some.declared.now w.replace_operations.new.self w.replace_operations.ensures.entity w.replace_operations.ensures.words c.self.inside.names.entries c.args.number (ap option_copied_mut (sym w.in-Some.is) ∙ c.get_index_mut.ensures.value)
          ∙ ap (λ s. with_operations s c.args.number operations) c.self.view_is
      | in-None w ↦
          ap (λ s. map entry_value s.names.entries) w.self-inside-is
          ∙ sym (none_changed (offering operations) c.self.inside.names.entries c.args.number (ap option_copied_mut (sym w.in-None.is) ∙ c.get_index_mut.ensures.value))
          ∙ ap (λ s. with_operations s c.args.number operations) c.self.view_is
    ]

pub returns-clause-back : goal.returns-clause-back
returns-clause-back c =
    let operations = map operation_value c.args.operations in
    elim c.match-get_index_mut.branch [
      | in-Some w ↦
          ap (λ v. map operation_value v) w.result-is ∙ w.replace_operations.ensures.back
          ∙ ap (λ e. operations_or (protected_of e) operations) (sym (entity_found w.in-Some.declared.now c.self.inside.names.entries c.args.number (ap option_copied_mut (sym w.in-Some.is) ∙ c.get_index_mut.ensures.value)))
          ∙ ap (λ s. operations_or (protected_at s c.args.number) operations) c.self.view_is
      | in-None w ↦
          ap (λ v. map operation_value v) w.result-is
          ∙ ap (λ e. operations_or (protected_of e) operations) (sym (no_entity_found c.self.inside.names.entries c.args.number (ap option_copied_mut (sym w.in-None.is) ∙ c.get_index_mut.ensures.value)))
          ∙ ap (λ s. operations_or (protected_at s c.args.number) operations) c.self.view_is
    ]
