use Rattle.std.proofs.Common.{◌∙◌, ◌≤◌, None, length, rules, slice_index_or}
use Rattle.set_measures.specs.declared.extreme.Row.{Row}
use Rattle.set_measures.specs.declared.measure.ActorQuantity.TheVariants.{Jobs}
use Rattle.set_measures.specs.declared.measure.Measure.TheVariants.{OfActor}
use Rattle.set_measures.proofs.Filled.{all_filled, one_filled, row_with, same_measures}
use Rattle.set_measures.proofs.set.add_values.Goals as goal

pub loop-at-preserved : goal.loop-at-preserved
loop-at-preserved c =
    let i = c.args.image.now in
    let rows = c.loop-at.rows in
    let at = c.loop-at.at in
    let none : Row = record { measure = OfActor 0 Jobs; extreme = None } in (
      same_measures rows at c.with.result none c.loop-at-test.true c.with.ensures.measure ∙ c.loop-at.invariant.0,
      λ runs r is number all. one_filled i runs r at rows c.with.result none c.loop-at-test.true (c.loop-at.invariant.1 runs r is number all)
          (row_with i runs r (slice_index_or rows at none) c.with.result c.value.result c.args.number number (c.value.ensures r is) c.with.ensures.measure
          c.with.ensures.extreme),
    )

pub returns-clause-extremes : goal.returns-clause-extremes
returns-clause-extremes c runs r is number all =
    let le : length c.loop-at.rows ≤ c.loop-at.at = search rules in
    all_filled c.args.image.now runs r c.loop-at.at c.loop-at.rows le (c.loop-at.invariant.1 runs r is number all)
