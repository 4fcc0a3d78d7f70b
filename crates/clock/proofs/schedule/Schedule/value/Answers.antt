use Rattle.std.proofs.Common.{rules, ◌≡◌, ◌∙◌, sym, ap, subst, IsTrue, to_z, of_z, w64}
use Rattle.std.proofs.lemmas.List.Sorted.{IsPartitionPoint-from_clause}
use Rattle.base.specs.Schedule.{input, is_schedule}
use Rattle.clock.specs.ChannelValues.{no_values, value_after, values_from}
use Rattle.clock.proofs.ChannelValues.{is_passed, parted_schedule, value_is}
use Rattle.clock.proofs.schedule.Schedule.value.Goals as goal

pub returns : goal.returns
returns c =
    let lines = c.deref.result.now in
    let held : lines ≡ c.self.inside.lines.items = c.deref.ensures.value in
    let is : IsTrue (is_schedule lines) = subst (λ l. IsTrue (is_schedule l)) (sym held) c.self.invariant.0 in
    let point = IsPartitionPoint-from_clause (is_passed c.args.now) _ _ c.partition_point-passed.ensures.partitioned (parted_schedule c.args.now lines is) (λ a r q k. search rules) in
    let rows : c.deref-2.result.now ≡ values_from no_values lines = c.deref-2.ensures.value ∙ c.self.invariant.1 ∙ ap (values_from no_values) (sym held) in
    let same : to_z w64 (of_z w64 c.value_after.result) ≡ c.value_after.result = search rules in
    same ∙ c.value_after.ensures ∙ ap (λ r. value_after r c.partition_point-passed.result c.args.channel) rows
    ∙ value_is c.args.now lines c.args.channel c.partition_point-passed.result is c.partition_point-passed.ensures.bound point
    ∙ ap (λ l. input l c.args.channel c.args.now) (held ∙ c.self.view_is)
