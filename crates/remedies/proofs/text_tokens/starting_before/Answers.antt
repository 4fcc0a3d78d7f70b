use Rattle.std.proofs.Common.{nat_lt, rules}
use Rattle.std.proofs.lemmas.List.Sorted.{IsPartitionPoint-from_clause}
use Rattle.lexer.specs.declared.token.Token.{Token}
use Rattle.remedies.proofs.Ordered.{parted, point_counts}
use Rattle.remedies.proofs.text_tokens.starting_before.Goals as goal

pub returns-clause-count : goal.returns-clause-count
returns-clause-count c =
    let ts = c.args.tokens.now in
    let place = c.args.place in
    let point = IsPartitionPoint-from_clause (λ (t : Token). nat_lt t.start place) _ _ c.partition_point.ensures.partitioned (parted place ts c.requires) (λ a r q k. search rules) in
    point_counts place ts c.partition_point.result c.partition_point.ensures.bound point
