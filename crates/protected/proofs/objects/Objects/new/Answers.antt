use Rattle.std.proofs.Common.{refl, subst, ◌<◌}
use Rattle.protected.proofs.Lists.{kept_at_start, none_at_start, view_at_start}
use Rattle.protected.proofs.objects.Objects.new.Goals as goal

pub invariant_of-result : goal.invariant_of-result
invariant_of-result c = kept_at_start c.copied.result.items c.copied-2.result.items c.args.bases.now c.args.ceilings.now _ _ c.copied.ensures c.copied-2.ensures c.requires.tasks
    c.requires.objects (none_at_start (λ l. l.items) c.default.result 66 c.default.ensures.long (λ i d h. c.default.ensures.at i d (subst (λ n. i < n) c.default.ensures.long h))) refl

pub returns : goal.returns
returns c = view_at_start c.copied.result.items c.copied-2.result.items c.args.bases.now c.args.ceilings.now _ _ _ c.copied.ensures c.copied-2.ensures
    (none_at_start (λ l. l.items) c.default.result 66 c.default.ensures.long (λ i d h. c.default.ensures.at i d (subst (λ n. i < n) c.default.ensures.long h)))
