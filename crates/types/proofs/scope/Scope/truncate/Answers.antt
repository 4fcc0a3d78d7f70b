use Rattle.std.proofs.Common.{sym, ap, ◌∙◌, take, map, subst}
use Rattle.types.proofs.Counting.{AreCounted, counted_take}
use Rattle.types.proofs.Sizes.{AreKept, kept_take}
use Rattle.std.proofs.lemmas.List.{take-map}
use Rattle.types.specs.Scopes.{entry_value}
use Rattle.types.proofs.scope.Scope.truncate.Goals as goal

pub returns : goal.returns
returns c = ap (λ l. map entry_value l) c.truncate.ensures.entries ∙ sym (take-map entry_value c.args.len c.self.inside.names.entries) ∙ ap (take c.args.len) c.self.view_is

pub invariant_of-self : goal.invariant_of-self
invariant_of-self c =
    let es = c.self.inside.names.entries in
    let taken = sym c.truncate.ensures.entries in
    (subst AreKept taken (kept_take es c.args.len c.self.invariant.0), subst AreCounted taken (counted_take es c.args.len c.self.invariant.1))
