use Rattle.std.proofs.Common.{◌∙◌}
use Rattle.conformance.specs.Tables.{is_same_key, is_seen}
use Rattle.conformance.proofs.Tabled.{seen_after}
use Rattle.conformance.proofs.keys.Keys.see.Goals as goal

pub returns-clause-seen : goal.returns-clause-seen
returns-clause-seen c k = c.in_ok-is_new.ensures.updates.0 k ∙ seen_after (is_seen c.args.self.now.set.keys k) (is_same_key c.args.key k)
