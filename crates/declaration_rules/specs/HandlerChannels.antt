-- The channel that an aspect Attach_Handler names (RM C.3.1): a static Integer from 1 to the last one.
use Rattle.std.specs.Prelude.{ℕ, pos, ◌&&◌, Option, Some, None, nat_le, if◌then◌else◌}
use Rattle.base.specs.declared.limits.TheConstants.{CHANNELS}
use Rattle.ada_tree.specs.StatementTree.{AspectTree}
use Rattle.types.specs.Scopes.{Scope, integer_type}
use Rattle.types.specs.Values.{Value, Number}
use Rattle.expr_rules.specs.declared.own.Wanted.TheVariants as wanted
use Rattle.expr_rules.specs.StaticRules.{static_scalar}

abbrev pub channel_of : Option Value → Option ℕ
channel_of (Some (Number (pos n))) = if nat_le 1 n && nat_le n CHANNELS then Some n else None
channel_of value = None

abbrev pub attached_channel : Scope → AspectTree → Option ℕ
attached_channel s a = channel_of (static_scalar s (wanted.OfType integer_type) None a.value)
