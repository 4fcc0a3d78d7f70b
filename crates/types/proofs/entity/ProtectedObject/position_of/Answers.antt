use Rattle.std.proofs.Common.{◌∙◌, bytes_eq}
use Rattle.types.specs.Entities.{operation_value}
use Rattle.types.proofs.Lists.{position_map}
use Rattle.types.proofs.entity.ProtectedObject.position_of.Goals as goal

pub returns : goal.returns
returns c = c.position_of.ensures ∙ position_map operation_value (λ o. bytes_eq o.name c.args.name.now) c.args.self.now.operations
