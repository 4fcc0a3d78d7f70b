use Rattle.std.proofs.Common.{sym}
use Rattle.base.specs.FirstLaws.{is_first}
use Rattle.image_loading.specs.FaultOrder.{order_of}
use Rattle.image_loading.specs.Loading.{image_faults}
use Rattle.image_loading.proofs.laws.names_first.Goals as goal

pub returns : goal.returns
returns c = λ bytes f e. let first = is_first order_of (image_faults bytes) f (sym e) in record { broken = first.held; least = first.least }
