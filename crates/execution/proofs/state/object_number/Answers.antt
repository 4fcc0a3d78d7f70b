use Rattle.std.proofs.Common.{ap, arith}
use Rattle.image.specs.Sections.{object_of}
use Rattle.execution.proofs.state.object_number.Goals as goal

pub overflow_cast-result : goal.overflow_cast-result
overflow_cast-result c = let low = c.requires c.in-ProtectedProcedure.object (ap object_of c.in-ProtectedProcedure.is) in omega (arith, low)

pub overflow_cast-result-in-ProtectedFunction : goal.overflow_cast-result-in-ProtectedFunction
overflow_cast-result-in-ProtectedFunction c = let low = c.requires c.in-ProtectedFunction.object (ap object_of c.in-ProtectedFunction.is) in omega (arith, low)

pub overflow_cast-result-in-EntryBody : goal.overflow_cast-result-in-EntryBody
overflow_cast-result-in-EntryBody c = let low = c.requires c.in-EntryBody.object (ap object_of c.in-EntryBody.is) in omega (arith, low)
