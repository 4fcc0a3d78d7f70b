-- The fault where memory was refused.
use Rattle.ada2012_lexer.specs.declared.fault.Fault.{Fault}
use Rattle.ada2012_lexer.specs.declared.fault.FaultKind.TheVariants as faults

-- at place 0
abbrev pub memory_fault : Fault
memory_fault = record { kind = faults.Memory; place = 0 }
