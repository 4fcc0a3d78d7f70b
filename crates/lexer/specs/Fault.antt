-- What is answered where memory was refused.
use Rattle.base.specs.declared.faults.TheConstants.{MEMORY_REFUSED}
use Rattle.lexer.specs.declared.fault.Fault.{Fault}

-- at place 0
abbrev pub memory_fault : Fault
memory_fault = record { number = MEMORY_REFUSED; place = 0 }
