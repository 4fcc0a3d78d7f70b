-- Why an image is refused.
use Rattle.base.specs.declared.faults.TheConstants.{MEMORY_REFUSED}
use Rattle.image.specs.declared.fault.ImageFault.{ImageFault}

-- memory was refused
abbrev pub memory_fault : ImageFault
memory_fault = record { number = MEMORY_REFUSED; byte = 0 }
