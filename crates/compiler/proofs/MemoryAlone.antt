-- Well-formed sections are refused for want of memory alone.
use Rattle.std.proofs.Common.{◌≡◌, inl, inr, Bool, true, false}
use Rattle.image.specs.Faults.{memory_fault}
use Rattle.image.specs.Refusals.{RefusesImage}
use Rattle.image.specs.Rules.{IsWellFormed, depths_agree, jumps_stay_inside, named_things_exist, operands_in_range, tables_agree}
use Rattle.image.specs.Sections.{Sections}
use Rattle.image.specs.declared.fault.ImageFault.{ImageFault}

both_ways : (b : Bool) → b ≡ false → b ≡ true → ⊥
both_ways true h k = cc
both_ways false h k = cc

pub memory_alone : (i : Sections) (fault : ImageFault) → IsWellFormed i → RefusesImage i fault → fault ≡ memory_fault
memory_alone i fault w (inl e) = e
memory_alone i fault w (inr (byte, inl (number, e))) = absurd (both_ways (operands_in_range i) e w.operands)
memory_alone i fault w (inr (byte, inr (inl (number, e)))) = absurd (both_ways (jumps_stay_inside i) e w.jumps)
memory_alone i fault w (inr (byte, inr (inr (inl (number, e))))) = absurd (both_ways (named_things_exist i) e w.named)
memory_alone i fault w (inr (byte, inr (inr (inr (inl (number, e)))))) = absurd (both_ways (depths_agree i) e w.depths)
memory_alone i fault w (inr (byte, inr (inr (inr (inr (number, e)))))) = absurd (both_ways (tables_agree i) e w.tables)
