-- Which fault an image that is handed in as its sections may be refused with.
use Rattle.std.specs.Prelude.{◌≡◌, ℕ, false, ◌⊎◌}
use Rattle.base.specs.declared.faults.TheConstants.{DEPTHS_DISAGREE, JUMP_OUTSIDE, NAMED_THING_MISSING, OPERAND_OUT_OF_RANGE, TABLES_DISAGREE}
use Rattle.image.specs.Faults.{memory_fault}
use Rattle.image.specs.Rules.{operands_in_range, jumps_stay_inside, named_things_exist, depths_agree, tables_agree}
use Rattle.image.specs.Sections.{Sections}
use Rattle.image.specs.declared.fault.ImageFault.{ImageFault}

-- the rule of this number is broken
abbrev pub BreaksRule : Sections → ℕ → Type 0
BreaksRule i number =
    ((number ≡ OPERAND_OUT_OF_RANGE) × (operands_in_range i ≡ false))
    ⊎ (((number ≡ JUMP_OUTSIDE) × (jumps_stay_inside i ≡ false))
    ⊎ (((number ≡ NAMED_THING_MISSING) × (named_things_exist i ≡ false))
    ⊎ (((number ≡ DEPTHS_DISAGREE) × (depths_agree i ≡ false)) ⊎ ((number ≡ TABLES_DISAGREE) × (tables_agree i ≡ false)))))

-- memory was refused, or the rule of the fault's number is broken
abbrev pub RefusesImage : Sections → ImageFault → Type 0
RefusesImage i fault = (fault ≡ memory_fault) ⊎ ((fault.byte ≡ 0) × BreaksRule i fault.number)
