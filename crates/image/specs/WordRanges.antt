-- The words that an image holds in 64 bits; nobody has to believe this.
use Rattle.std.specs.Prelude.{ℤ, List, [], ◌∷◌, IsTrue}
use Rattle.base.specs.Arithmetic.{is_in_base_range}
use Rattle.image.specs.Sections.{Sections}
use Rattle.image.specs.ObjectTable.{ObjectRow}
use Rattle.image.specs.declared.instruction.Instr.{Instr}
use Rattle.image.specs.declared.instruction.Operation.{Operation}
use Rattle.image.specs.declared.instruction.Operation.TheVariants.{Push}

abbrev pub Fits64 : ℤ → Type 0
Fits64 z = IsTrue (is_in_base_range z)

abbrev pub AllFit : List ℤ → Type 0
AllFit [] = Unit {0}
AllFit (z ∷ zs) = Fits64 z × AllFit zs

abbrev pub ConstantFits : Operation → Type 0
ConstantFits (Push v) = Fits64 v
ConstantFits _ = Unit {0}

abbrev pub ConstantsFit : List Instr → Type 0
ConstantsFit [] = Unit {0}
ConstantsFit (x ∷ xs) = ConstantFits x.operation × ConstantsFit xs

abbrev pub ObjectsFit : List ObjectRow → Type 0
ObjectsFit [] = Unit {0}
ObjectsFit (o ∷ os) = AllFit o.words × ObjectsFit os

-- the constants and the initial words of an image
pub record ImageFits (i : Sections) : Type 0 where
  pub plain : AllFit i.plain_words
  pub objects : ObjectsFit i.objects
  pub constants : ConstantsFit i.instructions
