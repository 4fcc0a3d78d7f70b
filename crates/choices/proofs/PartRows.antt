-- Parts of small sets, by computation.
use Rattle.std.specs.Prelude.{◌≡◌, pos, [], ◌∷◌, true, false, None, Some}
use Rattle.std.proofs.Common.{refl}
use Rattle.choices.specs.Parts.{front_of, is_of_part, number_of_part}
use Rattle.choices.specs.Slots.{Slot}
use Rattle.choices.specs.declared.part.Part.{Part}

-- a slot with two alternatives, and one with three
abbrev two : Slot
two = record { time = pos 0; channel = 1; alternatives = None ∷ Some (pos 1) ∷ [] }

abbrev three : Slot
three = record { time = pos 5; channel = 1; alternatives = None ∷ Some (pos 1) ∷ Some (pos 2) ∷ [] }

-- the second of four parts: two slots have six combinations, of which the numbers 1 and 5 leave 1
abbrev second : Part
second = record { before = 1; after = 2 }

second_front : front_of second (two ∷ three ∷ two ∷ []) ≡ 2
second_front = refl

second_first : is_of_part second (two ∷ three ∷ two ∷ []) (0 ∷ 1 ∷ 1 ∷ []) ≡ true
second_first = refl

second_last : is_of_part second (two ∷ three ∷ two ∷ []) (1 ∷ 2 ∷ 0 ∷ []) ≡ true
second_last = refl

second_other : is_of_part second (two ∷ three ∷ two ∷ []) (1 ∷ 1 ∷ 0 ∷ []) ≡ false
second_other = refl

second_number : number_of_part second (two ∷ three ∷ two ∷ []) ≡ 4
second_number = refl

-- the last of four parts has the combination 3 alone
last_number : number_of_part (record { before = 3; after = 0 }) (two ∷ three ∷ two ∷ []) ≡ 2
last_number = refl

-- a set with fewer combinations than there are parts: all its slots tell these apart, and the last parts are empty
few_front : front_of (record { before = 6; after = 3 }) (two ∷ three ∷ []) ≡ 2
few_front = refl

few_last : number_of_part (record { before = 5; after = 4 }) (two ∷ three ∷ []) ≡ 1
few_last = refl

few_none : number_of_part (record { before = 6; after = 3 }) (two ∷ three ∷ []) ≡ 0
few_none = refl

-- no slots: one choice, which is of the first part
no_slots : number_of_part (record { before = 0; after = 2 }) [] ≡ 1
no_slots = refl

no_slots_second : number_of_part (record { before = 1; after = 1 }) [] ≡ 0
no_slots_second = refl

-- one of three alternatives in each of three parts
third : is_of_part (record { before = 2; after = 0 }) (three ∷ two ∷ []) (2 ∷ 1 ∷ []) ≡ true
third = refl
