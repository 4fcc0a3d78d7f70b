-- A step from one choice to the next one, or to a later one with the same alternatives of the slots at the front.
use Rattle.std.specs.Prelude.{◌≡◌, ◌≤◌, ℕ, List, Bool, true, false, Some, None, drop, take}
use Rattle.choices.specs.Places.{AreWithin, IsBefore, firsts, left, next}
use Rattle.choices.specs.Slots.{Slot}

-- it leads to the next choice, or there is none, and the first one stands again
abbrev pub MovesOn : Bool → List Slot → (before after : List ℕ) → Type 0
MovesOn true slots before after = (next slots before ≡ Some after) × AreWithin slots after
MovesOn false slots before after = (next slots before ≡ None) × (after ≡ firsts slots)

-- the alternatives of so many slots at the front are the same, and no more choices come after this one
pub record IsFurther (slots : List Slot) (front : ℕ) (before after : List ℕ) : Type 0 where
  pub within : AreWithin slots after
  pub front_is : take front after ≡ take front before
  pub fewer : left slots after ≤ left slots before

-- earlier by the slots at the front, and the same in the others
pub record IsEarlierInFront (front : ℕ) (places others : List ℕ) : Type 0 where
  pub before : IsBefore (take front places) (take front others)
  pub behind : drop front places ≡ drop front others
