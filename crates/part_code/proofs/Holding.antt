-- Words that are held: they stay where the words at their places do.
use Rattle.std.proofs.Common.{◌≡◌, ℕ, ℤ, List, [], ◌∷◌, map, true, ◌∙◌, subst, rules}
use Rattle.types.specs.Places.{is_among}
use Rattle.part_code.specs.Resting.{AreHeld, AreKept, HeldWord, held_offset}

first_among : (n : ℕ) (ns : List ℕ) → is_among (n ∷ ns) n ≡ true
first_among n ns = search rules

later_among : (m n : ℕ) (ns : List ℕ) → is_among ns n ≡ true → is_among (m ∷ ns) n ≡ true
later_among m n ns h = search rules

-- the words that are held stay, where all places are kept at which they stand
pub held_by : (held : List HeldWord) (places : List ℕ) (before after : List ℤ) → ((n : ℕ) → is_among (map held_offset held) n ≡ true → is_among places n ≡ true)
    → AreKept places before after → AreHeld before held → AreHeld after held
held_by [] places before after all keeps h = tt
held_by (x ∷ xs) places before after all keeps h = (
  keeps x.offset (all x.offset (first_among x.offset (map held_offset xs))) ∙ h.0,
  held_by xs places before after (λ n e. all n (later_among x.offset n (map held_offset xs) e)) keeps h.1,
)

pub held_kept : (held : List HeldWord) (places : List ℕ) (before after : List ℤ) → map held_offset held ≡ places → AreKept places before after
    → AreHeld before held → AreHeld after held
held_kept held places before after same keeps h = held_by held places before after (λ n e. subst (λ q. is_among q n ≡ true) same e) keeps h
