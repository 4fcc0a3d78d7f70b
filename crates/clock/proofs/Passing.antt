-- One pass over all entries, which parts those that are due from the others.
use Rattle.std.proofs.Common.{append_assoc, arith, ◌≡◌, ◌<◌, ◌≤◌, ◌+◌, ℕ, ℤ, List, [], ◌∷◌, ◌++◌, length, take, get_or, true, false, sym, ap, subst, ◌∙◌}
use Rattle.std.specs.List.Sorted.{IsPermutation}
use Rattle.std.proofs.lemmas.List.{length-append, take_all, take_more}
use Rattle.std.proofs.lemmas.List.Sorted.{IsPermutation-append_left, IsPermutation-append_right, IsPermutation-cons, IsPermutation-middle, IsPermutation-refl, IsPermutation-sym, IsPermutation-to_front, IsPermutation-trans, length_permutation}
use Rattle.clock.specs.declared.heap.Entry.{Entry}
use Rattle.clock.specs.Heaps.{IsAmong, IsNobodyDue, TakesAllDue, is_due_entry}
use Rattle.clock.proofs.Adding.{all_grown, either, has_either, moved_back}

-- the first so many entries: those that are due, and the others
abbrev pub Parted : ℤ → List Entry → ℕ → List Entry → List Entry → Type 0
Parted now all count due left =
    IsPermutation (take count all) (due ++ left) × ((z : Entry) → IsAmong z due → is_due_entry now z ≡ true) × IsNobodyDue now left

pub parted_none : (now : ℤ) (all : List Entry) → Parted now all 0 [] []
parted_none now all = (IsPermutation-refl [], λ z h. absurd h, λ z h. absurd h)

module _ (now : ℤ) (all : List Entry) (count : ℕ) (d : Entry) (less : count < length all) (due left : List Entry) (p : Parted now all count due left) where
  abbrev x : Entry
  x = get_or all count d

  more : (other : List Entry) → IsPermutation (take count all ++ x ∷ []) other → IsPermutation (take (count + 1) all) other
  more other moved = subst (λ l. IsPermutation l other) (sym (take_more all count d less)) moved

  pub one_more_due : (due' : List Entry) → due' ≡ due ++ x ∷ [] → is_due_entry now x ≡ true → Parted now all (count + 1) due' left
  one_more_due due' grown is_due = (
    more (due' ++ left) (subst (IsPermutation (take count all ++ x ∷ [])) (sym (ap (λ l. l ++ left) grown ∙ append_assoc due (x ∷ []) left))
        (IsPermutation-trans (take count all ++ x ∷ []) (x ∷ take count all) (due ++ x ∷ left) (IsPermutation-to_front (take count all) x)
        (IsPermutation-trans (x ∷ take count all) (x ∷ (due ++ left)) (due ++ x ∷ left) (IsPermutation-cons x (take count all) (due ++ left) p.0)
        (IsPermutation-sym (due ++ x ∷ left) (x ∷ (due ++ left)) (IsPermutation-middle due x left))))),
    all_grown (is_due_entry now) due due' x p.1 is_due grown,
    p.2,
  )

  pub one_more_left : (left' : List Entry) → IsPermutation (left ++ x ∷ []) left' → is_due_entry now x ≡ false → Parted now all (count + 1) due left'
  one_more_left left' pushed late = (
    more (due ++ left') (IsPermutation-trans (take count all ++ x ∷ []) (due ++ (left ++ x ∷ [])) (due ++ left')
        (subst (IsPermutation (take count all ++ x ∷ [])) (append_assoc due left (x ∷ []))
        (IsPermutation-append_left (x ∷ []) (take count all) (due ++ left) p.0))
        (IsPermutation-append_right due (left ++ x ∷ []) left' pushed)),
    p.1,
    λ z h.
        either (has_either left (x ∷ []) z (moved_back (left ++ x ∷ []) left' pushed z h)) (λ a. p.2 z a)
        (λ b. either b (λ e. ap (is_due_entry now) e ∙ late) (λ f. absurd f)),
  )

pub parted_all : (now : ℤ) (all : List Entry) (count : ℕ) (due left before : List Entry) → Parted now all count due left → length all ≤ count
    → all ≡ before → TakesAllDue now before left due
parted_all now all count due left before p past same =
    record { moved = subst (λ l. IsPermutation l (due ++ left)) (take_all count all past ∙ same) p.0; all_due = p.1; nobody_due = p.2 }

-- no more are left than there were
pub fewer_left : (now : ℤ) (before after due : List Entry) → TakesAllDue now before after due → length after ≤ length before
fewer_left now before after due t = omega (arith, length_permutation before (due ++ after) t.moved, length-append due after)
