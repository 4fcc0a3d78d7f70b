-- The list of all broken rules is empty just where a program is accepted, and begins with the one that comes first.
use Rattle.std.proofs.Common.{◌≡◌, ◌≤◌, ◌<◌, ◌+◌, ◌⊎◌, ℕ, zero, suc, [], ◌∷◌, ◌++◌, length, inr, refl, subst, arith}
use Rattle.std.specs.Prelude.{slice_index_or}
use Rattle.std.proofs.lemmas.List.Elements.{Contains-append_left, Contains-append_right}
use Rattle.lexer.specs.declared.fault.Fault.{Fault}
use Rattle.ada_tree.specs.ProgramTree.{ProgramTree}
use Rattle.expr_rules.specs.Faults.{Faults}
use Rattle.legality.specs.ProgramRules.{ComesFirst, IsLegal, program_faults}
use Rattle.legality.proofs.SameFaults.{none_of, nowhere}
use Rattle.ravenscar.specs.BrokenRules.{AreInOrderOfPlaces, ListShowsAcceptance, ListsBrokenRules, broken_rules}
use Rattle.ravenscar.specs.ProgramRules.{IsRestricted, restriction_faults}

none_broken : (t : ProgramTree) → IsLegal t → IsRestricted t → broken_rules t ≡ []
none_broken t legal restricted = λ j. legal j ++ restricted j

accepted : (t : ProgramTree) (faults : Faults) → ListsBrokenRules t faults → IsLegal t → IsRestricted t → faults ≡ []
accepted t faults lists legal restricted = none_of (broken_rules t) faults lists.broken (none_broken t legal restricted)

-- ---- the first of the list

-- places, and numbers at one place
through : (p q r m n o : ℕ) → (p < q) ⊎ ((p ≡ q) × (m < n)) → (q < r) ⊎ ((q ≡ r) × (n ≤ o)) → (p < r) ⊎ ((p ≡ r) × (m ≤ o))
through p q r m n o h k = grind (arith, h, k)

itself : (n : ℕ) → n ≤ n
itself n = omega arith

one_less : (k n : ℕ) → suc k < suc n → k < n
one_less k n h = omega (arith, h)

comes_first : (f : Fault) (rest : Faults) → AreInOrderOfPlaces (f ∷ rest) → (g : Fault) (k : ℕ) → k < length (f ∷ rest)
    → slice_index_or (f ∷ rest) k g ≡ g → ComesFirst f g
comes_first f rest order g zero less at = inr ((λ j. (at j).place), subst (λ h. f.number ≤ h.number) at (itself f.number))
comes_first f [] order g (suc k) less at = absurd (nowhere g (k, one_less k 0 less, at))
comes_first f (h ∷ rest) order g (suc k) less at =
    through f.place h.place g.place f.number h.number g.number order.0 (comes_first h rest order.1 g k (one_less k (length (h ∷ rest)) less) at)

pub list_shows_acceptance : ListShowsAcceptance
list_shows_acceptance =
    record {
      accepted = accepted;
      legal = λ t lists. none_of [] (program_faults t)
          (λ f h. lists.complete f (Contains-append_left (program_faults t) (restriction_faults t) f h)) refl;
      restricted = λ t lists. none_of [] (restriction_faults t)
          (λ f h. lists.complete f (Contains-append_right (program_faults t) (restriction_faults t) f h)) refl;
      first = λ t f rest lists g broken. let h = lists.complete g broken in comes_first f rest lists.ordered g h.0 h.1 h.2;
    }
