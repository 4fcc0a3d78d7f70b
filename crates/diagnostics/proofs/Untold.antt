-- Of a number that no fault has nothing is told.
use Rattle.std.proofs.Common.{◌≡◌, ℕ, Bool, true, false, cond, Option, Some, None, sym, ap}
use Rattle.std.proofs.lemmas.Bool.{true≢false}
use Rattle.std.specs.Prelude.{◌||◌, nat_eq}
use Rattle.diagnostics.specs.declared.explanations.memory.TheConstants as memory
use Rattle.diagnostics.specs.explanations.Explained.{explanation_of, is_fault_number, is_from, of_choices, of_handlers, of_images, of_restrictions, of_rules, of_schedules, of_spelling}

-- where neither a test nor those behind it hold
neither : {X : Type 0} (a rest : Bool) (x y : Option X) → (a || rest) ≡ false → (rest ≡ false → y ≡ None) → cond a x y ≡ None
neither true rest x y e behind = absurd (true≢false e)
neither false rest x y e behind = behind e

pub none_told : (n : ℕ) → false ≡ is_fault_number n → None ≡ explanation_of n
none_told n none =
    sym
    (neither (is_from 1 7 n) _ (of_spelling n) _ (sym none) (λ e1.
    neither (is_from 10 23 n) _ (of_rules n) _ e1 (λ e2.
    neither (is_from 30 39 n) _ (of_restrictions n) _ e2 (λ e3.
    neither (is_from 40 47 n) _ (of_images n) _ e3 (λ e4.
    neither (is_from 50 53 n) _ (of_schedules n) _ e4 (λ e5.
    neither (nat_eq n 60) _ (Some memory.MEMORY_REFUSED.now) _ e5 (λ e6.
    neither (is_from 70 73 n) _ (of_handlers n) _ e6 (λ e7.
    neither (nat_eq n 80) _ (of_choices n) _ e7 (λ e8. ap (λ b. cond b (of_choices n) None) e8)))))))))
