-- What the front of a heap and a split of it are among the sleepers.
use Rattle.std.proofs.Common.{append-nil, arith, ◌≡◌, ◌≤◌, ℕ, ℤ, List, [], ◌∷◌, ◌++◌, drop, length, map, filter, not, true, false, cond, Some, refl, sym, ap, ◌∙◌, ◌⊎◌, inl, inr}
use Rattle.std.specs.Prelude.{int_lt}
use Rattle.std.proofs.lemmas.Int.{ints}
use Rattle.std.proofs.lemmas.List.{drop_all}
use Rattle.clock.specs.declared.delays.Sleeper.{Sleeper}
use Rattle.clock.specs.declared.heap.Entry.{Entry}
use Rattle.clock.specs.Heaps.{IsAmong, IsSoonest, by_number, is_due_entry, sleeper_of, sleepers_of}
use Rattle.clock.specs.Sleepers.{due, is_due, least, least_wake, number_of, waiting}
use Rattle.clock.specs.Numbering.{Numbered}
use Rattle.clock.proofs.Adding.{by_number_has, by_test, either, has_by_number}
use Rattle.clock.proofs.Heaps.{not_sooner}

same_time : (a b : ℤ) → int_lt a b ≡ false → int_lt b a ≡ false → a ≡ b
same_time a b p q = grind (arith, ints)

true_false : true ≡ false → ⊥
true_false e = absurd cc

least_is : (ys : List Entry) (x : Entry) (time : ℤ) → int_lt time x.wake ≡ false → ((z : Entry) → IsAmong z ys → int_lt z.wake x.wake ≡ false)
    → (time ≡ x.wake) ⊎ IsAmong x ys → least time (map sleeper_of ys) ≡ x.wake
least_is [] x time not all here = either here (λ e. e) (λ f. absurd f)
least_is (y ∷ ys) x time not all here =
    by_test (λ b. cond b (least y.wake (map sleeper_of ys)) (least time (map sleeper_of ys)) ≡ x.wake) (int_lt y.wake time)
    (λ less. least_is ys x y.wake (all y (inl refl)) (λ z h. all z (inr h))
    (either here (λ e. absurd (true_false (sym less ∙ ap (int_lt y.wake) e ∙ all y (inl refl)))) (λ has. either has (λ e. inl (ap (λ w. w.wake) (sym e))) (λ behind. inr behind))))
    (λ least'. least_is ys x time not (λ z h. all z (inr h))
    (either here (λ e. inl e) (λ has. either has (λ e. inl (same_time time x.wake not (ap (λ w. int_lt w.wake time) e ∙ least'))) (λ behind. inr behind))))

least_of : (ys : List Entry) (x : Entry) → IsAmong x ys → ((z : Entry) → IsAmong z ys → int_lt z.wake x.wake ≡ false) → Some x.wake ≡ least_wake (map sleeper_of ys)
least_of [] x has all = absurd has
least_of (y ∷ ys) x has all =
    ap Some (sym (least_is ys x y.wake (all y (inl refl)) (λ z h. all z (inr h)) (either has (λ e. inl (ap (λ w. w.wake) (sym e))) (λ behind. inr behind))))

-- the front wakes first
pub least_taken : (x : Entry) (xs : List Entry) → IsAmong x xs → IsSoonest x xs → Some x.wake ≡ least_wake (sleepers_of xs)
least_taken x xs has first = least_of (by_number xs) x (by_number_has xs x has) (λ z h. not_sooner z x (first z (has_by_number xs z h)))

pub due_tasks : (now : ℤ) (ys : List Entry) → map (λ e. e.task) (filter (is_due_entry now) ys) ≡ due now (map sleeper_of ys)
due_tasks now [] = refl
due_tasks now (y ∷ ys) =
    by_test (λ b. map (λ e. e.task) (cond b (y ∷ filter (is_due_entry now) ys) (filter (is_due_entry now) ys))
    ≡ map number_of (cond b (sleeper_of y ∷ filter (is_due now) (map sleeper_of ys)) (filter (is_due now) (map sleeper_of ys)))) (is_due_entry now y)
    (λ e. ap (λ l. y.task ∷ l) (due_tasks now ys)) (λ e. due_tasks now ys)

pub still_waiting : (now : ℤ) (ys : List Entry) → map sleeper_of (filter (λ e. not (is_due_entry now e)) ys) ≡ waiting now (map sleeper_of ys)
still_waiting now [] = refl
still_waiting now (y ∷ ys) =
    by_test (λ b. map sleeper_of (cond b (y ∷ filter (λ e. not (is_due_entry now e)) ys) (filter (λ e. not (is_due_entry now e)) ys))
    ≡ cond b (sleeper_of y ∷ waiting now (map sleeper_of ys)) (waiting now (map sleeper_of ys))) (not (is_due_entry now y))
    (λ e. ap (λ l. sleeper_of y ∷ l) (still_waiting now ys)) (λ e. still_waiting now ys)

-- a loop that has gone over all entries
pub all_told : (tasks : List ℕ) (items : List Entry) (n : ℕ) → length items ≤ n → tasks ++ map (λ e. e.task) (drop n items) ≡ map (λ e. e.task) items
    → tasks ≡ map (λ e. e.task) items
all_told tasks items n past e = sym (append-nil tasks) ∙ ap (λ l. tasks ++ map (λ e. e.task) l) (sym (drop_all n items past)) ∙ e

-- the sleepers that wait on keep the number that comes next
pub left_over : (d : Numbered) (next : ℕ) (before left : List Sleeper) (now : ℤ) → left ≡ waiting now before → record { sleepers = before; next = next } ≡ d
    → record { sleepers = left; next = next } ≡ record d { sleepers = waiting now d.sleepers }
left_over d next before left now same view =
    ap {A = List Sleeper} (λ l. record { sleepers = l; next = next }) same ∙ ap {A = Numbered} (λ x. record { sleepers = waiting now x.sleepers; next = x.next }) view
