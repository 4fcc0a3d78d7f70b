-- What findings say of what was found.
use Rattle.std.proofs.Common.{◌≡◌, ◌≤◌, ◌<◌, ◌+◌, ◌-◌, ◌^◌, ℕ, suc, [], ◌∷◌, ◌++◌, length, take, subst, Bool, true, false, Some, refl, sym, ap, ◌∙◌, arith}
use Rattle.std.specs.Prelude.{cond, min, nat_lt}
use Rattle.std.proofs.Math.Seq.{take-append_seam}
use Rattle.std.proofs.lemmas.List.{append-nil, append_assoc, length-append, take_all}
use Rattle.std.proofs.lemmas.Grind.{common_steps}
use Rattle.lexer.specs.declared.fault.Fault.{Fault}
use Rattle.expr_rules.specs.Faults.{Faults, least, sooner}
use Rattle.expr_rules.specs.Findings.{Findings, FoundIsAll, none_found, noted, noted_one}
use Rattle.expr_rules.proofs.Least.{sooner_assoc, sooner_none}

least_noted : (found : Findings) (xs : Faults) → (noted found xs).least ≡ sooner found.least (least xs)
least_noted found [] = sym (sooner_none found.least)
least_noted found (x ∷ xs) = least_noted (noted_one found x) xs ∙ sooner_assoc found.least (Some x) (least xs)

pub least_found : (room : ℕ) (xs : Faults) → (noted (none_found room) xs).least ≡ least xs
least_found room xs = least_noted (none_found room) xs

one_more : (n m : ℕ) → n + suc m < 2 ^ 64 → min (n + 1) (2 ^ 64 - 1) + m ≡ n + suc m
one_more n m h = grind (arith, h)

one_less : (n m : ℕ) → n + suc m < 2 ^ 64 → min (n + 1) (2 ^ 64 - 1) + m < 2 ^ 64
one_less n m h = grind (arith, h)

count_noted : (found : Findings) (xs : Faults) → found.count + length xs < 2 ^ 64 → (noted found xs).count ≡ found.count + length xs
count_noted found [] h = grind (arith, common_steps)
count_noted found (x ∷ xs) h = count_noted (noted_one found x) xs (one_less found.count (length xs) h) ∙ one_more found.count (length xs) h

all_counted : (room : ℕ) (xs : Faults) → length xs < 2 ^ 64 → (noted (none_found room) xs).count ≡ length xs
all_counted room xs h =
    let none : 0 + length xs ≡ length xs = omega arith in
    count_noted (none_found room) xs (subst (λ n. n < 2 ^ 64) (sym none) h) ∙ none

-- ---- those that are kept

is_room : (n room : ℕ) → nat_lt n room ≡ true → n + 1 ≤ room
is_room n room h = grind (arith, h)

is_full : (n room : ℕ) → n ≤ room → nat_lt n room ≡ false → n ≡ room
is_full n room h k = grind (arith, h, k)

-- a row that is full is as long as there is room for, whatever else is found
full_taken : (kept xs : Faults) (room : ℕ) → length kept ≡ room → kept ≡ take room (kept ++ xs)
full_taken kept xs room h = sym (take-append_seam kept xs) ∙ ap (λ n. take n (kept ++ xs)) h

kept_by : (kept xs all : Faults) (x : Fault) (room : ℕ) → length kept ≤ room → (u : Bool) → nat_lt (length kept) room ≡ u
    → (length (cond u (kept ++ x ∷ []) kept) ≤ room → all ≡ take room (cond u (kept ++ x ∷ []) kept ++ xs))
    → all ≡ take room (kept ++ x ∷ xs)
kept_by kept xs all x room h true e rest = rest (subst (λ n. n ≤ room) (sym (length-append kept (x ∷ []))) (is_room (length kept) room e)) ∙ ap (take room) (append_assoc kept (x ∷ []) xs)
kept_by kept xs all x room h false e rest =
    let full = is_full (length kept) room h e in
    rest h ∙ sym (full_taken kept xs room full) ∙ full_taken kept (x ∷ xs) room full

kept_noted : (found : Findings) (xs : Faults) → length found.kept ≤ found.room → (noted found xs).kept ≡ take found.room (found.kept ++ xs)
kept_noted found [] h = sym (take_all found.room (found.kept ++ []) (subst (λ l. length l ≤ found.room) (sym (append-nil found.kept)) h) ∙ append-nil found.kept)
kept_noted found (x ∷ xs) h =
    kept_by found.kept xs (noted (noted_one found x) xs).kept x found.room h (nat_lt (length found.kept) found.room) refl (kept_noted (noted_one found x) xs)

pub found_is_all : FoundIsAll
found_is_all =
    record {
      least = least_found;
      count = all_counted;
      kept = λ room faults. kept_noted (none_found room) faults (omega arith);
    }
