-- What walks note, by the law of joined lists; what they have found in the end.
use Rattle.std.proofs.Common.{◌≡◌, ◌≤◌, ◌<◌, ◌+◌, ◌-◌, ◌^◌, ◌++◌, ℕ, suc, Bool, true, false, List, [], ◌∷◌, length, drop, take, subst, refl, sym, ap, ◌∙◌, arith}
use Rattle.std.proofs.Math.Seq.{take-append_seam}
use Rattle.std.proofs.lemmas.List.{append-nil, append_assoc, at_drop_more, length-append, take_all}
use Rattle.std.specs.Prelude.{cond, get_or, is_some, min, nat_lt}
use Rattle.expr_rules.specs.Faults.{least, rule}
use Rattle.mismatches.specs.declared.conflict.Mismatch.{Mismatch}
use Rattle.mismatches.specs.Conflicts.{Mismatches, Search, none_found, noted, noted_one}

pub rule_is : (number place : ℕ) (b : Bool) → is_some (least (rule number place b)) ≡ b
rule_is number place true = refl
rule_is number place false = refl

pub noted_append : (search : Search) (xs ys : Mismatches) → noted search (xs ++ ys) ≡ noted (noted search xs) ys
noted_append search [] ys = refl
noted_append search (x ∷ xs) ys = noted_append (noted_one search x) xs ys

-- a turn of a loop over what is left
pub noted_turn : {X : Type 0} (left : List X → Mismatches) (all : List X) (n : ℕ) (x : X) (search : Search) (first rest : Mismatches) (whole : Search)
    → n < length all
    → x ≡ get_or all n x
    → left (x ∷ drop (n + 1) all) ≡ first ++ rest
    → noted search (left (drop n all)) ≡ whole
    → noted (noted search first) rest ≡ whole
noted_turn left all n x search first rest whole less at split h =
    sym (noted_append search first rest)
    ∙ ap (noted search) (sym (at_drop_more left all n x less ∙ ap (λ y. left (y ∷ drop (n + 1) all)) (sym at) ∙ split))
    ∙ h

-- ---- those that are kept

is_room : (n room : ℕ) → nat_lt n room ≡ true → n + 1 ≤ room
is_room n room h = grind (arith, h)

is_full : (n room : ℕ) → n ≤ room → nat_lt n room ≡ false → n ≡ room
is_full n room h k = grind (arith, h, k)

-- a row that is full is as long as there is room for, whatever else is found
full_taken : (kept xs : Mismatches) (room : ℕ) → length kept ≡ room → kept ≡ take room (kept ++ xs)
full_taken kept xs room h = sym (take-append_seam kept xs) ∙ ap (λ n. take n (kept ++ xs)) h

kept_by : (kept xs all : Mismatches) (x : Mismatch) (room : ℕ) → length kept ≤ room → (u : Bool) → nat_lt (length kept) room ≡ u
    → (length (cond u (kept ++ x ∷ []) kept) ≤ room → all ≡ take room (cond u (kept ++ x ∷ []) kept ++ xs))
    → all ≡ take room (kept ++ x ∷ xs)
kept_by kept xs all x room h true e rest = rest (subst (λ n. n ≤ room) (sym (length-append kept (x ∷ []))) (is_room (length kept) room e)) ∙ ap (take room) (append_assoc kept (x ∷ []) xs)
kept_by kept xs all x room h false e rest =
    let full = is_full (length kept) room h e in
    rest h ∙ sym (full_taken kept xs room full) ∙ full_taken kept (x ∷ xs) room full

kept_noted : (search : Search) (xs : Mismatches) → length search.kept ≤ search.room → (noted search xs).kept ≡ take search.room (search.kept ++ xs)
kept_noted search [] h = sym (take_all search.room (search.kept ++ []) (subst (λ l. length l ≤ search.room) (sym (append-nil search.kept)) h) ∙ append-nil search.kept)
kept_noted search (x ∷ xs) h =
    kept_by search.kept xs (noted (noted_one search x) xs).kept x search.room h (nat_lt (length search.kept) search.room) refl (kept_noted (noted_one search x) xs)

-- ---- what the first of two walks counts is what the second one has room for

no_more : (n : ℕ) → n ≤ 2 ^ 64 - 1 → n ≡ min (n + 0) (2 ^ 64 - 1)
no_more n h = grind (arith, h)

at_most : (n : ℕ) → min (n + 1) (2 ^ 64 - 1) ≤ 2 ^ 64 - 1
at_most n = grind (arith)

one_more : (n m : ℕ) → min (min (n + 1) (2 ^ 64 - 1) + m) (2 ^ 64 - 1) ≡ min (n + suc m) (2 ^ 64 - 1)
one_more n m = grind (arith)

counted : (search : Search) (xs : Mismatches) → search.count ≤ 2 ^ 64 - 1 → (noted search xs).count ≡ min (search.count + length xs) (2 ^ 64 - 1)
counted search [] h = no_more search.count h
counted search (x ∷ xs) h = counted (noted_one search x) xs (at_most search.count) ∙ one_more search.count (length xs)

within : (n m : ℕ) → m ≡ min (0 + n) (2 ^ 64 - 1) → (m ≡ 2 ^ 64 - 1 → ⊥) → n ≤ m
within n m is less = grind (arith, is, less)

pub all_kept : (xs : Mismatches) (count : ℕ) → count ≡ (noted (none_found 0) xs).count → (count ≡ 2 ^ 64 - 1 → ⊥) → (noted (none_found count) xs).kept ≡ xs
all_kept xs count is less =
    let from_zero : 0 ≤ 2 ^ 64 - 1 = omega arith in
    kept_noted (none_found count) xs (omega arith) ∙ take_all count xs (within (length xs) count (is ∙ counted (none_found 0) xs from_zero) less)
