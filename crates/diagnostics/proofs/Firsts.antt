-- Going over a list for the first that gives anything: what is left decides.
use Rattle.std.proofs.Common.{◌≡◌, ◌≤◌, ◌<◌, ◌+◌, ℕ, List, Option, Some, None, drop, get_or, length, subst, sym}
use Rattle.std.proofs.lemmas.List.{at_drop_all, at_drop_more}
use Rattle.diagnostics.specs.repairs.First.{FirstOf, Here, Later, NoneLeft}

abbrev pub Decides : {A R : Type 0} (Gives : A → Option R → Type 0) (all : List A) (n : ℕ) → Type 0
Decides {A} {R} Gives all n = (r : Option R) → FirstOf Gives (drop n all) r → FirstOf Gives all r

pub from_start : {A R : Type 0} (Gives : A → Option R → Type 0) (all : List A) → Decides Gives all 0
from_start Gives all r h = h

pub goes_on : {A R : Type 0} (Gives : A → Option R → Type 0) (all : List A) (n : ℕ) (d : A) (given : Option R) → n < length all
    → Gives (get_or all n d) given → given ≡ None → Decides Gives all n → Decides Gives all (n + 1)
goes_on Gives all n d given less gives none decides r h =
    decides r (subst (λ xs. FirstOf Gives xs r) (sym (at_drop_more (λ xs. xs) all n d less)) (Later (subst (Gives (get_or all n d)) none gives) h))

pub found : {A R : Type 0} (Gives : A → Option R → Type 0) (all : List A) (n : ℕ) (d : A) (given : Option R) (x : R) → n < length all
    → Gives (get_or all n d) given → given ≡ Some x → Decides Gives all n → FirstOf Gives all (Some x)
found Gives all n d given x less gives some decides =
    decides (Some x) (subst (λ xs. FirstOf Gives xs (Some x)) (sym (at_drop_more (λ xs. xs) all n d less)) (Here (subst (Gives (get_or all n d)) some gives)))

pub ended : {A R : Type 0} (Gives : A → Option R → Type 0) (all : List A) (n : ℕ) → length all ≤ n → Decides Gives all n → FirstOf Gives all None
ended Gives all n past decides = decides None (subst (λ xs. FirstOf Gives xs None) (sym (at_drop_all (λ xs. xs) all n past)) NoneLeft)
