-- Lists in a fixed row: what a change of one of them makes of the queues.
use Rattle.std.proofs.Common.{IsSome, OnSome, rules, arith, zero, suc, Option, Some, None, ◌≡◌, ◌<◌, ℕ, List, [], ◌∷◌, map, set, length, get_or, nat_eq, Bool, true, false, cond, refl, sym, ap, ◌∙◌, subst, get_or-set_same, get_or-set_other}
use Rattle.std.proofs.lemmas.Bool.{eqb-true, eq-eqb}
use Rattle.std.proofs.lemmas.List.{map-set, get_or-map}
use Rattle.std.proofs.lemmas.List.{length-map}
use Rattle.dispatch.specs.Queues.{Queues, highest_below, is_occupied, put, unless_empty}

true_false : true ≡ false → ⊥
true_false e = absurd cc

module _ (xs : List (List ℕ)) (k : ℕ) (x : List ℕ) (p : ℕ) (h : k < length xs) where
  split : (b : Bool) → nat_eq p k ≡ b → get_or (set xs k x) p [] ≡ cond b x (get_or xs p [])
  split true e = ap (λ q. get_or (set xs k x) q []) (eqb-true p k e) ∙ get_or-set_same xs k x [] h
  split false e = get_or-set_other xs k p x [] (λ same. absurd (true_false (sym (eq-eqb p k same) ∙ e)))

  put_at : get_or (set xs k x) p [] ≡ put k x (λ q. get_or xs q []) p
  put_at = split (nat_eq p k) refl

-- what is in the lists of a row, where each is seen by f
pub put_list : {A : Type 0} (f : A → List ℕ) (lists : List A) (k : ℕ) (l : A) (p : ℕ) → k < length (map f lists)
    → get_or (map f (set lists k l)) p [] ≡ put k (f l) (λ q. get_or (map f lists) q []) p
put_list f lists k l p h = rw (map-set f lists k l) (put_at (map f lists) k (f l) p h)

-- the same where the lists are seen as the queues q, and what was put is known
pub put_queue : {A : Type 0} (f : A → List ℕ) (lists : List A) (queues : List (List ℕ)) (k priority : ℕ) (l : A) (tasks : List ℕ) (p : ℕ)
    → map f lists ≡ queues → k ≡ priority → priority < length queues → f l ≡ tasks
    → get_or (map f (set lists k l)) p [] ≡ put priority tasks (λ q. get_or queues q []) p
put_queue f lists queues k priority l tasks p same is h l_is =
    put_list f lists k l p (subst (λ qs. k < length qs) (sym same) (subst (λ n. n < length queues) (sym is) h))
    ∙ ap (λ (qs : List (List ℕ)). put k (f l) (λ q. get_or qs q []) p) same
    ∙ ap (λ n. put n (f l) (λ q. get_or queues q []) p) is
    ∙ ap (λ ts. put priority ts (λ q. get_or queues q []) p) l_is

pub within : {A : Type 0} (f : A → List ℕ) (lists : List A) (queues : List (List ℕ)) (count priority : ℕ) → map f lists ≡ queues → length lists ≡ count
    → priority < count → priority < length queues
within f lists queues count priority same long h =
    subst (λ qs. priority < length qs) same (subst (λ n. priority < n) (sym (length-map lists f ∙ long)) h)

-- the list of a priority
pub queue_at : {A : Type 0} (f : A → List ℕ) (lists : List A) (queues : List (List ℕ)) (k priority : ℕ) (d : A) → map f lists ≡ queues → k ≡ priority
    → priority < length queues → f (get_or lists k d) ≡ get_or queues priority []
queue_at f lists queues k priority d same is h =
    sym (get_or-map f lists k d [] (subst (λ n. k < n) (length-map lists f) (subst (λ qs. k < length qs) (sym same) (subst (λ n. n < length queues) (sym is) h))))
    ∙ ap (λ (qs : List (List ℕ)). get_or qs k []) same ∙ ap (λ n. get_or queues n []) is

lt_self : (n : ℕ) → n < suc n
lt_self n = omega (arith)

lt_suc : (a n : ℕ) → a < n → a < suc n
lt_suc a n h = omega (arith)

some_same : (a b : ℕ) → Some a ≡ Some b → a ≡ b
some_same a b h = cc

same_lt : (a n : ℕ) → Some n ≡ Some a → a < suc n
same_lt a n h = subst (λ m. m < suc n) (some_same n a h) (lt_self n)

-- where a list is looked at from above
pub highest_here : (queues : Queues) (n : ℕ) (found : Option ℕ) → highest_below (suc n) queues ≡ found → is_occupied (queues n) ≡ true → Some n ≡ found
highest_here queues n found h full = here (queues n) (highest_below n queues) h full where
  here : (tasks : List ℕ) (lower : Option ℕ) → unless_empty tasks n lower ≡ found → is_occupied tasks ≡ true → Some n ≡ found
  here [] lower h full = absurd (true_false (sym full))
  here (task ∷ tasks) lower h full = h

pub highest_lower : (queues : Queues) (n : ℕ) (found : Option ℕ) → highest_below (suc n) queues ≡ found → is_occupied (queues n) ≡ false → highest_below n queues ≡ found
highest_lower queues n found h empty = lower (queues n) (highest_below n queues) h empty where
  lower : (tasks : List ℕ) (rest : Option ℕ) → unless_empty tasks n rest ≡ found → is_occupied tasks ≡ false → rest ≡ found
  lower [] rest h empty = h
  lower (task ∷ tasks) rest h empty = absurd (true_false empty)

bound : (tasks : List ℕ) (n priority : ℕ) (lower : Option ℕ) → (lower ≡ Some priority → priority < n) → unless_empty tasks n lower ≡ Some priority
    → priority < suc n
bound [] n priority lower below h = lt_suc priority n (below h)
bound (task ∷ tasks) n priority lower below h = same_lt priority n h

pub highest_at_most : (queues : Queues) (n priority : ℕ) → highest_below n queues ≡ Some priority → priority < n
highest_at_most queues zero priority h = absurd cc
highest_at_most queues (suc n) priority h = bound (queues n) n priority (highest_below n queues) (highest_at_most queues n priority) h

full : (queues : Queues) (n priority : ℕ) (tasks : List ℕ) (lower : Option ℕ) → queues n ≡ tasks → (lower ≡ Some priority → is_occupied (queues priority) ≡ true)
    → unless_empty tasks n lower ≡ Some priority → is_occupied (queues priority) ≡ true
full queues n priority [] lower e below h = below h
full queues n priority (task ∷ tasks) lower e below h = subst (λ m. is_occupied (queues m) ≡ true) (some_same n priority h) (ap is_occupied e)

-- the highest list is not empty
pub highest_full : (queues : Queues) (n priority : ℕ) → highest_below n queues ≡ Some priority → is_occupied (queues priority) ≡ true
highest_full queues zero priority h = absurd cc
highest_full queues (suc n) priority h = full queues n priority (queues n) (highest_below n queues) refl (highest_full queues n priority) h

pub occupied_length : (tasks : List ℕ) → is_occupied tasks ≡ true → 0 < length tasks
occupied_length [] h = absurd (true_false (sym h))
occupied_length (task ∷ tasks) h = search rules

pub where_some : {X : Type 0} {P : Type 0} (r : Option X) → IsSome r → OnSome r P → P
where_some None is h = absurd (true_false (sym is))
where_some (Some x) is h = h

-- rows of empty lists
pub no_tasks : {A : Type 0} (f : A → List ℕ) (lists : List A) → ((i : ℕ) (d : A) → i < length lists → f (get_or lists i d) ≡ []) → (p : ℕ)
    → get_or (map f lists) p [] ≡ []
no_tasks f [] all p = refl
no_tasks f (l ∷ lists) all zero = all 0 l (search rules)
no_tasks f (l ∷ lists) all (suc p) = no_tasks f lists (λ i d h. all (suc i) d (search (rules, h))) p
