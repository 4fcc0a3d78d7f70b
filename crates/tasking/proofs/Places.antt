-- A write at one place of a row, seen as a function changed at that place; lists of priorities.
use Rattle.std.proofs.Common.{◌≡◌, ◌⊎◌, inl, inr, ℕ, zero, suc, ◌<◌, ◌≤◌, List, [], ◌∷◌, ◌++◌, Option, get_or, set, length, refl, sym, ap, ◌∙◌, ⊎_elim}
use Rattle.std.proofs.Common.{arith, get_or-set_same, get_or-set_other}
use Rattle.kernel.specs.State.{put}
use Rattle.kernel.specs.PutLaws.{same_or_not, put_same, put_other}
use Rattle.kernel.specs.Dispatching.{highest as kernel_highest, unless_empty}
use Rattle.base.specs.declared.limits.TheConstants.{PRIORITIES}
use Rattle.std.proofs.lemmas.Bool.{cases_lt}
use Rattle.std.proofs.lemmas.List.{get_or_past}
use Rattle.dispatch.specs.Queues.{Queues, highest, highest_below, unless_empty as either_empty}
use Rattle.tasking.specs.Held.{lists_below}

pub set_is : {A B : Type 0} (f : A → B) (xs : List A) (k t : ℕ) (x d : A) → k ≡ t → t < length xs → (u : ℕ) → f (get_or (set xs k x) u d)
    ≡ put t (f x) (λ v. f (get_or xs v d)) u
set_is f xs k t x d is h u =
    ap (λ n. f (get_or (set xs n x) u d)) is
    ∙ ⊎_elim
    (λ e. ap (λ v. f (get_or (set xs t x) v d)) e ∙ (ap f (get_or-set_same xs t x d h) ∙ sym (put_same t u (f x) (λ v. f (get_or xs v d)) e)))
    (λ ne. ap f (get_or-set_other xs t u x d ne) ∙ sym (put_other t u (f x) (λ v. f (get_or xs v d)) ne))
    (same_or_not u t)

-- reading the end of a list, or before it
get_or_end : {A : Type 0} (xs : List A) (x d : A) → get_or (xs ++ x ∷ []) (length xs) d ≡ x
get_or_end [] x d = refl
get_or_end (y ∷ xs) x d = get_or_end xs x d

get_or_before : {A : Type 0} (xs ys : List A) (i : ℕ) (d : A) → i < length xs → get_or (xs ++ ys) i d ≡ get_or xs i d
get_or_before [] ys i d h = absurd (omega arith)
get_or_before (y ∷ xs) ys zero d h = refl
get_or_before (y ∷ xs) ys (suc i) d h = get_or_before xs ys i d (omega arith)

get_or_after : {A : Type 0} (xs : List A) (x : A) (i : ℕ) (d : A) → length xs < i → get_or (xs ++ x ∷ []) i d ≡ d
get_or_after [] x zero d h = absurd (omega arith)
get_or_after [] x (suc i) d h = refl
get_or_after (y ∷ xs) x zero d h = absurd (omega arith)
get_or_after (y ∷ xs) x (suc i) d h = get_or_after xs x i d (omega arith)

length_end : {A : Type 0} (xs : List A) (x : A) → length (xs ++ x ∷ []) ≡ suc (length xs)
length_end [] x = refl
length_end (y ∷ xs) x = ap suc (length_end xs x)

lists_long : (n : ℕ) (q : Queues) → length (lists_below n q) ≡ n
unfolding lists_below
lists_long zero q = refl
lists_long (suc n) q = length_end (lists_below n q) (q n) ∙ ap suc (lists_long n q)

less_or : (h n : ℕ) → h < suc n → (h < n) ⊎ (h ≡ n)
less_or h n lt = ⊎_elim (λ e. inr e) (λ ne. inl (omega arith)) (same_or_not h n)

pub list_at : (n : ℕ) (q : Queues) (h : ℕ) → h < n → get_or (lists_below n q) h [] ≡ q h
unfolding lists_below
list_at zero q h lt = absurd (omega arith)
list_at (suc n) q h lt =
    ⊎_elim
    (λ l. get_or_before (lists_below n q) (q n ∷ []) h [] (let e = lists_long n q in omega arith) ∙ list_at n q h l)
    (λ e. ap (λ m. get_or (lists_below n q ++ q n ∷ []) m []) (e ∙ sym (lists_long n q)) ∙ (get_or_end (lists_below n q) (q n) [] ∙ ap q (sym e)))
    (less_or h n lt)

pub list_past : (n : ℕ) (q : Queues) (h : ℕ) → n ≤ h → get_or (lists_below n q) h [] ≡ []
list_past n q h le = get_or_past (lists_below n q) h [] (let e = lists_long n q in omega arith)

-- the list of one priority changes
pub lists_put : (q r : Queues) (a : ℕ) (x : List ℕ) → a < PRIORITIES → ((p : ℕ) → r p ≡ put a x q p) → (h : ℕ)
    → get_or (lists_below PRIORITIES r) h [] ≡ put a x (λ p. get_or (lists_below PRIORITIES q) p []) h
lists_put q r a x low e h =
    ⊎_elim
    (λ lt.
    list_at PRIORITIES r h lt
    ∙ (e h
    ∙ ⊎_elim
    (λ same. put_same a h x q same ∙ sym (put_same a h x (λ p. get_or (lists_below PRIORITIES q) p []) same))
    (λ ne. put_other a h x q ne ∙ (sym (list_at PRIORITIES q h lt) ∙ sym (put_other a h x (λ p. get_or (lists_below PRIORITIES q) p []) ne)))
    (same_or_not h a)))
    (λ ge. list_past PRIORITIES r h ge
    ∙ (sym (list_past PRIORITIES q h ge) ∙ sym (put_other a h x (λ p. get_or (lists_below PRIORITIES q) p []) (λ same. omega arith))))
    (cases_lt h PRIORITIES)

unless_same : (l : List ℕ) (n : ℕ) (r s : Option ℕ) → r ≡ s → unless_empty l n r ≡ either_empty l n s
unless_same [] n r s e = e
unless_same (t ∷ ts) n r s e = refl

highest_upto : (n : ℕ) (q : Queues) → n ≤ PRIORITIES → kernel_highest (λ p. get_or (lists_below PRIORITIES q) p []) n ≡ highest_below n q
highest_upto zero q le = refl
highest_upto (suc n) q le =
    ap (λ l. unless_empty l n (kernel_highest (λ p. get_or (lists_below PRIORITIES q) p []) n)) (list_at PRIORITIES q n (omega arith))
    ∙ unless_same (q n) n _ _ (highest_upto n q (omega arith))

pub highest_same : (q : Queues) → kernel_highest (λ p. get_or (lists_below PRIORITIES q) p []) PRIORITIES ≡ highest q
unfolding highest
highest_same q = highest_upto PRIORITIES q (omega arith)

-- within a row the value for what is missing is none
pub either_default : (xs : List ℕ) (n a b : ℕ) → n < length xs → get_or xs n a ≡ get_or xs n b
either_default [] n a b up = absurd (omega (arith, up))
either_default (x ∷ xs) zero a b up = refl
either_default (x ∷ xs) (suc n) a b up = either_default xs n a b (omega (arith, up))
