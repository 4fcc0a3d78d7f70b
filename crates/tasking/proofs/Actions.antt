-- Open actions, innermost first, against their objects and kinds, innermost last.
use Rattle.std.proofs.Common.{◌≡◌, ℕ, zero, suc, max, ◌-◌, List, [], ◌∷◌, ◌++◌, Some, Bool, true, false, get_or, length, take, nat_eq, slice_get, refl}
use Rattle.std.proofs.Common.{sym, ap, ◌∙◌, arith}
use Rattle.std.specs.Prelude.{◌||◌}
use Rattle.protected.specs.Actions.{has_any, innermost_of, is_among, raised as raised_by, without_last}
use Rattle.kernel.specs.State.{Action, is_object_open, object_of, raised}
use Rattle.kernel.specs.Effects.{outer_of}
use Rattle.tasking.specs.declared.reports.Kind.{Kind}
use Rattle.tasking.specs.declared.reports.Kind.TheVariants as kinds
use Rattle.tasking.specs.Held.{action_of, actions_of, innermost}

its_object : (k : Kind) (o : ℕ) → object_of (action_of k o) ≡ o
its_object kinds.Reads o = refl
its_object kinds.Writes o = refl
its_object (kinds.Serves u) o = refl

raised_end : (c : ℕ → ℕ) (b : ℕ) (l : List Action) (a : Action) → raised c b (l ++ a ∷ []) ≡ max (c (object_of a)) (raised c b l)
raised_end c b [] a = refl
raised_end c b (x ∷ l) a = let i = raised_end c b l a in omega (arith, i)

pub raised_is : (c : List ℕ) (b : ℕ) (os : List ℕ) (ks : List Kind) → length ks ≡ length os → raised (λ o. get_or c o 0) b (actions_of os ks)
    ≡ raised_by c b os
raised_is c b [] ks e = refl
raised_is c b (o ∷ os) [] e = absurd (omega arith)
raised_is c b (o ∷ os) (k ∷ ks) e =
    raised_end (λ o. get_or c o 0) b (actions_of os ks) (action_of k o)
    ∙ (ap (λ n. max (get_or c n 0) (raised (λ o. get_or c o 0) b (actions_of os ks))) (its_object k o)
    ∙ ap (max (get_or c o 0)) (raised_is c b os ks (omega arith)))

swapped : (x y z : Bool) → (x || (y || z)) ≡ (y || (x || z))
swapped true true z = refl
swapped true false z = refl
swapped false y z = refl

open_end : (o : ℕ) (l : List Action) (a : Action) → is_object_open o (l ++ a ∷ []) ≡ (nat_eq (object_of a) o || is_object_open o l)
open_end o [] a = refl
open_end o (x ∷ l) a = ap (λ b. nat_eq (object_of x) o || b) (open_end o l a) ∙ swapped (nat_eq (object_of x) o) (nat_eq (object_of a) o) (is_object_open o l)

pub open_is : (o : ℕ) (os : List ℕ) (ks : List Kind) → length ks ≡ length os → is_object_open o (actions_of os ks) ≡ is_among o os
open_is o [] ks e = refl
open_is o (x ∷ os) [] e = absurd (omega arith)
open_is o (x ∷ os) (k ∷ ks) e =
    open_end o (actions_of os ks) (action_of k x)
    ∙ (ap (λ n. nat_eq n o || is_object_open o (actions_of os ks)) (its_object k x)
    ∙ ap (λ b. nat_eq x o || b) (open_is o os ks (omega arith)))

some_end : {T : Type 0} (l : List Action) (a : Action) (x y : T) → elim (l ++ a ∷ []) [ [] ↦ x | b ∷ outer ↦ y ] ≡ y
some_end [] a x y = refl
some_end (b ∷ l) a x y = refl

pub any_is : (os : List ℕ) (ks : List Kind) → length ks ≡ length os → elim (actions_of os ks) [ [] ↦ false | a ∷ outer ↦ true ] ≡ has_any os
any_is [] ks e = refl
any_is (o ∷ os) [] e = absurd (omega arith)
any_is (o ∷ os) (k ∷ ks) e = some_end (actions_of os ks) (action_of k o) false true

pub opened_is : (os : List ℕ) (ks : List Kind) (o : ℕ) (k : Kind) → length ks ≡ length os → actions_of (os ++ o ∷ []) (ks ++ k ∷ [])
    ≡ action_of k o ∷ actions_of os ks
opened_is [] [] o k e = refl
opened_is [] (j ∷ ks) o k e = absurd (omega arith)
opened_is (p ∷ os) [] o k e = absurd (omega arith)
opened_is (p ∷ os) (j ∷ ks) o k e = ap (λ l. l ++ action_of j p ∷ []) (opened_is os ks o k (omega arith))

outer_end : (l : List Action) (b a : Action) → outer_of ((l ++ b ∷ []) ++ a ∷ []) ≡ outer_of (l ++ b ∷ []) ++ a ∷ []
outer_end [] b a = refl
outer_end (x ∷ l) b a = refl

closed_at : (n : ℕ) (os : List ℕ) (ks : List Kind) → length os ≡ suc n → length ks ≡ suc n → actions_of (take n os) (take n ks) ≡ outer_of (actions_of os ks)
closed_at n [] ks e f = absurd (omega arith)
closed_at n (o ∷ os) [] e f = absurd (omega arith)
closed_at zero (o ∷ []) (k ∷ []) e f = refl
closed_at zero (o ∷ []) (k ∷ j ∷ ks) e f = absurd (omega arith)
closed_at zero (o ∷ p ∷ os) (k ∷ ks) e f = absurd (omega arith)
closed_at (suc n) (o ∷ []) (k ∷ ks) e f = absurd (omega arith)
closed_at (suc n) (o ∷ p ∷ os) (k ∷ []) e f = absurd (omega arith)
closed_at (suc n) (o ∷ p ∷ os) (k ∷ j ∷ ks) e f =
    ap (λ l. l ++ action_of k o ∷ []) (closed_at n (p ∷ os) (j ∷ ks) (omega arith) (omega arith))
    ∙ sym (outer_end (actions_of os ks) (action_of j p) (action_of k o))

pub closed_is : (n : ℕ) (os : List ℕ) (ks : List Kind) → length os ≡ suc n → length ks ≡ length os
    → actions_of (without_last os) (take (length ks - 1) ks) ≡ outer_of (actions_of os ks)
closed_is n os ks e f =
    let a : length os - 1 ≡ n = omega arith in
    let b : length ks - 1 ≡ n = omega arith in
    ap (λ m. actions_of (take m os) (take (length ks - 1) ks)) a ∙ (ap (λ m. actions_of (take n os) (take m ks)) b ∙ closed_at n os ks e (f ∙ e))

-- the innermost action begins to serve
retaken_at : (n u : ℕ) (os : List ℕ) (ks : List Kind) (o : ℕ) → length os ≡ suc n → length ks ≡ suc n → slice_get os n ≡ Some o
    → actions_of os (take n ks ++ kinds.Serves u ∷ []) ≡ action_of (kinds.Serves u) o ∷ outer_of (actions_of os ks)
retaken_at n u [] ks o e f g = absurd (omega arith)
retaken_at n u (p ∷ os) [] o e f g = absurd (omega arith)
retaken_at zero u (p ∷ []) (k ∷ []) o e f g = let same : p ≡ o = cc in ap (λ m. action_of (kinds.Serves u) m ∷ []) same
retaken_at zero u (p ∷ []) (k ∷ j ∷ ks) o e f g = absurd (omega arith)
retaken_at zero u (p ∷ r ∷ os) (k ∷ ks) o e f g = absurd (omega arith)
retaken_at (suc n) u (p ∷ []) (k ∷ ks) o e f g = absurd (omega arith)
retaken_at (suc n) u (p ∷ r ∷ os) (k ∷ []) o e f g = absurd (omega arith)
retaken_at (suc n) u (p ∷ r ∷ os) (k ∷ j ∷ ks) o e f g =
    ap (λ l. l ++ action_of k p ∷ []) (retaken_at n u (r ∷ os) (j ∷ ks) o (omega arith) (omega arith) g)
    ∙ ap (λ l. action_of (kinds.Serves u) o ∷ l) (sym (outer_end (actions_of os ks) (action_of j r) (action_of k p)))

pub retaken_is : (n u : ℕ) (os : List ℕ) (ks : List Kind) (o : ℕ) → length os ≡ suc n → length ks ≡ length os → innermost_of os ≡ Some o
    → actions_of os (take (length ks - 1) ks ++ kinds.Serves u ∷ []) ≡ action_of (kinds.Serves u) o ∷ outer_of (actions_of os ks)
retaken_is n u os ks o e f g =
    let a : length os - 1 ≡ n = omega arith in
    let b : length ks - 1 ≡ n = omega arith in
    ap (λ m. actions_of os (take m ks ++ kinds.Serves u ∷ [])) b ∙ retaken_at n u os ks o e (f ∙ e) (sym (ap (slice_get os) a) ∙ g)

innermost_end : (l : List Action) (b a : Action) → innermost ((l ++ b ∷ []) ++ a ∷ []) ≡ innermost (l ++ b ∷ [])
innermost_end [] b a = refl
innermost_end (x ∷ l) b a = refl

pub innermost_at : (n : ℕ) (os : List ℕ) (ks : List Kind) (o : ℕ) (k : Kind) → length os ≡ suc n → length ks ≡ suc n → slice_get os n ≡ Some o
    → slice_get ks n ≡ Some k
    → innermost (actions_of os ks) ≡ Some (action_of k o)
innermost_at n [] ks o k e f g h = absurd (omega arith)
innermost_at n (p ∷ os) [] o k e f g h = absurd (omega arith)
innermost_at zero (p ∷ []) (j ∷ []) o k e f g h = let a : p ≡ o = cc in let b : j ≡ k = cc in (λ i. Some (action_of (b i) (a i)))
innermost_at zero (p ∷ []) (j ∷ i ∷ ks) o k e f g h = absurd (omega arith)
innermost_at zero (p ∷ r ∷ os) (j ∷ ks) o k e f g h = absurd (omega arith)
innermost_at (suc n) (p ∷ []) (j ∷ ks) o k e f g h = absurd (omega arith)
innermost_at (suc n) (p ∷ r ∷ os) (j ∷ []) o k e f g h = absurd (omega arith)
innermost_at (suc n) (p ∷ r ∷ os) (j ∷ i ∷ ks) o k e f g h = innermost_end (actions_of os ks) (action_of i r) (action_of j p)
    ∙ innermost_at n (r ∷ os) (i ∷ ks) o k (omega arith) (omega arith) g h

pub innermost_is : (n : ℕ) (os : List ℕ) (ks : List Kind) (o : ℕ) (k : Kind) → length os ≡ suc n → length ks ≡ length os → innermost_of os ≡ Some o
    → slice_get ks (length ks - 1) ≡ Some k
    → innermost (actions_of os ks) ≡ Some (action_of k o)
innermost_is n os ks o k e f g h =
    let a : length os - 1 ≡ n = omega arith in
    let b : length ks - 1 ≡ n = omega arith in
    innermost_at n os ks o k e (f ∙ e) (sym (ap (slice_get os) a) ∙ g) (sym (ap (slice_get ks) b) ∙ h)
