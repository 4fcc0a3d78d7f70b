-- Raw sections that break no rule stand for a well-formed image.
use Rattle.std.proofs.Common.{◌≡◌, ℕ, zero, suc, ◌+◌, ◌<◌, ◌≤◌, List, [], ◌∷◌, ◌++◌, length, map, take, Bool, true, false, not, ◌&&◌, ◌||◌, Some, refl, sym, ap, ◌∙◌, subst, arith, ⊎_elim}
use Rattle.std.specs.Prelude.{nat_le, slice_get, bytes_eq}
use Rattle.std.specs.List.{list_all}
use Rattle.std.proofs.lemmas.Bool.{true≢false}
use Rattle.std.proofs.lemmas.Bool.Decides.{leb_tells}
use Rattle.std.proofs.lemmas.Option.{none-some, same_Some}
use Rattle.handlers.specs.declared.rows.Row.{Row}
use Rattle.image.specs.declared.subprograms.Subprogram.{Subprogram}
use Rattle.image_loading.specs.FaultOrder.{ImageFaults, rule}
use Rattle.image_loading.specs.Loading.{each}
use Rattle.image.specs.Rules.{all_begun, all_nested, all_placed, are_nested, begins_with, none_or}
use Rattle.image.specs.Sections.{Sections, end_of, first_place, holder}
use Rattle.std.proofs.lemmas.Bool.{and_parts}
use Rattle.image.specs.RuleLaws.{begin_of, begin_of-next, holder_here, holder_later}

pub join : (a b : Bool) → a ≡ true → b ≡ true → (a && b) ≡ true
join true b p q = q
join false b p q = p

-- of lists that are empty together each is
pub append_none : (a b : ImageFaults) → a ++ b ≡ [] → (a ≡ []) × (b ≡ [])
append_none [] b e = (refl, e)
append_none (f ∷ fs) b e = absurd cc

-- the rule is not broken
pub kept : (n p : ℕ) (b : Bool) → rule n p (not b) ≡ [] → b ≡ true
kept n p true e = refl
kept n p false e = absurd cc

pub kept_where : (n p : ℕ) (a b : Bool) → rule n p (a && not b) ≡ [] → a ≡ true → b ≡ true
kept_where n p true b e is = kept n p b e
kept_where n p false b e is = absurd (true≢false (sym is))

pub each_at : {X : Type 0} (behind : ℕ → X → ℕ) (faults : ℕ → ℕ → X → ImageFaults) (xs : List X) (n b k : ℕ) (x : X) → each behind faults n b xs ≡ [] → slice_get xs k ≡ Some x → (c : ℕ) × (faults (n + k) c x ≡ [])
each_at behind faults [] n b k x e is = absurd (none-some x is)
each_at behind faults (y ∷ ys) n b zero x e is =
    let s : n + 0 ≡ n = omega arith in
    (b, rw s (subst (λ v. faults n b v ≡ []) (same_Some y x is) (append_none (faults n b y) _ e).0))
each_at behind faults (y ∷ ys) n b (suc k) x e is =
    let s : n + suc k ≡ (n + 1) + k = omega arith in
    rw s (each_at behind faults ys (n + 1) (behind b y) k x (append_none (faults n b y) _ e).1 is)

pub placed_from : {X : Type 0} (test : ℕ → X → Bool) (xs : List X) (n : ℕ) → ((k : ℕ) (x : X) → slice_get xs k ≡ Some x → test (n + k) x ≡ true) → all_placed test n xs ≡ true
placed_from test [] n h = refl
placed_from test (x ∷ xs) n h =
    let s : n + 0 ≡ n = omega arith in
    join (test n x) _ (subst (λ v. test v x ≡ true) s (h 0 x refl)) (placed_from test xs (n + 1) (λ k y is. let t : (n + 1) + k ≡ n + suc k = omega arith in rw t (h (suc k) y is)))

pub all_from : {X : Type 0} (test : X → Bool) (xs : List X) → ((k : ℕ) (x : X) → slice_get xs k ≡ Some x → test x ≡ true) → list_all test xs ≡ true
all_from test [] h = refl
all_from test (x ∷ xs) h = join (test x) _ (h 0 x refl) (all_from test xs (λ k y is. h (suc k) y is))

pub begun_from : (test : ℕ → Subprogram → Bool) (ss : List Subprogram) (first : ℕ) → ((k : ℕ) (s : Subprogram) → slice_get ss k ≡ Some s → test (begin_of first ss k) s ≡ true) → all_begun test first ss ≡ true
begun_from test [] first h = refl
begun_from test (s ∷ ss) first h =
    join (test first s) _ (h 0 s refl) (begun_from test ss s.end_ (λ k t is. subst (λ v. test v t ≡ true) (begin_of-next first k s ss) (h (suc k) t is)))

pub first_begin : (i : Sections) (k : ℕ) → first_place i k ≡ begin_of 0 i.subprograms k
first_begin i zero = refl
first_begin i (suc k) = refl

pub map_at : {X Y : Type 0} (f : X → Y) (xs : List X) (k : ℕ) (y : Y) → slice_get (map f xs) k ≡ Some y → (x : X) × (slice_get xs k ≡ Some x) × (f x ≡ y)
map_at f [] k y is = absurd (none-some y is)
map_at f (x ∷ xs) zero y is = (x, refl, same_Some (f x) y is)
map_at f (x ∷ xs) (suc k) y is = map_at f xs k y is

pub length_map : {X Y : Type 0} (f : X → Y) (xs : List X) → length (map f xs) ≡ length xs
length_map f [] = refl
length_map f (x ∷ xs) = ap suc (length_map f xs)

-- a place before some end is held
pub held_before : (ss : List Subprogram) (n p : ℕ) → p < end_of (slice_get ss n) → (s : Subprogram) × (holder ss p ≡ Some s)
held_before [] n p lt = absurd (omega (arith, lt))
held_before (x ∷ ss) zero p lt = (x, holder_here x ss p lt)
held_before (x ∷ ss) (suc n) p lt =
    ⊎_elim
    (λ h. (x, holder_here x ss p h.1))
    (λ h. let w = held_before ss n p lt in (w.0, holder_later x ss p (omega arith) ∙ w.1))
    (leb_tells (suc p) x.end_)

-- each name of the front stands at its place
pub begins_from : (front names : List (List ℕ)) → length front ≤ length names → ((k : ℕ) (name : List ℕ) → slice_get names k ≡ Some name → none_or (slice_get front k) (λ p. bytes_eq p name) ≡ true) → begins_with front names ≡ true
begins_from [] names le h = refl
begins_from (f ∷ front) [] le h = absurd (omega arith)
begins_from (f ∷ front) (name ∷ names) le h = join (bytes_eq f name) _ (h 0 name refl) (begins_from front names (omega arith) (λ k n is. h (suc k) n is))

-- rows of which none crosses one before it
swapped : (a b c d : Bool) → (a || (b || (c || d))) ≡ (b || (a || (d || c)))
swapped true true c d = refl
swapped true false c d = refl
swapped false true c d = refl
swapped false false true true = refl
swapped false false true false = refl
swapped false false false true = refl
swapped false false false false = refl

pub nested_either_way : (r q : Row) → are_nested r q ≡ are_nested q r
nested_either_way r q = swapped (nat_le r.start q.start && nat_le q.end_ r.end_) (nat_le q.start r.start && nat_le r.end_ q.end_) (nat_le r.end_ q.start) (nat_le q.end_ r.start)

pub nested_from : (rows : List Row) → ((k : ℕ) (row : Row) → slice_get rows k ≡ Some row → list_all (are_nested row) (take k rows) ≡ true) → all_nested rows ≡ true
nested_from [] h = refl
nested_from (r ∷ rows) h =
    join (list_all (are_nested r) rows) _
    (all_from (are_nested r) rows (λ k q is. nested_either_way r q ∙ (and_parts (are_nested q r) _ (h (suc k) q is)).0))
    (nested_from rows (λ k q is. (and_parts (are_nested q r) _ (h (suc k) q is)).1))
