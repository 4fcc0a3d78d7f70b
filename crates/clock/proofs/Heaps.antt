-- Entries of a heap change places.
use Rattle.std.proofs.Common.{rules, arith, ◌≡◌, ◌<◌, ◌≤◌, ◌+◌, ◌-◌, ◌*◌, ℕ, zero, suc, List, [], ◌∷◌, ◌++◌, drop, length, get_or, subst, take, nat_eq, Bool, true, false, cond, refl, sym, ap, ◌∙◌, inl, inr}
use Rattle.std.specs.Cmp.{IsStrictWeakOrder}
use Rattle.std.specs.Option.{MatchOption}
use Rattle.std.specs.Prelude.{Option, Some, slice_get, ℤ, int_lt, int_le}
use Rattle.std.specs.List.{SwappedAt}
use Rattle.std.specs.declared.cmp.Ordering.TheVariants.{Less, Equal, Greater}
use Rattle.std.proofs.lemmas.Int.{ints}
use Rattle.std.specs.Ordering.{is_lt, nat_cmp, ordering_then}
use Rattle.std.proofs.lemmas.Bool.{eqb-true, eq-eqb}
use Rattle.std.proofs.lemmas.Cmp.{int_cmp_total, nat_cmp_total, on_total, then_total}
use Rattle.std.proofs.lemmas.List.{get_or_default}
use Rattle.std.specs.List.{refill, swap_remove}
use Rattle.std.specs.List.Sorted.{IsPermutation}
use Rattle.std.proofs.lemmas.List.Sorted.{IsPermutation-cons, IsPermutation-swap_remove, IsPermutation-trans, length_permutation, ranks_by}
use Rattle.clock.specs.declared.heap.Entry.{Entry}
use Rattle.clock.specs.Heaps.{IsAmong, IsSoonest, IsHeap, IsNobodyDue, is_before, is_due_entry, parent}

true_false : true ≡ false → ⊥
true_false e = absurd cc

pub same_or : {P : Type 0} (a b : ℕ) → (a ≡ b → P) → ((a ≡ b → ⊥) → P) → P
same_or {P} a b yes' no' = go (nat_eq a b) refl where
  go : (v : Bool) → nat_eq a b ≡ v → P
  go true e = yes' (eqb-true a b e)
  go false e = no' (λ same. absurd (true_false (sym (eq-eqb a b same) ∙ e)))

pub order : IsStrictWeakOrder is_before
order = ranks_by (then_total (on_total (λ (e : Entry). e.wake) int_cmp_total) (on_total (λ (e : Entry). e.number) nat_cmp_total)) (λ (e : Entry). e)

module _ {X : Type 0} (lt : X → X → Bool) (o : IsStrictWeakOrder lt) where
  never_itself : (x : X) (b : Bool) → lt x x ≡ b → lt x x ≡ false
  never_itself x true e = o.one_way x x e
  never_itself x false e = e

  abbrev pub Ordered : List X → Type 0
  Ordered xs = (k : ℕ) (d : X) → 0 < k → k < length xs → lt (get_or xs k d) (get_or xs (parent k) d) ≡ false

  abbrev pub FirstChild : List X → ℕ → ℕ → Type 0
  FirstChild xs at child =
      (0 < child) × (parent child ≡ at) × (child < length xs)
      × ((k : ℕ) (d : X) → 0 < k → parent k ≡ at → k < length xs → lt (get_or xs k d) (get_or xs child d) ≡ false)

  pub at_any : (xs : List X) (i j : ℕ) (e : X) (b r : Bool) → i < length xs → j < length xs → r ≡ lt (get_or xs i e) (get_or xs j e) → r ≡ b → (d : X) → lt (get_or xs i d) (get_or xs j d) ≡ b
  at_any xs i j e b r p q is told d = ap (λ x. lt x (get_or xs j d)) (get_or_default xs i d e p) ∙ ap (lt (get_or xs i e)) (get_or_default xs j d e q) ∙ sym is ∙ told

  -- none of a list's entries comes before those under which it stands, but for the entry at a place, whose own parent comes before its children
  abbrev pub Rises : List X → ℕ → Type 0
  Rises xs at =
      ((k : ℕ) (d : X) → 0 < k → k < length xs → (k ≡ at → ⊥) → lt (get_or xs k d) (get_or xs (parent k) d) ≡ false)
      × ((k : ℕ) (d : X) → 0 < at → 0 < k → parent k ≡ at → k < length xs → lt (get_or xs k d) (get_or xs (parent at) d) ≡ false)

  -- the same, but for the children of the entry at a place
  abbrev pub Sinks : List X → ℕ → Type 0
  Sinks xs at =
      ((k : ℕ) (d : X) → 0 < k → k < length xs → (parent k ≡ at → ⊥) → lt (get_or xs k d) (get_or xs (parent k) d) ≡ false)
      × ((k : ℕ) (d : X) → 0 < at → 0 < k → parent k ≡ at → k < length xs → lt (get_or xs k d) (get_or xs (parent at) d) ≡ false)

  by : (a b x y : X) → a ≡ x → b ≡ y → lt x y ≡ false → lt a b ≡ false
  by a b x y p q h = (λ k. lt (p k) (q k)) ∙ h

  pub rise_starts : (xs : List X) → 0 < length xs → (((k : ℕ) (d : X) → 0 < k → k < length xs - 1 → lt (get_or xs k d) (get_or xs (parent k) d) ≡ false)) → Rises xs (length xs - 1)
  rise_starts xs some h = (λ k d a b n. h k d a (omega (arith, b, n)), λ k d z a e b. absurd (omega (arith, z, a, e, b)))

  pub rise_ends : (xs : List X) (at : ℕ) → Rises xs at → ((d : X) → 0 < at → lt (get_or xs at d) (get_or xs (parent at) d) ≡ false) → Ordered xs
  rise_ends xs at r here k d a b = same_or k at
      (λ e. by _ _ _ _ (ap (λ n. get_or xs n d) e) (ap (λ n. get_or xs (parent n) d) e) (here d (omega (arith, a, e))))
      (λ n. r.0 k d a b n)

  pub rise_goes_on : (xs ys : List X) (at : ℕ) → 0 < at → at < length xs → length ys ≡ length xs → SwappedAt xs ys at (parent at)
      → ((d : X) → lt (get_or xs at d) (get_or xs (parent at) d) ≡ true) → Rises xs at → Rises ys (parent at)
  rise_goes_on xs ys at some within long sw before r = (edges, gap) where
    under : parent at < at
    under = omega (arith, some)

    edges : (k : ℕ) (d : X) → 0 < k → k < length ys → (k ≡ parent at → ⊥) → lt (get_or ys k d) (get_or ys (parent k) d) ≡ false
    edges k d a b n = same_or k at
        (λ e. by _ _ _ _ (ap (λ m. get_or ys m d) e ∙ sw.0 d) (ap (λ m. get_or ys (parent m) d) e ∙ sw.1 d) (o.one_way _ _ (before d)))
        (λ other.
        let same = sw.2 k d other n in
        let in' : k < length xs = omega (arith, b, long) in
        same_or (parent k) at
        (λ e. by _ _ _ _ same (ap (λ m. get_or ys m d) e ∙ sw.0 d) (r.1 k d some a e in'))
        (λ up. same_or (parent k) (parent at)
        (λ e. by _ _ _ _ same (ap (λ m. get_or ys m d) e ∙ sw.1 d)
        (o.chain _ _ _ (by _ _ _ _ refl (ap (λ m. get_or xs m d) (sym e)) (r.0 k d a in' other)) (o.one_way _ _ (before d))))
        (λ apart. by _ _ _ _ same (sw.2 (parent k) d up apart) (r.0 k d a in' other))))

    gap : (k : ℕ) (d : X) → 0 < parent at → 0 < k → parent k ≡ parent at → k < length ys → lt (get_or ys k d) (get_or ys (parent (parent at)) d) ≡ false
    gap k d z a e b =
        let over : parent (parent at) < parent at = omega (arith, z) in
        let top = sw.2 (parent (parent at)) d (omega (arith, over, under)) (omega (arith, over)) in
        let edge = r.0 (parent at) d z (omega (arith, under, within)) (omega (arith, under)) in
        same_or k at
        (λ s. by _ _ _ _ (ap (λ m. get_or ys m d) s ∙ sw.0 d) top edge)
        (λ other. by _ _ _ _ (sw.2 k d other (omega (arith, a, e))) top
        (o.chain _ _ _ (by _ _ _ _ refl (ap (λ m. get_or xs m d) (sym e)) (r.0 k d a (omega (arith, b, long)) other)) edge))

  pub sink_starts : (xs : List X) → ((k : ℕ) (d : X) → 0 < parent k → k < length xs → lt (get_or xs k d) (get_or xs (parent k) d) ≡ false) → Sinks xs 0
  sink_starts xs h = (λ k d a b n. h k d (omega (arith, n)) b, λ k d z a e b. absurd (omega (arith, z)))

  pub sink_ends : (xs : List X) (at : ℕ) → Sinks xs at → ((k : ℕ) (d : X) → 0 < k → parent k ≡ at → k < length xs → lt (get_or xs k d) (get_or xs at d) ≡ false)
      → Ordered xs
  sink_ends xs at s here k d a b = same_or (parent k) at
      (λ e. by _ _ _ _ refl (ap (λ n. get_or xs n d) e) (here k d a e b))
      (λ n. s.0 k d a b n)

  pub sink_rests : (xs : List X) (at child : ℕ) → Sinks xs at → FirstChild xs at child → ((d : X) → lt (get_or xs child d) (get_or xs at d) ≡ false) → Ordered xs
  sink_rests xs at child s first not = sink_ends xs at s (λ k d a e b. o.chain _ _ _ (first.3 k d a e b) (not d))

  pub sink_goes_on : (xs ys : List X) (at child : ℕ) → length ys ≡ length xs → SwappedAt xs ys at child → FirstChild xs at child
      → ((d : X) → lt (get_or xs child d) (get_or xs at d) ≡ true) → Sinks xs at → Sinks ys child
  sink_goes_on xs ys at child long sw first before s = (edges, gap) where
    under : at < child
    under = omega (arith, first.0, first.1)

    edges : (k : ℕ) (d : X) → 0 < k → k < length ys → (parent k ≡ child → ⊥) → lt (get_or ys k d) (get_or ys (parent k) d) ≡ false
    edges k d a b n = same_or k child
        (λ e. by _ _ _ _ (ap (λ m. get_or ys m d) e ∙ sw.1 d) (ap (λ m. get_or ys (parent m) d) e ∙ ap (λ m. get_or ys m d) first.1 ∙ sw.0 d) (o.one_way _ _ (before d)))
        (λ other.
        let in' : k < length xs = omega (arith, b, long) in
        same_or k at
        (λ e.
        let z : 0 < at = omega (arith, e, a) in
        let up : parent k ≡ parent at = ap parent e in
        by _ _ _ _ (ap (λ m. get_or ys m d) e ∙ sw.0 d) (ap (λ m. get_or ys m d) up ∙ sw.2 (parent at) d (omega (arith, z)) (omega (arith, z, under)))
        (s.1 child d z first.0 first.1 first.2))
        (λ apart.
        let same = sw.2 k d apart other in
        same_or (parent k) at
        (λ e. by _ _ _ _ same (ap (λ m. get_or ys m d) e ∙ sw.0 d) (first.3 k d a e in'))
        (λ up. by _ _ _ _ same (sw.2 (parent k) d up n) (s.0 k d a in' up))))

    gap : (k : ℕ) (d : X) → 0 < child → 0 < k → parent k ≡ child → k < length ys → lt (get_or ys k d) (get_or ys (parent child) d) ≡ false
    gap k d z a e b =
        let below : child < k = omega (arith, a, e, z) in
        by _ _ _ _ (sw.2 k d (omega (arith, below, under)) (omega (arith, below))) (ap (λ m. get_or ys m d) first.1 ∙ sw.0 d)
        (by _ _ _ _ refl (ap (λ m. get_or xs m d) (sym e)) (s.0 k d a (omega (arith, b, long)) (omega (arith, e, under))))

  -- the front is taken first
  pub top : (xs : List X) → Ordered xs → (fuel k : ℕ) (d : X) → k ≤ fuel → k < length xs → lt (get_or xs k d) (get_or xs 0 d) ≡ false
  top xs h zero k d a b = let z : k ≡ 0 = omega (arith, a) in rw z (never_itself (get_or xs 0 d) _ refl)
  top xs h (suc fuel) k d a b = same_or k 0
      (λ z. rw z (never_itself (get_or xs 0 d) _ refl))
      (λ n. o.chain _ _ _ (h k d (omega (arith, n)) b) (top xs h fuel (parent k) d (omega (arith, a, n)) (omega (arith, b, n))))

  -- of two children the right one, where it comes before the left one
  pub right_first : (xs : List X) (at : ℕ) → 2 * at + 1 + 1 < length xs → ((d : X) → lt (get_or xs (2 * at + 1 + 1) d) (get_or xs (2 * at + 1) d) ≡ true)
      → FirstChild xs at (2 * at + 1 + 1)
  right_first xs at within before = (
    omega arith,
    omega arith,
    within,
    λ k d a e b. same_or k (2 * at + 1)
        (λ s. by _ _ _ _ (ap (λ m. get_or xs m d) s) refl (o.one_way _ _ (before d)))
        (λ n. let s : k ≡ 2 * at + 1 + 1 = omega (arith, a, e, n) in rw s (never_itself (get_or xs (2 * at + 1 + 1) d) _ refl)),
  )

  -- else the left one
  pub left_first : (xs : List X) (at : ℕ) → 2 * at + 1 < length xs
      → ((d : X) → 2 * at + 1 + 1 < length xs → lt (get_or xs (2 * at + 1 + 1) d) (get_or xs (2 * at + 1) d) ≡ false) → FirstChild xs at (2 * at + 1)
  left_first xs at within not = (
    omega arith,
    omega arith,
    within,
    λ k d a e b. same_or k (2 * at + 1)
        (λ s. rw s (never_itself (get_or xs (2 * at + 1) d) _ refl))
        (λ n. let s : k ≡ 2 * at + 1 + 1 = omega (arith, a, e, n) in by _ _ _ _ (ap (λ m. get_or xs m d) s) refl (not d (omega (arith, b, s)))),
  )

pub placed : (xs : List Entry) (x : Entry) → IsAmong x xs → (k : ℕ) × (k < length xs) × ((d : Entry) → get_or xs k d ≡ x)
placed [] x has = absurd has
placed (y ∷ xs) x (inl e) = (0, search rules, λ d. sym e)
placed (y ∷ xs) x (inr has) = let p = placed xs x has in (suc p.0, search (rules, p.1), p.2)

pub front_first : (x : Entry) (xs : List Entry) → IsHeap (x ∷ xs) → IsSoonest x (x ∷ xs)
front_first x xs h y has =
    let p = placed (x ∷ xs) y has in
    ap (λ z. is_before z x) (sym (p.2 x)) ∙ top is_before order (x ∷ xs) h p.0 p.0 x (omega arith) p.1

pub first_told : (xs : List Entry) (r : Option Entry) → r ≡ slice_get xs 0 → IsHeap xs → MatchOption r (xs ≡ []) (λ e. IsAmong e xs × IsSoonest e xs)
first_told [] r e h = rw e refl
first_told (x ∷ xs) r e h = rw e (inl refl, front_first x xs h)

-- the front is taken out, and the rest ordered anew
pub taken : (xs ys zs : List Entry) (x : Entry) → 0 < length xs → x ≡ get_or xs 0 x → ys ≡ swap_remove xs 0 x → IsPermutation ys zs
    → IsPermutation xs (x ∷ zs) × (length xs ≡ length zs + 1)
taken xs ys zs x some is left moved =
    let all = IsPermutation-trans xs (x ∷ swap_remove xs 0 x) (x ∷ zs) (IsPermutation-swap_remove xs 0 x some is) (IsPermutation-cons x _ zs (rw left at moved)) in
    let long : suc (length zs) ≡ length xs = length_permutation xs (x ∷ zs) all in
    (all, omega (arith, long))

-- what is not taken before another one doesn't wake before it
pub not_sooner : (x y : Entry) → is_before x y ≡ false → int_lt x.wake y.wake ≡ false
not_sooner x y h = go (int_lt x.wake y.wake) refl where
  go : (b : Bool) → int_lt x.wake y.wake ≡ b → b ≡ false
  go true e = absurd (true_false (sym (ap (λ b. is_lt (ordering_then (cond b Less (cond (int_lt y.wake x.wake) Greater Equal)) (nat_cmp x.number y.number))) e) ∙ h))
  go false e = refl

later_yet : (now a b : ℤ) → int_lt now a ≡ true → int_lt b a ≡ false → int_le b now ≡ false
later_yet now a b p q = grind (arith, ints)

-- where the front's time hasn't come, nobody's has
pub nobody_due : (now : ℤ) (x : Entry) (xs : List Entry) → IsSoonest x xs → int_lt now x.wake ≡ true → IsNobodyDue now xs
nobody_due now x xs first later z has = later_yet now x.wake z.wake later (not_sooner z x (first z has))

pub nobody_in : (now : ℤ) (xs : List Entry) → xs ≡ [] → IsNobodyDue now xs
nobody_in now xs e z has = absurd (subst (IsAmong z) e has)

pub take_front : (ws zs : List Entry) (n : ℕ) → length ws ≡ n → take n (ws ++ zs) ≡ ws
take_front [] zs zero e = refl
take_front [] zs (suc n) e = absurd (omega (arith, e))
take_front (w ∷ ws) zs zero e = absurd (omega (arith, e))
take_front (w ∷ ws) zs (suc n) e = ap (λ l. w ∷ l) (take_front ws zs n (omega (arith, e)))

-- what a slice of a list leaves in it
pub written_back : (xs ys ws : List Entry) → ys ≡ xs → length ws ≡ length ys → IsPermutation ys ws → IsPermutation xs (refill (length xs) xs ws)
written_back xs ys ws same long moved =
    subst (IsPermutation xs) (sym (take_front ws (drop (length ws) xs) (length xs) (long ∙ ap length same))) (subst (λ l. IsPermutation l ws) same moved)

pub front_is : (xs : List Entry) (x : Entry) → 0 < length xs → x ≡ get_or xs 0 x → Some x ≡ slice_get xs 0
front_is [] x some is = absurd (omega (arith, some))
front_is (y ∷ xs) x some is = ap Some is

not_later : (now a : ℤ) → int_lt now a ≡ false → int_le a now ≡ true
not_later now a p = grind (arith, ints)

-- the front is taken where its time has come
pub due_taken : (now : ℤ) (xs ys : List Entry) (x : Entry) (r : Option Entry) → r ≡ Some x → int_lt now x.wake ≡ false
    → MatchOption r ((xs ≡ []) × (ys ≡ [])) (λ e. IsPermutation xs (e ∷ ys) × (length xs ≡ length ys + 1))
    → MatchOption r ((ys ≡ xs) × IsNobodyDue now xs) (λ e. IsPermutation xs (e ∷ ys) × (is_due_entry now e ≡ true) × (length xs ≡ length ys + 1))
due_taken now xs ys x r is due left = rw is (let l = rw is at left in (l.0, not_later now x.wake due, l.1))
