-- Laws of the first of several things, over all types and orders, for proofs above: of joined lists, of loops, and that the first is one of them.
use Rattle.std.proofs.Common.{◌≡◌, zero, suc, ◌+◌, ◌⊎◌, inl, inr, length, drop, ◌<◌, ◌≤◌, ℕ, List, [], ◌∷◌, ◌++◌, Option, Some, None, Bool, true, false, refl, sym, ap, subst, ⊎_elim, ◌∙◌, arith}
use Rattle.std.specs.Prelude.{nat_lt, cond, get_or}
use Rattle.std.specs.List.{Contains}
use Rattle.std.proofs.Math.Nat.{le_refl, le_trans, lt_trans}
use Rattle.std.proofs.lemmas.Bool.{le-ltb, lt-ltb, ltb-false, ltb-true}
use Rattle.std.proofs.lemmas.List.{at_drop_more}
use Rattle.std.proofs.lemmas.Grind.{common_steps}
use Rattle.std.proofs.lemmas.Option.{none-some, same_Some}
use Rattle.base.specs.First.{first_by, sooner_by}

-- Which of two comes sooner

pub sooner_none : {X : Type 0} (order : X → ℕ) (a : Option X) → sooner_by order a None ≡ a
sooner_none order None = refl
sooner_none order (Some a) = refl

less_less : (x y z : ℕ) → nat_lt y x ≡ true → nat_lt z y ≡ true → nat_lt z x ≡ true
less_less x y z h k = lt-ltb z x (lt_trans (ltb-true z y k) (ltb-true y x h))

most_most : (x y z : ℕ) → nat_lt y x ≡ false → nat_lt z y ≡ false → nat_lt z x ≡ false
most_most x y z h k = le-ltb z x (le_trans (ltb-false y x h) (ltb-false z y k))

-- b before a or not, c before b or not
assoc_by : {X : Type 0} (order : X → ℕ) (a b c : X) (u v : Bool) → nat_lt (order b) (order a) ≡ u → nat_lt (order c) (order b) ≡ v
    → sooner_by order (cond u (Some b) (Some a)) (Some c) ≡ sooner_by order (Some a) (cond v (Some c) (Some b))
assoc_by order a b c true true h k = ap (λ w. cond w (Some c) (Some b)) k
    ∙ sym (ap (λ w. cond w (Some c) (Some a)) (less_less (order a) (order b) (order c) h k))
assoc_by order a b c true false h k = ap (λ w. cond w (Some c) (Some b)) k ∙ sym (ap (λ w. cond w (Some b) (Some a)) h)
assoc_by order a b c false true h k = refl
assoc_by order a b c false false h k = ap (λ w. cond w (Some c) (Some a)) (most_most (order a) (order b) (order c) h k)
    ∙ sym (ap (λ w. cond w (Some b) (Some a)) h)

pub sooner_assoc : {X : Type 0} (order : X → ℕ) (a b c : Option X) → sooner_by order (sooner_by order a b) c ≡ sooner_by order a (sooner_by order b c)
sooner_assoc order None b c = refl
sooner_assoc order (Some a) None c = refl
sooner_assoc order (Some a) (Some b) None = sooner_none order (sooner_by order (Some a) (Some b))
sooner_assoc order (Some a) (Some b) (Some c) = assoc_by order a b c _ _ refl refl

-- Joined lists

pub first_append : {X : Type 0} (order : X → ℕ) (xs ys : List X) → first_by order (xs ++ ys) ≡ sooner_by order (first_by order xs) (first_by order ys)
first_append order [] ys = refl
first_append order (x ∷ xs) ys = ap (sooner_by order (Some x)) (first_append order xs ys)
    ∙ sym (sooner_assoc order (Some x) (first_by order xs) (first_by order ys))

-- a turn of a loop over what is left
pub turn : {X Y : Type 0} (order : Y → ℕ) (left : List X → List Y) (all : List X) (n : ℕ) (x : X) (f one : Option Y) (first rest : List Y) (whole : Option Y)
    → n < length all → x ≡ get_or all n x → left (x ∷ drop (n + 1) all) ≡ first ++ rest → sooner_by order f (first_by order (left (drop n all))) ≡ whole
    → one ≡ first_by order first
    → sooner_by order (sooner_by order f one) (first_by order rest) ≡ whole
turn order left all n x f one first rest whole less is split h here =
    let next = at_drop_more left all n x less ∙ ap (λ y. left (y ∷ drop (n + 1) all)) (sym is) ∙ split in
    sooner_assoc order f one (first_by order rest)
    ∙ ap (λ o. sooner_by order f (sooner_by order o (first_by order rest))) here
    ∙ ap (sooner_by order f) (sym (first_append order first rest))
    ∙ ap (λ l. sooner_by order f (first_by order l)) (sym next)
    ∙ h

-- The first of a list is in it, and none of the list comes before it

pub record IsFirstOf {X : Type 0} (order : X → ℕ) (xs : List X) (f : X) : Type 0 where
  pub held : Contains xs f
  pub least : (g : X) → Contains xs g → order f ≤ order g

-- one of two is the sooner
taken : {X : Type 0} (order : X → ℕ) (a b : X) (P : Option X → Type 0) → (order a ≤ order b → P (Some a)) → (order b ≤ order a → P (Some b))
    → P (sooner_by order (Some a) (Some b))
taken order a b P first second = by (nat_lt (order b) (order a)) refl
  where
    by : (u : Bool) → nat_lt (order b) (order a) ≡ u → P (cond u (Some b) (Some a))
    by true e = second (grind (arith, e))
    by false e = first (ltb-false (order b) (order a) e)

some_sooner : {X : Type 0} (order : X → ℕ) (a : X) (b : Option X) → None ≡ sooner_by order (Some a) b → ⊥
some_sooner order a None h = none-some a h
some_sooner order a (Some b) h = taken order a b (λ o. None ≡ o → ⊥) (λ le e. none-some a e) (λ le e. none-some b e) h

pub none_first : {X : Type 0} (order : X → ℕ) (xs : List X) → None ≡ first_by order xs → xs ≡ []
none_first order [] h = refl
none_first order (x ∷ xs) h = absurd (some_sooner order x (first_by order xs) h)

head_or_later : {X : Type 0} (x : X) (xs : List X) (g : X) (k : ℕ) → k < length (x ∷ xs) → get_or (x ∷ xs) k g ≡ g → (x ≡ g) ⊎ Contains xs g
head_or_later x xs g zero less is = inl is
head_or_later x xs g (suc k) less is = inr (k, grind (arith, less), is)

later : {X : Type 0} (x : X) (xs : List X) (g : X) → Contains xs g → Contains (x ∷ xs) g
later x xs g h = (suc h.0, grind (arith, common_steps, h.1), h.2)

head_leads : {X : Type 0} (order : X → ℕ) (x : X) (xs : List X) → ((g : X) → Contains xs g → order x ≤ order g) → IsFirstOf order (x ∷ xs) x
head_leads order x xs low = record {
  held = (0, grind (arith, common_steps), refl);
  least = λ g c. ⊎_elim (λ is. subst (λ v. order x ≤ order v) is (le_refl (order x))) (low g) (head_or_later x xs g c.0 c.1 c.2);
}

later_leads : {X : Type 0} (order : X → ℕ) (x y : X) (xs : List X) → IsFirstOf order xs y → order y ≤ order x → IsFirstOf order (x ∷ xs) y
later_leads order x y xs r le = record {
  held = later x xs y r.held;
  least = λ g c. ⊎_elim (λ is. subst (λ v. order y ≤ order v) is le) (r.least g) (head_or_later x xs g c.0 c.1 c.2);
}

one_leads : {X : Type 0} (order : X → ℕ) (x : X) (xs : List X) (f : X) (o : Option X) → o ≡ first_by order xs → Some f ≡ sooner_by order (Some x) o
    → ((y : X) → o ≡ Some y → IsFirstOf order xs y) → IsFirstOf order (x ∷ xs) f
one_leads order x xs f None e h rest =
    let none = ap length (none_first order xs e) in
    subst (IsFirstOf order (x ∷ xs)) (sym (same_Some f x h)) (head_leads order x xs (λ g c. absurd (grind (arith, none, c.1))))
one_leads order x xs f (Some y) e h rest =
    let r = rest y refl in
    taken order x y (λ o. Some f ≡ o → IsFirstOf order (x ∷ xs) f)
    (λ le is. subst (IsFirstOf order (x ∷ xs)) (sym (same_Some f x is)) (head_leads order x xs (λ g c. le_trans le (r.least g c))))
    (λ le is. subst (IsFirstOf order (x ∷ xs)) (sym (same_Some f y is)) (later_leads order x y xs r le))
    h

pub is_first : {X : Type 0} (order : X → ℕ) (xs : List X) (f : X) → Some f ≡ first_by order xs → IsFirstOf order xs f
is_first order [] f h = absurd (none-some f (sym h))
is_first order (x ∷ xs) f h = one_leads order x xs f (first_by order xs) refl h (λ y e. is_first order xs y (sym e))
