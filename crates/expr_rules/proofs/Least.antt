-- The least fault of joined lists.
use Rattle.std.proofs.Common.{◌≡◌, ◌≤◌, zero, suc, subst, ◌+◌, ◌⊎◌, inl, inr, length, drop, ◌<◌, ℕ, List, [], ◌∷◌, ◌++◌, Option, Some, None, Bool, true, false, refl, sym, ap, ◌∙◌, arith}
use Rattle.std.specs.Prelude.{nat_lt, cond, get_or}
use Rattle.std.specs.List.{Contains}
use Rattle.std.proofs.lemmas.List.{at_drop_more}
use Rattle.std.proofs.lemmas.Grind.{common_steps}
use Rattle.lexer.specs.declared.fault.Fault.{Fault}
use Rattle.expr_rules.specs.Faults.{Faults, LeastIsLeast, least, order_of, sooner}

pub sooner_none : (a : Option Fault) → sooner a None ≡ a
sooner_none None = refl
sooner_none (Some a) = refl

less_less : (x y z : ℕ) → nat_lt y x ≡ true → nat_lt z y ≡ true → nat_lt z x ≡ true
less_less x y z h k = grind (arith, h, k)

least_least : (x y z : ℕ) → nat_lt y x ≡ false → nat_lt z y ≡ false → nat_lt z x ≡ false
least_least x y z h k = grind (arith, h, k)

-- b before a or not, c before b or not
assoc_by : (a b c : Fault) (u v : Bool) → nat_lt (order_of b) (order_of a) ≡ u → nat_lt (order_of c) (order_of b) ≡ v
    → sooner (cond u (Some b) (Some a)) (Some c) ≡ sooner (Some a) (cond v (Some c) (Some b))
assoc_by a b c true true h k = ap (λ w. cond w (Some c) (Some b)) k ∙ sym (ap (λ w. cond w (Some c) (Some a)) (less_less (order_of a) (order_of b) (order_of c) h k))
assoc_by a b c true false h k = ap (λ w. cond w (Some c) (Some b)) k ∙ sym (ap (λ w. cond w (Some b) (Some a)) h)
assoc_by a b c false true h k = refl
assoc_by a b c false false h k = ap (λ w. cond w (Some c) (Some a)) (least_least (order_of a) (order_of b) (order_of c) h k) ∙ sym (ap (λ w. cond w (Some b) (Some a)) h)

pub sooner_assoc : (a b c : Option Fault) → sooner (sooner a b) c ≡ sooner a (sooner b c)
sooner_assoc None b c = refl
sooner_assoc (Some a) None c = refl
sooner_assoc (Some a) (Some b) None = sooner_none _
sooner_assoc (Some a) (Some b) (Some c) = assoc_by a b c _ _ refl refl

pub least_append : (xs ys : Faults) → least (xs ++ ys) ≡ sooner (least xs) (least ys)
least_append [] ys = refl
least_append (x ∷ xs) ys = ap (sooner (Some x)) (least_append xs ys) ∙ sym (sooner_assoc (Some x) (least xs) (least ys))

some_sooner : (b : Option Fault) (a : Fault) → None ≡ sooner (Some a) b → ⊥
some_sooner None a h = cc
some_sooner (Some b) a h = some_chosen (nat_lt (order_of b) (order_of a)) h
  where
    some_chosen : (u : Bool) → None ≡ cond u (Some b) (Some a) → ⊥
    some_chosen true e = cc
    some_chosen false e = cc

pub none_least : (fs : Faults) → None ≡ least fs → fs ≡ []
none_least [] h = refl
none_least (f ∷ fs) h = absurd (some_sooner (least fs) f h)

contains_later : (g : Fault) (fs : Faults) (f : Fault) → Contains fs f → Contains (g ∷ fs) f
contains_later g fs f h = (suc h.0, grind (arith, common_steps, h.1), h.2)

some_same : (a f : Fault) → Some f ≡ Some a → a ≡ f
some_same a f h = let g : Option Fault → Fault = λ o. elim o [ Some x ↦ x | None ↦ a ] in sym (ap g h)

one_of : (b : Option Fault) (a f : Fault) → Some f ≡ sooner (Some a) b → (a ≡ f) ⊎ (Some f ≡ b)
one_of None a f h = inl (some_same a f h)
one_of (Some b) a f h = one_chosen (nat_lt (order_of b) (order_of a)) h
  where
    one_chosen : (u : Bool) → Some f ≡ cond u (Some b) (Some a) → (a ≡ f) ⊎ (Some f ≡ Some b)
    one_chosen true e = inr e
    one_chosen false e = inl (some_same a f e)

some_least : (fs : Faults) (f : Fault) → Some f ≡ least fs → Contains fs f
some_least [] f h = cc
some_least (g ∷ fs) f h =
    elim (one_of (least fs) g f h) [
      | inl e ↦ (0, grind (arith, common_steps), e)
      | inr e ↦ contains_later g fs f (some_least fs f e)
    ]

-- ---- none comes before the least

not_less : (x y : ℕ) → nat_lt y x ≡ false → x ≤ y
not_less x y h = grind (arith, h)

is_less : (x y : ℕ) → nat_lt y x ≡ true → y ≤ x
is_less x y h = grind (arith, h)

through : (x y z : ℕ) → x ≤ y → y ≤ z → x ≤ z
through x y z h k = omega (arith, h, k)

-- the sooner of two comes before neither of them
abbrev AtMost : Option Fault → Fault → Type 0
AtMost None g = ⊥
AtMost (Some f) g = order_of f ≤ order_of g

sooner_left : (a : Fault) (b : Option Fault) → AtMost (sooner (Some a) b) a
sooner_left a None = omega arith
sooner_left a (Some b) = chosen (nat_lt (order_of b) (order_of a)) refl
  where
    chosen : (u : Bool) → nat_lt (order_of b) (order_of a) ≡ u → AtMost (cond u (Some b) (Some a)) a
    chosen true e = is_less (order_of a) (order_of b) e
    chosen false e = omega arith

sooner_right : (a : Fault) (b : Option Fault) (g : Fault) → AtMost b g → AtMost (sooner (Some a) b) g
sooner_right a None g h = absurd h
sooner_right a (Some b) g h = chosen (nat_lt (order_of b) (order_of a)) refl
  where
    chosen : (u : Bool) → nat_lt (order_of b) (order_of a) ≡ u → AtMost (cond u (Some b) (Some a)) g
    chosen true e = h
    chosen false e = through (order_of a) (order_of b) (order_of g) (not_less (order_of a) (order_of b) e) h

least_first : (fs : Faults) (n : ℕ) (g : Fault) → n < length fs → get_or fs n g ≡ g → AtMost (least fs) g
least_first [] n g h e = absurd (grind (arith, h))
least_first (f ∷ fs) zero g h e = subst (AtMost (sooner (Some f) (least fs))) e (sooner_left f (least fs))
least_first (f ∷ fs) (suc n) g h e = sooner_right f (least fs) g (least_first fs n g (grind (arith, common_steps, h)) e)

pub least_is_least : LeastIsLeast
least_is_least =
    record {
      none = none_least;
      some = λ fs f h. record { listed = some_least fs f h; first = λ g held. subst (λ o. AtMost o g) (sym h) (least_first fs held.0 g held.1 held.2) };
    }

-- a turn of a loop over what is left
pub turn : {X : Type 0} (left : List X → Faults) (all : List X) (n : ℕ) (x : X) (f one : Option Fault) (first rest : Faults) (whole : Option Fault)
    → n < length all → x ≡ get_or all n x → left (x ∷ drop (n + 1) all) ≡ first ++ rest → sooner f (least (left (drop n all))) ≡ whole → one ≡ least first → sooner (sooner f one) (least rest) ≡ whole
turn left all n x f one first rest whole less is split h here =
    let next = at_drop_more left all n x less ∙ ap (λ y. left (y ∷ drop (n + 1) all)) (sym is) ∙ split in
    sooner_assoc f one (least rest)
    ∙ ap (λ o. sooner f (sooner o (least rest))) here
    ∙ ap (sooner f) (sym (least_append first rest))
    ∙ ap (λ l. sooner f (least l)) (sym next)
    ∙ h
