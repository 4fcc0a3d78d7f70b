-- The first row of a table of places that covers an instruction stands within each other one that does.
use Rattle.std.proofs.Common.{◌≡◌, ◌≤◌, ◌<◌, ℕ, zero, suc, List, [], ◌∷◌, All, Bool, true, false, None, Some, inl, inr, refl, sym, ap, ◌∙◌, subst, arith, rules}
use Rattle.std.proofs.lemmas.List.Elements.{All-head, All-tail}
use Rattle.std.specs.Prelude.{◌&&◌, if◌then◌else◌, nat_le, nat_lt, slice_get}
use Rattle.stmt_code.specs.Placing.{AreInnermostFirst, IsInnerOrBefore, place_at}
use Rattle.stmt_code.specs.declared.tables.PlaceRow.{PlaceRow}
use Rattle.compiler.specs.Located.{CoversPlace, IsInnermostRow, PlacesAreInnermost}

some_same : {X : Type 0} (x y : X) → Some x ≡ Some y → x ≡ y
some_same x y e = cc

none_some : {X : Type 0} (x : X) → None ≡ Some x → ⊥
none_some x e = cc

all_at : (P : PlaceRow → Type 0) (xs : List PlaceRow) → All P xs → (n : ℕ) (x : PlaceRow) → slice_get xs n ≡ Some x → P x
all_at P [] all n x e = absurd (none_some x e)
all_at P (y ∷ xs) all zero x e = subst P (some_same y x e) (All-head P y xs all)
all_at P (y ∷ xs) all (suc n) x e = all_at P xs (All-tail P y xs all) n x e

le_of : (a b : ℕ) → nat_le a b ≡ true → a ≤ b
le_of a b e = search rules

lt_of : (a b : ℕ) → nat_lt a b ≡ true → a < b
lt_of a b e = search rules

le_true : (a b : ℕ) → a ≤ b → nat_le a b ≡ true
le_true a b h = search rules

lt_true : (a b : ℕ) → a < b → nat_lt a b ≡ true
lt_true a b h = search rules

left_true : (a b : Bool) → (a && b) ≡ true → a ≡ true
left_true true b e = refl
left_true false b e = absurd cc

right_true : (a b : Bool) → (a && b) ≡ true → b ≡ true
right_true true b e = e
right_true false b e = absurd cc

module _ (address : ℕ) where
  abbrev covers : PlaceRow → Bool
  covers q = nat_le q.first address && nat_lt address q.behind

  covered : (q : PlaceRow) → covers q ≡ true → CoversPlace q address
  covered q e = record {
    low = le_of q.first address (left_true (nat_le q.first address) (nat_lt address q.behind) e);
    high = lt_of address q.behind (right_true (nat_le q.first address) (nat_lt address q.behind) e);
  }

  covering : (q : PlaceRow) → CoversPlace q address → covers q ≡ true
  covering q c = ap (λ t. t && nat_lt address q.behind) (le_true q.first address c.low) ∙ lt_true address q.behind c.high

  uncovered : (q : PlaceRow) → covers q ≡ false → CoversPlace q address → ⊥
  uncovered q e c = (let t : false ≡ true = sym e ∙ covering q c in cc)

  abbrev Found : List PlaceRow → (place : ℕ) → Type 0
  Found table place = (q : PlaceRow) × (q.place ≡ place) × IsInnermostRow table address q

  found : (table : List PlaceRow) → AreInnermostFirst table → (place : ℕ) → place_at table address ≡ Some place → Found table place
  found [] h place e = absurd (none_some place e)
  found (q ∷ rows) h place e = by (found rows h.1 place) (covers q) refl
    where
      here_within : covers q ≡ true → (n : ℕ) (r : PlaceRow) → slice_get (q ∷ rows) n ≡ Some r → CoversPlace r address
          → (r.first ≤ q.first) × (q.behind ≤ r.behind)
      here_within t zero r is c = subst (λ z. (z.first ≤ q.first) × (q.behind ≤ z.behind)) (some_same q r is) (omega arith, omega arith)
      here_within t (suc n) r is c = by_side (all_at (IsInnerOrBefore q) rows h.0 n r is)
        where
          by_side : IsInnerOrBefore q r → (r.first ≤ q.first) × (q.behind ≤ r.behind)
          by_side (inl front) = absurd (let a = c.low in let b = (covered q t).high in omega (arith, a, b, front))
          by_side (inr inside) = inside

      later_within : (f : Found rows place) → covers q ≡ false → (n : ℕ) (r : PlaceRow) → slice_get (q ∷ rows) n ≡ Some r → CoversPlace r address
          → (r.first ≤ f.0.first) × (f.0.behind ≤ r.behind)
      later_within f t zero r is c = absurd (uncovered q t (subst (λ z. CoversPlace z address) (sym (some_same q r is)) c))
      later_within f t (suc n) r is c = f.2.within n r is c

      by : (place_at rows address ≡ Some place → Found rows place) → (t : Bool) → covers q ≡ t → Found (q ∷ rows) place
      by later true t = (
        q,
        some_same q.place place (sym (ap (λ b. if b then Some q.place else place_at rows address) t) ∙ e),
        record { index = 0; there = refl; covers = covered q t; within = here_within t },
      )
      by later false t =
          let f = later (sym (ap (λ b. if b then Some q.place else place_at rows address) t) ∙ e) in
          (f.0, f.1, record { index = suc f.2.index; there = f.2.there; covers = f.2.covers; within = later_within f t })

  missing : (table : List PlaceRow) → place_at table address ≡ None → (n : ℕ) (r : PlaceRow) → slice_get table n ≡ Some r → CoversPlace r address → ⊥
  missing [] e n r is c = none_some r is
  missing (q ∷ rows) e n r is c = by (λ k m there. missing rows k m r there c) (covers q) refl n is
    where
      by : (place_at rows address ≡ None → (m : ℕ) → slice_get rows m ≡ Some r → ⊥) → (t : Bool) → covers q ≡ t → (n : ℕ)
          → slice_get (q ∷ rows) n ≡ Some r → ⊥
      by later true t n is = none_some q.place (sym e ∙ ap (λ b. if b then Some q.place else place_at rows address) t)
      by later false t zero is = uncovered q t (subst (λ z. CoversPlace z address) (sym (some_same q r is)) c)
      by later false t (suc n) is = later (sym (ap (λ b. if b then Some q.place else place_at rows address) t) ∙ e) n is

pub places_innermost : PlacesAreInnermost
places_innermost = record {
  found = λ table h address place e. found address table h place e;
  missing = λ table address e n r is c. missing address table e n r is c;
}
