-- Frames in front of a body and behind its parameters, made of what is visible in the text: those that are copied in stand first, and then the others.
use Rattle.std.proofs.Common.{◌≡◌, ℕ, ◌⊎◌, inl, inr, List, [], ◌∷◌, ◌++◌, map, cond, Bool, true, false, Some, None, refl, sym, ap, ◌∙◌, subst}
use Rattle.std.specs.Prelude.{bytes_eq, if◌then◌else◌, ⊤}
use Rattle.types.specs.Places.{or_else}
use Rattle.types.specs.Scopes.{Scope, with_name}
use Rattle.expr_soundness.specs.SoundScopes.{IsKnown}
use Rattle.expr_soundness.specs.meaning.specs.Calls.{is_out}
use Rattle.program_soundness.proofs.WiderScopes.{bytes_same, found_in, same_bytes, stands}
use Rattle.program_soundness.proofs.Formals.{AreNew, all_named, named_formal}
use Rattle.program_soundness.proofs.Listing.{Has, has_back, has_either, has_front}
use Rattle.step_simulation.specs.part_code.specs.Resting.{Framed}
use Rattle.step_simulation.specs.part_code.specs.Formals.{AddsEach, AddsParameter, Placed, parameter_at}
use Rattle.package_code.proofs.Reordered.{slot_at}

-- ---- those that are copied in, and the others

abbrev pub taken_of : List Placed → List Placed
taken_of [] = []
taken_of (x ∷ xs) = if is_out x.0.mode then taken_of xs else x ∷ taken_of xs

abbrev pub outs_of : List Placed → List Placed
outs_of [] = []
outs_of (x ∷ xs) = if is_out x.0.mode then x ∷ outs_of xs else outs_of xs

-- in the order in which they become visible to a call
abbrev pub in_turn : List Placed → List Placed
in_turn xs = taken_of xs ++ outs_of xs

pub turn_has : (xs : List Placed) (p : Placed) → Has xs p → Has (in_turn xs) p
turn_has [] p h = absurd h
turn_has (x ∷ xs) p h = by_mode (is_out x.0.mode) h (λ k. has_either (taken_of xs) (outs_of xs) p (turn_has xs p k))
  where
    by_mode : (b : Bool) → Has (x ∷ xs) p → (Has xs p → Has (taken_of xs) p ⊎ Has (outs_of xs) p)
        → Has ((if b then taken_of xs else x ∷ taken_of xs) ++ (if b then x ∷ outs_of xs else outs_of xs)) p
    by_mode true (inl e) later = has_back (taken_of xs) (x ∷ outs_of xs) p (inl e)
    by_mode true (inr k) later = elim (later k) [
      | inl a ↦ has_front (taken_of xs) (x ∷ outs_of xs) p a
      | inr a ↦ has_back (taken_of xs) (x ∷ outs_of xs) p (inr a)
    ]
    by_mode false (inl e) later = inl e
    by_mode false (inr k) later = elim (later k) [
      | inl a ↦ inr (has_front (taken_of xs) (outs_of xs) p a)
      | inr a ↦ inr (has_back (taken_of xs) (outs_of xs) p a)
    ]

pub has_turn : (xs : List Placed) (p : Placed) → Has (in_turn xs) p → Has xs p
has_turn [] p h = absurd h
has_turn (x ∷ xs) p h = by_mode (is_out x.0.mode) h (λ k. has_turn xs p k)
  where
    by_mode : (b : Bool) → Has ((if b then taken_of xs else x ∷ taken_of xs) ++ (if b then x ∷ outs_of xs else outs_of xs)) p
        → (Has (in_turn xs) p → Has xs p) → Has (x ∷ xs) p
    by_mode true h later = elim (has_either (taken_of xs) (x ∷ outs_of xs) p h) [
      | inl a ↦ inr (later (has_front (taken_of xs) (outs_of xs) p a))
      | inr a ↦ elim a [ inl e ↦ inl e | inr k ↦ inr (later (has_back (taken_of xs) (outs_of xs) p k)) ]
    ]
    by_mode false (inl e) later = inl e
    by_mode false (inr k) later = inr (later k)

-- ---- names, each once

abbrev NotNamed : List Placed → List ℕ → Type 0
NotNamed xs name = (p : Placed) → Has xs p → bytes_eq name p.0.name ≡ false

abbrev AreNamed : List Placed → Type 0
AreNamed [] = ⊤
AreNamed (x ∷ xs) = NotNamed xs x.0.name × AreNamed xs

turned : (a b : List ℕ) → bytes_eq a b ≡ false → bytes_eq b a ≡ false
turned a b h = by_test (bytes_eq b a) refl
  where
    by_test : (c : Bool) → bytes_eq b a ≡ c → c ≡ false
    by_test true e = let same = ap (bytes_eq a) (same_bytes b a e) ∙ bytes_same a in let both = sym same ∙ h in cc
    by_test false e = refl

inserted : (xs ys : List Placed) (x : Placed) → AreNamed (xs ++ ys) → NotNamed (xs ++ ys) x.0.name → AreNamed (xs ++ x ∷ ys)
inserted [] ys x named new = (new, named)
inserted (z ∷ xs) ys x named new = (
  λ p h. elim (has_either xs (x ∷ ys) p h) [
    | inl a ↦ named.0 p (has_front xs ys p a)
    | inr a ↦ elim a [
      | inl e ↦ subst (λ q. bytes_eq z.0.name q.0.name ≡ false) e (turned x.0.name z.0.name (new z (inl refl)))
      | inr k ↦ named.0 p (has_back xs ys p k)
    ]
  ],
  inserted xs ys x named.1 (λ p h. new p (inr h)),
)

turn_named : (xs : List Placed) → AreNamed xs → AreNamed (in_turn xs)
turn_named [] named = tt
turn_named (x ∷ xs) named = by_mode (is_out x.0.mode) (turn_named xs named.1)
  where
    other : NotNamed (in_turn xs) x.0.name
    other p h = named.0 p (has_turn xs p h)

    by_mode : (b : Bool) → AreNamed (in_turn xs) → AreNamed ((if b then taken_of xs else x ∷ taken_of xs) ++ (if b then x ∷ outs_of xs else outs_of xs))
    by_mode true later = inserted (taken_of xs) (outs_of xs) x later other
    by_mode false later = (other, later)

none_named : (xs : List Placed) (name : List ℕ) → found_in (all_named (map parameter_at xs)) name ≡ None → NotNamed xs name
none_named [] name h p k = absurd k
none_named (x ∷ xs) name h p k = by_test (bytes_eq name x.0.name) refl h k (λ i. none_named xs name i p)
  where
    by_test : (b : Bool) → bytes_eq name x.0.name ≡ b
        → or_else (cond b (Some (named_formal x.0).entity) None) (found_in (all_named (map parameter_at xs)) name) ≡ None
        → Has (x ∷ xs) p → (found_in (all_named (map parameter_at xs)) name ≡ None → Has xs p → bytes_eq name p.0.name ≡ false)
        → bytes_eq name p.0.name ≡ false
    by_test true e i k later = cc
    by_test false e i (inl same) later = subst (λ q. bytes_eq name q.0.name ≡ false) same e
    by_test false e i (inr k) later = later i k

named_none : (xs : List Placed) (name : List ℕ) → NotNamed xs name → found_in (all_named (map parameter_at xs)) name ≡ None
named_none [] name h = refl
named_none (x ∷ xs) name h =
    ap (λ b. or_else (cond b (Some (named_formal x.0).entity) None) (found_in (all_named (map parameter_at xs)) name)) (h x (inl refl))
    ∙ named_none xs name (λ p k. h p (inr k))

module _ (s : Scope) where
  abbrev AreFresh : List Placed → Type 0
  AreFresh xs = (p : Placed) → Has xs p → (stands s p.0.name ≡ None) × IsKnown s p.0.subtype

  fresh_of : (xs : List Placed) → AreNew s (map parameter_at xs) → AreFresh xs
  fresh_of [] new p h = absurd h
  fresh_of (x ∷ xs) new p (inl e) = subst (λ q. (stands s q.0.name ≡ None) × IsKnown s q.0.subtype) e (new.0, new.2)
  fresh_of (x ∷ xs) new p (inr k) = fresh_of xs new.3 p k

  names_of : (xs : List Placed) → AreNew s (map parameter_at xs) → AreNamed xs
  names_of [] new = tt
  names_of (x ∷ xs) new = (none_named xs x.0.name new.1, names_of xs new.3)

  new_of : (xs : List Placed) → AreFresh xs → AreNamed xs → AreNew s (map parameter_at xs)
  new_of [] fresh named = tt
  new_of (x ∷ xs) fresh named =
      let one = fresh x (inl refl) in (one.0, named_none xs x.0.name named.0, one.1, new_of xs (λ p k. fresh p (inr k)) named.1)

  pub turn_new : (xs : List Placed) → AreNew s (map parameter_at xs) → AreNew s (map parameter_at (in_turn xs))
  turn_new xs new = new_of (in_turn xs) (λ p h. fresh_of xs new p (has_turn xs p h)) (turn_named xs (names_of xs new))

-- ---- frames are made

add_one : (v : Framed) (x : Placed) → (next : Framed) × AddsParameter v x.0 x.1 next
add_one v x =
    let next : Framed = record v {
      names = record v.names {
        scope = with_name v.names.scope x.0.name (named_formal x.0).entity;
        slots = v.names.slots ++ Some (slot_at x) ∷ [];
        subprograms = v.names.subprograms ++ None ∷ [];
        operations = v.names.operations;
      };
    } in (
      next,
      record {
        slot = slot_at x;
        region = refl;
        at = refl;
        scope = refl;
        slots = refl;
        subprograms = refl;
        operations = refl;
        room = refl;
        within = refl;
        reserved = refl;
      },
    )

pub add_each : (xs : List Placed) (v : Framed) → (w : Framed) × AddsEach v xs w
add_each [] v = (v, refl)
add_each (x ∷ xs) v = let one = add_one v x in let rest = add_each xs one.0 in (rest.0, (one.0, one.1, rest.1))

pub each_joined : (xs ys : List Placed) (v w u : Framed) → AddsEach v xs w → AddsEach w ys u → AddsEach v (xs ++ ys) u
each_joined [] ys v w u h k = subst (λ z. AddsEach z ys u) h k
each_joined (x ∷ xs) ys v w u h k = (h.0, h.1, each_joined xs ys h.0 w u h.2 k)
