-- Parameters that become visible one after another, in one order or another: behind them a frame knows the same.
use Rattle.std.proofs.Common.{◌≡◌, ℕ, suc, ◌⊎◌, inl, inr, List, [], ◌∷◌, ◌++◌, length, map, cond, Bool, true, false, Option, Some, None, refl, sym, ap, ◌∙◌, subst}
use Rattle.std.specs.Prelude.{bytes_eq, is_some, slice_get}
use Rattle.image.specs.declared.instruction.Region.TheVariants as regions
use Rattle.type_rules.specs.SubtypeNames.{entity_at_or_none}
use Rattle.types.specs.Entities.{Entity, Profile, ProtectedObject}
use Rattle.types.specs.Entities as entity
use Rattle.types.specs.Places.{or_else}
use Rattle.types.specs.Scopes.{Named, Scope, is_visible, number_of, protected_at, protected_of}
use Rattle.expr_soundness.specs.Laws.{ScopesAreSound}
use Rattle.expr_soundness.specs.SoundScopes.{SoundScope}
use Rattle.expr_soundness.proofs.Positions.{item_added, number_added, same_some}
use Rattle.declaration_rules.specs.BodyNames.{formal_role}
use Rattle.expr_soundness.specs.meaning.specs.Programs.{Parameter, Program}
use Rattle.program_soundness.proofs.WiderScopes.{bytes_same, none_unseen, number_stands, one_named, same_bytes, stands, stands_number, stands_with, with_all}
use Rattle.program_soundness.proofs.Formals.{AreNew, all_named, all_types, named_formal, new_behind, sound_all}
use Rattle.program_soundness.proofs.Listing.{Has, first_some, or_else_some}
use Rattle.program_soundness.proofs.Same.{SameTypes, types_then, types_turned, types_with_all}
use Rattle.expr_code.specs.Seeing.{NamesProfile, Package, external_of, number_behind, object_named, slot_of, subprogram_of, told_of}
use Rattle.expr_code.specs.declared.visible.Slot.{Slot}
use Rattle.expr_code.specs.declared.visible.Visible.{Visible}
use Rattle.step_simulation.specs.part_code.specs.EntryNames.{entry_among, entry_behind}
use Rattle.step_simulation.specs.part_code.specs.Resting.{Framed, NarrowsFrame}
use Rattle.step_simulation.specs.part_code.proofs.Names.{same_name, told_again, told_more, told_of_more}
use Rattle.step_simulation.specs.part_code.specs.Formals.{AddsEach, AddsParameter, Placed, parameter_at}
use Rattle.package_code.specs.Package.{FindsNames}
use Rattle.package_code.proofs.InFront.{serves_more}
use Rattle.package_code.proofs.Offered.{object_entity}
use Rattle.package_code.proofs.Ordered.{narrows_same}

abbrev pub slot_at : Placed → Slot
slot_at x = record { region = regions.Locals; offset = x.1 }

abbrev pub formal_entity : Placed → Entity
formal_entity x = (named_formal x.0).entity

-- an entry for each name
pub record HasEntries (v : Framed) : Type 0 where
  pub slots : length v.names.slots ≡ length v.names.scope
  pub subprograms : length v.names.subprograms ≡ length v.names.scope

pub longer : {X : Type 0} (xs : List X) (x : X) → length (xs ++ x ∷ []) ≡ suc (length xs)
longer [] x = refl
longer (y ∷ xs) x = ap suc (longer xs x)

-- ---- one more

module _ (v next : Framed) (x : Placed) (adds : AddsParameter v x.0 x.1 next) (entries : HasEntries v) (unseen : stands v.names.scope x.0.name ≡ None) where
  abbrev s : Scope
  s = v.names.scope

  abbrev named : Named
  named = named_formal x.0

  abbrev wider : Scope
  wider = s ++ named ∷ []

  hidden : is_visible s x.0.name ≡ false
  hidden = none_unseen s x.0.name unseen

  scope_is : next.names.scope ≡ wider
  scope_is = adds.scope ∙ ap (λ b. cond b s wider) hidden

  slot_is : adds.slot ≡ slot_at x
  slot_is = λ j. record { region = adds.region j; offset = adds.at j }

  pub next_entries : HasEntries next
  next_entries = record {
    slots = ap length adds.slots ∙ longer v.names.slots (Some adds.slot) ∙ ap suc entries.slots ∙ sym (longer s named) ∙ sym (ap length scope_is);
    subprograms =
        ap length adds.subprograms ∙ longer v.names.subprograms None ∙ ap suc entries.subprograms ∙ sym (longer s named) ∙ sym (ap length scope_is);
  }

  -- what names stand for
  stands_next : (name : List ℕ) → stands next.names.scope name ≡ or_else (stands s name) (one_named named name)
  stands_next name = ap (λ z. stands z name) adds.scope ∙ stands_with s x.0.name (formal_entity x) name

  entity_came : (name : List ℕ) (e : Entity) → stands next.names.scope name ≡ Some e → (stands s name ≡ Some e) ⊎ ((x.0.name ≡ name) × (formal_entity x ≡ e))
  entity_came name e h = elim (or_else_some (stands s name) (one_named named name) e (sym (stands_next name) ∙ h)) [
    | inl k ↦ inl k
    | inr k ↦ inr (by_test (bytes_eq name x.0.name) refl k.1)
  ]
    where
      by_test : (b : Bool) → bytes_eq name x.0.name ≡ b → cond b (Some (formal_entity x)) None ≡ Some e → (x.0.name ≡ name) × (formal_entity x ≡ e)
      by_test true i k = (sym (same_bytes name x.0.name i), same_some (formal_entity x) e k)
      by_test false i k = cc

  entity_stays : (name : List ℕ) (e : Entity) → stands s name ≡ Some e → stands next.names.scope name ≡ Some e
  entity_stays name e h = stands_next name ∙ first_some (stands s name) (one_named named name) e h

  entity_there : stands next.names.scope x.0.name ≡ Some (formal_entity x)
  entity_there = stands_next x.0.name ∙ (λ j. or_else (unseen j) (cond (bytes_same x.0.name j) (Some (formal_entity x)) None))

  -- where their words stand
  told_wider : (name : List ℕ) → slot_of next.names name ≡ told_of wider (v.names.slots ++ Some adds.slot ∷ []) name
  told_wider name = ap (λ z. told_of z next.names.slots name) scope_is ∙ ap (λ l. told_of wider l name) adds.slots

  slot_came : (name : List ℕ) (y : Slot) → slot_of next.names name ≡ Some y → (slot_of v.names name ≡ Some y) ⊎ ((x.0.name ≡ name) × (slot_at x ≡ y))
  slot_came name y h =
      elim (told_of_more s named v.names.slots (Some adds.slot) name y entries.slots (sym (told_wider name) ∙ h)) [
        | inl k ↦ inl k.told
        | inr k ↦ inr (sym (same_name name x.0.name k.0), sym slot_is ∙ same_some adds.slot y k.1)
      ]

  slot_stays : (name : List ℕ) (y : Slot) → slot_of v.names name ≡ Some y → slot_of next.names name ≡ Some y
  slot_stays name y h = told_wider name ∙ told_more s named v.names.slots (Some adds.slot) name y h

  number_new : number_of wider x.0.name ≡ Some (length s)
  number_new =
      let n = number_stands next.names.scope x.0.name (formal_entity x) entity_there in
      let there : number_of wider x.0.name ≡ Some n.0 = ap (λ z. number_of z x.0.name) (sym scope_is) ∙ n.1 in
      elim (number_added s named x.0.name n.0 there) [
        | inl k ↦ absurd (let seen = sym (ap is_some k) ∙ hidden in cc)
        | inr k ↦ there ∙ ap Some k.0
      ]

  slot_there : slot_of next.names x.0.name ≡ Some (slot_at x)
  slot_there =
      let items = v.names.slots ++ Some adds.slot ∷ [] in
      told_wider x.0.name
      ∙ told_again wider items x.0.name adds.slot (record {
        number = length s;
        numbered = number_new;
        there = ap (slice_get items) (sym entries.slots) ∙ item_added v.names.slots (Some adds.slot);
      })
      ∙ ap Some slot_is

  -- the subprograms stay
  numbers_wider : (name : List ℕ) → subprogram_of next.names name ≡ told_of wider (v.names.subprograms ++ None ∷ []) name
  numbers_wider name = ap (λ z. told_of z next.names.subprograms name) scope_is ∙ ap (λ l. told_of wider l name) adds.subprograms

  number_came : (name : List ℕ) (n : ℕ) → subprogram_of next.names name ≡ Some n → subprogram_of v.names name ≡ Some n
  number_came name n h =
      elim (told_of_more s named v.names.subprograms None name n entries.subprograms (sym (numbers_wider name) ∙ h)) [
        | inl k ↦ k.told
        | inr k ↦ (let no = k.1 in cc)
      ]

  number_stays : (name : List ℕ) (n : ℕ) → subprogram_of v.names name ≡ Some n → subprogram_of next.names name ≡ Some n
  number_stays name n h = numbers_wider name ∙ told_more s named v.names.subprograms None name n h

-- ---- all of them

abbrev parameters_at : List Placed → List Parameter
parameters_at xs = map parameter_at xs

-- what holds of a name behind one of them held in front of it, or it is this one's; and it holds behind it
pub record IsAdded {X : Type 0} (T : Framed → List ℕ → X → Type 0) (value : Placed → X) : Type 0 where
  came : (v next : Framed) (x : Placed) → AddsParameter v x.0 x.1 next → HasEntries v → stands v.names.scope x.0.name ≡ None → (name : List ℕ) (y : X)
      → T next name y → T v name y ⊎ ((x.0.name ≡ name) × (value x ≡ y))
  stays : (v next : Framed) (x : Placed) → AddsParameter v x.0 x.1 next → HasEntries v → stands v.names.scope x.0.name ≡ None → (name : List ℕ) (y : X)
      → T v name y → T next name y
  there : (v next : Framed) (x : Placed) → AddsParameter v x.0 x.1 next → HasEntries v → stands v.names.scope x.0.name ≡ None → T next x.0.name (value x)

record IsOneOf {X : Type 0} (value : Placed → X) (xs : List Placed) (name : List ℕ) (y : X) : Type 0 where
  one : Placed
  has : Has xs one
  called : one.0.name ≡ name
  is : value one ≡ y

pub new_next : (v next : Framed) (x : Placed) (xs : List Placed) → AddsParameter v x.0 x.1 next → AreNew v.names.scope (parameters_at (x ∷ xs))
    → AreNew next.names.scope (parameters_at xs)
new_next v next x xs adds new =
    subst (λ z. AreNew z (parameters_at xs)) (sym adds.scope) (new_behind v.names.scope x.0 (parameters_at xs) new.1 new.3)

-- behind the first of them the others are new, and there is an entry for each name
pub new_rest : (xs ys : List Placed) (v w : Framed) → AddsEach v xs w → AreNew v.names.scope (map parameter_at (xs ++ ys))
    → AreNew w.names.scope (map parameter_at ys)
new_rest [] ys v w h new = subst (λ z. AreNew z.names.scope (map parameter_at ys)) (sym h) new
new_rest (x ∷ xs) ys v w h new = new_rest xs ys h.0 w h.2 (new_next v h.0 x (xs ++ ys) h.1 new)

pub entries_behind : (xs : List Placed) (v w : Framed) → AddsEach v xs w → HasEntries v → AreNew v.names.scope (map parameter_at xs) → HasEntries w
entries_behind [] v w h entries new = subst HasEntries (sym h) entries
entries_behind (x ∷ xs) v w h entries new = entries_behind xs h.0 w h.2 (next_entries v h.0 x h.1 entries new.0) (new_next v h.0 x xs h.1 new)

module _ {X : Type 0} (T : Framed → List ℕ → X → Type 0) (value : Placed → X) (added : IsAdded T value) where
  all_came : (xs : List Placed) (v w : Framed) → AddsEach v xs w → HasEntries v → AreNew v.names.scope (parameters_at xs) → (name : List ℕ) (y : X)
      → T w name y → T v name y ⊎ IsOneOf value xs name y
  all_came [] v w h entries new name y k = inl (subst (λ z. T z name y) h k)
  all_came (x ∷ xs) v w h entries new name y k =
      elim (all_came xs h.0 w h.2 (next_entries v h.0 x h.1 entries new.0) (new_next v h.0 x xs h.1 new) name y k) [
        | inl a ↦ elim (added.came v h.0 x h.1 entries new.0 name y a) [
          | inl b ↦ inl b
          | inr b ↦ inr (record { one = x; has = inl refl; called = b.0; is = b.1 })
        ]
        | inr a ↦ inr (record { one = a.one; has = inr a.has; called = a.called; is = a.is })
      ]

  all_stay : (xs : List Placed) (v w : Framed) → AddsEach v xs w → HasEntries v → AreNew v.names.scope (parameters_at xs) → (name : List ℕ) (y : X)
      → T v name y → T w name y
  all_stay [] v w h entries new name y k = subst (λ z. T z name y) (sym h) k
  all_stay (x ∷ xs) v w h entries new name y k =
      all_stay xs h.0 w h.2 (next_entries v h.0 x h.1 entries new.0) (new_next v h.0 x xs h.1 new) name y (added.stays v h.0 x h.1 entries new.0 name y k)

  pub all_there : (xs : List Placed) (v w : Framed) → AddsEach v xs w → HasEntries v → AreNew v.names.scope (parameters_at xs) → (p : Placed) → Has xs p
      → T w p.0.name (value p)
  all_there [] v w h entries new p k = absurd k
  all_there (x ∷ xs) v w h entries new p (inl e) =
      subst (λ z. T w z.0.name (value z)) e
      (all_stay xs h.0 w h.2 (next_entries v h.0 x h.1 entries new.0) (new_next v h.0 x xs h.1 new) x.0.name (value x) (added.there v h.0 x h.1 entries new.0))
  all_there (x ∷ xs) v w h entries new p (inr k) =
      all_there xs h.0 w h.2 (next_entries v h.0 x h.1 entries new.0) (new_next v h.0 x xs h.1 new) p k

  -- in another order the same holds
  same_there : (xs ys : List Placed) (v w u : Framed) → AddsEach v xs w → AddsEach v ys u → HasEntries v → AreNew v.names.scope (parameters_at xs)
      → AreNew v.names.scope (parameters_at ys)
      → ((p : Placed) → Has xs p → Has ys p)
      → (name : List ℕ) (y : X) → T w name y → T u name y
  same_there xs ys v w u h k entries new fresh sub name y held =
      elim (all_came xs v w h entries new name y held) [
        | inl a ↦ all_stay ys v u k entries fresh name y a
        | inr a ↦ subst (λ n. T u n y) a.called
            (subst (T u a.one.0.name) a.is (all_there ys v u k entries fresh a.one (sub a.one a.has)))
      ]

pub names_added : IsAdded (λ v name e. stands v.names.scope name ≡ Some e) formal_entity
names_added = record {
  came = λ v next x adds entries unseen name y h. entity_came v next x adds entries unseen name y h;
  stays = λ v next x adds entries unseen name y h. entity_stays v next x adds entries unseen name y h;
  there = λ v next x adds entries unseen. entity_there v next x adds entries unseen;
}

pub slots_added : IsAdded (λ v name y. slot_of v.names name ≡ Some y) slot_at
slots_added = record {
  came = λ v next x adds entries unseen name y h. slot_came v next x adds entries unseen name y h;
  stays = λ v next x adds entries unseen name y h. slot_stays v next x adds entries unseen name y h;
  there = λ v next x adds entries unseen. slot_there v next x adds entries unseen;
}

pub numbers_back : (xs : List Placed) (v w : Framed) → AddsEach v xs w → HasEntries v → AreNew v.names.scope (parameters_at xs) → (name : List ℕ) (n : ℕ)
    → subprogram_of w.names name ≡ Some n → subprogram_of v.names name ≡ Some n
numbers_back [] v w h entries new name n k = subst (λ z. subprogram_of z.names name ≡ Some n) h k
numbers_back (x ∷ xs) v w h entries new name n k =
    number_came v h.0 x h.1 entries new.0 name n
    (numbers_back xs h.0 w h.2 (next_entries v h.0 x h.1 entries new.0) (new_next v h.0 x xs h.1 new) name n k)

numbers_on : (xs : List Placed) (v w : Framed) → AddsEach v xs w → HasEntries v → AreNew v.names.scope (parameters_at xs) → (name : List ℕ) (n : ℕ)
    → subprogram_of v.names name ≡ Some n → subprogram_of w.names name ≡ Some n
numbers_on [] v w h entries new name n k = subst (λ z. subprogram_of z.names name ≡ Some n) (sym h) k
numbers_on (x ∷ xs) v w h entries new name n k =
    numbers_on xs h.0 w h.2 (next_entries v h.0 x h.1 entries new.0) (new_next v h.0 x xs h.1 new) name n (number_stays v h.0 x h.1 entries new.0 name n k)

-- what is told behind protected objects goes by what their names stand for
object_stands : (s : Scope) (name : List ℕ) → object_named s name ≡ protected_of (stands s name)
object_stands s name = by_number (number_of s name)
  where
    by_number : (o : Option ℕ) → elim o [ None ↦ None | Some n ↦ protected_at s n ] ≡ protected_of (entity_at_or_none s o)
    by_number (Some n) = refl
    by_number None = refl

pub externals_same : (v w : Visible) → w.operations ≡ v.operations → ((name : List ℕ) → stands w.scope name ≡ stands v.scope name)
    → (name operation : List ℕ) → external_of w name operation ≡ external_of v name operation
externals_same v w operations names name operation =
    ap (λ all. number_behind all (object_named w.scope name) operation) operations
    ∙ ap (λ o. number_behind v.operations o operation)
    (object_stands w.scope name ∙ ap protected_of (names name) ∙ sym (object_stands v.scope name))

pub operations_stay : (xs : List Placed) (v w : Framed) → AddsEach v xs w → w.names.operations ≡ v.names.operations
operations_stay [] v w h = ap (λ z. z.names.operations) h
operations_stay (x ∷ xs) v w h = operations_stay xs h.0 w h.2 ∙ h.1.operations

-- a subprogram that is named behind them is named so in front of them
pub profile_back : (xs : List Placed) (v w : Framed) → AddsEach v xs w → HasEntries v → AreNew v.names.scope (parameters_at xs) → (name : List ℕ) (p : Profile)
    → NamesProfile w.names.scope name p → NamesProfile v.names.scope name p
profile_back xs v w h entries new name p n =
    elim (all_came (λ u other e. stands u.names.scope other ≡ Some e) formal_entity names_added xs v w h entries new name (entity.Subprogram p)
    (stands_number w.names.scope name n.number (entity.Subprogram p) n.numbered n.stands)) [
      | inl k ↦ (let m = number_stands v.names.scope name (entity.Subprogram p) k in record { number = m.0; numbered = m.1; stands = m.2 })
      | inr k ↦ absurd (let bad = k.is in cc)
    ]

-- what is told behind the name of a protected object behind them was told in front of them: they are no protected objects
pub externals_back : (xs : List Placed) (v w : Framed) → AddsEach v xs w → HasEntries v → AreNew v.names.scope (parameters_at xs) → (name operation : List ℕ)
    (n : ℕ) → external_of w.names name operation ≡ Some n → external_of v.names name operation ≡ Some n
externals_back xs v w h entries new name operation n = by_object (object_named w.names.scope name) refl
  where
    by_object : (o : Option ProtectedObject) → object_named w.names.scope name ≡ o → number_behind w.names.operations o operation ≡ Some n
        → external_of v.names name operation ≡ Some n
    by_object None e told = cc
    by_object (Some q) e told =
        elim (all_came (λ u other y. stands u.names.scope other ≡ Some y) formal_entity names_added xs v w h entries new name (entity.Protected q)
        (object_entity w.names.scope name q e)) [
          | inl there ↦ ap (λ z. number_behind v.names.operations z operation) (object_stands v.names.scope name ∙ ap protected_of there)
              ∙ ap (λ all. number_behind all (Some q) operation) (sym (operations_stay xs v w h))
              ∙ told
          | inr k ↦ absurd (let bad = k.is in cc)
        ]

-- ... and so is the number by which an entry is called
pub entries_back : (xs : List Placed) (v w : Framed) → AddsEach v xs w → HasEntries v → AreNew v.names.scope (parameters_at xs) → (name operation : List ℕ)
    (n : ℕ) → entry_behind w.names.scope name operation ≡ Some n → entry_behind v.names.scope name operation ≡ Some n
entries_back xs v w h entries new name operation n = by_object (object_named w.names.scope name) refl
  where
    by_object : (o : Option ProtectedObject) → object_named w.names.scope name ≡ o → entry_among o operation ≡ Some n
        → entry_behind v.names.scope name operation ≡ Some n
    by_object None e told = cc
    by_object (Some q) e told =
        elim (all_came (λ u other y. stands u.names.scope other ≡ Some y) formal_entity names_added xs v w h entries new name (entity.Protected q)
        (object_entity w.names.scope name q e)) [
          | inl there ↦ ap (λ z. entry_among z operation) (object_stands v.names.scope name ∙ ap protected_of there) ∙ told
          | inr k ↦ absurd (let bad = k.is in cc)
        ]

-- the scope behind them, and what stays of the frame
pub scope_behind : (xs : List Placed) (v w : Framed) → AddsEach v xs w → w.names.scope ≡ with_all v.names.scope (all_named (parameters_at xs))
scope_behind [] v w h = ap (λ z. z.names.scope) h
scope_behind (x ∷ xs) v w h = scope_behind xs h.0 w h.2 ∙ ap (λ z. with_all z (all_named (parameters_at xs))) h.1.scope

pub room_stays : (xs : List Placed) (v w : Framed) → AddsEach v xs w → w.room ≡ v.room
room_stays [] v w h = ap (λ z. z.room) h
room_stays (x ∷ xs) v w h = room_stays xs h.0 w h.2 ∙ h.1.room

pub within_stays : (xs : List Placed) (v w : Framed) → AddsEach v xs w → w.within ≡ v.within
within_stays [] v w h = ap (λ z. z.within) h
within_stays (x ∷ xs) v w h = within_stays xs h.0 w h.2 ∙ h.1.within

pub reserved_stays : (xs : List Placed) (v w : Framed) → AddsEach v xs w → w.reserved ≡ v.reserved
reserved_stays [] v w h = ap (λ z. z.reserved) h
reserved_stays (x ∷ xs) v w h = reserved_stays xs h.0 w h.2 ∙ h.1.reserved

-- and what is visible behind them names what the program has, where it does in front of them
pub each_serves : (program : Program) (owner : Option ℕ) (xs : List Placed) (v w : Framed) → AddsEach v xs w → FindsNames program owner v
    → FindsNames program owner w
each_serves program owner [] v w h serves = subst (FindsNames program owner) (sym h) serves
each_serves program owner (x ∷ xs) v w h serves =
    each_serves program owner xs h.0 w h.2 (serves_more program owner v h.0 x.0.name (formal_role x.0.mode) x.0.subtype serves h.1.scope)

same_options : {X : Type 0} (a b : Option X) → ((x : X) → a ≡ Some x → b ≡ Some x) → ((x : X) → b ≡ Some x → a ≡ Some x) → a ≡ b
same_options (Some x) b on back = sym (on x refl)
same_options None (Some y) on back = back y refl
same_options None None on back = refl

-- ---- the same parameters in another order

module _ (scopes : ScopesAreSound) (g : Package) (v w u : Framed) (xs ys : List Placed) (first : AddsEach v xs w) (second : AddsEach v ys u)
    (entries : HasEntries v) (sound : SoundScope v.names.scope) (new : AreNew v.names.scope (parameters_at xs))
    (fresh : AreNew v.names.scope (parameters_at ys)) (on : (p : Placed) → Has xs p → Has ys p) (back : (p : Placed) → Has ys p → Has xs p) where
  abbrev here : Scope
  here = v.names.scope

  types_on : (zs : List Placed) → SameTypes here (with_all here (all_named (parameters_at zs)))
  types_on zs = types_with_all here (all_named (parameters_at zs)) (all_types (parameters_at zs))

  types_between : SameTypes w.names.scope u.names.scope
  types_between =
      subst (λ z. SameTypes z u.names.scope) (sym (scope_behind xs v w first))
      (subst (SameTypes (with_all here (all_named (parameters_at xs)))) (sym (scope_behind ys v u second))
      (types_then (with_all here (all_named (parameters_at xs))) here (with_all here (all_named (parameters_at ys)))
      (types_turned here (with_all here (all_named (parameters_at xs))) (types_on xs)) (types_on ys)))

  pub names_reordered : (name : List ℕ) → stands u.names.scope name ≡ stands w.names.scope name
  names_reordered name =
      same_options (stands u.names.scope name) (stands w.names.scope name)
      (λ e h. same_there _ formal_entity names_added ys xs v u w second first entries fresh new back name e h)
      (λ e h. same_there _ formal_entity names_added xs ys v w u first second entries new fresh on name e h)

  pub slots_reordered : (name : List ℕ) → slot_of u.names name ≡ slot_of w.names name
  slots_reordered name =
      same_options (slot_of u.names name) (slot_of w.names name)
      (λ y h. same_there _ slot_at slots_added ys xs v u w second first entries fresh new back name y h)
      (λ y h. same_there _ slot_at slots_added xs ys v w u first second entries new fresh on name y h)

  subprograms_reordered : (name : List ℕ) → subprogram_of u.names name ≡ subprogram_of w.names name
  subprograms_reordered name =
      same_options (subprogram_of u.names name) (subprogram_of w.names name)
      (λ n h. numbers_on xs v w first entries new name n (numbers_back ys v u second entries fresh name n h))
      (λ n h. numbers_on ys v u second entries fresh name n (numbers_back xs v w first entries new name n h))

  externals_reordered : (name operation : List ℕ) → external_of u.names name operation ≡ external_of w.names name operation
  externals_reordered =
      externals_same w.names u.names (operations_stay ys v u second ∙ sym (operations_stay xs v w first)) names_reordered

  pub sound_reordered : SoundScope u.names.scope
  sound_reordered = subst SoundScope (sym (scope_behind ys v u second)) (sound_all scopes v.names.scope (parameters_at ys) sound fresh)

  pub reserved_reordered : w.reserved ≡ u.reserved
  reserved_reordered = reserved_stays xs v w first ∙ sym (reserved_stays ys v u second)

  pub narrows_reordered : NarrowsFrame g w u
  narrows_reordered =
      narrows_same g w u sound_reordered types_between names_reordered slots_reordered subprograms_reordered externals_reordered
      (room_stays ys v u second ∙ sym (room_stays xs v w first)) (within_stays xs v w first ∙ sym (within_stays ys v u second)) reserved_reordered
