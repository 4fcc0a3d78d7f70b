-- Places that are given one behind the other: a declaration keeps what is asked of the places of a body.
use Rattle.std.proofs.Common.{◌≡◌, ◌≢◌, ℕ, zero, suc, ◌+◌, ◌<◌, ◌≤◌, ◌⊎◌, inl, inr, List, [], ◌∷◌, ◌++◌, length, cond, Option, Some, None, true, false, refl, sym, ap, ◌∙◌, subst, arith}
use Rattle.std.specs.Prelude.{bytes_eq, is_some, slice_get}
use Rattle.image.specs.declared.instruction.Region.TheVariants as regions
use Rattle.types.specs.declared.entity.Role.{Role}
use Rattle.types.specs.declared.entity.Subtype.{Subtype}
use Rattle.types.specs.Entities as entity
use Rattle.types.specs.Entities.{Entity}
use Rattle.types.specs.Laws.{ShapesStay}
use Rattle.types.specs.Layouts.{words_of}
use Rattle.types.specs.Scopes.{Named, Scope, entity_at, entity_of, form_of, is_visible, number_of, with_name}
use Rattle.types.specs.Shapes.{words}
use Rattle.expr_soundness.specs.SoundScopes.{IsKnown, IsSoundObject, SoundScope}
use Rattle.expr_soundness.proofs.Goods.{object_known}
use Rattle.expr_soundness.proofs.Positions.{entity_kept, entity_number, item_added, number_added, number_kept, same_some}
use Rattle.expr_code.specs.Seeing.{Package, slot_of, told_of}
use Rattle.expr_code.specs.declared.visible.Slot.{Slot}
use Rattle.part_code.specs.Layout.{AreApart, EndsBelow, IsLaid, IsLaidOut, NamesObject, Widens, AreFree, IsFree, IsVariable, Spares}
use Rattle.part_code.specs.Resting.{Framed}
use Rattle.part_code.proofs.Names.{WasTold, is_told, same_name, told_of_more}

-- ---- places behind all others are apart from them

-- what a method does that gives an object the words behind all others of the frame
pub record AddsObject (v : Framed) (name : List ℕ) (r : Role) (t : Subtype) (top : ℕ) (slot : Slot) (later : Framed) : Type 0 where
  pub hidden : is_visible v.names.scope name ≡ false
  pub sound : IsSoundObject v.names.scope r t
  pub scope : later.names.scope ≡ with_name v.names.scope name (entity.Object r t)
  pub slots : later.names.slots ≡ v.names.slots ++ Some slot ∷ []
  pub subprograms : later.names.subprograms ≡ v.names.subprograms ++ None ∷ []
  pub operations : later.names.operations ≡ v.names.operations
  pub room : later.room ≡ v.room
  pub within : later.within ≡ v.within
  pub region : slot.region ≡ regions.Locals
  pub offset : slot.offset ≡ top
  pub fits : top + words_of v.names.scope t ≤ v.room

pub widens_behind : (v later : Framed) (name : List ℕ) (r : Role) (t : Subtype) (top : ℕ) (slot : Slot) → EndsBelow v top → AddsObject v name r t top slot later
    → Widens v name r t slot later
widens_behind v later name r t top slot ends adds = record {
  hidden = adds.hidden;
  sound = adds.sound;
  scope = adds.scope;
  slots = adds.slots;
  subprograms = adds.subprograms;
  operations = adds.operations;
  room = adds.room;
  within = adds.within;
  apart = λ other x q u told same named.
      inr (let e = ends other x q u told (same ∙ adds.region) named in let o = adds.offset in omega (arith, e, o));
  fits = (let f = adds.fits in let o = adds.offset in omega (arith, f, o));
}

-- ---- with one object more

swapped : (a n b m : ℕ) → AreApart a n b m → AreApart b m a n
swapped a n b m (inl h) = inr h
swapped a n b m (inr h) = inl h

inside : {X : Type 0} (xs : List X) (n : ℕ) (x : X) → slice_get xs n ≡ Some x → n < length xs
inside [] n x h = cc
inside (y ∷ xs) zero x h = omega arith
inside (y ∷ xs) (suc n) x h = let k = inside xs n x h in omega (arith, k)

longer : {X : Type 0} (xs : List X) (x : X) → length (xs ++ x ∷ []) ≡ suc (length xs)
longer [] x = refl
longer (y ∷ xs) x = ap suc (longer xs x)

pub known_inside : (s : Scope) (t : Subtype) → IsKnown s t → t.type_number < length s
known_inside s t known = by_item (slice_get s t.type_number) refl known
  where
    by_item : (o : Option Named) → slice_get s t.type_number ≡ o → is_some (form_of (entity_of o)) ≡ true → t.type_number < length s
    by_item (Some m) e h = inside s t.type_number m e
    by_item None e h = cc

object_role : (a b : Entity) (q r : Role) (t u : Subtype) → a ≡ entity.Object q t → a ≡ entity.Object r u → t ≡ u
object_role a b q r t u h k = let f : Entity → Subtype = λ e. elim e [ entity.Object x y ↦ y | other ↦ t ] in ap f (sym h ∙ k)

module _ (stay : ShapesStay) (g : Package) (v later : Framed) (name : List ℕ) (r : Role) (t : Subtype) (slot : Slot) (sound : SoundScope v.names.scope)
    (laid : IsLaidOut g v) (widens : Widens v name r t slot later) (region : slot.region ≡ regions.Locals) where
  abbrev s : Scope
  s = v.names.scope

  abbrev named : Named
  named = record { name = name; entity = entity.Object r t }

  abbrev wider : Scope
  wider = s ++ named ∷ []

  abbrev entries : List (Option Slot)
  entries = v.names.slots ++ Some slot ∷ []

  scope_is : later.names.scope ≡ wider
  scope_is = widens.scope ∙ ap (λ b. cond b s wider) widens.hidden

  -- the new name was not visible
  never : (other : List ℕ) (n : ℕ) → bytes_eq other name ≡ true → number_of s other ≡ Some n → ⊥
  never other n e h =
      let seen : is_visible s name ≡ true = ap (is_visible s) (sym (same_name other name e)) ∙ ap is_some h in
      let both = sym seen ∙ widens.hidden in cc

  -- objects have as many words as before
  words_kept : (u : Subtype) → IsKnown s u → words_of wider u ≡ words_of s u
  words_kept u known = ap words (stay s (named ∷ []) u (known_inside s u known))

  object_words : (other : List ℕ) (q : Role) (u : Subtype) → NamesObject s other q u → words_of wider u ≡ words_of s u
  object_words other q u n = words_kept u (object_known s q u (sound.each n.number (entity.Object q u) n.stands))

  new_words : words_of wider t ≡ words_of s t
  new_words = words_kept t (object_known s r t widens.sound)

  -- what a name stands for that was visible
  named_before : (other : List ℕ) (k : ℕ) (q : Role) (u : Subtype) → number_of s other ≡ Some k → NamesObject wider other q u → NamesObject s other q u
  named_before other k q u e n =
      let x = entity_number s other k e in
      let same : n.number ≡ k = same_some n.number k (sym n.numbered ∙ number_kept s (named ∷ []) other k e) in
      let is : Some x.0 ≡ Some (entity.Object q u) =
      sym (entity_kept s (named ∷ []) k x.0 x.1) ∙ ap (entity_at wider) (sym same) ∙ n.stands in
      record { number = k; numbered = e; stands = x.1 ∙ is }

  named_after : (other : List ℕ) (q : Role) (u : Subtype) → NamesObject s other q u → NamesObject wider other q u
  named_after other q u n = record {
    number = n.number;
    numbered = number_kept s (named ∷ []) other n.number n.numbered;
    stands = entity_kept s (named ∷ []) n.number (entity.Object q u) n.stands;
  }

  -- the new object
  new_subtype : (other : List ℕ) (q : Role) (u : Subtype) → bytes_eq other name ≡ true → NamesObject wider other q u → t ≡ u
  new_subtype other q u e n = elim (number_added s named other n.number n.numbered) [
    | inl k ↦ absurd (never other n.number e k)
    | inr k ↦ (let is = sym (ap entity_of (item_added s named)) ∙ ap (entity_at wider) (sym k.0) ∙ n.stands in
        let same = same_some (entity.Object r t) (entity.Object q u) is in object_role (entity.Object r t) (entity.Object q u) r q t u refl same)
  ]

  new_role : (other : List ℕ) (q : Role) (u : Subtype) → bytes_eq other name ≡ true → NamesObject wider other q u → r ≡ q
  new_role other q u e n = elim (number_added s named other n.number n.numbered) [
    | inl k ↦ absurd (never other n.number e k)
    | inr k ↦ (let is = sym (ap entity_of (item_added s named)) ∙ ap (entity_at wider) (sym k.0) ∙ n.stands in
        let f : Entity → Role = λ y. elim y [ entity.Object w z ↦ w | other ↦ r ] in
        ap f (same_some (entity.Object r t) (entity.Object q u) is))
  ]

  new_object : (other : List ℕ) (n : ℕ) → bytes_eq other name ≡ true → number_of wider other ≡ Some n → NamesObject wider other r t
  new_object other n e h = elim (number_added s named other n h) [
    | inl k ↦ absurd (never other n e k)
    | inr k ↦ record { number = n; numbered = h; stands = ap (entity_at wider) k.0 ∙ ap entity_of (item_added s named) }
  ]

  was : (other : List ℕ) (x : Slot) → told_of wider entries other ≡ Some x
      → WasTold s v.names.slots other x ⊎ ((bytes_eq other name ≡ true) × (Some slot ≡ Some x))
  was other x h = told_of_more s named v.names.slots (Some slot) other x laid.slots h

  objects_wider : (other : List ℕ) (x : Slot) → told_of wider entries other ≡ Some x → (q : Role) × (u : Subtype) × NamesObject wider other q u
  objects_wider other x h = elim (was other x h) [
    | inl w ↦ (let k = laid.laid.objects other x w.told in (k.0, k.1, named_after other k.0 k.1 k.2))
    | inr e ↦ (let n = is_told wider entries other x h in (r, t, new_object other n.number e.0 n.numbered))
  ]

  module _ (one other : List ℕ) (x y : Slot) (p q : Role) (a b : Subtype) (differ : one ≢ other) (same : x.region ≡ y.region)
      (first : NamesObject wider one p a) (second : NamesObject wider other q b) where
    abbrev Apart : Type 0
    Apart = AreApart x.offset (words_of wider a) y.offset (words_of wider b)

    by_words : (m n : ℕ) → words_of wider a ≡ m → words_of wider b ≡ n → AreApart x.offset m y.offset n → Apart
    by_words m n e k h = subst (λ c. AreApart x.offset c y.offset (words_of wider b)) (sym e) (subst (λ c. AreApart x.offset m y.offset c) (sym k) h)

    both_old : WasTold s v.names.slots one x → WasTold s v.names.slots other y → Apart
    both_old k l =
        let m = named_before one k.number p a k.numbered first in
        let n = named_before other l.number q b l.numbered second in
        by_words (words_of s a) (words_of s b) (object_words one p a m) (object_words other q b n)
        (laid.laid.apart one other x y p q a b differ k.told l.told same m n)

    first_new : bytes_eq one name ≡ true → Some slot ≡ Some x → WasTold s v.names.slots other y → Apart
    first_new e is l =
        let n = named_before other l.number q b l.numbered second in
        let here : slot ≡ x = same_some slot x is in
        by_words (words_of s t) (words_of s b) (ap (words_of wider) (sym (new_subtype one p a e first)) ∙ new_words) (object_words other q b n)
        (subst (λ z. AreApart z.offset (words_of s t) y.offset (words_of s b)) here
        (widens.apart other y q b l.told (sym same ∙ ap (λ z. z.region) (sym here)) n))

    second_new : WasTold s v.names.slots one x → bytes_eq other name ≡ true → Some slot ≡ Some y → Apart
    second_new k e is =
        let m = named_before one k.number p a k.numbered first in
        let here : slot ≡ y = same_some slot y is in
        by_words (words_of s a) (words_of s t) (object_words one p a m) (ap (words_of wider) (sym (new_subtype other q b e second)) ∙ new_words)
        (swapped y.offset (words_of s t) x.offset (words_of s a)
        (subst (λ z. AreApart z.offset (words_of s t) x.offset (words_of s a)) here
        (widens.apart one x p a k.told (same ∙ ap (λ z. z.region) (sym here)) m)))

    apart_wider : told_of wider entries one ≡ Some x → told_of wider entries other ≡ Some y → Apart
    apart_wider h k = elim (was one x h) [
      | inl d ↦ elim (was other y k) [ inl c ↦ both_old d c | inr c ↦ second_new d c.0 c.1 ]
      | inr d ↦ elim (was other y k) [
        | inl c ↦ first_new d.0 d.1 c
        | inr c ↦ absurd (differ (same_name one name d.0 ∙ sym (same_name other name c.0)))
      ]
    ]

  is_laid : IsLaid later.names.scope (slot_of later.names)
  is_laid =
      subst (λ z. IsLaid z (λ n. told_of z later.names.slots n)) (sym scope_is)
      (subst (λ l. IsLaid wider (λ n. told_of wider l n)) (sym widens.slots)
      (record {
        objects = objects_wider;
        apart = λ one other x y p q a b differ h k same first second. apart_wider one other x y p q a b differ same first second h k;
      }))

  was_told : (other : List ℕ) (x : Slot) → slot_of later.names other ≡ Some x → told_of wider entries other ≡ Some x
  was_told other x h = sym (ap (λ z. told_of z later.names.slots other) scope_is ∙ ap (λ l. told_of wider l other) widens.slots) ∙ h

  -- no word of a variable is one of these places: none of one that was visible, and none of the new object, if that is a variable
  pub free_more : (places : List ℕ) → later.reserved ≡ places
      → ((other : List ℕ) (x : Slot) (q : Role) (u : Subtype) → slot_of v.names other ≡ Some x → x.region ≡ regions.Locals → NamesObject s other q u
      → IsVariable q → IsFree places x.offset (words_of s u))
      → (IsVariable r → IsFree places slot.offset (words_of s t))
      → AreFree later
  free_more places same old new other x q u told local n variable =
      let n' = subst (λ z. NamesObject z other q u) scope_is n in
      subst (λ z. IsFree z x.offset (words_of later.names.scope u)) (sym same)
      (subst (λ z. IsFree places x.offset (words_of z u)) (sym scope_is)
      (elim (was other x (was_told other x told)) [
        | inl w ↦ (let m = named_before other w.number q u w.numbered n' in
            subst (λ k. IsFree places x.offset k) (sym (object_words other q u m)) (old other x q u w.told local m variable))
        | inr e ↦ (let o : slot ≡ x = same_some slot x e.1 in
            subst (λ z. IsFree places z.offset (words_of wider u)) o
            (subst (λ k. IsFree places slot.offset k) (sym (sym (ap (words_of wider) (new_subtype other q u e.0 n')) ∙ new_words))
            (new (subst IsVariable (sym (new_role other q u e.0 n')) variable))))
      ]))

  -- ... as after a declaration
  pub free_wider : Spares v t slot later → AreFree later
  free_wider spares = free_more v.reserved spares.reserved laid.free (λ variable. spares.free)

  -- the places are laid out as before, with one more
  pub laid_wider : AreFree later → IsLaidOut g later
  laid_wider free = record {
    unit = laid.unit;
    laid = is_laid;
    free = free;
    shared = λ other x h plain. elim (was other x (was_told other x h)) [
      | inl w ↦ laid.shared other x w.told plain
      | inr e ↦ (let k = sym region ∙ ap (λ z. z.region) (same_some slot x e.1) ∙ plain in cc)
    ];
    own = λ other x o h object within. elim (was other x (was_told other x h)) [
      | inl w ↦ laid.own other x o w.told object (sym widens.within ∙ within)
      | inr e ↦ (let k = sym region ∙ ap (λ z. z.region) (same_some slot x e.1) ∙ object in cc)
    ];
    slots = ap length widens.slots ∙ longer v.names.slots (Some slot) ∙ ap suc laid.slots ∙ sym (longer s named) ∙ sym (ap length scope_is);
    subprograms =
        ap length widens.subprograms ∙ longer v.names.subprograms None ∙ ap suc laid.subprograms ∙ sym (longer s named) ∙ sym (ap length scope_is);
  }

  -- and they end behind the new one, where that stands behind all others
  pub ends_wider : (top : ℕ) → EndsBelow v top → slot.offset ≡ top → EndsBelow later (top + words_of s t)
  ends_wider top ends at other x q u h local n =
      let n' = subst (λ z. NamesObject z other q u) scope_is n in
      subst (λ z. x.offset + words_of z u ≤ top + words_of s t) (sym scope_is)
      (elim (was other x (was_told other x h)) [
        | inl w ↦ (let m = named_before other w.number q u w.numbered n' in
            let e = ends other x q u w.told local m in
            let k = object_words other q u m in
            omega (arith, e, k))
        | inr e ↦ (let k = new_words in
            let o : slot.offset ≡ x.offset = ap (λ z. z.offset) (same_some slot x e.1) in
            let l = ap (words_of wider) (new_subtype other q u e.0 n') in
            omega (arith, k, o, l, at))
      ])
