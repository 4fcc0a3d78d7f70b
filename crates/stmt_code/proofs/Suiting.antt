-- Where names of objects more are visible: what one stands for, what may be called, and what the image and the subprogram have to have for them.
use Rattle.std.proofs.Common.{◌≡◌, ◌≢◌, ℕ, zero, suc, ◌+◌, ◌<◌, ◌⊎◌, inl, inr, List, [], ◌∷◌, ◌++◌, length, map, cond, Bool, Option, Some, None, true, false, refl, sym, ap, ◌∙◌, subst, arith}
use Rattle.std.specs.Prelude.{bytes_eq, is_some, option_map, slice_get, ⊤}
use Rattle.ada_tree.specs.declared.declaration.Mode.TheVariants as mode
use Rattle.ada_tree.specs.Size.{total}
use Rattle.image.specs.Sections.{Sections}
use Rattle.image.specs.Rules.{has_region, is_external}
use Rattle.image.specs.declared.instruction.Region.TheVariants as regions
use Rattle.image.specs.declared.subprograms.Kind.{Kind}
use Rattle.image.specs.declared.subprograms.Subprogram.{Subprogram}
use Rattle.types.specs.declared.entity.FormalParameter.{FormalParameter}
use Rattle.types.specs.declared.entity.Role.{Role}
use Rattle.types.specs.declared.entity.Subtype.{Subtype}
use Rattle.types.specs.Entities as entity
use Rattle.types.specs.Entities.{Entity, Profile, ProtectedObject}
use Rattle.types.specs.Laws.{ShapesStay}
use Rattle.types.specs.Layouts.{words_of}
use Rattle.types.specs.Scopes.{Named, Scope, entity_at, entity_of, is_visible, number_of, with_name}
use Rattle.types.specs.Shapes.{words}
use Rattle.type_rules.specs.SubtypeNames.{entity_at_or_none}
use Rattle.expr_soundness.specs.Agreeing.{parameter_subtype}
use Rattle.expr_soundness.specs.SoundScopes.{AreKnown, IsKnown, IsSoundProfile, IsSoundResult, SoundScope}
use Rattle.expr_soundness.proofs.Goods.{sound_operation, sound_result}
use Rattle.expr_soundness.proofs.Positions.{entity_added, entity_kept, entity_number, first_place, item_added, number_added, number_kept, number_place, same_some, suc_of}
use Rattle.part_code.specs.step_soundness.specs.Fitting.{entity_named}
use Rattle.expr_code.specs.Seeing.{IsCallable, NamesProfile, Suits, external_of, external_profile, number_behind, object_named, profile_behind, slot_of, subprogram_of, told_of}
use Rattle.expr_code.specs.declared.visible.Slot.{Slot}
use Rattle.expr_code.specs.declared.visible.Visible.{Visible}
use Rattle.expr_code.proofs.Externals.{is_behind}
use Rattle.part_code.specs.Emitting.{HasEntries}
use Rattle.part_code.specs.EntryNames.{entry_among, entry_behind}
use Rattle.part_code.specs.Suiting.{IsCallableEntry, IsCallableProcedure, SuitsStatements, passed_width, returned_width}
use Rattle.stmt_code.proofs.Laying.{known_inside}
use Rattle.part_code.proofs.OperationNames.{names_protected, protected_named, told_object, told_without}
use Rattle.part_code.proofs.Names.{IsTold, WasTold, inside, is_told, same_name, told_again, told_of_more}

-- ---- names behind those that are visible

item_behind : {X : Type 0} (xs ys : List X) (n : ℕ) (x : X) → slice_get (xs ++ ys) n ≡ Some x
    → (slice_get xs n ≡ Some x) ⊎ ((k : ℕ) × (slice_get ys k ≡ Some x))
item_behind [] ys n x h = inr (n, h)
item_behind (z ∷ xs) ys zero x h = inl h
item_behind (z ∷ xs) ys (suc n) x h = item_behind xs ys n x h

place_before : {X : Type 0} (p : X → Bool) (xs ys : List X) (n : ℕ) → first_place p (xs ++ ys) ≡ Some n → n < length xs → first_place p xs ≡ Some n
place_before p [] ys n h less = absurd (omega (arith, less))
place_before {X} p (x ∷ xs) ys n h less = by_test (p x) h (λ m. place_before p xs ys m)
  where
    by_test : (b : Bool) → cond b (Some 0) (option_map suc (first_place p (xs ++ ys))) ≡ Some n
        → ((m : ℕ) → first_place p (xs ++ ys) ≡ Some m → m < length xs → first_place p xs ≡ Some m)
        → cond b (Some 0) (option_map suc (first_place p xs)) ≡ Some n
    by_test true k before = k
    by_test false k before =
        let m = suc_of (first_place p (xs ++ ys)) n k in
        let at = m.2 in
        ap (option_map suc) (before m.0 m.1 (omega (arith, less, at))) ∙ ap Some (sym m.2)

number_before : (s more : Scope) (name : List ℕ) (n : ℕ) → number_of (s ++ more) name ≡ Some n → n < length s → number_of s name ≡ Some n
number_before s more name n h less =
    number_place s name ∙ place_before (λ m. bytes_eq name m.name) s more n (sym (number_place (s ++ more) name) ∙ h) less

-- what is told of a name is what was told, or it is told of one behind
told_behind : {X : Type 0} (s more : Scope) (all others : List (Option X)) (name : List ℕ) (x : X) → length all ≡ length s
    → told_of (s ++ more) (all ++ others) name ≡ Some x
    → WasTold s all name x ⊎ ((k : ℕ) × (slice_get others k ≡ Some (Some x)))
told_behind {X} s more all others name x long h = elim (item_behind all others t.number (Some x) t.there) [ inl e ↦ inl (before e) | inr e ↦ inr e ]
  where
    t : IsTold (s ++ more) (all ++ others) name x
    t = is_told (s ++ more) (all ++ others) name x h

    before : slice_get all t.number ≡ Some (Some x) → WasTold s all name x
    before e =
        let less = inside all t.number (Some x) e in
        let numbered = number_before s more name t.number t.numbered (omega (arith, less, long)) in
        record { number = t.number; numbered = numbered; told = told_again s all name x (record { number = t.number; numbered = numbered; there = e }) }

-- ---- protected objects

entity_inside : (s : Scope) (n : ℕ) (e : Entity) → entity_at s n ≡ Some e → n < length s
entity_inside s n e h = by_item (slice_get s n) refl h
  where
    by_item : (o : Option Named) → slice_get s n ≡ o → entity_of o ≡ Some e → n < length s
    by_item (Some y) is k = inside s n y is
    by_item None is k = cc

pub profile_sound : (s : Scope) → SoundScope s → (name operation : List ℕ) (p : Profile) → external_profile s name operation ≡ Some p → IsSoundProfile s p
profile_sound s sound name operation p named =
    let at = is_behind s name operation p named in
    let all = sound.each at.number (entity.Protected at.protected) at.stands in
    subst (IsSoundProfile s) at.profiled
    (sound_result s sound at.entry.is_entry at.entry.profile (sound_operation s sound at.protected.operations at.place at.entry all.0 at.found))

-- what becomes visible as something else than a protected object hides none, and is none
pub object_in_front : (s : Scope) (name : List ℕ) (e : Entity) → ((o : ProtectedObject) → e ≢ entity.Protected o) → (n : ℕ) (o : ProtectedObject)
    → entity_at (with_name s name e) n ≡ Some (entity.Protected o) → entity_at s n ≡ Some (entity.Protected o)
object_in_front s name e other n o h = by_test (is_visible s name) h
  where
    by_test : (b : Bool) → entity_at (cond b s (s ++ record { name = name; entity = e } ∷ [])) n ≡ Some (entity.Protected o)
        → entity_at s n ≡ Some (entity.Protected o)
    by_test true k = k
    by_test false k = elim (entity_added s (record { name = name; entity = e }) n (entity.Protected o) k) [ inl old ↦ old | inr new ↦ absurd (other o new.1) ]

-- Those behind are objects of the frame: what suits the names in front suits all.
module _ (stay : ShapesStay) (v later : Visible) (more : Scope) (slots : List (Option Slot)) (subprograms : List (Option ℕ)) (sound : SoundScope v.scope)
    (entries : HasEntries v) (scope : later.scope ≡ v.scope ++ more) (slots_are : later.slots ≡ v.slots ++ slots)
    (subprograms_are : later.subprograms ≡ v.subprograms ++ subprograms)
    (none : (k : ℕ) (n : ℕ) → slice_get subprograms k ≡ Some (Some n) → ⊥) where
  abbrev front : Scope
  front = v.scope

  pub words_behind : (u : Subtype) → IsKnown front u → words_of later.scope u ≡ words_of front u
  words_behind u known = ap (λ z. words_of z u) scope ∙ ap words (stay front more u (known_inside front u known))

  formals_kept : (fs : List FormalParameter) → AreKnown front fs
      → total (words_of later.scope) (map parameter_subtype fs) ≡ total (words_of front) (map parameter_subtype fs)
  formals_kept [] known = refl
  formals_kept (f ∷ fs) known = λ j. words_behind f.subtype known.0 j + formals_kept fs known.1 j

  passed_kept : (fs : List FormalParameter) → AreKnown front fs → total (passed_width later.scope) fs ≡ total (passed_width front) fs
  passed_kept [] known = refl
  passed_kept (f ∷ fs) known =
      λ j. elim f.mode [ mode.In ↦ words_behind f.subtype known.0 j | mode.Out ↦ 1 | mode.InOut ↦ suc (words_behind f.subtype known.0 j) ]
      + passed_kept fs known.1 j

  returned_kept : (fs : List FormalParameter) → AreKnown front fs → total (returned_width later.scope) fs ≡ total (returned_width front) fs
  returned_kept [] known = refl
  returned_kept (f ∷ fs) known =
      λ j. elim f.mode [ mode.In ↦ 0 | mode.Out ↦ suc (words_behind f.subtype known.0 j) | mode.InOut ↦ suc (words_behind f.subtype known.0 j) ]
      + returned_kept fs known.1 j

  slot_before : (other : List ℕ) (x : Slot) → slot_of later other ≡ Some x → (slot_of v other ≡ Some x) ⊎ ((k : ℕ) × (slice_get slots k ≡ Some (Some x)))
  slot_before other x h =
      elim (told_behind front more v.slots slots other x entries.slots
      (sym (ap (λ z. told_of z later.slots other) scope ∙ ap (λ l. told_of (front ++ more) l other) slots_are) ∙ h)) [
        | inl w ↦ inl w.told
        | inr e ↦ inr e
      ]

  number_told : (other : List ℕ) (n : ℕ) → subprogram_of later other ≡ Some n → WasTold front v.subprograms other n
  number_told other n h =
      elim (told_behind front more v.subprograms subprograms other n entries.subprograms
      (sym (ap (λ z. told_of z later.subprograms other) scope ∙ ap (λ l. told_of (front ++ more) l other) subprograms_are) ∙ h)) [
        | inl w ↦ w
        | inr e ↦ absurd (none e.0 n e.1)
      ]

  profile_before : (other : List ℕ) (p : Profile) (n : ℕ) → number_of front other ≡ Some n → NamesProfile later.scope other p → NamesProfile front other p
  profile_before other p n numbered h =
      let same : h.number ≡ n =
      same_some h.number n (sym (ap (λ z. number_of z other) (sym scope) ∙ h.numbered) ∙ number_kept front more other n numbered) in
      let x = entity_number front other n numbered in
      record {
        number = n;
        numbered = numbered;
        stands = x.1 ∙ sym (entity_kept front more n x.0 x.1) ∙ ap (entity_at (front ++ more)) (sym same) ∙ ap (λ z. entity_at z h.number) (sym scope)
            ∙ h.stands;
      }

  callable_known : (i : Sections) (number : ℕ) (p : Profile) (result : Subtype) → IsSoundProfile front p → p.result ≡ Some result → (test : Kind → Bool)
      → IsCallable i front test number p result
      → IsCallable i later.scope test number p result
  callable_known i number p result profile gives test c =
      record {
        code = c.code;
        is = c.is;
        kind = c.kind;
        parameters = c.parameters ∙ sym (formals_kept p.formals profile.known);
        results = c.results ∙ sym (words_behind result (result_known p.result profile.result gives));
      }
    where
      result_known : (o : Option Subtype) → IsSoundResult front p.formals o → o ≡ Some result → IsKnown front result
      result_known (Some u) h is = subst (IsKnown front) (same_some u result is) h.0
      result_known None h is = cc

  callable_behind : (i : Sections) (number : ℕ) (p : Profile) (result : Subtype) (other : List ℕ) → NamesProfile front other p → p.result ≡ Some result
      → (test : Kind → Bool)
      → IsCallable i front test number p result
      → IsCallable i later.scope test number p result
  callable_behind i number p result other n = callable_known i number p result (sound.each n.number (entity.Subprogram p) n.stands)

  procedure_behind : (i : Sections) (number : ℕ) (p : Profile) → IsSoundProfile front p → (test : Kind → Bool) → IsCallableProcedure i front test number p
      → IsCallableProcedure i later.scope test number p
  procedure_behind i number p profile test c =
      record {
        code = c.code;
        is = c.is;
        kind = c.kind;
        parameters = c.parameters ∙ sym (passed_kept p.formals profile.known);
        results = c.results ∙ sym (returned_kept p.formals profile.known);
      }

  entry_kept : (i : Sections) (number : ℕ) (p : Profile) → IsSoundProfile front p → IsCallableEntry i front number p → IsCallableEntry i later.scope number p
  entry_kept i number p profile c =
      record {
        code = c.code;
        is = c.is;
        parameters = c.parameters ∙ sym (passed_kept p.formals profile.known);
        results = c.results ∙ sym (returned_kept p.formals profile.known);
      }

  -- ... and no protected object is among them
  module _ (i : Sections) (x : Subprogram) (operations : later.operations ≡ v.operations)
      (objects : (n : ℕ) (o : ProtectedObject) → entity_at later.scope n ≡ Some (entity.Protected o) → entity_at front n ≡ Some (entity.Protected o))
      (within : (k : ℕ) (y : Slot) → slice_get slots k ≡ Some (Some y) → (y.region ≡ regions.Locals) × (y.offset < x.locals)) where
    -- what is told of an object behind is told of the same in front
    same_object : {X : Type 0} (told : Option ProtectedObject → Option X) → told None ≡ None → (other : List ℕ) (y : X)
        → told (object_named later.scope other) ≡ Some y → object_named front other ≡ object_named later.scope other
    same_object told nothing other y h =
        let p = told_object told nothing y (object_named later.scope other) h in
        let t = names_protected other p.0 later.scope p.1 in
        let stands = objects t.number p.0 t.stands in
        let numbered = number_before front more other t.number (sym (ap (λ z. number_of z other) scope) ∙ t.numbered)
        (entity_inside front t.number (entity.Protected p.0) stands) in
        protected_named other p.0 front (record { number = t.number; numbered = numbered; stands = stands }) ∙ sym p.1

    external_before : (other operation : List ℕ) (number : ℕ) → external_of later other operation ≡ Some number
        → (external_of v other operation ≡ Some number) × (external_profile front other operation ≡ external_profile later.scope other operation)
    external_before other operation number told =
        let same = same_object (λ o. number_behind later.operations o operation) refl other number told in
        ((λ j. number_behind (sym operations j) (same j) operation) ∙ told, ap (λ o. profile_behind o operation) same)

    entry_before : (other operation : List ℕ) (number : ℕ) → entry_behind later.scope other operation ≡ Some number
        → (entry_behind front other operation ≡ Some number) × (external_profile front other operation ≡ external_profile later.scope other operation)
    entry_before other operation number told =
        let same = same_object (λ o. entry_among o operation) refl other number told in
        (ap (λ o. entry_among o operation) same ∙ told, ap (λ o. profile_behind o operation) same)

    external_behind : (number : ℕ) (p : Profile) (result : Subtype) (other operation : List ℕ) → external_profile front other operation ≡ Some p
        → p.result ≡ Some result
        → IsCallable i front is_external number p result
        → IsCallable i later.scope is_external number p result
    external_behind number p result other operation named gives c =
        let profile = profile_sound front sound other operation p named in
        callable_known i number p result profile gives is_external c

    pub names_behind : Suits v i x → Suits later i x
    names_behind h = record {
      locals = λ other y told local. elim (slot_before other y told) [ inl old ↦ h.locals other y old local | inr e ↦ (within e.0 y e.1).1 ];
      plain = λ other y told plain. elim (slot_before other y told) [
        | inl old ↦ h.plain other y old plain
        | inr e ↦ absurd (let both = sym (within e.0 y e.1).0 ∙ plain in cc)
      ];
      object = λ other y told object. elim (slot_before other y told) [
        | inl old ↦ h.object other y old object
        | inr e ↦ absurd (let both = sym (within e.0 y e.1).0 ∙ object in cc)
      ];
      region = λ other y told. elim (slot_before other y told) [
        | inl old ↦ h.region other y old
        | inr e ↦ ap (has_region x) (within e.0 y e.1).0
      ];
      calls = λ other number p result told named gives.
          let before = number_told other number told in
          let n = profile_before other p before.number before.numbered named in
          callable_behind i number p result other n gives _ (h.calls other number p result before.told n gives);
      externals = λ other operation number p result told named gives.
          let before = external_before other operation number told in
          let named_before = before.1 ∙ named in
          external_behind number p result other operation named_before gives (h.externals other operation number p result before.0 named_before gives);
    }

    pub suits_behind : SuitsStatements v i x → SuitsStatements later i x
    suits_behind h = record {
      names = names_behind h.names;
      writes = h.writes;
      procedures = λ other number p told named without.
          let before = number_told other number told in
          let n = profile_before other p before.number before.numbered named in
          procedure_behind i number p (sound.each n.number (entity.Subprogram p) n.stands) _ (h.procedures other number p before.told n without);
      externals = λ other operation number p told named without.
          let before = external_before other operation number told in
          let named_before = before.1 ∙ named in
          procedure_behind i number p (profile_sound front sound other operation p named_before) is_external
          (h.externals other operation number p before.0 named_before without);
      entries = λ other operation number p told named.
          let before = entry_before other operation number told in
          let named_before = before.1 ∙ named in
          entry_kept i number p (profile_sound front sound other operation p named_before) (h.entries other operation number p before.0 named_before);
    }

-- ---- one name behind them

-- an object has no subprogram
abbrev no_number : List (Option ℕ)
no_number = None ∷ []

module _ (stay : ShapesStay) (v later : Visible) (name : List ℕ) (r : Role) (t : Subtype) (slot : Slot) (sound : SoundScope v.scope) (entries : HasEntries v)
    (hidden : is_visible v.scope name ≡ false) (scope : later.scope ≡ with_name v.scope name (entity.Object r t))
    (slots : later.slots ≡ v.slots ++ Some slot ∷ []) (subprograms : later.subprograms ≡ v.subprograms ++ None ∷ []) where
  abbrev s : Scope
  s = v.scope

  abbrev new : Named
  new = record { name = name; entity = entity.Object r t }

  abbrev wider : Scope
  wider = s ++ new ∷ []

  pub scope_is : later.scope ≡ wider
  scope_is = scope ∙ ap (λ b. cond b s wider) hidden

  -- ---- what a name stands for

  -- what was visible, or the new object
  pub stands_wider : (other : List ℕ) (e : Entity) → entity_named later.scope other ≡ Some e
      → (entity_named s other ≡ Some e) ⊎ ((bytes_eq other name ≡ true) × (e ≡ entity.Object r t))
  stands_wider other e h = by_number (number_of wider other) refl (ap (λ z. entity_named z other) (sym scope_is) ∙ h)
    where
      by_number : (o : Option ℕ) → number_of wider other ≡ o → entity_at_or_none wider o ≡ Some e
          → (entity_named s other ≡ Some e) ⊎ ((bytes_eq other name ≡ true) × (e ≡ entity.Object r t))
      by_number None is k = cc
      by_number (Some n) is k = elim (number_added s new other n is) [
        | inl old ↦ (let x = entity_number s other n old in
            inl (ap (entity_at_or_none s) old ∙ x.1 ∙ sym (entity_kept s (new ∷ []) n x.0 x.1) ∙ k))
        | inr at ↦ inr (at.1, same_some e (entity.Object r t) (sym k ∙ ap (entity_at wider) at.0 ∙ ap entity_of (item_added s new)))
      ]

  -- ---- subprograms

  pub number_wider : (other : List ℕ) (n : ℕ) → subprogram_of later other ≡ Some n → (subprogram_of v other ≡ Some n) × (bytes_eq other name ≡ false)
  number_wider other n h =
      elim (told_of_more s new v.subprograms None other n entries.subprograms
      (sym (ap (λ z. told_of z later.subprograms other) scope_is ∙ ap (λ l. told_of wider l other) subprograms) ∙ h)) [
        | inl w ↦ (w.told, differs w.number w.numbered (bytes_eq other name) refl)
        | inr e ↦ absurd (never n e.1)
      ]
    where
      never : (m : ℕ) → None ≡ Some m → ⊥
      never m e = cc

      differs : (k : ℕ) → number_of s other ≡ Some k → (b : _) → bytes_eq other name ≡ b → bytes_eq other name ≡ false
      differs k is false e = e
      differs k is true e = absurd (
          let seen : is_visible s name ≡ true = ap (is_visible s) (sym (same_name other name e)) ∙ ap is_some is in
          let both = sym seen ∙ hidden in cc)

  -- what is told of operations behind names of protected objects
  pub external_wider : later.operations ≡ v.operations → (other operation : List ℕ) (n : ℕ) → external_of later other operation ≡ Some n
      → external_of v other operation ≡ Some n
  external_wider operations other operation n told =
      (told_without (λ o. number_behind v.operations o operation) refl n other s new (λ o e. absurd cc)
      ((λ j. number_behind (sym operations j) (object_named (sym scope_is j) other) operation) ∙ told)).2

  pub entry_wider : (other operation : List ℕ) (n : ℕ) → entry_behind later.scope other operation ≡ Some n → entry_behind s other operation ≡ Some n
  entry_wider other operation n told =
      (told_without (λ o. entry_among o operation) refl n other s new (λ o e. absurd cc) (ap (λ z. entry_behind z other operation) (sym scope_is) ∙ told)).2

  -- ---- the image and the subprogram

  pub suits_wider : (i : Sections) (x : Subprogram) → later.operations ≡ v.operations → slot.region ≡ regions.Locals → slot.offset < x.locals
      → SuitsStatements v i x → SuitsStatements later i x
  suits_wider i x operations region within h =
      suits_behind stay v later (new ∷ []) (Some slot ∷ []) no_number sound entries scope_is slots subprograms one_none i x operations no_object one_slot h
    where
      no_object : (n : ℕ) (o : ProtectedObject) → entity_at later.scope n ≡ Some (entity.Protected o) → entity_at s n ≡ Some (entity.Protected o)
      no_object n o h = object_in_front s name (entity.Object r t) (λ x e. absurd cc) n o (ap (λ z. entity_at z n) (sym scope) ∙ h)

      one_slot : (k : ℕ) (y : Slot) → slice_get (Some slot ∷ []) k ≡ Some (Some y) → (y.region ≡ regions.Locals) × (y.offset < x.locals)
      one_slot zero y e =
          let same = same_some slot y (same_some (Some slot) (Some y) e) in
          (ap (λ z. z.region) (sym same) ∙ region, subst (λ z. z.offset < x.locals) same within)
      one_slot (suc k) y e = cc

      one_none : (k : ℕ) (n : ℕ) → slice_get no_number k ≡ Some (Some n) → ⊥
      one_none zero n e = let f : Option ℕ → Type 0 = λ o. elim o [ None ↦ ⊤ | Some y ↦ ⊥ ] in subst f (same_some None (Some n) e) tt
      one_none (suc k) n e = cc
