-- What a frame knows when a body of a protected object is entered: the components of the object and its functions, and behind them the names of the package.
use Rattle.std.proofs.Common.{◌≡◌, ℕ, ◌≤◌, ◌⊎◌, inl, inr, ℤ, List, [], length, Option, Some, None, true, refl, sym, ap, ◌∙◌, subst, arith, rules}
use Rattle.std.specs.Prelude.{is_some, nat_eq, option_map}
use Rattle.std.proofs.lemmas.Slice.Eq.{bytes_eq-Decides}
use Rattle.image.specs.declared.instruction.Region.TheVariants as regions
use Rattle.types.specs.declared.entity.Subtype.{Subtype}
use Rattle.types.specs.Entities.{ProtectedObject, Profile}
use Rattle.types.specs.Places.{Function, IsFunction, IsObject, Meaning, Object, Place, function_of, is_of, meaning_in_scope, meaning_of, object_of, own_components, own_function, package_function, package_object}
use Rattle.types.specs.Scopes.{number_of}
use Rattle.types.specs.Values.{Value}
use Rattle.expr_soundness.specs.Agreeing.{Agrees}
use Rattle.expr_soundness.specs.Answers.{FunctionsAreSound}
use Rattle.expr_code.specs.Naming.{Lies}
use Rattle.expr_code.specs.Seeing.{HasObjects, IsCoded, IsOffered, Package, SeesPackage, external_of, object_named, outside, slot_of, subprogram_of, subtype_among, NamesProfile}
use Rattle.expr_code.specs.Views.{View}
use Rattle.expr_code.specs.declared.visible.Slot.{Slot}
use Rattle.part_code.specs.Resting.{Framed, IsAtHomeIn, Knows}
use Rattle.part_code.proofs.Names.{object_value}
use Rattle.part_code.proofs.StoringCode.{component_meant, meant_among}
use Rattle.stmt_code.proofs.Entering.{HasNoLoops, BeginsBody, function_is, no_scope_function, object_meant, same_function}

-- ---- what stands in front of the body

-- a component has its place among the words of the object, and any other object one among the package's, where no function has its name
abbrev pub IsPlacedIn : Package → (object : ℕ) → (name : List ℕ) → Slot → Type 0
IsPlacedIn g o name slot =
    ((slot.region ≡ regions.Object) × (g.slots (Some o) name ≡ Some slot) × (is_some (subtype_among (g.first (Some o)) name) ≡ true))
    ⊎ ((slot.region ≡ regions.Plain) × (g.slots None name ≡ Some slot) × (subtype_among (g.first (Some o)) name ≡ None)
    × (function_of g.functions None name ≡ None))

-- names that stand in front of a body of a protected object, with their places and subprograms
pub record IsOfObject (g : Package) (o : ℕ) (v : Framed) : Type 0 where
  pub within : v.within ≡ Some o
  pub no_loops : HasNoLoops v.names.scope
  -- where no activation has objects they mean within the object what they stand for, whatever values the package's objects have
  pub agrees : (p : Place) → p.scope ≡ g.scope → p.functions ≡ g.functions → FunctionsAreSound p → HasObjects g p → p.locals ≡ [] → p.within ≡ Some o
      → Agrees v.names.scope p
  pub slots : (name : List ℕ) (slot : Slot) → slot_of v.names name ≡ Some slot → IsPlacedIn g o name slot
  -- a function of the object goes before one of the package
  pub calls : (name : List ℕ) (number : ℕ) (f : Function) (profile : Profile) (result : Subtype) → subprogram_of v.names name ≡ Some number
      → NamesProfile v.names.scope name profile → profile.result ≡ Some result
      → function_of g.functions (Some o) name ≡ Some f
      → g.subprograms (Some o) name ≡ Some number
  pub outer : (name : List ℕ) (number : ℕ) (f : Function) (profile : Profile) (result : Subtype) → subprogram_of v.names name ≡ Some number
      → NamesProfile v.names.scope name profile → profile.result ≡ Some result
      → function_of g.functions (Some o) name ≡ None → function_of g.functions None name ≡ Some f
      → g.subprograms None name ≡ Some number
  pub externals : (name operation : List ℕ) (number : ℕ) (x : ProtectedObject) (f : Function) → external_of v.names name operation ≡ Some number
      → object_named g.scope name ≡ Some x → function_of g.functions (Some x.number) operation ≡ Some f → IsOffered g x f number

-- ---- objects

found_among : (l : List Object) (name : List ℕ) → is_some (subtype_among l name) ≡ true → (x : Object) × (object_of l name ≡ Some x)
found_among l name h = by_found (object_of l name) h
  where
    by_found : (o : Option Object) → is_some (option_map (λ (x : Object). x.subtype) o) ≡ true → (x : Object) × (o ≡ Some x)
    by_found (Some x) k = (x, refl)
    by_found None k = cc

none_among : (l : List Object) (name : List ℕ) → subtype_among l name ≡ None → object_of l name ≡ None
none_among l name h = by_found (object_of l name) h
  where
    by_found : (o : Option Object) → option_map (λ (x : Object). x.subtype) o ≡ None → o ≡ None
    by_found (Some x) k = cc
    by_found None k = refl

-- a variable of the package that is meant within the object is meant outside
outer_object : (f : Option Function) (outer : Option Object) (last : Meaning) (t : Subtype) (u : Value) → meant_among None None f outer None last ≡ IsObject t u
    → meant_among None None None outer None last ≡ IsObject t u
outer_object (Some f) outer last t u h = cc
outer_object None outer last t u h = h

-- ---- functions

-- a function that is meant is the object's own, or one of the package where the object has none
which_function : (own inner : Option Object) (f : Option Function) (outer : Option Object) (g : Option Function) (last : Meaning) (y : Function)
    → ((last ≡ IsFunction y None) → ⊥)
    → meant_among own inner f outer g last ≡ IsFunction y None → (f ≡ Some y) ⊎ ((f ≡ None) × (g ≡ Some y))
which_function (Some x) inner f outer g last y never h = cc
which_function None (Some x) f outer g last y never h = cc
which_function None None (Some z) outer g last y never h = inl (ap Some (same_function z y h))
which_function None None None (Some x) g last y never h = cc
which_function None None None None (Some z) last y never h = inr (refl, ap Some (same_function z y h))
which_function None None None None None last y never h = absurd (never h)

owner_is : (a b : Option ℕ) → is_of a b ≡ true → a ≡ b
owner_is (Some m) (Some n) h = ap Some (same_number m n h)
  where
    same_number : (m n : ℕ) → nat_eq m n ≡ true → m ≡ n
    same_number m n h = search rules
owner_is None None h = refl
owner_is (Some m) None h = cc
owner_is None (Some n) h = cc

-- ---- the frame

module _ (g : Package) (o : ℕ) (v : Framed) (of_object : IsOfObject g o v) (words : List ℤ) (small : length words ≤ 65536) (room : v.room ≤ length words) where
  module _ (p : Place) (view : View) (sees : SeesPackage g p view) (objects : p.locals ≡ []) (within : p.within ≡ Some o)
      (is : view.words regions.Locals ≡ words) (its : view.words regions.Object ≡ view.memory.objects o) where
    no_local : (name : List ℕ) → object_of p.locals name ≡ None
    no_local name = ap (λ l. object_of l name) objects

    -- the component with this name
    own_found : (name : List ℕ) → is_some (subtype_among (g.first (Some o)) name) ≡ true → (x : Object) × (object_of (p.components o) name ≡ Some x)
    own_found name h = found_among (p.components o) name (ap is_some (sees.objects.same (Some o) name) ∙ h)

    own_none : (name : List ℕ) → subtype_among (g.first (Some o)) name ≡ None → object_of (own_components p p.within) name ≡ None
    own_none name h =
        ap (λ q. object_of (own_components p q) name) within ∙ none_among (p.components o) name (sees.objects.same (Some o) name ∙ h)

    component_lies : (name : List ℕ) (slot : Slot) (t : Subtype) (u : Value) → slot.region ≡ regions.Object → g.slots (Some o) name ≡ Some slot
        → is_some (subtype_among (g.first (Some o)) name) ≡ true
        → meaning_of p name ≡ IsObject t u
        → Lies (view.words slot.region) slot.offset u
    component_lies name slot t u region there known h =
        let x = own_found name known in
        let meant = component_meant p name x.0 (no_local name) (ap (λ q. object_of (own_components p q) name) within ∙ x.1) in
        subst (λ r. Lies (view.words r) slot.offset u) (sym region)
        (subst (λ l. Lies l slot.offset u) (sym its)
        (subst (λ w. Lies (view.memory.objects o) slot.offset w) (object_value (meaning_of p name) x.0.subtype t x.0.value u meant h)
        (sees.components o name slot x.0 there x.1)))

    variable_lies : (name : List ℕ) (slot : Slot) (t : Subtype) (u : Value) → g.slots None name ≡ Some slot
        → subtype_among (g.first (Some o)) name ≡ None
        → function_of g.functions None name ≡ None
        → meaning_of p name ≡ IsObject t u
        → Lies (view.words slot.region) slot.offset u
    variable_lies name slot t u there none no_function h =
        let last = meaning_in_scope p.scope (number_of p.scope name) in
        let free = ap (λ l. function_of l None name) sees.functions ∙ no_function in
        let inside : meaning_of p name ≡ meant_among None None (own_function p name) (package_object p name) None last =
        ap (λ x. meant_among x (object_of (own_components p p.within) name) (own_function p name) (package_object p name) (package_function p name) last)
        (no_local name)
        ∙ ap (λ x. meant_among None x (own_function p name) (package_object p name) (package_function p name) last) (own_none name none)
        ∙ ap (λ x. meant_among None None (own_function p name) (package_object p name) x last) free in
        let beyond : meaning_of (outside p) name ≡ meant_among None None None (package_object p name) None last =
        ap (λ x. meant_among None None x (package_object p name) x last) free in
        sees.names.objects name slot t u there (beyond ∙ outer_object (own_function p name) (package_object p name) last t u (sym inside ∙ h))

    lies : (name : List ℕ) (slot : Slot) (t : Subtype) (u : Value) → slot_of v.names name ≡ Some slot → meaning_of p name ≡ IsObject t u
        → Lies (view.words slot.region) slot.offset u
    lies name slot t u told h = elim (of_object.slots name slot told) [
      | inl x ↦ component_lies name slot t u x.0 x.1 x.2 h
      | inr x ↦ variable_lies name slot t u x.1 x.2 x.3 h
    ]

    coded : (name : List ℕ) (number : ℕ) (f : Function) (profile : Profile) (result : Subtype) → subprogram_of v.names name ≡ Some number
        → NamesProfile v.names.scope name profile → profile.result ≡ Some result → meaning_of p name ≡ IsFunction f None
        → IsCoded g f number
    coded name number f profile result told naming gives h =
        elim (which_function (object_of p.locals name) (object_of (own_components p p.within) name) (own_function p name) (package_object p name)
        (package_function p name) (meaning_in_scope p.scope (number_of p.scope name)) f (no_scope_function p.scope (number_of p.scope name) f) h) [
          | inl e ↦ (let found = ap (λ q. function_of p.functions q name) (sym within) ∙ e in
              of_owner (Some o) found
              (of_object.calls name number f profile result told naming gives (ap (λ l. function_of l (Some o) name) (sym sees.functions) ∙ found)))
          | inr e ↦ (let none = ap (λ q. function_of p.functions q name) (sym within) ∙ e.0 in
              of_owner None e.1
              (of_object.outer name number f profile result told naming gives (ap (λ l. function_of l (Some o) name) (sym sees.functions) ∙ none)
              (ap (λ l. function_of l None name) (sym sees.functions) ∙ e.1)))
        ]
      where
        of_owner : (owner : Option ℕ) → function_of p.functions owner name ≡ Some f → g.subprograms owner name ≡ Some number → IsCoded g f number
        of_owner owner found numbered =
            let known = function_is p.functions owner name f found in
            let own = owner_is f.object owner known.0 in
            let called : f.name ≡ name = (bytes_eq-Decides f.name name).0 known.1 in
            record {
              found = (λ j. function_of ((sym sees.functions) j) (own j) (called j)) ∙ found;
              numbered = (λ j. g.subprograms (own j) (called j)) ∙ numbered;
            }

    knows_object : Knows g v p view
    knows_object = record {
      sees = record {
        unit = sees;
        names = record {
          agrees = of_object.agrees p sees.scope sees.functions sees.sound sees.objects objects within;
          objects = lies;
        };
        loops = λ name number t u z numbered stands h. absurd (of_object.no_loops name t (record { number = number; numbered = numbered; stands = stands }));
        functions = coded;
        externals = λ name operation number x f told h found.
            of_object.externals name operation number x f told (ap (λ s. object_named s name) (sym sees.scope) ∙ object_meant p name x h) found;
      };
      within = within ∙ sym of_object.within;
      room = (let e = ap length is in omega (arith, room, e));
      homes = λ name slot told. elim (of_object.slots name slot told) [
        | inl x ↦ subst (λ q. IsAtHomeIn p name q) (sym x.0) (
          no_local name,
          (let found = own_found name x.2 in ap (λ q. is_some (object_of (own_components p q) name)) within ∙ ap is_some found.1),
        )
        | inr x ↦ subst (λ q. IsAtHomeIn p name q) (sym x.0) (no_local name, own_none name x.2)
      ];
    }

pub rests_object : (g : Package) (o : ℕ) (v : Framed) → IsOfObject g o v → BeginsBody g v (Some o)
rests_object g o v of_object words small room =
    record { small = small; sees = λ p view sees objects within is its. knows_object g o v of_object words small room p view sees objects within is its }
