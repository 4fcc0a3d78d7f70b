-- What a frame knows when a body is entered: the names of the package, and then one parameter after another, whose words stand in the frame already.
use Rattle.std.proofs.Common.{◌≡◌, ℕ, ◌≤◌, inl, ℤ, List, [], ◌∷◌, length, Option, Some, None, Bool, true, false, refl, sym, ap, ◌∙◌, subst, arith}
use Rattle.std.specs.Prelude.{bytes_eq, if◌then◌else◌}
use Rattle.std.proofs.lemmas.Slice.Eq.{bytes_eq-Decides}
use Rattle.image.specs.Frames.{object_words}
use Rattle.image.specs.declared.instruction.Region.{Region}
use Rattle.image.specs.declared.instruction.Region.TheVariants as regions
use Rattle.types.specs.declared.entity.Role.{Role}
use Rattle.types.specs.declared.entity.Role.TheVariants as role
use Rattle.types.specs.declared.entity.Subtype.{Subtype}
use Rattle.types.specs.Entities.{Entity, OfSubtype, OfType, Predefined, Protected, ProtectedObject}
use Rattle.types.specs.Laws.{ValuesHaveWords}
use Rattle.types.specs.Places.{Function, IsFunction, IsObject, IsProtected, Meaning, Object, Place, function_meaning, function_of, is_of, meaning_in_scope, meaning_of, meaning_of_entity, meaning_or, object_meaning, object_of, or_else, own_components, own_function, own_object, package_function, package_object}
use Rattle.types.specs.Scopes.{Scope, entity_at, number_of, protected_at, protected_of}
use Rattle.types.specs.Shapes.{has_shape, shape_of}
use Rattle.types.specs.Values.{Value}
use Rattle.declaration_rules.specs.Laws.{StandsFirst}
use Rattle.expr_soundness.specs.Agreeing.{Agrees}
use Rattle.expr_soundness.specs.Laws.{AgreementIsKept}
use Rattle.expr_soundness.specs.SoundScopes.{SoundScope}
use Rattle.expr_soundness.proofs.Agreement.{changed_agrees}
use Rattle.expr_soundness.proofs.Positions.{same_some}
use Rattle.expr_soundness.specs.meaning.specs.Works.{Activation}
use Rattle.expr_code.specs.Naming.{Lies}
use Rattle.expr_code.specs.Seeing.{external_of, IsCoded, IsOffered, object_named, Package, SeesPackage, outside, slot_of, subprogram_of}
use Rattle.expr_code.specs.Views.{View}
use Rattle.expr_code.specs.declared.visible.Slot.{Slot}
use Rattle.part_code.specs.Layout.{IsLaidOut, IsLaidPackage, Widens, NamesObject}
use Rattle.part_code.specs.Resting.{Framed, IsAtHome, IsAtHomeIn, Knows, Rests}
use Rattle.part_code.proofs.Names.{meant_by}
use Rattle.part_code.proofs.Placing.{declared_knows, framed_view, package_alone, with_locals, with_objects}
use Rattle.expr_soundness.specs.Lying.{ObjectsLie}

-- ---- an object more, whose words stand there

pub rests_more : (kept : AgreementIsKept) (sized : ValuesHaveWords) (g : Package) (v later : Framed) (laid : IsLaidOut g v) (a : Activation) (words : List ℤ)
    (x : Object) (r : Role) (slot : Slot)
    → Rests g v a words → Widens v x.name r x.subtype slot later → slot.region ≡ regions.Locals
    → has_shape (shape_of v.names.scope x.subtype) x.value ≡ true → Lies words slot.offset x.value
    → Rests g later (record a { locals = x ∷ a.locals }) words
rests_more kept sized g v later laid a words x r slot rests widens region suited lies = record {
  small = rests.small;
  sees = λ p view sees objects within is its.
      declared_knows kept sized g v laid a words words rests x slot.offset (record { long = refl; there = lies; others = λ b u apart h. h }) p view sees objects within is its r
      slot later widens region refl suited;
}

-- ---- other objects of which each name finds the same

module _ (g : Package) (laid : IsLaidPackage g) (v : Framed) (a : Activation) (l : List Object) (words : List ℤ)
    (alike : (name : List ℕ) → object_of l name ≡ object_of a.locals name) (lying : (s : Scope) → ObjectsLie s l → ObjectsLie s a.locals)
    (rests : Rests g v a words) where
  module _ (p : Place) (view : View) (sees : SeesPackage g p view) (objects : p.locals ≡ l) (within : p.within ≡ a.within) (is : view.words regions.Locals ≡ words)
      (its : view.words regions.Object ≡ object_words a.within view.memory) where
    knew : Knows g v (with_objects a.locals p) (framed_view words view)
    knew = rests.sees (with_objects a.locals p) (framed_view words view) (package_alone g laid p view a.locals words rests.small
        (lying p.scope (subst (ObjectsLie p.scope) objects sees.values.locals)) sees) refl within refl its

    found : (name : List ℕ) → object_of p.locals name ≡ object_of a.locals name
    found name = ap (λ q. object_of q name) objects ∙ alike name

    means : (name : List ℕ) → meaning_of p name ≡ meaning_of (with_objects a.locals p) name
    means name = ap (meant_by p name) (found name)

    agrees : Agrees v.names.scope p
    agrees =
        changed_agrees v.names.scope (with_objects a.locals p) knew.sees.names.agrees p.schedule p.now p.variables p.components p.locals p.actions p.priority p.frames_left
        (λ name. inl (ap (λ o. or_else o (object_of (own_components p p.within) name)) (found name)))
        (λ name. inl refl)

    lies : (slot : Slot) (u : Value) → Lies (with_locals words view.words slot.region) slot.offset u → Lies (view.words slot.region) slot.offset u
    lies slot u h = by_region slot.region h
      where
        by_region : (r : Region) → Lies (with_locals words view.words r) slot.offset u → Lies (view.words r) slot.offset u
        by_region regions.Locals h = subst (λ q. Lies q slot.offset u) (sym is) h
        by_region regions.Plain h = h
        by_region regions.Object h = h

    knows_alike : Knows g v p view
    knows_alike = record {
      sees = record {
        unit = sees;
        names = record {
          agrees = agrees;
          objects = λ name slot t u told h. lies slot u (knew.sees.names.objects name slot t u told (sym (means name) ∙ h));
        };
        loops = λ name number t u z numbered stands h. knew.sees.loops name number t u z numbered stands (sym (means name) ∙ h);
        functions = λ name n f profile result told naming gives h.
            knew.sees.functions name n f profile result told naming gives (sym (means name) ∙ h);
        externals = λ name operation n o f told h found. knew.sees.externals name operation n o f told (sym (means name) ∙ h) found;
      };
      within = knew.within;
      room = (let k = knew.room in let e = ap length is in omega (arith, k, e));
      homes = λ name slot told.
          subst (λ o. IsAtHome slot.region o (object_of (own_components p p.within) name)) (sym (found name)) (knew.homes name slot told);
    }

  pub rests_alike : Rests g v (record a { locals = l }) words
  rests_alike = record { small = rests.small; sees = knows_alike }

-- ---- the names of the package

no_function : (e : Option Entity) (f : Function) → meaning_of_entity e ≡ IsFunction f None → ⊥
no_function (Some (OfType form y)) f h = cc
no_function (Some (OfSubtype y)) f h = cc
no_function (Some (Predefined o p)) f h = cc
no_function (Some (Protected o)) f h = cc
no_function e f h = cc

pub no_scope_function : (s : Scope) (n : Option ℕ) (f : Function) → meaning_in_scope s n ≡ IsFunction f None → ⊥
no_scope_function s (Some n) f h = no_function (entity_at s n) f h
no_scope_function s None f h = cc

pub same_function : (a b : Function) → IsFunction a None ≡ IsFunction b None → a ≡ b
same_function a b h = let f : Meaning → Function = λ m. elim m [ IsFunction x t ↦ x | other ↦ a ] in ap f h

outer_function : (found : Option Function) (o : Option Object) (last : Meaning) (f : Function) → ((last ≡ IsFunction f None) → ⊥)
    → meaning_or (or_else (object_meaning None) (function_meaning found)) (meaning_or (or_else (object_meaning o) (function_meaning found)) last) ≡ IsFunction f None
    → found ≡ Some f
outer_function (Some y) o last f never h = ap Some (same_function y f h)
outer_function None (Some x) last f never h = cc
outer_function None None last f never h = absurd (never h)

pub function_is : (fs : List Function) (owner : Option ℕ) (name : List ℕ) (f : Function) → function_of fs owner name ≡ Some f
    → (is_of f.object owner ≡ true) × (bytes_eq f.name name ≡ true)
function_is [] owner name f h = cc
function_is (y ∷ fs) owner name f h = by_test (is_of y.object owner) (bytes_eq y.name name) refl refl h (function_is fs owner name f)
  where
    by_test : (a b : Bool) → is_of y.object owner ≡ a → bytes_eq y.name name ≡ b
        → (if a then (if b then Some y else function_of fs owner name) else function_of fs owner name) ≡ Some f
        → (function_of fs owner name ≡ Some f → (is_of f.object owner ≡ true) × (bytes_eq f.name name ≡ true))
        → (is_of f.object owner ≡ true) × (bytes_eq f.name name ≡ true)
    by_test true true d e h later = let same = same_some y f h in (ap (λ z. is_of z.object owner) (sym same) ∙ d, ap (λ z. bytes_eq z.name name) (sym same) ∙ e)
    by_test true false d e h later = later h
    by_test false b d e h later = later h

outside_all : (o : Option ℕ) → is_of o None ≡ true → o ≡ None
outside_all (Some n) h = cc
outside_all None h = refl

-- none of these names is that of a loop parameter
abbrev pub HasNoLoops : Scope → Type 0
HasNoLoops s = (name : List ℕ) (t : Subtype) → NamesObject s name role.LoopParameter t → ⊥

-- names of the package that stand in front of a body, with their places and subprograms
pub record IsOfPackage (g : Package) (v : Framed) : Type 0 where
  pub sound : SoundScope v.names.scope
  pub first : StandsFirst v.names.scope g.scope
  pub no_loops : HasNoLoops v.names.scope
  pub plain : (name : List ℕ) (slot : Slot) → slot_of v.names name ≡ Some slot → slot.region ≡ regions.Plain
  pub slots : (name : List ℕ) (slot : Slot) → slot_of v.names name ≡ Some slot → g.slots None name ≡ Some slot
  pub calls : (name : List ℕ) (number : ℕ) → subprogram_of v.names name ≡ Some number → g.subprograms None name ≡ Some number
  pub within : v.within ≡ None
  pub externals : (name operation : List ℕ) (number : ℕ) (o : ProtectedObject) (f : Function) → external_of v.names name operation ≡ Some number
      → object_named g.scope name ≡ Some o → function_of g.functions (Some o.number) operation ≡ Some f → IsOffered g o f number

-- what means a protected object is named so in the package
scope_object : (a b : Option Object) (f h : Option Function) (m : Meaning) (o : ProtectedObject)
    → meaning_or (or_else (object_meaning a) (function_meaning f)) (meaning_or (or_else (object_meaning b) (function_meaning h)) m) ≡ IsProtected o
    → m ≡ IsProtected o
scope_object (Some a) b f h m o is = cc
scope_object None b (Some f) h m o is = cc
scope_object None (Some b) None h m o is = cc
scope_object None None None (Some h) m o is = cc
scope_object None None None None m o is = is

named_object : (s : Scope) (n : Option ℕ) (o : ProtectedObject) → meaning_in_scope s n ≡ IsProtected o
    → elim n [ None ↦ None | Some k ↦ protected_at s k ] ≡ Some o
named_object s (Some n) o is = by_entity (entity_at s n) is
  where
    by_entity : (e : Option Entity) → meaning_of_entity e ≡ IsProtected o → protected_of e ≡ Some o
    by_entity (Some (Protected p)) h = let f : Meaning → Option ProtectedObject = λ m. elim m [ IsProtected x ↦ Some x | m ↦ None ] in ap f h
    by_entity e h = cc
named_object s None o is = cc

pub object_meant : (p : Place) (name : List ℕ) (o : ProtectedObject) → meaning_of p name ≡ IsProtected o → object_named p.scope name ≡ Some o
object_meant p name o is =
    named_object p.scope (number_of p.scope name) o
    (scope_object (own_object p name) (package_object p name) (own_function p name) (package_function p name)
    (meaning_in_scope p.scope (number_of p.scope name)) o is)

-- whatever words the frame of a body begins with, it knows what stands in front of the body, where that belongs to this protected object, if any
abbrev pub BeginsBody : Package → Framed → (owner : Option ℕ) → Type 0
BeginsBody g front owner = (words : List ℤ) → length words ≤ 65536 → front.room ≤ length words → Rests g front (record { within = owner; locals = [] }) words

module _ (kept : AgreementIsKept) (g : Package) (v : Framed) (of_package : IsOfPackage g v) (words : List ℤ) (small : length words ≤ 65536) (room : v.room ≤ length words) where
  module _ (p : Place) (view : View) (sees : SeesPackage g p view) (objects : p.locals ≡ []) (within : p.within ≡ None) (is : view.words regions.Locals ≡ words)
      (its : view.words regions.Object ≡ []) where
    bare : outside p ≡ p
    bare = λ j. record p { locals = (sym objects) j; within = (sym within) j }

    at : (name : List ℕ) (m : Meaning) → meaning_of p name ≡ m → meaning_of (outside p) name ≡ m
    at name m h = ap (λ q. meaning_of q name) bare ∙ h

    coded : (name : List ℕ) (number : ℕ) (f : Function) → subprogram_of v.names name ≡ Some number → meaning_of p name ≡ IsFunction f None → IsCoded g f number
    coded name number f told h =
        let found = outer_function (function_of p.functions None name) (object_of p.variables name) (meaning_in_scope p.scope (number_of p.scope name)) f
        (no_scope_function p.scope (number_of p.scope name) f) (at name (IsFunction f None) h) in
        let its = function_is p.functions None name f found in
        let owner = outside_all f.object its.0 in
        let called : f.name ≡ name = (bytes_eq-Decides f.name name).0 its.1 in
        record {
          found = (λ j. function_of ((sym sees.functions) j) (owner j) (called j)) ∙ found;
          numbered = (λ j. g.subprograms (owner j) (called j)) ∙ of_package.calls name number told;
        }

    knows_package : Knows g v p view
    knows_package = record {
      sees = record {
        unit = sees;
        names = record {
          agrees = subst (Agrees v.names.scope) bare (kept.narrowed v.names.scope g.scope (outside p) of_package.first of_package.sound sees.names.agrees);
          objects = λ name slot t u told h. sees.names.objects name slot t u (of_package.slots name slot told) (at name (IsObject t u) h);
        };
        loops = λ name number t u z numbered stands h. absurd (of_package.no_loops name t (record { number = number; numbered = numbered; stands = stands }));
        functions = λ name number f profile result told naming gives h. coded name number f told h;
        externals = λ name operation number o f told h found.
            of_package.externals name operation number o f told (ap (λ s. object_named s name) (sym sees.scope) ∙ object_meant p name o h) found;
      };
      within = within ∙ sym of_package.within;
      room = (let e = ap length is in omega (arith, room, e));
      homes = λ name slot told.
          subst (λ q. IsAtHomeIn p name q) (sym (of_package.plain name slot told))
          (ap (λ l. object_of l name) objects, ap (λ o. object_of (own_components p o) name) within);
    }

  pub rests_package : Rests g v (record { within = None; locals = [] }) words
  rests_package = record { small = small; sees = knows_package }
