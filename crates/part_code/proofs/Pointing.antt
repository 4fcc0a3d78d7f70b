-- Code that leads to the address of a variable, or of a part of it: what its name names there, where its words stand, and what is copied back to it.
use Rattle.std.proofs.Common.{◌≡◌, ℕ, suc, ◌+◌, ◌-◌, ◌≤◌, ℤ, List, [], ◌∷◌, length, Option, Some, None, true, refl, sym, ap, ◌∙◌, subst, arith}
use Rattle.std.specs.Prelude.{is_some, pos, ◌+ℤ◌}
use Rattle.kernel.specs.Counting.{Spends}
use Rattle.kernel.specs.Laws.{QuietStays}
use Rattle.ada_tree.specs.declared.expression.Identifier.{Identifier}
use Rattle.ada_tree.specs.ExpressionTree.{SelectorTrees}
use Rattle.image.specs.Sections.{Sections}
use Rattle.image.specs.Steps.{behaviour}
use Rattle.image.specs.declared.instruction.Operation.TheVariants as op
use Rattle.image.specs.declared.instruction.Region.{Region}
use Rattle.image.specs.declared.instruction.Region.TheVariants as regions
use Rattle.types.specs.declared.entity.Role.{Role}
use Rattle.types.specs.declared.entity.Subtype.{Subtype}
use Rattle.types.specs.Entities as entity
use Rattle.types.specs.Entities.{TypeForm}
use Rattle.types.specs.Evaluating.{Calls}
use Rattle.types.specs.Evaluations.{Val, Gives, and_then}
use Rattle.types.specs.Laws.{ValuesHaveWords}
use Rattle.types.specs.Places.{Function, IsObject, Meaning, Object, Place, meaning_in_scope, meaning_of, object_of, own_components, own_function, package_function}
use Rattle.types.specs.Scopes.{form_at, number_of}
use Rattle.types.specs.Shapes.{Shape, has_shape, shape_of, words}
use Rattle.types.specs.Values.{Value}
use Rattle.expr_soundness.specs.Agreeing.{Agrees, MeansObject}
use Rattle.expr_soundness.specs.SoundScopes.{SoundScope}
use Rattle.expr_soundness.proofs.Positions.{same_some}
use Rattle.expr_soundness.specs.meaning.specs.Targets.{all_selected, first_of, object_named, part_value, target_or_nothing, value_in, whole}
use Rattle.expr_soundness.specs.meaning.specs.Works.{Home, InActivation, InObject, InPackage, Target}
use Rattle.expr_soundness.specs.meaning.specs.SameMeaning.{frames_of}
use Rattle.expr_code.specs.Coming.{Comes, most_steps}
use Rattle.expr_code.specs.Computing.{Everywhere}
use Rattle.expr_code.specs.Locating.{IsNear, IsPath}
use Rattle.expr_code.specs.Naming.{Lies}
use Rattle.expr_code.specs.Seeing.{Package, Sees, library_of, slot_of}
use Rattle.expr_code.specs.Views.{At, View, in_frame, placed, view_of}
use Rattle.expr_code.specs.declared.visible.Slot.{Slot}
use Rattle.expr_code.specs.declared.visible.Visible.{Visible}
use Rattle.expr_code.proofs.Locating.{near_close}
use Rattle.expr_code.proofs.Coming.{after_first, more, pushes}
use Rattle.part_code.specs.Copying.{IsHomeOf, IsPlacedTarget, address_of, objects_at, offset_or_none, shape_named}
use Rattle.part_code.specs.Layout.{IsVariable, NamesObject}
use Rattle.part_code.specs.Parts.{HasParts, part_offset, part_shape}
use Rattle.part_code.specs.Resting.{Framed, IsAtHomeIn, Knows}
use Rattle.part_code.proofs.Names.{found_some, meant_width, object_name, object_value, variable_meant}
use Rattle.part_code.proofs.PartValues.{part_suited}
use Rattle.part_code.proofs.StoringCode.{NamesWhole, component_named, local_named, meant_among, named_among, named_whole, own_home, own_whole, package_named, whole_of, whole_there}
use Rattle.part_code.proofs.StoringParts.{shape_is}
use Rattle.part_code.proofs.Targeting.{IsPartly, SameWhole, address, path_comes, path_part}
use Rattle.part_code.proofs.Words.{lies_within}

-- ---- the object that a target names

pub record IsThere (p : Place) (y : Target) (name : List ℕ) (u : Value) : Type 0 where
  pub object : Object
  pub found : object_of (objects_at y p) name ≡ Some object
  pub value : object.value ≡ u
  pub named : y.name ≡ name

own_there : (p : Place) (name : List ℕ) (w : Option ℕ) (x : Object) → object_of (own_components p w) name ≡ Some x
    → object_of (objects_at (whole_of (own_home w) x) p) name ≡ Some x
own_there p name (Some o) x e = e
own_there p name None x e = cc

is_there : (p : Place) (y : Target) (name : List ℕ) (u : Value) (home : Home) (x : Object) → whole_of home x ≡ y
    → object_of (objects_at (whole_of home x) p) name ≡ Some x → x.value ≡ u → IsThere p y name u
is_there p y name u home x is found value = record {
  object = x;
  found = subst (λ q. object_of (objects_at q p) name ≡ Some x) is found;
  value = value;
  named = ap (λ q. q.name) (sym is) ∙ object_name (objects_at (whole_of home x) p) name x found;
}

there_among : (p : Place) (y : Target) (name : List ℕ) (t : Subtype) (u : Value) (own inner outer : Option Object) → object_of p.locals name ≡ own
    → object_of (own_components p p.within) name ≡ inner → object_of p.variables name ≡ outer
    → (f g : Option Function) (last : Meaning) → meant_among own inner f outer g last ≡ IsObject t u
    → named_among own (own_home p.within) inner outer ≡ Some y
    → IsThere p y name u
there_among p y name t u (Some x) inner outer e1 e2 e3 f g last h is =
    is_there p y name u InActivation x (same_some (whole_of InActivation x) y is) e1 (object_value (IsObject x.subtype x.value) x.subtype t x.value u refl h)
there_among p y name t u None (Some x) outer e1 e2 e3 f g last h is =
    is_there p y name u (own_home p.within) x (same_some (whole_of (own_home p.within) x) y is) (own_there p name p.within x e2)
    (object_value (IsObject x.subtype x.value) x.subtype t x.value u refl h)
there_among p y name t u None None (Some x) e1 e2 e3 None g last h is =
    is_there p y name u InPackage x (same_some (whole_of InPackage x) y is) e3 (object_value (IsObject x.subtype x.value) x.subtype t x.value u refl h)
there_among p y name t u None None (Some x) e1 e2 e3 (Some f) g last h is = cc
there_among p y name t u None None None e1 e2 e3 f g last h is = cc

-- what means an object is the object that is named
pub named_there : (p : Place) (name : List ℕ) (t : Subtype) (u : Value) → meaning_of p name ≡ IsObject t u → (y : Target) → object_named p name ≡ Some y
    → IsThere p y name u
named_there p name t u h y is =
    there_among p y name t u (object_of p.locals name) (object_of (own_components p p.within) name) (object_of p.variables name) refl refl refl
    (own_function p name) (package_function p name) (meaning_in_scope p.scope (number_of p.scope name)) h
    (ap (λ o. first_of (whole InActivation (object_of p.locals name)) (first_of o (whole InPackage (object_of p.variables name))))
    (sym (own_whole p p.within name))
    ∙ is)

-- ... and is at home where its words stand
pub home_there : (p : Place) (name : List ℕ) (r : Region) → IsAtHomeIn p name r → (y : Target) → object_named p name ≡ Some y → IsHomeOf p.within r y.home
home_there p name regions.Locals at y is =
    let own = found_some (object_of p.locals name) at in
    ap (λ q. q.home) (sym (same_some (whole_of InActivation own.0) y (sym (local_named p name own.0 own.1) ∙ is)))
home_there p name regions.Plain at y is =
    let own = whole_there InPackage (object_of p.variables name) y (sym (package_named p name at.0 at.1) ∙ is) in
    ap (λ q. q.home) (sym own.2)
home_there p name regions.Object at y is = by_within p.within refl
  where
    by_within : (o : Option ℕ) → p.within ≡ o → IsHomeOf o regions.Object y.home
    by_within None within = let none = sym (ap (λ q. is_some (object_of (own_components p q) name)) within) ∙ at.1 in absurd cc
    by_within (Some o) within =
        let own = found_some (object_of (own_components p p.within) name) at.1 in
        let found = ap (λ q. object_of (own_components p q) name) (sym within) ∙ own.1 in (
          o,
          refl,
          ap (λ q. q.home) (sym (same_some (whole_of (InObject o) own.0) y (sym (component_named p o name own.0 at.0 within found) ∙ is))),
        )

-- ---- a name and the selectors behind it

abbrev pub pointed : Identifier → SelectorTrees → Calls → Place → Val Target
pointed first selectors c p = and_then (target_or_nothing (object_named p first.name)) (all_selected c p selectors)

-- Code between two places puts the address of what a name and its selectors name on the operand stack: PUSH of the variable's place, and a path to its part.
pub record PointsTo (i : Sections) (g : Package) (names : Visible) (first : Identifier) (selectors : SelectorTrees) (last : Subtype)
    (from to : ℕ) : Type 0 where
  pub slot : Slot
  pub there : slot_of names first.name ≡ Some slot
  pub role : Role
  pub whole : Subtype
  pub named : NamesObject names.scope first.name role whole
  pub variable : IsVariable role
  pub up : suc from ≤ to
  pub shift : ℤ
  pub near : IsNear shift
  pub push : At i from (op.Push (pos slot.offset +ℤ shift))
  pub end : Shape
  pub ends : end ≡ shape_of names.scope last
  pub path : IsPath i (library_of g) (Sees g names) (suc from) to shift whole (shape_of names.scope whole) selectors last end

module _ {i : Sections} {g : Package} {names : Visible} {first : Identifier} {selectors : SelectorTrees} {last : Subtype} {from to : ℕ}
    (sized : ValuesHaveWords) (way : PointsTo i g names first selectors last from to) where
  abbrev pub whole_shape : Shape
  whole_shape = shape_of names.scope way.whole

  -- where the words of the part begin
  abbrev pub place_in : Target → ℕ
  place_in y = address whole_shape way.slot.offset y

  pub means : (p : Place) → Agrees names.scope p → MeansObject names.scope (meaning_of p first.name) way.whole
  means p agrees = variable_meant names.scope p.scope (meaning_of p first.name) way.role way.whole way.variable
      (agrees.names first.name way.named.number (entity.Object way.role way.whole) way.named.numbered way.named.stands)

  pub named_here : (p : Place) → Agrees names.scope p → NamesWhole p first.name way.whole
  named_here p agrees = let h = means p agrees in named_whole p first.name way.whole h.value h.is

  scope_sound : (p : Place) (view : View) → Sees g names p view → SoundScope p.scope
  scope_sound p view sees = subst SoundScope (sym sees.unit.scope) sees.unit.names.agrees.sound

  partly_whole : (y : Target) → y.parts ≡ [] → y.subtype ≡ way.whole → IsPartly whole_shape way.whole whole_shape y
  partly_whole y none same = record {
    has = subst (HasParts whole_shape) (sym none) tt;
    shape = ap (part_shape whole_shape) none;
    subtype = same;
  }

  -- the words of the object's value lie where they are told to
  pub lies_here : (p : Place) (view : View) (sees : Sees g names p view) → Lies (view.words way.slot.region) way.slot.offset (means p sees.names.agrees).value
  lies_here p view sees = let h = means p sees.names.agrees in sees.names.objects first.name way.slot way.whole h.value way.there h.is

  small_here : (p : Place) (view : View) → Sees g names p view → way.slot.offset + words whole_shape ≤ 65536
  small_here p view sees =
      let h = means p sees.names.agrees in
      let inside = lies_within (view.words way.slot.region) way.slot.offset h.value (lies_here p view sees) in
      let wide = meant_width sized names.scope p sees.names.agrees first.name way.role way.whole way.whole h.value way.named h.is in
      let small = sees.unit.small way.slot.region in
      omega (arith, inside, wide, small)

  -- the code comes to the address
  pub computes_pointed : QuietStays → Everywhere i (library_of g) (Sees g names) from to (λ base z. pos (place_in z) ∷ base) (pointed first selectors)
  computes_pointed quiet c left answers schedule k task m f fs p base calm sees is =
      let n = named_here p sees.names.agrees in
      let y0 = n.target in
      let up = way.up in
      let none = ap (part_offset whole_shape) n.parts in
      let begins : way.slot.offset ≡ place_in y0 = omega (arith, none) in
      let start : ℤ = pos (place_in y0) +ℤ way.shift in
      let next : from + 1 ≡ suc from = omega arith in
      let stack : Target → List ℤ = λ z. pos (place_in z) ∷ base in
      subst (λ (q : Val Target). Comes i schedule k task m (placed f from base) fs (to - from) to stack q)
      (sym (ap (λ o. and_then (target_or_nothing o) (all_selected c p selectors)) n.is))
      (more quiet i schedule k task m calm (placed f from base) fs (1 + (to - suc from)) (to - from) to stack (all_selected c p selectors y0)
      (omega (arith, up))
      (after_first quiet i schedule k task m calm (placed f from base) fs 1 (to - suc from) (suc from) to (start ∷ base) stack (all_selected c p selectors y0)
      (omega arith)
      (subst
      (λ a. Spends (behaviour i schedule) task frames_of (most_steps i) (suc (length fs)) 1 k (in_frame m (placed f from base) fs) k
      (in_frame m (placed f (suc from) ((pos a +ℤ way.shift) ∷ base)) fs)) begins
      (pushes quiet i schedule k task m calm from (pos way.slot.offset +ℤ way.shift) way.push f fs base (suc from) next))
      (path_comes whole_shape way.slot.offset quiet i (library_of g) (Sees g names) scope_sound (small_here p (view_of i schedule k task m f fs) sees) c left
      answers schedule k task m f fs p calm sees is selectors (suc from) to way.shift way.whole whole_shape last way.end (near_close way.shift way.near) way.path y0 (partly_whole y0 n.parts n.same) base)))

  -- ---- what is named, where something is

  module _ (c : Calls) (p : Place) (view : View) (good : (library_of g).sound c) (sees : Sees g names p view) (z : Target)
      (gives : pointed first selectors c p ≡ Gives z)
    where
      abbrev start_here : NamesWhole p first.name way.whole
      start_here = named_here p sees.names.agrees

      pub part_here : IsPartly whole_shape last way.end z × SameWhole start_here.target z
      part_here =
          let n = start_here in
          path_part whole_shape way.slot.offset i (library_of g) (Sees g names) scope_sound c good p view sees selectors (suc from) to way.shift way.whole whole_shape
          last way.end
          way.path n.target (partly_whole n.target n.parts n.same) z (sym (ap (λ o. and_then (target_or_nothing o) (all_selected c p selectors)) n.is) ∙ gives)

      whole_here : IsThere p start_here.target first.name (means p sees.names.agrees).value
      whole_here = let h = means p sees.names.agrees in named_there p first.name way.whole h.value h.is start_here.target start_here.is

      pub name_here : z.name ≡ first.name
      name_here = part_here.1.name ∙ whole_here.named

      pub shape_here : part_shape whole_shape z.parts ≡ shape_of names.scope last
      shape_here = part_here.0.shape ∙ way.ends

      pub address_here : address_of names z ≡ place_in z
      address_here =
          ap (λ q. offset_or_none (slot_of names q) + part_offset (shape_named names.scope q) z.parts) name_here
          ∙ ap (λ o. offset_or_none o + part_offset (shape_named names.scope first.name) z.parts) way.there
          ∙ ap (λ q. way.slot.offset + part_offset q z.parts) (shape_is names.scope first.name way.role way.whole way.named)

      -- the target's value is that part of the value that the name means
      pub value_here : value_in (object_of (objects_at z p) z.name) z.parts ≡ part_value z.parts (means p sees.names.agrees).value
      value_here =
          let o = whole_here in
          ap (λ q. value_in (object_of (objects_at z p) q) z.parts) name_here
          ∙ ap (λ q. value_in q z.parts) (subst (λ q. object_of (objects_at q p) first.name ≡ Some o.object) same_home o.found)
          ∙ ap (part_value z.parts) o.value
        where
          same_home : record start_here.target { parts = z.parts; subtype = z.subtype } ≡ z
          same_home = λ j. record z { home = (sym part_here.1.home) j; name = (sym part_here.1.name) j }

      -- ... which is of the part's subtype
      pub suited_here : (u : Value) → part_value z.parts (means p sees.names.agrees).value ≡ Some u → has_shape (shape_of names.scope last) u ≡ true
      suited_here u at =
          let n = means p sees.names.agrees in
          ap (λ q. has_shape q u) (sym shape_here) ∙ part_suited sized whole_shape z.parts n.value u part_here.0.has n.suited at

-- the target is placed where it is copied back to
pub placed_here : {i : Sections} {g : Package} {first : Identifier} {selectors : SelectorTrees} {last : Subtype} {from to : ℕ} (sized : ValuesHaveWords)
    (v : Framed) (way : PointsTo i g v.names first selectors last from to)
    → (form : TypeForm) → form_at v.names.scope last.type_number ≡ Some form
    → (c : Calls) (p : Place) (view : View) → (library_of g).sound c → Knows g v p view → (z : Target) → pointed first selectors c p ≡ Gives z
    → IsPlacedTarget v (record { region = way.slot.region; subtype = last }) z
placed_here {first = first} sized v way form known c p view good knows z gives =
    let part = part_here sized way c p view good knows.sees z gives in
    let name = name_here sized way c p view good knows.sees z gives in
    let start = named_here sized way p knows.sees.names.agrees in
    record {
      slot = way.slot;
      there = ap (slot_of v.names) name ∙ way.there;
      region = refl;
      home = subst (λ o. IsHomeOf o way.slot.region z.home) knows.within
          (subst (IsHomeOf p.within way.slot.region) (sym part.1.home)
          (home_there p first.name way.slot.region (knows.homes first.name way.slot way.there) start.target start.is));
      role = way.role;
      whole = way.whole;
      named = subst (λ q. NamesObject v.names.scope q way.role way.whole) (sym name) way.named;
      variable = way.variable;
      has = part.0.has;
      shape = shape_here sized way c p view good knows.sees z gives;
      subtype = part.0.subtype;
      known = (form, known);
    }
