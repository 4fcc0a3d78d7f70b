-- Code that goes from the address of a variable to that of a part of it: the part is the one that the selectors behind the name name.
use Rattle.std.proofs.Common.{◌≡◌, ℕ, suc, ◌+◌, ◌-◌, ◌*◌, ◌≤◌, ◌<◌, ℤ, List, [], ◌∷◌, ◌++◌, length, Some, true, refl, sym, ap, ◌∙◌, subst, arith}
use Rattle.std.proofs.lemmas.Int.{ints}
use Rattle.std.specs.Prelude.{pos, int_le, ◌+ℤ◌, ◌-ℤ◌, unsigned_abs}
use Rattle.base.specs.declared.schedule.ScheduleLine.{ScheduleLine}
use Rattle.kernel.specs.State.{Kernel}
use Rattle.kernel.specs.Calm.{Calm}
use Rattle.kernel.specs.Counting.{Spends, Done}
use Rattle.kernel.specs.Laws.{QuietStays}
use Rattle.ada_tree.specs.declared.expression.Identifier.{Identifier}
use Rattle.ada_tree.specs.ExpressionTree as tree
use Rattle.ada_tree.specs.ExpressionTree.{Arguments, Component, ExprTree, MoreArguments, MoreSelectors, NoArguments, NoSelectors, SelectorTree, SelectorTrees}
use Rattle.image.specs.Sections.{Sections}
use Rattle.image.specs.Frames.{Words, Frame}
use Rattle.image.specs.Steps.{behaviour}
use Rattle.types.specs.declared.entity.RecordComponent.{RecordComponent}
use Rattle.types.specs.declared.entity.Subtype.{Subtype}
use Rattle.types.specs.Entities.{Arrays, Records}
use Rattle.types.specs.Evaluations.{Val, Gives, Raises, Meaningless, and_then}
use Rattle.types.specs.Evaluating.{Calls, passed, value_with}
use Rattle.types.specs.Layouts.{field_offset}
use Rattle.types.specs.Places.{Place}
use Rattle.types.specs.Scopes.{form_at}
use Rattle.types.specs.Shapes.{Shape, Shapes, Repeated, Grouped, shape_or_none, words}
use Rattle.types.specs.Standings.{component_of}
use Rattle.types.specs.Values.{Value, Number}
use Rattle.expr_soundness.specs.SoundScopes.{SoundScope}
use Rattle.expr_soundness.proofs.Goods.{sound_form}
use Rattle.expr_soundness.specs.meaning.specs.SameMeaning.{frames_of}
use Rattle.expr_soundness.specs.meaning.specs.Targets.{all_selected, element_of, part_of, selected}
use Rattle.expr_soundness.specs.meaning.specs.Works.{Part, Element, Field, Target}
use Rattle.expr_code.specs.Views.{frames_above, in_frame, placed, Sight, View, view_of}
use Rattle.expr_code.specs.Coming.{Comes, most_steps, on}
use Rattle.expr_code.specs.Computing.{Answers, ComesToNumber, Library}
use Rattle.expr_code.specs.Locating.{IsClose, IsPath, shape_in}
use Rattle.expr_code.proofs.Coming.{after_first, more, then_comes}
use Rattle.expr_code.proofs.Locating.{at_offset_up, distance, given, indexes, moves_on, offset_up, passed_number, shift_none}
use Rattle.part_code.specs.Parts.{HasParts, part_offset, part_shape, place_or_none}
use Rattle.part_code.specs.Parts as shapes
use Rattle.part_code.proofs.PartWords.{further_offset, further_part, further_shape, part_fits}
use Rattle.part_code.proofs.StoringCode.{same_given}

-- ---- a part of a variable of this shape, itself of this subtype and shape

pub record IsPartly (W : Shape) (s : Subtype) (x : Shape) (y : Target) : Type 0 where
  pub has : HasParts W y.parts
  pub shape : part_shape W y.parts ≡ x
  pub subtype : y.subtype ≡ s

abbrev pub with_one : Target → Part → Subtype → Target
with_one y part s = record y { parts = y.parts ++ part ∷ []; subtype = s }

-- the same variable
pub record SameWhole (y z : Target) : Type 0 where
  pub home : z.home ≡ y.home
  pub name : z.name ≡ y.name

index_near : (first z last : ℤ) → int_le first z ≡ true → int_le z last ≡ true → unsigned_abs (z -ℤ first) < suc (unsigned_abs (last -ℤ first))
index_near first z last h k = omega (arith, ints, h, k)

two_then : {A : Type 0} (v : Val Value) (go : List Value → Val A) (rest : A → Val A)
    → and_then (and_then (and_then v (λ a. Gives (a ∷ []))) go) rest ≡ and_then v (λ a. and_then (go (a ∷ [])) rest)
two_then (Gives a) go rest = refl
two_then (Raises x) go rest = refl
two_then Meaningless go rest = refl

module _ (W : Shape) (offset : ℕ) where
  abbrev pub address : Target → ℕ
  address y = offset + part_offset W y.parts

  element_partly : (y : Target) (s : Subtype) (x part : Shape) (many n : ℕ) (element : Subtype) → IsPartly W s x y → x ≡ Repeated many part → n < many
      → IsPartly W element part (with_one y (Element n) element)
  element_partly y s x part many n element h is less =
      let here = h.shape ∙ is in
      record {
        has = further_part W y.parts (Element n) h.has (subst (λ q. shapes.ShapeHasPart q (Element n)) (sym here) less);
        shape = further_shape W y.parts (Element n) ∙ ap (λ q. shapes.inner q (Element n)) here;
        subtype = refl;
      }

  element_address : (y : Target) (s : Subtype) (x part : Shape) (many n : ℕ) (element : Subtype) → IsPartly W s x y → x ≡ Repeated many part
      → address (with_one y (Element n) element) ≡ address y + n * words part
  element_address y s x part many n element h is =
      let far = further_offset W y.parts (Element n) in
      let size = ap (λ q. shapes.step q (Element n)) (h.shape ∙ is) in
      omega (arith, far, size)

  field_partly : (y : Target) (s : Subtype) (x part : Shape) (parts : Shapes) (name : List ℕ) (o : ℕ) (component : Subtype) → IsPartly W s x y → x ≡ Grouped parts
      → shape_in parts name ≡ Some part → field_offset parts name ≡ Some o
      → IsPartly W component part (with_one y (Field name) component)
  field_partly y s x part parts name o component h is there at =
      let here = h.shape ∙ is in
      record {
        has = further_part W y.parts (Field name) h.has (subst (λ q. shapes.ShapeHasPart q (Field name)) (sym here) (part, o, there, at));
        shape = further_shape W y.parts (Field name) ∙ ap (λ q. shapes.inner q (Field name)) here ∙ ap shape_or_none there;
        subtype = refl;
      }

  field_address : (y : Target) (s : Subtype) (x : Shape) (parts : Shapes) (name : List ℕ) (o : ℕ) (component : Subtype) → IsPartly W s x y → x ≡ Grouped parts
      → field_offset parts name ≡ Some o
      → address (with_one y (Field name) component) ≡ address y + o
  field_address y s x parts name o component h is at =
      let far = further_offset W y.parts (Field name) in
      let size = ap (λ q. shapes.step q (Field name)) (h.shape ∙ is) in
      let place = ap place_or_none at in
      omega (arith, far, size, place)

  module _ (i : Sections) (library : Library) (sight : Sight) (sound : (p : Place) (view : View) → sight p view → SoundScope p.scope) (calls : Calls)
      (good : library.sound calls) (p : Place) (view : View) (sees : sight p view) where
    -- what a checked index is
    index_value : (s index element : Subtype) (many : ℕ) (e : ExprTree) → ComesToNumber i library sight e → form_at p.scope s.type_number ≡ Some (Arrays index many element)
        → (v : Value) → and_then (value_with calls p e) (passed index) ≡ Gives v
        → (z : ℤ) × (n : ℕ) × (v ≡ Number z) × (z -ℤ index.first ≡ pos n) × (n < many)
    index_value s index element many e number form v ev =
        let found = given (value_with calls p e) (passed index) v ev in
        let it = number calls p view found.0 good sees found.1 in
        let checked = passed_number index it.0 v (ap (passed index) (sym it.1) ∙ found.2) in
        let far = distance index.first it.0 (it.0 -ℤ index.first) checked.1 refl in
        let near = index_near index.first it.0 index.last checked.1 checked.2 in
        let n = ap unsigned_abs far.1 in
        let counted = (sound_form p.scope (sound p view sees) s.type_number (Arrays index many element) form).counted in
        (it.0, far.0, checked.0, far.1, omega (arith, near, n, counted))

    element_is : (y : Target) (index element : Subtype) (z : ℤ) (n : ℕ) → z -ℤ index.first ≡ pos n → element_of y index element (Number z ∷ []) ≡ Gives (with_one y (Element n) element)
    element_is y index element z n far = ap (λ d. Gives (with_one y (Element (unsigned_abs d)) element)) far

    field_is : (y : Target) (s : Subtype) (components : List RecordComponent) (name : Identifier) (part : Subtype) → y.subtype ≡ s → form_at p.scope s.type_number ≡ Some (Records components)
        → component_of components name.name ≡ Some part
        → selected calls p y (form_at p.scope y.subtype.type_number) (Component name) ≡ Gives (with_one y (Field name.name) part)
    field_is y s components name part same form there =
        ap (λ u. selected calls p y (form_at p.scope u.type_number) (Component name)) same
        ∙ ap (λ o. selected calls p y o (Component name)) form
        ∙ ap (part_of y (Field name.name)) there

    abbrev one_index : ExprTree → SelectorTree
    one_index e = Arguments (MoreArguments (tree.Value e) NoArguments)

    index_is : (y : Target) (s index element : Subtype) (many : ℕ) (e : ExprTree) (rest : SelectorTrees) → y.subtype ≡ s
        → form_at p.scope s.type_number ≡ Some (Arrays index many element)
        → all_selected calls p (MoreSelectors (one_index e) rest) y
        ≡ and_then (and_then (value_with calls p e) (passed index)) (λ v. and_then (element_of y index element (v ∷ [])) (all_selected calls p rest))
    index_is y s index element many e rest same form =
        ap (λ u. and_then (selected calls p y (form_at p.scope u.type_number) (one_index e)) (all_selected calls p rest)) same
        ∙ ap (λ o. and_then (selected calls p y o (one_index e)) (all_selected calls p rest)) form
        ∙ two_then (and_then (value_with calls p e) (passed index)) (element_of y index element) (all_selected calls p rest)

    -- the part that the selectors name is one of the same variable, of the subtype and shape to which the code leads
    pub path_part : (selectors : SelectorTrees) (from to : ℕ) (shift : ℤ) (s : Subtype) (x : Shape) (last : Subtype) (end : Shape)
        → IsPath i library sight from to shift s x selectors last end
        → (y : Target) → IsPartly W s x y → (z : Target) → all_selected calls p selectors y ≡ Gives z → IsPartly W last end z × SameWhole y z
    path_part NoSelectors from to shift s x last end h y partly z named =
        let same : y ≡ z = same_given y z named in (
          subst (λ q. IsPartly W last end q) same (record { has = partly.has; shape = partly.shape ∙ h.1; subtype = partly.subtype ∙ h.2 }),
          subst (λ q. SameWhole y q) same (record { home = refl; name = refl }),
        )
    path_part (MoreSelectors (Component name) rest) from to shift s x last end h y partly z named =
        let form = h.7 p view sees in
        let shape = h.8 p view sees in
        let next = with_one y (Field name.name) h.2 in
        let r = path_part rest h.5 to h.6 h.2 h.3 last end h.16 next (field_partly y s x h.3 h.1 name.name h.4 h.2 partly shape h.10 h.11) z
        (sym (ap (λ v. and_then v (all_selected calls p rest)) (field_is y s h.0 name h.2 partly.subtype form h.9)) ∙ named) in
        (r.0, record { home = r.1.home; name = r.1.name })
    path_part (MoreSelectors (Arguments (MoreArguments (tree.Value e) NoArguments)) rest) from to shift s x last end h y partly z named =
        let form = h.7 p view sees in
        let shape = h.8 p view sees in
        let found = given (and_then (value_with calls p e) (passed h.0)) (λ v. and_then (element_of y h.0 h.1 (v ∷ [])) (all_selected calls p rest)) z
        (sym (index_is y s h.0 h.1 h.2 e rest partly.subtype form) ∙ named) in
        let it = index_value s h.0 h.1 h.2 e h.12 form found.0 found.1 in
        let next = with_one y (Element it.1) h.1 in
        let r = path_part rest h.5 to h.6 h.1 h.3 last end h.16 next (element_partly y s x h.3 h.2 it.1 h.1 partly shape it.4) z
        (sym (ap (λ v. and_then (element_of y h.0 h.1 (v ∷ [])) (all_selected calls p rest)) it.2
        ∙ ap (λ v. and_then v (all_selected calls p rest)) (element_is y h.0 h.1 it.0 it.1 it.3))
        ∙ found.2) in
        (r.0, record { home = r.1.home; name = r.1.name })
    path_part (MoreSelectors other rest) from to shift s x last end h y partly z named = absurd h

  module _ (quiet : QuietStays) (i : Sections) (library : Library) (sight : Sight) (sound : (p : Place) (view : View) → sight p view → SoundScope p.scope)
      (small_whole : offset + words W ≤ 65536) (calls : Calls) (left : ℕ) (answers : Answers i library calls left) (schedule : List ScheduleLine) (k : Kernel)
      (t : ℕ) (m : Words) (f : Frame) (fs : List Frame) (p : Place) (calm : Calm k t) (sees : sight p (view_of i schedule k t m f fs))
      (is : left ≡ frames_above k t fs) where
    abbrev here : View
    here = view_of i schedule k t m f fs

    -- the number of the variable, or of the part of it so far
    abbrev number : Target → ℤ → ℤ
    number y shift = pos (address y) +ℤ shift

    -- The code leads from there to the part's address.
    pub path_comes : (selectors : SelectorTrees) (from to : ℕ) (shift : ℤ) (s : Subtype) (x : Shape) (last : Subtype) (end : Shape) → IsClose shift
        → IsPath i library sight from to shift s x selectors last end
        → (y : Target) → IsPartly W s x y → (base : List ℤ)
        → Comes i schedule k t m (placed f from (number y shift ∷ base)) fs (to - from) to (λ (z : Target). pos (address z) ∷ base) (all_selected calls p selectors y)
    path_comes NoSelectors from to shift s x last end close h y partly base =
        subst (λ w. Comes i schedule k t m (placed f from (w ∷ base)) fs (to - from) to (λ (z : Target). pos (address z) ∷ base) (Gives y))
        (sym (shift_none (address y) shift h.3))
        (subst (λ q. Comes i schedule k t m (placed f from (pos (address y) ∷ base)) fs (q - from) q (λ (z : Target). pos (address z) ∷ base) (Gives y)) h.0 Done)
    path_comes (MoreSelectors (Component name) rest) from to shift s x last end close h y partly base =
        let form = h.7 p (view_of i schedule k t m f fs) sees in
        let shape = h.8 p (view_of i schedule k t m f fs) sees in
        let next = with_one y (Field name.name) h.2 in
        let inside = field_partly y s x h.3 h.1 name.name h.4 h.2 partly shape h.10 h.11 in
        let at = field_address y s x h.1 name.name h.4 h.2 partly shape h.11 in
        let fits = part_fits W next.parts inside.has in
        let after = h.5 in
        let up = h.15 in
        let far = at_offset_up i from after h.4 shift h.6 h.13 in
        let stack : Target → List ℤ = λ z. pos (address z) ∷ base in
        let st : List ℤ = number y shift ∷ base in
        subst (λ v. Comes i schedule k t m (placed f from st) fs (to - from) to stack v)
        (sym (ap (λ v. and_then v (all_selected calls p rest)) (field_is i library sight sound calls answers.sound p here sees y s h.0 name h.2 partly.subtype form h.9)))
        (more quiet i schedule k t m calm (placed f from st) fs ((after - from) + (to - after)) (to - from) to stack (all_selected calls p rest next)
        (omega (arith, far, up))
        (after_first quiet i schedule k t m calm (placed f from st) fs (after - from) (to - after) after to (number next h.6 ∷ base) stack
        (all_selected calls p rest next) far
        (subst
        (λ a. Spends (behaviour i schedule) t frames_of (most_steps i) (suc (length fs)) (after - from) k (in_frame m (placed f from st) fs) k
        (in_frame m (placed f after ((pos a +ℤ h.6) ∷ base)) fs)) (sym at)
        (moves_on quiet i schedule k t m calm f fs from after h.4 (address y) shift h.6 base (omega (arith, at, fits, small_whole)) h.14 h.13))
        (path_comes rest after to h.6 h.2 h.3 last end h.14 h.16 next inside base)))
    path_comes (MoreSelectors (Arguments (MoreArguments (tree.Value e) NoArguments)) rest) from to shift s x last end close h y partly base =
        let form = h.7 p (view_of i schedule k t m f fs) sees in
        let shape = h.8 p (view_of i schedule k t m f fs) sees in
        let mid = h.4 in
        let after = h.5 in
        let le = h.10 in
        let far = offset_up i mid after h.0.first (words h.3) shift h.6 h.13 in
        let up = h.15 in
        let stack : Target → List ℤ = λ z. pos (address z) ∷ base in
        let st : List ℤ = number y shift ∷ base in
        let value = and_then (value_with calls p e) (passed h.0) in
        let go : Value → Val Target = λ v. and_then (element_of y h.0 h.1 (v ∷ [])) (all_selected calls p rest) in
        subst (λ v. Comes i schedule k t m (placed f from st) fs (to - from) to stack v)
        (sym (index_is i library sight sound calls answers.sound p here sees y s h.0 h.1 h.2 e rest partly.subtype form))
        (more quiet i schedule k t m calm (placed f from st) fs ((mid - from) + (to - mid)) (to - from) to stack (and_then value go) (omega (arith, le, far, up))
        (then_comes quiet i schedule k t m calm (placed f from st) fs (mid - from) (to - mid) mid to (on st) stack value go le (omega (arith, far, up))
        (h.11 calls left answers schedule k t m f fs p st calm sees is)
        (λ v ev.
        let it = index_value i library sight sound calls answers.sound p here sees s h.0 h.1 h.2 e h.12 form v ev in
        let next = with_one y (Element it.1) h.1 in
        let inside = element_partly y s x h.3 h.2 it.1 h.1 partly shape it.4 in
        let at = element_address y s x h.3 h.2 it.1 h.1 partly shape in
        let fits = part_fits W next.parts inside.has in
        let few = h.9 in
        let less = it.4 in
        let is_next : go v ≡ all_selected calls p rest next =
        ap go it.2 ∙ ap (λ w. and_then w (all_selected calls p rest)) (element_is i library sight sound calls answers.sound p here sees y h.0 h.1 it.0 it.1 it.3) in
        subst (λ w. Comes i schedule k t m (placed f mid (on st w)) fs (to - mid) to stack (go v)) (sym it.2)
        (subst (λ w. Comes i schedule k t m (placed f mid (it.0 ∷ st)) fs (to - mid) to stack w) (sym is_next)
        (more quiet i schedule k t m calm (placed f mid (it.0 ∷ st)) fs ((after - mid) + (to - after)) (to - mid) to stack (all_selected calls p rest next)
        (omega (arith, far, up))
        (after_first quiet i schedule k t m calm (placed f mid (it.0 ∷ st)) fs (after - mid) (to - after) after to (number next h.6 ∷ base) stack
        (all_selected calls p rest next) far
        (subst
        (λ a. Spends (behaviour i schedule) t frames_of (most_steps i) (suc (length fs)) (after - mid) k (in_frame m (placed f mid (it.0 ∷ st)) fs) k
        (in_frame m (placed f after ((pos a +ℤ h.6) ∷ base)) fs)) (sym at)
        (indexes quiet i schedule k t m calm f fs mid after h.0.first it.0 (words h.3) (address y) it.1 shift h.6 base it.3 (omega (arith, less, few))
        (omega (arith, at, fits, small_whole)) close h.14 h.13))
        (path_comes rest after to h.6 h.1 h.3 last end h.14 h.16 next inside base)))))))
    path_comes (MoreSelectors other rest) from to shift s x last end close h y partly base = absurd h
