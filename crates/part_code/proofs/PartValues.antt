-- The value of a part: it is of the part's shape, and its words stand at the part's place among those of the whole.
use Rattle.std.proofs.Common.{◌≡◌, ℕ, zero, suc, ◌+◌, ℤ, List, [], ◌∷◌, length, cond, Option, Some, None, Bool, true, false, refl, sym, ap, ◌∙◌, subst, arith}
use Rattle.std.specs.Prelude.{bytes_eq, drop, if◌then◌else◌, nat_eq, take}
use Rattle.std.proofs.lemmas.Bool.{and_parts}
use Rattle.types.specs.Laws.{ValuesHaveWords}
use Rattle.types.specs.Shapes.{Shape, Repeated, Grouped, all_values, count_values, has_shape, shape_or_none, value_words}
use Rattle.types.specs.Values.{Value, Number, Truth, Array, Record, Values, NoValues, MoreValues, Fields, NoFields, MoreFields, element_at, field_of}
use Rattle.expr_soundness.proofs.Positions.{same_some}
use Rattle.expr_soundness.specs.meaning.specs.Targets.{changed_element, changed_field, changed_part, component_at, part_value, with_part}
use Rattle.expr_soundness.specs.meaning.specs.Works.{Part, Element, Field}
use Rattle.expr_code.specs.Naming.{Lies}
use Rattle.expr_code.proofs.Locating.{element_shape, field_fits, window}
use Rattle.part_code.specs.Parts.{ShapeHasPart, HasParts, inner, part_offset, part_shape}
use Rattle.part_code.proofs.PartWords.{parts_changed}
use Rattle.part_code.proofs.Words.{below, drop_twice, lies_there, lies_within, with_there, with_words}

-- ---- its shape

one_suited : ValuesHaveWords → (x : Shape) (part : Part) (v w : Value) → ShapeHasPart x part → has_shape x v ≡ true → component_at part v ≡ Some w → has_shape (inner x part) w ≡ true
one_suited sized (Repeated n x) (Element k) (Array vs) w has shaped at =
    element_shape x vs k w (and_parts (nat_eq (count_values vs) n) (all_values (has_shape x) vs) shaped).1 at
one_suited sized (Repeated n x) (Element k) (Number z) w has shaped at = cc
one_suited sized (Repeated n x) (Element k) (Truth b) w has shaped at = cc
one_suited sized (Repeated n x) (Element k) (Record fs) w has shaped at = cc
one_suited sized (Grouped parts) (Field name) (Record fs) w has shaped at =
    subst (λ o. has_shape (shape_or_none o) w ≡ true) (sym has.2) (field_fits sized parts fs name w has.0 has.1 shaped at has.2 has.3).1
one_suited sized (Grouped parts) (Field name) (Number z) w has shaped at = cc
one_suited sized (Grouped parts) (Field name) (Truth b) w has shaped at = cc
one_suited sized (Grouped parts) (Field name) (Array vs) w has shaped at = cc
one_suited sized x part v w has shaped at = absurd has

pub part_suited : ValuesHaveWords → (x : Shape) (parts : List Part) (v u : Value) → HasParts x parts → has_shape x v ≡ true → part_value parts v ≡ Some u
    → has_shape (part_shape x parts) u ≡ true
part_suited sized x [] v u has shaped at = subst (λ q. has_shape x q ≡ true) (same_some v u at) shaped
part_suited sized x (part ∷ parts) v u has shaped at = by_component (component_at part v) refl at (λ w. part_suited sized (inner x part) parts w u has.1)
  where
    by_component : (o : Option Value) → component_at part v ≡ o → elim o [ Some w ↦ part_value parts w | None ↦ None ] ≡ Some u
        → ((w : Value) → has_shape (inner x part) w ≡ true → part_value parts w ≡ Some u → has_shape (part_shape (inner x part) parts) u ≡ true)
        → has_shape (part_shape (inner x part) parts) u ≡ true
    by_component (Some w) there e later = later w (one_suited sized x part v w has.0 shaped there) e
    by_component None there e later = cc

-- ---- a value with its own part put in is the same one

same_element : (n : ℕ) (change : Value → Value) (vs : Values) (w : Value) → element_at vs n ≡ Some w → change w ≡ w → changed_element n change vs ≡ vs
same_element n change NoValues w at same = refl
same_element zero change (MoreValues v rest) w at same =
    let is = same_some v w at in
    ap (λ q. MoreValues q rest) (ap change is ∙ same ∙ sym is)
same_element (suc n) change (MoreValues v rest) w at same = ap (λ q. MoreValues v q) (same_element n change rest w at same)

same_field : (name : List ℕ) (change : Value → Value) (fs : Fields) (w : Value) → field_of fs name ≡ Some w → change w ≡ w → changed_field name change fs ≡ fs
same_field name change NoFields w at same = refl
same_field name change (MoreFields own v rest) w at same = by_test (bytes_eq own name) at (λ a. same_field name change rest w a same)
  where
    by_test : (b : Bool) → (if b then Some v else field_of rest name) ≡ Some w → (field_of rest name ≡ Some w → changed_field name change rest ≡ rest)
        → (if b then MoreFields own (change v) rest else MoreFields own v (changed_field name change rest)) ≡ MoreFields own v rest
    by_test true a later = let is = same_some v w a in ap (λ q. MoreFields own q rest) (ap change is ∙ same ∙ sym is)
    by_test false a later = ap (λ q. MoreFields own v q) (later a)

same_one : (part : Part) (change : Value → Value) (v w : Value) → component_at part v ≡ Some w → change w ≡ w → changed_part part change v ≡ v
same_one (Element n) change (Array vs) w at same = ap Array (same_element n change vs w at same)
same_one (Field name) change (Record fs) w at same = ap Record (same_field name change fs w at same)
same_one part change v w at same = refl

same_part : (parts : List Part) (u v : Value) → part_value parts v ≡ Some u → with_part parts u v ≡ v
same_part [] u v at = sym (same_some v u at)
same_part (part ∷ parts) u v at = by_component (component_at part v) refl at (λ w e. same_part parts u w e)
  where
    by_component : (o : Option Value) → component_at part v ≡ o → elim o [ Some w ↦ part_value parts w | None ↦ None ] ≡ Some u
        → ((w : Value) → part_value parts w ≡ Some u → with_part parts u w ≡ w)
        → changed_part part (with_part parts u) v ≡ v
    by_component (Some w) there e later = same_one part (with_part parts u) v w there (later w e)
    by_component None there e later = cc

-- ---- its words

pub part_lies : ValuesHaveWords → (ws : List ℤ) (o : ℕ) (x : Shape) (parts : List Part) (v u : Value) → HasParts x parts → has_shape x v ≡ true
    → part_value parts v ≡ Some u → Lies ws o v
    → Lies ws (o + part_offset x parts) u
part_lies sized ws o x parts v u has shaped at lies =
    let a = part_offset x parts in
    let l = length (value_words u) in
    let changes = parts_changed sized x parts u has (part_suited sized x parts v u has shaped at) in
    let fits = changes.fits in
    let size = (sized x v shaped).sized in
    let room = lies_within ws o v lies in
    let whole : value_words v ≡ with_words a (value_words u) (value_words v) = ap value_words (sym (same_part parts u v at)) ∙ changes.put v shaped in
    let inside : take l (drop a (value_words v)) ≡ value_words u =
    ap (λ q. take l (drop a q)) whole ∙ with_there a (value_words u) (value_words v) (omega (arith, fits, size)) in
    ap (λ b. cond b (Some (take l (drop (o + a) ws))) None) (below ((o + a) + l) (length ws) (omega (arith, fits, size, room)))
    ∙ ap Some
    (ap (take l) (sym (drop_twice o a ws))
    ∙ sym (window (drop o ws) a l (length (value_words v)) (omega (arith, fits, size)))
    ∙ ap (λ q. take l (drop a q)) (lies_there ws o v lies)
    ∙ inside)
