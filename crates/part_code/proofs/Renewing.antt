-- Objects of which one has a new value: they have the same subtypes as before, and values of their types.
use Rattle.std.proofs.Common.{◌≡◌, ℕ, List, [], ◌∷◌, cond, Some, Bool, true, false, sym, ap, ◌∙◌}
use Rattle.std.specs.Prelude.{bytes_eq, option_map}
use Rattle.types.specs.declared.entity.Subtype.{Subtype}
use Rattle.types.specs.Places.{Object, object_of}
use Rattle.types.specs.Scopes.{Scope}
use Rattle.types.specs.Shapes.{has_shape, shape_of}
use Rattle.expr_soundness.specs.expr_rules.specs.Laws.{type_shape}
use Rattle.expr_soundness.proofs.Parts.{subtype_values}
use Rattle.expr_soundness.proofs.Positions.{same_some}
use Rattle.expr_code.specs.Seeing.{AreSuited, subtype_among}
use Rattle.part_code.proofs.Names.{same_name}

abbrev subtype_in_front : Object → Subtype
subtype_in_front x = x.subtype

-- the subtypes of the names are what they were
pub same_renewed : (l : List Object) (x old : Object) → object_of l x.name ≡ Some old → x.subtype ≡ old.subtype → (name : List ℕ)
    → subtype_among (x ∷ l) name ≡ subtype_among l name
same_renewed l x old found same name = by_test (bytes_eq x.name name) (λ e. same_name x.name name e)
  where
    by_test : (b : Bool) → (b ≡ true → x.name ≡ name) → option_map subtype_in_front (cond b (Some x) (object_of l name)) ≡ subtype_among l name
    by_test true is =
        ap Some same ∙ ap (option_map subtype_in_front) (sym found) ∙ ap (subtype_among l) (is (λ i. true))
    by_test false is = λ i. subtype_among l name

pub suits_renewed : (s : Scope) (l : List Object) (x : Object) → has_shape (shape_of s x.subtype) x.value ≡ true → AreSuited s l → AreSuited s (x ∷ l)
suits_renewed s l x suited all = (sym (subtype_values s x.subtype x.value) ∙ suited, all)

-- the value of each of them is of its subtype
pub suited_at : (s : Scope) (l : List Object) (name : List ℕ) (y : Object) → AreSuited s l → object_of l name ≡ Some y
    → has_shape (shape_of s y.subtype) y.value ≡ true
suited_at s [] name y all h = cc
suited_at s (x ∷ l) name y all h = by_test (bytes_eq x.name name) h (suited_at s l name y all.1)
  where
    by_test : (b : Bool) → cond b (Some x) (object_of l name) ≡ Some y → (object_of l name ≡ Some y → has_shape (shape_of s y.subtype) y.value ≡ true)
        → has_shape (shape_of s y.subtype) y.value ≡ true
    by_test true e later =
        subtype_values s y.subtype y.value
        ∙ ap (λ z. has_shape (type_shape s z.subtype.type_number) z.value) (sym (same_some x y e)) ∙ all.0
    by_test false e later = later e
