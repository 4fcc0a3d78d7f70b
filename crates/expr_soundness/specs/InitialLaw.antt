-- The law of values that are not given, as a statement: an object without initial value begins in its subtype, part by part (RM 3.3.1).
use Rattle.std.specs.Prelude.{◌≡◌, ℕ, pos, Bool, true, int_le, List, [], ◌∷◌, Option, Some, ⊤}
use Rattle.meaning.specs.types.specs.declared.entity.Subtype.{Subtype}
use Rattle.meaning.specs.types.specs.declared.entity.RecordComponent.{RecordComponent}
use Rattle.meaning.specs.types.specs.Entities.{TypeForm, Integers, Times, Spans, Arrays, Records}
use Rattle.meaning.specs.types.specs.Scopes.{Scope, form_at}
use Rattle.meaning.specs.types.specs.Shapes.{initial}
use Rattle.meaning.specs.types.specs.Values.{is_within}
use Rattle.expr_soundness.specs.SoundScopes.{IsKnown, SoundScope}
use Rattle.expr_soundness.specs.Lying.{lies}

-- a subtype of this form has the value at which its objects begin: an integer one is not null, one of times holds 0
abbrev pub begins_inside : Option TypeForm → Subtype → Bool
begins_inside (Some Integers) t = int_le t.first t.last
begins_inside (Some Times) t = is_within t.first t.last (pos 0)
begins_inside (Some Spans) t = is_within t.first t.last (pos 0)
begins_inside form t = true

abbrev pub BeginsInside : Scope → Subtype → Type 0
BeginsInside s t = begins_inside (form_at s t.type_number) t ≡ true

abbrev pub AllBeginInside : Scope → List RecordComponent → Type 0
AllBeginInside s [] = ⊤
AllBeginInside s (c ∷ cs) = BeginsInside s c.subtype × AllBeginInside s cs

abbrev pub PartsBeginInside : Scope → TypeForm → Type 0
PartsBeginInside s (Arrays index length element) = BeginsInside s element
PartsBeginInside s (Records components) = AllBeginInside s components
PartsBeginInside s form = ⊤

abbrev pub InitialValuesLie : Type 0
InitialValuesLie = (s : Scope) → SoundScope s → ((number : ℕ) (form : TypeForm) → form_at s number ≡ Some form → PartsBeginInside s form)
    → (t : Subtype) → IsKnown s t → BeginsInside s t → lies s t (initial s t) ≡ true
