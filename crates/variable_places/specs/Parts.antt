-- The scalar parts of an object, in the order of their words: each with its name in Ada (RM 4.1), and the number of its word.
use Rattle.std.specs.Prelude.{ℕ, zero, suc, ◌+◌, ◌*◌, ℤ, pos, ◌+ℤ◌, List, [], ◌∷◌, ◌++◌, Option, Some, None, codes, nat_lt, option_map, if◌then◌else◌}
use Rattle.std.specs.Fmt.{signed_decimal}
use Rattle.types.specs.declared.entity.RecordComponent.{RecordComponent}
use Rattle.types.specs.declared.entity.Subtype.{Subtype}
use Rattle.types.specs.Entities.{Arrays, Records, TypeForm}
use Rattle.types.specs.Layouts.{capped, component_offset, words_of}
use Rattle.types.specs.Scopes.{Scope, form_at}
use Rattle.waveforms.specs.Scopes.{Variable}
use Rattle.variable_places.specs.declared.parts.TheConstants.{SHOWN_COMPONENTS}

-- what there is for each number below n, in their order
abbrev pub each_below : {X : Type 0} → ℕ → (ℕ → List X) → List X
each_below zero f = []
each_below (suc n) f = each_below n f ++ f n

-- ---- names

abbrev pub component_name : List ℕ → List ℕ → List ℕ
component_name name component = name ++ codes "." ++ component

abbrev pub element_name : List ℕ → ℤ → List ℕ
element_name name index = name ++ codes "(" ++ signed_decimal index ++ codes ")"

-- ---- parts

-- the parts of an object of a subtype, by its name and its first word
abbrev pub PartsOf : Type 0
PartsOf = Subtype → (name : List ℕ) → (word : ℕ) → List Variable

abbrev pub scalar : List ℕ → ℕ → List Variable
scalar name word = record { name = name; word = word } ∷ []

-- The parts of one component of a record. Its words are where code looks for them (expr_code/specs/ExpressionCode, `field_of`).
abbrev pub component_parts : PartsOf → RecordComponent → (name : List ℕ) → (word : ℕ) → (offset : Option ℕ) → List Variable
component_parts parts c name word None = []
component_parts parts c name word (Some offset) = parts c.subtype (component_name name c.name) (capped (word + offset))

-- those of some of the components that a record has
abbrev pub components_parts : PartsOf → Scope → (all : List RecordComponent) → (name : List ℕ) → (word : ℕ) → List RecordComponent → List Variable
components_parts parts s all name word [] = []
components_parts parts s all name word (c ∷ cs) =
    component_parts parts c name word (option_map capped (component_offset s all c.name)) ++ components_parts parts s all name word cs

-- The parts of the components of an array, one component at each index from the first one on. Code subtracts the first index from an index, and multiplies by
-- the words of a component (expr_code/specs/ExpressionCode, `element_code`).
abbrev pub elements_parts : PartsOf → (first : ℤ) → (many : ℕ) → (element : Subtype) → (width : ℕ) → (name : List ℕ) → (word : ℕ) → List Variable
elements_parts parts first many element width name word =
    each_below many (λ n. parts element (element_name name (first +ℤ pos n)) (capped (word + n * width)))

-- an array of too many components is left out as a whole
abbrev pub form_parts : PartsOf → Scope → Option TypeForm → (name : List ℕ) → (word : ℕ) → List Variable
form_parts parts s (Some (Arrays index many element)) name word =
    if nat_lt SHOWN_COMPONENTS many then [] else elements_parts parts index.first many element (capped (words_of s element)) name word
form_parts parts s (Some (Records components)) name word = components_parts parts s components name word components
form_parts parts s (Some form) name word = scalar name word
form_parts parts s None name word = []

-- what types are made of is of types with lesser numbers, so a bound on these ends with nothing
abbrev pub parts_below : (below : ℕ) → Scope → PartsOf
parts_below zero s t name word = []
parts_below (suc below) s t name word = form_parts (parts_below below s) s (form_at s t.type_number) name word

abbrev pub parts_of : Scope → PartsOf
parts_of s t = parts_below (t.type_number + 1) s t
