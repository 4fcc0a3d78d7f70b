-- What scopes and layouts keep in memory. Serves the proofs of their methods.
use Rattle.std.specs.Prelude.{ℕ, ◌+◌, List, [], ◌∷◌, Option, Some, None, slice_get}
use Rattle.types.specs.declared.entity.RecordComponent.{RecordComponent}
use Rattle.types.specs.declared.entity.Subtype.{Subtype}
use Rattle.types.specs.declared.layout.Placed.{Placed}
use Rattle.types.specs.declared.scope.Declared.{Declared}
use Rattle.types.specs.Entities.{Entity}
use Rattle.types.specs.Scopes.{Scope, one_if_protected}
use Rattle.types.specs.Shapes.{Shape, words, words_of_parts, shapes, entity_shape, component_shapes}
use Rattle.types.specs.Layouts.{capped}

-- the words of an object of the type that an entity is, and of components, where the types before it are known
abbrev pub entity_words : Scope → Entity → ℕ
entity_words s e = words (entity_shape (shapes s) e)

abbrev pub components_words : Scope → List RecordComponent → ℕ
components_words s components = words_of_parts (component_shapes (shapes s) components)

-- what the entries in memory keep
abbrev pub entry_words : List ℕ × Declared → ℕ
entry_words e = e.1.words

abbrev pub capped_words : Shape → ℕ
capped_words x = capped (words x)

-- the protected objects up to each name, itself among them
abbrev pub entry_objects : List ℕ × Declared → ℕ
entry_objects e = e.1.objects

abbrev pub objects_after : ℕ → Scope → List ℕ
objects_after n [] = []
objects_after n (x ∷ s) = (n + one_if_protected x.entity) ∷ objects_after (n + one_if_protected x.entity) s

-- the subtype of the component at a place
abbrev pub subtype_of_some : Option RecordComponent → Option Subtype
subtype_of_some (Some c) = Some c.subtype
subtype_of_some None = None

abbrev pub subtype_at : List RecordComponent → Option ℕ → Option Subtype
subtype_at cs (Some i) = subtype_of_some (slice_get cs i)
subtype_at cs None = None

-- what a layout in memory keeps of its objects
abbrev pub placed_first : Placed → ℕ
placed_first p = p.first

abbrev pub placed_words : Placed → ℕ
placed_words p = p.words

-- the first words of objects, of which the first one begins here
abbrev pub first_words : ℕ → List ℕ → List ℕ
first_words from [] = []
first_words from (w ∷ ws) = from ∷ first_words (from + w) ws
