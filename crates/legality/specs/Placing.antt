-- What the name with a number adds to the layouts. Serves the proofs of their functions.
use Rattle.std.specs.Prelude.{ℕ, List, [], ◌∷◌, Option, Some, None}
use Rattle.types.specs.Entities.{Entity, ProtectedObject}
use Rattle.types.specs.Scopes.{Scope, entity_at, protected_at}
use Rattle.legality.specs.ProgramLayouts.{components_words, variable_words}

abbrev pub words_of_entity : Scope → Option Entity → List ℕ
words_of_entity s (Some e) = variable_words s e
words_of_entity s None = []

-- the words of the variable with this number, if it is one
abbrev pub variable_at : Scope → ℕ → List ℕ
variable_at s n = words_of_entity s (entity_at s n)

abbrev pub words_of_object : Scope → Option ProtectedObject → List (List ℕ)
words_of_object s (Some p) = components_words s p.components ∷ []
words_of_object s None = []

-- the words of the components of the protected object with this number, if it is one
abbrev pub object_at : Scope → ℕ → List (List ℕ)
object_at s n = words_of_object s (protected_at s n)
