-- Where the body of a protected object or of a subprogram ends, all is as it was before it.
use Rattle.std.proofs.Common.{◌≡◌, ℕ, zero, suc, List, [], ◌∷◌, length, take, refl, sym, ap, ◌∙◌}
use Rattle.ada_tree.specs.StatementTree.{SubprogramTree}
use Rattle.ada_tree.specs.ProgramTree.{OfSubprogram, ProtectedItemTree, OperationBody, EntryBody}
use Rattle.types.specs.Entities.{Entity, Operation}
use Rattle.types.specs.Scopes.{Scope, changed_at, offering, operations_or, protected_at, with_operations}
use Rattle.type_rules.specs.ProfileRules.{subprogram_scope}
use Rattle.declaration_rules.specs.BodyNames.{formals_scope, object_body_scope}
use Rattle.declaration_rules.specs.Laws.{NamesAreAdded, ObjectBodiesEnd, StandsFirst}
use Rattle.unit_rules.specs.ProtectedBodyRules.{protected_item_scope, protected_items_scope}

changed_length : (s : Scope) (n : ℕ) (change : Entity → Entity) → length (changed_at s n change) ≡ length s
changed_length [] n change = refl
changed_length (x ∷ rest) zero change = refl
changed_length (x ∷ rest) (suc n) change = ap suc (changed_length rest n change)

item_stands : NamesAreAdded → (s : Scope) (i : ProtectedItemTree) → StandsFirst s (protected_item_scope s i)
item_stands names s (OperationBody d b) = names.items s (OfSubprogram d ∷ [])
item_stands names s (EntryBody d barrier b) = names.items s []

items_stand : NamesAreAdded → (s : Scope) (items : List ProtectedItemTree) → StandsFirst s (protected_items_scope s items)
items_stand names s [] = names.items s []
items_stand names s (i ∷ rest) =
    names.together s (protected_item_scope s i) (protected_items_scope (protected_item_scope s i) rest)
    (item_stands names s i)
    (items_stand names (protected_item_scope s i) rest)

object_ends : NamesAreAdded → ObjectBodiesEnd → (s : Scope) (n : ℕ) (items : List ProtectedItemTree)
    → with_operations (take (length s) (protected_items_scope (object_body_scope s n) items)) n (operations_or (protected_at s n) []) ≡ s
object_ends names ends s n items =
    let hidden = with_operations s n [] in
    let begun = object_body_scope s n in
    let whole = protected_items_scope begun items in
    let same = changed_length s n (offering []) in
    let first = ap (λ k. take k begun) same ∙ ends.begun s n in
    let kept = names.together hidden begun whole first (items_stand names begun items) in
    ap (λ x. with_operations x n (operations_or (protected_at s n) [])) (ap (λ k. take k whole) (sym same) ∙ kept) ∙ ends.ended s n

pub object_left : NamesAreAdded
    → ObjectBodiesEnd
    → (s begun whole : Scope) (n len : ℕ) (items : List ProtectedItemTree) (operations : List Operation)
    → begun ≡ object_body_scope s n
    → whole ≡ protected_items_scope begun items
    → len ≡ length s
    → operations ≡ operations_or (protected_at s n) []
    → with_operations (take len whole) n operations ≡ s
object_left names ends s begun whole n len items operations eb ew el eo =
    (λ j. with_operations (take (el j) ((ew ∙ ap (λ x. protected_items_scope x items) eb) j)) n (eo j)) ∙ object_ends names ends s n items

pub subprogram_left : NamesAreAdded
    → (s named inside whole : Scope) (d : SubprogramTree) (len : ℕ)
    → named ≡ subprogram_scope s d
    → inside ≡ formals_scope named d.formals
    → whole ≡ inside
    → len ≡ length s
    → take len whole ≡ s
subprogram_left names s named inside whole d len en ei ew el =
    (λ j. take (el j) ((ew ∙ ei ∙ ap (λ x. formals_scope x d.formals) en) j))
    ∙ names.together s (subprogram_scope s d) (formals_scope (subprogram_scope s d) d.formals) (names.items s (OfSubprogram d ∷ []))
    (names.formals (subprogram_scope s d) d.formals)
