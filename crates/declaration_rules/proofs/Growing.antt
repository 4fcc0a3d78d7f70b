-- Scopes that grow, and protected objects whose operations are put back.
use Rattle.std.proofs.Common.{◌≡◌, ℕ, zero, suc, Bool, true, false, List, [], ◌∷◌, ◌++◌, drop, length, take, Some, refl, sym, ap, ◌∙◌}
use Rattle.std.specs.Prelude.{if◌then◌else◌}
use Rattle.std.proofs.lemmas.List.{append_assoc, append-nil, take-append-drop}
use Rattle.std.proofs.Math.Seq.{take-append_seam}
use Rattle.ada_tree.specs.declared.declaration.Formal.{Formal}
use Rattle.ada_tree.specs.StatementTree.{DeclarationTree, LocalObject, LocalTask, LocalProtected}
use Rattle.ada_tree.specs.ProgramTree.{ItemTree, OfType, OfObject, OfException, OfSubprogram, OfTask, OfProtected}
use Rattle.types.specs.declared.entity.RecordComponent.{RecordComponent}
use Rattle.types.specs.Entities.{Entity, Object, Operation, Protected}
use Rattle.types.specs.Scopes.{Scope, Named, changed_at, is_visible, offering, operations_or, protected_at, protected_of, with_name, with_operations}
use Rattle.declaration_rules.specs.BodyNames.{component_role, components_scope, formal_scope, formals_scope, object_body_scope, operation_entity, operations_scope}
use Rattle.declaration_rules.specs.ItemRules.{item_scope, items_scope}
use Rattle.declaration_rules.specs.LocalRules.{local_scope, locals_scope}
use Rattle.declaration_rules.specs.Laws.{NamesAreAdded, ObjectBodiesEnd, StandsFirst}

abbrev Grown : Scope → Scope → Type 0
Grown s t = (more : Scope) × (t ≡ s ++ more)

same : (s : Scope) → Grown s s
same s = ([], sym (append-nil s))

then_grown : (s t u : Scope) → Grown s t → Grown t u → Grown s u
then_grown s t u a b = (a.0 ++ b.0, b.1 ∙ ap (λ l. l ++ b.0) a.1 ∙ append_assoc s a.0 b.0)

stands_first : (s t : Scope) → Grown s t → StandsFirst s t
stands_first s t g = ap (take (length s)) g.1 ∙ take-append_seam s g.0

by_test : (s : Scope) (n : Named) (b : Bool) → Grown s (if b then s else s ++ n ∷ [])
by_test s n true = same s
by_test s n false = (n ∷ [], refl)

named : (s : Scope) (name : List ℕ) (e : Entity) → Grown s (with_name s name e)
named s name e = by_test s (record { name = name; entity = e }) (is_visible s name)

formals_grow : (s : Scope) (fs : List Formal) → Grown s (formals_scope s fs)
formals_grow s [] = same s
formals_grow s (f ∷ fs) = then_grown s (formal_scope s f) (formals_scope (formal_scope s f) fs) (named s _ _) (formals_grow (formal_scope s f) fs)

local_grows : (s : Scope) (d : DeclarationTree) → Grown s (local_scope s d)
local_grows s (LocalObject d) = named s _ _
local_grows s (LocalTask d) = named s _ _
local_grows s (LocalProtected d) = named s _ _

locals_grow : (s : Scope) (ds : List DeclarationTree) → Grown s (locals_scope s ds)
locals_grow s [] = same s
locals_grow s (d ∷ ds) = then_grown s (local_scope s d) (locals_scope (local_scope s d) ds) (local_grows s d) (locals_grow (local_scope s d) ds)

item_grows : (s : Scope) (d : ItemTree) → Grown s (item_scope s d)
item_grows s (OfType d) = named s _ _
item_grows s (OfObject d) = named s _ _
item_grows s (OfException name) = named s _ _
item_grows s (OfSubprogram d) = named s _ _
item_grows s (OfTask d) = named s _ _
item_grows s (OfProtected d) = named s _ _

items_grow : (s : Scope) (ds : List ItemTree) → Grown s (items_scope s ds)
items_grow s [] = same s
items_grow s (d ∷ ds) = then_grown s (item_scope s d) (items_scope (item_scope s d) ds) (item_grows s d) (items_grow (item_scope s d) ds)

operations_grow : (s : Scope) (os : List Operation) → Grown s (operations_scope s os)
operations_grow s [] = same s
operations_grow s (o ∷ os) =
    let next = with_name s o.name (operation_entity o) in then_grown s next (operations_scope next os) (named s o.name (operation_entity o)) (operations_grow next os)

components_grow : (s : Scope) (is_function : Bool) (cs : List RecordComponent) → Grown s (components_scope s is_function cs)
components_grow s is_function [] = same s
components_grow s is_function (c ∷ cs) =
    let part = Object (component_role is_function) c.subtype in
    let next = with_name s c.name part in then_grown s next (components_scope next is_function cs) (named s c.name part) (components_grow next is_function cs)

grown_from : (s t : Scope) → StandsFirst s t → Grown s t
grown_from s t h = (drop (length s) t, sym (take-append-drop (length s) t) ∙ ap (λ l. l ++ drop (length s) t) h)

first_of_first : (s t u : Scope) → StandsFirst s t → StandsFirst t u → StandsFirst s u
first_of_first s t u a b = stands_first s u (then_grown s t u (grown_from s t a) (grown_from t u b))

pub names_are_added : NamesAreAdded
names_are_added =
    record {
      formals = λ s fs. stands_first s _ (formals_grow s fs);
      parameter = λ s name r. stands_first s _ (named s _ _);
      locals = λ s ds. stands_first s _ (locals_grow s ds);
      items = λ s ds. stands_first s _ (items_grow s ds);
      components = λ s is_function cs. stands_first s _ (components_grow s is_function cs);
      together = first_of_first;
    }

same_length : (s : Scope) (number : ℕ) (change : Entity → Entity) → length (changed_at s number change) ≡ length s
same_length [] number change = refl
same_length (n ∷ rest) zero change = refl
same_length (n ∷ rest) (suc number) change = ap (λ k. suc k) (same_length rest number change)

begun : (s : Scope) (number : ℕ) → take (length s) (object_body_scope s number) ≡ with_operations s number []
begun s number =
    let inside = with_operations s number [] in
    ap (λ k. take k (object_body_scope s number)) (sym (same_length s number (offering []))) ∙ stands_first inside _ (operations_grow inside (operations_or (protected_at s number) []))

-- an entity has its operations back
back : (e : Entity) → offering (operations_or (protected_of (Some e)) []) (offering [] e) ≡ e
back (Protected p) = refl
back e = refl

ended : (s : Scope) (number : ℕ) → with_operations (with_operations s number []) number (operations_or (protected_at s number) []) ≡ s
ended [] number = refl
ended (n ∷ rest) zero = ap (λ e. (let m : Named = record { name = n.name; entity = e } in m) ∷ rest) (back n.entity)
ended (n ∷ rest) (suc number) = ap (λ s. n ∷ s) (ended rest number)

pub object_bodies_end : ObjectBodiesEnd
object_bodies_end = record { begun = begun; ended = ended }
