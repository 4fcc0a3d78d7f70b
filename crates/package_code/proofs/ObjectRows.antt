-- The first words of a protected object's components, one behind another.
use Rattle.std.proofs.Common.{◌≡◌, ℕ, ℤ, ◌+◌, ◌<◌, List, [], ◌∷◌, ◌++◌, get_or, length, map, take, sym, ap, ◌∙◌}
use Rattle.std.proofs.lemmas.List.{map-append}
use Rattle.ada_tree.specs.declared.declaration.ProtectedComponent.{ProtectedComponent}
use Rattle.ada_tree.specs.StatementTree.{ProtectedComponentTree, protected_component_tree}
use Rattle.types.specs.Scopes.{Scope}
use Rattle.expr_soundness.specs.meaning.specs.Programs.{component}
use Rattle.step_simulation.specs.part_code.proofs.Lists.{mapped_next}
use Rattle.package_code.specs.Package.{first_words_of}
use Rattle.package_code.proofs.Variables.{words_more}

-- one component more
pub component_next : (s : Scope) (old new : List ℤ) (all : List ProtectedComponent) (n : ℕ) (x : ProtectedComponent) → n < length all → x ≡ get_or all n x
    → old ≡ first_words_of (map (component s) (map protected_component_tree (take n all)))
    → new ≡ old ++ first_words_of (component s (protected_component_tree x) ∷ [])
    → new ≡ first_words_of (map (component s) (map protected_component_tree (take (n + 1) all)))
component_next s old new all n x less is before after =
    let front : List ProtectedComponentTree = map protected_component_tree (take n all) in
    let one : List ProtectedComponentTree = protected_component_tree x ∷ [] in
    after ∙ ap (λ l. l ++ first_words_of (map (component s) one)) before ∙ sym (words_more (map (component s) front) (map (component s) one))
    ∙ ap first_words_of (sym (map-append (component s) front one))
    ∙ ap (λ l. first_words_of (map (component s) l)) (sym (mapped_next protected_component_tree all n x less is))
