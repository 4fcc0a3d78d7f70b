-- Variables, components and scopes, declaration by declaration.
use Rattle.std.proofs.Common.{◌≡◌, ◌<◌, ◌+◌, ℕ, List, [], ◌∷◌, ◌++◌, map, take, length, refl, sym, ap, subst, ◌∙◌, append_assoc}
use Rattle.std.specs.Prelude.{get_or}
use Rattle.ada_tree.specs.declared.declaration.Item.{Item}
use Rattle.ada_tree.specs.declared.declaration.ProtectedComponent.{ProtectedComponent}
use Rattle.ada_tree.specs.declared.program.BodyItem.{BodyItem}
use Rattle.ada_tree.specs.StatementTree.{protected_component_tree}
use Rattle.ada_tree.specs.ProgramTree.{BodyItemTree, ItemTree, OfException, OfItem, OfObject, OfProtected, OfSubprogram, OfTask, OfType, body_item_tree, item_tree}
use Rattle.meaning.specs.Programs.{component, items_among, variable, variables_among}
use Rattle.types.specs.Places.{Object}
use Rattle.types.specs.Scopes as types
use Rattle.waveforms.specs.Scopes.{VariableScope}
use Rattle.variable_places.specs.Shown.{Listed, all_listed, object_listed, object_scope, object_scopes}
use Rattle.variable_places.proofs.Lists.{mapped_next}

-- ---- lists

pub among_both : (xs ys : List BodyItemTree) → items_among (xs ++ ys) ≡ items_among xs ++ items_among ys
among_both [] ys = refl
among_both (OfItem d ∷ xs) ys = ap (λ l. d ∷ l) (among_both xs ys)
among_both (x ∷ xs) ys = among_both xs ys

module _ (s : types.Scope) where
  variables_both : (xs ys : List ItemTree) → variables_among s (xs ++ ys) ≡ variables_among s xs ++ variables_among s ys
  variables_both [] ys = refl
  variables_both (OfType d ∷ xs) ys = variables_both xs ys
  variables_both (OfObject d ∷ xs) ys =
      ap (λ l. variable s d ++ l) (variables_both xs ys) ∙ sym (append_assoc (variable s d) (variables_among s xs) (variables_among s ys))
  variables_both (OfException d ∷ xs) ys = variables_both xs ys
  variables_both (OfSubprogram d ∷ xs) ys = variables_both xs ys
  variables_both (OfTask d ∷ xs) ys = variables_both xs ys
  variables_both (OfProtected d ∷ xs) ys = variables_both xs ys

  pub scopes_both : (xs ys : List ItemTree) → object_scopes s (xs ++ ys) ≡ object_scopes s xs ++ object_scopes s ys
  scopes_both [] ys = refl
  scopes_both (OfType d ∷ xs) ys = scopes_both xs ys
  scopes_both (OfObject d ∷ xs) ys = scopes_both xs ys
  scopes_both (OfException d ∷ xs) ys = scopes_both xs ys
  scopes_both (OfSubprogram d ∷ xs) ys = scopes_both xs ys
  scopes_both (OfTask d ∷ xs) ys = scopes_both xs ys
  scopes_both (OfProtected d ∷ xs) ys = ap (λ l. object_scope s d ∷ l) (scopes_both xs ys)

  listed_both : (l : Listed) (xs ys : List Object) → all_listed s l (xs ++ ys) ≡ all_listed s (all_listed s l xs) ys
  listed_both l [] ys = refl
  listed_both l (x ∷ xs) ys = listed_both (object_listed s l x.name x.subtype) xs ys

  -- ---- variables

  -- those that declarations declare are listed
  abbrev pub Lists : Listed → List ItemTree → Listed → Type 0
  Lists old items new = new ≡ all_listed s old (variables_among s items)

  pub lists_both : (old middle new : Listed) (xs ys : List ItemTree) → Lists old xs middle → Lists middle ys new → Lists old (xs ++ ys) new
  lists_both old middle new xs ys one two =
      two ∙ ap (λ l. all_listed s l (variables_among s ys)) one
      ∙ sym (ap (all_listed s old) (variables_both xs ys) ∙ listed_both old (variables_among s xs) (variables_among s ys))

  pub item_next : (old middle new : Listed) (all : List Item) (n : ℕ) (x : Item) → n < length all → x ≡ get_or all n x
      → Lists old (map item_tree (take n all)) middle → Lists middle (item_tree x ∷ []) new → Lists old (map item_tree (take (n + 1) all)) new
  item_next old middle new all n x less is one two =
      subst (λ l. Lists old l new) (sym (mapped_next item_tree all n x less is)) (lists_both old middle new (map item_tree (take n all)) (item_tree x ∷ []) one two)

  pub body_item_next : (old middle new : Listed) (all : List BodyItem) (n : ℕ) (x : BodyItem) → n < length all → x ≡ get_or all n x
      → Lists old (items_among (map body_item_tree (take n all))) middle → Lists middle (items_among (body_item_tree x ∷ [])) new
      → Lists old (items_among (map body_item_tree (take (n + 1) all))) new
  body_item_next old middle new all n x less is one two =
      subst (λ l. Lists old l new)
      (sym (ap items_among (mapped_next body_item_tree all n x less is) ∙ among_both (map body_item_tree (take n all)) (body_item_tree x ∷ [])))
      (lists_both old middle new (items_among (map body_item_tree (take n all))) (items_among (body_item_tree x ∷ [])) one two)

  -- ---- components

  abbrev pub ListsComponents : Listed → List ProtectedComponent → Listed → Type 0
  ListsComponents old components new = new ≡ all_listed s old (map (component s) (map protected_component_tree components))

  both_maps : (cs : List ProtectedComponent) → map (component s) (map protected_component_tree cs) ≡ map (λ c. component s (protected_component_tree c)) cs
  both_maps [] = refl
  both_maps (c ∷ cs) = ap (λ l. component s (protected_component_tree c) ∷ l) (both_maps cs)

  pub component_next : (old middle new : Listed) (all : List ProtectedComponent) (n : ℕ) (x : ProtectedComponent) → n < length all → x ≡ get_or all n x
      → ListsComponents old (take n all) middle → new ≡ all_listed s middle (component s (protected_component_tree x) ∷ []) → ListsComponents old (take (n + 1) all) new
  component_next old middle new all n x less is one two =
      let f : ProtectedComponent → Object = λ c. component s (protected_component_tree c) in
      two ∙ ap (λ l. all_listed s l (f x ∷ [])) one
      ∙ sym (ap (all_listed s old) (both_maps (take (n + 1) all) ∙ mapped_next f all n x less is ∙ ap (λ l. l ++ f x ∷ []) (sym (both_maps (take n all))))
      ∙ listed_both old (map (component s) (map protected_component_tree (take n all))) (f x ∷ []))

  -- ---- scopes of objects

  abbrev pub Adds : List VariableScope → List ItemTree → List VariableScope → Type 0
  Adds old items new = new ≡ old ++ object_scopes s items

  pub adds_both : (old middle new : List VariableScope) (xs ys : List ItemTree) → Adds old xs middle → Adds middle ys new → Adds old (xs ++ ys) new
  adds_both old middle new xs ys one two =
      two ∙ ap (λ l. l ++ object_scopes s ys) one ∙ append_assoc old (object_scopes s xs) (object_scopes s ys) ∙ ap (λ l. old ++ l) (sym (scopes_both xs ys))

  pub scope_next : (old middle new : List VariableScope) (all : List Item) (n : ℕ) (x : Item) → n < length all → x ≡ get_or all n x
      → Adds old (map item_tree (take n all)) middle → Adds middle (item_tree x ∷ []) new → Adds old (map item_tree (take (n + 1) all)) new
  scope_next old middle new all n x less is one two =
      subst (λ l. Adds old l new) (sym (mapped_next item_tree all n x less is)) (adds_both old middle new (map item_tree (take n all)) (item_tree x ∷ []) one two)

  pub body_scope_next : (old middle new : List VariableScope) (all : List BodyItem) (n : ℕ) (x : BodyItem) → n < length all → x ≡ get_or all n x
      → Adds old (items_among (map body_item_tree (take n all))) middle → Adds middle (items_among (body_item_tree x ∷ [])) new
      → Adds old (items_among (map body_item_tree (take (n + 1) all))) new
  body_scope_next old middle new all n x less is one two =
      subst (λ l. Adds old l new)
      (sym (ap items_among (mapped_next body_item_tree all n x less is) ∙ among_both (map body_item_tree (take n all)) (body_item_tree x ∷ [])))
      (adds_both old middle new (items_among (map body_item_tree (take n all))) (items_among (body_item_tree x ∷ [])) one two)
