-- The names of bodies, item by item, and that they are those of the bodies that are compiled.
use Rattle.std.proofs.Common.{◌≡◌, ◌<◌, ◌+◌, ℕ, suc, List, [], ◌∷◌, ◌++◌, map, take, get_or, length, Option, Some, None, refl, sym, ap, ◌∙◌, append_assoc}
use Rattle.std.proofs.lemmas.List.{map-append}
use Rattle.program_soundness.specs.Fronts.{front}
use Rattle.compiler.specs.expr_rules.specs.Scopes.{Scope, number_of}
use Rattle.compiler.specs.meaning.specs.Programs.{program_of}
use Rattle.compiler.specs.ada_tree.specs.ProgramTree.{BodyItemTree, ItemTree, OfItem, ProgramTree, ProtectedBody, ProtectedItemTree, SubprogramBody, TaskBody, body_item_tree, protected_item_tree}
use Rattle.compiler.specs.ada_tree.specs.declared.program.BodyItem.{BodyItem}
use Rattle.compiler.specs.ada_tree.specs.declared.program.ProtectedBodyItem.{ProtectedBodyItem}
use Rattle.compiler.specs.package_code.specs.Bodies.{Coded, coded_at, coded_from, object_bodies, object_number, operations_of, own_name}
use Rattle.compiler.specs.part_code.proofs.Lists.{mapped_next}
use Rattle.adarun.specs.Operations.{body_names}

pub names_both : (xs ys : List BodyItemTree) → body_names (xs ++ ys) ≡ body_names xs ++ body_names ys
names_both [] ys = refl
names_both (OfItem d ∷ xs) ys = names_both xs ys
names_both (SubprogramBody d b ∷ xs) ys = ap (λ l. d.name.name ∷ l) (names_both xs ys)
names_both (TaskBody name b ∷ xs) ys = ap (λ l. name.name ∷ l) (names_both xs ys)
names_both (ProtectedBody name items end_name ∷ xs) ys =
    ap (λ l. map own_name items ++ l) (names_both xs ys) ∙ sym (append_assoc (map own_name items) (body_names xs) (body_names ys))

pub operation_next : (old middle new : List (List ℕ)) (all : List ProtectedBodyItem) (n : ℕ) (x : ProtectedBodyItem) → n < length all → x ≡ get_or all n x
    → middle ≡ old ++ map own_name (map protected_item_tree (take n all)) → new ≡ middle ++ own_name (protected_item_tree x) ∷ []
    → new ≡ old ++ map own_name (map protected_item_tree (take (n + 1) all))
operation_next old middle new all n x less is one two =
    let front = map protected_item_tree (take n all) in
    let name = own_name (protected_item_tree x) ∷ [] in
    two ∙ ap (λ l. l ++ name) one ∙ append_assoc old (map own_name front) name ∙ ap (λ l. old ++ l) (sym (map-append own_name front (protected_item_tree x ∷ [])))
    ∙ ap (λ l. old ++ map own_name l) (sym (mapped_next protected_item_tree all n x less is))

pub body_next : (old middle new : List (List ℕ)) (all : List BodyItem) (n : ℕ) (x : BodyItem) → n < length all → x ≡ get_or all n x
    → middle ≡ old ++ body_names (map body_item_tree (take n all)) → new ≡ middle ++ body_names (body_item_tree x ∷ [])
    → new ≡ old ++ body_names (map body_item_tree (take (n + 1) all))
body_next old middle new all n x less is one two =
    let front = map body_item_tree (take n all) in
    let name = body_names (body_item_tree x ∷ []) in
    two ∙ ap (λ l. l ++ name) one ∙ append_assoc old (body_names front) name ∙ ap (λ l. old ++ l) (sym (names_both front (body_item_tree x ∷ [])))
    ∙ ap (λ l. old ++ body_names l) (sym (mapped_next body_item_tree all n x less is))

-- declarations are no bodies
pub declared_none : (xs : List ItemTree) (ys : List BodyItemTree) → body_names (map OfItem xs ++ ys) ≡ body_names ys
declared_none [] ys = refl
declared_none (x ∷ xs) ys = declared_none xs ys

-- ---- those of what is compiled

abbrev name_of : Coded → List ℕ
name_of c = c.head.name.name

operations : (items : List ProtectedItemTree) (object : ℕ) (s : Scope) (components : _)
    → map name_of (operations_of object s components items) ≡ map own_name items
operations [] object s components = refl
operations (i ∷ is) object s components = ap (λ l. own_name i ∷ l) (operations is object _ components)

of_object : (object : ℕ) (s : Scope) (visible : Option ℕ) (items : List ProtectedItemTree) → map name_of (object_bodies object s visible items) ≡ map own_name items
of_object object s (Some n) items = operations items object _ _
of_object object s None items = operations items object s []

pub coded_names : (t : ProgramTree) (place : ℕ) (items : List BodyItemTree) → map name_of (coded_from t place items) ≡ body_names items
coded_names t place [] = refl
coded_names t place (OfItem d ∷ rest) = coded_names t (suc place) rest
coded_names t place (SubprogramBody d b ∷ rest) = ap (λ l. d.name.name ∷ l) (coded_names t (suc place) rest)
coded_names t place (TaskBody name b ∷ rest) = ap (λ l. name.name ∷ l) (coded_names t (suc place) rest)
coded_names t place (ProtectedBody name items end_name ∷ rest) =
    map-append name_of (coded_at t place (ProtectedBody name items end_name)) (coded_from t (suc place) rest)
    ∙ (λ j. of_object (object_number (program_of t).scope name) (front t place) (number_of (front t place) name.name) items j ++ coded_names t (suc place) rest j)
