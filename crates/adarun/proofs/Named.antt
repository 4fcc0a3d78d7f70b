-- The names of protected objects, declaration by declaration, and with an image.
use Rattle.std.proofs.Common.{◌≡◌, ◌<◌, ◌+◌, ℕ, List, [], ◌∷◌, ◌++◌, map, take, length, get_or, Result, Ok, Err, refl, sym, ap, subst, ◌∙◌, append_assoc}
use Rattle.std.specs.Prelude.{IfOk, IfErr, OnOk}
use Rattle.image.specs.Sections.{Sections}
use Rattle.lexer.specs.declared.fault.Fault.{Fault}
use Rattle.compiler.specs.ada_tree.specs.ProgramTree.{ItemTree, OfType, OfObject, OfException, OfSubprogram, OfTask, OfProtected, body_item_tree, item_tree}
use Rattle.compiler.specs.ada_tree.specs.declared.declaration.Item.{Item}
use Rattle.compiler.specs.ada_tree.specs.declared.program.BodyItem.{BodyItem}
use Rattle.compiler.specs.meaning.specs.Programs.{items_among}
use Rattle.compiler.specs.package_code.proofs.Declared.{among_both}
use Rattle.compiler.specs.part_code.proofs.Lists.{mapped_next}
use Rattle.adarun.specs.Naming.{declared_objects, entry_among, imaged}
use Rattle.adarun.specs.declared.compilation.Named.{Named}
use Rattle.adarun.specs.declared.naming.ObjectNames.{ObjectNames}

pub declared_both : (xs ys : List ItemTree) → declared_objects (xs ++ ys) ≡ declared_objects xs ++ declared_objects ys
declared_both [] ys = refl
declared_both (OfType d ∷ xs) ys = declared_both xs ys
declared_both (OfObject d ∷ xs) ys = declared_both xs ys
declared_both (OfException d ∷ xs) ys = declared_both xs ys
declared_both (OfSubprogram d ∷ xs) ys = declared_both xs ys
declared_both (OfTask d ∷ xs) ys = declared_both xs ys
declared_both (OfProtected d ∷ xs) ys = ap (λ l. record { object = d.name.name; entry = entry_among d.operations } ∷ l) (declared_both xs ys)

-- names of declarations are added to others
abbrev pub Adds : List ObjectNames → List ItemTree → List ObjectNames → Type 0
Adds old items new = new ≡ old ++ declared_objects items

pub adds_both : (old middle new : List ObjectNames) (xs ys : List ItemTree) → Adds old xs middle → Adds middle ys new → Adds old (xs ++ ys) new
adds_both old middle new xs ys one two =
    two ∙ ap (λ l. l ++ declared_objects ys) one ∙ append_assoc old (declared_objects xs) (declared_objects ys) ∙ ap (λ l. old ++ l) (sym (declared_both xs ys))

pub item_next : (old middle new : List ObjectNames) (all : List Item) (n : ℕ) (x : Item) → n < length all → x ≡ get_or all n x
    → Adds old (map item_tree (take n all)) middle → Adds middle (item_tree x ∷ []) new → Adds old (map item_tree (take (n + 1) all)) new
item_next old middle new all n x less is one two =
    subst (λ l. Adds old l new) (sym (mapped_next item_tree all n x less is)) (adds_both old middle new (map item_tree (take n all)) (item_tree x ∷ []) one two)

pub body_item_next : (old middle new : List ObjectNames) (all : List BodyItem) (n : ℕ) (x : BodyItem) → n < length all → x ≡ get_or all n x
    → Adds old (items_among (map body_item_tree (take n all))) middle → Adds middle (items_among (body_item_tree x ∷ [])) new
    → Adds old (items_among (map body_item_tree (take (n + 1) all))) new
body_item_next old middle new all n x less is one two =
    subst (λ l. Adds old l new)
    (sym (ap items_among (mapped_next body_item_tree all n x less is) ∙ among_both (map body_item_tree (take n all)) (body_item_tree x ∷ [])))
    (adds_both old middle new (items_among (map body_item_tree (take n all))) (items_among (body_item_tree x ∷ [])) one two)

pub on_ok : {A E : Type 0} (r : Result A E) (P Q : Type 0) → (P → Q) → OnOk r P → OnOk r Q
on_ok (Ok a) P Q f p = f p
on_ok (Err e) P Q f p = p

-- what is told of an image is told of a named one

pub of_image : (r : Result Named Fault) (P : Sections → Type 0) → IfOk r (λ named. P named.image) → IfOk (imaged r) P
of_image (Ok named) P h = h
of_image (Err fault) P h = tt

pub of_fault : (r : Result Named Fault) (P : Fault → Type 0) → IfErr r P → IfErr (imaged r) P
of_fault (Ok named) P h = tt
of_fault (Err fault) P h = h

pub fault_of : (r : Result Named Fault) (P : Fault → Type 0) → IfErr (imaged r) P → IfErr r P
fault_of (Ok named) P h = tt
fault_of (Err fault) P h = h
