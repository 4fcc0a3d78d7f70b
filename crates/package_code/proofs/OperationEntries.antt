-- Entries of operations one behind another, in the order of their bodies.
use Rattle.std.proofs.Common.{◌≡◌, ℕ, zero, suc, ◌+◌, ◌<◌, ◌≤◌, List, [], ◌∷◌, ◌++◌, append-nil, append_assoc, get_or, length, map, take, refl, sym, ap, ◌∙◌, arith}
use Rattle.std.proofs.lemmas.List.{length-map}
use Rattle.ada_tree.specs.declared.program.BodyItem.{BodyItem}
use Rattle.ada_tree.specs.declared.program.ProtectedBodyItem.{ProtectedBodyItem}
use Rattle.ada_tree.specs.ProgramTree.{BodyItemTree, ProtectedItemTree, body_item_tree, protected_item_tree}
use Rattle.types.specs.Scopes.{Scope}
use Rattle.step_simulation.specs.part_code.proofs.Lists.{mapped_next}
use Rattle.package_code.specs.Bodies.{bodies_among, own_name}
use Rattle.package_code.specs.Directory.{entries_among, entries_in, entries_of}
use Rattle.package_code.specs.declared.operations.OperationNumber.{OperationNumber}
use Rattle.package_code.proofs.Coded.{among_first, among_joined}

taken_long : {X : Type 0} (n : ℕ) (xs : List X) → n ≤ length xs → length (take n xs) ≡ n
taken_long zero [] up = refl
taken_long zero (x ∷ xs) up = refl
taken_long (suc n) [] up = absurd (omega (arith, up))
taken_long (suc n) (x ∷ xs) up = ap suc (taken_long n xs (omega (arith, up)))

abbrev entry_of : (object : ℕ) → ProtectedItemTree → (number : ℕ) → OperationNumber
entry_of o i n = record { object = o; name = own_name i; number = n }

entries_more : (o first : ℕ) (xs : List ProtectedItemTree) (x : ProtectedItemTree)
    → entries_of o first (xs ++ x ∷ []) ≡ entries_of o first xs ++ entry_of o x (first + length xs) ∷ []
entries_more o first [] x = (let e : first ≡ first + 0 = omega arith in ap (λ n. entry_of o x n ∷ []) e)
entries_more o first (y ∷ xs) x =
    let e : suc first + length xs ≡ first + suc (length xs) = omega arith in
    ap (λ l. entry_of o y first ∷ l) (entries_more o (suc first) xs x ∙ ap (λ n. entries_of o (suc first) xs ++ entry_of o x n ∷ []) e)

-- one operation of the object more
pub entries_next : (o first : ℕ) (old mid new : List OperationNumber) (all : List ProtectedBodyItem) (n : ℕ) (x : ProtectedBodyItem) (next : ℕ)
    (name : List ℕ) → n < length all → x ≡ get_or all n x
    → mid ≡ old ++ entries_of o first (map protected_item_tree (take n all)) → next ≡ first + n
    → name ≡ own_name (protected_item_tree x) → new ≡ mid ++ record { object = o; name = name; number = next } ∷ []
    → new ≡ old ++ entries_of o first (map protected_item_tree (take (n + 1) all))
entries_next o first old mid new all n x next name less is before counted named after =
    let front : List ProtectedItemTree = map protected_item_tree (take n all) in
    let long : length front ≡ n = length-map (take n all) protected_item_tree ∙ taken_long n all (omega (arith, less)) in
    let same : next ≡ first + length front = omega (arith, counted, long) in
    after ∙ (λ j. before j ++ record { object = o; name = named j; number = same j } ∷ [])
    ∙ append_assoc old (entries_of o first front) (entry_of o (protected_item_tree x) (first + length front) ∷ [])
    ∙ ap (λ l. old ++ l) (sym (entries_more o first front (protected_item_tree x)))
    ∙ ap (λ l. old ++ entries_of o first l) (sym (mapped_next protected_item_tree all n x less is))

entries_both : (s : Scope) (first : ℕ) (xs ys : List BodyItemTree)
    → entries_among s first (xs ++ ys) ≡ entries_among s first xs ++ entries_among s (first + bodies_among xs) ys
entries_both s first [] ys = (let e : first ≡ first + 0 = omega arith in ap (λ n. entries_among s n ys) e)
entries_both s first (x ∷ xs) ys =
    let sum = among_first x xs in
    let e : (first + bodies_among (x ∷ [])) + bodies_among xs ≡ first + bodies_among (x ∷ xs) = omega (arith, sum) in
    ap (λ l. entries_in s first x ++ l)
    (entries_both s (first + bodies_among (x ∷ [])) xs ys
    ∙ ap (λ n. entries_among s (first + bodies_among (x ∷ [])) xs ++ entries_among s n ys) e)
    ∙ sym (append_assoc (entries_in s first x) (entries_among s (first + bodies_among (x ∷ [])) xs) (entries_among s (first + bodies_among (x ∷ xs)) ys))

-- one item of a package's body more
pub items_entered : (s : Scope) (all : List BodyItem) (n : ℕ) (x : BodyItem) (old new : List OperationNumber) (next later : ℕ) → n < length all
    → x ≡ get_or all n x
    → old ≡ entries_among s 0 (map body_item_tree (take n all)) → next ≡ bodies_among (map body_item_tree (take n all))
    → new ≡ old ++ entries_in s next (body_item_tree x) → later ≡ next + bodies_among (body_item_tree x ∷ [])
    → (new ≡ entries_among s 0 (map body_item_tree (take (n + 1) all))) × (later ≡ bodies_among (map body_item_tree (take (n + 1) all)))
items_entered s all n x old new next later less is h counted more goes =
    let front : List BodyItemTree = map body_item_tree (take n all) in
    let one : List BodyItemTree = body_item_tree x ∷ [] in
    let same = sym (mapped_next body_item_tree all n x less is) in
    let joined = among_joined front one in
    let count : later ≡ bodies_among (front ++ one) = omega (arith, goes, counted, joined) in
    let place : next ≡ 0 + bodies_among front = omega (arith, counted) in (
      more ∙ (λ j. h j ++ entries_in s (place j) (body_item_tree x))
          ∙ ap (λ l. entries_among s 0 front ++ l) (sym (append-nil (entries_in s (0 + bodies_among front) (body_item_tree x))))
          ∙ sym (entries_both s 0 front one) ∙ ap (entries_among s 0) same,
      count ∙ ap bodies_among same,
    )
