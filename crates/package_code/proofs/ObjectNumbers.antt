-- The protected objects that are visible behind a package stand in the order of their declarations, each at its number, and so do their rows (RM 9.4, D.3).
use Rattle.std.proofs.Common.{◌≡◌, ℕ, zero, suc, ◌+◌, ◌⊎◌, inl, inr, ◌≤◌, List, [], ◌∷◌, ◌++◌, append-nil, append_assoc, length, map, cond, Bool, true, false, Option, Some, None, refl, sym, ap, ◌∙◌, subst, arith}
use Rattle.std.specs.Prelude.{ℤ, bytes_eq, if◌then◌else◌, nat_eq, nat_le, option_map, slice_get, ⊤}
use Rattle.std.proofs.lemmas.Bool.{and_parts, eqb-true, eq-eqb, leb-true}
use Rattle.std.specs.List.{sum_by}
use Rattle.std.proofs.lemmas.List.{length-append}
use Rattle.std.proofs.lemmas.List.Sums.{sum_by-cons}
use Rattle.ada_tree.specs.StatementTree.{ProtectedTree}
use Rattle.ada_tree.specs.ProgramTree.{BodyItemTree, ItemTree, OfException, OfItem, OfObject, OfProtected, OfSubprogram, OfTask, OfType, ProgramTree, ProtectedBody, SubprogramBody, TaskBody}
use Rattle.base.specs.declared.limits.TheConstants.{CEILING}
use Rattle.image.specs.Code as sections
use Rattle.image.specs.ObjectTable.{ObjectRow}
use Rattle.types.specs.declared.entity.RecordComponent.{RecordComponent}
use Rattle.types.specs.Entities.{Doubtful, Entity, Operation, Protected, ProtectedObject}
use Rattle.types.specs.Places.{Object, ceiling_of, ceiling_or, object_of}
use Rattle.types.specs.Shapes.{value_words}
use Rattle.types.specs.Scopes.{Named, Scope, entity_at, is_visible, one_if_protected, protected_count, protected_of, with_name}
use Rattle.declaration_rules.specs.PackageNames.{body_item_scope, body_items_scope}
use Rattle.declaration_rules.specs.ProtectedRules.{default_ceiling, object_components, object_operations, object_with, protected_entity}
use Rattle.declaration_rules.specs.TaskRules.{priority_of}
use Rattle.expr_soundness.specs.meaning.specs.Programs.{Program, component, components_among, items_among, objects_or_none}
use Rattle.program_soundness.specs.Fronts.{scope_at}
use Rattle.program_soundness.proofs.Listing.{same_some}
use Rattle.program_soundness.proofs.Parted.{CountsNext, counts_item, item_objects}
use Rattle.program_soundness.proofs.Walked.{declared_one, item_new, legal_at, scope_next}
use Rattle.program_soundness.proofs.Whole.{IsPackage, item_stands, no_doubt}
use Rattle.program_soundness.proofs.WiderScopes.{bytes_same, number_stands, stands, unseen_none}
use Rattle.package_code.specs.BareObjects.{BareObject}
use Rattle.package_code.specs.Objects.{bare_object, bare_objects, have_words, objects_have_words, object_row, object_rows, object_words}
use Rattle.package_code.specs.Owners.{one_protected, protected_objects}
use Rattle.package_code.specs.Package.{first_words_of}
use Rattle.package_code.proofs.Declared.{among_both}

-- ---- those among visible names

pub objects_both : (s u : Scope) → protected_objects (s ++ u) ≡ protected_objects s ++ protected_objects u
objects_both [] u = refl
objects_both (n ∷ s) u =
    ap (λ l. one_protected n.entity ++ l) (objects_both s u) ∙ sym (append_assoc (one_protected n.entity) (protected_objects s) (protected_objects u))

pub objects_counted : (s : Scope) → length (protected_objects s) ≡ protected_count s
objects_counted [] = refl
objects_counted (n ∷ s) = by_entity n.entity (objects_counted s)
  where
    by_entity : (e : Entity) → length (protected_objects s) ≡ protected_count s
        → length (one_protected e ++ protected_objects s) ≡ one_if_protected e + protected_count s
    by_entity (Protected o) h = omega (arith, h)
    by_entity e h = omega (arith, h)

-- one that is visible is among them
pub visible_among : (s : Scope) (n : ℕ) (o : ProtectedObject) → entity_at s n ≡ Some (Protected o)
    → (k : ℕ) × (slice_get (protected_objects s) k ≡ Some o)
visible_among [] n o h = cc
visible_among (m ∷ s) zero o h = here m.entity (same_some m.entity (Protected o) h)
  where
    here : (e : Entity) → e ≡ Protected o → (k : ℕ) × (slice_get (one_protected e ++ protected_objects s) k ≡ Some o)
    here e is = (0, ap (λ x. slice_get (one_protected x ++ protected_objects s) 0) is)
visible_among (m ∷ s) (suc n) o h = let k = visible_among s n o h in behind m.entity k.0 k.1
  where
    behind : (e : Entity) (k : ℕ) → slice_get (protected_objects s) k ≡ Some o → (j : ℕ) × (slice_get (one_protected e ++ protected_objects s) j ≡ Some o)
    behind (Protected p) k is = (suc k, is)
    behind e k is = (k, is)

-- the ceiling of the first with a number
abbrev ceiling_among : ℕ → List ProtectedObject → ℕ
ceiling_among n [] = 0
ceiling_among n (o ∷ os) = if nat_eq o.number n then o.ceiling else ceiling_among n os

ceiling_listed : (s : Scope) (n : ℕ) → ceiling_of s n ≡ ceiling_among n (protected_objects s)
ceiling_listed [] n = refl
ceiling_listed (m ∷ s) n = by_entity m.entity (ceiling_listed s n)
  where
    by_entity : (e : Entity) → ceiling_of s n ≡ ceiling_among n (protected_objects s)
        → ceiling_or n e (ceiling_of s n) ≡ ceiling_among n (one_protected e ++ protected_objects s)
    by_entity (Protected o) h = ap (λ k. if nat_eq o.number n then o.ceiling else k) h
    by_entity e h = h

-- ---- those that are declared

abbrev pub trees_among : List ItemTree → List ProtectedTree
trees_among [] = []
trees_among (OfProtected d ∷ rest) = d ∷ trees_among rest
trees_among (d ∷ rest) = trees_among rest

pub trees_both : (xs ys : List ItemTree) → trees_among (xs ++ ys) ≡ trees_among xs ++ trees_among ys
trees_both [] ys = refl
trees_both (OfProtected d ∷ xs) ys = ap (λ l. d ∷ l) (trees_both xs ys)
trees_both (OfType d ∷ xs) ys = trees_both xs ys
trees_both (OfObject d ∷ xs) ys = trees_both xs ys
trees_both (OfException name ∷ xs) ys = trees_both xs ys
trees_both (OfSubprogram d ∷ xs) ys = trees_both xs ys
trees_both (OfTask d ∷ xs) ys = trees_both xs ys

pub bare_of : (s : Scope) (items : List ItemTree) → bare_objects s items ≡ map (bare_object s) (trees_among items)
bare_of s [] = refl
bare_of s (OfProtected d ∷ xs) = ap (λ l. bare_object s d ∷ l) (bare_of s xs)
bare_of s (OfType d ∷ xs) = bare_of s xs
bare_of s (OfObject d ∷ xs) = bare_of s xs
bare_of s (OfException name ∷ xs) = bare_of s xs
bare_of s (OfSubprogram d ∷ xs) = bare_of s xs
bare_of s (OfTask d ∷ xs) = bare_of s xs

abbrev pub components_in : Scope → ProtectedTree → List Object
components_in s d = map (component s) d.components

pub components_of : (s : Scope) (items : List ItemTree) → components_among s items ≡ map (components_in s) (trees_among items)
components_of s [] = refl
components_of s (OfProtected d ∷ xs) = ap (λ l. components_in s d ∷ l) (components_of s xs)
components_of s (OfType d ∷ xs) = components_of s xs
components_of s (OfObject d ∷ xs) = components_of s xs
components_of s (OfException name ∷ xs) = components_of s xs
components_of s (OfSubprogram d ∷ xs) = components_of s xs
components_of s (OfTask d ∷ xs) = components_of s xs

-- ---- their rows

abbrev bare_ceiling : Option BareObject → ℕ
bare_ceiling (Some x) = x.ceiling
bare_ceiling None = 0

abbrev bare_words : Option BareObject → List ℤ
bare_words (Some x) = x.words
bare_words None = []

module _ (t : ProgramTree) where
  -- what a row has of its object
  pub row_there : (from : ℕ) (xs : List BareObject) (n : ℕ) → slice_get (object_rows t from xs) n ≡ option_map (object_row t (from + n)) (slice_get xs n)
  row_there from [] n = refl
  row_there from (x ∷ xs) zero = (let none : from ≡ from + 0 = omega arith in ap (λ o. Some (object_row t o x)) none)
  row_there from (x ∷ xs) (suc n) =
      (let next : suc from + n ≡ from + suc n = omega arith in
      row_there (suc from) xs n ∙ ap (λ o. option_map (object_row t o) (slice_get xs n)) next)

  pub many_of : (from : ℕ) (xs : List BareObject) → length (object_rows t from xs) ≡ length xs
  many_of from [] = refl
  many_of from (x ∷ xs) = ap suc (many_of (suc from) xs)

  ceiling_at : (from : ℕ) (xs : List BareObject) (n : ℕ) → sections.ceiling_of (slice_get (object_rows t from xs) n) ≡ bare_ceiling (slice_get xs n)
  ceiling_at from [] n = refl
  ceiling_at from (x ∷ xs) zero = refl
  ceiling_at from (x ∷ xs) (suc n) = ceiling_at (suc from) xs n

  words_at : (from : ℕ) (xs : List BareObject) (n : ℕ) → sections.initial_words_of (slice_get (object_rows t from xs) n) ≡ bare_words (slice_get xs n)
  words_at from [] n = refl
  words_at from (x ∷ xs) zero = refl
  words_at from (x ∷ xs) (suc n) = words_at (suc from) xs n

  -- the words of the row at a number are those of the components of the object with the number
  pub row_words : (s : Scope) (items : List ItemTree) (n : ℕ)
      → sections.initial_words_of (slice_get (object_rows t 0 (bare_objects s items)) n) ≡ first_words_of (objects_or_none (slice_get (components_among s items) n))
  row_words s items n =
      words_at 0 (bare_objects s items) n ∙ ap (λ l. bare_words (slice_get l n)) (bare_of s items) ∙ among (trees_among items) n
      ∙ ap (λ l. first_words_of (objects_or_none (slice_get l n))) (sym (components_of s items))
    where
      among : (ds : List ProtectedTree) (k : ℕ)
          → bare_words (slice_get (map (bare_object s) ds) k) ≡ first_words_of (objects_or_none (slice_get (map (components_in s) ds) k))
      among [] k = refl
      among (d ∷ ds) zero = refl
      among (d ∷ ds) (suc k) = among ds k

-- each component has a word at least, where all have
parts_wide : (xs : List Object) (name : List ℕ) (x : Object) → have_words xs ≡ true → object_of xs name ≡ Some x → 1 ≤ length (value_words x.value)
parts_wide [] name x h found = cc
parts_wide (y ∷ xs) name x h found =
    let both = and_parts (nat_le 1 (length (value_words y.value))) (have_words xs) h in
    by_test (bytes_eq y.name name) (leb-true 1 (length (value_words y.value)) both.0) (parts_wide xs name x both.1) found
  where
    by_test : (b : Bool) → 1 ≤ length (value_words y.value) → (object_of xs name ≡ Some x → 1 ≤ length (value_words x.value))
        → cond b (Some y) (object_of xs name) ≡ Some x → 1 ≤ length (value_words x.value)
    by_test true wide later e = subst (λ z. 1 ≤ length (value_words z.value)) (same_some y x e) wide
    by_test false wide later e = later e

pub components_wide : (s : Scope) (items : List ItemTree) (o : ℕ) (name : List ℕ) (x : Object) → objects_have_words s items ≡ true
    → object_of (objects_or_none (slice_get (components_among s items) o)) name ≡ Some x → 1 ≤ length (value_words x.value)
components_wide s [] o name x h found = cc
components_wide s (OfProtected d ∷ items) zero name x h found =
    parts_wide (map (component s) d.components) name x (and_parts (have_words (map (component s) d.components)) (objects_have_words s items) h).0 found
components_wide s (OfProtected d ∷ items) (suc o) name x h found =
    components_wide s items o name x (and_parts (have_words (map (component s) d.components)) (objects_have_words s items) h).1 found
components_wide s (OfType d ∷ items) o name x h found = components_wide s items o name x h found
components_wide s (OfObject d ∷ items) o name x h found = components_wide s items o name x h found
components_wide s (OfException e ∷ items) o name x h found = components_wide s items o name x h found
components_wide s (OfSubprogram d ∷ items) o name x h found = components_wide s items o name x h found
components_wide s (OfTask d ∷ items) o name x h found = components_wide s items o name x h found

-- the words of all rows are those of all components
pub rows_words : (t : ProgramTree) (from : ℕ) (s : Scope) (items : List ItemTree)
    → sum_by (λ o. length o.words) (object_rows t from (bare_objects s items)) ≡ object_words s items
rows_words t from s [] = refl
rows_words t from s (OfProtected d ∷ xs) =
    let first = sum_by-cons (λ (o : ObjectRow). length o.words) (object_row t from (bare_object s d)) (object_rows t (suc from) (bare_objects s xs)) in
    let rest = rows_words t (suc from) s xs in
    omega (arith, first, rest)
rows_words t from s (OfType d ∷ xs) = rows_words t from s xs
rows_words t from s (OfObject d ∷ xs) = rows_words t from s xs
rows_words t from s (OfException name ∷ xs) = rows_words t from s xs
rows_words t from s (OfSubprogram d ∷ xs) = rows_words t from s xs
rows_words t from s (OfTask d ∷ xs) = rows_words t from s xs

-- Each is what its name stands for behind the package, and they are numbered from this one on.
abbrev pub AreDeclared : (whole : Scope) → (from : ℕ) → List ProtectedTree → List ProtectedObject → Type 0
AreDeclared whole from [] [] = ⊤
AreDeclared whole from (d ∷ ds) (o ∷ os) = (stands whole d.name.name ≡ Some (Protected o)) × (o.number ≡ from) × AreDeclared whole (suc from) ds os
AreDeclared whole from ds os = ⊥

module _ (whole : Scope) where
  declared_both : (from : ℕ) (ds es : List ProtectedTree) (os ps : List ProtectedObject) → AreDeclared whole from ds os
      → AreDeclared whole (from + length os) es ps
      → AreDeclared whole from (ds ++ es) (os ++ ps)
  declared_both from [] es [] ps h k = subst (λ n. AreDeclared whole n es ps) (let none : from + 0 ≡ from = omega arith in none) k
  declared_both from (d ∷ ds) es (o ∷ os) ps h k = (
    h.0,
    h.1,
    declared_both (suc from) ds es os ps h.2
        (subst (λ n. AreDeclared whole n es ps) (let same : from + suc (length os) ≡ suc from + length os = omega arith in same) k),
  )
  declared_both from [] es (o ∷ os) ps h k = absurd h
  declared_both from (d ∷ ds) es [] ps h k = absurd h

  -- each has the number of its place
  number_there : (from : ℕ) (ds : List ProtectedTree) (os : List ProtectedObject) → AreDeclared whole from ds os → (k : ℕ) (o : ProtectedObject)
      → slice_get os k ≡ Some o → o.number ≡ from + k
  number_there from [] [] h k o at = cc
  number_there from (d ∷ ds) (p ∷ os) h zero o at = ap (λ z. z.number) (sym (same_some p o at)) ∙ h.1 ∙ omega arith
  number_there from (d ∷ ds) (p ∷ os) h (suc k) o at = let n = number_there (suc from) ds os h.2 k o at in omega (arith, n)
  number_there from [] (p ∷ os) h k o at = absurd h
  number_there from (d ∷ ds) [] h k o at = absurd h

  as_many : (from : ℕ) (ds : List ProtectedTree) (os : List ProtectedObject) → AreDeclared whole from ds os → length ds ≡ length os
  as_many from [] [] h = refl
  as_many from (d ∷ ds) (o ∷ os) h = ap suc (as_many (suc from) ds os h.2)
  as_many from [] (o ∷ os) h = absurd h
  as_many from (d ∷ ds) [] h = absurd h

  -- the ceiling of the one with a number is that of the row there
  ceilings_among : (from : ℕ) (ds : List ProtectedTree) (os : List ProtectedObject) → AreDeclared whole from ds os → (n k : ℕ) → n ≡ from + k
      → ceiling_among n os ≡ bare_ceiling (slice_get (map (bare_object whole) ds) k)
  ceilings_among from [] [] h n k is = refl
  ceilings_among from (d ∷ ds) (o ∷ os) h n zero is =
      let same : o.number ≡ n = h.1 ∙ omega (arith, is) in
      ap (λ b. if b then o.ceiling else ceiling_among n os) (eq-eqb o.number n same)
      ∙ sym (ap (λ e. elim (protected_of e) [ Some p ↦ p.ceiling | None ↦ 0 ]) h.0)
  ceilings_among from (d ∷ ds) (o ∷ os) h n (suc k) is =
      by_test (nat_eq o.number n) refl (ceilings_among (suc from) ds os h.2 n k (omega (arith, is)))
    where
      by_test : (b : Bool) → nat_eq o.number n ≡ b
          → ceiling_among n os ≡ bare_ceiling (slice_get (map (bare_object whole) ds) k)
          → (if b then o.ceiling else ceiling_among n os) ≡ bare_ceiling (slice_get (map (bare_object whole) ds) k)
      by_test true e later = absurd (let same = eqb-true o.number n e in let first = h.1 in omega (arith, same, first, is))
      by_test false e later = later
  ceilings_among from [] (o ∷ os) h n k is = absurd h
  ceilings_among from (d ∷ ds) [] h n k is = absurd h

  -- ... and its own
  own_ceiling : (from : ℕ) (ds : List ProtectedTree) (os : List ProtectedObject) → AreDeclared whole from ds os → (n k : ℕ) → n ≡ from + k
      → (o : ProtectedObject) → slice_get os k ≡ Some o → ceiling_among n os ≡ o.ceiling
  own_ceiling from [] [] h n k is p at = cc
  own_ceiling from (d ∷ ds) (o ∷ os) h n zero is p at =
      let same : o.number ≡ n = h.1 ∙ omega (arith, is) in
      ap (λ b. if b then o.ceiling else ceiling_among n os) (eq-eqb o.number n same) ∙ ap (λ z. z.ceiling) (same_some o p at)
  own_ceiling from (d ∷ ds) (o ∷ os) h n (suc k) is p at =
      by_test (nat_eq o.number n) refl (own_ceiling (suc from) ds os h.2 n k (omega (arith, is)) p at)
    where
      by_test : (b : Bool) → nat_eq o.number n ≡ b → ceiling_among n os ≡ p.ceiling → (if b then o.ceiling else ceiling_among n os) ≡ p.ceiling
      by_test true e later = absurd (let same = eqb-true o.number n e in let first = h.1 in omega (arith, same, first, is))
      by_test false e later = later
  own_ceiling from [] (o ∷ os) h n k is p at = absurd h
  own_ceiling from (d ∷ ds) [] h n k is p at = absurd h

-- ---- what one declaration or body adds

-- what a declaration of an object declares is one, or doubtful
one_declared : (number ceiling : ℕ) (a : Option (List Operation)) (b : Option (List RecordComponent)) → (object_with number ceiling a b ≡ Doubtful → ⊥)
    → (o : ProtectedObject) × (object_with number ceiling a b ≡ Protected o) × (o.number ≡ number)
one_declared number ceiling (Some a) (Some b) known =
    (record { number = number; ceiling = ceiling; operations = a; components = b; barrier = None }, refl, refl)
one_declared number ceiling (Some a) None known = absurd (known refl)
one_declared number ceiling None b known = absurd (known refl)

-- one name more at most, where the scope is another
abbrev AddsOne : Scope → Scope → Type 0
AddsOne s u = (u ≡ s) ⊎ ((x : Named) × (u ≡ s ++ x ∷ []))

name_added : (s : Scope) (name : List ℕ) (e : Entity) → AddsOne s (with_name s name e)
name_added s name e = by_test (is_visible s name)
  where
    by_test : (b : Bool) → AddsOne s (cond b s (s ++ record { name = name; entity = e } ∷ []))
    by_test true = inl refl
    by_test false = inr (record { name = name; entity = e }, refl)

item_added : (s : Scope) (i : BodyItemTree) → AddsOne s (body_item_scope s i)
item_added s (OfItem (OfType d)) = name_added s d.name.name _
item_added s (OfItem (OfObject d)) = name_added s d.name.name _
item_added s (OfItem (OfException name)) = name_added s name.name _
item_added s (OfItem (OfSubprogram d)) = name_added s d.name.name _
item_added s (OfItem (OfTask d)) = name_added s d.name.name _
item_added s (OfItem (OfProtected d)) = name_added s d.name.name _
item_added s (SubprogramBody d b) = name_added s d.name.name _
item_added s (TaskBody name b) = inl refl
item_added s (ProtectedBody name items end_name) = inl refl

-- where no more are counted there are no more
same_objects : (s u : Scope) → AddsOne s u → protected_count u ≡ protected_count s + 0 → protected_objects u ≡ protected_objects s ++ []
same_objects s u (inl same) counted = ap protected_objects same ∙ sym (append-nil (protected_objects s))
same_objects s u (inr x) counted =
    ap protected_objects x.1 ∙ objects_both s (x.0 ∷ []) ∙ by_entity x.0.entity (ap protected_count (sym x.1) ∙ counted)
  where
    by_entity : (e : Entity) → protected_count (s ++ record { name = x.0.name; entity = e } ∷ []) ≡ protected_count s + 0
        → protected_objects s ++ (one_protected e ++ []) ≡ protected_objects s ++ []
    by_entity (Protected o) h =
        let named : Named = record { name = x.0.name; entity = Protected o } in
        let all = objects_counted (s ++ named ∷ []) in
        let own = objects_counted s in
        let both = ap length (objects_both s (named ∷ [])) in
        let long = length-append (protected_objects s) (protected_objects (named ∷ [])) in
        let one : length (protected_objects (named ∷ [])) ≡ 1 = refl in
        absurd (omega (arith, h, all, own, both, long, one))
    by_entity e h = refl

module _ (program : Program) (s : Scope) (all : List BodyItemTree) (w : IsPackage program s all) where
  abbrev whole : Scope
  whole = program.scope

  abbrev at_ : ℕ → Scope
  at_ k = scope_at s all k

  module _ (k : ℕ) (d : ProtectedTree) (at : slice_get all k ≡ Some (OfItem (OfProtected d))) where
    abbrev here : Scope
    here = at_ k

    new : is_visible here d.name.name ≡ false
    new = item_new here (OfProtected d) (legal_at s all k (OfItem (OfProtected d)) at w.list.legal)

    stands_there : (e : Entity) → protected_entity here d ≡ e → stands whole d.name.name ≡ Some e
    stands_there e is =
        item_stands program s all w k (OfItem (OfProtected d)) d.name.name e at (unseen_none here d.name.name new)
        (ap (λ b. cond b (Some (protected_entity here d)) None) (bytes_same d.name.name) ∙ ap Some is)

    pub object_there : (o : ProtectedObject) × (protected_entity here d ≡ Protected o) × (o.number ≡ protected_count here)
    object_there =
        one_declared (protected_count here) (priority_of here CEILING (default_ceiling d.operations) d.aspect) (object_operations here d.operations)
        (object_components here d.components) (λ is. no_doubt program s all w d.name.name (stands_there Doubtful is))

  counts : (k : ℕ) (i : BodyItemTree) → slice_get all k ≡ Some i → CountsNext (at_ k) i
  counts k i at =
      counts_item (at_ k) i (legal_at s all k i at w.list.legal)
      (λ d is. let o = object_there k d (at ∙ ap Some is) in (o.0, o.1)) (λ x h. declared_one (at_ k) i x h)

  -- the objects that one item adds, and their declarations
  abbrev Adds : (u v : Scope) → List ProtectedTree → Type 0
  Adds u v ds = (os : List ProtectedObject) × (protected_objects v ≡ protected_objects u ++ os) × AreDeclared whole (protected_count u) ds os

  none_more : (k : ℕ) (i : BodyItemTree) → slice_get all k ≡ Some i → item_objects i ≡ 0 → Adds (at_ k) (body_item_scope (at_ k) i) []
  none_more k i at none = (
    [],
    same_objects (at_ k) (body_item_scope (at_ k) i) (item_added (at_ k) i) (counts k i at ∙ ap (λ n. protected_count (at_ k) + n) none),
    tt,
  )

  one_more : (k : ℕ) (d : ProtectedTree) → slice_get all k ≡ Some (OfItem (OfProtected d)) → Adds (at_ k) (body_item_scope (at_ k) (OfItem (OfProtected d))) (d ∷ [])
  one_more k d at =
      let o = object_there k d at in
      let named : Named = record { name = d.name.name; entity = protected_entity (at_ k) d } in (
        o.0 ∷ [],
        ap (λ b. protected_objects (cond b (at_ k) (at_ k ++ named ∷ []))) (new k d at) ∙ objects_both (at_ k) (named ∷ [])
            ∙ ap (λ e. protected_objects (at_ k) ++ (one_protected e ++ [])) o.1,
        (stands_there k d at (Protected o.0) o.1, o.2, tt),
      )

  item_adds : (k : ℕ) (i : BodyItemTree) → slice_get all k ≡ Some i → Adds (at_ k) (body_item_scope (at_ k) i) (trees_among (items_among (i ∷ [])))
  item_adds k (OfItem (OfProtected d)) at = one_more k d at
  item_adds k (OfItem (OfType d)) at = none_more k (OfItem (OfType d)) at refl
  item_adds k (OfItem (OfObject d)) at = none_more k (OfItem (OfObject d)) at refl
  item_adds k (OfItem (OfException name)) at = none_more k (OfItem (OfException name)) at refl
  item_adds k (OfItem (OfSubprogram d)) at = none_more k (OfItem (OfSubprogram d)) at refl
  item_adds k (OfItem (OfTask d)) at = none_more k (OfItem (OfTask d)) at refl
  item_adds k (SubprogramBody d b) at = none_more k (SubprogramBody d b) at refl
  item_adds k (TaskBody name b) at = none_more k (TaskBody name b) at refl
  item_adds k (ProtectedBody name items end_name) at = none_more k (ProtectedBody name items end_name) at refl

  from_place : (xs : List BodyItemTree) (k : ℕ) → ((j : ℕ) → slice_get all (k + j) ≡ slice_get xs j)
      → Adds (at_ k) (body_items_scope (at_ k) xs) (trees_among (items_among xs))
  from_place [] k at = ([], sym (append-nil (protected_objects (at_ k))), tt)
  from_place (x ∷ xs) k at =
      let zero_ : k + 0 ≡ k = omega arith in
      let there : slice_get all k ≡ Some x = ap (slice_get all) (sym zero_) ∙ at 0 in
      let one = item_adds k x there in
      let rest = from_place xs (suc k) (λ j. ap (slice_get all) (let same : suc k + j ≡ k + suc j = omega arith in same) ∙ at (suc j)) in
      let next = scope_next s all k x there in
      let first : protected_objects (at_ (suc k)) ≡ protected_objects (at_ k) ++ one.0 = ap protected_objects next ∙ one.1 in
      let counted : protected_count (at_ (suc k)) ≡ protected_count (at_ k) + length one.0 =
      sym (objects_counted (at_ (suc k))) ∙ ap length first ∙ length-append (protected_objects (at_ k)) one.0
      ∙ ap (λ n. n + length one.0) (objects_counted (at_ k)) in (
        one.0 ++ rest.0,
        ap (λ u. protected_objects (body_items_scope u xs)) (sym next) ∙ rest.1 ∙ ap (λ l. l ++ rest.0) first
            ∙ append_assoc (protected_objects (at_ k)) one.0 rest.0,
        subst (λ ds. AreDeclared whole (protected_count (at_ k)) ds (one.0 ++ rest.0))
            (sym (ap trees_among (among_both (x ∷ []) xs) ∙ trees_both (items_among (x ∷ [])) (items_among xs)))
            (declared_both whole (protected_count (at_ k)) (trees_among (items_among (x ∷ []))) (trees_among (items_among xs)) one.0 rest.0 one.2
            (subst (λ n. AreDeclared whole n (trees_among (items_among xs)) rest.0) counted rest.2)),
      )

  -- ---- all of them

  abbrev declared : List ProtectedTree
  declared = trees_among (items_among all)

  abbrev objects : List ProtectedObject
  objects = protected_objects whole

  start_is : at_ 0 ≡ s
  start_is = by_items all
    where
      by_items : (xs : List BodyItemTree) → scope_at s xs 0 ≡ s
      by_items [] = refl
      by_items (x ∷ xs) = refl

  no_first : (l : List ProtectedObject) → length l ≡ 0 → l ≡ []
  no_first [] h = refl
  no_first (o ∷ l) h = absurd (omega (arith, h))

  pub all_declared : AreDeclared whole 0 declared objects
  all_declared =
      let found = from_place all 0 (λ j. ap (slice_get all) (let same : 0 + j ≡ j = omega arith in same)) in
      let none : protected_objects (at_ 0) ≡ [] = ap protected_objects start_is ∙ no_first (protected_objects s) (objects_counted s ∙ w.unprotected) in
      let is : objects ≡ found.0 =
      ap protected_objects (sym w.scope ∙ ap (λ u. body_items_scope u all) (sym start_is)) ∙ found.1 ∙ ap (λ l. l ++ found.0) none in
      subst (λ n. AreDeclared whole n declared objects) (ap protected_count start_is ∙ w.unprotected)
      (subst (AreDeclared whole (protected_count (at_ 0)) declared) (sym is) found.2)

  -- one that is visible stands at its number
  pub at_number : (name : List ℕ) (o : ProtectedObject) → stands whole name ≡ Some (Protected o) → slice_get objects o.number ≡ Some o
  at_number name o h =
      let n = number_stands whole name (Protected o) h in
      let k = visible_among whole n.0 o n.2 in
      let numbered = number_there whole 0 declared objects all_declared k.0 o k.1 in
      ap (slice_get objects) (let same : o.number ≡ k.0 = omega (arith, numbered) in same) ∙ k.1

  -- the ceiling of its number is its own
  pub ceiling_is : (name : List ℕ) (o : ProtectedObject) → stands whole name ≡ Some (Protected o) → ceiling_of whole o.number ≡ o.ceiling
  ceiling_is name o h =
      ceiling_listed whole o.number ∙ own_ceiling whole 0 declared objects all_declared o.number o.number (omega arith) o (at_number name o h)

  pub ceiling_row : (t : ProgramTree) (n : ℕ)
      → ceiling_of whole n ≡ sections.ceiling_of (slice_get (object_rows t 0 (bare_objects whole (items_among all))) n)
  ceiling_row t n =
      ceiling_listed whole n ∙ ceilings_among whole 0 declared objects all_declared n n (omega arith)
      ∙ ap (λ l. bare_ceiling (slice_get l n)) (sym (bare_of whole (items_among all))) ∙ sym (ceiling_at t 0 (bare_objects whole (items_among all)) n)

  -- as many rows as objects
  pub many_rows : (t : ProgramTree) → length (object_rows t 0 (bare_objects whole (items_among all))) ≡ protected_count whole
  many_rows t =
      many_of t 0 (bare_objects whole (items_among all)) ∙ ap length (bare_of whole (items_among all)) ∙ mapped declared
      ∙ as_many whole 0 declared objects all_declared ∙ objects_counted whole
    where
      mapped : (ds : List ProtectedTree) → length (map (bare_object whole) ds) ≡ length ds
      mapped [] = refl
      mapped (d ∷ ds) = ap suc (mapped ds)
