-- What is visible in front of each declaration and body of a package is told by the text alone, as names become visible one by one.
use Rattle.std.proofs.Common.{◌≡◌, ℕ, zero, suc, ◌+◌, ◌≤◌, List, [], ◌∷◌, ◌++◌, append-nil, append_assoc, length, map, take, ◌⊎◌, inl, inr, Option, Some, None, refl, sym, ap, ◌∙◌, subst, arith, length-append}
use Rattle.std.specs.Prelude.{cond, if◌then◌else◌, replicate, slice_get}
use Rattle.ada_tree.specs.ProgramTree.{BodyItemTree, OfItem, PackageTree, ProgramTree, ProtectedBody, SubprogramBody, TaskBody}
use Rattle.types.specs.Entities.{Entity, Operation, ProtectedObject}
use Rattle.types.specs.Places.{or_else}
use Rattle.types.specs.Scopes.{Named, Scope, number_of, standard}
use Rattle.unit_rules.specs.MainRules.{item_name}
use Rattle.declaration_rules.specs.PackageNames.{body_item_scope, body_items_scope, inside_scope, optional_scope}
use Rattle.expr_soundness.specs.meaning.specs.Programs.{program_of}
use Rattle.program_soundness.specs.Fronts.{declared_in, front, scope_at, start_in}
use Rattle.program_soundness.proofs.OneList.{scope_joined}
use Rattle.program_soundness.proofs.Walked.{declares, kept_at, one_of, scope_next, stands_next}
use Rattle.program_soundness.proofs.WiderScopes.{bytes_same, number_stands, stands}
use Rattle.expr_code.specs.Seeing.{told_of}
use Rattle.expr_code.specs.declared.visible.Visible.{Visible}
use Rattle.package_code.specs.Directory.{IsDirectory, IsUnseen, TellsMore, TellsNext, number_told, operations_told}
use Rattle.package_code.specs.Bodies.{number_in}
use Rattle.package_code.specs.Owners.{protected_objects, told_behind_objects, told_operation}
use Rattle.package_code.specs.Refusing.{operation_numbers, seen_at, slot_in, told_behind}
use Rattle.package_code.specs.declared.directory.Directory.{Directory}
use Rattle.package_code.proofs.Told.{Grows, item_grows, subprogram_grows}

-- ---- what is told behind the first names

pub behind_start : {X : Type 0} (tell : List ℕ → Option X) (s : Scope) → told_behind (length s) tell s ≡ replicate (length s) None
behind_start tell [] = refl
behind_start tell (n ∷ s) = ap (λ l. None ∷ l) (behind_start tell s)

pub behind_more : {X : Type 0} (tell : List ℕ → Option X) (first : ℕ) (s : Scope) (n : Named) → first ≤ length s
    → told_behind first tell (s ++ n ∷ []) ≡ told_behind first tell s ++ tell n.name ∷ []
behind_more tell zero [] n h = refl
behind_more tell (suc first) [] n h = absurd (omega (arith, h))
behind_more tell zero (m ∷ s) n h = ap (λ l. tell m.name ∷ l) (behind_more tell zero s n (omega arith))
behind_more tell (suc first) (m ∷ s) n h = ap (λ l. None ∷ l) (behind_more tell first s n (omega (arith, h)))

pub behind_long : {X : Type 0} (tell : List ℕ → Option X) (first : ℕ) (s : Scope) → length (told_behind first tell s) ≡ length s
behind_long tell zero [] = refl
behind_long tell (suc first) [] = refl
behind_long tell zero (n ∷ s) = ap suc (behind_long tell zero s)
behind_long tell (suc first) (n ∷ s) = ap suc (behind_long tell first s)

-- ---- operations of protected objects

objects_same : {X : Type 0} (f g : Option ℕ → List ℕ → Option X) (objects : List ProtectedObject) → ((o : ℕ) (name : List ℕ) → f (Some o) name ≡ g (Some o) name)
    → told_behind_objects f objects ≡ told_behind_objects g objects
objects_same f g [] same = refl
objects_same f g (p ∷ objects) same = λ j. each p.operations j ∷ objects_same f g objects same j
  where
    each : (os : List Operation) → map (told_operation (f (Some p.number))) os ≡ map (told_operation (g (Some p.number))) os
    each [] = refl
    each (q ∷ os) = λ j. (if q.is_entry then None else same p.number q.name j) ∷ each os j

-- the directory tells their numbers
pub operations_are : (t : ProgramTree) (d : Directory) → IsDirectory t d → operations_told (program_of t).scope d ≡ operation_numbers t
operations_are t d is =
    objects_same (number_told (program_of t).scope d) (number_in t) (protected_objects (program_of t).scope) (λ o name. is.operations o name)

-- ---- scopes

pub first_front : (s : Scope) (items : List BodyItemTree) → scope_at s items 0 ≡ s
first_front s [] = refl
first_front s (x ∷ items) = refl

pub whole_scope : (o : Option PackageTree) → body_items_scope (start_in o) (declared_in o) ≡ optional_scope standard o
whole_scope (Some p) = scope_joined (inside_scope standard p) p.declaration.items p.body.items
whole_scope None = refl

-- declarations and bodies add names behind those in front of them
pub one_behind : (s : Scope) (x : BodyItemTree) → (more : Scope) × (body_item_scope s x ≡ s ++ more)
one_behind s (OfItem d) =
    elim (item_grows s d) [ inl e ↦ ([], e ∙ sym (append-nil s)) | inr g ↦ (record { name = (item_name d).name; entity = g.0 } ∷ [], g.1) ]
one_behind s (SubprogramBody d b) =
    elim (subprogram_grows s d) [ inl e ↦ ([], e ∙ sym (append-nil s)) | inr g ↦ (record { name = d.name.name; entity = g.0 } ∷ [], g.1) ]
one_behind s (TaskBody name b) = ([], sym (append-nil s))
one_behind s (ProtectedBody name items end_name) = ([], sym (append-nil s))

pub all_behind : (s : Scope) (items : List BodyItemTree) → (more : Scope) × (body_items_scope s items ≡ s ++ more)
all_behind s [] = ([], sym (append-nil s))
all_behind s (x ∷ items) =
    let one = one_behind s x in
    let rest = all_behind (body_item_scope s x) items in
    (one.0 ++ rest.0, rest.1 ∙ ap (λ l. l ++ rest.0) one.1 ∙ append_assoc s one.0 rest.0)

pub either_some : (o : Option Entity) (e : Entity) → (y : Entity) × (or_else o (Some e) ≡ Some y)
either_some (Some y) e = (y, refl)
either_some None e = (e, refl)

module _ (t : ProgramTree) where
  abbrev start : Scope
  start = start_in t.package_

  abbrev all : List BodyItemTree
  all = declared_in t.package_

  abbrev whole : Scope
  whole = (program_of t).scope

  pub start_fits : (place : ℕ) → length start ≤ length (front t place)
  start_fits place =
      let x = all_behind start (take place all) in
      let e = ap length x.1 ∙ length-append start x.0 in
      fits (length start) (length x.0) (length (front t place)) e
    where
      fits : (a b n : ℕ) → n ≡ a + b → a ≤ n
      fits a b n e = omega (arith, e)

  -- what is visible in front of the package
  pub seen_first : (s : Scope) (operations : List (List (Option ℕ))) (v : Visible) → IsUnseen s operations v → operations ≡ operation_numbers t → s ≡ start
      → v ≡ seen_at t 0
  seen_first s operations v u numbers is =
      λ j. record { scope = scope j; slots = slots j; subprograms = subprograms j; operations = (u.operations ∙ numbers) j }
    where
      begins : start ≡ front t 0
      begins = sym (first_front start all)

      scope : v.scope ≡ front t 0
      scope = u.scope ∙ is ∙ begins

      slots : v.slots ≡ told_behind (length start) (slot_in t None) (front t 0)
      slots =
          u.slots ∙ ap (λ l. replicate (length l) None) is ∙ sym (behind_start (slot_in t None) start)
          ∙ ap (told_behind (length start) (slot_in t None)) begins

      subprograms : v.subprograms ≡ told_behind (length start) (number_in t None) (front t 0)
      subprograms =
          u.subprograms ∙ ap (λ l. replicate (length l) None) is ∙ sym (behind_start (number_in t None) start)
          ∙ ap (told_behind (length start) (number_in t None)) begins

  -- what an item declares is visible behind the package
  pub known_name : (place : ℕ) (i : BodyItemTree) (name : List ℕ) (e : Entity) → slice_get all place ≡ Some i
      → declares (front t place) i ≡ Some (record { name = name; entity = e })
      → (n : ℕ) × (number_of whole name ≡ Some n)
  known_name place i name e at declared =
      let one : one_of (declares (front t place) i) name ≡ Some e =
      ap (λ o. one_of o name) declared ∙ ap (λ b. cond b (Some e) None) (bytes_same name) in
      let y = either_some (stands (front t place) name) e in
      let next : stands (front t (suc place)) name ≡ Some y.0 =
      ap (λ s. stands s name) (scope_next start all place i at) ∙ stands_next (front t place) i name
      ∙ ap (or_else (stands (front t place) name)) one ∙ y.1 in
      let there : stands whole name ≡ Some y.0 =
      ap (λ s. stands s name) (sym (whole_scope t.package_)) ∙ kept_at start all (suc place) name y.0 next in
      let n = number_stands whole name y.0 there in
      (n.0, n.1)

  -- ---- one name more

  module _ (d : Directory) (is : IsDirectory t d) (place : ℕ) (name : List ℕ) (known : (n : ℕ) × (number_of whole name ≡ Some n)) where
    abbrev here : Scope
    here = front t place

    abbrev next : Scope
    next = front t (suc place)

    abbrev mid : Visible
    mid = record (seen_at t place) { scope = next }

    told_more : {X : Type 0} (tell : List ℕ → Option X) (told : Option X) (e : Entity) → next ≡ here ++ record { name = name; entity = e } ∷ []
        → told ≡ tell name
        → told_behind (length start) tell here ++ told ∷ [] ≡ told_behind (length start) tell next
    told_more tell told e grown same =
        ap (λ o. told_behind (length start) tell here ++ o ∷ []) same
        ∙ sym (behind_more tell (length start) here (record { name = name; entity = e }) (start_fits place))
        ∙ ap (told_behind (length start) tell) (sym grown)

    one_long : {X : Type 0} (xs ys : List X) (x : X) (n m : ℕ) → ys ≡ xs ++ x ∷ [] → length xs ≡ n → length ys ≡ m → suc n ≡ m
    one_long xs ys x n m e long wide = (let a = ap length e ∙ length-append xs (x ∷ []) in omega (arith, a, long, wide))

    by_growth : (later : Visible) → TellsNext whole d mid name later → Grows here name next → (later ≡ mid) ⊎ TellsMore whole d mid name later
        → later ≡ seen_at t (suc place)
    by_growth later tells (inl same) (inl kept) =
        λ j. record {
          scope = tells.scope j;
          slots = (ap (λ v. v.slots) kept ∙ ap (told_behind (length start) (slot_in t None)) (sym same)) j;
          subprograms = (ap (λ v. v.subprograms) kept ∙ ap (told_behind (length start) (number_in t None)) (sym same)) j;
          operations = tells.operations j;
        }
    by_growth later tells (inl same) (inr added) =
        absurd (
        let a = one_long mid.slots later.slots (told_of whole d.slots.items name) (length here) (length next) added.slots
        (behind_long (slot_in t None) (length start) here) (tells.entries.slots ∙ ap length tells.scope) in
        let b = ap length same in omega (arith, a, b)
        )
    by_growth later tells (inr grown) (inl kept) =
        absurd (
        let a = sym (ap (λ v. length v.slots) kept ∙ behind_long (slot_in t None) (length start) here) ∙ tells.entries.slots ∙ ap length tells.scope in
        let b = ap length grown.1 ∙ length-append here (record { name = name; entity = grown.0 } ∷ []) in omega (arith, a, b)
        )
    by_growth later tells (inr grown) (inr added) =
        λ j. record {
          scope = tells.scope j;
          slots = (added.slots ∙ told_more (slot_in t None) (told_of whole d.slots.items name) grown.0 grown.1 (is.slots name)) j;
          subprograms = (added.subprograms
              ∙ told_more (number_in t None) (told_of whole d.numbers.items name) grown.0 grown.1 (is.numbers name known.0 known.1)) j;
          operations = tells.operations j;
        }

    pub seen_next : (old later : Visible) (scope : Scope) → old ≡ seen_at t place → scope ≡ next → Grows here name next
        → TellsNext whole d (record old { scope = scope }) name later → later ≡ seen_at t (suc place)
    seen_next old later scope seen goes grows tells =
        let moved : TellsNext whole d mid name later = subst (λ v. TellsNext whole d v name later) (λ j. record (seen j) { scope = goes j }) tells in
        by_growth later moved grows moved.tells
