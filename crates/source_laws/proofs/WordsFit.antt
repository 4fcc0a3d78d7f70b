-- The words of the variables of a legal program are among those that its sizes count.
use Rattle.std.proofs.Common.{◌≡◌, ℕ, zero, suc, ◌+◌, ◌<◌, ◌≤◌, List, [], ◌∷◌, ◌++◌, append_assoc, length, length-append, take, cond, Bool, true, false, Some, refl, sym, ap, ◌∙◌, subst, arith, take_all}
use Rattle.std.specs.Prelude.{slice_get}
use Rattle.ada_tree.specs.StatementTree.{ObjectTree}
use Rattle.ada_tree.specs.ProgramTree.{BodyItemTree, OfItem, OfObject, ProgramTree}
use Rattle.types.specs.declared.entity.Role.TheVariants as role
use Rattle.types.specs.Entities as entity
use Rattle.types.specs.Laws.{ValuesHaveWords}
use Rattle.types.specs.Layouts.{total, words_of}
use Rattle.types.specs.Places.{Object}
use Rattle.types.specs.Scopes.{Scope}
use Rattle.types.specs.Shapes.{shape_of, value_words}
use Rattle.meaning.specs.expr_rules.proofs.TypedLaw.{front_empty}
use Rattle.meaning.specs.type_rules.specs.ObjectRules.{constant_entity, initial_scalar, object_entity, package_object_entity}
use Rattle.meaning.specs.type_rules.specs.SubtypeNames.{declared_twice, subtype_faults, subtype_of}
use Rattle.legality.specs.ProgramLayouts.{variable_words, variables_words}
use Rattle.legality.specs.ProgramRules.{IsLegal}
use Rattle.ravenscar.specs.ProgramRules.{IsRestricted}
use Rattle.meaning.specs.Programs.{Program, items_among, object_named, program_of, variables_among}
use Rattle.expr_soundness.proofs.Parts.{subtype_values}
use Rattle.program_soundness.specs.step_soundness.specs.Objects.{AreSoundObjects}
use Rattle.program_soundness.specs.Fronts.{declared_in, front, start_in}
use Rattle.program_soundness.proofs.BodyProfiles.{named_is, subtype_kept}
use Rattle.program_soundness.proofs.Listing.{taken_next}
use Rattle.program_soundness.proofs.Walked.{item_new, legal_at, scope_next}
use Rattle.program_soundness.proofs.Whole.{IsPackage, kept, known_subtype}
use Rattle.package_code.specs.Package.{first_words_of}
use Rattle.package_code.proofs.Declared.{among_both}
use Rattle.package_code.proofs.InFront.{LawsOfNames, last_is, memory, whole}
use Rattle.package_code.proofs.Seen.{one_behind}
use Rattle.package_code.proofs.Variables.{variables_both}

pub some_at : (items : List BodyItemTree) (k : ℕ) → k < length items → (x : BodyItemTree) × (slice_get items k ≡ Some x)
some_at [] k h = absurd (omega (arith, h))
some_at (x ∷ items) zero h = (x, refl)
some_at (x ∷ items) (suc k) h = some_at items k (omega (arith, h))

pub none_taken : (items : List BodyItemTree) → take 0 items ≡ []
none_taken [] = refl
none_taken (x ∷ items) = refl

-- the words of the subtypes of these objects
abbrev pub subtypes_words : Scope → List Object → ℕ
subtypes_words s [] = 0
subtypes_words s (x ∷ xs) = words_of s x.subtype + subtypes_words s xs

subtypes_both : (s : Scope) (xs ys : List Object) → subtypes_words s (xs ++ ys) ≡ subtypes_words s xs + subtypes_words s ys
subtypes_both s [] ys = omega arith
subtypes_both s (x ∷ xs) ys = (let rest = subtypes_both s xs ys in omega (arith, rest))

pub first_words_wide : ValuesHaveWords → (s : Scope) (xs : List Object) → AreSoundObjects s xs → length (first_words_of xs) ≡ subtypes_words s xs
first_words_wide sized s [] sound = refl
first_words_wide sized s (x ∷ xs) sound =
    let one = (sized (shape_of s x.subtype) x.value (subtype_values s x.subtype x.value ∙ sound.0)).sized in
    let rest = first_words_wide sized s xs sound.1 in
    let both = length-append (value_words x.value) (first_words_of xs) in
    omega (arith, one, rest, both)

total_both : (ws vs : List ℕ) → total (ws ++ vs) ≡ total ws + total vs
total_both [] vs = omega arith
total_both (w ∷ ws) vs = (let e = total_both ws vs in omega (arith, e))

words_both : (s xs ys : Scope) → variables_words s (xs ++ ys) ≡ variables_words s xs ++ variables_words s ys
words_both s [] ys = refl
words_both s (n ∷ xs) ys =
    ap (λ l. variable_words s n.entity ++ l) (words_both s xs ys)
    ∙ sym (append_assoc (variable_words s n.entity) (variables_words s xs) (variables_words s ys))

total_more : (s xs ys : Scope) → total (variables_words s (xs ++ ys)) ≡ total (variables_words s xs) + total (variables_words s ys)
total_more s xs ys = ap total (words_both s xs ys) ∙ total_both (variables_words s xs) (variables_words s ys)

pub grows_to : (a b n : ℕ) → n ≡ a + b → 0 + a ≤ n
grows_to a b n e = omega (arith, e)

module _ (laws : LawsOfNames) (t : ProgramTree) (legal : IsLegal t) (restricted : IsRestricted t) where
  abbrev program : Program
  program = program_of t

  abbrev s : Scope
  s = program.scope

  abbrev start : Scope
  start = start_in t.package_

  abbrev all : List BodyItemTree
  all = declared_in t.package_

  abbrev w : IsPackage program start all
  w = whole laws t legal restricted

  abbrev seen_words : (place : ℕ) → ℕ
  seen_words place = total (variables_words s (front t place))

  longer : (k : ℕ) (x : BodyItemTree) → slice_get all k ≡ Some x → 0 + seen_words k ≤ seen_words (suc k)
  longer k x at =
      let more = one_behind (front t k) x in
      grows_to (seen_words k) (total (variables_words s more.0)) (seen_words (suc k))
      (ap (λ u. total (variables_words s u)) (scope_next start all k x at ∙ more.1) ∙ total_more s (front t k) more.0)

  object_added : (k : ℕ) (d : ObjectTree) → slice_get all k ≡ Some (OfItem (OfObject d)) → d.constant ≡ false
      → words_of s (object_named s d.name d.subtype d.value).subtype + seen_words k ≤ seen_words (suc k)
  object_added k d at constant =
      let here : Scope = front t k in
      let unbroken_ = legal_at start all k (OfItem (OfObject d)) at w.list.legal in
      let u = known_subtype program start all w k d.subtype
      (front_empty (subtype_faults here d.subtype) _ (front_empty _ (declared_twice here d.name) unbroken_)) in
      let named = named_is s d.subtype u.0 (subtype_kept here s (kept program start all w k) d.subtype u.0 u.1) in
      let declared : package_object_entity here d ≡ entity.Object role.Variable u.0 =
      ap
      (λ b. elim b [ true ↦ constant_entity (subtype_of here d.subtype) (initial_scalar here (subtype_of here d.subtype) d.value) | false ↦ object_entity role.Variable (subtype_of here d.subtype) ]) constant
      ∙ ap (object_entity role.Variable) u.1 in
      let next : front t (suc k) ≡ here ++ record { name = d.name.name; entity = entity.Object role.Variable u.0 } ∷ [] =
      scope_next start all k (OfItem (OfObject d)) at
      ∙ ap (λ b. cond b here (here ++ record { name = d.name.name; entity = package_object_entity here d } ∷ [])) (item_new here (OfObject d) unbroken_)
      ∙ ap (λ e. here ++ record { name = d.name.name; entity = e } ∷ []) declared in
      let words : seen_words (suc k) ≡ seen_words k + (words_of s u.0 + 0) =
      ap (λ v. total (variables_words s v)) next ∙ total_more s here (record { name = d.name.name; entity = entity.Object role.Variable u.0 } ∷ []) in
      let same : words_of s (object_named s d.name d.subtype d.value).subtype ≡ words_of s u.0 = ap (words_of s) named in
      under (words_of s (object_named s d.name d.subtype d.value).subtype) (words_of s u.0) (seen_words k) (seen_words (suc k)) same words
    where
      under : (a b c n : ℕ) → a ≡ b → n ≡ c + (b + 0) → a + c ≤ n
      under a b c n e h = omega (arith, e, h)

  one_added : (k : ℕ) (x : BodyItemTree) → slice_get all k ≡ Some x
      → subtypes_words s (variables_among s (items_among (x ∷ []))) + seen_words k ≤ seen_words (suc k)
  one_added k (OfItem (OfObject d)) at = by_constant d.constant refl
    where
      one : (a c n : ℕ) → a + c ≤ n → (a + 0) + c ≤ n
      one a c n h = omega (arith, h)

      by_constant : (b : Bool) → d.constant ≡ b
          → subtypes_words s ((cond b [] (object_named s d.name d.subtype d.value ∷ [])) ++ []) + seen_words k ≤ seen_words (suc k)
      by_constant true e = longer k (OfItem (OfObject d)) at
      by_constant false e = one (words_of s (object_named s d.name d.subtype d.value).subtype) (seen_words k) (seen_words (suc k)) (object_added k d at e)
  one_added k x at = longer k x at

  all_added : (k : ℕ) → k ≤ length all → subtypes_words s (variables_among s (items_among (take k all))) ≤ seen_words k
  all_added zero up =
      subst (λ l. subtypes_words s (variables_among s (items_among l)) ≤ seen_words zero) (sym (none_taken all)) (omega arith)
  all_added (suc k) up =
      let x = some_at all k (omega (arith, up)) in
      let before = all_added k (omega (arith, up)) in
      let one = one_added k x.0 x.1 in
      let split =
      ap (λ l. subtypes_words s (variables_among s l)) (ap items_among (taken_next all k x.0 x.1) ∙ among_both (take k all) (x.0 ∷ []))
      ∙ ap (subtypes_words s) (variables_both s (items_among (take k all)) (items_among (x.0 ∷ [])))
      ∙ subtypes_both s (variables_among s (items_among (take k all))) (variables_among s (items_among (x.0 ∷ []))) in
      under (subtypes_words s (variables_among s (items_among (take (suc k) all)))) (subtypes_words s (variables_among s (items_among (take k all))))
      (subtypes_words s (variables_among s (items_among (x.0 ∷ [])))) (seen_words k) (seen_words (suc k)) split before one
    where
      under : (n a b c d : ℕ) → n ≡ a + b → a ≤ c → b + c ≤ d → n ≤ d
      under n a b c d e h k = omega (arith, e, h, k)

  -- the variables have no more words than those that are counted
  pub variables_within : length (first_words_of program.variables) ≤ total (variables_words s s)
  variables_within =
      let wide = first_words_wide laws.sized s program.variables (memory laws t legal restricted).variables in
      let same : subtypes_words s program.variables ≡ subtypes_words s (variables_among s (items_among (take (length all) all))) =
      ap (subtypes_words s) w.variables ∙ ap (λ l. subtypes_words s (variables_among s (items_among l))) (sym (take_all (length all) all (omega arith))) in
      let added = all_added (length all) (omega arith) in
      let last : seen_words (length all) ≡ total (variables_words s s) = ap (λ u. total (variables_words s u)) (last_is laws t legal restricted) in
      under (length (first_words_of program.variables)) (subtypes_words s program.variables)
      (subtypes_words s (variables_among s (items_among (take (length all) all)))) (seen_words (length all)) (total (variables_words s s))
      wide same added last
    where
      under : (a b c d e : ℕ) → a ≡ b → b ≡ c → c ≤ d → d ≡ e → a ≤ e
      under a b c d e h k m n = omega (arith, h, k, m, n)
