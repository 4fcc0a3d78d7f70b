-- Each exception of an accepted program is found by its name, since no two of them have one name (RM 8.3, 11.1).
use Rattle.std.proofs.Common.{◌≡◌, ℕ, zero, suc, ◌<◌, ◌≤◌, List, [], ◌∷◌, ◌++◌, append-nil, append_assoc, length, take, cond, Bool, true, false, ◌||◌, Some, None, Option, refl, sym, ap, ◌∙◌, subst, arith, ◌⊎◌, inl, inr}
use Rattle.std.specs.Prelude.{bytes_eq, if◌then◌else◌, option_map, position, slice_get}
use Rattle.std.proofs.Math.Seq.{take-append_seam}
use Rattle.base.specs.Exceptions.{name_of}
use Rattle.base.specs.Names.{predefined}
use Rattle.base.specs.declared.exceptions.PredefinedException.TheVariants.{ConstraintError, ProgramError, StorageError, TaskingError}
use Rattle.ada_tree.specs.declared.expression.Identifier.{Identifier}
use Rattle.ada_tree.specs.ProgramTree.{BodyItemTree, OfException, OfItem, PackageTree, ProgramTree}
use Rattle.image.specs.Texts.{text_at}
use Rattle.types.specs.Entities.{Exception, LibraryUnit}
use Rattle.types.specs.Places.{or_else}
use Rattle.types.specs.Scopes.{Scope, is_visible, standard}
use Rattle.declaration_rules.specs.PackageNames.{body_item_scope, body_items_scope, clauses_scope}
use Rattle.program_soundness.specs.legality.specs.ProgramRules.{IsLegal}
use Rattle.program_soundness.specs.legality.proofs.Made.{NoUnits, Times, Io, TimesIo, IoTimes, Units, clauses_seen, seen}
use Rattle.ravenscar.specs.ProgramRules.{IsRestricted}
use Rattle.expr_soundness.specs.meaning.specs.Programs.{exception_name, exception_number, exceptions_among, items_among, program_of}
use Rattle.program_soundness.specs.step_soundness.specs.Objects.{IsException}
use Rattle.step_simulation.specs.part_code.specs.Raising.{AreNamed}
use Rattle.program_soundness.specs.BodyLaws.{PremisesHold}
use Rattle.program_soundness.specs.Fronts.{declared_in, front, start_in}
use Rattle.program_soundness.proofs.Trees.{tree_package}
use Rattle.program_soundness.proofs.Listing.{first_some}
use Rattle.program_soundness.proofs.Walked.{item_new, kept_all, legal_at, stands_next}
use Rattle.program_soundness.proofs.WiderScopes.{bytes_same, one_named, same_bytes, some_seen, stands, stands_with}
use Rattle.expr_soundness.proofs.Positions.{first_place, place_is}
use Rattle.package_code.proofs.Differing.{AreDiffering, differing_more, is_of, of_both}
use Rattle.package_code.proofs.Placed.{items_are}
use Rattle.package_code.proofs.Seen.{either_some}

either_true : (a b : Bool) (C : Type 0) → (a || b) ≡ true → (a ≡ true → C) → (b ≡ true → C) → C
either_true true b C h left right = left refl
either_true false b C h left right = right h

-- ---- a text among texts that differ is found at its place

is_at : (xs : List (List ℕ)) (n : ℕ) → n < length xs → is_of xs (text_at xs n) ≡ true
is_at [] n less = absurd (omega (arith, less))
is_at (x ∷ xs) zero less = ap (λ b. b || is_of xs x) (bytes_same x)
is_at (x ∷ xs) (suc n) less = later (bytes_eq (text_at xs n) x) (is_of xs (text_at xs n)) (is_at xs n (omega (arith, less)))
  where
    later : (a b : Bool) → b ≡ true → (a || b) ≡ true
    later true b h = refl
    later false b h = h

find : (xs : List (List ℕ)) (n : ℕ) → AreDiffering xs → n < length xs → position (bytes_eq (text_at xs n)) xs ≡ Some n
find [] n differ less = absurd (omega (arith, less))
find (x ∷ xs) zero differ less =
    place_is (bytes_eq x) (x ∷ xs) ∙ ap (λ b. cond b (Some 0) (option_map suc (first_place (bytes_eq x) xs))) (bytes_same x)
find (x ∷ xs) (suc n) differ less =
    place_is (bytes_eq (text_at xs n)) (x ∷ xs)
    ∙ ap (λ b. cond b (Some 0) (option_map suc (first_place (bytes_eq (text_at xs n)) xs))) (other (bytes_eq (text_at xs n) x) refl)
    ∙ ap (option_map suc) (sym (place_is (bytes_eq (text_at xs n)) xs) ∙ find xs n differ.1 (omega (arith, less)))
  where
    other : (b : Bool) → bytes_eq (text_at xs n) x ≡ b → bytes_eq (text_at xs n) x ≡ false
    other false e = e
    other true e =
        absurd (let bad = sym differ.0 ∙ ap (is_of xs) (sym (same_bytes (text_at xs n) x e)) ∙ is_at xs n (omega (arith, less)) in cc)

-- ---- the predefined ones are visible in front of the package

predefined_seen : (s : Scope) → stands s (name_of ConstraintError) ≡ Some Exception → stands s (name_of ProgramError) ≡ Some Exception
    → stands s (name_of StorageError) ≡ Some Exception
    → stands s (name_of TaskingError) ≡ Some Exception
    → (q : List ℕ) → is_of predefined q ≡ true → stands s q ≡ Some Exception
predefined_seen s a b c d q h =
    either_true (bytes_eq q (name_of ConstraintError)) _ (stands s q ≡ Some Exception) h (by (name_of ConstraintError) a)
    (λ h1. either_true (bytes_eq q (name_of ProgramError)) _ (stands s q ≡ Some Exception) h1 (by (name_of ProgramError) b)
    (λ h2. either_true (bytes_eq q (name_of StorageError)) _ (stands s q ≡ Some Exception) h2 (by (name_of StorageError) c)
    (λ h3. either_true (bytes_eq q (name_of TaskingError)) false (stands s q ≡ Some Exception) h3 (by (name_of TaskingError) d) (λ h4. absurd (let never : false ≡ true = h4 in cc)))))
  where
    by : (name : List ℕ) → stands s name ≡ Some Exception → bytes_eq q name ≡ true → stands s q ≡ Some Exception
    by name there e = ap (stands s) (same_bytes q name e) ∙ there

units_seen : (u : Units) (q : List ℕ) → is_of predefined q ≡ true → stands (seen u) q ≡ Some Exception
units_seen NoUnits q h = predefined_seen (seen NoUnits) refl refl refl refl q h
units_seen Times q h = predefined_seen (seen Times) refl refl refl refl q h
units_seen Io q h = predefined_seen (seen Io) refl refl refl refl q h
units_seen TimesIo q h = predefined_seen (seen TimesIo) refl refl refl refl q h
units_seen IoTimes q h = predefined_seen (seen IoTimes) refl refl refl refl q h

start_seen : (o : Option PackageTree) (q : List ℕ) → is_of predefined q ≡ true → stands (start_in o) q ≡ Some Exception
start_seen None q h = units_seen NoUnits q h
start_seen (Some p) q h =
    let units = clauses_seen NoUnits p.clauses in
    let front = ap (λ s. stands s q) units.1 ∙ units_seen units.0 q h in
    stands_with (clauses_scope standard p.clauses) p.declaration.name.name LibraryUnit q
    ∙ first_some (stands (clauses_scope standard p.clauses) q) (one_named (record { name = p.declaration.name.name; entity = LibraryUnit }) q) Exception front

-- ---- those that are declared are visible behind their declarations

own_seen : (u : Scope) (name : Identifier) (rest : List BodyItemTree) → is_visible (body_items_scope u (OfItem (OfException name) ∷ rest)) name.name ≡ true
own_seen u name rest =
    let y = either_some (stands u name.name) Exception in
    let one : stands (body_item_scope u (OfItem (OfException name))) name.name ≡ Some y.0 =
    stands_next u (OfItem (OfException name)) name.name
    ∙ ap (λ b. or_else (stands u name.name) (if b then Some Exception else None)) (bytes_same name.name) ∙ y.1 in
    some_seen (body_items_scope u (OfItem (OfException name) ∷ rest)) name.name y.0
    (kept_all (body_item_scope u (OfItem (OfException name))) rest name.name y.0 one)

declared_seen : (u : Scope) (before : List BodyItemTree) (q : List ℕ) → is_of (exceptions_among (items_among before)) q ≡ true
    → is_visible (body_items_scope u before) q ≡ true
declared_seen u [] q h = cc
declared_seen u (OfItem (OfException name) ∷ rest) q h =
    either_true (bytes_eq q name.name) (is_of (exceptions_among (items_among rest)) q)
    (is_visible (body_items_scope (body_item_scope u (OfItem (OfException name))) rest) q ≡ true) h
    (λ e.
    subst (λ n. is_visible (body_items_scope (body_item_scope u (OfItem (OfException name))) rest) n ≡ true) (sym (same_bytes q name.name e)) (own_seen u name rest))
    (λ k. declared_seen (body_item_scope u (OfItem (OfException name))) rest q k)
declared_seen u (x ∷ rest) q h = declared_seen (body_item_scope u x) rest q h

declared_both : (xs ys : List BodyItemTree) → exceptions_among (items_among (xs ++ ys)) ≡ exceptions_among (items_among xs) ++ exceptions_among (items_among ys)
declared_both [] ys = refl
declared_both (OfItem (OfException name) ∷ xs) ys = ap (λ l. name.name ∷ l) (declared_both xs ys)
declared_both (x ∷ xs) ys = declared_both xs ys

there : {X : Type 0} (xs ys : List X) (x : X) → slice_get (xs ++ x ∷ ys) (length xs) ≡ Some x
there [] ys x = refl
there (y ∷ xs) ys x = there xs ys x

module _ (premises : PremisesHold) (t : ProgramTree) (legal : IsLegal t) (restricted : IsRestricted t) where
  abbrev start : Scope
  start = start_in t.package_

  abbrev all : List BodyItemTree
  all = declared_in t.package_

  -- those in front of a place
  abbrev so_far : List BodyItemTree → List (List ℕ)
  so_far before = predefined ++ exceptions_among (items_among before)

  so_far_seen : (before : List BodyItemTree) (q : List ℕ) → is_of (so_far before) q ≡ true → is_visible (body_items_scope start before) q ≡ true
  so_far_seen before q h =
      either_true (is_of predefined q) (is_of (exceptions_among (items_among before)) q) (is_visible (body_items_scope start before) q ≡ true)
      (sym (of_both predefined (exceptions_among (items_among before)) q) ∙ h)
      (λ k. some_seen (body_items_scope start before) q Exception (kept_all start before q Exception (start_seen t.package_ q k)))
      (λ k. declared_seen start before q k)

  new : (before rest : List BodyItemTree) (name : Identifier) → all ≡ before ++ OfItem (OfException name) ∷ rest → is_of (so_far before) name.name ≡ false
  new before rest name split = by_test (is_of (so_far before) name.name) refl
    where
      k : ℕ
      k = length before

      at : slice_get all k ≡ Some (OfItem (OfException name))
      at = ap (λ l. slice_get l k) split ∙ there before rest (OfItem (OfException name))

      taken : take k all ≡ before
      taken = ap (take k) split ∙ take-append_seam before (OfItem (OfException name) ∷ rest)

      unseen : is_visible (front t k) name.name ≡ false
      unseen =
          item_new (front t k) (OfException name)
          (legal_at start all k (OfItem (OfException name)) at (tree_package t legal restricted (premises t legal).sound).list.legal)

      by_test : (b : Bool) → is_of (so_far before) name.name ≡ b → is_of (so_far before) name.name ≡ false
      by_test false e = e
      by_test true e =
          absurd (let bad = sym unseen ∙ ap (λ l. is_visible (body_items_scope start l) name.name) taken ∙ so_far_seen before name.name e in cc)

  step : (before rest : List BodyItemTree) (x : BodyItemTree) → all ≡ before ++ x ∷ rest → all ≡ (before ++ x ∷ []) ++ rest
  step before rest x split = split ∙ sym (append_assoc before (x ∷ []) rest)

  walk : (before rest : List BodyItemTree) → all ≡ before ++ rest → AreDiffering (so_far before) → AreDiffering (so_far all)
  walk before [] split differ = subst (λ l. AreDiffering (so_far l)) (sym (split ∙ append-nil before)) differ
  walk before (OfItem (OfException name) ∷ rest) split differ =
      let own = OfItem (OfException name) in
      walk (before ++ own ∷ []) rest (step before rest own split)
      (subst AreDiffering
      (append_assoc predefined (exceptions_among (items_among before)) (name.name ∷ []) ∙ ap (λ l. predefined ++ l) (sym (declared_both before (own ∷ []))))
      (differing_more (so_far before) name.name differ (new before rest name split)))
  walk before (x ∷ rest) split differ =
      walk (before ++ x ∷ []) rest (step before rest x split)
      (subst AreDiffering
      (ap (λ l. predefined ++ l) (sym (declared_both before (x ∷ []) ∙ append-nil (exceptions_among (items_among before))))) differ)

  differ : AreDiffering (program_of t).exceptions
  differ =
      subst (λ l. AreDiffering (predefined ++ exceptions_among l)) (sym (items_are t.package_)) (walk [] all refl (refl, (refl, (refl, (refl, tt)))))

  named : (x : ℕ) → IsException (program_of t) x → exception_number (program_of t) (exception_name (program_of t) x) ≡ Some x
  named zero h = absurd (let less = h.0 in omega (arith, less))
  named (suc n) h = ap (option_map suc) (find (program_of t).exceptions n differ (within h.1))
    where
      within : (suc n ≤ 4) ⊎ (suc n ≤ length (program_of t).exceptions) → n < length (program_of t).exceptions
      within (inl few) = omega (arith, few)
      within (inr less) = less

pub exceptions_are_named : PremisesHold → (t : ProgramTree) → IsLegal t → IsRestricted t → AreNamed (program_of t)
exceptions_are_named premises t legal restricted x h = named premises t legal restricted x h
