-- Each variable of an accepted program has a place of its own: its name is visible behind the package, and no variable in front of it has it.
use Rattle.std.proofs.Common.{◌≡◌, ℕ, ◌+◌, List, [], ◌∷◌, ◌++◌, append-nil, append_assoc, length, map, take, Bool, true, false, ◌&&◌, Option, Some, None, refl, sym, ap, ◌∙◌, subst}
use Rattle.std.specs.Prelude.{bytes_eq, if◌then◌else◌, is_none, is_some, slice_get}
use Rattle.std.proofs.lemmas.Bool.{and_from, or_right}
use Rattle.std.proofs.Math.Seq.{take-append_seam}
use Rattle.ada_tree.specs.StatementTree.{ObjectTree}
use Rattle.ada_tree.specs.ProgramTree.{BodyItemTree, ItemTree, OfItem, OfObject, PackageTree, ProgramTree}
use Rattle.image.specs.declared.instruction.Region.TheVariants as regions
use Rattle.types.specs.Places.{or_else}
use Rattle.types.specs.Scopes.{Scope, is_visible, number_of}
use Rattle.types.specs.Shapes.{value_words}
use Rattle.declaration_rules.specs.PackageNames.{body_item_scope, body_items_scope}
use Rattle.program_soundness.specs.legality.specs.ProgramRules.{IsLegal}
use Rattle.ravenscar.specs.ProgramRules.{IsRestricted}
use Rattle.expr_soundness.specs.meaning.specs.Programs.{items_among, object_named, package_items, program_of, variables_among}
use Rattle.program_soundness.specs.Fronts.{declared_in, front, start_in}
use Rattle.program_soundness.specs.BodyLaws.{PremisesHold}
use Rattle.program_soundness.proofs.Trees.{tree_package}
use Rattle.program_soundness.proofs.Walked.{item_entity, item_new, kept_all, legal_at, stands_next}
use Rattle.program_soundness.proofs.WiderScopes.{bytes_same, same_bytes, some_seen, stands}
use Rattle.expr_code.specs.declared.visible.Slot.{Slot}
use Rattle.package_code.specs.Globals.{are_placed, is_placed}
use Rattle.package_code.specs.Laws.{VariablesArePlaced}
use Rattle.package_code.specs.Package.{place_among}
use Rattle.package_code.proofs.Declared.{among_both}
use Rattle.package_code.proofs.Seen.{either_some, known_name}

-- ---- a variable among declarations is visible behind them

behind_own : (u : Scope) (d : ObjectTree) (rest : List BodyItemTree) → is_visible (body_items_scope u (OfItem (OfObject d) ∷ rest)) d.name.name ≡ true
behind_own u d rest =
    let e = item_entity u (OfObject d) in
    let y = either_some (stands u d.name.name) e in
    let one : stands (body_item_scope u (OfItem (OfObject d))) d.name.name ≡ Some y.0 =
    stands_next u (OfItem (OfObject d)) d.name.name
    ∙ ap (λ b. or_else (stands u d.name.name) (if b then Some e else None)) (bytes_same d.name.name) ∙ y.1 in
    some_seen (body_items_scope u (OfItem (OfObject d) ∷ rest)) d.name.name y.0 (kept_all (body_item_scope u (OfItem (OfObject d))) rest d.name.name y.0 one)

-- what holds of the others holds of a variable in front of them
abbrev SeesLater : (s next : Scope) → (rest : List BodyItemTree) → (name : List ℕ) → Type 0
SeesLater s next rest name =
    (from : ℕ) → is_some (place_among from (variables_among s (items_among rest)) name) ≡ true → is_visible (body_items_scope next rest) name ≡ true

variable_named : (s u : Scope) (from : ℕ) (d : ObjectTree) (rest : List BodyItemTree) (name : List ℕ)
    → SeesLater s (body_item_scope u (OfItem (OfObject d))) rest name → (b : Bool) → bytes_eq d.name.name name ≡ b
    → is_some (if b then Some (let w : Slot = record { region = regions.Plain; offset = from } in w)
    else place_among (from + length (value_words (object_named s d.name d.subtype d.value).value)) (variables_among s (items_among rest)) name) ≡ true
    → is_visible (body_items_scope (body_item_scope u (OfItem (OfObject d))) rest) name ≡ true
variable_named s u from d rest name later true e k =
    subst (λ n. is_visible (body_items_scope (body_item_scope u (OfItem (OfObject d))) rest) n ≡ true) (same_bytes d.name.name name e) (behind_own u d rest)
variable_named s u from d rest name later false e k = later (from + length (value_words (object_named s d.name d.subtype d.value).value)) k

variable_seen : (s u : Scope) (from : ℕ) (d : ObjectTree) (rest : List BodyItemTree) (name : List ℕ)
    → SeesLater s (body_item_scope u (OfItem (OfObject d))) rest name → (constant : Bool)
    → is_some (place_among from ((if constant then [] else object_named s d.name d.subtype d.value ∷ []) ++ variables_among s (items_among rest)) name) ≡ true
    → is_visible (body_items_scope (body_item_scope u (OfItem (OfObject d))) rest) name ≡ true
variable_seen s u from d rest name later true k = later from k
variable_seen s u from d rest name later false k = variable_named s u from d rest name later (bytes_eq d.name.name name) refl k

placed_seen : (s u : Scope) (from : ℕ) (before : List BodyItemTree) (name : List ℕ)
    → is_some (place_among from (variables_among s (items_among before)) name) ≡ true → is_visible (body_items_scope u before) name ≡ true
placed_seen s u from [] name h = cc
placed_seen s u from (OfItem (OfObject d) ∷ rest) name h =
    variable_seen s u from d rest name (λ f k. placed_seen s (body_item_scope u (OfItem (OfObject d))) f rest name k) d.constant h
placed_seen s u from (x ∷ rest) name h = placed_seen s (body_item_scope u x) from rest name h

-- ---- declarations among items

items_joined : (ds : List ItemTree) (body : List BodyItemTree) → ds ++ items_among body ≡ items_among (map OfItem ds ++ body)
items_joined [] body = refl
items_joined (d ∷ ds) body = ap (λ l. d ∷ l) (items_joined ds body)

pub items_are : (o : Option PackageTree) → package_items o ≡ items_among (declared_in o)
items_are (Some p) = items_joined p.declaration.items p.body.items
items_are None = refl

there : {X : Type 0} (xs ys : List X) (x : X) → slice_get (xs ++ x ∷ ys) (length xs) ≡ Some x
there [] ys x = refl
there (y ∷ xs) ys x = there xs ys x

module _ (premises : PremisesHold) (t : ProgramTree) (legal : IsLegal t) (restricted : IsRestricted t) where
  abbrev s : Scope
  s = (program_of t).scope

  abbrev start : Scope
  start = start_in t.package_

  abbrev all : List BodyItemTree
  all = declared_in t.package_

  placed : (before rest : List BodyItemTree) (d : ObjectTree) → all ≡ before ++ OfItem (OfObject d) ∷ rest
      → (is_some (number_of s d.name.name) && is_none (place_among 0 (variables_among s (items_among before)) d.name.name)) ≡ true
  placed before rest d split = by_number (number_of s d.name.name) refl
    where
      k : ℕ
      k = length before

      at : slice_get all k ≡ Some (OfItem (OfObject d))
      at = ap (λ l. slice_get l k) split ∙ there before rest (OfItem (OfObject d))

      taken : take k all ≡ before
      taken = ap (take k) split ∙ take-append_seam before (OfItem (OfObject d) ∷ rest)

      new : is_visible (front t k) d.name.name ≡ false
      new =
          item_new (front t k) (OfObject d)
          (legal_at start all k (OfItem (OfObject d)) at (tree_package t legal restricted (premises t legal).sound).list.legal)

      not_placed : (o : Option Slot) → place_among 0 (variables_among s (items_among before)) d.name.name ≡ o → is_none o ≡ true
      not_placed None e = refl
      not_placed (Some x) e =
          absurd (let bad = sym new ∙ ap (λ l. is_visible (body_items_scope start l) d.name.name) taken
          ∙ placed_seen s start 0 before d.name.name (ap is_some e) in cc)

      by_number : (o : Option ℕ) → number_of s d.name.name ≡ o
          → (is_some (number_of s d.name.name) && is_none (place_among 0 (variables_among s (items_among before)) d.name.name)) ≡ true
      by_number None e =
          absurd (let n = known_name t k (OfItem (OfObject d)) d.name.name (item_entity (front t k) (OfObject d)) at refl in
          let bad = sym e ∙ n.1 in cc)
      by_number (Some n) e =
          ap (λ o. is_some o && is_none (place_among 0 (variables_among s (items_among before)) d.name.name)) e
          ∙ not_placed (place_among 0 (variables_among s (items_among before)) d.name.name) refl

  one_placed : (before rest : List BodyItemTree) (i : ItemTree) → all ≡ before ++ OfItem i ∷ rest → is_placed s (items_among before) i ≡ true
  one_placed before rest (OfObject d) split =
      or_right d.constant (is_some (number_of s d.name.name) && is_none (place_among 0 (variables_among s (items_among before)) d.name.name))
      (placed before rest d split)
  one_placed before rest i split = refl

  step : (before rest : List BodyItemTree) (x : BodyItemTree) → all ≡ before ++ x ∷ rest → all ≡ (before ++ x ∷ []) ++ rest
  step before rest x split = split ∙ sym (append_assoc before (x ∷ []) rest)

  all_placed : (before rest : List BodyItemTree) → all ≡ before ++ rest → are_placed s (items_among before) (items_among rest) ≡ true
  all_placed before [] split = refl
  all_placed before (OfItem i ∷ rest) split =
      and_from (is_placed s (items_among before) i) (are_placed s (items_among before ++ i ∷ []) (items_among rest)) (one_placed before rest i split)
      (subst (λ l. are_placed s l (items_among rest) ≡ true) (among_both before (OfItem i ∷ []))
      (all_placed (before ++ OfItem i ∷ []) rest (step before rest (OfItem i) split)))
  all_placed before (x ∷ rest) split =
      subst (λ l. are_placed s l (items_among rest) ≡ true) (among_both before (x ∷ []) ∙ append-nil (items_among before))
      (all_placed (before ++ x ∷ []) rest (step before rest x split))

pub variables_are_placed : PremisesHold → VariablesArePlaced
variables_are_placed premises t legal restricted =
    subst (λ l. are_placed (program_of t).scope [] l ≡ true) (sym (items_are t.package_))
    (all_placed premises t legal restricted [] (declared_in t.package_) refl)
