-- What statements need hangs on which objects have words and in which region, and not on where these are in the frame.
use Rattle.std.proofs.Common.{◌≡◌, ℕ, zero, suc, ◌+◌, List, [], ◌∷◌, ◌++◌, Bool, true, false, ◌&&◌, Option, None, Some, refl, ap, ◌∙◌}
use Rattle.std.specs.Prelude.{is_some, option_map, ⊤, if◌then◌else◌}
use Rattle.ada_tree.specs.declared.declaration.Mode.{Mode}
use Rattle.ada_tree.specs.declared.declaration.Mode.TheVariants as mode
use Rattle.ada_tree.specs.ExpressionTree as tree
use Rattle.ada_tree.specs.ExpressionTree.{ArgumentTree, ArgumentTrees, ElsifValueTrees, ExprTree, MoreArguments, MoreElsifValues, NameTree, Named, NoArguments, NoElsifValues}
use Rattle.image.specs.declared.instruction.Region.{Region}
use Rattle.types.specs.declared.entity.FormalParameter.{FormalParameter}
use Rattle.types.specs.declared.entity.Role.TheVariants as role
use Rattle.types.specs.declared.standing.Standing.{Standing}
use Rattle.types.specs.declared.standing.Standing.TheVariants as standing
use Rattle.types.specs.Entities.{Profile}
use Rattle.types.specs.Scopes.{number_of}
use Rattle.types.specs.Standings.{stands_first, standing_of}
use Rattle.expr_code.specs.Entries.{entry_at}
use Rattle.expr_code.specs.Seeing.{external_profile, profile_named, slot_of}
use Rattle.expr_code.specs.declared.visible.Slot.{Slot}
use Rattle.expr_code.specs.declared.visible.Visible.{Visible}
use Rattle.part_code.specs.EntryNames.{is_own_entry}
use Rattle.part_code.specs.step_soundness.specs.Fitting.{entity_named}
use Rattle.part_code.specs.Lines.{LabelledValue, line_of}
use Rattle.part_code.specs.Moving.{are_moved, is_moved, moves, names_composite, source_at, source_by, variable_at}
use Rattle.part_code.specs.Needs.{actual_needs, actuals_needs, address_needs, assignment_needs, bare_needs, behind_needs, both, call_needs, called_needs, copies_needs, copy_needs, destination_at, destinations_for, destinations_if, destinations_named, destinations_of, line_needs, move_needs, moves_needs, needs_above, needs_by, passed_needs, stacked, through_needs}
use Rattle.part_code.specs.Passing.{ExternalName, actuals_behind, copied_width, operation_behind}
use Rattle.part_code.specs.Suiting.{passed_width}
use Rattle.part_code.specs.declared.call.Destination.{Destination}
use Rattle.ada_tree.specs.Size.{total}

-- ---- the same words in the same regions

abbrev pub region_of : Option Slot → Option Region
region_of o = option_map (λ x. x.region) o

abbrev pub AreAlike : List (Option Slot) → List (Option Slot) → Type 0
AreAlike [] [] = ⊤
AreAlike (x ∷ xs) (y ∷ ys) = (region_of x ≡ region_of y) × AreAlike xs ys
AreAlike xs ys = ⊥

pub alike_itself : (xs : List (Option Slot)) → AreAlike xs xs
alike_itself [] = tt
alike_itself (x ∷ xs) = (refl, alike_itself xs)

pub alike_more : (xs ys : List (Option Slot)) (x y : Option Slot) → AreAlike xs ys → region_of x ≡ region_of y → AreAlike (xs ++ x ∷ []) (ys ++ y ∷ [])
alike_more [] [] x y h e = (e, tt)
alike_more (a ∷ xs) (b ∷ ys) x y h e = (h.0, alike_more xs ys x y h.1 e)
alike_more [] (b ∷ ys) x y h e = absurd h
alike_more (a ∷ xs) [] x y h e = absurd h

abbrev at_number : List (Option Slot) → Option ℕ → Option Slot
at_number all o = elim o [ None ↦ None | Some n ↦ entry_at all n ]

entry_alike : (xs ys : List (Option Slot)) (n : ℕ) → AreAlike xs ys → region_of (entry_at xs n) ≡ region_of (entry_at ys n)
entry_alike [] [] n h = refl
entry_alike (x ∷ xs) (y ∷ ys) zero h = h.0
entry_alike (x ∷ xs) (y ∷ ys) (suc n) h = entry_alike xs ys n h.1
entry_alike [] (y ∷ ys) n h = absurd h
entry_alike (x ∷ xs) [] n h = absurd h

number_alike : (xs ys : List (Option Slot)) (o : Option ℕ) → AreAlike xs ys → region_of (at_number xs o) ≡ region_of (at_number ys o)
number_alike xs ys None h = refl
number_alike xs ys (Some n) h = entry_alike xs ys n h

some_alike : (o p : Option Slot) → region_of o ≡ region_of p → is_some o ≡ is_some p
some_alike None None e = refl
some_alike (Some x) (Some y) e = refl
some_alike None (Some y) e = absurd cc
some_alike (Some x) None e = absurd cc

same_some : {X : Type 0} (x y : X) → Some x ≡ Some y → x ≡ y
same_some x y e = cc

-- ---- where others are visible as they are, but for the places of their words

module _ (v : Visible) (ss : List (Option Slot)) (h : AreAlike v.slots ss) where
  abbrev w : Visible
  w = record v { slots = ss }

  slot_alike : (name : List ℕ) → region_of (slot_of v name) ≡ region_of (slot_of w name)
  slot_alike name = number_alike v.slots ss (number_of v.scope name) h

  -- ---- what is moved

  variable_some : (s : Standing) (x y : Slot) → is_some (variable_at s (Some x)) ≡ is_some (variable_at s (Some y))
  variable_some (standing.Part role.LoopParameter t) x y = refl
  variable_some (standing.Part r t) x y = refl
  variable_some s x y = refl

  variable_alike : (s : Standing) (o p : Option Slot) → region_of o ≡ region_of p → is_some (variable_at s o) ≡ is_some (variable_at s p)
  variable_alike s None None e = refl
  variable_alike s (Some x) (Some y) e = variable_some s x y
  variable_alike s None (Some y) e = absurd cc
  variable_alike s (Some x) None e = absurd cc

  source_alike : (s : Standing) (o p : Option _) → is_some o ≡ is_some p → is_some (source_by s o) ≡ is_some (source_by s p)
  source_alike (standing.Part r t) o p e = e
  source_alike s o p e = refl

  named_moved : (name : NameTree) → is_some (source_at v name) ≡ is_some (source_at w name)
  named_moved name =
      let first = stands_first v.scope (number_of v.scope name.first.name) in
      source_alike (standing_of v.scope name.first name.selectors) (variable_at first (slot_of v name.first.name)) (variable_at first (slot_of w name.first.name))
      (variable_alike first (slot_of v name.first.name) (slot_of w name.first.name) (slot_alike name.first.name))

  mutual
    moved_alike : (e : ExprTree) → is_moved v e ≡ is_moved w e
    moved_alike (tree.Named first path) = named_moved (record { first = first; selectors = path })
    moved_alike (tree.Parenthesized place e) = moved_alike e
    moved_alike (tree.Conditional place condition value elsifs last) = λ j. moved_alike value j && (all_moved elsifs j && moved_alike last j)
    moved_alike e = refl

    all_moved : (elsifs : ElsifValueTrees) → are_moved v elsifs ≡ are_moved w elsifs
    all_moved NoElsifValues = refl
    all_moved (MoreElsifValues condition value rest) = λ j. moved_alike value j && all_moved rest j

  moves_alike : (name : NameTree) (e : ExprTree) → moves v name e ≡ moves w name e
  moves_alike name e =
      let a = names_composite v.scope (stands_first v.scope (number_of v.scope name.first.name)) in
      let b = names_composite v.scope (standing_of v.scope name.first name.selectors) in
      let some = some_alike (slot_of v name.first.name) (slot_of w name.first.name) (slot_alike name.first.name) in
      λ j. if a && (b && some j) then moved_alike e j else false

  mutual
    move_alike : (e : ExprTree) → move_needs v e ≡ move_needs w e
    move_alike (tree.Named first path) = refl
    move_alike (tree.Parenthesized place e) = move_alike e
    move_alike (tree.Conditional place condition value elsifs last) =
        λ j. both (needs_above 1 v condition) (both (move_alike value j) (both (elsifs_alike elsifs j) (move_alike last j)))
    move_alike e = refl

    elsifs_alike : (elsifs : ElsifValueTrees) → moves_needs v elsifs ≡ moves_needs w elsifs
    elsifs_alike NoElsifValues = refl
    elsifs_alike (MoreElsifValues condition value rest) = λ j. both (needs_above 1 v condition) (both (move_alike value j) (elsifs_alike rest j))

  by_alike : (name : NameTree) (e : ExprTree) (moved : Bool) → needs_by v name e moved ≡ needs_by w name e moved
  by_alike name e false = refl
  by_alike name e true = ap (both (address_needs 0 v name.selectors)) (move_alike e)

  pub assignment_alike : (name : NameTree) (e : ExprTree) → assignment_needs v name e ≡ assignment_needs w name e
  assignment_alike name e = by_alike name e (moves v name e) ∙ ap (needs_by w name e) (moves_alike name e)

  -- ---- calls

  actual_alike : (d : ℕ) (f : FormalParameter) (a : ArgumentTree) → actual_needs d v f a ≡ actual_needs d w f a
  actual_alike d f (tree.Value (tree.Named first path)) = refl
  actual_alike d f (tree.Value e) = refl
  actual_alike d f (tree.Text label place) = refl

  actuals_alike : (d : ℕ) (fs : List FormalParameter) (all : ArgumentTrees) → actuals_needs d v fs all ≡ actuals_needs d w fs all
  actuals_alike d fs NoArguments = refl
  actuals_alike d [] (MoreArguments a rest) = refl
  actuals_alike d (f ∷ fs) (MoreArguments a rest) = λ j. both (actual_alike d f a j) (actuals_alike (d + passed_width v.scope f) fs rest j)

  destination_alike : (s : Standing) (o p : Option Slot) → region_of o ≡ region_of p → destination_at o s ≡ destination_at p s
  destination_alike s None None e = refl
  destination_alike (standing.Part r t) (Some x) (Some y) e = ap (λ q. (record { region = q; subtype = t }) ∷ []) (same_some x.region y.region e)
  destination_alike s (Some x) (Some y) e = refl
  destination_alike s None (Some y) e = absurd cc
  destination_alike s (Some x) None e = absurd cc

  named_alike : (e : ExprTree) → destinations_named v e ≡ destinations_named w e
  named_alike (tree.Named first path) = destination_alike (standing_of v.scope first path) (slot_of v first.name) (slot_of w first.name) (slot_alike first.name)
  named_alike e = refl

  moded_alike : (m : Mode) (e : ExprTree) → destinations_if v m e ≡ destinations_if w m e
  moded_alike mode.In e = refl
  moded_alike mode.Out e = named_alike e
  moded_alike mode.InOut e = named_alike e

  each_alike : (f : FormalParameter) (a : ArgumentTree) → destinations_for v f a ≡ destinations_for w f a
  each_alike f (tree.Value e) = moded_alike f.mode e
  each_alike f (tree.Text label place) = refl

  destinations_alike : (fs : List FormalParameter) (all : ArgumentTrees) → destinations_of v fs all ≡ destinations_of w fs all
  destinations_alike fs NoArguments = refl
  destinations_alike [] (MoreArguments a rest) = refl
  destinations_alike (f ∷ fs) (MoreArguments a rest) = λ j. each_alike f a j ++ destinations_alike fs rest j

  copies_alike : (ds : List Destination) → copies_needs v ds ≡ copies_needs w ds
  copies_alike [] = refl
  copies_alike (d ∷ ds) = ap (both (copy_needs v (total (copied_width v.scope) (d ∷ ds)) d)) (copies_alike ds)

  passed_alike : (fs : List FormalParameter) (o : Option ArgumentTrees) → passed_needs v fs o ≡ passed_needs w fs o
  passed_alike fs None = refl
  passed_alike fs (Some all) =
      λ j. both (actuals_alike 0 fs all j) (both (stacked (total (passed_width v.scope) fs))
      ((copies_alike (destinations_of v fs all) ∙ ap (copies_needs w) (destinations_alike fs all)) j))

  line_alike : (o : Option LabelledValue) → line_needs v o ≡ line_needs w o
  line_alike None = refl
  line_alike (Some line) = refl

  through_alike : (name : NameTree) (o : Option ExternalName) → through_needs v name o ≡ through_needs w name o
  through_alike name None = by_entry (is_own_entry (entity_named v.scope name.first.name))
    where
      by_entry : (own : Bool) → bare_needs v name own ≡ bare_needs w name own
      by_entry true = refl
      by_entry false = line_alike (line_of name)
  through_alike name (Some x) = by_profile (external_profile v.scope name.first.name x.operation.name)
    where
      by_profile : (o : Option Profile) → behind_needs v x o ≡ behind_needs w x o
      by_profile None = refl
      by_profile (Some p) = passed_alike p.formals (Some x.arguments)

  pub call_alike : (name : NameTree) → call_needs v name ≡ call_needs w name
  call_alike name = by_profile (profile_named v.scope name.first.name)
    where
      by_profile : (o : Option Profile) → called_needs v name o ≡ called_needs w name o
      by_profile (Some p) = passed_alike p.formals (actuals_behind name.selectors)
      by_profile None = through_alike name (operation_behind name.selectors)
