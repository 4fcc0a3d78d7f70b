-- The declarations and bodies of a legal package as one list: each breaks no rule between those in front of it and those behind it.
use Rattle.std.proofs.Common.{◌≡◌, ℕ, zero, suc, List, [], ◌∷◌, ◌++◌, take, drop, map, not, Bool, true, false, ◌||◌, Option, Some, None, refl, sym, ap, ◌∙◌, subst}
use Rattle.std.specs.Prelude.{slice_get}
use Rattle.std.specs.List.{list_any}
use Rattle.std.proofs.lemmas.List.{append-nil, append_assoc, map-append}
use Rattle.expr_soundness.specs.ada_tree.specs.declared.expression.Identifier.{Identifier}
use Rattle.expr_soundness.specs.ada_tree.specs.StatementTree.{OperationTree, ProtectedTree}
use Rattle.expr_soundness.specs.ada_tree.specs.StatementTree as operation
use Rattle.expr_soundness.specs.ada_tree.specs.ProgramTree.{BodyItemTree, OfItem, SubprogramBody, TaskBody, ProtectedBody, ItemTree, OfType, OfObject, OfException, OfSubprogram, OfTask, OfProtected, PackageTree, ProtectedItemTree}
use Rattle.types.specs.Scopes.{Scope, standard}
use Rattle.expr_soundness.specs.base.specs.declared.faults.TheConstants.{UNMATCHED_BODY}
use Rattle.expr_soundness.specs.expr_rules.specs.Faults.{Faults, rule}
use Rattle.expr_soundness.specs.expr_rules.proofs.TypedLaw.{back_empty, front_empty}
use Rattle.declaration_rules.specs.ItemRules.{item_faults, item_scope, items_faults, items_scope}
use Rattle.conformance.specs.MatchingRules.{all_missing_faults, any_declared, has_operation, has_unlike_operation, is_second_operation, is_unlike_subprogram, item_matching, items_matching, matching_faults, missing_faults, missing_operations_faults, operation_bodies_faults, operation_name, passes_declared, same_name}
use Rattle.unit_rules.specs.MainRules.{item_name}
use Rattle.declaration_rules.specs.PackageNames.{body_item_scope, body_items_scope, inside_scope, specified_scope}
use Rattle.unit_rules.specs.PackageBodyRules.{body_items_faults}
use Rattle.unit_rules.specs.PackageRules.{behind_faults, specification_faults}
use Rattle.unit_rules.specs.PackageRules as rules
use Rattle.legality.specs.LikeNames.{behind_item_faults, between_faults, body_like_faults, like_rule, specification_like_faults, specified_faults, behind_specified_faults, like_name_faults}
use Rattle.legality.specs.ProgramRules.{package_part_faults}
use Rattle.ravenscar.specs.HandlerRules.{none_taken}
use Rattle.ravenscar.specs.ProgramRules as profile
use Rattle.program_soundness.specs.Fronts.{declared_in, scope_at, start_in}
use Rattle.program_soundness.proofs.Listing.{same_some}

pub both_empty : (xs ys : Faults) → xs ≡ [] → ys ≡ [] → xs ++ ys ≡ []
both_empty xs ys h k = λ j. h j ++ k j

-- ---- names and rules

pub scope_joined : (s : Scope) (ds : List ItemTree) (body : List BodyItemTree)
    → body_items_scope s (map OfItem ds ++ body) ≡ body_items_scope (items_scope s ds) body
scope_joined s [] body = refl
scope_joined s (d ∷ ds) body = scope_joined (item_scope s d) ds body

legal_joined : (s : Scope) (ds : List ItemTree) (body : List BodyItemTree) → items_faults s ds ≡ [] → body_items_faults (items_scope s ds) body ≡ []
    → body_items_faults s (map OfItem ds ++ body) ≡ []
legal_joined s [] body h k = k
legal_joined s (d ∷ ds) body h k =
    let rest = items_faults (item_scope s d) ds in
    both_empty (item_faults s d) _ (front_empty (item_faults s d) rest h) (legal_joined (item_scope s d) ds body (back_empty (item_faults s d) rest h) k)

restricted_joined : (s : Scope) (taken : List Bool) (ds : List ItemTree) (body : List BodyItemTree) → profile.items_faults s taken ds ≡ []
    → profile.body_items_faults (items_scope s ds) (profile.taken_by_items s taken ds) body ≡ []
    → profile.body_items_faults s taken (map OfItem ds ++ body) ≡ []
restricted_joined s taken [] body h k = k
restricted_joined s taken (d ∷ ds) body h k =
    let next = profile.taken_by_item s taken d in
    let rest = profile.items_faults (item_scope s d) next ds in
    both_empty (profile.item_faults s taken d) _ (front_empty (profile.item_faults s taken d) rest h)
    (restricted_joined (item_scope s d) next ds body (back_empty (profile.item_faults s taken d) rest h) k)

-- the channels that have handlers in front of a place
abbrev pub taken_before : Scope → (taken : List Bool) → List BodyItemTree → (place : ℕ) → List Bool
taken_before s taken [] place = taken
taken_before s taken (x ∷ xs) zero = taken
taken_before s taken (x ∷ xs) (suc place) = taken_before (body_item_scope s x) (profile.taken_by_body_item s taken x) xs place

-- ---- bodies and declarations

-- a declaration is no body
any_behind : (test : BodyItemTree → Bool) (ds : List ItemTree) (body : List BodyItemTree) → ((d : ItemTree) → test (OfItem d) ≡ false)
    → list_any test (map OfItem ds ++ body) ≡ list_any test body
any_behind test [] body h = refl
any_behind test (d ∷ ds) body h = (λ j. h d j || list_any test (map OfItem ds ++ body)) ∙ any_behind test ds body h

-- whether an item is the body of a subprogram, a task or a protected object of this name
abbrev pub is_subprogram_body : Identifier → BodyItemTree → Bool
is_subprogram_body name (SubprogramBody d b) = same_name name d.name
is_subprogram_body name i = false

abbrev pub is_task_body : Identifier → BodyItemTree → Bool
is_task_body name (TaskBody own b) = same_name name own
is_task_body name i = false

abbrev pub is_object_body : Identifier → BodyItemTree → Bool
is_object_body name (ProtectedBody own items end_name) = same_name name own
is_object_body name i = false

operations_behind : (ds : List ItemTree) (body : List BodyItemTree) (object : Identifier) (os : List OperationTree)
    → missing_operations_faults (map OfItem ds ++ body) object os ≡ missing_operations_faults body object os
operations_behind ds body object [] = refl
operations_behind ds body object (operation.OfSubprogram d a ∷ os) =
    let same = any_behind (has_operation object d.name) ds body (λ i. refl) in
    let rest = operations_behind ds body object os in λ j. rule UNMATCHED_BODY d.name.place (not (same j)) ++ rest j
operations_behind ds body object (operation.OfEntry d ∷ os) =
    let same = any_behind (has_operation object d.name) ds body (λ i. refl) in
    let rest = operations_behind ds body object os in λ j. rule UNMATCHED_BODY d.name.place (not (same j)) ++ rest j

missing_behind : (ds : List ItemTree) (body : List BodyItemTree) (d : ItemTree) → missing_faults (map OfItem ds ++ body) d ≡ missing_faults body d
missing_behind ds body (OfType d) = refl
missing_behind ds body (OfObject d) = refl
missing_behind ds body (OfException name) = refl
missing_behind ds body (OfSubprogram d) = ap (λ b. rule UNMATCHED_BODY d.name.place (not b)) (any_behind (is_subprogram_body d.name) ds body (λ i. refl))
missing_behind ds body (OfTask d) = ap (λ b. rule UNMATCHED_BODY d.name.place (not b)) (any_behind (is_task_body d.name) ds body (λ i. refl))
missing_behind ds body (OfProtected d) =
    let same = any_behind (is_object_body d.name) ds body (λ i. refl) in
    let rest = operations_behind ds body d.name d.operations in λ j. rule UNMATCHED_BODY d.name.place (not (same j)) ++ rest j

-- what is asked of those in front of a body is the same where the specification is part of them
module _ (ds : List ItemTree) where
  any_front : (test : BodyItemTree → Bool) (before : List BodyItemTree) → ((d : ItemTree) → test (OfItem d) ≡ false)
      → list_any test (map OfItem ds ++ before) ≡ list_any test before
  any_front test before h = any_behind test ds before h

  declared_front : (test : ItemTree → Bool) (more : List ItemTree) (before : List BodyItemTree)
      → list_any (passes_declared test) (map OfItem more ++ before) ≡ (list_any test more || list_any (passes_declared test) before)
  declared_front test [] before = refl
  declared_front test (d ∷ more) before =
      ap (λ b. test d || b) (declared_front test more before) ∙ either (test d) (list_any test more) (list_any (passes_declared test) before)
    where
      either : (a b c : Bool) → (a || (b || c)) ≡ ((a || b) || c)
      either true b c = refl
      either false b c = refl

  any_same : (test : ItemTree → Bool) (before : List BodyItemTree) → any_declared test [] (map OfItem ds ++ before) ≡ any_declared test ds before
  any_same test before = declared_front test ds before

  bodies_same : (object : Identifier) (before : List BodyItemTree) (earlier items : List ProtectedItemTree)
      → operation_bodies_faults [] (map OfItem ds ++ before) object earlier items ≡ operation_bodies_faults ds before object earlier items
  bodies_same object before earlier [] = refl
  bodies_same object before earlier (i ∷ is) =
      let one = any_same (has_unlike_operation object i) before in
      let rest = bodies_same object before (earlier ++ i ∷ []) is in
      λ j. rule UNMATCHED_BODY (operation_name i).place (is_second_operation earlier i || one j) ++ rest j

  item_same : (before behind : List BodyItemTree) (i : BodyItemTree) → item_matching [] (map OfItem ds ++ before) behind i ≡ item_matching ds before behind i
  item_same before behind (OfItem d) = refl
  item_same before behind (SubprogramBody d b) =
      let second = any_front (is_subprogram_body d.name) before (λ i. refl) in
      let unlike = any_same (is_unlike_subprogram d) before in λ j. rule UNMATCHED_BODY d.name.place (second j || unlike j)
  item_same before behind (TaskBody name b) = ap (rule UNMATCHED_BODY name.place) (any_front (is_task_body name) before (λ i. refl))
  item_same before behind (ProtectedBody name items end_name) =
      let second = any_front (is_object_body name) before (λ i. refl) in
      λ j. rule UNMATCHED_BODY name.place (second j) ++ bodies_same name before [] items j

  items_same : (before body : List BodyItemTree) → items_matching [] (map OfItem ds ++ before) body ≡ items_matching ds before body
  items_same before [] = refl
  items_same before (i ∷ is) =
      let one = item_same before is i in
      let front = append_assoc (map OfItem ds) before (i ∷ []) in
      let rest = ap (λ l. items_matching [] l is) front ∙ items_same (before ++ i ∷ []) is in
      λ j. one j ++ rest j

matched_joined : (done ds : List ItemTree) (body : List BodyItemTree) → all_missing_faults body ds ≡ []
    → items_matching [] (map OfItem (done ++ ds)) body ≡ []
    → items_matching [] (map OfItem done) (map OfItem ds ++ body) ≡ []
matched_joined done [] body h k = subst (λ l. items_matching [] (map OfItem l) body ≡ []) (append-nil done) k
matched_joined done (d ∷ ds) body h k =
    let one = missing_behind ds body d ∙ front_empty (missing_faults body d) (all_missing_faults body ds) h in
    let whole = subst (λ l. items_matching [] (map OfItem l) body ≡ []) (sym (append_assoc done (d ∷ []) ds)) k in
    let rest = matched_joined (done ++ d ∷ []) ds body (back_empty (missing_faults body d) (all_missing_faults body ds) h) whole in
    both_empty (missing_faults (map OfItem ds ++ body) d) _ one
    (subst (λ l. items_matching [] l (map OfItem ds ++ body) ≡ []) (map-append OfItem done (d ∷ [])) rest)

-- ---- names between protected objects and their bodies

between_joined : (d : ProtectedTree) (ds : List ItemTree) (body : List BodyItemTree) → specified_faults d ds ++ between_faults d body ≡ []
    → between_faults d (map OfItem ds ++ body) ≡ []
between_joined d [] body h = h
between_joined d (i ∷ is) body h =
    let front = front_empty (like_rule d (item_name i) ++ specified_faults d is) (between_faults d body) h in
    let back = back_empty (like_rule d (item_name i) ++ specified_faults d is) (between_faults d body) h in
    both_empty (like_rule d (item_name i)) _ (front_empty (like_rule d (item_name i)) (specified_faults d is) front)
    (between_joined d is body (both_empty (specified_faults d is) (between_faults d body) (back_empty (like_rule d (item_name i)) (specified_faults d is) front) back))

like_one : (i : ItemTree) (is : List ItemTree) (body : List BodyItemTree) → behind_specified_faults body i is ≡ []
    → behind_item_faults (OfItem i) (map OfItem is ++ body) ≡ []
like_one (OfProtected d) is body h = between_joined d is body h
like_one (OfType d) is body h = refl
like_one (OfObject d) is body h = refl
like_one (OfException name) is body h = refl
like_one (OfSubprogram d) is body h = refl
like_one (OfTask d) is body h = refl

like_joined : (ds : List ItemTree) (body : List BodyItemTree) → specification_like_faults body ds ≡ [] → body_like_faults body ≡ []
    → body_like_faults (map OfItem ds ++ body) ≡ []
like_joined [] body h k = k
like_joined (i ∷ is) body h k =
    both_empty (behind_item_faults (OfItem i) (map OfItem is ++ body)) _
    (like_one i is body (front_empty (behind_specified_faults body i is) (specification_like_faults body is) h))
    (like_joined is body (back_empty (behind_specified_faults body i is) (specification_like_faults body is) h) k)

-- ---- the whole list

pub record IsLegalList (s : Scope) (all : List BodyItemTree) : Type 0 where
  pub legal : body_items_faults s all ≡ []
  pub matched : items_matching [] [] all ≡ []
  pub like : body_like_faults all ≡ []
  pub restricted : profile.body_items_faults s none_taken all ≡ []

package_legal : (p : PackageTree) → package_part_faults standard (Some p) ≡ [] → profile.package_faults p ≡ []
    → IsLegalList (inside_scope standard p) (map OfItem p.declaration.items ++ p.body.items)
package_legal p h k =
    let ds = p.declaration.items in
    let body = p.body.items in
    let rules_ = front_empty (rules.package_faults standard p) (like_name_faults p) h in
    let like = back_empty (rules.package_faults standard p) (like_name_faults p) h in
    let specified = front_empty (specification_faults standard p) (behind_faults (specified_scope standard p) p) rules_ in
    let behind = back_empty (specification_faults standard p) (behind_faults (specified_scope standard p) p) rules_ in
    let items = back_empty _ (items_faults (inside_scope standard p) ds) (front_empty _ _ (front_empty _ _ specified)) in
    let three = front_empty _ _ (front_empty _ _ behind) in
    let bodies = back_empty _ (body_items_faults (specified_scope standard p) body) three in
    let matching = back_empty _ (matching_faults ds body) (front_empty _ (body_items_faults (specified_scope standard p) body) three) in
    let missing = front_empty (all_missing_faults body ds) (items_matching ds [] body) matching in
    let matched = back_empty (all_missing_faults body ds) (items_matching ds [] body) matching in
    record {
      legal = legal_joined (inside_scope standard p) ds body items bodies;
      matched =
          matched_joined [] ds body missing
          (ap (λ l. items_matching [] l body) (sym (append-nil (map OfItem ds))) ∙ items_same ds [] body ∙ matched);
      like = like_joined ds body (front_empty _ (body_like_faults body) like) (back_empty (specification_like_faults body ds) (body_like_faults body) like);
      restricted =
          let first = inside_scope standard p in
          let first_faults = profile.items_faults first none_taken ds in
          let later = profile.body_items_faults (specified_scope standard p) (profile.taken_by_items first none_taken ds) body in
          restricted_joined first none_taken ds body (front_empty first_faults later k) (back_empty first_faults later k);
    }

pub all_legal : (o : Option PackageTree) → package_part_faults standard o ≡ [] → profile.package_part_faults o ≡ [] → IsLegalList (start_in o) (declared_in o)
all_legal (Some p) h k = package_legal p h k
all_legal None h k = record { legal = refl; matched = refl; like = refl; restricted = refl }

-- ---- at a place

module _ (s : Scope) (all : List BodyItemTree) (whole : IsLegalList s all) where
  matched_from : (before rest : List BodyItemTree) (k : ℕ) (i : BodyItemTree) → items_matching [] before rest ≡ [] → slice_get rest k ≡ Some i
      → item_matching [] (before ++ take k rest) (drop (suc k) rest) i ≡ []
  matched_from before [] k i h at = cc
  matched_from before (x ∷ xs) zero i h at =
      let one = front_empty (item_matching [] before xs x) (items_matching [] (before ++ x ∷ []) xs) h in
      subst (λ l. item_matching [] l xs i ≡ []) (sym (append-nil before)) (subst (λ y. item_matching [] before xs y ≡ []) (same_some x i at) one)
  matched_from before (x ∷ xs) (suc k) i h at =
      let rest = back_empty (item_matching [] before xs x) (items_matching [] (before ++ x ∷ []) xs) h in
      subst (λ l. item_matching [] l (drop (suc k) xs) i ≡ []) (append_assoc before (x ∷ []) (take k xs)) (matched_from (before ++ x ∷ []) xs k i rest at)

  pub matched_at : (k : ℕ) (i : BodyItemTree) → slice_get all k ≡ Some i → item_matching [] (take k all) (drop (suc k) all) i ≡ []
  matched_at k i at = matched_from [] all k i whole.matched at

  like_from : (rest : List BodyItemTree) (k : ℕ) (i : BodyItemTree) → body_like_faults rest ≡ [] → slice_get rest k ≡ Some i
      → behind_item_faults i (drop (suc k) rest) ≡ []
  like_from [] k i h at = cc
  like_from (x ∷ xs) zero i h at = subst (λ y. behind_item_faults y xs ≡ []) (same_some x i at) (front_empty (behind_item_faults x xs) (body_like_faults xs) h)
  like_from (x ∷ xs) (suc k) i h at = like_from xs k i (back_empty (behind_item_faults x xs) (body_like_faults xs) h) at

  pub like_at : (k : ℕ) (d : ProtectedTree) → slice_get all k ≡ Some (OfItem (OfProtected d)) → between_faults d (drop (suc k) all) ≡ []
  like_at k d at = like_from all k (OfItem (OfProtected d)) whole.like at

  restricted_from : (u : Scope) (taken : List Bool) (rest : List BodyItemTree) (k : ℕ) (i : BodyItemTree) → profile.body_items_faults u taken rest ≡ []
      → slice_get rest k ≡ Some i → profile.body_item_faults (scope_at u rest k) (taken_before u taken rest k) i ≡ []
  restricted_from u taken [] k i h at = cc
  restricted_from u taken (x ∷ xs) zero i h at =
      subst (λ y. profile.body_item_faults u taken y ≡ []) (same_some x i at)
      (front_empty (profile.body_item_faults u taken x) (profile.body_items_faults (body_item_scope u x) (profile.taken_by_body_item u taken x) xs) h)
  restricted_from u taken (x ∷ xs) (suc k) i h at =
      let next = profile.taken_by_body_item u taken x in
      restricted_from (body_item_scope u x) next xs k i
      (back_empty (profile.body_item_faults u taken x) (profile.body_items_faults (body_item_scope u x) next xs) h) at

  pub restricted_at : (k : ℕ) (i : BodyItemTree) → slice_get all k ≡ Some i → profile.body_item_faults (scope_at s all k) (taken_before s none_taken all k) i ≡ []
  restricted_at k i at = restricted_from s none_taken all k i whole.restricted at
