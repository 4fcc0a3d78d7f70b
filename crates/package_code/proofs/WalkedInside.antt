-- How far a walk is in the body of a protected object: where it is entered, behind one operation more, and behind all of them.
use Rattle.std.proofs.Common.{◌≡◌, ℕ, zero, suc, ◌+◌, ◌≤◌, List, [], ◌∷◌, ◌++◌, ◌<◌, length, length-append, map, take, take_all, Option, Some, None, refl, sym, ap, ◌∙◌, subst, arith}
use Rattle.std.specs.Prelude.{slice_get}
use Rattle.std.proofs.lemmas.List.{length-map}
use Rattle.std.proofs.lemmas.Option.{slice_get_within}
use Rattle.ada_tree.specs.declared.expression.Identifier.{Identifier}
use Rattle.ada_tree.specs.declared.program.Package.{Package}
use Rattle.ada_tree.specs.StatementTree.{optional_tree}
use Rattle.ada_tree.specs.ProgramTree.{BodyItemTree, EntryBody, OfItem, OperationBody, ProgramTree, ProtectedBody, ProtectedItemTree, body_item_tree, item_tree, package_tree}
use Rattle.types.specs.declared.entity.RecordComponent.{RecordComponent}
use Rattle.types.specs.Entities.{Operation}
use Rattle.types.specs.Layouts.{total}
use Rattle.types.specs.Scopes.{Scope, number_of, operations_or, protected_at, with_operations}
use Rattle.declaration_rules.specs.BodyNames.{object_body_scope}
use Rattle.declaration_rules.specs.Laws.{ObjectBodiesEnd}
use Rattle.unit_rules.specs.ProtectedBodyRules.{components_at, protected_item_scope, protected_items_scope}
use Rattle.program_soundness.specs.legality.specs.ProgramRules.{IsLegal}
use Rattle.ravenscar.specs.ProgramRules.{IsRestricted}
use Rattle.expr_soundness.specs.Laws.{ScopesAreSound}
use Rattle.expr_soundness.specs.meaning.specs.Programs.{program_of}
use Rattle.program_soundness.specs.BodyLaws.{NamesAreKnown, PremisesHold}
use Rattle.program_soundness.specs.Fronts.{declared_in, front, start_in}
use Rattle.program_soundness.proofs.Listing.{same_some}
use Rattle.program_soundness.proofs.ObjectBodies as bodies
use Rattle.program_soundness.proofs.Walked.{scope_next}
use Rattle.expr_code.specs.Code.{here}
use Rattle.expr_code.specs.declared.refusal.Refusal.{Refusal}
use Rattle.expr_code.specs.declared.visible.Slot.{Slot}
use Rattle.expr_code.specs.declared.visible.Visible.{Visible}
use Rattle.step_simulation.specs.part_code.specs.Bounds.{procedure_bound}
use Rattle.stmt_code.specs.declared.draft.Draft.{Draft}
use Rattle.package_code.specs.Bodies.{Coded, bodies_before, coded_at, object_bodies, object_number, of_operation, operation_front, operations_of, own_body, own_head, own_name, components_or_none}
use Rattle.package_code.specs.Counts.{bound_of, bounds_from}
use Rattle.package_code.specs.Directory.{AreTold, IsDirectory, number_told, seen_inside}
use Rattle.package_code.specs.Owners.{offered_names}
use Rattle.package_code.specs.Laws.{BodiesAreNumbered}
use Rattle.package_code.specs.Providing.{BodiesAreCovered, MayBeAdded}
use Rattle.step_simulation.specs.part_code.specs.Providing.{HasWhatCodeNeeds}
use Rattle.package_code.specs.Refusing.{coded_labels, coded_rows, items_labels, items_rows, seen_at, seen_by, seen_with, subprogram_labels, subprogram_rows}
use Rattle.package_code.specs.Stopping.{IsHalt, halt_for}
use Rattle.package_code.specs.Walking.{AddsBody, AddsOperation, IsAsTold, IsWalked, IsInObjectBody, RefusesBody, behind_operation, first_visible, operation_visible}
use Rattle.package_code.specs.declared.directory.Directory.{Directory}
use Rattle.package_code.specs.declared.walk.Walk.{Walk}
use Rattle.package_code.proofs.AsTold.{code_halts}
use Rattle.package_code.proofs.OperationsAdded as added
use Rattle.package_code.proofs.Coded.{among_next, coded_many, labelled_by, rows_by}
use Rattle.package_code.proofs.Counted.{adds_few}
use Rattle.package_code.proofs.ItemsTold.{bounds_more_there, item_bounds_next, labels_more, labels_next, none_taken, plus_none, rows_more, rows_next}
use Rattle.package_code.proofs.Seen.{start_fits}
use Rattle.package_code.proofs.SeenInside.{begun_behind, behind_seen, entered_seen, items_behind, left_seen, operation_seen, told_seen}
use Rattle.package_code.proofs.Walked.{HaveCode, code_kept, code_more, many_more, walked_code}

-- ---- what becomes visible as the code goes

-- the names in front of the parameters of an operation or entry, where this is visible
pub front_there : (whole : Scope) (directory : Directory) (o : ℕ) (components : List RecordComponent) (i : ProtectedItemTree) (v : Visible)
    → (operation_visible whole directory o components i v).scope ≡ operation_front v.scope components i
front_there whole directory o components (OperationBody d b) v = refl
front_there whole directory o components (EntryBody d barrier b) v = refl

-- ---- operations one behind another

-- the body of an operation at its place
operations_get : (o : ℕ) (s : Scope) (components : List RecordComponent) (items : List ProtectedItemTree) (k : ℕ) (i : ProtectedItemTree)
    → slice_get items k ≡ Some i
    → slice_get (operations_of o s components items) k ≡ Some (of_operation o (protected_items_scope s (take k items)) components i)
operations_get o s components [] k i at = cc
operations_get o s components (x ∷ items) zero i at = ap (λ z. Some (of_operation o s components z)) (same_some x i at)
operations_get o s components (x ∷ items) (suc k) i at = operations_get o (protected_item_scope s x) components items k i at

items_next : (s : Scope) (items : List ProtectedItemTree) (k : ℕ) (i : ProtectedItemTree) → slice_get items k ≡ Some i
    → protected_items_scope s (take (suc k) items) ≡ protected_item_scope (protected_items_scope s (take k items)) i
items_next s [] k i at = cc
items_next s (x ∷ items) zero i at = ap (protected_items_scope (protected_item_scope s x)) (none_taken items) ∙ ap (protected_item_scope s) (same_some x i at)
items_next s (x ∷ items) (suc k) i at = items_next (protected_item_scope s x) items k i at

up_there : (n : ℕ) (s : Scope) (items : List ProtectedItemTree) → n ≤ length s → n ≤ length (protected_items_scope s items)
up_there n s items up =
    let x = items_behind s items in let e = ap length x.1 ∙ length-append s x.0 in omega (arith, e, up)

-- the place behind a declaration or body of a package is a word
pub place_fits : (o : Option Package) (place : ℕ) (x : BodyItemTree) → slice_get (declared_in (optional_tree package_tree o)) place ≡ Some x
    → place + 1 < 18446744073709551616
place_fits None place x at = cc
place_fits (Some p) place x at =
    let inside = slice_get_within (map OfItem (map item_tree p.declaration.items.items) ++ map body_item_tree p.body.items.items) place x at in
    let both = length-append (map OfItem (map item_tree p.declaration.items.items)) (map body_item_tree p.body.items.items) in
    let first = length-map (map item_tree p.declaration.items.items) OfItem ∙ length-map p.declaration.items.items item_tree in
    let rest = length-map p.body.items.items body_item_tree in
    let a : p.declaration.items.cap < 9223372036854775808 = p.declaration.items.small in
    let b : p.body.items.cap < 9223372036854775808 = p.body.items.small in
    let c = p.declaration.items.ok.0 in
    let d = p.declaration.items.ok.1 in
    let e = p.body.items.ok.0 in
    let f = p.body.items.ok.1 in
    omega (arith, inside, both, first, rest, a, b, c, d, e, f)

module _ (scopes : ScopesAreSound) (known : NamesAreKnown) (premises : PremisesHold) (t : ProgramTree) (legal : IsLegal t) (restricted : IsRestricted t)
    (directory : Directory) (is_directory : IsDirectory t directory) where
  abbrev whole : Scope
  whole = (program_of t).scope

  abbrev all : List BodyItemTree
  all = declared_in t.package_

  -- ---- where the body is entered

  module _ (old : Walk) (name : Identifier) (items : List ProtectedItemTree) (end_name : Identifier)
      (at : slice_get (declared_in t.package_) old.place ≡ Some (ProtectedBody name items end_name)) (walked : IsWalked t directory old)
      (told : IsAsTold t old) where
    abbrev object : ℕ
    object = object_number whole name

    abbrev place : ℕ
    place = old.place

    abbrev item : BodyItemTree
    item = ProtectedBody name items end_name

    abbrev begun : ℕ → Scope
    begun n = object_body_scope (front t old.place) n

    pub within_first : (mid : Walk) (n : ℕ) (os : List Operation) (components : List RecordComponent) → number_of old.visible.scope name.name ≡ Some n
        → os ≡ operations_or (protected_at old.visible.scope n) [] → components ≡ components_or_none (components_at old.visible.scope n)
        → mid.visible ≡ seen_inside whole directory object (record old.visible { scope = object_body_scope old.visible.scope n }) (offered_names os)
        → mid.draft ≡ old.draft → mid.subprograms ≡ old.subprograms → mid.place ≡ old.place
        → IsInObjectBody t directory object (object_body_scope (front t old.place) n) components items 0 mid
    within_first mid n os components numbered operations parts visible draft subprograms stays = record {
      item = item;
      at = ap (slice_get all) stays ∙ at;
      coded = ap (λ p. coded_at t p item) stays ∙ coded;
      wide = wide;
      seen = seen_so;
      told = subst (AreTold whole directory (Some object)) (sym seen_so)
          (told_seen scopes known premises t legal restricted directory is_directory object (protected_items_scope (begun n) (take 0 items)));
      bodies = code.bodies;
      end = code.end;
      many = ap (λ l. length l.items) subprograms ∙ walked.many ∙ ap (bodies_before t) (sym stays) ∙ sym (plus_none (bodies_before t mid.place));
      exceptions = code.exceptions;
      rows = code.rows;
      places = code.places;
      few = (let up = told.few in
          let same = ap (λ (d : Draft). here d.code) draft in
          let there = ap (λ p. total (bounds_from t 0 (take p all))) stays in
          omega (arith, up, same, there));
      labels = ap (λ (d : Draft). d.labels) draft ∙ told.labels ∙ ap (λ p. items_labels [] (take p all)) (sym stays)
          ∙ ap (coded_labels (items_labels [] (take mid.place all))) (sym (none_taken (coded_at t mid.place item)));
      choices = ap (λ (d : Draft). length d.rows.items) draft ∙ told.rows ∙ ap (λ p. items_rows 0 (take p all)) (sym stays)
          ∙ ap (coded_rows (items_rows 0 (take mid.place all))) (sym (none_taken (coded_at t mid.place item)));
    }
      where
        code : HaveCode t directory mid
        code = code_kept t directory old mid draft subprograms (walked_code t directory old walked)

        scope : old.visible.scope ≡ front t old.place
        scope = ap (λ (v : Visible). v.scope) told.seen

        coded : coded_at t old.place item ≡ operations_of object (begun n) components items
        coded =
            ap (λ o. object_bodies object (front t old.place) o items) (ap (λ u. number_of u name.name) (sym scope) ∙ numbered)
            ∙ ap (λ cs. operations_of object (begun n) cs items) (ap (λ u. components_or_none (components_at u n)) (sym scope) ∙ sym parts)

        names_there : offered_names os ≡ offered_names (operations_or (protected_at (front t old.place) n) [])
        names_there = ap offered_names (operations ∙ ap (λ u. operations_or (protected_at u n) []) scope)

        seen_so : mid.visible ≡ seen_with t (Some object) (protected_items_scope (begun n) (take 0 items))
        seen_so =
            visible
            ∙ (λ j. seen_inside whole directory object (record (told.seen j) { scope = object_body_scope (scope j) n }) (names_there j))
            ∙ entered_seen scopes known premises t legal restricted directory is_directory old.place name items end_name at n
            (operations_or (protected_at (front t old.place) n) [])
            ∙ ap (λ l. seen_with t (Some object) (protected_items_scope (begun n) l)) (sym (none_taken items))

        wide : length (start_in t.package_) ≤ length (begun n)
        wide =
            let fits = start_fits t old.place in
            let more = begun_behind (front t old.place) n in
            omega (arith, fits, more)

    -- as the code goes
    pub object_enters : (mid : Walk) (n o : ℕ) (os : List Operation) (components : List RecordComponent) (scope told_in : Scope) (number : ℕ)
        → number_of old.visible.scope name.name ≡ Some n → scope ≡ object_body_scope old.visible.scope n
        → os ≡ operations_or (protected_at old.visible.scope n) [] → components ≡ components_or_none (components_at old.visible.scope n)
        → told_in ≡ whole → number ≡ object_number told_in name → o ≡ number
        → mid.visible ≡ seen_inside told_in directory number (record old.visible { scope = scope }) (offered_names os)
        → mid.draft ≡ old.draft → mid.subprograms ≡ old.subprograms → mid.place ≡ old.place
        → IsInObjectBody t directory o (object_body_scope (front t old.place) n) components items 0 mid
    object_enters mid n o os components scope told_in number numbered begins operations parts whole_is number_is short visible draft subprograms stays =
        let same : number ≡ object = number_is ∙ ap (λ s. object_number s name) whole_is in
        subst (λ x. IsInObjectBody t directory x (object_body_scope (front t old.place) n) components items 0 mid) (sym (short ∙ same))
        (within_first mid n os components numbered operations parts
        (visible ∙ (λ j. seen_inside (whole_is j) directory (same j) (record old.visible { scope = begins j }) (offered_names os))) draft subprograms stays)

  -- ---- one operation more

  module _ (o : ℕ) (s : Scope) (components : List RecordComponent) (items : List ProtectedItemTree) (k : ℕ) (old : Walk)
      (h : IsInObjectBody t directory o s components items k old) where
    abbrev u : Scope
    u = protected_items_scope s (take k items)

    up : length (start_in t.package_) ≤ length u
    up = up_there (length (start_in t.package_)) s (take k items) h.wide

    scope_is : old.visible.scope ≡ u
    scope_is = ap (λ (v : Visible). v.scope) h.seen

    pub code_within : HaveCode t directory old
    code_within = record { bodies = h.bodies; end = h.end; exceptions = h.exceptions; rows = h.rows; places = h.places }

    -- the item at this place is this body
    pub coded_there : (i : ProtectedItemTree) → slice_get items k ≡ Some i → slice_get (coded_at t old.place h.item) k ≡ Some (of_operation o u components i)
    coded_there i at = ap (λ l. slice_get l k) h.coded ∙ operations_get o s components items k i at

    module _ (i : ProtectedItemTree) (at : slice_get items k ≡ Some i) where
      abbrev c : Coded
      c = of_operation o u components i

      pub seen_operation : operation_visible whole directory o components i old.visible ≡ seen_by t c
      seen_operation =
          ap (operation_visible whole directory o components i) h.seen
          ∙ operation_seen scopes known premises t legal restricted directory is_directory o u components i up

      -- what the code asks
      pub operation_may : BodiesAreCovered t → MayBeAdded t (operation_front old.visible.scope components i) (own_head i) (own_body i)
      operation_may covered =
          subst (λ z. MayBeAdded t (operation_front z components i) (own_head i) (own_body i)) (sym scope_is)
          (covered c (record { place = old.place; item = h.item; index = k; at = h.at; coded = coded_there i at })).added

      pub operation_covered : BodiesAreCovered t
          → HasWhatCodeNeeds old.draft.exceptions.items (operation_visible whole directory o components i old.visible)
      operation_covered covered =
          subst (λ e. HasWhatCodeNeeds e (operation_visible whole directory o components i old.visible)) (sym h.exceptions)
          (subst (HasWhatCodeNeeds (program_of t).exceptions) (sym seen_operation)
          (covered c (record { place = old.place; item = h.item; index = k; at = h.at; coded = coded_there i at })).names)

      pub operation_number_is : BodiesAreNumbered → number_told whole directory (Some o) (own_name i) ≡ Some (length old.subprograms.items)
      operation_number_is numbered =
          is_directory.operations o (own_name i)
          ∙ (numbered t legal restricted old.place h.item k c h.at (coded_there i at)).0 ∙ ap Some (sym h.many)

      -- where it isn't made
      pub operation_halts : (name before : ℕ) → name ≡ (own_head i).name.place → before ≡ here old.draft.code → (why : Refusal)
          → RefusesBody (operation_visible whole directory o components i old.visible) old.draft (own_head i) (own_body i) why
          → IsHalt t (halt_for why name before)
      operation_halts name before name_is before_is why r =
          code_halts t old.place h.item k c h.at (coded_there i at) directory old h.bodies h.end h.many h.few h.labels
          (operation_visible whole directory o components i old.visible) seen_operation name before name_is before_is why r

      abbrev mid : Walk
      mid = record old { visible = operation_visible whole directory o components i old.visible }

      pub within_next : (new : Walk) → AddsOperation t directory o components i old new → IsInObjectBody t directory o s components items (suc k) new
      within_next new a = record {
        item = h.item;
        at = ap (slice_get all) a.place ∙ h.at;
        coded = ap (λ p. coded_at t p h.item) a.place ∙ h.coded;
        wide = h.wide;
        seen = seen_so;
        told = subst (AreTold whole directory (Some o)) (sym seen_so)
            (told_seen scopes known premises t legal restricted directory is_directory o (protected_items_scope s (take (suc k) items)));
        bodies = code.bodies;
        end = code.end;
        many = ap (λ l. length l.items) a.subprograms
            ∙ many_more t directory old mid a.after old.place k h.item c code_within h.at is h.many front_is told_there refl refl adds
            ∙ ap (λ p. bodies_before t p + suc k) (sym a.place);
        exceptions = code.exceptions;
        rows = code.rows;
        places = code.places;
        few = (let before = h.few in
            let own = adds_few t (own_head i) (own_body i) mid.visible old.draft a.adds.words a.after.draft a.adds.adds in
            let bound = ap (λ z. procedure_bound z (own_head i).formals (own_body i)) front_is in
            let more = bounds_more_there (coded_at t old.place h.item) k c is in
            let same = ap (λ (z : Draft). here z.code) a.draft in
            let there = ap (λ p. total (bounds_from t 0 (take p all)) + total (map bound_of (take (suc k) (coded_at t p h.item)))) a.place in
            omega (arith, before, own, bound, more, same, there));
        labels = ap (λ (z : Draft). z.labels) a.draft ∙ a.told.labels ∙ ap (λ l. subprogram_labels l (own_head i) (own_body i)) h.labels
            ∙ sym (labels_more (items_labels [] (take old.place all)) (coded_at t old.place h.item) k c is)
            ∙ ap (λ p. coded_labels (items_labels [] (take p all)) (take (suc k) (coded_at t p h.item))) (sym a.place);
        choices = ap (λ (z : Draft). length z.rows.items) a.draft ∙ a.told.rows ∙ ap (λ n. subprogram_rows n (own_head i) (own_body i)) h.choices
            ∙ sym (rows_more (items_rows 0 (take old.place all)) (coded_at t old.place h.item) k c is)
            ∙ ap (λ p. coded_rows (items_rows 0 (take p all)) (take (suc k) (coded_at t p h.item))) (sym a.place);
      }
        where
          is : slice_get (coded_at t old.place h.item) k ≡ Some c
          is = coded_there i at

          front_is : mid.visible.scope ≡ c.front
          front_is = ap (λ (v : Visible). v.scope) seen_operation

          told_there : AreTold whole directory c.owner mid.visible
          told_there =
              subst (AreTold whole directory (Some o)) (sym seen_operation)
              (told_seen scopes known premises t legal restricted directory is_directory o c.front)

          adds : AddsBody t directory c mid a.after
          adds = subst (λ z. AddsBody t directory (of_operation o z components i) mid a.after) scope_is a.adds

          code : HaveCode t directory new
          code =
              code_kept t directory a.after new a.draft a.subprograms
              (code_more t directory old mid a.after old.place k h.item c code_within h.at is h.many front_is told_there refl refl adds)

          seen_so : new.visible ≡ seen_with t (Some o) (protected_items_scope s (take (suc k) items))
          seen_so =
              a.visible
              ∙ ap (λ (v : Visible). behind_operation whole directory o i
              (first_visible (length v.scope) (operation_visible whole directory o components i v))) h.seen
              ∙ behind_seen scopes known premises t legal restricted directory is_directory o u components i up
              ∙ ap (seen_with t (Some o)) (sym (items_next s items k i at))

  -- ---- behind all of them

  module _ (old : Walk) (name : Identifier) (items : List ProtectedItemTree) (end_name : Identifier)
      (at : slice_get (declared_in t.package_) old.place ≡ Some (ProtectedBody name items end_name)) (walked : IsWalked t directory old) (told : IsAsTold t old)
      (n : ℕ) (components : List RecordComponent) (mid : Walk)
      (h : IsInObjectBody t directory (object_number whole name) (object_body_scope (front t old.place) n) components items (length items) mid)
      (stays : mid.place ≡ old.place) where
    item_is : h.item ≡ ProtectedBody name items end_name
    item_is = same_some h.item (ProtectedBody name items end_name) (sym h.at ∙ ap (slice_get all) stays ∙ at)

    abbrev own_item : BodyItemTree
    own_item = ProtectedBody name items end_name

    abbrev coded : List Coded
    coded = coded_at t old.place own_item

    coded_is : coded_at t mid.place h.item ≡ coded
    coded_is = λ j. coded_at t (stays j) (item_is j)

    all_coded : take (length items) (coded_at t mid.place h.item) ≡ coded
    all_coded =
        ap (take (length items)) coded_is
        ∙ take_all (length items) coded (let many = coded_many t old.place own_item in omega (arith, many))

    scope_stays : front t (suc old.place) ≡ front t old.place
    scope_stays = scope_next (start_in t.package_) all old.place own_item at

    module _ (ends : ObjectBodiesEnd) (os : List Operation) (new : Walk) (operations : os ≡ operations_or (protected_at old.visible.scope n) [])
        (visible : new.visible ≡ record mid.visible {
          scope = with_operations (take (length old.visible.scope) mid.visible.scope) n os;
          slots = take (length old.visible.scope) mid.visible.slots;
          subprograms = take (length old.visible.scope) mid.visible.subprograms;
        }) (place : new.place ≡ mid.place + 1) (draft : new.draft ≡ mid.draft) (subprograms : new.subprograms ≡ mid.subprograms) where
      next : new.place ≡ suc old.place
      next = (let e = stays in omega (arith, place, e))

      seen_so : new.visible ≡ old.visible
      seen_so =
          visible
          ∙ left_seen scopes known premises t legal restricted directory is_directory old.place name items end_name at n ends old.visible mid.visible os
          told.seen operations (h.seen ∙ ap (λ l. seen_with t (Some (object_number whole name)) (protected_items_scope (object_body_scope (front t old.place) n) l))
          (take_all (length items) items (omega arith)))

      code : HaveCode t directory new
      code = code_kept t directory mid new draft subprograms
          (record { bodies = h.bodies; end = h.end; exceptions = h.exceptions; rows = h.rows; places = h.places })

      pub walked_behind : IsWalked t directory new
      walked_behind = record {
        scope = ap (λ (v : Visible). v.scope) seen_so ∙ walked.scope ∙ sym scope_stays ∙ ap (front t) (sym next);
        told = subst (AreTold whole directory None) (sym seen_so) walked.told;
        bodies = code.bodies;
        end = code.end;
        many = (let count = ap (λ l. length l.items) subprograms ∙ h.many in
            let there = ap (bodies_before t) stays in
            let more = among_next all old.place own_item at in
            let behind = ap (bodies_before t) next in
            omega (arith, count, there, more, behind));
        exceptions = code.exceptions;
        rows = code.rows;
        places = code.places;
      }

      pub told_behind_it : IsAsTold t new
      told_behind_it = record {
        seen = seen_so ∙ told.seen ∙ ap (seen_with t None) (sym scope_stays) ∙ ap (seen_at t) (sym next);
        few = (let few = h.few in
            let same = ap (λ (z : Draft). here z.code) draft in
            let there = ap (λ p. total (bounds_from t 0 (take p all))) stays in
            let own = ap (λ l. total (map bound_of l)) all_coded in
            let whole_is = item_bounds_next t all old.place own_item at in
            let behind = ap (λ p. total (bounds_from t 0 (take p all))) next in
            omega (arith, few, same, there, own, whole_is, behind));
        labels = ap (λ (z : Draft). z.labels) draft ∙ h.labels ∙ (λ j. coded_labels (items_labels [] (take (stays j) all)) (all_coded j))
            ∙ sym (labelled_by (items_labels [] (take old.place all)) t old.place own_item) ∙ sym (labels_next [] all old.place own_item at)
            ∙ ap (λ p. items_labels [] (take p all)) (sym next);
        rows = ap (λ (z : Draft). length z.rows.items) draft ∙ h.choices ∙ (λ j. coded_rows (items_rows 0 (take (stays j) all)) (all_coded j))
            ∙ sym (rows_by (items_rows 0 (take old.place all)) t old.place own_item) ∙ sym (rows_next 0 all old.place own_item at)
            ∙ ap (λ p. items_rows 0 (take p all)) (sym next);
      }

    -- as the code goes
    pub object_leaves : ObjectBodiesEnd → (os : List Operation) (len : ℕ) (scope : Scope) (slots : List (Option Slot)) (subprograms : List (Option ℕ))
        (new : Walk) → len ≡ length old.visible.scope → os ≡ operations_or (protected_at old.visible.scope n) []
        → scope ≡ with_operations (take len mid.visible.scope) n os → slots ≡ take len mid.visible.slots → subprograms ≡ take len mid.visible.subprograms
        → new.visible ≡ record mid.visible { scope = scope; slots = slots; subprograms = subprograms }
        → new.place ≡ mid.place + 1 → new.draft ≡ mid.draft → new.subprograms ≡ mid.subprograms
        → IsWalked t directory new × IsAsTold t new
    object_leaves ends os len scope slots subprograms new long operations scope_is slots_are subprograms_are visible place draft added =
        let seen =
        visible
        ∙ (λ j. record mid.visible { scope = scope_is j; slots = slots_are j; subprograms = subprograms_are j })
        ∙ (λ j. record mid.visible {
          scope = with_operations (take (long j) mid.visible.scope) n os;
          slots = take (long j) mid.visible.slots;
          subprograms = take (long j) mid.visible.subprograms;
        }) in
        (walked_behind ends os new operations seen place draft added, told_behind_it ends os new operations seen place draft added)

  -- ---- few objects

  -- the name of an object with a body is visible in front of it
  pub object_named : (old : Walk) (name : Identifier) (items : List ProtectedItemTree) (end_name : Identifier)
      → slice_get (declared_in t.package_) old.place ≡ Some (ProtectedBody name items end_name) → IsWalked t directory old
      → number_of old.visible.scope name.name ≡ None → ⊥
  object_named old name items end_name at walked none =
      let w = added.w scopes known premises t legal restricted in
      let n = bodies.named_n (program_of t) (start_in t.package_) all w old.place name items end_name at in
      let bad = sym (ap (λ s. number_of s name.name) walked.scope ∙ n.1) ∙ none in cc
