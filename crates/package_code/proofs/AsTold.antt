-- The walk over a package goes as its text tells: what is visible, labels, the number of rows, the bound on instructions; where it halts a limit may be passed, which refuses the program.
use Rattle.std.proofs.Common.{◌≡◌, ℕ, suc, ◌+◌, ◌≤◌, ◌<◌, List, [], ◌∷◌, length, map, take, inl, inr, Option, None, Some, true, refl, sym, ap, ◌∙◌, subst, arith, length-append}
use Rattle.std.specs.Prelude.{is_some, max, slice_get}
use Rattle.base.specs.declared.limits.TheConstants.{FRAME_WORDS, INSTRUCTIONS}
use Rattle.ada_tree.specs.declared.expression.Identifier.{Identifier}
use Rattle.ada_tree.specs.StatementTree.{SubprogramTree}
use Rattle.ada_tree.specs.ProgramTree.{BodyItemTree, BodyTree, ItemTree, OfItem, ProgramTree, SubprogramBody, TaskBody}
use Rattle.types.specs.Layouts.{total}
use Rattle.types.specs.Scopes.{Scope, number_of}
use Rattle.type_rules.specs.ProfileRules.{subprogram_scope}
use Rattle.declaration_rules.specs.ItemRules.{item_scope}
use Rattle.unit_rules.specs.MainRules.{item_name}
use Rattle.expr_soundness.specs.meaning.specs.Programs.{program_of}
use Rattle.program_soundness.specs.Fronts.{declared_in, front, start_in}
use Rattle.program_soundness.proofs.Walked.{item_entity, own_profile, scope_next}
use Rattle.type_rules.specs.ProfileRules.{profile_entity}
use Rattle.expr_code.specs.Code.{here}
use Rattle.expr_code.specs.Seeing.{told_of}
use Rattle.expr_code.specs.declared.refusal.ImageLimit.{ImageLimit}
use Rattle.expr_code.specs.declared.refusal.ImageLimit.TheVariants as limits
use Rattle.expr_code.specs.declared.refusal.Refusal.{Refusal}
use Rattle.expr_code.specs.declared.refusal.Refusal.TheVariants as refusal
use Rattle.expr_code.specs.declared.visible.Visible.{Visible}
use Rattle.step_simulation.specs.part_code.specs.Bounds.{main_bound, procedure_bound}
use Rattle.step_simulation.specs.part_code.specs.Emitting.{HasEntries}
use Rattle.step_simulation.specs.part_code.specs.Needs.{IsNeeding, Needs}
use Rattle.step_simulation.specs.part_code.proofs.Within.{Within, labelled, needing_refused, within_then}
use Rattle.package_code.specs.Bodies.{Coded, bodies_before, bodies_of, coded_at, number_in, of_subprogram}
use Rattle.package_code.specs.Counts.{bound_of, bounds_from}
use Rattle.package_code.specs.Directory.{IsDirectory, HasEntriesSoFar, TellsNext, operations_told}
use Rattle.package_code.specs.Refusing.{RefusesCode, body_needs, coded_labels, coded_rows, item_needs, items_labels, items_needs, items_rows, program_bound, program_labels, program_needs, seen_at, seen_by, seen_with, subprogram_labels, subprogram_rows}
use Rattle.package_code.specs.Stopping.{IsHalt, PassesBehind, StopsByFrame, StopsByInstructions, StopsInCode, halt_for}
use Rattle.package_code.specs.Walking.{AddsAsTold, AddsBody, BeginsWalk, HasBody, IsAsTold, IsWalked, RefusesBody, begins_at}
use Rattle.package_code.specs.declared.directory.Directory.{Directory}
use Rattle.package_code.specs.declared.walk.Walk.{Walk}
use Rattle.package_code.proofs.Coded.{labelled_by, needs_by, rows_by}
use Rattle.package_code.proofs.Counted.{adds_few}
use Rattle.package_code.proofs.ItemsTold.{bound_behind, bound_next, bounds_next, bounds_upto, labels_inside, labels_next, labels_within, needs_within, none_taken, plus_none, rows_next}
use Rattle.package_code.proofs.Seen.{known_name, operations_are, seen_first, seen_next}
use Rattle.package_code.proofs.Told.{Grows, item_grows, subprogram_grows}

-- ---- entries for all names, or for all but one

pub entries_next : (v mid : Visible) (name : List ℕ) → HasEntries v → Grows v.scope name mid.scope → mid.slots ≡ v.slots
    → mid.subprograms ≡ v.subprograms → HasEntriesSoFar mid
entries_next v mid name has (inl same) slots subprograms =
    inl (ap length slots ∙ has.slots ∙ ap length (sym same), ap length subprograms ∙ has.subprograms ∙ ap length (sym same))
entries_next v mid name has (inr grown) slots subprograms =
    let long = ap length grown.1 ∙ length-append v.scope (record { name = name; entity = grown.0 } ∷ []) in
    let a = ap length slots ∙ has.slots in
    let b = ap length subprograms ∙ has.subprograms in
    inr (one (length mid.slots) (length v.scope) (length mid.scope) a long, one (length mid.subprograms) (length v.scope) (length mid.scope) b long)
  where
    one : (n m k : ℕ) → n ≡ m → k ≡ m + 1 → suc n ≡ k
    one n m k a b = omega (arith, a, b)

-- ---- what is refused for no limit, and what it keeps

module _ (t : ProgramTree) where
  abbrev start : Scope
  start = start_in t.package_

  abbrev all : List BodyItemTree
  all = declared_in t.package_

  abbrev whole : Scope
  whole = (program_of t).scope

  -- in front of all
  pub begins_told : (directory : Directory) → IsDirectory t directory → (s : Scope) (operations : List (List (Option ℕ))) (names : List (List ℕ)) (w : Walk)
      → BeginsWalk s operations names w → s ≡ start → operations ≡ operations_told whole directory → IsAsTold t w
  begins_told directory told s operations names w begins is numbers = record {
    seen = seen_first t s operations w.visible begins.visible (numbers ∙ operations_are t directory told) is ∙ ap (seen_at t) (sym begins.place);
    few = (let none : here w.draft.code ≡ 0 = ap length begins.instructions in omega (arith, none));
    labels = begins.labels ∙ ap (items_labels []) (sym (ap (λ n. take n all) begins.place ∙ none_taken all));
    rows = ap length begins.rows ∙ ap (items_rows 0) (sym (ap (λ n. take n all) begins.place ∙ none_taken all));
  }

  -- ---- behind a declaration

  pub declared_told : (directory : Directory) → IsDirectory t directory → (old new : Walk) (i : ItemTree) (scope told_in : Scope) (name : Identifier)
      (later : Visible) → IsAsTold t old → slice_get all old.place ≡ Some (OfItem i)
      → scope ≡ item_scope old.visible.scope i → told_in ≡ whole → name ≡ item_name i
      → TellsNext told_in directory (record old.visible { scope = scope }) name.name later
      → new.visible ≡ later → new.place ≡ old.place + 1 → new.draft ≡ old.draft → IsAsTold t new
  declared_told directory is old new i scope told_in name later told at goes whole_is named tells visible place draft = record {
    seen = visible ∙ seen_next t directory is old.place (item_name i).name
        (known_name t old.place (OfItem i) (item_name i).name (item_entity (front t old.place) i) at refl) old.visible later scope told.seen next_is
        (subst (Grows (front t old.place) (item_name i).name) (sym (scope_next start all old.place (OfItem i) at)) (item_grows (front t old.place) i))
        moved
        ∙ ap (seen_at t) (sym next);
    few = under (here old.draft.code) (here new.draft.code) (total (bounds_from t 0 (take old.place all))) (total (bounds_from t 0 (take new.place all)))
        (ap (λ d. here d.code) draft) told.few (subst (λ n. total (bounds_from t 0 (take old.place all)) ≤ total (bounds_from t 0 (take n all))) (sym next)
        (bounds_next t all old.place (OfItem i) at));
    labels = ap (λ d. d.labels) draft ∙ told.labels ∙ sym (labels_next [] all old.place (OfItem i) at) ∙ ap (λ n. items_labels [] (take n all)) (sym next);
    rows = ap (λ d. length d.rows.items) draft ∙ told.rows ∙ sym (rows_next 0 all old.place (OfItem i) at) ∙ ap (λ n. items_rows 0 (take n all)) (sym next);
  }
    where
      next : new.place ≡ suc old.place
      next = omega (arith, place)

      next_is : scope ≡ front t (suc old.place)
      next_is = goes ∙ ap (λ v. item_scope v.scope i) told.seen ∙ sym (scope_next start all old.place (OfItem i) at)

      moved : TellsNext whole directory (record old.visible { scope = scope }) (item_name i).name later
      moved =
          subst (λ n. TellsNext whole directory (record old.visible { scope = scope }) n.name later) named
          (subst (λ s. TellsNext s directory (record old.visible { scope = scope }) name.name later) whole_is tells)

      under : (a b c d : ℕ) → b ≡ a → a ≤ c → c ≤ d → b ≤ d
      under a b c d e h k = omega (arith, e, h, k)

  -- ---- where a body is added

  module _ (directory : Directory) (is : IsDirectory t directory) (old : Walk) (d : SubprogramTree) (b : BodyTree) (scope told_in : Scope) (later : Visible)
      (told : IsAsTold t old) (at : slice_get all old.place ≡ Some (SubprogramBody d b)) (goes : scope ≡ subprogram_scope old.visible.scope d)
      (whole_is : told_in ≡ whole) (tells : TellsNext told_in directory (record old.visible { scope = scope }) d.name.name later) where
    known : (n : ℕ) × (number_of whole d.name.name ≡ Some n)
    known = known_name t old.place (SubprogramBody d b) d.name.name (profile_entity (own_profile (front t old.place) d)) at refl

    pub seen_there : later ≡ seen_at t (suc old.place)
    seen_there =
        seen_next t directory is old.place d.name.name known old.visible later scope told.seen
        (goes ∙ ap (λ v. subprogram_scope v.scope d) told.seen ∙ sym (scope_next start all old.place (SubprogramBody d b) at))
        (subst (Grows (front t old.place) d.name.name) (sym (scope_next start all old.place (SubprogramBody d b) at))
        (subprogram_grows (front t old.place) d))
        (subst (λ s. TellsNext s directory (record old.visible { scope = scope }) d.name.name later) whole_is tells)

    pub number_there : (many : ℕ) → number_in t None d.name.name ≡ Some many → told_of whole directory.numbers.items d.name.name ≡ Some many
    number_there many numbered = is.numbers d.name.name known.0 known.1 ∙ numbered

  -- ---- where the body of a task is added, which makes no name visible

  pub task_seen : (old : Walk) (name : Identifier) (b : BodyTree) → IsAsTold t old → slice_get all old.place ≡ Some (TaskBody name b)
      → old.visible ≡ seen_at t (suc old.place)
  task_seen old name b told at = told.seen ∙ ap (seen_with t None) (sym (scope_next start all old.place (TaskBody name b) at))

  pub task_number : (directory : Directory) → IsDirectory t directory → (name : List ℕ) → is_some (number_of whole name) ≡ true → (many : ℕ)
      → number_in t None name ≡ Some many → told_of whole directory.numbers.items name ≡ Some many
  task_number directory is name visible many numbered = by_number (number_of whole name) refl visible
    where
      by_number : (o : Option ℕ) → number_of whole name ≡ o → is_some o ≡ true → told_of whole directory.numbers.items name ≡ Some many
      by_number (Some n) e h = is.numbers name n e ∙ numbered
      by_number None e h = cc

  -- ---- behind a body

  -- ... which is the only one of its item
  pub body_told : (directory : Directory) (old : Walk) (item : BodyItemTree) (c : Coded) → IsAsTold t old → slice_get all old.place ≡ Some item
      → coded_at t old.place item ≡ c ∷ []
      → (mid after new : Walk) → mid.visible ≡ seen_at t (suc old.place) → mid.visible.scope ≡ c.front → mid.draft ≡ old.draft
      → AddsBody t directory c mid after → AddsAsTold mid.draft c.head c.body after.draft
      → new.place ≡ old.place + 1 → new.draft ≡ after.draft → new.visible ≡ after.visible → IsAsTold t new
  body_told directory old item c told at alone mid after new visible scope draft adds told_there place new_draft new_visible = record {
    seen = new_visible ∙ adds.visible ∙ visible ∙ ap (seen_at t) (sym next);
    few = under (here old.draft.code) (here mid.draft.code) (here after.draft.code) (here new.draft.code)
        (procedure_bound mid.visible.scope c.head.formals c.body) (bound_of c)
        (total (bounds_from t 0 (take old.place all))) (total (bounds_from t 0 (take (suc old.place) all))) (total (bounds_from t 0 (take new.place all)))
        told.few (ap (λ z. here z.code) draft) (adds_few t c.head c.body mid.visible mid.draft adds.words after.draft adds.adds)
        (ap (λ s. procedure_bound s c.head.formals c.body) scope)
        (ap (λ z. here z.code) new_draft) (bound_next t all old.place item 0 c at (ap (λ l. slice_get l 0) alone))
        (ap (λ n. total (bounds_from t 0 (take n all))) next);
    labels = ap (λ z. z.labels) new_draft ∙ told_there.labels ∙ ap (λ z. subprogram_labels z.labels c.head c.body) draft
        ∙ ap (λ l. subprogram_labels l c.head c.body) told.labels
        ∙ sym (labelled_by (items_labels [] (take old.place all)) t old.place item ∙ ap (coded_labels (items_labels [] (take old.place all))) alone)
        ∙ sym (labels_next [] all old.place item at)
        ∙ ap (λ n. items_labels [] (take n all)) (sym next);
    rows = ap (λ z. length z.rows.items) new_draft ∙ told_there.rows ∙ ap (λ z. subprogram_rows (length z.rows.items) c.head c.body) draft
        ∙ ap (λ n. subprogram_rows n c.head c.body) told.rows
        ∙ sym (rows_by (items_rows 0 (take old.place all)) t old.place item ∙ ap (coded_rows (items_rows 0 (take old.place all))) alone)
        ∙ sym (rows_next 0 all old.place item at)
        ∙ ap (λ n. items_rows 0 (take n all)) (sym next);
  }
    where
      next : new.place ≡ suc old.place
      next = omega (arith, place)

      under : (a m c n p q s x y : ℕ) → a ≤ s → m ≡ a → c ≤ m + p → p ≡ q → n ≡ c → s + q ≤ x → y ≡ x → n ≤ y
      under a m c n p q s x y h e k f g up last = omega (arith, h, e, k, f, g, up, last)

  -- that of a subprogram, where its name and those in front are visible
  pub subprogram_told : (directory : Directory) (old : Walk) (d : SubprogramTree) (b : BodyTree) → IsAsTold t old
      → slice_get all old.place ≡ Some (SubprogramBody d b)
      → (mid after new : Walk) → mid.visible ≡ seen_at t (suc old.place) → mid.draft ≡ old.draft
      → AddsBody t directory (of_subprogram mid.visible.scope d b) mid after → AddsAsTold mid.draft d b after.draft
      → new.place ≡ old.place + 1 → new.draft ≡ after.draft → new.visible ≡ after.visible → IsAsTold t new
  subprogram_told directory old d b told at mid after new visible draft adds told_there place new_draft new_visible =
      let scope = ap (λ v. v.scope) visible in
      body_told directory old (SubprogramBody d b) (of_subprogram (front t (suc old.place)) d b) told at refl mid after new visible scope draft
      (subst (λ s. AddsBody t directory (of_subprogram s d b) mid after) scope adds) told_there place new_draft new_visible

  -- ---- where the walk halts

  needs_refused : (m n : ℕ) (a : Needs) (why : Refusal) → m ≤ n → Within a (items_needs t 0 all) → n ≤ program_bound t
      → IsNeeding m a why → RefusesCode t why
  needs_refused m n a why up within low r = inl (needing_refused m (program_bound t) a (program_needs t) (omega (arith, up, low)) within why r)

  item_within : (place : ℕ) (x : BodyItemTree) → slice_get all place ≡ Some x → Within (item_needs t place x) (items_needs t 0 all)
  item_within place x at =
      let none : 0 + place ≡ place = omega arith in
      subst (λ n. Within (item_needs t n x) (items_needs t 0 all)) none (needs_within t all 0 place x at)

  -- of a body, in front of which the others of its item have their code
  module _ (place : ℕ) (item : BodyItemTree) (k : ℕ) (c : Coded) (at : slice_get all place ≡ Some item) (is : slice_get (coded_at t place item) k ≡ Some c) where
    needs_there : Within (body_needs t c) (items_needs t 0 all)
    needs_there = within_then (body_needs t c) (item_needs t place item) (items_needs t 0 all) (needs_by t place item k c is) (item_within place item at)

    -- behind at most so many instructions it is within the bound of all
    bounded : (n : ℕ) → n ≤ total (bounds_from t 0 (take place all)) + total (map bound_of (take k (coded_at t place item))) → n + bound_of c ≤ program_bound t
    bounded n few =
        up n (bound_of c) (total (bounds_from t 0 (take place all))) (total (map bound_of (take k (coded_at t place item))))
        (total (bounds_from t 0 all)) (main_bound t.main.statements) few
        (subst (λ p. total (bounds_from t 0 (take place all)) + bounds_upto (coded_at t p item) k c ≤ total (bounds_from t 0 all)) none
        (bound_behind t all 0 place item k c at (subst (λ n. slice_get (coded_at t n item) k ≡ Some c) (sym none) is)))
      where
        none : 0 + place ≡ place
        none = omega arith

        up : (a p s f x m : ℕ) → a ≤ s + f → s + (f + p) ≤ x → a + p ≤ x + m
        up a p s f x m h k = omega (arith, h, k)

    -- so the limit that its code may pass there refuses the program
    pub passes_refuse : (before : ℕ) → before ≤ total (bounds_from t 0 (take place all)) + total (map bound_of (take k (coded_at t place item)))
        → (limit : ImageLimit) → PassesBehind t c before limit → RefusesCode t (refusal.Limit limit)
    passes_refuse before few limit (inl n) =
        needs_refused (before + bound_of c) (before + bound_of c) (body_needs t c) (refusal.Limit limit) (omega arith) needs_there (bounded before few) n
    passes_refuse before few limit (inr h) = inr h

    labels_less : length (subprogram_labels (coded_labels (items_labels [] (take place all)) (take k (coded_at t place item))) c.head c.body)
        ≤ length (program_labels t)
    labels_less =
        let own = labels_inside (items_labels [] (take place all)) (coded_at t place item) k c is in
        let item_is = ap length (labelled_by (items_labels [] (take place all)) t place item) in
        let within = labels_within [] all place item at in
        omega (arith, own, item_is, within)

    module _ (directory : Directory) (old : Walk)
        (bodies : (number : ℕ) (b : Coded) → number < length old.subprograms.items → slice_get (bodies_of t) number ≡ Some b → HasBody t directory number b old)
        (ends : begins_at old.subprograms.items (length old.subprograms.items) ≡ here old.draft.code)
        (many : length old.subprograms.items ≡ bodies_before t place + k)
        (few : here old.draft.code ≤ total (bounds_from t 0 (take place all)) + total (map bound_of (take k (coded_at t place item))))
        (labels : old.draft.labels ≡ coded_labels (items_labels [] (take place all)) (take k (coded_at t place item)))
        (v : Visible) (seen : v ≡ seen_by t c)
        (name before : ℕ) (name_is : name ≡ c.head.name.place) (before_is : before ≡ here old.draft.code) where
      passing : (limit : ImageLimit) → RefusesBody (seen_by t c) old.draft c.head c.body (refusal.Limit limit)
          → PassesBehind t c (here old.draft.code) limit
      passing limit (inl n) = inl n
      passing limit (inr h) =
          inr (labelled (subprogram_labels old.draft.labels c.head c.body) (program_labels t)
          (subst (λ l. length (subprogram_labels l c.head c.body) ≤ length (program_labels t)) (sym labels) labels_less) (refusal.Limit limit) h)

      stopped : (limit : ImageLimit) → PassesBehind t c (here old.draft.code) limit → StopsInCode t limit name
      stopped limit passes = record {
        coded = c;
        body = record { place = place; item = item; index = k; at = at; coded = is };
        place_is = name_is;
        directory = directory;
        front = old;
        many = many;
        bodies = bodies;
        end = ends;
        few = few;
        passes = passes;
      }

      by_instructions : PassesBehind t c (here old.draft.code) limits.Instructions → StopsByInstructions t name before
      unfolding stopped
      by_instructions p = record { in_code = stopped limits.Instructions p; before_is = before_is; many = more p }
        where
          more : PassesBehind t c (here old.draft.code) limits.Instructions → INSTRUCTIONS < before + bound_of c
          more (inl h) = omega (arith, h, before_is)
          more (inr h) = absurd h

      by_frame : PassesBehind t c (here old.draft.code) limits.Frame → StopsByFrame t name
      unfolding stopped
      by_frame p = record { in_code = stopped limits.Frame p; large = more p }
        where
          more : PassesBehind t c (here old.draft.code) limits.Frame → FRAME_WORDS < max (body_needs t c).stack (body_needs t c).frame
          more (inl h) = h
          more (inr h) = absurd h

      halts_so : (why : Refusal) → RefusesBody (seen_by t c) old.draft c.head c.body why → IsHalt t (halt_for why name before)
      halts_so refusal.Memory r = inl tt
      halts_so (refusal.Limit limits.Instructions) r = by_instructions (passing limits.Instructions r)
      halts_so (refusal.Limit limits.Frame) r = by_frame (passing limits.Frame r)
      halts_so (refusal.Limit limit) r = passes_refuse (here old.draft.code) few limit (passing limit r)

      -- its code isn't made
      pub code_halts : (why : Refusal) → RefusesBody v old.draft c.head c.body why → IsHalt t (halt_for why name before)
      code_halts why r = halts_so why (subst (λ u. RefusesBody u old.draft c.head c.body why) seen r)

  -- the first body of an item
  pub body_halts : (directory : Directory) (old : Walk) (item : BodyItemTree) (c : Coded) (v : Visible) → IsWalked t directory old → IsAsTold t old
      → slice_get all old.place ≡ Some item → slice_get (coded_at t old.place item) 0 ≡ Some c → v ≡ seen_by t c
      → (before : ℕ) → before ≡ here old.draft.code → (why : Refusal) → RefusesBody v old.draft c.head c.body why
      → IsHalt t (halt_for why c.head.name.place before)
  body_halts directory old item c v walked told at is seen before before_is why r =
      let none = none_taken (coded_at t old.place item) in
      code_halts old.place item 0 c at is directory old walked.bodies walked.end (walked.many ∙ sym (plus_none (bodies_before t old.place)))
      (let few = told.few in let more = ap (λ l. total (map bound_of l)) none in omega (arith, few, more))
      (told.labels ∙ ap (coded_labels (items_labels [] (take old.place all))) (sym none)) v seen c.head.name.place before refl before_is why r
