-- How far a walk over a package is: in front of it, behind a declaration, and behind a body, with the rows of handlers that it has.
use Rattle.std.proofs.Common.{◌≡◌, ℕ, zero, suc, ◌+◌, ◌<◌, ◌≤◌, List, [], ◌∷◌, ◌++◌, length, ◌⊎◌, inl, inr, Option, None, Some, refl, sym, ap, ◌∙◌, subst, arith, append-nil, append_assoc, length-append}
use Rattle.std.proofs.lemmas.List.Elements.{All-append, All-nil, All-weaker}
use Rattle.std.proofs.lemmas.Option.{slice_get_within}
use Rattle.std.specs.Prelude.{is_none, slice_get}
use Rattle.ada_tree.specs.declared.expression.Identifier.{Identifier}
use Rattle.ada_tree.specs.StatementTree.{SubprogramTree}
use Rattle.ada_tree.specs.ProgramTree.{BodyItemTree, BodyTree, ItemTree, OfItem, ProgramTree, SubprogramBody, TaskBody}
use Rattle.image_laws.specs.handlers.specs.declared.rows.Row.{Row}
use Rattle.image.specs.Sections.{end_of}
use Rattle.image.specs.declared.subprograms.Subprogram.{Subprogram}
use Rattle.types.specs.Scopes.{Scope}
use Rattle.type_rules.specs.ProfileRules.{subprogram_scope}
use Rattle.declaration_rules.specs.ItemRules.{item_scope}
use Rattle.unit_rules.specs.MainRules.{item_name}
use Rattle.expr_soundness.specs.meaning.specs.Programs.{program_of}
use Rattle.program_soundness.proofs.Listing.{same_some}
use Rattle.program_soundness.proofs.Walked.{scope_next}
use Rattle.program_soundness.specs.Fronts.{declared_in, front, start_in}
use Rattle.expr_soundness.proofs.Positions.{item_kept}
use Rattle.expr_code.proofs.Growing.{get_last}
use Rattle.expr_code.specs.Code.{Extends, StandsFrom, here}
use Rattle.expr_code.specs.declared.visible.Visible.{Visible}
use Rattle.stmt_code.specs.Emitting.{AddsRows}
use Rattle.step_simulation.specs.part_code.specs.Rows.{LiesWithin}
use Rattle.stmt_code.specs.Subprograms.{KeepsRules, fresh}
use Rattle.stmt_code.specs.declared.draft.Draft.{Draft}
use Rattle.stmt_code.specs.declared.tables.PlaceRow.{PlaceRow}
use Rattle.stmt_code.proofs.RowsAdded.{rows_kept, rows_then}
use Rattle.package_code.specs.Bodies.{Coded, bodies_among, bodies_before, bodies_of, coded_at, of_subprogram, of_task}
use Rattle.package_code.specs.Directory.{AreTold, TellsNext, operations_told}
use Rattle.package_code.specs.Providing.{MayBeAdded}
use Rattle.package_code.specs.Refusing.{subprogram_rows}
use Rattle.package_code.specs.Walking.{AddsBody, AddsSubprogram, BeginsWalk, HasBody, HasRows, IsDraftKept, IsOfBody, IsWalked, LieInFront, LiesInOne, begins_at, row_of}
use Rattle.package_code.specs.declared.directory.Directory.{Directory}
use Rattle.package_code.specs.declared.walk.Walk.{Walk}
use Rattle.package_code.proofs.Coded.{among_next, body_at, coded_many, get_either}
use Rattle.package_code.proofs.Seen.{first_front}
use Rattle.package_code.proofs.Told.{Grows, item_grows, subprogram_grows, told_next, unseen_told}

-- ---- what drafts keep

stands_then : {X : Type 0} (a b c : List X) → StandsFrom 0 a b → StandsFrom 0 b c → StandsFrom 0 a c
stands_then a b c h k n x up there = k n x up (h n x up there)

pub kept_self : (a : Draft) → IsDraftKept a a
kept_self a = record {
  instructions = λ n x up there. there;
  longer = omega arith;
  labels = λ n x up there. there;
  exceptions = refl;
  later = [];
  rows = sym (append-nil a.rows.items);
  behind = All-nil (λ q. here a.code ≤ q.start);
  placed = [];
  places = sym (append-nil a.rows.places);
}

pub kept_then : (a b c : Draft) → IsDraftKept a b → IsDraftKept b c → IsDraftKept a c
kept_then a b c h k = record {
  instructions = stands_then a.code.instructions.items b.code.instructions.items c.code.instructions.items h.instructions k.instructions;
  longer = (let one = h.longer in let two = k.longer in omega (arith, one, two));
  labels = stands_then a.labels b.labels c.labels h.labels k.labels;
  exceptions = k.exceptions ∙ h.exceptions;
  later = h.later ++ k.later;
  rows = k.rows ∙ ap (λ l. l ++ k.later) h.rows ∙ append_assoc a.rows.items h.later k.later;
  behind = All-append (λ q. here a.code ≤ q.start) h.later k.later h.behind
      (All-weaker (λ q. here b.code ≤ q.start) (λ q. here a.code ≤ q.start) (λ q up. let one = h.longer in omega (arith, one, up)) k.later k.behind);
  placed = h.placed ++ k.placed;
  places = k.places ∙ ap (λ l. l ++ k.placed) h.places ∙ append_assoc a.rows.places h.placed k.placed;
}

-- code that extends what is there, with these labels and rows
kept_by : (old new : Draft) → Extends (fresh old.code) new.code → StandsFrom 0 old.labels new.labels → AddsRows old new → IsDraftKept old new
kept_by old new extends labels rows = record {
  instructions = extends.instructions;
  longer = extends.longer;
  labels = labels;
  exceptions = rows.exceptions;
  later = rows.added;
  rows = rows.appended;
  behind = All-weaker (LiesWithin (here old.code) (here new.code)) (λ q. here old.code ≤ q.start) (λ q within. within.start) rows.added rows.within;
  placed = rows.placed;
  places = rows.located;
}

-- ---- where subprograms begin

get_front : {X : Type 0} (xs ys : List X) (n : ℕ) → n < length xs → slice_get (xs ++ ys) n ≡ slice_get xs n
get_front [] ys n h = absurd (omega (arith, h))
get_front (x ∷ xs) ys zero h = refl
get_front (x ∷ xs) ys (suc n) h = get_front xs ys n (omega (arith, h))

pub begins_kept : (all more : List Subprogram) (n : ℕ) → n ≤ length all → begins_at (all ++ more) n ≡ begins_at all n
begins_kept all more zero h = refl
begins_kept all more (suc n) h = ap end_of (get_front all more n (omega (arith, h)))

begins_behind : (all : List Subprogram) (s : Subprogram) → begins_at (all ++ s ∷ []) (length (all ++ s ∷ [])) ≡ s.end_
begins_behind all s =
    let long : length (all ++ s ∷ []) ≡ suc (length all) = (let e = length-append all (s ∷ []) in omega (arith, e)) in
    ap (begins_at (all ++ s ∷ [])) long ∙ ap end_of (get_last all s)

-- ---- rows of handlers

module _ (all : List Subprogram) (draft : Draft) where
  pub rows_are : (has : HasRows all draft) → draft.rows.items ≡ has.rows.added
  rows_are has = has.rows.appended ∙ ap (λ l. l ++ has.rows.added) has.none

  pub rows_in_front : HasRows all draft → LieInFront (here draft.code) draft.rows.items
  rows_in_front has =
      subst (LieInFront (here draft.code)) (sym (rows_are has))
      (All-weaker (LiesWithin (here has.begun.code) (here draft.code)) (λ q. q.end_ ≤ here draft.code) (λ q within. within.end) has.rows.added has.rows.within)

  -- in front of all
  rows_begin : draft.code.instructions.items ≡ [] → draft.rows.items ≡ [] → draft.rows.places ≡ [] → HasRows all draft
  rows_begin bare none unplaced = record {
    begun = draft;
    bare = bare;
    none = none;
    unplaced = unplaced;
    rows = rows_kept draft draft (refl, refl);
    inside = All-nil (LiesInOne all);
  }

-- behind the code of one subprogram more
module _ (all : List Subprogram) (row : Subprogram) (old new : Draft) (has : HasRows all old) (adds : AddsRows old new)
    (extends : Extends (fresh old.code) new.code) (begins : begins_at all (length all) ≡ here old.code) (ends : row.end_ ≡ here new.code) where
  abbrev more : List Subprogram
  more = all ++ row ∷ []

  longer_by_one : length more ≡ suc (length all)
  longer_by_one = let long = length-append all (row ∷ []) in omega (arith, long)

  inside_before : (q : Row) → LiesInOne all q → LiesInOne more q
  inside_before q x =
      let less = x.there in
      record {
        number = x.number;
        there = (let long = longer_by_one in omega (arith, less, long));
        within = subst (λ a. LiesWithin a (begins_at more (suc x.number)) q) (sym (begins_kept all (row ∷ []) x.number (omega (arith, less))))
            (subst (λ b. LiesWithin (begins_at all x.number) b q) (sym (begins_kept all (row ∷ []) (suc x.number) (omega (arith, less)))) x.within);
      }

  inside_last : (q : Row) → LiesWithin (here old.code) (here new.code) q → LiesInOne more q
  inside_last q within = record {
    number = length all;
    there = (let long = longer_by_one in omega (arith, long));
    within = subst (λ a. LiesWithin a (begins_at more (suc (length all))) q) (sym (begins_kept all (row ∷ []) (length all) (omega arith) ∙ begins))
        (subst (λ b. LiesWithin (here old.code) b q) (sym (ap end_of (get_last all row) ∙ ends)) within);
  }

  rows_more : HasRows more new
  rows_more = record {
    begun = has.begun;
    bare = has.bare;
    none = has.none;
    unplaced = has.unplaced;
    rows = rows_then has.begun old new has.rows adds (let none : here has.begun.code ≡ 0 = ap length has.bare in omega (arith, none)) extends.longer
        (λ place h. record { operation = h.operation; there = extends.instructions place _ (omega arith) h.there });
    inside = All-append (LiesInOne more) has.rows.added adds.added (All-weaker (LiesInOne all) (LiesInOne more) inside_before has.rows.added has.inside)
        (All-weaker (LiesWithin (here old.code) (here new.code)) (LiesInOne more) inside_last adds.added adds.within);
  }

-- ---- the walk

module _ (t : ProgramTree) (directory : Directory) where
  abbrev all : List BodyItemTree
  all = declared_in t.package_

  abbrev whole : Scope
  whole = (program_of t).scope

  -- how many bodies stand in front of the next place
  more_before : (place : ℕ) (x : BodyItemTree) → slice_get all place ≡ Some x → bodies_before t (suc place) ≡ bodies_before t place + bodies_among (x ∷ [])
  more_before place x at = among_next all place x at

  plus_none : (n : ℕ) → n + 0 ≡ n
  plus_none n = omega arith

  pub walk_begins : (s : Scope) (operations : List (List (Option ℕ))) (names : List (List ℕ)) (w : Walk) → BeginsWalk s operations names w
      → s ≡ start_in t.package_ → operations ≡ operations_told whole directory → names ≡ (program_of t).exceptions → IsWalked t directory w
  walk_begins s operations names w begins is numbers known = record {
    scope = begins.visible.scope ∙ is ∙ sym (ap (front t) begins.place ∙ first_front (start_in t.package_) all);
    told = unseen_told whole directory s operations w.visible numbers begins.visible;
    bodies = λ n c less is. absurd (let none = ap length begins.subprograms in omega (arith, less, none));
    end = ap (λ l. begins_at l (length l)) begins.subprograms ∙ sym (ap length begins.instructions);
    many = ap length begins.subprograms ∙ sym (ap (bodies_before t) begins.place);
    exceptions = begins.exceptions ∙ known;
    rows = rows_begin w.subprograms.items w.draft begins.instructions begins.rows begins.places;
    places = λ n q is. absurd (let none : None ≡ Some q = ap (λ l. slice_get l n) (sym begins.places) ∙ is in cc);
  }

  -- what bodies have stays while more are added
  moved : (old new : Walk) (number : ℕ) (c : Coded) (more : List Subprogram) → IsDraftKept old.draft new.draft
      → new.subprograms.items ≡ old.subprograms.items ++ more
      → HasBody t directory number c old → HasBody t directory number c new
  moved old new number c more kept subprograms has =
      let within = slice_get_within old.subprograms.items number (row_of c.kind has.words (here has.new.code)) has.there in
      record {
        seen = has.seen;
        scope = has.scope;
        told = has.told;
        old = has.old;
        new = has.new;
        words = has.words;
        adds = has.adds;
        called = has.called;
        keeps = has.keeps;
        rows = has.rows;
        before = has.before;
        numbered = has.numbered;
        there = ap (λ l. slice_get l number) subprograms
            ∙ item_kept old.subprograms.items more number (row_of c.kind has.words (here has.new.code)) has.there;
        begins = ap (λ l. begins_at l number) subprograms ∙ begins_kept old.subprograms.items more number (omega (arith, within)) ∙ has.begins;
        kept = kept_then has.new old.draft new.draft has.kept kept;
      }

  pub place_moved : (old new : Walk) (more : List Subprogram) (q : PlaceRow) → IsDraftKept old.draft new.draft
      → new.subprograms.items ≡ old.subprograms.items ++ more → IsOfBody t directory old q → IsOfBody t directory new q
  unfolding moved
  place_moved old new more q kept subprograms x = record {
    number = x.number;
    coded = x.coded;
    less = (let less = x.less in let long = ap length subprograms ∙ length-append old.subprograms.items more in omega (arith, less, long));
    there = x.there;
    body = moved old new x.number x.coded more kept subprograms x.body;
    index = x.index;
    among = x.among;
  }

  -- the last of the first places, or one in front of it
  pub last_or_before : (n k : ℕ) → n < suc k → (n ≡ k) ⊎ (n < k)
  last_or_before zero zero h = inl refl
  last_or_before zero (suc k) h = inr (omega arith)
  last_or_before (suc n) zero h = absurd (omega (arith, h))
  last_or_before (suc n) (suc k) h = elim (last_or_before n k (omega (arith, h))) [ inl e ↦ inl (ap suc e) | inr e ↦ inr (omega (arith, e)) ]

  -- ---- the code of the bodies so far

  -- what a walk has of them, wherever it is
  pub record HaveCode (w : Walk) : Type 0 where
    pub bodies : (number : ℕ) (c : Coded) → number < length w.subprograms.items → slice_get (bodies_of t) number ≡ Some c → HasBody t directory number c w
    pub end : begins_at w.subprograms.items (length w.subprograms.items) ≡ here w.draft.code
    pub exceptions : w.draft.exceptions.items ≡ (program_of t).exceptions
    pub rows : HasRows w.subprograms.items w.draft
    pub places : (index : ℕ) (q : PlaceRow) → slice_get w.draft.rows.places index ≡ Some q → IsOfBody t directory w q

  pub walked_code : (w : Walk) → IsWalked t directory w → HaveCode w
  walked_code w walked =
      record { bodies = walked.bodies; end = walked.end; exceptions = walked.exceptions; rows = walked.rows; places = walked.places }

  -- where nothing was added
  pub code_kept : (old new : Walk) → new.draft ≡ old.draft → new.subprograms ≡ old.subprograms → HaveCode old → HaveCode new
  code_kept old new draft subprograms has = record {
    bodies = λ n c less is. moved old new n c [] (subst (IsDraftKept old.draft) (sym draft) (kept_self old.draft))
        (ap (λ l. l.items) subprograms ∙ sym (append-nil old.subprograms.items))
        (has.bodies n c (let same = ap (λ l. length l.items) subprograms in omega (arith, less, same)) is);
    end = ap (λ l. begins_at l.items (length l.items)) subprograms ∙ has.end ∙ ap (λ z. here z.code) (sym draft);
    exceptions = ap (λ z. z.exceptions.items) draft ∙ has.exceptions;
    rows = subst (λ z. HasRows new.subprograms.items z) (sym draft) (subst (λ l. HasRows l.items old.draft) (sym subprograms) has.rows);
    places = λ n q is. place_moved old new [] q (subst (IsDraftKept old.draft) (sym draft) (kept_self old.draft))
        (ap (λ l. l.items) subprograms ∙ sym (append-nil old.subprograms.items))
        (has.places n q (ap (λ z. slice_get z.rows.places n) (sym draft) ∙ is));
  }

  -- one body more, whose code was added where its names are visible
  module _ (old mid after : Walk) (place k : ℕ) (item : BodyItemTree) (c : Coded) (has : HaveCode old) (at : slice_get all place ≡ Some item)
      (is : slice_get (coded_at t place item) k ≡ Some c) (many : length old.subprograms.items ≡ bodies_before t place + k)
      (scope : mid.visible.scope ≡ c.front) (told : AreTold whole directory c.owner mid.visible)
      (draft : mid.draft ≡ old.draft) (subprograms : mid.subprograms ≡ old.subprograms) (adds : AddsBody t directory c mid after) where
    abbrev row : Subprogram
    row = row_of c.kind adds.words (here after.draft.code)

    rows : after.subprograms.items ≡ old.subprograms.items ++ row ∷ []
    rows = adds.row ∙ ap (λ l. l.items ++ row ∷ []) subprograms

    added : AddsSubprogram t c.head c.body mid.visible old.draft adds.words after.draft
    added = subst (λ z. AddsSubprogram t c.head c.body mid.visible z adds.words after.draft) draft adds.adds

    keeps : KeepsRules (is_none c.head.result) mid.visible old.draft adds.words after.draft
    keeps = subst (λ z. KeepsRules (is_none c.head.result) mid.visible z adds.words after.draft) draft adds.keeps

    kept : IsDraftKept old.draft after.draft
    kept = kept_by old.draft after.draft keeps.extends keeps.labels keeps.rows

    this : HasBody t directory (length old.subprograms.items) c after
    this = record {
      seen = mid.visible;
      scope = scope;
      told = told;
      old = old.draft;
      new = after.draft;
      words = adds.words;
      adds = added;
      called = adds.called;
      keeps = keeps;
      rows = subst (λ z. length after.draft.rows.items ≡ subprogram_rows (length z.rows.items) c.head c.body) draft adds.told.rows;
      before = rows_in_front old.subprograms.items old.draft has.rows;
      numbered = adds.numbered ∙ ap (λ l. Some (length l.items)) subprograms;
      there = ap (λ l. slice_get l (length old.subprograms.items)) rows ∙ get_last old.subprograms.items row;
      begins = ap (λ l. begins_at l (length old.subprograms.items)) rows
          ∙ begins_kept old.subprograms.items (row ∷ []) (length old.subprograms.items) (omega arith) ∙ has.end;
      kept = kept_self after.draft;
    }

    -- the body of that number
    that : slice_get (bodies_of t) (length old.subprograms.items) ≡ Some c
    that = ap (slice_get (bodies_of t)) many ∙ body_at t place k item c at is

    by_number : (n : ℕ) (e : Coded) → slice_get (bodies_of t) n ≡ Some e → (n ≡ length old.subprograms.items) ⊎ (n < length old.subprograms.items)
        → HasBody t directory n e after
    by_number n e there (inl same) =
        let code : c ≡ e = same_some c e (sym that ∙ ap (slice_get (bodies_of t)) (sym same) ∙ there) in
        subst (λ k. HasBody t directory k e after) (sym same) (subst (λ z. HasBody t directory (length old.subprograms.items) z after) code this)
    by_number n e there (inr less) = moved old after n e (row ∷ []) kept rows (has.bodies n e less there)

    by_place : (n : ℕ) (q : PlaceRow) → (slice_get old.draft.rows.places n ≡ Some q)
        ⊎ ((k : ℕ) × (n ≡ length old.draft.rows.places + k) × (slice_get keeps.rows.placed k ≡ Some q)) → IsOfBody t directory after q
    unfolding this
    by_place n q (inl e) = place_moved old after (row ∷ []) q kept rows (has.places n q e)
    by_place n q (inr r) = record {
      number = length old.subprograms.items;
      coded = c;
      less = (let long = ap length rows ∙ length-append old.subprograms.items (row ∷ []) in omega (arith, long));
      there = that;
      body = this;
      index = r.0;
      among = r.2;
    }

    pub code_more : HaveCode after
    code_more = record {
      bodies = λ n e less there. by_number n e there
          (last_or_before n (length old.subprograms.items)
          (let long = ap length rows ∙ length-append old.subprograms.items (row ∷ []) in omega (arith, less, long)));
      end = ap (λ l. begins_at l (length l)) rows ∙ begins_behind old.subprograms.items row;
      exceptions = ap (λ e. e.items) kept.exceptions ∙ has.exceptions;
      rows = subst (λ l. HasRows l after.draft) (sym rows)
          (rows_more old.subprograms.items row old.draft after.draft has.rows keeps.rows keeps.extends has.end refl);
      places = λ n q is. by_place n q
          (get_either old.draft.rows.places keeps.rows.placed n q (ap (λ l. slice_get l n) (sym keeps.rows.located) ∙ is));
    }

    pub many_more : length after.subprograms.items ≡ bodies_before t place + suc k
    many_more = (let long = ap length rows ∙ length-append old.subprograms.items (row ∷ []) in omega (arith, long, many))

  -- ---- behind an item

  -- behind a declaration: nothing was added
  pub declared_next : (old new : Walk) (i : ItemTree) → IsWalked t directory old → slice_get all old.place ≡ Some (OfItem i)
      → new.place ≡ old.place + 1 → new.draft ≡ old.draft → new.subprograms ≡ old.subprograms → new.visible.scope ≡ front t (suc old.place)
      → AreTold whole directory None new.visible → IsWalked t directory new
  declared_next old new i walked at place draft subprograms scope told =
      let code = code_kept old new draft subprograms (walked_code old walked) in
      record {
        scope = scope ∙ ap (front t) (sym next);
        told = told;
        bodies = code.bodies;
        end = code.end;
        many = ap (λ l. length l.items) subprograms ∙ walked.many
            ∙ sym (ap (bodies_before t) next ∙ more_before old.place (OfItem i) at ∙ plus_none (bodies_before t old.place));
        exceptions = code.exceptions;
        rows = code.rows;
        places = code.places;
      }
    where
      next : new.place ≡ suc old.place
      next = omega (arith, place)

  -- behind a body of no object, the only one of its item, whose code was added where its name is visible
  pub body_next : (old mid after new : Walk) (item : BodyItemTree) (c : Coded) → IsWalked t directory old
      → slice_get all old.place ≡ Some item → coded_at t old.place item ≡ c ∷ [] → c.owner ≡ None
      → c.front ≡ front t (suc old.place)
      → mid.draft ≡ old.draft → mid.subprograms ≡ old.subprograms → mid.visible.scope ≡ front t (suc old.place) → AreTold whole directory None mid.visible
      → AddsBody t directory c mid after
      → new.place ≡ old.place + 1 → new.draft ≡ after.draft → new.subprograms ≡ after.subprograms → new.visible ≡ after.visible
      → IsWalked t directory new
  body_next old mid after new item c walked at alone outside own draft subprograms scope told adds place new_draft new_subprograms new_visible =
      record {
        scope = ap (λ v. v.scope) seen ∙ scope ∙ ap (front t) (sym next);
        told = subst (AreTold whole directory None) (sym seen) told;
        bodies = code.bodies;
        end = code.end;
        many = ap (λ l. length l.items) new_subprograms
            ∙ many_more old mid after old.place 0 item c (walked_code old walked) at is count (scope ∙ sym own) told_there draft subprograms adds
            ∙ sym (ap (bodies_before t) next ∙ more_before old.place item at
            ∙ ap (λ n. bodies_before t old.place + n) (sym (coded_many t old.place item) ∙ ap length alone));
        exceptions = code.exceptions;
        rows = code.rows;
        places = code.places;
      }
    where
      next : new.place ≡ suc old.place
      next = omega (arith, place)

      seen : new.visible ≡ mid.visible
      seen = new_visible ∙ adds.visible

      is : slice_get (coded_at t old.place item) 0 ≡ Some c
      is = ap (λ l. slice_get l 0) alone

      count : length old.subprograms.items ≡ bodies_before t old.place + 0
      count = walked.many ∙ sym (plus_none (bodies_before t old.place))

      told_there : AreTold whole directory c.owner mid.visible
      told_there = subst (λ o. AreTold whole directory o mid.visible) (sym outside) told

      code : HaveCode new
      code =
          code_kept after new new_draft new_subprograms
          (code_more old mid after old.place 0 item c (walked_code old walked) at is count (scope ∙ sym own) told_there draft subprograms adds)

  -- behind what code does there
  pub declared_goes : (old new : Walk) (i : ItemTree) (scope told_in : Scope) (name : Identifier) (later : Visible) → IsWalked t directory old
      → slice_get all old.place ≡ Some (OfItem i)
      → scope ≡ item_scope old.visible.scope i → told_in ≡ whole → name ≡ item_name i
      → TellsNext told_in directory (record old.visible { scope = scope }) name.name later
      → new.visible ≡ later → new.place ≡ old.place + 1 → new.draft ≡ old.draft → new.subprograms ≡ old.subprograms
      → IsWalked t directory new
  declared_goes old new i scope told_in name later walked at goes whole_is named next visible place draft subprograms =
      let seen : Visible = record old.visible { scope = scope } in
      let tells : TellsNext whole directory seen (item_name i).name later =
      subst (λ n. TellsNext whole directory seen n.name later) named (subst (λ s. TellsNext s directory seen name.name later) whole_is next) in
      declared_next old new i walked at place draft subprograms
      (ap (λ v. v.scope) visible ∙ tells.scope ∙ goes ∙ ap (λ s. item_scope s i) walked.scope
      ∙ sym (scope_next (start_in t.package_) all old.place (OfItem i) at))
      (subst (AreTold whole directory None) (sym visible)
      (told_next whole directory old.visible seen later (item_name i).name walked.told refl refl refl
      (subst (Grows old.visible.scope (item_name i).name) (sym goes) (item_grows old.visible.scope i)) tells))

  module _ (old : Walk) (d : SubprogramTree) (b : BodyTree) (scope told_in : Scope) (later : Visible) (walked : IsWalked t directory old)
      (at : slice_get all old.place ≡ Some (SubprogramBody d b)) (goes : scope ≡ subprogram_scope old.visible.scope d) (whole_is : told_in ≡ whole)
      (next : TellsNext told_in directory (record old.visible { scope = scope }) d.name.name later) where
    abbrev seen : Visible
    seen = record old.visible { scope = scope }

    tells : TellsNext whole directory seen d.name.name later
    tells = subst (λ s. TellsNext s directory seen d.name.name later) whole_is next

    pub scope_there : later.scope ≡ front t (suc old.place)
    scope_there =
        tells.scope ∙ goes ∙ ap (λ s. subprogram_scope s d) walked.scope ∙ sym (scope_next (start_in t.package_) all old.place (SubprogramBody d b) at)

    pub may_be_added : MayBeAdded t (front t (suc old.place)) d b → MayBeAdded t later.scope d b
    may_be_added added = subst (λ s. MayBeAdded t s d b) (sym scope_there) added

    pub body_goes : (mid after new : Walk) → mid.visible ≡ later → mid.draft ≡ old.draft → mid.subprograms ≡ old.subprograms
        → AddsBody t directory (of_subprogram mid.visible.scope d b) mid after
        → new.place ≡ old.place + 1 → new.draft ≡ after.draft → new.subprograms ≡ after.subprograms → new.visible ≡ after.visible
        → IsWalked t directory new
    body_goes mid after new visible draft subprograms adds place new_draft new_subprograms new_visible =
        body_next old mid after new (SubprogramBody d b) (of_subprogram (front t (suc old.place)) d b) walked at refl refl refl draft subprograms
        (ap (λ v. v.scope) visible ∙ scope_there)
        (subst (AreTold whole directory None) (sym visible)
        (told_next whole directory old.visible seen later d.name.name walked.told refl refl refl
        (subst (Grows old.visible.scope d.name.name) (sym goes) (subprogram_grows old.visible.scope d)) tells))
        (subst (λ s. AddsBody t directory (of_subprogram s d b) mid after) (ap (λ v. v.scope) visible ∙ scope_there) adds)
        place new_draft new_subprograms new_visible

  -- behind the body of a task, which makes no name visible
  module _ (old : Walk) (name : Identifier) (b : BodyTree) (walked : IsWalked t directory old) (at : slice_get all old.place ≡ Some (TaskBody name b)) where
    pub task_scope : old.visible.scope ≡ front t (suc old.place)
    task_scope = walked.scope ∙ sym (scope_next (start_in t.package_) all old.place (TaskBody name b) at)

    pub task_may_be_added : MayBeAdded t (front t (suc old.place)) (of_task (front t (suc old.place)) name b).head b
        → MayBeAdded t old.visible.scope (of_task old.visible.scope name b).head b
    task_may_be_added added = subst (λ s. MayBeAdded t s (of_task s name b).head b) (sym task_scope) added

    pub task_goes : (after new : Walk) → AddsBody t directory (of_task old.visible.scope name b) old after
        → new.place ≡ old.place + 1 → new.draft ≡ after.draft → new.subprograms ≡ after.subprograms → new.visible ≡ after.visible
        → IsWalked t directory new
    task_goes after new adds place new_draft new_subprograms new_visible =
        body_next old old after new (TaskBody name b) (of_task (front t (suc old.place)) name b) walked at refl refl refl refl refl task_scope walked.told
        (subst (λ s. AddsBody t directory (of_task s name b) old after) task_scope adds) place new_draft new_subprograms new_visible
