-- The rows of handlers of an image that was put together keep the rules of images on rows (docs/FORMATS.md, 44, 46 and 47).
use Rattle.std.proofs.Common.{◌≡◌, ℕ, zero, suc, ◌-◌, ◌<◌, ◌≤◌, List, [], ◌∷◌, ◌++◌, length, Bool, true, ◌&&◌, Some, refl, sym, ap, ◌∙◌, subst, arith, rules, length-append}
use Rattle.std.proofs.lemmas.Bool.{and_from, and_parts, le-leb, lt-ltb, ltb-true}
use Rattle.std.proofs.lemmas.List.Elements.{All-weaker}
use Rattle.std.proofs.lemmas.List.Sums.{list_all-from_AllPass}
use Rattle.std.specs.List.{All, list_all}
use Rattle.std.specs.Prelude.{nat_eq, nat_le, slice_get}
use Rattle.ada_tree.specs.ProgramTree.{ProgramTree}
use Rattle.image_laws.specs.handlers.specs.Nesting.{all_nested}
use Rattle.image_laws.specs.handlers.specs.declared.rows.Row.{Row}
use Rattle.image.specs.RuleLaws.{begin_of, begin_of-next, rises}
use Rattle.image.specs.Rules.{all_begun, covers_places, has_depth, has_ends, is_row_within, none_or, same_number}
use Rattle.image.specs.Sections.{Sections, end_of, holder_number}
use Rattle.image.specs.declared.subprograms.Subprogram.{Subprogram}
use Rattle.expr_code.specs.Code.{here}
use Rattle.stmt_code.specs.Emitting.{FindsException}
use Rattle.step_simulation.specs.part_code.specs.Rows.{LiesWithin}
use Rattle.stmt_code.proofs.Whole.{number_here, number_later}
use Rattle.package_code.specs.Program.{HasProgram}
use Rattle.package_code.specs.Walking.{HasRows, LiesInOne, begins_at}
use Rattle.package_code.proofs.Linking.{main_row}
use Rattle.package_code.proofs.Walked.{begins_kept, rows_are}

-- ---- the subprogram that holds a place

begins_up : (all : List Subprogram) (first n : ℕ) → all_begun rises first all ≡ true → n ≤ length all → first ≤ begin_of first all n
begins_up all first zero h up = omega arith
begins_up [] first (suc n) h up = absurd (omega (arith, up))
begins_up (s ∷ rest) first (suc n) h up =
    let both = and_parts (rises first s) (all_begun rises s.end_ rest) h in
    let less = ltb-true first s.end_ both.0 in
    let more = begins_up rest s.end_ n both.1 (omega (arith, up)) in
    subst (λ k. first ≤ k) (sym (begin_of-next first n s rest)) (omega (arith, less, more))

module _ (i : Sections) where
  number_at : (all : List Subprogram) (first n place : ℕ) → all_begun rises first all ≡ true → n < length all → begin_of first all n ≤ place
      → place < begin_of first all (suc n) → holder_number all place ≡ Some n
  number_at [] first n place h less low high = absurd (omega (arith, less))
  number_at (s ∷ rest) first zero place h less low high = number_here i s rest place high
  number_at (s ∷ rest) first (suc n) place h less low high =
      let both = and_parts (rises first s) (all_begun rises s.end_ rest) h in
      let down : begin_of s.end_ rest n ≤ place = subst (λ k. k ≤ place) (begin_of-next first n s rest) low in
      let up : place < begin_of s.end_ rest (suc n) = subst (λ k. place < k) (begin_of-next first (suc n) s rest) high in
      let begins = begins_up rest s.end_ n both.1 (omega (arith, less)) in
      number_later i s rest place n (omega (arith, begins, down)) (number_at rest s.end_ n place both.1 (omega (arith, less)) down up)

same_nat : (n : ℕ) → nat_eq n n ≡ true
same_nat n = search rules

module _ (i : Sections) (all : List Subprogram) (last : Subprogram) (subprograms : i.subprograms ≡ all ++ last ∷ []) (ends : has_ends i ≡ true) where
  begins_are : (n : ℕ) → n ≤ length all → begin_of 0 i.subprograms n ≡ begins_at all n
  begins_are zero up = refl
  begins_are (suc n) up = ap (λ l. end_of (slice_get l n)) subprograms ∙ begins_kept all (last ∷ []) (suc n) up

  held : (n place : ℕ) → n < length all → begins_at all n ≤ place → place < begins_at all (suc n) → holder_number i.subprograms place ≡ Some n
  held n place less low high =
      let long = ap length subprograms ∙ length-append all (last ∷ []) in
      number_at i i.subprograms 0 n place (and_parts (all_begun rises 0 i.subprograms) _ ends).0 (omega (arith, less, long))
      (subst (λ k. k ≤ place) (sym (begins_are n (omega (arith, less)))) low) (subst (λ k. place < k) (sym (begins_are (suc n) (omega (arith, less)))) high)

  -- a row of one subprogram
  row_within : (q : Row) → LiesInOne all q → is_row_within i q ≡ true
  row_within q x =
      let s = x.within.start in
      let p = x.within.places in
      let e = x.within.end in
      let first = held x.number q.start x.there s (omega (arith, p, e)) in
      let final = held x.number (q.end_ - 1) x.there (omega (arith, s, p)) (omega (arith, p, e)) in
      let target = held x.number q.target x.there x.within.down x.within.up in
      (λ j. same_number (first j) (final j) && same_number (first j) (target j))
      ∙ and_from (nat_eq x.number x.number) (nat_eq x.number x.number) (same_nat x.number) (same_nat x.number)

-- ---- tests of all rows

module _ (t : ProgramTree) (i : Sections) (h : HasProgram t i) where
  abbrev all : List Subprogram
  all = h.walk.subprograms.items

  abbrev has : HasRows all h.walk.draft
  has = h.walked.rows

  rows : i.rows ≡ has.rows.added
  rows = h.rows ∙ ap (λ r. r.items) h.main.rows ∙ rows_are all h.walk.draft has

  tested : (P : Row → Type 0) (test : Row → Bool) → ((q : Row) → P q → test q ≡ true) → All P has.rows.added → list_all test i.rows ≡ true
  tested P test passes each =
      ap (list_all test) rows ∙ list_all-from_AllPass test has.rows.added (All-weaker P (λ q. test q ≡ true) passes has.rows.added each)

  pub rows_cover : list_all covers_places i.rows ≡ true
  rows_cover =
      tested (LiesWithin (here has.begun.code) (here h.walk.draft.code)) covers_places (λ q within. lt-ltb q.start q.end_ within.places) has.rows.within

  pub rows_within : has_ends i ≡ true → list_all (is_row_within i) i.rows ≡ true
  rows_within ends = tested (LiesInOne all) (is_row_within i) (row_within i all (main_row h.words (here h.draft.code)) h.subprograms ends) has.inside

  pub rows_find : list_all (λ q. has_depth i q.target 1) i.rows ≡ true
  rows_find =
      tested (λ q. FindsException h.walk.draft.code q.target) (λ q. has_depth i q.target 1)
      (λ q finds.
      ap (λ o. none_or o (λ x. nat_eq x.depth 1))
      (ap (λ l. slice_get l q.target) h.instructions ∙ h.keeps.extends.instructions q.target _ (omega arith) finds.there))
      has.rows.ready

  exceptions_are : has.begun.exceptions.items ≡ i.exceptions
  exceptions_are = ap (λ e. e.items) (sym has.rows.exceptions) ∙ h.walked.exceptions ∙ sym (h.exceptions ∙ h.are.exceptions)

  pub rows_known : list_all (λ q. nat_le q.exception (length i.exceptions)) i.rows ≡ true
  rows_known =
      tested (λ q. q.exception ≤ length has.begun.exceptions.items) (λ q. nat_le q.exception (length i.exceptions))
      (λ q known. le-leb q.exception (length i.exceptions) (subst (λ l. q.exception ≤ length l) exceptions_are known)) has.rows.known

  pub rows_nested : all_nested i.rows ≡ true
  rows_nested = ap all_nested rows ∙ has.rows.nested
