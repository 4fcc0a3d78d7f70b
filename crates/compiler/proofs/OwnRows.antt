-- The rows of handlers in the code of a body are those that its handlers' choices have, and none lies in the code of main.
use Rattle.std.proofs.Common.{◌≡◌, ℕ, ◌+◌, ◌<◌, ◌≤◌, List, [], ◌∷◌, ◌++◌, length, length-append, Bool, true, false, cond, Some, refl, sym, ap, ◌∙◌, subst, arith}
use Rattle.std.proofs.lemmas.Bool.{and_parts, leb-true}
use Rattle.std.proofs.lemmas.List.Elements.{All-cons, All-head, All-nil, All-tail, All-weaker}
use Rattle.std.proofs.lemmas.Option.{slice_get_within}
use Rattle.std.specs.List.{All, filter}
use Rattle.std.specs.Prelude.{◌&&◌, nat_le, slice_get}
use Rattle.ada_tree.specs.ProgramTree.{ProgramTree}
use Rattle.image_laws.specs.handlers.specs.declared.rows.Row.{Row}
use Rattle.image.specs.Operations.{called}
use Rattle.image.specs.Sections.{Sections, end_of, first_place}
use Rattle.image.specs.declared.subprograms.Subprogram.{Subprogram}
use Rattle.expr_code.specs.Code.{here}
use Rattle.step_simulation.specs.part_code.specs.Rows.{LiesWithin}
use Rattle.package_code.specs.Bodies.{Coded, bodies_of}
use Rattle.package_code.specs.Program.{HasProgram}
use Rattle.package_code.specs.Refusing.{subprogram_rows}
use Rattle.package_code.specs.Walking.{HasBody, LieInFront, row_of}
use Rattle.package_code.proofs.Linking.{body_there, called_front, called_main, first_is, first_main}
use Rattle.package_code.proofs.Walked.{rows_are, rows_in_front}
use Rattle.compiler.specs.Compiled.{rows_in_code}

-- ---- rows between two places

abbrev lies_between : (first last : ℕ) → Row → Bool
lies_between first last q = nat_le first q.start && nat_le q.end_ last

abbrev rows_between : (first last : ℕ) → List Row → List Row
rows_between first last rows = filter (λ q. lies_between first last q) rows

-- a row that covers a place
abbrev Covers : Row → Type 0
Covers q = q.start < q.end_

module _ {X : Type 0} (P : X → Type 0) where
  all_front : (xs ys : List X) → All P (xs ++ ys) → All P xs
  all_front [] ys h = All-nil P
  all_front (x ∷ xs) ys h = All-cons P x xs (All-head P x (xs ++ ys) h) (all_front xs ys (All-tail P x (xs ++ ys) h))

  all_behind : (xs ys : List X) → All P (xs ++ ys) → All P ys
  all_behind [] ys h = h
  all_behind (x ∷ xs) ys h = all_behind xs ys (All-tail P x (xs ++ ys) h)

module _ (first last : ℕ) where
  none_of : (rest : List Row) (b : Bool) (q : Row) → (b ≡ true → ⊥) → length (cond b (q ∷ rest) rest) ≡ length rest
  none_of rest true q out = absurd (out refl)
  none_of rest false q out = refl

  few_of : (rest : List Row) (b : Bool) (q : Row) → length (cond b (q ∷ rest) rest) ≤ 1 + length rest
  few_of rest true q = omega arith
  few_of rest false q = omega arith

  between_both : (rows more : List Row) → rows_between first last (rows ++ more) ≡ rows_between first last rows ++ rows_between first last more
  between_both [] more = refl
  between_both (q ∷ rows) more = one (lies_between first last q) (between_both rows more)
    where
      one : (b : Bool) → rows_between first last (rows ++ more) ≡ rows_between first last rows ++ rows_between first last more
          → cond b (q ∷ rows_between first last (rows ++ more)) (rows_between first last (rows ++ more))
          ≡ cond b (q ∷ rows_between first last rows) (rows_between first last rows) ++ rows_between first last more
      one true e = ap (λ l. q ∷ l) e
      one false e = e

  -- no more than all
  between_few : (rows : List Row) → length (rows_between first last rows) ≤ length rows
  between_few [] = omega arith
  between_few (q ∷ rows) =
      let rest = between_few rows in
      let one = few_of (rows_between first last rows) (lies_between first last q) q in
      omega (arith, rest, one)

  -- none of those that don't lie there
  between_none : (P Q : Row → Type 0) → ((q : Row) → P q → Q q → lies_between first last q ≡ true → ⊥) → (rows : List Row) → All P rows → All Q rows
      → length (rows_between first last rows) ≡ 0
  between_none P Q out [] ps qs = refl
  between_none P Q out (q ∷ rows) ps qs =
      none_of (rows_between first last rows) (lies_between first last q) q (out q (All-head P q rows ps) (All-head Q q rows qs))
      ∙ between_none P Q out rows (All-tail P q rows ps) (All-tail Q q rows qs)

  low_of : (q : Row) → lies_between first last q ≡ true → first ≤ q.start
  low_of q is = leb-true first q.start (and_parts (nat_le first q.start) (nat_le q.end_ last) is).0

  high_of : (q : Row) → lies_between first last q ≡ true → q.end_ ≤ last
  high_of q is = leb-true q.end_ last (and_parts (nat_le first q.start) (nat_le q.end_ last) is).1

  none_in_front : (rows : List Row) → All Covers rows → LieInFront first rows → length (rows_between first last rows) ≡ 0
  none_in_front rows covers in_front =
      between_none Covers (λ q. q.end_ ≤ first) (λ q less le is. let up = low_of q is in omega (arith, less, le, up)) rows covers in_front

  none_behind : (rows : List Row) → All Covers rows → All (λ q. last ≤ q.start) rows → length (rows_between first last rows) ≡ 0
  none_behind rows covers behind =
      between_none Covers (λ q. last ≤ q.start) (λ q less le is. let up = high_of q is in omega (arith, less, le, up)) rows covers behind

  -- rows before those of a body, its own, and rows after them
  own_few : (old own later rows : List Row) (many : ℕ) → rows ≡ (old ++ own) ++ later → All Covers rows → LieInFront first old
      → All (λ q. last ≤ q.start) later → length own ≤ many → length (rows_between first last rows) ≤ many
  own_few old own later rows many is covers in_front behind few =
      let split = subst (All Covers) is covers in
      let a = ap (λ l. length (rows_between first last l)) is ∙ ap length (between_both (old ++ own) later) in
      let b = length-append (rows_between first last (old ++ own)) (rows_between first last later) in
      let c = ap length (between_both old own) ∙ length-append (rows_between first last old) (rows_between first last own) in
      let d = none_in_front old (all_front Covers old own (all_front Covers (old ++ own) later split)) in_front in
      let e = none_behind later (all_behind Covers (old ++ own) later split) behind in
      let f = between_few own in
      omega (arith, a, b, c, d, e, f, few)

added_few : (new old added rows many : ℕ) → new ≡ old + added → rows ≤ old + many → new ≡ rows → added ≤ many
added_few new old added rows many sum few counted = omega (arith, sum, few, counted)

-- ---- those of the image

module _ (t : ProgramTree) (i : Sections) (h : HasProgram t i) where
  abbrev all : List Subprogram
  all = h.walk.subprograms.items

  -- main has none
  rows_of_bodies : i.rows ≡ h.walk.draft.rows.items
  rows_of_bodies = h.rows ∙ ap (λ r. r.items) h.main.rows

  covers_there : All Covers h.walk.draft.rows.items
  covers_there =
      let has = h.walked.rows in
      subst (All Covers) (sym (rows_are all h.walk.draft has))
      (All-weaker (LiesWithin (here has.begun.code) (here h.walk.draft.code)) Covers (λ q within. within.places) has.rows.added has.rows.within)

  -- the rows of a body are no more than so many, where its handlers' choices are not
  pub rows_of_body : (number : ℕ) (c : Coded) (many : ℕ) → slice_get (bodies_of t) number ≡ Some c
      → ((before : ℕ) → subprogram_rows before c.head c.body ≤ before + many)
      → length (rows_in_code i number) ≤ many
  rows_of_body number c many there few =
      let body : HasBody t h.directory number c h.walk = body_there t i h number c there in
      let row : Subprogram = row_of c.kind body.words (here body.new.code) in
      let less = slice_get_within all number row body.there in
      let first : first_place i number ≡ here body.old.code = first_is t i h number (omega (arith, less)) ∙ body.begins in
      let last : end_of (called i number) ≡ here body.new.code = ap end_of (called_front t i h number row body.there) in
      let rows = h.walk.draft.rows.items in
      let split : rows ≡ (body.old.rows.items ++ body.keeps.rows.added) ++ body.kept.later =
      body.kept.rows ∙ ap (λ l. l ++ body.kept.later) body.keeps.rows.appended in
      let sum = ap length body.keeps.rows.appended ∙ length-append body.old.rows.items body.keeps.rows.added in
      let own = few (length body.old.rows.items) in
      subst (λ n. n ≤ many) (sym (λ j. length (rows_between (first j) (last j) (rows_of_bodies j))))
      (own_few (here body.old.code) (here body.new.code) body.old.rows.items body.keeps.rows.added body.kept.later rows many split covers_there body.before
      body.kept.behind
      (added_few (length body.new.rows.items) (length body.old.rows.items) (length body.keeps.rows.added)
      (subprogram_rows (length body.old.rows.items) c.head c.body) many sum own body.rows))

  pub rows_of_main : length (rows_in_code i (length all)) ≡ 0
  rows_of_main =
      let rows = h.walk.draft.rows.items in
      (λ j. length (rows_between (first_main t i h j) (end_of (called_main t i h j)) (rows_of_bodies j)))
      ∙ none_in_front (here h.walk.draft.code) (here h.draft.code) rows covers_there (rows_in_front all h.walk.draft h.walked.rows)
