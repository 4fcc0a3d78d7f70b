-- What the code of handlers, and of the statements that they cover, does where it stands in an image, and that it keeps the rules of images there (RM 11.2, 11.4).
use Rattle.std.proofs.Common.{◌≡◌, ℕ, suc, ◌+◌, ◌<◌, ◌≤◌, List, [], ◌∷◌, ◌++◌, All, length, length-append, max, true, Option, None, Some, refl, sym, ap, ◌∙◌, subst, arith}
use Rattle.std.specs.Prelude.{if◌then◌else◌, slice_get}
use Rattle.std.proofs.lemmas.List.{append-nil, append_assoc}
use Rattle.std.proofs.lemmas.List.Elements.{All-append, All-nil, All-weaker}
use Rattle.ada_tree.specs.declared.statement.ExceptionChoice.{ExceptionChoice}
use Rattle.ada_tree.specs.StatementTree.{HandlerTrees, MoreHandlers, NoHandlers, StmtTrees}
use Rattle.handlers.specs.Laws.{RowsAround, RowsInside}
use Rattle.handlers.specs.declared.rows.Row.{Row}
use Rattle.image.specs.Sections.{Sections}
use Rattle.image.specs.Rules.{has_depth}
use Rattle.image.specs.declared.instruction.Operation.TheVariants as op
use Rattle.image.specs.declared.subprograms.Subprogram.{Subprogram}
use Rattle.expr_soundness.specs.meaning.specs.Programs.{Program}
use Rattle.expr_soundness.specs.meaning.specs.SourceSteps.{some_covers}
use Rattle.expr_code.specs.Flows.{AreKeptBetween}
use Rattle.expr_code.specs.Pieces.{deepest_of, narrow, one}
use Rattle.expr_code.specs.Seeing.{Package}
use Rattle.expr_code.proofs.Flowing.{kept_one, kept_then}
use Rattle.expr_code.proofs.StandingPieces.{OneStands, narrow_same, one_stands}
use Rattle.part_code.specs.ChoiceRows.{choice_rows}
use Rattle.part_code.specs.Handling.{CoverJust, GoesByRows, Handling, or_answer}
use Rattle.part_code.specs.Raising.{are_numbered}
use Rattle.part_code.specs.Resting.{Framed}
use Rattle.part_code.specs.Rows.{LiesWithin}
use Rattle.part_code.specs.Statements.{AreHandlers, AreStatements, IsCovered, IsHandler, IsSequence, Numbers, within_handler}
use Rattle.part_code.specs.Suiting.{SuitsStatements}
use Rattle.part_code.specs.step_soundness.specs.Objects.{IsException}
use Rattle.part_code.proofs.Jumps.{jump_kept}
use Rattle.part_code.proofs.Lists.{some_same}
use Rattle.part_code.proofs.PieceNeeds.{Laws}
use Rattle.stmt_code.specs.Covering.{AreEachKept, first_for}
use Rattle.stmt_code.specs.Drafting.{CodePart, Start, after, begun, coded, handles, skipping, takes, ◌▹◌}
use Rattle.stmt_code.specs.Emitting.{Allows, Meant, TellPlaces}
use Rattle.stmt_code.specs.Placing.{handlers_within, sequence_within, stmts_within}
use Rattle.stmt_code.specs.StatementCode.{Site, covered, covered_code, in_handler, kept_code, leads_to, sequence_code}
use Rattle.stmt_code.proofs.AddedRows.{rows_first, rows_part, rows_second}
use Rattle.stmt_code.proofs.BranchesDo.{AreBody}
use Rattle.stmt_code.proofs.ChoiceRows.{each_choice, first_choices, first_then, if_or}
use Rattle.stmt_code.proofs.CoveredRows.{covered_goes, handlers_go}
use Rattle.stmt_code.proofs.ExceptionWords.{keeps_exception, reserving}
use Rattle.stmt_code.proofs.KeptWords.{each_then, lt_true, serves_reserving, spare_word, unseen}
use Rattle.stmt_code.proofs.PartsDo.{Does, IsServed, Means, does_as}
use Rattle.stmt_code.proofs.PartsStand.{BothHave, HasPart, IsTidy, KeepsLabels, KeptIn, SkipHas, StandsBy, WordsHave, begun_has, begun_in, both_have, both_kept_in, coded_has, end_of, grows_begun, grows_skipping, grows_then, inside, skip_end, skip_end_in, tidy_coded, tidy_takes, words_have, words_kept_in}
use Rattle.stmt_code.proofs.PlacesAdded.{tells_then}
use Rattle.stmt_code.proofs.RowsAdded.{begins_behind, ends_before, wider_rows}

-- ---- handlers, whose rows cover what is before them

-- The row covers just what this one covers, and leads to code between these places.
pub record IsChoiceRow (q : Row) (from to : ℕ) (x : Row) : Type 0 where
  pub start : x.start ≡ q.start
  pub end : x.end_ ≡ q.end_
  pub down : from ≤ x.target
  pub up : x.target < to

wider_choices : (q : Row) (from to low high : ℕ) (rows : List Row) → low ≤ from → to ≤ high → All (IsChoiceRow q from to) rows
    → All (IsChoiceRow q low high) rows
wider_choices q from to low high rows down up all =
    All-weaker (IsChoiceRow q from to) (IsChoiceRow q low high)
    (λ x h.
    let d = h.down in
    let u = h.up in
    record { start = h.start; end = h.end; down = omega (arith, d, down); up = omega (arith, u, up) })
    rows all

-- they stand there, and their rows of places tell of their statements
pub record MeansHandlers (i : Sections) (program : Program) (g : Package) (numbers : Numbers) (f : Framed) (r : Handling) (c : Site) (all : HandlerTrees)
    (more : List Row) (s : Start) (to : ℕ) (a : CodePart) : Type 0 where
  pub handle : AreHandlers i program g numbers f c.ways r (λ x. or_answer (first_for more x) (r x)) s.place to all
  pub tells : TellPlaces i program g numbers (a s).places (handlers_within all)

-- The code of handlers of what such a row covers, whose rows come after those of the handlers before them: rows of their statements, those rows, and rows of
-- their choices. Nothing before it goes on to it, and it goes on to its end by jumps alone.
pub record DoHandle (c : Site) (q : Row) (own : List Row) (all : HandlerTrees) (a : CodePart) : Type 0 where
  pub grows : KeepsLabels a
  pub inner : Start → List Row
  pub more : Start → List Row
  pub rows : (s : Start) → (a s).rows ≡ inner s ++ (own ++ more s)
  pub within : (s : Start) → end_of s a ≤ 65535 → All (LiesWithin s.place (end_of s a)) (inner s)
  pub choices : (s : Start) → end_of s a ≤ 65535 → All (IsChoiceRow q s.place (end_of s a)) (more s)
  pub stands : (i : Sections) (program : Program) (g : Package) (numbers : Numbers) (f : Framed) (r : Handling) (s : Start) (to : ℕ)
      → IsServed program g numbers f c
      → HasPart i f.room s to a
      → GoesByRows i (inner s) r s.place to
      → MeansHandlers i program g numbers f r c all (more s) s to a
  pub flows : (i : Sections) (u : Subprogram) (low high : ℕ) (s : Start) (to : ℕ) → KeptIn i u low high s to a → SuitsStatements c.visible i u
      → Allows i u low high c.ways
      → has_depth i to 0 ≡ true
      → AreEachKept i u low high s.place to

pub none_handle : (c : Site) (q : Row) (own : List Row) → DoHandle c q own NoHandlers (handles own)
unfolding handles
none_handle c q own = record {
  grows = record { labels = λ s k x le h. h; longer = λ s. omega arith };
  inner = λ s. [];
  more = λ s. [];
  rows = λ s. sym (append-nil own);
  within = λ s low. All-nil (LiesWithin s.place (s.place + 0));
  choices = λ s low. All-nil (IsChoiceRow q s.place (s.place + 0));
  stands = λ i program g numbers f r s to served h goes. record { handle = λ x is. refl; tells = tt };
  flows = λ i u low high s to k suits ways ends n x le less is. absurd (let e : to ≡ s.place + 0 = k.part.ends in omega (arith, e, le, less));
}

answers_again : (a b c : Option ℕ) → or_answer (or_answer a b) c ≡ or_answer a (or_answer b c)
answers_again (Some target) b c = refl
answers_again None b c = refl

-- rows of two handlers, and what comes between
between : {X : Type 0} (x y o m z : List X) → x ++ (y ++ ((o ++ m) ++ z)) ≡ (x ++ y) ++ (o ++ (m ++ z))
between x y o m z = ap (λ l. x ++ (y ++ l)) (append_assoc o m z) ∙ sym (append_assoc x y (o ++ (m ++ z)))

-- ---- a handler before others

module _ (laws : Laws) (c : Site) (q : Row) (own : List Row) (choices : List ExceptionChoice) (body : StmtTrees) (rest : HandlerTrees) (b : CodePart)
    (d : List Row → CodePart) (numbered : are_numbered c.exceptions choices ≡ true)
    (p : Does (AreBody (in_handler c) body) (in_handler c) (stmts_within body) b)
    (h : (o : List Row) → DoHandle c q o rest (d o)) where
  abbrev word : ℕ
  word = narrow c.taken

  abbrev kept : CodePart
  kept = kept_code c.taken

  abbrev row : Start → Row
  row s = leads_to q s.place

  abbrev mine : Start → List Row
  mine s = choice_rows c.exceptions (row s) choices

  abbrev all_own : Start → List Row
  all_own s = own ++ mine s

  abbrev tail : Start → CodePart
  tail s = d (all_own s)

  abbrev leave : Start → CodePart
  leave s = skipping 0 0 op.Jump (tail s)

  abbrev whole_at : ℕ → CodePart
  whole_at target = kept ▹ b ▹ skipping 0 0 op.Jump (d (own ++ choice_rows c.exceptions (leads_to q target) choices))

  abbrev whole : CodePart
  whole = begun whole_at

  abbrev at_body : Start → Start
  at_body s = after s (kept s)

  abbrev at_jump : Start → Start
  at_jump s = after (at_body s) (b (at_body s))

  abbrev at_tail : Start → Start
  at_tail s = inside (at_jump s)

  grows_kept : KeepsLabels kept
  grows_kept = grows_then (takes (c.taken + 1)) (coded (one 1 (op.StoreLocal word))) (tidy_takes (c.taken + 1)).grows
      (tidy_coded (one 1 (op.StoreLocal word))).grows

  grows_leave : (s : Start) → KeepsLabels (leave s)
  grows_leave s = grows_skipping 0 0 op.Jump (tail s) (h (all_own s)).grows

  grows_rest : (s : Start) → KeepsLabels (b ▹ leave s)
  grows_rest s = grows_then b (leave s) p.tidy.grows (grows_leave s)

  -- ---- places

  body_place : (s : Start) → (at_body s).place ≡ suc s.place
  unfolding ◌▹◌ takes coded one
  body_place s = omega arith

  ends_there : (s : Start) → end_of s whole ≡ end_of (at_tail s) (tail s)
  unfolding begun ◌▹◌ skipping takes coded one
  ends_there s =
      let x = b (at_body s) in
      let y = tail s (at_tail s) in
      let long = length-append x.code ((record { depth = narrow 0; operation = op.Jump (narrow (suc (at_jump s).place + length y.code + 0)) }) ∷ y.code) in
      omega (arith, long)

  -- ---- rows

  abbrev inner_rows : Start → List Row
  inner_rows s = (b (at_body s)).rows ++ (h (all_own s)).inner (at_tail s)

  abbrev more_rows : Start → List Row
  more_rows s = mine s ++ (h (all_own s)).more (at_tail s)

  whole_rows : (s : Start) → (whole s).rows ≡ inner_rows s ++ (own ++ more_rows s)
  unfolding begun ◌▹◌ skipping takes coded
  whole_rows s =
      ap (λ l. (b (at_body s)).rows ++ l) ((h (all_own s)).rows (at_tail s))
      ∙ between (b (at_body s)).rows ((h (all_own s)).inner (at_tail s)) own (mine s) ((h (all_own s)).more (at_tail s))

  body_low : (s : Start) → end_of s whole ≤ 65535 → end_of (at_body s) b ≤ 65535
  body_low s low = let e = ends_there s in omega (arith, e, low)

  tail_low : (s : Start) → end_of s whole ≤ 65535 → end_of (at_tail s) (tail s) ≤ 65535
  tail_low s low = subst (λ n. n ≤ 65535) (ends_there s) low

  whole_within : (s : Start) → end_of s whole ≤ 65535 → All (LiesWithin s.place (end_of s whole)) (inner_rows s)
  whole_within s low =
      let e = ends_there s in
      let one_more = body_place s in
      All-append (LiesWithin s.place (end_of s whole)) (b (at_body s)).rows ((h (all_own s)).inner (at_tail s))
      (wider_rows (at_body s).place (end_of (at_body s) b) s.place (end_of s whole) (b (at_body s)).rows (omega (arith, one_more)) (omega (arith, e))
      (p.tidy.rows (at_body s) (body_low s low)))
      (wider_rows (at_tail s).place (end_of (at_tail s) (tail s)) s.place (end_of s whole) ((h (all_own s)).inner (at_tail s)) (omega (arith, one_more))
      (omega (arith, e)) ((h (all_own s)).within (at_tail s) (tail_low s low)))

  whole_choices : (s : Start) → end_of s whole ≤ 65535 → All (IsChoiceRow q s.place (end_of s whole)) (more_rows s)
  whole_choices s low =
      let e = ends_there s in
      let one_more = body_place s in
      let same : narrow s.place ≡ s.place = narrow_same s.place (omega (arith, e, one_more, low)) in
      All-append (IsChoiceRow q s.place (end_of s whole)) (mine s) ((h (all_own s)).more (at_tail s))
      (each_choice c.exceptions (row s) (IsChoiceRow q s.place (end_of s whole))
      (λ n known. record { start = refl; end = refl; down = omega (arith, same); up = omega (arith, same, e, one_more) }) choices numbered)
      (wider_choices q (at_tail s).place (end_of (at_tail s) (tail s)) s.place (end_of s whole) ((h (all_own s)).more (at_tail s)) (omega (arith, one_more))
      (omega (arith, e)) ((h (all_own s)).choices (at_tail s) (tail_low s low)))

  -- ---- what it does

  module _ (i : Sections) (program : Program) (g : Package) (numbers : Numbers) (f : Framed) (r : Handling) (s : Start) (to : ℕ)
      (served : IsServed program g numbers f c) (part : HasPart i f.room s to whole) (goes : GoesByRows i (inner_rows s) r s.place to) where
    first : BothHave i f.room s to kept (b ▹ leave s)
    first = both_have i f.room s to kept (b ▹ leave s) (grows_rest s) (begun_has i f.room s to whole_at part)

    stored : WordsHave i f.room s (end_of s kept) (c.taken + 1) (coded (one 1 (op.StoreLocal word)))
    stored = words_have i f.room s (end_of s kept) (c.taken + 1) (coded (one 1 (op.StoreLocal word))) (tidy_coded (one 1 (op.StoreLocal word))).grows first.first

    second : BothHave i f.room (at_body s) to b (leave s)
    second = both_have i f.room (at_body s) to b (leave s) (grows_leave s) first.second

    last : SkipHas i f.room (at_jump s) to 0 0 op.Jump (tail s)
    last = skip_end i f.room (at_jump s) to 0 op.Jump (tail s) second.second

    word_is : word ≡ c.taken
    word_is = let wide = stored.wide in narrow_same c.taken (omega (arith, wide))

    store : OneStands i s.place (end_of s kept) 1 (op.StoreLocal word)
    store = one_stands i s.place (end_of s kept) 1 (op.StoreLocal word) (coded_has i f.room s (end_of s kept) (one 1 (op.StoreLocal word)) stored.rest)

    body_served : IsServed program g numbers (reserving word f) (in_handler c)
    body_served = record {
      names = served.names;
      serves = serves_reserving program g numbers f c.taken word served.serves word_is (c.taken + 1) refl;
      exceptions = served.exceptions;
      named = served.named;
    }

    rest_within : All (LiesWithin (at_tail s).place (end_of (at_tail s) (tail s))) ((h (all_own s)).inner (at_tail s))
    rest_within = (h (all_own s)).within (at_tail s) (subst (λ n. n ≤ 65535) last.inner.ends last.inner.low)

    goes_from_body : GoesByRows i (inner_rows s) r (at_body s).place to
    goes_from_body = rows_part i r (inner_rows s) s.place (at_body s).place to to (let up = body_place s in omega (arith, up)) (omega arith) goes

    goes_body : GoesByRows i (b (at_body s)).rows r (at_body s).place (end_of (at_body s) b)
    goes_body =
        rows_first i r (b (at_body s)).rows ((h (all_own s)).inner (at_tail s)) (at_body s).place (at_jump s).place to second.up
        (begins_behind (at_tail s).place (end_of (at_tail s) (tail s)) (at_jump s).place ((h (all_own s)).inner (at_tail s)) (omega arith) rest_within)
        goes_from_body

    goes_tail : GoesByRows i ((h (all_own s)).inner (at_tail s)) r (at_tail s).place to
    goes_tail =
        rows_part i r ((h (all_own s)).inner (at_tail s)) (at_jump s).place (at_tail s).place to to (omega arith) (omega arith)
        (rows_second i r (b (at_body s)).rows ((h (all_own s)).inner (at_tail s)) (at_body s).place (at_jump s).place to (omega arith)
        (ends_before (at_body s).place (end_of (at_body s) b) (at_jump s).place (b (at_body s)).rows (omega arith) (p.tidy.rows (at_body s) second.first.low))
        goes_from_body)

    body_done : Means (AreBody (in_handler c) body) i program g numbers (reserving word f) r (stmts_within body) (at_body s) (end_of (at_body s) b) b
    body_done =
        p.stands i program g numbers (reserving word f) r (at_body s) (end_of (at_body s) b) body_served (record { part = second.first; goes = goes_body })

    tail_done : MeansHandlers i program g numbers f r c rest ((h (all_own s)).more (at_tail s)) (at_tail s) to (tail s)
    tail_done = (h (all_own s)).stands i program g numbers f r (at_tail s) to served last.inner goes_tail

    abbrev next : Handling
    next x = or_answer (first_for ((h (all_own s)).more (at_tail s)) x) (r x)

    place_is : narrow s.place ≡ s.place
    place_is = let up = first.up in let low = part.low in narrow_same s.place (omega (arith, up, low))

    handler_goes : (x : ℕ) → IsException program x
        → or_answer (first_for (more_rows s) x) (r x) ≡ (if some_covers program x choices then Some s.place else next x)
    handler_goes x is =
        ap (λ o. or_answer o (r x)) (first_then (mine s) ((h (all_own s)).more (at_tail s)) x)
        ∙ answers_again (first_for (mine s) x) (first_for ((h (all_own s)).more (at_tail s)) x) (r x)
        ∙ ap (λ o. or_answer o (next x)) (first_choices program c.exceptions served.exceptions served.named x is (row s) choices numbered)
        ∙ if_or (some_covers program x choices) (narrow s.place) (next x)
        ∙ (λ n. if some_covers program x choices then Some (place_is n) else next x)

    is_handler : IsHandler i program g numbers f c.ways (λ x. or_answer (first_for (more_rows s) x) (r x)) next s.place (at_jump s).place to choices
        (λ later ways m n. AreStatements i program g numbers later ways r m n body)
    is_handler = record {
      goes = handler_goes;
      later = reserving word f;
      word = word;
      keeps = keeps_exception laws.quiet laws.words i g f served.serves.laid word s.place (1, store.there)
          (unseen program g numbers f c.taken word served.serves word_is) (spare_word program g numbers f c.taken word served.serves word_is)
          (let fits = stored.fits in omega (arith, word_is, fits));
      up = (let up = body_place s in omega (arith, up));
      over = last.up;
      statements = subst (λ n. AreStatements i program g numbers (reserving word f) (within_handler word c.ways) r n (at_jump s).place body) (body_place s)
          body_done.is;
      jump = (
        0,
        subst (λ n. slice_get i.instructions (at_jump s).place ≡ Some (record { depth = 0; operation = op.Jump n })) (let k : to + 0 ≡ to = omega arith in k)
            last.there,
      );
    }

    handled : AreHandlers i program g numbers f c.ways r (λ x. or_answer (first_for (more_rows s) x) (r x)) s.place to (MoreHandlers choices body rest)
    handled = (next, (at_jump s).place, is_handler, tail_done.handle)

    told : TellPlaces i program g numbers (whole s).places (stmts_within body ++ handlers_within rest)
    unfolding begun ◌▹◌ skipping takes coded
    told = tells_then i program g numbers (b (at_body s)).places (tail s (at_tail s)).places (stmts_within body) (handlers_within rest) body_done.tells
        tail_done.tells

  -- ---- the rules of images

  store_deep : (u : Subprogram) (s : Start) → deepest_of (coded (one 1 (op.StoreLocal word)) s).code ≤ u.stack → 1 ≤ u.stack
  unfolding coded one narrow
  store_deep u s deep = let h : max (narrow 1) 0 ≤ u.stack = deep in omega (arith, h)

  handler_kept : (i : Sections) (u : Subprogram) (low high : ℕ) (s : Start) (to : ℕ) → KeptIn i u low high s to whole → SuitsStatements c.visible i u
      → Allows i u low high c.ways
      → has_depth i to 0 ≡ true
      → AreEachKept i u low high s.place to
  handler_kept i u low high s to k suits ways ends =
      let first = both_kept_in i u low high s to kept (b ▹ leave s) (grows_rest s) (begun_in i u low high s to whole_at k) in
      let stored = words_kept_in i u low high s (end_of s kept) (c.taken + 1) (coded (one 1 (op.StoreLocal word)))
      (tidy_coded (one 1 (op.StoreLocal word))).grows first.first in
      let second = both_kept_in i u low high (at_body s) to b (leave s) (grows_leave s) first.second in
      let last = skip_end_in i u low high (at_jump s) to 0 op.Jump (tail s) second.second in
      let store = one_stands i s.place (end_of s kept) 1 (op.StoreLocal word)
      (coded_has i u.locals s (end_of s kept) (one 1 (op.StoreLocal word)) stored.rest.part) in
      let wide = stored.wide in
      let fits = stored.fits in
      let same : word ≡ c.taken = narrow_same c.taken (omega (arith, wide)) in
      let there : word < u.locals = omega (arith, same, fits) in
      let begun_at = body_place s in
      let step = last.step in
      let down = k.down in
      let up = k.up in
      let end : to + 0 ≡ to = omega arith in
      let leaves = jump_kept i u low high (at_jump s).place (to + 0) last.there
      (record { down = omega (arith, down, begun_at, step); up = omega (arith, up); empty = ap (λ n. has_depth i n 0) end ∙ ends }) in
      let allows : Allows i u low high (within_handler word c.ways) = record {
        exit = ways.exit;
        return = ways.return;
        handled = λ n is. subst (λ m. m < u.locals) (some_same word n is) there;
      } in
      let middle = p.flows.flows i u low high (at_body s) (end_of (at_body s) b) second.first suits allows (omega arith) leaves.begins in
      let begins = kept_one i u low high s.place 1 0 (op.StoreLocal word) store.there (store_deep u s stored.rest.deep) (omega arith) refl
      (lt_true word u.locals there) (omega arith) (omega arith) refl (λ g. ap (λ n. has_depth i n 0) (sym begun_at) ∙ middle.begins) (λ t g. absurd cc) in
      let whole_kept = kept_then i u low high s.place (at_jump s).place (suc (at_jump s).place) 1 0
      (kept_then i u low high s.place (at_body s).place (at_jump s).place 1 0
      (subst (λ n. AreKeptBetween i u low high s.place n 1) (sym begun_at) begins) middle) leaves in
      each_then i u low high s.place (at_tail s).place to whole_kept.each ((h (all_own s)).flows i u low high (at_tail s) to last.inner suits ways ends)

  pub more_handle : DoHandle c q own (MoreHandlers choices body rest) whole
  more_handle = record {
    grows = grows_begun whole_at (λ target.
        grows_then kept (b ▹ skipping 0 0 op.Jump (d (own ++ choice_rows c.exceptions (leads_to q target) choices))) grows_kept
        (grows_then b (skipping 0 0 op.Jump (d (own ++ choice_rows c.exceptions (leads_to q target) choices))) p.tidy.grows
        (grows_skipping 0 0 op.Jump (d (own ++ choice_rows c.exceptions (leads_to q target) choices))
        (h (own ++ choice_rows c.exceptions (leads_to q target) choices)).grows)));
    inner = inner_rows;
    more = more_rows;
    rows = whole_rows;
    within = whole_within;
    choices = whole_choices;
    stands = λ i program g numbers f r s to served part goes.
        record { handle = handled i program g numbers f r s to served part goes; tells = told i program g numbers f r s to served part goes };
    flows = handler_kept;
  }

-- ---- statements that handlers cover

abbrev pub IsHandledBody : Site → StmtTrees → HandlerTrees → Meant
IsHandledBody c body all i program g numbers f r from to =
    IsCovered i program g numbers from to (λ inner x y. AreStatements i program g numbers f c.ways inner x y body)
    (λ inner x y. AreHandlers i program g numbers f c.ways r inner x y all)

module _ (inside_law : RowsInside) (around_law : RowsAround) (c : Site) (body : StmtTrees) (all : HandlerTrees) (b : CodePart) (d : Row → CodePart)
    (p : Does (AreBody c body) c (stmts_within body) b) (h : (q : Row) → DoHandle c q [] all (d q)) where
  abbrev jump_at : Start → Start
  jump_at s = after s (b s)

  abbrev region : Start → Row
  region s = covered s.place (jump_at s).place

  abbrev handlers_of : Start → CodePart
  handlers_of s = d (region s)

  abbrev handlers_at : Start → Start
  handlers_at s = inside (jump_at s)

  abbrev jumping : ℕ → CodePart
  jumping start = begun (λ jump. skipping 0 0 op.Jump (d (covered start jump)))

  abbrev own_of : Start → List Row
  own_of s = (h (region s)).more (handlers_at s)

  abbrev inner_of : Start → List Row
  inner_of s = (h (region s)).inner (handlers_at s)

  grows_jumping : (start : ℕ) → KeepsLabels (jumping start)
  grows_jumping start = grows_begun (λ jump. skipping 0 0 op.Jump (d (covered start jump)))
      (λ jump. grows_skipping 0 0 op.Jump (d (covered start jump)) (h (covered start jump)).grows)

  ends_so : (s : Start) → end_of s (covered_code b d) ≡ end_of (handlers_at s) (handlers_of s)
  unfolding begun ◌▹◌ skipping
  ends_so s =
      let x = b s in
      let y = handlers_of s (handlers_at s) in
      let long = length-append x.code ((record { depth = narrow 0; operation = op.Jump (narrow (suc (jump_at s).place + length y.code + 0)) }) ∷ y.code) in
      omega (arith, long)

  rows_so : (s : Start) → (covered_code b d s).rows ≡ (b s).rows ++ (inner_of s ++ own_of s)
  unfolding begun ◌▹◌ skipping
  rows_so s = ap (λ l. (b s).rows ++ l) ((h (region s)).rows (handlers_at s))

  module _ (s : Start) (low : end_of s (covered_code b d) ≤ 65535) where
    start_is : narrow s.place ≡ s.place
    start_is = let e = ends_so s in narrow_same s.place (omega (arith, e, low))

    over_is : narrow (suc (jump_at s).place) ≡ suc (jump_at s).place
    over_is = let e = ends_so s in narrow_same (suc (jump_at s).place) (omega (arith, e, low))

    low_body : end_of s b ≤ 65535
    low_body = let e = ends_so s in omega (arith, e, low)

    low_handlers : end_of (handlers_at s) (handlers_of s) ≤ 65535
    low_handlers = subst (λ n. n ≤ 65535) (ends_so s) low

    body_rows : All (LiesWithin s.place (handlers_at s).place) (b s).rows
    body_rows = wider_rows s.place (end_of s b) s.place (handlers_at s).place (b s).rows (omega arith) (omega arith) (p.tidy.rows s low_body)

    rows_inner : All (LiesWithin (handlers_at s).place (end_of (handlers_at s) (handlers_of s))) (inner_of s)
    rows_inner = (h (region s)).within (handlers_at s) low_handlers

    own_just : CoverJust s.place (handlers_at s).place (own_of s)
    own_just =
        All-weaker (IsChoiceRow (region s) (handlers_at s).place (end_of (handlers_at s) (handlers_of s)))
        (λ x. (x.start ≡ s.place) × (x.end_ ≡ (handlers_at s).place)) (λ x k. (k.start ∙ start_is, k.end ∙ over_is)) (own_of s)
        ((h (region s)).choices (handlers_at s) low_handlers)

    own_within : All (LiesWithin s.place (end_of s (covered_code b d))) (own_of s)
    own_within =
        All-weaker (IsChoiceRow (region s) (handlers_at s).place (end_of (handlers_at s) (handlers_of s))) (LiesWithin s.place (end_of s (covered_code b d)))
        (λ x k.
        let e = ends_so s in
        let one_end = k.start ∙ start_is in
        let other = k.end ∙ over_is in
        let d = k.down in
        let u = k.up in
        record {
          start = omega (arith, one_end);
          places = omega (arith, one_end, other);
          end = omega (arith, other, e);
          down = omega (arith, d);
          up = omega (arith, u, e);
        })
        (own_of s) ((h (region s)).choices (handlers_at s) low_handlers)

    covered_within : All (LiesWithin s.place (end_of s (covered_code b d))) (covered_code b d s).rows
    covered_within =
        let e = ends_so s in
        subst (All (LiesWithin s.place (end_of s (covered_code b d)))) (sym (rows_so s))
        (All-append (LiesWithin s.place (end_of s (covered_code b d))) (b s).rows (inner_of s ++ own_of s)
        (wider_rows s.place (handlers_at s).place s.place (end_of s (covered_code b d)) (b s).rows (omega arith) (omega (arith, e)) body_rows)
        (All-append (LiesWithin s.place (end_of s (covered_code b d))) (inner_of s) (own_of s)
        (wider_rows (handlers_at s).place (end_of (handlers_at s) (handlers_of s)) s.place (end_of s (covered_code b d)) (inner_of s) (omega arith)
        (omega (arith, e)) rows_inner)
        own_within))

  tidy_covered : IsTidy (covered_code b d)
  tidy_covered = record {
    grows = grows_begun (λ start. b ▹ jumping start) (λ start. grows_then b (jumping start) p.tidy.grows (grows_jumping start));
    rows = covered_within;
  }

  module _ (i : Sections) (program : Program) (g : Package) (numbers : Numbers) (f : Framed) (r : Handling) (s : Start) (to : ℕ)
      (served : IsServed program g numbers f c) (stands : StandsBy i r f.room s to (covered_code b d)) where
    both : BothHave i f.room s to b (jumping s.place)
    both = both_have i f.room s to b (jumping s.place) (grows_jumping s.place) (begun_has i f.room s to (λ start. b ▹ jumping start) stands.part)

    over : SkipHas i f.room (jump_at s) to 0 0 op.Jump (handlers_of s)
    over = skip_end i f.room (jump_at s) to 0 op.Jump (handlers_of s)
        (begun_has i f.room (jump_at s) to (λ jump. skipping 0 0 op.Jump (d (covered s.place jump))) both.second)

    few : end_of s (covered_code b d) ≤ 65535
    few = subst (λ n. n ≤ 65535) stands.part.ends stands.part.low

    inner : Handling
    inner x = or_answer (first_for (own_of s) x) (r x)

    inner_within : All (LiesWithin (handlers_at s).place to) (inner_of s)
    inner_within = subst (λ n. All (LiesWithin (handlers_at s).place n) (inner_of s)) (sym over.inner.ends) (rows_inner s few)

    all_go : GoesByRows i (((b s).rows ++ inner_of s) ++ own_of s) r s.place to
    all_go = subst (λ l. GoesByRows i l r s.place to) (rows_so s ∙ sym (append_assoc (b s).rows (inner_of s) (own_of s))) stands.goes

    body_goes : GoesByRows i (b s).rows (λ x. or_answer (first_for (own_of s) x) (r x)) s.place (end_of s b)
    body_goes =
        rows_part i (λ x. or_answer (first_for (own_of s) x) (r x)) (b s).rows s.place s.place (end_of s b) (handlers_at s).place (omega arith) (omega arith)
        (covered_goes (b s).rows (inner_of s) (own_of s) s.place (handlers_at s).place to (omega arith) over.up (body_rows s few) inner_within (own_just s few) i r
        all_go inside_law around_law)

    handlers_going : GoesByRows i (inner_of s) r (handlers_at s).place to
    handlers_going =
        handlers_go (b s).rows (inner_of s) (own_of s) s.place (handlers_at s).place to (omega arith) over.up (body_rows s few) inner_within (own_just s few) i r
        all_go

    body_means : Means (AreBody c body) i program g numbers f (λ x. or_answer (first_for (own_of s) x) (r x)) (stmts_within body) s (end_of s b) b
    body_means =
        p.stands i program g numbers f (λ x. or_answer (first_for (own_of s) x) (r x)) s (end_of s b) served (record { part = both.first; goes = body_goes })

    handlers_mean : MeansHandlers i program g numbers f r c all (own_of s) (handlers_at s) to (handlers_of s)
    handlers_mean = (h (region s)).stands i program g numbers f r (handlers_at s) to served over.inner handlers_going

    covered_means : Means (IsHandledBody c body all) i program g numbers f r (stmts_within body ++ handlers_within all) s to (covered_code b d)
    unfolding begun ◌▹◌ skipping
    covered_means = record {
      is = (
        (jump_at s).place,
        (λ x. or_answer (first_for (own_of s) x) (r x)),
        omega arith,
        over.up,
        body_means.is,
        (
          0,
          subst (λ n. slice_get i.instructions (jump_at s).place ≡ Some (record { depth = 0; operation = op.Jump n })) (let k : to + 0 ≡ to = omega arith in k)
              over.there,
        ),
        handlers_mean.handle,
      );
      tells = tells_then i program g numbers (b s).places (handlers_of s (handlers_at s)).places (stmts_within body) (handlers_within all) body_means.tells
          handlers_mean.tells;
    }

  covered_kept : (i : Sections) (u : Subprogram) (low high : ℕ) (s : Start) (to : ℕ) → KeptIn i u low high s to (covered_code b d)
      → SuitsStatements c.visible i u
      → Allows i u low high c.ways
      → has_depth i to 0 ≡ true
      → AreKeptBetween i u low high s.place to 0
  covered_kept i u low high s to k suits ways ends =
      let both = both_kept_in i u low high s to b (jumping s.place) (grows_jumping s.place) (begun_in i u low high s to (λ start. b ▹ jumping start) k) in
      let over = skip_end_in i u low high (jump_at s) to 0 op.Jump (handlers_of s)
      (begun_in i u low high (jump_at s) to (λ jump. skipping 0 0 op.Jump (d (covered s.place jump))) both.second) in
      let step = over.step in
      let down = k.down in
      let up = k.up in
      let end : to + 0 ≡ to = omega arith in
      let leaves = jump_kept i u low high (jump_at s).place (to + 0) over.there
      (record { down = omega (arith, down, step); up = omega (arith, up); empty = ap (λ n. has_depth i n 0) end ∙ ends }) in
      let first = p.flows.flows i u low high s (end_of s b) both.first suits ways (omega arith) leaves.begins in
      let front = kept_then i u low high s.place (jump_at s).place (suc (jump_at s).place) 0 0 first leaves in
      record {
        begins = first.begins;
        shallow = first.shallow;
        each = each_then i u low high s.place (handlers_at s).place to front.each
            ((h (region s)).flows i u low high (handlers_at s) to over.inner suits ways ends);
      }

  pub does_covered : Does (IsHandledBody c body all) c (stmts_within body ++ handlers_within all) (covered_code b d)
  does_covered = record {
    tidy = tidy_covered;
    stands = covered_means;
    flows = record { flows = λ i u low high s to k suits ways out ends. covered_kept i u low high s to k suits ways ends };
  }

-- ---- statements, with handlers or without

abbrev pub IsSequenceAt : Site → StmtTrees → HandlerTrees → Meant
IsSequenceAt c body all i program g numbers f r from to = IsSequence i program g numbers f c.ways r from to body all

pub does_sequence : RowsInside → RowsAround → (c : Site) (body : StmtTrees) (all : HandlerTrees) (b : CodePart) (d : Row → CodePart)
    → Does (AreBody c body) c (stmts_within body) b
    → ((q : Row) → DoHandle c q [] all (d q))
    → Does (IsSequenceAt c body all) c (sequence_within body all) (sequence_code all b d)
does_sequence inside_law around_law c body NoHandlers b d p h =
    does_as (AreBody c body) (IsSequenceAt c body NoHandlers) c (stmts_within body) (sequence_within body NoHandlers) b
    (λ i program g numbers f r from to is. is) (sym (append-nil (stmts_within body))) p
does_sequence inside_law around_law c body (MoreHandlers choices first rest) b d p h =
    does_as (IsHandledBody c body (MoreHandlers choices first rest)) (IsSequenceAt c body (MoreHandlers choices first rest)) c
    (stmts_within body ++ handlers_within (MoreHandlers choices first rest)) (sequence_within body (MoreHandlers choices first rest)) (covered_code b d)
    (λ i program g numbers f r from to is. is) refl
    (does_covered inside_law around_law c body (MoreHandlers choices first rest) b d p h)
