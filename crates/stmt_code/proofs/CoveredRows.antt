-- Rows of statements that handlers cover, of the handlers' statements, and of the handlers: what they tell of each part of the code.
use Rattle.std.proofs.Common.{◌≡◌, ℕ, ◌<◌, ◌≤◌, List, [], ◌∷◌, ◌++◌, All, true, false, Some, ap, ◌∙◌, arith}
use Rattle.std.specs.Prelude.{if◌then◌else◌}
use Rattle.std.proofs.lemmas.List.{append_assoc}
use Rattle.std.proofs.lemmas.List.Elements.{All-append, All-weaker}
use Rattle.handlers.specs.Innermost.{inner_of, innermost, target_of}
use Rattle.handlers.specs.Laws.{RowsAround, RowsInside, takes}
use Rattle.handlers.specs.Nesting.{all_nested, are_nested}
use Rattle.handlers.specs.declared.rows.Row.{Row}
use Rattle.image.specs.Sections.{Sections}
use Rattle.stmt_code.specs.Covering.{first_for}
use Rattle.part_code.specs.Handling.{CoverJust, GoesByRows, Handling, or_answer}
use Rattle.part_code.specs.Rows.{LiesWithin}
use Rattle.stmt_code.proofs.AddedRows.{no_more, not_yet, rows_covered, without_first, without_last}
use Rattle.stmt_code.proofs.ChoiceRows.{behind_nested, first_there, just_nested, nested_with, within_nested}

-- the same rows in front
after_same : (one two three : List Row) (place x : ℕ) → innermost two place x ≡ innermost three place x
    → innermost (one ++ two) place x ≡ innermost (one ++ three) place x
after_same [] two three place x same = same
after_same (q ∷ one) two three place x same = ap (λ o. if takes place x q then Some (inner_of q o) else o) (after_same one two three place x same)

module _ (one two own : List Row) (from over to : ℕ) (less : from < over) (last : over ≤ to) (covered : All (LiesWithin from over) one)
    (behind : All (LiesWithin over to) two) (just : CoverJust from over own) where
  -- where one of the rows is behind the place
  none_behind : (place x : ℕ) → place < over → All (λ q. takes place x q ≡ false) two
  none_behind place x high =
      All-weaker (LiesWithin over to) (λ q. takes place x q ≡ false) (λ q h. not_yet place x q (let s = h.start in omega (arith, s, high))) two behind

  none_covered : (place x : ℕ) → over ≤ place → All (λ q. takes place x q ≡ false) one
  none_covered place x low =
      All-weaker (LiesWithin from over) (λ q. takes place x q ≡ false) (λ q h. no_more place x q (let e = h.end in omega (arith, e, low))) one covered

  none_own : (place x : ℕ) → over ≤ place → All (λ q. takes place x q ≡ false) own
  none_own place x low =
      All-weaker (λ q. (q.start ≡ from) × (q.end_ ≡ over)) (λ q. takes place x q ≡ false)
      (λ q h. no_more place x q (let e = h.1 in omega (arith, e, low))) own just

  module _ (i : Sections) (r : Handling) (h : GoesByRows i ((one ++ two) ++ own) r from to) where
    -- the statements, and the jump behind them
    pub covered_goes : RowsInside → RowsAround → GoesByRows i one (λ x. or_answer (first_for own x) (r x)) from over
    covered_goes inside around = λ place x low high.
        rows_covered inside around i r one own from over over (omega arith)
        (All-weaker (LiesWithin from over) (λ q. (from ≤ q.start) × (q.end_ ≤ over)) (λ q k. (k.start, k.end)) one covered) just
        (λ at y down up.
        h at y down (omega (arith, up, last))
        ∙ ap (λ o. or_answer (target_of o) (r y))
        (ap (λ l. innermost l at y) (append_assoc one two own)
        ∙ after_same one (two ++ own) own at y (without_first two own at y (none_behind at y up)))) place x low high
        ∙ ap (λ o. or_answer (target_of (innermost one place x)) (or_answer o (r x))) (first_there from over own just from x (omega arith) less)

    -- the handlers
    pub handlers_go : GoesByRows i two r over to
    handlers_go = λ place x low high.
        h place x (omega (arith, less, low)) high
        ∙ ap (λ o. or_answer (target_of o) (r x))
        (without_last (one ++ two) own place x (none_own place x low) ∙ without_first one two place x (none_covered place x low))

  pub all_covered_nested : all_nested (one ++ two) ≡ true → all_nested ((one ++ two) ++ own) ≡ true
  all_covered_nested first =
      nested_with (one ++ two) own
      (All-append (λ r. All (λ q. are_nested r q ≡ true) own) one two
      (All-weaker (LiesWithin from over) (λ r. All (λ q. are_nested r q ≡ true) own)
      (λ r k.
      All-weaker (λ q. (q.start ≡ from) × (q.end_ ≡ over)) (λ q. are_nested r q ≡ true)
      (λ q e.
      within_nested r q (let s = k.start in let t = e.0 in omega (arith, s, t)) (let s = k.end in let t = e.1 in omega (arith, s, t))) own just)
      one covered)
      (All-weaker (LiesWithin over to) (λ r. All (λ q. are_nested r q ≡ true) own)
      (λ r k.
      All-weaker (λ q. (q.start ≡ from) × (q.end_ ≡ over)) (λ q. are_nested r q ≡ true)
      (λ q e. behind_nested r q (let s = k.start in let t = e.1 in omega (arith, s, t))) own just)
      two behind))
      first (just_nested from over own just)
