-- Rows that are added with code, inner ones first: how what they tell is told of parts of the code.
use Rattle.std.proofs.Common.{◌≡◌, ℕ, ◌<◌, ◌≤◌, List, [], ◌∷◌, ◌++◌, All, Bool, true, false, Option, Some, None, refl, ap, ◌∙◌, arith, rules}
use Rattle.std.specs.Prelude.{◌&&◌, if◌then◌else◌, nat_le, nat_lt}
use Rattle.std.proofs.lemmas.List.Elements.{All-head, All-tail, All-weaker}
use Rattle.handlers.specs.declared.rows.Row.{Row}
use Rattle.handlers.specs.Innermost.{covers, handler_of, handles, inner_of, innermost, target_of, width}
use Rattle.handlers.specs.Laws.{LieAround, RowsAround, RowsInside, takes}
use Rattle.image.specs.Sections.{Sections}
use Rattle.part_code.specs.Handling.{CoverJust, GoesBy, GoesByRows, Handling, LieWithin, or_answer}

-- ---- which places rows cover

before_start : (a b : ℕ) → b < a → nat_le a b ≡ false
before_start a b h = search rules

behind_end : (a b : ℕ) → b ≤ a → nat_lt a b ≡ false
behind_end a b h = search rules

none_left : (a b : Bool) → a ≡ false → ((a && b) ≡ false)
none_left a b e = ap (λ t. t && b) e

none_right : (a b : Bool) → b ≡ false → ((a && b) ≡ false)
none_right true b e = e
none_right false b e = refl

-- a row that begins behind the place, or ends in front of it
pub not_yet : (place x : ℕ) (q : Row) → place < q.start → takes place x q ≡ false
not_yet place x q less = ap (λ t. (t && nat_lt place q.end_) && handles x q) (before_start q.start place less)

pub no_more : (place x : ℕ) (q : Row) → q.end_ ≤ place → takes place x q ≡ false
no_more place x q le = none_left (covers place q) (handles x q) (none_right (nat_le q.start place) (nat_lt place q.end_) (behind_end place q.end_ le))

-- rows that cover just these places tell the same at each of them
same_there : (from to : ℕ) (rows : List Row) → CoverJust from to rows → (place x : ℕ) → from ≤ place → place < to
    → innermost rows place x ≡ innermost rows from x
same_there from to [] all place x low high = refl
same_there from to (q ∷ rows) all place x low high =
    let one = All-head (λ q. (q.start ≡ from) × (q.end_ ≡ to)) q rows all in
    let rest = same_there from to rows (All-tail (λ q. (q.start ≡ from) × (q.end_ ≡ to)) q rows all) place x low high in
    let begun : nat_le q.start place ≡ nat_le q.start from = both_le q.start place from (omega (arith, one.0, low)) (omega (arith, one.0)) in
    let open_ : nat_lt place q.end_ ≡ nat_lt from q.end_ = both_lt place from q.end_ (omega (arith, one.1, high)) (omega (arith, one.1, low, high)) in
    (λ j. if (begun j && open_ j) && handles x q then Some (inner_of q (rest j)) else rest j)
  where
    both_le : (a b c : ℕ) → a ≤ b → a ≤ c → nat_le a b ≡ nat_le a c
    both_le a b c x y = search rules

    both_lt : (a b c : ℕ) → a < c → b < c → nat_lt a c ≡ nat_lt b c
    both_lt a b c x y = search rules

-- ---- rows that take nothing

none_taken : (rows : List Row) (place x : ℕ) → All (λ q. takes place x q ≡ false) rows → innermost rows place x ≡ None
none_taken [] place x all = refl
none_taken (q ∷ rows) place x all =
    ap (λ t. if t then Some (inner_of q (innermost rows place x)) else innermost rows place x) (All-head (λ q. takes place x q ≡ false) q rows all)
    ∙ none_taken rows place x (All-tail (λ q. takes place x q ≡ false) q rows all)

pub without_last : (one two : List Row) (place x : ℕ) → All (λ q. takes place x q ≡ false) two → innermost (one ++ two) place x ≡ innermost one place x
without_last [] two place x all = none_taken two place x all
without_last (q ∷ one) two place x all = ap (λ o. if takes place x q then Some (inner_of q o) else o) (without_last one two place x all)

pub without_first : (one two : List Row) (place x : ℕ) → All (λ q. takes place x q ≡ false) one → innermost (one ++ two) place x ≡ innermost two place x
without_first [] two place x all = refl
without_first (q ∷ one) two place x all =
    ap (λ t. if t then Some (inner_of q (innermost (one ++ two) place x)) else innermost (one ++ two) place x)
    (All-head (λ q. takes place x q ≡ false) q one all)
    ∙ without_first one two place x (All-tail (λ q. takes place x q ≡ false) q one all)

module _ (i : Sections) where
  -- without rows all goes on as around
  pub rows_none : (r : Handling) (from to : ℕ) → GoesByRows i [] r from to → GoesBy i r from to
  rows_none r from to h = λ place x low high. h place x low high

  -- ---- code behind other code

  pub rows_part : (r : Handling) (rows : List Row) (a b c d : ℕ) → a ≤ b → c ≤ d → GoesByRows i rows r a d → GoesByRows i rows r b c
  rows_part r rows a b c d up over h = λ place x low high. h place x (omega (arith, up, low)) (omega (arith, high, over))

  pub rows_first : (r : Handling) (one two : List Row) (from mid to : ℕ) → mid ≤ to → All (λ q. mid ≤ q.start) two → GoesByRows i (one ++ two) r from to
      → GoesByRows i one r from mid
  rows_first r one two from mid to up behind h = λ place x low high.
      h place x low (omega (arith, high, up))
      ∙ ap (λ o. or_answer (target_of o) (r x))
      (without_last one two place x
      (All-weaker (λ q. mid ≤ q.start) (λ q. takes place x q ≡ false) (λ q le. not_yet place x q (omega (arith, high, le))) two behind))

  pub rows_second : (r : Handling) (one two : List Row) (from mid to : ℕ) → from ≤ mid → All (λ q. q.end_ ≤ mid) one → GoesByRows i (one ++ two) r from to
      → GoesByRows i two r mid to
  rows_second r one two from mid to up before h = λ place x low high.
      h place x (omega (arith, low, up)) high
      ∙ ap (λ o. or_answer (target_of o) (r x))
      (without_first one two place x
      (All-weaker (λ q. q.end_ ≤ mid) (λ q. takes place x q ≡ false) (λ q le. no_more place x q (omega (arith, low, le))) one before))

module _ (inside : RowsInside) (around : RowsAround) (i : Sections) where
  -- ---- code within regions of rows that were added behind those of the code

  narrower : (from to : ℕ) (q r : Row) → (q.start ≡ from) × (q.end_ ≡ to) → (from ≤ r.start) × (r.end_ ≤ to) → width r ≤ width q
  narrower from to q r just within = let a = just.0 in let b = just.1 in let c = within.0 in let d = within.1 in omega (arith, a, b, c, d)

  lie_around : (from to : ℕ) (inner own : List Row) (place x : ℕ) → LieWithin from to inner → CoverJust from to own → LieAround inner place x own
  lie_around from to inner own place x within just =
      All-weaker (λ q. (q.start ≡ from) × (q.end_ ≡ to)) (λ q. takes place x q ≡ true → All (λ r. takes place x r ≡ true → width r ≤ width q) inner)
      (λ q exact taken.
      All-weaker (λ r. (from ≤ r.start) × (r.end_ ≤ to)) (λ r. takes place x r ≡ true → width r ≤ width q) (λ r part other. narrower from to q r exact part) inner
      within)
      own just

  -- what the rows tell together
  together : (from to : ℕ) (inner own : List Row) → LieWithin from to inner → CoverJust from to own → (place x : ℕ) → from ≤ place → place < to
      → handler_of (inner ++ own) place x ≡ or_answer (handler_of inner place x) (handler_of own from x)
  together from to inner own within just place x low high = by_inner (handler_of inner place x) refl
    where
      by_inner : (o : Option ℕ) → handler_of inner place x ≡ o → handler_of (inner ++ own) place x ≡ or_answer o (handler_of own from x)
      by_inner (Some target) e = inside inner own place x target e (lie_around from to inner own place x within just)
      by_inner None e = around inner own place x e ∙ ap target_of (same_there from to own just place x low high)

  answers_again : (a b c : Option ℕ) → or_answer (or_answer a b) c ≡ or_answer a (or_answer b c)
  answers_again (Some target) b c = refl
  answers_again None b c = refl

  pub rows_covered : (r : Handling) (inner own : List Row) (from mid to : ℕ) → mid ≤ to → LieWithin from mid inner → CoverJust from mid own
      → GoesByRows i (inner ++ own) r from to
      → GoesByRows i inner (λ x. or_answer (handler_of own from x) (r x)) from mid
  rows_covered r inner own from mid to up within just h = λ place x low high.
      h place x low (omega (arith, high, up))
      ∙ ap (λ o. or_answer o (r x)) (together from mid inner own within just place x low high)
      ∙ answers_again (handler_of inner place x) (handler_of own from x) (r x)
