-- The innermost row of rows that are put together.
use Rattle.std.proofs.Common.{◌≡◌, ℕ, ◌<◌, ◌≤◌, List, [], ◌∷◌, ◌++◌, Bool, true, false, cond, Option, Some, None, nat_le, All, arith, IfSome, slice_index_or, refl, sym, ap, ◌∙◌, subst}
use Rattle.std.proofs.lemmas.Bool.{le-leb, lt-leb}
use Rattle.std.proofs.lemmas.Bool.Decides.{leb_tells}
use Rattle.std.proofs.lemmas.Option.{none-some}
use Rattle.std.proofs.lemmas.List.Elements.{All-head, All-tail}
use Rattle.handlers.specs.declared.rows.Row.{Row}
use Rattle.handlers.specs.Innermost.{width, inner_of, innermost, target_of}
use Rattle.handlers.specs.Laws.{takes, RowsElsewhere, RowsInside, RowsInsideLast, RowsAround}

-- the innermost one of a row that was found and of those after it
abbrev found_and : Option Row → Option Row → Option Row
found_and None later = later
found_and (Some r) later = Some (inner_of r later)

inner_of-inner_of : (q r : Row) (o : Option Row) → inner_of q (Some (inner_of r o)) ≡ inner_of (inner_of q (Some r)) o
inner_of-inner_of q r None = refl
inner_of-inner_of q r (Some s) = grind (arith, leb_tells)

module _ (place x : ℕ) where
  abbrev best : List Row → Option Row
  best rows = innermost rows place x

  -- a row before two that were found
  before_found : (r : Row) (o later : Option Row) → inner_of r (found_and o later) ≡ inner_of (inner_of r o) later
  before_found r None later = refl
  before_found r (Some q) later = inner_of-inner_of r q later

  step : (b : Bool) (r : Row) (o later : Option Row) → cond b (Some (inner_of r (found_and o later))) (found_and o later) ≡ found_and (cond b (Some (inner_of r o)) o) later
  step true r o later = ap Some (before_found r o later)
  step false r o later = refl

  -- the innermost row of two lists is the inner one of theirs
  pub joined : (rows more : List Row) → best (rows ++ more) ≡ found_and (best rows) (best more)
  joined [] more = refl
  joined (r ∷ rows) more =
      ap (λ o. cond (takes place x r) (Some (inner_of r o)) o) (joined rows more) ∙ step (takes place x r) r (best rows) (best more)

  pub none_found : (rows : List Row) → All (λ r. takes place x r ≡ false) rows → best rows ≡ None
  none_found [] all = refl
  none_found (r ∷ rows) all =
      ap (λ b. cond b (Some (inner_of r (best rows))) (best rows)) (All-head (λ r. takes place x r ≡ false) r rows all) ∙ none_found rows (All-tail (λ r. takes place x r ≡ false) r rows all)

  module _ (P : Row → Type 0) where
    one_of : (r : Row) (o : Option Row) → P r → IfSome o P → P (inner_of r o)
    one_of r None p rest = p
    one_of r (Some q) p rest = by (nat_le (width r) (width q))
      where
        by : (b : Bool) → P (cond b r q)
        by true = p
        by false = rest

    holds_step : (b : Bool) (r : Row) (o : Option Row) → (b ≡ true → P r) → IfSome o P → IfSome (cond b (Some (inner_of r o)) o) P
    holds_step true r o p rest = one_of r o (p refl) rest
    holds_step false r o p rest = rest

    -- what holds of each row that takes the exception holds of the innermost
    pub holds_of_best : (rows : List Row) → All (λ r. takes place x r ≡ true → P r) rows → IfSome (best rows) P
    holds_of_best [] all = _
    holds_of_best (r ∷ rows) all =
        holds_step (takes place x r) r (best rows) (All-head (λ r. takes place x r ≡ true → P r) r rows all)
        (holds_of_best rows (All-tail (λ r. takes place x r ≡ true → P r) r rows all))

pub elsewhere : RowsElsewhere
elsewhere before more after place x none =
    let inner : innermost (more ++ after) place x ≡ innermost after place x = joined place x more after ∙ ap (λ o. found_and o (innermost after place x)) (none_found place x more none) in
    ap target_of (joined place x before (more ++ after) ∙ (ap (found_and (innermost before place x)) inner ∙ sym (joined place x before after)))

around_by : (o later : Option Row) → target_of o ≡ None → target_of (found_and o later) ≡ target_of later
around_by None later e = refl
around_by (Some r) later e = absurd (none-some r.target (sym e))

pub around : RowsAround
around inner outer place x none = ap target_of (joined place x inner outer) ∙ around_by (innermost inner place x) (innermost outer place x) none

-- a row stays the innermost one before rows that are as long
stays : (r : Row) (o : Option Row) → IfSome o (λ q. width r ≤ width q) → inner_of r o ≡ r
stays r None longer = refl
stays r (Some q) longer = ap (λ b. cond b r q) (le-leb (width r) (width q) longer)

stays_last : (r : Row) (o : Option Row) → IfSome o (λ q. width r < width q) → found_and o (Some r) ≡ Some r
stays_last r None longer = refl
stays_last r (Some q) longer = ap (λ b. Some (cond b q r)) (lt-leb (width q) (width r) longer)

inside_by : (o later : Option Row) (target : ℕ) → target_of o ≡ Some target → ((r : Row) → o ≡ Some r → IfSome later (λ q. width r ≤ width q)) → target_of (found_and o later) ≡ Some target
inside_by None later target e longer = absurd (none-some target e)
inside_by (Some r) later target e longer = ap (λ q. Some q.target) (stays r later (longer r refl)) ∙ e

inside_last_by : (o later : Option Row) (target : ℕ) → target_of o ≡ Some target → ((r : Row) → o ≡ Some r → IfSome later (λ q. width r < width q)) → target_of (found_and later o) ≡ Some target
inside_last_by None later target e longer = absurd (none-some target e)
inside_last_by (Some r) later target e longer = ap target_of (stays_last r later (longer r refl)) ∙ e

pub inside : RowsInside
inside inner outer place x target e lie =
    ap target_of (joined place x inner outer) ∙ inside_by (innermost inner place x) (innermost outer place x) target e longer
  where
    longer : (r : Row) → innermost inner place x ≡ Some r → IfSome (innermost outer place x) (λ q. width r ≤ width q)
    longer r found =
        holds_of_best place x (λ q. width r ≤ width q) outer
        (λ k d lt t. subst (λ o. IfSome o (λ r. width r ≤ width (slice_index_or outer k d))) found (holds_of_best place x (λ r. width r ≤ width (slice_index_or outer k d)) inner (lie k d lt t)))

pub inside_last : RowsInsideLast
inside_last outer inner place x target e lie =
    ap target_of (joined place x outer inner) ∙ inside_last_by (innermost inner place x) (innermost outer place x) target e longer
  where
    longer : (r : Row) → innermost inner place x ≡ Some r → IfSome (innermost outer place x) (λ q. width r < width q)
    longer r found =
        holds_of_best place x (λ q. width r < width q) outer
        (λ k d lt t. subst (λ o. IfSome o (λ r. width r < width (slice_index_or outer k d))) found (holds_of_best place x (λ r. width r < width (slice_index_or outer k d)) inner (lie k d lt t)))
