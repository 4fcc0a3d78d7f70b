-- Rows of the choices of handlers: for which exceptions they are, where these go on, and what they are beside other rows.
use Rattle.std.proofs.Common.{◌≡◌, ℕ, suc, ◌+◌, ◌-◌, ◌<◌, ◌≤◌, List, [], ◌∷◌, ◌++◌, All, length, Bool, true, false, Option, Some, None, refl, sym, ap, ◌∙◌, subst, arith, rules}
use Rattle.std.specs.Prelude.{◌&&◌, ◌||◌, bytes_eq, if◌then◌else◌, is_some, nat_eq, nat_le, nat_lt, option_map, position, ⊤}
use Rattle.std.specs.List.{list_all}
use Rattle.std.proofs.lemmas.List.Elements.{All-cons, All-head, All-nil, All-tail, All-weaker}
use Rattle.std.proofs.lemmas.List.Folds.{list_all-append}
use Rattle.std.proofs.lemmas.List.Quantifiers.{position-Some}
use Rattle.std.proofs.lemmas.Option.{slice_get-get_or}
use Rattle.std.proofs.lemmas.Slice.Eq.{bytes_eq-Decides}
use Rattle.ada_tree.specs.declared.statement.ExceptionChoice.{ExceptionChoice}
use Rattle.ada_tree.specs.declared.statement.ExceptionChoice.TheVariants as choice
use Rattle.handlers.specs.Innermost.{covers, handler_of, handles, inner_of, innermost, target_of, width}
use Rattle.handlers.specs.Nesting.{all_nested, are_nested}
use Rattle.handlers.specs.declared.rows.Row.{Row}
use Rattle.image.specs.Texts.{text_or_none}
use Rattle.expr_soundness.specs.meaning.specs.Programs.{Program, exception_name, exception_number}
use Rattle.expr_soundness.specs.meaning.specs.SourceSteps as source
use Rattle.expr_soundness.specs.meaning.specs.SourceSteps.{some_covers}
use Rattle.part_code.specs.step_soundness.specs.Objects.{IsException}
use Rattle.part_code.specs.ChoiceRows.{choice_rows, row_for}
use Rattle.stmt_code.specs.Covering.{first_for}
use Rattle.part_code.specs.Handling.{CoverJust, or_answer}
use Rattle.part_code.specs.Raising.{AreNamed, are_numbered, choice_number, number_among, number_at}
use Rattle.stmt_code.proofs.RaisesAdded.{numbered}

some_same : {X : Type 0} (x y : X) → Some x ≡ Some y → x ≡ y
some_same x y e = cc

not_both : (b : Bool) → b ≡ true → b ≡ false → ⊥
not_both b p q = cc

-- ---- where exceptions go on by rows of one region

pub first_then : (one two : List Row) (x : ℕ) → first_for (one ++ two) x ≡ or_answer (first_for one x) (first_for two x)
first_then [] two x = refl
first_then (q ∷ one) two x = by_test (handles x q) (first_then one two x)
  where
    by_test : (b : Bool) → first_for (one ++ two) x ≡ or_answer (first_for one x) (first_for two x)
        → (if b then Some q.target else first_for (one ++ two) x) ≡ or_answer (if b then Some q.target else first_for one x) (first_for two x)
    by_test true rest = refl
    by_test false rest = rest

-- a row that is found is as wide as all are
abbrev HasWidth : ℕ → Option Row → Type 0
HasWidth n None = ⊤
HasWidth n (Some r) = width r ≡ n

inner_wide : (n : ℕ) (q : Row) (o : Option Row) → width q ≡ n → HasWidth n o → HasWidth n (Some (inner_of q o))
inner_wide n q None own rest = own
inner_wide n q (Some r) own rest = by_test (nat_le (width q) (width r))
  where
    by_test : (b : Bool) → width (if b then q else r) ≡ n
    by_test true = own
    by_test false = rest

innermost_wide : (n : ℕ) (rows : List Row) (place x : ℕ) → All (λ q. width q ≡ n) rows → HasWidth n (innermost rows place x)
innermost_wide n [] place x all = tt
innermost_wide n (q ∷ rows) place x all =
    by_test (covers place q && handles x q) (innermost_wide n rows place x (All-tail (λ r. width r ≡ n) q rows all))
  where
    by_test : (b : Bool) → HasWidth n (innermost rows place x) → HasWidth n (if b then Some (inner_of q (innermost rows place x)) else innermost rows place x)
    by_test true rest = inner_wide n q (innermost rows place x) (All-head (λ r. width r ≡ n) q rows all) rest
    by_test false rest = rest

-- so the first one is the innermost
first_inner : (n : ℕ) (q : Row) (o : Option Row) → width q ≡ n → HasWidth n o → target_of (Some (inner_of q o)) ≡ Some q.target
first_inner n q None own rest = refl
first_inner n q (Some r) own rest = ap (λ t. target_of (Some (if t then q else r))) (same_width (width q) (width r) (own ∙ sym rest))
  where
    same_width : (a b : ℕ) → a ≡ b → nat_le a b ≡ true
    same_width a b e = search rules

module _ (from to : ℕ) where
  abbrev Just : Row → Type 0
  Just q = (q.start ≡ from) × (q.end_ ≡ to)

  pub first_there : (own : List Row) → CoverJust from to own → (place x : ℕ) → from ≤ place → place < to → handler_of own place x ≡ first_for own x
  first_there [] just place x low high = refl
  first_there (q ∷ own) just place x low high =
      let one = All-head Just q own just in
      let rest = All-tail Just q own just in
      let wide = All-weaker Just (λ r. width r ≡ to - from) (λ r h. (λ j. h.1 j - h.0 j)) own rest in
      ap (λ t. target_of (if t && handles x q then Some (inner_of q (innermost own place x)) else innermost own place x)) (covered one)
      ∙ by_test (handles x q) (first_inner (to - from) q (innermost own place x) (λ j. one.1 j - one.0 j) (innermost_wide (to - from) own place x wide))
      (first_there own rest place x low high)
    where
      le_true : (a b : ℕ) → a ≤ b → nat_le a b ≡ true
      le_true a b h = search rules

      lt_true : (a b : ℕ) → a < b → nat_lt a b ≡ true
      lt_true a b h = search rules

      both : (a b : Bool) → a ≡ true → b ≡ true → (a && b) ≡ true
      both a b p e = ap (λ t. t && b) p ∙ e

      covered : Just q → covers place q ≡ true
      covered one =
          both (nat_le q.start place) (nat_lt place q.end_) (le_true q.start place (let s = one.0 in omega (arith, s, low)))
          (lt_true place q.end_ (let e = one.1 in omega (arith, e, high)))

      by_test : (b : Bool) → target_of (Some (inner_of q (innermost own place x))) ≡ Some q.target → handler_of own place x ≡ first_for own x
          → target_of (if true && b then Some (inner_of q (innermost own place x)) else innermost own place x)
          ≡ (if b then Some q.target else first_for own x)
      by_test true first rest = first
      by_test false first rest = rest

-- ---- for which exceptions the rows of choices are

module _ (program : Program) (exceptions : List (List ℕ)) (same : program.exceptions ≡ exceptions) (named : AreNamed program) (x : ℕ)
    (is : IsException program x) where
  -- the number of a name is that of the exception with this name
  named_as : (name : List ℕ) (n : ℕ) → exception_number program name ≡ Some n → (nat_eq n 0 || nat_eq n x) ≡ bytes_eq name (exception_name program x)
  named_as name n told = by_place (position (bytes_eq name) program.exceptions) refl told
    where
      eq_true : (a b : ℕ) → a ≡ b → nat_eq a b ≡ true
      eq_true a b h = search rules

      eq_is : (a b : ℕ) → nat_eq a b ≡ true → a ≡ b
      eq_is a b h = search rules

      not_zero : (k : ℕ) → nat_eq (suc k) 0 ≡ false
      not_zero k = search rules

      named_there : (k : ℕ) → position (bytes_eq name) program.exceptions ≡ Some k → bytes_eq name (exception_name program (suc k)) ≡ true
      named_there k at =
          let found = position-Some (bytes_eq name) program.exceptions k [] at in
          ap (λ o. bytes_eq name (text_or_none o)) (slice_get-get_or program.exceptions k [] found.0) ∙ found.1

      by_number : (k : ℕ) → position (bytes_eq name) program.exceptions ≡ Some k → (b : Bool) → bytes_eq name (exception_name program x) ≡ b
          → nat_eq (suc k) x ≡ b
      by_number k at true e =
          let text : name ≡ exception_name program x = (bytes_eq-Decides name (exception_name program x)).0 e in
          let number : Some (suc k) ≡ Some x = sym (ap (option_map suc) at) ∙ ap (exception_number program) text ∙ named x is in
          eq_true (suc k) x (some_same (suc k) x number)
      by_number k at false e = by_equal (nat_eq (suc k) x) refl
        where
          by_equal : (t : Bool) → nat_eq (suc k) x ≡ t → t ≡ false
          by_equal true h =
              absurd (not_both (bytes_eq name (exception_name program x))
              (ap (λ m. bytes_eq name (exception_name program m)) (sym (eq_is (suc k) x h)) ∙ named_there k at) e)
          by_equal false h = refl

      by_place : (o : Option ℕ) → position (bytes_eq name) program.exceptions ≡ o → option_map suc o ≡ Some n
          → (nat_eq n 0 || nat_eq n x) ≡ bytes_eq name (exception_name program x)
      by_place None at h = absurd cc
      by_place (Some k) at h =
          ap (λ m. nat_eq m 0 || nat_eq m x) (sym (some_same (suc k) n h)) ∙ ap (λ t. t || nat_eq (suc k) x) (not_zero k)
          ∙ by_number k at (bytes_eq name (exception_name program x)) refl

  choice_as : (c : ExceptionChoice) (n : ℕ) → choice_number exceptions c ≡ Some n → (nat_eq n 0 || nat_eq n x) ≡ source.covers program x c
  choice_as (choice.Others place) n h = ap (λ m. nat_eq m 0 || nat_eq m x) (sym (some_same 0 n h))
  choice_as (choice.Exception name) n h = named_as name.name n (numbered program exceptions name.name n same h)

  -- an exception goes on where the row leads, if a choice is for it
  pub first_choices : (q : Row) (cs : List ExceptionChoice) → are_numbered exceptions cs ≡ true
      → first_for (choice_rows exceptions q cs) x ≡ (if some_covers program x cs then Some q.target else None)
  first_choices q [] all = refl
  first_choices q (c ∷ cs) all = by_number (choice_number exceptions c) refl all (first_choices q cs)
    where
      by_test : (a b : Bool) → a ≡ b → first_for (choice_rows exceptions q cs) x ≡ (if some_covers program x cs then Some q.target else None)
          → (if a then Some q.target else first_for (choice_rows exceptions q cs) x) ≡ (if b || some_covers program x cs then Some q.target else None)
      by_test a true e rest = ap (λ t. if t then Some q.target else first_for (choice_rows exceptions q cs) x) e
      by_test a false e rest = ap (λ t. if t then Some q.target else first_for (choice_rows exceptions q cs) x) e ∙ rest

      by_number : (o : Option ℕ) → choice_number exceptions c ≡ o → (is_some (choice_number exceptions c) && are_numbered exceptions cs) ≡ true
          → (are_numbered exceptions cs ≡ true → first_for (choice_rows exceptions q cs) x ≡ (if some_covers program x cs then Some q.target else None))
          → first_for (row_for q (choice_number exceptions c) ∷ choice_rows exceptions q cs) x
          ≡ (if source.covers program x c || some_covers program x cs then Some q.target else None)
      by_number None told h rest = absurd (not_both false (sym (ap (λ o. is_some o && are_numbered exceptions cs) told) ∙ h) refl)
      by_number (Some n) told h rest =
          ap (λ o. first_for (row_for q o ∷ choice_rows exceptions q cs) x) told
          ∙ by_test (nat_eq n 0 || nat_eq n x) (source.covers program x c) (choice_as c n told)
          (rest (sym (ap (λ o. is_some o && are_numbered exceptions cs) told) ∙ h))

-- the answer of one row and of those behind it
pub if_or : (b : Bool) (t : ℕ) (other : Option ℕ) → or_answer (if b then Some t else None) other ≡ (if b then Some t else other)
if_or true t other = refl
if_or false t other = refl

-- ---- what each of them is

number_known : (exceptions : List (List ℕ)) (name : List ℕ) (n : ℕ) → number_among exceptions name ≡ Some n → n ≤ length exceptions
number_known exceptions name n h = by_place (position (bytes_eq name) exceptions) refl h
  where
    by_limit : (b : Bool) (k : ℕ) → k < length exceptions → (if b then Some (suc k) else None) ≡ Some n → n ≤ length exceptions
    by_limit true k less e = (let same = some_same (suc k) n e in omega (arith, less, same))
    by_limit false k less e = absurd cc

    by_place : (o : Option ℕ) → position (bytes_eq name) exceptions ≡ o → number_at o ≡ Some n → n ≤ length exceptions
    by_place None at e = absurd cc
    by_place (Some k) at e = by_limit _ k (position-Some (bytes_eq name) exceptions k [] at).0 e

module _ (exceptions : List (List ℕ)) (q : Row) where
  pub choices_long : (cs : List ExceptionChoice) → length (choice_rows exceptions q cs) ≡ length cs
  choices_long [] = refl
  choices_long (c ∷ cs) = ap suc (choices_long cs)

  pub choice_known : (c : ExceptionChoice) (n : ℕ) → choice_number exceptions c ≡ Some n → n ≤ length exceptions
  choice_known (choice.Others place) n h = (let same = some_same 0 n h in omega (arith, same))
  choice_known (choice.Exception name) n h = number_known exceptions name.name n h

  -- what holds of the row for each exception holds of all
  pub each_choice : (P : Row → Type 0) → ((n : ℕ) → n ≤ length exceptions → P (record q { exception = n })) → (cs : List ExceptionChoice)
      → are_numbered exceptions cs ≡ true → All P (choice_rows exceptions q cs)
  each_choice P one [] all = All-nil P
  each_choice P one (c ∷ cs) all = by_number (choice_number exceptions c) refl all (each_choice P one cs)
    where
      by_number : (o : Option ℕ) → choice_number exceptions c ≡ o → (is_some (choice_number exceptions c) && are_numbered exceptions cs) ≡ true
          → (are_numbered exceptions cs ≡ true → All P (choice_rows exceptions q cs))
          → All P (row_for q (choice_number exceptions c) ∷ choice_rows exceptions q cs)
      by_number None told h rest = absurd (not_both false (sym (ap (λ o. is_some o && are_numbered exceptions cs) told) ∙ h) refl)
      by_number (Some n) told h rest =
          All-cons P (row_for q (choice_number exceptions c)) (choice_rows exceptions q cs)
          (subst (λ o. P (row_for q o)) (sym told) (one n (choice_known c n told)))
          (rest (sym (ap (λ o. is_some o && are_numbered exceptions cs) told) ∙ h))

-- ---- regions beside others

both_true : (a b : Bool) → a ≡ true → b ≡ true → (a && b) ≡ true
both_true a b p e = ap (λ t. t && b) p ∙ e

le_true : (a b : ℕ) → a ≤ b → nat_le a b ≡ true
le_true a b h = search rules

-- the same region
pub same_nested : (r q : Row) → r.start ≡ q.start → r.end_ ≡ q.end_ → are_nested r q ≡ true
same_nested r q one two =
    ap (λ t. t || ((nat_le q.start r.start && nat_le r.end_ q.end_) || (nat_le r.end_ q.start || nat_le q.end_ r.start)))
    (both_true (nat_le r.start q.start) (nat_le q.end_ r.end_) (le_true r.start q.start (omega (arith, one))) (le_true q.end_ r.end_ (omega (arith, two))))

second_true : (x y z : Bool) → y ≡ true → (x || (y || z)) ≡ true
second_true true y z e = refl
second_true false y z e = ap (λ t. t || z) e

-- one within the other
pub within_nested : (r q : Row) → q.start ≤ r.start → r.end_ ≤ q.end_ → are_nested r q ≡ true
within_nested r q one two =
    second_true (nat_le r.start q.start && nat_le q.end_ r.end_) (nat_le q.start r.start && nat_le r.end_ q.end_)
    (nat_le r.end_ q.start || nat_le q.end_ r.start)
    (both_true (nat_le q.start r.start) (nat_le r.end_ q.end_) (le_true q.start r.start one) (le_true r.end_ q.end_ two))

-- one behind the other
pub behind_nested : (r q : Row) → q.end_ ≤ r.start → are_nested r q ≡ true
behind_nested r q up =
    last_true (nat_le r.start q.start && nat_le q.end_ r.end_) (nat_le q.start r.start && nat_le r.end_ q.end_) (nat_le r.end_ q.start)
    (nat_le q.end_ r.start) (le_true q.end_ r.start up)
  where
    last_true : (x y z u : Bool) → u ≡ true → (x || (y || (z || u))) ≡ true
    last_true true y z u e = refl
    last_true false true z u e = refl
    last_true false false true u e = refl
    last_true false false false u e = e

all_true : (r : Row) (rows : List Row) → All (λ q. are_nested r q ≡ true) rows → list_all (are_nested r) rows ≡ true
all_true r [] all = refl
all_true r (q ∷ rows) all =
    both_true (are_nested r q) (list_all (are_nested r) rows) (All-head (λ y. are_nested r y ≡ true) q rows all)
    (all_true r rows (All-tail (λ y. are_nested r y ≡ true) q rows all))

left_true : (a b : Bool) → (a && b) ≡ true → a ≡ true
left_true true b e = refl
left_true false b e = absurd cc

right_true : (a b : Bool) → (a && b) ≡ true → b ≡ true
right_true true b e = e
right_true false b e = absurd cc

-- rows behind others, each of which is nested with each of those
pub nested_with : (one two : List Row) → All (λ r. All (λ q. are_nested r q ≡ true) two) one → all_nested one ≡ true → all_nested two ≡ true
    → all_nested (one ++ two) ≡ true
nested_with [] two each first second = second
nested_with (r ∷ one) two each first second =
    both_true (list_all (are_nested r) (one ++ two)) (all_nested (one ++ two))
    (list_all-append (are_nested r) one two
    ∙ both_true (list_all (are_nested r) one) (list_all (are_nested r) two) (left_true (list_all (are_nested r) one) (all_nested one) first)
    (all_true r two (All-head (λ y. All (λ q. are_nested y q ≡ true) two) r one each)))
    (nested_with one two (All-tail (λ y. All (λ q. are_nested y q ≡ true) two) r one each)
    (right_true (list_all (are_nested r) one) (all_nested one) first) second)

pub just_nested : (from to : ℕ) (own : List Row) → CoverJust from to own → all_nested own ≡ true
just_nested from to [] just = refl
just_nested from to (r ∷ own) just =
    let one = All-head (Just from to) r own just in
    let rest = All-tail (Just from to) r own just in
    both_true (list_all (are_nested r) own) (all_nested own)
    (all_true r own (All-weaker (Just from to) (λ q. are_nested r q ≡ true) (λ q h. same_nested r q (one.0 ∙ sym h.0) (one.1 ∙ sym h.1)) own rest))
    (just_nested from to own rest)
