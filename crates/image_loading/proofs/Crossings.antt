-- The first of the faults of crossing regions is that of the first row that crosses one before it.
use Rattle.std.proofs.Common.{◌≡◌, ℕ, zero, suc, ◌+◌, ◌*◌, ◌<◌, ◌≤◌, List, [], ◌∷◌, ◌++◌, length, take, Bool, true, false, cond, Option, Some, None, refl, sym, ap, ◌∙◌, subst, arith}
use Rattle.std.specs.Prelude.{nat_lt, slice_get, if◌then◌else◌}
use Rattle.std.proofs.lemmas.Bool.{true≢false, leb-true}
use Rattle.std.proofs.lemmas.Option.{none-some, same_Some, slice_get_within}
use Rattle.base.specs.declared.faults.TheConstants.{TABLES_DISAGREE}
use Rattle.handlers.specs.Nesting.{IsFirst, crosses_at, crosses_one, some_and}
use Rattle.handlers.specs.declared.rows.Row.{Row}
use Rattle.image.specs.declared.fault.ImageFault.{ImageFault}
use Rattle.image_loading.specs.FaultOrder.{ImageFaults, after, fault_at, first_of, is_no_later, order_of, rule, sooner}
use Rattle.image_loading.specs.Loading.{behind_row, crossing_faults, each}
use Rattle.image_loading.proofs.FirstFault.{first_append, sooner_assoc}

-- what is no later stays
stays : (f g : ImageFault) → order_of f ≤ order_of g → sooner (Some f) (Some g) ≡ Some f
stays f g le = by (nat_lt (order_of g) (order_of f)) refl
  where
    by : (b : Bool) → nat_lt (order_of g) (order_of f) ≡ b → cond b (Some g) (Some f) ≡ Some f
    by true is = absurd (grind (arith, is, le))
    by false is = refl

module _ (flag : ℕ → Row → Bool) where
  abbrev of_row : ℕ → ℕ → Row → ImageFaults
  of_row n b row = rule TABLES_DISAGREE (after b 2) (flag n row)

  ruled : (n b : ℕ) (row : Row) (v : Bool) → flag n row ≡ v → of_row n b row ≡ (if v then fault_at TABLES_DISAGREE (after b 2) ∷ [] else [])
  ruled n b row v is = ap (λ w. if w then fault_at TABLES_DISAGREE (after b 2) ∷ [] else []) is

  -- no row is told: none has a fault
  none_told : (rows : List Row) (n b : ℕ) → ((k : ℕ) (row : Row) → slice_get rows k ≡ Some row → flag (n + k) row ≡ false) → each (behind_row 8) of_row n b rows ≡ []
  none_told [] n b none = refl
  none_told (row ∷ rows) n b none =
      let here : n + 0 ≡ n = omega arith in
      ap (λ fs. fs ++ each (behind_row 8) of_row (n + 1) (after b 8) rows) (ruled n b row false (subst (λ m. flag m row ≡ false) here (none 0 row refl)))
      ∙ none_told rows (n + 1) (after b 8) (λ k q is. let e : (n + 1) + k ≡ n + suc k = omega arith in rw e (none (suc k) q is))

  next_later : (rest : ImageFaults) (n b : ℕ) (row : Row) (f : ImageFault) → order_of f ≤ order_of (fault_at TABLES_DISAGREE (after b 2)) → sooner (Some f) (first_of rest) ≡ Some f → (v : Bool) → flag n row ≡ v → sooner (Some f) (first_of (of_row n b row ++ rest)) ≡ Some f
  next_later rest n b row f le on true is =
      let g = fault_at TABLES_DISAGREE (after b 2) in
      ap (λ fs. sooner (Some f) (first_of (fs ++ rest))) (ruled n b row true is)
      ∙ (sym (sooner_assoc (Some f) (Some g) (first_of rest)) ∙ (ap (λ o. sooner o (first_of rest)) (stays f g le) ∙ on))
  next_later rest n b row f le on false is = ap (λ fs. sooner (Some f) (first_of (fs ++ rest))) (ruled n b row false is) ∙ on

  -- the faults of later rows are no sooner
  later : (rows : List Row) (n b : ℕ) (f : ImageFault) → order_of f ≤ order_of (fault_at TABLES_DISAGREE (after b 2)) → sooner (Some f) (first_of (each (behind_row 8) of_row n b rows)) ≡ Some f
  later [] n b f le = refl
  later (row ∷ rows) n b f le =
      next_later (each (behind_row 8) of_row (n + 1) (after b 8) rows) n b row f le (later rows (n + 1) (after b 8) f (omega (arith, le))) (flag n row) refl

  -- the first row that is told has the first fault
  first_told : (rows : List Row) (n b m : ℕ) (row : Row) → slice_get rows m ≡ Some row → flag (n + m) row ≡ true → ((k : ℕ) (q : Row) → k < m → slice_get rows k ≡ Some q → flag (n + k) q ≡ false) → first_of (each (behind_row 8) of_row n b rows) ≡ Some (fault_at TABLES_DISAGREE (after (after b (8 * m)) 2))
  first_told [] n b m row is told before = absurd (none-some row is)
  first_told (q ∷ rows) n b zero row is told before =
      let here : n + 0 ≡ n = omega arith in
      let own : flag n q ≡ true = subst (λ m. flag m q ≡ true) here (subst (λ r. flag (n + 0) r ≡ true) (sym (same_Some q row is)) told) in
      let same : after b 2 ≡ after (after b (8 * 0)) 2 = omega arith in
      ap (λ fs. first_of (fs ++ each (behind_row 8) of_row (n + 1) (after b 8) rows)) (ruled n b q true own)
      ∙ (later rows (n + 1) (after b 8) (fault_at TABLES_DISAGREE (after b 2)) (omega arith) ∙ ap (λ p. Some (fault_at TABLES_DISAGREE p)) same)
  first_told (q ∷ rows) n b (suc m) row is told before =
      let here : n + 0 ≡ n = omega arith in
      let next : (n + 1) + m ≡ n + suc m = omega arith in
      let same : after (after (after b 8) (8 * m)) 2 ≡ after (after b (8 * suc m)) 2 = omega arith in
      ap (λ fs. first_of (fs ++ each (behind_row 8) of_row (n + 1) (after b 8) rows)) (ruled n b q false (subst (λ m. flag m q ≡ false) here (before 0 q (omega arith) refl)))
      ∙ (first_told rows (n + 1) (after b 8) m row is (rw next told) (λ k r lt at. let e : (n + 1) + k ≡ n + suc k = omega arith in rw e (before (suc k) r (omega (arith, lt)) at))
      ∙ ap (λ p. Some (fault_at TABLES_DISAGREE p)) same)

abbrev pub named : ℕ → Option ℕ → Option ImageFault
named start None = None
named start (Some m) = Some (fault_at TABLES_DISAGREE (after (after start (8 * m)) 2))

crosses_there : (rows : List Row) (k : ℕ) (row : Row) (b : Bool) → slice_get rows k ≡ Some row → crosses_at rows k ≡ b → crosses_one (take (0 + k) rows) row ≡ b
crosses_there rows k row b is e =
    let same : 0 + k ≡ k = omega arith in
    rw same (subst (λ o. some_and o (crosses_one (take k rows)) ≡ b) is e)

there : (rows : List Row) (m : ℕ) (o : Option Row) → slice_get rows m ≡ o → crosses_at rows m ≡ true → (row : Row) × (slice_get rows m ≡ Some row)
there rows m (Some row) is e = (row, is)
there rows m None is e = absurd (true≢false (sym e ∙ ap (λ o. some_and o (crosses_one (take m rows))) is))

pub first_crossing : (rows : List Row) (start : ℕ) (o : Option ℕ) → IsFirst (crosses_at rows) (length rows) o → first_of (each (behind_row 8) (crossing_faults rows) 0 start rows) ≡ named start o
first_crossing rows start None none =
    ap first_of
    (none_told (λ n. crosses_one (take n rows)) rows 0 start
    (λ k row is. crosses_there rows k row false is (none k (slice_get_within rows k row is))))
first_crossing rows start (Some m) first =
    let r = there rows m (slice_get rows m) refl first.1 in
    first_told (λ n. crosses_one (take n rows)) rows 0 start m r.0 r.1 (crosses_there rows m r.0 true r.1 first.1)
    (λ k q lt is. crosses_there rows k q false is (first.2 k lt))

-- they change nothing behind a fault that comes no later
pub before_crossings : (rows : List Row) (start : ℕ) (fault : Option ImageFault) (fs : ImageFaults) → fault ≡ first_of fs → is_no_later fault (fault_at TABLES_DISAGREE (after start 2)) ≡ true → fault ≡ first_of (fs ++ each (behind_row 8) (crossing_faults rows) 0 start rows)
before_crossings rows start None fs is sooner_ = absurd (true≢false (sym sooner_))
before_crossings rows start (Some f) fs is sooner_ =
    let crossings = each (behind_row 8) (crossing_faults rows) 0 start rows in
    sym
    (first_append fs crossings
    ∙ (ap (λ o. sooner o (first_of crossings)) (sym is) ∙ later (λ n. crosses_one (take n rows)) rows 0 start f (leb-true (order_of f) (order_of (fault_at TABLES_DISAGREE (after start 2))) sooner_)))
