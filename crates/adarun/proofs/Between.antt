-- Where code is between two steps of the source that it follows: it shows what the source shows that has taken the first of them.
use Rattle.std.proofs.Common.{◌≡◌, ℕ, zero, suc, ◌+◌, ◌-◌, ◌<◌, ◌≤◌, List, [], ◌∷◌, ◌++◌, length, Option, Some, None, refl, sym, ap, ◌∙◌, subst, ⊎_elim, arith, length-append}
use Rattle.std.specs.Prelude.{int_le, true}
use Rattle.std.proofs.lemmas.Bool.{cases_lt}
use Rattle.std.proofs.lemmas.List.{append-nil}
use Rattle.kernel.specs.State.{Kernel, Line, Outcome}
use Rattle.kernel.specs.Worlds.{Behaviour, Local, Tasks, World, among, run}
use Rattle.kernel.specs.Laws.{LinesGrow}
use Rattle.kernel.specs.RunLaws.{run_lines, run_over, run_plus, unseen_run}
use Rattle.compiler.specs.meaning.specs.Following.{Goes, Paced, Paces, Rests}
use Rattle.compiler.specs.meaning.specs.Lifting.{taken_unseen}
use Rattle.compiler.specs.meaning.specs.Meeting.{Begun, Busy, Counted, Idle}
use Rattle.likeness.proofs.Onward.{IsAhead, le_both, run_onward}

-- what a kernel shows: the lines, the time and the outcome are those of another one
pub record ShowsAs (a b : Kernel) : Type 0 where
  pub lines : a.lines ≡ b.lines
  pub now : a.now ≡ b.now
  pub outcome : a.outcome ≡ b.outcome

pub shows_same : (a b : Kernel) → a ≡ b → ShowsAs a b
shows_same a b e = record { lines = ap (λ k. k.lines) e; now = ap (λ k. k.now) e; outcome = ap (λ k. k.outcome) e }

none_of : (xs : List Line) → length xs ≡ 0 → xs ≡ []
none_of [] e = refl
none_of (x ∷ xs) e = absurd (omega (arith, e))

-- where what was added twice is what there was before, nothing was added
nothing_added : (xs more later : List Line) → xs ≡ (xs ++ more) ++ later → more ≡ []
nothing_added xs more later e =
    let whole = ap length e in
    let both = length-append (xs ++ more) later in
    let front = length-append xs more in
    none_of more (omega (arith, whole, both, front))

-- a run that comes back to its kernel has shown the same all the way
module _ {D : Type 0} (f : Local D) (grow : LinesGrow) (q r : ℕ) (w : World D) (ahead : IsAhead w.kernel)
    (same : (run f (q + r) w).kernel ≡ w.kernel) where
  back : (run f r (run f q w)).kernel ≡ w.kernel
  back = ap (λ v. v.kernel) (sym (run_plus f q r w)) ∙ same

  lines_same : (run f q w).kernel.lines ≡ w.kernel.lines
  lines_same =
      let one = run_lines f grow q w in
      let two = run_lines f grow r (run f q w) in
      let whole : w.kernel.lines ≡ (w.kernel.lines ++ one.0) ++ two.0 = sym (ap (λ k. k.lines) back) ∙ (two.1 ∙ ap (λ l. l ++ two.0) one.1) in
      one.1 ∙ (ap (λ l. w.kernel.lines ++ l) (nothing_added w.kernel.lines one.0 two.0 whole) ∙ append-nil w.kernel.lines)

  now_same : (run f q w).kernel.now ≡ w.kernel.now
  now_same =
      let one = run_onward f q w ahead in
      let two = run_onward f r (run f q w) one.ahead in
      le_both (run f q w).kernel.now w.kernel.now (subst (λ k. int_le (run f q w).kernel.now k.now ≡ true) back two.now) one.now

  outcome_at : (o p : Option Outcome) → (run f q w).kernel.outcome ≡ o → w.kernel.outcome ≡ p → (run f q w).kernel.outcome ≡ w.kernel.outcome
  outcome_at (Some x) p e g = ap (λ k. k.outcome) (ap (λ v. v.kernel) (sym (run_over f r (run f q w) x e)) ∙ back)
  outcome_at None (Some y) e g = ap (λ v. v.kernel.outcome) (run_over f q w y g)
  outcome_at None None e g = e ∙ sym g

  pub between : ShowsAs (run f q w).kernel w.kernel
  between = record { lines = lines_same; now = now_same; outcome = outcome_at (run f q w).kernel.outcome w.kernel.outcome refl refl }

-- a run of tasks that follows another one, and counts its steps
module _ {D N T H : Type 0} (f : Local D) (g : Behaviour N T H) (frames limit : T → ℕ) (v : World D) (w : World (Tasks N T)) (at : ℕ → ℕ)
    (grow : LinesGrow)
    (paced : Paced f (among g) (Counted g frames limit) v w at) where
  returns : (u : World (Tasks N T)) → IsAhead u.kernel → (i q : ℕ) → q ≤ i → (run (among g) i u).kernel ≡ u.kernel
      → ShowsAs (run (among g) q u).kernel u.kernel
  returns u ahead i q le same =
      let far : q + (i - q) ≡ i = omega (arith, le) in
      between (among g) grow q (i - q) u ahead (subst (λ n. (run (among g) n u).kernel ≡ u.kernel) (sym far) same)

  -- within the steps that are taken for one of the other
  within : (u : World (Tasks N T)) → IsAhead u.kernel → (j q : ℕ) → q < j → Counted g frames limit u j → ShowsAs (run (among g) q u).kernel u.kernel
  within u ahead j q less (Idle none one) =
      let first : q ≡ 0 = omega (arith, less, one) in
      shows_same (run (among g) q u).kernel u.kernel (ap (λ n. (run (among g) n u).kernel) first)
  within u ahead j q less (Busy t n s runs all low e) =
      let x = taken_unseen g t frames limit all in
      returns u ahead x.0 q (let many = x.1 in omega (arith, less, e, many)) (ap (λ z. z.kernel) (unseen_run g t x.0 u.rest u.kernel u.kernel s x.2))
  within u ahead j q less (Begun t n s runs all low e) =
      let x = taken_unseen g t frames limit all in
      returns u ahead x.0 q (let many = x.1 in omega (arith, less, e, many)) (ap (λ z. z.kernel) (unseen_run g t x.0 u.rest u.kernel u.kernel s x.2))

  -- so many steps of the other one are those that are taken at last
  pub record IsReached (m n : ℕ) : Type 0 where
    pub taken : at n ≤ m
    pub less : m < at (suc n)

  search_below : (m many : ℕ) → m < at many → (n : ℕ) × IsReached m n
  search_below m zero less = (let none = paced.begins in absurd (omega (arith, less, none)))
  search_below m (suc n) less =
      ⊎_elim (λ earlier. search_below m n earlier) (λ le. (n, record { taken = le; less = less })) (cases_lt m (at n))

  pub reached : (m : ℕ) → (n : ℕ) × IsReached m n
  reached m = let x = paced.reaches (suc m) in search_below m x.0 (let le = x.1 in omega (arith, le))

  shown_by : (ahead : IsAhead w.kernel) (m n : ℕ) → IsReached m n → Paces (Counted g frames limit) (run (among g) (at n) w) (at n) (at (suc n))
      → ShowsAs (run (among g) m w).kernel (run (among g) (at n) w).kernel
  shown_by ahead m n is (Rests e) = (let low = is.taken in let less = is.less in absurd (omega (arith, low, less, e)))
  shown_by ahead m n is (Goes j e counted) =
      let low = is.taken in
      let less = is.less in
      let far : at n + (m - at n) ≡ m = omega (arith, low) in
      let there : run (among g) m w ≡ run (among g) (m - at n) (run (among g) (at n) w) =
      ap (λ i. run (among g) i w) (sym far) ∙ run_plus (among g) (at n) (m - at n) w in
      let u : World (Tasks N T) = run (among g) (at n) w in
      subst (λ z. ShowsAs z.kernel u.kernel) (sym there)
      (within u (run_onward (among g) (at n) w ahead).ahead (suc j) (m - at n) (omega (arith, low, less, e)) counted)

  -- what it shows after m steps the other one shows after so many as are taken at last
  pub shown : IsAhead w.kernel → (m n : ℕ) → IsReached m n → ShowsAs (run (among g) m w).kernel (run f n v).kernel
  shown ahead m n is =
      subst (λ k. ShowsAs (run (among g) m w).kernel k) (sym (paced.same n)) (shown_by ahead m n is (paced.paces n))

  -- later steps are not taken before earlier ones
  grows_by : (n : ℕ) → Paces (Counted g frames limit) (run (among g) (at n) w) (at n) (at (suc n)) → at n ≤ at (suc n)
  grows_by n (Rests e) = omega (arith, e)
  grows_by n (Goes j e counted) = omega (arith, e)

  pub grows : (n more : ℕ) → at n ≤ at (n + more)
  grows n zero = let e : n + 0 ≡ n = omega arith in subst (λ i. at n ≤ at i) (sym e) (omega arith)
  grows n (suc more) =
      let e : n + suc more ≡ suc (n + more) = omega arith in
      let before = grows n more in
      let one = grows_by (n + more) (paced.paces (n + more)) in
      subst (λ i. at n ≤ at i) (sym e) (omega (arith, before, one))
