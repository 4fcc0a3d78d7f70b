-- A run that follows another one: what it is, and that both then show the same. Proved terms, generic in what the two sides keep beside the kernel.
use Rattle.std.proofs.Common.{◌≡◌, ℕ, zero, suc, ◌+◌, ◌-◌, ◌<◌, ◌≤◌, [], refl, sym, ap, ◌∙◌, subst, arith}
use Rattle.std.proofs.lemmas.List.{append-nil}
use Rattle.kernel.specs.State.{Kernel}
use Rattle.kernel.specs.Worlds.{World, Local, step, run}
use Rattle.kernel.specs.Laws.{LinesGrow}
use Rattle.kernel.specs.RunLaws.{run_plus, run_over, run_lines}
use Rattle.meaning.specs.Same.{Covers, ShowSame}

-- What one run shows, its later worlds show too

pub covers_same : (a b : Kernel) → a ≡ b → Covers a b
covers_same a b e = record {
  begins = ([], ap (λ k. k.lines) (sym e) ∙ sym (append-nil a.lines));
  ends = λ o h. record { outcome_is = ap (λ k. k.outcome) (sym e) ∙ h; now_is = ap (λ k. k.now) (sym e); lines_are = ap (λ k. k.lines) (sym e) };
}

covers_plus : {D : Type 0} (f : Local D) → LinesGrow → (i n : ℕ) (w : World D) → Covers (run f i w).kernel (run f (i + n) w).kernel
covers_plus f grow i n w =
    let there : run f n (run f i w) ≡ run f (i + n) w = sym (run_plus f i n w) in
    subst (λ v. Covers (run f i w).kernel v.kernel) there (record {
      begins = run_lines f grow n (run f i w);
      ends = λ o h. let same = run_over f n (run f i w) o h in
          (covers_same (run f i w).kernel (run f n (run f i w)).kernel (ap (λ v. v.kernel) (sym same))).ends o h;
    })

pub covers_later : {D : Type 0} (f : Local D) → LinesGrow → (i j : ℕ) (w : World D) → i ≤ j → Covers (run f i w).kernel (run f j w).kernel
covers_later f grow i j w le = let e : i + (j - i) ≡ j = omega arith in subst
    (λ n. Covers (run f i w).kernel (run f n w).kernel) e (covers_plus f grow i (j - i) w)

-- How many steps of the one run those of the other take

-- from a count of steps to the next: none is taken in this world, or some that are counted as they ought to be
pub data Paces {E : Type 0} (Counted : World E → ℕ → Type 0) (w : World E) (before later : ℕ) : Type 0 where
  Rests : later ≡ before → Paces Counted w before later
  Goes : (j : ℕ) → later ≡ before + suc j → Counted w (suc j) → Paces Counted w before later

-- after n steps of f from v and `at n` steps of g from w the kernels are equal
pub record Paced {D E : Type 0} (f : Local D) (g : Local E) (Counted : World E → ℕ → Type 0) (v : World D) (w : World E) (at : ℕ → ℕ) : Type 0 where
  pub begins : at 0 ≡ 0
  pub same : (n : ℕ) → (run f n v).kernel ≡ (run g (at n) w).kernel
  pub paces : (n : ℕ) → Paces Counted (run g (at n) w) (at n) (at (suc n))
  pub reaches : (m : ℕ) → (n : ℕ) × (m ≤ at n)

pub paced_same :
    {D E : Type 0} (f : Local D) (g : Local E) (Counted : World E → ℕ → Type 0) (v : World D) (w : World E) (at : ℕ → ℕ)
    → LinesGrow
    → Paced f g Counted v w at
    → ShowSame (λ n. (run f n v).kernel) (λ m. (run g m w).kernel)
paced_same f g Counted v w at grow p = record {
  forth = λ n. (at n, covers_same (run f n v).kernel (run g (at n) w).kernel (p.same n));
  back = λ m. let x = p.reaches m in (x.0, subst (λ k. Covers (run g m w).kernel k) (sym (p.same x.0)) (covers_later g grow m (at x.0) w x.1));
}

module _ {D E : Type 0} (f : Local D) (g : Local E) (Related : World D → World E → Type 0) (weight : World D → ℕ) (Counted : World E → ℕ → Type 0) where
  -- the next step of f is met by no step of g, and then the weight falls, or by some that are counted
  pub data IsFollowed (v : World D) (w : World E) : Type 0 where
    Waits : Related (step f v) w → weight (step f v) < weight v → IsFollowed v w
    Steps : (j : ℕ) → Counted w (suc j) → Related (step f v) (run g (suc j) w) → IsFollowed v w

  abbrev pub jump : (v : World D) (w : World E) → IsFollowed v w → ℕ
  jump v w (Waits r less) = 0
  jump v w (Steps j c r) = suc j

  pub jumped : (v : World D) (w : World E) (x : IsFollowed v w) → Related (step f v) (run g (jump v w x) w)
  jumped v w (Waits r less) = r
  jumped v w (Steps j c r) = r

  paces_by : (a : ℕ) (v : World D) (w : World E) (x : IsFollowed v w) → Paces Counted w a (a + jump v w x)
  paces_by a v w (Waits r less) = Rests (omega arith)
  paces_by a v w (Steps j c r) = Goes j refl c

  pub last_step : (n : ℕ) (v : World D) → run f (suc n) v ≡ step f (run f n v)
  last_step n v = let e : suc n ≡ n + 1 = omega arith in ap (λ i. run f i v) e ∙ run_plus f n 1 v

  module _ (same : (v : World D) (w : World E) → Related v w → v.kernel ≡ w.kernel) (follows : (v : World D) (w : World E) → Related v w → IsFollowed v w)
      (v : World D) (w : World E) (start : Related v w) where
    abbrev pub chase : (n : ℕ) → (m : ℕ) × Related (run f n v) (run g m w)
    chase zero = (0, start)
    chase (suc n) =
        let x = chase n in
        let y = follows (run f n v) (run g x.0 w) x.1 in
        let j = jump (run f n v) (run g x.0 w) y in (
          x.0 + j,
          subst (λ u. Related u (run g (x.0 + j) w)) (sym (last_step n v))
              (subst (λ u. Related (step f (run f n v)) u) (sym (run_plus g x.0 j w)) (jumped (run f n v) (run g x.0 w) y)),
        )

    -- how many steps of g the first n steps of f take
    abbrev pub steps_for : ℕ → ℕ
    steps_for n = (chase n).0

    abbrev next : (n : ℕ) → IsFollowed (run f n v) (run g (steps_for n) w)
    next n = follows (run f n v) (run g (steps_for n) w) (chase n).1

    catch_by :
        (s n : ℕ)
        → weight (run f n v) < suc s
        → (x : IsFollowed (run f n v) (run g (steps_for n) w))
        → steps_for (suc n) ≡ steps_for n + jump (run f n v) (run g (steps_for n) w) x
        → ((i : ℕ) → weight (run f i v) < s → (m : ℕ) × (steps_for i < steps_for m))
        → (m : ℕ) × (steps_for n < steps_for m)
    catch_by s n low (Waits r less) e go =
        let y = go (suc n) (subst (λ u. weight u < s) (sym (last_step n v)) (omega (arith, low, less))) in
        (y.0, omega (arith, e, y.1))
    catch_by s n low (Steps j c r) e go = (suc n, omega (arith, e))

    -- enough steps of f give a step of g
    catch : (s n : ℕ) → weight (run f n v) < s → (m : ℕ) × (steps_for n < steps_for m)
    catch zero n low = absurd (omega (arith, low))
    catch (suc s) n low = catch_by s n low (next n) refl (catch s)

    reach : (m : ℕ) → (n : ℕ) × (m ≤ steps_for n)
    reach zero = (0, omega arith)
    reach (suc m) =
        let x = reach m in
        let y = catch (suc (weight (run f x.0 v))) x.0 (omega arith) in
        (y.0, omega (arith, x.1, y.1))

    pub follows_paced : Paced f g Counted v w steps_for
    follows_paced = record {
      begins = refl;
      same = λ n. same (run f n v) (run g (steps_for n) w) (chase n).1;
      paces = λ n. paces_by (steps_for n) (run f n v) (run g (steps_for n) w) (next n);
      reaches = reach;
    }
