-- Where two runs have one future, and one of them comes to nothing that is wanted, the other one comes to nothing from there on.
use Rattle.std.proofs.Common.{◌≡◌, ℕ, suc, ◌+◌, ℤ, List, ◌∷◌, ◌++◌, Some, true, sym, ap, subst, ◌∙◌, inl, inr, ⊎_elim, arith}
use Rattle.std.specs.Prelude.{int_le, ◌≤ℤ◌, ◌<ℤ◌}
use Rattle.std.proofs.lemmas.Int.{ints}
use Rattle.std.proofs.lemmas.List.{append_assoc}
use Rattle.base.specs.Schedule.{is_schedule}
use Rattle.base.specs.declared.schedule.ScheduleLine.{ScheduleLine}
use Rattle.kernel.specs.State as kernel
use Rattle.kernel.specs.State.{Line}
use Rattle.kernel.specs.Laws.{LeftUnmoved}
use Rattle.image.specs.Code.{CodeWorld, code}
use Rattle.image.specs.Sections.{Sections}
use Rattle.image_laws.specs.Laws.{OutcomeStays}
use Rattle.likeness.proofs.Meeting.{HaveOneFuture}
use Rattle.searching.specs.Searches.{AnswersRun, IsFollowedOn, NeverComes, kernels}
use Rattle.searching.specs.Sights.{HasLine, IsWanted, Stopped, Waiting, Written}
use Rattle.searching.specs.declared.one.Answer.TheVariants as answers
use Rattle.searching.specs.declared.sight.Wanted.{Wanted}
use Rattle.searching.proofs.Standing.{has_later, le_of, onward, parted}

-- a line of the second of two lists is one of both
pub in_second : (xs ys : List Line) (line : Line) → HasLine ys line → HasLine (xs ++ ys) line
in_second xs ys line h = (xs ++ h.0, h.1, ap (λ l. xs ++ l) h.2 ∙ sym (append_assoc xs h.0 (line ∷ h.1)))

lt_through : (a b c : ℤ) → a <ℤ b → b ≤ℤ c → a <ℤ c
lt_through a b c h i = grind (arith, ints)

module _ (unmoved : LeftUnmoved) (stays : OutcomeStays) (i : Sections) (r s : List ScheduleLine) (lawful_r : is_schedule r ≡ true) (lawful_s : is_schedule s ≡ true)
    (n m : ℕ) (lines others : List Line) (f : HaveOneFuture i r s n m lines others) (until : ℤ) (limit : ℕ) (wanted : Wanted)
    (none : (line : Line) → HasLine lines line → IsWanted wanted (Written line) → line.time ≤ℤ until → ⊥)
    (quiet : AnswersRun i s until limit wanted answers.Nothing) where
  sum : (j : ℕ) → n + suc j ≡ j + (n + 1)
  sum j = omega arith

  sum_s : (j : ℕ) → m + suc j ≡ j + (m + 1)
  sum_s j = omega arith

  -- an outcome of the one is one of the other
  outcome_there : (j : ℕ) (o : kernel.Outcome) → (kernels i r j).outcome ≡ Some o
      → ((kernels i s (m + suc j)).outcome ≡ Some o) × ((kernels i s (m + suc j)).now ≡ (kernels i r j).now)
  outcome_there j o is =
      let stay : code i r (n + suc j) ≡ code i r j = ap (code i r) (sum j) ∙ stays i r j (n + 1) o is in (
        sym (f.outcome j) ∙ (ap (λ (w : CodeWorld). w.kernel.outcome) stay ∙ is),
        sym (f.now j) ∙ ap (λ (w : CodeWorld). w.kernel.now) stay,
      )

  line_there : (j : ℕ) (line : Line) → HasLine (kernels i r j).lines line → IsWanted wanted (Written line) → line.time ≤ℤ until → ⊥
  line_there j line has wants le =
      let later : HasLine (kernels i r (n + suc j)).lines line =
      subst (λ x. HasLine (kernels i r x).lines line) (sym (sum j)) (has_later unmoved stays i r lawful_r j (n + 1) line has) in
      let both : HasLine (lines ++ f.more j) line = subst (λ l. HasLine l line) (f.here j) later in
      ⊎_elim
      (λ early. none line early wants le)
      (λ late. quiet.0 (Written line) wants (record {
        steps = m + suc j;
        shows = (subst (λ l. HasLine l line) (sym (f.there j)) (in_second others (f.more j) line late), le);
      }))
      (parted lines (f.more j) line both)

  never : NeverComes until wanted (kernels i r)
  never (Stopped x t time) wants c =
      let there = outcome_there c.steps (kernel.Unhandled x t) c.shows.0 in
      quiet.0 (Stopped x t time) wants (record { steps = m + suc c.steps; shows = (there.0, there.1 ∙ c.shows.1, c.shows.2) })
  never (Waiting time) wants c =
      let there = outcome_there c.steps kernel.WaitsForever c.shows.0 in
      quiet.0 (Waiting time) wants (record { steps = m + suc c.steps; shows = (there.0, there.1 ∙ c.shows.1, c.shows.2) })
  never (Written line) wants c = line_there c.steps line c.shows.0 wants c.shows.1

  followed : IsFollowedOn until (kernels i r)
  followed =
      let q = quiet.1 in
      let j = q.steps in
      record {
        steps = n + suc j;
        over =
            ⊎_elim
            (λ past.
            let on = onward unmoved stays i s lawful_s j (m + 1) in
            let far : (kernels i s j).now ≤ℤ (kernels i s (m + suc j)).now =
            le_of _ _ (subst (λ x. int_le (kernels i s j).now (kernels i s x).now ≡ true) (sym (sum_s j)) on.now) in
            inl (subst (λ z. until <ℤ z) (sym (f.now j)) (lt_through until (kernels i s j).now (kernels i s (m + suc j)).now past far)))
            (λ over.
            let stay : code i s (m + suc j) ≡ code i s j = ap (code i s) (sum_s j) ∙ stays i s j (m + 1) over.0 over.1 in
            inr (over.0, f.outcome j ∙ (ap (λ (w : CodeWorld). w.kernel.outcome) stay ∙ over.1)))
            q.over;
      }

  pub quiet_too : AnswersRun i r until limit wanted answers.Nothing
  quiet_too = (never, followed)
