-- Where each step of a task is met, the run of all tasks on the one side is followed by that on the other. Proved terms, generic in the two sides.
use Rattle.std.proofs.Common.{◌≡◌, ◌≢◌, ℕ, zero, suc, ◌+◌, ◌<◌, Option, Some, None, refl, sym, ap, ◌∙◌, subst, arith, ⊎_elim}
use Rattle.kernel.specs.State.{Kernel, Outcome, put}
use Rattle.kernel.specs.Effects.{Effect, Ending, Closes, TakesOver, HandsBack, after}
use Rattle.kernel.specs.Worlds.{World, Tasks, Solo, Did, Behaviour, ending, reached, solo_of, put_back, among, step, step_of, run}
use Rattle.kernel.specs.Calm.{IsRunner}
use Rattle.kernel.specs.Counting.{Unseen, Spends, Done, Own, Calls, next_kernel, next_solo}
use Rattle.kernel.specs.Laws.{LinesGrow, QuietStays}
use Rattle.kernel.specs.PutLaws.{same_or_not, put_same, put_other, put_self}
use Rattle.kernel.specs.RunLaws.{run_plus, step_running, solo_back, back_back, among_alone, unseen_trans, unseen_run}
use Rattle.meaning.specs.Same.{ShowSame}
use Rattle.meaning.specs.Following.{IsFollowed, Waits, Steps, Paced, steps_for, follows_paced, paced_same}
use Rattle.meaning.specs.Meeting.{Relation, Takes, Last, OwnStep, Over, Within, spent, taken, Counted, Idle, Busy, Begun, received, behind, Met, Still, Moves, Walks, Owed, Before, Meets, Related}

-- Counted steps are steps

module _ {N T H : Type 0} (g : Behaviour N T H) (t : ℕ) (frames limit : T → ℕ) where
  pub spent_unseen : {d n : ℕ} {k l : Kernel} {s r : Solo N T} (x : Spends g t frames limit d n k s l r) → Unseen g t (spent g t frames limit x) k s l r
  spent_unseen Done = (refl, refl)
  spent_unseen (Own alone here rest) = (alone, spent_unseen rest)
  spent_unseen {k = k} {s = s} (Calls {l = l} {o = o} {r = r} {v = v} alone here above low rest) = (
    alone,
    unseen_trans g t (spent g t frames limit above) (spent g t frames limit rest) (next_kernel g t k s) (next_solo g t k s) l r o v
        (spent_unseen above) (spent_unseen rest),
  )

  -- all but the last one are unseen
  pub taken_unseen :
      {d n : ℕ} {k l : Kernel} {s r : Solo N T} (x : Takes g t frames limit d n k s l r)
      → (j : ℕ) × (taken g t frames limit x ≡ suc j) × Unseen g t j k s l r
  taken_unseen (Last here) = (0, refl, (refl, refl))
  taken_unseen (OwnStep alone here rest) = let x = taken_unseen rest in (suc x.0, ap suc x.1, (alone, x.2))
  taken_unseen {k = k} {s = s} (Over {l = l} {o = o} {r = r} {v = v} alone here above low rest) =
      let x = taken_unseen rest in
      let j = spent g t frames limit above in
      (suc (j + x.0), omega (arith, x.1), (alone, unseen_trans g t j x.0 (next_kernel g t k s) (next_solo g t k s) l r o v (spent_unseen above) x.2))
  taken_unseen (Within alone here above low) = let x = taken_unseen above in (suc x.0, ap suc x.1, (alone, x.2))

  -- a step from a state that was put back
  abbrev did_back : Kernel → Tasks N T → Solo N T → Did (Tasks N T)
  did_back k d s = let a = g.act k t s in record {
    effect = a.effect;
    rest = record { memory = a.solo.memory; tasks = reached g t (ending k t a.effect) a.given (put t a.solo.task d.tasks) };
  }

  among_back : (k : Kernel) (d : Tasks N T) (s : Solo N T) → among g k t (put_back t d s) ≡ did_back k d s
  among_back k d s =
      ap (λ x. let a = g.act k t x in record {
        effect = a.effect;
        rest = record { memory = a.solo.memory; tasks = reached g t (ending k t a.effect) a.given (put_back t (put_back t d s) a.solo).tasks };
      })
      (solo_back t d s)
      ∙ (let a = g.act k t s in ap (λ x. record {
        effect = a.effect;
        rest = record { memory = a.solo.memory; tasks = reached g t (ending k t a.effect) a.given x.tasks };
      }) (back_back t d s a.solo))

  abbrev world_back : Kernel → Tasks N T → Solo N T → World (Tasks N T)
  world_back k d s = record { kernel = after t (did_back k d s).effect k; rest = (did_back k d s).rest }

  pub taken_run : (j : ℕ) (k : Kernel) (d : Tasks N T) (s : Solo N T) → IsRunner k t → Unseen g t j k (solo_of t d) k s
      → run (among g) (suc j) (record { kernel = k; rest = d }) ≡ world_back k d s
  taken_run j k d s runs unseen =
      let one : suc j ≡ j + 1 = omega arith in
      ap (λ n. run (among g) n (record { kernel = k; rest = d })) one
      ∙ run_plus (among g) j 1 (record { kernel = k; rest = d })
      ∙ ap (step (among g)) (unseen_run g t j d k k s unseen)
      ∙ step_running (among g) k t (put_back t d s) runs
      ∙ ap (λ x. record { kernel = after t x.effect k; rest = x.rest }) (among_back k d s)

-- What holds at one place of two functions and elsewhere of two others

put_at :
    {S T : Type 0} (P : S → T → Type 0) (t v : ℕ) (a : S) (b : T) (ones : ℕ → S) (others : ℕ → T)
    → (v ≡ t → P a b)
    → (v ≢ t → P (ones v) (others v))
    → P (put t a ones v) (put t b others v)
put_at P t v a b ones others here elsewhere =
    ⊎_elim
    (λ e. subst (λ x. P x (put t b others v)) (sym (put_same t v a ones e)) (subst (λ x. P a x) (sym (put_same t v b others e)) (here e)))
    (λ ne. subst (λ x. P x (put t b others v)) (sym (put_other t v a ones ne)) (subst (λ x. P (ones v) x) (sym (put_other t v b others ne)) (elsewhere ne)))
    (same_or_not v t)

reached_back :
    {M T G : Type 0} (b : Behaviour M T G) (t u : ℕ) (given : Option G) (tasks : ℕ → T) (v : ℕ)
    → reached b t (HandsBack u) given tasks v ≡ put u (received b given (tasks u)) tasks v
reached_back b t u None tasks v = sym (put_self u tasks v)
reached_back b t u (Some g) tasks v = refl

module _ {Note M S G N T H : Type 0} (f : Behaviour M S G) (g : Behaviour N T H) (rel : Relation Note M S G N T H) (frames limit : T → ℕ) where
  module _ (note : Note) (k : Kernel) (t : ℕ) (e : Effect) (ones : ℕ → S) (others : ℕ → T) (a : S) (b : T) (p : Option G) (q : Option H) where
    abbrev All : Ending → Type 0
    All x = (v : ℕ) → rel.stands note (after t e k) v (reached f t x p (put t a ones) v) (reached g t x q (put t b others) v)

    abbrev Debt : Ending → Type 0
    Debt x = Owed f g rel frames limit note k t e ones others a b p q x

    reached_stand : (x : Ending) → ((o u : ℕ) → x ≡ TakesOver o u → u ≢ t) → ((u : ℕ) → x ≡ HandsBack u → u ≢ t) → Debt x → All x
    reached_stand Closes queued served d v =
        put_at (rel.stands note (after t e k) v) t v a b ones others (λ same. subst (λ n. rel.stands note (after t e k) n a b) (sym same) d.0) (d.1 v)
    reached_stand (TakesOver o u) queued served d v =
        let l = after t e k in
        let ne = queued o u refl in
        let fu = put_other t u a ones ne in
        let gu = put_other t u b others ne in
        let ft = put_same t t a ones refl in
        let gt = put_same t t b others refl in
        put_at (rel.stands note l v) u v (f.taken o (put t a ones u)) (g.taken o (put t b others u))
        (put t (f.serving o u (put t a ones u) (put t a ones t)) (put t a ones)) (put t (g.serving o u (put t b others u) (put t b others t)) (put t b others))
        (λ same. subst (λ n. rel.stands note l n (f.taken o (put t a ones u)) (g.taken o (put t b others u))) (sym same)
        (subst (λ x. rel.stands note l u (f.taken o x) (g.taken o (put t b others u))) (sym fu)
        (subst (λ x. rel.stands note l u (f.taken o (ones u)) (g.taken o x)) (sym gu) d.1)))
        (λ other.
        put_at (rel.stands note l v) t v (f.serving o u (put t a ones u) (put t a ones t)) (g.serving o u (put t b others u) (put t b others t)) (put t a ones)
        (put t b others)
        (λ same.
        subst (λ n. rel.stands note l n (f.serving o u (put t a ones u) (put t a ones t)) (g.serving o u (put t b others u) (put t b others t))) (sym same)
        (subst (λ x. rel.stands note l t (f.serving o u x (put t a ones t)) (g.serving o u (put t b others u) (put t b others t))) (sym fu)
        (subst (λ x. rel.stands note l t (f.serving o u (ones u) x) (g.serving o u (put t b others u) (put t b others t))) (sym ft)
        (subst (λ x. rel.stands note l t (f.serving o u (ones u) a) (g.serving o u x (put t b others t))) (sym gu)
        (subst (λ x. rel.stands note l t (f.serving o u (ones u) a) (g.serving o u (others u) x)) (sym gt) d.0)))))
        (λ apart. put_at (rel.stands note l v) t v a b ones others (λ same. absurd (apart same)) (λ x. d.2 v apart other)))
    reached_stand (HandsBack u) queued served d v =
        let l = after t e k in
        let ne = served u refl in
        let fu = put_other t u a ones ne in
        let gu = put_other t u b others ne in
        subst (λ x. rel.stands note l v x (reached g t (HandsBack u) q (put t b others) v)) (sym (reached_back f t u p (put t a ones) v))
        (subst (λ x. rel.stands note l v (put u (received f p (put t a ones u)) (put t a ones) v) x) (sym (reached_back g t u q (put t b others) v))
        (put_at (rel.stands note l v) u v (received f p (put t a ones u)) (received g q (put t b others u)) (put t a ones) (put t b others)
        (λ same. subst (λ n. rel.stands note l n (received f p (put t a ones u)) (received g q (put t b others u))) (sym same)
        (subst (λ x. rel.stands note l u (received f p x) (received g q (put t b others u))) (sym fu)
        (subst (λ x. rel.stands note l u (received f p (ones u)) (received g q x)) (sym gu) d.1)))
        (λ other. put_at (rel.stands note l v) t v a b ones others (λ same. subst (λ n. rel.stands note l n a b) (sym same) d.0) (λ apart. d.2 v apart other))))

  -- the rel.size of what the running task holds
  abbrev weight_of : Option ℕ → Tasks M S → ℕ
  weight_of None d = 0
  weight_of (Some t) d = rel.size (d.tasks t)

  abbrev pub weight : World (Tasks M S) → ℕ
  weight v = weight_of v.kernel.running v.rest

  module _ (Ones : World (Tasks M S) → Type 0) (Others : World (Tasks N T) → Type 0) (grow : LinesGrow) (quiet : QuietStays)
      (meets : Meets f g rel frames limit Ones Others) where
    abbrev Rel : World (Tasks M S) → World (Tasks N T) → Type 0
    Rel = Related f g rel frames limit Ones Others

    abbrev Next : World (Tasks M S) → World (Tasks N T) → Type 0
    Next = IsFollowed (among f) (among g) Rel weight (Counted g frames limit)

    kept_run : (n : ℕ) (w : World (Tasks N T)) → Others w → Others (run (among g) n w)
    kept_run zero w h = h
    kept_run (suc n) w h = kept_run n (step (among g) w) (meets.kept_others w h)

    module _ (k : Kernel) (c : Tasks M S) (d : Tasks N T) where
      abbrev one : World (Tasks M S)
      one = record { kernel = k; rest = c }

      abbrev other : World (Tasks N T)
      other = record { kernel = k; rest = d }

      -- nobody runs
      idle : Rel one other → ((t : ℕ) → IsRunner k t → ⊥) → step (among f) one ≡ one → step (among g) other ≡ other → Next one other
      idle r nobody ef eg = Steps 0 (Idle nobody refl) (subst (λ v. Rel v (step (among g) other)) (sym ef) (subst (λ w. Rel one w) (sym eg) r))

      -- what is known where task t is to take its step
      reached_by : {t : ℕ} → IsRunner k t → (r : Rel one other) → Before f g rel frames limit Ones Others r.note k t c d
      reached_by {t} runs r = record { ones = r.ones; others = r.others; runner = meets.runner other t r.others runs; shared = r.shared; stand = r.stands }

      module _ (t : ℕ) (runs : IsRunner k t) (r : Rel one other) where
        met_next : Met f g rel frames limit r.note k t (solo_of t c) (solo_of t d) → Next one other
        met_next (Still q sh st less) =
            let s = (f.act k t (solo_of t c)).solo in
            let e = (f.act k t (solo_of t c)).effect in
            let calm = (meets.runner other t r.others runs).calm in
            let stays : after t e k ≡ k = ap (λ x. after t x k) q ∙ quiet k t calm in
            let there : step (among f) one ≡ record { kernel = k; rest = put_back t c s } =
            step_running (among f) k t c runs ∙ (λ i. record { kernel = stays i; rest = among_alone f t k c (ap (λ x. ending k t x) q) i }) in
            let stand : (u : ℕ) → rel.stands r.note k u (put t s.task c.tasks u) (d.tasks u) =
            λ u. subst (λ x. rel.stands r.note k u (put t s.task c.tasks u) x) (put_self t d.tasks u)
            (put_at (rel.stands r.note k u) t u s.task (d.tasks t) c.tasks d.tasks (λ same. subst (λ n. rel.stands r.note k n s.task (d.tasks t)) (sym same) st)
            (λ ne. r.stands u)) in
            let ones = subst Ones there (meets.kept_ones one r.ones) in
            let lighter = subst (λ o. weight_of o (put_back t c s) < weight_of o c) (sym runs.running)
            (subst (λ x. rel.size x < rel.size (c.tasks t)) (sym (put_same t t s.task c.tasks refl)) less) in
            Waits
            (subst (λ v. Rel v other) (sym there)
            (record { same = refl; ones = ones; others = r.others; shared = sh; note = r.note; stands = stand }))
            (subst (λ v. weight v < weight one) (sym there) lighter)
        met_next (Moves n s takes low same sh leaves) =
            let a = f.act k t (solo_of t c) in
            let b = g.act k t s in
            let runner = meets.runner other t r.others runs in
            let x = taken_unseen g t frames limit takes in
            let ef = step_running (among f) k t c runs in
            let eg = taken_run g t frames limit x.0 k d s runs x.2 in
            let reaches = runner.reaches a.effect in
            let end : World (Tasks N T) = behind g t k a.effect d b.solo b.given in
            let to_end : run (among g) (suc x.0) other ≡ end = eg ∙ ap (λ z. behind g t k z d b.solo b.given) same in
            let ones : Ones (behind f t k a.effect c a.solo a.given) = subst Ones ef (meets.kept_ones one r.ones) in
            let others = subst Others to_end (kept_run (suc x.0) other r.others) in
            let owed = meets.owed r.note k t c d a.effect a.solo b.solo a.given b.given
            (record { before = reached_by runs r; ones = ones; others = others; shared = sh; leaves = leaves }) in
            let stand = reached_stand owed.0 k t a.effect c.tasks d.tasks a.solo.task b.solo.task a.given b.given (ending k t a.effect)
            (λ o u z. (reaches.queued o u z).2) (λ u z. (reaches.served u z).2) owed.1 in
            Steps x.0 (Busy t n s runs takes low (sym x.1))
            (subst (λ v. Rel v (run (among g) (suc x.0) other)) (sym ef)
            (subst (λ w. Rel (behind f t k a.effect c a.solo a.given) w) (sym to_end)
            (record { same = refl; ones = ones; others = others; shared = sh; note = owed.0; stands = stand })))
        met_next (Walks j n s takes many low q sh st) =
            let p = (f.act k t (solo_of t c)).solo in
            let e = (f.act k t (solo_of t c)).effect in
            let calm = (meets.runner other t r.others runs).calm in
            let stays : after t e k ≡ k = ap (λ x. after t x k) q ∙ quiet k t calm in
            let there : step (among f) one ≡ record { kernel = k; rest = put_back t c p } =
            step_running (among f) k t c runs ∙ (λ i. record { kernel = stays i; rest = among_alone f t k c (ap (λ x. ending k t x) q) i }) in
            let x = taken_unseen g t frames limit takes in
            let count : x.0 ≡ suc j = omega (arith, x.1, many) in
            let end : World (Tasks N T) = record { kernel = k; rest = put_back t d s } in
            let to_end : run (among g) (suc j) other ≡ end = unseen_run g t (suc j) d k k s (subst (λ m. Unseen g t m k (solo_of t d) k s) count x.2) in
            let stand : (u : ℕ) → rel.stands r.note k u (put t p.task c.tasks u) (put t s.task d.tasks u) =
            λ u. put_at (rel.stands r.note k u) t u p.task s.task c.tasks d.tasks (λ same. subst (λ m. rel.stands r.note k m p.task s.task) (sym same) st)
            (λ ne. r.stands u) in
            let others = subst Others to_end (kept_run (suc j) other r.others) in
            let ones = subst Ones there (meets.kept_ones one r.ones) in
            Steps j (Begun t n s runs takes low (sym many))
            (subst (λ v. Rel v (run (among g) (suc j) other)) (sym there)
            (subst (λ w. Rel (record { kernel = k; rest = put_back t c p }) w) (sym to_end)
            (record { same = refl; ones = ones; others = others; shared = sh; note = r.note; stands = stand })))

      next_at : (o : Option Outcome) (u : Option ℕ) → k.outcome ≡ o → k.running ≡ u → Rel one other → Next one other
      next_at (Some o) u e h r = idle r (λ t runs. cc (e, runs.on)) (ap (λ x. step_of (among f) k c x k.running) e)
          (ap (λ x. step_of (among g) k d x k.running) e)
      next_at None None e h r =
          idle r (λ t runs. cc (h, runs.running)) (ap (λ x. step_of (among f) k c x k.running) e ∙ ap (λ x. step_of (among f) k c None x) h)
          (ap (λ x. step_of (among g) k d x k.running) e ∙ ap (λ x. step_of (among g) k d None x) h)
      next_at None (Some t) e h r =
          let runs : IsRunner k t = record { on = e; running = h } in
          met_next t runs r (meets.met r.note k t c d (reached_by runs r))

    pub next : (v : World (Tasks M S)) (w : World (Tasks N T)) → Rel v w → Next v w
    next v w r = subst (λ k. (r : Rel v (record { kernel = k; rest = w.rest }))
        → Next v (record { kernel = k; rest = w.rest })) r.same (λ s. next_at v.kernel v.rest w.rest v.kernel.outcome v.kernel.running refl refl s) r

    -- from related worlds on the kernels are equal after n steps of f and `steps_of_other n` of g, counted as `Counted` says
    module _ (v : World (Tasks M S)) (w : World (Tasks N T)) (start : Rel v w) where
      abbrev pub steps_of_other : ℕ → ℕ
      steps_of_other = steps_for (among f) (among g) Rel weight (Counted g frames limit) (λ x y r. r.same) next v w start

      pub met_paced : Paced (among f) (among g) (Counted g frames limit) v w steps_of_other
      met_paced = follows_paced (among f) (among g) Rel weight (Counted g frames limit) (λ x y r. r.same) next v w start

      -- both runs show the same
      pub met_same : ShowSame (λ n. (run (among f) n v).kernel) (λ m. (run (among g) m w).kernel)
      met_same = paced_same (among f) (among g) (Counted g frames limit) v w steps_of_other grow met_paced
