-- Laws for those who show that steps are met: counted steps one behind another, and met steps by what the two sides are known to do. Proved terms.
use Rattle.std.proofs.Common.{◌≡◌, ◌≢◌, ℕ, zero, suc, ◌+◌, ◌<◌, ◌≤◌, Option, Some, false, cond, refl, sym, ap, ◌∙◌, subst, arith}
use Rattle.kernel.specs.State.{Kernel, IsQueued, IsServed}
use Rattle.kernel.specs.Effects.{Effect, Quiet, Ending, Closes, TakesOver, HandsBack, after}
use Rattle.kernel.specs.Worlds.{Solo, Act, Behaviour, ending, is_handler_over, restarted}
use Rattle.kernel.specs.Calm.{IsRunner, Calm}
use Rattle.kernel.specs.Counting.{Alone, Spends, Done, Own, Calls, next_kernel, next_solo}
use Rattle.kernel.specs.Laws.{QuietStays, Reaches}
use Rattle.meaning.specs.Meeting.{Relation, Takes, Last, OwnStep, Over, Within, taken, Met, Still, Moves, Walks, Owed}

-- a step at which no handler is over leaves what it holds
pub unrestarted : {M T G : Type 0} (start : T) (k : Kernel) (t : ℕ) (a : Act M T G) → is_handler_over k t a.effect ≡ false → restarted start k t a ≡ a
unrestarted start k t a on =
    λ j. record { effect = a.effect; solo = record { memory = a.solo.memory; task = cond (on j) start a.solo.task }; given = a.given }

module _ {N T H : Type 0} (g : Behaviour N T H) (t : ℕ) (frames limit : T → ℕ) where
  pub takes_more : {d n : ℕ} {k l : Kernel} {s r : Solo N T} (m : ℕ) → n ≤ m → Takes g t frames limit d n k s l r → Takes g t frames limit d m k s l r
  takes_more zero le (Last here) = absurd (omega arith)
  takes_more (suc m) le (Last here) = Last here
  takes_more zero le (OwnStep alone here rest) = absurd (omega arith)
  takes_more (suc m) le (OwnStep {n = n} alone here rest) = OwnStep alone here (takes_more {n = n} m (omega arith) rest)
  takes_more zero le (Over alone here above low rest) = absurd (omega arith)
  takes_more (suc m) le (Over {n = n} alone here above low rest) = Over alone here above low (takes_more {n = n} m (omega arith) rest)
  takes_more zero le (Within alone here above low) = absurd (omega arith)
  takes_more (suc m) le (Within alone here above low) = Within alone here above low

  -- steps, and then steps up to the last one
  pub spends_takes :
      {d n : ℕ} {k l : Kernel} {s r : Solo N T} (m : ℕ) (o : Kernel) (v : Solo N T)
      → Spends g t frames limit d n k s l r
      → Takes g t frames limit d m l r o v
      → Takes g t frames limit d (n + m) k s o v
  spends_takes {n = n} m o v Done q = takes_more (n + m) (omega arith) q
  spends_takes {d = d} {k = k} {s = s} m o v (Own {n = n} alone here rest) q =
      let e : suc (n + m) ≡ suc n + m = omega arith in
      subst (λ x. Takes g t frames limit d x k s o v) e (OwnStep alone here (spends_takes m o v rest q))
  spends_takes {d = d} {k = k} {s = s} m o v (Calls {n = n} alone here above low rest) q =
      let e : suc (n + m) ≡ suc n + m = omega arith in
      subst (λ x. Takes g t frames limit d x k s o v) e (Over alone here above low (spends_takes m o v rest q))

  -- a quiet step reaches no other task
  pub quiet_alone : (k : Kernel) (s : Solo N T) → IsRunner k t → (g.act k t s).effect ≡ Quiet → Alone g t k s
  quiet_alone k s runs e = record { runs = runs; closes = ap (λ x. ending k t x) e }

  module _ (quiet : QuietStays) (k : Kernel) (calm : Calm k t) (s x : Solo N T) (e : (g.act k t s).effect ≡ Quiet) (there : (g.act k t s).solo ≡ x) where
    pub same_kernel : next_kernel g t k s ≡ k
    same_kernel = ap (λ y. after t y k) e ∙ quiet k t calm

    -- a quiet step of the frame, and what comes then
    pub quiet_spends : {d n : ℕ} {l : Kernel} {r : Solo N T} → frames s.task ≡ d → Spends g t frames limit d n k x l r
        → Spends g t frames limit d (suc n) k s l r
    quiet_spends {d = d} {n = n} {l = l} {r = r} here rest =
        Own (quiet_alone k s calm.runs e) here (subst (λ y. Spends g t frames limit d n y (next_solo g t k s) l r) (sym same_kernel)
        (subst (λ y. Spends g t frames limit d n k y l r) (sym there) rest))

    pub quiet_takes : {d n : ℕ} {l : Kernel} {r : Solo N T} → frames s.task ≡ d → Takes g t frames limit d n k x l r → Takes g t frames limit d (suc n) k s l r
    quiet_takes {d = d} {n = n} {l = l} {r = r} here rest =
        OwnStep (quiet_alone k s calm.runs e) here (subst (λ y. Takes g t frames limit d n y (next_solo g t k s) l r) (sym same_kernel)
        (subst (λ y. Takes g t frames limit d n k y l r) (sym there) rest))

    -- a call that comes to its end, and what comes then
    pub call_spends :
        {d n m : ℕ} {o l : Kernel} {v r : Solo N T}
        → frames s.task ≡ d
        → Spends g t frames limit (suc d) m k x o v
        → m ≤ limit x.task
        → Spends g t frames limit d n o v l r
        → Spends g t frames limit d (suc n) k s l r
    call_spends {d = d} {m = m} {o = o} {v = v} here above low rest =
        Calls (quiet_alone k s calm.runs e) here (subst (λ y. Spends g t frames limit (suc d) m y (next_solo g t k s) o v) (sym same_kernel)
        (subst (λ y. Spends g t frames limit (suc d) m k y o v) (sym there) above)) (subst (λ y. m ≤ limit y.task) (sym there) low) rest

    -- a call within which the last step is taken
    pub call_takes :
        {d n m : ℕ} {l : Kernel} {r : Solo N T}
        → frames s.task ≡ d
        → Takes g t frames limit (suc d) m k x l r
        → m ≤ limit x.task
        → Takes g t frames limit d (suc n) k s l r
    call_takes {d = d} {m = m} {l = l} {r = r} here above low =
        Within (quiet_alone k s calm.runs e) here (subst (λ y. Takes g t frames limit (suc d) m y (next_solo g t k s) l r) (sym same_kernel)
        (subst (λ y. Takes g t frames limit (suc d) m k y l r) (sym there) above)) (subst (λ y. m ≤ limit y.task) (sym there) low)

-- met steps, where what the two sides do is known by equations
module _ {Note M S G N T H : Type 0} (f : Behaviour M S G) (g : Behaviour N T H) (rel : Relation Note M S G N T H) (frames limit : T → ℕ) (note : Note)
    (k : Kernel) (t : ℕ) (a : Solo M S) (b : Solo N T) where
  pub still_by :
      (x : Act M S G)
      → f.act k t a ≡ x
      → x.effect ≡ Quiet
      → rel.shares x.solo.memory b.memory
      → rel.stands note k t x.solo.task b.task
      → rel.size x.solo.task < rel.size a.task
      → Met f g rel frames limit note k t a b
  still_by x is e sh st less =
      Still (ap (λ y. y.effect) is ∙ e) (subst (λ y. rel.shares y.solo.memory b.memory) (sym is) sh)
      (subst (λ y. rel.stands note k t y.solo.task b.task) (sym is) st) (subst (λ y. rel.size y.solo.task < rel.size a.task) (sym is) less)

  pub moves_by :
      (n : ℕ) (c : Solo N T) (x : Act M S G) (y : Act N T H)
      → f.act k t a ≡ x
      → g.act k t c ≡ y
      → Takes g t frames limit (frames b.task) n k b k c
      → n ≤ limit b.task
      → y.effect ≡ x.effect
      → rel.shares x.solo.memory y.solo.memory
      → rel.leaves note k t x.effect x.solo.task y.solo.task x.given y.given
      → Met f g rel frames limit note k t a b
  moves_by n c x y is there takes low e sh leaves =
      Moves n c takes low
      (ap (λ z. z.effect) there ∙ (e ∙ sym (ap (λ z. z.effect) is)))
      (subst (λ z. rel.shares z.solo.memory (g.act k t c).solo.memory) (sym is) (subst (λ z. rel.shares x.solo.memory z.solo.memory) (sym there) sh))
      (subst (λ z. rel.leaves note k t z.effect z.solo.task (g.act k t c).solo.task z.given (g.act k t c).given) (sym is)
      (subst (λ z. rel.leaves note k t x.effect x.solo.task z.solo.task x.given z.given) (sym there) leaves))

  -- steps lead up to a step that is still to be taken
  pub walks_by :
      (j n : ℕ) (c : Solo N T) (x : Act M S G)
      → f.act k t a ≡ x
      → (all : Takes g t frames limit (frames b.task) n k b k c)
      → taken g t frames limit all ≡ suc (suc j)
      → n ≤ limit b.task
      → x.effect ≡ Quiet
      → rel.shares x.solo.memory c.memory
      → rel.stands note k t x.solo.task c.task
      → Met f g rel frames limit note k t a b
  walks_by j n c x is all many low e sh st =
      Walks j n c all many low (ap (λ y. y.effect) is ∙ e) (subst (λ y. rel.shares y.solo.memory c.memory) (sym is) sh)
      (subst (λ y. rel.stands note k t y.solo.task c.task) (sym is) st)

-- What is owed follows from what is owed in each of the three ways in which an effect ends, where it is known whom the effect reaches.
module _ {Note M S G N T H : Type 0} (f : Behaviour M S G) (g : Behaviour N T H) (rel : Relation Note M S G N T H) (frames limit : T → ℕ) (k : Kernel) (t : ℕ)
    (e : Effect)
    (ones : ℕ → S) (others : ℕ → T) (a : S) (b : T) (p : Option G) (q : Option H) where
  abbrev pub Debt : Ending → Type 0
  Debt x = (next : Note) × Owed f g rel frames limit next k t e ones others a b p q x

  owed_at :
      (x : Ending)
      → ending k t e ≡ x
      → Reaches k t e
      → (ending k t e ≡ Closes → Debt Closes)
      → ((o u : ℕ) → ending k t e ≡ TakesOver o u → k.queued o ≡ Some u → k.place u ≡ IsQueued o → u ≢ t → Debt (TakesOver o u))
      → ((u o : ℕ) → ending k t e ≡ HandsBack u → k.place u ≡ IsServed o → u ≢ t → Debt (HandsBack u))
      → Debt x
  owed_at Closes is reaches closes takes hands = closes is
  owed_at (TakesOver o u) is reaches closes takes hands = let x = reaches.queued o u is in takes o u is x.0 x.1 x.2
  owed_at (HandsBack u) is reaches closes takes hands = let x = reaches.served u is in hands u x.0 is x.1 x.2

  pub owed_by :
      Reaches k t e
      → (ending k t e ≡ Closes → Debt Closes)
      → ((o u : ℕ) → ending k t e ≡ TakesOver o u → k.queued o ≡ Some u → k.place u ≡ IsQueued o → u ≢ t → Debt (TakesOver o u))
      → ((u o : ℕ) → ending k t e ≡ HandsBack u → k.place u ≡ IsServed o → u ≢ t → Debt (HandsBack u))
      → Debt (ending k t e)
  owed_by = owed_at (ending k t e) refl

-- What is met for one relation is met for another one with the same sizes, which asks no more of this task, memories and what is left; its note is its own.
module _ {Note Memo M S G N T H : Type 0} (f : Behaviour M S G) (g : Behaviour N T H) (rel : Relation Note M S G N T H) (wide : Relation Memo M S G N T H)
    (frames limit : T → ℕ)
    (note : Note) (memo : Memo) (k : Kernel) (t : ℕ) where
  pub met_for :
      ((m : M) (n : N) → rel.shares m n → wide.shares m n)
      → ((s : S) (x : T) → rel.stands note k t s x → wide.stands memo k t s x)
      → ((e : Effect) (s : S) (x : T) (p : Option G) (q : Option H) → rel.leaves note k t e s x p q → wide.leaves memo k t e s x p q)
      → ((s : S) → wide.size s ≡ rel.size s)
      → (a : Solo M S) (b : Solo N T)
      → Met f g rel frames limit note k t a b
      → Met f g wide frames limit memo k t a b
  met_for shares stands leaves size a b (Still e sh st less) =
      let s = (f.act k t a).solo in
      Still e (shares s.memory b.memory sh) (stands s.task b.task st)
      (subst (λ x. x < wide.size a.task) (sym (size s.task)) (subst (λ x. rel.size s.task < x) (sym (size a.task)) less))
  met_for shares stands leaves size a b (Moves n c takes low e sh left) =
      let x = f.act k t a in
      let y = g.act k t c in
      Moves n c takes low e (shares x.solo.memory y.solo.memory sh) (leaves x.effect x.solo.task y.solo.task x.given y.given left)
  met_for shares stands leaves size a b (Walks j n c all many low e sh st) =
      let s = (f.act k t a).solo in Walks j n c all many low e (shares s.memory c.memory sh) (stands s.task c.task st)
