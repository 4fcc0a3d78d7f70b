-- Steps of a task that no other task notices, counted, where the effect of the first of them is known: actions of functions open and close among them.
use Rattle.std.proofs.Common.{◌≡◌, ℕ, suc, ◌≤◌, sym, ap, ◌∙◌, subst}
use Rattle.kernel.specs.Calm.{IsRunner}
use Rattle.kernel.specs.Counting.{Alone, Calls, Done, Own, Spends, next_kernel, next_solo}
use Rattle.kernel.specs.Effects.{Closes, Effect, after}
use Rattle.kernel.specs.State.{Kernel}
use Rattle.kernel.specs.Worlds.{Behaviour, Solo, ending}
use Rattle.expr_soundness.specs.meaning.specs.Meeting.{Last, Over, OwnStep, Takes, Within}

module _ {N T H : Type 0} (g : Behaviour N T H) (t : ℕ) (frames limit : T → ℕ) where
  -- steps up to one that is to be taken, and that step, are steps
  takes_spends : {d n : ℕ} {k l : Kernel} {s r : Solo N T} → Takes g t frames limit d n k s l r → Alone g t l r
      → Spends g t frames limit d n k s (next_kernel g t l r) (next_solo g t l r)
  takes_spends (Last here) last = Own last here Done
  takes_spends (OwnStep alone here rest) last = Own alone here (takes_spends rest last)
  takes_spends (Over alone here above low rest) last = Calls alone here above low (takes_spends rest last)
  takes_spends (Within alone here above low) last = Calls alone here (takes_spends above last) low Done

  -- a step with this effect, which leads from kernel k to kernel l and from state s to state x
  module _ (k l : Kernel) (s x : Solo N T) (e : Effect) (runs : IsRunner k t) (effect_is : (g.act k t s).effect ≡ e) (there : (g.act k t s).solo ≡ x)
      (closes : ending k t e ≡ Closes) (next : after t e k ≡ l) where
    alone : Alone g t k s
    alone = record { runs = runs; closes = ap (λ y. ending k t y) effect_is ∙ closes }

    kernel_is : next_kernel g t k s ≡ l
    kernel_is = ap (λ y. after t y k) effect_is ∙ next

    pub own_spends : {d n : ℕ} {o : Kernel} {v : Solo N T} → frames s.task ≡ d → Spends g t frames limit d n l x o v → Spends g t frames limit d (suc n) k s o v
    own_spends {d = d} {n = n} {o = o} {v = v} here rest =
        Own alone here
        (subst (λ y. Spends g t frames limit d n y (next_solo g t k s) o v) (sym kernel_is) (subst (λ y. Spends g t frames limit d n l y o v) (sym there) rest))

    -- steps up to it, and it
    pub taken_spends : {d n : ℕ} {o : Kernel} {v : Solo N T} → Takes g t frames limit d n o v k s → Spends g t frames limit d n o v l x
    taken_spends {d = d} {n = n} {o = o} {v = v} takes =
        subst (λ y. Spends g t frames limit d n o v y x) kernel_is
        (subst (λ y. Spends g t frames limit d n o v (next_kernel g t k s) y) there (takes_spends takes alone))

    -- a call that comes to its end in kernel o
    module _ {d m : ℕ} {o : Kernel} {v : Solo N T} (here : frames s.task ≡ d) (above : Spends g t frames limit (suc d) m l x o v) (low : m ≤ limit x.task) where
      from_call : Spends g t frames limit (suc d) m (next_kernel g t k s) (next_solo g t k s) o v
      from_call =
          subst (λ y. Spends g t frames limit (suc d) m y (next_solo g t k s) o v) (sym kernel_is)
          (subst (λ y. Spends g t frames limit (suc d) m l y o v) (sym there) above)

      low_there : m ≤ limit (next_solo g t k s).task
      low_there = subst (λ y. m ≤ limit y.task) (sym there) low

      pub calls_spend : {n : ℕ} {p : Kernel} {r : Solo N T} → Spends g t frames limit d n o v p r → Spends g t frames limit d (suc n) k s p r
      calls_spend rest = Calls alone here from_call low_there rest

      pub calls_take : {n : ℕ} {p : Kernel} {r : Solo N T} → Takes g t frames limit d n o v p r → Takes g t frames limit d (suc n) k s p r
      calls_take rest = Over alone here from_call low_there rest
