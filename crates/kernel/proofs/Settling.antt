-- What dispatching, waking and the delivery of an interrupt leave of open actions and pending interrupts.
use Rattle.std.proofs.Common.{◌≡◌, ◌⊎◌, inl, inr, ℕ, List, [], ◌∷◌, None, Bool, refl, sym, ap, ◌∙◌, ⊎_elim}
use Rattle.std.specs.Prelude.{int_lt}
use Rattle.kernel.specs.State.{Interrupt, Kernel, Writes, actor, put}
use Rattle.kernel.specs.Interrupts.{starts, delivers}
use Rattle.kernel.specs.Invariant.{Sound}
use Rattle.kernel.specs.Laws.{SettlesTo}
use Rattle.kernel.proofs.Lists.{either}
use Rattle.kernel.proofs.Unmoved.{Alike}
use Rattle.kernel.proofs.Interrupts.{idle_before}

pub settles_same : (l k : Kernel) → Alike l k → SettlesTo k l
settles_same l k a = record { partition = a.partition; queued = a.queued; actions = inl (a.pending, a.actions) }

-- from another kernel with the same tasks, queues, open actions and pending interrupts
pub settles_from : (j k l : Kernel) → j.partition ≡ k.partition → j.queued ≡ k.queued → j.actions ≡ k.actions → j.pending ≡ k.pending → SettlesTo j l → SettlesTo k l
settles_from j k l p q a w h =
    record {
      partition = h.partition ∙ p;
      queued = h.queued ∙ q;
      actions =
          ⊎_elim
          (λ e. inl (e.0 ∙ w, e.1 ∙ a))
          (λ x.
          let c = x.0.channel in
          inr (
            x.0,
            record {
              first = sym w ∙ x.1.first;
              idle = sym (λ m. a m (actor (p m) c)) ∙ x.1.idle;
              actions = x.1.actions ∙ (λ m. put (actor (p m) c) (Writes x.0.object ∷ []) (a m));
            },
          ))
          h.actions;
    }

pub alike_settles : (k l m : Kernel) → Alike l k → SettlesTo l m → SettlesTo k m
alike_settles k l m a h = settles_from l k m a.partition a.queued a.actions a.pending h

pub settles_alike : (k l m : Kernel) → SettlesTo k l → Alike m l → SettlesTo k m
settles_alike k l m h a =
    record {
      partition = a.partition ∙ h.partition;
      queued = a.queued ∙ h.queued;
      actions =
          ⊎_elim
          (λ e. inl (a.pending ∙ e.0, a.actions ∙ e.1))
          (λ x. inr (
            x.0,
            record { first = x.1.first ∙ ap (λ w. x.0 ∷ w) (sym a.pending); idle = x.1.idle; actions = a.actions ∙ x.1.actions },
          ))
          h.actions;
    }

pub delivers_settles : (b : ℕ → Bool) (k : Kernel) → k.running ≡ None → Sound b k [] → (is : List Interrupt) → k.pending ≡ is → SettlesTo k (delivers is k)
delivers_settles b k none s [] e = record { partition = refl; queued = refl; actions = inl (refl, refl) }
delivers_settles b k none s (i ∷ is) e =
    either (SettlesTo k) (int_lt k.now i.time) k (starts i (record k { pending = is }))
    (record { partition = refl; queued = refl; actions = inl (refl, refl) })
    (record { partition = refl; queued = refl; actions = inr (i, record { first = e; idle = idle_before b k [] i none s; actions = refl }) })
