-- Which calls are queued behind a step: its effect alone changes that, and dispatching and the clock leave it (RM 9.5.3).
use Rattle.std.proofs.Common.{◌≡◌, ◌<◌, ℕ, ℤ, List, [], ◌∷◌, Option, Some, None, Bool, true, false, cond, refl, ap, ◌∙◌}
use Rattle.std.specs.Prelude.{int_lt}
use Rattle.kernel.specs.Clock.{falls_asleep}
use Rattle.kernel.specs.Dispatching.{becomes_ready, leaves}
use Rattle.kernel.specs.Effects.{Breaks, Closes, Delays, Dies, Effect, Ending, Ends, Finishes, HandsBack, Opens, Queues, Quiet, Says, TakesOver, Views, after, effect, ending_of, ends, goes_if, is_over, outer_of, service}
use Rattle.kernel.specs.Interrupts.{delivers, starts}
use Rattle.kernel.specs.Laws.{LeftUnmoved}
use Rattle.kernel.specs.State.{Action, Interrupt, Kernel, Reads, Serves, Writes, put}

-- ... where an action has ended
abbrev pub queued_by : Ending → (ℕ → Option ℕ) → ℕ → Option ℕ
queued_by Closes queued = queued
queued_by (TakesOver o u) queued = put o None queued
queued_by (HandsBack u) queued = queued

abbrev pub queued_behind : (t : ℕ) → Effect → Kernel → ℕ → Option ℕ
queued_behind t (Queues o) k = put o (Some t) k.queued
queued_behind t (Ends is_open) k = queued_by (ending_of is_open (k.actions t) k.queued) k.queued
queued_behind t e k = k.queued

module _ (t : ℕ) (k : Kernel) where
  ended : (x : Ending) (outer : List Action) → (ends t x outer k).queued ≡ queued_by x k.queued
  ended Closes outer = refl
  ended (TakesOver o u) outer = refl
  ended (HandsBack u) outer = refl

  delivered : (pending : List Interrupt) (l : Kernel) → (delivers pending l).queued ≡ l.queued
  delivered [] l = refl
  delivered (i ∷ rest) l = by_time (int_lt l.now i.time)
    where
      by_time : (b : Bool) → (cond b l (starts i (record l { pending = rest }))).queued ≡ l.queued
      by_time true = refl
      by_time false = refl

  -- a handler that is over goes
  gone : (b : Bool) (l : Kernel) → (goes_if b t l).queued ≡ l.queued
  gone false l = refl
  gone true l = delivered l.pending (leaves t l)

  delayed : (until : ℤ) (due : Bool) → (cond due (falls_asleep t until (leaves t k)) (becomes_ready t (leaves t k))).queued ≡ k.queued
  delayed until true = refl
  delayed until false = refl

  acted : (e : Effect) → (effect t e k).queued ≡ queued_behind t e k
  acted Quiet = refl
  acted Finishes = refl
  acted Breaks = refl
  acted (Says label value) = refl
  acted (Delays until) = delayed until (int_lt k.now until)
  acted (Opens o) = refl
  acted (Views o) = refl
  acted (Queues o) = refl
  acted (Ends is_open) =
      let x = ending_of is_open (k.actions t) k.queued in
      gone (is_over k.partition t (k.actions t) x) (ends t x (outer_of (k.actions t)) k) ∙ ended x (outer_of (k.actions t))
  acted (Dies x) = refl

pub queued_after : LeftUnmoved → (t : ℕ) (e : Effect) (k : Kernel) → (after t e k).queued ≡ queued_behind t e k
queued_after unmoved t (Dies x) k = refl
queued_after unmoved t Breaks k = refl
queued_after unmoved t e k = (unmoved (effect t e k)).queued ∙ acted t k e

-- a task that queues keeps the actions that it has open
pub queues_keep : LeftUnmoved → (t o : ℕ) (k : Kernel) → t < k.partition.tasks → (after t (Queues o) k).actions t ≡ k.actions t
queues_keep unmoved t o k less = (unmoved (effect t (Queues o) k)).actions t less

-- the end of an action hands back where it was one of a service
pub hands_back : (is_open : Bool) (actions : List Action) (queued : ℕ → Option ℕ) (u : ℕ) → ending_of is_open actions queued ≡ HandsBack u
    → (o : ℕ) × (outer : List Action) × (actions ≡ Serves o u ∷ outer)
hands_back is_open [] queued u is = cc
hands_back is_open (Reads o ∷ outer) queued u is = cc
hands_back is_open (Writes o ∷ outer) queued u is = absurd (never is_open (queued o) is)
  where
    never : (b : Bool) (q : Option ℕ) → service b o q ≡ HandsBack u → ⊥
    never false q e = cc
    never true None e = cc
    never true (Some v) e = cc
hands_back is_open (Serves o v ∷ outer) queued u is = let same : v ≡ u = cc in (o, outer, ap (λ x. Serves o x ∷ outer) same)
