-- A run that two machines follow, and from where its exceptions came so far.
use Rattle.std.proofs.Common.{◌≡◌, ◌⊎◌, ℕ, zero, suc, ◌+◌, ◌-◌, ◌≤◌, List, [], ◌∷◌, Option, Some, None, inl, inr, length, length-append, refl, sym, ap, subst, ◌∙◌, arith}
use Rattle.base.specs.declared.schedule.ScheduleLine.{ScheduleLine}
use Rattle.kernel.specs.State as kernel
use Rattle.kernel.specs.State.{Kernel, Line, TaskPlace}
use Rattle.image.specs.Code.{CodeWorld, code}
use Rattle.image.specs.Sections.{Sections}
use Rattle.image_laws.specs.Laws.{OutcomeStays}
use Rattle.tasking.specs.Held.{kernel_of}
use Rattle.execution.specs.Ahead.{next_raising, raising_by}
use Rattle.execution.specs.Held.{HeldWorld, world_with}
use Rattle.task_steps.specs.declared.foreseeing.Raising.{Raising}
use Rattle.machine.specs.Stands.{HoldsWorld, ShowsText}
use Rattle.machine.specs.declared.reports.Event.{Event}
use Rattle.endings.specs.Sources.{Froms, after_step, came_from, froms_after, left_from, no_froms}
use Rattle.endings.specs.declared.sources.TheConstants.{ACTORS}

-- a machine's step, as its contract has it
abbrev pub StepsTo : HeldWorld → HeldWorld → Event → Type 0
StepsTo h next told =
    (m : ℕ) → HoldsWorld h (code h.image h.schedule m)
    → HoldsWorld next (code h.image h.schedule (m + 1)) × ShowsText h.image (code h.image h.schedule m).kernel (code h.image h.schedule (m + 1)).kernel told

pub stepped : (i : Sections) (schedule : List ScheduleLine) (n : ℕ) (h next : HeldWorld) (told : Event) → h.image ≡ i → h.schedule ≡ schedule → StepsTo h next told
    → HoldsWorld h (code i schedule n) → HoldsWorld next (code i schedule (suc n))
stepped i schedule n h next told image same steps =
    let e : n + 1 ≡ suc n = omega arith in
    subst (λ m. HoldsWorld h (code i schedule n) → HoldsWorld next (code i schedule m)) e
    (subst (λ s. HoldsWorld h (code i s n) → HoldsWorld next (code i s (n + 1))) same
    (subst (λ j. HoldsWorld h (code j h.schedule n) → HoldsWorld next (code j h.schedule (n + 1))) image (λ holds. (steps n holds).0)))

-- after n steps: both machines stand for the world, and these are the places
pub record Followed (i : Sections) (schedule : List ScheduleLine) (n : ℕ) (g h : HeldWorld) (froms : Froms) : Type 0 where
  pub image_before : g.image ≡ i
  pub image : h.image ≡ i
  pub schedule_before : g.schedule ≡ schedule
  pub schedule_after : h.schedule ≡ schedule
  pub stands_before : HoldsWorld g (code i schedule n)
  pub stands : HoldsWorld h (code i schedule n)
  pub froms_are : froms ≡ froms_after i schedule n

pub followed_start : (i : Sections) (schedule : List ScheduleLine) (g h : HeldWorld) → g.image ≡ i → g.schedule ≡ schedule → HoldsWorld g (code g.image g.schedule 0) → HoldsWorld h (code i schedule 0)
    → h.image ≡ i → h.schedule ≡ schedule → (froms : Froms) → froms ≡ no_froms ACTORS → Followed i schedule 0 g h froms
followed_start i schedule g h image same before stands image_h same_h froms are =
    record {
      image_before = image;
      image = image_h;
      schedule_before = same;
      schedule_after = same_h;
      stands_before = subst (λ x. HoldsWorld g (code i x 0)) same (subst (λ x. HoldsWorld g (code x g.schedule 0)) image before);
      stands = stands;
      froms_are = are;
    }

module _ (i : Sections) (schedule : List ScheduleLine) (n : ℕ) (g h : HeldWorld) (froms : Froms) (r : Followed i schedule n g h froms) where
  module _ (raises : Option Raising) (ahead : (lines : List Line) → raises ≡ next_raising g.image g.schedule (world_with lines g)) (next : HeldWorld) (told : Event) (steps : StepsTo h next told) where
    abbrev k : Kernel
    k = kernel_of g.tasking

    abbrev pub later_froms : Froms
    later_froms = after_step froms raises (kernel_of g.tasking).place (kernel_of next.tasking).place (kernel_of g.tasking).running

    froms_more : froms_after i schedule (suc n) ≡ later_froms
    froms_more =
        let w = code i schedule n in
        let v = code i schedule (suc n) in
        let f = froms_after i schedule n in
        let s : HoldsWorld next v = stepped i schedule n h next told r.image r.schedule_after steps r.stands in
        let was : w.kernel.place ≡ k.place = ap (λ (x : CodeWorld). x.kernel.place) r.stands_before in
        let runs : w.kernel.running ≡ k.running = ap (λ (x : CodeWorld). x.kernel.running) r.stands_before in
        let is : v.kernel.place ≡ (kernel_of next.tasking).place = ap (λ (x : CodeWorld). x.kernel.place) s in
        let raised : next_raising i schedule w ≡ raises =
        ap (next_raising i schedule) r.stands_before ∙ sym (ahead w.kernel.lines ∙ (λ j. next_raising (r.image_before j) (r.schedule_before j) (world_with w.kernel.lines g))) in
        ap (λ a. after_step f a w.kernel.place v.kernel.place w.kernel.running) raised
        ∙ (λ j. after_step f raises (was j) (is j) (runs j))
        ∙ ap (λ x. after_step x raises k.place (kernel_of next.tasking).place k.running) (sym r.froms_are)

    pub followed_on : (follow : HeldWorld) (said : Event) → StepsTo g follow said → follow.image ≡ g.image → next.image ≡ h.image → follow.schedule ≡ g.schedule → next.schedule ≡ h.schedule
        → (later : Froms) → later ≡ later_froms → Followed i schedule (n + 1) follow next later
    followed_on follow said follows image_g image_h schedule_g schedule_h later are =
        let at : suc n ≡ n + 1 = omega arith in
        subst (λ x. Followed i schedule x follow next later) at
        (record {
          image_before = image_g ∙ r.image_before;
          image = image_h ∙ r.image;
          schedule_before = schedule_g ∙ r.schedule_before;
          schedule_after = schedule_h ∙ r.schedule_after;
          stands_before = stepped i schedule n g follow said r.image_before r.schedule_before follows r.stands_before;
          stands = stepped i schedule n h next told r.image r.schedule_after steps r.stands;
          froms_are = are ∙ sym froms_more;
        })

-- after an outcome nothing is raised
module _ (i : Sections) (schedule : List ScheduleLine) where
  froms_stay : OutcomeStays → (n j : ℕ) (o : kernel.Outcome) → (code i schedule n).kernel.outcome ≡ Some o → froms_after i schedule (n + j) ≡ froms_after i schedule n
  froms_stay stays n zero o is = let e : n + zero ≡ n = omega arith in ap (froms_after i schedule) e
  froms_stay stays n (suc j) o is =
      let e : n + suc j ≡ suc (n + j) = omega arith in
      let w = code i schedule (n + j) in
      let v = code i schedule (suc (n + j)) in
      let over : w.kernel.outcome ≡ Some o = ap (λ (x : CodeWorld). x.kernel.outcome) (stays i schedule n j o is) ∙ is in
      let none : next_raising i schedule w ≡ None = ap (λ q. raising_by i schedule w q w.kernel.running) over in
      ap (froms_after i schedule) e
      ∙ ap (λ a. after_step (froms_after i schedule (n + j)) a w.kernel.place v.kernel.place w.kernel.running) none
      ∙ froms_stay stays n j o is

pub followed_over : OutcomeStays → (i : Sections) (schedule : List ScheduleLine) (n : ℕ) (g h : HeldWorld) (froms : Froms) → Followed i schedule n g h froms → (limit : ℕ) → n ≤ limit
    → (n ≡ limit) ⊎ ((e : kernel.Outcome) × ((kernel_of h.tasking).outcome ≡ Some e)) → froms ≡ froms_after i schedule limit
followed_over stays i schedule n g h froms r limit le (inl at) = r.froms_are ∙ ap (froms_after i schedule) at
followed_over stays i schedule n g h froms r limit le (inr ended) =
    let out : (code i schedule n).kernel.outcome ≡ Some ended.0 = ap (λ (x : CodeWorld). x.kernel.outcome) r.stands ∙ ended.1 in
    let at : n + (limit - n) ≡ limit = omega (arith, le) in
    r.froms_are ∙ sym (froms_stay i schedule stays n (limit - n) ended.0 out) ∙ ap (froms_after i schedule) at

-- ---- there are as many as there may be actors

length_of_none : (n : ℕ) → length (no_froms n) ≡ n
length_of_none zero = refl
length_of_none (suc n) = let e = length-append (no_froms n) (None ∷ []) in let h = length_of_none n in omega (arith, e, h)

pub few_at_first : (froms : Froms) → froms ≡ no_froms ACTORS → length froms ≤ ACTORS
few_at_first froms are = let e : length froms ≡ ACTORS = ap length are ∙ length_of_none ACTORS in omega (arith, e)

length_of_left : (came : Option ℕ) (before after : ℕ → TaskPlace) (t u : ℕ) (froms : Froms) → length (left_from came before after t u froms) ≡ length froms
length_of_left came before after t u [] = refl
length_of_left came before after t u (x ∷ froms) = ap suc (length_of_left came before after t (suc u) froms)

length_of_step : (froms : Froms) (r : Option Raising) (before after : ℕ → TaskPlace) (running : Option ℕ) → length (after_step froms r before after running) ≡ length froms
length_of_step froms None before after running = refl
length_of_step froms (Some r) before after None = refl
length_of_step froms (Some r) before after (Some t) = length_of_left (came_from froms t r) before after t 0 froms

pub few_later : (froms later : Froms) (r : Option Raising) (before after : ℕ → TaskPlace) (running : Option ℕ) → later ≡ after_step froms r before after running → length froms ≤ ACTORS → length later ≤ ACTORS
few_later froms later r before after running are few =
    let e : length later ≡ length froms = ap length are ∙ length_of_step froms r before after running in omega (arith, e, few)

-- a step's places, by what was raised and who ran
pub step_made : (froms lent given : Froms) (r : Option Raising) (before after : ℕ → TaskPlace) (running : Option ℕ) (x : Raising) (t : ℕ) (came : Option ℕ) (next : Froms)
    → r ≡ Some x → running ≡ Some t → lent ≡ froms → given ≡ froms → came ≡ came_from lent t x → next ≡ left_from came before after t 0 given
    → next ≡ after_step froms r before after running
step_made froms lent given r before after running x t came next raises runs same same_too is made =
    made
    ∙ ap (λ c. left_from c before after t 0 given) (is ∙ ap (λ f. came_from f t x) same)
    ∙ ap (left_from (came_from froms t x) before after t 0) same_too
    ∙ sym (λ j. after_step froms (raises j) before after (runs j))
