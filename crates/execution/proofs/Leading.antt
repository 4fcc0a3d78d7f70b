-- Steps that lead from what was held to what is held, put together.
use Rattle.std.proofs.Common.{◌≡◌, ℕ, ◌+◌, List, [], refl, sym, ap, ◌∙◌}
use Rattle.std.proofs.lemmas.List.{append-nil}
use Rattle.kernel.specs.RunLaws.{run_plus}
use Rattle.kernel.specs.State.{Line}
use Rattle.kernel.specs.Worlds.{among, run}
use Rattle.image.specs.Steps.{behaviour}
use Rattle.image_laws.specs.Whole.{LinesUnread}
use Rattle.tasking.specs.Laws.{LinesApart}
use Rattle.execution.specs.Held.{HeldWorld, Leads, world_of, world_with}
use Rattle.execution.proofs.Apart.{run_behind, world_behind}

pub leads_nothing : (h : HeldWorld) → Leads 0 h h []
leads_nothing h = record { image = refl; schedule = refl; world = λ lines. ap (λ l. world_with l h) (sym (append-nil lines)) }

-- what is known of the run without lines holds behind any
pub leads_behind : LinesApart → LinesUnread → (n : ℕ) (a b : HeldWorld) (told : List Line) → b.image ≡ a.image → b.schedule ≡ a.schedule → run (among (behaviour a.image a.schedule)) n (world_of a) ≡ world_with told b → Leads n a b told
leads_behind apart unread n a b told image schedule is =
    record {
      image = image;
      schedule = schedule;
      world = λ lines.
          ap (λ l. run (among (behaviour a.image a.schedule)) n (world_with l a)) (sym (append-nil lines))
          ∙ (run_behind apart unread a.image a.schedule lines n (world_of a) ∙ ap (world_behind apart unread a.image a.schedule lines) is);
    }

pub leads_on : (n m : ℕ) (a b c : HeldWorld) (told : List Line) → Leads n a b [] → Leads m b c told → Leads (n + m) a c told
leads_on n m a b c told p q =
    record {
      image = q.image ∙ p.image;
      schedule = q.schedule ∙ p.schedule;
      world = λ lines.
          run_plus (among (behaviour a.image a.schedule)) n m (world_with lines a)
          ∙ (ap (run (among (behaviour a.image a.schedule)) m) (p.world lines ∙ ap (λ l. world_with l b) (append-nil lines))
          ∙ (ap (λ x. run (among (behaviour x a.schedule)) m (world_with lines b)) (sym p.image)
          ∙ (ap (λ x. run (among (behaviour b.image x)) m (world_with lines b)) (sym p.schedule) ∙ q.world lines)));
    }
