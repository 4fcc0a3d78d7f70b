use Rattle.std.proofs.Common.{◌≡◌, ℕ, ◌<◌, [], ap, get_or, length, map, subst, sym, ◌∙◌}
use Rattle.std.proofs.lemmas.List.{length-map}
use Rattle.tasking.proofs.Starting.{blank_is, blank_kept, no_kinds}
use Rattle.tasking.proofs.tasking.Tasking.blank.Goals as goal

pub invariant_of-result : goal.invariant_of-result
invariant_of-result g c =
    let made = c.in_ok-tables.ensures.ok in
    let none = no_kinds (λ l. l.items) c.default.result (λ i d h. c.default.ensures.at i d (subst (λ n. i < n) c.default.ensures.long h)) in
    let long = length-map c.default.result (λ l. l.items) ∙ c.default.ensures.long in
    blank_kept c.args.bases.now c.args.ceilings.now (g.R.Ready.queues c.new-3.result) (g.D.Delays.sleepers c.new-4.result) c.in_ok-tables.tables.value.objects
    (map (λ l. l.items) c.in_ok-tables.tables.value.kinds) c.args.attached c.args.lines.now c.requires.priorities c.new-3.ensures c.new-4.ensures
    (ap (λ t. t.objects) made ∙ c.new.ensures) (subst (λ t. (u : ℕ) → get_or (map (λ l. l.items) t.kinds) u [] ≡ []) (sym made) none)
    (ap (λ t. length (map (λ l. l.items) t.kinds)) made ∙ long) c.requires.tasks c.requires.objects c.requires.channels c.requires.attached

pub returns : goal.returns
returns g c =
    let made = c.in_ok-tables.ensures.ok in
    let none = no_kinds (λ l. l.items) c.default.result (λ i d h. c.default.ensures.at i d (subst (λ n. i < n) c.default.ensures.long h)) in
    let long = length-map c.default.result (λ l. l.items) ∙ c.default.ensures.long in
    blank_is c.args.bases.now c.args.ceilings.now (g.R.Ready.queues c.new-3.result) (g.D.Delays.sleepers c.new-4.result) c.in_ok-tables.tables.value.objects
    (map (λ l. l.items) c.in_ok-tables.tables.value.kinds) c.args.attached c.args.lines.now c.requires.priorities c.new-3.ensures c.new-4.ensures
    (ap (λ t. t.objects) made ∙ c.new.ensures) (subst (λ t. (u : ℕ) → get_or (map (λ l. l.items) t.kinds) u [] ≡ []) (sym made) none)
    (ap (λ t. length (map (λ l. l.items) t.kinds)) made ∙ long) c.requires.tasks c.requires.objects c.requires.channels c.requires.attached
