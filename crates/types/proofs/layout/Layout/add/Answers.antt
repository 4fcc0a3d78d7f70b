use Rattle.std.proofs.Common.{◌≡◌, ◌+◌, [], ◌∷◌, map, sym, ap, ◌∙◌, subst, arith}
use Rattle.std.proofs.lemmas.List.{map-append}
use Rattle.types.specs.declared.layout.Placed.{Placed}
use Rattle.types.specs.Layouts.{total}
use Rattle.types.specs.Kept.{first_words, placed_first, placed_words}
use Rattle.types.proofs.Placing.{placed_more, total_more}
use Rattle.types.proofs.layout.Layout.add.Goals as goal

pub invariant_of-self-2 : goal.invariant_of-self-2
invariant_of-self-2 c =
    let os = c.self.inside.objects.items in
    let p : Placed = record { first = c.self.inside.words; words = c.args.words } in
    let items = c.in_ok-push.ensures.items in
    let kept = c.self.invariant in (
      subst (λ l. map placed_first l ≡ first_words 0 (map placed_words l)) (sym items) (placed_more os p kept.0 kept.1),
      (λ j. kept.1 j + c.args.words)
          ∙ sym (total_more (map placed_words os) c.args.words)
          ∙ ap total (sym (map-append placed_words os (p ∷ [])))
          ∙ ap (λ l. total (map placed_words l)) (sym items),
      omega (arith, kept.2, c.if-words-self.false),
    )
