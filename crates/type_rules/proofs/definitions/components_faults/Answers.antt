use Rattle.std.proofs.Common.{◌≡◌, ◌∙◌, ◌+◌, ◌++◌, List, ℕ, ap, subst, sym, refl, drop, take}
use Rattle.base.specs.declared.faults.TheConstants.{DECLARED_TWICE}
use Rattle.ada_tree.specs.declared.declaration.Component.{Component}
use Rattle.types.specs.Seen.{AreNames}
use Rattle.types.proofs.Seeing.{own_names_next}
use Rattle.expr_rules.specs.Faults.{rule}
use Rattle.expr_rules.specs.Findings.{noted}
use Rattle.expr_rules.specs.Walks.{noted_own_walk_turn}
use Rattle.type_rules.specs.SubtypeNames.{subtype_faults}
use Rattle.type_rules.specs.TypeRules.{component_faults, components_faults}
use Rattle.type_rules.proofs.definitions.components_faults.Goals as goal

name_of : Component → List ℕ
name_of c = c.name.name

pub loop-component-preserved : goal.loop-component-preserved
unfolding name_of
loop-component-preserved c =
    let s = c.args.scope.now in
    let all = c.args.components.now in
    let l = c.loop-component in
    let n = l.component-index in
    let x = c.component-item.result in
    let second = c.in_ok-is_second.ensures.before ∙ l.invariant.1 x.name.name in (
      ap (λ g. noted g (components_faults s (take (n + 1) all) (drop (n + 1) all)))
          (c.component_faults.ensures ∙ ap (λ b. noted l.found (rule DECLARED_TWICE x.name.place b ++ subtype_faults s x.subtype)) second)
          ∙ noted_own_walk_turn (components_faults s) (component_faults s) (λ b y r. refl) all n x l.found _ c.loop-component-test.true c.component-item.is l.invariant.0,
      subst (AreNames name_of (take (n + 1) all)) (sym c.in_ok-is_second.ensures.seen) (own_names_next name_of all n x l.names c.loop-component-test.true c.component-item.is l.invariant.1),
    )
