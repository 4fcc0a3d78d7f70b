use Rattle.std.proofs.Common.{◌≡◌, ◌∙◌, ◌+◌, ◌<◌, ◌++◌, ◌||◌, List, ℕ, ap, length, drop, subst, sym, refl, take, arith}
use Rattle.std.specs.Prelude.{nat_le}
use Rattle.std.proofs.lemmas.List.{length-take-le}
use Rattle.base.specs.declared.faults.TheConstants.{DECLARED_TWICE, LIMIT_PASSED}
use Rattle.base.specs.declared.limits.TheConstants.{FORMALS}
use Rattle.ada_tree.specs.declared.declaration.Formal.{Formal}
use Rattle.types.specs.Scopes.{is_visible}
use Rattle.types.specs.Seen.{AreNames}
use Rattle.types.proofs.Seeing.{own_names_next}
use Rattle.expr_rules.specs.Faults.{rule}
use Rattle.expr_rules.specs.Findings.{noted}
use Rattle.expr_rules.specs.Walks.{noted_own_walk_turn}
use Rattle.type_rules.specs.SubtypeNames.{subtype_faults}
use Rattle.type_rules.specs.ProfileRules.{formal_faults, formals_faults}
use Rattle.type_rules.proofs.profiles.formals_faults.Goals as goal

name_of : Formal → List ℕ
name_of f = f.name.name

pub loop-index-preserved : goal.loop-index-preserved
unfolding name_of
loop-index-preserved c =
    let s = c.args.scope.now in
    let all = c.args.formals.now in
    let l = c.loop-index in
    let n = l.index in
    let x = c.index-formals-index.result in
    let less : n < length all = c.loop-index-test.true in
    let size : n ≡ length (take n all) = sym (length-take-le n all (omega (arith, less))) in
    let second = c.in_ok-is_second.ensures.before ∙ l.invariant.1 x.name.name in (
      ap (λ g. noted g (formals_faults s (take (n + 1) all) (drop (n + 1) all)))
          (c.formal_faults.ensures
          ∙ (λ j. noted l.found (rule DECLARED_TWICE x.name.place (is_visible s x.name.name || second j) ++ rule LIMIT_PASSED x.name.place (nat_le FORMALS (size j)) ++ subtype_faults s x.subtype)))
          ∙ noted_own_walk_turn (formals_faults s) (formal_faults s) (λ b y r. refl) all n x l.found _ less c.index-formals-index.is l.invariant.0,
      subst (AreNames name_of (take (n + 1) all)) (sym c.in_ok-is_second.ensures.seen) (own_names_next name_of all n x l.names c.loop-index-test.true c.index-formals-index.is l.invariant.1),
    )
