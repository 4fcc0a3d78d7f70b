use Rattle.std.proofs.Common.{◌≡◌, rules, true, length, subst, ap, sym, ◌∙◌}
use Rattle.std.specs.Prelude.{int_lt}
use Rattle.std.specs.List.{IsFirstAndRest}
use Rattle.std.specs.Option.{MatchOption}
use Rattle.kernel.specs.Interrupts.{delivers}
use Rattle.tasking.proofs.Delivering.{early_is, first_line, none_pending, none_there}
use Rattle.tasking.proofs.tasking.Tasking.deliver.Goals as goal

pub begins-requires-clause-idle : goal.begins-requires-clause-idle
begins-requires-clause-idle g c = ap (λ k. k.running) c.pass_lines.ensures.same ∙ c.requires

pub returns-then-is_early : goal.returns-then-is_early
returns-then-is_early g c =
    let early : int_lt c.self.inside.time c.in-Some.line.now.time ≡ true = search rules in
    early_is c.pass_lines.new.self c.in-Some.line.now c.in-Some.rest.now (ap (λ v. v.ahead) (sym c.self.view_is) ∙ (subst (λ o. MatchOption o (length c.self.inside.ahead.now ≡ 0) (λ p. IsFirstAndRest c.self.inside.ahead.now p.0.now p.1.now)) c.in-Some.is c.split_first.ensures.cases).0) c.pass_lines.ensures.begins (ap (λ v. int_lt v.time c.in-Some.line.now.time) (sym c.self.view_is) ∙ early)
    ∙ ap (λ k. delivers k.pending k) c.pass_lines.ensures.same

pub returns-in_default : goal.returns-in_default
returns-in_default g c =
    none_pending c.pass_lines.new.self (ap (λ v. first_line v.ahead) (sym c.self.view_is) ∙ none_there c.self.inside.ahead.now (subst (λ o. MatchOption o (length c.self.inside.ahead.now ≡ 0) (λ p. IsFirstAndRest c.self.inside.ahead.now p.0.now p.1.now)) c.in_default.is c.split_first.ensures.cases)) ∙ ap (λ k. delivers k.pending k) c.pass_lines.ensures.same
