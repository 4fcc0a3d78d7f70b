use Rattle.std.proofs.Common.{◌≡◌, ◌∙◌, ◌-◌, suc, ap, length, map, sym, arith}
use Rattle.std.proofs.lemmas.List.{length-map}
use Rattle.types.specs.Scopes.{entry_value, protected_count}
use Rattle.types.proofs.Counting.{counted_last, count_few}
use Rattle.types.proofs.scope.Scope.protected_count.Goals as goal

pub returns-in-Some-clause-count : goal.returns-in-Some-clause-count
returns-in-Some-clause-count c =
    let es = c.self.inside.names.entries in
    let n = c.len-len.result - 1 in
    let seen = ap length c.self.view_is in
    let size : suc n ≡ length es = grind (arith, c.len-len.ensures.value, seen, length-map es entry_value, c.if-len-eq0.false) in
    counted_last es (c.in-Some.field-0-0.now, c.in-Some.declared.now) n c.self.invariant.1 size c.in-Some.ensures.entry ∙ ap protected_count c.self.view_is

pub returns-in-Some-clause-small : goal.returns-in-Some-clause-small
returns-in-Some-clause-small c =
    let es = c.self.inside.names.entries in
    let n = c.len-len.result - 1 in
    let seen = ap length c.self.view_is in
    let size : suc n ≡ length es = grind (arith, c.len-len.ensures.value, seen, length-map es entry_value, c.if-len-eq0.false) in
    let is = counted_last es (c.in-Some.field-0-0.now, c.in-Some.declared.now) n c.self.invariant.1 size c.in-Some.ensures.entry in
    let few = count_few (map entry_value es) in
    omega (arith, is, few, seen, c.len-len.ensures.value, c.len-len.ensures.small)
