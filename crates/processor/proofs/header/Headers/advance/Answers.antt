use Rattle.std.proofs.Common.{rules, ◌≡◌, ◌+◌, ◌-◌, ◌<◌, length, get_or, set, reverse, ap, sym, ◌∙◌}
use Rattle.processor.specs.Layout.{HeaderStack, stack_of}
use Rattle.processor.specs.declared.header.Header.{Header}
use Rattle.processor.proofs.RowWrites.{replaced, running_is}
use Rattle.processor.proofs.header.Headers.advance.Goals as goal

pub returns : goal.returns
returns c =
    let items = c.self.inside.items.items in
    let some : 0 < length items = c.self.invariant.0 in
    let old : Header = c.index_mut.result.now in
    let place = old.place + 1 in
    let new : Header = record old { place = place } in
    let many : c.self.inside.items.len ≡ length items = search rules in
    let at : old ≡ get_or items (length items - 1) old = c.index_mut.ensures.value ∙ ap (λ n. get_or items (n - 1) old) (c.len-last.ensures ∙ many) in
    let same : old ≡ c.args.self.now.running = at ∙ (sym (running_is items old some) ∙ ap {A = HeaderStack} (λ s. s.running) c.self.view_is) in
    ap (λ n. stack_of (reverse (set items (n - 1) new))) (c.len-last.ensures ∙ many)
    ∙ (replaced items new some ∙ (λ j. record { running = record (same j) { place = (same j).place + 1 }; waiting = (c.self.view_is j).waiting }))
