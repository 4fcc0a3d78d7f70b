use Rattle.std.proofs.Common.{◌≡◌, ◌+◌, false, sym, ap, ◌∙◌, map, is_some, subst}
use Rattle.types.specs.declared.scope.Declared.{Declared}
use Rattle.types.specs.Entities.{entity_value}
use Rattle.types.specs.Layouts.{capped}
use Rattle.types.specs.Kept.{entity_words}
use Rattle.types.specs.Scopes.{entry_value, is_visible, one_if_protected, protected_count, with_name}
use Rattle.types.proofs.Counting.{AreCounted, counted_push}
use Rattle.types.proofs.Adding.{appended, goes_last}
use Rattle.types.proofs.Sizes.{AreKept, kept_push}
use Rattle.types.proofs.scope.Scope.add.Goals as goal

pub invariant_of-self-2 : goal.invariant_of-self-2
invariant_of-self-2 c =
    let es = c.self.inside.names.entries in
    let hidden : is_visible (map entry_value es) c.args.name ≡ false =
    ap (λ s. is_visible s c.args.name) c.self.view_is ∙ ap is_some (sym c.number_of.ensures) ∙ sym c.is_some.ensures ∙ c.if-is_some.false in
    let d : Declared = record { entity = c.args.entity; words = c.entity_words-words.result; objects = c.objects_with-objects.result } in
    let sized = c.entity_words-words.ensures ∙ ap (λ s. capped (entity_words s (entity_value c.args.entity))) (sym c.self.view_is) in
    let counted = c.objects_with-objects.ensures ∙ ap (λ s. protected_count s + one_if_protected (entity_value c.args.entity)) (sym c.self.view_is) in
    let last = sym (c.in_ok-insert.ensures.entries ∙ goes_last es c.args.name d hidden) in
    (subst AreKept last (kept_push es (c.args.name, d) c.self.invariant.0 sized), subst AreCounted last (counted_push es (c.args.name, d) c.self.invariant.1 counted))

pub returns-clause-ok : goal.returns-clause-ok
returns-clause-ok c =
    let es = c.self.inside.names.entries in
    let hidden : is_visible (map entry_value es) c.args.name ≡ false =
    ap (λ s. is_visible s c.args.name) c.self.view_is ∙ ap is_some (sym c.number_of.ensures) ∙ sym c.is_some.ensures ∙ c.if-is_some.false in
    let d : Declared = record { entity = c.args.entity; words = c.entity_words-words.result; objects = c.objects_with-objects.result } in
    ap (λ l. map entry_value l) c.in_ok-insert.ensures.entries ∙ appended es c.args.name d hidden ∙ ap (λ s. with_name s c.args.name (entity_value c.args.entity)) c.self.view_is
