use Rattle.std.proofs.Common.{◌≡◌, ◌++◌, take}
use Rattle.types.specs.Shapes.{component_shapes, fields_words, initial, initial_fields, repeated, shapes, values_words}
use Rattle.package_code.proofs.initial.+push_default.Given as goal

abbrev pub decreases-push_default : goal.decreases-push_default
decreases-push_default l = l.subtype.type_number

abbrev pub invariant-loop : goal.invariant-loop
invariant-loop l = l.words.items ≡ l.fn.words.items ++ values_words (repeated l.counter (initial l.scope l.element))

abbrev pub invariant-loop-component : goal.invariant-loop-component
invariant-loop-component l =
    l.words.items ≡ l.fn.words.items ++ fields_words (initial_fields (component_shapes (shapes l.scope) (take l.component-index l.component-items)))
