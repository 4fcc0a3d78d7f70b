use Rattle.std.proofs.Common.{◌≡◌, ◌++◌, map, take, true}
use Rattle.ada_tree.specs.StatementTree.{protected_component_tree}
use Rattle.expr_soundness.specs.meaning.specs.Programs.{component}
use Rattle.package_code.specs.Objects.{have_words, slots_of}
use Rattle.package_code.specs.Package.{first_words_of}
use Rattle.package_code.proofs.objects.component_words.Given as goal

abbrev pub invariant-loop-part : goal.invariant-loop-part
invariant-loop-part l =
    (l.words.items ≡ first_words_of (map (component l.scope) (map protected_component_tree (take l.part-index l.components))))
    × (l.slots.items ≡ l.fn.slots.items ++ slots_of l.object 0 (map (component l.scope) (map protected_component_tree (take l.part-index l.components))))
    × (have_words (map (component l.scope) (map protected_component_tree (take l.part-index l.components))) ≡ true)
