-- What refuses a part of a statement refuses the whole: needs of parts, and those of lists of statements, of parts of an `if`, of alternatives and of declarations.
use Rattle.std.proofs.Common.{◌≡◌, ◌+◌, ◌∷◌, ℕ, List, [], refl}
use Rattle.ada_tree.specs.StatementTree.{DeclarationTree}
use Rattle.declaration_rules.specs.LocalRules.{locals_scope}
use Rattle.expr_code.specs.declared.visible.Visible.{Visible}
use Rattle.part_code.specs.Bounds.{local_words}
use Rattle.part_code.specs.Needs.{local_visible, locals_visible}

-- ---- declarations

pub locals_seen : (v : Visible) (taken : ℕ) (ds : List DeclarationTree) → (locals_visible v taken ds).scope ≡ locals_scope v.scope ds
locals_seen v taken [] = refl
locals_seen v taken (d ∷ ds) = locals_seen (local_visible v taken d) (taken + local_words v.scope d) ds
