-- The profile of a subprogram as it is declared, where all names are visible.
use Rattle.std.proofs.Common.{Option}
use Rattle.expr_soundness.specs.ada_tree.specs.StatementTree.{SubprogramTree}
use Rattle.types.specs.Entities.{Profile}
use Rattle.types.specs.Scopes.{Scope}
use Rattle.expr_soundness.specs.type_rules.specs.ProfileRules.{formal_parameters, profile_with}

abbrev pub profile_of : Scope → SubprogramTree → Option Profile
profile_of s d = profile_with s (formal_parameters s d.formals) d.result
