-- What is so of the names behind unit clauses: whatever the names of both units that there are keep.
use Rattle.std.proofs.Common.{Bool, true, false, List, [], ◌∷◌}
use Rattle.ada_tree.specs.declared.program.UnitClause.{UnitClause}
use Rattle.types.specs.Scopes.{Scope, with_control_io, with_real_time}
use Rattle.program_soundness.specs.declaration_rules.specs.PackageNames.{clause_scope, clauses_scope, is_control_io, is_real_time}

module _ (P : Scope → Type 0) (times : (s : Scope) → P s → P (with_real_time s)) (io : (s : Scope) → P s → P (with_control_io s)) where
  clause_keeps : (s : Scope) (c : UnitClause) → P s → P (clause_scope s c)
  clause_keeps s c h = by_unit (is_real_time c.unit) (is_control_io c.unit)
    where
      by_unit : (a b : Bool) → P (elim a [ true ↦ with_real_time s | false ↦ elim b [ true ↦ with_control_io s | false ↦ s ] ])
      by_unit true b = times s h
      by_unit false true = io s h
      by_unit false false = h

  pub clauses_keep : (s : Scope) (cs : List UnitClause) → P s → P (clauses_scope s cs)
  clauses_keep s [] h = h
  clauses_keep s (c ∷ cs) h = clauses_keep (clause_scope s c) cs (clause_keeps s c h)
