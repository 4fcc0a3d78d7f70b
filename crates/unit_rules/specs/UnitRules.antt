-- Library units that a package names (RM 10.1.2; docs/LANGUAGE.md, "Rules of programs").
use Rattle.std.specs.Prelude.{Bool, false, not, ◌&&◌, ◌||◌, List, [], ◌∷◌, ◌++◌}
use Rattle.base.specs.declared.faults.TheConstants.{DECLARED_TWICE, NAME_NOT_VISIBLE}
use Rattle.ada_tree.specs.declared.program.UnitClause.{UnitClause}
use Rattle.ada_tree.specs.declared.program.UnitName.{UnitName}
use Rattle.expr_rules.specs.Faults.{Faults, rule}
use Rattle.declaration_rules.specs.PackageNames.{is_control_io, is_real_time}

-- 10, at the first identifier: no such unit; the `use` is of another one than its `with`
abbrev pub is_same_unit : UnitName → UnitName → Bool
is_same_unit a b = is_real_time a && is_real_time b || is_control_io a && is_control_io b

-- 11, at the first identifier: a clause in front names the unit, of which these say it
abbrev pub again_rule : (times_named io_named : Bool) → UnitName → Faults
again_rule times_named io_named u = rule DECLARED_TWICE u.first.place (times_named && is_real_time u || io_named && is_control_io u)

abbrev pub clause_faults : (times_named io_named : Bool) → UnitClause → Faults
clause_faults times_named io_named c =
    rule NAME_NOT_VISIBLE c.unit.first.place (not (is_real_time c.unit || is_control_io c.unit))
    ++ again_rule times_named io_named c.unit
    ++ rule NAME_NOT_VISIBLE c.used.first.place (not (is_same_unit c.unit c.used))

-- behind clauses of which these say whether they name Ada.Real_Time, and Control_IO
abbrev pub clauses_behind : (times_named io_named : Bool) → List UnitClause → Faults
clauses_behind times_named io_named [] = []
clauses_behind times_named io_named (c ∷ cs) =
    clause_faults times_named io_named c ++ clauses_behind (times_named || is_real_time c.unit) (io_named || is_control_io c.unit) cs

abbrev pub clauses_faults : List UnitClause → Faults
clauses_faults cs = clauses_behind false false cs
