-- New names, names after `end`, and names of subtypes (RM 8.3, 7.1, 3.2; docs/LANGUAGE.md, "Rules of declarations").
use Rattle.std.specs.Prelude.{ℕ, Bool, true, false, not, [], Option, Some, None, bytes_eq}
use Rattle.base.specs.declared.faults.TheConstants.{NAME_NOT_VISIBLE, DECLARED_TWICE, NO_MEANING, WRONG_END_NAME}
use Rattle.ada_tree.specs.declared.expression.Identifier.{Identifier}
use Rattle.types.specs.declared.entity.Subtype.{Subtype}
use Rattle.types.specs.Entities.{TypeForm, Arrays, Records, Entity, OfType, OfSubtype, Doubtful}
use Rattle.types.specs.Scopes.{Scope, entity_at, form_at, is_visible, number_of}
use Rattle.expr_rules.specs.declared.own.Wanted.{Wanted}
use Rattle.expr_rules.specs.declared.own.Wanted.TheVariants.{Anything, OfType}
use Rattle.expr_rules.specs.Faults.{Faults, rule}
use Rattle.expr_rules.specs.Typing.{is_integers}

-- 11, at the second: declared twice, or hides a visible name
abbrev pub declared_twice : Scope → Identifier → Faults
declared_twice s name = rule DECLARED_TWICE name.place (is_visible s name.name)

-- 22, at the name after `end`: it is not that of what ends there
abbrev pub end_rule : (name end_name : Identifier) → Faults
end_rule name end_name = rule WRONG_END_NAME end_name.place (not (bytes_eq name.name end_name.name))

-- what a name stands for
abbrev pub entity_at_or_none : Scope → Option ℕ → Option Entity
entity_at_or_none s (Some n) = entity_at s n
entity_at_or_none s None = None

abbrev pub named_entity : Scope → Identifier → Option Entity
named_entity s name = entity_at_or_none s (number_of s name.name)

abbrev pub subtype_in : Option Entity → Option Subtype
subtype_in (Some (OfType form t)) = Some t
subtype_in (Some (OfSubtype t)) = Some t
subtype_in e = None

-- the subtype that a name stands for, if it is one
abbrev pub subtype_of : Scope → Identifier → Option Subtype
subtype_of s name = subtype_in (named_entity s name)

-- 10: not visible; 12: visible and no subtype; nothing is said of what is doubtful
abbrev pub subtype_rule : (place : ℕ) → Option Entity → Faults
subtype_rule place None = rule NAME_NOT_VISIBLE place true
subtype_rule place (Some (OfType form t)) = []
subtype_rule place (Some (OfSubtype t)) = []
subtype_rule place (Some Doubtful) = []
subtype_rule place (Some e) = rule NO_MEANING place true

abbrev pub subtype_faults : Scope → Identifier → Faults
subtype_faults s name = subtype_rule name.place (named_entity s name)

-- what is expected of a value for an object of the subtype
abbrev pub wanted_by : Option Subtype → Wanted
wanted_by (Some t) = OfType t.type_number
wanted_by None = Anything

-- an integer subtype, if it is known
abbrev pub if_integer : Scope → Option Subtype → Option Subtype
if_integer s (Some t) = elim (is_integers (form_at s t.type_number)) [ true ↦ Some t | false ↦ None ]
if_integer s None = None

-- 12: a known subtype that is no integer one
abbrev pub is_other : Scope → Option Subtype → Bool
is_other s (Some t) = not (is_integers (form_at s t.type_number))
is_other s None = false

abbrev pub is_composite_form : Option TypeForm → Bool
is_composite_form (Some (Arrays index length element)) = true
is_composite_form (Some (Records components)) = true
is_composite_form form = false

abbrev pub is_composite : Scope → Option Subtype → Bool
is_composite s (Some t) = is_composite_form (form_at s t.type_number)
is_composite s None = false
