-- Handlers of interrupts (RM C.3.1, D.3; docs/LANGUAGE.md, "Rules of the profile"): aspects of operations, their channels, and ceilings.
use Rattle.std.specs.Prelude.{◌+◌, pos, Bool, true, false, ◌&&◌, ◌||◌, not, List, [], ◌∷◌, ◌++◌, get_or, replicate, set, Option, Some, None, ℕ, is_none, is_some, nat_eq, if◌then◌else◌}
use Rattle.base.specs.declared.faults.TheConstants.{HANDLER_CEILING, HANDLER_PROFILE, SECOND_HANDLER, WRONG_ASPECT, WRONG_INTERRUPT}
use Rattle.base.specs.declared.limits.TheConstants.{CEILING, CHANNELS}
use Rattle.ada_tree.specs.declared.declaration.Formal.{Formal}
use Rattle.ada_tree.specs.StatementTree.{AspectTree, OperationTree, OfSubprogram, OfEntry, SubprogramTree}
use Rattle.types.specs.Scopes.{Scope, integer_type}
use Rattle.types.specs.Statics.{start_of}
use Rattle.types.specs.Values.{Value, Number}
use Rattle.expr_rules.specs.declared.own.Wanted.TheVariants as wanted
use Rattle.expr_rules.specs.Faults.{Faults, rule}
use Rattle.expr_rules.specs.StaticRules.{static_scalar}
use Rattle.declaration_rules.specs.HandlerChannels.{attached_channel}
use Rattle.declaration_rules.specs.ProtectedRules.{has_handler}
use Rattle.declaration_rules.specs.TaskRules.{is_attachment, is_priority}

-- ---- for each channel whether it has a handler

abbrev pub none_taken : List Bool
none_taken = replicate (CHANNELS + 1) false

abbrev pub is_taken : (taken : List Bool) → Option ℕ → Bool
is_taken taken None = false
is_taken taken (Some channel) = get_or taken channel false

abbrev pub with_channel : (taken : List Bool) → Option ℕ → List Bool
with_channel taken None = taken
with_channel taken (Some channel) = set taken channel true

-- ---- an operation with this aspect, behind those whose handlers have the channels that are taken

abbrev pub has_formals : List Formal → Bool
has_formals [] = false
has_formals (f ∷ fs) = true

-- 70 and 72, at the aspect: the operation is a function or has formals; its channel has a handler. 71, at the expression: it is no channel
abbrev pub attachment_faults : Scope → (taken : List Bool) → SubprogramTree → AspectTree → Faults
attachment_faults s taken d a =
    rule HANDLER_PROFILE a.place (is_some d.result || has_formals d.formals)
    ++ rule SECOND_HANDLER a.place (is_taken taken (attached_channel s a))
    ++ rule WRONG_INTERRUPT (start_of a.value) (is_none (attached_channel s a))

-- 38, at the aspect: it is another one than Attach_Handler
abbrev pub operation_aspect_faults : Scope → (taken : List Bool) → OperationTree → Faults
operation_aspect_faults s taken (OfSubprogram d (Some a)) = if is_attachment a then attachment_faults s taken d a else rule WRONG_ASPECT a.place true
operation_aspect_faults s taken (OfSubprogram d None) = []
operation_aspect_faults s taken (OfEntry d) = []

-- ---- the channels that are taken behind an operation, and behind all of an object

abbrev pub taken_behind : Scope → (taken : List Bool) → OperationTree → List Bool
taken_behind s taken (OfSubprogram d (Some a)) = if is_attachment a then with_channel taken (attached_channel s a) else taken
taken_behind s taken (OfSubprogram d None) = taken
taken_behind s taken (OfEntry d) = taken

abbrev pub taken_by_all : Scope → (taken : List Bool) → List OperationTree → List Bool
taken_by_all s taken [] = taken
taken_by_all s taken (o ∷ os) = taken_by_all s (taken_behind s taken o) os

abbrev pub operations_aspects_faults : Scope → (taken : List Bool) → List OperationTree → Faults
operations_aspects_faults s taken [] = []
operations_aspects_faults s taken (o ∷ os) = operation_aspect_faults s taken o ++ operations_aspects_faults s (taken_behind s taken o) os

-- ---- 73, at the object's aspect: it has a handler, and its priority is not the highest

abbrev pub is_highest : Option Value → Bool
is_highest (Some (Number (pos n))) = nat_eq n CEILING
is_highest value = false

abbrev pub is_lower : Scope → AspectTree → Bool
is_lower s a = is_priority a && not (is_highest (static_scalar s (wanted.OfType integer_type) None a.value))

abbrev pub ceiling_faults : Scope → List OperationTree → Option AspectTree → Faults
ceiling_faults s operations (Some a) = rule HANDLER_CEILING a.place (has_handler operations && is_lower s a)
ceiling_faults s operations None = []
