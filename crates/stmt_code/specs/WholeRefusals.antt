-- When code of whole procedures and functions is refused: what their parameters, declarations, statements and values need, in one frame.
use Rattle.std.specs.Prelude.{ℕ, ◌+◌, List, [], ◌∷◌, ◌++◌, map, Option, Some, None, ◌⊎◌}
use Rattle.ada_tree.specs.declared.declaration.Formal.{Formal}
use Rattle.ada_tree.specs.declared.declaration.Mode.{Mode}
use Rattle.ada_tree.specs.declared.declaration.Mode.TheVariants as mode
use Rattle.ada_tree.specs.ExpressionTree.{ExprTree}
use Rattle.ada_tree.specs.ProgramTree.{BodyTree}
use Rattle.ada_tree.specs.Size.{total}
use Rattle.types.specs.declared.entity.Subtype.{Subtype}
use Rattle.types.specs.Scopes.{Scope}
use Rattle.type_rules.specs.SubtypeNames.{subtype_of}
use Rattle.declaration_rules.specs.BodyNames.{formals_scope}
use Rattle.expr_code.specs.Code.{here}
use Rattle.expr_code.specs.Refusing.{checked_peak, peak}
use Rattle.expr_code.specs.declared.refusal.Refusal.{Refusal}
use Rattle.expr_code.specs.declared.visible.Visible.{Visible}
use Rattle.part_code.specs.Bounds.{function_bound, procedure_bound, words_named}
use Rattle.part_code.specs.Formals.{no_subprogram, passed_for, slot_for}
use Rattle.part_code.specs.Labels.{handlers_labels, stmts_labels}
use Rattle.part_code.specs.Needs.{HasManyLabels, IsNeeding, Needs, all_given, both, formals_frame, formals_needs, has_unfit, outs_needs, stacked}
use Rattle.stmt_code.specs.Refusing.{run_needs}
use Rattle.stmt_code.specs.declared.draft.Draft.{Draft}
use Rattle.part_code.specs.declared.formals.PlacedFormal.{PlacedFormal}

-- the words of a frame and of its operand stack stand together
abbrev pub together : Needs → Needs
together n = record n { stack = n.frame + n.stack }

-- ---- formal parameters in the frame

-- One of this subtype, where so many words are passed in front of it and so many stand in front of those that are not copied in.
abbrev pub placed_as : Mode → Subtype → (from out : ℕ) → PlacedFormal
placed_as mode.In t from out = record { mode = mode.In; subtype = t; offset = from; address = None }
placed_as mode.Out t from out = record { mode = mode.Out; subtype = t; offset = out; address = Some from }
placed_as mode.InOut t from out = record { mode = mode.InOut; subtype = t; offset = from + 1; address = Some from }

-- where the next one is passed, and where the next one stands that is not copied in
abbrev pub from_behind : Mode → (many from : ℕ) → ℕ
from_behind mode.In many from = from + many
from_behind mode.Out many from = from + 1
from_behind mode.InOut many from = (from + 1) + many

abbrev pub out_behind : Mode → (many out : ℕ) → ℕ
out_behind mode.In many out = out
out_behind mode.Out many out = out + many
out_behind mode.InOut many out = out

-- all of them; each names a subtype
abbrev pub placed_if : Mode → (from out : ℕ) → Option Subtype → (rest : List PlacedFormal) → List PlacedFormal
placed_if m from out None rest = []
placed_if m from out (Some t) rest = placed_as m t from out ∷ rest

abbrev pub placed_formals : Scope → (from out : ℕ) → List Formal → List PlacedFormal
placed_formals s from out [] = []
placed_formals s from out (f ∷ fs) =
    placed_if f.mode from out (subtype_of s f.subtype)
    (placed_formals s (from_behind f.mode (words_named s f.subtype) from) (out_behind f.mode (words_named s f.subtype) out) fs)

-- those of a body: the ones that are not copied in stand behind all that is passed
abbrev pub formals_placed : Scope → List Formal → List PlacedFormal
formals_placed s fs = placed_formals s 0 (total (passed_for s) fs) fs

-- what is visible inside a body
abbrev pub formals_visible : Visible → List Formal → Visible
formals_visible v fs =
    record {
      scope = formals_scope v.scope fs;
      slots = v.slots ++ map slot_for (formals_placed v.scope fs);
      subprograms = v.subprograms ++ map no_subprogram (formals_placed v.scope fs);
      operations = v.operations;
    }

-- ---- what code needs

abbrev pub inside_needs : Visible → List PlacedFormal → (taken : ℕ) → BodyTree → Needs
inside_needs v xs taken b =
    both (outs_needs v xs) (both (run_needs v taken b.declarations b.statements b.handlers) (stacked (all_given v.scope xs)))

abbrev pub procedure_needs : Visible → List Formal → BodyTree → Needs
procedure_needs v fs b =
    together (both (formals_needs v.scope fs)
    (inside_needs (formals_visible v fs) (formals_placed v.scope fs) (formals_frame v.scope fs) b))

-- of the value of a function, which is checked
abbrev pub returned_needs : Visible → ExprTree → Needs
returned_needs v e = record { stack = checked_peak (peak v.scope e); frame = 0; unfit = has_unfit v }

abbrev pub function_needs : Visible → List Formal → ExprTree → Needs
function_needs v fs e = together (both (formals_needs v.scope fs) (returned_needs (formals_visible v fs) e))

-- ---- refusals

-- the labels behind the statements and handlers of a body
abbrev pub body_labels : (before : List (List ℕ)) → BodyTree → List (List ℕ)
body_labels before b = handlers_labels (stmts_labels before b.statements) b.handlers

abbrev pub RefusesProcedure : Visible → (old : Draft) → List Formal → BodyTree → Refusal → Type 0
RefusesProcedure v old fs b why = IsNeeding (here old.code + procedure_bound v.scope fs b) (procedure_needs v fs b) why
    ⊎ HasManyLabels (body_labels old.labels b) why

abbrev pub RefusesFunction : Visible → (old : Draft) → List Formal → ExprTree → Refusal → Type 0
RefusesFunction v old fs e why = IsNeeding (here old.code + function_bound fs e) (function_needs v fs e) why
