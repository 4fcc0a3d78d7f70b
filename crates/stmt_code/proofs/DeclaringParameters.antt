-- A parameter that is not copied in begins with the initial value of its subtype: the value's words are pushed, and stored where the parameter stands.
use Rattle.std.proofs.Common.{◌≡◌, ℕ, suc, ◌+◌, ◌≤◌, ℤ, List, [], ◌∷◌, length, sym, ap, subst, arith}
use Rattle.std.specs.Prelude.{pos}
use Rattle.kernel.specs.Laws.{QuietStays}
use Rattle.image.specs.Sections.{Sections}
use Rattle.image.specs.declared.instruction.Operation.TheVariants as op
use Rattle.image.specs.declared.instruction.Region.TheVariants as regions
use Rattle.types.specs.declared.entity.Role.{Role}
use Rattle.types.specs.Evaluations.{Gives}
use Rattle.types.specs.Laws.{InitialValuesHaveShape, ValuesHaveWords}
use Rattle.types.specs.Layouts.{words_of}
use Rattle.types.specs.Shapes.{initial, value_words}
use Rattle.types.specs.Values.{Value}
use Rattle.expr_soundness.specs.Laws.{AgreementIsKept}
use Rattle.expr_soundness.specs.SoundScopes.{IsKnown}
use Rattle.expr_soundness.specs.meaning.specs.Programs.{Parameter, Program}
use Rattle.expr_code.specs.Coming.{on}
use Rattle.expr_code.specs.Computing.{Everywhere}
use Rattle.expr_code.specs.Seeing.{Package, Sees, library_of}
use Rattle.expr_code.specs.Views.{At}
use Rattle.expr_code.specs.declared.visible.Slot.{Slot}
use Rattle.part_code.specs.Layout.{IsLaidOut, Spares, Widens}
use Rattle.part_code.specs.Resting.{Framed}
use Rattle.part_code.specs.Statements.{IsParameterDeclared, Numbers}
use Rattle.part_code.specs.Storing.{ArePushed}
use Rattle.part_code.proofs.Declaring.{begins_by, initial_suits}
use Rattle.part_code.proofs.StoringCode.{StoresLocally, block_in, computes_above, computes_pushed, word_there}

module _ (kept : AgreementIsKept) (sized : ValuesHaveWords) (quiet : QuietStays) (shaped : InitialValuesHaveShape) (i : Sections) (program : Program)
    (g : Package) (numbers : Numbers) (v later : Framed) (f : Parameter) (r : Role) (slot : Slot) (laid : IsLaidOut g v)
    (widens : Widens v f.name r f.subtype slot later) (spares : Spares v f.subtype slot later)
    (region : slot.region ≡ regions.Locals) (known : IsKnown v.names.scope f.subtype) where
  abbrev pub start : Value
  start = initial program.scope f.subtype

  parameter_by : (from mid : ℕ) → from ≤ mid → (stack : List ℤ → Value → List ℤ)
      → Everywhere i (library_of g) (Sees g v.names) from mid stack (λ c p. Gives start)
      → StoresLocally i mid slot.offset (words_of v.names.scope f.subtype) (stack [])
      → IsParameterDeclared i program g numbers v from (suc mid) later f
  parameter_by from mid up stack computes stores =
      begins_by kept sized quiet i program g numbers v later f.name f.subtype r slot from mid laid widens spares region up stack (λ c p. Gives start) computes
      (initial_suits kept sized quiet i program g numbers shaped v f.subtype known) stores

  -- a single word: PUSH, STL
  pub declares_parameter : (from : ℕ) (w : ℤ) → words_of v.names.scope f.subtype ≡ 1 → value_words start ≡ w ∷ [] → At i from (op.Push w)
      → At i (suc from) (op.StoreLocal slot.offset)
      → IsParameterDeclared i program g numbers v from (suc (suc from)) later f
  declares_parameter from w single word push here =
      let many = ap length word in
      parameter_by from (suc from) (omega arith) on
      (computes_pushed quiet i (library_of g) (Sees g v.names) from (suc from) start (subst (ArePushed i from) (sym word) (push, tt)) (omega (arith, many)))
      (subst (λ n. StoresLocally i (suc from) slot.offset n (on [])) (sym single) (word_there quiet i regions.Locals (suc from) slot.offset here))

  -- several: PUSH of their place, PUSH of each, STB
  pub declares_parameter_block : (from mid : ℕ) → At i from (op.Push (pos slot.offset)) → ArePushed i (suc from) (value_words start)
      → mid ≡ suc from + length (value_words start) → At i mid (op.StoreBlock regions.Locals (words_of v.names.scope f.subtype))
      → IsParameterDeclared i program g numbers v from (suc mid) later f
  declares_parameter_block from mid push pushed end here =
      parameter_by from mid (omega (arith, end)) (λ base x. on (pos slot.offset ∷ base) x)
      (computes_above quiet i (library_of g) (Sees g v.names) from mid slot.offset (λ c p. Gives start) (omega (arith, end)) push
      (computes_pushed quiet i (library_of g) (Sees g v.names) (suc from) mid start pushed end))
      (block_in quiet i regions.Locals mid slot.offset [] (words_of v.names.scope f.subtype) here)
