-- The code of declarations stores what they declare.
use Rattle.std.proofs.Common.{◌≡◌, ℕ, suc, ◌+◌, ◌-◌, ◌≤◌, ℤ, List, [], ◌∷◌, ◌++◌, length, reverse, Some, None, true, refl, sym, ap, ◌∙◌, subst, arith}
use Rattle.std.specs.Prelude.{pos}
use Rattle.base.specs.declared.schedule.ScheduleLine.{ScheduleLine}
use Rattle.kernel.specs.State.{Kernel}
use Rattle.kernel.specs.Counting.{Spends}
use Rattle.kernel.specs.Laws.{QuietStays}
use Rattle.image.specs.Sections.{Sections}
use Rattle.image.specs.Frames.{Words, Frame, own_object}
use Rattle.image.specs.Steps.{behaviour}
use Rattle.image.specs.declared.instruction.Operation.TheVariants as op
use Rattle.image.specs.declared.instruction.Region.TheVariants as regions
use Rattle.ada_tree.specs.ExpressionTree.{ExprTree}
use Rattle.ada_tree.specs.StatementTree.{LocalObject, ObjectTree}
use Rattle.types.specs.declared.entity.Role.{Role}
use Rattle.types.specs.declared.entity.Subtype.{Subtype}
use Rattle.types.specs.Evaluating.{Calls, call, passed, value_with}
use Rattle.types.specs.Evaluations.{Val, Gives, and_then}
use Rattle.types.specs.Laws.{InitialValuesHaveShape, ValuesHaveWords}
use Rattle.types.specs.Layouts.{words_of}
use Rattle.types.specs.Places.{Object, Place}
use Rattle.types.specs.Shapes.{has_shape, initial, shape_of, value_words}
use Rattle.types.specs.Values.{Value}
use Rattle.expr_soundness.specs.Agreeing.{Agrees}
use Rattle.expr_soundness.specs.Answers.{CallsAnswer}
use Rattle.expr_soundness.specs.Laws.{AgreementIsKept, CallsAreTyped}
use Rattle.expr_soundness.specs.SoundScopes.{IsKnown}
use Rattle.expr_soundness.proofs.Agreement.{place_values}
use Rattle.expr_soundness.specs.meaning.specs.Programs.{Program, subtype_named}
use Rattle.expr_soundness.specs.meaning.specs.Works.{Activation, Store}
use Rattle.expr_soundness.specs.meaning.specs.SameMeaning.{frames_of}
use Rattle.expr_code.specs.Coming.{most_steps, on}
use Rattle.expr_code.specs.Computing.{ComputesChecked, Everywhere}
use Rattle.expr_code.specs.Seeing.{Package, Sees, library_of}
use Rattle.expr_code.specs.Views.{At, View, in_frame, placed, view_of}
use Rattle.expr_code.specs.declared.visible.Slot.{Slot}
use Rattle.expr_code.specs.declared.visible.Visible.{Visible}
use Rattle.expr_code.proofs.Coming.{pushes}
use Rattle.part_code.specs.Layout.{IsLaidOut, Widens, IsFree, Spares}
use Rattle.part_code.specs.Resting.{Framed, IsAt, Knows, Rests, StandsFor, AreKept}
use Rattle.part_code.specs.Statements.{IsDeclared, Numbers}
use Rattle.part_code.specs.Storing.{ArePushed, Puts, Stores, declared, declared_from}
use Rattle.part_code.proofs.Placing.{declared_knows}
use Rattle.part_code.proofs.StoringCode.{StoresLocally, block_in, computes_above, computes_pushed, passed_same, same_given, word_there}
use Rattle.part_code.proofs.Words.{with_words, written, others_kept}

-- what is known of an expression whose value is stored, beside its code: its value is of the subtype's type
pub record IsTypedAs (v : Visible) (t : Subtype) (e : ExprTree) : Type 0 where
  pub known : IsKnown v.scope t
  pub typed : (calls : Calls) (p : Place) → Agrees v.scope p → CallsAnswer calls p → (x : Value) → value_with calls p e ≡ Gives x
      → has_shape (shape_of v.scope t) x ≡ true

pub value_suits : CallsAreTyped → (g : Package) (v : Framed) (t : Subtype) (e : ExprTree) → IsTypedAs v.names t e → (p : Place) (view : View)
    → Sees g v.names p view
    → (x : Value) → and_then (value_with (call p.frames_left) p e) (passed t) ≡ Gives x → has_shape (shape_of v.names.scope t) x ≡ true
value_suits calls g v t e typed p view sees x h =
    typed.typed (call p.frames_left) p sees.names.agrees (calls.answered p sees.unit.sound p.frames_left) x
    (passed_same t (value_with (call p.frames_left) p e) x h)

module _ (kept : AgreementIsKept) (sized : ValuesHaveWords) (quiet : QuietStays) (i : Sections) (program : Program) (g : Package) (numbers : Numbers) where
  -- wherever there is a value, it is of the subtype
  abbrev pub SuitsAs : Framed → Subtype → (Calls → Place → Val Value) → Type 0
  SuitsAs v t value = (p : Place) (view : View) → Sees g v.names p view → p.scope ≡ program.scope → (x : Value) → value (call p.frames_left) p ≡ Gives x
      → has_shape (shape_of v.names.scope t) x ≡ true

  abbrev pub Suits : Framed → ObjectTree → Type 0
  Suits v d = SuitsAs v (subtype_named program.scope d.subtype) (declared program.scope d)

  abbrev pub begun : List ℕ → Subtype → Value → Object
  begun name t x = record { name = name; subtype = t; value = x }

  -- The code computes the value of a new object of this name and subtype, and an instruction stores its words.
  pub begins_by : (v later : Framed) (name : List ℕ) (t : Subtype) (r : Role) (slot : Slot) (from mid : ℕ)
      → IsLaidOut g v → Widens v name r t slot later → Spares v t slot later → slot.region ≡ regions.Locals
      → from ≤ mid → (stack : List ℤ → Value → List ℤ) (value : Calls → Place → Val Value) → Everywhere i (library_of g) (Sees g v.names) from mid stack value
      → SuitsAs v t value
      → StoresLocally i mid slot.offset (words_of v.names.scope t) (stack [])
      → Stores i program g v later from (suc mid) value (λ x m. m) (λ x a. record a { locals = begun name t x ∷ a.locals })
  begins_by v later name t r slot from mid laid widens spares region up stack value computes suits stores = record {
    mid = mid;
    up = up;
    end = refl;
    same = spares.reserved;
    stack = stack;
    computes = computes;
    puts = puts;
  }
    where
      puts : (schedule : List ScheduleLine) (k : Kernel) (task : ℕ) (m : Words) (f : Frame) (fs : List Frame) (store : Store) (a : Activation) (p : Place)
          (x : Value)
          → IsAt program store p → p.locals ≡ a.locals → p.within ≡ a.within → StandsFor program g store m → Rests g v a f.locals
          → own_object i f ≡ a.within
          → Knows g v p (view_of i schedule k task m f fs)
          → value (call p.frames_left) p ≡ Gives x
          → Puts i program g schedule k task m f fs mid (stack [] x) [] later store (record a { locals = begun name t x ∷ a.locals })
      puts schedule k task m f fs store a p x is_at locals within stands rests own knows gives =
          let suited = suits p (view_of i schedule k task m f fs) knows.sees (is_at.scope) x gives in
          let many : length (value_words x) ≡ words_of v.names.scope t = (sized (shape_of v.names.scope t) x suited).sized in
          let fits = widens.fits in
          let room = knows.room in
          let enough : slot.offset + length (value_words x) ≤ length f.locals = omega (arith, fits, room, many) in
          let put = written f.locals slot.offset x enough in
          record {
            words = m;
            locals = with_words slot.offset (value_words x) f.locals;
            acts = stores schedule k task m f fs x many (omega (arith, fits, room));
            shared = stands;
            rests = record {
              small = (let l = put.long in let s = rests.small in omega (arith, l, s));
              sees = λ p' view' sees' locals' within' words' its'.
                  declared_knows kept sized g v laid a f.locals (with_words slot.offset (value_words x) f.locals) rests (begun name t x)
                  slot.offset put p' view' sees' locals' within' words' its' r slot later widens region refl suited;
            };
            keeps = subst (λ z. AreKept z f.locals (with_words slot.offset (value_words x) f.locals)) (sym spares.reserved)
                (others_kept v.reserved slot.offset (value_words x) f.locals enough (subst (λ n. IsFree v.reserved slot.offset n) (sym many) spares.free));
          }

  -- ... of a declaration
  pub declares_by : (v later : Framed) (d : ObjectTree) (r : Role) (slot : Slot) (from mid : ℕ)
      → IsLaidOut g v → Widens v d.name.name r (subtype_named program.scope d.subtype) slot later
      → Spares v (subtype_named program.scope d.subtype) slot later → slot.region ≡ regions.Locals
      → from ≤ mid → (stack : List ℤ → Value → List ℤ) → Everywhere i (library_of g) (Sees g v.names) from mid stack (declared program.scope d)
      → Suits v d
      → StoresLocally i mid slot.offset (words_of v.names.scope (subtype_named program.scope d.subtype)) (stack [])
      → IsDeclared i program g numbers v from (suc mid) later (LocalObject d)
  declares_by v later d r slot from mid laid widens spares region up stack computes suits stores =
      begins_by v later d.name.name (subtype_named program.scope d.subtype) r slot from mid laid widens spares region up stack
      (declared program.scope d) computes suits stores

  -- the initial value of a subtype is of that subtype
  pub initial_suits : InitialValuesHaveShape → (v : Framed) (t : Subtype) → IsKnown v.names.scope t → SuitsAs v t (λ c p. Gives (initial program.scope t))
  initial_suits shaped v t known p view sees scope x h =
      subst (λ y. has_shape (shape_of v.names.scope t) y ≡ true) (same_given (initial program.scope t) x h)
      (sym (place_values v.names.scope p sees.names.agrees t (initial program.scope t) known)
      ∙ ap (λ s. has_shape (shape_of s t) (initial program.scope t)) scope
      ∙ shaped (shape_of program.scope t))

  -- ---- with an initial value
  module _ (calls : CallsAreTyped) (v later : Framed) (d : ObjectTree) (e : ExprTree) (r : Role) (t : Subtype) (slot : Slot) (valued : d.value ≡ Some e)
      (named : subtype_named program.scope d.subtype ≡ t) (laid : IsLaidOut g v) (widens : Widens v d.name.name r t slot later)
      (spares : Spares v t slot later)
      (region : slot.region ≡ regions.Locals)
      (typed : IsTypedAs v.names t e) where
    declares_with : (from mid : ℕ) → from ≤ mid → (stack : List ℤ → Value → List ℤ)
        → Everywhere i (library_of g) (Sees g v.names) from mid stack (λ c p. and_then (value_with c p e) (passed t))
        → StoresLocally i mid slot.offset (words_of v.names.scope t) (stack [])
        → IsDeclared i program g numbers v from (suc mid) later (LocalObject d)
    declares_with from mid up stack computes stores =
        declares_by v later d r slot from mid laid (subst (λ u. Widens v d.name.name r u slot later) (sym named) widens)
        (subst (λ u. Spares v u slot later) (sym named) spares) region up stack
        (subst (λ o. Everywhere i (library_of g) (Sees g v.names) from mid stack (λ c p. declared_from program.scope d o c p)) (sym valued)
        (subst (λ u. Everywhere i (library_of g) (Sees g v.names) from mid stack (λ c p. and_then (value_with c p e) (passed u))) (sym named) computes))
        (λ p view sees scope x h.
        subst (λ u. has_shape (shape_of v.names.scope u) x ≡ true) (sym named)
        (value_suits calls g v t e typed p view sees x
        (ap (λ u. and_then (value_with (call p.frames_left) p e) (passed u)) (sym named)
        ∙ ap (λ o. declared_from program.scope d o (call p.frames_left) p) (sym valued)
        ∙ h)))
        (subst (λ u. StoresLocally i mid slot.offset (words_of v.names.scope u) (stack [])) (sym named) stores)

    -- a single word: its code, and STL
    pub declares_value : (from mid : ℕ) → words_of v.names.scope t ≡ 1 → from ≤ mid → ComputesChecked i (library_of g) (Sees g v.names) from mid t e
        → At i mid (op.StoreLocal slot.offset) → IsDeclared i program g numbers v from (suc mid) later (LocalObject d)
    declares_value from mid single up computes here =
        declares_with from mid up on computes (subst (λ n. StoresLocally i mid slot.offset n (on [])) (sym single) (word_there quiet i regions.Locals mid slot.offset here))

    -- several: their address, their code, and STB
    pub declares_block : (from mid : ℕ) → suc from ≤ mid → At i from (op.Push (pos slot.offset))
        → ComputesChecked i (library_of g) (Sees g v.names) (suc from) mid t e
        → At i mid (op.StoreBlock regions.Locals (words_of v.names.scope t)) → IsDeclared i program g numbers v from (suc mid) later (LocalObject d)
    declares_block from mid up push computes here =
        declares_with from mid (omega (arith, up)) (λ base x. on (pos slot.offset ∷ base) x)
        (computes_above quiet i (library_of g) (Sees g v.names) from mid slot.offset (λ c p. and_then (value_with c p e) (passed t)) up push computes)
        (block_in quiet i regions.Locals mid slot.offset [] (words_of v.names.scope t) here)

  -- ---- without one: a word is put on the stack
  pub declares_initial : InitialValuesHaveShape → (v later : Framed) (d : ObjectTree) (r : Role) (t : Subtype) (slot : Slot) (w : ℤ) (from : ℕ)
      → d.value ≡ None → subtype_named program.scope d.subtype ≡ t
      → IsLaidOut g v → Widens v d.name.name r t slot later → Spares v t slot later → slot.region ≡ regions.Locals → words_of v.names.scope t ≡ 1
      → IsKnown v.names.scope t → value_words (initial program.scope t) ≡ w ∷ []
      → At i from (op.Push w) → At i (suc from) (op.StoreLocal slot.offset)
      → IsDeclared i program g numbers v from (suc (suc from)) later (LocalObject d)
  declares_initial shaped v later d r t slot w from valued named laid widens spares region single known word push here =
      declares_by v later d r slot from (suc from) laid (subst (λ u. Widens v d.name.name r u slot later) (sym named) widens)
      (subst (λ u. Spares v u slot later) (sym named) spares) region (omega arith) on
      (subst (λ o. Everywhere i (library_of g) (Sees g v.names) from (suc from) on (λ c p. declared_from program.scope d o c p)) (sym valued)
      (subst (λ u. Everywhere i (library_of g) (Sees g v.names) from (suc from) on (λ c p. Gives (initial program.scope u))) (sym named) computes))
      (λ p view sees scope x h.
      subst (λ u. has_shape (shape_of v.names.scope u) x ≡ true) (sym named)
      (initial_suits shaped v t known p view sees scope x
      (ap (λ u. Gives (initial program.scope u)) (sym named) ∙ ap (λ o. declared_from program.scope d o (call p.frames_left) p) (sym valued) ∙ h)))
      (subst (λ n. StoresLocally i (suc from) slot.offset n (on [])) (sym (ap (words_of v.names.scope) named ∙ single))
      (word_there quiet i regions.Locals (suc from) slot.offset here))
    where
      computes : Everywhere i (library_of g) (Sees g v.names) from (suc from) on (λ c p. Gives (initial program.scope t))
      computes calls left answers schedule k task m f fs p base calm sees is =
          let n : suc from - from ≡ 1 = omega arith in
          let next : from + 1 ≡ suc from = omega arith in
          subst
          (λ ws. Spends (behaviour i schedule) task frames_of (most_steps i) (suc (length fs)) (suc from - from) k (in_frame m (placed f from base) fs) k
          (in_frame m (placed f (suc from) (reverse ws ++ base)) fs)) (sym word)
          (subst
          (λ q. Spends (behaviour i schedule) task frames_of (most_steps i) (suc (length fs)) q k (in_frame m (placed f from base) fs) k
          (in_frame m (placed f (suc from) (w ∷ base)) fs)) (sym n) (pushes quiet i schedule k task m calm from w push f fs base (suc from) next))

  -- ... several, above their address
  pub declares_initial_words : InitialValuesHaveShape → (v later : Framed) (d : ObjectTree) (r : Role) (t : Subtype) (slot : Slot) (from mid : ℕ)
      → d.value ≡ None → subtype_named program.scope d.subtype ≡ t
      → IsLaidOut g v → Widens v d.name.name r t slot later → Spares v t slot later → slot.region ≡ regions.Locals → IsKnown v.names.scope t
      → suc from ≤ mid → At i from (op.Push (pos slot.offset)) → ArePushed i (suc from) (value_words (initial program.scope t))
      → mid ≡ suc from + length (value_words (initial program.scope t))
      → At i mid (op.StoreBlock regions.Locals (words_of v.names.scope t))
      → IsDeclared i program g numbers v from (suc mid) later (LocalObject d)
  declares_initial_words shaped v later d r t slot from mid valued named laid widens spares region known up push pushed at here =
      declares_by v later d r slot from mid laid (subst (λ u. Widens v d.name.name r u slot later) (sym named) widens)
      (subst (λ u. Spares v u slot later) (sym named) spares) region (omega (arith, up)) (λ base x. on (pos slot.offset ∷ base) x)
      (subst (λ o. Everywhere i (library_of g) (Sees g v.names) from mid (λ base x. on (pos slot.offset ∷ base) x) (λ c p. declared_from program.scope d o c p))
      (sym valued)
      (subst (λ u. Everywhere i (library_of g) (Sees g v.names) from mid (λ base x. on (pos slot.offset ∷ base) x) (λ c p. Gives (initial program.scope u)))
      (sym named)
      (computes_above quiet i (library_of g) (Sees g v.names) from mid slot.offset (λ c p. Gives (initial program.scope t)) up push
      (computes_pushed quiet i (library_of g) (Sees g v.names) (suc from) mid (initial program.scope t) pushed at))))
      (λ p view sees scope x h.
      subst (λ u. has_shape (shape_of v.names.scope u) x ≡ true) (sym named)
      (initial_suits shaped v t known p view sees scope x
      (ap (λ u. Gives (initial program.scope u)) (sym named) ∙ ap (λ o. declared_from program.scope d o (call p.frames_left) p) (sym valued) ∙ h)))
      (subst (λ u. StoresLocally i mid slot.offset (words_of v.names.scope u) (λ x. on (pos slot.offset ∷ []) x)) (sym named)
      (block_in quiet i regions.Locals mid slot.offset [] (words_of v.names.scope t) here))
