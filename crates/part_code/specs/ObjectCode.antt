-- The code of initial values, as pieces (docs/CODEGEN.md). What no legal text has some code is given too.
use Rattle.std.specs.Prelude.{◌≡◌, ℕ, zero, suc, ◌+◌, nat_le, cond, ℤ, pos, List, [], ◌∷◌, ◌++◌, length, Option, Some, None}
use Rattle.base.specs.declared.limits.TheConstants.{FRAME_WORDS}
use Rattle.ada_tree.specs.ExpressionTree.{ExprTree}
use Rattle.image.specs.declared.instruction.Operation.TheVariants as op
use Rattle.image.specs.declared.instruction.Region.TheVariants as regions
use Rattle.types.specs.declared.entity.Subtype.{Subtype}
use Rattle.types.specs.declared.entity.RecordComponent.{RecordComponent}
use Rattle.types.specs.Entities.{Arrays, Records, TypeForm}
use Rattle.types.specs.Scopes.{Scope, form_at}
use Rattle.expr_code.specs.Emitting.{is_composite}
use Rattle.expr_code.specs.ExpressionCode.{checked_code, expr_code}
use Rattle.expr_code.specs.Pieces.{Made, Piece, adds, nothing, one, ◌▸◌}
use Rattle.expr_code.specs.declared.visible.Visible.{Visible}
use Rattle.part_code.specs.Emitting.{first_word}
use Rattle.part_code.specs.PartCode.{fitting_code, words_in}

-- A piece that puts so many words on the operand stack; where a frame never has as many, an instruction in its place that finds them all, which no image may
-- have.
abbrev pub within_frame : (words : ℕ) → Piece → Piece
within_frame n a = cond (nat_le n FRAME_WORDS) a (one n op.Return)

-- ---- initial values (RM 3.3.1)

-- the words of an object without initial value, whose type has a number below a bound: in a legal program parts are of earlier types
abbrev pub times_words : ℕ → List ℤ → List ℤ
times_words zero ws = []
times_words (suc n) ws = ws ++ times_words n ws

abbrev pub parts_words : (part : Subtype → List ℤ) → List RecordComponent → List ℤ
parts_words part [] = []
parts_words part (c ∷ cs) = part c.subtype ++ parts_words part cs

abbrev pub word_list : Option ℤ → List ℤ
word_list None = []
word_list (Some w) = w ∷ []

abbrev pub form_words : (part : Subtype → List ℤ) → Subtype → Option TypeForm → List ℤ
form_words part t (Some (Arrays index many element)) = times_words many (part element)
form_words part t (Some (Records components)) = parts_words part components
form_words part t form = word_list (first_word form t)

abbrev pub first_words : (below : ℕ) → Scope → Subtype → List ℤ
first_words zero s t = []
first_words (suc n) s t = form_words (first_words n s) t (form_at s t.type_number)

-- words that are put on the operand stack one by one
abbrev pub words_pushed : (depth : ℕ) → List ℤ → Piece
words_pushed d [] = nothing
words_pushed d (w ∷ ws) = one d (op.Push w) ▸ words_pushed (d + 1) ws

-- these words were pushed above so many others, and so many are on the operand stack then
pub record HasPutWords (old : Made) (height : ℕ) (ws : List ℤ) (new : Made) (top : ℕ) : Type 0 where
  pub made : new ≡ adds old (words_pushed height ws)
  pub more : top ≡ height + length ws

-- the word of an object of one word without initial value
abbrev pub word_pushed : Option ℤ → Piece
word_pushed None = nothing
word_pushed (Some w) = one 0 (op.Push w)

-- of one word: the value, checked, or that of an object without
abbrev pub first_value : Visible → Subtype → Option ExprTree → Piece
first_value v t None = word_pushed (first_word (form_at v.scope t.type_number) t)
first_value v t (Some e) = checked_code v 0 t e (expr_code v 0 e)

-- of several words: these above their address, and what stores them there
abbrev pub block_code : Visible → (offset : ℕ) → Subtype → Option ExprTree → Piece
block_code v offset t None =
    within_frame (1 + words_in v.scope t)
    (one 0 (op.Push (pos offset)) ▸ words_pushed 1 (first_words (suc t.type_number) v.scope t)
    ▸ one (1 + words_in v.scope t) (op.StoreBlock regions.Locals (words_in v.scope t)))
block_code v offset t (Some e) =
    one 0 (op.Push (pos offset)) ▸ fitting_code v 1 t e ▸ one (1 + words_in v.scope t) (op.StoreBlock regions.Locals (words_in v.scope t))

-- an object whose words stand in the frame from an offset on
abbrev pub object_code : Visible → (offset : ℕ) → Subtype → Option ExprTree → Piece
object_code v offset t value =
    cond (is_composite (form_at v.scope t.type_number)) (block_code v offset t value) (first_value v t value ▸ one 1 (op.StoreLocal offset))
