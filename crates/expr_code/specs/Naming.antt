-- What it is that words are those of a name's value, and which instructions load them.
use Rattle.std.specs.Prelude.{◌≡◌, ℕ, nat_eq, ℤ, pos, cond, List, length, Some, None}
use Rattle.ada_tree.specs.declared.expression.Identifier.{Identifier}
use Rattle.ada_tree.specs.ExpressionTree.{ExprTree, SelectorTrees}
use Rattle.image.specs.Frames.{words_at}
use Rattle.image.specs.declared.instruction.Operation.{Operation}
use Rattle.image.specs.declared.instruction.Operation.TheVariants as op
use Rattle.image.specs.declared.instruction.Region.{Region}
use Rattle.image.specs.declared.instruction.Region.TheVariants as regions
use Rattle.types.specs.declared.entity.Value.{Value as Scalar}
use Rattle.types.specs.declared.entity.Value.TheVariants as scalar
use Rattle.types.specs.Values.{Value}
use Rattle.types.specs.Shapes.{value_words, word_of}
use Rattle.types.specs.Evaluations.{Gives}
use Rattle.types.specs.Places.{Meaning, Place, meaning_of}
use Rattle.types.specs.Evaluating.{Calls, fixed_name, value_with}
use Rattle.expr_code.specs.Views.{Sight, View}
use Rattle.expr_code.specs.Computing.{Library}

-- the words from an address on are those of the value
abbrev pub Lies : List ℤ → ℕ → Value → Type 0
Lies words address v = words_at words (pos address) (length (value_words v)) ≡ Some (value_words v)

-- wherever the expression is evaluated, its value stands in the words of a region, from this address on, and has so many words: it is an object, or a part of
-- one whose place is known
abbrev pub IsStored : Library → Sight → ExprTree → Region → (address size : ℕ) → Type 0
IsStored library sight e region address size =
    (calls : Calls) (p : Place) (view : View)
    → library.sound calls
    → sight p view
    → (v : Value) × (value_with calls p e ≡ Gives v) × Lies (view.words region) address v × (length (value_words v) ≡ size)

-- the instruction that loads a single word
abbrev pub load_operation : Region → ℕ → Operation
load_operation regions.Locals address = op.LoadLocal address
load_operation regions.Plain address = op.LoadPlain address
load_operation regions.Object address = op.LoadObject address

-- what loads so many words from the address on top of the operand stack
abbrev pub loaded_at : Region → (words : ℕ) → Operation
loaded_at r n = cond (nat_eq n 1) (op.LoadIndexed r) (op.LoadBlock r n)

-- the word of a value that is known
abbrev pub scalar_word : Scalar → ℤ
scalar_word (scalar.Number z) = z
scalar_word (scalar.Truth b) = word_of b

-- a name that has a value by types and constants alone
abbrev pub IsFixed : Sight → Identifier → SelectorTrees → Scalar → Type 0
IsFixed sight first selectors v = (p : Place) (view : View) → sight p view → fixed_name p first selectors ≡ Some v

-- a name with this meaning, and with no value by types and constants alone
abbrev pub NamesMeaning : Sight → Identifier → SelectorTrees → Meaning → Type 0
NamesMeaning sight first selectors meaning = (p : Place) (view : View) → sight p view → (fixed_name p first selectors ≡ None)
    × (meaning_of p first.name ≡ meaning)

-- the time and the inputs are those of the run
abbrev pub SeesTime : Sight → Type 0
SeesTime sight = (p : Place) (view : View) → sight p view → (p.now ≡ view.now) × (p.schedule ≡ view.schedule)
