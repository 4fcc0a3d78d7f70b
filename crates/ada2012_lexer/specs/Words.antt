-- The reserved words (RM 2.9) by their names; crate lexer has how each is spelled.
use Rattle.std.specs.Prelude.{ℕ, List, [], ◌∷◌, find, bytes_eq, Option}
use Rattle.lexer.specs.declared.word.Word.{Word}
use Rattle.lexer.specs.declared.word.Word.TheVariants as words
use Rattle.lexer.specs.Words.{spelling}

abbrev pub reserved_words : List Word
reserved_words =
    words.Abort ∷ words.Abs ∷ words.Abstract ∷ words.Accept ∷ words.Access ∷ words.Aliased ∷ words.All ∷ words.And ∷ words.Array
    ∷ words.At ∷ words.Begin ∷ words.Body ∷ words.Case ∷ words.Constant ∷ words.Declare ∷ words.Delay ∷ words.Delta ∷ words.Digits
    ∷ words.Do ∷ words.Else ∷ words.Elsif ∷ words.End ∷ words.Entry ∷ words.Exception ∷ words.Exit ∷ words.For ∷ words.Function
    ∷ words.Generic ∷ words.Goto ∷ words.If ∷ words.In ∷ words.Interface ∷ words.Is ∷ words.Limited ∷ words.Loop ∷ words.Mod
    ∷ words.New ∷ words.Not ∷ words.Null ∷ words.Of ∷ words.Or ∷ words.Others ∷ words.Out ∷ words.Overriding ∷ words.Package
    ∷ words.Pragma ∷ words.Private ∷ words.Procedure ∷ words.Protected ∷ words.Raise ∷ words.Range ∷ words.Record ∷ words.Rem ∷ words.Renames
    ∷ words.Requeue ∷ words.Return ∷ words.Reverse ∷ words.Select ∷ words.Separate ∷ words.Some ∷ words.Subtype ∷ words.Synchronized ∷ words.Tagged
    ∷ words.Task ∷ words.Terminate ∷ words.Then ∷ words.Type ∷ words.Until ∷ words.Use ∷ words.When ∷ words.While ∷ words.With
    ∷ words.Xor ∷ []

-- the one that is spelled by these letters, in upper case
unfoldable pub word_of : List ℕ → Option Word
word_of name = find (λ word. bytes_eq (spelling word) name) reserved_words
