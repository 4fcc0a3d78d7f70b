-- What a method reads, and how it lies among the tokens.
use Rattle.std.specs.Prelude.{ℕ, ◌≤◌, ◌<◌, List, [], ◌∷◌, length, max}
use Rattle.ada2012_lexer.specs.declared.token.Token.{Token}
use Rattle.ada2012_tree.specs.Spans.{SpanTrees, LieBetween}
use Rattle.ada2012_parser.specs.declared.parser.Parser.{Parser}

-- where the next token begins, if there is one
abbrev pub next_start : List Token → ℕ
next_start [] = 0
next_start (token ∷ tokens) = token.start

-- where what is read next begins: not before the end of what was read
abbrev pub here : Parser → ℕ
here p = max p.last (next_start p.rest.now)

-- nodes lie between a place and the end of what was read, one after the other
pub record AreReadSince (start : ℕ) (p : Parser) (trees : SpanTrees) : Type 0 where
  pub starts : start ≤ here p
  pub between : LieBetween start p.last trees

-- any number of tokens was passed, and nodes lie between a place before them and the end of what was read
pub record Reads (start : ℕ) (old new : Parser) (trees : SpanTrees) : Type 0 where
  pub starts : start ≤ here old
  pub shrinks : length new.rest.now ≤ length old.rest.now
  pub last : old.last ≤ new.last
  pub onwards : here old ≤ here new
  pub between : LieBetween start new.last trees

-- one token or more was passed, and nodes lie between a place before them and the end of what was read
pub record ReadsSome (start : ℕ) (old new : Parser) (trees : SpanTrees) : Type 0 where
  pub starts : start ≤ here old
  pub shrinks : length new.rest.now < length old.rest.now
  pub reaches : here old ≤ new.last
  pub between : LieBetween start new.last trees
