-- The lexical elements of a text, or its first fault (RM 2.2).
use Rattle.std.specs.Prelude.{ℕ, zero, suc, ◌+◌, ◌-◌, ◌<◌, ◌≤◌, Bool, false, if◌then◌else◌, nat_lt, List, [], ◌∷◌, ◌++◌, length, Result, Ok, Err}
use Rattle.ada2012_lexer.specs.declared.element.Element.{Element}
use Rattle.ada2012_lexer.specs.declared.element.ElementKind.{ElementKind}
use Rattle.ada2012_lexer.specs.declared.element.ElementKind.TheVariants as elements
use Rattle.ada2012_lexer.specs.declared.fault.Fault.{Fault}
use Rattle.ada2012_lexer.specs.declared.fault.FaultKind.TheVariants as faults
use Rattle.ada2012_lexer.specs.declared.lexing.TheConstants.{TEXT_LIMIT}
use Rattle.ada2012_lexer.specs.declared.token.Span.{Span}
use Rattle.ada2012_lexer.specs.declared.token.Token.{Token}
use Rattle.ada2012_lexer.specs.Elements.{ElementReading, allows_tick, element_at}

-- tokens and comments, each in the order of the text
pub record TextElements : Type 0 where
  pub tokens : List Token
  pub comments : List Span

abbrev pub TextReading : Type 0
TextReading = Result TextElements Fault

-- the token that an element of these bytes is, if it is one
abbrev pub tokens_of : ElementKind → (start end_ : ℕ) → List Token
tokens_of elements.Separator start end_ = []
tokens_of elements.Comment start end_ = []
tokens_of (elements.Token kind) start end_ = record { kind = kind; start = start; end_ = end_ } ∷ []

-- the comment that it is, if it is one
abbrev pub comments_of : ElementKind → (start end_ : ℕ) → List Span
comments_of elements.Separator start end_ = []
comments_of elements.Comment start end_ = record { start = start; end_ = end_ } ∷ []
comments_of (elements.Token kind) start end_ = []

-- an element of these bytes before those that were found after it
abbrev pub with_found : ElementKind → (start end_ : ℕ) → TextElements → TextElements
with_found kind start end_ found = record { tokens = tokens_of kind start end_ ++ found.tokens; comments = comments_of kind start end_ ++ found.comments }

abbrev pub with_element : ElementKind → (start end_ : ℕ) → TextReading → TextReading
with_element kind start end_ (Err fault) = Err fault
with_element kind start end_ (Ok found) = Ok (with_found kind start end_ found)

-- whether the token before allows a tick, after an element: separators and comments change nothing
abbrev pub tick_after : (tick : Bool) → ElementKind → Bool
tick_after tick elements.Separator = tick
tick_after tick elements.Comment = tick
tick_after tick (elements.Token kind) = allows_tick kind

-- the element that is read at a place, and then the others; or what is wrong there
abbrev pub read_on : (at : ℕ) → (Element → TextReading) → ElementReading → TextReading
read_on at others (Err broken) = Err (record { kind = broken.kind; place = at + broken.offset })
read_on at others (Ok element) = with_element element.kind at (at + element.length) (others element)

-- The elements of a text from the place `at` on, of which the next `left` characters belong to the element that began before. Where none is left another one
-- begins.
abbrev pub elements_from : (tick : Bool) → (left at : ℕ) → List ℕ → TextReading
elements_from tick left at [] = Ok (record { tokens = []; comments = [] })
elements_from tick (suc left) at (c ∷ text) = elements_from tick left (at + 1) text
elements_from tick zero at (c ∷ text) =
    read_on at (λ element. elements_from (tick_after tick element.kind) (element.length - 1) (at + 1) text) (element_at tick (c ∷ text))

-- the elements of a whole text, or its first fault
abbrev pub reading : List ℕ → TextReading
reading text = if nat_lt TEXT_LIMIT (length text) then Err (record { kind = faults.TextTooLong; place = TEXT_LIMIT }) else elements_from false 0 0 text

-- ---- where the elements lie

abbrev pub span_of : Token → Span
span_of token = record { start = token.start; end_ = token.end_ }

-- the spans lie between two places, one after the other, and none is empty
abbrev pub AreSpansInOrder : (from to : ℕ) → List Span → Type 0
AreSpansInOrder from to [] = from ≤ to
AreSpansInOrder from to (span ∷ spans) = (from ≤ span.start) × (span.start < span.end_) × AreSpansInOrder span.end_ to spans
