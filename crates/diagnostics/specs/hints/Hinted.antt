-- What is said of a text besides its fault: what to write instead, which word is misspelled or which token is missing, what is declared with a name like one
-- that isn't visible, and what is open where an `end` is wrong or missing.
use Rattle.std.specs.Prelude.{◌≡◌, ◌≢◌, ◌⊎◌, ℕ, List, [], ◌∷◌, ◌++◌, Option, Some, None, codes, drop, if◌then◌else◌, nat_eq, slice_get}
use Rattle.base.specs.declared.faults.TheConstants.{NAME_NOT_VISIBLE, STRAY_CHARACTER, UNEXPECTED_TOKEN, WRONG_LABEL, WRONG_LITERAL}
use Rattle.std.specs.Str.{str_to_ascii_lowercase}
use Rattle.lexer.specs.Spelling.{Spells}
use Rattle.lexer.specs.Words.{spelling}
use Rattle.lexer.specs.declared.word.Word.{Word}
use Rattle.ada_tree.specs.Language.{Tokens}
use Rattle.remedies.specs.Closings.{closing_of, part_of}
use Rattle.remedies.specs.Doubts.{doubtful_from}
use Rattle.remedies.specs.Likeness.{like_at, name_of}
use Rattle.remedies.specs.Misspelled.{of_label, of_number}
use Rattle.remedies.specs.Misuse.{misused_at}
use Rattle.remedies.specs.Names.{name_text}
use Rattle.remedies.specs.Recognition.{construct_at, kind_at, unclosed_at}
use Rattle.remedies.specs.Remedies.{text_of}
use Rattle.remedies.specs.Strays.{of_byte}
use Rattle.remedies.specs.declared.construct.Construct.{Construct}
use Rattle.remedies.specs.declared.doubt.Doubt.{Doubt}
use Rattle.remedies.specs.declared.doubt.Doubt.TheVariants as doubts
use Rattle.remedies.specs.declared.likeness.Like.{Like}
use Rattle.remedies.specs.declared.likeness.Like.TheVariants as likes
use Rattle.remedies.specs.declared.opening.Opening.{Opening}
use Rattle.diagnostics.specs.repairs.Misspellings.{IsMisspelling}
use Rattle.diagnostics.specs.repairs.MissingTokens.{IsMissingAt, missing_text}
use Rattle.diagnostics.specs.declared.repairs.misspelling.Misspelling.{Misspelling}
use Rattle.diagnostics.specs.declared.repairs.missing.Missing.{Missing}
use Rattle.diagnostics.specs.declared.hints.hinted.Advice.{Advice}
use Rattle.diagnostics.specs.hints.Places.{after_empty, name_or_none, place_text, start_of}
use Rattle.diagnostics.specs.hints.Notes.{AreNotesAt, IsUnspelled}

abbrev pub hint_line : List ℕ → List ℕ
hint_line words = codes "hint: " ++ words ++ codes "\n"

-- what is open, and where the token begins that opened it
unfoldable pub opened_part : (text : List ℕ) → Opening → (place : ℕ) → List ℕ
opened_part text o place = part_of o.opened ++ codes " that begins at " ++ place_text text place

-- what closes it, as the end of the line
unfoldable pub closing_part : (closing : List ℕ) → List ℕ
closing_part closing = codes ", " ++ closing ++ codes "\n"

abbrev pub opening_line : (text : List ℕ) → Opening → (place : ℕ) → List ℕ
opening_line text o place = codes "open here: " ++ opened_part text o place ++ closing_part (closing_of o.opened)

abbrev pub opening_lines : (text : List ℕ) → Tokens → Option Opening → List ℕ
opening_lines text ts (Some o) = opening_line text o (start_of (slice_get ts o.before))
opening_lines text ts None = []

-- the name of the token with so many before it, and where it is
unfoldable pub declared_part : (text : List ℕ) → Tokens → ℕ → List ℕ
declared_part text ts n = name_or_none (name_of (kind_at n ts)) ++ codes " is declared at " ++ place_text text (start_of (slice_get ts n))

abbrev pub like_words : (text : List ℕ) → Tokens → Like → List ℕ
like_words text ts (likes.DeclaredLater n) = declared_part text ts n ++ codes ", after this place."
like_words text ts (likes.Declared n) = declared_part text ts n ++ codes ": a name like this one."
like_words text ts (likes.Predefined n) = name_text n ++ codes " is a name of the language, like this one."
like_words text ts (likes.Reserved w) = spelling w ++ codes " is a reserved word, like this name."

abbrev pub like_line : (text : List ℕ) → Tokens → Option Like → List ℕ
like_line text ts (Some like) = hint_line (like_words text ts like)
like_line text ts None = []

-- of a fault of a name that isn't visible it is said which name like it is declared
abbrev pub like_lines : (number place : ℕ) → (text : List ℕ) → Tokens → List ℕ
like_lines number place text ts = if nat_eq number NAME_NOT_VISIBLE then like_line text ts (like_at place ts) else []

-- where the token is with so many before it
unfoldable pub doubtful_part : (text : List ℕ) → Tokens → ℕ → List ℕ
doubtful_part text ts n = codes "hint: at " ++ place_text text (start_of (slice_get ts n))

abbrev pub doubt_line : (text : List ℕ) → Tokens → Doubt → List ℕ
doubt_line text ts (doubts.ElseIf n) =
    doubtful_part text ts n ++ codes " an `if` of its own begins after `else`, with its own `end if;`: write `elsif`\n"
doubt_line text ts (doubts.EndWord n) =
    doubtful_part text ts n ++ codes " the words of an end are one: write `end if;`, `end case;` or `end loop;`\n"

-- of why what is open may not be closed; where nothing is known, of a like name
abbrev pub doubt_lines : (number place : ℕ) → (text : List ℕ) → Tokens → Option Doubt → List ℕ
doubt_lines number place text ts (Some doubt) = doubt_line text ts doubt
doubt_lines number place text ts None = like_lines number place text ts

-- the name of the token with so many before it, and where it is
unfoldable pub misspelled_part : (text : List ℕ) → Tokens → ℕ → List ℕ
misspelled_part text ts n = name_or_none (name_of (kind_at n ts)) ++ codes " at " ++ place_text text (start_of (slice_get ts n))

unfoldable pub word_part : Word → List ℕ
word_part word = codes "write `" ++ str_to_ascii_lowercase (spelling word) ++ codes "` for "

abbrev pub misspelling_line : (text : List ℕ) → Tokens → Misspelling → List ℕ
misspelling_line text ts m = codes "hint: " ++ word_part m.word ++ misspelled_part text ts m.number ++ codes "\n"

abbrev pub missing_case : (number place : ℕ) → (text : List ℕ) → Tokens → Option Doubt → Option Missing → List ℕ
missing_case number place text ts doubt (Some missing) = hint_line (missing_text missing)
missing_case number place text ts doubt None = doubt_lines number place text ts doubt

-- of a token that is missing; where none is, of what may not be closed or a like name
abbrev pub missing_lines : (number place : ℕ) → (text : List ℕ) → Tokens → Advice → List ℕ
missing_lines number place text ts advice = missing_case number place text ts advice.doubt advice.missing

abbrev pub construct_case : (number place : ℕ) → (text : List ℕ) → Tokens → Advice → Option Construct → List ℕ
construct_case number place text ts advice (Some construct) = hint_line (text_of construct)
construct_case number place text ts advice None = missing_lines number place text ts advice

-- of the construct that is recognized at the place; where none is, of a missing token or of what comes after it
abbrev pub construct_lines : (number place : ℕ) → (text : List ℕ) → Tokens → Advice → List ℕ
construct_lines number place text ts advice = construct_case number place text ts advice advice.construct

abbrev pub advice_case : (number place : ℕ) → (text : List ℕ) → Tokens → Advice → Option Misspelling → List ℕ
advice_case number place text ts advice (Some misspelling) = misspelling_line text ts misspelling
advice_case number place text ts advice None = construct_lines number place text ts advice

-- of a misspelled word; where none is, of the construct or of what comes after it
abbrev pub advice_lines : (number place : ℕ) → (text : List ℕ) → Tokens → Advice → List ℕ
advice_lines number place text ts advice = advice_case number place text ts advice advice.misspelling

-- ---- by what a text is mended

abbrev pub or_misused : Option Construct → Option Construct → Option Construct
or_misused (Some construct) misused = Some construct
or_misused None misused = misused

abbrev pub doubt_in : Tokens → Option Opening → Option Doubt
doubt_in ts (Some o) = doubtful_from o.before ts
doubt_in ts None = None

-- where something is open, its end is what is missing
abbrev pub IsMissingWhere : Option Opening → (number place : ℕ) → Tokens → Option Missing → Type 0
IsMissingWhere (Some o) number place ts missing = missing ≡ None
IsMissingWhere None number place ts missing = IsMissingAt number place ts missing

-- of a fault of the grammar alone it is said what is open
abbrev pub opening_at : (number place : ℕ) → Tokens → Option Opening
opening_at number place ts = if nat_eq number UNEXPECTED_TOKEN then unclosed_at place ts else None

pub record IsAdvice (number place : ℕ) (ts : Tokens) (advice : Advice) : Type 0 where
  pub opening_is : advice.opening ≡ opening_at number place ts
  pub is_misspelling : IsMisspelling number place ts advice.misspelling
  pub construct_is : advice.construct ≡ or_misused (construct_at number place ts) (misused_at number place ts)
  pub doubt_is : advice.doubt ≡ doubt_in ts advice.opening
  pub is_missing : IsMissingWhere advice.opening number place ts advice.missing

-- of the byte with which a text begins
abbrev pub stray_lines : List ℕ → List ℕ
stray_lines [] = []
stray_lines (c ∷ rest) = hint_line (of_byte c)

-- of a number with which a text begins
abbrev pub number_lines : List ℕ → List ℕ
number_lines rest = hint_line (of_number rest)

-- of a label with which a text begins
abbrev pub label_lines : List ℕ → List ℕ
label_lines [] = []
label_lines (c ∷ rest) = hint_line (of_label rest)

-- the lines are those of the advice, and of what is open
pub record AreHintsOfTokens (number place : ℕ) (text : List ℕ) (tokens : Tokens) (hints : List ℕ) : Type 0 where
  pub advice : Advice
  pub is_advice : IsAdvice number place tokens advice
  pub hints_are : hints ≡ after_empty (advice_lines number place text tokens advice ++ opening_lines text tokens advice.opening)

-- these tokens spell the text
pub record HintsOfTokens (number place : ℕ) (text hints : List ℕ) : Type 0 where
  pub tokens : Tokens
  pub spells : Spells text tokens
  pub are_hints : AreHintsOfTokens number place text tokens hints

abbrev pub HintsOfTokensOrNone : (number place : ℕ) → (text hints : List ℕ) → Type 0
HintsOfTokensOrNone number place text hints = HintsOfTokens number place text hints ⊎ ((hints ≡ []) × IsUnspelled text)

-- where a label is misspelled, by the bytes from the place on, and else by the tokens
abbrev pub AreHintsOfLabel : (number place : ℕ) → (text hints : List ℕ) → Type 0
AreHintsOfLabel number place text hints =
    ((number ≡ WRONG_LABEL) × (hints ≡ after_empty (label_lines (drop place text))))
    ⊎ ((number ≢ WRONG_LABEL) × HintsOfTokensOrNone number place text hints)

abbrev pub AreHintsOfNumber : (number place : ℕ) → (text hints : List ℕ) → Type 0
AreHintsOfNumber number place text hints =
    ((number ≡ WRONG_LITERAL) × (hints ≡ after_empty (number_lines (drop place text))))
    ⊎ ((number ≢ WRONG_LITERAL) × AreHintsOfLabel number place text hints)

-- where the text's fault has this number and place
abbrev pub AreHintsOf : (number place : ℕ) → (text hints : List ℕ) → Type 0
AreHintsOf number place text hints =
    ((number ≡ STRAY_CHARACTER) × (hints ≡ after_empty (stray_lines (drop place text))))
    ⊎ ((number ≢ STRAY_CHARACTER) × AreHintsOfNumber number place text hints)

-- without a place the text has another fault, or none
abbrev pub AreHintsAt : (number : ℕ) → (place : Option ℕ) → (text hints : List ℕ) → Type 0
AreHintsAt number (Some place) text hints = AreHintsOf number place text hints
AreHintsAt number None text hints = hints ≡ []

-- the lines of both what to write instead and what is reported of the text, without the empty ones in front
pub record HasRemarks (number : ℕ) (place : Option ℕ) (text remarks : List ℕ) : Type 0 where
  pub hints : List ℕ
  pub are_hints : AreHintsAt number place text hints
  pub notes : List ℕ
  pub are_notes : AreNotesAt number place text notes
  pub remarks_are : remarks ≡ drop 1 hints ++ drop 1 notes

unfoldable pub AreRemarksAt : (number : ℕ) → (place : Option ℕ) → (text remarks : List ℕ) → Type 0
AreRemarksAt number place text remarks = HasRemarks number place text remarks
