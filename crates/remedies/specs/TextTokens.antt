-- What is kept beside the tokens of a text: which of them a word or a colon declares, as what each fault looks up.
use Rattle.std.specs.Prelude.{◌≡◌, ⊤, ℕ, zero, suc, ◌≤◌, ◌&&◌, ◌||◌, Bool, true, false, List, [], ◌∷◌, ◌++◌, length, if◌then◌else◌, nat_eq, nat_le, Option, Some, None}
use Rattle.lexer.specs.declared.token.Token.{Token}
use Rattle.remedies.specs.declared.text_tokens.DeclaredBy.{DeclaredBy}
use Rattle.remedies.specs.declared.text_tokens.DeclaredBy.TheVariants as ways
use Rattle.remedies.specs.Likeness.{introduces, is_colon, is_near, is_same, kind_before, name_of}
use Rattle.remedies.specs.Recognition.{kind_at}

-- the tokens begin one after another, and none before this place
abbrev pub BeginFrom : ℕ → List Token → Type 0
BeginFrom place [] = ⊤
BeginFrom place (t ∷ ts) = (place ≤ t.start) × BeginFrom (suc t.start) ts

-- the token that begins at a place, if one does
abbrev pub token_at : (place : ℕ) → List Token → Option Token
token_at place [] = None
token_at place (t ∷ ts) = if nat_eq t.start place then Some t else token_at place ts

-- the token, if it begins at the place
abbrev pub if_begins_at : (place : ℕ) → Option Token → Option Token
if_begins_at place (Some t) = if nat_eq t.start place then Some t else None
if_begins_at place None = None

-- the number if it is kept, else none
abbrev pub number_if : Bool → ℕ → List ℕ
number_if true n = n ∷ []
number_if false n = []

-- of so many numbers from this one on, those that pass the test
abbrev pub numbers_where : (ℕ → Bool) → (from count : ℕ) → List ℕ
numbers_where test from zero = []
numbers_where test from (suc n) = number_if (test from) from ++ numbers_where test (suc from) n

-- a word that introduces a name is before the token with so many before it, a colon is after it, or one of both
abbrev pub is_declared_by : DeclaredBy → List Token → ℕ → Bool
is_declared_by ways.Word ts n = introduces (kind_before n ts)
is_declared_by ways.Colon ts n = is_colon (kind_at (suc n) ts)
is_declared_by ways.Either ts n = introduces (kind_before n ts) || is_colon (kind_at (suc n) ts)

-- the tokens that are declared in this way, each by how many are before it
abbrev pub all_declared_by : DeclaredBy → List Token → List ℕ
all_declared_by way ts = numbers_where (is_declared_by way ts) 0 (length ts)

-- the token with so many before it is this name, and not one of the first `from`
abbrev pub is_name_from : List ℕ → List Token → (from : ℕ) → ℕ → Bool
is_name_from name ts from n = nat_le from n && is_same name (name_of (kind_at n ts))

-- the token with so many before it is a name like this one
abbrev pub is_near_name : List ℕ → List Token → ℕ → Bool
is_near_name name ts n = is_near name (name_of (kind_at n ts))

-- of the tokens of a text, which begin one after another, the lists have those that a word declares, a colon, and either
pub record AreTablesOf (ts : List Token) (by_word by_colon by_either : List ℕ) : Type 0 where
  pub in_order : BeginFrom 0 ts
  pub words_are : by_word ≡ all_declared_by ways.Word ts
  pub colons_are : by_colon ≡ all_declared_by ways.Colon ts
  pub either_are : by_either ≡ all_declared_by ways.Either ts
