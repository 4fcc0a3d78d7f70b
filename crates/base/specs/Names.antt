-- Names and labels in upper case, and the names of the predefined exceptions (RM 2.3, 2.9, 11.1).
use Rattle.std.specs.Prelude.{ℕ, List, [], ◌∷◌, length, Bool, true, false, ◌&&◌, ◌||◌, not, nat_eq, nat_le, bytes_eq}
use Rattle.std.specs.List.{list_all, list_any}
use Rattle.base.specs.Exceptions.{name_of}
use Rattle.base.specs.declared.exceptions.PredefinedException.TheVariants.{ConstraintError, ProgramError, StorageError, TaskingError}
use Rattle.base.specs.declared.limits.TheConstants.{LABEL_LIMIT, NAME_LIMIT}
use Rattle.base.specs.declared.names.TheConstants.{RESERVED_WORDS}

abbrev pub is_letter : ℕ → Bool
is_letter c = nat_le 65 c && nat_le c 90

abbrev pub is_digit : ℕ → Bool
is_digit c = nat_le 48 c && nat_le c 57

-- what may follow the first letter: letters, digits, and underlines that a letter or digit follows
abbrev pub is_rest : List ℕ → Bool
is_rest [] = true
is_rest (c ∷ []) = is_letter c || is_digit c
is_rest (c ∷ d ∷ cs) = (is_letter c || is_digit c || (nat_eq c 95 && not (nat_eq d 95))) && is_rest (d ∷ cs)

-- an identifier in upper case
abbrev pub is_identifier : List ℕ → Bool
is_identifier [] = false
is_identifier (c ∷ cs) = is_letter c && is_rest cs

-- a reserved word, in upper case
abbrev pub is_reserved : List ℕ → Bool
is_reserved name = list_any (λ word. bytes_eq word.now name) RESERVED_WORDS

-- a name: an identifier in upper case of 1 to 40 characters that is no reserved word
abbrev pub is_name : List ℕ → Bool
is_name name = is_identifier name && (nat_le (length name) NAME_LIMIT && not (is_reserved name))

abbrev pub is_label_character : ℕ → Bool
is_label_character c = nat_le 33 c && (nat_le c 126 && not (nat_eq c 34))

-- a label: 1 to 40 characters from 33 to 126, no quotation mark among them
abbrev pub is_label : List ℕ → Bool
is_label label = nat_le 1 (length label) && (nat_le (length label) LABEL_LIMIT && list_all is_label_character label)

-- the names of the predefined exceptions, in the order of their numbers from 1
abbrev pub predefined : List (List ℕ)
predefined = name_of ConstraintError ∷ name_of ProgramError ∷ name_of StorageError ∷ name_of TaskingError ∷ []
