-- The texts of an image: names are ASCII, and each text is a name or a label.
use Rattle.std.proofs.Common.{◌≡◌, ℕ, zero, suc, ◌<◌, List, [], ◌∷◌, length, get_or, Bool, true, false, ◌&&◌, ◌||◌, not, arith, refl, ap, ◌∙◌}
use Rattle.std.proofs.lemmas.Bool.{leb-true}
use Rattle.std.proofs.lemmas.Str.Ascii.{IsAscii-cons, IsAscii-nil}
use Rattle.std.specs.List.{list_all}
use Rattle.std.specs.Prelude.{nat_eq, nat_le}
use Rattle.std.specs.Str.{IsAscii}
use Rattle.base.specs.Names.{is_digit, is_identifier, is_label, is_letter, is_name, is_rest}
use Rattle.image.specs.RuleFacts.{facts}
use Rattle.image.specs.Rules.{IsWellFormed, is_task}
use Rattle.image.specs.Sections.{Sections}
use Rattle.image.specs.declared.tasks.Task.{Task}
use Rattle.std.proofs.lemmas.Bool.{and_parts}

-- what passes for all passes for each
pub passes_here : {X : Type 0} (test : X → Bool) (xs : List X) (i : ℕ) (d : X) → list_all test xs ≡ true → i < length xs → test (get_or xs i d) ≡ true
passes_here test [] i d all lt = absurd (omega (arith, lt))
passes_here test (x ∷ xs) zero d all lt = (and_parts (test x) _ all).0
passes_here test (x ∷ xs) (suc i) d all lt = passes_here test xs i d (and_parts (test x) _ all).1 (omega (arith, lt))

one_of : (P : Type 0) (a b : Bool) → (a ≡ true → P) → (b ≡ true → P) → (a || b) ≡ true → P
one_of P true b p q e = p refl
one_of P false b p q e = q e

letter_low : (c : ℕ) → is_letter c ≡ true → c < 128
letter_low c e = let le = leb-true c 90 (and_parts (nat_le 65 c) _ e).1 in omega (arith, le)

digit_low : (c : ℕ) → is_digit c ≡ true → c < 128
digit_low c e = let le = leb-true c 57 (and_parts (nat_le 48 c) _ e).1 in omega (arith, le)

underline_low : (c : ℕ) → nat_eq c 95 ≡ true → c < 128
underline_low c e = grind (arith, e)

rest_ascii : (cs : List ℕ) → is_rest cs ≡ true → IsAscii cs
rest_ascii [] e = IsAscii-nil
rest_ascii (c ∷ []) e = IsAscii-cons c [] (one_of (c < 128) (is_letter c) (is_digit c) (letter_low c) (digit_low c) e) IsAscii-nil
rest_ascii (c ∷ d ∷ cs) e =
    let a = and_parts (is_letter c || is_digit c || (nat_eq c 95 && not (nat_eq d 95))) (is_rest (d ∷ cs)) e in
    IsAscii-cons c (d ∷ cs)
    (one_of (c < 128) (is_letter c || is_digit c) (nat_eq c 95 && not (nat_eq d 95)) (one_of (c < 128) (is_letter c) (is_digit c) (letter_low c) (digit_low c)) (λ u. underline_low c (and_parts (nat_eq c 95) _ u).0) a.0)
    (rest_ascii (d ∷ cs) a.1)

identifier_ascii : (name : List ℕ) → is_identifier name ≡ true → IsAscii name
identifier_ascii [] e = IsAscii-nil
identifier_ascii (c ∷ cs) e = let a = and_parts (is_letter c) _ e in IsAscii-cons c cs (letter_low c a.0) (rest_ascii cs a.1)

pub name_ascii : (name : List ℕ) → is_name name ≡ true → IsAscii name
name_ascii name e = identifier_ascii name (and_parts (is_identifier name) _ e).0

-- the texts of a well-formed image
pub record HasTexts (i : Sections) : Type 0 where
  pub exceptions : list_all is_name i.exceptions ≡ true
  pub labels : list_all is_label i.labels ≡ true
  pub tasks : list_all (λ t. is_name t.name) i.tasks ≡ true

named_tasks : (i : Sections) (tasks : List Task) → list_all (is_task i) tasks ≡ true → list_all (λ t. is_name t.name) tasks ≡ true
named_tasks i [] all = refl
named_tasks i (t ∷ tasks) all =
    let a = and_parts (is_task i t) _ all in
    ap (λ b. b && list_all (λ t. is_name t.name) tasks) (and_parts (is_name t.name) _ a.0).0 ∙ named_tasks i tasks a.1

pub texts_right : (i : Sections) → IsWellFormed i → HasTexts i
texts_right i w = let f = facts i w in record { exceptions = f.names; labels = f.labels; tasks = named_tasks i i.tasks f.tasks }
