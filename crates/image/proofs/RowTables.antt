-- The handler rows of a well-formed image are those of a sound table.
use Rattle.std.proofs.Common.{◌≡◌, ℕ, suc, ◌+◌, ◌-◌, List, [], ◌∷◌, length, Bool, true, cond, not, ◌&&◌, Option, Some, None, nat_lt, refl, sym, ap, ◌∙◌}
use Rattle.std.proofs.lemmas.Bool.{and_parts}
use Rattle.std.specs.List.{list_all, position_or_len}
use Rattle.handlers.specs.declared.rows.Row.{Row}
use Rattle.handlers.specs.Handlers.{are_same, are_within_one, is_within_one, subprogram_at}
use Rattle.handlers.specs.Nesting as nesting
use Rattle.handlers.specs.Nesting.{are_sound}
use Rattle.image.specs.Sections.{Sections, ends_of, holder_number}
use Rattle.image.specs.Rules.{IsWellFormed, all_nested, covers_places, is_row_within, same_number}
use Rattle.image.specs.RuleFacts.{facts}
use Rattle.image.specs.Faults.{memory_fault}
use Rattle.image.specs.declared.fault.ImageFault.{ImageFault}
use Rattle.handlers.specs.declared.rows.TableFault.{TableFault}
use Rattle.image.specs.declared.subprograms.Subprogram.{Subprogram}

holder_place : (subprograms : List Subprogram) (p : ℕ) → position_or_len (λ s. nat_lt p s.end_) subprograms ≡ position_or_len (λ e. nat_lt p e) (ends_of subprograms)
holder_place [] p = refl
holder_place (s ∷ subprograms) p = ap (λ n. cond (not (nat_lt p s.end_)) (1 + n) 0) (holder_place subprograms p)

as_long : (subprograms : List Subprogram) → length subprograms ≡ length (ends_of subprograms)
as_long [] = refl
as_long (s ∷ subprograms) = ap suc (as_long subprograms)

-- the holder of a place is told by the ends alone
pub holder_by_ends : (subprograms : List Subprogram) (p : ℕ) → holder_number subprograms p ≡ subprogram_at (ends_of subprograms) p
holder_by_ends subprograms p = λ j. cond (nat_lt (holder_place subprograms p j) (as_long subprograms j)) (Some (holder_place subprograms p j)) None

same_by : (a b : Option ℕ) → same_number a b ≡ are_same a b
same_by None None = refl
same_by None (Some n) = refl
same_by (Some m) None = refl
same_by (Some m) (Some n) = refl

share_by_ends : (subprograms : List Subprogram) (p q : ℕ) → same_number (holder_number subprograms p) (holder_number subprograms q) ≡ are_same (subprogram_at (ends_of subprograms) p) (subprogram_at (ends_of subprograms) q)
share_by_ends subprograms p q = same_by (holder_number subprograms p) (holder_number subprograms q) ∙ (λ j. are_same (holder_by_ends subprograms p j) (holder_by_ends subprograms q j))

-- what a row needs by itself is what the table asks of it
pub within_one : (i : Sections) (r : Row) → (covers_places r && is_row_within i r) ≡ is_within_one (ends_of i.subprograms) r
within_one i r = λ j. nat_lt r.start r.end_ && (share_by_ends i.subprograms r.start (r.end_ - 1) j && share_by_ends i.subprograms r.start r.target j)

all_by_both : {X : Type 0} (p q test : X → Bool) → ((x : X) → (p x && q x) ≡ test x) → (xs : List X) → list_all p xs ≡ true → list_all q xs ≡ true → list_all test xs ≡ true
all_by_both p q test is [] all more = refl
all_by_both p q test is (x ∷ xs) all more =
    let a = and_parts (p x) _ all in
    let b = and_parts (q x) _ more in
    let here : test x ≡ true = sym (is x) ∙ (ap (λ v. v && q x) a.0 ∙ b.0) in
    ap (λ v. v && list_all test xs) here ∙ all_by_both p q test is xs a.1 b.1

pub rows_within_one : (i : Sections) → IsWellFormed i → are_within_one (ends_of i.subprograms) i.rows ≡ true
rows_within_one i w = let f = facts i w in all_by_both covers_places (is_row_within i) (is_within_one (ends_of i.subprograms)) (within_one i) i.rows f.covers f.rows

pub rows_sound : (i : Sections) → IsWellFormed i → are_sound (ends_of i.subprograms) i.rows ≡ true
rows_sound i w = ap (λ b. b && all_nested i.rows) (rows_within_one i w) ∙ (facts i w).nested

-- so no table of its rows is refused but for want of memory
pub refused_for_memory : (f : ImageFault) (t : TableFault) → f ≡ record { number = t.number; byte = 0 } → t ≡ nesting.memory_fault → f ≡ memory_fault
refused_for_memory f t e h = e ∙ (λ j. record { number = (h j).number; byte = 0 })
