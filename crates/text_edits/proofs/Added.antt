-- An edit more after those of a text.
use Rattle.std.proofs.Common.{arith, ◌≡◌, ◌∙◌, ℕ, zero, suc, ◌-◌, ◌≤◌, ◌<◌, Bool, true, ◌&&◌, List, [], ◌∷◌, ◌++◌, drop, get_or, length, nat_le, slice_range, ap, refl, subst, sym}
use Rattle.std.proofs.lemmas.Bool.{and_parts, leb-true}
use Rattle.ada2012_lexer.specs.declared.token.Span.{Span}
use Rattle.text_edits.specs.Edits.{AreEditsFrom, IsWrittenFor, TextEdit, end_of, is_after, replacement_of}

pub end_last : (edits : List TextEdit) (last : TextEdit) → 1 ≤ length edits → end_of edits ≡ (get_or edits (length edits - 1) last).span.end_
end_last [] last le = absurd (omega arith)
end_last (edit ∷ []) last le = refl
end_last (edit ∷ (next ∷ edits)) last le =
    let count : length (edit ∷ (next ∷ edits)) - 1 ≡ suc (length (next ∷ edits) - 1) = omega arith in
    end_last (next ∷ edits) last (omega arith) ∙ ap (λ (n : ℕ). (get_or (edit ∷ (next ∷ edits)) n last).span.end_) (sym count)

-- an edit that fits after the last one
pub record Fits (text : List ℕ) (edit : TextEdit) : Type 0 where
  pub ends : edit.span.start ≤ edit.span.end_
  pub inside : edit.span.end_ ≤ length text
  pub lines : IsWrittenFor (slice_range text edit.span.start edit.span.end_) edit.replacement

after : (at : ℕ) (text : List ℕ) (first : TextEdit) (edits : List TextEdit) (edit : TextEdit)
    → AreEditsFrom at text (first ∷ edits) → end_of (first ∷ edits) ≤ edit.span.start → Fits text edit → AreEditsFrom at text ((first ∷ edits) ++ edit ∷ [])
after at text first [] edit are later fits = (are.0, are.1, are.2, (later, fits.ends, fits.lines, fits.inside))
after at text first (next ∷ edits) edit are later fits = (are.0, are.1, are.2, after first.span.end_ text next edits edit are.3 later fits)

pub added : (text : List ℕ) (edits : List TextEdit) (edit : TextEdit)
    → AreEditsFrom 0 text edits → end_of edits ≤ edit.span.start → Fits text edit → AreEditsFrom 0 text (edits ++ edit ∷ [])
added text [] edit are later fits = (later, fits.ends, fits.lines, fits.inside)
added text (first ∷ edits) edit are later fits = after 0 text first edits edit are later fits

-- the edits with one that is after them
pub with_one : (text : List ℕ) (edits all : List TextEdit) (span : Span) (replacement : List ℕ) (b : Bool)
    → AreEditsFrom 0 text edits → b ≡ is_after (end_of edits) (length text) span → b ≡ true
    → all ≡ edits ++ record { span = span; replacement = replacement_of (slice_range text span.start span.end_) replacement } ∷ [] → AreEditsFrom 0 text all
with_one text edits all span replacement b are test is new =
    let parts = and_parts (nat_le (end_of edits) span.start && nat_le span.start span.end_) (nat_le span.end_ (length text)) (sym test ∙ is) in
    let places = and_parts (nat_le (end_of edits) span.start) (nat_le span.start span.end_) parts.0 in
    subst (λ es. AreEditsFrom 0 text es) (sym new)
    (added text edits (record { span = span; replacement = replacement_of (slice_range text span.start span.end_) replacement }) are (leb-true _ _ places.0)
    (record { ends = leb-true _ _ places.1; inside = leb-true _ _ parts.1; lines = record { replacement = replacement; is = refl } }))

-- an edit from a place on lies in the text
pub after_inside : (at : ℕ) (text : List ℕ) (edits : List TextEdit) → AreEditsFrom at text edits → at ≤ length text
after_inside at text [] are = are
after_inside at text (edit ∷ edits) are =
    let later = after_inside edit.span.end_ text edits are.3 in
    omega (arith, later, are.0, are.1)

pub start_inside : (n at : ℕ) (text : List ℕ) (edits : List TextEdit) (edit : TextEdit)
    → n < length edits → edit ≡ get_or edits n edit → AreEditsFrom at text (drop n edits) → edit.span.start ≤ length text
start_inside zero at text [] edit less is are = absurd (omega (arith, less))
start_inside zero at text (first ∷ edits) edit less is are =
    let later = after_inside first.span.end_ text edits are.3 in
    subst (λ (e : TextEdit). e.span.start ≤ length text) (sym is) (omega (arith, later, are.1))
start_inside (suc n) at text [] edit less is are = absurd (omega (arith, less))
start_inside (suc n) at text (first ∷ edits) edit less is are = start_inside n at text edits edit (omega (arith, less)) is are
