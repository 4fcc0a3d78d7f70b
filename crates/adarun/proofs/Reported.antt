-- What is said in words of a source that is refused.
use Rattle.std.proofs.Common.{◌≡◌, ◌+◌, ◌<◌, ◌++◌, ◌∙◌, ℕ, List, [], ap, drop, get_or, length, subst, sym, take}
use Rattle.std.proofs.lemmas.List.{take_more}
use Rattle.compiler.specs.expr_rules.specs.Faults.{Faults}
use Rattle.lexer.specs.declared.fault.Fault.{Fault}
use Rattle.source_report.specs.Reports.{source_report}
use Rattle.adarun.specs.Reporting.{AddsOne, AddsRefusal, AddsRefusals}

-- the report with what is said behind it, by what was added one after the other
pub whole_report : (start file lent_file text lent_text rule lent_rule remarks lent_remarks code lent_code first second third : List ℕ) (number place : ℕ)
    → start ≡ [] → lent_file ≡ file → lent_text ≡ text → lent_rule ≡ rule → lent_remarks ≡ remarks → lent_code ≡ code
    → first ≡ start ++ source_report lent_file lent_text lent_rule number place → second ≡ first ++ lent_remarks → third ≡ second ++ drop 1 lent_code
    → third ≡ source_report file text rule number place ++ remarks ++ drop 1 code
whole_report start file lent_file text lent_text rule lent_rule remarks lent_remarks code lent_code first second third number place none same_file same_text same_rule same_remarks same_code one two three =
    three
    ∙ ap (λ x. x ++ drop 1 lent_code) (two ∙ ap (λ x. x ++ lent_remarks) (one ∙ ap (λ s. s ++ source_report lent_file lent_text lent_rule number place) none))
    ∙ (λ j. (source_report (same_file j) (same_text j) (same_rule j) number place ++ same_remarks j) ++ drop 1 (same_code j))

-- what is said of one fault more, of the text that was read
pub adds_next : (file text parsed : List ℕ) → parsed ≡ text → (all : Faults) (n : ℕ) (d : Fault) (before new : List ℕ) → n < length all
    → AddsRefusals file text [] (take n all) before → AddsRefusal file parsed (get_or all n d) before new → AddsRefusals file text [] (take (n + 1) all) new
adds_next file text parsed same all n d before new within so_far next =
    subst (λ l. AddsRefusals file text [] l new) (sym (take_more all n d within))
    (AddsOne (take n all) (get_or all n d) before new so_far (subst (λ t. AddsRefusal file t (get_or all n d) before new) same next))
