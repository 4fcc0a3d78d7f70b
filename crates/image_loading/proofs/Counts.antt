-- Counts of a well-formed image.
use Rattle.std.proofs.Common.{◌≡◌, ◌≤◌, ℕ, ◌+◌, length, true}
use Rattle.std.proofs.lemmas.Bool.{and_parts, leb-true}
use Rattle.std.specs.Prelude.{nat_le, sum_by}
use Rattle.base.specs.declared.limits.TheConstants.{EXCEPTIONS, INSTRUCTIONS, LABELS, OBJECTS, ROWS, SUBPROGRAMS, TASKS, WORDS}
use Rattle.image.specs.RuleFacts.{facts}
use Rattle.image.specs.Rules.{IsWellFormed, is_within}
use Rattle.image.specs.Sections.{Sections}

-- counts of a well-formed image, and the words of its objects together
pub record Fits (i : Sections) : Type 0 where
  pub instructions : length i.instructions ≤ 65535
  pub subprograms : length i.subprograms ≤ 193
  pub objects : length i.objects ≤ 64
  pub tasks : length i.tasks ≤ 65
  pub exceptions : length i.exceptions ≤ 36
  pub rows : length i.rows ≤ 4096
  pub labels : length i.labels ≤ 1024
  pub words : length i.plain_words + sum_by (λ o. length o.words) i.objects ≤ 8192

upper : (least n most : ℕ) → is_within least n most ≡ true → n ≤ most
upper least n most e = leb-true n most (and_parts (nat_le least n) _ e).1

pub counts_fit : (i : Sections) → IsWellFormed i → Fits i
counts_fit i w =
    let a = and_parts (is_within 1 (length i.instructions) INSTRUCTIONS) _ (facts i w).counts in
    let b = and_parts (is_within 1 (length i.subprograms) SUBPROGRAMS) _ a.1 in
    let c = and_parts (is_within 1 (length i.tasks) TASKS) _ b.1 in
    let d = and_parts (is_within 4 (length i.exceptions) EXCEPTIONS) _ c.1 in
    let e = and_parts (nat_le (length i.objects) OBJECTS) _ d.1 in
    let f = and_parts (nat_le (length i.rows) ROWS) _ e.1 in
    let g = and_parts (nat_le (length i.labels) LABELS) _ f.1 in
    record {
      instructions = upper 1 (length i.instructions) INSTRUCTIONS a.0;
      subprograms = upper 1 (length i.subprograms) SUBPROGRAMS b.0;
      objects = leb-true (length i.objects) OBJECTS e.0;
      tasks = upper 1 (length i.tasks) TASKS c.0;
      exceptions = upper 4 (length i.exceptions) EXCEPTIONS d.0;
      rows = leb-true (length i.rows) ROWS f.0;
      labels = leb-true (length i.labels) LABELS g.0;
      words = leb-true (length i.plain_words + sum_by (λ o. length o.words) i.objects) WORDS g.1;
    }
