-- Words and frames of a run that were added to others.
use Rattle.std.proofs.Common.{◌≡◌, ◌≤◌, ℕ, zero, suc, ℤ, List, [], ◌∷◌, ◌++◌, flat_map, length, map, take, refl, sym, ap, subst, ◌∙◌, arith}
use Rattle.std.proofs.lemmas.List.{append_assoc, length-reverse}
use Rattle.std.specs.Prelude.{reverse}
use Rattle.image.specs.Frames.{arguments}
use Rattle.processor.specs.Layout.{TaskRow}
use Rattle.execution.specs.Encoding.{AreAdded, contents_words, counted_words, task_words}
use Rattle.execution.specs.Held.{HeldWorld, RowsAreWide, tasks_in}
use Rattle.execution.specs.Saving.{AreContentsOf, HeldContents}

few_taken : (n : ℕ) (s : List ℤ) → length (take n s) ≤ length s
few_taken zero s = omega arith
few_taken (suc n) [] = omega arith
few_taken (suc n) (x ∷ s) = let less = few_taken n s in omega (arith, less)

pub few_arguments : (n : ℕ) (s : List ℤ) → length (arguments n s) ≤ length s
few_arguments n s = subst (λ k. k ≤ length s) (sym (length-reverse (take n s))) (few_taken n s)

pub wide_taken : (width count : ℕ) (rows : List TaskRow) → RowsAreWide width rows → RowsAreWide width (take count rows)
wide_taken width zero rows wide = tt
wide_taken width (suc count) [] wide = tt
wide_taken width (suc count) (r ∷ rows) wide = (wide.0, wide_taken width count rows wide.1)

tasks_words : (count : ℕ) (rows : List TaskRow) → flat_map (λ r. task_words r.task) (take count rows) ≡ flat_map task_words (tasks_in (take count rows))
tasks_words zero rows = refl
tasks_words (suc count) [] = refl
tasks_words (suc count) (r ∷ rows) = ap (λ l. task_words r.task ++ l) (tasks_words count rows)

pub added : (h : HeldWorld) (count : ℕ) (before middle after words : List ℤ) (rows some : List TaskRow)
    → AreContentsOf h (record { words = words; tasks = rows }) → middle ≡ before ++ counted_words words
    → after ≡ middle ++ flat_map (λ r. task_words r.task) some → some ≡ take count rows → AreAdded h count before after
added h count before middle after words rows some are first then_ taken =
    let c : HeldContents = record { words = words; tasks = rows } in
    record {
      words = contents_words count c;
      are_words = record { contents = c; are_contents = are; are = refl };
      added =
          then_
          ∙ (ap (λ l. middle ++ flat_map (λ r. task_words r.task) l) taken
          ∙ (ap (λ l. middle ++ l) (tasks_words count rows)
          ∙ (ap (λ l. l ++ flat_map task_words (tasks_in (take count rows))) first
          ∙ append_assoc before (counted_words words) (flat_map task_words (tasks_in (take count rows))))));
    }
