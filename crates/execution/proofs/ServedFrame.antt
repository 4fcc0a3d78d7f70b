-- The frame that serves a queued caller is the one that code makes.
use Rattle.std.proofs.Common.{◌≡◌, ℕ, ◌-◌, ℤ, pos, List, [], ◌∷◌, ◌++◌, replicate, Some, None, sym, ap, ◌∙◌}
use Rattle.std.specs.Prelude.{slice_get, slice_set}
use Rattle.image.specs.Frames.{Serving, TaskState, arguments}
use Rattle.image.specs.Operations.{called, called_if, entry_called, entry_of, parameters_of}
use Rattle.image.specs.Sections.{Sections, first_place}
use Rattle.image.specs.Steps.{serving, serving_with, taken}
use Rattle.image.specs.declared.subprograms.Subprogram.{Subprogram}
use Rattle.execution.specs.Held.{row_at, row_of}
use Rattle.execution.specs.Settling.{served_tasks, without}

module _ (i : Sections) (o number : ℕ) (s : Subprogram) (entry : entry_of (slice_get i.objects o) ≡ Some number) (is_called : called i number ≡ Some s) where
  entry_is : entry_called i o ≡ Some s
  entry_is = ap (called_if i) entry ∙ is_called

  pub taken_is : (u : TaskState) → without s.parameters u ≡ taken i o u
  taken_is u = ap (λ c. without (parameters_of c) u) (sym entry_is)

  pub served_is : (caller place : ℕ) (u t server now : TaskState) (parameters : List ℤ) →
      server ≡ t → place ≡ first_place i number → parameters ≡ arguments s.parameters u.frame.stack →
      now.frame ≡ record { subprogram = number; place = place; locals = parameters ++ replicate (s.locals - s.parameters) (pos 0); stack = []; role = Serving o caller server.raising } →
      now.callers ≡ server.frame ∷ server.callers → now.raising ≡ None → now ≡ serving i o caller u t
  served_is caller place u t server now parameters same at words frame callers raising =
      (λ j. record {
        frame =
            (frame
            ∙ (λ k. record {
              subprogram = number;
              place = at k;
              locals = words k ++ replicate (s.locals - s.parameters) (pos 0);
              stack = [];
              role = Serving o caller (same k).raising;
            })) j;
        callers = (callers ∙ ap (λ x. x.frame ∷ x.callers) same) j;
        raising = raising j;
      })
      ∙ (ap (λ c. serving_with i o caller u t (Some number) c) (sym entry_is) ∙ ap (λ n. serving_with i o caller u t n (entry_called i o)) (sym entry))

  pub served_tasks_are : (tasks : List TaskState) (t u : ℕ) (now : TaskState) → now ≡ serving i o u (row_at i tasks u) (row_at i tasks t)
      → slice_set (slice_set tasks u (without s.parameters (row_at i tasks u))) (row_of i t) now ≡ served_tasks i tasks t o u
  served_tasks_are tasks t u now is = λ k. slice_set (slice_set tasks u (taken_is (row_at i tasks u) k)) (row_of i t) (is k)
