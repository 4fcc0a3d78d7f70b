-- Rows that hold the same tasks, one after the other.
use Rattle.std.proofs.Common.{◌≡◌, ℕ, zero, suc, ◌+◌, ◌<◌, List, [], ◌∷◌, ◌||◌, None, Bool, true, false, cond, get_or, length, take, refl, sym, ap, subst, ◌∙◌, arith, rules}
use Rattle.std.specs.Prelude.{nat_lt}
use Rattle.image.specs.Code.{initial_state}
use Rattle.image.specs.Frames.{TaskState}
use Rattle.processor.specs.Layout.{TaskRow}
use Rattle.execution.specs.Held.{HeldWorld, task_at, tasks_in, tasks_of}

tasks_suc : (n : ℕ) (xs ys : List TaskRow) (d e : TaskRow) → tasks_in (take n xs) ≡ tasks_in (take n ys) → (get_or xs n d).task ≡ (get_or ys n e).task
    → n < length xs → n < length ys → tasks_in (take (suc n) xs) ≡ tasks_in (take (suc n) ys)
tasks_suc n [] ys d e same here lx ly = absurd (omega (arith, lx))
tasks_suc n (x ∷ xs) [] d e same here lx ly = absurd (omega (arith, ly))
tasks_suc zero (x ∷ xs) (y ∷ ys) d e same here lx ly = ap (λ t. t ∷ []) here
tasks_suc (suc n) (x ∷ xs) (y ∷ ys) d e same here lx ly =
    λ j. get_or (same j) 0 (x.task) ∷ tasks_suc n xs ys d e (tail_same same) here (omega (arith, lx)) (omega (arith, ly)) j
  where
    tail_same : tasks_in (take (suc n) (x ∷ xs)) ≡ tasks_in (take (suc n) (y ∷ ys)) → tasks_in (take n xs) ≡ tasks_in (take n ys)
    tail_same h = ap tail h
      where
        tail : List TaskState → List TaskState
        tail [] = []
        tail (t ∷ ts) = ts

pub tasks_more : (n : ℕ) (xs ys : List TaskRow) (d e : TaskRow) → tasks_in (take n xs) ≡ tasks_in (take n ys) → (get_or xs n d).task ≡ (get_or ys n e).task
    → n < length xs → n < length ys → tasks_in (take (n + 1) xs) ≡ tasks_in (take (n + 1) ys)
tasks_more n xs ys d e same here lx ly =
    let p : suc n ≡ n + 1 = omega arith in subst (λ m. tasks_in (take m xs) ≡ tasks_in (take m ys)) p (tasks_suc n xs ys d e same here lx ly)

pub tasks_take : (n : ℕ) (xs : List TaskRow) → tasks_in (take n xs) ≡ take n (tasks_in xs)
tasks_take zero xs = refl
tasks_take (suc n) [] = refl
tasks_take (suc n) (x ∷ xs) = ap (λ l. x.task ∷ l) (tasks_take n xs)

get_taken : (n t : ℕ) (xs : List TaskState) (d : TaskState) → t < n → get_or (take n xs) t d ≡ get_or xs t d
get_taken zero t xs d h = absurd (omega (arith, h))
get_taken (suc n) t [] d h = refl
get_taken (suc n) zero (x ∷ xs) d h = refl
get_taken (suc n) (suc t) (x ∷ xs) d h = get_taken n t xs d (omega (arith, h))

pub same_tasks : (g h : HeldWorld) → g.image ≡ h.image → g.tasking.handler ≡ h.tasking.handler → g.tasks ≡ h.tasks → (t : ℕ) → tasks_of g t ≡ tasks_of h t
same_tasks g h image handler tasks t = λ j. task_at (image j) (handler j) (tasks j) t

-- where no handler runs, the rows of the tasks alone count
pub idle_tasks : (g h : HeldWorld) → g.image ≡ h.image → g.tasking.handler ≡ None → h.tasking.handler ≡ None
    → take (length g.image.tasks) g.tasks ≡ take (length h.image.tasks) h.tasks → (t : ℕ) → tasks_of g t ≡ tasks_of h t
idle_tasks g h image on_g on_h tasks t =
    ap (λ a. task_at g.image a g.tasks t) on_g
    ∙ (by (nat_lt t n) refl
    ∙ ((λ j. task_at (image j) None h.tasks t) ∙ ap (λ a. task_at h.image a h.tasks t) (sym on_h)))
  where
    n : ℕ
    n = length g.image.tasks

    same : take n g.tasks ≡ take n h.tasks
    same = tasks ∙ ap (λ i. take (length i.tasks) h.tasks) (sym image)

    d : TaskState
    d = initial_state g.image t

    by : (b : Bool) → nat_lt t n ≡ b → cond (b || false) (get_or g.tasks (cond b t n) d) d ≡ cond (b || false) (get_or h.tasks (cond b t n) d) d
    by true e =
        let less : t < n = search (rules, e) in
        sym (get_taken n t g.tasks d less) ∙ (ap (λ l. get_or l t d) same ∙ get_taken n t h.tasks d less)
    by false e = refl
