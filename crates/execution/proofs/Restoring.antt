-- What a run holds that goes on from copies, and which copies are those of a run.
use Rattle.std.proofs.Common.{◌≡◌, ℕ, zero, suc, ◌+◌, ◌-◌, ◌<◌, ℤ, List, [], ◌∷◌, drop, get_or, length, take, refl, sym, ap, subst, ◌∙◌, arith, rules}
use Rattle.std.specs.Prelude.{slice_set}
use Rattle.std.proofs.Math.Seq.{take-length}
use Rattle.std.proofs.lemmas.List.{length-drop}
use Rattle.image.specs.Sections.{Sections}
use Rattle.image_laws.specs.Room.{widest}
use Rattle.kernel.specs.State.{Interrupt}
use Rattle.processor.specs.Decoding.{HasAllWords, words_in}
use Rattle.processor.specs.Layout.{TaskRow}
use Rattle.tasking.specs.Held.{Held, kernel_of}
use Rattle.execution.specs.Held.{HeldWorld, RowsAreWide, task_at, tasks_in, world_of}
use Rattle.execution.specs.Saving.{AreContentsOf, HeldContents, world_in}

more : (n : ℕ) (xs ys : List TaskRow) (d : TaskRow) → n < length xs → n < length ys → take n xs ≡ take n ys
    → take (suc n) (slice_set xs n (get_or ys n d)) ≡ take (suc n) ys
more n [] ys d lt le e = absurd (omega (arith, lt))
more n (x ∷ xs) [] d lt le e = absurd (omega (arith, le))
more zero (x ∷ xs) (y ∷ ys) d lt le e = refl
more (suc n) (x ∷ xs) (y ∷ ys) d lt le e =
    let head : x ≡ y = search (rules, e) in
    let tail : take n xs ≡ take n ys = search (rules, e) in
    let rest = more n xs ys d (omega (arith, lt)) (omega (arith, le)) tail in
    λ j. head j ∷ rest j

-- one row more is restored
pub rows_more : (n : ℕ) (xs ys : List TaskRow) (v : TaskRow) → n < length xs → n < length ys → take n xs ≡ take n ys → v ≡ get_or ys n v
    → take (n + 1) (slice_set xs n v) ≡ take (n + 1) ys
rows_more n xs ys v lt le e is =
    let next : suc n ≡ n + 1 = omega arith in
    subst (λ k. take k (slice_set xs n v) ≡ take k ys) next (ap (λ w. take (suc n) (slice_set xs n w)) is ∙ more n xs ys v lt le e)

-- what follows the first elements is all that is left
pub rest_whole : {A : Type 0} (n : ℕ) (xs : List A) → take (length xs - n) (drop n xs) ≡ drop n xs
rest_whole n xs = subst (λ m. take m (drop n xs) ≡ drop n xs) (length-drop n xs) (take-length (drop n xs))

-- copies of the words that an image has, and of all rows
pub contents_are : (h : HeldWorld) (words used : List ℤ) (saved rows : List TaskRow) → words ≡ used → words_in h.image used ≡ words_in h.image h.memory.shared
    → HasAllWords h.image used → saved ≡ rows → tasks_in rows ≡ h.tasks → RowsAreWide (widest h.image) rows → length rows ≡ length h.image.tasks + 1
    → AreContentsOf h (record { words = words; tasks = saved })
contents_are h words used saved rows words_are same all saved_are tasks wide count = record {
  fits = record {
    all = subst (HasAllWords h.image) (sym words_are) all;
    wide = subst (RowsAreWide (widest h.image)) (sym saved_are) wide;
    count = ap length saved_are ∙ count;
  };
  words = ap (words_in h.image) words_are ∙ same;
  tasks = ap tasks_in saved_are ∙ tasks;
}

-- the world of what is restored
pub restored_world : (h : HeldWorld) (i : Sections) (c : HeldContents) (t : Held) (pending : List Interrupt) → h.image ≡ i
    → words_in i h.memory.shared ≡ words_in i c.words → h.tasks ≡ tasks_in c.tasks → h.tasking.handler ≡ t.handler
    → kernel_of h.tasking ≡ record (kernel_of t) { pending = pending } → world_of h ≡ world_in i c t pending
restored_world h i c t pending image words tasks handler kernel = λ j. record {
  kernel = kernel j;
  rest = record { memory = (ap (λ x. words_in x h.memory.shared) image ∙ words) j; tasks = task_at (image j) (handler j) (tasks j) };
}
