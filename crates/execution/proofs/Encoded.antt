-- Equal words are those of equal tasks and of equal shared words.
use Rattle.std.proofs.Common.{◌≡◌, ℕ, zero, suc, ℤ, pos, List, [], ◌∷◌, ◌++◌, Option, Some, None, flat_map, length, map, take, refl, sym, ap, ◌∙◌, arith, rules}
use Rattle.std.proofs.lemmas.List.{append_assoc, reverse-reverse, take_all}
use Rattle.std.specs.Prelude.{reverse}
use Rattle.image.specs.Frames.{Frame, Inner, Opened, Role, Serving, TaskState, arguments}
use Rattle.execution.specs.Encoding.{contents_words, counted_words, frame_words, frames_words, option_words, role_words, task_words}
use Rattle.execution.specs.Held.{tasks_in}
use Rattle.execution.specs.Saving.{HeldContents}

-- what is ahead of other words is known by them
abbrev pub IsReadFrom : {A : Type 0} → (A → List ℤ) → Type 0
IsReadFrom {A = A} f = (x y : A) (r s : List ℤ) → f x ++ r ≡ f y ++ s → (x ≡ y) × (r ≡ s)

first_same : (x y : ℤ) (r s : List ℤ) → x ∷ r ≡ y ∷ s → (x ≡ y) × (r ≡ s)
first_same x y r s e = (search (rules, e), search (rules, e))

number_same : (m n : ℕ) (r s : List ℤ) → pos m ∷ r ≡ pos n ∷ s → (m ≡ n) × (r ≡ s)
number_same m n r s e = (search (rules, e), search (rules, e))

-- words ahead of others, where there are as many
pub ahead_same : (xs ys r s : List ℤ) → length xs ≡ length ys → xs ++ r ≡ ys ++ s → (xs ≡ ys) × (r ≡ s)
ahead_same [] [] r s many e = (refl, e)
ahead_same [] (y ∷ ys) r s many e = absurd (omega (arith, many))
ahead_same (x ∷ xs) [] r s many e = absurd (omega (arith, many))
ahead_same (x ∷ xs) (y ∷ ys) r s many e =
    let first = first_same x y (xs ++ r) (ys ++ s) e in
    let rest = ahead_same xs ys r s (omega (arith, many)) first.1 in (λ j. first.0 j ∷ rest.0 j, rest.1)

pub option_read : IsReadFrom option_words
unfolding option_words
option_read None None r s e = (refl, search (rules, e))
option_read None (Some n) r s e = let zero_one = (number_same 0 1 r (pos n ∷ s) e).0 in absurd (omega (arith, zero_one))
option_read (Some m) None r s e = let one_zero = (number_same 1 0 (pos m ∷ r) s e).0 in absurd (omega (arith, one_zero))
option_read (Some m) (Some n) r s e =
    let same = number_same m n r s (number_same 1 1 (pos m ∷ r) (pos n ∷ s) e).1 in (ap Some same.0, same.1)

pub counted_read : IsReadFrom counted_words
unfolding counted_words
counted_read xs ys r s e =
    let many = number_same (length xs) (length ys) (xs ++ r) (ys ++ s) e in ahead_same xs ys r s many.0 many.1

role_read : IsReadFrom role_words
unfolding role_words
role_read Inner Inner r s e = (refl, search (rules, e))
role_read Inner (Opened o) r s e = let differ = (number_same 0 1 r (pos o ∷ s) e).0 in absurd (omega (arith, differ))
role_read Inner (Serving o c x) r s e = let differ = (number_same 0 2 r (pos o ∷ pos c ∷ option_words x ++ s) e).0 in absurd (omega (arith, differ))
role_read (Opened o) Inner r s e = let differ = (number_same 1 0 (pos o ∷ r) s e).0 in absurd (omega (arith, differ))
role_read (Opened o) (Opened p) r s e =
    let same = number_same o p r s (number_same 1 1 (pos o ∷ r) (pos p ∷ s) e).1 in (ap Opened same.0, same.1)
role_read (Opened o) (Serving p c x) r s e = let differ = (number_same 1 2 (pos o ∷ r) (pos p ∷ pos c ∷ option_words x ++ s) e).0 in absurd (omega (arith, differ))
role_read (Serving o c x) Inner r s e = let differ = (number_same 2 0 (pos o ∷ pos c ∷ option_words x ++ r) s e).0 in absurd (omega (arith, differ))
role_read (Serving o c x) (Opened p) r s e = let differ = (number_same 2 1 (pos o ∷ pos c ∷ option_words x ++ r) (pos p ∷ s) e).0 in absurd (omega (arith, differ))
role_read (Serving o c x) (Serving p d y) r s e =
    let kind = number_same 2 2 (pos o ∷ pos c ∷ option_words x ++ r) (pos p ∷ pos d ∷ option_words y ++ s) e in
    let object = number_same o p (pos c ∷ option_words x ++ r) (pos d ∷ option_words y ++ s) kind.1 in
    let caller = number_same c d (option_words x ++ r) (option_words y ++ s) object.1 in
    let pending = option_read x y r s caller.1 in (λ j. Serving (object.0 j) (caller.0 j) (pending.0 j), pending.1)

-- two parts one after the other
both_ahead : (a b r : List ℤ) (c : List ℤ) → ((a ++ b) ++ c) ++ r ≡ a ++ (b ++ (c ++ r))
both_ahead a b r c = append_assoc (a ++ b) c r ∙ append_assoc a b (c ++ r)

-- the words of a stack
stack_same : (s t : List ℤ) → arguments (length s) s ≡ arguments (length t) t → s ≡ t
stack_same s t e =
    let own : reverse s ≡ reverse t = ap reverse (sym (take_all (length s) s (omega arith))) ∙ (e ∙ ap reverse (take_all (length t) t (omega arith))) in
    sym (reverse-reverse s) ∙ (ap reverse own ∙ reverse-reverse t)

frame_read : IsReadFrom frame_words
unfolding frame_words
frame_read f g r s e =
    let fs = arguments (length f.stack) f.stack in
    let gs = arguments (length g.stack) g.stack in
    let f_rest = role_words f.role ++ counted_words f.locals ++ counted_words fs in
    let g_rest = role_words g.role ++ counted_words g.locals ++ counted_words gs in
    let subprogram = number_same f.subprogram g.subprogram (pos f.place ∷ f_rest ++ r) (pos g.place ∷ g_rest ++ s) e in
    let place = number_same f.place g.place (f_rest ++ r) (g_rest ++ s) subprogram.1 in
    let rest =
    sym (both_ahead (role_words f.role) (counted_words f.locals) r (counted_words fs))
    ∙ (place.1 ∙ both_ahead (role_words g.role) (counted_words g.locals) s (counted_words gs)) in
    let role = role_read f.role g.role (counted_words f.locals ++ (counted_words fs ++ r)) (counted_words g.locals ++ (counted_words gs ++ s)) rest in
    let locals = counted_read f.locals g.locals (counted_words fs ++ r) (counted_words gs ++ s) role.1 in
    let stack = counted_read fs gs r s locals.1 in
    let same = stack_same f.stack g.stack stack.0 in (
      λ j. record { subprogram = subprogram.0 j; place = place.0 j; locals = locals.0 j; stack = same j; role = role.0 j },
      stack.1,
    )

frames_read : (f g : Frame) (fs gs : List Frame) (r s : List ℤ) → frames_words f fs ++ r ≡ frames_words g gs ++ s → (f ≡ g) × (fs ≡ gs) × (r ≡ s)
unfolding frames_words
frames_read f g [] [] r s e =
    let same = frame_read f g r s (number_same 0 0 (frame_words f ++ r) (frame_words g ++ s) e).1 in (same.0, refl, same.1)
frames_read f g [] (b ∷ bs) r s e = let differ = (number_same 0 1 (frame_words f ++ r) ((frame_words g ++ frames_words b bs) ++ s) e).0 in absurd (omega (arith, differ))
frames_read f g (a ∷ es) [] r s e = let differ = (number_same 1 0 ((frame_words f ++ frames_words a es) ++ r) (frame_words g ++ s) e).0 in absurd (omega (arith, differ))
frames_read f g (a ∷ es) (b ∷ bs) r s e =
    let more = number_same 1 1 ((frame_words f ++ frames_words a es) ++ r) ((frame_words g ++ frames_words b bs) ++ s) e in
    let rest = sym (append_assoc (frame_words f) (frames_words a es) r) ∙ (more.1 ∙ append_assoc (frame_words g) (frames_words b bs) s) in
    let own = frame_read f g (frames_words a es ++ r) (frames_words b bs ++ s) rest in
    let below = frames_read a b es bs r s own.1 in (own.0, (λ j. below.0 j ∷ below.1 j), below.2)

pub task_read : IsReadFrom task_words
unfolding task_words
task_read x y r s e =
    let rest =
    sym (append_assoc (option_words x.raising) (frames_words x.frame x.callers) r) ∙ (e ∙ append_assoc (option_words y.raising) (frames_words y.frame y.callers) s) in
    let raising = option_read x.raising y.raising (frames_words x.frame x.callers ++ r) (frames_words y.frame y.callers ++ s) rest in
    let frames = frames_read x.frame y.frame x.callers y.callers r s raising.1 in (
      λ j. record { frame = frames.0 j; callers = frames.1 j; raising = raising.0 j },
      frames.2,
    )

-- as many of a kind, one after the other
pub each_read : {A : Type 0} (f : A → List ℤ) → IsReadFrom f → (xs ys : List A) (r s : List ℤ) → length xs ≡ length ys → flat_map f xs ++ r ≡ flat_map f ys ++ s
    → (xs ≡ ys) × (r ≡ s)
each_read f is [] [] r s many e = (refl, e)
each_read f is [] (y ∷ ys) r s many e = absurd (omega (arith, many))
each_read f is (x ∷ xs) [] r s many e = absurd (omega (arith, many))
each_read f is (x ∷ xs) (y ∷ ys) r s many e =
    let rest = sym (append_assoc (f x) (flat_map f xs) r) ∙ (e ∙ append_assoc (f y) (flat_map f ys) s) in
    let first = is x y (flat_map f xs ++ r) (flat_map f ys ++ s) rest in
    let others = each_read f is xs ys r s (omega (arith, many)) first.1 in (λ j. first.0 j ∷ others.0 j, others.1)

-- so many rows of two runs
pub contents_read : (count : ℕ) (c d : HeldContents) (r s : List ℤ) → length (tasks_in (take count c.tasks)) ≡ length (tasks_in (take count d.tasks))
    → contents_words count c ++ r ≡ contents_words count d ++ s
    → (c.words ≡ d.words) × (tasks_in (take count c.tasks) ≡ tasks_in (take count d.tasks)) × (r ≡ s)
contents_read count c d r s many e =
    let xs = tasks_in (take count c.tasks) in
    let ys = tasks_in (take count d.tasks) in
    let rest =
    sym (append_assoc (counted_words c.words) (flat_map task_words xs) r) ∙ (e ∙ append_assoc (counted_words d.words) (flat_map task_words ys) s) in
    let words = counted_read c.words d.words (flat_map task_words xs ++ r) (flat_map task_words ys ++ s) rest in
    let tasks = each_read task_words task_read xs ys r s many words.1 in (words.0, tasks.0, tasks.1)
