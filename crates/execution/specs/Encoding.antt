-- The words and frames of a run as one row of words, by which runs are compared; nobody has to believe this.
use Rattle.std.specs.Prelude.{◌≡◌, ℕ, ◌++◌, ℤ, pos, List, [], ◌∷◌, Option, Some, None, flat_map, length, take}
use Rattle.image.specs.Frames.{Frame, Inner, Opened, Role, Serving, TaskState, arguments}
use Rattle.execution.specs.Held.{HeldWorld, tasks_in}
use Rattle.execution.specs.Saving.{AreContentsOf, HeldContents}

-- whether there is a number, and which
unfoldable pub option_words : Option ℕ → List ℤ
option_words None = pos 0 ∷ []
option_words (Some n) = pos 1 ∷ pos n ∷ []

-- how many words there are, and these
unfoldable pub counted_words : List ℤ → List ℤ
counted_words words = pos (length words) ∷ words

unfoldable pub role_words : Role → List ℤ
role_words Inner = pos 0 ∷ []
role_words (Opened object) = pos 1 ∷ pos object ∷ []
role_words (Serving object caller pending) = pos 2 ∷ pos object ∷ pos caller ∷ option_words pending

unfoldable pub frame_words : Frame → List ℤ
frame_words f =
    pos f.subprogram ∷ pos f.place ∷ role_words f.role ++ counted_words f.locals ++ counted_words (arguments (length f.stack) f.stack)

-- a frame and those below it, and ahead of each whether there are any below it
unfoldable pub frames_words : Frame → List Frame → List ℤ
frames_words f [] = pos 0 ∷ frame_words f
frames_words f (below ∷ others) = pos 1 ∷ frame_words f ++ frames_words below others

unfoldable pub task_words : TaskState → List ℤ
task_words s = option_words s.raising ++ frames_words s.frame s.callers

-- the words that tasks share, and the first so many rows of frames
abbrev pub contents_words : (count : ℕ) → HeldContents → List ℤ
contents_words count c = counted_words c.words ++ flat_map task_words (tasks_in (take count c.tasks))

-- these words are those of a run
pub record AreWordsOf (h : HeldWorld) (count : ℕ) (words : List ℤ) : Type 0 where
  pub contents : HeldContents
  pub are_contents : AreContentsOf h contents
  pub are : words ≡ contents_words count contents

-- they are added to others
pub record AreAdded (h : HeldWorld) (count : ℕ) (before after : List ℤ) : Type 0 where
  pub words : List ℤ
  pub are_words : AreWordsOf h count words
  pub added : after ≡ before ++ words
