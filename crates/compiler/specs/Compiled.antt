-- How many instructions and rows of handlers the image of an accepted program has at most, and how many steps its frames take, by its text; and when none is
-- made.
use Rattle.std.specs.Prelude.{◌≡◌, ◌<◌, ◌≤◌, ◌+◌, ◌*◌, ◌&&◌, ℕ, suc, Bool, List, length, None, Some, false, nat_le, slice_get, ⊤}
use Rattle.std.specs.List.{filter}
use Rattle.lexer.specs.declared.token.Token.{Token}
use Rattle.ada_tree.specs.ProgramGrammar.{program}
use Rattle.ada_tree.specs.ProgramTree.{ProgramTree}
use Rattle.image_laws.specs.handlers.specs.declared.rows.Row.{Row}
use Rattle.image.specs.Frames.{TaskState}
use Rattle.image.specs.Operations.{called}
use Rattle.image.specs.Rules.{IsWellFormed, is_task_body}
use Rattle.image.specs.Sections.{Sections, end_of, first_place}
use Rattle.image.specs.declared.subprograms.Subprogram.{Subprogram}
use Rattle.legality.specs.ProgramRules.{IsLegal}
use Rattle.ravenscar.specs.ProgramRules.{IsRestricted}
use Rattle.meaning.specs.SameMeaning.{KeepsCount}
use Rattle.expr_code.specs.Coming.{size_of}
use Rattle.expr_code.specs.declared.refusal.Refusal.{Refusal}
use Rattle.expr_code.specs.declared.refusal.Refusal.TheVariants as refusal
use Rattle.package_code.specs.Bodies.{Coded, bodies_of}
use Rattle.package_code.specs.Counts.{bound_of, instructions_bound}
use Rattle.package_code.specs.Program.{HasProgram}
use Rattle.source_laws.specs.Counted.{HasOwnTokens, words_at}
use Rattle.source_laws.specs.Limits.{MayPassLimits}

-- The subprogram of this number has the code of a body of the text that may be called: of a subprogram, an operation or an entry, and of no task. It has at
-- most as many instructions as this tells.
pub record IsOfCallable (tree : ProgramTree) (image : Sections) (number : ℕ) : Type 0 where
  pub body : Coded
  pub there : slice_get (bodies_of tree) number ≡ Some body
  pub callable : is_task_body body.kind ≡ false
  pub few : size_of image number ≤ bound_of body

-- Each subprogram has at most as many instructions as its text tells: 20 for each part of it, and two for each word of an object that is declared in it. One
-- that may be called is that of a body of the text that may be.
pub record IsBounded (tree : ProgramTree) (image : Sections) : Type 0 where
  pub each : (number : ℕ) → size_of image number ≤ instructions_bound tree number
  pub callable : (number : ℕ) (s : Subprogram) → called image number ≡ Some s → is_task_body s.kind ≡ false → IsOfCallable tree image number

-- ---- by the tokens of each subprogram

-- the rows of handlers whose places lie in the code of the subprogram with this number
abbrev pub lies_in_code : Sections → (number : ℕ) → Row → Bool
lies_in_code image number q = nat_le (first_place image number) q.start && nat_le q.end_ (end_of (called image number))

abbrev pub rows_in_code : Sections → (number : ℕ) → List Row
rows_in_code image number = filter (λ q. lies_in_code image number q) image.rows

-- 40 for each token of the subprogram that the task runs, and 16 for each word of its formals and objects
abbrev pub steps_by_tokens : ProgramTree → (own : ℕ → List Token) → TaskState → ℕ
steps_by_tokens tree own s = 40 * length (own s.frame.subprogram) + 16 * words_at tree s.frame.subprogram

-- Where these tokens spell the program, each subprogram of the image has tokens of its own: those of a body that has code, which for an operation or an entry
-- are not those of its whole object, and for the last subprogram those of main. For each of them it has at most 20 instructions, and two for each word of its
-- formals and objects, and at most one row of handlers; and of the steps of code for one step of the program, or for one call of a function within it, each of
-- its frames takes at most 40, and 16 for each of these words.
pub record IsWithinTokens (tree : ProgramTree) (tokens : List Token) (image : Sections) : Type 0 where
  pub many : length image.subprograms ≡ suc (length (bodies_of tree))
  pub own : (number : ℕ) → List Token
  pub spelled : (number : ℕ) → number < length image.subprograms → HasOwnTokens None tree tokens number (own number)
  pub instructions : (number : ℕ) → number < length image.subprograms → size_of image number ≤ 20 * length (own number) + 2 * words_at tree number
  pub rows : (number : ℕ) → number < length image.subprograms → length (rows_in_code image number) ≤ length (own number)
  pub steps : KeepsCount tree image (steps_by_tokens tree own)

-- whichever tokens spell the program, its image is within them
abbrev pub KeepsTokenCounts : ProgramTree → Sections → Type 0
KeepsTokenCounts tree image = (tokens : List Token) → program None tree tokens → IsWithinTokens tree tokens image

-- the contract of a public function
abbrev pub SectionsKeepTokenCounts : Type 0
SectionsKeepTokenCounts = (t : ProgramTree) (i : Sections) → IsLegal t → IsRestricted t → IsWellFormed i → HasProgram t i → KeepsTokenCounts t i

-- ---- refusals

-- why none is made of an accepted program: memory was refused, or its code may pass a limit of images
abbrev pub RefusesCompiling : ProgramTree → Refusal → Type 0
RefusesCompiling tree refusal.Memory = ⊤
RefusesCompiling tree (refusal.Limit limit) = MayPassLimits tree
