-- What parsing promises: which lists of tokens a tree derives, and what a fault tells.
use Rattle.std.specs.Prelude.{◌≡◌, ℕ, ◌≤◌, ◌-◌, true, Option, Some, None, [], ◌∷◌, ◌++◌, length, drop, Result, Ok, Err, ◌⊎◌, if◌then◌else◌, ⊤}
use Rattle.lexer.specs.declared.fault.Fault.{Fault}
use Rattle.lexer.specs.Fault.{memory_fault}
use Rattle.ada_tree.specs.declared.program.Program.{Program}
use Rattle.ada_tree.specs.Language.{Tokens}
use Rattle.ada_tree.specs.ProgramTree.{ProgramTree, program_tree}
use Rattle.ada_tree.specs.ProgramGrammar.{program}
use Rattle.ada_tree.specs.Depth.{depth}
use Rattle.base.specs.declared.limits.TheConstants.{LEVELS}
use Rattle.base.specs.declared.faults.TheConstants.{TOO_MANY_LEVELS, UNEXPECTED_TOKEN}
use Rattle.parser.specs.declared.refusal.Broken.{Broken}
use Rattle.parser.specs.declared.refusal.Refusal.{Refusal}
use Rattle.parser.specs.declared.refusal.Refusal.TheVariants as refusals
use Rattle.parser.specs.Reading.{first, is_next}
use Rattle.parser.specs.Levels.{opens, openers}

-- The tree derives the tokens, and no more than LEVELS levels are open at once in it.
pub record Derives (t : ProgramTree) (ts : Tokens) : Type 0 where
  pub derives : program None t ts
  pub levels : depth t ≤ LEVELS

-- this tree, unless memory was refused
abbrev pub GaveTree : Result Program Fault → ProgramTree → Type 0
GaveTree (Ok p) t = program_tree p ≡ t
GaveTree (Err f) t = f ≡ memory_fault

-- where the last token ends: 0 where there is none
abbrev pub end_of : Tokens → ℕ
end_of [] = 0
end_of (t ∷ []) = t.end_
end_of (t ∷ (u ∷ rest)) = end_of (u ∷ rest)

-- where the tokens of the second list begin behind those of the first: at the end of those, if there are none
abbrev pub place_behind : Tokens → Tokens → ℕ
place_behind front [] = end_of front
place_behind front (t ∷ rest) = t.start

-- No tree derives the front and nothing more, where nothing is left;
-- and else no tree derives a list that begins with the front and the first token of what is left.
abbrev pub NoneBegins : Tokens → Tokens → Type 0
NoneBegins front [] = (t : ProgramTree) → Derives t front → ⊥
NoneBegins front (x ∷ rest) = (t : ProgramTree) (more : Tokens) → Derives t (front ++ (x ∷ more)) → ⊥

-- The tokens of the front begin a list that some tree derives.
abbrev pub SomeBegins : Tokens → Type 0
SomeBegins front = (t : ProgramTree) × (more : Tokens) × Derives t (front ++ more)

-- No tree derives a list that begins with the front and the first token of what is left, if there is one.
abbrev pub NoneGoesOn : Tokens → Tokens → Type 0
NoneGoesOn front [] = ⊤
NoneGoesOn front (x ∷ rest) = NoneBegins front (x ∷ rest)

-- So many of the tokens, from the first on, begin a list that some tree derives, and no more of them do.
pub record IsLongestBeginning (ts : Tokens) (count : ℕ) : Type 0 where
  pub front : Tokens
  pub back : Tokens
  pub parts : ts ≡ front ++ back
  pub counted : count ≡ length front
  pub some : SomeBegins front
  pub none : NoneGoesOn front back

-- The next token may open a level, and in front of it stand as many such tokens as levels may be open at once.
abbrev pub IsTooDeep : Tokens → Tokens → Type 0
IsTooDeep front back = (is_next opens (first back) ≡ true) × (LEVELS ≤ openers front)

-- The fault stands behind the front, which some derivation begins with: at the first token that none allows there, or at the end where none ends there.
pub record IsFaulty (ts : Tokens) (f : Fault) : Type 0 where
  pub front : Tokens
  pub back : Tokens
  pub parts : ts ≡ front ++ back
  pub place : f.place ≡ place_behind front back
  pub some : SomeBegins front
  pub none : NoneBegins front back
  pub number : (f.number ≡ UNEXPECTED_TOKEN) ⊎ ((f.number ≡ TOO_MANY_LEVELS) × IsTooDeep front back)

-- memory was refused, or the tokens are
abbrev pub IsRefusal : Tokens → Fault → Type 0
IsRefusal ts f = (f ≡ memory_fault) ⊎ IsFaulty ts f

-- A list has at most one tree.
abbrev pub HasOneTree : Type 0
HasOneTree = (t u : ProgramTree) (ts : Tokens) → Derives t ts → Derives u ts → t ≡ u

-- ---- what the code does with the end of reading

-- the place where so many tokens are left
abbrev pub start_or : ℕ → Tokens → ℕ
start_or end [] = end
start_or end (t ∷ rest) = t.start

abbrev pub place_at : Tokens → ℕ → ℕ
place_at ts left = start_or (end_of ts) (drop (length ts - left) ts)

abbrev pub fault_of : Tokens → Broken → Fault
fault_of ts broken = record { number = if broken.deep then TOO_MANY_LEVELS else UNEXPECTED_TOKEN; place = place_at ts broken.left }

abbrev pub answer_of : Tokens → Result Program Refusal → Result Program Fault
answer_of ts (Ok p) = Ok p
answer_of ts (Err refusals.Memory) = Err memory_fault
answer_of ts (Err (refusals.Broken broken)) = Err (fault_of ts broken)

-- how many tokens begin a list that some tree derives, unless memory was refused
abbrev pub count_of : Tokens → Result Program Refusal → Option ℕ
count_of ts (Ok p) = Some (length ts)
count_of ts (Err refusals.Memory) = None
count_of ts (Err (refusals.Broken broken)) = Some (length ts - broken.left)
