-- An image that was put together from an accepted program is within the counts that the tokens of each subprogram give.
use Rattle.std.proofs.Common.{◌≡◌, ℕ, suc, ◌+◌, ◌*◌, ◌<◌, ◌≤◌, ◌⊎◌, inl, inr, List, [], ◌∷◌, length, length-append, ap, ◌∙◌, subst, None, arith}
use Rattle.std.proofs.lemmas.Bool.{cases_lt}
use Rattle.lexer.specs.declared.token.Token.{Token}
use Rattle.ada_tree.specs.ProgramGrammar.{program}
use Rattle.ada_tree.specs.ProgramTree.{ProgramTree}
use Rattle.image.specs.Sections.{Sections}
use Rattle.image.specs.declared.subprograms.Subprogram.{Subprogram}
use Rattle.meaning.specs.SameMeaning.{KeepsCount}
use Rattle.expr_code.specs.Code.{here}
use Rattle.expr_code.specs.Coming.{most_steps, size_of}
use Rattle.package_code.specs.Bodies.{bodies_of}
use Rattle.package_code.specs.Counts.{instructions_bound}
use Rattle.package_code.specs.Laws.{SectionsAreBounded, SectionsMeanTheSame}
use Rattle.package_code.specs.Program.{HasProgram}
use Rattle.package_code.proofs.Counted.{bodies_many, size_past, there_is}
use Rattle.package_code.proofs.Linking.{main_row}
use Rattle.source_laws.specs.Counted.{HasOwnTokens, IsBoundedBy, SubprogramsWithinTokens, words_at}
use Rattle.source_laws.proofs.SubprogramsCounted.{no_words}
use Rattle.compiler.specs.Compiled.{IsWithinTokens, SectionsKeepTokenCounts, rows_in_code, steps_by_tokens}
use Rattle.compiler.proofs.OwnRows.{rows_of_body, rows_of_main}
use Rattle.compiler.proofs.WiderCounts.{keeps_more}

-- ---- numbers

few_instructions : (size bound words tokens : ℕ) → size ≤ bound → 20 + bound ≤ 20 * tokens + 2 * words → size ≤ 20 * tokens + 2 * words
few_instructions size bound words tokens h k = omega (arith, h, k)

few_steps : (size bound words tokens : ℕ) → size ≤ bound → 20 + bound ≤ 20 * tokens + 2 * words → suc (size + size) ≤ 40 * tokens + 16 * words
few_steps size bound words tokens h k = omega (arith, h, k)

-- where no subprogram is
one_step : (size bound words none tokens : ℕ) → size ≡ 0 → none ≡ 0 → 20 + bound ≤ 20 * tokens + 2 * none → suc (size + size) ≤ 40 * tokens + 16 * words
one_step size bound words none tokens h e k = omega (arith, h, e, k)

no_more : (many tokens : ℕ) → many ≡ 0 → many ≤ tokens
no_more many tokens h = omega (arith, h)

-- ---- an image

module _ (by_tokens : SubprogramsWithinTokens) (each : SectionsAreBounded) (t : ProgramTree) (i : Sections) (h : HasProgram t i) (tokens : List Token)
    (spelled : program None t tokens) where
  abbrev rows : List Subprogram
  rows = h.walk.subprograms.items

  abbrev last : ℕ
  last = length (bodies_of t)

  many : length i.subprograms ≡ suc last
  many =
      let long = ap length h.subprograms ∙ length-append rows (main_row h.words (here h.draft.code) ∷ []) in
      let bodies = bodies_many t i h in
      omega (arith, long, bodies)

  le_last : last ≤ last
  le_last = omega arith

  -- what has no subprogram is given the tokens of main
  abbrev own_by : (number : ℕ) → (last < number) ⊎ (number ≤ last) → List Token
  own_by number (inl more) = (by_tokens None t tokens spelled last le_last).0
  own_by number (inr up) = (by_tokens None t tokens spelled number up).0

  abbrev own : ℕ → List Token
  own number = own_by number (cases_lt last number)

  spelled_by : (number : ℕ) → number ≤ last → (x : (last < number) ⊎ (number ≤ last)) → HasOwnTokens None t tokens number (own_by number x)
  spelled_by number le (inl more) = absurd (omega (arith, le, more))
  spelled_by number le (inr up) = (by_tokens None t tokens spelled number up).1

  within_by : (number : ℕ) → number ≤ last → (x : (last < number) ⊎ (number ≤ last)) → IsBoundedBy t number (length (own_by number x))
  within_by number le (inl more) = absurd (omega (arith, le, more))
  within_by number le (inr up) = (by_tokens None t tokens spelled number up).2

  steps_by : (number : ℕ) (x : (last < number) ⊎ (number ≤ last))
      → suc (size_of i number + size_of i number) ≤ 40 * length (own_by number x) + 16 * words_at t number
  steps_by number (inl more) =
      let main = by_tokens None t tokens spelled last le_last in
      let bodies = bodies_many t i h in
      one_step (size_of i number) (instructions_bound t last) (words_at t number) (words_at t last) (length main.0)
      (size_past t i h number (omega (arith, more, bodies))) (no_words t last le_last) main.2.instructions
  steps_by number (inr up) =
      let x = by_tokens None t tokens spelled number up in
      few_steps (size_of i number) (instructions_bound t number) (words_at t number) (length x.0) (each t i h number) x.2.instructions

  here_within : (number : ℕ) → number ≤ last → IsBoundedBy t number (length (own number))
  here_within number le = within_by number le (cases_lt last number)

  rows_by : (number : ℕ) → number ≤ last → (number < last) ⊎ (last ≤ number) → length (rows_in_code i number) ≤ length (own number)
  rows_by number le (inl less) =
      let c = there_is (bodies_of t) number less in
      rows_of_body t i h number c.0 (length (own number)) c.1 (λ before. (here_within number le).choices c.0 c.1 before)
  rows_by number le (inr up) =
      let bodies = bodies_many t i h in
      let same : length rows ≡ number = omega (arith, le, up, bodies) in
      no_more (length (rows_in_code i number)) (length (own number)) (subst (λ n. length (rows_in_code i n) ≡ 0) same (rows_of_main t i h))

  up_to : (number : ℕ) → number < length i.subprograms → number ≤ last
  up_to number less = (let long = many in omega (arith, less, long))

  pub within_tokens : KeepsCount t i (most_steps i) → IsWithinTokens t tokens i
  within_tokens keeps = record {
    many = many;
    own = own;
    spelled = λ number less. spelled_by number (up_to number less) (cases_lt last number);
    instructions = λ number less.
        few_instructions (size_of i number) (instructions_bound t number) (words_at t number) (length (own number)) (each t i h number)
        (here_within number (up_to number less)).instructions;
    rows = λ number less. rows_by number (up_to number less) (cases_lt number last);
    steps = keeps_more t i (most_steps i) (steps_by_tokens t own) (λ s. steps_by s.frame.subprogram (cases_lt last s.frame.subprogram)) keeps;
  }

pub sections_keep_token_counts : SubprogramsWithinTokens → SectionsAreBounded → SectionsMeanTheSame → SectionsKeepTokenCounts
sections_keep_token_counts by_tokens each means t i legal restricted well_formed h tokens spelled =
    within_tokens by_tokens each t i h tokens spelled (means t i legal restricted well_formed h).1
