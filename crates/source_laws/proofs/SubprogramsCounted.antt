-- Each subprogram has tokens of its own, which bound its instructions and the choices of its handlers.
use Rattle.std.proofs.Common.{◌≡◌, ◌++◌, ◌+◌, ◌*◌, ◌≤◌, ℕ, suc, [], append-nil, append_assoc, length, Some, sym, ap, ◌∙◌, subst, ⊎_elim, arith}
use Rattle.std.proofs.lemmas.Bool.{cases_lt}
use Rattle.std.specs.Prelude.{slice_get}
use Rattle.ada_tree.specs.declared.program.MainStatement.{MainStatement}
use Rattle.ada_tree.specs.declared.program.MainStatement.TheVariants as statements
use Rattle.ada_tree.specs.Language.{Limit, Tokens}
use Rattle.ada_tree.specs.ProgramGrammar.{main, main_statement, program}
use Rattle.ada_tree.specs.ProgramTree.{MainTree, ProgramTree}
use Rattle.ada_tree.proofs.Counts.{AtLeast, fewer, joins, later, one, one_at, some_counted, sooner}
use Rattle.program_soundness.specs.Fronts.{declared_in}
use Rattle.program_soundness.proofs.Listing.{same_some}
use Rattle.part_code.specs.Bounds.{main_bound}
use Rattle.package_code.specs.Bodies.{Coded, IsBodyOf, bodies_among, bodies_of, coded_at}
use Rattle.package_code.specs.Counts.{bound_of, instructions_bound}
use Rattle.package_code.specs.Refusing.{subprogram_rows}
use Rattle.package_code.proofs.Coded.{from_many, of_item}
use Rattle.package_code.proofs.Counted.{bound_of_body, bound_of_main, past, there_is}
use Rattle.source_laws.specs.Counted.{ByBody, ByMain, HasOwnTokens, IsBoundedBy, SubprogramsWithinTokens, words_at, words_if_coded, words_in}
use Rattle.source_laws.proofs.CodeCounted.{coded_size}
use Rattle.source_laws.proofs.PartsCounted.{body_tokens, bounded_by}
use Rattle.source_laws.proofs.RowsCounted.{subprogram_counted}

-- ---- main

statement_spelled : (s : MainStatement) → AtLeast 1 (main_statement s)
statement_spelled (statements.Null place) = sooner one_at
statement_spelled (statements.Call name procedure) = sooner one_at

-- `procedure`, `is`, and a token of each statement
main_spelled : (limit : Limit) (m : MainTree) → AtLeast (2 + length m.statements) (main limit m)
main_spelled limit m =
    fewer (joins one_at (later (later (joins one (later (sooner (some_counted {p = main_statement} statement_spelled m.statements))))))) (omega arith)

-- no body has a number that is not below theirs
pub no_words : (t : ProgramTree) (number : ℕ) → length (bodies_of t) ≤ number → words_at t number ≡ 0
no_words t number le = ap words_if_coded (past (bodies_of t) number le)

-- by equal numbers
by_same : (bound words own_bound own_words tokens : ℕ) → bound ≡ own_bound → words ≡ own_words → 20 + own_bound ≤ 20 * tokens + 2 * own_words
    → 20 + bound ≤ 20 * tokens + 2 * words
by_same bound words own_bound own_words tokens e d h = omega (arith, e, d, h)

choices_few : (rows before size many : ℕ) → rows ≤ before + size → suc size ≤ many → rows ≤ before + many
choices_few rows before size many h few = omega (arith, h, few)

module _ (limit : Limit) (t : ProgramTree) (tokens : Tokens) (spelled : program limit t tokens) (number : ℕ) where
  abbrev Spelled : Type 0
  Spelled = (part : Tokens) × HasOwnTokens limit t tokens number part × IsBoundedBy t number (length part)

  -- ---- a body

  module _ (c : Coded) (there : slice_get (bodies_of t) number ≡ Some c) where
    body_within : (many : ℕ) → suc (coded_size c) ≤ many → IsBoundedBy t number many
    body_within many few = record {
      instructions =
          by_same (instructions_bound t number) (words_at t number) (bound_of c) (words_in c) many (bound_of_body t number c there) (ap words_if_coded there)
          (bounded_by c many few);
      choices = λ d is before.
          subst (λ e. subprogram_rows before e.head e.body ≤ before + many) (same_some c d (sym there ∙ is))
          (choices_few (subprogram_rows before c.head c.body) before (coded_size c) many (subprogram_counted c.head c.body before) few);
    }

    of_body : Spelled
    of_body =
        let x = of_item t (declared_in t.package_) 0 number c there in
        let place : 0 + x.place ≡ x.place = omega arith in
        let b : IsBodyOf t c =
        record { place = x.place; item = x.item; index = x.k; at = x.at; coded = subst (λ p. slice_get (coded_at t p x.item) x.k ≡ Some c) place x.is } in
        let y = body_tokens limit t tokens spelled c b in (
          y.0.part,
          record { before = y.0.front; after = y.0.behind; split = y.0.split; spelled = ByBody c b x.before y.0.spelled },
          body_within (length y.0.part) y.1,
        )

  -- ---- main

  module _ (last : number ≡ length (bodies_of t)) where
    items_many : length (bodies_of t) ≡ bodies_among (declared_in t.package_)
    items_many = from_many t 0 (declared_in t.package_)

    after_all : length (bodies_of t) ≤ number
    after_all = omega (arith, last)

    main_within : (many : ℕ) → 2 + length t.main.statements ≤ many → IsBoundedBy t number many
    main_within many few = record {
      instructions =
          by_same (instructions_bound t number) (words_at t number) (main_bound t.main.statements) 0 many
          (ap (instructions_bound t) (last ∙ items_many) ∙ bound_of_main t) (no_words t number after_all) (few_enough (length t.main.statements) few);
      choices = λ d is before. absurd (let bad = sym (past (bodies_of t) number after_all) ∙ is in cc);
    }
      where
        few_enough : (all : ℕ) → 2 + all ≤ many → 20 + 20 * suc all ≤ 20 * many + 2 * 0
        few_enough all h = omega (arith, h)

    of_main : Spelled
    of_main =
        let h = spelled in
        let part = h.4.1 in (
          part,
          record {
            before = h.0 ++ h.4.0;
            after = [];
            split = h.2 ∙ ap (λ l. h.0 ++ l) h.4.2 ∙ sym (append_assoc h.0 h.4.0 part) ∙ ap (λ l. (h.0 ++ h.4.0) ++ l) (sym (append-nil part));
            spelled = ByMain last h.4.4;
          },
          main_within (length part) ((main_spelled limit t.main).within part h.4.4),
        )

  any : number ≤ length (bodies_of t) → Spelled
  any up =
      ⊎_elim (λ less. let c = there_is (bodies_of t) number less in of_body c.0 c.1) (λ le. of_main (omega (arith, up, le)))
      (cases_lt number (length (bodies_of t)))

pub subprograms_within_tokens : SubprogramsWithinTokens
subprograms_within_tokens limit t tokens spelled number up = any limit t tokens spelled number up
