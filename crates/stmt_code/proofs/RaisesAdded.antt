-- Code of `raise` that was added: what puts the exception on the operand stack, and what raises it.
use Rattle.std.proofs.Common.{◌≡◌, ℕ, suc, ◌<◌, List, Bool, true, false, Option, Some, None, refl, sym, ap, ◌∙◌, subst, rules}
use Rattle.std.specs.Prelude.{bytes_eq, if◌then◌else◌, nat_lt, option_map, pos, position}
use Rattle.base.specs.declared.limits.TheConstants.{EXCEPTIONS}
use Rattle.ada_tree.specs.declared.expression.Identifier.{Identifier}
use Rattle.image.specs.Sections.{Sections}
use Rattle.image.specs.Operations.{given_by, jump_target, taken_by}
use Rattle.image.specs.Rules.{has_operands, is_return, names_things}
use Rattle.image.specs.declared.instruction.Operation.{Operation}
use Rattle.image.specs.declared.instruction.Operation.TheVariants as op
use Rattle.image.specs.declared.subprograms.Subprogram.{Subprogram}
use Rattle.expr_soundness.specs.meaning.specs.Programs.{Program, exception_number}
use Rattle.expr_code.specs.Seeing.{Package}
use Rattle.expr_code.specs.Views.{At}
use Rattle.part_code.specs.Raising.{loaded, number_among, number_at, pushed, raised_by}
use Rattle.part_code.specs.Statements.{IsRaised, Numbers, Ways}
use Rattle.part_code.proofs.Lists.{some_same}

-- ---- numbers

at_place : (place : Option ℕ) (n : ℕ) → number_at place ≡ Some n → option_map suc place ≡ Some n
at_place None n is = absurd cc
at_place (Some k) n is = by_test (nat_lt k EXCEPTIONS) is
  where
    by_test : (b : Bool) → (if b then Some (suc k) else None) ≡ Some n → Some (suc k) ≡ Some n
    by_test true h = h
    by_test false h = absurd cc

-- the number is that of the program
pub numbered : (program : Program) (exceptions : List (List ℕ)) (name : List ℕ) (n : ℕ) → program.exceptions ≡ exceptions
    → number_among exceptions name ≡ Some n → exception_number program name ≡ Some n
numbered program exceptions name n same is =
    ap (λ l. option_map suc (position (bytes_eq name) l)) same ∙ at_place (position (bytes_eq name) exceptions) n is

-- ---- the first instruction

-- it finds nothing on the operand stack, and leaves one word there
pub record IsPut (w : Ways) (o : Operation) : Type 0 where
  pub operands : has_operands o ≡ true
  pub names : (i : Sections) (s : Subprogram) → ((word : ℕ) → w.handled ≡ Some word → word < s.locals) → names_things i s o ≡ true
  pub takes : (i : Sections) (results : ℕ) → taken_by i results o ≡ 0
  pub gives : (i : Sections) → given_by i o ≡ 1
  pub plain : is_return o ≡ false
  pub still : jump_target o ≡ None

push_put : (w : Ways) (n : ℕ) → IsPut w (op.Push (pos n))
push_put w n = record {
  operands = refl;
  names = λ i s room. refl;
  takes = λ i results. refl;
  gives = λ i. refl;
  plain = refl;
  still = refl;
}

load_put : (w : Ways) (word : ℕ) → w.handled ≡ Some word → IsPut w (op.LoadLocal word)
load_put w word is = record {
  operands = refl;
  names = λ i s room. lt_true word s.locals (room word is);
  takes = λ i results. refl;
  gives = λ i. refl;
  plain = refl;
  still = refl;
}
  where
    lt_true : (a b : ℕ) → a < b → nat_lt a b ≡ true
    lt_true a b h = search rules

pub puts : (w : Ways) (exceptions : List (List ℕ)) (name : Option Identifier) (o : Operation) → raised_by exceptions w.handled name ≡ Some o → IsPut w o
puts w exceptions (Some name) o is = by_number (number_among exceptions name.name) is
  where
    by_number : (x : Option ℕ) → pushed x ≡ Some o → IsPut w o
    by_number (Some n) h = subst (IsPut w) (some_same (op.Push (pos n)) o h) (push_put w n)
    by_number None h = absurd cc
puts w exceptions None o is = by_word w.handled refl is
  where
    by_word : (x : Option ℕ) → w.handled ≡ x → loaded x ≡ Some o → IsPut w o
    by_word (Some word) there h = subst (IsPut w) (some_same (op.LoadLocal word) o h) (load_put w word there)
    by_word None there h = absurd cc

-- ---- what it is

pub means : (i : Sections) (program : Program) (g : Package) (numbers : Numbers) (w : Ways) (exceptions : List (List ℕ)) → program.exceptions ≡ exceptions
    → (name : Option Identifier) (o : Operation) → raised_by exceptions w.handled name ≡ Some o
    → (from : ℕ) → At i from o → At i (suc from) op.Raise → IsRaised i program g numbers w from (suc (suc from)) name
means i program g numbers w exceptions same (Some name) o is from first last = by_number (number_among exceptions name.name) refl is
  where
    by_number : (x : Option ℕ) → number_among exceptions name.name ≡ x → pushed x ≡ Some o
        → IsRaised i program g numbers w from (suc (suc from)) (Some name)
    by_number (Some n) told h =
        (n, numbered program exceptions name.name n same told, subst (At i from) (sym (some_same (op.Push (pos n)) o h)) first, last, refl)
    by_number None told h = absurd cc
means i program g numbers w exceptions same None o is from first last = by_word w.handled refl is
  where
    by_word : (x : Option ℕ) → w.handled ≡ x → loaded x ≡ Some o → IsRaised i program g numbers w from (suc (suc from)) None
    by_word (Some word) there h = (word, there, subst (At i from) (sym (some_same (op.LoadLocal word) o h)) first, last, refl)
    by_word None there h = absurd cc
