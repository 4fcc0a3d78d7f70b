-- Rows that are added one after another, and tables.
use Rattle.std.proofs.Common.{◌≡◌, ◌∙◌, ◌+◌, ◌++◌, ℕ, suc, List, [], ap, arith, append_assoc}
use Rattle.measuring.specs.Text.{below}

-- with one more row the text is that of one more number
pub one_added : (old now later : List ℕ) (f : ℕ → List ℕ) (n : ℕ) (row : List ℕ) → now ≡ old ++ below n f → later ≡ now ++ row → row ≡ f n → later ≡ old ++ below (n + 1) f
one_added old now later f n row before added is =
    let at : suc n ≡ n + 1 = omega arith in
    added ∙ ap (λ v. v ++ row) before ∙ ap (λ v. (old ++ below n f) ++ v) is ∙ append_assoc old (below n f) (f n) ∙ ap (λ k. old ++ below k f) at

-- a table: its heading, and then its rows
pub table_added : (old now later head rows : List ℕ) → now ≡ old ++ head → later ≡ now ++ rows → later ≡ old ++ (head ++ rows)
table_added old now later head rows headed added = added ∙ ap (λ v. v ++ rows) headed ∙ append_assoc old head rows

-- the last row, as it is defined
pub row_added : (old later row it : List ℕ) → later ≡ old ++ row → row ≡ it → later ≡ old ++ it
row_added old later row it added is = added ∙ ap (λ v. old ++ v) is

pub six_tables : (t0 t1 t2 t3 t4 t5 t6 a b c d e f : List ℕ) → t0 ≡ [] → t1 ≡ t0 ++ a → t2 ≡ t1 ++ b → t3 ≡ t2 ++ c → t4 ≡ t3 ++ d → t5 ≡ t4 ++ e → t6 ≡ t5 ++ f
    → t6 ≡ ((((a ++ b) ++ c) ++ d) ++ e) ++ f
six_tables t0 t1 t2 t3 t4 t5 t6 a b c d e f none first second third fourth fifth sixth =
    sixth ∙ ap (λ v. v ++ f) (fifth ∙ ap (λ v. v ++ e) (fourth ∙ ap (λ v. v ++ d) (third ∙ ap (λ v. v ++ c) (second ∙ ap (λ v. v ++ b) (first ∙ ap (λ v. v ++ a) none)))))
