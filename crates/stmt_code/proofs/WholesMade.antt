-- What methods add for whole subprograms is their code: first values of `out` parameters, what bodies give back, and the calls of main.
use Rattle.std.proofs.Common.{◌≡◌, ◌<◌, ◌≤◌, ℕ, ◌+◌, List, ◌∷◌, length, drop, sym, ap, ◌∙◌}
use Rattle.std.specs.Prelude.{get_or}
use Rattle.std.proofs.lemmas.List.{at_drop_more}
use Rattle.ada_tree.specs.declared.program.MainStatement.{MainStatement}
use Rattle.image.specs.declared.instruction.Operation.TheVariants as op
use Rattle.types.specs.Scopes.{Scope}
use Rattle.expr_code.specs.Pieces.{Made, adds, one}
use Rattle.expr_code.specs.declared.visible.Visible.{Visible}
use Rattle.expr_code.proofs.Going.{drop_at}
use Rattle.expr_code.proofs.Pieces.{adds_nothing, adds_then, drop_end}
use Rattle.part_code.specs.Formals.{returned_more}
use Rattle.part_code.specs.PartCode.{words_in}
use Rattle.part_code.specs.declared.formals.PlacedFormal.{PlacedFormal}
use Rattle.ada_tree.specs.ProgramTree.{BodyTree}
use Rattle.stmt_code.specs.Drafting.{Sketched, coded, ◌▹◌}
use Rattle.stmt_code.specs.Drafting as parts
use Rattle.stmt_code.specs.StatementCode.{Site, run_code}
use Rattle.stmt_code.specs.WholeCode.{back_code, calls_code, given_code, height_given, main_call, main_code, out_code, outs_code, procedure_code, return_code}
use Rattle.stmt_code.proofs.PartsAdded as added

-- ---- first values, from the first parameter on

module _ (v : Visible) (all : List PlacedFormal) where
  pub outs_step : (m new whole : Made) (n : ℕ) (x other : PlacedFormal) → n < length all → x ≡ get_or all n other → new ≡ adds m (out_code v x)
      → adds m (outs_code v (drop n all)) ≡ whole → adds new (outs_code v (drop (n + 1) all)) ≡ whole
  outs_step m new whole n x other less is made h =
      let rest = drop (n + 1) all in
      ap (λ y. adds y (outs_code v rest)) made ∙ adds_then m (out_code v x) (outs_code v rest)
      ∙ ap (λ l. adds m (outs_code v l)) (ap (λ y. y ∷ rest) is ∙ sym (at_drop_more (λ l. l) all n other less)) ∙ h

  pub outs_end : (m whole : Made) (n : ℕ) → length all ≤ n → adds m (outs_code v (drop n all)) ≡ whole → m ≡ whole
  outs_end m whole n le h = sym (adds_nothing m) ∙ ap (λ l. adds m (outs_code v l)) (sym (drop_end all n le)) ∙ h

-- ---- what is given back, from the last parameter on

-- that of all after the first n
pub record HasGiven (s : Scope) (start : Made) (all : List PlacedFormal) (n height : ℕ) (now : Made) : Type 0 where
  pub made : now ≡ adds start (back_code s (drop n all))
  pub high : height ≡ height_given s (drop n all)

module _ (s : Scope) (start : Made) (all : List PlacedFormal) where
  pub none_given : (n : ℕ) → length all ≤ n → HasGiven s start all n 0 start
  none_given n le = record {
    made = sym (ap (λ l. adds start (back_code s l)) (drop_end all n le) ∙ adds_nothing start);
    high = ap (height_given s) (sym (drop_end all n le));
  }

  pub one_given : (now next : Made) (n height higher : ℕ) (x : PlacedFormal) → n < length all → x ≡ get_or all n x
      → next ≡ adds now (given_code s height x x.address) → higher ≡ returned_more x.address (words_in s x.subtype) height
      → HasGiven s start all (n + 1) height now → HasGiven s start all n higher next
  one_given now next n height higher x less is made high p =
      let rest = drop (n + 1) all in
      let left = sym (drop_at all n x less is) in
      record {
        made = made ∙ ap (λ y. adds y (given_code s height x x.address)) p.made
            ∙ ap (λ h. adds (adds start (back_code s rest)) (given_code s h x x.address)) p.high
            ∙ adds_then start (back_code s rest) (given_code s (height_given s rest) x x.address) ∙ ap (λ l. adds start (back_code s l)) left;
        high = high ∙ ap (returned_more x.address (words_in s x.subtype)) p.high ∙ ap (height_given s) left;
      }

  pub all_given_back : (now new : Made) (height : ℕ) → HasGiven s start all 0 height now → new ≡ adds now (one height op.Return)
      → new ≡ adds start (return_code s all)
  all_given_back now new height p made =
      made ∙ ap (λ y. adds y (one height op.Return)) p.made ∙ ap (λ h. adds (adds start (back_code s all)) (one h op.Return)) p.high
      ∙ adds_then start (back_code s all) (one (height_given s all) op.Return)

-- ---- the calls of main, from the first one on

module _ (v : Visible) (all : List MainStatement) where
  pub calls_step : (m new whole : Made) (n : ℕ) (x : MainStatement) → n < length all → x ≡ get_or all n x → new ≡ adds m (main_call v x)
      → adds m (calls_code v (drop n all)) ≡ whole → adds new (calls_code v (drop (n + 1) all)) ≡ whole
  calls_step m new whole n x less is made h =
      ap (λ y. adds y (calls_code v (drop (n + 1) all))) made ∙ adds_then m (main_call v x) (calls_code v (drop (n + 1) all))
      ∙ ap (λ l. adds m (calls_code v l)) (sym (drop_at all n x less is)) ∙ h

  pub calls_end : (m start new : Made) (n : ℕ) → length all ≤ n → adds m (calls_code v (drop n all)) ≡ adds start (calls_code v all)
      → new ≡ adds m (one 0 op.Return) → new ≡ adds start (main_code v all)
  calls_end m start new n le h made =
      made
      ∙ ap (λ y. adds y (one 0 op.Return)) (sym (adds_nothing m) ∙ ap (λ l. adds m (calls_code v l)) (sym (drop_end all n le)) ∙ h)
      ∙ adds_then start (calls_code v all) (one 0 op.Return)

-- ---- a procedure

pub procedure_made : (old outs run new : Sketched) (c : Site) (xs : List PlacedFormal) (b : BodyTree) (s : Scope) → s ≡ c.visible.scope
    → outs ≡ parts.adds old (coded (outs_code c.visible xs)) → run ≡ parts.adds outs (run_code c b) → new ≡ parts.adds run (coded (return_code s xs))
    → new ≡ parts.adds old (procedure_code c xs b)
procedure_made old outs run new c xs b s same first inside last =
    let x = coded (outs_code c.visible xs) in
    let y = run_code c b in
    let z = coded (return_code c.visible.scope xs) in
    last ∙ ap (λ q. parts.adds run (coded (return_code q xs))) same ∙ ap (λ m. parts.adds m z) (inside ∙ ap (λ m. parts.adds m y) first)
    ∙ added.adds_then (parts.adds old x) y z ∙ added.adds_then old x (y ▹ z)
