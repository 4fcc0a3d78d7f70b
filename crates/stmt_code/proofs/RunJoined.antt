-- Code that was put together and joined to that of a program: which limit it may have passed; and of a body, what was added, and how much it is.
use Rattle.std.proofs.Common.{◌≡◌, ◌≤◌, ℕ, ◌+◌, List, All, length, max, true, inl, inr, refl, sym, ap, ◌∙◌, subst, arith, length-append}
use Rattle.std.specs.Prelude.{slice_get, ◌⊎◌}
use Rattle.std.proofs.lemmas.List.Elements.{All-weaker}
use Rattle.handlers.specs.declared.rows.Row.{Row}
use Rattle.ada_tree.specs.ProgramTree.{BodyTree}
use Rattle.image.specs.declared.instruction.Instr.{Instr}
use Rattle.expr_code.specs.Appending.{Misfits}
use Rattle.expr_code.specs.Code.{here}
use Rattle.expr_code.specs.Pieces.{deepest_of}
use Rattle.expr_code.specs.Refusing.{IsRefusedBeside}
use Rattle.expr_code.specs.declared.code.Code.{Code}
use Rattle.expr_code.specs.declared.refusal.ImageLimit.TheVariants as limits
use Rattle.expr_code.specs.declared.refusal.Refusal.{Refusal}
use Rattle.expr_code.specs.declared.refusal.Refusal.TheVariants as refusal
use Rattle.expr_code.specs.declared.visible.Visible.{Visible}
use Rattle.expr_code.proofs.StandingPieces.{FitOr, one_unfit}
use Rattle.part_code.specs.Bounds.{run_bound}
use Rattle.part_code.specs.Labels.{handlers_labels, stmts_labels}
use Rattle.part_code.specs.Needs.{HasManyLabels, IsNeeding, Needs}
use Rattle.part_code.specs.Rows.{LiesWithin, handlers_rows, stmts_rows}
use Rattle.part_code.proofs.Within.{code_refused, stack_within}
use Rattle.stmt_code.specs.Drafting.{CodePart, Drafted, Start, adds}
use Rattle.stmt_code.specs.Emitting.{AddsRows, FindsException}
use Rattle.stmt_code.specs.Joining.{HasWideFrame, IsJoined, Overflows, begun_from}
use Rattle.stmt_code.specs.Placing.{StandsBetween}
use Rattle.stmt_code.specs.Refusing.{run_needs}
use Rattle.stmt_code.specs.StatementCode.{run_code}
use Rattle.stmt_code.specs.declared.draft.Draft.{Draft}
use Rattle.stmt_code.proofs.BodiesDo.{AddsRun, run_of, site_of, start_of}
use Rattle.stmt_code.proofs.PartsFill.{Fills}
use Rattle.stmt_code.proofs.RowsKept.{Finds, KeepsRows, get_back}

-- what is put together after the code of a draft is the part from there on
pub part_made : (old : Draft) (a : CodePart) → (adds (begun_from old) a).made ≡ a (start_of old)
unfolding adds
part_made old a =
    let at : here old.code + 0 ≡ here old.code = omega arith in
    let s : ℕ → Start = λ place. record { place = place; labels = old.labels } in
    let none : (n : ℕ) → max 0 n ≡ n = λ n. omega arith in
    (λ j. record {
      code = (a (s (at j))).code;
      rows = (a (s (at j))).rows;
      places = (a (s (at j))).places;
      labels = (a (s (at j))).labels;
      most = max 0 (a (s (at j))).most;
    })
    ∙ (λ j. record (a (start_of old)) { most = none (a (start_of old)).most j })

module _ (v : Visible) (old new : Draft) (b : BodyTree) (h : IsJoined old (run_of v old b) new) where
  abbrev m : Drafted
  m = run_of v old b

  pub long : here new.code ≡ here old.code + length m.code
  long = ap length h.code.items ∙ length-append old.code.instructions.items m.code

  -- ---- rows

  module _ (k : KeepsRows (length old.exceptions.items) (run_code (site_of v old) b)) where
    pub low : here old.code + length m.code ≤ 65535
    low = let few = h.code.few in let all = long in omega (arith, few, all)

    pub found : (q : Row) → Finds (here old.code) m.code q.target → FindsException new.code q.target
    found q f = record {
      operation = f.operation;
      there = ap (slice_get new.code.instructions.items) f.is ∙ ap (λ l. slice_get l (here old.code + f.index)) h.code.items
          ∙ get_back old.code.instructions.items m.code f.index ∙ f.there;
    }

    abbrev pub rows_joined : AddsRows old new
    rows_joined =
        let rows = k.rows (start_of old) low in
        let places = k.places (start_of old) in
        record {
          added = m.rows;
          appended = h.rows;
          exceptions = h.exceptions;
          within = subst (λ to. All (LiesWithin (here old.code) to) m.rows) (sym long) rows.within;
          nested = rows.nested;
          known = rows.known;
          ready = All-weaker (λ q. Finds (here old.code) m.code q.target) (λ q. FindsException new.code q.target) found m.rows rows.ready;
          placed = m.places;
          located = h.places;
          between = subst (λ to. All (StandsBetween (here old.code) to) m.places) (sym long) places.between;
          innermost = places.innermost;
        }

    -- ---- how much it is

    module _ (f : Fills (run_needs v old.words.taken b.declarations b.statements b.handlers) (run_bound v.scope b.declarations b.statements b.handlers)
        (λ l. handlers_labels (stmts_labels l b.statements) b.handlers) (λ r. handlers_rows (stmts_rows r b.statements) b.handlers)
        (run_code (site_of v old) b)) where
      pub run_joins : AddsRun v old b new
      run_joins = record {
        code = h.code;
        sized = (let all = long in let few = f.sized (start_of old) in omega (arith, all, few));
        labels = h.labels;
        few = (let few = h.few in let same = ap length h.labels in omega (arith, few, same));
        taken = h.taken;
        most = h.most;
        wide = h.wide;
        rows = rows_joined;
        added = refl;
        placed = refl;
      }

-- ---- where it passes a limit

-- instructions of at most so many words, that have operands an image may have or this is so
pub code_beside : (U : Type 0) (old : Code) (code : List Instr) (long high : ℕ) → length code ≤ long → deepest_of code ≤ high → FitOr U code → (why : Refusal)
    → Misfits old code why → IsRefusedBeside U (here old + long) high why
code_beside U old code long high few low fit refusal.Memory h = tt
code_beside U old code long high few low fit (refusal.Limit limits.Instructions) h = omega (arith, few, h)
code_beside U old code long high few low fit (refusal.Limit limits.Frame) h = omega (arith, low, h)
code_beside U old code long high few low fit (refusal.Limit limits.Block) h = one_unfit U code fit h
code_beside U old code long high few low fit (refusal.Limit other) h = absurd h

pub code_needing : (old : Code) (code : List Instr) (n : Needs) (long : ℕ) → length code ≤ long → deepest_of code ≤ n.stack → FitOr (n.unfit ≡ true) code
    → (why : Refusal) → Misfits old code why → IsNeeding (here old + long) n why
code_needing old code n long few low fit why h =
    code_refused (n.unfit ≡ true) (here old + long) (here old + long) n.stack n (omega arith) (stack_within n.stack n (omega arith)) (λ u. u) why
    (code_beside (n.unfit ≡ true) old code long n.stack few low fit why h)

module _ (old : Draft) (n : Needs) (long : ℕ) (labels : List (List ℕ) → List (List ℕ)) (rows : ℕ → ℕ) (a : CodePart) (f : Fills n long labels rows a) where
  abbrev part : Drafted
  part = a (start_of old)

  wide_needs : (why : Refusal) → HasWideFrame part.most why → IsNeeding (here old.code + long) n why
  wide_needs (refusal.Limit limits.Frame) p = (let up = f.most (start_of old) in omega (arith, p, up))
  wide_needs why p = absurd p

  pub part_refused : (why : Refusal) → Overflows old part why → IsNeeding (here old.code + long) n why ⊎ HasManyLabels (labels old.labels) why
  part_refused why (inl p) = inl (code_needing old.code part.code n long (f.sized (start_of old)) (f.low (start_of old)) (f.fit (start_of old)) why p)
  part_refused why (inr (inl p)) = inr (subst (λ l. HasManyLabels l why) (f.named (start_of old)) p)
  part_refused why (inr (inr p)) = inl (wide_needs why p)
