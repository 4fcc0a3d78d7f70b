-- What is put together for conditions, loops and ways out is their code (RM 5.3, 5.5, 5.7).
use Rattle.std.proofs.Common.{◌≡◌, ℕ, ◌+◌, length, Some, refl, sym, ap, ◌∙◌}
use Rattle.std.specs.Prelude.{Option, true}
use Rattle.image.specs.declared.instruction.Operation.{Operation}
use Rattle.image.specs.declared.instruction.Operation.TheVariants as op
use Rattle.expr_code.specs.Pieces as pieces
use Rattle.expr_code.specs.Pieces.{narrow, one}
use Rattle.expr_code.proofs.Pieces.{adds_then as pieces_then}
use Rattle.stmt_code.specs.Drafting.{CodePart, Sketched, adds, begun, coded, end_of, fragment_of, led, marked, marks, skipping, with_fragment, ◌▹◌}
use Rattle.stmt_code.specs.StatementCode.{turned, with_way}
use Rattle.stmt_code.proofs.PartsAdded.{adds_coded, adds_then, leads, marks_added}

pub adds_begun : (m : Sketched) (f : ℕ → CodePart) → adds m (begun f) ≡ adds m (f (end_of m))
unfolding adds begun
adds_begun m f = refl

-- instructions in two steps
pub both_coded : (m : Sketched) (a b : pieces.Piece) → adds (adds m (coded a)) (coded b) ≡ adds m (coded (pieces.◌▸◌ a b))
both_coded m a b =
    sym (adds_coded (adds m (coded a)) b) ∙ ap (λ x. with_fragment x (pieces.adds (fragment_of x) b)) (sym (adds_coded m a))
    ∙ ap (with_fragment m) (pieces_then (fragment_of m) a b) ∙ adds_coded m (pieces.◌▸◌ a b)

-- a jump over a part after a condition, once it leads to the end
pub tested_made : (m : Sketched) (c a : CodePart) (jump : ℕ → Operation) (place to : ℕ) → place ≡ length (adds m c).made.code
    → to ≡ narrow (end_of (adds (adds (adds m c) (coded (one 1 (jump 0)))) a))
    → led (adds (adds (adds m c) (coded (one 1 (jump 0)))) a) place (jump to) ≡ adds m (c ▹ skipping 0 1 jump a)
tested_made m c a jump place to e f = leads (adds m c) 1 (jump 0) a place jump to e f ∙ adds_then m c (skipping 0 1 jump a)

-- ---- loops

abbrev back : ℕ → CodePart
back turn = coded (one 0 (op.Jump (narrow turn)))

pub turned_made : (m : Sketched) (a : CodePart) → adds (adds m a) (back (end_of m)) ≡ adds m (turned a)
turned_made m a = adds_then m a (back (end_of m)) ∙ sym (adds_begun m (λ turn. a ▹ back turn))

-- the way out, once it leads to the end
abbrev head : Sketched → Sketched
head m = adds m (coded (one 0 (op.Jump (narrow (end_of m + 2)))))

abbrev out_of : Sketched → (Option ℕ → CodePart) → CodePart
out_of m f = f (Some (narrow (end_of m + 1)))

pub way_made : (m : Sketched) (f : Option ℕ → CodePart) (place to : ℕ) → place ≡ length (head m).made.code
    → to ≡ narrow (end_of (adds (adds (head m) (coded (one 0 (op.Jump 0)))) (out_of m f)))
    → led (adds (adds (head m) (coded (one 0 (op.Jump 0)))) (out_of m f)) place (op.Jump to) ≡ adds m (with_way true f)
way_made m f place to e g =
    leads (head m) 0 (op.Jump 0) (out_of m f) place op.Jump to e g
    ∙ adds_then m (coded (one 0 (op.Jump (narrow (end_of m + 2))))) (skipping 0 0 op.Jump (out_of m f))
    ∙ sym (adds_begun m (λ start. coded (one 0 (op.Jump (narrow (start + 2)))) ▹ skipping 0 0 op.Jump (f (Some (narrow (start + 1))))))

-- ---- statements one after another

-- a statement with the row of its place, and those after it
pub sequence_made : (m : Sketched) (a rest : CodePart) (first place : ℕ) → first ≡ end_of m
    → adds (marks (adds m a) first place) rest ≡ adds m (marked place a ▹ rest)
sequence_made m a rest first place e = ap (λ x. adds x rest) (marks_added m a first place e) ∙ adds_then m (marked place a) rest
