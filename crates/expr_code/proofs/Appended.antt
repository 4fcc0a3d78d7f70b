-- Instructions that are added one after the other, as long as they keep the limits of images.
use Rattle.std.proofs.Common.{◌≡◌, ◌<◌, ◌≤◌, ℕ, zero, suc, ◌+◌, List, [], ◌∷◌, ◌++◌, length, max, take, true, refl, sym, ap, ◌∙◌, subst, arith, append_assoc, length-append}
use Rattle.std.specs.Prelude.{get_or}
use Rattle.base.specs.declared.limits.TheConstants.{FRAME_WORDS, INSTRUCTIONS}
use Rattle.image.specs.Rules.{has_operands}
use Rattle.image.specs.declared.instruction.Instr.{Instr}
use Rattle.expr_code.specs.Appending.{AllKeep, Appends, Misfits}
use Rattle.expr_code.specs.Code.{Adds, here}
use Rattle.expr_code.specs.Pieces.{deepest_of}
use Rattle.expr_code.specs.Refusing.{IsRefused}
use Rattle.expr_code.specs.declared.code.Code.{Code}
use Rattle.expr_code.specs.declared.refusal.ImageLimit.TheVariants as limits
use Rattle.expr_code.specs.declared.refusal.Refusal.{Refusal}
use Rattle.expr_code.specs.declared.refusal.Refusal.TheVariants as refusal
use Rattle.expr_code.proofs.Pieces.{deepest_append}

take_next : (all : List Instr) (n : ℕ) (x : Instr) → n < length all → x ≡ get_or all n x → take (n + 1) all ≡ take n all ++ x ∷ []
take_next [] n x less is = absurd (omega (arith, less))
take_next (y ∷ all) zero x less is = ap (λ z. z ∷ []) (sym is)
take_next (y ∷ all) (suc n) x less is =
    let more : suc n + 1 ≡ suc (n + 1) = omega arith in
    ap (λ k. take k (y ∷ all)) more ∙ ap (λ l. y ∷ l) (take_next all n x (omega (arith, less)) is)

keep_append : (a b : List Instr) → AllKeep a → AllKeep b → AllKeep (a ++ b)
keep_append [] b p q = q
keep_append (x ∷ a) b p q = (p.0, keep_append a b p.1 q)

pub one_appended : (old mid new : Code) (all : List Instr) (n : ℕ) (x : Instr) → n < length all → x ≡ get_or all n x → Appends old (take n all) mid
    → Adds mid x.depth x.operation new → new.deepest ≡ max mid.deepest x.depth → x.depth ≤ FRAME_WORDS → has_operands x.operation ≡ true → here new ≤ INSTRUCTIONS
    → Appends old (take (n + 1) all) new
one_appended old mid new all n x less is p adds deep low fit few =
    let next = take_next all n x less is in
    let added = deepest_append (take n all) (x ∷ []) in
    let was = p.deepest in
    subst (λ l. Appends old l new) (sym next)
    (record {
      items = adds.instructions ∙ ap (λ l. l ++ x ∷ []) p.items ∙ append_assoc old.instructions.items (take n all) (x ∷ []);
      deepest = omega (arith, deep, was, added);
      keep = keep_append (take n all) (x ∷ []) p.keep ((low, fit), tt);
      few = few;
    })

deep_at : (all : List Instr) (n : ℕ) (x : Instr) → n < length all → x ≡ get_or all n x → x.depth ≤ deepest_of all
deep_at [] n x less is = absurd (omega (arith, less))
deep_at (y ∷ all) zero x less is = let same = ap (λ z. z.depth) is in omega (arith, same)
deep_at (y ∷ all) (suc n) x less is = let rest = deep_at all n x (omega (arith, less)) is in omega (arith, rest)

take_long : (all : List Instr) (n : ℕ) → n ≤ length all → length (take n all) ≡ n
take_long all zero le = refl
take_long [] (suc n) le = absurd (omega (arith, le))
take_long (x ∷ all) (suc n) le = ap suc (take_long all n (omega (arith, le)))

pub one_refused : (old mid : Code) (all : List Instr) (n : ℕ) (x : Instr) (why : Refusal) → n < length all → x ≡ get_or all n x → Appends old (take n all) mid
    → IsRefused (here mid + 1) x.depth why → Misfits old all why
one_refused old mid all n x refusal.Memory less is p h = tt
one_refused old mid all n x (refusal.Limit limits.Instructions) less is p h =
    let long : here mid ≡ here old + length (take n all) = ap length p.items ∙ length-append old.instructions.items (take n all) in
    let taken = take_long all n (omega (arith, less)) in
    omega (arith, h, long, taken, less)
one_refused old mid all n x (refusal.Limit limits.Frame) less is p h = let deep = deep_at all n x less is in omega (arith, h, deep)
one_refused old mid all n x (refusal.Limit other) less is p h = absurd h
