-- What a part needs within what the whole needs, and its refusals.
use Rattle.std.proofs.Common.{◌≡◌, ◌≤◌, ◌∷◌, ℕ, zero, suc, List, [], length, Bool, true, false, ◌||◌, Option, Some, None, refl, sym, ap, ◌∙◌, arith}
use Rattle.std.specs.Prelude.{max, not, slice_get}
use Rattle.std.proofs.lemmas.Bool.{or_left, or_right}
use Rattle.std.proofs.Math.Nat.{le-max_left, le-max_right}
use Rattle.types.specs.declared.entity.Role.{Role}
use Rattle.types.specs.declared.entity.Subtype.{Subtype}
use Rattle.types.specs.declared.standing.Standing.TheVariants as standing
use Rattle.types.specs.Entities.{Entity, Object}
use Rattle.types.specs.Scopes.{Scope, entity_at, entity_of, number_of}
use Rattle.types.specs.Shapes.{shape_of}
use Rattle.types.specs.Standings.{stands_first, stands_for}
use Rattle.expr_soundness.proofs.Positions.{same_some}
use Rattle.expr_code.specs.Refusing.{HasUnfitObject, IsRefused, IsRefusedBeside, is_fit}
use Rattle.expr_code.specs.declared.refusal.ImageLimit.TheVariants as limits
use Rattle.expr_code.specs.declared.refusal.Refusal.{Refusal}
use Rattle.expr_code.specs.declared.refusal.Refusal.TheVariants as refusal
use Rattle.expr_code.specs.declared.visible.Visible.{Visible}
use Rattle.expr_code.proofs.Refusals.{refused_beside}
use Rattle.part_code.specs.Needs.{HasManyLabels, IsNeeding, Needs, are_unfit, both, has_unfit, is_unfit}

-- ---- what a part needs

-- the whole needs as much at least
pub record Within (m n : Needs) : Type 0 where
  pub stack : m.stack ≤ n.stack
  pub frame : m.frame ≤ n.frame
  pub unfit : m.unfit ≡ true → n.unfit ≡ true

pub within_self : (n : Needs) → Within n n
within_self n = record { stack = omega arith; frame = omega arith; unfit = λ h. h }

pub within_then : (a b c : Needs) → Within a b → Within b c → Within a c
within_then a b c p q = record {
  stack = (let x = p.stack in let y = q.stack in omega (arith, x, y));
  frame = (let x = p.frame in let y = q.frame in omega (arith, x, y));
  unfit = λ h. q.unfit (p.unfit h);
}

pub in_left : (a b : Needs) → Within a (both a b)
in_left a b = record { stack = le-max_left a.stack b.stack; frame = le-max_left a.frame b.frame; unfit = or_left a.unfit b.unfit }

pub in_right : (a b : Needs) → Within b (both a b)
in_right a b = record { stack = le-max_right a.stack b.stack; frame = le-max_right a.frame b.frame; unfit = or_right a.unfit b.unfit }

pub of_left : (m a b : Needs) → Within m a → Within m (both a b)
of_left m a b p = within_then m a (both a b) p (in_left a b)

pub of_right : (m a b : Needs) → Within m b → Within m (both a b)
of_right m a b p = within_then m b (both a b) p (in_right a b)

either : (a b c : Bool) → (a ≡ true → c ≡ true) → (b ≡ true → c ≡ true) → (a || b) ≡ true → c ≡ true
either true b c p q h = p refl
either false b c p q h = q h

larger : (a b n : ℕ) → a ≤ n → b ≤ n → max a b ≤ n
larger a b n p q = omega (arith, p, q)

pub both_within : (a b n : Needs) → Within a n → Within b n → Within (both a b) n
both_within a b n p q = record {
  stack = larger a.stack b.stack n.stack p.stack q.stack;
  frame = larger a.frame b.frame n.frame p.frame q.frame;
  unfit = either a.unfit b.unfit n.unfit p.unfit q.unfit;
}

-- ---- objects that are unfit

unfit_among : (s : Scope) (all : Scope) (n : ℕ) (r : Role) (t : Subtype) → entity_of (slice_get all n) ≡ Some (Object r t) → is_fit (shape_of s t) ≡ false
    → are_unfit s all ≡ true
unfit_among s [] n r t is h = cc
unfit_among s (m ∷ all) zero r t is h = or_left (is_unfit s m.entity) (are_unfit s all) (same m.entity is)
  where
    same : (e : Entity) → Some e ≡ Some (Object r t) → is_unfit s e ≡ true
    same e k = ap (is_unfit s) (same_some e (Object r t) k) ∙ ap not h
unfit_among s (m ∷ all) (suc n) r t is h = or_right (is_unfit s m.entity) (are_unfit s all) (unfit_among s all n r t is h)

object_first : (n : ℕ) (o : Option Entity) (r : Role) (t : Subtype) → stands_for n o ≡ standing.Part r t → o ≡ Some (Object r t)
object_first n (Some (Object q u)) r t h = (let a : standing.Part q u ≡ standing.Part r t = h in cc)
object_first n o r t h = cc

pub unfit_there : (v : Visible) → HasUnfitObject v → has_unfit v ≡ true
unfit_there v u = by_number (number_of v.scope u.name) refl
  where
    by_number : (o : Option ℕ) → number_of v.scope u.name ≡ o → has_unfit v ≡ true
    by_number (Some n) is =
        unfit_among v.scope v.scope n u.role u.subtype
        (object_first n (entity_at v.scope n) u.role u.subtype (ap (stands_first v.scope) (sym is) ∙ u.stands)) u.unfit
    by_number None is = (let never : standing.Doubtful ≡ standing.Part u.role u.subtype = ap (stands_first v.scope) (sym is) ∙ u.stands in cc)

-- ---- refusals of parts

most_within : (a b : Needs) → Within a b → max a.stack a.frame ≤ max b.stack b.frame
most_within a b p = each a.stack a.frame b.stack b.frame p.stack p.frame
  where
    each : (m n k l : ℕ) → m ≤ k → n ≤ l → max m n ≤ max k l
    each m n k l p q = omega (arith, p, q)

pub needing_refused : (m n : ℕ) (a b : Needs) → m ≤ n → Within a b → (why : Refusal) → IsNeeding m a why → IsNeeding n b why
needing_refused m n a b up within why r =
    refused_beside m n (max a.stack a.frame) (max b.stack b.frame) within.unfit up (most_within a b within) why r

-- ... and as many labels as the part are no more than those of the whole
pub labelled : (few many : List (List ℕ)) → length few ≤ length many → (why : Refusal) → HasManyLabels few why → HasManyLabels many why
labelled few many less (refusal.Limit limits.Labels) h = omega (arith, h, less)
labelled few many less why h = absurd h

-- of code that says what it needs in the words of expressions
pub code_refused : (a : Type 0) (m n h : ℕ) (b : Needs) → m ≤ n → h ≤ max b.stack b.frame → (a → b.unfit ≡ true) → (why : Refusal)
    → IsRefusedBeside a m h why → IsNeeding n b why
code_refused a m n h b up high unfit why r = refused_beside m n h (max b.stack b.frame) unfit up high why r

-- of instructions
pub plain_needing : (m n h : ℕ) (b : Needs) (why : Refusal) → m ≤ n → h ≤ max b.stack b.frame → IsRefused m h why → IsNeeding n b why
plain_needing m n h b why up high r = code_refused ⊥ m n h b up high (λ x. absurd x) why r

-- ... one behind another
pub plain_more : (m n h k : ℕ) → m ≤ n → h ≤ k → (why : Refusal) → IsRefused m h why → IsRefused n k why
plain_more m n h k up high why r = refused_beside m n h k (λ x. x) up high why r

pub stack_within : (h : ℕ) (b : Needs) → h ≤ b.stack → h ≤ max b.stack b.frame
stack_within h b p = over h b.stack b.frame p
  where
    over : (p k l : ℕ) → p ≤ k → p ≤ max k l
    over p k l h = omega (arith, h)
