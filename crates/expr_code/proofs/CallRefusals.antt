-- What refuses calls of functions through the names of protected objects: the source and the kernel agree (RM 9.5.1, D.3).
use Rattle.std.proofs.Common.{◌≡◌, ℕ, List, [], ◌∷◌, Some, None, true, false, refl, sym, ap, ◌∙◌, rules}
use Rattle.std.specs.Prelude.{map, max, nat_eq, nat_le, nat_lt, ◌||◌, if◌then◌else◌}
use Rattle.base.specs.declared.exceptions.PredefinedException.TheVariants.{ProgramError}
use Rattle.kernel.specs.Effects.{AboveCeiling, SameObject, call_refusal, is_above_ceiling}
use Rattle.kernel.specs.State as kernel
use Rattle.kernel.specs.State.{Action, Kernel, active, is_object_open, object_of}
use Rattle.types.specs.Entities.{ProtectedObject}
use Rattle.types.specs.Evaluating.{Calls, external_call}
use Rattle.types.specs.Evaluations.{Val, raise}
use Rattle.types.specs.Places as place
use Rattle.types.specs.Places.{Function, Place, active_priority, ceiling_of, is_among}
use Rattle.types.specs.Scopes.{Scope}
use Rattle.types.specs.Values.{Value}

-- ---- what refuses a call

among : (actions : List Action) (o : ℕ) → is_among (map object_of actions) o ≡ is_object_open o actions
among [] o = refl
among (a ∷ outer) o = ap (λ b. nat_eq (object_of a) o || b) (among outer o)

raised_same : (s : Scope) (base : ℕ) (actions : List Action) → place.raised s base (map object_of actions) ≡ kernel.raised (ceiling_of s) base actions
raised_same s base [] = refl
raised_same s base (a ∷ outer) = ap (max (ceiling_of s (object_of a))) (raised_same s base outer)

is_within : (n m : ℕ) → nat_lt m n ≡ false → nat_le n m ≡ true
is_within n m h = search rules

is_above : (n m : ℕ) → nat_lt m n ≡ true → nat_le n m ≡ false
is_above n m h = search rules

-- the place knows of the task what the kernel knows
module _ (k : Kernel) (t : ℕ) (p : Place) (opened : p.actions ≡ map object_of (k.actions t)) (base : p.priority ≡ k.partition.base t)
    (ceilings : ceiling_of p.scope ≡ k.partition.ceiling) where
  open_same : (o : ℕ) → is_among p.actions o ≡ is_object_open o (k.actions t)
  open_same o = ap (λ l. is_among l o) opened ∙ among (k.actions t) o

  active_same : active_priority p ≡ active k t
  active_same =
      (λ j. place.raised p.scope (base j) (opened j)) ∙ raised_same p.scope (k.partition.base t) (k.actions t)
      ∙ ap (λ c. kernel.raised c (k.partition.base t) (k.actions t)) ceilings

  -- what the source makes of a call, by what the kernel says of it
  module _ (calls : Calls) (f : Function) (o : ProtectedObject) (vs : List Value) (ceiling : ceiling_of p.scope o.number ≡ o.ceiling) where
    ceiling_same : k.partition.ceiling o.number ≡ o.ceiling
    ceiling_same = ap (λ c. c o.number) (sym ceilings) ∙ ceiling

    abbrev body : Val Value
    body = calls (record p { actions = o.number ∷ p.actions }) f vs

    pub called_same : is_object_open o.number (k.actions t) ≡ true → external_call calls p f o vs ≡ raise ProgramError
    called_same is =
        ap (λ b. if b then raise ProgramError else (if nat_le (active_priority p) o.ceiling then body else raise ProgramError)) (open_same o.number ∙ is)

    pub called_above : is_object_open o.number (k.actions t) ≡ false → is_above_ceiling k t o.number ≡ true → external_call calls p f o vs ≡ raise ProgramError
    called_above is above =
        ap (λ b. if b then raise ProgramError else (if nat_le (active_priority p) o.ceiling then body else raise ProgramError)) (open_same o.number ∙ is)
        ∙ ap (λ b. if b then body else raise ProgramError)
        (ap (λ n. nat_le n o.ceiling) active_same
        ∙ is_above (active k t) o.ceiling (ap (λ c. nat_lt c (active k t)) (sym ceiling_same) ∙ above))

    pub called_within : is_object_open o.number (k.actions t) ≡ false → is_above_ceiling k t o.number ≡ false → external_call calls p f o vs ≡ body
    called_within is within =
        ap (λ b. if b then raise ProgramError else (if nat_le (active_priority p) o.ceiling then body else raise ProgramError)) (open_same o.number ∙ is)
        ∙ ap (λ b. if b then body else raise ProgramError)
        (ap (λ n. nat_le n o.ceiling) active_same
        ∙ is_within (active k t) o.ceiling (ap (λ c. nat_lt c (active k t)) (sym ceiling_same) ∙ within))

-- the kernel's refusal, by what it knows of the object
pub refusal_same : (k : Kernel) (t o : ℕ) → is_object_open o (k.actions t) ≡ true → call_refusal k t o ≡ Some SameObject
refusal_same k t o is = ap (λ b. if b then Some SameObject else (if is_above_ceiling k t o then Some AboveCeiling else None)) is

pub refusal_above : (k : Kernel) (t o : ℕ) → is_object_open o (k.actions t) ≡ false → is_above_ceiling k t o ≡ true → call_refusal k t o ≡ Some AboveCeiling
refusal_above k t o is above =
    ap (λ b. if b then Some SameObject else (if is_above_ceiling k t o then Some AboveCeiling else None)) is
    ∙ ap (λ b. if b then Some AboveCeiling else None) above

pub refusal_none : (k : Kernel) (t o : ℕ) → is_object_open o (k.actions t) ≡ false → is_above_ceiling k t o ≡ false → call_refusal k t o ≡ None
refusal_none k t o is within =
    ap (λ b. if b then Some SameObject else (if is_above_ceiling k t o then Some AboveCeiling else None)) is
    ∙ ap (λ b. if b then Some AboveCeiling else None) within

-- it is the same in kernels that know the same of the task
pub refusal_stays : (k l : Kernel) (t o : ℕ) → l.actions t ≡ k.actions t → l.partition ≡ k.partition → call_refusal l t o ≡ call_refusal k t o
refusal_stays k l t o opened ranked = λ j.
    if is_object_open o (opened j)
    then Some SameObject
    else (if nat_lt ((ranked j).ceiling o) (kernel.raised (ranked j).ceiling ((ranked j).base t) (opened j)) then Some AboveCeiling else None)
