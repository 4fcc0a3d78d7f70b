-- What is known of a queued caller, and of one that is served.
use Rattle.std.proofs.Common.{◌≡◌, ℕ, ◌+◌, ◌<◌, ◌≤◌, length, Bool, true, Option, Some, None, refl, sym, ap, ◌∙◌, subst, arith}
use Rattle.std.proofs.lemmas.Bool.{and_parts, leb-true}
use Rattle.std.proofs.lemmas.Option.{none-some, same_Some, slice_get_within}
use Rattle.std.specs.Prelude.{slice_get, nat_le}
use Rattle.base.specs.declared.limits.TheConstants.{INSTRUCTIONS}
use Rattle.image.specs.Frames.{Frame, TaskState}
use Rattle.image.specs.Operations.{called, called_if, entry_called, entry_of, given_by, parameters_of, results_of, taken_by}
use Rattle.image.specs.RuleFacts.{facts}
use Rattle.image.specs.RuleLaws.{placed-at, some_and-true}
use Rattle.image.specs.Rules.{IsWellFormed, is_subprogram, names_things}
use Rattle.image.specs.Sections.{Sections}
use Rattle.image.specs.declared.instruction.Operation.{Operation}
use Rattle.image.specs.declared.instruction.Operation.TheVariants.{Call, EntryCall, ProtectedCall}
use Rattle.image.specs.declared.subprograms.Subprogram.{Subprogram}
use Rattle.image_laws.specs.Laws.{CodeLeadsOn, ImagesHaveSize}
use Rattle.image_laws.specs.Linked.{IsAwaiting, IsCalling}
use Rattle.image_laws.specs.Room.{widest}
use Rattle.image_laws.specs.Shape.{callee}
use Rattle.image_laws.proofs.Widest.{within_widest}

-- the subprogram of an entry, whose parameters the caller has on its operand stack
pub record Entry (i : Sections) (o : ℕ) (f : Frame) : Type 0 where
  pub n : ℕ
  pub s : Subprogram
  pub entry : entry_of (slice_get i.objects o) ≡ Some n
  pub is_called : called i n ≡ Some s
  pub there : s.parameters ≤ length f.stack
  pub fits : s.parameters ≤ s.locals
  pub room : s.locals ≤ widest i

-- a frame that waits at a call has room for the results, and a place to go on at
pub record HasRoomFor (width n : ℕ) (f : Frame) : Type 0 where
  pub next : f.place < INSTRUCTIONS
  pub room : length f.locals + length f.stack + n ≤ width

module _ (i : Sections) (w : IsWellFormed i) (leads : CodeLeadsOn) (size : ImagesHaveSize) where
  pub subprogram_fits : (n : ℕ) (s : Subprogram) → called i n ≡ Some s → (s.parameters ≤ s.locals) × (s.locals ≤ widest i)
  subprogram_fits n s is =
      let here = and_parts (nat_le s.parameters s.locals) _ (placed-at (is_subprogram i) i.subprograms n s (facts i w).subprograms is) in
      let narrow = within_widest i.subprograms n s is in
      (leb-true _ _ here.0, omega (arith, narrow))

  entry_by : (o : ℕ) (f : Frame) (e : Option ℕ) → entry_of (slice_get i.objects o) ≡ e → (s : Subprogram) → called_if i e ≡ Some s → parameters_of (called_if i e) ≤ length f.stack → Entry i o f
  entry_by o f None is s there enough = absurd (none-some s there)
  entry_by o f (Some n) is s there enough =
      let fits = subprogram_fits n s there in
      record { n = n; s = s; entry = is; is_called = there; there = subst (λ c. parameters_of c ≤ length f.stack) there enough; fits = fits.0; room = fits.1 }

  -- the entry that a queued caller calls
  pub entry_is : (o : ℕ) (own : Bool) (u : TaskState) → IsCalling i own o u → Entry i o u.frame
  entry_is o own u c =
      let g = c.going in
      let x = leads i w u.frame.place g.s g.x g.stands.instruction g.stands.within in
      let names = subst (λ v. names_things i g.s v ≡ true) c.at_call x.names in
      let there = some_and-true (entry_called i o) _ names in
      let taken : parameters_of (entry_called i o) ≤ g.x.depth = subst (λ v. taken_by i g.s.results v ≤ g.x.depth) c.at_call x.taken in
      entry_by o u.frame (entry_of (slice_get i.objects o)) refl there.0 there.1 (omega (arith, taken, g.depth))

  taken_at : (results n : ℕ) (x : Operation) → callee i x ≡ Some n → taken_by i results x ≡ parameters_of (called i n)
  taken_at results n (Call m) e = ap (λ k. parameters_of (called i k)) (same_Some m n e)
  taken_at results n (ProtectedCall m) e = ap (λ k. parameters_of (called i k)) (same_Some m n e)
  taken_at results n (EntryCall o) e = ap (λ v. parameters_of (called_if i v)) e
  taken_at results n _ e = absurd (none-some n e)

  given_at : (n : ℕ) (x : Operation) → callee i x ≡ Some n → given_by i x ≡ results_of (called i n)
  given_at n (Call m) e = ap (λ k. results_of (called i k)) (same_Some m n e)
  given_at n (ProtectedCall m) e = ap (λ k. results_of (called i k)) (same_Some m n e)
  given_at n (EntryCall o) e = ap (λ v. results_of (called_if i v)) e
  given_at n _ e = absurd (none-some n e)

  -- a served caller has room for the entry's results
  pub room_for : (o : ℕ) (own : Bool) (u : TaskState) → IsAwaiting i own o u → HasRoomFor (widest i) (results_of (entry_called i o)) u.frame
  room_for o own u a =
      let q = a.waiting in
      let x = leads i w u.frame.place q.s q.x q.stands.instruction q.stands.within in
      let takes = taken_at q.s.results a.n q.x.operation q.calls in
      let gives = given_at a.n q.x.operation q.calls ∙ ap (λ v. results_of (called_if i v)) (sym a.entry) in
      let inside = slice_get_within i.instructions u.frame.place q.x q.stands.instruction in
      let few = (size i w).instructions in
      record { next = omega (arith, inside, few); room = omega (arith, x.after, x.narrow, x.taken, takes, gives, q.depth, q.stands.locals) }
