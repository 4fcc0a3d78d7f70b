-- Tables in which one row has changed.
use Rattle.std.proofs.Common.{◌≡◌, ◌≢◌, ◌<◌, ◌≤◌, ◌+◌, ◌*◌, ⊎_elim, ℕ, Bool, true, false, List, ◌∷◌, length, refl, sym, ap, ◌∙◌, subst, Some, arith}
use Rattle.std.proofs.lemmas.Bool.Decides.{eqb_tells}
use Rattle.std.proofs.lemmas.List.{get_or-set_other, get_or-set_same, get_or-replicate}
use Rattle.std.specs.Prelude.{◌&&◌, nat_eq, replicate, slice_index_or, slice_set, if◌then◌else◌}
use Rattle.base.specs.declared.limits.TheConstants.{OBJECTS}
use Rattle.tracing.specs.declared.calls.TheConstants.{ACTORS}
use Rattle.measuring.specs.Measures.{measures, object_measures, usage_measures}
use Rattle.measuring.specs.Stories.{ObjectCalls, Stories, Usages, with_call, with_notice, with_usage}
use Rattle.measuring.specs.Tables.{IsGrid, IsTable}
use Rattle.measuring.specs.declared.actor.ActorMeasures.{ActorMeasures}
use Rattle.measuring.specs.declared.happening.Call.{Call}
use Rattle.measuring.specs.declared.happening.Notice.{Notice}
use Rattle.measuring.specs.declared.object.ObjectMeasures.{ObjectMeasures}
use Rattle.measuring.specs.declared.usage.UsageMeasures.{UsageMeasures}
use Rattle.measuring.specs.declared.usage.UsageNotice.{UsageNotice}

module _ {X : Type 0} (table : List X) (f g : ℕ → X) (u : ℕ) (x : X) (long : length table ≡ ACTORS) (is : IsTable table f) (less : u < ACTORS) (new : x ≡ g u) (others : (t : ℕ) → nat_eq t u ≡ false → f t ≡ g t) where
  pub row_set : IsTable (slice_set table u x) g
  row_set n d among =
      ⊎_elim
      (λ (h : (nat_eq n u ≡ true) × (n ≡ u)).
      ap (λ k. slice_index_or (slice_set table u x) k d) h.1
      ∙ (get_or-set_same table u x d (subst (λ k. u < k) (sym long) less) ∙ (new ∙ ap g (sym h.1))))
      (λ (h : (nat_eq n u ≡ false) × (n ≢ u)). get_or-set_other table u n x d h.1 ∙ (is n d among ∙ others n h.0))
      (eqb_tells n u)

pub same_rows : {X : Type 0} (x : X) → IsTable (replicate ACTORS x) (λ n. x)
same_rows x n d less = get_or-replicate ACTORS n x d less

same : (u : ℕ) → nat_eq u u ≡ true
same u = ⊎_elim (λ h. h.0) (λ h. absurd (h.1 refl)) (eqb_tells u u)

-- the table of tasks, with what has happened to one of them
pub notice_set : (table : List ActorMeasures) (stories : Stories) (notice : Notice) (x : ActorMeasures) → length table ≡ ACTORS → IsTable table (λ t. measures (stories t)) → notice.task < ACTORS →
    x ≡ measures (notice.happening ∷ stories notice.task) → IsTable (slice_set table notice.task x) (λ t. measures (with_notice (Some notice) stories t))
notice_set table stories notice x long is less new =
    row_set table (λ t. measures (stories t)) (λ t. measures (with_notice (Some notice) stories t)) notice.task x long is less
    (new ∙ ap (λ b. measures (if b then notice.happening ∷ stories notice.task else stories notice.task)) (sym (same notice.task)))
    (λ t other. ap (λ b. measures (if b then notice.happening ∷ stories t else stories t)) (sym other))

-- the table of objects, with a call of one of them
pub call_set : (table : List ObjectMeasures) (calls : ObjectCalls) (call : Call) (x : ObjectMeasures) → length table ≡ ACTORS → IsTable table (λ o. object_measures (calls o)) → call.object < ACTORS →
    x ≡ object_measures (call.is_queued ∷ calls call.object) → IsTable (slice_set table call.object x) (λ o. object_measures (with_call (Some call) calls o))
call_set table calls call x long is less new =
    row_set table (λ o. object_measures (calls o)) (λ o. object_measures (with_call (Some call) calls o)) call.object x long is less
    (new ∙ ap (λ b. object_measures (if b then call.is_queued ∷ calls call.object else calls call.object)) (sym (same call.object)))
    (λ o other. ap (λ b. object_measures (if b then call.is_queued ∷ calls o else calls o)) (sym other))

-- The table of tasks at objects

-- other places are of other pairs
differs : (t u o p : ℕ) → t * OBJECTS + o ≢ u * OBJECTS + p → (nat_eq t u && nat_eq o p) ≡ false
differs t u o p other =
    ⊎_elim
    (λ (h : (nat_eq t u ≡ true) × (t ≡ u)).
    ⊎_elim
    (λ (e : (nat_eq o p ≡ true) × (o ≡ p)). absurd (other (λ j. h.1 j * OBJECTS + e.1 j)))
    (λ (e : (nat_eq o p ≡ false) × (o ≢ p)). λ j. h.0 j && e.0 j)
    (eqb_tells o p))
    (λ (h : (nat_eq t u ≡ false) × (t ≢ u)). ap (λ b. b && nat_eq o p) h.0)
    (eqb_tells t u)

module _ {X : Type 0} (table : List X) (f g : ℕ → ℕ → X) (u p : ℕ) (x : X) (long : length table ≡ ACTORS * OBJECTS) (is : IsGrid table f) (less : u < ACTORS) (small : p < OBJECTS) (new : x ≡ g u p) (others : (t o : ℕ) → (nat_eq t u && nat_eq o p) ≡ false → f t o ≡ g t o) where
  grid_set : IsGrid (slice_set table (u * OBJECTS + p) x) g
  grid_set t o d among within =
      let room : u * OBJECTS + p < length table = omega (arith, long, less, small) in
      ⊎_elim
      (λ (h : (nat_eq (t * OBJECTS + o) (u * OBJECTS + p) ≡ true) × (t * OBJECTS + o ≡ u * OBJECTS + p)).
      let task : u ≡ t = omega (arith, h.1, small, within) in
      let object : p ≡ o = omega (arith, h.1, small, within) in
      ap (λ k. slice_index_or (slice_set table (u * OBJECTS + p) x) k d) h.1
      ∙ (get_or-set_same table (u * OBJECTS + p) x d room ∙ (new ∙ (λ j. g (task j) (object j)))))
      (λ (h : (nat_eq (t * OBJECTS + o) (u * OBJECTS + p) ≡ false) × (t * OBJECTS + o ≢ u * OBJECTS + p)).
      get_or-set_other table (u * OBJECTS + p) (t * OBJECTS + o) x d h.1 ∙ (is t o d among within ∙ others t o (differs t u o p h.1)))
      (eqb_tells (t * OBJECTS + o) (u * OBJECTS + p))

pub same_grid : {X : Type 0} (x : X) → IsGrid (replicate (ACTORS * OBJECTS) x) (λ t o. x)
same_grid x t o d less small = get_or-replicate (ACTORS * OBJECTS) (t * OBJECTS + o) x d (omega (arith, less, small))

-- with what a task has done at an object
pub usage_set : (table : List UsageMeasures) (used : Usages) (n : UsageNotice) (x : UsageMeasures) → length table ≡ ACTORS * OBJECTS → IsGrid table (λ t o. usage_measures (used t o)) → n.task < ACTORS → n.object < OBJECTS →
    x ≡ usage_measures (n.usage ∷ used n.task n.object) → IsGrid (slice_set table (n.task * OBJECTS + n.object) x) (λ t o. usage_measures (with_usage (Some n) used t o))
usage_set table used n x long is less small new =
    grid_set table (λ t o. usage_measures (used t o)) (λ t o. usage_measures (with_usage (Some n) used t o)) n.task n.object x long is less small
    (new ∙ ap (λ b. usage_measures (if b then n.usage ∷ used n.task n.object else used n.task n.object)) (sym (λ j. same n.task j && same n.object j)))
    (λ t o other. ap (λ b. usage_measures (if b then n.usage ∷ used t o else used t o)) (sym other))

-- an object beyond the table has no row
never : (b : Bool) → (b && false) ≡ false
never true = refl
never false = refl

pub usage_beyond : (table : List UsageMeasures) (used : Usages) (n : UsageNotice) → IsGrid table (λ t o. usage_measures (used t o)) → OBJECTS ≤ n.object → IsGrid table (λ t o. usage_measures (with_usage (Some n) used t o))
usage_beyond table used n is beyond t o d less small =
    let other : (nat_eq t n.task && nat_eq o n.object) ≡ false =
    ⊎_elim
    (λ (h : (nat_eq o n.object ≡ true) × (o ≡ n.object)). absurd (omega (arith, h.1, small, beyond)))
    (λ (h : (nat_eq o n.object ≡ false) × (o ≢ n.object)). ap (λ b. nat_eq t n.task && b) h.0 ∙ never (nat_eq t n.task))
    (eqb_tells o n.object) in
    is t o d less small ∙ ap (λ b. usage_measures (if b then n.usage ∷ used t o else used t o)) (sym other)
