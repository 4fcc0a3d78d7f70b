-- The handlers of an image, by the rules of well-formed images, and what one holds at its start.
use Rattle.std.proofs.Common.{◌≡◌, ℕ, zero, suc, ◌-◌, ◌<◌, ◌≤◌, pos, List, [], ◌∷◌, replicate, Bool, true, false, cond, get_or, Option, Some, None, refl, sym, ap, ◌∙◌, subst, arith}
use Rattle.std.proofs.lemmas.Bool.{and_parts, eqb-true, leb-true, true≢false}
use Rattle.std.proofs.lemmas.Option.{none-some, same_Some, slice_get_within}
use Rattle.std.specs.Prelude.{nat_eq, nat_le, nat_lt, slice_get}
use Rattle.base.specs.declared.limits.TheConstants.{CEILING, CHANNELS, OBJECTS, PRIORITIES}
use Rattle.base.specs.declared.schedule.ScheduleLine.{ScheduleLine}
use Rattle.kernel.specs.Interrupts.{interrupt_if, interrupts_of}
use Rattle.kernel.specs.Invariant.{AreAttached}
use Rattle.image.specs.Attachments.{attached_to, handling_object, interrupts}
use Rattle.image.specs.Code.{body_frame, ceiling_of, partition_of}
use Rattle.image.specs.Frames.{Role, TaskState, kind_of}
use Rattle.image.specs.ObjectTable.{ObjectRow}
use Rattle.image.specs.Operations.{called, called_if}
use Rattle.image.specs.RuleFacts.{facts}
use Rattle.image.specs.RuleLaws.{some_and-true}
use Rattle.image.specs.Rules.{IsWellFormed, are_attached, is_attached, is_handling_kind, may_handle}
use Rattle.image.specs.Sections.{Sections, first_place, object_of}
use Rattle.image.specs.Starting.{handler_state, handler_state_of, lowest_frame, role_within}
use Rattle.image.specs.declared.attachments.Attachment.{Attachment}
use Rattle.image.specs.declared.subprograms.Kind.{Kind}
use Rattle.image.specs.declared.subprograms.Kind.TheVariants.{Plain, ProtectedProcedure, ProtectedFunction, EntryBody, TaskBody}
use Rattle.image.specs.declared.subprograms.Subprogram.{Subprogram}
use Rattle.image_laws.specs.Laws.{ImagesHaveSize}
use Rattle.tasking.specs.Held.{pending_of}

-- procedure n of an object of the highest ceiling, without parameters
pub record Handles (i : Sections) (channel n : ℕ) : Type 0 where
  pub low : channel ≤ CHANNELS
  pub s : Subprogram
  pub there : called i n ≡ Some s
  pub object : ℕ
  pub kind : s.kind ≡ ProtectedProcedure object
  pub parameters : s.parameters ≡ 0
  pub row : ObjectRow
  pub row_is : slice_get i.objects object ≡ Some row
  pub ceiling : row.ceiling ≡ CEILING

module _ (i : Sections) (channel : ℕ) (within : channel ≤ CHANNELS) where
  by_kind : (n : ℕ) (s : Subprogram) → called i n ≡ Some s → (kind : Kind) → s.kind ≡ kind → is_handling_kind i kind ≡ true → s.parameters ≡ 0 → Handles i channel n
  by_kind n s there (ProtectedProcedure o) kind handles parameters =
      let r = some_and-true (slice_get i.objects o) (λ row. nat_eq row.ceiling CEILING) handles in
      record { low = within; s = s; there = there; object = o; kind = kind; parameters = parameters; row = r.0; row_is = r.1; ceiling = eqb-true r.0.ceiling CEILING r.2 }
  by_kind n s there Plain kind handles parameters = absurd (true≢false (sym handles))
  by_kind n s there (ProtectedFunction o) kind handles parameters = absurd (true≢false (sym handles))
  by_kind n s there (EntryBody o) kind handles parameters = absurd (true≢false (sym handles))
  by_kind n s there TaskBody kind handles parameters = absurd (true≢false (sym handles))

module _ (i : Sections) (channel : ℕ) where
  of_attachment : (last : ℕ) (a : Attachment) → a.channel ≡ channel → is_attached i last a ≡ true → Handles i channel a.subprogram
  of_attachment last a same e =
      let above = and_parts (nat_lt last a.channel) _ e in
      let within = and_parts (nat_le a.channel CHANNELS) _ above.1 in
      let there = some_and-true (called i a.subprogram) (may_handle i) within.1 in
      let s = there.0 in
      let handles = and_parts (is_handling_kind i s.kind) _ there.2 in
      let none = and_parts (nat_eq s.parameters 0) _ handles.1 in
      by_kind i channel (subst (λ c. c ≤ CHANNELS) same (leb-true a.channel CHANNELS within.0)) a.subprogram s there.1 s.kind refl handles.0 (eqb-true s.parameters 0 none.0)

  attached_handles : (xs : List Attachment) (last n : ℕ) → are_attached i last xs ≡ true → attached_to channel xs ≡ Some n → Handles i channel n
  attached_handles [] last n all is = absurd (none-some n is)
  attached_handles (a ∷ xs) last n all is =
      let both = and_parts (is_attached i last a) _ all in
      by (nat_eq a.channel channel) refl (λ e. attached_handles xs a.channel n both.1 e) is
    where
      by : (b : Bool) → nat_eq a.channel channel ≡ b → (attached_to channel xs ≡ Some n → Handles i channel n) → cond b (Some a.subprogram) (attached_to channel xs) ≡ Some n
          → Handles i channel n
      by true same rest e =
          subst (Handles i channel) (same_Some _ _ e) (of_attachment last a (eqb-true a.channel channel same) (and_parts (is_attached i last a) _ all).0)
      by false same rest e = rest e

module _ (i : Sections) (w : IsWellFormed i) where
  pub handles : (channel n : ℕ) → attached_to channel i.attachments ≡ Some n → Handles i channel n
  handles channel n is = attached_handles i channel i.attachments 0 n (facts i w).attached is

  -- beyond the channels there are no handlers
  pub far_channel : (channel : ℕ) → CHANNELS < channel → handling_object i channel ≡ None
  far_channel channel far = by (attached_to channel i.attachments) refl
    where
      by : (a : Option ℕ) → attached_to channel i.attachments ≡ a → object_of (kind_of (called_if i a)) ≡ None
      by None is = refl
      by (Some n) is = absurd (let low = (handles channel n is).low in omega (arith, low, far))

  -- the object of a handler
  pub handled : (channel n : ℕ) (is : attached_to channel i.attachments ≡ Some n) → handling_object i channel ≡ Some (handles channel n is).object
  handled channel n is =
      let h = handles channel n is in
      ap (λ a. object_of (kind_of (called_if i a))) is ∙ (ap (λ c. object_of (kind_of c)) h.there ∙ ap object_of h.kind)

  pub object_low : ImagesHaveSize → (channel n : ℕ) (s : Subprogram) → attached_to channel i.attachments ≡ Some n → called i n ≡ Some s → (o : ℕ) → object_of s.kind ≡ Some o
      → o < OBJECTS
  object_low size channel n s is there o own =
      let h = handles channel n is in
      let same : h.object ≡ o = same_Some _ _ (sym (ap object_of h.kind) ∙ (ap (λ c. object_of (kind_of c)) (sym h.there ∙ there) ∙ own)) in
      let inside = slice_get_within i.objects h.object h.row h.row_is in
      let few = (size i w).objects in
      omega (arith, same, inside, few)

  pub no_parameters : (channel n : ℕ) (s : Subprogram) → attached_to channel i.attachments ≡ Some n → called i n ≡ Some s → s.parameters ≡ 0
  no_parameters channel n s is there =
      let h = handles channel n is in
      ap (λ x. x.parameters) (same_Some s h.s (sym there ∙ h.there)) ∙ h.parameters

  ceiling_high : (channel o : ℕ) → handling_object i channel ≡ Some o → suc ((partition_of i).ceiling o) ≡ PRIORITIES
  ceiling_high channel o is = by (attached_to channel i.attachments) refl is
    where
      by : (a : Option ℕ) → attached_to channel i.attachments ≡ a → object_of (kind_of (called_if i a)) ≡ Some o → suc ((partition_of i).ceiling o) ≡ PRIORITIES
      by None at e = absurd (none-some o e)
      by (Some n) at e =
          let h = handles channel n at in
          let same : h.object ≡ o = same_Some _ _ (sym (ap (λ c. object_of (kind_of c)) h.there ∙ ap object_of h.kind) ∙ e) in
          ap (λ p. suc (ceiling_of (slice_get i.objects p))) (sym same) ∙ (ap (λ r. suc (ceiling_of r)) h.row_is ∙ ap suc h.ceiling)

  -- so are the objects of the interrupts of a schedule
  pub all_attached : (lines : List ScheduleLine) → AreAttached (partition_of i) (interrupts_of (handling_object i) lines)
  all_attached [] = tt
  all_attached (l ∷ ls) = by (handling_object i l.channel) refl (all_attached ls)
    where
      by : (o : Option ℕ) → handling_object i l.channel ≡ o → AreAttached (partition_of i) (interrupts_of (handling_object i) ls)
          → AreAttached (partition_of i) (interrupt_if o l (interrupts_of (handling_object i) ls))
      by None is rest = rest
      by (Some o) is rest = (ceiling_high l.channel o is, rest)

-- the lines whose channel has a handler, by the objects of handlers
pub pending_is : (i : Sections) (attached : List (Option ℕ)) (lines schedule : List ScheduleLine) → ((channel : ℕ) → get_or attached channel None ≡ handling_object i channel)
    → lines ≡ schedule → pending_of attached lines ≡ interrupts i schedule
pending_is i attached lines schedule objects same = (λ j. interrupts_of (λ channel. objects channel j) lines) ∙ ap (interrupts i) same

-- ---- nine channels

pub nine : (f : ℕ → Option ℕ) (a b c d e g h k l : Option ℕ) → a ≡ f 0 → b ≡ f 1 → c ≡ f 2 → d ≡ f 3 → e ≡ f 4 → g ≡ f 5 → h ≡ f 6 → k ≡ f 7 → l ≡ f 8
    → ((n : ℕ) → CHANNELS < n → f n ≡ None) → (n : ℕ) → get_or (a ∷ b ∷ c ∷ d ∷ e ∷ g ∷ h ∷ k ∷ l ∷ []) n None ≡ f n
nine f a b c d e g h k l p0 p1 p2 p3 p4 p5 p6 p7 p8 far zero = p0
nine f a b c d e g h k l p0 p1 p2 p3 p4 p5 p6 p7 p8 far (suc zero) = p1
nine f a b c d e g h k l p0 p1 p2 p3 p4 p5 p6 p7 p8 far (suc (suc zero)) = p2
nine f a b c d e g h k l p0 p1 p2 p3 p4 p5 p6 p7 p8 far (suc (suc (suc zero))) = p3
nine f a b c d e g h k l p0 p1 p2 p3 p4 p5 p6 p7 p8 far (suc (suc (suc (suc zero)))) = p4
nine f a b c d e g h k l p0 p1 p2 p3 p4 p5 p6 p7 p8 far (suc (suc (suc (suc (suc zero))))) = p5
nine f a b c d e g h k l p0 p1 p2 p3 p4 p5 p6 p7 p8 far (suc (suc (suc (suc (suc (suc zero)))))) = p6
nine f a b c d e g h k l p0 p1 p2 p3 p4 p5 p6 p7 p8 far (suc (suc (suc (suc (suc (suc (suc zero))))))) = p7
nine f a b c d e g h k l p0 p1 p2 p3 p4 p5 p6 p7 p8 far (suc (suc (suc (suc (suc (suc (suc (suc zero)))))))) = p8
nine f a b c d e g h k l p0 p1 p2 p3 p4 p5 p6 p7 p8 far (suc (suc (suc (suc (suc (suc (suc (suc (suc n))))))))) =
    sym (far (suc (suc (suc (suc (suc (suc (suc (suc (suc n))))))))) (omega arith))

-- ---- the start of a handler

-- its procedure's frame stands above the one that never runs
pub handler_is : (i : Sections) (channel n place : ℕ) (s : Subprogram) (role : Role) (below now : TaskState) → attached_to channel i.attachments ≡ Some n → called i n ≡ Some s
    → s.parameters ≡ 0 → place ≡ first_place i n → role ≡ role_within (object_of s.kind) → below ≡ record { frame = lowest_frame i; callers = []; raising = None }
    → now.frame ≡ record { subprogram = n; place = place; locals = replicate (s.locals - s.parameters) (pos 0); stack = []; role = role }
    → now.callers ≡ below.frame ∷ below.callers → now.raising ≡ None → now ≡ handler_state i channel
handler_is i channel n place s role below now is there none at role_is low frame callers raising =
    let all : s.locals - s.parameters ≡ s.locals = omega (arith, none) in
    (λ j. record {
      frame =
          (frame
          ∙ (λ m. record { subprogram = n; place = at m; locals = replicate (all m) (pos 0); stack = []; role = role_is m })) j;
      callers = (callers ∙ ap (λ x. x.frame ∷ x.callers) low) j;
      raising = raising j;
    })
    ∙ (ap (λ c. record { frame = record (body_frame i n c) { role = role_within (object_of (kind_of c)) }; callers = lowest_frame i ∷ []; raising = None }) (sym there)
    ∙ ap (handler_state_of i) (sym is))
