-- The procedure that is attached to a channel, by the rules of well-formed images.
use Rattle.std.proofs.Common.{◌≡◌, ℕ, List, [], ◌∷◌, Bool, true, false, cond, Option, Some, None, eqb, refl, sym, ap, ◌∙◌, subst}
use Rattle.std.proofs.lemmas.Bool.{and_parts, eqb-true, true≢false}
use Rattle.std.proofs.lemmas.Option.{none-some, same_Some}
use Rattle.std.specs.Prelude.{nat_eq, nat_le, nat_lt, slice_get}
use Rattle.base.specs.declared.limits.TheConstants.{CEILING, CHANNELS}
use Rattle.image.specs.Attachments.{attached_to, handling_object}
use Rattle.image.specs.Frames.{kind_of}
use Rattle.image.specs.ObjectTable.{ObjectRow}
use Rattle.image.specs.Operations.{called, called_if}
use Rattle.image.specs.RuleFacts.{facts}
use Rattle.image.specs.RuleLaws.{some_and-true}
use Rattle.image.specs.Rules.{IsWellFormed, are_attached, is_attached, is_handling_kind, may_handle, some_and}
use Rattle.image.specs.Sections.{Sections, object_of}
use Rattle.image.specs.declared.attachments.Attachment.{Attachment}
use Rattle.image.specs.declared.subprograms.Kind.{Kind}
use Rattle.image.specs.declared.subprograms.Kind.TheVariants.{Plain, ProtectedProcedure, ProtectedFunction, EntryBody, TaskBody}
use Rattle.image.specs.declared.subprograms.Subprogram.{Subprogram}

-- procedure n of an object of the highest ceiling, without parameters and results
pub record HandlerProcedure (i : Sections) (n : ℕ) : Type 0 where
  pub s : Subprogram
  pub there : called i n ≡ Some s
  pub object : ℕ
  pub kind : s.kind ≡ ProtectedProcedure object
  pub parameters : s.parameters ≡ 0
  pub results : s.results ≡ 0
  pub row : ObjectRow
  pub row_is : slice_get i.objects object ≡ Some row
  pub ceiling : row.ceiling ≡ CEILING

module _ (i : Sections) where
  by_kind : (n : ℕ) (s : Subprogram) → called i n ≡ Some s → (kind : Kind) → s.kind ≡ kind → is_handling_kind i kind ≡ true → s.parameters ≡ 0 → s.results ≡ 0 → HandlerProcedure i n
  by_kind n s there (ProtectedProcedure o) kind handles parameters results =
      let r = some_and-true (slice_get i.objects o) (λ row. nat_eq row.ceiling CEILING) handles in
      record { s = s; there = there; object = o; kind = kind; parameters = parameters; results = results; row = r.0; row_is = r.1; ceiling = eqb-true r.0.ceiling CEILING r.2 }
  by_kind n s there Plain kind handles parameters results = absurd (true≢false (sym handles))
  by_kind n s there (ProtectedFunction o) kind handles parameters results = absurd (true≢false (sym handles))
  by_kind n s there (EntryBody o) kind handles parameters results = absurd (true≢false (sym handles))
  by_kind n s there TaskBody kind handles parameters results = absurd (true≢false (sym handles))

  of_attachment : (last : ℕ) (a : Attachment) → is_attached i last a ≡ true → HandlerProcedure i a.subprogram
  of_attachment last a e =
      let above = and_parts (nat_lt last a.channel) _ e in
      let within = and_parts (nat_le a.channel CHANNELS) _ above.1 in
      let there = some_and-true (called i a.subprogram) (may_handle i) within.1 in
      let s = there.0 in
      let handles = and_parts (is_handling_kind i s.kind) _ there.2 in
      let none = and_parts (nat_eq s.parameters 0) _ handles.1 in
      by_kind a.subprogram s there.1 s.kind refl handles.0 (eqb-true s.parameters 0 none.0) (eqb-true s.results 0 none.1)

  attached_handles : (xs : List Attachment) (last channel n : ℕ) → are_attached i last xs ≡ true → attached_to channel xs ≡ Some n → HandlerProcedure i n
  attached_handles [] last channel n all is = absurd (none-some n is)
  attached_handles (a ∷ xs) last channel n all is =
      let both = and_parts (is_attached i last a) _ all in
      by (nat_eq a.channel channel) (λ e. attached_handles xs a.channel channel n both.1 e) is
    where
      by : (b : Bool) → (attached_to channel xs ≡ Some n → HandlerProcedure i n) → cond b (Some a.subprogram) (attached_to channel xs) ≡ Some n → HandlerProcedure i n
      by true rest e = subst (HandlerProcedure i) (same_Some _ _ e) (of_attachment last a (and_parts (is_attached i last a) _ all).0)
      by false rest e = rest e

pub handler_procedure : (i : Sections) → IsWellFormed i → (channel n : ℕ) → attached_to channel i.attachments ≡ Some n → HandlerProcedure i n
handler_procedure i w channel n is = attached_handles i i.attachments 0 channel n (facts i w).attached is

-- a channel whose interrupts have an object has a handler
pub handling_at : (i : Sections) (channel o : ℕ) → handling_object i channel ≡ Some o → (n : ℕ) × (attached_to channel i.attachments ≡ Some n)
handling_at i channel o is = by (attached_to channel i.attachments) is
  where
    by : (a : Option ℕ) → object_of (kind_of (called_if i a)) ≡ Some o → (n : ℕ) × (a ≡ Some n)
    by None e = absurd (none-some o e)
    by (Some n) e = (n, refl)

-- its object is that of the interrupts
pub handling_is : (i : Sections) (w : IsWellFormed i) (channel n o : ℕ) (is : attached_to channel i.attachments ≡ Some n) → handling_object i channel ≡ Some o → (handler_procedure i w channel n is).object ≡ o
handling_is i w channel n o is e =
    let h = handler_procedure i w channel n is in
    let own : handling_object i channel ≡ Some h.object = ap (λ a. object_of (kind_of (called_if i a))) is ∙ (ap (λ c. object_of (kind_of c)) h.there ∙ ap object_of h.kind) in
    same_Some _ _ (sym own ∙ e)
