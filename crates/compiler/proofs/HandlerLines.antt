-- The attachments of a program's image keep the rules of images: channels rise, and each names a procedure, without parameters, of an object with the highest
-- ceiling (RM C.3.1).
use Rattle.std.proofs.Common.{◌≡◌, ◌+◌, ◌<◌, ◌≤◌, ℕ, zero, suc, length, Option, Some, None, true, ◌&&◌, refl, sym, ap, ◌∙◌, subst, arith}
use Rattle.std.specs.Prelude.{nat_eq, nat_le, nat_lt, slice_get}
use Rattle.std.proofs.lemmas.Bool.{and_from, eq-eqb, le-leb, lt-ltb}
use Rattle.std.proofs.lemmas.Option.{none-some}
use Rattle.base.specs.declared.limits.TheConstants.{CEILING, CHANNELS}
use Rattle.ada_tree.specs.ProgramTree.{ProgramTree}
use Rattle.image.specs.Operations.{called}
use Rattle.image.specs.Rules.{are_attached, is_handling_kind, may_handle, some_and}
use Rattle.image.specs.Sections.{Sections}
use Rattle.types.specs.Scopes.{Scope}
use Rattle.legality.specs.ProgramRules.{IsLegal}
use Rattle.ravenscar.specs.ProgramRules.{IsRestricted}
use Rattle.meaning.specs.Programs.{Attached, handler_at, program_of}
use Rattle.program_soundness.specs.step_soundness.specs.Starting.{IsSoundHandler}
use Rattle.program_soundness.proofs.Listing.{same_some}
use Rattle.package_code.specs.Handlers.{attachments_from, handler_of_package, handler_told, number_or_none, with_attachment}
use Rattle.package_code.specs.Program.{HasProgram}
use Rattle.package_code.specs.declared.directory.Directory.{Directory}
use Rattle.package_code.proofs.ChannelHandlers.{package_is}
use Rattle.package_code.proofs.HandlerBodies.{IsHandlerBody, handler_body, handler_number}
use Rattle.package_code.proofs.HandlerRows.{IsHandlerCode, handler_code, handler_numbered}
use Rattle.package_code.proofs.InFront.{LawsOfNames}
use Rattle.compiler.proofs.ObjectLines.{ceiling_is, is_there, object_within}

module _ (laws : LawsOfNames) (t : ProgramTree) (legal : IsLegal t) (restricted : IsRestricted t) (i : Sections) (h : HasProgram t i) where
  abbrev scope : Scope
  scope = (program_of t).scope

  abbrev d : Directory
  d = h.directory

  -- ---- the procedure of a handler

  module _ (a : Attached) (s : IsSoundHandler (program_of t) a) where
    abbrev y : IsHandlerBody laws t legal restricted a s
    y = handler_body laws t legal restricted a s

    abbrev code : IsHandlerCode laws t legal restricted a s i h
    code = handler_code laws t legal restricted a s i h

    object_there : a.object < length i.objects
    object_there = subst (λ n. n < length i.objects) y.number (object_within laws t legal restricted i h y.place y.name y.items y.end_name y.at)

    -- its object has the highest ceiling
    highest : some_and (slice_get i.objects a.object) (λ row. nat_eq row.ceiling CEILING) ≡ true
    highest =
        let r = is_there i.objects a.object object_there in
        let same = ceiling_is laws t legal restricted i h a.object r.0 r.1 in
        let high = s.highest in
        ap (λ o. some_and o (λ row. nat_eq row.ceiling CEILING)) r.1 ∙ eq-eqb r.0.ceiling CEILING (omega (arith, same, high))

    may : may_handle i code.s ≡ true
    may =
        and_from (is_handling_kind i code.s.kind) (nat_eq code.s.parameters 0 && nat_eq code.s.results 0) (ap (is_handling_kind i) code.kind ∙ highest)
        (and_from (nat_eq code.s.parameters 0) (nat_eq code.s.results 0) (eq-eqb code.s.parameters 0 code.parameters) (eq-eqb code.s.results 0 code.results))

    procedure_right : some_and (called i (handler_number laws t legal restricted a s)) (may_handle i) ≡ true
    procedure_right = ap (λ c. some_and c (may_handle i)) code.there ∙ may

  -- ---- the handler of a channel

  abbrev told : ℕ → Option ℕ
  told channel = number_or_none (handler_told scope d (handler_of_package scope channel t.package_))

  told_right : (channel n : ℕ) → told channel ≡ Some n → some_and (called i n) (may_handle i) ≡ true
  told_right channel n is = by_handler (handler_at channel (program_of t).handlers) refl
    where
      by_handler : (o : Option Attached) → handler_at channel (program_of t).handlers ≡ o → some_and (called i n) (may_handle i) ≡ true
      by_handler None none =
          absurd (none-some n
          (sym (ap (λ x. number_or_none (handler_told scope d x)) (package_is scope channel t.package_ ∙ none)) ∙ is))
      by_handler (Some a) some =
          let s = (laws.starts t legal restricted).handlers channel a some in
          let number = handler_number laws t legal restricted a s in
          let same : number ≡ n =
          same_some number n
          (sym (handler_numbered laws t legal restricted a s i h)
          ∙ (sym (ap (λ x. number_or_none (handler_told scope d x)) (package_is scope channel t.package_ ∙ some)) ∙ is)) in
          subst (λ m. some_and (called i m) (may_handle i) ≡ true) same (procedure_right a s)

  -- ---- all channels

  from_right : (many from last : ℕ) → last < from → from + many ≤ suc CHANNELS → are_attached i last (attachments_from scope d t.package_ from many) ≡ true
  from_right zero from last less up = refl
  from_right (suc many) from last less up =
      by_number (told from) refl (λ last below. from_right many (suc from) last below (omega (arith, up)))
    where
      by_number : (o : Option ℕ) → told from ≡ o
          → ((last : ℕ) → last < suc from → are_attached i last (attachments_from scope d t.package_ (suc from) many) ≡ true)
          → are_attached i last (with_attachment from o (attachments_from scope d t.package_ (suc from) many)) ≡ true
      by_number None is later = later last (omega (arith, less))
      by_number (Some n) is later =
          and_from (nat_lt last from && (nat_le from CHANNELS && some_and (called i n) (may_handle i)))
          (are_attached i from (attachments_from scope d t.package_ (suc from) many))
          (and_from (nat_lt last from) (nat_le from CHANNELS && some_and (called i n) (may_handle i)) (lt-ltb last from less)
          (and_from (nat_le from CHANNELS) (some_and (called i n) (may_handle i)) (le-leb from CHANNELS (omega (arith, up))) (told_right from n is)))
          (later from (omega arith))

  pub attachments_right : are_attached i 0 i.attachments ≡ true
  attachments_right = ap (are_attached i 0) h.attachments ∙ from_right CHANNELS 1 0 (omega arith) (omega arith)
