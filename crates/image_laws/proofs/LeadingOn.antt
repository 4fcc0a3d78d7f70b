-- What an instruction of a well-formed image names and what may follow it.
use Rattle.std.proofs.Common.{◌≡◌, ℕ, zero, suc, ◌+◌, ◌-◌, ◌<◌, ◌≤◌, List, [], ◌∷◌, length, Bool, true, false, nat_le, nat_lt, Option, Some, None, refl, sym, ap, ◌∙◌, subst, arith, slice_get}
use Rattle.std.proofs.lemmas.Bool.{and_parts, ltb-true, ltb-false, leb-true}
use Rattle.std.proofs.lemmas.Option.{slice_get_within}
use Rattle.base.specs.declared.limits.TheConstants.{EXCEPTIONS, INSTRUCTIONS, LABELS, OBJECTS, ROWS, SUBPROGRAMS, TASKS, WORDS}
use Rattle.image.specs.Sections.{Sections, end_of, holder}
use Rattle.image.specs.Operations.{goes_on}
use Rattle.image.specs.Rules.{IsWellFormed, has_counts, has_ends, is_within, last_end}
use Rattle.image_laws.specs.Laws.{CodeLeadsOn, EachIsHeld, HasSize, ImagesHaveSize, LeadsOn}
use Rattle.image.specs.declared.subprograms.Subprogram.{Subprogram}
use Rattle.image.specs.RuleFacts.{facts}
use Rattle.image.specs.RuleLaws.{holder_here, holder_later}
use Rattle.image_laws.proofs.Widest.{widest_low, within_widest}
use Rattle.image_laws.proofs.WellFormed.{depths, ends_within, frame_words, held_inside, holder_number_of, jump_held, last_end-next, last_is, names, not_last, rising}

place_within : (i : Sections) → IsWellFormed i → (place : ℕ) (s : Subprogram) → holder i.subprograms place ≡ Some s → (p : ℕ) → p < s.end_ → p < length i.instructions
place_within i w place s held p lt =
    let n = holder_number_of i.subprograms place s held in
    let le = ends_within i.subprograms 0 n.0 s (rising i w) n.1 in
    omega (arith, lt, le, last_is i w)

pub code_leads_on : CodeLeadsOn
code_leads_on i w place s x is held =
    let d = depths i w place x.depth x.operation s is held in
    let n = holder_number_of i.subprograms place s held in
    record {
      names = names i w place x.depth x.operation s is held;
      next = λ on. place_within i w place s held (place + 1) (not_last i w place x s is held on);
      target = λ a to.
          let there = jump_held i w place x.depth x.operation s a is held to in
          let y = held_inside i w a s there in
          slice_get_within i.instructions a y.0 y.1;
      taken = d.taken;
      before = d.before;
      after = d.after;
      words = (frame_words i w n.0 s n.1).1;
      narrow = within_widest i.subprograms n.0 s n.1;
    }

someone : (subprograms : List Subprogram) (place : ℕ) → place < last_end subprograms → (s : Subprogram) × (holder subprograms place ≡ Some s)
someone [] place lt = absurd (omega (arith, lt))
someone (x ∷ []) place lt = (x, holder_here x [] place lt)
someone (x ∷ y ∷ rest) place lt = by (someone (y ∷ rest) place) (nat_lt place x.end_) refl
  where
    by : (place < last_end (y ∷ rest) → (s : Subprogram) × (holder (y ∷ rest) place ≡ Some s)) → (b : Bool) → nat_lt place x.end_ ≡ b → (s : Subprogram) × (holder (x ∷ y ∷ rest) place ≡ Some s)
    by later true is = (x, holder_here x (y ∷ rest) place (ltb-true place x.end_ is))
    by later false is =
        let below : place < last_end (y ∷ rest) = subst (λ n. place < n) (last_end-next x y rest) lt in
        let on = later below in
        (on.0, holder_later x (y ∷ rest) place (ltb-false place x.end_ is) ∙ on.1)

pub each_is_held : EachIsHeld
each_is_held i w place lt = someone i.subprograms place (subst (λ n. place < n) (sym (last_is i w)) lt)

pub images_have_size : ImagesHaveSize
images_have_size i w =
    let a = and_parts (is_within 1 (length i.instructions) INSTRUCTIONS) _ (facts i w).counts in
    let b = and_parts (is_within 1 (length i.subprograms) SUBPROGRAMS) _ a.1 in
    let c = and_parts (is_within 1 (length i.tasks) TASKS) _ b.1 in
    let d = and_parts (is_within 4 (length i.exceptions) EXCEPTIONS) _ c.1 in
    let e = and_parts (nat_le (length i.objects) OBJECTS) _ d.1 in
    let f = and_parts (nat_le (length i.rows) ROWS) _ e.1 in
    let g = and_parts (nat_le (length i.labels) LABELS) _ f.1 in
    record {
      instructions = leb-true _ _ (and_parts (nat_le 1 (length i.instructions)) _ a.0).1;
      subprograms = leb-true _ _ (and_parts (nat_le 1 (length i.subprograms)) _ b.0).1;
      tasks = leb-true _ _ (and_parts (nat_le 1 (length i.tasks)) _ c.0).1;
      objects = leb-true _ _ e.0;
      wide = widest_low i.subprograms (λ n s is. (frame_words i w n s is).1);
      words = leb-true _ _ g.1;
    }
