-- The schedules of a set whose numbers the rows have, written one after the other.
use Rattle.std.proofs.Common.{◌≡◌, ℕ, ◌+◌, List, ◌∷◌, ◌++◌, append-nil, append_assoc, map, Some, None, Bool, true, false, sym, ap, subst, ◌∙◌}
use Rattle.choices.specs.Places.{AreWithin, firsts}
use Rattle.choices.specs.Slots.{Slot, are_each_slots}
use Rattle.choices.specs.Stepping.{MovesOn}
use Rattle.measuring.specs.declared.text.Form.{Form}
use Rattle.set_measures.specs.Choices.{choices_of, schedule_of, schedules_of}
use Rattle.set_measures.specs.Extremes.{capped}
use Rattle.set_measures.specs.Stepping.{AreConsecutive}
use Rattle.set_measures.specs.Text.{named_schedule, schedules_text}
use Rattle.set_measures.specs.declared.extreme.Row.{Row}
use Rattle.set_measures.proofs.Chain.{in_order}
use Rattle.set_measures.proofs.Going.{no_first, some_first}

module _ (form : Form) (rows : List Row) (slots : List Slot) (whole : List ℕ) where
  -- what is written, with the schedules that are left, is the whole
  abbrev pub Writing : (is_more : Bool) (places : List ℕ) (number : ℕ) (text : List ℕ) → Type 0
  Writing true places number text =
      (later : List (List ℕ)) × AreWithin slots places × AreConsecutive slots None (places ∷ later)
      × (text ++ schedules_text form rows number (map (schedule_of slots) (places ∷ later)) ≡ whole)
  Writing false places number text = text ≡ whole

  pub writing_first : are_each_slots slots ≡ true → (places text : List ℕ) → places ≡ firsts slots → AreWithin slots places
      → text ++ schedules_text form rows 1 (schedules_of slots) ≡ whole → Writing true places 1 text
  writing_first lawful places text is within all =
      let h = in_order slots lawful in
      let some = some_first (choices_of slots) places (h.0 ∙ ap Some (sym is)) in (
        some.0,
        within,
        subst (AreConsecutive slots None) some.1 h.1,
        ap (λ xs. text ++ schedules_text form rows 1 (map (schedule_of slots) xs)) (sym some.1) ∙ all,
      )

  pub writing_next : (is_more : Bool) (places after : List ℕ) (number next : ℕ) (text more : List ℕ) → Writing true places number text
      → more ≡ text ++ named_schedule form rows number (schedule_of slots places) → next ≡ capped (number + 1) → MovesOn is_more slots places after
      → Writing is_more after next more
  writing_next true places after number next text more w added counted m =
      let some = some_first w.0 after (sym w.2.0 ∙ m.0) in (
        some.0,
        m.1,
        subst (AreConsecutive slots None) some.1 w.2.1,
        (λ j. added j ++ schedules_text form rows (counted j) (map (schedule_of slots) (sym some.1 j)))
            ∙ append_assoc text (named_schedule form rows number (schedule_of slots places)) (schedules_text form rows (capped (number + 1)) (map (schedule_of slots) w.0))
            ∙ w.3,
      )
  writing_next false places after number next text more w added counted m =
      let none = no_first w.0 (sym w.2.0 ∙ m.0) in
      added
      ∙ ap (λ t. text ++ t) (sym (append-nil (named_schedule form rows number (schedule_of slots places))))
      ∙ ap (λ xs. text ++ schedules_text form rows number (map (schedule_of slots) (places ∷ xs))) (sym none)
      ∙ w.3
