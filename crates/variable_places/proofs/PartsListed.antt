-- The parts of an object, form by form.
use Rattle.std.proofs.Common.{◌≡◌, ℕ, zero, suc, ◌+◌, ◌-◌, ◌≤◌, List, ◌∷◌, ◌++◌, Option, drop, length, refl, sym, ap, ◌∙◌, arith, append_assoc, append-nil}
use Rattle.std.specs.Prelude.{option_map}
use Rattle.std.proofs.lemmas.List.{drop_all}
use Rattle.types.specs.declared.entity.RecordComponent.{RecordComponent}
use Rattle.types.specs.declared.entity.Subtype.{Subtype}
use Rattle.types.specs.Entities.{TypeForm}
use Rattle.types.specs.Layouts.{capped, component_offset}
use Rattle.types.specs.Scopes.{Scope, form_at}
use Rattle.waveforms.specs.Scopes.{Variable}
use Rattle.variable_places.specs.Parts.{PartsOf, component_parts, components_parts, each_below, form_parts, parts_below}

one_below : (below : ℕ) (s : Scope) (t : Subtype) (name : List ℕ) (word : ℕ) → (below ≡ 0 → ⊥)
    → form_parts (parts_below (below - 1) s) s (form_at s t.type_number) name word ≡ parts_below below s t name word
one_below zero s t name word some = absurd (some refl)
one_below (suc n) s t name word some =
    ap (λ k. form_parts (parts_below k s) s (form_at s t.type_number) name word) (let e : suc n - 1 ≡ n = omega arith in e)

pub form_listed : (below : ℕ) (s : Scope) (t : Subtype) (name : List ℕ) (word : ℕ) (form : Option TypeForm) (old new : List Variable) → (below ≡ 0 → ⊥) → form_at s t.type_number ≡ form
    → new ≡ old ++ form_parts (parts_below (below - 1) s) s form name word → new ≡ old ++ parts_below below s t name word
form_listed below s t name word form old new some is are =
    are ∙ ap (λ f. old ++ form_parts (parts_below (below - 1) s) s f name word) (sym is) ∙ ap (λ l. old ++ l) (one_below below s t name word some)

pub none_below : (below : ℕ) (s : Scope) (t : Subtype) (name : List ℕ) (word : ℕ) (old : List Variable) → below ≡ 0 → old ≡ old ++ parts_below below s t name word
none_below below s t name word old none = sym (ap (λ n. old ++ parts_below n s t name word) none ∙ append-nil old)

pub some_below : (n : ℕ) → (n ≡ 0 → ⊥) → 1 ≤ n
some_below zero h = absurd (h refl)
some_below (suc n) h = omega arith

-- components of arrays, one after the other
pub one_more : (f : ℕ → List Variable) (old middle new : List Variable) (n : ℕ) → middle ≡ old ++ each_below n f → new ≡ middle ++ f n → new ≡ old ++ each_below (n + 1) f
one_more f old middle new n one two =
    let e : n + 1 ≡ suc n = omega arith in
    two ∙ ap (λ l. l ++ f n) one ∙ append_assoc old (each_below n f) (f n) ∙ ap (λ m. old ++ each_below m f) (sym e)

-- components of records: those that are left are still to come
module _ (parts : PartsOf) (s : Scope) (all : List RecordComponent) (name : List ℕ) (word : ℕ) where
  pub one_component : (cs : List RecordComponent) (n : ℕ) (c : RecordComponent) (old new end_ : List Variable) → drop n cs ≡ c ∷ drop (n + 1) cs
      → new ≡ old ++ component_parts parts c name word (option_map capped (component_offset s all c.name))
      → old ++ components_parts parts s all name word (drop n cs) ≡ end_ → new ++ components_parts parts s all name word (drop (n + 1) cs) ≡ end_
  one_component cs n c old new end_ first one left =
      let own = component_parts parts c name word (option_map capped (component_offset s all c.name)) in
      let rest = components_parts parts s all name word (drop (n + 1) cs) in
      ap (λ l. l ++ rest) one ∙ append_assoc old own rest ∙ sym (ap (λ l. old ++ components_parts parts s all name word l) first) ∙ left

  pub all_components : (n : ℕ) (old new : List Variable) → length all ≤ n
      → new ++ components_parts parts s all name word (drop n all) ≡ old ++ components_parts parts s all name word all
      → new ≡ old ++ components_parts parts s all name word all
  all_components n old new past left =
      sym (append-nil new) ∙ ap (λ l. new ++ components_parts parts s all name word l) (sym (drop_all n all past)) ∙ left
