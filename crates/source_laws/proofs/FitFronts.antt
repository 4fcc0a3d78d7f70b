-- What a body adds to the names in front of its item: no subtype is new, and words are the same.
use Rattle.std.proofs.Common.{◌≡◌, ℕ, ◌++◌, Bool, true, false, Option, Some, None, refl, sym, ap, ◌∙◌, subst}
use Rattle.std.specs.Prelude.{bytes_eq, cond, is_some, slice_get}
use Rattle.ada_tree.specs.declared.expression.Identifier.{Identifier}
use Rattle.ada_tree.specs.StatementTree.{SubprogramTree}
use Rattle.ada_tree.specs.ProgramTree.{BodyTree, ProgramTree, SubprogramBody, TaskBody}
use Rattle.types.specs.declared.entity.Subtype.{Subtype}
use Rattle.types.specs.Entities.{Entity, Profile}
use Rattle.types.specs.Laws.{ShapesStay}
use Rattle.types.specs.Layouts.{words_of}
use Rattle.types.specs.Places.{or_else}
use Rattle.types.specs.Scopes.{Scope}
use Rattle.types.specs.Shapes.{words}
use Rattle.expr_soundness.specs.type_rules.specs.ProfileRules.{profile_entity}
use Rattle.expr_soundness.specs.type_rules.specs.SubtypeNames.{subtype_in, subtype_of}
use Rattle.program_soundness.specs.declaration_rules.specs.PackageNames.{body_item_scope}
use Rattle.legality.specs.ProgramRules.{IsLegal}
use Rattle.program_soundness.specs.ravenscar.specs.ProgramRules.{IsRestricted}
use Rattle.expr_soundness.specs.Laws.{ScopesAreSound}
use Rattle.expr_soundness.specs.SoundScopes.{IsKnown}
use Rattle.expr_soundness.proofs.Growing.{grown, test_kept}
use Rattle.program_soundness.specs.BodyLaws.{NamesAreKnown, PremisesHold}
use Rattle.program_soundness.specs.Fronts.{declared_in, front, start_in}
use Rattle.program_soundness.proofs.Same.{known_same}
use Rattle.program_soundness.proofs.Walked.{declares, one_of, own_profile, scope_next, stands_next}
use Rattle.program_soundness.proofs.WiderScopes.{stands}
use Rattle.package_code.specs.Bodies.{Coded, IsBodyOf}
use Rattle.package_code.proofs.Coded.{coded_by}
use Rattle.package_code.proofs.InFront.{known_inside}
use Rattle.package_code.proofs.OperationsAdded as added
use Rattle.package_code.proofs.Seen.{one_behind}
use Rattle.source_laws.proofs.InsideEntities.{words_same}
use Rattle.source_laws.proofs.InsideNames.{subtype_named, types_there}

-- names behind those of a scope, none of which is a new subtype
pub record AddsNoSubtype (s u : Scope) : Type 0 where
  pub back : (name : Identifier) (t : Subtype) → subtype_of u name ≡ Some t → subtype_of s name ≡ Some t
  pub same : (t : Subtype) → IsKnown s t → IsKnown u t × (words_of u t ≡ words_of s t)

nothing_added : (s : Scope) → AddsNoSubtype s s
nothing_added s = record { back = λ name t is. is; same = λ t known. (known, refl) }

-- ---- behind the name of a subprogram's body

known_more : (s more : Scope) (t : Subtype) → IsKnown s t → IsKnown (s ++ more) t
known_more s more t h = test_kept s (s ++ more) (grown s more) is_some refl t.type_number h

no_subtype : (s : Scope) (d : SubprogramTree) (b : BodyTree) (name : Identifier) (t : Subtype)
    → subtype_of (body_item_scope s (SubprogramBody d b)) name ≡ Some t
    → subtype_of s name ≡ Some t
no_subtype s d b name t h = by_stands (stands s name.name) refl
  where
    new_none : (o : Option Profile) (c : Bool) → subtype_in (cond c (Some (profile_entity o)) None) ≡ Some t → ⊥
    new_none (Some p) true k = cc
    new_none None true k = cc
    new_none o false k = cc

    by_stands : (o : Option Entity) → stands s name.name ≡ o → subtype_of s name ≡ Some t
    by_stands (Some e) i =
        ap subtype_in (i ∙ sym (stands_next s (SubprogramBody d b) name.name ∙ ap (λ y. or_else y (one_of (declares s (SubprogramBody d b)) name.name)) i)) ∙ h
    by_stands None i =
        absurd (new_none (own_profile s d) (bytes_eq name.name d.name.name)
        (ap subtype_in (sym (stands_next s (SubprogramBody d b) name.name ∙ ap (λ y. or_else y (one_of (declares s (SubprogramBody d b)) name.name)) i)) ∙ h))

name_added : ShapesStay → (s : Scope) (d : SubprogramTree) (b : BodyTree) → AddsNoSubtype s (body_item_scope s (SubprogramBody d b))
name_added stay s d b =
    record {
      back = no_subtype s d b;
      same = λ t known.
          let more = one_behind s (SubprogramBody d b) in (
            subst (λ u. IsKnown u t) (sym more.1) (known_more s more.0 t known),
            ap (λ u. words_of u t) more.1 ∙ ap words (stay s more.0 t (known_inside s t known)),
          );
    }

-- ---- in the body of a protected object

module _ (scopes : ScopesAreSound) (names : NamesAreKnown) (premises : PremisesHold) (stay : ShapesStay) (t : ProgramTree) (legal : IsLegal t)
    (restricted : IsRestricted t) where
  module _ (place k : ℕ) (c : Coded) (x : added.IsInObject scopes names premises t legal restricted place k c) where
    abbrev here : Scope
    here = front t place

    inside_added : AddsNoSubtype here c.front
    inside_added =
        let types = types_there scopes names premises t legal restricted place k c x in
        record {
          back = λ name u h. subtype_named scopes names premises t legal restricted place k c x name u h;
          same = λ u known. (known_same here c.front types u known, words_same here c.front types u known);
        }

  -- ---- in front of the parameters of each body with code

  pub body_adds : (c : Coded) (b : IsBodyOf t c) → AddsNoSubtype (front t b.place) c.front
  body_adds c b =
      let start = start_in t.package_ in
      let all = declared_in t.package_ in
      let here = front t b.place in
      coded_by t b.place (λ y n e. slice_get all b.place ≡ Some y → AddsNoSubtype here e.front)
      (λ d own at. subst (AddsNoSubtype here) (sym (scope_next start all b.place (SubprogramBody d own) at)) (name_added stay here d own))
      (λ name own at. subst (AddsNoSubtype here) (sym (scope_next start all b.place (TaskBody name own) at)) (nothing_added here))
      (λ name items end_name n e is at.
      let y = added.inside_coded scopes names premises t legal restricted b.place name items end_name at n e is in
      inside_added b.place n e (record { name = name; items = items; end_name = end_name; at = at; item = y.0; there = y.1; is = y.2 }))
      b.item b.index c b.coded b.at
