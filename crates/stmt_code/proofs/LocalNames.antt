-- What is visible after the declaration of an object of a body or a block: its name, with words of the frame after all that are taken (RM 3.3.1).
use Rattle.std.proofs.Common.{◌≡◌, ℕ, ◌+◌, ◌<◌, ◌≤◌, List, [], ◌∷◌, ◌++◌, Bool, true, false, None, Some, inl, inr, refl, sym, ap, ◌∙◌, subst, arith}
use Rattle.ada_tree.specs.StatementTree.{ObjectTree}
use Rattle.image.specs.Sections.{Sections}
use Rattle.image.specs.declared.instruction.Region.TheVariants as regions
use Rattle.image.specs.declared.subprograms.Subprogram.{Subprogram}
use Rattle.types.specs.declared.entity.Role.{Role}
use Rattle.types.specs.declared.entity.Subtype.{Subtype}
use Rattle.types.specs.Entities as entity
use Rattle.types.specs.Entities.{Entity, Profile}
use Rattle.types.specs.Laws.{InitialValuesHaveShape, ShapesStay}
use Rattle.types.specs.Layouts.{words_of}
use Rattle.types.specs.Places.{Object}
use Rattle.types.specs.Scopes.{is_visible, with_name}
use Rattle.types.specs.Shapes.{initial, shape_of}
use Rattle.type_rules.specs.ObjectRules.{local_initial_faults, local_object_faults, local_object_scope, object_entity, role_of}
use Rattle.type_rules.specs.SubtypeNames.{declared_twice, subtype_faults, subtype_of}
use Rattle.expr_soundness.specs.Agreeing.{Agrees}
use Rattle.expr_soundness.specs.Laws.{AgreementIsKept}
use Rattle.expr_soundness.specs.SoundScopes.{IsKnown, IsSoundObject, SoundScope}
use Rattle.expr_soundness.specs.expr_rules.proofs.TypedLaw.{back_empty, front_empty, unbroken}
use Rattle.expr_soundness.proofs.Positions.{same_some}
use Rattle.expr_soundness.proofs.Widening.{subtype_known}
use Rattle.expr_soundness.specs.meaning.specs.Calls.{procedure_here}
use Rattle.expr_soundness.specs.meaning.specs.Programs.{Procedure, Program, subtype_named}
use Rattle.part_code.specs.step_soundness.specs.Fitting.{IsFound, entity_named}
use Rattle.part_code.specs.step_soundness.proofs.Elaborating.{declared_subtype}
use Rattle.expr_code.specs.Seeing.{NamesProfile, Package, external_of, subprogram_of}
use Rattle.expr_code.specs.declared.visible.Slot.{Slot}
use Rattle.expr_code.specs.declared.visible.Visible.{Visible}
use Rattle.part_code.specs.Emitting.{HasEntries}
use Rattle.part_code.specs.EntryNames.{entry_behind}
use Rattle.part_code.specs.Layout.{EndsBelow, Spares, Widens}
use Rattle.part_code.specs.Needs.{with_object}
use Rattle.part_code.specs.Resting.{Framed, NarrowsFrame}
use Rattle.part_code.specs.Statements.{Numbers}
use Rattle.part_code.specs.Suiting.{SuitsStatements}
use Rattle.part_code.proofs.Names.{is_told, profile_without}
use Rattle.stmt_code.specs.Emitting.{Serves, seeing}
use Rattle.stmt_code.proofs.Laying.{AddsObject, ends_wider, free_wider, laid_wider, widens_behind}
use Rattle.stmt_code.proofs.Narrowing.{narrows_wider}
use Rattle.stmt_code.proofs.Suiting.{entry_wider, external_wider, number_wider, stands_wider, suits_wider}

module _ (v : Visible) (offset : ℕ) (d : ObjectTree) (t : Subtype) (sound : SoundScope v.scope) (entries : HasEntries v)
    (legal : local_object_faults v.scope d ≡ []) (named : subtype_of v.scope d.subtype ≡ Some t) where
  abbrev pub later : Visible
  later = with_object v (local_object_scope v.scope d) offset

  abbrev pub role : Role
  role = role_of d.constant

  abbrev pub slot : Slot
  slot = record { region = regions.Locals; offset = offset }

  two : subtype_faults v.scope d.subtype ++ local_initial_faults v.scope d ≡ []
  two = front_empty (subtype_faults v.scope d.subtype ++ local_initial_faults v.scope d) (declared_twice v.scope d.name) legal

  pub known : IsKnown v.scope t
  known = subtype_known v.scope d.subtype t sound named

  hidden : is_visible v.scope d.name.name ≡ false
  hidden = unbroken _ d.name.place (is_visible v.scope d.name.name)
      (back_empty (subtype_faults v.scope d.subtype ++ local_initial_faults v.scope d) (declared_twice v.scope d.name) legal)

  object_known : (b : Bool) → IsSoundObject v.scope (role_of b) t
  object_known true = known
  object_known false = known

  is_sound : IsSoundObject v.scope role t
  is_sound = object_known d.constant

  scope_is : later.scope ≡ with_name v.scope d.name.name (entity.Object role t)
  scope_is = ap (λ o. with_name v.scope d.name.name (object_entity role o)) named

  pub suits_later : ShapesStay → (i : Sections) (u : Subprogram) → offset < u.locals → SuitsStatements v i u → SuitsStatements later i u
  suits_later stay i u within suits =
      suits_wider stay v later d.name.name role t slot sound entries hidden scope_is refl refl i u refl refl within suits

  -- ---- the frame after it

  module _ (kept : AgreementIsKept) (shaped : InitialValuesHaveShape) (stay : ShapesStay) (program : Program) (g : Package) (numbers : Numbers) (f : Framed)
      (taken : ℕ) (names : f.names ≡ v) (serves : Serves program g numbers f taken) (offset_is : offset ≡ taken)
      (room : taken + words_of v.scope t ≤ f.room) where
    abbrev pub after_it : Framed
    after_it = seeing f later

    pub subtype_there : subtype_named program.scope d.subtype ≡ t
    subtype_there =
        let x = declared_subtype v.scope serves.place d.subtype (subst (λ z. Agrees z.scope serves.place) names serves.agrees)
        (front_empty (subtype_faults v.scope d.subtype) (local_initial_faults v.scope d) two) in
        ap (λ z. subtype_named z d.subtype) (sym serves.here) ∙ x.here ∙ same_some x.subtype t (sym x.named ∙ named)

    size_here : words_of f.names.scope t ≡ words_of v.scope t
    size_here = ap (λ x. words_of x.scope t) names

    adds : AddsObject f d.name.name role t taken slot after_it
    adds = record {
      hidden = ap (λ x. is_visible x.scope d.name.name) names ∙ hidden;
      sound = subst (λ x. IsSoundObject x.scope role t) (sym names) is_sound;
      scope = scope_is ∙ ap (λ x. with_name x.scope d.name.name (entity.Object role t)) (sym names);
      slots = ap (λ x. x.slots ++ Some slot ∷ []) (sym names);
      subprograms = ap (λ x. x.subprograms ++ None ∷ []) (sym names);
      operations = ap (λ x. x.operations) (sym names);
      room = refl;
      within = refl;
      region = refl;
      offset = offset_is;
      fits = (let k = size_here in omega (arith, k, room));
    }

    pub widens : Widens f d.name.name role t slot after_it
    widens = widens_behind f after_it d.name.name role t taken slot serves.ends adds

    pub spares : Spares f t slot after_it
    spares = record { reserved = refl; free = λ n among. inl (let k = serves.below n among in omega (arith, k, offset_is)) }

    sound_here : SoundScope f.names.scope
    sound_here = subst (λ x. SoundScope x.scope) (sym names) sound

    pub narrows : NarrowsFrame g after_it f
    narrows = narrows_wider kept g f after_it d.name.name role t slot widens sound_here refl

    pub serves_later : Serves program g numbers after_it (taken + words_of v.scope t)
    serves_later = record {
      finds = finds;
      numbered = numbered;
      externals = λ name operation n o q told.
          serves.externals name operation n o q
          (ap (λ x. external_of x name operation) names
          ∙ external_wider stay v later d.name.name role t slot sound entries hidden scope_is refl refl refl name operation n told);
      entries = λ name operation n o told.
          serves.entries name operation n o
          (ap (λ x. entry_behind x.scope name operation) names
          ∙ entry_wider stay v later d.name.name role t slot sound entries hidden scope_is refl refl name operation n told);
      scope = serves.scope;
      place = record serves.place { locals = object ∷ serves.place.locals };
      here = serves.here;
      agrees = subst (λ z. Agrees z (record serves.place { locals = object ∷ serves.place.locals })) (sym adds.scope)
          (kept.declared f.names.scope serves.place d.name.name role t (initial f.names.scope t) serves.agrees adds.hidden adds.sound
          (shaped (shape_of f.names.scope t)));
      laid = laid_wider stay g f after_it d.name.name role t slot sound_here serves.laid widens refl
          (free_wider stay g f after_it d.name.name role t slot sound_here serves.laid widens refl spares);
      ends = subst (EndsBelow after_it) (let k = size_here in omega (arith, k))
          (ends_wider stay g f after_it d.name.name role t slot sound_here serves.laid widens refl taken serves.ends offset_is);
      below = λ n among. (let k = serves.below n among in omega (arith, k));
    }
      where
        object : Object
        object = record { name = d.name.name; subtype = t; value = initial f.names.scope t }

        finds : (name : List ℕ) (e : Entity) → entity_named later.scope name ≡ Some e → IsFound program f.within name e
        finds name e h =
            elim (stands_wider stay v later d.name.name role t slot sound entries hidden scope_is refl refl name e h) [
              | inl old ↦ serves.finds name e (ap (λ x. entity_named x.scope name) names ∙ old)
              | inr is ↦ subst (IsFound program f.within name) (sym is.1) tt
            ]

        numbered : (name : List ℕ) (q : Procedure) (n : ℕ) (profile : Profile) → procedure_here program f.within name ≡ Some q
            → subprogram_of later name ≡ Some n → NamesProfile later.scope name profile → profile.result ≡ None
            → numbers q ≡ Some n
        numbered name q n profile found told naming none =
            let old = (number_wider stay v later d.name.name role t slot sound entries hidden scope_is refl refl name n told).0 in
            let before = is_told v.scope v.subprograms name n old in
            serves.numbered name q n profile found (ap (λ x. subprogram_of x name) names ∙ old)
            (subst (λ x. NamesProfile x.scope name profile) (sym names)
            (profile_without v.scope d.name.name (entity.Object role t) name before.number profile before.numbered
            (subst (λ z. NamesProfile z name profile) scope_is naming))) none
