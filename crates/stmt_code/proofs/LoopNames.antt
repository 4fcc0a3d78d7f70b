-- What is visible in a loop over a range: its parameter, with the first of two words of the frame that statements leave alone (RM 5.5).
use Rattle.std.proofs.Common.{◌≡◌, ℕ, suc, ◌+◌, ◌<◌, ◌≤◌, [], ◌∷◌, inl, inr, refl, sym, ap, subst, arith}
use Rattle.std.specs.Prelude.{List, None, Some, pos, option_map, false}
use Rattle.ada_tree.specs.declared.expression.Identifier.{Identifier}
use Rattle.ada_tree.specs.StatementTree.{RangeTree}
use Rattle.image.specs.Sections.{Sections}
use Rattle.image.specs.declared.instruction.Region.TheVariants as regions
use Rattle.image.specs.declared.subprograms.Subprogram.{Subprogram}
use Rattle.types.specs.declared.entity.Role.TheVariants as role
use Rattle.types.specs.declared.entity.Subtype.{Subtype}
use Rattle.types.specs.Entities as entity
use Rattle.types.specs.Entities.{Entity, Profile}
use Rattle.types.specs.Laws.{ShapesStay, ValuesHaveWords}
use Rattle.types.specs.Layouts.{words_of}
use Rattle.types.specs.Places.{Object}
use Rattle.types.specs.Scopes.{is_visible, with_name}
use Rattle.types.specs.Values.{Number}
use Rattle.declaration_rules.specs.BodyNames.{loop_faults, loop_scope, parameter_entity, turns_subtype}
use Rattle.expr_soundness.specs.Agreeing.{Agrees}
use Rattle.expr_soundness.specs.Laws.{AgreementIsKept}
use Rattle.expr_soundness.specs.SoundScopes.{SoundScope}
use Rattle.expr_soundness.specs.meaning.specs.Calls.{procedure_here}
use Rattle.expr_soundness.specs.meaning.specs.Programs.{Procedure, Program}
use Rattle.expr_soundness.specs.meaning.specs.Works.{turn_subtype}
use Rattle.part_code.specs.step_soundness.specs.Fitting.{IsFound, entity_named}
use Rattle.expr_code.specs.Seeing.{NamesProfile, Package, subprogram_of}
use Rattle.expr_code.specs.declared.visible.Slot.{Slot}
use Rattle.expr_code.specs.declared.visible.Visible.{Visible}
use Rattle.part_code.specs.Emitting.{HasEntries}
use Rattle.part_code.specs.Layout.{EndsBelow}
use Rattle.part_code.specs.Needs.{with_object}
use Rattle.part_code.specs.Resting.{Framed}
use Rattle.part_code.specs.Statements.{Numbers}
use Rattle.part_code.specs.Suiting.{SuitsStatements}
use Rattle.part_code.proofs.Names.{is_told, profile_without, single_number}
use Rattle.stmt_code.specs.Emitting.{Serves, seeing}
use Rattle.stmt_code.proofs.Bounded.{IsOfIntegers, parameter_hidden, subtype_in}
use Rattle.stmt_code.proofs.Laying.{AddsObject}
use Rattle.stmt_code.proofs.Parameters.{AreBelow, HoldsRange, holds_behind, parameter_below, parameter_ends, parameter_laid}
use Rattle.stmt_code.proofs.Suiting.{entry_wider, external_wider, number_wider, stands_wider, suits_wider}

module _ (stay : ShapesStay) (v : Visible) (offset : ℕ) (parameter : Identifier) (range : RangeTree) (sound : SoundScope v.scope) (entries : HasEntries v)
    (legal : loop_faults v.scope parameter range ≡ []) (of_type : IsOfIntegers v.scope range) where
  abbrev pub later : Visible
  later = with_object v (loop_scope v.scope parameter range) offset

  abbrev pub slot : Slot
  slot = record { region = regions.Locals; offset = offset }

  abbrev pub subtype : Subtype
  subtype = subtype_in v.scope range of_type

  scope_is : later.scope ≡ with_name v.scope parameter.name (entity.Object role.LoopParameter subtype)
  scope_is = ap (λ o. with_name v.scope parameter.name (parameter_entity (option_map (turns_subtype v.scope range) o))) of_type.typed

  hidden : is_visible v.scope parameter.name ≡ false
  hidden = parameter_hidden v.scope parameter range legal

  pub suits_inside : (i : Sections) (s : Subprogram) → offset < s.locals → SuitsStatements v i s → SuitsStatements later i s
  suits_inside i s within suits =
      suits_wider stay v later parameter.name role.LoopParameter subtype slot sound entries hidden scope_is refl refl i s refl refl within suits

  -- ---- the frame in the loop

  module _ (kept : AgreementIsKept) (sized : ValuesHaveWords) (program : Program) (g : Package) (numbers : Numbers) (f : Framed) (taken limit : ℕ)
      (serves : Serves program g numbers (seeing f v) taken) (offset_is : offset ≡ taken) (limit_is : limit ≡ suc taken) (room : taken + 2 ≤ f.room) where
    abbrev pub inner : Framed
    inner = record { names = later; room = f.room; reserved = offset ∷ limit ∷ f.reserved; within = f.within }

    single : words_of v.scope subtype ≡ 1
    single = single_number sized v.scope subtype of_type.integers

    adds : AddsObject (seeing f v) parameter.name role.LoopParameter subtype taken slot inner
    adds = record {
      hidden = hidden;
      sound = of_type.integers;
      scope = scope_is;
      slots = refl;
      subprograms = refl;
      operations = refl;
      room = refl;
      within = refl;
      region = refl;
      offset = offset_is;
      fits = (let k = single in omega (arith, k, room));
    }

    pub holds : HoldsRange (seeing f v) parameter.name subtype slot limit inner
    holds =
        subst (λ m. HoldsRange (seeing f v) parameter.name subtype slot m inner) (sym limit_is)
        (holds_behind (seeing f v) inner parameter.name subtype taken slot serves.ends serves.below adds
        (λ j. offset_is j ∷ limit_is j ∷ f.reserved)
        (omega (arith, room)))

    top : suc (suc taken) ≡ taken + 2
    top = omega arith

    pub serves_inside : Serves program g numbers inner (taken + 2)
    serves_inside = record {
      finds = finds;
      numbered = numbered;
      externals = λ name operation n o q told.
          serves.externals name operation n o q
          (external_wider stay v later parameter.name role.LoopParameter subtype slot sound entries hidden scope_is refl refl refl name operation n told);
      entries = λ name operation n o told.
          serves.entries name operation n o
          (entry_wider stay v later parameter.name role.LoopParameter subtype slot sound entries hidden scope_is refl refl name operation n told);
      scope = serves.scope;
      place = record serves.place { locals = object ∷ serves.place.locals };
      here = serves.here;
      agrees = subst (λ z. Agrees z (record serves.place { locals = object ∷ serves.place.locals })) (sym scope_is)
          (kept.parameter v.scope serves.place parameter.name subtype (pos 0) serves.agrees hidden of_type.integers);
      laid = parameter_laid kept sized g (seeing f v) inner serves.laid sound parameter.name subtype slot limit holds stay;
      ends = subst (EndsBelow inner) top
          (parameter_ends kept sized g (seeing f v) inner serves.laid sound parameter.name subtype slot limit holds stay taken serves.ends offset_is);
      below = subst (AreBelow inner.reserved) top
          (parameter_below kept sized g (seeing f v) inner serves.laid sound parameter.name subtype slot limit holds taken serves.below offset_is limit_is);
    }
      where
        object : Object
        object = record { name = parameter.name; subtype = turn_subtype (pos 0); value = Number (pos 0) }

        finds : (name : List ℕ) (e : Entity) → entity_named later.scope name ≡ Some e → IsFound program f.within name e
        finds name e h =
            elim (stands_wider stay v later parameter.name role.LoopParameter subtype slot sound entries hidden scope_is refl refl name e h) [
              | inl old ↦ serves.finds name e old
              | inr is ↦ subst (IsFound program f.within name) (sym is.1) tt
            ]

        numbered : (name : List ℕ) (q : Procedure) (n : ℕ) (profile : Profile) → procedure_here program f.within name ≡ Some q
            → subprogram_of later name ≡ Some n → NamesProfile later.scope name profile → profile.result ≡ None
            → numbers q ≡ Some n
        numbered name q n profile found told naming none =
            let old =
            (number_wider stay v later parameter.name role.LoopParameter subtype slot sound entries hidden scope_is refl refl name n told).0 in
            let before = is_told v.scope v.subprograms name n old in
            serves.numbered name q n profile found old
            (profile_without v.scope parameter.name (entity.Object role.LoopParameter subtype) name before.number profile before.numbered
            (subst (λ z. NamesProfile z name profile) scope_is naming)) none
