-- Where the names of a block go out of sight: what is seen with one name more is seen without it.
use Rattle.std.proofs.Common.{◌≡◌, ℕ, List, [], ◌∷◌, ◌++◌, length, cond, Some, None, refl, ap, ◌∙◌, arith, sym, subst}
use Rattle.std.specs.Prelude.{take}
use Rattle.std.proofs.Math.Seq.{take-append_seam}
use Rattle.types.specs.declared.entity.Role.{Role}
use Rattle.types.specs.declared.entity.Role.TheVariants as role
use Rattle.types.specs.declared.entity.Subtype.{Subtype}
use Rattle.types.specs.Entities as entity
use Rattle.types.specs.Scopes.{Named, entity_at, number_of}
use Rattle.declaration_rules.specs.Laws.{StandsFirst}
use Rattle.expr_soundness.specs.Laws.{AgreementIsKept}
use Rattle.expr_soundness.specs.SoundScopes.{SoundScope}
use Rattle.expr_soundness.proofs.Positions.{entity_kept, number_kept}
use Rattle.expr_code.specs.Seeing.{external_of, number_behind, object_named, Package, slot_of, subprogram_of, told_of, NamesProfile}
use Rattle.expr_code.specs.declared.visible.Slot.{Slot}
use Rattle.part_code.specs.Layout.{Widens}
use Rattle.part_code.specs.Resting.{Framed, NarrowsFrame, Shows}
use Rattle.part_code.proofs.Names.{told_more, profile_kept}
use Rattle.part_code.proofs.OperationNames.{told_with_more}

module _ (kept : AgreementIsKept) (g : Package) (v later : Framed) (name : List ℕ) (r : Role) (t : Subtype) (slot : Slot)
    (widens : Widens v name r t slot later)
    (sound : SoundScope v.names.scope) where
  abbrev named : Named
  named = record { name = name; entity = entity.Object r t }

  scope_is : later.names.scope ≡ v.names.scope ++ named ∷ []
  scope_is = widens.scope ∙ ap (λ b. cond b v.names.scope (v.names.scope ++ named ∷ [])) widens.hidden

  stands_first : StandsFirst v.names.scope later.names.scope
  stands_first = ap (take (length v.names.scope)) scope_is ∙ take-append_seam v.names.scope (named ∷ [])

  slot_more : (other : List ℕ) (s : Slot) → slot_of v.names other ≡ Some s → slot_of later.names other ≡ Some s
  slot_more other s h =
      ap (λ q. told_of q later.names.slots other) scope_is ∙ ap (λ l. told_of (v.names.scope ++ named ∷ []) l other) widens.slots
      ∙ told_more v.names.scope named v.names.slots (Some slot) other s h

  number_more : (other : List ℕ) (n : ℕ) → subprogram_of v.names other ≡ Some n → subprogram_of later.names other ≡ Some n
  number_more other n h =
      ap (λ q. told_of q later.names.subprograms other) scope_is ∙ ap (λ l. told_of (v.names.scope ++ named ∷ []) l other) widens.subprograms
      ∙ told_more v.names.scope named v.names.subprograms None other n h

  external_kept : (other operation : List ℕ) (n : ℕ) → external_of v.names other operation ≡ Some n → external_of later.names other operation ≡ Some n
  external_kept other operation n h =
      (λ j. number_behind (widens.operations j) (object_named (scope_is j) other) operation)
      ∙ told_with_more (λ o. number_behind v.names.operations o operation) refl n other v.names.scope named h

  pub shows_wider : Shows g later v
  shows_wider p view knows = record {
    sees = record {
      unit = knows.sees.unit;
      names = record {
        agrees = kept.narrowed v.names.scope later.names.scope p stands_first sound knows.sees.names.agrees;
        objects = λ other s u w told means. knows.sees.names.objects other s u w (slot_more other s told) means;
      };
      loops = λ other number u w z numbered stands means.
          knows.sees.loops other number u w z (ap (λ q. number_of q other) scope_is ∙ number_kept v.names.scope (named ∷ []) other number numbered)
          (ap (λ q. entity_at q number) scope_is ∙ entity_kept v.names.scope (named ∷ []) number (entity.Object role.LoopParameter u) stands) means;
      functions = λ other n f profile result told naming gives means.
          knows.sees.functions other n f profile result (number_more other n told)
          (subst (λ z. NamesProfile z other profile) (sym scope_is) (profile_kept v.names.scope (named ∷ []) other profile naming)) gives means;
      externals = λ other operation n o f told means found.
          knows.sees.externals other operation n o f (external_kept other operation n told) means found;
    };
    within = knows.within ∙ widens.within;
    room = (let k = knows.room in let e = widens.room in omega (arith, k, e));
    homes = λ other s told. knows.homes other s (slot_more other s told);
  }

  pub narrows_wider : later.reserved ≡ v.reserved → NarrowsFrame g later v
  narrows_wider same = record { shows = shows_wider; reserved = same }
