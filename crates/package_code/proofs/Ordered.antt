-- Names that stand for the same in another order: what a frame knows of the ones it knows of the others.
use Rattle.std.proofs.Common.{◌≡◌, ℕ, List, Some, sym, ◌∙◌, arith}
use Rattle.types.specs.declared.entity.Role.TheVariants as role
use Rattle.types.specs.Entities.{Entity, Subprogram}
use Rattle.types.specs.Entities as entity
use Rattle.types.specs.Places.{Place}
use Rattle.types.specs.Scopes.{Scope, entity_at}
use Rattle.expr_soundness.specs.Agreeing.{Agrees, Means}
use Rattle.expr_soundness.specs.SoundScopes.{SoundScope}
use Rattle.expr_soundness.proofs.Goods.{object_known}
use Rattle.program_soundness.proofs.WiderScopes.{number_stands, stands, stands_number}
use Rattle.program_soundness.proofs.Same.{SameTypes, one_same}
use Rattle.expr_code.specs.Seeing.{Package, external_of, slot_of, subprogram_of}
use Rattle.step_simulation.specs.part_code.specs.Resting.{Framed, NarrowsFrame, Shows}

module _ (s u : Scope) (sound : SoundScope u) (types : SameTypes s u) (names : (name : List ℕ) → stands u name ≡ stands s name) where
  means_same : (p : Place) → Agrees s p → (name : List ℕ) (n : ℕ) (e : Entity) → entity_at s n ≡ Some e → Means s p name e → Means u p name e
  means_same p agrees name n (entity.Object r v) at h = one_same s u p.scope types _ r v (object_known s r v (agrees.sound.each n (entity.Object r v) at)) h
  means_same p agrees name n (entity.OfType form v) at h = h
  means_same p agrees name n (entity.OfSubtype v) at h = h
  means_same p agrees name n (entity.Constant v x) at h = h
  means_same p agrees name n (entity.Literal b) at h = h
  means_same p agrees name n entity.Exception at h = tt
  means_same p agrees name n (entity.Subprogram profile) at h = h
  means_same p agrees name n (entity.Entry profile) at h = tt
  means_same p agrees name n (entity.Predefined o profile) at h = h
  means_same p agrees name n entity.Put at h = tt
  means_same p agrees name n (entity.Task m) at h = tt
  means_same p agrees name n (entity.Protected o) at h = h
  means_same p agrees name n entity.LibraryUnit at h = tt
  means_same p agrees name n entity.Doubtful at h = tt

  pub agrees_same : (p : Place) → Agrees s p → Agrees u p
  agrees_same p agrees =
      record {
        sound = sound;
        forms = λ n form h. agrees.forms n form (sym (types.forms n) ∙ h);
        shapes = λ n form h. agrees.shapes n form (sym (types.forms n) ∙ h) ∙ sym (types.shapes n form (sym (types.forms n) ∙ h));
        names =
            λ name n e a b.
            let there = number_stands s name e (sym (names name) ∙ stands_number u name n e a b) in
            means_same p agrees name there.0 e there.2 (agrees.names name there.0 e there.1 there.2);
      }

-- the same names with the same places and subprograms, also behind protected objects
pub narrows_same : (g : Package) (now later : Framed) → SoundScope later.names.scope → SameTypes now.names.scope later.names.scope
    → ((name : List ℕ) → stands later.names.scope name ≡ stands now.names.scope name)
    → ((name : List ℕ) → slot_of later.names name ≡ slot_of now.names name)
    → ((name : List ℕ) → subprogram_of later.names name ≡ subprogram_of now.names name)
    → ((name operation : List ℕ) → external_of later.names name operation ≡ external_of now.names name operation)
    → later.room ≡ now.room
    → now.within ≡ later.within
    → now.reserved ≡ later.reserved
    → NarrowsFrame g now later
narrows_same g now later sound types names slots subprograms externals room within reserved = record { shows = shows; reserved = reserved }
  where
    shows : Shows g now later
    shows p view h = record {
      sees = record {
        unit = h.sees.unit;
        names = record {
          agrees = agrees_same now.names.scope later.names.scope sound types names p h.sees.names.agrees;
          objects = λ name slot t value told means. h.sees.names.objects name slot t value (sym (slots name) ∙ told) means;
        };
        loops = λ name number t u z numbered at means.
            let e : Entity = entity.Object role.LoopParameter t in
            let n = number_stands now.names.scope name e (sym (names name) ∙ stands_number later.names.scope name number e numbered at) in
            h.sees.loops name n.0 t u z n.1 n.2 means;
        functions = λ name number f profile result told naming gives means.
            let n = number_stands now.names.scope name (entity.Subprogram profile)
            (sym (names name) ∙ stands_number later.names.scope name naming.number (entity.Subprogram profile) naming.numbered naming.stands) in
            h.sees.functions name number f profile result (sym (subprograms name) ∙ told) (record { number = n.0; numbered = n.1; stands = n.2 }) gives means;
        externals = λ name operation number o f told means found. h.sees.externals name operation number o f (sym (externals name operation) ∙ told) means found;
      };
      within = h.within ∙ within;
      room = (let r = h.room in omega (arith, r, room));
      homes = λ name slot told. h.homes name slot (sym (slots name) ∙ told);
    }
