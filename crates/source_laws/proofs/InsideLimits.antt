-- In front of the parameters of each body with code the limits of what is visible are kept: components of a protected object have the words of an image, and
-- values those that they have in front of the whole body.
use Rattle.std.proofs.Common.{◌≡◌, ℕ, zero, suc, ◌+◌, ◌≤◌, Bool, true, false, List, [], ◌∷◌, ◌++◌, Some, sym, ap, ◌∙◌, subst, arith}
use Rattle.std.specs.Prelude.{slice_get}
use Rattle.base.specs.declared.limits.TheConstants.{WORDS}
use Rattle.ada_tree.specs.ProgramTree.{ProgramTree}
use Rattle.types.specs.declared.entity.RecordComponent.{RecordComponent}
use Rattle.types.specs.declared.entity.Subtype.{Subtype}
use Rattle.types.specs.Entities.{Entity, Entry, Object, Operation, Protected, ProtectedObject, Subprogram}
use Rattle.types.specs.Laws.{ShapesStay}
use Rattle.types.specs.Layouts.{total, words_of}
use Rattle.types.specs.Scopes.{Scope, entity_at, offering}
use Rattle.expr_soundness.specs.expr_rules.proofs.TypedLaw.{back_empty}
use Rattle.program_soundness.specs.declaration_rules.specs.BodyNames.{operation_entity}
use Rattle.legality.specs.ProgramLayouts.{WordsHaveRoom, components_words, object_words, objects_words, total_of_all, variables_words}
use Rattle.legality.specs.ProgramRules.{IsLegal}
use Rattle.program_soundness.specs.ravenscar.specs.ProgramRules.{IsRestricted}
use Rattle.size_rules.specs.ProgramSizes.{size_faults}
use Rattle.expr_soundness.specs.Laws.{ScopesAreSound}
use Rattle.expr_soundness.specs.SoundScopes.{AreKnownParts, IsKnown}
use Rattle.expr_soundness.specs.meaning.specs.Programs.{program_of}
use Rattle.expr_soundness.proofs.Goods.{object_known}
use Rattle.program_soundness.specs.BodyLaws.{NamesAreKnown, PremisesHold}
use Rattle.program_soundness.specs.Fronts.{declared_in, front, start_in}
use Rattle.program_soundness.proofs.Listing.{same_some}
use Rattle.program_soundness.proofs.ObjectBodies as bodies
use Rattle.program_soundness.proofs.Same.{SameTypes, known_same, types_turned}
use Rattle.program_soundness.proofs.Whole.{IsPackage, kept}
use Rattle.program_soundness.proofs.WiderScopes.{number_stands}
use Rattle.expr_code.specs.Refusing.{is_fit}
use Rattle.package_code.specs.Bodies.{Coded, IsBodyOf}
use Rattle.package_code.proofs.OperationsAdded as added
use Rattle.part_code.specs.Providing.{is_full}
use Rattle.source_laws.specs.Visible.{BodiesKeepLimits, FrontsKeepLimits, KeepsLimits}
use Rattle.source_laws.proofs.InsideEntities.{all_there, front_sound, fronts_by, shape_same, words_same}
use Rattle.source_laws.proofs.InsideNames.{object, types_there}
use Rattle.source_laws.proofs.VisibleWords.{same_words}

-- ---- the words of a component are among those of all objects

one_of_parts : (s : Scope) (cs : List RecordComponent) (j : ℕ) (c : RecordComponent) → slice_get cs j ≡ Some c
    → words_of s c.subtype ≤ total (components_words s cs)
one_of_parts s [] j c at = cc
one_of_parts s (y ∷ cs) zero c at =
    let same = ap (λ z. words_of s z.subtype) (same_some y c at) in omega (arith, same)
one_of_parts s (y ∷ cs) (suc j) c at = let rest = one_of_parts s cs j c at in omega (arith, rest)

total_both : (xs ys : List (List ℕ)) → total_of_all (xs ++ ys) ≡ total_of_all xs + total_of_all ys
total_both [] ys = omega arith
total_both (x ∷ xs) ys = let rest = total_both xs ys in omega (arith, rest)

one_of_objects : (s names : Scope) (n : ℕ) (o : ProtectedObject) → entity_at names n ≡ Some (Protected o)
    → total (components_words s o.components) ≤ total_of_all (objects_words s names)
one_of_objects s [] n o at = cc
one_of_objects s (y ∷ names) zero o at =
    let own = ap (λ e. total_of_all (object_words s e)) (same_some y.entity (Protected o) at) in
    let both = total_both (object_words s y.entity) (objects_words s names) in
    omega (arith, own, both)
one_of_objects s (y ∷ names) (suc n) o at =
    let rest = one_of_objects s names n o at in
    let both = total_both (object_words s y.entity) (objects_words s names) in
    omega (arith, rest, both)

part_known : (s : Scope) (cs : List RecordComponent) (j : ℕ) (c : RecordComponent) → AreKnownParts s cs → slice_get cs j ≡ Some c → IsKnown s c.subtype
part_known s [] j c h at = cc
part_known s (y ∷ cs) zero c h at = subst (λ z. IsKnown s z.subtype) (same_some y c at) h.0
part_known s (y ∷ cs) (suc j) c h at = part_known s cs j c h.1 at

-- ---- objects have the words of an image

abbrev HasRoom : Scope → Entity → Type 0
HasRoom s (Object r u) = words_of s u ≤ WORDS
HasRoom s e = Unit {0}

room_there : (s : Scope) → KeepsLimits s → (n : ℕ) (e : Entity) → entity_at s n ≡ Some e → HasRoom s e
room_there s limits n (Object r u) at = limits.objects n r u at
room_there s limits n e at = tt

room_without : (s : Scope) (e : Entity) → HasRoom s e → HasRoom s (offering [] e)
room_without s (Protected o) h = tt
room_without s e h = h

room_operation : (s : Scope) (o : Operation) → HasRoom s (operation_entity o)
room_operation s o = by_entry o.is_entry
  where
    by_entry : (b : Bool) → HasRoom s (elim b [ true ↦ Entry o.profile | false ↦ Subprogram o.profile ])
    by_entry true = tt
    by_entry false = tt

-- ---- in front of a body

module _ (scopes : ScopesAreSound) (names : NamesAreKnown) (premises : PremisesHold) (stay : ShapesStay) (room : WordsHaveRoom) (t : ProgramTree)
    (legal : IsLegal t)
    (restricted : IsRestricted t) where
  abbrev whole : Scope
  whole = (program_of t).scope

  abbrev w : IsPackage (program_of t) (start_in t.package_) (declared_in t.package_)
  w = added.w scopes names premises t legal restricted

  abbrev KeepsWords : Scope → Type 0
  KeepsWords s = (u : Subtype) → IsKnown s u → words_of whole u ≡ words_of s u

  front_words : (place : ℕ) → KeepsWords (front t place)
  front_words place u known = same_words premises names stay room t legal restricted place u known

  module _ (place k : ℕ) (c : Coded) (x : added.IsInObject scopes names premises t legal restricted place k c) where
    abbrev s : Scope
    s = front t place

    abbrev types : SameTypes s c.front
    types = types_there scopes names premises t legal restricted place k c x

    abbrev o : ProtectedObject
    o = object scopes names premises t legal restricted place k c x

    -- what is known behind the components is known in front of the whole body
    known_before : (u : Subtype) → IsKnown c.front u → IsKnown s u
    known_before u known = known_same c.front s (types_turned s c.front types) u known

    inside_words : KeepsWords c.front
    inside_words u known = let before = known_before u known in front_words place u before ∙ sym (words_same s c.front types u before)

    part_room : (j : ℕ) (y : RecordComponent) → slice_get o.components j ≡ Some y → words_of s y.subtype ≤ WORDS
    part_room j y at =
        let n = bodies.named_n (program_of t) (start_in t.package_) (declared_in t.package_) w place x.name x.items x.end_name x.at in
        let known = part_known s o.components j y (((names t legal restricted).fronts place).each n.0 (Protected o) n.2).1 at in
        let same = front_words place y.subtype known in
        let here = bodies.there (program_of t) (start_in t.package_) (declared_in t.package_) w place x.name x.items x.end_name x.at in
        let m =
        number_stands whole x.name.name (Protected o)
        (kept (program_of t) (start_in t.package_) (declared_in t.package_) w place x.name.name (Protected o) here.stands_) in
        let one = one_of_parts whole o.components j y at in
        let object_ = one_of_objects whole whole m.0 o m.2 in
        let all = room t (back_empty _ (size_faults t) legal) in
        under (words_of s y.subtype) (words_of whole y.subtype) (total (components_words whole o.components)) (total_of_all (objects_words whole whole))
        (total (variables_words whole whole)) same one object_ all
      where
        under : (a b c d e : ℕ) → b ≡ a → b ≤ c → c ≤ d → e + d ≤ WORDS → a ≤ WORDS
        under a b c d e h i j l = omega (arith, h, i, j, l)

    inside_limits : KeepsLimits s → KeepsLimits c.front
    inside_limits limits =
        record {
          types = λ u known. let before = known_before u known in ap is_full (shape_same s c.front types u before) ∙ limits.types u before;
          fit = λ u known up.
              let before = known_before u known in
              ap is_fit (shape_same s c.front types u before)
              ∙ limits.fit u before (subst (λ n. n ≤ WORDS) (words_same s c.front types u before) up);
          objects = λ n r u at.
              let before =
              known_before u
              (object_known c.front r u ((front_sound scopes names premises t legal restricted place k c x).each n (Object r u) at)) in
              subst (λ m. m ≤ WORDS) (sym (words_same s c.front types u before))
              (all_there scopes names premises t legal restricted place k c x (HasRoom s) (room_there s limits) (room_without s)
              (λ j y there. room_operation s y) tt (λ j d b there p is. tt) (λ j y is_read there. part_room j y there) n (Object r u) at);
        }

  -- words in front of a body are those in the whole
  pub words_there : (c : Coded) → IsBodyOf t c → (u : Subtype) → IsKnown c.front u → words_of whole u ≡ words_of c.front u
  words_there = fronts_by scopes names premises t legal restricted KeepsWords front_words inside_words

pub bodies_keep_limits : ScopesAreSound → NamesAreKnown → PremisesHold → ShapesStay → WordsHaveRoom → FrontsKeepLimits → BodiesKeepLimits
bodies_keep_limits scopes names premises stay room limits limit t tokens spelled legal restricted =
    fronts_by scopes names premises t legal restricted KeepsLimits (limits limit t tokens spelled legal restricted)
    (λ place k c x. inside_limits scopes names premises stay room t legal restricted place k c x (limits limit t tokens spelled legal restricted place))
