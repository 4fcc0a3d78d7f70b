-- What a frame sees of the package in front of its bodies.
use Rattle.std.proofs.Common.{◌≡◌, ◌≢◌, ◌⊎◌, ℕ, ◌+◌, ◌<◌, ◌≤◌, inl, inr, List, [], ◌++◌, length, cond, Option, Some, None, Bool, true, false, refl, sym, ap, ◌∙◌, subst, arith}
use Rattle.std.specs.Prelude.{bytes_eq, drop, is_some, pos, replicate, slice_get, nat_le}
use Rattle.std.proofs.Math.Seq.{take-length}
use Rattle.std.proofs.lemmas.Bool.{and_parts, leb-true}
use Rattle.std.proofs.lemmas.List.{length-replicate, take-append-drop}
use Rattle.std.proofs.lemmas.Option.{slice_get_within}
use Rattle.ada_tree.specs.ProgramTree.{BodyItemTree, ProgramTree}
use Rattle.base.specs.declared.limits.TheConstants.{FRAME_WORDS}
use Rattle.image.specs.Operations.{called}
use Rattle.image.specs.RuleFacts.{facts}
use Rattle.image.specs.RuleLaws.{placed-at}
use Rattle.image.specs.Rules.{IsWellFormed, is_subprogram}
use Rattle.image.specs.Sections.{Sections}
use Rattle.image.specs.declared.subprograms.Subprogram.{Subprogram}
use Rattle.image.specs.declared.instruction.Region.TheVariants as regions
use Rattle.types.specs.declared.entity.Role.{Role}
use Rattle.types.specs.declared.entity.Role.TheVariants as role
use Rattle.types.specs.declared.entity.Subtype.{Subtype}
use Rattle.types.specs.Entities.{Entity, ProtectedObject}
use Rattle.types.specs.Entities as entity
use Rattle.types.specs.Laws.{ShapesStay, ValuesHaveWords}
use Rattle.types.specs.Layouts.{words_of}
use Rattle.types.specs.Places.{or_else}
use Rattle.types.specs.Scopes.{Named, Scope, entity_of, form_of, with_name}
use Rattle.types.specs.Shapes.{words}
use Rattle.types.specs.Statics.{static_place}
use Rattle.declaration_rules.specs.Laws.{StandsFirst}
use Rattle.declaration_rules.specs.PackageNames.{body_items_scope}
use Rattle.program_soundness.specs.legality.specs.ProgramRules.{IsLegal}
use Rattle.ravenscar.specs.ProgramRules.{IsRestricted}
use Rattle.expr_soundness.specs.Laws.{ScopesAreSound}
use Rattle.expr_soundness.specs.SoundScopes.{IsKnown, SoundScope}
use Rattle.expr_soundness.proofs.Goods.{object_known}
use Rattle.expr_soundness.proofs.Positions.{entity_number, same_some}
use Rattle.expr_soundness.specs.meaning.specs.Programs.{Program, program_of}
use Rattle.program_soundness.specs.step_soundness.specs.Fitting.{IsFound}
use Rattle.program_soundness.specs.step_soundness.specs.Laws.{Premises}
use Rattle.program_soundness.specs.step_soundness.specs.Objects.{first_store}
use Rattle.program_soundness.specs.Fronts.{declared_in, front, start_in}
use Rattle.program_soundness.specs.BodyLaws.{FrontsFit, IsSoundMemory, BodyNamesAreSound, NamesAreKnown, PremisesHold}
use Rattle.program_soundness.proofs.Assembled as assembled
use Rattle.program_soundness.proofs.WiderScopes.{number_stands, one_named, stands, stands_number, stands_with}
use Rattle.program_soundness.proofs.Listing.{or_else_some}
use Rattle.program_soundness.proofs.PackageBodies.{front_first}
use Rattle.program_soundness.proofs.Trees.{tree_package}
use Rattle.program_soundness.proofs.Whole.{IsPackage, kept, entity_variable}
use Rattle.program_soundness.specs.ProgramLaws.{StartsAreSound}
use Rattle.expr_code.specs.Seeing.{Package, object_named, slot_of}
use Rattle.expr_code.specs.declared.visible.Slot.{Slot}
use Rattle.step_simulation.specs.part_code.specs.Layout.{AreApart, AreFree, EndsBelow, IsLaid, IsLaidOut, NamesObject}
use Rattle.step_simulation.specs.part_code.specs.Resting.{Framed, RestsWith}
use Rattle.stmt_code.proofs.Entering.{IsOfPackage, rests_package}
use Rattle.step_simulation.specs.part_code.proofs.Names.{is_told}
use Rattle.package_code.specs.Package.{FindsNames, IsInFront, IsPackageOf}
use Rattle.package_code.proofs.Offered.{object_entity, offered}

pub record LawsOfNames : Type 0 where
  pub sized : ValuesHaveWords
  pub stay : ShapesStay
  pub scopes : ScopesAreSound
  pub names : NamesAreKnown
  pub premises : PremisesHold
  pub starts : StartsAreSound
  pub fronts : FrontsFit

-- ---- an object more serves as well: whatever its name was, no statement calls it

abbrev named_object : List ℕ → Role → Subtype → Named
named_object name r u = record { name = name; entity = entity.Object r u }

pub serves_more : (program : Program) (owner : Option ℕ) (v next : Framed) (name : List ℕ) (r : Role) (u : Subtype) → FindsNames program owner v
    → next.names.scope ≡ with_name v.names.scope name (entity.Object r u)
    → FindsNames program owner next
serves_more program owner v next name r u serves scope = record { finds = finds }
  where
    by_name : (other : List ℕ) (e : Entity) (b : Bool) → cond b (Some (entity.Object r u)) None ≡ Some e → IsFound program owner other e
    by_name other e true h = subst (IsFound program owner other) (same_some (entity.Object r u) e h) tt
    by_name other e false h = cc

    names : (other : List ℕ) → stands next.names.scope other ≡ or_else (stands v.names.scope other) (one_named (named_object name r u) other)
    names other = ap (λ s. stands s other) scope ∙ stands_with v.names.scope name (entity.Object r u) other

    finds : (other : List ℕ) (e : Entity) → stands next.names.scope other ≡ Some e → IsFound program owner other e
    finds other e h = elim (or_else_some (stands v.names.scope other) _ e (sym (names other) ∙ h)) [
      | inl k ↦ serves.finds other e k
      | inr k ↦ by_name other e (bytes_eq other name) k.1
    ]

pub known_inside : (s : Scope) (u : Subtype) → IsKnown s u → u.type_number < length s
known_inside s u known = by_item (slice_get s u.type_number) refl known
  where
    by_item : (o : Option Named) → slice_get s u.type_number ≡ o → is_some (form_of (entity_of o)) ≡ true → u.type_number < length s
    by_item (Some m) e h = slice_get_within s u.type_number m e
    by_item None e h = cc

-- ---- frames are small

pub few_locals : (i : Sections) → IsWellFormed i → (n : ℕ) (s : Subprogram) → called i n ≡ Some s → (s.parameters ≤ s.locals) × (s.locals ≤ 65536)
few_locals i well_formed n s there =
    let a = and_parts (nat_le s.parameters s.locals) _ (placed-at (is_subprogram i) i.subprograms n s (facts i well_formed).subprograms there) in
    let b = leb-true (s.locals + s.stack) FRAME_WORDS (and_parts (nat_le (s.locals + s.stack) FRAME_WORDS) _ a.1).0 in
    (leb-true s.parameters s.locals a.0, omega (arith, b))

-- ---- what is visible in front of the declarations and bodies of the package

module _ (laws : LawsOfNames) (t : ProgramTree) (legal : IsLegal t) (restricted : IsRestricted t) where
  abbrev program : Program
  program = program_of t

  abbrev all : List BodyItemTree
  all = declared_in t.package_

  abbrev start : Scope
  start = start_in t.package_

  abbrev pub known : Premises program
  known = laws.premises t legal

  abbrev pub names : BodyNamesAreSound t
  names = laws.names t legal restricted

  pub memory : IsSoundMemory program (first_store program)
  memory = let s = (laws.starts t legal restricted).store in record { variables = s.variables; components = s.components; same = s.same }

  abbrev pub whole : IsPackage program start all
  whole = tree_package t legal restricted known.sound

  -- behind the last declaration and body all of the package is visible
  pub last_is : front t (length all) ≡ program.scope
  last_is = ap (body_items_scope start) (take-length all) ∙ whole.scope

  pub stands_first : (place : ℕ) → StandsFirst (front t place) program.scope
  stands_first place =
      front_first program start all whole known laws.scopes (first_store program) memory
      (assembled.offers laws.scopes t (first_store program) legal restricted names known memory) names.fronts place

  pub kept_behind : (place : ℕ) (name : List ℕ) (e : Entity) → stands (front t place) name ≡ Some e → stands program.scope name ≡ Some e
  kept_behind place name e h = kept program start all whole place name e h

  -- what is visible in front names what the program has
  pub front_serves : (v : Framed) (place : ℕ) → v.names.scope ≡ front t place → FindsNames program None v
  front_serves v place scope =
      record {
        finds = λ name e h.
            (laws.fronts t (first_store program) legal restricted memory place (static_place program.scope)).finds name e
            (sym (ap (λ s. stands s name) scope) ∙ h);
      }

  module _ (i : Sections) (g : Package) (of_program : IsPackageOf t i g) (v : Framed) (place : ℕ)
      (f : IsInFront (front t place) g None v) where
    abbrev s : Scope
    s = v.names.scope

    pub front_sound : SoundScope s
    front_sound = subst SoundScope (sym f.scope) (names.fronts place)

    first_whole : StandsFirst s program.scope
    first_whole = subst (λ u. StandsFirst u program.scope) (sym f.scope) (stands_first place)

    first_here : StandsFirst s g.scope
    first_here = subst (StandsFirst s) (sym of_program.scope) first_whole

    plain : (name : List ℕ) (x : Slot) → slot_of v.names name ≡ Some x → x.region ≡ regions.Plain
    plain name x told = of_program.laid.plain name x (f.slots name x told)

    no_local : (name : List ℕ) (x : Slot) → slot_of v.names name ≡ Some x → x.region ≡ regions.Locals → ⊥
    no_local name x told local = let p = sym (plain name x told) ∙ local in cc

    -- a protected object that is visible is that of the package
    pub alike : (name : List ℕ) (o : ProtectedObject) → stands program.scope name ≡ Some (entity.Protected o) → (q : ProtectedObject) → object_named s name ≡ Some q
        → (q ≡ o) ⊎ (q.operations ≡ [])
    alike name o is q there =
        let here = kept_behind place name (entity.Protected q) (ap (λ u. stands u name) (sym f.scope) ∙ object_entity s name q there) in
        let same = sym here ∙ is in
        let object_in : Option Entity → ProtectedObject = λ x. elim x [ Some y ↦ elim y [ entity.Protected z ↦ z | other ↦ q ] | None ↦ q ] in
        inl (ap object_in same)

    -- an object of the package is a variable
    no_loops : (name : List ℕ) (u : Subtype) → NamesObject s name role.LoopParameter u → ⊥
    no_loops name u n =
        let e : Entity = entity.Object role.LoopParameter u in
        let there = kept_behind place name e (ap (λ z. stands z name) (sym f.scope) ∙ stands_number s name n.number e n.numbered n.stands) in
        let bad = (entity_variable program start all whole name role.LoopParameter u there).variable_ in
        cc

    pub front_of_package : IsOfPackage g v
    front_of_package = record {
      sound = front_sound;
      first = first_here;
      no_loops = no_loops;
      plain = plain;
      slots = f.slots;
      calls = f.calls;
      externals = λ name operation number o q told named found.
          let there = ap (λ u. stands u name) (sym of_program.scope) ∙ object_entity g.scope name o named in
          offered program start all whole g of_program.scope v.names f.operations name operation number o q told (alike name o there) there found;
      within = f.within;
    }

    -- ---- its objects are those of the package, and have as many words there

    stands_behind : (name : List ℕ) (e : Entity) → stands s name ≡ Some e → stands g.scope name ≡ Some e
    stands_behind name e h =
        subst (λ u. stands u name ≡ Some e) (sym of_program.scope) (kept_behind place name e (ap (λ u. stands u name) (sym f.scope) ∙ h))

    object_behind : (name : List ℕ) (r : Role) (u : Subtype) → NamesObject s name r u → NamesObject g.scope name r u
    object_behind name r u n =
        let e : Entity = entity.Object r u in
        let k = number_stands g.scope name e (stands_behind name e (stands_number s name n.number e n.numbered n.stands)) in
        record { number = k.0; numbered = k.1; stands = k.2 }

    abbrev more : Scope
    more = drop (length s) program.scope

    longer : program.scope ≡ s ++ more
    longer = sym (take-append-drop (length s) program.scope) ∙ ap (λ l. l ++ more) first_whole

    pub front_words : (u : Subtype) → IsKnown s u → words_of program.scope u ≡ words_of s u
    front_words u there = ap (λ l. words_of l u) longer ∙ ap words (laws.stay s more u (known_inside s u there))

    object_words : (name : List ℕ) (r : Role) (u : Subtype) → NamesObject s name r u → words_of g.scope u ≡ words_of s u
    object_words name r u n =
        ap (λ l. words_of l u) of_program.scope ∙ front_words u (object_known s r u (front_sound.each n.number (entity.Object r u) n.stands))

    -- ---- the places are laid out

    objects_named : (name : List ℕ) (x : Slot) → slot_of v.names name ≡ Some x → (r : Role) × (u : Subtype) × NamesObject s name r u
    objects_named name x told =
        let n = is_told s v.names.slots name x told in
        let e = entity_number s name n.number n.numbered in
        let o = of_program.laid.laid.objects name x (f.slots name x told) in
        let there = stands_number g.scope name o.2.number (entity.Object o.0 o.1) o.2.numbered o.2.stands in
        let same = sym (stands_behind name e.0 (stands_number s name n.number e.0 n.numbered e.1)) ∙ there in
        (o.0, o.1, record { number = n.number; numbered = n.numbered; stands = e.1 ∙ same })

    front_apart : (one other : List ℕ) (x y : Slot) (q r : Role) (a b : Subtype) → one ≢ other → slot_of v.names one ≡ Some x → slot_of v.names other ≡ Some y
        → x.region ≡ y.region → NamesObject s one q a → NamesObject s other r b → AreApart x.offset (words_of s a) y.offset (words_of s b)
    front_apart one other x y q r a b differ first second same m n =
        subst (λ k. AreApart x.offset k y.offset (words_of s b)) (object_words one q a m)
        (subst (λ k. AreApart x.offset (words_of g.scope a) y.offset k) (object_words other r b n)
        (of_program.laid.laid.apart one other x y q r a b differ (f.slots one x first) (f.slots other y second) same (object_behind one q a m)
        (object_behind other r b n)))

    front_places : IsLaid s (slot_of v.names)
    front_places = record { objects = objects_named; apart = front_apart }

    front_free : AreFree v
    front_free name x r u told local named variable = absurd (no_local name x told local)

    pub front_laid : IsLaidOut g v
    front_laid = record {
      unit = of_program.laid;
      laid = front_places;
      shared = λ name x told region. f.slots name x told;
      free = front_free;
      own = λ name x o told region within. absurd (let bad = sym (plain name x told) ∙ region in cc);
      slots = f.many_slots;
      subprograms = f.many_subprograms;
    }

    -- no word of the frame is an object's
    pub front_ends : EndsBelow v 0
    front_ends name x r u told local named = absurd (no_local name x told local)

    -- a frame with no names of its own, as main's
    pub bare_rests : v.reserved ≡ [] → (locals : ℕ) → v.room ≤ locals → locals ≤ 65536
        → RestsWith g v [] (record { within = None; locals = [] }) (replicate locals (pos 0))
    bare_rests reserved locals room small =
        let long = length-replicate locals (pos 0) in
        record {
          rests = rests_package known.kept g v front_of_package (replicate locals (pos 0)) (omega (arith, long, small)) (omega (arith, long, room));
          held = tt;
          apart = sym reserved;
        }
