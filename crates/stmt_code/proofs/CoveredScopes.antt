-- What is visible keeps what code needs of it where an object, a loop parameter or formals are visible besides.
use Rattle.std.proofs.Common.{◌≡◌, ◌≤◌, ◌⊎◌, ◌||◌, inl, inr, ◌++◌, ◌+◌, ℕ, zero, suc, [], ◌∷◌, List, length, map, Bool, true, false, Option, Some, None, refl, sym, ap, ◌∙◌, subst, arith}
use Rattle.std.specs.Prelude.{cond, is_some, option_map}
use Rattle.std.proofs.lemmas.List.{append-nil, append_assoc}
use Rattle.base.specs.declared.faults.TheConstants.{DECLARED_TWICE}
use Rattle.image.specs.declared.instruction.Region.TheVariants as regions
use Rattle.ada_tree.specs.declared.declaration.Formal.{Formal}
use Rattle.ada_tree.specs.declared.expression.Identifier.{Identifier}
use Rattle.ada_tree.specs.StatementTree.{LocalObject, ObjectTree, RangeTree}
use Rattle.types.specs.declared.entity.Role.{Role}
use Rattle.types.specs.declared.entity.Role.TheVariants as role
use Rattle.types.specs.declared.entity.Subtype.{Subtype}
use Rattle.types.specs.declared.standing.Standing.{Standing}
use Rattle.types.specs.declared.standing.Standing.TheVariants as standing
use Rattle.types.specs.Entities.{Entity, Exception, Object, Profile}
use Rattle.types.specs.Scopes.{Named, Scope, entity_at, entity_of, form_at, is_visible, number_of, with_name}
use Rattle.types.specs.Standings.{stands_first, stands_for}
use Rattle.expr_soundness.specs.expr_rules.proofs.TypedLaw.{unbroken}
use Rattle.type_rules.specs.ObjectRules.{local_object_faults, object_entity, role_of}
use Rattle.type_rules.specs.SubtypeNames.{declared_twice, entity_at_or_none, subtype_of}
use Rattle.declaration_rules.specs.BodyNames.{formal_role, formal_scope, formals_scope, loop_faults, loop_scope, parameter_entity, turns_subtype}
use Rattle.part_code.specs.step_soundness.specs.Fitting.{entity_named}
use Rattle.expr_soundness.specs.SoundScopes.{IsSoundObject, SoundScope}
use Rattle.expr_soundness.proofs.Growing.{form_before, grown, object_named, sound_with_object, test_kept}
use Rattle.expr_soundness.proofs.Positions.{entity_added, item_added, number_added, number_kept, same_some}
use Rattle.expr_soundness.proofs.Widening.{subtype_known}
use Rattle.expr_code.specs.Entries.{entry_at}
use Rattle.expr_code.specs.Pieces.{narrow}
use Rattle.expr_code.specs.Providing.{is_scalar_form}
use Rattle.expr_code.specs.Seeing.{external_profile, number_behind, object_named as protected_by_name, profile_behind, profile_named, told_of}
use Rattle.expr_code.specs.declared.visible.Slot.{Slot}
use Rattle.expr_code.specs.declared.visible.Visible.{Visible}
use Rattle.part_code.specs.Bounds.{words_named}
use Rattle.part_code.specs.Emitting.{HasEntries}
use Rattle.part_code.specs.EntryNames.{entry_among, entry_behind}
use Rattle.part_code.specs.Formals.{no_subprogram, slot_for}
use Rattle.part_code.specs.Needs.{local_visible, with_object}
use Rattle.part_code.specs.Providing.{HasWhatCodeNeeds, is_full}
use Rattle.part_code.proofs.OperationNames.{told_object, told_without}
use Rattle.stmt_code.specs.StatementCode.{Site, after_local}
use Rattle.stmt_code.specs.Subprograms.{AreLegalFormals}
use Rattle.stmt_code.specs.WholeRefusals.{formals_visible, from_behind, out_behind, placed_as, placed_formals, placed_if}
use Rattle.stmt_code.proofs.Bounded.{parameter_hidden, range_type, subtype_in}
use Rattle.stmt_code.proofs.Declared.{local_subtype, object_new}
use Rattle.stmt_code.proofs.FormalNames.{AreNamed, IsBehind, formal_known, formals_named, named_there, one_behind, visible_there}
use Rattle.stmt_code.proofs.ObjectMore.{behind_before, callee_before, constant_or_variable, named_before, scalar_kept}

-- ---- what is told by numbers

abbrev told_by : {X : Type 0} → List (Option X) → Option ℕ → Option X
told_by all o = elim o [ None ↦ None | Some n ↦ entry_at all n ]

entry_kept : {X : Type 0} (xs ys : List (Option X)) (n : ℕ) (x : X) → entry_at xs n ≡ Some x → entry_at (xs ++ ys) n ≡ Some x
entry_kept [] ys n x h = absurd cc
entry_kept (y ∷ xs) ys zero x h = h
entry_kept (y ∷ xs) ys (suc n) x h = entry_kept xs ys n x h

entry_added : {X : Type 0} (xs : List (Option X)) (y : Option X) → entry_at (xs ++ y ∷ []) (length xs) ≡ y
entry_added [] y = refl
entry_added (x ∷ xs) y = entry_added xs y

told_kept : {X : Type 0} (s more : Scope) (all ys : List (Option X)) (name : List ℕ) (x : X) → told_of s all name ≡ Some x
    → told_of (s ++ more) (all ++ ys) name ≡ Some x
told_kept {X} s more all ys name x h = by_number (number_of s name) refl h
  where
    by_number : (o : Option ℕ) → number_of s name ≡ o → told_by all o ≡ Some x → told_of (s ++ more) (all ++ ys) name ≡ Some x
    by_number (Some n) is k = ap (told_by (all ++ ys)) (number_kept s more name n is) ∙ entry_kept all ys n x k
    by_number None is k = absurd cc

present : {X : Type 0} (o : Option X) → is_some o ≡ true → (x : X) × (o ≡ Some x)
present (Some x) h = (x, refl)
present None h = absurd cc

-- words that are stored have a place
placed : (o : Option Slot) → is_some o ≡ true → (x : Slot) × (o ≡ Some x) × (is_some (Some x) ≡ true)
placed (Some x) h = (x, refl, h)
placed None h = absurd cc

one_longer : {X : Type 0} (xs : List X) (x : X) → length (xs ++ x ∷ []) ≡ suc (length xs)
one_longer [] x = refl
one_longer (y ∷ xs) x = ap suc (one_longer xs x)

-- ---- what a name stands for

abbrev object_in : Entity → Standing → Entity
object_in e (standing.Part r t) = Object r t
object_in e w = e

part_entity : (n : ℕ) (o : Option Entity) (r : Role) (t : Subtype) → stands_for n o ≡ standing.Part r t → o ≡ Some (Object r t)
part_entity n (Some (Object q u)) r t h = ap (λ w. Some (object_in Exception w)) h
part_entity n o r t h = absurd cc

pub part_named : (s : Scope) (name : List ℕ) (r : Role) (t : Subtype) → stands_first s (number_of s name) ≡ standing.Part r t
    → entity_named s name ≡ Some (Object r t)
part_named s name r t h = by_number (number_of s name) h
  where
    by_number : (o : Option ℕ) → stands_first s o ≡ standing.Part r t → entity_at_or_none s o ≡ Some (Object r t)
    by_number (Some n) k = part_entity n (entity_at s n) r t k
    by_number None k = absurd cc

named_part : (s : Scope) (name : List ℕ) (r : Role) (t : Subtype) → entity_named s name ≡ Some (Object r t)
    → stands_first s (number_of s name) ≡ standing.Part r t
named_part s name r t h = by_number (number_of s name) h
  where
    by_number : (o : Option ℕ) → entity_at_or_none s o ≡ Some (Object r t) → stands_first s o ≡ standing.Part r t
    by_number (Some n) k = ap (stands_for n) k
    by_number None k = absurd cc

-- ---- with an object more

abbrev seen_by : (operations : List (List (Option ℕ))) → Scope → List (Option Slot) → List (Option ℕ) → Visible
seen_by os s xs ys = record { scope = s; slots = xs; subprograms = ys; operations = os }

-- names that are visible have what code needs, and what is told of each stands at its number
pub record IsCovered (exceptions : List (List ℕ)) (v : Visible) : Type 0 where
  pub sound : SoundScope v.scope
  pub entries : HasEntries v
  pub has : HasWhatCodeNeeds exceptions v

module _ (exceptions : List (List ℕ)) (os : List (List (Option ℕ))) (s : Scope) (xs : List (Option Slot)) (ys : List (Option ℕ))
    (it : IsCovered exceptions (seen_by os s xs ys))
    (name : List ℕ) (r : Role) (t : Subtype) (x : Slot) (held : is_some (Some x) ≡ true) where
  abbrev own : Named
  own = object_named name r t

  abbrev wider : Scope
  wider = s ++ own ∷ []

  abbrev slots : List (Option Slot)
  slots = xs ++ Some x ∷ []

  abbrev subprograms : List (Option ℕ)
  subprograms = ys ++ None ∷ []

  -- a name stands for what it stood for before, or for the object
  before : (other : List ℕ) (e : Entity) → entity_named wider other ≡ Some e
      → (entity_named s other ≡ Some e) ⊎ ((Object r t ≡ e) × (number_of wider other ≡ Some (length s)))
  before other e h = by_number (number_of wider other) refl h
    where
      by_entity : (n : ℕ) → number_of wider other ≡ Some n → number_of s other ≡ Some n
          → (entity_at s n ≡ Some e) ⊎ ((n ≡ length s) × (Object r t ≡ e))
          → (entity_named s other ≡ Some e) ⊎ ((Object r t ≡ e) × (number_of wider other ≡ Some (length s)))
      by_entity n is i (inl j) = inl (ap (entity_at_or_none s) i ∙ j)
      by_entity n is i (inr j) = inr (j.1, is ∙ ap Some j.0)

      by_number : (o : Option ℕ) → number_of wider other ≡ o → entity_at_or_none wider o ≡ Some e
          → (entity_named s other ≡ Some e) ⊎ ((Object r t ≡ e) × (number_of wider other ≡ Some (length s)))
      by_number (Some n) is k =
          elim (number_added s own other n is) [
            | inl i ↦ by_entity n is i (entity_added s own n e k)
            | inr i ↦ inr (same_some (Object r t) e (sym (ap entity_of (item_added s own)) ∙ ap (entity_at wider) (sym i.0) ∙ k), is ∙ ap Some i.0)
          ]
      by_number None is k = absurd cc

  stored_here : (other : List ℕ) (q : Role) (u : Subtype) → stands_first wider (number_of wider other) ≡ standing.Part q u
      → is_some (told_of wider slots other) ≡ true
  stored_here other q u h =
      elim (before other (Object q u) (part_named wider other q u h)) [
        | inl i ↦ (let old = placed (told_of s xs other) (it.has.expressions.stored other q u (named_part s other q u i)) in
            ap is_some (told_kept s (own ∷ []) xs (Some x ∷ []) other old.0 old.1) ∙ old.2)
        | inr i ↦ ap is_some (ap (told_by slots) (i.1 ∙ ap Some (sym it.entries.slots)) ∙ entry_added xs (Some x)) ∙ held
      ]

  numbered_here : (other : List ℕ) (p : Profile) → profile_named wider other ≡ Some p → is_some (told_of wider subprograms other) ≡ true
  numbered_here other p h =
      let old = present (told_of s ys other) (it.has.expressions.numbered other p (named_before s name r t other p h)) in
      ap is_some (told_kept s (own ∷ []) ys (None ∷ []) other old.0 old.1)

  raised_here : (other : List ℕ) → entity_named wider other ≡ Some Exception → entity_named s other ≡ Some Exception
  raised_here other h = elim (before other Exception h) [ inl i ↦ i | inr i ↦ (let never = i.0 in absurd cc) ]

  -- the name of a protected object is no other than before
  same_object : (other operation : List ℕ) (p : Profile) → external_profile wider other operation ≡ Some p
      → protected_by_name wider other ≡ protected_by_name s other
  same_object other operation p h =
      let o = told_object (λ q. profile_behind q operation) refl p (protected_by_name wider other) h in
      let was = told_without (λ q. q) refl o.0 other s own (λ q is. cc) o.1 in
      o.1 ∙ sym was.2

  offered_here : (other operation : List ℕ) (p : Profile) → external_profile wider other operation ≡ Some p
      → (is_some (entry_behind wider other operation) || is_some (number_behind os (protected_by_name wider other) operation)) ≡ true
  offered_here other operation p h =
      subst (λ q. (is_some (entry_among q operation) || is_some (number_behind os q operation)) ≡ true) (sym (same_object other operation p h))
      (it.has.offered other operation p (behind_before s name r t other operation p h))

  gives_here : (other operation : List ℕ) (p : Profile) (u : Subtype) → external_profile wider other operation ≡ Some p → p.result ≡ Some u
      → (is_some (number_behind os (protected_by_name wider other) operation) ≡ true) × (is_scalar_form (form_at wider u.type_number) ≡ true)
  gives_here other operation p u h result =
      let old = it.has.expressions.gives other operation p u (behind_before s name r t other operation p h) result in (
        ap (λ q. is_some (number_behind os q operation)) (same_object other operation p h) ∙ old.0,
        test_kept s wider (grown s (own ∷ [])) is_scalar_form refl u.type_number old.1,
      )

  covered_behind : HasWhatCodeNeeds exceptions (seen_by os wider slots subprograms)
  covered_behind =
      record {
        expressions = record {
          formals =
              λ f p is. let old = it.has.expressions.formals f p (callee_before s name r t f p is) in record {
                few = old.few;
                scalar = λ result given. scalar_kept s (own ∷ []) p.formals (old.scalar result given);
              };
          stored = stored_here;
          numbered = numbered_here;
          results = λ other p u is result. test_kept s wider (grown s (own ∷ [])) is_scalar_form refl u.type_number
              (it.has.expressions.results other p u (named_before s name r t other p is) result);
          gives = gives_here;
        };
        full = λ n form is. let old = form_before s name r t n form is in ap is_full ((grown s (own ∷ [])).shapes n form old) ∙ it.has.full n form old;
        raised = λ other h. it.has.raised other (raised_here other h);
        offered = offered_here;
      }

  all_behind : IsSoundObject s r t → IsCovered exceptions (seen_by os wider slots subprograms)
  all_behind object = record {
    sound = sound_with_object s name r t it.sound object;
    entries = record {
      slots = one_longer xs (Some x) ∙ ap suc it.entries.slots ∙ sym (one_longer s own);
      subprograms = one_longer ys None ∙ ap suc it.entries.subprograms ∙ sym (one_longer s own);
    };
    has = covered_behind;
  }

  -- a name that was not visible
  covered_with : IsSoundObject s r t → is_visible s name ≡ false → IsCovered exceptions (seen_by os (with_name s name (Object r t)) slots subprograms)
  covered_with object hidden =
      let is : with_name s name (Object r t) ≡ wider = ap (λ b. cond b s wider) hidden in
      subst (λ u. IsCovered exceptions (seen_by os u slots subprograms)) (sym is) (all_behind object)

-- ---- declarations of objects, and loop parameters

new_name : (s : Scope) (name : Identifier) → declared_twice s name ≡ [] → is_visible s name.name ≡ false
new_name s name h = unbroken DECLARED_TWICE name.place (is_visible s name.name) h

module _ (exceptions : List (List ℕ)) (v : Visible) (sound : SoundScope v.scope) (entries : HasEntries v) (has : HasWhatCodeNeeds exceptions v) where
  abbrev whole : IsCovered exceptions v
  whole = record { sound = sound; entries = entries; has = has }

  module _ (taken : ℕ) where
    abbrev here : Slot
    here = record { region = regions.Locals; offset = taken }

    pub whole_local : (d : ObjectTree) (t : Subtype) → subtype_of v.scope d.subtype ≡ Some t → declared_twice v.scope d.name ≡ []
        → IsCovered exceptions (local_visible v taken (LocalObject d))
    whole_local d t is new =
        subst (λ o. IsCovered exceptions (with_object v (with_name v.scope d.name.name (object_entity (role_of d.constant) o)) taken)) (sym is)
        (covered_with exceptions v.operations v.scope v.slots v.subprograms whole d.name.name (role_of d.constant) t here refl
        (constant_or_variable v.scope d.constant t (subtype_known v.scope d.subtype t sound is)) (new_name v.scope d.name new))

    pub whole_loop : (parameter : Identifier) (range : RangeTree) → loop_faults v.scope parameter range ≡ []
        → IsCovered exceptions (with_object v (loop_scope v.scope parameter range) taken)
    whole_loop parameter range h =
        let s = v.scope in
        let found = range_type s parameter range h sound in
        subst (λ o. IsCovered exceptions (with_object v (with_name s parameter.name (parameter_entity (option_map (turns_subtype s range) o))) taken))
        (sym found.typed)
        (covered_with exceptions v.operations s v.slots v.subprograms whole parameter.name role.LoopParameter (subtype_in s range found) here refl
        found.integers (parameter_hidden s parameter range h))

-- ---- sites

-- what is visible at the site has what its code needs
abbrev pub IsFull : Site → Type 0
IsFull c = IsCovered c.exceptions c.visible

-- and so has what is visible after a declaration
pub full_local : (c : Site) (d : ObjectTree) → IsFull c → local_object_faults c.visible.scope d ≡ [] → IsFull (after_local c (LocalObject d))
full_local c d full legal = by_subtype (subtype_of c.visible.scope d.subtype) refl
  where
    by_subtype : (o : Option Subtype) → subtype_of c.visible.scope d.subtype ≡ o → IsFull (after_local c (LocalObject d))
    by_subtype (Some t) is = whole_local c.exceptions c.visible full.sound full.entries full.has (narrow c.taken) d t is (object_new c.visible.scope d legal)
    by_subtype None is = absurd (local_subtype c.visible.scope full.sound d legal is)

-- ---- formals

-- the formal, as a name
abbrev formal_name : Scope → Formal → Named
formal_name u f = record { name = f.name.name; entity = object_entity (formal_role f.mode) (subtype_of u f.subtype) }

-- each adds a name at most
one_most : (u : Scope) (x : Named) (b : Bool) → length (cond b u (u ++ x ∷ [])) ≤ suc (length u)
one_most u x true = omega arith
one_most u x false = let one = one_longer u x in omega (arith, one)

formals_most : (u : Scope) (fs : List Formal) → length (formals_scope u fs) ≤ length u + length fs
formals_most u [] = omega arith
formals_most u (f ∷ fs) =
    let one : length (formal_scope u f) ≤ suc (length u) = one_most u (formal_name u f) (is_visible u f.name.name) in
    let more = formals_most (formal_scope u f) fs in
    omega (arith, one, more)

-- so where they add one each, the first one is new
first_new : (u : Scope) (f : Formal) (fs : List Formal) → length (formals_scope u (f ∷ fs)) ≡ length u + suc (length fs) → is_visible u f.name.name ≡ false
first_new u f fs h = by_test (is_visible u f.name.name) refl
  where
    by_test : (b : Bool) → is_visible u f.name.name ≡ b → b ≡ false
    by_test false is = refl
    by_test true is =
        let same : length (formals_scope (formal_scope u f) fs) ≡ length (formals_scope u fs) =
        ap (λ b. length (formals_scope (cond b u (u ++ formal_name u f ∷ [])) fs)) is in
        let most = formals_most u fs in
        absurd (omega (arith, same, most, h))

module _ (exceptions : List (List ℕ)) (os : List (List (Option ℕ))) (s : Scope) where
  formals_covered : (fs : List Formal) (u : Scope) (xs : List (Option Slot)) (ys : List (Option ℕ)) (from out : ℕ) → IsBehind s u → AreNamed s fs
      → IsCovered exceptions (seen_by os u xs ys) → length (formals_scope u fs) ≡ length u + length fs
      → IsCovered exceptions (seen_by os (formals_scope u fs) (xs ++ map slot_for (placed_formals s from out fs))
      (ys ++ map no_subprogram (placed_formals s from out fs)))
  formals_covered [] u xs ys from out h named it long =
      let same : seen_by os u (xs ++ []) (ys ++ []) ≡ seen_by os u xs ys = λ j. seen_by os u (append-nil xs j) (append-nil ys j) in
      subst (IsCovered exceptions) (sym same) it
  formals_covered (f ∷ fs) u xs ys from out h named it long =
      let t = named.0.0 in
      let typed = subtype_known u f.subtype t it.sound (named_there s u f t h named.0.1) in
      let new = first_new u f fs long in
      let x = placed_as f.mode t from out in
      let next = from_behind f.mode (words_named s f.subtype) from in
      let later = out_behind f.mode (words_named s f.subtype) out in
      let rest = placed_formals s next later fs in
      let visible = visible_there s u f t h named.0.1 in
      let one : IsCovered exceptions (seen_by os (formal_scope u f) (xs ++ slot_for x ∷ []) (ys ++ no_subprogram x ∷ [])) =
      subst (λ w. IsCovered exceptions (seen_by os w (xs ++ slot_for x ∷ []) (ys ++ no_subprogram x ∷ []))) (sym visible)
      (covered_with exceptions os u xs ys it f.name.name (formal_role f.mode) t (record { region = regions.Locals; offset = x.offset }) refl
      (formal_known f.mode u t typed) new) in
      let longer : length (formal_scope u f) ≡ suc (length u) =
      ap (λ b. length (cond b u (u ++ formal_name u f ∷ []))) new ∙ one_longer u (formal_name u f) in
      let all = formals_covered fs (formal_scope u f) (xs ++ slot_for x ∷ []) (ys ++ no_subprogram x ∷ []) next later
      (one_behind s u f t h named.0.1) named.1 one (omega (arith, long, longer)) in
      let joined : seen_by os (formals_scope (formal_scope u f) fs) ((xs ++ slot_for x ∷ []) ++ map slot_for rest)
      ((ys ++ no_subprogram x ∷ []) ++ map no_subprogram rest)
      ≡ seen_by os (formals_scope (formal_scope u f) fs) (xs ++ map slot_for (placed_if f.mode from out (Some t) rest))
      (ys ++ map no_subprogram (placed_if f.mode from out (Some t) rest)) =
      λ j. seen_by os (formals_scope (formal_scope u f) fs) (append_assoc xs (slot_for x ∷ []) (map slot_for rest) j)
      (append_assoc ys (no_subprogram x ∷ []) (map no_subprogram rest) j) in
      subst (λ o. IsCovered exceptions (seen_by os (formals_scope (formal_scope u f) fs) (xs ++ map slot_for (placed_if f.mode from out o rest))
      (ys ++ map no_subprogram (placed_if f.mode from out o rest)))) (sym named.0.1)
      (subst (IsCovered exceptions) joined all)

pub whole_formals : (exceptions : List (List ℕ)) (v : Visible) (fs : List Formal) → SoundScope v.scope → HasEntries v → HasWhatCodeNeeds exceptions v
    → AreLegalFormals v.scope fs → IsCovered exceptions (formals_visible v fs)
whole_formals exceptions v fs sound entries has head =
    formals_covered exceptions v.operations v.scope fs v.scope v.slots v.subprograms 0 _ (record { more = []; is = sym (append-nil v.scope) })
    (formals_named v.scope fs head.named) (record { sound = sound; entries = entries; has = has }) head.new_names

pub covered_formals : (exceptions : List (List ℕ)) (v : Visible) (fs : List Formal) → SoundScope v.scope → HasEntries v → HasWhatCodeNeeds exceptions v
    → AreLegalFormals v.scope fs → HasWhatCodeNeeds exceptions (formals_visible v fs)
covered_formals exceptions v fs sound entries has head = (whole_formals exceptions v fs sound entries has head).has
