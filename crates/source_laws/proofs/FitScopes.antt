-- Scopes in which each object, and each formal of what is called, has words, and no more than an image: names that a body adds keep them so.
use Rattle.std.proofs.Common.{◌≡◌, ℕ, suc, ◌+◌, ◌≤◌, ◌⊎◌, inl, inr, Bool, true, false, cond, not, List, [], ◌∷◌, ◌++◌, length, Option, Some, None, refl, sym, ap, ◌∙◌, subst, arith}
use Rattle.std.specs.Prelude.{bytes_eq, is_some, option_map}
use Rattle.std.proofs.lemmas.Bool.{or_from}
use Rattle.base.specs.declared.limits.TheConstants.{FRAME_WORDS, TASK_PRIORITY, WORDS}
use Rattle.ada_tree.specs.declared.declaration.Formal.{Formal}
use Rattle.ada_tree.specs.declared.expression.Identifier.{Identifier}
use Rattle.ada_tree.specs.StatementTree.{DeclarationTree, LocalObject, LocalProtected, LocalTask, ObjectTree, RangeTree}
use Rattle.types.specs.declared.entity.FormalParameter.{FormalParameter}
use Rattle.types.specs.declared.entity.Role.{Role}
use Rattle.types.specs.declared.entity.Subtype.{Subtype}
use Rattle.types.specs.Entities.{Doubtful, Entity, Integers, Object, Profile, Protected, ProtectedObject, Subprogram, Task, TypeForm}
use Rattle.types.specs.Laws.{ShapesStay}
use Rattle.types.specs.Layouts.{capped, words_of}
use Rattle.types.specs.Places.{or_else}
use Rattle.types.specs.Scopes.{Scope, base_range_of, entity_at, form_at, form_of, is_visible, protected_at, protected_of, with_name}
use Rattle.types.specs.Shapes.{shape_of, words}
use Rattle.expr_soundness.specs.expr_rules.specs.Typing.{is_integers, own_of}
use Rattle.expr_soundness.specs.expr_rules.proofs.TypedLaw.{back_empty, front_empty}
use Rattle.expr_soundness.specs.type_rules.specs.ObjectRules.{object_entity, role_of}
use Rattle.expr_soundness.specs.type_rules.specs.SubtypeNames.{subtype_in, subtype_of}
use Rattle.program_soundness.specs.declaration_rules.specs.BodyNames.{bounds_type, formal_role, formal_scope, formals_scope, if_integers, loop_scope, loop_subtype, parameter_entity, turns_subtype}
use Rattle.program_soundness.specs.declaration_rules.specs.LocalRules.{local_scope, locals_scope}
use Rattle.program_soundness.specs.declaration_rules.specs.TaskRules.{default_priority, priority_of}
use Rattle.program_soundness.specs.step_soundness.specs.body_restrictions.specs.BodyRules as restrictions
use Rattle.size_rules.specs.BodySizes as size
use Rattle.size_rules.specs.BodySizes.{formals_things, local_things, locals_things}
use Rattle.size_rules.specs.Laws.{WordsAddUp, counted_words}
use Rattle.size_rules.specs.Limits.{Things}
use Rattle.expr_soundness.specs.SoundScopes.{IsKnown}
use Rattle.expr_soundness.proofs.Parts.{shape_by_form}
use Rattle.expr_soundness.proofs.Positions.{entity_added}
use Rattle.program_soundness.proofs.Listing.{same_some}
use Rattle.program_soundness.proofs.WiderScopes.{form_with, number_stands, stands, stands_number, stands_with}
use Rattle.expr_code.specs.Refusing.{is_fit}
use Rattle.expr_code.specs.Seeing.{external_profile, profile_behind}
use Rattle.expr_code.proofs.Externals.{IsBehind, is_behind}
use Rattle.part_code.specs.Needs.{are_unfit, is_unfit}
use Rattle.package_code.proofs.InFront.{known_inside}
use Rattle.part_code.specs.Providing.{is_full}
use Rattle.source_laws.proofs.AddedNames.{with_behind}
use Rattle.source_laws.proofs.FullShapes.{full_fit}
use Rattle.expr_code.proofs.NamedBehind.{operation_told}
use Rattle.expr_code.proofs.Widths.{words_by_type}

-- wherever the object's name stands for the same, so does what is named behind it
external_by : (s : Scope) (object operation : List ℕ) (p : Profile) (x : IsBehind s object operation p) (u : Scope)
    → stands u object ≡ Some (Protected x.protected) → external_profile u object operation ≡ Some p
external_by s object operation p x u h =
    let n = number_stands u object (Protected x.protected) h in
    ap (λ o. profile_behind o operation) (ap (λ m. elim m [ None ↦ None | Some k ↦ protected_at u k ]) n.1 ∙ ap protected_of n.2)
    ∙ operation_told x.protected operation x.place x.entry x.placed x.found ∙ ap Some x.profiled

-- its values take no more words than an image
pub record IsFew (s : Scope) (u : Subtype) : Type 0 where
  pub known : IsKnown s u
  pub few : words_of s u ≤ WORDS

abbrev pub AreFew : Scope → List FormalParameter → Type 0
AreFew s [] = Unit {0}
AreFew s (f ∷ fs) = IsFew s f.subtype × AreFew s fs

pub record Serves (s : Scope) : Type 0 where
  pub full : (u : Subtype) → IsKnown s u → is_full (shape_of s u) ≡ true
  pub named : (name : Identifier) (u : Subtype) → subtype_of s name ≡ Some u → IsKnown s u
  pub objects : (number : ℕ) (r : Role) (u : Subtype) → entity_at s number ≡ Some (Object r u) → IsFew s u
  pub called : (name : List ℕ) (p : Profile) → stands s name ≡ Some (Subprogram p) → AreFew s p.formals
  pub behind : (object operation : List ℕ) (p : Profile) → external_profile s object operation ≡ Some p → AreFew s p.formals

-- ---- what is visible is fit

pub few_fit : (s : Scope) (u : Subtype) → Serves s → IsFew s u → is_fit (shape_of s u) ≡ true
few_fit s u serves h = full_fit (shape_of s u) (serves.full u h.known) h.few

names_fit : (s names : Scope) → Serves s → ((number : ℕ) (r : Role) (u : Subtype) → entity_at names number ≡ Some (Object r u) → IsFew s u)
    → are_unfit s names ≡ false
names_fit s [] serves few = refl
names_fit s (n ∷ names) serves few =
    or_from (is_unfit s n.entity) (are_unfit s names) (one_fit n.entity (λ r u is. few 0 r u (ap Some is)))
    (names_fit s names serves (λ number r u at. few (suc number) r u at))
  where
    one_fit : (e : Entity) → ((r : Role) (u : Subtype) → e ≡ Object r u → IsFew s u) → is_unfit s e ≡ false
    one_fit (Object r u) h = ap not (few_fit s u serves (h r u refl))
    one_fit e h = refl

pub all_fit : (s : Scope) → Serves s → are_unfit s s ≡ false
all_fit s serves = names_fit s s serves serves.objects

-- ---- names that a body adds: no types, nothing that is called, and objects of few words

abbrev pub IsLocal : Scope → Entity → Type 0
IsLocal s (Object r u) = IsFew s u
IsLocal s (Task priority) = Unit {0}
IsLocal s Doubtful = Unit {0}
IsLocal s e = ⊥

no_form : (s : Scope) (e : Entity) → IsLocal s e → form_of (Some e) ≡ None
no_form s (Object r u) h = refl
no_form s (Task priority) h = refl
no_form s Doubtful h = refl
no_form s e h = absurd h

no_subtype : (s : Scope) (e : Entity) → IsLocal s e → subtype_in (Some e) ≡ None
no_subtype s (Object r u) h = refl
no_subtype s (Task priority) h = refl
no_subtype s Doubtful h = refl
no_subtype s e h = absurd h

no_subprogram : (s : Scope) (e : Entity) (p : Profile) → IsLocal s e → e ≡ Subprogram p → ⊥
no_subprogram s (Object r u) p h is = cc
no_subprogram s (Task priority) p h is = cc
no_subprogram s Doubtful p h is = cc
no_subprogram s e p h is = h

no_protected : (s : Scope) (e : Entity) (o : ProtectedObject) → IsLocal s e → e ≡ Protected o → ⊥
no_protected s (Object r u) o h is = cc
no_protected s (Task priority) o h is = cc
no_protected s Doubtful o h is = cc
no_protected s e o h is = h

object_few : (s : Scope) (e : Entity) (r : Role) (u : Subtype) → IsLocal s e → e ≡ Object r u → IsFew s u
object_few s e r u h is = subst (IsLocal s) is h

module _ (stay : ShapesStay) (s : Scope) (serves : Serves s) (name : List ℕ) (e : Entity) (own : IsLocal s e) where
  abbrev next : Scope
  next = with_name s name e

  pub same_form : (n : ℕ) → form_at next n ≡ form_at s n
  same_form n = form_with s name e n (no_form s e own)

  known_before : (u : Subtype) → IsKnown next u → IsKnown s u
  known_before u h = ap is_some (sym (same_form u.type_number)) ∙ h

  pub same_shape : (u : Subtype) → IsKnown s u → shape_of next u ≡ shape_of s u
  same_shape u known = let more = with_behind s name e in ap (λ v. shape_of v u) more.1 ∙ stay s more.0 u (known_inside s u known)

  few_next : (u : Subtype) → IsFew s u → IsFew next u
  few_next u h =
      record {
        known = ap is_some (same_form u.type_number) ∙ h.known;
        few = subst (λ x. words x ≤ WORDS) (sym (same_shape u h.known)) h.few;
      }

  all_next : (fs : List FormalParameter) → AreFew s fs → AreFew next fs
  all_next [] h = tt
  all_next (f ∷ fs) h = (few_next f.subtype h.0, all_next fs h.1)

  -- what a name stands for
  first_or_new : (other : List ℕ) (x : Entity) → stands next other ≡ Some x → (stands s other ≡ Some x) ⊎ (e ≡ x)
  first_or_new other x h = by_case (stands s other) (bytes_eq other name) (sym (stands_with s name e other) ∙ h)
    where
      by_case : (o : Option Entity) (b : Bool) → or_else o (cond b (Some e) None) ≡ Some x → (o ≡ Some x) ⊎ (e ≡ x)
      by_case (Some y) b k = inl k
      by_case None true k = inr (same_some e x k)
      by_case None false k = cc

  pub subtype_before : (other : Identifier) (u : Subtype) → subtype_of next other ≡ Some u → subtype_of s other ≡ Some u
  subtype_before other u h = by_stands (stands next other.name) refl h
    where
      by_first : (x : Entity) → subtype_in (Some x) ≡ Some u → (stands s other.name ≡ Some x) ⊎ (e ≡ x) → subtype_of s other ≡ Some u
      by_first x k (inl i) = ap subtype_in i ∙ k
      by_first x k (inr i) = absurd (never (sym (no_subtype s e own) ∙ ap (λ y. subtype_in (Some y)) i ∙ k))
        where
          never : None ≡ Some u → ⊥
          never bad = cc

      by_stands : (o : Option Entity) → stands next other.name ≡ o → subtype_in o ≡ Some u → subtype_of s other ≡ Some u
      by_stands None i k = cc
      by_stands (Some x) i k = by_first x k (first_or_new other.name x i)

  objects_next : (number : ℕ) (r : Role) (u : Subtype) → entity_at next number ≡ Some (Object r u) → IsFew next u
  objects_next number r u h = by_test (is_visible s name) h
    where
      by_end : (entity_at s number ≡ Some (Object r u)) ⊎ ((number ≡ length s) × (e ≡ Object r u)) → IsFew next u
      by_end (inl i) = few_next u (serves.objects number r u i)
      by_end (inr i) = few_next u (object_few s e r u own i.1)

      by_test : (b : Bool) → entity_at (cond b s (s ++ record { name = name; entity = e } ∷ [])) number ≡ Some (Object r u) → IsFew next u
      by_test true k = few_next u (serves.objects number r u k)
      by_test false k = by_end (entity_added s (record { name = name; entity = e }) number (Object r u) k)

  called_next : (other : List ℕ) (p : Profile) → stands next other ≡ Some (Subprogram p) → AreFew next p.formals
  called_next other p h = by_case (first_or_new other (Subprogram p) h)
    where
      by_case : (stands s other ≡ Some (Subprogram p)) ⊎ (e ≡ Subprogram p) → AreFew next p.formals
      by_case (inl i) = all_next p.formals (serves.called other p i)
      by_case (inr i) = absurd (no_subprogram s e p own i)

  behind_next : (object operation : List ℕ) (p : Profile) → external_profile next object operation ≡ Some p → AreFew next p.formals
  behind_next object operation p h =
      by_case (first_or_new object (Protected x.protected) (stands_number next object x.number (Protected x.protected) x.numbered x.stands))
    where
      x : IsBehind next object operation p
      x = is_behind next object operation p h

      by_case : (stands s object ≡ Some (Protected x.protected)) ⊎ (e ≡ Protected x.protected) → AreFew next p.formals
      by_case (inl i) = all_next p.formals (serves.behind object operation p (external_by next object operation p x s i))
      by_case (inr i) = absurd (no_protected s e x.protected own i)

  pub serves_next : Serves next
  serves_next =
      record {
        full = λ u known. ap is_full (same_shape u (known_before u known)) ∙ serves.full u (known_before u known);
        named = λ other u h. ap is_some (same_form u.type_number) ∙ serves.named other u (subtype_before other u h);
        objects = objects_next;
        called = called_next;
        behind = behind_next;
      }

-- ---- things that stand in a body, whose objects have the words of a frame

abbrev pub FewThings : Things → Type 0
FewThings xs = counted_words xs ≤ FRAME_WORDS

front_of : (a b c : ℕ) → c ≡ a + b → c ≤ FRAME_WORDS → a ≤ FRAME_WORDS
front_of a b c e h = omega (arith, e, h)

back_of : (a b c : ℕ) → c ≡ a + b → c ≤ FRAME_WORDS → b ≤ FRAME_WORDS
back_of a b c e h = omega (arith, e, h)

pub few_front : WordsAddUp → (xs ys : Things) → FewThings (xs ++ ys) → FewThings xs
few_front adding xs ys h = front_of (counted_words xs) (counted_words ys) (counted_words (xs ++ ys)) (adding.joined xs ys) h

pub few_back : WordsAddUp → (xs ys : Things) → FewThings (xs ++ ys) → FewThings ys
few_back adding xs ys h = back_of (counted_words xs) (counted_words ys) (counted_words (xs ++ ys)) (adding.joined xs ys) h

-- an object, and those behind it
pub first_few : (w n : ℕ) → w + n ≤ FRAME_WORDS → w ≤ FRAME_WORDS
first_few w n h = omega (arith, h)

pub rest_few : (w n : ℕ) → w + n ≤ FRAME_WORDS → n ≤ FRAME_WORDS
rest_few w n h = omega (arith, h)

-- ---- inside a body: behind names that are local to it no subtype is new, and words are the same as in front of it

pub record IsInside (s u : Scope) : Type 0 where
  pub outer : Serves s
  pub served : Serves u
  pub back : (name : Identifier) (t : Subtype) → subtype_of u name ≡ Some t → subtype_of s name ≡ Some t
  pub same : (t : Subtype) → IsKnown s t → IsKnown u t × (words_of u t ≡ words_of s t)

-- an object of few words, as legality counts them
thing_few : (s u : Scope) → IsInside s u → (name : Identifier) → size.words_named s name ≤ FRAME_WORDS → (t : Subtype) → subtype_of u name ≡ Some t → IsFew u t
thing_few s u inside name h t is =
    let there = inside.back name t is in
    let own : capped (words_of s t) ≤ FRAME_WORDS =
    subst (λ o. elim o [ Some x ↦ capped (words_of s x) | None ↦ 0 ] ≤ FRAME_WORDS) there h in
    let here = inside.same t (inside.outer.named name t there) in
    let words_same = here.1 in
    record { known = here.0; few = omega (arith, own, words_same) }

inside_next : ShapesStay → (s u : Scope) → IsInside s u → (name : List ℕ) (e : Entity) → IsLocal u e → IsInside s (with_name u name e)
inside_next stay s u inside name e own =
    record {
      outer = inside.outer;
      served = serves_next stay u inside.served name e own;
      back = λ other t is. inside.back other t (subtype_before stay u inside.served name e own other t is);
      same = λ t known.
          let before = inside.same t known in (
            ap is_some (same_form stay u inside.served name e own t.type_number) ∙ before.0,
            ap words (same_shape stay u inside.served name e own t before.0) ∙ before.1,
          );
    }

object_local : (s : Scope) (r : Role) (o : Option Subtype) → ((u : Subtype) → o ≡ Some u → IsFew s u) → IsLocal s (object_entity r o)
object_local s r (Some u) h = h u refl
object_local s r None h = tt

-- ---- objects, declarations and loop parameters

object_inside : ShapesStay → (s u : Scope) → IsInside s u → (name : List ℕ) (r : Role) (subtype : Identifier) → size.words_named s subtype ≤ FRAME_WORDS
    → IsInside s (with_name u name (object_entity r (subtype_of u subtype)))
object_inside stay s u inside name r subtype h =
    inside_next stay s u inside name (object_entity r (subtype_of u subtype)) (object_local u r (subtype_of u subtype) (thing_few s u inside subtype h))

pub local_inside : ShapesStay → (s u : Scope) → IsInside s u → (d : DeclarationTree) → restrictions.local_faults d ≡ [] → FewThings (local_things s d)
    → IsInside s (local_scope u d)
local_inside stay s u inside (LocalObject d) r h = object_inside stay s u inside d.name.name (role_of d.constant) d.subtype
    (first_few (size.words_named s d.subtype) 0 h)
local_inside stay s u inside (LocalTask d) r h =
    inside_next stay s u inside d.name.name (Task (priority_of u TASK_PRIORITY default_priority d.aspect)) tt
local_inside stay s u inside (LocalProtected d) r h = absurd cc

-- the subtype of an object that is declared
pub local_few : (s u : Scope) → IsInside s u → (d : ObjectTree) → FewThings (local_things s (LocalObject d)) → (t : Subtype) → subtype_of u d.subtype ≡ Some t
    → IsFew u t
local_few s u inside d h t is = thing_few s u inside d.subtype (first_few (size.words_named s d.subtype) 0 h) t is

pub locals_inside : WordsAddUp → ShapesStay → (s u : Scope) → IsInside s u → (ds : List DeclarationTree) → restrictions.locals_faults ds ≡ []
    → FewThings (locals_things s ds)
    → IsInside s (locals_scope u ds)
locals_inside adding stay s u inside [] r h = inside
locals_inside adding stay s u inside (d ∷ ds) r h =
    let own = restrictions.local_faults d in
    let more = restrictions.locals_faults ds in
    locals_inside adding stay s (local_scope u d)
    (local_inside stay s u inside d (front_empty own more r) (few_front adding (local_things s d) (locals_things s ds) h)) ds (back_empty own more r)
    (few_back adding (local_things s d) (locals_things s ds) h)

pub formals_inside : ShapesStay → (s u : Scope) → IsInside s u → (fs : List Formal) → FewThings (formals_things s fs) → IsInside s (formals_scope u fs)
formals_inside stay s u inside [] h = inside
formals_inside stay s u inside (f ∷ fs) h =
    let one = size.words_named s f.subtype in
    let rest = counted_words (formals_things s fs) in
    formals_inside stay s (formal_scope u f) (object_inside stay s u inside f.name.name (formal_role f.mode) f.subtype (first_few one rest h)) fs
    (rest_few one rest h)

-- a number takes one word
integers_few : (s : Scope) (t : Subtype) → form_at s t.type_number ≡ Some Integers → IsFew s t
integers_few s t h =
    let x = shape_by_form s t.type_number Integers h in
    let one : words_of s (base_range_of t.type_number) ≡ 1 = ap words x.1 in
    let same = words_by_type s t in
    record { known = ap is_some h; few = omega (arith, one, same) }

parameter_local : (s : Scope) (range : RangeTree) (o : Option ℕ) → IsLocal s (parameter_entity (option_map (turns_subtype s range) (if_integers s o)))
parameter_local s range None = tt
parameter_local s range (Some n) = by_form (form_at s n) refl
  where
    by_form : (f : Option TypeForm) → form_at s n ≡ f
        → IsLocal s (parameter_entity (option_map (turns_subtype s range) (elim (is_integers f) [ true ↦ Some n | false ↦ None ])))
    by_form (Some Integers) h = integers_few s (turns_subtype s range n) h
    by_form f h = tt

pub loop_inside : ShapesStay → (s u : Scope) → IsInside s u → (parameter : Identifier) (range : RangeTree) → IsInside s (loop_scope u parameter range)
loop_inside stay s u inside parameter range =
    inside_next stay s u inside parameter.name (parameter_entity (loop_subtype u range))
    (parameter_local u range (bounds_type (own_of u range.first) (own_of u range.last)))
