-- Names of targets and parts of values, by the laws of targets: what steps ask of them.
use Rattle.std.proofs.Common.{◌≡◌, ℕ, ◌<◌, List, [], ◌∷◌, Bool, true, false, Option, Some, None, refl, sym, ap, ◌∙◌, arith}
use Rattle.std.specs.Prelude.{cond, nat_lt, option_map}
use Rattle.expr_soundness.specs.ada_tree.specs.declared.expression.Identifier.{Identifier}
use Rattle.expr_soundness.specs.ada_tree.specs.ExpressionTree.{SelectorTrees}
use Rattle.expr_soundness.specs.types.specs.declared.entity.Subtype.{Subtype}
use Rattle.expr_soundness.specs.types.specs.declared.standing.Standing.{Standing}
use Rattle.expr_soundness.specs.types.specs.Entities.{TypeForm, Integers, Booleans, Times, Spans, Arrays, Records}
use Rattle.expr_soundness.specs.types.specs.Scopes.{Scope, form_at}
use Rattle.expr_soundness.specs.types.specs.Standings.{component_of, standing_of}
use Rattle.expr_soundness.specs.types.specs.Values.{Value}
use Rattle.expr_soundness.specs.types.specs.Evaluations.{Val, Gives, Raises, Meaningless}
use Rattle.expr_soundness.specs.types.specs.Places.{Object, Place, object_of}
use Rattle.expr_soundness.specs.expr_rules.specs.declared.own.Own.TheVariants.{Typed}
use Rattle.expr_soundness.specs.expr_rules.specs.Typing.{own_of_standing}
use Rattle.expr_soundness.specs.expr_rules.specs.ExpressionRules.{target_faults}
use Rattle.expr_soundness.specs.SoundScopes.{IsKnown, SoundScope}
use Rattle.expr_soundness.specs.Agreeing.{Agrees}
use Rattle.expr_soundness.specs.Answers.{FunctionsAreSound}
use Rattle.expr_soundness.specs.Variables as variables
use Rattle.expr_soundness.specs.Variables.{TargetsAreVariables, part_in, part_subtype}
use Rattle.expr_soundness.specs.meaning.specs.Works.{Part, Element, Field, Home, InActivation, InPackage, InObject, Target, Activation, Store}
use Rattle.expr_soundness.specs.meaning.specs.Targets.{objects_of, part_value, target, with_part}
use Rattle.step_soundness.specs.Objects.{IsOf, IsPartIn, PartOf, object_subtype, subtype_in}
use Rattle.step_soundness.proofs.Sights.{subtype_values}

-- ---- parts

below_test : (n m : ℕ) → n < m → nat_lt n m ≡ true
below_test n m h = grind (arith, h)

below : (n m : ℕ) → nat_lt n m ≡ true → n < m
below n m h = grind (arith, h)

pub parts_there : (s : Scope) (parts : List Part) (t u : Subtype) → PartOf s t parts u → part_subtype s t parts ≡ Some u
parts_there s [] t u h = ap Some h
parts_there s (Element n ∷ parts) t u h =
    ap (λ o. elim o [ Some w ↦ part_subtype s w parts | None ↦ None ]) (ap (λ o. part_in o (Element n)) h.3 ∙ ap (λ b. cond b (Some h.2) None) (below_test n h.1 h.4))
    ∙ parts_there s parts h.2 u h.5
parts_there s (Field name ∷ parts) t u h =
    ap (λ o. elim o [ Some w ↦ part_subtype s w parts | None ↦ None ]) (ap (λ o. part_in o (Field name)) h.2 ∙ h.3) ∙ parts_there s parts h.1 u h.4

module _ (s here : Scope) (forms : (n : ℕ) (form : TypeForm) → form_at s n ≡ Some form → form_at here n ≡ Some form) where
  one_part : (part : Part) (parts : List Part) (t u : Subtype) (o : Option TypeForm) → form_at s t.type_number ≡ o
      → elim (part_in o part) [ Some w ↦ part_subtype s w parts | None ↦ None ] ≡ Some u
      → ((w : Subtype) → part_subtype s w parts ≡ Some u → PartOf here w parts u) → PartOf here t (part ∷ parts) u
  one_part (Element n) parts t u (Some (Arrays index length element)) e h later = by_test (nat_lt n length) refl h
    where
      by_test : (b : Bool) → nat_lt n length ≡ b → elim (cond b (Some element) None) [ Some w ↦ part_subtype s w parts | None ↦ None ] ≡ Some u
          → PartOf here t (Element n ∷ parts) u
      by_test true less k = (index, length, element, forms t.type_number (Arrays index length element) e, below n length less, later element k)
      by_test false less k = cc
  one_part (Field name) parts t u (Some (Records components)) e h later = by_component (component_of components name) refl h
    where
      by_component : (o : Option Subtype) → component_of components name ≡ o → elim o [ Some w ↦ part_subtype s w parts | None ↦ None ] ≡ Some u
          → PartOf here t (Field name ∷ parts) u
      by_component (Some w) found k = (components, w, forms t.type_number (Records components) e, found, later w k)
      by_component None found k = cc
  one_part (Element n) parts t u (Some (Records components)) e h later = cc
  one_part (Field name) parts t u (Some (Arrays index length element)) e h later = cc
  one_part part parts t u (Some Integers) e h later = cc
  one_part part parts t u (Some Booleans) e h later = cc
  one_part part parts t u (Some Times) e h later = cc
  one_part part parts t u (Some Spans) e h later = cc
  one_part part parts t u None e h later = cc

  parts_here : (parts : List Part) (t u : Subtype) → part_subtype s t parts ≡ Some u → PartOf here t parts u
  parts_here [] t u h = ap (λ o. elim o [ Some w ↦ w | None ↦ t ]) h
  parts_here (part ∷ parts) t u h = one_part part parts t u (form_at s t.type_number) refl h (λ w k. parts_here parts w u k)

-- the value of a part is of its type, and a value with a part changed of its own
pub part_valued : TargetsAreVariables → (s : Scope) (t u : Subtype) (parts : List Part) (v : Value) → SoundScope s → PartOf s t parts u → IsOf s t.type_number v
    → (w : Value) × (part_value parts v ≡ Some w) × IsOf s u.type_number w
part_valued laws s t u parts v sound part is =
    let found = laws.value s t u parts v sound (parts_there s parts t u part) (subtype_values s t v ∙ is) in (found.value, found.is, sym (subtype_values s u found.value) ∙ found.suited)

pub part_changed : TargetsAreVariables → (s : Scope) (t u : Subtype) (parts : List Part) (v new : Value) → SoundScope s → PartOf s t parts u
    → IsOf s t.type_number v
    → IsOf s u.type_number new → IsOf s t.type_number (with_part parts new v)
part_changed laws s t u parts v new sound part is suited =
    sym (subtype_values s t (with_part parts new v))
    ∙ laws.changed s t u parts v new sound (parts_there s parts t u part) (subtype_values s t v ∙ is) (subtype_values s u new ∙ suited)

-- ---- names

abbrev pub objects_at : Place → Home → List Object
objects_at p InActivation = p.locals
objects_at p InPackage = p.variables
objects_at p (InObject o) = p.components o

-- a part of an object that is there, of the type of what the name stands for
pub record IsNamedTarget (s : Scope) (p : Place) (w : Standing) (x : Target) : Type 0 where
  pub known : IsKnown s x.subtype
  pub own : own_of_standing w ≡ Typed x.subtype.type_number
  pub part : IsPartIn p.scope (objects_at p x.home) x

abbrev pub NamesTarget : Scope → Place → Standing → Val Target → Type 0
NamesTarget s p w (Gives x) = IsNamedTarget s p w x
NamesTarget s p w (Raises y) = Unit {0}
NamesTarget s p w Meaningless = ⊥

abbrev store_of : Place → Store
store_of p = record { variables = p.variables; components = p.components }

abbrev activation_of : Place → Activation
activation_of p = record { within = p.within; locals = p.locals }

found_at : (p : Place) (home : Home) (name : List ℕ) (parts : List Part) (u : Subtype) (object : Object)
    → object_of (objects_of (record { home = home; name = name; parts = parts; subtype = u }) (store_of p) (activation_of p)) name ≡ Some object
    → subtype_in (objects_at p home) name ≡ Some object.subtype
found_at p InActivation name parts u object h = ap (option_map object_subtype) h
found_at p InPackage name parts u object h = ap (option_map object_subtype) h
found_at p (InObject o) name parts u object h = ap (option_map object_subtype) h

by_target : (s : Scope) (p : Place) (w : Standing) (v : Val Target) → Agrees s p → variables.NamesTarget s w (store_of p) (activation_of p) v
    → NamesTarget s p w v
by_target s p w (Gives x) agrees d =
    let object = d.target.object in
    record {
      known = d.known;
      own = ap own_of_standing d.stands;
      part =
          record {
            whole = object.subtype;
            found = found_at p x.home x.name x.parts x.subtype object d.target.there;
            part = parts_here s p.scope agrees.forms x.parts object.subtype x.subtype d.target.part;
          };
    }
by_target s p w (Raises y) agrees d = tt
by_target s p w Meaningless agrees d = d

-- the legal name of a variable, or of a part of one, names a target, or its evaluation raises an exception
pub names_target : TargetsAreVariables → (s : Scope) (p : Place) (first : Identifier) (selectors : SelectorTrees) → Agrees s p → FunctionsAreSound p
    → target_faults s first selectors ≡ [] → NamesTarget s p (standing_of s first selectors) (target p first.name selectors)
names_target laws s p first selectors agrees sound legal =
    by_target s p (standing_of s first selectors) (target p first.name selectors) agrees (laws.named s p (store_of p) (activation_of p) agrees sound first selectors legal)
