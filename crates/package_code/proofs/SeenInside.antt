-- What is visible in the body of a protected object is told by the text alone, as names become visible there one by one.
use Rattle.std.proofs.Common.{◌≡◌, ℕ, zero, suc, ◌≤◌, ◌⊎◌, List, [], ◌∷◌, ◌++◌, append_assoc, cond, length, length-append, map, take, inl, inr, Option, Some, None, Bool, true, false, refl, sym, ap, ◌∙◌, arith}
use Rattle.std.specs.Prelude.{bytes_eq, if◌then◌else◌, is_some, slice_get}
use Rattle.std.proofs.lemmas.List.{length-map}
use Rattle.ada_tree.specs.declared.expression.Identifier.{Identifier}
use Rattle.ada_tree.specs.StatementTree.{SubprogramTree}
use Rattle.ada_tree.specs.ProgramTree.{EntryBody, OperationBody, ProgramTree, ProtectedBody, ProtectedItemTree}
use Rattle.types.specs.declared.entity.RecordComponent.{RecordComponent}
use Rattle.types.specs.Entities.{Entity, Operation}
use Rattle.types.specs.Places.{or_else}
use Rattle.types.specs.Scopes.{Named, Scope, changed_at, number_of, offering, operations_or, protected_at, with_operations}
use Rattle.type_rules.specs.ProfileRules.{profile_entity, subprogram_scope}
use Rattle.declaration_rules.specs.BodyNames.{components_scope, object_body_scope, operations_scope}
use Rattle.declaration_rules.specs.Laws.{ObjectBodiesEnd}
use Rattle.unit_rules.specs.ProtectedBodyRules.{protected_item_scope, protected_items_scope}
use Rattle.program_soundness.specs.legality.specs.ProgramRules.{IsLegal}
use Rattle.ravenscar.specs.ProgramRules.{IsRestricted}
use Rattle.expr_soundness.specs.Laws.{ScopesAreSound}
use Rattle.expr_soundness.specs.meaning.specs.Programs.{program_of}
use Rattle.program_soundness.specs.BodyLaws.{NamesAreKnown, PremisesHold}
use Rattle.program_soundness.specs.Fronts.{declared_in, front, start_in}
use Rattle.program_soundness.proofs.Listing.{Has}
use Rattle.program_soundness.proofs.Moved.{as_item, items_scope_is}
use Rattle.program_soundness.proofs.ObjectTrees.{components_all, components_named, operations_all, operations_named}
use Rattle.program_soundness.proofs.Walked.{own_profile}
use Rattle.program_soundness.proofs.WiderScopes.{bytes_same, found_in, stands, stands_found, with_all, with_both}
use Rattle.expr_code.specs.Entries.{entry_at}
use Rattle.expr_code.specs.Seeing.{told_of}
use Rattle.expr_code.specs.declared.visible.Slot.{Slot}
use Rattle.expr_code.specs.declared.visible.Visible.{Visible}
use Rattle.step_simulation.specs.part_code.specs.Emitting.{HasEntries}
use Rattle.package_code.specs.Bodies.{number_in, object_number, operation_front}
use Rattle.package_code.specs.Directory.{AreTold, IsDirectory, number_told, seen_inside, slot_told, told_each}
use Rattle.package_code.specs.Owners.{component_names, offered_names, told_inside, told_slot}
use Rattle.package_code.specs.Refusing.{operation_numbers, seen_at, seen_with, slot_in, told_behind}
use Rattle.package_code.specs.Walking.{behind_operation, first_visible, operation_visible, with_components, with_own_name}
use Rattle.package_code.specs.declared.directory.Directory.{Directory}
use Rattle.package_code.proofs.Coded.{body_of}
use Rattle.package_code.proofs.Numbered.{bodies_numbered, number_of_body}
use Rattle.package_code.proofs.ObjectNames.{no_number, no_slot}
use Rattle.package_code.proofs.Seen.{all_behind, behind_long, operations_are, start_fits}
use Rattle.package_code.proofs.ToldInside.{added, behind_joined, behind_same, each_long, each_told, first_stay, names_of, tell_all, told_found, with_added}

-- ---- names in their order

operations_names : (os : List Operation) → names_of (operations_named os) ≡ offered_names os
operations_names [] = refl
operations_names (o ∷ os) = ap (λ l. o.name ∷ l) (operations_names os)

components_names : (f : Bool) (cs : List RecordComponent) → names_of (components_named f cs) ≡ component_names cs
components_names f [] = refl
components_names f (c ∷ cs) = ap (λ l. c.name ∷ l) (components_names f cs)

changed_names : (s : Scope) (n : ℕ) (change : Entity → Entity) → names_of (changed_at s n change) ≡ names_of s
changed_names [] n change = refl
changed_names (x ∷ s) zero change = refl
changed_names (x ∷ s) (suc n) change = ap (λ l. x.name ∷ l) (changed_names s n change)

-- each of the names stands for something
name_stands : (s : Scope) (m : Named) → Has s m → (e : Entity) × (stands s m.name ≡ Some e)
name_stands s m has = let x = found s has in (x.0, stands_found s m.name ∙ x.1)
  where
    found : (u : Scope) → Has u m → (e : Entity) × (found_in u m.name ≡ Some e)
    found [] h = absurd h
    found (x ∷ u) h = by_test (bytes_eq m.name x.name) refl h (λ k. found u k)
      where
        by_test : (b : Bool) → bytes_eq m.name x.name ≡ b → (x ≡ m) ⊎ Has u m → (Has u m → (e : Entity) × (found_in u m.name ≡ Some e))
            → (e : Entity) × (or_else (cond b (Some x.entity) None) (found_in u m.name) ≡ Some e)
        by_test true is k later = (x.entity, refl)
        by_test false is (inl same) later =
            absurd (let bad = sym is ∙ ap (λ (z : Named). bytes_eq m.name z.name) same ∙ bytes_same m.name in cc)
        by_test false is (inr k) later = later k

abbrev own_named : Scope → SubprogramTree → Named
own_named u d = record { name = d.name.name; entity = profile_entity (own_profile u d) }

-- the names in front of the parameters of an operation are those in front of its body, and more
operation_grows : (u : Scope) (cs : List RecordComponent) (i : ProtectedItemTree) → (more : Scope) × (operation_front u cs i ≡ u ++ more)
operation_grows u cs (OperationBody d b) =
    let f = is_some d.result in
    let beside : Scope = components_scope u f cs in
    let xs : List Named = components_named f cs ++ own_named beside d ∷ [] in (
      added u xs,
      ap (λ s. with_all s (own_named beside d ∷ [])) (components_all u f cs) ∙ sym (with_both u (components_named f cs) (own_named beside d ∷ []))
          ∙ with_added u xs,
    )
operation_grows u cs (EntryBody d barrier b) =
    (added u (components_named false cs), components_all u false cs ∙ with_added u (components_named false cs))

first_names : (s more : Scope) → take (length s) (s ++ more) ≡ s
first_names [] [] = refl
first_names [] (y ∷ more) = refl
first_names (x ∷ s) more = ap (λ l. x ∷ l) (first_names s more)

hidden_long : (s : Scope) (n : ℕ) → length (with_operations s n []) ≡ length s
hidden_long s n =
    sym (length-map (with_operations s n []) (λ (m : Named). m.name)) ∙ ap length (changed_names s n (offering []))
    ∙ length-map s (λ (m : Named). m.name)

-- where the body of an object begins there are as many names at least as in front of it
pub begun_behind : (s : Scope) (n : ℕ) → length s ≤ length (object_body_scope s n)
begun_behind s n =
    let hidden : Scope = with_operations s n [] in
    let os : List Operation = operations_or (protected_at s n) [] in
    let grown = ap length (operations_all hidden os ∙ with_added hidden (operations_named os))
    ∙ length-append hidden (added hidden (operations_named os)) in
    let long = hidden_long s n in
    omega (arith, grown, long)

-- the names in front of the bodies of operations are those in front of the first, and more
pub items_behind : (s : Scope) (items : List ProtectedItemTree) → (more : Scope) × (protected_items_scope s items ≡ s ++ more)
items_behind s items = let x = all_behind s (map as_item items) in (x.0, items_scope_is s items ∙ x.1)

all_names : (s : Scope) (n : ℕ) (items : List ProtectedItemTree)
    → (more : Scope) × (protected_items_scope (object_body_scope s n) items ≡ with_operations s n [] ++ more)
all_names s n items =
    let hidden : Scope = with_operations s n [] in
    let os : List Operation = operations_or (protected_at s n) [] in
    let x = items_behind (object_body_scope s n) items in (
      added hidden (operations_named os) ++ x.0,
      x.1 ∙ ap (λ l. l ++ x.0) (operations_all hidden os ∙ with_added hidden (operations_named os))
          ∙ append_assoc hidden (added hidden (operations_named os)) x.0,
    )

-- ---- as many entries as names

module _ {X : Type 0} (tell : List ℕ → Option X) where
  components_long : (u : Scope) (b : Bool) (cs : List RecordComponent) (all : List (Option X)) → length all ≡ length u
      → length (told_each tell (components_scope u b cs) all (component_names cs)) ≡ length (components_scope u b cs)
  components_long u b cs all long =
      (λ j. length (told_each tell (components_all u b cs j) all (sym (components_names b cs) j))) ∙ each_long tell u (components_named b cs) all long
      ∙ ap length (sym (components_all u b cs))

  operation_long : (u : Scope) (b : Bool) (cs : List RecordComponent) (d : SubprogramTree) (all : List (Option X)) → length all ≡ length u
      → length
      (told_each tell (subprogram_scope (components_scope u b cs) d) (told_each tell (components_scope u b cs) all (component_names cs))
      (d.name.name ∷ []))
      ≡ length (subprogram_scope (components_scope u b cs) d)
  operation_long u b cs d all long =
      each_long tell (components_scope u b cs) (own_named (components_scope u b cs) d ∷ [])
      (told_each tell (components_scope u b cs) all (component_names cs)) (components_long u b cs all long)

pub operation_entries : (whole : Scope) (directory : Directory) (o : ℕ) (cs : List RecordComponent) (i : ProtectedItemTree) (v : Visible) → HasEntries v
    → HasEntries (operation_visible whole directory o cs i v)
operation_entries whole directory o cs (OperationBody d b) v h = record {
  slots = operation_long (told_slot (slot_told whole directory) (number_told whole directory) (Some o)) v.scope (is_some d.result) cs d v.slots h.slots;
  subprograms = operation_long (told_inside (number_told whole directory) (Some o)) v.scope (is_some d.result) cs d v.subprograms h.subprograms;
}
operation_entries whole directory o cs (EntryBody d barrier b) v h = record {
  slots = components_long (told_slot (slot_told whole directory) (number_told whole directory) (Some o)) v.scope false cs v.slots h.slots;
  subprograms = components_long (told_inside (number_told whole directory) (Some o)) v.scope false cs v.subprograms h.subprograms;
}

-- ---- entries by two tellings that are the same

module _ {X : Type 0} (f g : List ℕ → Option X) (same : (name : List ℕ) → f name ≡ g name) (first : ℕ) where
  abbrev here : Scope → List (Option X)
  here u = told_behind first g u

  one_telling : f ≡ g
  one_telling = λ j name. same name j

  more_told : (u : Scope) (xs : List Named) → first ≤ length u → told_each f (with_all u xs) (here u) (names_of xs) ≡ here (with_all u xs)
  more_told u xs up =
      ap (λ h. told_each h (with_all u xs) (here u) (names_of xs)) one_telling ∙ each_told g first u xs (here u) up refl

  own_told : (u : Scope) (d : SubprogramTree) → first ≤ length u
      → told_each f (subprogram_scope u d) (here u) (d.name.name ∷ []) ≡ here (subprogram_scope u d)
  own_told u d up = more_told u (own_named u d ∷ []) up

  components_told : (u : Scope) (b : Bool) (cs : List RecordComponent) → first ≤ length u
      → told_each f (components_scope u b cs) (here u) (component_names cs) ≡ here (components_scope u b cs)
  components_told u b cs up =
      (λ j. told_each f (components_all u b cs j) (here u) (sym (components_names b cs) j))
      ∙ more_told u (components_named b cs) up ∙ ap here (sym (components_all u b cs))

  offered_told : (u : Scope) (os : List Operation) → first ≤ length u
      → told_each f (operations_scope u os) (here u) (offered_names os) ≡ here (operations_scope u os)
  offered_told u os up =
      (λ j. told_each f (operations_all u os j) (here u) (sym (operations_names os) j))
      ∙ more_told u (operations_named os) up ∙ ap here (sym (operations_all u os))

  first_told_there : (u more : Scope) → first ≤ length u → take (length u) (here (u ++ more)) ≡ here u
  first_told_there u more up =
      let long : length (here u) ≡ length u = behind_long g first u in
      ap (take (length u)) (behind_joined g first u more up)
      ∙ ap (λ n. take n (here u ++ tell_all g more)) (sym long)
      ∙ first_stay g (here u) (tell_all g more)

  -- in front of the object's body its own names are not visible
  front_told : (outer : List ℕ → Option X) (s : Scope) (n : ℕ) (change : Entity → Entity)
      → ((name : List ℕ) (e : Entity) → stands s name ≡ Some e → outer name ≡ g name) → told_behind first outer s ≡ here (changed_at s n change)
  front_told outer s n change own =
      behind_same outer g first s (changed_at s n change) (sym (changed_names s n change)) (λ m has. let x = name_stands s m has in own m.name x.0 x.1)

-- ---- an accepted program

module _ (scopes : ScopesAreSound) (known : NamesAreKnown) (premises : PremisesHold) (t : ProgramTree) (legal : IsLegal t) (restricted : IsRestricted t)
    (directory : Directory) (is : IsDirectory t directory) where
  abbrev whole : Scope
  whole = (program_of t).scope

  abbrev first : ℕ
  first = length (start_in t.package_)

  slots_same : (owner : Option ℕ) (name : List ℕ) → slot_told whole directory owner name ≡ slot_in t owner name
  slots_same None name = is.slots name
  slots_same (Some o) name = is.components o name

  -- what is not visible behind the package has no number
  no_body : (name : List ℕ) → number_of whole name ≡ None → number_in t None name ≡ None
  no_body name unseen = by_number (number_in t None name) refl
    where
      by_number : (n : Option ℕ) → number_in t None name ≡ n → n ≡ None
      by_number None e = refl
      by_number (Some n) e =
          absurd (
          let f = number_of_body t None name n e in
          let b = body_of t n f.code f.is in
          let seen = (bodies_numbered scopes known premises t legal restricted b.place b.item b.k f.code b.at b.is).1 f.owned in
          let bad = sym (ap (λ l. is_some (number_of whole l)) f.named ∙ ap is_some unseen) ∙ seen in
          cc
          )

  pub numbers_same : (owner : Option ℕ) (name : List ℕ) → number_told whole directory owner name ≡ number_in t owner name
  numbers_same None name = by_number (number_of whole name) refl
    where
      by_number : (n : Option ℕ) → number_of whole name ≡ n → told_of whole directory.numbers.items name ≡ number_in t None name
      by_number (Some n) e = is.numbers name n e
      by_number None e = ap (λ o. elim o [ None ↦ None | Some n ↦ entry_at directory.numbers.items n ]) e ∙ sym (no_body name e)
  numbers_same (Some o) name = is.operations o name

  module _ (o : ℕ) where
    abbrev slots_told : List ℕ → Option Slot
    slots_told = told_slot (slot_told whole directory) (number_told whole directory) (Some o)

    abbrev numbers_told : List ℕ → Option ℕ
    numbers_told = told_inside (number_told whole directory) (Some o)

    abbrev slots_there : List ℕ → Option Slot
    slots_there = told_slot (slot_in t) (number_in t) (Some o)

    abbrev numbers_there : List ℕ → Option ℕ
    numbers_there = told_inside (number_in t) (Some o)

    slots_are : (name : List ℕ) → slots_told name ≡ slots_there name
    slots_are name =
        λ j. if is_some (numbers_same (Some o) name j) then None else or_else (slots_same (Some o) name j) (slots_same None name j)

    numbers_are : (name : List ℕ) → numbers_told name ≡ numbers_there name
    numbers_are name = λ j. or_else (numbers_same (Some o) name j) (numbers_same None name j)

    abbrev seen : Scope → Visible
    seen u = seen_with t (Some o) u

    pub own_seen : (u : Scope) (d : SubprogramTree) → first ≤ length u → with_own_name whole directory o d (seen u) ≡ seen (subprogram_scope u d)
    own_seen u d up =
        λ j. record {
          scope = subprogram_scope u d;
          slots = own_told slots_told slots_there slots_are first u d up j;
          subprograms = own_told numbers_told numbers_there numbers_are first u d up j;
          operations = operation_numbers t;
        }

    components_seen : (u : Scope) (b : Bool) (cs : List RecordComponent) → first ≤ length u
        → with_components whole directory o b cs (seen u) ≡ seen (components_scope u b cs)
    components_seen u b cs up =
        λ j. record {
          scope = components_scope u b cs;
          slots = components_told slots_told slots_there slots_are first u b cs up j;
          subprograms = components_told numbers_told numbers_there numbers_are first u b cs up j;
          operations = operation_numbers t;
        }

    grown_up : (u : Scope) (b : Bool) (cs : List RecordComponent) → first ≤ length u → first ≤ length (components_scope u b cs)
    grown_up u b cs up =
        let e = ap length (components_all u b cs ∙ with_added u (components_named b cs)) ∙ length-append u (added u (components_named b cs)) in
        omega (arith, e, up)

    -- in front of the parameters of an operation
    pub operation_seen : (u : Scope) (cs : List RecordComponent) (i : ProtectedItemTree) → first ≤ length u
        → operation_visible whole directory o cs i (seen u) ≡ seen (operation_front u cs i)
    operation_seen u cs (OperationBody d b) up =
        ap (with_own_name whole directory o d) (components_seen u (is_some d.result) cs up)
        ∙ own_seen (components_scope u (is_some d.result) cs) d (grown_up u (is_some d.result) cs up)
    operation_seen u cs (EntryBody d barrier b) up = components_seen u false cs up

    first_seen : (u more : Scope) → first ≤ length u → first_visible (length u) (seen (u ++ more)) ≡ seen u
    first_seen u more up =
        λ j. record {
          scope = first_names u more j;
          slots = first_told_there slots_told slots_there slots_are first u more up j;
          subprograms = first_told_there numbers_told numbers_there numbers_are first u more up j;
          operations = operation_numbers t;
        }

    -- behind it
    pub behind_seen : (u : Scope) (cs : List RecordComponent) (i : ProtectedItemTree) → first ≤ length u
        → behind_operation whole directory o i (first_visible (length u) (operation_visible whole directory o cs i (seen u))) ≡ seen (protected_item_scope u i)
    behind_seen u cs i up =
        let grown = operation_grows u cs i in
        ap (λ v. behind_operation whole directory o i (first_visible (length u) v)) (operation_seen u cs i up ∙ ap seen grown.1)
        ∙ ap (behind_operation whole directory o i) (first_seen u grown.0 up) ∙ behind_there i
      where
        behind_there : (x : ProtectedItemTree) → behind_operation whole directory o x (seen u) ≡ seen (protected_item_scope u x)
        behind_there (OperationBody d b) = own_seen u d up
        behind_there (EntryBody d barrier b) = refl

    -- what is told of them is told by the directory
    pub told_seen : (u : Scope) → AreTold whole directory (Some o) (seen u)
    told_seen u = record {
      slots = λ name slot h. slots_are name ∙ told_found slots_there first u name slot h;
      calls = λ name number h. numbers_are name ∙ told_found numbers_there first u name number h;
      operations = sym (operations_are t directory is);
      entries = record { slots = behind_long slots_there first u; subprograms = behind_long numbers_there first u };
    }

  -- where the body of an object is entered
  module _ (place : ℕ) (name : Identifier) (items : List ProtectedItemTree) (end_name : Identifier)
      (at : slice_get (declared_in t.package_) place ≡ Some (ProtectedBody name items end_name)) where
    abbrev object : ℕ
    object = object_number whole name

    abbrev outer : Scope
    outer = front t place

    slot_out : (own : List ℕ) (e : Entity) → stands outer own ≡ Some e → slot_in t None own ≡ slots_there object own
    slot_out own e h =
        sym (λ j. if is_some (no_number scopes known premises t legal restricted place name items end_name at own e h j) then None
        else or_else (no_slot scopes known premises t legal restricted place name items end_name at own e h j) (slot_in t None own))

    number_out : (own : List ℕ) (e : Entity) → stands outer own ≡ Some e → number_in t None own ≡ numbers_there object own
    number_out own e h =
        sym (λ j. or_else (no_number scopes known premises t legal restricted place name items end_name at own e h j) (number_in t None own))

    module _ (n : ℕ) where
      abbrev hidden : Scope
      hidden = with_operations outer n []

      up : first ≤ length hidden
      up = (let fits = start_fits t place in let long = hidden_long outer n in omega (arith, fits, long))

      slots_front : told_behind first (slot_in t None) outer ≡ told_behind first (slots_there object) hidden
      slots_front = front_told (slots_told object) (slots_there object) (slots_are object) first (slot_in t None) outer n (offering []) slot_out

      numbers_front : told_behind first (number_in t None) outer ≡ told_behind first (numbers_there object) hidden
      numbers_front = front_told (numbers_told object) (numbers_there object) (numbers_are object) first (number_in t None) outer n (offering []) number_out

      pub entered_seen : (os : List Operation)
          → seen_inside whole directory object (record (seen_at t place) { scope = operations_scope hidden os }) (offered_names os)
          ≡ seen_with t (Some object) (operations_scope hidden os)
      entered_seen os =
          λ j. record {
            scope = operations_scope hidden os;
            slots = (ap (λ l. told_each (slots_told object) (operations_scope hidden os) l (offered_names os)) slots_front
                ∙ offered_told (slots_told object) (slots_there object) (slots_are object) first hidden os up) j;
            subprograms = (ap (λ l. told_each (numbers_told object) (operations_scope hidden os) l (offered_names os)) numbers_front
                ∙ offered_told (numbers_told object) (numbers_there object) (numbers_are object) first hidden os up) j;
            operations = operation_numbers t;
          }

      -- where it is left, what was visible in front of it is so again
      module _ (ends : ObjectBodiesEnd) (old mid : Visible) (os : List Operation) (told : old ≡ seen_at t place)
          (operations : os ≡ operations_or (protected_at old.scope n) [])
          (seen_mid : mid ≡ seen_with t (Some object) (protected_items_scope (object_body_scope (front t place) n) items)) where
        abbrev offered : List Operation
        offered = operations_or (protected_at outer n) []

        more : (x : Scope) × (protected_items_scope (object_body_scope outer n) items ≡ hidden ++ x)
        more = all_names outer n items

        inside : mid ≡ seen_with t (Some object) (hidden ++ more.0)
        inside = seen_mid ∙ ap (seen_with t (Some object)) more.1

        scope : old.scope ≡ outer
        scope = ap (λ (v : Visible). v.scope) told

        given_back : os ≡ offered
        given_back = operations ∙ ap (λ u. operations_or (protected_at u n) []) scope

        long : length outer ≡ length hidden
        long = sym (hidden_long outer n)

        back : record (seen_with t (Some object) (hidden ++ more.0)) {
          scope = with_operations (take (length outer) (hidden ++ more.0)) n offered;
          slots = take (length outer) (told_behind first (slots_there object) (hidden ++ more.0));
          subprograms = take (length outer) (told_behind first (numbers_there object) (hidden ++ more.0));
        } ≡ seen_at t place
        back = λ j. record {
          scope = (ap (λ m. with_operations (take m (hidden ++ more.0)) n offered) long
              ∙ ap (λ u. with_operations u n offered) (first_names hidden more.0) ∙ ends.ended outer n) j;
          slots = (ap (λ m. take m (told_behind first (slots_there object) (hidden ++ more.0))) long
              ∙ first_told_there (slots_told object) (slots_there object) (slots_are object) first hidden more.0 up ∙ sym slots_front) j;
          subprograms = (ap (λ m. take m (told_behind first (numbers_there object) (hidden ++ more.0))) long
              ∙ first_told_there (numbers_told object) (numbers_there object) (numbers_are object) first hidden more.0 up ∙ sym numbers_front) j;
          operations = operation_numbers t;
        }

        pub left_seen : record mid {
          scope = with_operations (take (length old.scope) mid.scope) n os;
          slots = take (length old.scope) mid.slots;
          subprograms = take (length old.scope) mid.subprograms;
        } ≡ old
        left_seen =
            (λ j. record (inside j) {
              scope = with_operations (take (length (scope j)) (inside j).scope) n (given_back j);
              slots = take (length (scope j)) (inside j).slots;
              subprograms = take (length (scope j)) (inside j).subprograms;
            })
            ∙ back ∙ sym told
