-- What a frame of code sees of the names that are visible in a part of a program: where the words of objects stand, and which subprograms functions have.
use Rattle.std.specs.Prelude.{◌≡◌, ◌<◌, ◌≤◌, ℕ, Bool, true, ◌||◌, List, [], ◌∷◌, bytes_eq, length, map, option_map, position, slice_get, Option, Some, None, ⊤}
use Rattle.ada_tree.specs.Size.{total}
use Rattle.image.specs.Sections.{Sections}
use Rattle.image.specs.Operations.{called}
use Rattle.image.specs.Rules.{calls_inside, has_region, has_word, is_external, is_plain}
use Rattle.image.specs.declared.instruction.Region.{Region}
use Rattle.image.specs.declared.instruction.Region.TheVariants as regions
use Rattle.image.specs.declared.subprograms.Kind.{Kind}
use Rattle.image.specs.declared.subprograms.Subprogram as code
use Rattle.types.specs.Values.{Value}
use Rattle.types.specs.declared.entity.PredefinedOperation.{PredefinedOperation}
use Rattle.types.specs.declared.entity.Subtype.{Subtype}
use Rattle.types.specs.Entities.{Entity, Predefined, Profile, ProtectedObject, Subprogram}
use Rattle.types.specs.Places.{Function, IsFunction, IsObject, IsProtected, Object, Place, ceiling_of, function_of, meaning_of, object_of}
use Rattle.types.specs.Evaluating.{formal_subtype}
use Rattle.types.specs.Scopes.{Scope, entity_at, number_of, protected_at}
use Rattle.types.specs.Standings.{profile_among}
use Rattle.types.specs.Layouts.{words_of}
use Rattle.types.specs.Shapes.{has_shape, shape_of}
use Rattle.expr_soundness.specs.expr_rules.specs.Laws.{type_shape}
use Rattle.expr_soundness.specs.Answers.{CallsAnswer, FunctionsAreSound}
use Rattle.expr_soundness.specs.Lying.{LoopsLie, PlaceLies, ReturnWithin}
use Rattle.expr_soundness.specs.Agreeing.{Agrees, parameter_subtype}
use Rattle.expr_code.specs.Entries.{entry_at}
use Rattle.expr_code.specs.Views.{IsSameTask, View}
use Rattle.expr_code.specs.Computing.{Library}
use Rattle.expr_code.specs.Naming.{Lies}
use Rattle.expr_code.specs.declared.visible.Slot.{Slot}
use Rattle.expr_code.specs.declared.visible.Visible.{Visible}

-- what is told of the name by its number, where something is
abbrev pub told_of : {X : Type 0} → Scope → List (Option X) → List ℕ → Option X
told_of s all name = elim (number_of s name) [ None ↦ None | Some n ↦ entry_at all n ]

-- the place of the words of the object with this name, where it has one
abbrev pub slot_of : Visible → List ℕ → Option Slot
slot_of v name = told_of v.scope v.slots name

-- the number of the subprogram of the function with this name
abbrev pub subprogram_of : Visible → List ℕ → Option ℕ
subprogram_of v name = told_of v.scope v.subprograms name

-- the profile of the subprogram with this name, if it is one; a procedure, function or entry of the language has none here
abbrev pub subprogram_profile : Option Entity → Option Profile
subprogram_profile (Some (Subprogram p)) = Some p
subprogram_profile e = None

abbrev pub profile_named : Scope → (name : List ℕ) → Option Profile
profile_named s name = elim (number_of s name) [ None ↦ None | Some n ↦ subprogram_profile (entity_at s n) ]

-- the name is that of a subprogram with this profile
pub record NamesProfile (s : Scope) (name : List ℕ) (profile : Profile) : Type 0 where
  pub number : ℕ
  pub numbered : number_of s name ≡ Some number
  pub stands : entity_at s number ≡ Some (Subprogram profile)

-- the function of the language that the name is, if it is one (RM D.8, and Control_IO)
abbrev pub operation_of : Option Entity → Option PredefinedOperation
operation_of (Some (Predefined o p)) = Some o
operation_of e = None

abbrev pub operation_named : Scope → (name : List ℕ) → Option PredefinedOperation
operation_named s name = elim (number_of s name) [ None ↦ None | Some n ↦ operation_of (entity_at s n) ]

-- the name is that of this function of the language
pub record NamesOperation (s : Scope) (name : List ℕ) (operation : PredefinedOperation) : Type 0 where
  pub number : ℕ
  pub profile : Profile
  pub numbered : number_of s name ≡ Some number
  pub stands : entity_at s number ≡ Some (Predefined operation profile)

-- ---- what is named behind protected objects (RM 9.4, 9.5)

-- the protected object with this name, if it is one
abbrev pub object_named : Scope → (name : List ℕ) → Option ProtectedObject
object_named s name = elim (number_of s name) [ None ↦ None | Some n ↦ protected_at s n ]

-- the position of the operation of this name in the object's declaration
abbrev pub operation_place : Option ProtectedObject → (operation : List ℕ) → Option ℕ
operation_place (Some o) operation = position (λ x. bytes_eq x.name operation) o.operations
operation_place None operation = None

abbrev pub profile_behind : Option ProtectedObject → (operation : List ℕ) → Option Profile
profile_behind o operation = elim (operation_place o operation) [ None ↦ None | Some k ↦ profile_among o k ]

-- the profile of the operation that is named behind its protected object
abbrev pub external_profile : Scope → (object operation : List ℕ) → Option Profile
external_profile s object operation = profile_behind (object_named s object) operation

-- what is told of the operation at this position, of the object with this number
abbrev pub operation_entry : List (List (Option ℕ)) → (object place : ℕ) → Option ℕ
operation_entry all object place = elim (slice_get all object) [ None ↦ None | Some numbers ↦ entry_at numbers place ]

abbrev pub number_behind : List (List (Option ℕ)) → Option ProtectedObject → (operation : List ℕ) → Option ℕ
number_behind all (Some o) operation = elim (operation_place (Some o) operation) [ None ↦ None | Some k ↦ operation_entry all o.number k ]
number_behind all None operation = None

-- the number of the subprogram of the operation that is named behind its protected object
abbrev pub external_of : Visible → (object operation : List ℕ) → Option ℕ
external_of v object operation = number_behind v.operations (object_named v.scope object) operation

-- ---- the package

-- What all bodies of a program can name: the names of its package, its variables and the components of its protected objects with their first values, where
-- the words of these stand, its functions, and the numbers of their subprograms, by the protected object to which they belong, if any, and their names.
pub record Package : Type 0 where
  pub scope : Scope
  pub first : (owner : Option ℕ) → List Object
  pub slots : (owner : Option ℕ) (name : List ℕ) → Option Slot
  pub functions : List Function
  pub subprograms : (owner : Option ℕ) → (name : List ℕ) → Option ℕ

-- ---- what is seen at a place of evaluation

-- names mean there what they stand for, and the words of each object are those of its value
pub record SeesScope (s : Scope) (slots : List ℕ → Option Slot) (p : Place) (view : View) : Type 0 where
  pub agrees : Agrees s p
  pub objects : (name : List ℕ) (slot : Slot) (t : Subtype) (value : Value) → slots name ≡ Some slot → meaning_of p name ≡ IsObject t value
      → Lies (view.words slot.region) slot.offset value

-- the same place without the objects of the running activation, outside of protected objects
abbrev pub outside : Place → Place
outside p = record p { locals = []; within = None }

-- the variables of the package, or the components of a protected object
abbrev pub objects_by : Place → (owner : Option ℕ) → List Object
objects_by p None = p.variables
objects_by p (Some o) = p.components o

-- the subtype of the newest object of this name
abbrev pub subtype_among : List Object → List ℕ → Option Subtype
subtype_among objects name = option_map (λ (x : Object). x.subtype) (object_of objects name)

-- each has a value of its type
abbrev pub AreSuited : Scope → List Object → Type 0
AreSuited s [] = ⊤
AreSuited s (x ∷ xs) = (has_shape (type_shape s x.subtype.type_number) x.value ≡ true) × AreSuited s xs

-- the place has the package's variables and components, whatever their values are, each of its type
pub record HasObjects (g : Package) (p : Place) : Type 0 where
  pub same : (owner : Option ℕ) (name : List ℕ) → subtype_among (objects_by p owner) name ≡ subtype_among (g.first owner) name
  pub suited : (owner : Option ℕ) → AreSuited g.scope (objects_by p owner)

-- what stands around each body, whatever names of its own it has; and all that the place has, the objects of the running activation too, lies in its subtypes
pub record SeesPackage (g : Package) (p : Place) (view : View) : Type 0 where
  pub scope : p.scope ≡ g.scope
  pub functions : p.functions ≡ g.functions
  pub sound : FunctionsAreSound p
  pub objects : HasObjects g p
  pub values : PlaceLies p
  pub names : SeesScope g.scope (g.slots None) (outside p) view
  -- the words of each protected object are those of its components, whichever object the frame itself belongs to
  pub components : (object : ℕ) (name : List ℕ) (slot : Slot) (x : Object) → g.slots (Some object) name ≡ Some slot
      → object_of (p.components object) name ≡ Some x
      → Lies (view.memory.objects object) slot.offset x.value
  pub now : p.now ≡ view.now
  pub schedule : p.schedule ≡ view.schedule
  pub task : IsSameTask p view
  -- no region has more words than addresses tell, nor has a protected object
  pub small : (r : Region) → length (view.words r) ≤ 65536
  pub few : (object : ℕ) → length (view.memory.objects object) ≤ 65536

-- the function is one of the package, and has the subprogram with this number
pub record IsCoded (g : Package) (f : Function) (number : ℕ) : Type 0 where
  pub found : function_of g.functions f.object f.name ≡ Some f
  pub numbered : g.subprograms f.object f.name ≡ Some number

-- the function has code and belongs to this protected object, whose ceiling priority is the one that the package gives the object of its number (RM 9.4, D.3)
pub record IsOffered (g : Package) (o : ProtectedObject) (f : Function) (number : ℕ) : Type 0 where
  pub coded : IsCoded g f number
  pub owned : f.object ≡ Some o.number
  pub ceiling : ceiling_of g.scope o.number ≡ o.ceiling

-- The frame stands for the place of evaluation in a part of the program.
pub record Sees (g : Package) (v : Visible) (p : Place) (view : View) : Type 0 where
  pub unit : SeesPackage g p view
  pub names : SeesScope v.scope (slot_of v) p view
  -- loop parameters have numbers of their ranges
  pub loops : LoopsLie v.scope p
  -- of a name that is visible there as a function's: another function, whose declaration is hidden there, may be meant by it
  pub functions : (name : List ℕ) (number : ℕ) (f : Function) (profile : Profile) (result : Subtype) → subprogram_of v name ≡ Some number
      → NamesProfile v.scope name profile → profile.result ≡ Some result
      → meaning_of p name ≡ IsFunction f None
      → IsCoded g f number
  pub externals : (name operation : List ℕ) (number : ℕ) (o : ProtectedObject) (f : Function) → external_of v name operation ≡ Some number
      → meaning_of p name ≡ IsProtected o
      → function_of g.functions (Some o.number) operation ≡ Some f
      → IsOffered g o f number

-- ---- what images have

-- the subprogram is of a kind that passes the test, takes the words of the parameters, and gives those of the result
pub record IsCallable (i : Sections) (s : Scope) (test : Kind → Bool) (number : ℕ) (profile : Profile) (result : Subtype) : Type 0 where
  pub code : code.Subprogram
  pub is : called i number ≡ Some code
  pub kind : test code.kind ≡ true
  pub parameters : code.parameters ≡ total (words_of s) (map parameter_subtype profile.formals)
  pub results : code.results ≡ words_of s result

-- what code may name stands in the image, and in the subprogram to which it is added
pub record Suits (v : Visible) (i : Sections) (s : code.Subprogram) : Type 0 where
  pub locals : (name : List ℕ) (slot : Slot) → slot_of v name ≡ Some slot → slot.region ≡ regions.Locals → slot.offset < s.locals
  pub plain : (name : List ℕ) (slot : Slot) → slot_of v name ≡ Some slot → slot.region ≡ regions.Plain → slot.offset < length i.plain_words
  pub object : (name : List ℕ) (slot : Slot) → slot_of v name ≡ Some slot → slot.region ≡ regions.Object → has_word i s slot.offset ≡ true
  pub region : (name : List ℕ) (slot : Slot) → slot_of v name ≡ Some slot → has_region s slot.region ≡ true
  pub calls : (name : List ℕ) (number : ℕ) (profile : Profile) (result : Subtype) → subprogram_of v name ≡ Some number → NamesProfile v.scope name profile
      → profile.result ≡ Some result
      → IsCallable i v.scope (λ kind. is_plain kind || calls_inside s.kind kind) number profile result
  pub externals : (name operation : List ℕ) (number : ℕ) (profile : Profile) (result : Subtype) → external_of v name operation ≡ Some number
      → external_profile v.scope name operation ≡ Some profile
      → profile.result ≡ Some result
      → IsCallable i v.scope is_external number profile result

-- ---- calls

-- The functions of the package, of which the code of each body may call those that are visible to it.
abbrev pub library_of : Package → Library
library_of g = record {
  shared = SeesPackage g;
  coded = IsCoded g;
  shapes = λ f. map (shape_of g.scope) (map formal_subtype f.formals);
  sound = λ calls. ((p : Place) → FunctionsAreSound p → CallsAnswer calls p) × ReturnWithin calls;
}
