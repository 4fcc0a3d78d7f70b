-- Tables of tasks, of objects and of tasks at objects, and what a run so far has in them.
use Rattle.std.specs.Prelude.{◌≡◌, ◌+◌, ◌*◌, ◌<◌, ℕ, List, length, slice_index_or}
use Rattle.base.specs.declared.limits.TheConstants.{OBJECTS}
use Rattle.tracing.specs.declared.calls.TheConstants.{ACTORS}
use Rattle.measuring.specs.Measures.{measures, object_measures, usage_measures}
use Rattle.measuring.specs.Stories.{ObjectCalls, Stories, Usages}
use Rattle.measuring.specs.declared.counting.Measures.{Measures}
use Rattle.measuring.specs.declared.instants.Instants.{Instants}

-- the table has what a function gives of each number that a task, a handler or an object may have
abbrev pub IsTable : {X : Type 0} → List X → (ℕ → X) → Type 0
IsTable {X} table f = (n : ℕ) (d : X) → n < ACTORS → slice_index_or table n d ≡ f n

-- the table has what a function gives of each task or handler and each object: for each task so many rows, one for each object
abbrev pub IsGrid : {X : Type 0} → List X → (ℕ → ℕ → X) → Type 0
IsGrid {X} table f = (t o : ℕ) (d : X) → t < ACTORS → o < OBJECTS → slice_index_or table (t * OBJECTS + o) d ≡ f t o

-- there is a row for each of these numbers
pub record AreWhole (m : Measures) : Type 0 where
  pub actors : length m.actors.items ≡ ACTORS
  pub objects : length m.objects.items ≡ ACTORS
  pub usages : length m.usages.items ≡ ACTORS * OBJECTS

-- what these say is measured of what has happened to tasks, of the calls of objects, of what tasks have done at objects, and of instants
pub record AreMeasured (m : Measures) (stories : Stories) (calls : ObjectCalls) (usages : Usages) (instants : Instants) : Type 0 where
  pub actors : IsTable m.actors.items (λ t. measures (stories t))
  pub objects : IsTable m.objects.items (λ o. object_measures (calls o))
  pub usages_are : IsGrid m.usages.items (λ t o. usage_measures (usages t o))
  pub instants_are : m.instants ≡ instants
