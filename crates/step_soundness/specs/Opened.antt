-- Which protected actions a task holds open, as its items tell: one for each end that stands among them (RM 9.5.1, 9.5.3).
use Rattle.std.specs.Prelude.{◌≡◌, ◌⊎◌, ℕ, List, [], ◌∷◌, Option, Some, None, ⊤}
use Rattle.expr_soundness.specs.meaning.specs.Works.{Item, EndsCall, EndsAction, EndsServed}

-- an action that a call of the task has opened, and one in which it runs the entry body for a queued caller
pub data Opened : Type 0 where
  ForCall ForCaller : (object : ℕ) → Opened

abbrev pub object_opened : Opened → ℕ
object_opened (ForCall o) = o
object_opened (ForCaller o) = o

abbrev pub opened_by : Option ℕ → List Opened → List Opened
opened_by None outer = outer
opened_by (Some o) outer = ForCall o ∷ outer

-- the innermost first
abbrev pub opened_in : List Item → List Opened
opened_in [] = []
opened_in (EndsCall names opened xs ∷ items) = opened_by opened (opened_in items)
opened_in (EndsAction o completion ∷ items) = ForCall o ∷ opened_in items
opened_in (EndsServed o names completion ∷ items) = ForCaller o ∷ opened_in items
opened_in (i ∷ items) = opened_in items

abbrev pub HasOpened : ℕ → List Opened → Type 0
HasOpened o [] = ⊥
HasOpened o (a ∷ outer) = (object_opened a ≡ o) ⊎ HasOpened o outer

-- a body of a protected object runs within an action of the object
abbrev pub IsHeld : (within : Option ℕ) → List Opened → Type 0
IsHeld None opened = ⊤
IsHeld (Some o) opened = HasOpened o opened
