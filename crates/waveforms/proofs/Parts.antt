-- A text of three parts, written one after the other.
use Rattle.std.proofs.Common.{ℕ, List, ◌++◌, Option}
use Rattle.std.specs.Io.KnownBytes.{Appends}
use Rattle.machine.specs.Written.{AppendsBeginning}
use Rattle.machine.proofs.Runs.{appends_two, beginning_after, beginning_of_more}

module _ (front changes end_ : List ℕ) (old middle : Option (List ℕ)) where
  pub front_begun : AppendsBeginning old middle front → AppendsBeginning old middle (front ++ changes ++ end_)
  front_begun begun = beginning_of_more old middle (front ++ changes) end_ (beginning_of_more old middle front changes begun)

  module _ (wrote : Appends old middle front) (later : Option (List ℕ)) where
    pub changes_begun : AppendsBeginning middle later changes → AppendsBeginning old later (front ++ changes ++ end_)
    changes_begun begun = beginning_of_more old later (front ++ changes) end_ (beginning_after old middle later front changes wrote begun)

    module _ (wrote_changes : Appends middle later changes) (last : Option (List ℕ)) where
      two : Appends old later (front ++ changes)
      two = appends_two old middle later front changes wrote wrote_changes

      pub whole : Appends later last end_ → Appends old last (front ++ changes ++ end_)
      whole app = appends_two old later last (front ++ changes) end_ two app

      pub end_begun : AppendsBeginning later last end_ → AppendsBeginning old last (front ++ changes ++ end_)
      end_begun begun = beginning_after old later last (front ++ changes) end_ two begun
