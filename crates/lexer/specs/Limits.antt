-- The values of literals are less than this number (RM 2.4.1).
use Rattle.std.specs.Prelude.{ℕ, ◌+◌}
use Rattle.base.specs.declared.limits.TheConstants.{LARGEST_NUMBER}

abbrev pub number_limit : ℕ
number_limit = LARGEST_NUMBER + 1
