-- Where a length may be left out.
use Rattle.std.specs.Prelude.{ℕ, if◌then◌else◌, Option, Some, None}
use Rattle.c_typed.specs.Types.{CType, is_character}
use Rattle.c_types_expressions.specs.declared.role.LengthRole as memory_role
use Rattle.c_types_expressions.specs.declared.role.LengthRole.TheVariants as R
use Rattle.c_rules.specs.Expressions.{LengthRole, Required, Adjusted, Initialized}

-- the length that an initializer gives, where it is a literal of this size
abbrev pub length_by : Option ℕ → ℕ → CType → ℕ
length_by (Some size) plain element = if is_character element then size else plain
length_by None plain element = plain

abbrev pub role_of : memory_role.LengthRole → LengthRole
role_of R.Required = Required
role_of R.Adjusted = Adjusted
role_of (R.Initialized literal plain) = Initialized (length_by literal plain)
