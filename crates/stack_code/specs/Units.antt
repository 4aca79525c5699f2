-- The emitted units as what the machine runs.
use Rattle.std.specs.Prelude.{List, map}
use Rattle.pool_isa.specs.Machine.{Function, Code}
use Rattle.stack_code.specs.declared.units.Unit as unit
use Rattle.stack_code.specs.declared.units.Units.{Units}

abbrev pub unit_function : unit.Unit → Function
unit_function unit = record { parameters = unit.parameters; extra = unit.extra; height = unit.height; signature = unit.signature; code = unit.code.items }

abbrev pub unit_functions : Units → List Function
unit_functions units = map unit_function units.functions.items

abbrev pub units_code : Units → Code
units_code units = record { functions = unit_functions units; kinds = units.kinds.items; globals = units.globals; contents = units.contents.items }
