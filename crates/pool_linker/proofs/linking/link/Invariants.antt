use Rattle.std.proofs.Common.{◌≡◌, map, length}
use Rattle.std.specs.List.{AllByRecursion}
use Rattle.stack_code.specs.Units.{unit_function}
use Rattle.image_form.specs.Form.{function_of}
use Rattle.pool_linker.specs.Linking.{NamesBelow, linked_function}
use Rattle.pool_linker.proofs.linking.link.Given as goal

-- the functions so far are the units so far, linked; the others name kinds that have numbers
abbrev pub invariant-loop-unit : goal.invariant-loop-unit
invariant-loop-unit l =
    (map function_of l.functions.items ≡ map (linked_function l.numbering.numbers.items) (map unit_function l.yielded))
    × AllByRecursion (λ unit. AllByRecursion (NamesBelow (length l.numbering.numbers.items)) unit.code.items) l.unit-iterator.rest.items
