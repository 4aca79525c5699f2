-- Groups in memory.
use Rattle.std.specs.Prelude.{◌≡◌, ℕ, ◌<◌, List, Vec, map, length, slice_get, Some}
use Rattle.tac_ir.specs.declared.program.Tac as memory_tac
use Rattle.tac_ir.specs.declared.register.FunctionId as id
use Rattle.tac_ir.specs.Code.{Known, Tac}
use Rattle.tac_ir.specs.Groups.{IsIn, Makes}
use Rattle.call_graph.specs.ClassLists.{numbers_of, AreClasses}
use Rattle.call_graph.specs.declared.group_lists.Groups.{Groups}

-- calls by name are of functions of the program
abbrev pub CallsKnown : Tac → Type 0
CallsKnown tac = (caller function : ℕ) → Makes tac caller (Known function) → function < length tac.functions

abbrev pub lists_of : {A : Type 0} → List (Vec id.FunctionId A) → List (List ℕ)
lists_of = map (λ members. numbers_of members.items)

abbrev pub groups_of : Groups → List (List ℕ)
groups_of made = lists_of made.members.items

-- the number of each function's group, and classes of the program
pub record IsOf (tac : memory_tac.Tac) (made : Groups) : Type 0 where
  pub each : length made.group_of.items ≡ length tac.functions.items
  pub group : (function number : ℕ) → slice_get made.group_of.items function ≡ Some number → (group : List ℕ) × (slice_get (groups_of made) number ≡ Some group) × IsIn function group
  pub classes : AreClasses tac made.classes
