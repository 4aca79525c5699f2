-- What a run and its store promise, in short words.
use Rattle.std.specs.Prelude.{◌≡◌, ℕ, List, Result}
use Rattle.c_typed.specs.declared.typed.LibraryFunction.{LibraryFunction}
use Rattle.ref_semantics.specs.Values.{Scalar}
use Rattle.ref_semantics.specs.Store.{TypeEnvironment, Eval}
use Rattle.ref_meaning.specs.declared.store.Store.{Store}
use Rattle.ref_meaning.specs.declared.value.Scalar as memory_scalar
use Rattle.ref_meaning.specs.declared.value.Stop.{Stop}
use Rattle.ref_meaning.specs.RefStore.Views.{scalar_in}
use Rattle.ref_meaning.specs.RefStore.Holding.{CallGives}
use Rattle.ref_semantics.specs.Parts.{Part, Next}
use Rattle.ref_semantics.specs.Steps as steps
use Rattle.ref_semantics.specs.Steps.{Task}
use Rattle.ref_meaning.specs.declared.run.RefRun.{RefRun}
use Rattle.ref_meaning.specs.declared.control.Node as memory_node
use Rattle.ref_meaning.specs.declared.first_operand.Next as memory_next
use Rattle.ref_meaning.specs.Views.{part_in, table_of, operands_of, newest, config_in}
use Rattle.ref_meaning.specs.Doing.{next_in}

-- the part of the tree and the value that those in memory stand for, and the newest values that wait
abbrev pub part_seen : RefRun → memory_node.Node → Part
part_seen run node = part_in (table_of run) node

abbrev pub scalar_seen : RefRun → memory_scalar.Scalar → Scalar
scalar_seen run value = scalar_in (table_of run) value

abbrev pub newest_seen : RefRun → ℕ → List Scalar
newest_seen run count = newest (table_of run) count (operands_of run)

-- the same in a store
abbrev pub part_stored : Store → memory_node.Node → Part
part_stored store node = part_in store.types.now node

-- a call on a store gives what comes next by a rule
abbrev pub GivesNext : Store → Store → (TypeEnvironment → Eval Next) → Result memory_next.Next Stop → Type 0
GivesNext old new rule result = (around : TypeEnvironment) (base : ℕ) → CallGives around old new base (next_in old.types.now) (rule around) result

-- ---- what is next where a read or a write failed

abbrev pub IsCallOf : LibraryFunction → Task → Type 0
IsCallOf function (steps.Apply (steps.FromLibrary other place) given) = other ≡ function
IsCallOf function task = ⊥

-- a call of this function of the library is next
abbrev pub CallsNext : LibraryFunction → RefRun → Type 0
CallsNext function run = IsCallOf function (config_in run).task
