-- When an image is a program's.
use Rattle.std.specs.Prelude.{◌≡◌, ℕ, ◌≤◌, List, [], ◌∷◌, Option, None}
use Rattle.run_theory.specs.Places.{first_place}
use Rattle.run_theory.specs.Runs.{Run, FollowsBy}
use Rattle.c_grammar.specs.Leaves.{Leaf}
use Rattle.c_lexer.specs.Tokens.{Divides}
use Rattle.c_syntax.specs.Trees
use Rattle.c_reader.specs.ProgramReadings.{IsProgram}
use Rattle.c_typed.specs.Typed as T
use Rattle.c_typed.specs.Typed.{Value, Values, Program}
use Rattle.c_typed.specs.Programs.{IsWellTyped}
use Rattle.c_typed.specs.Sizes.{HasStorableTypes}
use Rattle.c_typed.specs.TypedNodes.{program_nodes, greatest_nodes}
use Rattle.c_typed.specs.TypedDepths.{program_depth, greatest_depth}
use Rattle.c_typed.specs.TypedArguments.{CallsFew}
use Rattle.c_typed.specs.Parameters.{HasFewParameters}
use Rattle.c_rules.specs.Named.{NamedType}
use Rattle.ref_semantics.specs.First.{reference}
use Rattle.c_rules.specs.Programs as rules
use Rattle.c_rules.specs.Elaborated as elaborated
use Rattle.c_types.specs.InitialValues.{first_values}
use Rattle.c_rules.specs.NamedItems.{named_types}
use Rattle.c_types.specs.Limits.{exceeded}
use Rattle.tac_ir.specs.Code.{Tac}
use Rattle.heap_graph.specs.Graphs.{ProgramGraphs}
use Rattle.dsa_bottom_up.specs.Counted.{HaveFewSlots}
use Rattle.dsa_bottom_up.specs.Graphed.{HasGraphs, IsOvergrown}
use Rattle.pool_isa.specs.Machine.{State, initial, mach}
use Rattle.image_form.specs.declared.image.MachineLimits.{MachineLimits}
use Rattle.image_form.specs.Form.{Form, code_of, IsImage, ImageOf}
use Rattle.machine.specs.declared.ends.RunEnd.{RunEnd}
use Rattle.machine.specs.Run.{RunsTo}
use Rattle.pool_isa.specs.Accesses.{AccessesAreSafe}
use Rattle.backend_correct.specs.HeapEvents.{heap_events}
use Rattle.poolcc.specs.Seen.{AreInRange}

-- The text divides into the tokens of the program.
pub record Reads (text : List ℕ) (program : Trees.ProgramTree) : Type 0 where
  pub leaves : List Leaf
  pub divides : Divides first_place text leaves
  pub spelled : IsProgram leaves program

-- The text reads as the program, and as no other.
pub record ReadsAs (text : List ℕ) (program : Trees.ProgramTree) : Type 0 where
  pub reads : Reads text program
  pub only : (other : Trees.ProgramTree) → Reads text other → other ≡ program

-- The text is accepted: it reads as the program, in which no type rule is violated, and which exceeds no limit.
pub record IsAccepted (text : List ℕ) (program : Trees.ProgramTree) : Type 0 where
  pub reads : ReadsAs text program
  pub typed : rules.violations program ≡ []
  pub within : exceeded (elaborated.typed_of program) (named_types program) ≡ None

-- What is known of the typed tree of an accepted text, and is all that compiling asks of one: it is well typed, the types that its objects
-- get have exact sizes and a byte at least, it exceeds no limit, its nodes are few and don't nest deep, its functions have few parameters, its
-- calls few arguments, and its structures few slots.
pub record IsCompilable (program : Program) : Type 0 where
  pub well_typed : IsWellTyped program
  pub storable : HasStorableTypes program
  pub named : List NamedType
  pub within : exceeded program named ≡ None
  pub small : program_nodes program ≤ greatest_nodes
  pub shallow : program_depth program ≤ greatest_depth
  pub parameters : HasFewParameters program
  pub few : CallsFew program
  pub few_slots : HaveFewSlots program.structs

-- ---- heap graphs

abbrev pub listed : List Value → Values
listed [] = T.NoValues
listed (first ∷ others) = T.MoreValues first (listed others)

-- the expressions of the first values of a program's variables outside functions
abbrev pub initial_values : Trees.ProgramTree → Values
initial_values program = listed (first_values program)

-- A program's code has groups and the smallest closed heap graphs, of which none begins with more than 65,536 nodes.
pub record IsGraphed (program : Program) (first : Values) : Type 0 where
  pub tac : Tac
  pub groups : List (List ℕ)
  pub graphs : ProgramGraphs
  pub has : HasGraphs program first tac groups graphs

-- The text is accepted, and no group of its functions begins with more than 65,536 nodes: it can be compiled.
pub record IsBuildable (text : List ℕ) (program : Trees.ProgramTree) : Type 0 where
  pub accepted : IsAccepted text program
  pub few : (count : ℕ) → IsOvergrown (elaborated.typed_of program) (initial_values program) count → ⊥

-- ---- images

-- the run of an image on an input, within limits
abbrev pub machine_run : Form → MachineLimits → List ℕ → Run
machine_run form limits input = mach (code_of form) limits.slabs limits.index input

-- the run within the limits that the image holds
abbrev pub image_run : Form → List ℕ → Run
image_run form input = machine_run form form.limits input

abbrev pub first_of_run : Form → List ℕ → State
first_of_run form input = initial (code_of form) form.limits.slabs form.limits.index input

-- The machine has run the image from the first step, within the limits that it holds: this is its answer, this is what is left of
-- the input, and this is what was written, the new output behind the base.
abbrev pub RunsImageTo : Form → List ℕ → List ℕ → ℕ → RunEnd → Option (List ℕ) → Option (List ℕ) → Type 0
RunsImageTo form left base steps answer left' written' = RunsTo (code_of form) (first_of_run form left) base steps answer left' written'

-- The image is the program's: its fields are in their ranges, it holds the limits, and on every input and within all limits it follows the
-- program, the program's own heap accesses in their order included, and touches only memory that is there.
pub record IsImageFor (program : Program) (limits : MachineLimits) (form : Form) : Type 0 where
  pub ranges : IsImage form
  pub holds : form.limits ≡ limits
  pub follows : (input : List ℕ) (within : MachineLimits) → AreInRange within → FollowsBy (heap_events within.slabs) (reference program input) (machine_run form within input)
  pub safe : (input : List ℕ) (within : MachineLimits) → AccessesAreSafe (code_of form) within.slabs within.index input

-- The text is compiled: its program has heap graphs, and the image, which has been encoded and decoded, is the program's.
pub record Compiles (text : List ℕ) (limits : MachineLimits) (form : Form) : Type 0 where
  pub program : Trees.ProgramTree
  pub accepted : IsAccepted text program
  pub graphed : IsGraphed (elaborated.typed_of program) (initial_values program)
  pub encoded : List ℕ
  pub decoded : ImageOf encoded form
  pub image : IsImageFor (elaborated.typed_of program) limits form
