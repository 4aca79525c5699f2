-- The names that have targets, in the order of the text.
use Rattle.std.specs.Prelude.{◌≡◌, ℕ, suc, ◌==◌, List, [], ◌∷◌, ◌++◌, slice_get, Contains, Option, Some, None}
use Rattle.std.specs.List.Sorted.{IsStrictlyIncreasing}
use Rattle.indexmap.specs.IndexMap.{IndexMap, get_by}
use Rattle.tac_ir.specs.declared.register.FunctionId.{FunctionId}
use Rattle.heap_graph.specs.declared.graph.Target.{Target}
use Rattle.heap_graph.specs.declared.frozen.FunctionNames.{FunctionNames}
use Rattle.heap_graph.specs.declared.program.FunctionGraph.{FunctionGraph}
use Rattle.graph_text.specs.declared.names.Owner.{Owner}
use Rattle.graph_text.specs.declared.names.Owner.TheVariants as O
use Rattle.graph_text.specs.declared.names.Kind.{Kind}
use Rattle.graph_text.specs.declared.names.Kind.TheVariants as K
use Rattle.graph_text.specs.declared.names.Name.{Name}
use Rattle.graph_text.specs.declared.names.Name.TheVariants as N
use Rattle.graph_text.specs.declared.names.Named.{Named}

abbrev pub named_if : Name → Option Target → List Named
named_if name None = []
named_if name (Some target) = record { name = name; target = target } ∷ []

abbrev pub inner : Option (Option Target) → Option Target
inner None = None
inner (Some target) = target

abbrev pub target_at : List (Option Target) → ℕ → Option Target
target_at targets number = inner (slice_get targets number)

-- ---- functions

-- those of one kind, by their numbers
abbrev pub numbered_names : Owner → Kind → ℕ → List (Option Target) → List Named
numbered_names owner kind number [] = []
numbered_names owner kind number (target ∷ targets) = named_if (N.Own owner kind number) target ++ numbered_names owner kind (suc number) targets

-- a local: its place where it lies in memory, or else its register
abbrev pub local_name : Owner → ℕ → Option Target → Option Target → List Named
local_name owner number (Some object) register = named_if (N.Own owner K.VariableObject number) (Some object)
local_name owner number None register = named_if (N.Own owner K.Variable number) register

abbrev pub local_names : Owner → List (Option Target) → ℕ → List (Option Target) → List Named
local_names owner objects number [] = []
local_names owner objects number (register ∷ registers) = local_name owner number (target_at objects number) register ++ local_names owner objects (suc number) registers

-- those of a function: formals, its result, parameters in memory, locals, calls, arguments
abbrev pub own_names : Owner → FunctionNames → List Named
own_names owner names =
    numbered_names owner K.Formal 0 names.parameters.items
    ++ (named_if (N.Own owner K.Returned 0) names.returned
    ++ (numbered_names owner K.ParameterObject 0 names.parameter_objects.items
    ++ (local_names owner names.variable_objects.items 0 names.variables.items
    ++ (numbered_names owner K.Call 0 names.calls.items ++ numbered_names owner K.Argument 0 names.arguments.items))))

abbrev pub names_if : ℕ → Option FunctionGraph → List Named
names_if number None = []
names_if number (Some function) = own_names (O.Function number) function.names

-- those of the functions of a group
abbrev pub member_names : List FunctionGraph → List FunctionId → List Named
member_names functions [] = []
member_names functions (member ∷ members) = names_if member.0 (slice_get functions member.0) ++ member_names functions members

-- ---- variables outside functions, and literals

-- the target with this number
abbrev pub static_target : {S : Type 0} → IndexMap ℕ Target S → ℕ → Option Target
static_target targets number = get_by (λ key. number == key) targets

-- the numbers that have targets, ascending
pub record AreStatics {S : Type 0} (targets : IndexMap ℕ Target S) (numbers : List ℕ) : Type 0 where
  pub ascend : IsStrictlyIncreasing numbers
  pub all : (number : ℕ) (target : Target) → static_target targets number ≡ Some target → Contains numbers number

-- those of these that have targets
abbrev pub static_names : {S : Type 0} → (ℕ → Name) → IndexMap ℕ Target S → List ℕ → List Named
static_names name targets [] = []
static_names name targets (number ∷ numbers) = named_if (name number) (static_target targets number) ++ static_names name targets numbers

-- those are appended
pub record AddsStatics {S : Type 0} (name : ℕ → Name) (targets : IndexMap ℕ Target S) (before after : List Named) : Type 0 where
  pub numbers : List ℕ
  pub all : AreStatics targets numbers
  pub are : after ≡ before ++ static_names name targets numbers
