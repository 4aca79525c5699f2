-- What the things of a program are called in the text of its graphs.
use Rattle.std.specs.Prelude.{ℕ, zero, suc, Bool, true, false, if◌then◌else◌, List, [], ◌∷◌, ◌++◌, map, Option, Some, None}
use Rattle.c_syntax.specs.Trees
use Rattle.c_syntax.specs.Trees.{NameTree, ParametersTree, DeclaratorTree, BlockTree, ItemTree, ProgramTree}
use Rattle.c_rules.specs.Names.{Scope}
use Rattle.c_rules.specs.Expressions.{declared_name, optional_name, is_void_alone}
use Rattle.c_rules.specs.Programs.{entered_function, own_parameters, item, outermost}
use Rattle.graph_text.specs.declared.function_labels.FunctionLabels as memory_function
use Rattle.graph_text.specs.declared.function_labels.Labels as memory_labels
use Rattle.graph_text.specs.Marks.{Marked, LocalMark, CallMark, ArgumentMark, marks_in_block}

-- what the things of a function are called, and those of a program
pub record OwnLabels : Type 0 where
  pub name : List ℕ
  pub parameters : List (List ℕ)
  pub variables : List (List ℕ)
  pub calls : List ℕ
  pub arguments : List ℕ

pub record AllLabels : Type 0 where
  pub functions : List OwnLabels
  pub globals : List (List ℕ)
  pub literals : List ℕ

-- ---- of a function

abbrev pub name_or_none : Option NameTree → List ℕ
name_or_none None = []
name_or_none (Some name) = name.bytes

-- the names of parameters, in their order
abbrev pub names_of : ParametersTree → List (List ℕ)
names_of Trees.NoParameters = []
names_of (Trees.Parameter words declarator others) = name_or_none (optional_name declarator) ∷ names_of others

abbrev pub parameter_names : ParametersTree → List (List ℕ)
parameter_names parameters = if is_void_alone parameters then [] else names_of parameters

-- the names of locals, in the order of their declarations
abbrev pub own_local : Marked → List (List ℕ)
own_local (LocalMark name) = name ∷ []
own_local _ = []

abbrev pub local_names : List Marked → List (List ℕ)
local_names [] = []
local_names (mark ∷ marks) = own_local mark ++ local_names marks

-- Calls that give pointers are numbered, and arguments for pointers, each in the order of the text. Of those that are done each has its number,
-- where so many stand before; one for no pointer has none.
abbrev pub own_number : ℕ → Bool → Bool → List ℕ
own_number before false is_pointer = []
own_number before true false = 0 ∷ []
own_number before true true = suc before ∷ []

abbrev pub number_behind : ℕ → Bool → ℕ
number_behind before false = before
number_behind before true = suc before

abbrev pub own_call : ℕ → Marked → List ℕ
own_call before (CallMark is_done is_pointer) = own_number before is_done is_pointer
own_call before _ = []

abbrev pub calls_behind : ℕ → Marked → ℕ
calls_behind before (CallMark is_done is_pointer) = number_behind before is_pointer
calls_behind before _ = before

abbrev pub call_numbers : ℕ → List Marked → List ℕ
call_numbers before [] = []
call_numbers before (mark ∷ marks) = own_call before mark ++ call_numbers (calls_behind before mark) marks

abbrev pub own_argument : ℕ → Marked → List ℕ
own_argument before (ArgumentMark is_done is_pointer) = own_number before is_done is_pointer
own_argument before _ = []

abbrev pub arguments_behind : ℕ → Marked → ℕ
arguments_behind before (ArgumentMark is_done is_pointer) = number_behind before is_pointer
arguments_behind before _ = before

abbrev pub argument_numbers : ℕ → List Marked → List ℕ
argument_numbers before [] = []
argument_numbers before (mark ∷ marks) = own_argument before mark ++ argument_numbers (arguments_behind before mark) marks

abbrev pub own_labels : NameTree → ParametersTree → List Marked → OwnLabels
own_labels name parameters marks =
    record {
      name = name.bytes;
      parameters = parameter_names parameters;
      variables = local_names marks;
      calls = call_numbers 0 marks;
      arguments = argument_numbers 0 marks;
    }

-- a function, whose own name is in scope
abbrev pub function_labels : Scope → NameTree → DeclaratorTree → BlockTree → OwnLabels
function_labels scope name declarator body =
    own_labels name (own_parameters declarator) (marks_in_block (entered_function scope (own_parameters declarator)).scope body)

-- ---- of a program

abbrev pub named_function : Scope → Option NameTree → DeclaratorTree → BlockTree → List OwnLabels
named_function scope None declarator body = []
named_function scope (Some name) declarator body = function_labels scope name declarator body ∷ []

-- the function that an item defines, behind the names that the item declares
abbrev pub item_labels : Scope → ItemTree → List OwnLabels
item_labels scope (Trees.Declaration base declarators) = []
item_labels scope (Trees.Function base declarator place body) = named_function scope (declared_name declarator) declarator body

abbrev pub items_labels : Scope → List ItemTree → List OwnLabels
items_labels scope [] = []
items_labels scope (first ∷ others) = item_labels (item scope first).scope first ++ items_labels (item scope first).scope others

-- the numbers from one to this
abbrev pub numbers_to : ℕ → List ℕ
numbers_to zero = []
numbers_to (suc number) = numbers_to number ++ suc number ∷ []

-- The functions in the order of the text, variables outside functions by these names, and so many literals of the text, in its order.
abbrev pub labels_of : ProgramTree → List (List ℕ) → ℕ → AllLabels
labels_of program globals literals =
    record { functions = items_labels (outermost program) program.items; globals = globals; literals = numbers_to literals }

-- ---- in memory

abbrev pub own_in : memory_function.FunctionLabels → OwnLabels
own_in own =
    record {
      name = own.name.items;
      parameters = map (λ label. label.items) own.parameters.items;
      variables = map (λ label. label.items) own.variables.items;
      calls = own.calls.items;
      arguments = own.arguments.items;
    }

abbrev pub labels_in : memory_labels.Labels → AllLabels
labels_in labels = record { functions = map own_in labels.functions.items; globals = map (λ label. label.items) labels.globals.items; literals = labels.literals.items }
