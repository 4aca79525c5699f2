-- What things of a program are called in the text of its graphs. A name that is missing is empty, a number 0.
use Rattle.std.specs.Prelude.{◌≡◌, ℕ, List, [], Vec, get_or, slice_get, Option, Some, None, codes}
use Rattle.std.specs.Borrow.{Bor}
use Rattle.graph_text.specs.declared.function_labels.FunctionLabels.{FunctionLabels}
use Rattle.graph_text.specs.declared.function_labels.Labels.{Labels}
use Rattle.graph_text.specs.declared.names.Owner.{Owner}
use Rattle.graph_text.specs.declared.names.Owner.TheVariants as O

abbrev pub labels_of : Labels → Owner → Option FunctionLabels
labels_of labels O.Start = None
labels_of labels (O.Function number) = slice_get labels.functions.items number

abbrev pub OwnIs : Labels → Owner → Option (Bor FunctionLabels) → Type 0
OwnIs labels owner None = labels_of labels owner ≡ None
OwnIs labels owner (Some own) = labels_of labels owner ≡ Some own.now

abbrev pub items_of : {A : Type 0} → Option (Vec ℕ A) → List ℕ
items_of None = []
items_of (Some label) = label.items

abbrev pub label_in : {A : Type 0} → List (Vec ℕ A) → ℕ → List ℕ
label_in labels number = items_of (slice_get labels number)

abbrev pub name_of : Option FunctionLabels → List ℕ
name_of None = []
name_of (Some own) = own.name.items

abbrev pub owner_text : Labels → Owner → List ℕ
owner_text labels O.Start = codes "start"
owner_text labels (O.Function number) = name_of (slice_get labels.functions.items number)

abbrev pub parameter_text : Option FunctionLabels → ℕ → List ℕ
parameter_text None number = []
parameter_text (Some own) number = label_in own.parameters.items number

abbrev pub variable_text : Option FunctionLabels → ℕ → List ℕ
variable_text None number = []
variable_text (Some own) number = label_in own.variables.items number

abbrev pub call_number : Option FunctionLabels → ℕ → ℕ
call_number None number = 0
call_number (Some own) number = get_or own.calls.items number 0

abbrev pub argument_number : Option FunctionLabels → ℕ → ℕ
argument_number None number = 0
argument_number (Some own) number = get_or own.arguments.items number 0
