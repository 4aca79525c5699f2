-- What a pass comes to over each part of a text, and what is found by rules for parts that may not be known.
use Rattle.std.specs.Prelude.{ℕ, List, Option, Some, Vec}
use Rattle.run_theory.specs.declared.place.Pos.{Pos}
use Rattle.c_syntax.specs.declared.expr.Parameter as memory_parameter
use Rattle.c_syntax.specs.declared.expr.Parameter.{out-Parameter}
use Rattle.c_syntax.specs.Trees.{NameTree, ExprTree, ArgumentsTree, TypeTree, OptionalTree, DeclaratorTree, SuffixesTree, ParametersTree}
use Rattle.c_syntax.specs.Views.{words_tree, optional_of}
use Rattle.c_typed.specs.declared.c_type.CType as number
use Rattle.c_typed.specs.declared.c_type.Parameters as numbers
use Rattle.c_typed.specs.Types.{CType}
use Rattle.c_typed.specs.Table.{Interned, type_in}
use Rattle.c_rules.specs.Known.{Checked, Known, known_already, give, also, given, with_known}
use Rattle.c_rules.specs.Operators.{Condition}
use Rattle.c_rules.specs.Expressions as rules
use Rattle.c_types_state.specs.declared.known.Condition as memory_condition
use Rattle.c_types_state.specs.declared.known.Known as memory_known
use Rattle.c_types_state.specs.NameTables.{State, scope_of}
use Rattle.c_types_state.specs.Finding.{Finds, IsExpr, IsType, IsTypes, expr_in, condition_in, each_in}
use Rattle.c_types_state.specs.Staying.{IsSame}
use Rattle.c_types_state.specs.declared.operands.Operand as memory_operand
use Rattle.c_types_state.specs.declared.targets.Target as memory_target
use Rattle.c_types_state.specs.Operands.{operand_in, target_in}
use Rattle.c_types_expressions.specs.declared.calls.Argument as memory_argument
use Rattle.c_types_expressions.specs.declared.pass.Pass.{Pass}
use Rattle.c_types_expressions.specs.declared.role.LengthRole as memory_role
use Rattle.c_types_expressions.specs.Roles.{role_of}
use Rattle.c_rules.specs.Named.{named_at, named_in, named_in_arguments, named_in_type, named_in_optional, named_in_declarator, named_in_suffixes}
use Rattle.c_types_expressions.specs.Passes.{Names, Passes, IsArguments, arguments_checked, parameter_list}
use Rattle.c_types_expressions.specs.Forms.{called, named_in_call}
use Rattle.c_types_expressions.specs.Derived.{SameNames}
use Rattle.c_types_expressions.specs.Suffixes.{SuffixTree, suffix_type, named_in_suffix, named_in_list_of, parameter_rule, named_parameter}

-- ---- expressions

abbrev pub PassesExpr : ExprTree → Pass → Pass → Option memory_known.Known → Type 0
PassesExpr tree old new result = Passes IsExpr (rules.expr (scope_of old.checker) tree) (named_in (scope_of old.checker) tree) old new result

-- a call
abbrev pub PassesCall : ExprTree → ArgumentsTree → Pass → Pass → Option memory_known.Known → Type 0
PassesCall function arguments old new result =
    Passes IsExpr (called (scope_of old.checker) function arguments) (named_in_call (scope_of old.checker) function arguments) old new result

-- its arguments
abbrev pub PassesArguments : {Z : Type 0} → ArgumentsTree → Pass → Pass → Vec memory_argument.Argument Z → Type 0
PassesArguments tree old new made =
    Passes IsArguments (arguments_checked (rules.argument_values (scope_of old.checker) tree)) (named_in_arguments (scope_of old.checker) tree) old new (Some made)

-- ---- names of types, and declarators

abbrev pub PassesTypeName : TypeTree → Pass → Pass → Option number.CType → Type 0
PassesTypeName tree old new result = Passes IsType (rules.type_named (scope_of old.checker) tree) (named_in_type (scope_of old.checker) tree) old new result

-- a declarator that may be left out, where the words before it name this type
abbrev pub PassesOptional : Pos → memory_role.LengthRole → Option number.CType → OptionalTree → Pass → Pass → Option number.CType → Type 0
PassesOptional here role base tree old new result =
    Passes IsType (rules.optional_type (scope_of old.checker) here (role_of role) (known_already (each_in type_in old.checker.table base)) tree) (named_in_optional (scope_of old.checker) tree) old new result

-- one that stands there
abbrev pub PassesDeclarator : Pos → memory_role.LengthRole → Option number.CType → DeclaratorTree → Pass → Pass → Option number.CType → Type 0
PassesDeclarator here role base tree old new result =
    Passes IsType (rules.declared_type (scope_of old.checker) here (role_of role) (each_in type_in old.checker.table base) tree) (named_in_declarator (scope_of old.checker) tree) old new result

-- what follows in it
abbrev pub PassesSuffixes : Pos → memory_role.LengthRole → Option number.CType → SuffixesTree → Pass → Pass → Option number.CType → Type 0
PassesSuffixes here role base tree old new result =
    Passes IsType (rules.suffixes_type (scope_of old.checker) here (role_of role) (each_in type_in old.checker.table base) tree) (named_in_suffixes (scope_of old.checker) tree) old new result

-- one thing that follows
abbrev pub PassesSuffix : Pos → memory_role.LengthRole → Option number.CType → SuffixTree → Pass → Pass → Option number.CType → Type 0
PassesSuffix here role inner tree old new result =
    Passes IsType (suffix_type (scope_of old.checker) here (role_of role) tree (known_already (each_in type_in old.checker.table inner))) (named_in_suffix (scope_of old.checker) tree) old new result

-- a length that stands there
abbrev pub PassesLength : Pos → ExprTree → Pass → Pass → Option ℕ → Type 0
PassesLength here value old new result =
    Passes IsSame (given (rules.as_constant (rules.place_of value) (rules.expr (scope_of old.checker) value)) (rules.positive here)) (named_in (scope_of old.checker) value) old new result

-- the parameters of a function
abbrev pub PassesParameters : ParametersTree → Pass → Pass → Option numbers.Parameters → Type 0
PassesParameters tree old new result = Passes IsTypes (parameter_list (scope_of old.checker) tree) (named_in_list_of (scope_of old.checker) tree) old new result

-- one of them, behind others of these names
abbrev pub PassesParameter : List (List ℕ) → memory_parameter.Parameter → Pass → Pass → Option number.CType → Type 0
PassesParameter names parameter old new result =
    Passes IsType (parameter_rule (scope_of old.checker) names (words_tree (out-Parameter parameter).simple) (optional_of (out-Parameter parameter).declarator))
    (named_parameter (scope_of old.checker) (words_tree (out-Parameter parameter).simple) (optional_of (out-Parameter parameter).declarator)) old new result

-- its name
abbrev pub parameter_name : memory_parameter.Parameter → Option NameTree
parameter_name parameter = rules.optional_name (optional_of (out-Parameter parameter).declarator)

-- a type that is named there, where it has one
abbrev pub NamesAt : Pos → Option number.CType → Pass → Pass → Type 0
NamesAt place c_type old new = Names (named_at place (each_in type_in old.checker.table c_type)) old.checker.table old.named.items new.named.items

-- ---- parts that may not be known

-- by a rule for a type
abbrev pub OfType : {A B : Type 0} → (Interned → B → A → Type 0) → (CType → Checked A) → Option number.CType → State → State → Option B → Type 0
OfType Is rule c_type old new result = Finds Is (with_known (each_in type_in old.table c_type) rule) old new result

-- by a rule for an expression
abbrev pub OfExpr : (Known → Checked Known) → Option memory_known.Known → State → State → Option memory_known.Known → Type 0
OfExpr rule part old new result = Finds IsExpr (with_known (each_in expr_in old.table part) rule) old new result

-- by a rule for an operand
abbrev pub OfOperand : (Known → Checked Known) → Option memory_operand.Operand → State → State → Option memory_known.Known → Type 0
OfOperand rule part old new result = Finds IsExpr (with_known (each_in operand_in old.table part) rule) old new result

-- by one for two of them
abbrev pub OfOperands : (Known → Known → Checked Known) → Option memory_operand.Operand → Option memory_operand.Operand → State → State → Option memory_known.Known → Type 0
OfOperands rule left right old new result =
    Finds IsExpr (with_known (each_in operand_in old.table left) (λ a. with_known (each_in operand_in old.table right) (rule a))) old new result

-- by one for a type and an operand
abbrev pub OfCast : (CType → Known → Checked Known) → Option number.CType → Option memory_operand.Operand → State → State → Option memory_known.Known → Type 0
OfCast rule c_type operand old new result =
    Finds IsExpr (with_known (each_in type_in old.table c_type) (λ t. with_known (each_in operand_in old.table operand) (rule t))) old new result

-- by one for a condition and two operands
abbrev pub OfChoice : (Condition → Known → Known → Checked Known) → Option memory_condition.Condition → Option memory_operand.Operand → Option memory_operand.Operand → State → State → Option memory_known.Known → Type 0
OfChoice rule condition taken otherwise old new result =
    Finds IsExpr (with_known (each_in condition_in old.table condition) (λ c. with_known (each_in operand_in old.table taken) (λ a. with_known (each_in operand_in old.table otherwise) (rule c a)))) old new result

-- by one for an object and an operand
abbrev pub OfTarget : (Known → Known → Checked Known) → Option memory_target.Target → Option memory_operand.Operand → State → State → Option memory_known.Known → Type 0
OfTarget rule target operand old new result =
    Finds IsExpr (with_known (each_in target_in old.table target) (λ object. with_known (each_in operand_in old.table operand) (rule object))) old new result

-- ---- names of parameters

-- whether a name clashes with one of these
abbrev pub NotesName : List (List ℕ) → Option NameTree → State → State → Type 0
NotesName names name old new = Finds IsSame (also (rules.name_clash names name) (give (tt {0}))) old new (Some (tt {0}))

-- it is added to them, in whatever order
abbrev pub AddsName : List (List ℕ) → List (List ℕ) → Option NameTree → Type 0
AddsName old new name = SameNames new (rules.with_name name old)
