-- What follows in a declarator, one thing at a time.
use Rattle.std.specs.Prelude.{ℕ, if◌then◌else◌, List, [], ◌++◌}
use Rattle.run_theory.specs.declared.place.Pos.{Pos}
use Rattle.c_syntax.specs.declared.expr.Suffix as memory_suffix
use Rattle.c_syntax.specs.declared.expr.Suffix.TheVariants as S
use Rattle.c_syntax.specs.Trees.{WordsTree, OptionalTree, LengthTree, ParametersTree}
use Rattle.c_syntax.specs.Views.{length_tree, parameters_tree}
use Rattle.c_typed.specs.Types.{CType}
use Rattle.c_rules.specs.Names.{Scope}
use Rattle.c_rules.specs.Known.{Checked}
use Rattle.c_rules.specs.Expressions.{LengthRole, Adjusted, array_type, function_type, length_stated, is_void_alone, optional_type, words_type, optional_name, name_place, one_parameter}
use Rattle.c_rules.specs.Named.{NamedType, named_in_length, named_in_parameters, named_in_optional, parameter_named}
use Rattle.c_types_expressions.specs.Passes.{parameter_list}

pub data SuffixTree : Type 0 where
  AnArray : (length : LengthTree) → SuffixTree
  AFunction : (parameters : ParametersTree) → SuffixTree

abbrev pub suffix_of : memory_suffix.Suffix → SuffixTree
suffix_of (S.Array' length) = AnArray (length_tree length)
suffix_of (S.Function' shape parameters) = AFunction (parameters_tree parameters)

-- the type that it makes of the one behind it
abbrev pub suffix_type : Scope → Pos → LengthRole → SuffixTree → Checked CType → Checked CType
suffix_type scope here role (AnArray length) inner = array_type scope here role (length_stated scope length) inner
suffix_type scope here role (AFunction parameters) inner = function_type here (parameter_list scope parameters) inner

-- `(void)` names none
abbrev pub named_in_list_of : Scope → ParametersTree → List NamedType
named_in_list_of scope parameters = if is_void_alone parameters then [] else named_in_parameters scope parameters

abbrev pub named_in_suffix : Scope → SuffixTree → List NamedType
named_in_suffix scope (AnArray length) = named_in_length scope length
named_in_suffix scope (AFunction parameters) = named_in_list_of scope parameters

-- one parameter, behind these names
abbrev pub parameter_rule : Scope → List (List ℕ) → WordsTree → OptionalTree → Checked CType
parameter_rule scope names words declarator =
    one_parameter scope names words declarator (optional_type scope (name_place (optional_name declarator) words.place) Adjusted (words_type scope words) declarator)

abbrev pub named_parameter : Scope → WordsTree → OptionalTree → List NamedType
named_parameter scope words declarator = named_in_optional scope declarator ++ parameter_named scope words declarator (name_place (optional_name declarator) words.place)
