-- The types that a text names, each with its place: that of a declared name, or of a type name's first token.
use Rattle.std.specs.Prelude.{if◌then◌else◌, List, [], ◌∷◌, ◌++◌, Option, Some, None}
use Rattle.run_theory.specs.declared.place.Pos.{Pos}
use Rattle.c_syntax.specs.Trees
use Rattle.c_syntax.specs.Trees.{WordsTree, ExprTree, ArgumentsTree, TypeTree, OptionalTree, DeclaratorTree, DirectTree, SuffixesTree, LengthTree, ParametersTree}
use Rattle.c_typed.specs.Types.{CType}
use Rattle.c_rules.specs.Names.{Scope}
use Rattle.c_rules.specs.Known.{given}
use Rattle.c_rules.specs.Expressions.{Required, Adjusted, words_type, optional_type, parameter_type, optional_name, name_place, is_void_alone}

pub record NamedType : Type 0 where
  pub place : Pos
  pub c_type : CType

-- a type that is named there, where it has one
abbrev pub named_at : Pos → Option CType → List NamedType
named_at place None = []
named_at place (Some c_type) = record { place = place; c_type = c_type } ∷ []

-- a parameter's own type: that of an array is a pointer to its elements (C17 6.7.6.3 paragraph 7)
abbrev pub parameter_named : Scope → WordsTree → OptionalTree → Pos → List NamedType
parameter_named scope words declarator here = named_at here (given (optional_type scope here Adjusted (words_type scope words) declarator) (parameter_type scope here)).known

abbrev mutual
  pub named_in : Scope → ExprTree → List NamedType
  named_in scope (Trees.Parenthesized place inner) = named_in scope inner
  named_in scope (Trees.Index array index) = named_in scope array ++ named_in scope index
  named_in scope (Trees.Call function open_place arguments) = named_in_arguments scope arguments ++ named_in scope function
  named_in scope (Trees.Member object member) = named_in scope object
  named_in scope (Trees.PointerMember pointer member) = named_in scope pointer
  named_in scope (Trees.PostIncrement operand) = named_in scope operand
  named_in scope (Trees.PostDecrement operand) = named_in scope operand
  named_in scope (Trees.Prefix operator place operand) = named_in scope operand
  named_in scope (Trees.SizeofExpr place operand) = named_in scope operand
  named_in scope (Trees.SizeofType place type_name) = named_in_type scope type_name
  named_in scope (Trees.Cast place type_name operand) = named_in_type scope type_name ++ named_in scope operand
  named_in scope (Trees.Binary operator left right) = named_in scope left ++ named_in scope right
  named_in scope (Trees.Conditional condition taken otherwise) = (named_in scope condition ++ named_in scope taken) ++ named_in scope otherwise
  named_in scope (Trees.Assign operator object value) = named_in scope object ++ named_in scope value
  named_in scope _ = []

  pub named_in_arguments : Scope → ArgumentsTree → List NamedType
  named_in_arguments scope Trees.NoArguments = []
  named_in_arguments scope (Trees.Argument value others) = named_in scope value ++ named_in_arguments scope others

  pub named_in_type : Scope → TypeTree → List NamedType
  named_in_type scope (Trees.TypeName words declarator) = named_in_optional scope declarator ++ named_at words.place (optional_type scope words.place Required (words_type scope words) declarator).known

  pub named_in_optional : Scope → OptionalTree → List NamedType
  named_in_optional scope Trees.NoDeclarator = []
  named_in_optional scope (Trees.Declared declarator) = named_in_declarator scope declarator

  pub named_in_declarator : Scope → DeclaratorTree → List NamedType
  named_in_declarator scope (Trees.Declarator stars direct suffixes) = named_in_suffixes scope suffixes ++ named_in_direct scope direct

  pub named_in_direct : Scope → DirectTree → List NamedType
  named_in_direct scope (Trees.Nested declarator) = named_in_declarator scope declarator
  named_in_direct scope _ = []

  pub named_in_suffixes : Scope → SuffixesTree → List NamedType
  named_in_suffixes scope Trees.NoSuffixes = []
  named_in_suffixes scope (Trees.ArraySuffix length others) = named_in_suffixes scope others ++ named_in_length scope length
  named_in_suffixes scope (Trees.FunctionSuffix parameters others) = named_in_suffixes scope others ++ (if is_void_alone parameters then [] else named_in_parameters scope parameters)

  pub named_in_length : Scope → LengthTree → List NamedType
  named_in_length scope Trees.NoLength = []
  named_in_length scope (Trees.ArrayLength value) = named_in scope value

  pub named_in_parameters : Scope → ParametersTree → List NamedType
  named_in_parameters scope Trees.NoParameters = []
  named_in_parameters scope (Trees.Parameter words declarator others) =
      (named_in_optional scope declarator ++ parameter_named scope words declarator (name_place (optional_name declarator) words.place)) ++ named_in_parameters scope others
