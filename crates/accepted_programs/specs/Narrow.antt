-- Types whose function types all have few parameters, and what is made of such types alone.
use Rattle.std.specs.Prelude.{⊤, ◌≤◌}
use Rattle.c_typed.specs.Types.{CType, CTypes, Pointer, Array, Function, NoTypes, MoreTypes}
use Rattle.c_typed.specs.Layouts.{StructDef, MemberDef}
use Rattle.c_typed.specs.TypedArguments.{ValueFew, ObjectFew, DesignatorFew}
use Rattle.c_rules.specs.Names.{Scope, FileName, LocalName, Meaning, Local, Outer, Library, locals_in}
use Rattle.c_rules.specs.Known.{Known, TypedExpr, OfValue, OfObject, OfFunction, OfLibrary}
use Rattle.c_rules.specs.Operators.{ArgumentValue}
use Rattle.c_rules.specs.Named.{NamedType}
use Rattle.c_types.specs.Limits.{count_types}
use Rattle.accepted_programs.specs.Small.{IfKnown, Every}

-- Each function type that is a part of the type has few parameters.
abbrev mutual
  pub IsNarrow : CType → Type 0
  IsNarrow (Pointer target) = IsNarrow target
  IsNarrow (Array element n) = IsNarrow element
  IsNarrow (Function result parameters) = (IsNarrow result × AreNarrow parameters) × (count_types parameters ≤ 64)
  IsNarrow c_type = ⊤

  pub AreNarrow : CTypes → Type 0
  AreNarrow NoTypes = ⊤
  AreNarrow (MoreTypes first others) = IsNarrow first × AreNarrow others

-- the types that a text names
abbrev pub NamedNarrow : NamedType → Type 0
NamedNarrow named = IsNarrow named.c_type

-- names in scope
abbrev pub LocalNarrow : LocalName → Type 0
LocalNarrow local = IfKnown IsNarrow local.c_type

abbrev pub EntryNarrow : FileName → Type 0
EntryNarrow entry = IfKnown IsNarrow entry.c_type

abbrev pub MemberNarrow : MemberDef → Type 0
MemberNarrow member = IfKnown IsNarrow member.c_type

abbrev pub StructNarrow : StructDef → Type 0
StructNarrow struct = Every MemberNarrow struct.members

pub record NarrowNames (scope : Scope) : Type 0 where
  pub locals : Every LocalNarrow (locals_in scope)
  pub file : Every EntryNarrow scope.file
  pub members : Every StructNarrow scope.structs

abbrev pub MeaningNarrow : Meaning → Type 0
MeaningNarrow (Local number c_type) = IfKnown IsNarrow c_type
MeaningNarrow (Outer c_type) = IfKnown IsNarrow c_type
MeaningNarrow (Library function c_type) = IsNarrow c_type
MeaningNarrow _ = ⊤

-- expressions
abbrev pub TypedFew : TypedExpr → Type 0
TypedFew (OfValue value) = ValueFew value
TypedFew (OfObject object) = ObjectFew object
TypedFew (OfFunction function) = DesignatorFew function
TypedFew (OfLibrary function groups) = ⊤

abbrev pub KnownNarrow : Known → Type 0
KnownNarrow known = IsNarrow known.c_type × TypedFew known.typed

abbrev pub ArgumentNarrow : ArgumentValue → Type 0
ArgumentNarrow argument = IfKnown KnownNarrow argument.value
