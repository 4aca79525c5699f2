-- Types whose arrays have elements, each of a complete type, and what is made of such types alone.
use Rattle.std.specs.Prelude.{◌≡◌, ℕ, Bool, true, ◌&&◌, nat_lt, List, Some}
use Rattle.c_typed.specs.Types.{CType, CTypes, Pointer, Array, Function, NoTypes, MoreTypes}
use Rattle.c_typed.specs.Layouts.{StructDef, MemberDef, is_complete, members_by_tag}
use Rattle.c_typed.specs.Sizes.{makes, object_makes, designator_makes, fills}
use Rattle.c_rules.specs.Names.{Scope, FileName, LocalName, Meaning, Local, Outer, Library, locals_in}
use Rattle.c_rules.specs.Known.{Known, TypedExpr, OfValue, OfObject, OfFunction, OfLibrary}
use Rattle.c_rules.specs.Operators.{ArgumentValue}
use Rattle.accepted_programs.specs.Knows.{IfKnown, Every}

-- by these structures
module _ (structs : List StructDef) where
  -- each array in it, or behind its pointers, has an element, of a complete type
  abbrev mutual
    pub is_whole : CType → Bool
    is_whole (Pointer target) = is_whole target
    is_whole (Array element n) = (nat_lt 0 n && is_complete structs element) && is_whole element
    is_whole (Function result parameters) = is_whole result && are_whole parameters
    is_whole c_type = true

    pub are_whole : CTypes → Bool
    are_whole NoTypes = true
    are_whole (MoreTypes first others) = is_whole first && are_whole others

  abbrev pub IsWhole : CType → Type 0
  IsWhole c_type = is_whole c_type ≡ true

  -- names in scope
  abbrev pub LocalFilled : LocalName → Type 0
  LocalFilled local = IfKnown IsWhole local.c_type

  abbrev pub EntryFilled : FileName → Type 0
  EntryFilled entry = IfKnown IsWhole entry.c_type

  abbrev pub MemberFilled : MemberDef → Type 0
  MemberFilled member = IfKnown IsWhole member.c_type

  abbrev pub StructFilled : StructDef → Type 0
  StructFilled struct = Every MemberFilled struct.members

  pub record FilledNames (scope : Scope) : Type 0 where
    pub locals : Every LocalFilled (locals_in scope)
    pub file : Every EntryFilled scope.file
    pub members : Every StructFilled scope.structs
    -- what is completed stays so
    pub keeps : (tag : List ℕ) (members : List MemberDef) → members_by_tag scope.structs tag ≡ Some members → members_by_tag structs tag ≡ Some members

  abbrev pub MeaningFilled : Meaning → Type 0
  MeaningFilled (Local number c_type) = IfKnown IsWhole c_type
  MeaningFilled (Outer c_type) = IfKnown IsWhole c_type
  MeaningFilled (Library function c_type) = IsWhole c_type
  MeaningFilled _ = Unit {0}

  -- expressions
  abbrev pub typed_filled : TypedExpr → Bool
  typed_filled (OfValue value) = makes (fills structs) value
  typed_filled (OfObject object) = object_makes (fills structs) object
  typed_filled (OfFunction function) = designator_makes (fills structs) function
  typed_filled (OfLibrary function groups) = true

  abbrev pub KnownFilled : Known → Type 0
  KnownFilled known = IsWhole known.c_type × (typed_filled known.typed ≡ true)

  abbrev pub ArgumentFilled : ArgumentValue → Type 0
  ArgumentFilled argument = IfKnown KnownFilled argument.value
