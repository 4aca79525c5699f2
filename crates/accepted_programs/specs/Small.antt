-- Types whose parts all have exact sizes, and what is made of such types alone.
use Rattle.std.specs.Prelude.{◌≡◌, Bool, true, ◌&&◌, List, [], ◌∷◌, Option, Some, None}
use Rattle.c_typed.specs.Types.{CType, CTypes, Pointer, Array, Function, NoTypes, MoreTypes, literal_type}
use Rattle.c_typed.specs.Layouts.{StructDef, MemberDef}
use Rattle.c_typed.specs.Typed.{LiteralDef}
use Rattle.c_typed.specs.Sizes.{is_small, makes, object_makes, designator_makes}
use Rattle.c_rules.specs.Names.{Scope, FileName, LocalName, Meaning, Local, Outer, Library, locals_in}
use Rattle.c_rules.specs.Known.{Checked, Known, TypedExpr, OfValue, OfObject, OfFunction, OfLibrary}
use Rattle.c_rules.specs.Operators.{ArgumentValue}
use Rattle.c_rules.specs.Named.{NamedType}

-- what is known has this property
abbrev pub IfKnown : {A : Type 0} → (A → Type 0) → Option A → Type 0
IfKnown kind None = Unit {0}
IfKnown kind (Some a) = kind a

pub record Knows {A : Type 0} (kind : A → Type 0) (checked : Checked A) : Type 0 where
  pub holds : IfKnown kind checked.known

-- each of a list has it
abbrev pub Every : {A : Type 0} → (A → Type 0) → List A → Type 0
Every kind [] = Unit {0}
Every kind (first ∷ others) = kind first × Every kind others

-- by the layouts of these structures
module _ (structs : List StructDef) where
  -- Each part of the type has an exact size.
  abbrev mutual
    pub small_type : CType → Bool
    small_type (Pointer target) = small_type target
    small_type (Array element n) = is_small structs (Array element n) && small_type element
    small_type (Function result parameters) = small_type result && small_types parameters
    small_type c_type = is_small structs c_type

    pub small_types : CTypes → Bool
    small_types NoTypes = true
    small_types (MoreTypes first others) = small_type first && small_types others

  abbrev pub IsSmall : CType → Type 0
  IsSmall c_type = small_type c_type ≡ true

  -- the types that a text names, and those of its literals
  abbrev pub NamedSmall : NamedType → Type 0
  NamedSmall named = IsSmall named.c_type

  abbrev pub LiteralSmall : LiteralDef → Type 0
  LiteralSmall literal = IsSmall (literal_type literal.bytes)

  -- names in scope
  abbrev pub LocalSmall : LocalName → Type 0
  LocalSmall local = IfKnown IsSmall local.c_type

  abbrev pub EntrySmall : FileName → Type 0
  EntrySmall entry = IfKnown IsSmall entry.c_type

  abbrev pub MemberSmall : MemberDef → Type 0
  MemberSmall member = IfKnown IsSmall member.c_type

  abbrev pub StructSmall : StructDef → Type 0
  StructSmall struct = Every MemberSmall struct.members

  pub record SmallNames (scope : Scope) : Type 0 where
    pub locals : Every LocalSmall (locals_in scope)
    pub file : Every EntrySmall scope.file
    pub members : Every StructSmall scope.structs

  abbrev pub MeaningSmall : Meaning → Type 0
  MeaningSmall (Local number c_type) = IfKnown IsSmall c_type
  MeaningSmall (Outer c_type) = IfKnown IsSmall c_type
  MeaningSmall (Library function c_type) = IsSmall c_type
  MeaningSmall _ = Unit {0}

  -- expressions
  abbrev pub typed_small : TypedExpr → Bool
  typed_small (OfValue value) = makes (is_small structs) value
  typed_small (OfObject object) = object_makes (is_small structs) object
  typed_small (OfFunction function) = designator_makes (is_small structs) function
  typed_small (OfLibrary function groups) = true

  abbrev pub KnownSmall : Known → Type 0
  KnownSmall known = IsSmall known.c_type × (typed_small known.typed ≡ true)

  abbrev pub ArgumentSmall : ArgumentValue → Type 0
  ArgumentSmall argument = IfKnown KnownSmall argument.value
