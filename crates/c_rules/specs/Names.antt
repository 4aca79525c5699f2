-- What names mean at a place of the text (C17 6.2.1 to 6.2.3).
use Rattle.std.specs.Prelude.{ℕ, length, Bool, true, false, not, ◌||◌, if◌then◌else◌, List, [], ◌∷◌, ◌++◌, Option, Some, None, bytes_eq, codes}
use Rattle.c_num.specs.declared.IntType.TheVariants as I
use Rattle.c_syntax.specs.Trees.{NameTree}
use Rattle.c_typed.specs.Types.{CType, Void, Integer, Pointer, Function, NoTypes, MoreTypes, int}
use Rattle.c_typed.specs.declared.typed.LibraryFunction.{LibraryFunction}
use Rattle.c_typed.specs.declared.typed.LibraryFunction.TheVariants.{Malloc, Free, GetChar, PutChar, Exit}
use Rattle.c_typed.specs.Layouts.{StructDef}
use Rattle.c_rules.specs.Known.{is_before}

-- a name declared outside functions: its type where it has one, and whether it had an initializer and a body
pub record FileName : Type 0 where
  pub name : List ℕ
  pub c_type : Option CType
  pub has_init : Bool
  pub has_body : Bool

-- a local's name, and its type where it has one
pub record LocalName : Type 0 where
  pub name : List ℕ
  pub c_type : Option CType

-- What is known at a place of the text. Of the whole program: the tags that it declares, each with its first place, the
-- structures that it completes, and the functions that it defines. Of what stands before: the structures completed, the
-- names outside functions, and the locals in scope, the newest first, those of the innermost block apart.
pub record Scope : Type 0 where
  pub tags : List NameTree
  pub completed : List (List ℕ)
  pub defined : List (List ℕ)
  pub structs : List StructDef
  pub file : List FileName
  pub inner : List LocalName
  pub outer : List LocalName

pub data Meaning : Type 0 where
  NoMeaning : Meaning
  Local : (number : ℕ) (c_type : Option CType) → Meaning
  Outer : (c_type : Option CType) → Meaning
  Library : (function : LibraryFunction) (c_type : CType) → Meaning

-- Is the tag declared no later than there?
abbrev pub declares_tag : List NameTree → NameTree → Bool
declares_tag [] use_of = false
declares_tag (tag ∷ others) use_of = if bytes_eq tag.bytes use_of.bytes then not (is_before use_of.place tag.place) else declares_tag others use_of

-- the library functions, which are declared outside of the file
abbrev pub library_type : LibraryFunction → CType
library_type Malloc = Function (Pointer Void) (MoreTypes (Integer I.ULong) NoTypes)
library_type Free = Function Void (MoreTypes (Pointer Void) NoTypes)
library_type GetChar = Function int NoTypes
library_type PutChar = Function int (MoreTypes int NoTypes)
library_type Exit = Function Void (MoreTypes int NoTypes)

abbrev pub library_named : List ℕ → Option LibraryFunction
library_named name =
    if bytes_eq name (codes "malloc") then Some Malloc
    else if bytes_eq name (codes "free") then Some Free
    else if bytes_eq name (codes "getchar") then Some GetChar
    else if bytes_eq name (codes "putchar") then Some PutChar
    else if bytes_eq name (codes "exit") then Some Exit
    else None

abbrev pub is_library : List ℕ → Bool
is_library name = has (library_named name)
  where
    has : Option LibraryFunction → Bool
    has (Some function) = true
    has None = false

abbrev pub file_name : List FileName → List ℕ → Option FileName
file_name [] name = None
file_name (first ∷ others) name = if bytes_eq first.name name then Some first else file_name others name

abbrev pub library_meaning : Option LibraryFunction → Meaning
library_meaning (Some function) = Library function (library_type function)
library_meaning None = NoMeaning

abbrev pub file_meaning : Option FileName → List ℕ → Meaning
file_meaning (Some entry) name = Outer entry.c_type
file_meaning None name = library_meaning (library_named name)

-- The newest local of a name, which hides the others (C17 6.2.1 paragraph 4). It is numbered by how many others are in scope
-- at its declaration, which are those behind it.
abbrev pub local_meaning : List LocalName → List ℕ → Meaning → Meaning
local_meaning [] name outside = outside
local_meaning (newest ∷ others) name outside = if bytes_eq newest.name name then Local (length others) newest.c_type else local_meaning others name outside

-- all locals in scope
abbrev pub locals_in : Scope → List LocalName
locals_in scope = scope.inner ++ scope.outer

abbrev pub meaning_of : Scope → List ℕ → Meaning
meaning_of scope name = local_meaning (locals_in scope) name (file_meaning (file_name scope.file name) name)

-- where a block begins
abbrev pub entered : Scope → Scope
entered scope = record scope { inner = []; outer = locals_in scope }

-- where a function's parameters begin
abbrev pub in_function : Scope → Scope
in_function scope = record scope { inner = []; outer = [] }

-- just behind a declarator, where the scope of its name begins (C17 6.2.1 paragraph 7)
abbrev pub with_local : List ℕ → Option CType → Scope → Scope
with_local name c_type scope = record scope { inner = record { name = name; c_type = c_type } ∷ scope.inner }

abbrev pub has_local : List LocalName → List ℕ → Bool
has_local [] name = false
has_local (newest ∷ others) name = bytes_eq newest.name name || has_local others name

-- Does the innermost block declare the name?
abbrev pub is_local_here : Scope → List ℕ → Bool
is_local_here scope name = has_local scope.inner name

-- a name outside functions, in the place of the same name
abbrev pub with_file_name : FileName → List FileName → List FileName
with_file_name entry [] = entry ∷ []
with_file_name entry (first ∷ others) = if bytes_eq first.name entry.name then entry ∷ others else first ∷ with_file_name entry others
