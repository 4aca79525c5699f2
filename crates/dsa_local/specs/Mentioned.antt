-- Variables outside functions and literals with which the paths of functions begin.
use Rattle.std.specs.Prelude.{ℕ, ◌==◌, Bool, false, List, Option, Some, None}
use Rattle.std.specs.List.{list_any}
use Rattle.tac_ir.specs.Code as O
use Rattle.tac_ir.specs.Code.{Base, AtGlobal, AtLiteral, Path, Op, Tac}
use Rattle.tac_ir.specs.States.{Owner, function_of, points_of}
use Rattle.heap_graph.specs.Escaping.{same_owner}

-- the path of a point that has one
abbrev pub path_of : Op → Option Path
path_of (O.AddressOf to path) = Some path
path_of (O.Load to scalar path) = Some path
path_of (O.Store path scalar value) = Some path
path_of op = None

abbrev pub is_global : ℕ → Base → Bool
is_global number (AtGlobal other) = other == number
is_global number base = false

abbrev pub is_literal : ℕ → Base → Bool
is_literal number (AtLiteral other) = other == number
is_literal number base = false

abbrev pub path_begins : (Base → Bool) → Option Path → Bool
path_begins test None = false
path_begins test (Some path) = test path.base

-- a point has a path that begins so
abbrev pub op_begins : (Base → Bool) → Op → Bool
op_begins test op = path_begins test (path_of op)

-- so has one of the functions
abbrev pub owner_begins : (Base → Bool) → Tac → Owner → Bool
owner_begins test tac owner = list_any (op_begins test) (points_of (function_of tac owner))

abbrev pub any_begins : (Base → Bool) → Tac → List Owner → Bool
any_begins test tac owners = list_any (owner_begins test tac) owners

-- it is one of the functions
abbrev pub is_among : Owner → List Owner → Bool
is_among owner owners = list_any (λ other. same_owner other owner) owners
