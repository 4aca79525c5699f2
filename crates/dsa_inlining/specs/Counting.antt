-- How many nodes the graph of a group has before any of them are merged: what its functions count by themselves, the variables outside functions
-- and the literals that it mentions or that what it calls does, and for each call out of it, and each function to which that may come, the
-- nodes that escape that function.
use Rattle.std.specs.Prelude.{ℕ, zero, suc, ◌+◌, ◌==◌, Bool, true, false, ◌&&◌, ◌||◌, if◌then◌else◌, List, [], ◌∷◌, length, Option, Some, None}
use Rattle.std.specs.List.{list_any}
use Rattle.c_typed.specs.Values as first
use Rattle.c_typed.specs.Typed.{GlobalDef}
use Rattle.tac_ir.specs.Code as O
use Rattle.tac_ir.specs.Code.{Base, Callee, Op, Tac}
use Rattle.tac_ir.specs.States.{Owner, InStart, function_of, points_of}
use Rattle.tac_ir.specs.Targets.{is_target}
use Rattle.heap_graph.specs.Graphs.{Name, OfGlobal, OfLiteral}
use Rattle.graph_unification.specs.GraphPremises.First.{base_of}
use Rattle.dsa_local.specs.Mentioned.{is_global, is_literal, op_begins}

-- how many numbers below one pass a test
abbrev pub count_below : ℕ → (ℕ → Bool) → ℕ
count_below zero test = 0
count_below (suc count) test = if test count then suc (count_below count test) else count_below count test

abbrev pub total : {X : Type 0} → (X → ℕ) → List X → ℕ
total of [] = 0
total of (first ∷ others) = of first + total of others

-- some number below one passes a test
abbrev pub any_below : ℕ → (ℕ → Bool) → Bool
any_below zero test = false
any_below (suc count) test = test count || any_below count test

-- What is known of functions outside the group: how many nodes escape each, and of which variables outside functions and literals its graph
-- tells.
pub record Outside : Type 0 where
  pub is_out : ℕ → Bool
  pub escaping : ℕ → ℕ
  pub tells : ℕ → Name → Bool

module _ (tac : Tac) (outside : Outside) where
  -- ---- calls

  -- the function is outside the group, and the call may come to it
  abbrev pub comes_out : Callee → ℕ → Bool
  comes_out callee number = is_target tac callee number && outside.is_out number

  -- the nodes that escape these functions, of the first so many
  abbrev pub copies_to : ℕ → Callee → ℕ
  copies_to zero callee = 0
  copies_to (suc count) callee = (if comes_out callee count then outside.escaping count else 0) + copies_to count callee

  abbrev pub copies_of : Op → ℕ
  copies_of (O.Call site callee arguments) = copies_to (length tac.functions) callee
  copies_of op = 0

  -- ---- variables outside functions and literals

  -- what is called outside the group tells of the name
  abbrev pub call_tells : Name → Op → Bool
  call_tells name (O.Call site callee arguments) = any_below (length tac.functions) (λ number. comes_out callee number && outside.tells number name)
  call_tells name op = false

  abbrev pub mentions : (Base → Bool) → Name → Op → Bool
  mentions begins name op = op_begins begins op || call_tells name op

  -- points of the owners do, or what is told beside (first values, for `start`)
  abbrev pub is_mentioned : (Base → Bool) → Name → List Owner → Bool
  is_mentioned begins name owners = list_any (λ owner. list_any (mentions begins name) (points_of (function_of tac owner))) owners

  abbrev pub copies_in : Owner → ℕ
  copies_in owner = total copies_of (points_of (function_of tac owner))

  -- ---- groups

  abbrev pub globals_counted : (ℕ → Bool) → List Owner → ℕ
  globals_counted beside owners = count_below (length tac.globals) (λ number. beside number || is_mentioned (is_global number) (OfGlobal number) owners)

  abbrev pub literals_counted : (ℕ → Bool) → List Owner → ℕ
  literals_counted beside owners = count_below (length tac.literals) (λ number. beside number || is_mentioned (is_literal number) (OfLiteral number) owners)

  -- the functions of a group, which count so much by themselves
  abbrev pub group_count : ℕ → List Owner → ℕ
  group_count own owners = own + (total copies_in owners + (globals_counted (λ number. false) owners + literals_counted (λ number. false) owners))

-- ---- first values

abbrev pub begins_at : (Base → Bool) → Option Base → Bool
begins_at test None = false
begins_at test (Some base) = test base

-- a first value points into an object
abbrev pub points_at : Tac → (Base → Bool) → first.FirstScalar → Bool
points_at tac test (first.PointerValue place) = begins_at test (base_of tac place.root)
points_at tac test value = false

abbrev pub held_at : Tac → (Base → Bool) → first.Held → Bool
held_at tac test held = points_at tac test held.value

abbrev pub has_values : List first.Held → Bool
has_values [] = false
has_values (first ∷ others) = true

-- a variable from a number on that has first values, of which one points into an object, or whose number is told
abbrev pub first_mentions : Tac → (Base → Bool) → (ℕ → Bool) → ℕ → List GlobalDef → Bool
first_mentions tac test own number [] = false
first_mentions tac test own number (global ∷ others) = (has_values global.first && own number) || (list_any (held_at tac test) global.first || first_mentions tac test own (suc number) others)

abbrev pub first_global : Tac → ℕ → Bool
first_global tac number = first_mentions tac (is_global number) (λ other. other == number) 0 tac.globals

abbrev pub first_literal : Tac → ℕ → Bool
first_literal tac number = first_mentions tac (is_literal number) (λ other. false) 0 tac.globals

-- `start`, whose first values count so much by themselves
abbrev pub start_count : Tac → Outside → ℕ → ℕ
start_count tac outside own =
    own + (total (copies_in tac outside) (InStart ∷ []) + (globals_counted tac outside (first_global tac) (InStart ∷ []) + literals_counted tac outside (first_literal tac) (InStart ∷ [])))
