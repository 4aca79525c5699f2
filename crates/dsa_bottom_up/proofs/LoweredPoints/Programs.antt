-- The three-address code of a well typed program stands as its heap graphs need it.
use Rattle.std.proofs.Common.{◌≡◌, ℕ, zero, suc, true, ◌&&◌, List, [], ◌∷◌, Some, refl, sym, subst, arith}
use Rattle.std.specs.Prelude.{slice_get}
use Rattle.std.proofs.lemmas.Bool.{and_parts}
use Rattle.std.proofs.lemmas.Option.{none-some, same_Some}
use Rattle.c_typed.specs.Types.{CType}
use Rattle.c_typed.specs.Layouts.{StructDef, is_complete}
use Rattle.c_typed.specs.Typed.{GlobalDef, Program}
use Rattle.c_typed.specs.Programs.{are_structs, all_complete, all_listed, all_held, is_global, are_globals, are_functions, has_main, IsWellTyped}
use Rattle.c_typed.specs.Sizes.{functions_make, globals_make, literals_make, are_filled, is_small, fills, is_storable, HasStorableTypes}
use Rattle.tac_ir.specs.Code.{Function, Tac}
use Rattle.tac_ir.specs.States.{Owner, InStart, InFunction, function_of}
use Rattle.tac_build.specs.ProgramCode.{Code}
use Rattle.heap_graph.specs.Structures.{AreMade}
use Rattle.graph_unification.specs.Standing.{HasSlot, FunctionStands, CodeStands}
use Rattle.graph_unification.specs.GraphPremises.First.{ProgramStands}
use Rattle.dsa_bottom_up.specs.Counted.{HaveFewSlots}
use Rattle.dsa_bottom_up.proofs.Slots.{filling_slots, are_made}
use Rattle.dsa_bottom_up.proofs.Paths.{IsOf}
use Rattle.dsa_bottom_up.proofs.LoweredPoints.Statements.{elements_slots}
use Rattle.dsa_bottom_up.proofs.LoweredPoints.Functions.{function_stands, parameters_told, IsDefined, defined, start_stands}
use Rattle.dsa_bottom_up.proofs.First.{first_stand, calls_by_name}

complete_slot : (structs : List StructDef) → are_filled structs ≡ true → (t : CType) → is_complete structs t ≡ true → is_storable structs t ≡ true → HasSlot structs t
complete_slot structs filled t complete store =
    let some = filling_slots structs filled t (and_parts (is_small structs t) (fills structs t) store).1 complete in
    let same = elements_slots structs t in
    omega (arith, some, same)

global_slot : (program : Program) → are_filled program.structs ≡ true → (globals : List GlobalDef) → are_globals program globals ≡ true → globals_make (is_storable program.structs) globals ≡ true
    → (number : ℕ) (global : GlobalDef) → slice_get globals number ≡ Some global → HasSlot program.structs global.c_type
global_slot program filled [] typed make number global there = absurd (none-some global there)
global_slot program filled (first ∷ others) typed make zero global there =
    let parts = and_parts (is_global program first) (are_globals program others) typed in
    let made = and_parts (is_storable program.structs first.c_type) (globals_make (is_storable program.structs) others) make in
    let own = and_parts (is_complete program.structs first.c_type) (all_held program first.c_type first.first) parts.0 in
    subst (λ (one : GlobalDef). HasSlot program.structs one.c_type) (same_Some first global there) (complete_slot program.structs filled first.c_type own.0 made.0)
global_slot program filled (first ∷ others) typed make (suc number) global there =
    let parts = and_parts (is_global program first) (are_globals program others) typed in
    let made = and_parts (is_storable program.structs first.c_type) (globals_make (is_storable program.structs) others) make in
    global_slot program filled others parts.1 made.1 number global there

module _ (program : Program) (tac : Tac) (code : Code program tac) (well : IsWellTyped program) (storable : HasStorableTypes program) (few : HaveFewSlots program.structs) where
  record Typed : Type 0 where
    structs : are_structs program.structs ≡ true
    globals : are_globals program program.globals ≡ true
    functions : are_functions program program.functions ≡ true

  typed : Typed
  typed =
      let a = are_structs program.structs in
      let b = all_complete program.structs program.completed in
      let c = all_listed program.completed program.structs in
      let d = are_globals program program.globals in
      let e = are_functions program program.functions in
      let all = and_parts (a && b && c && d && e) (has_main program) well in
      let fifth = and_parts (a && b && c && d) e all.0 in
      let fourth = and_parts (a && b && c) d fifth.0 in
      let third = and_parts (a && b) c fourth.0 in
      record { structs = (and_parts a b third.0).0; globals = fourth.1; functions = fifth.1 }

  record Stored : Type 0 where
    globals : globals_make (is_storable program.structs) program.globals ≡ true
    functions : functions_make (is_storable program.structs) program.functions ≡ true

  stored : Stored
  stored =
      let a = globals_make (is_storable program.structs) program.globals in
      let b = literals_make (is_storable program.structs) program.literals in
      let all = and_parts (a && b) (functions_make (is_storable program.structs) program.functions) storable.1 in
      record { globals = (and_parts a b all.0).0; functions = all.1 }

  made : AreMade tac.structs
  made = subst AreMade (sym code.structs) (are_made program.structs typed.structs storable.0 few)

  is_of : (owner : Owner) (function : Function) → function_of tac owner ≡ Some function → IsOf program tac owner function
  is_of owner function here = record {
    structs = code.structs;
    globals = code.globals;
    literals = code.literals;
    here = here;
    made = made;
    filled = subst (λ structs. are_filled structs ≡ true) (sym code.structs) storable.0;
  }

  found : (number : ℕ) (function : Function) → slice_get tac.functions number ≡ Some function → IsDefined program function
  found number function there = defined program program.functions tac.functions number function code.functions there typed.functions stored.functions

  functions_stand : (owner : Owner) (function : Function) → function_of tac owner ≡ Some function → FunctionStands tac owner function
  functions_stand InStart function here = subst (FunctionStands tac InStart) (same_Some tac.start function here) (start_stands program tac code)
  functions_stand (InFunction number) function here =
      let its = found number function here in
      function_stands program tac (InFunction number) function (is_of (InFunction number) function here) its.def its.code its.typed its.make

  -- The code of a program stands that is well typed, whose objects have types with exact sizes and a byte at least, and whose structures
  -- have few slots.
  pub code_stands : CodeStands tac
  code_stands = record {
    made = made;
    functions = functions_stand;
    parameters = λ number function there. let its = found number function there in parameters_told program its.def function its.code its.typed;
    globals = λ number global there.
        subst (λ structs. HasSlot structs global.c_type) (sym code.structs)
        (global_slot program storable.0 program.globals typed.globals stored.globals number global (subst (λ globals. slice_get globals number ≡ Some global) code.globals there));
    literals = λ number literal there. omega arith;
  }

  -- Its first values lie within its variables, and `start` calls functions by their names alone.
  pub program_stands : ProgramStands tac
  program_stands = record { code = code_stands; first = first_stand program tac (is_of InStart tac.start refl) typed.globals; start = calls_by_name program tac code }
