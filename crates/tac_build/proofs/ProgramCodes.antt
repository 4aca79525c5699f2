-- The code of a program, one function behind another, and where `main` is.
use Rattle.std.proofs.Common.{◌≡◌, ℕ, zero, suc, ◌+◌, ◌≤◌, Bool, true, false, ◌&&◌, if◌then◌else◌, List, [], ◌∷◌, ◌++◌, Option, Some, None, map, append_assoc, refl, sym, ap, ◌∙◌, subst, arith}
use Rattle.std.specs.Prelude.{is_some, bytes_eq, codes}
use Rattle.std.proofs.lemmas.Bool.{and_parts, false≢true}
use Rattle.std.proofs.lemmas.List.{append-nil, map_push}
use Rattle.c_typed.specs.declared.definition.FunctionDef as memory_definition
use Rattle.c_typed.specs.Types.{CType, Function, NoTypes, int, same_type}
use Rattle.c_typed.specs.Table.{Interned}
use Rattle.c_typed.specs.Typed.{FunctionDef, Program}
use Rattle.c_typed.specs.DefinitionViews.{FunctionsStand, function_in}
use Rattle.c_typed.specs.TypedNodes.{block_nodes, functions_nodes, program_nodes, greatest_nodes}
use Rattle.c_typed.specs.Context.{function_type}
use Rattle.c_typed.specs.Programs.{IsWellTyped, are_structs, all_complete, all_listed, are_globals, are_functions, is_function_def, has_main}
use Rattle.tac_ir.specs.declared.program.Function as memory_function
use Rattle.tac_ir.specs.Code as C
use Rattle.tac_ir.specs.Views as tac
use Rattle.tac_build.specs.declared.names.Source.{Source}
use Rattle.tac_build.specs.Code.{function_number}
use Rattle.tac_build.specs.ProgramCode.{FunctionsCode}
use Rattle.tac_build.specs.Lowering.{program_in, types_of_source, IsSource}
use Rattle.tac_build.specs.LoweringDefinitions.{FunctionTyped, FunctionLowers, FunctionsLower}

-- ---- what is known of a well typed program

well_parts : (program : Program) → IsWellTyped program → (are_functions program program.functions ≡ true) × (has_main program ≡ true)
well_parts program well =
    let front = are_structs program.structs && all_complete program.structs program.completed && all_listed program.completed program.structs && are_globals program program.globals in
    let one = and_parts (front && are_functions program program.functions) (has_main program) well in
    ((and_parts front (are_functions program program.functions) one.0).1, one.1)

-- ---- main

abbrev is_main : Option CType → Bool
is_main None = false
is_main (Some c_type) = same_type c_type (Function int NoTypes)

main_from : (program : Program) (known : Option CType) → function_type program.functions (codes "main") ≡ known → has_main program ≡ true → is_main known ≡ true
main_from program None is h = rw is at h
main_from program (Some c_type) is h = rw is at h

-- a name that has a type has a number
numbered : (functions : List FunctionDef) (number : ℕ) (name : List ℕ) (c_type : CType) → function_type functions name ≡ Some c_type → is_some (function_number number functions name) ≡ true
numbered [] number name c_type is = absurd (cc)
numbered (first ∷ others) number name c_type is = by (bytes_eq first.name name) (λ is. numbered others (suc number) name c_type is) is
  where
    by : (b : Bool) → (function_type others name ≡ Some c_type → is_some (function_number (suc number) others name) ≡ true) → (if b then Some first.c_type else function_type others name) ≡ Some c_type → is_some (if b then Some number else function_number (suc number) others name) ≡ true
    by true rest is = refl
    by false rest is = rest is

pub main_there : (program : Program) → IsWellTyped program → is_some (function_number 0 program.functions (codes "main")) ≡ true
main_there program well = by (function_type program.functions (codes "main")) refl
  where
    by : (known : Option CType) → function_type program.functions (codes "main") ≡ known → is_some (function_number 0 program.functions (codes "main")) ≡ true
    by None is = absurd (false≢true (main_from program None is (well_parts program well).1))
    by (Some c_type) is = numbered program.functions 0 (codes "main") c_type is

-- ---- functions

-- the functions of which some are left
pub record FunctionsSoFar (source : Source) (all left : List memory_definition.FunctionDef) (made : List memory_function.Function) : Type 0 where
  pub stand : FunctionsStand (types_of_source source) left
  pub typed : are_functions (program_in source) (map (function_in (types_of_source source)) left) ≡ true
  pub nodes : functions_nodes (map (function_in (types_of_source source)) left) ≤ greatest_nodes
  pub code : (more : List C.Function) → FunctionsCode (program_in source) (map (function_in (types_of_source source)) left) more
      → FunctionsCode (program_in source) (map (function_in (types_of_source source)) all) (map (tac.function_in (types_of_source source)) made ++ more)

pub functions_begin : (source : Source) (made : List memory_function.Function) → made ≡ [] → IsSource source → program_nodes (program_in source) ≤ greatest_nodes
    → FunctionsSoFar source source.program.functions.items source.program.functions.items made
functions_begin source made none is few = subst (λ made. FunctionsSoFar source source.program.functions.items source.program.functions.items made) (sym none) (record {
  stand = is.stands.functions;
  typed = (well_parts (program_in source) is.well).0;
  nodes = few;
  code = λ more code. code;
})

module _ (source : Source) (all rest : List memory_definition.FunctionDef) (definition : memory_definition.FunctionDef) (made : List memory_function.Function) (far : FunctionsSoFar source all (definition ∷ rest) made) where
  abbrev table : Interned
  table = types_of_source source

  function_parts : (is_function_def (program_in source) (function_in table definition) ≡ true) × (are_functions (program_in source) (map (function_in table) rest) ≡ true)
  function_parts = and_parts (is_function_def (program_in source) (function_in table definition)) (are_functions (program_in source) (map (function_in table) rest)) far.typed

  pub function_typed : FunctionTyped source definition
  function_typed =
      let few : functions_nodes (map (function_in table) (definition ∷ rest)) ≤ 3145731 = far.nodes in
      let own : block_nodes (function_in table definition).body ≤ 3145731 = omega (arith, few) in
      record { stands = far.stand.0; typed = function_parts.0; nodes = own }

  pub functions_next : (function : memory_function.Function) → FunctionLowers source definition function → FunctionsSoFar source all rest (made ++ function ∷ [])
  functions_next function lowers =
      let few : functions_nodes (map (function_in table) (definition ∷ rest)) ≤ 3145731 = far.nodes in
      let others : functions_nodes (map (function_in table) rest) ≤ 3145731 = omega (arith, few) in
      record {
        stand = far.stand.1;
        typed = function_parts.1;
        nodes = others;
        code = λ more code.
            let own = tac.function_in table function in
            subst (FunctionsCode (program_in source) (map (function_in table) all))
            (sym (ap (λ functions. functions ++ more) (map_push (tac.function_in table) made function) ∙ append_assoc (map (tac.function_in table) made) (own ∷ []) more))
            (far.code (own ∷ more) (lowers, code));
      }

pub functions_at : (source : Source) (all left : List memory_definition.FunctionDef) (definition : memory_definition.FunctionDef) (rest : List memory_definition.FunctionDef) (made : List memory_function.Function) → left ≡ definition ∷ rest
    → FunctionsSoFar source all left made → FunctionsSoFar source all (definition ∷ rest) made
functions_at source all left definition rest made is far = subst (λ left. FunctionsSoFar source all left made) is far

pub functions_lower : (source : Source) (left : List memory_definition.FunctionDef) (made : List memory_function.Function) → left ≡ [] → FunctionsSoFar source source.program.functions.items left made → FunctionsLower source made
functions_lower source left made none far =
    let table = types_of_source source in
    let last = subst (λ left. FunctionsSoFar source source.program.functions.items left made) none far in
    subst (FunctionsCode (program_in source) (program_in source).functions) (append-nil (map (tac.function_in table) made)) (last.code [] tt)
