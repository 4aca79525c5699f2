use Rattle.std.proofs.Common.{◌≡◌, ◌≤◌, true, Some, map, sym, ap, subst}
use Rattle.std.specs.Prelude.{is_some, codes}
use Rattle.c_typed.specs.declared.definition.Program as memory_program
use Rattle.c_typed.specs.Table.{structs_in}
use Rattle.c_typed.specs.DefinitionViews.{LiteralsStand, global_in, literal_of, program_of}
use Rattle.c_typed.specs.TypedNodes.{program_nodes, greatest_nodes}
use Rattle.tac_ir.specs.Views as tac
use Rattle.tac_build.specs.Code.{function_number}
use Rattle.tac_build.specs.ProgramCode.{FunctionsCode}
use Rattle.tac_build.specs.Lowering.{program_in}
use Rattle.tac_build.proofs.ProgramCodes.{main_there}
use Rattle.tac_build.proofs.lowering.lower.Goals as goal

pub functions-requires-clause-nodes : goal.functions-requires-clause-nodes
functions-requires-clause-nodes c = subst (λ (program : memory_program.Program). program_nodes (program_of program) ≤ greatest_nodes) (sym c.in_ok-source.ensures.program) c.requires.nodes

pub function-main-requires-clause-there : goal.function-main-requires-clause-there
function-main-requires-clause-there c =
    subst (λ name. is_some (function_number 0 (program_in c.in_ok-source.source).functions name) ≡ true) (sym c.as_slice.ensures) (main_there (program_in c.in_ok-source.source) c.in_ok-source.ensures.source.well)

pub returns : goal.returns
returns c =
    let source = c.in_ok-source.source in
    let same = c.in_ok-source.ensures.program in
    let functions = c.in_ok-functions.functions in
    let main = c.function-main.result.0 in
    let found = subst (λ name. function_number 0 (program_in source).functions name ≡ Some main) c.as_slice.ensures c.function-main.ensures in
    record {
      code = record {
        structs = ap (λ (program : memory_program.Program). structs_in program.types) same;
        globals = ap (λ (program : memory_program.Program). map (global_in program.types) program.globals.items) same;
        literals = ap (λ (program : memory_program.Program). map literal_of program.literals.items) same;
        functions = subst (λ (program : memory_program.Program). FunctionsCode (program_of program) (program_of program).functions (map (tac.function_in source.program.types) functions.items)) same c.in_ok-functions.ensures;
        main = main;
        named = subst (λ (program : memory_program.Program). function_number 0 (program_of program).functions (codes "main") ≡ Some main) same found;
        start = c.in_ok-start.ensures.points source.program.types;
        objects = c.in_ok-start.ensures.objects source.program.types;
        counts = c.in_ok-start.ensures.counts;
        parameters = c.in_ok-start.ensures.parameters;
      };
      literals = subst (λ (program : memory_program.Program). LiteralsStand program.types program.literals.items) (sym same) c.requires.stand.literals;
    }
