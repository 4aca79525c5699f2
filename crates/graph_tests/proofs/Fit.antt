-- A program without structures, variables outside functions, literals and locals in memory fits where it has graphs for all groups and functions.
use Rattle.std.proofs.Common.{◌≡◌, true, List, [], map, length, refl, sym, subst}
use Rattle.std.specs.List.{list_all}
use Rattle.std.proofs.lemmas.Bool.{ltb-true}
use Rattle.std.proofs.lemmas.Option.{none-some}
use Rattle.c_typed.specs.declared.definition.GlobalDef.{GlobalDef}
use Rattle.c_typed.specs.declared.definition.LiteralDef.{LiteralDef}
use Rattle.c_typed.specs.Types.{CType}
use Rattle.c_typed.specs.Layouts.{StructDef}
use Rattle.c_typed.specs.DefinitionViews.{LiteralsStand}
use Rattle.c_typed.specs.Table.{structs_in, type_in}
use Rattle.c_typed.specs.Sizes.{are_filled}
use Rattle.tac_ir.specs.Code as O
use Rattle.tac_ir.specs.Code.{Known}
use Rattle.tac_ir.specs.Views.{op_in, tac_of}
use Rattle.tac_ir.specs.Groups.{AreGroups}
use Rattle.call_graph.specs.GroupViews.{CallsKnown, groups_of, IsOf}
use Rattle.heap_graph.specs.Structures.{AreMade}
use Rattle.graph_checker.specs.Objects.{ObjectsHaveSlots}
use Rattle.heap_graph.specs.Embeddings.{NodesHaveSlots}
use Rattle.graph_checker.specs.declared.program.Program.{Program}
use Rattle.graph_checker.specs.Fits.{IsFit}
use Rattle.heap_graph.proofs.Whole.{at_each}
use Rattle.graph_tests.specs.KnownCalls.{is_known}
use Rattle.graph_tests.specs.Plain.{IsPlain, HasNoObjects, HaveNoObjects, HaveSlots}
use Rattle.graph_tests.proofs.Known.{all_at}
use Rattle.graph_tests.proofs.HasSlots.{objects_fit}

none_have_slots : {X : Type 0} (structs : List StructDef) (f : X → CType) (xs : List X) → xs ≡ [] → ObjectsHaveSlots structs (map f xs)
none_have_slots structs f xs e = subst (λ ys. ObjectsHaveSlots structs (map f ys)) (sym e) (λ number c_type is. absurd (none-some c_type is))

module _ (program : Program) (groups : AreGroups (tac_of program.tac.now) (groups_of program.groups.now)) (of : IsOf program.tac.now program.groups.now) (known : CallsKnown (tac_of program.tac.now))
    (plain : IsPlain program.tac.now) where
  pub fits : length program.graphs.now.graphs.items ≡ length program.groups.now.members.items → length program.graphs.now.functions.items ≡ length program.tac.now.functions.items
      → list_all (is_known (length program.tac.now.functions.items)) (map (op_in program.tac.now.types) program.tac.now.start.points.items) ≡ true
      → HaveNoObjects program.tac.now.functions.items → HasNoObjects program.tac.now.start → HaveSlots program.tac.now.types program.graphs.now.graphs.items
      → NodesHaveSlots program.tac.now.types program.graphs.now.start → IsFit program
  fits graphs functions known_start objects first_objects nodes first_nodes =
      let tac = program.tac.now in
      let structs = structs_in tac.types in
      let count = length tac.functions.items in
      record {
        whole = record { groups = groups; of = of; graphs = graphs; functions = functions };
        known = known;
        known_first = λ at site function arguments is.
            ltb-true function count (all_at (is_known count) (tac_of tac).start.points at (O.Call site (Known function) arguments) known_start is);
        made = subst AreMade (sym plain.structs) tt;
        filled = subst (λ (s : List StructDef). are_filled s ≡ true) (sym plain.structs) refl;
        literals = subst (LiteralsStand tac.types) (sym plain.literals) tt;
        objects = λ number function is. objects_fit tac function (at_each HasNoObjects tac.functions.items objects number function is);
        first_objects = objects_fit tac tac.start first_objects;
        variables = none_have_slots structs (λ (global : GlobalDef). type_in tac.types global.c_type) tac.globals.items plain.globals;
        literal_types = none_have_slots structs (λ (literal : LiteralDef). type_in tac.types literal.c_type) tac.literals.items plain.literals;
        nodes = at_each (NodesHaveSlots tac.types) program.graphs.now.graphs.items nodes;
        first_nodes = first_nodes;
      }
