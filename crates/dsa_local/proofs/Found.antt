-- Variables outside functions and literals in memory, and what is added for them.
use Rattle.std.proofs.Common.{◌≡◌, ℕ, option_map, Some, None, sym, ap, subst, ◌∙◌}
use Rattle.std.specs.Prelude.{slice_get, Result, Ok, Err, OnOk}
use Rattle.std.proofs.lemmas.Option.{slice_get-map}
use Rattle.c_typed.specs.Types.{literal_type}
use Rattle.c_typed.specs.declared.definition.GlobalDef as memory_global
use Rattle.c_typed.specs.declared.definition.LiteralDef as memory_literal
use Rattle.c_typed.specs.Table.{type_in, structs_in}
use Rattle.c_typed.specs.DefinitionViews.{global_in, literal_of, LiteralsStand}
use Rattle.tac_ir.specs.declared.program.Tac as memory_tac
use Rattle.tac_ir.specs.Objects.{global_type, literal_object}
use Rattle.tac_ir.specs.Views.{tac_of}
use Rattle.heap_graph.specs.Graphs.{OfGlobal, OfLiteral, Graph}
use Rattle.heap_graph.specs.Points.{type_of_inner}
use Rattle.graph_unification.specs.Adding.{AddsMissing}
use Rattle.graph_unification.specs.GraphNames.First.{object_node, static_flags, HasSlot}
use Rattle.graph_unification.proofs.FoundStatics.{literal_known}
use Rattle.graph_unification.specs.Standing.{CodeStands}
use Rattle.dsa_local.specs.Beginning.{static_node, global_node, literal_node, Covers, HaveTargets, AddsCovered, if_global, if_literal}
use Rattle.dsa_local.proofs.Covered.{global_added, literal_added, no_global_added, no_literal_added}

module _ (tac : memory_tac.Tac) (number : ℕ) where
  module _ (found : memory_global.GlobalDef) (is : slice_get tac.globals.items number ≡ Some found) where
    global_there : slice_get (tac_of tac).globals number ≡ Some (global_in tac.types found)
    global_there = slice_get-map (global_in tac.types) tac.globals.items number ∙ ap (option_map (global_in tac.types)) is

    pub global_slot : CodeStands (tac_of tac) → HasSlot (structs_in tac.types) (type_in tac.types found.c_type)
    global_slot code = code.globals number (global_in tac.types found) global_there

    pub on_ok_global : {E : Type 0} (result : Result (Unit {0}) E) (old new : Graph)
        → OnOk result (AddsMissing old new (OfGlobal number) (object_node (type_in tac.types found.c_type) (static_flags (type_in tac.types found.c_type))))
        → OnOk result (AddsCovered (Covers (if_global number (global_node (tac_of tac) number))) (HaveTargets (if_global number (global_node (tac_of tac) number))) old new)
    on_ok_global (Ok x) old new adds =
        global_added old new number (global_node (tac_of tac) number) (object_node (type_in tac.types found.c_type) (static_flags (type_in tac.types found.c_type)))
        (ap (λ o. static_node (global_type o)) global_there) adds
    on_ok_global (Err e) old new adds = tt

  pub no_global : slice_get tac.globals.items number ≡ None → (graph : Graph)
      → AddsCovered (Covers (if_global number (global_node (tac_of tac) number))) (HaveTargets (if_global number (global_node (tac_of tac) number))) graph graph
  no_global none graph =
      no_global_added graph number (global_node (tac_of tac) number)
      (ap (λ o. static_node (global_type o)) (slice_get-map (global_in tac.types) tac.globals.items number ∙ ap (option_map (global_in tac.types)) none))

  module _ (found : memory_literal.LiteralDef) (is : slice_get tac.literals.items number ≡ Some found) (stand : LiteralsStand tac.types tac.literals.items) where
    literal_there : slice_get (tac_of tac).literals number ≡ Some (literal_of found)
    literal_there = slice_get-map literal_of tac.literals.items number ∙ ap (option_map literal_of) is

    type_is : type_in tac.types found.c_type ≡ literal_type (literal_of found).bytes
    type_is = literal_known tac.types tac.literals.items number found stand is ∙ ap (λ o. type_of_inner (literal_object o)) literal_there

    pub literal_slot : CodeStands (tac_of tac) → HasSlot (structs_in tac.types) (type_in tac.types found.c_type)
    literal_slot code = subst (HasSlot (structs_in tac.types)) (sym type_is) (code.literals number (literal_of found) literal_there)

    pub on_ok_literal : {E : Type 0} (result : Result (Unit {0}) E) (old new : Graph)
        → OnOk result (AddsMissing old new (OfLiteral number) (object_node (type_in tac.types found.c_type) (static_flags (type_in tac.types found.c_type))))
        → OnOk result (AddsCovered (Covers (if_literal number (literal_node (tac_of tac) number))) (HaveTargets (if_literal number (literal_node (tac_of tac) number))) old new)
    on_ok_literal (Ok x) old new adds =
        literal_added old new number (literal_node (tac_of tac) number) (object_node (type_in tac.types found.c_type) (static_flags (type_in tac.types found.c_type)))
        (ap (λ o. static_node (literal_object o)) literal_there ∙ ap (λ t. Some (object_node t (static_flags t))) (sym type_is)) adds
    on_ok_literal (Err e) old new adds = tt

  pub no_literal : slice_get tac.literals.items number ≡ None → (graph : Graph)
      → AddsCovered (Covers (if_literal number (literal_node (tac_of tac) number))) (HaveTargets (if_literal number (literal_node (tac_of tac) number))) graph graph
  no_literal none graph =
      no_literal_added graph number (literal_node (tac_of tac) number)
      (ap (λ o. static_node (literal_object o)) (slice_get-map literal_of tac.literals.items number ∙ ap (option_map literal_of) none))
