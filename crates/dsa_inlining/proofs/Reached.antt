-- What is known of a function of a group before.
use Rattle.std.proofs.Common.{◌≡◌, ℕ, Option, Some, sym, ap, ◌∙◌}
use Rattle.std.specs.Prelude.{slice_get}
use Rattle.std.proofs.lemmas.Option.{none-some, same_Some}
use Rattle.c_typed.specs.Table.{Interned, structs_in}
use Rattle.tac_ir.specs.Views.{tac_of}
use Rattle.heap_graph.specs.Graphs.{Target, Name, OfRegister, OfResult, OfObject, OfGlobal, OfLiteral, OfCopy}
use Rattle.heap_graph.specs.Merging.{IsSlot, IsSound}
use Rattle.heap_graph.specs.Frozen.{bare, own_graph}
use Rattle.heap_graph.specs.declared.frozen.FunctionNames.{FunctionNames}
use Rattle.heap_graph.specs.declared.frozen.FrozenGraph.{FrozenGraph}
use Rattle.heap_graph.specs.declared.program.FunctionGraph.{FunctionGraph}
use Rattle.dsa_inlining.specs.Adding.{AreNumbered}
use Rattle.dsa_inlining.specs.Crossed.{IsCallee}
use Rattle.dsa_inlining.proofs.Escaping.{outside_copied}
use Rattle.dsa_inlining.specs.Before.{GraphsBefore, IsReached, graph_reached, nodes_reached}

-- ---- a graph without names of functions

module _ (table : Interned) (graph : FrozenGraph) (names : FunctionNames) (sound : IsSound (structs_in table) (own_graph table graph names)) where
  bare_slot : (target : Target) → IsSlot (structs_in table) (own_graph table graph names) target → IsSlot (structs_in table) (bare table graph) target
  bare_slot target slot = record { node = slot.node; is = slot.is; inside = slot.inside }

  bare_names : (name : Name) (target : Target) → (bare table graph).targets name ≡ Some target → IsSlot (structs_in table) (bare table graph) target
  bare_names (OfRegister owner register) target is = absurd (none-some target is)
  bare_names (OfResult owner) target is = absurd (none-some target is)
  bare_names (OfObject owner local) target is = absurd (none-some target is)
  bare_names (OfGlobal number) target is = bare_slot target (sound.names (OfGlobal number) target is)
  bare_names (OfLiteral number) target is = bare_slot target (sound.names (OfLiteral number) target is)
  bare_names (OfCopy number) target is = absurd (none-some target is)

  -- it is sound where the graph with names is
  pub bare_sound : IsSound (structs_in table) (bare table graph)
  bare_sound = record {
    names = bare_names;
    from = λ number slot node to is has. sound.from number slot node to is has;
    to = λ number slot node to is has. bare_slot to (sound.to number slot node to is has);
  }

-- ---- a function of a group before

module _ (before : GraphsBefore) (called : ℕ) where
  pub one_graph : (a b : IsReached before called) → a.graph ≡ b.graph
  one_graph a b =
      let group : a.group ≡ b.group = same_Some a.group b.group (sym a.of ∙ b.of) in
      same_Some a.graph b.graph (sym a.graph_is ∙ (ap (λ n. slice_get before.graphs n) group ∙ b.graph_is))

  pub one_own : (a b : IsReached before called) → a.own ≡ b.own
  one_own a b = same_Some a.own b.own (sym a.own_is ∙ b.own_is)

  pub one_nodes : (a b : IsReached before called) → nodes_reached before called a ≡ nodes_reached before called b
  one_nodes a b = ap (bare before.tac.types) (one_graph a b)

  pub one_reached : (a b : IsReached before called) → graph_reached before called a ≡ graph_reached before called b
  one_reached a b =
      ap (λ g. own_graph before.tac.types g a.own.names) (one_graph a b) ∙ ap (λ (f : FunctionGraph). own_graph before.tac.types b.graph f.names) (one_own a b)

  -- its graph is that of its group
  pub graph_there : (reached : IsReached before called) (group : ℕ) (graph : FrozenGraph) → reached.group ≡ group → reached.graph ≡ graph → slice_get before.graphs group ≡ Some graph
  graph_there reached group graph same its = ap (λ n. slice_get before.graphs n) (sym same) ∙ (reached.graph_is ∙ ap Some its)

  -- it is one that can be called where its nodes are copied
  pub is_callee : (reached : IsReached before called) (copies : ℕ → Option ℕ) (first next : ℕ) → AreNumbered (nodes_reached before called reached) reached.numbers copies first next
      → IsCallee (tac_of before.tac) called (graph_reached before called reached) copies
  is_callee reached copies first next numbered =
      let ready = reached.ready in
      record {
        sound = ready.sound;
        copied = outside_copied before.tac.types called reached.graph reached.own.names reached.numbers copies first next ready.sound numbered ready.outside;
        formals = ready.formals;
        globals = ready.globals;
        literals = ready.literals;
      }
