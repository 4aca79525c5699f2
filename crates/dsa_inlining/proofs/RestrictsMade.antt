-- What is kept of a graph is that of its certain nodes, and leads to nodes alone.
use Rattle.std.proofs.Common.{◌≡◌, Bool, true, false, cond, List, Option, Some, None, refl, sym, ap, subst, ◌∙◌}
use Rattle.std.proofs.lemmas.Bool.{cond-true}
use Rattle.c_typed.specs.Layouts.{StructDef}
use Rattle.tac_ir.specs.Code.{Tac}
use Rattle.tac_ir.specs.States.{Owner}
use Rattle.heap_graph.specs.Graphs.{Target, Name, OfRegister, OfResult, OfObject, OfGlobal, OfLiteral, OfCopy, Graph, is_copy}
use Rattle.heap_graph.specs.Closed.{is_name, is_slot}
use Rattle.heap_graph.specs.Merging.{IsSound}
use Rattle.heap_graph.proofs.MapsCompose.{edge_there}
use Rattle.heap_graph.specs.Restricted.{if_certain, Restricts}
use Rattle.heap_graph.specs.Completed.{HasNodes}
use Rattle.heap_graph.proofs.Certain.{certain_there}
use Rattle.dsa_inlining.specs.Kept.{is_own, AllTold, IsFrozen}
use Rattle.dsa_inlining.proofs.KeptNodes.{after, slot_if, node_sound}

own_name : (tac : Tac) (owners : Owner → Bool) (name : Name) → is_name tac owners name ≡ true → is_own tac owners name ≡ true
own_name tac owners (OfRegister owner register) h = h
own_name tac owners (OfResult owner) h = h
own_name tac owners (OfObject owner local) h = h
own_name tac owners (OfGlobal number) h = refl
own_name tac owners (OfLiteral number) h = refl
own_name tac owners (OfCopy number) h = h

module _ (tac : Tac) (owners : Owner → Bool) (made kept : Graph) (frozen : IsFrozen tac owners made kept) where
  -- targets and edges are slots
  pub frozen_sound : (structs : List StructDef) → IsSound structs made → HasNodes kept
  frozen_sound structs sound = record {
    names = λ name. subst (λ target. is_slot kept target ≡ true) (sym (frozen.names name)) (by name (is_own tac owners name));
    edges = λ number node is. node_sound made kept frozen.nodes structs sound number node is;
  }
    where
      by : (name : Name) (own : Bool) → is_slot kept (cond own (if_certain made (made.targets name)) None) ≡ true
      by name true = slot_if made kept frozen.nodes structs sound (made.targets name) (sound.names name)
      by name false = refl

  module _ (all : AllTold tac owners made) where
    pub names_kept : (name : Name) → is_copy name ≡ false → kept.targets name ≡ if_certain made (made.targets name)
    names_kept name own = frozen.names name ∙ by (made.targets name) (all name)
      where
        none : (b : Bool) → cond b (if_certain made None) None ≡ None
        none true = refl
        none false = refl

        by : (target : Option Target) → ((to : Target) → is_copy name ≡ false → target ≡ Some to → is_name tac owners name ≡ true) → cond (is_own tac owners name) (if_certain made target) None ≡ if_certain made target
        by None told = none (is_own tac owners name)
        by (Some to) told = cond-true (is_own tac owners name) (if_certain made (Some to)) None (own_name tac owners name (told to own refl))

    pub restricts : Restricts made kept
    restricts = record {
      names = names_kept;
      nodes = λ number node is certain.
          let new = after made kept frozen.nodes number node is certain in
          record {
            now = new.node;
            is = new.is;
            element = new.keeps.element;
            flags = record {
              heap = ap (λ f. f.heap) new.keeps.flags;
              stack = ap (λ f. f.stack) new.keeps.flags;
              global = ap (λ f. f.global) new.keeps.flags;
              array = ap (λ f. f.array) new.keeps.flags;
              modified = ap (λ f. f.modified) new.keeps.flags;
              read = ap (λ f. f.read) new.keeps.flags;
            };
          };
      edges = λ target certain.
          let old = certain_there made target certain in
          let new = after made kept frozen.nodes target.node old.node old.is old.so in
          edge_there kept target new.node new.is ∙ new.keeps.edges target.shift ∙ ap (if_certain made) (sym (edge_there made target old.node old.is));
    }
