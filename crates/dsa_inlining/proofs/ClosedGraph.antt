-- What is kept of a graph is closed as a graph of a family, as far as this doesn't depend on points and calls.
use Rattle.std.proofs.Common.{◌≡◌, ℕ, Bool, true, false, cond, Option, Some, None, refl, ap, subst, ◌∙◌}
use Rattle.std.proofs.lemmas.Bool.{false≢true}
use Rattle.tac_ir.specs.Code.{Tac}
use Rattle.tac_ir.specs.States.{Owner}
use Rattle.heap_graph.specs.Graphs.{Target, Node, Name, OfRegister, OfResult, OfObject, OfGlobal, OfLiteral, OfCopy, Graph, is_copy, node_at}
use Rattle.heap_graph.specs.Targets.{has_target}
use Rattle.heap_graph.specs.Closed.{Family, is_name, globals_closed, literals_closed, IsNeeded, named, embedded, GraphClosed}
use Rattle.heap_graph.specs.Merging.{IsSound}
use Rattle.heap_graph.specs.Asks.{is_certain}
use Rattle.heap_graph.specs.Restricted.{if_certain}
use Rattle.heap_graph.proofs.Certain.{certain_some, if_yes}
use Rattle.dsa_inlining.specs.Kept.{is_own, AllTold, IsFrozen}
use Rattle.dsa_inlining.specs.Embedded.{AreNamed, CopiesAreImages}
use Rattle.dsa_inlining.proofs.KeptNodes.{before}
use Rattle.dsa_inlining.proofs.RestrictsMade.{frozen_sound, names_kept}

own_no_copy : (tac : Tac) (owners : Owner → Bool) (name : Name) → is_own tac owners name ≡ true → is_copy name ≡ false
own_no_copy tac owners (OfRegister owner register) h = refl
own_no_copy tac owners (OfResult owner) h = refl
own_no_copy tac owners (OfObject owner local) h = refl
own_no_copy tac owners (OfGlobal number) h = refl
own_no_copy tac owners (OfLiteral number) h = refl
own_no_copy tac owners (OfCopy number) h = absurd (false≢true h)

module _ (tac : Tac) (owners : Owner → Bool) (made kept : Graph) (frozen : IsFrozen tac owners made kept) (all : AllTold tac owners made) where
  -- only names of the owners have targets
  pub own_names : (name : Name) → has_target (kept.targets name) ≡ true → is_name tac owners name ≡ true
  own_names name has = by (is_own tac owners name) refl (made.targets name) refl (subst (λ target. has_target target ≡ true) (frozen.names name) has)
    where
      by : (own : Bool) → is_own tac owners name ≡ own → (target : Option Target) → made.targets name ≡ target → has_target (cond own (if_certain made target) None) ≡ true → is_name tac owners name ≡ true
      by true own None is h = absurd (false≢true h)
      by true own (Some to) is h = all name to (own_no_copy tac owners name own) is
      by false own target is h = absurd (false≢true h)

module _ (family : Family) (owners : Owner → Bool) (made kept : Graph) (frozen : IsFrozen family.tac owners made kept) (all : AllTold family.tac owners made)
    (every : AreNamed made) (images : CopiesAreImages family owners made) where
  by_name : (number : ℕ) (name : Name) (target : Target) → made.targets name ≡ Some target → is_certain made (Some target) ≡ true → target.node ≡ number → IsNeeded family kept owners number
  by_name number (OfCopy copy) target is certain same = let image = images copy target is certain in embedded image.at image.node target image.own image.crossing image.is same
  by_name number (OfRegister owner register) target is certain same = named (OfRegister owner register) target (names_kept family.tac owners made kept frozen all (OfRegister owner register) refl ∙ ap (if_certain made) is ∙ if_yes made (Some target) certain) same
  by_name number (OfResult owner) target is certain same = named (OfResult owner) target (names_kept family.tac owners made kept frozen all (OfResult owner) refl ∙ ap (if_certain made) is ∙ if_yes made (Some target) certain) same
  by_name number (OfObject owner local) target is certain same = named (OfObject owner local) target (names_kept family.tac owners made kept frozen all (OfObject owner local) refl ∙ ap (if_certain made) is ∙ if_yes made (Some target) certain) same
  by_name number (OfGlobal global) target is certain same = named (OfGlobal global) target (names_kept family.tac owners made kept frozen all (OfGlobal global) refl ∙ ap (if_certain made) is ∙ if_yes made (Some target) certain) same
  by_name number (OfLiteral literal) target is certain same = named (OfLiteral literal) target (names_kept family.tac owners made kept frozen all (OfLiteral literal) refl ∙ ap (if_certain made) is ∙ if_yes made (Some target) certain) same

  -- each node is that of a name or of an image
  pub all_needed : (number : ℕ) (node : Node) → node_at kept number ≡ Some node → IsNeeded family kept owners number
  all_needed number node is =
      let was = before made kept frozen.nodes number node is in
      let name = every number was.old was.is in
      let there : node_at made name.1.node ≡ Some was.old = ap (node_at made) name.3 ∙ was.is in
      by_name number name.0 name.1 name.2 (certain_some made name.1 was.old there ∙ was.keeps.certain) name.3

  -- so all that is asked of a group's graph holds, where variables outside functions and literals keep what is asked of them
  pub graph_closed : IsSound family.tac.structs made → (one : Owner) → globals_closed family one 0 family.tac.globals ≡ true → literals_closed family one 0 family.tac.literals ≡ true
      → GraphClosed family kept owners one
  graph_closed sound one globals literals =
      let nodes = frozen_sound family.tac owners made kept frozen family.tac.structs sound in
      record {
        names = nodes.names;
        own = own_names family.tac owners made kept frozen all;
        edges = nodes.edges;
        globals = globals;
        literals = literals;
        complete = λ number node is never. (frozen.complete number node is).1 never;
        needed = all_needed;
      }
