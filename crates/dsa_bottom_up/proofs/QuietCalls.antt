-- A call to a function of a group before from which nothing escapes needs no copies.
use Rattle.std.proofs.Common.{◌≡◌, ℕ, true, false, List, [], ◌∷◌, Contains, Option, Some, None, refl, sym, ap, ◌∙◌, arith, eq-eqb}
use Rattle.std.proofs.lemmas.Bool.{false≢true, true≢false}
use Rattle.std.proofs.lemmas.Option.{none-some}
use Rattle.c_typed.specs.Table.{structs_in}
use Rattle.tac_ir.specs.declared.register.Register.{Register}
use Rattle.tac_ir.specs.States.{Owner, InFunction}
use Rattle.tac_ir.specs.Views.{tac_of}
use Rattle.heap_graph.specs.Graphs.{Target, Name, OfResult, OfGlobal, OfLiteral, Graph}
use Rattle.heap_graph.specs.Targets.{has_target}
use Rattle.heap_graph.specs.Escaping.{is_outside}
use Rattle.heap_graph.specs.Closed.{formal}
use Rattle.dsa_inlining.specs.Copied.{AreCopied}
use Rattle.dsa_inlining.specs.Adding.{AreNumbered}
use Rattle.dsa_inlining.specs.CallCopies.Telling.{CopiesTold}
use Rattle.dsa_inlining.specs.Crossed.{IsCrossed}
use Rattle.dsa_inlining.specs.Before.{GraphsBefore, IsReached, graph_reached, nodes_reached, has_numbers, is_some_list, is_live}

module _ (before : GraphsBefore) (called : ℕ) (reached : IsReached before called) (dead : is_live before called ≡ false) where
  none_has : (numbers : List ℕ) → has_numbers numbers ≡ false → (number : ℕ) → Contains numbers number → ⊥
  none_has [] is number found = let less = found.1 in omega (arith, less)
  none_has (first ∷ numbers) is number found = true≢false is

  none_listed : (number : ℕ) → Contains reached.numbers number → ⊥
  none_listed = none_has reached.numbers (sym (ap is_some_list reached.numbers_are) ∙ dead)

  -- callers see no node of it
  pub none_seen : (name : Name) (target : Target) → is_outside (InFunction called) name ≡ true → (graph_reached before called reached).targets name ≡ Some target → ⊥
  none_seen name target outside is = none_listed target.node (reached.ready.outside name target outside is)

  -- so the call uses all copies, of which there are none
  pub nothing_crosses : (owner : Owner) (site : ℕ) (arguments : List Register) (made : Graph) → IsCrossed (tac_of before.tac) owner site arguments called (graph_reached before called reached) (λ node. None) made
  nothing_crosses owner site arguments made = record {
    passed = λ number c_type argument at given is. absurd (formal_never number ((graph_reached before called reached).targets (formal called number)) refl (reached.ready.formals number c_type at is));
    given = λ is target at. absurd (none_seen (OfResult (InFunction called)) target (eq-eqb called called refl) at);
    globals = λ number target at. absurd (none_seen (OfGlobal number) target refl at);
    literals = λ number target at. absurd (none_seen (OfLiteral number) target refl at);
  }
    where
      formal_never : (number : ℕ) (found : Option Target) → (graph_reached before called reached).targets (formal called number) ≡ found → has_target ((graph_reached before called reached).targets (formal called number)) ≡ true → ⊥
      formal_never number None e has = false≢true (sym (ap has_target e) ∙ has)
      formal_never number (Some target) e has = none_seen (formal called number) target (eq-eqb called called refl) e

  pub nothing_numbered : AreNumbered (nodes_reached before called reached) reached.numbers (λ node. None) 0 0
  nothing_numbered = record {
    all = λ number node has at. absurd (none_listed number has);
    only = λ number copy is. absurd (none-some copy is);
    within = λ number copy is. absurd (none-some copy is);
    apart = λ a b copy is other. absurd (none-some copy is);
    each = λ copy from less. absurd (omega (arith, less));
  }

  pub nothing_copied : (made : Graph) → AreCopied (structs_in before.tac.types) made (nodes_reached before called reached) (λ node. None)
  nothing_copied made = record {
    nodes = λ number copy node is at. absurd (none-some copy is);
    edges = λ number copy node is at. absurd (none-some copy is);
  }

  pub nothing_told : (made : Graph) → CopiesTold made (nodes_reached before called reached) (λ node. None)
  nothing_told made = λ number copy node is at. absurd (none-some copy is)
