-- Copies of which it is told that they are of arrays.
use Rattle.std.proofs.Common.{◌≡◌, ℕ, Bool, true, false, Option, Some, None, refl, sym, ap, subst, ◌∙◌, ◌⊎◌, inl, inr}
use Rattle.std.specs.Prelude.{◌&&◌}
use Rattle.std.proofs.lemmas.Bool.{false≢true, cases_eq}
use Rattle.std.proofs.lemmas.Option.{same_Some}
use Rattle.heap_graph.specs.Graphs.{Target, Flags, Node, Graph, node_at, OfCopy}
use Rattle.heap_graph.specs.Targets.{at_target, implies, types_differ}
use Rattle.heap_graph.proofs.MapsCompose.{at_there, at_from}
use Rattle.graph_unification.specs.Changes.{SetsFlags}
use Rattle.dsa_inlining.specs.CallCopies.Telling.{array_told, CopyTold, CopiesTold, ArrayTold, ArraysTold}

implies_same : (a : Bool) → implies a a ≡ true
implies_same true = refl
implies_same false = refl

implied : (a : Bool) → implies a true ≡ true
implied true = refl
implied false = refl

implies_on : (a b c : Bool) → implies a b ≡ true → implies b c ≡ true → implies a c ≡ true
implies_on false b c h k = refl
implies_on true true c h k = k
implies_on true false c h k = absurd (false≢true h)

-- ---- graphs

same_told : (graph : Graph) (number : ℕ) (node : Node) → node_at graph number ≡ Some node → ArrayTold graph number node
same_told graph number node is = record { now = node; is = is; same = refl; kept = implies_same node.flags.array }

pub nothing_told : (graph : Graph) → ArraysTold graph graph
nothing_told graph = record { names = λ name. refl; nodes = same_told graph }

told_then : (new : Graph) (number : ℕ) (node : Node) (now : Node) → now ≡ record node { flags = record node.flags { array = now.flags.array } } → implies node.flags.array now.flags.array ≡ true → ArrayTold new number now
    → ArrayTold new number node
told_then new number node now same kept its = record {
  now = its.now;
  is = its.is;
  same = its.same ∙ ap (λ (n : Node). record n { flags = record n.flags { array = its.now.flags.array } }) same;
  kept = implies_on node.flags.array now.flags.array its.now.flags.array kept its.kept;
}

pub arrays_then : (one two three : Graph) → ArraysTold one two → ArraysTold two three → ArraysTold one three
arrays_then one two three first then = record {
  names = λ name. then.names name ∙ first.names name;
  nodes = λ number node is.
      let a = first.nodes number node is in
      told_then three number node a.now a.same a.kept (then.nodes number a.now a.is);
}

-- a flag of one node was set
pub one_told : (old new : Graph) (number : ℕ) (own : Node) (flags : Flags) → node_at old number ≡ Some own → flags ≡ record own.flags { array = true } → SetsFlags old new number flags → ArraysTold old new
one_told old new number own flags there is sets = record { names = sets.names; nodes = λ other node at. by other node at (cases_eq other number) }
  where
    by : (other : ℕ) (node : Node) → node_at old other ≡ Some node → (other ≡ number) ⊎ (other ≡ number → ⊥) → ArrayTold new other node
    by other node at (inl same) =
        let one : own ≡ node = same_Some own node (sym there ∙ ap (node_at old) (sym same) ∙ at) in
        record {
          now = record node { flags = record node.flags { array = true } };
          is = ap (node_at new) same ∙ sets.at own there ∙ ap (λ f. Some (record own { flags = f })) is ∙ ap (λ (n : Node). Some (record n { flags = record n.flags { array = true } })) one;
          same = refl;
          kept = implied node.flags.array;
        }
    by other node at (inr differs) = same_told new other node (sets.others other differs ∙ at)

-- ---- copies

told_at : (old new : Graph) (node : Node) → ArraysTold old new → (t : Option Target) → at_target old t (array_told node) ≡ true → at_target new t (array_told node) ≡ true
told_at old new node arrays None its = refl
told_at old new node arrays (Some target) its =
    let there = at_there old target (array_told node) its in
    let now = arrays.nodes target.node there.node there.is in
    let same : now.now.element ≡ there.node.element = ap (λ (n : Node). n.element) now.same in
    at_from new target (array_told node) now.now now.is
    (ap (λ e. implies (node.flags.heap && types_differ node.element e) now.now.flags.array) same
    ∙ implies_on (node.flags.heap && types_differ node.element there.node.element) there.node.flags.array now.now.flags.array there.so now.kept)

-- what was told of a copy is told still
pub copy_told : (old new callee : Graph) (copies : ℕ → Option ℕ) (number : ℕ) → ArraysTold old new → CopyTold old callee copies number → CopyTold new callee copies number
copy_told old new callee copies number arrays its copy node of_node is =
    ap (λ t. at_target new t (array_told node)) (arrays.names (OfCopy copy)) ∙ told_at old new node arrays (old.targets (OfCopy copy)) (its copy node of_node is)

pub copies_told : (old new callee : Graph) (copies : ℕ → Option ℕ) → ArraysTold old new → CopiesTold old callee copies → CopiesTold new callee copies
copies_told old new callee copies arrays its number = copy_told old new callee copies number arrays (its number)

-- it is told where the node of the copy's target is of an array, or of no other type
pub told_where : (graph callee : Graph) (copies : ℕ → Option ℕ) (number own : ℕ) (node : Node) (target : Target) (image : Node) → copies number ≡ Some own → node_at callee number ≡ Some node
    → graph.targets (OfCopy own) ≡ Some target → node_at graph target.node ≡ Some image → implies (node.flags.heap && types_differ node.element image.element) image.flags.array ≡ true
    → CopyTold graph callee copies number
told_where graph callee copies number own node target image of_node is at there so copy other of_other it =
    let one : own ≡ copy = same_Some own copy (sym of_node ∙ of_other) in
    let two : node ≡ other = same_Some node other (sym is ∙ it) in
    subst (λ k. at_target graph (graph.targets (OfCopy k)) (array_told other) ≡ true) one
    (ap (λ t. at_target graph t (array_told other)) at
    ∙ subst (λ (n : Node). at_target graph (Some target) (array_told n) ≡ true) two (at_from graph target (array_told node) image there so))

-- ---- what is asked of a copy

pub nothing_asked : (a b c : Bool) → (a ≡ false) ⊎ (b ≡ false) → implies (a && b) c ≡ true
nothing_asked a b c (inl is) = ap (λ x. implies (x && b) c) is
nothing_asked true b c (inr is) = ap (λ x. implies x c) is
nothing_asked false b c (inr is) = refl

pub already_told : (a : Bool) → implies a true ≡ true
already_told = implied
