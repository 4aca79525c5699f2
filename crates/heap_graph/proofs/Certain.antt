-- Targets whose nodes are certain.
use Rattle.std.proofs.Common.{◌≡◌, Bool, true, false, cond, Option, Some, None, refl, sym, subst, ◌∙◌, eqb-true, eq-eqb}
use Rattle.std.specs.Prelude.{◌||◌}
use Rattle.std.proofs.lemmas.Bool.{false≢true, and_parts, and_from, cond-true, cond-false}
use Rattle.heap_graph.specs.Graphs.{Target, Node, Graph, node_at}
use Rattle.heap_graph.specs.Targets.{same_target, has_target, implies}
use Rattle.heap_graph.specs.Asks.{is_certain}
use Rattle.heap_graph.specs.Restricted.{if_certain}

pub record Certain (graph : Graph) (target : Target) : Type 0 where
  pub node : Node
  pub is : node_at graph target.node ≡ Some node
  pub so : node.flags.certain ≡ true

certain_none : (graph : Graph) (target : Target) → node_at graph target.node ≡ None → is_certain graph (Some target) ≡ false
certain_none graph target e = rw e refl

pub certain_some : (graph : Graph) (target : Target) (node : Node) → node_at graph target.node ≡ Some node → is_certain graph (Some target) ≡ node.flags.certain
certain_some graph target node e = rw e refl

pub certain_there : (graph : Graph) (target : Target) → is_certain graph (Some target) ≡ true → Certain graph target
certain_there graph target h = by (node_at graph target.node) refl
  where
    by : (o : Option Node) → node_at graph target.node ≡ o → Certain graph target
    by None e = absurd (false≢true (sym (certain_none graph target e) ∙ h))
    by (Some node) e = record { node = node; is = e; so = sym (certain_some graph target node e) ∙ h }

pub certain_is : (graph : Graph) (target : Target) → Certain graph target → is_certain graph (Some target) ≡ true
certain_is graph target c = certain_some graph target c.node c.is ∙ c.so

pub target_of_certain : (graph : Graph) (target : Option Target) → is_certain graph target ≡ true → (x : Target) × (target ≡ Some x) × Certain graph x
target_of_certain graph None h = absurd (false≢true h)
target_of_certain graph (Some x) h = (x, refl, certain_there graph x h)

pub if_yes : (graph : Graph) (target : Option Target) → is_certain graph target ≡ true → if_certain graph target ≡ target
if_yes graph target h = cond-true (is_certain graph target) target None h

pub if_not : (graph : Graph) (target : Option Target) → is_certain graph target ≡ false → if_certain graph target ≡ None
if_not graph target h = cond-false (is_certain graph target) target None h

pub has_if : (graph : Graph) (target : Option Target) → has_target (if_certain graph target) ≡ is_certain graph target
has_if graph None = refl
has_if graph (Some x) = by (is_certain graph (Some x))
  where
    by : (b : Bool) → has_target (cond b (Some x) None) ≡ b
    by true = refl
    by false = refl

-- ---- targets that are the same

pub same_eq : (a b : Option Target) → same_target a b ≡ true → a ≡ b
same_eq None None h = refl
same_eq None (Some b) h = absurd (false≢true h)
same_eq (Some a) None h = absurd (false≢true h)
same_eq (Some a) (Some b) h =
    let parts = and_parts _ _ h in
    λ i. Some (record { node = (eqb-true a.node b.node parts.0) i; shift = (eqb-true a.shift b.shift parts.1) i })

pub same_itself : (a : Option Target) → same_target a a ≡ true
same_itself None = refl
same_itself (Some a) = and_from _ _ (eq-eqb a.node a.node refl) (eq-eqb a.shift a.shift refl)

pub eq_same : (a b : Option Target) → a ≡ b → same_target a b ≡ true
eq_same a b e = subst (λ x. same_target a x ≡ true) e (same_itself a)

-- ---- what is asked where a test holds

pub implies_step : (a b x y : Bool) → b ≡ a → (a ≡ true → x ≡ true → y ≡ true) → implies a x ≡ true → implies b y ≡ true
implies_step true b x y e f h = subst (λ c. implies c y ≡ true) (sym e) (f refl h)
implies_step false b x y e f h = subst (λ c. implies c y ≡ true) (sym e) refl

pub implies_holds : (a x : Bool) → implies a x ≡ true → a ≡ true → x ≡ true
implies_holds true x h e = h
implies_holds false x h e = absurd (false≢true e)

pub or_step : (a x y : Bool) → (a ≡ false → x ≡ true → y ≡ true) → (a || x) ≡ true → (a || y) ≡ true
or_step true x y f h = refl
or_step false x y f h = f refl h
