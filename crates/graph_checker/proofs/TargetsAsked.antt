-- What is judged of a function to which a call may come is what the call asks of it, and of two functions of a class that they are one.
use Rattle.std.proofs.Common.{◌≡◌, ℕ, ◌<◌, ◌↔◌, ◌==◌, Bool, true, false, cond, List, length, Option, Some, refl, sym, ap, subst, ◌∙◌, arith, eqb-true, eq-eqb}
use Rattle.std.specs.Prelude.{slice_get, get_or}
use Rattle.std.proofs.lemmas.Bool.{false≢true}
use Rattle.std.proofs.lemmas.List.{length-map}
use Rattle.c_typed.specs.Table.{Interned}
use Rattle.tac_ir.specs.declared.register.Register.{Register}
use Rattle.tac_ir.specs.States.{Owner, InStart, InFunction}
use Rattle.heap_graph.specs.Escaping.{Escapes}
use Rattle.heap_graph.specs.Closed.{Family, graph_of, group_of, same_group, or_no_graph, inner_call, outer_call, call_of, AreOne, IsEmbedding}
use Rattle.heap_graph.specs.Frozen.{optional_node}
use Rattle.heap_graph.specs.declared.marks.NodeMarks.{NodeMarks}
use Rattle.graph_checker.specs.Calling.{DecidesShared}
use Rattle.graph_checker.specs.declared.program.Member.{Member}
use Rattle.graph_checker.specs.Programs.{IsMember}
use Rattle.heap_graph.specs.Asked.{TargetAsked, are_same}
use Rattle.graph_checker.specs.Fits.{EscapeWithin, AreEscaping}

graph_same : (family : Family) (a b : ℕ) → group_of family a ≡ group_of family b → graph_of family (InFunction a) ≡ graph_of family (InFunction b)
graph_same family a b same = ap (λ g. or_no_graph (slice_get family.graphs.graphs g)) same

-- ---- two functions of a class

module _ (table : Interned) (family : Family) (a b : ℕ) (one other : Member) (is : IsMember table family (InFunction a) one) (also : IsMember table family (InFunction b) other) where
  groups_same : are_same one.group other.group ≡ (group_of family a == group_of family b)
  groups_same = λ i. are_same (is.group i) (also.group i)

  pub not_one : (test : Bool) → test ≡ are_same one.group other.group → test ≡ false → (test ≡ true → AreOne family a b) × (AreOne family a b → test ≡ true)
  not_one test is apart = ((λ t. absurd (false≢true (sym apart ∙ t))), (λ are. is ∙ (groups_same ∙ eq-eqb _ _ are.group)))

  pub one_judged : are_same one.group other.group ≡ true → (test : Bool) → DecidesShared one.names.now other.names.now test → (test ≡ true → AreOne family a b) × (AreOne family a b → test ≡ true)
  one_judged together test decides =
      let group : group_of family a ≡ group_of family b = eqb-true _ _ (sym groups_same ∙ together) in
      let shared = decides family a b is.names also.names (graph_same family a b group) in (
        (λ t. let both = shared.0 t in record { group = group; formals = both.0; result = both.1 }),
        (λ are. shared.1 (are.formals, are.result)),
      )

-- ---- a function to which a call may come

module _ (table : Interned) (family : Family) (called site : ℕ) (arguments : List Register) (own other : Member) (also : IsMember table family (InFunction called) other) where
  pub same_told : (owner : Owner) → IsMember table family owner own → are_same own.group other.group ≡ same_group family owner called
  same_told InStart is = ap (λ g. are_same g other.group) is.group
  same_told (InFunction number) is = λ i. are_same (is.group i) (also.group i)

  pub graphs_same : (owner : Owner) → same_group family owner called ≡ true → graph_of family (InFunction called) ≡ graph_of family owner
  graphs_same InStart same = absurd (false≢true same)
  graphs_same (InFunction number) same = sym (graph_same family number called (eqb-true _ _ same))

  module _ (owner : Owner) where
    abbrev Judges : Bool → Type 0
    Judges test = (test ≡ true → TargetAsked family owner site arguments called) × (TargetAsked family owner site arguments called → test ≡ true)

    abbrev inner : Bool
    inner = inner_call family owner site arguments called

    abbrev outer : Bool
    outer = outer_call family owner site arguments called

    pub inner_judged : same_group family owner called ≡ true → (test : Bool) → test ≡ inner → Judges test
    inner_judged same test is =
        let condition : call_of family owner site arguments called ≡ inner = ap (λ b. cond b inner outer) same in (
          (λ t. record { condition = condition ∙ (sym is ∙ t); embedding = λ apart. absurd (false≢true (sym apart ∙ same)) }),
          (λ asked. is ∙ (sym condition ∙ asked.condition)),
        )

    module _ (apart : same_group family owner called ≡ false) where
      out_condition : call_of family owner site arguments called ≡ outer
      out_condition = ap (λ b. cond b inner outer) apart

      pub outer_fails : (test : Bool) → test ≡ outer → test ≡ false → Judges test
      outer_fails test is fails = ((λ t. absurd (false≢true (sym fails ∙ t))), (λ asked. is ∙ (sym out_condition ∙ asked.condition)))

      pub outer_judged : (test : Bool) → test ≡ outer → test ≡ true → (embeds : Bool) → (embeds ≡ true) ↔ IsEmbedding family owner site called → Judges embeds
      outer_judged test is holds embeds decides = (
        (λ t. record { condition = out_condition ∙ (sym is ∙ holds); embedding = λ e. decides.0 t }),
        (λ asked. decides.1 (asked.embedding apart)),
      )

pub not_together : (own other : Option ℕ) (group : ℕ) → other ≡ Some group → are_same own other ≡ false → own ≡ Some group → ⊥
not_together own other group is apart same = false≢true (sym apart ∙ ((λ i. are_same (same i) (is i)) ∙ eq-eqb group group refl))

-- ---- an embedding

module _ (table : Interned) (family : Family) (called site : ℕ) (arguments : List Register) (own other : Member) (also : IsMember table family (InFunction called) other)
    (owner : Owner) (member : IsMember table family owner own) (inside : EscapeWithin family called) where
  pub within : (node : ℕ) → Escapes (graph_of family (InFunction called)) (InFunction called) node → node < length other.graph.now.nodes.items
  within node escapes =
      let less = inside node escapes in
      let same = ap length also.graph.nodes ∙ length-map other.graph.now.nodes.items (optional_node table) in
      omega (arith, less, same)

  pub marks_tell : (marks : NodeMarks) (items : List Bool) → items ≡ marks.marks.items → AreEscaping family called other marks
      → (node : ℕ) → node < length other.graph.now.nodes.items → (get_or items node false ≡ true) ↔ Escapes (graph_of family (InFunction called)) (InFunction called) node
  marks_tell marks items same escaping node less =
      subst (λ (l : List Bool). (get_or l node false ≡ true) ↔ Escapes (graph_of family (InFunction called)) (InFunction called) node) (sym same) (escaping node less)
