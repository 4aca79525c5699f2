-- What a call out of a group asks of a graph that is being made holds in a program's graphs that show it.
use Rattle.std.proofs.Common.{◌≡◌, ℕ, zero, suc, ◌+◌, ◌&&◌, Bool, true, false, cond, List, [], ◌∷◌, length, Option, Some, None, refl, sym, ap, subst, ◌∙◌, arith}
use Rattle.std.specs.Prelude.{slice_get}
use Rattle.std.proofs.lemmas.Bool.{and_from}
use Rattle.std.proofs.lemmas.Option.{none-some, same_Some}
use Rattle.c_typed.specs.Types.{CType}
use Rattle.c_typed.specs.Table.{Interned}
use Rattle.tac_ir.specs.declared.register.Register.{Register}
use Rattle.tac_ir.specs.declared.register.Register.TheVariants as R
use Rattle.tac_ir.specs.declared.register.Local.TheVariants as L
use Rattle.tac_ir.specs.States.{Owner, InFunction}
use Rattle.heap_graph.specs.Graphs.{Target, Node, Name, OfRegister, OfResult, OfGlobal, OfLiteral, Graph, Embedding, is_copy, node_at}
use Rattle.heap_graph.specs.Targets.{same_target, has_target, is_collapsed, shifted, implies}
use Rattle.heap_graph.specs.Points.{is_data_pointer}
use Rattle.heap_graph.specs.Closed as C
use Rattle.heap_graph.specs.Closed.{Family, graph_of, crossing, parameters_of, result_of, function_type, formal, arguments_closed, statics_closed, all_statics_closed, outer_call}
use Rattle.heap_graph.proofs.MapsCompose.{shift_in, shifted_there}
use Rattle.heap_graph.specs.Frozen.{own_graph}
use Rattle.heap_graph.specs.declared.frozen.FunctionNames.{FunctionNames}
use Rattle.heap_graph.specs.declared.frozen.FrozenGraph.{FrozenGraph}
use Rattle.heap_graph.specs.Shows.{ShowsGraph, ShowsNames}
use Rattle.heap_graph.specs.Asks.{is_certain}
use Rattle.heap_graph.specs.Restricted.{if_certain, Restricts}
use Rattle.heap_graph.proofs.Certain.{certain_there, if_yes, eq_same}
use Rattle.dsa_inlining.specs.Copied.{named_copy, copy_at, image}
use Rattle.dsa_inlining.proofs.Carried.{copy_found}
use Rattle.dsa_inlining.proofs.CallCopies.Closing.{KeepsCertain}
use Rattle.dsa_inlining.specs.Crossed.{IsImage, Comes, IsPassed, IsCrossed}

implied : (test other : Bool) → (test ≡ true → other ≡ true) → implies test other ≡ true
implied true other gives = gives refl
implied false other gives = refl

-- slots behind a target are of its node
shifted_node : (graph : Graph) (slots : ℕ) (target place : Target) → shifted graph slots (Some target) ≡ Some place → (node : Node) → node_at graph place.node ≡ Some node
    → (place ≡ record { node = target.node; shift = shift_in node (target.shift + slots) }) × (node_at graph target.node ≡ Some node)
shifted_node graph slots target place is node there = by (node_at graph target.node) refl
  where
    held : Option Target → Target
    held None = place
    held (Some t) = t

    none : node_at graph target.node ≡ None → shifted graph slots (Some target) ≡ None
    none e = rw e refl

    by : (o : Option Node) → node_at graph target.node ≡ o → (place ≡ record { node = target.node; shift = shift_in node (target.shift + slots) }) × (node_at graph target.node ≡ Some node)
    by None e = absurd (none-some place (sym (none e) ∙ is))
    by (Some own) e =
        let at : (record { node = target.node; shift = shift_in own (target.shift + slots) }) ≡ place = same_Some _ place (sym (shifted_there graph slots target own e) ∙ is) in
        let same : own ≡ node = same_Some own node (sym e ∙ (ap (λ (t : Target). node_at graph t.node) at ∙ there)) in
        (sym at ∙ ap (λ (n : Node). record { node = target.node; shift = shift_in n (target.shift + slots) }) same, e ∙ ap Some same)

-- The graph of the caller has the certain nodes of the graph that was made, with their elements, and all names but copies; the embedding is
-- that of copies; and the graph of the function that is called shows its graph in memory.
module _ (family : Family) (owner : Owner) (site called : ℕ) (made kept : Graph) (restricts : Restricts made kept) (names : (name : Name) → is_copy name ≡ false → (graph_of family owner).targets name ≡ kept.targets name)
    (keeps : KeepsCertain made (graph_of family owner)) (table : Interned) (frozen : FrozenGraph) (its : FunctionNames) (graph_shown : ShowsGraph table family (InFunction called) frozen)
    (names_shown : ShowsNames family (InFunction called) its) (copies : ℕ → Option ℕ) (embedding_is : (number : ℕ) → family.graphs.embedding (crossing family owner site called) number ≡ copy_at made copies number) where
  abbrev own : Name → Option Target
  own name = (graph_of family owner).targets name

  abbrev theirs : Name → Option Target
  theirs name = (graph_of family (InFunction called)).targets name

  abbrev callee : Graph
  callee = own_graph table frozen its

  abbrev embedding : Embedding
  embedding = family.graphs.embedding (crossing family owner site called)

  abbrev placed : Option Target → Option Target
  placed target = C.image family owner embedding target

  -- a certain target of a name is that in the caller's graph
  name_there : (name : Name) → is_copy name ≡ false → (target : Target) → made.targets name ≡ Some target → is_certain made (Some target) ≡ true → own name ≡ Some target
  name_there name plain target is certain = names name plain ∙ (restricts.names name plain ∙ (ap (if_certain made) is ∙ if_yes made (Some target) certain))

  -- where a target is in the graph that was made, it is in the caller's
  image_there : (target place : Target) → image made copies target ≡ Some place → is_certain made (Some place) ≡ true → placed (Some target) ≡ Some place
  image_there target place is certain =
      let c = copy_found made copies target.node target.shift place is in
      let node = certain_there made place certain in
      let at : copy_at made copies target.node ≡ Some c.target = ap (named_copy made) c.of_node ∙ c.is in
      let from = shifted_node made target.shift c.target place (sym (ap (shifted made target.shift) at) ∙ is) node.node node.is in
      let now = keeps.nodes c.target.node node.node from.1 node.so in
      ap (shifted (graph_of family owner) target.shift) (embedding_is target.node ∙ at)
      ∙ (shifted_there (graph_of family owner) target.shift c.target now.now now.is
      ∙ (ap (λ e. Some (record { node = c.target.node; shift = cond (is_collapsed e) 0 (c.target.shift + target.shift) })) now.element ∙ ap Some (sym from.0)))

  -- so a name's target is the image of one of the function that is called
  both_there : (name : Name) → is_copy name ≡ false → (target : Target) → IsImage copies name target made → (has_target (own name) && same_target (own name) (placed (Some target))) ≡ true
  both_there name plain target comes =
      let here = name_there name plain comes.at comes.is comes.certain in
      and_from _ _ (ap has_target here) (eq_same (own name) (placed (Some target)) (here ∙ sym (image_there target comes.at comes.copied comes.certain)))

  -- ---- arguments

  abbrev Passed : ℕ → List CType → List Register → Type 0
  Passed first types arguments =
      (number : ℕ) (c_type : CType) (argument : Register) → slice_get types number ≡ Some c_type → slice_get arguments number ≡ Some argument → is_data_pointer c_type ≡ true
      → IsPassed callee copies (OfRegister owner argument) (formal called (first + number)) made

  passed_closed : (first : ℕ) (types : List CType) (arguments : List Register) → Passed first types arguments → arguments_closed family owner (λ number. placed (theirs (formal called number))) first types arguments ≡ true
  passed_closed first [] arguments are = refl
  passed_closed first (c_type ∷ types) [] are = refl
  passed_closed first (c_type ∷ types) (argument ∷ arguments) are =
      and_from _ _
      (implied (is_data_pointer c_type) _
      (λ is.
      let here = subst (λ n. IsPassed callee copies (OfRegister owner argument) (formal called n) made) (omega arith) (are 0 c_type argument refl refl is) in
      let at : theirs (formal called first) ≡ Some here.target = names_shown.registers (R.Local (L.Parameter first)) ∙ here.is in
      ap (λ t. has_target (own (OfRegister owner argument)) && same_target (own (OfRegister owner argument)) (placed t)) at ∙ both_there (OfRegister owner argument) refl here.target here.comes))
      (passed_closed (suc first) types arguments
      (λ number c_type' argument' at its is. subst (λ n. IsPassed callee copies (OfRegister owner argument') (formal called n) made) (omega arith) (are (suc number) c_type' argument' at its is)))

  -- ---- what is given

  abbrev call : Name
  call = OfRegister owner (R.Call site)

  given_closed : (c_type : CType) → (is_data_pointer (result_of c_type) ≡ true → Comes callee copies (OfRegister owner (R.Call site)) (OfResult (InFunction called)) made)
      → C.result_closed family owner (result_of c_type) (placed (theirs (OfResult (InFunction called)))) site ≡ true
  given_closed c_type given = implied (is_data_pointer (result_of c_type)) _ (λ is. by (theirs (OfResult (InFunction called))) refl (given is))
    where
      by : (target : Option Target) → theirs (OfResult (InFunction called)) ≡ target → Comes callee copies call (OfResult (InFunction called)) made
          → implies (has_target (placed (theirs (OfResult (InFunction called))))) (same_target (own call) (placed (theirs (OfResult (InFunction called))))) ≡ true
      by None is comes = ap (λ t. implies (has_target (placed t)) (same_target (own call) (placed t))) is
      by (Some target) is comes =
          let image = comes target (sym names_shown.returned ∙ is) in
          implied (has_target (placed (theirs (OfResult (InFunction called))))) _
          (λ has.
          eq_same (own call) (placed (theirs (OfResult (InFunction called))))
          (name_there call refl image.at image.is image.certain ∙ (sym (image_there target image.at image.copied image.certain) ∙ ap placed (sym is))))

  -- ---- variables outside functions and literals

  static_closed : (name : ℕ → Name) → ((number : ℕ) → is_copy (name number) ≡ false) → ((number : ℕ) → theirs (name number) ≡ callee.targets (name number))
      → ((number : ℕ) → Comes callee copies (name number) (name number) made) → (number : ℕ) → statics_closed family owner (graph_of family (InFunction called)) embedding name number ≡ true
  static_closed name plain shows come number = by (theirs (name number)) refl
    where
      by : (target : Option Target) → theirs (name number) ≡ target
          → implies (has_target (theirs (name number))) (has_target (own (name number)) && same_target (own (name number)) (placed (theirs (name number)))) ≡ true
      by None is = ap (λ t. implies (has_target t) (has_target (own (name number)) && same_target (own (name number)) (placed t))) is
      by (Some target) is =
          ap (λ t. implies (has_target t) (has_target (own (name number)) && same_target (own (name number)) (placed t))) is
          ∙ both_there (name number) (plain number) target (come number target (sym (shows number) ∙ is))

  each_closed : (name : ℕ → Name) → ((number : ℕ) → statics_closed family owner (graph_of family (InFunction called)) embedding name number ≡ true) → (count : ℕ)
      → all_statics_closed family owner (graph_of family (InFunction called)) embedding name count ≡ true
  each_closed name closed zero = refl
  each_closed name closed (suc count) = and_from _ _ (closed count) (each_closed name closed count)

  -- ---- a call

  pub outer_closed : (arguments : List Register) → IsCrossed family.tac owner site arguments called (own_graph table frozen its) copies made → outer_call family owner site arguments called ≡ true
  outer_closed arguments crossed =
      and_from _ _
      (passed_closed 0 (parameters_of (function_type family.tac called)) arguments
      (λ number c_type argument at here is. subst (λ n. IsPassed callee copies (OfRegister owner argument) (formal called n) made) (omega arith) (crossed.passed number c_type argument at here is)))
      (and_from _ _ (given_closed (function_type family.tac called) crossed.given)
      (and_from _ _ (each_closed OfGlobal (static_closed OfGlobal (λ number. refl) graph_shown.globals crossed.globals) (length family.tac.globals))
      (each_closed OfLiteral (static_closed OfLiteral (λ number. refl) graph_shown.literals crossed.literals) (length family.tac.literals))))
