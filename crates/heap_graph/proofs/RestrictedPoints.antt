-- What each kind of point asks of a graph that is being made is asked of the graph of its certain nodes.
use Rattle.std.proofs.Common.{◌≡◌, ℕ, Bool, true, false, cond, Option, Some, None, refl, sym, ap, ◌∙◌}
use Rattle.std.specs.Prelude.{◌&&◌, ◌||◌, not}
use Rattle.std.specs.List.{list_any}
use Rattle.std.proofs.lemmas.Bool.{and_parts, and_from}
use Rattle.c_typed.specs.Types.{CType}
use Rattle.c_typed.specs.Layouts.{is_complete}
use Rattle.tac_ir.specs.declared.register.Register.{Register}
use Rattle.tac_ir.specs.declared.register.Register.TheVariants as R
use Rattle.tac_ir.specs.Code as O
use Rattle.tac_ir.specs.Code.{Tree, Path, Operand, IntegerOperand, PointerOperand, Op, Tac}
use Rattle.tac_ir.specs.States.{Owner}
use Rattle.heap_graph.specs.Graphs.{Target, Node, OfRegister, OfResult, Graph}
use Rattle.heap_graph.specs.Targets.{Part, same_target, has_target, at_target, edge_at, holds_part, points_to, implies}
use Rattle.heap_graph.specs.Points.{is_null, is_data_pointer, is_indexed, is_element, is_member, takes, path_part, base_typed, base_used, address_closed, load_closed, stored_closed, store_closed, is_size_of, allocate_closed, move_closed, repoint_closed, return_closed, point_closed}
use Rattle.heap_graph.proofs.MapsCompose.{at_some, at_there, at_from}
use Rattle.heap_graph.specs.Asks.{is_certain, base_of, own, address_asked, load_asked, store_asked, allocate_asked, move_asked, repoint_asked, point_asked, size_told, sizes_told}
use Rattle.heap_graph.specs.Restricted.{if_certain, Restricts}
use Rattle.heap_graph.proofs.Certain.{if_yes, if_not, has_if, same_eq, eq_same, implies_step, implies_holds, or_step}
use Rattle.heap_graph.proofs.Restricting.{Depends, holds_depends, at_certain, path_certain, base_has, typed_certain, at_base, used_certain, takes_kept, path_edge}

both_at : (graph : Graph) (target : Option Target) (one other : Node → ℕ → Bool) → at_target graph target one ≡ true → at_target graph target other ≡ true
    → at_target graph target (λ node shift. one node shift && other node shift) ≡ true
both_at graph None one other h k = refl
both_at graph (Some x) one other h k =
    let found = at_there graph x one h in
    at_from graph x (λ node shift. one node shift && other node shift) found.node found.is (and_from _ _ found.so (sym (at_some graph x other found.node found.is) ∙ k))

unless_null : (n x y : Bool) → (x ≡ true → y ≡ true) → (n || x) ≡ true → implies (not n) y ≡ true
unless_null true x y f h = refl
unless_null false x y f h = f h

where_complete : (complete x y c : Bool) → (implies c x ≡ true → y ≡ true) → implies c (cond complete x true) ≡ true → cond complete y true ≡ true
where_complete true x y c f h = f h
where_complete false x y c f h = refl

module _ (tac : Tac) (graph kept : Graph) (owner : Owner) (restricts : Restricts graph kept) where
  -- what holds of a node if it is certain holds in the graph of certain nodes
  pub at_kept : (target there : Option Target) → there ≡ if_certain graph target → (holds : Node → ℕ → Bool) → Depends holds → implies (is_certain graph target) (at_target graph target holds) ≡ true
      → at_target kept there holds ≡ true
  at_kept target there e holds depends h = by (is_certain graph target) refl
    where
      by : (b : Bool) → is_certain graph target ≡ b → at_target kept there holds ≡ true
      by true c = ap (λ t. at_target kept t holds) (e ∙ if_yes graph target c) ∙ (at_certain graph kept restricts target holds depends c ∙ implies_holds _ _ h c)
      by false c = ap (λ t. at_target kept t holds) (e ∙ if_not graph target c)

  register_is : (register : Register) → own tac kept owner register ≡ if_certain graph (own tac graph owner register)
  register_is register = restricts.names (OfRegister owner register) refl

  copy_restricted : (to from : Register) → takes tac graph owner (own tac graph owner to) from ≡ true → takes tac kept owner (own tac kept owner to) from ≡ true
  copy_restricted to from h = takes_kept tac graph kept owner restricts (own tac graph owner to) (own tac kept owner to) (register_is to) from h

  move_restricted : (to from : Register) → move_asked tac graph owner to from ≡ true → move_closed tac kept owner to from ≡ true
  move_restricted to from h =
      let parts = and_parts _ _ h in
      and_from _ _ (copy_restricted to from parts.0)
      (unless_null (is_null tac owner from) _ _ (at_kept (own tac graph owner from) (own tac kept owner from) (register_is from) (λ node shift. node.flags.array) (λ a b shift element flags. flags.array)) parts.1)

  repoint_restricted : (to : Register) (target : CType) (from : Register) → repoint_asked tac graph owner to target from ≡ true → repoint_closed tac kept owner to target from ≡ true
  repoint_restricted to target from h =
      let parts = and_parts _ _ h in
      and_from _ _ (copy_restricted to from parts.0)
      (or_step (is_null tac owner from) (implies (is_certain graph (own tac graph owner from)) (points_to tac.structs graph target (own tac graph owner from))) (points_to tac.structs kept target (own tac kept owner from))
      (λ _ told. where_complete (is_complete tac.structs target) (at_target graph (own tac graph owner from) (holds_part tac.structs target)) (at_target kept (own tac kept owner from) (holds_part tac.structs target))
      (is_certain graph (own tac graph owner from))
      (at_kept (own tac graph owner from) (own tac kept owner from) (register_is from) (holds_part tac.structs target) (holds_depends tac.structs target)) told) parts.1)

  address_restricted : (to : Register) (path : Path) → address_asked tac graph owner to path ≡ true → address_closed tac kept owner to path ≡ true
  address_restricted to path h = implies_step (is_certain graph (base_of tac graph owner path)) (has_target (base_of tac kept owner path)) _ _ (base_has tac graph kept owner restricts path.base) parts h
    where
      parts : is_certain graph (base_of tac graph owner path) ≡ true
          → (same_target (own tac graph owner to) (path_part tac graph owner path).target
          && (implies (list_any is_member path.steps) (base_typed tac graph owner path.base)
          && at_target graph (base_of tac graph owner path) (λ node shift. implies (is_indexed path.base || list_any is_element path.steps) node.flags.array))) ≡ true
          → (same_target (own tac kept owner to) (path_part tac kept owner path).target
          && (implies (list_any is_member path.steps) (base_typed tac kept owner path.base)
          && at_target kept (base_of tac kept owner path) (λ node shift. implies (is_indexed path.base || list_any is_element path.steps) node.flags.array))) ≡ true
      parts c k =
          let one = and_parts _ _ k in
          let two = and_parts _ _ one.1 in
          let leads = path_certain tac graph kept owner restricts path c in
          and_from _ _
          (eq_same _ _ (register_is to ∙ (ap (if_certain graph) (same_eq _ _ one.0) ∙ (if_yes graph (path_part tac graph owner path).target leads.1 ∙ sym (ap (λ (part : Part). part.target) leads.0)))))
          (and_from _ _ (ap (implies (list_any is_member path.steps)) (typed_certain tac graph kept owner restricts path.base c) ∙ two.0)
          (at_base tac graph kept owner restricts path (λ node shift. implies (is_indexed path.base || list_any is_element path.steps) node.flags.array)
          (λ a b shift element flags. ap (implies (is_indexed path.base || list_any is_element path.steps)) flags.array) c ∙ two.1))

  load_restricted : (to : Register) (scalar : CType) (path : Path) → load_asked tac graph owner to scalar path ≡ true → load_closed tac kept owner to scalar path ≡ true
  load_restricted to scalar path h = implies_step (is_certain graph (base_of tac graph owner path)) (has_target (base_of tac kept owner path)) _ _ (base_has tac graph kept owner restricts path.base) parts h
    where
      parts : is_certain graph (base_of tac graph owner path) ≡ true
          → (base_typed tac graph owner path.base && (base_used tac graph owner path && (at_target graph (base_of tac graph owner path) (λ node shift. node.flags.read)
          && implies (is_data_pointer scalar) (is_certain graph (own tac graph owner to) && same_target (own tac graph owner to) (edge_at graph (path_part tac graph owner path).target))))) ≡ true
          → (base_typed tac kept owner path.base && (base_used tac kept owner path && (at_target kept (base_of tac kept owner path) (λ node shift. node.flags.read)
          && implies (is_data_pointer scalar) (has_target (own tac kept owner to) && same_target (own tac kept owner to) (edge_at kept (path_part tac kept owner path).target))))) ≡ true
      parts c k =
          let one = and_parts _ _ k in
          let two = and_parts _ _ one.1 in
          let three = and_parts _ _ two.1 in
          and_from _ _ (typed_certain tac graph kept owner restricts path.base c ∙ one.0)
          (and_from _ _ (used_certain tac graph kept owner restricts path c ∙ two.0)
          (and_from _ _ (at_base tac graph kept owner restricts path (λ node shift. node.flags.read) (λ a b shift element flags. flags.read) c ∙ three.0)
          (implies_step (is_data_pointer scalar) (is_data_pointer scalar) _ _ refl
          (λ _ given.
          let both = and_parts _ _ given in
          and_from _ _ (ap has_target (register_is to) ∙ (has_if graph (own tac graph owner to) ∙ both.0))
          (eq_same _ _ (register_is to ∙ (ap (if_certain graph) (same_eq _ _ both.1) ∙ sym (path_edge tac graph kept owner restricts path c)))))
          three.1)))

  stored_restricted : (scalar : CType) (value : Operand) (path : Path) → is_certain graph (base_of tac graph owner path) ≡ true → stored_closed tac graph owner scalar value path ≡ true → stored_closed tac kept owner scalar value path ≡ true
  stored_restricted scalar (IntegerOperand tree) path c h = refl
  stored_restricted scalar (PointerOperand register) path c h =
      implies_step (is_data_pointer scalar) (is_data_pointer scalar) _ _ refl
      (λ _. takes_kept tac graph kept owner restricts (edge_at graph (path_part tac graph owner path).target) (edge_at kept (path_part tac kept owner path).target) (path_edge tac graph kept owner restricts path c) register) h

  store_restricted : (path : Path) (scalar : CType) (value : Operand) → store_asked tac graph owner path scalar value ≡ true → store_closed tac kept owner path scalar value ≡ true
  store_restricted path scalar value h = implies_step (is_certain graph (base_of tac graph owner path)) (has_target (base_of tac kept owner path)) _ _ (base_has tac graph kept owner restricts path.base) parts h
    where
      parts : is_certain graph (base_of tac graph owner path) ≡ true
          → (base_typed tac graph owner path.base && (base_used tac graph owner path && (at_target graph (base_of tac graph owner path) (λ node shift. node.flags.modified) && stored_closed tac graph owner scalar value path))) ≡ true
          → (base_typed tac kept owner path.base && (base_used tac kept owner path && (at_target kept (base_of tac kept owner path) (λ node shift. node.flags.modified) && stored_closed tac kept owner scalar value path))) ≡ true
      parts c k =
          let one = and_parts _ _ k in
          let two = and_parts _ _ one.1 in
          let three = and_parts _ _ two.1 in
          and_from _ _ (typed_certain tac graph kept owner restricts path.base c ∙ one.0)
          (and_from _ _ (used_certain tac graph kept owner restricts path c ∙ two.0)
          (and_from _ _ (at_base tac graph kept owner restricts path (λ node shift. node.flags.modified) (λ a b shift element flags. flags.modified) c ∙ three.0)
          (stored_restricted scalar value path c three.1)))

  allocate_restricted : (site : ℕ) (size : Tree) → allocate_asked tac graph owner site ≡ true → size_told tac kept owner site size ≡ true → allocate_closed tac kept owner site size ≡ true
  allocate_restricted site size h told =
      let parts = and_parts _ _ h in
      and_from _ _ (ap has_target (register_is (R.Call site)) ∙ (has_if graph (own tac graph owner (R.Call site)) ∙ parts.0))
      (both_at kept (own tac kept owner (R.Call site)) (λ node shift. node.flags.heap) (λ node shift. is_size_of tac kept owner size node.element || node.flags.array)
      (ap (λ t. at_target kept t (λ node shift. node.flags.heap)) (register_is (R.Call site) ∙ if_yes graph (own tac graph owner (R.Call site)) parts.0)
      ∙ (at_certain graph kept restricts (own tac graph owner (R.Call site)) (λ node shift. node.flags.heap) (λ a b shift element flags. flags.heap) parts.0 ∙ parts.1))
      told)

  return_restricted : (value : Option Operand) → return_closed tac graph owner value ≡ true → return_closed tac kept owner value ≡ true
  return_restricted None h = refl
  return_restricted (Some (IntegerOperand tree)) h = refl
  return_restricted (Some (PointerOperand register)) h = takes_kept tac graph kept owner restricts (graph.targets (OfResult owner)) (kept.targets (OfResult owner)) (restricts.names (OfResult owner) refl) register h

  -- all points but calls, of which nothing is said here
  pub point_restricted : (op : Op) → point_asked tac graph owner op ≡ true → sizes_told tac kept owner op ≡ true → point_closed tac kept owner op ≡ true
  point_restricted O.Reserved h told = refl
  point_restricted (O.Jump to) h told = refl
  point_restricted (O.Branch int_type condition holds fails) h told = refl
  point_restricted (O.Assign to tree) h told = refl
  point_restricted (O.Null to) h told = refl
  point_restricted (O.FunctionAddress to function) h told = refl
  point_restricted (O.Copy to from) h told = copy_restricted to from h
  point_restricted (O.Test to pointer) h told = refl
  point_restricted (O.Move to pointer element is_minus number) h told = move_restricted to pointer h
  point_restricted (O.Difference to element left right) h told = refl
  point_restricted (O.ComparePointers to relation left right) h told = refl
  point_restricted (O.Repoint to target from) h told = repoint_restricted to target from h
  point_restricted (O.AddressOf to path) h told = address_restricted to path h
  point_restricted (O.Load to scalar path) h told = load_restricted to scalar path h
  point_restricted (O.Store path scalar value) h told = store_restricted path scalar value h
  point_restricted (O.Allocate site size) h told = allocate_restricted site size h told
  point_restricted (O.Free site pointer) h told = refl
  point_restricted (O.Call site callee arguments) h told = refl
  point_restricted (O.GetChar site) h told = refl
  point_restricted (O.PutChar site value) h told = refl
  point_restricted (O.Exit status) h told = refl
  point_restricted (O.Return value) h told = return_restricted value h
