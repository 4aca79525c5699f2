-- What the points of a graph that is made ask is asked of the completed graph.
use Rattle.std.proofs.Common.{◌≡◌, ℕ, zero, suc, ◌+◌, ◌≤◌, ◌<◌, Bool, true, false, List, [], ◌∷◌, slice_get, Option, Some, None, refl, sym, ap, subst, ◌∙◌, arith, ◌⊎◌, inl, inr}
use Rattle.std.specs.Prelude.{◌&&◌, ◌||◌, not}
use Rattle.std.specs.List.{list_any}
use Rattle.std.proofs.lemmas.Bool.{false≢true, and_parts, and_from, cases_eq}
use Rattle.std.proofs.lemmas.Option.{none-some, same_Some}
use Rattle.c_typed.specs.Types.{CType}
use Rattle.tac_ir.specs.declared.register.Register.{Register}
use Rattle.tac_ir.specs.declared.register.Register.TheVariants as R
use Rattle.tac_ir.specs.Code as O
use Rattle.tac_ir.specs.Code.{Tree, Path, Operand, IntegerOperand, PointerOperand, Op, Tac}
use Rattle.tac_ir.specs.States.{Owner}
use Rattle.heap_graph.specs.Graphs.{Target, Node, OfRegister, OfResult, Graph}
use Rattle.heap_graph.specs.Targets.{Part, same_target, has_target, at_target, edge_at, points_to, implies}
use Rattle.heap_graph.specs.Points.{is_null, is_data_pointer, is_indexed, is_element, is_member, takes, path_part, base_typed, base_used, address_closed, load_closed, stored_closed, store_closed, is_size_of, allocate_closed, move_closed, repoint_closed, return_closed, point_closed}
use Rattle.heap_graph.proofs.MapsCompose.{at_some, at_there}
use Rattle.heap_graph.specs.Asks.{is_certain, base_of, own, address_asked, load_asked, store_asked, allocate_asked, move_asked, repoint_asked, point_asked}
use Rattle.heap_graph.specs.Restricted.{if_certain, Restricts}
use Rattle.heap_graph.specs.Completed.{or_target, nothing_in, completed, HasNodes}
use Rattle.heap_graph.specs.Within.{stored_at, PathWithin}
use Rattle.heap_graph.proofs.Certain.{target_of_certain, if_yes, if_not, has_if, same_eq, eq_same, implies_step, or_step}
use Rattle.heap_graph.proofs.Restricting.{Depends, at_certain, path_certain, base_has, told_certain, register_certain, typed_certain, at_base, used_certain, path_edge}
use Rattle.heap_graph.proofs.CompletedGraph.{completed_restricts, completed_edge}

-- ---- bounds

-- a greater bound serves too
pub within_more : (tac : Tac) (graph : Graph) (owner : Owner) (bound more : ℕ) → bound ≤ more → (op : Op) → PathWithin bound tac graph owner op → PathWithin more tac graph owner op
within_more tac graph owner bound more le op within target e = omega (arith, le, within target e)

abbrev bound_of : Option Target → ℕ
bound_of None = 0
bound_of (Some target) = suc target.shift

bound_serves : (place : Option Target) (target : Target) → place ≡ Some target → target.shift < bound_of place
bound_serves None target e = absurd (none-some target e)
bound_serves (Some x) target e = subst (λ (t : Target). t.shift < suc x.shift) (same_Some x target e) (omega arith)

pub some_bound : (tac : Tac) (graph : Graph) (owner : Owner) (ops : List Op) → (bound : ℕ) × ((at : ℕ) (op : Op) → slice_get ops at ≡ Some op → PathWithin bound tac graph owner op)
some_bound tac graph owner [] = (0, λ at op e. absurd (none-some op e))
some_bound tac graph owner (first ∷ ops) =
    let rest = some_bound tac graph owner ops in
    let own = bound_of (stored_at tac graph owner first) in
    (own + rest.0, λ at op e. by own (bound_serves (stored_at tac graph owner first)) rest.0 rest.1 at op e)
  where
    by : (own : ℕ) → ((target : Target) → stored_at tac graph owner first ≡ Some target → target.shift < own) → (bound : ℕ)
        → ((at : ℕ) (op : Op) → slice_get ops at ≡ Some op → PathWithin bound tac graph owner op) → (at : ℕ) (op : Op) → slice_get (first ∷ ops) at ≡ Some op → PathWithin (own + bound) tac graph owner op
    by own here bound rest zero op e =
        subst (λ x. PathWithin (own + bound) tac graph owner x) (same_Some first op e) (within_more tac graph owner own (own + bound) (omega arith) first here)
    by own here bound rest (suc at) op e = within_more tac graph owner bound (own + bound) (omega arith) op (rest at op e)

-- one bound for so many functions
pub bound_of_all : (tac : Tac) (graph : Graph) (owners : ℕ → Owner) (ops : ℕ → List Op) (count : ℕ)
    → (bound : ℕ) × ((number : ℕ) → number < count → (at : ℕ) (op : Op) → slice_get (ops number) at ≡ Some op → PathWithin bound tac graph (owners number) op)
bound_of_all tac graph owners ops zero = (0, λ number less. absurd (omega (arith, less)))
bound_of_all tac graph owners ops (suc count) =
    let own = some_bound tac graph (owners count) (ops count) in
    let rest = bound_of_all tac graph owners ops count in
    (own.0 + rest.0, λ number less. by own.0 own.1 rest.0 rest.1 number less (cases_eq number count))
  where
    by : (own : ℕ) → ((at : ℕ) (op : Op) → slice_get (ops count) at ≡ Some op → PathWithin own tac graph (owners count) op) → (bound : ℕ)
        → ((number : ℕ) → number < count → (at : ℕ) (op : Op) → slice_get (ops number) at ≡ Some op → PathWithin bound tac graph (owners number) op)
        → (number : ℕ) → number < suc count → (number ≡ count) ⊎ (number ≡ count → ⊥) → (at : ℕ) (op : Op) → slice_get (ops number) at ≡ Some op → PathWithin (own + bound) tac graph (owners number) op
    by own here bound rest number less (inl same) at op e =
        within_more tac graph (owners number) own (own + bound) (omega arith) op
        (subst (λ n. PathWithin own tac graph (owners n) op) (sym same) (here at op (ap (λ n. slice_get (ops n) at) (sym same) ∙ e)))
    by own here bound rest number less (inr differs) at op e = within_more tac graph (owners number) bound (own + bound) (omega arith) op (rest number (omega (arith, less, differs)) at op e)

-- ---- what holds where a test does

implies_from : (a x : Bool) → (a ≡ true → x ≡ true) → implies a x ≡ true
implies_from true x f = f refl
implies_from false x f = refl

or_null : (n x y : Bool) → (x ≡ true → y ≡ true) → implies (not n) x ≡ true → (n || y) ≡ true
or_null true x y f h = refl
or_null false x y f h = f h

first_at : (graph : Graph) (target : Option Target) (one other : Node → ℕ → Bool) → at_target graph target (λ node shift. one node shift && other node shift) ≡ true → at_target graph target one ≡ true
first_at graph None one other h = refl
first_at graph (Some x) one other h =
    let found = at_there graph x (λ node shift. one node shift && other node shift) h in
    at_some graph x one found.node found.is ∙ (and_parts _ _ found.so).0

-- what is certain and what another is if it is certain are the same
from_if : (graph : Graph) (one other : Option Target) → is_certain graph one ≡ true → one ≡ if_certain graph other → one ≡ other
from_if graph one other h e = by (is_certain graph other) refl
  where
    by : (b : Bool) → is_certain graph other ≡ b → one ≡ other
    by true c = e ∙ if_yes graph other c
    by false c = absurd (false≢true (sym (ap (is_certain graph) (e ∙ if_not graph other c)) ∙ h))

module _ (tac : Tac) (bound : ℕ) (graph : Graph) (owner : Owner) (sound : HasNodes graph) where
  abbrev whole : Graph
  whole = completed bound graph

  abbrev or_nothing : Option Target → Option Target
  or_nothing target = or_target (nothing_in graph) target

  restricts : Restricts whole graph
  restricts = completed_restricts bound graph sound

  takes_completed : (target there : Option Target) → there ≡ or_nothing target → (from : Register) → takes tac graph owner target from ≡ true → takes tac whole owner there from ≡ true
  takes_completed target there e from h =
      or_step (is_null tac owner from) (same_target target (own tac graph owner from)) (same_target there (own tac whole owner from))
      (λ _ same. eq_same there (own tac whole owner from) (e ∙ ap or_nothing (same_eq target (own tac graph owner from) same))) h

  register_has : (register : Register) → is_certain whole (own tac whole owner register) ≡ has_target (own tac graph owner register)
  register_has register = sym (ap has_target (restricts.names (OfRegister owner register) refl) ∙ has_if whole (own tac whole owner register))

  -- what holds of a register's node holds if it is certain
  at_register : (register : Register) (holds : Node → ℕ → Bool) → Depends holds → at_target graph (own tac graph owner register) holds ≡ true → is_certain whole (own tac whole owner register) ≡ true
      → at_target whole (own tac whole owner register) holds ≡ true
  at_register register holds depends h c =
      sym (at_certain whole graph restricts (own tac whole owner register) holds depends c) ∙ (sym (ap (λ t. at_target graph t holds) (register_certain tac whole graph owner restricts register c)) ∙ h)

  copy_completed : (to from : Register) → takes tac graph owner (own tac graph owner to) from ≡ true → takes tac whole owner (own tac whole owner to) from ≡ true
  copy_completed to from h = takes_completed (own tac graph owner to) (own tac whole owner to) refl from h

  move_completed : (to from : Register) → move_closed tac graph owner to from ≡ true → move_asked tac whole owner to from ≡ true
  move_completed to from h =
      let parts = and_parts _ _ h in
      and_from _ _ (copy_completed to from parts.0)
      (or_null (is_null tac owner from) (at_target graph (own tac graph owner from) (λ node shift. node.flags.array)) _
      (λ array. implies_from _ _ (at_register from (λ node shift. node.flags.array) (λ a b shift element flags. flags.array) array)) parts.1)

  repoint_completed : (to : Register) (target : CType) (from : Register) → repoint_closed tac graph owner to target from ≡ true → repoint_asked tac whole owner to target from ≡ true
  repoint_completed to target from h =
      let parts = and_parts _ _ h in
      and_from _ _ (copy_completed to from parts.0)
      (or_step (is_null tac owner from) (points_to tac.structs graph target (own tac graph owner from)) _
      (λ _ told. implies_from _ _ (λ c.
      sym (told_certain tac whole graph owner restricts target (own tac whole owner from) c)
      ∙ (sym (ap (points_to tac.structs graph target) (register_certain tac whole graph owner restricts from c)) ∙ told))) parts.1)

  address_completed : (to : Register) (path : Path) → address_closed tac graph owner to path ≡ true → address_asked tac whole owner to path ≡ true
  address_completed to path h = implies_step (has_target (base_of tac graph owner path)) (is_certain whole (base_of tac whole owner path)) _ _ (sym has) (λ there. parts (sym has ∙ there)) h
    where
      has : has_target (base_of tac graph owner path) ≡ is_certain whole (base_of tac whole owner path)
      has = base_has tac whole graph owner restricts path.base

      parts : is_certain whole (base_of tac whole owner path) ≡ true
          → (same_target (own tac graph owner to) (path_part tac graph owner path).target
          && (implies (list_any is_member path.steps) (base_typed tac graph owner path.base)
          && at_target graph (base_of tac graph owner path) (λ node shift. implies (is_indexed path.base || list_any is_element path.steps) node.flags.array))) ≡ true
          → (same_target (own tac whole owner to) (path_part tac whole owner path).target
          && (implies (list_any is_member path.steps) (base_typed tac whole owner path.base)
          && at_target whole (base_of tac whole owner path) (λ node shift. implies (is_indexed path.base || list_any is_element path.steps) node.flags.array))) ≡ true
      parts c k =
          let one = and_parts _ _ k in
          let two = and_parts _ _ one.1 in
          let leads = path_certain tac whole graph owner restricts path c in
          let x = target_of_certain whole (path_part tac whole owner path).target leads.1 in
          and_from _ _
          (eq_same _ _ (ap or_nothing (same_eq _ _ one.0 ∙ (ap (λ (part : Part). part.target) leads.0 ∙ x.1)) ∙ sym x.1))
          (and_from _ _ (sym (ap (implies (list_any is_member path.steps)) (typed_certain tac whole graph owner restricts path.base c)) ∙ two.0)
          (sym (at_base tac whole graph owner restricts path (λ node shift. implies (is_indexed path.base || list_any is_element path.steps) node.flags.array)
          (λ a b shift element flags. ap (implies (is_indexed path.base || list_any is_element path.steps)) flags.array) c) ∙ two.1))

  load_completed : (to : Register) (scalar : CType) (path : Path) → load_closed tac graph owner to scalar path ≡ true → load_asked tac whole owner to scalar path ≡ true
  load_completed to scalar path h = implies_step (has_target (base_of tac graph owner path)) (is_certain whole (base_of tac whole owner path)) _ _ (sym has) (λ there. parts (sym has ∙ there)) h
    where
      has : has_target (base_of tac graph owner path) ≡ is_certain whole (base_of tac whole owner path)
      has = base_has tac whole graph owner restricts path.base

      parts : is_certain whole (base_of tac whole owner path) ≡ true
          → (base_typed tac graph owner path.base && (base_used tac graph owner path && (at_target graph (base_of tac graph owner path) (λ node shift. node.flags.read)
          && implies (is_data_pointer scalar) (has_target (own tac graph owner to) && same_target (own tac graph owner to) (edge_at graph (path_part tac graph owner path).target))))) ≡ true
          → (base_typed tac whole owner path.base && (base_used tac whole owner path && (at_target whole (base_of tac whole owner path) (λ node shift. node.flags.read)
          && implies (is_data_pointer scalar) (is_certain whole (own tac whole owner to) && same_target (own tac whole owner to) (edge_at whole (path_part tac whole owner path).target))))) ≡ true
      parts c k =
          let one = and_parts _ _ k in
          let two = and_parts _ _ one.1 in
          let three = and_parts _ _ two.1 in
          and_from _ _ (sym (typed_certain tac whole graph owner restricts path.base c) ∙ one.0)
          (and_from _ _ (sym (used_certain tac whole graph owner restricts path c) ∙ two.0)
          (and_from _ _ (sym (at_base tac whole graph owner restricts path (λ node shift. node.flags.read) (λ a b shift element flags. flags.read) c) ∙ three.0)
          (implies_step (is_data_pointer scalar) (is_data_pointer scalar) _ _ refl
          (λ _ given.
          let both = and_parts _ _ given in
          let sure = register_has to ∙ both.0 in
          and_from _ _ sure
          (eq_same _ _ (from_if whole (own tac whole owner to) (edge_at whole (path_part tac whole owner path).target) sure
          (sym (register_certain tac whole graph owner restricts to sure) ∙ (same_eq _ _ both.1 ∙ path_edge tac whole graph owner restricts path c)))))
          three.1)))

  stored_completed : (scalar : CType) (value : Operand) (path : Path) → is_certain whole (base_of tac whole owner path) ≡ true → PathWithin bound tac graph owner (O.Store path scalar value)
      → stored_closed tac graph owner scalar value path ≡ true → stored_closed tac whole owner scalar value path ≡ true
  stored_completed scalar (IntegerOperand tree) path c within h = refl
  stored_completed scalar (PointerOperand register) path c within h =
      let leads = path_certain tac whole graph owner restricts path c in
      let same = ap (λ (part : Part). part.target) leads.0 in
      implies_step (is_data_pointer scalar) (is_data_pointer scalar) _ _ refl
      (λ _. takes_completed (edge_at graph (path_part tac graph owner path).target) (edge_at whole (path_part tac whole owner path).target)
      (completed_edge bound graph sound (path_part tac whole owner path).target leads.1 (λ x e. within x (same ∙ e)) ∙ sym (ap (λ t. or_nothing (edge_at graph t)) same)) register) h

  store_completed : (path : Path) (scalar : CType) (value : Operand) → store_closed tac graph owner path scalar value ≡ true → PathWithin bound tac graph owner (O.Store path scalar value)
      → store_asked tac whole owner path scalar value ≡ true
  store_completed path scalar value h within = implies_step (has_target (base_of tac graph owner path)) (is_certain whole (base_of tac whole owner path)) _ _ (sym has) (λ there. parts (sym has ∙ there)) h
    where
      has : has_target (base_of tac graph owner path) ≡ is_certain whole (base_of tac whole owner path)
      has = base_has tac whole graph owner restricts path.base

      parts : is_certain whole (base_of tac whole owner path) ≡ true
          → (base_typed tac graph owner path.base && (base_used tac graph owner path && (at_target graph (base_of tac graph owner path) (λ node shift. node.flags.modified) && stored_closed tac graph owner scalar value path))) ≡ true
          → (base_typed tac whole owner path.base && (base_used tac whole owner path && (at_target whole (base_of tac whole owner path) (λ node shift. node.flags.modified) && stored_closed tac whole owner scalar value path))) ≡ true
      parts c k =
          let one = and_parts _ _ k in
          let two = and_parts _ _ one.1 in
          let three = and_parts _ _ two.1 in
          and_from _ _ (sym (typed_certain tac whole graph owner restricts path.base c) ∙ one.0)
          (and_from _ _ (sym (used_certain tac whole graph owner restricts path c) ∙ two.0)
          (and_from _ _ (sym (at_base tac whole graph owner restricts path (λ node shift. node.flags.modified) (λ a b shift element flags. flags.modified) c) ∙ three.0)
          (stored_completed scalar value path c within three.1)))

  allocate_completed : (site : ℕ) (size : Tree) → allocate_closed tac graph owner site size ≡ true → allocate_asked tac whole owner site ≡ true
  allocate_completed site size h =
      let parts = and_parts _ _ h in
      let sure = register_has (R.Call site) ∙ parts.0 in
      and_from _ _ sure
      (at_register (R.Call site) (λ node shift. node.flags.heap) (λ a b shift element flags. flags.heap)
      (first_at graph (own tac graph owner (R.Call site)) (λ node shift. node.flags.heap) (λ node shift. is_size_of tac graph owner size node.element || node.flags.array) parts.1) sure)

  return_completed : (value : Option Operand) → return_closed tac graph owner value ≡ true → return_closed tac whole owner value ≡ true
  return_completed None h = refl
  return_completed (Some (IntegerOperand tree)) h = refl
  return_completed (Some (PointerOperand register)) h = takes_completed (graph.targets (OfResult owner)) (whole.targets (OfResult owner)) refl register h

  -- all points but calls, of which nothing is said here
  pub point_completed : (op : Op) → point_closed tac graph owner op ≡ true → PathWithin bound tac graph owner op → point_asked tac (completed bound graph) owner op ≡ true
  point_completed O.Reserved h within = refl
  point_completed (O.Jump to) h within = refl
  point_completed (O.Branch int_type condition holds fails) h within = refl
  point_completed (O.Assign to tree) h within = refl
  point_completed (O.Null to) h within = refl
  point_completed (O.FunctionAddress to function) h within = refl
  point_completed (O.Copy to from) h within = copy_completed to from h
  point_completed (O.Test to pointer) h within = refl
  point_completed (O.Move to pointer element is_minus number) h within = move_completed to pointer h
  point_completed (O.Difference to element left right) h within = refl
  point_completed (O.ComparePointers to relation left right) h within = refl
  point_completed (O.Repoint to target from) h within = repoint_completed to target from h
  point_completed (O.AddressOf to path) h within = address_completed to path h
  point_completed (O.Load to scalar path) h within = load_completed to scalar path h
  point_completed (O.Store path scalar value) h within = store_completed path scalar value h within
  point_completed (O.Allocate site size) h within = allocate_completed site size h
  point_completed (O.Free site pointer) h within = refl
  point_completed (O.Call site callee arguments) h within = refl
  point_completed (O.GetChar site) h within = refl
  point_completed (O.PutChar site value) h within = refl
  point_completed (O.Exit status) h within = refl
  point_completed (O.Return value) h within = return_completed value h
