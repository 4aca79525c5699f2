-- What points ask of a graph holds where it has more flags.
use Rattle.std.proofs.Common.{◌≡◌, ℕ, Bool, true, false, cond, List, [], ◌∷◌, Option, Some, None, refl, ap, ◌∙◌}
use Rattle.std.specs.Prelude.{◌&&◌, ◌||◌}
use Rattle.std.specs.List.{list_any}
use Rattle.std.proofs.lemmas.Bool.{and_parts, and_from}
use Rattle.c_typed.specs.Types.{CType}
use Rattle.c_typed.specs.Layouts.{StructDef, is_complete}
use Rattle.tac_ir.specs.declared.register.Register.{Register}
use Rattle.tac_ir.specs.declared.register.Register.TheVariants as R
use Rattle.tac_ir.specs.Code as O
use Rattle.tac_ir.specs.Code.{Base, AtLocal, AtGlobal, AtLiteral, Pointed, Indexed, Step, Member, Element, Path, Operand, IntegerOperand, PointerOperand, Op, Tac}
use Rattle.tac_ir.specs.States.{Owner}
use Rattle.heap_graph.specs.Graphs.{Target, Node, OfRegister, OfResult, OfObject, OfGlobal, OfLiteral, Graph}
use Rattle.heap_graph.specs.Targets.{Part, same_target, at_target, edge_at, holds_part, points_to, implies, slots_before, member_part, element_part}
use Rattle.heap_graph.specs.Points.{is_null, is_data_pointer, is_indexed, is_element, is_member, takes, base_part, steps_part, path_part, base_typed, base_used, stored_closed, return_closed}
use Rattle.heap_graph.specs.Asks.{is_certain, base_of, own, address_asked, load_asked, store_asked, allocate_asked, move_asked, repoint_asked, point_asked}
use Rattle.heap_graph.proofs.Certain.{implies_step, or_step}
use Rattle.graph_unification.specs.Applying.{AllAsked}
use Rattle.dsa_local.specs.Growing.{OnlyFlagsGrow}
use Rattle.dsa_local.specs.Rounds.{points_at, Settled}
use Rattle.dsa_local.proofs.Grown.{Upward, at_grown, certain_grown, shifted_grown, edge_grown}

where_complete : (complete x y : Bool) → (x ≡ true → y ≡ true) → cond complete x true ≡ true → cond complete y true ≡ true
where_complete true x y f h = f h
where_complete false x y f h = refl

implies_up : (a x y : Bool) → (x ≡ true → y ≡ true) → implies a x ≡ true → implies a y ≡ true
implies_up true x y f h = f h
implies_up false x y f h = refl

holds_up : (structs : List StructDef) (c_type : CType) → Upward (holds_part structs c_type)
holds_up structs c_type a b shift grows h = ap (λ e. holds_part structs c_type (record { element = e; flags = a.flags; edges = [] }) shift) grows.element ∙ h

array_up : (asked : Bool) → Upward (λ node shift. implies asked node.flags.array)
array_up asked a b shift grows h = implies_up asked a.flags.array b.flags.array grows.flags.array h

module _ (tac : Tac) (old new : Graph) (owner : Owner) (grows : OnlyFlagsGrow old new) where
  -- ---- names and paths

  own_grown : (register : Register) → own tac new owner register ≡ own tac old owner register
  own_grown register = grows.names (OfRegister owner register)

  base_grown : (base : Base) → base_part tac new owner base ≡ base_part tac old owner base
  base_grown (AtLocal local) = λ i. record { target = grows.names (OfObject owner local) i; c_type = (base_part tac old owner (AtLocal local)).c_type }
  base_grown (AtGlobal number) = λ i. record { target = grows.names (OfGlobal number) i; c_type = (base_part tac old owner (AtGlobal number)).c_type }
  base_grown (AtLiteral number) = λ i. record { target = grows.names (OfLiteral number) i; c_type = (base_part tac old owner (AtLiteral number)).c_type }
  base_grown (Pointed pointer target) = λ i. record { target = own_grown pointer i; c_type = target }
  base_grown (Indexed pointer target number) = λ i. record { target = own_grown pointer i; c_type = target }

  steps_grown : (steps : List Step) (part : Part) → steps_part tac new owner steps part ≡ steps_part tac old owner steps part
  steps_grown [] part = refl
  steps_grown (Member number ∷ steps) part =
      let same : member_part tac.structs new number part ≡ member_part tac.structs old number part
      = λ i. record { target = shifted_grown old new grows (slots_before tac.structs part.c_type number) part.target i; c_type = (member_part tac.structs old number part).c_type } in
      ap (steps_part tac new owner steps) same ∙ steps_grown steps (member_part tac.structs old number part)
  steps_grown (Element index ∷ steps) part = steps_grown steps (element_part part)

  path_grown : (path : Path) → path_part tac new owner path ≡ path_part tac old owner path
  path_grown path = ap (steps_part tac new owner path.steps) (base_grown path.base) ∙ steps_grown path.steps (base_part tac old owner path.base)

  path_edge_grown : (path : Path) → edge_at new (path_part tac new owner path).target ≡ edge_at old (path_part tac old owner path).target
  path_edge_grown path = ap (λ (part : Part). edge_at new part.target) (path_grown path) ∙ edge_grown old new grows (path_part tac old owner path).target

  -- ---- what is told

  certain_base : (path : Path) → is_certain new (base_of tac new owner path) ≡ is_certain old (base_of tac old owner path)
  certain_base path = ap (λ (part : Part). is_certain new part.target) (base_grown path.base) ∙ certain_grown old new grows (base_of tac old owner path)

  certain_own : (register : Register) → is_certain new (own tac new owner register) ≡ is_certain old (own tac old owner register)
  certain_own register = ap (is_certain new) (own_grown register) ∙ certain_grown old new grows (own tac old owner register)

  at_base : (path : Path) (holds : Node → ℕ → Bool) → Upward holds → at_target old (base_of tac old owner path) holds ≡ true → at_target new (base_of tac new owner path) holds ≡ true
  at_base path holds up h = ap (λ (part : Part). at_target new part.target holds) (base_grown path.base) ∙ at_grown old new grows (base_of tac old owner path) holds up h

  at_own : (register : Register) (holds : Node → ℕ → Bool) → Upward holds → at_target old (own tac old owner register) holds ≡ true → at_target new (own tac new owner register) holds ≡ true
  at_own register holds up h = ap (λ t. at_target new t holds) (own_grown register) ∙ at_grown old new grows (own tac old owner register) holds up h

  told_grown : (c_type : CType) (register : Register) → points_to tac.structs old c_type (own tac old owner register) ≡ true → points_to tac.structs new c_type (own tac new owner register) ≡ true
  told_grown c_type register h =
      where_complete (is_complete tac.structs c_type) (at_target old (own tac old owner register) (holds_part tac.structs c_type)) (at_target new (own tac new owner register) (holds_part tac.structs c_type))
      (at_own register (holds_part tac.structs c_type) (holds_up tac.structs c_type)) h

  typed_grown : (base : Base) → base_typed tac old owner base ≡ true → base_typed tac new owner base ≡ true
  typed_grown (AtLocal local) h = refl
  typed_grown (AtGlobal number) h = refl
  typed_grown (AtLiteral number) h = refl
  typed_grown (Pointed pointer target) h = told_grown target pointer h
  typed_grown (Indexed pointer target number) h = told_grown target pointer h

  used_grown : (path : Path) → base_used tac old owner path ≡ true → base_used tac new owner path ≡ true
  used_grown path h = at_base path (λ node shift. implies (is_indexed path.base) node.flags.array) (array_up (is_indexed path.base)) h

  takes_grown : (target there : Option Target) → there ≡ target → (from : Register) → takes tac old owner target from ≡ true → takes tac new owner there from ≡ true
  takes_grown target there e from h = (λ i. is_null tac owner from || same_target (e i) (own_grown from i)) ∙ h

  -- ---- points

  move_grown : (to from : Register) → move_asked tac old owner to from ≡ true → move_asked tac new owner to from ≡ true
  move_grown to from h =
      let parts = and_parts _ _ h in
      and_from _ _ (takes_grown (own tac old owner to) (own tac new owner to) (own_grown to) from parts.0)
      (or_step (is_null tac owner from) (implies (is_certain old (own tac old owner from)) (at_target old (own tac old owner from) (λ node shift. node.flags.array)))
      (implies (is_certain new (own tac new owner from)) (at_target new (own tac new owner from) (λ node shift. node.flags.array)))
      (λ _ k. implies_step _ _ _ _ (certain_own from) (λ _ at. at_own from (λ node shift. node.flags.array) (λ a b shift more given. more.flags.array given) at) k) parts.1)

  repoint_grown : (to : Register) (target : CType) (from : Register) → repoint_asked tac old owner to target from ≡ true → repoint_asked tac new owner to target from ≡ true
  repoint_grown to target from h =
      let parts = and_parts _ _ h in
      and_from _ _ (takes_grown (own tac old owner to) (own tac new owner to) (own_grown to) from parts.0)
      (or_step (is_null tac owner from) (implies (is_certain old (own tac old owner from)) (points_to tac.structs old target (own tac old owner from)))
      (implies (is_certain new (own tac new owner from)) (points_to tac.structs new target (own tac new owner from)))
      (λ _ k. implies_step _ _ _ _ (certain_own from) (λ _ told. told_grown target from told) k) parts.1)

  address_grown : (to : Register) (path : Path) → address_asked tac old owner to path ≡ true → address_asked tac new owner to path ≡ true
  address_grown to path h = implies_step _ _ _ _ (certain_base path) parts h
    where
      parts : is_certain old (base_of tac old owner path) ≡ true
          → (same_target (own tac old owner to) (path_part tac old owner path).target
          && (implies (list_any is_member path.steps) (base_typed tac old owner path.base)
          && at_target old (base_of tac old owner path) (λ node shift. implies (is_indexed path.base || list_any is_element path.steps) node.flags.array))) ≡ true
          → (same_target (own tac new owner to) (path_part tac new owner path).target
          && (implies (list_any is_member path.steps) (base_typed tac new owner path.base)
          && at_target new (base_of tac new owner path) (λ node shift. implies (is_indexed path.base || list_any is_element path.steps) node.flags.array))) ≡ true
      parts c k =
          let one = and_parts _ _ k in
          let two = and_parts _ _ one.1 in
          and_from _ _ ((λ i. same_target (own_grown to i) (path_grown path i).target) ∙ one.0)
          (and_from _ _ (implies_up (list_any is_member path.steps) _ _ (typed_grown path.base) two.0)
          (at_base path (λ node shift. implies (is_indexed path.base || list_any is_element path.steps) node.flags.array) (array_up (is_indexed path.base || list_any is_element path.steps)) two.1))

  load_grown : (to : Register) (scalar : CType) (path : Path) → load_asked tac old owner to scalar path ≡ true → load_asked tac new owner to scalar path ≡ true
  load_grown to scalar path h = implies_step _ _ _ _ (certain_base path) parts h
    where
      parts : is_certain old (base_of tac old owner path) ≡ true
          → (base_typed tac old owner path.base && (base_used tac old owner path && (at_target old (base_of tac old owner path) (λ node shift. node.flags.read)
          && implies (is_data_pointer scalar) (is_certain old (own tac old owner to) && same_target (own tac old owner to) (edge_at old (path_part tac old owner path).target))))) ≡ true
          → (base_typed tac new owner path.base && (base_used tac new owner path && (at_target new (base_of tac new owner path) (λ node shift. node.flags.read)
          && implies (is_data_pointer scalar) (is_certain new (own tac new owner to) && same_target (own tac new owner to) (edge_at new (path_part tac new owner path).target))))) ≡ true
      parts c k =
          let one = and_parts _ _ k in
          let two = and_parts _ _ one.1 in
          let three = and_parts _ _ two.1 in
          and_from _ _ (typed_grown path.base one.0)
          (and_from _ _ (used_grown path two.0)
          (and_from _ _ (at_base path (λ node shift. node.flags.read) (λ a b shift more given. more.flags.read given) three.0)
          ((λ i. implies (is_data_pointer scalar) (certain_own to i && same_target (own_grown to i) (path_edge_grown path i))) ∙ three.1)))

  stored_grown : (scalar : CType) (value : Operand) (path : Path) → stored_closed tac old owner scalar value path ≡ true → stored_closed tac new owner scalar value path ≡ true
  stored_grown scalar (IntegerOperand tree) path h = refl
  stored_grown scalar (PointerOperand register) path h =
      implies_up (is_data_pointer scalar) _ _ (takes_grown (edge_at old (path_part tac old owner path).target) (edge_at new (path_part tac new owner path).target) (path_edge_grown path) register) h

  store_grown : (path : Path) (scalar : CType) (value : Operand) → store_asked tac old owner path scalar value ≡ true → store_asked tac new owner path scalar value ≡ true
  store_grown path scalar value h = implies_step _ _ _ _ (certain_base path) parts h
    where
      parts : is_certain old (base_of tac old owner path) ≡ true
          → (base_typed tac old owner path.base && (base_used tac old owner path && (at_target old (base_of tac old owner path) (λ node shift. node.flags.modified) && stored_closed tac old owner scalar value path))) ≡ true
          → (base_typed tac new owner path.base && (base_used tac new owner path && (at_target new (base_of tac new owner path) (λ node shift. node.flags.modified) && stored_closed tac new owner scalar value path))) ≡ true
      parts c k =
          let one = and_parts _ _ k in
          let two = and_parts _ _ one.1 in
          let three = and_parts _ _ two.1 in
          and_from _ _ (typed_grown path.base one.0)
          (and_from _ _ (used_grown path two.0)
          (and_from _ _ (at_base path (λ node shift. node.flags.modified) (λ a b shift more given. more.flags.modified given) three.0) (stored_grown scalar value path three.1)))

  allocate_grown : (site : ℕ) → allocate_asked tac old owner site ≡ true → allocate_asked tac new owner site ≡ true
  allocate_grown site h =
      let parts = and_parts _ _ h in
      and_from _ _ (certain_own (R.Call site) ∙ parts.0) (at_own (R.Call site) (λ node shift. node.flags.heap) (λ a b shift more given. more.flags.heap given) parts.1)

  return_grown : (value : Option Operand) → return_closed tac old owner value ≡ true → return_closed tac new owner value ≡ true
  return_grown None h = refl
  return_grown (Some (IntegerOperand tree)) h = refl
  return_grown (Some (PointerOperand register)) h = takes_grown (old.targets (OfResult owner)) (new.targets (OfResult owner)) (grows.names (OfResult owner)) register h

  pub asked_grown : (op : Op) → point_asked tac old owner op ≡ true → point_asked tac new owner op ≡ true
  asked_grown O.Reserved h = refl
  asked_grown (O.Jump to) h = refl
  asked_grown (O.Branch int_type condition holds fails) h = refl
  asked_grown (O.Assign to tree) h = refl
  asked_grown (O.Null to) h = refl
  asked_grown (O.FunctionAddress to function) h = refl
  asked_grown (O.Copy to from) h = takes_grown (own tac old owner to) (own tac new owner to) (own_grown to) from h
  asked_grown (O.Test to pointer) h = refl
  asked_grown (O.Move to pointer element is_minus number) h = move_grown to pointer h
  asked_grown (O.Difference to element left right) h = refl
  asked_grown (O.ComparePointers to relation left right) h = refl
  asked_grown (O.Repoint to target from) h = repoint_grown to target from h
  asked_grown (O.AddressOf to path) h = address_grown to path h
  asked_grown (O.Load to scalar path) h = load_grown to scalar path h
  asked_grown (O.Store path scalar value) h = store_grown path scalar value h
  asked_grown (O.Allocate site size) h = allocate_grown site h
  asked_grown (O.Free site pointer) h = refl
  asked_grown (O.Call site callee arguments) h = refl
  asked_grown (O.GetChar site) h = refl
  asked_grown (O.PutChar site value) h = refl
  asked_grown (O.Exit status) h = refl
  asked_grown (O.Return value) h = return_grown value h

  pub all_asked_grown : (ops : List Op) → AllAsked tac owner ops old → AllAsked tac owner ops new
  all_asked_grown [] asked = tt
  all_asked_grown (op ∷ ops) asked = (asked_grown op asked.0, all_asked_grown ops asked.1)

-- what all points of functions ask holds where there are more flags
pub settled_grown : (tac : Tac) (old new : Graph) → OnlyFlagsGrow old new → (owners : List Owner) → Settled tac owners old → Settled tac owners new
settled_grown tac old new grows [] settled = tt
settled_grown tac old new grows (owner ∷ owners) settled = (all_asked_grown tac old new owner grows (points_at tac owner) settled.0, settled_grown tac old new grows owners settled.1)
