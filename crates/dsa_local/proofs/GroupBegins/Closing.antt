-- What is told of names in a graph that was made closes the graph of a program that shows its certain nodes.
use Rattle.std.proofs.Common.{◌≡◌, ℕ, suc, ◌+◌, Bool, true, false, List, [], ◌∷◌, length, Option, Some, None, refl, sym, ap, subst, ◌∙◌, arith}
use Rattle.std.specs.Prelude.{slice_get, ◌&&◌}
use Rattle.std.proofs.lemmas.Bool.{false≢true, and_from, ltb-true}
use Rattle.std.proofs.lemmas.Option.{same_Some}
use Rattle.c_typed.specs.Types.{CType, literal_type}
use Rattle.c_typed.specs.Layouts.{StructDef}
use Rattle.c_typed.specs.Typed.{GlobalDef, LiteralDef}
use Rattle.tac_ir.specs.declared.register.Local.TheVariants as L
use Rattle.tac_ir.specs.declared.register.Register.TheVariants as R
use Rattle.tac_ir.specs.Code as O
use Rattle.tac_ir.specs.Code.{Base, AtLocal, AtGlobal, AtLiteral, Pointed, Indexed, LocalObject, Function, Op}
use Rattle.tac_ir.specs.States.{Owner, InFunction}
use Rattle.heap_graph.specs.Graphs.{Target, Flags, Node, Name, OfRegister, OfResult, OfObject, OfGlobal, OfLiteral, OfCopy, Graph, is_copy}
use Rattle.heap_graph.specs.Targets.{has_target, at_target, holds_part, is_array, elements_of, implies, flags_kept}
use Rattle.heap_graph.specs.Points.{is_data_pointer}
use Rattle.heap_graph.specs.Closed.{Family, graph_of, formal, parameters_of, formals_closed, object_closed, locals_closed, global_closed, globals_closed, literal_closed, literals_closed, base_mentioned, mentions_closed, is_name}
use Rattle.heap_graph.proofs.MapsCompose.{at_there, at_from}
use Rattle.heap_graph.specs.Asks.{is_certain}
use Rattle.heap_graph.specs.Restricted.{SameFlags, Restricts}
use Rattle.heap_graph.proofs.Certain.{if_yes, has_if}
use Rattle.heap_graph.proofs.Restricting.{holds_depends, at_certain}
use Rattle.graph_unification.proofs.Staying.{implied_holds}
use Rattle.graph_unification.specs.Named.{BaseNamed, OpNamed}
use Rattle.graph_unification.specs.Standing.{ObjectsApart}
use Rattle.graph_unification.proofs.Fitting.{found_below}
use Rattle.dsa_local.specs.Mentioned.{is_among}
use Rattle.dsa_local.specs.Told.{IsObject, FunctionTold, NamesTold, NoCopies}
use Rattle.dsa_local.specs.Shown.{Shows}
use Rattle.dsa_local.proofs.Telling.{certain_has}
use Rattle.dsa_local.proofs.GroupBegins.Kept.{each_kept}

-- ---- nodes that are shown

-- what is told of elements and flags is told where flags are more
abbrev pub Grows : (Node → ℕ → Bool) → Type 0
Grows holds = (a b : Node) (shift : ℕ) → b.element ≡ a.element → flags_kept a.flags b.flags ≡ true → holds a shift ≡ true → holds b shift ≡ true

part_grows : (structs : List StructDef) (c_type : CType) → Grows (holds_part structs c_type)
part_grows structs c_type a b shift element flags h = ap (λ e. holds_part structs c_type (record { element = e; flags = b.flags; edges = [] }) shift) element ∙ h

stack_grows : Grows (λ node shift. node.flags.stack)
stack_grows a b shift element flags h = implied_holds a.flags.stack b.flags.stack (each_kept a.flags b.flags flags).stack h

global_grows : Grows (λ node shift. node.flags.global)
global_grows a b shift element flags h = implied_holds a.flags.global b.flags.global (each_kept a.flags b.flags flags).global h

array_grows : (asked : Bool) → Grows (λ node shift. implies asked node.flags.array)
array_grows true a b shift element flags h = implied_holds a.flags.array b.flags.array (each_kept a.flags b.flags flags).array h
array_grows false a b shift element flags h = refl

both_hold : (graph : Graph) (target : Option Target) (one two : Node → ℕ → Bool) → at_target graph target one ≡ true → at_target graph target two ≡ true
    → at_target graph target (λ node shift. one node shift && two node shift) ≡ true
both_hold graph None one two h k = refl
both_hold graph (Some target) one two h k =
    let first = at_there graph target one h in
    let second = at_there graph target two k in
    let same : first.node ≡ second.node = same_Some first.node second.node (sym first.is ∙ second.is) in
    at_from graph target (λ node shift. one node shift && two node shift) first.node first.is
    (and_from (one first.node target.shift) (two first.node target.shift) first.so (ap (λ n. two n target.shift) same ∙ second.so))

no_copy : (graph : Graph) → NoCopies graph → (name : Name) → is_copy name ≡ true → has_target (graph.targets name) ≡ false
no_copy graph none (OfCopy number) h = ap has_target (none number)
no_copy graph none (OfRegister owner register) h = absurd (false≢true h)
no_copy graph none (OfResult owner) h = absurd (false≢true h)
no_copy graph none (OfObject owner local) h = absurd (false≢true h)
no_copy graph none (OfGlobal number) h = absurd (false≢true h)
no_copy graph none (OfLiteral number) h = absurd (false≢true h)

module _ (family : Family) (made kept : Graph) (restricts : Restricts made kept) (owner : Owner) (shows : Shows kept (graph_of family owner)) where
  shown_at : (target : Option Target) (holds : Node → ℕ → Bool) → Grows holds → at_target kept target holds ≡ true → at_target (graph_of family owner) target holds ≡ true
  shown_at None holds grows h = refl
  shown_at (Some target) holds grows h =
      let there = at_there kept target holds h in
      let now = shows.nodes target.node there.node there.is in
      at_from (graph_of family owner) target holds now.now now.is (grows there.node now.now target.shift now.element now.flags there.so)

  -- a name that has a certain node has that target
  target_is : (name : Name) → is_copy name ≡ false → is_certain made (made.targets name) ≡ true → (graph_of family owner).targets name ≡ made.targets name
  target_is name own certain = shows.names name own ∙ (restricts.names name own ∙ if_yes made (made.targets name) certain)

  has_is : (name : Name) → is_copy name ≡ false → has_target ((graph_of family owner).targets name) ≡ is_certain made (made.targets name)
  has_is name own = ap has_target (shows.names name own ∙ restricts.names name own) ∙ has_if made (made.targets name)

  -- ---- objects

  object_closes : (name : Name) (c_type : CType) (has_flag : Flags → Bool) → is_copy name ≡ false → Grows (λ node shift. has_flag node.flags)
      → ((a b : Node) (shift : ℕ) → SameFlags a.flags b.flags → has_flag a.flags ≡ has_flag b.flags) → IsObject family.tac.structs made c_type has_flag (made.targets name)
      → object_closed family owner c_type has_flag ((graph_of family owner).targets name) ≡ true
  object_closes name c_type has_flag own grows depends its =
      let structs = family.tac.structs in
      let target = made.targets name in
      let is = target_is name own its.certain in
      let part = shown_at target (holds_part structs (elements_of c_type)) (part_grows structs (elements_of c_type))
      (at_certain made kept restricts target (holds_part structs (elements_of c_type)) (holds_depends structs (elements_of c_type)) its.certain ∙ its.part) in
      let flag = shown_at target (λ node shift. has_flag node.flags) grows
      (at_certain made kept restricts target (λ node shift. has_flag node.flags) (λ a b shift element flags. depends a b shift flags) its.certain ∙ its.flag) in
      let array = shown_at target (λ node shift. implies (is_array c_type) node.flags.array) (array_grows (is_array c_type))
      (at_certain made kept restricts target (λ node shift. implies (is_array c_type) node.flags.array) (λ a b shift element flags. ap (implies (is_array c_type)) flags.array) its.certain ∙ its.array) in
      subst (λ t. object_closed family owner c_type has_flag t ≡ true) (sym is)
      (and_from _ _ (certain_has made target its.certain)
      (both_hold (graph_of family owner) target (holds_part structs (elements_of c_type)) (λ node shift. has_flag node.flags && implies (is_array c_type) node.flags.array) part
      (both_hold (graph_of family owner) target (λ node shift. has_flag node.flags) (λ node shift. implies (is_array c_type) node.flags.array) flag array)))

  -- ---- locals

  locals_from : (objects : List LocalObject)
      → ((number : ℕ) (object : LocalObject) → slice_get objects number ≡ Some object → IsObject family.tac.structs made object.c_type (λ flags. flags.stack) (made.targets (OfObject owner object.local)))
      → locals_closed family owner objects ≡ true
  locals_from [] all = refl
  locals_from (object ∷ objects) all =
      and_from _ _ (object_closes (OfObject owner object.local) object.c_type (λ flags. flags.stack) refl stack_grows (λ a b shift flags. flags.stack) (all 0 object refl))
      (locals_from objects (λ number. all (suc number)))

  pub locals_close : (function : Function) → ObjectsApart function.objects → FunctionTold family.tac made owner function → locals_closed family owner function.objects ≡ true
  locals_close function apart told =
      locals_from function.objects (λ number object is. told.locals object.local (record { offset = 0; c_type = object.c_type }) (apart number object is))

  -- ---- formals

  formals_from : (number : ℕ) → owner ≡ InFunction number → (first : ℕ) (types : List CType)
      → ((at index : ℕ) (c_type : CType) → at ≡ first + index → slice_get types index ≡ Some c_type → is_data_pointer c_type ≡ true → has_target ((graph_of family owner).targets (formal number at)) ≡ true)
      → formals_closed family owner number first types ≡ true
  formals_from number is first [] all = refl
  formals_from number is first (c_type ∷ types) all =
      and_from _ _ (by (is_data_pointer c_type) refl)
      (formals_from number is (suc first) types (λ at index other same found pointer. all at (suc index) other (omega (arith, same)) found pointer))
    where
      by : (b : Bool) → is_data_pointer c_type ≡ b → implies b (has_target ((graph_of family owner).targets (formal number first))) ≡ true
      by false e = refl
      by true e = all first 0 c_type (omega arith) refl e

  pub formals_close : (function : Function) → FunctionTold family.tac made owner function → (number : ℕ) → owner ≡ InFunction number
      → formals_closed family owner number 0 (parameters_of function.c_type) ≡ true
  formals_close function told number is =
      formals_from number is 0 (parameters_of function.c_type) (λ at index c_type same found pointer.
      let name = OfRegister (InFunction number) (R.Local (L.Parameter at)) in
      let here : index ≡ at = omega (arith, same) in
      has_is name refl
      ∙ subst (λ o. is_certain made (made.targets (OfRegister o (R.Local (L.Parameter at)))) ≡ true) is
      (told.formals number is at c_type (ap (slice_get (parameters_of function.c_type)) (sym here) ∙ found) pointer))

  -- ---- variables outside functions, and literals

  module _ (owners : List Owner) (told : NamesTold family.tac owners made) where
    -- one that has a target is certain
    global_certain : (number : ℕ) → has_target (made.targets (OfGlobal number)) ≡ true → is_certain made (made.targets (OfGlobal number)) ≡ true
    global_certain number has =
        let found = found_below family.tac.globals number (ltb-true number (length family.tac.globals) (told.only (OfGlobal number) refl has)) in
        (told.statics.globals number found.0 found.1 has).certain

    literal_certain : (number : ℕ) → has_target (made.targets (OfLiteral number)) ≡ true → is_certain made (made.targets (OfLiteral number)) ≡ true
    literal_certain number has =
        let found = found_below family.tac.literals number (ltb-true number (length family.tac.literals) (told.only (OfLiteral number) refl has)) in
        (told.statics.literals number found.0 found.1 has).certain

    global_from : (number : ℕ) (global : GlobalDef) → slice_get family.tac.globals number ≡ Some global → global_closed family owner number global ≡ true
    global_from number global is = by (has_target ((graph_of family owner).targets (OfGlobal number))) refl
      where
        by : (b : Bool) → has_target ((graph_of family owner).targets (OfGlobal number)) ≡ b
            → implies b (object_closed family owner global.c_type (λ flags. flags.global) ((graph_of family owner).targets (OfGlobal number))) ≡ true
        by false e = refl
        by true e =
            let certain : is_certain made (made.targets (OfGlobal number)) ≡ true = sym (has_is (OfGlobal number) refl) ∙ e in
            object_closes (OfGlobal number) global.c_type (λ flags. flags.global) refl global_grows (λ a b shift flags. flags.global)
            (told.statics.globals number global is (certain_has made (made.targets (OfGlobal number)) certain))

    globals_from : (first : ℕ) (globals : List GlobalDef) → ((at index : ℕ) (global : GlobalDef) → at ≡ first + index → slice_get globals index ≡ Some global → global_closed family owner at global ≡ true)
        → globals_closed family owner first globals ≡ true
    globals_from first [] all = refl
    globals_from first (global ∷ globals) all =
        and_from _ _ (all first 0 global (omega arith) refl) (globals_from (suc first) globals (λ at index other same found. all at (suc index) other (omega (arith, same)) found))

    pub globals_close : globals_closed family owner 0 family.tac.globals ≡ true
    globals_close = globals_from 0 family.tac.globals (λ at index global same found.
        let here : index ≡ at = omega (arith, same) in
        global_from at global (ap (slice_get family.tac.globals) (sym here) ∙ found))

    literal_from : (number : ℕ) (literal : LiteralDef) → slice_get family.tac.literals number ≡ Some literal → literal_closed family owner number literal ≡ true
    literal_from number literal is = by (has_target ((graph_of family owner).targets (OfLiteral number))) refl
      where
        by : (b : Bool) → has_target ((graph_of family owner).targets (OfLiteral number)) ≡ b
            → implies b (object_closed family owner (literal_type literal.bytes) (λ flags. flags.global) ((graph_of family owner).targets (OfLiteral number))) ≡ true
        by false e = refl
        by true e =
            let certain : is_certain made (made.targets (OfLiteral number)) ≡ true = sym (has_is (OfLiteral number) refl) ∙ e in
            object_closes (OfLiteral number) (literal_type literal.bytes) (λ flags. flags.global) refl global_grows (λ a b shift flags. flags.global)
            (told.statics.literals number literal is (certain_has made (made.targets (OfLiteral number)) certain))

    literals_from : (first : ℕ) (literals : List LiteralDef) → ((at index : ℕ) (literal : LiteralDef) → at ≡ first + index → slice_get literals index ≡ Some literal → literal_closed family owner at literal ≡ true)
        → literals_closed family owner first literals ≡ true
    literals_from first [] all = refl
    literals_from first (literal ∷ literals) all =
        and_from _ _ (all first 0 literal (omega arith) refl) (literals_from (suc first) literals (λ at index other same found. all at (suc index) other (omega (arith, same)) found))

    pub literals_close : literals_closed family owner 0 family.tac.literals ≡ true
    literals_close = literals_from 0 family.tac.literals (λ at index literal same found.
        let here : index ≡ at = omega (arith, same) in
        literal_from at literal (ap (slice_get family.tac.literals) (sym here) ∙ found))

    -- ---- what paths begin with

    pub base_closes : (base : Base) → BaseNamed family.tac made base → base_mentioned family owner base ≡ true
    base_closes (AtGlobal number) named = has_is (OfGlobal number) refl ∙ global_certain number named.has
    base_closes (AtLiteral number) named = has_is (OfLiteral number) refl ∙ literal_certain number named.has
    base_closes (AtLocal local) named = refl
    base_closes (Pointed pointer target) named = refl
    base_closes (Indexed pointer target number) named = refl

    pub mentions_close : (op : Op) → OpNamed family.tac made op → mentions_closed family owner op ≡ true
    mentions_close (O.AddressOf to path) named = base_closes path.base named
    mentions_close (O.Load to scalar path) named = base_closes path.base named
    mentions_close (O.Store path scalar value) named = base_closes path.base named
    mentions_close (O.Copy to from) named = refl
    mentions_close (O.Move to from element is_minus number) named = refl
    mentions_close (O.Repoint to target from) named = refl
    mentions_close (O.Allocate site size) named = refl
    mentions_close (O.Return value) named = refl
    mentions_close O.Reserved named = refl
    mentions_close (O.Jump to) named = refl
    mentions_close (O.Branch int_type condition holds fails) named = refl
    mentions_close (O.Assign to tree) named = refl
    mentions_close (O.Null to) named = refl
    mentions_close (O.FunctionAddress to callee) named = refl
    mentions_close (O.Test to pointer) named = refl
    mentions_close (O.Difference to element left right) named = refl
    mentions_close (O.ComparePointers to relation left right) named = refl
    mentions_close (O.Free site pointer) named = refl
    mentions_close (O.Call site callee arguments) named = refl
    mentions_close (O.GetChar site) named = refl
    mentions_close (O.PutChar site value) named = refl
    mentions_close (O.Exit status) named = refl

    -- ---- only names of the group

    pub only_close : NoCopies (graph_of family owner) → (name : Name) → has_target ((graph_of family owner).targets name) ≡ true → is_name family.tac (λ other. is_among other owners) name ≡ true
    only_close none name has = by (is_copy name) refl
      where
        by : (b : Bool) → is_copy name ≡ b → is_name family.tac (λ other. is_among other owners) name ≡ true
        by false own = told.only name own (certain_has made (made.targets name) (sym (has_is name own) ∙ has))
        by true own = absurd (false≢true (sym (no_copy (graph_of family owner) none name own) ∙ has))
