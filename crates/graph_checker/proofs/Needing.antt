-- Nodes that are added for calls.
use Rattle.std.proofs.Common.{◌≡◌, ℕ, Bool, true, false, inl, inr, List, [], ◌∷◌, Option, Some, None, Bor, option_copied, refl, sym, ap, subst, ◌∙◌}
use Rattle.std.specs.Prelude.{slice_get}
use Rattle.std.proofs.lemmas.Bool.{false≢true}
use Rattle.c_typed.specs.Table.{Interned}
use Rattle.tac_ir.specs.declared.op.Op as memory_op
use Rattle.tac_ir.specs.declared.op.Op.TheVariants as M
use Rattle.tac_ir.specs.declared.register.Register.{Register}
use Rattle.tac_ir.specs.Code as O
use Rattle.tac_ir.specs.Code.{Callee, Op}
use Rattle.tac_ir.specs.States.{Owner, InFunction}
use Rattle.tac_ir.specs.Views.{op_in}
use Rattle.tac_ir.specs.Targets.{is_target}
use Rattle.call_graph.specs.RowLists.{Has}
use Rattle.call_graph.specs.TargetLists.{AreTargets}
use Rattle.indexmap.specs.IndexMap.{IndexMap}
use Rattle.heap_graph.specs.declared.graph.Target as memory_target
use Rattle.heap_graph.specs.Graphs.{Target}
use Rattle.heap_graph.specs.Closed.{Family, same_group, crossing}
use Rattle.heap_graph.specs.declared.program.FunctionGraph.{FunctionGraph}
use Rattle.heap_graph.specs.Programs.{image_in}
use Rattle.heap_graph.specs.declared.marks.NodeMarks.{NodeMarks}
use Rattle.heap_graph.specs.Marks.{Adds, IsNodeOf, IsAmong}
use Rattle.heap_graph.proofs.Adding.{adds_same, adds_nothing}
use Rattle.graph_checker.specs.Needed.{AnyOf, IsImageAt, IsImageFrom, IsNeededBy, IsNeededIn}

-- ---- one of a list

pub any_has : {X : Type 0} (P : X → ℕ → Type 0) (xs : List X) (number : ℕ) → AnyOf P xs number → (x : X) × Has xs x × P x number
any_has P [] number any = absurd any
any_has P (x ∷ xs) number (inl is) = (x, inl refl, is)
any_has P (x ∷ xs) number (inr any) = let rest = any_has P xs number any in (rest.0, inr rest.1, rest.2)

pub has_any : {X : Type 0} (P : X → ℕ → Type 0) (xs : List X) (number : ℕ) (x : X) → Has xs x → P x number → AnyOf P xs number
has_any P [] number x has is = absurd has
has_any P (first ∷ xs) number x (inl same) is = inl (subst (λ y. P y number) same is)
has_any P (first ∷ xs) number x (inr has) is = inr (has_any P xs number x has is)

-- ---- calls

abbrev pub no_call : Op → Bool
no_call (O.Call site callee arguments) = false
no_call op = true

module _ (family : Family) (owner : Owner) where
  pub call_adds : (site : ℕ) (callee : Callee) (arguments : List Register) (targets : List ℕ) (op : Op) → op ≡ O.Call site callee arguments → AreTargets family.tac callee targets
      → (old new : NodeMarks) → Adds old new (AnyOf (IsImageAt family owner site) targets) → Adds old new (IsImageFrom family owner op)
  call_adds site callee arguments targets op is are old new adds =
      adds_same old new (AnyOf (IsImageAt family owner site) targets) (IsImageFrom family owner op) to from adds
    where
      to : (number : ℕ) → AnyOf (IsImageAt family owner site) targets number → IsImageFrom family owner op number
      to number any =
          let found = any_has (IsImageAt family owner site) targets number any in
          record { site = site; callee = callee; arguments = arguments; called = found.0; is = is; target = (are.each found.0).0 found.1; at = found.2 }

      site_in : ℕ → Op → ℕ
      site_in other (O.Call site callee arguments) = site
      site_in other op = other

      callee_of : Callee → Op → Callee
      callee_of other (O.Call site callee arguments) = callee
      callee_of other op = other

      from : (number : ℕ) → IsImageFrom family owner op number → AnyOf (IsImageAt family owner site) targets number
      from number image =
          let same = sym is ∙ image.is in
          let site_same : site ≡ image.site = ap (site_in site) same in
          let callee_same : callee ≡ image.callee = ap (callee_of callee) same in
          has_any (IsImageAt family owner site) targets number image.called ((are.each image.called).1 (subst (λ c. is_target family.tac c image.called ≡ true) (sym callee_same) image.target))
          (subst (λ s. IsImageAt family owner s image.called number) (sym site_same) image.at)

  -- a point that is no call adds nothing
  pub others_add : (op : Op) → no_call op ≡ true → (marks : NodeMarks) → Adds marks marks (IsImageFrom family owner op)
  others_add op none marks = adds_nothing marks (IsImageFrom family owner op) (λ number image. false≢true (sym (ap no_call image.is) ∙ none))

  -- ---- a function to which a call may come

  module _ (site called : ℕ) where
    pub images_add : same_group family owner called ≡ false → (targets : ℕ → Option Target) → ((node : ℕ) → family.graphs.embedding (crossing family owner site called) node ≡ targets node)
        → (old new : NodeMarks) → Adds old new (IsAmong targets) → Adds old new (IsImageAt family owner site called)
    images_add outer targets same old new adds =
        adds_same old new (IsAmong targets) (IsImageAt family owner site called)
        (λ number among. record { outer = outer; image = (among.0, subst (λ (o : Option Target). IsNodeOf o number) (sym (same among.0)) among.1) })
        (λ number image. (image.image.0, subst (λ (o : Option Target). IsNodeOf o number) (same image.image.0) image.image.1)) adds

    pub none_inside : same_group family owner called ≡ true → (marks : NodeMarks) → Adds marks marks (IsImageAt family owner site called)
    none_inside inside marks = adds_nothing marks (IsImageAt family owner site called) (λ number image. false≢true (sym image.outer ∙ inside))

    pub none_there : ((node : ℕ) → family.graphs.embedding (crossing family owner site called) node ≡ None) → (marks : NodeMarks) → Adds marks marks (IsImageAt family owner site called)
    none_there none marks =
        adds_nothing marks (IsImageAt family owner site called) (λ number image. subst (λ (o : Option Target). IsNodeOf o number) (none image.image.0) image.image.1)

-- ---- points that are no calls

pub is_no_call : (table : Interned) (op : memory_op.Op) → ((site : ℕ) (callee : _) (arguments : _) → op ≡ M.Call site callee arguments → ⊥) → no_call (op_in table op) ≡ true
is_no_call table M.Reserved none = refl
is_no_call table (M.Jump to) none = refl
is_no_call table (M.Branch int_type condition holds fails) none = refl
is_no_call table (M.Assign to tree) none = refl
is_no_call table (M.Null to) none = refl
is_no_call table (M.FunctionAddress to function) none = refl
is_no_call table (M.Copy to from) none = refl
is_no_call table (M.Test to pointer) none = refl
is_no_call table (M.Move to pointer element is_minus number) none = refl
is_no_call table (M.Difference to element left right) none = refl
is_no_call table (M.ComparePointers to relation left right) none = refl
is_no_call table (M.Repoint to target from) none = refl
is_no_call table (M.Address to path) none = refl
is_no_call table (M.Load to scalar path) none = refl
is_no_call table (M.Store path scalar value) none = refl
is_no_call table (M.Allocate site size) none = refl
is_no_call table (M.Free site pointer) none = refl
is_no_call table (M.GetChar site) none = refl
is_no_call table (M.PutChar site value) none = refl
is_no_call table (M.Exit status) none = refl
is_no_call table (M.Return value) none = refl
is_no_call table (M.Call site callee arguments) none = absurd (none site callee arguments refl)

-- ---- a function of the program

abbrev pub NeededIf : Family → ℕ → ℕ → Option FunctionGraph → Option O.Function → Type 0
NeededIf family number own (Some graph) (Some function) = IsNeededBy family (InFunction own) graph.names function.points number
NeededIf family number own _ _ = ⊥

pub needed_in : (family : Family) (functions : List FunctionGraph) (own : ℕ) (graph : FunctionGraph) (function : O.Function) → slice_get functions own ≡ Some graph → slice_get family.tac.functions own ≡ Some function
    → (old new : NodeMarks) → Adds old new (IsNeededBy family (InFunction own) graph.names function.points) → Adds old new (IsNeededIn family functions own)
needed_in family functions own graph function there code old new adds =
    subst (λ (o : Option FunctionGraph). Adds old new (λ number. NeededIf family number own o (slice_get family.tac.functions own))) (sym there)
    (subst (λ (o : Option O.Function). Adds old new (λ number. NeededIf family number own (Some graph) o)) (sym code) adds)

-- ---- embeddings

pub image_missing : {S : Type 0} (found : Option (Bor (IndexMap ℕ memory_target.Target S))) (kept : Option (IndexMap ℕ memory_target.Target S)) → option_copied found ≡ kept
    → ((own : Bor (IndexMap ℕ memory_target.Target S)) → found ≡ Some own → ⊥) → (node : ℕ) → image_in kept node ≡ None
image_missing None kept copied none node = ap (λ k. image_in k node) (sym copied)
image_missing (Some own) kept copied none node = absurd (none own refl)
