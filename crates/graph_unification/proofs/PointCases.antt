-- Points one after the other.
use Rattle.std.proofs.Common.{◌≡◌, ℕ, ◌+◌, ◌<◌, ◌≤◌, Bool, true, false, List, [], ◌∷◌, Option, length, drop, get_or, map, refl, sym, ap, subst, ◌∙◌}
use Rattle.std.proofs.lemmas.List.{at_drop_more, drop_all}
use Rattle.c_typed.specs.declared.c_type.CType as memory_type
use Rattle.c_typed.specs.Table.{Interned}
use Rattle.std.specs.Prelude.{◌||◌}
use Rattle.tac_ir.specs.Code.{Op, Tac}
use Rattle.tac_ir.specs.States.{Owner}
use Rattle.tac_ir.specs.Views.{op_in}
use Rattle.tac_ir.specs.declared.register.Register.{Register}
use Rattle.tac_ir.specs.declared.tree.Tree as memory_tree
use Rattle.tac_ir.specs.declared.path.Path as memory_path
use Rattle.tac_ir.specs.declared.op.Scalar.{Scalar}
use Rattle.tac_ir.specs.declared.op.Operand as memory_operand
use Rattle.tac_ir.specs.declared.op.Op as memory_op
use Rattle.tac_ir.specs.declared.op.Op.TheVariants as O
use Rattle.heap_graph.specs.Graphs.{Graph}
use Rattle.heap_graph.specs.Structures.{AreMade}
use Rattle.heap_graph.specs.Merging.{IsSound, GraphMap, Maps}
use Rattle.graph_unification.specs.Fits.{OpFits, AllFit}
use Rattle.graph_unification.specs.Applying.{Applies, IsAsked, AllAsked, GoesOn}
use Rattle.graph_unification.proofs.Changing.{nothing, both}
use Rattle.graph_unification.proofs.Staying.{fits_kept}

-- what is done for a point of a kind
pub of_point : (tac : Tac) (owner : Owner) (changed : Bool) (old new : Graph) (op kind : Op) → op ≡ kind → Applies tac.structs changed old new (IsAsked tac owner kind) → Applies tac.structs changed old new (IsAsked tac owner op)
of_point tac owner changed old new op kind e its = subst (λ o. Applies tac.structs changed old new (IsAsked tac owner o)) (sym e) its

-- one of another kind asks nothing
module _ (table : Interned) (tac : Tac) (owner : Owner) (graph : Graph) where
  pub unasked : (op : memory_op.Op) → ((to from : Register) → op ≡ O.Copy to from → ⊥) → ((to pointer : Register) (element : memory_type.CType) (is_minus : Bool) (number : memory_tree.Tree) → op ≡ O.Move to pointer element is_minus number → ⊥)
      → ((to : Register) (target : memory_type.CType) (from : Register) → op ≡ O.Repoint to target from → ⊥) → ((to : Register) (path : memory_path.Path) → op ≡ O.Address to path → ⊥)
      → ((to : Register) (scalar : Scalar) (path : memory_path.Path) → op ≡ O.Load to scalar path → ⊥) → ((path : memory_path.Path) (scalar : Scalar) (value : memory_operand.Operand) → op ≡ O.Store path scalar value → ⊥)
      → ((site : ℕ) (size : memory_tree.Tree) → op ≡ O.Allocate site size → ⊥) → ((value : Option memory_operand.Operand) → op ≡ O.Return value → ⊥) → IsAsked tac owner (op_in table op) graph
  unasked (O.Copy to from) copy move repoint address load store allocate returns = absurd (copy to from refl)
  unasked (O.Move to pointer element is_minus number) copy move repoint address load store allocate returns = absurd (move to pointer element is_minus number refl)
  unasked (O.Repoint to target from) copy move repoint address load store allocate returns = absurd (repoint to target from refl)
  unasked (O.Address to path) copy move repoint address load store allocate returns = absurd (address to path refl)
  unasked (O.Load to scalar path) copy move repoint address load store allocate returns = absurd (load to scalar path refl)
  unasked (O.Store path scalar value) copy move repoint address load store allocate returns = absurd (store path scalar value refl)
  unasked (O.Allocate site size) copy move repoint address load store allocate returns = absurd (allocate site size refl)
  unasked (O.Return value) copy move repoint address load store allocate returns = absurd (returns value refl)
  unasked O.Reserved copy move repoint address load store allocate returns = refl
  unasked (O.Jump to) copy move repoint address load store allocate returns = refl
  unasked (O.Branch int_type condition holds fails) copy move repoint address load store allocate returns = refl
  unasked (O.Assign to tree) copy move repoint address load store allocate returns = refl
  unasked (O.Null to) copy move repoint address load store allocate returns = refl
  unasked (O.FunctionAddress to function) copy move repoint address load store allocate returns = refl
  unasked (O.Test to pointer) copy move repoint address load store allocate returns = refl
  unasked (O.Difference to element left right) copy move repoint address load store allocate returns = refl
  unasked (O.ComparePointers to relation left right) copy move repoint address load store allocate returns = refl
  unasked (O.Free site pointer) copy move repoint address load store allocate returns = refl
  unasked (O.Call site callee arguments) copy move repoint address load store allocate returns = refl
  unasked (O.GetChar site) copy move repoint address load store allocate returns = refl
  unasked (O.PutChar site value) copy move repoint address load store allocate returns = refl
  unasked (O.Exit status) copy move repoint address load store allocate returns = refl

pub not_asked : (tac : Tac) → AreMade tac.structs → (owner : Owner) (graph : Graph) → IsSound tac.structs graph → (op : Op) → IsAsked tac owner op graph → Applies tac.structs false graph graph (IsAsked tac owner op)
not_asked tac made owner graph sound op asked = nothing tac.structs made graph sound (IsAsked tac owner op) asked

-- ---- all points

module _ (tac : Tac) (owner : Owner) where
  pub all_kept : AreMade tac.structs → (old new : Graph) (map : GraphMap) → IsSound tac.structs old → Maps tac.structs old new map → (ops : List Op) → AllFit tac old owner ops → AllFit tac new owner ops
  all_kept made old new map sound maps [] fit = tt
  all_kept made old new map sound maps (op ∷ ops) fit = (fits_kept tac made owner old new map sound maps op fit.0, all_kept made old new map sound maps ops fit.1)

  pub begins : (start : Graph) (all : List Op) → GoesOn tac owner start all false start all
  begins start all = λ b new its. its

  pub goes_on : AreMade tac.structs → (start : Graph) (all : List Op) (changed applied : Bool) (graph next : Graph) → IsSound tac.structs graph → (op : Op) (left : List Op) → GoesOn tac owner start all changed graph (op ∷ left)
      → Applies tac.structs applied graph next (IsAsked tac owner op) → GoesOn tac owner start all (changed || applied) next left
  goes_on made start all changed applied graph next sound op left gives point = λ b new its.
      subst (λ x. Applies tac.structs x start new (AllAsked tac owner all)) (grouped changed applied b)
      (gives (applied || b) new (both tac.structs made applied b graph next new sound (IsAsked tac owner op) (AllAsked tac owner left) point its))
    where
      grouped : (x y z : Bool) → (x || (y || z)) ≡ ((x || y) || z)
      grouped true y z = refl
      grouped false y z = refl

  pub ends : AreMade tac.structs → (start : Graph) (all : List Op) (changed : Bool) (graph : Graph) → IsSound tac.structs graph → GoesOn tac owner start all changed graph [] → Applies tac.structs changed start graph (AllAsked tac owner all)
  ends made start all changed graph sound gives =
      subst (λ x. Applies tac.structs x start graph (AllAsked tac owner all)) (alone changed) (gives false graph (nothing tac.structs made graph sound (AllAsked tac owner []) tt))
    where
      alone : (x : Bool) → (x || false) ≡ x
      alone true = refl
      alone false = refl

  -- the next point, and those behind it
  module _ {X : Type 0} (f : X → Op) (xs : List X) where
    next : (i : ℕ) (x : X) → x ≡ get_or xs i x → i < length xs → map f (drop i xs) ≡ f x ∷ map f (drop (i + 1) xs)
    next i x is within = at_drop_more (map f) xs i x within ∙ ap (λ y. f y ∷ map f (drop (i + 1) xs)) (sym is)

    pub next_fits : (graph : Graph) (i : ℕ) (x : X) → x ≡ get_or xs i x → i < length xs → AllFit tac graph owner (map f (drop i xs)) → OpFits tac graph owner (f x) × AllFit tac graph owner (map f (drop (i + 1) xs))
    next_fits graph i x is within fit = subst (AllFit tac graph owner) (next i x is within) fit

    pub on_after : (start : Graph) (all : List Op) (changed : Bool) (graph : Graph) (i : ℕ) (x : X) → x ≡ get_or xs i x → i < length xs → GoesOn tac owner start all changed graph (map f (drop i xs))
        → GoesOn tac owner start all changed graph (f x ∷ map f (drop (i + 1) xs))
    on_after start all changed graph i x is within gives = subst (GoesOn tac owner start all changed graph) (next i x is within) gives

    pub on_at_end : (start : Graph) (all : List Op) (changed : Bool) (graph : Graph) (i : ℕ) → length xs ≤ i → GoesOn tac owner start all changed graph (map f (drop i xs)) → GoesOn tac owner start all changed graph []
    on_at_end start all changed graph i out gives = subst (λ l. GoesOn tac owner start all changed graph (map f l)) (drop_all i xs out) gives
