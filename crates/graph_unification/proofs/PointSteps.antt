-- What is done for points that handle pointers alone.
use Rattle.std.proofs.Common.{◌≡◌, ℕ, Bool, true, false, Option, Some, None, refl, sym, ap, subst, ◌∙◌}
use Rattle.std.specs.Prelude.{◌||◌}
use Rattle.std.proofs.lemmas.Bool.{false≢true, and_parts, and_from}
use Rattle.c_typed.specs.Types.{CType}
use Rattle.tac_ir.specs.declared.register.Register.{Register}
use Rattle.tac_ir.specs.declared.register.Register.TheVariants as R
use Rattle.tac_ir.specs.Code.{Tree, Operand, IntegerOperand, PointerOperand, Tac}
use Rattle.tac_ir.specs.States.{Owner}
use Rattle.heap_graph.specs.Graphs.{Target, Node, Name, OfRegister, OfResult, Graph, node_at}
use Rattle.heap_graph.specs.Structures.{AreMade}
use Rattle.heap_graph.specs.Targets.{has_target, at_target, implies}
use Rattle.heap_graph.specs.Points.{is_null, of_register, return_closed}
use Rattle.heap_graph.specs.Merging.{IsSound}
use Rattle.heap_graph.proofs.MapsCompose.{at_there, at_from}
use Rattle.heap_graph.specs.Asks.{is_certain, allocate_asked, move_asked, repoint_asked}
use Rattle.heap_graph.proofs.Certain.{certain_some, target_of_certain}
use Rattle.graph_unification.specs.declared.marks.Mark.TheVariants as M
use Rattle.graph_unification.specs.Asked.{has_mark}
use Rattle.graph_unification.specs.Applying.{Applies, AreSame, IsMarked, IsTold, IsTaken, IsOfArray, IsOfType}
use Rattle.graph_unification.proofs.Changing.{nothing, both, for_other}
use Rattle.graph_unification.proofs.Staying.{implied_holds, certain_kept}

pub or_right : (n x : Bool) → x ≡ true → (n || x) ≡ true
or_right true x e = refl
or_right false x e = e

pub null_holds : (n x : Bool) → n ≡ true → (n || x) ≡ true
null_holds true x e = refl
null_holds false x e = absurd (false≢true e)

pub not_null : (n x : Bool) → n ≡ false → (n || x) ≡ true → x ≡ true
not_null n x e h = ap (λ b. b || x) (sym e) ∙ h

pub implies_any : (a b : Bool) → b ≡ true → implies a b ≡ true
implies_any true b e = e
implies_any false b e = refl

pub implies_not : (a b : Bool) → a ≡ false → implies a b ≡ true
implies_not a b e = ap (λ x. implies x b) e

-- a target whose node is certain
pub certain_has : (graph : Graph) (target : Option Target) → is_certain graph target ≡ true → has_target target ≡ true
certain_has graph target h = ap has_target (target_of_certain graph target h).1

pub certain_marked : (graph : Graph) (target : Option Target) → is_certain graph target ≡ true → at_target graph target (λ node shift. has_mark M.Certain node.flags) ≡ true
certain_marked graph None h = refl
certain_marked graph (Some x) h =
    let its = target_of_certain graph (Some x) h in
    by its.0 its.1 its.2.node its.2.is its.2.so
  where
    by : (y : Target) → Some x ≡ Some y → (node : Node) → node_at graph y.node ≡ Some node → node.flags.certain ≡ true → at_target graph (Some x) (λ node shift. has_mark M.Certain node.flags) ≡ true
    by y same node is so = ap (λ t. at_target graph t (λ node shift. has_mark M.Certain node.flags)) same ∙ at_from graph y (λ node shift. has_mark M.Certain node.flags) node is so

pub marked_certain : (graph : Graph) (target : Option Target) → has_target target ≡ true → at_target graph target (λ node shift. has_mark M.Certain node.flags) ≡ true → is_certain graph target ≡ true
marked_certain graph None has h = absurd (false≢true has)
marked_certain graph (Some x) has h = let there = at_there graph x (λ node shift. has_mark M.Certain node.flags) h in certain_some graph x there.node there.is ∙ there.so

module _ (tac : Tac) (made : AreMade tac.structs) (owner : Owner) (old : Graph) (sound : IsSound tac.structs old) where
  -- nothing is asked of null constants
  pub null_taken : (name : Name) (from : Register) → is_null tac owner from ≡ true → Applies tac.structs false old old (IsTaken tac owner name from)
  null_taken name from e = nothing tac.structs made old sound (IsTaken tac owner name from) (null_holds (is_null tac owner from) _ e)

  pub null_array : (from : Register) → is_null tac owner from ≡ true → Applies tac.structs false old old (IsOfArray tac owner from)
  null_array from e = nothing tac.structs made old sound (IsOfArray tac owner from) (null_holds (is_null tac owner from) _ e)

  pub null_type : (c_type : CType) (from : Register) → is_null tac owner from ≡ true → Applies tac.structs false old old (IsOfType tac owner c_type from)
  null_type c_type from e = nothing tac.structs made old sound (IsOfType tac owner c_type from) (null_holds (is_null tac owner from) _ e)

  -- nor of what isn't certain
  pub uncertain_array : (from : Register) → is_certain old (of_register tac old owner from) ≡ false → Applies tac.structs false old old (IsOfArray tac owner from)
  uncertain_array from e = nothing tac.structs made old sound (IsOfArray tac owner from) (or_right (is_null tac owner from) _ (implies_not _ _ e))

  pub uncertain_type : (c_type : CType) (from : Register) → is_certain old (of_register tac old owner from) ≡ false → Applies tac.structs false old old (IsOfType tac owner c_type from)
  uncertain_type c_type from e = nothing tac.structs made old sound (IsOfType tac owner c_type from) (or_right (is_null tac owner from) _ (implies_not _ _ e))

  module _ (changed : Bool) (new : Graph) where
    pub taken : (name other : Name) (from : Register) → other ≡ OfRegister owner from → is_null tac owner from ≡ false → Applies tac.structs changed old new (AreSame name other)
        → Applies tac.structs changed old new (IsTaken tac owner name from)
    taken name other from named some its =
        for_other tac.structs changed old new (AreSame name (OfRegister owner from)) (IsTaken tac owner name from) (λ graph into maps is. not_null (is_null tac owner from) _ some is)
        (λ e is. or_right (is_null tac owner from) _ is)
        (subst (λ n. Applies tac.structs changed old new (AreSame name n)) named its)

    pub array_behind : (name : Name) (from : Register) → name ≡ OfRegister owner from → is_null tac owner from ≡ false → is_certain old (of_register tac old owner from) ≡ true
        → Applies tac.structs changed old new (IsMarked name M.Array) → Applies tac.structs changed old new (IsOfArray tac owner from)
    array_behind name from named some certain its =
        for_other tac.structs changed old new (IsMarked (OfRegister owner from) M.Array) (IsOfArray tac owner from)
        (λ graph into maps is. implied_holds _ _ (not_null (is_null tac owner from) _ some is) (certain_kept tac.structs made old graph into sound maps (OfRegister owner from) certain))
        (λ e is. or_right (is_null tac owner from) _ (implies_any _ _ is))
        (subst (λ n. Applies tac.structs changed old new (IsMarked n M.Array)) named its)

    pub type_behind : (name : Name) (c_type : CType) (from : Register) → name ≡ OfRegister owner from → is_null tac owner from ≡ false → is_certain old (of_register tac old owner from) ≡ true
        → Applies tac.structs changed old new (IsTold tac.structs name c_type) → Applies tac.structs changed old new (IsOfType tac owner c_type from)
    type_behind name c_type from named some certain its =
        for_other tac.structs changed old new (IsTold tac.structs (OfRegister owner from) c_type) (IsOfType tac owner c_type from)
        (λ graph into maps is. implied_holds _ _ (not_null (is_null tac owner from) _ some is) (certain_kept tac.structs made old graph into sound maps (OfRegister owner from) certain))
        (λ e is. or_right (is_null tac owner from) _ (implies_any _ _ is))
        (subst (λ n. Applies tac.structs changed old new (IsTold tac.structs n c_type)) named its)

  module _ (middle new : Graph) (a b : Bool) where
    pub moved : (to from : Register) → Applies tac.structs a old middle (IsTaken tac owner (OfRegister owner to) from) → Applies tac.structs b middle new (IsOfArray tac owner from)
        → Applies tac.structs (a || b) old new (λ graph. move_asked tac graph owner to from ≡ true)
    moved to from first then =
        for_other tac.structs (a || b) old new (λ graph. IsTaken tac owner (OfRegister owner to) from graph × IsOfArray tac owner from graph) (λ graph. move_asked tac graph owner to from ≡ true)
        (λ graph into maps is. and_parts _ _ is) (λ e is. and_from _ _ is.0 is.1)
        (both tac.structs made a b old middle new sound (IsTaken tac owner (OfRegister owner to) from) (IsOfArray tac owner from) first then)

    pub repointed : (to : Register) (c_type : CType) (from : Register) → Applies tac.structs a old middle (IsTaken tac owner (OfRegister owner to) from) → Applies tac.structs b middle new (IsOfType tac owner c_type from)
        → Applies tac.structs (a || b) old new (λ graph. repoint_asked tac graph owner to c_type from ≡ true)
    repointed to c_type from first then =
        for_other tac.structs (a || b) old new (λ graph. IsTaken tac owner (OfRegister owner to) from graph × IsOfType tac owner c_type from graph) (λ graph. repoint_asked tac graph owner to c_type from ≡ true)
        (λ graph into maps is. and_parts _ _ is) (λ e is. and_from _ _ is.0 is.1)
        (both tac.structs made a b old middle new sound (IsTaken tac owner (OfRegister owner to) from) (IsOfType tac owner c_type from) first then)

    pub allocated : (site : ℕ) (name : Name) → name ≡ OfRegister owner (R.Call site) → has_target (old.targets name) ≡ true → Applies tac.structs a old middle (IsMarked name M.Certain) → Applies tac.structs b middle new (IsMarked name M.Heap)
        → Applies tac.structs (a || b) old new (λ graph. allocate_asked tac graph owner site ≡ true)
    allocated site name named has first then =
        let own = OfRegister owner (R.Call site) in
        for_other tac.structs (a || b) old new (λ graph. IsMarked own M.Certain graph × IsMarked own M.Heap graph) (λ graph. allocate_asked tac graph owner site ≡ true)
        (λ graph into maps is. let parts = and_parts _ _ is in (certain_marked graph (graph.targets own) parts.0, parts.1))
        (λ e is. and_from _ _ (marked_certain new (new.targets own) (ap (λ (g : Graph). has_target (g.targets own)) e ∙ ap (λ n. has_target (old.targets n)) (sym named) ∙ has) is.0) is.1)
        (both tac.structs made a b old middle new sound (IsMarked own M.Certain) (IsMarked own M.Heap) (subst (λ n. Applies tac.structs a old middle (IsMarked n M.Certain)) named first)
        (subst (λ n. Applies tac.structs b middle new (IsMarked n M.Heap)) named then))

-- what a function returns
module _ (tac : Tac) (made : AreMade tac.structs) (owner : Owner) (old : Graph) (sound : IsSound tac.structs old) (value : Option Operand) where
  pub none_returned : value ≡ None → Applies tac.structs false old old (λ graph. return_closed tac graph owner value ≡ true)
  none_returned e = nothing tac.structs made old sound (λ graph. return_closed tac graph owner value ≡ true) (ap (return_closed tac old owner) e)

  pub integer_returned : (tree : Tree) → value ≡ Some (IntegerOperand tree) → Applies tac.structs false old old (λ graph. return_closed tac graph owner value ≡ true)
  integer_returned tree e = nothing tac.structs made old sound (λ graph. return_closed tac graph owner value ≡ true) (ap (return_closed tac old owner) e)

  pub pointer_returned : (changed : Bool) (new : Graph) (register : Register) (name : Name) → name ≡ OfResult owner → value ≡ Some (PointerOperand register) → Applies tac.structs changed old new (IsTaken tac owner name register)
      → Applies tac.structs changed old new (λ graph. return_closed tac graph owner value ≡ true)
  pointer_returned changed new register name named e its =
      subst (λ v. Applies tac.structs changed old new (λ graph. return_closed tac graph owner v ≡ true)) (sym e) (subst (λ n. Applies tac.structs changed old new (IsTaken tac owner n register)) named its)
