-- What is known of a graph is known of each that it is mapped to.
use Rattle.std.proofs.Common.{◌≡◌, ◌<◌, Bool, true, false, List, Option, Some, None, refl, sym, ap, subst, ◌∙◌}
use Rattle.std.proofs.lemmas.Bool.{false≢true, and_parts}
use Rattle.c_typed.specs.Types.{CType}
use Rattle.c_typed.specs.Layouts.{StructDef, is_complete}
use Rattle.tac_ir.specs.declared.register.Register.{Register}
use Rattle.tac_ir.specs.Code as O
use Rattle.tac_ir.specs.Code.{Base, AtLocal, AtGlobal, AtLiteral, Pointed, Indexed, Path, Operand, IntegerOperand, PointerOperand, Op, Tac}
use Rattle.tac_ir.specs.States.{Owner}
use Rattle.heap_graph.specs.Graphs.{Target, OfType, Node, Name, OfRegister, OfResult, OfObject, OfGlobal, OfLiteral, Graph, node_at}
use Rattle.heap_graph.specs.Parts.{slots_of}
use Rattle.heap_graph.specs.Structures.{AreMade}
use Rattle.heap_graph.specs.Targets.{has_target, at_target, holds_part, implies, marks_kept, element_kept, elements_of}
use Rattle.heap_graph.specs.Points.{base_part}
use Rattle.heap_graph.specs.Merging.{IsSound, GraphMap, Maps}
use Rattle.heap_graph.proofs.MapsCompose.{at_some, at_there, at_from, element_trans, mapped_there, target_in}
use Rattle.heap_graph.specs.Asks.{is_certain}
use Rattle.heap_graph.proofs.Certain.{certain_some, target_of_certain}
use Rattle.graph_unification.proofs.Named.{names_kept}
use Rattle.graph_unification.specs.Fits.{is_object, LeadsToPart, has_own, PathFits, SlotsFit, TakesFit, ValueFits, OpFits}

-- the name of an object or of a pointer with which a path begins
abbrev pub base_name : Owner → Base → Name
base_name owner (AtLocal local) = OfObject owner local
base_name owner (AtGlobal number) = OfGlobal number
base_name owner (AtLiteral number) = OfLiteral number
base_name owner (Pointed pointer target) = OfRegister owner pointer
base_name owner (Indexed pointer target number) = OfRegister owner pointer

pub base_named : (tac : Tac) (graph : Graph) (owner : Owner) (base : Base) → (base_part tac graph owner base).target ≡ graph.targets (base_name owner base)
base_named tac graph owner (AtLocal local) = refl
base_named tac graph owner (AtGlobal number) = refl
base_named tac graph owner (AtLiteral number) = refl
base_named tac graph owner (Pointed pointer target) = refl
base_named tac graph owner (Indexed pointer target number) = refl

-- its type is that of the code
pub base_typed_by_code : (tac : Tac) (a b : Graph) (owner : Owner) (base : Base) → (base_part tac a owner base).c_type ≡ (base_part tac b owner base).c_type
base_typed_by_code tac a b owner (AtLocal local) = refl
base_typed_by_code tac a b owner (AtGlobal number) = refl
base_typed_by_code tac a b owner (AtLiteral number) = refl
base_typed_by_code tac a b owner (Pointed pointer target) = refl
base_typed_by_code tac a b owner (Indexed pointer target number) = refl

pub implied_holds : (a b : Bool) → implies a b ≡ true → a ≡ true → b ≡ true
implied_holds true b h e = h
implied_holds false b h e = absurd (false≢true e)

module _ (structs : List StructDef) (made : AreMade structs) (old new : Graph) (map : GraphMap) (sound : IsSound structs old) (maps : Maps structs old new map) where
  -- the image of a name's target
  pub record Image (name : Name) : Type 0 where
    pub target : Target
    pub at : old.targets name ≡ Some target
    pub node : Node
    pub is : node_at old target.node ≡ Some node
    pub image : Node
    pub image_is : node_at new (map target.node).node ≡ Some image
    pub element : element_kept structs node.element image (map target.node).shift ≡ true
    pub marks : marks_kept node.flags image.flags ≡ true
    pub now : new.targets name ≡ Some (target_in map target image)

  pub image_of : (name : Name) → has_target (old.targets name) ≡ true → Image name
  image_of name has = by (old.targets name) refl
    where
      by : (o : Option Target) → old.targets name ≡ o → Image name
      by None e = absurd (false≢true (sym (ap has_target e) ∙ has))
      by (Some target) e =
          let slot = sound.names name target e in
          let there = at_there new (map target.node) (element_kept structs slot.node.element) (maps.elements target.node slot.node slot.is) in
          record {
            target = target;
            at = e;
            node = slot.node;
            is = slot.is;
            image = there.node;
            image_is = there.is;
            element = there.so;
            marks = sym (at_some new (map target.node) (λ image shift. marks_kept slot.node.flags image.flags) there.node there.is) ∙ maps.flags target.node slot.node slot.is;
            now = maps.names name target e ∙ mapped_there new map target there.node there.is;
          }

  pub certain_kept : (name : Name) → is_certain old (old.targets name) ≡ true → is_certain new (new.targets name) ≡ true
  certain_kept name h =
      let its = target_of_certain old (old.targets name) h in
      let i = image_of name (ap has_target its.1) in
      let was : i.node.flags.certain ≡ true = sym (certain_some old i.target i.node i.is) ∙ ap (is_certain old) (sym i.at) ∙ h in
      ap (is_certain new) i.now ∙ certain_some new (target_in map i.target i.image) i.image i.image_is ∙ implied_holds _ _ (and_parts _ _ i.marks).0 was

  -- what a target's node holds
  pub held_kept : (name : Name) (c_type : CType) → has_target (old.targets name) ≡ true → at_target old (old.targets name) (holds_part structs c_type) ≡ true
      → at_target new (new.targets name) (holds_part structs c_type) ≡ true
  held_kept name c_type has h =
      let i = image_of name has in
      let was : holds_part structs c_type i.node i.target.shift ≡ true = sym (at_some old i.target (holds_part structs c_type) i.node i.is) ∙ ap (λ t. at_target old t (holds_part structs c_type)) (sym i.at) ∙ h in
      ap (λ t. at_target new t (holds_part structs c_type)) i.now
      ∙ at_from new (target_in map i.target i.image) (holds_part structs c_type) i.image i.image_is
      (element_trans structs made (OfType c_type) i.node.element i.image.element i.node.flags i.image.flags i.node.edges i.image.edges i.target.shift (map i.target.node).shift was i.element)

  pub has_kept : (name : Name) → has_target (old.targets name) ≡ true → has_target (new.targets name) ≡ true
  has_kept name has = names_kept structs old new map maps sound name has

module _ (tac : Tac) (made : AreMade tac.structs) (owner : Owner) (old new : Graph) (map : GraphMap) (sound : IsSound tac.structs old) (maps : Maps tac.structs old new map) where
  pub own_kept : (register : Register) → has_own tac old owner register ≡ true → has_own tac new owner register ≡ true
  own_kept register h = has_kept tac.structs made old new map sound maps (OfRegister owner register) h

  pub path_fits_kept : (path : Path) → PathFits tac old owner path → PathFits tac new owner path
  path_fits_kept path fits =
      let structs = tac.structs in
      let name = base_name owner path.base in
      let same = base_typed_by_code tac old new owner path.base in
      let has : is_object path.base ≡ true → has_target (old.targets name) ≡ true = λ is. ap has_target (sym (base_named tac old owner path.base)) ∙ fits.based is in
      record {
        based = λ is. ap has_target (base_named tac new owner path.base) ∙ has_kept structs made old new map sound maps name (has is);
        object = λ is.
            subst (λ t. at_target new (base_part tac new owner path.base).target (holds_part structs (elements_of t)) ≡ true) same
            (ap (λ x. at_target new x (holds_part structs (elements_of (base_part tac old owner path.base).c_type))) (base_named tac new owner path.base)
            ∙ held_kept structs made old new map sound maps name (elements_of (base_part tac old owner path.base).c_type) (has is)
            (ap (λ x. at_target old x (holds_part structs (elements_of (base_part tac old owner path.base).c_type))) (sym (base_named tac old owner path.base)) ∙ fits.object is));
        leads = λ is. subst (LeadsToPart structs path.base path.steps) same (fits.leads is);
      }

  pub slots_kept : (path : Path) → SlotsFit tac old owner path → SlotsFit tac new owner path
  slots_kept path fits = subst (λ t. is_object path.base ≡ false → is_complete tac.structs t ≡ true → 0 < slots_of tac.structs t) (base_typed_by_code tac old new owner path.base) fits

  pub value_kept : (scalar : CType) (value : Operand) → ValueFits tac old owner scalar value → ValueFits tac new owner scalar value
  value_kept scalar (IntegerOperand tree) fits = tt
  value_kept scalar (PointerOperand register) fits = λ is some. own_kept register (fits is some)

  taken_kept : (a b : Bool) (from : Register) → (a ≡ true → b ≡ true) → TakesFit tac old owner a from → TakesFit tac new owner b from
  taken_kept a b from kept fits = λ some. let both = fits some in (kept both.0, own_kept from both.1)

  -- what has to be known of points stays known
  pub fits_kept : (op : Op) → OpFits tac old owner op → OpFits tac new owner op
  fits_kept (O.Copy to from) fits = taken_kept _ _ from (own_kept to) fits
  fits_kept (O.Move to from element is_minus number) fits = taken_kept _ _ from (own_kept to) fits
  fits_kept (O.Repoint to target from) fits = (taken_kept _ _ from (own_kept to) fits.0, fits.1)
  fits_kept (O.AddressOf to path) fits = (own_kept to fits.0, path_fits_kept path fits.1)
  fits_kept (O.Load to scalar path) fits = (λ is. own_kept to (fits.0 is), (path_fits_kept path fits.1.0, slots_kept path fits.1.1))
  fits_kept (O.Store path scalar (IntegerOperand tree)) fits = (tt, (path_fits_kept path fits.1.0, slots_kept path fits.1.1))
  fits_kept (O.Store path scalar (PointerOperand register)) fits = (λ is some. own_kept register (fits.0 is some), (path_fits_kept path fits.1.0, slots_kept path fits.1.1))
  fits_kept (O.Allocate site size) fits = own_kept _ fits
  fits_kept (O.Return None) fits = tt
  fits_kept (O.Return (Some (IntegerOperand tree))) fits = tt
  fits_kept (O.Return (Some (PointerOperand register))) fits = taken_kept _ _ register (has_kept tac.structs made old new map sound maps (OfResult owner)) fits
  fits_kept O.Reserved fits = tt
  fits_kept (O.Jump to) fits = tt
  fits_kept (O.Branch int_type condition holds fails) fits = tt
  fits_kept (O.Assign to tree) fits = tt
  fits_kept (O.Null to) fits = tt
  fits_kept (O.FunctionAddress to function) fits = tt
  fits_kept (O.Test to pointer) fits = tt
  fits_kept (O.Difference to element left right) fits = tt
  fits_kept (O.ComparePointers to relation left right) fits = tt
  fits_kept (O.Free site pointer) fits = tt
  fits_kept (O.Call site callee arguments) fits = tt
  fits_kept (O.GetChar site) fits = tt
  fits_kept (O.PutChar site value) fits = tt
  fits_kept (O.Exit status) fits = tt
