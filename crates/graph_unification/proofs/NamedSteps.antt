-- Steps at the targets of names.
use Rattle.std.proofs.Common.{◌≡◌, Bool, true, false, List, Option, Some, None, Result, Ok, Err, refl, sym, ap, subst, ◌∙◌}
use Rattle.std.specs.Prelude.{OnOk, IfOk}
use Rattle.std.proofs.lemmas.Bool.{cond-true, cond-false}
use Rattle.std.proofs.lemmas.Option.{none-some}
use Rattle.c_typed.specs.Types.{CType}
use Rattle.c_typed.specs.Layouts.{StructDef, is_complete}
use Rattle.heap_graph.specs.declared.graph.Element as memory_element
use Rattle.heap_graph.specs.declared.graph.Flags as memory_flags
use Rattle.c_typed.specs.Table.{Interned}
use Rattle.graph_unification.specs.Changes.{TellsNode}
use Rattle.heap_graph.specs.Structures.{AreMade}
use Rattle.heap_graph.specs.Graphs.{Target, Flags, Node, Name, Graph, node_at}
use Rattle.heap_graph.specs.Targets.{has_target, at_target, holds_part, implies, element_kept}
use Rattle.heap_graph.specs.Merging.{IsSound, GraphMap, Maps, AreOne}
use Rattle.heap_graph.proofs.MapsCompose.{at_some, at_there, at_from, mapped_there, target_in}
use Rattle.heap_graph.specs.Asks.{is_certain}
use Rattle.heap_graph.proofs.Certain.{certain_some, same_eq, eq_same}
use Rattle.graph_unification.specs.declared.marks.Mark.{Mark}
use Rattle.graph_unification.specs.Asked.{HoldsPart, has_mark, HasMark}
use Rattle.graph_unification.specs.Leading.{Least}
use Rattle.graph_unification.specs.Applying.{Applies, AreSame, IsMarked, IsMarkedIf, IsTold}
use Rattle.graph_unification.proofs.Changing.{nothing, of_least}

certain_none : (graph : Graph) (target : Target) → node_at graph target.node ≡ None → is_certain graph (Some target) ≡ false
certain_none graph target e = rw e refl

-- what was done, if it was
pub if_both : {X E A B : Type 0} {C D : X → Type 0} (r : Result X E) → OnOk r A → OnOk r B → IfOk r C → (A → B → (x : X) → C x → D x) → IfOk r D
if_both (Ok x) a b c gives = gives a b x c
if_both (Err e) a b c gives = tt

-- what is read of the node of a target
pub uncertain : (table : Interned) (graph : Graph) (target : Target) → TellsNode table (node_at graph target.node) None → false ≡ is_certain graph (Some target)
uncertain table graph target tells = by (node_at graph target.node) refl tells
  where
    by : (o : Option Node) → node_at graph target.node ≡ o → TellsNode table o None → false ≡ is_certain graph (Some target)
    by None e h = sym (certain_none graph target e)
    by (Some node) e h = absurd h

pub certain_read : (table : Interned) (graph : Graph) (target : Target) (element : memory_element.Element) (flags : memory_flags.Flags) → TellsNode table (node_at graph target.node) (Some (element, flags))
    → flags.certain ≡ is_certain graph (Some target)
certain_read table graph target element flags tells = by (node_at graph target.node) refl tells
  where
    by : (o : Option Node) → node_at graph target.node ≡ o → TellsNode table o (Some (element, flags)) → flags.certain ≡ is_certain graph (Some target)
    by None e h = absurd h
    by (Some node) e h = ap (λ (f : Flags). f.certain) h.1 ∙ sym (certain_some graph target node e)

module _ (structs : List StructDef) (made : AreMade structs) (old new : Graph) (sound : IsSound structs old) (changed : Bool)
    (names : (name : Name) → has_target (new.targets name) ≡ has_target (old.targets name)) where
  pub joined : (a b : Name) (x y : Target) → old.targets a ≡ Some x → old.targets b ≡ Some y → Least structs old new (AreOne x y) → (changed ≡ false → (new ≡ old) × (x ≡ y))
      → Applies structs changed old new (AreSame a b)
  joined a b x y at_a at_b least done =
      of_least structs changed old new (AreOne x y) (AreSame a b)
      (λ other into maps same. sym (maps.names a x at_a) ∙ same_eq (other.targets a) (other.targets b) same ∙ maps.names b y at_b)
      names least
      (λ e. let end = done e in (end.0, subst (AreSame a b) (sym end.0) (eq_same (old.targets a) (old.targets b) (at_a ∙ ap (λ (t : Target). Some t) end.1 ∙ sym at_b))))

  -- a flag at the image of a target
  mark_mapped : (name : Name) (x : Target) (mark : Mark) → old.targets name ≡ Some x → (other : Graph) (into : GraphMap) → Maps structs old other into → IsMarked name mark other → HasMark x.node mark other into
  mark_mapped name x mark at other into maps is = by (node_at other (into x.node).node) refl
    where
      by : (o : Option Node) → node_at other (into x.node).node ≡ o → HasMark x.node mark other into
      by None e =
          let slot = sound.names name x at in
          let image = at_there other (into x.node) (element_kept structs slot.node.element) (maps.elements x.node slot.node slot.is) in
          absurd (none-some image.node (sym e ∙ image.is))
      by (Some image) e =
          let now : other.targets name ≡ Some (target_in into x image) = maps.names name x at ∙ mapped_there other into x image e in
          at_from other (into x.node) (λ node shift. has_mark mark node.flags) image e
          (sym (at_some other (target_in into x image) (λ node shift. has_mark mark node.flags) image e) ∙ ap (λ t. at_target other t (λ node shift. has_mark mark node.flags)) (sym now) ∙ is)

  pub marked_at : (name : Name) (x : Target) (mark : Mark) → old.targets name ≡ Some x → Least structs old new (HasMark x.node mark)
      → (changed ≡ false → (new ≡ old) × (at_target old (Some (record { node = x.node; shift = 0 })) (λ n shift. has_mark mark n.flags) ≡ true)) → Applies structs changed old new (IsMarked name mark)
  marked_at name x mark at least done =
      of_least structs changed old new (HasMark x.node mark) (IsMarked name mark) (mark_mapped name x mark at) names least
      (λ e.
      let end = done e in
      let there = at_there old (record { node = x.node; shift = 0 }) (λ n shift. has_mark mark n.flags) end.1 in (
        end.0,
        subst (IsMarked name mark) (sym end.0)
            (ap (λ t. at_target old t (λ node shift. has_mark mark node.flags)) at ∙ at_from old x (λ n shift. has_mark mark n.flags) there.node there.is there.so),
      ))

  pub told_at : (name : Name) (x : Target) (c_type : CType) → is_complete structs c_type ≡ true → old.targets name ≡ Some x → Least structs old new (HoldsPart structs c_type x)
      → (changed ≡ false → (new ≡ old) × (at_target old (Some x) (holds_part structs c_type) ≡ true)) → Applies structs changed old new (IsTold structs name c_type)
  told_at name x c_type complete at least done =
      of_least structs changed old new (HoldsPart structs c_type x) (IsTold structs name c_type)
      (λ other into maps is. ap (λ t. at_target other t (holds_part structs c_type)) (sym (maps.names name x at)) ∙ sym (cond-true (is_complete structs c_type) (at_target other (other.targets name) (holds_part structs c_type)) true complete) ∙ is)
      names least
      (λ e. let end = done e in (end.0, subst (IsTold structs name c_type) (sym end.0) (cond-true (is_complete structs c_type) (at_target old (old.targets name) (holds_part structs c_type)) true complete ∙ ap (λ t. at_target old t (holds_part structs c_type)) at ∙ end.1)))

-- nothing is told of an incomplete type
pub untold : (structs : List StructDef) → AreMade structs → (graph : Graph) → IsSound structs graph → (name : Name) (c_type : CType) → is_complete structs c_type ≡ false
    → Applies structs false graph graph (IsTold structs name c_type)
untold structs made graph sound name c_type incomplete = nothing structs made graph sound (IsTold structs name c_type) (cond-false (is_complete structs c_type) (at_target graph (graph.targets name) (holds_part structs c_type)) true incomplete)

-- it is told afterwards
pub told_now : (structs : List StructDef) (old new : Graph) (name : Name) (x : Target) (c_type : CType) → is_complete structs c_type ≡ true → old.targets name ≡ Some x → Least structs old new (HoldsPart structs c_type x)
    → IsTold structs name c_type new
told_now structs old new name x c_type complete at least =
    cond-true (is_complete structs c_type) (at_target new (new.targets name) (holds_part structs c_type)) true complete
    ∙ ap (λ t. at_target new t (holds_part structs c_type)) (least.maps.names name x at) ∙ least.holds

pub untold_now : (structs : List StructDef) (graph : Graph) (name : Name) (c_type : CType) → is_complete structs c_type ≡ false → IsTold structs name c_type graph
untold_now structs graph name c_type incomplete = cond-false (is_complete structs c_type) (at_target graph (graph.targets name) (holds_part structs c_type)) true incomplete

pub on_ok : {X E A B : Type 0} (r : Result X E) → OnOk r A → (A → B) → OnOk r B
on_ok (Ok x) a gives = gives a
on_ok (Err e) a gives = tt

-- ---- a flag that is set if it is asked

there_implied : (structs : List StructDef) (graph : Graph) → IsSound structs graph → (name : Name) (mark : Mark) → IsMarkedIf false name mark graph
there_implied structs graph sound name mark = by (graph.targets name) refl
  where
    by : (o : Option Target) → graph.targets name ≡ o → IsMarkedIf false name mark graph
    by None e = ap (λ t. at_target graph t (λ node shift. implies false (has_mark mark node.flags))) e
    by (Some x) e =
        let slot = sound.names name x e in
        ap (λ t. at_target graph t (λ node shift. implies false (has_mark mark node.flags))) e ∙ at_from graph x (λ node shift. implies false (has_mark mark node.flags)) slot.node slot.is refl

pub unmarked : (structs : List StructDef) → AreMade structs → (graph : Graph) → IsSound structs graph → (asked : Bool) (name : Name) (mark : Mark) → asked ≡ false
    → Applies structs false graph graph (IsMarkedIf asked name mark)
unmarked structs made graph sound asked name mark e =
    nothing structs made graph sound (IsMarkedIf asked name mark) (subst (λ b. IsMarkedIf b name mark graph) (sym e) (there_implied structs graph sound name mark))

-- where it is asked, that is the flag itself
pub marked_asked : (structs : List StructDef) (changed : Bool) (old new : Graph) (asked : Bool) (name : Name) (mark : Mark) → asked ≡ true → Applies structs changed old new (IsMarked name mark)
    → Applies structs changed old new (IsMarkedIf asked name mark)
marked_asked structs changed old new asked name mark e its = subst (λ b. Applies structs changed old new (IsMarkedIf b name mark)) (sym e) its

pub if_ok : {X E : Type 0} {C D : X → Type 0} (r : Result X E) → IfOk r C → ((x : X) → C x → D x) → IfOk r D
if_ok (Ok x) c gives = gives x c
if_ok (Err e) c gives = tt
