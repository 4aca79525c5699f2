-- A flag is set.
use Rattle.std.proofs.Common.{◌≡◌, ℕ, Bool, true, false, eqb, List, Some, refl, sym, ap, subst, ◌∙◌, eqb-true}
use Rattle.std.specs.Prelude.{◌&&◌}
use Rattle.std.proofs.lemmas.Bool.{false≢true, and_parts, and_from, eq-eqb}
use Rattle.std.proofs.lemmas.Option.{same_Some}
use Rattle.c_typed.specs.Layouts.{StructDef}
use Rattle.heap_graph.specs.Structures.{AreMade}
use Rattle.heap_graph.specs.Graphs.{Flags, Node, Graph, edge_in, node_at}
use Rattle.heap_graph.specs.Targets.{at_target, implies, marks_kept, element_kept}
use Rattle.heap_graph.specs.Merging.{IsSound, GraphMap, Maps}
use Rattle.heap_graph.specs.Steps.{unmoved}
use Rattle.heap_graph.proofs.MapsCompose.{at_some, at_there, at_from}
use Rattle.heap_graph.proofs.StepsCompose.{flags_itself, itself}
use Rattle.graph_unification.specs.Changes.{SetsFlags}
use Rattle.graph_unification.specs.declared.marks.Mark.{Mark}
use Rattle.graph_unification.specs.declared.marks.Mark.TheVariants as M
use Rattle.graph_unification.specs.Asked.{has_mark, marked, HasMark}
use Rattle.graph_unification.specs.Leading.{Least}

marked_has : (m : Mark) (f : Flags) → has_mark m (marked m f) ≡ true
marked_has M.Heap f = refl
marked_has M.Array f = refl
marked_has M.Modified f = refl
marked_has M.Read f = refl
marked_has M.Certain f = refl

implied : (a : Bool) → implies a true ≡ true
implied true = refl
implied false = refl

with_first : (a b c : Bool) → (a && b) ≡ true → c ≡ true → (c && b) ≡ true
with_first a b c h k = and_from c b k (and_parts a b h).1

with_others : (a b c : Bool) → (a && b) ≡ true → (b ≡ true → c ≡ true) → (a && c) ≡ true
with_others a b c h k = let parts = and_parts a b h in and_from a c parts.0 (k parts.1)

-- more flags keep the old ones
more_marks : (m : Mark) (a b : Flags) → marks_kept a b ≡ true → marks_kept a (marked m b) ≡ true
more_marks M.Certain a b h = with_first (implies a.certain b.certain) _ _ h (implied a.certain)
more_marks M.Heap a b h = with_others (implies a.certain b.certain) _ _ h (λ h. with_first (implies a.heap b.heap) _ _ h (implied a.heap))
more_marks M.Array a b h = with_others (implies a.certain b.certain) _ _ h (λ h. with_others (implies a.heap b.heap) _ _ h (λ h. with_others (implies a.stack b.stack) _ _ h (λ h. with_others (implies a.global b.global) _ _ h (λ h. with_first (implies a.array b.array) _ _ h (implied a.array)))))
more_marks M.Modified a b h = with_others (implies a.certain b.certain) _ _ h (λ h. with_others (implies a.heap b.heap) _ _ h (λ h. with_others (implies a.stack b.stack) _ _ h (λ h. with_others (implies a.global b.global) _ _ h (λ h. with_others (implies a.array b.array) _ _ h (λ h. with_first (implies a.modified b.modified) _ _ h (implied a.modified))))))
more_marks M.Read a b h = with_others (implies a.certain b.certain) _ _ h (λ h. with_others (implies a.heap b.heap) _ _ h (λ h. with_others (implies a.stack b.stack) _ _ h (λ h. with_others (implies a.global b.global) _ _ h (λ h. with_others (implies a.array b.array) _ _ h (λ h. with_others (implies a.modified b.modified) _ _ h (λ h. implied a.read))))))

-- flags that have it keep it
has_marks : (m : Mark) (a b : Flags) → marks_kept a b ≡ true → has_mark m b ≡ true → marks_kept (marked m a) b ≡ true
has_marks M.Certain a b h k = with_first (implies a.certain b.certain) _ _ h k
has_marks M.Heap a b h k = with_others (implies a.certain b.certain) _ _ h (λ h. with_first (implies a.heap b.heap) _ _ h k)
has_marks M.Array a b h k = with_others (implies a.certain b.certain) _ _ h (λ h. with_others (implies a.heap b.heap) _ _ h (λ h. with_others (implies a.stack b.stack) _ _ h (λ h. with_others (implies a.global b.global) _ _ h (λ h. with_first (implies a.array b.array) _ _ h k))))
has_marks M.Modified a b h k = with_others (implies a.certain b.certain) _ _ h (λ h. with_others (implies a.heap b.heap) _ _ h (λ h. with_others (implies a.stack b.stack) _ _ h (λ h. with_others (implies a.global b.global) _ _ h (λ h. with_others (implies a.array b.array) _ _ h (λ h. with_first (implies a.modified b.modified) _ _ h k)))))
has_marks M.Read a b h k = with_others (implies a.certain b.certain) _ _ h (λ h. with_others (implies a.heap b.heap) _ _ h (λ h. with_others (implies a.stack b.stack) _ _ h (λ h. with_others (implies a.global b.global) _ _ h (λ h. with_others (implies a.array b.array) _ _ h (λ h. with_others (implies a.modified b.modified) _ _ h (λ h. k))))))

-- a node of the old graph in the new one
record Becomes (new : Graph) (n : ℕ) (node : Node) : Type 0 where
  after : Node
  is : node_at new n ≡ Some after
  element : after.element ≡ node.element
  edges : after.edges ≡ node.edges
  kept : marks_kept node.flags after.flags ≡ true

-- a node of the new graph in the old one
record Was (old : Graph) (number n : ℕ) (mark : Mark) (node : Node) : Type 0 where
  before : Node
  is : node_at old n ≡ Some before
  element : before.element ≡ node.element
  edges : before.edges ≡ node.edges
  keeps : (flags : Flags) → marks_kept before.flags flags ≡ true → (n ≡ number → has_mark mark flags ≡ true) → marks_kept node.flags flags ≡ true

module _ (structs : List StructDef) (made : AreMade structs) (old new : Graph) (number : ℕ) (mark : Mark) (own : Node) (own_is : node_at old number ≡ Some own)
    (sets : SetsFlags old new number (marked mark own.flags)) (sound : IsSound structs new) where
  becomes : (n : ℕ) (node : Node) → node_at old n ≡ Some node → Becomes new n node
  becomes n node e = by (eqb n number) refl
    where
      by : (b : Bool) → eqb n number ≡ b → Becomes new n node
      by true t =
          let same = eqb-true n number t in
          let its : own ≡ node = same_Some own node (sym own_is ∙ ap (node_at old) (sym same) ∙ e) in
          record {
            after = record own { flags = marked mark own.flags };
            is = ap (node_at new) same ∙ sets.at own own_is;
            element = ap (λ (x : Node). x.element) its;
            edges = ap (λ (x : Node). x.edges) its;
            kept = subst (λ (x : Node). marks_kept x.flags (marked mark own.flags) ≡ true) its (more_marks mark own.flags own.flags (flags_itself own.flags));
          }
      by false t = record {
        after = node;
        is = sets.others n (λ same. false≢true (sym t ∙ eq-eqb n number same)) ∙ e;
        element = refl;
        edges = refl;
        kept = flags_itself node.flags;
      }

  was : (n : ℕ) (node : Node) → node_at new n ≡ Some node → Was old number n mark node
  was n node e = by (eqb n number) refl
    where
      by : (b : Bool) → eqb n number ≡ b → Was old number n mark node
      by true t =
          let same = eqb-true n number t in
          let its : record own { flags = marked mark own.flags } ≡ node = same_Some (record own { flags = marked mark own.flags }) node (sym (sets.at own own_is) ∙ ap (node_at new) (sym same) ∙ e) in
          record {
            before = own;
            is = ap (node_at old) same ∙ own_is;
            element = ap (λ (x : Node). x.element) its;
            edges = ap (λ (x : Node). x.edges) its;
            keeps = λ flags kept has. subst (λ (x : Node). marks_kept x.flags flags ≡ true) its (has_marks mark own.flags flags kept (has same));
          }
      by false t = record {
        before = node;
        is = sym (sets.others n (λ same. false≢true (sym t ∙ eq-eqb n number same))) ∙ e;
        element = refl;
        edges = refl;
        keeps = λ flags kept has. kept;
      }

  itself_new : Maps structs new new unmoved
  itself_new = itself structs made new sound

  maps_marked : Maps structs old new unmoved
  maps_marked = record {
    names = λ name target e. itself_new.names name target (sets.names name ∙ e);
    elements = λ n node e.
        let now = becomes n node e in
        subst (λ x. at_target new (Some (unmoved n)) (element_kept structs x) ≡ true) now.element (itself_new.elements n now.after now.is);
    flags = λ n node e. let now = becomes n node e in at_from new (unmoved n) (λ image shift. marks_kept node.flags image.flags) now.after now.is now.kept;
    edges = λ n slot node to e has. let now = becomes n node e in itself_new.edges n slot now.after to now.is (ap (λ es. edge_in es slot) now.edges ∙ has);
  }

  -- a map of the old graph is one of the new graph where the image has the flag
  maps_back : (other : Graph) (into : GraphMap) → Maps structs old other into → HasMark number mark other into → Maps structs new other into
  maps_back other into maps has_it = record {
    names = λ name target e. maps.names name target (sym (sets.names name) ∙ e);
    elements = λ n node e.
        let before = was n node e in
        subst (λ x. at_target other (Some (into n)) (element_kept structs x) ≡ true) before.element (maps.elements n before.before before.is);
    flags = λ n node e.
        let before = was n node e in
        let there = at_there other (into n) (λ image shift. marks_kept before.before.flags image.flags) (maps.flags n before.before before.is) in
        at_from other (into n) (λ image shift. marks_kept node.flags image.flags) there.node there.is
        (before.keeps there.node.flags there.so
        (λ same. sym (at_some other (into n) (λ image shift. has_mark mark image.flags) there.node there.is)
        ∙ subst (λ k. at_target other (Some (into k)) (λ image shift. has_mark mark image.flags) ≡ true) (sym same) has_it));
    edges = λ n slot node to e has. let before = was n node e in maps.edges n slot before.before to before.is (ap (λ es. edge_in es slot) before.edges ∙ has);
  }

  pub marks : Least structs old new (HasMark number mark)
  marks = record {
    map = unmoved;
    maps = maps_marked;
    onto = λ n node e. let before = was n node e in (n, before.before, before.is, refl);
    holds = at_from new (unmoved number) (λ node shift. has_mark mark node.flags) (record own { flags = marked mark own.flags }) (sets.at own own_is) (marked_has mark own.flags);
    least = λ other into maps holds. (into, maps_back other into maps holds, λ n node e. refl);
  }
