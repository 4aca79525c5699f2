-- What a call out of a group asks of the graphs of a program holds of the completed graph of its caller, with copies where the embedding has
-- images: graphs that are being made are on the way to it.
use Rattle.std.proofs.Common.{◌≡◌, ℕ, zero, suc, ◌+◌, ◌<◌, ◌≤◌, ◌&&◌, ◌⊎◌, inl, inr, Bool, true, false, cond, List, [], ◌∷◌, length, Option, Some, None, refl, sym, ap, subst, ◌∙◌, arith}
use Rattle.std.specs.Prelude.{slice_get}
use Rattle.std.proofs.lemmas.Bool.{false≢true, and_parts, eq-eqb, cases_eq, cases_lt}
use Rattle.std.proofs.lemmas.Option.{none-some, same_Some}
use Rattle.c_typed.specs.Types.{CType}
use Rattle.tac_ir.specs.declared.register.Register.{Register}
use Rattle.tac_ir.specs.declared.register.Register.TheVariants as R
use Rattle.tac_ir.specs.States.{Owner, InFunction}
use Rattle.heap_graph.specs.Graphs.{Target, Name, OfRegister, OfResult, OfGlobal, OfLiteral, OfCopy, Graph, Embedding, is_copy, node_at}
use Rattle.heap_graph.specs.Targets.{same_target, has_target, is_collapsed, shifted, element_kept}
use Rattle.heap_graph.specs.Escaping.{is_outside}
use Rattle.heap_graph.specs.Points.{is_data_pointer}
use Rattle.heap_graph.specs.Merging.{GraphMap, mapped}
use Rattle.heap_graph.specs.Closed as C
use Rattle.heap_graph.specs.Closed.{Family, graph_of, crossing, parameters_of, result_of, function_type, formal, arguments_closed, statics_closed, all_statics_closed, outer_call}
use Rattle.heap_graph.proofs.MapsCompose.{shift_in, shifted_there, at_there, kept_collapsed}
use Rattle.heap_graph.specs.Asks.{is_certain}
use Rattle.heap_graph.specs.Completed.{nothing_in, completed_node, completed}
use Rattle.heap_graph.proofs.Certain.{certain_some, same_eq, implies_holds}
use Rattle.heap_graph.proofs.CompletedGraph.{node_kept}
use Rattle.dsa_inlining.specs.Copied.{named_copy, image}
use Rattle.dsa_inlining.specs.Crossed.{IsImage, Comes, AllCome, IsPassed, IsCallee, IsCrossed}
use Rattle.dsa_inlining.specs.Placed.{CopyPlaced}

shifts : (c d : Bool) → (c ≡ true → d ≡ true) → (r m t : ℕ) → cond d 0 (r + cond c 0 (m + t)) ≡ cond d 0 (cond d 0 (r + m) + t)
shifts c true h r m t = refl
shifts true false h r m t = absurd (false≢true (h refl))
shifts false false h r m t = omega arith

-- The other graph has the nodes of the caller's, completed, and its targets; the copies are where the images are.
module _ (family : Family) (owner : Owner) (site called : ℕ) (bound : ℕ) (other callee : Graph) (copies : ℕ → Option ℕ) (into : GraphMap) (nodes : other.nodes ≡ (completed bound (graph_of family owner)).nodes)
    (names : (name : Name) (target : Target) → is_copy name ≡ false → (graph_of family owner).targets name ≡ Some target → other.targets name ≡ Some target)
    (placed : (number copy : ℕ) → copies number ≡ Some copy → (at : Target) × (other.targets (OfCopy copy) ≡ Some at) × CopyPlaced family owner site called into number at)
    (known : IsCallee family.tac called callee copies)
    (maps : (name : Name) (target : Target) → is_outside (InFunction called) name ≡ true → callee.targets name ≡ Some target
    → (graph_of family (InFunction called)).targets name ≡ mapped (graph_of family (InFunction called)) into target) where
  abbrev own : Graph
  own = graph_of family owner

  abbrev theirs : Graph
  theirs = graph_of family (InFunction called)

  abbrev embedding : Embedding
  embedding = family.graphs.embedding (crossing family owner site called)

  -- what callers see of the function that is called is where its copy is
  record Seen (name : Name) (target : Target) : Type 0 where
    at : Target
    its : C.image family owner embedding (theirs.targets name) ≡ Some at
    copied : image other copies target ≡ Some at
    certain : is_certain other (Some at) ≡ true

  seen : (name : Name) (target : Target) → is_outside (InFunction called) name ≡ true → callee.targets name ≡ Some target → Seen name target
  seen name target outside is =
      let copy = known.copied name target outside is in
      let place = placed target.node copy.0 copy.1 in
      let its = place.2 in
      let to = into target.node in
      let here = at_there own its.kept.at (C.node_kept family owner its.node) its.kept.kept in
      let keeps = kept_collapsed family.tac.structs its.node.element here.node its.kept.at.shift (and_parts (element_kept family.tac.structs its.node.element here.node its.kept.at.shift) _ here.so).0 in
      let whole = completed_node bound (nothing_in own) here.node in
      let now : node_at other its.kept.at.node ≡ Some whole = ap (λ ns. node_at (record { nodes = ns; targets = other.targets }) its.kept.at.node) nodes ∙ node_kept bound own its.kept.at.node here.node here.is in
      let end : Target = record { node = its.kept.at.node; shift = shift_in here.node (its.kept.at.shift + shift_in its.node (to.shift + target.shift)) } in
      let at_is : (record { node = its.kept.at.node; shift = shift_in here.node (its.kept.at.shift + to.shift) }) ≡ place.0
      = same_Some _ place.0 (sym (shifted_there own to.shift its.kept.at here.node here.is) ∙ its.place) in
      record {
        at = end;
        its = ap (C.image family owner embedding) (maps name target outside is ∙ shifted_there theirs target.shift to its.node its.there)
            ∙ (ap (shifted own (shift_in its.node (to.shift + target.shift))) its.kept.is ∙ shifted_there own (shift_in its.node (to.shift + target.shift)) its.kept.at here.node here.is);
        copied = ap (shifted other target.shift) (ap (named_copy other) copy.1 ∙ (place.1 ∙ ap Some (sym at_is)))
            ∙ (shifted_there other target.shift (record { node = its.kept.at.node; shift = shift_in here.node (its.kept.at.shift + to.shift) }) whole now
            ∙ ap (λ s. Some (record { node = its.kept.at.node; shift = s })) (sym (shifts (is_collapsed its.node.element) (is_collapsed here.node.element) keeps its.kept.at.shift to.shift target.shift)));
        certain = certain_some other end whole now;
      }

  -- a name that has the image's target has it in the other graph
  comes : (name its : Name) (target : Target) → is_copy name ≡ false → (s : Seen its target) → own.targets name ≡ C.image family owner embedding (theirs.targets its) → IsImage copies name target other
  comes name its target plain s same = record { at = s.at; is = names name s.at plain (same ∙ s.its); certain = s.certain; copied = s.copied }

  -- ---- arguments

  there : (callee_target : Option Target) → has_target callee_target ≡ true → (target : Target) × (callee_target ≡ Some target)
  there None has = absurd (false≢true has)
  there (Some target) has = (target, refl)

  passed_one : (number : ℕ) (c_type : CType) (argument : Register) → slice_get (parameters_of (function_type family.tac called)) number ≡ Some c_type → is_data_pointer c_type ≡ true
      → (has_target (own.targets (OfRegister owner argument)) && same_target (own.targets (OfRegister owner argument)) (C.image family owner embedding (theirs.targets (formal called number)))) ≡ true
      → IsPassed callee copies (OfRegister owner argument) (formal called number) other
  passed_one number c_type argument at is both =
      let target = there (callee.targets (formal called number)) (known.formals number c_type at is) in
      let s = seen (formal called number) target.0 (eq-eqb called called refl) target.1 in
      let same = same_eq (own.targets (OfRegister owner argument)) (C.image family owner embedding (theirs.targets (formal called number))) (and_parts _ _ both).1 in
      record { target = target.0; is = target.1; comes = comes (OfRegister owner argument) (formal called number) target.0 refl s same }

  both_at : (first : ℕ) (types : List CType) (arguments : List Register) → arguments_closed family owner (λ number. C.image family owner embedding (theirs.targets (formal called number))) first types arguments ≡ true
      → (number : ℕ) (c_type : CType) (argument : Register) → slice_get types number ≡ Some c_type → slice_get arguments number ≡ Some argument → is_data_pointer c_type ≡ true
      → (has_target (own.targets (OfRegister owner argument)) && same_target (own.targets (OfRegister owner argument)) (C.image family owner embedding (theirs.targets (formal called (first + number))))) ≡ true
  both_at first [] arguments closed number c_type argument at its is = absurd (none-some c_type at)
  both_at first (c ∷ types) [] closed number c_type argument at its is = absurd (none-some argument its)
  both_at first (c ∷ types) (a ∷ arguments) closed zero c_type argument at its is =
      let parts = and_parts _ _ closed in
      let here = implies_holds (is_data_pointer c) _ parts.0 (ap is_data_pointer (same_Some c c_type at) ∙ is) in
      subst (λ n. (has_target (own.targets (OfRegister owner argument)) && same_target (own.targets (OfRegister owner argument)) (C.image family owner embedding (theirs.targets (formal called n)))) ≡ true) (omega arith)
      (subst (λ r. (has_target (own.targets (OfRegister owner r)) && same_target (own.targets (OfRegister owner r)) (C.image family owner embedding (theirs.targets (formal called first)))) ≡ true)
      (same_Some a argument its) here)
  both_at first (c ∷ types) (a ∷ arguments) closed (suc number) c_type argument at its is =
      subst (λ n. (has_target (own.targets (OfRegister owner argument)) && same_target (own.targets (OfRegister owner argument)) (C.image family owner embedding (theirs.targets (formal called n)))) ≡ true) (omega arith)
      (both_at (suc first) types arguments (and_parts _ _ closed).1 number c_type argument at its is)

  -- ---- what is given

  given_at : (c_type : CType) → C.result_closed family owner (result_of c_type) (C.image family owner embedding (theirs.targets (OfResult (InFunction called)))) site ≡ true → is_data_pointer (result_of c_type) ≡ true
      → Comes callee copies (OfRegister owner (R.Call site)) (OfResult (InFunction called)) other
  given_at c_type closed is = λ target at.
      let s = seen (OfResult (InFunction called)) target (eq-eqb called called refl) at in
      let same = implies_holds _ _ (implies_holds (is_data_pointer (result_of c_type)) _ closed is) (ap has_target s.its) in
      comes (OfRegister owner (R.Call site)) (OfResult (InFunction called)) target refl s
      (same_eq (own.targets (OfRegister owner (R.Call site))) (C.image family owner embedding (theirs.targets (OfResult (InFunction called)))) same)

  -- ---- variables outside functions and literals

  one_closed : (name : ℕ → Name) (count number : ℕ) → all_statics_closed family owner theirs embedding name count ≡ true → number < count → statics_closed family owner theirs embedding name number ≡ true
  one_closed name zero number closed less = absurd (omega (arith, less))
  one_closed name (suc count) number closed less =
      by (cases_eq number count) (one_closed name count number (and_parts (statics_closed family owner theirs embedding name count) _ closed).1)
    where
      by : (number ≡ count) ⊎ (number ≡ count → ⊥) → (number < count → statics_closed family owner theirs embedding name number ≡ true) → statics_closed family owner theirs embedding name number ≡ true
      by (inl same) rest = ap (statics_closed family owner theirs embedding name) same ∙ (and_parts (statics_closed family owner theirs embedding name count) _ closed).0
      by (inr apart) rest = rest (below (cases_lt number count))
        where
          below : (number < count) ⊎ (count ≤ number) → number < count
          below (inl is) = is
          below (inr is) = absurd (apart (omega (arith, less, is)))

  all_come : (name : ℕ → Name) → ((number : ℕ) → is_copy (name number) ≡ false) → ((number : ℕ) → is_outside (InFunction called) (name number) ≡ true) → (count : ℕ)
      → ((number : ℕ) (target : Target) → callee.targets (name number) ≡ Some target → number < count) → all_statics_closed family owner theirs embedding name count ≡ true → AllCome callee copies name other
  all_come name plain outside count within closed = λ number target at.
      let s = seen (name number) target (outside number) at in
      let one = one_closed name count number closed (within number target at) in
      let has = has_seen (name number) s.at (theirs.targets (name number)) s.its in
      let both = implies_holds (has_target (theirs.targets (name number))) _ one has in
      comes (name number) (name number) target (plain number) s
      (same_eq (own.targets (name number)) (C.image family owner embedding (theirs.targets (name number))) (and_parts (has_target (own.targets (name number))) _ both).1)
    where
      has_seen : (name : Name) (at : Target) (t : Option Target) → C.image family owner embedding t ≡ Some at → has_target t ≡ true
      has_seen name at None e = absurd (none-some at e)
      has_seen name at (Some t) e = refl

  -- ---- a call

  pub outer_completed : (arguments : List Register) → outer_call family owner site arguments called ≡ true → IsCrossed family.tac owner site arguments called callee copies other
  outer_completed arguments closed =
      let c_type = function_type family.tac called in
      let one = and_parts (arguments_closed family owner (λ number. C.image family owner embedding (theirs.targets (formal called number))) 0 (parameters_of c_type) arguments) _ closed in
      let two = and_parts (C.result_closed family owner (result_of c_type) (C.image family owner embedding (theirs.targets (OfResult (InFunction called)))) site) _ one.1 in
      let three = and_parts (all_statics_closed family owner theirs embedding OfGlobal (length family.tac.globals)) _ two.1 in
      record {
        passed = λ number c_type' argument at its is.
            passed_one number c_type' argument at is
            (subst (λ n. (has_target (own.targets (OfRegister owner argument)) && same_target (own.targets (OfRegister owner argument)) (C.image family owner embedding (theirs.targets (formal called n)))) ≡ true)
            (omega arith) (both_at 0 (parameters_of c_type) arguments one.0 number c_type' argument at its is));
        given = λ is. given_at c_type two.0 is;
        globals = all_come OfGlobal (λ number. refl) (λ number. refl) (length family.tac.globals) known.globals three.0;
        literals = all_come OfLiteral (λ number. refl) (λ number. refl) (length family.tac.literals) known.literals three.1;
      }
