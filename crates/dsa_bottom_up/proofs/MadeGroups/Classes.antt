-- Functions of a class share formals and results.
use Rattle.std.proofs.Common.{◌≡◌, ℕ, Bool, true, false, List, Option, Some, None, refl, sym, ap, ◌∙◌}
use Rattle.std.specs.Prelude.{slice_get}
use Rattle.std.proofs.lemmas.Bool.{false≢true, and_parts}
use Rattle.c_typed.specs.Types.{CType}
use Rattle.c_typed.proofs.Same.{same_type-true}
use Rattle.tac_ir.specs.declared.register.Register.{Register}
use Rattle.tac_ir.specs.Code.{Through, Function}
use Rattle.tac_ir.specs.States.{Owner, InFunction}
use Rattle.tac_ir.specs.Targets.{is_target, is_taken, has_type}
use Rattle.heap_graph.specs.Graphs.{Name, OfCopy, Graph}
use Rattle.heap_graph.specs.Targets.{has_target}
use Rattle.heap_graph.specs.Closed.{Family, graph_of, function_type, type_of, is_name}
use Rattle.dsa_local.specs.Mentioned.{is_among}
use Rattle.dsa_local.proofs.GroupBegins.Closing.{only_close}
use Rattle.dsa_local.proofs.InnerCalls.Closing.{none_beyond, one_closed}
use Rattle.dsa_bottom_up.specs.MadeGroups.Made.{IsGroup, AreClassesOne, IsMade}
use Rattle.dsa_bottom_up.proofs.Points.{shows}

-- the type of a function to which a call may come is the call's
target_type : (family : Family) (pointer : Register) (c_type : CType) (function : ℕ) → is_target family.tac (Through pointer c_type) function ≡ true → function_type family.tac function ≡ c_type
target_type family pointer c_type function is = by (slice_get family.tac.functions function) refl (and_parts (is_taken family.tac function) (has_type c_type (slice_get family.tac.functions function)) is).1
  where
    by : (found : Option Function) → slice_get family.tac.functions function ≡ found → has_type c_type found ≡ true → function_type family.tac function ≡ c_type
    by None at h = absurd (false≢true h)
    by (Some its) at h = ap type_of at ∙ same_type-true its.c_type c_type h

module _ (family : Family) (owners : List Owner) (inside : ℕ → Bool) (made kept : Graph) (group : IsGroup family owners inside) (its : IsMade family owners inside made kept) where
  there : (function : ℕ) → inside function ≡ true → is_among (InFunction function) owners ≡ true
  there function is = group.own function ∙ is

  named : (function : ℕ) → inside function ≡ true → (name : Name) → has_target ((graph_of family (InFunction function)).targets name) ≡ true → is_name family.tac (λ other. is_among other owners) name ≡ true
  named function is =
      only_close family made kept its.restricts (InFunction function) (shows family owners inside made kept its (InFunction function) (there function is)) owners its.told
      (λ number. ap (λ (graph : Graph). graph.targets (OfCopy number)) (its.shown (InFunction function) (there function is)) ∙ its.copies number)

  pub classes_hold : AreClassesOne family inside
  classes_hold pointer c_type a b called first second is =
      let other = group.together pointer c_type a b called first second is in
      let graphs : graph_of family (InFunction a) ≡ graph_of family (InFunction b) = its.shown (InFunction a) (there a is) ∙ sym (its.shown (InFunction b) (there b other)) in
      one_closed family made kept its.restricts a b (λ name. ap (λ (graph : Graph). graph.targets name) (its.shown (InFunction a) (there a is)))
      (none_beyond family.tac group.code (graph_of family (InFunction a)) (λ other. is_among other owners) (named a is) a)
      (none_beyond family.tac group.code (graph_of family (InFunction a)) (λ other. is_among other owners) (named a is) b)
      (target_type family pointer c_type a first ∙ sym (target_type family pointer c_type b second))
      (group.members a b is other)
      (its.classes a b (record {
        pointer = pointer;
        c_type = c_type;
        called = called;
        within = λ function target. group.together pointer c_type a function called first target is;
        first = first;
        second = second;
      }))
