-- Names that are told one after the other.
use Rattle.std.proofs.Common.{◌≡◌, ℕ, suc, ◌+◌, ◌<◌, ◌≤◌, Bool, true, false, cond, eqb, List, ◌∷◌, length, drop, get_or, Option, Some, None, refl, sym, ap, subst, ◌∙◌, arith}
use Rattle.std.specs.Prelude.{nat_lt}
use Rattle.std.proofs.Math.Seq.{drop-cons}
use Rattle.std.proofs.lemmas.Bool.{false≢true, cond-true, cond-false, eqb-true, lt-ltb, le-ltb}
use Rattle.indexmap.specs.IndexMap.{IndexMap, get, Updates}
use Rattle.tac_ir.specs.declared.register.Local.{Local}
use Rattle.tac_ir.specs.declared.register.Local.TheVariants as L
use Rattle.tac_ir.specs.declared.register.Register.{Register}
use Rattle.tac_ir.specs.declared.register.Register.TheVariants as R
use Rattle.tac_ir.specs.declared.program.LocalObject.{LocalObject}
use Rattle.tac_ir.specs.declared.program.Function.{Function}
use Rattle.tac_ir.specs.States.{Owner}
use Rattle.heap_graph.specs.declared.graph.Target as memory_target
use Rattle.heap_graph.specs.Graphs.{Target, OfRegister, OfResult, OfObject, Graph}
use Rattle.heap_graph.specs.Memory.{target_of}
use Rattle.graph_unification.specs.Cells.{has_number}
use Rattle.heap_graph.specs.declared.frozen.FunctionNames.{FunctionNames}
use Rattle.heap_graph.specs.Frozen.{optional_target, flat, target_in, static_in, register_target, object_target}
use Rattle.graph_unification.specs.declared.name_targets.RegisterKind.TheVariants as K
use Rattle.graph_unification.specs.Freezing.{certain_name, TellsBelow, TellsObjects, TellsNames, numbered, has_register, has_object, same_local, local_in}
use Rattle.graph_unification.proofs.ToldLists.{each_all}

-- So far names are told but for those that are left; what has no target isn't told of any.
pub record Telling {K : Type 0} (target : K → Option Target) (all left : K → Bool) (told : K → Option Target) : Type 0 where
  pub shown : (key : K) → cond (left key) (target key) (told key) ≡ cond (all key) (target key) None
  pub own : (key : K) → target key ≡ None → told key ≡ None

module _ {K : Type 0} (target : K → Option Target) (all left same : K → Bool) (told : K → Option Target) (telling : Telling target all (λ key. cond (same key) true (left key)) told) where
  pub one_told : (new : K → Option Target) (it : Option Target) → ((key : K) → same key ≡ true → it ≡ target key) → ((key : K) → new key ≡ cond (same key) it (told key)) → Telling target all left new
  one_told new it is adds = record {
    shown = λ key. ap (cond (left key) (target key)) (adds key) ∙ by key (same key) refl (left key) (telling.shown key);
    own = λ key none. adds key ∙ without key none (same key) refl;
  }
    where
      by : (key : K) (s : Bool) → same key ≡ s → (l : Bool) → cond (cond s true l) (target key) (told key) ≡ cond (all key) (target key) None
          → cond l (target key) (cond s it (told key)) ≡ cond (all key) (target key) None
      by key true e true h = h
      by key true e false h = is key e ∙ h
      by key false e true h = h
      by key false e false h = h

      without : (key : K) → target key ≡ None → (s : Bool) → same key ≡ s → cond s it (told key) ≡ None
      without key none true e = is key e ∙ none
      without key none false e = telling.own key none

  pub none_told : ((key : K) → same key ≡ true → None ≡ target key) → Telling target all left told
  none_told is = one_told told None is (λ key. by key (same key) refl)
    where
      by : (key : K) (s : Bool) → same key ≡ s → told key ≡ cond s None (told key)
      by key true e = telling.own key (sym (is key e))
      by key false e = refl

-- ---- registers

pub told_below : (target : ℕ → Option Target) (targets : List (Option memory_target.Target)) (count reached : ℕ) → length targets ≡ reached → reached ≡ count
    → ((n : ℕ) → n < reached → target_in targets n ≡ target n) → (n : ℕ) → target_in targets n ≡ cond (nat_lt n count) (target n) None
told_below target targets count reached long same each = each_all (λ n o. flat o ≡ cond (nat_lt n count) (target n) None) targets reached long
    (λ n less. let within : n < count = omega arith in each n less ∙ sym (cond-true (nat_lt n count) (target n) None (lt-ltb n count within)))
    (λ n over. let beyond : count ≤ n = omega arith in sym (cond-false (nat_lt n count) (target n) None (le-ltb n count beyond)))

module _ (graph : Graph) (owner : Owner) (function : Function) (names : FunctionNames) where
  pub names_told :
      TellsBelow graph (λ number. OfRegister owner (numbered K.Parameter number)) function.parameters names.parameters.items
      → TellsBelow graph (λ number. OfRegister owner (numbered K.Variable number)) function.counts.variables names.variables.items
      → TellsBelow graph (λ number. OfRegister owner (numbered K.Call number)) function.counts.calls names.calls.items
      → TellsBelow graph (λ number. OfRegister owner (numbered K.Argument number)) function.counts.arguments names.arguments.items
      → TellsBelow graph (λ number. OfRegister owner (numbered K.Expression number)) function.counts.expressions names.expressions.items
      → TellsObjects graph owner function.objects.items names.parameter_objects.items names.variable_objects.items
      → optional_target names.returned ≡ certain_name graph (OfResult owner) → TellsNames graph owner function names
  names_told parameters variables calls arguments expressions objects returned = record { of_registers = registers; of_result = returned; of_objects = locals }
    where
      registers : (register : Register) → register_target names register ≡ cond (has_register function.parameters function.counts register) (certain_name graph (OfRegister owner register)) None
      registers (R.Local (L.Parameter number)) = parameters number
      registers (R.Local (L.Variable number)) = variables number
      registers (R.Call number) = calls number
      registers (R.Argument number) = arguments number
      registers (R.Expression number) = expressions number
      registers (R.Temporary number) = refl

      locals : (local : Local) → object_target names local ≡ cond (has_object function.objects.items local) (certain_name graph (OfObject owner local)) None
      locals (L.Parameter number) = objects (L.Parameter number)
      locals (L.Variable number) = objects (L.Variable number)

-- ---- locals in memory

pub same_is : (a b : Local) → same_local a b ≡ true → a ≡ b
same_is (L.Parameter a) (L.Parameter b) e = ap L.Parameter (eqb-true a b e)
same_is (L.Parameter a) (L.Variable b) e = absurd (false≢true e)
same_is (L.Variable a) (L.Parameter b) e = absurd (false≢true e)
same_is (L.Variable a) (L.Variable b) e = ap L.Variable (eqb-true a b e)

module _ (number : ℕ) (it : Option Target) (old new others : List (Option memory_target.Target)) (put : (other : ℕ) → target_in new other ≡ cond (eqb number other) it (target_in old other)) where
  pub put_parameter : (key : Local) → local_in new others key ≡ cond (same_local (L.Parameter number) key) it (local_in old others key)
  put_parameter (L.Parameter other) = put other
  put_parameter (L.Variable other) = refl

  pub put_variable : (key : Local) → local_in others new key ≡ cond (same_local (L.Variable number) key) it (local_in others old key)
  put_variable (L.Parameter other) = refl
  put_variable (L.Variable other) = put other

pub next_object : (graph : Graph) (owner : Owner) (objects : List LocalObject) (index : ℕ) (object : LocalObject) (parameters variables new_parameters new_variables : List (Option memory_target.Target)) (it : Option Target)
    → drop index objects ≡ object ∷ drop (suc index) objects
    → Telling (λ local. certain_name graph (OfObject owner local)) (has_object objects) (has_object (drop index objects)) (local_in parameters variables)
    → it ≡ certain_name graph (OfObject owner object.local)
    → ((key : Local) → local_in new_parameters new_variables key ≡ cond (same_local object.local key) it (local_in parameters variables key))
    → Telling (λ local. certain_name graph (OfObject owner local)) (has_object objects) (has_object (drop (index + 1) objects)) (local_in new_parameters new_variables)
next_object graph owner objects index object parameters variables new_parameters new_variables it is telling told adds =
    let target = λ (local : Local). certain_name graph (OfObject owner local) in
    let left = has_object (drop (suc index) objects) in
    let next : suc index ≡ index + 1 = omega arith in
    subst (λ n. Telling target (has_object objects) (has_object (drop n objects)) (local_in new_parameters new_variables)) next
    (one_told target (has_object objects) left (λ key. same_local object.local key) (local_in parameters variables) (subst (λ l. Telling target (has_object objects) (has_object l) (local_in parameters variables)) is telling)
    (local_in new_parameters new_variables) it (λ key same. told ∙ ap target (same_is object.local key same)) adds)

-- ---- variables outside functions and literals

optional_cond : (b : Bool) (it : memory_target.Target) (o : Option memory_target.Target) → optional_target (cond b (Some it) o) ≡ cond b (Some (target_of it)) (optional_target o)
optional_cond true it o = refl
optional_cond false it o = refl

module _ {S : Type 0} (target : ℕ → Option Target) (numbers : List ℕ) (index : ℕ) (old : IndexMap ℕ memory_target.Target S) (within : index < length numbers)
    (telling : Telling target (has_number numbers) (has_number (drop index numbers)) (static_in old)) where
  after : Telling target (has_number numbers) (λ key. cond (eqb (get_or numbers index 0) key) true (has_number (drop (suc index) numbers) key)) (static_in old)
  after = subst (λ l. Telling target (has_number numbers) (has_number l) (static_in old)) (drop-cons numbers index 0 within) telling

  pub next_number : (new : IndexMap ℕ memory_target.Target S) (it : memory_target.Target) → Some (target_of it) ≡ target (get_or numbers index 0) → Updates eqb old new (get_or numbers index 0) (Some it)
      → Telling target (has_number numbers) (has_number (drop (index + 1) numbers)) (static_in new)
  next_number new it told updates =
      let next : suc index ≡ index + 1 = omega arith in
      let number = get_or numbers index 0 in
      subst (λ n. Telling target (has_number numbers) (has_number (drop n numbers)) (static_in new)) next
      (one_told target (has_number numbers) (has_number (drop (suc index) numbers)) (λ key. eqb number key) (static_in old) after (static_in new) (Some (target_of it)) (λ key same. told ∙ ap target (eqb-true number key same))
      (λ key. ap optional_target (updates.0 key) ∙ optional_cond (eqb number key) it (get eqb old key)))

  pub next_without : None ≡ target (get_or numbers index 0) → Telling target (has_number numbers) (has_number (drop (index + 1) numbers)) (static_in old)
  next_without told =
      let next : suc index ≡ index + 1 = omega arith in
      let number = get_or numbers index 0 in
      subst (λ n. Telling target (has_number numbers) (has_number (drop n numbers)) (static_in old)) next
      (none_told target (has_number numbers) (has_number (drop (suc index) numbers)) (λ key. eqb number key) (static_in old) after (λ key same. told ∙ ap target (eqb-true number key same)))
