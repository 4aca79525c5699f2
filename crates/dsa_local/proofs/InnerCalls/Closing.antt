-- What calls within a group ask of a graph that is being made holds in the graph of its certain nodes.
use Rattle.std.proofs.Common.{◌≡◌, ℕ, suc, ◌+◌, ◌<◌, ◌≤◌, Bool, true, false, List, [], ◌∷◌, length, Option, Some, None, inl, inr, refl, sym, ap, subst, ◌∙◌, arith, ltb-true}
use Rattle.std.specs.Prelude.{slice_get}
use Rattle.std.proofs.lemmas.Bool.{false≢true, and_parts, and_from, cases_lt}
use Rattle.c_typed.specs.Types.{CType}
use Rattle.tac_ir.specs.declared.register.Register.{Register}
use Rattle.tac_ir.specs.declared.register.Register.TheVariants as R
use Rattle.tac_ir.specs.declared.register.Local.TheVariants as L
use Rattle.tac_ir.specs.Code.{Function, Tac}
use Rattle.tac_ir.specs.States.{Owner, InFunction}
use Rattle.heap_graph.specs.Graphs.{Target, Name, OfRegister, OfResult, Graph}
use Rattle.heap_graph.specs.Targets.{has_target, implies}
use Rattle.heap_graph.specs.Points.{is_data_pointer}
use Rattle.heap_graph.specs.Closed.{Family, graph_of, group_of, parameters_of, result_of, function_type, formal, type_of, arguments_closed, inner_call, formals_closed, has_register, of_function, is_name, AreOne}
use Rattle.heap_graph.specs.Asks.{is_certain}
use Rattle.heap_graph.specs.Restricted.{if_certain, Restricts}
use Rattle.heap_graph.proofs.Certain.{has_if, eq_same}
use Rattle.graph_unification.specs.Standing.{CodeStands}
use Rattle.dsa_local.specs.Joined.{HaveOne, IsPassed, IsJoined, AreJoined, FormalsCertain}

implied : (test other : Bool) → (test ≡ true → other ≡ true) → implies test other ≡ true
implied true other gives = gives refl
implied false other gives = refl

-- the graph of a function's group is that of the certain nodes, or has the same targets
module _ (family : Family) (owner : Owner) (made kept : Graph) (restricts : Restricts made kept) (same : (name : Name) → (graph_of family owner).targets name ≡ kept.targets name) where
  abbrev own : Name → Option Target
  own name = (graph_of family owner).targets name

  -- registers and results have targets where those are certain
  abbrev IsRestricted : Name → Type 0
  IsRestricted name = own name ≡ if_certain made (made.targets name)

  register_restricted : (other : Owner) (register : Register) → IsRestricted (OfRegister other register)
  register_restricted other register = same (OfRegister other register) ∙ restricts.names (OfRegister other register) refl

  result_restricted : (other : Owner) → IsRestricted (OfResult other)
  result_restricted other = same (OfResult other) ∙ restricts.names (OfResult other) refl

  one_there : (a b : Name) → IsRestricted a → IsRestricted b → HaveOne a b made → own a ≡ own b
  one_there a b at_a at_b one = at_a ∙ (ap (if_certain made) (one.first ∙ sym one.second) ∙ sym at_b)

  certain_there : (name : Name) → IsRestricted name → is_certain made (made.targets name) ≡ true → has_target (own name) ≡ true
  certain_there name at is = ap has_target at ∙ (has_if made (made.targets name) ∙ is)

  -- ---- calls

  abbrev Passed : ℕ → ℕ → List CType → List Register → Type 0
  Passed called first types arguments =
      (number : ℕ) (c_type : CType) (argument : Register) → slice_get types number ≡ Some c_type → slice_get arguments number ≡ Some argument → is_data_pointer c_type ≡ true
      → IsPassed (OfRegister owner argument) (formal called (first + number)) made

  passed_closed : (called first : ℕ) (types : List CType) (arguments : List Register) → Passed called first types arguments → arguments_closed family owner (λ number. own (formal called number)) first types arguments ≡ true
  passed_closed called first [] arguments are = refl
  passed_closed called first (c_type ∷ types) [] are = refl
  passed_closed called first (c_type ∷ types) (argument ∷ arguments) are =
      and_from _ _
      (implied (is_data_pointer c_type) _
      (λ is.
      let here = subst (λ n. IsPassed (OfRegister owner argument) (formal called n) made) (omega arith) (are 0 c_type argument refl refl is) in
      let one = one_there (OfRegister owner argument) (formal called first) (register_restricted owner argument) (register_restricted (InFunction called) _) here.one in
      and_from _ _ (certain_there (OfRegister owner argument) (register_restricted owner argument) here.certain) (eq_same (own (OfRegister owner argument)) (own (formal called first)) one)))
      (passed_closed called (suc first) types arguments
      (λ number c_type' argument' at its is. subst (λ n. IsPassed (OfRegister owner argument') (formal called n) made) (omega arith) (are (suc number) c_type' argument' at its is)))

  pub inner_closed : (site : ℕ) (arguments : List Register) (called : ℕ) → IsJoined family.tac owner site arguments called made → inner_call family owner site arguments called ≡ true
  inner_closed site arguments called joined =
      and_from _ _
      (passed_closed called 0 (parameters_of (function_type family.tac called)) arguments
      (λ number c_type argument at its is. subst (λ n. IsPassed (OfRegister owner argument) (formal called n) made) (omega arith) (joined.passed number c_type argument at its is)))
      (implied (is_data_pointer (result_of (function_type family.tac called))) _
      (λ is.
      eq_same (own (OfRegister owner (R.Call site))) (own (OfResult (InFunction called)))
      (one_there (OfRegister owner (R.Call site)) (OfResult (InFunction called)) (register_restricted owner (R.Call site)) (result_restricted (InFunction called)) (joined.taken is))))

  -- ---- formals

  certain_closed : (function first : ℕ) (types : List CType)
      → ((number : ℕ) (c_type : CType) → slice_get types number ≡ Some c_type → is_data_pointer c_type ≡ true → is_certain made (made.targets (formal function (first + number))) ≡ true)
      → formals_closed family owner function first types ≡ true
  certain_closed function first [] certain = refl
  certain_closed function first (c_type ∷ types) certain =
      and_from _ _
      (implied (is_data_pointer c_type) _
      (λ is. certain_there (formal function first) (register_restricted (InFunction function) _) (subst (λ n. is_certain made (made.targets (formal function n)) ≡ true) (omega arith) (certain 0 c_type refl is))))
      (certain_closed function (suc first) types
      (λ number c_type' at is. subst (λ n. is_certain made (made.targets (formal function n)) ≡ true) (omega arith) (certain (suc number) c_type' at is)))

  pub formals_there : (function : ℕ) → FormalsCertain family.tac function made → formals_closed family owner function 0 (parameters_of (function_type family.tac function)) ≡ true
  formals_there function certain =
      certain_closed function 0 (parameters_of (function_type family.tac function))
      (λ number c_type at is. subst (λ n. is_certain made (made.targets (formal function n)) ≡ true) (omega arith) (certain number c_type at is))

  -- ---- classes

  shared : (a b : ℕ) → AreJoined family.tac a b made → (number : ℕ) → number < length (parameters_of (function_type family.tac a)) → own (formal a number) ≡ own (formal b number)
  shared a b joined number less = one_there (formal a number) (formal b number) (register_restricted (InFunction a) _) (register_restricted (InFunction b) _) (joined.formals number less)

  given : (a b : ℕ) → AreJoined family.tac a b made → own (OfResult (InFunction a)) ≡ own (OfResult (InFunction b))
  given a b joined = one_there (OfResult (InFunction a)) (OfResult (InFunction b)) (result_restricted (InFunction a)) (result_restricted (InFunction b)) joined.result

-- beyond its formals a function has no parameters
abbrev pub NoneBeyond : Tac → Graph → ℕ → Type 0
NoneBeyond tac graph function = (number : ℕ) → length (parameters_of (function_type tac function)) ≤ number → graph.targets (formal function number) ≡ None

-- that is so where all names that have targets are names of the graph's functions
pub none_beyond : (tac : Tac) → CodeStands tac → (graph : Graph) (owners : Owner → Bool) → ((name : Name) → has_target (graph.targets name) ≡ true → is_name tac owners name ≡ true) → (function : ℕ) → NoneBeyond tac graph function
none_beyond tac code graph owners named function number beyond = by (graph.targets (formal function number)) refl
  where
    there : (found : Option Function) → slice_get tac.functions function ≡ found → of_function found (λ its. has_register its (R.Local (L.Parameter number))) ≡ true → number < length (parameters_of (function_type tac function))
    there None is has = absurd (false≢true has)
    there (Some its) is has =
        let less = ltb-true number its.parameters has in
        let many = code.parameters function its is in
        let told = ap (λ f. length (parameters_of (type_of f))) is in
        omega (arith, less, many, told)

    by : (target : Option Target) → graph.targets (formal function number) ≡ target → graph.targets (formal function number) ≡ None
    by None is = is
    by (Some target) is =
        let less = there (slice_get tac.functions function) refl (and_parts (owners (InFunction function)) _ (named (formal function number) (ap has_target is))).1 in
        absurd (omega (arith, less, beyond))

-- functions that share formals and result in the one graph do so in the other
pub one_closed : (family : Family) (made kept : Graph) → Restricts made kept → (a b : ℕ) → ((name : Name) → (graph_of family (InFunction a)).targets name ≡ kept.targets name)
    → NoneBeyond family.tac (graph_of family (InFunction a)) a → NoneBeyond family.tac (graph_of family (InFunction a)) b → function_type family.tac a ≡ function_type family.tac b
    → group_of family a ≡ group_of family b → AreJoined family.tac a b made → AreOne family a b
one_closed family made kept restricts a b same none none_other types group joined = record {
  group = group;
  formals = λ number. elim (cases_lt number (length (parameters_of (function_type family.tac a)))) [
    | inl less ↦ shared family (InFunction a) made kept restricts same a b joined number less
    | inr beyond ↦ none number beyond ∙ sym (none_other number (subst (λ t. length (parameters_of t) ≤ number) types beyond))
  ];
  result = given family (InFunction a) made kept restricts same a b joined;
}
