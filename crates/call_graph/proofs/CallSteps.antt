-- Edges are added to the graph of calls.
use Rattle.std.proofs.Common.{◌≡◌, ℕ, ◌+◌, ◌⊎◌, List, [], ◌∷◌, ◌++◌, Some, None, inl, inr, refl, sym, ap, subst, ◌∙◌, arith}
use Rattle.std.specs.Prelude.{slice_get}
use Rattle.std.proofs.lemmas.Bool.{cases_lt}
use Rattle.std.proofs.lemmas.Option.{none-some, same_Some}
use Rattle.c_typed.specs.Table.{Interned}
use Rattle.tac_ir.specs.declared.op.Op as memory_op
use Rattle.tac_ir.specs.declared.op.Op.TheVariants as M
use Rattle.tac_ir.specs.declared.register.Register.{Register}
use Rattle.tac_ir.specs.Code as O
use Rattle.tac_ir.specs.Code.{Callee, Known, Through, Op, Function, Tac}
use Rattle.tac_ir.specs.Views.{op_in}
use Rattle.call_graph.specs.RowLists.{Has}
use Rattle.call_graph.proofs.RowLists.{in_front, in_back, in_either, has_at, at_has}
use Rattle.tac_ir.specs.Groups.{Makes}
use Rattle.call_graph.specs.TargetLists.{IsFirstTarget, IsClassOf}
use Rattle.call_graph.proofs.TargetFacts.{one_first_target}
use Rattle.call_graph.specs.CallLists.{HasCall, CallsTo, AddsCalls, CallsClass, AddsCalled, AreFirstCalls}

-- ---- points that are no calls

pub no_call : (table : Interned) (op : memory_op.Op) → ((site : ℕ) (callee : _) (arguments : _) → op ≡ M.Call site callee arguments → ⊥) → (site : ℕ) (callee : Callee) (arguments : List Register) → op_in table op ≡ O.Call site callee arguments → ⊥
no_call table M.Reserved none site' callee' arguments' e = absurd (cc)
no_call table (M.Jump to) none site' callee' arguments' e = absurd (cc)
no_call table (M.Branch int_type condition holds fails) none site' callee' arguments' e = absurd (cc)
no_call table (M.Assign to tree) none site' callee' arguments' e = absurd (cc)
no_call table (M.Null to) none site' callee' arguments' e = absurd (cc)
no_call table (M.FunctionAddress to function) none site' callee' arguments' e = absurd (cc)
no_call table (M.Copy to from) none site' callee' arguments' e = absurd (cc)
no_call table (M.Test to pointer) none site' callee' arguments' e = absurd (cc)
no_call table (M.Move to pointer element is_minus number) none site' callee' arguments' e = absurd (cc)
no_call table (M.Difference to element left right) none site' callee' arguments' e = absurd (cc)
no_call table (M.ComparePointers to relation left right) none site' callee' arguments' e = absurd (cc)
no_call table (M.Repoint to target from) none site' callee' arguments' e = absurd (cc)
no_call table (M.Address to path) none site' callee' arguments' e = absurd (cc)
no_call table (M.Load to scalar path) none site' callee' arguments' e = absurd (cc)
no_call table (M.Store path scalar value) none site' callee' arguments' e = absurd (cc)
no_call table (M.Allocate site size) none site' callee' arguments' e = absurd (cc)
no_call table (M.Free site pointer) none site' callee' arguments' e = absurd (cc)
no_call table (M.GetChar site) none site' callee' arguments' e = absurd (cc)
no_call table (M.PutChar site value) none site' callee' arguments' e = absurd (cc)
no_call table (M.Exit status) none site' callee' arguments' e = absurd (cc)
no_call table (M.Return value) none site' callee' arguments' e = absurd (cc)
no_call table (M.Call site callee arguments) none site' callee' arguments' e = none site callee arguments refl

-- ---- one more point

one_point : (done : List Op) (op : Op) (callee : Callee) → HasCall (done ++ op ∷ []) callee → HasCall done callee ⊎ ((site : ℕ) × (arguments : List Register) × (op ≡ O.Call site callee arguments))
one_point done op callee call = elim (in_either done (op ∷ []) (O.Call call.site callee call.arguments) call.has) [
  | inl before ↦ inl (record { site = call.site; arguments = call.arguments; has = before })
  | inr last ↦ (elim last [ inl same ↦ inr (call.site, call.arguments, sym same) | inr none ↦ absurd none ])
]

earlier : (done : List Op) (op : Op) (callee : Callee) → HasCall done callee → HasCall (done ++ op ∷ []) callee
earlier done op callee call = record { site = call.site; arguments = call.arguments; has = in_front done (op ∷ []) (O.Call call.site callee call.arguments) call.has }

its_callee : (a b : ℕ) (c d : Callee) (p q : List Register) → O.Call a c p ≡ O.Call b d q → c ≡ d
its_callee a b c d p q e = cc

-- no call leads to a function
none_first : (tac : Tac) (callee : Callee) (node : ℕ) → IsFirstTarget tac callee None → IsFirstTarget tac callee (Some node) → ⊥
none_first tac callee node none some = none node some.0

module _ (tac : Tac) (caller : ℕ) where
  pub no_calls : (edges : List (ℕ × ℕ)) → AddsCalls tac caller [] edges edges
  no_calls edges = record { kept = λ edge is. is; to = λ callee node call first. absurd call.has; from = λ edge is. inl is }

  module _ (done more : List Op) (old mid new : List (ℕ × ℕ)) (op : Op) (known : AddsCalls tac caller done old mid) (e : more ≡ done ++ op ∷ []) where
    later : (node : ℕ) → CallsTo tac done node → CallsTo tac more node
    later node calls = record { callee = calls.callee; call = subst (λ l. HasCall l calls.callee) (sym e) (earlier done op calls.callee calls.call); first = calls.first }

    pub call_none : ((callee : Callee) (node site : ℕ) (arguments : List Register) → op ≡ O.Call site callee arguments → IsFirstTarget tac callee (Some node) → ⊥) → new ≡ mid → AddsCalls tac caller more old new
    call_none none same = record {
      kept = λ edge is. subst (λ l. Has l edge) (sym same) (known.kept edge is);
      to = λ callee node call first. subst (λ l. Has l (caller, node)) (sym same) (elim (one_point done op callee (subst (λ l. HasCall l callee) e call)) [
        | inl before ↦ known.to callee node before first
        | inr here ↦ absurd (none callee node here.0 here.1 here.2 first)
      ]);
      from = λ edge is. elim (known.from edge (subst (λ l. Has l edge) same is)) [ inl was ↦ inl was | inr own ↦ inr (own.0, later edge.1 own.1) ];
    }

    pub call_some : (callee : Callee) (node site : ℕ) (arguments : List Register) → op ≡ O.Call site callee arguments → IsFirstTarget tac callee (Some node) → new ≡ mid ++ (caller, node) ∷ [] → AddsCalls tac caller more old new
    call_some callee node site arguments is first adds = record {
      kept = λ edge has. subst (λ l. Has l edge) (sym adds) (in_front mid _ edge (known.kept edge has));
      to = λ callee' node' call first'. subst (λ l. Has l (caller, node')) (sym adds) (elim (one_point done op callee' (subst (λ l. HasCall l callee') e call)) [
        | inl before ↦ in_front mid _ (caller, node') (known.to callee' node' before first')
        | inr here ↦ (let same : callee' ≡ callee = its_callee here.0 site callee' callee here.1 arguments (sym here.2 ∙ is) in
            let equal : node' ≡ node = one_first_target tac callee node' node (subst (λ (c : Callee). IsFirstTarget tac c (Some node')) same first') first in
            in_back mid _ (caller, node') (inl (λ i. (caller, equal i))))
      ]);
      from = λ edge has. elim (in_either mid _ edge (subst (λ l. Has l edge) adds has)) [
        | inl before ↦ (elim (known.from edge before) [ inl was ↦ inl was | inr own ↦ inr (own.0, later edge.1 own.1) ])
        | inr last ↦ (elim last [
          | inl same ↦ inr (
            ap (λ (l : ℕ × ℕ). l.0) same,
            record {
              callee = callee;
              call = subst (λ l. HasCall l callee) (sym e) (record { site = site; arguments = arguments; has = in_back done _ (O.Call site callee arguments) (inl (sym is)) });
              first = subst (λ n. IsFirstTarget tac callee (Some n)) (sym (ap (λ (l : ℕ × ℕ). l.1) same)) first;
            },
          )
          | inr none ↦ absurd none
        ])
      ];
    }

    pub call_nowhere : (callee : Callee) (site : ℕ) (arguments : List Register) → op ≡ O.Call site callee arguments → IsFirstTarget tac callee None → new ≡ mid → AddsCalls tac caller more old new
    call_nowhere callee site arguments is none same =
        call_none (λ callee' node site' arguments' is' first. none_first tac callee node none
        (subst (λ (c : Callee). IsFirstTarget tac c (Some node)) (its_callee site' site callee' callee arguments' arguments (sym is' ∙ is)) first)) same

-- ---- classes

module _ (tac : Tac) where
  pub no_classes : (called : List ℕ) → AddsCalled tac [] called called
  no_classes called = record { kept = λ first is. is; to = λ first calls. absurd calls.call.has; from = λ first is. inl is }

  module _ (done more : List Op) (old mid new : List ℕ) (op : Op) (known : AddsCalled tac done old mid) (e : more ≡ done ++ op ∷ []) where
    later_class : (first : ℕ) → CallsClass tac done first → CallsClass tac more first
    later_class first calls = record {
      pointer = calls.pointer;
      c_type = calls.c_type;
      call = subst (λ l. HasCall l (Through calls.pointer calls.c_type)) (sym e) (earlier done op (Through calls.pointer calls.c_type) calls.call);
      first' = calls.first';
    }

    pub class_none : ((callee : Callee) (site : ℕ) (arguments : List Register) → op ≡ O.Call site callee arguments → IsClassOf tac callee None) → new ≡ mid → AddsCalled tac more old new
    class_none none same = record {
      kept = λ first is. subst (λ l. Has l first) (sym same) (known.kept first is);
      to = λ first calls. subst (λ l. Has l first) (sym same) (elim (one_point done op (Through calls.pointer calls.c_type) (subst (λ l. HasCall l (Through calls.pointer calls.c_type)) e calls.call)) [
        | inl before ↦ known.to first (record { pointer = calls.pointer; c_type = calls.c_type; call = before; first' = calls.first' })
        | inr here ↦ absurd (none_first tac (Through calls.pointer calls.c_type) first (none (Through calls.pointer calls.c_type) here.0 here.1 here.2) calls.first')
      ]);
      from = λ first is. elim (known.from first (subst (λ l. Has l first) same is)) [ inl was ↦ inl was | inr own ↦ inr (later_class first own) ];
    }

    pub class_some : (callee : Callee) (first site : ℕ) (arguments : List Register) → op ≡ O.Call site callee arguments → IsClassOf tac callee (Some first) → new ≡ mid ++ first ∷ [] → AddsCalled tac more old new
    class_some (Known function) first site arguments is class adds = absurd (none-some first (sym class))
    class_some (Through pointer c_type) first site arguments is class adds = record {
      kept = λ other has. subst (λ l. Has l other) (sym adds) (in_front mid _ other (known.kept other has));
      to = λ other calls. subst (λ l. Has l other) (sym adds) (elim (one_point done op (Through calls.pointer calls.c_type) (subst (λ l. HasCall l (Through calls.pointer calls.c_type)) e calls.call)) [
        | inl before ↦ in_front mid _ other (known.to other (record { pointer = calls.pointer; c_type = calls.c_type; call = before; first' = calls.first' }))
        | inr here ↦ (let same : Through calls.pointer calls.c_type ≡ Through pointer c_type = its_callee here.0 site (Through calls.pointer calls.c_type) (Through pointer c_type) here.1 arguments (sym here.2 ∙ is) in
            in_back mid _ other (inl (one_first_target tac (Through pointer c_type) other first (subst (λ (t : Callee). IsFirstTarget tac t (Some other)) same calls.first') class)))
      ]);
      from = λ other has. elim (in_either mid _ other (subst (λ l. Has l other) adds has)) [
        | inl before ↦ (elim (known.from other before) [ inl was ↦ inl was | inr own ↦ inr (later_class other own) ])
        | inr last ↦ (elim last [
          | inl same ↦ inr (record {
            pointer = pointer;
            c_type = c_type;
            call = subst (λ l. HasCall l (Through pointer c_type)) (sym e) (record { site = site; arguments = arguments; has = in_back done _ (O.Call site (Through pointer c_type) arguments) (inl (sym is)) });
            first' = subst (λ n. IsFirstTarget tac (Through pointer c_type) (Some n)) (sym same) class;
          })
          | inr none ↦ absurd none
        ])
      ];
    }

    pub class_nowhere : (callee : Callee) (site : ℕ) (arguments : List Register) → op ≡ O.Call site callee arguments → IsClassOf tac callee None → new ≡ mid → AddsCalled tac more old new
    class_nowhere callee site arguments is none same =
        class_none (λ callee' site' arguments' is'. subst (λ (c : Callee). IsClassOf tac c None) (sym (its_callee site' site callee' callee arguments' arguments (sym is' ∙ is))) none) same

-- ---- one more function

makes_points : (tac : Tac) (caller : ℕ) (callee : Callee) (function : Function) → slice_get tac.functions caller ≡ Some function → Makes tac caller callee → HasCall function.points callee
makes_points tac caller callee function is makes = record {
  site = makes.site;
  arguments = makes.arguments;
  has = has_at function.points makes.at (O.Call makes.site callee makes.arguments) (subst (λ (f : Function). slice_get f.points makes.at ≡ Some (O.Call makes.site callee makes.arguments)) (same_Some makes.function function (sym makes.is ∙ is)) makes.point);
}

points_make : (tac : Tac) (caller : ℕ) (callee : Callee) (function : Function) → slice_get tac.functions caller ≡ Some function → HasCall function.points callee → Makes tac caller callee
points_make tac caller callee function is call =
    let found = at_has function.points (O.Call call.site callee call.arguments) call.has in
    record { function = function; is = is; at = found.0; site = call.site; arguments = call.arguments; point = found.1 }

pub no_functions : (tac : Tac) (edges : List (ℕ × ℕ)) (called : List ℕ) → edges ≡ [] → called ≡ [] → AreFirstCalls tac 0 edges called
no_functions tac edges called none none' = record {
  to = λ caller callee node lt makes first. absurd (omega (arith, lt));
  from = λ edge is. absurd (subst (λ l. Has l edge) none is);
  class_to = λ caller pointer c_type first lt makes is. absurd (omega (arith, lt));
  class_from = λ first is. absurd (subst (λ l. Has l first) none' is);
}

pub one_function : (tac : Tac) (at next : ℕ) (function : Function) (edges edges' : List (ℕ × ℕ)) (called called' : List ℕ) → AreFirstCalls tac at edges called → slice_get tac.functions at ≡ Some function
    → AddsCalls tac at function.points edges edges' → AddsCalled tac function.points called called' → next ≡ at + 1 → AreFirstCalls tac next edges' called'
one_function tac at next function edges edges' called called' known is calls classes e = record {
  to = λ caller callee node lt makes first. elim (cases_lt caller at) [
    | inl before ↦ calls.kept (caller, node) (known.to caller callee node before makes first)
    | inr le ↦ (let same : caller ≡ at = omega (arith, lt, le, e) in
        subst (λ n. Has edges' (n, node)) (sym same) (calls.to callee node (makes_points tac at callee function is (subst (λ n. Makes tac n callee) same makes)) first))
  ];
  from = λ edge has. elim (calls.from edge has) [
    | inl was ↦ known.from edge was
    | inr own ↦ (own.1.callee, subst (λ n. Makes tac n own.1.callee) (sym own.0) (points_make tac at own.1.callee function is own.1.call), own.1.first)
  ];
  class_to = λ caller pointer c_type first lt makes first'. elim (cases_lt caller at) [
    | inl before ↦ classes.kept first (known.class_to caller pointer c_type first before makes first')
    | inr le ↦ (let same : caller ≡ at = omega (arith, lt, le, e) in
        classes.to first (record { pointer = pointer; c_type = c_type; call = makes_points tac at (Through pointer c_type) function is (subst (λ n. Makes tac n (Through pointer c_type)) same makes); first' = first' }))
  ];
  class_from = λ first has. elim (classes.from first has) [
    | inl was ↦ known.class_from first was
    | inr own ↦ (at, own.pointer, own.c_type, points_make tac at (Through own.pointer own.c_type) function is own.call, own.first')
  ];
}
