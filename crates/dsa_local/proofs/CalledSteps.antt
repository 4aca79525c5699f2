-- Calls through pointers are put down with the first functions that they may reach.
use Rattle.std.proofs.Common.{◌≡◌, ℕ, zero, suc, ◌+◌, ◌<◌, ◌⊎◌, true, List, [], ◌∷◌, ◌++◌, length, set, get_or, Option, Some, None, inl, inr, refl, sym, ap, subst, ◌∙◌, arith, length-set, length-append}
use Rattle.std.specs.Prelude.{slice_get}
use Rattle.std.proofs.lemmas.Bool.{false≢true, cases_eq, and_parts}
use Rattle.std.proofs.lemmas.List.{length-map, get_or-set_same, get_or-set_other}
use Rattle.std.proofs.lemmas.Option.{none-some, same_Some, slice_get_within}
use Rattle.c_typed.specs.Types.{CType}
use Rattle.tac_ir.specs.declared.op.Callee as memory_callee
use Rattle.tac_ir.specs.declared.program.Tac as memory_tac
use Rattle.tac_ir.specs.declared.register.Register.{Register}
use Rattle.tac_ir.specs.Code as O
use Rattle.tac_ir.specs.Code.{Callee, Known, Through, Op, Function, Tac}
use Rattle.tac_ir.specs.States.{Owner, InStart, InFunction, function_of}
use Rattle.tac_ir.specs.Views.{callee_in, function_in, tac_of}
use Rattle.tac_ir.specs.Targets.{is_target, is_taken, has_type}
use Rattle.call_graph.specs.TargetLists.{IsClassOf}
use Rattle.call_graph.proofs.TargetFacts.{one_first_target}
use Rattle.call_graph.proofs.RowLists.{in_front, in_back, in_either, has_at, at_has}
use Rattle.call_graph.specs.CallLists.{HasCall}
use Rattle.dsa_local.specs.Joined.{IsCalled}
use Rattle.dsa_local.specs.declared.called.CalledClasses.{CalledClasses}
use Rattle.dsa_local.specs.Called.{call_at, CallsFirst, AddsCalled, AreFirstCalled, AreNone, AreCalled}

-- ---- functions that calls through pointers may reach

-- they are functions of the program
pub target_within : (tac : Tac) (pointer : Register) (c_type : CType) (function : ℕ) → is_target tac (Through pointer c_type) function ≡ true → function < length tac.functions
target_within tac pointer c_type function is = by (slice_get tac.functions function) refl (and_parts (is_taken tac function) _ is).1
  where
    by : (found : Option Function) → slice_get tac.functions function ≡ found → has_type c_type found ≡ true → function < length tac.functions
    by None e has = absurd (false≢true has)
    by (Some own) e has = slice_get_within tac.functions function own e

pub class_within : (tac : memory_tac.Tac) (callee : Callee) (first : ℕ) → IsClassOf (tac_of tac) callee (Some first) → first < length tac.functions.items
class_within tac (Known function) first is = absurd (none-some first (sym is))
class_within tac (Through pointer c_type) first is =
    let same = length-map tac.functions.items (function_in tac.types) in
    let less = target_within (tac_of tac) pointer c_type first is.0 in
    omega (arith, same, less)

-- ---- what is put down

abbrev Put : Type 0
Put = Option memory_callee.Callee

call_or : (callees : List Put) (k : ℕ) → call_at callees k ≡ get_or callees k None
call_or [] k = refl
call_or (callee ∷ callees) zero = refl
call_or (callee ∷ callees) (suc k) = call_or callees k

call_put : (callees : List Put) (first : ℕ) → first < length callees → (callee : Put) → call_at (set callees first callee) first ≡ callee
call_put callees first within callee = call_or (set callees first callee) first ∙ get_or-set_same callees first callee None within

call_other : (callees : List Put) (first other : ℕ) (callee : Put) → (other ≡ first → ⊥) → call_at (set callees first callee) other ≡ call_at callees other
call_other callees first other callee differs = call_or (set callees first callee) other ∙ (get_or-set_other callees first other callee None differs ∙ sym (call_or callees other))

pub none_at_start : (callees : List Put) → callees ≡ [] → AreNone 0 callees
none_at_start callees is = record { each = ap length is; none = λ first. ap (λ l. call_at l first) is }

pub none_more : (count : ℕ) (callees next : List Put) → AreNone count callees → next ≡ callees ++ None ∷ [] → AreNone (count + 1) next
none_more count callees next known adds = record {
  each = ap length adds ∙ (length-append callees (None ∷ []) ∙ ap (λ n. n + 1) known.each);
  none = λ first. ap (λ l. call_at l first) adds ∙ behind callees first known.none;
}
  where
    behind : (list : List Put) (first : ℕ) → ((k : ℕ) → call_at list k ≡ None) → call_at (list ++ None ∷ []) first ≡ None
    behind [] zero none = refl
    behind [] (suc first) none = refl
    behind (callee ∷ list) zero none = none 0
    behind (callee ∷ list) (suc first) none = behind list first (λ k. none (suc k))

-- ---- one more point

its_callee : (a b : ℕ) (c d : Callee) (p q : List Register) → O.Call a c p ≡ O.Call b d q → c ≡ d
its_callee a b c d p q e = cc

one_point : (done : List Op) (op : Op) (callee : Callee) → HasCall (done ++ op ∷ []) callee → HasCall done callee ⊎ ((site : ℕ) × (arguments : List Register) × (op ≡ O.Call site callee arguments))
one_point done op callee call = elim (in_either done (op ∷ []) (O.Call call.site callee call.arguments) call.has) [
  | inl before ↦ inl (record { site = call.site; arguments = call.arguments; has = before })
  | inr last ↦ (elim last [ inl same ↦ inr (call.site, call.arguments, sym same) | inr none ↦ absurd none ])
]

earlier : (done : List Op) (op : Op) (callee : Callee) → HasCall done callee → HasCall (done ++ op ∷ []) callee
earlier done op callee call = record { site = call.site; arguments = call.arguments; has = in_front done (op ∷ []) (O.Call call.site callee call.arguments) call.has }

one_class : (tac : Tac) (callee : Callee) (a b : ℕ) → IsClassOf tac callee (Some a) → IsClassOf tac callee (Some b) → a ≡ b
one_class tac (Known function) a b one other = absurd (none-some a (sym one))
one_class tac (Through pointer c_type) a b one other = one_first_target tac (Through pointer c_type) a b one other

no_class : (tac : Tac) (callee : Callee) (first : ℕ) → IsClassOf tac callee None → IsClassOf tac callee (Some first) → ⊥
no_class tac (Known function) first none some = none-some first (sym some)
no_class tac (Through pointer c_type) first none some = none first some.0

module _ (tac : memory_tac.Tac) where
  pub none_added : (callees : List Put) → AddsCalled tac [] callees callees
  none_added callees = record { each = refl; kept = λ first callee is. (callee, is); to = λ first callee call class. absurd call.has; from = λ first callee is. inl is }

  module _ (done more : List Op) (op : Op) (old mid new : List Put) (known : AddsCalled tac done old mid) (e : more ≡ done ++ op ∷ []) where
    later : (first : ℕ) (callee : memory_callee.Callee) → CallsFirst tac done first callee → CallsFirst tac more first callee
    later first callee calls = record { call = subst (λ l. HasCall l (callee_in tac.types callee)) (sym e) (earlier done op (callee_in tac.types callee) calls.call); class = calls.class }

    which : (callee : Callee) → HasCall more callee → HasCall done callee ⊎ ((site : ℕ) × (arguments : List Register) × (op ≡ O.Call site callee arguments))
    which callee call = one_point done op callee (subst (λ l. HasCall l callee) e call)

    pub not_added : ((callee : Callee) (site : ℕ) (arguments : List Register) → op ≡ O.Call site callee arguments → IsClassOf (tac_of tac) callee None) → new ≡ mid → AddsCalled tac more old new
    not_added none same = subst (AddsCalled tac more old) (sym same) (record {
      each = known.each;
      kept = known.kept;
      to = λ first callee call class. elim (which callee call) [
        | inl before ↦ known.to first callee before class
        | inr here ↦ absurd (no_class (tac_of tac) callee first (none callee here.0 here.1 here.2) class)
      ];
      from = λ first callee is. elim (known.from first callee is) [ inl was ↦ inl was | inr own ↦ inr (later first callee own) ];
    })

    pub nowhere_added : (callee : Callee) (site : ℕ) (arguments : List Register) → op ≡ O.Call site callee arguments → IsClassOf (tac_of tac) callee None → new ≡ mid → AddsCalled tac more old new
    nowhere_added callee site arguments is none same =
        not_added (λ other site' arguments' is'. subst (λ (c : Callee). IsClassOf (tac_of tac) c None) (its_callee site site' callee other arguments arguments' (sym is ∙ is')) none) same

    pub one_added : (callee : memory_callee.Callee) (put site : ℕ) (arguments : List Register) → op ≡ O.Call site (callee_in tac.types callee) arguments → IsClassOf (tac_of tac) (callee_in tac.types callee) (Some put)
        → put < length mid → new ≡ set mid put (Some callee) → AddsCalled tac more old new
    one_added callee put site arguments is class within adds = record {
      each = ap length adds ∙ (length-set mid put (Some callee) ∙ known.each);
      kept = λ first other has. let was = known.kept first other has in stays first was.0 was.1 (cases_eq first put);
      to = λ first other call its. elim (which other call) [
        | inl before ↦ (let was = known.to first other before its in stays first was.0 was.1 (cases_eq first put))
        | inr here ↦ (let same : other ≡ callee_in tac.types callee = its_callee here.0 site other (callee_in tac.types callee) here.1 arguments (sym here.2 ∙ is) in
            let equal : first ≡ put = one_class (tac_of tac) (callee_in tac.types callee) first put (subst (λ (c : Callee). IsClassOf (tac_of tac) c (Some first)) same its) class in
            (callee, ap (call_at new) equal ∙ now))
      ];
      from = λ first other has. came first other has (cases_eq first put);
    }
      where
        now : call_at new put ≡ Some callee
        now = ap (λ l. call_at l put) adds ∙ call_put mid put within (Some callee)

        elsewhere : (first : ℕ) → (first ≡ put → ⊥) → call_at new first ≡ call_at mid first
        elsewhere first differs = ap (λ l. call_at l first) adds ∙ call_other mid put first (Some callee) differs

        stays : (first : ℕ) (other : memory_callee.Callee) → call_at mid first ≡ Some other → (first ≡ put) ⊎ (first ≡ put → ⊥) → (another : memory_callee.Callee) × (call_at new first ≡ Some another)
        stays first other has (inl same) = (callee, ap (call_at new) same ∙ now)
        stays first other has (inr differs) = (other, elsewhere first differs ∙ has)

        came : (first : ℕ) (other : memory_callee.Callee) → call_at new first ≡ Some other → (first ≡ put) ⊎ (first ≡ put → ⊥) → (call_at old first ≡ Some other) ⊎ CallsFirst tac more first other
        came first other has (inr differs) = elim (known.from first other (sym (elsewhere first differs) ∙ has)) [ inl was ↦ inl was | inr own ↦ inr (later first other own) ]
        came first other has (inl same) =
            let equal : callee ≡ other = same_Some callee other (sym (ap (call_at new) same ∙ now) ∙ has) in
            inr (subst (λ (c : memory_callee.Callee). CallsFirst tac more first c) equal (record {
              call = subst (λ l. HasCall l (callee_in tac.types callee)) (sym e) (record { site = site; arguments = arguments; has = in_back done (op ∷ []) (O.Call site (callee_in tac.types callee) arguments) (inl (sym is)) });
              class = subst (λ k. IsClassOf (tac_of tac) (callee_in tac.types callee) (Some k)) (sym same) class;
            }))

  -- ---- one more function

  called_at : (callee : Callee) (caller : Owner) (function : Function) → function_of (tac_of tac) caller ≡ Some function → HasCall function.points callee → IsCalled (tac_of tac) callee
  called_at callee caller function is call =
      let found = at_has function.points (O.Call call.site callee call.arguments) call.has in
      record { caller = caller; function = function; is = is; at = found.0; site = call.site; arguments = call.arguments; point = found.1 }

  own_call : (caller : Owner) (function : Function) (callee : Callee) → function_of (tac_of tac) caller ≡ Some function → (called : IsCalled (tac_of tac) callee) → called.caller ≡ caller → HasCall function.points callee
  own_call caller function callee is called same = record {
    site = called.site;
    arguments = called.arguments;
    has = has_at function.points called.at (O.Call called.site callee called.arguments)
        (subst (λ (f : Function). slice_get f.points called.at ≡ Some (O.Call called.site callee called.arguments)) (same_Some called.function function (sym called.is ∙ (ap (function_of (tac_of tac)) same ∙ is))) called.point);
  }

  pub no_functions : (callees : List Put) → length callees ≡ length tac.functions.items → ((first : ℕ) → call_at callees first ≡ None) → AreFirstCalled tac 0 callees
  no_functions callees long none = record {
    each = long;
    to = λ first callee called count lt class. absurd (omega (arith, lt));
    from = λ first callee is. absurd (none-some callee (sym (none first) ∙ is));
  }

  -- what the calls of a function were added to
  pub function_added : (caller : Owner) (function : Function) (old new : List Put) (count : ℕ) → AreFirstCalled tac count old → function_of (tac_of tac) caller ≡ Some function → AddsCalled tac function.points old new
      → (next : ℕ) → ((called : ℕ) → called < next → (called < count) ⊎ (InFunction called ≡ caller)) → AreFirstCalled tac next new
  function_added caller function old new count known is adds next which = record {
    each = adds.each ∙ known.each;
    to = λ first callee called number lt own class. elim (which number lt) [
      | inl before ↦ (let was = known.to first callee called number before own class in adds.kept first was.0 was.1)
      | inr same ↦ adds.to first callee (own_call caller function callee is called (own ∙ same)) class
    ];
    from = λ first callee has. elim (adds.from first callee has) [
      | inl was ↦ known.from first callee was
      | inr own ↦ record { called = called_at (callee_in tac.types callee) caller function is own.call; class = own.class }
    ];
  }

  -- those of `start` are added to those of all functions
  pub all_added : (old : List Put) (called : CalledClasses) → AreFirstCalled tac (length tac.functions.items) old → AddsCalled tac (tac_of tac).start.points old called.callees.items → AreCalled tac called
  all_added old made known adds = record {
    to = λ first callee called class. by first callee called class called.caller refl;
    from = λ first callee has. elim (adds.from first callee has) [
      | inl was ↦ known.from first callee was
      | inr own ↦ record { called = called_at (callee_in tac.types callee) InStart (tac_of tac).start refl own.call; class = own.class }
    ];
  }
    where
      by : (first : ℕ) (callee : Callee) (called : IsCalled (tac_of tac) callee) → IsClassOf (tac_of tac) callee (Some first) → (caller : Owner) → called.caller ≡ caller
          → (other : memory_callee.Callee) × (call_at made.callees.items first ≡ Some other)
      by first callee called class InStart same = adds.to first callee (own_call InStart (tac_of tac).start callee refl called same) class
      by first callee called class (InFunction number) same =
          let within = slice_get_within (tac_of tac).functions number called.function (ap (function_of (tac_of tac)) (sym same) ∙ called.is) in
          let long = length-map tac.functions.items (function_in tac.types) in
          let was = known.to first callee called number (omega (arith, within, long)) same class in
          adds.kept first was.0 was.1
