-- Code leads from a spot to a spot, and where the function has what is there behind it, each of its points stands.
use Rattle.std.proofs.Common.{◌≡◌, ℕ, ◌≤◌, ◌<◌, ◌⊎◌, inl, inr, List, [], ◌∷◌, Some, sym, ap, subst, ◌∙◌, arith}
use Rattle.std.specs.Prelude.{slice_get}
use Rattle.std.proofs.lemmas.Bool.{cases_lt, lt-ltb}
use Rattle.std.proofs.lemmas.Option.{same_Some}
use Rattle.c_num.specs.declared.IntType.{IntType}
use Rattle.c_typed.specs.Types.{CType}
use Rattle.tac_ir.specs.declared.program.Counts.{Counts}
use Rattle.tac_ir.specs.declared.register.Local.{Local}
use Rattle.tac_ir.specs.declared.register.Local.TheVariants as L
use Rattle.tac_ir.specs.declared.register.Register.{Register}
use Rattle.tac_ir.specs.declared.register.Register.TheVariants as R
use Rattle.c_typed.specs.Layouts.{StructDef}
use Rattle.tac_ir.specs.Code.{Tree, LocalObject, Function, Op, Path, Tac}
use Rattle.tac_ir.specs.Objects.{own_type, whole}
use Rattle.tac_ir.specs.States.{Owner}
use Rattle.tac_build.specs.Spots.{Spot, behind, with_call, with_argument, with_expression, with_temporary, argument, expression, temporary, Lowered, AsInteger, AsPointer, AsObject, AsNothing}
use Rattle.tac_build.specs.Code.{HasOp, Emits, GivesInteger, GivesPointer}
use Rattle.graph_unification.specs.Standing.{HasSlot, IsOwn, OpStands}
use Rattle.dsa_bottom_up.proofs.Paths.{PathFound}

-- ---- objects

-- each is one of a function's objects, by its local
abbrev pub HaveObjects : List LocalObject → List LocalObject → Type 0
HaveObjects own [] = Unit {0}
HaveObjects own (first ∷ others) = (own_type own first.local ≡ whole first.c_type) × HaveObjects own others

-- a parameter, or a variable with a number below one
abbrev pub IsVariableBelow : ℕ → Local → Type 0
IsVariableBelow count (L.Parameter number) = Unit {0}
IsVariableBelow count (L.Variable number) = number < count

abbrev pub AreBelow : ℕ → List LocalObject → Type 0
AreBelow count [] = Unit {0}
AreBelow count (first ∷ others) = IsVariableBelow count first.local × AreBelow count others

abbrev pub HaveSlots : List StructDef → List LocalObject → Type 0
HaveSlots structs [] = Unit {0}
HaveSlots structs (first ∷ others) = HasSlot structs first.c_type × HaveSlots structs others

-- objects of different locals, each with a slot
pub record AreSound (structs : List StructDef) (count : ℕ) (objects : List LocalObject) : Type 0 where
  pub have : HaveObjects objects objects
  pub below : AreBelow count objects
  pub slots : HaveSlots structs objects

module _ (tac : Tac) (owner : Owner) (function : Function) where
  -- the function has the registers and the objects
  pub record FitsIn (counts : Counts) (objects : List LocalObject) : Type 0 where
    pub variables : counts.variables ≤ function.counts.variables
    pub calls : counts.calls ≤ function.counts.calls
    pub arguments : counts.arguments ≤ function.counts.arguments
    pub expressions : counts.expressions ≤ function.counts.expressions
    pub own : HaveObjects function.objects objects

  abbrev pub Fits : Spot → Type 0
  Fits spot = FitsIn spot.counts spot.objects

  abbrev pub Sound : Spot → Type 0
  Sound spot = AreSound tac.structs spot.counts.variables spot.objects

  abbrev pub StandBetween : ℕ → ℕ → Type 0
  StandBetween from to = (number : ℕ) (op : Op) → from ≤ number → number < to → slice_get function.points number ≡ Some op → OpStands tac owner function op

  -- what is known of what an expression comes to
  abbrev pub Found : Lowered → Type 0
  Found (AsInteger int_type tree) = Unit {0}
  Found (AsPointer register target) = IsOwn tac owner function register
  Found (AsObject path c_type) = PathFound tac owner function path c_type
  Found AsNothing = Unit {0}

-- where something is known of the locals in scope
module _ (tac : Tac) (owner : Owner) (function : Function) (Known : Type 0) where
  -- from a spot to a spot, behind which there is no less
  pub record Spans (from to : Spot) : Type 0 where
    pub order : from.at ≤ to.at
    pub fits : Fits tac owner function to → Fits tac owner function from
    pub sound : Sound tac owner function from → Sound tac owner function to
    pub stand : Fits tac owner function to → Known → StandBetween tac owner function from.at to.at

  pub record Comes (from to : Spot) (lowered : Lowered) : Type 0 where
    pub spans : Spans from to
    pub found : Fits tac owner function to → Known → Found tac owner function lowered

  -- ---- code behind code

  pub leads_then : {from mid to : Spot} → Spans from mid → Spans mid to → Spans from to
  leads_then {from} {mid} {to} one other = record {
    order = let first = one.order in let second = other.order in omega (arith, first, second);
    fits = λ end. one.fits (other.fits end);
    sound = λ begin. other.sound (one.sound begin);
    stand = λ end known number op low high there. by end known number op low high there (cases_lt number mid.at);
  }
    where
      by : Fits tac owner function to → Known → (number : ℕ) (op : Op) → from.at ≤ number → number < to.at → slice_get function.points number ≡ Some op → (number < mid.at) ⊎ (mid.at ≤ number)
          → OpStands tac owner function op
      by end known number op low high there (inl less) = one.stand (other.fits end) known number op low less there
      by end known number op low high there (inr more) = other.stand end known number op more high there

  pub then_comes : {from mid to : Spot} {lowered : Lowered} → Spans from mid → Comes mid to lowered → Comes from to lowered
  then_comes one other = record { spans = leads_then one other.spans; found = other.found }

  -- ---- no points

  pub nothing : (spot : Spot) → Spans spot spot
  nothing spot = record { order = omega arith; fits = λ end. end; sound = λ begin. begin; stand = λ end known number op low high there. absurd (omega (arith, low, high)) }

  pub moves : {from to : Spot} (mid : Spot) → to ≡ mid → Spans from mid → Spans from to
  moves {from} mid same made = subst (Spans from) (sym same) made

  pub stays : (from to : Spot) → to ≡ from → Spans from to
  stays from to same = moves from same (nothing from)

  -- ---- names

  pub call_spans : (spot : Spot) → Spans spot (with_call spot)
  call_spans spot = record {
    order = omega arith;
    fits = λ end. let most = end.calls in record { variables = end.variables; calls = omega (arith, most); arguments = end.arguments; expressions = end.expressions; own = end.own };
    sound = λ begin. begin;
    stand = λ end known number op low high there. absurd (omega (arith, low, high));
  }

  pub argument_spans : (spot : Spot) → Spans spot (with_argument spot)
  argument_spans spot = record {
    order = omega arith;
    fits = λ end. let most = end.arguments in record { variables = end.variables; calls = end.calls; arguments = omega (arith, most); expressions = end.expressions; own = end.own };
    sound = λ begin. begin;
    stand = λ end known number op low high there. absurd (omega (arith, low, high));
  }

  expression_spans : (spot : Spot) → Spans spot (with_expression spot)
  expression_spans spot = record {
    order = omega arith;
    fits = λ end. let most = end.expressions in record { variables = end.variables; calls = end.calls; arguments = end.arguments; expressions = omega (arith, most); own = end.own };
    sound = λ begin. begin;
    stand = λ end known number op low high there. absurd (omega (arith, low, high));
  }

  pub temporary_spans : (spot : Spot) → Spans spot (with_temporary spot)
  temporary_spans spot = record {
    order = omega arith;
    fits = λ end. record { variables = end.variables; calls = end.calls; arguments = end.arguments; expressions = end.expressions; own = end.own };
    sound = λ begin. begin;
    stand = λ end known number op low high there. absurd (omega (arith, low, high));
  }

  -- they are the function's
  pub own_call : (spot : Spot) → Fits tac owner function (with_call spot) → IsOwn tac owner function (R.Call spot.counts.calls)
  own_call spot end = let most = end.calls in lt-ltb spot.counts.calls function.counts.calls (omega (arith, most))

  pub own_argument : (spot : Spot) → Fits tac owner function (with_argument spot) → IsOwn tac owner function (argument spot)
  own_argument spot end = let most = end.arguments in lt-ltb spot.counts.arguments function.counts.arguments (omega (arith, most))

  own_expression : (spot : Spot) → Fits tac owner function (with_expression spot) → IsOwn tac owner function (expression spot)
  own_expression spot end = let most = end.expressions in lt-ltb spot.counts.expressions function.counts.expressions (omega (arith, most))

  -- ---- points

  pub point : (from : Spot) (op : Op) → HasOp function.points from.at op → (Fits tac owner function from → Known → OpStands tac owner function op) → Spans from (behind from)
  point from op stands ok = record {
    order = omega arith;
    fits = λ end. end;
    sound = λ begin. begin;
    stand = λ end known number other low high there.
        let same : from.at ≡ number = omega (arith, low, high) in
        subst (OpStands tac owner function) (same_Some op other (sym stands ∙ ap (slice_get function.points) same ∙ there)) (ok end known);
  }

  pub emits : (from to : Spot) (op : Op) → Emits function.points op from to → (Fits tac owner function from → Known → OpStands tac owner function op) → Spans from to
  emits from to op code ok = moves (behind from) code.1 (point from op code.0 ok)

  pub gives_integer : (from to : Spot) (lowered : Lowered) (op : Register → Op) (int_type : IntType) → GivesInteger function.points op int_type from to lowered
      → (Fits tac owner function from → Known → OpStands tac owner function (op (temporary from))) → Comes from to lowered
  gives_integer from to lowered op int_type code ok = record {
    spans = leads_then (temporary_spans from)
        (moves (behind (with_temporary from)) code.1 (point (with_temporary from) (op (temporary from)) code.0 (λ end known. ok ((temporary_spans from).fits end) known)));
    found = λ end known. subst (Found tac owner function) (sym code.2) tt;
  }

  pub gives_pointer : (from to : Spot) (lowered : Lowered) (op : Register → Op) (target : CType) → GivesPointer function.points op target from to lowered
      → (Fits tac owner function from → Known → IsOwn tac owner function (expression from) → OpStands tac owner function (op (expression from))) → Comes from to lowered
  gives_pointer from to lowered op target code ok = record {
    spans = leads_then (expression_spans from)
        (moves (behind (with_expression from)) code.1 (point (with_expression from) (op (expression from)) code.0 (λ end known. ok ((expression_spans from).fits end) known (own_expression from end))));
    found = λ end known. subst (Found tac owner function) (sym code.2) (own_expression from (subst (Fits tac owner function) code.1 end));
  }

  -- ---- what code comes to

  pub with_integer : {from to : Spot} {lowered : Lowered} {own : IntType} {tree : Tree} → Spans from to → lowered ≡ AsInteger own tree → Comes from to lowered
  with_integer spans is = record { spans = spans; found = λ end known. subst (Found tac owner function) (sym is) tt }

  pub with_nothing : {from to : Spot} {lowered : Lowered} → Spans from to → lowered ≡ AsNothing → Comes from to lowered
  with_nothing spans is = record { spans = spans; found = λ end known. subst (Found tac owner function) (sym is) tt }

  pub with_object : {from to : Spot} {lowered : Lowered} (path : Path) (c_type : CType) → Spans from to → lowered ≡ AsObject path c_type
      → (Fits tac owner function to → Known → PathFound tac owner function path c_type) → Comes from to lowered
  with_object path c_type spans is found = record { spans = spans; found = λ end known. subst (Found tac owner function) (sym is) (found end known) }

  -- what something comes to is what another comes to
  pub with_found : {from to : Spot} {lowered other : Lowered} → Spans from to → lowered ≡ other → (Fits tac owner function to → Known → Found tac owner function other) → Comes from to lowered
  with_found spans is found = record { spans = spans; found = λ end known. subst (Found tac owner function) (sym is) (found end known) }

-- what is known where the code stands
pub told : {tac : Tac} {owner : Owner} {function : Function} {Known : Type 0} {from to : Spot} → Spans tac owner function Known from to → (Fits tac owner function from → Known) → Spans tac owner function (Unit {0}) from to
told made known = record { order = made.order; fits = made.fits; sound = made.sound; stand = λ end none. made.stand end (known (made.fits end)) }
