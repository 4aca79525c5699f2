-- What calls within a group ask stays done while a graph goes on.
use Rattle.std.proofs.Common.{◌≡◌, ℕ, Bool, true, List, ◌∙◌}
use Rattle.c_typed.specs.Types.{CType}
use Rattle.c_typed.specs.Layouts.{StructDef}
use Rattle.tac_ir.specs.declared.register.Register.{Register}
use Rattle.tac_ir.specs.declared.register.Register.TheVariants as R
use Rattle.tac_ir.specs.Code.{Op, Tac}
use Rattle.tac_ir.specs.States.{Owner, InFunction}
use Rattle.heap_graph.specs.Structures.{AreMade}
use Rattle.heap_graph.specs.Graphs.{Name, OfRegister, OfResult, Graph}
use Rattle.heap_graph.specs.Targets.{has_target}
use Rattle.heap_graph.specs.Closed.{function_type, formal}
use Rattle.dsa_local.specs.Joined.{ArePassed, IsTaken, IsJoined, OpJoined, CallsJoined, AreJoined, ClassJoined, ClassesJoined, AllHaveOwn, PassedNamed, CallNamed, BothNamed, FormalsCertain}
use Rattle.dsa_local.proofs.Joining.{Keeps, one_kept, certainty_kept, passed_kept}

module _ (structs : List StructDef) (made : AreMade structs) where
  pub are_passed_kept : (owner : Owner) (called : ℕ) (types : List CType) (arguments : List Register) → Keeps structs (ArePassed owner called types arguments)
  are_passed_kept owner called types arguments old new sound goes are = λ number c_type argument at its is.
      passed_kept structs made (OfRegister owner argument) (formal called number) old new sound goes (are number c_type argument at its is)

  pub is_taken_kept : (owner : Owner) (site called : ℕ) (c_type : CType) → Keeps structs (IsTaken owner site called c_type)
  is_taken_kept owner site called c_type old new sound goes taken = λ is.
      one_kept structs made (OfRegister owner (R.Call site)) (OfResult (InFunction called)) old new sound goes (taken is)

  module _ (tac : Tac) where
    pub is_joined_kept : (owner : Owner) (site : ℕ) (arguments : List Register) (called : ℕ) → Keeps structs (IsJoined tac owner site arguments called)
    is_joined_kept owner site arguments called old new sound goes joined = record {
      passed = are_passed_kept owner called _ arguments old new sound goes joined.passed;
      taken = is_taken_kept owner site called (function_type tac called) old new sound goes joined.taken;
    }

    pub op_joined_kept : (inside : ℕ → Bool) (owner : Owner) (op : Op) → Keeps structs (OpJoined tac inside owner op)
    op_joined_kept inside owner op old new sound goes joined = λ site callee arguments called is target within.
        is_joined_kept owner site arguments called old new sound goes (joined site callee arguments called is target within)

    pub calls_joined_kept : (inside : ℕ → Bool) (caller : ℕ) → Keeps structs (CallsJoined tac inside caller)
    calls_joined_kept inside caller old new sound goes joined = λ function at op is point.
        op_joined_kept inside (InFunction caller) op old new sound goes (joined function at op is point)

    pub are_joined_kept : (a b : ℕ) → Keeps structs (AreJoined tac a b)
    are_joined_kept a b old new sound goes joined = record {
      formals = λ number less. one_kept structs made (formal a number) (formal b number) old new sound goes (joined.formals number less);
      result = one_kept structs made (OfResult (InFunction a)) (OfResult (InFunction b)) old new sound goes joined.result;
    }

    pub class_joined_kept : (inside : ℕ → Bool) (first : ℕ) → Keeps structs (ClassJoined tac inside first)
    class_joined_kept inside first old new sound goes joined = λ other shared starts. are_joined_kept first other old new sound goes (joined other shared starts)

    pub classes_joined_kept : (inside : ℕ → Bool) → Keeps structs (ClassesJoined tac inside)
    classes_joined_kept inside old new sound goes joined = λ a b shared. are_joined_kept a b old new sound goes (joined a b shared)

    pub formals_certain_kept : (function : ℕ) → Keeps structs (FormalsCertain tac function)
    formals_certain_kept function old new sound goes certain = λ number c_type at is. certainty_kept structs made (formal function number) old new sound goes (certain number c_type at is)

-- ---- the same names have targets

module _ (old new : Graph) (names : (name : Name) → has_target (new.targets name) ≡ has_target (old.targets name)) where
  stays : (name : Name) → has_target (old.targets name) ≡ true → has_target (new.targets name) ≡ true
  stays name has = names name ∙ has

  pub all_have_own : (tac : Tac) (inside : ℕ → Bool) → AllHaveOwn tac inside old → AllHaveOwn tac inside new
  all_have_own tac inside all = λ number function is within.
      let own = all number function is within in
      record { registers = λ register has. stays (OfRegister (InFunction number) register) (own.registers register has); result = stays (OfResult (InFunction number)) own.result }

  pub passed_named : (tac : Tac) (owner : Owner) (arguments : List Register) (called : ℕ) → PassedNamed tac owner arguments called old → PassedNamed tac owner arguments called new
  passed_named tac owner arguments called named = record {
    passed = λ number argument at. stays (OfRegister owner argument) (named.passed number argument at);
    formals = λ number less. stays (formal called number) (named.formals number less);
  }

  pub call_named : (tac : Tac) (owner : Owner) (site : ℕ) (arguments : List Register) (called : ℕ) → CallNamed tac owner site arguments called old → CallNamed tac owner site arguments called new
  call_named tac owner site arguments called named = record {
    passed = passed_named tac owner arguments called named.passed;
    call = stays (OfRegister owner (R.Call site)) named.call;
    result = stays (OfResult (InFunction called)) named.result;
  }

  pub both_named : (tac : Tac) (a b : ℕ) → BothNamed tac a b old → BothNamed tac a b new
  both_named tac a b named = record {
    formals = λ number less. let both = named.formals number less in (stays (formal a number) both.0, stays (formal b number) both.1);
    results = (stays (OfResult (InFunction a)) named.results.0, stays (OfResult (InFunction b)) named.results.1);
  }
