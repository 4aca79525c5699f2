-- `++` and `--`, from what is read, what the operator gives and what is written.
use Rattle.std.proofs.Common.{◌≡◌, ℕ, Result, Ok, Err, ℤ, pos, sym, ap, subst, ◌∙◌}
use Rattle.run_theory.specs.declared.place.Pos.{Pos}
use Rattle.c_num.specs.declared.IntType.{IntType}
use Rattle.c_num.specs.declared.IntType.TheVariants as I
use Rattle.c_num.specs.declared.BinOp.{BinOp}
use Rattle.c_num.specs.Types.{common_of}
use Rattle.c_typed.specs.declared.typed.Stepping.{Stepping}
use Rattle.c_typed.specs.Table.{Interned}
use Rattle.ref_semantics.specs.Values.{Scalar, Place, IntegerValue}
use Rattle.ref_semantics.specs.Store.{TypeEnvironment, State, Eval, ◌>>=◌, give}
use Rattle.ref_semantics.specs.Pointers.{read, write, added}
use Rattle.ref_semantics.specs.Meaning.{arithmetic, converted, step_operator, step_amount, step_result}
use Rattle.ref_semantics.specs.Parts as parts
use Rattle.ref_meaning.specs.declared.store.Store.{Store}
use Rattle.ref_meaning.specs.declared.value.Stop.{Stop}
use Rattle.ref_meaning.specs.declared.value.Place as memory_place
use Rattle.ref_meaning.specs.declared.value.Scalar as memory_scalar
use Rattle.ref_meaning.specs.RefStore.Views.{place_in, scalar_in}
use Rattle.ref_meaning.specs.RefStore.Holding.{At, CallGives, Comes}
use Rattle.ref_meaning.proofs.Nexts.{gives-behind, gives-first, comes-then}

module _ (around : TypeEnvironment) (base : ℕ) (store new : Store) (stepping : Stepping) (here : Pos) (place : memory_place.Place) where
  abbrev pub table : Interned
  table = store.types.now

  abbrev pub at_place : Place
  at_place = place_in table place

  -- what is written, and what it comes to
  abbrev pub writes : memory_scalar.Scalar → Scalar → Eval Scalar
  writes old value = write around here at_place value >>= λ x. give (step_result stepping (scalar_in table old) x)

  pub writes-comes : (old value result : memory_scalar.Scalar) → scalar_in table result ≡ step_result stepping (scalar_in table old) (scalar_in table value)
      → ((state : State) → At around store base state → Comes around new base (write around here at_place (scalar_in table value)) state (scalar_in table value))
      → CallGives around store new base (scalar_in table) (writes old (scalar_in table value)) (Ok result)
  writes-comes old value result is one =
      comes-then around base store new (write around here at_place (scalar_in table value)) (step_result stepping (scalar_in table old)) (scalar_in table value) (scalar_in table result) (sym is) one

  pub writes-stops : {B : Type 0} (view : B → Scalar) (old value : memory_scalar.Scalar) (stop : Stop) → CallGives around store new base view (write around here at_place (scalar_in table value)) (Err stop)
      → CallGives around store new base (scalar_in table) (writes old (scalar_in table value)) (Err stop)
  writes-stops view old value stop h =
      gives-first around base store new view (scalar_in table) (write around here at_place (scalar_in table value)) (λ x. give (step_result stepping (scalar_in table old) x)) stop h

  -- ---- on an integer

  module _ (int_type : IntType) where
    abbrev pub adds : Scalar → Eval Scalar
    adds old = arithmetic (step_operator stepping) (common_of int_type I.Int) here (converted (common_of int_type I.Int) old) (IntegerValue (pos 1))

    abbrev pub behind_read : Scalar → Eval Scalar
    behind_read old = adds old >>= λ c. write around here at_place (converted int_type c) >>= λ x. give (step_result stepping old x)

    module _ (op : BinOp) (working : IntType) (old left : memory_scalar.Scalar) (is_op : op ≡ step_operator stepping) (is_working : working ≡ common_of int_type I.Int)
        (is_left : scalar_in table left ≡ converted working (scalar_in table old)) where
      adds-is : arithmetic op working here (scalar_in table left) (IntegerValue (pos 1)) ≡ adds (scalar_in table old)
      adds-is =
          let same = is_left ∙ ap (λ t. converted t (scalar_in table old)) is_working in
          λ i. arithmetic (is_op i) (is_working i) here (same i) (IntegerValue (pos 1))

      -- all of it, from what is written on
      pub integer-gives : (sum value : memory_scalar.Scalar) (r : Result memory_scalar.Scalar Stop) → scalar_in table value ≡ converted int_type (scalar_in table sum)
          → ((state : State) → At around store base state → Comes around store base (read around here at_place) state (scalar_in table old))
          → ((state : State) → At around store base state → Comes around store base (arithmetic op working here (scalar_in table left) (IntegerValue (pos 1))) state (scalar_in table sum))
          → CallGives around store new base (scalar_in table) (writes old (scalar_in table value)) r
          → CallGives around store new base (scalar_in table) (parts.step_integer around stepping here int_type at_place) r
      integer-gives sum value r is reads sums rest =
          gives-behind around base store new (scalar_in table) (read around here at_place) behind_read (scalar_in table old) r reads
          (gives-behind around base store new (scalar_in table) (adds (scalar_in table old)) (λ c. writes old (converted int_type c)) (scalar_in table sum) r
          (λ state at. subst (λ eval. Comes around store base eval state (scalar_in table sum)) adds-is (sums state at))
          (subst (λ x. CallGives around store new base (scalar_in table) (writes old x) r) is rest))

      -- the operator stops
      pub integer-stops : (stop : Stop)
          → ((state : State) → At around store base state → Comes around store base (read around here at_place) state (scalar_in table old))
          → CallGives around store new base (scalar_in table) (arithmetic op working here (scalar_in table left) (IntegerValue (pos 1))) (Err stop)
          → CallGives around store new base (scalar_in table) (parts.step_integer around stepping here int_type at_place) (Err stop)
      integer-stops stop reads h =
          gives-behind around base store new (scalar_in table) (read around here at_place) behind_read (scalar_in table old) (Err stop) reads
          (gives-first around base store new (scalar_in table) (scalar_in table) (adds (scalar_in table old)) (λ c. writes old (converted int_type c)) stop
          (subst (λ (eval : Eval Scalar). CallGives around store new base (scalar_in table) eval (Err stop)) adds-is h))

    pub integer-unread : (stop : Stop) → CallGives around store new base (scalar_in table) (read around here at_place) (Err stop)
        → CallGives around store new base (scalar_in table) (parts.step_integer around stepping here int_type at_place) (Err stop)
    integer-unread stop h = gives-first around base store new (scalar_in table) (scalar_in table) (read around here at_place) behind_read stop h

  -- ---- on a pointer

  abbrev pub moves : Scalar → Eval Scalar
  moves old = added here old (step_amount stepping)

  abbrev pub behind_pointer : Scalar → Eval Scalar
  behind_pointer old = moves old >>= λ c. write around here at_place c >>= λ x. give (step_result stepping old x)

  module _ (old : memory_scalar.Scalar) (amount : ℤ) (is : amount ≡ step_amount stepping) where
    pub pointer-gives : (value : memory_scalar.Scalar) (r : Result memory_scalar.Scalar Stop)
        → ((state : State) → At around store base state → Comes around store base (read around here at_place) state (scalar_in table old))
        → ((state : State) → At around store base state → Comes around store base (added here (scalar_in table old) amount) state (scalar_in table value))
        → CallGives around store new base (scalar_in table) (writes old (scalar_in table value)) r
        → CallGives around store new base (scalar_in table) (parts.step_pointer around stepping here at_place) r
    pointer-gives value r reads adds' rest =
        gives-behind around base store new (scalar_in table) (read around here at_place) behind_pointer (scalar_in table old) r reads
        (gives-behind around base store new (scalar_in table) (moves (scalar_in table old)) (λ c. writes old c) (scalar_in table value) r
        (λ state at. subst (λ z. Comes around store base (added here (scalar_in table old) z) state (scalar_in table value)) is (adds' state at)) rest)

    pub pointer-stops : (stop : Stop)
        → ((state : State) → At around store base state → Comes around store base (read around here at_place) state (scalar_in table old))
        → CallGives around store new base (scalar_in table) (added here (scalar_in table old) amount) (Err stop)
        → CallGives around store new base (scalar_in table) (parts.step_pointer around stepping here at_place) (Err stop)
    pointer-stops stop reads h =
        gives-behind around base store new (scalar_in table) (read around here at_place) behind_pointer (scalar_in table old) (Err stop) reads
        (gives-first around base store new (scalar_in table) (scalar_in table) (moves (scalar_in table old)) (λ c. writes old c) stop
        (subst (λ (z : ℤ). CallGives around store new base (scalar_in table) (added here (scalar_in table old) z) (Err stop)) is h))

  pub pointer-unread : (stop : Stop) → CallGives around store new base (scalar_in table) (read around here at_place) (Err stop)
      → CallGives around store new base (scalar_in table) (parts.step_pointer around stepping here at_place) (Err stop)
  pointer-unread stop h = gives-first around base store new (scalar_in table) (scalar_in table) (read around here at_place) behind_pointer stop h
