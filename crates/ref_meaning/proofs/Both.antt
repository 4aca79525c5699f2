-- What an expression comes to once both operands are known.
use Rattle.std.proofs.Common.{◌≡◌, ℕ, ℤ, neg_ℤ, Bool, false, if◌then◌else◌, ◌⊎◌, inl, inr, Result, Ok, Err, IsErrAnd, refl, sym, ap, subst}
use Rattle.run_theory.specs.declared.place.Pos.{Pos}
use Rattle.c_num.specs.declared.IntType.{IntType}
use Rattle.c_num.specs.declared.BinOp.{BinOp}
use Rattle.c_num.specs.declared.BinOp.TheVariants as B
use Rattle.c_num.specs.declared.ArithUb.{ArithUb}
use Rattle.c_num.specs.Types.{IsValue}
use Rattle.c_num.specs.Conversion.{convert_to}
use Rattle.c_num.specs.Arith.{outcome_of, is_shift, IsRightOperand}
use Rattle.c_num.proofs.Conversions.{convert_to-in_range}
use Rattle.c_typed.specs.Table.{Interned}
use Rattle.ref_semantics.specs.Values.{Scalar, IntegerValue, integer_of, place_of}
use Rattle.ref_semantics.specs.Store.{TypeEnvironment, State, Eval, ◌>>=◌, give}
use Rattle.ref_semantics.specs.Meaning.{arithmetic, converted, outcome_at, kind_of, right_of}
use Rattle.ref_semantics.specs.Pointers.{read, write, added}
use Rattle.ref_meaning.specs.declared.value.Place as memory_place
use Rattle.ref_meaning.specs.declared.value.Scalar as memory_scalar
use Rattle.ref_meaning.specs.declared.store.Store.{Store}
use Rattle.ref_meaning.specs.declared.value.Stop.{Stop}
use Rattle.ref_meaning.specs.declared.value.Stop.TheVariants as T
use Rattle.ref_meaning.specs.RefStore.Views.{place_in, scalar_in}
use Rattle.ref_meaning.specs.RefStore.Holding.{At, left, IsUndefined, Comes, CallGives}
use Rattle.ref_meaning.proofs.Giving.{undefined-first, undefined-behind, undefined-here, comes-bind, comes-same}

-- ---- one call behind another that changes nothing

-- where it stops, what it would give doesn't matter
pub gives-stopped : {A B C D : Type 0} (around : TypeEnvironment) (old new : Store) (base : ℕ) (view : C → A) (view' : D → B) (first : Eval A) (next : A → Eval B) (stop : Stop) → CallGives around old new base view first (Err stop)
    → CallGives around old new base view' (first >>= next) (Err stop)
gives-stopped around old new base view view' first next (T.Undefined kind place) gives = λ state at. undefined-first first next state kind place (gives state at)
gives-stopped around old new base view view' first next T.OutOfMemory gives = gives

pub gives-viewed : {A C D : Type 0} (around : TypeEnvironment) (old new : Store) (base : ℕ) (view : C → A) (view' : D → A) (eval : Eval A) (stop : Stop) → CallGives around old new base view eval (Err stop)
    → CallGives around old new base view' eval (Err stop)
gives-viewed around old new base view view' eval (T.Undefined kind place) gives = gives
gives-viewed around old new base view view' eval T.OutOfMemory gives = gives

pub gives-bind : {A B C D : Type 0} (around : TypeEnvironment) (old new : Store) (base : ℕ) (view : C → A) (view' : D → B) (first : Eval A) (next : A → Eval B) (value : C) (result : Result D Stop)
    → CallGives around old old base view first (Ok value) → CallGives around old new base view' (next (view value)) result → CallGives around old new base view' (first >>= next) result
gives-bind around old new base view view' first next value (Ok last) one two =
    λ state at. let there = one state at in comes-bind around old new base first next state (view value) (view' last) there (two there.after there.at)
gives-bind around old new base view view' first next value (Err (T.Undefined kind place)) one two =
    λ state at. let there = one state at in undefined-behind first next state there.after (view value) kind place there.does there.quiet (two there.after there.at)
gives-bind around old new base view view' first next value (Err T.OutOfMemory) one two = two

-- what `?` hands on
pub gives-handed : {A D : Type 0} (around : TypeEnvironment) (old new : Store) (base : ℕ) (view : D → A) (eval : Eval A) (stop : Stop) (result : Result D Stop) → IsErrAnd result (λ e. e ≡ stop)
    → CallGives around old new base view eval (Err stop) → CallGives around old new base view eval result
gives-handed around old new base view eval stop (Ok value) is gives = absurd is
gives-handed around old new base view eval stop (Err e) is gives = subst (λ x. CallGives around old new base view eval (Err x)) (sym is) gives

-- what changes nothing
pub gives-same : {A B : Type 0} (around : TypeEnvironment) (store : Store) (base : ℕ) (view : B → A) (value : B) (a : A) → view value ≡ a → CallGives around store store base view (give a) (Ok value)
gives-same around store base view value a is = subst (λ x. CallGives around store store base view (give x) (Ok value)) is (λ state at. comes-same around store base (give (view value)) state (view value) (λ units input. refl) at)

-- ---- operators

pub shifts-right : (op : BinOp) (t : IntType) (z : ℤ) → (op ≡ B.Shl) ⊎ (op ≡ B.Shr) → right_of op t z ≡ z
shifts-right op t z (inl is) = ap (λ o. right_of o t z) is
shifts-right op t z (inr is) = ap (λ o. right_of o t z) is

pub other-right : (op : BinOp) (t : IntType) (z : ℤ) → is_shift op ≡ false → right_of op t z ≡ convert_to t z
other-right op t z is = rw is refl

pub no_shift : (op : BinOp) → (op ≡ B.Shl → ⊥) → (op ≡ B.Shr → ⊥) → is_shift op ≡ false
no_shift B.Add left right = refl
no_shift B.Sub left right = refl
no_shift B.Mul left right = refl
no_shift B.Div left right = refl
no_shift B.Rem left right = refl
no_shift B.Shl left right = absurd (left refl)
no_shift B.Shr left right = absurd (right refl)
no_shift B.And left right = refl
no_shift B.Or left right = refl
no_shift B.Xor left right = refl

pub right-fits : (op : BinOp) (t : IntType) (z : ℤ) → IsRightOperand op t (right_of op t z)
right-fits op t z = λ no. subst (IsValue t) (sym (other-right op t z no)) (convert_to-in_range t z)

module _ (around : TypeEnvironment) (store : Store) (base : ℕ) (op : BinOp) (t : IntType) (here : Pos) (a b : Scalar) where
  abbrev pub outcome : Result ℤ ArithUb
  outcome = outcome_of op t (convert_to t (integer_of a)) (right_of op t (integer_of b))

  pub comes-arithmetic : (z : ℤ) → Ok z ≡ outcome → (state : State) → At around store base state → Comes around store base (arithmetic op t here a b) state (IntegerValue z)
  comes-arithmetic z is state at =
      comes-same around store base (arithmetic op t here a b) state (IntegerValue z) (λ units input. ap (λ o. outcome_at here o (left units input state)) (sym is)) at

  pub undefined-arithmetic : (kind : ArithUb) → Err kind ≡ outcome → (state : State) → IsUndefined (arithmetic op t here a b) state (kind_of kind) here
  undefined-arithmetic kind is state =
      undefined-here (arithmetic op t here a b) state (kind_of kind) here (λ units input. ap (λ o. outcome_at here o (left units input state)) (sym is))

-- ---- assignments

module _ (around : TypeEnvironment) (old new : Store) (base : ℕ) (table : Interned) (here : Pos) (a : Scalar) (object : memory_place.Place) (is : place_in table object ≡ place_of a) where
  -- the object is read first
  pub read-stopped : {B D : Type 0} (view : D → B) (next : Scalar → Eval B) (stop : Stop) → CallGives around old old base (scalar_in table) (read around here (place_in table object)) (Err stop)
      → CallGives around old old base view (read around here (place_of a) >>= next) (Err stop)
  read-stopped view next stop gives =
      gives-stopped around old old base (scalar_in table) view (read around here (place_of a)) next stop (subst (λ p. CallGives around old old base (scalar_in table) (read around here p) (Err stop)) is gives)

  pub read-then : {B D : Type 0} (view : D → B) (next : Scalar → Eval B) (before : memory_scalar.Scalar) (result : Result D Stop) → CallGives around old old base (scalar_in table) (read around here (place_in table object)) (Ok before)
      → CallGives around old new base view (next (scalar_in table before)) result → CallGives around old new base view (read around here (place_of a) >>= next) result
  read-then view next before result gives rest =
      gives-bind around old new base (scalar_in table) view (read around here (place_of a)) next before result
      (subst (λ p. CallGives around old old base (scalar_in table) (read around here p) (Ok before)) is gives) rest

  -- and written in the end
  pub written : {D : Type 0} (value : memory_scalar.Scalar) (done : D) (b : Scalar) → scalar_in table value ≡ b
      → CallGives around old new base (λ (x : D). scalar_in table value) (write around here (place_in table object) (scalar_in table value)) (Ok done)
      → CallGives around old new base (scalar_in table) (write around here (place_of a) b) (Ok value)
  written value done b e gives =
      subst (λ x. CallGives around old new base (scalar_in table) (write around here (place_of a) x) (Ok value)) e
      (subst (λ p. CallGives around old new base (scalar_in table) (write around here p (scalar_in table value)) (Ok value)) is gives)

  pub write-stopped : (D : Type 0) (value : memory_scalar.Scalar) (b : Scalar) (stop : Stop) → scalar_in table value ≡ b
      → CallGives around old new base (λ (x : D). scalar_in table value) (write around here (place_in table object) (scalar_in table value)) (Err stop)
      → CallGives around old new base (scalar_in table) (write around here (place_of a) b) (Err stop)
  write-stopped D value b stop e gives =
      subst (λ x. CallGives around old new base (scalar_in table) (write around here (place_of a) x) (Err stop)) e
      (subst (λ p. CallGives around old new base (scalar_in table) (write around here p (scalar_in table value)) (Err stop)) is
      (gives-viewed around old new base (λ (x : D). scalar_in table value) (scalar_in table) (write around here (place_in table object) (scalar_in table value)) stop gives))

  -- an operator works in between
  module _ (op : BinOp) (t ot : IntType) (b : Scalar) where
    abbrev pub operated : Scalar → Eval Scalar
    operated x = arithmetic op t here (converted t x) b >>= λ c. write around here (place_of a) (converted ot c)

    module _ (before left : memory_scalar.Scalar) (is_left : scalar_in table left ≡ converted t (scalar_in table before)) where
      pub operator-stopped : (stop : Stop) → CallGives around old old base (scalar_in table) (read around here (place_in table object)) (Ok before)
          → CallGives around old new base (scalar_in table) (arithmetic op t here (scalar_in table left) b) (Err stop)
          → CallGives around old new base (scalar_in table) (read around here (place_of a) >>= operated) (Err stop)
      operator-stopped stop reads gives =
          read-then (scalar_in table) operated before (Err stop) reads
          (gives-stopped around old new base (scalar_in table) (scalar_in table) (arithmetic op t here (converted t (scalar_in table before)) b) (λ c. write around here (place_of a) (converted ot c)) stop
          (subst (λ (x : Scalar). CallGives around old new base (scalar_in table) (arithmetic op t here x b) (Err stop)) is_left gives))

      pub operator-then : (sum : memory_scalar.Scalar) (result : Result memory_scalar.Scalar Stop) → CallGives around old old base (scalar_in table) (read around here (place_in table object)) (Ok before)
          → CallGives around old old base (scalar_in table) (arithmetic op t here (scalar_in table left) b) (Ok sum)
          → CallGives around old new base (scalar_in table) (write around here (place_of a) (converted ot (scalar_in table sum))) result
          → CallGives around old new base (scalar_in table) (read around here (place_of a) >>= operated) result
      operator-then sum result reads gives rest =
          read-then (scalar_in table) operated before result reads
          (gives-bind around old new base (scalar_in table) (scalar_in table) (arithmetic op t here (converted t (scalar_in table before)) b) (λ c. write around here (place_of a) (converted ot c)) sum result
          (subst (λ (x : Scalar). CallGives around old old base (scalar_in table) (arithmetic op t here x b) (Ok sum)) is_left gives) rest)

  -- a pointer moves in between
  module _ (is_minus : Bool) (b : ℤ) where
    abbrev pub moved : Scalar → Eval Scalar
    moved x = added here x (if is_minus then neg_ℤ b else b) >>= λ c. write around here (place_of a) c

    module _ (n : ℤ) (before : memory_scalar.Scalar) (is_number : n ≡ b) where
      pub move-stopped : (stop : Stop) → CallGives around old old base (scalar_in table) (read around here (place_in table object)) (Ok before)
          → CallGives around old new base (scalar_in table) (added here (scalar_in table before) (if is_minus then neg_ℤ n else n)) (Err stop)
          → CallGives around old new base (scalar_in table) (read around here (place_of a) >>= moved) (Err stop)
      move-stopped stop reads gives =
          read-then (scalar_in table) moved before (Err stop) reads
          (gives-stopped around old new base (scalar_in table) (scalar_in table) (added here (scalar_in table before) (if is_minus then neg_ℤ b else b)) (λ c. write around here (place_of a) c) stop
          (subst (λ (z : ℤ). CallGives around old new base (scalar_in table) (added here (scalar_in table before) (if is_minus then neg_ℤ z else z)) (Err stop)) is_number gives))

      pub move-then : (target : memory_scalar.Scalar) (result : Result memory_scalar.Scalar Stop) → CallGives around old old base (scalar_in table) (read around here (place_in table object)) (Ok before)
          → CallGives around old old base (scalar_in table) (added here (scalar_in table before) (if is_minus then neg_ℤ n else n)) (Ok target)
          → CallGives around old new base (scalar_in table) (write around here (place_of a) (scalar_in table target)) result
          → CallGives around old new base (scalar_in table) (read around here (place_of a) >>= moved) result
      move-then target result reads gives rest =
          read-then (scalar_in table) moved before result reads
          (gives-bind around old new base (scalar_in table) (scalar_in table) (added here (scalar_in table before) (if is_minus then neg_ℤ b else b)) (λ c. write around here (place_of a) c) target result
          (subst (λ (z : ℤ). CallGives around old old base (scalar_in table) (added here (scalar_in table before) (if is_minus then neg_ℤ z else z)) (Ok target)) is_number gives) rest)
