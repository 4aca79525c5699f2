-- Points that are appended or filled in: what stood still stands, and what was appended stands there.
use Rattle.std.proofs.Common.{◌≡◌, ℕ, zero, suc, ◌+◌, ◌≤◌, Bool, true, false, List, [], ◌∷◌, ◌++◌, Some, length, map, slice_get, slice_set, refl, sym, ap, ◌∙◌, subst, arith, length-set, length-append, add-one, Result, Ok, Err, IfOk, OnOk}
use Rattle.std.proofs.lemmas.List.{length-map}
use Rattle.std.proofs.lemmas.Option.{slice_get_within}
use Rattle.std.specs.Prelude.{pos, if◌then◌else◌, not, ◌&&◌}
use Rattle.std.specs.declared.alloc.AllocError.{AllocError}
use Rattle.c_num.specs.declared.IntType.{IntType}
use Rattle.c_num.specs.declared.IntType.TheVariants as I
use Rattle.c_typed.specs.declared.c_type.CType as number
use Rattle.c_typed.specs.Types.{CType, Integer, Pointer}
use Rattle.c_typed.specs.Table.{Interned, type_in}
use Rattle.tac_ir.specs.declared.register.Local.{Local}
use Rattle.tac_ir.specs.declared.register.Register.{Register}
use Rattle.tac_ir.specs.declared.register.Register.TheVariants as R
use Rattle.tac_ir.specs.declared.op.Op as memory_op
use Rattle.tac_ir.specs.declared.op.Op.TheVariants as M
use Rattle.tac_ir.specs.Code.{Op, Reserved, Held}
use Rattle.tac_ir.specs.Code as C
use Rattle.tac_ir.specs.Views.{tree_of, path_in, op_in, object_in}
use Rattle.tac_build.specs.declared.builder.Builder.{Builder}
use Rattle.tac_build.specs.Spots.{Spot, Lowered, AsInteger, AsPointer, expression, temporary, behind, with_expression, with_temporary}
use Rattle.tac_build.specs.declared.lowered.Lowered as memory_lowered
use Rattle.tac_build.specs.declared.lowered.IntegerValue.{IntegerValue}
use Rattle.tac_build.specs.declared.lowered.Place.{Place}
use Rattle.tac_build.specs.declared.objects.Target.TheVariants as Targets
use Rattle.c_typed.specs.declared.typed.Stepping.{Stepping}
use Rattle.c_num.specs.declared.BinOp.{BinOp}
use Rattle.c_num.specs.Types.{common_of}
use Rattle.tac_build.specs.declared.lowered.PointerValue.{PointerValue}
use Rattle.tac_build.specs.declared.lowered.Lowered.TheVariants as L
use Rattle.tac_build.specs.declared.conditions.Joined as memory_joined
use Rattle.tac_build.specs.declared.conditions.Joined.TheVariants as J
use Rattle.tac_build.specs.Code.{HasOp, Emits, GivesInteger, GivesPointer, Writes, JoinsWith, ReadsLocal, Loads, Stores, compound_tree, step_tree, step_operator, gives_old, truth_tree}
use Rattle.tac_build.specs.Building.{is_reserved, is_filled, Fills, Grows, GrowsBut, IsReserved, points_in, spot_of, lowered_in, pointer_in, joined_in, AreAlike, IsPointer, IsPointerType, StepsTarget, Leads, Lowers, Decides}

-- ---- results that are passed on

pub if_ok : {A : Type 0} → {E : Type 0} → (P Q : A → Type 0) (result : Result A E) → ((a : A) → P a → Q a) → IfOk result P → IfOk result Q
if_ok P Q (Ok a) f h = f a h
if_ok P Q (Err e) f h = tt

pub on_ok : {A : Type 0} → {E : Type 0} → {P : Type 0} → (result : Result A E) → P → OnOk result P
on_ok (Ok a) h = h
on_ok (Err e) h = tt

pub if_on_ok : {A : Type 0} → {E : Type 0} → {G : Type 0} → (P Q : A → Type 0) (result : Result A E) → ((a : A) → P a → G → Q a) → IfOk result P → OnOk result G → IfOk result Q
if_on_ok P Q (Ok a) f h g = f a h g
if_on_ok P Q (Err e) f h g = tt

pub on_ok_then : {A : Type 0} → {E : Type 0} → {P : Type 0} → {Q : Type 0} → (result : Result A E) → (P → Q) → OnOk result P → OnOk result Q
on_ok_then (Ok a) f h = f h
on_ok_then (Err e) f h = tt

-- ---- lists

pub read_last : {X : Type 0} → (xs : List X) (x : X) → slice_get (xs ++ x ∷ []) (length xs) ≡ Some x
read_last [] x = refl
read_last (y ∷ xs) x = read_last xs x

pub read_front : {X : Type 0} → (xs ys : List X) (i : ℕ) (x : X) → slice_get xs i ≡ Some x → slice_get (xs ++ ys) i ≡ Some x
read_front [] ys i x e = absurd (cc)
read_front (y ∷ xs) ys zero x e = e
read_front (y ∷ xs) ys (suc i) x e = read_front xs ys i x e

pub read_set : {X : Type 0} → (xs : List X) (i : ℕ) (x y : X) → slice_get xs i ≡ Some y → slice_get (slice_set xs i x) i ≡ Some x
read_set [] i x y e = absurd (cc)
read_set (z ∷ xs) zero x y e = refl
read_set (z ∷ xs) (suc i) x y e = read_set xs i x y e

pub read_beside : {X : Type 0} → (xs : List X) (i k : ℕ) (x y : X) → (k ≡ i → ⊥) → slice_get xs k ≡ Some y → slice_get (slice_set xs i x) k ≡ Some y
read_beside [] i k x y other e = absurd (cc)
read_beside (z ∷ xs) zero zero x y other e = absurd (other refl)
read_beside (z ∷ xs) zero (suc k) x y other e = e
read_beside (z ∷ xs) (suc i) zero x y other e = e
read_beside (z ∷ xs) (suc i) (suc k) x y other e = read_beside xs i k x y (λ e. other (ap suc e)) e

pub read_map : {X : Type 0} → {Y : Type 0} → (f : X → Y) (xs : List X) (i : ℕ) (x : X) → slice_get xs i ≡ Some x → slice_get (map f xs) i ≡ Some (f x)
read_map f [] i x e = absurd (cc)
read_map f (y ∷ xs) zero x e = let same : y ≡ x = cc in λ i. Some (f (same i))
read_map f (y ∷ xs) (suc i) x e = read_map f xs i x e

pub read_unmap : {X : Type 0} → {Y : Type 0} → (f : X → Y) (xs : List X) (i : ℕ) (y : Y) → slice_get (map f xs) i ≡ Some y → (x : X) × (slice_get xs i ≡ Some x) × (f x ≡ y)
read_unmap f [] i y e = absurd (cc)
read_unmap f (x ∷ xs) zero y e = (x, refl, cc)
read_unmap f (x ∷ xs) (suc i) y e = read_unmap f xs i y e

-- ---- what is filled

pub filled_in : (table : Interned) (op : memory_op.Op) → is_filled op ≡ true → is_reserved (op_in table op) ≡ false
filled_in table M.Reserved filled = absurd (cc)
filled_in table _ filled = refl

-- ---- filling

pub fills_same : (points : List Op) → Fills points points
fills_same points = record { stands = λ at op e real. e; longer = omega arith }

pub fills_on : (old mid new : List Op) → Fills old mid → Fills mid new → Fills old new
fills_on old mid new first second = record {
  stands = λ at op e real. second.stands at op (first.stands at op e real) real;
  longer = omega (arith, first.longer, second.longer);
}

-- an operation of memory that stands in points stands in what fills them
pub stands_in : (table : Interned) (builder : Builder) (points : List Op) (at : ℕ) (op : memory_op.Op) → is_filled op ≡ true → slice_get builder.points.items at ≡ Some op → Fills (points_in table builder) points → HasOp points at (op_in table op)
stands_in table builder points at op filled e fills = fills.stands at (op_in table op) (read_map (op_in table) builder.points.items at op e) (filled_in table op filled)

pub fills_equal : (table : Interned) (old new : Builder) (points : List Op) → new.points.items ≡ old.points.items → Fills (points_in table new) points → Fills (points_in table old) points
fills_equal table old new points e fills = subst (λ items. Fills (map (op_in table) items) points) e fills

-- ---- growing

pub grows_same : (builder : Builder) → Grows builder builder
grows_same builder = record { stands = λ at op e. e; longer = omega arith }

pub grows_on : (old mid new : Builder) → Grows old mid → Grows mid new → Grows old new
grows_on old mid new first second = record {
  stands = λ at op e. second.stands at op (first.stands at op e);
  longer = omega (arith, first.longer, second.longer);
}

pub grows_equal : (old new : Builder) → new.points.items ≡ old.points.items → Grows old new
grows_equal old new e = record {
  stands = λ at op has. subst (λ points. slice_get points at ≡ Some op) (sym e) has;
  longer = omega (arith, ap length e);
}

pub grows_appended : (old new : Builder) (op : memory_op.Op) → new.points.items ≡ old.points.items ++ op ∷ [] → Grows old new
grows_appended old new op e = record {
  stands = λ at other has. subst (λ points. slice_get points at ≡ Some other) (sym e) (read_front old.points.items (op ∷ []) at other has);
  longer = omega (arith, ap length e, length-append old.points.items (op ∷ []));
}

pub grows_set : (old new : Builder) (place : ℕ) (op : memory_op.Op) → new.points.items ≡ slice_set old.points.items place op → GrowsBut place old new
grows_set old new place op e = record {
  stands = λ at other beside has. subst (λ points. slice_get points at ≡ Some other) (sym e) (read_beside old.points.items place at op other beside has);
  longer = omega (arith, ap length e, length-set old.points.items place op);
}

-- what fills the points of now fills those of before
pub fills_grown : (table : Interned) (old new : Builder) (points : List Op) → Grows old new → Fills (points_in table new) points → Fills (points_in table old) points
fills_grown table old new points grows fills = record {
  stands = λ at op has real.
      let found = read_unmap (op_in table) old.points.items at op has in
      fills.stands at op (read_map (op_in table) new.points.items at found.0 (grows.stands at found.0 found.1) ∙ ap Some found.2) real;
  longer = omega (arith, fills.longer, grows.longer, length-map old.points.items (op_in table), length-map new.points.items (op_in table));
}

-- an operation that isn't the one of a reserved point is filled in
pub filled_real : (table : Interned) (op : memory_op.Op) → is_reserved (op_in table op) ≡ false → is_filled op ≡ true
filled_real table M.Reserved real = absurd (cc)
filled_real table _ real = refl

-- what fills the points where a reserved one was filled in fills those of before
pub fills_but : (table : Interned) (old new : Builder) (place : ℕ) (points : List Op) → IsReserved old place → GrowsBut place old new → Fills (points_in table new) points → Fills (points_in table old) points
fills_but table old new place points reserved grows fills = record {
  stands = λ at op has real.
      let found = read_unmap (op_in table) old.points.items at op has in
      let filled = filled_real table found.0 (ap is_reserved found.2 ∙ real) in
      let there = grows.stands at found.0 (λ (e : at ≡ place). beside found.0 filled (sym found.1 ∙ ap (slice_get old.points.items) e ∙ reserved)) found.1 in
      fills.stands at op (read_map (op_in table) new.points.items at found.0 there ∙ ap Some found.2) real;
  longer = omega (arith, fills.longer, grows.longer, length-map old.points.items (op_in table), length-map new.points.items (op_in table));
}
  where
    beside : (op : memory_op.Op) → is_filled op ≡ true → Some op ≡ Some M.Reserved → ⊥
    beside M.Reserved filled e = absurd (cc)
    beside _ filled e = absurd (cc)

pub but_on : (old mid new : Builder) (place : ℕ) → GrowsBut place old mid → Grows mid new → GrowsBut place old new
but_on old mid new place first second = record {
  stands = λ at op beside has. second.stands at op (first.stands at op beside has);
  longer = omega (arith, first.longer, second.longer);
}

pub on_but : (old mid new : Builder) (place : ℕ) → Grows old mid → GrowsBut place mid new → GrowsBut place old new
on_but old mid new place first second = record {
  stands = λ at op beside has. second.stands at op beside (first.stands at op has);
  longer = omega (arith, first.longer, second.longer);
}

-- a point that wasn't there before may be filled in
pub grows_beyond : (old mid new : Builder) (place : ℕ) → length old.points.items ≤ place → Grows old mid → GrowsBut place mid new → Grows old new
grows_beyond old mid new place beyond first second = record {
  stands = λ at op has.
      let within = slice_get_within old.points.items at op has in
      second.stands at op (λ (e : at ≡ place). absurd (omega (arith, e, within, beyond))) (first.stands at op has);
  longer = omega (arith, first.longer, second.longer);
}

pub but_beyond : (old mid new : Builder) (place other : ℕ) → length old.points.items ≤ other → GrowsBut place old mid → GrowsBut other mid new → GrowsBut place old new
but_beyond old mid new place other beyond first second = record {
  stands = λ at op beside has.
      let within = slice_get_within old.points.items at op has in
      second.stands at op (λ (e : at ≡ other). absurd (omega (arith, e, within, beyond))) (first.stands at op beside has);
  longer = omega (arith, first.longer, second.longer);
}

-- ---- spots

-- one point more
pub spot_appended : (table : Interned) (old new : Builder) (op : memory_op.Op) → new.points.items ≡ old.points.items ++ op ∷ [] → new.counts ≡ old.counts → new.objects.items ≡ old.objects.items
    → spot_of table new ≡ behind (spot_of table old)
spot_appended table old new op points counts objects =
    let more : length new.points.items ≡ suc (length old.points.items) = omega (arith, ap length points, length-append old.points.items (op ∷ [])) in
    λ i. record { at = more i; counts = counts i; objects = map (object_in table) (objects i) }

-- one point more, and the operation there
pub emits_appended : (table : Interned) (old new : Builder) (op : memory_op.Op) → is_filled op ≡ true → new.points.items ≡ old.points.items ++ op ∷ [] → new.counts ≡ old.counts → new.objects.items ≡ old.objects.items
    → (points : List Op) → Fills (points_in table new) points → Emits points (op_in table op) (spot_of table old) (spot_of table new)
emits_appended table old new op filled is counts objects points fills =
    let there = subst (λ points. slice_get points (length old.points.items) ≡ Some op) (sym is) (read_last old.points.items op) in
    (stands_in table new points (length old.points.items) op filled there fills, spot_appended table old new op is counts objects)

-- a name more behind a point more
abbrev named_expression : Spot → ℕ → Spot
named_expression spot n = record spot { counts = record spot.counts { expressions = n } }

pub expression_behind : (from mid : Spot) (n : ℕ) → mid ≡ behind from → n ≡ mid.counts.expressions + 1 → named_expression mid n ≡ behind (with_expression from)
expression_behind from mid n is next = ap (named_expression mid) (next ∙ add-one mid.counts.expressions) ∙ ap with_expression is

abbrev named_temporary : Spot → ℕ → Spot
named_temporary spot n = record spot { counts = record spot.counts { temporaries = n } }

pub temporary_behind : (from mid : Spot) (n : ℕ) → mid ≡ behind from → n ≡ mid.counts.temporaries + 1 → named_temporary mid n ≡ behind (with_temporary from)
temporary_behind from mid n is next = ap (named_temporary mid) (next ∙ add-one mid.counts.temporaries) ∙ ap with_temporary is

-- ---- what a point is named

-- a pointer, whose point is told from the register that comes next
pub gives_pointer : (old new : Builder) (target : number.CType) (op : memory_op.Op) (code : Interned → Register → Op) → ((table : Interned) → op_in table op ≡ code table (R.Expression old.counts.expressions))
    → (result : Result memory_lowered.Lowered AllocError) → IfOk result (Lowers (λ table points. GivesPointer points (λ register. op_in table op) (type_in table target)) old new)
    → IfOk result (Lowers (λ table points. GivesPointer points (code table) (type_in table target)) old new)
gives_pointer old new target op code same result given =
    if_ok (Lowers (λ table points. GivesPointer points (λ register. op_in table op) (type_in table target)) old new) (Lowers (λ table points. GivesPointer points (code table) (type_in table target)) old new) result
    (λ lowered is table points fills. let found = is table points fills in (found.0 ∙ (λ i. Some (same table i)), found.1, found.2)) given

-- the same before it is what an expression comes to
pub gives_given : (old new : Builder) (target : number.CType) (op : memory_op.Op) (code : Interned → Register → Op) → ((table : Interned) → op_in table op ≡ code table (R.Expression old.counts.expressions))
    → (result : Result PointerValue AllocError) → IfOk result (λ given. Leads (λ table points from to. GivesPointer points (λ register. op_in table op) (type_in table target) from to (pointer_in table given)) old new)
    → IfOk result (λ given. Leads (λ table points from to. GivesPointer points (code table) (type_in table target) from to (pointer_in table given)) old new)
gives_given old new target op code same (Ok value) given = λ table points fills. let found = given table points fills in (found.0 ∙ (λ i. Some (same table i)), found.1, found.2)
gives_given old new target op code same (Err fault) given = tt

-- an integer likewise
pub gives_integer : (old new : Builder) (int_type : IntType) (op : memory_op.Op) (code : Interned → Register → Op) → ((table : Interned) → op_in table op ≡ code table (R.Temporary old.counts.temporaries))
    → (result : Result memory_lowered.Lowered AllocError) → IfOk result (Lowers (λ table points. GivesInteger points (λ register. op_in table op) int_type) old new)
    → IfOk result (Lowers (λ table points. GivesInteger points (code table) int_type) old new)
gives_integer old new int_type op code same result given =
    if_ok (Lowers (λ table points. GivesInteger points (λ register. op_in table op) int_type) old new) (Lowers (λ table points. GivesInteger points (code table) int_type) old new) result
    (λ lowered is table points fills. let found = is table points fills in (found.0 ∙ (λ i. Some (same table i)), found.1, found.2)) given

-- a point whose operation is another one's equal
pub emits_as : (old new : Builder) (op : memory_op.Op) (code : Interned → Op) → ((table : Interned) → op_in table op ≡ code table) → (result : Result (Unit {0}) AllocError)
    → OnOk result (Leads (λ table points. Emits points (op_in table op)) old new) → OnOk result (Leads (λ table points. Emits points (code table)) old new)
emits_as old new op code same (Ok done) emitted = λ table points fills. let found = emitted table points fills in (found.0 ∙ (λ i. Some (same table i)), found.1)
emits_as old new op code same (Err fault) emitted = tt

-- ---- ways that join

pub joins_integer : (old new : Builder) (joined : memory_joined.Joined) (register : Register) (int_type : IntType) (other : memory_lowered.Lowered) → joined ≡ J.Integer register int_type → AreAlike joined other
    → (result : Result (Unit {0}) AllocError) → OnOk result (Leads (λ table points. Writes points register (lowered_in table other)) old new)
    → OnOk result (Leads (λ table points. JoinsWith points (joined_in table joined) (lowered_in table other)) old new)
joins_integer old new joined register int_type other is alike result written =
    subst (λ joined. OnOk result (Leads (λ table points. JoinsWith points (joined_in table joined) (lowered_in table other)) old new)) (sym is) (by other (subst (λ joined. AreAlike joined other) is alike) written)
  where
    by : (other : memory_lowered.Lowered) → AreAlike (J.Integer register int_type) other → OnOk result (Leads (λ table points. Writes points register (lowered_in table other)) old new)
        → OnOk result (Leads (λ table points. JoinsWith points (AsInteger int_type (Held register)) (lowered_in table other)) old new)
    by (L.Integer own tree) alike written = written
    by (L.Pointer own target) alike written = absurd alike
    by (L.Object path c_type) alike written = absurd alike
    by L.Nothing alike written = absurd alike

pub joins_pointer : (old new : Builder) (joined : memory_joined.Joined) (register : Register) (target : number.CType) (other : memory_lowered.Lowered) → joined ≡ J.Pointer register target → AreAlike joined other
    → (result : Result (Unit {0}) AllocError) → OnOk result (Leads (λ table points. Writes points register (lowered_in table other)) old new)
    → OnOk result (Leads (λ table points. JoinsWith points (joined_in table joined) (lowered_in table other)) old new)
joins_pointer old new joined register target other is alike result written =
    subst (λ joined. OnOk result (Leads (λ table points. JoinsWith points (joined_in table joined) (lowered_in table other)) old new)) (sym is) (by other (subst (λ joined. AreAlike joined other) is alike) written)
  where
    by : (other : memory_lowered.Lowered) → AreAlike (J.Pointer register target) other → OnOk result (Leads (λ table points. Writes points register (lowered_in table other)) old new)
        → OnOk result (Leads (λ table points. JoinsWith points (AsPointer register (type_in table target)) (lowered_in table other)) old new)
    by (L.Pointer own other) alike written = written
    by (L.Integer own tree) alike written = absurd alike
    by (L.Object path c_type) alike written = absurd alike
    by L.Nothing alike written = absurd alike

-- ---- a new temporary, and a point

pub named_then : (table : Interned) (old mid new : Builder) (points : List Op) (op : Op) → mid.points.items ≡ old.points.items → spot_of table mid ≡ with_temporary (spot_of table old)
    → Emits points op (spot_of table mid) (spot_of table new) → HasOp points (length old.points.items) op × (spot_of table new ≡ behind (with_temporary (spot_of table old)))
named_then table old mid new points op same spot emitted = (subst (λ items. HasOp points (length items) op) same emitted.0, emitted.1 ∙ ap behind spot)

pub emits_from : (points : List Op) (op : Op) (from mid to : Spot) → from ≡ mid → Emits points op from to → Emits points op mid to
emits_from points op from mid to same emitted = (subst (λ spot. HasOp points spot.at op) same emitted.0, emitted.1 ∙ ap behind same)

-- ---- the end of `&&` or `||`

pub decides : (start assigned reserved filled appended end : Builder) (is_and : Bool) (register : Register) (test jump : ℕ) (left right : IntegerValue) (lowered : memory_lowered.Lowered)
    → IsReserved start test
    → Leads (λ table points. Emits points (C.Assign register (truth_tree right.int_type (tree_of right.tree.value)))) start assigned → Grows start assigned
    → jump ≡ length assigned.points.items → IsReserved reserved jump → ((table : Interned) → spot_of table reserved ≡ behind (spot_of table assigned)) → Grows assigned reserved
    → ((table : Interned) (points : List Op) → Fills (points_in table filled) points → HasOp points test (C.Branch left.int_type (tree_of left.tree.value) (if is_and then suc test else length reserved.points.items) (if is_and then length reserved.points.items else suc test)))
    → ((table : Interned) → spot_of table filled ≡ spot_of table reserved) → GrowsBut test reserved filled
    → Leads (λ table points. Emits points (C.Assign register (C.Constant (if is_and then pos 0 else pos 1)))) filled appended → Grows filled appended
    → IsReserved appended jump
    → ((table : Interned) (points : List Op) → Fills (points_in table end) points → HasOp points jump (C.Jump (length appended.points.items)))
    → ((table : Interned) → spot_of table end ≡ spot_of table appended) → GrowsBut jump appended end
    → ((table : Interned) → lowered_in table lowered ≡ AsInteger I.Int (Held register))
    → Lowers (λ table. Decides is_and register test left right) start end lowered
decides start assigned reserved filled appended end is_and register test jump left right lowered
    start_reserved assigned_code assigned_grows jump_at jump_reserved reserved_spot reserved_grows filled_code filled_spot filled_grows appended_code appended_grows still_reserved end_code end_spot end_grows held = λ table points fills.
    let fills_appended = fills_but table appended end jump points still_reserved end_grows fills in
    let fills_filled = fills_grown table filled appended points appended_grows fills_appended in
    let test_reserved = reserved_grows.stands test M.Reserved (assigned_grows.stands test M.Reserved start_reserved) in
    let fills_reserved = fills_but table reserved filled test points test_reserved filled_grows fills_filled in
    let fills_assigned = fills_grown table assigned reserved points reserved_grows fills_reserved in
    let truth = assigned_code table points fills_assigned in
    let branch = filled_code table points fills_filled in
    let constant = appended_code table points fills_appended in
    let jumped = end_code table points fills in
    let here : spot_of table reserved ≡ behind (behind (spot_of table start)) = reserved_spot table ∙ ap behind truth.1 in
    let place : length reserved.points.items ≡ suc (suc (length start.points.items)) = ap (λ (spot : Spot). spot.at) here in
    let jump_place : jump ≡ suc (length start.points.items) = jump_at ∙ ap (λ (spot : Spot). spot.at) truth.1 in
    let end_place : length appended.points.items ≡ length end.points.items = ap (λ (spot : Spot). spot.at) (sym (end_spot table)) in
    let mid : spot_of table filled ≡ behind (behind (spot_of table start)) = filled_spot table ∙ here in
    let emitted = emits_from points (C.Assign register (C.Constant (if is_and then pos 0 else pos 1))) (spot_of table filled) (behind (behind (spot_of table start))) (spot_of table appended) mid constant in (
      branch ∙ (λ i. Some (C.Branch left.int_type (tree_of left.tree.value) (if is_and then suc test else place i) (if is_and then place i else suc test))),
      truth.0,
      subst (λ at. HasOp points at (C.Jump (length end.points.items))) jump_place (jumped ∙ (λ i. Some (C.Jump (end_place i)))),
      (emitted.0, end_spot table ∙ emitted.1),
      held table,
    )

-- ---- pointers that are read

is_pointer : (table : Interned) (lowered : memory_lowered.Lowered) (register : Register) (target : CType) → lowered_in table lowered ≡ AsPointer register target → IsPointer lowered
is_pointer table (L.Pointer own to) register target e = tt
is_pointer table (L.Integer own tree) register target e = absurd (cc)
is_pointer table (L.Object path own) register target e = absurd (cc)
is_pointer table L.Nothing register target e = absurd (cc)

pub reads_pointer : (table : Interned) (points : List Op) (local : Local) (is_object : Bool) (c_type : CType) (from to : Spot) (lowered : memory_lowered.Lowered) → IsPointerType c_type
    → ReadsLocal points (record { local = local; is_object = is_object; c_type = c_type }) from to (lowered_in table lowered) → IsPointer lowered
reads_pointer table points local is_object (Pointer target) from to lowered kind reads = is_pointer table lowered (expression from) target reads.2
reads_pointer table points local is_object _ from to lowered kind reads = absurd kind

pub loads_pointer : (table : Interned) (points : List Op) (c_type : CType) (path : C.Path) (from to : Spot) (lowered : memory_lowered.Lowered) → IsPointerType c_type
    → Loads points c_type path from to (lowered_in table lowered) → IsPointer lowered
loads_pointer table points (Pointer target) path from to lowered kind reads = is_pointer table lowered (expression from) target reads.2
loads_pointer table points _ path from to lowered kind reads = absurd kind

-- ---- steps of an integer in memory

pub steps_memory : (table : Interned) (points : List Op) (start loaded end : Builder) (used new_used : Bool) (stepping : Stepping) (place : Place) (int_type object_type common : IntType) (operator : BinOp) (old : Register) (operand : C.Tree)
    (new : memory_lowered.Lowered) (lowered : Lowered)
    → new_used ≡ (used && not (gives_old stepping)) → operator ≡ step_operator stepping → object_type ≡ int_type → common ≡ common_of int_type I.Int → operand ≡ C.Constant (pos 1)
    → HasOp points (length start.points.items) (C.Load (temporary (spot_of table start)) (Integer int_type) (path_in table place.path.value))
    → spot_of table loaded ≡ behind (with_temporary (spot_of table start)) → old ≡ temporary (spot_of table start)
    → Stores points new_used (path_in table place.path.value) (Integer object_type) (AsInteger object_type (compound_tree operator object_type common old operand)) (spot_of table loaded) (spot_of table end) (lowered_in table new)
    → lowered ≡ (if gives_old stepping then AsInteger int_type (Held (temporary (spot_of table start))) else lowered_in table new)
    → StepsTarget table used stepping (Targets.Memory place) int_type points (spot_of table start) (spot_of table end) lowered
steps_memory table points start loaded end used new_used stepping place int_type object_type common operator old operand new lowered is_new is_operator is_type is_common is_one load at named stores gives =
    let path = path_in table place.path.value in
    let tree : compound_tree operator object_type common old operand ≡ step_tree stepping int_type (temporary (spot_of table start)) =
    (λ i. C.Convert (is_type i) (C.Arithmetic (is_operator i) (is_common i) (C.Convert (is_common i) (Held (named i))) (is_one i))) in
    let first = subst (λ used. Stores points used path (Integer object_type) (AsInteger object_type (compound_tree operator object_type common old operand)) (spot_of table loaded) (spot_of table end) (lowered_in table new)) is_new stores in
    let second = subst (λ tree. Stores points (used && not (gives_old stepping)) path (Integer object_type) (AsInteger object_type tree) (spot_of table loaded) (spot_of table end) (lowered_in table new)) tree first in
    let third = subst (λ own. Stores points (used && not (gives_old stepping)) path (Integer own) (AsInteger own (step_tree stepping int_type (temporary (spot_of table start)))) (spot_of table loaded) (spot_of table end) (lowered_in table new)) is_type second in
    let fourth = subst (λ from. Stores points (used && not (gives_old stepping)) path (Integer int_type) (AsInteger int_type (step_tree stepping int_type (temporary (spot_of table start)))) from (spot_of table end) (lowered_in table new)) at third in
    (lowered_in table new, load, fourth, gives)
