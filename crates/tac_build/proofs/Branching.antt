-- `&&`, `||` and `c ? a : b`: what is asked of their parts, and their code.
use Rattle.std.proofs.Common.{◌≡◌, ℕ, suc, ◌≤◌, Bool, true, false, ◌&&◌, ◌||◌, List, length, Option, Some, sym, ap, ◌∙◌, subst, arith}
use Rattle.std.proofs.lemmas.Bool.{and_parts}
use Rattle.c_num.specs.declared.IntType.TheVariants as I
use Rattle.c_typed.specs.declared.typed.Value as memory_value
use Rattle.c_typed.specs.declared.typed.Value.TheVariants as V
use Rattle.c_typed.specs.Types.{CType, int, same_type, is_integer}
use Rattle.c_typed.specs.Table.{Interned}
use Rattle.c_typed.specs.Views.{value_in}
use Rattle.c_typed.proofs.Same.{same_type-true}
use Rattle.c_typed.specs.Expressions.{given_two, where_holds, type_of}
use Rattle.c_typed.proofs.Splitting.{given_parts, first_parts, both_parts}
use Rattle.tac_ir.specs.declared.register.Register.{Register}
use Rattle.tac_ir.specs.declared.register.Register.TheVariants as R
use Rattle.tac_ir.specs.declared.op.Op.TheVariants as M
use Rattle.tac_ir.specs.Code as C
use Rattle.tac_ir.specs.Code.{Op, Held}
use Rattle.tac_ir.specs.Views.{tree_of}
use Rattle.tac_build.specs.declared.builder.Builder.{Builder}
use Rattle.tac_build.specs.declared.names.Source.{Source}
use Rattle.tac_build.specs.declared.homes.Home as memory_home
use Rattle.tac_build.specs.declared.lowered.Lowered as memory_lowered
use Rattle.tac_build.specs.declared.lowered.Lowered.TheVariants as L
use Rattle.tac_build.specs.declared.lowered.IntegerValue.{IntegerValue}
use Rattle.tac_build.specs.declared.lowered.Mode as memory_mode
use Rattle.tac_build.specs.declared.lowered.Mode.TheVariants as N
use Rattle.tac_build.specs.declared.conditions.Joined as memory_joined
use Rattle.tac_build.specs.declared.conditions.Joined.TheVariants as J
use Rattle.tac_build.specs.Homes.{Scope, takes}
use Rattle.tac_build.specs.Spots.{Spot, Lowered, AsInteger, AsPointer, AsObject, AsNothing, Mode, Kept, behind, with_temporary, temporary, expression}
use Rattle.tac_build.specs.Code.{HasOp, Joins, JoinsWith, LogicalCode, ValueCode}
use Rattle.tac_build.specs.Forms.{HasForm}
use Rattle.tac_build.specs.Building.{lowered_in, integer_of, joined_in, IsValue, AreAlike, Grows, GrowsBut, IsReserved, points_in, spot_of, Leads, Lowers, LowersIn, Decides, EndsWay, MeetsWay}
use Rattle.tac_build.specs.Lowering.{program_in, types_of_source, scope_of, context_in, ValueTyped, ValueLives, LoweredHolds, ValueLowers}
use Rattle.tac_build.proofs.Points.{fills_same, fills_grown, fills_but, grows_on, grows_beyond}
use Rattle.tac_build.proofs.Everywhere.{holds_integer, holds_nothing, holds_pointer}
use Rattle.tac_build.proofs.Sources.{IntegerTyped, integer_of_type, integer_typed, typed_as, lowered_form, lives_kept, lies_left, lies_right}

-- ---- growing

-- a point that was reserved behind the old ones, and is filled in at the end
pub grows_decided : (old mid reserved right new : Builder) (test : ℕ) → Grows old mid → test ≡ length mid.points.items → Grows mid reserved → Grows reserved right → GrowsBut test right new → Grows old new
grows_decided old mid reserved right new test first at second third last =
    grows_beyond old right new test (omega (arith, first.longer, at)) (grows_on old reserved right (grows_on old mid reserved first second) third) last

pub grows_joined : (old mid reserved one ended other new : Builder) (test end : ℕ) → Grows old mid → test ≡ length mid.points.items → Grows mid reserved → Grows reserved one → GrowsBut test one ended
    → length one.points.items ≤ end → Grows ended other → GrowsBut end other new → Grows old new
grows_joined old mid reserved one ended other new test end first at second third fourth beyond fifth last =
    let whole = grows_on old reserved one (grows_on old mid reserved first second) third in
    grows_beyond old other new end (omega (arith, beyond, whole.longer)) (grows_on old ended other (grows_beyond old one ended test (omega (arith, first.longer, at)) whole fourth) fifth) last

-- ---- forms

value_by_form : (table : Interned) (lowered : memory_lowered.Lowered) (t : CType) → HasForm Kept (lowered_in table lowered) t → IsValue lowered
value_by_form table (L.Integer int_type tree) t form = tt
value_by_form table (L.Pointer register target) t form = tt
value_by_form table (L.Object path c_type) t form = absurd form
value_by_form table L.Nothing t form = tt

joined_form : (table : Interned) (points : List Op) (one : Lowered) (joined : memory_joined.Joined) (t : CType) (from to : Spot) → HasForm Kept one t → Joins points one from to (joined_in table joined) → HasForm Kept (joined_in table joined) t
joined_form table points (AsInteger own tree) joined t from to form code = subst (λ l. HasForm Kept l t) (sym code.2) form
joined_form table points (AsPointer register target) joined t from to form code = subst (λ l. HasForm Kept l t) (sym code.2) form
joined_form table points (AsObject path own) joined t from to form code = absurd code
joined_form table points AsNothing joined t from to form code = subst (λ l. HasForm Kept l t) (sym code.1) form

alike_by_form : (table : Interned) (joined : memory_joined.Joined) (other : memory_lowered.Lowered) (t : CType) → HasForm Kept (joined_in table joined) t → HasForm Kept (lowered_in table other) t → AreAlike joined other
alike_by_form table (J.Integer register int_type) (L.Integer own tree) t one form = tt
alike_by_form table (J.Integer register int_type) (L.Pointer own target) t one form = absurd (cc)
alike_by_form table (J.Integer register int_type) (L.Object path c_type) t one form = absurd form
alike_by_form table (J.Integer register int_type) L.Nothing t one form = absurd (cc)
alike_by_form table (J.Pointer register target) (L.Integer own tree) t one form = absurd (cc)
alike_by_form table (J.Pointer register target) (L.Pointer own other) t one form = tt
alike_by_form table (J.Pointer register target) (L.Object path c_type) t one form = absurd form
alike_by_form table (J.Pointer register target) L.Nothing t one form = absurd (cc)
alike_by_form table J.Nothing (L.Integer own tree) t one form = absurd (cc)
alike_by_form table J.Nothing (L.Pointer own target) t one form = absurd (cc)
alike_by_form table J.Nothing (L.Object path c_type) t one form = absurd form
alike_by_form table J.Nothing L.Nothing t one form = tt

-- what ways come to holds what the first one does
joined_holds : (one lowered : memory_lowered.Lowered) (joined : memory_joined.Joined) (from to : Interned → Spot) (points : Interned → List Op)
    → ((any : Interned) → Joins (points any) (lowered_in any one) (from any) (to any) (joined_in any joined)) → ((any : Interned) → lowered_in any lowered ≡ joined_in any joined)
    → (table : Interned) → LoweredHolds table one → LoweredHolds table lowered
joined_holds (L.Integer int_type tree) lowered joined from to points code is table holds = holds_integer table lowered int_type (Held (temporary (from table))) (is table ∙ (code table).2)
joined_holds (L.Pointer register target) lowered joined from to points code is table holds = holds_pointer lowered target (λ any. expression (from any)) (λ any. is any ∙ (code any).2) table holds
joined_holds (L.Object path c_type) lowered joined from to points code is table holds = absurd (code table)
joined_holds L.Nothing lowered joined from to points code is table holds = holds_nothing table lowered (is table ∙ (code table).1)

module _ (source : Source) (scope : List memory_home.Home) where
  abbrev table : Interned
  table = types_of_source source

  abbrev homes : Scope
  homes = scope_of source scope

  abbrev type_here : memory_value.Value → Option CType
  type_here value = type_of (context_in source scope) (value_in table value)

  abbrev code_here : List Op → memory_value.Value → Spot → Spot → Lowered → Type 0
  code_here points value from to lowered = ValueCode (program_in source) points homes Kept (value_in table value) from to lowered

  -- ---- `&&` and `||`

  pub record TwoIntegers (left right : memory_value.Value) : Type 0 where
    pub first : IntegerTyped source scope left
    pub second : IntegerTyped source scope right

  pub and_typed : {p : _} {q : _} (value left right : memory_value.Value) → value ≡ V.And' p left q right → ValueTyped source scope value → TwoIntegers left right
  and_typed value left right is h =
      let whole = subst (ValueTyped source scope) is h in
      let parts = both_parts (type_here left) (type_here right) (λ a b. is_integer a && is_integer b) int whole.c_type whole.typed in
      let kinds = and_parts (is_integer parts.a) (is_integer parts.b) parts.holds in
      record {
        first = integer_typed source scope left parts.a whole.stands.0 parts.left (integer_of_type parts.a kinds.0);
        second = integer_typed source scope right parts.b whole.stands.1 parts.right (integer_of_type parts.b kinds.1);
      }

  pub or_typed : {p : _} {q : _} (value left right : memory_value.Value) → value ≡ V.Or' p left q right → ValueTyped source scope value → TwoIntegers left right
  or_typed value left right is h =
      let whole = subst (ValueTyped source scope) is h in
      let parts = both_parts (type_here left) (type_here right) (λ a b. is_integer a && is_integer b) int whole.c_type whole.typed in
      let kinds = and_parts (is_integer parts.a) (is_integer parts.b) parts.holds in
      record {
        first = integer_typed source scope left parts.a whole.stands.0 parts.left (integer_of_type parts.a kinds.0);
        second = integer_typed source scope right parts.b whole.stands.1 parts.right (integer_of_type parts.b kinds.1);
      }

  pub and_lives : {p : _} {q : _} (mode : Mode) (value left right : memory_value.Value) → value ≡ V.And' p left q right → ValueLives homes mode (value_in table value)
      → ValueLives homes Kept (value_in table left) × ValueLives homes Kept (value_in table right)
  and_lives mode value left right is h =
      let lie = (subst (λ v. ValueLives homes mode (value_in table v)) is h).taken in (
        lives_kept homes (value_in table left) (lies_left homes (λ number. takes false number (value_in table left)) (λ number. takes false number (value_in table right)) lie),
        lives_kept homes (value_in table right) (lies_right homes (λ number. takes false number (value_in table left)) (λ number. takes false number (value_in table right)) lie),
      )

  pub or_lives : {p : _} {q : _} (mode : Mode) (value left right : memory_value.Value) → value ≡ V.Or' p left q right → ValueLives homes mode (value_in table value)
      → ValueLives homes Kept (value_in table left) × ValueLives homes Kept (value_in table right)
  or_lives mode value left right is h =
      let lie = (subst (λ v. ValueLives homes mode (value_in table v)) is h).taken in (
        lives_kept homes (value_in table left) (lies_left homes (λ number. takes false number (value_in table left)) (λ number. takes false number (value_in table right)) lie),
        lives_kept homes (value_in table right) (lies_right homes (λ number. takes false number (value_in table left)) (λ number. takes false number (value_in table right)) lie),
      )

  -- The register is named, the left operand comes, its branch is reserved, the right operand comes, and it is decided.
  logical : (is_and : Bool) (left right : memory_value.Value) (old named first reserved second new : Builder) (register : Register) (test : ℕ) (one other : memory_lowered.Lowered) (a b : IntegerValue) (lowered : memory_lowered.Lowered)
      → register ≡ R.Temporary old.counts.temporaries → ((any : Interned) → spot_of any named ≡ with_temporary (spot_of any old))
      → ValueLowers source scope N.Kept left named first one → ((any : Interned) → lowered_in any one ≡ integer_of a)
      → test ≡ length first.points.items → IsReserved reserved test → ((any : Interned) → spot_of any reserved ≡ behind (spot_of any first)) → Grows first reserved
      → ValueLowers source scope N.Kept right reserved second other → ((any : Interned) → lowered_in any other ≡ integer_of b) → Grows reserved second
      → Lowers (λ any. Decides is_and register test a b) second new lowered → GrowsBut test second new
      → LowersIn table (λ points. LogicalCode points is_and (code_here points left) (code_here points right)) old new lowered
  logical is_and left right old named first reserved second new register test one other a b lowered to to_spot left_code left_is at kept reserved_spot reserved_grows right_code right_is right_grows decides grows = λ points fills.
      let still = right_grows.stands test M.Reserved kept in
      let fills_second = fills_but table second new test points still grows fills in
      let fills_reserved = fills_grown table reserved second points right_grows fills_second in
      let fills_first = fills_grown table first reserved points reserved_grows fills_reserved in
      let told = decides table points fills in
      let decided = subst (λ r. Decides is_and r (length first.points.items) a b points (spot_of table second) (spot_of table new) (lowered_in table lowered)) to
      (subst (λ n. Decides is_and register n a b points (spot_of table second) (spot_of table new) (lowered_in table lowered)) at told) in
      let left_there = subst (λ spot. code_here points left spot (spot_of table first) (integer_of a)) (to_spot table)
      (subst (λ l. code_here points left (spot_of table named) (spot_of table first) l) (left_is table) (left_code.0 points fills_first)) in
      let right_there = subst (λ spot. code_here points right spot (spot_of table second) (integer_of b)) (reserved_spot table)
      (subst (λ l. code_here points right (spot_of table reserved) (spot_of table second) l) (right_is table) (right_code.0 points fills_second)) in (
        spot_of table first,
        spot_of table second,
        tree_of a.tree.value,
        tree_of b.tree.value,
        a.int_type,
        b.int_type,
        left_there,
        decided.0,
        right_there,
        decided.1,
        decided.2,
        decided.3,
        decided.4,
      )

  decided_holds : (is_and : Bool) (second new : Builder) (register : Register) (test : ℕ) (a b : IntegerValue) (lowered : memory_lowered.Lowered) → Lowers (λ any. Decides is_and register test a b) second new lowered → LoweredHolds table lowered
  decided_holds is_and second new register test a b lowered decides =
      holds_integer table lowered I.Int (Held register) (decides table (points_in table new) (fills_same (points_in table new))).4

  pub and_lowers : {p : _} {q : _} (mode : memory_mode.Mode) (value left right : memory_value.Value) (old named first reserved second new : Builder) (register : Register) (test : ℕ) (one other : memory_lowered.Lowered)
      (a b : IntegerValue) (lowered : memory_lowered.Lowered) → value ≡ V.And' p left q right
      → register ≡ R.Temporary old.counts.temporaries → ((any : Interned) → spot_of any named ≡ with_temporary (spot_of any old))
      → ValueLowers source scope N.Kept left named first one → ((any : Interned) → lowered_in any one ≡ integer_of a)
      → test ≡ length first.points.items → IsReserved reserved test → ((any : Interned) → spot_of any reserved ≡ behind (spot_of any first)) → Grows first reserved
      → ValueLowers source scope N.Kept right reserved second other → ((any : Interned) → lowered_in any other ≡ integer_of b) → Grows reserved second
      → Lowers (λ any. Decides true register test a b) second new lowered → GrowsBut test second new
      → ValueLowers source scope mode value old new lowered
  and_lowers mode value left right old named first reserved second new register test one other a b lowered is to to_spot left_code left_is at kept reserved_spot reserved_grows right_code right_is right_grows decides grows =
      subst (λ v. ValueLowers source scope mode v old new lowered) (sym is) (
        logical true left right old named first reserved second new register test one other a b lowered to to_spot left_code left_is at kept reserved_spot reserved_grows right_code right_is right_grows decides grows,
        decided_holds true second new register test a b lowered decides,
      )

  pub or_lowers : {p : _} {q : _} (mode : memory_mode.Mode) (value left right : memory_value.Value) (old named first reserved second new : Builder) (register : Register) (test : ℕ) (one other : memory_lowered.Lowered)
      (a b : IntegerValue) (lowered : memory_lowered.Lowered) → value ≡ V.Or' p left q right
      → register ≡ R.Temporary old.counts.temporaries → ((any : Interned) → spot_of any named ≡ with_temporary (spot_of any old))
      → ValueLowers source scope N.Kept left named first one → ((any : Interned) → lowered_in any one ≡ integer_of a)
      → test ≡ length first.points.items → IsReserved reserved test → ((any : Interned) → spot_of any reserved ≡ behind (spot_of any first)) → Grows first reserved
      → ValueLowers source scope N.Kept right reserved second other → ((any : Interned) → lowered_in any other ≡ integer_of b) → Grows reserved second
      → Lowers (λ any. Decides false register test a b) second new lowered → GrowsBut test second new
      → ValueLowers source scope mode value old new lowered
  or_lowers mode value left right old named first reserved second new register test one other a b lowered is to to_spot left_code left_is at kept reserved_spot reserved_grows right_code right_is right_grows decides grows =
      subst (λ v. ValueLowers source scope mode v old new lowered) (sym is) (
        logical false left right old named first reserved second new register test one other a b lowered to to_spot left_code left_is at kept reserved_spot reserved_grows right_code right_is right_grows decides grows,
        decided_holds false second new register test a b lowered decides,
      )

  -- ---- `c ? a : b`

  pub record Ways (condition taken otherwise : memory_value.Value) : Type 0 where
    pub tested : IntegerTyped source scope condition
    pub c_type : CType
    pub first : type_here taken ≡ Some c_type
    pub second : type_here otherwise ≡ Some c_type
    pub one : ValueTyped source scope taken
    pub other : ValueTyped source scope otherwise

  pub conditional_typed : {p : _} {q : _} {r : _} (value condition taken otherwise : memory_value.Value) → value ≡ V.Conditional' p condition q taken r otherwise → ValueTyped source scope value → Ways condition taken otherwise
  conditional_typed value condition taken otherwise is h =
      let whole = subst (ValueTyped source scope) is h in
      let t = whole.c_type in
      let tested = given_parts (type_here condition) (λ c. given_two (type_here taken) (type_here otherwise) (λ a b. where_holds (is_integer c && same_type a b) a)) t whole.typed in
      let parts = first_parts (type_here taken) (type_here otherwise) (λ a b. is_integer tested.0 && same_type a b) t tested.2 in
      let kinds = and_parts (is_integer tested.0) (same_type t parts.b) parts.holds in
      let second = parts.right ∙ ap Some (sym (same_type-true t parts.b kinds.1)) in
      record {
        tested = integer_typed source scope condition tested.0 whole.stands.0 tested.1 (integer_of_type tested.0 kinds.0);
        c_type = t;
        first = parts.left;
        second = second;
        one = typed_as source scope taken t whole.stands.1 parts.left;
        other = typed_as source scope otherwise t whole.stands.2 second;
      }

  pub conditional_lives : {p : _} {q : _} {r : _} (mode : Mode) (value condition taken otherwise : memory_value.Value) → value ≡ V.Conditional' p condition q taken r otherwise → ValueLives homes mode (value_in table value)
      → ValueLives homes Kept (value_in table condition) × ValueLives homes Kept (value_in table taken) × ValueLives homes Kept (value_in table otherwise)
  conditional_lives mode value condition taken otherwise is h =
      let lie = (subst (λ v. ValueLives homes mode (value_in table v)) is h).taken in
      let rest = lies_right homes (λ number. takes false number (value_in table condition)) (λ number. takes false number (value_in table taken) || takes false number (value_in table otherwise)) lie in (
        lives_kept homes (value_in table condition) (lies_left homes (λ number. takes false number (value_in table condition)) (λ number. takes false number (value_in table taken) || takes false number (value_in table otherwise)) lie),
        lives_kept homes (value_in table taken) (lies_left homes (λ number. takes false number (value_in table taken)) (λ number. takes false number (value_in table otherwise)) rest),
        lives_kept homes (value_in table otherwise) (lies_right homes (λ number. takes false number (value_in table taken)) (λ number. takes false number (value_in table otherwise)) rest),
      )

  pub way_is_value : (taken : memory_value.Value) (t : CType) (old new : Builder) (one : memory_lowered.Lowered) → type_here taken ≡ Some t → ValueLowers source scope N.Kept taken old new one → IsValue one
  way_is_value taken t old new one typed lowers = value_by_form table one t (lowered_form source scope N.Kept taken t old new one typed lowers)

  -- both ways come to one kind
  pub ways_alike : (condition : IntegerValue) (taken otherwise : memory_value.Value) (t : CType) (reserved first ended second : Builder) (test end : ℕ) (one other : memory_lowered.Lowered) (joined : memory_joined.Joined)
      → type_here taken ≡ Some t → type_here otherwise ≡ Some t → ValueLowers source scope N.Kept taken reserved first one
      → Leads (λ any. EndsWay test condition (lowered_in any one) (joined_in any joined) end) first ended → ValueLowers source scope N.Kept otherwise ended second other → AreAlike joined other
  ways_alike condition taken otherwise t reserved first ended second test end one other joined typed other_typed lowers ends other_lowers =
      let points = points_in table ended in
      let told = ends table points (fills_same points) in
      alike_by_form table joined other t
      (joined_form table points (lowered_in table one) joined t (spot_of table first) told.0 (lowered_form source scope N.Kept taken t reserved first one typed lowers) told.1)
      (lowered_form source scope N.Kept otherwise t ended second other other_typed other_lowers)

  pub conditional_lowers : {p : _} {q : _} {r : _} (mode : memory_mode.Mode) (value condition taken otherwise : memory_value.Value) (old tested reserved first ended second new : Builder) (test end : ℕ)
      (integer one other : memory_lowered.Lowered) (a : IntegerValue) (joined : memory_joined.Joined) (lowered : memory_lowered.Lowered) → value ≡ V.Conditional' p condition q taken r otherwise
      → ValueLowers source scope N.Kept condition old tested integer → ((any : Interned) → lowered_in any integer ≡ integer_of a)
      → test ≡ length tested.points.items → IsReserved reserved test → ((any : Interned) → spot_of any reserved ≡ behind (spot_of any tested)) → Grows tested reserved
      → ValueLowers source scope N.Kept taken reserved first one → Grows reserved first
      → Leads (λ any. EndsWay test a (lowered_in any one) (joined_in any joined) end) first ended → IsReserved ended end → GrowsBut test first ended
      → ValueLowers source scope N.Kept otherwise ended second other → Grows ended second
      → Lowers (λ any. MeetsWay (joined_in any joined) (lowered_in any other) end) second new lowered → GrowsBut end second new
      → ValueLowers source scope mode value old new lowered
  conditional_lowers mode value condition taken otherwise old tested reserved first ended second new test end integer one other a joined lowered is
      condition_code condition_is at kept reserved_spot reserved_grows one_code one_grows ends end_kept end_grows other_code other_grows meets meets_grows =
      subst (λ v. ValueLowers source scope mode v old new lowered) (sym is) (
        λ points fills.
            let end_still = other_grows.stands end M.Reserved end_kept in
            let fills_second = fills_but table second new end points end_still meets_grows fills in
            let fills_ended = fills_grown table ended second points other_grows fills_second in
            let test_still = one_grows.stands test M.Reserved kept in
            let fills_first = fills_but table first ended test points test_still end_grows fills_ended in
            let fills_reserved = fills_grown table reserved first points one_grows fills_first in
            let fills_tested = fills_grown table tested reserved points reserved_grows fills_reserved in
            let condition_there = subst (λ l. code_here points condition (spot_of table old) (spot_of table tested) l) (condition_is table) (condition_code.0 points fills_tested) in
            let one_there = subst (λ spot. code_here points taken spot (spot_of table first) (lowered_in table one)) (reserved_spot table) (one_code.0 points fills_first) in
            let ended_there = ends table points fills_ended in
            let met = meets table points fills in
            let other_there = subst (λ spot. code_here points otherwise spot (spot_of table second) (lowered_in table other)) ended_there.3 (other_code.0 points fills_second) in
            let branch = subst (λ n. HasOp points n (C.Branch a.int_type (tree_of a.tree.value) (suc n) (suc ended_there.0.at))) at ended_there.4 in (
              spot_of table tested,
              spot_of table first,
              ended_there.0,
              spot_of table second,
              tree_of a.tree.value,
              a.int_type,
              lowered_in table one,
              lowered_in table other,
              condition_there,
              branch,
              one_there,
              subst (λ l. Joins points (lowered_in table one) (spot_of table first) ended_there.0 l) (sym met.2) ended_there.1,
              subst (λ n. HasOp points n (C.Jump (length new.points.items))) ended_there.2 met.1,
              other_there,
              subst (λ l. JoinsWith points l (lowered_in table other) (spot_of table second) (spot_of table new)) (sym met.2) met.0,
            ),
        joined_holds one lowered joined (λ any. spot_of any first) (λ any. (ends any (points_in any ended) (fills_same (points_in any ended))).0) (λ any. points_in any ended)
            (λ any. (ends any (points_in any ended) (fills_same (points_in any ended))).1)
            (λ any. (meets any (points_in any new) (fills_same (points_in any new))).2) table one_code.1,
      )
