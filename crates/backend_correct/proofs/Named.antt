-- How many registers a point names, and the parts of forms that are made of points: few, and no local in memory.
use Rattle.std.proofs.Common.{◌≡◌, ℕ, suc, ◌+◌, ◌*◌, ◌≤◌, ◌<◌, Bool, true, false, ◌&&◌, not, List, Option, Some, None, refl, ap, subst, ◌∙◌, arith}
use Rattle.c_num.specs.declared.IntType.{IntType}
use Rattle.c_typed.specs.declared.typed.Stepping.{Stepping}
use Rattle.c_typed.specs.declared.typed.Stepping.TheVariants as Steppings
use Rattle.c_typed.specs.Types.{CType, Void, Integer, Pointer, Array, Struct, Function}
use Rattle.tac_ir.specs.declared.program.Counts.{Counts}
use Rattle.tac_ir.specs.declared.register.Local.{Local}
use Rattle.tac_ir.specs.declared.register.Register.{Register}
use Rattle.tac_ir.specs.declared.register.Register.TheVariants as R
use Rattle.tac_ir.specs.Code.{Tree, Held, Path, Callee, Known, Through, Op}
use Rattle.tac_build.specs.Homes.{Home}
use Rattle.tac_build.specs.Spots.{Spot, behind, with_variable, with_call, with_argument, with_expression, with_temporary, temporary, Lowered, AsInteger, AsPointer, AsObject, AsNothing, Mode, Kept, Dropped, Behind, Row}
use Rattle.tac_build.specs.Code.{PartCode, gives_old, step_tree, KeepsTree, ReadsLocal, Loads, Writes, WritesLocal, Stores, Joins, JoinsWith, Decays, TakesAddress, Addresses, StepsLocal, StepsObject, Indexes, ReadCode, MovedCode, AssignCode, CompoundCode, PointerCode, SteppingCode, LogicalCode}

-- how many registers beside parameters are named
unfoldable pub named : Counts → ℕ
named counts = counts.variables + counts.calls + counts.arguments + counts.expressions + counts.temporaries

-- From a spot to a spot at most so many are named, less a number, and no local is placed in memory.
pub record Names (most less : ℕ) (from to : Spot) : Type 0 where
  pub count : named to.counts + less ≤ named from.counts + most
  pub objects : to.objects ≡ from.objects

-- Code of a tree with so many nodes names fewer than two registers for each.
abbrev pub Fewer : ℕ → Spot → Spot → Type 0
Fewer nodes from to = Names (2 * nodes) 1 from to

pub names_then : {a b c d : ℕ} {from mid to : Spot} → Names a c from mid → Names b d mid to → Names (a + b) (c + d) from to
names_then one other = record { count = omega (arith, one.count, other.count); objects = other.objects ∙ one.objects }

pub loosened : {a c : ℕ} (b d : ℕ) {from to : Spot} → a + d ≤ b + c → Names a c from to → Names b d from to
loosened b d less one = record { count = omega (arith, one.count, less); objects = one.objects }

pub at_most : {a : ℕ} (b : ℕ) {from to : Spot} → a ≤ b → Names a 0 from to → Names b 0 from to
at_most b less one = record { count = omega (arith, one.count, less); objects = one.objects }

pub fewer : {most less : ℕ} (nodes : ℕ) {from to : Spot} → most < 2 * nodes + less → Names most less from to → Fewer nodes from to
fewer nodes less one = record { count = omega (arith, one.count, less); objects = one.objects }

-- ---- points

pub stays : {from to : Spot} → to ≡ from → Names 0 0 from to
stays {from} same = let more = ap (λ (spot : Spot). named spot.counts) same in record { count = omega (arith, more); objects = ap (λ (spot : Spot). spot.objects) same }

pub point : {from to : Spot} → to ≡ behind from → Names 0 0 from to
point {from} same = let more = ap (λ (spot : Spot). named spot.counts) same in record { count = omega (arith, more); objects = ap (λ (spot : Spot). spot.objects) same }

module _ (spot : Spot) where
  more_variables : named (with_variable spot).counts ≡ suc (named spot.counts)
  unfolding named
  more_variables = omega arith

  more_calls : named (with_call spot).counts ≡ suc (named spot.counts)
  unfolding named
  more_calls = omega arith

  more_arguments : named (with_argument spot).counts ≡ suc (named spot.counts)
  unfolding named
  more_arguments = omega arith

  more_expressions : named (with_expression spot).counts ≡ suc (named spot.counts)
  unfolding named
  more_expressions = omega arith

  more_temporaries : named (with_temporary spot).counts ≡ suc (named spot.counts)
  unfolding named
  more_temporaries = omega arith

pub names_variable : (from : Spot) → Names 1 0 from (with_variable from)
names_variable from = record { count = omega (arith, more_variables from); objects = refl }

pub names_call : (from : Spot) → Names 1 0 from (with_call from)
names_call from = record { count = omega (arith, more_calls from); objects = refl }

pub names_argument : (from : Spot) → Names 1 0 from (with_argument from)
names_argument from = record { count = omega (arith, more_arguments from); objects = refl }

pub names_temporary : (from : Spot) → Names 1 0 from (with_temporary from)
names_temporary from = record { count = omega (arith, more_temporaries from); objects = refl }

names_expression : (from : Spot) → Names 1 0 from (with_expression from)
names_expression from = record { count = omega (arith, more_expressions from); objects = refl }

pub gives_integer : {from to : Spot} → to ≡ behind (with_temporary from) → Names 1 0 from to
gives_integer {from} same = names_then (names_temporary from) (point same)

pub gives_pointer : {from to : Spot} → to ≡ behind (with_expression from) → Names 1 0 from to
gives_pointer {from} same = names_then (names_expression from) (point same)

-- ---- parts

module _ (points : List Op) where
  pub keeps_names : (follows : Bool) (tree kept : Tree) (from to : Spot) → KeepsTree points follows tree from to kept → Names 1 0 from to
  keeps_names false tree kept from to code = at_most 1 (omega arith) (stays code.0)
  keeps_names true tree kept from to code = gives_integer code.1

  reads_names : (local : Local) (is_object : Bool) (own : CType) (from to : Spot) (lowered : Lowered) → ReadsLocal points (record { local = local; is_object = is_object; c_type = own }) from to lowered → Names 1 0 from to
  reads_names local is_object (Integer int_type) from to lowered code = at_most 1 (omega arith) (stays code.0)
  reads_names local is_object (Pointer target) from to lowered code = gives_pointer code.1
  reads_names local is_object Void from to lowered code = absurd code
  reads_names local is_object (Array element count) from to lowered code = absurd code
  reads_names local is_object (Struct tag) from to lowered code = absurd code
  reads_names local is_object (Function result parameters) from to lowered code = absurd code

  loads_names : (own : CType) (path : Path) (from to : Spot) (lowered : Lowered) → Loads points own path from to lowered → Names 1 0 from to
  loads_names (Integer int_type) path from to lowered code = gives_integer code.1
  loads_names (Pointer target) path from to lowered code = gives_pointer code.1
  loads_names Void path from to lowered code = absurd code
  loads_names (Array element count) path from to lowered code = absurd code
  loads_names (Struct tag) path from to lowered code = absurd code
  loads_names (Function result parameters) path from to lowered code = absurd code

  pub writes_names : (register : Register) (given : Lowered) (from to : Spot) → Writes points register given from to → Names 0 0 from to
  writes_names register (AsInteger own tree) from to code = point code.1
  writes_names register (AsPointer pointer target) from to code = point code.1
  writes_names register (AsObject path own) from to code = absurd code
  writes_names register AsNothing from to code = absurd code

  stores_names : (used : Bool) (given : Lowered) (path : Path) (own : CType) (from to : Spot) (lowered : Lowered) → Stores points used path own given from to lowered → Names 1 0 from to
  stores_names true (AsInteger int_type tree) path own from to lowered code = names_then (names_temporary from) (names_then (point {to = behind (with_temporary from)} refl) (point code.1.1))
  stores_names false (AsInteger int_type tree) path own from to lowered code = at_most 1 (omega arith) (point code.0.1)
  stores_names true (AsPointer pointer target) path own from to lowered code = at_most 1 (omega arith) (point code.0.1)
  stores_names false (AsPointer pointer target) path own from to lowered code = at_most 1 (omega arith) (point code.0.1)
  stores_names true (AsObject p c) path own from to lowered code = absurd code
  stores_names false (AsObject p c) path own from to lowered code = absurd code
  stores_names true AsNothing path own from to lowered code = absurd code
  stores_names false AsNothing path own from to lowered code = absurd code

  pub joins_names : (one : Lowered) (from to : Spot) (lowered : Lowered) → Joins points one from to lowered → Names 1 0 from to
  joins_names (AsInteger own tree) from to lowered code = gives_integer code.1
  joins_names (AsPointer pointer target) from to lowered code = gives_pointer code.1
  joins_names (AsObject path own) from to lowered code = absurd code
  joins_names AsNothing from to lowered code = at_most 1 (omega arith) (stays code.0)

  pub joins_with_names : (joined other : Lowered) (from to : Spot) → JoinsWith points joined other from to → Names 0 0 from to
  joins_with_names (AsInteger own (Held register)) (AsInteger int_type tree) from to code = point code.1
  joins_with_names (AsPointer register target) (AsPointer pointer other) from to code = point code.1
  joins_with_names AsNothing AsNothing from to code = stays code
  joins_with_names joined other from to code = absurd code

  pub decays_names : (mode : Mode) (path : Path) (element : CType) (count : ℕ) (from to : Spot) (lowered : Lowered) → Decays points mode path element count from to lowered → Names 1 0 from to
  decays_names Kept path element count from to lowered code = gives_pointer code.1
  decays_names Dropped path element count from to lowered code = gives_pointer code.1
  decays_names (Behind followed) path element count from to lowered code = at_most 1 (omega arith) (stays code.0)
  decays_names (Row followed) path element count from to lowered code = at_most 1 (omega arith) (stays code.0)

  pub takes_names : (mode : Mode) (found : Lowered) (from to : Spot) (lowered : Lowered) → TakesAddress points mode found from to lowered → Names 1 0 from to
  takes_names (Behind followed) found from to lowered code = at_most 1 (omega arith) (stays code.0)
  takes_names Kept (AsObject path own) from to lowered code = gives_pointer code.1
  takes_names Dropped (AsObject path own) from to lowered code = gives_pointer code.1
  takes_names (Row followed) (AsObject path own) from to lowered code = gives_pointer code.1
  takes_names Kept (AsPointer pointer target) from to lowered code = at_most 1 (omega arith) (stays code.0)
  takes_names Dropped (AsPointer pointer target) from to lowered code = at_most 1 (omega arith) (stays code.0)
  takes_names (Row followed) (AsPointer pointer target) from to lowered code = at_most 1 (omega arith) (stays code.0)
  takes_names Kept (AsInteger own tree) from to lowered code = at_most 1 (omega arith) (stays code.0)
  takes_names Dropped (AsInteger own tree) from to lowered code = at_most 1 (omega arith) (stays code.0)
  takes_names (Row followed) (AsInteger own tree) from to lowered code = at_most 1 (omega arith) (stays code.0)
  takes_names Kept AsNothing from to lowered code = at_most 1 (omega arith) (stays code.0)
  takes_names Dropped AsNothing from to lowered code = at_most 1 (omega arith) (stays code.0)
  takes_names (Row followed) AsNothing from to lowered code = at_most 1 (omega arith) (stays code.0)

  pub addresses_names : (callee : Callee) (own : CType) (from to : Spot) (lowered : Lowered) → Addresses points callee own from to lowered → Names 1 0 from to
  addresses_names (Known number) own from to lowered code = gives_pointer code.1
  addresses_names (Through pointer c_type) own from to lowered code = at_most 1 (omega arith) (stays code.0)

  pub indexes_names : (is_kept follows : Bool) (found : Lowered) (index : Tree) (from to : Spot) (lowered : Lowered) → Indexes points is_kept follows found index from to lowered → Names 1 0 from to
  indexes_names is_kept follows (AsObject path (Array element count)) index from to lowered code = keeps_names follows index code.0 from to code.1
  indexes_names false follows (AsPointer register target) index from to lowered code = keeps_names follows index code.0 from to code.1
  indexes_names true follows (AsPointer register target) index from to lowered code = gives_pointer code.1
  indexes_names is_kept follows (AsObject path Void) index from to lowered code = absurd code
  indexes_names is_kept follows (AsObject path (Integer own)) index from to lowered code = absurd code
  indexes_names is_kept follows (AsObject path (Pointer target)) index from to lowered code = absurd code
  indexes_names is_kept follows (AsObject path (Struct tag)) index from to lowered code = absurd code
  indexes_names is_kept follows (AsObject path (Function result parameters)) index from to lowered code = absurd code
  indexes_names is_kept follows (AsInteger own tree) index from to lowered code = absurd code
  indexes_names is_kept follows AsNothing index from to lowered code = absurd code

  steps_names : (home : Home) (is_minus : Bool) (number : Tree) (from to : Spot) (old new : Lowered) → StepsLocal points home is_minus number from to old new → Names 2 0 from to
  steps_names home is_minus number from to old new code =
      at_most 2 (omega arith) (names_then (reads_names home.local home.is_object home.c_type from code.0 old code.4) (names_then (gives_pointer code.6.1) (writes_names (R.Local home.local) new code.1 to code.7)))

  steps_object_names : (path : Path) (own : CType) (is_minus : Bool) (number : Tree) (from to : Spot) (old new : Lowered) → StepsObject points path own is_minus number from to old new → Names 2 0 from to
  steps_object_names path own is_minus number from to old new code =
      let stored = subst (λ given. Stores points false path own given code.1 to given) code.6.2 code.7 in
      at_most 2 (omega arith) (names_then (loads_names own path from code.0 old code.4) (names_then (gives_pointer code.6.1) (point stored.0.1)))

  -- ---- forms over the code of their parts

  -- the code of a part of a tree with so many nodes
  abbrev pub Few : ℕ → PartCode → Type 0
  Few nodes part = (from to : Spot) (lowered : Lowered) → part from to lowered → Fewer nodes from to

  pub read_names : (home : Option Home) (nodes : ℕ) (object : PartCode) → Few nodes object → (from to : Spot) (lowered : Lowered) → ReadCode points home object from to lowered → Fewer (suc nodes) from to
  read_names (Some home) nodes object few from to lowered code = fewer (suc nodes) (omega arith) (reads_names home.local home.is_object home.c_type from to lowered code)
  read_names None nodes object few from to lowered code =
      fewer (suc nodes) (omega arith) (names_then ((few from code.0 (AsObject code.1 code.2) code.3)) (loads_names code.2 code.1 code.0 to lowered code.4))

  pub moved_names : (is_minus : Bool) (a b : ℕ) (pointer number : PartCode) → Few a pointer → Few b number → (from to : Spot) (lowered : Lowered) → MovedCode points is_minus pointer number from to lowered → Fewer (suc (a + b)) from to
  moved_names is_minus a b pointer number one other from to lowered code =
      fewer (suc (a + b)) (omega arith)
      (names_then ((one from code.0 (AsPointer code.2 code.3) code.6)) (names_then ((other code.0 code.1 (AsInteger code.4 code.5) code.7)) (gives_pointer code.8.1)))

  writes_local_names : (given : Lowered) (home : Home) (from to : Spot) (lowered : Lowered) → WritesLocal points home given from to lowered → Names 0 0 from to
  writes_local_names given home from to lowered code = writes_names (R.Local home.local) given from to code.0

  pub assign_names : (used : Bool) (home : Option Home) (a b : ℕ) (object value : PartCode) → Few a object → Few b value → (from to : Spot) (lowered : Lowered) → AssignCode points used home object value from to lowered
      → Fewer (suc (a + b)) from to
  assign_names used (Some home) a b object value one other from to lowered code =
      fewer (suc (a + b)) (omega arith) (names_then ((other from code.0 code.1 code.2)) (writes_local_names code.1 home code.0 to lowered code.3))
  assign_names used None a b object value one other from to lowered code =
      fewer (suc (a + b)) (omega arith)
      (names_then ((one from code.0 (AsObject code.2 code.3) code.5)) (names_then ((other code.0 code.1 code.4 code.6)) (stores_names used code.4 code.2 code.3 code.1 to lowered code.7)))

  pub compound_names : (used : Bool) (home : Option Home) (a b : ℕ) (object operand : PartCode) (own : IntType) (new : Register → Tree → Tree) → Few a object → Few b operand → (from to : Spot) (lowered : Lowered)
      → CompoundCode points used home object operand own new from to lowered → Fewer (suc (a + b)) from to
  compound_names used (Some home) a b object operand own new one other from to lowered code =
      fewer (suc (a + b)) (omega arith) (names_then ((other from code.0 (AsInteger code.1 code.2) code.3)) (point code.4.1))
  compound_names used None a b object operand own new one other from to lowered code =
      fewer (suc (a + b)) (omega arith)
      (names_then ((one from code.0 (AsObject code.2 code.3) code.6)) (names_then ((other code.0 code.1 (AsInteger code.4 code.5) code.7))
      (names_then (gives_integer {to = behind (with_temporary code.1)} refl) (stores_names used (AsInteger own (new (temporary code.1) code.5)) code.2 code.3 (behind (with_temporary code.1)) to lowered code.9))))

  -- where the number names at most so many
  pub pointer_names : (home : Option Home) (is_minus : Bool) (a most less : ℕ) (object number : PartCode) → 1 ≤ a → Few a object → ((from to : Spot) (lowered : Lowered) → number from to lowered → Names most less from to)
      → (from to : Spot) (old new : Lowered) → PointerCode points home object is_minus number from to old new → Names (2 * a + most + 1) less from to
  pointer_names (Some home) is_minus a most less object number some one other from to old new code =
      loosened (2 * a + most + 1) less (omega (arith, some)) (names_then (other from code.0 (AsInteger code.1 code.2) code.3) (steps_names home is_minus code.2 code.0 to old new code.4))
  pointer_names None is_minus a most less object number some one other from to old new code =
      loosened (2 * a + most + 1) less (omega (arith, some))
      (names_then ((one from code.0 (AsObject code.2 code.3) code.6)) (names_then (other code.0 code.1 (AsInteger code.4 code.5) code.7) (steps_object_names code.2 code.3 is_minus code.5 code.1 to old new code.8)))

  pub stepping_names : (used : Bool) (stepping : Stepping) (own : IntType) (home : Option Home) (a : ℕ) (object : PartCode) → Few a object → (from to : Spot) (lowered : Lowered)
      → SteppingCode points used stepping own home object from to lowered → Fewer (suc a) from to
  stepping_names false stepping own (Some home) a object one from to lowered code = fewer (suc a) (omega arith) (point code.0.1)
  stepping_names true Steppings.PreIncrement own (Some home) a object one from to lowered code = fewer (suc a) (omega arith) (point code.0.1)
  stepping_names true Steppings.PreDecrement own (Some home) a object one from to lowered code = fewer (suc a) (omega arith) (point code.0.1)
  stepping_names true Steppings.PostIncrement own (Some home) a object one from to lowered code =
      fewer (suc a) (omega arith) (names_then (gives_integer {to = behind (with_temporary from)} refl) (point code.1.1))
  stepping_names true Steppings.PostDecrement own (Some home) a object one from to lowered code =
      fewer (suc a) (omega arith) (names_then (gives_integer {to = behind (with_temporary from)} refl) (point code.1.1))
  stepping_names used stepping own None a object one from to lowered code =
      fewer (suc a) (omega arith)
      (names_then ((one from code.0 (AsObject code.1 code.2) code.4)) (names_then (gives_integer {to = behind (with_temporary code.0)} refl)
      (stores_names (used && not (gives_old stepping)) (AsInteger own (step_tree stepping own (temporary code.0))) code.1 code.2 (behind (with_temporary code.0)) to code.3 code.6)))

  pub logical_names : (is_and : Bool) (a b : ℕ) (left right : PartCode) → Few a left → Few b right → (from to : Spot) (lowered : Lowered) → LogicalCode points is_and left right from to lowered → Fewer (suc (a + b)) from to
  logical_names is_and a b left right one other from to lowered code =
      fewer (suc (a + b)) (omega arith)
      (names_then (names_temporary from) (names_then ((one (with_temporary from) code.0 (AsInteger code.4 code.2) code.6)) (names_then (point {to = behind code.0} refl)
      (names_then ((other (behind code.0) code.1 (AsInteger code.5 code.3) code.8)) (names_then (point {to = behind code.1} refl) (names_then (point {to = behind (behind code.1)} refl) (point code.11.1)))))))
