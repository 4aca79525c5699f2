-- The code of an expression only names registers that are there: its own, and locals.
use Rattle.std.proofs.Common.{◌≡◌, ℕ, ◌<◌, Bool, true, false, not, ◌&&◌, ◌||◌, if◌then◌else◌, List, Option, Some, None, pos, sym, subst, arith}
use Rattle.c_num.specs.declared.IntType.{IntType}
use Rattle.c_num.specs.declared.IntType.TheVariants as I
use Rattle.c_typed.specs.declared.typed.LibraryFunction.{LibraryFunction}
use Rattle.c_typed.specs.declared.typed.LibraryFunction.TheVariants as L
use Rattle.c_typed.specs.declared.typed.Stepping.{Stepping}
use Rattle.c_typed.specs.declared.typed.Stepping.TheVariants as Steppings
use Rattle.c_typed.specs.Types.{CType, Void, Integer, Pointer, Array, Struct, Function}
use Rattle.c_typed.specs.Typed as T
use Rattle.c_typed.specs.Typed.{Program, Value, Values, Object, Designator}
use Rattle.tac_ir.specs.declared.program.Counts.{Counts}
use Rattle.tac_ir.specs.declared.register.Local.{Local}
use Rattle.tac_ir.specs.declared.register.Register.{Register}
use Rattle.tac_ir.specs.declared.register.Register.TheVariants as R
use Rattle.tac_ir.specs.Code.{Tree, Constant, Held, Member, Element, Path, Callee, Known, Through, Op}
use Rattle.tac_build.specs.Homes.{Home, Scope, register_home, is_pure}
use Rattle.tac_build.specs.Spots.{Spot, behind, with_call, with_argument, with_expression, with_temporary, argument, expression, temporary, Lowered, AsInteger, AsPointer, AsObject, AsNothing, Mode, Kept, Dropped, Behind, Row, is_used, is_followed, is_address, cast_mode, pointed_mode}
use Rattle.tac_build.specs.Code.{PartCode, compound_tree, step_tree, gives_old, is_up, pointed_by, call_gives, ReadsLocal, Loads, KeepsTree, Writes, WritesLocal, Stores, Joins, JoinsWith, Decays, TakesAddress, Addresses, StepsLocal, StepsObject, Indexes, ReadCode, MovedCode, AssignCode, CompoundCode, PointerCode, OneCode, SteppingCode, LogicalCode, ValueCode, LibraryCode, ArgumentsCode, DesignatorCode, ObjectCode}
use Rattle.tac_build.specs.Forms.{IsBefore, IsNamed, TreeNamed, PathNamed, LoweredNamed, CalleeNamed, RegistersNamed, SpotGrows, Names}
use Rattle.tac_build.proofs.Naming.{stays, grows_then, behind_grows, call_grows, argument_grows, expression_grows, temporary_grows, path_then, tree_later, lowered_later, grows_to, names_as, names_to, names_after, names_later}

-- ---- one point

temporary_new : (spot : Spot) (own : IntType) → Names spot (behind (with_temporary spot)) (AsInteger own (Held (temporary spot)))
temporary_new spot own = record { grows = grows_then (temporary_grows spot) (behind_grows (with_temporary spot)); named = omega arith }

expression_new : (spot : Spot) (target : CType) → Names spot (behind (with_expression spot)) (AsPointer (expression spot) target)
expression_new spot target = record { grows = grows_then (expression_grows spot) (behind_grows (with_expression spot)); named = omega arith }

pub gives_integer : {from to : Spot} {own : IntType} {lowered : Lowered} → to ≡ behind (with_temporary from) → lowered ≡ AsInteger own (Held (temporary from)) → Names from to lowered
gives_integer {from = from} {own = own} at is = names_to at is (temporary_new from own)

pub gives_pointer : {from to : Spot} {target : CType} {lowered : Lowered} → to ≡ behind (with_expression from) → lowered ≡ AsPointer (expression from) target → Names from to lowered
gives_pointer {from = from} {target = target} at is = names_to at is (expression_new from target)

emits_grows : {from to : Spot} → to ≡ behind from → SpotGrows from to
emits_grows {from = from} at = grows_to at (behind_grows from)

-- nothing is added
adds_none : {from to : Spot} {lowered other : Lowered} → to ≡ from → lowered ≡ other → LoweredNamed from.counts other → Names from to lowered
adds_none {from = from} at is named = names_to at is (record { grows = stays from; named = named })

-- other code comes to the same names
names_from : {from to : Spot} {lowered given other : Lowered} → lowered ≡ other → Names from to given → LoweredNamed to.counts other → Names from to lowered
names_from is names named = names_as is (record { grows = names.grows; named = named })

names_with : {from to : Spot} {lowered other : Lowered} → SpotGrows from to → lowered ≡ other → LoweredNamed to.counts other → Names from to lowered
names_with grows is named = names_as is (record { grows = grows; named = named })

-- ---- parts

-- what is told of a part
abbrev PartNames : PartCode → Type 0
PartNames part = (from to : Spot) (lowered : Lowered) → part from to lowered → Names from to lowered

module _ (points : List Op) where
  keeps_grows : (follows : Bool) (tree kept : Tree) (from to : Spot) → TreeNamed from.counts tree → KeepsTree points follows tree from to kept → SpotGrows from to × TreeNamed to.counts kept
  keeps_grows false tree kept from to named code = (grows_to code.0 (stays from), subst (λ spot. TreeNamed spot.counts kept) (sym code.0) (subst (λ t. TreeNamed from.counts t) (sym code.1) named))
  keeps_grows true tree kept from to named code =
      let new = temporary_new from I.Int in
      (grows_to code.1 new.grows, subst (λ spot. TreeNamed spot.counts kept) (sym code.1) (subst (λ t. TreeNamed (behind (with_temporary from)).counts t) (sym code.2) new.named))

  reads_named : (local : Local) (is_object : Bool) (own : CType) (from to : Spot) (lowered : Lowered) → ReadsLocal points (record { local = local; is_object = is_object; c_type = own }) from to lowered
      → Names from to lowered
  reads_named local is_object (Integer int_type) from to lowered code = adds_none code.0 code.1 tt
  reads_named local is_object (Pointer target) from to lowered code = gives_pointer code.1 code.2
  reads_named local is_object Void from to lowered code = absurd code
  reads_named local is_object (Array element count) from to lowered code = absurd code
  reads_named local is_object (Struct tag) from to lowered code = absurd code
  reads_named local is_object (Function result parameters) from to lowered code = absurd code

  loads_named : (own : CType) (path : Path) (from to : Spot) (lowered : Lowered) → Loads points own path from to lowered → Names from to lowered
  loads_named (Integer int_type) path from to lowered code = gives_integer code.1 code.2
  loads_named (Pointer target) path from to lowered code = gives_pointer code.1 code.2
  loads_named Void path from to lowered code = absurd code
  loads_named (Array element count) path from to lowered code = absurd code
  loads_named (Struct tag) path from to lowered code = absurd code
  loads_named (Function result parameters) path from to lowered code = absurd code

  read_named : (home : Option Home) (object : PartCode) (from to : Spot) (lowered : Lowered) → PartNames object → ReadCode points home object from to lowered → Names from to lowered
  read_named (Some home) object from to lowered part code = reads_named home.local home.is_object home.c_type from to lowered code
  read_named None object from to lowered part code =
      names_after (part from code.0 (AsObject code.1 code.2) code.3).grows (loads_named code.2 code.1 code.0 to lowered code.4)

  writes_grows : (given : Lowered) (register : Register) (from to : Spot) → Writes points register given from to → SpotGrows from to
  writes_grows (AsInteger own tree) register from to code = emits_grows code.1
  writes_grows (AsPointer pointer target) register from to code = emits_grows code.1
  writes_grows (AsObject path own) register from to code = absurd code
  writes_grows AsNothing register from to code = absurd code

  writes_named : (given : Lowered) (home : Home) (from to : Spot) (lowered : Lowered) → LoweredNamed from.counts given → WritesLocal points home given from to lowered → Names from to lowered
  writes_named (AsInteger own tree) home from to lowered named code = names_with (emits_grows code.0.1) code.1 tt
  writes_named (AsPointer pointer target) home from to lowered named code =
      let grows : SpotGrows from to = emits_grows code.0.1 in names_with grows code.1 (lowered_later grows (AsPointer pointer target) named)
  writes_named (AsObject path own) home from to lowered named code = absurd code.0
  writes_named AsNothing home from to lowered named code = absurd code.0

  stores_named : (used : Bool) (given : Lowered) (path : Path) (own : CType) (from to : Spot) (lowered : Lowered) → LoweredNamed from.counts given → Stores points used path own given from to lowered
      → Names from to lowered
  stores_named true (AsInteger int_type tree) path own from to lowered named code =
      names_as code.2 (names_later (temporary_new from int_type) (emits_grows code.1.1))
  stores_named false (AsInteger int_type tree) path own from to lowered named code = names_with (emits_grows code.0.1) code.1 tt
  stores_named true (AsPointer pointer target) path own from to lowered named code =
      let grows : SpotGrows from to = emits_grows code.0.1 in names_with grows code.1 (lowered_later grows (AsPointer pointer target) named)
  stores_named false (AsPointer pointer target) path own from to lowered named code =
      let grows : SpotGrows from to = emits_grows code.0.1 in names_with grows code.1 (lowered_later grows (AsPointer pointer target) named)
  stores_named true (AsObject p c) path own from to lowered named code = absurd code
  stores_named false (AsObject p c) path own from to lowered named code = absurd code
  stores_named true AsNothing path own from to lowered named code = absurd code
  stores_named false AsNothing path own from to lowered named code = absurd code

  joins_named : (one : Lowered) (from to : Spot) (lowered : Lowered) → Joins points one from to lowered → Names from to lowered
  joins_named (AsInteger own tree) from to lowered code = gives_integer code.1 code.2
  joins_named (AsPointer pointer target) from to lowered code = gives_pointer code.1 code.2
  joins_named (AsObject path own) from to lowered code = absurd code
  joins_named AsNothing from to lowered code = adds_none code.0 code.1 tt

  joins_with : (lowered other : Lowered) (from to : Spot) → JoinsWith points lowered other from to → SpotGrows from to
  joins_with (AsInteger own (Held register)) (AsInteger int_type tree) from to code = emits_grows code.1
  joins_with (AsPointer register target) (AsPointer pointer own) from to code = emits_grows code.1
  joins_with AsNothing AsNothing from to code = grows_to code (stays from)
  joins_with lowered other from to code = absurd code

  decays_named : (mode : Mode) (path : Path) (element : CType) (count : ℕ) (from to : Spot) (lowered : Lowered) → PathNamed from.counts path → Decays points mode path element count from to lowered
      → Names from to lowered
  decays_named Kept path element count from to lowered named code = gives_pointer code.1 code.2
  decays_named Dropped path element count from to lowered named code = gives_pointer code.1 code.2
  decays_named (Behind followed) path element count from to lowered named code =
      adds_none code.0 code.1 (path_then (IsBefore from.counts) (IsNamed from.counts) path (Element (Constant (pos 0))) named tt)
  decays_named (Row followed) path element count from to lowered named code = adds_none code.0 code.1 named

  takes_named : (mode : Mode) (found : Lowered) (from to : Spot) (lowered : Lowered) → LoweredNamed from.counts found → TakesAddress points mode found from to lowered → Names from to lowered
  takes_named (Behind followed) found from to lowered named code = adds_none code.0 code.1 named
  takes_named Kept (AsObject path own) from to lowered named code = gives_pointer code.1 code.2
  takes_named Dropped (AsObject path own) from to lowered named code = gives_pointer code.1 code.2
  takes_named (Row followed) (AsObject path own) from to lowered named code = gives_pointer code.1 code.2
  takes_named Kept (AsPointer pointer target) from to lowered named code = adds_none code.0 code.1 named
  takes_named Dropped (AsPointer pointer target) from to lowered named code = adds_none code.0 code.1 named
  takes_named (Row followed) (AsPointer pointer target) from to lowered named code = adds_none code.0 code.1 named
  takes_named Kept (AsInteger own tree) from to lowered named code = adds_none code.0 code.1 named
  takes_named Dropped (AsInteger own tree) from to lowered named code = adds_none code.0 code.1 named
  takes_named (Row followed) (AsInteger own tree) from to lowered named code = adds_none code.0 code.1 named
  takes_named Kept AsNothing from to lowered named code = adds_none code.0 code.1 tt
  takes_named Dropped AsNothing from to lowered named code = adds_none code.0 code.1 tt
  takes_named (Row followed) AsNothing from to lowered named code = adds_none code.0 code.1 tt

  addresses_named : (callee : Callee) (own : CType) (from to : Spot) (lowered : Lowered) → CalleeNamed from.counts callee → Addresses points callee own from to lowered → Names from to lowered
  addresses_named (Known number) own from to lowered named code = gives_pointer code.1 code.2
  addresses_named (Through pointer c_type) own from to lowered named code = adds_none code.0 code.1 named

  steps_local_named : (home : Home) (is_minus : Bool) (number : Tree) (from to : Spot) (old new : Lowered) → StepsLocal points home is_minus number from to old new → Names from to old × Names from to new
  steps_local_named home is_minus number from to old new code =
      let first : Names from code.0 old = reads_named home.local home.is_object home.c_type from code.0 old code.4 in
      let second : Names code.0 code.1 new = gives_pointer code.6.1 code.6.2 in
      let third : SpotGrows code.1 to = writes_grows new (R.Local home.local) code.1 to code.7 in
      (names_later first (grows_then second.grows third), names_after first.grows (names_later second third))

  steps_object_named : (path : Path) (own : CType) (is_minus : Bool) (number : Tree) (from to : Spot) (old new : Lowered) → StepsObject points path own is_minus number from to old new
      → Names from to old × Names from to new
  steps_object_named path own is_minus number from to old new code =
      let first : Names from code.0 old = loads_named own path from code.0 old code.4 in
      let second : Names code.0 code.1 new = gives_pointer code.6.1 code.6.2 in
      let third : SpotGrows code.1 to = (stores_named false new path own code.1 to new second.named code.7).grows in
      (names_later first (grows_then second.grows third), names_after first.grows (names_later second third))

  pointer_named : (home : Option Home) (object number : PartCode) (is_minus : Bool) (from to : Spot) (old new : Lowered) → PartNames object → PartNames number
      → PointerCode points home object is_minus number from to old new → Names from to old × Names from to new
  pointer_named (Some home) object number is_minus from to old new part amount code =
      let first = (amount from code.0 (AsInteger code.1 code.2) code.3).grows in
      let both = steps_local_named home is_minus code.2 code.0 to old new code.4 in
      (names_after first both.0, names_after first both.1)
  pointer_named None object number is_minus from to old new part amount code =
      let first = (part from code.0 (AsObject code.2 code.3) code.6).grows in
      let second = (amount code.0 code.1 (AsInteger code.4 code.5) code.7).grows in
      let both = steps_object_named code.2 code.3 is_minus code.5 code.1 to old new code.8 in
      (names_after (grows_then first second) both.0, names_after (grows_then first second) both.1)

  old_or_new : (b : Bool) (from to : Spot) (old new lowered : Lowered) → Names from to old × Names from to new → lowered ≡ (if b then old else new) → Names from to lowered
  old_or_new true from to old new lowered both is = names_as is both.0
  old_or_new false from to old new lowered both is = names_as is both.1

  one_named : PartNames (OneCode points)
  one_named from to lowered code = adds_none code.0 code.1 tt

  indexes_named : (is_kept followed : Bool) (found : Lowered) (index : Tree) (from to : Spot) (lowered : Lowered) → LoweredNamed from.counts found → TreeNamed from.counts index
      → Indexes points is_kept followed found index from to lowered → Names from to lowered
  indexes_named is_kept followed (AsObject path (Array element count)) index from to lowered named inner code =
      let kept = keeps_grows followed index code.0 from to inner code.1 in
      names_with kept.0 code.2 (path_then (IsBefore to.counts) (IsNamed to.counts) path (Element code.0) (lowered_later kept.0 (AsObject path (Array element count)) named) kept.1)
  indexes_named false followed (AsPointer register target) index from to lowered named inner code =
      let kept = keeps_grows followed index code.0 from to inner code.1 in
      names_with kept.0 code.2 ((lowered_later kept.0 (AsPointer register target) named, kept.1), tt)
  indexes_named true followed (AsPointer register target) index from to lowered named inner code = gives_pointer code.1 code.2
  indexes_named is_kept followed (AsObject path Void) index from to lowered named inner code = absurd code
  indexes_named is_kept followed (AsObject path (Integer own)) index from to lowered named inner code = absurd code
  indexes_named is_kept followed (AsObject path (Pointer target)) index from to lowered named inner code = absurd code
  indexes_named is_kept followed (AsObject path (Struct tag)) index from to lowered named inner code = absurd code
  indexes_named is_kept followed (AsObject path (Function result parameters)) index from to lowered named inner code = absurd code
  indexes_named is_kept followed (AsInteger own tree) index from to lowered named inner code = absurd code
  indexes_named is_kept followed AsNothing index from to lowered named inner code = absurd code

  moved_named : (is_minus : Bool) (pointer number : PartCode) (from to : Spot) (lowered : Lowered) → PartNames pointer → PartNames number → MovedCode points is_minus pointer number from to lowered
      → Names from to lowered
  moved_named is_minus pointer number from to lowered part amount code =
      names_after (grows_then (part from code.0 (AsPointer code.2 code.3) code.6).grows (amount code.0 code.1 (AsInteger code.4 code.5) code.7).grows) (gives_pointer code.8.1 code.8.2)

  assign_named : (used : Bool) (home : Option Home) (object value : PartCode) (from to : Spot) (lowered : Lowered) → PartNames object → PartNames value
      → AssignCode points used home object value from to lowered → Names from to lowered
  assign_named used (Some home) object value from to lowered part given code =
      let first = given from code.0 code.1 code.2 in
      names_after first.grows (writes_named code.1 home code.0 to lowered first.named code.3)
  assign_named used None object value from to lowered part given code =
      let first = part from code.0 (AsObject code.2 code.3) code.5 in
      let second = given code.0 code.1 code.4 code.6 in
      names_after (grows_then first.grows second.grows) (stores_named used code.4 code.2 code.3 code.1 to lowered second.named code.7)

  -- the trees of new values name the old one and the operand
  abbrev NewNamed : (Register → Tree → Tree) → Type 0
  NewNamed new = (counts : Counts) (register : Register) (operand : Tree) → IsNamed counts register → TreeNamed counts operand → TreeNamed counts (new register operand)

  compound_named : (used : Bool) (home : Option Home) (object operand : PartCode) (own : IntType) (new : Register → Tree → Tree) (from to : Spot) (lowered : Lowered) → PartNames object → PartNames operand
      → NewNamed new → CompoundCode points used home object operand own new from to lowered → Names from to lowered
  compound_named used (Some home) object operand own new from to lowered part given names code =
      names_with (grows_then (given from code.0 (AsInteger code.1 code.2) code.3).grows (emits_grows code.4.1)) code.5 tt
  compound_named used None object operand own new from to lowered part given names code =
      let first = part from code.0 (AsObject code.2 code.3) code.6 in
      let second = given code.0 code.1 (AsInteger code.4 code.5) code.7 in
      let third = temporary_new code.1 own in
      names_after (grows_then first.grows (grows_then second.grows third.grows))
      (stores_named used (AsInteger own (new (temporary code.1) code.5)) code.2 code.3 (behind (with_temporary code.1)) to lowered
      (names (behind (with_temporary code.1)).counts (temporary code.1) code.5 third.named (tree_later third.grows code.5 second.named)) code.9)

  stepping_named : (used : Bool) (stepping : Stepping) (home : Option Home) (object : PartCode) (own : IntType) (from to : Spot) (lowered : Lowered) → PartNames object
      → SteppingCode points used stepping own home object from to lowered → Names from to lowered
  stepping_named false stepping (Some home) object own from to lowered part code = names_with (emits_grows code.0.1) code.1 tt
  stepping_named true Steppings.PreIncrement (Some home) object own from to lowered part code = names_with (emits_grows code.0.1) code.1 tt
  stepping_named true Steppings.PreDecrement (Some home) object own from to lowered part code = names_with (emits_grows code.0.1) code.1 tt
  stepping_named true Steppings.PostIncrement (Some home) object own from to lowered part code = names_as code.2 (names_later (temporary_new from own) (emits_grows code.1.1))
  stepping_named true Steppings.PostDecrement (Some home) object own from to lowered part code = names_as code.2 (names_later (temporary_new from own) (emits_grows code.1.1))
  stepping_named used stepping None object own from to lowered part code =
      let first = part from code.0 (AsObject code.1 code.2) code.4 in
      let second = temporary_new code.0 own in
      let third = stores_named (used && not (gives_old stepping)) (AsInteger own (step_tree stepping own (temporary code.0))) code.1 code.2 (behind (with_temporary code.0)) to code.3 (second.named, tt) code.6 in
      names_after first.grows (old_or_new (gives_old stepping) code.0 to (AsInteger own (Held (temporary code.0))) code.3 lowered (names_later second third.grows, names_after second.grows third) code.7)

  logical_named : (is_and : Bool) (left right : PartCode) (from to : Spot) (lowered : Lowered) → PartNames left → PartNames right → LogicalCode points is_and left right from to lowered → Names from to lowered
  logical_named is_and left right from to lowered one other code =
      let new = temporary_new from I.Int in
      let first : SpotGrows (with_temporary from) code.0 = (one (with_temporary from) code.0 (AsInteger code.4 code.2) code.6).grows in
      let second : SpotGrows (behind code.0) code.1 = (other (behind code.0) code.1 (AsInteger code.5 code.3) code.8).grows in
      let last : SpotGrows code.1 to = grows_then (behind_grows code.1) (grows_then (behind_grows (behind code.1)) (emits_grows code.11.1)) in
      let rest : SpotGrows (with_temporary from) to = grows_then first (grows_then (behind_grows code.0) (grows_then second last)) in
      names_with (grows_then (temporary_grows from) rest) code.12 (tree_later rest (Held (temporary from)) new.named)

pointed_named : (is_kept : Bool) (found : Lowered) (counts : Counts) → LoweredNamed counts found → LoweredNamed counts (pointed_by is_kept found)
pointed_named true (AsInteger own tree) counts named = named
pointed_named true (AsPointer register target) counts named = named
pointed_named true (AsObject path own) counts named = named
pointed_named true AsNothing counts named = tt
pointed_named false (AsInteger own tree) counts named = named
pointed_named false (AsPointer register target) counts named = (named, tt)
pointed_named false (AsObject path own) counts named = named
pointed_named false AsNothing counts named = tt

gives_named : (is_used : Bool) (c_type : CType) (site : ℕ) (counts : Counts) → site < counts.calls → LoweredNamed counts (call_gives is_used c_type site)
gives_named true (Function (Integer own) parameters) site counts before = before
gives_named true (Function (Pointer target) parameters) site counts before = before
gives_named is_used c_type site counts before = tt

-- ---- expressions

module _ (program : Program) (points : List Op) (scope : Scope) where
  abbrev value_code : Mode → Value → PartCode
  value_code mode v = ValueCode program points scope mode v

  abbrev object_code : Bool → Object → PartCode
  object_code followed object = ObjectCode program points scope false followed object

  -- two trees, the first of which is kept where code follows
  kept_two : (follows : Bool) (own other : IntType) (a kept b : Tree) (from mid next to : Spot) → Names from mid (AsInteger own a) → KeepsTree points follows a mid next kept → Names next to (AsInteger other b)
      → SpotGrows from to × TreeNamed to.counts kept × TreeNamed to.counts b
  kept_two follows own other a kept b from mid next to first keeps second =
      let held = keeps_grows points follows a kept mid next first.named keeps in
      (grows_then first.grows (grows_then held.0 second.grows), tree_later second.grows kept held.1, second.named)

  mutual
    pub value_named : (v : Value) (mode : Mode) (from to : Spot) (lowered : Lowered) → ValueCode program points scope mode v from to lowered → Names from to lowered
    value_named (T.Constant n z) mode from to lowered code = adds_none code.0 code.1 tt
    value_named T.NullPointer mode from to lowered code = gives_pointer code.1 code.2
    value_named (T.Grouped inner) mode from to lowered code = value_named inner mode from to lowered code
    value_named (T.Read place object) mode from to lowered code =
        read_named points (register_home scope object) (object_code false object) from to lowered (object_named object false false) code
    value_named (T.Decay place object) mode from to lowered code =
        let found = object_named object false (is_followed mode) from code.0 (AsObject code.1 (Array code.2 code.3)) code.4 in
        names_after found.grows (decays_named points mode code.1 code.2 code.3 code.0 to lowered found.named code.5)
    value_named (T.FunctionValue function) mode from to lowered code =
        let found = designator_named function from code.0 code.1 code.2 code.3 in
        names_after found.0 (addresses_named points code.1 code.2 code.0 to lowered found.1 code.4)
    value_named (T.Converted n operand) mode from to lowered code =
        let one = value_named operand Kept from to (AsInteger code.0 code.1) code.2 in names_from code.3 one one.named
    value_named (T.Repointed place target operand) mode from to lowered code =
        names_after (value_named operand Kept from code.0 (AsPointer code.1 code.2) code.3).grows (gives_pointer code.4.1 code.4.2)
    value_named (T.MadeNull target operand) mode from to lowered code = names_after (value_named operand Dropped from code.0 code.1 code.2).grows (gives_pointer code.3.1 code.3.2)
    value_named (T.Tested place operand) mode from to lowered code =
        names_after (value_named operand Kept from code.0 (AsPointer code.1 code.2) code.3).grows (gives_integer code.4.1 code.4.2)
    value_named (T.Plus operand) mode from to lowered code = value_named operand Kept from to lowered code
    value_named (T.Minus place n operand) mode from to lowered code =
        let one = value_named operand Kept from to (AsInteger code.0 code.1) code.2 in names_from code.3 one (tt, one.named)
    value_named (T.Complement n operand) mode from to lowered code =
        let one = value_named operand Kept from to (AsInteger code.0 code.1) code.2 in names_from code.3 one one.named
    value_named (T.Not operand) mode from to lowered code =
        let one = value_named operand Kept from to (AsInteger code.0 code.1) code.2 in names_from code.3 one one.named
    value_named (T.Arithmetic op place n left right) mode from to lowered code =
        let both = kept_two (not (is_pure scope right)) code.5 code.6 code.2 code.3 code.4 from code.0 code.1 to
        (value_named left Kept from code.0 (AsInteger code.5 code.2) code.7) code.8 (value_named right Kept code.1 to (AsInteger code.6 code.4) code.9) in
        names_with both.0 code.10 (both.1, both.2)
    value_named (T.Compare relation left right) mode from to lowered code =
        let both = kept_two (not (is_pure scope right)) code.5 code.6 code.2 code.3 code.4 from code.0 code.1 to
        (value_named left Kept from code.0 (AsInteger code.5 code.2) code.7) code.8 (value_named right Kept code.1 to (AsInteger code.6 code.4) code.9) in
        names_with both.0 code.10 (both.1, both.2)
    value_named (T.ComparePointers relation place left right) mode from to lowered code =
        names_after (grows_then (value_named left Kept from code.0 (AsPointer code.2 code.4) code.6).grows (value_named right Kept code.0 code.1 (AsPointer code.3 code.5) code.7).grows)
        (gives_integer code.8.1 code.8.2)
    value_named (T.PointerPlus place pointer number) mode from to lowered code =
        moved_named points false (value_code Kept pointer) (value_code Kept number) from to lowered (value_named pointer Kept) (value_named number Kept) code
    value_named (T.NumberPlus place number pointer) mode from to lowered code =
        let first = value_named number Kept from code.0 (AsInteger code.5 code.3) code.8 in
        let held = keeps_grows points true code.3 code.4 code.0 code.1 first.named code.9 in
        names_after (grows_then first.grows (grows_then held.0 (value_named pointer Kept code.1 code.2 (AsPointer code.6 code.7) code.10).grows)) (gives_pointer code.11.1 code.11.2)
    value_named (T.PointerMinus place pointer number) mode from to lowered code =
        moved_named points true (value_code Kept pointer) (value_code Kept number) from to lowered (value_named pointer Kept) (value_named number Kept) code
    value_named (T.PointerDifference place left right) mode from to lowered code =
        names_after (grows_then (value_named left Kept from code.0 (AsPointer code.2 code.4) code.6).grows (value_named right Kept code.0 code.1 (AsPointer code.3 code.5) code.7).grows)
        (gives_integer code.8.1 code.8.2)
    value_named (T.And left right) mode from to lowered code =
        logical_named points true (value_code Kept left) (value_code Kept right) from to lowered (value_named left Kept) (value_named right Kept) code
    value_named (T.Or left right) mode from to lowered code =
        logical_named points false (value_code Kept left) (value_code Kept right) from to lowered (value_named left Kept) (value_named right Kept) code
    value_named (T.Conditional condition taken otherwise) mode from to lowered code =
        let tested = (value_named condition Kept from code.0 (AsInteger code.5 code.4) code.8).grows in
        let one = (value_named taken Kept (behind code.0) code.1 code.6 code.10).grows in
        let joined = joins_named points code.6 code.1 code.2 lowered code.11 in
        let other = (value_named otherwise Kept (behind code.2) code.3 code.7 code.13).grows in
        let rest = grows_then (behind_grows code.2) (grows_then other (joins_with points lowered code.7 code.3 to code.14)) in
        names_after (grows_then tested (grows_then (behind_grows code.0) one)) (names_later joined rest)
    value_named (T.AddressOf place object) mode from to lowered code =
        let found = object_named object (is_address mode) (is_followed mode) from code.0 code.1 code.2 in
        names_after found.grows (takes_named points mode code.1 code.0 to lowered found.named code.3)
    value_named (T.AddressOfFunction function) mode from to lowered code =
        let found = designator_named function from code.0 code.1 code.2 code.3 in
        names_after found.0 (addresses_named points code.1 code.2 code.0 to lowered found.1 code.4)
    value_named (T.Cast operand) mode from to lowered code = value_named operand (cast_mode mode) from to lowered code
    value_named (T.CastVoid operand) mode from to lowered code = names_from code.2 (value_named operand Dropped from to code.0 code.1) tt
    value_named (T.Assign place object operand) mode from to lowered code =
        assign_named points (is_used mode) (register_home scope object) (object_code (not (is_pure scope operand)) object) (value_code Kept operand) from to lowered
        (object_named object false (not (is_pure scope operand))) (value_named operand Kept) code
    value_named (T.AssignArithmetic op place object_type int_type object operand) mode from to lowered code =
        compound_named points (is_used mode) (register_home scope object) (object_code (not (is_pure scope operand)) object) (value_code Kept operand) object_type
        (compound_tree op object_type int_type) from to lowered
        (object_named object false (not (is_pure scope operand))) (value_named operand Kept) (λ counts register tree old new. (old, new)) code
    value_named (T.AssignMoved is_minus place object number) mode from to lowered code =
        (pointer_named points (register_home scope object) (object_code (not (is_pure scope number)) object) (value_code Kept number) is_minus from to code.0 lowered
        (object_named object false (not (is_pure scope number))) (value_named number Kept) code.1).1
    value_named (T.StepInteger stepping place n object) mode from to lowered code =
        stepping_named points (is_used mode) stepping (register_home scope object) (object_code false object) n from to lowered (object_named object false false) code
    value_named (T.StepPointer stepping place object) mode from to lowered code =
        old_or_new points (gives_old stepping) from to code.0 code.1 lowered
        (pointer_named points (register_home scope object) (object_code false object) (OneCode points) (not (is_up stepping)) from to code.0 code.1
        (object_named object false false) (one_named points) code.2) code.3
    value_named (T.Call is_used place function c_type arguments) mode from to lowered code =
        let found = designator_named function from code.0 code.2 code.3 code.5 in
        let passed = arguments_named arguments (with_call code.0) code.1 code.4 code.6 in
        let rest : SpotGrows (with_call code.0) to = grows_then passed.0 (emits_grows code.7.1) in
        names_with (grows_then found.0 (grows_then (call_grows code.0) rest)) code.8 (gives_named is_used c_type code.0.counts.calls to.counts (omega (arith, rest.calls)))
    value_named (T.LibraryCall function groups place arguments) mode from to lowered code = library_named function arguments from to lowered code

    library_named : (function : LibraryFunction) (arguments : Values) (from to : Spot) (lowered : Lowered) → LibraryCode program points scope function arguments from to lowered → Names from to lowered
    library_named L.Malloc (T.MoreValues size T.NoValues) from to lowered code =
        let rest : SpotGrows (with_call from) to = grows_then (value_named size Kept (with_call from) code.0 (AsInteger code.1 code.2) code.3).grows (emits_grows code.4.1) in
        names_with (grows_then (call_grows from) rest) code.5 (omega (arith, rest.calls))
    library_named L.Free (T.MoreValues pointer T.NoValues) from to lowered code =
        let rest : SpotGrows (with_call from) to = grows_then (value_named pointer Kept (with_call from) code.0 (AsPointer code.2 code.1) code.3).grows (emits_grows code.4.1) in
        names_with (grows_then (call_grows from) rest) code.5 tt
    library_named L.GetChar T.NoValues from to lowered code =
        let rest : SpotGrows (with_call from) to = emits_grows code.0.1 in
        names_with (grows_then (call_grows from) rest) code.1 (omega (arith, rest.calls))
    library_named L.PutChar (T.MoreValues v T.NoValues) from to lowered code =
        let rest : SpotGrows (with_call from) to = grows_then (value_named v Kept (with_call from) code.0 (AsInteger code.1 code.2) code.3).grows (emits_grows code.4.1) in
        names_with (grows_then (call_grows from) rest) code.5 (omega (arith, rest.calls))
    library_named L.Exit (T.MoreValues status T.NoValues) from to lowered code =
        let rest : SpotGrows (with_call from) to = grows_then (value_named status Kept (with_call from) code.0 (AsInteger code.1 code.2) code.3).grows (emits_grows code.4.1) in
        names_with (grows_then (call_grows from) rest) code.5 tt
    library_named function arguments from to lowered code = absurd code

    pub arguments_named : (arguments : Values) (from to : Spot) (registers : List Register) → ArgumentsCode program points scope arguments from to registers → SpotGrows from to × RegistersNamed to.counts registers
    arguments_named T.NoValues from to registers code = (grows_to code.0 (stays from), subst (λ rs. RegistersNamed to.counts rs) (sym code.1) tt)
    arguments_named (T.MoreValues first others) from to registers code =
        let one = (value_named first Kept (with_argument from) code.0 code.2 code.4).grows in
        let written = writes_grows points code.2 (argument from) code.0 code.1 code.5 in
        let rest = arguments_named others code.1 to code.3 code.6 in
        let all : SpotGrows (with_argument from) to = grows_then one (grows_then written rest.0) in
        (grows_then (argument_grows from) all, subst (λ rs. RegistersNamed to.counts rs) (sym code.7) (omega (arith, all.arguments), rest.1))

    pub designator_named : (f : Designator) (from to : Spot) (callee : Callee) (c_type : CType) → DesignatorCode program points scope f from to callee c_type → SpotGrows from to × CalleeNamed to.counts callee
    designator_named (T.Function name) from to callee c_type code = (grows_to code.2 (stays from), subst (λ c. CalleeNamed to.counts c) (sym code.3) tt)
    designator_named (T.GroupedFunction inner) from to callee c_type code = designator_named inner from to callee c_type code
    designator_named (T.PointedFunction place pointer) from to callee c_type code =
        let one = value_named pointer Kept from to (AsPointer code.0 c_type) code.1 in (one.grows, subst (λ c. CalleeNamed to.counts c) (sym code.2) one.named)
    designator_named (T.ThroughPointer place pointer) from to callee c_type code =
        let one = value_named pointer Kept from to (AsPointer code.0 c_type) code.1 in (one.grows, subst (λ c. CalleeNamed to.counts c) (sym code.2) one.named)

    pub object_named : (o : Object) (is_kept followed : Bool) (from to : Spot) (lowered : Lowered) → ObjectCode program points scope is_kept followed o from to lowered → Names from to lowered
    object_named (T.Local number) is_kept followed from to lowered code = adds_none code.3 code.4 (tt, tt)
    object_named (T.Global name) is_kept followed from to lowered code = adds_none code.3 code.4 (tt, tt)
    object_named (T.Literal place bytes) is_kept followed from to lowered code = adds_none code.3 code.4 (tt, tt)
    object_named (T.GroupedObject place inner) is_kept followed from to lowered code = object_named inner is_kept followed from to lowered code
    object_named (T.Pointed place pointer) is_kept followed from to lowered code =
        let found = value_named pointer (pointed_mode is_kept followed) from to code.0 code.1 in
        names_from code.2 found (pointed_named is_kept code.0 to.counts found.named)
    object_named (T.Element place pointer number) is_kept followed from to lowered code =
        let found = value_named pointer (Row (followed || not (is_pure scope number))) from code.0 code.2 code.5 in
        let index = value_named number Kept code.0 code.1 (AsInteger code.3 code.4) code.6 in
        names_after (grows_then found.grows index.grows) (indexes_named points is_kept followed code.2 code.4 code.1 to lowered (lowered_later index.grows code.2 found.named) index.named code.7)
    object_named (T.ElementOf place number pointer) is_kept followed from to lowered code =
        let index = value_named number Kept from code.0 (AsInteger code.3 code.4) code.7 in
        let held = keeps_grows points true code.4 code.5 code.0 code.1 index.named code.8 in
        let found = value_named pointer (Row followed) code.1 code.2 code.6 code.9 in
        names_after (grows_then index.grows (grows_then held.0 found.grows))
        (indexes_named points is_kept false code.6 code.5 code.2 to lowered found.named (tree_later found.grows code.5 held.1) code.10)
    object_named (T.MemberOf place object number) is_kept followed from to lowered code =
        let found = object_named object false followed from to (AsObject code.0 code.1) code.3 in
        names_from code.5 found (path_then (IsBefore to.counts) (IsNamed to.counts) code.0 (Member number) found.named tt)
    object_named (T.PointedMember place pointer number) is_kept followed from to lowered code =
        let found = value_named pointer (Behind followed) from to code.0 code.4 in
        let inner : PathNamed to.counts code.1 = subst (λ l. LoweredNamed to.counts l) code.5 (pointed_named false code.0 to.counts found.named) in
        names_from code.7 found (path_then (IsBefore to.counts) (IsNamed to.counts) code.1 (Member number) inner tt)
