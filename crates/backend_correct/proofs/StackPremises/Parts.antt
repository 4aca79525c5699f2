-- The parts of forms that are made of points name only registers of their function.
use Rattle.std.proofs.Common.{◌≡◌, ℕ, suc, Bool, true, false, ◌&&◌, not, List, [], ◌∷◌, ◌++◌, Option, Some, None, pos, ap, subst}
use Rattle.std.specs.Prelude.{⊤, if◌then◌else◌}
use Rattle.std.specs.List.{AllByRecursion}
use Rattle.c_num.specs.declared.IntType.{IntType}
use Rattle.c_num.specs.declared.IntType.TheVariants as I
use Rattle.c_typed.specs.declared.typed.Stepping.{Stepping}
use Rattle.c_typed.specs.declared.typed.Stepping.TheVariants as Steppings
use Rattle.c_typed.specs.Types.{CType, Void, Integer, Pointer, Array, Struct, Function}
use Rattle.tac_ir.specs.declared.register.Local.{Local}
use Rattle.tac_ir.specs.declared.register.Register.{Register}
use Rattle.tac_ir.specs.declared.register.Register.TheVariants as R
use Rattle.tac_ir.specs.Code.{Tree, Constant, Held, Path, Step, Element, Indexed, Callee, Known, Through, IntegerOperand, PointerOperand, Op}
use Rattle.tac_ir.specs.Code as O
use Rattle.tac_build.specs.Homes.{Home}
use Rattle.tac_build.specs.Spots.{Spot, behind, with_temporary, temporary, Lowered, AsInteger, AsPointer, AsObject, AsNothing, Mode, Kept, Dropped, Behind, Row}
use Rattle.tac_build.specs.Code.{PartCode, path_from, then_step, truth_tree, gives_old, step_tree, HasOp, Emits, KeepsTree, ReadsLocal, Loads, Writes, WritesLocal, Stores, Joins, JoinsWith, Decays, TakesAddress, Addresses, MovesPointer, StepsLocal, StepsObject, Indexes, ReadCode, MovedCode, AssignCode, CompoundCode, PointerCode, SteppingCode, LogicalCode}
use Rattle.backend_correct.specs.Named.{Registers, Has, TreeNamed, StepNamed, PathNamed, CalleeNamed, LoweredNamed}
use Rattle.backend_correct.proofs.StackPremises.Leading.{Below, Leads, Gives, after, leads_then, stays, point, emits, names_temporary, has_temporary, gives, assigned, gives_integer, gives_pointer}

-- the local in a register, where there is one
abbrev pub HomeNamed : Registers → Option Home → Type 0
HomeNamed all None = ⊤
HomeNamed all (Some home) = Has all (R.Local home.local)

-- how a local in a register steps, and whether its old value is kept
abbrev StepsHome : List Op → Bool → Stepping → IntType → Home → Spot → Spot → Lowered → Type 0
StepsHome points false stepping own home from to lowered = Emits points (O.Assign (R.Local home.local) (step_tree stepping own (R.Local home.local))) from to × (lowered ≡ AsInteger own (Held (R.Local home.local)))
StepsHome points true stepping own home from to lowered =
    HasOp points from.at (O.Assign (temporary from) (Held (R.Local home.local)))
    × Emits points (O.Assign (R.Local home.local) (step_tree stepping own (R.Local home.local))) (behind (with_temporary from)) to × (lowered ≡ AsInteger own (Held (temporary from)))

module _ (all : Registers) where
  steps_then : (steps : List Step) (step : Step) → AllByRecursion (StepNamed all) steps → StepNamed all step → AllByRecursion (StepNamed all) (steps ++ step ∷ [])
  steps_then [] step named own = (own, tt)
  steps_then (first ∷ others) step named own = (named.0, steps_then others step named.1 own)

  pub path_then : (path : Path) (step : Step) → PathNamed all path → StepNamed all step → PathNamed all (then_step path step)
  path_then path step named own = (named.0, steps_then path.steps step named.1 own)

module _ (all : Registers) (points : List Op) where
  abbrev Named : Spot → Lowered → Type 0
  Named spot lowered = Below all points spot.counts → LoweredNamed all lowered

  pub keeps_gives : (follows : Bool) (tree kept : Tree) (from to : Spot) → (Below all points from.counts → TreeNamed all tree) → KeepsTree points follows tree from to kept → Gives all points from to (AsInteger I.Int kept)
  keeps_gives false tree kept from to named code =
      gives all points (AsInteger I.Int tree) (ap (AsInteger I.Int) code.1) (stays all points code.0) (after all points (stays all points code.0) named)
  keeps_gives true tree kept from to named code =
      gives_integer all points (λ register. O.Assign register tree) I.Int (code.0, code.1, ap (AsInteger I.Int) code.2) (λ below register has. (has, named below))

  pub reads_gives : (local : Local) (is_object : Bool) (own : CType) (from to : Spot) (lowered : Lowered) → (Below all points from.counts → Has all (R.Local local))
      → ReadsLocal points (record { local = local; is_object = is_object; c_type = own }) from to lowered → Gives all points from to lowered
  reads_gives local is_object (Integer int_type) from to lowered named code =
      gives all points (AsInteger int_type (Held (R.Local local))) code.1 (stays all points code.0) (after all points (stays all points code.0) named)
  reads_gives local is_object (Pointer target) from to lowered named code = gives_pointer all points (λ register. O.Copy register (R.Local local)) target code (λ below register has. (has, named below))
  reads_gives local is_object Void from to lowered named code = absurd code
  reads_gives local is_object (Array element count) from to lowered named code = absurd code
  reads_gives local is_object (Struct tag) from to lowered named code = absurd code
  reads_gives local is_object (Function result parameters) from to lowered named code = absurd code

  pub loads_gives : (own : CType) (path : Path) (from to : Spot) (lowered : Lowered) → (Below all points from.counts → PathNamed all path) → Loads points own path from to lowered → Gives all points from to lowered
  loads_gives (Integer int_type) path from to lowered named code = gives_integer all points (λ register. O.Load register (Integer int_type) path) int_type code (λ below register has. (has, named below))
  loads_gives (Pointer target) path from to lowered named code = gives_pointer all points (λ register. O.Load register (Pointer target) path) target code (λ below register has. (has, named below))
  loads_gives Void path from to lowered named code = absurd code
  loads_gives (Array element count) path from to lowered named code = absurd code
  loads_gives (Struct tag) path from to lowered named code = absurd code
  loads_gives (Function result parameters) path from to lowered named code = absurd code

  pub writes_leads : (register : Register) (given : Lowered) (from to : Spot) → (Below all points from.counts → Has all register) → Named from given → Writes points register given from to → Leads all points from to
  writes_leads register (AsInteger own tree) from to has named code = emits all points (O.Assign register tree) code (λ below. (has below, named below))
  writes_leads register (AsPointer pointer target) from to has named code = emits all points (O.Copy register pointer) code (λ below. (has below, named below))
  writes_leads register (AsObject path own) from to has named code = absurd code
  writes_leads register AsNothing from to has named code = absurd code

  pub stores_gives : (used : Bool) (given : Lowered) (path : Path) (own : CType) (from to : Spot) (lowered : Lowered) → (Below all points from.counts → PathNamed all path) → Named from given
      → Stores points used path own given from to lowered → Gives all points from to lowered
  stores_gives true (AsInteger int_type tree) path own from to lowered at named code =
      let kept = assigned all points from (λ register. O.Assign register tree) code.0 (λ below register has. (has, named below)) in
      let stored = emits all points {from = behind (with_temporary from)} (O.Store path own (IntegerOperand (Held (temporary from)))) code.1 (λ below. (at (kept.back below), has_temporary all points from below)) in
      gives all points (AsInteger int_type (Held (temporary from))) code.2 (leads_then all points kept stored) (λ below. has_temporary all points from (stored.back below))
  stores_gives false (AsInteger int_type tree) path own from to lowered at named code =
      gives all points AsNothing code.1 (emits all points (O.Store path own (IntegerOperand tree)) code.0 (λ below. (at below, named below))) (λ below. tt)
  stores_gives true (AsPointer pointer target) path own from to lowered at named code =
      let stored = emits all points (O.Store path own (PointerOperand pointer)) code.0 (λ below. (at below, named below)) in
      gives all points (AsPointer pointer target) code.1 stored (after all points stored named)
  stores_gives false (AsPointer pointer target) path own from to lowered at named code =
      let stored = emits all points (O.Store path own (PointerOperand pointer)) code.0 (λ below. (at below, named below)) in
      gives all points (AsPointer pointer target) code.1 stored (after all points stored named)
  stores_gives true (AsObject p c) path own from to lowered at named code = absurd code
  stores_gives false (AsObject p c) path own from to lowered at named code = absurd code
  stores_gives true AsNothing path own from to lowered at named code = absurd code
  stores_gives false AsNothing path own from to lowered at named code = absurd code

  pub joins_gives : (one : Lowered) (from to : Spot) (lowered : Lowered) → Named from one → Joins points one from to lowered → Gives all points from to lowered
  joins_gives (AsInteger own tree) from to lowered named code = gives_integer all points (λ register. O.Assign register tree) own code (λ below register has. (has, named below))
  joins_gives (AsPointer pointer target) from to lowered named code = gives_pointer all points (λ register. O.Copy register pointer) target code (λ below register has. (has, named below))
  joins_gives (AsObject path own) from to lowered named code = absurd code
  joins_gives AsNothing from to lowered named code = gives all points AsNothing code.1 (stays all points code.0) (λ below. tt)

  pub joins_with_leads : (joined other : Lowered) (from to : Spot) → Named from joined → Named from other → JoinsWith points joined other from to → Leads all points from to
  joins_with_leads (AsInteger own (Held register)) (AsInteger int_type tree) from to has named code = emits all points (O.Assign register tree) code (λ below. (has below, named below))
  joins_with_leads (AsPointer register target) (AsPointer pointer other) from to has named code = emits all points (O.Copy register pointer) code (λ below. (has below, named below))
  joins_with_leads AsNothing AsNothing from to has named code = stays all points code
  joins_with_leads joined other from to has named code = absurd code

  abbrev first_element : Path → Path
  first_element path = then_step path (Element (Constant (pos 0)))

  pub decays_gives : (mode : Mode) (path : Path) (element : CType) (count : ℕ) (from to : Spot) (lowered : Lowered) → (Below all points from.counts → PathNamed all path)
      → Decays points mode path element count from to lowered → Gives all points from to lowered
  decays_gives Kept path element count from to lowered named code =
      gives_pointer all points (λ register. O.AddressOf register (first_element path)) element code (λ below register has. (has, path_then all path (Element (Constant (pos 0))) (named below) tt))
  decays_gives Dropped path element count from to lowered named code =
      gives_pointer all points (λ register. O.AddressOf register (first_element path)) element code (λ below register has. (has, path_then all path (Element (Constant (pos 0))) (named below) tt))
  decays_gives (Behind followed) path element count from to lowered named code =
      gives all points (AsObject (first_element path) element) code.1 (stays all points code.0)
      (λ below. path_then all path (Element (Constant (pos 0))) (named ((stays all points code.0).back below)) tt)
  decays_gives (Row followed) path element count from to lowered named code =
      gives all points (AsObject path (Array element count)) code.1 (stays all points code.0) (after all points (stays all points code.0) named)

  stays_gives : (given : Lowered) (from to : Spot) (lowered : Lowered) → Named from given → (to ≡ from) × (lowered ≡ given) → Gives all points from to lowered
  stays_gives given from to lowered named code = gives all points given code.1 (stays all points code.0) (after all points (stays all points code.0) named)

  address_gives : (path : Path) (own : CType) (from to : Spot) (lowered : Lowered) → (Below all points from.counts → PathNamed all path) → TakesAddress points Kept (AsObject path own) from to lowered → Gives all points from to lowered
  address_gives path own from to lowered named code = gives_pointer all points (λ register. O.AddressOf register path) own code (λ below register has. (has, named below))

  pub takes_gives : (mode : Mode) (found : Lowered) (from to : Spot) (lowered : Lowered) → Named from found → TakesAddress points mode found from to lowered → Gives all points from to lowered
  takes_gives (Behind followed) found from to lowered named code = stays_gives found from to lowered named code
  takes_gives Kept (AsObject path own) from to lowered named code = address_gives path own from to lowered named code
  takes_gives Dropped (AsObject path own) from to lowered named code = address_gives path own from to lowered named code
  takes_gives (Row followed) (AsObject path own) from to lowered named code = address_gives path own from to lowered named code
  takes_gives Kept (AsPointer pointer target) from to lowered named code = stays_gives (AsPointer pointer target) from to lowered named code
  takes_gives Dropped (AsPointer pointer target) from to lowered named code = stays_gives (AsPointer pointer target) from to lowered named code
  takes_gives (Row followed) (AsPointer pointer target) from to lowered named code = stays_gives (AsPointer pointer target) from to lowered named code
  takes_gives Kept (AsInteger own tree) from to lowered named code = stays_gives (AsInteger own tree) from to lowered named code
  takes_gives Dropped (AsInteger own tree) from to lowered named code = stays_gives (AsInteger own tree) from to lowered named code
  takes_gives (Row followed) (AsInteger own tree) from to lowered named code = stays_gives (AsInteger own tree) from to lowered named code
  takes_gives Kept AsNothing from to lowered named code = stays_gives AsNothing from to lowered named code
  takes_gives Dropped AsNothing from to lowered named code = stays_gives AsNothing from to lowered named code
  takes_gives (Row followed) AsNothing from to lowered named code = stays_gives AsNothing from to lowered named code

  pub addresses_gives : (callee : Callee) (own : CType) (from to : Spot) (lowered : Lowered) → (Below all points from.counts → CalleeNamed all callee) → Addresses points callee own from to lowered → Gives all points from to lowered
  addresses_gives (Known number) own from to lowered named code = gives_pointer all points (λ register. O.FunctionAddress register number) own code (λ below register has. has)
  addresses_gives (Through pointer c_type) own from to lowered named code = stays_gives (AsPointer pointer c_type) from to lowered named code

  pub moves_gives : (pointer : Register) (target : CType) (is_minus : Bool) (number : Tree) (from to : Spot) (lowered : Lowered) → (Below all points from.counts → Has all pointer)
      → (Below all points from.counts → TreeNamed all number) → MovesPointer points pointer target is_minus number from to lowered → Gives all points from to lowered
  moves_gives pointer target is_minus number from to lowered has named code =
      gives_pointer all points (λ register. O.Move register pointer target is_minus number) target code (λ below register own. (own, has below, named below))

  pub indexes_gives : (is_kept follows : Bool) (found : Lowered) (index : Tree) (from to : Spot) (lowered : Lowered) → Named from found → (Below all points from.counts → TreeNamed all index)
      → Indexes points is_kept follows found index from to lowered → Gives all points from to lowered
  indexes_gives is_kept follows (AsObject path (Array element count)) index from to lowered named own code =
      let kept = keeps_gives follows index code.0 from to own code.1 in
      gives all points (AsObject (then_step path (Element code.0)) element) code.2 kept.leads (λ below. path_then all path (Element code.0) (named (kept.leads.back below)) (kept.value below))
  indexes_gives false follows (AsPointer register target) index from to lowered named own code =
      let kept = keeps_gives follows index code.0 from to own code.1 in
      gives all points (AsObject (path_from (Indexed register target code.0)) target) code.2 kept.leads (λ below. ((named (kept.leads.back below), kept.value below), tt))
  indexes_gives true follows (AsPointer register target) index from to lowered named own code = moves_gives register target false index from to lowered named own code
  indexes_gives is_kept follows (AsObject path Void) index from to lowered named own code = absurd code
  indexes_gives is_kept follows (AsObject path (Integer int_type)) index from to lowered named own code = absurd code
  indexes_gives is_kept follows (AsObject path (Pointer target)) index from to lowered named own code = absurd code
  indexes_gives is_kept follows (AsObject path (Struct tag)) index from to lowered named own code = absurd code
  indexes_gives is_kept follows (AsObject path (Function result parameters)) index from to lowered named own code = absurd code
  indexes_gives is_kept follows (AsInteger int_type tree) index from to lowered named own code = absurd code
  indexes_gives is_kept follows AsNothing index from to lowered named own code = absurd code

  -- an old value and a new one
  pub record GivesBoth (from to : Spot) (old new : Lowered) : Type 0 where
    pub leads : Leads all points from to
    pub old_value : Named to old
    pub new_value : Named to new

  steps_give : (home : Home) (is_minus : Bool) (number : Tree) (from to : Spot) (old new : Lowered) → (Below all points from.counts → Has all (R.Local home.local))
      → (Below all points from.counts → TreeNamed all number) → StepsLocal points home is_minus number from to old new → GivesBoth from to old new
  steps_give home is_minus number from to old new has named code =
      let read = reads_gives home.local home.is_object home.c_type from code.0 old has code.4 in
      let pointer = subst (Named code.0) code.5 read.value in
      let moved = moves_gives code.2 code.3 is_minus number code.0 code.1 new pointer (after all points read.leads named) code.6 in
      let written = writes_leads (R.Local home.local) new code.1 to (after all points moved.leads (after all points read.leads has)) moved.value code.7 in
      record {
        leads = leads_then all points read.leads (leads_then all points moved.leads written);
        old_value = after all points written (after all points moved.leads read.value);
        new_value = after all points written moved.value;
      }

  steps_object_give : (path : Path) (own : CType) (is_minus : Bool) (number : Tree) (from to : Spot) (old new : Lowered) → (Below all points from.counts → PathNamed all path)
      → (Below all points from.counts → TreeNamed all number) → StepsObject points path own is_minus number from to old new → GivesBoth from to old new
  steps_object_give path own is_minus number from to old new at named code =
      let read = loads_gives own path from code.0 old at code.4 in
      let pointer = subst (Named code.0) code.5 read.value in
      let moved = moves_gives code.2 code.3 is_minus number code.0 code.1 new pointer (after all points read.leads named) code.6 in
      let stored = stores_gives false new path own code.1 to new (after all points moved.leads (after all points read.leads at)) moved.value code.7 in
      record {
        leads = leads_then all points read.leads (leads_then all points moved.leads stored.leads);
        old_value = after all points stored.leads (after all points moved.leads read.value);
        new_value = stored.value;
      }

  -- ---- forms over the code of their parts, where what is known of the scope is known

  abbrev pub Part : Type 0 → PartCode → Type 0
  Part known part = (from to : Spot) (lowered : Lowered) → (Below all points from.counts → known) → part from to lowered → Gives all points from to lowered

  module _ (known : Type 0) where
    pub read_gives : (home : Option Home) (object : PartCode) → (known → HomeNamed all home) → Part known object → Part known (ReadCode points home object)
    read_gives (Some home) object homes one from to lowered scoped code = reads_gives home.local home.is_object home.c_type from to lowered (λ below. homes (scoped below)) code
    read_gives None object homes one from to lowered scoped code =
        let inner = one from code.0 (AsObject code.1 code.2) scoped code.3 in
        let read = loads_gives code.2 code.1 code.0 to lowered inner.value code.4 in
        record { leads = leads_then all points inner.leads read.leads; value = read.value }

    pub moved_gives : (is_minus : Bool) (pointer number : PartCode) → Part known pointer → Part known number → Part known (MovedCode points is_minus pointer number)
    moved_gives is_minus pointer number one other from to lowered scoped code =
        let first = one from code.0 (AsPointer code.2 code.3) scoped code.6 in
        let second = other code.0 code.1 (AsInteger code.4 code.5) (after all points first.leads scoped) code.7 in
        let moved = moves_gives code.2 code.3 is_minus code.5 code.1 to lowered (after all points second.leads first.value) second.value code.8 in
        record { leads = leads_then all points first.leads (leads_then all points second.leads moved.leads); value = moved.value }

    written : (local : Local) (given lowered : Lowered) (is_object : Bool) (own : CType) (from to : Spot) → (Below all points from.counts → Has all (R.Local local)) → Named from given
        → WritesLocal points (record { local = local; is_object = is_object; c_type = own }) given from to lowered → Gives all points from to lowered
    written local (AsInteger int_type tree) lowered is_object own from to has named code =
        let leads = writes_leads (R.Local local) (AsInteger int_type tree) from to has named code.0 in
        gives all points (AsInteger int_type (Held (R.Local local))) code.1 leads (after all points leads has)
    written local (AsPointer pointer target) lowered is_object own from to has named code =
        let leads = writes_leads (R.Local local) (AsPointer pointer target) from to has named code.0 in
        gives all points (AsPointer pointer target) code.1 leads (after all points leads named)
    written local (AsObject path c_type) lowered is_object own from to has named code = absurd code.0
    written local AsNothing lowered is_object own from to has named code = absurd code.0

    pub assign_gives : (used : Bool) (home : Option Home) (object value : PartCode) → (known → HomeNamed all home) → Part known object → Part known value → Part known (AssignCode points used home object value)
    assign_gives used (Some home) object value homes one other from to lowered scoped code =
        let first = other from code.0 code.1 scoped code.2 in
        let second = written home.local code.1 lowered home.is_object home.c_type code.0 to (after all points first.leads (λ below. homes (scoped below))) first.value code.3 in
        record { leads = leads_then all points first.leads second.leads; value = second.value }
    assign_gives used None object value homes one other from to lowered scoped code =
        let first = one from code.0 (AsObject code.2 code.3) scoped code.5 in
        let second = other code.0 code.1 code.4 (after all points first.leads scoped) code.6 in
        let stored = stores_gives used code.4 code.2 code.3 code.1 to lowered (after all points second.leads first.value) second.value code.7 in
        record { leads = leads_then all points first.leads (leads_then all points second.leads stored.leads); value = stored.value }

    pub compound_gives : (used : Bool) (home : Option Home) (object operand : PartCode) (own : IntType) (new : Register → Tree → Tree)
        → ((register : Register) (tree : Tree) → Has all register → TreeNamed all tree → TreeNamed all (new register tree)) → (known → HomeNamed all home) → Part known object → Part known operand
        → Part known (CompoundCode points used home object operand own new)
    compound_gives used (Some home) object operand own new trees homes one other from to lowered scoped code =
        let first = other from code.0 (AsInteger code.1 code.2) scoped code.3 in
        let has = after all points first.leads (λ below. homes (scoped below)) in
        let assigns = emits all points (O.Assign (R.Local home.local) (new (R.Local home.local) code.2)) code.4 (λ below. (has below, trees (R.Local home.local) code.2 (has below) (first.value below))) in
        gives all points (AsInteger own (Held (R.Local home.local))) code.5 (leads_then all points first.leads assigns) (after all points assigns has)
    compound_gives used None object operand own new trees homes one other from to lowered scoped code =
        let first = one from code.0 (AsObject code.2 code.3) scoped code.6 in
        let second = other code.0 code.1 (AsInteger code.4 code.5) (after all points first.leads scoped) code.7 in
        let at = after all points second.leads first.value in
        let load = assigned all points code.1 (λ register. O.Load register code.3 code.2) code.8 (λ below register has. (has, at below)) in
        let stored = stores_gives used (AsInteger own (new (temporary code.1) code.5)) code.2 code.3 (behind (with_temporary code.1)) to lowered (after all points load at)
        (λ below. trees (temporary code.1) code.5 (has_temporary all points code.1 below) (second.value (load.back below))) code.9 in
        record { leads = leads_then all points first.leads (leads_then all points second.leads (leads_then all points load stored.leads)); value = stored.value }

    pub pointer_gives : (home : Option Home) (is_minus : Bool) (object number : PartCode) → (known → HomeNamed all home) → Part known object → Part known number
        → (from to : Spot) (old new : Lowered) → (Below all points from.counts → known) → PointerCode points home object is_minus number from to old new → GivesBoth from to old new
    pointer_gives (Some home) is_minus object number homes one other from to old new scoped code =
        let first = other from code.0 (AsInteger code.1 code.2) scoped code.3 in
        let both = steps_give home is_minus code.2 code.0 to old new (after all points first.leads (λ below. homes (scoped below))) first.value code.4 in
        record { leads = leads_then all points first.leads both.leads; old_value = both.old_value; new_value = both.new_value }
    pointer_gives None is_minus object number homes one other from to old new scoped code =
        let first = one from code.0 (AsObject code.2 code.3) scoped code.6 in
        let second = other code.0 code.1 (AsInteger code.4 code.5) (after all points first.leads scoped) code.7 in
        let both = steps_object_give code.2 code.3 is_minus code.5 code.1 to old new (after all points second.leads first.value) second.value code.8 in
        record { leads = leads_then all points first.leads (leads_then all points second.leads both.leads); old_value = both.old_value; new_value = both.new_value }

    step_named : (stepping : Stepping) (own : IntType) (register : Register) → Has all register → TreeNamed all (step_tree stepping own register)
    step_named stepping own register has = (has, tt)

    steps_home : (keeps : Bool) (stepping : Stepping) (own : IntType) (home : Home) (from to : Spot) (lowered : Lowered) → (Below all points from.counts → Has all (R.Local home.local)) → StepsHome points keeps stepping own home from to lowered
        → Gives all points from to lowered
    steps_home false stepping own home from to lowered has code =
        let leads = emits all points (O.Assign (R.Local home.local) (step_tree stepping own (R.Local home.local))) code.0 (λ below. (has below, step_named stepping own (R.Local home.local) (has below))) in
        gives all points (AsInteger own (Held (R.Local home.local))) code.1 leads (after all points leads has)
    steps_home true stepping own home from to lowered has code =
        let kept = assigned all points from (λ register. O.Assign register (Held (R.Local home.local))) code.0 (λ below register own. (own, has below)) in
        let leads = emits all points {from = behind (with_temporary from)} (O.Assign (R.Local home.local) (step_tree stepping own (R.Local home.local))) code.1
        (λ below. (has (kept.back below), step_named stepping own (R.Local home.local) (has (kept.back below)))) in
        gives all points (AsInteger own (Held (temporary from))) code.2 (leads_then all points kept leads) (λ below. has_temporary all points from (leads.back below))

    pub stepping_gives : (used : Bool) (stepping : Stepping) (own : IntType) (home : Option Home) (object : PartCode) → (known → HomeNamed all home) → Part known object
        → Part known (SteppingCode points used stepping own home object)
    stepping_gives false stepping own (Some home) object homes one from to lowered scoped code = steps_home false stepping own home from to lowered (λ below. homes (scoped below)) code
    stepping_gives true Steppings.PreIncrement own (Some home) object homes one from to lowered scoped code = steps_home false Steppings.PreIncrement own home from to lowered (λ below. homes (scoped below)) code
    stepping_gives true Steppings.PreDecrement own (Some home) object homes one from to lowered scoped code = steps_home false Steppings.PreDecrement own home from to lowered (λ below. homes (scoped below)) code
    stepping_gives true Steppings.PostIncrement own (Some home) object homes one from to lowered scoped code = steps_home true Steppings.PostIncrement own home from to lowered (λ below. homes (scoped below)) code
    stepping_gives true Steppings.PostDecrement own (Some home) object homes one from to lowered scoped code = steps_home true Steppings.PostDecrement own home from to lowered (λ below. homes (scoped below)) code
    stepping_gives used stepping own None object homes one from to lowered scoped code =
        let first = one from code.0 (AsObject code.1 code.2) scoped code.4 in
        let load = assigned all points code.0 (λ register. O.Load register code.2 code.1) code.5 (λ below register has. (has, first.value below)) in
        let stored = stores_gives (used && not (gives_old stepping)) (AsInteger own (step_tree stepping own (temporary code.0))) code.1 code.2 (behind (with_temporary code.0)) to code.3
        (after all points load first.value) (λ below. step_named stepping own (temporary code.0) (has_temporary all points code.0 below)) code.6 in
        gives all points (if gives_old stepping then AsInteger own (Held (temporary code.0)) else code.3) code.7 (leads_then all points first.leads (leads_then all points load stored.leads))
        (λ below. by (temporary code.0) own (gives_old stepping) code.3 (has_temporary all points code.0 (stored.leads.back below)) (stored.value below))
      where
        by : (register : Register) (int_type : IntType) (b : Bool) (new : Lowered) → Has all register → LoweredNamed all new → LoweredNamed all (if b then AsInteger int_type (Held register) else new)
        by register int_type true new has named = has
        by register int_type false new has named = named

    pub logical_gives : (is_and : Bool) (left right : PartCode) → Part known left → Part known right → Part known (LogicalCode points is_and left right)
    logical_gives is_and left right one other from to lowered scoped code =
        let begun = names_temporary all points from in
        let first = one (with_temporary from) code.0 (AsInteger code.4 code.2) (after all points begun scoped) code.6 in
        let tested = point all points code.0 (O.Branch code.4 code.2 (if is_and then suc code.0.at else suc (suc code.1.at)) (if is_and then suc (suc code.1.at) else suc code.0.at)) code.7 first.value in
        let second = other (behind code.0) code.1 (AsInteger code.5 code.3) (after all points tested (after all points first.leads (after all points begun scoped))) code.8 in
        let has : (Below all points code.1.counts → Has all (temporary from)) = λ below. has_temporary all points from (first.leads.back (tested.back (second.leads.back below))) in
        let taken = point all points code.1 (O.Assign (temporary from) (truth_tree code.5 code.3)) code.9 (λ below. (has below, second.value below)) in
        let past = point all points (behind code.1) (O.Jump to.at) code.10 (λ below. tt) in
        let last = emits all points {from = behind (behind code.1)} (O.Assign (temporary from) (Constant (if is_and then pos 0 else pos 1))) code.11 (λ below. (has below, tt)) in
        gives all points (AsInteger I.Int (Held (temporary from))) code.12
        (leads_then all points begun (leads_then all points first.leads (leads_then all points tested (leads_then all points second.leads (leads_then all points taken (leads_then all points past last))))))
        (λ below. has (last.back below))
