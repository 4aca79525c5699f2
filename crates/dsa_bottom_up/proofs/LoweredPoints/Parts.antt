-- The parts of forms that are made of points stand, where what they use stands.
use Rattle.std.proofs.Common.{◌≡◌, ℕ, suc, Bool, true, false, ◌&&◌, not, List, Option, Some, None, pos, refl, sym, ap, subst, ◌∙◌}
use Rattle.std.specs.Prelude.{if◌then◌else◌}
use Rattle.std.proofs.lemmas.Bool.{false≢true}
use Rattle.c_num.specs.declared.IntType.{IntType}
use Rattle.c_typed.specs.declared.typed.Stepping.{Stepping}
use Rattle.c_typed.specs.declared.typed.Stepping.TheVariants as Steppings
use Rattle.c_typed.specs.Types.{CType, Void, Integer, Pointer, Array, Struct, Function}
use Rattle.c_typed.specs.Typed.{Program}
use Rattle.c_typed.specs.Expressions.{is_scalar}
use Rattle.tac_ir.specs.declared.register.Local.{Local}
use Rattle.tac_ir.specs.declared.register.Register.{Register}
use Rattle.tac_ir.specs.declared.register.Register.TheVariants as R
use Rattle.tac_ir.specs.Code.{Tree, Constant, Held, Path, Element, Indexed, Callee, Known, Through, IntegerOperand, PointerOperand, Tac}
use Rattle.tac_ir.specs.Code as O
use Rattle.tac_ir.specs.States.{Owner}
use Rattle.tac_build.specs.Homes.{Home}
use Rattle.tac_build.specs.Spots.{Spot, behind, with_temporary, temporary, Lowered, AsInteger, AsPointer, AsObject, AsNothing, Mode, Kept, Dropped, Behind, Row}
use Rattle.tac_build.specs.Code.{PartCode, path_from, then_step, truth_tree, gives_old, step_tree, HasOp, Emits, KeepsTree, ReadsLocal, Loads, Writes, WritesLocal, Stores, Joins, JoinsWith, Decays, TakesAddress, Addresses, MovesPointer, StepsLocal, StepsObject, Indexes, ReadCode, MovedCode, AssignCode, CompoundCode, PointerCode, SteppingCode, LogicalCode}
use Rattle.heap_graph.specs.Points.{is_data_pointer}
use Rattle.graph_unification.specs.Standing.{IsOwn, AccessStands}
use Rattle.dsa_bottom_up.proofs.Paths.{PathFound, IsOf, then_found, path_stands, access_stands}
use Rattle.dsa_bottom_up.proofs.LoweredPoints.Leading.{Fits, Found, Spans, Comes, leads_then, then_comes, moves, stays, temporary_spans, point, emits, gives_integer, gives_pointer, with_integer, with_nothing, with_object, with_found}

-- how a local in a register steps, and whether its old value is kept
abbrev StepsHome : List O.Op → Bool → Stepping → IntType → Home → Spot → Spot → Lowered → Type 0
StepsHome points false stepping own home from to lowered = Emits points (O.Assign (R.Local home.local) (step_tree stepping own (R.Local home.local))) from to × (lowered ≡ AsInteger own (Held (R.Local home.local)))
StepsHome points true stepping own home from to lowered =
    HasOp points from.at (O.Assign (temporary from) (Held (R.Local home.local)))
    × Emits points (O.Assign (R.Local home.local) (step_tree stepping own (R.Local home.local))) (behind (with_temporary from)) to × (lowered ≡ AsInteger own (Held (temporary from)))

module _ (program : Program) (tac : Tac) (owner : Owner) (function : O.Function) (About : Type 0) (its : IsOf program tac owner function) where
  abbrev Own : Register → Type 0
  Own register = IsOwn tac owner function register

  -- something holds where the function fits a spot
  abbrev pub Where : Spot → Type 0 → Type 0
  Where spot holds = Fits tac owner function spot → About → holds

  abbrev pub Leads : Spot → Spot → Type 0
  Leads from to = Spans tac owner function About from to

  abbrev pub Gives : Spot → Spot → Lowered → Type 0
  Gives from to lowered = Comes tac owner function About from to lowered

  abbrev pub Part : PartCode → Type 0
  Part part = (from to : Spot) (lowered : Lowered) → part from to lowered → Gives from to lowered

  abbrev pub Is : Lowered → Type 0
  Is lowered = Found tac owner function lowered

  abbrev pub Reaches : Path → CType → Type 0
  Reaches path c_type = PathFound tac owner function path c_type

  -- of a local in a register
  abbrev pub HomeOwn : Option Home → Type 0
  HomeOwn None = Unit {0}
  HomeOwn (Some home) = Own (R.Local home.local)

  abbrev pub CalleeOwn : Callee → Type 0
  CalleeOwn (Known number) = Unit {0}
  CalleeOwn (Through pointer c_type) = Own pointer

  -- behind code without a spot more
  before : {from to : Spot} {holds : Type 0} → to ≡ from → Where from holds → Where to holds
  before same at end about = at (subst (Fits tac owner function) same end) about

  accessed : (path : Path) (c_type : CType) → Reaches path c_type → is_scalar c_type ≡ true → AccessStands tac owner function path
  accessed path c_type it scalar = access_stands tac owner function its.here its.made its.filled path c_type it scalar

  assigned : (from : Spot) (tree : Tree) → HasOp function.points from.at (O.Assign (temporary from) tree) → Leads from (behind (with_temporary from))
  assigned from tree stands =
      leads_then tac owner function About (temporary_spans tac owner function About from) (point tac owner function About (with_temporary from) (O.Assign (temporary from) tree) stands (λ end about. tt))

  pub keeps_tree : (follows : Bool) (tree kept : Tree) (from to : Spot) → KeepsTree function.points follows tree from to kept → Leads from to
  keeps_tree false tree kept from to code = stays tac owner function About from to code.0
  keeps_tree true tree kept from to code = moves tac owner function About (behind (with_temporary from)) code.1 (assigned from tree code.0)

  pub reads : (local : Local) (is_object : Bool) (own : CType) (from to : Spot) (lowered : Lowered) → ReadsLocal function.points (record { local = local; is_object = is_object; c_type = own }) from to lowered
      → Where from (Own (R.Local local)) → Gives from to lowered
  reads local is_object (Integer int_type) from to lowered code here = with_integer tac owner function About (stays tac owner function About from to code.0) code.1
  reads local is_object (Pointer target) from to lowered code here =
      gives_pointer tac owner function About from to lowered (λ register. O.Copy register (R.Local local)) target code (λ end about own null. (own, here end about))
  reads local is_object Void from to lowered code here = absurd code
  reads local is_object (Array element size) from to lowered code here = absurd code
  reads local is_object (Struct tag) from to lowered code here = absurd code
  reads local is_object (Function result parameters) from to lowered code here = absurd code

  pub loads : (own : CType) (path : Path) (from to : Spot) (lowered : Lowered) → Loads function.points own path from to lowered → Where from (Reaches path own) → Gives from to lowered
  loads (Integer int_type) path from to lowered code here =
      gives_integer tac owner function About from to lowered (λ register. O.Load register (Integer int_type) path) int_type code
      (λ end about. ((λ is_data. absurd (false≢true is_data)), accessed path (Integer int_type) (here end about) refl))
  loads (Pointer target) path from to lowered code here =
      gives_pointer tac owner function About from to lowered (λ register. O.Load register (Pointer target) path) target code
      (λ end about own. ((λ is_data. own), accessed path (Pointer target) (here end about) refl))
  loads Void path from to lowered code here = absurd code
  loads (Array element size) path from to lowered code here = absurd code
  loads (Struct tag) path from to lowered code here = absurd code
  loads (Function result parameters) path from to lowered code here = absurd code

  pub writes : (register : Register) (given : Lowered) (from to : Spot) → Writes function.points register given from to → Where from (Own register) → Where from (Is given) → Leads from to
  writes register (AsInteger own tree) from to code here is = emits tac owner function About from to (O.Assign register tree) code (λ end about. tt)
  writes register (AsPointer pointer target) from to code here is = emits tac owner function About from to (O.Copy register pointer) code (λ end about null. (here end about, is end about))
  writes register (AsObject path own) from to code here is = absurd code
  writes register AsNothing from to code here is = absurd code

  -- a value is assigned to a local in a register
  writes_local : (home : Home) (given : Lowered) (from to : Spot) (lowered : Lowered) → WritesLocal function.points home given from to lowered → Where from (Own (R.Local home.local)) → Where from (Is given) → Gives from to lowered
  writes_local home (AsInteger own tree) from to lowered code here is = with_integer tac owner function About (writes (R.Local home.local) (AsInteger own tree) from to code.0 here is) code.1
  writes_local home (AsPointer pointer target) from to lowered code here is =
      let led = writes (R.Local home.local) (AsPointer pointer target) from to code.0 here is in
      with_found tac owner function About led code.1 (λ end about. is (led.fits end) about)
  writes_local home (AsObject path own) from to lowered code here is = absurd code.0
  writes_local home AsNothing from to lowered code here is = absurd code.0

  pub stores : (used : Bool) (given : Lowered) (path : Path) (own : CType) (from to : Spot) (lowered : Lowered) → Stores function.points used path own given from to lowered → is_scalar own ≡ true
      → Where from (Reaches path own) → Where from (Is given) → Gives from to lowered
  stores true (AsInteger int_type tree) path own from to lowered code scalar here is =
      let front = assigned from tree code.0 in
      with_integer tac owner function About
      (leads_then tac owner function About front
      (emits tac owner function About (behind (with_temporary from)) to (O.Store path own (IntegerOperand (Held (temporary from)))) code.1 (λ end about. (tt, accessed path own (here (front.fits end) about) scalar))))
      code.2
  stores false (AsInteger int_type tree) path own from to lowered code scalar here is =
      with_nothing tac owner function About (emits tac owner function About from to (O.Store path own (IntegerOperand tree)) code.0 (λ end about. (tt, accessed path own (here end about) scalar))) code.1
  stores true (AsPointer pointer target) path own from to lowered code scalar here is =
      let led = emits tac owner function About from to (O.Store path own (PointerOperand pointer)) code.0 (λ end about. ((λ is_data null. is end about), accessed path own (here end about) scalar)) in
      with_found tac owner function About led code.1 (λ end about. is (led.fits end) about)
  stores false (AsPointer pointer target) path own from to lowered code scalar here is =
      let led = emits tac owner function About from to (O.Store path own (PointerOperand pointer)) code.0 (λ end about. ((λ is_data null. is end about), accessed path own (here end about) scalar)) in
      with_found tac owner function About led code.1 (λ end about. is (led.fits end) about)
  stores true (AsObject p c) path own from to lowered code scalar here is = absurd code
  stores false (AsObject p c) path own from to lowered code scalar here is = absurd code
  stores true AsNothing path own from to lowered code scalar here is = absurd code
  stores false AsNothing path own from to lowered code scalar here is = absurd code

  pub joins : (one : Lowered) (from to : Spot) (lowered : Lowered) → Joins function.points one from to lowered → Where from (Is one) → Gives from to lowered
  joins (AsInteger own tree) from to lowered code is = gives_integer tac owner function About from to lowered (λ register. O.Assign register tree) own code (λ end about. tt)
  joins (AsPointer pointer target) from to lowered code is =
      gives_pointer tac owner function About from to lowered (λ register. O.Copy register pointer) target code (λ end about own null. (own, is end about))
  joins (AsObject path own) from to lowered code is = absurd code
  joins AsNothing from to lowered code is = with_nothing tac owner function About (stays tac owner function About from to code.0) code.1

  pub joins_with : (joined other : Lowered) (from to : Spot) → JoinsWith function.points joined other from to → Where from (Is joined) → Where from (Is other) → Leads from to
  joins_with (AsInteger own (Held register)) (AsInteger int_type tree) from to code is more = emits tac owner function About from to (O.Assign register tree) code (λ end about. tt)
  joins_with (AsPointer register target) (AsPointer pointer other) from to code is more = emits tac owner function About from to (O.Copy register pointer) code (λ end about null. (is end about, more end about))
  joins_with AsNothing AsNothing from to code is more = stays tac owner function About from to code
  joins_with joined other from to code is more = absurd code

  -- the first element of an array, or one more of its elements
  in_array : (path : Path) (element : CType) (size : ℕ) (index : Tree) → Reaches path (Array element size) → Reaches (then_step path (Element index)) element
  in_array path element size index it = then_found tac owner function path (Element index) (Array element size) element it (element, size, refl, refl)

  decays_kept : (path : Path) (element : CType) (size : ℕ) (from to : Spot) (lowered : Lowered) → Decays function.points Kept path element size from to lowered → Where from (Reaches path (Array element size)) → Gives from to lowered
  decays_kept path element size from to lowered code here =
      let first = then_step path (Element (Constant (pos 0))) in
      gives_pointer tac owner function About from to lowered (λ register. O.AddressOf register first) element code
      (λ end about own. (own, path_stands tac owner function its.here its.made its.filled first element (in_array path element size (Constant (pos 0)) (here end about))))

  pub decays : (mode : Mode) (path : Path) (element : CType) (size : ℕ) (from to : Spot) (lowered : Lowered) → Decays function.points mode path element size from to lowered → Where from (Reaches path (Array element size))
      → Gives from to lowered
  decays Kept path element size from to lowered code here = decays_kept path element size from to lowered code here
  decays Dropped path element size from to lowered code here = decays_kept path element size from to lowered code here
  decays (Behind followed) path element size from to lowered code here =
      with_object tac owner function About (then_step path (Element (Constant (pos 0)))) element (stays tac owner function About from to code.0) code.1
      (before code.0 (λ end about. in_array path element size (Constant (pos 0)) (here end about)))
  decays (Row followed) path element size from to lowered code here =
      with_object tac owner function About path (Array element size) (stays tac owner function About from to code.0) code.1 (before code.0 here)

  address : (path : Path) (own : CType) (from to : Spot) (lowered : Lowered) → TakesAddress function.points Kept (AsObject path own) from to lowered → Where from (Reaches path own) → Gives from to lowered
  address path own from to lowered code here =
      gives_pointer tac owner function About from to lowered (λ register. O.AddressOf register path) own code (λ end about mine. (mine, path_stands tac owner function its.here its.made its.filled path own (here end about)))

  same : (found : Lowered) (from to : Spot) (lowered : Lowered) → (to ≡ from) × (lowered ≡ found) → Where from (Is found) → Gives from to lowered
  same found from to lowered code is = with_found tac owner function About (stays tac owner function About from to code.0) code.1 (before code.0 is)

  pub takes_address : (mode : Mode) (found : Lowered) (from to : Spot) (lowered : Lowered) → TakesAddress function.points mode found from to lowered → Where from (Is found) → Gives from to lowered
  takes_address (Behind followed) found from to lowered code is = same found from to lowered code is
  takes_address Kept (AsObject path own) from to lowered code is = address path own from to lowered code is
  takes_address Dropped (AsObject path own) from to lowered code is = address path own from to lowered code is
  takes_address (Row followed) (AsObject path own) from to lowered code is = address path own from to lowered code is
  takes_address Kept (AsPointer pointer target) from to lowered code is = same (AsPointer pointer target) from to lowered code is
  takes_address Dropped (AsPointer pointer target) from to lowered code is = same (AsPointer pointer target) from to lowered code is
  takes_address (Row followed) (AsPointer pointer target) from to lowered code is = same (AsPointer pointer target) from to lowered code is
  takes_address Kept (AsInteger own tree) from to lowered code is = same (AsInteger own tree) from to lowered code is
  takes_address Dropped (AsInteger own tree) from to lowered code is = same (AsInteger own tree) from to lowered code is
  takes_address (Row followed) (AsInteger own tree) from to lowered code is = same (AsInteger own tree) from to lowered code is
  takes_address Kept AsNothing from to lowered code is = same AsNothing from to lowered code is
  takes_address Dropped AsNothing from to lowered code is = same AsNothing from to lowered code is
  takes_address (Row followed) AsNothing from to lowered code is = same AsNothing from to lowered code is

  pub addresses : (callee : Callee) (own : CType) (from to : Spot) (lowered : Lowered) → Addresses function.points callee own from to lowered → Where from (CalleeOwn callee) → Gives from to lowered
  addresses (Known number) own from to lowered code is = gives_pointer tac owner function About from to lowered (λ register. O.FunctionAddress register number) own code (λ end about mine. tt)
  addresses (Through pointer c_type) own from to lowered code is = same (AsPointer pointer c_type) from to lowered code is

  pub moves_pointer : (pointer : Register) (target : CType) (is_minus : Bool) (number : Tree) (from to : Spot) (lowered : Lowered) → MovesPointer function.points pointer target is_minus number from to lowered
      → Where from (Own pointer) → Gives from to lowered
  moves_pointer pointer target is_minus number from to lowered code is =
      gives_pointer tac owner function About from to lowered (λ register. O.Move register pointer target is_minus number) target code (λ end about own null. (own, is end about))

  pub indexes : (is_kept follows : Bool) (found : Lowered) (index : Tree) (from to : Spot) (lowered : Lowered) → Indexes function.points is_kept follows found index from to lowered → Where from (Is found) → Gives from to lowered
  indexes is_kept follows (AsObject path (Array element size)) index from to lowered code is =
      let led = keeps_tree follows index code.0 from to code.1 in
      with_object tac owner function About (then_step path (Element code.0)) element led code.2 (λ end about. in_array path element size code.0 (is (led.fits end) about))
  indexes false follows (AsPointer register target) index from to lowered code is =
      let led = keeps_tree follows index code.0 from to code.1 in
      with_object tac owner function About (path_from (Indexed register target code.0)) target led code.2 (λ end about. record { base = is (led.fits end) about; own = target; is = refl; steps = refl })
  indexes true follows (AsPointer register target) index from to lowered code is = moves_pointer register target false index from to lowered code is
  indexes is_kept follows (AsObject path Void) index from to lowered code is = absurd code
  indexes is_kept follows (AsObject path (Integer int_type)) index from to lowered code is = absurd code
  indexes is_kept follows (AsObject path (Pointer target)) index from to lowered code is = absurd code
  indexes is_kept follows (AsObject path (Struct tag)) index from to lowered code is = absurd code
  indexes is_kept follows (AsObject path (Function result parameters)) index from to lowered code is = absurd code
  indexes is_kept follows (AsInteger int_type tree) index from to lowered code is = absurd code
  indexes is_kept follows AsNothing index from to lowered code is = absurd code

  -- what a pointer was and is
  pub record Steps (from to : Spot) (old new : Lowered) : Type 0 where
    pub spans : Leads from to
    pub was : Where to (Is old)
    pub now : Where to (Is new)

  then_steps : {from mid to : Spot} {old new : Lowered} → Leads from mid → Steps mid to old new → Steps from to old new
  then_steps one other = record { spans = leads_then tac owner function About one other.spans; was = other.was; now = other.now }

  -- a pointer was read, moved and written
  stepped : {from mid last to : Spot} {old new : Lowered} → Gives from mid old → Gives mid last new → Leads last to → Steps from to old new
  stepped one two three = record {
    spans = leads_then tac owner function About one.spans (leads_then tac owner function About two.spans three);
    was = λ end about. one.found (two.spans.fits (three.fits end)) about;
    now = λ end about. two.found (three.fits end) about;
  }

  steps_local : (home : Home) (is_minus : Bool) (number : Tree) (from to : Spot) (old new : Lowered) → StepsLocal function.points home is_minus number from to old new → (About → Own (R.Local home.local)) → Steps from to old new
  steps_local home is_minus number from to old new code here =
      let one = reads home.local home.is_object home.c_type from code.0 old code.4 (λ end about. here about) in
      let two = moves_pointer code.2 code.3 is_minus number code.0 code.1 new code.6 (λ end about. subst Is code.5 (one.found end about)) in
      stepped one two (writes (R.Local home.local) new code.1 to code.7 (λ end about. here about) two.found)

  loaded_scalar : (own : CType) (path : Path) (from to : Spot) (lowered : Lowered) → Loads function.points own path from to lowered → is_scalar own ≡ true
  loaded_scalar (Integer int_type) path from to lowered code = refl
  loaded_scalar (Pointer target) path from to lowered code = refl
  loaded_scalar Void path from to lowered code = absurd code
  loaded_scalar (Array element size) path from to lowered code = absurd code
  loaded_scalar (Struct tag) path from to lowered code = absurd code
  loaded_scalar (Function result parameters) path from to lowered code = absurd code

  steps_object : (path : Path) (own : CType) (is_minus : Bool) (number : Tree) (from to : Spot) (old new : Lowered) → StepsObject function.points path own is_minus number from to old new → Where from (Reaches path own)
      → Steps from to old new
  steps_object path own is_minus number from to old new code here =
      let one = loads own path from code.0 old code.4 here in
      let two = moves_pointer code.2 code.3 is_minus number code.0 code.1 new code.6 (λ end about. subst Is code.5 (one.found end about)) in
      let three = stores false new path own code.1 to new code.7 (loaded_scalar own path from code.0 old code.4) (λ end about. here (one.spans.fits (two.spans.fits end)) about) two.found in
      stepped one two three.spans

  -- ---- forms over the code of their parts

  pub read : (home : Option Home) (object : PartCode) → (About → HomeOwn home) → Part object → Part (ReadCode function.points home object)
  read (Some home) object here one from to lowered code = reads home.local home.is_object home.c_type from to lowered code (λ end about. here about)
  read None object here one from to lowered code =
      let first = one from code.0 (AsObject code.1 code.2) code.3 in
      then_comes tac owner function About first.spans (loads code.2 code.1 code.0 to lowered code.4 first.found)

  pub moved_code : (is_minus : Bool) (pointer number : PartCode) → Part pointer → Part number → Part (MovedCode function.points is_minus pointer number)
  moved_code is_minus pointer number one other from to lowered code =
      let first = one from code.0 (AsPointer code.2 code.3) code.6 in
      let second = other code.0 code.1 (AsInteger code.4 code.5) code.7 in
      then_comes tac owner function About (leads_then tac owner function About first.spans second.spans)
      (moves_pointer code.2 code.3 is_minus code.5 code.1 to lowered code.8 (λ end about. first.found (second.spans.fits end) about))

  -- a part comes to an object of a type of a kind
  abbrev pub Only : (CType → Type 0) → PartCode → Type 0
  Only Kind object = (from to : Spot) (path : Path) (own : CType) → object from to (AsObject path own) → Kind own

  abbrev pub IsScalar : CType → Type 0
  IsScalar own = is_scalar own ≡ true

  pub assign : (used : Bool) (home : Option Home) (object assigned : PartCode) → (About → HomeOwn home) → Only IsScalar object → Part object → Part assigned → Part (AssignCode function.points used home object assigned)
  assign used (Some home) object assigned here scalar one other from to lowered code =
      let first = other from code.0 code.1 code.2 in
      then_comes tac owner function About first.spans (writes_local home code.1 code.0 to lowered code.3 (λ end about. here about) first.found)
  assign used None object assigned here scalar one other from to lowered code =
      let first = one from code.0 (AsObject code.2 code.3) code.5 in
      let second = other code.0 code.1 code.4 code.6 in
      then_comes tac owner function About (leads_then tac owner function About first.spans second.spans)
      (stores used code.4 code.2 code.3 code.1 to lowered code.7 (scalar from code.0 code.2 code.3 code.5) (λ end about. first.found (second.spans.fits end) about) second.found)

  integer_scalar : (own : CType) (int_type : IntType) → own ≡ Integer int_type → is_scalar own ≡ true
  integer_scalar own int_type is = ap is_scalar is

  -- an integer is loaded to a temporary
  load_integer : (from : Spot) (path : Path) (own : CType) (int_type : IntType) → own ≡ Integer int_type → HasOp function.points from.at (O.Load (temporary from) own path) → Where from (Reaches path own)
      → Leads from (behind (with_temporary from))
  load_integer from path own int_type is stands here =
      leads_then tac owner function About (temporary_spans tac owner function About from)
      (point tac owner function About (with_temporary from) (O.Load (temporary from) own path) stands
      (λ end about. (
        (λ is_data. absurd (false≢true (sym (ap is_data_pointer is) ∙ is_data))),
        accessed path own (here ((temporary_spans tac owner function About from).fits end) about) (integer_scalar own int_type is),
      )))

  pub compound : (used : Bool) (home : Option Home) (object operand : PartCode) (own : IntType) (new : Register → Tree → Tree) → Only (λ t. t ≡ Integer own) object → Part object → Part operand
      → Part (CompoundCode function.points used home object operand own new)
  compound used (Some home) object operand own new only one other from to lowered code =
      let first = other from code.0 (AsInteger code.1 code.2) code.3 in
      with_integer tac owner function About
      (leads_then tac owner function About first.spans (emits tac owner function About code.0 to (O.Assign (R.Local home.local) (new (R.Local home.local) code.2)) code.4 (λ end about. tt))) code.5
  compound used None object operand own new only one other from to lowered code =
      let first = one from code.0 (AsObject code.2 code.3) code.6 in
      let second = other code.0 code.1 (AsInteger code.4 code.5) code.7 in
      let is = only from code.0 code.2 code.3 code.6 in
      let there : Where code.1 (Reaches code.2 code.3) = λ end about. first.found (second.spans.fits end) about in
      let third = load_integer code.1 code.2 code.3 own is code.8 there in
      then_comes tac owner function About (leads_then tac owner function About first.spans (leads_then tac owner function About second.spans third))
      (stores used (AsInteger own (new (temporary code.1) code.5)) code.2 code.3 (behind (with_temporary code.1)) to lowered code.9 (integer_scalar code.3 own is) (λ end about. there (third.fits end) about) (λ end about. tt))

  pub pointer : (home : Option Home) (is_minus : Bool) (object number : PartCode) → (About → HomeOwn home) → Part object → Part number → (from to : Spot) (old new : Lowered)
      → PointerCode function.points home object is_minus number from to old new → Steps from to old new
  pointer (Some home) is_minus object number here one other from to old new code =
      then_steps (other from code.0 (AsInteger code.1 code.2) code.3).spans (steps_local home is_minus code.2 code.0 to old new code.4 here)
  pointer None is_minus object number here one other from to old new code =
      let first = one from code.0 (AsObject code.2 code.3) code.6 in
      let second = other code.0 code.1 (AsInteger code.4 code.5) code.7 in
      then_steps (leads_then tac owner function About first.spans second.spans) (steps_object code.2 code.3 is_minus code.5 code.1 to old new code.8 (λ end about. first.found (second.spans.fits end) about))

  steps_home : (keeps : Bool) (stepping : Stepping) (own : IntType) (home : Home) (from to : Spot) (lowered : Lowered) → StepsHome function.points keeps stepping own home from to lowered → Gives from to lowered
  steps_home false stepping own home from to lowered code =
      with_integer tac owner function About (emits tac owner function About from to (O.Assign (R.Local home.local) (step_tree stepping own (R.Local home.local))) code.0 (λ end about. tt)) code.1
  steps_home true stepping own home from to lowered code =
      with_integer tac owner function About
      (leads_then tac owner function About (assigned from (Held (R.Local home.local)) code.0)
      (emits tac owner function About (behind (with_temporary from)) to (O.Assign (R.Local home.local) (step_tree stepping own (R.Local home.local))) code.1 (λ end about. tt))) code.2

  old_or_new : (b : Bool) {from to : Spot} (old new : Lowered) {lowered : Lowered} → Leads from to → lowered ≡ (if b then old else new) → Where to (Is old) → Where to (Is new) → Gives from to lowered
  old_or_new true old new led is was now = with_found tac owner function About led is was
  old_or_new false old new led is was now = with_found tac owner function About led is now

  pub stepping_code : (used : Bool) (stepping : Stepping) (own : IntType) (home : Option Home) (object : PartCode) → Only (λ t. t ≡ Integer own) object → Part object → Part (SteppingCode function.points used stepping own home object)
  stepping_code false stepping own (Some home) object only one from to lowered code = steps_home false stepping own home from to lowered code
  stepping_code true Steppings.PreIncrement own (Some home) object only one from to lowered code = steps_home false Steppings.PreIncrement own home from to lowered code
  stepping_code true Steppings.PreDecrement own (Some home) object only one from to lowered code = steps_home false Steppings.PreDecrement own home from to lowered code
  stepping_code true Steppings.PostIncrement own (Some home) object only one from to lowered code = steps_home true Steppings.PostIncrement own home from to lowered code
  stepping_code true Steppings.PostDecrement own (Some home) object only one from to lowered code = steps_home true Steppings.PostDecrement own home from to lowered code
  stepping_code used stepping own None object only one from to lowered code =
      let first = one from code.0 (AsObject code.1 code.2) code.4 in
      let is = only from code.0 code.1 code.2 code.4 in
      let second = load_integer code.0 code.1 code.2 own is code.5 first.found in
      let third = stores (used && not (gives_old stepping)) (AsInteger own (step_tree stepping own (temporary code.0))) code.1 code.2 (behind (with_temporary code.0)) to code.3 code.6 (integer_scalar code.2 own is)
      (λ end about. first.found (second.fits end) about) (λ end about. tt) in
      old_or_new (gives_old stepping) (AsInteger own (Held (temporary code.0))) code.3 (leads_then tac owner function About first.spans (leads_then tac owner function About second third.spans)) code.7 (λ end about. tt) third.found

  pub stepped_value : (b : Bool) {from to : Spot} {old new lowered : Lowered} → Steps from to old new → lowered ≡ (if b then old else new) → Gives from to lowered
  stepped_value b {old = old} {new = new} steps is = old_or_new b old new steps.spans is steps.was steps.now

  pub logical : (is_and : Bool) (left right : PartCode) → Part left → Part right → Part (LogicalCode function.points is_and left right)
  logical is_and left right one other from to lowered code =
      with_integer tac owner function About
      (leads_then tac owner function About (temporary_spans tac owner function About from)
      (leads_then tac owner function About (one (with_temporary from) code.0 (AsInteger code.4 code.2) code.6).spans
      (leads_then tac owner function About
      (point tac owner function About code.0 (O.Branch code.4 code.2 (if is_and then suc code.0.at else suc (suc code.1.at)) (if is_and then suc (suc code.1.at) else suc code.0.at)) code.7 (λ end about. tt))
      (leads_then tac owner function About (other (behind code.0) code.1 (AsInteger code.5 code.3) code.8).spans
      (leads_then tac owner function About (point tac owner function About code.1 (O.Assign (temporary from) (truth_tree code.5 code.3)) code.9 (λ end about. tt))
      (leads_then tac owner function About (point tac owner function About (behind code.1) (O.Jump to.at) code.10 (λ end about. tt))
      (emits tac owner function About (behind (behind code.1)) to (O.Assign (temporary from) (Constant (if is_and then pos 0 else pos 1))) code.11 (λ end about. tt))))))))
      code.12
