-- The parts of forms that are made of points: from one spot they are the same points, and come to the same.
use Rattle.std.proofs.Common.{◌≡◌, ℕ, suc, Bool, true, false, ◌&&◌, not, List, Option, Some, None, pos, refl, sym, ◌∙◌}
use Rattle.std.specs.Prelude.{if◌then◌else◌}
use Rattle.std.proofs.Math.Path.{transport}
use Rattle.c_num.specs.declared.IntType.{IntType}
use Rattle.c_num.specs.declared.IntType.TheVariants as I
use Rattle.c_typed.specs.declared.typed.Stepping.{Stepping}
use Rattle.c_typed.specs.declared.typed.Stepping.TheVariants as Steppings
use Rattle.c_typed.specs.Types.{CType, Void, Integer, Pointer, Array, Struct, Function}
use Rattle.tac_ir.specs.declared.register.Local.{Local}
use Rattle.tac_ir.specs.declared.register.Register.{Register}
use Rattle.tac_ir.specs.declared.register.Register.TheVariants as R
use Rattle.tac_ir.specs.Code.{Tree, Constant, Held, Indexed, Path, Element, Callee, Known, Through, IntegerOperand, PointerOperand, Op}
use Rattle.tac_ir.specs.Code as O
use Rattle.tac_build.specs.Homes.{Home}
use Rattle.tac_build.specs.Spots.{Spot, behind, with_temporary, temporary, Lowered, AsInteger, AsPointer, AsObject, AsNothing, Mode, Kept, Dropped, Behind, Row}
use Rattle.tac_build.specs.Code.{PartCode, path_from, then_step, truth_tree, gives_old, step_tree, HasOp, Emits, KeepsTree, ReadsLocal, Loads, Writes, WritesLocal, Stores, Joins, JoinsWith, Decays, TakesAddress, Addresses, MovesPointer, StepsLocal, StepsObject, Indexes, ReadCode, MovedCode, AssignCode, CompoundCode, PointerCode, SteppingCode, LogicalCode}
use Rattle.dsa_bottom_up.proofs.CodeIsOne.Agreeing.{Agrees, Ends, Gives, Single, agrees_then, onward, ends_then, gives_then, point, arrives, stays, emits, gives_integer, gives_pointer}
use Rattle.dsa_bottom_up.proofs.Lowering.{type_in, tree_in, register_in, target_in, path_in, object_in}

-- how a local in a register steps, and whether its old value is kept
abbrev StepsHome : List Op → Bool → Stepping → IntType → Home → Spot → Spot → Lowered → Type 0
StepsHome points false stepping own home from to lowered = Emits points (O.Assign (R.Local home.local) (step_tree stepping own (R.Local home.local))) from to × (lowered ≡ AsInteger own (Held (R.Local home.local)))
StepsHome points true stepping own home from to lowered =
    HasOp points from.at (O.Assign (temporary from) (Held (R.Local home.local)))
    × Emits points (O.Assign (R.Local home.local) (step_tree stepping own (R.Local home.local))) (behind (with_temporary from)) to × (lowered ≡ AsInteger own (Held (temporary from)))

module _ (first second : List Op) where
  -- an old value and a new one
  pub record GivesTwo (from to end : Spot) (old new given next : Lowered) : Type 0 where
    pub ends : Ends first second from to end
    pub before : given ≡ old
    pub after : next ≡ new

  -- a point that takes a new temporary
  names_temporary : (from begin : Spot) (op other : Register → Op) → begin ≡ from → other ≡ op → HasOp first from.at (op (temporary from)) → HasOp second begin.at (other (temporary begin))
      → Agrees first second from.at (suc from.at)
  names_temporary from begin op other start ops code again =
      point first second from.at begin.at (op (temporary from)) (other (temporary begin)) (λ i. (start i).at) (λ i. (ops i) (temporary (start i))) code again

  past_temporary : (from to end : Spot) → Agrees first second from.at (suc from.at) → Ends first second (behind (with_temporary from)) to end → Ends first second from to end
  past_temporary from to end here ends = onward first second here ends

  pub keeps_same : (follows : Bool) (tree other kept held : Tree) (from to begin end : Spot) → begin ≡ from → other ≡ tree → KeepsTree first follows tree from to kept → KeepsTree second follows other begin end held
      → Gives first second from to end kept held
  keeps_same false tree other kept held from to begin end start trees code again = record { ends = stays first second from to begin end start code.0 again.0; is = again.1 ∙ trees ∙ sym code.1 }
  keeps_same true tree other kept held from to begin end start trees code again = record {
    ends = arrives first second from to end (behind (with_temporary from)) (behind (with_temporary begin)) code.1 again.1 (λ i. behind (with_temporary (start i)))
        (names_temporary from begin (λ register. O.Assign register tree) (λ register. O.Assign register other) start (λ i register. O.Assign register (trees i)) code.0 again.0);
    is = again.2 ∙ (λ i. Held (temporary (start i))) ∙ sym code.2;
  }

  pub reads_same : (local : Local) (is_object : Bool) (own : CType)
      → Single first second (ReadsLocal first (record { local = local; is_object = is_object; c_type = own })) (ReadsLocal second (record { local = local; is_object = is_object; c_type = own }))
  reads_same local is_object (Integer n) from to begin end lowered given start code again = record { ends = stays first second from to begin end start code.0 again.0; is = again.1 ∙ sym code.1 }
  reads_same local is_object (Pointer target) from to begin end lowered given start code again =
      gives_pointer first second (λ register. O.Copy register (R.Local local)) (λ register. O.Copy register (R.Local local)) target target from to begin end lowered given start refl refl code again
  reads_same local is_object Void from to begin end lowered given start code again = absurd code
  reads_same local is_object (Array element size) from to begin end lowered given start code again = absurd code
  reads_same local is_object (Struct tag) from to begin end lowered given start code again = absurd code
  reads_same local is_object (Function result parameters) from to begin end lowered given start code again = absurd code

  pub loads_same : (own : CType) (path : Path) → Single first second (Loads first own path) (Loads second own path)
  loads_same (Integer n) path from to begin end lowered given start code again =
      gives_integer first second (λ register. O.Load register (Integer n) path) (λ register. O.Load register (Integer n) path) n n from to begin end lowered given start refl refl code again
  loads_same (Pointer target) path from to begin end lowered given start code again =
      gives_pointer first second (λ register. O.Load register (Pointer target) path) (λ register. O.Load register (Pointer target) path) target target from to begin end lowered given start refl refl code again
  loads_same Void path from to begin end lowered given start code again = absurd code
  loads_same (Array element size) path from to begin end lowered given start code again = absurd code
  loads_same (Struct tag) path from to begin end lowered given start code again = absurd code
  loads_same (Function result parameters) path from to begin end lowered given start code again = absurd code

  pub writes_same : (register : Register) (value : Lowered) (from to begin end : Spot) → begin ≡ from → Writes first register value from to → Writes second register value begin end → Ends first second from to end
  writes_same register (AsInteger own tree) from to begin end start code again = emits first second from to begin end (O.Assign register tree) (O.Assign register tree) start refl code again
  writes_same register (AsPointer pointer target) from to begin end start code again = emits first second from to begin end (O.Copy register pointer) (O.Copy register pointer) start refl code again
  writes_same register (AsObject path own) from to begin end start code again = absurd code
  writes_same register AsNothing from to begin end start code again = absurd code

  pub writes_local : (home : Home) (value : Lowered) → Single first second (WritesLocal first home value) (WritesLocal second home value)
  writes_local home (AsInteger own tree) from to begin end lowered given start code again =
      record { ends = writes_same (R.Local home.local) (AsInteger own tree) from to begin end start code.0 again.0; is = again.1 ∙ sym code.1 }
  writes_local home (AsPointer pointer target) from to begin end lowered given start code again =
      record { ends = writes_same (R.Local home.local) (AsPointer pointer target) from to begin end start code.0 again.0; is = again.1 ∙ sym code.1 }
  writes_local home (AsObject path own) from to begin end lowered given start code again = absurd code.0
  writes_local home AsNothing from to begin end lowered given start code again = absurd code.0

  stores_pointer : (path : Path) (own : CType) (pointer : Register) (target : CType)
      → Single first second (Stores first false path own (AsPointer pointer target)) (Stores second false path own (AsPointer pointer target))
  stores_pointer path own pointer target from to begin end lowered given start code again = record {
    ends = emits first second from to begin end (O.Store path own (PointerOperand pointer)) (O.Store path own (PointerOperand pointer)) start refl code.0 again.0;
    is = again.1 ∙ sym code.1;
  }

  pub stores_same : (used : Bool) (path : Path) (own : CType) (value : Lowered) → Single first second (Stores first used path own value) (Stores second used path own value)
  stores_same true path own (AsInteger n tree) from to begin end lowered given start code again = record {
    ends = past_temporary from to end
        (names_temporary from begin (λ register. O.Assign register tree) (λ register. O.Assign register tree) start refl code.0 again.0)
        (emits first second (behind (with_temporary from)) to (behind (with_temporary begin)) end
        (O.Store path own (IntegerOperand (Held (temporary from)))) (O.Store path own (IntegerOperand (Held (temporary begin)))) (λ i. behind (with_temporary (start i)))
        (λ i. O.Store path own (IntegerOperand (Held (temporary (start i))))) code.1 again.1);
    is = again.2 ∙ (λ i. AsInteger n (Held (temporary (start i)))) ∙ sym code.2;
  }
  stores_same false path own (AsInteger n tree) from to begin end lowered given start code again = record {
    ends = emits first second from to begin end (O.Store path own (IntegerOperand tree)) (O.Store path own (IntegerOperand tree)) start refl code.0 again.0;
    is = again.1 ∙ sym code.1;
  }
  stores_same true path own (AsPointer pointer target) from to begin end lowered given start code again = stores_pointer path own pointer target from to begin end lowered given start code again
  stores_same false path own (AsPointer pointer target) from to begin end lowered given start code again = stores_pointer path own pointer target from to begin end lowered given start code again
  stores_same true path own (AsObject p c) from to begin end lowered given start code again = absurd code
  stores_same false path own (AsObject p c) from to begin end lowered given start code again = absurd code
  stores_same true path own AsNothing from to begin end lowered given start code again = absurd code
  stores_same false path own AsNothing from to begin end lowered given start code again = absurd code

  pub joins_same : (value : Lowered) → Single first second (Joins first value) (Joins second value)
  joins_same (AsInteger own tree) from to begin end lowered given start code again =
      gives_integer first second (λ register. O.Assign register tree) (λ register. O.Assign register tree) own own from to begin end lowered given start refl refl code again
  joins_same (AsPointer pointer target) from to begin end lowered given start code again =
      gives_pointer first second (λ register. O.Copy register pointer) (λ register. O.Copy register pointer) target target from to begin end lowered given start refl refl code again
  joins_same (AsObject path own) from to begin end lowered given start code again = absurd code
  joins_same AsNothing from to begin end lowered given start code again = record { ends = stays first second from to begin end start code.0 again.0; is = again.1 ∙ sym code.1 }

  pub joins_with_same : (joined value : Lowered) (from to begin end : Spot) → begin ≡ from → JoinsWith first joined value from to → JoinsWith second joined value begin end → Ends first second from to end
  joins_with_same (AsInteger own (Held register)) (AsInteger n tree) from to begin end start code again = emits first second from to begin end (O.Assign register tree) (O.Assign register tree) start refl code again
  joins_with_same (AsPointer register target) (AsPointer pointer own) from to begin end start code again = emits first second from to begin end (O.Copy register pointer) (O.Copy register pointer) start refl code again
  joins_with_same AsNothing AsNothing from to begin end start code again = stays first second from to begin end start code again
  joins_with_same joined value from to begin end start code again = absurd code

  takes_first : (path : Path) (element : CType) (size : ℕ) → Single first second (Decays first Kept path element size) (Decays second Kept path element size)
  takes_first path element size from to begin end lowered given start code again =
      gives_pointer first second (λ register. O.AddressOf register (then_step path (Element (Constant (pos 0))))) (λ register. O.AddressOf register (then_step path (Element (Constant (pos 0))))) element element
      from to begin end lowered given start refl refl code again

  pub decays_same : (mode : Mode) (path : Path) (element : CType) (size : ℕ) → Single first second (Decays first mode path element size) (Decays second mode path element size)
  decays_same Kept path element size from to begin end lowered given start code again = takes_first path element size from to begin end lowered given start code again
  decays_same Dropped path element size from to begin end lowered given start code again = takes_first path element size from to begin end lowered given start code again
  decays_same (Behind followed) path element size from to begin end lowered given start code again = record { ends = stays first second from to begin end start code.0 again.0; is = again.1 ∙ sym code.1 }
  decays_same (Row followed) path element size from to begin end lowered given start code again = record { ends = stays first second from to begin end start code.0 again.0; is = again.1 ∙ sym code.1 }

  -- an address as a value, of which the path is told, or which is one already
  takes_path : (path : Path) (own : CType) → Single first second (TakesAddress first Kept (AsObject path own)) (TakesAddress second Kept (AsObject path own))
  takes_path path own from to begin end lowered given start code again =
      gives_pointer first second (λ register. O.AddressOf register path) (λ register. O.AddressOf register path) own own from to begin end lowered given start refl refl code again

  is_found : (found : Lowered) → Single first second (TakesAddress first (Behind false) found) (TakesAddress second (Behind false) found)
  is_found found from to begin end lowered given start code again = record { ends = stays first second from to begin end start code.0 again.0; is = again.1 ∙ sym code.1 }

  pub takes_same : (mode : Mode) (found : Lowered) → Single first second (TakesAddress first mode found) (TakesAddress second mode found)
  takes_same (Behind followed) found from to begin end lowered given start code again = is_found found from to begin end lowered given start code again
  takes_same Kept (AsObject path own) from to begin end lowered given start code again = takes_path path own from to begin end lowered given start code again
  takes_same Dropped (AsObject path own) from to begin end lowered given start code again = takes_path path own from to begin end lowered given start code again
  takes_same (Row followed) (AsObject path own) from to begin end lowered given start code again = takes_path path own from to begin end lowered given start code again
  takes_same Kept (AsPointer pointer target) from to begin end lowered given start code again = is_found (AsPointer pointer target) from to begin end lowered given start code again
  takes_same Dropped (AsPointer pointer target) from to begin end lowered given start code again = is_found (AsPointer pointer target) from to begin end lowered given start code again
  takes_same (Row followed) (AsPointer pointer target) from to begin end lowered given start code again = is_found (AsPointer pointer target) from to begin end lowered given start code again
  takes_same Kept (AsInteger own tree) from to begin end lowered given start code again = is_found (AsInteger own tree) from to begin end lowered given start code again
  takes_same Dropped (AsInteger own tree) from to begin end lowered given start code again = is_found (AsInteger own tree) from to begin end lowered given start code again
  takes_same (Row followed) (AsInteger own tree) from to begin end lowered given start code again = is_found (AsInteger own tree) from to begin end lowered given start code again
  takes_same Kept AsNothing from to begin end lowered given start code again = is_found AsNothing from to begin end lowered given start code again
  takes_same Dropped AsNothing from to begin end lowered given start code again = is_found AsNothing from to begin end lowered given start code again
  takes_same (Row followed) AsNothing from to begin end lowered given start code again = is_found AsNothing from to begin end lowered given start code again

  pub addresses_same : (callee : Callee) (own : CType) → Single first second (Addresses first callee own) (Addresses second callee own)
  addresses_same (Known number) own from to begin end lowered given start code again =
      gives_pointer first second (λ register. O.FunctionAddress register number) (λ register. O.FunctionAddress register number) own own from to begin end lowered given start refl refl code again
  addresses_same (Through pointer c_type) own from to begin end lowered given start code again = record { ends = stays first second from to begin end start code.0 again.0; is = again.1 ∙ sym code.1 }

  pub moves_same : (pointer : Register) (target : CType) (is_minus : Bool) (number : Tree) → Single first second (MovesPointer first pointer target is_minus number) (MovesPointer second pointer target is_minus number)
  moves_same pointer target is_minus number from to begin end lowered given start code again =
      gives_pointer first second (λ register. O.Move register pointer target is_minus number) (λ register. O.Move register pointer target is_minus number) target target
      from to begin end lowered given start refl refl code again

  -- an element behind a path that an index tells, which a temporary may hold
  indexes_with : (follows : Bool) (index : Tree) (gives : Tree → Lowered) (from to begin end : Spot) (lowered given : Lowered) → begin ≡ from
      → (kept : Tree) × KeepsTree first follows index from to kept × (lowered ≡ gives kept) → (held : Tree) × KeepsTree second follows index begin end held × (given ≡ gives held)
      → Gives first second from to end lowered given
  indexes_with follows index gives from to begin end lowered given start code again =
      let kept = keeps_same follows index index code.0 again.0 from to begin end start refl code.1 again.1 in
      record { ends = kept.ends; is = again.2 ∙ (λ i. gives (kept.is i)) ∙ sym code.2 }

  pub indexes_same : (is_kept follows : Bool) (found : Lowered) (index : Tree) → Single first second (Indexes first is_kept follows found index) (Indexes second is_kept follows found index)
  indexes_same is_kept follows (AsObject path (Array element size)) index from to begin end lowered given start code again =
      indexes_with follows index (λ kept. AsObject (then_step path (Element kept)) element) from to begin end lowered given start code again
  indexes_same false follows (AsPointer register target) index from to begin end lowered given start code again =
      indexes_with follows index (λ kept. AsObject (path_from (Indexed register target kept)) target) from to begin end lowered given start code again
  indexes_same true follows (AsPointer register target) index from to begin end lowered given start code again = moves_same register target false index from to begin end lowered given start code again
  indexes_same is_kept follows (AsObject path Void) index from to begin end lowered given start code again = absurd code
  indexes_same is_kept follows (AsObject path (Integer n)) index from to begin end lowered given start code again = absurd code
  indexes_same is_kept follows (AsObject path (Pointer target)) index from to begin end lowered given start code again = absurd code
  indexes_same is_kept follows (AsObject path (Struct tag)) index from to begin end lowered given start code again = absurd code
  indexes_same is_kept follows (AsObject path (Function result parameters)) index from to begin end lowered given start code again = absurd code
  indexes_same is_kept follows (AsInteger n tree) index from to begin end lowered given start code again = absurd code
  indexes_same is_kept follows AsNothing index from to begin end lowered given start code again = absurd code

  steps_same : (home : Home) (is_minus : Bool) (number : Tree) (from to begin end : Spot) (old new given next : Lowered) → begin ≡ from → StepsLocal first home is_minus number from to old new
      → StepsLocal second home is_minus number begin end given next → GivesTwo from to end old new given next
  steps_same home is_minus number from to begin end old new given next start code again =
      let read = reads_same home.local home.is_object home.c_type from code.0 begin again.0 old given start code.4 again.4 in
      let value : AsPointer again.2 again.3 ≡ AsPointer code.2 code.3 = sym again.5 ∙ read.is ∙ code.5 in
      let moved = moves_same code.2 code.3 is_minus number code.0 code.1 again.0 again.1 new next read.ends.same code.6
      (transport (λ i. MovesPointer second (register_in (value i)) (target_in (value i)) is_minus number again.0 again.1 next) again.6) in
      let written = writes_same (R.Local home.local) new code.1 to again.1 end moved.ends.same code.7 (transport (λ i. Writes second (R.Local home.local) (moved.is i) again.1 end) again.7) in
      record { ends = ends_then first second read.ends (ends_then first second moved.ends written); before = read.is; after = moved.is }

  steps_object : (path : Path) (own : CType) (is_minus : Bool) (number : Tree) (from to begin end : Spot) (old new given next : Lowered) → begin ≡ from → StepsObject first path own is_minus number from to old new
      → StepsObject second path own is_minus number begin end given next → GivesTwo from to end old new given next
  steps_object path own is_minus number from to begin end old new given next start code again =
      let read = loads_same own path from code.0 begin again.0 old given start code.4 again.4 in
      let value : AsPointer again.2 again.3 ≡ AsPointer code.2 code.3 = sym again.5 ∙ read.is ∙ code.5 in
      let moved = moves_same code.2 code.3 is_minus number code.0 code.1 again.0 again.1 new next read.ends.same code.6
      (transport (λ i. MovesPointer second (register_in (value i)) (target_in (value i)) is_minus number again.0 again.1 next) again.6) in
      let stored = stores_same false path own new code.1 to again.1 end new next moved.ends.same code.7 (transport (λ i. Stores second false path own (moved.is i) again.1 end next) again.7) in
      record { ends = ends_then first second read.ends (ends_then first second moved.ends stored.ends); before = read.is; after = moved.is }

  -- ---- forms over the code of their parts

  pub read_same : (home : Option Home) (object other : PartCode) → Single first second object other → Single first second (ReadCode first home object) (ReadCode second home other)
  read_same (Some home) object other one from to begin end lowered given start code again = reads_same home.local home.is_object home.c_type from to begin end lowered given start code again
  read_same None object other one from to begin end lowered given start code again =
      let found = one from code.0 begin again.0 (AsObject code.1 code.2) (AsObject again.1 again.2) start code.3 again.3 in
      gives_then first second found.ends (loads_same code.2 code.1 code.0 to again.0 end lowered given found.ends.same code.4
      (transport (λ i. Loads second (object_in (found.is i)) (path_in (found.is i)) again.0 end given) again.4))

  pub moved_same : (is_minus : Bool) (pointer number other amount : PartCode) → Single first second pointer other → Single first second number amount
      → Single first second (MovedCode first is_minus pointer number) (MovedCode second is_minus other amount)
  moved_same is_minus pointer number other amount one two from to begin end lowered given start code again =
      let found = one from code.0 begin again.0 (AsPointer code.2 code.3) (AsPointer again.2 again.3) start code.6 again.6 in
      let counted = two code.0 code.1 again.0 again.1 (AsInteger code.4 code.5) (AsInteger again.4 again.5) found.ends.same code.7 again.7 in
      gives_then first second found.ends (gives_then first second counted.ends (moves_same code.2 code.3 is_minus code.5 code.1 to again.1 end lowered given counted.ends.same code.8
      (transport (λ i. MovesPointer second (register_in (found.is i)) (target_in (found.is i)) is_minus (tree_in (counted.is i)) again.1 end given) again.8)))

  pub assign_same : (used : Bool) (home : Option Home) (object assigned other value : PartCode) → Single first second object other → Single first second assigned value
      → Single first second (AssignCode first used home object assigned) (AssignCode second used home other value)
  assign_same used (Some home) object assigned other value one two from to begin end lowered given start code again =
      let made = two from code.0 begin again.0 code.1 again.1 start code.2 again.2 in
      gives_then first second made.ends (writes_local home code.1 code.0 to again.0 end lowered given made.ends.same code.3
      (transport (λ i. WritesLocal second home (made.is i) again.0 end given) again.3))
  assign_same used None object assigned other value one two from to begin end lowered given start code again =
      let found = one from code.0 begin again.0 (AsObject code.2 code.3) (AsObject again.2 again.3) start code.5 again.5 in
      let made = two code.0 code.1 again.0 again.1 code.4 again.4 found.ends.same code.6 again.6 in
      gives_then first second found.ends (gives_then first second made.ends (stores_same used code.2 code.3 code.4 code.1 to again.1 end lowered given made.ends.same code.7
      (transport (λ i. Stores second used (path_in (found.is i)) (object_in (found.is i)) (made.is i) again.1 end given) again.7)))

  pub compound_same : (used : Bool) (home : Option Home) (object operand other value : PartCode) (own : IntType) (new : Register → Tree → Tree) → Single first second object other → Single first second operand value
      → Single first second (CompoundCode first used home object operand own new) (CompoundCode second used home other value own new)
  compound_same used (Some home) object operand other value own new one two from to begin end lowered given start code again =
      let made = two from code.0 begin again.0 (AsInteger code.1 code.2) (AsInteger again.1 again.2) start code.3 again.3 in
      record {
        ends = ends_then first second made.ends
            (emits first second code.0 to again.0 end (O.Assign (R.Local home.local) (new (R.Local home.local) code.2)) (O.Assign (R.Local home.local) (new (R.Local home.local) again.2)) made.ends.same
            (λ i. O.Assign (R.Local home.local) (new (R.Local home.local) (tree_in (made.is i)))) code.4 again.4);
        is = again.5 ∙ sym code.5;
      }
  compound_same used None object operand other value own new one two from to begin end lowered given start code again =
      let found = one from code.0 begin again.0 (AsObject code.2 code.3) (AsObject again.2 again.3) start code.6 again.6 in
      let made = two code.0 code.1 again.0 again.1 (AsInteger code.4 code.5) (AsInteger again.4 again.5) found.ends.same code.7 again.7 in
      let loaded = names_temporary code.1 again.1 (λ register. O.Load register code.3 code.2) (λ register. O.Load register again.3 again.2) made.ends.same
      (λ i register. O.Load register (object_in (found.is i)) (path_in (found.is i))) code.8 again.8 in
      let stored = stores_same used code.2 code.3 (AsInteger own (new (temporary code.1) code.5)) (behind (with_temporary code.1)) to (behind (with_temporary again.1)) end lowered given
      (λ i. behind (with_temporary (made.ends.same i))) code.9
      (transport (λ i. Stores second used (path_in (found.is i)) (object_in (found.is i)) (AsInteger own (new (temporary (made.ends.same i)) (tree_in (made.is i)))) (behind (with_temporary again.1)) end given) again.9) in
      record { ends = ends_then first second found.ends (ends_then first second made.ends (past_temporary code.1 to end loaded stored.ends)); is = stored.is }

  pub pointer_same : (home : Option Home) (is_minus : Bool) (object number other amount : PartCode) → Single first second object other → Single first second number amount
      → (from to begin end : Spot) (old new given next : Lowered) → begin ≡ from → PointerCode first home object is_minus number from to old new → PointerCode second home other is_minus amount begin end given next
      → GivesTwo from to end old new given next
  pointer_same (Some home) is_minus object number other amount one two from to begin end old new given next start code again =
      let counted = two from code.0 begin again.0 (AsInteger code.1 code.2) (AsInteger again.1 again.2) start code.3 again.3 in
      let stepped = steps_same home is_minus code.2 code.0 to again.0 end old new given next counted.ends.same code.4
      (transport (λ i. StepsLocal second home is_minus (tree_in (counted.is i)) again.0 end given next) again.4) in
      record { ends = ends_then first second counted.ends stepped.ends; before = stepped.before; after = stepped.after }
  pointer_same None is_minus object number other amount one two from to begin end old new given next start code again =
      let found = one from code.0 begin again.0 (AsObject code.2 code.3) (AsObject again.2 again.3) start code.6 again.6 in
      let counted = two code.0 code.1 again.0 again.1 (AsInteger code.4 code.5) (AsInteger again.4 again.5) found.ends.same code.7 again.7 in
      let stepped = steps_object code.2 code.3 is_minus code.5 code.1 to again.1 end old new given next counted.ends.same code.8
      (transport (λ i. StepsObject second (path_in (found.is i)) (object_in (found.is i)) is_minus (tree_in (counted.is i)) again.1 end given next) again.8) in
      record { ends = ends_then first second found.ends (ends_then first second counted.ends stepped.ends); before = stepped.before; after = stepped.after }

  steps_home : (keeps : Bool) (stepping : Stepping) (own : IntType) (home : Home) → Single first second (StepsHome first keeps stepping own home) (StepsHome second keeps stepping own home)
  steps_home false stepping own home from to begin end lowered given start code again = record {
    ends = emits first second from to begin end (O.Assign (R.Local home.local) (step_tree stepping own (R.Local home.local))) (O.Assign (R.Local home.local) (step_tree stepping own (R.Local home.local))) start refl code.0 again.0;
    is = again.1 ∙ sym code.1;
  }
  steps_home true stepping own home from to begin end lowered given start code again = record {
    ends = past_temporary from to end
        (names_temporary from begin (λ register. O.Assign register (Held (R.Local home.local))) (λ register. O.Assign register (Held (R.Local home.local))) start refl code.0 again.0)
        (emits first second (behind (with_temporary from)) to (behind (with_temporary begin)) end (O.Assign (R.Local home.local) (step_tree stepping own (R.Local home.local)))
        (O.Assign (R.Local home.local) (step_tree stepping own (R.Local home.local))) (λ i. behind (with_temporary (start i))) refl code.1 again.1);
    is = again.2 ∙ (λ i. AsInteger own (Held (temporary (start i)))) ∙ sym code.2;
  }

  pub stepping_same : (used : Bool) (stepping : Stepping) (own : IntType) (home : Option Home) (object other : PartCode) → Single first second object other
      → Single first second (SteppingCode first used stepping own home object) (SteppingCode second used stepping own home other)
  stepping_same false stepping own (Some home) object other one from to begin end lowered given start code again = steps_home false stepping own home from to begin end lowered given start code again
  stepping_same true Steppings.PreIncrement own (Some home) object other one from to begin end lowered given start code again = steps_home false Steppings.PreIncrement own home from to begin end lowered given start code again
  stepping_same true Steppings.PreDecrement own (Some home) object other one from to begin end lowered given start code again = steps_home false Steppings.PreDecrement own home from to begin end lowered given start code again
  stepping_same true Steppings.PostIncrement own (Some home) object other one from to begin end lowered given start code again = steps_home true Steppings.PostIncrement own home from to begin end lowered given start code again
  stepping_same true Steppings.PostDecrement own (Some home) object other one from to begin end lowered given start code again = steps_home true Steppings.PostDecrement own home from to begin end lowered given start code again
  stepping_same used stepping own None object other one from to begin end lowered given start code again =
      let found = one from code.0 begin again.0 (AsObject code.1 code.2) (AsObject again.1 again.2) start code.4 again.4 in
      let loaded = names_temporary code.0 again.0 (λ register. O.Load register code.2 code.1) (λ register. O.Load register again.2 again.1) found.ends.same
      (λ i register. O.Load register (object_in (found.is i)) (path_in (found.is i))) code.5 again.5 in
      let stored = stores_same (used && not (gives_old stepping)) code.1 code.2 (AsInteger own (step_tree stepping own (temporary code.0))) (behind (with_temporary code.0)) to (behind (with_temporary again.0)) end
      code.3 again.3 (λ i. behind (with_temporary (found.ends.same i))) code.6
      (transport (λ i. Stores second (used && not (gives_old stepping)) (path_in (found.is i)) (object_in (found.is i)) (AsInteger own (step_tree stepping own (temporary (found.ends.same i))))
      (behind (with_temporary again.0)) end again.3) again.6) in
      record {
        ends = ends_then first second found.ends (past_temporary code.0 to end loaded stored.ends);
        is = again.7 ∙ (λ i. if gives_old stepping then AsInteger own (Held (temporary (found.ends.same i))) else stored.is i) ∙ sym code.7;
      }

  pub logical_same : (is_and : Bool) (left right other value : PartCode) → Single first second left other → Single first second right value
      → Single first second (LogicalCode first is_and left right) (LogicalCode second is_and other value)
  logical_same is_and left right other value one two from to begin end lowered given start code again =
      let tested = one (with_temporary from) code.0 (with_temporary begin) again.0 (AsInteger code.4 code.2) (AsInteger again.4 again.2) (λ i. with_temporary (start i)) code.6 again.6 in
      let made = two (behind code.0) code.1 (behind again.0) again.1 (AsInteger code.5 code.3) (AsInteger again.5 again.3) (λ i. behind (tested.ends.same i)) code.8 again.8 in
      let branched = point first second code.0.at again.0.at
      (O.Branch code.4 code.2 (if is_and then suc code.0.at else suc (suc code.1.at)) (if is_and then suc (suc code.1.at) else suc code.0.at))
      (O.Branch again.4 again.2 (if is_and then suc again.0.at else suc (suc again.1.at)) (if is_and then suc (suc again.1.at) else suc again.0.at))
      (λ i. (tested.ends.same i).at)
      (λ i. O.Branch (type_in (tested.is i)) (tree_in (tested.is i)) (if is_and then suc (tested.ends.same i).at else suc (suc (made.ends.same i).at)) (if is_and then suc (suc (made.ends.same i).at) else suc (tested.ends.same i).at))
      code.7 again.7 in
      let assigned = point first second code.1.at again.1.at (O.Assign (temporary from) (truth_tree code.5 code.3)) (O.Assign (temporary begin) (truth_tree again.5 again.3)) (λ i. (made.ends.same i).at)
      (λ i. O.Assign (temporary (start i)) (truth_tree (type_in (made.is i)) (tree_in (made.is i)))) code.9 again.9 in
      let short = emits first second (behind (behind code.1)) to (behind (behind again.1)) end (O.Assign (temporary from) (Constant (if is_and then pos 0 else pos 1)))
      (O.Assign (temporary begin) (Constant (if is_and then pos 0 else pos 1))) (λ i. behind (behind (made.ends.same i)))
      (λ i. O.Assign (temporary (start i)) (Constant (if is_and then pos 0 else pos 1))) code.11 again.11 in
      let jumped = point first second (suc code.1.at) (suc again.1.at) (O.Jump to.at) (O.Jump end.at) (λ i. suc (made.ends.same i).at) (λ i. O.Jump (short.same i).at) code.10 again.10 in
      record {
        ends = record {
          same = short.same;
          agrees = agrees_then first second tested.ends.agrees (agrees_then first second branched (agrees_then first second made.ends.agrees (agrees_then first second assigned (agrees_then first second jumped short.agrees))));
        };
        is = again.12 ∙ (λ i. AsInteger I.Int (Held (temporary (start i)))) ∙ sym code.12;
      }
