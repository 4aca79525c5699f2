-- Elements of rows are found on both sides.
use Rattle.std.proofs.Common.{◌≡◌, ℕ, ◌+◌, ◌*◌, ◌≤◌, ◌<◌, Bool, true, false, not, ◌||◌, nat_lt, List, [], ◌∷◌, Option, Some, None, ℤ, pos, negsuc, ◌+ℤ◌, ◌*ℤ◌, refl, sym, ap, ◌∙◌, subst, le_of_lt, arith}
use Rattle.std.proofs.lemmas.Bool.{true≢false, and_parts, or_parts, not-false, ltb-true}
use Rattle.std.proofs.Math.IntN.{+ℤ_idl}
use Rattle.run_theory.specs.declared.place.Pos.{Pos}
use Rattle.run_theory.specs.declared.ends.UbKind.TheVariants as Ub
use Rattle.c_num.specs.declared.IntType.{IntType}
use Rattle.c_typed.specs.Types.{CType, Void, Integer, Pointer, Array, Struct, Function}
use Rattle.c_typed.specs.Layouts.{is_complete}
use Rattle.c_typed.specs.Typed as T
use Rattle.c_typed.specs.Typed.{Value, Program}
use Rattle.c_typed.specs.Expressions.{type_of, element}
use Rattle.c_typed.specs.Programs.{IsWellTyped}
use Rattle.c_typed.specs.Sizes.{makes, is_storable}
use Rattle.ref_semantics.specs.Values as V
use Rattle.ref_semantics.specs.Values.{Place, Scalar, PointerValue, IntegerValue, place_of, at_index, integer_of}
use Rattle.ref_semantics.specs.Store as S
use Rattle.ref_semantics.specs.Store.{Then, premise, give, continue_with, offset_of, decayed, is_dead, is_dead_pointer, is_null_pointer}
use Rattle.ref_semantics.specs.Meaning.{Calls, value}
use Rattle.ref_semantics.specs.Pointers as P
use Rattle.ref_semantics.specs.Pointers.{index_moved, is_negative, is_at_least, or_zero}
use Rattle.ref_semantics.specs.First.{around_of}
use Rattle.ref_semantics.specs.Sound.{HasType, Later}
use Rattle.ref_semantics.specs.Keeping.{CallsKeep}
use Rattle.ref_semantics.proofs.Lasting.{type_lasts}
use Rattle.c_typed.proofs.Splitting.{two_parts, element_parts}
use Rattle.tac_ir.specs.declared.register.Register.{Register}
use Rattle.tac_ir.specs.Code.{Op, Tac, Tree, Path, Held, Indexed, Element}
use Rattle.tac_ir.specs.Values.{Address}
use Rattle.tac_ir.specs.Layouts as M
use Rattle.tac_ir.specs.Objects.{leads, stepped, at_offset, element_at, pointed as pointed_at, offset_moved}
use Rattle.tac_ir.specs.Trees.{Registers, computes, integer_in, tree_nodes}
use Rattle.tac_ir.specs.States.{State}
use Rattle.tac_build.specs.Homes.{Scope, is_pure}
use Rattle.tac_build.specs.Spots.{Spot, behind, with_temporary, temporary, Lowered, AsInteger, AsPointer, AsObject, AsNothing, Kept, Row}
use Rattle.tac_build.specs.Code as C
use Rattle.tac_build.specs.Code.{path_from, then_step, Indexes, ValueCode}
use Rattle.tac_build.specs.Forms.{context_of, HasForm, SpotGrows}
use Rattle.tac_build.proofs.Naming.{grows_to, grows_then, temporary_grows, behind_grows}
use Rattle.tac_simulation.specs.Standing.{Placement, Frame, KeepsBefore, At, IsAlive, WhereAlive, MemoryStands, HoldsFor, LoweredStands, PathStands, surroundings}
use Rattle.tac_simulation.proofs.Paths.{Passage as Passing, Does, comes, eased, eases, allows}
use Rattle.tac_simulation.proofs.Spotting.{Runs}
use Rattle.tac_simulation.proofs.Evaluating
use Rattle.tac_simulation.proofs.Evaluating.{ValueDoes, laid_by, value_units}
use Rattle.tac_simulation.proofs.Combining.{ticked, then_value}
use Rattle.tac_simulation.proofs.Constants.{left_most}
use Rattle.tac_build.proofs.Forms.{value_form}
use Rattle.tac_simulation.proofs.Alive.{where_alive}
use Rattle.tac_simulation.proofs.Lasting.{lives_later, holds_later}
use Rattle.tac_simulation.proofs.Looking.{not_dead, when_alive, living_place}
use Rattle.tac_simulation.proofs.Moving.{offset_moves}
use Rattle.tac_build.proofs.Named.{value_named}
use Rattle.tac_simulation.proofs.Parts.{array_place}
use Rattle.tac_simulation.proofs.Unchanged.{value_leads, pointer_keeps, keeps_fewer, keeps_then}
use Rattle.tac_simulation.proofs.Leading.{cost_then, leads_then}
use Rattle.tac_simulation.proofs.Finding.{Finds, LeadsTo, unless_does}
use Rattle.tac_simulation.proofs.Reaching.{to_place}
use Rattle.tac_simulation.proofs.Resting.{ValueRests, then_rests, keeps_tree}

-- ---- indices

natural_is : (idx : ℕ) (z : ℤ) → index_moved 0 z ≡ Some idx → pos 0 +ℤ z ≡ pos idx
natural_is idx z e = by (pos 0 +ℤ z) refl
  where
    by : (sum : ℤ) → pos 0 +ℤ z ≡ sum → pos 0 +ℤ z ≡ pos idx
    by (pos n) is = cc
    by (negsuc n) is = absurd (cc)

pub from_first : (idx : ℕ) (z : ℤ) → index_moved 0 z ≡ Some idx → z ≡ pos idx
from_first idx z e = sym (+ℤ_idl z) ∙ natural_is idx z e

pub index_inside : (count : ℕ) (index : Option ℕ) → is_at_least count index ≡ false → is_negative index ≡ false → (idx : ℕ) × (index ≡ Some idx) × (idx < count)
index_inside count None least negative = absurd (true≢false negative)
index_inside count (Some k) least negative = (k, refl, ltb-true k count (not-false (nat_lt k count) least))

-- ---- what an index gives

abbrev pub indexed_by : Lowered → Tree → Lowered
indexed_by (AsObject path (Array element count)) kept = AsObject (then_step path (Element kept)) element
indexed_by (AsPointer register target) kept = AsObject (path_from (Indexed register target kept)) target
indexed_by found kept = AsNothing

-- an array or a pointer
abbrev pub IsRow : Lowered → Type 0
IsRow (AsObject path (Array element count)) = Unit {0}
IsRow (AsPointer register target) = Unit {0}
IsRow found = ⊥

pub indexed_cost : (found : Lowered) (kept : Tree) → laid_by (indexed_by found kept) ≤ laid_by found + 2 + 2 * tree_nodes kept
indexed_cost (AsInteger own tree) kept = omega arith
indexed_cost (AsPointer register target) kept = omega arith
indexed_cost AsNothing kept = omega arith
indexed_cost (AsObject path (Array element count)) kept = let more = cost_then path (Element kept) in omega (arith, more)
indexed_cost (AsObject path Void) kept = omega arith
indexed_cost (AsObject path (Integer t)) kept = omega arith
indexed_cost (AsObject path (Pointer t)) kept = omega arith
indexed_cost (AsObject path (Struct t)) kept = omega arith
indexed_cost (AsObject path (Function t ts)) kept = omega arith

pub indexes_object : (points : List Op) (followed : Bool) (found : Lowered) (index : Tree) (from to : Spot) (lowered : Lowered) → Indexes points false followed found index from to lowered
    → (kept : Tree) × C.KeepsTree points followed index from to kept × (lowered ≡ indexed_by found kept)
indexes_object points followed (AsObject path (Array element count)) index from to lowered code = code
indexes_object points followed (AsPointer register target) index from to lowered code = code
indexes_object points followed (AsInteger own tree) index from to lowered code = absurd code
indexes_object points followed AsNothing index from to lowered code = absurd code
indexes_object points followed (AsObject path Void) index from to lowered code = absurd code
indexes_object points followed (AsObject path (Integer t)) index from to lowered code = absurd code
indexes_object points followed (AsObject path (Pointer t)) index from to lowered code = absurd code
indexes_object points followed (AsObject path (Struct t)) index from to lowered code = absurd code
indexes_object points followed (AsObject path (Function t ts)) index from to lowered code = absurd code

pointer_integer : {t : CType} {own : IntType} → Pointer t ≡ Integer own → ⊥
pointer_integer e = cc

pointer_void : {t : CType} → Pointer t ≡ Void → ⊥
pointer_void e = cc

pointer_is : {t u : CType} → Pointer t ≡ Pointer u → t ≡ u
pointer_is e = cc

where_maps : (content : V.Content) (A B : Type 0) → (A → B) → WhereAlive content A → WhereAlive content B
where_maps V.Dead A B more stands = tt
where_maps (V.Raw size) A B more stands = more stands
where_maps (V.Elements is_static c_type count held) A B more stands = more stands

-- a tree that is kept in a temporary lasts
pub kept_grows : (from to : Spot) → to ≡ behind (with_temporary from) → SpotGrows from to
kept_grows from to is = grows_to is (grows_then (temporary_grows from) (behind_grows (with_temporary from)))

pub held_lasts : (from to : Spot) (kept : Tree) → to ≡ behind (with_temporary from) → kept ≡ Held (temporary from) → (before after : Registers) → KeepsBefore to.counts before after → computes after kept ≡ computes before kept
held_lasts from to kept is held before after keeps =
    let named : from.counts.temporaries < to.counts.temporaries = subst (λ (spot : Spot). from.counts.temporaries < spot.counts.temporaries) (sym is) (omega arith) in
    subst (λ k. computes after k ≡ computes before k) (sym held) (ap integer_in (keeps (temporary from) named))

module _ (tac : Tac) (program : Program) (calls : Calls) (worth : ℕ) (points : List Op) (placement : Placement) (hidden : ℕ → Option V.Content) (frame : Frame) (scope : Scope)
    (runs : Runs tac program points frame) (well : IsWellTyped program) (keep : CallsKeep program calls) where
  abbrev Leads' : Registers → Place → Lowered → Type 0
  Leads' registers place lowered = LeadsTo tac program calls worth points placement hidden frame scope runs well keep registers place lowered

  -- ---- rows that last

  -- registers give the same object, or the same pointer
  abbrev pub Lasts : Registers → Registers → Lowered → Type 0
  Lasts before after (AsPointer register target) = after register ≡ before register
  Lasts before after (AsObject path own) = leads (surroundings program frame) after path ≡ leads (surroundings program frame) before path
  Lasts before after found = Unit {0}

  pub found_lasts : (tree : Value) (flag : Bool) (from to : Spot) (found : Lowered) (before after : Registers) → ValueCode program points scope (Row flag) tree from to found → KeepsBefore to.counts before after
      → (flag ≡ false → after ≡ before) → Lasts before after found
  found_lasts tree flag from to (AsInteger own index) before after code keeps same = tt
  found_lasts tree flag from to AsNothing before after code keeps same = tt
  found_lasts tree flag from to (AsPointer register target) before after code keeps same = pointer_keeps program points scope (surroundings program frame) before after tree (Row flag) from to register target code keeps
  found_lasts tree true from to (AsObject path own) before after code keeps same = value_leads program points scope (surroundings program frame) before after tree (Row true) from to path own refl code keeps
  found_lasts tree false from to (AsObject path own) before after code keeps same = ap (λ registers. leads (surroundings program frame) registers path) (same refl)

  pub row_later : (s s' : S.State) → Later s s' → (flag : Bool) (found : Lowered) (t : CType) (scalar : Scalar) (before after : Registers) → Lasts before after found → HasForm (Row flag) found (Pointer t) → HasType program s (Pointer t) scalar
      → LoweredStands program (Row flag) frame placement s.objects before found scalar → LoweredStands program (Row flag) frame placement s'.objects after found scalar
  row_later s s' later flag (AsInteger own tree) t scalar before after lasts form typed stands = absurd (pointer_integer form)
  row_later s s' later flag (AsPointer register target) t scalar before after lasts form typed stands =
      let holds = holds_later program placement s s' later (Pointer t) scalar (before register) refl typed stands in
      (holds.0, lasts ∙ holds.1, holds.2)
  row_later s s' later flag (AsObject path own) t scalar before after lasts form typed stands =
      let given = (subst (λ v. HasType program s (Pointer t) v) stands.1 typed).1.given in (
        stands.0,
        stands.1,
        stands.2,
        where_maps (s'.objects stands.0.name) _ _ (λ path_stands. (path_stands.0, path_stands.1, lasts ∙ path_stands.2, path_stands.3))
            (where_alive (s.objects stands.0.name) (s'.objects stands.0.name) _ (lives_later program placement s s' later stands.0.name given) stands.3),
      )
  row_later s s' later flag AsNothing t scalar before after lasts form typed stands = tt

  -- ---- where an index leads

  -- in an array
  pub row_leads : (registers : Registers) (path : Path) (element : CType) (count : ℕ) (kept : Tree) (row : Place) (z : ℤ) (idx : ℕ) → row.row.c_type ≡ Array element count
      → PathStands program frame placement registers path (Array element count) row → computes registers kept ≡ Some z → index_moved 0 z ≡ Some idx → idx ≤ (decayed (around_of program) row).row.count
      → PathStands program frame placement registers (then_step path (Element kept)) element (at_index (decayed (around_of program) row) idx)
  row_leads registers path element count kept row z idx own stands computed moves le =
      let array = array_place (around_of program) row element count own in
      let counts : (decayed (around_of program) row).row.count ≡ count = ap (λ (r : V.Row). r.count) array.row in
      let at : M.element_of program.structs idx (record { offset = stands.1; c_type = Array element count }) ≡ Some (record { offset = offset_of (around_of program) (at_index (decayed (around_of program) row) idx); c_type = element })
      = subst (λ k. M.element_of program.structs idx (record { offset = k; c_type = Array element count }) ≡ Some (record { offset = offset_of (around_of program) (at_index (decayed (around_of program) row) idx); c_type = element }))
      (sym stands.3.1) (array.elements idx (subst (λ k. idx ≤ k) counts le)) in
      let further = ap (λ index. element_at program.structs index (record { offset = stands.1; c_type = Array element count })) (computed ∙ ap Some (from_first idx z moves)) ∙ at in (
        stands.0,
        offset_of (around_of program) (at_index (decayed (around_of program) row) idx),
        leads_then (surroundings program frame) registers path (Element kept) stands.0 (record { offset = stands.1; c_type = Array element count })
            (record { offset = offset_of (around_of program) (at_index (decayed (around_of program) row) idx); c_type = element }) stands.2 further,
        (stands.3.0, refl),
      )

  -- behind a pointer
  pub moved_leads : (s : S.State) (state : State) (register : Register) (target : CType) (kept : Tree) (place : Place) (z : ℤ) (idx : ℕ) → MemoryStands program placement s.objects state.objects
      → is_dead (s.objects place.name) ≡ false → HoldsFor program s.objects placement (PointerValue place) (state.running.registers register) → place.row.c_type ≡ target → computes state.running.registers kept ≡ Some z
      → index_moved place.index z ≡ Some idx → PathStands program frame placement state.running.registers (path_from (Indexed register target kept)) target (at_index place idx)
  moved_leads s state register target kept place z idx memory lives holds own computed moves =
      let living = living_place program placement s.objects state.objects memory place holds.0 lives holds.2 in
      let further : offset_moved (offset_of (around_of program) place) (z *ℤ pos (M.size_of program.structs target)) ≡ Some (offset_of (around_of program) (at_index place idx))
      = subst (λ c. offset_moved (offset_of (around_of program) place) (z *ℤ pos (M.size_of program.structs c)) ≡ Some (offset_of (around_of program) (at_index place idx))) own
      (offset_moves place.row.start place.index idx (M.size_of program.structs place.row.c_type) z moves) in (
        living.object,
        offset_of (around_of program) (at_index place idx),
        ap (λ held. stepped (surroundings program frame) state.running.registers [] (pointed_at (surroundings program frame) target held (computes state.running.registers kept))) (holds.1 ∙ ap Some living.value_is)
            ∙ ap (λ number. stepped (surroundings program frame) state.running.registers [] (pointed_at (surroundings program frame) target (Some (Address living.object (offset_of (around_of program) place))) number)) computed
            ∙ ap (λ offset. stepped (surroundings program frame) state.running.registers [] (at_offset living.object target offset)) further,
        (living.is_image, refl),
      )

  pub indexed_leads : (s : S.State) (state : State) (flag : Bool) (found : Lowered) (t : CType) (kept : Tree) (place : Place) (z : ℤ) (idx : ℕ) → MemoryStands program placement s.objects state.objects
      → is_dead (s.objects place.name) ≡ false → HasForm (Row flag) found (Pointer t) → LoweredStands program (Row flag) frame placement s.objects state.running.registers found (PointerValue place) → place.row.c_type ≡ t
      → computes state.running.registers kept ≡ Some z → index_moved place.index z ≡ Some idx → idx ≤ place.row.count → Leads' state.running.registers (at_index place idx) (indexed_by found kept)
  indexed_leads s state flag (AsInteger own tree) t kept place z idx memory lives form stands is computed moves le = absurd (pointer_integer form)
  indexed_leads s state flag AsNothing t kept place z idx memory lives form stands is computed moves le = absurd (pointer_void form)
  indexed_leads s state flag (AsPointer register target) t kept place z idx memory lives form stands is computed moves le =
      moved_leads s state register target kept place z idx memory lives stands (is ∙ pointer_is form) computed moves
  indexed_leads s state flag (AsObject path own) t kept place z idx memory lives form stands is computed moves le =
      let same : place ≡ decayed (around_of program) stands.0 = ap place_of stands.1 in
      let alive = not_dead (s.objects stands.0.name) (subst (λ (p : Place). is_dead (s.objects p.name) ≡ false) same lives) in
      subst (λ c. Leads' state.running.registers (at_index place idx) (indexed_by (AsObject path c) kept)) (sym form.2)
      (subst (λ (p : Place). PathStands program frame placement state.running.registers (then_step path (Element kept)) form.0 (at_index p idx)) (sym same)
      (row_leads state.running.registers path form.0 form.1 kept stands.0 z idx (stands.2 ∙ form.2)
      (subst (λ c. PathStands program frame placement state.running.registers path c stands.0) form.2 (when_alive (s.objects stands.0.name) _ alive stands.3))
      computed (subst (λ (p : Place). index_moved p.index z ≡ Some idx) same moves) (subst (λ (p : Place). idx ≤ p.row.count) same le)))

  -- ---- elements

  -- The code has come to the element.
  pub record Indexed' (from to : Spot) (found : Lowered) (kept : Tree) (before : Registers) (place : Place) (s : S.State) (state : State) : Type 0 where
    pub came : Evaluating.Came tac program calls worth points placement hidden frame scope from to before s state
    pub leads : Leads' state.running.registers place (indexed_by found kept)
    pub alive : IsAlive (s.objects place.name)

  pub element_does : {start : State} {n lag slack : ℕ} (here : Pos) (flag : Bool) (from to : Spot) (found : Lowered) (kept : Tree) (before : Registers) (t : CType) (z : ℤ) (scalar : Scalar) (s : S.State) (state : State)
      → Passing tac worth start state n s.units lag slack → Evaluating.Came tac program calls worth points placement hidden frame scope from to before s state
      → LoweredStands program (Row flag) frame placement s.objects state.running.registers found scalar → HasForm (Row flag) found (Pointer t) → HasType program s (Pointer t) scalar → is_complete program.structs t ≡ true
      → computes state.running.registers kept ≡ Some z → Does tac worth start n lag slack (Indexed' from to found kept before) (P.element here scalar z s)
  element_does {start} {n} {lag} {slack} here flag from to found kept before t z scalar s state p came stands form typed complete computed =
      unless_does here
      (premise (is_dead_pointer s.objects scalar) Ub.U06 ∷ premise (is_null_pointer scalar) Ub.U05 ∷ premise (is_at_least (place_of scalar).row.count (index_moved (place_of scalar).index z)) Ub.U07
      ∷ premise (is_negative (index_moved (place_of scalar).index z)) Ub.U08 ∷ [])
      (give (at_index (place_of scalar) (or_zero (index_moved (place_of scalar).index z)))) s (λ none.
      to_place program well s
      (λ pointer. is_dead_pointer s.objects pointer ≡ false → LoweredStands program (Row flag) frame placement s.objects state.running.registers found pointer
      → is_at_least (place_of pointer).row.count (index_moved (place_of pointer).index z) ≡ false → is_negative (index_moved (place_of pointer).index z) ≡ false
      → Does tac worth start n lag slack (Indexed' from to found kept before) (Then (at_index (place_of pointer) (or_zero (index_moved (place_of pointer).index z))) s))
      t complete
      (λ place is_place own lives stands' least negative.
      let inside = index_inside place.row.count (index_moved place.index z) least negative in
      comes (at_index place (or_zero (index_moved place.index z))) s state p (record {
        came = came;
        leads = subst (λ k. Leads' state.running.registers (at_index place k) (indexed_by found kept)) (sym (ap or_zero inside.1))
            (indexed_leads s state flag found t kept place z inside.0 came.there.stands.memory lives form stands' own computed inside.1 (le_of_lt inside.2));
        alive = not_dead (s.objects place.name) lives;
      }))
      scalar typed none.1.0 none.0 stands none.1.1.0 none.1.1.1.0)

  -- what an operand that is an integer comes to
  pub integer_is : (amount : Scalar) (z : ℤ) → amount ≡ IntegerValue z → z ≡ integer_of amount
  integer_is amount z is = sym (ap integer_of is)

  pub elements : (here : Pos) (pointer number : Value) → ValueDoes tac program calls worth points placement hidden frame scope pointer
      → ValueRests tac program calls worth points placement hidden frame scope runs well keep number
      → Finds tac program calls worth points placement hidden frame scope runs well keep (T.Element here pointer number)
  elements here pointer number follows rests followed from to path c_type t code typed small start n lag slack s state p h =
      let parts = two_parts (type_of (context_of program scope) pointer) (type_of (context_of program scope) number) (element program.structs) t typed in
      let target = element_parts program.structs parts.a parts.b t parts.gave in
      let own = parts.left ∙ ap Some target.0 in
      let sizes = and_parts (makes (is_storable program.structs) pointer) (makes (is_storable program.structs) number) small in
      let form = value_form program points scope pointer (Row (followed || not (is_pure scope number))) (Pointer t) from code.0 code.2 own code.5 in
      let by_index = indexes_object points followed code.2 code.4 code.1 to (AsObject path c_type) code.7 in
      let left = left_most pointer in
      let left' = left_most number in
      ticked tac program calls worth points placement hidden frame scope runs well keep
      (λ u. continue_with (λ a v. continue_with (λ b. P.element here a (integer_of b)) (value (around_of program) calls number v)) (value (around_of program) calls pointer u)) from.at s state p h (omega arith) (λ units p' h'.
      then_value tac program calls worth points placement hidden frame scope runs well keep pointer follows (λ a v. continue_with (λ b. P.element here a (integer_of b)) (value (around_of program) calls number v))
      (Row (followed || not (is_pure scope number))) from code.0 code.2 (Pointer t) code.5 own sizes.0 (record s { units = units }) state p' h' (omega arith)
      (λ scalar s2 state2 q came keeps type.
      then_rests tac program calls worth points placement hidden frame scope runs well keep number rests (λ b. P.element here scalar (integer_of b)) Kept code.0 code.1 (AsInteger code.3 code.4) parts.b code.6 parts.right sizes.1 s2 state2 q
      (record { stands = came.0.there; sound = keeps.sound }) (omega arith)
      (λ amount s3 state3 q3 rest keeps3 type3.
      let computed = rest.0.1.2 ∙ ap Some (integer_is amount rest.0.1.0 rest.0.1.1) in
      let q4 : Passing tac worth start state3 n s3.units (lag + (1 + value_units pointer + value_units number)) (slack + laid_by code.2 + 17 + (2 * tree_nodes code.4 + 5)) = eased q3 (omega arith) (omega (arith, left, left')) in
      let at = keeps_tree tac program calls worth points placement hidden frame scope runs well keep (slack + laid_by code.2 + 17) followed code.4 by_index.0 (integer_of amount) code.1 to s3 state3 by_index.1 q4 rest.0.0.there computed in
      let first = (value_named program points scope pointer (Row (followed || not (is_pure scope number))) from code.0 code.2 code.5).grows in
      let second = (value_named program points scope number Kept code.0 code.1 (AsInteger code.3 code.4) code.6).grows in
      let kept_mid : KeepsBefore code.0.counts state2.running.registers at.after.running.registers =
      keeps_then code.0.counts state2.running.registers state3.running.registers at.after.running.registers rest.0.0.kept (keeps_fewer state3.running.registers at.after.running.registers second at.keeps) in
      let kept_from : KeepsBefore from.counts state.running.registers at.after.running.registers =
      keeps_then from.counts state.running.registers state2.running.registers at.after.running.registers came.0.kept (keeps_fewer state2.running.registers at.after.running.registers first kept_mid) in
      let lasts = found_lasts pointer (followed || not (is_pure scope number)) from code.0 code.2 state2.running.registers at.after.running.registers code.5 kept_mid
      (λ e. let neither = or_parts followed (not (is_pure scope number)) e in at.rests neither.0 ∙ rest.1 (not-false (is_pure scope number) neither.1)) in
      let stands = row_later s2 s3 keeps3.later (followed || not (is_pure scope number)) code.2 t scalar state2.running.registers at.after.running.registers lasts form type came.1 in
      eases (allows (element_does here (followed || not (is_pure scope number)) from to code.2 by_index.0 state.running.registers t (integer_of amount) scalar s3 at.after at.path (record { there = at.there; kept = kept_from })
      stands form (type_lasts program keeps3.later (Pointer t) scalar type) target.1 at.computed)
      (λ place s4 state4 reached. (reached.came, subst (Leads' state4.running.registers place) (sym by_index.2) reached.leads, reached.alive)))
      (omega arith) (let laid = ap laid_by by_index.2 in let cost = indexed_cost code.2 by_index.0 in omega (arith, laid, cost)))))

  pub elements_of : (here : Pos) (number pointer : Value) → ValueDoes tac program calls worth points placement hidden frame scope number
      → ValueDoes tac program calls worth points placement hidden frame scope pointer
      → Finds tac program calls worth points placement hidden frame scope runs well keep (T.ElementOf here number pointer)
  elements_of here number pointer follows' follows followed from to path c_type t code typed small start n lag slack s state p h =
      let parts = two_parts (type_of (context_of program scope) pointer) (type_of (context_of program scope) number) (element program.structs) t typed in
      let target = element_parts program.structs parts.a parts.b t parts.gave in
      let own = parts.left ∙ ap Some target.0 in
      let sizes = and_parts (makes (is_storable program.structs) number) (makes (is_storable program.structs) pointer) small in
      let form = value_form program points scope pointer (Row followed) (Pointer t) code.1 code.2 code.6 own code.9 in
      let by_index = indexes_object points false code.6 code.5 code.2 to (AsObject path c_type) code.10 in
      let left = left_most pointer in
      let left' = left_most number in
      ticked tac program calls worth points placement hidden frame scope runs well keep
      (λ u. continue_with (λ b v. continue_with (λ a. P.element here a (integer_of b)) (value (around_of program) calls pointer v)) (value (around_of program) calls number u)) from.at s state p h (omega arith) (λ units p' h'.
      then_value tac program calls worth points placement hidden frame scope runs well keep number follows' (λ b v. continue_with (λ a. P.element here a (integer_of b)) (value (around_of program) calls pointer v))
      Kept from code.0 (AsInteger code.3 code.4) parts.b code.7 parts.right sizes.0 (record s { units = units }) state p' h' (omega arith)
      (λ amount s2 state2 q came keeps type.
      let computed = came.1.2 ∙ ap Some (integer_is amount came.1.0 came.1.1) in
      let q2 : Passing tac worth start state2 n s2.units (lag + (1 + value_units number)) (slack + 12 + (2 * tree_nodes code.4 + 5)) = eased q (omega arith) (omega (arith, left')) in
      let at = keeps_tree tac program calls worth points placement hidden frame scope runs well keep (slack + 12) true code.4 code.5 (integer_of amount) code.0 code.1 s2 state2 code.8 q2 came.0.there computed in
      let first = (value_named program points scope number Kept from code.0 (AsInteger code.3 code.4) code.7).grows in
      let second = kept_grows code.0 code.1 code.8.1 in
      let third = (value_named program points scope pointer (Row followed) code.1 code.2 code.6 code.9).grows in
      let kept_from : KeepsBefore from.counts state.running.registers at.after.running.registers =
      keeps_then from.counts state.running.registers state2.running.registers at.after.running.registers came.0.kept (keeps_fewer state2.running.registers at.after.running.registers first at.keeps) in
      then_value tac program calls worth points placement hidden frame scope runs well keep pointer follows (λ a. P.element here a (integer_of amount)) (Row followed) code.1 code.2 code.6 (Pointer t) code.9 own sizes.1 s2 at.after at.path
      (record { stands = at.there; sound = keeps.sound }) (omega arith)
      (λ scalar s3 state3 q3 came3 keeps3 type3.
      let still = held_lasts code.0 code.1 code.5 code.8.1 code.8.2 at.after.running.registers state3.running.registers came3.0.kept ∙ at.computed in
      let kept : KeepsBefore from.counts state.running.registers state3.running.registers =
      keeps_then from.counts state.running.registers at.after.running.registers state3.running.registers kept_from (keeps_fewer at.after.running.registers state3.running.registers (grows_then first second) came3.0.kept) in
      eases (allows (element_does here followed from code.2 code.6 code.5 state.running.registers t (integer_of amount) scalar s3 state3 q3 (record { there = came3.0.there; kept = kept })
      came3.1 form type3 target.1 still)
      (λ place s4 state4 reached. (
        record { there = subst (λ (spot : Spot). At program placement hidden frame scope spot.at s4 state4) (sym by_index.1.0) reached.came.there; kept = reached.came.kept },
        subst (Leads' state4.running.registers place) (sym (by_index.2 ∙ ap (indexed_by code.6) by_index.1.1)) reached.leads,
        reached.alive,
      )))
      (omega arith) (let laid = ap laid_by (by_index.2 ∙ ap (indexed_by code.6) by_index.1.1) in let cost = indexed_cost code.6 code.5 in omega (arith, laid, cost, left)))))
