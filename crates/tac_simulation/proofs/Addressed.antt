-- Addresses of elements are taken on both sides.
use Rattle.std.proofs.Common.{◌≡◌, ℕ, ◌+◌, ◌*◌, ◌≤◌, Bool, true, false, not, ◌&&◌, ◌||◌, List, [], ◌∷◌, Option, Some, None, ℤ, ◌⊎◌, inl, inr, refl, sym, ap, ◌∙◌, subst, arith}
use Rattle.std.proofs.lemmas.Bool.{true≢false, and_parts, or_parts, not-false, ltb-false}
use Rattle.run_theory.specs.declared.place.Pos.{Pos}
use Rattle.run_theory.specs.declared.ends.UbKind.TheVariants as Ub
use Rattle.c_typed.specs.Types.{CType, Void, Integer, Pointer, Array, Struct, Function}
use Rattle.c_typed.specs.Layouts.{is_complete}
use Rattle.c_typed.specs.Typed as T
use Rattle.c_typed.specs.Typed.{Value, Program}
use Rattle.c_typed.specs.Expressions.{type_of, element}
use Rattle.c_typed.specs.Programs.{IsWellTyped}
use Rattle.c_typed.specs.Sizes.{makes, is_storable}
use Rattle.ref_semantics.specs.Values as V
use Rattle.ref_semantics.specs.Values.{Place, Scalar, PointerValue, place_of, at_index, integer_of}
use Rattle.ref_semantics.specs.Store as S
use Rattle.ref_semantics.specs.Store.{Then, premise, give, continue_with, is_dead_pointer, is_null_pointer}
use Rattle.ref_semantics.specs.Meaning.{Calls, value}
use Rattle.ref_semantics.specs.Pointers.{added, index_moved, is_negative, is_above, or_zero}
use Rattle.ref_semantics.specs.First.{around_of}
use Rattle.ref_semantics.specs.Sound.{HasType, Sound}
use Rattle.ref_semantics.specs.Keeping.{CallsKeep}
use Rattle.ref_semantics.proofs.Lasting.{type_lasts}
use Rattle.c_typed.proofs.Splitting.{two_parts, element_parts}
use Rattle.tac_ir.specs.declared.register.Register.{Register}
use Rattle.tac_ir.specs.Code.{Op, Tac, Tree}
use Rattle.tac_ir.specs.Trees.{Registers, computes, tree_nodes}
use Rattle.tac_ir.specs.States.{State}
use Rattle.tac_build.specs.Homes.{Scope, is_pure}
use Rattle.tac_build.specs.Spots.{Spot, Lowered, AsInteger, AsPointer, AsObject, AsNothing, Kept, Row, pointed_mode}
use Rattle.tac_build.specs.Code as C
use Rattle.tac_build.specs.Code.{Indexes, MovesPointer}
use Rattle.tac_build.specs.Forms.{context_of, HasForm, SpotGrows}
use Rattle.tac_simulation.specs.Standing.{Placement, Frame, KeepsBefore, IsAlive, LoweredStands, PointedStands}
use Rattle.tac_build.proofs.Naming.{grows_then}
use Rattle.tac_simulation.proofs.Paths.{Passage as Passing, Does, comes, eased, eases, allows}
use Rattle.tac_simulation.proofs.Spotting.{Runs, kept_same}
use Rattle.tac_simulation.proofs.Evaluating
use Rattle.tac_simulation.proofs.Evaluating.{ValueDoes, laid_by, value_units, stood}
use Rattle.tac_simulation.proofs.Combining.{ticked, then_value}
use Rattle.tac_simulation.proofs.Constants.{left_most}
use Rattle.tac_build.proofs.Forms.{value_form}
use Rattle.tac_simulation.proofs.Looking.{not_dead}
use Rattle.tac_build.proofs.Named.{value_named}
use Rattle.tac_simulation.proofs.Unchanged.{keeps_fewer, keeps_then}
use Rattle.tac_simulation.proofs.Pointing.{moves_pointer}
use Rattle.tac_simulation.proofs.Finding.{LeadsTo, unless_does}
use Rattle.tac_simulation.proofs.Reaching.{to_place}
use Rattle.tac_simulation.proofs.Resting.{ValueRests, then_rests, keeps_tree}
use Rattle.tac_simulation.proofs.Indexing.{indexed_by, indexed_cost, found_lasts, row_later, indexed_leads, kept_grows, held_lasts, integer_is}
use Rattle.tac_simulation.proofs.Addressing.{Addresses, always}

pub index_at_most : (count : ℕ) (index : Option ℕ) → (is_negative index || is_above count index) ≡ false → (idx : ℕ) × (index ≡ Some idx) × (idx ≤ count)
index_at_most count None outside = absurd (true≢false outside)
index_at_most count (Some k) outside = (k, refl, ltb-false count k outside)

pointer_is : {t u : CType} → Pointer t ≡ Pointer u → t ≡ u
pointer_is e = cc

-- an index behind a row is a step of a path, or moves a pointer whose address is kept
pub record Steps (points : List Op) (followed : Bool) (found : Lowered) (index : Tree) (from to : Spot) (lowered : Lowered) : Type 0 where
  pub kept : Tree
  pub keeps : C.KeepsTree points followed index from to kept
  pub is : lowered ≡ indexed_by found kept

pub record Moves (points : List Op) (is_kept : Bool) (found : Lowered) (index : Tree) (from to : Spot) (lowered : Lowered) : Type 0 where
  pub register : Register
  pub target : CType
  pub found_is : found ≡ AsPointer register target
  pub is : is_kept ≡ true
  pub moves : MovesPointer points register target false index from to lowered

pub indexes_address : (points : List Op) (is_kept followed : Bool) (found : Lowered) (index : Tree) (from to : Spot) (lowered : Lowered) → Indexes points is_kept followed found index from to lowered
    → Steps points followed found index from to lowered ⊎ Moves points is_kept found index from to lowered
indexes_address points is_kept followed (AsObject path (Array element count)) index from to lowered code = inl (record { kept = code.0; keeps = code.1; is = code.2 })
indexes_address points false followed (AsPointer register target) index from to lowered code = inl (record { kept = code.0; keeps = code.1; is = code.2 })
indexes_address points true followed (AsPointer register target) index from to lowered code = inr (record { register = register; target = target; found_is = refl; is = refl; moves = code })
indexes_address points true followed (AsInteger own tree) index from to lowered code = absurd code
indexes_address points false followed (AsInteger own tree) index from to lowered code = absurd code
indexes_address points true followed AsNothing index from to lowered code = absurd code
indexes_address points false followed AsNothing index from to lowered code = absurd code
indexes_address points true followed (AsObject path Void) index from to lowered code = absurd code
indexes_address points true followed (AsObject path (Integer t)) index from to lowered code = absurd code
indexes_address points true followed (AsObject path (Pointer t)) index from to lowered code = absurd code
indexes_address points true followed (AsObject path (Struct t)) index from to lowered code = absurd code
indexes_address points true followed (AsObject path (Function t ts)) index from to lowered code = absurd code
indexes_address points false followed (AsObject path Void) index from to lowered code = absurd code
indexes_address points false followed (AsObject path (Integer t)) index from to lowered code = absurd code
indexes_address points false followed (AsObject path (Pointer t)) index from to lowered code = absurd code
indexes_address points false followed (AsObject path (Struct t)) index from to lowered code = absurd code
indexes_address points false followed (AsObject path (Function t ts)) index from to lowered code = absurd code

module _ (tac : Tac) (program : Program) (calls : Calls) (worth : ℕ) (points : List Op) (placement : Placement) (hidden : ℕ → Option V.Content) (frame : Frame) (scope : Scope)
    (runs : Runs tac program points frame) (well : IsWellTyped program) (keep : CallsKeep program calls) where
  abbrev Leads' : Registers → Place → Lowered → Type 0
  Leads' registers place lowered = LeadsTo tac program calls worth points placement hidden frame scope runs well keep registers place lowered

  -- The code has come to an element, or to the end of its row.
  pub record AddedTo (from to : Spot) (found : Lowered) (kept : Tree) (before : Registers) (scalar : Scalar) (s : S.State) (state : State) : Type 0 where
    pub came : Evaluating.Came tac program calls worth points placement hidden frame scope from to before s state
    pub place : Place
    pub is : scalar ≡ PointerValue place
    pub leads : Leads' state.running.registers place (indexed_by found kept)
    pub alive : IsAlive (s.objects place.name)

  added_does : {start : State} {n lag slack : ℕ} (here : Pos) (flag : Bool) (from to : Spot) (found : Lowered) (kept : Tree) (before : Registers) (t : CType) (z : ℤ) (scalar : Scalar) (s : S.State) (state : State)
      → Passing tac worth start state n s.units lag slack → Evaluating.Came tac program calls worth points placement hidden frame scope from to before s state
      → LoweredStands program (Row flag) frame placement s.objects state.running.registers found scalar → HasForm (Row flag) found (Pointer t) → HasType program s (Pointer t) scalar → is_complete program.structs t ≡ true
      → computes state.running.registers kept ≡ Some z → Does tac worth start n lag slack (AddedTo from to found kept before) (added here scalar z s)
  added_does {start} {n} {lag} {slack} here flag from to found kept before t z scalar s state p came stands form typed complete computed =
      unless_does here
      (premise (is_dead_pointer s.objects scalar) Ub.U06
      ∷ premise (not (is_null_pointer scalar) && (is_negative (index_moved (place_of scalar).index z) || is_above (place_of scalar).row.count (index_moved (place_of scalar).index z))) Ub.U08
      ∷ premise (is_null_pointer scalar) Ub.U17 ∷ [])
      (give (PointerValue (at_index (place_of scalar) (or_zero (index_moved (place_of scalar).index z))))) s (λ none.
      to_place program well s
      (λ pointer. is_dead_pointer s.objects pointer ≡ false → LoweredStands program (Row flag) frame placement s.objects state.running.registers found pointer
      → (not (is_null_pointer pointer) && (is_negative (index_moved (place_of pointer).index z) || is_above (place_of pointer).row.count (index_moved (place_of pointer).index z))) ≡ false
      → Does tac worth start n lag slack (AddedTo from to found kept before) (Then (PointerValue (at_index (place_of pointer) (or_zero (index_moved (place_of pointer).index z)))) s))
      t complete
      (λ place is_place own lives stands' outside.
      let inside = index_at_most place.row.count (index_moved place.index z) outside in
      comes (PointerValue (at_index place (or_zero (index_moved place.index z)))) s state p (record {
        came = came;
        place = at_index place (or_zero (index_moved place.index z));
        is = refl;
        leads = subst (λ k. Leads' state.running.registers (at_index place k) (indexed_by found kept)) (sym (ap or_zero inside.1))
            (indexed_leads tac program calls worth points placement hidden frame scope runs well keep s state flag found t kept place z inside.0 came.there.stands.memory lives form stands' own computed inside.1 inside.2);
        alive = not_dead (s.objects place.name) lives;
      }))
      scalar typed none.1.1.0 none.0 stands none.1.0)

  -- the path of a living object is its address
  to_address : (is_kept followed : Bool) (objects : S.Objects) (registers : Registers) (lowered : Lowered) (scalar : Scalar) (place : Place) → scalar ≡ PointerValue place → IsAlive (objects place.name) → Leads' registers place lowered
      → LoweredStands program (pointed_mode is_kept followed) frame placement objects registers lowered scalar
  to_address true followed objects registers (AsObject path own) scalar place is alive leads = (place, is, alive, leads)
  to_address false followed objects registers (AsObject path own) scalar place is alive leads =
      subst (λ x. PointedStands program frame placement objects registers path own x) (sym is) (always (objects place.name) leads)
  to_address is_kept followed objects registers (AsInteger own tree) scalar place is alive leads = absurd leads
  to_address is_kept followed objects registers (AsPointer register target) scalar place is alive leads = absurd leads
  to_address is_kept followed objects registers AsNothing scalar place is alive leads = absurd leads

  -- an index behind a row, where its address is asked for
  index_address : {start : State} {n lag : ℕ} (slack : ℕ) (here : Pos) (is_kept followed keeps_flag flag : Bool) (from next to : Spot) (found : Lowered) (index : Tree) (lowered : Lowered) (before : Registers) (t : CType) (z : ℤ)
      (scalar : Scalar) (s : S.State) (state : State) → Passing tac worth start state n s.units lag (slack + laid_by found + 8 + (2 * tree_nodes index + 5))
      → Evaluating.Came tac program calls worth points placement hidden frame scope from next before s state → Sound (context_of program scope) s → SpotGrows from next
      → ((after : Registers) → KeepsBefore next.counts state.running.registers after → (keeps_flag ≡ false → after ≡ state.running.registers) → LoweredStands program (Row flag) frame placement s.objects after found scalar)
      → HasForm (Row flag) found (Pointer t) → HasType program s (Pointer t) scalar → is_complete program.structs t ≡ true → computes state.running.registers index ≡ Some z → Indexes points is_kept keeps_flag found index next to lowered
      → Does tac worth start n lag (slack + (laid_by lowered + 6)) (Evaluating.ComesToValue tac program calls worth points placement hidden frame scope (pointed_mode is_kept followed) from to lowered before) (added here scalar z s)
  index_address {start} {n} {lag} slack here is_kept followed keeps_flag flag from next to found index lowered before t z scalar s state p came sound grows stands form typed complete computed code =
      by (indexes_address points is_kept keeps_flag found index next to lowered code)
    where
      by : Steps points keeps_flag found index next to lowered ⊎ Moves points is_kept found index next to lowered
          → Does tac worth start n lag (slack + (laid_by lowered + 6)) (Evaluating.ComesToValue tac program calls worth points placement hidden frame scope (pointed_mode is_kept followed) from to lowered before) (added here scalar z s)
      by (inl steps) =
          let at = keeps_tree tac program calls worth points placement hidden frame scope runs well keep (slack + laid_by found + 8) keeps_flag index steps.kept z next to s state steps.keeps p came.there computed in
          let kept_from = keeps_then from.counts before state.running.registers at.after.running.registers came.kept (keeps_fewer state.running.registers at.after.running.registers grows at.keeps) in
          let laid = ap laid_by steps.is in
          let cost = indexed_cost found steps.kept in
          eases (allows (added_does here flag from to found steps.kept before t z scalar s at.after at.path (record { there = at.there; kept = kept_from }) (stands at.after.running.registers at.keeps at.rests) form typed complete at.computed)
          (λ value s2 state2 reached. (reached.came, stood (pointed_mode is_kept followed) _ (to_address is_kept followed s2.objects state2.running.registers lowered value reached.place reached.is reached.alive (subst (Leads' state2.running.registers reached.place) (sym steps.is) reached.leads)))))
          (omega arith) (omega (arith, laid, cost))
      by (inr moves) =
          let same : t ≡ moves.target = pointer_is (subst (λ l. HasForm (Row flag) l (Pointer t)) moves.found_is form) in
          let holds = subst (λ l. LoweredStands program (Row flag) frame placement s.objects state.running.registers l scalar) moves.found_is (stands state.running.registers (kept_same next.counts state.running.registers) (λ e. refl)) in
          let laid = ap laid_by moves.moves.2 in
          subst (λ (b : Bool). Does tac worth start n lag (slack + (laid_by lowered + 6)) (Evaluating.ComesToValue tac program calls worth points placement hidden frame scope (pointed_mode b followed) from to lowered before) (added here scalar z s))
          (sym moves.is)
          (moves_pointer tac program calls worth points placement hidden frame scope runs well keep here false moves.register moves.target index z z Kept from next to lowered before scalar s state p came sound grows moves.moves
          (subst (λ u. is_complete program.structs u ≡ true) same complete)
          (record { held = holds.0; holds = holds.1; stands = holds.2; typed = subst (λ u. HasType program s (Pointer u) scalar) same typed }) computed refl (omega arith) (omega (arith, laid)))

  pub element_addresses : (here : Pos) (pointer number : Value) → ValueDoes tac program calls worth points placement hidden frame scope pointer
      → ValueRests tac program calls worth points placement hidden frame scope runs well keep number
      → Addresses tac program calls worth points placement hidden frame scope runs well keep (T.Element here pointer number)
  element_addresses here pointer number follows rests is_kept followed from to lowered t code typed small start n lag slack s state p h =
      let parts = two_parts (type_of (context_of program scope) pointer) (type_of (context_of program scope) number) (element program.structs) t typed in
      let target = element_parts program.structs parts.a parts.b t parts.gave in
      let own = parts.left ∙ ap Some target.0 in
      let sizes = and_parts (makes (is_storable program.structs) pointer) (makes (is_storable program.structs) number) small in
      let form = value_form program points scope pointer (Row (followed || not (is_pure scope number))) (Pointer t) from code.0 code.2 own code.5 in
      let left = left_most pointer in
      let left' = left_most number in
      ticked tac program calls worth points placement hidden frame scope runs well keep
      (λ u. continue_with (λ a v. continue_with (λ b. added here a (integer_of b)) (value (around_of program) calls number v)) (value (around_of program) calls pointer u)) from.at s state p h (omega arith) (λ units p' h'.
      then_value tac program calls worth points placement hidden frame scope runs well keep pointer follows (λ a v. continue_with (λ b. added here a (integer_of b)) (value (around_of program) calls number v))
      (Row (followed || not (is_pure scope number))) from code.0 code.2 (Pointer t) code.5 own sizes.0 (record s { units = units }) state p' h' (omega arith)
      (λ scalar s2 state2 q came keeps type.
      then_rests tac program calls worth points placement hidden frame scope runs well keep number rests (λ b. added here scalar (integer_of b)) Kept code.0 code.1 (AsInteger code.3 code.4) parts.b code.6 parts.right sizes.1 s2 state2 q
      (record { stands = came.0.there; sound = keeps.sound }) (omega arith)
      (λ amount s3 state3 q3 rest keeps3 type3.
      let computed = rest.0.1.2 ∙ ap Some (integer_is tac program calls worth points placement hidden frame scope runs well keep amount rest.0.1.0 rest.0.1.1) in
      let first = (value_named program points scope pointer (Row (followed || not (is_pure scope number))) from code.0 code.2 code.5).grows in
      let second = (value_named program points scope number Kept code.0 code.1 (AsInteger code.3 code.4) code.6).grows in
      let kept_from = keeps_then from.counts state.running.registers state2.running.registers state3.running.registers came.0.kept (keeps_fewer state2.running.registers state3.running.registers first rest.0.0.kept) in
      let q4 : Passing tac worth start state3 n s3.units (lag + (1 + value_units pointer + value_units number)) (slack + laid_by code.2 + 8 + (2 * tree_nodes code.4 + 5)) = eased q3 (omega arith) (omega (arith, left, left')) in
      index_address slack here is_kept followed followed (followed || not (is_pure scope number)) from code.1 to code.2 code.4 lowered state.running.registers t (integer_of amount) scalar s3 state3
      q4 (record { there = rest.0.0.there; kept = kept_from }) keeps3.sound (grows_then first second)
      (λ after kept same. row_later tac program calls worth points placement hidden frame scope runs well keep s2 s3 keeps3.later (followed || not (is_pure scope number)) code.2 t scalar state2.running.registers after
      (found_lasts tac program calls worth points placement hidden frame scope runs well keep pointer (followed || not (is_pure scope number)) from code.0 code.2 state2.running.registers after code.5
      (keeps_then code.0.counts state2.running.registers state3.running.registers after rest.0.0.kept (keeps_fewer state3.running.registers after second kept))
      (λ e. let neither = or_parts followed (not (is_pure scope number)) e in same neither.0 ∙ rest.1 (not-false (is_pure scope number) neither.1))) form type came.1)
      form (type_lasts program keeps3.later (Pointer t) scalar type) target.1 computed code.7)))

  pub element_of_addresses : (here : Pos) (number pointer : Value) → ValueDoes tac program calls worth points placement hidden frame scope number
      → ValueDoes tac program calls worth points placement hidden frame scope pointer
      → Addresses tac program calls worth points placement hidden frame scope runs well keep (T.ElementOf here number pointer)
  element_of_addresses here number pointer follows' follows is_kept followed from to lowered t code typed small start n lag slack s state p h =
      let parts = two_parts (type_of (context_of program scope) pointer) (type_of (context_of program scope) number) (element program.structs) t typed in
      let target = element_parts program.structs parts.a parts.b t parts.gave in
      let own = parts.left ∙ ap Some target.0 in
      let sizes = and_parts (makes (is_storable program.structs) number) (makes (is_storable program.structs) pointer) small in
      let form = value_form program points scope pointer (Row followed) (Pointer t) code.1 code.2 code.6 own code.9 in
      let left = left_most pointer in
      let left' = left_most number in
      let one : tree_nodes code.5 ≡ 1 = ap tree_nodes code.8.2 in
      ticked tac program calls worth points placement hidden frame scope runs well keep
      (λ u. continue_with (λ b v. continue_with (λ a. added here a (integer_of b)) (value (around_of program) calls pointer v)) (value (around_of program) calls number u)) from.at s state p h (omega arith) (λ units p' h'.
      then_value tac program calls worth points placement hidden frame scope runs well keep number follows' (λ b v. continue_with (λ a. added here a (integer_of b)) (value (around_of program) calls pointer v))
      Kept from code.0 (AsInteger code.3 code.4) parts.b code.7 parts.right sizes.0 (record s { units = units }) state p' h' (omega arith)
      (λ amount s2 state2 q came keeps type.
      let computed = came.1.2 ∙ ap Some (integer_is tac program calls worth points placement hidden frame scope runs well keep amount came.1.0 came.1.1) in
      let q2 : Passing tac worth start state2 n s2.units (lag + (1 + value_units number)) (slack + 14 + (2 * tree_nodes code.4 + 5)) = eased q (omega arith) (omega (arith, left')) in
      let at = keeps_tree tac program calls worth points placement hidden frame scope runs well keep (slack + 14) true code.4 code.5 (integer_of amount) code.0 code.1 s2 state2 code.8 q2 came.0.there computed in
      let first = (value_named program points scope number Kept from code.0 (AsInteger code.3 code.4) code.7).grows in
      let second = kept_grows code.0 code.1 code.8.1 in
      let third = (value_named program points scope pointer (Row followed) code.1 code.2 code.6 code.9).grows in
      let kept_from : KeepsBefore from.counts state.running.registers at.after.running.registers =
      keeps_then from.counts state.running.registers state2.running.registers at.after.running.registers came.0.kept (keeps_fewer state2.running.registers at.after.running.registers first at.keeps) in
      then_value tac program calls worth points placement hidden frame scope runs well keep pointer follows (λ a. added here a (integer_of amount)) (Row followed) code.1 code.2 code.6 (Pointer t) code.9 own sizes.1 s2 at.after at.path
      (record { stands = at.there; sound = keeps.sound }) (omega arith)
      (λ scalar s3 state3 q3 came3 keeps3 type3.
      let still = held_lasts code.0 code.1 code.5 code.8.1 code.8.2 at.after.running.registers state3.running.registers came3.0.kept ∙ at.computed in
      let kept : KeepsBefore from.counts state.running.registers state3.running.registers =
      keeps_then from.counts state.running.registers at.after.running.registers state3.running.registers kept_from (keeps_fewer at.after.running.registers state3.running.registers (grows_then first second) came3.0.kept) in
      let q4 : Passing tac worth start state3 n s3.units (lag + (1 + value_units number + value_units pointer)) (slack + laid_by code.6 + 8 + (2 * tree_nodes code.5 + 5)) = eased q3 (omega arith) (omega (arith, left, one)) in
      index_address slack here is_kept followed false followed from code.2 to code.6 code.5 lowered state.running.registers t (integer_of amount) scalar s3 state3
      q4 (record { there = came3.0.there; kept = kept }) keeps3.sound (grows_then (grows_then first second) third)
      (λ after kept' same. subst (λ r. LoweredStands program (Row followed) frame placement s3.objects r code.6 scalar) (sym (same refl)) came3.1)
      form type3 target.1 still code.10)))
