-- The locals of a `for`, and what else it may begin with.
use Rattle.std.proofs.Common.{◌≡◌, ℕ, ◌≤◌, ◌++◌, ◌⊎◌, inl, inr, true, List, [], ◌∷◌, Option, Some, refl, sym, ap, ◌∙◌, subst, append_assoc, length-append, arith}
use Rattle.std.proofs.lemmas.Bool.{and_parts}
use Rattle.c_typed.specs.Typed as T
use Rattle.c_typed.specs.Typed.{Value, LocalDef, Program}
use Rattle.c_typed.specs.Expressions.{type_of}
use Rattle.c_typed.specs.Programs.{IsWellTyped}
use Rattle.c_typed.specs.Sizes.{local_makes, is_storable}
use Rattle.c_typed.specs.Statements.{is_local, are_locals}
use Rattle.ref_semantics.specs.Values as V
use Rattle.ref_semantics.specs.Store as S
use Rattle.ref_semantics.specs.Meaning as Meaning
use Rattle.ref_semantics.specs.Meaning.{Calls, Normal}
use Rattle.ref_semantics.specs.First.{around_of}
use Rattle.ref_semantics.specs.Keeping.{CallsKeep}
use Rattle.ref_semantics.proofs.StatementsKeep.{some_type}
use Rattle.tac_ir.specs.declared.register.Local.{Local}
use Rattle.tac_ir.specs.Code.{Op, Tac}
use Rattle.tac_ir.specs.Values.{OfActivation}
use Rattle.tac_ir.specs.States.{State}
use Rattle.tac_build.specs.Homes.{Home, Scope}
use Rattle.tac_build.specs.Spots.{Spot, Dropped}
use Rattle.tac_build.specs.Forms.{scope_types, context_of}
use Rattle.tac_simulation.specs.Standing.{Placement, Frame}
use Rattle.tac_simulation.proofs.Paths.{comes, start, along, allows, eases, eased}
use Rattle.tac_simulation.proofs.Spotting.{Runs}
use Rattle.tac_simulation.proofs.Evaluating.{ValueDoes, AtSpot}
use Rattle.tac_simulation.proofs.Combining.{then_value}
use Rattle.tac_simulation.proofs.Assigned.{then_does}
use Rattle.tac_simulation.proofs.Executing.{Extends, Begun, Declares, DeclaresAll, Starts}
use Rattle.tac_simulation.proofs.Widens.{numbers_later, objects_before, local_widens, local_numbered, locals_widen}

-- ---- how placements grow

extends_same : (frame : Frame) (count : ℕ) (placement : Placement) → Extends frame count placement placement
extends_same frame count placement number = inl refl

pub extends_then : (frame : Frame) (count later : ℕ) (first second third : Placement) → count ≤ later → Extends frame count first second → Extends frame later second third → Extends frame count first third
extends_then frame count later first second third less one other number = by (other number) (one number)
  where
    by : ((third number ≡ second number) ⊎ ((later ≤ number) × ((local : Local) × (third number ≡ Some (OfActivation frame.number local))))) → ((second number ≡ first number) ⊎ ((count ≤ number) × ((local : Local) × (second number ≡ Some (OfActivation frame.number local)))))
        → (third number ≡ first number) ⊎ ((count ≤ number) × ((local : Local) × (third number ≡ Some (OfActivation frame.number local))))
    by (inl same) (inl same') = inl (same ∙ same')
    by (inl same) (inr new) = inr (new.0, (new.1.0, same ∙ new.1.1))
    by (inr new) old = let least = new.0 in inr (omega (arith, least, less), new.1)

module _ (tac : Tac) (program : Program) (calls : Calls) (worth : ℕ) (points : List Op) (hidden : ℕ → Option V.Content) (frame : Frame) (runs : Runs tac program points frame) (well : IsWellTyped program) (keep : CallsKeep program calls) where
  -- nothing has begun to live
  begun_none : (placement : Placement) (scope inner : Scope) (from to : Spot) (s : S.State) (t : State) (count : ℕ) (outer : List ℕ) → s.locals ≡ outer → count ≤ s.next_local → to.at ≡ from.at → inner ≡ scope → AtSpot tac program calls worth points placement hidden frame scope from.at s t
      → Begun tac program calls worth points hidden frame count outer placement scope inner to.at Normal s t
  begun_none placement scope inner from to s t count outer own newer at inner_is h = record {
    placed = placement;
    more = [];
    fresh = [];
    extends = extends_same frame count placement;
    own = own;
    depth = refl;
    inner_is = inner_is;
    newer = newer;
    there = subst (λ scope. AtSpot tac program calls worth points placement hidden frame scope to.at s t) (sym inner_is) (subst (λ at. AtSpot tac program calls worth points placement hidden frame scope at s t) (sym at) h);
  }

  pub declares_none : DeclaresAll tac program calls worth points hidden frame []
  declares_none is_taken placement scope from to inner code typed small numbered have s t h =
      comes Normal s t (start t s.units) (begun_none placement scope inner from to s t s.next_local s.locals refl (omega arith) (ap (λ (spot : Spot). spot.at) code.0) code.1 h)

  pub declares_more : (local : LocalDef) (others : List LocalDef) → Declares tac program calls worth points hidden frame local → DeclaresAll tac program calls worth points hidden frame others
      → DeclaresAll tac program calls worth points hidden frame (local ∷ others)
  declares_more local others one rest is_taken placement scope from to inner code typed small numbered have s t h =
      let parts = and_parts (is_local (context_of program scope) local) _ typed in
      let sizes = and_parts (local_makes (is_storable program.structs) local) _ small in
      let type_is : code.1.c_type ≡ local.c_type = ap (λ (home : Home). home.c_type) code.2.0 in
      let mid = local_widens program points scope local _ from code.0 code.1 code.2 in
      then_does (Meaning.declare (around_of program) calls local) (λ begun. Meaning.declare_all (around_of program) calls others) s
      (one _ placement scope from code.0 code.1 code.2 parts.0 sizes.0 numbered (objects_before frame.objects (locals_widen program points (code.1 ∷ scope) is_taken others code.0 to inner code.3) have) s t h) (omega arith)
      (λ way s1 t1 e p begun.
      eases (along p (allows
      (rest is_taken begun.placed (code.1 ∷ scope) code.0 to inner code.3 (subst (λ c. are_locals (record { program = program; locals = c ∷ scope_types scope }) others ≡ true) (sym type_is) parts.1) sizes.1
      (local_numbered program points scope local _ from code.0 code.1 code.2, numbers_later from.counts code.0.counts mid.variables scope numbered) have s1 t1 begun.there)
      (λ way' s2 t2 g. record {
        placed = g.placed;
        more = g.more ++ begun.more;
        fresh = g.fresh ++ begun.fresh;
        extends = extends_then frame s.next_local s1.next_local placement begun.placed g.placed begun.newer begun.extends g.extends;
        own = g.own ∙ ap (λ locals. g.fresh ++ locals) begun.own ∙ sym (append_assoc g.fresh begun.fresh s.locals);
        depth = let first = length-append g.fresh begun.fresh in let second = length-append g.more begun.more in let third = g.depth in let fourth = begun.depth in omega (arith, first, second, third, fourth);
        inner_is = g.inner_is ∙ ap (λ scope. g.more ++ scope) begun.inner_is ∙ sym (append_assoc g.more begun.more scope);
        newer = let first = begun.newer in let second = g.newer in omega (arith, first, second);
        there = g.there;
      }))) (omega arith) (omega arith))

  -- ---- what a `for` begins with

  pub starts_none : Starts tac program calls worth points hidden frame T.StartNothing
  starts_none is_taken placement scope from to inner code typed small numbered have s t h =
      comes Normal s t (start t s.units) (begun_none placement scope inner from to s t s.next_local s.locals refl (omega arith) (ap (λ (spot : Spot). spot.at) code.0) code.1 h)

  pub starts_locals : (locals : List LocalDef) → DeclaresAll tac program calls worth points hidden frame locals → Starts tac program calls worth points hidden frame (T.StartLocals locals)
  starts_locals locals all is_taken placement scope from to inner code typed small numbered have s t h = all is_taken placement scope from to inner code typed small numbered have s t h

  pub starts_value : (v : Value) → ((placement : Placement) (scope : Scope) → ValueDoes tac program calls worth points placement hidden frame scope v) → Starts tac program calls worth points hidden frame (T.StartValue v)
  starts_value v follows is_taken placement scope from to inner code typed small numbered have s t h =
      let known = some_type (type_of (context_of program scope) v) typed in
      then_value tac program calls worth points placement hidden frame scope runs well keep v (follows placement scope) (λ a. S.give Normal) Dropped from to code.0 known.0 code.1 known.1 small s t (start t s.units) h (omega arith)
      (λ scalar s1 t1 p came keeps has.
      comes Normal s1 t1 (eased p (omega arith) (omega arith))
      (begun_none placement scope inner to to s1 t1 s.next_local s.locals keeps.locals keeps.later.next_local refl code.2 (record { stands = came.0.there; sound = keeps.sound })))
