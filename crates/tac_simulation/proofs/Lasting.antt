-- What stood for a value of its type before an evaluation stands for it behind that: what was alive may be dead, but no name that was given
-- comes to life.
use Rattle.std.proofs.Common.{◌≡◌, true, Option, refl, ◌∙◌, subst}
use Rattle.c_typed.specs.Types.{CType, Pointer}
use Rattle.c_typed.specs.Typed.{Program}
use Rattle.c_typed.specs.Expressions.{is_scalar}
use Rattle.ref_semantics.specs.Values as V
use Rattle.ref_semantics.specs.Values.{Name, Scalar}
use Rattle.ref_semantics.specs.Store as S
use Rattle.ref_semantics.specs.Sound.{WasGiven, HasType, PointsTo, Later, MayBecome}
use Rattle.tac_ir.specs.declared.program.Counts.{Counts}
use Rattle.tac_ir.specs.declared.register.Register.{Register}
use Rattle.tac_ir.specs.Values.{Value}
use Rattle.tac_ir.specs.Trees.{Registers}
use Rattle.tac_build.specs.Forms.{IsBefore}
use Rattle.tac_simulation.specs.Standing.{Placement, ScalarStands, HoldsFor, IsAlive, KeepsBefore}
use Rattle.tac_simulation.proofs.Given.{typed_given, given_lasts, held_given}

alive_before : (old new : V.Content) → MayBecome old new → IsAlive new → IsAlive old
alive_before V.Dead new may alive = subst IsAlive may alive
alive_before (V.Raw size) new may alive = tt
alive_before (V.Elements is_static c_type count held) new may alive = tt

module _ (program : Program) (placement : Placement) (before after : S.State) (later : Later before after) where
  pub lives_later : (name : Name) → WasGiven before name → IsAlive (after.objects name) → IsAlive (before.objects name)
  lives_later name given alive = alive_before (before.objects name) (after.objects name) (later.may name given) alive

  pub value_later : (t : CType) (scalar : Scalar) (value : Value) → is_scalar t ≡ true → HasType program before t scalar → ScalarStands program before.objects placement scalar value
      → ScalarStands program after.objects placement scalar value
  value_later t scalar value is typed stands =
      given_lasts program before placement placement after.objects lives_later (λ name given. refl) scalar value (typed_given program before t scalar is typed) stands

  pub holds_later : (t : CType) (scalar : Scalar) (held : Option Value) → is_scalar t ≡ true → HasType program before t scalar → HoldsFor program before.objects placement scalar held
      → HoldsFor program after.objects placement scalar held
  holds_later t scalar held is typed holds =
      held_given program before placement placement after.objects lives_later (λ name given. refl) scalar held (typed_given program before t scalar is typed) holds

  -- the same of a pointer in a register that was named before
  pub register_later : (counts : Counts) (registers registers' : Registers) (register : Register) (target : CType) (scalar : Scalar) → KeepsBefore counts registers registers' → IsBefore counts register
      → PointsTo program before target scalar → HoldsFor program before.objects placement scalar (registers register) → HoldsFor program after.objects placement scalar (registers' register)
  register_later counts registers registers' register target scalar keeps named typed holds =
      let lasts = holds_later (Pointer target) scalar (registers register) refl typed holds in
      (lasts.0, keeps register named ∙ lasts.1, lasts.2)
