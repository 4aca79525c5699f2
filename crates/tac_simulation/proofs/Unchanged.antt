-- Trees and paths give the same as long as the registers that they name hold the same.
use Rattle.std.proofs.Common.{◌≡◌, Bool, true, List, [], ◌∷◌, Option, Some, None, refl, ap, ◌∙◌}
use Rattle.c_typed.specs.Types.{CType}
use Rattle.c_typed.specs.Typed as C
use Rattle.c_typed.specs.Typed.{Program}
use Rattle.ref_semantics.specs.Values as V
use Rattle.ref_semantics.specs.Values.{Place, Scalar, IntegerValue, NullValue, FunctionValue, PointerValue, RawPointer}
use Rattle.ref_semantics.specs.Store as S
use Rattle.tac_ir.specs.declared.program.Counts.{Counts}
use Rattle.tac_ir.specs.declared.register.Register.{Register}
use Rattle.tac_ir.specs.Code.{Tree, Constant, Held, Convert, Complement, Not, Arithmetic, Compare, Base, AtLocal, AtGlobal, AtLiteral, Pointed, Indexed, Step, Member, Element, Path, Op}
use Rattle.tac_ir.specs.Layouts.{Inner, within}
use Rattle.tac_ir.specs.Trees.{Registers, computes, integer_in}
use Rattle.tac_ir.specs.Objects.{Surroundings, Reached, reach, base_of, element_at, step, steps_of, stepped, leads}
use Rattle.tac_build.specs.Homes.{Scope}
use Rattle.tac_build.specs.Spots.{Spot, Lowered, AsInteger, AsPointer, AsObject, AsNothing, Mode, Kept, Dropped, Behind, Row, is_followed}
use Rattle.tac_build.specs.Code.{ValueCode, ObjectCode}
use Rattle.tac_simulation.specs.Standing.{KeepsBefore, Placement, Frame, WhereAlive, surroundings, PathStands, PointedStands, FoundStands, LoweredStands}
use Rattle.tac_build.specs.Forms.{IsBefore, IsNamed, IsStable, TreeHolds, BaseHolds, StepHolds, StepsHold, PathHolds, TreeNamed, TreeStable, PathNamed, PathStable, LoweredNamed, LoweredStable, SpotGrows}
use Rattle.tac_build.proofs.Naming.{named_before, before_more}
use Rattle.tac_build.proofs.Named.{value_named, object_named}
use Rattle.tac_simulation.proofs.Fixed.{followed_path, value_fixed, object_fixed}

module _ (P : Register → Type 0) (before after : Registers) (same : (register : Register) → P register → after register ≡ before register) where
  pub tree_same : (tree : Tree) → TreeHolds P tree → computes after tree ≡ computes before tree
  tree_same (Constant z) holds = refl
  tree_same (Held register) holds = ap integer_in (same register holds)
  tree_same (Convert int_type operand) holds = rw (tree_same operand holds)
  tree_same (Complement int_type operand) holds = rw (tree_same operand holds)
  tree_same (Not int_type operand) holds = rw (tree_same operand holds)
  tree_same (Arithmetic operator int_type left right) holds = rw (tree_same left holds.0, tree_same right holds.1)
  tree_same (Compare relation int_type left right) holds = rw (tree_same left holds.0, tree_same right holds.1)

  module _ (around : Surroundings) where
    base_same : (base : Base) → BaseHolds P P base → base_of around after base ≡ base_of around before base
    base_same (AtLocal local) holds = refl
    base_same (AtGlobal number) holds = refl
    base_same (AtLiteral number) holds = refl
    base_same (Pointed pointer target) holds = rw (same pointer holds)
    base_same (Indexed pointer target number) holds = rw (same pointer holds.0, tree_same number holds.1)

    step_same : (one : Step) (inner : Inner) → StepHolds P one → step around after one inner ≡ step around before one inner
    step_same (Member number) inner holds = refl
    step_same (Element index) inner holds = ap (λ z. element_at around.structs z inner) (tree_same index holds)

    steps_same : (steps : List Step) (inner : Inner) → StepsHold P steps → steps_of around after steps inner ≡ steps_of around before steps inner
    steps_same [] inner holds = refl
    steps_same (first ∷ others) inner holds =
        ap (λ found. within found (steps_of around after others)) (step_same first inner holds.0) ∙ by (step around before first inner) (λ next. steps_same others next holds.1)
      where
        by : (found : Option Inner) → ((next : Inner) → steps_of around after others next ≡ steps_of around before others next)
            → within found (steps_of around after others) ≡ within found (steps_of around before others)
        by None rest = refl
        by (Some next) rest = rest next

    pub path_same : (path : Path) → PathHolds P P path → leads around after path ≡ leads around before path
    path_same path holds = ap (stepped around after path.steps) (base_same path.base holds.0) ∙ by (base_of around before path.base)
      where
        by : (found : Option Reached) → stepped around after path.steps found ≡ stepped around before path.steps found
        by None = refl
        by (Some reached) = ap (reach reached.object) (steps_same path.steps reached.inner holds.1)

-- ---- names that last

both_tree : (counts : Counts) (tree : Tree) → TreeNamed counts tree → TreeStable tree → TreeHolds (IsBefore counts) tree
both_tree counts (Constant z) named stable = tt
both_tree counts (Held register) named stable = named_before counts register named stable
both_tree counts (Convert int_type operand) named stable = both_tree counts operand named stable
both_tree counts (Complement int_type operand) named stable = both_tree counts operand named stable
both_tree counts (Not int_type operand) named stable = both_tree counts operand named stable
both_tree counts (Arithmetic operator int_type left right) named stable = (both_tree counts left named.0 stable.0, both_tree counts right named.1 stable.1)
both_tree counts (Compare relation int_type left right) named stable = (both_tree counts left named.0 stable.0, both_tree counts right named.1 stable.1)

both_base : (counts : Counts) (base : Base) → BaseHolds (IsBefore counts) (IsNamed counts) base → BaseHolds IsStable IsStable base → BaseHolds (IsBefore counts) (IsBefore counts) base
both_base counts (AtLocal local) named stable = tt
both_base counts (AtGlobal number) named stable = tt
both_base counts (AtLiteral number) named stable = tt
both_base counts (Pointed pointer target) named stable = named
both_base counts (Indexed pointer target number) named stable = (named.0, both_tree counts number named.1 stable.1)

both_steps : (counts : Counts) (steps : List Step) → StepsHold (IsNamed counts) steps → StepsHold IsStable steps → StepsHold (IsBefore counts) steps
both_steps counts [] named stable = tt
both_steps counts (Member number ∷ others) named stable = (tt, both_steps counts others named.1 stable.1)
both_steps counts (Element index ∷ others) named stable = (both_tree counts index named.0 stable.0, both_steps counts others named.1 stable.1)

pub both_path : (counts : Counts) (path : Path) → PathNamed counts path → PathStable path → PathHolds (IsBefore counts) (IsBefore counts) path
both_path counts path named stable = (both_base counts path.base named.0 stable.0, both_steps counts path.steps named.1 stable.1)

-- a path without locals leads to the same, where code keeps what was named before
pub path_lasts : (around : Surroundings) (counts : Counts) (before after : Registers) (path : Path) → KeepsBefore counts before after → PathNamed counts path → PathStable path
    → leads around after path ≡ leads around before path
path_lasts around counts before after path keeps named stable = path_same (IsBefore counts) before after keeps around path (both_path counts path named stable)

pub tree_lasts : (counts : Counts) (before after : Registers) (tree : Tree) → KeepsBefore counts before after → TreeNamed counts tree → TreeStable tree
    → computes after tree ≡ computes before tree
tree_lasts counts before after tree keeps named stable = tree_same (IsBefore counts) before after keeps tree (both_tree counts tree named stable)

-- ---- code that keeps what was named before

pub keeps_fewer : {a b : Spot} (before after : Registers) → SpotGrows a b → KeepsBefore b.counts before after → KeepsBefore a.counts before after
keeps_fewer before after grows keeps register named = keeps register (before_more grows register named)

pub keeps_then : (counts : Counts) (before mid after : Registers) → KeepsBefore counts before mid → KeepsBefore counts mid after → KeepsBefore counts before after
keeps_then counts before mid after first second register named = second register named ∙ first register named

module _ (program : Program) (points : List Op) (scope : Scope) (around : Surroundings) (before after : Registers) where
  -- what code follows doesn't change where the path of an object leads
  pub object_leads : (o : C.Object) (is_kept : Bool) (from to : Spot) (path : Path) (own : CType) → ObjectCode program points scope is_kept true o from to (AsObject path own) → KeepsBefore to.counts before after
      → leads around after path ≡ leads around before path
  object_leads o is_kept from to path own code keeps =
      path_lasts around to.counts before after path keeps (object_named program points scope o is_kept true from to (AsObject path own) code).named
      (object_fixed program points scope o is_kept true from to (AsObject path own) code)

  pub value_leads : (v : C.Value) (mode : Mode) (from to : Spot) (path : Path) (own : CType) → is_followed mode ≡ true → ValueCode program points scope mode v from to (AsObject path own)
      → KeepsBefore to.counts before after → leads around after path ≡ leads around before path
  value_leads v mode from to path own followed code keeps =
      path_lasts around to.counts before after path keeps (value_named program points scope v mode from to (AsObject path own) code).named
      (followed_path mode path followed (value_fixed program points scope v mode from to (AsObject path own) code))

  -- the pointer that a value comes to stays in its register
  pub pointer_keeps : (v : C.Value) (mode : Mode) (from to : Spot) (register : Register) (target : CType) → ValueCode program points scope mode v from to (AsPointer register target)
      → KeepsBefore to.counts before after → after register ≡ before register
  pointer_keeps v mode from to register target code keeps = keeps register (value_named program points scope v mode from to (AsPointer register target) code).named

-- ---- what stands for a value

module _ (program : Program) (frame : Frame) (placement : Placement) (objects : S.Objects) (before after : Registers) where
  path_stands : (path : Path) (own : CType) (place : Place) → leads (surroundings program frame) after path ≡ leads (surroundings program frame) before path
      → PathStands program frame placement before path own place → PathStands program frame placement after path own place
  path_stands path own place same stands = (stands.0, stands.1, same ∙ stands.2, stands.3)

  where_stands : (content : V.Content) (A B : Type 0) → (A → B) → WhereAlive content A → WhereAlive content B
  where_stands V.Dead A B more stands = tt
  where_stands (V.Raw size) A B more stands = more stands
  where_stands (V.Elements is_static c_type count held) A B more stands = more stands

  pointed_stands : (scalar : Scalar) (path : Path) (own : CType) → leads (surroundings program frame) after path ≡ leads (surroundings program frame) before path
      → PointedStands program frame placement objects before path own scalar → PointedStands program frame placement objects after path own scalar
  pointed_stands (PointerValue place) path own same stands = where_stands (objects place.name) _ _ (path_stands path own place same) stands
  pointed_stands (IntegerValue z) path own same stands = tt
  pointed_stands NullValue path own same stands = tt
  pointed_stands (FunctionValue name) path own same stands = tt
  pointed_stands (RawPointer number) path own same stands = tt

  object_stands : (mode : Mode) (scalar : Scalar) (path : Path) (own : CType) → leads (surroundings program frame) after path ≡ leads (surroundings program frame) before path
      → FoundStands program mode frame placement objects before path own scalar → FoundStands program mode frame placement objects after path own scalar
  object_stands (Row followed) scalar path own same stands = (stands.0, stands.1, stands.2, where_stands (objects stands.0.name) _ _ (path_stands path own stands.0 same) stands.3)
  object_stands Kept scalar path own same stands = (stands.0, stands.1, stands.2, path_stands path own stands.0 same stands.3)
  object_stands Dropped scalar path own same stands = (stands.0, stands.1, stands.2, path_stands path own stands.0 same stands.3)
  object_stands (Behind followed) scalar path own same stands = pointed_stands scalar path own same stands

  -- what stands for a value does so as long as what was named before keeps, and no local is named
  pub lowered_stands : (mode : Mode) (lowered : Lowered) (scalar : Scalar) (counts : Counts) → KeepsBefore counts before after → LoweredNamed counts lowered → LoweredStable lowered
      → LoweredStands program mode frame placement objects before lowered scalar → LoweredStands program mode frame placement objects after lowered scalar
  lowered_stands mode (AsInteger own tree) scalar counts keeps named stable stands = (stands.0, stands.1, tree_lasts counts before after tree keeps named stable ∙ stands.2)
  lowered_stands mode (AsPointer register target) scalar counts keeps named stable stands = (stands.0, keeps register named ∙ stands.1, stands.2)
  lowered_stands mode (AsObject path own) scalar counts keeps named stable stands =
      object_stands mode scalar path own (path_lasts (surroundings program frame) counts before after path keeps named stable) stands
  lowered_stands mode AsNothing scalar counts keeps named stable stands = tt
