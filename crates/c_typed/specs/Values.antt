-- First values of objects that live as long as the program (C17 6.2.4 paragraph 3, 6.6 paragraphs 7 to 9, 6.7.9).
use Rattle.std.specs.Prelude.{ℕ, Bool, not, List, ℤ, pos}
use Rattle.std.specs.Ordering.{int_eq}
use Rattle.run_theory.specs.declared.place.Pos.{Pos}
use Rattle.c_typed.specs.declared.part.Part.{Part}

-- an object that lives as long as the program: a variable outside functions, or a literal, by its place
pub data Static : Type 0 where
  StaticVariable : (name : List ℕ) → Static
  StaticLiteral : (place : Pos) → Static

-- an element of the row to which steps lead, or the end of that row (a row is an array's elements, or one object alone)
pub record FirstPlace : Type 0 where
  pub root : Static
  pub steps : List Part
  pub index : ℕ

-- a constant of scalar type
pub data FirstScalar : Type 0 where
  IntegerValue : (value : ℤ) → FirstScalar
  NullValue : FirstScalar
  FunctionValue : (name : List ℕ) → FirstScalar
  PointerValue : (place : FirstPlace) → FirstScalar

-- a scalar within an object
pub record Leaf : Type 0 where
  pub steps : List Part
  pub index : ℕ

pub record Held : Type 0 where
  pub leaf : Leaf
  pub value : FirstScalar

abbrev pub not_zero : ℤ → Bool
not_zero z = not (int_eq z (pos 0))
