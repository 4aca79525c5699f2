-- The type of `main`.
use Rattle.std.proofs.Common.{◌≡◌, Bool, true, false, ◌&&◌, not, Option, Some, None, sym, ap, ◌∙◌, true≢false}
use Rattle.std.proofs.lemmas.Bool.{false≢true}
use Rattle.std.specs.Option.{is_some}
use Rattle.c_num.specs.declared.IntType.TheVariants as I
use Rattle.c_typed.specs.declared.c_type.CType as number
use Rattle.c_typed.specs.declared.c_type.Parameters as numbers
use Rattle.c_typed.specs.Types.{CType, CTypes, Integer, Function, NoTypes, same_type, same_types}
use Rattle.c_typed.specs.Table.{Interned, type_in, types_in, IsSplit}
use Rattle.c_typed.proofs.Grown.{integer_stands}
use Rattle.ref_semantics.specs.First.{main_type}

main-parts : (a : CType) (ps : CTypes) (x : CType) → x ≡ Integer I.Int → same_type (Function a ps) main_type ≡ (same_type a x && same_types ps NoTypes)
main-parts a ps x e = ap (λ y. same_type a y && same_types ps NoTypes) (sym e)

no-types : (table : Interned) (ps : CTypes) (r : Option (number.CType × numbers.Parameters)) (b : Bool) → IsSplit table ps r → is_some r ≡ not b → b ≡ same_types ps NoTypes
no-types table ps None true split h = sym (ap (λ p. same_types p NoTypes) split)
no-types table ps None false split h = absurd (false≢true h)
no-types table ps (Some parts) false split h = sym (ap (λ p. same_types p NoTypes) split.0)
no-types table ps (Some parts) true split h = absurd (true≢false h)

module _ (table : Interned) (t result int : number.CType) (parameters : numbers.Parameters) (is : type_in table t ≡ Function (type_in table result) (types_in table parameters)) (five : int.0 ≡ 5) where
  both : same_type (type_in table t) main_type ≡ (same_type (type_in table result) (type_in table int) && same_types (types_in table parameters) NoTypes)
  both = ap (λ x. same_type x main_type) is ∙ main-parts (type_in table result) (types_in table parameters) (type_in table int) (integer_stands table int I.Int five).1

  pub main-then : (r : Option (number.CType × numbers.Parameters)) (b : Bool) → same_type (type_in table result) (type_in table int) ≡ true
      → IsSplit table (types_in table parameters) r → is_some r ≡ not b → b ≡ same_type (type_in table t) main_type
  main-then r b same split h = no-types table (types_in table parameters) r b split h ∙ sym (both ∙ ap (λ s. s && same_types (types_in table parameters) NoTypes) same)

  pub main-else : same_type (type_in table result) (type_in table int) ≡ false → false ≡ same_type (type_in table t) main_type
  main-else differs = sym (both ∙ ap (λ s. s && same_types (types_in table parameters) NoTypes) differs)
