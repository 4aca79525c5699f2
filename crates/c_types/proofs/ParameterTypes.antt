-- The types of a list of parameters, one after another.
use Rattle.std.proofs.Common.{◌≡◌, List, [], ◌∷◌, ◌++◌, map, Some, refl, sym, ap, ◌∙◌, append-nil, append_assoc}
use Rattle.c_typed.specs.declared.c_type.CType as number
use Rattle.c_typed.specs.declared.c_type.Parameters as numbers
use Rattle.c_typed.specs.declared.c_type.Shape.{Shape}
use Rattle.c_typed.specs.declared.c_type.Shape.TheVariants as S
use Rattle.c_typed.specs.Types.{CType, CTypes, NoTypes, MoreTypes}
use Rattle.c_typed.specs.Table.{Interned, Stands, type_in, shape_type, HasShape}
use Rattle.c_typed.specs.DefinitionViews.{TypesStand}
use Rattle.c_rules.specs.Elaborated as elaborated

module _ (table : Interned) where
  pub stand-pushed : (types : List number.CType) (one : number.CType) → TypesStand table types → Stands table one → TypesStand table (types ++ one ∷ [])
  stand-pushed [] one h is = (is, tt)
  stand-pushed (first ∷ others) one h is = (h.0, stand-pushed others one h.1 is)

  types-pushed : (types : List number.CType) (one : number.CType) → map (type_in table) (types ++ one ∷ []) ≡ map (type_in table) types ++ type_in table one ∷ []
  types-pushed [] one = refl
  types-pushed (first ∷ others) one = ap (λ more. type_in table first ∷ more) (types-pushed others one)

  -- one more
  pub types-more : (old new : List number.CType) (one : number.CType) (rest others : CTypes) (whole : List CType) → new ≡ old ++ one ∷ [] → rest ≡ MoreTypes (type_in table one) others
      → map (type_in table) old ++ elaborated.types_in rest ≡ whole → map (type_in table) new ++ elaborated.types_in others ≡ whole
  types-more old new one rest others whole pushed is so_far =
      ap (λ types. map (type_in table) types ++ elaborated.types_in others) pushed
      ∙ ap (λ types. types ++ elaborated.types_in others) (types-pushed old one)
      ∙ append_assoc (map (type_in table) old) (type_in table one ∷ []) (elaborated.types_in others)
      ∙ ap (λ types. map (type_in table) old ++ elaborated.types_in types) (sym is)
      ∙ so_far

  -- no more
  pub types-end : (types : List number.CType) (rest : CTypes) (whole : List CType) → rest ≡ NoTypes → map (type_in table) types ++ elaborated.types_in rest ≡ whole → map (type_in table) types ≡ whole
  types-end types rest whole is so_far =
      sym (append-nil (map (type_in table) types)) ∙ ap (λ rest. map (type_in table) types ++ elaborated.types_in rest) (sym is) ∙ so_far

  -- what is no function has none
  pub none-of-shape : (shape : Shape) (c_type : number.CType) → HasShape table (type_in table c_type) shape → ((result : number.CType) (parameters : numbers.Parameters) → shape ≡ S.Function result parameters → ⊥) → [] ≡ elaborated.parameters_of (Some (type_in table c_type))
  none-of-shape shape c_type has isnt = by shape isnt ∙ ap (λ c_type. elaborated.parameters_of (Some c_type)) (sym has.means)
    where
      by : (shape : Shape) → ((result : number.CType) (parameters : numbers.Parameters) → shape ≡ S.Function result parameters → ⊥) → [] ≡ elaborated.parameters_of (Some (shape_type table shape))
      by S.Void isnt = refl
      by (S.Integer int_type) isnt = refl
      by (S.Pointer target) isnt = refl
      by (S.Array element length) isnt = refl
      by (S.Struct id) isnt = refl
      by (S.Function result parameters) isnt = absurd (isnt result parameters refl)
