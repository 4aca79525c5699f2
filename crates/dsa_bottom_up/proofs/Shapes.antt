-- Types by what they are.
use Rattle.std.proofs.Common.{◌≡◌, ℕ, ◌≤◌, List, map, length, Option, Some, None, option_map, slice_get, refl, ap, ◌∙◌}
use Rattle.std.specs.Option.{unwrap_or}
use Rattle.std.proofs.lemmas.Option.{slice_get_past, slice_get-map}
use Rattle.c_typed.specs.declared.c_type.CType as number
use Rattle.c_typed.specs.declared.c_type.StructId as tag
use Rattle.c_typed.specs.declared.c_type.Shape.{Shape}
use Rattle.c_typed.specs.declared.c_type.Shape.TheVariants as S
use Rattle.c_typed.specs.Types.{Void}
use Rattle.c_typed.specs.Layouts.{MemberDef, member_type}
use Rattle.c_typed.specs.Table.{Interned, type_in, shape_type, structs_in, IsMemberType}
use Rattle.c_typed.proofs.Grown.{void_stands}
use Rattle.c_typed.specs.Expressions.{member_of}
use Rattle.dsa_bottom_up.specs.ExpressionTypes.{type_or_void, target_of}

-- the type that has the number 0
pub void_in : (table : Interned) → type_in table (record { 0 = 0 }) ≡ Void
void_in table = (void_stands table (record { 0 = 0 }) refl).1

pub no_target : (table : Interned) (shape : Shape) → ((x : number.CType) → shape ≡ S.Pointer x → ⊥) → target_of (shape_type table shape) ≡ Void
no_target table S.Void other = refl
no_target table (S.Integer int_type) other = refl
no_target table (S.Pointer target) other = absurd (other target refl)
no_target table (S.Array element length) other = refl
no_target table (S.Struct id) other = refl
no_target table (S.Function result parameters) other = refl

pub no_member : (table : Interned) (number : ℕ) (shape : Shape) → ((x : tag.StructId) → shape ≡ S.Struct x → ⊥) → type_or_void (member_of (structs_in table) number (shape_type table shape)) ≡ Void
no_member table number S.Void other = refl
no_member table number (S.Integer int_type) other = refl
no_member table number (S.Pointer target) other = refl
no_member table number (S.Array element length) other = refl
no_member table number (S.Struct id) other = absurd (other id refl)
no_member table number (S.Function result parameters) other = refl

-- a member that isn't there
pub member_none : (table : Interned) (member : Option MemberDef) → IsMemberType table member None → type_or_void (member_type member) ≡ Void
member_none table None h = refl
member_none table (Some member) h = absurd h

-- one with or without a type
pub member_known : (table : Interned) (member : Option MemberDef) (t : Option number.CType) (found : number.CType) → IsMemberType table member (Some t)
    → found ≡ unwrap_or t (record { 0 = 0 }) → type_in table found ≡ type_or_void (member_type member)
member_known table None t found h is = absurd h
member_known table (Some member) None found h is = ap (type_in table) is ∙ (void_in table ∙ ap type_or_void h.0)
member_known table (Some member) (Some it) found h is = ap (type_in table) is ∙ ap type_or_void h.0

pub local_past : (table : Interned) (scope : List number.CType) (number : ℕ) → length scope ≤ number → type_or_void (slice_get (map (type_in table) scope) number) ≡ Void
local_past table scope number past = ap type_or_void (slice_get-map (type_in table) scope number ∙ ap (option_map (type_in table)) (slice_get_past scope number past))
