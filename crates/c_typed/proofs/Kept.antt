-- What stays of types while a table grows, and while a structure is completed in it.
use Rattle.std.proofs.Common.{◌≡◌, Bool, true, false, cond, List, [], ◌∷◌, Option, Some, None, refl, sym, ap, subst, ◌∙◌}
use Rattle.std.specs.Prelude.{bytes_eq, IfOk, Result, Ok, Err}
use Rattle.std.proofs.lemmas.Bool.{cond-true}
use Rattle.std.proofs.lemmas.Slice.Eq.{bytes_eq-Decides}
use Rattle.c_num.specs.declared.IntType.{IntType}
use Rattle.c_typed.specs.declared.c_type.CType as number
use Rattle.c_typed.specs.declared.c_type.StructId as tag
use Rattle.c_typed.specs.Types.{CType, Void, Integer, Pointer, Array, Struct, Function}
use Rattle.c_typed.specs.Layouts.{StructDef, MemberDef, is_complete, has_members, members_by_tag}
use Rattle.c_typed.specs.Table.{Interned, MemberEntry, Stands, type_in, structs_in, struct_def, tag_in, Grows, MakesType, IsCompleteMember, AreComplete, completed, integer_number}
use Rattle.c_typed.specs.Kept.{IsObject, Keeps, MakesObject}
use Rattle.c_typed.proofs.Grown.{stays, integer_stands}

module _ (old new : Interned) (grows : Grows old new) where
  pub keeps_grown : Keeps old new
  keeps_grown = record {
    stands = λ t h. (stays old new grows t h).0;
    objects = λ t h. let kept = stays old new grows t h.stands in record {
      stands = kept.0;
      complete = (λ i. is_complete (grows.structs i) (kept.1 i)) ∙ h.complete;
    };
  }

pub keeps_then : (a b c : Interned) → Keeps a b → Keeps b c → Keeps a c
keeps_then a b c first second = record {
  stands = λ t h. second.stands t (first.stands t h);
  objects = λ t h. second.objects t (first.objects t h);
}

pub makes_then : (a b c : Interned) (t : number.CType) → Keeps a b → MakesObject b c t → MakesObject a c t
makes_then a b c t first made = record { object = made.object; keeps = keeps_then a b c first made.keeps }

-- a type that was made, where it is complete
pub makes_object : (old new : Interned) (t : number.CType) (c_type : CType) → MakesType old new t c_type → is_complete (structs_in new) c_type ≡ true → MakesObject old new t
makes_object old new t c_type made complete = record {
  object = record { stands = made.stands; complete = ap (is_complete (structs_in new)) made.means ∙ complete };
  keeps = keeps_grown old new made.grows;
}

pub if_made : {E : Type 0} (old new : Interned) (result : Result number.CType E) (c_type : CType) → IfOk result (λ made. MakesType old new made c_type) → is_complete (structs_in new) c_type ≡ true → IfOk result (λ made. MakesObject old new made)
if_made old new (Ok t) c_type made complete = makes_object old new t c_type made complete
if_made old new (Err e) c_type made complete = tt

-- ---- one more structure

module _ (def : StructDef) (structs : List StructDef) where
  has_more : (b : Bool) (members : List MemberDef) (others : Option (List MemberDef)) → has_members others ≡ true → has_members (cond b (Some members) others) ≡ true
  has_more true members others h = refl
  has_more false members others h = h

  complete_more : (t : CType) → is_complete structs t ≡ true → is_complete (def ∷ structs) t ≡ true
  complete_more Void h = h
  complete_more (Integer t) h = h
  complete_more (Pointer t) h = h
  complete_more (Array t n) h = h
  complete_more (Struct tag) h = has_more (bytes_eq def.tag tag) def.members (members_by_tag structs tag) h
  complete_more (Function t ts) h = h

  complete_newest : is_complete (def ∷ structs) (Struct def.tag) ≡ true
  complete_newest = ap has_members (cond-true (bytes_eq def.tag def.tag) (Some def.members) (members_by_tag structs def.tag) ((bytes_eq-Decides def.tag def.tag).1 refl))

module _ (table : Interned) (id : tag.StructId) (members : List MemberEntry) where
  pub keeps_completed : Keeps table (completed table id.0 members)
  keeps_completed = record {
    stands = λ t h. h;
    objects = λ t h. record {
      stands = h.stands;
      complete = complete_more (struct_def table.tags table.entries (record { tag = id.0; members = members })) (structs_in table) (type_in table t) h.complete;
    };
  }

  -- the structure that was completed
  pub makes_completed : (t : number.CType) → Stands table t → type_in table t ≡ Struct (tag_in table id) → MakesObject table (completed table id.0 members) t
  makes_completed t stands is = record {
    object = record {
      stands = stands;
      complete =
          ap (is_complete (structs_in (completed table id.0 members))) is
          ∙ complete_newest (struct_def table.tags table.entries (record { tag = id.0; members = members })) (structs_in table);
    };
    keeps = keeps_completed;
  }

-- ---- members

pub complete_member : (table : Interned) (t : number.CType) (c_type : Option number.CType) → c_type ≡ Some t → IsObject table t → IsCompleteMember table c_type
complete_member table t c_type is object = subst (IsCompleteMember table) (sym is) (object.stands, object.complete)

pub members_stay : (old new : Interned) → Keeps old new → (members : List MemberEntry) → AreComplete old members → AreComplete new members
members_stay old new keeps [] h = tt
members_stay old new keeps (member ∷ members) h = (by member.c_type h.0, members_stay old new keeps members h.1)
  where
    by : (t : Option number.CType) → IsCompleteMember old t → IsCompleteMember new t
    by None h = tt
    by (Some t) h = let object = keeps.objects t (record { stands = h.0; complete = h.1 }) in (object.stands, object.complete)

-- ---- the integer types

pub integer_object : (table : Interned) (c_type : number.CType) (t : IntType) → c_type.0 ≡ integer_number t → IsObject table c_type
integer_object table c_type t e =
    let stands = integer_stands table c_type t e in
    record { stands = stands.0; complete = ap (is_complete (structs_in table)) stands.1 }
