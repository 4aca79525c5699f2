use Rattle.std.proofs.Common.{Ok, refl, sym, ap}
use Rattle.ref_semantics.specs.Values.{Place, PointerValue}
use Rattle.ref_semantics.specs.Store.{give, member_at}
use Rattle.ref_semantics.specs.Pointers.{accessed}
use Rattle.ref_semantics.specs.Parts.{Comes}
use Rattle.ref_meaning.specs.RefStore.Views.{place_in, scalar_in}
use Rattle.ref_meaning.specs.Doing.{next_in}
use Rattle.ref_meaning.specs.Nexts.{place_next}
use Rattle.ref_meaning.proofs.Both.{gives-handed}
use Rattle.ref_meaning.proofs.Nexts.{object_nexts, form-place, form-found, form-behind, form-first, gives-found, gives-is}
use Rattle.ref_meaning.proofs.first_operand.after_object.Goals as goal

pub returns-in_err-found-in-PointedMember-clause-gives : goal.returns-in_err-found-in-PointedMember-clause-gives
returns-in_err-found-in-PointedMember-clause-gives c = λ around base.
    let store = c.args.store.now in
    let table = store.types.now in
    let a = scalar_in table c.args.first in
    let stop = c.in_err-found-in-PointedMember.field-0.0 in
    gives-handed around store store base (next_in table) (object_nexts around base store c.args.first c.args.object.now) stop c.from_residual.result c.from_residual.ensures.1
    (form-first around base store c.args.first (object_nexts around base store c.args.first) c.args.object.now _ c.in-PointedMember.is
    (place_in table) (accessed c.in-PointedMember.place a) (λ (p : Place). give (Comes (PointerValue (member_at around p c.in-PointedMember.number)))) stop refl (c.in_err-found-in-PointedMember.ensures.gives around base))

pub returns-in-Pointed-clause-gives : goal.returns-in-Pointed-clause-gives
returns-in-Pointed-clause-gives c = λ around base.
    let store = c.args.store.now in
    let table = store.types.now in
    let a = scalar_in table c.args.first in
    form-place around base store c.args.first (object_nexts around base store c.args.first) c.args.object.now _ c.in-Pointed.is
    (accessed c.in-Pointed.place a) c.accessed.result c.pointed.result refl c.pointed.ensures (c.accessed.ensures.gives around base)

pub returns-in-MemberOf-clause-gives : goal.returns-in-MemberOf-clause-gives
returns-in-MemberOf-clause-gives c = λ around base.
    let store = c.args.store.now in
    let table = store.types.now in
    form-found around base store c.args.first (object_nexts around base store c.args.first) c.args.object.now _ c.in-MemberOf.is
    (member_at around (place_in table c.place.result) c.in-MemberOf.number) (Ok c.member_at.result) c.pointed-in-MemberOf.result
    (ap (λ (p : Place). give (Comes (PointerValue (member_at around p c.in-MemberOf.number)))) (sym (c.place.ensures.means table))) c.pointed-in-MemberOf.ensures (λ state at. c.member_at.ensures.found around at.structs) tt

pub returns-in_ok-found-in-PointedMember-clause-gives : goal.returns-in_ok-found-in-PointedMember-clause-gives
returns-in_ok-found-in-PointedMember-clause-gives c = λ around base.
    let store = c.args.store.now in
    let table = store.types.now in
    let a = scalar_in table c.args.first in
    let found = c.in_ok-found-in-PointedMember.found in
    form-behind around base store c.args.first (object_nexts around base store c.args.first) c.args.object.now _ c.in-PointedMember.is
    (accessed c.in-PointedMember.place a) (λ (p : Place). give (Comes (PointerValue (member_at around p c.in-PointedMember.number)))) (place_in table found) c.pointed-in-PointedMember.result refl (c.in_ok-found-in-PointedMember.ensures.gives around base)
    (gives-is around base store store (next_in table) (give (Comes (PointerValue (member_at around (place_in table found) c.in-PointedMember.number)))) (give (Comes (PointerValue (member_at around (place_in table found) c.in-PointedMember.number))))
    (place_next (Ok c.member_at-in-PointedMember.result)) c.pointed-in-PointedMember.result refl c.pointed-in-PointedMember.ensures
    (gives-found around base store (member_at around (place_in table found) c.in-PointedMember.number) (Ok c.member_at-in-PointedMember.result) (λ state at. c.member_at-in-PointedMember.ensures.found around at.structs) tt))
