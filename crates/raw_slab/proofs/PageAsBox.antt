-- A slab owns what a box of its bytes owns.
use Rattle.std.proofs.Common.{refl, [], ◌∷◌}
use mir.Raw.{raw as bare}
use mir.Syntax.{Args, Dict, a_type, impl, tcons, tnil, dcons, dnil}
use denote.Array.{Array}
use denote.Exit.{no}
use denote.Param.{layout, bounded, arg}
use denote.Param.Laws.{Laws, array_laws, of_field, arg_laws}
use denote.Param.Shared.{copy_shared}
use denote.RattleType.{RattleType}
use denote.Signature.{Slot, plain}
use denote.Struct.Field.{u8-field}
use denote.Struct.Laws.{u8-laws, u8-copy}
use Rattle.std_alloc.proofs.BoxSteps.Form.{Bx}
use Rattle.std_alloc.specs.contracts.boxed.Box as Box
use Rattle.std.specs.contracts.alloc.Global as Heap
use Rattle.raw_slab.specs.contracts.RawSlab as Slab
use Rattle.std.specs.contracts.impls.GlobalAllocator.TheImpl.{ghosts, dict}
use Rattle.std.proofs.alloc.Global.TheLaws as heap

abbrev pub Page : RattleType
Page = Array u8-field.row 4096

pub page_laws : Laws Page
page_laws = array_laws u8-field.row (of_field u8-field u8-laws refl (copy_shared u8-field u8-copy)) 4096

-- neither the allocator nor the bytes have a drop
abbrev pub no_drop : RattleType → Dict
no_drop X = impl ("raw_slab::Destruct++none::drop" ∷ []) (tcons (layout X) tnil) dnil

-- a type as a call passes it
abbrev pub passed : RattleType → RattleType
passed X = arg (bare (layout X)) no X

abbrev pub E : Bx
E = record {
  row = passed Page;
  laws = arg_laws (bare (layout Page)) no Page page_laws refl;
  al = record { row = passed Heap.the_row; laws = arg_laws (bare (layout Heap.the_row)) no Heap.the_row heap.the_row_laws refl; g = ghosts; d = dict; drops = no_drop (passed Heap.the_row) };
}

-- what a call of `into_raw_with_allocator` passes for its types
abbrev pub taken_apart : Args
taken_apart = bounded (a_type ∷ a_type ∷ []) (E.row, (E.al.row, tt)) (dcons E.al.d (dcons E.al.drops (dcons (no_drop E.row) dnil)))

abbrev pub FromBox : Slot 0
FromBox = plain (λ _. Box.the_row Page Heap.the_row ghosts)

abbrev pub FromSlab : Slot 0
FromSlab = plain (λ _. Slab.the_row)
