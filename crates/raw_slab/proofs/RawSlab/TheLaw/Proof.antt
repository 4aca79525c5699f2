-- A `&` to a slab is made where one to its bytes is.
use base.Fraction.{full_share}
use contract.BorrowLft.{⊑_static}
use denote.Memory.{lone}
use denote.RawPtr.{lies_at}
use denote.Shares.{Shares-less}
use denote.Param.Shared.{copy_shared}
use denote.Struct.Field.{RawPtr-field}
use denote.Struct.Laws.{RawPtr-copy}
use denote.Struct.Lending.{lent_at, lent_at_shr_laws, Lends-lies, Lends-first, of_Lends}
use mir.Raw.{raw as bare}
use Rattle.std.specs.contracts.alloc.Global as Heap
use Rattle.std.specs.contracts.impls.GlobalAllocator.TheImpl.{ghosts}
use Rattle.std.proofs.alloc.Global.TheLaws as heap
use Rattle.raw_slab.specs.contracts.RawSlab as C
use Rattle.raw_slab.proofs.PageAsBox.{Page, page_laws}
use Rattle.raw_slab.proofs.RawSlab.TheLaw.Statement.{statement}

pub shares : statement
shares = of_Lends C.struct (C.the_codes Heap.the_row.coded) C.the_heap C.the_lent (λ d p. lent_at_shr_laws Page page_laws.shr_laws d.page d.bytes) (copy_shared RawPtr-field RawPtr-copy, (heap.the_field_shared, tt)) (λ M 𝓤 𝓛 d p.
    let l = C.the_row.lives in
    Lends-first 𝓛 (lies_at Page full_share d.page d.bytes) (ghosts.dealloc_token d.alloc (bare (lone Page.mir)) d.page) (lent_at Page d.page d.bytes) l
    (Lends-lies 𝓛 Page l d.page d.bytes (Shares-less 𝓛 Page Page.lives l (⊑_static l) (page_laws.shares 𝓛) d.bytes)))
