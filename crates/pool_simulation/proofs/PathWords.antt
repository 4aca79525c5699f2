-- The addresses of paths: where the code's words stand for registers, a path leads to the address of the part to which it leads there.
use Rattle.std.proofs.Common.{◌≡◌, ℕ, ◌+◌, ◌*◌, ◌%◌, ◌^◌, ◌<◌, Bool, true, false, if◌then◌else◌, List, [], ◌∷◌, slice_get, Option, Some, None, ℤ, pos, negsuc, ◌+ℤ◌, ◌*ℤ◌, refl, sym, ap, ◌∙◌, subst, arith}
use Rattle.std.specs.Prelude.{nat_le}
use Rattle.std.proofs.Math.IntN.{pos-+ℤ-pos, pos-*ℤ-pos}
use Rattle.c_typed.specs.Types.{CType, Array, Struct, literal_type}
use Rattle.c_typed.specs.Layouts.{StructDef, MemberDef, layouts, known_members, members_by_tag, offset_before}
use Rattle.c_typed.specs.Typed.{GlobalDef, LiteralDef}
use Rattle.tac_ir.specs.declared.register.Local.{Local}
use Rattle.tac_ir.specs.Values.{Object, OfGlobal, OfLiteral, OfActivation, same_local, Value, Number, NoAddress, Code, Address, Objects}
use Rattle.tac_ir.specs.Layouts.{size_of, Inner, within, member_in, member_of, element_of}
use Rattle.tac_ir.specs.Objects.{Surroundings, is_there, Reached, reach, whole, own_type, global_type, literal_object, offset_moved, at_offset, pointed, base_of, element_at, step, steps_of, stepped, leads}
use Rattle.tac_ir.specs.Trees.{Registers, computes}
use Rattle.tac_ir.specs.Code.{Tree, Base, AtLocal, AtGlobal, AtLiteral, Pointed, Indexed, Step, Member, Element, Path, LocalObject, Tac}
use Rattle.pool_isa.specs.Machine.{globals_start}
use Rattle.pool_ir.specs.Code.{FrameLayout}
use Rattle.pool_ir.specs.Words.{word_in, moved_by}
use Rattle.pool_ir.specs.States.{Activation}
use Rattle.pool_ir.specs.Memory.{base_address, step_address, steps_address, path_address}
use Rattle.pool_rewrite.specs.Placing.{global_offset, literal_offset, offset_of_local}
use Rattle.pool_rewrite.specs.Rewriting as C
use Rattle.pool_rewrite.specs.Rewriting.{inner_type, inner_offset, type_of_literal, element_type, step_of, path_of}
use Rattle.pool_rewrite.specs.Standing.{MemoryMap, WordsStand}
use Rattle.pool_simulation.specs.Placed.{KeepsOffsets, around_in, BasesStand, IsAround}
use Rattle.pool_simulation.proofs.TreeWords.{tree_word}
use Rattle.pool_simulation.proofs.Around.{around_is, around_cut, offset_sum, offset_still, moves_by}

-- ---- members and elements

-- a member lies as far behind the beginning of its structure as behind that of an object
record SameStep (structs : List StructDef) (number : ℕ) (inner further : Inner) : Type 0 where
  offset : further.offset ≡ inner.offset + inner_offset (member_of structs number (record { offset = 0; c_type = inner.c_type }))
  c_type : inner_type (member_of structs number (record { offset = 0; c_type = inner.c_type })) ≡ further.c_type

member_by : (structs : List StructDef) (start number : ℕ) (members : List MemberDef) (member : Option MemberDef) (further : Inner) → member_in structs start number members member ≡ Some further
    → (further.offset ≡ start + inner_offset (member_in structs 0 number members member)) × (inner_type (member_in structs 0 number members member) ≡ further.c_type)
member_by structs start number members None further e = absurd (cc)
member_by structs start number members (Some member) further e = by member.c_type refl e
  where
    at : ℕ → Option CType → Option Inner
    at from None = None
    at from (Some c_type) = Some (record { offset = from + offset_before (layouts structs) members number (Some member); c_type = c_type })

    by : (o : Option CType) → member.c_type ≡ o → at start o ≡ Some further
        → (further.offset ≡ start + inner_offset (member_in structs 0 number members (Some member))) × (inner_type (member_in structs 0 number members (Some member)) ≡ further.c_type)
    by None is e = absurd (cc)
    by (Some c_type) is e =
        let same : record { offset = start + offset_before (layouts structs) members number (Some member); c_type = c_type } ≡ further = cc in
        let first : member_in structs 0 number members (Some member) ≡ Some (record { offset = 0 + offset_before (layouts structs) members number (Some member); c_type = c_type }) = ap (at 0) is in
        (sym (ap (λ (i : Inner). i.offset) same) ∙ omega (arith, ap inner_offset first), ap inner_type first ∙ ap (λ (i : Inner). i.c_type) same)

member_same : (structs : List StructDef) (number : ℕ) (inner further : Inner) → member_of structs number inner ≡ Some further → SameStep structs number inner further
member_same structs number inner further e = by inner.c_type refl e
  where
    at : ℕ → CType → Option Inner
    at start (Struct tag) = let members = known_members (members_by_tag structs tag) in member_in structs start number members (slice_get members number)
    at start c_type = None

    by : (t : CType) → inner.c_type ≡ t → at inner.offset t ≡ Some further → SameStep structs number inner further
    by (Struct tag) is e =
        let members = known_members (members_by_tag structs tag) in
        let own = member_by structs inner.offset number members (slice_get members number) further e in
        let first : member_of structs number (record { offset = 0; c_type = inner.c_type }) ≡ member_in structs 0 number members (slice_get members number) = ap (at 0) is in
        record { offset = own.0 ∙ ap (λ i. inner.offset + inner_offset i) (sym first); c_type = ap inner_type first ∙ own.1 }
    by _ is e = absurd (cc)

-- an element
record SameElement (structs : List StructDef) (index : ℕ) (inner further : Inner) : Type 0 where
  offset : further.offset ≡ inner.offset + index * size_of structs (element_type inner.c_type)
  c_type : element_type inner.c_type ≡ further.c_type

element_same : (structs : List StructDef) (index : ℕ) (inner further : Inner) → element_of structs index inner ≡ Some further → SameElement structs index inner further
element_same structs index inner further e = by inner.c_type refl e
  where
    at : CType → Option Inner
    at (Array element count) = if nat_le index count then Some (record { offset = inner.offset + index * size_of structs element; c_type = element }) else None
    at c_type = None

    by : (t : CType) → inner.c_type ≡ t → at t ≡ Some further → SameElement structs index inner further
    by (Array element count) is e = within_count (nat_le index count) e
      where
        within_count : (b : Bool) → (if b then Some (record { offset = inner.offset + index * size_of structs element; c_type = element }) else None) ≡ Some further → SameElement structs index inner further
        within_count true e =
            let same : record { offset = inner.offset + index * size_of structs element; c_type = element } ≡ further = cc in
            let own : element_type inner.c_type ≡ element = ap element_type is in
            record {
              offset = sym (ap (λ (i : Inner). i.offset) same) ∙ ap (λ t. inner.offset + index * size_of structs t) (sym own);
              c_type = own ∙ ap (λ (i : Inner). i.c_type) same;
            }
        within_count false e = absurd (cc)
    by _ is e = absurd (cc)

element_index : (structs : List StructDef) (computed : Option ℤ) (inner further : Inner) → element_at structs computed inner ≡ Some further → (index : ℕ) × (computed ≡ Some (pos index)) × (element_of structs index inner ≡ Some further)
element_index structs (Some (pos index)) inner further e = (index, refl, e)
element_index structs (Some (negsuc n)) inner further e = absurd (cc)
element_index structs None inner further e = absurd (cc)

-- ---- what a path tells of its parts

within_some : (inner : Option Inner) (next : Inner → Option Inner) (further : Inner) → within inner next ≡ Some further → (mid : Inner) × (inner ≡ Some mid) × (next mid ≡ Some further)
within_some None next further e = absurd (cc)
within_some (Some mid) next further e = (mid, refl, e)

reach_some : (object : Object) (inner : Option Inner) (reached : Reached) → reach object inner ≡ Some reached → (i : Inner) × (inner ≡ Some i) × (record { object = object; inner = i } ≡ reached)
reach_some object None reached e = absurd (cc)
reach_some object (Some i) reached e = (i, refl, cc)

stepped_some : (around : Surroundings) (registers : Registers) (steps : List Step) (first : Option Reached) (reached : Reached) → stepped around registers steps first ≡ Some reached
    → (base : Reached) × (first ≡ Some base) × (reach base.object (steps_of around registers steps base.inner) ≡ Some reached)
stepped_some around registers steps None reached e = absurd (cc)
stepped_some around registers steps (Some base) reached e = (base, refl, e)

-- a whole object begins at its offset 0
whole_own : (own : List LocalObject) (local : Local) (inner : Inner) → own_type own local ≡ Some inner → inner.offset ≡ 0
whole_own [] local inner e = absurd (cc)
whole_own (first ∷ others) local inner e = by (same_local first.local local) e (whole_own others local inner)
  where
    by : (b : Bool) → (if b then whole first.c_type else own_type others local) ≡ Some inner → (own_type others local ≡ Some inner → inner.offset ≡ 0) → inner.offset ≡ 0
    by true e later = let same : record { offset = 0; c_type = first.c_type } ≡ inner = cc in sym (ap (λ (i : Inner). i.offset) same)
    by false e later = later e

whole_global : (global : Option GlobalDef) (inner : Inner) → global_type global ≡ Some inner → (own : GlobalDef) × (global ≡ Some own) × (record { offset = 0; c_type = own.c_type } ≡ inner)
whole_global None inner e = absurd (cc)
whole_global (Some own) inner e = (own, refl, cc)

whole_literal : (literal : Option LiteralDef) (inner : Inner) → literal_object literal ≡ Some inner → (own : LiteralDef) × (literal ≡ Some own) × (record { offset = 0; c_type = literal_type own.bytes } ≡ inner)
whole_literal None inner e = absurd (cc)
whole_literal (Some own) inner e = (own, refl, cc)

at_offset_some : (object : Object) (target : CType) (offset : Option ℕ) (reached : Reached) → at_offset object target offset ≡ Some reached
    → (n : ℕ) × (offset ≡ Some n) × (record { object = object; inner = record { offset = n; c_type = target } } ≡ reached)
at_offset_some object target None reached e = absurd (cc)
at_offset_some object target (Some n) reached e = (n, refl, cc)

-- what a pointer is that is followed
record Followed (around : Surroundings) (target : CType) (held : Option Value) (number : Option ℤ) (reached : Reached) : Type 0 where
  object : Object
  offset : ℕ
  z : ℤ
  further : ℕ
  held_is : held ≡ Some (Address object offset)
  number_is : number ≡ Some z
  further_is : offset_moved offset (z *ℤ pos (size_of around.structs target)) ≡ Some further
  reached_is : record { object = object; inner = record { offset = further; c_type = target } } ≡ reached

pointed_some : (around : Surroundings) (target : CType) (held : Option Value) (number : Option ℤ) (reached : Reached) → pointed around target held number ≡ Some reached → Followed around target held number reached
pointed_some around target (Some (Address object offset)) (Some z) reached e =
    let own = at_offset_some object target (offset_moved offset (z *ℤ pos (size_of around.structs target))) reached e in
    record { object = object; offset = offset; z = z; further = own.0; held_is = refl; number_is = refl; further_is = own.1; reached_is = own.2 }
pointed_some around target (Some (Address object offset)) None reached e = absurd (cc)
pointed_some around target (Some (Number n)) number reached e = absurd (cc)
pointed_some around target (Some NoAddress) number reached e = absurd (cc)
pointed_some around target (Some (Code function)) number reached e = absurd (cc)
pointed_some around target None number reached e = absurd (cc)

-- ---- paths

module _ (tac : Tac) (own : List LocalObject) (frame : FrameLayout) (activation : ℕ) (objects : Objects) (memory : MemoryMap) (registers : Registers) (running : Activation)
    (keeps : KeepsOffsets memory) (stand : WordsStand objects memory registers running.words) where
  abbrev around : Surroundings
  around = around_in tac own activation

  -- so many elements of a size behind a place
  element_word : (address base offset further size : ℕ) (tree : Tree) (z : ℤ) → IsAround address (base + offset) → computes registers tree ≡ Some z → pos offset +ℤ z *ℤ pos size ≡ pos further
      → IsAround (moved_by address size (word_in running.words tree)) (base + further)
  element_word address base offset further size tree z near is sum =
      around_cut (moved_by address size (word_in running.words tree)) (base + further)
      (ap (moved_by address size) (tree_word objects memory registers running.words stand tree z is) ∙ moves_by address base offset further size near.congruent z sum)

  step_leads : (first : Step) (inner further : Inner) (base address : ℕ) → IsAround address (base + inner.offset) → step around registers first inner ≡ Some further
      → IsAround (step_address running (step_of tac.structs inner.c_type first).part address) (base + further.offset) × ((step_of tac.structs inner.c_type first).c_type ≡ further.c_type)
  step_leads (Member number) inner further base address near e =
      let same = member_same tac.structs number inner further e in
      let far = inner_offset (member_of tac.structs number (record { offset = 0; c_type = inner.c_type })) in
      (around_cut (moved_by address far 1) (base + further.offset) (cut address base inner.offset far further.offset near.congruent same.offset), same.c_type)
    where
      cut : (address base offset far further : ℕ) → address % 2 ^ 64 ≡ (base + offset) % 2 ^ 64 → further ≡ offset + far → moved_by address far 1 ≡ (base + further) % 2 ^ 64
      cut address base offset far further near e = omega (arith, near, e)
  step_leads (Element tree) inner further base address near e =
      let at = element_index tac.structs (computes registers tree) inner further e in
      let same = element_same tac.structs at.0 inner further at.2 in
      let size = size_of tac.structs (element_type inner.c_type) in
      let sum : pos inner.offset +ℤ pos at.0 *ℤ pos size ≡ pos further.offset = ap (λ z. pos inner.offset +ℤ z) (pos-*ℤ-pos at.0 size) ∙ pos-+ℤ-pos inner.offset (at.0 * size) ∙ ap pos (sym same.offset) in
      (element_word address base inner.offset further.offset size tree (pos at.0) near at.1 sum, same.c_type)

  -- the steps of a path, by the type of the part so far
  steps_lead : (steps : List Step) (inner further : Inner) (base address : ℕ) → IsAround address (base + inner.offset) → steps_of around registers steps inner ≡ Some further
      → IsAround (steps_address running (C.steps_of tac.structs inner.c_type steps) address) (base + further.offset)
  steps_lead [] inner further base address near e = let same : inner ≡ further = cc in subst (λ (i : Inner). IsAround address (base + i.offset)) same near
  steps_lead (first ∷ others) inner further base address near e =
      let mid = within_some (step around registers first inner) (steps_of around registers others) further e in
      let led = step_leads first inner mid.0 base address near mid.1 in
      let next = (step_of tac.structs inner.c_type first).part in
      subst (λ t. IsAround (steps_address running (C.steps_of tac.structs t others) (step_address running next address)) (base + further.offset)) (sym led.1)
      (steps_lead others mid.0 further base (step_address running next address) led.0 mid.2)

  -- where a path begins
  record Begun (base : Base) (reached : Reached) : Type 0 where
    address : ℕ
    address_is : memory.address reached.object ≡ Some address
    near : IsAround (base_address running (C.base_of tac own frame base).part) (address + reached.inner.offset)
    c_type : (C.base_of tac own frame base).c_type ≡ reached.inner.c_type

  module _ (bases : BasesStand tac own frame activation objects memory running.start) where
    base_leads : (base : Base) (reached : Reached) → base_of around registers base ≡ Some reached → is_there (objects reached.object) ≡ true → Begun base reached
    base_leads (AtLocal local) reached e there =
        let at = reach_some (OfActivation activation local) (own_type own local) reached e in
        let whole = whole_own own local at.0 at.1 in
        let address = running.start + offset_of_local frame.objects local in
        subst (Begun (AtLocal local)) at.2
        (record {
          address = address;
          address_is = bases.locals local at.0 at.1 (subst (λ (r : Reached). is_there (objects r.object) ≡ true) (sym at.2) there);
          near = around_is address (address + at.0.offset) (omega (arith, whole));
          c_type = ap inner_type at.1;
        })
    base_leads (AtGlobal number) reached e there =
        let at = reach_some (OfGlobal number) (global_type (slice_get tac.globals number)) reached e in
        let whole = whole_global (slice_get tac.globals number) at.0 at.1 in
        let address = globals_start + global_offset tac number in
        subst (Begun (AtGlobal number)) at.2
        (subst (λ i. Begun (AtGlobal number) (record { object = OfGlobal number; inner = i })) whole.2
        (record {
          address = address;
          address_is = bases.globals number whole.0 whole.1 (subst (λ (r : Reached). is_there (objects r.object) ≡ true) (sym at.2) there);
          near = around_is address (address + 0) (omega arith);
          c_type = ap C.global_type whole.1;
        }))
    base_leads (AtLiteral number) reached e there =
        let at = reach_some (OfLiteral number) (literal_object (slice_get tac.literals number)) reached e in
        let whole = whole_literal (slice_get tac.literals number) at.0 at.1 in
        let address = globals_start + literal_offset tac number in
        subst (Begun (AtLiteral number)) at.2
        (subst (λ i. Begun (AtLiteral number) (record { object = OfLiteral number; inner = i })) whole.2
        (record {
          address = address;
          address_is = bases.literals number whole.0 whole.1 (subst (λ (r : Reached). is_there (objects r.object) ≡ true) (sym at.2) there);
          near = around_is address (address + 0) (omega arith);
          c_type = ap type_of_literal whole.1;
        }))
    base_leads (Pointed pointer target) reached e there =
        let at = pointed_some around target (registers pointer) (Some (pos 0)) reached e in
        let place = stand pointer (Address at.object at.offset) at.held_is (subst (λ (r : Reached). is_there (objects r.object) ≡ true) (sym at.reached_is) there) in
        let zero : pos 0 ≡ at.z = cc at.number_is in
        let still : at.offset ≡ at.further = cc (sym (offset_still at.offset (size_of tac.structs target)) ∙ ap (λ z. offset_moved at.offset (z *ℤ pos (size_of tac.structs target))) zero ∙ at.further_is) in
        subst (Begun (Pointed pointer target)) at.reached_is
        (record {
          address = place.0;
          address_is = place.1;
          near = around_is (running.words pointer) (place.0 + at.further) (place.2 ∙ ap (λ n. place.0 + n) (keeps at.object at.offset ∙ still));
          c_type = refl;
        })
    base_leads (Indexed pointer target number) reached e there =
        let at = pointed_some around target (registers pointer) (computes registers number) reached e in
        let place = stand pointer (Address at.object at.offset) at.held_is (subst (λ (r : Reached). is_there (objects r.object) ≡ true) (sym at.reached_is) there) in
        let size = size_of tac.structs target in
        subst (Begun (Indexed pointer target number)) at.reached_is
        (record {
          address = place.0;
          address_is = place.1;
          near = element_word (running.words pointer) place.0 at.offset at.further size number at.z
              (around_is (running.words pointer) (place.0 + at.offset) (place.2 ∙ ap (λ n. place.0 + n) (keeps at.object at.offset))) at.number_is (offset_sum at.offset at.further (at.z *ℤ pos size) at.further_is);
          c_type = refl;
        })

    -- the address of a path, around 2 ^ 64
    pub path_leads : (path : Path) (reached : Reached) → leads around registers path ≡ Some reached → is_there (objects reached.object) ≡ true
        → (address : ℕ) × (memory.address reached.object ≡ Some address) × IsAround (path_address running (path_of tac own frame path)) (address + reached.inner.offset)
    path_leads path reached e there =
        let first = stepped_some around registers path.steps (base_of around registers path.base) reached e in
        let last = reach_some first.0.object (steps_of around registers path.steps first.0.inner) reached first.2 in
        let begun = base_leads path.base first.0 first.1 (subst (λ (r : Reached). is_there (objects r.object) ≡ true) (sym last.2) there) in
        let led = steps_lead path.steps first.0.inner last.0 begun.address (base_address running (C.base_of tac own frame path.base).part) begun.near last.1 in
        subst (λ (r : Reached). (address : ℕ) × (memory.address r.object ≡ Some address) × IsAround (path_address running (path_of tac own frame path)) (address + r.inner.offset)) last.2 (
          begun.address,
          begun.address_is,
          subst (λ t. IsAround (steps_address running (C.steps_of tac.structs t path.steps) (base_address running (C.base_of tac own frame path.base).part)) (begun.address + last.0.offset)) (sym begun.c_type) led,
        )

    -- the same, where the object's address is known
    pub path_around : (path : Path) (reached : Reached) (address : ℕ) → leads around registers path ≡ Some reached → is_there (objects reached.object) ≡ true → memory.address reached.object ≡ Some address
        → IsAround (path_address running (path_of tac own frame path)) (address + reached.inner.offset)
    path_around path reached address e there is =
        let led = path_leads path reached e there in
        let same : led.0 ≡ address = cc (sym led.1 ∙ is) in
        subst (λ n. IsAround (path_address running (path_of tac own frame path)) (n + reached.inner.offset)) same led.2

    -- it is exact where no sum is greater than a word
    pub path_at : (path : Path) (reached : Reached) (address : ℕ) → leads around registers path ≡ Some reached → is_there (objects reached.object) ≡ true → memory.address reached.object ≡ Some address
        → address + reached.inner.offset < 2 ^ 64 → path_address running (path_of tac own frame path) ≡ address + reached.inner.offset
    path_at path reached address e there is fits = (path_around path reached address e there is).exact fits
