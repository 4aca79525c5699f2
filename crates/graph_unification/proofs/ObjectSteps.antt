-- What is done for points that handle objects.
use Rattle.std.proofs.Common.{◌≡◌, Bool, true, false, cond, refl, sym, ap, subst, ◌∙◌}
use Rattle.std.specs.Prelude.{◌||◌}
use Rattle.std.specs.List.{list_any}
use Rattle.std.proofs.lemmas.Bool.{and_parts, and_from}
use Rattle.c_typed.specs.Types.{CType}
use Rattle.c_typed.specs.Layouts.{is_complete}
use Rattle.tac_ir.specs.declared.register.Register.{Register}
use Rattle.tac_ir.specs.Code.{Tree, Base, AtLocal, AtGlobal, AtLiteral, Pointed, Indexed, Path, Operand, IntegerOperand, PointerOperand, Tac}
use Rattle.tac_ir.specs.States.{Owner}
use Rattle.heap_graph.specs.Graphs.{Name, OfRegister, Graph}
use Rattle.heap_graph.specs.Structures.{AreMade}
use Rattle.heap_graph.specs.Targets.{has_target, at_target, edge_at, implies}
use Rattle.heap_graph.specs.Points.{is_null, is_data_pointer, is_indexed, is_element, is_member, base_part, path_part, base_typed}
use Rattle.heap_graph.specs.Merging.{IsSound, GraphMap, Maps}
use Rattle.heap_graph.specs.Asks.{is_certain, base_of, address_asked, load_asked, store_asked}
use Rattle.heap_graph.proofs.Certain.{same_eq, eq_same}
use Rattle.graph_unification.specs.declared.marks.Mark.{Mark}
use Rattle.graph_unification.specs.declared.marks.Mark.TheVariants as M
use Rattle.graph_unification.specs.Asked.{has_mark}
use Rattle.graph_unification.specs.Applying.{Applies, IsMarked, IsMarkedIf, IsPlace, IsLinked, IsMemberTyped, IsTouched, IsHeld, IsKept}
use Rattle.graph_unification.proofs.Changing.{nothing, both, for_other}
use Rattle.graph_unification.proofs.Staying.{base_name, base_named, implied_holds, certain_kept, held_kept, has_kept}
use Rattle.graph_unification.proofs.PointSteps.{or_right, not_null, null_holds, implies_any, implies_not, certain_marked, marked_certain}

abbrev has_index : Path → Bool
has_index path = is_indexed path.base || list_any is_element path.steps

module _ (tac : Tac) (made : AreMade tac.structs) (owner : Owner) (path : Path) where
  base_certain : (old other : Graph) (into : GraphMap) → IsSound tac.structs old → Maps tac.structs old other into → is_certain old (base_of tac old owner path) ≡ true → is_certain other (base_of tac other owner path) ≡ true
  base_certain old other into sound maps certain =
      ap (is_certain other) (base_named tac other owner path.base)
      ∙ certain_kept tac.structs made old other into sound maps (base_name owner path.base) (ap (is_certain old) (sym (base_named tac old owner path.base)) ∙ certain)

  module _ (name : Name) (named : (graph : Graph) → graph.targets name ≡ (base_part tac graph owner path.base).target) where
    base_marked : (graph : Graph) (mark : Mark) → IsMarked name mark graph → at_target graph (base_part tac graph owner path.base).target (λ node shift. has_mark mark node.flags) ≡ true
    base_marked graph mark is = ap (λ t. at_target graph t (λ node shift. has_mark mark node.flags)) (sym (named graph)) ∙ is

    marked_base : (graph : Graph) (mark : Mark) → at_target graph (base_part tac graph owner path.base).target (λ node shift. has_mark mark node.flags) ≡ true → IsMarked name mark graph
    marked_base graph mark is = ap (λ t. at_target graph t (λ node shift. has_mark mark node.flags)) (named graph) ∙ is

    base_marked_if : (graph : Graph) (asked : Bool) → IsMarkedIf asked name M.Array graph → at_target graph (base_part tac graph owner path.base).target (λ node shift. implies asked node.flags.array) ≡ true
    base_marked_if graph asked is = ap (λ t. at_target graph t (λ node shift. implies asked node.flags.array)) (sym (named graph)) ∙ is

    marked_base_if : (graph : Graph) (asked : Bool) → at_target graph (base_part tac graph owner path.base).target (λ node shift. implies asked node.flags.array) ≡ true → IsMarkedIf asked name M.Array graph
    marked_base_if graph asked is = ap (λ t. at_target graph t (λ node shift. implies asked node.flags.array)) (named graph) ∙ is

    module _ (one two three four : Graph) (a b c : Bool) (sound : IsSound tac.structs one) (sound_two : IsSound tac.structs two) where
      pub touched : (kind : Mark) (asked : Bool) → asked ≡ is_indexed path.base → Applies tac.structs a one two (λ graph. base_typed tac graph owner path.base ≡ true)
          → Applies tac.structs b two three (IsMarkedIf asked name M.Array) → Applies tac.structs c three four (IsMarked name kind)
          → Applies tac.structs (a || (b || c)) one four (IsTouched tac owner path kind)
      touched kind asked is typed used marked =
          let Typed = λ (graph : Graph). base_typed tac graph owner path.base ≡ true in
          let Used = IsMarkedIf (is_indexed path.base) name M.Array in
          let Marked = IsMarked name kind in
          let then = both tac.structs made b c two three four sound_two Used Marked (subst (λ x. Applies tac.structs b two three (IsMarkedIf x name M.Array)) is used) marked in
          for_other tac.structs (a || (b || c)) one four (λ graph. Typed graph × (Used graph × Marked graph)) (IsTouched tac owner path kind)
          (λ other into maps its. (its.0, (marked_base_if other (is_indexed path.base) its.1, marked_base other kind its.2)))
          (λ e its. (its.0, base_marked_if four (is_indexed path.base) its.1.0, base_marked four kind its.1.1))
          (both tac.structs made a (b || c) one two four sound Typed (λ graph. Used graph × Marked graph) typed then)

      pub addressed : (to : Register) (own : Name) → own ≡ OfRegister owner to → (asked : Bool) → asked ≡ has_index path → is_certain one (base_of tac one owner path) ≡ true
          → Applies tac.structs a one two (IsMemberTyped tac owner path) → Applies tac.structs b two three (IsMarkedIf asked name M.Array) → Applies tac.structs c three four (IsPlace tac owner own path)
          → Applies tac.structs (a || (b || c)) one four (λ graph. address_asked tac graph owner to path ≡ true)
      addressed to own is_own asked is certain typed used joined =
          let Typed = IsMemberTyped tac owner path in
          let Used = IsMarkedIf (has_index path) name M.Array in
          let Place = IsPlace tac owner (OfRegister owner to) path in
          let then = both tac.structs made b c two three four sound_two Used Place (subst (λ x. Applies tac.structs b two three (IsMarkedIf x name M.Array)) is used)
          (subst (λ n. Applies tac.structs c three four (IsPlace tac owner n path)) is_own joined) in
          for_other tac.structs (a || (b || c)) one four (λ graph. Typed graph × (Used graph × Place graph)) (λ graph. address_asked tac graph owner to path ≡ true)
          (λ other into maps its.
          let all = and_parts _ _ (implied_holds _ _ its (base_certain one other into sound maps certain)) in
          let rest = and_parts _ _ all.1 in
          (rest.0, (marked_base_if other (has_index path) rest.1, all.0)))
          (λ e its. implies_any _ _ (and_from _ _ its.1.1 (and_from _ _ its.0 (base_marked_if four (has_index path) its.1.0))))
          (both tac.structs made a (b || c) one two four sound Typed (λ graph. Used graph × Place graph) typed then)

  module _ (old middle new : Graph) (a b : Bool) (sound : IsSound tac.structs old) (sound_middle : IsSound tac.structs middle) where
    pub loaded : (to : Register) (scalar : CType) → is_certain old (base_of tac old owner path) ≡ true → Applies tac.structs a old middle (IsTouched tac owner path M.Read)
        → Applies tac.structs b middle new (IsHeld tac owner to scalar path) → Applies tac.structs (a || b) old new (λ graph. load_asked tac graph owner to scalar path ≡ true)
    loaded to scalar certain touched held =
        for_other tac.structs (a || b) old new (λ graph. IsTouched tac owner path M.Read graph × IsHeld tac owner to scalar path graph) (λ graph. load_asked tac graph owner to scalar path ≡ true)
        (λ other into maps its.
        let typed = and_parts _ _ (implied_holds _ _ its (base_certain old other into sound maps certain)) in
        let used = and_parts _ _ typed.1 in
        let read = and_parts _ _ used.1 in
        ((typed.0, used.0, read.0), read.1))
        (λ e its. implies_any _ _ (and_from _ _ its.0.0 (and_from _ _ its.0.1 (and_from _ _ its.0.2 its.1))))
        (both tac.structs made a b old middle new sound (IsTouched tac owner path M.Read) (IsHeld tac owner to scalar path) touched held)

    pub stored : (scalar : CType) (value : Operand) → is_certain old (base_of tac old owner path) ≡ true → Applies tac.structs a old middle (IsTouched tac owner path M.Modified)
        → Applies tac.structs b middle new (IsKept tac owner scalar value path) → Applies tac.structs (a || b) old new (λ graph. store_asked tac graph owner path scalar value ≡ true)
    stored scalar value certain touched kept =
        for_other tac.structs (a || b) old new (λ graph. IsTouched tac owner path M.Modified graph × IsKept tac owner scalar value path graph) (λ graph. store_asked tac graph owner path scalar value ≡ true)
        (λ other into maps its.
        let typed = and_parts _ _ (implied_holds _ _ its (base_certain old other into sound maps certain)) in
        let used = and_parts _ _ typed.1 in
        let modified = and_parts _ _ used.1 in
        ((typed.0, used.0, modified.0), modified.1))
        (λ e its. implies_any _ _ (and_from _ _ its.0.0 (and_from _ _ its.0.1 (and_from _ _ its.0.2 its.1))))
        (both tac.structs made a b old middle new sound (IsTouched tac owner path M.Modified) (IsKept tac owner scalar value path) touched kept)

    pub holds_loaded : (to : Register) (scalar : CType) (own : Name) → own ≡ OfRegister owner to → is_data_pointer scalar ≡ true → has_target (old.targets own) ≡ true
        → Applies tac.structs a old middle (IsLinked tac owner own path) → Applies tac.structs b middle new (IsMarked own M.Certain) → Applies tac.structs (a || b) old new (IsHeld tac owner to scalar path)
    holds_loaded to scalar own named holds has linked marked =
        let name = OfRegister owner to in
        for_other tac.structs (a || b) old new (λ graph. IsLinked tac owner name path graph × IsMarked name M.Certain graph) (IsHeld tac owner to scalar path)
        (λ other into maps its. let parts = and_parts _ _ (implied_holds _ _ its holds) in (parts.1, certain_marked other (other.targets name) parts.0))
        (λ e its. implies_any _ _ (and_from _ _ (marked_certain new (new.targets name) (ap (λ (g : Graph). has_target (g.targets name)) e ∙ ap (λ n. has_target (old.targets n)) (sym named) ∙ has) its.1) its.0))
        (both tac.structs made a b old middle new sound (IsLinked tac owner name path) (IsMarked name M.Certain) (subst (λ n. Applies tac.structs a old middle (IsLinked tac owner n path)) named linked)
        (subst (λ n. Applies tac.structs b middle new (IsMarked n M.Certain)) named marked))

  module _ (old new : Graph) (a : Bool) (sound : IsSound tac.structs old) where
    pub nothing_loaded : (to : Register) (scalar : CType) → is_data_pointer scalar ≡ false → Applies tac.structs false old old (IsHeld tac owner to scalar path)
    nothing_loaded to scalar e = nothing tac.structs made old sound (IsHeld tac owner to scalar path) (implies_not _ _ e)

    pub no_load : (to : Register) (scalar : CType) → is_certain old (base_of tac old owner path) ≡ false → Applies tac.structs false old old (λ graph. load_asked tac graph owner to scalar path ≡ true)
    no_load to scalar e = nothing tac.structs made old sound (λ graph. load_asked tac graph owner to scalar path ≡ true) (implies_not _ _ e)

    pub no_store : (scalar : CType) (value : Operand) → is_certain old (base_of tac old owner path) ≡ false → Applies tac.structs false old old (λ graph. store_asked tac graph owner path scalar value ≡ true)
    no_store scalar value e = nothing tac.structs made old sound (λ graph. store_asked tac graph owner path scalar value ≡ true) (implies_not _ _ e)

    pub no_address : (to : Register) → is_certain old (base_of tac old owner path) ≡ false → Applies tac.structs false old old (λ graph. address_asked tac graph owner to path ≡ true)
    no_address to e = nothing tac.structs made old sound (λ graph. address_asked tac graph owner to path ≡ true) (implies_not _ _ e)

    pub integer_kept : (scalar : CType) (value : Operand) (tree : Tree) → value ≡ IntegerOperand tree → Applies tac.structs false old old (IsKept tac owner scalar value path)
    integer_kept scalar value tree e = nothing tac.structs made old sound (IsKept tac owner scalar value path) (subst (λ v. IsKept tac owner scalar v path old) (sym e) refl)

    pub other_kept : (scalar : CType) (register : Register) → is_data_pointer scalar ≡ false → Applies tac.structs false old old (IsKept tac owner scalar (PointerOperand register) path)
    other_kept scalar register e = nothing tac.structs made old sound (IsKept tac owner scalar (PointerOperand register) path) (implies_not _ _ e)

    pub null_kept : (scalar : CType) (register : Register) → is_null tac owner register ≡ true → Applies tac.structs false old old (IsKept tac owner scalar (PointerOperand register) path)
    null_kept scalar register e = nothing tac.structs made old sound (IsKept tac owner scalar (PointerOperand register) path) (implies_any _ _ (null_holds (is_null tac owner register) _ e))

    pub pointer_kept : (scalar : CType) (register : Register) (own : Name) → own ≡ OfRegister owner register → is_data_pointer scalar ≡ true → is_null tac owner register ≡ false → Applies tac.structs a old new (IsLinked tac owner own path)
        → Applies tac.structs a old new (IsKept tac owner scalar (PointerOperand register) path)
    pointer_kept scalar register own named holds some linked =
        let name = OfRegister owner register in
        for_other tac.structs a old new (IsLinked tac owner name path) (IsKept tac owner scalar (PointerOperand register) path)
        (λ other into maps its.
        let same = not_null (is_null tac owner register) _ some (implied_holds _ _ its holds) in
        eq_same (other.targets name) (edge_at other (path_part tac other owner path).target) (sym (same_eq (edge_at other (path_part tac other owner path).target) (other.targets name) same)))
        (λ e its.
        implies_any _ _ (or_right (is_null tac owner register) _
        (eq_same (edge_at new (path_part tac new owner path).target) (new.targets name) (sym (same_eq (new.targets name) (edge_at new (path_part tac new owner path).target) its)))))
        (subst (λ n. Applies tac.structs a old new (IsLinked tac owner n path)) named linked)

told_stays : (b x y : Bool) → (x ≡ true → y ≡ true) → cond b x true ≡ true → cond b y true ≡ true
told_stays true x y f h = f h
told_stays false x y f h = refl

-- what was told of the object behind a pointer stays told
pub base_typed_kept : (tac : Tac) → AreMade tac.structs → (owner : Owner) (old new : Graph) (map : GraphMap) → IsSound tac.structs old → Maps tac.structs old new map → (base : Base)
    → has_target (base_part tac old owner base).target ≡ true → base_typed tac old owner base ≡ true → base_typed tac new owner base ≡ true
base_typed_kept tac made owner old new map sound maps (AtLocal local) has h = refl
base_typed_kept tac made owner old new map sound maps (AtGlobal number) has h = refl
base_typed_kept tac made owner old new map sound maps (AtLiteral number) has h = refl
base_typed_kept tac made owner old new map sound maps (Pointed pointer target) has h =
    told_stays (is_complete tac.structs target) _ _ (held_kept tac.structs made old new map sound maps (OfRegister owner pointer) target has) h
base_typed_kept tac made owner old new map sound maps (Indexed pointer target number) has h =
    told_stays (is_complete tac.structs target) _ _ (held_kept tac.structs made old new map sound maps (OfRegister owner pointer) target has) h

pub base_kept : (tac : Tac) → AreMade tac.structs → (owner : Owner) (old new : Graph) (map : GraphMap) → IsSound tac.structs old → Maps tac.structs old new map → (base : Base)
    → has_target (base_part tac old owner base).target ≡ true → has_target (base_part tac new owner base).target ≡ true
base_kept tac made owner old new map sound maps base has =
    ap has_target (base_named tac new owner base) ∙ has_kept tac.structs made old new map sound maps (base_name owner base) (ap has_target (sym (base_named tac old owner base)) ∙ has)

-- it is told after the flags are set too
pub typed_touched : (tac : Tac) → (made : AreMade tac.structs) → (owner : Owner) (path : Path) (name : Name) → ((graph : Graph) → graph.targets name ≡ (base_part tac graph owner path.base).target)
    → (one two three four : Graph) (a b c : Bool) → IsSound tac.structs two → IsSound tac.structs three → has_target (base_part tac one owner path.base).target ≡ true → {wanted used marked : Graph → Type 0} → Applies tac.structs a one two wanted
    → base_typed tac two owner path.base ≡ true → Applies tac.structs b two three used → Applies tac.structs c three four marked → IsMemberTyped tac owner path four
typed_touched tac made owner path name named one two three four a b c sound_two sound_three has first typed then last =
    let has_two = ap has_target (sym (named two)) ∙ first.leads.names name ∙ ap has_target (named one) ∙ has in
    let has_three = base_kept tac made owner two three then.map sound_two then.maps path.base has_two in
    implies_any _ _ (base_typed_kept tac made owner three four last.map sound_three last.maps path.base has_three (base_typed_kept tac made owner two three then.map sound_two then.maps path.base has_two typed))

-- ---- what is told where a path has a member

module _ (tac : Tac) (made : AreMade tac.structs) (owner : Owner) (path : Path) where
  pub member_told : (changed : Bool) (old new : Graph) → list_any is_member path.steps ≡ true → Applies tac.structs changed old new (λ graph. base_typed tac graph owner path.base ≡ true)
      → Applies tac.structs changed old new (IsMemberTyped tac owner path)
  member_told changed old new members its =
      for_other tac.structs changed old new (λ graph. base_typed tac graph owner path.base ≡ true) (IsMemberTyped tac owner path) (λ other into maps typed. implied_holds _ _ typed members)
      (λ e typed. implies_any _ _ typed) its

  pub no_member : (graph : Graph) → list_any is_member path.steps ≡ false → IsMemberTyped tac owner path graph
  no_member graph e = implies_not _ _ e

  pub nothing_told : (graph : Graph) → IsSound tac.structs graph → list_any is_member path.steps ≡ false → Applies tac.structs false graph graph (IsMemberTyped tac owner path)
  nothing_told graph sound e = nothing tac.structs made graph sound (IsMemberTyped tac owner path) (no_member graph e)

  pub member_typed_kept : (old new : Graph) (map : GraphMap) → IsSound tac.structs old → Maps tac.structs old new map → has_target (base_part tac old owner path.base).target ≡ true
      → IsMemberTyped tac owner path old → IsMemberTyped tac owner path new
  member_typed_kept old new map sound maps has typed = by (list_any is_member path.steps) refl
    where
      by : (m : Bool) → list_any is_member path.steps ≡ m → IsMemberTyped tac owner path new
      by true e = implies_any _ _ (base_typed_kept tac made owner old new map sound maps path.base has (implied_holds _ _ typed e))
      by false e = implies_not _ _ e
