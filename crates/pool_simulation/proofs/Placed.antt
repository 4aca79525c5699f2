-- Where globals, literals and the objects of frames lie: one behind another, apart.
use Rattle.std.proofs.Common.{◌≡◌, ℕ, zero, suc, ◌+◌, ◌*◌, ◌<◌, ◌≤◌, Bool, true, false, cond, List, [], ◌∷◌, ◌++◌, length, map, slice_get, Some, refl, sym, ap, subst, ◌∙◌, ◌⊎◌, inl, inr, arith}
use Rattle.std.proofs.lemmas.Bool.{false≢true, cases_lt, eqb-true}
use Rattle.std.proofs.lemmas.Option.{none-some, same_Some}
use Rattle.c_typed.specs.Types.{CType, literal_type}
use Rattle.c_typed.specs.Layouts.{StructDef, Layout, layout_of}
use Rattle.c_typed.specs.Typed.{GlobalDef, LiteralDef}
use Rattle.tac_ir.specs.declared.register.Local.{Local}
use Rattle.tac_ir.specs.declared.register.Local.TheVariants as L
use Rattle.tac_ir.specs.Values.{same_local}
use Rattle.tac_ir.specs.Layouts.{size_of, Inner}
use Rattle.tac_ir.specs.Objects.{own_type}
use Rattle.tac_ir.specs.Code.{LocalObject, Function, Tac}
use Rattle.pool_ir.specs.Code.{FrameObject}
use Rattle.pool_ir.specs.Frames.{objects_start}
use Rattle.pool_rewrite.specs.Plan.{FunctionPlan}
use Rattle.pool_rewrite.specs.Placing.{begins, end_behind, begin_of, static_layouts, global_offset, literal_offset, statics_size, frame_objects, own_layouts, words_alone, frame_of, offset_of_local}
use Rattle.pool_rewrite.specs.Standing.{AreApart}
use Rattle.pool_simulation.proofs.AlignedLayouts.{aligned_above, aligned_below, IsAligned, aligned_layout}

-- ---- one behind another

-- each layout has an alignment
abbrev pub AllAligned : List Layout → Type 0
AllAligned [] = Unit {0}
AllAligned (first ∷ others) = IsAligned first × AllAligned others

-- the sum of sizes and alignments
abbrev pub room_of : List Layout → ℕ
room_of [] = 0
room_of (first ∷ others) = first.size + first.alignment + room_of others

pub front_below : (front : ℕ) (layouts : List Layout) → AllAligned layouts → front ≤ end_behind front layouts
front_below front [] h = omega arith
front_below front (first ∷ others) h =
    let above = aligned_above first.alignment front h.0.one in
    let rest = front_below (begins front first + first.size) others h.1 in
    through front (begins front first) first.size (end_behind front (first ∷ others)) above rest
  where
    through : (front start size end : ℕ) → front ≤ start → start + size ≤ end → front ≤ end
    through front start size end le le' = omega arith

-- they end within the sum of their sizes and alignments
pub end_within : (front : ℕ) (layouts : List Layout) → AllAligned layouts → end_behind front layouts ≤ front + room_of layouts
end_within front [] h = omega arith
end_within front (first ∷ others) h =
    let below = aligned_below first.alignment front h.0.one in
    let rest = end_within (begins front first + first.size) others h.1 in
    through front (begins front first) first.size first.alignment (room_of others) (end_behind front (first ∷ others)) below rest
  where
    through : (front start size alignment room end : ℕ) → start < front + alignment → end ≤ start + size + room → end ≤ front + (size + alignment + room)
    through front start size alignment room end lt le = omega arith

abbrev pub sizes_of : List Layout → ℕ
sizes_of [] = 0
sizes_of (first ∷ others) = first.size + sizes_of others

-- no alignment is greater than 8
pub room_bound : (layouts : List Layout) → AllAligned layouts → room_of layouts ≤ sizes_of layouts + 8 * length layouts
room_bound [] h = omega arith
room_bound (first ∷ others) h =
    let eight = h.0.eight in
    let rest = room_bound others h.1 in
    omega (arith, eight, rest)

-- one of them
pub record IsPlaced (front : ℕ) (layouts : List Layout) (number size : ℕ) : Type 0 where
  pub behind : front ≤ begin_of front layouts number
  pub within : begin_of front layouts number + size ≤ end_behind front layouts

pub is_placed : (front : ℕ) (layouts : List Layout) (number : ℕ) (layout : Layout) → AllAligned layouts → slice_get layouts number ≡ Some layout → IsPlaced front layouts number layout.size
is_placed front [] number layout h there = absurd (none-some layout there)
is_placed front (first ∷ others) zero layout h there =
    let same = ap (λ (l : Layout). l.size) (same_Some first layout there) in
    let rest = front_below (begins front first + first.size) others h.1 in
    record {
      behind = aligned_above first.alignment front h.0.one;
      within = ends (begins front first) first.size layout.size (end_behind front (first ∷ others)) same rest;
    }
  where
    ends : (start size own end : ℕ) → size ≡ own → start + size ≤ end → start + own ≤ end
    ends start size own end e le = omega arith
is_placed front (first ∷ others) (suc number) layout h there =
    let above = aligned_above first.alignment front h.0.one in
    let rest = is_placed (begins front first + first.size) others number layout h.1 there in
    record { behind = through front (begins front first) first.size (begin_of front (first ∷ others) (suc number)) above rest.behind; within = rest.within }
  where
    through : (front start size place : ℕ) → front ≤ start → start + size ≤ place → front ≤ place
    through front start size place le le' = omega arith

-- each ends before the next ones
pub in_order : (front : ℕ) (layouts : List Layout) (number other : ℕ) (layout other_layout : Layout) → AllAligned layouts
    → slice_get layouts number ≡ Some layout → slice_get layouts other ≡ Some other_layout → number < other → begin_of front layouts number + layout.size ≤ begin_of front layouts other
in_order front [] number other layout other_layout h there other_there lt = absurd (none-some layout there)
in_order front (first ∷ others) number zero layout other_layout h there other_there lt = absurd (omega arith)
in_order front (first ∷ others) zero (suc other) layout other_layout h there other_there lt =
    let same = ap (λ (l : Layout). l.size) (same_Some first layout there) in
    let rest = (is_placed (begins front first + first.size) others other other_layout h.1 other_there).behind in
    ends (begins front first) first.size layout.size (begin_of front (first ∷ others) (suc other)) same rest
  where
    ends : (start size own end : ℕ) → size ≡ own → start + size ≤ end → start + own ≤ end
    ends start size own end e le = omega arith
in_order front (first ∷ others) (suc number) (suc other) layout other_layout h there other_there lt =
    in_order (begins front first + first.size) others number other layout other_layout h.1 there other_there (omega arith)

pub placed_apart : (front : ℕ) (layouts : List Layout) (number other : ℕ) (layout other_layout : Layout) → AllAligned layouts
    → slice_get layouts number ≡ Some layout → slice_get layouts other ≡ Some other_layout
    → (number ≡ other) ⊎ AreApart (begin_of front layouts number) layout.size (begin_of front layouts other) other_layout.size
placed_apart front layouts number other layout other_layout h there other_there = by (cases_lt number other) (cases_lt other number)
  where
    both : (a b : ℕ) → a ≤ b → b ≤ a → a ≡ b
    both a b le le' = omega arith

    by : (number < other) ⊎ (other ≤ number) → (other < number) ⊎ (number ≤ other) → (number ≡ other) ⊎ AreApart (begin_of front layouts number) layout.size (begin_of front layouts other) other_layout.size
    by (inl lt) order = inr (inl (in_order front layouts number other layout other_layout h there other_there lt))
    by (inr above) (inl lt) = inr (inr (in_order front layouts other number other_layout layout h other_there there lt))
    by (inr above) (inr under) = inl (both number other under above)

-- ---- globals and literals

aligned_globals : (tac : Tac) (globals : List GlobalDef) (more : List Layout) → AllAligned more → AllAligned (map (λ (global : GlobalDef). layout_of tac.structs global.c_type) globals ++ more)
aligned_globals tac [] more h = h
aligned_globals tac (global ∷ globals) more h = (aligned_layout tac.structs global.c_type, aligned_globals tac globals more h)

aligned_literals : (tac : Tac) (literals : List LiteralDef) → AllAligned (map (λ (literal : LiteralDef). layout_of tac.structs (literal_type literal.bytes)) literals)
aligned_literals tac [] = tt
aligned_literals tac (literal ∷ literals) = (aligned_layout tac.structs (literal_type literal.bytes), aligned_literals tac literals)

pub aligned_statics : (tac : Tac) → AllAligned (static_layouts tac)
aligned_statics tac = aligned_globals tac tac.globals (map (λ (literal : LiteralDef). layout_of tac.structs (literal_type literal.bytes)) tac.literals) (aligned_literals tac tac.literals)

get_mapped : {A B : Type 0} (f : A → B) (xs : List A) (number : ℕ) (x : A) → slice_get xs number ≡ Some x → slice_get (map f xs) number ≡ Some (f x)
get_mapped f [] number x there = absurd (none-some x there)
get_mapped f (first ∷ xs) zero x there = ap (λ y. Some (f y)) (same_Some first x there)
get_mapped f (first ∷ xs) (suc number) x there = get_mapped f xs number x there

get_front : {A : Type 0} (xs ys : List A) (number : ℕ) (x : A) → slice_get xs number ≡ Some x → slice_get (xs ++ ys) number ≡ Some x
get_front [] ys number x there = absurd (none-some x there)
get_front (first ∷ xs) ys zero x there = there
get_front (first ∷ xs) ys (suc number) x there = get_front xs ys number x there

get_back : {A B : Type 0} (f : A → B) (xs : List A) (ys : List B) (number : ℕ) → slice_get (map f xs ++ ys) (length xs + number) ≡ slice_get ys number
get_back f [] ys number = ap (slice_get ys) (omega arith)
get_back f (first ∷ xs) ys number =
    let next : length (first ∷ xs) + number ≡ suc (length xs + number) = omega arith in
    ap (slice_get (f first ∷ (map f xs ++ ys))) next ∙ get_back f xs ys number

pub get_length : {A : Type 0} (xs : List A) (number : ℕ) (x : A) → slice_get xs number ≡ Some x → number < length xs
get_length [] number x there = absurd (none-some x there)
get_length (first ∷ xs) zero x there = omega arith
get_length (first ∷ xs) (suc number) x there = let lt = get_length xs number x there in omega arith

module _ (tac : Tac) where
  pub global_layout : (number : ℕ) (global : GlobalDef) → slice_get tac.globals number ≡ Some global → slice_get (static_layouts tac) number ≡ Some (layout_of tac.structs global.c_type)
  global_layout number global there =
      get_front (map (λ (global : GlobalDef). layout_of tac.structs global.c_type) tac.globals) (map (λ (literal : LiteralDef). layout_of tac.structs (literal_type literal.bytes)) tac.literals)
      number (layout_of tac.structs global.c_type) (get_mapped (λ (global : GlobalDef). layout_of tac.structs global.c_type) tac.globals number global there)

  pub literal_layout : (number : ℕ) (literal : LiteralDef) → slice_get tac.literals number ≡ Some literal
      → slice_get (static_layouts tac) (length tac.globals + number) ≡ Some (layout_of tac.structs (literal_type literal.bytes))
  literal_layout number literal there =
      get_back (λ (global : GlobalDef). layout_of tac.structs global.c_type) tac.globals (map (λ (literal : LiteralDef). layout_of tac.structs (literal_type literal.bytes)) tac.literals) number
      ∙ get_mapped (λ (literal : LiteralDef). layout_of tac.structs (literal_type literal.bytes)) tac.literals number literal there

  pub global_within : (number : ℕ) (global : GlobalDef) → slice_get tac.globals number ≡ Some global → global_offset tac number + size_of tac.structs global.c_type ≤ statics_size tac
  global_within number global there = (is_placed 0 (static_layouts tac) number (layout_of tac.structs global.c_type) (aligned_statics tac) (global_layout number global there)).within

  pub literal_within : (number : ℕ) (literal : LiteralDef) → slice_get tac.literals number ≡ Some literal
      → literal_offset tac number + size_of tac.structs (literal_type literal.bytes) ≤ statics_size tac
  literal_within number literal there =
      (is_placed 0 (static_layouts tac) (length tac.globals + number) (layout_of tac.structs (literal_type literal.bytes)) (aligned_statics tac) (literal_layout number literal there)).within

  pub globals_apart : (number other : ℕ) (global other_global : GlobalDef) → slice_get tac.globals number ≡ Some global → slice_get tac.globals other ≡ Some other_global
      → (number ≡ other) ⊎ AreApart (global_offset tac number) (size_of tac.structs global.c_type) (global_offset tac other) (size_of tac.structs other_global.c_type)
  globals_apart number other global other_global there other_there =
      placed_apart 0 (static_layouts tac) number other (layout_of tac.structs global.c_type) (layout_of tac.structs other_global.c_type) (aligned_statics tac)
      (global_layout number global there) (global_layout other other_global other_there)

  pub literals_apart : (number other : ℕ) (literal other_literal : LiteralDef) → slice_get tac.literals number ≡ Some literal → slice_get tac.literals other ≡ Some other_literal
      → (number ≡ other)
      ⊎ AreApart (literal_offset tac number) (size_of tac.structs (literal_type literal.bytes)) (literal_offset tac other) (size_of tac.structs (literal_type other_literal.bytes))
  literals_apart number other literal other_literal there other_there =
      by (placed_apart 0 (static_layouts tac) (length tac.globals + number) (length tac.globals + other) (layout_of tac.structs (literal_type literal.bytes)) (layout_of tac.structs (literal_type other_literal.bytes))
      (aligned_statics tac) (literal_layout number literal there) (literal_layout other other_literal other_there))
    where
      same : (front number other : ℕ) → front + number ≡ front + other → number ≡ other
      same front number other e = omega arith

      by : (length tac.globals + number ≡ length tac.globals + other)
          ⊎ AreApart (literal_offset tac number) (size_of tac.structs (literal_type literal.bytes)) (literal_offset tac other) (size_of tac.structs (literal_type other_literal.bytes))
          → (number ≡ other)
          ⊎ AreApart (literal_offset tac number) (size_of tac.structs (literal_type literal.bytes)) (literal_offset tac other) (size_of tac.structs (literal_type other_literal.bytes))
      by (inl e) = inl (same (length tac.globals) number other e)
      by (inr apart) = inr apart

  -- literals lie behind globals
  pub global_before_literal : (number other : ℕ) (global : GlobalDef) (literal : LiteralDef) → slice_get tac.globals number ≡ Some global → slice_get tac.literals other ≡ Some literal
      → global_offset tac number + size_of tac.structs global.c_type ≤ literal_offset tac other
  global_before_literal number other global literal there other_there =
      in_order 0 (static_layouts tac) number (length tac.globals + other) (layout_of tac.structs global.c_type) (layout_of tac.structs (literal_type literal.bytes)) (aligned_statics tac)
      (global_layout number global there) (literal_layout other literal other_there) (before number (length tac.globals) other (get_length tac.globals number global there))
    where
      before : (number globals other : ℕ) → number < globals → number < globals + other
      before number globals other lt = omega arith

  pub statics_bound : statics_size tac ≤ room_of (static_layouts tac)
  statics_bound = by (statics_size tac) (room_of (static_layouts tac)) (end_within 0 (static_layouts tac) (aligned_statics tac))
    where
      by : (size room : ℕ) → size ≤ 0 + room → size ≤ room
      by size room le = omega arith

-- ---- frames

pub aligned_own : (structs : List StructDef) (objects : List LocalObject) → AllAligned (own_layouts structs objects)
aligned_own structs [] = tt
aligned_own structs (first ∷ others) = (aligned_layout structs first.c_type, aligned_own structs others)

pub own_layout : (structs : List StructDef) (objects : List LocalObject) (number : ℕ) (own : LocalObject) → slice_get objects number ≡ Some own
    → slice_get (own_layouts structs objects) number ≡ Some (layout_of structs own.c_type)
own_layout structs objects number own there = get_mapped (λ (own : LocalObject). layout_of structs own.c_type) objects number own there

same_local-true : (a b : Local) → same_local a b ≡ true → a ≡ b
same_local-true (L.Parameter a) (L.Parameter b) h = ap L.Parameter (eqb-true a b h)
same_local-true (L.Variable a) (L.Variable b) h = ap L.Variable (eqb-true a b h)
same_local-true (L.Parameter a) (L.Variable b) h = absurd (false≢true h)
same_local-true (L.Variable a) (L.Parameter b) h = absurd (false≢true h)

-- the first object of a local: its number, and where it begins
pub record LocalAt (structs : List StructDef) (front : ℕ) (objects : List LocalObject) (local : Local) (inner : Inner) : Type 0 where
  pub number : ℕ
  pub own : LocalObject
  pub there : slice_get objects number ≡ Some own
  pub is_local : own.local ≡ local
  pub begin : inner.offset ≡ 0
  pub typed : inner.c_type ≡ own.c_type
  pub offset : offset_of_local (frame_objects structs front objects) local ≡ begin_of front (own_layouts structs objects) number

pub local_at : (structs : List StructDef) (front : ℕ) (objects : List LocalObject) (local : Local) (inner : Inner) → own_type objects local ≡ Some inner → LocalAt structs front objects local inner
local_at structs front [] local inner is = absurd (none-some inner is)
local_at structs front (first ∷ others) local inner is = by (same_local first.local local) refl is (local_at structs next others local inner)
  where
    next : ℕ
    next = begins front (layout_of structs first.c_type) + size_of structs first.c_type

    by : (b : Bool) → same_local first.local local ≡ b → cond b (Some (record { offset = 0; c_type = first.c_type })) (own_type others local) ≡ Some inner
        → (own_type others local ≡ Some inner → LocalAt structs next others local inner) → LocalAt structs front (first ∷ others) local inner
    by true test is rest =
        let same = same_Some (record { offset = 0; c_type = first.c_type }) inner is in
        record {
          number = 0;
          own = first;
          there = refl;
          is_local = same_local-true first.local local test;
          begin = sym (ap (λ (i : Inner). i.offset) same);
          typed = sym (ap (λ (i : Inner). i.c_type) same);
          offset = ap (λ b. cond b (begins front (layout_of structs first.c_type)) (offset_of_local (frame_objects structs next others) local)) test;
        }
    by false test is rest =
        let at = rest is in
        record {
          number = suc at.number;
          own = at.own;
          there = at.there;
          is_local = at.is_local;
          begin = at.begin;
          typed = at.typed;
          offset = ap (λ b. cond b (begins front (layout_of structs first.c_type)) (offset_of_local (frame_objects structs next others) local)) test ∙ at.offset;
        }

-- what a frame tells of an object
pub entry_at : (structs : List StructDef) (front : ℕ) (objects : List LocalObject) (number : ℕ) (own : LocalObject) → slice_get objects number ≡ Some own
    → slice_get (frame_objects structs front objects) number ≡ Some (record { local = own.local; offset = begin_of front (own_layouts structs objects) number; size = size_of structs own.c_type })
entry_at structs front [] number own there = absurd (none-some own there)
entry_at structs front (first ∷ others) zero own there =
    ap (λ (it : LocalObject). Some (record { local = it.local; offset = begins front (layout_of structs first.c_type); size = size_of structs it.c_type })) (same_Some first own there)
entry_at structs front (first ∷ others) (suc number) own there = entry_at structs (begins front (layout_of structs first.c_type) + size_of structs first.c_type) others number own there

-- where the objects of a frame begin
abbrev pub objects_front : FunctionPlan → Function → ℕ
objects_front plan function = objects_start (words_alone plan function)

module _ (structs : List StructDef) (plan : FunctionPlan) (function : Function) where
  -- a local lies behind the words, within the frame
  pub record LocalLies (local : Local) (inner : Inner) : Type 0 where
    pub behind : objects_front plan function ≤ offset_of_local (frame_of structs plan function).objects local
    pub within : offset_of_local (frame_of structs plan function).objects local + size_of structs inner.c_type ≤ (frame_of structs plan function).size

  pub local_lies : (local : Local) (inner : Inner) → own_type function.objects local ≡ Some inner → LocalLies local inner
  local_lies local inner is =
      let at = local_at structs (objects_front plan function) function.objects local inner is in
      let placed = is_placed (objects_front plan function) (own_layouts structs function.objects) at.number (layout_of structs at.own.c_type) (aligned_own structs function.objects) (own_layout structs function.objects at.number at.own at.there) in
      record {
        behind = subst (λ (n : ℕ). objects_front plan function ≤ n) (sym at.offset) placed.behind;
        within = ends (offset_of_local (frame_of structs plan function).objects local) (begin_of (objects_front plan function) (own_layouts structs function.objects) at.number) (size_of structs inner.c_type)
            (size_of structs at.own.c_type) (frame_of structs plan function).size at.offset (ap (size_of structs) at.typed) placed.within;
      }
    where
      ends : (start start' size size' end : ℕ) → start ≡ start' → size ≡ size' → start' + size' ≤ end → start + size ≤ end
      ends start start' size size' end e e' le = omega arith

  -- two locals lie apart
  pub locals_apart : (local other : Local) (inner other_inner : Inner) → own_type function.objects local ≡ Some inner → own_type function.objects other ≡ Some other_inner
      → (local ≡ other) ⊎ AreApart (offset_of_local (frame_of structs plan function).objects local) (size_of structs inner.c_type) (offset_of_local (frame_of structs plan function).objects other) (size_of structs other_inner.c_type)
  locals_apart local other inner other_inner is other_is = by at to (placed_apart (objects_front plan function) (own_layouts structs function.objects) at.number to.number (layout_of structs at.own.c_type) (layout_of structs to.own.c_type)
      (aligned_own structs function.objects) (own_layout structs function.objects at.number at.own at.there) (own_layout structs function.objects to.number to.own to.there))
    where
      at : LocalAt structs (objects_front plan function) function.objects local inner
      at = local_at structs (objects_front plan function) function.objects local inner is

      to : LocalAt structs (objects_front plan function) function.objects other other_inner
      to = local_at structs (objects_front plan function) function.objects other other_inner other_is

      by : (at : LocalAt structs (objects_front plan function) function.objects local inner) (to : LocalAt structs (objects_front plan function) function.objects other other_inner)
          → (at.number ≡ to.number)
          ⊎ AreApart (begin_of (objects_front plan function) (own_layouts structs function.objects) at.number) (size_of structs at.own.c_type) (begin_of (objects_front plan function) (own_layouts structs function.objects) to.number) (size_of structs to.own.c_type)
          → (local ≡ other) ⊎ AreApart (offset_of_local (frame_of structs plan function).objects local) (size_of structs inner.c_type) (offset_of_local (frame_of structs plan function).objects other) (size_of structs other_inner.c_type)
      by at to (inl e) =
          let same : at.own ≡ to.own = same_Some at.own to.own (sym at.there ∙ ap (slice_get function.objects) e ∙ to.there) in
          inl (sym at.is_local ∙ ap (λ (own : LocalObject). own.local) same ∙ to.is_local)
      by at to (inr apart) =
          inr (subst (λ (start : ℕ). AreApart start (size_of structs inner.c_type) (offset_of_local (frame_of structs plan function).objects other) (size_of structs other_inner.c_type)) (sym at.offset)
          (subst (λ (start : ℕ). AreApart (begin_of (objects_front plan function) (own_layouts structs function.objects) at.number) (size_of structs inner.c_type) start (size_of structs other_inner.c_type)) (sym to.offset)
          (subst (λ (t : CType). AreApart (begin_of (objects_front plan function) (own_layouts structs function.objects) at.number) (size_of structs t) (begin_of (objects_front plan function) (own_layouts structs function.objects) to.number) (size_of structs other_inner.c_type)) (sym at.typed)
          (subst (λ (t : CType). AreApart (begin_of (objects_front plan function) (own_layouts structs function.objects) at.number) (size_of structs at.own.c_type) (begin_of (objects_front plan function) (own_layouts structs function.objects) to.number) (size_of structs t)) (sym to.typed)
          apart))))

  pub frame_bound : (frame_of structs plan function).size ≤ objects_front plan function + room_of (own_layouts structs function.objects)
  frame_bound = end_within (objects_front plan function) (own_layouts structs function.objects) (aligned_own structs function.objects)

  pub frame_front : objects_front plan function ≤ (frame_of structs plan function).size
  frame_front = front_below (objects_front plan function) (own_layouts structs function.objects) (aligned_own structs function.objects)

  -- an object of the frame, by its number
  pub record EntryLies (number : ℕ) (own : LocalObject) : Type 0 where
    pub entry : FrameObject
    pub there : slice_get (frame_of structs plan function).objects number ≡ Some entry
    pub local : entry.local ≡ own.local
    pub size : entry.size ≡ size_of structs own.c_type
    pub offset : entry.offset ≡ begin_of (objects_front plan function) (own_layouts structs function.objects) number
    pub behind : objects_front plan function ≤ entry.offset
    pub within : entry.offset + entry.size ≤ (frame_of structs plan function).size

  pub entry_lies : (number : ℕ) (own : LocalObject) → slice_get function.objects number ≡ Some own → EntryLies number own
  entry_lies number own there =
      let placed = is_placed (objects_front plan function) (own_layouts structs function.objects) number (layout_of structs own.c_type) (aligned_own structs function.objects) (own_layout structs function.objects number own there) in
      record {
        entry = record { local = own.local; offset = begin_of (objects_front plan function) (own_layouts structs function.objects) number; size = size_of structs own.c_type };
        there = entry_at structs (objects_front plan function) function.objects number own there;
        local = refl;
        size = refl;
        offset = refl;
        behind = placed.behind;
        within = placed.within;
      }

  -- the objects lie in the order of the list
  pub entries_in_order : (number other : ℕ) (own other_own : LocalObject) → slice_get function.objects number ≡ Some own → slice_get function.objects other ≡ Some other_own → number < other
      → begin_of (objects_front plan function) (own_layouts structs function.objects) number + size_of structs own.c_type ≤ begin_of (objects_front plan function) (own_layouts structs function.objects) other
  entries_in_order number other own other_own there other_there lt =
      in_order (objects_front plan function) (own_layouts structs function.objects) number other (layout_of structs own.c_type) (layout_of structs other_own.c_type) (aligned_own structs function.objects)
      (own_layout structs function.objects number own there) (own_layout structs function.objects other other_own other_there) lt

  -- the first object of a local is where its offset is
  pub record LocalEntry (local : Local) (inner : Inner) : Type 0 where
    pub number : ℕ
    pub entry : FrameObject
    pub there : slice_get (frame_of structs plan function).objects number ≡ Some entry
    pub is_local : entry.local ≡ local
    pub offset : offset_of_local (frame_of structs plan function).objects local ≡ entry.offset
    pub size : entry.size ≡ size_of structs inner.c_type

  pub local_entry : (local : Local) (inner : Inner) → own_type function.objects local ≡ Some inner → LocalEntry local inner
  local_entry local inner is =
      let at = local_at structs (objects_front plan function) function.objects local inner is in
      let lies = entry_lies at.number at.own at.there in
      record {
        number = at.number;
        entry = lies.entry;
        there = lies.there;
        is_local = lies.local ∙ at.is_local;
        offset = at.offset ∙ sym lies.offset;
        size = lies.size ∙ ap (size_of structs) (sym at.typed);
      }
