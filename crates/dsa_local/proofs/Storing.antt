-- First values that are stored are told.
use Rattle.std.proofs.Common.{◌≡◌, ℕ, zero, suc, ◌+◌, Bool, true, false, cond, List, [], ◌∷◌, ◌++◌, length, map, Option, Some, None, refl, sym, ap, subst, ◌∙◌, arith}
use Rattle.std.specs.Prelude.{◌==◌, ◌&&◌, ◌||◌, not, slice_get, bytes_eq, pos}
use Rattle.std.specs.List.{list_any}
use Rattle.std.proofs.lemmas.Bool.{false≢true, true≢false, and_parts, and_from, eqb-true}
use Rattle.std.proofs.lemmas.Option.{none-some, same_Some}
use Rattle.run_theory.specs.declared.place.Pos.{Pos}
use Rattle.c_num.specs.declared.IntType.{IntType}
use Rattle.c_num.specs.Conversion.{convert_to}
use Rattle.c_typed.specs.Places.{is_same_place}
use Rattle.c_typed.specs.declared.part.Part.{Part}
use Rattle.c_typed.specs.declared.part.Part.TheVariants as P
use Rattle.c_typed.specs.DefinitionViews.{characters_held}
use Rattle.c_typed.specs.Values as first
use Rattle.c_typed.specs.Typed.{GlobalDef, LiteralDef}
use Rattle.tac_ir.specs.Code.{Base, AtGlobal, AtLiteral, Path, Tac}
use Rattle.tac_ir.specs.First.{named_global, placed_literal}
use Rattle.tac_ir.specs.Objects.{global_type, literal_object}
use Rattle.tac_ir.specs.States.{InStart}
use Rattle.heap_graph.specs.Graphs.{Target, OfGlobal, OfLiteral, Graph}
use Rattle.heap_graph.specs.Structures.{AreMade}
use Rattle.heap_graph.specs.Targets.{same_target, has_target, at_target, edge_at, holds_part, implies, member_part, element_part, elements_of}
use Rattle.heap_graph.specs.Targets as T
use Rattle.heap_graph.specs.Points.{type_of_inner, base_part, steps_part, path_part}
use Rattle.heap_graph.specs.Closed.{no_graph, first_part, global_part, literal_part, static_part, is_moved, constant_closed, all_held_closed, first_closed}
use Rattle.heap_graph.specs.Merging.{IsSound, GraphMap, Maps, HasEdge}
use Rattle.heap_graph.proofs.Certain.{same_eq, eq_same}
use Rattle.graph_unification.specs.Leading.{Least}
use Rattle.graph_unification.proofs.Places.{LeadsToSlot, path_mapped, place_slot}
use Rattle.graph_unification.proofs.Staying.{base_name, base_typed_by_code}
use Rattle.graph_unification.specs.Fits.{LeadsToPart}
use Rattle.graph_unification.specs.GraphPremises.First.{step_in, path_to, global_base, literal_base, base_of, IsWithin}
use Rattle.graph_unification.specs.Named.{HasGlobal, HasLiteral}
use Rattle.graph_unification.proofs.Fitting.{found_below}
use Rattle.dsa_local.specs.FirstTold.{alone}
use Rattle.dsa_local.specs.Moved.{moves}
use Rattle.dsa_local.specs.Storing.{HasWritten, IsWritten, PointsTo, IsValueStored, IsStored, AreStored}

-- ---- what is named is there

named_at : (number : ℕ) (globals : List GlobalDef) (name : List ℕ) (found : ℕ × GlobalDef) → named_global number globals name ≡ Some found
    → (index : ℕ) × (found.0 ≡ number + index) × (slice_get globals index ≡ Some found.1)
named_at number [] name found e = absurd (none-some found e)
named_at number (first ∷ others) name found e = by (bytes_eq first.name name) e (named_at (suc number) others name found)
  where
    by : (b : Bool) → cond b (Some (number, first)) (named_global (suc number) others name) ≡ Some found
        → (named_global (suc number) others name ≡ Some found → (index : ℕ) × (found.0 ≡ suc number + index) × (slice_get others index ≡ Some found.1))
        → (index : ℕ) × (found.0 ≡ number + index) × (slice_get (first ∷ others) index ≡ Some found.1)
    by true e rest =
        let same = same_Some (number, first) found e in
        let one : number ≡ number + 0 = omega arith in
        (0, sym (ap (λ (f : ℕ × GlobalDef). f.0) same) ∙ one, ap (λ (f : ℕ × GlobalDef). Some f.1) same)
    by false e rest =
        let later = rest e in
        let one : suc number + later.0 ≡ number + suc later.0 = omega arith in
        (suc later.0, later.1 ∙ one, later.2)

placed_at : (number : ℕ) (literals : List LiteralDef) (place : Pos) (found : ℕ × LiteralDef) → placed_literal number literals place ≡ Some found
    → (index : ℕ) × (found.0 ≡ number + index) × (slice_get literals index ≡ Some found.1)
placed_at number [] place found e = absurd (none-some found e)
placed_at number (first ∷ others) place found e = by (is_same_place first.place place) e (placed_at (suc number) others place found)
  where
    by : (b : Bool) → cond b (Some (number, first)) (placed_literal (suc number) others place) ≡ Some found
        → (placed_literal (suc number) others place ≡ Some found → (index : ℕ) × (found.0 ≡ suc number + index) × (slice_get others index ≡ Some found.1))
        → (index : ℕ) × (found.0 ≡ number + index) × (slice_get (first ∷ others) index ≡ Some found.1)
    by true e rest =
        let same = same_Some (number, first) found e in
        let one : number ≡ number + 0 = omega arith in
        (0, sym (ap (λ (f : ℕ × LiteralDef). f.0) same) ∙ one, ap (λ (f : ℕ × LiteralDef). Some f.1) same)
    by false e rest =
        let later = rest e in
        let one : suc number + later.0 ≡ number + suc later.0 = omega arith in
        (suc later.0, later.1 ∙ one, later.2)

-- ---- parts are those of paths

module _ (tac : Tac) (graph : Graph) where
  part_steps : (steps : List Part) (part : T.Part) → first_part (alone tac graph) steps part ≡ steps_part tac graph InStart (map step_in steps) part
  part_steps [] part = refl
  part_steps (P.Member index number ∷ steps) part = part_steps steps (member_part tac.structs graph number part)
  part_steps (P.Elements index ∷ steps) part = part_steps steps (element_part part)

  global_is : (number : ℕ) (global : GlobalDef) → slice_get tac.globals number ≡ Some global → global_part (alone tac graph) (Some (number, global)) ≡ base_part tac graph InStart (AtGlobal number)
  global_is number global is = λ i. record { target = graph.targets (OfGlobal number); c_type = (sym (ap (λ o. type_of_inner (global_type o)) is)) i }

  literal_is : (number : ℕ) (literal : LiteralDef) → slice_get tac.literals number ≡ Some literal → literal_part (alone tac graph) (Some (number, literal)) ≡ base_part tac graph InStart (AtLiteral number)
  literal_is number literal is = λ i. record { target = graph.targets (OfLiteral number); c_type = (sym (ap (λ o. type_of_inner (literal_object o)) is)) i }

  static_is : (root : first.Static) (base : Base) → base_of tac root ≡ Some base → static_part (alone tac graph) root ≡ base_part tac graph InStart base
  static_is (first.StaticVariable name) base e = by (named_global 0 tac.globals name) refl e
    where
      by : (o : Option (ℕ × GlobalDef)) → named_global 0 tac.globals name ≡ o → global_base o ≡ Some base → global_part (alone tac graph) o ≡ base_part tac graph InStart base
      by None is e = absurd (none-some base e)
      by (Some found) is e =
          let at = named_at 0 tac.globals name found is in
          let same : at.0 ≡ found.0 = omega (arith, at.1) in
          global_is found.0 found.1 (ap (slice_get tac.globals) (sym same) ∙ at.2) ∙ ap (base_part tac graph InStart) (same_Some (AtGlobal found.0) base e)
  static_is (first.StaticLiteral place) base e = by (placed_literal 0 tac.literals place) refl e
    where
      by : (o : Option (ℕ × LiteralDef)) → placed_literal 0 tac.literals place ≡ o → literal_base o ≡ Some base → literal_part (alone tac graph) o ≡ base_part tac graph InStart base
      by None is e = absurd (none-some base e)
      by (Some found) is e =
          let at = placed_at 0 tac.literals place found is in
          let same : at.0 ≡ found.0 = omega (arith, at.1) in
          literal_is found.0 found.1 (ap (slice_get tac.literals) (sym same) ∙ at.2) ∙ ap (base_part tac graph InStart) (same_Some (AtLiteral found.0) base e)

  -- ---- what is stored is told

  -- whether steps move within an array is no matter of the graph
  moves_alone : (step : Part) → moves step ≡ is_moved (alone tac graph) step
  moves_alone (P.Member index number) = refl
  moves_alone (P.Elements index) = refl

  moved_alone : (steps : List Part) → list_any moves steps ≡ list_any (is_moved (alone tac graph)) steps
  moved_alone [] = refl
  moved_alone (step ∷ steps) = λ i. (moves_alone step i || moved_alone steps i)

  pub points_told : (number : ℕ) (leaf : List Part) (place : first.FirstPlace) (base : Base) → base_of tac place.root ≡ Some base → PointsTo tac graph number leaf base place.steps place.index
      → IsValueStored tac graph number leaf (first.PointerValue place)
  points_told number leaf place base is points =
      let edge = edge_at graph (path_part tac graph InStart (path_to (AtGlobal number) leaf)).target in
      let moved = list_any (is_moved (alone tac graph)) place.steps || not (place.index == 0) in
      subst
      (λ (root : T.Part).
      (has_target root.target && (same_target edge (first_part (alone tac graph) place.steps root).target && at_target graph root.target (λ node shift. implies moved node.flags.array))) ≡ true)
      (sym (static_is place.root base is))
      (and_from _ _ points.there
      (and_from _ _
      (eq_same edge (first_part (alone tac graph) place.steps (base_part tac graph InStart base)).target
      (points.edge ∙ ap (λ (p : T.Part). p.target) (sym (part_steps place.steps (base_part tac graph InStart base)))))
      (subst (λ b. at_target graph (base_part tac graph InStart base).target (λ node shift. implies (b || not (place.index == 0)) node.flags.array) ≡ true) (moved_alone place.steps) points.array)))

  pub held_told : (number : ℕ) (held : first.Held) → IsWritten tac graph number → IsValueStored tac graph number held.leaf.steps held.value → IsStored tac graph number held
  held_told number held written value =
      and_from _ _ written.named.has
      (and_from _ _ written.modified
      (subst (λ (p : T.Part). constant_closed (alone tac graph) (edge_at graph p.target) held.value ≡ true) (sym (part_steps held.leaf.steps (base_part tac graph InStart (AtGlobal number)))) value))

  pub one_stored : (number : ℕ) (held : first.Held) → IsStored tac graph number held → AreStored tac graph number (held ∷ [])
  one_stored number held stored = and_from _ _ stored refl

  -- characters ask that the variable is written
  pub text_told : (number : ℕ) (steps : List Part) (int_type : IntType) (index : ℕ) (bytes : List ℕ) → IsWritten tac graph number → AreStored tac graph number (characters_held steps int_type index bytes)
  text_told number steps int_type index [] written = refl
  text_told number steps int_type index (byte ∷ bytes) written =
      and_from _ _
      (held_told number (record { leaf = record { steps = steps; index = index }; value = first.IntegerValue (convert_to int_type (pos byte)) }) written refl)
      (text_told number steps int_type (suc index) bytes written)

  pub no_text : (number : ℕ) (steps : List Part) (int_type : IntType) (bytes : List ℕ) → (length bytes == 0) ≡ true → AreStored tac graph number (characters_held steps int_type 0 bytes)
  no_text number steps int_type [] none = refl
  no_text number steps int_type (byte ∷ bytes) none = let e = eqb-true (suc (length bytes)) 0 none in absurd (omega (arith, e))

  -- ---- what is told was stored

  pub value_points : (number : ℕ) (leaf : List Part) (place : first.FirstPlace) (base : Base) → base_of tac place.root ≡ Some base → IsValueStored tac graph number leaf (first.PointerValue place)
      → PointsTo tac graph number leaf base place.steps place.index
  value_points number leaf place base is told =
      let edge = edge_at graph (path_part tac graph InStart (path_to (AtGlobal number) leaf)).target in
      let moved = list_any (is_moved (alone tac graph)) place.steps || not (place.index == 0) in
      let there : (has_target (base_part tac graph InStart base).target && (same_target edge (first_part (alone tac graph) place.steps (base_part tac graph InStart base)).target
      && at_target graph (base_part tac graph InStart base).target (λ node shift. implies moved node.flags.array))) ≡ true =
      subst
      (λ (root : T.Part).
      (has_target root.target && (same_target edge (first_part (alone tac graph) place.steps root).target && at_target graph root.target (λ node shift. implies moved node.flags.array))) ≡ true)
      (static_is place.root base is) told in
      let one = and_parts _ _ there in
      let two = and_parts _ _ one.1 in
      record {
        there = one.0;
        edge = same_eq edge (first_part (alone tac graph) place.steps (base_part tac graph InStart base)).target two.0 ∙ ap (λ (p : T.Part). p.target) (part_steps place.steps (base_part tac graph InStart base));
        array = subst (λ b. at_target graph (base_part tac graph InStart base).target (λ node shift. implies (b || not (place.index == 0)) node.flags.array) ≡ true) (sym (moved_alone place.steps)) two.1;
      }

  pub held_parts : (number : ℕ) (held : first.Held) → IsStored tac graph number held → HasWritten number graph × IsValueStored tac graph number held.leaf.steps held.value
  held_parts number held h =
      let one = and_parts _ _ h in
      let two = and_parts _ _ one.1 in (
        (one.0, two.0),
        subst (λ (p : T.Part). constant_closed (alone tac graph) (edge_at graph p.target) held.value ≡ true) (part_steps held.leaf.steps (base_part tac graph InStart (AtGlobal number))) two.1,
      )

  pub text_written : (number : ℕ) (steps : List Part) (int_type : IntType) (bytes : List ℕ) → (length bytes == 0) ≡ false → AreStored tac graph number (characters_held steps int_type 0 bytes) → HasWritten number graph
  text_written number steps int_type [] some h = absurd (true≢false some)
  text_written number steps int_type (byte ∷ bytes) some h =
      (held_parts number (record { leaf = record { steps = steps; index = 0 }; value = first.IntegerValue (convert_to int_type (pos byte)) }) (and_parts _ _ h).0).0

  pub one_told : (number : ℕ) (held : first.Held) → AreStored tac graph number (held ∷ []) → IsStored tac graph number held
  one_told number held h = (and_parts _ _ h).0

  pub stored_split : (number : ℕ) (helds others : List first.Held) → AreStored tac graph number (helds ++ others) → AreStored tac graph number helds × AreStored tac graph number others
  stored_split number [] others h = (refl, h)
  stored_split number (held ∷ helds) others h =
      let both = and_parts _ _ h in
      let rest = stored_split number helds others both.1 in
      (and_from _ _ both.0 rest.0, rest.1)

  -- of the first values of all variables those of one
  each_global : (globals : List GlobalDef) (n k m : ℕ) (global : GlobalDef) → m ≡ n + k → first_closed (alone tac graph) n globals ≡ true → slice_get globals k ≡ Some global
      → all_held_closed (alone tac graph) (global_part (alone tac graph) (Some (m, global))) global.first ≡ true
  each_global [] n k m global e h is = absurd (none-some global is)
  each_global (own ∷ others) n zero m global e h is =
      let same : n ≡ m = omega (arith, e) in
      let both = and_parts _ _ h in
      subst (λ q. all_held_closed (alone tac graph) (global_part (alone tac graph) (Some (q, global))) global.first ≡ true) same
      (subst (λ (x : GlobalDef). all_held_closed (alone tac graph) (global_part (alone tac graph) (Some (n, x))) x.first ≡ true) (same_Some own global is) both.0)
  each_global (own ∷ others) n (suc k) m global e h is = let later : m ≡ suc n + k = omega (arith, e) in each_global others (suc n) k m global later (and_parts _ _ h).1 is

  pub one_stored_of : (number : ℕ) (global : GlobalDef) → slice_get tac.globals number ≡ Some global → first_closed (alone tac graph) 0 tac.globals ≡ true → AreStored tac graph number global.first
  one_stored_of number global is told =
      let same : number ≡ 0 + number = omega arith in
      subst (λ (p : T.Part). all_held_closed (alone tac graph) p global.first ≡ true) (global_is number global is) (each_global tac.globals 0 number number global same told is)

  pub stored_more : (number : ℕ) (helds others : List first.Held) → AreStored tac graph number helds → AreStored tac graph number others → AreStored tac graph number (helds ++ others)
  stored_more number [] others h k = k
  stored_more number (held ∷ helds) others h k = let both = and_parts _ _ h in and_from _ _ both.0 (stored_more number helds others both.1 k)

  -- what is stored into one variable, and into those behind it
  pub global_told : (number : ℕ) (global : GlobalDef) (others : List GlobalDef) → slice_get tac.globals number ≡ Some global → AreStored tac graph number global.first
      → first_closed (alone tac graph) (suc number) others ≡ true → first_closed (alone tac graph) number (global ∷ others) ≡ true
  global_told number global others is stored rest =
      and_from _ _ (subst (λ (p : T.Part). all_held_closed (alone tac graph) p global.first ≡ true) (sym (global_is number global is)) stored) rest

  -- ---- the slots to which paths lead

  held_there : (base : Base) (name_is : Option Target) → has_target name_is ≡ true → (whole : Target) × (name_is ≡ Some whole)
  held_there base None h = absurd (false≢true h)
  held_there base (Some whole) h = (whole, refl)

  pub global_slot : AreMade tac.structs → IsSound tac.structs graph → (number : ℕ) (steps : List Part) → IsWithin tac (AtGlobal number) steps → HasGlobal tac graph number
      → LeadsToSlot tac.structs graph (path_part tac graph InStart (path_to (AtGlobal number) steps)).target
  global_slot made sound number steps stands has =
      let whole = held_there (AtGlobal number) (graph.targets (OfGlobal number)) has.has in
      let found = found_below tac.globals number stands.base in
      place_slot tac made InStart graph sound (path_to (AtGlobal number) steps) whole.0 whole.1
      (λ members.
      ap (λ t. at_target graph t (holds_part tac.structs (elements_of (base_part tac graph InStart (AtGlobal number)).c_type))) (sym whole.1)
      ∙ subst (λ t. at_target graph (graph.targets (OfGlobal number)) (holds_part tac.structs (elements_of t)) ≡ true) (sym (ap (λ o. type_of_inner (global_type o)) found.1)) (has.part found.0 found.1))
      (λ members. subst (LeadsToPart tac.structs (AtGlobal number) (map step_in steps)) (base_typed_by_code tac no_graph graph InStart (AtGlobal number)) (stands.leads members))

  pub literal_slot : AreMade tac.structs → IsSound tac.structs graph → (number : ℕ) (steps : List Part) → IsWithin tac (AtLiteral number) steps → HasLiteral tac graph number
      → LeadsToSlot tac.structs graph (path_part tac graph InStart (path_to (AtLiteral number) steps)).target
  literal_slot made sound number steps stands has =
      let whole = held_there (AtLiteral number) (graph.targets (OfLiteral number)) has.has in
      let found = found_below tac.literals number stands.base in
      place_slot tac made InStart graph sound (path_to (AtLiteral number) steps) whole.0 whole.1
      (λ members.
      ap (λ t. at_target graph t (holds_part tac.structs (elements_of (base_part tac graph InStart (AtLiteral number)).c_type))) (sym whole.1)
      ∙ subst (λ t. at_target graph (graph.targets (OfLiteral number)) (holds_part tac.structs (elements_of t)) ≡ true) (sym (ap (λ o. type_of_inner (literal_object o)) found.1)) (has.part found.0 found.1))
      (λ members. subst (LeadsToPart tac.structs (AtLiteral number) (map step_in steps)) (base_typed_by_code tac no_graph graph InStart (AtLiteral number)) (stands.leads members))

-- an edge that was set from where one path leads to where another leads
pub edge_set : (tac : Tac) → AreMade tac.structs → (old new : Graph) → IsSound tac.structs old → (from to : Target) → Least tac.structs old new (HasEdge from.node from.shift to) → (one two : Path)
    → has_target (old.targets (base_name InStart one.base)) ≡ true → has_target (old.targets (base_name InStart two.base)) ≡ true → (path_part tac old InStart one).target ≡ Some from
    → (path_part tac old InStart two).target ≡ Some to → edge_at new (path_part tac new InStart one).target ≡ (path_part tac new InStart two).target
edge_set tac made old new sound from to least one two first second at end =
    ap (edge_at new) (path_mapped tac made InStart old new least.map sound least.maps one from first at)
    ∙ (least.holds ∙ sym (path_mapped tac made InStart old new least.map sound least.maps two to second end))

-- it is asked where these places are so in another graph
pub edge_asked : (tac : Tac) → AreMade tac.structs → (old : Graph) → IsSound tac.structs old → (from to : Target) (one two : Path) → has_target (old.targets (base_name InStart one.base)) ≡ true
    → has_target (old.targets (base_name InStart two.base)) ≡ true → (path_part tac old InStart one).target ≡ Some from → (path_part tac old InStart two).target ≡ Some to → (other : Graph) (into : GraphMap)
    → Maps tac.structs old other into → edge_at other (path_part tac other InStart one).target ≡ (path_part tac other InStart two).target → HasEdge from.node from.shift to other into
edge_asked tac made old sound from to one two first second at end other into maps is =
    ap (edge_at other) (sym (path_mapped tac made InStart old other into sound maps one from first at)) ∙ (is ∙ path_mapped tac made InStart old other into sound maps two to second end)
