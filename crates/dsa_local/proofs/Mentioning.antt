-- Objects that are mentioned, and flags that are set.
use Rattle.std.proofs.Common.{◌≡◌, ◌<◌, ℕ, true, false, List, option_map, Some, refl, sym, ap, subst, ◌∙◌}
use Rattle.std.specs.Prelude.{slice_get, Result, Ok, Err, OnOk}
use Rattle.std.proofs.lemmas.Bool.{false≢true}
use Rattle.std.proofs.lemmas.Option.{slice_get-map}
use Rattle.c_typed.specs.Layouts.{StructDef}
use Rattle.c_typed.specs.Types.{CType, literal_type}
use Rattle.c_typed.specs.declared.definition.GlobalDef as memory_global
use Rattle.c_typed.specs.declared.definition.LiteralDef as memory_literal
use Rattle.c_typed.specs.Table.{type_in}
use Rattle.c_typed.specs.DefinitionViews.{global_in, literal_of, LiteralsStand}
use Rattle.tac_ir.specs.declared.program.Tac as memory_tac
use Rattle.tac_ir.specs.Code.{Tac}
use Rattle.tac_ir.specs.Objects.{global_type, literal_object}
use Rattle.tac_ir.specs.States.{InStart}
use Rattle.tac_ir.specs.Views.{tac_of}
use Rattle.heap_graph.specs.Graphs.{Target, Node, Name, OfGlobal, OfLiteral, Graph}
use Rattle.heap_graph.specs.Parts.{slots_of}
use Rattle.heap_graph.specs.Points.{type_of_inner, base_part}
use Rattle.heap_graph.specs.Structures.{AreMade}
use Rattle.heap_graph.specs.Targets.{has_target, at_target, holds_part, elements_of, element_kept}
use Rattle.heap_graph.specs.Merging.{IsSound, GraphMap, mapped, Maps, Asked}
use Rattle.heap_graph.proofs.MapsCompose.{at_some, at_there, at_from, target_in, mapped_there}
use Rattle.graph_unification.specs.declared.marks.Mark.{Mark}
use Rattle.graph_unification.specs.Asked.{HoldsPart, has_mark, HasMark}
use Rattle.graph_unification.specs.Leading.{Least}
use Rattle.graph_unification.specs.Adding.{AddsMissing, Added, Had, NameFits}
use Rattle.graph_unification.specs.GraphNames.First.{object_node, static_flags}
use Rattle.graph_unification.proofs.Leading.{missing_leads}
use Rattle.graph_unification.proofs.Missing.{missing_has}
use Rattle.graph_unification.proofs.FoundStatics.{literal_known}
use Rattle.graph_unification.proofs.Staying.{base_name, base_named}
use Rattle.graph_unification.specs.Named.{BaseNamed}
use Rattle.graph_unification.specs.Standing.{BaseStands, CodeStands}
use Rattle.graph_unification.proofs.Fitting.{found_below}
use Rattle.graph_unification.proofs.Goes.{goes_same, goes_then, missing_goes, least_goes}
use Rattle.dsa_local.proofs.GroupBegins.Kept.{global_told, literal_told, told_kept}
use Rattle.dsa_local.specs.declared.roots.Root.{Root}
use Rattle.dsa_local.specs.declared.roots.Root.TheVariants as R
use Rattle.dsa_local.specs.Keeping.{is_static, FirstFits, IsAsked, Keeps}
use Rattle.dsa_local.specs.Roots.{base_at}

-- ---- one after another

pub keeps_same : (tac : Tac) → AreMade tac.structs → (graph : Graph) → IsSound tac.structs graph → Keeps tac graph graph
keeps_same tac made graph sound = record { goes = goes_same tac.structs made graph sound; names = λ owners told. told; leads = λ other into maps fits. (into, maps); statics = λ name own. refl }

pub keeps_then : (tac : Tac) → AreMade tac.structs → (one two three : Graph) → IsSound tac.structs one → Keeps tac one two → Keeps tac two three → Keeps tac one three
keeps_then tac made one two three sound first then = record {
  goes = goes_then tac.structs made one two three sound first.goes then.goes;
  names = λ owners told. then.names owners (first.names owners told);
  leads = λ other into maps fits. let one = first.leads other into maps fits in then.leads other one.0 one.1 fits;
  statics = λ name own. then.statics name own ∙ first.statics name own;
}

-- ---- objects

-- only it may get a target
missing_statics : (old new : Graph) (its : Name) (node : Node) → is_static its ≡ true → AddsMissing old new its node → (name : Name) → is_static name ≡ false → has_target (new.targets name) ≡ has_target (old.targets name)
missing_statics old new its node static (Added adds) name plain = ap has_target (adds.names name (λ same. false≢true (sym plain ∙ (ap is_static same ∙ static))))
missing_statics old new its node static (Had target is same) name plain = ap (λ (g : Graph). has_target (g.targets name)) same

module _ (tac : memory_tac.Tac) (made : AreMade (tac_of tac).structs) (old new : Graph) (sound : IsSound (tac_of tac).structs old) (number : ℕ) where
  pub on_ok_global : {E : Type 0} (result : Result (Unit {0}) E) (found : memory_global.GlobalDef) → slice_get tac.globals.items number ≡ Some found
      → IsAsked (tac_of tac) (λ other. has_target (other.targets (OfGlobal number)) ≡ true)
      → OnOk result (AddsMissing old new (OfGlobal number) (object_node (type_in tac.types found.c_type) (static_flags (type_in tac.types found.c_type)))) → OnOk result (Keeps (tac_of tac) old new)
  on_ok_global (Err e) found is asked adds = tt
  on_ok_global (Ok x) found is asked adds = record {
    goes = missing_goes (tac_of tac).structs made old new (OfGlobal number) (object_node (type_in tac.types found.c_type) (static_flags (type_in tac.types found.c_type))) sound adds;
    names = λ owners told.
        global_told (tac_of tac) made owners old new sound number (global_in tac.types found) (slice_get-map (global_in tac.types) tac.globals.items number ∙ ap (option_map (global_in tac.types)) is) adds told;
    leads = λ other into maps fits.
        let there = slice_get-map (global_in tac.types) tac.globals.items number ∙ ap (option_map (global_in tac.types)) is in
        let rest =
        missing_leads (tac_of tac).structs old new other (OfGlobal number) (object_node (type_in tac.types found.c_type) (static_flags (type_in tac.types found.c_type))) into adds maps
        (λ none. fits.globals number (global_in tac.types found) there (asked fits.own fits.named)) in
        (rest.0, rest.1);
    statics = missing_statics old new (OfGlobal number) (object_node (type_in tac.types found.c_type) (static_flags (type_in tac.types found.c_type))) refl adds;
  }

  pub on_ok_literal : {E : Type 0} (result : Result (Unit {0}) E) (found : memory_literal.LiteralDef) → slice_get tac.literals.items number ≡ Some found → LiteralsStand tac.types tac.literals.items
      → IsAsked (tac_of tac) (λ other. has_target (other.targets (OfLiteral number)) ≡ true)
      → OnOk result (AddsMissing old new (OfLiteral number) (object_node (type_in tac.types found.c_type) (static_flags (type_in tac.types found.c_type)))) → OnOk result (Keeps (tac_of tac) old new)
  on_ok_literal (Err e) found is stand asked adds = tt
  on_ok_literal (Ok x) found is stand asked adds =
      let there : slice_get (tac_of tac).literals number ≡ Some (literal_of found) = slice_get-map literal_of tac.literals.items number ∙ ap (option_map literal_of) is in
      let type : type_in tac.types found.c_type ≡ literal_type (literal_of found).bytes = literal_known tac.types tac.literals.items number found stand is ∙ ap (λ o. type_of_inner (literal_object o)) there in
      record {
        goes = missing_goes (tac_of tac).structs made old new (OfLiteral number) (object_node (type_in tac.types found.c_type) (static_flags (type_in tac.types found.c_type))) sound adds;
        names = λ owners told.
            literal_told (tac_of tac) made owners old new sound number (literal_of found) there
            (subst (λ t. AddsMissing old new (OfLiteral number) (object_node t (static_flags t))) type adds) told;
        leads = λ other into maps fits.
            let fit = subst (λ t. NameFits (tac_of tac).structs other (OfLiteral number) (object_node t (static_flags t))) (sym type) (fits.literals number (literal_of found) there (asked fits.own fits.named)) in
            let rest =
            missing_leads (tac_of tac).structs old new other (OfLiteral number) (object_node (type_in tac.types found.c_type) (static_flags (type_in tac.types found.c_type))) into adds maps (λ none. fit) in
            (rest.0, rest.1);
        statics = missing_statics old new (OfLiteral number) (object_node (type_in tac.types found.c_type) (static_flags (type_in tac.types found.c_type))) refl adds;
      }

pub on_ok_has : {E : Type 0} (result : Result (Unit {0}) E) (old new : Graph) (name : Name) (node : Node) → OnOk result (AddsMissing old new name node) → OnOk result (has_target (new.targets name) ≡ true)
on_ok_has (Err e) old new name node adds = tt
on_ok_has (Ok x) old new name node adds = missing_has old new name node adds

-- ---- steps

pub least_keeps : (tac : Tac) → AreMade tac.structs → (old new : Graph) → IsSound tac.structs old → (asked : Asked) → Least tac.structs old new asked → ((name : Name) → has_target (new.targets name) ≡ has_target (old.targets name))
    → ((other : Graph) (into : GraphMap) → Maps tac.structs old other into → FirstFits tac other → asked other into) → Keeps tac old new
least_keeps tac made old new sound asked least same asks =
    let goes = least_goes tac.structs made old new asked least in
    record {
      goes = goes;
      names = λ owners told. told_kept tac made old new sound goes owners (λ name own. same name) told;
      leads = λ other into maps fits. let rest = least.least other into maps (asks other into maps fits) in (rest.0, rest.1);
      statics = λ name own. same name;
    }

-- ---- types

-- what the code knows of an object
pub root_some : (tac : Tac) → CodeStands tac → (graph : Graph) (root : Root) → BaseStands tac InStart tac.start (base_at root) → 0 < slots_of tac.structs (elements_of (base_part tac graph InStart (base_at root)).c_type)
root_some tac code graph (R.Global global) less =
    let found = found_below tac.globals global.0 less in
    subst (λ t. 0 < slots_of tac.structs (elements_of t)) (sym (ap (λ o. type_of_inner (global_type o)) found.1)) (code.globals global.0 found.0 found.1)
root_some tac code graph (R.Literal literal) less =
    let found = found_below tac.literals literal.0 less in
    subst (λ t. 0 < slots_of tac.structs (elements_of t)) (sym (ap (λ o. type_of_inner (literal_object o)) found.1)) (code.literals literal.0 found.0 found.1)

root_named : (tac : Tac) (graph : Graph) (root : Root) → has_target (base_part tac graph InStart (base_at root)).target ≡ true
    → at_target graph (base_part tac graph InStart (base_at root)).target (holds_part tac.structs (elements_of (base_part tac graph InStart (base_at root)).c_type)) ≡ true → BaseNamed tac graph (base_at root)
root_named tac graph (R.Global global) has part = record {
  has = has;
  part = λ its is. subst (λ t. at_target graph (graph.targets (OfGlobal global.0)) (holds_part tac.structs (elements_of t)) ≡ true) (ap (λ o. type_of_inner (global_type o)) is) part;
}
root_named tac graph (R.Literal literal) has part = record {
  has = has;
  part = λ its is. subst (λ t. at_target graph (graph.targets (OfLiteral literal.0)) (holds_part tac.structs (elements_of t)) ≡ true) (ap (λ o. type_of_inner (literal_object o)) is) part;
}

-- an object whose type is told has a node of it
pub type_told : (tac : Tac) (old new : Graph) (root : Root) (target : Target) (c_type : CType) → Least tac.structs old new (HoldsPart tac.structs c_type target)
    → ((name : Name) → has_target (new.targets name) ≡ has_target (old.targets name)) → (base_part tac old InStart (base_at root)).target ≡ Some target → c_type ≡ elements_of (base_part tac new InStart (base_at root)).c_type → BaseNamed tac new (base_at root)
type_told tac old new root target c_type least same at type =
    let name = base_name InStart (base_at root) in
    let was : old.targets name ≡ Some target = sym (base_named tac old InStart (base_at root)) ∙ at in
    let here : (base_part tac new InStart (base_at root)).target ≡ mapped new least.map target = base_named tac new InStart (base_at root) ∙ least.maps.names name target was in
    let holds : at_target new (base_part tac new InStart (base_at root)).target (holds_part tac.structs c_type) ≡ true = ap (λ t. at_target new t (holds_part tac.structs c_type)) here ∙ least.holds in
    root_named tac new root (ap has_target (base_named tac new InStart (base_at root)) ∙ (same name ∙ ap has_target was))
    (subst (λ t. at_target new (base_part tac new InStart (base_at root)).target (holds_part tac.structs t) ≡ true) type holds)

-- its node in a graph in which first values are told holds its type
root_held : (tac : Tac) (other : Graph) (fits : FirstFits tac other) (root : Root) → BaseStands tac InStart tac.start (base_at root) → has_target (base_part tac fits.own InStart (base_at root)).target ≡ true
    → at_target other (base_part tac other InStart (base_at root)).target (holds_part tac.structs (elements_of (base_part tac other InStart (base_at root)).c_type)) ≡ true
root_held tac other fits (R.Global global) less has =
    let found = found_below tac.globals global.0 less in
    let fit = fits.globals global.0 found.0 found.1 has in
    subst (λ t. at_target other (other.targets (OfGlobal global.0)) (holds_part tac.structs (elements_of t)) ≡ true) (sym (ap (λ o. type_of_inner (global_type o)) found.1))
    (ap (λ t. at_target other t (holds_part tac.structs (elements_of found.0.c_type))) fit.is ∙ fit.element)
root_held tac other fits (R.Literal literal) less has =
    let found = found_below tac.literals literal.0 less in
    let fit = fits.literals literal.0 found.0 found.1 has in
    subst (λ t. at_target other (other.targets (OfLiteral literal.0)) (holds_part tac.structs (elements_of t)) ≡ true) (sym (ap (λ o. type_of_inner (literal_object o)) found.1))
    (ap (λ t. at_target other t (holds_part tac.structs (elements_of (literal_type found.0.bytes)))) fit.is ∙ fit.element)

pub type_asked : (tac : Tac) (old : Graph) (root : Root) → BaseStands tac InStart tac.start (base_at root) → (target : Target) (c_type : CType) → (base_part tac old InStart (base_at root)).target ≡ Some target
    → ((graph : Graph) → c_type ≡ elements_of (base_part tac graph InStart (base_at root)).c_type) → IsAsked tac (λ other. has_target (base_part tac other InStart (base_at root)).target ≡ true)
    → (other : Graph) (into : GraphMap) → Maps tac.structs old other into → FirstFits tac other → HoldsPart tac.structs c_type target other into
type_asked tac old root stands target c_type at type asked other into maps fits =
    let name = base_name InStart (base_at root) in
    let here : (base_part tac other InStart (base_at root)).target ≡ mapped other into target
    = base_named tac other InStart (base_at root) ∙ maps.names name target (sym (base_named tac old InStart (base_at root)) ∙ at) in
    subst (λ t. at_target other t (holds_part tac.structs c_type) ≡ true) here
    (subst (λ t. at_target other (base_part tac other InStart (base_at root)).target (holds_part tac.structs t) ≡ true) (sym (type other)) (root_held tac other fits root stands (asked fits.own fits.named)))

-- ---- flags

-- a flag at the image of a target
mark_mapped : (structs : List StructDef) (old : Graph) → IsSound structs old → (name : Name) (target : Target) (flag : Mark) → old.targets name ≡ Some target → (other : Graph) (into : GraphMap)
    → Maps structs old other into → at_target other (other.targets name) (λ node shift. has_mark flag node.flags) ≡ true → HasMark target.node flag other into
mark_mapped structs old sound name target flag at other into maps is =
    let slot = sound.names name target at in
    let image = at_there other (into target.node) (element_kept structs slot.node.element) (maps.elements target.node slot.node slot.is) in
    let now : other.targets name ≡ Some (target_in into target image.node) = maps.names name target at ∙ mapped_there other into target image.node image.is in
    at_from other (into target.node) (λ node shift. has_mark flag node.flags) image.node image.is
    (sym (at_some other (target_in into target image.node) (λ node shift. has_mark flag node.flags) image.node image.is) ∙ (ap (λ t. at_target other t (λ node shift. has_mark flag node.flags)) (sym now) ∙ is))

module _ (tac : Tac) (made : AreMade tac.structs) (old new : Graph) (sound : IsSound tac.structs old) (target : Target) (flag : Mark) (least : Least tac.structs old new (HasMark target.node flag))
    (same : (name : Name) → has_target (new.targets name) ≡ has_target (old.targets name)) where
  pub mark_keeps : (name : Name) → old.targets name ≡ Some target → IsAsked tac (λ other. at_target other (other.targets name) (λ node shift. has_mark flag node.flags) ≡ true) → Keeps tac old new
  mark_keeps name is asked =
      least_keeps tac made old new sound (HasMark target.node flag) least same (λ other into maps fits. mark_mapped tac.structs old sound name target flag is other into maps (asked other fits.told))

  pub mark_set : (name : Name) → old.targets name ≡ Some target → at_target new (new.targets name) (λ node shift. has_mark flag node.flags) ≡ true
  mark_set name is =
      let image = at_there new (least.map target.node) (λ node shift. has_mark flag node.flags) least.holds in
      ap (λ t. at_target new t (λ node shift. has_mark flag node.flags)) (least.maps.names name target is ∙ mapped_there new least.map target image.node image.is)
      ∙ at_from new (target_in least.map target image.node) (λ node shift. has_mark flag node.flags) image.node image.is image.so
