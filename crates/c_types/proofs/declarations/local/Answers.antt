use Rattle.std.proofs.Common.{[], Option, Some, None, Box, Global, option_map, refl, sym, subst}
use Rattle.run_theory.specs.declared.place.Pos.{Pos}
use Rattle.c_syntax.specs.declared.declaration.Init as memory_init
use Rattle.c_syntax.specs.Trees.{NameTree}
use Rattle.c_syntax.specs.Views.{name_tree, declarator_tree, init_tree}
use Rattle.c_typed.specs.declared.typed.Value as memory_value
use Rattle.c_typed.specs.Table.{type_in}
use Rattle.c_rules.specs.Expressions.{name_place}
use Rattle.c_rules.specs.Statements.{optional_first}
use Rattle.c_rules.specs.Elaborated.{first_local}
use Rattle.c_types_state.specs.Finding.{each_in}
use Rattle.c_types_state.specs.NameTables.{scope_of}
use Rattle.c_types_expressions.specs.declared.pass.Pass.{Pass}
use Rattle.c_rules.specs.NamedItems.{named_in_first}
use Rattle.c_types.specs.Made.{Makes, IsOptionalValue}
use Rattle.c_types.proofs.Covering.{covers-none}
use Rattle.c_types.proofs.DeclaredLocals.{MakesLocal, own-stands, makes-local}
use Rattle.c_types.proofs.declarations.local.Goals as goal
use Rattle.c_types.proofs.declarations.local.Goals.{in-Some+in_ok-first-in-Some, in-None}

-- the value in a box
abbrev bare : Option (Box memory_value.Value Global) → Option memory_value.Value
bare value = option_map (λ value. value.value) value

pub local_first-requires : goal.local_first-requires
local_first-requires c =
    own-stands (each_in type_in c.args.pass.now.checker.table c.args.base) (declarator_tree c.args.tree.now.declarator) (option_map init_tree c.args.tree.now.init)
    (option_map (λ name. name_tree name.now) c.declared_name-name.result) c.name_place-here.result c.in_ok-declared.ensures c.as_object-own.ensures c.in_ok-name_type.ensures.checker c.in_ok-name_type.ensures.names c.in_ok-declare.ensures

pub returns : goal.returns
returns c =
    let base = each_in type_in c.args.pass.now.checker.table c.args.base in
    let declarator = declarator_tree c.args.tree.now.declarator in
    let init = option_map init_tree c.args.tree.now.init in
    let name = option_map (λ name. name_tree name.now) c.declared_name-name.result in
    let s4 = c.declare.new.pass in
    let known = each_in type_in s4.checker.table c.as_object-own.result in
    let scope = scope_of s4.checker in
    let last : Makes IsOptionalValue (optional_first scope known init) (first_local scope known init) (named_in_first scope init) scope s4 c.match-tree.pass (bare c.match-tree.first) =
    elim c.match-tree.branch [
      | in-Some+in_ok-first-in-Some w ↦
          subst (λ (o : Option memory_init.Init). Makes IsOptionalValue (optional_first scope known (option_map init_tree o)) (first_local scope known (option_map init_tree o)) (named_in_first scope (option_map init_tree o)) scope s4 c.match-tree.pass (bare c.match-tree.first)) (sym w.in-Some.is)
          (subst (λ (p : Pass). Makes IsOptionalValue (optional_first scope known (Some (init_tree w.in-Some.init))) (first_local scope known (Some (init_tree w.in-Some.init))) (named_in_first scope (Some (init_tree w.in-Some.init))) scope s4 p (bare c.match-tree.first)) (sym w.pass-is)
          (subst (λ (v : Option (Box memory_value.Value Global)). Makes IsOptionalValue (optional_first scope known (Some (init_tree w.in-Some.init))) (first_local scope known (Some (init_tree w.in-Some.init))) (named_in_first scope (Some (init_tree w.in-Some.init))) scope s4 w.local_first.new.pass (bare v)) (sym w.first-is)
          w.in_ok-first-in-Some.ensures))
      | in-None w ↦
          subst (λ (o : Option memory_init.Init). Makes IsOptionalValue (optional_first scope known (option_map init_tree o)) (first_local scope known (option_map init_tree o)) (named_in_first scope (option_map init_tree o)) scope s4 c.match-tree.pass (bare c.match-tree.first)) (sym w.in-None.is)
          (subst (λ (p : Pass). Makes IsOptionalValue [] None [] scope s4 p (bare c.match-tree.first)) (sym w.pass-is)
          (subst (λ (v : Option (Box memory_value.Value Global)). Makes IsOptionalValue [] None [] scope s4 s4 (bare v)) (sym w.first-is)
          (record { covers = covers-none s4; made = (tt, refl) })))
    ] in
    let made = makes-local base declarator init name c.name_place-here.result c.in_ok-declared.ensures c.as_object-own.ensures c.in_ok-name_type.ensures.checker c.in_ok-name_type.ensures.names c.in_ok-declare.ensures
    (record { c_type = c.unwrap_or.result; first = c.unboxed-first.result }) (record { 0 = 0 }) refl c.unwrap_or.ensures c.unboxed-first.ensures last in
    subst (λ (n : Option NameTree). MakesLocal base declarator init n (name_place n c.args.place) c.args.pass.now c.match-tree.pass (record { c_type = c.unwrap_or.result; first = c.unboxed-first.result })) c.declared_name-name.ensures
    (subst (λ (p : Pos). MakesLocal base declarator init name p c.args.pass.now c.match-tree.pass (record { c_type = c.unwrap_or.result; first = c.unboxed-first.result })) c.name_place-here.ensures made)
