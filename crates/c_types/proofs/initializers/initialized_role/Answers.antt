use Rattle.std.proofs.Common.{◌≡◌, ◌+◌, length, Option, option_map, sym, ap, ◌∙◌, arith}
use Rattle.c_syntax.specs.declared.declaration.Init.{Init}
use Rattle.c_syntax.specs.Views.{init_tree}
use Rattle.c_syntax.proofs.SyntaxRows.{init_tree-list}
use Rattle.c_rules.specs.Initializers as rules
use Rattle.c_rules.specs.Programs as programs
use Rattle.c_types.proofs.LiteralFirsts.{count-length, role-literal, role-plain}
use Rattle.c_types.proofs.initializers.initialized_role.Goals.{in-Value, in-List}
use Rattle.c_types.proofs.initializers.initialized_role.Goals as goal

pub returns-in-Some-literal_alone : goal.returns-in-Some-literal_alone
returns-in-Some-literal_alone c =
    let plain : c.match-init-2.plain ≡ rules.plain_length (init_tree c.in-Some.init) =
    elim c.match-init-2.branch [
      | in-Value w ↦ w.plain-is ∙ sym (ap (λ (i : Init). rules.plain_length (init_tree i)) w.in-Value.is)
      | in-List w ↦ w.plain-is ∙ (let n : w.len-plain.result ≡ length w.in-List.inits.items = omega (arith, w.in-List.inits.ok.0) in n) ∙ sym (count-length w.in-List.inits.items) ∙ sym (ap rules.plain_length (ap init_tree w.in-List.is ∙ init_tree-list w.in-List.place w.in-List.inits))
    ] in
    role-literal (init_tree c.in-Some.init) c.in-Some-literal_alone.bytes.now c.match-init-2.plain (length c.as_slice.result.now + 1)
    (c.in-Some-literal_alone.ensures {u = tt}) plain (ap (λ l. length l + 1) c.as_slice.ensures)
    ∙ sym (ap (λ (o : Option Init). programs.role_of (option_map init_tree o)) c.in-Some.is)

pub returns-in-None : goal.returns-in-None
returns-in-None c =
    let plain : c.match-init-2.plain ≡ rules.plain_length (init_tree c.in-Some.init) =
    elim c.match-init-2.branch [
      | in-Value w ↦ w.plain-is ∙ sym (ap (λ (i : Init). rules.plain_length (init_tree i)) w.in-Value.is)
      | in-List w ↦ w.plain-is ∙ (let n : w.len-plain.result ≡ length w.in-List.inits.items = omega (arith, w.in-List.inits.ok.0) in n) ∙ sym (count-length w.in-List.inits.items) ∙ sym (ap rules.plain_length (ap init_tree w.in-List.is ∙ init_tree-list w.in-List.place w.in-List.inits))
    ] in
    role-plain (init_tree c.in-Some.init) c.match-init-2.plain (c.in-None.ensures {u = tt}) plain
    ∙ sym (ap (λ (o : Option Init). programs.role_of (option_map init_tree o)) c.in-Some.is)
