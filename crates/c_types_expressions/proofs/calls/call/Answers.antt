use Rattle.std.proofs.Common.{◌≡◌, not, Option, Some, None, rules, arith, sym, ap, subst, ◌∙◌}
use Rattle.c_typed.specs.Table.{types_in}
use Rattle.c_typed.specs.declared.typed.LibraryFunction.TheVariants as L
use Rattle.c_rules.specs.Known.{with_known}
use Rattle.c_rules.specs.Operators.{as_many, is_free}
use Rattle.c_types_state.specs.declared.known.Known as memory_known
use Rattle.c_types_state.specs.Finding.{Finds, AllStand, ExprStands, each_in, expr_in, typed_in}
use Rattle.c_types_state.specs.Operands.{IsOperand}
use Rattle.c_types_expressions.specs.Arguments.{arguments_in}
use Rattle.c_types_expressions.specs.Calls.{call_rule_on}
use Rattle.c_types_expressions.proofs.Calling.{freed-library, freed-other_library, freed-other, call-unsigned, call-stands, call-made}
use Rattle.c_types_expressions.proofs.calls.call.Goals as goal
use Rattle.c_types_expressions.proofs.calls.call.Goals.{in-Library-Free-default, in_default-typed, in_default-typed-2}

pub returns-in_default-called_signature : goal.returns-in_default-called_signature
returns-in_default-called_signature c =
    let old = c.args.checker.now in
    let u = c.called_signature.new.checker in
    let items = c.args.arguments.items in
    subst (λ (f : Option memory_known.Known). Finds IsOperand (with_known (each_in expr_in old.table f) (call_rule_on c.args.whole (arguments_in old.table items))) old u None) (sym c.in-Some.is)
    (call-unsigned old c.require.new.self c.args.whole c.in-Some.function items (not c.is_struct-is_value.result) (ap not c.is_struct-is_value.ensures) c.require.ensures.noted
    u c.called_signature.result c.in_default-called_signature.is c.called_signature.ensures)

pub is_array-is_array-requires : goal.is_array-is_array-requires
is_array-is_array-requires c =
    let old = c.args.checker.now in
    let u = c.called_signature.new.checker in
    let items = c.args.arguments.items in
    let signature = c.in-Some-called_signature.signature in
    let stand = subst (AllStand ExprStands old.table) c.in-Some.is c.requires.function in
    let free : c.match-function-6.is_free ≡ is_free (typed_in c.args.checker.now.table c.in-Some.function.typed) =
    elim c.match-function-6.branch [
      | in-Library-Free-default w ↦
          let fact : w.in-Library-Free-default.function ≡ L.Free = rw w.in-Library-Free-default.is at w.in-Library-Free-default.function-is in
          freed-library c.args.checker.now.table c.in-Some.function.typed w.in-Library-Free-default.function w.in-Library-Free-default.groups c.match-function-6.is_free w.in-Library-Free-default.is fact w.is_free-is
      | in_default-typed w ↦ freed-other_library c.args.checker.now.table c.in-Some.function.typed w.in_default-typed.field-0 w.in_default-typed.field-1 c.match-function-6.is_free w.in_default-typed.is (λ e. first_of (search rules, grind arith, cc)) w.is_free-is
      | in_default-typed-2 w ↦ freed-other c.args.checker.now.table c.in-Some.function.typed c.match-function-6.is_free (λ f g e. first_of (search rules, grind arith, cc)) w.is_free-is
    ] in
    call-stands old c.require.new.self c.args.whole c.in-Some.function items (not c.is_struct-is_value.result) (ap not c.is_struct-is_value.ensures) c.require.ensures.noted
    u c.called_signature.result signature c.in-Some-called_signature.is c.called_signature.ensures
    c.require-2.new.self c.are_as_many-agrees.result c.require-2.result
    (c.are_as_many-agrees.ensures ∙ ap (λ list. as_many (types_in u.table signature.parameters) (arguments_in u.table list)) c.deref.ensures.value) c.require-2.ensures.result c.require-2.ensures.noted
    c.if-not-require.false
    c.passed.new.checker c.match-function-6.is_free c.in_ok-passed.passed free c.in_ok-passed.ensures stand.0

pub returns : goal.returns
returns c =
    let old = c.args.checker.now in
    let u = c.called_signature.new.checker in
    let items = c.args.arguments.items in
    let signature = c.in-Some-called_signature.signature in
    let stand = subst (AllStand ExprStands old.table) c.in-Some.is c.requires.function in
    let free : c.match-function-6.is_free ≡ is_free (typed_in c.args.checker.now.table c.in-Some.function.typed) =
    elim c.match-function-6.branch [
      | in-Library-Free-default w ↦
          let fact : w.in-Library-Free-default.function ≡ L.Free = rw w.in-Library-Free-default.is at w.in-Library-Free-default.function-is in
          freed-library c.args.checker.now.table c.in-Some.function.typed w.in-Library-Free-default.function w.in-Library-Free-default.groups c.match-function-6.is_free w.in-Library-Free-default.is fact w.is_free-is
      | in_default-typed w ↦ freed-other_library c.args.checker.now.table c.in-Some.function.typed w.in_default-typed.field-0 w.in_default-typed.field-1 c.match-function-6.is_free w.in_default-typed.is (λ e. first_of (search rules, grind arith, cc)) w.is_free-is
      | in_default-typed-2 w ↦ freed-other c.args.checker.now.table c.in-Some.function.typed c.match-function-6.is_free (λ f g e. first_of (search rules, grind arith, cc)) w.is_free-is
    ] in
    subst (λ (f : Option memory_known.Known). Finds IsOperand (with_known (each_in expr_in old.table f) (call_rule_on c.args.whole (arguments_in old.table items))) old c.passed.new.checker (Some c.of_type.result)) (sym c.in-Some.is)
    (call-made old c.require.new.self c.args.whole c.in-Some.function items (not c.is_struct-is_value.result) (ap not c.is_struct-is_value.ensures) c.require.ensures.noted
    u c.called_signature.result signature c.in-Some-called_signature.is c.called_signature.ensures
    c.require-2.new.self c.are_as_many-agrees.result c.require-2.result
    (c.are_as_many-agrees.ensures ∙ ap (λ list. as_many (types_in u.table signature.parameters) (arguments_in u.table list)) c.deref.ensures.value) c.require-2.ensures.result c.require-2.ensures.noted
    c.if-not-require.false
    c.passed.new.checker c.match-function-6.is_free c.in_ok-passed.passed free c.in_ok-passed.ensures
    c.in-Some-passed.values c.is_array-is_array.result c.in_ok-value.value c.of_type.result c.in-Some-passed.is stand c.is_array-is_array.ensures c.in_ok-value.ensures.stands c.in_ok-value.ensures.call c.of_type.ensures)
