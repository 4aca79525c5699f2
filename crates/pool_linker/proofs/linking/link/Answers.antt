use Rattle.std.proofs.Common.{◌≡◌, ℕ, List, [], ◌∷◌, ◌++◌, map, length, sym, ap, ◌∙◌, subst}
use Rattle.std.specs.Prelude.{◌≢◌, AllPairs}
use Rattle.std.specs.List.{AllByRecursion}
use Rattle.std.proofs.lemmas.Iterator.Adapters.{YieldsList-from_vec}
use Rattle.std.proofs.lemmas.Iterator.Consumers.{YieldsList-end}
use Rattle.std.proofs.lemmas.List.{length-map, map-append, map-id}
use Rattle.slab_space.specs.declared.kind.PoolKind.{PoolKind}
use Rattle.stack_code.specs.declared.units.Unit.{Unit as Emitted}
use Rattle.stack_code.specs.Units.{unit_function, unit_functions, units_code}
use Rattle.image_form.specs.declared.image.Function.{Function}
use Rattle.image_form.specs.Form.{IsImage, function_of}
use Rattle.pool_linker.specs.Linking.{NamesBelow, once, number_in, numbers_of, linked_function, KeepsKinds}
use Rattle.pool_linker.proofs.Once.{once-keeps, once-apart}
use Rattle.pool_linker.proofs.Ranges.{units-below, linked-image}
use Rattle.pool_linker.proofs.linking.link.Goals as goal

-- the units name none but these kinds
abbrev Below : ℕ → List Emitted → Type 0
Below kinds units = AllByRecursion (λ unit. AllByRecursion (NamesBelow kinds) unit.code.items) units

-- each kind has a number
long : (numbers : List ℕ) (kinds kinds2 : List PoolKind) → numbers ≡ numbers_of kinds → kinds ≡ kinds2 → length kinds2 ≡ length numbers
long numbers kinds kinds2 e same = ap length (sym same) ∙ sym (length-map kinds (number_in (once kinds))) ∙ ap length (sym e)

-- one more unit, linked
linked_more : (numbers : List ℕ) (functions : List Function) (units : List Emitted) (made : Function) (unit : Emitted) → map function_of functions ≡ map (linked_function numbers) (map unit_function units)
    → function_of made ≡ linked_function numbers (unit_function unit) → map function_of (functions ++ made ∷ []) ≡ map (linked_function numbers) (map unit_function (units ++ unit ∷ []))
linked_more numbers functions units made unit so_far is =
    map-append function_of functions (made ∷ [])
    ∙ (λ i. so_far i ++ is i ∷ [])
    ∙ sym (ap (map (linked_function numbers)) (map-append unit_function units (unit ∷ [])) ∙ map-append (linked_function numbers) (map unit_function units) (unit_function unit ∷ []))

pub loop-unit-init : goal.loop-unit-init
loop-unit-init c =
    let below = units-below (length c.args.units.kinds.items) (length (unit_functions c.args.units)) c.args.units.functions.items c.requires.functions in
    let numbered = long c.in_ok-numbering.numbering.numbers.items c.deref.result.now c.args.units.kinds.items c.in_ok-numbering.ensures.numbers c.deref.ensures.value in (
      ap (map function_of) c.in_ok-functions.ensures.items,
      subst (Below (length c.in_ok-numbering.numbering.numbers.items)) (sym c.into_iter-unit-iterator.ensures.into_iter_gives.0) (subst (λ n. Below n c.args.units.functions.items) numbered below),
    )

pub linked_function-requires : goal.linked_function-requires
linked_function-requires c =
    let rest = subst (Below (length c.in_ok-numbering.numbering.numbers.items)) c.in-Some.ensures.steps.0 c.loop-unit.invariant.1 in
    subst (λ l. AllByRecursion (NamesBelow (length l)) c.in-Some.unit.code.items) (sym c.deref-in-loop-unit.ensures.value) rest.0

pub loop-unit-preserved : goal.loop-unit-preserved
loop-unit-preserved c =
    let numbers = c.in_ok-numbering.numbering.numbers.items in
    let rest = subst (Below (length numbers)) c.in-Some.ensures.steps.0 c.loop-unit.invariant.1 in
    let made = c.linked_function.ensures ∙ ap (λ l. linked_function l (unit_function c.in-Some.unit)) c.deref-in-loop-unit.ensures.value in (
      ap (map function_of) c.in_ok-push.ensures.items ∙ linked_more numbers c.loop-unit.functions.items c.loop-unit.yielded c.linked_function.result c.in-Some.unit c.loop-unit.invariant.0 made,
      rest.1,
    )

pub returns-clause-holds : goal.returns-clause-holds
returns-clause-holds c =
    let gives = c.into_iter-unit-iterator.ensures.into_iter_gives in
    let all = YieldsList-end (YieldsList-from_vec c.args.units.functions.items gives.0 (gives.1 ∙ c.args.units.functions.ok.0)) c.loop-unit.yielded c.loop-unit.unit-iterator c.loop-unit.yielded_by c.next.result c.next.new.self c.in-None.is c.next.ensures.steps in
    let kinds = ap once c.deref.ensures.value in
    let numbers = c.in_ok-numbering.ensures.numbers ∙ ap numbers_of c.deref.ensures.value in
    let functions = c.loop-unit.invariant.0
    ∙ ap (λ units. map (linked_function c.in_ok-numbering.numbering.numbers.items) (map unit_function units)) (sym (map-id c.loop-unit.yielded) ∙ all.0)
    ∙ ap (λ ns. map (linked_function ns) (unit_functions c.args.units)) numbers in
    λ i. record { version = 1; limits = c.args.limits; globals = c.args.units.globals; contents = c.without_zeros.ensures i; kinds = (c.in_ok-numbering.ensures.kinds ∙ kinds) i; functions = functions i }

pub returns-clause-ranges : goal.returns-clause-ranges
returns-clause-ranges c =
    let needs = c.requires in
    subst IsImage (sym (returns-clause-holds c)) (linked-image (units_code c.args.units) c.args.limits needs.functions needs.count needs.start needs.kinds needs.globals needs.contents needs.bytes needs.slabs needs.index)

pub returns-clause-same_kinds : goal.returns-clause-same_kinds
returns-clause-same_kinds c =
    subst (KeepsKinds c.args.units.kinds.items) (sym (c.in_ok-numbering.ensures.kinds ∙ ap once c.deref.ensures.value)) (once-keeps c.args.units.kinds.items)

pub returns-clause-once : goal.returns-clause-once
returns-clause-once c =
    subst (AllPairs (λ first later. first ≢ later)) (sym (c.in_ok-numbering.ensures.kinds ∙ ap once c.deref.ensures.value)) (once-apart c.args.units.kinds.items)
