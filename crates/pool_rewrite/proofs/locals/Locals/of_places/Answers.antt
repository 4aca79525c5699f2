use Rattle.std.proofs.Common.{◌≡◌, ◌-◌, ◌==◌, List, [], ◌∷◌, drop, length, get_or, sym, ap, subst, arith}
use Rattle.std.proofs.lemmas.List.{drop_all}
use Rattle.std.specs.Map.{lookup}
use Rattle.tac_ir.specs.declared.register.Local.TheVariants as L
use Rattle.pool_rewrite.specs.declared.frames.Place.{Place}
use Rattle.pool_rewrite.specs.declared.locals.Locals.{Locals}
use Rattle.pool_rewrite.specs.Places.{TellsPlaces}
use Rattle.pool_rewrite.proofs.InsertedEntries.{from_before}
use Rattle.pool_rewrite.proofs.locals.Locals.of_places.Goals as goal

abbrev none : Place
none = record { object = record { local = L.Parameter 0; offset = 0; size = 0 }; c_type = record { 0 = 0 } }

-- maps without entries
tells_none : (locals : Locals) → locals.parameters.entries ≡ [] → locals.variables.entries ≡ [] → TellsPlaces [] locals
tells_none locals parameters variables (L.Parameter q) = ap (lookup (λ key. q == key)) parameters
tells_none locals parameters variables (L.Variable q) = ap (lookup (λ key. q == key)) variables

pub loop-number-init : goal.loop-number-init
loop-number-init c =
    let places = c.args.places.now in
    let empty : Locals = record { parameters = c.new.result; variables = c.new-2.result } in
    record {
      within = omega arith;
      tells = subst (λ (others : List Place). TellsPlaces others empty) (sym (drop_all (length places) places (omega arith))) (tells_none empty c.new.ensures.empty c.new-2.ensures.empty);
    }

pub loop-number-preserved : goal.loop-number-preserved
loop-number-preserved c =
    let places = c.args.places.now in
    let n = c.loop-number.number - 1 in
    let down : get_or places n none ∷ drop c.loop-number.number places ≡ drop n places =
    from_before places n c.loop-number.number none (omega (arith, c.loop-number.invariant.within, c.loop-number-test.true)) (omega (arith, c.loop-number-test.true)) in
    record {
      within = omega (arith, c.loop-number.invariant.within);
      tells = subst (λ (others : List Place). TellsPlaces others c.put.new.self) down (c.in_ok-put.ensures (drop c.loop-number.number places) c.loop-number.invariant.tells);
    }

pub returns : goal.returns
returns c =
    let first_left : c.loop-number.number ≡ 0 = omega (arith, c.loop-number-test.false) in
    subst (λ n. TellsPlaces (drop n c.args.places.now) c.loop-number.locals) first_left c.loop-number.invariant.tells
