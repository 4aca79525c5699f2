use Rattle.std.proofs.Common.{ℕ, ◌≤◌, ◌++◌, List, sym, ap, subst, ◌∙◌, arith}
use Rattle.std.proofs.lemmas.List.{length-map}
use Rattle.c_typed.specs.declared.definition.GlobalDef.{GlobalDef}
use Rattle.c_typed.specs.declared.definition.LiteralDef.{LiteralDef}
use Rattle.c_typed.specs.DefinitionViews.{global_in, LiteralsStand}
use Rattle.c_typed.specs.Layouts.{greatest}
use Rattle.pool_rewrite.specs.declared.statics.Statics.{Statics}
use Rattle.pool_rewrite.specs.Placing.{end_behind}
use Rattle.pool_rewrite.specs.Places.{PlacesMore, begins_of}
use Rattle.pool_rewrite.specs.Rewritable.{global_layouts, literal_layouts}
use Rattle.pool_rewrite.proofs.PlacedObjects.{end_more, end_above, literals_aligned, placed_more}
use Rattle.pool_rewrite.proofs.statics.Statics.of_program.Goals as goal

pub place_globals-requires : goal.place_globals-requires
place_globals-requires c =
    let tac = c.args.tac.now in
    let a = global_layouts tac.types tac.globals.items in
    let b = literal_layouts tac.types tac.literals.items in
    let all : end_behind (end_behind 0 a) b ≤ greatest = subst (λ n. n ≤ greatest) (end_more 0 a b) c.requires.small in
    let front = end_above (end_behind 0 a) b (literals_aligned tac.types tac.literals.items) in
    subst (λ (globals : List GlobalDef). end_behind 0 (global_layouts tac.types globals) ≤ greatest) (sym c.as_slice.ensures.value) (omega (arith, all, front))

pub place_literals-requires : goal.place_literals-requires
place_literals-requires c =
    let tac = c.args.tac.now in
    let a = global_layouts tac.types tac.globals.items in
    let b = literal_layouts tac.types tac.literals.items in
    let all : end_behind (end_behind 0 a) b ≤ greatest = subst (λ n. n ≤ greatest) (end_more 0 a b) c.requires.small in
    let placed : PlacesMore (record { begins = c.new.result; globals = c.len.result; size = 0 }) c.place_globals.new.self a =
    subst (λ (globals : List GlobalDef). PlacesMore (record { begins = c.new.result; globals = c.len.result; size = 0 }) c.place_globals.new.self (global_layouts tac.types globals)) c.as_slice.ensures.value c.in_ok-place_globals.ensures in
    record {
      stand = subst (λ (literals : List LiteralDef). LiteralsStand tac.types literals) (sym c.as_slice-2.ensures.value) c.requires.literals;
      small =
          subst (λ (literals : List LiteralDef). end_behind c.place_globals.new.self.size (literal_layouts tac.types literals) ≤ greatest) (sym c.as_slice-2.ensures.value)
          (subst (λ n. end_behind n b ≤ greatest) (sym placed.size) all);
    }

pub returns : goal.returns
returns c =
    let tac = c.args.tac.now in
    let a = global_layouts tac.types tac.globals.items in
    let b = literal_layouts tac.types tac.literals.items in
    let first : Statics = record { begins = c.new.result; globals = c.len.result; size = 0 } in
    let placed : PlacesMore first c.place_globals.new.self a =
    subst (λ (globals : List GlobalDef). PlacesMore first c.place_globals.new.self (global_layouts tac.types globals)) c.as_slice.ensures.value c.in_ok-place_globals.ensures in
    let more : PlacesMore c.place_globals.new.self c.place_literals.new.self b =
    subst (λ (literals : List LiteralDef). PlacesMore c.place_globals.new.self c.place_literals.new.self (literal_layouts tac.types literals)) c.as_slice-2.ensures.value c.in_ok-place_literals.ensures in
    let all = placed_more first c.place_globals.new.self c.place_literals.new.self a b placed more in
    record {
      begins = all.begins ∙ ap (λ (items : List ℕ). items ++ begins_of 0 (a ++ b)) c.new.ensures.items;
      globals = all.globals ∙ (c.len.ensures ∙ (tac.globals.ok.0 ∙ sym (length-map tac.globals.items (global_in tac.types))));
      size = all.size;
    }
