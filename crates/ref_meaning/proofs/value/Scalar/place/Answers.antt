use Rattle.std.proofs.Common.{sym, ◌∙◌, ap}
use Rattle.ref_semantics.specs.Values.{Heap, first_of_row, place_of}
use Rattle.ref_meaning.specs.declared.value.Name.TheVariants as N
use Rattle.ref_meaning.specs.RefStore.Views.{place_in, scalar_in}
use Rattle.ref_meaning.proofs.Scalars.{nothing, void_stands, nothing_means, no_place}
use Rattle.ref_meaning.proofs.Fitting.{first_stands, nothing_row_fits}
use Rattle.ref_meaning.proofs.value.Scalar.place.Goals as goal

pub returns-in-Raw-clause-means : goal.returns-in-Raw-clause-means
returns-in-Raw-clause-means c = λ table.
    ap (place_in table) c.first.ensures ∙ ap (first_of_row (Heap c.in-Raw.number)) (nothing_means table) ∙ ap (λ v. place_of (scalar_in table v)) (sym c.in-Raw.is)

pub returns-in-Raw-clause-stands : goal.returns-in-Raw-clause-stands
returns-in-Raw-clause-stands c = λ table stands.
    first_stands table c.first.result (N.Heap c.in-Raw.number) nothing c.first.ensures (void_stands table) (nothing_row_fits table nothing (nothing_means table))

pub returns-in_default : goal.returns-in_default
returns-in_default c = record {
  means = λ table. ap (place_in table) c.first-in_default.ensures ∙ no_place table c.args.self c.in_default.not-Pointer c.in_default.not-Raw;
  stands = λ table stands. first_stands table c.first-in_default.result (N.Heap 0) nothing c.first-in_default.ensures (void_stands table) (nothing_row_fits table nothing (nothing_means table));
}
