-- The image of a program follows it: its three-address code, the code with one pool of that, and the instructions that are linked.
use Rattle.std.proofs.Common.{◌≡◌, ℕ, suc, ◌≤◌, ◌<◌, List, length, Result, Ok, Err, IfOk, refl, sym, ap, subst, ◌∙◌, arith}
use Rattle.std.proofs.lemmas.List.{length-map}
use Rattle.std.specs.declared.alloc.AllocError.{AllocError}
use Rattle.std.specs.List.{AllByRecursion}
use Rattle.run_theory.specs.Runs.{Run, FollowsBy}
use Rattle.c_typed.specs.Typed.{Program}
use Rattle.ref_semantics.specs.First.{reference}
use Rattle.tac_ir.specs.Code.{Tac}
use Rattle.tac_build.specs.ProgramCode.{Code}
use Rattle.pool_isa.specs.Machine as M
use Rattle.pool_isa.specs.Machine.{mach}
use Rattle.pool_isa.specs.Ranges.{IsFunction}
use Rattle.pool_ir.specs.Code.{PoolCode}
use Rattle.pool_rewrite.specs.Plan.{Plan, one_pool}
use Rattle.pool_rewrite.specs.Rewriting.{rewritten}
use Rattle.stack_code.specs.Emitting.{emitted_function, emitted}
use Rattle.stack_code.specs.FitsImage.{FitsImage}
use Rattle.stack_code.proofs.EmittedRanges.{emitted_in_range, emitted_count, emitted_begins}
use Rattle.backend_correct.proofs.FittingImage.{accepted_fits_image}
use Rattle.backend_correct.proofs.Heights.{heights_fit}
use Rattle.image_form.specs.declared.image.MachineLimits.{MachineLimits}
use Rattle.image_form.specs.declared.image.Image.{Image}
use Rattle.image_form.specs.Form.{Form, code_of, form_of, BeginsWithStart, IsKind, IsImage}
use Rattle.pool_linker.specs.Linking.{linked}
use Rattle.pool_linker.proofs.LinkedRuns.{linked_runs, kinds_there}
use Rattle.pool_isa.proofs.SafeAccesses.{run_accesses_safe}
use Rattle.backend_correct.specs.HeapEvents.{heap_events}
use Rattle.backend_correct.proofs.Follows.{one_pool_code, one_pool_follows}
use Rattle.poolcc.specs.Compiled.{IsCompilable, IsImageFor}

-- ---- emitted code can be linked

pub record IsLinkable (code : M.Code) : Type 0 where
  pub functions : AllByRecursion (IsFunction (length code.kinds) (length code.functions)) code.functions
  pub count : length code.functions ≤ 4097
  pub start : BeginsWithStart code.functions
  pub kinds : (length code.kinds ≤ 1048576) × AllByRecursion IsKind code.kinds
  pub globals : code.globals ≤ 1073741824
  pub contents : length code.contents ≤ code.globals
  pub bytes : AllByRecursion (λ byte. byte < 256) code.contents

pub emitted_linkable : (code : PoolCode) → FitsImage code → IsLinkable (emitted code)
emitted_linkable code fits =
    let long : length (emitted code).functions ≡ suc (length code.functions) = ap suc (length-map code.functions emitted_function) in
    record {
      functions = subst (λ n. AllByRecursion (IsFunction (length code.kinds) n) (emitted code).functions) (sym long) (emitted_in_range code fits);
      count = emitted_count code fits;
      start = emitted_begins code fits;
      kinds = fits.kinds;
      globals = fits.globals;
      contents = fits.contents;
      bytes = fits.bytes;
    }

-- ---- a program's image

module _ (program : Program) (tac : Tac) (compilable : IsCompilable program) (code : Code program tac) where
  pub fits : FitsImage (rewritten (one_pool tac) tac)
  fits =
      accepted_fits_image program tac compilable.named code compilable.well_typed compilable.parameters compilable.within compilable.small
      (heights_fit program tac code compilable.shallow compilable.few)

  -- the linked code runs as the code
  linked_same : (limits : MachineLimits) (slabs index : ℕ) (input : List ℕ) (n : ℕ) → mach (code_of (linked (one_pool_code tac) limits)) slabs index input n ≡ mach (one_pool_code tac) slabs index input n
  linked_same =
      let linkable = emitted_linkable (rewritten (one_pool tac) tac) fits in
      let made = one_pool_code tac in
      linked_runs made (kinds_there (length made.kinds) (length made.functions) made.functions linkable.functions) linkable.contents

  pub image_for : (limits : MachineLimits) (form : Form) → form ≡ linked (one_pool_code tac) limits → IsImage form → IsImageFor program limits form
  image_for limits form is ranges =
      subst (IsImageFor program limits) (sym is) (record {
        ranges = subst IsImage is ranges;
        holds = refl;
        follows = λ input within small.
            let few = small.0.1 in
            subst (λ (run : Run). FollowsBy (heap_events within.slabs) (reference program input) run) (λ i n. sym (linked_same limits within.slabs within.index input n) i)
            (one_pool_follows program tac compilable.named code compilable.well_typed compilable.storable compilable.within compilable.small within.slabs within.index (omega (arith, few)) input);
        safe = λ input within. run_accesses_safe (code_of (linked (one_pool_code tac) limits)) within.slabs within.index input;
      })

  -- that was linked, if memory didn't run out
  pub image_if : (limits : MachineLimits) (result : Result Image AllocError) → IfOk result (λ (image : Image). form_of image ≡ linked (one_pool_code tac) limits) → IfOk result (λ (image : Image). IsImage (form_of image))
      → IfOk result (λ (image : Image). IsImageFor program limits (form_of image))
  image_if limits (Ok image) is ranges = image_for limits (form_of image) is ranges
  image_if limits (Err error) is ranges = tt

-- code that was made by the plan of one pool
pub made_fits : (program : Program) (tac : Tac) → IsCompilable program → Code program tac → (plan : Plan) → plan ≡ one_pool tac → (made : PoolCode) → made ≡ rewritten plan tac → FitsImage made
made_fits program tac compilable code plan one made is = subst FitsImage (sym (is ∙ ap (λ (own : Plan). rewritten own tac) one)) (fits program tac compilable code)
