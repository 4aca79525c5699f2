-- The code with one pool of an accepted program fits an image.
use Rattle.std.proofs.Common.{◌≡◌, ℕ, ◌≤◌, List, length, Some, None, refl, sym, subst, arith}
use Rattle.std.proofs.lemmas.Option.{same_Some}
use Rattle.c_typed.specs.Typed.{Program}
use Rattle.c_typed.specs.Programs.{IsWellTyped}
use Rattle.c_typed.specs.TypedNodes.{program_nodes, greatest_nodes}
use Rattle.c_rules.specs.Named.{NamedType}
use Rattle.c_types.specs.Limits.{exceeded}
use Rattle.tac_ir.specs.Code.{Tac}
use Rattle.tac_ir.specs.States.{Owner, InStart, InFunction}
use Rattle.tac_build.specs.ProgramCode.{Code}
use Rattle.pool_ir.specs.Code.{Function}
use Rattle.pool_ir.specs.States.{function_of}
use Rattle.pool_rewrite.specs.Plan.{one_pool}
use Rattle.pool_rewrite.specs.Placing.{statics_size}
use Rattle.pool_rewrite.specs.Rewriting.{rewritten}
use Rattle.backend_correct.proofs.Limited.{IsLimited, is_limited}
use Rattle.backend_correct.proofs.LoweredRanges.Functions.{functions_alike}
use Rattle.stack_code.specs.Emitting.{height_of}
use Rattle.stack_code.specs.Fitting.{CodeFits}
use Rattle.backend_correct.proofs.Premises.{one_pool_accepted_fits}
use Rattle.stack_code.specs.FitsImage.{FunctionFitsImage, FitsImage}
use Rattle.c_typed.specs.Parameters.{HasFewParameters}
use Rattle.backend_correct.proofs.ImagePremises.Functions.{FunctionNamed, worth, code_named}
use Rattle.backend_correct.proofs.Contents.{contents_bytes}
use Rattle.backend_correct.proofs.Emitted.{IsEmitted, function_emitted, start_emitted, made_alike, each_made}
use Rattle.backend_correct.proofs.Statics.{statics_small}

module _ (program : Program) (tac : Tac) (code : Code program tac) (limited : IsLimited program) (few : HasFewParameters program) (nodes : program_nodes program ≤ greatest_nodes) where
  alike : length tac.functions ≡ length program.functions
  alike = functions_alike program program.functions tac.functions code.functions

  few_functions : length tac.functions ≤ 4096
  few_functions = let most = limited.functions in let same = alike in omega (arith, same, most)

  abbrev made_functions : ℕ
  made_functions = length (rewritten (one_pool tac) tac).functions

  made_emitted : (owner : Owner) (function : Function) → function_of (rewritten (one_pool tac) tac) owner ≡ Some function → IsEmitted 1 made_functions function
  made_emitted owner function is =
      subst (λ (functions : ℕ). IsEmitted 1 functions function) (sym (made_alike tac tac.functions)) (by owner is)
    where
      small : statics_size tac ≤ 1073741824
      small = statics_small program tac code limited

      by : (owner : Owner) → function_of (rewritten (one_pool tac) tac) owner ≡ Some function → IsEmitted 1 (length tac.functions) function
      by InStart is =
          subst (IsEmitted 1 (length tac.functions)) (same_Some _ function is)
          (start_emitted tac small few_functions (program_nodes program) nodes tac.start
          (subst (λ (functions : ℕ). FunctionNamed functions (worth (program_nodes program)) tac.start) (sym alike) (code_named program tac code few InStart tac.start refl)))
      by (InFunction number) is =
          each_made tac (IsEmitted 1 (length tac.functions)) tac.functions number function
          (λ own found there. function_emitted tac small few_functions (program_nodes program) nodes own found
          (subst (λ (functions : ℕ). FunctionNamed functions (worth (program_nodes program)) found) (sym alike) (code_named program tac code few (InFunction number) found there)))
          is

-- Its functions have at most so many parameters each, and its trees so many nodes together; the heights of its functions are told elsewhere.
pub accepted_fits_image : (program : Program) (tac : Tac) (named_types : List NamedType) → Code program tac → IsWellTyped program → HasFewParameters program → exceeded program named_types ≡ None
    → program_nodes program ≤ greatest_nodes → ((owner : Owner) (function : Function) → function_of (rewritten (one_pool tac) tac) owner ≡ Some function → height_of function ≤ 65536)
    → FitsImage (rewritten (one_pool tac) tac)
accepted_fits_image program tac named_types code well few none nodes heights = record {
  functions = functions;
  count = let same = made_alike tac tac.functions in let most = few_functions program tac code limited few nodes in omega (arith, same, most);
  start = let none_taken = fits.start.0 in let none_given = fits.start.1 in omega (arith, none_taken, none_given);
  kinds = (omega arith, (tt, tt));
  globals = statics_small program tac code limited;
  contents = fits.contents;
  bytes = contents_bytes tac;
}
  where
    limited : IsLimited program
    limited = is_limited program named_types none

    fits : CodeFits 1 (rewritten (one_pool tac) tac)
    fits = one_pool_accepted_fits program tac named_types code well none nodes

    functions : (owner : Owner) (function : Function) → function_of (rewritten (one_pool tac) tac) owner ≡ Some function → FunctionFitsImage 1 (length (rewritten (one_pool tac) tac).functions) function
    functions owner function is =
        let frames = fits.functions owner function is in
        let emitted = made_emitted program tac code limited few nodes owner function is in
        record {
          taken = frames.taken;
          parameters = emitted.parameters;
          words = frames.words;
          size = frames.size;
          height = heights owner function is;
          signature = emitted.signature;
          short = emitted.short;
          begins = emitted.begins;
          points = λ number op there. ((frames.points number op there).0, emitted.points number op there);
          entering = (frames.entering.0, emitted.entering);
          leaving = (frames.leaving.0, emitted.leaving);
          edges = λ from to. ((frames.edges from to).0, emitted.edges from to);
        }
