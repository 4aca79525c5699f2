-- What a command line comes to, where it is one of a command.
use Rattle.std.proofs.Common.{◌≡◌, ℕ, ◌⊎◌, Bool, List, Option, Some, refl, sym, subst}
use Rattle.pcc_outside.specs.Outside.{Told, Missing, Holds}
use Rattle.pcc_words.specs.declared.status.Status.{Status}
use Rattle.pcc_words.specs.declared.status.Status.TheVariants as S
use Rattle.pcc_words.specs.Line.{Line, Limits, Build, Exec, Graph}
use Rattle.poolcc.specs.Answering.{IsAnswer}
use Rattle.poolcc.specs.Build.{BuildGives}
use Rattle.poolcc.specs.Command.{machine_limits}
use Rattle.poolcc.specs.Exec.{ExecGives}
use Rattle.poolcc.specs.Printed.{GraphGives}

module _ (file : List ℕ) (limits : Limits) (one_pool : Bool) (contents : List ℕ → Told) (left written written' : Option (List ℕ)) (answer : Status)
    (gives : (text base : List ℕ) → contents file ≡ Holds text → written ≡ Some base → BuildGives text (machine_limits limits) base answer written')
    (missing : contents file ≡ Missing → ((answer ≡ S.ReadFault) ⊎ (answer ≡ S.OutOfMemory)) × (written' ≡ written)) where
  of_build : IsAnswer (Build file limits one_pool) contents left written left written' answer
  of_build = record {
    no_command = λ e. let no : ⊥ = cc in absurd no;
    no_line = λ e. let no : ⊥ = cc in absurd no;
    build = λ file' limits' one_pool' text base e holds wrote.
        let same : file ≡ file' = cc in
        let equal : limits ≡ limits' = cc in
        (refl, subst (λ l. BuildGives text (machine_limits l) base answer written') equal (gives text base (subst (λ f. contents f ≡ Holds text) (sym same) holds) wrote));
    exec = λ file' limits' one_pool' steps text input base e holds told wrote. let no : ⊥ = cc in absurd no;
    run = λ file' steps bytes input base e holds told wrote. let no : ⊥ = cc in absurd no;
    ref = λ file' steps text input base e holds told wrote. let no : ⊥ = cc in absurd no;
    graph = λ file' text base e holds wrote. let no : ⊥ = cc in absurd no;
    missing = λ name same none. let there = missing (subst (λ f. contents f ≡ Missing) (sym same) none) in (there.0, refl, there.1);
  }

  pub build_answers : (line : Line) → line ≡ Build file limits one_pool → IsAnswer line contents left written left written' answer
  build_answers line is = subst (λ l. IsAnswer l contents left written left written' answer) (sym is) of_build

module _ (file : List ℕ) (limits : Limits) (one_pool : Bool) (steps : ℕ) (contents : List ℕ → Told) (left written left' written' : Option (List ℕ)) (answer : Status)
    (gives : (text input base : List ℕ) → contents file ≡ Holds text → left ≡ Some input → written ≡ Some base → ExecGives text (machine_limits limits) steps input base answer left' written')
    (missing : contents file ≡ Missing → ((answer ≡ S.ReadFault) ⊎ (answer ≡ S.OutOfMemory)) × (left' ≡ left) × (written' ≡ written)) where
  of_exec : IsAnswer (Exec file limits one_pool steps) contents left written left' written' answer
  of_exec = record {
    no_command = λ e. let no : ⊥ = cc in absurd no;
    no_line = λ e. let no : ⊥ = cc in absurd no;
    build = λ file' limits' one_pool' text base e holds wrote. let no : ⊥ = cc in absurd no;
    exec = λ file' limits' one_pool' steps' text input base e holds told wrote.
        let same : file ≡ file' = cc in
        let equal : limits ≡ limits' = cc in
        let many : steps ≡ steps' = cc in
        subst (λ n. ExecGives text (machine_limits limits') n input base answer left' written') many
        (subst (λ l. ExecGives text (machine_limits l) steps input base answer left' written') equal (gives text input base (subst (λ f. contents f ≡ Holds text) (sym same) holds) told wrote));
    run = λ file' steps' bytes input base e holds told wrote. let no : ⊥ = cc in absurd no;
    ref = λ file' steps' text input base e holds told wrote. let no : ⊥ = cc in absurd no;
    graph = λ file' text base e holds wrote. let no : ⊥ = cc in absurd no;
    missing = λ name same none. missing (subst (λ f. contents f ≡ Missing) (sym same) none);
  }

  pub exec_answers : (line : Line) → line ≡ Exec file limits one_pool steps → IsAnswer line contents left written left' written' answer
  exec_answers line is = subst (λ l. IsAnswer l contents left written left' written' answer) (sym is) of_exec

module _ (file : List ℕ) (contents : List ℕ → Told) (left written written' : Option (List ℕ)) (answer : Status)
    (gives : (text base : List ℕ) → contents file ≡ Holds text → written ≡ Some base → GraphGives text base answer written')
    (missing : contents file ≡ Missing → ((answer ≡ S.ReadFault) ⊎ (answer ≡ S.OutOfMemory)) × (written' ≡ written)) where
  of_graph : IsAnswer (Graph file) contents left written left written' answer
  of_graph = record {
    no_command = λ e. let no : ⊥ = cc in absurd no;
    no_line = λ e. let no : ⊥ = cc in absurd no;
    build = λ file' limits one_pool text base e holds wrote. let no : ⊥ = cc in absurd no;
    exec = λ file' limits one_pool steps text input base e holds told wrote. let no : ⊥ = cc in absurd no;
    run = λ file' steps bytes input base e holds told wrote. let no : ⊥ = cc in absurd no;
    ref = λ file' steps text input base e holds told wrote. let no : ⊥ = cc in absurd no;
    graph = λ file' text base e holds wrote.
        let same : file ≡ file' = cc in
        (refl, gives text base (subst (λ f. contents f ≡ Holds text) (sym same) holds) wrote);
    missing = λ name same none. let there = missing (subst (λ f. contents f ≡ Missing) (sym same) none) in (there.0, refl, there.1);
  }

  pub graph_answers : (line : Line) → line ≡ Graph file → IsAnswer line contents left written left written' answer
  graph_answers line is = subst (λ l. IsAnswer l contents left written left written' answer) (sym is) of_graph
