use Rattle.std.proofs.Common.{◌≡◌, ℕ, Some, None, cond, sym, ap, ◌∙◌, Vec, Global}
use Rattle.std.specs.Prelude.{bytes_eq}
use Rattle.std.specs.Map.{lookup}
use Rattle.indexmap.proofs.CallerLemmas.{insert_entry-new}
use Rattle.c_typed.specs.Inside.{first_of, number_of}
use Rattle.c_typed.proofs.Members.{lookup_pushed, copied_none}
use Rattle.c_typed.proofs.structure.number_name.Goals as goal

pub returns : goal.returns
returns c = λ other.
    let had = c.args.numbers.now in
    let key = c.in_ok-from_slice.field-0 in
    let name : key.items ≡ c.args.name.now = c.in_ok-from_slice.ensures.items in
    let none = sym c.get.ensures.value ∙ copied_none c.get.result (sym c.is_some.ensures ∙ c.if-is_some.false) in
    let absent : lookup (λ (k : Vec ℕ Global). bytes_eq key.items k.items) had.entries ≡ None = ap (λ n. lookup (λ (k : Vec ℕ Global). bytes_eq n k.items) had.entries) name ∙ none in
    let entries = c.in_ok-insert.ensures.entries ∙ insert_entry-new (λ (a b : Vec ℕ Global). bytes_eq a.items b.items) had key c.args.number absent in
    ap (lookup (λ (k : Vec ℕ Global). bytes_eq other k.items)) entries
    ∙ lookup_pushed (λ (k : Vec ℕ Global). bytes_eq other k.items) had.entries key c.args.number
    ∙ ap (λ n. first_of (number_of had other) (cond (bytes_eq other n) (Some c.args.number) None)) name
