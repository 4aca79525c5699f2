-- The form of an expression that was matched, told by its parts as they were read.
use Rattle.std.proofs.Common.{◌≡◌, sym, ◌∙◌}
use Rattle.c_typed.specs.declared.typed.Value as memory_value
use Rattle.c_typed.specs.declared.typed.Value.TheVariants as V
use Rattle.c_typed.specs.declared.typed.Object as memory_object
use Rattle.c_typed.specs.declared.typed.Designator as memory_designator

pub grouped_is : {value : memory_value.Value} {p : _} {a inner : memory_value.Value} → value ≡ V.Grouped' p a → inner ≡ a → value ≡ V.Grouped' p inner
grouped_is {p = p} e d = e ∙ (λ i. V.Grouped' p (sym d i))

pub read_is : {value : memory_value.Value} {place : _} {p : _} {a object : memory_object.Object} → value ≡ V.Read' place p a → object ≡ a → value ≡ V.Read' place p object
read_is {place = place} {p = p} e d = e ∙ (λ i. V.Read' place p (sym d i))

pub decay_is : {value : memory_value.Value} {place : _} {p : _} {a object : memory_object.Object} → value ≡ V.Decay' place p a → object ≡ a → value ≡ V.Decay' place p object
decay_is {place = place} {p = p} e d = e ∙ (λ i. V.Decay' place p (sym d i))

pub address_is : {value : memory_value.Value} {place : _} {p : _} {a object : memory_object.Object} → value ≡ V.AddressOf' place p a → object ≡ a → value ≡ V.AddressOf' place p object
address_is {place = place} {p = p} e d = e ∙ (λ i. V.AddressOf' place p (sym d i))

pub function_is : {value : memory_value.Value} {p : _} {a function : memory_designator.Designator} → value ≡ V.FunctionValue' p a → function ≡ a → value ≡ V.FunctionValue' p function
function_is {p = p} e d = e ∙ (λ i. V.FunctionValue' p (sym d i))

pub named_function_is : {value : memory_value.Value} {p : _} {a function : memory_designator.Designator} → value ≡ V.AddressOfFunction' p a → function ≡ a → value ≡ V.AddressOfFunction' p function
named_function_is {p = p} e d = e ∙ (λ i. V.AddressOfFunction' p (sym d i))

pub cast_is : {value : memory_value.Value} {p : _} {a inner : memory_value.Value} → value ≡ V.Cast' p a → inner ≡ a → value ≡ V.Cast' p inner
cast_is {p = p} e d = e ∙ (λ i. V.Cast' p (sym d i))

pub cast_void_is : {value : memory_value.Value} {p : _} {a inner : memory_value.Value} → value ≡ V.CastVoid' p a → inner ≡ a → value ≡ V.CastVoid' p inner
cast_void_is {p = p} e d = e ∙ (λ i. V.CastVoid' p (sym d i))

pub and_is : {value : memory_value.Value} {p : _} {q : _} {a b left right : memory_value.Value} → value ≡ V.And' p a q b → left ≡ a → right ≡ b → value ≡ V.And' p left q right
and_is {p = p} {q = q} e d f = e ∙ (λ i. V.And' p (sym d i) q (sym f i))

pub or_is : {value : memory_value.Value} {p : _} {q : _} {a b left right : memory_value.Value} → value ≡ V.Or' p a q b → left ≡ a → right ≡ b → value ≡ V.Or' p left q right
or_is {p = p} {q = q} e d f = e ∙ (λ i. V.Or' p (sym d i) q (sym f i))

pub conditional_is : {value : memory_value.Value} {p : _} {q : _} {r : _} {a b d condition taken otherwise : memory_value.Value} → value ≡ V.Conditional' p a q b r d → condition ≡ a → taken ≡ b → otherwise ≡ d
    → value ≡ V.Conditional' p condition q taken r otherwise
conditional_is {p = p} {q = q} {r = r} e f g h = e ∙ (λ i. V.Conditional' p (sym f i) q (sym g i) r (sym h i))
