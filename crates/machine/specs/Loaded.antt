-- What a machine stands for.
use Rattle.image_form.specs.Form.{code_of, form_of, IsImage}
use Rattle.machine.specs.declared.loaded.Machine.{Machine}
use Rattle.machine.specs.Heaps.{heap_of}
use Rattle.machine.specs.Steps.{activations_of}
use Rattle.machine.specs.Run.{Ready}

abbrev pub ready_of : Machine → Ready
ready_of machine =
    record { code = code_of (form_of machine.image.now); limits = machine.limits; activations = activations_of machine.calls; heap = heap_of machine.heap; spent = machine.spent; last = machine.last }

-- its image's fields are in their ranges
abbrev pub IsLoaded : Machine → Type 0
IsLoaded machine = IsImage (form_of machine.image.now)
