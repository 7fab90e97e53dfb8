-- One step after another, up to the first fault.
use Rattle.std.specs.Prelude.{Result, Ok, Err}
use Rattle.ntuple_text.specs.declared.error.Fault.{Fault}

-- what the next step gives of the value, or the fault that came before it
abbrev pub and_then : {A B : Type 0} → (A → Result B Fault) → Result A Fault → Result B Fault
and_then next (Ok value) = next value
and_then next (Err fault) = Err fault
