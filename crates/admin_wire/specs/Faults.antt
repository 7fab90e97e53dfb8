-- Reading that may meet a fault.
use Rattle.std.specs.Prelude.{Result, Ok, Err}
use Rattle.admin_wire.specs.declared.error.WireErr.{WireErr}

-- what the next step makes of a value; a fault stays as it is
infixl 10 ◌>>=◌
abbrev pub ◌>>=◌ : {A B : Type 0} → Result A WireErr → (A → Result B WireErr) → Result B WireErr
(Ok value) >>= next = next value
(Err fault) >>= next = Err fault
