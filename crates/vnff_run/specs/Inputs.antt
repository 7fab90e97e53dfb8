-- What the files give that words name, or what is at fault with them. This project's own.
use Rattle.std.specs.Prelude.{ℕ, List, length, Option, Some, None, Result, Ok, Err, nat_lt, if◌then◌else◌}
use Rattle.vnff_base.specs.Shelves.{Files, file_limit}
use Rattle.split_queue.specs.DeviceEnds.{DeviceEndState, device_start}
use Rattle.split_queue.specs.Setup.{setup_fault}
use Rattle.split_queue.specs.declared.queue_place.Place.{Place}
use Rattle.vnff_run.specs.Results.{◌>>=◌}
use Rattle.vnff_run.specs.Grammar.{script_of}
use Rattle.vnff_run.specs.declared.script.Script.{Script}
use Rattle.vnff_run.specs.declared.error.Reason.{Reason}
use Rattle.vnff_run.specs.declared.stop.FileKind.{FileKind}
use Rattle.vnff_run.specs.declared.stop.FileKind.TheVariants as kinds
use Rattle.vnff_run.specs.declared.stop.RefusedInput.{RefusedInput}
use Rattle.vnff_run.specs.declared.stop.RefusedInput.TheVariants.{TooLong, BadScript, BadImage}

-- What is at fault with an input, where no read fails: a file isn't there, or it is refused.
pub data InputFault : Type 0 where
  Missing : InputFault
  Refused : RefusedInput → InputFault

-- a file's bytes, where it is there and not too long
abbrev pub bytes_or_fault : FileKind → Option (List ℕ) → Result (List ℕ) InputFault
bytes_or_fault kind None = Err Missing
bytes_or_fault kind (Some bytes) = if nat_lt file_limit (length bytes) then Err (Refused (TooLong kind)) else Ok bytes

-- the bytes of the file of that name, which is to be one of this kind
abbrev pub file_bytes : FileKind → List ℕ → Files → Result (List ℕ) InputFault
file_bytes kind name files = bytes_or_fault kind (files name)

-- a script, or the refusal of what isn't one
abbrev pub script_or_refusal : Result Script (ℕ × Reason) → Result Script InputFault
script_or_refusal (Ok script) = Ok script
script_or_refusal (Err fault) = Err (Refused (BadScript fault.0 fault.1))

-- the script in the file of that name
unfoldable pub script_in : List ℕ → Files → Result Script InputFault
script_in name files = file_bytes kinds.Script name files >>= λ bytes. script_or_refusal (script_of bytes)

-- a memory with the device's end of the queue at a place, or the refusal of a place where no queue can lie
abbrev pub queue_or_refusal : Place → List ℕ → Result (List ℕ × DeviceEndState) InputFault
queue_or_refusal place image = elim (setup_fault place (length image)) [
  | Some fault ↦ Err (Refused (BadImage fault))
  | None ↦ Ok (image, device_start place (length image) 0)
]

-- the queue at a place in the image of guest memory that the file of that name is
unfoldable pub queue_in : List ℕ → Place → Files → Result (List ℕ × DeviceEndState) InputFault
queue_in name place files = file_bytes kinds.Image name files >>= queue_or_refusal place
