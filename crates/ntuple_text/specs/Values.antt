-- The values of an option: those of a field by their form, an action, a queue and a location.
use Rattle.std.specs.Prelude.{ℕ, nat_lt, if◌then◌else◌, List, codes, Result, Ok, Err}
use Rattle.std.specs.Option.{ok_or}
use Rattle.std.specs.Str.{bytes_eq}
use Rattle.ntuple_text.specs.Addresses.{mac_of, ipv4_of, ipv6_of}
use Rattle.ntuple_text.specs.Numerals.{numeral_of, numeral_up_to}
use Rattle.ntuple_text.specs.Steps.{and_then}
use Rattle.ntuple_text.specs.TableMaps.{location_count}
use Rattle.ntuple_text.specs.declared.error.Fault.{Fault}
use Rattle.ntuple_text.specs.declared.error.Fault.TheVariants.{Address, Queue as WrongQueue, Loc}
use Rattle.ntuple_text.specs.declared.key.FieldForm.{FieldForm}
use Rattle.ntuple_text.specs.declared.key.FieldForm.TheVariants.{Mac, Ipv4, Ipv6, Bits8, Bits16}
use Rattle.ntuple_text.specs.declared.spec.TableDo.{TableDo}
use Rattle.ntuple_text.specs.declared.spec.TableDo.TheVariants.{Drop, Queue}

-- the greatest number of 8 bits
abbrev pub most_8_bits : ℕ
most_8_bits = 255

-- the greatest number of 16 bits
abbrev pub most_16_bits : ℕ
most_16_bits = 65535

-- the value of a field
unfoldable pub field_value : FieldForm → List ℕ → Result ℕ Fault
field_value Mac word = ok_or (mac_of word) Address
field_value Ipv4 word = ok_or (ipv4_of word) Address
field_value Ipv6 word = ok_or (ipv6_of word) Address
field_value Bits8 word = numeral_up_to most_8_bits word
field_value Bits16 word = numeral_up_to most_16_bits word

-- a receive queue, which is below the queue pairs
unfoldable pub queue_value : ℕ → List ℕ → Result TableDo Fault
queue_value pairs word = and_then (λ n. if nat_lt n pairs then Ok (Queue n) else Err WrongQueue) (numeral_of word)

-- an action: `-1` drops, and another number is a receive queue
unfoldable pub action_value : ℕ → List ℕ → Result TableDo Fault
action_value pairs word = if bytes_eq word (codes "-1") then Ok Drop else queue_value pairs word

-- a location of a table
unfoldable pub location_value : List ℕ → Result ℕ Fault
location_value word = and_then (λ n. if nat_lt n location_count then Ok n else Err Loc) (numeral_of word)
