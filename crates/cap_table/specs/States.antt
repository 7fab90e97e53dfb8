-- The state of a device's object machine: this project's subset of the draft's administration commands.
use Rattle.std.specs.Prelude.{ℕ, ◌≡◌, ◌*◌, ◌%◌, Bool, ◌==◌, ◌&&◌, nat_lt, IsTrue}
use Rattle.std.specs.List.{AllByRecursion}
use Rattle.std.specs.Int.{bit_at}
use Rattle.ff_headers.specs.Objects.{FlowObjects, no_objects, IsWellFormed}
use Rattle.ff_headers.specs.RuleParts.{RuleParts}
use Rattle.ff_headers.specs.declared.rule.RuleAction.TheVariants.{Queue}
use Rattle.cap_table.specs.Caps.{CapsParts, DriverParts, AreSelectors, AtMost, unset, same_as}
use Rattle.cap_table.specs.declared.start.Start.{Start}
use Rattle.cap_table.specs.declared.start.Start.TheVariants.{Ready, Reset}

-- the capabilities, the bitmap of the opcodes in use, what the driver set, and the objects
pub record DeviceState : Type 0 where
  pub caps : CapsParts
  pub in_use : ℕ
  pub driver : DriverParts
  pub objects : FlowObjects

-- the opcodes that the device has, one bit each: 0, 1 and 7 to 13
abbrev pub all_opcodes : ℕ
all_opcodes = 0x3F83

-- the opcodes that are always in use: the list query and the list use command
abbrev pub first_opcodes : ℕ
first_opcodes = 0x3

-- whether a bitmap of opcodes has the opcode
abbrev pub is_opcode_in : ℕ → ℕ → Bool
is_opcode_in opcodes opcode = bit_at opcodes opcode == 1

-- the opcodes in use at a start
abbrev pub opcodes_at : Start → ℕ
opcodes_at Ready = all_opcodes
opcodes_at Reset = first_opcodes

-- what the driver set at a start
abbrev pub driver_at : CapsParts → Start → DriverParts
driver_at caps Ready = same_as caps
driver_at caps Reset = unset

-- a device at its start, with no objects
abbrev pub start_state : CapsParts → Start → DeviceState
start_state caps start =
    record { caps = caps; in_use = opcodes_at start; driver = driver_at caps start; objects = no_objects }

-- the receive virtqueue of pair q has the index 2q (Virtio 1.4 draft, network device, virtqueues)
abbrev pub is_receive_queue : ℕ → ℕ → Bool
is_receive_queue pairs vq = (vq % 2 == 0) && nat_lt vq (2 * pairs)

-- a rule that queues names a receive virtqueue
abbrev pub QueuesWithin : ℕ → ℕ × RuleParts → Type 0
QueuesWithin pairs (id, rule) = rule.action ≡ Queue → IsTrue (is_receive_queue pairs rule.vq)

-- what holds in every state that can be reached
pub record IsValid (state : DeviceState) : Type 0 where
  pub objects : IsWellFormed state.caps.limits state.objects
  pub limits : AtMost state.driver.limits state.caps.limits
  pub selectors : AreSelectors state.driver.selectors
  pub queues : AllByRecursion (QueuesWithin state.caps.pairs) state.objects.rules
  pub list_query : bit_at state.in_use 0 ≡ 1
  pub list_use : bit_at state.in_use 1 ≡ 1
