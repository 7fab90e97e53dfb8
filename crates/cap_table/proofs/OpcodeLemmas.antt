-- The bits of a bitmap of opcodes.
use Rattle.std.proofs.Common.{◌≡◌, ℕ, ◌<◌, ◌≤◌, ◌^◌}
use Rattle.std.specs.Int.{bit_at}
use Rattle.std.proofs.lemmas.Nat.Bits.{bit_at_above}

-- a bitmap of 64 bits has no opcode from 64 on
pub no_bit_above : (opcodes opcode : ℕ) → opcodes < 2 ^ 64 → 64 ≤ opcode → bit_at opcodes opcode ≡ 0
no_bit_above opcodes opcode fits high = bit_at_above opcodes 64 opcode fits high
