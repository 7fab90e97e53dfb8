-- A number that is written from its most significant bit on, as whole bytes and what stands behind them.
use Rattle.std.specs.Prelude.{ℕ, ◌≡◌, ◌+◌, ◌*◌, ◌/◌, ◌%◌, ◌^◌, ◌<◌, List, length, slice_index}
use Rattle.ff_headers.specs.Fields.{number}

-- bytes, and the bits behind them, which are less than a byte, spell the number of so many bits
pub record SpellsNumber (bits : ℕ) (n : ℕ) (bytes : List ℕ) (rest : ℕ) : Type 0 where
  pub spelled : number bytes * 2 ^ (bits % 8) + rest ≡ n
  pub size : length bytes ≡ bits / 8
  pub small : rest < 2 ^ (bits % 8)
  pub are_bytes : (k : ℕ) → slice_index bytes k < 256
