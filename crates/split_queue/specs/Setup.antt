-- Where a split virtqueue may lie in a memory (Virtio 1.4 draft, "Split Virtqueues"; that the areas lie apart is this
-- project's own). Sums are those of numbers and never wrap.
use Rattle.std.specs.Prelude.{ℕ, ◌+◌, ◌%◌, ◌^◌, ◌<◌, ◌≤◌, ◌==◌, ◌&&◌, ◌||◌, ◌⊎◌, Bool, not, nat_lt, nat_le, if◌then◌else◌, Option, Some, None}
use Rattle.std.specs.Int.{is_power_of_two}
use Rattle.guest_mem.specs.Memory.{IsInRange}
use Rattle.split_queue.specs.QueuePlaces.{table_bytes, available_bytes, used_bytes}
use Rattle.split_queue.specs.declared.queue_place.Place.{Place}
use Rattle.split_queue.specs.declared.setup.Area.{Area}
use Rattle.split_queue.specs.declared.error.SetupErr.{SetupErr}
use Rattle.split_queue.specs.declared.error.SetupErr.TheVariants as setup

-- the descriptor table, the available ring and the used ring
abbrev pub table_area : Place → Area
table_area place = record { start = place.desc; len = table_bytes place.size }

abbrev pub available_area : Place → Area
available_area place = record { start = place.avail; len = available_bytes place.size }

abbrev pub used_area : Place → Area
used_area place = record { start = place.used; len = used_bytes place.size }

-- the address lies in the area
abbrev pub IsInArea : Area → ℕ → Type 0
IsInArea area addr = IsInRange area.start area.len addr

-- the area lies in a memory of so many bytes
abbrev pub lies_in : Area → ℕ → Bool
lies_in area mem_len = nat_le (area.start + area.len) mem_len

-- the areas share a byte; none of them is empty
abbrev pub meets : Area → Area → Bool
meets a b = nat_lt a.start (b.start + b.len) && nat_lt b.start (a.start + a.len)

-- of what the addresses of the areas are multiples
abbrev pub table_align : ℕ
table_align = 16

abbrev pub available_align : ℕ
available_align = 2

abbrev pub used_align : ℕ
used_align = 4

abbrev pub is_aligned : Place → Bool
is_aligned place =
    (place.desc % table_align == 0) && (place.avail % available_align == 0) && (place.used % used_align == 0)

abbrev pub all_lie_in : Place → ℕ → Bool
all_lie_in place mem_len =
    lies_in (table_area place) mem_len && lies_in (available_area place) mem_len && lies_in (used_area place) mem_len

abbrev pub some_meet : Place → Bool
some_meet place =
    meets (table_area place) (available_area place) || meets (table_area place) (used_area place)
    || meets (available_area place) (used_area place)

-- the first reason why the place can't hold a queue in a memory of so many bytes. A size has 16 bits, so a power of two
-- is one from 1 to 32,768.
unfoldable pub setup_fault : Place → ℕ → Option SetupErr
setup_fault place mem_len =
    if not (is_power_of_two place.size) then Some setup.Size
    else (if not (is_aligned place) then Some setup.Align
    else (if not (all_lie_in place mem_len) then Some setup.Area
    else (if some_meet place then Some setup.Overlap else None)))

-- the areas share no byte: one ends before the other begins
abbrev pub LieApart : Area → Area → Type 0
LieApart a b = (a.start + a.len ≤ b.start) ⊎ (b.start + b.len ≤ a.start)

-- what every queue that was set up knows of its place: each area lies in the memory, and they lie apart
pub record IsPlaced (place : Place) (mem_len : ℕ) : Type 0 where
  pub some : 0 < place.size
  pub table : place.desc + table_bytes place.size ≤ mem_len
  pub available : place.avail + available_bytes place.size ≤ mem_len
  pub used : place.used + used_bytes place.size ≤ mem_len
  pub table_available : LieApart (table_area place) (available_area place)
  pub table_used : LieApart (table_area place) (used_area place)
  pub available_used : LieApart (available_area place) (used_area place)
  pub short : mem_len < 2 ^ 64
