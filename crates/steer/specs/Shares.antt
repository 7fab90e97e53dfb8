-- Which frames a worker reads. This project's own.
use Rattle.std.specs.Prelude.{ℕ, ◌+◌, ◌*◌, ◌/◌, ◌%◌, nat_lt, if◌then◌else◌, List, [], map, get_or, length}
use Rattle.std.specs.List.{range_with_len}

-- how many of n frames are those of a worker, which is one of so many: the frames w, w + workers, w + 2 workers and so
-- on below n, where w is its place. Each has n / workers, and those of the first remainder one more
abbrev pub share_len : ℕ → ℕ → ℕ → ℕ
share_len n workers place = n / workers + (if nat_lt place (n % workers) then 1 else 0)

-- the frames of the worker at a place: those whose number has the place as its remainder by the number of workers
unfoldable pub share : List (List ℕ) → ℕ → ℕ → List (List ℕ)
share frames workers place =
    map (λ turn. get_or frames (place + turn * workers) []) (range_with_len 0 (share_len (length frames) workers place))
