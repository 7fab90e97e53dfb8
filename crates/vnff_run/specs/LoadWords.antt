-- The words behind `gen`, this project's own: the seed of a load, and the number of its frames.
use Rattle.std.specs.Prelude.{ℕ, ◌&&◌, if◌then◌else◌, nat_le, List, Option, Some, None, option_and_then}
use Rattle.vnff_base.specs.Numbers.{number_of}

-- the most frames of a load
abbrev pub most_frames : ℕ
most_frames = 1000000

-- how many frames a word asks for: from 1 on
unfoldable pub frame_count_of : List ℕ → Option ℕ
frame_count_of word =
    option_and_then (λ n. if nat_le 1 n && nat_le n most_frames then Some n else None) (number_of word)
