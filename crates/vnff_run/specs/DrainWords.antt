-- The words behind `drain IMAGE`, this project's own: where the queue of an image lies, `SIZE DESC AVAIL USED`.
use Rattle.std.specs.Prelude.{ℕ, ◌&&◌, if◌then◌else◌, nat_le, List, Option, Some, None, option_and_then}
use Rattle.std.specs.Int.{is_power_of_two}
use Rattle.vnff_base.specs.Numbers.{number_of}
use Rattle.split_queue.specs.declared.queue_place.Place.{Place}

-- the most descriptors of a queue
abbrev pub most_size : ℕ
most_size = 32768

-- the size of a queue that a word spells: a power of two from 1 on
unfoldable pub size_of : List ℕ → Option ℕ
size_of word =
    option_and_then (λ n. if nat_le n most_size && is_power_of_two n then Some n else None) (number_of word)

-- the place with a size and the addresses of the three areas
abbrev pub place_with : Option ℕ → Option ℕ → Option ℕ → Option ℕ → Option Place
place_with (Some size) (Some desc) (Some avail) (Some used) =
    Some (record { size = size; desc = desc; avail = avail; used = used })
place_with _ _ _ _ = None

-- the place that four words spell
unfoldable pub place_from_words : List ℕ → List ℕ → List ℕ → List ℕ → Option Place
place_from_words size desc avail used = place_with (size_of size) (number_of desc) (number_of avail) (number_of used)
