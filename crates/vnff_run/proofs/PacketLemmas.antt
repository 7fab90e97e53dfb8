-- The frames of a capture with their numbers, one after another.
use Rattle.std.proofs.Common.{◌≡◌, ℕ, ◌<◌, List, [], length, get_or, sym, ap, ◌∙◌, zero-add}
use Rattle.std.specs.Prelude.{None, Some, slice_get}
use Rattle.std.specs.List.{enumerate_from}
use Rattle.std.proofs.lemmas.List.FromFn.{get_or-enumerate_from, length-enumerate_from}
use Rattle.std.proofs.lemmas.Option.{get_or_from_slice_get, slice_get-get_or}

-- a frame and its number
pub packet_is : (frames : List (List ℕ)) (i : ℕ) (frame : List ℕ) → i < length frames → Some frame ≡ slice_get frames i → (i, frame) ≡ get_or (enumerate_from 0 frames) i (i, frame)
packet_is frames i frame within is =
    sym (get_or-enumerate_from 0 frames i (i, frame) within ∙ ap {B = ℕ × List ℕ} (λ n. (n, get_or frames i frame)) (zero-add i) ∙ ap {B = ℕ × List ℕ} (λ f. (i, f)) (get_or_from_slice_get frames i frame frame (sym is)))

pub packet_within : (frames : List (List ℕ)) (i : ℕ) → i < length frames → i < length (enumerate_from 0 frames)
packet_within frames i within = rw (length-enumerate_from 0 frames) within

pub packet_is_there : (frames : List (List ℕ)) (i : ℕ) → i < length frames → None ≡ slice_get frames i → ⊥
packet_is_there frames i within none =
    let some = slice_get-get_or frames i [] within in
    cc
