use Rattle.std.proofs.Common.{◌≡◌, ℕ, ◌<◌, slice_index, bit_and}
use Rattle.ff_headers.proofs.matching.equal_under.Given as goal

abbrev pub invariant-loop-j : goal.invariant-loop-j
invariant-loop-j l =
    (k : ℕ) → k < l.j → bit_and (slice_index l.header k) (slice_index l.mask k) ≡ bit_and (slice_index l.part k) (slice_index l.mask k)
