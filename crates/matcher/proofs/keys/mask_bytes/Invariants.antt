use Rattle.std.proofs.Common.{◌≡◌, ℕ, ◌<◌, ◌≤◌, get_or, bit_and}
use Rattle.matcher.proofs.keys.mask_bytes.Given as goal

abbrev pub invariant-loop-j : goal.invariant-loop-j
invariant-loop-j l = record {
  done : (k : ℕ) → k < l.j → get_or l.bytes k 0 ≡ bit_and (get_or l.fn.bytes k 0) (get_or l.mask k 0);
  left : (k : ℕ) → l.j ≤ k → get_or l.bytes k 0 ≡ get_or l.fn.bytes k 0;
}
