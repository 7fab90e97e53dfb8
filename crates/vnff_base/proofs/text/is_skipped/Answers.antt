-- The first byte behind the blanks begins the first word.
use Rattle.std.proofs.Common.{◌≡◌, ◌-◌, length, take, drop, sym, arith}
use Rattle.std.proofs.lemmas.List.{take_rest}
use Rattle.std.proofs.lemmas.Bool.Decides.{nat_tests}
use Rattle.vnff_base.proofs.LineLemmas.{is_skipped-none, is_skipped-next}
use Rattle.vnff_base.proofs.text.is_skipped.Goals as goal

pub returns-in-empty : goal.returns-in-empty
returns-in-empty c =
    let line = c.args.line.now in
    let b = c.blank_len.result in
    let empty : length (take (length line - b) (drop b line)) ≡ 0 = omega (arith, c.in-empty.len_below) in
    sym (is_skipped-none line _ b c.blank_len.ensures.count (take_rest line b) empty)

pub returns-in-len1-up : goal.returns-in-len1-up
returns-in-len1-up c =
    let line = c.args.line.now in
    let b = c.blank_len.result in
    let next = is_skipped-next line _ b c.blank_len.ensures.count (take_rest line b) c.in-len1-up.len_at_least in
    grind (arith, nat_tests)
