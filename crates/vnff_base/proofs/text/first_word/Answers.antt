-- Blanks before the first word are skipped, and the word ends at the next one.
use Rattle.std.proofs.Common.{◌≡◌, ◌<◌, ◌-◌, length, take, drop, arith}
use Rattle.std.proofs.lemmas.List.{take_rest}
use Rattle.std.proofs.lemmas.Bool.Decides.{nat_tests}
use Rattle.vnff_base.proofs.LineLemmas.{words_of-none, words_of-next}
use Rattle.vnff_base.proofs.text.first_word.Goals as goal

pub returns-then-is_empty-clause-first : goal.returns-then-is_empty-clause-first
returns-then-is_empty-clause-first c =
    let line = c.args.line.now in
    let b = c.blank_len.result in
    let empty : length (take (length line - b) (drop b line)) ≡ 0 = grind (arith, nat_tests) in
    words_of-none line _ b c.blank_len.ensures.count (take_rest line b) empty

pub returns-clause-first : goal.returns-clause-first
returns-clause-first c =
    let line = c.args.line.now in
    let b = c.blank_len.result in
    let some : 0 < length (take (length line - b) (drop b line)) = grind (arith, nat_tests) in
    rw (c.split_at.ensures.front, c.split_at.ensures.back) (words_of-next line _ b c.word_len.result c.blank_len.ensures.count (take_rest line b) c.word_len.ensures.count some)
