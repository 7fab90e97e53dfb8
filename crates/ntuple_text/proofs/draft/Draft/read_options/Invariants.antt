-- What the words that are left give after the draft so far is what all words give.
use Rattle.std.proofs.Common.{◌≡◌, length}
use Rattle.vnff_base.specs.Lines.{words_of}
use Rattle.ntuple_text.specs.Drafts.{read_options}
use Rattle.ntuple_text.proofs.draft.Draft.read_options.Given as goal

abbrev pub invariant-loop-word : goal.invariant-loop-word
invariant-loop-word l = read_options l.pairs l.draft (words_of l.rest) ≡ read_options l.pairs l.fn.self (words_of l.line)

abbrev pub decreases-loop-word : goal.decreases-loop-word
decreases-loop-word l = length l.rest
