-- The lines of a table are taken one by one.
use Rattle.std.proofs.Common.{◌≡◌, ℕ, ◌+◌, ◌<◌, ◌≤◌, ◌^◌, List, ◌∷◌, All, length, Ok, ap, sym, ◌∙◌, arith}
use Rattle.std.specs.Str.Lines.{lines}
use Rattle.std.proofs.lemmas.List.Elements.{All-weaker, All-same, All-head, All-tail}
use Rattle.vnff_base.specs.Lines.{NumberedLine, UnreadLines, unread_from, word_lines}
use Rattle.vnff_base.proofs.TextLaws.{numbered_from-numbers, length-lines-le}
use Rattle.ntuple_text.specs.TableLines.{after_line, after_lines, rest_or_fault}
use Rattle.ntuple_text.specs.TableMaps.{TableMap}

-- the lines of a text of at most 64 MiB have numbers of 32 bits
pub numbers-small : (text : List ℕ) (unread : UnreadLines) → length text ≤ 67108864 → unread ≡ unread_from 1 text → All (λ line. line.number < 2 ^ 32) unread.left
numbers-small text unread short is =
    let P : NumberedLine → Type 0 = λ line. line.number < 2 ^ 32 in
    let bound = length-lines-le text in
    All-same P unread.left (word_lines text) (ap (λ u. u.left) is) (All-weaker (λ line. (1 ≤ line.number) × (line.number < 1 + length (lines text))) P (λ line inside. omega (arith, inside.1, bound, short)) (word_lines text) (numbered_from-numbers 1 (lines text)))

pub numbers-first : (left more : List NumberedLine) (line : NumberedLine) → left ≡ line ∷ more → All (λ line. line.number < 2 ^ 32) left → line.number < 2 ^ 32
numbers-first left more line cut all =
    let P : NumberedLine → Type 0 = λ line. line.number < 2 ^ 32 in
    All-head P line more (All-same P (line ∷ more) left (sym cut) all)

pub numbers-rest : (left more : List NumberedLine) (line : NumberedLine) → left ≡ line ∷ more → All (λ line. line.number < 2 ^ 32) left → All (λ line. line.number < 2 ^ 32) more
numbers-rest left more line cut all =
    let P : NumberedLine → Type 0 = λ line. line.number < 2 ^ 32 in
    All-tail P line more (All-same P (line ∷ more) left (sym cut) all)

-- a good line, and a bad one
pub lines-good : (table next : TableMap) (left more : List NumberedLine) (line : NumberedLine) → left ≡ line ∷ more → after_line table line.words ≡ Ok next → after_lines table left ≡ after_lines next more
lines-good table next left more line cut good =
    ap (after_lines table) cut ∙ ap (rest_or_fault (λ t. after_lines t more) line.number) good

pub ruleset read_steps = (numbers-small, numbers-first, numbers-rest, lines-good)
