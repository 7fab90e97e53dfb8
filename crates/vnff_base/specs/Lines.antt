-- Lines and words, as scripts and tables share them. This project's own, over std's `lines`: a line feed ends a line,
-- the last line may lack it, and one carriage return before a line feed is dropped.
use Rattle.std.specs.Prelude.{◌≡◌, ℕ, ◌+◌, ◌<◌, ◌==◌, ◌||◌, Bool, true, false, All, if◌then◌else◌, List, [], ◌∷◌, length, slice_index, filter, not}
use Rattle.std.specs.List.{slice_split}
use Rattle.std.specs.Str.Lines.{lines, strip_carriage_return}

abbrev pub is_line_feed : ℕ → Bool
is_line_feed byte = byte == 10

-- a space or a tab
abbrev pub is_blank : ℕ → Bool
is_blank byte = (byte == 32) || (byte == 9)

abbrev pub is_nonempty : List ℕ → Bool
is_nonempty word = not (length word == 0)

-- the words of a line, which blanks separate
unfoldable pub words_of : List ℕ → List (List ℕ)
words_of line = filter is_nonempty (slice_split is_blank line)

-- a line is empty, but for blanks, or a comment: its first word begins with `#`
abbrev pub is_skipped : List (List ℕ) → Bool
is_skipped [] = true
is_skipped (word ∷ words) = slice_index word 0 == 35

-- a word as it can be written: it has a byte, and no blank
pub record IsWord (word : List ℕ) : Type 0 where
  pub some : 0 < length word
  pub whole : All (λ byte. is_blank byte ≡ false) word

-- a line as it can be written: it has no line feed, and no carriage return at its end
pub record IsLine (line : List ℕ) : Type 0 where
  pub whole : All (λ byte. is_line_feed byte ≡ false) line
  pub kept : strip_carriage_return line ≡ line

-- the words of a line, with the line's number; lines count from 1
pub record NumberedLine : Type 0 where
  pub number : ℕ
  pub words : List (List ℕ)

-- the lines that are not skipped, where the first line has the number `from`
abbrev pub numbered_from : ℕ → List (List ℕ) → List NumberedLine
numbered_from from [] = []
numbered_from from (line ∷ more) =
    let words = words_of line in
    if is_skipped words then numbered_from (from + 1) more
    else record { number = from; words = words } ∷ numbered_from (from + 1) more

-- the numbered lines of a text that are not skipped
abbrev pub word_lines : List ℕ → List NumberedLine
word_lines text = numbered_from 1 (lines text)

-- how many lines a text has
abbrev pub line_count : List ℕ → ℕ
line_count text = length (lines text)

-- what a reader of lines has left: the numbered lines that are not skipped, and the number at which a missing line
-- is reported, which is one above that of the last line
pub record UnreadLines : Type 0 where
  pub left : List NumberedLine
  pub missing : ℕ

-- a text whose first line has the number `from`, before any of it is read
abbrev pub unread_from : ℕ → List ℕ → UnreadLines
unread_from from text = record { left = numbered_from from (lines text); missing = from + line_count text }
