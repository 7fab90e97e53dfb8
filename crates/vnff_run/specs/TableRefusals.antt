-- The words of refusals that files of tables and captures can meet, this project's own: why a table's text is bad, why
-- it can't be compiled for a device, and why bytes are no capture.
use Rattle.std.specs.Prelude.{ℕ, List, ◌++◌, codes, decimal}
use Rattle.ff_headers.specs.declared.kind.Kind.{Kind}
use Rattle.capture.specs.declared.error.CaptureErr.{CaptureErr}
use Rattle.capture.specs.declared.error.CaptureErr.TheVariants.{Truncated, Magic, Version, LinkType, TooLong}
use Rattle.vnff_run.specs.SelectLines.{kind_word}
use Rattle.vnff_run.specs.declared.table_refusal.TableLimit.{TableLimit}
use Rattle.vnff_run.specs.declared.table_refusal.TableLimit.TheVariants.{Rules, Classifiers, Levels, PerGroup}
use Rattle.vnff_run.specs.declared.table_refusal.TableReason.{TableReason}
use Rattle.vnff_run.specs.declared.table_refusal.TableReason.TheVariants as reasons

-- why a line of a table is bad
abbrev pub table_reason_word : TableReason → List ℕ
table_reason_word reasons.Word = codes "word"
table_reason_word reasons.NotInFlow = codes "not-in-flow"
table_reason_word reasons.Twice = codes "twice"
table_reason_word reasons.Octal = codes "octal"
table_reason_word reasons.Number = codes "number"
table_reason_word reasons.Address = codes "address"
table_reason_word reasons.Queue = codes "queue"
table_reason_word reasons.Loc = codes "loc"
table_reason_word reasons.NoSuchLoc = codes "no-such-loc"
table_reason_word reasons.NoAction = codes "no-action"
table_reason_word reasons.Full = codes "full"

-- where the part of a capture stands that is at fault: in the header the magic number at 0, the version at 4 and the
-- link type at 20, or a record
abbrev pub fault_offset : CaptureErr → ℕ
fault_offset (Truncated offset) = offset
fault_offset Magic = 0
fault_offset Version = 4
fault_offset LinkType = 20
fault_offset (TooLong offset) = offset

-- why bytes are no capture
abbrev pub capture_reason_word : CaptureErr → List ℕ
capture_reason_word (Truncated offset) = codes "truncated"
capture_reason_word Magic = codes "magic"
capture_reason_word Version = codes "version"
capture_reason_word LinkType = codes "linktype"
capture_reason_word (TooLong offset) = codes "toolong"

-- `capture@OFFSET REASON`
unfoldable pub capture_words : CaptureErr → List ℕ
capture_words fault = codes "capture@" ++ (decimal (fault_offset fault) ++ (codes " " ++ capture_reason_word fault))

-- `compile unsupported LOC KIND`
unfoldable pub unsupported_words : ℕ → Kind → List ℕ
unsupported_words loc kind = codes "compile unsupported " ++ (decimal loc ++ (codes " " ++ kind_word kind))

-- the limit of a device that a table is past
abbrev pub limit_word : TableLimit → List ℕ
limit_word Rules = codes "rules"
limit_word Classifiers = codes "classifiers"
limit_word Levels = codes "levels"
limit_word PerGroup = codes "per-group"

-- `compile LIMIT N`
unfoldable pub limit_words : TableLimit → ℕ → List ℕ
limit_words limit count = codes "compile " ++ (limit_word limit ++ (codes " " ++ decimal count))
