-- A table that is read keeps the queue pairs that it is read for.
use Rattle.std.proofs.Common.{◌≡◌, ℕ, List, [], ◌∷◌, codes, is_some, Result, Ok, Err, IfOk, refl, ◌∙◌}
use Rattle.std.specs.Str.{bytes_eq}
use Rattle.std.proofs.lemmas.Result.{IfOk-weaker}
use Rattle.vnff_base.specs.Lines.{NumberedLine}
use Rattle.ntuple_text.specs.TableLines.{after_line, after_lines, after_delete, after_directive, if_last_word, rest_or_fault, after_removal, spec_of, table_of, without_command}
use Rattle.ntuple_text.specs.TableMaps.{TableMap, empty_table, spec_at, with_spec, without_spec}
use Rattle.ntuple_text.specs.Values.{location_value}
use Rattle.ntuple_text.specs.declared.error.Fault.{Fault}
use Rattle.ntuple_text.specs.declared.error.Fault.TheVariants.{NoSuchLoc}
use Rattle.ntuple_text.specs.declared.error.TextErr.{TextErr}
use Rattle.ntuple_text.proofs.StepLemmas.{ok-if, ok-next}

-- a table for so many queue pairs
abbrev pub IsFor : ℕ → TableMap → Type 0
IsFor pairs table = table.pairs ≡ pairs

-- the words of a line
if_last_word-pairs : (words : List (List ℕ)) (table : TableMap) → IfOk (if_last_word words table) (IsFor table.pairs)
if_last_word-pairs [] table = refl
if_last_word-pairs (word ∷ words) table = tt

after_removal-pairs : (table : TableMap) (words : List (List ℕ)) (loc : ℕ) → IfOk (after_removal table words loc) (IsFor table.pairs)
after_removal-pairs table words loc =
    ok-if (IsFor table.pairs) (is_some (spec_at table loc)) (if_last_word words (without_spec table loc)) (Err NoSuchLoc) (λ _. if_last_word-pairs words (without_spec table loc)) (λ _. tt)

after_delete-pairs : (table : TableMap) (words : List (List ℕ)) → IfOk (after_delete table words) (IsFor table.pairs)
unfolding after_delete
after_delete-pairs table [] = tt
after_delete-pairs table (word ∷ words) = ok-next (IsFor table.pairs) (after_removal table words) (location_value word) (after_removal-pairs table words)

after_directive-pairs : (table : TableMap) (words : List (List ℕ)) → IfOk (after_directive table words) (IsFor table.pairs)
unfolding after_directive
after_directive-pairs table [] = tt
after_directive-pairs table (word ∷ words) =
    let P : TableMap → Type 0 = IsFor table.pairs in
    ok-if P (bytes_eq word (codes "delete")) _ _ (λ _. after_delete-pairs table words) (λ _. ok-if P (bytes_eq word (codes "flow-type")) _ _ (λ _. ok-next P (λ spec. Ok (with_spec table spec)) (spec_of table words) (λ spec. refl)) (λ _. tt))

-- a line of a table for so many queue pairs
after_line-pairs : (pairs : ℕ) (table : TableMap) (words : List (List ℕ)) → IsFor pairs table → IfOk (after_line table words) (IsFor pairs)
unfolding after_line
after_line-pairs pairs table words h =
    IfOk-weaker (after_directive table (without_command words)) (IsFor table.pairs) (IsFor pairs) (λ next same. same ∙ h) (after_directive-pairs table (without_command words))

-- what follows a line
rest_or_fault-pairs : (P : TableMap → Type 0) (next : TableMap → Result TableMap TextErr) (line : ℕ) (read : Result TableMap Fault) → IfOk read P → ((table : TableMap) → P table → IfOk (next table) P) → IfOk (rest_or_fault next line read) P
rest_or_fault-pairs P next line (Ok table) h keep = keep table h
rest_or_fault-pairs P next line (Err fault) h keep = tt

-- all lines of a text
after_lines-pairs : (pairs : ℕ) (table : TableMap) (lines : List NumberedLine) → IsFor pairs table → IfOk (after_lines table lines) (IsFor pairs)
after_lines-pairs pairs table [] h = h
after_lines-pairs pairs table (line ∷ lines) h =
    rest_or_fault-pairs (IsFor pairs) (λ next. after_lines next lines) line.number (after_line table line.words) (after_line-pairs pairs table line.words h) (λ next kept. after_lines-pairs pairs next lines kept)

pub table_of-pairs : (pairs : ℕ) (lines : List NumberedLine) → IfOk (table_of pairs lines) (IsFor pairs)
unfolding table_of
table_of-pairs pairs lines = after_lines-pairs pairs (empty_table pairs) lines refl
