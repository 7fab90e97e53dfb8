-- Items that are read as they are asked for, and their lines, which are taken one after another.
use Rattle.std.proofs.Common.{◌≡◌, ℕ, zero, suc, ◌+◌, ◌<◌, ◌≤◌, List, [], ◌∷◌, ◌++◌, length, get_or, take, Result, Ok, Err, refl, sym, ap, ◌∙◌, subst, append_assoc, arith}
use Rattle.std.specs.List.{flat_map, range_with_len}
use Rattle.std.proofs.Math.ListN.{drop}
use Rattle.std.proofs.Math.Seq.{take-append_seam}
use Rattle.std.proofs.lemmas.Grind.{flat_map-append}
use Rattle.std.proofs.lemmas.List.{take_all, take-append-drop}
use Rattle.std.proofs.lemmas.List.FromFn.{length-range_with_len}
use Rattle.vnff_base.specs.Gatherings.{Lost, Took}
use Rattle.vnff_base.specs.Lines.{NumberedLine}
use Rattle.vnff_base.specs.Outputs.{OutputState, Stopped, Wrote, told_after}
use Rattle.vnff_base.proofs.Gathering.{lost_item, took_item, took_items, took_nothing, writes_gathered, writes_lost}
use Rattle.cap_table.specs.States.{DeviceState, start_state}
use Rattle.cap_table.specs.Steps.{state_after}
use Rattle.vnff_run.specs.Endings.{AppendedFront, RunStops, RunsAs, TakingStops, script_stop}
use Rattle.vnff_run.specs.Grammar.{at_line, items_of}
use Rattle.vnff_run.specs.ItemLines.{item_of}
use Rattle.vnff_run.specs.Outcomes.{done_outcome}
use Rattle.vnff_run.specs.Readings.{IsScriptFault}
use Rattle.vnff_run.specs.Replay.{item_line, line_at, lines_of, replay_text, state_after_items}
use Rattle.vnff_run.specs.UnreadScripts.{spelled_by}
use Rattle.vnff_run.specs.declared.error.ScriptFault.{ScriptFault}
use Rattle.vnff_run.specs.declared.error.ScriptFault.TheVariants as faults
use Rattle.vnff_run.specs.declared.script.Item.{Item}
use Rattle.vnff_run.specs.declared.script.Script.{Script}
use Rattle.vnff_run.specs.declared.stop.Stop.{Stop}
use Rattle.vnff_run.specs.declared.stop.Stop.TheVariants as stops
use Rattle.vnff_run.specs.declared.unread_script.UnreadScript.{UnreadScript}
use Rattle.vnff_run.proofs.GrammarLemmas.{items_of-step}
use Rattle.vnff_run.proofs.ItemBounds.{both_done}
use Rattle.vnff_run.proofs.ReplayLemmas.{line_is, place_is, place_within, state_is}

-- ---- what is left of all items

drop-found : (items : List Item) (i : ℕ) (item : Item) (more : List Item) → drop i items ≡ item ∷ more → (i < length items) × (item ≡ get_or items i item) × (drop (suc i) items ≡ more)
drop-found [] zero item more is = absurd (cc)
drop-found [] (suc i) item more is = absurd (cc)
drop-found (first ∷ items) zero item more is = (omega arith, cc, cc)
drop-found (first ∷ items) (suc i) item more is =
    let found = drop-found items i item more is in
    (omega (arith, found.0), found.1, found.2)

drop-none : (items : List Item) (i : ℕ) → drop i items ≡ [] → length items ≤ i
drop-none [] i is = omega arith
drop-none (item ∷ items) zero is = absurd (cc)
drop-none (item ∷ items) (suc i) is = omega (arith, drop-none items i is)

-- the items behind the next one
behind : (left lines : List NumberedLine) (line : NumberedLine) (item : Item) (all : List Item) (i : ℕ) → items_of left ≡ Ok (drop i all) → left ≡ line ∷ lines → at_line line.number (item_of line.words) ≡ Ok item → (i < length all) × (item ≡ get_or all i item) × (items_of lines ≡ Ok (drop (i + 1) all))
behind left lines line item all i rest cut is =
    let more = both_done (items_of lines) (λ items. Ok (item ∷ items)) (drop i all) (sym (items_of-step left lines line item cut is) ∙ rest) in
    let same : drop i all ≡ item ∷ more.0 = cc in
    let found = drop-found all i item more.0 same in
    let next : suc i ≡ i + 1 = omega arith in
    (found.0, found.1, more.1 ∙ ap Ok (sym found.2 ∙ ap (λ n. drop n all) next))

-- ---- items whose lines were taken

-- Of all items some are done: a device is in the state behind them, and their lines were taken. The others are left.
pub record HasTaken (start state : DeviceState) (old new : OutputState) (waited waits : List ℕ) (left : List NumberedLine) (all : List Item) : Type 0 where
  pub done : ℕ
  pub rest : items_of left ≡ Ok (drop done all)
  pub reached : state ≡ state_after_items start (take done all)
  pub took : Took old new waited waits (flat_map (line_at start all) (take done (range_with_len 0 (length all))))

pub none_taken : (start : DeviceState) (out : OutputState) (waiting : List ℕ) (left : List NumberedLine) (all : List Item) → items_of left ≡ Ok all → HasTaken start start out out waiting waiting left all
unfolding state_after
none_taken start out waiting left all is =
    record { done = 0; rest = is; reached = refl; took = took_nothing out waiting }

-- one more item is done
pub more_taken : {start state next : DeviceState} {a b c : OutputState} {p q r : List ℕ} {left lines : List NumberedLine} {all : List Item} (line : NumberedLine) (item : Item) → HasTaken start state a b p q left all → left ≡ line ∷ lines → at_line line.number (item_of line.words) ≡ Ok item → next ≡ state_after_items state (item ∷ []) → Took b c q r (item_line state item) → HasTaken start next a c p r lines all
more_taken {start = start} {state = state} {next = next} {b = b} {c = c} {q = q} {r = r} {left = left} {lines = lines} {all = all} line item taken cut is moved took =
    let i = taken.done in
    let found = behind left lines line item all i taken.rest cut is in
    let same = line_is start state all i item taken.reached found.0 found.1 in
    record {
      done = i + 1;
      rest = found.2;
      reached = state_is start state next all i item taken.reached found.0 found.1 moved;
      took = took_item (line_at start all) (range_with_len 0 (length all)) i i i (place_within _ i found.0) (place_is _ i found.0) taken.took (subst (Took b c q r) same took);
    }

-- the next item's line isn't taken
pub taking_stops : {start state : DeviceState} {a b c : OutputState} {p q : List ℕ} {left lines : List NumberedLine} {all : List Item} (line : NumberedLine) (item : Item) → HasTaken start state a b p q left all → left ≡ line ∷ lines → at_line line.number (item_of line.words) ≡ Ok item → Lost b c q (item_line state item) → Lost a c p (lines_of start all)
unfolding lines_of
taking_stops {start = start} {state = state} {b = b} {c = c} {q = q} {left = left} {lines = lines} {all = all} line item taken cut is lost =
    let i = taken.done in
    let found = behind left lines line item all i taken.rest cut is in
    let same = line_is start state all i item taken.reached found.0 found.1 in
    lost_item (line_at start all) (range_with_len 0 (length all)) i i i (place_within _ i found.0) (place_is _ i found.0) taken.took (subst (Lost b c q) same lost)

-- what was put is a front of all
front_of_all : {a b : OutputState} {p q xs : List ℕ} (ys : List ℕ) → Took a b p q xs → AppendedFront a b (p ++ (xs ++ ys))
front_of_all {a = a} {p = p} {q = q} {xs = xs} ys took =
    let f = took.front in
    let whole : f ++ (q ++ ys) ≡ p ++ (xs ++ ys) = sym (append_assoc f q ys) ∙ ap (λ t. t ++ ys) took.rest ∙ append_assoc p xs ys in
    (length f, took.wrote.told ∙ ap (told_after a.told) (sym (ap (take (length f)) (sym whole) ∙ take-append_seam f (q ++ ys))))

-- the next item isn't read: it has no fault, so memory ran out
pub reading_stops : {start state : DeviceState} {a b : OutputState} {p q : List ℕ} {left : List NumberedLine} {all : List Item} (fault : ScriptFault) → HasTaken start state a b p q left all → IsScriptFault (items_of left) fault → TakingStops a b p (lines_of start all) (script_stop fault)
unfolding lines_of
reading_stops (faults.Bad line reason) taken is =
    let none = sym is ∙ taken.rest in
    absurd (cc)
reading_stops {start = start} {a = a} {b = b} {p = p} {all = all} faults.Memory taken is =
    let text = line_at start all in
    let places = range_with_len 0 (length all) in
    let both : flat_map text (take taken.done places) ++ flat_map text (drop taken.done places) ≡ flat_map text places = sym (flat_map-append text (take taken.done places) (drop taken.done places)) ∙ ap (flat_map text) (take-append-drop taken.done places) in
    (taken.took.wrote.faults, subst (λ t. AppendedFront a b (p ++ t)) both (front_of_all (flat_map text (drop taken.done places)) taken.took))

-- none is left
pub all_taken : {start state : DeviceState} {a b : OutputState} {p q : List ℕ} {left : List NumberedLine} {all : List Item} → HasTaken start state a b p q left all → left ≡ [] → Took a b p q (lines_of start all) × (state ≡ state_after_items start all)
unfolding items_of lines_of
all_taken {start = start} {all = all} taken none =
    let rest : items_of [] ≡ Ok (drop taken.done all) = sym (ap items_of none) ∙ taken.rest in
    let end : drop taken.done all ≡ [] = cc in
    let few = drop-none all taken.done end in
    (took_items (line_at start all) (range_with_len 0 (length all)) taken.done (rw length-range_with_len few) taken.took, taken.reached ∙ ap (state_after_items start) (take_all taken.done all few))

-- where nothing waited at first, a run stops so
pub run_stops : (a b : OutputState) (p text : List ℕ) (stop : Stop) → p ≡ [] → TakingStops a b p text stop → RunStops a b (done_outcome text) stop
run_stops a b p text stops.WriteFault none why = writes_lost none why
run_stops a b p text stops.Memory none why = (why.0, subst (λ t. AppendedFront a b (t ++ text)) none why.1)
run_stops a b p text stops.ReadFault none why = absurd why
run_stops a b p text (stops.Refused refusal) none why = absurd why
run_stops a b p text stops.AlreadyRefused none why = absurd why
run_stops a b p text stops.SinkFault none why = absurd why

-- and then what waits is put, or that fails
pub run_ends : {a b : OutputState} {p q text : List ℕ} (c : OutputState) → p ≡ [] → Took a b p q text → Wrote b c q → Wrote a c text
run_ends c none took put = writes_gathered {A = Unit {0}} {E = Unit {0}} c (Ok tt) none took put

pub end_stops : {a b : OutputState} {p q text : List ℕ} (c : OutputState) → p ≡ [] → Took a b p q text → Stopped b c q → Stopped a c text
end_stops c none took put = writes_gathered {A = Unit {0}} {E = Unit {0}} c (Err tt) none took put

-- a replay of items is that of the script that has them
pub replayed : {A : Type 0} (a b : OutputState) (script : UnreadScript) (device : DeviceState) (result : Result A Stop) → device ≡ start_state script.caps script.start → ((all : List Item) → items_of script.items ≡ Ok all → RunsAs a b (done_outcome (lines_of device all)) result) → (whole : Script) → spelled_by script ≡ Ok whole → RunsAs a b (done_outcome (replay_text whole)) result
replayed a b script device result fresh ran whole is =
    let all = both_done (items_of script.items) _ whole is in
    let same : record { caps = script.caps; start = script.start; items = all.0 } ≡ whole = cc in
    subst (λ (s : Script). RunsAs a b (done_outcome (replay_text s)) result) same
    (subst (λ (d : DeviceState). RunsAs a b (done_outcome (lines_of d all.0)) result) fresh (ran all.0 all.1))
